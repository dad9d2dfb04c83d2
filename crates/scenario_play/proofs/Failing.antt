-- Each push that ends for a fault of the shelf uses up a fault of it.
use Rattle.std.proofs.Common.{◌≡◌, ℕ, ◌≤◌, ◌+◌, ◌-◌, Bool, true, false, ◌&&◌, List, [], ◌∷◌, ◌++◌, length, Option, Some, None, unwrap_or, Err, inl, inr, refl, sym, ap, subst, ◌∙◌, arith, if◌then◌else◌}
use Rattle.std.specs.Prelude.{zero, suc, replicate}
use Rattle.bt_base.specs.declared.ports.PortFault.TheVariants as fault
use Rattle.bt_base.specs.Objects.{Object, Contents}
use Rattle.bt_host.specs.acl_fragments.specs.Pieces.{Piece}
use Rattle.noting_laws.specs.obex_session.specs.Counting.{HasRisenBy}
use Rattle.noting_laws.specs.obex_session.proofs.CountingLaws.{rises_both}
use Rattle.push_script.specs.declared.scenario.Scenario.{Scenario}
use Rattle.push_terms.specs.declared.outcome.Outcome.{Outcome}
use Rattle.push_terms.specs.declared.outcome.Outcome.TheVariants.{ScriptEnded}
use Rattle.push_terms.specs.declared.word.Side.TheVariants.{A, B}
use Rattle.push_terms.specs.declared.word.Way.TheVariants.{Ab, Ba}
use Rattle.radio_world.specs.radio_model.specs.declared.deed.Deed.{Deed}
use Rattle.radio_world.specs.radio_model.specs.declared.deed.Deed.TheVariants.{Nothing, Meets, Fires, FiresBoth, Breaks, Cancels}
use Rattle.radio_world.specs.radio_model.specs.Radio.{found}
use Rattle.noting_laws.specs.world_model.specs.Machines.{News, LinkEvent, Linked, Heard, TimerFired, Cancelled, Opening, Upper}
use Rattle.noting_laws.specs.world_model.specs.Pushes.{Pushes, one_begun, one_ended}
use Rattle.noting_laws.specs.world_model.specs.Stations.{Station, Effort, Taking, Putting, Asking, Leaving, Commanding, MakesEffort, is_handle, longest_pdu, gives, holds, hears_each, hears_piece, event_in, upper_told, hears_answer, told}
use Rattle.noting_laws.specs.world_model.specs.Worlds.{World, Happening, Tries, Departure, GivingBack, Piecemeal, Answering, Turns, Misses, Opens, Closes, fired, Acts, one_turned, Does, Runs}
use Rattle.radio_world.specs.Hosts.{answering}
use Rattle.radio_world.specs.Scenes.{world_at, moment, Plays, moment_of}
use Rattle.radio_world.specs.Standing.{starting, first_moment, last_ended, all_outcomes}
use Rattle.radio_world.proofs.Advancing.{plays_then}
use Rattle.radio_world.proofs.Standing.{runs_of}
use Rattle.bt_host.specs.host_model.specs.Circumstances.{Circumstance, Size}
use Rattle.bt_host.specs.host_model.specs.Hosts.{most_steps, hears_news, ready, next}
use Rattle.bt_host.specs.host_model.specs.Settings.{SetHost}
use Rattle.bt_host.specs.host_model.proofs.Keeping.{drives_on, hears_on, goes_next}
use Rattle.bt_host.specs.host_model.proofs.Setting.{said_by}
use Rattle.bt_host.specs.NotedHosts.{noted_client_machine, noted_server_machine}
use Rattle.bt_host.specs.Pushing.{failures_in}
use Rattle.bt_host.specs.PushingLaws.{Answers, failures_join}
use Rattle.bt_host.specs.Shelving.{Shelved, is_shelf_fault, is_failed, owed, shelf_profile}
use Rattle.bt_host.specs.Uppers.{IsAside}
use Rattle.noting_laws.specs.inbox_laws.specs.Owned.{own_machine}
use Rattle.scenario_play.specs.Failing.{shelf_faults}
use Rattle.scenario_play.specs.Playing.{fresh_world}
use Rattle.scenario_play.proofs.Bare.{shelf_machine}
use Rattle.scenario_play.proofs.Course.{Hosts, at_moment, client_at, server_at, Through}
use Rattle.scenario_play.proofs.Newness.{new_client, new_server, beginning, hosts_begin}
use Rattle.scenario_play.proofs.Plainness.{shelf_world, unnoted_runs}
use Rattle.scenario_play.proofs.Shelves.{cost, PaysSo, keeps_paying, told_pays, opens_pays}

-- ---- lists of outcomes

more_by : (test : Bool) (a b c : ℕ) → a ≡ b + c → (if test then a + 1 else a) ≡ (if test then b + 1 else b) + c
more_by true a b c is = omega (arith, is)
more_by false a b c is = is

faults_more : (outcomes : List Outcome) (outcome : Outcome) → shelf_faults (outcomes ++ outcome ∷ []) ≡ shelf_faults outcomes + owed (is_shelf_fault outcome)
faults_more [] outcome = by (is_shelf_fault outcome)
  where
    by : (test : Bool) → (if test then 0 + 1 else 0) ≡ 0 + owed test
    by true = refl
    by false = refl
faults_more (one ∷ outcomes) outcome = more_by (is_shelf_fault one) (shelf_faults (outcomes ++ outcome ∷ [])) (shelf_faults outcomes) (owed (is_shelf_fault outcome)) (faults_more outcomes outcome)

-- pushes that the script ended add none
faults_behind : (outcomes : List Outcome) (count : ℕ) → shelf_faults (outcomes ++ replicate count ScriptEnded) ≡ shelf_faults outcomes
faults_behind [] zero = refl
faults_behind [] (suc count) = faults_behind [] count
faults_behind (one ∷ outcomes) count = ap (λ (n : ℕ). if is_shelf_fault one then n + 1 else n) (faults_behind outcomes count)

last_fault : (came : Option Outcome) → is_shelf_fault (unwrap_or came ScriptEnded) ≡ is_failed came
last_fault None = refl
last_fault (Some outcome) = refl

-- with the end of the push that goes on
faults_at_end : (came : Option Outcome) (pushes : Pushes) → shelf_faults (all_outcomes (last_ended came pushes)) ≡ shelf_faults pushes.outcomes + owed (pushes.going && is_failed came)
faults_at_end came pushes = by pushes.going
  where
    by : (going : Bool) → shelf_faults (all_outcomes (if going then one_ended (unwrap_or came ScriptEnded) pushes else pushes)) ≡ shelf_faults pushes.outcomes + owed (going && is_failed came)
    by true = faults_behind (pushes.outcomes ++ unwrap_or came ScriptEnded ∷ []) (length pushes.names - length (pushes.outcomes ++ unwrap_or came ScriptEnded ∷ [])) ∙ (faults_more pushes.outcomes (unwrap_or came ScriptEnded) ∙ ap (λ (b : Bool). shelf_faults pushes.outcomes + owed b) (last_fault came))
    by false = let none = faults_behind pushes.outcomes (length pushes.names - length pushes.outcomes) in omega (arith, none)

-- ---- a client

abbrev Above : Type 0
Above = SetHost Shelved

abbrev PaysFrom : Above → Above → Type 0
PaysFrom s t = PaysSo s.host.profile.faults (cost s.host.profile + s.host.profile.faults) t.host.profile

pays_none : (s : Above) → PaysFrom s s
pays_none s left = record { some = left; fewer = omega arith; paid = omega arith }

pays_then : (r s t : Above) → PaysFrom r s → PaysFrom s t → PaysFrom r t
pays_then r s t one two left = let behind = two left in let before = one behind.some in record { some = before.some; fewer = omega (arith, before.fewer, behind.fewer); paid = omega (arith, before.paid, behind.paid) }

hear_pays : (gifts : List Circumstance) (news : News) (s : Above) → IsAside news → PaysFrom s (shelf_machine.hear gifts news s)
hear_pays gifts news s aside =
    let least = s.host.profile.faults in
    let limit = cost s.host.profile + s.host.profile.faults in
    hears_on (shelf_profile s.settings) (PaysSo least limit) (keeps_paying s.settings least limit) gifts news s.host (told_pays s.settings least limit news aside) (pays_none s)

next_pays : (s : Above) (pdu : List ℕ) (after : Above) → shelf_machine.next s ≡ Some (pdu, after) → PaysFrom s after
next_pays s pdu after is =
    let least = s.host.profile.faults in
    let limit = cost s.host.profile + s.host.profile.faults in
    let (host, said, same) = said_by s.settings (next (shelf_profile s.settings) s.host) pdu after is in
    subst (PaysFrom s) (sym same) (goes_next (shelf_profile s.settings) (PaysSo least limit) (keeps_paying s.settings least limit) s.host pdu host said (pays_none s))

-- a push begins
begin_pays : (gifts : List Circumstance) (name : List ℕ) (s : Above) → PaysSo s.host.profile.faults s.host.profile.faults (shelf_machine.hear gifts (Opening name) s).host.profile
begin_pays gifts name s =
    let A = shelf_profile s.settings in
    let count = s.host.profile.faults in
    drives_on A (PaysSo count count) (keeps_paying s.settings count count) most_steps (hears_news A gifts (Opening name) (ready A gifts s.host)) (opens_pays name gifts (A.given gifts s.host.profile))

-- ---- a world

module _ {T H : Type 0} (V : Upper T H) where
  abbrev U : Upper Above Circumstance
  U = shelf_machine

  abbrev W : Type 0
  W = World Above T

  abbrev left : W → ℕ
  left w = w.a.upper.host.profile.faults

  abbrev due : W → ℕ
  due w = owed (w.pushes.going && is_failed w.a.upper.host.profile.pushing.client.cause)

  -- what is still to come, and what came, are no more than they were
  abbrev Goes : W → W → Type 0
  Goes old new = 1 ≤ left new → (1 ≤ left old) × ((shelf_faults new.pushes.outcomes + due new) + left new ≤ (shelf_faults old.pushes.outcomes + due old) + left old)

  still : (w : W) → Goes w w
  still w some = (some, omega arith)

  goes_to : (old new to : W) → new ≡ to → Goes old to → Goes old new
  goes_to old new to same goes = subst (λ (w : W). Goes old w) (sym same) goes

  goes_then : (one two three : W) → Goes one two → Goes two three → Goes one three
  goes_then one two three first second some =
      let behind = second some in let before = first behind.0 in (before.0, omega (arith, before.1, behind.1))

  -- its client went on, and no push began or ended
  by_client : (w : W) (t : Above) (going : Bool) → PaysFrom w.a.upper t → 1 ≤ t.host.profile.faults
      → (1 ≤ left w) × ((shelf_faults w.pushes.outcomes + owed (going && is_failed t.host.profile.pushing.client.cause)) + t.host.profile.faults ≤ (shelf_faults w.pushes.outcomes + owed (going && is_failed w.a.upper.host.profile.pushing.client.cause)) + left w)
  by_client w t true pays some = let so = pays some in (so.some, omega (arith, so.paid))
  by_client w t false pays some = let so = pays some in (so.some, omega (arith, so.fewer))

  -- ---- what a host does and hears

  effort_pays : (effort : Effort) (one two : Station Above) → MakesEffort U A effort one two → PaysFrom one.upper two.upper
  effort_pays Taking one two makes = subst (λ (s : Station Above). PaysFrom one.upper s.upper) (sym makes.new_is) (next_pays one.upper makes.pdu makes.after makes.next)
  effort_pays Putting one two makes = subst (λ (s : Station Above). PaysFrom one.upper s.upper) (sym makes.new_is) (pays_none one.upper)
  effort_pays Asking one two makes = subst (λ (s : Station Above). PaysFrom one.upper s.upper) (sym makes.new_is) (pays_none one.upper)
  effort_pays Leaving one two makes = subst (λ (s : Station Above). PaysFrom one.upper s.upper) (sym makes.new_is) (pays_none one.upper)
  effort_pays Commanding one two makes = subst (λ (s : Station Above). PaysFrom one.upper s.upper) (sym makes.new_is) (pays_none one.upper)

  each_pays : (g : List Circumstance) (pdus : List (List ℕ)) (s : Above) → PaysFrom s (hears_each U g pdus s)
  each_pays g [] s = pays_none s
  each_pays g (pdu ∷ pdus) s = let mid = U.hear g (Heard pdu) s in pays_then s mid (hears_each U g pdus mid) (hear_pays g (Heard pdu) s tt) (each_pays g pdus mid)

  piece_pays : (g : List Circumstance) (handle : ℕ) (piece : Piece) (s : Station Above) → PaysFrom s.upper (hears_piece U g handle piece s).upper
  piece_pays g handle piece s = by (is_handle handle s.link)
    where
      by : (here : Bool) → PaysFrom s.upper (if here then (let heard : Station Above = record s { upper = hears_each U g (gives longest_pdu s.joining piece) s.upper; joining = holds longest_pdu s.joining piece } in heard) else s).upper
      by true = each_pays g (gives longest_pdu s.joining piece) s.upper
      by false = pays_none s.upper

  told_event : (g : List Circumstance) (event : Option LinkEvent) (s : Above) → PaysFrom s (upper_told U g event s)
  told_event g None s = pays_none s
  told_event g (Some event) s = hear_pays g (Linked event) s tt

  fired_pays : (g : List Circumstance) (s : Station Above) → PaysFrom s.upper (fired U g s).upper
  fired_pays g s = by (U.armed s.upper)
    where
      by : (armed : Bool) → PaysFrom s.upper (if armed then told U g TimerFired s else s).upper
      by true = hear_pays g TimerFired s.upper tt
      by false = pays_none s.upper

  -- host a came to be this
  station_goes : (w : W) (s : Station Above) → PaysFrom w.a.upper s.upper → Goes w (record w { a = s })
  station_goes w s pays some = by_client w s.upper w.pushes.going pays some

  acts_goes : (deed : Deed) (old mid : W) → Acts U V deed old mid → Goes old mid
  acts_goes Nothing old mid acts = absurd acts
  acts_goes (Meets Ab fate) old mid acts = goes_to old mid _ acts (still old)
  acts_goes (Meets Ba fate) old mid acts = goes_to old mid _ acts (still old)
  acts_goes (Fires A) old mid (armed, g, same) = goes_to old mid _ same (station_goes old (told U g TimerFired old.a) (hear_pays g TimerFired old.a.upper tt))
  acts_goes (Fires B) old mid (armed, h, same) = goes_to old mid _ same (still old)
  acts_goes FiresBoth old mid (armed, g, h, same) = goes_to old mid _ same (station_goes old (fired U g old.a) (fired_pays g old.a))
  acts_goes Breaks old mid acts = goes_to old mid _ acts (still old)
  acts_goes Cancels old mid (may, g, same) = goes_to old mid _ same (station_goes old (told U g Cancelled old.a) (hear_pays g Cancelled old.a.upper tt))

  -- ---- pushes begin and end

  opens_goes : (g : List Circumstance) (name : List ℕ) (w : W) → Goes w (record w { pushes = one_begun w.pushes; a = told U g (Opening name) w.a })
  opens_goes g name w some = let so = begin_pays g name w.a.upper some in (so.some, omega (arith, so.paid))

  closes_goes : (outcome : Outcome) (w : W) → w.pushes.going ≡ true → w.a.upper.host.profile.pushing.client.cause ≡ Some outcome → Goes w (record w { pushes = one_ended outcome w.pushes })
  closes_goes outcome w going is some =
      let more = faults_more w.pushes.outcomes outcome in
      let owes : due w ≡ owed (is_shelf_fault outcome) = ap (λ (b : Bool). owed (b && is_failed w.a.upper.host.profile.pushing.client.cause)) going ∙ ap (λ (c : Option Outcome). owed (is_failed c)) is in
      (some, omega (arith, more, owes))

  does_goes : (happening : Happening) (old new : W) → Does U V happening old new → Goes old new
  does_goes (Tries A effort) old new (station, makes, same) = goes_to old new (record old { a = station }) same (station_goes old station (effort_pays effort old.a station makes))
  does_goes (Tries B effort) old new (station, makes, same) = goes_to old new (record old { b = station }) same (still old)
  does_goes (Departure A order) old new (rest, first, same) = goes_to old new _ same (still old)
  does_goes (Departure B order) old new (rest, first, same) = goes_to old new _ same (still old)
  does_goes (GivingBack side) old new same = goes_to old new _ same (still old)
  does_goes (Piecemeal A handle piece) old new (rest, first, here, g, same) = goes_to old new _ same (station_goes old (hears_piece U g handle piece old.a) (piece_pays g handle piece old.a))
  does_goes (Piecemeal B handle piece) old new (rest, first, here, h, same) = goes_to old new _ same (still old)
  does_goes (Answering A answer) old new (rest, none, first, g, same) = goes_to old new _ same (station_goes old (hears_answer U g A answer old.a) (told_event g (event_in answer old.a) old.a.upper))
  does_goes (Answering B answer) old new (rest, none, first, h, same) = goes_to old new _ same (still old)
  does_goes (Turns ordinal word) old new (rest, is_word, ordinal_is, mid, acts, same) = goes_to old new (one_turned mid) same (acts_goes (found word old.radio) old mid acts)
  does_goes (Misses word) old new (rest, nothing, same) = goes_to old new _ same (still old)
  does_goes (Opens push name) old new (idle, next, push_is, g, same) = goes_to old new _ same (opens_goes g name old)
  does_goes (Closes push outcome) old new (going, push_is, idle, is, apart, none_a, none_b, quiet_a, quiet_b, same) = goes_to old new _ same (closes_goes outcome old going is)

  pub runs_pay : (happenings : List Happening) (old new : W) → Runs U V happenings old new → Goes old new
  runs_pay [] old new same = goes_to old new old same (still old)
  runs_pay (happening ∷ happenings) old new (mid, does, runs) = goes_then old mid new (does_goes happening old mid does) (runs_pay happenings mid new runs)

-- ---- a scenario that was played

rises_less : (m n a b : ℕ) → m ≤ n → HasRisenBy n a b → HasRisenBy m a b
rises_less m n a b few (inl rose) = inl (omega (arith, few, rose))
rises_less m n a b few (inr most) = inr most

-- a fault that is left behind all that was used
abbrev sentinel : List Circumstance
sentinel = Size (Err fault.Failed) ∷ []

module _ {P Q : Type 0} (holds : P → Option (List Object)) (shelf_fails shelf_lacks : P → ℕ) (content : Q → Option Contents) (faults shortages : Q → ℕ) (scenario : Scenario) where
  abbrev Answering_a : P → List Circumstance → P → Type 0
  Answering_a first used last = Answers holds shelf_fails shelf_lacks first used last

  pub shelf_counted : (first end : Hosts) (shelf shelf' : P) (inbox inbox' : Q) (trace trace' : Option (List ℕ)) (outcomes : List Outcome) → first ≡ fresh_world scenario
      → Through holds content Answering_a faults shortages scenario first end shelf shelf' inbox inbox' trace trace' → outcomes ≡ end.scene.pushes.outcomes → HasRisenBy (shelf_faults outcomes) (shelf_fails shelf) (shelf_fails shelf')
  shelf_counted first end shelf shelf' inbox inbox' trace trace' outcomes fresh through same =
      let one = through.starts in
      let two = through.turns in
      let rest_a = two.used_a ++ sentinel in
      let rest_b = two.used_b ++ [] in
      let for_a = one.used_a ++ rest_a in
      let for_b = one.used_b ++ rest_b in
      let new = first_moment (starting (new_client holds shelf scenario.settings for_a) noted_client_machine) (starting (new_server content inbox scenario.settings for_b) noted_server_machine) scenario.acl_length scenario.acl_count scenario.names in
      let here = at_moment holds content Answering_a faults shortages scenario first shelf inbox for_a for_b in
      let settled = moment through.last (answering sentinel (client_at holds content Answering_a faults shortages scenario end shelf')) (answering [] (server_at holds content Answering_a faults shortages scenario end inbox')) in
      let begun : Plays noted_client_machine noted_server_machine beginning new here =
      subst (λ (w : Hosts). Plays noted_client_machine noted_server_machine beginning new (at_moment holds content Answering_a faults shortages scenario w shelf inbox for_a for_b)) (sym fresh) (hosts_begin holds content scenario shelf inbox for_a for_b) in
      let both : Plays noted_client_machine noted_server_machine (one.happenings ++ two.happenings) here settled =
      plays_then noted_client_machine noted_server_machine one.happenings two.happenings here (moment_of through.mid rest_a rest_b) settled (one.plays rest_a rest_b) (two.plays sentinel []) in
      let all = beginning ++ (one.happenings ++ two.happenings) in
      let plays = plays_then noted_client_machine noted_server_machine beginning (one.happenings ++ two.happenings) new here settled begun both in
      let runs = unnoted_runs all (world_at new) (world_at settled) (runs_of noted_client_machine noted_server_machine all new settled plays) in
      let paid = (runs_pay own_machine all (shelf_world (world_at new)) (shelf_world (world_at settled)) runs (omega arith)).1 in
      let ends = faults_at_end (noted_client_machine.outcome ((client_at holds content Answering_a faults shortages scenario end shelf').upper [])) through.last.pushes in
      let whole : shelf_faults outcomes ≡ shelf_faults end.scene.pushes.outcomes = ap shelf_faults same in
      let last = ap shelf_faults through.outcomes_are in
      let join = failures_join one.used_a rest_a in
      let join_two = failures_join two.used_a sentinel in
      rises_less (shelf_faults outcomes) (failures_in one.used_a + failures_in two.used_a) (shelf_fails shelf) (shelf_fails shelf') (omega (arith, paid, ends, whole, last, join, join_two))
      (rises_both (failures_in one.used_a) (failures_in two.used_a) (shelf_fails shelf) (shelf_fails through.mid.shelf) (shelf_fails shelf') two.answered_a.faults_stay one.answered_a.few two.answered_a.few)
