-- Wherever the object of a push may still be withheld the packets spell what they spelled before it was begun: along all runs.
use Rattle.std.proofs.Common.{◌≡◌, inl, inr, Bool, ℕ, List, [], ◌∷◌, ◌++◌, Option, Some, None, refl, sym, ap, subst, ◌∙◌, append-nil, append_assoc}
use Rattle.std.proofs.lemmas.List.Concat.{flat_map-append}
use Rattle.tape_laws.specs.bt_base.specs.declared.settings.Transport.TheVariants.{L2cap}
use Rattle.tape_laws.specs.bt_base.specs.Objects.{Object}
use Rattle.cause_laws.specs.acl_fragments.specs.Pieces.{Piece}
use Rattle.tape_laws.specs.obex_session.specs.InboxCalls.{Answer}
use Rattle.tape_laws.specs.push_script.specs.declared.scenario.Scenario.{Scenario}
use Rattle.tape_laws.specs.push_terms.specs.declared.word.Side.TheVariants as sides
use Rattle.tape_laws.specs.capture.specs.declared.flow.Flow.TheVariants.{Out, Into}
use Rattle.tape_laws.specs.capture.specs.Entries.{Entry, Moved, Acted, Begun, Ended}
use Rattle.tape_laws.specs.capture.specs.Histories.{EachAfter}
use Rattle.tape_laws.specs.capture.specs.Links.{link_up}
use Rattle.tape_laws.specs.capture.specs.Moves.{move_of}
use Rattle.tape_laws.specs.capture.proofs.HistoryLaws.{led_by-append}
use Rattle.tape_laws.specs.link_talk.specs.Captures.{objects_heard}
use Rattle.tape_laws.specs.link_talk.specs.declared.party.Party.{Party}
use Rattle.tape_laws.specs.host_laws.specs.talk_laws.specs.CapturePass.{HeldLink, held_links}
use Rattle.tape_laws.specs.host_laws.specs.talk_laws.specs.Captures.{hearing_pass, objects_up, objects_moved}
use Rattle.tape_laws.specs.host_laws.specs.talk_laws.specs.LinkPass.{LinkPass, no_pass}
use Rattle.tape_laws.specs.host_laws.specs.talk_laws.specs.Spelling.{Hearing}
use Rattle.tape_laws.specs.host_laws.specs.talk_laws.proofs.Captures.{captures-grow}
use Rattle.tape_laws.specs.push_model.specs.Client.{own_maximum}
use Rattle.tape_laws.specs.push_laws.specs.Gains.{objects}
use Rattle.tape_laws.specs.push_laws.specs.Premises.{NoneShort}
use Rattle.tape_laws.specs.world_model.specs.radio_model.specs.Controllers as controllers
use Rattle.tape_laws.specs.world_model.specs.radio_model.specs.Controllers.{Controller, answer_packet, piece_packet}
use Rattle.tape_laws.specs.world_model.specs.Stations.{order_packet}
use Rattle.tape_laws.specs.world_model.specs.Worlds.{Happening, Tries, Departure, GivingBack, Piecemeal, Answering, Turns, Misses, Opens, Closes, entries_of, all_entries, Does, Runs}
use Rattle.cause_laws.specs.FirstCauses.{IsNoBegin}
use Rattle.cause_laws.specs.turn_laws.proofs.Coming.{handed_piece}
use Rattle.tape_laws.specs.air_laws.proofs.Following.{runs_then}
use Rattle.tape_laws.specs.host_model.specs.Hosts.{Host}
use Rattle.tape_laws.specs.host_model.specs.Clients.{ClientProfile}
use Rattle.tape_laws.specs.host_laws.specs.shelf_model.specs.Held.{held_by}
use Rattle.tape_laws.specs.scenario_laws.specs.Gains.{holding}
use Rattle.tape_laws.specs.scenario_laws.specs.Parties.{party_of}
use Rattle.tape_laws.specs.Pairs.{TapedHosts}
use Rattle.tape_laws.specs.Runs.{untaped_world}
use Rattle.done_laws.specs.Storing.{ahead_of_push, before_begun}
use Rattle.done_laws.proofs.Growing.{one_more, none_more}
use Rattle.done_laws.proofs.Along.{along}
use Rattle.done_laws.proofs.Runs.{U, V, begins, bare_run, served_by, moment, own_moment}
use Rattle.done_laws.proofs.Since.{had_links}
use Rattle.unmarked_laws.specs.Unserved.{SpellsNoMore}
use Rattle.unmarked_laws.proofs.LastHere.{last_here}
use Rattle.unspelled_laws.specs.Withheld.{AtWithheld, OwnServersWithholdAll}
use Rattle.unspelled_laws.proofs.Possible.{MayWithhold, comes_to, may_gains_none}
use Rattle.unspelled_laws.proofs.Hearing.{IsWithin, does_back}
use Rattle.unspelled_laws.proofs.Alone.{lone_at}

-- ---- one entry more

begun_same : (past : List Entry) (entry : Entry) → IsNoBegin entry → before_begun (past ++ entry ∷ []) ≡ before_begun past
begun_same past (Begun push) none = absurd none
begun_same past (Moved by flow packet) none = led_by-append ahead_of_push [] [] past (Moved by flow packet ∷ [])
begun_same past (Acted ordinal word) none = led_by-append ahead_of_push [] [] past (Acted ordinal word ∷ [])
begun_same past (Ended push outcome) none = led_by-append ahead_of_push [] [] past (Ended push outcome ∷ [])

module _ (party : Party) where
  abbrev At : List Entry → Type 0
  At past = SpellsNoMore party past

  -- a packet that carries no piece brings no object
  event_none : (number : controllers.Answer) (up : Option (HeldLink (LinkPass Hearing))) → objects_up party (record { flow = Into; packet = answer_packet sides.B number }) up ≡ []
  event_none number None = refl
  event_none number (Some link) = refl

  -- nor does an entry of the other host
  spells_same : (past : List Entry) (entry : Entry) → objects_moved party (held_links (hearing_pass party) (no_pass Hearing) sides.B past) (move_of sides.B entry) ≡ [] → objects_heard party sides.B (past ++ entry ∷ []) ≡ objects_heard party sides.B past
  spells_same past entry none = captures-grow.objects party sides.B past entry ∙ (ap (λ (l : List Object). objects_heard party sides.B past ++ l) none ∙ append-nil (objects_heard party sides.B past))

  stays : (past : List Entry) (entry : Entry) → IsNoBegin entry → objects_heard party sides.B (past ++ entry ∷ []) ≡ objects_heard party sides.B past → At past → At (past ++ entry ∷ [])
  stays past entry none same at = same ∙ (at ∙ ap (objects_heard party sides.B) (sym (begun_same past entry none)))

  still : (past : List Entry) → At past → At (past ++ [])
  still past at = subst At (sym (append-nil past)) at

  -- as a push begins
  begun_at : (past : List Entry) (push : ℕ) → At (past ++ Begun push ∷ [])
  begun_at past push = spells_same past (Begun push) refl ∙ ap (objects_heard party sides.B) (sym (led_by-append ahead_of_push [] [] past (Begun push ∷ [])))

-- ---- a moment of a run

module _ (scenario : Scenario) (shelf before : List Object) (answers : List Answer) (direct : scenario.settings.transport ≡ L2cap) (enough : NoneShort answers) where
  abbrev RunsOn : List Happening → TapedHosts Bool → TapedHosts Bool → Type 0
  RunsOn = Runs (U scenario shelf before answers) (V scenario shelf before answers)

  abbrev DoesNext : Happening → TapedHosts Bool → TapedHosts Bool → Type 0
  DoesNext = Does (U scenario shelf before answers) (V scenario shelf before answers)

  abbrev first : TapedHosts Bool
  first = begins scenario shelf before answers

  abbrev So : List Entry → Type 0
  So past = SpellsNoMore (party_of scenario.settings sides.B) past

  abbrev party : Party
  party = party_of scenario.settings sides.B

  abbrev May : TapedHosts Bool → Type 0
  May world = MayWithhold world.a.upper.profile.client

  -- while the link of host b is up, and nothing is owed to either host
  level_so : (done : List Happening) (world : TapedHosts Bool) → RunsOn done first world → world.radio.a.owed ≡ [] → world.radio.b.owed ≡ [] → (link_up sides.B (all_entries done) ≡ None → ⊥) → May world → So (all_entries done)
  level_so done world runs none_a none_b linked may =
      let past = all_entries done in
      let client = world.a.upper.profile.client in
      elim (last_here scenario shelf before answers enough direct (λ c. Unit {0}) (λ list feeds first' last' so deaf d. tt) (λ circumstances event v p d. tt) done world runs none_a none_b tt) [
        | inl new ↦ absurd (linked new.0)
        | inr last ↦
            (let had = had_links scenario (holding before) done (untaped_world world) (bare_run scenario shelf before answers done world runs) none_a none_b in
            let none = may_gains_none (own_maximum L2cap scenario.settings) last.one last.offered (subst MayWithhold (sym (last.up_so linked)) may) in
            elim had.links [
              | inl few ↦ none_more party sides.B past had.down few
              | inr one ↦ one_more party sides.B past last.ahead last.last [] had.down one last.talks_are (last.spelled ∙ none) ∙ append-nil (objects_heard party sides.B (before_begun past))
            ])
      ]

  entries_then : (done : List Happening) (happening : Happening) → all_entries (done ++ happening ∷ []) ≡ all_entries done ++ entries_of happening
  entries_then done happening = flat_map-append entries_of done (happening ∷ []) ∙ ap (λ (l : List Entry). all_entries done ++ l) (append-nil (entries_of happening))

  then_runs : (done : List Happening) (happening : Happening) (old new : TapedHosts Bool) → RunsOn done first old → DoesNext happening old new → RunsOn (done ++ happening ∷ []) first new
  then_runs done happening old new runs does = runs_then (U scenario shelf before answers) (V scenario shelf before answers) done happening first old new runs does

  -- what happened to the server tells what is spelled
  spells_served : (done : List Happening) (world : TapedHosts Bool) → RunsOn done first world → objects scenario.settings (served_by scenario shelf before answers world) ≡ objects_heard (party_of scenario.settings sides.B) sides.B (all_entries done)
  spells_served done world runs = (moment scenario shelf before answers enough direct (all_entries done) done [] world runs tt (sym (append-nil (all_entries done)))).spells

  -- so where nothing happened to it as much is spelled as before
  unserved_same : (happening : Happening) (done : List Happening) (old new : TapedHosts Bool) → RunsOn done first old → DoesNext happening old new → served_by scenario shelf before answers new ≡ served_by scenario shelf before answers old
      → objects_heard (party_of scenario.settings sides.B) sides.B (all_entries done ++ entries_of happening) ≡ objects_heard (party_of scenario.settings sides.B) sides.B (all_entries done)
  unserved_same happening done old new runs does same =
      ap (objects_heard (party_of scenario.settings sides.B) sides.B) (sym (entries_then done happening))
      ∙ (sym (spells_served (done ++ happening ∷ []) new (then_runs done happening old new runs does)) ∙ (ap (objects scenario.settings) same ∙ spells_served done old runs))

  -- a piece comes into host b: as nothing is owed to either host
  hears_so : (handle : ℕ) (piece : Piece) (done : List Happening) (old new : TapedHosts Bool) → RunsOn done first old → DoesNext (Piecemeal sides.B handle piece) old new → May new → So (all_entries done ++ Moved sides.B Into (piece_packet handle piece) ∷ [])
  hears_so handle piece done old new runs (rest, comes, here, h, same) may =
      let happening = Piecemeal sides.B handle piece in
      let then = done ++ happening ∷ [] in
      let now = then_runs done happening old new runs (rest, comes, here, h, same) in
      let lone = lone_at scenario (holding before) done (untaped_world old) (bare_run scenario shelf before answers done old runs) in
      let behind = lone_at scenario (holding before) then (untaped_world new) (bare_run scenario shelf before answers then new now) in
      let (none_a, none_b, up) = lone.hears piece rest comes in
      let handed = handed_piece old.radio.b piece rest comes in
      subst So (entries_then done happening)
      (level_so then new now (ap (λ (w : TapedHosts Bool). w.radio.a.owed) same ∙ none_a) (ap (λ (w : TapedHosts Bool). w.radio.b.owed) same ∙ (ap (λ (c : Controller). c.owed) handed ∙ none_b))
      (behind.linked (ap (λ (w : TapedHosts Bool). w.radio.b.up) same ∙ (ap (λ (c : Controller). c.up) handed ∙ up))) may)

  one_next : (happening : Happening) (done : List Happening) (old new : TapedHosts Bool) → RunsOn done first old → DoesNext happening old new → (May old → So (all_entries done)) → May new → So (all_entries done ++ entries_of happening)
  one_next happening done old new runs does so may = by happening does
    where
      so_before : (one : Happening) → IsWithin one → DoesNext one old new → So (all_entries done)
      so_before one within did = so (does_back scenario.settings (held_by (Some shelf)) (V scenario shelf before answers) one old new within did may)

      by : (one : Happening) → DoesNext one old new → So (all_entries done ++ entries_of one)
      by (Tries side effort) did = still party (all_entries done) (so_before (Tries side effort) tt did)
      by (Departure sides.A order) did = let entry = Moved sides.A Out (order_packet sides.A order) in stays party (all_entries done) entry tt (spells_same party (all_entries done) entry refl) (so_before (Departure sides.A order) tt did)
      by (Departure sides.B order) (rest, out, same) =
          let did : DoesNext (Departure sides.B order) old new = (rest, out, same) in
          stays party (all_entries done) (Moved sides.B Out (order_packet sides.B order)) tt (unserved_same (Departure sides.B order) done old new runs did (ap (served_by scenario shelf before answers) same)) (so_before (Departure sides.B order) tt did)
      by (GivingBack side) did = still party (all_entries done) (so_before (GivingBack side) tt did)
      by (Piecemeal sides.A handle piece) did = let entry = Moved sides.A Into (piece_packet handle piece) in stays party (all_entries done) entry tt (spells_same party (all_entries done) entry refl) (so_before (Piecemeal sides.A handle piece) tt did)
      by (Piecemeal sides.B handle piece) did = hears_so handle piece done old new runs did may
      by (Answering sides.A answer) did = let entry = Moved sides.A Into (answer_packet sides.A answer) in stays party (all_entries done) entry tt (spells_same party (all_entries done) entry refl) (so_before (Answering sides.A answer) tt did)
      by (Answering sides.B answer) did =
          let entry = Moved sides.B Into (answer_packet sides.B answer) in
          stays party (all_entries done) entry tt (spells_same party (all_entries done) entry (event_none party answer _)) (so_before (Answering sides.B answer) tt did)
      by (Turns ordinal word) did = stays party (all_entries done) (Acted ordinal word) tt (spells_same party (all_entries done) (Acted ordinal word) refl) (so_before (Turns ordinal word) tt did)
      by (Misses word) did = still party (all_entries done) (so_before (Misses word) tt did)
      by (Opens push name) did = begun_at party (all_entries done) push
      by (Closes push outcome) did = stays party (all_entries done) (Ended push outcome) tt (spells_same party (all_entries done) (Ended push outcome) refl) (so_before (Closes push outcome) tt did)

  -- ---- all of them

  goes_on : (done rest : List Happening) (now last : TapedHosts Bool) → RunsOn done first now → RunsOn rest now last → (May now → So (all_entries done)) → May last → So (all_entries (done ++ rest))
  goes_on done [] now last runs same so may = subst (λ (hs : List Happening). So (all_entries hs)) (sym (append-nil done)) (so (subst May same may))
  goes_on done (happening ∷ rest) now last runs (mid, does, later) so may =
      subst (λ (hs : List Happening). So (all_entries hs)) (append_assoc done (happening ∷ []) rest)
      (goes_on (done ++ happening ∷ []) rest mid last (then_runs done happening now mid runs does) later (λ m. subst So (sym (entries_then done happening)) (one_next happening done now mid runs does so m)) may)

  moment_so : (done : List Happening) (world : TapedHosts Bool) → RunsOn done first world → May world → So (all_entries done)
  moment_so done world runs may = goes_on [] done first world refl runs (λ at_first. refl) may

  module _ (last : TapedHosts Bool) where
    one_moment : (happening : Happening) (done rest : List Happening) (old new : TapedHosts Bool) → RunsOn done first old → DoesNext happening old new → RunsOn rest new last → EachAfter (AtWithheld So) (all_entries done) (entries_of happening)
    one_moment (Tries side effort) done rest old new runs does later = tt
    one_moment (Departure side order) done rest old new runs does later = (tt, tt)
    one_moment (GivingBack side) done rest old new runs does later = tt
    one_moment (Piecemeal side handle piece) done rest old new runs does later = (tt, tt)
    one_moment (Answering side answer) done rest old new runs does later = (tt, tt)
    one_moment (Turns ordinal word) done rest old new runs does later = (tt, tt)
    one_moment (Misses word) done rest old new runs does later = tt
    one_moment (Opens push name) done rest old new runs does later = (tt, tt)
    one_moment (Closes push outcome) done rest old new runs (going, push_is, idle, is, apart, none_a, none_b, quiet_a, quiet_b, same) later =
        (λ withheld. moment_so done old runs (comes_to outcome old.a.upper.profile.client withheld is), tt)

    all_moments : (happenings : List Happening) → RunsOn happenings first last → EachAfter (AtWithheld So) [] (all_entries happenings)
    all_moments happenings runs = along scenario shelf before answers (AtWithheld So) last one_moment [] happenings first refl runs tt

pub own_servers_withhold_all : OwnServersWithholdAll
own_servers_withhold_all scenario shelf before answers capture own direct enough =
    let now = own_moment scenario shelf before answers capture own direct enough in
    let there = now.there in
    record {
      moments = all_moments scenario shelf before answers direct enough there own.happenings now.runs;
      now = λ outcome withheld cause.
          moment_so scenario shelf before answers direct enough own.happenings there now.runs (comes_to outcome there.a.upper.profile.client withheld (ap (λ (h : Host ClientProfile). h.profile.client.cause) now.alike.a ∙ cause));
    }
