-- The channels of both hosts on each link of a run are the two ends of a pair.
use Rattle.std.proofs.Common.{◌≡◌, ◌≤◌, ◌+◌, arith, ℕ, Bool, true, false, Option, Some, None, Ok, Err, List, [], ◌∷◌, ◌++◌, map, length, refl, sym, ap, subst, ◌∙◌, append-nil}
use Rattle.std.specs.Prelude.{IfSome}
use Rattle.std.specs.List.{AllByRecursion, flat_map}
use Rattle.std.proofs.lemmas.Bool.{cases_eq}
use Rattle.scenario_laws.specs.bt_base.specs.Objects.{Object, Contents}
use Rattle.scenario_laws.specs.bt_base.specs.declared.ports.PortFault.TheVariants as faults
use Rattle.scenario_laws.specs.obex_session.specs.InboxCalls.{Answer}
use Rattle.scenario_laws.specs.push_script.specs.declared.scenario.Scenario.{Scenario}
use Rattle.scenario_laws.specs.push_terms.specs.declared.word.Side.{Side}
use Rattle.scenario_laws.specs.push_terms.specs.declared.word.Side.TheVariants as sides
use Rattle.scenario_laws.specs.capture.specs.Entries.{Entry}
use Rattle.scenario_laws.specs.capture.specs.Histories.{EachAfter}
use Rattle.scenario_laws.specs.capture.specs.Links.{linking}
use Rattle.scenario_laws.specs.capture.specs.Moves.{moves}
use Rattle.channel_laws.specs.channel_model.specs.Policies.{Policy, policy}
use Rattle.channel_laws.specs.channel_model.specs.Value.{no_channels}
use Rattle.channel_laws.specs.Adverse.{disturbances, AreRoomy}
use Rattle.recovered_laws.specs.Calm.{AreSettled}
use Rattle.channel_laws.specs.Belonging.{AreRead}
use Rattle.channel_laws.specs.Ends.{DoesSo, end_at, AreFair}
use Rattle.channel_laws.specs.Frames.{AreUttered}
use Rattle.channel_laws.specs.Ordered.{same_side, AtEnd, KeepsWay, IsBroken, IsOrdered}
use Rattle.channel_laws.specs.Pairs as Pairs
use Rattle.channel_laws.specs.Pairs.{End, Happening, Acts, Puts, Takes, Repeats, Loses, Damages, Near, Far, Turn, pair_of}
use Rattle.channel_laws.specs.Pipes.{IsTakeable, IsCarried, AreCarried}
use Rattle.channel_laws.specs.Runs.{Occurrence, Comes, Connects, AsksFeatures, Disconnects, Sends, Gives, Fires, Tells, run_of}
use Rattle.scenario_laws.specs.world_model.specs.Carriages as carriages
use Rattle.scenario_laws.specs.world_model.specs.PerLink.{linkage, captured}
use Rattle.scenario_laws.specs.world_model.specs.Worlds.{Happening as Done, Runs, IsAtRest, all_entries, all_words}
use Rattle.scenario_laws.specs.host_model.specs.Hosts.{Host}
use Rattle.scenario_laws.specs.host_model.specs.Profiles.{Profile}
use Rattle.host_laws.specs.push_laws.specs.Premises.{AllGranted, NoneShort}
use Rattle.scenario_laws.specs.host_model.specs.Circumstances.{Circumstance, Size, Part, Stored, size_in, answers_in}
use Rattle.scenario_laws.specs.host_model.specs.Clients.{ClientProfile, client_profile}
use Rattle.scenario_laws.specs.host_model.specs.Servers.{ServerProfile, server_profile}
use Rattle.scenario_laws.specs.host_model.specs.Machines.{upper}
use Rattle.host_laws.specs.Calls.{Asks, HostsAsk}
use Rattle.host_laws.specs.Feeds.{Feed, Gifts, Learns, Receives, Happens, Sent, Steps}
use Rattle.host_laws.specs.Gifts.{gifts_in, gifts_of}
use Rattle.host_laws.specs.Keeping.{GivesNothingUp, SendsAsItLends}
use Rattle.host_laws.specs.Lives.{Span, on_links}
use Rattle.host_laws.specs.OverLinks.{talk_marks}
use Rattle.host_laws.specs.Seen.{IsCalm}
use Rattle.host_laws.proofs.Fitting.{AnyServer, IsLowClient}
use Rattle.host_laws.proofs.OverLinks.{all_spans, calmly_fed}
use Rattle.host_laws.proofs.Uttering.{calm-utters}
use Rattle.host_laws.specs.ShelfAnswers.{TellsSizeOf, AnswersOf}
use Rattle.scenario_laws.specs.Captures.{client_of, server_of, beginning, Ran}
use Rattle.scenario_laws.specs.Coming.{CameOver}
use Rattle.scenario_laws.proofs.Acting.{ActedSo}
use Rattle.scenario_laws.proofs.Both.{AreReady}
use Rattle.scenario_laws.proofs.Coming.{ended_all, came_over}
use Rattle.scenario_laws.proofs.Free.{free_where, rests_hold}
use Rattle.scenario_laws.proofs.Freeing.{runs_are_free}
use Rattle.scenario_laws.proofs.Fronts.{fits}
use Rattle.scenario_laws.proofs.Gentle.{client-keeps, server-keeps}
use Rattle.scenario_laws.proofs.UnlinkedClients.{HasNoLink, clients_keep}
use Rattle.scenario_laws.proofs.UnlinkedServers.{KnowsNone, servers_keep}
use Rattle.scenario_laws.specs.turn_laws.proofs.Ordering.{at}
use Rattle.scenario_laws.specs.turn_laws.proofs.Recounting.{HoldsAtRests}
use Rattle.scenario_laws.specs.world_model.specs.Machines.{LinkEvent, News, Linked, Failed, Heard, TimerFired, Cancelled, Opening, Upper}
use Rattle.host_laws.specs.shelf_model.specs.Held.{given_by, length_of, held_by}
use Rattle.host_laws.specs.shelf_model.proofs.Sizes.{shelves-give_what_they_hold, sizes-are_of_objects}
use Rattle.pair_laws.specs.Granted.{answered_by, granted, GrantedTakeTurns}
use Rattle.pair_laws.specs.Heard.{IsHeardSo, HearsSo, HostsHearFirst}
use Rattle.pair_laws.specs.InTurn.{PairsInTurn, HostsTakeTurns}
use Rattle.pair_laws.specs.Enough.{with_memory, remembered, EnoughKeepOrder}
use Rattle.pair_laws.specs.GrantedOrder.{GrantedKeepOrder}
use Rattle.pair_laws.specs.Keeping.{LosesNothing, PairsKeepOrder, RunsKeepOrder}
use Rattle.pair_laws.specs.Changes.{AreChanged, IsSeenThere, DamageIsSeen}
use Rattle.pair_laws.specs.Costs.{adverse_in, DisturbancesCostWords}
use Rattle.passing_laws.specs.Words.{AreSilent}
use Rattle.pair_laws.specs.OnWords.{AreWorded, LinksTakeWords}
use Rattle.pair_laws.specs.OnLinks.{LivedOver, happened_on, last_number, IsInAir, HostsArePairs}
use Rattle.pair_laws.specs.Pairs.{TakesAll, PairOnLink}
use Rattle.pair_laws.specs.Served.{HeldTakeTurns, ServedTakeTurns}
use Rattle.pair_laws.specs.ServedOrder.{HeldKeepOrder, ServedKeepOrder}
use Rattle.pair_laws.specs.Seen.{IsAddressedAt, AreAddressed}
use Rattle.pair_laws.specs.Waits.{NoneEverWaits}
use Rattle.pair_laws.proofs.Abreast.{IsShort}
use Rattle.pair_laws.proofs.Answered.{runs-so, rest-so, rest-back, fits-so, rests-so as carriage_rest}
use Rattle.pair_laws.proofs.Awaiting.{HasNew, servers-await}
use Rattle.pair_laws.proofs.Carrying.{Wants, Always, StayOn, as_it_is, any_allowed, same_number, waits_none, rests-silent, all-sane}
use Rattle.pair_laws.proofs.Paired.{PairsOf}
use Rattle.pair_laws.proofs.Given.{IsSilentNews, IsSilent, Allows, all_both}
use Rattle.pair_laws.proofs.Facing.{IsKept, AllKept, Goes, AllGo, AllTake, IsComing, PairAt}
use Rattle.pair_laws.proofs.Hosting.{marks_of, talk_of, HostAt}
use Rattle.pair_laws.proofs.Meeting.{gentle_doings}
use Rattle.pair_laws.proofs.Numbered.{part_at, part-get, coming_none}
use Rattle.pair_laws.proofs.Opened.{all-opened}
use Rattle.pair_laws.proofs.Staying.{ClientStays, ServerStays, rests-stay, client-gives_nothing_up, server-gives_nothing_up, heard-on_links}
use Rattle.pair_laws.proofs.Wording.{carried_worded}

-- ---- what is so of each turn

each_map : {X : Type 0} (F G : List X → X → Type 0) (past xs : List X) → ((front : List X) (x : X) → F front x → G front x) → EachAfter F past xs → EachAfter G past xs
each_map F G past [] to all = tt
each_map F G past (x ∷ xs) to all = (to past x all.0, each_map F G (past ++ x ∷ []) xs to all.1)

each_zip : {X : Type 0} (F G H : List X → X → Type 0) (past xs : List X) → ((front : List X) (x : X) → F front x → G front x → H front x) → EachAfter F past xs → EachAfter G past xs → EachAfter H past xs
each_zip F G H past [] to one other = tt
each_zip F G H past (x ∷ xs) to one other = (to past x one.0 other.0, each_zip F G H (past ++ x ∷ []) xs to one.1 other.1)

is_carried : (happening : Happening) (end' : End) → DoesSo IsTakeable happening end' → IsAddressedAt happening end' → IsSeenThere happening end' → IsCarried happening end'
is_carried (Acts occurrence) end' takes addressed seen = takes
is_carried (Puts pdu) end' takes addressed seen = addressed
is_carried Takes end' takes addressed seen = tt
is_carried Repeats end' takes addressed seen = tt
is_carried Loses end' takes addressed seen = tt
is_carried (Damages pdu) end' takes addressed seen = seen

pub all_fair : (near far : Policy) (turns : List Turn) → AllGo near far turns → AreFair near far turns
all_fair near far turns all = each_map _ _ [] turns (λ past turn (goes : Goes turn.happening (end_at turn.side (pair_of near far past))). goes.fair) all

pub all_read : (near far : Policy) (turns : List Turn) → AllGo near far turns → AreRead near far turns
all_read near far turns all = each_map _ _ [] turns (λ past turn (goes : Goes turn.happening (end_at turn.side (pair_of near far past))). goes.read) all

pub all_changed : (near far : Policy) (turns : List Turn) → AllGo near far turns → AreChanged near far turns
all_changed near far turns all = each_map _ _ [] turns (λ past turn (goes : Goes turn.happening (end_at turn.side (pair_of near far past))). goes.changed) all

pub all_roomy : (near far : Policy) (turns : List Turn) → AllGo near far turns → AreRoomy near far turns
all_roomy near far turns all = each_map _ _ [] turns (λ past turn (goes : Goes turn.happening (end_at turn.side (pair_of near far past))). goes.roomy) all

pub all_addressed : (near far : Policy) (turns : List Turn) → AllGo near far turns → AreAddressed near far turns
all_addressed near far turns all = each_map _ _ [] turns (λ past turn (goes : Goes turn.happening (end_at turn.side (pair_of near far past))). goes.addressed) all

pub all_carried : (near far : Policy) (turns : List Turn) → AllGo near far turns → AllTake near far turns → DamageIsSeen near far turns → AreCarried near far turns
all_carried near far turns all takes seen =
    let there = λ (past : List Turn) (turn : Turn). end_at turn.side (pair_of near far past) in
    each_zip (λ past turn. DoesSo IsTakeable turn.happening (there past turn)) (λ past turn. Goes turn.happening (there past turn) × IsSeenThere turn.happening (there past turn)) (λ past turn. IsCarried turn.happening (there past turn)) [] turns
    (λ past turn takes both. is_carried turn.happening (there past turn) takes both.0.addressed both.1) takes
    (each_zip (λ past turn. Goes turn.happening (there past turn)) (λ past turn. IsSeenThere turn.happening (there past turn)) (λ past turn. Goes turn.happening (there past turn) × IsSeenThere turn.happening (there past turn)) [] turns (λ past turn goes sees. (goes, sees)) all seen)

-- of lists that are these
abbrev pub pair_of_two : (whole : Bool) (most : ℕ) (near far : Policy) (one other one' other' : List Occurrence) (c r c' r' : List (List ℕ)) → one ≡ one' → other ≡ other' → PairAt whole most near far one other c r c' r' → PairOnLink near far one' other'
pair_of_two whole most near far one other one' other' c r c' r' same far_same p = record {
  turns = p.turns;
  near_is = p.near_is ∙ ap (run_of near) same;
  far_is = p.far_is ∙ ap (run_of far) far_same;
  near_list = p.near_list ∙ same;
  far_list = p.far_list ∙ far_same;
  fair = all_fair near far p.turns p.goes;
  read = all_read near far p.turns p.goes;
  changes = all_changed near far p.turns p.goes;
  addressed = all_addressed near far p.turns p.goes;
  carried = λ mine theirs seen. all_carried near far p.turns p.goes (p.takes (subst (TakesAll near) (sym same) mine) (subst (TakesAll far) (sym far_same) theirs)) seen;
}

-- ---- a host

pub all_utter : (policy : Policy) (lists : List (List Occurrence)) → AllByRecursion (IsCalm policy no_channels) lists → AllByRecursion (AreUttered policy) lists
all_utter policy [] calm = tt
all_utter policy (list ∷ lists) calm = (calm-utters policy list calm.0, all_utter policy lists calm.1)

unfoldable pub lived : {P : Type 0} {H : List Occurrence → Type 0} (A : Profile P) (asks : Asks A) (W : P → Type 0) (G : Feed → Type 0) (side : Side) (capture : List Entry) (e : carriages.End (Host P)) (host : HostAt A asks W G H e) (came : CameOver A side capture e.upper) → came.talk ≡ talk_of e → LivedOver A asks side capture e.upper
unfolding calmly_fed
lived A asks W G side capture e host came talk_is = record {
  came = came;
  fed = calmly_fed A asks came.talk e.upper came.over host.marks host.so (host.marks_are ∙ ap marks_of (sym talk_is));
  uttered = all_utter A.policy (map (λ (span : Span). span.list) host.so.lives.spans ++ host.so.lives.now ∷ []) (all_spans A.policy host.so.lives.spans host.so.lives.now host.so.spans_calm host.so.now_calm);
}

pub lived_at : {P : Type 0} {H : List Occurrence → Type 0} (A : Profile P) (asks : Asks A) (W : P → Type 0) (G : Feed → Type 0) (side : Side) (capture : List Entry) (e : carriages.End (Host P)) (host : HostAt A asks W G H e) (came : CameOver A side capture e.upper) (talk_is : came.talk ≡ talk_of e) (number : ℕ)
    → part_at number host.so.lives.spans host.so.lives.now ≡ happened_on A asks side capture e.upper (lived A asks W G side capture e host came talk_is) number
unfolding lived calmly_fed
lived_at A asks W G side capture e host came talk_is number = part-get number host.so.lives.spans host.so.lives.now

-- by what it was told and said
unfoldable pub came_by : {P : Type 0} (A : Profile P) (side : Side) (past capture : List Entry) (e : carriages.End (Host P)) → ActedSo (upper A) (free_where A) e.linked e.upper e.waiting e.talk → linkage e.talk ≡ captured side past → linking (moves side capture) ≡ linking (moves side past) → CameOver A side capture e.upper
unfolding came_over
came_by A side past capture e acted known same = (came_over A (free_where A) side past capture e.linked e.upper e.waiting e.talk acted known same).came

pub came_talk : {P : Type 0} (A : Profile P) (side : Side) (past capture : List Entry) (e : carriages.End (Host P)) (acted : ActedSo (upper A) (free_where A) e.linked e.upper e.waiting e.talk) (known : linkage e.talk ≡ captured side past) (same : linking (moves side capture) ≡ linking (moves side past))
    → (came_by A side past capture e acted known same).talk ≡ talk_of e
unfolding came_by came_over
came_talk A side past capture e acted known same = refl

-- ---- both

-- where nothing is owed to them and nothing is handed over, all that is under way is in the air
pub in_air : {P Q : Type 0} {H J : List Occurrence → Type 0} (whole : Bool) (most : ℕ) (A : Profile P) (asks_a : Asks A) (B : Profile Q) (asks_b : Asks B) (to_a : News → List Circumstance → List Circumstance) (E : Feed → Type 0) (allows_a : Allows to_a E) (to_b : News → List Circumstance → List Circumstance) (G : Feed → Type 0) (allows_b : Allows to_b G) (e : carriages.End (Host P)) (f : carriages.End (Host Q)) (both : PairsOf whole most A asks_a B asks_b to_a E allows_a to_b G allows_b H J e f) → e.owed ≡ [] → f.owed ≡ [] → e.coming ≡ [] → f.coming ≡ [] → e.waiting ≡ [] → f.waiting ≡ []
    → IsInAir A.policy B.policy (both.links (length both.a.so.lives.spans)).pair.turns f.queue e.queue
in_air {H = H} {J = J} whole most A asks_a B asks_b to_a E allows_a to_b G allows_b e f both none_a none_b idle_a idle_b quiet_a quiet_b =
    let i = length both.a.so.lives.spans in
    let j = length both.b.so.lives.spans in
    let link = both.links i in
    let pair = pair_of A.policy B.policy link.pair.turns in
    record {
      near_is = subst (λ (c : List (List ℕ)). IsComing whole link.pair.near_due pair.near c link.rest) (coming_none i i e.coming (cases_eq i i) idle_a) link.pair.near_comes
          ∙ (link.now_far (same_number whole most A asks_a B asks_b to_a E allows_a to_b G allows_b H J e f both none_a none_b) none_b ∙ (ap (λ (w : List (List ℕ)). f.queue ++ w) quiet_b ∙ append-nil f.queue));
      far_is = subst (λ (c : List (List ℕ)). IsComing whole link.pair.far_due pair.far c link.far_rest) (coming_none i j f.coming (cases_eq i j) idle_b) link.pair.far_comes
          ∙ (link.now_put refl none_a ∙ (ap (λ (w : List (List ℕ)). e.queue ++ w) quiet_a ∙ append-nil e.queue));
    }

pub short_length : (owed : List LinkEvent) → IsShort owed → length owed ≤ 1
short_length [] short = omega arith
short_length (event ∷ []) short = omega arith
short_length (event ∷ other ∷ more) short = absurd short

pub not_ahead : (near far owed other number : ℕ) → near + owed ≡ number → far + other ≡ number → owed ≤ 1 → far ≤ near + 1
not_ahead near far owed other number one two short = omega (arith, one, two, short)

-- Both hosts of a run are pairs in turn, where their ports answer so; and all that they had of them is so. Where the words of the run lose,
-- repeat and damage nothing, all comes in whole.
module _ (whole : Bool) (asks : HostsAsk) (scenario : Scenario) (content : Option Contents) (to_a : News → List Circumstance → List Circumstance) (E : Feed → Type 0) (allows_a : Allows to_a E) (to_b : News → List Circumstance → List Circumstance) (G : Feed → Type 0) (allows_b : Allows to_b G) where
  abbrev A : Profile ClientProfile
  A = client_profile scenario.settings

  abbrev B : Profile ServerProfile
  B = server_profile scenario.settings content

  abbrev asks_a : Asks A
  asks_a = asks.clients scenario.settings

  abbrev asks_b : Asks B
  asks_b = asks.servers scenario.settings content

  abbrev U : Upper (Host ClientProfile) Circumstance
  U = answered_by to_a (client_of scenario)

  abbrev V : Upper (Host ServerProfile) Circumstance
  V = answered_by to_b (server_of scenario content)

  abbrev Ready : carriages.Carriage (Host ClientProfile) (Host ServerProfile) → Type 0
  Ready c = AreReady (client_of scenario) (server_of scenario content) (free_where A) (free_where B) c × StayOn ClientStays ServerStays c

  -- what is so of what happened on a link where something comes in: for the server, if it asks for nothing but that its responses be sent
  abbrev GaveNothing_a : List Occurrence → Type 0
  GaveNothing_a list = GivesNothingUp (policy scenario.settings false) list

  abbrev GaveNothing_b : List Occurrence → Type 0
  GaveNothing_b list = SendsAsItLends scenario.settings content asks_b → GivesNothingUp (policy scenario.settings true) list

  record TurnsSo (capture : List Entry) (ran : Ran scenario content capture) : Type 0 where
    turns : PairsInTurn asks scenario content capture ran
    told : AllByRecursion E turns.pairs.a.fed.so.lives.feeds
    given : AllByRecursion G turns.pairs.b.fed.so.lives.feeds
    kept : (number : ℕ) → AllKept whole (turns.pairs.pairs number).turns
    cost : (number : ℕ) → disturbances (Pairs.new_pair A.policy B.policy) (turns.pairs.pairs number).turns ≤ adverse_in (all_words ran.happenings)
    room : (number : ℕ) → AreRoomy A.policy B.policy (turns.pairs.pairs number).turns
    settled : (number : ℕ) → AreSettled A.policy B.policy (turns.pairs.pairs number).turns
    none_waits : (number : ℕ) → NoneEverWaits A.policy B.policy (turns.pairs.pairs number).turns
    worded : (number : ℕ) → AreWorded A.policy B.policy (turns.pairs.pairs number).turns
    rest : IsAtRest (client_of scenario) (server_of scenario content) ran.world → AreSilent (pair_of A.policy B.policy (turns.pairs.pairs (last_number A asks_a sides.A capture ran.world.a.upper turns.pairs.a)).turns)
    heard_a : AllByRecursion (HearsSo GaveNothing_a) (on_links A asks_a (flat_map talk_marks turns.pairs.a.came.talk) ran.world.a.upper turns.pairs.a.fed.so.lives)
    heard_b : AllByRecursion (HearsSo GaveNothing_b) (on_links B asks_b (flat_map talk_marks turns.pairs.b.came.talk) ran.world.b.upper turns.pairs.b.fed.so.lives)

  rests_so : (happenings : List Done) → HoldsAtRests U V Ready happenings (beginning scenario content)
  rests_so happenings front mid talk_a talk_b is there rest =
      let came = runs-so (client_of scenario) (server_of scenario content) to_a to_b front (beginning scenario content) mid there in
      let rests = rest-so (client_of scenario) (server_of scenario content) to_a to_b mid rest in
      (rests_hold scenario content happenings (runs_are_free scenario content happenings) front mid talk_a talk_b is came rests, rests-stay scenario content happenings front mid talk_a talk_b is came rests)

  takes_turns : (capture : List Entry) (ran : Ran scenario content capture) → Runs U V ran.happenings (beginning scenario content) ran.world → (whole ≡ true → LosesNothing (all_words ran.happenings)) → TurnsSo capture ran
  unfolding lived calmly_fed
  takes_turns capture ran happened gentle =
      let past = all_entries ran.happenings in
      let worded = carried_worded U V Ready scenario.acl_length scenario.acl_count scenario.names ran.happenings ran.world (fits-so (client_of scenario) (server_of scenario content) to_a to_b scenario.acl_length (fits scenario content)) happened (rests_so ran.happenings) in
      let all = worded.carried in
      let c = at ran.world all.talk_a all.talk_b in
      let most = adverse_in (carriages.all_words all.doings) in
      let most_is : most ≡ adverse_in (all_words ran.happenings) = ap adverse_in worded.words_are in
      let sane = all-sane whole A asks_a B asks_b IsLowClient HasNoLink AnyServer KnowsNone (client-keeps scenario.settings) (server-keeps scenario.settings content) (clients_keep scenario.settings) (servers_keep scenario.settings content)
      HasNew (servers-await scenario.settings content (client_of scenario)) (λ gifts p. refl) to_a E allows_a to_b G allows_b GaveNothing_a GaveNothing_b ClientStays ServerStays
      (λ e host on stays. client-gives_nothing_up scenario.settings asks_a (Wants A) E GaveNothing_a e host stays)
      (λ f host on stays sends. server-gives_nothing_up scenario.settings content asks_b Always G GaveNothing_b f host sends stays) scenario.acl_length scenario.names all.doings c all.of_script (gentle_doings whole all.doings (λ on. subst LosesNothing (sym worded.words_are) (gentle on))) all.so in
      let opened = all-opened U V scenario.names scenario.acl_length Ready all.doings c all.so in
      let same : (side : Side) → linking (moves side capture) ≡ linking (moves side past) = λ side. ap (λ (es : List Entry). linking (moves side es)) ran.capture_is ∙ ended_all side ran.world.pushes past ran.ends ran.last in
      let came_a = came_by A sides.A past capture c.a sane.acted.a.acted all.links_a (same sides.A) in
      let came_b = came_by B sides.B past capture c.b sane.acted.b.acted all.links_b (same sides.B) in
      let talk_a = came_talk A sides.A past capture c.a sane.acted.a.acted all.links_a (same sides.A) in
      let talk_b = came_talk B sides.B past capture c.b sane.acted.b.acted all.links_b (same sides.B) in
      let resting : IsAtRest (client_of scenario) (server_of scenario content) ran.world → carriages.IsAtRest (client_of scenario) (server_of scenario content) c = λ rests. carriage_rest (client_of scenario) (server_of scenario content) to_a to_b c (all.rests (rest-back (client_of scenario) (server_of scenario content) to_a to_b ran.world rests)) in
      record {
        turns = record {
          pairs = record {
            a = lived A asks_a (Wants A) E sides.A capture c.a sane.pairs.a came_a talk_a;
            b = lived B asks_b Always G sides.B capture c.b sane.pairs.b came_b talk_b;
            pairs = λ number.
                let a = sane.pairs.a.so.lives in
                let b = sane.pairs.b.so.lives in
                pair_of_two whole most A.policy B.policy (part_at number a.spans a.now) (part_at number b.spans b.now) _ _ _ _ _ _ (lived_at A asks_a (Wants A) E sides.A capture c.a sane.pairs.a came_a talk_a number) (lived_at B asks_b Always G sides.B capture c.b sane.pairs.b came_b talk_b number)
                (sane.pairs.links number).pair;
            level = λ rests. let rest = resting rests in sym (same_number whole most A asks_a B asks_b to_a E allows_a to_b G allows_b GaveNothing_a GaveNothing_b c.a c.b sane.pairs rest.idle_a.none_owed rest.idle_b.none_owed);
            air = λ rests.
                let rest = resting rests in
                in_air whole most A asks_a B asks_b to_a E allows_a to_b G allows_b c.a c.b sane.pairs rest.idle_a.none_owed rest.idle_b.none_owed rest.idle_a.none_comes rest.idle_b.none_comes
                (waits_none A asks_a IsLowClient HasNoLink (client-keeps scenario.settings) (clients_keep scenario.settings) c.link c.a (record { sound = sane.both.a; acted = sane.acted.a; tame = sane.tame.a }) rest.idle_a)
                (waits_none B asks_b AnyServer KnowsNone (server-keeps scenario.settings content) (servers_keep scenario.settings content) c.link c.b (record { sound = sane.both.b; acted = sane.acted.b; tame = sane.tame.b }) rest.idle_b);
          };
          asked = sane.pairs.a.asked;
          ahead = not_ahead (length sane.pairs.a.so.lives.spans) (length sane.pairs.b.so.lives.spans) (length c.a.owed) (length c.b.owed) sane.pairs.number sane.pairs.level_a sane.pairs.level_b (short_length c.a.owed sane.abreast.short);
          named = (opened.later, opened.names_are ∙ ap (λ (names : List (List ℕ)). names ++ opened.later) (sym sane.pairs.a.named));
        };
        told = sane.pairs.a.given;
        given = sane.pairs.b.given;
        kept = λ number. (sane.pairs.links number).pair.kept;
        cost = λ number. let spent = (sane.pairs.links number).pair.spent in omega (arith, spent, most_is);
        room = λ number. let pair = (sane.pairs.links number).pair in all_roomy A.policy B.policy pair.turns pair.goes;
        settled = λ number. (sane.pairs.links number).pair.settled;
        none_waits = λ number. (sane.pairs.links number).pair.none_waits;
        worded = λ number. (sane.pairs.links number).pair.worded;
        rest = λ rests.
            rests-silent whole A asks_a B asks_b IsLowClient HasNoLink AnyServer KnowsNone (client-keeps scenario.settings) (server-keeps scenario.settings content) (clients_keep scenario.settings) (servers_keep scenario.settings content)
            HasNew (servers-await scenario.settings content (client_of scenario)) (λ gifts p. refl) to_a E allows_a to_b G allows_b GaveNothing_a GaveNothing_b ClientStays ServerStays
            (λ e host on stays. client-gives_nothing_up scenario.settings asks_a (Wants A) E GaveNothing_a e host stays)
            (λ f host on stays sends. server-gives_nothing_up scenario.settings content asks_b Always G GaveNothing_b f host sends stays)
            most c (resting rests) (rests_so ran.happenings ran.happenings ran.world all.talk_a all.talk_b ([], sym (append-nil ran.happenings)) happened (rest-back (client_of scenario) (server_of scenario content) to_a to_b ran.world rests)) sane;
        heard_a = let lives = sane.pairs.a.so.lives in heard-on_links GaveNothing_a lives.spans lives.now sane.pairs.a.heard;
        heard_b = let lives = sane.pairs.b.so.lives in heard-on_links GaveNothing_b lives.spans lives.now sane.pairs.b.heard;
      }

pub hosts-take_turns : HostsTakeTurns
hosts-take_turns asks scenario content capture ran = (takes_turns false asks scenario content as_it_is Always any_allowed as_it_is Always any_allowed capture ran ran.happened (λ on. cc)).turns

-- ---- the inbox answers so

-- of all that a server goes through, what it is given of its inbox is so
abbrev AreGiven : (List Answer → Type 0) → Feed → Type 0
AreGiven Are feed = AllByRecursion (λ (gift : List Circumstance). Are (answers_in gift)) (gifts_in feed)

silent_given : (Are : List Answer → Type 0) (feed : Feed) → IsSilent feed → AreGiven Are feed
silent_given Are (Gifts circumstances) silent = absurd silent
silent_given Are (Learns circumstances news) silent = tt
silent_given Are (Receives own psm sdu) silent = tt
silent_given Are (Happens event v) silent = tt
silent_given Are (Sent v) silent = tt
silent_given Are (Steps v) silent = tt

all_given : (Are : List Answer → Type 0) (feeds : List Feed) → AllByRecursion (AreGiven Are) feeds → AllByRecursion (λ (gift : List Circumstance). Are (answers_in gift)) (gifts_of feeds)
all_given Are [] all = tt
all_given Are (feed ∷ feeds) all = all_both (λ (gift : List Circumstance). Are (answers_in gift)) (gifts_in feed) (gifts_of feeds) all.0 (all_given Are feeds all.1)

-- ---- it grants all

abbrev grants : News → List Circumstance → List Circumstance
grants news answers = map granted answers

abbrev AreGrants : Feed → Type 0
AreGrants = AreGiven AllGranted

granted_all : (gifts : List Circumstance) → AllGranted (answers_in (map granted gifts))
granted_all [] = tt
granted_all (Size answer ∷ gifts) = granted_all gifts
granted_all (Part answer ∷ gifts) = granted_all gifts
granted_all (Stored answer ∷ gifts) = (refl, granted_all gifts)

grants_allowed : Allows grants AreGrants
grants_allowed = record { silent = silent_given AllGranted; given = λ news answers. (granted_all answers, tt); told = λ news answers. tt }

-- ---- it does not lack memory

abbrev remembers : News → List Circumstance → List Circumstance
remembers news answers = map remembered answers

abbrev AreEnough : Feed → Type 0
AreEnough = AreGiven NoneShort

not_short : (answer : Answer) → with_memory answer ≡ Err faults.NoMemory → ⊥
not_short (Ok done) is = cc
not_short (Err faults.Failed) is = cc
not_short (Err faults.NoMemory) is = cc

none_short : (gifts : List Circumstance) → NoneShort (answers_in (map remembered gifts))
none_short [] = tt
none_short (Size answer ∷ gifts) = none_short gifts
none_short (Part answer ∷ gifts) = none_short gifts
none_short (Stored answer ∷ gifts) = (not_short answer, none_short gifts)

enough_allowed : Allows remembers AreEnough
enough_allowed = record { silent = silent_given NoneShort; given = λ news answers. (none_short answers, tt); told = λ news answers. tt }

pub granted-take_turns : GrantedTakeTurns
granted-take_turns asks scenario content capture ran happened =
    let so = takes_turns false asks scenario content as_it_is Always any_allowed grants AreGrants grants_allowed capture ran happened (λ on. cc) in
    record { turns = so.turns; given = all_given AllGranted so.turns.pairs.b.fed.so.lives.feeds so.given }

-- ---- the shelf answers with octets of its objects, and tells how long they are

tells_object : (shelf : Option (List Object)) (name : List ℕ) (answers : List Circumstance) (size : ℕ) → size_in (held_by shelf (Opening name) answers) ≡ Ok size → IfSome shelf (λ objects. length_of name objects ≡ Some size)
tells_object None name answers size is = tt
tells_object (Some objects) name answers size is = sizes-are_of_objects objects name (map (given_by (Some objects)) answers) size is

tells_of : (shelf : Option (List Object)) (news : News) (answers : List Circumstance) → TellsSizeOf shelf (held_by shelf news answers) news
tells_of shelf (Linked event) answers = tt
tells_of shelf (Failed status) answers = tt
tells_of shelf (Heard pdu) answers = tt
tells_of shelf TimerFired answers = tt
tells_of shelf Cancelled answers = tt
tells_of shelf (Opening name) answers = λ size is. (shelves-give_what_they_hold.sizes shelf (Opening name) answers size is, tells_object shelf name answers size is)

silent_news : (shelf : Option (List Object)) (circumstances : List Circumstance) (news : News) → IsSilentNews news → TellsSizeOf shelf circumstances news
silent_news shelf circumstances (Linked event) silent = tt
silent_news shelf circumstances (Failed status) silent = tt
silent_news shelf circumstances (Heard pdu) silent = tt
silent_news shelf circumstances TimerFired silent = tt
silent_news shelf circumstances Cancelled silent = tt
silent_news shelf circumstances (Opening name) silent = absurd silent

silent_answers : (shelf : Option (List Object)) (feed : Feed) → IsSilent feed → AnswersOf shelf feed
silent_answers shelf (Gifts circumstances) silent = absurd silent
silent_answers shelf (Learns circumstances news) silent = silent_news shelf circumstances news silent
silent_answers shelf (Receives own psm sdu) silent = tt
silent_answers shelf (Happens event v) silent = tt
silent_answers shelf (Sent v) silent = tt
silent_answers shelf (Steps v) silent = tt

pub answers_allowed : (shelf : Option (List Object)) → Allows (held_by shelf) (AnswersOf shelf)
answers_allowed shelf = record { silent = silent_answers shelf; given = shelves-give_what_they_hold.parts shelf; told = tells_of shelf }

pub held-take_turns : HeldTakeTurns
held-take_turns asks scenario shelf content capture ran happened =
    let so = takes_turns false asks scenario content (held_by shelf) (AnswersOf shelf) (answers_allowed shelf) as_it_is Always any_allowed capture ran happened (λ on. cc) in
    record { turns = so.turns; told = so.told }

pub served-take_turns : ServedTakeTurns
served-take_turns asks scenario shelf content capture ran happened =
    let so = takes_turns false asks scenario content (held_by shelf) (AnswersOf shelf) (answers_allowed shelf) grants AreGrants grants_allowed capture ran happened (λ on. cc) in
    record { turns = so.turns; told = so.told; given = all_given AllGranted so.turns.pairs.b.fed.so.lives.feeds so.given }

pub links-take_words : LinksTakeWords
links-take_words asks scenario content capture ran =
    let so = takes_turns false asks scenario content as_it_is Always any_allowed as_it_is Always any_allowed capture ran ran.happened (λ on. cc) in
    record { cost = record { turns = so.turns; cost = so.cost; room = so.room; settled = so.settled; none_waits = so.none_waits }; worded = so.worded; rest = so.rest }

pub disturbances-cost_words : DisturbancesCostWords
disturbances-cost_words asks scenario content capture ran = (links-take_words asks scenario content capture ran).cost

pub hosts-are_pairs : HostsArePairs
hosts-are_pairs asks scenario content capture ran = (hosts-take_turns asks scenario content capture ran).pairs

-- ---- behind what it gave up a host hears nothing

each_hears : (H J : List Occurrence → Type 0) → ((list : List Occurrence) → H list → J list) → (past list : List Occurrence) → EachAfter (IsHeardSo H) past list → EachAfter (IsHeardSo J) past list
each_hears H J to past list hears = each_map (IsHeardSo H) (IsHeardSo J) past list (λ front one. by front one) hears
  where
    by : (front : List Occurrence) (one : Occurrence) → IsHeardSo H front one → IsHeardSo J front one
    by front (Comes pdu) is = to front is
    by front (Connects psm) is = tt
    by front AsksFeatures is = tt
    by front (Disconnects own) is = tt
    by front (Sends own sdu) is = tt
    by front (Gives pdu) is = tt
    by front Fires is = tt
    by front Tells is = tt

all_hear : (H J : List Occurrence → Type 0) → ((list : List Occurrence) → H list → J list) → (lists : List (List Occurrence)) → AllByRecursion (HearsSo H) lists → AllByRecursion (HearsSo J) lists
all_hear H J to [] all = tt
all_hear H J to (list ∷ lists) all = (each_hears H J to [] list all.0, all_hear H J to lists all.1)

pub hosts-hear_first : HostsHearFirst
hosts-hear_first asks scenario content capture ran sends =
    let so = takes_turns false asks scenario content as_it_is Always any_allowed as_it_is Always any_allowed capture ran ran.happened (λ on. cc) in
    let nothing = GivesNothingUp (policy scenario.settings true) in
    record { pairs = so.turns.pairs; a = so.heard_a; b = all_hear (λ list. SendsAsItLends scenario.settings content (asks.servers scenario.settings content) → nothing list) nothing (λ list so_far. so_far sends) _ so.heard_b }

-- ---- each way keeps its order

way_kept : (happening : Happening) (whole broken : Type 0) → IsKept true happening → whole → KeepsWay happening whole broken
way_kept (Acts occurrence) whole broken kept goes = goes
way_kept (Puts pdu) whole broken kept goes = goes
way_kept Takes whole broken kept goes = goes
way_kept Repeats whole broken kept goes = cc
way_kept Loses whole broken kept goes = cc
way_kept (Damages pdu) whole broken kept goes = cc

pub ordered : (side : Pairs.Side) (turns : List Turn) → AllKept true turns → IsOrdered side turns
ordered side [] kept = tt
ordered side (turn ∷ turns) kept = by (same_side turn.side side) (ordered side turns kept.1)
  where
    by : (here : Bool) → IsOrdered side turns → AtEnd here (KeepsWay turn.happening (IsOrdered side turns) (IsBroken side turns)) (IsOrdered side turns)
    by true rest = way_kept turn.happening (IsOrdered side turns) (IsBroken side turns) kept.0 rest
    by false rest = rest

module _ (asks : HostsAsk) (scenario : Scenario) (content : Option Contents) (to_a : News → List Circumstance → List Circumstance) (E : Feed → Type 0) (allows_a : Allows to_a E) (to_b : News → List Circumstance → List Circumstance) (G : Feed → Type 0) (allows_b : Allows to_b G) where
  abbrev in_order : (capture : List Entry) (ran : Ran scenario content capture) → TurnsSo true asks scenario content to_a E allows_a to_b G allows_b capture ran → PairsKeepOrder asks scenario content capture ran
  in_order capture ran all = record { turns = all.turns; near = λ number. ordered Near (all.turns.pairs.pairs number).turns (all.kept number); far = λ number. ordered Far (all.turns.pairs.pairs number).turns (all.kept number) }

pub runs-keep_order : RunsKeepOrder
runs-keep_order asks scenario content capture ran gentle =
    in_order asks scenario content as_it_is Always any_allowed as_it_is Always any_allowed capture ran (takes_turns true asks scenario content as_it_is Always any_allowed as_it_is Always any_allowed capture ran ran.happened (λ on. gentle))

pub granted-keep_order : GrantedKeepOrder
granted-keep_order asks scenario content capture ran happened gentle =
    let all = takes_turns true asks scenario content as_it_is Always any_allowed grants AreGrants grants_allowed capture ran happened (λ on. gentle) in
    record { order = in_order asks scenario content as_it_is Always any_allowed grants AreGrants grants_allowed capture ran all; given = all_given AllGranted all.turns.pairs.b.fed.so.lives.feeds all.given }

pub held-keep_order : HeldKeepOrder
held-keep_order asks scenario shelf content capture ran happened gentle =
    let all = takes_turns true asks scenario content (held_by shelf) (AnswersOf shelf) (answers_allowed shelf) as_it_is Always any_allowed capture ran happened (λ on. gentle) in
    record { order = in_order asks scenario content (held_by shelf) (AnswersOf shelf) (answers_allowed shelf) as_it_is Always any_allowed capture ran all; told = all.told }

pub served-keep_order : ServedKeepOrder
served-keep_order asks scenario shelf content capture ran happened gentle =
    let all = takes_turns true asks scenario content (held_by shelf) (AnswersOf shelf) (answers_allowed shelf) grants AreGrants grants_allowed capture ran happened (λ on. gentle) in
    record {
      order = in_order asks scenario content (held_by shelf) (AnswersOf shelf) (answers_allowed shelf) grants AreGrants grants_allowed capture ran all;
      told = all.told;
      given = all_given AllGranted all.turns.pairs.b.fed.so.lives.feeds all.given;
    }

pub enough-keep_order : EnoughKeepOrder
enough-keep_order asks scenario shelf content capture ran happened gentle =
    let all = takes_turns true asks scenario content (held_by shelf) (AnswersOf shelf) (answers_allowed shelf) remembers AreEnough enough_allowed capture ran happened (λ on. gentle) in
    record {
      order = in_order asks scenario content (held_by shelf) (AnswersOf shelf) (answers_allowed shelf) remembers AreEnough enough_allowed capture ran all;
      told = all.told;
      enough = all_given NoneShort all.turns.pairs.b.fed.so.lives.feeds all.given;
    }
