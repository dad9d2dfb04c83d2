-- What the capture of a run spells are objects of the shelf, in the order of the pushes.
use Rattle.std.proofs.Common.{◌≡◌, ◌==◌, ℕ, ◌<◌, ◌^◌, Bool, true, false, List, [], ◌∷◌, ◌++◌, map, length, Option, Some, None, inl, inr, refl, sym, ap, subst, ◌∙◌, arith}
use Rattle.std.proofs.lemmas.Bool.{eqb-true}
use Rattle.std.proofs.lemmas.Str.{IsUtf8-from_is_utf8}
use Rattle.std.specs.List.{AllByRecursion}
use Rattle.std.specs.Option.{option_map}
use Rattle.pair_laws.specs.bt_base.specs.declared.settings.Transport.{Transport}
use Rattle.pair_laws.specs.bt_base.specs.declared.settings.Transport.TheVariants.{L2cap, Rfcomm}
use Rattle.pair_laws.specs.bt_base.specs.Objects.{Object, octets_of}
use Rattle.pair_laws.specs.obex_session.specs.InboxCalls.{Answer}
use Rattle.pair_laws.specs.obex_session.specs.PutPackets.{units_in}
use Rattle.pair_laws.specs.obex_session.proofs.UnitLaws.{names-have_units}
use Rattle.pair_laws.specs.push_script.specs.declared.scenario.Scenario.{Scenario}
use Rattle.pair_laws.specs.push_script.specs.Names.{IsName}
use Rattle.pair_laws.specs.capture.specs.Entries.{Entry}
use Rattle.pair_laws.specs.push_model.specs.Laws.{Deed}
use Rattle.pair_laws.specs.push_model.specs.Server.{rfcomm_psm}
use Rattle.pair_laws.specs.push_laws.specs.Gains.{objects}
use Rattle.pair_laws.specs.push_laws.specs.Laws.{new_over}
use Rattle.pair_laws.specs.push_laws.specs.Occurrences.{Occurrence, Came, Went, Closed, LinkDown, Asked, Answering}
use Rattle.pair_laws.specs.push_laws.specs.Parties.{client_side, Push, over_pushes}
use Rattle.pair_laws.specs.push_laws.specs.Premises.{NoneShort}
use Rattle.pair_laws.specs.push_laws.specs.Searches.{AllServe}
use Rattle.pair_laws.specs.push_laws.specs.Spelled.{ArePushed, AreAmong, IsOfShelfOrStill, PassesNone, name_by, name_of, names_of}
use Rattle.pair_laws.specs.push_laws.proofs.Among.{among_all, among_trans, among_pushed, ahead_among, all_among}
use Rattle.pair_laws.specs.push_laws.proofs.Pushed.{pushed-spell_once}
use Rattle.pair_laws.specs.push_laws.proofs.SpeltDirect.{pushes-spell_once}
use Rattle.pair_laws.specs.world_model.specs.Worlds.{all_words}
use Rattle.pair_laws.specs.host_model.specs.Circumstances.{Circumstance}
use Rattle.pair_laws.specs.host_model.specs.Clients.{client_profile}
use Rattle.pair_laws.specs.shelf_model.specs.Held.{longest_octets}
use Rattle.pair_laws.specs.host_laws.specs.Feeds.{Feed, Gifts, Learns, Receives, Happens, Sent, Steps}
use Rattle.pair_laws.specs.host_laws.specs.Gaining.{IsDirect}
use Rattle.pair_laws.specs.host_laws.specs.Openings.{names_told, names_begun}
use Rattle.pair_laws.specs.host_laws.specs.Pushing.{pushed_from}
use Rattle.pair_laws.specs.host_laws.specs.ShelfAnswers.{AnswersOf}
use Rattle.pair_laws.specs.host_laws.proofs.Openings.{clients_begin_what_is_told}
use Rattle.pair_laws.specs.host_laws.proofs.ShelfAnswers.{clients_are_given_objects}
use Rattle.pair_laws.specs.scenario_laws.specs.Captures.{client_of, server_of, beginning, Ran}
use Rattle.pair_laws.specs.scenario_laws.specs.Gains.{holding}
use Rattle.pair_laws.specs.Enough.{remembered, HappenedEnough}
use Rattle.pair_laws.specs.InTurn.{PairsInTurn}
use Rattle.pair_laws.specs.Keeping.{LosesNothing}
use Rattle.pair_laws.specs.Served.{holding_on, HeldInTurn}
use Rattle.pair_laws.proofs.Answered.{runs-so}
use Rattle.pair_laws.proofs.Carrying.{as_it_is}
use Rattle.pair_laws.proofs.Pairing.{enough-keep_order, held-take_turns}
use Rattle.request_laws.specs.BothFed.{InboxAnswers}
use Rattle.request_laws.specs.Losing.{served_in}
use Rattle.request_laws.specs.Spelled.{SpellsPushed, RunsSpellPushed}
use Rattle.request_laws.proofs.AllSizes.{run_offered}
use Rattle.request_laws.proofs.GainsCarried.{carried-reads}
use Rattle.request_laws.proofs.Heard.{Offered, links_pushed, all_offered}
use Rattle.request_laws.proofs.HeardTogether.{held_over, all_over, serves_over}
use Rattle.request_laws.proofs.MuxPushed.{IsHeldOver}
use Rattle.request_laws.proofs.Objects.{IsOfObject}
use Rattle.request_laws.proofs.Summing.{both_ask}
use Rattle.request_laws.proofs.Told.{none_longer, gives_octets, all_answer}

-- ---- names

abbrev HasUnits : List ℕ → Type 0
HasUnits name = AllByRecursion (λ unit. unit < 2 ^ 16) (units_in name)

all_units : (names : List (List ℕ)) → AllByRecursion IsName names → AllByRecursion HasUnits names
all_units [] all = tt
all_units (name ∷ names) all = (names-have_units name (IsUtf8-from_is_utf8 name all.0.text), all_units names all.1)

-- ---- a push

module _ (shelf : List Object) where
  found_as : (found : Option (List ℕ)) (size : ℕ) → option_map length found ≡ Some size → (octets : List ℕ) × (found ≡ Some octets) × (length octets ≡ size)
  found_as None size is = cc
  found_as (Some octets) size is = (octets, refl, cc)

  of_shelf : (push : Push) → IsOfObject (Some shelf) push → AllByRecursion HasUnits (name_of push) → IsOfShelfOrStill shelf push
  of_shelf push (inl still) units = inl still
  of_shelf push (inr (content, long)) units = by (client_side push.moves) refl units
    where
      by : (deeds : List Deed) → client_side push.moves ≡ deeds → AllByRecursion HasUnits (name_by deeds push.name) → IsOfShelfOrStill shelf push
      by [] is units' = inl is
      by (deed ∷ deeds) is units' =
          let found = found_as (octets_of push.name shelf) push.size long in inr (record { content_is = content; units = units'.0; octets = found.0; there = found.1; long = found.2 })

  split_units : (xs ys : List (List ℕ)) → AllByRecursion HasUnits (xs ++ ys) → AllByRecursion HasUnits xs × AllByRecursion HasUnits ys
  split_units [] ys all = (tt, all)
  split_units (x ∷ xs) ys all = let rest = split_units xs ys all.1 in ((all.0, rest.0), rest.1)

  all_of_shelf : (pushes : List Push) (last : Push) → AllByRecursion (IsOfObject (Some shelf)) pushes → IsOfObject (Some shelf) last → AllByRecursion HasUnits (names_of (pushes ++ last ∷ [])) → AllByRecursion (IsOfShelfOrStill shelf) (pushes ++ last ∷ [])
  all_of_shelf [] last all over units = (of_shelf last over (split_units (name_of last) [] units).0, tt)
  all_of_shelf (push ∷ pushes) last all over units =
      let cut = split_units (name_of push) (names_of (pushes ++ last ∷ [])) units in (of_shelf push all.0 cut.0, all_of_shelf pushes last all.1 over cut.1)

  direct_objects : (most : ℕ) (pushes : List Push) → AllByRecursion (Offered (Some shelf) most) pushes → AllByRecursion (IsOfObject (Some shelf)) pushes
  direct_objects most [] all = tt
  direct_objects most (push ∷ pushes) all = (all.0.2, direct_objects most pushes all.1)

  muxed_objects : (pushes : List Push) → AllByRecursion (IsHeldOver (Some shelf)) pushes → AllByRecursion (IsOfObject (Some shelf)) pushes
  muxed_objects [] all = tt
  muxed_objects (push ∷ pushes) all = (all.0.1, muxed_objects pushes all.1)

-- ---- over L2CAP nothing moves over RFCOMM

passes_none : (one : Occurrence) → IsDirect one → PassesNone one
passes_none (Came psm sdu) direct = by (psm == rfcomm_psm) refl
  where
    by : (here : Bool) → (psm == rfcomm_psm) ≡ here → PassesNone (Came psm sdu)
    by true is = absurd (direct (eqb-true psm rfcomm_psm is))
    by false is = rw is refl
passes_none (Went psm sdu) direct = by (psm == rfcomm_psm) refl
  where
    by : (here : Bool) → (psm == rfcomm_psm) ≡ here → PassesNone (Went psm sdu)
    by true is = absurd (direct (eqb-true psm rfcomm_psm is))
    by false is = rw is refl
passes_none (Closed psm) direct = refl
passes_none LinkDown direct = refl
passes_none Asked direct = refl
passes_none (Answering answers) direct = refl

all_pass_none : (occurrences : List Occurrence) → AllByRecursion IsDirect occurrences → AllByRecursion PassesNone occurrences
all_pass_none [] all = tt
all_pass_none (one ∷ rest) all = (passes_none one all.0, all_pass_none rest all.1)

-- ---- of a run

-- whatever the inbox answers
abbrev AnyAnswers : List Answer → Type 0
AnyAnswers answers = Unit {0}

any_answer : (feeds : List Feed) → AllByRecursion (InboxAnswers AnyAnswers) feeds
any_answer [] = tt
any_answer (Gifts circumstances ∷ feeds) = (tt, any_answer feeds)
any_answer (Learns circumstances news ∷ feeds) = (tt, any_answer feeds)
any_answer (Receives own psm sdu ∷ feeds) = (tt, any_answer feeds)
any_answer (Happens event v ∷ feeds) = (tt, any_answer feeds)
any_answer (Sent v ∷ feeds) = (tt, any_answer feeds)
any_answer (Steps v ∷ feeds) = (tt, any_answer feeds)

module _ (scenario : Scenario) (shelf before : List Object) (capture : List Entry) (ran : Ran scenario (holding before) capture) where
  -- what host a began to push are first objects of the scenario, in their order
  begun_among : (turns : PairsInTurn both_ask scenario (holding before) capture ran) → AreAmong (names_begun (pushed_from scenario.settings (client_profile scenario.settings).first turns.pairs.a.fed.so.lives.feeds)) scenario.names
  begun_among turns =
      let feeds = turns.pairs.a.fed.so.lives.feeds in
      let A = client_profile scenario.settings in
      let begun = names_begun (pushed_from scenario.settings A.first feeds) in
      let told = names_told feeds in
      subst (AreAmong begun) (sym turns.named.1)
      (among_trans begun told (told ++ turns.named.0) (clients_begin_what_is_told scenario.settings A.first feeds) (ahead_among told told turns.named.0 (all_among told)))

  over_l2cap : scenario.settings.transport ≡ L2cap → (turns : PairsInTurn both_ask scenario (holding before) capture ran) → AllByRecursion (AnswersOf (Some shelf)) turns.pairs.a.fed.so.lives.feeds → SpellsPushed scenario shelf capture
  over_l2cap direct turns told =
      let settings = scenario.settings in
      let pairs = turns.pairs in
      let A = client_profile settings in
      let near = pairs.a.fed.so.lives.feeds in
      let served = served_in both_ask scenario before capture ran pairs in
      let small = none_longer (Some shelf) near told in
      let run = run_offered AnyAnswers scenario before capture ran turns direct small (any_answer pairs.b.fed.so.lives.feeds) in
      let all = links_pushed (Some shelf) longest_octets (omega arith) both_ask settings before direct pairs.a.came.talk pairs.b.came.talk ran.world.a.upper ran.world.b.upper pairs.a.fed pairs.b.fed run.offered.twined small
      (clients_are_given_objects (Some shelf) settings A.first near tt told) in
      let among = among_trans (names_of (all.pushes ++ all.last ∷ [])) (names_begun (pushed_from settings A.first near)) scenario.names all.named (begun_among turns) in
      let units = among_all HasUnits (names_of (all.pushes ++ all.last ∷ [])) scenario.names among (all_units scenario.names scenario.named) in
      let spelt = pushes-spell_once settings shelf all.pushes all.last (all_offered (Some shelf) longest_octets all.pushes all.pushed) all.last_pushed.0 (all_of_shelf shelf all.pushes all.last (direct_objects shelf longest_octets all.pushes all.pushed) all.last_pushed.2 units)
      (subst (AllByRecursion PassesNone) all.is (all_pass_none served run.direct)) in
      subst (ArePushed shelf scenario.names) (ap (objects settings) (sym all.is) ∙ run.spells) (among_pushed shelf (names_of (all.pushes ++ all.last ∷ [])) scenario.names (objects settings (over_pushes all.pushes all.last)) among spelt)

  over_rfcomm : scenario.settings.transport ≡ Rfcomm → HappenedEnough scenario (Some shelf) (holding before) ran.happenings ran.world → LosesNothing (all_words ran.happenings) → SpellsPushed scenario shelf capture
  over_rfcomm muxed happened gentle =
      let settings = scenario.settings in
      let so = enough-keep_order both_ask scenario (Some shelf) (holding before) capture ran happened gentle in
      let order = so.order in
      let turns = order.turns in
      let A = client_profile settings in
      let near = turns.pairs.a.fed.so.lives.feeds in
      let far = turns.pairs.b.fed.so.lives.feeds in
      let all = held_over scenario before capture ran muxed order (Some shelf) (gives_octets (Some shelf) near so.told) (none_longer (Some shelf) near so.told) (clients_are_given_objects (Some shelf) settings A.first near tt so.told) in
      let serve = serves_over scenario before capture ran muxed order NoneShort (all_answer NoneShort far so.enough) in
      let among = among_trans (names_of (all.pushes ++ all.last ∷ [])) (names_begun (pushed_from settings A.first near)) scenario.names all.named (begun_among turns) in
      let units = among_all HasUnits (names_of (all.pushes ++ all.last ∷ [])) scenario.names among (all_units scenario.names scenario.named) in
      let spelt = pushed-spell_once settings before shelf all.pushes all.last (all_over (Some shelf) all.pushes all.pushed) all.last_pushed.0 (all_of_shelf shelf all.pushes all.last (muxed_objects shelf all.pushes all.pushed) all.last_pushed.1 units)
      (subst (AllServe NoneShort (new_over settings before)) all.is serve) in
      subst (ArePushed shelf scenario.names) (ap (objects settings) (sym all.is) ∙ carried-reads scenario before capture ran muxed order) (among_pushed shelf (names_of (all.pushes ++ all.last ∷ [])) scenario.names (objects settings (over_pushes all.pushes all.last)) among spelt)

  -- that the inbox does not lack memory changes nothing of what the shelf answers
  held : HappenedEnough scenario (Some shelf) (holding before) ran.happenings ran.world → HeldInTurn both_ask scenario (Some shelf) (holding before) capture ran
  held happened =
      held-take_turns both_ask scenario (Some shelf) (holding before) capture ran
      (runs-so (holding_on (Some shelf) (client_of scenario)) (server_of scenario (holding before)) as_it_is (λ news (answers : List Circumstance). map remembered answers) ran.happenings (beginning scenario (holding before)) ran.world happened)

  over : (transport : Transport) → scenario.settings.transport ≡ transport → HappenedEnough scenario (Some shelf) (holding before) ran.happenings ran.world → (scenario.settings.transport ≡ Rfcomm → LosesNothing (all_words ran.happenings)) → SpellsPushed scenario shelf capture
  over L2cap direct happened gentle = let so = held happened in over_l2cap direct so.turns so.told
  over Rfcomm muxed happened gentle = over_rfcomm muxed happened (gentle muxed)

pub runs_spell_pushed : RunsSpellPushed
runs_spell_pushed scenario shelf before capture ran happened gentle = over scenario shelf before capture ran scenario.settings.transport refl happened gentle
