-- Host a holds credits at the end of a run.
use Rattle.std.proofs.Common.{suc, arith, ◌≡◌, ℕ, List, [], ◌∷◌, true, false, Option, None, refl, sym, subst, ◌∙◌}
use Rattle.std.specs.Prelude.{get_or}
use Rattle.std.specs.List.{AllByRecursion, flat_map}
use Rattle.inbox_laws.specs.bt_base.specs.declared.settings.Transport.{Transport}
use Rattle.inbox_laws.specs.bt_base.specs.declared.settings.Transport.TheVariants.{L2cap, Rfcomm}
use Rattle.inbox_laws.specs.bt_base.specs.Objects.{Object}
use Rattle.inbox_laws.specs.capture.specs.Entries.{Entry as Capture}
use Rattle.inbox_laws.specs.push_script.specs.declared.scenario.Scenario.{Scenario}
use Rattle.inbox_laws.specs.push_terms.specs.declared.word.Side.TheVariants as sides
use Rattle.inbox_laws.specs.channel_model.specs.Policies.{Policy, policy}
use Rattle.inbox_laws.specs.channel_laws.specs.Frames.{AreUttered}
use Rattle.inbox_laws.specs.channel_laws.specs.Runs.{Occurrence, run_of}
use Rattle.inbox_laws.specs.channel_laws.specs.Singly.{AsksForNoChannel}
use Rattle.inbox_laws.specs.channel_laws.proofs.OneByOne.{calls-are_one_by_one}
use Rattle.inbox_laws.specs.push_model.specs.Steps.{steps}
use Rattle.inbox_laws.specs.shelf_model.specs.Held.{longest_octets}
use Rattle.inbox_laws.specs.host_model.specs.Clients.{client_profile, fitted}
use Rattle.inbox_laws.specs.host_model.specs.Shelves.{unused}
use Rattle.inbox_laws.specs.host_laws.specs.ClientCalls.{AsksWell}
use Rattle.inbox_laws.specs.host_laws.specs.InOrder.{may_ask}
use Rattle.inbox_laws.specs.host_laws.specs.OneOnLinks.{packets_psm, CarriesOneOn}
use Rattle.inbox_laws.specs.host_laws.specs.OverLinks.{AreTimely, talk_marks}
use Rattle.inbox_laws.specs.host_laws.specs.Pushing.{pushed_from}
use Rattle.inbox_laws.specs.host_laws.specs.Searching.{AsksAsItSteps}
use Rattle.inbox_laws.specs.host_laws.specs.Woven.{TalksWoven}
use Rattle.inbox_laws.specs.host_laws.proofs.Answered.{clients_are_answered}
use Rattle.inbox_laws.specs.host_laws.proofs.ClientCalls.{clients-ask_in_order}
use Rattle.inbox_laws.specs.host_laws.proofs.InOrder.{asks-nothing, links-ask_none}
use Rattle.inbox_laws.specs.host_laws.proofs.OverLinks.{fed_woven}
use Rattle.inbox_laws.specs.host_laws.proofs.Asking.{clients-call}
use Rattle.inbox_laws.specs.host_laws.proofs.Stepping.{asked_is}
use Rattle.inbox_laws.specs.host_laws.specs.ShelfAnswers.{AnswersOf}
use Rattle.inbox_laws.specs.scenario_laws.specs.Captures.{Ran}
use Rattle.inbox_laws.specs.scenario_laws.specs.Gains.{holding, serving, asked_by}
use Rattle.inbox_laws.specs.scenario_laws.specs.Parties.{party_of}
use Rattle.inbox_laws.specs.scenario_laws.proofs.Alone.{runs-carry_alone}
use Rattle.inbox_laws.specs.push_model.specs.Server.{object_psm}
use Rattle.inbox_laws.specs.pair_laws.specs.Enough.{HappenedEnough}
use Rattle.inbox_laws.specs.pair_laws.specs.Keeping.{PairsKeepOrder}
use Rattle.inbox_laws.specs.pair_laws.specs.OnLinks.{ArePairs}
use Rattle.inbox_laws.specs.pair_laws.proofs.Pairing.{hosts-are_pairs, enough-keep_order}
use Rattle.request_laws.proofs.AlongStreams.{at_place, none_carry, all_carry}
use Rattle.request_laws.proofs.Beginning.{good_first}
use Rattle.request_laws.proofs.GivenOctets.{affairs-given}
use Rattle.request_laws.proofs.HeardTogether.{all_framed, affairs_hear}
use Rattle.request_laws.proofs.MuxHeard.{GoodMux}
use Rattle.request_laws.proofs.MuxPushed.{all-so}
use Rattle.request_laws.proofs.Objects.{given_any}
use Rattle.request_laws.proofs.OctetsHeard.{both-octets}
use Rattle.request_laws.proofs.Paired.{lists_of}
use Rattle.request_laws.proofs.SpellableClients.{client_frames_are_read}
use Rattle.request_laws.proofs.Summing.{both_ask}
use Rattle.request_laws.proofs.Told.{none_longer, gives_octets}
use Rattle.credit_laws.specs.Fronts.{IsGentle}
use Rattle.credit_laws.specs.Kept.{IsSolvent}
use Rattle.credit_laws.specs.Moved.{IsSole}
use Rattle.credit_laws.specs.Seen.{AreCovered}
use Rattle.credit_laws.proofs.Landing.{IsReady, lived-holds, lists_ask}
use Rattle.credit_laws.proofs.Outward.{goes-over}
use Rattle.credit_laws.proofs.OwnLinks.{IsMuxed, opened-cover, links-cover}
use Rattle.credit_laws.proofs.Soles.{is-sole, none-muxed, agrees-there, sure-there}

-- ---- of a run, where its own talk on each link is covered

module _ (scenario : Scenario) (before : List Object) (capture : List Capture) (ran : Ran scenario (holding before) capture) (pairs : ArePairs both_ask scenario (holding before) capture ran) where
  abbrev lists : List (List Occurrence)
  lists = lists_of pairs.a.fed.so.lives.spans pairs.a.fed.so.lives.now

  abbrev far_lists : List (List Occurrence)
  far_lists = lists_of pairs.b.fed.so.lives.spans pairs.b.fed.so.lives.now

  abbrev near : ℕ → List Occurrence
  near number = get_or lists number []

  abbrev far : ℕ → List Occurrence
  far number = get_or far_lists number []

  abbrev Covers : List Occurrence → Type 0
  Covers list = AreCovered (party_of scenario.settings sides.A) (run_of (policy scenario.settings false) list).said

  far_quiet : (number : ℕ) → AllByRecursion AsksForNoChannel (far number)
  far_quiet number =
      let b = pairs.b in
      let none = links-ask_none (serving scenario.settings before) (asked_by both_ask scenario.settings before) (flat_map talk_marks b.came.talk) ran.world.b.upper b.fed.so.lives (asks-nothing scenario.settings (holding before)) in
      at_place (AllByRecursion AsksForNoChannel) tt far_lists (lists_ask b.fed.so.lives.spans b.fed.so.lives.now none.before none.last) number

  near_asks : AllByRecursion (AsksWell scenario.settings) lists
  near_asks =
      let a = pairs.a in
      let A = client_profile scenario.settings in
      let woven : TalksWoven A (both_ask.clients scenario.settings) a.came.talk ran.world.a.upper =
      record { so = a.fed.so; woven = fed_woven A (both_ask.clients scenario.settings) a.fed.so.lives.spans a.fed.so.lives.now a.fed.so.lives.feeds A.first ran.world.a.upper.profile a.fed.fed } in
      let as_steps : AsksAsItSteps scenario.settings (both_ask.clients scenario.settings) =
      λ v p. let one = steps p.client (fitted p) in clients-call scenario.settings v p ∙ asked_is one.step v (record p { client = one.client; parts = unused one.left p.parts }) in
      clients-ask_in_order scenario.settings (both_ask.clients scenario.settings) a.came.talk ran.world.a.upper as_steps woven

  near_sole : (number : ℕ) (own : ℕ) → IsSole own (run_of (policy scenario.settings false) (near number)).said
  near_sole number own =
      let P = policy scenario.settings false in
      let well : AsksWell scenario.settings (near number) = at_place (AsksWell scenario.settings) (tt, omega arith) lists near_asks number in
      is-sole P (policy scenario.settings true) (near number) (far number) (pairs.pairs number) (far_quiet number) (may_ask scenario.settings.transport) (calls-are_one_by_one P (may_ask scenario.settings.transport) (near number) well.0) own

  all_ready : (number : ℕ → ℕ) (rest : List (List Occurrence)) → ((k : ℕ) → get_or rest k [] ≡ near (number k)) → AllByRecursion Covers rest → AllByRecursion (AreUttered (policy scenario.settings false)) rest → AllByRecursion (IsReady (party_of scenario.settings sides.A) (policy scenario.settings false)) rest
  all_ready number [] same covered uttered = tt
  all_ready number (list ∷ rest) same covered uttered = (
    record { covered = covered.0; sole = λ own. subst (λ (l : List Occurrence). IsSole own (run_of (policy scenario.settings false) l).said) (sym (same 0)) (near_sole (number 0) own); over = goes-over (policy scenario.settings false) list uttered.0 },
    all_ready (λ k. number (suc k)) rest (λ k. same (suc k)) covered.1 uttered.1,
  )

  near_holds : AllByRecursion Covers lists → IsSolvent scenario.settings sides.A capture
  near_holds covered =
      lived-holds (client_profile scenario.settings) (both_ask.clients scenario.settings) scenario.settings sides.A capture ran.world.a.upper pairs.a (all_ready (λ k. k) lists (λ k. refl) covered pairs.a.uttered)

  -- ---- over L2CAP

  direct_covers : scenario.settings.transport ≡ L2cap → AllByRecursion Covers lists
  direct_covers direct = each (λ k. k) lists (λ k. refl)
    where
      wanted : Policy
      wanted = policy scenario.settings true

      alone : AllByRecursion (CarriesOneOn object_psm (policy scenario.settings true)) far_lists
      alone =
          subst (λ (T : Transport). AllByRecursion (CarriesOneOn (packets_psm T) wanted) far_lists) direct
          (runs-carry_alone scenario (holding before) capture ran (asked_by both_ask scenario.settings before) pairs.b.came pairs.b.fed.so (asks-nothing scenario.settings (holding before)))

      one : (number : ℕ) → Covers (near number)
      one number =
          opened-cover (party_of scenario.settings sides.A) (run_of (policy scenario.settings false) (near number)).said
          (λ entry found accepted psm.
          absurd (none-muxed (policy scenario.settings false) wanted (near number) (far number) (pairs.pairs number) (far_quiet number) (at_place (CarriesOneOn object_psm wanted) (none_carry object_psm wanted) far_lists alone number) entry.channel accepted psm))

      each : (number : ℕ → ℕ) (rest : List (List Occurrence)) → ((k : ℕ) → get_or rest k [] ≡ near (number k)) → AllByRecursion Covers rest
      each number [] same = tt
      each number (list ∷ rest) same = (subst Covers (sym (same 0)) (one (number 0)), each (λ k. number (suc k)) rest (λ k. same (suc k)))

-- ---- over RFCOMM

module _ (scenario : Scenario) (shelf : Option (List Object)) (before : List Object) (capture : List Capture) (ran : Ran scenario (holding before) capture) (muxed : scenario.settings.transport ≡ Rfcomm) (order : PairsKeepOrder both_ask scenario (holding before) capture ran)
    (told : AllByRecursion (AnswersOf shelf) order.turns.pairs.a.fed.so.lives.feeds) where
  near_muxed : (number : ℕ) → IsMuxed scenario.settings (near scenario before capture ran order.turns.pairs number)
  near_muxed number channel accepted psm =
      let P = policy scenario.settings false in
      let Q = policy scenario.settings true in
      let pairs = order.turns.pairs in
      let one = near scenario before capture ran pairs number in
      let other = far scenario before capture ran pairs number in
      let quiet = far_quiet scenario before capture ran pairs number in
      let only = all_carry scenario before capture ran order muxed number in
      (agrees-there P Q one other (pairs.pairs number) quiet only channel accepted psm, sure-there P Q one other (pairs.pairs number) quiet only channel accepted psm)

  muxed_covers : AllByRecursion (Covers scenario before capture ran order.turns.pairs) (lists scenario before capture ran order.turns.pairs)
  muxed_covers =
      let a = order.turns.pairs.a.fed.so in
      let A = client_profile scenario.settings in
      let first : GoodMux scenario.settings A.first.client = record { good = good_first scenario.settings Rfcomm muxed; numbers = (refl, refl, refl) } in
      let octets = both-octets scenario before capture ran order in
      let framed = all_framed (pushed_from scenario.settings A.first a.lives.feeds) A.first.client (client_frames_are_read.first scenario.settings) (affairs_hear scenario.settings a.lives.feeds A.first octets.a)
      (affairs-given scenario.settings a.lives.feeds A.first (gives_octets shelf a.lives.feeds told) tt) in
      let answered = clients_are_answered longest_octets scenario.settings A.first a.lives.feeds (none_longer shelf a.lives.feeds told) in
      let so = all-so None (pushed_from scenario.settings A.first a.lives.feeds) A.first.client answered (given_any longest_octets (pushed_from scenario.settings A.first a.lives.feeds) A.first.client answered) framed in
      links-cover scenario.settings before muxed a.lives.spans a.lives.now a.lives.feeds A.first ran.world.a.upper.profile order.turns.pairs.a.fed.fed order.turns.asked (subst (AreTimely false) (sym a.lives.marks_are) a.timely) refl first so
      order.turns.pairs.a.uttered near_muxed

-- ---- over either

pub initiator_solvent : (transport : Transport) (scenario : Scenario) (shelf : Option (List Object)) (before : List Object) (capture : List Capture) (ran : Ran scenario (holding before) capture) → scenario.settings.transport ≡ transport
    → HappenedEnough scenario shelf (holding before) ran.happenings ran.world → IsGentle scenario ran.happenings → IsSolvent scenario.settings sides.A capture
initiator_solvent L2cap scenario shelf before capture ran direct happened gentle =
    let pairs = hosts-are_pairs both_ask scenario (holding before) capture ran in near_holds scenario before capture ran pairs (direct_covers scenario before capture ran pairs direct)
initiator_solvent Rfcomm scenario shelf before capture ran muxed happened gentle =
    let so = enough-keep_order both_ask scenario shelf (holding before) capture ran happened (gentle muxed) in
    near_holds scenario before capture ran so.order.turns.pairs (muxed_covers scenario shelf before capture ran muxed so.order so.told)
