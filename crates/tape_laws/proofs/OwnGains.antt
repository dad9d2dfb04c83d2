-- The inbox of a server that keeps its answers gains less by one object at most for each fault among them.
use Rattle.std.proofs.Common.{arith, ◌≡◌, ◌≤◌, ◌+◌, ◌-◌, ℕ, Bool, false, List, ◌++◌, Option, Some, inl, inr, refl, sym, ap, subst, ◌∙◌}
use Rattle.std.specs.List.{AllByRecursion}
use Rattle.inbox_laws.specs.bt_base.specs.declared.settings.Transport.{Transport}
use Rattle.inbox_laws.specs.bt_base.specs.declared.settings.Transport.TheVariants.{L2cap, Rfcomm}
use Rattle.inbox_laws.specs.bt_base.specs.Objects.{Object}
use Rattle.inbox_laws.specs.obex_session.specs.InboxCalls.{Answer}
use Rattle.inbox_laws.specs.push_script.specs.declared.scenario.Scenario.{Scenario}
use Rattle.inbox_laws.specs.push_terms.specs.declared.word.Side.TheVariants as sides
use Rattle.inbox_laws.specs.capture.specs.Entries.{Entry}
use Rattle.inbox_laws.specs.link_talk.specs.Captures.{objects_heard}
use Rattle.inbox_laws.specs.push_laws.specs.Faults.{faults_of, spent_from}
use Rattle.inbox_laws.specs.push_laws.specs.Laws.{new_over, stored_in}
use Rattle.inbox_laws.specs.push_laws.specs.Losing.{LeavesOut}
use Rattle.inbox_laws.specs.push_laws.specs.Occurrences.{Occurrence}
use Rattle.inbox_laws.specs.push_laws.specs.Premises.{NoneShort}
use Rattle.inbox_laws.specs.push_laws.proofs.Losing.{leaves_more}
use Rattle.inbox_laws.specs.world_model.specs.Pushes.{Pushes}
use Rattle.inbox_laws.specs.world_model.specs.Worlds.{all_words}
use Rattle.inbox_laws.specs.air_laws.specs.AirLaws.{IsLastEnd}
use Rattle.inbox_laws.specs.alike_laws.specs.Twins.{IsOther}
use Rattle.inbox_laws.specs.host_model.specs.Hosts.{Host, first_host}
use Rattle.inbox_laws.specs.host_model.specs.Servers.{ServerProfile, server_profile}
use Rattle.inbox_laws.specs.host_laws.specs.ShelfAnswers.{AnswersOf}
use Rattle.inbox_laws.specs.scenario_laws.specs.Captures.{client_of, Ran}
use Rattle.inbox_laws.specs.scenario_laws.specs.Gains.{holding}
use Rattle.inbox_laws.specs.scenario_laws.specs.Parties.{party_of}
use Rattle.inbox_laws.specs.shelf_model.specs.Held.{held_by}
use Rattle.inbox_laws.specs.pair_laws.specs.InTurn.{PairsInTurn}
use Rattle.inbox_laws.specs.pair_laws.specs.Keeping.{LosesNothing, PairsKeepOrder}
use Rattle.inbox_laws.specs.pair_laws.specs.Served.{holding_on}
use Rattle.inbox_laws.specs.pair_laws.proofs.Pairing.{answers_allowed}
use Rattle.request_laws.specs.Losing.{LosesFew, served_in}
use Rattle.request_laws.proofs.LessHeard.{loses_few}
use Rattle.request_laws.proofs.Losing.{loses_so}
use Rattle.request_laws.proofs.Summing.{both_ask}
use Rattle.request_laws.proofs.Told.{none_longer, gives_octets, all_answer}
use Rattle.tape_laws.specs.Once.{once, SpendsOnce}
use Rattle.tape_laws.specs.Own.{own_server}
use Rattle.tape_laws.specs.OwnGains.{OwnServersGainLess}
use Rattle.tape_laws.specs.OwnPairs.{own_beginning}
use Rattle.tape_laws.specs.Pairs.{TapedHosts, HappenedTapedHeld}
use Rattle.tape_laws.specs.Runs.{untaped_world}
use Rattle.tape_laws.proofs.Once.{servers_spend_once}
use Rattle.tape_laws.proofs.Order.{taped_keep_order}
use Rattle.tape_laws.proofs.Own.{own_servers_are_taped}
use Rattle.tape_laws.proofs.OwnPairs.{there_so, bare_so}
use Rattle.tape_laws.proofs.Pairs.{takes_turns}

fewer : (kept objects : List Object) (few most : ℕ) → few ≤ most → LeavesOut kept objects few → LeavesOut kept objects most
fewer kept objects few most less leaves = (let same : (most - few) + few ≡ most = omega (arith, less) in subst (LeavesOut kept objects) same (leaves_more kept objects few (most - few) leaves))

module _ (scenario : Scenario) (shelf : Option (List Object)) (before : List Object) (answers : List Answer) (capture : List Entry) (enough : NoneShort answers) (ran : Ran scenario (holding before) capture) where
  abbrev Spelled : List Object
  Spelled = objects_heard (party_of scenario.settings sides.B) sides.B capture

  -- of what happened to the server of the run
  record GainsSo : Type 0 where
    gain : List Object
    stored : stored_in ran.world.b.upper.profile.inbox.content ≡ Some (before ++ gain)
    leaves : LeavesOut gain Spelled (faults_of answers)

  -- of a server that went through the run, and used up no more faults than there are among those answers
  from_lost : (occurrences : List Occurrence) → spent_from (new_over scenario.settings before) occurrences ≤ faults_of answers → LosesFew scenario.settings before occurrences Spelled (stored_in ran.world.b.upper.profile.inbox.content) → GainsSo
  from_lost occurrences few lost = record { gain = lost.gain; stored = lost.stored_is; leaves = fewer lost.gain Spelled (spent_from (new_over scenario.settings before) occurrences) (faults_of answers) few lost.leaves }

  over_l2cap : (turns : PairsInTurn both_ask scenario (holding before) capture ran) → AllByRecursion (AnswersOf shelf) turns.pairs.a.fed.so.lives.feeds → SpendsOnce scenario.settings (holding before) answers turns.pairs.b.fed.so.lives.feeds → scenario.settings.transport ≡ L2cap → GainsSo
  over_l2cap turns told spends direct =
      from_lost (served_in both_ask scenario before capture ran turns.pairs) spends.few
      (loses_so scenario before capture ran direct turns (record { small = none_longer shelf turns.pairs.a.fed.so.lives.feeds told; enough = all_answer NoneShort turns.pairs.b.fed.so.lives.feeds (spends.enough enough) }))

  over_rfcomm : (order : PairsKeepOrder both_ask scenario (holding before) capture ran) → AllByRecursion (AnswersOf shelf) order.turns.pairs.a.fed.so.lives.feeds → SpendsOnce scenario.settings (holding before) answers order.turns.pairs.b.fed.so.lives.feeds → scenario.settings.transport ≡ Rfcomm → GainsSo
  over_rfcomm order told spends muxed =
      let feeds = order.turns.pairs.a.fed.so.lives.feeds in
      from_lost (served_in both_ask scenario before capture ran order.turns.pairs) spends.few
      (loses_few scenario before capture ran muxed order (record { given = gives_octets shelf feeds told; small = none_longer shelf feeds told; enough = all_answer NoneShort order.turns.pairs.b.fed.so.lives.feeds (spends.enough enough) })).loses

  -- over either transport
  over_either : (world : TapedHosts Bool) → HappenedTapedHeld scenario shelf (holding before) (once answers) ran.happenings world → ran.world ≡ untaped_world world
      → (transport : Transport) → scenario.settings.transport ≡ transport → (transport ≡ Rfcomm → LosesNothing (all_words ran.happenings)) → GainsSo
  over_either world happened is L2cap direct gentle =
      let so = takes_turns false both_ask scenario (holding before) (once answers) (held_by shelf) (AnswersOf shelf) (answers_allowed shelf) capture ran world happened is (λ on. cc) in
      over_l2cap so.turns so.told (subst (SpendsOnce scenario.settings (holding before) answers) (sym so.given.2) (servers_spend_once scenario.settings (holding before) answers so.given.0 so.given.1)) direct
  over_either world happened is Rfcomm muxed gentle =
      let so = taped_keep_order scenario (holding before) (once answers) both_ask shelf capture ran world happened is (gentle refl) in
      over_rfcomm so.order so.told (subst (SpendsOnce scenario.settings (holding before) answers) (sym so.given.2) (servers_spend_once scenario.settings (holding before) answers so.given.0 so.given.1)) muxed

-- what both servers have stored is the same
stored_so : (scenario : Scenario) (before : List Object) (answers : List Answer) (own plain : Host ServerProfile)
    → IsOther (first_host (own_server scenario.settings (holding before) answers)) (first_host (server_profile scenario.settings (holding before))) own plain → stored_in own.profile.inbox.content ≡ stored_in plain.profile.inbox.content
stored_so scenario before answers own plain (inl is) = ap (λ (h : Host ServerProfile). stored_in h.profile.inbox.content) (sym is)
stored_so scenario before answers own plain (inr (is, first)) = ap (λ (h : Host ServerProfile). stored_in h.profile.inbox.content) is ∙ sym (ap (λ (h : Host ServerProfile). stored_in h.profile.inbox.content) first)

pub own_servers_gain_less : OwnServersGainLess
own_servers_gain_less scenario shelf before answers capture own gentle enough =
    let (there, alike, happened) = own_servers_are_taped (holding_on shelf (client_of scenario)) scenario.settings (holding before) answers own.happenings (own_beginning scenario (holding before) answers) own.world refl own.happened in
    let last : IsLastEnd there.pushes own.ends = subst (λ (pushes : Pushes). IsLastEnd pushes own.ends) (sym (ap (λ (w : TapedHosts Bool). w.pushes) alike.same)) own.last in
    let ran : Ran scenario (holding before) capture =
    record { happenings = own.happenings; world = untaped_world there; happened = bare_so both_ask scenario shelf (holding before) answers capture own there happened; ends = own.ends; last = last; capture_is = own.capture_is } in
    let so = over_either scenario shelf before answers capture enough ran there happened refl scenario.settings.transport refl gentle in
    record {
      gain = so.gain;
      stored = stored_so scenario before answers own.world.b.upper (untaped_world there).b.upper (there_so both_ask scenario shelf (holding before) answers capture own there alike).b ∙ so.stored;
      leaves = so.leaves;
    }
