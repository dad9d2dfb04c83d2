-- The inbox gains what the capture spells, of objects of any size.
use Rattle.std.proofs.Common.{◌≡◌, List, ◌++◌, Some, ap, ◌∙◌}
use Rattle.std.specs.List.{AllByRecursion, flat_map}
use Rattle.pair_laws.specs.bt_base.specs.declared.settings.Transport.TheVariants.{L2cap}
use Rattle.pair_laws.specs.bt_base.specs.Objects.{Object}
use Rattle.pair_laws.specs.push_script.specs.declared.scenario.Scenario.{Scenario}
use Rattle.pair_laws.specs.push_terms.specs.declared.word.Side.TheVariants as sides
use Rattle.pair_laws.specs.capture.specs.Entries.{Entry}
use Rattle.pair_laws.specs.link_talk.specs.Captures.{objects_heard}
use Rattle.pair_laws.specs.obex_session.specs.InboxCalls.{Answer}
use Rattle.pair_laws.specs.push_model.specs.Server.{Reacted}
use Rattle.pair_laws.specs.push_laws.specs.Gains.{objects}
use Rattle.pair_laws.specs.push_laws.specs.Laws.{new_over, stored_in}
use Rattle.pair_laws.specs.push_laws.specs.Occurrences.{Occurrence, all_done}
use Rattle.pair_laws.specs.push_laws.specs.Premises.{AllGranted}
use Rattle.pair_laws.specs.shelf_model.specs.Held.{longest_octets}
use Rattle.pair_laws.specs.host_laws.specs.Answered.{BeginsAtMost}
use Rattle.pair_laws.specs.host_laws.specs.Gaining.{IsDirect}
use Rattle.pair_laws.specs.host_laws.specs.OverLinks.{talk_marks}
use Rattle.pair_laws.specs.host_laws.proofs.InOrder.{asks-nothing}
use Rattle.pair_laws.specs.host_laws.proofs.Serving.{servers_are_served}
use Rattle.pair_laws.specs.scenario_laws.specs.Captures.{Ran}
use Rattle.pair_laws.specs.scenario_laws.specs.Gains.{holding, asked_by, ReadServer}
use Rattle.pair_laws.specs.scenario_laws.specs.Parties.{party_of}
use Rattle.pair_laws.specs.scenario_laws.proofs.Gaining.{servers_are_read}
use Rattle.pair_laws.specs.InTurn.{PairsInTurn}
use Rattle.pair_laws.proofs.Pairing.{hosts-take_turns}
use Rattle.pair_laws.proofs.Taking.{clients_within, servers_within}
use Rattle.pair_laws.proofs.Whole.{pairs-are_whole}
use Rattle.request_laws.specs.AllSizes.{BothAreOffered, InboxGrants, RunsGainAll}
use Rattle.request_laws.specs.BothFed.{InboxAnswers, over_stored}
use Rattle.request_laws.specs.Losing.{served_in}
use Rattle.request_laws.proofs.Heard.{links_gain_all}
use Rattle.request_laws.proofs.Linked.{runs_are_linked}
use Rattle.request_laws.proofs.ObjectPipes.{are_piped}
use Rattle.request_laws.proofs.Paired.{runs_twined}
use Rattle.request_laws.proofs.Runs.{is_in_order}
use Rattle.request_laws.proofs.Summing.{both_ask}

module _ (Are : List Answer → Type 0) (scenario : Scenario) (before : List Object) (capture : List Entry) (ran : Ran scenario (holding before) capture) (turns : PairsInTurn both_ask scenario (holding before) capture ran) where
  abbrev served : List Occurrence
  served = served_in both_ask scenario before capture ran turns.pairs

  -- what happened to the server of host b, where the shelf tells of no object that is too long and what the inbox answers is so; it spells what the capture
  -- spells, and the inbox is what it is of it
  pub record RunOffered : Type 0 where
    pub offered : BothAreOffered Are (over_stored both_ask scenario.settings before) turns.pairs.a.came.talk turns.pairs.b.came.talk ran.world.a.upper ran.world.b.upper turns.pairs.a.fed turns.pairs.b.fed
    pub direct : AllByRecursion IsDirect served
    pub spells : objects scenario.settings served ≡ objects_heard (party_of scenario.settings sides.B) sides.B capture
    pub holds : stored_in ran.world.b.upper.profile.inbox.content ≡ stored_in (all_done served (new_over scenario.settings before)).gift.content

  -- where the channels of both hosts are pairs whose links go side by side
  pub run_offered : scenario.settings.transport ≡ L2cap → AllByRecursion (BeginsAtMost longest_octets) turns.pairs.a.fed.so.lives.feeds → AllByRecursion (InboxAnswers Are) turns.pairs.b.fed.so.lives.feeds → RunOffered
  run_offered direct small answers =
      let settings = scenario.settings in
      let pairs = turns.pairs in
      let piped = are_piped scenario before capture ran direct pairs in
      let linked = piped.linked (runs_are_linked both_ask scenario before capture ran turns) in
      let order = is_in_order both_ask scenario before capture ran direct (asks-nothing settings (holding before)) pairs.b.came pairs.b.fed.so
      (pairs-are_whole both_ask scenario (holding before) capture ran pairs (record { clients = clients_within; servers = servers_within })).b in
      let read : ReadServer both_ask settings before capture ran.world.b.upper =
      record { came = pairs.b.came; so = pairs.b.fed.so; direct = order.direct; carried = order.carried; carries = order.carries; granted = order.granted } in
      record {
        offered = record { twined = runs_twined both_ask scenario before capture ran pairs order linked; small = small; answers = answers };
        direct = order.direct;
        spells = servers_are_read both_ask scenario before capture ran direct read;
        holds = ap (λ (at : Reacted). stored_in at.gift.content) (servers_are_served settings (holding before) (asked_by both_ask settings before) (flat_map talk_marks pairs.b.came.talk) ran.world.b.upper pairs.b.fed.so.lives);
      }

pub gains_so : (scenario : Scenario) (before : List Object) (capture : List Entry) (ran : Ran scenario (holding before) capture) → scenario.settings.transport ≡ L2cap → (turns : PairsInTurn both_ask scenario (holding before) capture ran)
    → InboxGrants both_ask scenario before capture ran turns.pairs → stored_in ran.world.b.upper.profile.inbox.content ≡ Some (before ++ objects_heard (party_of scenario.settings sides.B) sides.B capture)
gains_so scenario before capture ran direct turns grants =
    let pairs = turns.pairs in
    let all = run_offered AllGranted scenario before capture ran turns direct grants.small grants.granted in
    all.holds ∙ links_gain_all both_ask scenario.settings before direct pairs.a.came.talk pairs.b.came.talk ran.world.a.upper ran.world.b.upper pairs.a.fed pairs.b.fed all.offered all.direct
    ∙ ap (λ (l : List Object). Some (before ++ l)) all.spells

pub runs_gain_all : RunsGainAll
runs_gain_all = record {
  asks = both_ask;
  runs = λ scenario before capture ran direct.
      let turns = hosts-take_turns both_ask scenario (holding before) capture ran in record { turns = turns; gains = gains_so scenario before capture ran direct turns };
}
