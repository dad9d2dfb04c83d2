-- The inbox gains less where its calls fail.
use Rattle.std.proofs.Common.{◌≡◌, List, [], ◌++◌, Some, sym, subst, ◌∙◌}
use Rattle.std.specs.List.{AllByRecursion}
use Rattle.std.proofs.lemmas.List.{append_cancel_left}
use Rattle.pair_laws.specs.bt_base.specs.declared.settings.Settings.{Settings}
use Rattle.pair_laws.specs.bt_base.specs.declared.settings.Transport.TheVariants.{L2cap}
use Rattle.pair_laws.specs.bt_base.specs.Objects.{Object}
use Rattle.pair_laws.specs.push_script.specs.declared.scenario.Scenario.{Scenario}
use Rattle.pair_laws.specs.push_terms.specs.declared.word.Side.TheVariants as sides
use Rattle.pair_laws.specs.capture.specs.Entries.{Entry}
use Rattle.pair_laws.specs.link_talk.specs.Captures.{objects_heard}
use Rattle.pair_laws.specs.push_laws.specs.Gains.{objects}
use Rattle.pair_laws.specs.push_laws.specs.Laws.{new_over, stored_in}
use Rattle.pair_laws.specs.push_laws.specs.Occurrences.{Occurrence, all_done}
use Rattle.pair_laws.specs.push_laws.specs.Parties.{Push, IsOffered, over_pushes, AllServeDirectly}
use Rattle.pair_laws.specs.push_laws.specs.Premises.{NoneShort}
use Rattle.pair_laws.specs.push_laws.proofs.Losing.{pushes-gain_less}
use Rattle.pair_laws.specs.push_laws.proofs.Marking.{gains-all_but_refusals}
use Rattle.pair_laws.specs.push_laws.proofs.Missing.{first_stays, all_may_miss}
use Rattle.pair_laws.specs.scenario_laws.specs.Captures.{Ran}
use Rattle.pair_laws.specs.scenario_laws.specs.Gains.{holding}
use Rattle.pair_laws.specs.scenario_laws.specs.Parties.{party_of}
use Rattle.pair_laws.specs.InTurn.{PairsInTurn}
use Rattle.pair_laws.proofs.Pairing.{hosts-take_turns}
use Rattle.request_laws.specs.Losing.{LosesFew, LinksGainLess, InboxIsEnough, served_in, RunsGainLess}
use Rattle.request_laws.proofs.AllSizes.{run_offered}
use Rattle.request_laws.proofs.Heard.{links_offered}
use Rattle.request_laws.proofs.Summing.{both_ask}

pub same_gain : (before one other : List Object) → Some (before ++ one) ≡ Some (before ++ other) → one ≡ other
same_gain before one other same = append_cancel_left before one other (some (before ++ one) (before ++ other) same)
  where
    some : (xs ys : List Object) → Some xs ≡ Some ys → xs ≡ ys
    some xs ys is = cc

-- what happened to the server, with what it spells and what the inbox then has stored
abbrev LosesOf : (settings : Settings) (before : List Object) → List Occurrence → Type 0
LosesOf settings before served = LosesFew settings before served (objects settings served) (stored_in (all_done served (new_over settings before)).gift.content)

pushes_lose : (settings : Settings) (before : List Object) (pushes : List Push) (last : Push) → AllByRecursion IsOffered pushes → IsOffered last → AllServeDirectly NoneShort (new_over settings before) (over_pushes pushes last)
    → LosesOf settings before (over_pushes pushes last)
pushes_lose settings before pushes last offered over serve =
    let less = pushes-gain_less settings before pushes last offered over serve in
    let but = gains-all_but_refusals settings before (over_pushes pushes last) (all_may_miss settings before (over_pushes pushes last) [] (new_over settings before) (first_stays settings before) serve) in
    record {
      gain = less.gain;
      stored_is = less.stored;
      leaves = less.leaves;
      marked = same_gain before less.gain _ (sym less.stored ∙ but.gains);
      said = but.said;
    }

pub links_gain_less : LinksGainLess
links_gain_less asks settings before direct talk_a talk_b a b near far so none =
    let all = links_offered NoneShort asks settings before direct talk_a talk_b a b near far so none in
    subst (LosesOf settings before) (sym all.is) (pushes_lose settings before all.pushes all.last all.offered all.last_offered all.serve)

-- ---- runs

-- where the channels of both hosts are pairs whose links go side by side
pub loses_so : (scenario : Scenario) (before : List Object) (capture : List Entry) (ran : Ran scenario (holding before) capture) → scenario.settings.transport ≡ L2cap → (turns : PairsInTurn both_ask scenario (holding before) capture ran)
    → InboxIsEnough both_ask scenario before capture ran turns.pairs
    → LosesFew scenario.settings before (served_in both_ask scenario before capture ran turns.pairs) (objects_heard (party_of scenario.settings sides.B) sides.B capture) (stored_in ran.world.b.upper.profile.inbox.content)
loses_so scenario before capture ran direct turns enough =
    let pairs = turns.pairs in
    let served = served_in both_ask scenario before capture ran pairs in
    let all = run_offered NoneShort scenario before capture ran turns direct enough.small enough.enough in
    let less = links_gain_less both_ask scenario.settings before direct pairs.a.came.talk pairs.b.came.talk ran.world.a.upper ran.world.b.upper pairs.a.fed pairs.b.fed all.offered all.direct in
    subst (λ (spelled : List Object). LosesFew scenario.settings before served spelled (stored_in ran.world.b.upper.profile.inbox.content)) all.spells
    (record { gain = less.gain; stored_is = all.holds ∙ less.stored_is; leaves = less.leaves; marked = less.marked; said = less.said })

pub runs_gain_less : RunsGainLess
runs_gain_less = record {
  asks = both_ask;
  runs = λ scenario before capture ran direct.
      let turns = hosts-take_turns both_ask scenario (holding before) capture ran in record { turns = turns; loses = loses_so scenario before capture ran direct turns };
}
