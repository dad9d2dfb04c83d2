-- What both hosts of a run are told of the ends of their channels while few words are adverse, and of which limits.
use Rattle.std.proofs.Common.{ℕ, List, [], Option, refl, sym, subst, arith}
use Rattle.std.specs.List.{flat_map}
use Rattle.pair_laws.specs.bt_base.specs.Objects.{Contents}
use Rattle.pair_laws.specs.capture.specs.Entries.{Entry}
use Rattle.pair_laws.specs.push_script.specs.declared.scenario.Scenario.{Scenario}
use Rattle.pair_laws.specs.push_terms.specs.declared.word.Side.TheVariants as sides
use Rattle.channel_laws.specs.channel_model.specs.declared.errand.Errand.TheVariants as errands
use Rattle.channel_laws.specs.channel_model.specs.Policies.{Policy}
use Rattle.channel_laws.specs.Connections.{NamesApart, ConnectionsAreMet, NamesAreApart}
use Rattle.channel_laws.specs.Heeded.{AreMet}
use Rattle.channel_laws.specs.Pairs.{Near}
use Rattle.channel_laws.specs.Runs.{Occurrence, Run, run_of}
use Rattle.pair_laws.specs.host_model.specs.Clients.{ClientProfile, client_profile}
use Rattle.pair_laws.specs.host_model.specs.Profiles.{Profile}
use Rattle.pair_laws.specs.host_model.specs.Servers.{server_profile}
use Rattle.pair_laws.specs.host_laws.specs.Calls.{HostsAsk}
use Rattle.pair_laws.specs.host_laws.specs.ClientCalls.{AsksWell, ClientsAskInOrder}
use Rattle.pair_laws.specs.host_laws.specs.InOrder.{may_ask}
use Rattle.pair_laws.specs.host_laws.specs.Lives.{on_links}
use Rattle.pair_laws.specs.host_laws.specs.OverLinks.{talk_marks}
use Rattle.pair_laws.specs.host_laws.specs.Searching.{AsksAsItSteps}
use Rattle.pair_laws.specs.host_laws.specs.Woven.{TalksWoven}
use Rattle.pair_laws.specs.host_laws.proofs.OverLinks.{fed_woven}
use Rattle.pair_laws.specs.scenario_laws.specs.Captures.{Ran}
use Rattle.pair_laws.specs.Costs.{PairsCost}
use Rattle.pair_laws.specs.OnLinks.{LivedOver, happened_on}
use Rattle.pair_laws.specs.Pairs.{PairOnLink}
use Rattle.pair_laws.proofs.PlainPipes.{at_number}
use Rattle.pair_laws.proofs.Whole.{both_can}
use Rattle.asking_laws.proofs.Fronts.{each-happened}
use Rattle.told_laws.specs.Limits.{LimitsNone, FewTurnsLimitNone}
use Rattle.told_laws.specs.Told.{FewTurnsTellMildly}
use Rattle.limit_laws.specs.GoesOn.{LinksAreOrderly, FewWordsAnswerWell, FewWordsTellMildly}
use Rattle.limit_laws.specs.Spares.{LimitNone, FewWordsLimitNone}

-- so it is on each link of a run
abbrev CallsAreMet : Type 0
CallsAreMet = (asks : HostsAsk) (scenario : Scenario) (content : Option Contents) (capture : List Entry) (ran : Ran scenario content capture) (pairs : PairsCost asks scenario content capture ran) → AsksAsItSteps scenario.settings (asks.clients scenario.settings) → (number own : ℕ)
    → AreMet (errands.Connection own) Near (client_profile scenario.settings).policy (server_profile scenario.settings content).policy (pairs.turns.pairs.pairs number).turns

-- each request of host a for a channel is responded to
pub calls-are_met : ConnectionsAreMet → NamesAreApart → ClientsAskInOrder → CallsAreMet
calls-are_met calls apart in_order asks scenario content capture ran pairs as_steps number own = calls near far link.turns link.read (pairs.room number) Near (subst (λ (run : Run). NamesApart run.said) (sym link.near_is) named) own
  where
    A : Profile ClientProfile
    A = client_profile scenario.settings

    near : Policy
    near = A.policy

    far : Policy
    far = (server_profile scenario.settings content).policy

    a : LivedOver A (asks.clients scenario.settings) sides.A capture ran.world.a.upper
    a = pairs.turns.pairs.a

    one : List Occurrence
    one = happened_on A (asks.clients scenario.settings) sides.A capture ran.world.a.upper a number

    link : PairOnLink near far one (happened_on (server_profile scenario.settings content) (asks.servers scenario.settings content) sides.B capture ran.world.b.upper pairs.turns.pairs.b number)
    link = pairs.turns.pairs.pairs number

    -- its requests for channels have identifiers of their own
    woven : TalksWoven A (asks.clients scenario.settings) a.came.talk ran.world.a.upper
    woven = record { so = a.fed.so; woven = fed_woven A (asks.clients scenario.settings) a.fed.so.lives.spans a.fed.so.lives.now a.fed.so.lives.feeds A.first ran.world.a.upper.profile a.fed.fed }

    asked : AsksWell scenario.settings one
    asked = at_number (AsksWell scenario.settings) (tt, omega arith) (on_links A (asks.clients scenario.settings) (flat_map talk_marks a.came.talk) ran.world.a.upper a.fed.so.lives) (in_order scenario.settings (asks.clients scenario.settings) a.came.talk ran.world.a.upper as_steps woven) number

    named : NamesApart (run_of near one).said
    named = apart near (may_ask scenario.settings.transport) one (λ psm. refl) asked.0 (let most = asked.1 in omega (arith, most))

pub few-words_tell_mildly : LinksAreOrderly → FewWordsAnswerWell → ConnectionsAreMet → NamesAreApart → ClientsAskInOrder → FewTurnsTellMildly → FewWordsTellMildly
few-words_tell_mildly orderly well calls apart in_order tell asks scenario content capture ran pairs within as_steps as_lends few number =
    let so = orderly asks scenario content capture ran pairs within as_steps as_lends few number in
    tell (client_profile scenario.settings).policy (server_profile scenario.settings content).policy (pairs.turns.pairs.pairs number).turns (both_can scenario.settings) so so.few_machines
    (well asks scenario content capture ran pairs within as_steps as_lends few number) (calls-are_met calls apart in_order asks scenario content capture ran pairs as_steps number)

pub few-words_limit_none : LinksAreOrderly → FewWordsAnswerWell → ConnectionsAreMet → NamesAreApart → ClientsAskInOrder → FewTurnsLimitNone → FewWordsLimitNone
few-words_limit_none orderly well calls apart in_order limit asks scenario content capture ran pairs within as_steps as_lends few number =
    let near : Policy = (client_profile scenario.settings).policy in
    let far : Policy = (server_profile scenario.settings content).policy in
    let link = pairs.turns.pairs.pairs number in
    let so = orderly asks scenario content capture ran pairs within as_steps as_lends few number in
    let each = limit near far link.turns (both_can scenario.settings) so so.few_machines (well asks scenario content capture ran pairs within as_steps as_lends few number)
    (calls-are_met calls apart in_order asks scenario content capture ran pairs as_steps number) in
    subst (LimitNone near) link.near_list (each-happened near far Near LimitsNone [] link.turns [] refl each)
