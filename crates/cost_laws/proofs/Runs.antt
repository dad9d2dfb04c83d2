-- All requests of both hosts of a run are paid by adverse words.
use Rattle.std.proofs.Common.{◌≡◌, ℕ, ◌+◌, ◌≤◌, List, Option, Some, sym, ◌∙◌, subst, arith}
use Rattle.pair_laws.specs.bt_base.specs.Objects.{Contents}
use Rattle.pair_laws.specs.bt_base.specs.declared.settings.Settings.{Settings}
use Rattle.pair_laws.specs.push_script.specs.declared.scenario.Scenario.{Scenario}
use Rattle.pair_laws.specs.push_terms.specs.declared.word.Side.{Side}
use Rattle.pair_laws.specs.push_terms.specs.declared.word.Side.TheVariants as sides
use Rattle.pair_laws.specs.capture.specs.Entries.{Entry}
use Rattle.channel_laws.specs.channel_model.specs.declared.errand.Errand.{Errand}
use Rattle.channel_laws.specs.channel_model.specs.declared.errand.Errand.TheVariants as errands
use Rattle.channel_laws.specs.channel_model.specs.Policies.{Policy}
use Rattle.channel_laws.specs.Adverse.{disturbances, DisturbancesAreCounted, FeaturesAreHeeded}
use Rattle.channel_laws.specs.Belonging.{HasAsked}
use Rattle.channel_laws.specs.Connections.{ConnectionsAreMet}
use Rattle.channel_laws.specs.Pairs.{Far, new_pair}
use Rattle.channel_laws.specs.Runs.{Occurrence, Run}
use Rattle.channel_laws.specs.Singly.{NoneIsCalled}
use Rattle.channel_laws.specs.Tries.{request_of, copies, TriesAreKept}
use Rattle.leaving_laws.specs.Left.{OptionsOfLeftAreCounted}
use Rattle.pair_laws.specs.push_model.specs.Steps.{steps}
use Rattle.pair_laws.specs.host_model.specs.Clients.{client_profile, fitted}
use Rattle.pair_laws.specs.host_model.specs.Servers.{server_profile}
use Rattle.pair_laws.specs.host_model.specs.Shelves.{unused}
use Rattle.pair_laws.specs.host_laws.specs.Calls.{HostsAsk}
use Rattle.pair_laws.specs.host_laws.specs.Searching.{AsksAsItSteps}
use Rattle.pair_laws.specs.host_laws.proofs.Asking.{clients-call}
use Rattle.pair_laws.specs.host_laws.proofs.Keeping.{servers_lend}
use Rattle.pair_laws.specs.host_laws.proofs.Stepping.{asked_is}
use Rattle.pair_laws.specs.scenario_laws.specs.Captures.{Ran}
use Rattle.pair_laws.specs.Costs.{RequestsPaid, RequestsCostWords}
use Rattle.pair_laws.specs.OnLinks.{happened_on}
use Rattle.pair_laws.specs.Pairs.{PairOnLink}
use Rattle.pair_laws.specs.Within.{BothSendWithin}
use Rattle.pair_laws.proofs.Taking.{clients_within, servers_within}
use Rattle.pair_laws.proofs.Windows.{both_ask}
use Rattle.limit_laws.specs.GoesOn.{FewWordsGoOn}
use Rattle.limit_laws.specs.asking_laws.specs.identifier_laws.proofs.Granting.{none-asked}
use Rattle.limit_laws.specs.asking_laws.proofs.Asking.{none_for}
use Rattle.cost_laws.specs.Runs.{IsPaidOn, RunsPayRequests}
use Rattle.cost_laws.proofs.Ends.{ends-paid}
use Rattle.cost_laws.proofs.Options.{options-paid}

-- ---- host b's question for features, and its requests for channels, of which its profile makes none

module _ (asks : HostsAsk) (scenario : Scenario) (content : Option Contents) (capture : List Entry) (ran : Ran scenario content capture) (paid : RequestsPaid asks scenario content capture ran) (number : ℕ) where
  abbrev near : Policy
  near = (client_profile scenario.settings).policy

  abbrev far : Policy
  far = (server_profile scenario.settings content).policy

  abbrev other : List Occurrence
  other = happened_on (server_profile scenario.settings content) (asks.servers scenario.settings content) sides.B capture ran.world.b.upper paid.pairs.turns.pairs.b number

  abbrev link : PairOnLink near far (happened_on (client_profile scenario.settings) (asks.clients scenario.settings) sides.A capture ran.world.a.upper paid.pairs.turns.pairs.a number) other
  link = paid.pairs.turns.pairs.pairs number

  far_features : DisturbancesAreCounted → FeaturesAreHeeded → IsPaidOn asks scenario content capture ran paid sides.B number errands.Features
  far_features counted heeded request waits =
      let less = paid.pairs.cost number in
      let most = subst (λ (r : Run). copies errands.Features r.value.queue + request.given ≤ 1 + disturbances (new_pair near far) link.turns) link.far_is
      (counted near far link.turns link.fair link.read Far errands.Features request (heeded near far link.turns link.read (paid.pairs.room number) Far) (subst (λ (r : Run). request_of errands.Features r.value ≡ Some request) (sym link.far_is) waits)) in
      omega (arith, less, most)

  far_calls : ConnectionsAreMet → NoneIsCalled → (own : ℕ) → IsPaidOn asks scenario content capture ran paid sides.B number (errands.Connection own)
  far_calls met none own =
      paid.far number (errands.Connection own)
      (λ few. met near far link.turns link.read (paid.pairs.room number) Far
      (λ identifier psm one second again called too. absurd (none-asked none far other (none_for other (paid.far_asks number)) identifier psm one (subst (λ (run : Run). HasAsked identifier psm one run.said) link.far_is called))) own)

-- ---- what the hosts ask of their channels

both_step : (settings : Settings) → AsksAsItSteps settings (both_ask.clients settings)
both_step settings v pushing = let one = steps pushing.client (fitted pushing) in clients-call settings v pushing ∙ asked_is one.step v (record pushing { client = one.client; parts = unused one.left pushing.parts })

within_both : BothSendWithin both_ask
within_both = record { clients = clients_within; servers = servers_within }

-- ---- the law

pub runs-pay_requests : TriesAreKept → DisturbancesAreCounted → FeaturesAreHeeded → ConnectionsAreMet → NoneIsCalled → OptionsOfLeftAreCounted → FewWordsGoOn → RequestsCostWords → RunsPayRequests
runs-pay_requests kept disturbed heeded met none left goes costs = record {
  asks = both_ask;
  steps = both_step;
  sends = servers_lend;
  within = within_both;
  all = λ scenario content capture ran. let requests = costs both_ask scenario content capture ran (both_step scenario.settings) (servers_lend scenario.settings content) in record { requests = requests; paid = each scenario content capture ran requests };
}
  where
    each : (scenario : Scenario) (content : Option Contents) (capture : List Entry) (ran : Ran scenario content capture) (requests : RequestsPaid both_ask scenario content capture ran) (side : Side) (number : ℕ) (errand : Errand) → IsPaidOn both_ask scenario content capture ran requests side number errand
    each scenario content capture ran requests sides.A number errands.Features = requests.near_features number
    each scenario content capture ran requests sides.B number errands.Features = far_features both_ask scenario content capture ran requests number disturbed heeded
    each scenario content capture ran requests sides.A number (errands.Connection own) = requests.near_calls number own
    each scenario content capture ran requests sides.B number (errands.Connection own) = far_calls both_ask scenario content capture ran requests number met none own
    each scenario content capture ran requests side number (errands.Configuration own) = options-paid kept left goes both_ask scenario content capture ran within_both (both_step scenario.settings) (servers_lend scenario.settings content) requests side number own
    each scenario content capture ran requests side number (errands.Disconnection own) = ends-paid kept goes both_ask scenario content capture ran within_both (both_step scenario.settings) (servers_lend scenario.settings content) requests side number own
