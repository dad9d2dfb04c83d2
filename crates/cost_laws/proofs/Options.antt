-- The requests for options of both hosts are paid by adverse words.
use Rattle.std.proofs.Common.{◌≡◌, ℕ, ◌+◌, ◌≤◌, ◌<◌, List, [], Option, Some, sym, subst, arith}
use Rattle.pair_laws.specs.channel_laws.specs.Adverse.{disturbances}
use Rattle.pair_laws.specs.channel_laws.specs.Runs.{Occurrence, Run}
use Rattle.pair_laws.specs.channel_laws.specs.Tries.{request_of, copies, TriesAreKept}
use Rattle.pair_laws.specs.bt_base.specs.Objects.{Contents}
use Rattle.pair_laws.specs.push_script.specs.declared.scenario.Scenario.{Scenario}
use Rattle.pair_laws.specs.capture.specs.Entries.{Entry}
use Rattle.pair_laws.specs.host_laws.specs.Calls.{HostsAsk}
use Rattle.pair_laws.specs.host_laws.specs.Keeping.{SendsAsItLends}
use Rattle.pair_laws.specs.host_laws.specs.Searching.{AsksAsItSteps}
use Rattle.pair_laws.specs.scenario_laws.specs.Captures.{Ran}
use Rattle.pair_laws.specs.Within.{BothSendWithin}
use Rattle.leaving_laws.specs.Left.{OptionsOfLeftAreCounted}
use Rattle.pair_laws.specs.host_model.specs.Clients.{client_profile}
use Rattle.pair_laws.specs.host_model.specs.Servers.{server_profile}
use Rattle.pair_laws.specs.channel_model.specs.declared.errand.Errand.TheVariants as errands
use Rattle.pair_laws.specs.channel_model.specs.Policies.{Policy}
use Rattle.pair_laws.specs.channel_laws.specs.Pairs.{new_pair}
use Rattle.pair_laws.specs.Costs.{adverse_in, IsPaidBy, RequestsPaid, RequestsCostWords}
use Rattle.pair_laws.specs.OnLinks.{happened_on}
use Rattle.pair_laws.specs.Pairs.{PairOnLink}
use Rattle.pair_laws.specs.push_terms.specs.declared.word.Side.{Side}
use Rattle.pair_laws.specs.push_terms.specs.declared.word.Side.TheVariants as sides
use Rattle.pair_laws.specs.world_model.specs.Worlds.{all_words}
use Rattle.limit_laws.specs.staying_laws.specs.forgoing_laws.specs.Lasts.{GoOn}
use Rattle.limit_laws.specs.GoesOn.{FewWordsGoOn}
use Rattle.limit_laws.proofs.GoingOn.{none_in_quiet}
use Rattle.cost_laws.specs.Options.{OptionsCostWords}
use Rattle.cost_laws.specs.Runs.{IsPaidOn}
use Rattle.cost_laws.proofs.Limits.{paid_or}

-- host a's requests are paid beside those for the ends of channels
pub options-paid : TriesAreKept → OptionsOfLeftAreCounted → FewWordsGoOn → (asks : HostsAsk) (scenario : Scenario) (content : Option Contents) (capture : List Entry) (ran : Ran scenario content capture) → BothSendWithin asks → AsksAsItSteps scenario.settings (asks.clients scenario.settings)
    → SendsAsItLends scenario.settings content (asks.servers scenario.settings content) → (paid : RequestsPaid asks scenario content capture ran) (side : Side) (number own : ℕ) → IsPaidOn asks scenario content capture ran paid side number (errands.Configuration own)
options-paid kept counted goes asks scenario content capture ran within as_steps as_lends paid = by
  where
    near : Policy
    near = (client_profile scenario.settings).policy

    far : Policy
    far = (server_profile scenario.settings content).policy

    link : (number : ℕ) → PairOnLink near far (happened_on (client_profile scenario.settings) (asks.clients scenario.settings) sides.A capture ran.world.a.upper paid.pairs.turns.pairs.a number)
        (happened_on (server_profile scenario.settings content) (asks.servers scenario.settings content) sides.B capture ran.world.b.upper paid.pairs.turns.pairs.b number)
    link = paid.pairs.turns.pairs.pairs

    go : (number : ℕ) → adverse_in (all_words ran.happenings) < scenario.settings.tries → GoOn near far (link number).turns
    go number few = goes asks scenario content capture ran paid.pairs within as_steps as_lends few number

    list : ℕ → List Occurrence
    list number = happened_on (client_profile scenario.settings) (asks.clients scenario.settings) sides.A capture ran.world.a.upper paid.pairs.turns.pairs.a number

    few_paid : (number own : ℕ) → adverse_in (all_words ran.happenings) < scenario.settings.tries → IsPaidBy (adverse_in (all_words ran.happenings)) near (list number) (errands.Configuration own)
    few_paid number own few request waits =
        let on = go number few in
        let less = paid.pairs.cost number in
        let quiet = none_in_quiet own near far [] (link number).turns (paid.pairs.none_waits number) in
        let most = subst (λ (r : Run). copies (errands.Configuration own) r.value.queue + request.given ≤ 1 + disturbances (new_pair near far) (link number).turns) (link number).near_is
        (counted near far (link number).turns (link number).fair (link number).read own (on.ends own) (on.until_left own) quiet request (subst (λ (r : Run). request_of (errands.Configuration own) r.value ≡ Some request) (sym (link number).near_is) waits)) in
        omega (arith, less, most)

    by : (side : Side) (number own : ℕ) → IsPaidOn asks scenario content capture ran paid side number (errands.Configuration own)
    by sides.A number own = paid_or kept near (list number) (adverse_in (all_words ran.happenings)) (errands.Configuration own) (few_paid number own)
    by sides.B number own = paid.far number (errands.Configuration own) (λ few. (go number few).options own)

pub options-cost_words : TriesAreKept → OptionsOfLeftAreCounted → FewWordsGoOn → RequestsCostWords → OptionsCostWords
options-cost_words kept counted goes costs asks scenario content capture ran within as_steps as_lends =
    let paid = costs asks scenario content capture ran as_steps as_lends in
    let so = options-paid kept counted goes asks scenario content capture ran within as_steps as_lends paid in
    record { requests = paid; near = so sides.A; far = so sides.B }
