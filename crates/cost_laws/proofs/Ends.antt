-- The requests of both hosts for the ends of channels are paid by adverse words: host b has none while these are fewer than it tries.
use Rattle.std.proofs.Common.{◌≡◌, ℕ, List, false, Option, Some, None, refl, sym, ◌∙◌, subst}
use Rattle.pair_laws.specs.channel_model.specs.Value.{Held, Request, Stage, Requested, Connected, Leaving, Closing, Crossed}
use Rattle.channel_laws.specs.Tries.{request_of, request_at, for_end, TriesAreKept}
use Rattle.channel_laws.specs.channel_model.specs.Changing.{held_at}
use Rattle.channel_laws.specs.Awaited.{asks_for_end}
use Rattle.limit_laws.specs.staying_laws.specs.forgoing_laws.specs.lasting_laws.specs.Lasting.{Lasts}
use Rattle.pair_laws.specs.bt_base.specs.Objects.{Contents}
use Rattle.pair_laws.specs.push_script.specs.declared.scenario.Scenario.{Scenario}
use Rattle.pair_laws.specs.push_terms.specs.declared.word.Side.{Side}
use Rattle.pair_laws.specs.push_terms.specs.declared.word.Side.TheVariants as sides
use Rattle.pair_laws.specs.capture.specs.Entries.{Entry}
use Rattle.pair_laws.specs.host_laws.specs.Calls.{HostsAsk}
use Rattle.pair_laws.specs.host_laws.specs.Keeping.{SendsAsItLends}
use Rattle.pair_laws.specs.host_laws.specs.Searching.{AsksAsItSteps}
use Rattle.pair_laws.specs.scenario_laws.specs.Captures.{Ran}
use Rattle.pair_laws.specs.Within.{BothSendWithin}
use Rattle.channel_laws.specs.channel_model.specs.declared.errand.Errand.TheVariants as errands
use Rattle.channel_laws.specs.channel_model.specs.Policies.{Policy}
use Rattle.channel_laws.specs.Pairs.{pair_of}
use Rattle.channel_laws.specs.Runs.{Occurrence, Run, run_of}
use Rattle.channel_laws.specs.Singly.{GrantsAreSingle}
use Rattle.limit_laws.specs.staying_laws.specs.forgoing_laws.specs.disconnection_laws.specs.Waits.{GrantsApart}
use Rattle.pair_laws.specs.host_model.specs.Clients.{client_profile}
use Rattle.pair_laws.specs.host_model.specs.Servers.{server_profile}
use Rattle.pair_laws.specs.host_laws.specs.InOrder.{may_ask}
use Rattle.pair_laws.specs.world_model.specs.Worlds.{all_words}
use Rattle.pair_laws.specs.Costs.{adverse_in, RequestsPaid, RequestsCostWords}
use Rattle.pair_laws.specs.OnLinks.{happened_on}
use Rattle.pair_laws.specs.Pairs.{PairOnLink}
use Rattle.limit_laws.specs.GoesOn.{FewWordsGoOn}
use Rattle.limit_laws.specs.asking_laws.proofs.Asking.{heard-one_by_one}
use Rattle.cost_laws.specs.Ends.{EndsCostWords}
use Rattle.cost_laws.specs.Runs.{IsPaidOn}
use Rattle.cost_laws.proofs.Limits.{paid_or}

-- ---- no request waits at a host that asked for no end

ends_none : (stage : Stage) → asks_for_end stage ≡ false → for_end stage ≡ None
ends_none (Requested request) is = refl
ends_none (Connected peer setup) is = refl
ends_none (Leaving peer setup request) is = cc
ends_none (Closing peer request checked) is = cc
ends_none (Crossed peer request) is = cc

waits_none : (run : Run) → Lasts run → (own : ℕ) (request : Request) → request_of (errands.Disconnection own) run.value ≡ Some request → ⊥
waits_none run lasts own request = by (held_at own run.value) refl
  where
    by : (found : Option Held) → held_at own run.value ≡ found → request_at for_end found ≡ Some request → ⊥
    by None at is = cc
    by (Some held) at is = let none = ends_none held.stage (lasts.there own held at) in let never : None ≡ Some request = sym none ∙ is in cc

-- ---- requests for ends

pub ends-paid : TriesAreKept → FewWordsGoOn → (asks : HostsAsk) (scenario : Scenario) (content : Option Contents) (capture : List Entry) (ran : Ran scenario content capture) → BothSendWithin asks → AsksAsItSteps scenario.settings (asks.clients scenario.settings)
    → SendsAsItLends scenario.settings content (asks.servers scenario.settings content) → (paid : RequestsPaid asks scenario content capture ran) (side : Side) (number own : ℕ) → IsPaidOn asks scenario content capture ran paid side number (errands.Disconnection own)
ends-paid kept goes asks scenario content capture ran within as_steps as_lends paid = by
  where
    near : Policy
    near = (client_profile scenario.settings).policy

    far : Policy
    far = (server_profile scenario.settings content).policy

    other : ℕ → List Occurrence
    other number = happened_on (server_profile scenario.settings content) (asks.servers scenario.settings content) sides.B capture ran.world.b.upper paid.pairs.turns.pairs.b number

    link : (number : ℕ) → PairOnLink near far (happened_on (client_profile scenario.settings) (asks.clients scenario.settings) sides.A capture ran.world.a.upper paid.pairs.turns.pairs.a number) (other number)
    link = paid.pairs.turns.pairs.pairs

    by : (side : Side) (number own : ℕ) → IsPaidOn asks scenario content capture ran paid side number (errands.Disconnection own)
    by sides.A number own = paid.near number (errands.Disconnection own) (λ few. (goes asks scenario content capture ran paid.pairs within as_steps as_lends few number).ends own)
    by sides.B number own =
        paid_or kept far (other number) (adverse_in (all_words ran.happenings)) (errands.Disconnection own)
        (λ few request waits. absurd (waits_none (run_of far (other number)) (subst Lasts (link number).far_is (goes asks scenario content capture ran paid.pairs within as_steps as_lends few number).lasts) own request waits))

pub ends-cost_words : GrantsAreSingle → TriesAreKept → RequestsCostWords → FewWordsGoOn → EndsCostWords
ends-cost_words single kept costs goes asks scenario content capture ran within as_steps as_lends =
    let paid = costs asks scenario content capture ran as_steps as_lends in
    let so = ends-paid kept goes asks scenario content capture ran within as_steps as_lends paid in
    record { requests = paid; apart = apart paid; ends = so sides.A; far_ends = so sides.B }
  where
    far : Policy
    far = (server_profile scenario.settings content).policy

    apart : (paid : RequestsPaid asks scenario content capture ran) (number : ℕ) → GrantsApart (pair_of (client_profile scenario.settings).policy far (paid.pairs.turns.pairs.pairs number).turns).far.run.said
    apart paid number =
        let b = paid.pairs.turns.pairs.b in
        let other = happened_on (server_profile scenario.settings content) (asks.servers scenario.settings content) sides.B capture ran.world.b.upper b number in
        subst (λ (run : Run). GrantsApart run.said) (sym (paid.pairs.turns.pairs.pairs number).far_is)
        (λ identifier status own again later second peer granted too. single far other (may_ask scenario.settings.transport) (heard-one_by_one asks scenario content capture ran b number) identifier status own again later second peer granted too)
