-- What the hosts of a run ask of each other again is paid by adverse words.
use Rattle.std.proofs.Common.{◌≡◌, ◌<◌, ◌≤◌, ◌+◌, arith, Bool, true, false, ℕ, List, Some, refl, sym, subst}
use Rattle.std.specs.Prelude.{nat_le}
use Rattle.std.specs.List.{AllByRecursion, flat_map}
use Rattle.std.proofs.lemmas.Bool.{leb-true, leb-false}
use Rattle.scenario_laws.specs.push_terms.specs.declared.word.Side.TheVariants as sides
use Rattle.channel_laws.specs.channel_model.specs.declared.errand.Errand.{Errand}
use Rattle.channel_laws.specs.channel_model.specs.declared.errand.Errand.TheVariants as errands
use Rattle.channel_laws.specs.channel_model.specs.Policies.{Policy}
use Rattle.channel_laws.specs.channel_model.specs.Value.{Request}
use Rattle.channel_laws.specs.Adverse.{disturbances, seen_from, AreHeeded, DisturbancesAreCounted, FeaturesAreHeeded}
use Rattle.channel_laws.specs.Connections.{NamesApart, ConnectionsAreMet, NamesAreApart}
use Rattle.channel_laws.specs.Heeded.{MetIsHeeded}
use Rattle.channel_laws.specs.Pairs.{Side, Near, Far, new_pair, pair_of}
use Rattle.channel_laws.specs.Runs.{Occurrence, Run, run_of}
use Rattle.channel_laws.specs.Tries.{request_of, copies, TriesAreKept}
use Rattle.scenario_laws.specs.world_model.specs.Worlds.{all_words}
use Rattle.scenario_laws.specs.host_model.specs.Clients.{client_profile}
use Rattle.scenario_laws.specs.host_model.specs.Servers.{server_profile}
use Rattle.host_laws.specs.ClientCalls.{AsksWell, ClientsAskInOrder}
use Rattle.host_laws.specs.InOrder.{may_ask}
use Rattle.host_laws.specs.Keeping.{AsksForNothing, ServersAskForNothing}
use Rattle.host_laws.specs.Lives.{on_links}
use Rattle.host_laws.specs.OverLinks.{talk_marks}
use Rattle.host_laws.specs.Woven.{TalksWoven}
use Rattle.host_laws.proofs.OverLinks.{fed_woven}
use Rattle.pair_laws.specs.Costs.{adverse_in, IsPaidBy, RequestsCostWords}
use Rattle.pair_laws.specs.OnLinks.{happened_on}
use Rattle.pair_laws.specs.Pairs.{PairOnLink}
use Rattle.pair_laws.proofs.Pairing.{disturbances-cost_words}
use Rattle.pair_laws.proofs.PlainPipes.{at_number}

-- what is said of a host at an end holds of the host to which its part of the turns happened
paid_run : (adverse : ℕ) (errand : Errand) (run other : Run) → run ≡ other → ((request : Request) → request_of errand run.value ≡ Some request → copies errand run.value.queue + request.given ≤ 1 + adverse)
    → (request : Request) → request_of errand other.value ≡ Some request → copies errand other.value.queue + request.given ≤ 1 + adverse
paid_run adverse errand run other same paid = subst (λ (r : Run). (request : Request) → request_of errand r.value ≡ Some request → copies errand r.value.queue + request.given ≤ 1 + adverse) same paid

-- where the laws of two ends on what disturbs hold
module _ (counted : DisturbancesAreCounted) (near far : Policy) (one other : List Occurrence) (link : PairOnLink near far one other) (adverse : ℕ) (spent : disturbances (new_pair near far) link.turns ≤ adverse) where
  paid_at : (side : Side) (errand : Errand) → AreHeeded errand side near far link.turns → (request : Request) → request_of errand (seen_from side (pair_of near far link.turns)).near.run.value ≡ Some request
      → copies errand (seen_from side (pair_of near far link.turns)).near.run.value.queue + request.given ≤ 1 + adverse
  paid_at side errand heeded request is = let few = counted near far link.turns link.fair link.read side errand request heeded is in omega (arith, few, spent)

  near_paid : (errand : Errand) → AreHeeded errand Near near far link.turns → IsPaidBy adverse near one errand
  near_paid errand heeded = paid_run adverse errand (pair_of near far link.turns).near.run (run_of near one) link.near_is (paid_at Near errand heeded)

  far_paid : (errand : Errand) → AreHeeded errand Far near far link.turns → IsPaidBy adverse far other errand
  far_paid errand heeded = paid_run adverse errand (pair_of near far link.turns).far.run (run_of far other) link.far_is (paid_at Far errand heeded)

-- where as many words were adverse as a host tries, none of its requests is given more often
paid_or : TriesAreKept → (policy : Policy) (list : List Occurrence) (adverse : ℕ) (errand : Errand) → (adverse < policy.tries → IsPaidBy adverse policy list errand) → IsPaidBy adverse policy list errand
paid_or kept policy list adverse errand few = by (nat_le policy.tries adverse) refl
  where
    by : (enough : Bool) → nat_le policy.tries adverse ≡ enough → IsPaidBy adverse policy list errand
    by true is = let most = leb-true policy.tries adverse is in kept policy list (1 + adverse) (omega arith) (omega (arith, most)) errand
    by false is = few (leb-false policy.tries adverse is)

pub requests-cost_words : TriesAreKept → DisturbancesAreCounted → FeaturesAreHeeded → MetIsHeeded → ConnectionsAreMet → NamesAreApart → ClientsAskInOrder → ServersAskForNothing → RequestsCostWords
requests-cost_words kept counted features met calls apart in_order nothing asks scenario content capture ran as_steps as_lends =
    let A = client_profile scenario.settings in
    let B = server_profile scenario.settings content in
    let near : Policy = A.policy in
    let far : Policy = B.policy in
    let paid = disturbances-cost_words asks scenario content capture ran in
    let a = paid.turns.pairs.a in
    let b = paid.turns.pairs.b in
    let adverse = adverse_in (all_words ran.happenings) in
    let one = happened_on A (asks.clients scenario.settings) sides.A capture ran.world.a.upper a in
    let other = happened_on B (asks.servers scenario.settings content) sides.B capture ran.world.b.upper b in
    let link = paid.turns.pairs.pairs in
    let woven : TalksWoven A (asks.clients scenario.settings) a.came.talk ran.world.a.upper =
    record { so = a.fed.so; woven = fed_woven A (asks.clients scenario.settings) a.fed.so.lives.spans a.fed.so.lives.now a.fed.so.lives.feeds A.first ran.world.a.upper.profile a.fed.fed } in
    let well = λ (number : ℕ). at_number (AsksWell scenario.settings) (tt, omega arith) (on_links A (asks.clients scenario.settings) (flat_map talk_marks a.came.talk) ran.world.a.upper a.fed.so.lives)
    (in_order scenario.settings (asks.clients scenario.settings) a.came.talk ran.world.a.upper as_steps woven) number in
    let named = λ (number : ℕ). apart near (may_ask scenario.settings.transport) (one number) (λ psm. refl) (well number).0 (let few = (well number).1 in omega (arith, few)) in
    record {
      pairs = paid;
      near_features = λ number. near_paid counted near far (one number) (other number) (link number) adverse (paid.cost number) errands.Features (features near far (link number).turns (link number).read (paid.room number) Near);
      near_calls = λ number own. near_paid counted near far (one number) (other number) (link number) adverse (paid.cost number) (errands.Connection own)
          (met near far (link number).turns (link number).read Near (errands.Connection own) (calls near far (link number).turns (link number).read (paid.room number) Near (subst (λ (run : Run). NamesApart run.said) (sym (link number).near_is) (named number)) own));
      far_asks = λ number. at_number (AllByRecursion AsksForNothing) tt (on_links B (asks.servers scenario.settings content) (flat_map talk_marks b.came.talk) ran.world.b.upper b.fed.so.lives)
          (nothing scenario.settings content (asks.servers scenario.settings content) (flat_map talk_marks b.came.talk) ran.world.b.upper b.fed.so.lives as_lends) number;
      near = λ number errand so. paid_or kept near (one number) adverse errand
          (λ few. near_paid counted near far (one number) (other number) (link number) adverse (paid.cost number) errand (met near far (link number).turns (link number).read Near errand (so few)));
      far = λ number errand so. paid_or kept far (other number) adverse errand
          (λ few. far_paid counted near far (one number) (other number) (link number) adverse (paid.cost number) errand (met near far (link number).turns (link number).read Far errand (so few)));
    }
