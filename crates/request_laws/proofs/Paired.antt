-- Along the pairs of both hosts' channels all that both went through stands in one order.
use Rattle.std.proofs.Common.{◌≡◌, ℕ, suc, true, List, [], ◌∷◌, ◌++◌, map, false, inr, refl, sym, subst, ◌∙◌}
use Rattle.std.specs.List.{AllByRecursion}
use Rattle.std.specs.Prelude.{get_or}
use Rattle.pair_laws.specs.push_terms.specs.declared.word.Side.TheVariants as sides
use Rattle.pair_laws.specs.channel_model.specs.Policies.{policy}
use Rattle.pair_laws.specs.channel_laws.specs.Pairs.{new_pair}
use Rattle.pair_laws.specs.channel_laws.specs.Runs as channels
use Rattle.pair_laws.specs.world_model.specs.Machines.{LinkEvent, Up, Down}
use Rattle.pair_laws.specs.host_model.specs.Clients.{ClientProfile, client_profile}
use Rattle.pair_laws.specs.host_model.specs.Servers.{ServerProfile, server_profile}
use Rattle.pair_laws.specs.host_laws.specs.Fed.{behind_span, AreFed}
use Rattle.pair_laws.specs.host_laws.specs.Feeds.{Feed}
use Rattle.pair_laws.specs.host_laws.specs.GainingOver.{CarriedOne, CarriesOne}
use Rattle.pair_laws.specs.host_laws.specs.Lives.{Span, all_marks}
use Rattle.pair_laws.specs.host_laws.specs.OverLinks.{AreTimely}
use Rattle.pair_laws.specs.host_laws.specs.Woven.{Woven}
use Rattle.pair_laws.specs.scenario_laws.specs.Gains.{holding, serving, asked_by}
use Rattle.pair_laws.specs.OnLinks.{ArePairs, happened_on}
use Rattle.pair_laws.specs.Orders.{joints_from}
use Rattle.pair_laws.proofs.Whole.{pairs-are_whole}
use Rattle.request_laws.specs.BothFed.{IsDown, AreLinked, AreTwined, over_stored}
use Rattle.request_laws.specs.Paired.{PairsOf, IsPiped, PipedOn, PairsLinked, PairedServersServe}
use Rattle.pair_laws.specs.bt_base.specs.Objects.{Object}
use Rattle.pair_laws.specs.push_script.specs.declared.scenario.Scenario.{Scenario}
use Rattle.pair_laws.specs.capture.specs.Entries.{Entry}
use Rattle.pair_laws.specs.host_laws.specs.Calls.{HostsAsk}
use Rattle.pair_laws.specs.host_laws.specs.InOrder.{IsServedInOrder}
use Rattle.pair_laws.specs.scenario_laws.specs.Captures.{Ran}
use Rattle.request_laws.specs.Runs.{BothCameFed}
use Rattle.request_laws.specs.Twists.{Set, Twined}
use Rattle.request_laws.proofs.Joining.{joined_are_twined}
use Rattle.request_laws.proofs.Timely.{is_up, goes_down, is_deaf, is_down}
use Rattle.request_laws.proofs.Behind.{nothing_comes_behind}
use Rattle.request_laws.proofs.Runs.{is_in_order, servers_serve_in_order}

abbrev pub lists_of : List Span → List channels.Occurrence → List (List channels.Occurrence)
lists_of spans now = map (λ (span : Span). span.list) spans ++ now ∷ []

-- on a link that went down one channel carried packets
down_carries : (set : Set) (event : LinkEvent) (list : List channels.Occurrence) → IsDown event → CarriedOne (policy set.settings true) event list → CarriesOne (policy set.settings true) list
down_carries set Up list down carried = absurd down
down_carries set (Down reason) list down carried = inr carried

on_link : (up down : Span) (spans : List Span) (now : List channels.Occurrence) → AreTimely false (all_marks (up ∷ down ∷ spans) now) → AreTimely true (all_marks (down ∷ spans) now)
on_link up down spans now timely = (is_deaf up (down ∷ spans) now (is_up up (down ∷ spans) now timely) timely).rest

behind_link : (up down : Span) (spans : List Span) (now : List channels.Occurrence) → AreTimely false (all_marks (up ∷ down ∷ spans) now) → AreTimely false (all_marks spans now)
behind_link up down spans now timely = let on = on_link up down spans now timely in is_down down spans now (goes_down down spans now on) on

carried_down : (set : Set) (up down : Span) (spans : List Span) (now : List channels.Occurrence) → AreTimely false (all_marks (up ∷ down ∷ spans) now) → CarriedOne (policy set.settings true) down.event down.list → CarriesOne (policy set.settings true) down.list
carried_down set up down spans now timely carried = down_carries set down.event down.list (goes_down down spans now (on_link up down spans now timely)) carried

module _ (set : Set) (near far : ℕ → List channels.Occurrence) (pairs : PairsOf set near far) where
  link_twined : (number : ℕ) (list_a list_b : List channels.Occurrence) (client last_a : ClientProfile) (server last_b : ServerProfile) (a : Woven (client_profile set.settings) (set.asks.clients set.settings) list_a client last_a)
      (b : Woven (server_profile set.settings set.content) (set.asks.servers set.settings set.content) list_b server last_b) → list_a ≡ near number → list_b ≡ far number → CarriesOne (policy set.settings true) list_b → IsPiped set near far pairs number a.weave client server → Twined set a.weave b.weave client server
  link_twined number list_a list_b client last_a server last_b a b is_a is_b carries piped =
      let pair = pairs number in
      joined_are_twined set a.weave b.weave client server
      (record {
        joints = joints_from (new_pair (client_profile set.settings).policy (server_profile set.settings set.content).policy) pair.turns;
        near_is = pair.near_list ∙ (sym is_a ∙ a.list_is);
        far_is = pair.far_list ∙ (sym is_b ∙ b.list_is);
        opens = piped.opens;
        piped = piped.piped;
        behind = nothing_comes_behind set.settings set.content (set.asks.servers set.settings set.content) list_b server last_b b carries;
      })

  all_twined : (number : ℕ → ℕ) (spans_a : List Span) (now_a : List channels.Occurrence) (feeds_a : List Feed) (client last_a : ClientProfile) (spans_b : List Span) (now_b : List channels.Occurrence) (feeds_b : List Feed) (server last_b : ServerProfile)
      (a : AreFed (client_profile set.settings) (set.asks.clients set.settings) spans_a now_a feeds_a client last_a) (b : AreFed (server_profile set.settings set.content) (set.asks.servers set.settings set.content) spans_b now_b feeds_b server last_b)
      → ((k : ℕ) → get_or (lists_of spans_a now_a) k [] ≡ near (number k)) → ((k : ℕ) → get_or (lists_of spans_b now_b) k [] ≡ far (number k))
      → AreTimely false (all_marks spans_b now_b) → AllByRecursion (λ (span : Span). CarriedOne (policy set.settings true) span.event span.list) spans_b → CarriesOne (policy set.settings true) now_b
      → AreLinked set (PipedOn set near far pairs) number spans_a now_a feeds_a client last_a spans_b now_b feeds_b server last_b a b
      → AreTwined set number spans_a now_a feeds_a client last_a spans_b now_b feeds_b server last_b a b
  all_twined number spans_a now_a feeds_a client last_a [] now_b feeds_b server last_b a b at_a at_b timely carried carries linked = tt
  all_twined number [] now_a feeds_a client last_a (far_one ∷ []) now_b feeds_b server last_b a b at_a at_b timely carried carries linked = linked
  all_twined number [] now_a feeds_a client last_a (far_one ∷ far_link ∷ spans_b) now_b feeds_b server last_b a b at_a at_b timely carried carries linked = absurd linked
  all_twined number (one ∷ []) now_a feeds_a client last_a (other ∷ []) now_b feeds_b server last_b (here_a, later_a, is_a, a) (here_b, later_b, is_b, b) at_a at_b timely carried carries (wants, piped) =
      (wants, link_twined (number 1) now_a now_b _ _ _ _ a.woven b.woven (at_a 1) (at_b 1) carries piped)
  all_twined number (one ∷ link ∷ spans_a) now_a feeds_a client last_a (other ∷ []) now_b feeds_b server last_b (here_a, later_a, is_a, (link_a, rest_a, are_a, a)) (here_b, later_b, is_b, b) at_a at_b timely carried carries (wants, piped) =
      (wants, link_twined (number 1) link.list now_b _ _ _ _ link_a.so.woven b.woven (at_a 1) (at_b 1) carries piped)
  all_twined number (one ∷ []) now_a feeds_a client last_a (other ∷ far_link ∷ spans_b) now_b feeds_b server last_b (here_a, later_a, is_a, a) (here_b, later_b, is_b, (link_b, rest_b, are_b, b)) at_a at_b timely carried carries (wants, last, piped) =
      (wants, last, link_twined (number 1) now_a far_link.list _ _ _ _ a.woven link_b.so.woven (at_a 1) (at_b 1) (carried_down set other far_link spans_b now_b timely carried.1.0) piped)
  all_twined number (one ∷ link ∷ spans_a) now_a feeds_a client last_a (other ∷ far_link ∷ spans_b) now_b feeds_b server last_b (here_a, later_a, is_a, (link_a, rest_a, are_a, a)) (here_b, later_b, is_b, (link_b, rest_b, are_b, b)) at_a at_b timely carried carries (wants, piped, more) =
      let A = client_profile set.settings in
      let B = server_profile set.settings set.content in
      let asks_a = set.asks.clients set.settings in
      let asks_b = set.asks.servers set.settings set.content in (
        wants,
        link_twined (number 1) link.list far_link.list _ _ _ _ link_a.so.woven link_b.so.woven (at_a 1) (at_b 1) (carried_down set other far_link spans_b now_b timely carried.1.0) piped,
        all_twined (λ k. number (suc (suc k))) spans_a now_a rest_a (behind_span A asks_a link (behind_span A asks_a one client here_a) link_a) last_a spans_b now_b rest_b (behind_span B asks_b far_link (behind_span B asks_b other server here_b) link_b) last_b a b
            (λ k. at_a (suc (suc k))) (λ k. at_b (suc (suc k))) (behind_link other far_link spans_b now_b timely) carried.1.1 carries more,
      )

-- in the runs of a scenario
pub runs_twined : (asks : HostsAsk) (scenario : Scenario) (before : List Object) (capture : List Entry) (ran : Ran scenario (holding before) capture) (pairs : ArePairs asks scenario (holding before) capture ran)
    → IsServedInOrder scenario.settings (holding before) (asked_by asks scenario.settings before) pairs.b.came.talk ran.world.b.upper pairs.b.fed.so → PairsLinked asks scenario before capture ran pairs
    → AreTwined (over_stored asks scenario.settings before) (λ k. k) pairs.a.fed.so.lives.spans pairs.a.fed.so.lives.now pairs.a.fed.so.lives.feeds (client_profile scenario.settings).first ran.world.a.upper.profile
    pairs.b.fed.so.lives.spans pairs.b.fed.so.lives.now pairs.b.fed.so.lives.feeds (serving scenario.settings before).first ran.world.b.upper.profile pairs.a.fed.fed pairs.b.fed.fed
runs_twined asks scenario before capture ran pairs order linked =
    let set = over_stored asks scenario.settings before in
    let A = client_profile scenario.settings in
    let B = serving scenario.settings before in
    let near = happened_on A (asks.clients scenario.settings) sides.A capture ran.world.a.upper pairs.a in
    let far = happened_on B (asked_by asks scenario.settings before) sides.B capture ran.world.b.upper pairs.b in
    let a = pairs.a.fed.so.lives in
    let b = pairs.b.fed.so.lives in
    all_twined set near far pairs.pairs (λ k. k) a.spans a.now a.feeds A.first ran.world.a.upper.profile b.spans b.now b.feeds B.first ran.world.b.upper.profile pairs.a.fed.fed pairs.b.fed.fed (λ k. refl) (λ k. refl) (subst (AreTimely false) (sym b.marks_are) pairs.b.fed.so.timely)
    order.carried order.carries linked

pub paired_servers_serve : PairedServersServe
paired_servers_serve asks scenario before capture ran direct pairs serves within nothing =
    let both : BothCameFed asks scenario (holding before) capture ran = record { a = record { came = pairs.a.came; fed = pairs.a.fed }; b = record { came = pairs.b.came; fed = pairs.b.fed } } in
    let order = is_in_order asks scenario before capture ran direct nothing pairs.b.came pairs.b.fed.so (pairs-are_whole asks scenario (holding before) capture ran pairs within).b in
    servers_serve_in_order asks scenario before capture ran direct both
    (record {
      heard = record {
        twined = runs_twined asks scenario before capture ran pairs order serves.linked;
        small = serves.small;
        granted = serves.granted;
      };
      whole = (pairs-are_whole asks scenario (holding before) capture ran pairs within).b;
    })
    nothing
