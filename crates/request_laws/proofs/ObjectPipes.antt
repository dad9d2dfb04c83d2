-- The channels of the object are pipes on each link of each run over L2CAP.
use Rattle.std.proofs.Common.{◌≡◌, ℕ, zero, suc, true, false, List, [], ◌∷◌, ◌++◌, map, refl, sym, subst, inl, inr}
use Rattle.std.specs.Prelude.{get_or}
use Rattle.std.specs.List.{AllByRecursion, flat_map}
use Rattle.pair_laws.specs.bt_base.specs.declared.settings.Settings.{Settings}
use Rattle.pair_laws.specs.bt_base.specs.declared.settings.Transport.TheVariants.{L2cap}
use Rattle.pair_laws.specs.bt_base.specs.Objects.{Object}
use Rattle.pair_laws.specs.push_script.specs.declared.scenario.Scenario.{Scenario}
use Rattle.pair_laws.specs.capture.specs.Entries.{Entry}
use Rattle.pair_laws.specs.scenario_laws.specs.Captures.{Ran}
use Rattle.pair_laws.specs.push_terms.specs.declared.word.Side.TheVariants as sides
use Rattle.pair_laws.specs.channel_model.specs.Policies.{Policy, policy}
use Rattle.pair_laws.specs.channel_laws.specs.Frames.{AreUttered}
use Rattle.pair_laws.specs.channel_laws.specs.Runs as channels
use Rattle.pair_laws.specs.world_model.specs.Machines.{LinkEvent, Up, Down}
use Rattle.pair_laws.specs.host_model.specs.Clients.{ClientProfile, client_profile}
use Rattle.pair_laws.specs.host_model.specs.Servers.{ServerProfile, server_profile}
use Rattle.pair_laws.specs.host_laws.specs.Calls.{values_after}
use Rattle.pair_laws.specs.host_laws.specs.Fed.{FedSpan, behind_span, AreFed}
use Rattle.pair_laws.specs.host_laws.specs.Feeds.{Feed}
use Rattle.pair_laws.specs.host_laws.specs.GainingOver.{IsNoPdu, CarriedOne, CarriesOne}
use Rattle.pair_laws.specs.host_laws.specs.Lives.{Span, all_marks, on_links}
use Rattle.pair_laws.specs.host_laws.specs.OverLinks.{AreTimely, talk_marks}
use Rattle.pair_laws.specs.host_laws.specs.Woven.{turned}
use Rattle.pair_laws.specs.host_model.specs.Circumstances.{Circumstance}
use Rattle.pair_laws.specs.channel_model.specs.Value.{Channels, no_channels}
use Rattle.pair_laws.specs.host_laws.proofs.InOrder.{asks-nothing}
use Rattle.pair_laws.specs.scenario_laws.specs.Gains.{holding, serving, asked_by}
use Rattle.pair_laws.specs.OnLinks.{happened_on, ArePairs}
use Rattle.pair_laws.specs.Within.{BothSendWithin}
use Rattle.pair_laws.proofs.Taking.{clients_within, servers_within, pairs-are_carried}
use Rattle.pair_laws.proofs.Whole.{pairs-are_whole}
use Rattle.request_laws.specs.BothFed.{IsDown, AreLinked, over_stored}
use Rattle.request_laws.specs.ObjectPipes.{StaysPiped, OpensOn, ArePiped, ChannelsOfObjectsArePipes}
use Rattle.request_laws.specs.Paired.{PairsOf, PipedOn}
use Rattle.request_laws.specs.Twists.{Set}
use Rattle.request_laws.proofs.AlongPairs.{stays-piped}
use Rattle.request_laws.proofs.Runs.{is_in_order}
use Rattle.request_laws.proofs.Summing.{both_ask}
use Rattle.request_laws.proofs.Timely.{HearsNothing, is_up, goes_down, is_deaf, is_down}

-- ---- on each link one channel carries packets, and between two links nothing comes in

no_pdu : (one : channels.Occurrence) → HearsNothing one → IsNoPdu one
no_pdu (channels.Comes pdu) none = none
no_pdu (channels.Connects psm) none = tt
no_pdu channels.AsksFeatures none = tt
no_pdu (channels.Disconnects own) none = tt
no_pdu (channels.Sends own sdu) none = tt
no_pdu (channels.Gives pdu) none = tt
no_pdu channels.Fires none = tt
no_pdu channels.Tells none = tt

no_pdus : (list : List channels.Occurrence) → AllByRecursion HearsNothing list → AllByRecursion IsNoPdu list
no_pdus [] none = tt
no_pdus (one ∷ list) none = (no_pdu one none.0, no_pdus list none.1)

down_carries : (own : Policy) (event : LinkEvent) (list : List channels.Occurrence) → IsDown event → CarriedOne own event list → CarriesOne own list
down_carries own Up list down carried = absurd down
down_carries own (Down reason) list down carried = inr carried

pub carries_at : (own : Policy) (spans : List Span) (now : List channels.Occurrence) → AreTimely false (all_marks spans now) → AllByRecursion (λ (span : Span). CarriedOne own span.event span.list) spans → CarriesOne own now
    → (number : ℕ) → CarriesOne own (get_or (map (λ (span : Span). span.list) spans ++ now ∷ []) number [])
carries_at own [] now timely carried carries zero = carries
carries_at own [] now timely carried carries (suc number) = inl tt
carries_at own (up ∷ []) now timely carried carries zero = inl (no_pdus up.list (is_deaf up [] now (is_up up [] now timely) timely).deaf)
carries_at own (up ∷ []) now timely carried carries (suc zero) = carries
carries_at own (up ∷ []) now timely carried carries (suc (suc number)) = inl tt
carries_at own (up ∷ down ∷ spans) now timely carried carries zero = inl (no_pdus up.list (is_deaf up (down ∷ spans) now (is_up up (down ∷ spans) now timely) timely).deaf)
carries_at own (up ∷ down ∷ spans) now timely carried carries (suc zero) =
    let on_link = (is_deaf up (down ∷ spans) now (is_up up (down ∷ spans) now timely) timely).rest in
    down_carries own down.event down.list (goes_down down spans now on_link) carried.1.0
carries_at own (up ∷ down ∷ spans) now timely carried carries (suc (suc number)) =
    let on_link = (is_deaf up (down ∷ spans) now (is_up up (down ∷ spans) now timely) timely).rest in
    carries_at own spans now (is_down down spans now (goes_down down spans now on_link) on_link) carried.1.1 carries number

-- each of some lists has it, and nothing happened behind them
at_place : (own : Policy) (lists : List (List channels.Occurrence)) → AllByRecursion (AreUttered own) lists → (number : ℕ) → AreUttered own (get_or lists number [])
at_place own [] all number = tt
at_place own (list ∷ lists) all zero = all.0
at_place own (list ∷ lists) all (suc number) = at_place own lists all.1 number

-- ---- where a link comes up no endpoint is kept

client_new : (settings : Settings) (circumstances : List Circumstance) (event : LinkEvent) (v : Channels) (p : ClientProfile) → (turned (client_profile settings) circumstances event v p).endpoints ≡ []
client_new settings circumstances Up v p = refl
client_new settings circumstances (Down reason) v p = refl

server_new : (set : Set) (circumstances : List Circumstance) (event : LinkEvent) (v : Channels) (p : ServerProfile) → (turned (server_profile set.settings set.content) circumstances event v p).endpoints ≡ []
server_new set circumstances Up v p = refl
server_new set circumstances (Down reason) v p = refl

module _ (set : Set) (near far : ℕ → List channels.Occurrence) (pairs : PairsOf set near far)
    (piped : (number : ℕ) (client : ClientProfile) (server : ServerProfile) → client.endpoints ≡ [] → server.endpoints ≡ [] → StaysPiped set (pairs number).turns client server) where
  new_client : (near_one : Span) (client : ClientProfile) (fed : FedSpan (client_profile set.settings) (set.asks.clients set.settings) near_one client) → (behind_span (client_profile set.settings) (set.asks.clients set.settings) near_one client fed).endpoints ≡ []
  new_client near_one client fed = client_new set.settings fed.circumstances near_one.event (values_after (client_profile set.settings).policy no_channels near_one.list) fed.mid

  new_server : (far_one : Span) (server : ServerProfile) (fed : FedSpan (server_profile set.settings set.content) (set.asks.servers set.settings set.content) far_one server) → (behind_span (server_profile set.settings set.content) (set.asks.servers set.settings set.content) far_one server fed).endpoints ≡ []
  new_server far_one server fed = server_new set fed.circumstances far_one.event (values_after (server_profile set.settings set.content).policy no_channels far_one.list) fed.mid

  all_piped : (number : ℕ → ℕ) (spans_a : List Span) (now_a : List channels.Occurrence) (feeds_a : List Feed) (client last_a : ClientProfile) (spans_b : List Span) (now_b : List channels.Occurrence) (feeds_b : List Feed) (server last_b : ServerProfile)
      (a : AreFed (client_profile set.settings) (set.asks.clients set.settings) spans_a now_a feeds_a client last_a) (b : AreFed (server_profile set.settings set.content) (set.asks.servers set.settings set.content) spans_b now_b feeds_b server last_b)
      → AreLinked set (OpensOn set) number spans_a now_a feeds_a client last_a spans_b now_b feeds_b server last_b a b
      → AreLinked set (PipedOn set near far pairs) number spans_a now_a feeds_a client last_a spans_b now_b feeds_b server last_b a b
  all_piped number spans_a now_a feeds_a client last_a [] now_b feeds_b server last_b a b linked = tt
  all_piped number [] now_a feeds_a client last_a (far_one ∷ []) now_b feeds_b server last_b a b linked = linked
  all_piped number [] now_a feeds_a client last_a (far_one ∷ far_link ∷ spans_b) now_b feeds_b server last_b a b linked = absurd linked
  all_piped number (one ∷ []) now_a feeds_a client last_a (other ∷ []) now_b feeds_b server last_b (here_a, later_a, is_a, a) (here_b, later_b, is_b, b) (wants, opens) =
      (wants, record { opens = opens; piped = piped (number 1) _ _ (new_client one client here_a) (new_server other server here_b) })
  all_piped number (one ∷ link ∷ spans_a) now_a feeds_a client last_a (other ∷ []) now_b feeds_b server last_b (here_a, later_a, is_a, (link_a, rest_a, are_a, a)) (here_b, later_b, is_b, b) (wants, opens) =
      (wants, record { opens = opens; piped = piped (number 1) _ _ (new_client one client here_a) (new_server other server here_b) })
  all_piped number (one ∷ []) now_a feeds_a client last_a (other ∷ far_link ∷ spans_b) now_b feeds_b server last_b (here_a, later_a, is_a, a) (here_b, later_b, is_b, (link_b, rest_b, are_b, b)) (wants, last, opens) =
      (wants, last, record { opens = opens; piped = piped (number 1) _ _ (new_client one client here_a) (new_server other server here_b) })
  all_piped number (one ∷ link ∷ spans_a) now_a feeds_a client last_a (other ∷ far_link ∷ spans_b) now_b feeds_b server last_b (here_a, later_a, is_a, (link_a, rest_a, are_a, a)) (here_b, later_b, is_b, (link_b, rest_b, are_b, b)) (wants, opens, more) =
      let A = client_profile set.settings in
      let B = server_profile set.settings set.content in
      let asks_a = set.asks.clients set.settings in
      let asks_b = set.asks.servers set.settings set.content in (
        wants,
        record { opens = opens; piped = piped (number 1) _ _ (new_client one client here_a) (new_server other server here_b) },
        all_piped (λ k. number (suc (suc k))) spans_a now_a rest_a (behind_span A asks_a link (behind_span A asks_a one client here_a) link_a) last_a spans_b now_b rest_b (behind_span B asks_b far_link (behind_span B asks_b other server here_b) link_b) last_b a b more,
      )

-- ---- the law

pub are_piped : (scenario : Scenario) (before : List Object) (capture : List Entry) (ran : Ran scenario (holding before) capture) → scenario.settings.transport ≡ L2cap
    → (pairs : ArePairs both_ask scenario (holding before) capture ran) → ArePiped both_ask scenario before capture ran pairs
are_piped scenario before capture ran direct pairs =
    let settings = scenario.settings in
    let set : Set = over_stored both_ask settings before in
    let A = client_profile settings in
    let B = serving settings before in
    let near = happened_on A (both_ask.clients settings) sides.A capture ran.world.a.upper pairs.a in
    let far = happened_on B (asked_by both_ask settings before) sides.B capture ran.world.b.upper pairs.b in
    let within : BothSendWithin both_ask = record { clients = clients_within; servers = servers_within } in
    let order = is_in_order both_ask scenario before capture ran direct (asks-nothing settings (holding before)) pairs.b.came pairs.b.fed.so (pairs-are_whole both_ask scenario (holding before) capture ran pairs within).b in
    let b = pairs.b.fed.so.lives in
    let piped : (number : ℕ) (client : ClientProfile) (server : ServerProfile) → client.endpoints ≡ [] → server.endpoints ≡ [] → StaysPiped set (pairs.pairs number).turns client server =
    λ number client server client_none server_none.
    stays-piped settings (holding before) (near number) (far number) (pairs.pairs number) (pairs-are_carried both_ask scenario (holding before) capture ran pairs within number)
    (at_place A.policy (on_links A (both_ask.clients settings) (flat_map talk_marks pairs.a.came.talk) ran.world.a.upper pairs.a.fed.so.lives) pairs.a.uttered number)
    (at_place B.policy (on_links B (asked_by both_ask settings before) (flat_map talk_marks pairs.b.came.talk) ran.world.b.upper pairs.b.fed.so.lives) pairs.b.uttered number)
    (carries_at (policy settings true) b.spans b.now (subst (AreTimely false) (sym b.marks_are) pairs.b.fed.so.timely) order.carried order.carries number) client server client_none server_none in
    record {
      piped = piped;
      linked = λ opens. all_piped set near far pairs.pairs piped (λ k. k) pairs.a.fed.so.lives.spans pairs.a.fed.so.lives.now pairs.a.fed.so.lives.feeds A.first ran.world.a.upper.profile b.spans b.now b.feeds B.first ran.world.b.upper.profile pairs.a.fed.fed pairs.b.fed.fed opens;
    }

pub channels_of_objects_are_pipes : ChannelsOfObjectsArePipes
channels_of_objects_are_pipes = record { asks = both_ask; pipes = are_piped }
