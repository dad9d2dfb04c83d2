-- In each run over RFCOMM each request is heard, where nothing is asked of what both hosts hear.
use Rattle.std.proofs.Common.{◌≡◌, ℕ, suc, true, false, List, [], ◌∷◌, Option, None, refl, sym, subst, ◌∙◌}
use Rattle.std.specs.Prelude.{get_or}
use Rattle.std.specs.List.{AllByRecursion}
use Rattle.pair_laws.specs.bt_base.specs.declared.settings.Settings.{Settings}
use Rattle.pair_laws.specs.bt_base.specs.declared.settings.Transport.TheVariants.{Rfcomm}
use Rattle.pair_laws.specs.bt_base.specs.Objects.{Object}
use Rattle.pair_laws.specs.push_script.specs.declared.scenario.Scenario.{Scenario}
use Rattle.pair_laws.specs.push_terms.specs.declared.word.Side.TheVariants as sides
use Rattle.pair_laws.specs.capture.specs.Entries.{Entry}
use Rattle.pair_laws.specs.channel_laws.specs.Pairs.{new_pair}
use Rattle.pair_laws.specs.channel_laws.specs.Runs as channels
use Rattle.pair_laws.specs.channel_model.specs.Policies.{policy}
use Rattle.pair_laws.specs.channel_model.specs.Value.{Channels, no_channels}
use Rattle.pair_laws.specs.obex_session.specs.InboxCalls.{Answer}
use Rattle.pair_laws.specs.push_model.specs.Client.{Client, begins}
use Rattle.pair_laws.specs.push_model.specs.Events.{search_psm}
use Rattle.pair_laws.specs.push_model.specs.Laws.{Deed, Hears, Asks, Finishes, Cancels, done}
use Rattle.pair_laws.specs.push_model.specs.Server.{object_psm, rfcomm_psm}
use Rattle.pair_laws.specs.push_model.specs.Steps.{Step, Wait, MakeLink, AskFeatures, OpenChannel, SendSdu, CloseChannel, BreakLink, Ended, NoMemory, steps}
use Rattle.pair_laws.specs.push_laws.specs.Laws.{new_over}
use Rattle.pair_laws.specs.push_laws.specs.Parties.{Push}
use Rattle.pair_laws.specs.push_laws.specs.Premises.{AllGranted, AllMayCome}
use Rattle.pair_laws.specs.push_laws.specs.Searches.{AllServe, IsPushedOver}
use Rattle.pair_laws.specs.push_laws.proofs.Pushed.{pushed-are_heard}
use Rattle.pair_laws.specs.world_model.specs.Machines.{News, LinkEvent, Linked, Up, Down, Failed, Heard, TimerFired, Cancelled, Opening}
use Rattle.pair_laws.specs.host_model.specs.Circumstances.{Circumstance}
use Rattle.pair_laws.specs.host_model.specs.Clients.{ClientProfile, ended, client_profile}
use Rattle.pair_laws.specs.host_model.specs.Servers.{ServerProfile, server_profile}
use Rattle.pair_laws.specs.host_model.specs.Shelves.{size_for, name_for}
use Rattle.pair_laws.specs.host_laws.specs.Answered.{BeginsAtMost}
use Rattle.pair_laws.specs.shelf_model.specs.Held.{longest_octets}
use Rattle.pair_laws.specs.host_laws.specs.Calls.{values_after}
use Rattle.pair_laws.specs.host_laws.specs.Fed.{FedSpan, behind_span, AreFed}
use Rattle.pair_laws.specs.host_laws.specs.Feeds.{Feed, Gifts, Learns, Receives, Happens, Sent, Steps, fed}
use Rattle.pair_laws.specs.host_laws.specs.Lives.{Span}
use Rattle.pair_laws.specs.host_laws.specs.OneOnLinks.{CarriesOneOn}
use Rattle.pair_laws.specs.host_laws.specs.Openings.{names_begun}
use Rattle.pair_laws.specs.host_laws.specs.OverLinks.{AreTimely}
use Rattle.pair_laws.specs.host_laws.specs.Pushing.{Affair, Begins, Does, client_after, link_asked, then_ends, then_calls, pushed_with, pushed_from, AllAsked}
use Rattle.pair_laws.specs.host_laws.specs.Serving.{served_from}
use Rattle.pair_laws.specs.host_laws.specs.ShelfAnswers.{IsGiven}
use Rattle.pair_laws.specs.host_laws.specs.Woven.{Woven, turned}
use Rattle.pair_laws.specs.host_laws.proofs.Answered.{clients_are_answered}
use Rattle.pair_laws.specs.host_laws.proofs.InOrder.{asks-nothing}
use Rattle.pair_laws.specs.scenario_laws.specs.Captures.{Ran}
use Rattle.pair_laws.specs.scenario_laws.specs.Gains.{holding, serving, asked_by}
use Rattle.pair_laws.specs.Keeping.{PairsKeepOrder}
use Rattle.pair_laws.specs.OnLinks.{happened_on}
use Rattle.pair_laws.specs.Orders.{joints_from}
use Rattle.pair_laws.specs.Within.{BothSendWithin}
use Rattle.pair_laws.proofs.Pairing.{runs-keep_order, granted-keep_order}
use Rattle.pair_laws.proofs.PlainPipes.{plain-pairs_are_pipes}
use Rattle.pair_laws.proofs.Taking.{clients_within, servers_within, pairs-are_carried}
use Rattle.request_laws.specs.BothFed.{InboxAnswers, OfLink, AreLinked, over_stored}
use Rattle.request_laws.specs.GainsCarried.{AllAreHeard}
use Rattle.request_laws.specs.ObjectPipes.{OpensOn}
use Rattle.request_laws.specs.SpellableClients.{IsOfOctets, BringsOctets, SpellsAll}
use Rattle.request_laws.specs.TogetherHeard.{GivesOctets, ReceivesOctets, HeardAnswer, ServesHeardRuns, RunsServeHeard, RunsServeHeardGranted}
use Rattle.request_laws.specs.Twists.{Set, new_both, OpensNone}
use Rattle.request_laws.proofs.AlongStreams.{all_carry, multiplexers_piped}
use Rattle.request_laws.proofs.Beginning.{good_first}
use Rattle.request_laws.proofs.Behind.{muxes_end_last}
use Rattle.request_laws.proofs.Feeding.{all_both, Holds, end_so, feed_so}
use Rattle.request_laws.proofs.GainsCarried.{gains-carried}
use Rattle.request_laws.proofs.GivenOctets.{IsGivenOctets, affairs-given}
use Rattle.request_laws.proofs.Joining.{lift}
use Rattle.request_laws.proofs.Linked.{runs_are_linked}
use Rattle.request_laws.proofs.MuxHeard.{GoodMux, serve_from}
use Rattle.request_laws.proofs.MuxPackets.{all_packets}
use Rattle.request_laws.proofs.Objects.{given_any}
use Rattle.request_laws.proofs.MuxPushed.{IsFramed, IsSo, IsHeldOver, all-so, goes-on, TrueTwined, no-push, one-push, serves-so}
use Rattle.request_laws.proofs.OctetsHeard.{near-utters, far-utters, both-octets}
use Rattle.request_laws.proofs.Paired.{lists_of}
use Rattle.request_laws.proofs.Pushes.{Pushes, made}
use Rattle.request_laws.proofs.LendingOctets.{all_say_so}
use Rattle.request_laws.proofs.SpellableClients.{client_frames_are_read}
use Rattle.request_laws.proofs.SpellableServers.{server_frames_are_said}
use Rattle.request_laws.proofs.Summing.{both_ask}
use Rattle.request_laws.proofs.Together.{all_granted}
use Rattle.request_laws.proofs.Truths.{stays-true}

-- ---- what a client hears are octets

abbrev HearsOctets : Affair → Type 0
HearsOctets (Begins size name) = Unit {0}
HearsOctets (Does (Hears news)) = BringsOctets news
HearsOctets (Does (Asks parts)) = Unit {0}
HearsOctets (Does Finishes) = Unit {0}
HearsOctets (Does Cancels) = Unit {0}

octets_hold : Holds HearsOctets
octets_hold = record { asks = λ parts. tt; finishes = tt; cancels = tt; down = λ reason. tt; failed = λ status. tt; opened = λ psm mtu. tt; closed = λ psm cause. tt; told = tt; lost = tt; timer = tt }

links_hear : (step : Step) → AllByRecursion HearsOctets (link_asked step)
links_hear Wait = tt
links_hear MakeLink = (tt, (tt, tt))
links_hear AskFeatures = tt
links_hear (OpenChannel psm) = tt
links_hear (SendSdu psm payload) = tt
links_hear (CloseChannel psm) = tt
links_hear BreakLink = tt
links_hear (Ended outcome) = tt
links_hear NoMemory = tt

news_hear : (circumstances : List Circumstance) (news : News) (p : ClientProfile) → AllByRecursion HearsOctets (pushed_with p (Learns circumstances news))
news_hear circumstances (Linked Up) p = feed_so HearsOctets octets_hold p (Learns circumstances (Linked Up)) tt
news_hear circumstances (Linked (Down reason)) p = feed_so HearsOctets octets_hold p (Learns circumstances (Linked (Down reason))) tt
news_hear circumstances (Failed status) p = feed_so HearsOctets octets_hold p (Learns circumstances (Failed status)) tt
news_hear circumstances (Heard pdu) p = tt
news_hear circumstances TimerFired p = feed_so HearsOctets octets_hold p (Learns circumstances TimerFired) tt
news_hear circumstances Cancelled p = feed_so HearsOctets octets_hold p (Learns circumstances Cancelled) tt
news_hear circumstances (Opening name) p =
    let begun : Client = begins (size_for circumstances name) (name_for name) p.client in
    (tt, all_both HearsOctets (then_ends begun) (then_calls (ended begun)) (end_so HearsOctets octets_hold (steps begun []).step) (links_hear (steps (ended begun) []).step))

feed_hears : (feed : Feed) (p : ClientProfile) → ReceivesOctets feed → AllByRecursion HearsOctets (pushed_with p feed)
feed_hears (Gifts circumstances) p fits = tt
feed_hears (Learns circumstances news) p fits = news_hear circumstances news p
feed_hears (Receives own psm sdu) p fits = (fits, tt)
feed_hears (Happens event v) p fits = feed_so HearsOctets octets_hold p (Happens event v) tt
feed_hears (Sent v) p fits = feed_so HearsOctets octets_hold p (Sent v) tt
feed_hears (Steps v) p fits = feed_so HearsOctets octets_hold p (Steps v) tt

pub affairs_hear : (settings : Settings) (feeds : List Feed) (p : ClientProfile) → AllByRecursion ReceivesOctets feeds → AllByRecursion HearsOctets (pushed_from settings p feeds)
affairs_hear settings [] p all = tt
affairs_hear settings (feed ∷ feeds) p all =
    let q = fed (client_profile settings) p feed in all_both HearsOctets (pushed_with p feed) (pushed_from settings q feeds) (feed_hears feed p all.0) (affairs_hear settings feeds q all.1)

of_octets : (deed : Deed) → HearsOctets (Does deed) → IsGivenOctets (Does deed) → IsOfOctets deed
of_octets (Hears news) hears gives = hears
of_octets (Asks parts) hears gives = gives
of_octets Finishes hears gives = tt
of_octets Cancels hears gives = tt

-- so each frame that it sends is read so
pub all_framed : (affairs : List Affair) (client : Client) → SpellsAll client → AllByRecursion HearsOctets affairs → AllByRecursion IsGivenOctets affairs → AllAsked IsFramed affairs client
all_framed [] client s hears gives = tt
all_framed (Begins size name ∷ rest) client s hears gives = (tt, all_framed rest (client_after (Begins size name) client) (client_frames_are_read.beginning size name client s) hears.1 gives.1)
all_framed (Does deed ∷ rest) client s hears gives =
    let after = client_frames_are_read.doing deed client (of_octets deed hears.0 gives.0) s in (after.1, all_framed rest (done deed client) after.0 hears.1 gives.1)

-- ---- both hosts over their links

client_new : (settings : Settings) (circumstances : List Circumstance) (event : LinkEvent) (v : Channels) (p : ClientProfile) → (turned (client_profile settings) circumstances event v p).endpoints ≡ []
client_new settings circumstances Up v p = refl
client_new settings circumstances (Down reason) v p = refl

module _ (set : Set) where
  server_new : (circumstances : List Circumstance) (event : LinkEvent) (v : Channels) (p : ServerProfile) → (turned (server_profile set.settings set.content) circumstances event v p).endpoints ≡ []
  server_new circumstances Up v p = refl
  server_new circumstances (Down reason) v p = refl

  abbrev TrueOn : OfLink set
  TrueOn number list_a list_b client last_a server last_b a b = TrueTwined set a.weave b.weave client server

  -- what follows on each link of both from that no push begins there
  abbrev OnEach : (near far : ℕ → List channels.Occurrence) → Type 0
  OnEach near far = (number : ℕ) (list_a list_b : List channels.Occurrence) (client last_a : ClientProfile) (server last_b : ServerProfile) (a : Woven (client_profile set.settings) (set.asks.clients set.settings) list_a client last_a)
      (b : Woven (server_profile set.settings set.content) (set.asks.servers set.settings set.content) list_b server last_b) → list_a ≡ near number → list_b ≡ far number → client.endpoints ≡ [] → server.endpoints ≡ []
      → AllByRecursion OpensNone a.weave → TrueTwined set a.weave b.weave client server

  module _ (near far : ℕ → List channels.Occurrence) (each : OnEach near far) where
    new_client : (one : Span) (client : ClientProfile) (fed : FedSpan (client_profile set.settings) (set.asks.clients set.settings) one client) → (behind_span (client_profile set.settings) (set.asks.clients set.settings) one client fed).endpoints ≡ []
    new_client one client fed = client_new set.settings fed.circumstances one.event (values_after (client_profile set.settings).policy no_channels one.list) fed.mid

    new_server : (one : Span) (server : ServerProfile) (fed : FedSpan (server_profile set.settings set.content) (set.asks.servers set.settings set.content) one server) → (behind_span (server_profile set.settings set.content) (set.asks.servers set.settings set.content) one server fed).endpoints ≡ []
    new_server one server fed = server_new fed.circumstances one.event (values_after (server_profile set.settings set.content).policy no_channels one.list) fed.mid

    all_true : (number : ℕ → ℕ) (spans_a : List Span) (now_a : List channels.Occurrence) (feeds_a : List Feed) (client last_a : ClientProfile) (spans_b : List Span) (now_b : List channels.Occurrence) (feeds_b : List Feed) (server last_b : ServerProfile)
        (a : AreFed (client_profile set.settings) (set.asks.clients set.settings) spans_a now_a feeds_a client last_a) (b : AreFed (server_profile set.settings set.content) (set.asks.servers set.settings set.content) spans_b now_b feeds_b server last_b)
        → ((k : ℕ) → get_or (lists_of spans_a now_a) k [] ≡ near (number k)) → ((k : ℕ) → get_or (lists_of spans_b now_b) k [] ≡ far (number k))
        → AreLinked set (OpensOn set) number spans_a now_a feeds_a client last_a spans_b now_b feeds_b server last_b a b
        → AreLinked set TrueOn number spans_a now_a feeds_a client last_a spans_b now_b feeds_b server last_b a b
    all_true number spans_a now_a feeds_a client last_a [] now_b feeds_b server last_b a b at_a at_b linked = tt
    all_true number [] now_a feeds_a client last_a (other ∷ []) now_b feeds_b server last_b a b at_a at_b linked = linked
    all_true number [] now_a feeds_a client last_a (other ∷ far_link ∷ spans_b) now_b feeds_b server last_b a b at_a at_b linked = absurd linked
    all_true number (one ∷ []) now_a feeds_a client last_a (other ∷ []) now_b feeds_b server last_b (here_a, later_a, is_a, a) (here_b, later_b, is_b, b) at_a at_b (wants, opens) =
        (wants, each (number 1) now_a now_b _ _ _ _ a.woven b.woven (at_a 1) (at_b 1) (new_client one client here_a) (new_server other server here_b) opens)
    all_true number (one ∷ link ∷ spans_a) now_a feeds_a client last_a (other ∷ []) now_b feeds_b server last_b (here_a, later_a, is_a, (link_a, rest_a, are_a, a)) (here_b, later_b, is_b, b) at_a at_b (wants, opens) =
        (wants, each (number 1) link.list now_b _ _ _ _ link_a.so.woven b.woven (at_a 1) (at_b 1) (new_client one client here_a) (new_server other server here_b) opens)
    all_true number (one ∷ []) now_a feeds_a client last_a (other ∷ far_link ∷ spans_b) now_b feeds_b server last_b (here_a, later_a, is_a, a) (here_b, later_b, is_b, (link_b, rest_b, are_b, b)) at_a at_b (wants, last, opens) =
        (wants, last, each (number 1) now_a far_link.list _ _ _ _ a.woven link_b.so.woven (at_a 1) (at_b 1) (new_client one client here_a) (new_server other server here_b) opens)
    all_true number (one ∷ link ∷ spans_a) now_a feeds_a client last_a (other ∷ far_link ∷ spans_b) now_b feeds_b server last_b (here_a, later_a, is_a, (link_a, rest_a, are_a, a)) (here_b, later_b, is_b, (link_b, rest_b, are_b, b)) at_a at_b (wants, opens, more) =
        let A = client_profile set.settings in
        let B = server_profile set.settings set.content in
        let asks_a = set.asks.clients set.settings in
        let asks_b = set.asks.servers set.settings set.content in (
          wants,
          each (number 1) link.list far_link.list _ _ _ _ link_a.so.woven link_b.so.woven (at_a 1) (at_b 1) (new_client one client here_a) (new_server other server here_b) opens,
          all_true (λ k. number (suc (suc k))) spans_a now_a rest_a (behind_span A asks_a link (behind_span A asks_a one client here_a) link_a) last_a spans_b now_b rest_b (behind_span B asks_b far_link (behind_span B asks_b other server here_b) link_b) last_b a b
              (λ k. at_a (suc (suc k))) (λ k. at_b (suc (suc k))) more,
        )

pub all_over : (shelf : Option (List Object)) (pushes : List Push) → AllByRecursion (IsHeldOver shelf) pushes → AllByRecursion IsPushedOver pushes
all_over shelf [] all = tt
all_over shelf (push ∷ pushes) all = (all.0.0, all_over shelf pushes all.1)

-- ---- of a run

module _ (scenario : Scenario) (before : List Object) (capture : List Entry) (ran : Ran scenario (holding before) capture) (muxed : scenario.settings.transport ≡ Rfcomm) (order : PairsKeepOrder both_ask scenario (holding before) capture ran) where
  abbrev set : Set
  set = over_stored both_ask scenario.settings before

  abbrev near : ℕ → List channels.Occurrence
  near = happened_on (client_profile scenario.settings) (both_ask.clients scenario.settings) sides.A capture ran.world.a.upper order.turns.pairs.a

  abbrev far : ℕ → List channels.Occurrence
  far = happened_on (serving scenario.settings before) (asked_by both_ask scenario.settings before) sides.B capture ran.world.b.upper order.turns.pairs.b

  on_each : OnEach (over_stored both_ask scenario.settings before) near far
  on_each number list_a list_b client last_a server last_b a b is_a is_b client_none server_none opens =
      let settings = scenario.settings in
      let pair = order.turns.pairs.pairs number in
      let within : BothSendWithin both_ask = record { clients = clients_within; servers = servers_within } in
      let plain = plain-pairs_are_pipes both_ask scenario (holding before) capture ran order within number in
      let carried = pairs-are_carried both_ask scenario (holding before) capture ran order.turns.pairs within number in
      let near_said = near-utters scenario before capture ran order number in
      let far_said = far-utters scenario before capture ran order number in
      let last = muxes_end_last rfcomm_psm settings (holding before) (asked_by both_ask settings before) list_b server last_b b (λ psm aside is. aside.1 is) (asks-nothing settings (holding before)) (subst (CarriesOneOn rfcomm_psm (policy settings true)) (sym is_b) (all_carry scenario before capture ran order muxed number)) in
      let all = lift set (joints_from (new_pair (policy settings false) (policy settings true)) pair.turns) a.weave b.weave (new_both client server) (pair.near_list ∙ (sym is_a ∙ a.list_is)) (pair.far_list ∙ (sym is_b ∙ b.list_is)) in
      record {
        muxed = record {
          twists = all.twists;
          near_is = all.near_is;
          far_is = all.far_is;
          opens = opens;
          streams = multiplexers_piped scenario before capture ran order muxed number client server client_none server_none all.twists all.joints_are;
          behind = last;
        };
        search = stays-true search_psm settings (holding before) refl (near number) (far number) pair plain carried near_said far_said client server client_none server_none all.twists all.joints_are;
        direct = stays-true object_psm settings (holding before) refl (near number) (far number) pair plain carried near_said far_said client server client_none server_none all.twists all.joints_are;
      }

  -- all that happened to host b is a list of pushes, of objects of the shelf where that tells what it holds
  pub held_over : (shelf : Option (List Object)) → AllByRecursion GivesOctets order.turns.pairs.a.fed.so.lives.feeds → AllByRecursion (BeginsAtMost longest_octets) order.turns.pairs.a.fed.so.lives.feeds
      → AllAsked (IsGiven shelf) (pushed_from scenario.settings (client_profile scenario.settings).first order.turns.pairs.a.fed.so.lives.feeds) (client_profile scenario.settings).first.client
      → Pushes (IsHeldOver shelf) (served_from scenario.settings (holding before) (serving scenario.settings before).first order.turns.pairs.b.fed.so.lives.feeds) (names_begun (pushed_from scenario.settings (client_profile scenario.settings).first order.turns.pairs.a.fed.so.lives.feeds))
  held_over shelf octets_given small given =
      let settings = scenario.settings in
      let A = client_profile settings in
      let B = serving settings before in
      let pairs = order.turns.pairs in
      let a = pairs.a.fed.so in
      let b = pairs.b.fed.so in
      let octets = both-octets scenario before capture ran order in
      let first : GoodMux settings A.first.client = record { good = good_first settings Rfcomm muxed; numbers = (refl, refl, refl) } in
      let framed = all_framed (pushed_from settings A.first a.lives.feeds) A.first.client (client_frames_are_read.first settings) (affairs_hear settings a.lives.feeds A.first octets.a) (affairs-given settings a.lives.feeds A.first octets_given tt) in
      let so = all-so shelf (pushed_from settings A.first a.lives.feeds) A.first.client (clients_are_answered longest_octets settings A.first a.lives.feeds small) given framed in
      let linked = all_true set near far on_each (λ k. k) a.lives.spans a.lives.now a.lives.feeds A.first ran.world.a.upper.profile b.lives.spans b.lives.now b.lives.feeds B.first ran.world.b.upper.profile
      pairs.a.fed.fed pairs.b.fed.fed (λ k. refl) (λ k. refl) (runs_are_linked both_ask scenario before capture ran order.turns) in
      made set (IsSo shelf) (GoodMux settings) (IsHeldOver shelf) (TrueTwined set) (goes-on shelf settings) (one-push shelf set muxed) (no-push shelf settings muxed set) (λ k. k) a.lives.spans a.lives.now a.lives.feeds A.first ran.world.a.upper.profile
      b.lives.spans b.lives.now b.lives.feeds B.first ran.world.b.upper.profile pairs.a.fed.fed pairs.b.fed.fed linked (subst (AreTimely false) (sym a.lives.marks_are) a.timely) (subst (AreTimely false) (sym b.lives.marks_are) b.timely) refl first so

  pub pushed_over : AllByRecursion GivesOctets order.turns.pairs.a.fed.so.lives.feeds → AllByRecursion (BeginsAtMost longest_octets) order.turns.pairs.a.fed.so.lives.feeds
      → Pushes IsPushedOver (served_from scenario.settings (holding before) (serving scenario.settings before).first order.turns.pairs.b.fed.so.lives.feeds) (names_begun (pushed_from scenario.settings (client_profile scenario.settings).first order.turns.pairs.a.fed.so.lives.feeds))
  pushed_over given small =
      let settings = scenario.settings in
      let A = client_profile settings in
      let feeds = order.turns.pairs.a.fed.so.lives.feeds in
      let all = held_over None given small (given_any longest_octets (pushed_from settings A.first feeds) A.first.client (clients_are_answered longest_octets settings A.first feeds small)) in
      record { pushes = all.pushes; last = all.last; pushed = all_over None all.pushes all.pushed; last_pushed = all.last_pushed.0; is = all.is; named = all.named }

  -- what goes is what host b lends, and its inbox answers so
  pub serves_over : (Are : List Answer → Type 0) → AllByRecursion (InboxAnswers Are) order.turns.pairs.b.fed.so.lives.feeds
      → AllServe Are (new_over scenario.settings before) (served_from scenario.settings (holding before) (serving scenario.settings before).first order.turns.pairs.b.fed.so.lives.feeds)
  serves_over Are answer =
      let settings = scenario.settings in
      let B = serving settings before in
      let pairs = order.turns.pairs in
      let b = pairs.b.fed.so in
      let octets = both-octets scenario before capture ran order in
      let said = all_say_so settings (holding before) b.lives.feeds B.first (server_frames_are_said.first settings (holding before)) octets.b in
      let packets = all_packets settings (holding before) (asked_by both_ask settings before) b.lives.spans b.lives.now b.lives.feeds B.first ran.world.b.upper.profile pairs.b.fed.fed (all_carry scenario before capture ran order muxed) in
      serves-so Are (served_from settings (holding before) B.first b.lives.feeds) (new_over settings before) (serve_from Are settings (holding before) b.lives.feeds B.first answer said packets)

  pub hears_all : HeardAnswer both_ask scenario before capture ran order → AllAreHeard both_ask scenario before capture ran order
  hears_all answer =
      let settings = scenario.settings in
      let all = pushed_over answer.given answer.small in
      subst (AllMayCome settings [] (new_over settings before)) (sym all.is)
      (pushed-are_heard settings before all.pushes all.last all.pushed all.last_pushed (subst (AllServe AllGranted (new_over settings before)) all.is (serves_over AllGranted answer.granted)))

  serves_heard : ServesHeardRuns both_ask scenario before capture ran
  serves_heard = record {
    order = order;
    heard = hears_all;
    gained = λ answer. gains-carried scenario before capture ran muxed order (hears_all answer);
  }

pub runs_serve_heard : RunsServeHeard
runs_serve_heard = record {
  asks = both_ask;
  runs = λ scenario before capture ran muxed gentle. serves_heard scenario before capture ran muxed (runs-keep_order both_ask scenario (holding before) capture ran gentle);
}

-- where besides the inbox grants all
pub runs_serve_heard_granted : RunsServeHeardGranted
unfolding serves_heard
runs_serve_heard_granted = record {
  asks = both_ask;
  runs = λ scenario before capture ran muxed gentle happened.
      let so = granted-keep_order both_ask scenario (holding before) capture ran happened gentle in
      record { heard = serves_heard scenario before capture ran muxed so.order; granted = all_granted so.order.turns.pairs.b.fed.so.lives.feeds so.given };
}
