-- What happened to both hosts over their links over L2CAP is a list of pushes, of which each that is done went to the PSM of the object.
use Rattle.std.proofs.Common.{◌≡◌, ◌⊎◌, ℕ, ◌<◌, ◌^◌, suc, length, Some, None, Bool, true, false, eqb, List, [], ◌∷◌, ◌++◌, Option, refl, sym, ap, ap₂, subst, ◌∙◌}
use Rattle.std.specs.Prelude.{get_or}
use Rattle.std.specs.List.{AllByRecursion, flat_map}
use Rattle.std.proofs.lemmas.Bool.{eqb-true}
use Rattle.std.proofs.lemmas.List.Concat.{flat_map-append}
use Rattle.pair_laws.specs.bt_base.specs.declared.settings.Settings.{Settings}
use Rattle.pair_laws.specs.bt_base.specs.declared.settings.Transport.TheVariants.{L2cap}
use Rattle.pair_laws.specs.bt_base.specs.Objects.{Object}
use Rattle.pair_laws.specs.push_script.specs.declared.scenario.Scenario.{Scenario}
use Rattle.pair_laws.specs.push_terms.specs.declared.outcome.Outcome.TheVariants.{Done}
use Rattle.pair_laws.specs.push_terms.specs.declared.word.Side.TheVariants as sides
use Rattle.pair_laws.specs.capture.specs.Entries.{Entry}
use Rattle.pair_laws.specs.sdp_elements.specs.Targets.{is_service_psm}
use Rattle.pair_laws.specs.channel_model.specs.Policies.{policy}
use Rattle.pair_laws.specs.channel_model.specs.Value.{Channels, no_channels}
use Rattle.pair_laws.specs.channel_laws.specs.Frames.{AreUttered}
use Rattle.pair_laws.specs.channel_laws.specs.Runs as channels
use Rattle.pair_laws.specs.push_model.specs.Client.{Client, with_object, new_client}
use Rattle.pair_laws.specs.push_model.specs.Events as events
use Rattle.pair_laws.specs.push_model.specs.Laws.{Deed, Hears, done, all_done}
use Rattle.pair_laws.specs.push_model.specs.Server.{object_psm}
use Rattle.pair_laws.specs.push_laws.specs.Parties.{Push, begun_of}
use Rattle.pair_laws.specs.world_model.specs.Machines.{LinkEvent, Up, Down}
use Rattle.pair_laws.specs.world_model.specs.Talks.{Talk}
use Rattle.pair_laws.specs.host_model.specs.Circumstances.{Circumstance}
use Rattle.pair_laws.specs.host_model.specs.Clients.{ClientProfile, client_profile}
use Rattle.pair_laws.specs.host_model.specs.Hosts.{Host}
use Rattle.pair_laws.specs.host_model.specs.Servers.{ServerProfile, server_profile}
use Rattle.pair_laws.specs.host_laws.specs.Answered.{BeginsAtMost}
use Rattle.pair_laws.specs.host_laws.specs.Calls.{HostsAsk, values_after}
use Rattle.pair_laws.specs.host_laws.specs.Fed.{WovenFed, FedSpan, behind_span, AreFed, TalksFed}
use Rattle.pair_laws.specs.host_laws.specs.Feeds.{Feed}
use Rattle.pair_laws.specs.host_laws.specs.Lives.{Span, on_links}
use Rattle.pair_laws.specs.host_laws.specs.Openings.{names_begun}
use Rattle.pair_laws.specs.host_laws.specs.OverLinks.{talk_marks, AreTimely}
use Rattle.pair_laws.specs.host_laws.specs.Pushing.{pushed_from, AllAsked}
use Rattle.pair_laws.specs.host_laws.specs.Serving.{served_from}
use Rattle.pair_laws.specs.host_laws.specs.ShelfAnswers.{IsGiven}
use Rattle.pair_laws.specs.host_laws.specs.Woven.{Strand, Woven, turned}
use Rattle.pair_laws.specs.host_laws.proofs.Answered.{clients_are_answered}
use Rattle.pair_laws.specs.scenario_laws.specs.Captures.{Ran}
use Rattle.pair_laws.specs.scenario_laws.specs.Gains.{holding, serving, asked_by}
use Rattle.pair_laws.specs.OnLinks.{ArePairs, happened_on}
use Rattle.pair_laws.proofs.Taking.{clients_within, servers_within, pairs-are_carried}
use Rattle.request_laws.specs.BothFed.{OfLink, AreLinked, TwinedOn, AreTwined, over_stored}
use Rattle.request_laws.specs.HandedUp.{handed_for}
use Rattle.request_laws.specs.Streams.{heard_on}
use Rattle.request_laws.specs.Twists.{Set, all_deeds, Twined}
use Rattle.request_laws.proofs.AlongStreams.{at_place}
use Rattle.request_laws.proofs.Beginning.{Good, good_affair, good_first}
use Rattle.request_laws.proofs.Feeding.{behind_deeds}
use Rattle.request_laws.proofs.HandedUp.{weave_heard, handed_from, ups_of}
use Rattle.request_laws.proofs.Heard.{Offered, IsAskedSo, both_asked, one_tied, none_tied}
use Rattle.request_laws.proofs.Latest.{client_of, IsIdle, IsLast, Tied, IsOneTied, IsNoneTied, latest}
use Rattle.request_laws.proofs.OnService.{DoneOn, done_on}
use Rattle.request_laws.proofs.Paired.{lists_of}
use Rattle.request_laws.proofs.Pushes.{pushed_on, deeds_on, silent_up, done_both}
use Rattle.request_laws.proofs.Silent.{AllSilent}
use Rattle.request_laws.proofs.Summing.{both_ask}
use Rattle.request_laws.proofs.Timely.{HearsNothing}
use Rattle.request_laws.proofs.Unserved.{none_comes}

-- ---- on a link

-- nothing comes to the client on a channel to a PSM that a service may have, but to that of the object
abbrev pub HearsServed : Set → List Strand → ClientProfile → Type 0
HearsServed set near client = (psm : ℕ) → is_service_psm psm ≡ true → eqb psm object_psm ≡ false → flat_map (heard_on psm) (all_deeds (pushed_on set near no_channels client)) ≡ []

abbrev pub Sound : Set → List Strand → List Strand → ClientProfile → ServerProfile → Type 0
Sound set near far client server = Twined set near far client server × HearsServed set near client

abbrev pub SoundOn : (set : Set) → OfLink set
SoundOn set number near far client last_a server last_b a b = Sound set a.weave b.weave client server

-- ---- a push

-- where it is done, it went to the PSM of the object
abbrev pub GoesToObject : Push → Type 0
GoesToObject push = (client_of push).cause ≡ Some Done → (client_of push).psm ≡ object_psm

silent_none : (psm : ℕ) (deeds : List Deed) (client : Client) → AllSilent deeds client → flat_map (heard_on psm) deeds ≡ []
silent_none psm [] client silent = refl
silent_none psm (deed ∷ deeds) client silent = ap₂ (λ (a b : List (List ℕ)). a ++ b) (silent.0.heard psm) (silent_none psm deeds (done deed client) silent.1)

module _ (shelf : Option (List Object)) (set : Set) (maximum : ℕ) (wanted : Bool) (most : ℕ) (fits : most < 2 ^ 32) where
  pub one_sound : IsOneTied set (IsAskedSo shelf most) (Good L2cap maximum wanted) (λ push. Offered shelf most push × GoesToObject push) (Sound set)
  one_sound client server names ahead tail near far start good still quiet (twined, served) asked =
      let old = one_tied shelf set maximum wanted most fits client server names ahead tail near far start good still quiet twined asked in
      let affairs = pushed_on set near no_channels client in
      let begun = with_object start.name start.size start.old in
      let deeds = start.deeds ++ Hears events.LinkUp ∷ [] in
      let now : client.client ≡ all_done deeds begun = start.now ∙ sym (done_both start.deeds (Hears events.LinkUp ∷ []) begun) in
      let ends : client_of old.push ≡ all_done (deeds ++ all_deeds affairs) begun =
      old.pushed.1 ∙ (behind_deeds affairs client.client (deeds_on set near no_channels client twined.opens) ∙ (ap (all_done (all_deeds affairs)) now ∙ sym (done_both deeds (all_deeds affairs) begun))) in
      let goes : GoesToObject old.push =
      λ is. to_object deeds (all_deeds affairs) begun (client_of old.push) ends (done_on start.old start.name start.size (deeds ++ all_deeds affairs) start.good.direct (ap (λ (c : Client). c.cause) (sym ends) ∙ is))
      (λ psm. silent_none psm deeds begun (silent_up start.deeds begun start.silent)) served in
      record { push = old.push; named = old.named; pushed = ((old.pushed.0, goes), old.pushed.1); is = old.is }
    where
      to_object : (ahead here : List Deed) (begun last : Client) → last ≡ all_done (ahead ++ here) begun → DoneOn (ahead ++ here) begun → ((psm : ℕ) → flat_map (heard_on psm) ahead ≡ [])
          → ((psm : ℕ) → is_service_psm psm ≡ true → eqb psm object_psm ≡ false → flat_map (heard_on psm) here ≡ []) → last.psm ≡ object_psm
      to_object ahead here begun last ends on silent served = by (eqb on.psm object_psm) refl
        where
          by : (there : Bool) → eqb on.psm object_psm ≡ there → last.psm ≡ object_psm
          by true at = ap (λ (c : Client). c.psm) ends ∙ (on.psm_is ∙ eqb-true on.psm object_psm at)
          by false at =
              absurd (on.heard (flat_map-append (heard_on on.psm) ahead here ∙ ap₂ (λ (a b : List (List ℕ)). a ++ b) (silent on.psm) (served on.psm on.service at)))

  pub none_sound : IsNoneTied (Good L2cap maximum wanted) (λ push. Offered shelf most push × GoesToObject push)
  none_sound client occurrences good quiet =
      let old = none_tied shelf maximum wanted most fits client occurrences good quiet in
      record { push = old.push; named = old.named; pushed = ((old.pushed.0, λ is. absurd (fresh old.push old.pushed.1 is)), old.pushed.1); is = old.is }
    where
      fresh : (push : Push) → IsIdle push → (client_of push).cause ≡ Some Done → ⊥
      fresh push idle is = let never : None ≡ Some Done = sym (ap (λ (side : List Deed). (all_done side (begun_of push)).cause) idle) ∙ is in cc

-- ---- over all links

module _ (set : Set) (near far : ℕ → List channels.Occurrence)
    (each : (number : ℕ) (list_a list_b : List channels.Occurrence) (client last_a : ClientProfile) (server last_b : ServerProfile) (a : Woven (client_profile set.settings) (set.asks.clients set.settings) list_a client last_a)
    (b : Woven (server_profile set.settings set.content) (set.asks.servers set.settings set.content) list_b server last_b) → list_a ≡ near number → list_b ≡ far number → server.endpoints ≡ [] → Twined set a.weave b.weave client server → HearsServed set a.weave client) where
  new_server : (one : Span) (server : ServerProfile) (fed : FedSpan (server_profile set.settings set.content) (set.asks.servers set.settings set.content) one server) → (behind_span (server_profile set.settings set.content) (set.asks.servers set.settings set.content) one server fed).endpoints ≡ []
  new_server one server fed = by fed.circumstances one.event (values_after (server_profile set.settings set.content).policy no_channels one.list) fed.mid
    where
      by : (circumstances : List Circumstance) (event : LinkEvent) (v : Channels) (p : ServerProfile) → (turned (server_profile set.settings set.content) circumstances event v p).endpoints ≡ []
      by circumstances Up v p = refl
      by circumstances (Down reason) v p = refl

  all_sound : (number : ℕ → ℕ) (spans_a : List Span) (now_a : List channels.Occurrence) (feeds_a : List Feed) (client last_a : ClientProfile) (spans_b : List Span) (now_b : List channels.Occurrence) (feeds_b : List Feed) (server last_b : ServerProfile)
      (a : AreFed (client_profile set.settings) (set.asks.clients set.settings) spans_a now_a feeds_a client last_a) (b : AreFed (server_profile set.settings set.content) (set.asks.servers set.settings set.content) spans_b now_b feeds_b server last_b)
      → ((k : ℕ) → get_or (lists_of spans_a now_a) k [] ≡ near (number k)) → ((k : ℕ) → get_or (lists_of spans_b now_b) k [] ≡ far (number k))
      → AreLinked set (TwinedOn set) number spans_a now_a feeds_a client last_a spans_b now_b feeds_b server last_b a b
      → AreLinked set (SoundOn set) number spans_a now_a feeds_a client last_a spans_b now_b feeds_b server last_b a b
  all_sound number spans_a now_a feeds_a client last_a [] now_b feeds_b server last_b a b at_a at_b linked = tt
  all_sound number [] now_a feeds_a client last_a (other ∷ []) now_b feeds_b server last_b a b at_a at_b linked = linked
  all_sound number [] now_a feeds_a client last_a (other ∷ far_link ∷ spans_b) now_b feeds_b server last_b a b at_a at_b linked = absurd linked
  all_sound number (one ∷ []) now_a feeds_a client last_a (other ∷ []) now_b feeds_b server last_b (here_a, later_a, is_a, a) (here_b, later_b, is_b, b) at_a at_b (wants, twined) =
      (wants, (twined, each (number 1) now_a now_b _ _ _ _ a.woven b.woven (at_a 1) (at_b 1) (new_server other server here_b) twined))
  all_sound number (one ∷ link ∷ spans_a) now_a feeds_a client last_a (other ∷ []) now_b feeds_b server last_b (here_a, later_a, is_a, (link_a, rest_a, are_a, a)) (here_b, later_b, is_b, b) at_a at_b (wants, twined) =
      (wants, (twined, each (number 1) link.list now_b _ _ _ _ link_a.so.woven b.woven (at_a 1) (at_b 1) (new_server other server here_b) twined))
  all_sound number (one ∷ []) now_a feeds_a client last_a (other ∷ far_link ∷ spans_b) now_b feeds_b server last_b (here_a, later_a, is_a, a) (here_b, later_b, is_b, (link_b, rest_b, are_b, b)) at_a at_b (wants, last, twined) =
      (wants, last, (twined, each (number 1) now_a far_link.list _ _ _ _ a.woven link_b.so.woven (at_a 1) (at_b 1) (new_server other server here_b) twined))
  all_sound number (one ∷ link ∷ spans_a) now_a feeds_a client last_a (other ∷ far_link ∷ spans_b) now_b feeds_b server last_b (here_a, later_a, is_a, (link_a, rest_a, are_a, a)) (here_b, later_b, is_b, (link_b, rest_b, are_b, b)) at_a at_b (wants, twined, more) =
      let A = client_profile set.settings in
      let B = server_profile set.settings set.content in
      let asks_a = set.asks.clients set.settings in
      let asks_b = set.asks.servers set.settings set.content in (
        wants,
        (twined, each (number 1) link.list far_link.list _ _ _ _ link_a.so.woven link_b.so.woven (at_a 1) (at_b 1) (new_server other server here_b) twined),
        all_sound (λ k. number (suc (suc k))) spans_a now_a rest_a (behind_span A asks_a link (behind_span A asks_a one client here_a) link_a) last_a spans_b now_b rest_b (behind_span B asks_b far_link (behind_span B asks_b other server here_b) link_b) last_b a b
            (λ k. at_a (suc (suc k))) (λ k. at_b (suc (suc k))) more,
      )

-- So it is on each link of a run over L2CAP, wherever it broke off.
abbrev pub AreSound : (scenario : Scenario) (before : List Object) (capture : List Entry) (ran : Ran scenario (holding before) capture) → ArePairs both_ask scenario (holding before) capture ran → Type 0
AreSound scenario before capture ran pairs =
    AreLinked (over_stored both_ask scenario.settings before) (SoundOn (over_stored both_ask scenario.settings before)) (λ k. k) pairs.a.fed.so.lives.spans pairs.a.fed.so.lives.now pairs.a.fed.so.lives.feeds (client_profile scenario.settings).first ran.world.a.upper.profile
    pairs.b.fed.so.lives.spans pairs.b.fed.so.lives.now pairs.b.fed.so.lives.feeds (serving scenario.settings before).first ran.world.b.upper.profile pairs.a.fed.fed pairs.b.fed.fed

module _ (scenario : Scenario) (before : List Object) (capture : List Entry) (ran : Ran scenario (holding before) capture) (pairs : ArePairs both_ask scenario (holding before) capture ran) where
  abbrev near_on : ℕ → List channels.Occurrence
  near_on = happened_on (client_profile scenario.settings) (both_ask.clients scenario.settings) sides.A capture ran.world.a.upper pairs.a

  abbrev far_on : ℕ → List channels.Occurrence
  far_on = happened_on (serving scenario.settings before) (asked_by both_ask scenario.settings before) sides.B capture ran.world.b.upper pairs.b

  each_served : (number : ℕ) (list_a list_b : List channels.Occurrence) (client last_a : ClientProfile) (server last_b : ServerProfile) (a : Woven (client_profile scenario.settings) (both_ask.clients scenario.settings) list_a client last_a)
      (b : Woven (serving scenario.settings before) (asked_by both_ask scenario.settings before) list_b server last_b) → list_a ≡ near_on number → list_b ≡ far_on number → server.endpoints ≡ []
      → Twined (over_stored both_ask scenario.settings before) a.weave b.weave client server → HearsServed (over_stored both_ask scenario.settings before) a.weave client
  each_served number list_a list_b client last_a server last_b a b is_a is_b none twined psm service away =
      let settings = scenario.settings in
      let P = policy settings false in
      let A = client_profile settings in
      let B = serving settings before in
      let near_said = at_place (AreUttered P) tt (on_links A (both_ask.clients settings) (flat_map talk_marks pairs.a.came.talk) ran.world.a.upper pairs.a.fed.so.lives) pairs.a.uttered number in
      let far_said = at_place (AreUttered (policy settings true)) tt (on_links B (asked_by both_ask settings before) (flat_map talk_marks pairs.b.came.talk) ran.world.b.upper pairs.b.fed.so.lives) pairs.b.uttered number in
      let carried = pairs-are_carried both_ask scenario (holding before) capture ran pairs (record { clients = clients_within; servers = servers_within }) number in
      weave_heard psm settings (both_ask.clients settings) a.weave no_channels client twined.opens
      ∙ (ap (handed_from psm P no_channels) (sym a.list_is ∙ is_a) ∙ (ap (handed_for psm) (sym (ups_of P (near_on number)))
      ∙ none_comes psm service away settings (holding before) (near_on number) (far_on number) (pairs.pairs number) carried near_said far_said b.weave server none (sym is_b ∙ b.list_is)))

  pub runs_sound :
      AreTwined (over_stored both_ask scenario.settings before) (λ k. k) pairs.a.fed.so.lives.spans pairs.a.fed.so.lives.now pairs.a.fed.so.lives.feeds (client_profile scenario.settings).first ran.world.a.upper.profile
      pairs.b.fed.so.lives.spans pairs.b.fed.so.lives.now pairs.b.fed.so.lives.feeds (serving scenario.settings before).first ran.world.b.upper.profile pairs.a.fed.fed pairs.b.fed.fed
      → AreSound scenario before capture ran pairs
  runs_sound twined =
      all_sound (over_stored both_ask scenario.settings before) near_on far_on each_served (λ k. k) pairs.a.fed.so.lives.spans pairs.a.fed.so.lives.now pairs.a.fed.so.lives.feeds (client_profile scenario.settings).first ran.world.a.upper.profile
      pairs.b.fed.so.lives.spans pairs.b.fed.so.lives.now pairs.b.fed.so.lives.feeds (serving scenario.settings before).first ran.world.b.upper.profile pairs.a.fed.fed pairs.b.fed.fed (λ k. refl) (λ k. refl) twined

-- What happened to the server is a list of pushes, of which each that is done went to the PSM of the object; and where both hosts are level, and a client that is so came
-- so on a link alone, it came so in the last one of them in which it did anything.
pub links_told : (D : Client → Type 0) (shelf : Option (List Object)) (most : ℕ) → most < 2 ^ 32 → (asks : HostsAsk) (settings : Settings) (before : List Object) → settings.transport ≡ L2cap →
    (let set = over_stored asks settings before in
    let A = client_profile settings in
    ((list : List channels.Occurrence) (feeds : List Feed) (first last : ClientProfile) → WovenFed A (asks.clients settings) list feeds first last → AllByRecursion HearsNothing list → D last.client → D first.client)
    → ((circumstances : List Circumstance) (event : LinkEvent) (v : Channels) (p : ClientProfile) → D (turned A circumstances event v p).client → D p.client)
    → (talk_a talk_b : List Talk) (a : Host ClientProfile) (b : Host ServerProfile)
    (near : TalksFed A (asks.clients settings) talk_a a) (far : TalksFed (server_profile settings set.content) (asks.servers settings set.content) talk_b b)
    → AreLinked set (SoundOn set) (λ k. k) near.so.lives.spans near.so.lives.now near.so.lives.feeds A.first a.profile far.so.lives.spans far.so.lives.now far.so.lives.feeds (server_profile settings set.content).first b.profile near.fed far.fed
    → AllByRecursion (BeginsAtMost most) near.so.lives.feeds → AllAsked (IsGiven shelf) (pushed_from settings A.first near.so.lives.feeds) (new_client settings)
    → Tied (λ push. Offered shelf most push × GoesToObject push) (λ all. length near.so.lives.spans ≡ length far.so.lives.spans → D a.profile.client → (D (new_client settings) × AllByRecursion IsIdle all) ⊎ IsLast D all)
    (served_from settings set.content (server_profile settings set.content).first far.so.lives.feeds) (names_begun (pushed_from settings A.first near.so.lives.feeds)))
links_told D shelf most fits asks settings before direct off turned_off talk_a talk_b a b near far sound small given =
    let set = over_stored asks settings before in
    let maximum = (new_client settings).session.maximum in
    let wanted = (new_client settings).session.wanted in
    let A = client_profile settings in
    let B = server_profile settings set.content in
    latest set (IsAskedSo shelf most) (Good L2cap maximum wanted) (λ push. Offered shelf most push × GoesToObject push) (Sound set) (λ one client asked. good_affair L2cap maximum wanted most fits one client asked.0)
    (one_sound shelf set maximum wanted most fits) (none_sound shelf set maximum wanted most fits) D off turned_off
    (λ k. k) near.so.lives.spans near.so.lives.now near.so.lives.feeds A.first a.profile
    far.so.lives.spans far.so.lives.now far.so.lives.feeds B.first b.profile near.fed far.fed sound (subst (AreTimely false) (sym near.so.lives.marks_are) near.so.timely) (subst (AreTimely false) (sym far.so.lives.marks_are) far.so.timely) refl (good_first settings L2cap direct)
    (both_asked shelf most (pushed_from settings A.first near.so.lives.feeds) A.first.client (clients_are_answered most settings A.first near.so.lives.feeds small) given)
