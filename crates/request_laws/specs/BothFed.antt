-- Both hosts over all their links, which come up and go down for both at once (Object Push Profile 1.2, 4.3; IrOBEX 1.5, 3.2).
use Rattle.std.specs.Prelude.{ℕ, suc, ◌≡◌, true, List, [], ◌∷◌, Some, None}
use Rattle.std.specs.List.{AllByRecursion}
use Rattle.pair_laws.specs.bt_base.specs.declared.settings.Settings.{Settings}
use Rattle.pair_laws.specs.bt_base.specs.declared.settings.Transport.TheVariants.{L2cap}
use Rattle.pair_laws.specs.bt_base.specs.Objects.{Object}
use Rattle.pair_laws.specs.channel_laws.specs.Runs as channels
use Rattle.pair_laws.specs.obex_session.specs.InboxCalls.{Answer}
use Rattle.pair_laws.specs.push_laws.specs.Laws.{new_over}
use Rattle.pair_laws.specs.push_laws.specs.Occurrences.{Occurrence}
use Rattle.pair_laws.specs.obex_session.specs.InboxCalls.{Answer}
use Rattle.pair_laws.specs.push_laws.specs.Premises.{AllGranted, AllMayCome}
use Rattle.pair_laws.specs.world_model.specs.Machines.{LinkEvent, Up, Down}
use Rattle.pair_laws.specs.world_model.specs.Talks.{Talk}
use Rattle.pair_laws.specs.host_model.specs.Circumstances.{answers_in}
use Rattle.pair_laws.specs.host_model.specs.Clients.{ClientProfile, client_profile}
use Rattle.pair_laws.specs.host_model.specs.Hosts.{Host}
use Rattle.pair_laws.specs.host_model.specs.Servers.{ServerProfile, server_profile}
use Rattle.pair_laws.specs.host_laws.specs.Answered.{BeginsAtMost}
use Rattle.pair_laws.specs.host_laws.specs.Calls.{HostsAsk}
use Rattle.pair_laws.specs.host_laws.specs.Fed.{FedSpan, behind_span, AreFed, TalksFed}
use Rattle.pair_laws.specs.host_laws.specs.Feeds.{Feed, Gifts, Learns, Receives, Happens, Sent, Steps}
use Rattle.pair_laws.specs.host_laws.specs.Gaining.{IsDirect}
use Rattle.pair_laws.specs.host_laws.specs.Lives.{Span}
use Rattle.pair_laws.specs.host_laws.specs.Serving.{served_from}
use Rattle.pair_laws.specs.host_laws.specs.Woven.{Woven}
use Rattle.request_laws.specs.Streams.{come_on}
use Rattle.request_laws.specs.Twists.{Set, Twined}

-- ---- the ports

-- a server takes objects of so many octets at most (this project's own)
abbrev pub most_octets : ℕ
most_octets = 16777215

-- what the inbox is to answer is so
abbrev pub InboxAnswers : (List Answer → Type 0) → Feed → Type 0
InboxAnswers Are (Gifts circumstances) = Are (answers_in circumstances)
InboxAnswers Are (Learns circumstances news) = Unit {0}
InboxAnswers Are (Receives own psm sdu) = Unit {0}
InboxAnswers Are (Happens event v) = Unit {0}
InboxAnswers Are (Sent v) = Unit {0}
InboxAnswers Are (Steps v) = Unit {0}

-- it grants all calls
abbrev pub GrantsAll : Feed → Type 0
GrantsAll = InboxAnswers AllGranted

-- ---- over all links

-- no SDU comes to the server, whatever the PSM
abbrev pub ComesNone : Occurrence → Type 0
ComesNone one = (carrier : ℕ) → come_on carrier one ≡ []

abbrev pub IsDown : LinkEvent → Type 0
IsDown Up = ⊥
IsDown (Down reason) = Unit {0}

-- at the end of the time between two links the client wants one
abbrev pub WantsLink : (set : Set) (near : Span) (client : ClientProfile) → FedSpan (client_profile set.settings) (set.asks.clients set.settings) near client → Type 0
WantsLink set near client a = (client_profile set.settings).wants_link a.mid ≡ true

-- what is asked of what both went through on a link, of its number
abbrev pub OfLink : Set → Type 1
OfLink set = (number : ℕ) (near far : List channels.Occurrence) (client last_a : ClientProfile) (server last_b : ServerProfile)
    → Woven (client_profile set.settings) (set.asks.clients set.settings) near client last_a → Woven (server_profile set.settings set.content) (set.asks.servers set.settings set.content) far server last_b → Type 0

-- What happened to both over their links: between two of them, on one, and so on, from the first moment; a link may be up at the end. Where
-- a run broke off, one of the two may have heard already that its link came up or went down, and the other not yet. The lists of what
-- happened are numbered, those of links with odd numbers.
abbrev pub AreLinked : (set : Set) → OfLink set → (number : ℕ → ℕ) (spans_a : List Span) (now_a : List channels.Occurrence) (feeds_a : List Feed) (client last_a : ClientProfile) (spans_b : List Span) (now_b : List channels.Occurrence) (feeds_b : List Feed) (server last_b : ServerProfile)
    → AreFed (client_profile set.settings) (set.asks.clients set.settings) spans_a now_a feeds_a client last_a
    → AreFed (server_profile set.settings set.content) (set.asks.servers set.settings set.content) spans_b now_b feeds_b server last_b → Type 0
AreLinked set Q number spans_a now_a feeds_a client last_a [] now_b feeds_b server last_b a b = Unit {0}
AreLinked set Q number [] now_a feeds_a client last_a (far ∷ []) now_b feeds_b server last_b a b = AllByRecursion ComesNone (served_from set.settings set.content server feeds_b)
AreLinked set Q number [] now_a feeds_a client last_a (far ∷ far_link ∷ spans_b) now_b feeds_b server last_b a b = ⊥
AreLinked set Q number (near ∷ []) now_a feeds_a client last_a (far ∷ []) now_b feeds_b server last_b (here_a, later_a, is_a, a) (here_b, later_b, is_b, b) =
    let A = client_profile set.settings in
    let B = server_profile set.settings set.content in
    WantsLink set near client here_a
    × Q (number 1) now_a now_b (behind_span A (set.asks.clients set.settings) near client here_a) last_a (behind_span B (set.asks.servers set.settings set.content) far server here_b) last_b a.woven b.woven
AreLinked set Q number (near ∷ near_link ∷ spans_a) now_a feeds_a client last_a (far ∷ []) now_b feeds_b server last_b (here_a, later_a, is_a, (link_a, rest_a, are_a, a)) (here_b, later_b, is_b, b) =
    let A = client_profile set.settings in
    let B = server_profile set.settings set.content in
    WantsLink set near client here_a
    × Q (number 1) near_link.list now_b (behind_span A (set.asks.clients set.settings) near client here_a) link_a.mid (behind_span B (set.asks.servers set.settings set.content) far server here_b) last_b link_a.so.woven b.woven
AreLinked set Q number (near ∷ []) now_a feeds_a client last_a (far ∷ far_link ∷ spans_b) now_b feeds_b server last_b (here_a, later_a, is_a, a) (here_b, later_b, is_b, (link_b, rest_b, are_b, b)) =
    let A = client_profile set.settings in
    let B = server_profile set.settings set.content in
    WantsLink set near client here_a × (spans_b ≡ [])
    × Q (number 1) now_a far_link.list (behind_span A (set.asks.clients set.settings) near client here_a) last_a (behind_span B (set.asks.servers set.settings set.content) far server here_b) link_b.mid a.woven link_b.so.woven
AreLinked set Q number (near ∷ near_link ∷ spans_a) now_a feeds_a client last_a (far ∷ far_link ∷ spans_b) now_b feeds_b server last_b (here_a, later_a, is_a, (link_a, rest_a, are_a, a)) (here_b, later_b, is_b, (link_b, rest_b, are_b, b)) =
    let A = client_profile set.settings in
    let B = server_profile set.settings set.content in
    let asks_a = set.asks.clients set.settings in
    let asks_b = set.asks.servers set.settings set.content in
    let client_up = behind_span A asks_a near client here_a in
    let server_up = behind_span B asks_b far server here_b in
    WantsLink set near client here_a
    × Q (number 1) near_link.list far_link.list client_up link_a.mid server_up link_b.mid link_a.so.woven link_b.so.woven
    × AreLinked set Q (λ k. number (suc (suc k))) spans_a now_a rest_a (behind_span A asks_a near_link client_up link_a) last_a spans_b now_b rest_b (behind_span B asks_b far_link server_up link_b) last_b a b

-- on each link what both went through stands in one order, along which their channels of the object were pipes
abbrev pub TwinedOn : (set : Set) → OfLink set
TwinedOn set number near far client last_a server last_b a b = Twined set a.weave b.weave client server

abbrev pub AreTwined : (set : Set) (number : ℕ → ℕ) (spans_a : List Span) (now_a : List channels.Occurrence) (feeds_a : List Feed) (client last_a : ClientProfile) (spans_b : List Span) (now_b : List channels.Occurrence) (feeds_b : List Feed) (server last_b : ServerProfile)
    → AreFed (client_profile set.settings) (set.asks.clients set.settings) spans_a now_a feeds_a client last_a
    → AreFed (server_profile set.settings set.content) (set.asks.servers set.settings set.content) spans_b now_b feeds_b server last_b → Type 0
AreTwined set number spans_a now_a feeds_a client last_a spans_b now_b feeds_b server last_b a b = AreLinked set (TwinedOn set) number spans_a now_a feeds_a client last_a spans_b now_b feeds_b server last_b a b

-- ---- the law

-- an inbox that stored these at first
abbrev pub over_stored : HostsAsk → Settings → List Object → Set
over_stored asks settings before = record { asks = asks; settings = settings; content = Some (record { stored = before; pending = None }) }

-- On each link the channels of the object were pipes at each moment; the shelf told no object that is longer than a server takes, and the
-- inbox granted all calls.
pub record BothAreHeard (set : Set) (talk_a talk_b : List Talk) (a : Host ClientProfile) (b : Host ServerProfile)
    (near : TalksFed (client_profile set.settings) (set.asks.clients set.settings) talk_a a)
    (far : TalksFed (server_profile set.settings set.content) (set.asks.servers set.settings set.content) talk_b b) : Type 0 where
  pub twined : AreTwined set (λ k. k) near.so.lives.spans near.so.lives.now near.so.lives.feeds (client_profile set.settings).first a.profile
      far.so.lives.spans far.so.lives.now far.so.lives.feeds (server_profile set.settings set.content).first b.profile near.fed far.fed
  pub small : AllByRecursion (BeginsAtMost most_octets) near.so.lives.feeds
  pub granted : AllByRecursion GrantsAll far.so.lives.feeds

-- Then no request is ignored over all their links, where nothing comes or goes over RFCOMM.
abbrev pub RequestsOfLinksAreHeard : Type 0
RequestsOfLinksAreHeard = (asks : HostsAsk) (settings : Settings) (before : List Object) → settings.transport ≡ L2cap →
    let set = over_stored asks settings before in
    (talk_a talk_b : List Talk) (a : Host ClientProfile) (b : Host ServerProfile)
    (near : TalksFed (client_profile settings) (asks.clients settings) talk_a a) (far : TalksFed (server_profile settings set.content) (asks.servers settings set.content) talk_b b)
    → BothAreHeard set talk_a talk_b a b near far → AllByRecursion IsDirect (served_from settings set.content (server_profile settings set.content).first far.so.lives.feeds)
    → AllMayCome settings [] (new_over settings before) (served_from settings set.content (server_profile settings set.content).first far.so.lives.feeds)
