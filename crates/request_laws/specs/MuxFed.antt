-- Both hosts over all their links, whose clients push over RFCOMM (Object Push Profile 1.2, 4.3; RFCOMM 1.2, 2.1; IrOBEX 1.5, 3.2).
use Rattle.std.specs.Prelude.{◌≡◌, List, [], ◌∷◌, Option, Some}
use Rattle.std.specs.List.{AllByRecursion, flat_map}
use Rattle.pair_laws.specs.bt_base.specs.declared.settings.Settings.{Settings}
use Rattle.pair_laws.specs.bt_base.specs.declared.settings.Transport.TheVariants.{Rfcomm}
use Rattle.pair_laws.specs.bt_base.specs.Objects.{Contents, Object}
use Rattle.pair_laws.specs.push_model.specs.Client.{Client}
use Rattle.pair_laws.specs.push_model.specs.Payloads.{IsSaid}
use Rattle.pair_laws.specs.push_model.specs.Server.{Lent, lends, lent_sdu, rfcomm_psm}
use Rattle.pair_laws.specs.push_laws.specs.Carriage.{frames_by}
use Rattle.pair_laws.specs.push_laws.specs.Dialogs.{NameServer, NoPacket}
use Rattle.pair_laws.specs.push_laws.specs.Laws.{new_over}
use Rattle.pair_laws.specs.push_laws.specs.Opening.{targets_by}
use Rattle.pair_laws.specs.push_laws.specs.Premises.{AllMayCome}
use Rattle.pair_laws.specs.world_model.specs.Talks.{Talk}
use Rattle.pair_laws.specs.host_model.specs.Clients.{ClientProfile, client_profile}
use Rattle.pair_laws.specs.host_model.specs.Hosts.{Host}
use Rattle.pair_laws.specs.host_model.specs.Pdus.{sdu_of}
use Rattle.pair_laws.specs.host_model.specs.Servers.{ServerProfile, server_profile}
use Rattle.pair_laws.specs.shelf_model.specs.Held.{longest_octets}
use Rattle.pair_laws.specs.host_laws.specs.Answered.{BeginsAtMost}
use Rattle.pair_laws.specs.host_laws.specs.Calls.{HostsAsk}
use Rattle.pair_laws.specs.host_laws.specs.Fed.{TalksFed}
use Rattle.pair_laws.specs.host_laws.specs.Feeds.{Feed, Gifts, Learns, Receives, Happens, Sent, Steps, fed}
use Rattle.pair_laws.specs.host_laws.specs.Pushing.{Affair, Begins, Does, pushed_from, AllAsked}
use Rattle.pair_laws.specs.host_laws.specs.Serving.{served_from}
use Rattle.pair_laws.specs.host_laws.specs.Woven.{Strand}
use Rattle.request_laws.specs.BothFed.{GrantsAll, OfLink, AreLinked, over_stored}
use Rattle.request_laws.specs.Carried.{IsReadSo, NoneComesBehind}
use Rattle.request_laws.specs.Streams.{no_streams, AllStayStreams}
use Rattle.request_laws.specs.Twists.{Twist, of_client, of_server, Set, new_both, served_on, OpensNone}

-- ---- the client

-- what the client hears of the service names the server's channel, and each frame that it sends is read so
abbrev pub IsMuxAsked : Affair → Client → Type 0
IsMuxAsked (Begins size name) client = Unit {0}
IsMuxAsked (Does deed) client = NameServer (targets_by deed client) × AllByRecursion IsReadSo (frames_by deed client)

-- ---- the server

-- the octets of what it lends are those that spell it
abbrev pub SaysSo : ServerProfile → Feed → Type 0
SaysSo p (Gifts circumstances) = Unit {0}
SaysSo p (Learns circumstances news) = Unit {0}
SaysSo p (Receives own psm sdu) = Unit {0}
SaysSo p (Happens event v) = Unit {0}
SaysSo p (Sent v) = Unit {0}
SaysSo p (Steps v) = (lent : Lent) → lent_sdu (lends p.server) ≡ Some lent → IsSaid lent.payload (sdu_of lent.payload)

abbrev pub AllSaySo : Settings → Option Contents → ServerProfile → List Feed → Type 0
AllSaySo settings content p [] = Unit {0}
AllSaySo settings content p (feed ∷ feeds) = SaysSo p feed × AllSaySo settings content (fed (server_profile settings content) p feed) feeds

-- ---- on a link

-- Both went through this while a link was up, and no push began meanwhile: at each moment the channels of their multiplexers were pipes, and
-- nothing came to the server behind the end of its channel.
pub record MuxTwined (set : Set) (near far : List Strand) (client : ClientProfile) (server : ServerProfile) : Type 0 where
  pub twists : List Twist
  pub near_is : flat_map of_client twists ≡ near
  pub far_is : flat_map of_server twists ≡ far
  pub opens : AllByRecursion OpensNone near
  pub streams : AllStayStreams rfcomm_psm set twists (new_both client server) no_streams
  pub behind : NoneComesBehind rfcomm_psm (served_on set far server)

abbrev pub MuxTwinedOn : (set : Set) → OfLink set
MuxTwinedOn set number list_a list_b client last_a server last_b a b = MuxTwined set a.weave b.weave client server

-- ---- the law

-- On each link it was so; the shelf told no object that is longer than a server takes, the client heard of the server's channel, the inbox granted
-- all calls, each frame is read as it was sent, and nothing came over L2CAP.
pub record BothAreCarried (set : Set) (talk_a talk_b : List Talk) (a : Host ClientProfile) (b : Host ServerProfile)
    (near : TalksFed (client_profile set.settings) (set.asks.clients set.settings) talk_a a)
    (far : TalksFed (server_profile set.settings set.content) (set.asks.servers set.settings set.content) talk_b b) : Type 0 where
  pub twined : AreLinked set (MuxTwinedOn set) (λ k. k) near.so.lives.spans near.so.lives.now near.so.lives.feeds (client_profile set.settings).first a.profile
      far.so.lives.spans far.so.lives.now far.so.lives.feeds (server_profile set.settings set.content).first b.profile near.fed far.fed
  pub small : AllByRecursion (BeginsAtMost longest_octets) near.so.lives.feeds
  pub asked : AllAsked IsMuxAsked (pushed_from set.settings (client_profile set.settings).first near.so.lives.feeds) (client_profile set.settings).first.client
  pub granted : AllByRecursion GrantsAll far.so.lives.feeds
  pub said : AllSaySo set.settings set.content (server_profile set.settings set.content).first far.so.lives.feeds
  pub packets : AllByRecursion NoPacket (served_from set.settings set.content (server_profile set.settings set.content).first far.so.lives.feeds)

-- Then no request is ignored over all their links, and all else holds that the laws of a server ask of what may come.
abbrev pub CarriedRequestsAreHeard : Type 0
CarriedRequestsAreHeard = (asks : HostsAsk) (settings : Settings) (before : List Object) → settings.transport ≡ Rfcomm →
    let set = over_stored asks settings before in
    (talk_a talk_b : List Talk) (a : Host ClientProfile) (b : Host ServerProfile)
    (near : TalksFed (client_profile settings) (asks.clients settings) talk_a a) (far : TalksFed (server_profile settings set.content) (asks.servers settings set.content) talk_b b)
    → BothAreCarried set talk_a talk_b a b near far → AllMayCome settings [] (new_over settings before) (served_from settings set.content (server_profile settings set.content).first far.so.lives.feeds)
