-- A client and a server of Object Push over RFCOMM: the requests of the client come one at a time (IrOBEX 1.5, 2.2 and 3.2; Object Push
-- Profile 1.2, 4.3).
use Rattle.std.specs.Prelude.{◌≡◌, ◌≤◌, ◌<◌, ◌^◌, Some, false, List, [], ◌∷◌}
use Rattle.std.specs.List.{AllByRecursion}
use Rattle.link_talk.specs.bt_base.specs.Objects.{Object as Stored}
use Rattle.link_talk.specs.bt_base.specs.declared.settings.Settings.{Settings}
use Rattle.link_talk.specs.bt_base.specs.declared.settings.Transport.TheVariants.{Rfcomm}
use Rattle.push_model.specs.obex_session.specs.InboxCalls.{Answer}
use Rattle.push_model.specs.rfcomm_frames.specs.declared.connection.Role.TheVariants.{Initiator}
use Rattle.push_model.specs.rfcomm_model.specs.Machine.{Mux}
use Rattle.push_model.specs.sdp_elements.specs.declared.target.Target.{Target}
use Rattle.push_model.specs.Client.{Client, own_maximum}
use Rattle.push_model.specs.Laws.{Deed, all_done}
use Rattle.push_model.specs.Server.{Reacted, object_psm, server_channel}
use Rattle.push_model.specs.Shown.{way_of}
use Rattle.push_laws.specs.Carriage.{no_carriage, StayCarried}
use Rattle.push_laws.specs.Laws.{new_over}
use Rattle.push_laws.specs.Occurrences.{Occurrence, Came, Went, Closed, LinkDown, Asked, Answering, done, IsOwn}
use Rattle.push_laws.specs.Opening.{targets_heard}
use Rattle.push_laws.specs.Parties.{Push, begun_of, client_side, over_pushes}
use Rattle.push_laws.specs.Premises.{AllGranted, NoneShort, AnswersAre, AllMayCome, AllMayFail}
use Rattle.push_laws.specs.Sending.{AllAnswer, MayPush}

-- nothing comes over L2CAP
abbrev pub NoPacket : Occurrence → Type 0
NoPacket (Came psm sdu) = psm ≡ object_psm → ⊥
NoPacket (Went psm sdu) = Unit {0}
NoPacket (Closed psm) = Unit {0}
NoPacket LinkDown = Unit {0}
NoPacket Asked = Unit {0}
NoPacket (Answering answers) = Unit {0}

-- what a client heard of the service names the server's channel over RFCOMM
abbrev pub NameServer : List Target → Type 0
NameServer targets = AllByRecursion (λ target. way_of Rfcomm target ≡ Some server_channel) targets

-- A push over RFCOMM on a link of its own, by a client whose multiplexer is an initiator and which hears of the server's channel, if of one. What
-- the multiplexers carry is a front of what went, both ways, and its shelf answers with as many octets as it was asked for. It wants no single
-- response mode, and takes itself no packets that are longer than those of the server.
pub record IsCarried (settings : Settings) (push : Push) : Type 0 where
  pub muxed : push.client.transport ≡ Rfcomm
  pub role : push.client.mux.role ≡ Initiator
  pub fits : push.client.mux.largest < 2 ^ 16
  pub some : 1 ≤ push.client.mux.account.cap
  pub few : push.client.mux.account.cap ≤ 40
  pub named : NameServer (targets_heard (client_side push.moves) (begun_of push))
  pub carried : StayCarried push.moves (begun_of push) no_carriage
  pub may : MayPush push.client push.name push.size
  pub plain : push.client.session.wanted ≡ false
  pub within : push.client.session.maximum ≤ own_maximum Rfcomm settings
  pub answers : AllAnswer push.content (client_side push.moves) (begun_of push)

-- what goes is what the server lends, its inbox answers so, and nothing comes over L2CAP
pub record ServesCarried (Are : List Answer → Type 0) (at : Reacted) (one : Occurrence) : Type 0 where
  pub own : IsOwn one at.server
  pub answers : AnswersAre Are one
  pub carried : NoPacket one

abbrev pub AllServeCarried : (List Answer → Type 0) → Reacted → List Occurrence → Type 0
AllServeCarried Are at [] = Unit {0}
AllServeCarried Are at (one ∷ rest) = ServesCarried Are at one × AllServeCarried Are (done one at) rest

-- ---- the laws

-- Whatever becomes of the pushes, no request is ignored, and all else holds that the laws of a server ask of what may come.
abbrev pub CarriedAreHeard : Type 0
CarriedAreHeard = (settings : Settings) (before : List Stored) (pushes : List Push) (last : Push) → AllByRecursion (IsCarried settings) pushes → IsCarried settings last → AllServeCarried AllGranted (new_over settings before) (over_pushes pushes last)
    → AllMayCome settings [] (new_over settings before) (over_pushes pushes last)

-- So it is where calls of the inbox fail, but not for want of memory.
abbrev pub CarriedAreTaken : Type 0
CarriedAreTaken = (settings : Settings) (before : List Stored) (pushes : List Push) (last : Push) → AllByRecursion (IsCarried settings) pushes → IsCarried settings last → AllServeCarried NoneShort (new_over settings before) (over_pushes pushes last)
    → AllMayFail settings [] (new_over settings before) (over_pushes pushes last)

-- ---- from push to push

-- the side of a multiplexer, its room, and the credits that its peer is to have
abbrev pub SameNumbers : Mux → Mux → Type 0
SameNumbers before after = (after.role ≡ before.role) × (after.largest ≡ before.largest) × (after.account.cap ≡ before.account.cap)

-- Whatever a client over RFCOMM hears and does, it stays one, and its multiplexer keeps these.
abbrev pub MultiplexersStay : Type 0
MultiplexersStay = (client : Client) (list : List Deed) → client.transport ≡ Rfcomm → ((all_done list client).transport ≡ Rfcomm) × SameNumbers client.mux (all_done list client).mux

-- So behind a push its client is such a one again, for the same packets.
pub record IsSuchAgain (before after : Client) : Type 0 where
  pub muxed : after.transport ≡ Rfcomm
  pub numbers : SameNumbers before.mux after.mux
  pub maximum : after.session.maximum ≡ before.session.maximum
  pub wanted : after.session.wanted ≡ before.session.wanted

abbrev pub ClientsStay : Type 0
ClientsStay = (settings : Settings) (push : Push) → IsCarried settings push → IsSuchAgain push.client (all_done (client_side push.moves) (begun_of push))
