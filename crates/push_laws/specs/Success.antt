-- A push is done exactly where the final PUT of its object is answered with success (IrOBEX 1.5, 3.2.1 and 3.3.3; Object Push
-- Profile 1.2, 4.3).
use Rattle.std.specs.Prelude.{ℕ, ◌≡◌, true, false, List, ◌∷◌, ◌++◌, Some, None, Ok}
use Rattle.link_talk.specs.bt_base.specs.declared.settings.Transport.{Transport}
use Rattle.link_talk.specs.bt_base.specs.declared.settings.Transport.TheVariants.{L2cap, Rfcomm}
use Rattle.link_talk.specs.push_terms.specs.declared.outcome.Outcome.TheVariants.{Done}
use Rattle.push_model.specs.obex_headers.specs.declared.packet.Phase.TheVariants.{Response}
use Rattle.push_model.specs.obex_headers.specs.Packets.{PlainPacket}
use Rattle.push_model.specs.obex_headers.specs.Reading.{packet_in}
use Rattle.push_model.specs.obex_session.specs.declared.client.Answered.TheVariants.{Go}
use Rattle.push_model.specs.obex_session.specs.Asking.{Asking}
use Rattle.push_model.specs.obex_session.specs.Marks.{marks_of}
use Rattle.push_model.specs.obex_session.specs.NextPut.{put_request}
use Rattle.push_model.specs.obex_session.specs.Views.{answer_at}
use Rattle.push_model.specs.rfcomm_model.specs.Hearing.{bytes, up}
use Rattle.push_model.specs.declared.course.Stage.TheVariants.{Object}
use Rattle.push_model.specs.Client.{Client}
use Rattle.push_model.specs.Events.{News, LinkUp, LinkDown, LinkFailed, ChannelOpen, ChannelClosed, Sdu, FeaturesTold, FeaturesLost, Timer}
use Rattle.push_model.specs.Laws.{Deed, Hears, Asks, Finishes, Cancels, all_done}
use Rattle.push_model.specs.Streams.{Whole, front_of}

-- a response of success, without parameters of single response mode
pub record IsSuccess (maximum : ℕ) (packet : List ℕ) : Type 0 where
  pub read : PlainPacket
  pub is : packet_in Response maximum packet ≡ Ok read
  pub code : read.code ≡ 0xA0
  pub plain : (marks_of read.headers).parameters ≡ false

-- it comes to a client whose final PUT went to its last octet and has no response
pub record AnswersFinalPut (packet : List ℕ) (client : Client) : Type 0 where
  pub awaited : client.session.awaited ≡ Some (put_request false true false)
  pub sent : client.going ≡ false
  pub success : IsSuccess client.session.maximum packet

-- an SDU brings a packet: over L2CAP it is one, and over RFCOMM its octets make one whole behind those that came before
abbrev pub Brings : Transport → List ℕ → Client → List ℕ → Type 0
Brings L2cap sdu client packet = sdu ≡ packet
Brings Rfcomm sdu client packet = (octets : List ℕ) × (rest : List ℕ) × (up sdu client.mux ≡ bytes octets) × (front_of client.session.maximum (client.held ++ octets) ≡ Whole packet rest)

pub record IsToldSuccess (psm : ℕ) (sdu : List ℕ) (client : Client) : Type 0 where
  pub stage : client.stage ≡ Object
  pub here : psm ≡ client.psm
  pub packet : List ℕ
  pub brings : Brings client.transport sdu client packet
  pub answers : AnswersFinalPut packet client

abbrev pub TellsSuccess : News → Client → Type 0
TellsSuccess LinkUp client = ⊥
TellsSuccess (LinkDown reason) client = ⊥
TellsSuccess (LinkFailed status) client = ⊥
TellsSuccess (ChannelOpen psm mtu) client = ⊥
TellsSuccess (ChannelClosed psm cause) client = ⊥
TellsSuccess (Sdu psm octets) client = IsToldSuccess psm octets client
TellsSuccess FeaturesTold client = ⊥
TellsSuccess FeaturesLost client = ⊥
TellsSuccess Timer client = ⊥

abbrev pub HearsSuccess : Deed → Client → Type 0
HearsSuccess (Hears news) client = TellsSuccess news client
HearsSuccess (Asks parts) client = ⊥
HearsSuccess Finishes client = ⊥
HearsSuccess Cancels client = ⊥

-- success to the final PUT is heard, and no cause came before it
pub record SuccessIsHeard (deeds : List Deed) (client : Client) : Type 0 where
  pub before : List Deed
  pub deed : Deed
  pub after : List Deed
  pub parts : deeds ≡ before ++ deed ∷ after
  pub first : (all_done before client).cause ≡ None
  pub heard : HearsSuccess deed (all_done before client)

pub record IsDoneExactly (deeds : List Deed) (client : Client) : Type 0 where
  pub only : (all_done deeds client).cause ≡ Some Done → SuccessIsHeard deeds client
  pub always : SuccessIsHeard deeds client → (all_done deeds client).cause ≡ Some Done

-- From where a push has no cause it is done exactly where that is heard; and with no response to its final PUT it goes on.
pub record DoneExactly : Type 0 where
  pub done : (deeds : List Deed) (client : Client) → client.cause ≡ None → IsDoneExactly deeds client
  pub final : (session : Asking) (packet : List ℕ) → answer_at (Some (put_request false true false)) session packet ≡ Some Go → ⊥
