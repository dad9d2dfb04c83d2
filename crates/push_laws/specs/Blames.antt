-- Where a client finds its peer at fault, in which layer and for which reason, as a table (the numbers of the layers, 1 HCI, 2 L2CAP, 3 SDP, 4 RFCOMM and
-- 5 OBEX, and of the reasons are this project's own).
use Rattle.std.specs.Prelude.{ℕ, ◌≡◌, ◌≢◌, ◌↔◌, ◌<◌, ◌||◌, Bool, true, false, List, [], ◌∷◌, ◌++◌, Some, None, Ok, Err}
use Rattle.std.specs.List.{AllByRecursion}
use Rattle.link_talk.specs.bt_base.specs.declared.settings.Transport.{Transport}
use Rattle.link_talk.specs.bt_base.specs.declared.settings.Transport.TheVariants.{L2cap, Rfcomm}
use Rattle.link_talk.specs.push_terms.specs.declared.outcome.Outcome.TheVariants.{PeerFault}
use Rattle.ertm_model.specs.declared.reason.ErtmReason.{ErtmReason}
use Rattle.ertm_model.specs.declared.reason.ErtmReason.TheVariants.{RetryLimit}
use Rattle.ertm_model.specs.Reasons.{number_of}
use Rattle.push_model.specs.obex_headers.specs.declared.fault.ObexRefusal.{ObexRefusal}
use Rattle.push_model.specs.obex_headers.specs.declared.fault.ObexRefusal.TheVariants as obex
use Rattle.push_model.specs.obex_headers.specs.Packets.{PlainPacket}
use Rattle.push_model.specs.obex_headers.specs.Reading.{packet_in}
use Rattle.push_model.specs.obex_session.specs.declared.asking.Request.{Request}
use Rattle.push_model.specs.obex_session.specs.declared.client.Answered.TheVariants.{Go}
use Rattle.push_model.specs.obex_session.specs.Asking.{Asking, phase_of, awaited_code, answer_to, after_answer}
use Rattle.push_model.specs.obex_session.specs.Marks.{marks_of}
use Rattle.push_model.specs.obex_session.specs.Views.{is_stream}
use Rattle.push_model.specs.rfcomm_model.specs.declared.state.MuxReason.{MuxReason}
use Rattle.push_model.specs.rfcomm_model.specs.declared.state.MuxReason.TheVariants as mux
use Rattle.push_model.specs.rfcomm_model.specs.Hearing.{bytes, closed, up}
use Rattle.push_model.specs.sdp_client.specs.declared.reason.QueryReason.{QueryReason}
use Rattle.push_model.specs.sdp_client.specs.declared.reason.QueryReason.TheVariants as query
use Rattle.push_model.specs.sdp_client.specs.declared.reason.Found.TheVariants as found
use Rattle.push_model.specs.sdp_client.specs.Hearing.{found_at}
use Rattle.push_model.specs.declared.closing.CloseCause.{CloseCause}
use Rattle.push_model.specs.declared.closing.CloseCause.TheVariants as channel
use Rattle.push_model.specs.declared.course.Contact.TheVariants.{Closing}
use Rattle.push_model.specs.declared.course.Point.{Point}
use Rattle.push_model.specs.declared.course.Point.TheVariants.{Asked}
use Rattle.push_model.specs.declared.course.Stage.TheVariants.{Link, Search, ObjectChannel, Object, ObjectEnd}
use Rattle.push_model.specs.Causes.{obex_number}
use Rattle.push_model.specs.Client.{Client}
use Rattle.push_model.specs.Events.{News, LinkFailed, ChannelOpen, ChannelClosed, Sdu, search_psm}
use Rattle.push_model.specs.Laws.{Deed, Hears, all_done}
use Rattle.push_model.specs.Shown.{watched, news_show, shows}
use Rattle.push_model.specs.Streams.{Whole, Broken, front_of}

-- ---- responses (IrOBEX 1.5, 3.1 and 3.2; Generic Object Exchange Profile 2.1, 4.6)

-- the last octet of the request was not sent, or more PUTs of it follow in single response mode
abbrev pub is_unsent : Request → Bool → Bool
is_unsent request going = going || is_stream (Some request)

-- a request waits for its response, and a packet reads so
pub record ReadsAs (packet : List ℕ) (session : Asking) (request : Request) (read : PlainPacket) : Type 0 where
  pub awaited : session.awaited ≡ Some request
  pub is : packet_in (phase_of request) session.maximum packet ≡ Ok read

-- a request waits for its response, and a packet is refused as that
pub record IsRefused (refusal : ObexRefusal) (packet : List ℕ) (session : Asking) : Type 0 where
  pub request : Request
  pub awaited : session.awaited ≡ Some request
  pub is : packet_in (phase_of request) session.maximum packet ≡ Err refusal

-- a packet that comes to a session, while octets of its last request are still to go or none are
pub data ResponseBlames (packet : List ℕ) (session : Asking) (going : Bool) : (reason : ℕ) → Type 0 where
  IsShort : IsRefused obex.Short packet session → ResponseBlames packet session going 1
  HasBadLength : IsRefused obex.BadLength packet session → ResponseBlames packet session going 2
  HasBadHeader : IsRefused obex.BadHeaderLength packet session → ResponseBlames packet session going 3
  HasBadText : IsRefused obex.BadText packet session → ResponseBlames packet session going 4
  IsAboveMaximum : IsRefused obex.AboveMaximum packet session → ResponseBlames packet session going 5
  HasBadVersion : IsRefused obex.BadVersion packet session → ResponseBlames packet session going 6
  -- it has parameters of single response mode (header 98)
  HasParameters : (request : Request) (read : PlainPacket) → ReadsAs packet session request read → (marks_of read.headers).parameters ≡ true → ResponseBlames packet session going 152
  -- no request waits for one
  IsUnawaited : session.awaited ≡ None → ResponseBlames packet session going 153
  -- it is a success to a request that was not wholly sent
  IsEarly : (request : Request) (read : PlainPacket) → ReadsAs packet session request read → (marks_of read.headers).parameters ≡ false → read.code ≡ awaited_code request → is_unsent request going ≡ true → ResponseBlames packet session going 153

-- a stream of packets: one of them blames, and those before it let the client go on (IrOBEX 1.5, 2.2)
pub data StreamBlames (going : Bool) (reason : ℕ) : (stream : List ℕ) (session : Asking) → Type 0 where
  -- its first octets begin no packet
  IsBroken : (stream : List ℕ) (session : Asking) (refusal : ObexRefusal) → front_of session.maximum stream ≡ Broken refusal → reason ≡ obex_number refusal → StreamBlames going reason stream session
  First : (stream : List ℕ) (session : Asking) (packet rest : List ℕ) → front_of session.maximum stream ≡ Whole packet rest → ResponseBlames packet session going reason → StreamBlames going reason stream session
  -- its first packet is a success to a request that was wholly sent
  Later : (stream : List ℕ) (session : Asking) (packet rest : List ℕ) (request : Request) → front_of session.maximum stream ≡ Whole packet rest → session.awaited ≡ Some request → answer_to session.maximum request packet ≡ Go → is_unsent request going ≡ false
      → StreamBlames going reason rest (after_answer session request packet) → StreamBlames going reason stream session

-- over L2CAP an SDU is one packet; over RFCOMM its octets stand behind those that came before
abbrev pub SduBlames : Transport → List ℕ → Client → ℕ → Type 0
SduBlames L2cap sdu client reason = ResponseBlames sdu client.session client.going reason
SduBlames Rfcomm sdu client reason = (octets : List ℕ) × (up sdu client.mux ≡ bytes octets) × StreamBlames client.going reason (client.held ++ octets) client.session

-- ---- what happens

-- a channel that is made or used is closed
pub record IsClosed (cause : CloseCause) (news : News) (client : Client) : Type 0 where
  pub psm : ℕ
  pub is : news ≡ ChannelClosed psm cause
  pub here : watched client.stage client ≡ Some psm

-- the query for the service ends
pub record IsQueryEnded (reason : QueryReason) (news : News) (client : Client) : Type 0 where
  pub octets : List ℕ
  pub is : news ≡ Sdu search_psm octets
  pub stage : client.stage ≡ Search
  pub found : found_at client.query octets ≡ found.Refused reason

-- an SDU comes on the channel of the object, which is open
pub record ComesToObject (transport : Transport) (sdu : List ℕ) (news : News) (client : Client) : Type 0 where
  pub is : news ≡ Sdu client.psm sdu
  pub stage : client.stage ≡ Object
  pub transport_is : client.transport ≡ transport

-- the multiplexer is closed
pub record IsMuxClosed (reason : MuxReason) (news : News) (client : Client) : Type 0 where
  pub sdu : List ℕ
  pub here : ComesToObject Rfcomm sdu news client
  pub closes : up sdu client.mux ≡ closed reason

-- ---- the table

pub data Blames (news : News) (client : Client) : (layer reason : ℕ) → Type 0 where
  -- HCI: the link that was asked for was not made; the status (Core 5.1, Volume 2 Part E, 7.7.3)
  NoLink : (status : ℕ) → news ≡ LinkFailed status → client.stage ≡ Link Asked → Blames news client 1 status
  -- L2CAP: the retransmission machine of a channel refused what came in; the number of its reason (Core 5.1, Volume 3 Part A, 8.6)
  NoFrame : (number : ℕ) → IsClosed (channel.Broken number) news client → number ≢ 5 → Blames news client 2 number
  -- the peer takes less on the channel of the object than any OBEX packet may need (IrOBEX 1.5, 3.4.1)
  SmallMtu : (mtu : ℕ) → news ≡ ChannelOpen client.psm mtu → client.stage ≡ ObjectChannel Asked → client.transport ≡ L2cap → mtu < 255 → Blames news client 2 14
  -- the two sides did not agree on options (Core 5.1, Volume 3 Part A, 7.1)
  NoAgreement : IsClosed channel.NoAgreement news client → Blames news client 2 15
  -- the connection was refused: by its PSM, for security, for lack of resources, for another reason (Core 5.1, Volume 3 Part A, 4.3)
  NoPsm : IsClosed (channel.Refused 2) news client → Blames news client 2 18
  NoSecurity : IsClosed (channel.Refused 3) news client → Blames news client 2 19
  NoResources : IsClosed (channel.Refused 4) news client → Blames news client 2 20
  NoChannel : (result : ℕ) → IsClosed (channel.Refused result) news client → result ≢ 2 → result ≢ 3 → result ≢ 4 → Blames news client 2 31
  -- SDP: no reply, an error, more than any answer has (Core 5.1, Volume 3 Part B, 4.4.1 and 4.7.2)
  NoReply : IsQueryEnded query.BadReply news client → Blames news client 3 1
  ErrorReply : (code : ℕ) → IsQueryEnded (query.ErrorCode code) news client → Blames news client 3 2
  LongReply : IsQueryEnded query.TooLong news client → Blames news client 3 4
  -- RFCOMM: DM, a DISC that does not answer the own one, no credit based flow control, information without a credit, what is no frame, too many credits
  -- (TS 07.10, 5.3 and 5.4; RFCOMM 1.2, 5.5.3 and 6.5)
  ByDm : IsMuxClosed mux.Dm news client → Blames news client 4 1
  ByDisc : IsMuxClosed mux.Disc news client → client.contact ≢ Closing → Blames news client 4 2
  NoCreditFlow : IsMuxClosed mux.NoCreditFlow news client → Blames news client 4 3
  NoCredit : IsMuxClosed mux.Overdrawn news client → Blames news client 4 4
  NoMuxFrame : IsMuxClosed mux.BadFrame news client → Blames news client 4 5
  ManyCredits : IsMuxClosed mux.CreditOverflow news client → Blames news client 4 7
  -- OBEX: a response, with the reasons above
  ByResponse : (transport : Transport) (sdu : List ℕ) (reason : ℕ) → ComesToObject transport sdu news client → SduBlames transport sdu client reason → Blames news client 5 reason
  -- one comes over L2CAP ahead of the opening of the channel, or behind its end: no request waits for it
  AheadOfOpening : (point : Point) (sdu : List ℕ) → news ≡ Sdu client.psm sdu → client.stage ≡ ObjectChannel point → client.transport ≡ L2cap → Blames news client 5 153
  BehindEnd : (point : Point) (sdu : List ℕ) → news ≡ Sdu client.psm sdu → client.stage ≡ ObjectEnd point → client.transport ≡ L2cap → Blames news client 5 153

-- What a client hears shows that its peer is at fault exactly by a row of the table.
abbrev pub FaultsAreOfTheTable : Type 0
FaultsAreOfTheTable = (news : News) (client : Client) (layer reason : ℕ) → (news_show news client ≡ Some (PeerFault layer reason)) ↔ Blames news client layer reason

-- Nothing else shows that.
abbrev pub OnlyNewsBlame : Type 0
OnlyNewsBlame = (deed : Deed) (client : Client) (layer reason : ℕ) → shows deed client ≡ Some (PeerFault layer reason) → (news : News) × (deed ≡ Hears news)

-- The numbers of the machine's reasons are none of the others of L2CAP, and the one that is no fault, 5, is that of sending too often.
pub record NumbersAreApart : Type 0 where
  pub others : (reason : ErtmReason) → AllByRecursion (λ (number : ℕ). number_of reason ≢ number) (14 ∷ 15 ∷ 18 ∷ 19 ∷ 20 ∷ 31 ∷ [])
  pub limit : (reason : ErtmReason) → (number_of reason ≡ 5) ↔ (reason ≡ RetryLimit)

-- ---- a push

-- a row of the table is heard, and no cause came before it
pub record PeerIsBlamed (layer reason : ℕ) (deeds : List Deed) (client : Client) : Type 0 where
  pub before : List Deed
  pub news : News
  pub after : List Deed
  pub parts : deeds ≡ before ++ Hears news ∷ after
  pub first : (all_done before client).cause ≡ None
  pub blames : Blames news (all_done before client) layer reason

-- From where a push has no cause, its peer is at fault exactly where that is heard.
abbrev pub PeersAreBlamedExactly : Type 0
PeersAreBlamedExactly = (deeds : List Deed) (client : Client) (layer reason : ℕ) → client.cause ≡ None → ((all_done deeds client).cause ≡ Some (PeerFault layer reason)) ↔ PeerIsBlamed layer reason deeds client
