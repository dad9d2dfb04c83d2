-- What ends a push, as a table: what is heard, and what is then reported (this project's own numbers of layers and reasons).
use Rattle.std.specs.Prelude.{ℕ, ◌+◌, ◌==◌, nat_le, ◌&&◌, Option, Some, None, if◌then◌else◌}
use Rattle.push_terms.specs.declared.outcome.Outcome.{Outcome}
use Rattle.push_terms.specs.declared.outcome.Outcome.TheVariants.{Done, LinkLost, RetryLimit, Refused, NoService, ShelfFault, Cancelled, PeerClosed, PeerFault, ScriptEnded}
use Rattle.sdp_client.specs.declared.reason.QueryReason.{QueryReason}
use Rattle.sdp_client.specs.declared.reason.QueryReason.TheVariants.{BadReply, ErrorCode, WrongTransaction, TooLong}
use Rattle.rfcomm_model.specs.declared.state.MuxReason.{MuxReason}
use Rattle.rfcomm_model.specs.declared.state.MuxReason.TheVariants as mux
use Rattle.obex_headers.specs.declared.fault.ObexRefusal.{ObexRefusal}
use Rattle.obex_headers.specs.declared.fault.ObexRefusal.TheVariants as obex
use Rattle.push_model.specs.declared.closing.CloseCause.{CloseCause}
use Rattle.push_model.specs.declared.closing.CloseCause.TheVariants as closed

-- the layers: HCI, L2CAP, SDP, RFCOMM, OBEX
abbrev pub hci : ℕ
hci = 1

abbrev pub l2cap : ℕ
l2cap = 2

abbrev pub sdp : ℕ
sdp = 3

abbrev pub rfcomm : ℕ
rfcomm = 4

abbrev pub obex_layer : ℕ
obex_layer = 5

-- ---- links

-- the peer ended the link as its user (0x13: Core 5.1, Volume 2 Part D, 1.3), or it broke
abbrev pub cause_of_link : ℕ → Outcome
cause_of_link reason = if reason == 0x13 then PeerClosed else LinkLost

-- no link was made
abbrev pub cause_of_page : ℕ → Outcome
cause_of_page status = PeerFault hci status

-- ---- channels

-- the results of a connection response that refuse it: 2 PSM, 3 security, 4 resources (Core 5.1, Volume 3 Part A, 4.3)
abbrev pub refusal_reason : ℕ → ℕ
refusal_reason result = if nat_le 2 result && nat_le result 4 then 16 + result else 31

-- The machine of a channel ends with 5 where it sent something as often as may be.
abbrev pub cause_of_machine : ℕ → Outcome
cause_of_machine number = if number == 5 then RetryLimit else PeerFault l2cap number

-- what a channel's end says; one that the client itself asked for is no cause
abbrev pub cause_of_close : CloseCause → Option Outcome
cause_of_close closed.Peer = Some PeerClosed
cause_of_close (closed.Refused result) = Some (PeerFault l2cap (refusal_reason result))
cause_of_close closed.NoAgreement = Some (PeerFault l2cap 15)
cause_of_close closed.RetryLimit = Some RetryLimit
cause_of_close (closed.Broken number) = Some (cause_of_machine number)
cause_of_close closed.Own = None

-- the peer takes less on the channel of the object than any OBEX packet may need
abbrev pub small_channel : Outcome
small_channel = PeerFault l2cap 14

-- ---- the query

abbrev pub query_number : QueryReason → ℕ
query_number BadReply = 1
query_number (ErrorCode code) = 2
query_number WrongTransaction = 3
query_number TooLong = 4

-- a reply to another request is passed over
abbrev pub cause_of_query : QueryReason → Option Outcome
cause_of_query BadReply = Some (PeerFault sdp 1)
cause_of_query (ErrorCode code) = Some (PeerFault sdp 2)
cause_of_query WrongTransaction = None
cause_of_query TooLong = Some (PeerFault sdp 4)

-- ---- the multiplexer

abbrev pub mux_number : MuxReason → ℕ
mux_number mux.Dm = 1
mux_number mux.Disc = 2
mux_number mux.NoCreditFlow = 3
mux_number mux.Overdrawn = 4
mux_number mux.BadFrame = 5
mux_number mux.CreditOverflow = 7

abbrev pub cause_of_mux : MuxReason → Outcome
cause_of_mux reason = PeerFault rfcomm (mux_number reason)

-- ---- responses

abbrev pub obex_number : ObexRefusal → ℕ
obex_number obex.Short = 1
obex_number obex.BadLength = 2
obex_number obex.BadHeaderLength = 3
obex_number obex.BadText = 4
obex_number obex.AboveMaximum = 5
obex_number obex.BadVersion = 6

abbrev pub cause_of_obex : ObexRefusal → Outcome
cause_of_obex refusal = PeerFault obex_layer (obex_number refusal)

-- a response has parameters of single response mode, which this client does not know: header 98
abbrev pub unknown_parameters : Outcome
unknown_parameters = PeerFault obex_layer 152

-- a response comes where no request waits for one, or before its request was sent to the last octet
abbrev pub unawaited_response : Outcome
unawaited_response = PeerFault obex_layer 153

-- ---- what the client does then

pub data Ending : Type 0 where
  -- it takes leave of the server and closes what it opened, one thing after the other
  InOrder : Ending
  -- it breaks the link
  AtOnce : Ending

abbrev pub ending_of : Outcome → Ending
ending_of Done = InOrder
ending_of (Refused code) = InOrder
ending_of NoService = InOrder
ending_of ShelfFault = InOrder
ending_of Cancelled = InOrder
ending_of LinkLost = AtOnce
ending_of RetryLimit = AtOnce
ending_of PeerClosed = AtOnce
ending_of (PeerFault layer reason) = AtOnce
ending_of ScriptEnded = AtOnce
