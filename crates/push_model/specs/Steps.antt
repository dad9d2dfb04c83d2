-- The steps of a push: what a client asks of its host next (Object Push Profile 1.2, 4.3; IrOBEX 1.5, 3.4). The answers of
-- the shelf come as a list, and those that are left are given back.
use Rattle.std.specs.Prelude.{ℕ, ◌==◌, ◌&&◌, ◌||◌, not, min, nat_le, nat_lt, ◌-◌, Bool, true, false, List, [], ◌∷◌, length, drop, Option, Some, None, Result, Ok, Err, if◌then◌else◌}
use Rattle.bt_base.specs.declared.ports.PortFault.{PortFault}
use Rattle.bt_base.specs.declared.ports.PortFault.TheVariants as fault
use Rattle.bt_base.specs.declared.settings.Transport.{Transport}
use Rattle.bt_base.specs.declared.settings.Transport.TheVariants.{L2cap, Rfcomm}
use Rattle.push_terms.specs.declared.outcome.Outcome.{Outcome}
use Rattle.push_terms.specs.declared.outcome.Outcome.TheVariants as outcomes
use Rattle.rfcomm_frames.specs.FrameReading.{is_empty}
use Rattle.rfcomm_model.specs.Machine.{Mux, is_ready, sends, leaves, taken_count}
use Rattle.rfcomm_model.specs.Saying.{Said, next}
use Rattle.obex_headers.specs.Packets.{bare, packet_octets}
use Rattle.obex_session.specs.Asking as obex
use Rattle.obex_session.specs.NextPut.{left_of, room_for, is_waiting, after_put}
use Rattle.obex_session.specs.PutPackets.{ahead_of, put_packet}
use Rattle.obex_session.specs.Responses.{connect_fields}
use Rattle.obex_session.specs.Views.{asks_connect, asks_abort, asks_disconnect}
use Rattle.sdp_client.specs.Asking.{is_due, request_octets, after_request}
use Rattle.push_model.specs.declared.course.Contact.{Contact}
use Rattle.push_model.specs.declared.course.Contact.TheVariants.{Unmet, Met, Left, Closing}
use Rattle.push_model.specs.declared.course.Point.TheVariants.{Due, Asked}
use Rattle.push_model.specs.declared.course.Stage.{Stage}
use Rattle.push_model.specs.declared.course.Stage.TheVariants.{Rest, Link, SearchChannel, Search, SearchEnd, Features, ObjectChannel, Object, ObjectEnd, LinkEnd, Over}
use Rattle.push_model.specs.Client.{Client, ends, is_direct}
use Rattle.push_model.specs.Responding.{is_object}
use Rattle.push_model.specs.Payloads.{Payload, Octets, Framed}
use Rattle.push_model.specs.Events.{search_psm, rfcomm_psm}

pub data Step : Type 0 where
  Wait : Step
  MakeLink : Step
  AskFeatures : Step
  OpenChannel : (psm : ℕ) → Step
  SendSdu : (psm : ℕ) (payload : Payload) → Step
  CloseChannel : (psm : ℕ) → Step
  BreakLink : Step
  Ended : (outcome : Outcome) → Step
  NoMemory : Step

-- what a shelf answers where it is asked for a part of an object
abbrev pub Part : Type 0
Part = Result (List ℕ) PortFault

-- the client, the step that it gives, and the answers that are left
pub record Stepped : Type 0 where
  pub client : Client
  pub step : Step
  pub left : List Part

-- ---- a step that is given

abbrev pub rests : Client → List Part → Stepped
rests client parts = record { client = client; step = Wait; left = parts }

abbrev pub gives : Step → Stage → Client → List Part → Stepped
gives step stage client parts = record { client = record client { stage = stage; given = true }; step = step; left = parts }

abbrev pub sends_sdu : ℕ → Payload → Client → List Part → Stepped
sends_sdu psm payload client parts = record { client = record client { given = true }; step = SendSdu psm payload; left = parts }

abbrev pub lacks : Client → List Part → Stepped
lacks client parts = record { client = record client { failed = true }; step = NoMemory; left = parts }

-- ---- the next request

pub data Ask : Type 0 where
  Connect : Ask
  Put : Ask
  Abort : Ask
  Disconnect : Ask
  -- the multiplexer and the channel are to be closed
  Close : Ask
  Nothing : Ask

-- Where a PUT of the object was sent, an object that is given up is aborted. The client takes leave where CONNECT was
-- answered with success.
abbrev pub asks_met : Option Outcome → Option ℕ → Ask
asks_met None put = Put
asks_met (Some cause) None = Disconnect
asks_met (Some cause) (Some place) = Abort

abbrev pub asks_unmet : Option Outcome → Ask
asks_unmet None = Connect
asks_unmet (Some cause) = Close

abbrev pub asks : Contact → Option Outcome → Option ℕ → Ask
asks Unmet cause put = asks_unmet cause
asks Met cause put = asks_met cause put
asks Left cause put = Close
asks Closing cause put = Nothing

abbrev pub next_ask : Client → Ask
next_ask client = asks client.contact client.cause client.session.put

-- the request before was sent to its last octet, and none waits for its response
abbrev pub may_ask : Client → Bool
may_ask client = not client.going && not (is_waiting client.session.awaited)

-- ---- requests

-- a request is to be sent, or the shelf failed; the client then, and the answers that are left
pub record Made : Type 0 where
  pub client : Client
  pub outcome : Result (Unit {0}) PortFault
  pub left : List Part

abbrev pub made : obex.Asking → Contact → List ℕ → Client → List Part → Made
made session contact octets client parts = record { client = record client { session = session; contact = contact; going = true; rest = octets }; outcome = Ok tt; left = parts }

abbrev pub connect_octets : obex.Asking → List ℕ
connect_octets session = packet_octets (bare 0x80 (connect_fields session.maximum))

abbrev pub abort_octets : List ℕ
abort_octets = packet_octets (bare 0xFF [])

abbrev pub disconnect_octets : List ℕ
disconnect_octets = packet_octets (bare 0x81 [])

-- the next PUT has as many octets of the object as have room, and is final where these are all that are left
abbrev pub put_count : Client → ℕ
put_count client = min (left_of client.session client.size) (room_for client.session client.name client.size client.limit)

abbrev pub is_last_put : Client → Bool
is_last_put client = nat_le (left_of client.session client.size) (room_for client.session client.name client.size client.limit)

abbrev pub put_octets : Client → List ℕ → List ℕ
put_octets client part = packet_octets (put_packet (is_last_put client) (ahead_of client.session.wanted client.session.put client.name client.size) part)

abbrev pub puts_part : Part → Client → List Part → Made
puts_part (Ok part) client parts = made (after_put client.session (is_last_put client) (put_count client)) client.contact (put_octets client part) client parts
puts_part (Err fault) client parts = record { client = client; outcome = Err fault; left = parts }

abbrev pub puts_from : List Part → Client → Made
puts_from [] client = record { client = client; outcome = Err fault.Failed; left = [] }
puts_from (part ∷ parts) client = puts_part part client parts

-- the shelf is asked once, and not for no octets
abbrev pub puts : Client → List Part → Made
puts client parts = if put_count client == 0 then puts_part (Ok []) client parts else puts_from parts client

abbrev pub aborts : Client → List Part → Made
aborts client parts = made (asks_abort client.session) client.contact abort_octets client parts

abbrev pub disconnects : Client → List Part → Made
disconnects client parts = made (asks_disconnect client.session) Left disconnect_octets client parts

-- with the fault of the shelf as its first cause, the client aborts what it put, or takes leave
abbrev pub leaves_by : Ask → Client → List Part → Made
leaves_by Connect client parts = disconnects client parts
leaves_by Put client parts = disconnects client parts
leaves_by Abort client parts = aborts client parts
leaves_by Disconnect client parts = disconnects client parts
leaves_by Close client parts = disconnects client parts
leaves_by Nothing client parts = disconnects client parts

abbrev pub failing : Client → List Part → Made
failing client parts = let ended = ends outcomes.ShelfFault client in leaves_by (next_ask ended) ended parts

abbrev pub puts_or_leaves : Result (Unit {0}) PortFault → Made → Made
puts_or_leaves (Ok done) put = put
puts_or_leaves (Err fault.Failed) put = failing put.client put.left
puts_or_leaves (Err fault.NoMemory) put = put

-- what a client asks; there is nothing where it closes
abbrev pub requests : Ask → Client → List Part → Made
requests Connect client parts = made (asks_connect client.session) Unmet (connect_octets client.session) client parts
requests Put client parts = let put = puts client parts in puts_or_leaves put.outcome put
requests Abort client parts = aborts client parts
requests Disconnect client parts = disconnects client parts
requests Close client parts = disconnects client parts
requests Nothing client parts = disconnects client parts

-- ---- the channel of the object: L2CAP

abbrev pub sends_direct : Result (Unit {0}) PortFault → Made → Stepped
sends_direct (Ok done) request = sends_sdu request.client.psm (Octets request.client.rest) request.client request.left
sends_direct (Err fault) request = lacks request.client request.left

abbrev pub asks_direct : Ask → Client → List Part → Stepped
asks_direct Close client parts = gives (CloseChannel client.psm) (ObjectEnd Asked) client parts
asks_direct Nothing client parts = rests client parts
asks_direct Connect client parts = let request = requests Connect client parts in sends_direct request.outcome request
asks_direct Put client parts = let request = requests Put client parts in sends_direct request.outcome request
asks_direct Abort client parts = let request = requests Abort client parts in sends_direct request.outcome request
asks_direct Disconnect client parts = let request = requests Disconnect client parts in sends_direct request.outcome request

abbrev pub steps_direct : Client → List Part → Stepped
steps_direct client parts = if may_ask client then asks_direct (next_ask client) (record client { rest = [] }) parts else rests client parts

-- ---- the channel of the object: RFCOMM

-- the multiplexer takes of the request what it may
abbrev pub filled : Client → Client
filled client =
    if is_ready client.mux && not (is_empty client.rest)
    then record client { mux = sends client.rest client.mux; rest = drop (taken_count (length client.rest) client.mux) client.rest }
    else client

abbrev pub said_by : Option Said → Client → List Part → Stepped
said_by None client parts = rests (record client { frame = None }) parts
said_by (Some said) client parts = sends_sdu rfcomm_psm (Framed said.frame) (record client { mux = said.after; frame = Some said.frame }) parts

-- the next frame, if there is one
abbrev pub says : Client → List Part → Stepped
says client parts = let full = filled client in said_by (next full.mux) full parts

abbrev pub sends_muxed : Result (Unit {0}) PortFault → Made → Stepped
sends_muxed (Ok done) request = says request.client request.left
sends_muxed (Err fault) request = lacks request.client request.left

-- a request is made where the multiplexer takes at least its first octet
abbrev pub takes_some : Mux → Bool
takes_some mux = is_ready mux && (is_empty mux.waiting && nat_lt 0 mux.account.held)

abbrev pub asks_through : Ask → Client → List Part → Stepped
asks_through ask client parts =
    if takes_some client.mux then (let request = requests ask (record client { rest = [] }) parts in sends_muxed request.outcome request) else rests client parts

abbrev pub asks_muxed : Ask → Client → List Part → Stepped
asks_muxed Close client parts = says (record client { mux = leaves client.mux; contact = Closing }) parts
asks_muxed Nothing client parts = rests client parts
asks_muxed Connect client parts = asks_through Connect client parts
asks_muxed Put client parts = asks_through Put client parts
asks_muxed Abort client parts = asks_through Abort client parts
asks_muxed Disconnect client parts = asks_through Disconnect client parts

abbrev pub goes_muxed : Option Said → Client → List Part → Stepped
goes_muxed None client parts = let quiet = record client { frame = None } in if may_ask quiet then asks_muxed (next_ask quiet) quiet parts else rests quiet parts
goes_muxed (Some said) client parts = said_by (Some said) client parts

abbrev pub steps_muxed : Client → List Part → Stepped
steps_muxed client parts = let full = filled client in goes_muxed (next full.mux) full parts

-- ---- all stages

abbrev pub steps_object : Transport → Client → List Part → Stepped
steps_object L2cap client parts = steps_direct client parts
steps_object Rfcomm client parts = steps_muxed client parts

abbrev pub steps_search : Client → List Part → Stepped
steps_search client parts =
    if is_due client.query
    then sends_sdu search_psm (Octets (request_octets client.query)) (record client { query = after_request client.query; left = client.left - 1; rest = request_octets client.query }) parts
    else rests client parts

-- a push that is over has a cause
abbrev pub tells_end : Option Outcome → Client → List Part → Stepped
tells_end None client parts = rests client parts
tells_end (Some outcome) client parts = record { client = record client { stage = Rest }; step = Ended outcome; left = parts }

abbrev pub steps_at : Stage → Client → List Part → Stepped
steps_at Rest client parts = rests client parts
steps_at (Link Due) client parts = gives MakeLink (Link Asked) client parts
steps_at (Link Asked) client parts = rests client parts
steps_at (SearchChannel Due) client parts = gives (OpenChannel search_psm) (SearchChannel Asked) client parts
steps_at (SearchChannel Asked) client parts = rests client parts
steps_at Search client parts = steps_search client parts
steps_at (SearchEnd Due) client parts = gives (CloseChannel search_psm) (SearchEnd Asked) client parts
steps_at (SearchEnd Asked) client parts = rests client parts
steps_at (Features Due) client parts = gives AskFeatures (Features Asked) client parts
steps_at (Features Asked) client parts = rests client parts
steps_at (ObjectChannel Due) client parts = gives (OpenChannel client.psm) (ObjectChannel Asked) client parts
steps_at (ObjectChannel Asked) client parts = rests client parts
steps_at Object client parts = steps_object client.transport client parts
steps_at (ObjectEnd Due) client parts = gives (CloseChannel client.psm) (ObjectEnd Asked) client parts
steps_at (ObjectEnd Asked) client parts = rests client parts
steps_at (LinkEnd Due) client parts = gives BreakLink (LinkEnd Asked) client parts
steps_at (LinkEnd Asked) client parts = rests client parts
steps_at Over client parts = tells_end client.cause client parts

abbrev pub steps : Client → List Part → Stepped
steps client parts =
    if client.failed then record { client = client; step = NoMemory; left = parts }
    else if client.given then rests client parts
    else steps_at client.stage client parts

-- ---- the last step was done

-- requests pass through the multiplexer
abbrev pub is_muxed : Client → Bool
is_muxed client = is_object client.stage && not (is_direct client.transport)

-- An SDU stands in `out` to its last octet: the request is sent where nothing of it is left.
abbrev pub stepped : Client → Client
stepped client = record client {
  given = false;
  going = is_muxed client && (client.going && (not (is_empty client.rest) || not (is_empty client.mux.waiting)));
  rest = if is_muxed client then client.rest else [];
}
