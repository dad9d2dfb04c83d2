-- A client whose shelf never lacks memory has not failed.
use Rattle.std.proofs.Common.{◌≡◌, ℕ, zero, suc, List, [], ◌∷◌, eqb, ◌==◌, length, map, drop, ◌-◌, Bool, true, false, cond, not, ◌&&◌, Option, Some, None, Result, Ok, Err, refl, sym, subst}
use Rattle.std.specs.List.{AllByRecursion}
use Rattle.shelf_model.specs.bt_base.specs.declared.ports.PortFault.{PortFault}
use Rattle.shelf_model.specs.bt_base.specs.declared.ports.PortFault.TheVariants as fault
use Rattle.shelf_model.specs.bt_base.specs.declared.settings.Settings.{Settings}
use Rattle.shelf_model.specs.bt_base.specs.declared.settings.Transport.{Transport}
use Rattle.shelf_model.specs.bt_base.specs.declared.settings.Transport.TheVariants.{L2cap, Rfcomm}
use Rattle.shelf_model.specs.push_terms.specs.declared.outcome.Outcome.{Outcome}
use Rattle.shelf_model.specs.push_terms.specs.declared.outcome.Outcome.TheVariants as outcomes
use Rattle.shelf_model.specs.rfcomm_frames.specs.FrameReading.{is_empty}
use Rattle.shelf_model.specs.rfcomm_model.specs.Machine.{is_ready, sends, leaves, taken_count}
use Rattle.shelf_model.specs.rfcomm_model.specs.Saying.{Said, next}
use Rattle.shelf_model.specs.sdp_client.specs.Asking.{is_due, request_octets, after_request}
use Rattle.channel_laws.specs.channel_model.specs.declared.event.ChannelEvent.{ChannelEvent}
use Rattle.channel_laws.specs.channel_model.specs.declared.event.ChannelEvent.TheVariants.{Opened, Closed, Features as Told, FeaturesLost, DisconnectLost}
use Rattle.channel_laws.specs.channel_model.specs.Value.{Channels}
use Rattle.channel_laws.specs.channel_model.specs.Calls as channels
use Rattle.channel_laws.specs.channel_model.specs.Calls.{peer_mtu, waits}
use Rattle.push_laws.specs.push_model.specs.declared.closing.CloseCause.{CloseCause}
use Rattle.push_laws.specs.push_model.specs.declared.course.Contact.TheVariants.{Closing}
use Rattle.push_laws.specs.push_model.specs.declared.course.Point.TheVariants.{Due, Asked}
use Rattle.push_laws.specs.push_model.specs.declared.course.Stage.{Stage}
use Rattle.push_laws.specs.push_model.specs.declared.course.Stage.TheVariants.{Rest, Link, SearchChannel, Search, SearchEnd, Features, ObjectChannel, Object, ObjectEnd, LinkEnd, Over}
use Rattle.push_laws.specs.push_model.specs.Client.{Client, ends, may_cancel, cancelled, begins, begun_by}
use Rattle.push_laws.specs.push_model.specs.Events as events
use Rattle.push_laws.specs.push_model.specs.Events.{hears_news}
use Rattle.push_laws.specs.push_model.specs.Payloads.{Payload, Octets}
use Rattle.push_laws.specs.push_model.specs.Steps as course
use Rattle.push_laws.specs.push_model.specs.Steps.{Step, Wait, MakeLink, AskFeatures, OpenChannel, SendSdu, CloseChannel, BreakLink, Ended, NoMemory, Stepped, Made, Ask, Connect, Put, Abort, Disconnect, Close, Nothing, steps, put_count}
use Rattle.shelf_model.specs.world_model.specs.Machines.{News, Linked, Up, Down, Failed, Heard, TimerFired, Cancelled, Opening}
use Rattle.shelf_model.specs.host_model.specs.Circumstances.{Circumstance, Excerpt, Size, Part, Stored, size_in, parts_in}
use Rattle.shelf_model.specs.host_model.specs.Endpoints.{endpoint_of, takes_sdu}
use Rattle.shelf_model.specs.host_model.specs.Pdus.{sdu_of}
use Rattle.shelf_model.specs.host_model.specs.Clients as clients
use Rattle.shelf_model.specs.host_model.specs.Clients.{NoBid, ClientProfile, client_profile, after_end, ended, after_call, calls, cause_of, closed_by, opened_by, event_heard, sent_on, submits, takes, fitted}
use Rattle.shelf_model.specs.host_model.specs.Shelves.{is_short, size_if, size_for, name_for, is_next, measured, bare_part, fitting, unused}
use Rattle.host_laws.specs.Feeds.{Feed, Gifts, Learns, Receives, Happens, Sent, Steps, fed, all_fed}
use Rattle.host_laws.specs.Memory.{HasRoom, IsRoomy, IsRoomyFeed, ClientsHaveMemory}
use Rattle.host_laws.proofs.Memory.{Well, well_if, well_ends, news_well}

-- ---- requests

abbrev Rooms : List course.Part → Type 0
Rooms parts = AllByRecursion HasRoom parts

-- so it is, and so are the answers that are left
abbrev WellStep : Stepped → Type 0
WellStep one = Well one.client × Rooms one.left

record WellMade (made : Made) : Type 0 where
  well : Well made.client
  room : HasRoom made.outcome
  left : Rooms made.left

either_well : (b : Bool) (x y : Stepped) → WellStep x → WellStep y → WellStep (cond b x y)
either_well true x y one other = one
either_well false x y one other = other

abbrev IsOk : Result (Unit {0}) PortFault → Type 0
IsOk (Ok done) = Unit {0}
IsOk (Err fault) = ⊥

record DoneMade (made : Made) : Type 0 where
  well : Well made.client
  done : IsOk made.outcome
  left : Rooms made.left

leaves_well : (ask : Ask) (c : Client) (parts : List course.Part) → Well c → Rooms parts → DoneMade (course.leaves_by ask c parts)
leaves_well Connect c parts well rooms = record { well = well; done = tt; left = rooms }
leaves_well Put c parts well rooms = record { well = well; done = tt; left = rooms }
leaves_well Abort c parts well rooms = record { well = well; done = tt; left = rooms }
leaves_well Disconnect c parts well rooms = record { well = well; done = tt; left = rooms }
leaves_well Close c parts well rooms = record { well = well; done = tt; left = rooms }
leaves_well Nothing c parts well rooms = record { well = well; done = tt; left = rooms }

failing_well : (c : Client) (parts : List course.Part) → Well c → Rooms parts → DoneMade (course.failing c parts)
failing_well c parts well rooms = let failed = ends outcomes.ShelfFault c in leaves_well (course.next_ask failed) failed parts (well_ends outcomes.ShelfFault c well) rooms

part_well : (part : course.Part) (c : Client) (parts : List course.Part) → HasRoom part → Well c → Rooms parts → WellMade (course.puts_part part c parts)
part_well (Ok octets) c parts room well rooms = record { well = well; room = tt; left = rooms }
part_well (Err fault.Failed) c parts room well rooms = record { well = well; room = tt; left = rooms }
part_well (Err fault.NoMemory) c parts room well rooms = absurd room

from_well : (parts : List course.Part) (c : Client) → Well c → Rooms parts → WellMade (course.puts_from parts c)
from_well [] c well rooms = record { well = well; room = tt; left = tt }
from_well (part ∷ parts) c well rooms = part_well part c parts rooms.0 well rooms.1

puts_well : (c : Client) (parts : List course.Part) → Well c → Rooms parts → WellMade (course.puts c parts)
puts_well c parts well rooms = by (eqb (course.put_count c) 0)
  where
    by : (b : Bool) → WellMade (cond b (course.puts_part (Ok []) c parts) (course.puts_from parts c))
    by true = part_well (Ok []) c parts tt well rooms
    by false = from_well parts c well rooms

-- the fault of a shelf is a cause
put_or_leaves : (outcome : Result (Unit {0}) PortFault) (put : Made) → put.outcome ≡ outcome → HasRoom outcome → WellMade put → DoneMade (course.puts_or_leaves outcome put)
put_or_leaves (Ok done) put is room made = record { well = made.well; done = subst IsOk (sym is) tt; left = made.left }
put_or_leaves (Err fault.Failed) put is room made = failing_well put.client put.left made.well made.left
put_or_leaves (Err fault.NoMemory) put is room made = absurd room

requests_well : (ask : Ask) (c : Client) (parts : List course.Part) → Well c → Rooms parts → DoneMade (course.requests ask c parts)
requests_well Connect c parts well rooms = record { well = well; done = tt; left = rooms }
requests_well Put c parts well rooms = let put = course.puts c parts in let made = puts_well c parts well rooms in put_or_leaves put.outcome put refl made.room made
requests_well Abort c parts well rooms = record { well = well; done = tt; left = rooms }
requests_well Disconnect c parts well rooms = record { well = well; done = tt; left = rooms }
requests_well Close c parts well rooms = record { well = well; done = tt; left = rooms }
requests_well Nothing c parts well rooms = record { well = well; done = tt; left = rooms }

-- ---- its steps

direct_well : (outcome : Result (Unit {0}) PortFault) (request : Made) → IsOk outcome → DoneMade request → WellStep (course.sends_direct outcome request)
direct_well (Ok done) request ok made = (made.well, made.left)
direct_well (Err fault) request ok made = absurd ok

asks_direct_well : (ask : Ask) (c : Client) (parts : List course.Part) → Well c → Rooms parts → WellStep (course.asks_direct ask c parts)
asks_direct_well Close c parts well rooms = (well, rooms)
asks_direct_well Nothing c parts well rooms = (well, rooms)
asks_direct_well Connect c parts well rooms = let request = course.requests Connect c parts in let made = requests_well Connect c parts well rooms in direct_well request.outcome request made.done made
asks_direct_well Put c parts well rooms = let request = course.requests Put c parts in let made = requests_well Put c parts well rooms in direct_well request.outcome request made.done made
asks_direct_well Abort c parts well rooms = let request = course.requests Abort c parts in let made = requests_well Abort c parts well rooms in direct_well request.outcome request made.done made
asks_direct_well Disconnect c parts well rooms = let request = course.requests Disconnect c parts in let made = requests_well Disconnect c parts well rooms in direct_well request.outcome request made.done made

filled_well : (c : Client) → Well c → Well (course.filled c)
filled_well c well = by (is_ready c.mux && not (is_empty c.rest))
  where
    by : (b : Bool) → Well (cond b (record c { mux = sends c.rest c.mux; rest = drop (taken_count (length c.rest) c.mux) c.rest }) c)
    by true = well
    by false = well

said_well : (said : Option Said) (c : Client) (parts : List course.Part) → Well c → Rooms parts → WellStep (course.said_by said c parts)
said_well None c parts well rooms = (well, rooms)
said_well (Some said) c parts well rooms = (well, rooms)

says_well : (c : Client) (parts : List course.Part) → Well c → Rooms parts → WellStep (course.says c parts)
says_well c parts well rooms = let full = course.filled c in said_well (next full.mux) full parts (filled_well c well) rooms

muxed_well : (outcome : Result (Unit {0}) PortFault) (request : Made) → IsOk outcome → DoneMade request → WellStep (course.sends_muxed outcome request)
muxed_well (Ok done) request ok made = says_well request.client request.left made.well made.left
muxed_well (Err fault) request ok made = absurd ok

through_well : (ask : Ask) (c : Client) (parts : List course.Part) → Well c → Rooms parts → WellStep (course.asks_through ask c parts)
through_well ask c parts well rooms =
    let bare : Client = record c { rest = [] } in
    let request = course.requests ask bare parts in
    let made = requests_well ask bare parts well rooms in
    either_well (course.takes_some c.mux) (course.sends_muxed request.outcome request) (course.rests c parts) (muxed_well request.outcome request made.done made) (well, rooms)

asks_muxed_well : (ask : Ask) (c : Client) (parts : List course.Part) → Well c → Rooms parts → WellStep (course.asks_muxed ask c parts)
asks_muxed_well Close c parts well rooms = let leaving : Client = record c { mux = leaves c.mux; contact = Closing } in says_well leaving parts well rooms
asks_muxed_well Nothing c parts well rooms = (well, rooms)
asks_muxed_well Connect c parts well rooms = through_well Connect c parts well rooms
asks_muxed_well Put c parts well rooms = through_well Put c parts well rooms
asks_muxed_well Abort c parts well rooms = through_well Abort c parts well rooms
asks_muxed_well Disconnect c parts well rooms = through_well Disconnect c parts well rooms

goes_muxed_well : (said : Option Said) (c : Client) (parts : List course.Part) → Well c → Rooms parts → WellStep (course.goes_muxed said c parts)
goes_muxed_well None c parts well rooms =
    let quiet : Client = record c { frame = None } in
    either_well (course.may_ask quiet) (course.asks_muxed (course.next_ask quiet) quiet parts) (course.rests quiet parts) (asks_muxed_well (course.next_ask quiet) quiet parts well rooms) (well, rooms)
goes_muxed_well (Some said) c parts well rooms = (well, rooms)

object_well : (transport : Transport) (c : Client) (parts : List course.Part) → Well c → Rooms parts → WellStep (course.steps_object transport c parts)
object_well L2cap c parts well rooms =
    let bare : Client = record c { rest = [] } in either_well (course.may_ask c) (course.asks_direct (course.next_ask c) bare parts) (course.rests c parts) (asks_direct_well (course.next_ask c) bare parts well rooms) (well, rooms)
object_well Rfcomm c parts well rooms = let full = course.filled c in goes_muxed_well (next full.mux) full parts (filled_well c well) rooms

over_well : (cause : Option Outcome) (c : Client) (parts : List course.Part) → Well c → Rooms parts → WellStep (course.tells_end cause c parts)
over_well None c parts well rooms = (well, rooms)
over_well (Some outcome) c parts well rooms = (well, rooms)

search_well : (c : Client) (parts : List course.Part) → Well c → Rooms parts → WellStep (course.steps_search c parts)
search_well c parts well rooms = by (is_due c.query)
  where
    asked : Stepped
    asked = course.sends_sdu 0x0001 (Octets (request_octets c.query)) (record c { query = after_request c.query; left = c.left - 1; rest = request_octets c.query }) parts

    by : (b : Bool) → WellStep (cond b asked (course.rests c parts))
    by true = (well, rooms)
    by false = (well, rooms)

at_well : (stage : Stage) (c : Client) (parts : List course.Part) → Well c → Rooms parts → WellStep (course.steps_at stage c parts)
at_well Search c parts well rooms = search_well c parts well rooms
at_well Object c parts well rooms = object_well c.transport c parts well rooms
at_well Over c parts well rooms = over_well c.cause c parts well rooms
at_well Rest c parts well rooms = (well, rooms)
at_well (Link Due) c parts well rooms = (well, rooms)
at_well (Link Asked) c parts well rooms = (well, rooms)
at_well (SearchChannel Due) c parts well rooms = (well, rooms)
at_well (SearchChannel Asked) c parts well rooms = (well, rooms)
at_well (SearchEnd Due) c parts well rooms = (well, rooms)
at_well (SearchEnd Asked) c parts well rooms = (well, rooms)
at_well (Features Due) c parts well rooms = (well, rooms)
at_well (Features Asked) c parts well rooms = (well, rooms)
at_well (ObjectChannel Due) c parts well rooms = (well, rooms)
at_well (ObjectChannel Asked) c parts well rooms = (well, rooms)
at_well (ObjectEnd Due) c parts well rooms = (well, rooms)
at_well (ObjectEnd Asked) c parts well rooms = (well, rooms)
at_well (LinkEnd Due) c parts well rooms = (well, rooms)
at_well (LinkEnd Asked) c parts well rooms = (well, rooms)

steps_well : (c : Client) (parts : List course.Part) → Well c → Rooms parts → WellStep (steps c parts)
steps_well c parts well rooms =
    let lacking : Stepped = record { client = c; step = NoMemory; left = parts } in
    either_well c.failed lacking (cond c.given (course.rests c parts) (course.steps_at c.stage c parts)) (well, rooms)
    (either_well c.given (course.rests c parts) (course.steps_at c.stage c parts) (well, rooms) (at_well c.stage c parts well rooms))

-- ---- its profile

-- an excerpt, other than that the shelf lacks memory
abbrev HasRoomAt : Excerpt → Type 0
HasRoomAt excerpt = HasRoom excerpt.answer

record IsWell (p : ClientProfile) : Type 0 where
  well : Well p.client
  rooms : AllByRecursion HasRoomAt p.parts

event_well : (event : ChannelEvent) (v : Channels) (c : Client) → Well c → Well (event_heard event v c)
event_well (Opened own psm) v c well = by (peer_mtu own v)
  where
    by : (mtu : Option ℕ) → Well (opened_by mtu psm c)
    by None = well
    by (Some mtu) = news_well (events.ChannelOpen psm mtu) c well
event_well (Closed own psm reason) v c well = by (cause_of reason)
  where
    by : (cause : Option CloseCause) → Well (closed_by cause psm c)
    by None = well
    by (Some cause) = news_well (events.ChannelClosed psm cause) c well
event_well (Told features) v c well = news_well events.FeaturesTold c well
event_well FeaturesLost v c well = news_well events.FeaturesLost c well
event_well (DisconnectLost own) v c well = well

sent_well : (submitted : Option ℕ) (v : Channels) (p : ClientProfile) → IsWell p → IsWell (sent_on submitted v p)
sent_well None v p so = so
sent_well (Some own) v p so = by (waits own v)
  where
    by : (b : Bool) → IsWell (cond b p (clients.done (record p { submitted = None })))
    by true = so
    by false = record { well = so.well; rooms = so.rooms }

submits_well : (own : Option ℕ) (payload : Payload) (v : Channels) (p : ClientProfile) → IsWell p → IsWell (submits own payload v p).profile
submits_well None payload v p so = so
submits_well (Some own) payload v p so = by (takes_sdu own (sdu_of payload) v)
  where
    by : (b : Bool) → IsWell (cond b (clients.waiting (channels.sends own (sdu_of payload) v) (record p { submitted = Some own })) (clients.waiting v p)).profile
    by true = record { well = so.well; rooms = so.rooms }
    by false = so

takes_so : (step : Step) (v : Channels) (q p : ClientProfile) → IsWell q → IsWell p → IsWell (takes step v q p).profile
takes_so Wait v q p so before = so
takes_so MakeLink v q p so before = before
takes_so AskFeatures v q p so before = record { well = so.well; rooms = so.rooms }
takes_so (OpenChannel psm) v q p so before = record { well = so.well; rooms = so.rooms }
takes_so (SendSdu psm payload) v q p so before = submits_well (endpoint_of psm q.endpoints) payload v q so
takes_so (CloseChannel psm) v q p so before = record { well = so.well; rooms = so.rooms }
takes_so BreakLink v q p so before = record { well = so.well; rooms = so.rooms }
takes_so (Ended outcome) v q p so before = so
takes_so NoMemory v q p so before = so

-- ---- what it is told

end_well : (step : Step) (d c : Client) → Well d → Well c → Well (after_end step d c)
end_well (Ended outcome) d c now before = now
end_well Wait d c now before = before
end_well MakeLink d c now before = before
end_well AskFeatures d c now before = before
end_well (OpenChannel psm) d c now before = before
end_well (SendSdu psm payload) d c now before = before
end_well (CloseChannel psm) d c now before = before
end_well BreakLink d c now before = before
end_well NoMemory d c now before = before

ended_well : (c : Client) → Well c → Well (ended c)
ended_well c well = let one = steps c [] in end_well one.step one.client c (steps_well c [] well tt).0 well

call_well : (step : Step) (d : Client) (p : ClientProfile) → Well d → IsWell p → IsWell (after_call step d p)
call_well MakeLink d p well so = record { well = well; rooms = so.rooms }
call_well Wait d p well so = so
call_well AskFeatures d p well so = so
call_well (OpenChannel psm) d p well so = so
call_well (SendSdu psm payload) d p well so = so
call_well (CloseChannel psm) d p well so = so
call_well BreakLink d p well so = so
call_well (Ended outcome) d p well so = so
call_well NoMemory d p well so = so

calls_well : (p : ClientProfile) → IsWell p → IsWell (calls p)
calls_well p so = let one = steps p.client [] in call_well one.step one.client p (steps_well p.client [] so.well tt).0 so

begins_well : (size : Result ℕ PortFault) (name : List ℕ) (c : Client) → HasRoom size → Well c → Well (begins size name c)
begins_well size name c room well = well_if c.failed c (begun_by size name c) well (by size room)
  where
    by : (s : Result ℕ PortFault) → HasRoom s → Well (begun_by s name c)
    by (Ok n) room = well
    by (Err fault.Failed) room = well
    by (Err fault.NoMemory) room = absurd room

size_room : (circumstances : List Circumstance) → AllByRecursion IsRoomy circumstances → HasRoom (size_in circumstances)
size_room [] all = tt
size_room (Size answer ∷ rest) all = all.0
size_room (Part excerpt ∷ rest) all = size_room rest all.1
size_room (Stored answer ∷ rest) all = size_room rest all.1

parts_room : (circumstances : List Circumstance) → AllByRecursion IsRoomy circumstances → AllByRecursion HasRoomAt (parts_in circumstances)
parts_room [] all = tt
parts_room (Size answer ∷ rest) all = parts_room rest all.1
parts_room (Part excerpt ∷ rest) all = (all.0, parts_room rest all.1)
parts_room (Stored answer ∷ rest) all = parts_room rest all.1

-- the same of what a client makes of them
named_room : (test : Bool) (size : Result ℕ PortFault) → HasRoom size → HasRoom (size_if test size)
named_room true size room = room
named_room false size room = tt

measured_room : (count : ℕ) (part : course.Part) → HasRoom part → HasRoom (measured count part)
measured_room count (Ok part) room = by (length part == count)
  where
    by : (test : Bool) → HasRoom (cond test (Ok part) (Err fault.Failed))
    by true = tt
    by false = tt
measured_room count (Err cause) room = room

next_room : (count : ℕ) (part : course.Part) (test : Bool) → HasRoom part → HasRoom (cond test (measured count part) (Err fault.Failed))
next_room count part true room = measured_room count part room
next_room count part false room = tt

answers_room : (excerpts : List Excerpt) → AllByRecursion HasRoomAt excerpts → Rooms (map bare_part excerpts)
answers_room [] all = tt
answers_room (excerpt ∷ excerpts) all = (all.0, answers_room excerpts all.1)

fitting_room : (c : Client) (excerpts : List Excerpt) → AllByRecursion HasRoomAt excerpts → Rooms (fitting c excerpts)
fitting_room c [] all = tt
fitting_room c (excerpt ∷ excerpts) all = (next_room (put_count c) excerpt.answer (is_next c excerpt) all.0, answers_room excerpts all.1)

rooms_left : (count : ℕ) (excerpts : List Excerpt) → AllByRecursion HasRoomAt excerpts → AllByRecursion HasRoomAt (drop count excerpts)
rooms_left zero excerpts all = all
rooms_left (suc count) [] all = tt
rooms_left (suc count) (excerpt ∷ excerpts) all = rooms_left count excerpts all.1

told_well : (circumstances : List Circumstance) (news : News) (p : ClientProfile) → AllByRecursion IsRoomy circumstances → IsWell p → IsWell (clients.told circumstances news p)
told_well circumstances (Linked Up) p all so = record { well = news_well events.LinkUp p.client so.well; rooms = so.rooms }
told_well circumstances (Linked (Down reason)) p all so = record { well = ended_well (hears_news (events.LinkDown reason) p.client) (news_well (events.LinkDown reason) p.client so.well); rooms = so.rooms }
told_well circumstances (Failed status) p all so = record { well = ended_well (hears_news (events.LinkFailed status) p.client) (news_well (events.LinkFailed status) p.client so.well); rooms = so.rooms }
told_well circumstances (Heard pdu) p all so = so
told_well circumstances TimerFired p all so = record { well = news_well events.Timer p.client so.well; rooms = so.rooms }
told_well circumstances Cancelled p all so = record {
  well = ended_well (cancelled p.client) (well_if (may_cancel p.client) (ends outcomes.Cancelled p.client) p.client (well_ends outcomes.Cancelled p.client so.well) so.well);
  rooms = so.rooms;
}
told_well circumstances (Opening name) p all so =
    let c = begins (size_for circumstances name) (name_for name) p.client in
    calls_well (record p { client = ended c; submitted = None; bid = NoBid }) (record { well = ended_well c (begins_well (size_for circumstances name) (name_for name) p.client (named_room (is_short name) (size_in circumstances) (size_room circumstances all)) so.well); rooms = so.rooms })

fed_well : (settings : Settings) (feed : Feed) (p : ClientProfile) → IsRoomyFeed feed → IsWell p → IsWell (fed (client_profile settings) p feed)
fed_well settings (Gifts circumstances) p all so = record { well = so.well; rooms = parts_room circumstances all }
fed_well settings (Learns circumstances news) p all so = told_well circumstances news p all so
fed_well settings (Receives own psm sdu) p all so = record { well = news_well (events.Sdu psm sdu) p.client so.well; rooms = so.rooms }
fed_well settings (Happens event v) p all so = record { well = event_well event v p.client so.well; rooms = so.rooms }
fed_well settings (Sent v) p all so = sent_well p.submitted v p so
fed_well settings (Steps v) p all so =
    let one = steps p.client (fitted p) in
    let now = steps_well p.client (fitted p) so.well (fitting_room p.client p.parts so.rooms) in
    takes_so one.step v (record p { client = one.client; parts = unused one.left p.parts }) p (record { well = now.0; rooms = rooms_left (length p.parts - length one.left) p.parts so.rooms }) so

all_well : (settings : Settings) (feeds : List Feed) (p : ClientProfile) → AllByRecursion IsRoomyFeed feeds → IsWell p → IsWell (all_fed (client_profile settings) p feeds)
all_well settings [] p all so = so
all_well settings (feed ∷ feeds) p all so = all_well settings feeds (fed (client_profile settings) p feed) all.1 (fed_well settings feed p all.0 so)

pub clients_have_memory : ClientsHaveMemory
clients_have_memory settings feeds all = (all_well settings feeds (client_profile settings).first all (record { well = refl; rooms = tt })).well
