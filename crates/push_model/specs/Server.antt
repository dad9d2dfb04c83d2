-- A server of Object Push: the service records, and for each transport a session; over RFCOMM a multiplexer and the
-- stream of packets that it brings (this project's own).
use Rattle.std.specs.Prelude.{ℕ, ◌==◌, ◌*◌, ◌-◌, min, ◌&&◌, not, Bool, true, false, List, [], ◌++◌, length, Option, Some, None, is_some, if◌then◌else◌}
use Rattle.bt_base.specs.declared.settings.Serves.{Serves}
use Rattle.bt_base.specs.declared.settings.Settings.{Settings}
use Rattle.bt_base.specs.declared.settings.Transport.{Transport}
use Rattle.bt_base.specs.declared.settings.Transport.TheVariants.{L2cap, Rfcomm}
use Rattle.sdp_server.specs.Replies.{reply_to}
use Rattle.rfcomm_frames.specs.FrameReading.{is_empty}
use Rattle.rfcomm_frames.specs.declared.connection.Role.TheVariants.{Responder}
use Rattle.rfcomm_frames.specs.Frames.{PlainFrame}
use Rattle.rfcomm_model.specs.Machine.{Mux, is_ready, sends, leaves, taken_count}
use Rattle.rfcomm_model.specs.Machine as machine
use Rattle.rfcomm_model.specs.Hearing.{Up, nothing, opened, bytes, closed, up}
use Rattle.rfcomm_model.specs.Hearing as hearing
use Rattle.rfcomm_model.specs.Saying.{Said, next}
use Rattle.push_model.specs.declared.outlet.Outlet.{Outlet}
use Rattle.push_model.specs.declared.outlet.Outlet.TheVariants.{Records, Direct, Muxed}
use Rattle.push_model.specs.Payloads.{Payload, Octets, Framed}
use Rattle.push_model.specs.Sessions.{Gift}
use Rattle.push_model.specs.Service.{Service, answer_cut, without_response, without_answer, new_service}
use Rattle.push_model.specs.Listening.{Listener, Heeded, Received, heeds, lets_go_by, hears_stream}

pub record Server : Type 0 where
  pub serves : Serves
  -- the reply to a search that waits; none is without octets
  pub reply : List ℕ
  pub listener : Listener
  -- the multiplexer, and the octets of a packet that is not whole
  pub mux : Mux
  pub held : List ℕ
  -- its frame that waits, and which SDU was lent last and is not taken
  pub frame : Option PlainFrame
  pub lent : Option Outlet

-- the server after a call, and the inbox
pub record Reacted : Type 0 where
  pub server : Server
  pub gift : Gift

abbrev pub reacted_by : Server → Heeded → Reacted
reacted_by server heeded = record { server = record server { listener = heeded.listener }; gift = heeded.gift }

-- ---- calls

abbrev pub received_by : Server → Received → Reacted
received_by server received = record { server = record server { listener = received.listener; held = received.held }; gift = received.gift }

abbrev pub hears_octets : List ℕ → Server → Gift → Reacted
hears_octets octets server gift =
    if server.listener.breaks then record { server = server; gift = gift }
    else received_by server (hears_stream (length (server.held ++ octets)) (server.held ++ octets) server.listener gift)

abbrev pub hears_up : Up → Server → Gift → Reacted
hears_up nothing server gift = record { server = server; gift = gift }
hears_up opened server gift = record { server = server; gift = gift }
hears_up (bytes octets) server gift = hears_octets octets server gift
hears_up (closed reason) server gift = record { server = server; gift = gift }

-- each reply has 48 octets of room; a request whose reply would be one too many is ignored
abbrev pub reply_room : ℕ
reply_room = 48

abbrev pub hears_search : List ℕ → Server → Server
hears_search sdu server = if is_empty server.reply then record server { reply = reply_to server.serves reply_room sdu } else server

abbrev pub search_psm : ℕ
search_psm = 0x0001

abbrev pub rfcomm_psm : ℕ
rfcomm_psm = 0x0003

abbrev pub object_psm : ℕ
object_psm = 0x1001

-- the server channel that the service record names
abbrev pub server_channel : ℕ
server_channel = 9

-- an SDU came in on a channel of that PSM; any other PSM is none of its own
abbrev pub hears_on : ℕ → List ℕ → Server → Gift → Reacted
hears_on psm sdu server gift =
    if psm == search_psm then record { server = hears_search sdu server; gift = gift }
    else if psm == rfcomm_psm then hears_up (up sdu server.mux) (record server { mux = hearing.hears sdu server.mux }) gift
    else if psm == object_psm then reacted_by server (heeds L2cap sdu server.listener gift)
    else record { server = server; gift = gift }

abbrev pub unless_failed : Server → Gift → Reacted → Reacted
unless_failed server gift reacted = if server.listener.service.failed then record { server = server; gift = gift } else reacted

abbrev pub on_sdu : ℕ → List ℕ → Server → Gift → Reacted
on_sdu psm sdu server gift = unless_failed server gift (hears_on psm sdu server gift)

-- ---- what it sends

-- what was lent is forgotten where its channel is closed
abbrev pub unlent : Outlet → Option Outlet → Option Outlet
unlent outlet None = None
unlent Records (Some Records) = None
unlent Records (Some Direct) = Some Direct
unlent Records (Some Muxed) = Some Muxed
unlent Direct (Some Records) = Some Records
unlent Direct (Some Direct) = None
unlent Direct (Some Muxed) = Some Muxed
unlent Muxed (Some Records) = Some Records
unlent Muxed (Some Direct) = Some Direct
unlent Muxed (Some Muxed) = None

abbrev pub with_service : Service → Server → Server
with_service service server = record server { listener = record (server.listener) { service = service } }

-- the multiplexer takes of the response what it may
abbrev pub filled : Server → Server
filled server =
    let answer = server.listener.service.answer in
    if is_ready server.mux && not (is_empty answer)
    then with_service (answer_cut (taken_count (length answer) server.mux) server.listener.service) (record server { mux = sends answer server.mux })
    else server

abbrev pub said_on : Option Said → Server → Server
said_on None server = record server { frame = None }
said_on (Some said) server = record server { mux = said.after; frame = Some said.frame }

-- once the response is out, the multiplexer is closed where it is to be
abbrev pub breaks_now : Server → Bool
breaks_now server = server.listener.breaks && is_empty server.listener.service.answer

abbrev pub left_by : Server → Server
left_by server = said_on (next (leaves server.mux)) (record server { mux = leaves server.mux })

abbrev pub leaves_with : Option Said → Server → Server
leaves_with None server = let quiet = said_on None server in if breaks_now quiet then left_by quiet else quiet
leaves_with (Some said) server = said_on (Some said) server

abbrev pub framed_by : Option PlainFrame → Server → Server
framed_by None server = let full = filled server in leaves_with (next full.mux) full
framed_by (Some frame) server = server

-- the frame that is sent next waits
abbrev pub framed : Server → Server
framed server = framed_by server.frame server

abbrev pub outlet_of : Server → Option Outlet
outlet_of server =
    if not (is_empty server.reply) then Some Records
    else if not (is_empty server.listener.service.response) then Some Direct
    else if is_some server.frame then Some Muxed
    else None

-- replies go first, then responses over L2CAP, then frames
abbrev pub lends_new : Server → Server
lends_new server =
    if is_empty server.reply && is_empty server.listener.service.response then (let full = framed server in record full { lent = outlet_of full })
    else record server { lent = outlet_of server }

abbrev pub lends_by : Option Outlet → Server → Server
lends_by None server = lends_new server
lends_by (Some outlet) server = server

-- what was lent last is lent until it is taken
abbrev pub lends : Server → Server
lends server = lends_by server.lent server

-- an SDU, and the PSM of the channel that it is to be sent on
pub record Lent : Type 0 where
  pub psm : ℕ
  pub payload : Payload

abbrev pub frame_lent : Option PlainFrame → Option Lent
frame_lent None = None
frame_lent (Some frame) = Some (record { psm = rfcomm_psm; payload = Framed frame })

abbrev pub lent_by : Option Outlet → Server → Option Lent
lent_by None server = None
lent_by (Some Records) server = Some (record { psm = search_psm; payload = Octets server.reply })
lent_by (Some Direct) server = Some (record { psm = object_psm; payload = Octets server.listener.service.response })
lent_by (Some Muxed) server = frame_lent server.frame

-- the SDU that is lent; there is none where nothing waits
abbrev pub lent_sdu : Server → Option Lent
lent_sdu server = lent_by server.lent server

abbrev pub taken_by : Option Outlet → Server → Server
taken_by None server = server
taken_by (Some Records) server = record server { reply = []; lent = None }
taken_by (Some Direct) server = with_service (without_response server.listener.service) (record server { lent = None })
taken_by (Some Muxed) server = record server { frame = None; lent = None }

-- its channel took what was lent
abbrev pub stepped : Server → Server
stepped server = taken_by server.lent server

-- ---- channels and links end

abbrev pub unanswering : Listener → Listener
unanswering listener = record { service = without_answer listener.service; breaks = false }

-- what is kept for the multiplexer's channel is as at the start
abbrev pub remuxed : Server → Server
remuxed server = record server { listener = unanswering server.listener; mux = machine.reset server.mux.largest server.mux; held = []; frame = None; lent = unlent Muxed server.lent }

abbrev pub unanswered : Server → Server
unanswered server = with_service (without_response server.listener.service) (record server { lent = unlent Direct server.lent })

abbrev pub unreplied : Server → Server
unreplied server = record server { reply = []; lent = unlent Records server.lent }

abbrev pub lets_go_on : Transport → Server → Gift → Reacted
lets_go_on transport server gift = reacted_by server (lets_go_by transport server.listener gift)

abbrev pub closed_on : ℕ → Server → Gift → Reacted
closed_on psm server gift =
    if psm == search_psm then record { server = unreplied server; gift = gift }
    else if psm == rfcomm_psm then lets_go_on Rfcomm (remuxed server) gift
    else if psm == object_psm then lets_go_on L2cap (unanswered server) gift
    else record { server = server; gift = gift }

abbrev pub channel_down : ℕ → Server → Gift → Reacted
channel_down psm server gift = unless_failed server gift (closed_on psm server gift)

abbrev pub lets_go_twice : Reacted → Reacted
lets_go_twice reacted =
    if reacted.server.listener.service.failed then reacted
    else lets_go_on Rfcomm (remuxed (unreplied reacted.server)) reacted.gift

-- all is as at the start
abbrev pub link_down : Server → Gift → Reacted
link_down server gift = unless_failed server gift (lets_go_twice (lets_go_on L2cap (unanswered server) gift))

-- ---- a server is made

abbrev pub new_server : Settings → Server
new_server settings = record {
  serves = settings.serves;
  reply = [];
  listener = record { service = new_service (min settings.obex settings.mtu) settings.obex true; breaks = false };
  mux = machine.new_mux Responder (2 * server_channel) (settings.mtu - 6) (settings.mtu - 6) settings.credits;
  held = [];
  frame = None;
  lent = None;
}
