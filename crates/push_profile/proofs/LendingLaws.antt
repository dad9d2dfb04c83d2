-- What a server lends leaves its sessions as they are.
use Rattle.std.proofs.Common.{◌≡◌, Bool, true, false, ◌&&◌, not, length, Option, Some, None, refl, ◌∙◌, if◌then◌else◌}
use Rattle.push_model.specs.rfcomm_frames.specs.Frames.{PlainFrame}
use Rattle.push_model.specs.rfcomm_frames.specs.FrameReading.{is_empty}
use Rattle.push_model.specs.rfcomm_model.specs.Machine.{is_ready, sends, taken_count}
use Rattle.push_model.specs.rfcomm_model.specs.Saying.{Said, next}
use Rattle.push_model.specs.declared.outlet.Outlet.{Outlet}
use Rattle.push_model.specs.declared.outlet.Outlet.TheVariants.{Records, Direct, Muxed}
use Rattle.push_model.specs.Sessions.{Sessions}
use Rattle.push_model.specs.Service.{answer_cut}
use Rattle.push_model.specs.Server.{Server, with_service, filled, said_on, breaks_now, left_by, leaves_with, framed_by, framed, outlet_of, lends_new, lends_by, lends, taken_by, stepped}

abbrev sessions : Server → Sessions
sessions server = server.listener.service.sessions

abbrev Leaves : Server → Server → Type 0
Leaves old new = sessions new ≡ sessions old

either : (test : Bool) (old a b : Server) → Leaves old a → Leaves old b → Leaves old (if test then a else b)
either true old a b first second = first
either false old a b first second = second

said_leaves : (said : Option Said) (server : Server) → Leaves server (said_on said server)
said_leaves None server = refl
said_leaves (Some said) server = refl

filled_leaves : (server : Server) → Leaves server (filled server)
filled_leaves server =
    let answer = server.listener.service.answer in
    either (is_ready server.mux && not (is_empty answer)) server
    (with_service (answer_cut (taken_count (length answer) server.mux) server.listener.service) (record server { mux = sends answer server.mux })) server refl refl

left_leaves : (server : Server) → Leaves server (left_by server)
left_leaves server = said_leaves _ _

with_leaves : (said : Option Said) (server : Server) → Leaves server (leaves_with said server)
with_leaves None server = either (breaks_now (said_on None server)) server (left_by (said_on None server)) (said_on None server) (left_leaves (said_on None server)) refl
with_leaves (Some said) server = refl

framed_leaves : (frame : Option PlainFrame) (server : Server) → Leaves server (framed_by frame server)
framed_leaves None server = with_leaves (next (filled server).mux) (filled server) ∙ filled_leaves server
framed_leaves (Some frame) server = refl

new_leaves : (server : Server) → Leaves server (lends_new server)
new_leaves server =
    either (is_empty server.reply && is_empty server.listener.service.response) server (record (framed server) { lent = outlet_of (framed server) }) (record server { lent = outlet_of server })
    (framed_leaves server.frame server) refl

lends_leaves_by : (lent : Option Outlet) (server : Server) → Leaves server (lends_by lent server)
lends_leaves_by None server = new_leaves server
lends_leaves_by (Some outlet) server = refl

pub lends_leaves : (server : Server) → Leaves server (lends server)
lends_leaves server = lends_leaves_by server.lent server

taken_leaves : (lent : Option Outlet) (server : Server) → Leaves server (taken_by lent server)
taken_leaves None server = refl
taken_leaves (Some Records) server = refl
taken_leaves (Some Direct) server = refl
taken_leaves (Some Muxed) server = refl

pub stepped_leaves : (server : Server) → Leaves server (stepped server)
stepped_leaves server = taken_leaves server.lent server
