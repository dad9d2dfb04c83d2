-- Whatever comes to a server over RFCOMM, what it lends can be spelled.
use Rattle.std.proofs.Common.{Bool, true, false, cond, eqb, zero, suc, ◌&&◌, ◌-◌, ◌^◌, ◌<◌, ◌≡◌, ℕ, List, [], ◌∷◌, ◌++◌, length, take, Option, Some, None, arith, refl, subst}
use Rattle.std.specs.Prelude.{not}
use Rattle.pair_laws.specs.bt_base.specs.declared.settings.Transport.{Transport}
use Rattle.pair_laws.specs.bt_base.specs.declared.settings.Transport.TheVariants.{L2cap, Rfcomm}
use Rattle.pair_laws.specs.bt_base.specs.Octets.{IsOctets}
use Rattle.pair_laws.specs.obex_headers.proofs.Numbers.{IsOctets-drop}
use Rattle.pair_laws.specs.rfcomm_frames.specs.FrameReading.{is_empty}
use Rattle.pair_laws.specs.rfcomm_frames.specs.declared.connection.Role.TheVariants.{Responder}
use Rattle.pair_laws.specs.rfcomm_frames.specs.Frames.{PlainFrame}
use Rattle.pair_laws.specs.rfcomm_model.specs.Hearing as hearing
use Rattle.pair_laws.specs.rfcomm_model.specs.Hearing.{Up, nothing, opened, bytes, closed, up}
use Rattle.pair_laws.specs.rfcomm_model.specs.Machine.{is_ready, leaves, sends, taken_count}
use Rattle.pair_laws.specs.rfcomm_model.specs.Saying.{Said, next}
use Rattle.pair_laws.specs.push_model.specs.declared.outlet.Outlet.{Outlet}
use Rattle.pair_laws.specs.push_model.specs.declared.outlet.Outlet.TheVariants.{Records, Direct, Muxed}
use Rattle.pair_laws.specs.push_model.specs.Listening as listening
use Rattle.pair_laws.specs.push_model.specs.Listening.{Listener, Heeded, Received, stops, received, heeds_carried, heeds_broken, hears_front, hears_stream}
use Rattle.pair_laws.specs.push_model.specs.Payloads.{Octets, Framed, IsSaid}
use Rattle.pair_laws.specs.push_model.specs.Server.{Server, Reacted, Lent, received_by, reacted_by, hears_up, hears_search, hears_on, filled, with_service, said_on, breaks_now, left_by, leaves_with, framed_by, framed, outlet_of, lends_by, lends, lent_by, frame_lent, taken_by, closed_on, lets_go_on, lets_go_twice, remuxed, unreplied, unanswered}
use Rattle.pair_laws.specs.push_model.specs.Service.{Service, Served, response_over, is_ignored, after_parted, after_heard, hears_packet, answer_cut}
use Rattle.pair_laws.specs.push_model.specs.Sessions.{Gift, lets_go, hears}
use Rattle.pair_laws.specs.push_model.specs.Streams.{Front, Whole, Partial, Broken, front_of}
use Rattle.pair_laws.specs.push_laws.specs.Occurrences.{Occurrence, Came, Went, Closed, LinkDown, Asked, Answering, done}
use Rattle.pair_laws.specs.host_model.specs.Pdus.{sdu_of}
use Rattle.request_laws.specs.Spellable.{SaysSpellable, IsSaidSpellable}
use Rattle.request_laws.specs.SpellableServers.{ComesInOctets, IsSomeSpellable, LendsSpellable, ServerFramesAreSaid}
use Rattle.request_laws.proofs.ResponseOctets.{response_are_octets}
use Rattle.request_laws.proofs.Spellable.{frames_are_spellable}
use Rattle.request_laws.proofs.SpellableParts.{none_octets, read_so}

-- ---- responses

abbrev AnswersOctets : Service → Type 0
AnswersOctets service = IsOctets service.answer

over_octets : (t : Transport) (response : List ℕ) (service : Service) → IsOctets response → AnswersOctets service → AnswersOctets (response_over t response service)
over_octets L2cap [] service is s = s
over_octets Rfcomm [] service is s = s
over_octets L2cap (octet ∷ octets) service is s = s
over_octets Rfcomm (octet ∷ octets) service is s = is

either_served : (b : Bool) (x y : Served) → AnswersOctets x.service → AnswersOctets y.service → AnswersOctets (cond b x y).service
either_served true x y s t = s
either_served false x y s t = t

packet_octets_fit : (t : Transport) (packet : List ℕ) (service : Service) (gift : Gift) → AnswersOctets service → AnswersOctets (hears_packet t packet service gift).service
packet_octets_fit t packet service gift s =
    let h = hears t packet service.sessions gift in
    either_served (is_ignored t packet service) (after_parted service (lets_go t service.sessions gift)) (after_heard t service h) s
    (over_octets t h.response _ (response_are_octets t packet service.sessions gift) s)

either_received : (b : Bool) (x y : Received) → AnswersOctets x.listener.service → AnswersOctets y.listener.service → AnswersOctets (cond b x y).listener.service
either_received true x y s t = s
either_received false x y s t = t

more_fit : (less : ℕ) (rest : List ℕ) (heeded : Heeded) → AnswersOctets heeded.listener.service → ((l : Listener) (g : Gift) → AnswersOctets l.service → AnswersOctets (hears_stream less rest l g).listener.service)
    → AnswersOctets (listening.hears_on (λ l g. hears_stream less rest l g) heeded).listener.service
more_fit less rest heeded s more = either_received (stops heeded.listener) (received [] heeded) (hears_stream less rest heeded.listener heeded.gift) s (more heeded.listener heeded.gift s)

front_fit : (less : ℕ) (stream : List ℕ) (front : Front) (listener : Listener) (gift : Gift) → AnswersOctets listener.service → ((rest : List ℕ) (l : Listener) (g : Gift) → AnswersOctets l.service → AnswersOctets (hears_stream less rest l g).listener.service)
    → AnswersOctets (hears_front (λ rest l g. hears_stream less rest l g) stream front listener gift).listener.service
front_fit less stream (Whole packet rest) listener gift s more = more_fit less rest (heeds_carried packet listener gift) (packet_octets_fit Rfcomm packet listener.service gift s) (more rest)
front_fit less stream Partial listener gift s more = s
front_fit less stream (Broken refusal) listener gift s more = packet_octets_fit Rfcomm (take 3 stream) listener.service gift s

stream_fit : (steps : ℕ) (stream : List ℕ) (listener : Listener) (gift : Gift) → AnswersOctets listener.service → AnswersOctets (hears_stream steps stream listener gift).listener.service
unfolding hears_stream
stream_fit zero stream listener gift s = s
stream_fit (suc steps) stream listener gift s = front_fit steps stream (front_of listener.service.sessions.carried.maximum stream) listener gift s (λ rest l g t. stream_fit steps rest l g t)

-- ---- the server

either : (b : Bool) (x y : Reacted) → LendsSpellable x.server → LendsSpellable y.server → LendsSpellable (cond b x y).server
either true x y s t = s
either false x y s t = t

either_server : (b : Bool) (x y : Server) → LendsSpellable x → LendsSpellable y → LendsSpellable (cond b x y)
either_server true x y s t = s
either_server false x y s t = t

search_fit : (sdu : List ℕ) (server : Server) → LendsSpellable server → LendsSpellable (hears_search sdu server)
search_fit sdu server s = either_server (is_empty server.reply) _ server s s

up_fit : (u : Up) (server : Server) (gift : Gift) → LendsSpellable server → LendsSpellable (hears_up u server gift).server
up_fit nothing server gift s = s
up_fit opened server gift s = s
up_fit (closed reason) server gift s = s
up_fit (bytes octets) server gift (mux, answer, frame) =
    let stream = server.held ++ octets in
    either server.listener.breaks (record { server = server; gift = gift }) (received_by server (hears_stream (length stream) stream server.listener gift)) (mux, answer, frame)
    (mux, stream_fit (length stream) stream server.listener gift answer, frame)

hears_fit : (psm : ℕ) (sdu : List ℕ) (server : Server) (gift : Gift) → IsOctets sdu → LendsSpellable server → LendsSpellable (hears_on psm sdu server gift).server
hears_fit psm sdu server gift fits (mux, answer, frame) =
    either (eqb psm 0x0001) (record { server = hears_search sdu server; gift = gift }) _ (search_fit sdu server (mux, answer, frame))
    (either (eqb psm 0x0003) (hears_up (up sdu server.mux) (record server { mux = hearing.hears sdu server.mux }) gift) _
    (up_fit (up sdu server.mux) (record server { mux = hearing.hears sdu server.mux }) gift (frames_are_spellable.hearing sdu server.mux fits mux, answer, frame))
    (either (eqb psm 0x1001) (reacted_by server (listening.heeds L2cap sdu server.listener gift)) (record { server = server; gift = gift }) (mux, packet_octets_fit L2cap sdu server.listener.service gift answer, frame) (mux, answer, frame)))

said_fit : (said : Option Said) (server : Server) → IsSaidSpellable said → LendsSpellable server → LendsSpellable (said_on said server)
said_fit None server is (mux, answer, frame) = (mux, answer, tt)
said_fit (Some said) server is (mux, answer, frame) = (is.1, answer, is.0)

left_fit : (server : Server) → LendsSpellable server → LendsSpellable (left_by server)
left_fit server (mux, answer, frame) =
    let leaving = frames_are_spellable.leaving server.mux mux in
    said_fit (next (leaves server.mux)) (record server { mux = leaves server.mux }) (frames_are_spellable.saying (leaves server.mux) leaving) (leaving, answer, frame)

leaves_fit : (said : Option Said) (server : Server) → IsSaidSpellable said → LendsSpellable server → LendsSpellable (leaves_with said server)
leaves_fit (Some said) server is s = said_fit (Some said) server is s
leaves_fit None server is s =
    let quiet : Server = said_on None server in
    let calm : LendsSpellable quiet = said_fit None server tt s in
    either_server (breaks_now quiet) (left_by quiet) quiet (left_fit quiet calm) calm

filled_fit : (server : Server) → LendsSpellable server → LendsSpellable (filled server)
filled_fit server (mux, answer, frame) =
    let octets : List ℕ = server.listener.service.answer in
    let count : ℕ = taken_count (length octets) server.mux in
    either_server (is_ready server.mux && not (is_empty octets)) (with_service (answer_cut count server.listener.service) (record server { mux = sends octets server.mux })) server
    (frames_are_spellable.giving octets server.mux answer mux, IsOctets-drop count octets answer, frame) (mux, answer, frame)

next_said : (server : Server) → LendsSpellable server → IsSaidSpellable (next server.mux)
next_said server (mux, answer, frame) = frames_are_spellable.saying server.mux mux

framed_fit : (o : Option PlainFrame) (server : Server) → LendsSpellable server → LendsSpellable (framed_by o server)
framed_fit None server s = let full = filled_fit server s in leaves_fit (next (filled server).mux) (filled server) (next_said (filled server) full) full
framed_fit (Some frame) server s = s

lends_fit : (o : Option Outlet) (server : Server) → LendsSpellable server → LendsSpellable (lends_by o server)
lends_fit (Some outlet) server s = s
lends_fit None server s =
    let full : Server = framed server in
    either_server (is_empty server.reply && is_empty server.listener.service.response) (record full { lent = outlet_of full }) (record server { lent = outlet_of server }) (framed_fit server.frame server s) s

taken_fit : (o : Option Outlet) (server : Server) → LendsSpellable server → LendsSpellable (taken_by o server)
taken_fit None server s = s
taken_fit (Some Records) server s = s
taken_fit (Some Direct) server s = s
taken_fit (Some Muxed) server (mux, answer, frame) = (mux, answer, tt)

own_fits : (server : Server) → SaysSpellable server.mux → server.mux.largest < 2 ^ 15
own_fits server (numbers, answers, waiting) = numbers.largest_fits

carried_fit : (server : Server) (gift : Gift) → LendsSpellable server → LendsSpellable (lets_go_on Rfcomm (remuxed server) gift).server
carried_fit server gift (mux, answer, frame) = (frames_are_spellable.anew server.mux.largest server.mux (own_fits server mux) mux, none_octets, tt)

closed_fit : (psm : ℕ) (server : Server) (gift : Gift) → LendsSpellable server → LendsSpellable (closed_on psm server gift).server
closed_fit psm server gift s =
    either (eqb psm 0x0001) (record { server = unreplied server; gift = gift }) _ s
    (either (eqb psm 0x0003) (lets_go_on Rfcomm (remuxed server) gift) _ (carried_fit server gift s)
    (either (eqb psm 0x1001) (lets_go_on L2cap (unanswered server) gift) (record { server = server; gift = gift }) s s))

twice_fit : (r : Reacted) → LendsSpellable r.server → LendsSpellable (lets_go_twice r).server
twice_fit r s = either r.server.listener.service.failed r (lets_go_on Rfcomm (remuxed (unreplied r.server)) r.gift) s (carried_fit (unreplied r.server) r.gift s)

done_fit : (one : Occurrence) (at : Reacted) → ComesInOctets one → LendsSpellable at.server → LendsSpellable (done one at).server
done_fit (Came psm sdu) at fits s = either at.server.listener.service.failed (record { server = at.server; gift = at.gift }) (hears_on psm sdu at.server at.gift) s (hears_fit psm sdu at.server at.gift fits s)
done_fit (Went psm sdu) at fits s = taken_fit at.server.lent at.server s
done_fit (Closed psm) at fits s = either at.server.listener.service.failed (record { server = at.server; gift = at.gift }) (closed_on psm at.server at.gift) s (closed_fit psm at.server at.gift s)
done_fit LinkDown at fits s =
    either at.server.listener.service.failed (record { server = at.server; gift = at.gift }) (lets_go_twice (lets_go_on L2cap (unanswered at.server) at.gift)) s (twice_fit (lets_go_on L2cap (unanswered at.server) at.gift) s)
done_fit Asked at fits s = lends_fit at.server.lent at.server s
done_fit (Answering answers) at fits s = s

-- ---- what is lent

same_lent : (a b : Lent) → Some a ≡ Some b → a ≡ b
same_lent a b e = cc

said_as : (a lent : Lent) → Some a ≡ Some lent → IsSaid a.payload (sdu_of a.payload) → IsSaid lent.payload (sdu_of lent.payload)
said_as a lent e is = subst (λ (l : Lent). IsSaid l.payload (sdu_of l.payload)) (same_lent a lent e) is

frame_said : (frame : Option PlainFrame) (lent : Lent) → IsSomeSpellable frame → frame_lent frame ≡ Some lent → IsSaid lent.payload (sdu_of lent.payload)
frame_said None lent is e = absurd (let f : None ≡ Some lent = e in cc)
frame_said (Some frame) lent is e = said_as (record { psm = 0x0003; payload = Framed frame }) lent e (read_so frame is).0

lent_said : (o : Option Outlet) (server : Server) (lent : Lent) → LendsSpellable server → lent_by o server ≡ Some lent → IsSaid lent.payload (sdu_of lent.payload)
lent_said None server lent s e = absurd (let f : None ≡ Some lent = e in cc)
lent_said (Some Records) server lent s e = said_as (record { psm = 0x0001; payload = Octets server.reply }) lent e refl
lent_said (Some Direct) server lent s e = said_as (record { psm = 0x1001; payload = Octets server.listener.service.response }) lent e refl
lent_said (Some Muxed) server lent (mux, answer, frame) e = frame_said server.frame lent frame e

pub server_frames_are_said : ServerFramesAreSaid
server_frames_are_said = record {
  first = λ settings content.
      let high = settings.mtu_high in
      let credits = settings.credits_high in (
        frames_are_spellable.made Responder 18 (settings.mtu - 6) (settings.mtu - 6) settings.credits
            (record { user = omega arith; below = omega arith; largest_fits = omega (arith, high); own_fits = omega (arith, high); frame_fits = omega (arith, high); cap_fits = omega (arith, credits) }),
        none_octets,
        tt,
      );
  doing = done_fit;
  saying = λ server s lent e. lent_said (lends server).lent (lends server) lent (lends_fit server.lent server s) e;
}
