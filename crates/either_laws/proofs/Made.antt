-- A server keeps the services that it offers, and its sessions whether they offer single response mode, whatever happens to it.
use Rattle.std.proofs.Common.{Bool, true, false, cond, zero, suc, ◌||◌, ◌&&◌, ◌≡◌, ℕ, List, [], ◌∷◌, ◌++◌, take, Option, Some, None, refl, sym, subst, ◌∙◌}
use Rattle.std.proofs.lemmas.Bool.{cond_both, cond-false}
use Rattle.request_laws.specs.bt_base.specs.declared.settings.Serves.{Serves}
use Rattle.request_laws.specs.bt_base.specs.declared.settings.Settings.{Settings}
use Rattle.request_laws.specs.bt_base.specs.declared.settings.Transport.{Transport}
use Rattle.request_laws.specs.bt_base.specs.declared.settings.Transport.TheVariants.{L2cap, Rfcomm}
use Rattle.request_laws.specs.obex_session.specs.Past.{Serving}
use Rattle.request_laws.specs.obex_session.specs.Serving.{heard_with}
use Rattle.request_laws.specs.obex_session.specs.Views.{rested}
use Rattle.request_laws.specs.rfcomm_frames.specs.FrameReading.{is_empty}
use Rattle.request_laws.specs.rfcomm_frames.specs.Frames.{PlainFrame}
use Rattle.request_laws.specs.push_model.specs.rfcomm_model.specs.Hearing as hearing
use Rattle.request_laws.specs.push_model.specs.rfcomm_model.specs.Hearing.{Up, nothing, opened, bytes, closed, up}
use Rattle.request_laws.specs.push_model.specs.rfcomm_model.specs.Machine.{leaves, sends, taken_count}
use Rattle.request_laws.specs.push_model.specs.rfcomm_model.specs.Saying.{Said, next}
use Rattle.request_laws.specs.push_model.specs.declared.outlet.Outlet.{Outlet}
use Rattle.request_laws.specs.push_model.specs.declared.outlet.Outlet.TheVariants.{Records, Direct, Muxed}
use Rattle.request_laws.specs.push_model.specs.Listening.{Listener, Heeded, Received, heeds_carried, stops, hears_on, hears_front, hears_stream}
use Rattle.request_laws.specs.push_model.specs.Service.{Service, Served, answer_cut, response_over, is_ignored, hears_packet}
use Rattle.request_laws.specs.push_model.specs.Sessions as model
use Rattle.request_laws.specs.push_model.specs.Sessions.{Sessions, Gift, session_of, other_of, with_session, lets_go, answers_to, is_naming, hears_after, hears}
use Rattle.request_laws.specs.push_model.specs.Server as server
use Rattle.request_laws.specs.push_model.specs.Server.{Server, Reacted, hears_up, with_service, filled, said_on, breaks_now, left_by, leaves_with, framed_by, framed, outlet_of, lends_by, lets_go_on, lets_go_twice, remuxed, unreplied, unanswered}
use Rattle.request_laws.specs.push_model.specs.Streams.{Front, Whole, Partial, Broken, front_of}
use Rattle.request_laws.specs.push_laws.specs.Occurrences.{Occurrence, Came, Went, Closed, LinkDown, Asked, Answering, done}
use Rattle.request_laws.specs.push_laws.proofs.Servers.{by_psm}

-- the session over L2CAP offers single response mode, and the other one does not
abbrev Offers : Sessions → Type 0
Offers sessions = (sessions.direct.offered ≡ true) × (sessions.carried.offered ≡ false)

-- ---- packets

with_offers : (t : Transport) (session : Serving) (sessions : Sessions) → session.offered ≡ (session_of t sessions).offered → Offers sessions → Offers (with_session t session sessions)
with_offers L2cap session sessions same o = (same ∙ o.0, o.1)
with_offers Rfcomm session sessions same o = (o.0, same ∙ o.1)

parted_offers : (t : Transport) (sessions : Sessions) (gift : Gift) → Offers sessions → Offers (lets_go t sessions gift).sessions
parted_offers t sessions gift o = with_offers t (rested (session_of t sessions)) sessions refl o

answered_offers : (t : Transport) (packet : List ℕ) (sessions : Sessions) (gift : Gift) → Offers sessions → Offers (answers_to t packet sessions gift).sessions
answered_offers t packet sessions gift o = with_offers t (heard_with (session_of t sessions) packet gift.answers).session sessions refl o

heard_offers : (t : Transport) (packet : List ℕ) (sessions : Sessions) (gift : Gift) → Offers sessions → Offers (hears t packet sessions gift).sessions
heard_offers t packet sessions gift o =
    let parted = lets_go (other_of t) sessions gift in
    let gone = parted_offers (other_of t) sessions gift o in
    cond_both (is_naming t packet sessions) (hears_after t packet parted) (answers_to t packet sessions gift) (λ (h : model.Heard). Offers h.sessions)
    (λ named. cond_both parted.short _ (answers_to t packet parted.sessions parted.gift) (λ (h : model.Heard). Offers h.sessions) (λ short. gone) (λ e. answered_offers t packet parted.sessions parted.gift gone))
    (λ unnamed. answered_offers t packet sessions gift o)

over_offers : (t : Transport) (response : List ℕ) (service : Service) → Offers service.sessions → Offers (response_over t response service).sessions
over_offers t [] service o = o
over_offers L2cap (octet ∷ octets) service o = o
over_offers Rfcomm (octet ∷ octets) service o = o

packet_offers : (t : Transport) (packet : List ℕ) (service : Service) (gift : Gift) → Offers service.sessions → Offers (hears_packet t packet service gift).service.sessions
packet_offers t packet service gift o =
    let h = hears t packet service.sessions gift in
    cond_both (is_ignored t packet service) _ _ (λ (s : Served). Offers s.service.sessions) (λ e. parted_offers t service.sessions gift o)
    (λ e. over_offers t h.response (record service { sessions = h.sessions; failed = service.failed || h.short }) (heard_offers t packet service.sessions gift o))

-- ---- the stream of packets over RFCOMM

abbrev Listens : Listener → Type 0
Listens listener = Offers listener.service.sessions

on_offers : (more : Listener → Gift → Received) → ((listener : Listener) (gift : Gift) → Listens listener → Listens (more listener gift).listener) → (heeded : Heeded) → Listens heeded.listener → Listens (hears_on more heeded).listener
on_offers more keeps heeded o = cond_both (stops heeded.listener) _ _ (λ (r : Received). Listens r.listener) (λ e. o) (λ e. keeps heeded.listener heeded.gift o)

front_offers : (more : List ℕ → Listener → Gift → Received) → ((rest : List ℕ) (listener : Listener) (gift : Gift) → Listens listener → Listens (more rest listener gift).listener) → (stream : List ℕ) (front : Front) (listener : Listener) (gift : Gift) → Listens listener
    → Listens (hears_front more stream front listener gift).listener
front_offers more keeps stream (Whole packet rest) listener gift o = on_offers (more rest) (keeps rest) (heeds_carried packet listener gift) (packet_offers Rfcomm packet listener.service gift o)
front_offers more keeps stream Partial listener gift o = o
front_offers more keeps stream (Broken refusal) listener gift o = packet_offers Rfcomm (take 3 stream) listener.service gift o

stream_offers : (steps : ℕ) (stream : List ℕ) (listener : Listener) (gift : Gift) → Listens listener → Listens (hears_stream steps stream listener gift).listener
unfolding hears_stream
stream_offers zero stream listener gift o = o
stream_offers (suc steps) stream listener gift o =
    front_offers (λ rest next after. hears_stream steps rest next after) (λ rest next after. stream_offers steps rest next after) stream (front_of listener.service.sessions.carried.maximum stream) listener gift o

-- ---- a server

module _ (serves : Serves) where
  abbrev pub IsMade : Server → Type 0
  IsMade at = (at.serves ≡ serves) × Offers at.listener.service.sessions

  up_made : (u : Up) (at : Server) (gift : Gift) → IsMade at → IsMade (hears_up u at gift).server
  up_made nothing at gift m = m
  up_made opened at gift m = m
  up_made (closed reason) at gift m = m
  up_made (bytes octets) at gift m = cond_both at.listener.breaks _ _ (λ (r : Reacted). IsMade r.server) (λ e. m) (λ e. (m.0, stream_offers _ (at.held ++ octets) at.listener gift m.1))

  came_made : (psm : ℕ) (sdu : List ℕ) (at : Server) (gift : Gift) → IsMade at → IsMade (server.hears_on psm sdu at gift).server
  came_made psm sdu at gift m =
      by_psm (λ p. IsMade (server.hears_on p sdu at gift).server)
      (cond_both (is_empty at.reply) _ _ IsMade (λ e. m) (λ e. m))
      (up_made (up sdu at.mux) (record at { mux = hearing.hears sdu at.mux }) gift m)
      (m.0, packet_offers L2cap sdu at.listener.service gift m.1)
      (λ p x y z. subst (λ (r : Reacted). IsMade r.server) (sym (cond-false _ _ _ x ∙ (cond-false _ _ _ y ∙ cond-false _ _ (let r : Reacted = record { server = at; gift = gift } in r) z))) m)
      psm

  fill_made : (at : Server) → IsMade at → IsMade (filled at)
  fill_made at m = cond_both _ (with_service (answer_cut (taken_count _ at.mux) at.listener.service) (record at { mux = sends at.listener.service.answer at.mux })) at IsMade (λ e. m) (λ e. m)

  said_made : (o : Option Said) (at : Server) → IsMade at → IsMade (said_on o at)
  said_made None at m = m
  said_made (Some said) at m = m

  leaves_made : (o : Option Said) (at : Server) → IsMade at → IsMade (leaves_with o at)
  leaves_made None at m =
      let quiet : Server = said_on None at in
      cond_both (breaks_now quiet) (left_by quiet) quiet IsMade (λ e. said_made (next (leaves quiet.mux)) (record quiet { mux = leaves quiet.mux }) m) (λ e. m)
  leaves_made (Some said) at m = said_made (Some said) at m

  framed_made : (frame : Option PlainFrame) (at : Server) → IsMade at → IsMade (framed_by frame at)
  framed_made None at m = let full = filled at in leaves_made (next full.mux) full (fill_made at m)
  framed_made (Some frame) at m = m

  lends_made : (o : Option Outlet) (at : Server) → IsMade at → IsMade (lends_by o at)
  lends_made None at m =
      let full : Server = framed at in
      cond_both (is_empty at.reply && is_empty at.listener.service.response) (record full { lent = outlet_of full }) (record at { lent = outlet_of at }) IsMade (λ e. framed_made at.frame at m) (λ e. m)
  lends_made (Some outlet) at m = m

  taken_made : (o : Option Outlet) (at : Server) → IsMade at → IsMade (server.taken_by o at)
  taken_made None at m = m
  taken_made (Some Records) at m = m
  taken_made (Some Direct) at m = m
  taken_made (Some Muxed) at m = m

  gone_made : (t : Transport) (at : Server) (gift : Gift) → IsMade at → IsMade (lets_go_on t at gift).server
  gone_made t at gift m = (m.0, parted_offers t at.listener.service.sessions gift m.1)

  closed_made : (psm : ℕ) (at : Server) (gift : Gift) → IsMade at → IsMade (server.closed_on psm at gift).server
  closed_made psm at gift m =
      by_psm (λ p. IsMade (server.closed_on p at gift).server) m (gone_made Rfcomm (remuxed at) gift m) (gone_made L2cap (unanswered at) gift m)
      (λ p x y z. subst (λ (r : Reacted). IsMade r.server) (sym (cond-false _ _ _ x ∙ (cond-false _ _ _ y ∙ cond-false _ _ (let r : Reacted = record { server = at; gift = gift } in r) z))) m) psm

  unless_made : (failed : Bool) (at : Server) (gift : Gift) (after : Reacted) → IsMade at → IsMade after.server → IsMade (cond failed (let r : Reacted = record { server = at; gift = gift } in r) after).server
  unless_made true at gift after m n = m
  unless_made false at gift after m n = n

  twice_made : (r : Reacted) → IsMade r.server → IsMade (lets_go_twice r).server
  twice_made r m =
      cond_both r.server.listener.service.failed r (lets_go_on Rfcomm (remuxed (unreplied r.server)) r.gift) (λ (x : Reacted). IsMade x.server) (λ e. m) (λ e. gone_made Rfcomm (remuxed (unreplied r.server)) r.gift m)

  pub made_more : (one : Occurrence) (at : Reacted) → IsMade at.server → IsMade (done one at).server
  made_more (Came psm sdu) at m = unless_made at.server.listener.service.failed at.server at.gift (server.hears_on psm sdu at.server at.gift) m (came_made psm sdu at.server at.gift m)
  made_more (Went psm sdu) at m = taken_made at.server.lent at.server m
  made_more (Closed psm) at m = unless_made at.server.listener.service.failed at.server at.gift (server.closed_on psm at.server at.gift) m (closed_made psm at.server at.gift m)
  made_more LinkDown at m =
      let first = lets_go_on L2cap (unanswered at.server) at.gift in
      unless_made at.server.listener.service.failed at.server at.gift (lets_go_twice first) m (twice_made first (gone_made L2cap (unanswered at.server) at.gift m))
  made_more Asked at m = lends_made at.server.lent at.server m
  made_more (Answering answers) at m = m

pub first_made : (settings : Settings) → IsMade settings.serves (server.new_server settings)
first_made settings = (refl, (refl, refl))
