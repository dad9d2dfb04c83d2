-- A server to which nothing comes over L2CAP: no response waits there, and no object is under way.
use Rattle.std.proofs.Common.{Bool, true, false, cond, zero, suc, ◌||◌, ◌&&◌, ◌≡◌, ◌==◌, ℕ, List, [], ◌∷◌, ◌++◌, take, Option, Some, None, refl, sym, subst, ◌∙◌}
use Rattle.std.proofs.lemmas.Bool.{cond_both, cond-false}
use Rattle.link_talk.specs.bt_base.specs.declared.settings.Settings.{Settings}
use Rattle.link_talk.specs.bt_base.specs.declared.settings.Transport.TheVariants.{L2cap, Rfcomm}
use Rattle.push_model.specs.rfcomm_frames.specs.FrameReading.{is_empty}
use Rattle.push_model.specs.rfcomm_frames.specs.Frames.{PlainFrame}
use Rattle.push_model.specs.rfcomm_model.specs.Hearing as hearing
use Rattle.push_model.specs.rfcomm_model.specs.Hearing.{Up, nothing, opened, bytes, closed, up}
use Rattle.push_model.specs.rfcomm_model.specs.Machine.{leaves, sends, taken_count}
use Rattle.push_model.specs.rfcomm_model.specs.Saying.{Said, next}
use Rattle.push_model.specs.declared.outlet.Outlet.{Outlet}
use Rattle.push_model.specs.declared.outlet.Outlet.TheVariants.{Records, Direct, Muxed}
use Rattle.push_model.specs.Listening.{Listener, Heeded, Received, heeds_carried, stops, hears_on, hears_front, hears_stream}
use Rattle.push_model.specs.Service.{Service, Served, answer_cut, response_over, is_ignored, hears_packet}
use Rattle.push_model.specs.Sessions as model
use Rattle.push_model.specs.Sessions.{Sessions, Gift, Parted, has_object, lets_go, answers_to, is_naming, hears_after, hears}
use Rattle.push_model.specs.Server as server
use Rattle.push_model.specs.Server.{Server, Reacted, hears_search, hears_up, with_service, filled, said_on, breaks_now, left_by, leaves_with, framed_by, framed, outlet_of, lends_by, lets_go_on, lets_go_twice, remuxed, unreplied, unanswered, object_psm, rfcomm_psm}
use Rattle.push_model.specs.Streams.{Front, Whole, Partial, Broken, front_of}
use Rattle.push_laws.specs.Carriage.{come_by}
use Rattle.push_laws.specs.Dialogs.{NoPacket}
use Rattle.push_laws.specs.Occurrences.{Occurrence, Came, Went, Closed, LinkDown, Asked, Answering, done}
use Rattle.push_laws.specs.Parties.{sdu_if}
use Rattle.push_laws.specs.Readings.{closes}
use Rattle.push_laws.proofs.Servers.{by_psm}

abbrev pub Undirected : Service → Type 0
Undirected service = (service.response ≡ []) × (has_object service.sessions.direct ≡ false)

-- ---- packets over RFCOMM

abbrev NoDirect : Sessions → Type 0
NoDirect sessions = has_object sessions.direct ≡ false

heard_none : (packet : List ℕ) (sessions : Sessions) (gift : Gift) → NoDirect sessions → NoDirect (hears Rfcomm packet sessions gift).sessions
heard_none packet sessions gift none =
    let parted = lets_go L2cap sessions gift in
    cond_both (is_naming Rfcomm packet sessions) (hears_after Rfcomm packet parted) (answers_to Rfcomm packet sessions gift) (λ (h : model.Heard). NoDirect h.sessions)
    (λ named. cond_both parted.short _ (answers_to Rfcomm packet parted.sessions parted.gift) (λ (h : model.Heard). NoDirect h.sessions) (λ short. refl) (λ e. refl)) (λ unnamed. none)

over_none : (response : List ℕ) (service : Service) → Undirected service → Undirected (response_over Rfcomm response service)
over_none [] service u = u
over_none (octet ∷ octets) service u = u

packet_none : (packet : List ℕ) (service : Service) (gift : Gift) → Undirected service → Undirected (hears_packet Rfcomm packet service gift).service
packet_none packet service gift u =
    cond_both (is_ignored Rfcomm packet service) _ _ (λ (s : Served). Undirected s.service) (λ e. u)
    (λ e. let h = hears Rfcomm packet service.sessions gift in over_none h.response (record service { sessions = h.sessions; failed = service.failed || h.short }) (u.0, heard_none packet service.sessions gift u.1))

abbrev NoListening : Listener → Type 0
NoListening listener = Undirected listener.service

on_none : (more : Listener → Gift → Received) → ((listener : Listener) (gift : Gift) → NoListening listener → NoListening (more listener gift).listener) → (heeded : Heeded) → NoListening heeded.listener → NoListening (hears_on more heeded).listener
on_none more keeps heeded u = cond_both (stops heeded.listener) _ _ (λ (r : Received). NoListening r.listener) (λ e. u) (λ e. keeps heeded.listener heeded.gift u)

front_none : (more : List ℕ → Listener → Gift → Received) → ((rest : List ℕ) (listener : Listener) (gift : Gift) → NoListening listener → NoListening (more rest listener gift).listener) → (stream : List ℕ) (front : Front) (listener : Listener) (gift : Gift) → NoListening listener
    → NoListening (hears_front more stream front listener gift).listener
front_none more keeps stream (Whole packet rest) listener gift u = on_none (more rest) (keeps rest) (heeds_carried packet listener gift) (packet_none packet listener.service gift u)
front_none more keeps stream Partial listener gift u = u
front_none more keeps stream (Broken refusal) listener gift u = packet_none (take 3 stream) listener.service gift u

stream_none : (steps : ℕ) (stream : List ℕ) (listener : Listener) (gift : Gift) → NoListening listener → NoListening (hears_stream steps stream listener gift).listener
unfolding hears_stream
stream_none zero stream listener gift u = u
stream_none (suc steps) stream listener gift u =
    front_none (λ rest next after. hears_stream steps rest next after) (λ rest next after. stream_none steps rest next after) stream (front_of listener.service.sessions.carried.maximum stream) listener gift u

-- ---- a server

abbrev pub IsUndirected : Server → Type 0
IsUndirected at = Undirected at.listener.service

up_none : (u : Up) (at : Server) (gift : Gift) → IsUndirected at → IsUndirected (hears_up u at gift).server
up_none nothing at gift u = u
up_none opened at gift u = u
up_none (closed reason) at gift u = u
up_none (bytes octets) at gift u = cond_both at.listener.breaks _ _ (λ (r : Reacted). IsUndirected r.server) (λ e. u) (λ e. stream_none _ (at.held ++ octets) at.listener gift u)

hears_none : (psm : ℕ) (sdu : List ℕ) (at : Server) (gift : Gift) → (psm ≡ object_psm → ⊥) → IsUndirected at → IsUndirected (server.hears_on psm sdu at gift).server
hears_none psm sdu at gift =
    by_psm (λ p. (p ≡ object_psm → ⊥) → IsUndirected at → IsUndirected (server.hears_on p sdu at gift).server)
    (λ away u. cond_both (is_empty at.reply) _ _ IsUndirected (λ e. u) (λ e. u))
    (λ away u. up_none (up sdu at.mux) (record at { mux = hearing.hears sdu at.mux }) gift u)
    (λ away u. absurd (away refl))
    (λ p x y z away u. subst (λ (r : Reacted). IsUndirected r.server) (sym (cond-false _ _ _ x ∙ (cond-false _ _ _ y ∙ cond-false _ _ (let r : Reacted = record { server = at; gift = gift } in r) z))) u)
    psm

fills : (at : Server) → IsUndirected at → IsUndirected (filled at)
fills at u = cond_both _ (with_service (answer_cut (taken_count _ at.mux) at.listener.service) (record at { mux = sends at.listener.service.answer at.mux })) at IsUndirected (λ e. u) (λ e. u)

said_none : (o : Option Said) (at : Server) → IsUndirected at → IsUndirected (said_on o at)
said_none None at u = u
said_none (Some said) at u = u

leaves_none : (o : Option Said) (at : Server) → IsUndirected at → IsUndirected (leaves_with o at)
leaves_none None at u =
    let quiet : Server = said_on None at in
    cond_both (breaks_now quiet) (left_by quiet) quiet IsUndirected (λ e. said_none (next (leaves quiet.mux)) (record quiet { mux = leaves quiet.mux }) u) (λ e. u)
leaves_none (Some said) at u = said_none (Some said) at u

framed_none : (frame : Option PlainFrame) (at : Server) → IsUndirected at → IsUndirected (framed_by frame at)
framed_none None at u = let full = filled at in leaves_none (next full.mux) full (fills at u)
framed_none (Some frame) at u = u

lends_none : (o : Option Outlet) (at : Server) → IsUndirected at → IsUndirected (lends_by o at)
lends_none None at u =
    let full : Server = framed at in
    cond_both (is_empty at.reply && is_empty at.listener.service.response) (record full { lent = outlet_of full }) (record at { lent = outlet_of at }) IsUndirected (λ e. framed_none at.frame at u) (λ e. u)
lends_none (Some outlet) at u = u

taken_none : (o : Option Outlet) (at : Server) → IsUndirected at → IsUndirected (server.taken_by o at)
taken_none None at u = u
taken_none (Some Records) at u = u
taken_none (Some Direct) at u = (refl, u.1)
taken_none (Some Muxed) at u = u

closed_none : (psm : ℕ) (at : Server) (gift : Gift) → IsUndirected at → IsUndirected (server.closed_on psm at gift).server
closed_none psm at gift u =
    by_psm (λ p. IsUndirected (server.closed_on p at gift).server) u u (refl, refl)
    (λ p x y z. subst (λ (r : Reacted). IsUndirected r.server) (sym (cond-false _ _ _ x ∙ (cond-false _ _ _ y ∙ cond-false _ _ (let r : Reacted = record { server = at; gift = gift } in r) z))) u) psm

unless_none : (failed : Bool) (at : Server) (gift : Gift) (after : Reacted) → IsUndirected at → IsUndirected after.server → IsUndirected (cond failed (let r : Reacted = record { server = at; gift = gift } in r) after).server
unless_none true at gift after u v = u
unless_none false at gift after u v = v

twice_none : (r : Reacted) → IsUndirected r.server → IsUndirected (lets_go_twice r).server
twice_none r u = cond_both r.server.listener.service.failed r (lets_go_on Rfcomm (remuxed (unreplied r.server)) r.gift) (λ (x : Reacted). IsUndirected x.server) (λ e. u) (λ e. u)

pub undirected_more : (one : Occurrence) (at : Reacted) → NoPacket one → IsUndirected at.server → IsUndirected (done one at).server
undirected_more (Came psm sdu) at away u = unless_none at.server.listener.service.failed at.server at.gift (server.hears_on psm sdu at.server at.gift) u (hears_none psm sdu at.server at.gift away u)
undirected_more (Went psm sdu) at away u = taken_none at.server.lent at.server u
undirected_more (Closed psm) at away u = unless_none at.server.listener.service.failed at.server at.gift (server.closed_on psm at.server at.gift) u (closed_none psm at.server at.gift u)
undirected_more LinkDown at away u = unless_none at.server.listener.service.failed at.server at.gift (lets_go_twice (lets_go_on L2cap (unanswered at.server) at.gift)) u (twice_none (lets_go_on L2cap (unanswered at.server) at.gift) (refl, refl))
undirected_more Asked at away u = lends_none at.server.lent at.server u
undirected_more (Answering answers) at away u = u

pub first_undirected : (settings : Settings) → IsUndirected (server.new_server settings)
first_undirected settings = (refl, refl)

-- ---- the multiplexer is to be closed as before

abbrev Breaks : Bool → Server → Type 0
Breaks breaks at = at.listener.breaks ≡ breaks

module _ (breaks : Bool) where
  abbrev B : Server → Type 0
  B at = Breaks breaks at

  said_breaks : (o : Option Said) (at : Server) → B at → B (said_on o at)
  said_breaks None at b = b
  said_breaks (Some said) at b = b

  leaves_breaks : (o : Option Said) (at : Server) → B at → B (leaves_with o at)
  leaves_breaks None at b =
      let quiet : Server = said_on None at in
      cond_both (breaks_now quiet) (left_by quiet) quiet B (λ e. said_breaks (next (leaves quiet.mux)) (record quiet { mux = leaves quiet.mux }) b) (λ e. b)
  leaves_breaks (Some said) at b = said_breaks (Some said) at b

  fill_breaks : (at : Server) → B at → B (filled at)
  fill_breaks at b = cond_both _ (with_service (answer_cut (taken_count _ at.mux) at.listener.service) (record at { mux = sends at.listener.service.answer at.mux })) at B (λ e. b) (λ e. b)

  framed_breaks : (frame : Option PlainFrame) (at : Server) → B at → B (framed_by frame at)
  framed_breaks None at b = let full = filled at in leaves_breaks (next full.mux) full (fill_breaks at b)
  framed_breaks (Some frame) at b = b

  lends_breaks : (o : Option Outlet) (at : Server) → B at → B (lends_by o at)
  lends_breaks None at b =
      let full : Server = framed at in
      cond_both (is_empty at.reply && is_empty at.listener.service.response) (record full { lent = outlet_of full }) (record at { lent = outlet_of at }) B (λ e. framed_breaks at.frame at b) (λ e. b)
  lends_breaks (Some outlet) at b = b

  taken_breaks : (o : Option Outlet) (at : Server) → B at → B (server.taken_by o at)
  taken_breaks None at b = b
  taken_breaks (Some Records) at b = b
  taken_breaks (Some Direct) at b = b
  taken_breaks (Some Muxed) at b = b

  came_breaks : (psm : ℕ) (sdu : List ℕ) (at : Server) (gift : Gift) → (psm ≡ object_psm → ⊥) → (psm == rfcomm_psm) ≡ false → B at → B (server.hears_on psm sdu at gift).server
  came_breaks psm sdu at gift =
      by_psm (λ p. (p ≡ object_psm → ⊥) → (p == rfcomm_psm) ≡ false → B at → B (server.hears_on p sdu at gift).server)
      (λ away apart b. cond_both (is_empty at.reply) _ _ B (λ e. b) (λ e. b))
      (λ away apart b. absurd (let f : true ≡ false = apart in cc))
      (λ away apart b. absurd (away refl))
      (λ p x y z away apart b. subst (λ (r : Reacted). B r.server) (sym (cond-false _ _ _ x ∙ (cond-false _ _ _ y ∙ cond-false _ _ (let r : Reacted = record { server = at; gift = gift } in r) z))) b)
      psm

  closed_breaks : (psm : ℕ) (at : Server) (gift : Gift) → (psm == rfcomm_psm) ≡ false → B at → B (server.closed_on psm at gift).server
  closed_breaks psm at gift =
      by_psm (λ p. (p == rfcomm_psm) ≡ false → B at → B (server.closed_on p at gift).server) (λ apart b. b) (λ apart b. absurd (let f : true ≡ false = apart in cc)) (λ apart b. b)
      (λ p x y z apart b. subst (λ (r : Reacted). B r.server) (sym (cond-false _ _ _ x ∙ (cond-false _ _ _ y ∙ cond-false _ _ (let r : Reacted = record { server = at; gift = gift } in r) z))) b) psm

  unless_breaks : (failed : Bool) (at : Server) (gift : Gift) (after : Reacted) → B at → B after.server → B (cond failed (let r : Reacted = record { server = at; gift = gift } in r) after).server
  unless_breaks true at gift after a b = a
  unless_breaks false at gift after a b = b

  away_of : (psm : ℕ) (sdu : List ℕ) (mine : Bool) → (psm == rfcomm_psm) ≡ mine → sdu_if mine sdu ≡ [] → (psm == rfcomm_psm) ≡ false
  away_of psm sdu true is none = absurd cc
  away_of psm sdu false is none = is

  pub breaks_stay : (one : Occurrence) (at : Reacted) → NoPacket one → closes rfcomm_psm one ≡ false → come_by one ≡ [] → B at.server → B (done one at).server
  breaks_stay (Came psm sdu) at away on none b =
      unless_breaks at.server.listener.service.failed at.server at.gift (server.hears_on psm sdu at.server at.gift) b (came_breaks psm sdu at.server at.gift away (away_of psm sdu (psm == rfcomm_psm) refl none) b)
  breaks_stay (Went psm sdu) at away on none b = taken_breaks at.server.lent at.server b
  breaks_stay (Closed psm) at away on none b = unless_breaks at.server.listener.service.failed at.server at.gift (server.closed_on psm at.server at.gift) b (closed_breaks psm at.server at.gift on b)
  breaks_stay LinkDown at away on none b = absurd (let f : true ≡ false = on in cc)
  breaks_stay Asked at away on none b = lends_breaks at.server.lent at.server b
  breaks_stay (Answering answers) at away on none b = b
