-- What happens to a server leaves its multiplexer coupled to the client's, until its channel is closed.
use Rattle.std.proofs.Common.{Bool, true, false, cond, ◌≡◌, ◌==◌, ℕ, ◌&&◌, List, [], ◌∷◌, ◌++◌, length, Option, Some, None, refl, sym, ap, subst, ◌∙◌}
use Rattle.std.specs.Prelude.{not}
use Rattle.std.proofs.lemmas.Bool.{cond_both, cond-false}
use Rattle.link_talk.specs.bt_base.specs.declared.settings.Transport.TheVariants.{Rfcomm}
use Rattle.link_talk.specs.bt_base.specs.Octets.{IsOctets}
use Rattle.push_model.specs.rfcomm_frames.specs.FrameReading.{is_empty}
use Rattle.push_model.specs.rfcomm_frames.specs.Frames.{PlainFrame}
use Rattle.push_model.specs.rfcomm_frames.specs.declared.connection.Role.{Role}
use Rattle.push_model.specs.rfcomm_frames.specs.declared.connection.Role.TheVariants.{Responder}
use Rattle.push_model.specs.rfcomm_frames.proofs.FrameReading.{spelled_answered}
use Rattle.rfcomm_laws.proofs.Running.{both_true}
use Rattle.push_model.specs.rfcomm_model.specs.Hearing.{Up, nothing, opened, bytes, closed, up, hears}
use Rattle.push_model.specs.rfcomm_model.specs.Machine.{Mux, taken_count, new_mux, is_ready, sends, leaves}
use Rattle.push_model.specs.rfcomm_model.specs.Saying.{Said, next}
use Rattle.push_model.specs.declared.outlet.Outlet.{Outlet}
use Rattle.push_model.specs.declared.outlet.Outlet.TheVariants.{Records, Direct, Muxed}
use Rattle.push_model.specs.Listening.{Received, hears_stream}
use Rattle.push_model.specs.Payloads.{Payload, Framed, IsSaid}
use Rattle.push_model.specs.Sessions.{Gift}
use Rattle.push_model.specs.Service.{answer_cut}
use Rattle.push_model.specs.Server.{with_service, Server, Reacted, Lent, hears_on, hears_up, received_by, filled, said_on, breaks_now, left_by, leaves_with, framed_by, framed, outlet_of, lends_by, frame_lent, lent_by, taken_by, closed_on, lets_go_on, remuxed, rfcomm_psm}
use Rattle.push_laws.specs.Occurrences.{Occurrence}
use Rattle.push_laws.specs.Readings.{closes, passed_by}
use Rattle.push_laws.proofs.Calm.{IsCalm, answer_stays}
use Rattle.push_laws.proofs.Couples.{Coupled, Sums, server_gives, server_leaves, server_says, server_sends}
use Rattle.push_laws.proofs.Readings.{read_closed}
use Rattle.push_laws.proofs.Servers.{by_psm, up_keeps}

-- ---- what comes up leaves the frame that waits

octets_keep : (breaks : Bool) (server : Server) (gift : Gift) (r : Received) → (cond breaks (let x : Reacted = record { server = server; gift = gift } in x) (received_by server r)).server.frame ≡ server.frame
octets_keep true server gift r = refl
octets_keep false server gift r = refl

up_keeps_frame : (u : Up) (server : Server) (gift : Gift) → (hears_up u server gift).server.frame ≡ server.frame
up_keeps_frame nothing server gift = refl
up_keeps_frame opened server gift = refl
up_keeps_frame (bytes octets) server gift = octets_keep server.listener.breaks server gift (hears_stream (length (server.held ++ octets)) (server.held ++ octets) server.listener gift)
up_keeps_frame (closed reason) server gift = refl

module _ (own : Mux) (sent : List PlainFrame) (come unheard : List (List ℕ)) (rest : List ℕ) (sums : Sums) where
  abbrev pub Holds : Server → Type 0
  Holds server = Coupled own sent come unheard server.mux server.frame rest server.listener.service.answer (record sums { breaks = server.listener.breaks })

  abbrev Idle : Server → Type 0
  Idle server = Coupled own sent come unheard server.mux None rest server.listener.service.answer (record sums { breaks = server.listener.breaks })

  -- ---- it is asked for its next SDU

  fills : (server : Server) → Idle server → Idle (filled server)
  fills server c = by (is_ready server.mux && not (is_empty server.listener.service.answer)) refl
    where
      by : (test : Bool) → (is_ready server.mux && not (is_empty server.listener.service.answer)) ≡ test
          → Idle (cond test (with_service (answer_cut (taken_count (length server.listener.service.answer) server.mux) server.listener.service) (record server { mux = sends server.listener.service.answer server.mux })) server)
      by true is = server_gives own sent come unheard server.mux rest server.listener.service.answer (record sums { breaks = server.listener.breaks }) None (both_true (is_ready server.mux) (not (is_empty server.listener.service.answer)) is).0 c
      by false is = c

  says : (o : Option Said) (server : Server) → next server.mux ≡ o → Idle server → Holds (said_on o server)
  says None server is c = server_says own sent come unheard server.mux rest server.listener.service.answer (record sums { breaks = server.listener.breaks }) None is c
  says (Some said) server is c = server_says own sent come unheard server.mux rest server.listener.service.answer (record sums { breaks = server.listener.breaks }) (Some said) is c

  leaves_so : (server : Server) → server.listener.breaks ≡ true → Idle server → Holds (left_by server)
  leaves_so server broken c = says (next (leaves server.mux)) (record server { mux = leaves server.mux }) refl (server_leaves own sent come unheard server.mux rest server.listener.service.answer (record sums { breaks = server.listener.breaks }) None broken c)

  goes : (o : Option Said) (server : Server) → next server.mux ≡ o → Idle server → Holds (leaves_with o server)
  goes None server is c =
      let quiet : Server = said_on None server in
      cond_both (breaks_now quiet) (left_by quiet) quiet Holds (λ e. leaves_so quiet (both_true server.listener.breaks (is_empty server.listener.service.answer) e).0 c) (λ e. c)
  goes (Some said) server is c = says (Some said) server is c

  frames : (frame : Option PlainFrame) (server : Server) → server.frame ≡ frame → Holds server → Holds (framed_by frame server)
  frames None server is c =
      let full = filled server in
      goes (next full.mux) full refl (fills server (subst (λ (f : Option PlainFrame). Coupled own sent come unheard server.mux f rest server.listener.service.answer (record sums { breaks = server.listener.breaks })) is c))
  frames (Some frame) server is c = c

  pub lends_so : (o : Option Outlet) (server : Server) → Holds server → Holds (lends_by o server)
  lends_so None server c =
      let full : Server = framed server in
      cond_both (is_empty server.reply && is_empty server.listener.service.response) (record full { lent = outlet_of full }) (record server { lent = outlet_of server }) Holds (λ e. frames server.frame server refl c) (λ e. c)
  lends_so (Some outlet) server c = c

  -- ---- something comes or closes on another channel

  pub came_apart : (sdu : List ℕ) (server : Server) (gift : Gift) (psm : ℕ) → (psm == rfcomm_psm) ≡ false → Holds server → Holds (hears_on psm sdu server gift).server
  came_apart sdu server gift psm =
      by_psm (λ p. (p == rfcomm_psm) ≡ false → Holds server → Holds (hears_on p sdu server gift).server)
      (λ away c. cond_both (is_empty server.reply) _ _ Holds (λ e. c) (λ e. c))
      (λ away c. absurd (let f : true ≡ false = away in cc))
      (λ away c. subst (λ (xs : List ℕ). Coupled own sent come unheard server.mux server.frame rest xs (record sums { breaks = server.listener.breaks })) (sym (answer_stays sdu server.listener.service gift)) c)
      (λ p x y z away c.
      subst (λ (r : Reacted). Holds r.server) (sym (cond-false _ _ _ x ∙ (cond-false _ _ _ y ∙ cond-false _ _ (let r : Reacted = record { server = server; gift = gift } in r) z))) c)
      psm

  pub closed_apart : (server : Server) (gift : Gift) (psm : ℕ) → (psm == rfcomm_psm) ≡ false → Holds server → Holds (closed_on psm server gift).server
  closed_apart server gift psm =
      by_psm (λ p. (p == rfcomm_psm) ≡ false → Holds server → Holds (closed_on p server gift).server)
      (λ away c. c)
      (λ away c. absurd (let f : true ≡ false = away in cc))
      (λ away c. c)
      (λ p x y z away c.
      subst (λ (r : Reacted). Holds r.server) (sym (cond-false _ _ _ x ∙ (cond-false _ _ _ y ∙ cond-false _ _ (let r : Reacted = record { server = server; gift = gift } in r) z))) c)
      psm

-- ---- what was lent goes

same_lent : (a b : Lent) → Some a ≡ Some b → a ≡ b
same_lent a b e = cc

no_lent : (lent : Lent) → None ≡ Some lent → ⊥
no_lent lent e = cc

-- an SDU went on the channel of the multiplexer, or on another one
pub data GoesBy (own : Mux) (sent : List PlainFrame) (come unheard : List (List ℕ)) (rest : List ℕ) (sums : Sums) (psm : ℕ) (sdu : List ℕ) (server' : Server) : Type 0 where
  Muxedly : psm ≡ rfcomm_psm → Coupled own sent come (unheard ++ sdu ∷ []) server'.mux server'.frame rest server'.listener.service.answer (record sums { breaks = server'.listener.breaks }) → GoesBy own sent come unheard rest sums psm sdu server'
  Apart : (psm == rfcomm_psm) ≡ false → Coupled own sent come unheard server'.mux server'.frame rest server'.listener.service.answer (record sums { breaks = server'.listener.breaks }) → GoesBy own sent come unheard rest sums psm sdu server'

module _ (own : Mux) (sent : List PlainFrame) (come unheard : List (List ℕ)) (rest : List ℕ) (sums : Sums) where
  away : (psm at : ℕ) → at ≡ psm → (at == rfcomm_psm) ≡ false → (psm == rfcomm_psm) ≡ false
  away psm at is none = ap (λ (n : ℕ). n == rfcomm_psm) (sym is) ∙ none

  frame_goes : (frame : Option PlainFrame) (psm : ℕ) (sdu : List ℕ) (server : Server) (lent : Lent) → server.frame ≡ frame → frame_lent frame ≡ Some lent → lent.psm ≡ psm → IsSaid lent.payload sdu → IsOctets sdu
      → Coupled own sent come unheard server.mux frame rest server.listener.service.answer (record sums { breaks = server.listener.breaks }) → GoesBy own sent come unheard rest sums psm sdu (taken_by (Some Muxed) server)
  frame_goes None psm sdu server lent f e p said octets c = absurd (no_lent lent e)
  frame_goes (Some frame) psm sdu server lent f e p said octets c =
      let is = same_lent (record { psm = rfcomm_psm; payload = Framed frame }) lent e in
      let shortest = subst (λ (payload : Payload). IsSaid payload sdu) (sym (ap (λ (l : Lent). l.payload) is)) said in
      Muxedly (sym p ∙ sym (ap (λ (l : Lent). l.psm) is)) (server_sends own sent come unheard server.mux rest server.listener.service.answer (record sums { breaks = server.listener.breaks }) frame sdu (spelled_answered frame sdu octets shortest.spelling) c)

  pub went_so : (o : Option Outlet) (psm : ℕ) (sdu : List ℕ) (server : Server) (lent : Lent) → lent_by o server ≡ Some lent → lent.psm ≡ psm → IsSaid lent.payload sdu → IsOctets sdu
      → Coupled own sent come unheard server.mux server.frame rest server.listener.service.answer (record sums { breaks = server.listener.breaks }) → GoesBy own sent come unheard rest sums psm sdu (taken_by o server)
  went_so None psm sdu server lent e p said octets c = absurd (no_lent lent e)
  went_so (Some Records) psm sdu server lent e p said octets c = Apart (away psm lent.psm p (ap (λ (l : Lent). l.psm == rfcomm_psm) (sym (same_lent _ lent e)))) c
  went_so (Some Direct) psm sdu server lent e p said octets c = Apart (away psm lent.psm p (ap (λ (l : Lent). l.psm == rfcomm_psm) (sym (same_lent _ lent e)))) c
  went_so (Some Muxed) psm sdu server lent e p said octets c = frame_goes server.frame psm sdu server lent refl e p said octets c

-- ---- an SDU comes to the multiplexer

-- where it is to be closed behind what comes up, it is so still
came_broken : (u : Up) (server : Server) (gift : Gift) → (hears_up u server gift).server.listener.breaks ≡ false → server.listener.breaks ≡ false
came_broken nothing server gift e = e
came_broken opened server gift e = e
came_broken (closed reason) server gift e = e
came_broken (bytes octets) server gift e = by server.listener.breaks refl e
  where
    received : Received
    received = hears_stream (length (server.held ++ octets)) (server.held ++ octets) server.listener gift

    by : (breaks : Bool) → server.listener.breaks ≡ breaks → (cond breaks (let x : Reacted = record { server = server; gift = gift } in x) (received_by server received)).server.listener.breaks ≡ false → breaks ≡ false
    by true is f = sym is ∙ f
    by false is f = refl

pub came_sound : (sdu : List ℕ) (server : Server) (gift : Gift) → (hears_on rfcomm_psm sdu server gift).server.listener.breaks ≡ false → server.listener.breaks ≡ false
came_sound sdu server gift e = came_broken (up sdu server.mux) (record server { mux = hears sdu server.mux }) gift e

pub came_so : (own : Mux) (sent : List PlainFrame) (come unheard : List (List ℕ)) (rest answer : List ℕ) (sums : Sums) (sdu : List ℕ) (server : Server) (gift : Gift) → Coupled own sent come unheard (hears sdu server.mux) server.frame rest answer sums
    → Coupled own sent come unheard (hears_on rfcomm_psm sdu server gift).server.mux (hears_on rfcomm_psm sdu server gift).server.frame rest answer sums
came_so own sent come unheard rest answer sums sdu server gift c =
    let heard : Server = record server { mux = hears sdu server.mux } in
    subst (λ (m : Mux). Coupled own sent come unheard m (hears_up (up sdu server.mux) heard gift).server.frame rest answer sums) (sym (up_keeps (up sdu server.mux) heard gift))
    (subst (λ (f : Option PlainFrame). Coupled own sent come unheard (hears sdu server.mux) f rest answer sums) (sym (up_keeps_frame (up sdu server.mux) heard gift)) c)

-- ---- its channel is closed

-- then all is as at the start
pub reset_calm : (past : List Occurrence) (one : Occurrence) (server : Server) (gift : Gift) → server.mux.role ≡ Responder → closes rfcomm_psm one ≡ true → IsCalm (past ++ one ∷ []) (lets_go_on Rfcomm (remuxed server) gift).server
reset_calm past one server gift role closing = record {
  answer = refl;
  unbroken = refl;
  no_frame = refl;
  fresh = record { dlci = server.mux.dlci; largest = server.mux.largest; cap = server.mux.account.cap; is = ap (λ (r : Role). new_mux r server.mux.dlci server.mux.largest server.mux.largest server.mux.account.cap) role };
  idle = refl;
  quiet = read_closed passed_by rfcomm_psm past one closing;
}
