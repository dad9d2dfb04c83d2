-- A server to whose multiplexer nothing comes: it says nothing there, and no object is under way over RFCOMM, whatever its inbox answers.
use Rattle.std.proofs.Common.{inl, inr, zero, suc, Bool, true, false, cond, ◌||◌, ◌&&◌, ◌≡◌, ℕ, List, [], ◌∷◌, ◌++◌, length, drop, Option, Some, None, refl, sym, ap, subst, ◌∙◌}
use Rattle.std.specs.Prelude.{not}
use Rattle.std.specs.List.{filter_map}
use Rattle.std.proofs.lemmas.Bool.{cond_both, cond-false, cases_Bool}
use Rattle.link_talk.specs.bt_base.specs.declared.settings.Settings.{Settings}
use Rattle.link_talk.specs.bt_base.specs.declared.settings.Transport.TheVariants.{L2cap, Rfcomm}
use Rattle.push_model.specs.rfcomm_frames.specs.declared.connection.Role.TheVariants.{Initiator, Responder}
use Rattle.push_model.specs.rfcomm_frames.specs.FrameReading.{is_empty}
use Rattle.push_model.specs.rfcomm_frames.specs.Frames.{PlainFrame}
use Rattle.push_model.specs.rfcomm_frames.specs.ObexPackets.{obex_packets}
use Rattle.push_model.specs.rfcomm_frames.specs.UserChannel.{user_octets}
use Rattle.push_model.specs.rfcomm_model.specs.Machine.{Mux, new_mux, reset, is_ready}
use Rattle.push_model.specs.rfcomm_model.specs.ClosedSides.{IsOrderly}
use Rattle.push_model.specs.rfcomm_model.specs.Saying.{Said, next}
use Rattle.link_talk.specs.Gains.{beyond}
use Rattle.push_model.specs.declared.outlet.Outlet.{Outlet}
use Rattle.push_model.specs.declared.outlet.Outlet.TheVariants.{Records, Direct, Muxed}
use Rattle.push_model.specs.Listening.{Listener}
use Rattle.push_model.specs.Service.{Service, Served, response_over, is_ignored, hears_packet}
use Rattle.push_model.specs.Sessions as model
use Rattle.push_model.specs.Sessions.{Sessions, Gift, session_of, has_object, lets_go, answers_to, is_naming, hears}
use Rattle.push_model.specs.Server.{new_server, Server, Reacted, Lent, hears_on, leaves_with, framed_by, framed, outlet_of, lends_by, frame_lent, lent_by, taken_by, closed_on, lets_go_on, remuxed, unreplied, unanswered, object_psm, rfcomm_psm}
use Rattle.push_laws.specs.Occurrences.{Occurrence, Came, Went, Closed, LinkDown, Asked, Answering, done, IsOwn}
use Rattle.push_laws.specs.Premises.{new_packets}
use Rattle.push_laws.specs.Parties.{NoFrame}
use Rattle.push_laws.specs.Readings.{closes, since, came_on, passed_by, packets_over, user_dlci}
use Rattle.push_laws.proofs.Readings.{read_more, read_same, read_closed, drop_front, drop_same}
use Rattle.push_laws.proofs.Servers.{by_psm}
use Rattle.push_laws.proofs.Streams.{no_packets}

-- ---- nothing passed over the multiplexer

pub record Fresh (m : Mux) : Type 0 where
  pub dlci : ℕ
  pub largest : ℕ
  pub cap : ℕ
  pub is : m ≡ new_mux Responder dlci largest largest cap

reset_fresh : (m : Mux) → Fresh m → Fresh (reset m.largest m)
reset_fresh m f = record { dlci = f.dlci; largest = f.largest; cap = f.cap; is = ap (λ (x : Mux). reset x.largest x) f.is }

says_nothing : (m : Mux) → Fresh m → next m ≡ None
says_nothing m f = ap next f.is

pub is_orderly : (m : Mux) → Fresh m → IsOrderly m.closed
is_orderly m f = subst (λ (n : Mux). IsOrderly n.closed) (sym f.is) tt

pub record Calm (past : List Occurrence) (listener : Listener) (mux : Mux) (frame : Option PlainFrame) : Type 0 where
  pub answer : listener.service.answer ≡ []
  pub unbroken : listener.breaks ≡ false
  pub no_frame : frame ≡ None
  pub fresh : Fresh mux
  pub idle : has_object listener.service.sessions.carried ≡ false
  pub quiet : filter_map passed_by (since rfcomm_psm past) ≡ []

abbrev pub IsCalm : List Occurrence → Server → Type 0
IsCalm past server = Calm past server.listener server.mux server.frame

pub first_calm : (settings : Settings) → IsCalm [] (new_server settings)
first_calm settings = record { answer = refl; unbroken = refl; no_frame = refl; fresh = record { dlci = 18; largest = _; cap = _; is = refl }; idle = refl; quiet = refl }

-- ---- a request leaves it so

over_answer : (response : List ℕ) (service : Service) → (response_over L2cap response service).answer ≡ service.answer
over_answer [] service = refl
over_answer (octet ∷ octets) service = refl

pub answer_stays : (packet : List ℕ) (service : Service) (gift : Gift) → (hears_packet L2cap packet service gift).service.answer ≡ service.answer
answer_stays packet service gift =
    cond_both (is_ignored L2cap packet service) _ _ (λ (s : Served). s.service.answer ≡ service.answer)
    (λ ignored. refl)
    (λ taken. let h = hears L2cap packet service.sessions gift in over_answer h.response (record service { sessions = h.sessions; failed = service.failed || h.short }))

over_carried : (response : List ℕ) (service : Service) → (response_over L2cap response service).sessions.carried ≡ service.sessions.carried
over_carried [] service = refl
over_carried (octet ∷ octets) service = refl

idle_heard : (packet : List ℕ) (sessions : Sessions) (gift : Gift) → has_object sessions.carried ≡ false → has_object (hears L2cap packet sessions gift).sessions.carried ≡ false
idle_heard packet sessions gift idle =
    let parted = lets_go Rfcomm sessions gift in
    cond_both (is_naming L2cap packet sessions) _ _ (λ (h : model.Heard). has_object h.sessions.carried ≡ false)
    (λ named. cond_both parted.short _ (answers_to L2cap packet parted.sessions parted.gift) (λ (h : model.Heard). has_object h.sessions.carried ≡ false) (λ short. refl) (λ enough. refl))
    (λ unnamed. idle)

idle_stays : (packet : List ℕ) (service : Service) (gift : Gift) → has_object service.sessions.carried ≡ false → has_object (hears_packet L2cap packet service gift).service.sessions.carried ≡ false
idle_stays packet service gift idle =
    cond_both (is_ignored L2cap packet service) _ _ (λ (s : Served). has_object s.service.sessions.carried ≡ false)
    (λ ignored. idle)
    (λ taken. let h = hears L2cap packet service.sessions gift in
    ap has_object (over_carried h.response (record service { sessions = h.sessions; failed = service.failed || h.short })) ∙ idle_heard packet service.sessions gift idle)

and_false : (a : Bool) → (a && false) ≡ false
and_false true = refl
and_false false = refl

same_lent : (a b : Lent) → Some a ≡ Some b → a ≡ b
same_lent a b e = cc

no_lent : (lent : Lent) → None ≡ Some lent → ⊥
no_lent lent e = cc

module _ (past : List Occurrence) where
  quiet_more : (one : Occurrence) → passed_by one ≡ None → filter_map passed_by (since rfcomm_psm past) ≡ [] → filter_map passed_by (since rfcomm_psm (past ++ one ∷ [])) ≡ []
  quiet_more one none quiet =
      elim (cases_Bool (closes rfcomm_psm one)) [ inl e ↦ read_closed passed_by rfcomm_psm past one e | inr e ↦ read_same passed_by rfcomm_psm past one e none ∙ quiet ]

  pub calm_same : (one : Occurrence) (listener : Listener) (mux : Mux) (frame : Option PlainFrame) → passed_by one ≡ None → Calm past listener mux frame → Calm (past ++ one ∷ []) listener mux frame
  calm_same one listener mux frame away c = record { answer = c.answer; unbroken = c.unbroken; no_frame = c.no_frame; fresh = c.fresh; idle = c.idle; quiet = quiet_more one away c.quiet }

  pub came_calm : (sdu : List ℕ) (at : Reacted) → IsCalm past at.server → (psm : ℕ) → NoFrame (Came psm sdu) → IsCalm (past ++ Came psm sdu ∷ []) (hears_on psm sdu at.server at.gift).server
  came_calm sdu at c psm =
      by_psm (λ p. NoFrame (Came p sdu) → IsCalm (past ++ Came p sdu ∷ []) (hears_on p sdu at.server at.gift).server)
      (λ direct. cond_both (is_empty at.server.reply) _ _ (IsCalm (past ++ Came 0x0001 sdu ∷ []))
      (λ e. calm_same (Came 0x0001 sdu) at.server.listener at.server.mux at.server.frame refl c) (λ e. calm_same (Came 0x0001 sdu) at.server.listener at.server.mux at.server.frame refl c))
      (λ direct. absurd (direct refl))
      (λ direct. record {
        answer = answer_stays sdu at.server.listener.service at.gift ∙ c.answer;
        unbroken = c.unbroken;
        no_frame = c.no_frame;
        fresh = c.fresh;
        idle = idle_stays sdu at.server.listener.service at.gift c.idle;
        quiet = quiet_more (Came 0x1001 sdu) refl c.quiet;
      })
      (λ p x y z direct.
      subst (λ (r : Reacted). IsCalm (past ++ Came p sdu ∷ []) r.server) (sym (cond-false _ _ _ x ∙ (cond-false _ _ _ y ∙ cond-false _ _ (let r : Reacted = record { server = at.server; gift = at.gift } in r) z)))
      (calm_same (Came p sdu) at.server.listener at.server.mux at.server.frame (cond-false _ _ _ y) c))
      psm

  pub went_calm : (o : Option Outlet) (psm : ℕ) (sdu : List ℕ) (server : Server) (lent : Lent) → lent_by o server ≡ Some lent → lent.psm ≡ psm → IsCalm past server → IsCalm (past ++ Went psm sdu ∷ []) (taken_by o server)
  went_calm None psm sdu server lent e p c = absurd (no_lent lent e)
  went_calm (Some Records) psm sdu server lent e p c =
      subst (λ (n : ℕ). IsCalm (past ++ Went n sdu ∷ []) (taken_by (Some Records) server)) (ap (λ (l : Lent). l.psm) (same_lent _ lent e) ∙ p) (calm_same (Went 0x0001 sdu) server.listener server.mux server.frame refl c)
  went_calm (Some Muxed) psm sdu server lent e p c = absurd (no_lent lent (sym (ap frame_lent c.no_frame) ∙ e))
  went_calm (Some Direct) psm sdu server lent e p c =
      subst (λ (n : ℕ). IsCalm (past ++ Went n sdu ∷ []) (taken_by (Some Direct) server)) (ap (λ (l : Lent). l.psm) (same_lent _ lent e) ∙ p)
      (record { answer = c.answer; unbroken = c.unbroken; no_frame = c.no_frame; fresh = c.fresh; idle = c.idle; quiet = quiet_more (Went 0x1001 sdu) refl c.quiet })

  pub closed_calm : (at : Reacted) → IsCalm past at.server → (psm : ℕ) → IsCalm (past ++ Closed psm ∷ []) (closed_on psm at.server at.gift).server
  closed_calm at c psm =
      by_psm (λ p. IsCalm (past ++ Closed p ∷ []) (closed_on p at.server at.gift).server)
      (calm_same (Closed 0x0001) at.server.listener at.server.mux at.server.frame refl c)
      (record { answer = refl; unbroken = refl; no_frame = refl; fresh = reset_fresh at.server.mux c.fresh; idle = refl; quiet = quiet_more (Closed 0x0003) refl c.quiet })
      (record { answer = c.answer; unbroken = c.unbroken; no_frame = c.no_frame; fresh = c.fresh; idle = c.idle; quiet = quiet_more (Closed 0x1001) refl c.quiet })
      (λ p x y z.
      subst (λ (r : Reacted). IsCalm (past ++ Closed p ∷ []) r.server) (sym (cond-false _ _ _ x ∙ (cond-false _ _ _ y ∙ cond-false _ _ (let r : Reacted = record { server = at.server; gift = at.gift } in r) z)))
      (calm_same (Closed p) at.server.listener at.server.mux at.server.frame refl c))
      psm

  pub down_calm : (at : Reacted) → IsCalm past at.server
      → (let first : Reacted = lets_go_on L2cap (unanswered at.server) at.gift in IsCalm (past ++ LinkDown ∷ []) (cond first.server.listener.service.failed first (lets_go_on Rfcomm (remuxed (unreplied first.server)) first.gift)).server)
  down_calm at c =
      let first : Reacted = lets_go_on L2cap (unanswered at.server) at.gift in
      cond_both first.server.listener.service.failed first (lets_go_on Rfcomm (remuxed (unreplied first.server)) first.gift) (λ (r : Reacted). IsCalm (past ++ LinkDown ∷ []) r.server)
      (λ e. record { answer = c.answer; unbroken = c.unbroken; no_frame = c.no_frame; fresh = c.fresh; idle = c.idle; quiet = quiet_more LinkDown refl c.quiet })
      (λ e. record { answer = refl; unbroken = refl; no_frame = refl; fresh = reset_fresh at.server.mux c.fresh; idle = refl; quiet = quiet_more LinkDown refl c.quiet })

  framed_calm : (server : Server) → IsCalm past server → framed server ≡ record server { frame = None }
  framed_calm server c =
      ap (λ (o : Option PlainFrame). framed_by o server) c.no_frame
      ∙ ap (λ (x : Server). leaves_with (next x.mux) x) (cond-false _ _ server (ap (λ (a : List ℕ). is_ready server.mux && not (is_empty a)) c.answer ∙ and_false (is_ready server.mux)))
      ∙ ap (λ (o : Option Said). leaves_with o server) (says_nothing server.mux c.fresh)
      ∙ cond-false _ _ (record server { frame = None }) (ap (λ (b : Bool). b && is_empty server.listener.service.answer) c.unbroken)

  -- asked for an SDU, it has the same sessions and the same response
  pub record Asks (new server : Server) : Type 0 where
    pub calm : IsCalm (past ++ Asked ∷ []) new
    pub service : new.listener.service ≡ server.listener.service

  pub lends_calm : (o : Option Outlet) (server : Server) → IsCalm past server → Asks (lends_by o server) server
  lends_calm None server c =
      let full : Server = framed server in
      let kept = calm_same Asked server.listener server.mux server.frame refl c in
      let empty : IsCalm (past ++ Asked ∷ []) (record server { frame = None }) = record { answer = kept.answer; unbroken = kept.unbroken; no_frame = refl; fresh = kept.fresh; idle = kept.idle; quiet = kept.quiet } in
      cond_both (is_empty server.reply && is_empty server.listener.service.response) (record full { lent = outlet_of full }) (record server { lent = outlet_of server }) (λ (x : Server). Asks x server)
      (λ e. subst (λ (x : Server). Asks (record x { lent = outlet_of x }) server) (sym (framed_calm server c)) (record { calm = empty; service = refl }))
      (λ e. record { calm = kept; service = refl })
  lends_calm (Some outlet) server c = record { calm = calm_same Asked server.listener server.mux server.frame refl c; service = refl }

  unless : (failed : Bool) (one : Occurrence) (at : Reacted) (after : Reacted) → passed_by one ≡ None → IsCalm past at.server → IsCalm (past ++ one ∷ []) after.server
      → IsCalm (past ++ one ∷ []) (cond failed (let r : Reacted = record { server = at.server; gift = at.gift } in r) after).server
  unless true one at after away c now = calm_same one at.server.listener at.server.mux at.server.frame away c
  unless false one at after away c now = now

  passes_by : (psm : ℕ) (sdu : List ℕ) → NoFrame (Came psm sdu) → passed_by (Came psm sdu) ≡ None
  passes_by psm sdu direct = by_psm (λ p. NoFrame (Came p sdu) → passed_by (Came p sdu) ≡ None) (λ d. refl) (λ d. absurd (d refl)) (λ d. refl) (λ p x y z d. cond-false _ _ _ y) psm direct

  -- whatever happens
  pub calm_more : (one : Occurrence) (at : Reacted) → NoFrame one → IsOwn one at.server → IsCalm past at.server → IsCalm (past ++ one ∷ []) (done one at).server
  calm_more (Came psm sdu) at direct own c = unless at.server.listener.service.failed (Came psm sdu) at (hears_on psm sdu at.server at.gift) (passes_by psm sdu direct) c (came_calm sdu at c psm direct)
  calm_more (Went psm sdu) at direct own c = went_calm at.server.lent psm sdu at.server own.0 own.1 own.2 c
  calm_more (Closed psm) at direct own c = unless at.server.listener.service.failed (Closed psm) at (closed_on psm at.server at.gift) refl c (closed_calm at c psm)
  calm_more LinkDown at direct own c =
      let first : Reacted = lets_go_on L2cap (unanswered at.server) at.gift in
      unless at.server.listener.service.failed LinkDown at (cond first.server.listener.service.failed first (lets_go_on Rfcomm (remuxed (unreplied first.server)) first.gift)) refl c (down_calm at c)
  calm_more Asked at direct own c = (lends_calm at.server.lent at.server c).calm
  calm_more (Answering answers) at direct own c = calm_same (Answering answers) at.server.listener at.server.mux at.server.frame refl c

-- no packet is whole over RFCOMM
drop_none : (n : ℕ) (xs : List (List ℕ)) → xs ≡ [] → drop n xs ≡ []
drop_none zero xs e = e
drop_none (suc n) xs e = ap (drop (suc n)) e

pub silent_stream : (past : List Occurrence) → filter_map passed_by (since rfcomm_psm past) ≡ [] → packets_over Rfcomm past ≡ []
silent_stream past quiet = ap (λ xs. obex_packets (user_octets user_dlci Responder Initiator xs)) quiet ∙ no_packets

pub none_muxed : (past : List Occurrence) (one : Occurrence) → filter_map passed_by (since rfcomm_psm (past ++ one ∷ [])) ≡ [] → new_packets Rfcomm past one ≡ []
none_muxed past one quiet = drop_none (length (packets_over Rfcomm past)) (packets_over Rfcomm (past ++ one ∷ [])) (silent_stream (past ++ one ∷ []) quiet)

-- ---- which packets are new over L2CAP

pub none_direct : (past : List Occurrence) (one : Occurrence) → came_on object_psm one ≡ None → new_packets L2cap past one ≡ []
none_direct past one none =
    elim (cases_Bool (closes object_psm one)) [
      | inl e ↦ drop_none (length (packets_over L2cap past)) (packets_over L2cap (past ++ one ∷ [])) (read_closed (came_on object_psm) object_psm past one e)
      | inr e ↦ ap (beyond (packets_over L2cap past)) (read_same (came_on object_psm) object_psm past one e none) ∙ drop_same (packets_over L2cap past)
    ]

pub one_direct : (past : List Occurrence) (sdu : List ℕ) → new_packets L2cap past (Came 0x1001 sdu) ≡ sdu ∷ []
one_direct past sdu = ap (beyond (packets_over L2cap past)) (read_more (came_on object_psm) object_psm past (Came 0x1001 sdu) refl) ∙ drop_front (packets_over L2cap past) (sdu ∷ [])
