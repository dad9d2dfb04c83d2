-- Where requests come in turn none is ignored.
use Rattle.std.proofs.Common.{Bool, true, false, cond, ◌||◌, ◌&&◌, ◌≡◌, ◌≤◌, ℕ, List, [], ◌∷◌, ◌++◌, length, Option, Some, None, Ok, arith, refl, sym, ap, subst, ◌∙◌}
use Rattle.std.specs.Prelude.{not, nat_lt}
use Rattle.std.specs.List.{AllByRecursion}
use Rattle.std.proofs.lemmas.Bool.{cond_both, cond-false}
use Rattle.link_talk.specs.bt_base.specs.declared.settings.Settings.{Settings}
use Rattle.link_talk.specs.bt_base.specs.declared.settings.Transport.{Transport}
use Rattle.link_talk.specs.bt_base.specs.declared.settings.Transport.TheVariants.{L2cap, Rfcomm}
use Rattle.link_talk.specs.bt_base.specs.Objects.{Object}
use Rattle.push_model.specs.obex_headers.specs.declared.packet.Phase.TheVariants.{Request}
use Rattle.push_model.specs.obex_headers.specs.Reading.{packet_in}
use Rattle.push_model.specs.obex_headers.specs.Runs.{names}
use Rattle.push_model.specs.obex_session.specs.Calls.{session_behind}
use Rattle.push_model.specs.obex_session.specs.InboxCalls.{InboxCall, Answer, come_of}
use Rattle.push_model.specs.obex_session.specs.InboxCalls.{left_by as calls_left}
use Rattle.push_model.specs.obex_session.specs.Laws.{without_fault}
use Rattle.push_model.specs.obex_session.specs.Past.{Serving, open_headers}
use Rattle.push_model.specs.obex_session.specs.Rules.{aborts, progress_in}
use Rattle.push_model.specs.obex_session.specs.Serving.{kind_heard, verdict_or, ruling_on, heard_with}
use Rattle.push_model.specs.obex_session.specs.Turns.{course_after}
use Rattle.push_model.specs.obex_session.specs.Views.{rested, octets_said, is_silent}
use Rattle.push_model.specs.obex_session.proofs.GrantedLaws.{silence_is_none, said_alike, no_aborts}
use Rattle.push_model.specs.rfcomm_frames.specs.FrameReading.{is_empty}
use Rattle.push_model.specs.rfcomm_frames.specs.Frames.{PlainFrame}
use Rattle.push_model.specs.rfcomm_model.specs.Machine.{Mux}
use Rattle.push_model.specs.declared.outlet.Outlet.{Outlet}
use Rattle.push_model.specs.declared.outlet.Outlet.TheVariants.{Records, Direct, Muxed}
use Rattle.push_model.specs.Client.{own_maximum}
use Rattle.push_model.specs.Listening.{Listener, has_bad_length}
use Rattle.push_model.specs.Service.{Service, Served, response_over, after_heard, is_ignored}
use Rattle.push_model.specs.Sessions as model
use Rattle.push_model.specs.Sessions.{Sessions, Gift, session_of, has_object, lets_go, answers_to, is_naming, hears}
use Rattle.push_model.specs.Server.{Server, Reacted, Lent, hears_search, hears_on, lends_by, frame_lent, lent_by, taken_by, closed_on, lets_go_on, lets_go_twice, remuxed, unreplied, unanswered, object_psm, rfcomm_psm}
use Rattle.push_laws.specs.Calls.{new_session}
use Rattle.push_laws.specs.Faults.{faults_of}
use Rattle.push_laws.specs.Laws.{new_over}
use Rattle.push_laws.specs.Occurrences.{Occurrence, Came, Went, Closed, LinkDown, Asked, Answering, done, IsOwn}
use Rattle.push_laws.specs.Premises.{IsHeard, AllGranted, MayCome, AllMayCome, new_packets}
use Rattle.push_laws.specs.Readings.{closes, came_on, packets_over}
use Rattle.push_laws.specs.Turns.{serving, in_silence, due_behind, InTurn, TakesTurn, AllTakeTurns, NoRequestIsIgnored}
use Rattle.push_laws.proofs.Answering.{come_granted, response_behind}
use Rattle.push_laws.proofs.Calm.{Calm, IsCalm, first_calm, calm_same, came_calm, went_calm, closed_calm, down_calm, lends_calm, is_orderly, silent_stream, none_direct, one_direct, none_muxed}
use Rattle.push_laws.proofs.Codes.{said_to}
use Rattle.push_laws.proofs.Gaining.{Clear, clear_more, first_holds}
use Rattle.push_laws.proofs.Readings.{read_more, read_same, read_closed}
use Rattle.push_laws.proofs.Servers.{by_psm}

-- ---- the session is the one that the packets leave

rest_behind : (packets : List (List ℕ)) (session : Serving) → rested (session_behind session packets) ≡ rested session
rest_behind [] session = refl
rest_behind (packet ∷ packets) session = rest_behind packets (heard_with session packet []).session

pub behind_more : (packets : List (List ℕ)) (packet : List ℕ) (session : Serving) → session_behind session (packets ++ packet ∷ []) ≡ (heard_with (session_behind session packets) packet []).session
behind_more [] packet session = refl
behind_more (first ∷ packets) packet session = behind_more packets packet (heard_with session first []).session

turn_alike : (session : Serving) (packet : List ℕ) (answers : List Answer) → come_of (ruling_on session packet).calls answers ≡ Ok tt → (heard_with session packet answers).session ≡ (heard_with session packet []).session
turn_alike session packet answers e =
    ap (λ (come : Answer). (let s : Serving = record session { course = course_after session.offered session.course (kind_heard session packet) (verdict_or (ruling_on session packet).verdict come) } in s))
    (e ∙ sym (come_granted (ruling_on session packet).calls [] refl))

heard_direct : (packet : List ℕ) (sessions : Sessions) (gift : Gift) → (is_naming L2cap packet sessions ≡ true → has_object sessions.carried ≡ false)
    → (hears L2cap packet sessions gift).sessions.direct ≡ (heard_with sessions.direct packet gift.answers).session
heard_direct packet sessions gift alone =
    cond_both (is_naming L2cap packet sessions) _ _ (λ (h : model.Heard). h.sessions.direct ≡ (heard_with sessions.direct packet gift.answers).session)
    (λ named.
    let calls : List InboxCall = aborts (progress_in sessions.carried.course) in
    let none : calls ≡ [] = no_aborts (progress_in sessions.carried.course) (alone named) in
    let parted = lets_go Rfcomm sessions gift in
    let calm : parted.short ≡ false = ap (λ (cs : List InboxCall). model.is_short (come_of cs gift.answers)) none in
    ap (λ (h : model.Heard). h.sessions.direct) (cond-false parted.short _ (answers_to L2cap packet parted.sessions parted.gift) calm)
    ∙ ap (λ (cs : List InboxCall). (heard_with sessions.direct packet (calls_left cs gift.answers)).session) none)
    (λ unnamed. refl)

over_sessions : (response : List ℕ) (service : Service) → (response_over L2cap response service).sessions ≡ service.sessions
over_sessions [] service = refl
over_sessions (octet ∷ octets) service = refl

-- ---- what stands behind a list of occurrences

pub record Still (settings : Settings) (past : List Occurrence) (due : Bool) (listener : Listener) (mux : Mux) (frame : Option PlainFrame) : Type 0 where
  pub calm : Calm past listener mux frame
  pub free : due ≡ false → listener.service.response ≡ []
  pub session : listener.service.sessions.direct ≡ serving settings past

abbrev pub Stands : Settings → List Occurrence → Bool → Server → Type 0
Stands settings past due server = Still settings past due server.listener server.mux server.frame

or_false : (a : Bool) → (a || false) ≡ a
or_false true = refl
or_false false = refl

and_false : (a : Bool) → (a && false) ≡ false
and_false true = refl
and_false false = refl

neither : (a b : Bool) → (a || b) ≡ false → (a ≡ false) × (b ≡ false)
neither true b e = absurd (let f : true ≡ false = e in cc)
neither false b e = (refl, e)

silent_of : (b : Bool) → not b ≡ false → b ≡ true
silent_of true e = refl
silent_of false e = absurd (let f : true ≡ false = e in cc)

-- no response waits, or the packet has none
taken_in_turn : (due silent : Bool) (response answer : List ℕ) → (due ≡ false → response ≡ []) → answer ≡ [] → (due && not silent) ≡ false → ((not (is_empty response) || not (is_empty answer)) && not silent) ≡ false
taken_in_turn false silent response answer free none turn =
    ap (λ (r : List ℕ). (not (is_empty r) || not (is_empty answer)) && not silent) (free refl) ∙ ap (λ (a : List ℕ). not (is_empty a) && not silent) none
taken_in_turn true silent response answer free none turn = ap (λ (b : Bool). (not (is_empty response) || not (is_empty answer)) && b) turn ∙ and_false (not (is_empty response) || not (is_empty answer))

-- the inbox grants the calls that a request asks for
abbrev pub IsGranted : Reacted → List ℕ → Type 0
IsGranted at sdu = come_of (ruling_on at.server.listener.service.sessions.direct sdu).calls at.gift.answers ≡ Ok tt

abbrev pub Grants : Occurrence → Reacted → Type 0
Grants (Came psm sdu) at = psm ≡ object_psm → IsGranted at sdu
Grants (Went psm sdu) at = Unit {0}
Grants (Closed psm) at = Unit {0}
Grants LinkDown at = Unit {0}
Grants Asked at = Unit {0}
Grants (Answering answers) at = Unit {0}

-- so it does where it grants all that it is still to be asked
pub grants : (one : Occurrence) (at : Reacted) → faults_of at.gift.answers ≡ 0 → Grants one at
grants (Came psm sdu) at spared = λ here. come_granted (ruling_on at.server.listener.service.sessions.direct sdu).calls at.gift.answers spared
grants (Went psm sdu) at spared = tt
grants (Closed psm) at spared = tt
grants LinkDown at spared = tt
grants Asked at spared = tt
grants (Answering answers) at spared = tt

module _ (settings : Settings) (before : List Object) (past : List Occurrence) where
  pub same_session : (one : Occurrence) → closes object_psm one ≡ false → came_on object_psm one ≡ None → serving settings past ≡ serving settings (past ++ one ∷ [])
  same_session one on none = ap (session_behind (new_session (own_maximum L2cap settings) true)) (sym (read_same (came_on object_psm) object_psm past one on none))

  -- an occurrence that is none of the session's
  same_still : (one : Occurrence) (due due' : Bool) (server new : Server) → closes object_psm one ≡ false → came_on object_psm one ≡ None → due' ≡ due → new.listener.service.response ≡ server.listener.service.response
      → new.listener.service.sessions.direct ≡ server.listener.service.sessions.direct → IsCalm (past ++ one ∷ []) new → Stands settings past due server → Stands settings (past ++ one ∷ []) due' new
  same_still one due due' server new on none same response session calm s = record { calm = calm; free = λ e. response ∙ s.free (sym same ∙ e); session = session ∙ s.session ∙ same_session one on none }

  rested_now : (one : Occurrence) (session : Serving) → closes object_psm one ≡ true → session ≡ serving settings past → rested session ≡ serving settings (past ++ one ∷ [])
  rested_now one session closing is =
      ap rested is ∙ rest_behind (packets_over L2cap past) (new_session (own_maximum L2cap settings) true)
      ∙ ap (session_behind (new_session (own_maximum L2cap settings) true)) (sym (read_closed (came_on object_psm) object_psm past one closing))

  -- ---- a request comes in turn

  pub request_taken : (due : Bool) (sdu : List ℕ) (at : Reacted) → Stands settings past due at.server → (due && not (in_silence settings past sdu)) ≡ false → is_ignored L2cap sdu at.server.listener.service ≡ false
  request_taken due sdu at s turn =
      taken_in_turn due (is_silent at.server.listener.service.sessions.direct sdu) at.server.listener.service.response at.server.listener.service.answer s.free s.calm.answer
      (ap (λ (x : Serving). due && not (is_silent x sdu)) s.session ∙ turn)

  heard_now : (due : Bool) (sdu : List ℕ) (at : Reacted) → Stands settings past due at.server → is_ignored L2cap sdu at.server.listener.service ≡ false → IsHeard settings past at.server.listener.service L2cap sdu
  heard_now due sdu at s taken = record {
    taken = taken;
    alone = λ named. ap (λ (ps : List (List ℕ)). nat_lt 0 (length (names (open_headers (own_maximum Rfcomm settings) (without_fault ps))))) (silent_stream past s.calm.quiet);
  }

  request_still : (due : Bool) (sdu : List ℕ) (at : Reacted) → Stands settings past due at.server → IsGranted at sdu → (due && not (in_silence settings past sdu)) ≡ false
      → Stands settings (past ++ Came 0x1001 sdu ∷ []) (due || not (in_silence settings past sdu)) (hears_on 0x1001 sdu at.server at.gift).server
  request_still due sdu at s come turn =
      let service : Service = at.server.listener.service in
      let session : Serving = service.sessions.direct in
      let taken = request_taken due sdu at s turn in
      let h = hears L2cap sdu service.sessions at.gift in
      let now = response_behind sdu service at.gift taken (λ named. s.calm.idle) in
      record {
        calm = came_calm past sdu at s.calm 0x1001 (λ e. no_both e);
        free = λ e.
            let both = neither due (not (in_silence settings past sdu)) e in
            let silent : is_silent session sdu ≡ true = ap (λ (x : Serving). is_silent x sdu) s.session ∙ silent_of (in_silence settings past sdu) both.1 in
            let none : said_to session sdu at.gift.answers ≡ [] =
            ap (λ x. octets_said sdu session.maximum x) (said_alike session sdu at.gift.answers come) ∙ silence_is_none sdu session.maximum (heard_with session sdu []).saying silent in
            now ∙ ap (λ (x : List ℕ). cond (is_empty x) service.response x) none ∙ s.free both.0;
        session = ap (λ (x : Served). x.service.sessions.direct) (cond-false _ _ (after_heard L2cap service h) taken)
            ∙ ap (λ (x : Sessions). x.direct) (over_sessions h.response (record service { sessions = h.sessions; failed = service.failed || h.short }))
            ∙ heard_direct sdu service.sessions at.gift (λ named. s.calm.idle) ∙ turn_alike session sdu at.gift.answers come
            ∙ ap (λ (x : Serving). (heard_with x sdu []).session) s.session
            ∙ sym (behind_more (packets_over L2cap past) sdu (new_session (own_maximum L2cap settings) true))
            ∙ ap (session_behind (new_session (own_maximum L2cap settings) true)) (sym (read_more (came_on object_psm) object_psm past (Came 0x1001 sdu) refl));
      }
    where
      no_both : 0x1001 ≡ rfcomm_psm → ⊥
      no_both e = cc

  -- what the session is behind it
  pub serving_more : (sdu : List ℕ) → serving settings (past ++ Came 0x1001 sdu ∷ []) ≡ (heard_with (serving settings past) sdu []).session
  serving_more sdu =
      ap (session_behind (new_session (own_maximum L2cap settings) true)) (read_more (came_on object_psm) object_psm past (Came 0x1001 sdu) refl)
      ∙ behind_more (packets_over L2cap past) sdu (new_session (own_maximum L2cap settings) true)

  -- and the response that waits
  pub response_now : (due : Bool) (sdu : List ℕ) (at : Reacted) → Stands settings past due at.server → IsGranted at sdu → (due && not (in_silence settings past sdu)) ≡ false
      → (let r : List ℕ = octets_said sdu (serving settings past).maximum (heard_with (serving settings past) sdu []).saying in
      (hears_on 0x1001 sdu at.server at.gift).server.listener.service.response ≡ cond (is_empty r) at.server.listener.service.response r)
  response_now due sdu at s come turn =
      let service : Service = at.server.listener.service in
      response_behind sdu service at.gift (request_taken due sdu at s turn) (λ named. s.calm.idle)
      ∙ ap (λ (r : List ℕ). cond (is_empty r) service.response r)
      (ap (λ x. octets_said sdu service.sessions.direct.maximum x) (said_alike service.sessions.direct sdu at.gift.answers come)
      ∙ ap (λ (x : Serving). octets_said sdu x.maximum (heard_with x sdu []).saying) s.session)

  came_still : (due : Bool) (sdu : List ℕ) (at : Reacted) → Stands settings past due at.server → (psm : ℕ) → (psm ≡ object_psm → IsGranted at sdu) → InTurn settings past due (Came psm sdu)
      → Stands settings (past ++ Came psm sdu ∷ []) (due_behind settings past due (Came psm sdu)) (hears_on psm sdu at.server at.gift).server
  came_still due sdu at s psm =
      by_psm (λ p. (p ≡ object_psm → IsGranted at sdu) → InTurn settings past due (Came p sdu) → Stands settings (past ++ Came p sdu ∷ []) (due_behind settings past due (Came p sdu)) (hears_on p sdu at.server at.gift).server)
      (λ granted turn. same_still (Came 0x0001 sdu) due (due || false) at.server (hears_search sdu at.server) refl refl (or_false due) (search_same sdu at.server).0 (search_same sdu at.server).1 (came_calm past sdu at s.calm 0x0001 turn.0) s)
      (λ granted turn. absurd (turn.0 refl))
      (λ granted turn. request_still due sdu at s (granted refl) (turn.1 refl))
      (λ p x y z granted turn.
      subst (λ (r : Reacted). Stands settings (past ++ Came p sdu ∷ []) (due_behind settings past due (Came p sdu)) r.server)
      (sym (cond-false _ _ _ x ∙ (cond-false _ _ _ y ∙ cond-false _ _ (let r : Reacted = record { server = at.server; gift = at.gift } in r) z)))
      (same_still (Came p sdu) due (due_behind settings past due (Came p sdu)) at.server at.server refl (cond-false _ _ _ z) (ap (λ (b : Bool). due || (b && not (in_silence settings past sdu))) z ∙ or_false due) refl refl
      (calm_same past (Came p sdu) at.server.listener at.server.mux at.server.frame (cond-false _ _ _ y) s.calm) s))
      psm
    where
      search_same : (sdu : List ℕ) (server : Server) → ((hears_search sdu server).listener.service.response ≡ server.listener.service.response) × ((hears_search sdu server).listener.service.sessions.direct ≡ server.listener.service.sessions.direct)
      search_same sdu server =
          cond_both (is_empty server.reply) _ _ (λ (x : Server). (x.listener.service.response ≡ server.listener.service.response) × (x.listener.service.sessions.direct ≡ server.listener.service.sessions.direct)) (λ e. (refl, refl)) (λ e. (refl, refl))

  -- ---- an SDU goes

  same_lent : (a b : Lent) → Some a ≡ Some b → a ≡ b
  same_lent a b e = cc

  no_lent : (lent : Lent) → None ≡ Some lent → ⊥
  no_lent lent e = cc

  went_still : (due : Bool) (o : Option Outlet) (psm : ℕ) (sdu : List ℕ) (server : Server) (lent : Lent) → lent_by o server ≡ Some lent → lent.psm ≡ psm → Stands settings past due server
      → Stands settings (past ++ Went psm sdu ∷ []) (due_behind settings past due (Went psm sdu)) (taken_by o server)
  went_still due None psm sdu server lent e p s = absurd (no_lent lent e)
  went_still due (Some Muxed) psm sdu server lent e p s = absurd (no_lent lent (sym (ap frame_lent s.calm.no_frame) ∙ e))
  went_still due (Some Records) psm sdu server lent e p s =
      subst (λ (n : ℕ). Stands settings (past ++ Went n sdu ∷ []) (due_behind settings past due (Went n sdu)) (taken_by (Some Records) server)) (ap (λ (l : Lent). l.psm) (same_lent _ lent e) ∙ p)
      (same_still (Went 0x0001 sdu) due due server (taken_by (Some Records) server) refl refl refl refl refl (went_calm past (Some Records) 0x0001 sdu server lent e (sym (ap (λ (l : Lent). l.psm) (same_lent _ lent e))) s.calm) s)
  went_still due (Some Direct) psm sdu server lent e p s =
      subst (λ (n : ℕ). Stands settings (past ++ Went n sdu ∷ []) (due_behind settings past due (Went n sdu)) (taken_by (Some Direct) server)) (ap (λ (l : Lent). l.psm) (same_lent _ lent e) ∙ p)
      (record {
        calm = went_calm past (Some Direct) 0x1001 sdu server lent e (sym (ap (λ (l : Lent). l.psm) (same_lent _ lent e))) s.calm;
        free = λ e. refl;
        session = s.session ∙ same_session (Went 0x1001 sdu) refl refl;
      })

  -- ---- a channel is closed

  closed_still : (due : Bool) (at : Reacted) → Stands settings past due at.server → (psm : ℕ) → Stands settings (past ++ Closed psm ∷ []) (due_behind settings past due (Closed psm)) (closed_on psm at.server at.gift).server
  closed_still due at s psm =
      by_psm (λ p. Stands settings (past ++ Closed p ∷ []) (due_behind settings past due (Closed p)) (closed_on p at.server at.gift).server)
      (same_still (Closed 0x0001) due due at.server (closed_on 0x0001 at.server at.gift).server refl refl refl refl refl (closed_calm past at s.calm 0x0001) s)
      (same_still (Closed 0x0003) due due at.server (closed_on 0x0003 at.server at.gift).server refl refl refl refl refl (closed_calm past at s.calm 0x0003) s)
      (record { calm = closed_calm past at s.calm 0x1001; free = λ e. refl; session = rested_now (Closed 0x1001) at.server.listener.service.sessions.direct refl s.session })
      (λ p x y z.
      subst (λ (r : Reacted). Stands settings (past ++ Closed p ∷ []) (due_behind settings past due (Closed p)) r.server)
      (sym (cond-false _ _ _ x ∙ (cond-false _ _ _ y ∙ cond-false _ _ (let r : Reacted = record { server = at.server; gift = at.gift } in r) z)))
      (same_still (Closed p) due (due_behind settings past due (Closed p)) at.server at.server z refl (cond-false _ _ _ z) refl refl (calm_same past (Closed p) at.server.listener at.server.mux at.server.frame refl s.calm) s))
      psm

  down_still : (due : Bool) (at : Reacted) → Stands settings past due at.server → (let first : Reacted = lets_go_on L2cap (unanswered at.server) at.gift in
      Stands settings (past ++ LinkDown ∷ []) false (cond first.server.listener.service.failed first (lets_go_on Rfcomm (remuxed (unreplied first.server)) first.gift)).server)
  down_still due at s =
      let first : Reacted = lets_go_on L2cap (unanswered at.server) at.gift in
      let session = rested_now LinkDown at.server.listener.service.sessions.direct refl s.session in
      cond_both first.server.listener.service.failed first (lets_go_on Rfcomm (remuxed (unreplied first.server)) first.gift) (λ (r : Reacted). IsCalm (past ++ LinkDown ∷ []) r.server → Stands settings (past ++ LinkDown ∷ []) false r.server)
      (λ e calm. record { calm = calm; free = λ f. refl; session = session }) (λ e calm. record { calm = calm; free = λ f. refl; session = session }) (down_calm past at s.calm)

  -- ---- it is asked for an SDU: nothing goes by the multiplexer

  lends_still : (due : Bool) (o : Option Outlet) (server : Server) → Stands settings past due server → Stands settings (past ++ Asked ∷ []) due (lends_by o server)
  lends_still due o server s =
      let asks = lends_calm past o server s.calm in
      same_still Asked due due server (lends_by o server) refl refl refl (ap (λ (x : Service). x.response) asks.service) (ap (λ (x : Service). x.sessions.direct) asks.service) asks.calm s

  -- ---- any occurrence

  pub still_more : (one : Occurrence) (due : Bool) (at : Reacted) → at.server.listener.service.failed ≡ false → Grants one at → IsOwn one at.server → InTurn settings past due one → Stands settings past due at.server
      → Stands settings (past ++ one ∷ []) (due_behind settings past due one) (done one at).server
  still_more (Came psm sdu) due at sound granted own turn s =
      subst (λ (r : Reacted). Stands settings (past ++ Came psm sdu ∷ []) (due_behind settings past due (Came psm sdu)) r.server) (sym (cond-false _ _ (hears_on psm sdu at.server at.gift) sound)) (came_still due sdu at s psm granted turn)
  still_more (Went psm sdu) due at sound granted own turn s = went_still due at.server.lent psm sdu at.server own.0 own.1 own.2 s
  still_more (Closed psm) due at sound granted own turn s =
      subst (λ (r : Reacted). Stands settings (past ++ Closed psm ∷ []) (due_behind settings past due (Closed psm)) r.server) (sym (cond-false _ _ (closed_on psm at.server at.gift) sound)) (closed_still due at s psm)
  still_more LinkDown due at sound granted own turn s = subst (λ (r : Reacted). Stands settings (past ++ LinkDown ∷ []) false r.server) (sym (cond-false _ _ (lets_go_twice (lets_go_on L2cap (unanswered at.server) at.gift)) sound)) (down_still due at s)
  still_more Asked due at sound granted own turn s = lends_still due at.server.lent at.server s
  still_more (Answering answers) due at sound granted own turn s = same_still (Answering answers) due due at.server at.server refl refl refl refl refl (calm_same past (Answering answers) at.server.listener at.server.mux at.server.frame refl s.calm) s

  -- ---- which packets are new

  AreHeard : Reacted → Occurrence → Type 0
  AreHeard at one = AllByRecursion (IsHeard settings past at.server.listener.service L2cap) (new_packets L2cap past one)

  none_heard : (at : Reacted) (one : Occurrence) → came_on object_psm one ≡ None → AreHeard at one
  unfolding AreHeard
  none_heard at one none = subst (AllByRecursion (IsHeard settings past at.server.listener.service L2cap)) (sym (none_direct past one none)) tt

  came_heard : (due : Bool) (sdu : List ℕ) (at : Reacted) → Stands settings past due at.server → (psm : ℕ) → InTurn settings past due (Came psm sdu) → AreHeard at (Came psm sdu)
  unfolding AreHeard
  came_heard due sdu at s psm =
      by_psm (λ p. InTurn settings past due (Came p sdu) → AreHeard at (Came p sdu))
      (λ turn. none_heard at (Came 0x0001 sdu) refl)
      (λ turn. none_heard at (Came 0x0003 sdu) refl)
      (λ turn.
      subst (AllByRecursion (IsHeard settings past at.server.listener.service L2cap)) (sym (one_direct past sdu)) (heard_now due sdu at s (request_taken due sdu at s (turn.1 refl)), tt))
      (λ p x y z turn. none_heard at (Came p sdu) (cond-false _ _ _ z))
      psm

  are_heard : (one : Occurrence) (due : Bool) (at : Reacted) → InTurn settings past due one → Stands settings past due at.server → AreHeard at one
  are_heard (Came psm sdu) due at turn s = came_heard due sdu at s psm turn
  are_heard (Went psm sdu) due at turn s = none_heard at (Went psm sdu) refl
  are_heard (Closed psm) due at turn s = none_heard at (Closed psm) refl
  are_heard LinkDown due at turn s = none_heard at LinkDown refl
  are_heard Asked due at turn s = none_heard at Asked refl
  are_heard (Answering answers) due at turn s = none_heard at (Answering answers) refl

  no_frame_comes : (one : Occurrence) (due : Bool) (sdu : List ℕ) → InTurn settings past due one → one ≡ Came rfcomm_psm sdu → ⊥
  no_frame_comes one due sdu turn is = (subst (InTurn settings past due) is turn).0 refl

  pub may_come : (one : Occurrence) (due : Bool) (at : Reacted) → Clear settings before past at → TakesTurn settings past due at one → Stands settings past due at.server → Stands settings (past ++ one ∷ []) (due_behind settings past due one) (done one at).server
      → MayCome AllGranted (IsHeard settings past at.server.listener.service) settings past at one
  unfolding AreHeard
  may_come one due at c t s later =
      let new : new_packets Rfcomm past one ≡ [] = none_muxed past one later.calm.quiet in
      record {
        own = t.own;
        answers = t.granted;
        requests = record {
          single = subst (λ (ps : List (List ℕ)). length ps ≤ 1) (sym new) (omega arith);
          heard = λ transport. heard_over new transport;
          lengths = subst (AllByRecursion (λ packet. has_bad_length (packet_in Request (own_maximum Rfcomm settings) packet) ≡ false)) (sym new) tt;
        };
        frame = λ sdu is. absurd (no_frame_comes one due sdu t.turn is);
        orderly = is_orderly (done one at).server.mux later.calm.fresh;
      }
    where
      heard_over : new_packets Rfcomm past one ≡ [] → (transport : Transport) → AllByRecursion (IsHeard settings past at.server.listener.service transport) (new_packets transport past one)
      heard_over new L2cap = are_heard one due at t.turn s
      heard_over new Rfcomm = subst (AllByRecursion (IsHeard settings past at.server.listener.service Rfcomm)) (sym new) tt

-- ---- all of them

all_may_come : (settings : Settings) (before : List Object) (occurrences past : List Occurrence) (due : Bool) (at : Reacted) → Clear settings before past at → AllTakeTurns settings past due at occurrences → Stands settings past due at.server
    → AllMayCome settings past at occurrences
all_may_come settings before [] past due at c all s = tt
all_may_come settings before (one ∷ rest) past due at c all s =
    let sound = c.holds.upholds.listens.serves.enough in
    let later = still_more settings before past one due at sound (grants one at c.spared) all.0.own all.0.turn s in
    let may = may_come settings before past one due at c all.0 s later in
    (may, all_may_come settings before rest (past ++ one ∷ []) (due_behind settings past due one) (done one at) (clear_more settings before past one at c may) all.1 later)

pub first_clear : (settings : Settings) (before : List Object) → Clear settings before [] (new_over settings before)
first_clear settings before = record { holds = first_holds settings before; spared = refl; same = refl }

pub first_still : (settings : Settings) (before : List Object) → Stands settings [] false (new_over settings before).server
first_still settings before = record { calm = first_calm settings; free = λ e. refl; session = refl }

pub no-request_is_ignored : NoRequestIsIgnored
no-request_is_ignored settings before occurrences all = all_may_come settings before occurrences [] false (new_over settings before) (first_clear settings before) all (first_still settings before)
