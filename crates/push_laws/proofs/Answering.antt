-- The responses of a server over L2CAP.
use Rattle.std.proofs.Common.{inl, inr, zero, suc, Bool, true, false, cond, ◌⊎◌, ◌||◌, ◌&&◌, ◌≡◌, ℕ, List, [], ◌∷◌, ◌++◌, length, Option, Some, None, Ok, Err, arith, refl, sym, ap, subst, ◌∙◌, append_assoc, append-nil}
use Rattle.std.specs.Prelude.{not, is_err}
use Rattle.std.specs.List.{filter_map, cons_option, AllByRecursion}
use Rattle.std.proofs.lemmas.Bool.{cond_both, cond-false, and_cases}
use Rattle.std.proofs.lemmas.List.{map-append}
use Rattle.std.proofs.lemmas.List.Elements.{filter_map-append}
use Rattle.link_talk.specs.bt_base.specs.declared.settings.Settings.{Settings}
use Rattle.link_talk.specs.bt_base.specs.declared.settings.Transport.{Transport}
use Rattle.link_talk.specs.bt_base.specs.declared.settings.Transport.TheVariants.{L2cap, Rfcomm}
use Rattle.link_talk.specs.bt_base.specs.Objects.{Object}
use Rattle.link_talk.specs.capture.specs.Histories.{EachAfter}
use Rattle.link_talk.specs.capture.proofs.HistoryLaws.{each_after-more}
use Rattle.push_model.specs.obex_headers.specs.declared.packet.Phase.TheVariants.{Request}
use Rattle.push_model.specs.obex_headers.specs.Reading.{packet_in}
use Rattle.push_model.specs.obex_session.specs.InboxCalls.{InboxCall, Answer, come_of}
use Rattle.push_model.specs.obex_session.specs.InboxCalls.{left_by as calls_left}
use Rattle.push_model.specs.obex_session.specs.Laws.{without_fault}
use Rattle.push_model.specs.obex_session.specs.Past.{Heard, stored_by, open_headers, progress_of, Serving}
use Rattle.push_model.specs.obex_session.specs.Rules.{aborts, progress_in}
use Rattle.push_model.specs.obex_session.specs.Serving.{ruling_on, heard_with}
use Rattle.push_model.specs.obex_session.specs.Views.{octets_said, is_silent}
use Rattle.push_model.specs.obex_session.proofs.GrantedLaws.{silence_is_none, stores_read, said_alike, no_aborts}
use Rattle.push_model.specs.obex_session.proofs.SuccessLaws.{success_is_stored}
use Rattle.push_model.specs.rfcomm_frames.specs.FrameReading.{is_empty}
use Rattle.push_model.specs.rfcomm_frames.specs.Frames.{PlainFrame}
use Rattle.push_model.specs.rfcomm_model.specs.Machine.{is_ready, leaves}
use Rattle.push_model.specs.rfcomm_model.specs.Hearing as hearing
use Rattle.push_model.specs.rfcomm_model.specs.Hearing.{Up, nothing, opened, bytes, closed, up}
use Rattle.push_model.specs.rfcomm_model.specs.Saying.{Said, next}
use Rattle.link_talk.specs.Gains.{beyond}
use Rattle.link_talk.specs.ObjectsHeard.{spelled_within}
use Rattle.push_model.specs.declared.outlet.Outlet.{Outlet}
use Rattle.push_model.specs.declared.outlet.Outlet.TheVariants.{Records, Direct, Muxed}
use Rattle.push_model.specs.Client.{own_maximum}
use Rattle.push_model.specs.Payloads.{Octets, IsSaid}
use Rattle.push_model.specs.Sessions as model
use Rattle.push_model.specs.Sessions.{Sessions, Gift, session_of, other_of, with_session, has_object, lets_go, answers_to, is_naming, hears_after, hears}
use Rattle.push_model.specs.Service.{Service, Served, has_response, response_over, after_heard, is_ignored, hears_packet}
use Rattle.push_model.specs.Streams.{Front, Whole, Partial, Broken, front_of}
use Rattle.push_model.specs.Listening.{Listener, Heeded, Received, stops, received, heeds_carried, hears_front, hears_stream}
use Rattle.push_model.specs.Listening as listening
use Rattle.push_model.specs.Server.{Server, Reacted, Lent, hears_up, hears_search, hears_on, filled, said_on, breaks_now, left_by, leaves_with, framed_by, framed, outlet_of, lends_by, frame_lent, lent_by, taken_by, closed_on, lets_go_on, remuxed, unreplied, unanswered, object_psm}
use Rattle.push_laws.specs.Occurrences.{Occurrence, Came, Went, Closed, LinkDown, Asked, Answering, done, all_done}
use Rattle.push_laws.specs.Readings.{closes, since, came_on, packets_over}
use Rattle.push_laws.specs.Faults.{faults_of}
use Rattle.push_laws.specs.Answers.{Replied, requests, says_success, IsAnswered, said, responses, went_on}
use Rattle.push_laws.specs.Premises.{IsHeard, AllGranted, MayCome, AllMayCome, new_packets}
use Rattle.push_laws.specs.Laws.{new_over, AnswersComeInTurn}
use Rattle.push_laws.proofs.Sessions.{kept_session}
use Rattle.push_laws.proofs.Readings.{read_more, read_same, read_closed, drop_front, spelled_stored}
use Rattle.push_laws.proofs.Servers.{by_psm}
use Rattle.push_laws.proofs.Codes.{said_to, IsDue, said-due}
use Rattle.push_laws.proofs.Gaining.{unfailed, taken_all, Clear, clear_more, first_holds, clean, clean_reads}

-- ---- the response over L2CAP stays

abbrev response_of : Server → List ℕ
response_of server = server.listener.service.response

over_keeps : (response : List ℕ) (service : Service) → (response_over Rfcomm response service).response ≡ service.response
over_keeps [] service = refl
over_keeps (octet ∷ octets) service = refl

packet_keeps : (packet : List ℕ) (service : Service) (gift : Gift) → (hears_packet Rfcomm packet service gift).service.response ≡ service.response
packet_keeps packet service gift =
    cond_both (is_ignored Rfcomm packet service) _ _ (λ (s : Served). s.service.response ≡ service.response)
    (λ ignored. refl)
    (λ taken. let h = hears Rfcomm packet service.sessions gift in over_keeps h.response (record service { sessions = h.sessions; failed = service.failed || h.short }))

more_keeps : (less : ℕ) (rest : List ℕ) (listener : Listener) (heeded : Heeded) → heeded.listener.service.response ≡ listener.service.response
    → ((l : Listener) (g : Gift) → (hears_stream less rest l g).listener.service.response ≡ l.service.response)
    → (listening.hears_on (λ l g. hears_stream less rest l g) heeded).listener.service.response ≡ listener.service.response
more_keeps less rest listener heeded same more =
    cond_both (stops heeded.listener) _ _ (λ (r : Received). r.listener.service.response ≡ listener.service.response) (λ e. same) (λ e. more heeded.listener heeded.gift ∙ same)

front_keeps : (less : ℕ) (stream : List ℕ) (front : Front) (listener : Listener) (gift : Gift) → ((rest : List ℕ) (l : Listener) (g : Gift) → (hears_stream less rest l g).listener.service.response ≡ l.service.response)
    → (hears_front (λ rest l g. hears_stream less rest l g) stream front listener gift).listener.service.response ≡ listener.service.response
front_keeps less stream (Whole packet rest) listener gift more = more_keeps less rest listener (heeds_carried packet listener gift) (packet_keeps packet listener.service gift) (more rest)
front_keeps less stream Partial listener gift more = refl
front_keeps less stream (Broken refusal) listener gift more = packet_keeps _ listener.service gift

stream_keeps : (steps : ℕ) (stream : List ℕ) (listener : Listener) (gift : Gift) → (hears_stream steps stream listener gift).listener.service.response ≡ listener.service.response
unfolding hears_stream
stream_keeps zero stream listener gift = refl
stream_keeps (suc steps) stream listener gift = front_keeps steps stream (front_of listener.service.sessions.carried.maximum stream) listener gift (λ rest l g. stream_keeps steps rest l g)

up_keeps : (u : Up) (server : Server) (gift : Gift) → response_of (hears_up u server gift).server ≡ response_of server
up_keeps nothing server gift = refl
up_keeps opened server gift = refl
up_keeps (closed reason) server gift = refl
up_keeps (bytes octets) server gift =
    cond_both server.listener.breaks _ _ (λ (r : Reacted). response_of r.server ≡ response_of server) (λ e. refl) (λ e. stream_keeps (length (server.held ++ octets)) (server.held ++ octets) server.listener gift)

said_keeps : (o : Option Said) (server : Server) → response_of (said_on o server) ≡ response_of server
said_keeps None server = refl
said_keeps (Some said) server = refl

leaves_keep : (o : Option Said) (server : Server) → response_of (leaves_with o server) ≡ response_of server
leaves_keep None server =
    let quiet : Server = said_on None server in
    cond_both (breaks_now quiet) (left_by quiet) quiet (λ (s : Server). response_of s ≡ response_of server) (λ e. said_keeps (next (leaves server.mux)) (record quiet { mux = leaves server.mux })) (λ e. refl)
leaves_keep (Some said) server = refl

filled_keeps : (server : Server) → response_of (filled server) ≡ response_of server
filled_keeps server = cond_both (is_ready server.mux && not (is_empty server.listener.service.answer)) _ _ (λ (s : Server). response_of s ≡ response_of server) (λ e. refl) (λ e. refl)

framed_keeps : (o : Option PlainFrame) (server : Server) → response_of (framed_by o server) ≡ response_of server
framed_keeps None server = leaves_keep (next (filled server).mux) (filled server) ∙ filled_keeps server
framed_keeps (Some frame) server = refl

pub lends_keep : (o : Option Outlet) (server : Server) → response_of (lends_by o server) ≡ response_of server
lends_keep None server =
    let full : Server = framed server in
    cond_both (is_empty server.reply && is_empty server.listener.service.response) (record full { lent = outlet_of full }) (record server { lent = outlet_of server }) (λ (s : Server). response_of s ≡ response_of server)
    (λ e. framed_keeps server.frame server) (λ e. refl)
lends_keep (Some outlet) server = refl

-- ---- what is said to a packet

pub come_granted : (calls : List InboxCall) (answers : List Answer) → faults_of answers ≡ 0 → come_of calls answers ≡ Ok tt
come_granted [] answers e = refl
come_granted (call ∷ calls) [] e = refl
come_granted (call ∷ calls) (Ok done ∷ answers) e = come_granted calls answers e
come_granted (call ∷ calls) (Err fault ∷ answers) e = absurd (omega (arith, e))

pub response_is : (t : Transport) (packet : List ℕ) (sessions : Sessions) (gift : Gift) → (is_naming t packet sessions ≡ true → has_object (session_of (other_of t) sessions) ≡ false)
    → (hears t packet sessions gift).response ≡ said_to (session_of t sessions) packet gift.answers
response_is t packet sessions gift alone =
    cond_both (is_naming t packet sessions) _ _ (λ (h : model.Heard). h.response ≡ said_to (session_of t sessions) packet gift.answers)
    (λ named.
    let calls : List InboxCall = aborts (progress_in (session_of (other_of t) sessions).course) in
    let none : calls ≡ [] = no_aborts (progress_in (session_of (other_of t) sessions).course) (alone named) in
    let parted = lets_go (other_of t) sessions gift in
    let calm : parted.short ≡ false = ap (λ (cs : List InboxCall). model.is_short (come_of cs gift.answers)) none in
    ap (λ (h : model.Heard). h.response) (cond-false parted.short _ (answers_to t packet parted.sessions parted.gift) calm)
    ∙ ap (λ (s : Serving). said_to s packet parted.gift.answers) (kept_session t _ sessions)
    ∙ ap (λ (cs : List InboxCall). said_to (session_of t sessions) packet (calls_left cs gift.answers)) none)
    (λ unnamed. refl)

-- ---- one request more

pub record AnswersSoFar (settings : Settings) (past : List Occurrence) (response : List ℕ) : Type 0 where
  pub replied : List Replied
  pub all : requests replied ≡ packets_over L2cap past
  pub means : EachAfter (IsAnswered (own_maximum L2cap settings)) [] replied
  pub in_turn : responses replied ≡ filter_map (went_on object_psm) (since object_psm past) ++ cons_option (said response) []

over_is : (response : List ℕ) (service : Service) → (response_over L2cap response service).response ≡ cond (is_empty response) service.response response
over_is [] service = refl
over_is (octet ∷ octets) service = refl

-- the response that waits behind a request
pub response_behind : (sdu : List ℕ) (service : Service) (gift : Gift) → is_ignored L2cap sdu service ≡ false → (is_naming L2cap sdu service.sessions ≡ true → has_object (session_of Rfcomm service.sessions) ≡ false)
    → (hears_packet L2cap sdu service gift).service.response ≡ cond (is_empty (said_to service.sessions.direct sdu gift.answers)) service.response (said_to service.sessions.direct sdu gift.answers)
response_behind sdu service gift taken alone =
    let h = hears L2cap sdu service.sessions gift in
    ap (λ (s : Served). s.service.response) (cond-false _ _ (after_heard L2cap service h) taken) ∙ over_is h.response (record service { sessions = h.sessions; failed = service.failed || h.short })
    ∙ ap (λ (x : List ℕ). cond (is_empty x) service.response x) (response_is L2cap sdu service.sessions gift alone)

none_waits : (octets : List ℕ) (more : Bool) → (not (is_empty octets) || more) ≡ false → octets ≡ []
none_waits [] more e = refl
none_waits (octet ∷ octets) more e = absurd (let f : true ≡ false = e in cc)

never : true ≡ false → ⊥
never e = cc

not_false : (b : Bool) → not b ≡ false → b ≡ true
not_false true e = refl
not_false false e = absurd (never e)

no_octet : (octet : ℕ) (octets : List ℕ) → octet ∷ octets ≡ [] → ⊥
no_octet octet octets e = cc

-- one response waits at a time
one_waits : (response waits : List ℕ) → ((waits ≡ []) ⊎ (response ≡ [])) → cons_option (said waits) [] ++ cons_option (said response) [] ≡ cons_option (said (cond (is_empty response) waits response)) []
one_waits [] waits either = append-nil (cons_option (said waits) [])
one_waits (octet ∷ octets) waits (inl none) = ap (λ (w : List ℕ). cons_option (said w) [] ++ (octet ∷ octets) ∷ []) none
one_waits (octet ∷ octets) waits (inr none) = absurd (no_octet octet octets none)

free_or_silent : (service : Service) (sdu : List ℕ) (gift : Gift) → faults_of gift.answers ≡ 0 → is_ignored L2cap sdu service ≡ false → (service.response ≡ []) ⊎ (said_to service.sessions.direct sdu gift.answers ≡ [])
free_or_silent service sdu gift spared taken =
    let session : Serving = service.sessions.direct in
    elim (and_cases (has_response service) (not (is_silent session sdu)) taken) [
      | inl none ↦ inl (none_waits service.response (not (is_empty service.answer)) none)
      | inr loud ↦ inr (ap (λ s. octets_said sdu session.maximum s) (said_alike session sdu gift.answers (come_granted (ruling_on session sdu).calls gift.answers spared)) ∙ silence_is_none sdu session.maximum _ (not_false (is_silent session sdu) loud))
    ]

-- what a request stores behind those before it
stored_says : (session : Serving) (packets : List (List ℕ)) (sdu : List ℕ) (answers : List Answer) → come_of (ruling_on session sdu).calls answers ≡ Ok tt
    → progress_in session.course ≡ progress_of (open_headers session.maximum (without_fault packets))
    → length (beyond (spelled_within session.maximum packets) (spelled_within session.maximum (packets ++ sdu ∷ []))) ≡ cond (says_success session.maximum (record { request = sdu; response = said_to session sdu answers })) 1 0
stored_says session packets sdu answers come progress =
    let m : ℕ = session.maximum in
    let gains = success_is_stored session (without_fault packets) sdu answers progress in
    let failed : is_err (come_of (ruling_on session sdu).calls answers) ≡ false = ap is_err come in
    let now : spelled_within m (packets ++ sdu ∷ []) ≡ spelled_within m packets ++ gains.gained =
    sym (spelled_stored m (packets ++ sdu ∷ [])) ∙ ap (stored_by m) (map-append (λ (p : List ℕ). (let h : Heard = (p, false) in h)) packets (sdu ∷ []))
    ∙ ap (λ (b : Bool). stored_by m (without_fault packets ++ (sdu, b) ∷ [])) (sym failed) ∙ gains.stored_is ∙ ap (λ (os : List Object). os ++ gains.gained) (spelled_stored m packets) in
    ap (λ (os : List Object). length (beyond (spelled_within m packets) os)) now ∙ ap length (drop_front (spelled_within m packets) gains.gained) ∙ gains.counted
    ∙ ap (λ (b : Bool). cond b 1 0) (stores_read (packet_in Request m sdu) sdu m (heard_with session sdu answers).saying)

module _ (settings : Settings) (before : List Object) (past : List Occurrence) where
  abbrev maximum : ℕ
  maximum = own_maximum L2cap settings

  same_turn : (one : Occurrence) (response response' : List ℕ) → closes object_psm one ≡ false → came_on object_psm one ≡ None → went_on object_psm one ≡ None → response' ≡ response → AnswersSoFar settings past response → AnswersSoFar settings (past ++ one ∷ []) response'
  same_turn one response response' stays came went same a = record {
    replied = a.replied;
    all = a.all ∙ sym (read_same (came_on object_psm) object_psm past one stays came);
    means = a.means;
    in_turn = a.in_turn ∙ ap (λ (ps : List (List ℕ)). ps ++ cons_option (said response) []) (sym (read_same (went_on object_psm) object_psm past one stays went))
        ∙ ap (λ (r : List ℕ). filter_map (went_on object_psm) (since object_psm (past ++ one ∷ [])) ++ cons_option (said r) []) (sym same);
  }

  closed_turn : (one : Occurrence) (response : List ℕ) → closes object_psm one ≡ true → response ≡ [] → AnswersSoFar settings (past ++ one ∷ []) response
  closed_turn one response closing none = record {
    replied = [];
    all = sym (read_closed (came_on object_psm) object_psm past one closing);
    means = tt;
    in_turn = ap (λ (r : List ℕ). cons_option (said r) []) (sym none) ∙ ap (λ (ps : List (List ℕ)). ps ++ cons_option (said response) []) (sym (read_closed (went_on object_psm) object_psm past one closing));
  }

  came_turn : (sdu : List ℕ) (at : Reacted) → Clear settings before past at → is_ignored L2cap sdu at.server.listener.service ≡ false
      → (is_naming L2cap sdu at.server.listener.service.sessions ≡ true → has_object (session_of Rfcomm at.server.listener.service.sessions) ≡ false) → AnswersSoFar settings past (response_of at.server)
      → AnswersSoFar settings (past ++ Came 0x1001 sdu ∷ []) (hears_packet L2cap sdu at.server.listener.service at.gift).service.response
  came_turn sdu at c taken alone a =
      let service : Service = at.server.listener.service in
      let session : Serving = service.sessions.direct in
      let r : List ℕ = said_to session sdu at.gift.answers in
      let new : Replied = record { request = sdu; response = r } in
      let one : Occurrence = Came 0x1001 sdu in
      let stands = c.holds.upholds.listens.serves.stands in
      let come = come_granted (ruling_on session sdu).calls at.gift.answers c.spared in
      let progress : progress_in session.course ≡ progress_of (open_headers session.maximum (without_fault (packets_over L2cap past))) =
      stands.progress L2cap ∙ ap (λ (hs : List Heard). progress_of (open_headers maximum hs)) (clean_reads settings before past at c.holds L2cap)
      ∙ ap (λ (n : ℕ). progress_of (open_headers n (without_fault (packets_over L2cap past)))) (sym (stands.maxima L2cap)) in
      let means : length (beyond (spelled_within maximum (packets_over L2cap past)) (spelled_within maximum (packets_over L2cap past ++ sdu ∷ []))) ≡ cond (says_success maximum new) 1 0 =
      subst (λ (n : ℕ). length (beyond (spelled_within n (packets_over L2cap past)) (spelled_within n (packets_over L2cap past ++ sdu ∷ []))) ≡ cond (says_success n new) 1 0) (stands.maxima L2cap)
      (stored_says session (packets_over L2cap past) sdu at.gift.answers come progress) in
      let behind : requests (a.replied ++ new ∷ []) ≡ requests a.replied ++ sdu ∷ [] = map-append (λ (x : Replied). x.request) a.replied (new ∷ []) in
      let response_now : (hears_packet L2cap sdu service at.gift).service.response ≡ cond (is_empty r) service.response r = response_behind sdu service at.gift taken alone in
      let went : List (List ℕ) = filter_map (went_on object_psm) (since object_psm past) in
      record {
        replied = a.replied ++ new ∷ [];
        all = behind ∙ ap (λ (ps : List (List ℕ)). ps ++ sdu ∷ []) a.all ∙ sym (read_more (came_on object_psm) object_psm past one refl);
        means = each_after-more (IsAnswered maximum) a.replied new a.means
            (record {
              stored = ap (λ (ps : List (List ℕ)). length (beyond (spelled_within maximum (requests a.replied)) (spelled_within maximum ps))) behind
                  ∙ ap (λ (ps : List (List ℕ)). length (beyond (spelled_within maximum ps) (spelled_within maximum (ps ++ sdu ∷ [])))) a.all ∙ means;
              due = subst (λ (n : ℕ). IsDue n sdu r) (stands.maxima L2cap) (said-due session sdu at.gift.answers come);
            });
        in_turn = filter_map-append (λ (x : Replied). said x.response) a.replied (new ∷ []) ∙ ap (λ (ps : List (List ℕ)). ps ++ cons_option (said r) []) a.in_turn
            ∙ append_assoc went (cons_option (said service.response) []) (cons_option (said r) [])
            ∙ ap (λ (ps : List (List ℕ)). went ++ ps) (one_waits r service.response (free_or_silent service sdu at.gift c.spared taken))
            ∙ ap (λ (x : List ℕ). went ++ cons_option (said x) []) (sym response_now)
            ∙ ap (λ (ps : List (List ℕ)). ps ++ cons_option (said (hears_packet L2cap sdu service at.gift).service.response) []) (sym (read_same (went_on object_psm) object_psm past one refl refl));
      }

  -- ---- an SDU goes

  same_lent : (a b : Lent) → Some a ≡ Some b → a ≡ b
  same_lent a b e = cc

  went_turn : (o : Option Outlet) (psm : ℕ) (sdu : List ℕ) (at : Reacted) (lent : Lent) → lent_by o at.server ≡ Some lent → lent.psm ≡ psm → IsSaid lent.payload sdu → AnswersSoFar settings past (response_of at.server)
      → AnswersSoFar settings (past ++ Went psm sdu ∷ []) (response_of (taken_by o at.server))
  went_turn None psm sdu at lent e p is a = absurd (let f : None ≡ Some lent = e in cc)
  went_turn (Some Records) psm sdu at lent e p is a =
      subst (λ (n : ℕ). AnswersSoFar settings (past ++ Went n sdu ∷ []) (response_of at.server)) (ap (λ (l : Lent). l.psm) (same_lent _ lent e) ∙ p) (same_turn (Went 0x0001 sdu) (response_of at.server) (response_of at.server) refl refl refl refl a)
  went_turn (Some Muxed) psm sdu at lent e p is a =
      subst (λ (n : ℕ). AnswersSoFar settings (past ++ Went n sdu ∷ []) (response_of at.server)) (muxed at.server.frame e ∙ p) (same_turn (Went 0x0003 sdu) (response_of at.server) (response_of at.server) refl refl refl refl a)
    where
      muxed : (frame : Option PlainFrame) → frame_lent frame ≡ Some lent → 0x0003 ≡ lent.psm
      muxed None e = absurd (let f : None ≡ Some lent = e in cc)
      muxed (Some frame) e = ap (λ (l : Lent). l.psm) (same_lent _ lent e)
  went_turn (Some Direct) psm sdu at lent e p is a =
      let same = same_lent (record { psm = 0x1001; payload = Octets (response_of at.server) }) lent e in
      let octets : sdu ≡ response_of at.server = subst (λ (l : Lent). IsSaid l.payload sdu) (sym same) is in
      subst (λ (n : ℕ). AnswersSoFar settings (past ++ Went n sdu ∷ []) []) (ap (λ (l : Lent). l.psm) same ∙ p)
      (record {
        replied = a.replied;
        all = a.all ∙ sym (read_same (came_on object_psm) object_psm past (Went 0x1001 sdu) refl refl);
        means = a.means;
        in_turn = a.in_turn ∙ ap (λ (x : List ℕ). filter_map (went_on object_psm) (since object_psm past) ++ cons_option (said x) []) (sym octets)
            ∙ sym (read_more (went_on object_psm) object_psm past (Went 0x1001 sdu) refl) ∙ sym (append-nil _);
      })

  -- ---- any occurrence

  search_keeps : (sdu : List ℕ) (server : Server) → response_of (hears_search sdu server) ≡ response_of server
  search_keeps sdu server = cond_both (is_empty server.reply) _ _ (λ (s : Server). response_of s ≡ response_of server) (λ e. refl) (λ e. refl)

  sdu_turn : (sdu : List ℕ) (at : Reacted) → Clear settings before past at → AnswersSoFar settings past (response_of at.server) → (psm : ℕ) → MayCome AllGranted (IsHeard settings past at.server.listener.service) settings past at (Came psm sdu)
      → AnswersSoFar settings (past ++ Came psm sdu ∷ []) (response_of (hears_on psm sdu at.server at.gift).server)
  sdu_turn sdu at c a psm =
      by_psm (λ p. MayCome AllGranted (IsHeard settings past at.server.listener.service) settings past at (Came p sdu) → AnswersSoFar settings (past ++ Came p sdu ∷ []) (response_of (hears_on p sdu at.server at.gift).server))
      (λ may. same_turn (Came 0x0001 sdu) (response_of at.server) _ refl refl refl (search_keeps sdu at.server) a)
      (λ may. same_turn (Came 0x0003 sdu) (response_of at.server) _ refl refl refl (up_keeps (up sdu at.server.mux) (record (at.server) { mux = hearing.hears sdu at.server.mux }) at.gift) a)
      (λ may.
      let new : new_packets L2cap past (Came 0x1001 sdu) ≡ sdu ∷ [] = ap (beyond (packets_over L2cap past)) (read_more (came_on object_psm) object_psm past (Came 0x1001 sdu) refl) ∙ drop_front (packets_over L2cap past) (sdu ∷ []) in
      let is = (taken_all settings before past at c.holds L2cap (sdu ∷ []) (subst (AllByRecursion (IsHeard settings past at.server.listener.service L2cap)) new (may.requests.heard L2cap))).0 in
      came_turn sdu at c is.taken is.alone a)
      (λ p x y z may. same_turn (Came p sdu) (response_of at.server) _ refl (cond-false _ _ _ z) refl
      (ap (λ (r : Reacted). response_of r.server) (cond-false _ _ _ x ∙ (cond-false _ _ _ y ∙ cond-false _ _ (let r : Reacted = record { server = at.server; gift = at.gift } in r) z))) a)
      psm

  closing_turn : (at : Reacted) → AnswersSoFar settings past (response_of at.server) → (psm : ℕ) → AnswersSoFar settings (past ++ Closed psm ∷ []) (response_of (closed_on psm at.server at.gift).server)
  closing_turn at a psm =
      by_psm (λ p. AnswersSoFar settings (past ++ Closed p ∷ []) (response_of (closed_on p at.server at.gift).server))
      (same_turn (Closed 0x0001) (response_of at.server) (response_of at.server) refl refl refl refl a)
      (same_turn (Closed 0x0003) (response_of at.server) (response_of at.server) refl refl refl refl a)
      (closed_turn (Closed 0x1001) [] refl refl)
      (λ p x y z. same_turn (Closed p) (response_of at.server) _ z refl refl
      (ap (λ (r : Reacted). response_of r.server) (cond-false _ _ _ x ∙ (cond-false _ _ _ y ∙ cond-false _ _ (let r : Reacted = record { server = at.server; gift = at.gift } in r) z))) a)
      psm

  turn_more : (one : Occurrence) (at : Reacted) → Clear settings before past at → MayCome AllGranted (IsHeard settings past at.server.listener.service) settings past at one → AnswersSoFar settings past (response_of at.server)
      → AnswersSoFar settings (past ++ one ∷ []) (response_of (done one at).server)
  turn_more (Came psm sdu) at c may a = subst (λ (r : Reacted). AnswersSoFar settings (past ++ Came psm sdu ∷ []) (response_of r.server)) (sym (unfailed settings before (clean settings before past) at _ c.holds)) (sdu_turn sdu at c a psm may)
  turn_more (Went psm sdu) at c may a = went_turn at.server.lent psm sdu at may.own.0 may.own.1 may.own.2 may.own.3 a
  turn_more (Closed psm) at c may a = subst (λ (r : Reacted). AnswersSoFar settings (past ++ Closed psm ∷ []) (response_of r.server)) (sym (unfailed settings before (clean settings before past) at _ c.holds)) (closing_turn at a psm)
  turn_more LinkDown at c may a =
      let first : Reacted = lets_go_on L2cap (unanswered at.server) at.gift in
      subst (λ (r : Reacted). AnswersSoFar settings (past ++ LinkDown ∷ []) (response_of r.server)) (sym (unfailed settings before (clean settings before past) at _ c.holds))
      (closed_turn LinkDown _ refl (cond_both first.server.listener.service.failed first (lets_go_on Rfcomm (remuxed (unreplied first.server)) first.gift) (λ (r : Reacted). response_of r.server ≡ []) (λ e. refl) (λ e. refl)))
  turn_more Asked at c may a = same_turn Asked (response_of at.server) _ refl refl refl (lends_keep at.server.lent at.server) a
  turn_more (Answering answers) at c may a = same_turn (Answering answers) (response_of at.server) (response_of at.server) refl refl refl refl a

turns_all : (settings : Settings) (before : List Object) (occurrences past : List Occurrence) (at : Reacted) → Clear settings before past at → AllMayCome settings past at occurrences → AnswersSoFar settings past (response_of at.server)
    → AnswersSoFar settings (past ++ occurrences) (response_of (all_done occurrences at).server)
turns_all settings before [] past at c all a = subst (λ (os : List Occurrence). AnswersSoFar settings os (response_of at.server)) (sym (append-nil past)) a
turns_all settings before (one ∷ rest) past at c all a =
    subst (λ (os : List Occurrence). AnswersSoFar settings os (response_of (all_done rest (done one at)).server)) (append_assoc past (one ∷ []) rest)
    (turns_all settings before rest (past ++ one ∷ []) (done one at) (clear_more settings before past one at c all.0) all.1 (turn_more settings before past one at c all.0 a))

pub answers-come_in_turn : AnswersComeInTurn
answers-come_in_turn settings before occurrences all =
    let a = turns_all settings before occurrences [] (new_over settings before) (record { holds = first_holds settings before; spared = refl; same = refl }) all (record { replied = []; all = refl; means = tt; in_turn = refl }) in
    record { replied = a.replied; all = a.all; means = a.means; in_turn = a.in_turn }
