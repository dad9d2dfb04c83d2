-- Push after push over RFCOMM, whatever becomes of the pushes: one request is under way at most, so none is ignored.
use Rattle.std.proofs.Common.{inl, inr, Bool, true, false, ◌||◌, ◌&&◌, ◌≡◌, ◌==◌, ◌≤◌, ◌<◌, ◌^◌, ℕ, List, [], ◌∷◌, ◌++◌, length, Some, None, refl, sym, ap, subst, ◌∙◌, arith, append-nil, append_assoc, if◌then◌else◌}
use Rattle.std.specs.Prelude.{not, nat_lt}
use Rattle.std.specs.List.{AllByRecursion, flat_map}
use Rattle.std.proofs.lemmas.Bool.{eqb-true, ne_eqb}
use Rattle.link_talk.specs.bt_base.specs.declared.settings.Settings.{Settings}
use Rattle.link_talk.specs.bt_base.specs.declared.settings.Transport.{Transport}
use Rattle.link_talk.specs.bt_base.specs.declared.settings.Transport.TheVariants.{L2cap, Rfcomm}
use Rattle.link_talk.specs.bt_base.specs.Objects.{Object as Stored}
use Rattle.push_model.specs.obex_headers.specs.declared.packet.Phase.TheVariants.{Request}
use Rattle.push_model.specs.obex_headers.specs.Reading.{packet_in}
use Rattle.push_model.specs.obex_session.specs.Asking.{Asking}
use Rattle.push_model.specs.obex_headers.specs.Runs.{names}
use Rattle.push_model.specs.obex_session.specs.InboxCalls.{Answer}
use Rattle.push_model.specs.obex_session.specs.Laws.{without_fault}
use Rattle.push_model.specs.obex_session.specs.Past.{open_headers}
use Rattle.push_model.specs.rfcomm_frames.specs.declared.connection.Role.TheVariants.{Initiator, Responder}
use Rattle.push_model.specs.rfcomm_frames.specs.FrameReading.{frame_answer, is_empty}
use Rattle.push_model.specs.rfcomm_frames.specs.ObexPackets.{obex_packets}
use Rattle.push_model.specs.rfcomm_frames.specs.Multiplexing.{Passed}
use Rattle.push_model.specs.rfcomm_frames.specs.UserChannel.{user_octets}
use Rattle.rfcomm_laws.specs.Pairs.{IsFront}
use Rattle.push_model.specs.rfcomm_model.specs.Hearing as hearing
use Rattle.push_model.specs.rfcomm_model.specs.Hearing.{up}
use Rattle.push_model.specs.rfcomm_model.specs.Machine.{Mux}
use Rattle.push_model.specs.rfcomm_model.specs.Sides.{handed}
use Rattle.push_model.specs.obex_session.specs.Views.{is_silent}
use Rattle.link_talk.specs.push_terms.specs.declared.outcome.Outcome.TheVariants as outcomes
use Rattle.push_model.specs.Client.{Client, own_maximum}
use Rattle.push_model.specs.Sessions.{session_of}
use Rattle.push_model.specs.Laws as deeds
use Rattle.push_model.specs.Laws.{Deed}
use Rattle.push_model.specs.Listening.{Listener, has_bad_length, heeds_carried}
use Rattle.push_model.specs.Service.{Service, is_ignored}
use Rattle.push_model.specs.Server.{Server, Reacted, object_psm, rfcomm_psm}
use Rattle.push_laws.specs.Carriage.{Carriage, no_carriage, come_by, carriage_after, AreCarried, ComesOpen, StayCarried, ServesMuxed, FrameFits, StaysThere, IsPushedMuxed}
use Rattle.push_laws.specs.Dialogs.{NoPacket, IsCarried, ServesCarried, AllServeCarried, CarriedAreHeard, CarriedAreTaken}
use Rattle.push_laws.specs.Laws.{new_over}
use Rattle.push_laws.specs.OneName.{HasOneName, IsNamedOnce, AllNamedOnce}
use Rattle.push_laws.specs.Occurrences.{Occurrence, Came, Went, Closed, LinkDown, Asked, Answering, done}
use Rattle.push_laws.specs.Opening.{targets_heard}
use Rattle.push_laws.specs.Parties.{Move, OfServer, OfClient, server_side, client_side, sdu_if, Push, begun_of, ended_with, over_pushes, of_client, IsFrontOf}
use Rattle.push_laws.specs.Premises.{may_overtake, AllGranted, NoneShort, IsHeard, IsTaken, RequestsCome, MayCome, AllCome, AllMayCome, AllMayFail, new_packets, is_under_way}
use Rattle.push_laws.specs.Readings.{closes, came_on, passed_by, octets_heard, packets_over}
use Rattle.push_laws.specs.Sending.{AllAnswer, MayPush, packets_by}
use Rattle.link_talk.specs.ObjectsHeard.{spelled_within}
use Rattle.push_laws.proofs.Spelt.{Spells, AllSpell}
use Rattle.push_laws.proofs.Attending.{Holding, holding_of, sound_more, less_before, up_less, up_whole, same_done, came_octets, same_octets, none_new, none_closed, new_less, new_whole, held_is}
use Rattle.push_laws.proofs.Calm.{IsCalm, first_calm, calm_more, is_orderly, none_direct, none_muxed, silent_stream}
use Rattle.push_laws.proofs.Carriage.{Linked}
use Rattle.push_laws.proofs.Couples.{Sums, fronts, none_waits, server_orderly, server_overtakes}
use Rattle.push_laws.proofs.Driving.{joined}
use Rattle.push_laws.proofs.Early.{IsEarly}
use Rattle.push_laws.proofs.Exchanging.{Exchange, Coming, Less, Whole, IsLess, comes}
use Rattle.push_laws.proofs.FramesFit.{no_octets, none_comes, up_of, Stands as Standing, Stays, Lacks, Ends, Behind, on_goes}
use Rattle.push_laws.proofs.Gaining.{first_holds, Clear, clear_more, clean, clean_same}
use Rattle.push_laws.proofs.Late.{Anchor}
use Rattle.push_laws.proofs.Marking.{seven_of}
use Rattle.push_laws.proofs.Muxed.{Marks, marks_more}
use Rattle.push_laws.proofs.Naming.{no_other, stays_there}
use Rattle.push_laws.proofs.Numbers.{K, numbers_stay}
use Rattle.push_laws.proofs.Placing.{Fit, fit_more, most_of, task_of, Pushes, no_cause, Place, Ahead, Within, Beyond, phase_of, deed_place, once_at, is_over, over_none, front_at, packets_grow}
use Rattle.push_laws.proofs.Pushing.{Task, Fresh}
use Rattle.push_laws.proofs.Readings.{read_same, read_closed}
use Rattle.push_laws.proofs.Replies.{packet_answer}
use Rattle.push_laws.proofs.Requesting.{IsRequest, request_length}
use Rattle.push_laws.proofs.Speaking.{Dialog}
use Rattle.push_laws.proofs.Stating.{IsAnswer}
use Rattle.push_laws.proofs.Streams.{no_packets}
use Rattle.push_laws.proofs.Throughout.{Numbers, numbers_of, none_behind, none_came, none_goes, down_fits, IsDown, Rests, Fails, is_down}
use Rattle.push_laws.proofs.Turns.{first_clear}
use Rattle.push_laws.proofs.Undirected.{IsUndirected, undirected_more, first_undirected, breaks_stay}
use Rattle.push_laws.proofs.Untouched.{IsUntouched}

-- ---- nothing comes over L2CAP

record Alone (past : List Occurrence) (at : Server) : Type 0 where
  undirected : IsUndirected at
  none : packets_over L2cap past ≡ []

no_direct : (one : Occurrence) → NoPacket one → came_on object_psm one ≡ None
no_direct (Came psm sdu) away = ap (λ (b : Bool). if b then Some sdu else None) (ne_eqb psm object_psm away)
no_direct (Went psm sdu) away = refl
no_direct (Closed psm) away = refl
no_direct LinkDown away = refl
no_direct Asked away = refl
no_direct (Answering answers) away = refl

alone_more : (past : List Occurrence) (one : Occurrence) (at : Reacted) → NoPacket one → Alone past at.server → Alone (past ++ one ∷ []) (done one at).server
alone_more past one at away a = record { undirected = undirected_more one at away a.undirected; none = by (closes object_psm one) refl }
  where
    by : (closing : Bool) → closes object_psm one ≡ closing → packets_over L2cap (past ++ one ∷ []) ≡ []
    by true is = read_closed (came_on object_psm) object_psm past one is
    by false is = read_same (came_on object_psm) object_psm past one is (no_direct one away) ∙ a.none

-- ---- what may come

-- What stays of a server whose inbox answers so, what is asked of its requests, and that none is ignored where no response waits.
module _ (Are : List Answer → Type 0) (Comes : List Occurrence → Service → Transport → List ℕ → Type 0) (settings : Settings) (Kept : List Occurrence → Reacted → Type 0)
    (holding : (past : List Occurrence) (at : Reacted) → Kept past at → Holding settings past at)
    (more : (past : List Occurrence) (one : Occurrence) (at : Reacted) → Kept past at → MayCome Are (Comes past at.server.listener.service) settings past at one → Kept (past ++ one ∷ []) (done one at))
    (heard : (past : List Occurrence) (at : Reacted) (packet : List ℕ) → Alone past at.server → at.server.listener.service.answer ≡ [] → Comes past at.server.listener.service Rfcomm packet)
    (seven : 7 ≤ most_of settings) (small : most_of settings < 2 ^ 16) where
  abbrev May : List Occurrence → Reacted → Occurrence → Type 0
  May past at one = MayCome Are (Comes past at.server.listener.service) settings past at one

  abbrev IsBehind : Reacted → Occurrence → Type 0
  IsBehind at one = (sdu : List ℕ) → one ≡ Came rfcomm_psm sdu → may_overtake (frame_answer sdu) at.server.frame ≡ true

  may : (past : List Occurrence) (at : Reacted) (one : Occurrence) → ServesCarried Are at one → FrameFits at one → IsBehind at one → RequestsCome (Comes past at.server.listener.service) settings past one → May past at one
  may past at one serves fits behind requests = record {
    own = serves.own;
    answers = serves.answers;
    requests = requests;
    frame = λ sdu is. record { room = fits.room sdu is; behind = behind sdu is };
    orderly = fits.orderly;
  }

  none_behind_it : (at : Reacted) (one : Occurrence) → come_by one ≡ [] → IsBehind at one
  none_behind_it at one none = λ sdu is. absurd (no_octets sdu (sym (ap come_by is) ∙ none))

  closing_behind : (at : Reacted) (one : Occurrence) → closes rfcomm_psm one ≡ true → IsBehind at one
  closing_behind at (Came psm sdu) closing = absurd (let f : false ≡ true = closing in cc)
  closing_behind at (Went psm sdu) closing = absurd (let f : false ≡ true = closing in cc)
  closing_behind at (Closed psm) closing = none_behind_it at (Closed psm) refl
  closing_behind at LinkDown closing = none_behind_it at LinkDown refl
  closing_behind at Asked closing = none_behind_it at Asked refl
  closing_behind at (Answering answers) closing = none_behind_it at (Answering answers) refl

  over_direct : (past : List Occurrence) (at : Reacted) (one : Occurrence) → NoPacket one → AllByRecursion (Comes past at.server.listener.service L2cap) (new_packets L2cap past one)
  over_direct past at one away = subst (AllByRecursion (Comes past at.server.listener.service L2cap)) (sym (none_direct past one (no_direct one away))) tt

  none_come : (past : List Occurrence) (at : Reacted) (one : Occurrence) → NoPacket one → new_packets Rfcomm past one ≡ [] → RequestsCome (Comes past at.server.listener.service) settings past one
  none_come past at one away none = record {
    single = subst (λ (ps : List (List ℕ)). length ps ≤ 1) (sym none) (omega arith);
    heard = λ t. by t;
    lengths = subst (AllByRecursion (λ packet. has_bad_length (packet_in Request (most_of settings) packet) ≡ false)) (sym none) tt;
  }
    where
      by : (t : Transport) → AllByRecursion (Comes past at.server.listener.service t) (new_packets t past one)
      by L2cap = over_direct past at one away
      by Rfcomm = subst (AllByRecursion (Comes past at.server.listener.service Rfcomm)) (sym none) tt

  one_comes : (past : List Occurrence) (at : Reacted) (one : Occurrence) (packet : List ℕ) → NoPacket one → new_packets Rfcomm past one ≡ packet ∷ [] → Comes past at.server.listener.service Rfcomm packet → has_bad_length (packet_in Request (most_of settings) packet) ≡ false
      → RequestsCome (Comes past at.server.listener.service) settings past one
  one_comes past at one packet away new is right = record {
    single = subst (λ (ps : List (List ℕ)). length ps ≤ 1) (sym new) (omega arith);
    heard = λ t. by t;
    lengths = subst (AllByRecursion (λ packet. has_bad_length (packet_in Request (most_of settings) packet) ≡ false)) (sym new) (right, tt);
  }
    where
      by : (t : Transport) → AllByRecursion (Comes past at.server.listener.service t) (new_packets t past one)
      by L2cap = over_direct past at one away
      by Rfcomm = subst (AllByRecursion (Comes past at.server.listener.service Rfcomm)) (sym new) (is, tt)

  muxedly : (past : List Occurrence) (at : Reacted) (one : Occurrence) → Kept past at → ServesCarried Are at one → ServesMuxed at one
  muxedly past at one kept serves = record { own = serves.own; works = (holding past at kept).works }

  -- ---- one occurrence

  -- behind it no more comes, or packets behind those that came
  abbrev Heard : (was is : Bool) (past : List Occurrence) (one : Occurrence) → Type 0
  Heard false false past one = (new : List (List ℕ)) × (packets_over Rfcomm (past ++ one ∷ []) ≡ packets_over Rfcomm past ++ new)
  Heard false true past one = Unit {0}
  Heard true false past one = ⊥
  Heard true true past one = Unit {0}

  record Next (mux : Mux) (session : Asking) (sent : List (List ℕ)) (past : List Occurrence) (client : Client) (c : Carriage) (at : Reacted) (one : Occurrence) (was : Bool) : Type 0 where
    comes : May past at one
    kept : Kept (past ++ one ∷ []) (done one at)
    place : Place settings mux session sent (past ++ one ∷ []) client (carriage_after (OfServer one) client c) (done one at).server
    behind_it : Heard was (is_over place) past one

  module _ (mux : Mux) (session : Asking) (sent : List (List ℕ)) (past : List Occurrence) (client : Client) (c : Carriage) (at : Reacted) (one : Occurrence) (kept : Kept past at) (alone : Alone past at.server) (serves : ServesCarried Are at one)
      (are : AreCarried (carriage_after (OfServer one) client c)) where
    next_by : (was : Bool) → May past at one → (place : Place settings mux session sent (past ++ one ∷ []) client (carriage_after (OfServer one) client c) (done one at).server) → Heard was (is_over place) past one → Next mux session sent past client c at one was
    next_by was comes place heard = record { comes = comes; kept = more past one at kept comes; place = place; behind_it = heard }

    -- where none came
    none_more : (xs ys : List (List ℕ)) → xs ≡ [] → ys ≡ [] → (new : List (List ℕ)) × (ys ≡ xs ++ new)
    none_more xs ys none later = ([], later ∙ sym (ap (λ (ps : List (List ℕ)). ps ++ []) none))

    calm_fits : come_by one ≡ [] → IsCalm (past ++ one ∷ []) (done one at).server → FrameFits at one
    calm_fits none later = record { room = λ sdu is. absurd (no_octets sdu (sym (ap come_by is) ∙ none)); orderly = is_orderly (done one at).server.mux later.fresh }

    calm_may : come_by one ≡ [] → IsCalm (past ++ one ∷ []) (done one at).server → May past at one
    calm_may none later = may past at one serves (calm_fits none later) (none_behind_it at one none) (none_come past at one serves.carried (none_muxed past one later.quiet))

    -- ahead of the channel, and behind its end
    ahead : IsEarly mux Rfcomm client → IsUntouched session client → sent ≡ [] → c.sent ≡ [] → c.come ≡ [] → c.gone ≡ [] → IsCalm past at.server → Next mux session sent past client c at one false
    ahead early untouched unsent frames come gone calm =
        let none = none_behind c.come (come_by one) (none_came (carriage_after (OfServer one) client c) are frames) in
        let later = calm_more past one at (none_comes one none) serves.own calm in
        next_by false (calm_may none later)
        (Ahead early untouched unsent frames (ap (λ (xs : List (List ℕ)). c.come ++ xs) none ∙ (append-nil c.come ∙ come)) (ap (λ (xs : List (List ℕ)). c.gone ++ xs) (none_goes one at serves.own calm.no_frame) ∙ (append-nil c.gone ∙ gone)) later)
        (none_more (packets_over Rfcomm past) (packets_over Rfcomm (past ++ one ∷ [])) (silent_stream past calm.quiet) (silent_stream (past ++ one ∷ []) later.quiet))

    beyond : (anchor : Anchor) → anchor.transport ≡ Rfcomm → anchor.psm ≡ rfcomm_psm → ComesOpen (OfServer one) c → c.closed ≡ true → IsCalm past at.server → Next mux session sent past client c at one true
    beyond anchor muxed there opened closed calm =
        let none = opened closed in
        let later = calm_more past one at (none_comes one none) serves.own calm in
        next_by true (calm_may none later) (Beyond anchor muxed there (ap (λ (b : Bool). b || closes rfcomm_psm one) closed) later) tt

  -- ---- where both are on the channel

  no_up : (one : Occurrence) (server : Server) → come_by one ≡ [] → up_of one server ≡ []
  no_up (Came psm sdu) server none = by (psm == rfcomm_psm) none
    where
      by : (mine : Bool) → sdu_if mine sdu ≡ [] → (if mine then handed (up sdu server.mux) else []) ≡ []
      by true e = absurd cc
      by false e = refl
  no_up (Went psm sdu) server none = refl
  no_up (Closed psm) server none = refl
  no_up LinkDown server none = refl
  no_up Asked server none = refl
  no_up (Answering answers) server none = refl

  other_sums : (sums : Sums) (packets : List (List ℕ)) (waits : Bool) (held got replied : List ℕ) → got ≡ sums.got → replied ≡ sums.replied → Exchange (most_of settings) sums packets waits held → Exchange (most_of settings) (record sums { got = got; replied = replied }) packets waits held
  other_sums sums packets waits held got replied g r x =
      subst (λ (xs : List ℕ). Exchange (most_of settings) (record sums { got = xs; replied = replied }) packets waits held) (sym g) (subst (λ (xs : List ℕ). Exchange (most_of settings) (record sums { replied = xs }) packets waits held) (sym r) x)

  module _ (mux : Mux) (session : Asking) (sent : List (List ℕ)) (anchor : Anchor) (muxed : anchor.transport ≡ Rfcomm) (there : anchor.psm ≡ rfcomm_psm) (past : List Occurrence) (client : Client) (c : Carriage) (at : Reacted) (kept : Kept past at) (alone : Alone past at.server) (sums : Sums)
      (l : Linked anchor client c at.server sums) (d : Dialog (most_of settings) past client at.server sums) (asked : sums.asked ≡ joined sent) (h : Holding settings past at) where
    -- no frame comes
    quietly : (one : Occurrence) → ServesCarried Are at one → FrameFits at one → closes rfcomm_psm one ≡ false → come_by one ≡ [] → Standing anchor client c at sums one → Next mux session sent past client c at one false
    quietly one serves fits on none s =
        let same = same_octets settings past at h one on none serves.own (server_orderly client.mux c.sent c.come l.unheard at.server.mux at.server.frame l.rest at.server.listener.service.answer (record sums { breaks = at.server.listener.breaks }) l.coupled) in
        let got : s.got ≡ sums.got = s.got_is ∙ (ap (λ (xs : List ℕ). sums.got ++ xs) (no_up one at.server none) ∙ append-nil sums.got) in
        let comes = may past at one serves fits (none_behind_it at one none) (none_come past at one serves.carried (none_new past one same)) in
        record {
          comes = comes;
          kept = more past one at kept comes;
          place = Within anchor muxed there (record sums { got = s.got; replied = s.replied }) s.linked (record {
            packets = d.packets;
            sound = d.sound;
            waits = d.waits;
            held = d.held;
            exchange = other_sums sums d.packets d.waits d.held s.got s.replied got (s.replied_is.0 none) d.exchange;
            waits_is = d.waits_is;
            held_is = d.held_is;
            quiet = d.quiet;
            got_is = same ∙ d.got_is ∙ sym got;
            unbroken = breaks_stay false one at serves.carried on none d.unbroken;
            bounded = d.bounded;
          })
              asked;
          behind_it = ([], ap obex_packets same ∙ sym (append-nil (packets_over Rfcomm past)));
        }

    -- a frame comes
    module _ (sdu : List ℕ) (serves : ServesCarried Are at (Came rfcomm_psm sdu)) (fits : FrameFits at (Came rfcomm_psm sdu)) (s : Standing anchor client c at sums (Came rfcomm_psm sdu)) (are : AreCarried (carriage_after (OfServer (Came rfcomm_psm sdu)) client c)) where
      abbrev ys : List ℕ
      ys = handed (up sdu at.server.mux)

      abbrev server : Server
      server = record (at.server) { mux = hearing.hears sdu at.server.mux }

      front : IsFront s.got sums.asked
      front =
          (fronts client.mux c.sent (c.come ++ sdu ∷ []) s.linked.unheard (done (Came rfcomm_psm sdu) at).server.mux (done (Came rfcomm_psm sdu) at).server.frame s.linked.rest (done (Came rfcomm_psm sdu) at).server.listener.service.answer
          (record sums { got = s.got; replied = s.replied; breaks = (done (Came rfcomm_psm sdu) at).server.listener.breaks }) s.linked.coupled).0

      front_is : sums.asked ≡ (sums.got ++ ys) ++ front.0
      front_is = front.1 ∙ ap (λ (xs : List ℕ). xs ++ front.0) s.got_is

      overtakes : may_overtake (frame_answer sdu) at.server.frame ≡ true
      overtakes = server_overtakes client.mux c.sent c.come l.unheard at.server.mux at.server.frame l.rest at.server.listener.service.answer (record sums { breaks = at.server.listener.breaks }) sdu are.front are.behind are.read are.forth d.unbroken l.coupled

      same_sdu : (other : List ℕ) → Came rfcomm_psm sdu ≡ Came rfcomm_psm other → sdu ≡ other
      same_sdu other is = cc

      behinds : IsBehind at (Came rfcomm_psm sdu)
      behinds other is = subst (λ (x : List ℕ). may_overtake (frame_answer x) at.server.frame ≡ true) (same_sdu other is) overtakes

      heard_now : octets_heard (past ++ Came rfcomm_psm sdu ∷ []) ≡ octets_heard past ++ ys
      heard_now = came_octets settings past at h sdu (fits.room sdu refl) overtakes fits.orderly

      got_now : octets_heard (past ++ Came rfcomm_psm sdu ∷ []) ≡ s.got
      got_now = heard_now ∙ ap (λ (xs : List ℕ). xs ++ ys) d.got_is ∙ sym s.got_is

      grown : (new : List (List ℕ)) × (packets_over Rfcomm (past ++ Came rfcomm_psm sdu ∷ []) ≡ packets_over Rfcomm past ++ new)
      grown = let grows = packets_grow (octets_heard past) ys in (grows.0, ap obex_packets heard_now ∙ grows.1)

      by : Coming (most_of settings) sums d.packets d.waits d.held ys → Next mux session sent past client c at (Came rfcomm_psm sdu) false
      by (Less left got less x) =
          let whole : octets_heard past ≡ joined d.packets ++ left = d.got_is ∙ got in
          let holds : at.server.held ≡ left = held_is (most_of settings) past sdu d.packets d.sound left ys whole heard_now (less_before (most_of settings) left ys less) at.server.held (h.held d.unbroken) in
          let same : (done (Came rfcomm_psm sdu) at).server.listener ≡ at.server.listener =
          ap (λ (r : Reacted). r.server.listener) (same_done settings past at h sdu)
          ∙ up_less (most_of settings) server at.gift d.unbroken h.maximum (up sdu at.server.mux) (subst (λ (xs : List ℕ). IsLess (most_of settings) (xs ++ ys)) (sym holds) less) in
          let comes = may past at (Came rfcomm_psm sdu) serves fits behinds (none_come past at (Came rfcomm_psm sdu) serves.carried (new_less (most_of settings) past sdu d.packets d.sound left ys whole heard_now less)) in
          record {
            comes = comes;
            kept = more past (Came rfcomm_psm sdu) at kept comes;
            place = Within anchor muxed there (record sums { got = s.got; replied = s.replied }) s.linked (record {
              packets = d.packets;
              sound = d.sound;
              waits = d.waits;
              held = d.held;
              exchange = subst (λ (xs : List ℕ). Exchange (most_of settings) (record sums { got = xs; replied = s.replied }) d.packets d.waits d.held) (sym s.got_is)
                  (subst (λ (xs : List ℕ). Exchange (most_of settings) (record sums { got = sums.got ++ ys; replied = xs }) d.packets d.waits d.held) (sym (s.replied_is.1 (ap (λ (x : Listener). x.service.answer) same))) x);
              waits_is = d.waits_is;
              held_is = d.held_is;
              quiet = d.quiet;
              got_is = got_now;
              unbroken = ap (λ (x : Listener). x.breaks) same ∙ d.unbroken;
              bounded = d.bounded;
            })
                asked;
            behind_it = grown;
          }
      by (Whole left got some request told next) =
          let most : ℕ = most_of settings in
          let whole : octets_heard past ≡ joined d.packets ++ left = d.got_is ∙ got in
          let holds : at.server.held ≡ left = held_is most past sdu d.packets d.sound left ys whole heard_now (inr (ys, some, request)) at.server.held (h.held d.unbroken) in
          let free : at.server.listener.service.answer ≡ [] = none_waits client.mux c.sent c.come l.unheard at.server.mux at.server.frame l.rest at.server.listener.service.answer (record sums { breaks = at.server.listener.breaks }) l.coupled told in
          let heeded : (done (Came rfcomm_psm sdu) at).server.listener ≡ (heeds_carried (at.server.held ++ ys) at.server.listener at.gift).listener =
          ap (λ (r : Reacted). r.server.listener) (same_done settings past at h sdu)
          ∙ up_whole most server at.gift d.unbroken h.maximum (up sdu at.server.mux) some (subst (λ (xs : List ℕ). IsRequest most (xs ++ ys)) (sym holds) request) in
          let now : (done (Came rfcomm_psm sdu) at).server.listener ≡ (heeds_carried (left ++ ys) at.server.listener at.gift).listener = heeded ∙ ap (λ (xs : List ℕ). (heeds_carried (xs ++ ys) at.server.listener at.gift).listener) holds in
          let right = request_length most (left ++ ys) request in
          let answering : IsAnswer most (heeds_carried (left ++ ys) at.server.listener at.gift).listener.service.answer =
          subst (λ (m : ℕ). IsAnswer m (heeds_carried (left ++ ys) at.server.listener at.gift).listener.service.answer) h.maximum
          (packet_answer (left ++ ys) at.server.listener.service at.gift (subst (λ (m : ℕ). m < 2 ^ 16) (sym h.maximum) small) free) in
          let answered : IsAnswer most (done (Came rfcomm_psm sdu) at).server.listener.service.answer = subst (λ (x : Listener). IsAnswer most x.service.answer) (sym now) answering in
          let comes = may past at (Came rfcomm_psm sdu) serves fits behinds
          (one_comes past at (Came rfcomm_psm sdu) (left ++ ys) serves.carried (new_whole most past sdu d.packets d.sound left ys whole heard_now some request) (heard past at (left ++ ys) alone free) right) in
          let replied : s.replied ≡ sums.replied ++ (done (Came rfcomm_psm sdu) at).server.listener.service.answer = elim (s.replied_is.2 free) [ inl none ↦ absurd (no_octets sdu none) | inr is ↦ is ] in
          record {
            comes = comes;
            kept = more past (Came rfcomm_psm sdu) at kept comes;
            place = Within anchor muxed there (record sums { got = s.got; replied = s.replied }) s.linked (record {
              packets = d.packets ++ (left ++ ys) ∷ [];
              sound = sound_more most d.packets (left ++ ys) d.sound request;
              waits = d.waits;
              held = d.held;
              exchange = subst (λ (xs : List ℕ). Exchange most (record sums { got = xs; replied = s.replied }) (d.packets ++ (left ++ ys) ∷ []) d.waits d.held) (sym s.got_is)
                  (subst (λ (xs : List ℕ). Exchange most (record sums { got = sums.got ++ ys; replied = xs }) (d.packets ++ (left ++ ys) ∷ []) d.waits d.held) (sym replied) (next (done (Came rfcomm_psm sdu) at).server.listener.service.answer answered));
              waits_is = d.waits_is;
              held_is = d.held_is;
              quiet = d.quiet;
              got_is = got_now;
              unbroken = ap (λ (x : Listener). x.breaks) now ∙ ap (λ (m : ℕ). has_bad_length (packet_in Request m (left ++ ys))) h.maximum ∙ right;
              bounded = d.bounded;
            })
                asked;
            behind_it = grown;
          }

      framed : Next mux session sent past client c at (Came rfcomm_psm sdu) false
      framed = by (comes (most_of settings) sums d.packets d.waits d.held ys (front.0, front_is) d.exchange)

    standing : (one : Occurrence) → ServesCarried Are at one → FrameFits at one → AreCarried (carriage_after (OfServer one) client c) → closes rfcomm_psm one ≡ false → Standing anchor client c at sums one → Next mux session sent past client c at one false
    standing (Came psm sdu) serves fits are on s = by (psm == rfcomm_psm) refl
      where
        by : (mine : Bool) → (psm == rfcomm_psm) ≡ mine → Next mux session sent past client c at (Came psm sdu) false
        by true is =
            let same = eqb-true psm rfcomm_psm is in
            subst (λ (n : ℕ). Next mux session sent past client c at (Came n sdu) false) (sym same)
            (framed sdu (subst (λ (n : ℕ). ServesCarried Are at (Came n sdu)) same serves) (subst (λ (n : ℕ). FrameFits at (Came n sdu)) same fits) (subst (λ (n : ℕ). Standing anchor client c at sums (Came n sdu)) same s) (subst (λ (n : ℕ). AreCarried (carriage_after (OfServer (Came n sdu)) client c)) same are))
        by false is = quietly (Came psm sdu) serves fits on (ap (λ (b : Bool). sdu_if b sdu) is) s
    standing (Went psm sdu) serves fits are on s = quietly (Went psm sdu) serves fits on refl s
    standing (Closed psm) serves fits are on s = quietly (Closed psm) serves fits on refl s
    standing LinkDown serves fits are on s = quietly LinkDown serves fits on refl s
    standing Asked serves fits are on s = quietly Asked serves fits on refl s
    standing (Answering answers) serves fits are on s = quietly (Answering answers) serves fits on refl s

    behind : (one : Occurrence) → ServesCarried Are at one → FrameFits at one → AreCarried (carriage_after (OfServer one) client c) → Behind anchor past client c at sums one → Next mux session sent past client c at one false
    behind one serves fits are (Stays on s) = standing one serves fits are on s
    behind one serves fits are (Lacks closing failed linked) =
        let comes = may past at one serves fits (closing_behind at one closing) (none_come past at one serves.carried (none_closed past one closing)) in
        let kept' = more past one at kept comes in
        absurd (let never : true ≡ false = sym failed ∙ (holding (past ++ one ∷ []) (done one at) kept').works in cc)
    behind one serves fits are (Ends none closed calm) =
        let comes = may past at one serves fits (none_behind_it at one none) (none_come past at one serves.carried (none_muxed past one calm.quiet)) in
        record { comes = comes; kept = more past one at kept comes; place = Beyond anchor muxed there closed calm; behind_it = tt }

  next_place : (mux : Mux) (session : Asking) (sent : List (List ℕ)) (past : List Occurrence) (client : Client) (c : Carriage) (at : Reacted) (one : Occurrence) → Kept past at → Alone past at.server → ServesCarried Are at one → AreCarried (carriage_after (OfServer one) client c) → ComesOpen (OfServer one) c
      → (place : Place settings mux session sent past client c at.server) → Next mux session sent past client c at one (is_over place)
  next_place mux session sent past client c at one kept alone serves are opened (Ahead early untouched unsent frames come gone calm) = ahead mux session sent past client c at one kept alone serves are early untouched unsent frames come gone calm
  next_place mux session sent past client c at one kept alone serves are opened (Beyond anchor muxed there closed calm) = beyond mux session sent past client c at one kept alone serves are anchor muxed there opened closed calm
  next_place mux session sent past client c at one kept alone serves are opened (Within anchor muxed there sums l d asked) =
      let g = on_goes anchor past client c at sums l one (muxedly past at one kept serves) are in
      behind mux session sent anchor muxed there past client c at kept alone sums l d asked (holding past at kept) one serves g.fits are g.behind

  -- ---- a push, and what is behind it

  -- it may come, and one packet at most has a Name since the channel was opened
  abbrev Both : List Occurrence → Reacted → List Occurrence → Type 0
  Both past at occurrences = AllCome Are Comes settings past at occurrences × AllNamedOnce settings Rfcomm past occurrences

  both : (past : List Occurrence) (at : Reacted) (one : Occurrence) (rest : List Occurrence) → May past at one → IsNamedOnce settings Rfcomm (past ++ one ∷ []) → Both (past ++ one ∷ []) (done one at) rest → Both past at (one ∷ rest)
  both past at one rest may once others = ((may, others.0), (once, others.1))

  closed_none : (past : List Occurrence) (one : Occurrence) → closes rfcomm_psm one ≡ true → packets_over Rfcomm (past ++ one ∷ []) ≡ []
  closed_none past one closing = ap (λ (ps : List Passed). obex_packets (user_octets 18 Responder Initiator ps)) (read_closed passed_by rfcomm_psm past one closing) ∙ no_packets

  -- with one occurrence more
  spells_one : (Once : List Stored → Type 0) (was is : Bool) (past : List Occurrence) (one : Occurrence) (rest : List Occurrence) → Heard was is past one → packets_over L2cap (past ++ one ∷ []) ≡ [] → (is ≡ true → packets_over Rfcomm (past ++ one ∷ []) ≡ [])
      → Once (spelled_within (most_of settings) (packets_over Rfcomm (past ++ one ∷ []))) → Spells settings Rfcomm Once is (past ++ one ∷ []) rest → Spells settings Rfcomm Once was past (one ∷ rest)
  spells_one Once false false past one rest heard alone over once spells = (alone, inl ((heard.0, heard.1, once), spells))
  spells_one Once false true past one rest heard alone over once spells = (alone, inr (over refl, spells))
  spells_one Once true false past one rest heard alone over once spells = absurd heard
  spells_one Once true true past one rest heard alone over once spells = (alone, over refl, spells)

  -- of what is heard something is so (`Once`), where that is so of all fronts of what was sent, which is as it is of the moves that are left (`Left`)
  module _ (n : Numbers) (mux : Mux) (session : Asking) (role : mux.role ≡ Initiator) (fits : mux.largest < 2 ^ 16) (some : 1 ≤ mux.account.cap) (few : mux.account.cap ≤ 40) (w : Task) (tail near : List Occurrence) (More : List Occurrence → Type 0) (Once : List Stored → Type 0)
      (Left : List Move → List (List ℕ) → Type 0) (fewer : (move : Move) (moves : List Move) (sent : List (List ℕ)) → Left (move ∷ moves) sent → (more : List (List ℕ)) → (of_client move ≡ [] → more ≡ []) → Left moves (sent ++ more))
      (claims : (moves : List Move) (sent front : List (List ℕ)) (client : Client) → Fit w sent client → Left moves sent → IsFrontOf front sent → Once (spelled_within (most_of settings) front)) where
    abbrev All : (over : Bool) (past : List Occurrence) (at : Reacted) (occurrences nearer behind : List Occurrence) → Type 0
    All over past at occurrences nearer behind = Both past at occurrences × Spells settings Rfcomm Once over past nearer × More behind

    abbrev GoesOn : Type 0
    GoesOn = (sent : List (List ℕ)) (past : List Occurrence) (client : Client) (c : Carriage) (at : Reacted) → K n.largest n.cap at.server.mux → (place : Place settings mux session sent past client c at.server) → Kept past at → Alone past at.server → AllServeCarried Are at tail
        → All (is_over place) past at tail near past

    moves_come : (moves : List Move) (sent : List (List ℕ)) (past : List Occurrence) (client : Client) (c : Carriage) (at : Reacted) → StaysThere moves client → StayCarried moves client c → AllAnswer w.content (client_side moves) client → AllServeCarried Are at (server_side moves ++ tail)
        → K n.largest n.cap at.server.mux → (place : Place settings mux session sent past client c at.server) → Kept past at → Alone past at.server → Fit w sent client → Left moves sent → GoesOn
        → All (is_over place) past at (server_side moves ++ tail) (server_side moves ++ near) (past ++ server_side moves)
    moves_come [] sent past client c at there carried answers serve k place kept alone fit left on = let all = on sent past client c at k place kept alone serve in (all.0, all.1, subst More (sym (append-nil past)) all.2)
    moves_come (OfServer one ∷ moves) sent past client c at there carried answers serve k place kept alone fit left on =
        let g = next_place mux session sent past client c at one kept alone serve.0 carried.0 carried.1 place in
        let alone' = alone_more past one at serve.0.carried alone in
        let later = carriage_after (OfServer one) client c in
        let left' = subst (Left moves) (append-nil sent) (fewer (OfServer one) moves sent left [] (λ none. refl)) in
        let rest = moves_come moves sent (past ++ one ∷ []) client later (done one at) there.1 carried.2 answers serve.1 (numbers_stay n.largest n.cap one at k) g.place g.kept alone' fit left' on in (
          both past at one (server_side moves ++ tail) g.comes (record { alone = alone'.none; once = once_at settings mux session w sent (past ++ one ∷ []) client later (done one at).server fit g.place }) rest.0,
          spells_one Once (is_over place) (is_over g.place) past one (server_side moves ++ near) g.behind_it alone'.none (over_none g.place)
              (claims moves sent (packets_over Rfcomm (past ++ one ∷ [])) client fit left' (front_at settings mux session w sent (past ++ one ∷ []) client later (done one at).server fit g.place)) rest.1,
          subst More (append_assoc past (one ∷ []) (server_side moves)) rest.2,
        )
    moves_come (OfClient deed ∷ moves) sent past client c at there carried answers serve k place kept alone fit left on =
        let after = deed_place settings n mux session role fits some few w seven small sent past client c at.server deed carried.0 there.0 k answers.0 fit place in
        let rest = moves_come moves (sent ++ packets_by deed client) past (deeds.done deed client) (carriage_after (OfClient deed) client c) at there.1 carried.2 answers.1 serve k after.0 kept alone (fit_more w sent deed client answers.0 fit)
        (fewer (OfClient deed) moves sent left (packets_by deed client) (λ none. absurd (let never : deed ∷ [] ≡ [] = none in cc))) on in
        (rest.0, subst (λ (b : Bool). Spells settings Rfcomm Once b past (server_side moves ++ near)) after.1 rest.1, rest.2)

  spells_down : (Once : List Stored → Type 0) (over : Bool) (past : List Occurrence) → packets_over L2cap (past ++ LinkDown ∷ []) ≡ [] → packets_over Rfcomm (past ++ LinkDown ∷ []) ≡ [] → Spells settings Rfcomm Once over past (LinkDown ∷ [])
  spells_down Once true past alone none = (alone, none, tt)
  spells_down Once false past alone none = (alone, inr (none, tt))

  begun_fit : (push : Push) → Pushes push → Fit (task_of push) [] (begun_of push)
  begun_fit push c =
      let may : MayPush push.client push.name push.size = c.may in
      let pushed : IsPushedMuxed push = c.pushed in
      record {
        stands = (
          record { maximum = refl; wanted = refl; name_is = refl; size_is = refl; short = may.short; small = may.small; least = may.least; most = may.most },
          Fresh refl refl refl refl (λ e. may.own) (λ e. no_cause outcomes.Done e),
        );
        fair = (c.plain, refl, omega arith, may.own, (let short = c.short in omega (arith, short)));
        muxed = pushed.muxed;
        sound = tt;
      }

  -- push after push, where that is so of what each of them leaves (`Left`)
  module _ (Once : Push → List Stored → Type 0) (Left : Push → List Move → List (List ℕ) → Type 0)
      (fewer : (push : Push) (move : Move) (moves : List Move) (sent : List (List ℕ)) → Left push (move ∷ moves) sent → (more : List (List ℕ)) → (of_client move ≡ [] → more ≡ []) → Left push moves (sent ++ more))
      (claims : (push : Push) (moves : List Move) (sent front : List (List ℕ)) (client : Client) → Fit (task_of push) sent client → Left push moves sent → IsFrontOf front sent → Once push (spelled_within (most_of settings) front)) where
    push_comes : (n : Numbers) (tail near : List Occurrence) (More : List Occurrence → Type 0) (push : Push) (carried : Pushes push) (past : List Occurrence) (at : Reacted) → K n.largest n.cap at.server.mux → IsCalm past at.server → Kept past at → Alone past at.server
        → AllServeCarried Are at (server_side push.moves ++ tail) → Left push push.moves []
        → (let pushed : IsPushedMuxed push = carried.pushed in GoesOn n push.client.mux (begun_of push).session pushed.role pushed.fits pushed.some pushed.few (task_of push) tail near More (Once push) (Left push) (fewer push) (claims push))
        → Both past at (server_side push.moves ++ tail) × Spells settings Rfcomm (Once push) false past (server_side push.moves ++ near) × More (past ++ server_side push.moves)
    push_comes n tail near More push carried past at k calm kept alone serve left on =
        let pushed : IsPushedMuxed push = carried.pushed in
        let begun = begun_of push in
        moves_come n push.client.mux begun.session pushed.role pushed.fits pushed.some pushed.few (task_of push) tail near More (Once push) (Left push) (fewer push) (claims push) push.moves [] past begun no_carriage at pushed.there pushed.carried carried.answers serve k
        (Ahead (refl, refl, pushed.muxed) (refl, refl, (refl, refl), (λ e. inl refl), (λ e. refl)) refl refl refl refl calm) kept alone (begun_fit push carried) left on

    abbrev Starts : Push → Type 0
    Starts push = Left push push.moves []

    all_come : (n : Numbers) (pushes : List Push) (last : Push) (past : List Occurrence) (at : Reacted) → AllByRecursion Pushes pushes → Pushes last → AllByRecursion Starts pushes → Starts last → K n.largest n.cap at.server.mux → IsCalm past at.server → Kept past at → Alone past at.server
        → AllServeCarried Are at (over_pushes pushes last) → Both past at (over_pushes pushes last) × AllSpell settings Rfcomm Once pushes last past
    all_come n [] last past at carried over starts start k calm kept alone serve =
        let same = append-nil (server_side last.moves) in
        let all = push_comes n [] [] (λ (past' : List Occurrence). Unit {0}) last over past at k calm kept alone (subst (AllServeCarried Are at) (sym same) serve) start (λ sent' past' client' c' at' k' place' kept' alone' serve'. ((tt, tt), tt, tt)) in
        (subst (Both past at) same all.0, subst (Spells settings Rfcomm (Once last) false past) same all.1)
    all_come n (push ∷ pushes) last past at carried over starts start k calm kept alone serve =
        let others : List Occurrence = over_pushes pushes last in
        let same : server_side push.moves ++ LinkDown ∷ others ≡ over_pushes (push ∷ pushes) last =
        sym (ap (λ (os : List Occurrence). os ++ server_side last.moves) (append_assoc (server_side push.moves) (LinkDown ∷ []) (flat_map ended_with pushes))
        ∙ append_assoc (server_side push.moves) (LinkDown ∷ flat_map ended_with pushes) (server_side last.moves)) in
        let Behind : List Occurrence → Type 0 = λ past'. (packets_over Rfcomm (past' ++ LinkDown ∷ []) ≡ []) × AllSpell settings Rfcomm Once pushes last (past' ++ LinkDown ∷ []) in
        let next : (past' : List Occurrence) (at' : Reacted) → K n.largest n.cap at'.server.mux → Kept (past' ++ LinkDown ∷ []) (done LinkDown at') → Alone (past' ++ LinkDown ∷ []) (done LinkDown at').server → AllServeCarried Are (done LinkDown at') others → IsDown past' at'
        → Both (past' ++ LinkDown ∷ []) (done LinkDown at') others × AllSpell settings Rfcomm Once pushes last (past' ++ LinkDown ∷ []) =
        λ past' at' k' kept' alone' serve' down. elim down [
          | Rests calm' ↦ all_come n pushes last (past' ++ LinkDown ∷ []) (done LinkDown at') carried.1 over starts.1 start (numbers_stay n.largest n.cap LinkDown at' k') calm' kept' alone' serve'
          | Fails failed ↦ absurd (let never : true ≡ false = sym failed ∙ (holding (past' ++ LinkDown ∷ []) (done LinkDown at') kept').works in cc)
        ] in
        let pushed : IsPushedMuxed push = let first = carried.0 in first.pushed in
        let all =
        push_comes n (LinkDown ∷ others) (LinkDown ∷ []) Behind push carried.0 past at k calm kept alone (subst (AllServeCarried Are at) (sym same) serve) starts.0
        (λ sent' past' client' c' at' k' place' kept' alone' serve'.
        let fits = down_fits n push.client.mux pushed.role pushed.fits pushed.some pushed.few past' client' c' at' (muxedly past' at' LinkDown kept' serve'.0) (phase_of settings push.client.mux (begun_of push).session sent' past' client' c' at'.server place') in
        let now = may past' at' LinkDown serve'.0 fits (none_behind_it at' LinkDown refl) (none_come past' at' LinkDown serve'.0.carried (none_closed past' LinkDown refl)) in
        let alone'' = alone_more past' LinkDown at' serve'.0.carried alone' in
        let closed = closed_none past' LinkDown refl in
        let rest = next past' at' k' (more past' LinkDown at' kept' now) alone'' serve'.1 (is_down n.largest n.cap past' at' (holding past' at' kept').works k') in (
          both past' at' LinkDown others now (record { alone = alone''.none; once = subst (HasOneName (most_of settings)) (sym closed) tt }) rest.0,
          spells_down (Once push) (is_over place') past' alone''.none closed,
          (closed, rest.1),
        )) in
        let behind = append_assoc past (server_side push.moves) (LinkDown ∷ []) in (
          subst (Both past at) same all.0,
          (all.1, subst (λ (os : List Occurrence). packets_over Rfcomm os ≡ []) behind all.2.0, subst (AllSpell settings Rfcomm Once pushes last) behind all.2.1),
        )

-- nothing is asked of what is spelled
none_asked : (pushes : List Push) → AllByRecursion (λ (push : Push). Unit {0}) pushes
none_asked [] = tt
none_asked (push ∷ pushes) = (tt, none_asked pushes)

-- ---- the laws

small_of : (settings : Settings) → most_of settings < 2 ^ 16
small_of settings = let high = settings.obex_high in omega (arith, high)

first_alone : (settings : Settings) (before : List Stored) → Alone [] (new_over settings before).server
first_alone settings before = record { undirected = first_undirected settings; none = refl }

-- none is ignored where no response waits
is_taken : (service : Service) (packet : List ℕ) → service.response ≡ [] → service.answer ≡ [] → is_ignored Rfcomm packet service ≡ false
is_taken service packet response answer =
    ap (λ (b : Bool). b && not (is_silent (session_of Rfcomm service.sessions) packet))
    (ap (λ (xs : List ℕ). not (is_empty xs) || not (is_empty service.answer)) response ∙ ap (λ (xs : List ℕ). not (is_empty xs)) answer)

is_alone : (settings : Settings) (past : List Occurrence) → packets_over L2cap past ≡ [] → is_under_way settings L2cap past ≡ false
is_alone settings past none = ap (λ (ps : List (List ℕ)). nat_lt 0 (length (names (open_headers (own_maximum L2cap settings) (without_fault ps))))) none

clear_holding : (settings : Settings) (before : List Stored) (past : List Occurrence) (at : Reacted) → Clear settings before past at → Holding settings past at
clear_holding settings before past at c =
    subst (λ (os : List Occurrence). Holding settings os at) (clean_same settings before past) (holding_of settings before (clean settings before past) at c.holds)

pub pushes_are_heard : (settings : Settings) (before : List Stored) (pushes : List Push) (last : Push) → AllByRecursion Pushes pushes → Pushes last → AllServeCarried AllGranted (new_over settings before) (over_pushes pushes last)
    → AllMayCome settings [] (new_over settings before) (over_pushes pushes last)
unfolding numbers_of
pushes_are_heard settings before pushes last carried over serve =
    (all_come AllGranted (IsHeard settings) settings (Clear settings before) (clear_holding settings before) (clear_more settings before)
    (λ past at packet alone free. let u = alone.undirected in record { taken = is_taken at.server.listener.service packet u.0 free; alone = λ named. is_alone settings past alone.none })
    (seven_of settings) (small_of settings) (λ push os. Unit {0}) (λ push moves sent. Unit {0}) (λ push move moves sent left more none. tt) (λ push moves sent front client fit left is. tt) (numbers_of settings) pushes last [] (new_over settings before) carried over (none_asked pushes) tt (refl, refl, refl, refl) (first_calm settings) (first_clear settings before) (first_alone settings before) serve).0.0

marks_holding : (settings : Settings) (before : List Stored) (past : List Occurrence) (at : Reacted) → Marks settings before past at → Holding settings past at
marks_holding settings before past at m = subst (λ (os : List Occurrence). Holding settings os at) m.same (holding_of settings before m.marks at m.holds)

module _ (settings : Settings) (before : List Stored) (Once : Push → List Stored → Type 0) (Left : Push → List Move → List (List ℕ) → Type 0)
    (fewer : (push : Push) (move : Move) (moves : List Move) (sent : List (List ℕ)) → Left push (move ∷ moves) sent → (more : List (List ℕ)) → (of_client move ≡ [] → more ≡ []) → Left push moves (sent ++ more))
    (claims : (push : Push) (moves : List Move) (sent front : List (List ℕ)) (client : Client) → Fit (task_of push) sent client → Left push moves sent → IsFrontOf front sent → Once push (spelled_within (most_of settings) front)) where
  -- where the inbox does not lack memory: none is ignored, one packet at most has a Name on each channel, and what is heard is so
  pub pushes_are_taken : (pushes : List Push) (last : Push) → AllByRecursion Pushes pushes → Pushes last → AllByRecursion (λ (push : Push). Left push push.moves []) pushes → Left last last.moves [] → AllServeCarried NoneShort (new_over settings before) (over_pushes pushes last)
      → (AllMayFail settings [] (new_over settings before) (over_pushes pushes last) × AllNamedOnce settings Rfcomm [] (over_pushes pushes last)) × AllSpell settings Rfcomm Once pushes last []
  unfolding numbers_of
  pushes_are_taken pushes last carried over starts start serve =
      all_come NoneShort (IsTaken settings) settings (Marks settings before) (marks_holding settings before) (marks_more settings before)
      (λ past at packet alone free. let u = alone.undirected in record { taken = is_taken at.server.listener.service packet u.0 free; alone = λ named. u.1 })
      (seven_of settings) (small_of settings) Once Left fewer claims (numbers_of settings) pushes last [] (new_over settings before) carried over starts start (refl, refl, refl, refl) (first_calm settings) (record { marks = []; same = refl; holds = first_holds settings before }) (first_alone settings before) serve

-- where nothing is asked of what is spelled
pub pushes_taken : (settings : Settings) (before : List Stored) (pushes : List Push) (last : Push) → AllByRecursion Pushes pushes → Pushes last → AllServeCarried NoneShort (new_over settings before) (over_pushes pushes last)
    → AllMayFail settings [] (new_over settings before) (over_pushes pushes last) × AllNamedOnce settings Rfcomm [] (over_pushes pushes last)
pushes_taken settings before pushes last carried over serve =
    (pushes_are_taken settings before (λ push os. Unit {0}) (λ push moves sent. Unit {0}) (λ push move moves sent left more none. tt) (λ push moves sent front client fit left is. tt) pushes last carried over (none_asked pushes) tt serve).0

-- ---- those of which it is asked what their client hears, and what its server takes

carried_pushes : (settings : Settings) (push : Push) → IsCarried settings push → Pushes push
carried_pushes settings push c = record {
  pushed = record {
    muxed = c.muxed;
    role = c.role;
    fits = c.fits;
    some = c.some;
    few = c.few;
    there = stays_there push.client push.name push.size push.moves c.muxed (no_other (targets_heard (client_side push.moves) (begun_of push)) c.named);
    carried = c.carried;
  };
  may = c.may;
  plain = c.plain;
  short = let within = c.within in let small = small_of settings in omega (arith, within, small);
  answers = c.answers;
}

all_carried : (settings : Settings) (pushes : List Push) → AllByRecursion (IsCarried settings) pushes → AllByRecursion Pushes pushes
all_carried settings [] all = tt
all_carried settings (push ∷ pushes) all = (carried_pushes settings push all.0, all_carried settings pushes all.1)

pub carried-are_heard : CarriedAreHeard
carried-are_heard settings before pushes last carried over serve = pushes_are_heard settings before pushes last (all_carried settings pushes carried) (carried_pushes settings last over) serve

pub carried-are_taken : CarriedAreTaken
carried-are_taken settings before pushes last carried over serve = (pushes_taken settings before pushes last (all_carried settings pushes carried) (carried_pushes settings last over) serve).0
