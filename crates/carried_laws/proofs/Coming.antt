-- A server to which each frame comes in order: no request is ignored, and nothing is refused.
use Rattle.std.proofs.Common.{arith, inl, inr, ◌⊎◌, ◌≡◌, ◌≤◌, ◌<◌, ◌-◌, ◌&&◌, ◌||◌, ℕ, Bool, true, false, cond, eqb, List, [], ◌∷◌, ◌++◌, length, Option, Some, None, Ok, refl, sym, ap, ap₂, subst, ◌∙◌, append-nil, length-append}
use Rattle.std.specs.Prelude.{not, ◌^◌, nat_lt}
use Rattle.std.specs.List.{AllByRecursion, flat_map}
use Rattle.std.proofs.Math.Seq.{drop-nil}
use Rattle.std.proofs.lemmas.Bool.{cases_Bool, cond_both, cond-false, eqb-true}
use Rattle.std.proofs.lemmas.List.{nil_from_length}
use Rattle.push_laws.specs.link_talk.specs.bt_base.specs.declared.settings.Settings.{Settings}
use Rattle.push_laws.specs.link_talk.specs.bt_base.specs.declared.settings.Transport.{Transport}
use Rattle.push_laws.specs.link_talk.specs.bt_base.specs.declared.settings.Transport.TheVariants.{L2cap, Rfcomm}
use Rattle.push_laws.specs.link_talk.specs.bt_base.specs.Objects.{Object}
use Rattle.push_laws.specs.link_talk.specs.Gains.{beyond}
use Rattle.push_laws.specs.push_model.specs.rfcomm_frames.specs.declared.connection.Role.{Role}
use Rattle.push_laws.specs.push_model.specs.rfcomm_frames.specs.declared.connection.Role.TheVariants.{Initiator, Responder}
use Rattle.push_laws.specs.push_model.specs.rfcomm_frames.specs.Answers.{Answer}
use Rattle.push_laws.specs.push_model.specs.rfcomm_frames.specs.Frames.{PlainFrame}
use Rattle.push_laws.specs.push_model.specs.rfcomm_frames.specs.FrameReading.{frame_answer, is_empty}
use Rattle.push_laws.specs.push_model.specs.rfcomm_frames.specs.Multiplexing.{Passed}
use Rattle.push_laws.specs.push_model.specs.rfcomm_frames.specs.ObexPackets.{HasNoPacket, AreObexPackets, stated_size, obex_packets}
use Rattle.push_laws.specs.push_model.specs.rfcomm_frames.specs.UserChannel.{user_octets}
use Rattle.push_laws.specs.push_model.specs.rfcomm_frames.proofs.ObexSplits.{obex_packets-right}
use Rattle.push_laws.specs.push_model.specs.rfcomm_model.specs.declared.state.MuxReason.{MuxReason}
use Rattle.push_laws.specs.push_model.specs.rfcomm_model.specs.ClosedSides.{IsOrderly}
use Rattle.push_laws.specs.push_model.specs.rfcomm_model.specs.Hearing.{Up, nothing, opened, bytes, closed, hears_answer, read_data, news, up}
use Rattle.push_laws.specs.push_model.specs.rfcomm_model.specs.Hearing as hearing
use Rattle.push_laws.specs.push_model.specs.rfcomm_model.specs.Machine.{Mux, new_mux, reset, is_ready}
use Rattle.push_laws.specs.push_model.specs.rfcomm_model.specs.Sides.{AnswerFindsRoom, handed}
use Rattle.push_laws.specs.push_model.specs.obex_headers.specs.declared.packet.Phase.TheVariants.{Request}
use Rattle.push_laws.specs.push_model.specs.obex_headers.specs.Reading.{packet_in}
use Rattle.push_laws.specs.push_model.specs.obex_headers.specs.Runs.{names}
use Rattle.push_laws.specs.push_model.specs.obex_session.specs.Laws.{without_fault}
use Rattle.push_laws.specs.push_model.specs.obex_session.specs.Past.{open_headers}
use Rattle.push_laws.specs.push_model.specs.Client.{own_maximum}
use Rattle.push_laws.specs.push_model.specs.Listening.{Listener, has_bad_length}
use Rattle.push_laws.specs.push_model.specs.obex_session.specs.Views.{is_silent}
use Rattle.push_laws.specs.push_model.specs.Sessions.{Gift, session_of}
use Rattle.push_laws.specs.push_model.specs.Server.{Server, Reacted, hears_up, hears_on, lets_go_on, lets_go_twice, remuxed, unreplied, unanswered, closed_on, object_psm, rfcomm_psm}
use Rattle.push_laws.specs.Faults.{heard_over}
use Rattle.push_laws.specs.Laws.{new_over}
use Rattle.push_laws.specs.Occurrences.{Occurrence, Came, Went, Closed, LinkDown, Asked, Answering, done}
use Rattle.push_laws.specs.Premises.{IsHeard, AllGranted, MayCome, AllMayCome, new_packets, may_overtake}
use Rattle.push_laws.specs.Readings.{closes, came_on, passed_by, octets_heard, packets_over}
use Rattle.push_laws.specs.Dialogs.{NoPacket}
use Rattle.push_laws.proofs.Attending.{Holding, holding_of, same_done, came_octets, same_octets}
use Rattle.push_laws.proofs.Calm.{none_direct}
use Rattle.push_laws.proofs.Frames.{reached_kept}
use Rattle.push_laws.proofs.Gaining.{Clear, clean, clean_same, clear_more}
use Rattle.push_laws.proofs.Listening.{IsCut, BrokeOff, direct_closed, joined_is}
use Rattle.push_laws.proofs.Readings.{read_more, read_same, read_closed, drop_front, drop_same}
use Rattle.push_laws.proofs.Running.{most}
use Rattle.push_laws.proofs.Servers.{by_psm, up_keeps}
use Rattle.push_laws.proofs.Streams.{no_packets, packets_more}
use Rattle.push_laws.proofs.Turns.{first_clear}
use Rattle.push_laws.proofs.Undirected.{IsUndirected, undirected_more, first_undirected}
use Rattle.carried_laws.specs.Orderly.{BeginsWell, AsksInTurn, ComesInOrder, passed_on, ServesOrderly, AllServeOrderly, OrderlyMayCome}
use Rattle.carried_laws.specs.Standing.{Standing, start, comes, passes_as, standing}
use Rattle.carried_laws.proofs.Owing.{new_owes, Heard, heard_owes}
use Rattle.carried_laws.proofs.Replying.{Replies, heard_replies, replied_more, none_waits, up_reply, up_same}
use Rattle.carried_laws.proofs.Serving.{Kept, kept_by, asked_kept, stands_more, went_kept}

-- ---- what is so at each moment

abbrev pub requests : List Occurrence → ℕ
requests past = length (packets_over Rfcomm past)

pub record Stand (settings : Settings) (before : List Object) (past : List Occurrence) (at : Reacted) : Type 0 where
  pub clear : Clear settings before past at
  pub kept : Kept (standing (passed_on past)) (requests past) at.server
  pub aside : IsUndirected at.server
  pub none : packets_over L2cap past ≡ []

-- ---- over L2CAP nothing comes

none_came : (one : Occurrence) → NoPacket one → came_on object_psm one ≡ None
none_came (Came psm sdu) aside = by (eqb psm object_psm) refl
  where
    by : (here : Bool) → eqb psm object_psm ≡ here → cond here (Some sdu) None ≡ None
    by true is = absurd (aside (eqb-true psm object_psm is))
    by false is = refl
none_came (Went psm sdu) aside = refl
none_came (Closed psm) aside = refl
none_came LinkDown aside = refl
none_came Asked aside = refl
none_came (Answering answers) aside = refl

still_none : (past : List Occurrence) (one : Occurrence) → NoPacket one → packets_over L2cap past ≡ [] → packets_over L2cap (past ++ one ∷ []) ≡ []
still_none past one aside none =
    elim (cases_Bool (closes object_psm one)) [ inl e ↦ read_closed (came_on object_psm) object_psm past one e | inr e ↦ read_same (came_on object_psm) object_psm past one e (none_came one aside) ∙ none ]

-- ---- what comes up leaves the frame that waits

octets_keep : (breaks : Bool) (server : Server) (gift : Gift) (r : Reacted) → r.server.frame ≡ server.frame → (cond breaks (let x : Reacted = record { server = server; gift = gift } in x) r).server.frame ≡ server.frame
octets_keep true server gift r is = refl
octets_keep false server gift r is = is

up_frames : (u : Up) (server : Server) (gift : Gift) → (hears_up u server gift).server.frame ≡ server.frame
up_frames nothing server gift = refl
up_frames opened server gift = refl
up_frames (closed reason) server gift = refl
up_frames (bytes octets) server gift = octets_keep server.listener.breaks server gift _ refl

-- where the multiplexer is closed nothing is handed up
none_handed : (sdu : List ℕ) (m : Mux) (reason : MuxReason) → m.closed ≡ Some reason → handed (up sdu m) ≡ []
none_handed sdu m reason is = by m.closed (hearing.hears sdu m).closed (is_ready (hearing.hears sdu m) && not (is_ready m)) (read_data (frame_answer sdu) m) is
  where
    by : (before after : Option MuxReason) (now : Bool) (octets : List ℕ) → before ≡ Some reason → handed (news before after now octets) ≡ []
    by before after now octets same = ap (λ (c : Option MuxReason). handed (news c after now octets)) same

module _ (settings : Settings) (before : List Object) (past : List Occurrence) (at : Reacted) (st : Stand settings before past at) where
  abbrev now : Standing
  now = standing (passed_on past)

  holding : Holding settings past at
  holding = subst (λ (os : List Occurrence). Holding settings os at) (clean_same settings before past) (holding_of settings before (clean settings before past) at st.clear.holds)

  works : at.server.listener.service.failed ≡ false
  works = holding.works

  abbrev May : Occurrence → Type 0
  May one = MayCome AllGranted (IsHeard settings past at.server.listener.service) settings past at one

  record Goes (one : Occurrence) : Type 0 where
    may : May one
    kept : Kept (standing (passed_on (past ++ one ∷ []))) (requests (past ++ one ∷ [])) (done one at).server

  -- ---- requests

  none_under_way : (packet : List ℕ) → nat_lt 0 (length (names (open_headers (own_maximum L2cap settings) (without_fault (packets_over L2cap past))))) ≡ false
  none_under_way packet = ap (λ (ps : List (List ℕ)). nat_lt 0 (length (names (open_headers (own_maximum L2cap settings) (without_fault ps))))) st.none

  heard_with : (one : Occurrence) → NoPacket one → AllByRecursion (IsHeard settings past at.server.listener.service Rfcomm) (new_packets Rfcomm past one) → (t : Transport) → AllByRecursion (IsHeard settings past at.server.listener.service t) (new_packets t past one)
  heard_with one aside heard L2cap = subst (AllByRecursion (IsHeard settings past at.server.listener.service L2cap)) (sym (none_direct past one (none_came one aside))) tt
  heard_with one aside heard Rfcomm = heard

  -- no frame comes
  quietly : (one : Occurrence) → ServesOrderly settings past at one → ((sdu : List ℕ) → one ≡ Came rfcomm_psm sdu → ⊥) → new_packets Rfcomm past one ≡ [] → Kept (standing (passed_on (past ++ one ∷ []))) (requests (past ++ one ∷ [])) (done one at).server → Goes one
  quietly one serves none new kept = record {
    may = record {
      own = serves.own;
      answers = serves.granted;
      requests = record {
        single = subst (λ (ps : List (List ℕ)). length ps ≤ 1) (sym new) (omega arith);
        heard = heard_with one serves.aside (subst (AllByRecursion (IsHeard settings past at.server.listener.service Rfcomm)) (sym new) tt);
        lengths = subst (AllByRecursion (λ packet. has_bad_length (packet_in Request (own_maximum Rfcomm settings) packet) ≡ false)) (sym new) tt;
      };
      frame = λ sdu is. absurd (none sdu is);
      orderly = kept.owes.orderly;
    };
    kept = kept;
  }

  none_new : (one : Occurrence) → packets_over Rfcomm (past ++ one ∷ []) ≡ packets_over Rfcomm past → new_packets Rfcomm past one ≡ []
  none_new one same = ap (beyond (packets_over Rfcomm past)) same ∙ drop_same (packets_over Rfcomm past)

  -- nothing passes
  aside : (one : Occurrence) → ServesOrderly settings past at one → ((sdu : List ℕ) → one ≡ Came rfcomm_psm sdu → ⊥) → closes rfcomm_psm one ≡ false → passed_by one ≡ None → Kept now (requests past) (done one at).server → Goes one
  aside one serves none on unpassed kept =
      let same : passed_on (past ++ one ∷ []) ≡ passed_on past = read_same passed_by rfcomm_psm past one on unpassed in
      let packets : packets_over Rfcomm (past ++ one ∷ []) ≡ packets_over Rfcomm past = ap (λ (ps : List Passed). obex_packets (user_octets 18 Responder Initiator ps)) same in
      quietly one serves none (none_new one packets)
      (subst (λ (ps : List Passed). Kept (standing ps) (requests (past ++ one ∷ [])) (done one at).server) (sym same) (subst (λ (ps : List (List ℕ)). Kept now (length ps) (done one at).server) (sym packets) kept))

  unless : (after : Reacted) → cond at.server.listener.service.failed (let r : Reacted = record { server = at.server; gift = at.gift } in r) after ≡ after
  unless after = cond-false at.server.listener.service.failed (let r : Reacted = record { server = at.server; gift = at.gift } in r) after works

  -- ---- the channel of the multiplexer ends

  new_kept : (n : ℕ) (server : Server) (largest cap : ℕ) → 23 ≤ largest → largest < 2 ^ 16 → server.mux ≡ new_mux Responder 18 largest largest cap → server.frame ≡ None → server.listener.service.answer ≡ [] → server.listener.breaks ≡ false → Kept start n server
  new_kept n server largest cap least few mux_is frame_is answer_is unbroken =
      kept_by start n server (new_mux Responder 18 largest largest cap) None [] mux_is frame_is answer_is unbroken (new_owes largest cap least few) (record { replied = []; sound = tt; few = omega arith; all = λ e. refl })

  reset_is : reset at.server.mux.largest at.server.mux ≡ new_mux Responder 18 (settings.mtu - 6) (settings.mtu - 6) settings.credits
  reset_is =
      let m : Mux = at.server.mux in
      let k = reached_kept (settings.mtu - 6) settings.credits (record { mux = m; talk = holding.carries.talk; got = octets_heard past }) holding.carries.reached in
      ap (λ (r : Role). new_mux r m.dlci m.largest m.largest m.account.cap) k.0 ∙ ap (λ (d : ℕ). new_mux Responder d m.largest m.largest m.account.cap) k.1
      ∙ ap (λ (l : ℕ). new_mux Responder 18 l l m.account.cap) k.2 ∙ ap (λ (c : ℕ). new_mux Responder 18 (settings.mtu - 6) (settings.mtu - 6) c) k.3

  ended : (one : Occurrence) → ServesOrderly settings past at one → ((sdu : List ℕ) → one ≡ Came rfcomm_psm sdu → ⊥) → closes rfcomm_psm one ≡ true → (done one at).server.mux ≡ reset at.server.mux.largest at.server.mux → (done one at).server.frame ≡ None
      → (done one at).server.listener.service.answer ≡ [] → (done one at).server.listener.breaks ≡ false → Goes one
  ended one serves none over mux_is frame_is answer_is unbroken =
      let gone : passed_on (past ++ one ∷ []) ≡ [] = read_closed passed_by rfcomm_psm past one over in
      let low = settings.mtu_low in
      let high = settings.mtu_high in
      let none_left : packets_over Rfcomm (past ++ one ∷ []) ≡ [] = ap (λ (ps : List Passed). obex_packets (user_octets 18 Responder Initiator ps)) gone ∙ no_packets in
      quietly one serves none (ap (beyond (packets_over Rfcomm past)) none_left ∙ drop-nil (length (packets_over Rfcomm past)))
      (subst (λ (ps : List Passed). Kept (standing ps) (requests (past ++ one ∷ [])) (done one at).server) (sym gone)
      (new_kept (requests (past ++ one ∷ [])) (done one at).server (settings.mtu - 6) settings.credits (omega (arith, low)) (omega (arith, high)) (mux_is ∙ reset_is) frame_is answer_is unbroken))

  no_frame : (one : Occurrence) → closes rfcomm_psm one ≡ true → (sdu : List ℕ) → one ≡ Came rfcomm_psm sdu → ⊥
  no_frame (Came psm other) over sdu is = let never : false ≡ true = over in cc
  no_frame (Went psm other) over sdu is = cc
  no_frame (Closed psm) over sdu is = cc
  no_frame LinkDown over sdu is = cc
  no_frame Asked over sdu is = cc
  no_frame (Answering answers) over sdu is = cc

  closed_goes : (psm : ℕ) → ServesOrderly settings past at (Closed psm) → Goes (Closed psm)
  closed_goes psm =
      by_psm (λ p. ServesOrderly settings past at (Closed p) → Goes (Closed p))
      (λ serves. aside (Closed 0x0001) serves (λ sdu is. cc) refl refl (subst (λ (r : Reacted). Kept now (requests past) r.server) (sym (unless (closed_on 0x0001 at.server at.gift))) (record { owes = st.kept.owes; replies = st.kept.replies; unbroken = st.kept.unbroken })))
      (λ serves.
      let is = unless (closed_on 0x0003 at.server at.gift) in
      ended (Closed 0x0003) serves (λ sdu e. cc) refl (ap (λ (r : Reacted). r.server.mux) is) (ap (λ (r : Reacted). r.server.frame) is) (ap (λ (r : Reacted). r.server.listener.service.answer) is) (ap (λ (r : Reacted). r.server.listener.breaks) is))
      (λ serves. aside (Closed 0x1001) serves (λ sdu is. cc) refl refl (subst (λ (r : Reacted). Kept now (requests past) r.server) (sym (unless (closed_on 0x1001 at.server at.gift))) (record { owes = st.kept.owes; replies = st.kept.replies; unbroken = st.kept.unbroken })))
      (λ p x y z serves.
      aside (Closed p) serves (λ sdu is. cc) y refl
      (subst (λ (r : Reacted). Kept now (requests past) r.server) (sym (unless (closed_on p at.server at.gift) ∙ (cond-false _ _ _ x ∙ (cond-false _ _ _ y ∙ cond-false _ _ (let r : Reacted = record { server = at.server; gift = at.gift } in r) z)))) st.kept))
      psm

  down_goes : ServesOrderly settings past at LinkDown → Goes LinkDown
  down_goes serves =
      let first : Reacted = lets_go_on L2cap (unanswered at.server) at.gift in
      let second : Reacted = lets_go_on Rfcomm (remuxed (unreplied first.server)) first.gift in
      let l = st.clear.holds.upholds.listens in
      let v = direct_closed (most settings) (heard_over L2cap (clean settings before past)) (heard_over Rfcomm (clean settings before past)) st.clear.holds.got _ (unanswered at.server).listener at.server.held at.gift
      (record { tail = l.tail; serves = l.serves; packets = l.packets; cut = l.cut }) in
      let is : done LinkDown at ≡ second = unless (lets_go_twice first) ∙ cond-false first.server.listener.service.failed first second v.serves.enough in
      ended LinkDown serves (λ sdu e. cc) refl (ap (λ (r : Reacted). r.server.mux) is) (ap (λ (r : Reacted). r.server.frame) is) (ap (λ (r : Reacted). r.server.listener.service.answer) is) (ap (λ (r : Reacted). r.server.listener.breaks) is)

  -- ---- an SDU goes

  went_goes : (psm : ℕ) (sdu : List ℕ) → ServesOrderly settings past at (Went psm sdu) → Goes (Went psm sdu)
  went_goes psm sdu serves =
      let own = serves.own in
      let same : octets_heard (past ++ Went psm sdu ∷ []) ≡ octets_heard past = same_octets settings past at holding (Went psm sdu) refl refl own st.kept.owes.orderly in
      let packets : packets_over Rfcomm (past ++ Went psm sdu ∷ []) ≡ packets_over Rfcomm past = ap obex_packets same in
      quietly (Went psm sdu) serves (λ other is. cc) (none_new (Went psm sdu) packets)
      (subst (λ (ps : List (List ℕ)). Kept (standing (passed_on (past ++ Went psm sdu ∷ []))) (length ps) (done (Went psm sdu) at).server) (sym packets)
      (went_kept past (requests past) at.server.lent psm sdu at.server own.0 own.1 own.2 own.3 own.4 st.kept))

  -- ---- a frame comes

  module _ (sdu : List ℕ) (serves : ServesOrderly settings past at (Came rfcomm_psm sdu)) where
    abbrev one : Occurrence
    one = Came rfcomm_psm sdu

    abbrev order : ComesInOrder settings (passed_on past) sdu
    order = serves.orderly sdu refl

    abbrev m : Mux
    m = at.server.mux

    abbrev f : PlainFrame
    f = order.frame

    abbrev server : Server
    server = record (at.server) { mux = hearing.hears sdu m }

    abbrev after : Reacted
    after = hears_up (up sdu m) server at.gift

    heard : Heard now m at.server.frame f
    heard = heard_owes now m at.server.frame f st.kept.owes order.keeps order.answered order.few order.paid order.fits

    room : AnswerFindsRoom (frame_answer sdu) m
    room = subst (λ (a : Answer). AnswerFindsRoom a m) (sym order.read) heard.room

    behind : may_overtake (frame_answer sdu) at.server.frame ≡ true
    behind = subst (λ (a : Answer). may_overtake a at.server.frame ≡ true) (sym order.read) heard.behind

    is : done one at ≡ after
    is = same_done settings past at holding sdu

    mux_is : after.server.mux ≡ hears_answer (Ok f) m
    mux_is = up_keeps (up sdu m) server at.gift ∙ ap (λ (a : Answer). hears_answer a m) order.read

    orderly : IsOrderly (done one at).server.mux.closed
    orderly = subst (λ (x : Mux). IsOrderly x.closed) (sym (ap (λ (r : Reacted). r.server.mux) is ∙ mux_is)) heard.owes.orderly

    octets : octets_heard (past ++ one ∷ []) ≡ octets_heard past ++ handed (up sdu m)
    octets = came_octets settings past at holding sdu room behind orderly

    passed_is : passed_on (past ++ one ∷ []) ≡ passed_on past ++ record { from = Initiator; sdu = sdu } ∷ []
    passed_is = read_more passed_by rfcomm_psm past one refl

    abbrev asks : AsksInTurn settings (passed_on past) sdu
    asks = order.asks

    packets : packets_over Rfcomm (past ++ one ∷ []) ≡ packets_over Rfcomm past ++ asks.new
    packets = ap (λ (ps : List Passed). obex_packets (user_octets 18 Responder Initiator ps)) passed_is ∙ asks.new_are

    new : new_packets Rfcomm past one ≡ asks.new
    new = ap (beyond (packets_over Rfcomm past)) packets ∙ drop_front (packets_over Rfcomm past) asks.new

    -- a request ends, so the multiplexer stands, and no response waits
    some_open : (packet : List ℕ) (rest : List (List ℕ)) → asks.new ≡ packet ∷ rest → m.closed ≡ None
    some_open packet rest some = by m.closed refl
      where
        by : (c : Option MuxReason) → m.closed ≡ c → m.closed ≡ None
        by None none = none
        by (Some reason) over =
            let same : packets_over Rfcomm past ++ asks.new ≡ packets_over Rfcomm past =
            sym packets ∙ ap obex_packets (octets ∙ ap (λ (xs : List ℕ). octets_heard past ++ xs) (none_handed sdu m reason over) ∙ append-nil (octets_heard past)) in
            let sizes = ap length same in
            let sum = length-append (packets_over Rfcomm past) asks.new in
            let more = ap length some in
            absurd (omega (arith, sizes, sum, more))

    none_answers : (packet : List ℕ) (rest : List (List ℕ)) → asks.new ≡ packet ∷ rest → at.server.listener.service.answer ≡ []
    none_answers packet rest some =
        let went = (subst (AllByRecursion (λ (p : List ℕ). length (packets_over Rfcomm past) ≤ length (obex_packets now.sent))) some asks.answered).0 in
        none_waits now (requests past) m at.server.frame at.server.listener.service.answer st.kept.replies (some_open packet rest some) went

    heard_new : (list : List (List ℕ)) → asks.new ≡ list → AllByRecursion (IsHeard settings past at.server.listener.service Rfcomm) list
    heard_new [] e = tt
    heard_new (packet ∷ []) e = (
      record {
        taken = ap₂ (λ (a b : List ℕ). (not (is_empty a) || not (is_empty b)) && not (is_silent (session_of Rfcomm at.server.listener.service.sessions) packet)) st.aside.0 (none_answers packet [] e);
        alone = λ named. none_under_way packet;
      },
      tt,
    )
    heard_new (packet ∷ other ∷ rest) e = absurd (let few = asks.single in let many = ap length e in omega (arith, few, many))

    may : May one
    may = record {
      own = serves.own;
      answers = serves.granted;
      requests = record {
        single = subst (λ (ps : List (List ℕ)). length ps ≤ 1) (sym new) asks.single;
        heard = heard_with one serves.aside (subst (AllByRecursion (IsHeard settings past at.server.listener.service Rfcomm)) (sym new) (heard_new asks.new refl));
        lengths = subst (AllByRecursion (λ packet. has_bad_length (packet_in Request (own_maximum Rfcomm settings) packet) ≡ false)) (sym new) asks.lengths;
      };
      frame = λ other same. record {
        room = subst (λ (x : List ℕ). AnswerFindsRoom (frame_answer x) m) (same_sdu other same) room;
        behind = subst (λ (x : List ℕ). may_overtake (frame_answer x) at.server.frame ≡ true) (same_sdu other same) behind;
      };
      orderly = orderly;
    }
      where
        same_sdu : (other : List ℕ) → Came rfcomm_psm sdu ≡ Came rfcomm_psm other → sdu ≡ other
        same_sdu other same = cc

    -- octets that begin no packet do not come
    later : Clear settings before (past ++ one ∷ []) (done one at)
    later = clear_more settings before past one at st.clear may

    unbroken : (done one at).server.listener.breaks ≡ false
    unbroken = elim (cases_Bool (done one at).server.listener.breaks) [ inl broke ↦ absurd (never broke) | inr none ↦ none ]
      where
        wrong : (rest : List ℕ) → (3 ≤ stated_size rest) × (stated_size rest ≤ own_maximum Rfcomm settings) → (own_maximum Rfcomm settings < stated_size rest) ⊎ (stated_size rest < 3) → ⊥
        wrong rest fine (inl above) = let most = fine.1 in omega (arith, most, above)
        wrong rest fine (inr small) = let least = fine.0 in omega (arith, least, small)

        never : (done one at).server.listener.breaks ≡ true → ⊥
        never broke =
            let past' : List Occurrence = past ++ one ∷ [] in
            let h = later.holds in
            let l = h.upholds.listens in
            let off : BrokeOff (own_maximum Rfcomm settings) (heard_over Rfcomm (clean settings before past')) h.got l.tail =
            subst (IsCut (own_maximum Rfcomm settings) (heard_over Rfcomm (clean settings before past')) h.got (done one at).server.held l.tail) broke l.cut in
            let got_is : octets_heard past' ≡ h.got = ap octets_heard (sym (clean_same settings before past')) ∙ h.heard in
            let stream : user_octets 18 Responder Initiator (passed_on past ++ record { from = Initiator; sdu = sdu } ∷ []) ≡ h.got = ap (user_octets 18 Responder Initiator) (sym passed_is) ∙ got_is in
            let whole : h.got ≡ flat_map (λ (packet : List ℕ). packet) (obex_packets h.got) ++ off.rest =
            off.whole ∙ ap (λ (xs : List ℕ). xs ++ off.rest) (sym (joined_is (heard_over Rfcomm (clean settings before past'))) ∙ ap (flat_map (λ (packet : List ℕ). packet)) l.packets) in
            let begins = subst (BeginsWell (own_maximum Rfcomm settings)) stream asks.begins off.rest whole off.long in
            wrong off.rest begins off.wrong

    unbroken_after : after.server.listener.breaks ≡ false
    unbroken_after = sym (ap (λ (r : Reacted). r.server.listener.breaks) is) ∙ unbroken

    -- what is answered then
    none_whole : asks.new ≡ [] → HasNoPacket (at.server.held ++ handed (up sdu m))
    none_whole none =
        let ys : List ℕ = handed (up sdu m) in
        let stream : List ℕ = at.server.held ++ ys in
        let old : List (List ℕ) = packets_over Rfcomm past in
        let split : obex_packets (octets_heard past ++ ys) ≡ old ++ obex_packets stream = packets_more (octets_heard past) at.server.held ys (holding.held st.kept.unbroken) in
        let both : old ++ obex_packets stream ≡ old ++ asks.new = sym split ∙ ap obex_packets (sym octets) ∙ packets in
        let sizes = ap length both in
        let one = length-append old (obex_packets stream) in
        let two = length-append old asks.new in
        let nothing = ap length none in
        let empty : obex_packets stream ≡ [] = nil_from_length (obex_packets stream) (omega (arith, sizes, one, two, nothing)) in
        let right : AreObexPackets stream [] = subst (AreObexPackets stream) empty (obex_packets-right stream) in
        subst HasNoPacket (sym right.whole) right.no_more

    replies : (list : List (List ℕ)) → asks.new ≡ list → Replies (comes f now) (requests (past ++ one ∷ [])) (hears_answer (Ok f) m) at.server.frame after.server.listener.service.answer
    replies [] e =
        let same = up_same (up sdu m) server at.gift st.kept.unbroken unbroken_after (none_whole e) in
        let sizes = ap length packets in
        let sum = length-append (packets_over Rfcomm past) asks.new in
        subst (Replies (comes f now) (requests (past ++ one ∷ [])) (hears_answer (Ok f) m) at.server.frame) (sym (ap (λ (l : Listener). l.service.answer) same))
        (heard_replies now (requests past) (requests (past ++ one ∷ [])) _ _ _ m (hears_answer (Ok f) m) at.server.frame f at.server.listener.service.answer heard.step (omega (arith, sizes, sum)) st.kept.replies)
    replies (packet ∷ rest) e =
        let free = none_answers packet rest e in
        let sizes = ap length packets in
        let sum = length-append (packets_over Rfcomm past) asks.new in
        let more = ap length e in
        replied_more now (requests past) (requests (past ++ one ∷ [])) _ _ _ m (hears_answer (Ok f) m) at.server.frame f after.server.listener.service.answer heard.step (omega (arith, sizes, sum, more)) (up_reply (up sdu m) server at.gift (inl free))
        (subst (Replies now (requests past) m at.server.frame) free st.kept.replies)

    kept_after : Kept (comes f now) (requests (past ++ one ∷ [])) after.server
    kept_after = kept_by (comes f now) (requests (past ++ one ∷ [])) after.server (hears_answer (Ok f) m) at.server.frame after.server.listener.service.answer mux_is (up_frames (up sdu m) server at.gift) refl unbroken_after heard.owes (replies asks.new refl)

    stands : standing (passed_on (past ++ one ∷ [])) ≡ comes f now
    stands = ap standing passed_is ∙ stands_more start (passed_on past) (record { from = Initiator; sdu = sdu }) ∙ ap (λ (a : Answer). passes_as Initiator a now) order.read

    frame_goes : Goes one
    frame_goes = record {
      may = may;
      kept = subst (λ (s : Standing). Kept s (requests (past ++ one ∷ [])) (done one at).server) (sym stands) (subst (λ (r : Reacted). Kept (comes f now) (requests (past ++ one ∷ [])) r.server) (sym is) kept_after);
    }

  -- ---- any SDU comes

  came_goes : (psm : ℕ) (sdu : List ℕ) → ServesOrderly settings past at (Came psm sdu) → Goes (Came psm sdu)
  came_goes psm sdu =
      by_psm (λ p. ServesOrderly settings past at (Came p sdu) → Goes (Came p sdu))
      (λ serves. aside (Came 0x0001 sdu) serves (λ other e. cc) refl refl
      (subst (λ (r : Reacted). Kept now (requests past) r.server) (sym (unless (hears_on 0x0001 sdu at.server at.gift)))
      (cond_both (is_empty at.server.reply) _ _ (Kept now (requests past)) (λ e. record { owes = st.kept.owes; replies = st.kept.replies; unbroken = st.kept.unbroken }) (λ e. st.kept))))
      (λ serves. frame_goes sdu serves)
      (λ serves. absurd (serves.aside refl))
      (λ p x y z serves.
      aside (Came p sdu) serves (λ other e. absurd (other_psm p other y e)) refl (cond-false _ _ _ y)
      (subst (λ (r : Reacted). Kept now (requests past) r.server) (sym (unless (hears_on p sdu at.server at.gift) ∙ (cond-false _ _ _ x ∙ (cond-false _ _ _ y ∙ cond-false _ _ (let r : Reacted = record { server = at.server; gift = at.gift } in r) z)))) st.kept))
      psm
    where
      other_psm : (p : ℕ) (other : List ℕ) → eqb p 0x0003 ≡ false → Came p sdu ≡ Came rfcomm_psm other → ⊥
      other_psm p other away e = let same : p ≡ 0x0003 = cc in let never : false ≡ true = sym away ∙ ap (λ (n : ℕ). eqb n 0x0003) same in cc

  goes : (one : Occurrence) → ServesOrderly settings past at one → Goes one
  goes (Came psm sdu) serves = came_goes psm sdu serves
  goes (Went psm sdu) serves = went_goes psm sdu serves
  goes (Closed psm) serves = closed_goes psm serves
  goes LinkDown serves = down_goes serves
  goes Asked serves = aside Asked serves (λ sdu is. cc) refl refl (asked_kept now (requests past) at.server.lent at.server st.kept)
  goes (Answering answers) serves = aside (Answering answers) serves (λ sdu is. cc) refl refl st.kept

-- ---- all of them

all_come : (settings : Settings) (before : List Object) (occurrences past : List Occurrence) (at : Reacted) → Stand settings before past at → AllServeOrderly settings past at occurrences → AllMayCome settings past at occurrences
all_come settings before [] past at st all = tt
all_come settings before (one ∷ rest) past at st all =
    let g = goes settings before past at st one all.0 in (
      g.may,
      all_come settings before rest (past ++ one ∷ []) (done one at) (record {
        clear = clear_more settings before past one at st.clear g.may;
        kept = g.kept;
        aside = undirected_more one at all.0.aside st.aside;
        none = still_none past one all.0.aside st.none;
      }) all.1,
    )

pub orderly_may_come : OrderlyMayCome
orderly_may_come settings before occurrences all =
    let low = settings.mtu_low in
    let high = settings.mtu_high in
    all_come settings before occurrences [] (new_over settings before) (record {
      clear = first_clear settings before;
      kept = record {
        owes = new_owes (settings.mtu - 6) settings.credits (omega (arith, low)) (omega (arith, high));
        replies = record { replied = []; sound = tt; few = omega arith; all = λ e. refl };
        unbroken = refl;
      };
      aside = first_undirected settings;
      none = refl;
    }) all
