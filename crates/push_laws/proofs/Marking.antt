-- What is said to packets at which calls fail, and to those that store.
use Rattle.std.proofs.Common.{Bool, true, false, cond, ◌||◌, ◌&&◌, ◌≡◌, ◌==◌, ◌≤◌, ℕ, List, [], ◌∷◌, ◌++◌, length, Option, is_some, Ok, Err, is_err, refl, sym, ap, ap₂, subst, ◌∙◌, arith, append-nil}
use Rattle.std.specs.Prelude.{slice_index}
use Rattle.std.specs.List.{AllByRecursion, cons_option}
use Rattle.std.proofs.Math.Seq.{drop-nil}
use Rattle.std.proofs.lemmas.Bool.{cond-true, cond-false}
use Rattle.link_talk.specs.bt_base.specs.declared.settings.Settings.{Settings}
use Rattle.link_talk.specs.bt_base.specs.declared.settings.Transport.{Transport}
use Rattle.link_talk.specs.bt_base.specs.declared.settings.Transport.TheVariants.{L2cap, Rfcomm}
use Rattle.link_talk.specs.bt_base.specs.declared.ports.PortFault.TheVariants.{Failed, NoMemory}
use Rattle.link_talk.specs.bt_base.specs.Objects.{Object}
use Rattle.push_model.specs.obex_headers.specs.declared.packet.Phase.TheVariants.{Request}
use Rattle.push_model.specs.obex_headers.specs.Reading.{packet_in}
use Rattle.push_model.specs.obex_session.specs.InboxCalls.{Answer, come_of}
use Rattle.push_model.specs.obex_session.specs.Past.{Heard, Serving, stored_by, open_headers, progress_of}
use Rattle.push_model.specs.obex_session.specs.Rules.{progress_in}
use Rattle.push_model.specs.obex_session.specs.Serving.{kind_heard, ruling_on, verdict_or, heard_with}
use Rattle.push_model.specs.obex_session.specs.Turns.{said_after}
use Rattle.push_model.specs.obex_session.specs.Views.{octets_said}
use Rattle.push_model.specs.obex_session.proofs.GrantedLaws.{stores_read}
use Rattle.push_model.specs.obex_session.proofs.SuccessLaws.{success_is_stored}
use Rattle.link_talk.specs.Gains.{beyond}
use Rattle.link_talk.specs.ObjectsHeard.{put_within}
use Rattle.push_model.specs.Client.{own_maximum}
use Rattle.push_model.specs.Listening.{has_bad_length}
use Rattle.push_model.specs.Server.{Reacted, object_psm, rfcomm_psm}
use Rattle.push_model.specs.Service.{Service, is_ignored}
use Rattle.push_model.specs.Sessions.{session_of}
use Rattle.push_model.specs.rfcomm_frames.specs.ObexPackets.{obex_packets}
use Rattle.push_model.specs.rfcomm_frames.proofs.ObexSplits.{obex_packets-right}
use Rattle.push_model.specs.rfcomm_model.specs.ClosedSides.{IsOrderly}
use Rattle.push_model.specs.rfcomm_model.specs.Hearing.{up}
use Rattle.push_model.specs.rfcomm_model.specs.Sides.{handed}
use Rattle.push_laws.specs.Carriage.{come_by}
use Rattle.push_laws.specs.Parties.{sdu_if}
use Rattle.push_laws.specs.Occurrences.{Occurrence, Came, Went, Closed, LinkDown, Asked, Answering, done, IsOwn}
use Rattle.push_laws.specs.Readings.{closes, came_on, octets_heard, packets_over}
use Rattle.push_laws.specs.Answers.{says_success}
use Rattle.push_laws.specs.Faults.{Marked, unmarked, psm_of, heard_as, heard_over, stored_over, fails_at, is_refused, any_refused, mark_of}
use Rattle.push_laws.specs.Marks.{SaysMark, SayMarks, AllSayMarks}
use Rattle.push_laws.specs.Premises.{IsAlone, NoneShort, FrameIsHeard, MayCome, AllMayMiss, new_packets}
use Rattle.push_laws.specs.Laws.{new_over, stored_in, GainsAllButRefusals, GainsAllButFaults}
use Rattle.push_laws.proofs.Sessions.{come_enough}
use Rattle.push_laws.proofs.Readings.{read_more, read_closed, drop_front, unmarked_more, heard_more, stored_more}
use Rattle.push_laws.proofs.Attending.{Holding, holding_of, same_octets, came_octets, none_new, none_closed}
use Rattle.push_laws.proofs.Listening as listening
use Rattle.push_laws.proofs.Listening.{GoesOn, BrokeOff, IsCut, or-false, still_none}
use Rattle.push_laws.proofs.Servers.{by_psm}
use Rattle.push_laws.proofs.Running.{no_carried}
use Rattle.push_laws.proofs.Codes.{said_to}
use Rattle.push_laws.proofs.Gaining.{Holds, holds_more, holds_all, first_holds, all_alone, none_from}
use Rattle.push_laws.proofs.Answering.{response_is}

-- the packet that is whole over L2CAP with an occurrence
news_are : (past : List Occurrence) (one : Occurrence) → new_packets L2cap past one ≡ cond (closes object_psm one) [] (cons_option (came_on object_psm one) [])
news_are past one = by (closes object_psm one) refl
  where
    by : (closing : Bool) → closes object_psm one ≡ closing → new_packets L2cap past one ≡ cond closing [] (cons_option (came_on object_psm one) [])
    by true is = ap (beyond (packets_over L2cap past)) (read_closed (came_on object_psm) object_psm past one is) ∙ drop-nil (length (packets_over L2cap past))
    by false is = ap (beyond (packets_over L2cap past)) (read_more (came_on object_psm) object_psm past one is) ∙ drop_front (packets_over L2cap past) (cons_option (came_on object_psm one) [])

pub seven_of : (settings : Settings) → 7 ≤ own_maximum Rfcomm settings
seven_of settings = let low = settings.obex_low in omega (arith, low)

-- to a packet at which a call fails D0 is said
fault_said : (session : Serving) (packet : List ℕ) (answers : List Answer) → NoneShort answers → is_err (come_of (ruling_on session packet).calls answers) ≡ true → slice_index (said_to session packet answers) 0 ≡ 0xD0
fault_said session packet answers enough fails = by (come_of (ruling_on session packet).calls answers) refl fails
  where
    by : (come : Answer) → come_of (ruling_on session packet).calls answers ≡ come → is_err come ≡ true → slice_index (said_to session packet answers) 0 ≡ 0xD0
    by (Ok done) e is = cc
    by (Err Failed) e is = ap (λ (a : Answer). slice_index (octets_said packet session.maximum (said_after session.offered session.course (kind_heard session packet) (verdict_or (ruling_on session packet).verdict a))) 0) e
    by (Err NoMemory) e is = absurd (come_enough (ruling_on session packet).calls answers enough e)

-- success is said to a PUT that stores
success_said : (session : Serving) (past : List Heard) (packet : List ℕ) (answers : List Answer) → progress_in session.course ≡ progress_of (open_headers session.maximum past)
    → length (beyond (stored_by session.maximum past) (stored_by session.maximum (past ++ (packet, is_err (come_of (ruling_on session packet).calls answers)) ∷ [])))
    ≡ cond (says_success session.maximum (record { request = packet; response = said_to session packet answers })) 1 0
success_said session past packet answers progress =
    let m = session.maximum in
    let gains = success_is_stored session past packet answers progress in
    ap (λ (os : List Object). length (beyond (stored_by m past) os)) gains.stored_is
    ∙ (ap length (drop_front (stored_by m past) gains.gained)
    ∙ (gains.counted ∙ ap (λ (b : Bool). cond b 1 0) (stores_read (packet_in Request m packet) packet m (heard_with session packet answers).saying)))

module _ (settings : Settings) (before : List Object) (past : List Marked) (at : Reacted) (h : Holds settings before past at) where
  abbrev service : Service
  service = at.server.listener.service

  -- The packet is whole with an occurrence over a transport, and the session there stands for what was heard.
  record News (t : Transport) (one : Occurrence) (packet : List ℕ) : Type 0 where
    here : new_packets t (unmarked past) one ≡ packet ∷ []
    on : closes (psm_of t) one ≡ false
    marked : (mark_of (unmarked past) at one).refused ≡ is_refused t packet service at.gift.answers
    progress : progress_in (session_of t service.sessions).course ≡ progress_of (open_headers (own_maximum t settings) (heard_over t past))

  module _ (t : Transport) (one : Occurrence) (packet : List ℕ) (n : News t one packet) where
    abbrev most : ℕ
    most = own_maximum t settings

    abbrev last : Marked
    last = mark_of (unmarked past) at one

    heard_with_it : (refused : Bool) → is_refused t packet service at.gift.answers ≡ refused → heard_over t (past ++ last ∷ []) ≡ heard_over t past ++ (packet, refused) ∷ []
    heard_with_it refused is =
        heard_more t past last ∙ cond-false _ _ _ n.on ∙ ap₂ (λ (b : Bool) (ps : List (List ℕ)). heard_over t past ++ heard_as b ps) (n.marked ∙ is) n.here

    -- it was ignored: nothing is said, and nothing is stored
    passed_over : is_ignored t packet service ≡ true → SaysMark settings t past at one packet
    passed_over ignored =
        let heard = heard_with_it true (ap (λ (b : Bool). b || fails_at t packet service at.gift.answers) ignored) in
        record {
          fault = λ taken fail. absurd (never (sym ignored ∙ taken));
          success = ap (λ (hs : List Heard). length (beyond (stored_over settings t past) (stored_by most hs))) heard
              ∙ ap length (stored_more most (heard_over t past) (packet, true))
              ∙ sym (no_success (is_some (put_within most packet)))
              ∙ ap (λ (r : List ℕ). cond (says_success most (record { request = packet; response = r })) 1 0) (sym (cond-true _ _ _ ignored));
        }
      where
        never : true ≡ false → ⊥
        never e = cc

        no_success : (put : Bool) → (let n : ℕ = cond (put && false) 1 0 in n) ≡ 0
        no_success true = refl
        no_success false = refl

    answered : is_ignored t packet service ≡ false → MayCome NoneShort (IsAlone settings (unmarked past) service) settings (unmarked past) at one → SaysMark settings t past at one packet
    answered taken may =
        let stands = h.upholds.listens.serves.stands in
        let session : Serving = session_of t service.sessions in
        let fails = fails_at t packet service at.gift.answers in
        let heard = heard_with_it fails (ap (λ (b : Bool). b || fails) taken) in
        let alone = (subst (AllByRecursion (IsAlone settings (unmarked past) service t)) n.here (may.requests.heard t)).0 in
        let is = cond-false _ _ _ taken ∙ response_is t packet service.sessions at.gift alone.alone in
        let progress : progress_in session.course ≡ progress_of (open_headers session.maximum (heard_over t past)) =
        n.progress ∙ ap (λ (k : ℕ). progress_of (open_headers k (heard_over t past))) (sym (stands.maxima t)) in
        let stored : length (beyond (stored_by most (heard_over t past)) (stored_by most (heard_over t past ++ (packet, fails) ∷ []))) ≡ cond (says_success most (record { request = packet; response = said_to session packet at.gift.answers })) 1 0 =
        subst (λ (k : ℕ). length (beyond (stored_by k (heard_over t past)) (stored_by k (heard_over t past ++ (packet, fails) ∷ []))) ≡ cond (says_success k (record { request = packet; response = said_to session packet at.gift.answers })) 1 0) (stands.maxima t)
        (success_said session (heard_over t past) packet at.gift.answers progress) in
        record {
          fault = λ heeded fail. ap (λ (r : List ℕ). slice_index r 0) is ∙ fault_said session packet at.gift.answers h.upholds.listens.serves.none_short fail;
          success = ap (λ (hs : List Heard). length (beyond (stored_over settings t past) (stored_by most hs))) heard
              ∙ (stored ∙ ap (λ (r : List ℕ). cond (says_success most (record { request = packet; response = r })) 1 0) (sym is));
        }

    said_so : MayCome NoneShort (IsAlone settings (unmarked past) service) settings (unmarked past) at one → SaysMark settings t past at one packet
    said_so may = by (is_ignored t packet service) refl
      where
        by : (ignored : Bool) → is_ignored t packet service ≡ ignored → SaysMark settings t past at one packet
        by true is = passed_over is
        by false is = answered is may

  abbrev AllSaid : Transport → Occurrence → Type 0
  AllSaid t one = AllByRecursion (SaysMark settings t past at one) (new_packets t (unmarked past) one)

  none_said : (t : Transport) (one : Occurrence) → new_packets t (unmarked past) one ≡ [] → AllSaid t one
  none_said t one none = subst (AllByRecursion (SaysMark settings t past at one)) (sym none) tt

  -- ---- over L2CAP

  direct_news : (sdu : List ℕ) → News L2cap (Came 0x1001 sdu) sdu
  direct_news sdu =
      let one : Occurrence = Came 0x1001 sdu in
      let refused = is_refused L2cap sdu service at.gift.answers in
      record {
        here = news_are (unmarked past) one;
        on = refl;
        marked = ap₂ (λ a b. a || b) (ap (any_refused L2cap service at.gift.answers) (news_are (unmarked past) one)) (ap (any_refused Rfcomm service at.gift.answers) (no_carried settings (unmarked past) [] [] [] [] one refl refl))
            ∙ (or-false (refused || false) ∙ or-false refused);
        progress = h.upholds.listens.serves.stands.progress L2cap;
      }

  came_said : (sdu : List ℕ) (psm : ℕ) → MayCome NoneShort (IsAlone settings (unmarked past) service) settings (unmarked past) at (Came psm sdu) → AllSaid L2cap (Came psm sdu)
  came_said sdu psm =
      by_psm (λ p. MayCome NoneShort (IsAlone settings (unmarked past) service) settings (unmarked past) at (Came p sdu) → AllSaid L2cap (Came p sdu))
      (λ may. none_said L2cap (Came 0x0001 sdu) (news_are (unmarked past) (Came 0x0001 sdu)))
      (λ may. none_said L2cap (Came 0x0003 sdu) (news_are (unmarked past) (Came 0x0003 sdu)))
      (λ may. subst (AllByRecursion (SaysMark settings L2cap past at (Came 0x1001 sdu))) (sym (news_are (unmarked past) (Came 0x1001 sdu))) (said_so L2cap (Came 0x1001 sdu) sdu (direct_news sdu) may, tt))
      (λ p a b c may. none_said L2cap (Came p sdu) (news_are (unmarked past) (Came p sdu) ∙ ap (λ (o : Option (List ℕ)). cons_option o []) (cond-false _ _ _ c)))
      psm

  direct_said : (one : Occurrence) → MayCome NoneShort (IsAlone settings (unmarked past) service) settings (unmarked past) at one → AllSaid L2cap one
  direct_said (Came psm sdu) may = came_said sdu psm may
  direct_said (Went psm sdu) may = none_said L2cap (Went psm sdu) (news_are (unmarked past) (Went psm sdu))
  direct_said (Closed psm) may = none_said L2cap (Closed psm) (news_are (unmarked past) (Closed psm) ∙ by (closes object_psm (Closed psm)))
    where
      by : (closing : Bool) → (let none : List (List ℕ) = [] in cond closing none none ≡ none)
      by true = refl
      by false = refl
  direct_said LinkDown may = none_said L2cap LinkDown (news_are (unmarked past) LinkDown)
  direct_said Asked may = none_said L2cap Asked (news_are (unmarked past) Asked)
  direct_said (Answering answers) may = none_said L2cap (Answering answers) (news_are (unmarked past) (Answering answers))

  -- ---- over RFCOMM

  holding : Holding settings (unmarked past) at
  holding = holding_of settings before past at h

  module _ (sdu packet : List ℕ) (may : MayCome NoneShort (IsAlone settings (unmarked past) service) settings (unmarked past) at (Came rfcomm_psm sdu)) (here : new_packets Rfcomm (unmarked past) (Came rfcomm_psm sdu) ≡ packet ∷ []) where
    abbrev long : ℕ
    long = own_maximum Rfcomm settings

    -- behind octets that begin no packet none is whole
    unbroken : (breaks : Bool) → at.server.listener.breaks ≡ breaks → breaks ≡ false
    unbroken false is = refl
    unbroken true is = absurd (some (sym here ∙ new ∙ none))
      where
        off : BrokeOff long (heard_over Rfcomm past) h.got h.upholds.listens.tail
        off = subst (IsCut long (heard_over Rfcomm past) h.got at.server.held h.upholds.listens.tail) is h.upholds.listens.cut

        frame : FrameIsHeard sdu at.server
        frame = may.frame sdu refl

        ys : List ℕ
        ys = handed (up sdu at.server.mux)

        octets : octets_heard (unmarked past ++ Came rfcomm_psm sdu ∷ []) ≡ h.got ++ ys
        octets = came_octets settings (unmarked past) at holding sdu frame.room frame.behind may.orderly ∙ ap (λ (xs : List ℕ). xs ++ ys) h.heard

        new : new_packets Rfcomm (unmarked past) (Came rfcomm_psm sdu) ≡ obex_packets (off.rest ++ ys)
        new = ap₂ (λ (old now : List ℕ). beyond (obex_packets old) (obex_packets now)) h.heard octets ∙ (listening.news_are (heard_over Rfcomm past) h.got off.rest ys h.upholds.listens.packets off.whole).1

        none : obex_packets (off.rest ++ ys) ≡ []
        none = still_none long off.rest ys (obex_packets (off.rest ++ ys)) (seven_of settings) off.long off.wrong (obex_packets-right (off.rest ++ ys))
            (subst (AllByRecursion (λ (p : List ℕ). has_bad_length (packet_in Request long p) ≡ false)) new may.requests.lengths)

        some : packet ∷ [] ≡ [] → ⊥
        some e = cc

    quiet : (breaks : Bool) → at.server.listener.breaks ≡ breaks → breaks ≡ false → h.upholds.listens.tail ≡ []
    quiet false is e = let cut : GoesOn long (heard_over Rfcomm past) h.got at.server.held h.upholds.listens.tail = subst (IsCut long (heard_over Rfcomm past) h.got at.server.held h.upholds.listens.tail) is h.upholds.listens.cut in cut.quiet
    quiet true is e = absurd (let f : true ≡ false = e in cc)

    carried_news : News Rfcomm (Came rfcomm_psm sdu) packet
    carried_news =
        let one : Occurrence = Came rfcomm_psm sdu in
        let none = quiet at.server.listener.breaks refl (unbroken at.server.listener.breaks refl) in
        record {
          here = here;
          on = refl;
          marked = ap₂ (λ a b. a || b) (ap (any_refused L2cap service at.gift.answers) (news_are (unmarked past) one)) (ap (any_refused Rfcomm service at.gift.answers) here) ∙ or-false (is_refused Rfcomm packet service at.gift.answers);
          progress = h.upholds.listens.serves.stands.progress Rfcomm
              ∙ ap (λ (hs : List Heard). progress_of (open_headers long hs)) (ap (λ (hs : List Heard). heard_over Rfcomm past ++ hs) none ∙ append-nil (heard_over Rfcomm past));
        }

  framed_said : (sdu : List ℕ) → MayCome NoneShort (IsAlone settings (unmarked past) service) settings (unmarked past) at (Came rfcomm_psm sdu) → AllSaid Rfcomm (Came rfcomm_psm sdu)
  framed_said sdu may = by (new_packets Rfcomm (unmarked past) (Came rfcomm_psm sdu)) refl
    where
      by : (news : List (List ℕ)) → new_packets Rfcomm (unmarked past) (Came rfcomm_psm sdu) ≡ news → AllByRecursion (SaysMark settings Rfcomm past at (Came rfcomm_psm sdu)) news
      by [] is = tt
      by (packet ∷ []) is = (said_so Rfcomm (Came rfcomm_psm sdu) packet (carried_news sdu packet may is) may, tt)
      by (packet ∷ other ∷ news) is = absurd (let few = subst (λ (ps : List (List ℕ)). length ps ≤ 1) is may.requests.single in omega (arith, few))

  module _ (orderly : IsOrderly at.server.mux.closed) where
    quiet_said : (one : Occurrence) → closes rfcomm_psm one ≡ false → come_by one ≡ [] → IsOwn one at.server → AllSaid Rfcomm one
    quiet_said one on none own = none_said Rfcomm one (none_new (unmarked past) one (same_octets settings (unmarked past) at holding one on none own orderly))

    carried_said : (one : Occurrence) → MayCome NoneShort (IsAlone settings (unmarked past) service) settings (unmarked past) at one → AllSaid Rfcomm one
    carried_said (Came psm sdu) may =
        by_psm (λ p. MayCome NoneShort (IsAlone settings (unmarked past) service) settings (unmarked past) at (Came p sdu) → AllSaid Rfcomm (Came p sdu))
        (λ m. quiet_said (Came 0x0001 sdu) refl refl tt) (λ m. framed_said sdu m) (λ m. quiet_said (Came 0x1001 sdu) refl refl tt)
        (λ p a b c m. quiet_said (Came p sdu) refl (ap (λ (here : Bool). sdu_if here sdu) b) tt) psm may
    carried_said (Went psm sdu) may = quiet_said (Went psm sdu) refl refl may.own
    carried_said (Closed psm) may = by (psm == rfcomm_psm) refl
      where
        by : (closing : Bool) → (psm == rfcomm_psm) ≡ closing → AllSaid Rfcomm (Closed psm)
        by true is = none_said Rfcomm (Closed psm) (none_closed (unmarked past) (Closed psm) is)
        by false is = quiet_said (Closed psm) is refl tt
    carried_said LinkDown may = none_said Rfcomm LinkDown (none_closed (unmarked past) LinkDown refl)
    carried_said Asked may = quiet_said Asked refl refl tt
    carried_said (Answering answers) may = quiet_said (Answering answers) refl refl tt

    marks_said : (one : Occurrence) → MayCome NoneShort (IsAlone settings (unmarked past) service) settings (unmarked past) at one → SayMarks settings past at one
    marks_said one may L2cap = direct_said one may
    marks_said one may Rfcomm = carried_said one may

all_said : (settings : Settings) (before : List Object) (occurrences : List Occurrence) (past : List Marked) (at : Reacted) → Holds settings before past at → IsOrderly at.server.mux.closed → AllMayMiss settings (unmarked past) at occurrences → AllSayMarks settings past at occurrences
all_said settings before [] past at h orderly all = tt
all_said settings before (one ∷ rest) past at h orderly all =
    let more = holds_more settings before past one at h all.0 in
    let last : Marked = mark_of (unmarked past) at one in
    let holds : Holds settings before (past ++ last ∷ []) (done one at) = subst (λ (b : Bool). Holds settings before (past ++ record { occurrence = one; refused = b } ∷ []) (done one at)) more.is more.holds in (
      marks_said settings before past at h orderly one all.0,
      all_said settings before rest (past ++ last ∷ []) (done one at) holds all.0.orderly (subst (λ (os : List Occurrence). AllMayMiss settings os (done one at) rest) (sym (unmarked_more past last)) all.1),
    )

pub gains-all_but_refusals : GainsAllButRefusals
gains-all_but_refusals settings before occurrences all =
    let w = holds_all settings before occurrences [] (new_over settings before) (first_holds settings before) all in
    record { gains = ap stored_in w.holds.upholds.listens.serves.stands.holds; few = w.few; said = all_said settings before occurrences [] (new_over settings before) (first_holds settings before) tt all }

pub gains-all_but_faults : GainsAllButFaults
gains-all_but_faults settings before occurrences all = (
  gains-all_but_refusals settings before occurrences (all_alone settings before occurrences [] (new_over settings before) all),
  none_from settings before occurrences [] (new_over settings before) all,
)
