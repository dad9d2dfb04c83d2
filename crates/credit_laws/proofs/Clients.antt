-- A client pays for what it sends with what its peer grants it.
use Rattle.std.proofs.Common.{◌≡◌, ◌<◌, ℕ, ◌==◌, Bool, true, false, ◌&&◌, cond, List, [], ◌∷◌, ◌++◌, map, drop, length, Option, Some, None, Result, Ok, Err, refl, sym, ap, subst, ◌∙◌, append-nil, append_assoc}
use Rattle.std.specs.Prelude.{not}
use Rattle.std.specs.List.{flat_map}
use Rattle.inbox_laws.specs.bt_base.specs.declared.ports.PortFault.{PortFault}
use Rattle.inbox_laws.specs.bt_base.specs.declared.settings.Transport.{Transport}
use Rattle.inbox_laws.specs.bt_base.specs.declared.settings.Transport.TheVariants.{L2cap, Rfcomm}
use Rattle.inbox_laws.specs.push_terms.specs.declared.outcome.Outcome.{Outcome}
use Rattle.inbox_laws.specs.rfcomm_frames.specs.declared.connection.Role.TheVariants.{Initiator, Responder}
use Rattle.inbox_laws.specs.rfcomm_frames.specs.Frames.{PlainFrame}
use Rattle.inbox_laws.specs.rfcomm_frames.specs.FrameReading.{frame_answer, is_empty}
use Rattle.inbox_laws.specs.rfcomm_frames.specs.Multiplexing.{Framed}
use Rattle.inbox_laws.specs.rfcomm_model.specs.Hearing.{up, hears}
use Rattle.inbox_laws.specs.rfcomm_model.specs.Machine.{Mux, is_ready, taken_count, sends, leaves}
use Rattle.inbox_laws.specs.rfcomm_model.specs.Saying.{Said, next}
use Rattle.inbox_laws.specs.rfcomm_model.specs.Sides.{heard_frame}
use Rattle.inbox_laws.specs.push_model.specs.declared.course.Contact.TheVariants.{Closing}
use Rattle.inbox_laws.specs.push_model.specs.declared.course.Point.{Point}
use Rattle.inbox_laws.specs.push_model.specs.declared.course.Point.TheVariants.{Due, Asked}
use Rattle.inbox_laws.specs.push_model.specs.declared.course.Stage.{Stage}
use Rattle.inbox_laws.specs.push_model.specs.declared.course.Stage.TheVariants.{Rest, Object, ObjectEnd, LinkEnd, Over}
use Rattle.inbox_laws.specs.push_model.specs.Client.{Client}
use Rattle.inbox_laws.specs.push_model.specs.Events as events
use Rattle.inbox_laws.specs.push_model.specs.Laws.{Deed, Hears, Asks, Finishes, Cancels, done}
use Rattle.inbox_laws.specs.push_model.specs.Responding.{is_object, hears_up}
use Rattle.inbox_laws.specs.push_model.specs.Server.{rfcomm_psm}
use Rattle.inbox_laws.specs.push_model.specs.Steps as steps
use Rattle.inbox_laws.specs.push_model.specs.Steps.{Part, Stepped, Made, Ask, Connect, Put, Abort, Disconnect, Close, Nothing, requests, filled, said_by, says, sends_muxed, takes_some, asks_through, asks_muxed, goes_muxed, steps_muxed, steps_object, steps_at, tells_end, rests, may_ask, next_ask}
use Rattle.inbox_laws.specs.push_laws.specs.Carriage.{frames_of, frames_by}
use Rattle.inbox_laws.specs.push_laws.specs.Parties.{sdu_if}
use Rattle.inbox_laws.specs.push_laws.proofs.Driving.{Stays, up_stays, news_stays, cancels_stays, requests_same}
use Rattle.inbox_laws.specs.push_laws.proofs.Late.{IsLate, by_late, Anchor, anchor_of, all_late}
use Rattle.credit_laws.specs.Clients.{own_frame, framed_by, all_framed, ClientsAreCovered}
use Rattle.credit_laws.proofs.Paying.{Paid}
use Rattle.credit_laws.proofs.Aside.{heard_paid, PaysOn, hears_on, says_on, sends_on, leaves_on, on_paid, new_on}

-- ---- a step on the channel of the object

module _ (d : ℕ) (some : 0 < d) (fs : List Framed) where
  abbrev At : Client → Type 0
  At client = PaysOn d client.mux fs

  abbrev Then : Stepped → Type 0
  Then s = PaysOn d s.client.mux (fs ++ map own_frame (frames_of s.step))

  none_then : (m : Mux) → PaysOn d m fs → PaysOn d m (fs ++ [])
  none_then m p = subst (PaysOn d m) (sym (append-nil fs)) p

  fills : (client : Client) → At client → At (filled client)
  fills client p = by (is_ready client.mux && not (is_empty client.rest))
    where
      by : (b : Bool) → At (cond b (record client { mux = sends client.rest client.mux; rest = drop (taken_count (length client.rest) client.mux) client.rest }) client)
      by true = sends_on d client.rest client.mux fs p
      by false = p

  said_then : (said : Option Said) (client : Client) (parts : List Part) → next client.mux ≡ said → At client → Then (said_by said client parts)
  said_then None client parts is p = none_then client.mux p
  said_then (Some said) client parts is p = says_on d client.mux said fs some is p

  says_then : (client : Client) (parts : List Part) → At client → Then (says client parts)
  says_then client parts p = let full = filled client in said_then (next full.mux) full parts refl (fills client p)

  sent_then : (outcome : Result (Unit {0}) PortFault) (request : Made) → At request.client → Then (sends_muxed outcome request)
  sent_then (Ok done) request p = says_then request.client request.left p
  sent_then (Err fault) request p = none_then request.client.mux p

  through_then : (ask : Ask) (client : Client) (parts : List Part) → At client → Then (asks_through ask client parts)
  through_then ask client parts p =
      let request = requests ask (record client { rest = [] }) parts in
      by (takes_some client.mux) (sent_then request.outcome request (subst (λ (m : Mux). PaysOn d m fs) (sym (requests_same client.mux ask (record client { rest = [] }) parts refl)) p))
    where
      by : (b : Bool) → Then (let request = requests ask (record client { rest = [] }) parts in sends_muxed request.outcome request) → Then (cond b (let request = requests ask (record client { rest = [] }) parts in sends_muxed request.outcome request) (rests client parts))
      by true t = t
      by false t = none_then client.mux p

  muxed_then : (ask : Ask) (client : Client) (parts : List Part) → At client → Then (asks_muxed ask client parts)
  muxed_then Close client parts p = says_then (record client { mux = leaves client.mux; contact = Closing }) parts (leaves_on d client.mux fs p)
  muxed_then Nothing client parts p = none_then client.mux p
  muxed_then Connect client parts p = through_then Connect client parts p
  muxed_then Put client parts p = through_then Put client parts p
  muxed_then Abort client parts p = through_then Abort client parts p
  muxed_then Disconnect client parts p = through_then Disconnect client parts p

  goes_then : (said : Option Said) (client : Client) (parts : List Part) → next client.mux ≡ said → At client → Then (goes_muxed said client parts)
  goes_then None client parts is p = by (may_ask (record client { frame = None }))
    where
      by : (b : Bool) → Then (cond b (asks_muxed (next_ask (record client { frame = None })) (record client { frame = None }) parts) (rests (record client { frame = None }) parts))
      by true = muxed_then (next_ask (record client { frame = None })) (record client { frame = None }) parts p
      by false = none_then client.mux p
  goes_then (Some said) client parts is p = said_then (Some said) client parts is p

  steps_then : (client : Client) (parts : List Part) → At client → Then (steps_muxed client parts)
  steps_then client parts p = let full = filled client in goes_then (next full.mux) full parts refl (fills client p)

-- ---- a client

pub record State (d : ℕ) (client : Client) (fs : List Framed) : Type 0 where
  pub late : IsLate client.stage
  pub muxed : client.transport ≡ Rfcomm
  pub psm_is : client.psm ≡ rfcomm_psm
  pub open_pays : is_object client.stage ≡ true → PaysOn d client.mux fs
  pub paid : Paid d Initiator fs

-- behind a deed it is late still, with its channel
after_deed : (d : ℕ) (deed : Deed) (client : Client) (fs new : List Framed) → State d client fs → (is_object (done deed client).stage ≡ true → PaysOn d (done deed client).mux new) → Paid d Initiator new → State d (done deed client) new
after_deed d deed client fs new s pays paid =
    let late = all_late (anchor_of client) (deed ∷ []) client (s.late, refl) in
    record {
      late = late.0;
      muxed = ap (λ (a : Anchor). a.transport) late.1 ∙ s.muxed;
      psm_is = ap (λ (a : Anchor). a.psm) late.1 ∙ s.psm_is;
      open_pays = pays;
      paid = paid;
    }

-- the multiplexer is as it was
still_deed : (d : ℕ) (deed : Deed) (client : Client) (fs : List Framed) → State d client fs → (is_object (done deed client).stage ≡ true → is_object client.stage ≡ true) → (done deed client).mux ≡ client.mux → State d (done deed client) (fs ++ [])
still_deed d deed client fs s was same =
    subst (State d (done deed client)) (sym (append-nil fs)) (after_deed d deed client fs fs s (λ here. subst (λ (m : Mux). PaysOn d m fs) (sym same) (s.open_pays (was here))) s.paid)

start : (client : Client) → IsLate client.stage → Stays client.mux client.rest (is_object client.stage) client
start client late = (late, (λ e. e), refl, refl)

no_sdu : (news : events.News) → ((at : ℕ) (sdu : List ℕ) → news ≡ events.Sdu at sdu → ⊥) → (d : ℕ) (client : Client) (fs : List Framed) → State d client fs → State d (done (Hears news) client) (fs ++ [])
no_sdu news none d client fs s =
    let stays = news_stays client.mux client.rest (is_object client.stage) news client none (start client s.late) in
    still_deed d (Hears news) client fs s stays.1 stays.2

-- an SDU comes while it is on the channel of its object, or behind that
sdu_open : (d : ℕ) (at : ℕ) (sdu : List ℕ) (client : Client) (fs : List Framed) → 0 < d → State d client fs → client.stage ≡ Object → State d (done (Hears (events.Sdu at sdu)) client) (fs ++ flat_map (λ x. heard_frame Responder (frame_answer x)) (sdu_if (at == rfcomm_psm) sdu))
sdu_open d at sdu client fs some s here = by (at == rfcomm_psm) refl
  where
    hears_it : events.hears_news (events.Sdu at sdu) client ≡ cond (at == rfcomm_psm) (hears_up (up sdu client.mux) (record client { mux = hears sdu client.mux })) client
    hears_it =
        ap (λ (st : Stage). events.sdu_at st at sdu client) here
        ∙ (ap (λ (n : ℕ). cond (at == n) (events.hears_object client.transport sdu client) client) s.psm_is ∙ ap (λ (t : Transport). cond (at == rfcomm_psm) (events.hears_object t sdu client) client) s.muxed)

    by : (b : Bool) → (at == rfcomm_psm) ≡ b → State d (done (Hears (events.Sdu at sdu)) client) (fs ++ flat_map (λ x. heard_frame Responder (frame_answer x)) (sdu_if b sdu))
    by false is =
        let same : done (Hears (events.Sdu at sdu)) client ≡ client = hears_it ∙ ap (λ (b : Bool). cond b (hears_up (up sdu client.mux) (record client { mux = hears sdu client.mux })) client) is in
        subst (λ (c : Client). State d c (fs ++ [])) (sym same) (subst (State d client) (sym (append-nil fs)) s)
    by true is =
        let heard : Client = record client { mux = hears sdu client.mux } in
        let after : done (Hears (events.Sdu at sdu)) client ≡ hears_up (up sdu client.mux) heard = hears_it ∙ ap (λ (b : Bool). cond b (hears_up (up sdu client.mux) heard) client) is in
        let new : List Framed = fs ++ (heard_frame Responder (frame_answer sdu) ++ []) in
        let stays = up_stays (hears sdu client.mux) client.rest (is_object client.stage) (up sdu client.mux) heard (s.late, (λ e. e), refl, refl) in
        let pays : PaysOn d (hears sdu client.mux) new =
        subst (PaysOn d (hears sdu client.mux)) (ap (λ (xs : List Framed). fs ++ xs) (sym (append-nil (heard_frame Responder (frame_answer sdu)))))
        (hears_on d sdu client.mux fs some (s.open_pays (ap is_object here))) in
        after_deed d (Hears (events.Sdu at sdu)) client fs new s
        (λ there. subst (λ (c : Client). PaysOn d c.mux new) (sym after) (subst (λ (m : Mux). PaysOn d m new) (sym stays.2) pays))
        (on_paid d (hears sdu client.mux) new pays)

sdu_paid : (d : ℕ) (fs : List Framed) (b : Bool) (sdu : List ℕ) → Paid d Initiator fs → Paid d Initiator (fs ++ flat_map (λ x. heard_frame Responder (frame_answer x)) (sdu_if b sdu))
sdu_paid d fs true sdu paid = subst (λ (xs : List Framed). Paid d Initiator (fs ++ xs)) (sym (append-nil (heard_frame Responder (frame_answer sdu)))) (heard_paid d fs (frame_answer sdu) paid)
sdu_paid d fs false sdu paid = subst (Paid d Initiator) (sym (append-nil fs)) paid

sdu_late : (d : ℕ) (at : ℕ) (sdu : List ℕ) (client : Client) (fs new : List Framed) → State d client fs → Paid d Initiator new → is_object client.stage ≡ false → done (Hears (events.Sdu at sdu)) client ≡ client → State d (done (Hears (events.Sdu at sdu)) client) new
sdu_late d at sdu client fs new s paid off same =
    after_deed d (Hears (events.Sdu at sdu)) client fs new s
    (λ here. let never : false ≡ true = sym off ∙ (ap (λ (c : Client). is_object c.stage) (sym same) ∙ here) in absurd cc) paid

outside_same : (b : Bool) (t : Transport) (client : Client) → t ≡ Rfcomm → cond b (events.hears_outside t client) client ≡ client
outside_same true Rfcomm client is = refl
outside_same false t client is = refl
outside_same true L2cap client is = cc

sdu_state : (d : ℕ) (at : ℕ) (sdu : List ℕ) (client : Client) (fs : List Framed) → 0 < d → State d client fs → State d (done (Hears (events.Sdu at sdu)) client) (fs ++ flat_map (λ x. heard_frame Responder (frame_answer x)) (sdu_if (at == rfcomm_psm) sdu))
sdu_state d at sdu client fs some s =
    by_late (λ st. client.stage ≡ st → State d (done (Hears (events.Sdu at sdu)) client) (fs ++ flat_map (λ x. heard_frame Responder (frame_answer x)) (sdu_if (at == rfcomm_psm) sdu)))
    (λ here. sdu_open d at sdu client fs some s here)
    (λ point here. off (ObjectEnd point) here refl (ap (λ (st : Stage). events.sdu_at st at sdu client) here ∙ outside_same (at == client.psm) client.transport client s.muxed))
    (λ point here. off (LinkEnd point) here refl (ap (λ (st : Stage). events.sdu_at st at sdu client) here))
    (λ here. off Over here refl (ap (λ (st : Stage). events.sdu_at st at sdu client) here))
    (λ here. off Rest here refl (ap (λ (st : Stage). events.sdu_at st at sdu client) here))
    client.stage s.late refl
  where
    off : (st : Stage) → client.stage ≡ st → is_object st ≡ false → done (Hears (events.Sdu at sdu)) client ≡ client → State d (done (Hears (events.Sdu at sdu)) client) (fs ++ flat_map (λ x. heard_frame Responder (frame_answer x)) (sdu_if (at == rfcomm_psm) sdu))
    off st here none same = sdu_late d at sdu client fs (fs ++ flat_map (λ x. heard_frame Responder (frame_answer x)) (sdu_if (at == rfcomm_psm) sdu)) s (sdu_paid d fs (at == rfcomm_psm) sdu s.paid) (ap is_object here ∙ none) same

-- ---- it is asked for a step

-- a step that sends nothing, and is not on that channel
record Aside (client : Client) (s : Stepped) : Type 0 where
  none : frames_of s.step ≡ []
  mux_is : s.client.mux ≡ client.mux
  here : is_object s.client.stage ≡ true → is_object client.stage ≡ true

record Stepping (d : ℕ) (client : Client) (fs : List Framed) (s : Stepped) : Type 0 where
  open_pays : is_object s.client.stage ≡ true → PaysOn d s.client.mux (fs ++ map own_frame (frames_of s.step))
  paid : Paid d Initiator (fs ++ map own_frame (frames_of s.step))

aside_steps : (d : ℕ) (client : Client) (fs : List Framed) (s : Stepped) → State d client fs → Aside client s → Stepping d client fs s
aside_steps d client fs s state a =
    let same : fs ++ map own_frame (frames_of s.step) ≡ fs = ap (λ (frames : List PlainFrame). fs ++ map own_frame frames) a.none ∙ append-nil fs in
    record {
      open_pays = λ here. subst (PaysOn d s.client.mux) (sym same) (subst (λ (m : Mux). PaysOn d m fs) (sym a.mux_is) (state.open_pays (a.here here)));
      paid = subst (Paid d Initiator) (sym same) state.paid;
    }

step_if : (d : ℕ) (client : Client) (fs : List Framed) (b : Bool) (x y : Stepped) → Stepping d client fs x → Stepping d client fs y → Stepping d client fs (cond b x y)
step_if d client fs true x y p q = p
step_if d client fs false x y p q = q

tells_aside : (cause : Option Outcome) (client : Client) (parts : List Part) → Aside client (tells_end cause client parts)
tells_aside None client parts = record { none = refl; mux_is = refl; here = λ e. e }
tells_aside (Some outcome) client parts = record { none = refl; mux_is = refl; here = λ e. let never : false ≡ true = e in absurd cc }

object_steps : (d : ℕ) (client : Client) (parts : List Part) (fs : List Framed) (t : Transport) → 0 < d → t ≡ Rfcomm → PaysOn d client.mux fs → Stepping d client fs (steps_object t client parts)
object_steps d client parts fs L2cap some is p = cc
object_steps d client parts fs Rfcomm some is p =
    let then = steps_then d some fs client parts p in
    record { open_pays = λ here. then; paid = on_paid d (steps_muxed client parts).client.mux (fs ++ map own_frame (frames_of (steps_muxed client parts).step)) then }

stage_steps : (d : ℕ) (client : Client) (parts : List Part) (fs : List Framed) → 0 < d → State d client fs → Stepping d client fs (steps_at client.stage client parts)
stage_steps d client parts fs some s =
    by_late (λ st. client.stage ≡ st → Stepping d client fs (steps_at st client parts))
    (λ here. object_steps d client parts fs client.transport some s.muxed (s.open_pays (ap is_object here)))
    (λ point here. aside_steps d client fs (steps_at (ObjectEnd point) client parts) s (ending point))
    (λ point here. aside_steps d client fs (steps_at (LinkEnd point) client parts) s (leaving point))
    (λ here. aside_steps d client fs (tells_end client.cause client parts) s (tells_aside client.cause client parts))
    (λ here. aside_steps d client fs (rests client parts) s (record { none = refl; mux_is = refl; here = λ e. e }))
    client.stage s.late refl
  where
    ending : (point : Point) → Aside client (steps_at (ObjectEnd point) client parts)
    ending Due = record { none = refl; mux_is = refl; here = λ e. let never : false ≡ true = e in absurd cc }
    ending Asked = record { none = refl; mux_is = refl; here = λ e. e }

    leaving : (point : Point) → Aside client (steps_at (LinkEnd point) client parts)
    leaving Due = record { none = refl; mux_is = refl; here = λ e. let never : false ≡ true = e in absurd cc }
    leaving Asked = record { none = refl; mux_is = refl; here = λ e. e }

asked_state : (d : ℕ) (client : Client) (parts : List Part) (fs : List Framed) → 0 < d → State d client fs → State d (done (Asks parts) client) (fs ++ map own_frame (frames_by (Asks parts) client))
asked_state d client parts fs some s =
    let one = step_if d client fs client.failed (record { client = client; step = steps.NoMemory; left = parts }) (if_given client.given)
    (aside_steps d client fs (record { client = client; step = steps.NoMemory; left = parts }) s (record { none = refl; mux_is = refl; here = λ e. e }))
    (step_if d client fs client.given (rests client parts) (steps_at client.stage client parts) (aside_steps d client fs (rests client parts) s (record { none = refl; mux_is = refl; here = λ e. e })) (stage_steps d client parts fs some s)) in
    after_deed d (Asks parts) client fs (fs ++ map own_frame (frames_by (Asks parts) client)) s one.open_pays one.paid
  where
    if_given : Bool → Stepped
    if_given b = cond b (rests client parts) (steps_at client.stage client parts)

-- ---- all deeds

pub deed_state : (d : ℕ) (deed : Deed) (client : Client) (fs : List Framed) → 0 < d → State d client fs → State d (done deed client) (fs ++ framed_by deed client)
deed_state d (Hears events.LinkUp) client fs some s = no_sdu events.LinkUp (λ at sdu e. cc) d client fs s
deed_state d (Hears (events.LinkDown reason)) client fs some s = no_sdu (events.LinkDown reason) (λ at sdu e. cc) d client fs s
deed_state d (Hears (events.LinkFailed status)) client fs some s = no_sdu (events.LinkFailed status) (λ at sdu e. cc) d client fs s
deed_state d (Hears (events.ChannelOpen at mtu)) client fs some s = no_sdu (events.ChannelOpen at mtu) (λ other sdu e. cc) d client fs s
deed_state d (Hears (events.ChannelClosed at cause)) client fs some s = no_sdu (events.ChannelClosed at cause) (λ other sdu e. cc) d client fs s
deed_state d (Hears (events.Sdu at sdu)) client fs some s =
    subst (λ (xs : List Framed). State d (done (Hears (events.Sdu at sdu)) client) (fs ++ xs)) (sym (append-nil (flat_map (λ x. heard_frame Responder (frame_answer x)) (sdu_if (at == rfcomm_psm) sdu)))) (sdu_state d at sdu client fs some s)
deed_state d (Hears events.FeaturesTold) client fs some s = no_sdu events.FeaturesTold (λ at sdu e. cc) d client fs s
deed_state d (Hears events.FeaturesLost) client fs some s = no_sdu events.FeaturesLost (λ at sdu e. cc) d client fs s
deed_state d (Hears events.Timer) client fs some s = no_sdu events.Timer (λ at sdu e. cc) d client fs s
deed_state d (Asks parts) client fs some s = asked_state d client parts fs some s
deed_state d Finishes client fs some s = still_deed d Finishes client fs s (λ e. e) refl
deed_state d Cancels client fs some s = let stays = cancels_stays client.mux client.rest (is_object client.stage) client (start client s.late) in still_deed d Cancels client fs s stays.1 stays.2

all_states : (d : ℕ) (deeds : List Deed) (client : Client) (fs : List Framed) → 0 < d → State d client fs → Paid d Initiator (fs ++ all_framed deeds client)
all_states d [] client fs some s = subst (Paid d Initiator) (sym (append-nil fs)) s.paid
all_states d (deed ∷ deeds) client fs some s =
    subst (Paid d Initiator) (append_assoc fs (framed_by deed client) (all_framed deeds (done deed client))) (all_states d deeds (done deed client) (fs ++ framed_by deed client) some (deed_state d deed client fs some s))

pub clients-are_covered : ClientsAreCovered
clients-are_covered d client deeds some opened =
    let pays : PaysOn d client.mux [] = subst (λ (m : Mux). PaysOn d m []) (sym opened.mux) (new_on d d opened.largest opened.own opened.cap [] tt) in
    all_states d deeds client [] some (record {
      late = subst IsLate (sym opened.here) tt;
      muxed = opened.muxed;
      psm_is = opened.psm;
      open_pays = λ here. pays;
      paid = on_paid d client.mux [] pays;
    })
