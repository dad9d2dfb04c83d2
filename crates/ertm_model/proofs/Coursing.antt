-- Whatever happens to a machine, it holds what is said on its channel.
use Rattle.std.proofs.Common.{ℕ, suc, ◌≡◌, ◌+◌, ◌%◌, ◌<◌, ◌≤◌, Bool, true, false, cond, not, List, [], ◌∷◌, ◌++◌, length, drop, inl, inr, ◌/◌, Option, Some, None, Ok, Err, refl, ap, sym, ◌∙◌, subst, arith, append-nil}
use Rattle.std.specs.Prelude.{nat_lt, nat_le, ◌==◌, ◌||◌, ◌&&◌}
use Rattle.std.specs.List.{cons_option}
use Rattle.std.proofs.lemmas.Bool.Decides.{leb_tells}
use Rattle.l2cap_config.specs.declared.wish.Agreed.{Agreed}
use Rattle.ertm_frames.specs.declared.refusal.FrameRefusal.TheVariants.{Short, BadFcs, ReservedSet, BadStart, AboveMps}
use Rattle.ertm_frames.specs.Frames.{PlainFrame, information, supervisory}
use Rattle.ertm_frames.specs.Answers.{Answer, word_at, middle}
use Rattle.ertm_frames.specs.Steps.{information_of}
use Rattle.ertm_frames.specs.declared.frame.SKind.TheVariants.{Rr, Rej}
use Rattle.ertm_frames.specs.Reading.{check_holds, is_whole, has_reserved_bit, kind_of, supervisory_in, measured_in, start_in, judged_in, answer_in, frame_by, frames_in}
use Rattle.ertm_frames.specs.Picking.{req_of, is_final, is_poll, last_req, Passage, Out, In, poll_waits, outs, unacknowledged}
use Rattle.ertm_model.specs.declared.reason.ErtmReason.{ErtmReason}
use Rattle.ertm_model.specs.declared.reason.ErtmReason.TheVariants as reason
use Rattle.ertm_model.specs.Value.{Kept, Poll, NoPoll, Due, Waits, Sender, Ertm}
use Rattle.ertm_model.specs.Submitting.{is_busy, taking}
use Rattle.ertm_model.specs.Giving.{Giving, PollAnswer, Acknowledgement, Rejection, Polling, Again, New, giving, given_frame, after_giving, closing, polling, first_poll, poll_timed, open_timed}
use Rattle.ertm_model.specs.Hearing.{acknowledged, asks_again, is_spent, selects_frames, sender_fault, place_in, receiver_fault, receiver_after, sdu_in, fault, or_else, heard_by, open_heard, heard, answer_by, sdu_answer, answer_to, refusal_fault, closed_by}
use Rattle.ertm_model.specs.Pair.{listed}
use Rattle.ertm_model.specs.Runs.{Event, Submits, Comes, Gives, Fires, Course, new_course, brought, comes, given, with_pdu, happens, all_happen, IsSaid, AlwaysSaid}
use Rattle.ertm_model.proofs.Inverting as inverting
use Rattle.ertm_frames.proofs.Telling.{waits-more, outs-more, outs-same, req-more, frames-more, tops-new}
use Rattle.ertm_model.proofs.Reading.{none-more, Gave, gave-s, gave-again, gave-new, gave-asked, Took, took-none, took-placed, stood}

-- ---- what holds while a machine is open

record Tells (m : Ertm) (frames : List PlainFrame) (passages : List Passage) (up : List (List ℕ)) : Type 0 where
  gave : Gave m.agreed.send_window m.sender.first m.sender.next m.sender.unacked (outs passages) (last_req 0 frames)
  took : Took m.receiver.expected m.receiver.begun frames up
  waits : nat_lt 0 m.sender.polls ≡ poll_waits false passages

record Told (agreed : Agreed) (c : Course) : Type 0 where
  same : c.machine.agreed ≡ agreed
  tells : c.machine.closed ≡ None → Tells c.machine (frames_in agreed.receive_mps c.came) c.passages c.up

-- ---- it gives its next frame

false_more : (b : Bool) → (b || false) ≡ b
false_more true = refl
false_more false = refl

true_more : (b : Bool) → (b || true) ≡ true
true_more true = refl
true_more false = refl

some_polls : (n : ℕ) → nat_lt 0 (n + 1) ≡ true
some_polls n = elim (leb_tells 1 (n + 1)) [ inl (e, le) ↦ e | inr (e, lt) ↦ absurd (omega arith) ]

waits_still : (passages : List Passage) (frame : PlainFrame) (w : Bool) → is_poll frame ≡ false → w ≡ poll_waits false passages → w ≡ poll_waits false (passages ++ Out frame ∷ [])
waits_still passages frame w none is =
    is ∙ sym (waits-more false passages (Out frame) ∙ ap (λ (b : Bool). poll_waits false passages || b) none ∙ false_more (poll_waits false passages))

gave_on : {window first next : ℕ} {unacked : List Kept} {req : ℕ} (passages : List Passage) (frame : PlainFrame) → Gave window first next unacked (outs passages ++ frame ∷ []) req → Gave window first next unacked (outs (passages ++ Out frame ∷ [])) req
gave_on {window} {first} {next} {unacked} {req} passages frame h = subst (λ (l : List PlainFrame). Gave window first next unacked l req) (sym (outs-more passages frame)) h

gives_tells : (m : Ertm) (g : Giving) (frames : List PlainFrame) (passages : List Passage) (up : List (List ℕ)) → m.agreed.send_window ≤ 63 → inverting.Gives m (Some g)
    → Tells m frames passages up → Tells (after_giving g m) frames (passages ++ Out (given_frame g m) ∷ []) up
gives_tells m PollAnswer frames passages up small why h = record {
  gave = gave_on passages (given_frame PollAnswer m) (gave-s Rr false true m.receiver.expected h.gave);
  took = record { expected_is = h.took.expected_is; joins = h.took.joins; up_is = h.took.up_is };
  waits = waits_still passages (given_frame PollAnswer m) (nat_lt 0 m.sender.polls) refl h.waits;
}
gives_tells m Acknowledgement frames passages up small why h = record {
  gave = gave_on passages (given_frame Acknowledgement m) (gave-s Rr false false m.receiver.expected h.gave);
  took = record { expected_is = h.took.expected_is; joins = h.took.joins; up_is = h.took.up_is };
  waits = waits_still passages (given_frame Acknowledgement m) (nat_lt 0 m.sender.polls) refl h.waits;
}
gives_tells m Rejection frames passages up small why h = record {
  gave = gave_on passages (given_frame Rejection m) (gave-s Rej false false m.receiver.expected h.gave);
  took = record { expected_is = h.took.expected_is; joins = h.took.joins; up_is = h.took.up_is };
  waits = waits_still passages (given_frame Rejection m) (nat_lt 0 m.sender.polls) refl h.waits;
}
gives_tells m Polling frames passages up small why h = record {
  gave = gave_on passages (given_frame Polling m) (gave-s Rr true false m.receiver.expected h.gave);
  took = h.took;
  waits = some_polls m.sender.polls ∙ sym (waits-more false passages (Out (given_frame Polling m)) ∙ true_more (poll_waits false passages));
}
gives_tells m (Again kept) frames passages up small (free, at) h = record {
  gave = gave_on passages (given_frame (Again kept) m) (gave-again kept kept.segment.sar kept.segment.total m.receiver.expected false kept.segment.octets small at h.gave);
  took = h.took;
  waits = waits_still passages (given_frame (Again kept) m) (nat_lt 0 m.sender.polls) refl h.waits;
}
gives_tells m (New segment behind) frames passages up small (free, none, is, room) h = record {
  gave = gave_on passages (given_frame (New segment behind) m) (gave-new (record { segment = segment; given = 1 }) segment.sar segment.total m.receiver.expected false segment.octets small none room h.gave);
  took = h.took;
  waits = waits_still passages (given_frame (New segment behind) m) (nat_lt 0 m.sender.polls) refl h.waits;
}

-- what it gives changes neither what was agreed on nor whether it is closed
pub giving_keeps : (m : Ertm) (g : Giving) → ((after_giving g m).agreed ≡ m.agreed) × ((after_giving g m).closed ≡ m.closed)
giving_keeps m PollAnswer = (refl, refl)
giving_keeps m Acknowledgement = (refl, refl)
giving_keeps m Rejection = (refl, refl)
giving_keeps m Polling = (refl, refl)
giving_keeps m (Again kept) = (refl, refl)
giving_keeps m (New segment behind) = (refl, refl)

gives_told : (agreed : Agreed) (c : Course) (g : Option Giving) → agreed.send_window ≤ 63 → inverting.Gives c.machine g → Told agreed c → Told agreed (given g c)
gives_told agreed c None small why h = h
gives_told agreed c (Some g) small why h =
    let keeps = giving_keeps c.machine g in
    record {
      same = keeps.0 ∙ h.same;
      tells = λ open_. gives_tells c.machine g (frames_in agreed.receive_mps c.came) c.passages c.up (subst (λ (a : Agreed). a.send_window ≤ 63) (sym h.same) small) why (h.tells (sym keeps.1 ∙ open_));
    }

-- ---- its timer fires, and an SDU is submitted

timed_by : (m : Ertm) (frames : List PlainFrame) (passages : List Passage) (up : List (List ℕ)) (poll : Poll) → Tells m frames passages up
    → ((poll_timed poll m).agreed ≡ m.agreed) × ((poll_timed poll m).closed ≡ None → Tells (poll_timed poll m) frames passages up)
timed_by m frames passages up NoPoll h = elim m.sender.unacked as (λ (l : List Kept). ((first_poll l m).agreed ≡ m.agreed) × ((first_poll l m).closed ≡ None → Tells (first_poll l m) frames passages up)) [
  | [] ↦ (refl, (λ open_. h))
  | kept ∷ behind ↦ (refl, (λ open_. record { gave = h.gave; took = h.took; waits = h.waits }))
]
timed_by m frames passages up Due h = (refl, (λ open_. h))
timed_by m frames passages up Waits h = elim (nat_le m.agreed.tries m.sender.polls) as (λ (b : Bool). ((cond b (closing reason.RetryLimit m) (polling m)).agreed ≡ m.agreed) × ((cond b (closing reason.RetryLimit m) (polling m)).closed ≡ None → Tells (cond b (closing reason.RetryLimit m) (polling m)) frames passages up)) [
  | true ↦ (refl, (λ open_. cc))
  | false ↦ (refl, (λ open_. record { gave = h.gave; took = h.took; waits = h.waits }))
]

fires_told : (agreed : Agreed) (c : Course) (shut : Option ErtmReason) → c.machine.closed ≡ shut → Told agreed c → Told agreed (record c { machine = open_timed shut c.machine })
fires_told agreed c (Some reason) is h = h
fires_told agreed c None is h =
    let k = timed_by c.machine (frames_in agreed.receive_mps c.came) c.passages c.up c.machine.sender.poll (h.tells is) in
    record { same = k.0 ∙ h.same; tells = k.1 }

submits_told : (agreed : Agreed) (c : Course) (octets : List ℕ) (busy : Bool) → Told agreed c → Told agreed (record c { machine = cond busy c.machine (taking octets c.machine) })
submits_told agreed c octets true h = h
submits_told agreed c octets false h = record {
  same = h.same;
  tells = λ open_. let k = h.tells open_ in record { gave = k.gave; took = k.took; waits = k.waits };
}

-- ---- a frame comes in

-- numbers that were read fit
abbrev IsSmall : PlainFrame → Type 0
IsSmall (information tx final req sar total octets) = (tx < 64) × (req < 64)
IsSmall (supervisory kind poll final req) = req < 64

abbrev AreSmall : Answer → Type 0
AreSmall (Ok frame) = IsSmall frame
AreSmall (Err refusal) = Unit {0}

measured_small : (mps control total : ℕ) (octets : List ℕ) → AreSmall (measured_in mps control total octets)
measured_small mps control total octets = elim (nat_lt mps (length octets)) as (λ (b : Bool). AreSmall (cond b (Err AboveMps) (Ok (information_of control total octets)))) [ true ↦ tt | false ↦ (omega arith, omega arith) ]

supervisory_small : (control : ℕ) (body : List ℕ) (bad : Bool) (frame : PlainFrame) → IsSmall frame → AreSmall (cond bad (Err ReservedSet) (Ok frame))
supervisory_small control body true frame small = tt
supervisory_small control body false frame small = small

either_small : (b : Bool) (first second : Answer) → AreSmall first → AreSmall second → AreSmall (cond b first second)
either_small true first second one two = one
either_small false first second one two = two

judged_small : (mps control : ℕ) (body : List ℕ) → AreSmall (judged_in mps control body)
judged_small mps control body =
    let other : AreSmall (measured_in mps control 0 body) = measured_small mps control 0 body in
    let begun : AreSmall (start_in mps control body) = either_small (nat_lt (length body) 2) (Err BadStart) (measured_in mps control (word_at 0 body) (drop 2 body)) tt (measured_small mps control (word_at 0 body) (drop 2 body)) in
    either_small (control % 2 == 1) (supervisory_in control body) (cond (control / 0x4000 == 1) (start_in mps control body) (measured_in mps control 0 body))
    (supervisory_small control body (has_reserved_bit control || nat_lt 0 (length body)) (supervisory (kind_of (control / 0x04 % 4)) (control / 0x10 % 2 == 1) (control / 0x80 % 2 == 1) (control / 0x100 % 64)) (omega arith))
    (either_small (control / 0x4000 == 1) (start_in mps control body) (measured_in mps control 0 body) begun other)

pub answers_small : (mps : ℕ) (pdu : List ℕ) → AreSmall (answer_in mps pdu)
answers_small mps pdu =
    either_small (not (is_whole pdu)) (Err Short) (cond (not (check_holds pdu)) (Err BadFcs) (judged_in mps (word_at 4 pdu) (middle pdu))) tt
    (either_small (not (check_holds pdu)) (Err BadFcs) (judged_in mps (word_at 4 pdu) (middle pdu)) tt (judged_small mps (word_at 4 pdu) (middle pdu)))

-- a machine that is open once it heard a frame was open, and the frame did not close it
record StaysOpen (frame : PlainFrame) (m : Ertm) : Type 0 where
  open_ : m.closed ≡ None
  harmless : fault frame m ≡ None

stays_open_by : (frame : PlainFrame) (m : Ertm) (cause : Option ErtmReason) → m.closed ≡ None → fault frame m ≡ cause → (heard_by cause frame m).closed ≡ None → StaysOpen frame m
stays_open_by frame m (Some cause) open_ is still = cc
stays_open_by frame m None open_ is still = record { open_ = open_; harmless = is }

stays_open : (frame : PlainFrame) (m : Ertm) (shut : Option ErtmReason) → m.closed ≡ shut → (open_heard shut frame m).closed ≡ None → StaysOpen frame m
stays_open frame m (Some shut) is still = cc
stays_open frame m None is still = stays_open_by frame m (fault frame m) is refl still

-- no fault of the sender, and none of the receiver
both_none : (first second : Option ErtmReason) → or_else first second ≡ None → (first ≡ None) × (second ≡ None)
both_none (Some cause) second is = cc
both_none None second is = (refl, is)

few_by : (outside : Bool) (inner : Option ErtmReason) → cond outside (Some reason.BadReqSeq) inner ≡ None → outside ≡ false
few_by true inner is = cc
few_by false inner is = refl

few_acknowledged : (tries : ℕ) (frame : PlainFrame) (s : Sender) → sender_fault tries frame s ≡ None → acknowledged frame s ≤ length s.unacked
few_acknowledged tries frame s none = elim (leb_tells (suc (length s.unacked)) (acknowledged frame s)) [
  | inl (e, lt) ↦ (let f : true ≡ false = sym e ∙ few_by (nat_lt (length s.unacked) (acknowledged frame s)) (cond (selects_frames frame) (Some reason.Srej) (cond (asks_again s.poll frame && is_spent tries (drop (acknowledged frame s) s.unacked)) (Some reason.RetryLimit) None)) none in cc)
  | inr (e, le) ↦ omega arith
]

heard_took : (m : Ertm) (frame : PlainFrame) (frames : List PlainFrame) (up : List (List ℕ)) → IsSmall frame → receiver_fault frame m ≡ None → Took m.receiver.expected m.receiver.begun frames up
    → Took (receiver_after frame m).expected (receiver_after frame m).begun (frames ++ frame ∷ []) (up ++ listed (sdu_in frame m))
heard_took m (information tx final req sar total octets) frames up small none h =
    took-placed m.agreed.receive_mtu tx req sar total final octets m.receiver (place_in m tx) small.0
    (stood m.agreed.receive_window tx m.receiver.expected small.0 (let e = h.expected_is in omega arith)) none h
heard_took m (supervisory kind poll final req) frames up small none h = took-none (supervisory kind poll final req) (none-more frames (supervisory kind poll final req) refl) h

req_small : (frame : PlainFrame) → IsSmall frame → req_of frame < 64
req_small (information tx final req sar total octets) small = small.1
req_small (supervisory kind poll final req) small = small

waits_heard : (passages : List Passage) (frame : PlainFrame) (final : Bool) (polls : ℕ) → is_final frame ≡ final → nat_lt 0 polls ≡ poll_waits false passages
    → nat_lt 0 (cond final 0 polls) ≡ cond final false (poll_waits false passages)
waits_heard passages frame true polls is h = refl
waits_heard passages frame false polls is h = h

hears_tells : (m : Ertm) (frame : PlainFrame) (frames : List PlainFrame) (passages : List Passage) (up : List (List ℕ)) → IsSmall frame → fault frame m ≡ None
    → Tells m frames passages up → Tells (heard_by None frame m) (frames ++ frame ∷ []) (passages ++ In frame ∷ []) (up ++ listed (sdu_in frame m))
hears_tells m frame frames passages up small none h =
    let faults = both_none (sender_fault m.agreed.tries frame m.sender) (receiver_fault frame m) none in
    let few = few_acknowledged m.agreed.tries frame m.sender faults.0 in
    let gave = gave-asked (req_of frame) (acknowledged frame m.sender) (asks_again m.sender.poll frame) (req_small frame small) refl few h.gave in
    record {
      gave =
          rw (outs-same passages frame, req-more 0 frames frame) gave;
      took = heard_took m frame frames up small faults.1 h.took;
      waits = waits_heard passages frame (is_final frame) m.sender.polls refl h.waits ∙ sym (waits-more false passages (In frame));
    }

heard_is : (frame : PlainFrame) (m : Ertm) → StaysOpen frame m → heard frame m ≡ heard_by None frame m
heard_is frame m still = ap (λ (o : Option ErtmReason). open_heard o frame m) still.open_ ∙ ap (λ (o : Option ErtmReason). heard_by o frame m) still.harmless

listed_is : (o : Option (List ℕ)) → brought (sdu_answer o) ≡ listed o
listed_is None = refl
listed_is (Some octets) = refl

brought_is : (frame : PlainFrame) (m : Ertm) → (heard frame m).closed ≡ None → brought (answer_to frame m) ≡ listed (sdu_in frame m)
brought_is frame m open_ = ap (λ (o : Option ErtmReason). brought (answer_by o frame m)) open_ ∙ listed_is (sdu_in frame m)

pub heard_agreed_by : (cause : Option ErtmReason) (frame : PlainFrame) (m : Ertm) → (heard_by cause frame m).agreed ≡ m.agreed
heard_agreed_by None frame m = refl
heard_agreed_by (Some cause) frame m = refl

pub heard_agreed : (shut : Option ErtmReason) (frame : PlainFrame) (m : Ertm) → (open_heard shut frame m).agreed ≡ m.agreed
heard_agreed None frame m = heard_agreed_by (fault frame m) frame m
heard_agreed (Some shut) frame m = refl

-- a PDU that is no frame
refused_still : (shut cause : Option ErtmReason) (m : Ertm) → m.closed ≡ shut → ((closed_by shut cause m).agreed ≡ m.agreed) × ((closed_by shut cause m).closed ≡ None → closed_by shut cause m ≡ m)
refused_still (Some shut) cause m is = (refl, (λ open_. refl))
refused_still None None m is = (refl, (λ open_. refl))
refused_still None (Some cause) m is = (refl, (λ open_. cc))

comes_told : (agreed : Agreed) (pdu : List ℕ) (a : Answer) (c : Course) → AreSmall a → answer_in agreed.receive_mps pdu ≡ a → Told agreed c → Told agreed (with_pdu pdu (comes a c))
comes_told agreed pdu (Err refusal) c small is h =
    let k = refused_still c.machine.closed (refusal_fault refusal) c.machine refl in
    let frames : frames_in agreed.receive_mps (c.came ++ pdu ∷ []) ≡ frames_in agreed.receive_mps c.came =
    frames-more agreed.receive_mps c.came pdu ∙ ap (λ (a : Answer). frames_in agreed.receive_mps c.came ++ cons_option (frame_by a) []) is ∙ append-nil (frames_in agreed.receive_mps c.came) in
    record {
      same = k.0 ∙ h.same;
      tells = λ open_. rw frames (
          let e = k.1 open_ in
          subst (λ (m : Ertm). Tells m (frames_in agreed.receive_mps c.came) c.passages c.up) (sym e) (h.tells (sym (ap (λ (m : Ertm). m.closed) e) ∙ open_))
          );
    }
comes_told agreed pdu (Ok frame) c small is h =
    let frames : frames_in agreed.receive_mps (c.came ++ pdu ∷ []) ≡ frames_in agreed.receive_mps c.came ++ frame ∷ [] =
    frames-more agreed.receive_mps c.came pdu ∙ ap (λ (a : Answer). frames_in agreed.receive_mps c.came ++ cons_option (frame_by a) []) is in
    record {
      same = heard_agreed c.machine.closed frame c.machine ∙ h.same;
      tells = λ open_.
          let still = stays_open frame c.machine c.machine.closed refl open_ in
          let told = hears_tells c.machine frame (frames_in agreed.receive_mps c.came) c.passages c.up small still.harmless (h.tells still.open_) in
          rw (frames, brought_is frame c.machine open_)
          (subst (λ (m : Ertm). Tells m (frames_in agreed.receive_mps c.came ++ frame ∷ []) (c.passages ++ In frame ∷ []) (c.up ++ listed (sdu_in frame c.machine))) (sym (heard_is frame c.machine still)) told);
    }

-- ---- every event

happens_told : (agreed : Agreed) (event : Event) (c : Course) → agreed.send_window ≤ 63 → Told agreed c → Told agreed (happens event c)
happens_told agreed (Submits octets) c small h = submits_told agreed c octets (is_busy c.machine) h
happens_told agreed (Comes pdu) c small h =
    subst (λ (mps : ℕ). Told agreed (with_pdu pdu (comes (answer_in mps pdu) c))) (sym (ap (λ (a : Agreed). a.receive_mps) h.same))
    (comes_told agreed pdu (answer_in agreed.receive_mps pdu) c (answers_small agreed.receive_mps pdu) refl h)
happens_told agreed Gives c small h = gives_told agreed c (giving c.machine) small (inverting.gives c.machine) h
happens_told agreed Fires c small h = fires_told agreed c c.machine.closed refl h

all_told : (agreed : Agreed) (events : List Event) (c : Course) → agreed.send_window ≤ 63 → Told agreed c → Told agreed (all_happen events c)
all_told agreed [] c small h = h
all_told agreed (event ∷ events) c small h = all_told agreed events (happens event c) small (happens_told agreed event c small h)

new_told : (agreed : Agreed) → Told agreed (new_course agreed)
new_told agreed = record {
  same = refl;
  tells = λ open_. record {
    gave = record { a = 0; n_is = refl; first_is = refl; next_in = omega arith; in_window = omega arith; asked = refl; numbers = []; numbered = refl; tops_is = tops-new 0 };
    took = record { expected_is = refl; joins = refl; up_is = refl };
    waits = refl;
  };
}

is_said : (agreed : Agreed) (c : Course) → agreed.send_window ≤ 63 → Told agreed c → c.machine.closed ≡ None → IsSaid agreed c
is_said agreed c small told open_ =
    let h = told.tells open_ in
    let n_is = h.gave.n_is in
    let in_window : length c.machine.sender.unacked ≤ 63 = (let e = h.gave.in_window in let f : c.machine.agreed.send_window ≤ 63 = subst (λ (a : Agreed). a.send_window ≤ 63) (sym told.same) small in omega arith) in
    let asked = h.gave.asked in
    let used : length c.machine.sender.unacked ≡ unacknowledged (outs c.passages) (frames_in agreed.receive_mps c.came) = omega arith in
    record {
      up_is = sym h.took.up_is;
      used = used;
      waits = ap (λ (n : ℕ). nat_lt 0 n || nat_lt 0 c.machine.sender.polls) used ∙ ap (λ (b : Bool). nat_lt 0 (unacknowledged (outs c.passages) (frames_in agreed.receive_mps c.came)) || b) h.waits;
      numbers = h.gave.numbers;
      numbered = h.gave.numbered;
    }

pub always-said : AlwaysSaid
always-said agreed events small open_ = is_said agreed (all_happen events (new_course agreed)) small (all_told agreed events (new_course agreed) small (new_told agreed)) open_
