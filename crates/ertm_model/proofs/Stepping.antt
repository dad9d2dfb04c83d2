-- Each step of a machine, in numbers that never wrap.
use Rattle.std.proofs.Common.{ℕ, suc, ◌≡◌, ◌≢◌, ◌+◌, ◌-◌, ◌%◌, ◌<◌, ◌≤◌, ◌⊎◌, inl, inr, max, Bool, true, false, cond, List, [], ◌∷◌, ◌++◌, length, drop, Option, Some, None, refl, ap, sym, ◌∙◌, subst, arith, length-append}
use Rattle.std.specs.Prelude.{slice_get, nat_lt, nat_le, ◌==◌, ◌&&◌}
use Rattle.std.proofs.lemmas.Bool.{lt-ltb, le-ltb, ne_eqb, eq-eqb}
use Rattle.std.proofs.lemmas.Bool.Decides.{leb_tells}
use Rattle.ertm_frames.specs.Frames.{PlainFrame, information, supervisory}
use Rattle.ertm_frames.specs.Segments.{Segment}
use Rattle.ertm_frames.specs.Picking.{req_of}
use Rattle.ertm_frames.specs.Joining.{Joint, Misplaced, Begins, Ends, joint}
use Rattle.ertm_model.specs.declared.reason.ErtmReason.{ErtmReason}
use Rattle.ertm_model.specs.declared.reason.ErtmReason.TheVariants as reason
use Rattle.ertm_model.specs.Value.{Kept, Poll, NoPoll, Due, Waits, Rejects, Ertm}
use Rattle.ertm_model.specs.Submitting.{cut, taking}
use Rattle.ertm_model.specs.Giving.{Giving, PollAnswer, Acknowledgement, Rejection, Polling, Again, New, giving, given_frame, frame_by, after_by, closing, polling, first_poll, poll_timed, open_timed}
use Rattle.ertm_model.specs.Hearing.{past, acknowledged, asks_again, is_spent, selects_frames, sender_fault, Place, Expected, Ahead, Other, place_in, stated, joint_fault, place_fault, receiver_fault, receiver_after, placed_after, segment_of, fault, or_else, heard_by, open_heard, heard}
use Rattle.ertm_model.specs.Order.{Sends}
use Rattle.ertm_model.specs.Absolute.{StandsFor, GivesFrame, GivesAbsolutely, IsTaken, accepted_after, NumbersFit, HearsAbsolutely, RejectsAhead, OthersStand}
use Rattle.ertm_model.proofs.Counting.{past-up, add-on}
use Rattle.ertm_model.proofs.Lists.{get-inside, get-none, again-length, dropped}
use Rattle.ertm_model.proofs.Sending.{sends-again, sends-new, sends-acknowledged, sends-taken}
use Rattle.ertm_model.proofs.Inverting.{Gives, gives}
use Rattle.ertm_model.proofs.Reading.{Stood, next_one, other_one, stood}
use Rattle.ertm_model.proofs.Standing.{no_fresh}

-- ---- it gives

abbrev GivesBy : Ertm → List Segment → (a n c : ℕ) → Option Giving → PlainFrame → Type 0
GivesBy m put a n c g (information tx final req sar total octets) =
    (number : ℕ) × (a ≤ number) × (number ≤ n) × (number < a + m.agreed.send_window) × (slice_get put number ≡ Some (segment_of sar total octets))
    × (tx ≡ number % 64) × StandsFor (after_by g m) put a (max n (number + 1)) c
GivesBy m put a n c g (supervisory kind poll final req) = StandsFor (after_by g m) put a n c

gives_again : (m : Ertm) (put : List Segment) (a n c : ℕ) (kept : Kept) → slice_get m.sender.unacked m.sender.next ≡ Some kept → StandsFor m put a n c → GivesBy m put a n c (Some (Again kept)) (given_frame (Again kept) m)
gives_again m put a n c kept at h =
    let g = sends-again kept at h.sends in
    let n_is = h.n_is in
    let in_window = h.sends.in_window in
    let inside = get-inside m.sender.unacked m.sender.next kept at in
    let long = again-length m.sender.next m.sender.unacked in
    (a + m.sender.next, omega arith, omega arith, omega arith, g.here, g.tx, record { sends = g.sends; n_is = omega arith; c_is = h.c_is })

gives_new : (m : Ertm) (put : List Segment) (a n c : ℕ) (segment : Segment) (behind : List Segment) → slice_get m.sender.unacked m.sender.next ≡ None → m.sender.fresh ≡ segment ∷ behind → length m.sender.unacked < m.agreed.send_window → StandsFor m put a n c
    → GivesBy m put a n c (Some (New segment behind)) (given_frame (New segment behind) m)
gives_new m put a n c segment behind none is room h =
    let kept : Kept = record { segment = segment; given = 1 } in
    let g = sends-new kept behind is none room h.sends in
    let n_is = h.n_is in
    let past_end = get-none m.sender.unacked m.sender.next none in
    let next_in = h.sends.next_in in
    let long = length-append m.sender.unacked (kept ∷ []) in
    (a + m.sender.next, omega arith, omega arith, omega arith, g.here, g.tx, record { sends = g.sends; n_is = omega arith; c_is = h.c_is })

gives_by : (m : Ertm) (put : List Segment) (a n c : ℕ) (g : Giving) → Gives m (Some g) → StandsFor m put a n c → GivesBy m put a n c (Some g) (given_frame g m)
gives_by m put a n c PollAnswer why h = record { sends = h.sends; n_is = h.n_is; c_is = h.c_is }
gives_by m put a n c Acknowledgement why h = record { sends = h.sends; n_is = h.n_is; c_is = h.c_is }
gives_by m put a n c Rejection why h = record { sends = h.sends; n_is = h.n_is; c_is = h.c_is }
gives_by m put a n c Polling why h = record { sends = h.sends; n_is = h.n_is; c_is = h.c_is }
gives_by m put a n c (Again kept) why h = gives_again m put a n c kept why.1 h
gives_by m put a n c (New segment behind) why h = gives_new m put a n c segment behind why.1 why.2 why.3 h

gives_frame : (m : Ertm) (put : List Segment) (a n c : ℕ) (frame : PlainFrame) (g : Option Giving) → Gives m g → StandsFor m put a n c → frame_by g m ≡ Some frame → GivesBy m put a n c g frame
gives_frame m put a n c frame None why h is = cc
gives_frame m put a n c frame (Some g) why h is = let e : given_frame g m ≡ frame = cc in rw (← e) (gives_by m put a n c g why h)

by_giving : (m : Ertm) (put : List Segment) (a n c : ℕ) (frame : PlainFrame) → GivesBy m put a n c (giving m) frame → GivesFrame m put a n c frame
by_giving m put a n c (information tx final req sar total octets) h = h
by_giving m put a n c (supervisory kind poll final req) h = h

pub gives-absolutely : GivesAbsolutely
gives-absolutely m put a n c frame h is = by_giving m put a n c frame (gives_frame m put a n c frame (giving m) (gives m) h is)

-- ---- it hears

-- a ReqSeq is within the window exactly where it is that of a number
within : (m : Ertm) (put : List Segment) (a n c x : ℕ) (frame : PlainFrame) → m.agreed.send_window ≤ 63 → IsTaken a n (req_of frame) x → StandsFor m put a n c
    → (acknowledged frame m.sender ≡ x - a) × (acknowledged frame m.sender ≤ length m.sender.unacked)
within m put a n c x frame small t h =
    let low = t.low in
    let high = t.high in
    let n_is = h.n_is in
    let in_window = h.sends.in_window in
    let e : past m.sender.first (req_of frame) ≡ x - a = rw (h.sends.first_is, ← t.is) (past-up a x low (omega arith)) in
    (e, omega arith)

hears_stand : (m : Ertm) (put : List Segment) (a n c d x : ℕ) (frame : PlainFrame) → m.agreed.send_window ≤ 63 → IsTaken a n (req_of frame) x → (receiver_after frame m).expected ≡ d % 64 → StandsFor m put a n c
    → StandsFor (heard_by None frame m) put x n d
hears_stand m put a n c d x frame small t expected h =
    let k = acknowledged frame m.sender in
    let both = within m put a n c x frame small t h in
    let k_is = both.0 in
    let few = both.1 in
    let low = t.low in
    let n_is = h.n_is in
    let rest = (dropped k m.sender.unacked few).left_length in
    let x_is : a + k ≡ x = omega arith in
    let next = cond (asks_again m.sender.poll frame) 0 (m.sender.next - k) in
    record {
      sends = subst (λ (i : ℕ). Sends m.agreed.send_window put i ((m.sender.first + k) % 64) next (drop k m.sender.unacked) m.sender.fresh) x_is (sends-acknowledged k (asks_again m.sender.poll frame) few h.sends);
      n_is = omega arith;
      c_is = expected;
    }

placed_expected : (m : Ertm) (tx c : ℕ) (segment : Segment) (place : Place) → m.receiver.expected ≡ c % 64 → Stood tx m.receiver.expected place → (placed_after place segment m.receiver).expected ≡ cond (tx == c % 64) (c + 1) c % 64
placed_expected m tx c segment Expected is (next_one same e) = let f = eq-eqb tx (c % 64) (same ∙ is) in rw f (ap (λ (i : ℕ). (i + 1) % 64) is ∙ add-on c 1)
placed_expected m tx c segment Expected is (other_one other e) = absurd (e refl)
placed_expected m tx c segment Ahead is (next_one same e) = cc
placed_expected m tx c segment Ahead is (other_one other e) =
    let f = ne_eqb tx (c % 64) (λ g. other (g ∙ sym is)) in
    rw f (elim m.receiver.rejecting as (λ (b : Bool). (cond b m.receiver (record m.receiver { reply = Rejects; rejecting = true })).expected ≡ c % 64) [ true ↦ is | false ↦ is ])
placed_expected m tx c segment Other is (next_one same e) = cc
placed_expected m tx c segment Other is (other_one other e) = let f = ne_eqb tx (c % 64) (λ g. other (g ∙ sym is)) in rw f is

expected_after : (m : Ertm) (c : ℕ) (frame : PlainFrame) → NumbersFit frame → m.receiver.expected ≡ c % 64 → (receiver_after frame m).expected ≡ accepted_after c frame % 64
expected_after m c (information tx final req sar total octets) fits is =
    placed_expected m tx c (segment_of sar total octets) (place_in m tx) is (stood m.agreed.receive_window tx m.receiver.expected fits.0 (omega arith))
expected_after m c (supervisory kind poll final req) fits is = is

heard_open : (frame : PlainFrame) (m : Ertm) (cause : Option ErtmReason) → m.closed ≡ None → fault frame m ≡ cause → heard frame m ≡ heard_by cause frame m
heard_open frame m cause open_ is = ap (λ (o : Option ErtmReason). open_heard o frame m) open_ ∙ ap (λ (o : Option ErtmReason). heard_by o frame m) is

outside : (m : Ertm) (frame : PlainFrame) → length m.sender.unacked < acknowledged frame m.sender → fault frame m ≡ Some reason.BadReqSeq
outside m frame lt = let e = lt-ltb (length m.sender.unacked) (acknowledged frame m.sender) lt in rw e refl

req_small : (frame : PlainFrame) → NumbersFit frame → req_of frame < 64
req_small (information tx final req sar total octets) fits = fits.1
req_small (supervisory kind poll final req) fits = fits

some_number : (m : Ertm) (put : List Segment) (a n c : ℕ) (frame : PlainFrame) → NumbersFit frame → StandsFor m put a n c → acknowledged frame m.sender ≤ length m.sender.unacked → IsTaken a n (req_of frame) (a + acknowledged frame m.sender)
some_number m put a n c frame fits h le =
    let small = req_small frame fits in
    let first = h.sends.first_is in
    let n_is = h.n_is in
    record { low = omega arith; high = omega arith; is = omega arith }

none_outside : (m : Ertm) (put : List Segment) (a n c : ℕ) (frame : PlainFrame) → m.closed ≡ None → NumbersFit frame → StandsFor m put a n c → ((x : ℕ) → ¬ IsTaken a n (req_of frame) x) → heard frame m ≡ closing reason.BadReqSeq m
none_outside m put a n c frame open_ fits h none = elim (leb_tells (acknowledged frame m.sender) (length m.sender.unacked)) [
  | inl (e, le) ↦ absurd (none (a + acknowledged frame m.sender) (some_number m put a n c frame fits h le))
  | inr (e, lt) ↦ heard_open frame m (Some reason.BadReqSeq) open_ (outside m frame lt)
]

other_reason : (b : Bool) (r : ErtmReason) (rest : Option ErtmReason) → r ≢ reason.BadReqSeq → rest ≢ Some reason.BadReqSeq → cond b (Some r) rest ≢ Some reason.BadReqSeq
other_reason true r rest other more = λ e. other cc
other_reason false r rest other more = more

joint_reason : (j : Joint) (mtu : ℕ) (segment : Segment) → joint_fault j mtu segment ≢ Some reason.BadReqSeq
joint_reason Misplaced mtu segment = λ e. cc
joint_reason (Begins begun) mtu segment = other_reason (nat_lt mtu (stated segment)) reason.TooLongSdu None (λ e. cc) (λ e. cc)
joint_reason (Ends sdu) mtu segment = other_reason (nat_lt mtu (stated segment)) reason.TooLongSdu None (λ e. cc) (λ e. cc)

place_reason : (place : Place) (m : Ertm) (segment : Segment) → place_fault place m.agreed.receive_mtu segment m.receiver ≢ Some reason.BadReqSeq
place_reason Expected m segment = joint_reason (joint m.receiver.begun segment) m.agreed.receive_mtu segment
place_reason Ahead m segment = λ e. cc
place_reason Other m segment = λ e. cc

receiver_reason : (m : Ertm) (frame : PlainFrame) → receiver_fault frame m ≢ Some reason.BadReqSeq
receiver_reason m (supervisory kind poll final req) = λ e. cc
receiver_reason m (information tx final req sar total octets) = place_reason (place_in m tx) m (segment_of sar total octets)

either_reason : (first second : Option ErtmReason) → first ≢ Some reason.BadReqSeq → second ≢ Some reason.BadReqSeq → or_else first second ≢ Some reason.BadReqSeq
either_reason None second one two = two
either_reason (Some cause) second one two = one

no_bad_req : (m : Ertm) (frame : PlainFrame) → acknowledged frame m.sender ≤ length m.sender.unacked → fault frame m ≢ Some reason.BadReqSeq
no_bad_req m frame few =
    let spent : Bool = asks_again m.sender.poll frame && is_spent m.agreed.tries (drop (acknowledged frame m.sender) m.sender.unacked) in
    let e = le-ltb (length m.sender.unacked) (acknowledged frame m.sender) few in
    let sender : sender_fault m.agreed.tries frame m.sender ≢ Some reason.BadReqSeq =
    rw e (other_reason (selects_frames frame) reason.Srej (cond spent (Some reason.RetryLimit) None) (λ f. cc) (other_reason spent reason.RetryLimit None (λ f. cc) (λ f. cc))) in
    either_reason (sender_fault m.agreed.tries frame m.sender) (receiver_fault frame m) sender (receiver_reason m frame)

pub hears-absolutely : HearsAbsolutely
hears-absolutely m put a n c frame small open_ fits h =
    let n_is = h.n_is in
    let in_window = h.sends.in_window in
    record {
      one = λ x y t u. let low = t.low in let high = t.high in let is = t.is in let low' = u.low in let high' = u.high in let is' = u.is in omega arith;
      none = λ none. none_outside m put a n c frame open_ fits h none;
      harmless = λ x t. no_bad_req m frame (within m put a n c x frame small t h).1;
      goes = λ x t none.
          subst (λ (after : Ertm). StandsFor after put x n (accepted_after c frame)) (sym (heard_open frame m None open_ none))
          (hears_stand m put a n c (accepted_after c frame) x frame small t (expected_after m c frame fits h.c_is) h);
    }

-- ---- a frame that is ahead

ahead_by : (first second : Bool) → ((first ≡ true) × (second ≡ true)) ⊎ (cond (first && second) Ahead Other ≡ Other)
ahead_by true true = inl (refl, refl)
ahead_by true false = inr refl
ahead_by false second = inr refl

pub rejects-ahead : RejectsAhead
rejects-ahead window steps some most far =
    let other : (steps == 0) ≡ false = ne_eqb steps 0 (λ e. omega (arith, e)) in (
      (λ is. elim (ahead_by (nat_lt steps window) (nat_lt (steps + window) 64)) [
        | inl (first, second) ↦ elim (leb_tells (suc steps) window) [
          | inl (e, lt) ↦ elim (leb_tells (suc (steps + window)) 64) [
            | inl (f, lt') ↦ (omega arith, omega arith)
            | inr (f, le') ↦ (let g : true ≡ false = sym second ∙ f in cc)
          ]
          | inr (e, le) ↦ (let g : true ≡ false = sym first ∙ e in cc)
        ]
        | inr e ↦ (let f : Ahead ≡ Other = sym is ∙ rw other e in cc)
      ]),
      (λ (near, room). let e = lt-ltb steps window (omega arith) in let f = lt-ltb (steps + window) 64 (omega arith) in rw (other, e, f) refl),
    )

-- ---- the other calls

taken_stands : (m : Ertm) (put : List Segment) (a n c : ℕ) (sdu : List ℕ) → m.sender.fresh ≡ [] → StandsFor m put a n c → StandsFor (taking sdu m) (put ++ cut m.agreed.send_mps sdu) a n c
taken_stands m put a n c sdu none h = record { sends = sends-taken (cut m.agreed.send_mps sdu) none h.sends; n_is = h.n_is; c_is = h.c_is }

polled_stands : (m : Ertm) (put : List Segment) (a n c : ℕ) (poll : Poll) → StandsFor m put a n c → StandsFor (poll_timed poll m) put a n c
polled_stands m put a n c NoPoll h = elim m.sender.unacked as (λ (l : List Kept). StandsFor (first_poll l m) put a n c) [ [] ↦ h | kept ∷ behind ↦ record { sends = h.sends; n_is = h.n_is; c_is = h.c_is } ]
polled_stands m put a n c Due h = h
polled_stands m put a n c Waits h = elim (nat_le m.agreed.tries m.sender.polls) as (λ (late : Bool). StandsFor (cond late (closing reason.RetryLimit m) (polling m)) put a n c) [
  | true ↦ record { sends = h.sends; n_is = h.n_is; c_is = h.c_is }
  | false ↦ record { sends = h.sends; n_is = h.n_is; c_is = h.c_is }
]

timed_stands : (m : Ertm) (put : List Segment) (a n c : ℕ) (shut : Option ErtmReason) → StandsFor m put a n c → StandsFor (open_timed shut m) put a n c
timed_stands m put a n c (Some cause) h = h
timed_stands m put a n c None h = polled_stands m put a n c m.sender.poll h

pub others-stand : OthersStand
others-stand = record {
  new = λ agreed. record {
    sends = record { done = []; put_is = refl; done_is = refl; first_is = refl; next_in = omega arith; in_window = omega arith };
    n_is = refl;
    c_is = refl;
  };
  takes = λ m put a n c sdu is h. rw is (taken_stands m put a n c sdu (no_fresh m.sender.fresh is) h);
  fires = λ m put a n c h. timed_stands m put a n c m.closed h;
}
