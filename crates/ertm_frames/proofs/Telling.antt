-- What is said on a channel, with one frame more.
use Rattle.std.proofs.Common.{ℕ, ◌≡◌, ◌+◌, max, Bool, true, false, cond, List, [], ◌∷◌, ◌++◌, length, Option, Some, None, refl, ap, sym, ◌∙◌, arith, append-nil, length-append}
use Rattle.std.specs.List.{cons_option}
use Rattle.std.proofs.lemmas.List.{append_assoc}
use Rattle.ertm_frames.specs.Frames.{PlainFrame, information, supervisory}
use Rattle.ertm_frames.specs.Segments.{Segment}
use Rattle.ertm_frames.specs.Reading.{frame_in, frames_in}
use Rattle.ertm_frames.specs.Picking.{has_number, segments_in, picked, IsNumber, AreNumbers, req_of, last_req, Passage, Out, In, waits_after, poll_waits, outs}

abbrev pub picked_one : ℕ → PlainFrame → List Segment
picked_one n frame = cond (has_number n frame) (segments_in frame) []

-- one more is picked, or none
one_picked : (n : ℕ) (frame : PlainFrame) → has_number n frame ≡ true → length (segments_in frame) ≡ 1
one_picked n (information tx final req sar total octets) is = refl
one_picked n (supervisory kind poll final req) is = cc

picked_by : (n : ℕ) (first last : PlainFrame) (frames : List PlainFrame) (next : Bool) → has_number n first ≡ next
    → picked (n + 1) (frames ++ last ∷ []) ≡ picked (n + 1) frames ++ picked_one (n + 1 + length (picked (n + 1) frames)) last
    → picked n (frames ++ last ∷ []) ≡ picked n frames ++ picked_one (n + length (picked n frames)) last
    → cond next (segments_in first ++ picked (n + 1) (frames ++ last ∷ [])) (picked n (frames ++ last ∷ []))
    ≡ cond next (segments_in first ++ picked (n + 1) frames) (picked n frames) ++ picked_one (n + length (cond next (segments_in first ++ picked (n + 1) frames) (picked n frames))) last
picked_by n first last frames true is h k =
    let one = one_picked n first is in
    let long = length-append (segments_in first) (picked (n + 1) frames) in
    let place : n + 1 + length (picked (n + 1) frames) ≡ n + length (segments_in first ++ picked (n + 1) frames) = omega arith in
    ap (λ (l : List Segment). segments_in first ++ l) (h ∙ ap (λ (m : ℕ). picked (n + 1) frames ++ picked_one m last) place)
    ∙ sym (append_assoc (segments_in first) (picked (n + 1) frames) (picked_one (n + length (segments_in first ++ picked (n + 1) frames)) last))
picked_by n first last frames false is h k = k

pub picked-more : (n : ℕ) (frames : List PlainFrame) (last : PlainFrame) → picked n (frames ++ last ∷ []) ≡ picked n frames ++ picked_one (n + length (picked n frames)) last
picked-more n [] last =
    let e : n + 0 ≡ n = omega arith in
    rw e (elim (has_number n last) as (λ (b : Bool). cond b (segments_in last ++ []) [] ≡ cond b (segments_in last) []) [ true ↦ append-nil (segments_in last) | false ↦ refl ])
picked-more n (first ∷ frames) last = picked_by n first last frames (has_number n first) refl (picked-more (n + 1) frames last) (picked-more n frames last)

pub req-more : (req : ℕ) (frames : List PlainFrame) (last : PlainFrame) → last_req req (frames ++ last ∷ []) ≡ req_of last
req-more req [] last = refl
req-more req (frame ∷ frames) last = req-more (req_of frame) frames last

pub waits-more : (waits : Bool) (passages : List Passage) (last : Passage) → poll_waits waits (passages ++ last ∷ []) ≡ waits_after (poll_waits waits passages) last
waits-more waits [] last = refl
waits-more waits (passage ∷ passages) last = waits-more (waits_after waits passage) passages last

pub outs-more : (passages : List Passage) (frame : PlainFrame) → outs (passages ++ Out frame ∷ []) ≡ outs passages ++ frame ∷ []
outs-more [] frame = refl
outs-more (Out first ∷ passages) frame = ap (λ (l : List PlainFrame). first ∷ l) (outs-more passages frame)
outs-more (In first ∷ passages) frame = outs-more passages frame

pub outs-same : (passages : List Passage) (frame : PlainFrame) → outs (passages ++ In frame ∷ []) ≡ outs passages
outs-same [] frame = refl
outs-same (Out first ∷ passages) frame = ap (λ (l : List PlainFrame). first ∷ l) (outs-same passages frame)
outs-same (In first ∷ passages) frame = outs-same passages frame

cons_more : (o : Option PlainFrame) (xs ys : List PlainFrame) → cons_option o (xs ++ ys) ≡ cons_option o xs ++ ys
cons_more None xs ys = refl
cons_more (Some x) xs ys = refl

pub frames-more : (mps : ℕ) (pdus : List (List ℕ)) (pdu : List ℕ) → frames_in mps (pdus ++ pdu ∷ []) ≡ frames_in mps pdus ++ cons_option (frame_in mps pdu) []
frames-more mps [] pdu = refl
frames-more mps (first ∷ pdus) pdu =
    ap (λ (l : List PlainFrame). cons_option (frame_in mps first) l) (frames-more mps pdus pdu) ∙ cons_more (frame_in mps first) (frames_in mps pdus) (cons_option (frame_in mps pdu) [])

-- ---- numbers

-- one past the greatest of some numbers, and at least a bound
pub tops : ℕ → List ℕ → ℕ
tops bound [] = bound
tops bound (n ∷ numbers) = tops (max bound (n + 1)) numbers

pub tops-new : (bound : ℕ) → tops bound [] ≡ bound
unfolding tops
tops-new bound = refl

pub tops-more : (bound : ℕ) (numbers : List ℕ) (n : ℕ) → tops bound (numbers ++ n ∷ []) ≡ max (tops bound numbers) (n + 1)
unfolding tops
tops-more bound [] n = refl
tops-more bound (first ∷ numbers) n = tops-more (max bound (first + 1)) numbers n

pub numbers-more : (bound : ℕ) (frames : List PlainFrame) (numbers : List ℕ) (tx req sar total n : ℕ) (final : Bool) (octets : List ℕ)
    → AreNumbers bound frames numbers → IsNumber (tops bound numbers) tx n → AreNumbers bound (frames ++ information tx final req sar total octets ∷ []) (numbers ++ n ∷ [])
unfolding tops
numbers-more bound [] [] tx req sar total n final octets are is = (is, refl)
numbers-more bound [] (first ∷ numbers) tx req sar total n final octets are is = cc
numbers-more bound (supervisory kind poll last req' ∷ frames) numbers tx req sar total n final octets are is = numbers-more bound frames numbers tx req sar total n final octets are is
numbers-more bound (information tx' final' req' sar' total' octets' ∷ frames) [] tx req sar total n final octets are is = absurd are
numbers-more bound (information tx' final' req' sar' total' octets' ∷ frames) (first ∷ numbers) tx req sar total n final octets are is =
    (are.0, numbers-more (max bound (first + 1)) frames numbers tx req sar total n final octets are.1 is)

pub numbers-same : (bound : ℕ) (frames : List PlainFrame) (numbers : List ℕ) (frame : PlainFrame) → segments_in frame ≡ [] → AreNumbers bound frames numbers → AreNumbers bound (frames ++ frame ∷ []) numbers
numbers-same bound [] numbers (information tx final req sar total octets) none are = cc
numbers-same bound [] numbers (supervisory kind poll final req) none are = are
numbers-same bound (supervisory kind poll last req' ∷ frames) numbers frame none are = numbers-same bound frames numbers frame none are
numbers-same bound (information tx' final' req' sar' total' octets' ∷ frames) [] frame none are = absurd are
numbers-same bound (information tx' final' req' sar' total' octets' ∷ frames) (first ∷ numbers) frame none are = (are.0, numbers-same (max bound (first + 1)) frames numbers frame none are.1)
