-- The I-frames that a receiver takes, and the numbers of those that a sender gave (Core 5.1, Volume 3 Part A, 3.3.2, 8.3
-- and 8.6).
use Rattle.std.specs.Prelude.{ℕ, ◌+◌, ◌-◌, ◌%◌, ◌<◌, ◌≤◌, ◌≡◌, ◌==◌, max, Bool, true, false, ◌||◌, List, [], ◌∷◌, ◌++◌, length, if◌then◌else◌}
use Rattle.std.specs.List.{AllByRecursion}
use Rattle.ertm_frames.specs.Frames.{PlainFrame, information, supervisory}
use Rattle.ertm_frames.specs.Segments.{Segment}
use Rattle.ertm_frames.specs.Joining.{sdus_of}
use Rattle.ertm_frames.specs.Reading.{frames_in}

-- ---- what is taken of a list of frames

-- the frame is an I-frame, and its TxSeq is the number modulo 64
abbrev pub HasNumber : ℕ → PlainFrame → Type 0
HasNumber n (information tx final req sar total octets) = tx ≡ n % 64
HasNumber n (supervisory kind poll final req) = ⊥

-- what an I-frame carries
abbrev pub segments_in : PlainFrame → List Segment
segments_in (information tx final req sar total octets) = record { sar = sar; total = total; octets = octets } ∷ []
segments_in (supervisory kind poll final req) = []

-- The segments are those of the first frame with the number n, then of the first frame behind it with the number
-- n + 1, and so on, as far as there are such frames.
abbrev pub ArePicked : ℕ → List PlainFrame → List Segment → Type 0
ArePicked n frames [] = AllByRecursion (λ frame. ¬ HasNumber n frame) frames
ArePicked n frames (segment ∷ segments) =
    (front : List PlainFrame) × (frame : PlainFrame) × (behind : List PlainFrame) × (frames ≡ front ++ frame ∷ behind)
    × AllByRecursion (λ before. ¬ HasNumber n before) front × HasNumber n frame × (segments_in frame ≡ segment ∷ []) × ArePicked (n + 1) behind segments

abbrev pub has_number : ℕ → PlainFrame → Bool
has_number n (information tx final req sar total octets) = tx == n % 64
has_number n (supervisory kind poll final req) = false

-- the same, frame by frame
abbrev pub picked : ℕ → List PlainFrame → List Segment
picked n [] = []
picked n (frame ∷ frames) = if has_number n frame then segments_in frame ++ picked (n + 1) frames else picked n frames

-- the SDUs that PDUs bring to a receiver that takes so many octets
abbrev pub sdus_in : ℕ → List (List ℕ) → List (List ℕ)
sdus_in mps pdus = sdus_of (picked 0 (frames_in mps pdus))

-- ---- the numbers of frames that were given

-- the number is the greatest up to a bound that is TxSeq modulo 64
pub record IsNumber (bound tx n : ℕ) : Type 0 where
  pub same : n % 64 ≡ tx
  pub low : n ≤ bound
  pub greatest : bound < n + 64

-- The numbers of the I-frames, in their order. Each is the greatest that is at most one more than the greatest number
-- before it, at most `bound` for the first. Where such a number would lie below 0 there are no numbers.
abbrev pub AreNumbers : (bound : ℕ) → List PlainFrame → List ℕ → Type 0
AreNumbers bound [] numbers = numbers ≡ []
AreNumbers bound (supervisory kind poll final req ∷ frames) numbers = AreNumbers bound frames numbers
AreNumbers bound (information tx final req sar total octets ∷ frames) [] = ⊥
AreNumbers bound (information tx final req sar total octets ∷ frames) (n ∷ numbers) =
    IsNumber bound tx n × AreNumbers (max bound (n + 1)) frames numbers

abbrev pub number : (bound tx : ℕ) → ℕ
number bound tx = bound - (bound + 64 - tx) % 64

abbrev pub numbers : (bound : ℕ) → List PlainFrame → List ℕ
numbers bound [] = []
numbers bound (supervisory kind poll final req ∷ frames) = numbers bound frames
numbers bound (information tx final req sar total octets ∷ frames) =
    number bound tx ∷ numbers (max bound (number bound tx + 1)) frames

-- ---- what is not acknowledged, and polls

abbrev pub req_of : PlainFrame → ℕ
req_of (information tx final req sar total octets) = req
req_of (supervisory kind poll final req) = req

-- the ReqSeq of the last frame, or 0
abbrev pub last_req : ℕ → List PlainFrame → ℕ
last_req req [] = req
last_req req (frame ∷ frames) = last_req (req_of frame) frames

-- How many I-frames are not acknowledged, of those that went out: ReqSeq is that of the last frame that came in, and
-- acknowledges all before it; as many went out anew as have numbers from 0 on (8.6.5.6).
abbrev pub unacknowledged : (out_ in_ : List PlainFrame) → ℕ
unacknowledged out_ in_ = (length (picked 0 out_) + 64 - last_req 0 in_) % 64

-- a frame that went out, or came in
pub data Passage : Type 0 where
  Out : (frame : PlainFrame) → Passage
  In : (frame : PlainFrame) → Passage

abbrev pub is_poll : PlainFrame → Bool
is_poll (information tx final req sar total octets) = false
is_poll (supervisory kind poll final req) = poll

abbrev pub is_final : PlainFrame → Bool
is_final (information tx final req sar total octets) = final
is_final (supervisory kind poll final req) = final

abbrev pub IsNoAnswer : Passage → Type 0
IsNoAnswer (Out frame) = Unit {0}
IsNoAnswer (In frame) = is_final frame ≡ false

-- a poll went out, and no frame with F came in behind it (8.6.5.7)
abbrev pub PollWaits : List Passage → Type 0
PollWaits passages =
    (front : List Passage) × (frame : PlainFrame) × (behind : List Passage) × (passages ≡ front ++ Out frame ∷ behind)
    × (is_poll frame ≡ true) × AllByRecursion IsNoAnswer behind

abbrev pub waits_after : Bool → Passage → Bool
waits_after waits (Out frame) = waits || is_poll frame
waits_after waits (In frame) = if is_final frame then false else waits

-- the same, frame by frame
abbrev pub poll_waits : Bool → List Passage → Bool
poll_waits waits [] = waits
poll_waits waits (passage ∷ passages) = poll_waits (waits_after waits passage) passages

abbrev pub outs : List Passage → List PlainFrame
outs [] = []
outs (Out frame ∷ passages) = frame ∷ outs passages
outs (In frame ∷ passages) = outs passages

abbrev pub ins : List Passage → List PlainFrame
ins [] = []
ins (Out frame ∷ passages) = ins passages
ins (In frame ∷ passages) = frame ∷ ins passages
