-- A machine in numbers that never wrap (Core 5.1, Volume 3 Part A, 8.3 and 8.6).
use Rattle.std.specs.Prelude.{ℕ, ◌≡◌, ◌≢◌, ◌+◌, ◌-◌, ◌%◌, ◌<◌, ◌≤◌, ◌==◌, ◌↔◌, max, false, List, [], ◌++◌, length, slice_get, Some, None, if◌then◌else◌}
use Rattle.l2cap_config.specs.declared.wish.Agreed.{Agreed}
use Rattle.ertm_frames.specs.Frames.{PlainFrame, information, supervisory}
use Rattle.ertm_frames.specs.Segments.{Segment}
use Rattle.ertm_frames.specs.Picking.{req_of}
use Rattle.ertm_model.specs.declared.reason.ErtmReason.TheVariants.{BadReqSeq}
use Rattle.ertm_model.specs.Value.{Ertm, new_ertm}
use Rattle.ertm_model.specs.Submitting.{cut, is_busy, submitted}
use Rattle.ertm_model.specs.Giving.{next_frame, after_frame, closing, timed}
use Rattle.ertm_model.specs.Hearing.{Ahead, place_of, segment_of, fault, heard}
use Rattle.ertm_model.specs.Order.{Sends}

-- The machine stands for plain numbers: the segments that were put are numbered from 0, A of them are acknowledged, the
-- next new one has the number N, and C were accepted from the other end. Its counters are A, N and C modulo 64, and what
-- it keeps are the segments from A on.
pub record StandsFor (m : Ertm) (put : List Segment) (a n c : ℕ) : Type 0 where
  pub sends : Sends m.agreed.send_window put a m.sender.first m.sender.next m.sender.unacked m.sender.fresh
  pub n_is : a + length m.sender.unacked ≡ n
  pub c_is : m.receiver.expected ≡ c % 64

-- ---- what it gives

-- an I-frame has a number from A to N, below A + W, and carries the segment of that number; N grows past it
abbrev pub GivesFrame : Ertm → List Segment → (a n c : ℕ) → PlainFrame → Type 0
GivesFrame m put a n c (information tx final req sar total octets) =
    (number : ℕ) × (a ≤ number) × (number ≤ n) × (number < a + m.agreed.send_window) × (slice_get put number ≡ Some (segment_of sar total octets))
    × (tx ≡ number % 64) × StandsFor (after_frame m) put a (max n (number + 1)) c
GivesFrame m put a n c (supervisory kind poll final req) = StandsFor (after_frame m) put a n c

abbrev pub GivesAbsolutely : Type 0
GivesAbsolutely = (m : Ertm) (put : List Segment) (a n c : ℕ) (frame : PlainFrame) → StandsFor m put a n c → next_frame m ≡ Some frame → GivesFrame m put a n c frame

-- ---- what it hears

-- the number that a ReqSeq is taken as
pub record IsTaken (a n req x : ℕ) : Type 0 where
  pub low : a ≤ x
  pub high : x ≤ n
  pub is : x % 64 ≡ req

-- an I-frame is accepted exactly where its TxSeq is C modulo 64
abbrev pub accepted_after : ℕ → PlainFrame → ℕ
accepted_after c (information tx final req sar total octets) = if tx == c % 64 then c + 1 else c
accepted_after c (supervisory kind poll final req) = c

-- the numbers of a frame that was read fit their fields
abbrev pub NumbersFit : PlainFrame → Type 0
NumbersFit (information tx final req sar total octets) = (tx < 64) × (req < 64)
NumbersFit (supervisory kind poll final req) = req < 64

-- A ReqSeq is taken as the one number from A to N that is the same modulo 64, and that is A then. Where there is none
-- the frame closes for its ReqSeq, and where there is one it never does.
pub record HearsFrame (m : Ertm) (put : List Segment) (a n c : ℕ) (frame : PlainFrame) : Type 0 where
  pub one : (x y : ℕ) → IsTaken a n (req_of frame) x → IsTaken a n (req_of frame) y → x ≡ y
  pub none : ((x : ℕ) → ¬ IsTaken a n (req_of frame) x) → heard frame m ≡ closing BadReqSeq m
  pub harmless : (x : ℕ) → IsTaken a n (req_of frame) x → fault frame m ≢ Some BadReqSeq
  pub goes : (x : ℕ) → IsTaken a n (req_of frame) x → fault frame m ≡ None → StandsFor (heard frame m) put x n (accepted_after c frame)

abbrev pub HearsAbsolutely : Type 0
HearsAbsolutely = (m : Ertm) (put : List Segment) (a n c : ℕ) (frame : PlainFrame) → m.agreed.send_window ≤ 63 → m.closed ≡ None → NumbersFit frame
    → StandsFor m put a n c → HearsFrame m put a n c frame

-- A dropped frame, whose TxSeq lies so many steps past C, asks for a REJ exactly where it lies in the receive window and
-- could not be a repeat.
abbrev pub RejectsAhead : Type 0
RejectsAhead = (window steps : ℕ) → 1 ≤ window → window ≤ 63 → 1 ≤ steps → (place_of window steps ≡ Ahead) ↔ ((steps ≤ window - 1) × (steps ≤ 63 - window))

-- ---- the other calls

-- a new machine stands for 0, 0 and 0; an SDU that is taken puts its segments behind the others; a timer moves no number
pub record OthersStand : Type 0 where
  pub new : (agreed : Agreed) → StandsFor (new_ertm agreed) [] 0 0 0
  pub takes : (m : Ertm) (put : List Segment) (a n c : ℕ) (sdu : List ℕ) → is_busy m ≡ false → StandsFor m put a n c → StandsFor (submitted sdu m) (put ++ cut m.agreed.send_mps sdu) a n c
  pub fires : (m : Ertm) (put : List Segment) (a n c : ℕ) → StandsFor m put a n c → StandsFor (timed m) put a n c
