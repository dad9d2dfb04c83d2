-- Frames on their way, where one more is given, one goes, or the numbers at the ends change.
use Rattle.std.proofs.Common.{ℕ, ◌≡◌, ◌%◌, ◌≤◌, List, [], ◌∷◌, ◌++◌, ap, sym, ◌∙◌, arith}
use Rattle.ertm_frames.specs.Frames.{PlainFrame, information, supervisory}
use Rattle.ertm_frames.specs.Segments.{Segment}
use Rattle.ertm_frames.specs.Picking.{req_of}
use Rattle.ertm_model.specs.Pair.{Sent, behind_front}
use Rattle.ertm_model.specs.Order.{MayFly, reached, Flies, Rises}
use Rattle.ertm_model.proofs.Lists.{get-before}

-- ---- I-frames

pub reached-up : (reach number : ℕ) (frame : PlainFrame) → reach ≤ reached reach number frame
reached-up reach number (information tx final req sar total octets) = omega arith
reached-up reach number (supervisory kind poll final req) = omega arith

reached-less : (reach lower number : ℕ) (frame : PlainFrame) → lower ≤ reach → reached lower number frame ≤ reached reach number frame
reached-less reach lower number (information tx final req sar total octets) le = omega arith
reached-less reach lower number (supervisory kind poll final req) le = le

-- more was put, more was given, the reach is less
may-fly : (window : ℕ) (put more : List Segment) (given higher reach lower number : ℕ) (frame : PlainFrame) → given ≤ higher → lower ≤ reach
    → MayFly window put given reach number frame → MayFly window (put ++ more) higher lower number frame
may-fly window put more given higher reach lower number (information tx final req sar total octets) le le' h =
    (h.0, (let e = h.1 in omega arith), (let e = h.2 in omega arith), get-before put more number _ h.3)
may-fly window put more given higher reach lower number (supervisory kind poll final req) le le' h = h

pub flies-more : (window : ℕ) (put more : List Segment) (given higher reach lower : ℕ) (queue : List Sent) → given ≤ higher → lower ≤ reach
    → Flies window put given reach queue → Flies window (put ++ more) higher lower queue
flies-more window put more given higher reach lower [] le le' h = omega arith
flies-more window put more given higher reach lower (sent ∷ queue) le le' h = (
  may-fly window put more given higher reach lower sent.number sent.frame le le' h.0,
  flies-more window put more given higher (reached reach sent.number sent.frame) (reached lower sent.number sent.frame) queue le (reached-less reach lower sent.number sent.frame le') h.1,
)

may-fly-still : (window : ℕ) (put : List Segment) (given higher reach lower number : ℕ) (frame : PlainFrame) → given ≤ higher → lower ≤ reach
    → MayFly window put given reach number frame → MayFly window put higher lower number frame
may-fly-still window put given higher reach lower number (information tx final req sar total octets) le le' h =
    (h.0, (let e = h.1 in omega arith), (let e = h.2 in omega arith), h.3)
may-fly-still window put given higher reach lower number (supervisory kind poll final req) le le' h = h

pub flies-still : (window : ℕ) (put : List Segment) (given higher reach lower : ℕ) (queue : List Sent) → given ≤ higher → lower ≤ reach
    → Flies window put given reach queue → Flies window put higher lower queue
flies-still window put given higher reach lower [] le le' h = omega arith
flies-still window put given higher reach lower (sent ∷ queue) le le' h = (
  may-fly-still window put given higher reach lower sent.number sent.frame le le' h.0,
  flies-still window put given higher (reached reach sent.number sent.frame) (reached lower sent.number sent.frame) queue le (reached-less reach lower sent.number sent.frame le') h.1,
)

-- one more is given
pub flies-on :
    (window : ℕ) (put : List Segment) (given higher reach : ℕ) (queue : List Sent) (sent : Sent) → given ≤ higher
    → ((r : ℕ) → r ≤ given → MayFly window put higher r sent.number sent.frame × (reached r sent.number sent.frame ≤ higher))
    → Flies window put given reach queue → Flies window put higher reach (queue ++ sent ∷ [])
flies-on window put given higher reach [] sent le may h = may reach h
flies-on window put given higher reach (first ∷ queue) sent le may h = (
  may-fly-still window put given higher reach reach first.number first.frame le (omega arith) h.0,
  flies-on window put given higher (reached reach first.number first.frame) queue sent le may h.1,
)

pub flies-behind : (window : ℕ) (put : List Segment) (given reach : ℕ) (queue : List Sent) → Flies window put given reach queue → Flies window put given reach (behind_front queue)
flies-behind window put given reach [] h = h
flies-behind window put given reach (sent ∷ queue) h =
    flies-still window put given given (reached reach sent.number sent.frame) reach queue (omega arith) (reached-up reach sent.number sent.frame) h.1

-- ---- ReqSeq values

pub rises-between : (low high : ℕ) (queue : List Sent) → Rises low high queue → low ≤ high
rises-between low high [] h = h
rises-between low high (sent ∷ queue) h = let more = rises-between sent.asks high queue h.2 in let e = h.0 in omega arith

rises-less : (low lower high : ℕ) (queue : List Sent) → lower ≤ low → Rises low high queue → Rises lower high queue
rises-less low lower high [] le h = omega arith
rises-less low lower high (sent ∷ queue) le h = ((let e = h.0 in omega arith), h.1, h.2)

pub rises-more : (low high higher : ℕ) (queue : List Sent) → high ≤ higher → Rises low high queue → Rises low higher queue
rises-more low high higher [] le h = omega arith
rises-more low high higher (sent ∷ queue) le h = (h.0, h.1, rises-more sent.asks high higher queue le h.2)

pub rises-on : (low high : ℕ) (queue : List Sent) (sent : Sent) → sent.asks ≡ high → req_of sent.frame ≡ high % 64 → Rises low high queue → Rises low high (queue ++ sent ∷ [])
rises-on low high [] sent is req h = ((let e = is in omega arith), req ∙ ap (λ (n : ℕ). n % 64) (sym is), (let e = is in omega arith))
rises-on low high (first ∷ queue) sent is req h = (h.0, h.1, rises-on first.asks high queue sent is req h.2)

pub rises-behind : (low high : ℕ) (queue : List Sent) → Rises low high queue → Rises low high (behind_front queue)
rises-behind low high [] h = h
rises-behind low high (sent ∷ queue) h = rises-less sent.asks low high queue h.0 h.2
