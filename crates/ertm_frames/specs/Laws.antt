-- Frames and segments read both ways.
use Rattle.std.specs.Prelude.{ℕ, ◌≡◌, ◌≢◌, ◌⊎◌, ◌<◌, List, ◌∷◌, ◌++◌, Ok, Err}
use Rattle.std.specs.List.{flat_map}
use Rattle.ertm_frames.specs.declared.refusal.FrameRefusal.TheVariants.{Short, BadFcs}
use Rattle.ertm_frames.specs.Answers.{Answer, IsWithin, IsAnswer}
use Rattle.ertm_frames.specs.Frames.{PlainFrame, Spells}
use Rattle.ertm_frames.specs.Segments.{Segment, SpellsSdu, SpellSdus}

-- a PDU has one answer: one frame with the PDU for its spelling, or one refusal
abbrev pub OneAnswer : Type 0
OneAnswer = (mps : ℕ) (pdu : List ℕ) (first second : Answer) → IsAnswer mps pdu first → IsAnswer mps pdu second → first ≡ second

-- octets are those of at most one frame on at most one channel
abbrev pub OneFrame : Type 0
OneFrame = (cid cid' : ℕ) (frame frame' : PlainFrame) (pdu : List ℕ) → Spells cid frame pdu → Spells cid' frame' pdu → (cid ≡ cid') × (frame ≡ frame')

-- segments are those of at most one SDU: what they carry, joined
abbrev pub OneSdu : Type 0
OneSdu = (segments : List Segment) (sdu : List ℕ) → SpellsSdu segments sdu → sdu ≡ flat_map (λ segment. segment.octets) segments

-- and at most one list of SDUs
abbrev pub OneSduList : Type 0
OneSduList = (segments : List Segment) (sdus sdus' : List (List ℕ)) → SpellSdus segments sdus → SpellSdus segments sdus' → sdus ≡ sdus'

-- a frame that was written, and is within what the receiver takes, is the answer
abbrev pub WrittenIsRead : Type 0
WrittenIsRead = (cid mps : ℕ) (frame : PlainFrame) (pdu : List ℕ) (given : Answer) →
    Spells cid frame pdu → IsWithin mps frame → IsAnswer mps pdu given → given ≡ Ok frame

-- a frame of which two neighbouring octets, or one of them, came otherwise is no frame: it is not whole, or its
-- check word does not hold
abbrev pub ChangedFramesAreSeen : Type 0
ChangedFramesAreSeen = (cid mps : ℕ) (frame : PlainFrame) (front behind : List ℕ) (first second first' second' : ℕ) (given : Answer) →
    first < 256 → second < 256 → first' < 256 → second' < 256 → (first ≢ first') ⊎ (second ≢ second') →
    Spells cid frame (front ++ first ∷ second ∷ behind) → IsAnswer mps (front ++ first' ∷ second' ∷ behind) given →
    (given ≡ Err Short) ⊎ (given ≡ Err BadFcs)
