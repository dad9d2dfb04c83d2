-- Frames and control messages read both ways.
use Rattle.std.specs.Prelude.{ℕ, ◌%◌, ◌^◌, ◌≡◌, ◌≢◌, ◌<◌, ◌≤◌, ◌⊎◌, Bool, true, false, Some, None, is_some, List, [], ◌∷◌, ◌++◌, length, Ok, Err}
use Rattle.check_words.specs.CheckWords.{bits_of}
use Rattle.rfcomm_frames.specs.declared.frame.MuxKind.TheVariants.{Sabm, Uih}
use Rattle.rfcomm_frames.specs.declared.refusal.MuxRefusal.TheVariants.{LengthMismatch}
use Rattle.rfcomm_frames.specs.Lengths.{States, shortest}
use Rattle.rfcomm_frames.specs.Frames.{PlainFrame, address_of, control_octet, carries, has_credits, body_of, covered, unchecked, size_of, Spells}
use Rattle.rfcomm_frames.specs.Answers.{Answer, IsAnswer}
use Rattle.rfcomm_frames.specs.Controls.{PlainControl, pn, value_of, written, SpellsControl}
use Rattle.rfcomm_frames.specs.ControlAnswers.{ControlAnswer, IsControlAnswer}

-- octets have one answer: one frame with these octets, or one refusal
abbrev pub OneAnswer : Type 0
OneAnswer = (octets : List ℕ) (first second : Answer) → IsAnswer octets first → IsAnswer octets second → first ≡ second

-- octets are those of at most one frame
abbrev pub OneFrame : Type 0
OneFrame = (frame frame' : PlainFrame) (octets : List ℕ) → Spells frame octets → Spells frame' octets → frame ≡ frame'

-- octets have one answer: one message at their front and how many octets it has, or one refusal
abbrev pub OneControlAnswer : Type 0
OneControlAnswer = (octets : List ℕ) (first second : ControlAnswer) → IsControlAnswer octets first → IsControlAnswer octets second → first ≡ second

-- octets, with others behind them or not, begin with at most one message
abbrev pub OneControl : Type 0
OneControl = (control control' : PlainControl) (octets octets' behind behind' : List ℕ) →
    SpellsControl control octets → SpellsControl control' octets' → octets ++ behind ≡ octets' ++ behind' → (control ≡ control') × (octets ≡ octets')

-- a frame that was written is the answer
abbrev pub WrittenIsRead : Type 0
WrittenIsRead = (frame : PlainFrame) (octets : List ℕ) (given : Answer) → Spells frame octets → IsAnswer octets given → given ≡ Ok frame

-- a message that was written is the answer, with its octets, whatever stands behind them
abbrev pub WrittenControlIsRead : Type 0
WrittenControlIsRead = (control : PlainControl) (octets behind : List ℕ) (given : ControlAnswer) →
    SpellsControl control octets → IsControlAnswer (octets ++ behind) given → given ≡ Ok (control, length octets)

-- Octets laid out as those of a frame, whatever stands in place of the check word, whose length field states another
-- number of octets than there are of information, or that have information where the kind carries none, are refused
-- for their length.
abbrev pub WrongLengthsAreRefused : Type 0
WrongLengthsAreRefused = (frame : PlainFrame) (field : List ℕ) (n check : ℕ) (given : Answer) →
    States field n → is_some frame.credits ≡ has_credits frame.dlci frame.kind frame.pf →
    (n ≢ length frame.octets) ⊎ ((carries frame.kind ≡ false) × (frame.octets ≢ [])) →
    IsAnswer (address_of frame ∷ control_octet frame.kind frame.pf ∷ (body_of field frame ++ check ∷ [])) given → given ≡ Err LengthMismatch

-- A type octet that ends and a length field with a value behind it that is shorter than stated, or with a length
-- other than 8 for PN, 2 for MSC, 1 for NSC, are refused for their length.
abbrev pub WrongValuesAreRefused : Type 0
WrongValuesAreRefused = (kind n : ℕ) (field behind : List ℕ) (given : ControlAnswer) →
    kind % 2 ≡ 1 → States field n →
    (length behind < n) ⊎ (((kind ≡ 0x81) ⊎ (kind ≡ 0x83)) × (n ≢ 8)) ⊎ (((kind ≡ 0xE1) ⊎ (kind ≡ 0xE3)) × (n ≢ 2)) ⊎ ((kind ≡ 0x11) × (n ≢ 1)) →
    IsControlAnswer (kind ∷ (field ++ behind)) given → given ≡ Err LengthMismatch

-- what was read is written in as many octets or fewer, and may be written
abbrev pub WrittenIsNoLonger : Type 0
WrittenIsNoLonger = (frame : PlainFrame) (octets : List ℕ) → Spells frame octets → (size_of frame ≤ length octets) × (length frame.octets < 2 ^ 15)

abbrev pub WrittenControlIsNoLonger : Type 0
WrittenControlIsNoLonger = (control : PlainControl) (octets : List ℕ) → SpellsControl control octets →
    (length (written control) ≤ length octets) × (length (value_of control) < 2 ^ 15)

-- what the check word of a frame is over, and the check word
abbrev pub guarded : (frame : PlainFrame) (octets : List ℕ) → Spells frame octets → List ℕ
guarded frame octets spelled = covered spelled.form.field frame ++ spelled.form.check ∷ []

-- there are no two frames that differ there only within a stretch of eight bits
abbrev pub ChangedFramesAreSeen : Type 0
ChangedFramesAreSeen = (frame frame' : PlainFrame) (octets octets' : List ℕ) (spelled : Spells frame octets) (spelled' : Spells frame' octets')
    (front burst other behind : List Bool) →
    bits_of (guarded frame octets spelled) ≡ front ++ (burst ++ behind) → bits_of (guarded frame' octets' spelled') ≡ front ++ (other ++ behind) →
    length burst ≡ 8 → length other ≡ 8 → burst ≢ other → ⊥

-- a frame that carries no information, with one octet other than before, is no frame that carries none
abbrev pub ChangedOctetsAreSeen : Type 0
ChangedOctetsAreSeen = (frame frame' : PlainFrame) (front behind : List ℕ) (octet octet' : ℕ) →
    octet < 256 → octet' < 256 → octet ≢ octet' → carries frame.kind ≡ false → carries frame'.kind ≡ false →
    Spells frame (front ++ octet ∷ behind) → Spells frame' (front ++ octet' ∷ behind) → ⊥

-- The octets, but for check words, of an SABM frame on channel 18, of a UIH frame there with 7 credits and one octet,
-- of the PN command that asks for channel 18 with frames of 127 octets and 7 credits, and of the length 200.
abbrev pub AreWorkedValues : Type 0
AreWorkedValues =
    (unchecked (record { dlci = 18; cr = true; kind = Sabm; pf = true; credits = None; octets = [] }) ≡ 0x4B ∷ 0x3F ∷ 0x01 ∷ [])
    × (unchecked (record { dlci = 18; cr = true; kind = Uih; pf = true; credits = Some 7; octets = 0xAA ∷ [] }) ≡ 0x4B ∷ 0xFF ∷ 0x03 ∷ 0x07 ∷ 0xAA ∷ [])
    × (written (pn true 18 0xF0 0 0 127 0 7) ≡ 0x83 ∷ 0x11 ∷ 0x12 ∷ 0xF0 ∷ 0x00 ∷ 0x00 ∷ 0x7F ∷ 0x00 ∷ 0x00 ∷ 0x07 ∷ [])
    × (shortest 200 ≡ 0x90 ∷ 0x01 ∷ [])
