-- What is answered to octets, as a function of them (TS 07.10, 5.2.1 and 5.4.6; RFCOMM 1.2, 5.1). The laws say that it
-- is the one answer that octets have.
use Rattle.std.specs.Prelude.{ℕ, zero, suc, ◌+◌, ◌-◌, ◌*◌, ◌/◌, ◌%◌, ◌≡◌, ◌==◌, ◌&&◌, ◌||◌, not, nat_lt, Bool, true, false, List, [], ◌∷◌, length, take, drop, slice_index, Option, Some, None, Result, Ok, Err, if◌then◌else◌}
use Rattle.bt_base.specs.Octets.{IsOctets}
use Rattle.check_words.specs.CheckWords.{low_bits, rfcomm_check}
use Rattle.rfcomm_frames.specs.declared.frame.MuxKind.{MuxKind}
use Rattle.rfcomm_frames.specs.declared.frame.MuxKind.TheVariants.{Sabm, Ua, Dm, Disc, Uih}
use Rattle.rfcomm_frames.specs.declared.refusal.MuxRefusal.{MuxRefusal}
use Rattle.rfcomm_frames.specs.declared.refusal.MuxRefusal.TheVariants.{Short, BadExtension, BadControl, LengthMismatch, BadFcs}
use Rattle.rfcomm_frames.specs.Frames.{PlainFrame, carries, has_credits, Spells}
use Rattle.rfcomm_frames.specs.Answers.{Answer, IsAnswer}
use Rattle.rfcomm_frames.specs.Controls.{PlainControl}
use Rattle.rfcomm_frames.specs.ControlAnswers.{ControlAnswer, IsControlAnswer}
use Rattle.rfcomm_frames.specs.Reading.{message}

-- the number that the length field at the front states, and what is behind the field
abbrev pub second_length : ℕ → List ℕ → Option (ℕ × List ℕ)
second_length first [] = None
second_length first (second ∷ behind) = Some (first / 2 + 128 * second, behind)

abbrev pub stated : List ℕ → Option (ℕ × List ℕ)
stated [] = None
stated (first ∷ behind) = if first % 2 == 1 then Some (first / 2, behind) else second_length first behind

-- the kind that a control octet names, with or without the P/F bit
abbrev pub kind_of : ℕ → Option MuxKind
kind_of n =
    if (n == 0x2F) || (n == 0x3F) then Some Sabm else
    if (n == 0x63) || (n == 0x73) then Some Ua else
    if (n == 0x0F) || (n == 0x1F) then Some Dm else
    if (n == 0x43) || (n == 0x53) then Some Disc else
    if (n == 0xEF) || (n == 0xFF) then Some Uih else None

-- the credits, where a frame has them, and the information
abbrev pub Body : Type 0
Body = Option ℕ × List ℕ

abbrev pub credits_apart : Bool → List ℕ → Option Body
credits_apart false octets = Some (None, octets)
credits_apart true [] = None
credits_apart true (credits ∷ octets) = Some (Some credits, octets)

abbrev pub of_length : ℕ → Option Body → Option Body
of_length count None = None
of_length count (Some body) = if length body.1 == count then Some body else None

abbrev pub body_behind : Bool → Option (ℕ × List ℕ) → Option Body
body_behind granting None = None
body_behind granting (Some found) = of_length found.0 (credits_apart granting found.1)

-- two lists of bits are the same
abbrev pub same_bits : List Bool → List Bool → Bool
same_bits [] [] = true
same_bits [] (y ∷ ys) = false
same_bits (x ∷ xs) [] = false
same_bits (true ∷ xs) (true ∷ ys) = same_bits xs ys
same_bits (true ∷ xs) (false ∷ ys) = false
same_bits (false ∷ xs) (true ∷ ys) = false
same_bits (false ∷ xs) (false ∷ ys) = same_bits xs ys

-- the last octet is the check word of the first two in UIH, and of all before it in the others (RFCOMM 1.2, 5.1.1)
abbrev pub is_checked : MuxKind → List ℕ → Bool
is_checked kind octets =
    let end = length octets - 1 in
    same_bits (low_bits 8 (slice_index octets end)) (rfcomm_check (take (if carries kind then 2 else end) octets))

abbrev pub checked : List ℕ → PlainFrame → Answer
checked octets frame = if is_checked frame.kind octets then Ok frame else Err BadFcs

abbrev pub is_empty : List ℕ → Bool
is_empty [] = true
is_empty (octet ∷ octets) = false

abbrev pub with_body : List ℕ → MuxKind → Bool → Option Body → Answer
with_body octets kind pf None = Err LengthMismatch
with_body octets kind pf (Some body) =
    if carries kind || is_empty body.1
    then checked octets (record { dlci = slice_index octets 0 / 4; cr = slice_index octets 0 / 2 % 2 == 1; kind = kind; pf = pf; credits = body.0; octets = body.1 })
    else Err LengthMismatch

abbrev pub with_kind : List ℕ → Option MuxKind → Answer
with_kind octets None = Err BadControl
with_kind octets (Some kind) =
    let pf = slice_index octets 1 / 0x10 % 2 == 1 in
    with_body octets kind pf (body_behind (has_credits (slice_index octets 0 / 4) kind pf) (stated (take (length octets - 3) (drop 2 octets))))

-- the frame that octets spell, or the first of the refusals that holds
unfoldable pub frame_answer : List ℕ → Answer
frame_answer octets =
    if nat_lt (length octets) 4 then Err Short else
    if slice_index octets 0 % 2 == 0 then Err BadExtension else
    with_kind octets (kind_of (slice_index octets 1))

-- ---- control messages

abbrev pub with_message : List ℕ → ℕ → Option PlainControl → ControlAnswer
with_message octets used None = Err LengthMismatch
with_message octets used (Some control) = Ok (control, used)

abbrev pub with_value : List ℕ → ℕ → Option (ℕ × List ℕ) → ControlAnswer
with_value octets kind None = Err Short
with_value octets kind (Some found) =
    if kind % 2 == 0 then Err BadExtension else
    if nat_lt (length found.1) found.0 then Err LengthMismatch else
    with_message octets (length octets - length found.1 + found.0) (message kind (take found.0 found.1))

-- the control message at the front of octets and how many it has, or the first of the refusals that holds
unfoldable pub message_answer : List ℕ → ControlAnswer
message_answer [] = Err Short
message_answer (kind ∷ behind) = with_value (kind ∷ behind) kind (stated behind)

-- a message, or why the octets that begin there are none
abbrev pub MessageAnswer : Type 0
MessageAnswer = Result PlainControl MuxRefusal

-- the messages in octets in so many steps at most; a refused one is the last
abbrev pub messages_from : ControlAnswer → List MessageAnswer → List MessageAnswer
messages_from (Ok found) rest = Ok found.0 ∷ rest
messages_from (Err refusal) rest = Err refusal ∷ []

abbrev pub used_by : ControlAnswer → ℕ
used_by (Ok found) = found.1
used_by (Err refusal) = 0

unfoldable pub messages_within : ℕ → List ℕ → List MessageAnswer
messages_within steps [] = []
messages_within zero (octet ∷ octets) = []
messages_within (suc steps) (octet ∷ octets) = messages_from (message_answer (octet ∷ octets)) (messages_within steps (drop (used_by (message_answer (octet ∷ octets))) (octet ∷ octets)))

-- the messages in the information of a frame on the control channel, up to the first that is refused
unfoldable pub messages : List ℕ → List MessageAnswer
messages octets = messages_within (length octets) octets

-- ---- the laws

-- the function answers as is defined
abbrev pub FrameIsAnswered : Type 0
FrameIsAnswered = (octets : List ℕ) → IsOctets octets → IsAnswer octets (frame_answer octets)

abbrev pub MessageIsAnswered : Type 0
MessageIsAnswered = (octets : List ℕ) → IsOctets octets → IsControlAnswer octets (message_answer octets)

-- octets that spell a frame are answered with it
abbrev pub SpelledIsAnswered : Type 0
SpelledIsAnswered = (frame : PlainFrame) (octets : List ℕ) → IsOctets octets → Spells frame octets → frame_answer octets ≡ Ok frame
