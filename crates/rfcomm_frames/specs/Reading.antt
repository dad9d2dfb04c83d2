-- The steps of reading: the body of a frame, a frame without its check word, a value under its type octet.
use Rattle.std.specs.Prelude.{ℕ, ◌-◌, ◌*◌, ◌/◌, ◌%◌, List, length, slice_index, Option, Some, None, Ok, Err, Bool, ◌==◌, if◌then◌else◌, ◌≡◌, ◌++◌, is_some}
use Rattle.byteorder.specs.Endian.{little_from}
use Rattle.rfcomm_frames.specs.declared.refusal.MuxRefusal.TheVariants.{Short, BadExtension, BadControl, LengthMismatch, BadFcs}
use Rattle.rfcomm_frames.specs.Lengths.{States}
use Rattle.rfcomm_frames.specs.Frames.{credit_octets, HasForm}
use Rattle.rfcomm_frames.specs.Answers.{Answer, Refuses}
use Rattle.rfcomm_frames.specs.Controls.{PlainControl, pn, msc, test, rpn, rls, nsc, other}

-- so many octets, and no others
abbrev pub exactly : ℕ → List ℕ → PlainControl → Option PlainControl
exactly size value control = if length value == size then Some control else None

abbrev pub parameters : Bool → List ℕ → Option PlainControl
parameters command v =
    exactly 8 v (pn command (slice_index v 0) (slice_index v 1) (slice_index v 2) (slice_index v 3) (little_from 4 2 v) (slice_index v 6) (slice_index v 7))

abbrev pub modem_signals : Bool → List ℕ → Option PlainControl
modem_signals command v = exactly 2 v (msc command (slice_index v 0) (slice_index v 1))

abbrev pub not_supported : List ℕ → Option PlainControl
not_supported v = exactly 1 v (nsc (slice_index v 0))

-- what a value says under a type octet, where it has a length of that type
abbrev pub message : ℕ → List ℕ → Option PlainControl
message kind v =
    let flag : ℕ = kind / 2 % 2 in
    let response : ℕ = kind - 2 * flag in
    let command : Bool = flag == 1 in
    if response == 0x81 then parameters command v else
    if response == 0xE1 then modem_signals command v else
    if response == 0x21 then Some (test command v) else
    if response == 0x91 then Some (rpn command v) else
    if response == 0x51 then Some (rls command v) else
    if kind == 0x11 then not_supported v else
    Some (other kind v)

-- a length field, the credits where a frame has them, and as much information as the field states
abbrev pub IsSplit : Bool → List ℕ → Option ℕ → List ℕ → Type 0
IsSplit granting body credits octets =
    (field : List ℕ) × States field (length octets) × (is_some credits ≡ granting) × (body ≡ field ++ (credit_octets credits ++ octets))

-- what is answered before the check word is looked at
abbrev pub IsFormed : List ℕ → Answer → Type 0
IsFormed octets (Ok frame) = HasForm frame octets
IsFormed octets (Err Short) = Refuses octets Short
IsFormed octets (Err BadExtension) = Refuses octets BadExtension
IsFormed octets (Err BadControl) = Refuses octets BadControl
IsFormed octets (Err LengthMismatch) = Refuses octets LengthMismatch
IsFormed octets (Err BadFcs) = ⊥
