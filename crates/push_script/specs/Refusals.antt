-- The line that tells of a refused scenario (this project's own).
use Rattle.std.specs.Prelude.{ℕ, ◌+◌, ◌==◌, Bool, List, ◌++◌, codes, decimal}
use Rattle.std.specs.List.{position_or_len, starts_with}
use Rattle.push_script.specs.declared.refusal.ScriptRefusal.{ScriptRefusal}
use Rattle.push_script.specs.declared.refusal.ScriptRefusal.TheVariants.{BadLine, UnknownKey, Repeated, OutOfRange, NoTransport, NoObject, TooManyObjects, LossyRfcomm, NotUtf8, TooLong}
use Rattle.push_script.specs.Reading.{lines}

-- the name of a refusal
abbrev pub refusal_name : ScriptRefusal → List ℕ
refusal_name BadLine = codes "BadLine"
refusal_name UnknownKey = codes "UnknownKey"
refusal_name Repeated = codes "Repeated"
refusal_name OutOfRange = codes "OutOfRange"
refusal_name NoTransport = codes "NoTransport"
refusal_name NoObject = codes "NoObject"
refusal_name TooManyObjects = codes "TooManyObjects"
refusal_name LossyRfcomm = codes "LossyRfcomm"
refusal_name NotUtf8 = codes "NotUtf8"
refusal_name TooLong = codes "TooLong"

-- the number of the refused line and the name of its refusal
abbrev pub refusal_line : ℕ → ScriptRefusal → List ℕ
refusal_line line refusal = codes "refused line " ++ decimal line ++ codes " " ++ refusal_name refusal ++ codes "\n"

-- the line states an object
abbrev pub is_object_line : List ℕ → Bool
is_object_line line = starts_with (λ x y. x == y) line (codes "object ")

-- The number of the first line that states an object, from 1 on. A text without one has it behind its last line.
abbrev pub object_line : List ℕ → ℕ
object_line text = position_or_len is_object_line (lines text) + 1
