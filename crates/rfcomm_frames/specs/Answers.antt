-- What is answered to octets that should be a frame.
use Rattle.std.specs.Prelude.{ℕ, ◌%◌, ◌<◌, ◌≤◌, ◌≡◌, Bool, List, length, slice_index, Result, Ok, Err}
use Rattle.check_words.specs.CheckWords.{RfcommCheckHolds}
use Rattle.rfcomm_frames.specs.declared.frame.MuxFrame.{MuxFrame}
use Rattle.rfcomm_frames.specs.declared.frame.MuxKind.{MuxKind}
use Rattle.rfcomm_frames.specs.declared.refusal.MuxRefusal.{MuxRefusal}
use Rattle.rfcomm_frames.specs.declared.refusal.MuxRefusal.TheVariants.{Short, BadExtension, BadControl, LengthMismatch, BadFcs}
use Rattle.rfcomm_frames.specs.Frames.{PlainFrame, plain, control_octet, covered, HasForm, Spells}

abbrev pub Answer : Type 0
Answer = Result PlainFrame MuxRefusal

-- what code returns, apart from where its octets lie in memory
abbrev pub answer : Result MuxFrame MuxRefusal → Answer
answer (Ok frame) = Ok (plain frame)
answer (Err refusal) = Err refusal

-- an address, a control, a length field of an octet and a check word have room
abbrev pub HasRoom : List ℕ → Type 0
HasRoom octets = 4 ≤ length octets

-- the extension bit of the address is set: it has one octet
abbrev pub EndsAddress : List ℕ → Type 0
EndsAddress octets = slice_index octets 0 % 2 ≡ 1

-- the control octet is that of some kind, with or without the P/F bit
abbrev pub IsControlOctet : ℕ → Type 0
IsControlOctet n = (kind : MuxKind) × (pf : Bool) × (n ≡ control_octet kind pf)

-- a frame could begin so
abbrev pub HasHead : List ℕ → Type 0
HasHead octets = HasRoom octets × EndsAddress octets × IsControlOctet (slice_index octets 1)

-- why octets are no frame: there are too few; else the address goes on; else no kind has the control octet; else
-- no frame has these octets, whatever its check word, which the length field is to blame for; else the check word
-- is not that of the frame
abbrev pub Refuses : List ℕ → MuxRefusal → Type 0
Refuses octets Short = length octets < 4
Refuses octets BadExtension = HasRoom octets × (slice_index octets 0 % 2 ≡ 0)
Refuses octets BadControl = HasRoom octets × EndsAddress octets × ¬ IsControlOctet (slice_index octets 1)
Refuses octets LengthMismatch = HasHead octets × ((frame : PlainFrame) → ¬ HasForm frame octets)
Refuses octets BadFcs = (frame : PlainFrame) × (form : HasForm frame octets) × ¬ RfcommCheckHolds (covered form.field frame) form.check

-- what is answered: the frame that the octets spell, or why they are refused
abbrev pub IsAnswer : List ℕ → Answer → Type 0
IsAnswer octets (Ok frame) = Spells frame octets
IsAnswer octets (Err refusal) = Refuses octets refusal
