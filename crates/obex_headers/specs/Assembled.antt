-- What a call of an assembler lends, and where the octets of a packet lie.
use Rattle.std.specs.Prelude.{◌≡◌, ℕ, ◌<◌, ◌≤◌, List, [], ◌++◌, length, take}
use Rattle.obex_headers.specs.declared.assembler.Assembled.{Assembled}
use Rattle.obex_headers.specs.declared.assembler.Assembled.TheVariants as lent
use Rattle.obex_headers.specs.declared.assembler.Step.{Step}
use Rattle.obex_headers.specs.declared.assembler.Step.TheVariants as steps
use Rattle.obex_headers.specs.Assembling.{Answer, Packet, More, Refused, IsFramed, IsPartial, BeginsNone}

abbrev pub answer_of : Assembled → Answer
answer_of (lent.Packet octets used) = Packet octets.now used
answer_of lent.More = More
answer_of (lent.Refused refusal) = Refused refusal

-- where the next packet ends: within the piece alone, or within what is held and the piece
abbrev pub IsStep : ℕ → List ℕ → List ℕ → Step → Type 0
IsStep maximum held piece (steps.Inside used) = (held ≡ []) × (0 < used) × (used ≤ length piece) × IsFramed maximum (take used piece)
IsStep maximum held piece (steps.Joined used) = (0 < used) × (used ≤ length piece) × IsFramed maximum (held ++ take used piece)
IsStep maximum held piece steps.More = IsPartial maximum (held ++ piece)
IsStep maximum held piece (steps.Refused refusal) = BeginsNone maximum (held ++ piece) refusal
