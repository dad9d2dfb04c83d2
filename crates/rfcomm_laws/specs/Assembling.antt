-- The packets that an assembler gives, over the octets that a multiplexer hands up, are those of the whole stream.
use Rattle.std.specs.Prelude.{ℕ, ◌≡◌, List, ◌++◌, None}
use Rattle.std.specs.List.{flat_map}
use Rattle.rfcomm_frames.specs.ObexPackets.{obex_packets}
use Rattle.obex_headers.specs.declared.fault.ObexRefusal.{ObexRefusal}
use Rattle.obex_headers.specs.declared.fault.ObexRefusal.TheVariants.{BadLength}
use Rattle.obex_headers.specs.Assembling.{Assembling, Answers, Refused, Call, IsRun, taken, given, fresh}

-- However the stream is cut into pieces. An assembler that refuses gave all packets before the octets that it refused;
-- where their length is too small there is none behind them.
pub record PiecesAreOfOneStream : Type 0 where
  pub split : (maximum : ℕ) (calls : List Call) (new : Assembling) → IsRun (fresh maximum) calls new → new.refusal ≡ None → flat_map given calls ≡ obex_packets (flat_map taken calls)
  pub refused : (maximum : ℕ) (calls : List Call) (piece : List ℕ) (refusal : ObexRefusal) (mid new : Assembling) → IsRun (fresh maximum) calls mid → mid.refusal ≡ None →
      Answers mid piece (Refused refusal) new → (more : List (List ℕ)) × (obex_packets (flat_map taken calls ++ piece) ≡ flat_map given calls ++ more)
  pub too_small : (maximum : ℕ) (calls : List Call) (piece : List ℕ) (mid new : Assembling) → IsRun (fresh maximum) calls mid → mid.refusal ≡ None →
      Answers mid piece (Refused BadLength) new → flat_map given calls ≡ obex_packets (flat_map taken calls ++ piece)
