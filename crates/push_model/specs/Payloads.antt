-- What is sent on a channel, by its content.
use Rattle.std.specs.Prelude.{◌≡◌, ℕ, List, length}
use Rattle.rfcomm_frames.specs.Frames.{PlainFrame, Spells, size_of}

-- an SDU: octets, or a frame of the multiplexer, which is written in the shortest form
pub data Payload : Type 0 where
  Octets : (octets : List ℕ) → Payload
  Framed : (frame : PlainFrame) → Payload

-- the octets of a frame in the shortest form
pub record IsShortest (frame : PlainFrame) (octets : List ℕ) : Type 0 where
  pub spelling : Spells frame octets
  pub size : length octets ≡ size_of frame

-- these octets are sent
abbrev pub IsSaid : Payload → List ℕ → Type 0
IsSaid (Octets content) octets = octets ≡ content
IsSaid (Framed frame) octets = IsShortest frame octets
