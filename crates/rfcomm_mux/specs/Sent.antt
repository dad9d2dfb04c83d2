-- The octets of a frame that is sent.
use Rattle.std.specs.Prelude.{ℕ, ◌≡◌, ◌<◌, false, List, [], take, drop, Option, Some, None, is_some, IfSome, IfNone}
use Rattle.rfcomm_frames.specs.Frames.{PlainFrame, carries, has_credits, size_of, Spells}
use Rattle.rfcomm_model.specs.Machine.{Mux}
use Rattle.rfcomm_model.specs.Saying.{Said, after_said}

-- apart from its octets, which a slice shows to be octets, the frame may be written
pub record IsMade (frame : PlainFrame) : Type 0 where
  pub dlci : frame.dlci < 64
  pub granting : is_some frame.credits ≡ has_credits frame.dlci frame.kind frame.pf
  pub alone : carries frame.kind ≡ false → frame.octets ≡ []

-- so many octets are those of the frame, with the shortest length field
pub record IsWritten (n : ℕ) (octets : List ℕ) (frame : PlainFrame) : Type 0 where
  pub size : n ≡ size_of frame
  pub spelling : Spells frame octets

-- they are those of the frame that is said
abbrev pub IsSent : ℕ → List ℕ → Option Said → Type 0
IsSent n octets None = ⊥
IsSent n octets (Some said) = IsWritten n octets said.frame

-- a call that sends what is said: it writes the octets at the front of a buffer and answers how many; where nothing is
-- said, it answers none and writes nothing
pub record Sends (said : Option Said) (old new : Mux) (result : Option ℕ) (before after : List ℕ) : Type 0 where
  pub machine : new ≡ after_said said old
  pub none : IfNone result ((said ≡ None) × (after ≡ before))
  pub some : IfSome result (λ n. IsSent n (take n after) said)
  pub rest : IfSome result (λ n. drop n after ≡ drop n before)
