-- Laws of one machine.
use Rattle.std.specs.Prelude.{ℕ, List}
use Rattle.ertm_frames.specs.Segments.{SpellsSdu}
use Rattle.ertm_model.specs.Submitting.{cut}

-- what an SDU is cut into are its segments
abbrev pub CutSpells : Type 0
CutSpells = (mps : ℕ) (sdu : List ℕ) → SpellsSdu (cut mps sdu) sdu
