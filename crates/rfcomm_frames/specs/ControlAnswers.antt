-- What is answered to octets that should begin with a control message.
use Rattle.std.specs.Prelude.{ℕ, ◌%◌, ◌≤◌, ◌≡◌, List, ◌∷◌, ◌++◌, length, take, slice_index, Result, Ok, Err}
use Rattle.rfcomm_frames.specs.declared.control.Control.{Control}
use Rattle.rfcomm_frames.specs.declared.refusal.MuxRefusal.{MuxRefusal}
use Rattle.rfcomm_frames.specs.declared.refusal.MuxRefusal.TheVariants.{Short, BadExtension, BadControl, LengthMismatch, BadFcs}
use Rattle.rfcomm_frames.specs.Lengths.{States}
use Rattle.rfcomm_frames.specs.Controls.{PlainControl, plain_control, SpellsControl}

-- a message and how many octets it has, or a refusal
abbrev pub ControlAnswer : Type 0
ControlAnswer = Result (PlainControl × ℕ) MuxRefusal

-- what code returns, apart from where its octets lie in memory
abbrev pub control_answer : Result (Control × ℕ) MuxRefusal → ControlAnswer
control_answer (Ok found) = Ok (plain_control found.0, found.1)
control_answer (Err refusal) = Err refusal

-- the octets begin with a type octet and a whole length field
pub record HasFront (octets : List ℕ) : Type 0 where
  pub kind : ℕ
  pub field : List ℕ
  pub behind : List ℕ
  pub count : ℕ
  pub parts : octets ≡ kind ∷ (field ++ behind)
  pub states : States field count

-- why no control message is read: the type or the length is not there whole; else the type goes on; else no
-- message begins the octets, which the length field is to blame for
abbrev pub RefusesControl : List ℕ → MuxRefusal → Type 0
RefusesControl octets Short = ¬ HasFront octets
RefusesControl octets BadExtension = HasFront octets × (slice_index octets 0 % 2 ≡ 0)
RefusesControl octets BadControl = ⊥
RefusesControl octets LengthMismatch =
    HasFront octets × (slice_index octets 0 % 2 ≡ 1) × ((control : PlainControl) (used : ℕ) → ¬ SpellsControl control (take used octets))
RefusesControl octets BadFcs = ⊥

-- what is answered: the message that so many octets at the front spell, or why there is none
abbrev pub IsControlAnswer : List ℕ → ControlAnswer → Type 0
IsControlAnswer octets (Ok found) = (found.1 ≤ length octets) × SpellsControl found.0 (take found.1 octets)
IsControlAnswer octets (Err refusal) = RefusesControl octets refusal
