-- The parts of a multiplexer that are kept in memory of their own.
use Rattle.std.specs.Prelude.{ℕ, ◌<◌, ◌≤◌, List, map, take}
use Rattle.std.specs.List.{AllByRecursion}
use Rattle.rfcomm_frames.specs.declared.frame.MuxKind.TheVariants.{Ua, Dm}
use Rattle.rfcomm_frames.specs.declared.connection.Role.{Role}
use Rattle.rfcomm_frames.specs.Frames.{PlainFrame}
use Rattle.rfcomm_model.specs.Written.{response_frame, message_frame}
use Rattle.rfcomm_mux.specs.declared.answers.Answer.{Answer}
use Rattle.rfcomm_mux.specs.declared.answers.Answer.TheVariants.{Agreement, Refusal, Message}

-- octets that wait, and how many may
pub record Held : Type 0 where
  pub largest : ℕ
  pub octets : List ℕ

-- the frame that an answer is
abbrev pub plain_answer : Role → Answer → PlainFrame
plain_answer role (Agreement dlci) = response_frame role Ua dlci
plain_answer role (Refusal dlci) = response_frame role Dm dlci
plain_answer role (Message message) = message_frame role (take message.size message.octets)

-- frames that wait at a side
pub record Queue : Type 0 where
  pub role : Role
  pub frames : List PlainFrame

abbrev pub queue_of : Role → List Answer → Queue
queue_of role answers = record { role = role; frames = map (plain_answer role) answers }

-- the frame may be written
abbrev pub IsFit : Answer → Type 0
IsFit (Agreement dlci) = dlci < 64
IsFit (Refusal dlci) = dlci < 64
IsFit (Message message) = message.size ≤ 40

abbrev pub AreFit : List Answer → Type 0
AreFit answers = AllByRecursion IsFit answers
