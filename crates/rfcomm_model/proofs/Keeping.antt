-- Hearing and saying keep the side, the channel, the room and the cap of the credits.
use Rattle.std.proofs.Common.{rules, arith, ℕ, List, [], ◌∷◌, Option, Some, None, refl}
use Rattle.rfcomm_frames.specs.declared.connection.Role.{Role}
use Rattle.rfcomm_frames.specs.Frames.{PlainFrame}
use Rattle.rfcomm_frames.specs.Answers.{Answer}
use Rattle.rfcomm_frames.specs.FrameReading.{MessageAnswer, frame_answer}
use Rattle.rfcomm_model.specs.declared.state.Command.TheVariants.{OpenControl, Agree, OpenUser, Signal, LeaveUser, LeaveControl}
use Rattle.rfcomm_model.specs.declared.state.Asks.{Asks}
use Rattle.rfcomm_model.specs.declared.state.Asks.TheVariants.{Nothing, Due, Awaited}
use Rattle.rfcomm_model.specs.Machine.{Mux, Kept}
use Rattle.rfcomm_model.specs.Hearing.{hears_message, hears_answer, hears}
use Rattle.rfcomm_model.specs.Saying.{Said, says_data, says_grant, first_of, says_command, says_answer, next, after_said, after_next}
use Rattle.rfcomm_model.proofs.Walking.{message_walks, answer_walks}

module _ (role : Role) (dlci largest cap : ℕ) where
  -- for any channel, since no answer counts here
  pub message_keeps : (message : MessageAnswer) (m : Mux) → Kept role dlci largest cap m → Kept role dlci largest cap (hears_message message m)
  message_keeps message m k = message_walks 1 (omega arith) (Kept role dlci largest cap) (λ reason x k. k) (λ f x reply k. k) (λ control user asks ready held peer frame agreed stated x k. k) message m k

  pub answer_keeps : (a : Answer) (m : Mux) → Kept role dlci largest cap m → Kept role dlci largest cap (hears_answer a m)
  answer_keeps a m k = answer_walks 1 (omega arith) (Kept role dlci largest cap) (λ reason x k. k) (λ f x reply k. k) (λ control user asks ready held peer frame agreed stated x k. k) a m k

pub hears_keeps : (sdu : List ℕ) (m : Mux) → Kept m.role m.dlci m.largest m.account.cap (hears sdu m)
hears_keeps sdu m = answer_keeps m.role m.dlci m.largest m.account.cap (frame_answer sdu) m (refl, refl, refl, refl)

-- what is said
abbrev pub SaysKept : Mux → Option Said → Type 0
SaysKept m None = Unit {0}
SaysKept m (Some said) = Kept m.role m.dlci m.largest m.account.cap said.after

first_keeps : (m : Mux) (a b : Option Said) → SaysKept m a → SaysKept m b → SaysKept m (first_of a b)
first_keeps m None b p q = q
first_keeps m (Some said) b p q = p

grant_keeps : (m : Mux) → SaysKept m (says_grant m)
grant_keeps m = search rules

data_keeps : (m : Mux) → SaysKept m (says_data m)
data_keeps m = search rules

command_keeps : (asks : Asks) (m : Mux) → SaysKept m (says_command asks m)
command_keeps Nothing m = first_keeps m (says_grant m) (says_data m) (grant_keeps m) (data_keeps m)
command_keeps (Awaited command) m = first_keeps m (says_grant m) (says_data m) (grant_keeps m) (data_keeps m)
command_keeps (Due OpenControl) m = (refl, refl, refl, refl)
command_keeps (Due Agree) m = (refl, refl, refl, refl)
command_keeps (Due OpenUser) m = (refl, refl, refl, refl)
command_keeps (Due Signal) m = (refl, refl, refl, refl)
command_keeps (Due LeaveUser) m = (refl, refl, refl, refl)
command_keeps (Due LeaveControl) m = (refl, refl, refl, refl)

pub answers_keep : (answers : List PlainFrame) (m : Mux) → SaysKept m (says_answer answers m)
answers_keep [] m = command_keeps m.asks m
answers_keep (answer ∷ rest) m = (refl, refl, refl, refl)

after_keeps : (o : Option Said) (m : Mux) → SaysKept m o → Kept m.role m.dlci m.largest m.account.cap (after_said o m)
after_keeps None m k = (refl, refl, refl, refl)
after_keeps (Some said) m k = k

pub next_keeps : (m : Mux) → Kept m.role m.dlci m.largest m.account.cap (after_next m)
next_keeps m = after_keeps (next m) m (answers_keep m.answers m)
