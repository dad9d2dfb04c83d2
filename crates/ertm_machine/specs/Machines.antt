-- What a machine holds, and what its calls do.
use Rattle.std.specs.Prelude.{ℕ, ◌≡◌, ◌+◌, ◌≤◌, Bool, true, false, List, length, take, drop, Option, Some, None}
use Rattle.ertm_frames.specs.Frames.{PlainFrame, body_of, Spells}
use Rattle.ertm_model.specs.Submitting.{is_busy, submitted}
use Rattle.ertm_model.specs.Giving.{next_frame, after_frame}
use Rattle.ertm_model.specs.Hearing.{PlainHeard, nothing, sdu, closed, heard, answer_to}
use Rattle.ertm_machine.specs.declared.answers.Submit.{Submit}
use Rattle.ertm_machine.specs.declared.answers.Submit.TheVariants.{Taken, Busy}
use Rattle.ertm_machine.specs.declared.answers.Heard.{Heard}
use Rattle.ertm_machine.specs.declared.answers.Heard.TheVariants.{Nothing, Sdu, Closed}
use Rattle.ertm_machine.specs.declared.machine.Ertm.TheInside.{Inside}
use Rattle.ertm_machine.specs.Values.{Machine}

abbrev pub machine_value : Inside → Machine
machine_value m = record {
  ertm = record { agreed = m.sender.agreed; sender = m.sender.sender; receiver = m.receiver.receiver; closed = m.closed };
  reserved = m.sender.reserved;
}

-- what is joined has room
pub record IsMachine (m : Inside) : Type 0 where
  pub room : m.receiver.room ≡ m.sender.reserved.receive_mtu
  pub mtu : m.sender.agreed.receive_mtu ≤ m.sender.reserved.receive_mtu

-- ---- submit

abbrev pub submit_answer : Bool → Submit
submit_answer true = Busy
submit_answer false = Taken

-- `Busy` exactly where a segment of the SDU before was not given yet
pub record Submits (old : Machine) (octets : List ℕ) (result : Submit) (new : Machine) : Type 0 where
  pub answer : result ≡ submit_answer (is_busy old.ertm)
  pub after : new ≡ record old { ertm = submitted octets old.ertm }

-- ---- a frame that comes in

-- an answer without where its octets lie
abbrev pub plain_heard : Heard → PlainHeard
plain_heard Nothing = nothing
plain_heard (Sdu octets) = sdu octets.now
plain_heard (Closed reason) = closed reason

pub record Hears (old : Machine) (frame : PlainFrame) (result : Heard) (new : Machine) : Type 0 where
  pub answer : plain_heard result ≡ answer_to frame old.ertm
  pub after : new ≡ record old { ertm = heard frame old.ertm }

-- ---- the next frame

-- the octets of a frame are written from the front on, and no others
pub record Writes (cid : ℕ) (frame : PlainFrame) (old : List ℕ) (count : ℕ) (new : List ℕ) : Type 0 where
  pub count_is : count ≡ 8 + length (body_of frame)
  pub spelling : Spells cid frame (take count new)
  pub rest : drop count new ≡ drop count old

abbrev pub WritesNext : Option PlainFrame → (cid : ℕ) → List ℕ → Option ℕ → List ℕ → Type 0
WritesNext None cid old result new = (result ≡ None) × (new ≡ old)
WritesNext (Some frame) cid old result new = (count : ℕ) × (result ≡ Some count) × Writes cid frame old count new

pub record Gives (old : Machine) (cid : ℕ) (before : List ℕ) (result : Option ℕ) (new : Machine) (behind : List ℕ) : Type 0 where
  pub frame : WritesNext (next_frame old.ertm) cid before result behind
  pub after : new ≡ record old { ertm = after_frame old.ertm }
