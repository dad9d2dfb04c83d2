-- When a connection was closed, looking back over all that passed on it (TS 07.10, 5.4.1 and 5.4.2; RFCOMM 1.2, 5.2).
use Rattle.std.specs.Prelude.{ℕ, ◌≡◌, ◌⊎◌, ◌↔◌, List, ◌∷◌, ◌++◌}
use Rattle.std.specs.List.{AllByRecursion}
use Rattle.rfcomm_frames.specs.declared.connection.Role.{Role}
use Rattle.rfcomm_frames.specs.declared.connection.Role.TheVariants.{Initiator, Responder}
use Rattle.rfcomm_frames.specs.declared.connection.Dlc.TheVariants.{Idle, Ended}
use Rattle.rfcomm_frames.specs.Multiplexing.{Framed}
use Rattle.rfcomm_frames.specs.LookingBack.{Step, asks, leaves, steps, IsNoAsking, IsPending, IsOpened, connection}

-- it is asked for: since the first asking neither the responder agreed nor the initiator left
pub record IsAskedFor (all : List Step) : Type 0 where
  pub before : List Step
  pub since : List Step
  pub parts : all ≡ before ++ (asks ∷ since)
  pub first : AllByRecursion IsNoAsking before
  pub pending : AllByRecursion IsPending since

-- DISC of either side closes what is open, and DISC of the initiator also what is asked for
abbrev pub CanLeave : Role → List Step → Type 0
CanLeave Initiator all = IsOpened all ⊎ IsAskedFor all
CanLeave Responder all = IsOpened all

-- it was closed: a side left it that could; whatever came since, it stays so
pub record WasLeft (all : List Step) : Type 0 where
  pub before : List Step
  pub from : Role
  pub since : List Step
  pub parts : all ≡ before ++ (leaves from ∷ since)
  pub could : CanLeave from before

-- what one pass says is ended was closed, and nothing else
abbrev pub EndingsLookBack : Type 0
EndingsLookBack = (dlci : ℕ) (fs : List Framed) → (connection dlci Idle fs ≡ Ended) ↔ WasLeft (steps dlci fs)
