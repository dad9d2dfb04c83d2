-- The most that a host held of something so far (this project's own).
use Rattle.std.specs.Prelude.{ℕ, ◌≡◌, List, Some, max}
use Rattle.room_laws.specs.world_model.specs.Machines.{News, Upper}
use Rattle.radio_world.specs.Hosts.{Asking}

-- `most` is the greatest of what the machine held so far: it is noted at each hearing and at each saying
pub record NotesMost {S G : Type 0} (U : Upper S G) (held most : S → ℕ) : Type 0 where
  pub first : most U.first ≡ held U.first
  pub hears : (answers : List G) (news : News) (s : S) → most (U.hear answers news s) ≡ max (most s) (held (U.hear answers news s))
  pub says : (s : S) (pdu : List ℕ) (after : S) → U.next s ≡ Some (pdu, after) → most after ≡ max (most s) (held after)

-- what a host tells is the greatest of what its machine held so far, whatever its ports answer from now on
pub record IsMostOf {S G H P : Type 0} (U : Upper S G) (station : H → P → Asking S G) (told : H → ℕ) : Type 0 where
  pub held : S → ℕ
  pub most : S → ℕ
  pub notes : NotesMost U held most
  pub told_is : (host : H) (port : P) (rest : List G) → told host ≡ most ((station host port).upper rest)
