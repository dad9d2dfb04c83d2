-- What the port of a host answered while it was fed a stream (this project's own).
use Rattle.std.specs.Prelude.{List}
use Rattle.receiving.specs.bt_base.specs.Counts.{HasRisen}
use Rattle.noting_laws.specs.obex_session.specs.Counting.{Counts}
use Rattle.noting_laws.specs.push_laws.specs.Premises.{AllGranted}
use Rattle.receiving.specs.host_model.specs.Circumstances.{answers_in}
use Rattle.receiving.specs.host_model.specs.Profiles.{Profile}
use Rattle.receiving.specs.Turns.{Posture, Turn, HasTurns, answers_along}

-- The inbox granted all that it was asked: no call of it failed.
abbrev pub GrantsAllAsked : {S : Type 0} → (A : Profile S) (turns : List Turn) (old new : Posture S) → HasTurns A turns old new → Type 0
GrantsAllAsked A turns old new runs = AllGranted (answers_in (answers_along A turns old new runs))

-- Neither count of an inbox rose: not that of its faults, nor that of its shortages of memory.
pub record RoseNever (old new : Counts) : Type 0 where
  pub faults : HasRisen old.faults new.faults → ⊥
  pub shortages : HasRisen old.shortages new.shortages → ⊥
