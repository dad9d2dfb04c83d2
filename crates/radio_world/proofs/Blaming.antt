-- Where a loop over the trace ends.
use Rattle.std.proofs.Common.{ℕ, ◌≤◌, Ok}
use Rattle.radio_world.specs.Causes.{Blames}

pub stays_ok : {X : Type 0} (a b : ℕ) (x : X) → a ≤ b → Blames a b (Ok x)
stays_ok a b x stays = record { stays = stays; failed = λ failed. cc }
