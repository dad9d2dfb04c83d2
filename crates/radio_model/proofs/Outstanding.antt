-- What answers give back, one list behind another.
use Rattle.std.proofs.Common.{◌≡◌, ℕ, ◌+◌, List, [], ◌∷◌, ◌++◌, arith}
use Rattle.radio_model.specs.Controllers.{Answer}
use Rattle.radio_model.specs.Owed.{back}

-- what two lists of answers give back
pub back-append : (handle : ℕ) (some more : List Answer) → back handle (some ++ more) ≡ back handle some + back handle more
back-append handle [] more = omega arith
back-append handle (answer ∷ some) more = let rest = back-append handle some more in omega (arith, rest)
