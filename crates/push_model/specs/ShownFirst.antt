-- A push has an outcome exactly where one thing that is told to its client or asked of it shows that, and none came before.
use Rattle.std.specs.Prelude.{◌≡◌, ◌↔◌, List, ◌∷◌, ◌++◌, Some, None}
use Rattle.push_terms.specs.declared.outcome.Outcome.{Outcome}
use Rattle.push_model.specs.Client.{Client}
use Rattle.push_model.specs.Laws.{Deed, all_done}
use Rattle.push_model.specs.Shown.{shows}

-- a deed shows the outcome, and those before it left the push without a cause
pub record IsEndedBy (outcome : Outcome) (deeds : List Deed) (client : Client) : Type 0 where
  pub before : List Deed
  pub deed : Deed
  pub after : List Deed
  pub parts : deeds ≡ before ++ deed ∷ after
  pub first : (all_done before client).cause ≡ None
  pub shown : shows deed (all_done before client) ≡ Some outcome

-- From where a push has no cause: such a deed is the only way to an outcome, and it always leads there.
abbrev pub OutcomesEndExactly : Type 0
OutcomesEndExactly = (deeds : List Deed) (client : Client) (outcome : Outcome) → client.cause ≡ None → ((all_done deeds client).cause ≡ Some outcome) ↔ IsEndedBy outcome deeds client
