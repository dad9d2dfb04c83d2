-- A host that tries no more often than words are adverse pays for all its requests.
use Rattle.std.proofs.Common.{ℕ, ◌+◌, ◌<◌, Bool, true, false, List, ◌≡◌, leb, refl, arith}
use Rattle.std.proofs.lemmas.Bool.{leb-true, leb-false}
use Rattle.channel_laws.specs.channel_model.specs.declared.errand.Errand.{Errand}
use Rattle.channel_laws.specs.channel_model.specs.Policies.{Policy}
use Rattle.channel_laws.specs.Runs.{Occurrence}
use Rattle.channel_laws.specs.Tries.{TriesAreKept}
use Rattle.pair_laws.specs.Costs.{IsPaidBy}

-- so only of few words something is to be shown
pub paid_or : TriesAreKept → (policy : Policy) (list : List Occurrence) (adverse : ℕ) (errand : Errand) → (adverse < policy.tries → IsPaidBy adverse policy list errand) → IsPaidBy adverse policy list errand
paid_or kept policy list adverse errand few = by (leb policy.tries adverse) refl
  where
    by : (enough : Bool) → leb policy.tries adverse ≡ enough → IsPaidBy adverse policy list errand
    by true is = let most = leb-true policy.tries adverse is in kept policy list (1 + adverse) (omega arith) (omega (arith, most)) errand
    by false is = few (leb-false policy.tries adverse is)
