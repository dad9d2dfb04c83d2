-- What the shelf answers in pushes, as it is said of all that happened to their client.
use Rattle.std.proofs.Common.{◌≡◌, ◌⊎◌, ℕ, List, [], ◌∷◌, ◌++◌, Option, Some, None, IfSome}
use Rattle.pair_laws.specs.bt_base.specs.Objects.{Object}
use Rattle.pair_laws.specs.push_model.specs.Client.{Client}
use Rattle.pair_laws.specs.push_model.specs.Laws as push
use Rattle.pair_laws.specs.push_model.specs.Laws.{Deed, all_done}
use Rattle.pair_laws.specs.push_laws.specs.Parties.{client_side, Push}
use Rattle.pair_laws.specs.push_laws.specs.Sending.{AllAnswer}
use Rattle.pair_laws.specs.shelf_model.specs.Held.{length_of}
use Rattle.pair_laws.specs.host_laws.specs.Answered.{IsAnswered}
use Rattle.pair_laws.specs.host_laws.specs.Pushing.{Affair, Begins, Does, AllAsked, client_after}
use Rattle.pair_laws.specs.host_laws.specs.ShelfAnswers.{IsGiven}

-- its client does nothing, or it is of an object that the shelf holds, as long as it told
abbrev pub IsOfObject : Option (List Object) → Push → Type 0
IsOfObject shelf push = (client_side push.moves ≡ []) ⊎ ((push.content ≡ shelf) × IfSome shelf (λ objects. length_of push.name objects ≡ Some push.size))

-- a shelf that does not tell what it holds
pub given_any : (most : ℕ) (affairs : List Affair) (client : Client) → AllAsked (IsAnswered most) affairs client → AllAsked (IsGiven None) affairs client
given_any most [] client answered = tt
given_any most (Begins size name ∷ rest) client answered = (λ count is. tt, given_any most rest (client_after (Begins size name) client) answered.1)
given_any most (Does deed ∷ rest) client answered = (answered.0, given_any most rest (client_after (Does deed) client) answered.1)

pub answers_both : (shelf : Option (List Object)) (xs ys : List Deed) (client : Client) → AllAnswer shelf xs client → AllAnswer shelf ys (all_done xs client) → AllAnswer shelf (xs ++ ys) client
answers_both shelf [] ys client one two = two
answers_both shelf (x ∷ xs) ys client one two = (one.0, answers_both shelf xs ys (push.done x client) one.1 two)
