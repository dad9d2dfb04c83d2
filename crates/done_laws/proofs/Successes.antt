-- How many of some responses say success, and how many of some packets are no PUT.
use Rattle.std.proofs.Common.{Bool, true, false, ◌||◌, ◌≡◌, ◌==◌, ℕ, ◌+◌, ◌≤◌, List, [], ◌∷◌, ◌++◌, ap, arith}
use Rattle.std.specs.Prelude.{slice_index, not}
use Rattle.tape_laws.specs.push_laws.specs.Faults.{counted}
use Rattle.tape_laws.specs.push_laws.specs.Parties.{IsFrontOf}

-- it says success
abbrev pub success_in : List ℕ → ℕ
success_in response = counted (slice_index response 0 == 0xA0)

abbrev pub successes : List (List ℕ) → ℕ
successes [] = 0
successes (response ∷ responses) = success_in response + successes responses

-- the code of a PUT stands at its front
abbrev pub is_put : List ℕ → Bool
is_put packet = (slice_index packet 0 == 0x02) || (slice_index packet 0 == 0x82)

abbrev pub other_than_put : List ℕ → ℕ
other_than_put packet = counted (not (is_put packet))

abbrev pub others : List (List ℕ) → ℕ
others [] = 0
others (packet ∷ packets) = other_than_put packet + others packets

pub successes_both : (xs ys : List (List ℕ)) → successes (xs ++ ys) ≡ successes xs + successes ys
successes_both [] ys = omega arith
successes_both (x ∷ xs) ys = let rest = successes_both xs ys in omega (arith, rest)

pub others_both : (xs ys : List (List ℕ)) → others (xs ++ ys) ≡ others xs + others ys
others_both [] ys = omega arith
others_both (x ∷ xs) ys = let rest = others_both xs ys in omega (arith, rest)

-- a front has no more of them
pub successes_front : (front all : List (List ℕ)) → IsFrontOf front all → successes front ≤ successes all
successes_front front all is = let both = successes_both front is.0 in let same = ap successes is.1 in omega (arith, both, same)

pub others_front : (front all : List (List ℕ)) → IsFrontOf front all → others front ≤ others all
others_front front all is = let both = others_both front is.0 in let same = ap others is.1 in omega (arith, both, same)

pub counted_few : (b : Bool) → counted b ≤ 1
counted_few true = omega arith
counted_few false = omega arith
