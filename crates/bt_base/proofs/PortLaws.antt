-- How the contents and the counts of a port go on from one call to the next.
use Rattle.std.proofs.Common.{◌≡◌, ℕ, ◌+◌, ◌≤◌, List, [], ◌++◌, length, take, drop, Option, Some, None, refl, sym, ap, ◌∙◌, append_assoc, arith, inl, inr}
use Rattle.std.proofs.lemmas.List.{append-nil, take-append-le, drop-drop, take_all}
use Rattle.std.proofs.Math.Seq.{take-length, take-append-add, take-append_seam}
use Rattle.std.proofs.lemmas.Bool.{cases_lt}
use Rattle.std.specs.Option.{option_map}
use Rattle.bt_base.specs.Counts.{HasRisen}
use Rattle.bt_base.specs.Streams.{gained, GainedFront}

-- two pieces, one after the other, are one
pub gained-gained : (content : Option (List ℕ)) (a b : List ℕ) → gained (gained content a) b ≡ gained content (a ++ b)
gained-gained None a b = refl
gained-gained (Some written) a b = ap Some (append_assoc written a b)

-- nothing more
pub gained-nil : (content : Option (List ℕ)) → gained content [] ≡ content
gained-nil None = refl
gained-nil (Some written) = ap Some (append-nil written)

-- all of a piece is a front of it
pub front_whole : (old new : Option (List ℕ)) (a : List ℕ) → new ≡ gained old a → GainedFront old new a
front_whole old new a e = (length a, e ∙ ap (gained old) (sym (take-length a)))

-- nothing is a front of every piece
pub front_none : (content : Option (List ℕ)) (a : List ℕ) → GainedFront content content a
front_none content a = (0, sym (gained-nil content))

-- a front behind a whole piece is a front of both
pub front_then : (old mid new : Option (List ℕ)) (a b : List ℕ) → mid ≡ gained old a → GainedFront mid new b → GainedFront old new (a ++ b)
front_then old mid new a b e (n, f) =
    (length a + n, f ∙ ap (λ (c : Option (List ℕ)). gained c (take n b)) e ∙ gained-gained old a (take n b) ∙ ap (gained old) (sym (take-append-add a b n)))

-- a front of a piece is one of a longer piece
pub front_longer : (old new : Option (List ℕ)) (a b : List ℕ) → GainedFront old new a → GainedFront old new (a ++ b)
front_longer old new a b (n, f) = elim (cases_lt n (length a)) [
  | inl inside ↦ (n, f ∙ ap (gained old) (sym (take-append-le n a b (omega arith))))
  | inr all ↦ (length a, f ∙ ap (gained old) (take_all n a all ∙ sym (take-append_seam a b)))
]

-- the octets that are left after two reads
pub left-left : (content : Option (List ℕ)) (m n : ℕ) → option_map (drop n) (option_map (drop m) content) ≡ option_map (drop (m + n)) content
left-left None m n = refl
left-left (Some left) m n = ap Some (drop-drop n m left)

-- a count that rose in an earlier call
pub risen_then : (a b c : ℕ) → HasRisen a b → b ≤ c → HasRisen a c
risen_then a b c (inl lt) le = inl (omega arith)
risen_then a b c (inr last) le = inr last

-- a count that rose in a later call
pub then_risen : (a b c : ℕ) → a ≤ b → b ≤ c → HasRisen b c → HasRisen a c
then_risen a b c le le' (inl lt) = inl (omega arith)
then_risen a b c le le' (inr last) = elim (cases_lt a b) [
  | inl lt ↦ inl (omega arith)
  | inr same ↦ inr (omega arith)
]
