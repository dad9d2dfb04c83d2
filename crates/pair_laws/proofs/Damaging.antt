-- A changed frame is seen: two neighbouring octets are other than before, and so the check word does not hold.
use Rattle.std.proofs.Common.{◌≡◌, ◌≢◌, ◌⊎◌, inl, inr, ℕ, zero, suc, ◌+◌, ◌<◌, ◌≤◌, List, [], ◌∷◌, ◌++◌, length, Ok, Err, refl, sym, ap, subst, ◌∙◌, arith, add-one}
use Rattle.std.specs.Prelude.{◌/◌, ◌%◌, bit_xor, slice_index, slice_set}
use Rattle.std.specs.Int.Bits.{xor_assoc, xor_self, xor_zero_l}
use Rattle.std.proofs.lemmas.Bool.{cases_eq}
use Rattle.std.proofs.lemmas.Nat.{xor_of_8}
use Rattle.scenario_laws.specs.bt_base.specs.Octets.{IsOctets}
use Rattle.scenario_laws.specs.acl_fragments.specs.Pieces.{channel_of}
use Rattle.scenario_laws.specs.check_words.specs.CheckWords.{L2capCheckHolds}
use Rattle.scenario_laws.specs.check_words.proofs.Octets.{changed-seen}
use Rattle.scenario_laws.specs.ertm_frames.specs.declared.refusal.FrameRefusal.TheVariants.{Short, BadFcs, ReservedSet, BadStart, AboveMps}
use Rattle.scenario_laws.specs.ertm_frames.specs.Answers.{Answer, IsAnswer}
use Rattle.scenario_laws.specs.ertm_frames.specs.Reading.{answer_in}
use Rattle.scenario_laws.specs.ertm_frames.proofs.WorkedOut.{answer-is_worked_out}
use Rattle.scenario_laws.proofs.Taming.{changed-channel}
use Rattle.pair_laws.specs.Changes.{ChangesAreSeen}

-- ---- two neighbouring octets

-- the octets before them, they themselves, and those behind them; and the same with two others in their place
record Parts (place : ℕ) (octets : List ℕ) : Type 0 where
  front : List ℕ
  behind : List ℕ
  is : octets ≡ front ++ slice_index octets place ∷ slice_index octets (suc place) ∷ behind
  set_is : (x y : ℕ) → slice_set (slice_set octets place x) (suc place) y ≡ front ++ x ∷ y ∷ behind

parts_at : (place : ℕ) (octets : List ℕ) → suc place < length octets → Parts place octets
parts_at zero [] within = absurd (omega arith)
parts_at zero (a ∷ []) within = absurd (omega arith)
parts_at zero (a ∷ b ∷ octets) within = record { front = []; behind = octets; is = refl; set_is = λ x y. refl }
parts_at (suc place) [] within = absurd (omega arith)
parts_at (suc place) (a ∷ octets) within =
    let rest = parts_at place octets (omega arith) in
    record { front = a ∷ rest.front; behind = rest.behind; is = ap (λ (l : List ℕ). a ∷ l) rest.is; set_is = λ x y. ap (λ (l : List ℕ). a ∷ l) (rest.set_is x y) }

others_octets : (front behind : List ℕ) (first second x y : ℕ) → x < 256 → y < 256 → IsOctets (front ++ first ∷ second ∷ behind) → IsOctets (front ++ x ∷ y ∷ behind)
others_octets [] behind first second x y one two all zero = one
others_octets [] behind first second x y one two all (suc zero) = two
others_octets [] behind first second x y one two all (suc (suc i)) = all (suc (suc i))
others_octets (a ∷ front) behind first second x y one two all zero = all zero
others_octets (a ∷ front) behind first second x y one two all (suc i) = others_octets front behind first second x y one two (λ j. all (suc j)) i

-- ---- a mask changes what it is put on

kept_none : (a b : ℕ) → a ≡ bit_xor a b → b ≡ 0
kept_none a b same = sym (xor_zero_l b) ∙ (ap (λ (n : ℕ). bit_xor n b) (sym (xor_self a)) ∙ (xor_assoc a a b ∙ (ap (bit_xor a) (sym same) ∙ xor_self a)))

changes_one : (first second mask : ℕ) → 1 ≤ mask → (first ≢ bit_xor first (mask / 256)) ⊎ (second ≢ bit_xor second (mask % 256))
changes_one first second mask some = by (cases_eq (mask / 256) 0)
  where
    by : (mask / 256 ≡ 0) ⊎ (mask / 256 ≡ 0 → ⊥) → (first ≢ bit_xor first (mask / 256)) ⊎ (second ≢ bit_xor second (mask % 256))
    by (inl none) = inr (λ same. let low = kept_none second (mask % 256) same in absurd (omega arith))
    by (inr high) = inl (λ same. high (kept_none first (mask / 256) same))

-- ---- so it is seen

refused : (most : ℕ) (other : List ℕ) (answer : Answer) → answer_in most other ≡ answer → IsAnswer most other answer → (L2capCheckHolds other → ⊥) → (answer_in most other ≡ Err Short) ⊎ (answer_in most other ≡ Err BadFcs)
refused most other (Ok frame) is answers never = absurd (never answers.0.1.holds)
refused most other (Err Short) is answers never = inl is
refused most other (Err BadFcs) is answers never = inr is
refused most other (Err ReservedSet) is answers never = absurd (never answers.1)
refused most other (Err BadStart) is answers never = absurd (never answers.1)
refused most other (Err AboveMps) is answers never = absurd (never answers.1)

-- octets whose check word holds, changed so
record IsUnlike (pdu other : List ℕ) : Type 0 where
  octets : IsOctets other
  fails : L2capCheckHolds other → ⊥

unlike : (place mask : ℕ) (pdu : List ℕ) → suc place < length pdu → 1 ≤ mask → mask ≤ 65535 → IsOctets pdu → L2capCheckHolds pdu
    → IsUnlike pdu (slice_set (slice_set pdu place (bit_xor (slice_index pdu place) (mask / 256))) (suc place) (bit_xor (slice_index pdu (suc place)) (mask % 256)))
unlike place mask pdu within some two octets holds =
    let parts = parts_at place pdu within in
    let first = slice_index pdu place in
    let second = slice_index pdu (suc place) in
    let x = bit_xor first (mask / 256) in
    let y = bit_xor second (mask % 256) in
    let one : x < 256 = xor_of_8 first (mask / 256) (octets place) (omega arith) in
    let other : y < 256 = xor_of_8 second (mask % 256) (octets (suc place)) (omega arith) in
    let set = parts.set_is x y in
    record {
      octets = subst IsOctets (sym set) (others_octets parts.front parts.behind first second x y one other (subst IsOctets parts.is octets));
      fails = λ also. changed-seen parts.front parts.behind first second x y (octets place) (octets (suc place)) one other (changes_one first second mask some) (subst L2capCheckHolds parts.is holds) (subst L2capCheckHolds set also);
    }

pub changes-are_seen : ChangesAreSeen
changes-are_seen endpoint frame channels pdu other coming spells octets change =
    let place = change.place in
    let mask = change.mask in
    let next : place + 1 ≡ suc place = add-one place in
    let within : suc place < length pdu = subst (λ (n : ℕ). n < length pdu) next change.within in
    let not = subst (λ (n : ℕ). IsUnlike pdu (slice_set (slice_set pdu place (bit_xor (slice_index pdu place) (mask / 256))) n (bit_xor (slice_index pdu n) (mask % 256)))) (sym next) (unlike place mask pdu within change.some change.two octets spells.holds) in
    let so : IsUnlike pdu other = subst (IsUnlike pdu) (sym change.other_is) not in (
      ap channel_of change.other_is ∙ changed-channel place mask pdu change.behind,
      λ most. refused most other (answer_in most other) refl (answer-is_worked_out most other so.octets) so.fails,
    )
