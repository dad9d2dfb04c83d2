-- The first line of a text.
use Rattle.std.proofs.Common.{◌≡◌, ℕ, suc, ◌+◌, ◌<◌, ◌≤◌, Bool, true, false, List, [], ◌∷◌, length, take, drop, refl, ap, arith, eqb, inl, inr, ◌⊎◌, ltb, Result, Ok, Err, subst}
use Rattle.std.specs.Prelude.{count_by}
use Rattle.std.specs.Str.{IsUtf8, is_utf8}
use Rattle.std.specs.Str.Lossy.{utf8_valid_len}
use Rattle.std.proofs.lemmas.Bool.{le-ltb}
use Rattle.std.proofs.lemmas.Str.{is_utf8-from_IsUtf8, IsUtf8-from_is_utf8}
use Rattle.push_script.specs.declared.scenario.Scenario.{Scenario}
use Rattle.push_script.specs.declared.refusal.ScriptFault.{ScriptFault}
use Rattle.push_script.specs.declared.refusal.ScriptFault.TheVariants as ends
use Rattle.push_script.specs.declared.refusal.ScriptRefusal.TheVariants.{NotUtf8}
use Rattle.std.specs.List.{position_or_len, before_first, after_first}
use Rattle.std.proofs.lemmas.List.{length-drop}
use Rattle.push_script.specs.Reading.{lines, in_front, is_feed, lines_read, no_draft, reading, Reads}

either : (b : Bool) → (b ≡ true) ⊎ (b ≡ false)
either true = inl refl
either false = inr refl

pub lines_split : (s : List ℕ) → position_or_len is_feed s < length s → lines s ≡ before_first is_feed s ∷ lines (after_first is_feed s)
lines_split [] h = absurd (omega arith)
lines_split (c ∷ cs) h = elim (either (eqb c 10)) [
  | inl t ↦ rw t refl
  | inr f ↦
      let p : ℕ = position_or_len is_feed cs in
      let below : 1 + p < length (c ∷ cs) = rw f at h in
      let ih : lines cs ≡ take p cs ∷ lines (drop (p + 1) cs) = lines_split cs (omega arith) in
      let one : 1 + p ≡ suc p = omega arith in
      let two : suc p + 1 ≡ suc (p + 1) = omega arith in
      rw (f, ih, one, two) refl
]

pub lines_last : (s : List ℕ) → 0 < length s → position_or_len is_feed s ≡ length s → lines s ≡ s ∷ []
lines_last [] some e = absurd (omega arith)
lines_last (c ∷ []) some e = elim (either (eqb c 10)) [
  | inl t ↦ let h = rw t at e in absurd (omega arith)
  | inr f ↦ rw f refl
]
lines_last (c ∷ d ∷ ds) some e = elim (either (eqb c 10)) [
  | inl t ↦ let h = rw t at e in absurd (omega arith)
  | inr f ↦
      let p : ℕ = position_or_len is_feed (d ∷ ds) in
      let h : 1 + p ≡ length (c ∷ d ∷ ds) = rw f at e in
      let ih : lines (d ∷ ds) ≡ (d ∷ ds) ∷ [] = lines_last (d ∷ ds) (omega arith) (omega arith) in
      rw f (ap (in_front c) ih)
]

pub after_shorter : (s : List ℕ) → position_or_len is_feed s < length s → length (after_first is_feed s) < length s
after_shorter s h = omega (arith, length-drop (position_or_len is_feed s + 1) s)

-- the first line and the text behind it, where a line feed stands between them
pub first_of : (s line rest : List ℕ) → line ≡ before_first is_feed s → rest ≡ after_first is_feed s → position_or_len is_feed s < length s → lines s ≡ line ∷ lines rest
first_of s line rest el er h = rw (el, er) (lines_split s h)

pub rest_shorter : (s rest : List ℕ) → rest ≡ after_first is_feed s → position_or_len is_feed s < length s → length rest < length s
rest_shorter s rest er h = rw er (after_shorter s h)

-- a text that is short enough and UTF-8 is read line by line
pub reads_lines : (text same : List ℕ) (r : Result Scenario ScriptFault) → length text ≤ 1048576 → same ≡ text → IsUtf8 text → Reads r (lines_read 1 (Ok no_draft) (lines same)) → Reads r (reading text)
unfolding reading
reads_lines text same r short e utf8 reads =
    let fits : ltb 1048576 (length text) ≡ false = le-ltb _ _ short in
    let is : is_utf8 text ≡ true = is_utf8-from_IsUtf8 text utf8 in
    let there : Reads r (lines_read 1 (Ok no_draft) (lines text)) = subst (λ (t : List ℕ). Reads r (lines_read 1 (Ok no_draft) (lines t))) e reads in
    rw (fits, is) there

-- a text that is no UTF-8 is refused at the line of its first bad octet
pub reads_bad : (text front : List ℕ) (n line : ℕ) → length text ≤ 1048576 → (IsUtf8 text → ⊥) → n ≡ utf8_valid_len text → front ≡ take n text → line ≡ count_by is_feed front + 1 → Reads (Err (ends.Refused line NotUtf8)) (reading text)
unfolding reading
reads_bad text front n line short bad en ef el =
    let fits : ltb 1048576 (length text) ≡ false = le-ltb _ _ short in
    let is : is_utf8 text ≡ false = elim (either (is_utf8 text)) [ inl t ↦ absurd (bad (IsUtf8-from_is_utf8 text t)) | inr f ↦ f ] in
    rw (fits, is, el, ef, en) refl
