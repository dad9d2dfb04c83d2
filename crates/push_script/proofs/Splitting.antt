-- Lines are had back from the text in which they stand.
use Rattle.std.proofs.Common.{◌≡◌, ℕ, ◌≤◌, true, false, List, [], ◌∷◌, ◌++◌, refl, ap, ◌∙◌, arith, append_assoc}
use Rattle.std.specs.Prelude.{codes, nat_lt}
use Rattle.std.specs.List.{list_all, flat_map, AllByRecursion}
use Rattle.std.specs.Str.{IsUtf8}
use Rattle.std.proofs.lemmas.Bool.{and_parts, not-true, ltb-true}
use Rattle.std.proofs.lemmas.Str.{IsUtf8-append, IsUtf8-nil, encode_ascii}
use Rattle.script_words.proofs.Splitting.{differs, differs_above, is_graphic, is_printable, all_weaker, all_append, seen, printable_text}
use Rattle.push_script.specs.Reading.{lines, is_feed}

printable_differs : (other : ℕ) → other ≤ 31 → (c : ℕ) → is_printable c ≡ true → differs other c ≡ true
printable_differs other le c h = differs_above 31 other c le (ltb-true 31 c (and_parts (nat_lt 31 c) (nat_lt c 127) h).0)

line_again : (line rest : List ℕ) → list_all (differs 10) line ≡ true → lines (line ++ 10 ∷ rest) ≡ line ∷ lines rest
line_again [] rest h = refl
line_again (c ∷ cs) rest h =
    let parts : (differs 10 c ≡ true) × (list_all (differs 10) cs ≡ true) = and_parts (differs 10 c) (list_all (differs 10) cs) h in
    let other : is_feed c ≡ false = not-true (is_feed c) parts.0 in
    rw (other, line_again cs rest parts.1) refl

-- a line as it stands in a text
abbrev pub ended : List ℕ → List ℕ
ended line = line ++ codes "\n"

-- a line of a text has no line feed in it, and is text itself
pub record IsLine (line : List ℕ) : Type 0 where
  pub one : list_all (differs 10) line ≡ true
  pub text : IsUtf8 line

pub lines_again : (ls : List (List ℕ)) → AllByRecursion IsLine ls → lines (flat_map ended ls) ≡ ls
lines_again [] h = refl
lines_again (l ∷ ls) h = ap lines (append_assoc l (10 ∷ []) (flat_map ended ls)) ∙ line_again l (flat_map ended ls) h.0.one ∙ ap (λ (t : List (List ℕ)). l ∷ t) (lines_again ls h.1)

feed : IsUtf8 (10 ∷ [])
feed = (10 ∷ [], (refl, ap (λ (t : List ℕ). t ++ []) (encode_ascii 10 (omega arith))))

pub text_of_lines : (ls : List (List ℕ)) → AllByRecursion IsLine ls → IsUtf8 (flat_map ended ls)
text_of_lines [] h = IsUtf8-nil
text_of_lines (l ∷ ls) h = IsUtf8-append (l ++ 10 ∷ []) (flat_map ended ls) (IsUtf8-append l (10 ∷ []) h.0.text feed) (text_of_lines ls h.1)

pub printable_line : (line : List ℕ) → list_all is_printable line ≡ true → IsLine line
printable_line line h = record { one = all_weaker is_printable (differs 10) (printable_differs 10 (omega arith)) line h; text = printable_text line h }

-- a line of a word, a blank and a value
pub value_line : (word value : List ℕ) → list_all is_graphic word ≡ true → list_all is_printable value ≡ true → IsLine (word ++ 32 ∷ value)
value_line word value h k = printable_line (word ++ 32 ∷ value) (all_append is_printable word (32 ∷ value) (seen word h) k)
