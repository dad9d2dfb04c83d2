-- The text of a word is read again as it was written.
use Rattle.std.proofs.Common.{◌≡◌, ℕ, ◌+◌, ◌-◌, ◌*◌, ◌/◌, ◌%◌, ◌<◌, ◌≤◌, true, false, List, [], ◌∷◌, ◌++◌, Option, Some, refl, ap, ◌∙◌, arith, append_assoc, inl, inr}
use Rattle.std.specs.Prelude.{codes, nat_lt, nat_le, decimal}
use Rattle.std.specs.List.{list_all}
use Rattle.std.proofs.lemmas.Bool.{le-ltb, lt-ltb, le-leb, lt-leb, cases_lt}
use Rattle.push_terms.specs.declared.word.Way.{Way}
use Rattle.push_terms.specs.declared.word.Way.TheVariants.{Ab, Ba}
use Rattle.push_terms.specs.declared.word.Side.TheVariants as sides
use Rattle.push_terms.specs.declared.word.Word.{Word}
use Rattle.push_terms.specs.declared.word.Word.TheVariants.{Pass, Lose, Repeat, Damage, Cut, Timer, Drop, Cancel}
use Rattle.script_words.specs.declared.said.Said.{Said}
use Rattle.script_words.specs.declared.said.Said.TheVariants as said
use Rattle.push_terms.specs.Words.{hex_digit, hex_word, way_text, word_text, IsWord}
use Rattle.script_words.specs.Parts.{first_word, rest_of, number_of, way_of, mask_of, hex_value}
use Rattle.script_words.specs.Words.{damage_said, cut_said, long_said, said_of, number_within, word_within}
use Rattle.script_words.proofs.Numbers.{numbers_again, graphic_number}
use Rattle.script_words.proofs.Splitting.{differs, is_graphic, is_printable, all_append, without_blank, seen, word_again, rest_again}

-- hexadecimal digits
pub digit_again : (n : ℕ) → n < 16 → hex_value (hex_digit n) ≡ Some n
digit_again n lt = elim (cases_lt n 10) [
  | inl below ↦
      let a : nat_lt n 10 ≡ true = lt-ltb n 10 below in
      let b : nat_le 48 (48 + n) ≡ true = le-leb 48 (48 + n) (omega arith) in
      let c : nat_le (48 + n) 57 ≡ true = le-leb (48 + n) 57 (omega arith) in
      let d : 48 + n - 48 ≡ n = omega arith in
      rw (a, b, c, d) refl
  | inr above ↦
      let a : nat_lt n 10 ≡ false = le-ltb n 10 above in
      let m : ℕ = 65 + (n - 10) in
      let b : nat_le 48 (65 + (n - 10)) ≡ true = le-leb 48 (65 + (n - 10)) (omega arith) in
      let c : nat_le (65 + (n - 10)) 57 ≡ false = lt-leb (65 + (n - 10)) 57 (omega arith) in
      let d : nat_le 65 (65 + (n - 10)) ≡ true = le-leb 65 (65 + (n - 10)) (omega arith) in
      let e : nat_le (65 + (n - 10)) 70 ≡ true = le-leb (65 + (n - 10)) 70 (omega arith) in
      let f : 65 + (n - 10) - 65 + 10 ≡ n = omega arith in
      rw (a, b, c, d, e, f) refl
]

four_digits : (w x y z a b c d m : ℕ) → hex_value w ≡ Some a → hex_value x ≡ Some b → hex_value y ≡ Some c → hex_value z ≡ Some d → ((a * 16 + b) * 16 + c) * 16 + d ≡ m → mask_of (w ∷ x ∷ y ∷ z ∷ []) ≡ Some m
four_digits w x y z a b c d m ea eb ec ed e = rw (ea, eb, ec, ed, e) refl

mask_again : (m : ℕ) → m < 65536 → mask_of (hex_word m) ≡ Some m
mask_again m lt =
    let top : m / 256 / 16 < 16 = omega arith in
    let high : m / 256 % 16 < 16 = omega arith in
    let low : m % 256 / 16 < 16 = omega arith in
    let last : m % 256 % 16 < 16 = omega arith in
    let whole : ((m / 256 / 16 * 16 + m / 256 % 16) * 16 + m % 256 / 16) * 16 + m % 256 % 16 ≡ m = omega arith in
    four_digits (hex_digit (m / 256 / 16)) (hex_digit (m / 256 % 16)) (hex_digit (m % 256 / 16)) (hex_digit (m % 256 % 16)) _ _ _ _ m (digit_again _ top) (digit_again _ high) (digit_again _ low) (digit_again _ last) whole

way_again : (way : Way) → way_of (way_text way) ≡ Some way
way_again Ab = refl
way_again Ba = refl

way_graphic : (way : Way) → list_all is_graphic (way_text way) ≡ true
way_graphic Ab = refl
way_graphic Ba = refl

-- a word with something behind it
said_long : (word rest : List ℕ) → list_all (differs 32) word ≡ true → said_of (word ++ 32 ∷ rest) ≡ long_said word rest
unfolding said_of
said_long word rest h = rw (word_again word rest h, rest_again word rest h) refl

damage_from : (text rest mask : List ℕ) (way : Way) (at m : ℕ) → way_of (first_word text) ≡ Some way → rest_of text ≡ Some rest → number_of (first_word rest) ≡ Some at → rest_of rest ≡ Some mask → mask_of mask ≡ Some m → damage_said text ≡ Some (said.Damage way at m)
unfolding damage_said
damage_from text rest mask way at m e1 e2 e3 e4 e5 = rw (e1, e2, e3, e4, e5) refl

cut_from : (text rest : List ℕ) (way : Way) (packets : ℕ) → way_of (first_word text) ≡ Some way → rest_of text ≡ Some rest → number_of rest ≡ Some packets → cut_said text ≡ Some (said.Cut way packets)
unfolding cut_said
cut_from text rest way packets e1 e2 e3 = rw (e1, e2, e3) refl

pub first_is : (word rest : List ℕ) {A : Type 0} (f : List ℕ → Option A) (x : Option A) → list_all is_graphic word ≡ true → f word ≡ x → f (first_word (word ++ 32 ∷ rest)) ≡ x
first_is word rest f x h e = ap f (word_again word rest (without_blank word h)) ∙ e

damage_again : (way : Way) (at mask : ℕ) → at ≤ 65534 → mask ≤ 65535 → damage_said (way_text way ++ 32 ∷ (decimal at ++ 32 ∷ hex_word mask)) ≡ Some (said.Damage way at mask)
damage_again way at mask a m =
    let digits : list_all is_graphic (decimal at) ≡ true = graphic_number at (omega arith) in
    damage_from _ (decimal at ++ 32 ∷ hex_word mask) (hex_word mask) way at mask
    (first_is (way_text way) _ way_of (Some way) (way_graphic way) (way_again way))
    (rest_again (way_text way) _ (without_blank (way_text way) (way_graphic way)))
    (first_is (decimal at) _ number_of (Some at) digits (numbers_again at (omega arith)))
    (rest_again (decimal at) _ (without_blank (decimal at) digits))
    (mask_again mask (omega arith))

cut_again : (way : Way) (packets : ℕ) → packets ≤ 65535 → cut_said (way_text way ++ 32 ∷ decimal packets) ≡ Some (said.Cut way packets)
cut_again way packets p = cut_from _ (decimal packets) way packets
    (first_is (way_text way) _ way_of (Some way) (way_graphic way) (way_again way))
    (rest_again (way_text way) _ (without_blank (way_text way) (way_graphic way)))
    (numbers_again packets (omega arith))

pub damage_text : (way : Way) (at mask : ℕ) → word_text (Damage way at mask) ≡ codes "damage" ++ 32 ∷ (way_text way ++ 32 ∷ (decimal at ++ 32 ∷ hex_word mask))
damage_text Ab at mask = ap (λ (t : List ℕ). codes "damage ab " ++ t) (append_assoc (decimal at) (32 ∷ []) (hex_word mask))
damage_text Ba at mask = ap (λ (t : List ℕ). codes "damage ba " ++ t) (append_assoc (decimal at) (32 ∷ []) (hex_word mask))

pub cut_text : (way : Way) (packets : ℕ) → word_text (Cut way packets) ≡ codes "cut" ++ 32 ∷ (way_text way ++ 32 ∷ decimal packets)
cut_text Ab packets = refl
cut_text Ba packets = refl

-- what the text of a word says
abbrev pub said_by : Word → Said
said_by Pass = said.Pass
said_by (Lose way) = said.Lose way
said_by (Repeat way) = said.Repeat way
said_by (Damage way at mask) = said.Damage way at mask
said_by (Cut way packets) = said.Cut way packets
said_by (Timer side) = said.Timer side
said_by Drop = said.Drop
said_by Cancel = said.Cancel

pub said_again : (word : Word) → IsWord word → said_of (word_text word) ≡ Some (said_by word)
unfolding said_of long_said
said_again Pass is = refl
said_again (Lose Ab) is = refl
said_again (Lose Ba) is = refl
said_again (Repeat Ab) is = refl
said_again (Repeat Ba) is = refl
said_again (Damage way at mask) is = ap said_of (damage_text way at mask) ∙ said_long (codes "damage") _ refl ∙ damage_again way at mask is.1 is.3
said_again (Cut way packets) is = ap said_of (cut_text way packets) ∙ said_long (codes "cut") _ refl ∙ cut_again way packets is.1
said_again (Timer sides.A) is = refl
said_again (Timer sides.B) is = refl
said_again Drop is = refl
said_again Cancel is = refl

pub number_within_again : (low high n : ℕ) → low ≤ n → n ≤ high → number_within low high n ≡ Some n
number_within_again low high n a b =
    let one : nat_lt n low ≡ false = le-ltb n low a in
    let two : nat_lt high n ≡ false = le-ltb high n b in
    rw (one, two) refl

pub word_again_within : (word : Word) → IsWord word → word_within (said_by word) ≡ Some word
unfolding word_within
word_again_within Pass is = refl
word_again_within (Lose way) is = refl
word_again_within (Repeat way) is = refl
word_again_within (Damage way at mask) is =
    let a : number_within 4 65534 at ≡ Some at = number_within_again 4 65534 at is.0 is.1 in
    let m : number_within 1 65535 mask ≡ Some mask = number_within_again 1 65535 mask is.2 is.3 in
    rw (a, m) refl
word_again_within (Cut way packets) is = let p : number_within 1 65535 packets ≡ Some packets = number_within_again 1 65535 packets is.0 is.1 in rw p refl
word_again_within (Timer side) is = refl
word_again_within Drop is = refl
word_again_within Cancel is = refl

way_printable : (way : Way) → list_all is_printable (way_text way) ≡ true
way_printable way = seen (way_text way) (way_graphic way)

pub digit_graphic : (n : ℕ) → n < 16 → is_graphic (hex_digit n) ≡ true
digit_graphic n lt = elim (cases_lt n 10) [
  | inl below ↦ rw (lt-ltb n 10 below, lt-ltb 32 (48 + n) (omega arith), lt-ltb (48 + n) 127 (omega arith)) refl
  | inr above ↦ rw (le-ltb n 10 above, lt-ltb 32 (65 + (n - 10)) (omega arith), lt-ltb (65 + (n - 10)) 127 (omega arith)) refl
]

four_graphic : (w x y z : ℕ) → is_graphic w ≡ true → is_graphic x ≡ true → is_graphic y ≡ true → is_graphic z ≡ true → list_all is_graphic (w ∷ x ∷ y ∷ z ∷ []) ≡ true
four_graphic w x y z a b c d = rw (a, b, c, d) refl

mask_graphic : (m : ℕ) → m < 65536 → list_all is_graphic (hex_word m) ≡ true
mask_graphic m lt = four_graphic (hex_digit (m / 256 / 16)) (hex_digit (m / 256 % 16)) (hex_digit (m % 256 / 16)) (hex_digit (m % 256 % 16)) (digit_graphic (m / 256 / 16) (omega arith)) (digit_graphic (m / 256 % 16) (omega arith)) (digit_graphic (m % 256 / 16) (omega arith)) (digit_graphic (m % 256 % 16) (omega arith))

-- the text of a word is printable
pub word_printable : (word : Word) → IsWord word → list_all is_printable (word_text word) ≡ true
word_printable Pass is = refl
word_printable (Lose Ab) is = refl
word_printable (Lose Ba) is = refl
word_printable (Repeat Ab) is = refl
word_printable (Repeat Ba) is = refl
word_printable (Damage way at mask) is = ap (list_all is_printable) (damage_text way at mask)
    ∙ all_append is_printable (way_text way) _ (way_printable way) (all_append is_printable (decimal at) (32 ∷ hex_word mask) (seen (decimal at) (graphic_number at (omega (arith, is.1)))) (seen (hex_word mask) (mask_graphic mask (omega (arith, is.3)))))
word_printable (Cut way packets) is = ap (list_all is_printable) (cut_text way packets)
    ∙ all_append is_printable (way_text way) _ (way_printable way) (seen (decimal packets) (graphic_number packets (omega (arith, is.1))))
word_printable (Timer sides.A) is = refl
word_printable (Timer sides.B) is = refl
word_printable Drop is = refl
word_printable Cancel is = refl
