-- The lines that state keys are read again as they were written.
use Rattle.std.proofs.Common.{◌≡◌, ℕ, ◌^◌, ◌<◌, ◌≤◌, Bool, true, false, List, [], ◌∷◌, ◌++◌, length, Some, Ok, refl, ap, ◌∙◌, arith}
use Rattle.std.specs.Prelude.{codes, nat_lt, ◌==◌, decimal}
use Rattle.std.specs.List.{list_all, list_any}
use Rattle.std.specs.Str.{bytes_eq}
use Rattle.std.proofs.lemmas.Bool.{le-ltb, ne_eqb}
use Rattle.bt_base.specs.declared.settings.Transport.{Transport}
use Rattle.bt_base.specs.declared.settings.Transport.TheVariants as transports
use Rattle.bt_base.specs.declared.settings.Serves.{Serves}
use Rattle.bt_base.specs.declared.settings.Serves.TheVariants as services
use Rattle.push_script.specs.declared.stated.Key.{Key}
use Rattle.push_script.specs.declared.stated.Key.TheVariants as keyed
use Rattle.push_script.specs.Names.{IsName, ends_name, utf16_length}
use Rattle.push_script.specs.Stated.{Stated, Known}
use Rattle.push_script.specs.Scenarios.{transport_text, serves_text, switch_text}
use Rattle.script_words.specs.Parts.{first_word, rest_of, number_of, pair_of}
use Rattle.push_script.specs.Keys.{key_of, lowest, highest, number_stated, acl_stated, transport_stated, serves_stated, switch_stated}
use Rattle.push_script.specs.Reading.{name_stated, with_value, key_line_read, is_ignored, line_read}
use Rattle.script_words.proofs.Numbers.{numbers_again, graphic_number}
use Rattle.script_words.proofs.Splitting.{is_graphic, without_blank, word_again, rest_again}
use Rattle.push_script.proofs.RunsAgain.{within_again}
use Rattle.script_words.proofs.PairsAgain.{pair_again}

pub number_again : (key : Key) (n : ℕ) → lowest key ≤ n → n ≤ highest key → n < 10 ^ 10 → number_stated key false (decimal n) ≡ Ok n
unfolding number_stated
number_again key n low high small = rw (numbers_again n small, within_again (lowest key) (highest key) n low high) refl

pub transport_again : (t : Transport) → transport_stated false (transport_text t) ≡ Ok t
unfolding transport_stated
transport_again transports.L2cap = refl
transport_again transports.Rfcomm = refl

pub serves_again : (s : Serves) → serves_stated false (serves_text s) ≡ Ok s
unfolding serves_stated
serves_again services.Both = refl
serves_again services.L2cap = refl
serves_again services.Rfcomm = refl

pub switch_again : (on : Bool) → switch_stated false (switch_text on) ≡ Ok on
unfolding switch_stated
switch_again true = refl
switch_again false = refl

acl_from : (text : List ℕ) (a b : ℕ) → pair_of text ≡ Some (a, b) → 27 ≤ a → a ≤ 1021 → 1 ≤ b → b ≤ 64 → acl_stated false text ≡ Ok (a, b)
unfolding acl_stated
acl_from text a b e a1 a2 b1 b2 = rw (e, within_again 27 1021 a a1 a2, within_again 1 64 b b1 b2) refl

pub acl_again : (a b : ℕ) → 27 ≤ a → a ≤ 1021 → 1 ≤ b → b ≤ 64 → acl_stated false (decimal a ++ 32 ∷ decimal b) ≡ Ok (a, b)
acl_again a b a1 a2 b1 b2 = acl_from _ a b (pair_again a b (omega arith) (omega arith)) a1 a2 b1 b2

-- the keys and these names were read
abbrev pub named : Stated → List (List ℕ) → Known
named keys names = record { keys = keys; names = names; radio = false; runs = [] }

key_from : (keys : Stated) (names : List (List ℕ)) (draft : Known) (line value : List ℕ) (key : Key) → is_ignored line ≡ false → bytes_eq line (codes "radio") ≡ false → key_of (first_word line) ≡ Some key → rest_of line ≡ Some value → with_value (named keys names) key value ≡ Ok draft
    → line_read (named keys names) line ≡ Ok draft
unfolding line_read key_line_read
key_from keys names draft line value key e1 e2 e3 e4 e5 = rw (e1, e2, e3, e4, e5) refl

-- a line of a key and its value, which is neither ignored nor the line `radio`
pub key_line_again : (keys : Stated) (names : List (List ℕ)) (draft : Known) (word value : List ℕ) (key : Key) → list_all is_graphic word ≡ true → key_of word ≡ Some key → is_ignored (word ++ 32 ∷ value) ≡ false → bytes_eq (word ++ 32 ∷ value) (codes "radio") ≡ false → with_value (named keys names) key value ≡ Ok draft
    → line_read (named keys names) (word ++ 32 ∷ value) ≡ Ok draft
key_line_again keys names draft word value key seen is other radio valued =
    let plain = without_blank word seen in
    key_from keys names draft (word ++ 32 ∷ value) value key other radio (ap key_of (word_again word value plain) ∙ is) (rest_again word value plain) valued

name_from : (count : ℕ) (name : List ℕ) → IsName name → count < 64 → name_stated count name ≡ Ok tt
unfolding name_stated
name_from count name is few =
    let line : list_any ends_name name ≡ false = is.line in
    let more : nat_lt 63 count ≡ false = le-ltb 63 count (omega arith) in
    let some : (utf16_length name == 0) ≡ false = ne_eqb _ 0 (λ e. omega (arith, is.some)) in
    let short : nat_lt 100 (utf16_length name) ≡ false = le-ltb 100 _ is.few in
    rw (line, more, some, short) refl

-- the line of an object
pub name_again : (keys : Stated) (past : List (List ℕ)) (name : List ℕ) → IsName name → length past < 64 → line_read (named keys past) (codes "object" ++ 32 ∷ name) ≡ Ok (named keys (past ++ name ∷ []))
name_again keys past name is few =
    let judged : name_stated (length past) name ≡ Ok tt = name_from (length past) name is few in
    key_line_again keys past (named keys (past ++ name ∷ [])) (codes "object") name keyed.Object refl refl refl refl (rw judged refl)
