-- An outcome is known by its text, and each text that is read is an outcome's.
use Rattle.std.proofs.Common.{◌≡◌, ℕ, ◌+◌, ◌*◌, ◌/◌, ◌%◌, ◌<◌, true, List, [], ◌∷◌, ◌++◌, Option, Some, None, refl, sym, ap, subst, ◌∙◌, arith, append_assoc}
use Rattle.std.specs.Prelude.{codes, nat_lt, decimal}
use Rattle.std.specs.List.{list_all}
use Rattle.std.proofs.lemmas.Bool.{and_parts, ltb-true, lt-ltb}
use Rattle.push_terms.specs.declared.outcome.Outcome.{Outcome}
use Rattle.push_terms.specs.declared.outcome.Outcome.TheVariants.{Done, LinkLost, RetryLimit, Refused, NoService, ShelfFault, Cancelled, PeerClosed, PeerFault, ScriptEnded}
use Rattle.push_terms.specs.Words.{hex_digit, hex_octet}
use Rattle.push_terms.specs.Outcomes.{outcome_text, IsOutcome}
use Rattle.script_words.specs.Parts.{first_word, rest_of, number_of, hex_value, octet_of, pair_of}
use Rattle.script_words.specs.Outcomes.{SaysOutcome, short_outcome, fault_within, long_outcome, outcome_behind, outcome_read}
use Rattle.script_words.specs.Laws.{OneOutcome}
use Rattle.script_words.proofs.Splitting.{differs, is_graphic, is_printable, all_append, seen, word_again, rest_again}
use Rattle.script_words.proofs.WordsAgain.{digit_again, digit_graphic}
use Rattle.script_words.proofs.Numbers.{graphic_number}
use Rattle.script_words.proofs.PairsAgain.{pair_again}
use Rattle.script_words.proofs.Written.{some_of, only_if, Gives, gives_none, gives_some, gives_then, gives_choice, line_parted, line_whole, number_written, octet_written}

-- ---- what was written is read

two_digits : (h l a b n : ℕ) → hex_value h ≡ Some a → hex_value l ≡ Some b → a * 16 + b ≡ n → octet_of (h ∷ l ∷ []) ≡ Some n
two_digits h l a b n ea eb sum = rw (ea, eb, sum) refl

octet_again : (n : ℕ) → n < 256 → octet_of (hex_octet n) ≡ Some n
octet_again n lt = two_digits (hex_digit (n / 16)) (hex_digit (n % 16)) (n / 16) (n % 16) n (digit_again (n / 16) (omega arith)) (digit_again (n % 16) (omega arith)) (omega arith)

read_long : (word rest : List ℕ) → list_all (differs 32) word ≡ true → outcome_read (word ++ 32 ∷ rest) ≡ long_outcome word rest
unfolding outcome_read
read_long word rest h = rw (word_again word rest h, rest_again word rest h) refl

refused_from : (rest : List ℕ) (code : ℕ) → octet_of rest ≡ Some code → long_outcome (codes "refused") rest ≡ Some (Refused code)
unfolding long_outcome
refused_from rest code e = rw e refl

fault_from : (rest : List ℕ) (layer reason : ℕ) → pair_of rest ≡ Some (layer, reason) → layer < 256 → reason < 256 → long_outcome (codes "peer-fault") rest ≡ Some (PeerFault layer reason)
unfolding long_outcome
fault_from rest layer reason e low high = rw (e, lt-ltb layer 256 low, lt-ltb reason 256 high) refl

pub fault_text : (layer reason : ℕ) → outcome_text (PeerFault layer reason) ≡ codes "peer-fault" ++ 32 ∷ (decimal layer ++ 32 ∷ decimal reason)
fault_text layer reason = ap (λ (t : List ℕ). codes "peer-fault " ++ t) (append_assoc (decimal layer) (32 ∷ []) (decimal reason))

pub outcome_again : (outcome : Outcome) → IsOutcome outcome → outcome_read (outcome_text outcome) ≡ Some outcome
unfolding outcome_read short_outcome
outcome_again Done is = refl
outcome_again LinkLost is = refl
outcome_again RetryLimit is = refl
outcome_again (Refused code) is = read_long (codes "refused") (hex_octet code) refl ∙ refused_from (hex_octet code) code (octet_again code is)
outcome_again NoService is = refl
outcome_again ShelfFault is = refl
outcome_again Cancelled is = refl
outcome_again PeerClosed is = refl
outcome_again (PeerFault layer reason) is =
    ap outcome_read (fault_text layer reason)
    ∙ read_long (codes "peer-fault") (decimal layer ++ 32 ∷ decimal reason) refl
    ∙ fault_from (decimal layer ++ 32 ∷ decimal reason) layer reason (pair_again layer reason (omega (arith, is.0)) (omega (arith, is.1))) is.0 is.1
outcome_again ScriptEnded is = refl

pub one_outcome : OneOutcome
one_outcome text outcome other is are = some_of (sym (outcome_again outcome is.0) ∙ ap outcome_read (sym is.1 ∙ are.1) ∙ outcome_again other are.0)

-- ---- what is read was written

plain : (text name : List ℕ) (outcome : Outcome) → IsOutcome outcome → outcome_text outcome ≡ name → text ≡ name → Gives (SaysOutcome text) (Some outcome)
plain text name outcome is e same = gives_some _ outcome (is, same ∙ sym e)

short_written : (text : List ℕ) → Gives (SaysOutcome text) (short_outcome text)
unfolding short_outcome
short_written text =
    gives_choice _ text (codes "done") _ _ (plain text _ Done tt refl) (
    gives_choice _ text (codes "link-lost") _ _ (plain text _ LinkLost tt refl) (
    gives_choice _ text (codes "retry-limit") _ _ (plain text _ RetryLimit tt refl) (
    gives_choice _ text (codes "no-service") _ _ (plain text _ NoService tt refl) (
    gives_choice _ text (codes "shelf") _ _ (plain text _ ShelfFault tt refl) (
    gives_choice _ text (codes "cancelled") _ _ (plain text _ Cancelled tt refl) (
    gives_choice _ text (codes "peer-closed") _ _ (plain text _ PeerClosed tt refl) (
    gives_choice _ text (codes "script-ended") _ _ (plain text _ ScriptEnded tt refl)
    (gives_none _))))))))

pair_written : (text : List ℕ) → Gives (λ pair. text ≡ decimal pair.0 ++ 32 ∷ decimal pair.1) (pair_of text)
pair_written text =
    gives_then _ (number_of (first_word text)) _ (λ first e1.
    gives_then _ (rest_of text) _ (λ rest e2.
    gives_then _ (number_of rest) _ (λ second e3.
    gives_some _ (first, second) (line_parted text rest e2
    ∙ ap (λ (x : List ℕ). x ++ 32 ∷ rest) (number_written (first_word text) first e1)
    ∙ ap (λ (x : List ℕ). decimal first ++ 32 ∷ x) (number_written rest second e3)))))

fault_written : (word rest : List ℕ) (pair : ℕ × ℕ) → word ≡ codes "peer-fault" → rest ≡ decimal pair.0 ++ 32 ∷ decimal pair.1 → Gives (SaysOutcome (word ++ 32 ∷ rest)) (fault_within pair)
fault_written word rest pair is behind outcome e =
    let found = only_if _ _ outcome e in
    let small = and_parts (nat_lt pair.0 256) (nat_lt pair.1 256) found.0 in
    let whole : word ++ 32 ∷ rest ≡ outcome_text (PeerFault pair.0 pair.1) =
    ap (λ (x : List ℕ). x ++ 32 ∷ rest) is ∙ ap (λ (x : List ℕ). codes "peer-fault" ++ 32 ∷ x) behind ∙ sym (fault_text pair.0 pair.1) in
    subst (SaysOutcome (word ++ 32 ∷ rest)) found.1 ((ltb-true pair.0 256 small.0, ltb-true pair.1 256 small.1), whole)

long_written : (word rest : List ℕ) → Gives (SaysOutcome (word ++ 32 ∷ rest)) (long_outcome word rest)
unfolding long_outcome
long_written word rest =
    gives_choice _ word (codes "refused") _ _ (λ is. gives_then _ (octet_of rest) _ (λ code e.
    let behind = octet_written rest code e in
    gives_some _ (Refused code) (behind.1, ap (λ (x : List ℕ). x ++ 32 ∷ rest) is ∙ ap (λ (x : List ℕ). codes "refused" ++ 32 ∷ x) behind.0))) (
    gives_choice _ word (codes "peer-fault") _ _ (λ is. gives_then _ (pair_of rest) _ (λ pair e. fault_written word rest pair is (pair_written rest pair e)))
    (gives_none _))

behind_written : (text : List ℕ) (rest : Option (List ℕ)) → rest_of text ≡ rest → Gives (SaysOutcome text) (outcome_behind (first_word text) rest)
behind_written text (Some rest) is = subst (λ t. Gives (SaysOutcome t) (long_outcome (first_word text) rest)) (sym (line_parted text rest is)) (long_written (first_word text) rest)
behind_written text None is = subst (λ t. Gives (SaysOutcome t) (short_outcome (first_word text))) (line_whole text is) (short_written (first_word text))

pub outcome_written : (text : List ℕ) → Gives (SaysOutcome text) (outcome_read text)
unfolding outcome_read
outcome_written text = behind_written text (rest_of text) refl

-- ---- the text of an outcome is text

octet_graphic : (n : ℕ) → n < 256 → list_all is_graphic (hex_octet n) ≡ true
octet_graphic n lt = rw (digit_graphic (n / 16) (omega arith), digit_graphic (n % 16) (omega arith)) refl

pub outcome_printable : (outcome : Outcome) → IsOutcome outcome → list_all is_printable (outcome_text outcome) ≡ true
outcome_printable Done is = refl
outcome_printable LinkLost is = refl
outcome_printable RetryLimit is = refl
outcome_printable (Refused code) is = seen (hex_octet code) (octet_graphic code is)
outcome_printable NoService is = refl
outcome_printable ShelfFault is = refl
outcome_printable Cancelled is = refl
outcome_printable PeerClosed is = refl
outcome_printable (PeerFault layer reason) is = ap (list_all is_printable) (fault_text layer reason)
    ∙ all_append is_printable (decimal layer) (32 ∷ decimal reason) (seen (decimal layer) (graphic_number layer (omega (arith, is.0)))) (seen (decimal reason) (graphic_number reason (omega (arith, is.1))))
outcome_printable ScriptEnded is = refl
