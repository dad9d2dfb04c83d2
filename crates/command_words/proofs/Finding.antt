-- What was found spells what it was found with.
use Rattle.std.proofs.Common.{ℕ, ◌≡◌, ◌∙◌, Bool, List, Option, Some, None, true, [], codes, sym, ap, refl, subst}
use Rattle.clap.specs.Words.{App, HasMatchesOf, Row, Text, fault_of, first_of, found_of, is_simple, is_simple_and_free, matches_of, rows_of}
use Rattle.clap.proofs.OnLiterals.{clap_on_literals}
use Rattle.clap.specs.declared.parser.matches.ArgMatches.{ArgMatches}
use Rattle.command_words.specs.Forms.{Given, given_by, spelled, IsAnswered, IsSpelled, is_set, the_command}
use Rattle.command_words.specs.declared.form.Form.{Form}
use Rattle.command_words.specs.declared.form.Form.TheVariants.{Decode, DecodeTagged, DecodeSnoop, Push, Receive, Make, Snoop, Wire}

abbrev is_there : Option (List ℕ) → Type 0
is_there (Some word) = Unit {0}
is_there None = ⊥

has_word : (form : Form) → is_there (spelled form).form
has_word Decode = tt
has_word DecodeTagged = tt
has_word DecodeSnoop = tt
has_word Push = tt
has_word Receive = tt
has_word (Make number) = tt
has_word (Snoop side) = tt
has_word (Wire number) = tt

pub no_word : (rows : List Row) → first_of (codes "form") rows ≡ None → IsSpelled (given_by rows) None
no_word rows none form range is = subst is_there (sym (ap (λ (given : Given). given.form) is) ∙ none) (has_word form)

pub all_found : (rows : List Row) (word : List ℕ) (tagged snoop : Bool) (side number : Option (List ℕ)) (form : Option Form) → first_of (codes "form") rows ≡ Some word → tagged ≡ is_set (first_of (codes "tagged") rows) → snoop ≡ is_set (first_of (codes "snoop") rows)
    → first_of (codes "side") rows ≡ side → first_of (codes "number") rows ≡ number → IsSpelled (record { form = Some word; tagged = tagged; snoop = snoop; side = side; number = number }) form → IsSpelled (given_by rows) form
all_found rows word tagged snoop side number form is_word is_flag is_snoop is_side is_number =
    go (first_of (codes "form") rows) (is_set (first_of (codes "tagged") rows)) (is_set (first_of (codes "snoop") rows)) (first_of (codes "side") rows) (first_of (codes "number") rows) is_word is_flag is_snoop is_side is_number
  where
    go : (a : Option (List ℕ)) (b s : Bool) (d c : Option (List ℕ)) → a ≡ Some word → tagged ≡ b → snoop ≡ s → d ≡ side → c ≡ number → IsSpelled (record { form = Some word; tagged = tagged; snoop = snoop; side = side; number = number }) form
        → IsSpelled (record { form = a; tagged = b; snoop = s; side = d; number = c }) form
    go a b s d c ea eb es ed ec spells = rw (ea, ← eb, ← es, ed, ec) spells

-- no form has a side and a number
abbrev both_there : Option (List ℕ) → Option (List ℕ) → Type 0
both_there (Some side) (Some number) = Unit {0}
both_there _ _ = ⊥

one_option : (form : Form) → both_there (spelled form).side (spelled form).number → ⊥
one_option Decode h = h
one_option DecodeTagged h = h
one_option DecodeSnoop h = h
one_option Push h = h
one_option Receive h = h
one_option (Make number) h = h
one_option (Snoop side) h = h
one_option (Wire number) h = h

pub two_options : (rows : List Row) (side number : List ℕ) → first_of (codes "side") rows ≡ Some side → first_of (codes "number") rows ≡ Some number → IsSpelled (given_by rows) None
two_options rows side number is_side is_number form range is =
    one_option form (subst (λ (given : Given). both_there given.side given.number) is (subst (λ (o : Option (List ℕ)). both_there o (first_of (codes "number") rows)) (sym is_side) (subst (λ (o : Option (List ℕ)). both_there (Some side) o) (sym is_number) tt)))

-- ---- from what `clap` finds to what the words ask for

is_plain : is_simple_and_free the_command ≡ true
unfolding clap_on_literals
is_plain = refl

is_simple_one : is_simple the_command ≡ true
unfolding clap_on_literals
is_simple_one = refl

asked : (words : List Text) (rows : List Row) (form : Option Form) → fault_of the_command words ≡ [] → rows ≡ matches_of the_command words → IsSpelled (given_by rows) form → IsAnswered words form
asked words rows (Some form) taken same spells = record { taken = taken; given = ap given_by (sym same) ∙ spells.0; range = spells.1 }
asked words rows None taken same spells = λ form asks. spells form asks.range (ap given_by same ∙ asks.given)

pub answered : (app : App) (words : List Text) (found : ArgMatches) (form : Option Form) → app ≡ the_command → (is_simple_and_free app ≡ true → fault_of app words ≡ []) → HasMatchesOf app words found
    → IsSpelled (given_by (rows_of (found_of found))) form → IsAnswered words form
answered app words found form same taken has =
    asked words (rows_of (found_of found)) form
    (sym (ap (λ a. fault_of a words) same) ∙ taken (ap is_simple_and_free same ∙ is_plain))
    ((has (ap is_simple same ∙ is_simple_one)).0 ∙ ap (λ a. matches_of a words) same)
