-- Words ask for one form at most.
use Rattle.std.proofs.Common.{◌≡◌, ◌∙◌, ◌==◌, ◌<◌, ◌^◌, ℕ, Bool, List, Option, Some, None, IfSome, decimal, if◌then◌else◌, get_or, refl, sym, ap, arith}
use Rattle.std.specs.Option.{option_map}
use Rattle.std.proofs.lemmas.Fmt.{decimal_injective}
use Rattle.clap.specs.Words.{Text}
use Rattle.push_terms.specs.declared.word.Side.{Side}
use Rattle.push_terms.specs.declared.word.Side.TheVariants as sides
use Rattle.command_words.specs.Forms.{AsksFor, Given, IsInRange, spelled}
use Rattle.command_words.specs.declared.form.Form.{Form}
use Rattle.command_words.specs.declared.form.Form.TheVariants.{Decode, DecodeTagged, DecodeSnoop, Push, Receive, Make, Snoop, Wire}

-- the first letter of a form's word tells it, with its flag and its number
abbrev letter : Option Text → ℕ
letter None = 0
letter (Some word) = get_or word 0 0

abbrev number_or : Option ℕ → ℕ
number_or None = 0
number_or (Some number) = number

abbrev side_by : Option Text → Side
side_by text = if letter text == 97 then sides.A else sides.B

abbrev form_by : ℕ → Bool → Bool → Side → Option ℕ → Form
form_by letter tagged snoop side number =
    if letter == 100 then (if tagged then DecodeTagged else if snoop then DecodeSnoop else Decode) else if letter == 115 then Snoop side else if letter == 112 then Push else if letter == 114 then Receive else if letter == 109 then Make (number_or number) else Wire number

abbrev number_in : Form → Option ℕ
number_in (Make number) = Some number
number_in (Wire number) = number
number_in _ = None

told : (form : Form) → form_by (letter (spelled form).form) (spelled form).tagged (spelled form).snoop (side_by (spelled form).side) (number_in form) ≡ form
told Decode = refl
told DecodeTagged = refl
told DecodeSnoop = refl
told Push = refl
told Receive = refl
told (Make number) = refl
told (Snoop sides.A) = refl
told (Snoop sides.B) = refl
told (Wire number) = refl

number_told : (form : Form) → IsInRange form → ((spelled form).number ≡ option_map decimal (number_in form)) × IfSome (number_in form) (λ number. number < 2 ^ 32)
number_told Decode range = (refl, tt)
number_told DecodeTagged range = (refl, tt)
number_told DecodeSnoop range = (refl, tt)
number_told Push range = (refl, tt)
number_told Receive range = (refl, tt)
number_told (Make number) range = (refl, range)
number_told (Snoop side) range = (refl, tt)
number_told (Wire number) range = (refl, range)

same_number : (a b : Option ℕ) → IfSome a (λ number. number < 2 ^ 32) → IfSome b (λ number. number < 2 ^ 32) → option_map decimal a ≡ option_map decimal b → a ≡ b
same_number None None small small' same = refl
same_number None (Some n) small small' same = absurd cc
same_number (Some m) None small small' same = absurd cc
same_number (Some m) (Some n) small small' same = let texts : decimal m ≡ decimal n = cc in ap Some (decimal_injective m n (omega (arith, small)) (omega (arith, small')) texts)

pub asks_once : (words : List Text) (a b : Form) → AsksFor words a → AsksFor words b → a ≡ b
asks_once words a b asks asks' =
    let same : spelled a ≡ spelled b = sym asks.given ∙ asks'.given in
    let ta = number_told a asks.range in
    let tb = number_told b asks'.range in
    let number = same_number (number_in a) (number_in b) ta.1 tb.1 (sym ta.0 ∙ ap (λ (g : Given). g.number) same ∙ tb.0) in
    sym (told a) ∙ ap (λ (g : Given). form_by (letter g.form) g.tagged g.snoop (side_by g.side) (number_in a)) same ∙ ap (form_by (letter (spelled b).form) (spelled b).tagged (spelled b).snoop (side_by (spelled b).side)) number ∙ told b
