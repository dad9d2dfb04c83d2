-- The words of the command line: what each form is spelled by (this project's own).
use Rattle.std.specs.Prelude.{ℕ, ◌≡◌, ◌<◌, ◌^◌, Bool, true, false, List, [], Option, Some, None, IfSome, codes, decimal}
use Rattle.std.specs.Option.{option_map}
use Rattle.std.specs.Str.{bytes_eq}
use Rattle.clap.specs.Words.{App, Row, Rule, Text, fault_of, first_of, matches_of, new_app, new_rule, with_rule}
use Rattle.clap.specs.declared.builder.action.ArgAction.TheVariants.{SetTrue}
use Rattle.push_terms.specs.Words.{side_text}
use Rattle.command_words.specs.declared.form.Form.{Form}
use Rattle.command_words.specs.declared.form.Form.TheVariants.{Decode, DecodeTagged, DecodeSnoop, Push, Receive, Make, Snoop, Wire}

-- ---- the command: one required word, two flags and two options

abbrev pub form_argument : Rule
form_argument = record (new_rule (codes "form")) { required = true }

abbrev pub tagged_argument : Rule
tagged_argument = record (new_rule (codes "tagged")) { long = Some (codes "tagged"); action = Some SetTrue }

abbrev pub snoop_argument : Rule
snoop_argument = record (new_rule (codes "snoop")) { long = Some (codes "snoop"); action = Some SetTrue }

abbrev pub side_argument : Rule
side_argument = record (new_rule (codes "side")) { long = Some (codes "side") }

abbrev pub number_argument : Rule
number_argument = record (new_rule (codes "number")) { long = Some (codes "number") }

abbrev pub flagged_command : App
flagged_command = with_rule (with_rule (with_rule (new_app (codes "btpush")) form_argument) tagged_argument) snoop_argument

abbrev pub the_command : App
the_command = with_rule (with_rule flagged_command side_argument) number_argument

-- ---- what a command line gives

pub record Given : Type 0 where
  -- the word of the form
  pub form : Option Text
  -- the flag `--tagged` stands there
  pub tagged : Bool
  -- the flag `--snoop` stands there
  pub snoop : Bool
  -- what stands behind `--side`
  pub side : Option Text
  -- what stands behind `--number`
  pub number : Option Text

-- what stands there for a flag
abbrev pub is_set : Option Text → Bool
is_set (Some text) = bytes_eq text (codes "true")
is_set None = false

abbrev pub given_by : List Row → Given
given_by rows = record {
  form = first_of (codes "form") rows;
  tagged = is_set (first_of (codes "tagged") rows);
  snoop = is_set (first_of (codes "snoop") rows);
  side = first_of (codes "side") rows;
  number = first_of (codes "number") rows;
}

-- what is given where a form is asked for
abbrev pub spelled : Form → Given
spelled Decode = record { form = Some (codes "decode"); tagged = false; snoop = false; side = None; number = None }
spelled DecodeTagged = record { form = Some (codes "decode"); tagged = true; snoop = false; side = None; number = None }
spelled DecodeSnoop = record { form = Some (codes "decode"); tagged = false; snoop = true; side = None; number = None }
spelled Push = record { form = Some (codes "push"); tagged = false; snoop = false; side = None; number = None }
spelled Receive = record { form = Some (codes "receive"); tagged = false; snoop = false; side = None; number = None }
spelled (Make number) = record { form = Some (codes "make"); tagged = false; snoop = false; side = None; number = Some (decimal number) }
spelled (Snoop side) = record { form = Some (codes "snoop"); tagged = false; snoop = false; side = Some (side_text side); number = None }
spelled (Wire number) = record { form = Some (codes "wire"); tagged = false; snoop = false; side = None; number = option_map decimal number }

-- a number has 32 bits
abbrev pub IsInRange : Form → Type 0
IsInRange (Make number) = number < 2 ^ 32
IsInRange (Wire number) = IfSome number (λ number. number < 2 ^ 32)
IsInRange _ = Unit {0}

-- The words ask for that form: `clap` takes them for the command, and what it finds is the form's word, its flags and its
-- options, in any order that `clap` takes.
pub record AsksFor (words : List Text) (form : Form) : Type 0 where
  pub taken : fault_of the_command words ≡ []
  pub given : given_by (matches_of the_command words) ≡ spelled form
  pub range : IsInRange form

-- the words ask for no form
abbrev pub AsksForNone : List Text → Type 0
AsksForNone words = (form : Form) → AsksFor words form → ⊥

-- what is given spells that form, or no form
abbrev pub IsSpelled : Given → Option Form → Type 0
IsSpelled given (Some form) = (given ≡ spelled form) × IsInRange form
IsSpelled given None = (form : Form) → IsInRange form → given ≡ spelled form → ⊥

-- what the words ask for, or that it is no form
abbrev pub IsAnswered : List Text → Option Form → Type 0
IsAnswered words (Some form) = AsksFor words form
IsAnswered words None = AsksForNone words

-- the number of 32 bits whose decimal text that is, or that there is none
abbrev pub IsNumberOf : Text → Option ℕ → Type 0
IsNumberOf text (Some number) = (text ≡ decimal number) × (number < 2 ^ 32)
IsNumberOf text None = (number : ℕ) → number < 2 ^ 32 → text ≡ decimal number → ⊥
