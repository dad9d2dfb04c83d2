-- The words of the command line (this project's own).
use Rattle.std.specs.Prelude.{ℕ, List, codes}
use Rattle.clap.specs.Words.{Text}
use Rattle.command_words.specs.Forms.{AsksFor}
use Rattle.command_words.specs.declared.form.Form.{Form}
use Rattle.command_words.specs.declared.form.Form.TheVariants.{Push, Receive, Make, Snoop, Wire}
use Rattle.btpush_forms.specs.declared.hosted.Hosted.{Hosted}
use Rattle.btpush_forms.specs.declared.hosted.Hosted.TheVariants as hosted

-- the form that needs those hosts
abbrev pub hosted_form : Hosted → Form
hosted_form hosted.Push = Push
hosted_form hosted.Receive = Receive
hosted_form (hosted.Make number) = Make number

-- the forms that write to the trace
abbrev pub WritesTrace : Form → Type 0
WritesTrace Push = Unit {0}
WritesTrace Receive = Unit {0}
WritesTrace (Make number) = Unit {0}
WritesTrace (Snoop side) = Unit {0}
WritesTrace (Wire number) = Unit {0}
WritesTrace _ = ⊥

-- the words ask for a form that writes to the trace
abbrev pub AskForTrace : List Text → Type 0
AskForTrace words = (form : Form) × WritesTrace form × AsksFor words form

-- The words ask for the scenario of a number. This form alone reads no input.
abbrev pub AskToMake : List Text → Type 0
AskToMake words = (number : ℕ) × AsksFor words (Make number)

-- how the program is used
abbrev pub usage_line : List ℕ
usage_line = codes "usage: btpush decode|push|receive|make|snoop|wire [--tagged] [--snoop] [--side S] [--number N]\n"
