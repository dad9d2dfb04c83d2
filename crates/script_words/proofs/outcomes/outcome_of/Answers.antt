use Rattle.std.proofs.Common.{sym, ap, subst, ◌∙◌}
use Rattle.std.specs.Str.{IsUtf8}
use Rattle.script_words.specs.Outcomes.{SaysOutcome, outcome_read}
use Rattle.script_words.proofs.Splitting.{printable_text}
use Rattle.script_words.proofs.Written.{gives_if}
use Rattle.script_words.proofs.OutcomesWritten.{outcome_again, outcome_written, outcome_printable}
use Rattle.script_words.proofs.outcomes.outcome_of.Goals as goal

pub returns-in_err-text_in-clause-only : goal.returns-in_err-text_in-clause-only
returns-in_err-text_in-clause-only c outcome says =
    absurd (c.in_err-text_in.ensures.none (subst IsUtf8 (sym says.1) (printable_text _ (outcome_printable outcome says.0))))

pub returns-clause-found : goal.returns-clause-found
returns-clause-found c =
    gives_if (SaysOutcome c.args.text.now) c.outcome_read.result (λ outcome e.
    outcome_written c.args.text.now outcome (ap outcome_read (sym c.in_ok-text_in.ensures.text) ∙ sym c.outcome_read.ensures ∙ e))

pub returns-clause-only : goal.returns-clause-only
returns-clause-only c outcome says =
    c.outcome_read.ensures ∙ ap outcome_read (c.in_ok-text_in.ensures.text ∙ says.1) ∙ outcome_again outcome says.0
