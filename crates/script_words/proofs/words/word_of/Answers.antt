use Rattle.std.proofs.Common.{sym, ap, subst, ◌∙◌}
use Rattle.std.specs.Str.{IsUtf8}
use Rattle.script_words.specs.Words.{SaysWord, word_read}
use Rattle.script_words.proofs.Splitting.{printable_text}
use Rattle.script_words.proofs.WordsAgain.{word_printable}
use Rattle.script_words.proofs.Written.{gives_if}
use Rattle.script_words.proofs.WordsWritten.{word_again, word_written}
use Rattle.script_words.proofs.words.word_of.Goals as goal

pub returns-in_err-text_in-clause-only : goal.returns-in_err-text_in-clause-only
returns-in_err-text_in-clause-only c word says =
    absurd (c.in_err-text_in.ensures.none (subst IsUtf8 (sym says.1) (printable_text _ (word_printable word says.0))))

pub returns-clause-found : goal.returns-clause-found
returns-clause-found c =
    gives_if (SaysWord c.args.text.now) c.word_read.result (λ word e.
    word_written c.args.text.now word (ap word_read (sym c.in_ok-text_in.ensures.text) ∙ sym c.word_read.ensures ∙ e))

pub returns-clause-only : goal.returns-clause-only
returns-clause-only c word says =
    c.word_read.ensures ∙ ap word_read (c.in_ok-text_in.ensures.text ∙ says.1) ∙ word_again word says.0
