use Rattle.std.proofs.Common.{sym, ◌∙◌}
use Rattle.command_words.proofs.Numbers.{unread, otherwise_written, differ}
use Rattle.command_words.proofs.reading.number_of.Goals as goal

pub returns-in_default : goal.returns-in_default
returns-in_default c = unread _ _ _ c.parse.ensures.value.0 c.in_default.is

pub returns-else-eq : goal.returns-else-eq
returns-else-eq c = otherwise_written _ _ _ c.parse.ensures.value.0 c.in-Ok.is (λ same. differ _ _ (sym c.eq.ensures ∙ c.if-eq.false) (c.format.ensures.text ∙ sym same))
