use Rattle.std.proofs.Common.{sym, ap, ◌∙◌}
use Rattle.script_words.specs.Parts.{is_number}
use Rattle.script_words.proofs.Numbers.{number_gives}
use Rattle.script_words.proofs.parts.number_of.Goals as goal

pub returns : goal.returns
returns c = number_gives c.args.text.now _ _ (sym (c.is_number.ensures ∙ ap is_number c.as_bytes.ensures.value) ∙ c.if-not-is_number.false) c.parse.ensures.value.0 c.ok.ensures.value
