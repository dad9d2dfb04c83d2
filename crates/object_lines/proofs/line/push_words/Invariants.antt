use Rattle.std.proofs.Common.{◌≡◌, ◌++◌, drop}
use Rattle.std.specs.List.{flat_map}
use Rattle.h4_view.specs.Texts.{word_text}
use Rattle.object_lines.proofs.line.push_words.Given as goal

abbrev pub invariant-loop-unit : goal.invariant-loop-unit
invariant-loop-unit l = l.text.items ++ flat_map word_text (drop l.unit-index l.units) ≡ l.initial.text.items ++ flat_map word_text l.units
