use Rattle.std.proofs.Common.{◌++◌, map, ap, ◌∙◌}
use Rattle.push_terms.specs.declared.word.Side.TheVariants as sides
use Rattle.link_talk.specs.Captures.{objects_heard}
use Rattle.object_lines.specs.Lines.{viewed}
use Rattle.object_lines.specs.Tallies.{told, plain_told, told_lines}
use Rattle.object_lines.proofs.Tallying.{lines_are_told}
use Rattle.object_lines.proofs.objects.object_lines.Goals as goal

pub returns : goal.returns
returns c entries is =
    c.in_ok-push_objects.ensures
    ∙ ap (λ text. text ++ told_lines (map plain_told c.deref.result.now)) c.new-text.ensures.items
    ∙ ap (λ objects. told_lines (map plain_told objects)) c.deref.ensures.value
    ∙ ap told_lines (c.in_ok-objects.ensures entries is ∙ ap (λ party. map told (objects_heard party sides.B entries)) c.viewed.ensures)
    ∙ lines_are_told (objects_heard viewed sides.B entries)
