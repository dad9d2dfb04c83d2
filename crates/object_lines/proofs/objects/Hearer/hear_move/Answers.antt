use Rattle.std.proofs.Common.{◌++◌, map, Some, None, refl, ap, ◌∙◌}
use Rattle.capture.specs.Lent.{plain_move}
use Rattle.object_lines.specs.Tallies.{plain_told}
use Rattle.object_lines.proofs.Heard.{heard_more}
use Rattle.object_lines.proofs.objects.Hearer.hear_move.Goals as goal

pub returns-in-None-clause-heard : goal.returns-in-None-clause-heard
returns-in-None-clause-heard c past more moved heard = heard_more c.args.party.now past more (plain_move c.args.moved.now) c.args.self.now _ None moved (rw c.in-None.is at c.in_ok-ended.ensures.said) refl heard

pub returns-in_ok-append-in-Some-clause-heard : goal.returns-in_ok-append-in-Some-clause-heard
returns-in_ok-append-in-Some-clause-heard c past more moved heard =
    heard_more c.args.party.now past more (plain_move c.args.moved.now) c.args.self.now _ (Some c.in-Some.link) moved (rw c.in-Some.is at c.in_ok-ended.ensures.said)
    (c.in_ok-append-in-Some.ensures ∙ ap (λ found. map plain_told c.args.self.now.found.items ++ found) c.into_found.ensures) heard
