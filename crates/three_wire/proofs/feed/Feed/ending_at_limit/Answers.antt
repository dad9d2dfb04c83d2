use Rattle.std.proofs.Common.{Ok, sym, ap, ◌∙◌, arith}
use Rattle.std.proofs.lemmas.List.{length-take}
use Rattle.three_wire.proofs.Feeding.{limit_cut, limit_whole}
use Rattle.three_wire.proofs.feed.Feed.ending_at_limit.Goals as goal

pub returns-then-is_err-clause-ends : goal.returns-then-is_err-clause-ends
returns-then-is_err-clause-ends g c = λ input packets f none. limit_cut input (g.S.Source.content c.args.source.now) c.args.self.now packets c.end.result c.requires.full f none c.end.ensures (sym c.is_err.ensures.value ∙ c.if-is_err.true)

pub returns-in-Ok-eq0-clause-ends : goal.returns-in-Ok-eq0-clause-ends
returns-in-Ok-eq0-clause-ends g c = λ input packets f none.
    limit_whole input (g.S.Source.content c.args.source.now) (g.S.Source.content c.read.new.self) c.args.self.now packets c.end.result f none c.end.ensures (sym c.is_err.ensures.value ∙ c.if-is_err.false)
    (c.read.ensures.read.finish (c.in-Ok-eq0.is ∙ ap Ok c.in-Ok-eq0.field-0-test) (omega (arith, length-take 1 c.deref_mut.result.now, c.deref_mut.ensures.len, c.requires.shape.piece)))
