use Rattle.std.proofs.Common.{sym}
use Rattle.object_lines.proofs.segments.segment_of.Goals as goal

pub returns-then-not-may_have : goal.returns-then-not-may_have
returns-then-not-may_have c = sym (c.may_have.ensures c.if-not-may_have.true c.args.most)
