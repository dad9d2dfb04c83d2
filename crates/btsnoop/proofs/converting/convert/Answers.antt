use Rattle.std.proofs.Common.{refl, arith}
use Rattle.btsnoop.proofs.Items.{header_size}
use Rattle.btsnoop.proofs.Converted.{new_read, told_then, whole_converts, cut_converts, long_converts, refusal_converts}
use Rattle.btsnoop.proofs.converting.convert.Goals as goal

pub put_header-sixteen-requires : goal.put_header-sixteen-requires
put_header-sixteen-requires g c = omega (arith, header_size)

pub tell_all-requires : goal.tell_all-requires
tell_all-requires g c = new_read c.args.side _ _ _ _ refl refl c.put_header-sixteen.ensures

pub returns-in-Ok-Whole-clause-converts : goal.returns-in-Ok-Whole-clause-converts
returns-in-Ok-Whole-clause-converts g c = told_then (g.S.Source.content c.args.source.now) (λ input runs. whole_converts _ c.tell_all.new.teller c.args.side input (g.S.Source.content c.tell_all.new.source) (g.K.Sink.content c.args.sink.now) (g.K.Sink.content c.tell_all.new.sink) refl runs) (rw c.in-Ok-Whole.field-0-is at c.in-Ok-Whole.ensures.runs)

pub returns-in-Ok-Truncated-clause-converts : goal.returns-in-Ok-Truncated-clause-converts
returns-in-Ok-Truncated-clause-converts g c = told_then (g.S.Source.content c.args.source.now) (λ input runs. cut_converts _ c.tell_all.new.teller c.args.side input (g.S.Source.content c.tell_all.new.source) (g.K.Sink.content c.args.sink.now) (g.K.Sink.content c.tell_all.new.sink) c.in-Ok-Truncated.place refl runs) (rw c.in-Ok-Truncated.field-0-is at c.in-Ok-Truncated.ensures.runs)

pub returns-in-Ok-TooLong-clause-converts : goal.returns-in-Ok-TooLong-clause-converts
returns-in-Ok-TooLong-clause-converts g c = told_then (g.S.Source.content c.args.source.now) (λ input runs. long_converts _ c.tell_all.new.teller c.args.side input (g.S.Source.content c.tell_all.new.source) (g.K.Sink.content c.args.sink.now) (g.K.Sink.content c.tell_all.new.sink) refl runs) (rw c.in-Ok-TooLong.field-0-is at c.in-Ok-TooLong.ensures.runs)

pub returns-in-Ok-Refused-clause-converts : goal.returns-in-Ok-Refused-clause-converts
returns-in-Ok-Refused-clause-converts g c = told_then (g.S.Source.content c.args.source.now) (λ input runs. refusal_converts _ c.tell_all.new.teller c.args.side input (g.S.Source.content c.tell_all.new.source) (g.K.Sink.content c.args.sink.now) (g.K.Sink.content c.tell_all.new.sink) c.in-Ok-Refused.place refl runs) (rw c.in-Ok-Refused.field-0-is at c.in-Ok-Refused.ensures.runs)
