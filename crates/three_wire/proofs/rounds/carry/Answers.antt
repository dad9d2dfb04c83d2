use Rattle.three_wire.specs.Carrying.{given}
use Rattle.three_wire.proofs.Carrying.{carries_nothing, ends_well}
use Rattle.three_wire.proofs.rounds.carry.Goals as goal

pub returns-in_default-clause-carries : goal.returns-in_default-clause-carries
returns-in_default-clause-carries g c = carries_nothing c.args.number (g.S.Source.content c.args.source.now) (g.K.Sink.content c.args.sink.now) (g.T.Sink.content c.args.trace.now) _

pub run-requires : goal.run-requires
run-requires g c =
    let s = g.S.Source.content c.args.source.now in
    let k = g.K.Sink.content c.args.sink.now in
    let t = g.T.Sink.content c.args.trace.now in
    record { going = (given c.args.number s k t, c.in-Ok.ensures s k t) }

pub returns-clause-carries : goal.returns-clause-carries
returns-clause-carries g c =
    let s = g.S.Source.content c.args.source.now in
    let k = g.K.Sink.content c.args.sink.now in
    let t = g.T.Sink.content c.args.trace.now in
    c.run.ensures.carries (given c.args.number s k t) (c.in-Ok.ensures s k t)

pub returns-clause-clean : goal.returns-clause-clean
returns-clause-clean g c =
    let s = g.S.Source.content c.args.source.now in
    let k = g.K.Sink.content c.args.sink.now in
    let t = g.T.Sink.content c.args.trace.now in
    ends_well s k _ t _ c.args.number _ _ _ c.run.result (c.run.ensures.carries (given c.args.number s k t) (c.in-Ok.ensures s k t)) c.run.ensures.read_fault c.run.ensures.write_fault
