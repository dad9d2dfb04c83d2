use Rattle.std.proofs.Common.{ap, arith, inr}
use Rattle.btpush_forms.specs.Ports.{written, Written}
use Rattle.making.specs.declared.memory_ports.MemoryPorts.{MemoryPorts}
use Rattle.making.proofs.Made.{ended_makes, short_makes, quiet}
use Rattle.making.proofs.making.make.Goals as goal

pub returns-in-Ok-end-clause-makes : goal.returns-in-Ok-end-clause-makes
returns-in-Ok-end-clause-makes g c =
    let new = c.push-end.new in
    let after : MemoryPorts = record { source = new.source; report = new.sink; shelf = new.shelf; inbox = new.inbox } in
    ended_makes c.args.number c.in-Ok.ports after (written g.K.Sink c.args.sink.now) (written g.K.Sink c.tell.new.sink) (written g.T.Sink c.args.trace.now) (written g.T.Sink new.trace) _ c.push-end.result c.tell.result
    (record { made = c.in-Ok.ensures; causes = c.push-end.ensures.causes; pushes = c.push-end.ensures.pushes }) c.in-Ok-end.is c.tell.ensures.sums

pub returns : goal.returns
returns g c =
    let new = c.push-end.new in
    let after : MemoryPorts = record { source = new.source; report = new.sink; shelf = new.shelf; inbox = new.inbox } in
    let sink : Written = written g.K.Sink c.args.sink.now in
    let stops = short_makes c.args.number c.in-Ok.ports after sink (written g.T.Sink c.args.trace.now) (written g.T.Sink new.trace) _ c.push-end.result
    (record { made = c.in-Ok.ensures; causes = c.push-end.ensures.causes; pushes = c.push-end.ensures.pushes }) c.in_default-end.not-Ok c.in_default-end.not-SomeFailed (λ same. ap (written g.T.Sink) same.0) in
    record {
      makes = stops.makes;
      known = inr stops.short;
      causes = quiet sink.faults (g.T.Sink.faults c.args.trace.now) (g.T.Sink.faults new.trace) c.push-end.result c.push-end.ensures.causes;
      sink_short = record { stays = omega arith; only = λ lt. absurd (omega arith) };
      trace_short = c.push-end.ensures.trace_short;
    }
