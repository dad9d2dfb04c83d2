use Rattle.ready_ports.proofs.Causes.{fell_short, passes}
use Rattle.ready_ports.proofs.mem_sink.MemSinkSink.put.Goals as goal

pub returns-then-is_err-clause-cause : goal.returns-then-is_err-clause-cause
returns-then-is_err-clause-cause c =
    rw (← c.self.view_is, c.fall_short.ensures.counts, c.fall_short.ensures.answers, c.in_ok-call.ensures.counts)
    (fell_short c.self.inside.calls (passes _ _ _ c.in_ok-call.ensures.answers))
