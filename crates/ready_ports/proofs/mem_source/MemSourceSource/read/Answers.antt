use Rattle.std.proofs.lemmas.Result.{err_from_is_err_and}
use Rattle.ready_ports.proofs.Causes.{handed_on}
use Rattle.ready_ports.proofs.mem_source.MemSourceSource.read.Goals as goal

pub returns-in_err-call-clause-cause : goal.returns-in_err-call-clause-cause
returns-in_err-call-clause-cause c =
    let p = err_from_is_err_and c.from_residual.result c.from_residual.ensures.1 in
    rw (← c.self.view_is) (handed_on _ _ _ _ c.in_err-call.field-0.0 p.0 c.from_residual.result p.1 p.2 c.in_err-call.ensures.cause)
