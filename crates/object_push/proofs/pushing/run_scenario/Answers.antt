use Rattle.std.proofs.Common.{refl}
use Rattle.radio_world.specs.declared.fault.WorldFault.TheVariants as world
use Rattle.object_push.specs.Running.{RanToEnd, RanShort}
use Rattle.object_push.proofs.Causes.{short_alone, short_failed, still, unanswered, beside_trace}
use Rattle.object_push.proofs.pushing.run_scenario.Goals as goal

pub report-requires : goal.report-requires
report-requires g c = record { each = c.in-Ok.ensures.each }

pub returns-in-Ok-clause-runs : goal.returns-in-Ok-clause-runs
returns-in-Ok-clause-runs g c = RanToEnd c.in-Ok.ended.played.outcomes.items c.in-Ok.ended.kept c.in-Ok.ended.played.peaks c.in-Ok.ensures.plays c.in-Ok.ensures.gained c.in-Ok.ensures.faulted c.report.ensures.reports

pub returns-in-Ok-clause-causes : goal.returns-in-Ok-clause-causes
returns-in-Ok-clause-causes g c = beside_trace (still _ _ _ c.in-Ok.ensures.trace_faults (λ is. absurd cc)) c.report.ensures.causes

pub returns-in-Ok-clause-trace_short : goal.returns-in-Ok-clause-trace_short
returns-in-Ok-clause-trace_short g c = unanswered _ _ _ _ c.in-Ok.ensures.trace_short (λ is. absurd cc)

pub returns-in-Ok-clause-shelf_short : goal.returns-in-Ok-clause-shelf_short
returns-in-Ok-clause-shelf_short g c = unanswered _ _ _ _ c.in-Ok.ensures.shelf_short (λ is. absurd cc)

pub returns-in-Ok-clause-inbox_short : goal.returns-in-Ok-clause-inbox_short
returns-in-Ok-clause-inbox_short g c = unanswered _ _ _ _ c.in-Ok.ensures.inbox_short (λ is. absurd cc)

pub returns-in-Err-TraceFault-clause-runs : goal.returns-in-Err-TraceFault-clause-runs
returns-in-Err-TraceFault-clause-runs g c = RanShort world.TraceFault refl (rw c.in-Err-TraceFault.field-0-is at c.in-Err-TraceFault.ensures.reason) c.in-Err-TraceFault.ensures.breaks c.in-Err-TraceFault.ensures.grows refl

pub returns-in-Err-NoMemory-clause-runs : goal.returns-in-Err-NoMemory-clause-runs
returns-in-Err-NoMemory-clause-runs g c = RanShort world.NoMemory refl (rw c.in-Err-NoMemory.field-0-is at c.in-Err-NoMemory.ensures.reason) c.in-Err-NoMemory.ensures.breaks c.in-Err-NoMemory.ensures.grows refl

pub returns-in-Err-TraceFault-clause-shelf_short : goal.returns-in-Err-TraceFault-clause-shelf_short
returns-in-Err-TraceFault-clause-shelf_short g c = short_failed _ _ _ _ _ c.in-Err-TraceFault.ensures.shelf_short (rw c.in-Err-TraceFault.field-0-is at c.in-Err-TraceFault.ensures.reason)

pub returns-in-Err-TraceFault-clause-inbox_short : goal.returns-in-Err-TraceFault-clause-inbox_short
returns-in-Err-TraceFault-clause-inbox_short g c = short_failed _ _ _ _ _ c.in-Err-TraceFault.ensures.inbox_short (rw c.in-Err-TraceFault.field-0-is at c.in-Err-TraceFault.ensures.reason)

pub returns-in-Err-NoMemory-clause-shelf_short : goal.returns-in-Err-NoMemory-clause-shelf_short
returns-in-Err-NoMemory-clause-shelf_short g c = short_alone _ _ _ _ _ c.in-Err-NoMemory.ensures.shelf_short (still _ _ _ c.in-Err-NoMemory.ensures.trace_faults (λ is. absurd cc))

pub returns-in-Err-NoMemory-clause-inbox_short : goal.returns-in-Err-NoMemory-clause-inbox_short
returns-in-Err-NoMemory-clause-inbox_short g c = short_alone _ _ _ _ _ c.in-Err-NoMemory.ensures.inbox_short (still _ _ _ c.in-Err-NoMemory.ensures.trace_faults (λ is. absurd cc))
