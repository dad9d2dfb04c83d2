use Rattle.std.proofs.Common.{refl, ap, length, arith, List, ℕ}
use Rattle.push_script.specs.Reading.{script_of}
use Rattle.btpush_forms.specs.Gathering.{reading_limit}
use Rattle.object_push.specs.Pushing.{NotRead}
use Rattle.object_push.proofs.Taking.{if_some, not_taken, taken, none_pending, short_read}
use Rattle.object_push.proofs.pushing.push.Goals as goal

pub returns-in-Err-ReadFault-clause-pushes : goal.returns-in-Err-ReadFault-clause-pushes
returns-in-Err-ReadFault-clause-pushes g c = if_some _ (λ input h. NotRead h.0 h.1 refl (refl, refl, refl) tt) c.in-Err-ReadFault.ensures.gathers

pub returns-in-Err-NoMemory-clause-pushes : goal.returns-in-Err-NoMemory-clause-pushes
returns-in-Err-NoMemory-clause-pushes g c = if_some _ (λ input h. NotRead h.0 h.1 refl (refl, refl, refl) tt) c.in-Err-NoMemory.ensures.gathers

pub returns-in-Err-Refused-clause-pushes : goal.returns-in-Err-Refused-clause-pushes
returns-in-Err-Refused-clause-pushes g c = if_some _ (λ input h. not_taken input _ _ _ _ _ _ c.in-Err-Refused.line c.in-Err-Refused.refusal _ h.0 c.deref.ensures.value h.1 (rw c.in-Err-Refused.field-0-is at c.in-Err-Refused.ensures) (rw (c.in-Err-Refused.line-is, c.in-Err-Refused.refusal-is) at c.refuse.ensures.refuses) (refl, refl, refl)) c.in-Ok.ensures.gathers

pub returns-in-Err-NoMemory-scenario_of-clause-pushes : goal.returns-in-Err-NoMemory-scenario_of-clause-pushes
returns-in-Err-NoMemory-scenario_of-clause-pushes g c = if_some _ (λ input h. NotRead reading_limit h.1 refl (refl, refl, refl) tt) c.in-Ok.ensures.gathers

pub returns-clause-pushes : goal.returns-clause-pushes
returns-clause-pushes g c = if_some _ (λ input h. taken c.runs_tell.ensures input _ _ _ _ _ _ c.in-Ok-scenario_of.scenario _ h.0 c.deref.ensures.value h.1 c.in-Ok-scenario_of.ensures (none_pending _ _ (g.met.B.Inbox.told c.args.inbox.now) c.requires.pending) c.run_scenario.ensures.runs) c.in-Ok.ensures.gathers

pub returns-clause-finish : goal.returns-clause-finish
returns-clause-finish g c ended = c.in-Ok.ensures.finish (omega (arith, short_read c.deref.result.now (script_of c.in-Ok-scenario_of.scenario) c.in-Ok-scenario_of.ensures, ap (λ (t : List ℕ). length t) c.deref.ensures.value))
