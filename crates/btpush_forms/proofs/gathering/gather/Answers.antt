use Rattle.btpush_forms.proofs.Kept.{blames_ok, blames_err, answered_ok, answered_err}
use Rattle.btpush_forms.proofs.gathering.gather.Goals as goal

pub returns-in-Ok-gather_all-clause-blame : goal.returns-in-Ok-gather_all-clause-blame
returns-in-Ok-gather_all-clause-blame g c = blames_ok _ _ tt c.gather_all.new.text c.in-Ok-gather_all.ensures.blame

pub returns-in-Ok-gather_all-clause-short : goal.returns-in-Ok-gather_all-clause-short
returns-in-Ok-gather_all-clause-short g c = answered_ok _ _ tt c.gather_all.new.text c.in-Ok-gather_all.ensures.short

pub returns-clause-blame : goal.returns-clause-blame
returns-clause-blame g c = blames_err _ _ c.in-Err.fault c.in-Err.ensures.blame

pub returns-clause-short : goal.returns-clause-short
returns-clause-short g c = answered_err _ _ c.in-Err.fault c.in-Err.ensures.short
