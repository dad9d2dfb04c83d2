use Rattle.h4_view.proofs.Endings.{nothing_shown, refusal_shown}
use Rattle.h4_view.proofs.raw.view_raw.Goals as goal

pub returns-in-Err-clause-views : goal.returns-in-Err-clause-views
returns-in-Err-clause-views g c = nothing_shown _ _ _ c.in-Err.fault c.in-Err.ensures.short

pub returns-in-Err-new_piece-clause-views : goal.returns-in-Err-new_piece-clause-views
returns-in-Err-new_piece-clause-views g c = nothing_shown _ _ _ c.in-Err-new_piece.fault c.in-Err-new_piece.ensures.short

pub returns-in-Ok-Some-clause-views : goal.returns-in-Ok-Some-clause-views
returns-in-Ok-Some-clause-views g c = refusal_shown _ _ _ _ _ c.in-Ok-Some.refusal c.in-Ok-Some.place c.refuse.result (rw c.in-Ok-Some.field-0-is at c.in-Ok-Some.ensures.shows) c.refuse.ensures.wrote
