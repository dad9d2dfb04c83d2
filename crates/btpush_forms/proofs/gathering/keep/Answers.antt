use Rattle.std.proofs.Common.{ℕ, ◌-◌, length, ap, ◌∙◌}
use Rattle.std.specs.Prelude.{min}
use Rattle.btpush_forms.specs.Gathering.{kept_limit}
use Rattle.btpush_forms.proofs.Kept.{added}
use Rattle.btpush_forms.proofs.gathering.keep.Goals as goal

pub returns-in-Ok-clause-kept : goal.returns-in-Ok-clause-kept
returns-in-Ok-clause-kept c = c.in-Ok.ensures.items ∙ added kept_limit c.min-room.result c.args.text.now.items c.args.piece.now c.requires.room (c.min-room.ensures ∙ ap (λ (n : ℕ). min (length c.args.piece.now) (kept_limit - n)) (c.len.ensures ∙ c.args.text.now.ok.0))
