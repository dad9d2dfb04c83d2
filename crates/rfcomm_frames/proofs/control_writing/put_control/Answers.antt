use Rattle.std.proofs.Common.{[], ◌∷◌, ◌++◌, drop, ap, ◌∙◌}
use Rattle.rfcomm_frames.specs.Controls.{plain_control}
use Rattle.rfcomm_frames.proofs.Written.{control_spells}
use Rattle.rfcomm_frames.proofs.control_writing.put_control.Goals as goal

pub returns-clause-spelling : goal.returns-clause-spelling
returns-clause-spelling c =
    let mid = c.put-start.ensures.written ∙ ap (λ k. (k ∷ []) ++ drop c.put-start.result c.args.into.now) c.type_of.ensures in
    control_spells (plain_control c.args.control.now) c.args.into.now c.put-start.new.into c.put_value.new.into c.put-start.result c.put_value.result
    c.requires.fits c.requires.few c.put-start.ensures.end c.put_value.ensures.end mid c.put_value.ensures.written
