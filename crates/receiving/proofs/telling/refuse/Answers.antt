use Rattle.std.proofs.Common.{◌∙◌, ap, List, ℕ}
use Rattle.bt_base.specs.Streams.{gained}
use Rattle.btpush_forms.specs.Carrying.{place_line}
use Rattle.receiving.proofs.telling.refuse.Goals as goal

pub returns-in-Ok-clause-refuses : goal.returns-in-Ok-clause-refuses
returns-in-Ok-clause-refuses g c = c.in-Ok.ensures.put.ok ∙ ap (gained (g.T.Sink.content c.args.trace.now)) (c.put_line-n.ensures.written ∙ ap (λ (name : List ℕ). place_line name c.args.place) c.refusal_name.ensures.name)
