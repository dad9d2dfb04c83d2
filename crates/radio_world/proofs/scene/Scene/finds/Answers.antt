use Rattle.std.proofs.Common.{ap, ◌∙◌}
use Rattle.radio_model.specs.declared.deed.Deed.{Deed}
use Rattle.radio_world.specs.Turning.{can_be_done}
use Rattle.radio_world.proofs.scene.Scene.finds.Goals as goal

pub returns : goal.returns
returns g c = λ shelf inbox rest_a rest_b.
    let one = g.A.Host in
    let two = g.B.Host in
    c.can_be_done.ensures shelf inbox rest_a rest_b
    ∙ ap (λ (d : Deed). can_be_done one.machine two.machine d c.args.self.now.pushes ((one.station c.args.a.now shelf).upper rest_a) ((two.station c.args.b.now inbox).upper rest_b)) c.found-deed.ensures.deed
