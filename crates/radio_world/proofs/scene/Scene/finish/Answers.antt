use Rattle.std.proofs.Common.{length, ap, ◌∙◌}
use Rattle.radio_world.specs.Scenes.{Scene}
use Rattle.radio_world.specs.Standing.{all_outcomes}
use Rattle.radio_world.proofs.Closing.{last_stops, last_named}
use Rattle.radio_world.proofs.scene.Scene.finish.Goals as goal

pub close-requires : goal.close-requires
close-requires g c = ap (λ (s : Scene). s.pushes.going) (c.self.view_is ∙ c.in_ok-end_last.ensures.scene) ∙ last_stops c.args.came c.args.self.now.pushes

pub returns-clause-outcomes : goal.returns-clause-outcomes
returns-clause-outcomes g c = c.close.ensures.all ∙ ap (λ (s : Scene). all_outcomes s.pushes) (c.self.view_is ∙ c.in_ok-end_last.ensures.scene)

pub returns-clause-each : goal.returns-clause-each
returns-clause-each g c =
    c.close.ensures.each ∙ ap length (c.close.ensures.same ∙ ap (λ (s : Scene). s.pushes.names) (c.self.view_is ∙ c.in_ok-end_last.ensures.scene) ∙ last_named c.args.came c.args.self.now.pushes)

pub returns-clause-medium : goal.returns-clause-medium
returns-clause-medium g c = ap (λ (s : Scene). s.medium) (c.self.view_is ∙ c.in_ok-end_last.ensures.scene)
