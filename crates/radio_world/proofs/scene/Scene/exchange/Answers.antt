use Rattle.std.proofs.Common.{sym, subst}
use Rattle.radio_world.specs.Scenes.{Scene}
use Rattle.radio_world.specs.Halves.{MayAllBeHeard}
use Rattle.radio_world.proofs.scene.Scene.exchange.Goals as goal

pub exchange-requires-clause-heard : goal.exchange-requires-clause-heard
exchange-requires-clause-heard g c =
    subst (λ (s : Scene). MayAllBeHeard g.H.Host.machine c.args.side s.medium (g.H.Host.station c.args.host.now c.args.port.now)) (sym c.self.view_is) c.requires.heard
