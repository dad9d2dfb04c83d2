use Rattle.std.proofs.Common.{subst}
use Rattle.std.specs.Prelude.{OnOk}
use Rattle.shelf_model.specs.world_model.specs.Machines.{TimerFired}
use Rattle.shelf_model.specs.host_model.specs.Clients.{ClientProfile}
use Rattle.bt_host.specs.Noting.{Noted}
use Rattle.bt_host.specs.NotedHosts.{noted_client, client_noting}
use Rattle.bt_host.specs.PushingLaws.{Answers}
use Rattle.bt_host.specs.Shells.{Shelled, settings_of, moment_of}
use Rattle.bt_host.specs.Stacks.{HearsNews}
use Rattle.bt_host.proofs.client_host.ClientHost.on_timer.Goals as goal

pub returns-clause-hears : goal.returns-clause-hears
returns-clause-hears g c =
    subst
    (λ (h : Shelled (Noted ClientProfile)).
    OnOk c.on_timer.result (HearsNews (noted_client (settings_of h)) (Answers g.F.Shelf.content g.F.Shelf.faults g.F.Shelf.shortages) (client_noting g.F.Shelf.content) TimerFired (moment_of h c.args.shelf.now) (moment_of c.on_timer.new.self c.on_timer.new.port)))
    c.self.view_is c.on_timer.ensures.hears

pub returns-clause-rests : goal.returns-clause-rests
returns-clause-rests g c = rw (← c.self.view_is) c.on_timer.ensures.rests
