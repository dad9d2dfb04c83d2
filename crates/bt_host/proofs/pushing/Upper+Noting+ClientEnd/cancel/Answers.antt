use Rattle.std.proofs.Common.{◌^◌, false, refl, sym, ap}
use Rattle.shelf_model.specs.world_model.specs.Machines.{Cancelled}
use Rattle.shelf_model.specs.host_model.specs.Clients.{ClientProfile}
use Rattle.shelf_model.specs.host_model.specs.Hosts.{Host}
use Rattle.bt_host.specs.Noting.{Noted}
use Rattle.bt_host.specs.NotedHosts.{noted_client, client_noting}
use Rattle.bt_host.specs.Shelving.{Shelved}
use Rattle.bt_host.specs.PushingLaws.{Answers, joins}
use Rattle.bt_host.proofs.Calling.{does_none}
use Rattle.bt_host.proofs.Hearings.{hears_then}
use Rattle.bt_host.proofs.NotedCalls.{noted_told_alone}
use Rattle.bt_host.proofs.pushing.Upper+Noting+ClientEnd.cancel.Goals as goal

pub returns-clause-does : goal.returns-clause-does
returns-clause-does g c =
    let answers = Answers g.F.Shelf.content g.F.Shelf.faults g.F.Shelf.shortages in
    let join = joins g.F.Shelf.content g.F.Shelf.faults g.F.Shelf.shortages in
    hears_then noted_client false answers join (client_noting g.F.Shelf.content) (λ settings. refl) noted_told_alone (λ end port settings rest. refl)
    c.self.inside.channels c.self.inside.end c.self.inside.may_say c.args.self.now (record { machine = c.self.inside.channels; end = c.cancel.new.self; may_say = 4294967296 }) c.drive.new.self Cancelled c.args.shelf.now c.args.shelf.now c.drive.new.port
    c.self.view_is refl
    (does_none answers join _ _ c.args.shelf.now
    (λ rest. ap (λ (n : Noted ClientProfile). let h : Host (Noted Shelved) = record { channels = c.self.inside.channels.channels; profile = client_noting g.F.Shelf.content n c.args.shelf.now rest; may_say = 2 ^ 32 } in h) (sym c.cancel.ensures.is)))
    c.in_ok-drive.ensures.does
