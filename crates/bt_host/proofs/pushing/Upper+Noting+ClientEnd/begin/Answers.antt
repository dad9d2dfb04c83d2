use Rattle.std.proofs.Common.{◌^◌, false, refl}
use Rattle.shelf_model.specs.world_model.specs.Machines.{Opening}
use Rattle.shelf_model.specs.host_model.specs.Hosts.{Host}
use Rattle.bt_host.specs.Noting.{Noted}
use Rattle.bt_host.specs.NotedHosts.{noted_client, client_noting}
use Rattle.bt_host.specs.Shelving.{Shelved}
use Rattle.bt_host.specs.PushingLaws.{Answers, joins, lacks}
use Rattle.bt_host.proofs.Calling.{does_map, on_err_anyhow}
use Rattle.bt_host.proofs.NotedCalls.{noted_told_alone}
use Rattle.bt_host.proofs.Hearings.{hears_then}
use Rattle.bt_host.proofs.pushing.Upper+Noting+ClientEnd.begin.Goals as goal

pub returns-clause-does : goal.returns-clause-does
returns-clause-does g c =
    let answers = Answers g.F.Shelf.content g.F.Shelf.faults g.F.Shelf.shortages in
    hears_then noted_client false answers (joins g.F.Shelf.content g.F.Shelf.faults g.F.Shelf.shortages) (client_noting g.F.Shelf.content) (λ settings. refl) noted_told_alone (λ end port settings rest. refl)
    c.self.inside.channels c.self.inside.end c.self.inside.may_say c.args.self.now (record { machine = c.self.inside.channels; end = c.begin.new.self; may_say = 4294967296 }) c.drive.new.self (Opening c.args.name.now) c.args.shelf.now c.begin.new.shelf c.drive.new.port
    c.self.view_is refl
    (does_map answers (λ (p : Noted Shelved). let h : Host (Noted Shelved) = record { channels = c.self.inside.channels.channels; profile = p; may_say = 2 ^ 32 } in h) _ _ c.args.shelf.now c.begin.new.shelf (c.in_ok-begin.ensures.does c.self.inside.channels.settings))
    c.in_ok-drive.ensures.does

pub returns-in_err-drive-clause-lacked : goal.returns-in_err-drive-clause-lacked
returns-in_err-drive-clause-lacked g c =
    on_err_anyhow c.from_residual-in_err-drive.result
    (lacks g.F.Shelf.content g.F.Shelf.faults g.F.Shelf.shortages c.args.shelf.now c.begin.new.shelf c.drive.new.port _ (c.in_ok-begin.ensures.does c.self.inside.channels.settings).answered c.in_err-drive.ensures.lacked)
