use Rattle.radio_model.specs.Controllers.{Returned, Stated}
use Rattle.std.proofs.Common.{[], ◌∷◌}
use Rattle.radio_air.proofs.Pressing.{full_after, full_scanned}
use Rattle.radio_air.proofs.radio.Radio.do_command.Goals as goal

pub returns-in_ok-owe-in-CreateConnection-clause-full : goal.returns-in_ok-owe-in-CreateConnection-clause-full
returns-in_ok-owe-in-CreateConnection-clause-full c = full_after c.page.result c.args.side (Stated 0x0405) c.args.self.now c.owe.new.self c.in_ok-owe-in-CreateConnection.ensures.ok c.page.ensures.full

pub returns-in_ok-owe-in-Disconnect-clause-full : goal.returns-in_ok-owe-in-Disconnect-clause-full
returns-in_ok-owe-in-Disconnect-clause-full c = full_after c.disconnect.result c.args.side (Stated 0x0406) c.args.self.now c.owe-in-Disconnect.new.self c.in_ok-owe-in-Disconnect.ensures.ok c.disconnect.ensures.full

pub returns-in_ok-owe-in-AcceptConnection-clause-full : goal.returns-in_ok-owe-in-AcceptConnection-clause-full
returns-in_ok-owe-in-AcceptConnection-clause-full c = full_after c.accept.result c.args.side (Stated 0x0409) c.args.self.now c.owe-in-AcceptConnection.new.self c.in_ok-owe-in-AcceptConnection.ensures.ok c.accept.ensures.full

pub returns-in_ok-owe-in-WriteScanEnable-clause-full : goal.returns-in_ok-owe-in-WriteScanEnable-clause-full
returns-in_ok-owe-in-WriteScanEnable-clause-full c =
    full_scanned c.reach.result c.args.side c.in-WriteScanEnable.value (Returned 0x0C1A (0 ∷ [])) c.args.self.now c.scan.new.self c.owe-in-WriteScanEnable.new.self c.scan.ensures c.in_ok-owe-in-WriteScanEnable.ensures.ok c.reach.ensures.full
