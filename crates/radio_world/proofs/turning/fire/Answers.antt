use Rattle.std.proofs.Common.{sym, ◌∙◌}
use Rattle.room_laws.specs.world_model.specs.Machines.{TimerFired}
use Rattle.room_laws.specs.world_model.specs.Stations.{told}
use Rattle.room_laws.specs.world_model.specs.Worlds.{fired}
use Rattle.radio_world.specs.Hosts.{answering}
use Rattle.radio_world.proofs.Reacting.{reacts_not, reacts_as, not_fired, is_fired}
use Rattle.radio_world.proofs.turning.fire.Goals as goal

pub returns-clause-reacts : goal.returns-clause-reacts
returns-clause-reacts g c =
    let host = g.H.Host in
    reacts_as host.machine host.side host.answers (λ used. told host.machine used TimerFired) (λ used. fired host.machine used) (host.station c.args.host.now c.args.port.now) (host.station c.on_timer.new.self c.on_timer.new.port) c.args.port.now c.on_timer.new.port
    (λ answers. is_fired host.machine answers (answering answers (host.station c.args.host.now c.args.port.now)) (sym (c.armed.ensures c.args.port.now answers) ∙ c.if-not-armed.false)) c.in_ok-on_timer.ensures.reacts

pub returns-then-not-armed-clause-reacts : goal.returns-then-not-armed-clause-reacts
returns-then-not-armed-clause-reacts g c =
    let host = g.H.Host in
    reacts_not host.machine host.side host.answers (λ used. fired host.machine used) (host.station c.args.host.now c.args.port.now) c.args.port.now g.met.H.Host.joins
    (λ answers. not_fired host.machine answers (answering answers (host.station c.args.host.now c.args.port.now)) (sym (c.armed.ensures c.args.port.now answers) ∙ c.if-not-armed.true))
