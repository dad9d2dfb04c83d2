use Rattle.std.proofs.Common.{◌∙◌, ap}
use Rattle.push_terms.specs.declared.word.Side.TheVariants.{B}
use Rattle.shelf_model.specs.world_model.specs.Machines.{TimerFired}
use Rattle.bt_host.specs.Serving.{Asks, Served}
use Rattle.bt_host.specs.Noting.{Noted}
use Rattle.bt_host.specs.NotedHosts.{noted_server, server_noting}
use Rattle.bt_host.specs.Shells.{Shelled}
use Rattle.bt_host.proofs.Played.{both_ok, four_ok, told_host}
use Rattle.bt_host.proofs.PlayedServers.{server_pages}
use Rattle.bt_host.proofs.played_server.ServerHostHost.on_timer.Goals as goal

pub returns-clause-reacts : goal.returns-clause-reacts
returns-clause-reacts g c =
    both_ok c.on_timer.result c.on_timer.ensures.hears c.on_timer.ensures.rests
    (λ hears rests. (told_host noted_server (Asks g.I.Inbox.faults g.I.Inbox.shortages) (server_noting g.I.Inbox.content) B TimerFired c.args.self.now c.on_timer.new.self c.args.port.now c.on_timer.new.inbox
    (server_pages B c.args.self.now.stack.paged) c.requires.sound.2 hears rests).0)

pub returns-clause-held : goal.returns-clause-held
returns-clause-held g c = both_ok c.on_timer.result c.on_timer.ensures.stays c.on_timer.ensures.stays (λ stays again. ap (λ (h : Shelled (Noted Served)). h.framing.held) stays)

pub returns-clause-sound : goal.returns-clause-sound
returns-clause-sound g c =
    four_ok c.on_timer.result c.on_timer.ensures.stays c.on_timer.ensures.works c.on_timer.ensures.hears c.on_timer.ensures.rests
    (λ stays works went rests. (
      ap (λ (h : Shelled (Noted Served)). h.refusal) stays ∙ c.requires.sound.0,
      works,
      (told_host noted_server (Asks g.I.Inbox.faults g.I.Inbox.shortages) (server_noting g.I.Inbox.content) B TimerFired c.args.self.now c.on_timer.new.self c.args.port.now c.on_timer.new.inbox
          (server_pages B c.args.self.now.stack.paged) c.requires.sound.2 went rests).1,
    ))
