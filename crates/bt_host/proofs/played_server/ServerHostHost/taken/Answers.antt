use Rattle.std.proofs.Common.{◌∙◌, inl, ap, arith}
use Rattle.push_terms.specs.declared.word.Side.TheVariants.{B}
use Rattle.bt_host.specs.Serving.{Asks, Served}
use Rattle.bt_host.specs.Noting.{Noted}
use Rattle.bt_host.specs.NotedHosts.{noted_server, server_noting}
use Rattle.bt_host.specs.Shells.{Shelled}
use Rattle.bt_host.proofs.Played.{both_ok, four_ok, taken_octets, taken_host}
use Rattle.bt_host.proofs.PlayedServers.{server_pages}
use Rattle.bt_host.proofs.played_server.ServerHostHost.taken.Goals as goal

pub taken-requires : goal.taken-requires
taken-requires g c =
    let same = taken_octets noted_server (Asks g.I.Inbox.faults g.I.Inbox.shortages) (server_noting g.I.Inbox.content) B c.args.self.now.stack c.args.port.now c.args.n c.requires.sound.2 c.requires.all in
    omega (arith, same)

pub put_out-requires-clause-sound : goal.put_out-requires-clause-sound
put_out-requires-clause-sound g c = inl (ap (λ (h : Shelled (Noted Served)). h.refusal) c.taken.ensures ∙ c.requires.sound.0)

pub returns-clause-goes : goal.returns-clause-goes
returns-clause-goes g c =
    both_ok c.put_out.result c.put_out.ensures.goes c.put_out.ensures.rests
    (λ goes rests. (taken_host noted_server (Asks g.I.Inbox.faults g.I.Inbox.shortages) (server_noting g.I.Inbox.content) B c.args.self.now c.taken.new.self c.put_out.new.self c.args.port.now c.put_out.new.inbox c.args.n
    (server_pages B c.args.self.now.stack.paged) c.requires.sound.2 c.requires.all c.taken.ensures goes rests).0)

pub returns-clause-held : goal.returns-clause-held
returns-clause-held g c =
    both_ok c.put_out.result c.put_out.ensures.stays c.put_out.ensures.stays
    (λ stays again. ap (λ (h : Shelled (Noted Served)). h.framing.held) stays ∙ ap (λ (h : Shelled (Noted Served)). h.framing.held) c.taken.ensures)

pub returns-clause-sound : goal.returns-clause-sound
returns-clause-sound g c =
    four_ok c.put_out.result c.put_out.ensures.stays c.put_out.ensures.works c.put_out.ensures.goes c.put_out.ensures.rests
    (λ stays works went rests. (
      ap (λ (h : Shelled (Noted Served)). h.refusal) stays ∙ ap (λ (h : Shelled (Noted Served)). h.refusal) c.taken.ensures ∙ c.requires.sound.0,
      works,
      (taken_host noted_server (Asks g.I.Inbox.faults g.I.Inbox.shortages) (server_noting g.I.Inbox.content) B c.args.self.now c.taken.new.self c.put_out.new.self c.args.port.now c.put_out.new.inbox c.args.n
          (server_pages B c.args.self.now.stack.paged) c.requires.sound.2 c.requires.all c.taken.ensures went rests).1,
    ))
