use Rattle.std.proofs.Common.{◌∙◌, inl, ap, arith}
use Rattle.push_terms.specs.declared.word.Side.TheVariants.{A}
use Rattle.shelf_model.specs.host_model.specs.Clients.{ClientProfile}
use Rattle.bt_host.specs.Noting.{Noted}
use Rattle.bt_host.specs.NotedHosts.{noted_client, client_noting}
use Rattle.bt_host.specs.PushingLaws.{Answers}
use Rattle.bt_host.specs.Shells.{Shelled}
use Rattle.bt_host.proofs.Played.{both_ok, four_ok, taken_octets, taken_host}
use Rattle.bt_host.proofs.PlayedClients.{client_pages}
use Rattle.bt_host.proofs.played_client.ClientHostHost.taken.Goals as goal

pub taken-requires : goal.taken-requires
taken-requires g c =
    let same = taken_octets noted_client (Answers g.F.Shelf.content g.F.Shelf.faults g.F.Shelf.shortages) (client_noting g.F.Shelf.content) A c.args.self.now.stack c.args.port.now c.args.n c.requires.sound.2 c.requires.all in
    omega (arith, same)

pub put_out-requires-clause-sound : goal.put_out-requires-clause-sound
put_out-requires-clause-sound g c = inl (ap (λ (h : Shelled (Noted ClientProfile)). h.refusal) c.taken.ensures ∙ c.requires.sound.0)

pub returns-clause-goes : goal.returns-clause-goes
returns-clause-goes g c =
    both_ok c.put_out.result c.put_out.ensures.goes c.put_out.ensures.rests
    (λ goes rests. (taken_host noted_client (Answers g.F.Shelf.content g.F.Shelf.faults g.F.Shelf.shortages) (client_noting g.F.Shelf.content) A c.args.self.now c.taken.new.self c.put_out.new.self c.args.port.now c.put_out.new.shelf c.args.n
    (client_pages c.args.self.now.stack.paged c.requires.sound.1.1) c.requires.sound.2 c.requires.all c.taken.ensures goes rests).0)

pub returns-clause-held : goal.returns-clause-held
returns-clause-held g c =
    both_ok c.put_out.result c.put_out.ensures.stays c.put_out.ensures.stays
    (λ stays again. ap (λ (h : Shelled (Noted ClientProfile)). h.framing.held) stays ∙ ap (λ (h : Shelled (Noted ClientProfile)). h.framing.held) c.taken.ensures)

pub returns-clause-sound : goal.returns-clause-sound
returns-clause-sound g c =
    four_ok c.put_out.result c.put_out.ensures.stays c.put_out.ensures.works c.put_out.ensures.goes c.put_out.ensures.rests
    (λ stays works went rests. (
      ap (λ (h : Shelled (Noted ClientProfile)). h.refusal) stays ∙ ap (λ (h : Shelled (Noted ClientProfile)). h.refusal) c.taken.ensures ∙ c.requires.sound.0,
      (works, rests.paged ∙ ap (λ (h : Shelled (Noted ClientProfile)). h.stack.paged) c.taken.ensures ∙ c.requires.sound.1.1),
      (taken_host noted_client (Answers g.F.Shelf.content g.F.Shelf.faults g.F.Shelf.shortages) (client_noting g.F.Shelf.content) A c.args.self.now c.taken.new.self c.put_out.new.self c.args.port.now c.put_out.new.shelf c.args.n
          (client_pages c.args.self.now.stack.paged c.requires.sound.1.1) c.requires.sound.2 c.requires.all c.taken.ensures went rests).1,
    ))
