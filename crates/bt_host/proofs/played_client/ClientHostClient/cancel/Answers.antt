use Rattle.std.proofs.Common.{[], ◌∙◌, ap}
use Rattle.push_terms.specs.declared.word.Side.TheVariants.{A}
use Rattle.shelf_model.specs.world_model.specs.Machines.{Cancelled}
use Rattle.shelf_model.specs.host_model.specs.Clients.{ClientProfile}
use Rattle.bt_host.specs.Noting.{Noted}
use Rattle.bt_host.specs.NotedHosts.{noted_client, client_noting}
use Rattle.bt_host.specs.PushingLaws.{Answers}
use Rattle.bt_host.specs.Shells.{Shelled}
use Rattle.bt_host.proofs.Played.{both_ok, four_ok, told_host}
use Rattle.bt_host.proofs.PlayedClients.{client_pages}
use Rattle.bt_host.proofs.played_client.ClientHostClient.cancel.Goals as goal

pub cancel-requires-clause-may : goal.cancel-requires-clause-may
cancel-requires-clause-may g c = c.requires.may []

pub returns-clause-reacts : goal.returns-clause-reacts
returns-clause-reacts g c =
    both_ok c.cancel.result c.cancel.ensures.hears c.cancel.ensures.rests
    (λ hears rests. (told_host noted_client (Answers g.F.Shelf.content g.F.Shelf.faults g.F.Shelf.shortages) (client_noting g.F.Shelf.content) A Cancelled c.args.self.now c.cancel.new.self c.args.port.now c.cancel.new.shelf
    (client_pages c.args.self.now.stack.paged c.requires.sound.1.1) c.requires.sound.2 hears rests).0)

pub returns-clause-held : goal.returns-clause-held
returns-clause-held g c = both_ok c.cancel.result c.cancel.ensures.stays c.cancel.ensures.stays (λ stays again. ap (λ (h : Shelled (Noted ClientProfile)). h.framing.held) stays)

pub returns-clause-sound : goal.returns-clause-sound
returns-clause-sound g c =
    four_ok c.cancel.result c.cancel.ensures.stays c.cancel.ensures.works c.cancel.ensures.hears c.cancel.ensures.rests
    (λ stays works went rests. (
      ap (λ (h : Shelled (Noted ClientProfile)). h.refusal) stays ∙ c.requires.sound.0,
      (works, rests.paged ∙ c.requires.sound.1.1),
      (told_host noted_client (Answers g.F.Shelf.content g.F.Shelf.faults g.F.Shelf.shortages) (client_noting g.F.Shelf.content) A Cancelled c.args.self.now c.cancel.new.self c.args.port.now c.cancel.new.shelf
          (client_pages c.args.self.now.stack.paged c.requires.sound.1.1) c.requires.sound.2 went rests).1,
    ))
