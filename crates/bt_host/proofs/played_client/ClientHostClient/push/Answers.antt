use Rattle.std.proofs.Common.{[], ◌∙◌, ap, arith}
use Rattle.push_terms.specs.declared.word.Side.TheVariants.{A}
use Rattle.shelf_model.specs.world_model.specs.Machines.{Opening}
use Rattle.shelf_model.specs.host_model.specs.Clients.{ClientProfile}
use Rattle.bt_host.specs.Noting.{Noted}
use Rattle.bt_host.specs.NotedHosts.{noted_client, client_noting}
use Rattle.bt_host.specs.PushingLaws.{Answers}
use Rattle.bt_host.specs.Shells.{Shelled}
use Rattle.bt_host.proofs.Naming.{same_units}
use Rattle.bt_host.proofs.Played.{both_ok, four_ok, told_host}
use Rattle.bt_host.proofs.PlayedClients.{client_pages}
use Rattle.bt_host.proofs.played_client.ClientHostClient.push.Goals as goal

pub push-requires-clause-idle : goal.push-requires-clause-idle
push-requires-clause-idle g c = c.requires.idle []

pub push-requires-clause-few : goal.push-requires-clause-few
push-requires-clause-few g c = let same = same_units c.args.name.now c.utf8.name in omega (arith, same, c.requires.name)

pub returns-clause-reacts : goal.returns-clause-reacts
returns-clause-reacts g c =
    both_ok c.push.result c.push.ensures.hears c.push.ensures.rests
    (λ hears rests. (told_host noted_client (Answers g.F.Shelf.content g.F.Shelf.faults g.F.Shelf.shortages) (client_noting g.F.Shelf.content) A (Opening c.args.name.now) c.args.self.now c.push.new.self c.args.port.now c.push.new.shelf
    (client_pages c.args.self.now.stack.paged c.requires.sound.1.1) c.requires.sound.2 hears rests).0)

pub returns-clause-held : goal.returns-clause-held
returns-clause-held g c = both_ok c.push.result c.push.ensures.stays c.push.ensures.stays (λ stays again. ap (λ (h : Shelled (Noted ClientProfile)). h.framing.held) stays)

pub returns-clause-sound : goal.returns-clause-sound
returns-clause-sound g c =
    four_ok c.push.result c.push.ensures.stays c.push.ensures.works c.push.ensures.hears c.push.ensures.rests
    (λ stays works went rests. (
      ap (λ (h : Shelled (Noted ClientProfile)). h.refusal) stays ∙ c.requires.sound.0,
      (works, rests.paged ∙ c.requires.sound.1.1),
      (told_host noted_client (Answers g.F.Shelf.content g.F.Shelf.faults g.F.Shelf.shortages) (client_noting g.F.Shelf.content) A (Opening c.args.name.now) c.args.self.now c.push.new.self c.args.port.now c.push.new.shelf
          (client_pages c.args.self.now.stack.paged c.requires.sound.1.1) c.requires.sound.2 went rests).1,
    ))
