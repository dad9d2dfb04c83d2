use Rattle.std.proofs.Common.{◌≡◌, ◌∙◌, sym, ap, subst}
use Rattle.push_terms.specs.declared.word.Side.TheVariants.{A, B}
use Rattle.radio_world.specs.Hosts as world
use Rattle.radio_world.specs.radio_model.specs.Controllers.{address}
use Rattle.shelf_model.specs.host_model.specs.Clients.{ClientProfile}
use Rattle.bt_host.specs.Pushing.{Pushes, Lacks}
use Rattle.bt_host.specs.Noting.{Noted}
use Rattle.bt_host.specs.NotedHosts.{noted_client_machine, noted_client, client_noting}
use Rattle.bt_host.specs.PushingLaws as laws
use Rattle.bt_host.specs.PushingLaws.{Answers}
use Rattle.bt_host.specs.Shells.{Shelled}
use Rattle.bt_host.specs.Playing.{playing, IsPlayed, PushesSoundly}
use Rattle.bt_host.proofs.Played.{both_ok, on_err, fed_played, lacked_so}
use Rattle.bt_host.proofs.PlayedClients.{client_pages}
use Rattle.bt_host.proofs.played_client.ClientHostHost.feed.Goals as goal

pub hear-requires-clause-rests : goal.hear-requires-clause-rests
hear-requires-clause-rests g c =
    (subst (λ (h : Shelled (Noted ClientProfile)). IsPlayed noted_client A (client_noting g.F.Shelf.content) h.stack c.args.port.now) (sym c.self.view_is) c.requires.sound.2).rests

pub returns-clause-hears : goal.returns-clause-hears
returns-clause-hears g c =
    let to = ap (λ (h : Shelled (Noted ClientProfile)). h.stack.paged) c.self.view_is ∙ c.requires.sound.1.1 in
    let answers = Answers g.F.Shelf.content g.F.Shelf.faults g.F.Shelf.shortages in
    let old = c.self.inside.shell in
    let new = c.hear.new.self in
    let port = c.hear.new.port in
    let sound = PushesSoundly g.F.Shelf.content new port in
    let is = subst (λ (h : Shelled (Noted ClientProfile)). IsPlayed noted_client A (client_noting g.F.Shelf.content) h.stack c.args.port.now) (sym c.self.view_is) c.requires.sound.2 in
    both_ok c.want.result c.want.ensures.went c.want.ensures.went
    (λ some again.
    subst (λ (h : Shelled (Noted ClientProfile)). world.Hears noted_client_machine A answers h.framing.held c.args.octets.now new.framing.held (playing (client_noting g.F.Shelf.content) c.args.port.now h.stack) (playing (client_noting g.F.Shelf.content) port new.stack) c.args.port.now port sound) c.self.view_is
    (fed_played noted_client answers (client_noting g.F.Shelf.content) A (laws.joins g.F.Shelf.content g.F.Shelf.faults g.F.Shelf.shortages) (Lacks g.F.Shelf.shortages) (Pushes new.stack.upper.end.end × (new.stack.paged ≡ address B)) c.args.octets.now old.framing new.framing old.stack new.stack
    c.args.port.now port new.refusal (client_pages old.stack.paged to) is c.hear.ensures.settings c.hear.result some c.hear.ensures.reads
    c.hear.ensures.refusal (both_ok c.hear.result c.hear.ensures.sound c.hear.ensures.rests (λ works rests. (works, c.hear.ensures.paged ∙ to))) c.hear.ensures.rests))

pub returns-clause-lacked : goal.returns-clause-lacked
returns-clause-lacked g c =
    on_err c.want.result c.want.ensures.wanted
    (λ is. lacked_so noted_client (Answers g.F.Shelf.content g.F.Shelf.faults g.F.Shelf.shortages) (client_noting g.F.Shelf.content) A (Lacks g.F.Shelf.shortages) c.args.octets.now c.self.inside.shell.framing c.hear.new.self.framing c.self.inside.shell.stack c.hear.new.self.stack
    c.args.port.now c.hear.new.port c.hear.result is c.hear.ensures.reads)
