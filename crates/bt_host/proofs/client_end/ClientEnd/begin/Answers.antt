use Rattle.std.proofs.Common.{rules}
use Rattle.bt_host.specs.PushingLaws.{joins}
use Rattle.bt_host.proofs.ClientsBeginning.{calls_none}
use Rattle.bt_host.proofs.ClientsCalls.{begun_does}
use Rattle.bt_host.proofs.client_end.ClientEnd.begin.Goals as goal

pub returns-then-not-idle-clause-does : goal.returns-then-not-idle-clause-does
returns-then-not-idle-clause-does g c =
    begun_does g.F.Shelf.content g.F.Shelf.faults g.F.Shelf.shortages _ c.args.self.now c.call.new.self c.begin.new.self c.end.new.self c.args.name.now c.args.shelf.now c.begin.new.shelf c.call.new.shelf
    c.requires.few c.self.view_is c.requires.sound c.begin.ensures.begins (search rules) c.begin.ensures.content c.end.ensures c.call.ensures.is c.call.ensures.answers

pub returns-else-not-idle-clause-does : goal.returns-else-not-idle-clause-does
returns-else-not-idle-clause-does g c =
    begun_does g.F.Shelf.content g.F.Shelf.faults g.F.Shelf.shortages _ c.args.self.now _ c.begin.new.self c.end.new.self c.args.name.now c.args.shelf.now c.begin.new.shelf c.begin.new.shelf
    c.requires.few c.self.view_is c.requires.sound c.begin.ensures.begins (search rules) c.begin.ensures.content c.end.ensures (calls_none _ (search rules)) ((joins g.F.Shelf.content g.F.Shelf.faults g.F.Shelf.shortages).none c.begin.new.shelf)
