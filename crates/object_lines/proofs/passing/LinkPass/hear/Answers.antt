use Rattle.std.proofs.Common.{refl}
use Rattle.link_readers.specs.Lent.{plain_saying, plain_sense, plain_meaning}
use Rattle.object_lines.specs.Passes.{plain_telling}
use Rattle.object_lines.proofs.OnePass.{takes_of, telling_is}
use Rattle.object_lines.proofs.passing.LinkPass.hear.Goals as goal

pub returns : goal.returns
returns c =
    telling_is c.args.party.now (plain_telling c.args.self.now) _ (plain_saying c.args.saying.now) (plain_sense c.sense_in-sense.result) (plain_meaning c.meant-more.result) c.taken_in-taken.result _ c.sense_in-sense.ensures c.meant-more.ensures
    (takes_of c.args.self.now.kept.items c.deref.result.now (plain_saying c.args.saying.now) c.taken_in-taken.result c.deref.ensures.value c.taken_in-taken.ensures.on c.taken_in-taken.ensures.mode) refl c.in_ok-hear_all.ensures.kept
    c.in_ok-hear_all.ensures.told c.in_ok-hear.ensures
