use Rattle.link_readers.specs.Lent.{plain_meaning}
use Rattle.object_lines.proofs.OnePass.{none_made, none_free, one_made}
use Rattle.object_lines.proofs.passing.add.Goals as goal

pub returns-in_default : goal.returns-in_default
returns-in_default c = none_made _ (plain_meaning c.args.more.now) c.in_default.ensures

pub returns-then-is_owned : goal.returns-then-is_owned
returns-then-is_owned c = none_free c.args.kept.now.items c.deref.result.now (plain_meaning c.args.more.now) c.in-Some.channel c.is_owned.result c.in-Some.ensures c.deref.ensures.value c.is_owned.ensures c.if-is_owned.true

pub returns : goal.returns
returns c =
    one_made c.args.kept.now.items c.deref.result.now _ c.new.result (plain_meaning c.args.more.now) c.in-Some.channel c.is_owned.result c.in-Some.ensures c.deref.ensures.value c.is_owned.ensures c.if-is_owned.false
    c.in_ok-push.ensures.items c.new.ensures
