use Rattle.std.proofs.Common.{cond}
use Rattle.obex_session.proofs.WritingLaws.{object_started}
use Rattle.obex_session.proofs.put_writing.start_object.Goals as goal

pub returns-clause-written : goal.returns-clause-written
returns-clause-written c =
    object_started c.args.wanted (cond c.args.is_final 0x82 0x02) c.args.size c.start_put-bare.result c.add_name-named.result c.add_length-sized.result c.add_wish.result c.args.text.now c.args.into.now _ _ _ _
    c.start_put-bare.ensures.len c.start_put-bare.ensures.written c.add_name-named.ensures.len c.add_name-named.ensures.written c.add_length-sized.ensures.len c.add_length-sized.ensures.written c.add_wish.ensures.len c.add_wish.ensures.written
