use Rattle.obex_headers.proofs.WritingLaws.{front_put}
use Rattle.obex_headers.proofs.writing.put_front.Goals as goal

pub returns-clause-written : goal.returns-clause-written
returns-clause-written c = front_put c.args.into.now c.write_u16.new.buf c.args.at c.args.n c.args.id c.requires.room c.write_u16.ensures
