use Rattle.l2cap_signal.proofs.Pieces.{parts_are}
use Rattle.l2cap_signal.proofs.writing.put_parts.Goals as goal

pub returns-clause-octets : goal.returns-clause-octets
returns-clause-octets c = parts_are c.args.words.now c.args.rest.now c.args.at c.put_words-behind.result c.args.into.now c.put_words-behind.new.into c.put_octets.new.into c.requires c.put_words-behind.ensures.end c.put_words-behind.ensures.octets c.put_octets.ensures.octets
