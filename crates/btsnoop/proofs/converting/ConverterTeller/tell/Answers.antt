use Rattle.btsnoop.proofs.Telling.{tells_entry}
use Rattle.btsnoop.proofs.converting.ConverterTeller.tell.Goals as goal

pub returns-then-branch : goal.returns-then-branch
returns-then-branch c =
    let first = c.in-Whole.ensures in
    tells_entry c.args.self.now c.read_entry.new.converter c.args.octets.now _ _ c.in-Whole.payload.now first.0 c.in-Whole.tag first.1 first.2 (rw c.if-branch.true at c.in_ok-read_entry-in-Whole.ensures)
