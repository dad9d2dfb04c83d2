use Rattle.std.proofs.Common.{◌+◌, [], ◌∷◌, ◌++◌, length, refl, subst}
use Rattle.hci_packets.specs.Units.{Writes}
use Rattle.hci_packets.proofs.Parts.{writes_more, four_parts}
use Rattle.hci_packets.proofs.unit.put_unit.Goals as goal

pub returns : goal.returns
returns c =
    let origin = c.args.into.now in
    let head = c.args.head.now in
    let first = c.args.first.now in
    let rest = c.args.rest.now in
    let count = (length first + length rest) ∷ [] in
    let one = writes_more origin origin c.put-at.new.into [] head 0 c.put-at.result (refl, refl) c.put-at.ensures.end c.put-at.ensures.written in
    let two = writes_more origin c.put-at.new.into c.put-at-2.new.into head count c.put-at.result c.put-at-2.result one c.put-at-2.ensures.end c.put-at-2.ensures.written in
    let three = writes_more origin c.put-at-2.new.into c.put-at-3.new.into (head ++ count) first c.put-at-2.result c.put-at-3.result two c.put-at-3.ensures.end c.put-at-3.ensures.written in
    let four = writes_more origin c.put-at-3.new.into c.put.new.into ((head ++ count) ++ first) rest c.put-at-3.result c.put.result three c.put.ensures.end c.put.ensures.written in
    subst (Writes origin c.put.new.into c.put.result) (four_parts head (length first + length rest) first rest) four
