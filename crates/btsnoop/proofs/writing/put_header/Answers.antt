use Rattle.std.proofs.Common.{[], ◌++◌, length, ap, subst, arith}
use Rattle.byteorder.specs.Endian.{big_bytes}
use Rattle.bt_base.specs.Octets.{be32}
use Rattle.btsnoop.specs.Files.{identification, version, uart_datalink, file_header}
use Rattle.btsnoop.specs.Writing.{Writes}
use Rattle.btsnoop.proofs.Parts.{writes_none, writes_more, three_parts}
use Rattle.btsnoop.proofs.Items.{header_size}
use Rattle.btsnoop.proofs.writing.put_header.Goals as goal

pub put-at-requires : goal.put-at-requires
put-at-requires c = omega (arith, c.requires, header_size, ap length c.to_be_bytes.ensures)

pub put-at-requires-2 : goal.put-at-requires-2
put-at-requires-2 c = omega (arith, c.requires, header_size, ap length c.to_be_bytes.ensures, ap length c.to_be_bytes-2.ensures, c.put-at.ensures.end, c.put-at.auto.into)

pub put-requires : goal.put-requires
put-requires c =
    omega (arith, c.requires, header_size, ap length c.to_be_bytes.ensures, ap length c.to_be_bytes-2.ensures, ap length c.to_be_bytes-3.ensures, c.put-at.ensures.end, c.put-at.auto.into, c.put-at-2.ensures.end, c.put-at-2.auto.into)

pub returns : goal.returns
unfolding file_header
returns c =
    let origin = c.args.into.now in
    let a = big_bytes 8 identification in
    let b = be32 version in
    let d = be32 uart_datalink in
    let one = writes_more origin origin c.put-at.new.into [] c.to_be_bytes.result a 0 c.put-at.result (writes_none origin) c.put-at.ensures.end c.put-at.ensures.written c.to_be_bytes.ensures in
    let two = writes_more origin c.put-at.new.into c.put-at-2.new.into a c.to_be_bytes-2.result b c.put-at.result c.put-at-2.result one c.put-at-2.ensures.end c.put-at-2.ensures.written c.to_be_bytes-2.ensures in
    let three = writes_more origin c.put-at-2.new.into c.put.new.into (a ++ b) c.to_be_bytes-3.result d c.put-at-2.result c.put.result two c.put.ensures.end c.put.ensures.written c.to_be_bytes-3.ensures in
    subst (Writes origin c.put.new.into c.put.result) (three_parts a b d) three
