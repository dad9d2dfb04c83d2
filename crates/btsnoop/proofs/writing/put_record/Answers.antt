use Rattle.std.proofs.Common.{[], ◌++◌, length, refl, ap, subst, arith}
use Rattle.byteorder.specs.Endian.{big_bytes}
use Rattle.bt_base.specs.Octets.{be32}
use Rattle.btsnoop.specs.Files.{plain_record, record_octets}
use Rattle.btsnoop.specs.Writing.{Writes}
use Rattle.btsnoop.proofs.Parts.{writes_none, writes_more, six_parts}
use Rattle.btsnoop.proofs.Items.{record_size}
use Rattle.btsnoop.proofs.writing.put_record.Goals as goal

pub put-at-requires : goal.put-at-requires
put-at-requires c = omega (arith, c.requires.room, record_size (plain_record c.args.item.now), ap length c.to_be_bytes.ensures)

pub put-at-requires-2 : goal.put-at-requires-2
put-at-requires-2 c = omega (arith, c.requires.room, record_size (plain_record c.args.item.now), ap length c.to_be_bytes.ensures, ap length c.to_be_bytes-2.ensures, c.put-at.ensures.end, c.put-at.auto.into)

pub put-at-requires-3 : goal.put-at-requires-3
put-at-requires-3 c = omega (arith, c.requires.room, record_size (plain_record c.args.item.now), ap length c.to_be_bytes.ensures, ap length c.to_be_bytes-2.ensures, ap length c.to_be_bytes-3.ensures, c.put-at.ensures.end, c.put-at.auto.into, c.put-at-2.ensures.end, c.put-at-2.auto.into)

pub put-at-requires-4 : goal.put-at-requires-4
put-at-requires-4 c = omega (arith, c.requires.room, record_size (plain_record c.args.item.now), ap length c.to_be_bytes.ensures, ap length c.to_be_bytes-2.ensures, ap length c.to_be_bytes-3.ensures, ap length c.to_be_bytes-4.ensures, c.put-at.ensures.end, c.put-at.auto.into, c.put-at-2.ensures.end, c.put-at-2.auto.into, c.put-at-3.ensures.end, c.put-at-3.auto.into)

pub put-at-requires-5 : goal.put-at-requires-5
put-at-requires-5 c = omega (arith, c.requires.room, record_size (plain_record c.args.item.now), ap length c.to_be_bytes.ensures, ap length c.to_be_bytes-2.ensures, ap length c.to_be_bytes-3.ensures, ap length c.to_be_bytes-4.ensures, ap length c.to_be_bytes-5.ensures, c.put-at.ensures.end, c.put-at.auto.into, c.put-at-2.ensures.end, c.put-at-2.auto.into, c.put-at-3.ensures.end, c.put-at-3.auto.into, c.put-at-4.ensures.end, c.put-at-4.auto.into)

pub put-requires : goal.put-requires
put-requires c = omega (arith, c.requires.room, record_size (plain_record c.args.item.now), ap length c.to_be_bytes.ensures, ap length c.to_be_bytes-2.ensures, ap length c.to_be_bytes-3.ensures, ap length c.to_be_bytes-4.ensures, ap length c.to_be_bytes-5.ensures, c.put-at.ensures.end, c.put-at.auto.into, c.put-at-2.ensures.end, c.put-at-2.auto.into, c.put-at-3.ensures.end, c.put-at-3.auto.into, c.put-at-4.ensures.end, c.put-at-4.auto.into, c.put-at-5.ensures.end, c.put-at-5.auto.into)

pub returns : goal.returns
unfolding record_octets
returns c =
    let origin = c.args.into.now in
    let item = c.args.item.now in
    let a = be32 item.original in
    let b = be32 (length item.octets.now) in
    let d = be32 item.flags in
    let e = be32 item.drops in
    let f = big_bytes 8 item.time in
    let one = writes_more origin origin c.put-at.new.into [] c.to_be_bytes.result a 0 c.put-at.result (writes_none origin) c.put-at.ensures.end c.put-at.ensures.written c.to_be_bytes.ensures in
    let two = writes_more origin c.put-at.new.into c.put-at-2.new.into a c.to_be_bytes-2.result b c.put-at.result c.put-at-2.result one c.put-at-2.ensures.end c.put-at-2.ensures.written c.to_be_bytes-2.ensures in
    let three = writes_more origin c.put-at-2.new.into c.put-at-3.new.into (a ++ b) c.to_be_bytes-3.result d c.put-at-2.result c.put-at-3.result two c.put-at-3.ensures.end c.put-at-3.ensures.written c.to_be_bytes-3.ensures in
    let four = writes_more origin c.put-at-3.new.into c.put-at-4.new.into ((a ++ b) ++ d) c.to_be_bytes-4.result e c.put-at-3.result c.put-at-4.result three c.put-at-4.ensures.end c.put-at-4.ensures.written c.to_be_bytes-4.ensures in
    let five = writes_more origin c.put-at-4.new.into c.put-at-5.new.into (((a ++ b) ++ d) ++ e) c.to_be_bytes-5.result f c.put-at-4.result c.put-at-5.result four c.put-at-5.ensures.end c.put-at-5.ensures.written c.to_be_bytes-5.ensures in
    let six = writes_more origin c.put-at-5.new.into c.put.new.into ((((a ++ b) ++ d) ++ e) ++ f) item.octets.now item.octets.now c.put-at-5.result c.put.result five c.put.ensures.end c.put.ensures.written refl in
    subst (Writes origin c.put.new.into c.put.result) (six_parts a b d e f item.octets.now) six
