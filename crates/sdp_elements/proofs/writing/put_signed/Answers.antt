use Rattle.std.proofs.Common.{◌+◌, ◌*◌, arith}
use Rattle.std.specs.Int.{w128}
use Rattle.byteorder.specs.Endian.{big_bytes, low_bytes}
use Rattle.sdp_elements.specs.Spelling.{width_index}
use Rattle.std.proofs.lemmas.Int.{to_z-of_z}
use Rattle.sdp_elements.proofs.WritingLaws.{number_put}
use Rattle.sdp_elements.proofs.writing.put_signed.Goals as goal

pub returns-clause-written : goal.returns-clause-written
returns-clause-written c =
    number_put (8 * c.type_number.result + c.width_index.result) (16 + width_index c.args.width) c.args.width (1 + c.from.result) c.args.into.now (big_bytes c.args.width (low_bytes w128 c.args.width c.args.number)) c.put_twos_complement.new.into (omega arith) (omega arith) (omega arith)
    (let fits = c.ranges.number in simp (to_z-of_z w128 c.args.number fits) at c.put_twos_complement.ensures)
