use Rattle.std.proofs.Common.{arith}
use Rattle.l2cap_signal.proofs.Pieces.{words_step}
use Rattle.l2cap_signal.proofs.writing.put_words.Goals as goal

pub loop-word-preserved : goal.loop-word-preserved
loop-word-preserved c =
    let i = c.loop-word.word-index in
    (omega arith, words_step c.args.words.now i c.args.at c.loop-word.end c.args.into.now c.loop-word.into c.put_octets-end.new.into c.to_le_bytes.result c.loop-word-test.true c.requires c.loop-word.invariant.0 c.loop-word.invariant.1 c.to_le_bytes.ensures c.put_octets-end.ensures.octets)
