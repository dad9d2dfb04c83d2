use Rattle.std.proofs.Common.{arith}
use Rattle.h4_view.proofs.Signalling.{parts_none, parts_step, parts_end}
use Rattle.h4_view.proofs.signals.push_parts.Goals as goal

pub loop-word-init : goal.loop-word-init
loop-word-init c = parts_none c.args.text.now.items

pub loop-word-preserved : goal.loop-word-preserved
loop-word-preserved c = parts_step c.args.words.now c.loop-word.word-index _ _ _ _ c.loop-word-test.true c.loop-word.invariant c.to_le_bytes.ensures c.in_ok-push_hex.ensures

pub returns : goal.returns
returns c = parts_end c.args.words.now c.args.rest.now c.loop-word.word-index _ _ _ c.if-is_empty.ensures (omega arith) c.loop-word.invariant c.in_ok-push_hex-2.ensures
