use Rattle.std.proofs.Common.{◌≡◌, ◌+◌, ◌*◌, take}
use Rattle.std.specs.List.{flat_map}
use Rattle.bt_base.specs.Octets.{le16}
use Rattle.l2cap_signal.specs.Writing.{overwritten}
use Rattle.l2cap_signal.proofs.writing.put_words.Given as goal

abbrev pub invariant-loop-word : goal.invariant-loop-word
invariant-loop-word l = (l.end ≡ l.at + 2 * l.word-index) × (l.into ≡ overwritten l.at (flat_map le16 (take l.word-index l.words)) l.fn.into)
