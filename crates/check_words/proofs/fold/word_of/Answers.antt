use Rattle.std.proofs.Common.{rules}
use Rattle.check_words.proofs.Words.{word_read}
use Rattle.check_words.proofs.fold.word_of.Goals as goal

pub returns : goal.returns
returns c = word_read c.args.octets.now c.from_le_bytes.result c.requires (search rules) c.from_le_bytes.ensures
