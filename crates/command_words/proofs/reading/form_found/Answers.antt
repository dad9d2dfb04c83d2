use Rattle.std.proofs.Common.{rules}
use Rattle.clap.specs.Words.{found_of, rows_of}
use Rattle.command_words.proofs.Finding.{no_word}
use Rattle.command_words.proofs.reading.form_found.Goals as goal

pub returns-in_default : goal.returns-in_default
returns-in_default c = no_word (rows_of (found_of c.args.found.now)) (search rules)
