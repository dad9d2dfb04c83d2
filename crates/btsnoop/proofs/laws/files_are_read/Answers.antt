use Rattle.btsnoop.proofs.ReadingLemmas.{file_read, read_file}
use Rattle.btsnoop.proofs.laws.files_are_read.Goals as goal

pub returns : goal.returns
returns c = λ octets items. (file_read octets items, read_file octets items)
