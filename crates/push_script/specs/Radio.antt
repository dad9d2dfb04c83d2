-- The lines of a radio script (this project's own).
use Rattle.std.specs.Prelude.{ℕ, cond, ◌==◌, nat_lt, List, codes, Option, Some, None, Result, Ok, Err}
use Rattle.std.specs.Str.{bytes_eq}
use Rattle.bt_base.specs.declared.settings.Transport.{Transport}
use Rattle.bt_base.specs.declared.settings.Transport.TheVariants as transports
use Rattle.push_script.specs.declared.refusal.ScriptRefusal.{ScriptRefusal}
use Rattle.push_script.specs.declared.refusal.ScriptRefusal.TheVariants.{BadLine, OutOfRange, LossyRfcomm}
use Rattle.push_terms.specs.declared.word.Word.{Word}
use Rattle.script_words.specs.Parts.{first_word, rest_of, number_of}
use Rattle.script_words.specs.Words.{said_of, word_within}
use Rattle.push_script.specs.Runs.{is_lossy}
use Rattle.push_script.specs.Keys.{◌>>=◌, or_refusal}

-- a word stands 1 to 4,294,967,295 times
abbrev pub count_within : ℕ → Result ℕ ScriptRefusal
count_within count = cond (count == 0) (Err OutOfRange) (cond (nat_lt 4294967295 count) (Err OutOfRange) (Ok count))

-- RFCOMM does not recover from a loss, a change or a repetition
abbrev pub lossless : Option Transport → Word → Result (Unit {0}) ScriptRefusal
lossless (Some transports.Rfcomm) word = cond (is_lossy word) (Err LossyRfcomm) (Ok tt)
lossless _ word = Ok tt

-- The run that a line says: its shape is judged first, then the ranges, and last whether the transport bears the word.
unfoldable pub run_of : Option Transport → List ℕ → Result (ℕ × Word) ScriptRefusal
run_of transport line = do
  text ← or_refusal BadLine (rest_of line)
  count ← or_refusal BadLine (number_of (first_word line))
  said ← or_refusal BadLine (said_of text)
  count ← count_within count
  word ← or_refusal OutOfRange (word_within said)
  whole ← lossless transport word
  Ok (count, word)
