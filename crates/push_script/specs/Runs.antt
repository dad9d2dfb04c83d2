-- The runs of words of a radio script (this project's own).
use Rattle.std.specs.Prelude.{ℕ, ◌≡◌, ◌≤◌, ◌<◌, ◌^◌, Bool, true, false, Option, Some}
use Rattle.bt_base.specs.declared.settings.Transport.{Transport}
use Rattle.bt_base.specs.declared.settings.Transport.TheVariants as transports
use Rattle.push_terms.specs.declared.word.Word.{Word}
use Rattle.push_terms.specs.Words.{IsWord}
use Rattle.push_terms.specs.declared.word.Word.TheVariants.{Pass, Lose, Repeat, Damage, Cut, Timer, Drop, Cancel}

-- a word stands 1 to 4,294,967,295 times
abbrev pub IsRun : ℕ × Word → Type 0
IsRun (count, word) = (1 ≤ count) × (count < 2 ^ 32) × IsWord word

-- the word loses a frame, changes it, or delivers it twice
abbrev pub is_lossy : Word → Bool
is_lossy (Lose way) = true
is_lossy (Repeat way) = true
is_lossy (Damage way at mask) = true
is_lossy (Cut way packets) = true
is_lossy Pass = false
is_lossy (Timer side) = false
is_lossy Drop = false
is_lossy Cancel = false

-- RFCOMM does not recover from a frame that is lost, changed or repeated, so no such word stands over it
abbrev pub IsBorne : Option Transport → ℕ × Word → Type 0
IsBorne (Some transports.Rfcomm) run = is_lossy run.1 ≡ false
IsBorne _ run = Unit {0}
