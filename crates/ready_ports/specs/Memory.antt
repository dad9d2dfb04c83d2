-- The ports over memory: which of their calls fail (this project's own).
use Rattle.std.specs.Prelude.{ℕ, Bool, false, cond, nat_le, List, length, ◌==◌, Option, Some, None, Result, Ok, Err, ok_or, min}
use Rattle.std.specs.List.{list_any}
use Rattle.std.specs.Option.{option_map}
use Rattle.bt_base.specs.Counts.{counted}
use Rattle.bt_base.specs.Objects.{Object, Contents, octets_of, reaches}
use Rattle.bt_base.specs.declared.ports.PortFault.{PortFault}
use Rattle.bt_base.specs.declared.ports.PortFault.TheVariants.{Failed}

-- The calls of a port over memory: the numbers, from 1, of those that are to fail, how many were made, and how
-- often the port has failed and has found no memory.
pub record Calls : Type 0 where
  pub failing : List ℕ
  pub made : ℕ
  pub faults : ℕ
  pub shortages : ℕ

-- the calls of a new port
abbrev pub no_calls : List ℕ → Calls
no_calls failing = record { failing = failing; made = 0; faults = 0; shortages = 0 }

-- the next call is one of those that are to fail
abbrev pub is_next_failing : Calls → Bool
is_next_failing calls = list_any (λ number. number == counted calls.made) calls.failing

-- one more fault, and one more shortage
abbrev pub failed : Calls → Calls
failed calls = record calls { faults = counted calls.faults }

abbrev pub short : Calls → Calls
short calls = record calls { shortages = counted calls.shortages }

-- one more call, which fails where it is to
abbrev pub called : Calls → Calls
called calls = cond (is_next_failing calls) (failed (record calls { made = counted calls.made })) (record calls { made = counted calls.made })

-- a source over memory: what is left to read, at most how many octets a call hands out, and its calls
pub record MemoryToRead : Type 0 where
  pub left : List ℕ
  pub step : ℕ
  pub calls : Calls

-- what a source over memory answers a read into a slice of that length
abbrev pub read_answer : MemoryToRead → ℕ → Result ℕ PortFault
read_answer source room = cond (is_next_failing source.calls) (Err Failed) (Ok (min room (min source.step (length source.left))))

-- a sink over memory: what was written, and its calls
pub record MemoryWritten : Type 0 where
  pub written : List ℕ
  pub calls : Calls

-- a shelf over memory: its objects, its calls, and how often it was asked for what it does not have
pub record MemoryShelved : Type 0 where
  pub objects : List Object
  pub calls : Calls
  pub absences : ℕ

-- what a shelf over memory answers where it is asked for an object's size, and for its octets before a place
abbrev pub size_answer : MemoryShelved → List ℕ → Result ℕ PortFault
size_answer shelf name = cond (is_next_failing shelf.calls) (Err Failed) (ok_or (option_map length (octets_of name shelf.objects)) Failed)

abbrev pub fill_answer : MemoryShelved → List ℕ → ℕ → Result (Unit {0}) PortFault
fill_answer shelf name end = cond (is_next_failing shelf.calls) (Err Failed) (cond (reaches end (octets_of name shelf.objects)) (Ok tt) (Err Failed))

-- an inbox over memory: what it holds, and its calls
pub record MemoryStored : Type 0 where
  pub contents : Contents
  pub calls : Calls
