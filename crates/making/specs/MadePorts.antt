-- The ports over which the scenario of a number is run (this project's own).
use Rattle.std.specs.Prelude.{ℕ, ◌≡◌, [], None, Ok}
use Rattle.ready_ports.specs.Memory.{no_calls}
use Rattle.push_script.specs.Made.{made_script, made_objects, put_first}
use Rattle.push_script.specs.Reading.{reading}
use Rattle.making.specs.declared.memory_ports.MemoryPorts.{MemoryPorts}

-- The source has a text that is read as the scenario of that number, nothing is reported yet, the objects of the number lie on the shelf,
-- and the inbox is empty. No port was called yet, and no call of one is to fail.
pub record AreMade (number : ℕ) (ports : MemoryPorts) : Type 0 where
  pub text : reading ports.source ≡ Ok (made_script number)
  pub report : ports.report.text.items ≡ []
  pub report_short : ports.report.shortages ≡ 0
  pub shelf : ports.shelf ≡ record { objects = put_first (made_objects number) []; calls = no_calls []; absences = 0 }
  pub inbox : ports.inbox ≡ record { contents = record { stored = []; pending = None }; calls = no_calls [] }
