-- The commands that come out of a payload (Core 5.1, Volume 3 Part A, 4).
use Rattle.std.specs.Prelude.{◌≤◌, length, Ok, Err}
use Rattle.l2cap_signal.specs.Commands.{rest_of}
use Rattle.l2cap_signal.specs.Reading.{Answer}

-- the identifier of a command that was read is not 0, and at most 668 octets follow its numbers
abbrev pub IsUsable : Answer → Type 0
IsUsable (Ok command) = (1 ≤ command.identifier) × (length (rest_of command.content) ≤ 668)
IsUsable (Err refusal) = Unit {0}
