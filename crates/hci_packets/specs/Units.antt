-- Whole H4 units of commands and events (Core 5.1, Volume 4 Part A, 2, and Volume 2 Part E, 5.4.1 and 5.4.4).
use Rattle.std.specs.Prelude.{◌≡◌, ℕ, List, ◌∷◌, ◌++◌, length, drop}
use Rattle.bt_base.specs.Octets.{le16}
use Rattle.hci_packets.specs.Commands.{PlainCommand, opcode_of, command_params}
use Rattle.hci_packets.specs.Events.{PlainEvent, code_of, event_params}

-- the indicator of a command, its number, the length of its parameters, its parameters
abbrev pub command_unit : PlainCommand → List ℕ
command_unit command = 0x01 ∷ (le16 (opcode_of command) ++ (length (command_params command) ∷ command_params command))

-- the indicator of an event, its code, the length of its parameters, its parameters
abbrev pub event_unit : PlainEvent → List ℕ
event_unit event = 0x04 ∷ code_of event ∷ length (event_params event) ∷ event_params event

-- these octets stand at the front of what was old, the rest is as it was, and `count` says how many they are
abbrev pub Writes : List ℕ → List ℕ → ℕ → List ℕ → Type 0
Writes old new count octets = (count ≡ length octets) × (new ≡ octets ++ drop (length octets) old)
