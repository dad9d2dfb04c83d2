-- The two tables read both ways.
use Rattle.std.specs.Prelude.{◌≡◌, ℕ, List, None}
use Rattle.hci_packets.specs.Commands.{PlainCommand, IsCommand, command_refusal}
use Rattle.hci_packets.specs.Events.{PlainEvent, IsEvent, event_refusal}

-- a number and parameters stand for at most one command
abbrev pub OneCommand : Type 0
OneCommand = (first second : PlainCommand) (opcode : ℕ) (params : List ℕ) → IsCommand first opcode params → IsCommand second opcode params → first ≡ second

-- what stands for a command is not refused
abbrev pub AcceptsCommands : Type 0
AcceptsCommands = (command : PlainCommand) (opcode : ℕ) (params : List ℕ) → IsCommand command opcode params → command_refusal opcode params ≡ None

-- a code and parameters stand for at most one event
abbrev pub OneEvent : Type 0
OneEvent = (first second : PlainEvent) (code : ℕ) (params : List ℕ) → IsEvent first code params → IsEvent second code params → first ≡ second

-- what stands for an event is not refused
abbrev pub AcceptsEvents : Type 0
AcceptsEvents = (event : PlainEvent) (code : ℕ) (params : List ℕ) → IsEvent event code params → event_refusal code params ≡ None
