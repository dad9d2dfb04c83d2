-- The table of commands (Core 5.1, Volume 2 Part E, 7.1, 7.3 and 7.4): each command with its number and its
-- parameters. Numbers stand with their low octet first.
use Rattle.std.specs.Prelude.{◌≡◌, ℕ, ◌≤◌, ◌<◌, ◌^◌, List, [], ◌∷◌, ◌++◌, length, Option, Some, None, slice_index, ◌==◌, if◌then◌else◌}
use Rattle.byteorder.specs.Endian.{little_number}
use Rattle.bt_base.specs.Octets.{le16}
use Rattle.bt_base.specs.Numbers.{IsHandle}
use Rattle.hci_packets.specs.declared.command.Command.{Command}
use Rattle.hci_packets.specs.declared.command.Command.TheVariants as lent
use Rattle.hci_packets.specs.declared.refusal.HciRefusal.{HciRefusal}
use Rattle.hci_packets.specs.Refusals.{wrong_length, wrong_handle, wrong_value}

-- a command without where its parameters lie in memory
pub data PlainCommand : Type 0 where
  CreateConnection : (address : List ℕ) (packets repetition reserved clock switch : ℕ) → PlainCommand
  Disconnect : (handle reason : ℕ) → PlainCommand
  AcceptConnection : (address : List ℕ) (role : ℕ) → PlainCommand
  Reset : PlainCommand
  WriteScanEnable : (value : ℕ) → PlainCommand
  ReadBufferSize : PlainCommand
  ReadBdAddr : PlainCommand
  Other : (opcode : ℕ) (params : List ℕ) → PlainCommand

abbrev pub plain_command : Command → PlainCommand
plain_command (lent.CreateConnection address packets repetition reserved clock switch) =
    CreateConnection address packets repetition reserved clock switch
plain_command (lent.Disconnect handle reason) = Disconnect handle reason
plain_command (lent.AcceptConnection address role) = AcceptConnection address role
plain_command lent.Reset = Reset
plain_command (lent.WriteScanEnable value) = WriteScanEnable value
plain_command lent.ReadBufferSize = ReadBufferSize
plain_command lent.ReadBdAddr = ReadBdAddr
plain_command (lent.Other opcode params) = Other opcode params.now

-- the number of a command
abbrev pub opcode_of : PlainCommand → ℕ
opcode_of (CreateConnection address packets repetition reserved clock switch) = 0x0405
opcode_of (Disconnect handle reason) = 0x0406
opcode_of (AcceptConnection address role) = 0x0409
opcode_of Reset = 0x0C03
opcode_of (WriteScanEnable value) = 0x0C1A
opcode_of ReadBufferSize = 0x1005
opcode_of ReadBdAddr = 0x1009
opcode_of (Other opcode params) = opcode

-- the parameters of a command
abbrev pub command_params : PlainCommand → List ℕ
command_params (CreateConnection address packets repetition reserved clock switch) =
    address ++ (le16 packets ++ (repetition ∷ reserved ∷ (le16 clock ++ switch ∷ [])))
command_params (Disconnect handle reason) = le16 handle ++ reason ∷ []
command_params (AcceptConnection address role) = address ++ role ∷ []
command_params Reset = []
command_params (WriteScanEnable value) = value ∷ []
command_params ReadBufferSize = []
command_params ReadBdAddr = []
command_params (Other opcode params) = params

-- how many octets of parameters the row of a number has, where it has a row
abbrev pub command_length : ℕ → Option ℕ
command_length opcode =
    if opcode == 0x0405 then Some 13
    else (if opcode == 0x0406 then Some 3
    else (if opcode == 0x0409 then Some 7
    else (if opcode == 0x0C03 then Some 0
    else (if opcode == 0x0C1A then Some 1
    else (if opcode == 0x1005 then Some 0
    else (if opcode == 0x1009 then Some 0 else None))))))

-- the values that a row allows; another number is one that no row has
abbrev pub AllowsCommand : PlainCommand → Type 0
AllowsCommand (CreateConnection address packets repetition reserved clock switch) = switch ≤ 1
AllowsCommand (AcceptConnection address role) = role ≤ 1
AllowsCommand (WriteScanEnable value) = value ≤ 3
AllowsCommand (Other opcode params) = command_length opcode ≡ None
AllowsCommand _ = Unit {0}

-- each field is a number or an address of its width
abbrev pub FitsCommand : PlainCommand → Type 0
FitsCommand (CreateConnection address packets repetition reserved clock switch) =
    (length address ≡ 6) × (packets < 2 ^ 16) × (clock < 2 ^ 16)
FitsCommand (Disconnect handle reason) = IsHandle handle
FitsCommand (AcceptConnection address role) = length address ≡ 6
FitsCommand _ = Unit {0}

-- a command, and the number and the parameters that stand for it
pub record IsCommand (command : PlainCommand) (opcode : ℕ) (params : List ℕ) : Type 0 where
  pub number : opcode ≡ opcode_of command
  pub octets : params ≡ command_params command
  pub fits : FitsCommand command
  pub allowed : AllowsCommand command

-- what is refused of the parameters of a number
abbrev pub command_refusal : ℕ → List ℕ → Option HciRefusal
command_refusal opcode params =
    if opcode == 0x0405 then wrong_length 13 params (wrong_value 1 (slice_index params 12))
    else (if opcode == 0x0406 then wrong_length 3 params (wrong_handle (little_number 2 params))
    else (if opcode == 0x0409 then wrong_length 7 params (wrong_value 1 (slice_index params 6))
    else (if opcode == 0x0C03 then wrong_length 0 params None
    else (if opcode == 0x0C1A then wrong_length 1 params (wrong_value 3 (slice_index params 0))
    else (if opcode == 0x1005 then wrong_length 0 params None
    else (if opcode == 0x1009 then wrong_length 0 params None else None))))))
