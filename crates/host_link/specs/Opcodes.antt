-- The numbers of the commands that a host sends (Core 5.1, Volume 2 Part E, 7.1, 7.3 and 7.4).
use Rattle.std.specs.Prelude.{ℕ, ◌≢◌}
use Rattle.host_link.specs.declared.opcode.Opcode.{Opcode}
use Rattle.host_link.specs.declared.opcode.Opcode.TheVariants.{CreateConnection, Disconnect, AcceptConnection, Reset, WriteScanEnable, ReadBufferSize, ReadBdAddr}

abbrev pub number_of : Opcode → ℕ
number_of CreateConnection = 0x0405
number_of Disconnect = 0x0406
number_of AcceptConnection = 0x0409
number_of Reset = 0x0C03
number_of WriteScanEnable = 0x0C1A
number_of ReadBufferSize = 0x1005
number_of ReadBdAddr = 0x1009

abbrev pub IsNoOpcode : ℕ → Type 0
IsNoOpcode number =
    (number ≢ 0x0405) × (number ≢ 0x0406) × (number ≢ 0x0409) × (number ≢ 0x0C03) × (number ≢ 0x0C1A) × (number ≢ 0x1005) × (number ≢ 0x1009)
