-- The small numbers of the standard, by their ranges.
use Rattle.std.specs.Prelude.{ℕ, ◌≡◌, ◌≤◌, ◌⊎◌, bit_and}

-- a connection handle (Core 5.1, Volume 2 Part E, 5.4.2): the values above 0EFF are reserved
abbrev pub IsHandle : ℕ → Type 0
IsHandle n = n ≤ 0x0EFF

-- a channel identifier that names a channel (Volume 3 Part A, 2.1): signalling, or one given to a channel
abbrev pub IsCid : ℕ → Type 0
IsCid n = (n ≡ 0x0001) ⊎ (0x0040 ≤ n)

-- a protocol and service multiplexer (Volume 3 Part A, 4.2): the lowest octet is odd, the lowest bit of the
-- other octet is clear
abbrev pub IsPsm : ℕ → Type 0
IsPsm n = bit_and n 0x0101 ≡ 0x0001

-- a data link connection identifier of RFCOMM (RFCOMM 1.2, 5.4): the control channel, or a user channel
abbrev pub IsDlci : ℕ → Type 0
IsDlci n = (n ≡ 0) ⊎ ((2 ≤ n) × (n ≤ 61))
