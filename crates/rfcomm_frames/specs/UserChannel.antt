-- What the SDUs on an L2CAP channel of PSM 0x0003 carry and grant on the user channel, as one side reads them that heard
-- and sent them (RFCOMM 1.2, 5.2 and 6.5).
use Rattle.std.specs.Prelude.{ℕ, ℤ, pos, ◌-ℤ◌, List}
use Rattle.rfcomm_frames.specs.declared.connection.Role.{Role}
use Rattle.rfcomm_frames.specs.Multiplexing.{Passed, Framed, frames, no_connections, carried, granted, spent}
use Rattle.rfcomm_frames.specs.Ending.{no_course, to_closing}

-- the frames that count for a side: those up to the one that closes its multiplexer in order
abbrev pub live_frames : ℕ → Role → List Passed → List Framed
live_frames dlci side passed = to_closing dlci side no_course (frames passed)

-- the octets that one of the two sent on the user channel
abbrev pub user_octets : ℕ → (side from : Role) → List Passed → List ℕ
user_octets dlci side from passed = carried dlci from no_connections (live_frames dlci side passed)

-- the credits that a side holds: a whole number, which a side that sends without a credit brings below 0
abbrev pub credits_held : ℕ → Role → List Passed → ℤ
credits_held dlci side passed = pos (granted dlci side no_connections (live_frames dlci side passed)) -ℤ pos (spent dlci side (live_frames dlci side passed))
