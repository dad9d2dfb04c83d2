-- What stands at the front of some octets.
use Rattle.std.specs.Prelude.{ℕ, ◌≡◌, ◌≤◌, ◌<◌, List, length, take}
use Rattle.h4_framing.specs.declared.leading.Leading.{Leading}
use Rattle.h4_framing.specs.declared.leading.Leading.TheVariants.{Whole, Partial, Refused}
use Rattle.h4_framing.specs.Packets.{packet, spelling, IsPacket}
use Rattle.h4_framing.specs.Stream.{IsUnfinished, GoesWrong}

-- a packet is the first n octets, or the octets begin one, or they go wrong at a place
abbrev pub IsLeading : ℕ → List ℕ → Leading → Type 0
IsLeading limit octets (Whole unit n) = IsPacket limit (packet unit) × (0 < n) × (n ≤ length octets) × (take n octets ≡ spelling (packet unit))
IsLeading limit octets Partial = IsUnfinished limit octets
IsLeading limit octets (Refused refusal place) = GoesWrong limit octets refusal place
