-- The OBEX packets on a stream of octets (IrOBEX 1.5, 2.2: octets 1 and 2 state the length of the whole packet).
use Rattle.std.specs.Prelude.{ℕ, zero, suc, ◌+◌, ◌*◌, ◌≡◌, ◌<◌, ◌≤◌, ◌⊎◌, nat_lt, ◌||◌, List, [], ◌∷◌, ◌++◌, length, take, drop, slice_index, if◌then◌else◌}
use Rattle.std.specs.List.{flat_map, AllByRecursion}

-- the length that octets state
abbrev pub stated_size : List ℕ → ℕ
stated_size octets = 256 * slice_index octets 1 + slice_index octets 2

-- octets that are one packet by their length
abbrev pub IsPacket : List ℕ → Type 0
IsPacket octets = (3 ≤ length octets) × (stated_size octets ≡ length octets)

-- no packet is whole at the front: its length is not there, or is below 3, or there are fewer octets
abbrev pub HasNoPacket : List ℕ → Type 0
HasNoPacket octets = (length octets < 3) ⊎ (stated_size octets < 3) ⊎ (length octets < stated_size octets)

-- a stream is these packets, one behind the other, and then octets with no whole packet at their front
pub record AreObexPackets (stream : List ℕ) (packets : List (List ℕ)) : Type 0 where
  pub rest : List ℕ
  pub whole : stream ≡ flat_map (λ packet. packet) packets ++ rest
  pub each : AllByRecursion IsPacket packets
  pub no_more : HasNoPacket rest

-- the same as a function, in so many steps at most
unfoldable pub packets_within : ℕ → List ℕ → List (List ℕ)
packets_within zero stream = []
packets_within (suc steps) stream =
    if nat_lt (length stream) 3 || (nat_lt (stated_size stream) 3 || nat_lt (length stream) (stated_size stream)) then [] else
    take (stated_size stream) stream ∷ packets_within steps (drop (stated_size stream) stream)

unfoldable pub obex_packets : List ℕ → List (List ℕ)
obex_packets stream = packets_within (length stream) stream

-- the function gives them, and no other list of packets does
abbrev pub ObexPacketsAreRight : Type 0
ObexPacketsAreRight = (stream : List ℕ) → AreObexPackets stream (obex_packets stream)

abbrev pub ObexPacketsAreOne : Type 0
ObexPacketsAreOne = (stream : List ℕ) (packets : List (List ℕ)) → AreObexPackets stream packets → packets ≡ obex_packets stream
