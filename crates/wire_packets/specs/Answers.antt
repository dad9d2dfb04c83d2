-- What octets are answered: the packet that they spell, or why they spell none.
use Rattle.std.specs.Prelude.{ℕ, ◌+◌, ◌*◌, ◌/◌, ◌%◌, ◌<◌, ◌≤◌, ◌≡◌, ◌≢◌, List, length, slice_index, Result, Ok, Err}
use Rattle.wire_packets.specs.declared.packet.WirePacket.{WirePacket}
use Rattle.wire_packets.specs.declared.refusal.WireRefusal.{WireRefusal}
use Rattle.wire_packets.specs.declared.refusal.WireRefusal.TheVariants.{Short, BadEscape, BadChecksum, Checked, BadLength, BadKind}
use Rattle.wire_packets.specs.Packets.{Packet, plain, spelling, IsKind, IsPacket}

abbrev pub Answer : Type 0
Answer = Result Packet WireRefusal

-- what code returns, apart from where its payload lies in memory
abbrev pub answer : Result WirePacket WireRefusal → Answer
answer (Ok packet) = Ok (plain packet)
answer (Err refusal) = Err refusal

-- the four octets of a header add up to FF, modulo 256 (4.7)
abbrev pub AddsUp : List ℕ → Type 0
AddsUp octets = (slice_index octets 0 + slice_index octets 1 + slice_index octets 2 + slice_index octets 3) % 256 ≡ 255

-- bit 6 of the first octet: a data integrity check is present (4.3)
abbrev pub check_bit : List ℕ → ℕ
check_bit octets = slice_index octets 0 / 0x40 % 2

-- the length that a header states (4.6), and the type (4.5)
abbrev pub stated_length : List ℕ → ℕ
stated_length octets = slice_index octets 1 / 0x10 + 0x10 * slice_index octets 2

abbrev pub stated_kind : List ℕ → ℕ
stated_kind octets = slice_index octets 1 % 0x10

-- why octets are refused, in this order: they have no whole header; its sum is wrong; they have a check; the
-- payload is not as long as stated; the type is not spoken
abbrev pub Refuses : List ℕ → WireRefusal → Type 0
Refuses octets Short = length octets < 4
Refuses octets BadEscape = ⊥
Refuses octets BadChecksum = (4 ≤ length octets) × (AddsUp octets → ⊥)
Refuses octets Checked = (4 ≤ length octets) × AddsUp octets × (check_bit octets ≡ 1)
Refuses octets BadLength = (4 ≤ length octets) × AddsUp octets × (check_bit octets ≡ 0) × (4 + stated_length octets ≢ length octets)
Refuses octets BadKind = (4 ≤ length octets) × AddsUp octets × (check_bit octets ≡ 0) × (4 + stated_length octets ≡ length octets) × (IsKind (stated_kind octets) → ⊥)

-- the answer is the packet that the octets spell, or why they are refused
abbrev pub IsAnswer : List ℕ → Answer → Type 0
IsAnswer octets (Ok packet) = IsPacket packet × (octets ≡ spelling packet)
IsAnswer octets (Err refusal) = Refuses octets refusal
