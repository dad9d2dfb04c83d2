-- What a stream of packets is, where it breaks off, and where it stops being one. These definitions speak
-- of whole lists of octets, and know nothing of the pieces in which they come.
use Rattle.std.specs.Prelude.{ℕ, ◌≡◌, ◌≢◌, ◌+◌, ◌<◌, ◌≤◌, ◌^◌, List, [], ◌∷◌, ◌++◌, length, take}
use Rattle.std.specs.List.{AllByRecursion}
use Rattle.bt_base.specs.Octets.{le16}
use Rattle.h4_framing.specs.declared.refusal.H4Refusal.{H4Refusal}
use Rattle.h4_framing.specs.declared.refusal.H4Refusal.TheVariants.{BadIndicator, AclTooLong, Truncated}
use Rattle.h4_framing.specs.Packets.{Packet, spelling, spellings, IsPacket}

-- a packet begins with one of four indicators (Core 5.1, Volume 4 Part A, 2)
abbrev pub IsIndicator : ℕ → Type 0
IsIndicator octet = (1 ≤ octet) × (octet ≤ 4)

-- The octets are the beginning of a list of packets.
abbrev pub Begins : ℕ → List ℕ → Type 0
Begins limit octets = (packets : List Packet) × (more : List ℕ) × AllByRecursion (IsPacket limit) packets × (octets ++ more ≡ spellings packets)

-- The octets are the beginning of that packet and not the whole of it.
abbrev pub IsFrontOf : ℕ → List ℕ → Packet → Type 0
IsFrontOf limit octets packet = (more : List ℕ) × IsPacket limit packet × (more ≢ []) × (octets ++ more ≡ spelling packet)

-- The octets are the beginning of one packet and not the whole of it.
abbrev pub IsUnfinished : ℕ → List ℕ → Type 0
IsUnfinished limit octets = (packet : Packet) × IsFrontOf limit octets packet

-- A packet that the octets begin may have as few as n octets, and none has fewer.
pub record IsLeastLength (limit : ℕ) (octets : List ℕ) (n : ℕ) : Type 0 where
  pub some : (packet : Packet) × IsFrontOf limit octets packet × (n ≡ length (spelling packet))
  pub none_shorter : (packet : Packet) → IsFrontOf limit octets packet → n ≤ length (spelling packet)

-- Octets that stand where a packet should begin go wrong at a place: the first is no indicator, or the high
-- octet of an ACL length puts it above the limit.
abbrev pub GoesWrong : ℕ → List ℕ → H4Refusal → ℕ → Type 0
GoesWrong limit octets BadIndicator place = (first : ℕ) × (more : List ℕ) × (octets ≡ first ∷ more) × (IsIndicator first → ⊥) × (place ≡ 0)
GoesWrong limit octets AclTooLong place = (word size : ℕ) × (more : List ℕ) × (octets ≡ 2 ∷ (le16 word ++ le16 size ++ more)) × (size < 2 ^ 16) × (limit < size) × (place ≡ 4)
GoesWrong limit octets Truncated place = ⊥

-- How a stream ends: behind its last packet, within a packet, or at a place from which it is no stream of packets.
pub data Ending : Type 0 where
  Whole : Ending
  Cut : Ending
  Fault : (refusal : H4Refusal) (place : ℕ) → Ending

-- what stands behind the last whole packet, which ends at `from`
abbrev pub Ends : ℕ → List ℕ → ℕ → Ending → Type 0
Ends limit rest from Whole = rest ≡ []
Ends limit rest from Cut = (rest ≢ []) × IsUnfinished limit rest
Ends limit rest from (Fault refusal place) = (n : ℕ) × GoesWrong limit rest refusal n × (place ≡ from + n)

-- The stream is these packets, and then ends so.
pub record Reads (limit : ℕ) (stream : List ℕ) (packets : List Packet) (ending : Ending) : Type 0 where
  pub each : AllByRecursion (IsPacket limit) packets
  pub rest : List ℕ
  pub whole : stream ≡ spellings packets ++ rest
  pub ends : Ends limit rest (length (spellings packets)) ending

-- The place of the first octet that no list of packets can have there: the octets before it begin one, those
-- up to and with it do not.
pub record IsFaultPlace (limit : ℕ) (stream : List ℕ) (place : ℕ) : Type 0 where
  pub within : place < length stream
  pub before : Begins limit (take place stream)
  pub there : Begins limit (take (place + 1) stream) → ⊥
