-- Packets and streams read both ways.
use Rattle.std.specs.Prelude.{ℕ, ◌≡◌, ◌≢◌, ◌≤◌, List, [], ◌∷◌, length, Ok}
use Rattle.wire_packets.specs.declared.stepping.Place.TheVariants.{Outside, Inside}
use Rattle.wire_packets.specs.declared.slip.SlipTaken.{SlipTaken}
use Rattle.wire_packets.specs.Packets.{Packet, spelling, IsPacket}
use Rattle.wire_packets.specs.Answers.{Answer, IsAnswer}
use Rattle.wire_packets.specs.Slip.{Found, Reads, slip, longest}
use Rattle.wire_packets.specs.Stepping.{Slipping, standing, after, found, TakesAll, all_used, all_given}

-- octets have one answer: one packet that they spell, or one refusal
abbrev pub OneAnswer : Type 0
OneAnswer = (octets : List ℕ) (first second : Answer) → IsAnswer octets first → IsAnswer octets second → first ≡ second

-- a packet that was written is the one that is read
abbrev pub WrittenIsRead : Type 0
WrittenIsRead = (packet : Packet) (given : Answer) → IsPacket packet → IsAnswer (spelling packet) given → given ≡ Ok packet

-- a packet on the line is found again, by a decoder that waits for one
abbrev pub SlipIsFound : Type 0
SlipIsFound = (octets : List ℕ) → octets ≢ [] → length octets ≤ longest
    → (found (standing Outside []) (slip octets) ≡ Ok octets ∷ []) × (after (standing Outside []) (slip octets) ≡ standing Inside [])
    × (found (standing Inside []) (slip octets) ≡ Ok octets ∷ []) × (after (standing Inside []) (slip octets) ≡ standing Inside [])

-- a decoder finds what the stream reads as, and nothing else
abbrev pub FindsWhatReads : Type 0
FindsWhatReads = (stream : List ℕ) (what : List Found) → Reads stream what → found (standing Outside []) stream ≡ what

-- however a stream is cut into pieces, a decoder gives what it finds in the whole
abbrev pub AnyPiecesGive : Type 0
AnyPiecesGive = (old new : Slipping) (calls : List (List ℕ × SlipTaken)) → TakesAll old calls new → (all_given calls ≡ found old (all_used calls)) × (new ≡ after old (all_used calls))
