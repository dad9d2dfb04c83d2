-- The SLIP layer (Core 5.1, Volume 4 Part D, section 3): how packets stand in a stream of octets. These
-- definitions speak of whole streams, and know nothing of the pieces in which they come.
use Rattle.std.specs.Prelude.{ℕ, ◌+◌, ◌≡◌, ◌≢◌, ◌≤◌, ◌⊎◌, ◌==◌, List, [], ◌∷◌, ◌++◌, length, Result, Ok, Err, if◌then◌else◌}
use Rattle.std.specs.List.{flat_map, AllByRecursion}
use Rattle.wire_packets.specs.declared.refusal.WireRefusal.{WireRefusal}
use Rattle.wire_packets.specs.declared.refusal.WireRefusal.TheVariants.{BadEscape, BadLength}

-- the octet that delimits packets, and the one that begins an escape (3.1)
abbrev pub delimiter : ℕ
delimiter = 0xC0

abbrev pub escape : ℕ
escape = 0xDB

-- an octet of a packet as it stands on the line: C0 is written DB DC, and DB is written DB DD
abbrev pub escaped : ℕ → List ℕ
escaped octet = if octet == 0xC0 then 0xDB ∷ 0xDC ∷ [] else if octet == 0xDB then 0xDB ∷ 0xDD ∷ [] else octet ∷ []

abbrev pub all_escaped : List ℕ → List ℕ
all_escaped octets = flat_map escaped octets

-- a packet on the line stands between two delimiters
abbrev pub slip : List ℕ → List ℕ
slip octets = delimiter ∷ (all_escaped octets ++ delimiter ∷ [])

-- the greatest length of a packet: its header and 4,095 octets
abbrev pub longest : ℕ
longest = 4099

-- what was found between two delimiters: the octets of a packet, or why there is none
abbrev pub Found : Type 0
Found = Result (List ℕ) WireRefusal

-- none of the octets is a delimiter
abbrev pub IsPart : List ℕ → Type 0
IsPart octets = AllByRecursion (λ octet. octet ≢ delimiter) octets

-- what stands behind an escape that stands for nothing: the part ends there, or with an octet that is neither DC
-- nor DD
abbrev pub IsWrongEscape : List ℕ → Type 0
IsWrongEscape [] = Unit {0}
IsWrongEscape (octet ∷ rest) = (octet ≢ 0xDC) × (octet ≢ 0xDD)

-- What stands between two delimiters reads so: nothing is passed over; a packet of at most so many octets; or the
-- first fault, which is an escape that stands for nothing, or one octet too many.
abbrev pub ReadsPart : List ℕ → List Found → Type 0
ReadsPart part [] = part ≡ []
ReadsPart part (Ok octets ∷ []) = (octets ≢ []) × (length octets ≤ longest) × (part ≡ all_escaped octets)
ReadsPart part (Err BadEscape ∷ []) = (front rest : List ℕ) × (length front ≤ longest) × (part ≡ all_escaped front ++ escape ∷ rest) × IsWrongEscape rest
ReadsPart part (Err BadLength ∷ []) = (front rest : List ℕ) × (length front ≡ longest + 1) × (part ≡ all_escaped front ++ rest)
ReadsPart part found = ⊥

-- the parts, each up to the delimiter behind it, read so
abbrev pub ReadsParts : List (List ℕ) → List Found → Type 0
ReadsParts [] found = found ≡ []
ReadsParts (part ∷ parts) found = (here behind : List Found) × IsPart part × ReadsPart part here × ReadsParts parts behind × (found ≡ here ++ behind)

-- What stands behind the last delimiter: it may yet become a packet, or its first fault is there already.
abbrev pub ReadsOpen : List ℕ → List Found → Type 0
ReadsOpen part [] = (front : List ℕ) × (length front ≤ longest) × ((part ≡ all_escaped front) ⊎ (part ≡ all_escaped front ++ escape ∷ []))
ReadsOpen part (Err BadEscape ∷ []) = (front rest : List ℕ) × (length front ≤ longest) × (part ≡ all_escaped front ++ escape ∷ rest) × (rest ≢ []) × IsWrongEscape rest
ReadsOpen part (Err BadLength ∷ []) = (front rest : List ℕ) × (length front ≡ longest + 1) × (part ≡ all_escaped front ++ rest)
ReadsOpen part found = ⊥

-- the octets of parts, each with the delimiter behind it
abbrev pub delimited : List (List ℕ) → List ℕ
delimited parts = flat_map (λ part. part ++ delimiter ∷ []) parts

-- A stream reads so: what stands before the first delimiter means nothing, then come parts, each up to the next
-- delimiter, and what stands behind the last one.
pub data Reads (stream : List ℕ) (found : List Found) : Type 0 where
  silent : IsPart stream → found ≡ [] → Reads stream found
  parted : (before : List ℕ) (parts : List (List ℕ)) (rest : List ℕ) (closed last : List Found) → IsPart before → ReadsParts parts closed → IsPart rest → ReadsOpen rest last
      → stream ≡ before ++ delimiter ∷ (delimited parts ++ rest) → found ≡ closed ++ last → Reads stream found
