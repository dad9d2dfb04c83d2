-- Reading a packet from left to right, with the first refusal that is met.
use Rattle.std.specs.Prelude.{◌≡◌, ℕ, zero, suc, ◌+◌, ◌-◌, ◌*◌, ◌/◌, Bool, ◌||◌, ◌&&◌, not, ◌==◌, List, [], ◌∷◌, length, take, drop, slice_index, Result, Ok, Err, nat_lt, if◌then◌else◌}
use Rattle.byteorder.specs.Endian.{big_number}
use Rattle.obex_headers.specs.declared.fault.ObexRefusal.{ObexRefusal}
use Rattle.obex_headers.specs.declared.fault.ObexRefusal.TheVariants.{Short, BadLength, BadHeaderLength, BadText, AboveMaximum, BadVersion}
use Rattle.obex_headers.specs.declared.packet.Phase.{Phase}
use Rattle.obex_headers.specs.declared.packet.Packet.{Packet}
use Rattle.obex_headers.specs.Packets.{PlainValue, Text, Octets, One, Four, PlainHeader, PlainPacket, is_connect, fields_len, version_of, maximum_of, Shows}

infixl 10 ◌>>=◌
abbrev pub ◌>>=◌ : {A B : Type 0} → Result A ObexRefusal → (A → Result B ObexRefusal) → Result B ObexRefusal
(Ok x) >>= f = f x
(Err e) >>= f = Err e

-- what a function answered, seen by view, is what reading gives
abbrev pub Gives : {X Y : Type 0} → (X → Y) → Result X ObexRefusal → Result Y ObexRefusal → Type 0
Gives view (Ok x) read = read ≡ Ok (view x)
Gives view (Err e) read = read ≡ Err e

-- ---- one header

-- an even number of octets that end with two zeros, or none
abbrev pub is_text : List ℕ → Bool
is_text octets = (length octets == 0)
    || (nat_lt 1 (length octets) && (slice_index octets (length octets - 2) == 0) && (slice_index octets (length octets - 1) == 0) && (2 * (length octets / 2) == length octets))

-- what a length of the whole header counts, behind the identifier and the length itself; and the rest
unfoldable pub sized_at : List ℕ → Result (List ℕ × List ℕ) ObexRefusal
sized_at octets =
    if nat_lt (length octets) 2 then Err BadHeaderLength
    else if nat_lt (big_number 2 octets) 3 then Err BadHeaderLength
    else if nat_lt (1 + length octets) (big_number 2 octets) then Err BadHeaderLength
    else Ok (take (big_number 2 octets - 3) (drop 2 octets), drop (big_number 2 octets - 3) (drop 2 octets))

unfoldable pub text_at : List ℕ → Result (PlainValue × List ℕ) ObexRefusal
text_at octets = do
  part ← sized_at octets
  if is_text part.0 then Ok (Text part.0, part.1) else Err BadText

unfoldable pub octets_at : List ℕ → Result (PlainValue × List ℕ) ObexRefusal
octets_at octets = do
  part ← sized_at octets
  Ok (Octets part.0, part.1)

unfoldable pub one_at : List ℕ → Result (PlainValue × List ℕ) ObexRefusal
one_at [] = Err BadHeaderLength
one_at (octet ∷ rest) = Ok (One octet, rest)

unfoldable pub four_at : List ℕ → Result (PlainValue × List ℕ) ObexRefusal
four_at octets = if nat_lt (length octets) 4 then Err BadHeaderLength else Ok (Four (big_number 4 octets), drop 4 octets)

-- the value that the identifier says stands there
unfoldable pub value_at : ℕ → List ℕ → Result (PlainValue × List ℕ) ObexRefusal
value_at id octets =
    if nat_lt id 0x40 then text_at octets
    else if nat_lt id 0x80 then octets_at octets
    else if nat_lt id 0xC0 then one_at octets
    else four_at octets

-- the header at the front, and the octets behind it
unfoldable pub header_at : List ℕ → Result (PlainHeader × List ℕ) ObexRefusal
header_at [] = Err BadHeaderLength
header_at (id ∷ octets) = do
  found ← value_at id octets
  Ok (record { id = id; value = found.0 }, found.1)

-- ---- all headers

-- one header after the other to the end of the octets; n bounds how many there can be
unfoldable pub headers_at : ℕ → List ℕ → Result (List PlainHeader) ObexRefusal
headers_at n [] = Ok []
headers_at zero (octet ∷ octets) = Err BadHeaderLength
headers_at (suc n) (octet ∷ octets) = do
  first ← header_at (octet ∷ octets)
  others ← headers_at n first.1
  Ok (first.0 ∷ others)

-- each header takes at least two octets
unfoldable pub headers_in : List ℕ → Result (List PlainHeader) ObexRefusal
headers_in octets = headers_at (length octets) octets

-- ---- a packet

-- the fields, of CONNECT first the maximum is judged and then the version
unfoldable pub fields_in : Phase → ℕ → List ℕ → Result (List ℕ) ObexRefusal
fields_in phase code extra =
    if not (is_connect phase code) then Ok extra
    else if nat_lt (maximum_of extra) 255 then Err BadLength
    else if version_of extra == 1 then Ok extra
    else Err BadVersion

-- what stands behind the length: the fields, and the octets of the headers
unfoldable pub behind_length : Phase → List ℕ → Result (List ℕ × List ℕ) ObexRefusal
behind_length phase octets = do
  extra ← fields_in phase (slice_index octets 0) (take (fields_len phase (slice_index octets 0)) (drop 3 octets))
  Ok (extra, drop (fields_len phase (slice_index octets 0)) (drop 3 octets))

-- the same, where the whole packet has the length that it states
unfoldable pub front_at : Phase → ℕ → List ℕ → Result (List ℕ × List ℕ) ObexRefusal
front_at phase maximum octets =
    if nat_lt (length octets) (3 + fields_len phase (slice_index octets 0)) then Err Short
    else if nat_lt maximum (length octets) then Err AboveMaximum
    else if not (big_number 2 (drop 1 octets) == length octets) then Err BadLength
    else behind_length phase octets

-- the packet that the octets are
unfoldable pub packet_in : Phase → ℕ → List ℕ → Result PlainPacket ObexRefusal
packet_in phase maximum octets = do
  front ← front_at phase maximum octets
  headers ← headers_in front.1
  Ok (record { code = slice_index octets 0; extra = front.0; headers = headers })

-- a packet that was lent shows the packet that reading gives, or the refusal is the one that reading meets
abbrev pub GivesPacket : Result Packet ObexRefusal → Result PlainPacket ObexRefusal → Type 0
GivesPacket (Ok lent_packet) read = (packet : PlainPacket) × (read ≡ Ok packet) × Shows lent_packet packet
GivesPacket (Err e) read = read ≡ Err e
