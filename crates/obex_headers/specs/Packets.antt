-- What OBEX packets are, and the one spelling of each (IrOBEX 1.5, sections 2.1, 2.2 and 3).
use Rattle.std.specs.Prelude.{◌≡◌, ℕ, ◌+◌, ◌*◌, ◌/◌, ◌<◌, ◌≤◌, ◌^◌, ◌==◌, ◌⊎◌, Bool, true, false, IsTrue, if◌then◌else◌, List, [], ◌∷◌, ◌++◌, length, take, drop, slice_index}
use Rattle.std.specs.List.{flat_map, AllByRecursion}
use Rattle.byteorder.specs.Endian.{big_number}
use Rattle.bt_base.specs.Octets.{be16, be32}
use Rattle.obex_headers.specs.declared.packet.Phase.{Phase}
use Rattle.obex_headers.specs.declared.packet.Phase.TheVariants.{Request, Response, ConnectResponse}
use Rattle.obex_headers.specs.declared.packet.Packet.{Packet}
use Rattle.obex_headers.specs.declared.header.Header.{Header}
use Rattle.obex_headers.specs.declared.header.HeaderValue.{HeaderValue}
use Rattle.obex_headers.specs.declared.header.HeaderValue.TheVariants as lent

-- the value of a header, in one of the four forms (2.1)
pub data PlainValue : Type 0 where
  Text : (octets : List ℕ) → PlainValue
  Octets : (octets : List ℕ) → PlainValue
  One : (octet : ℕ) → PlainValue
  Four : (number : ℕ) → PlainValue

-- a header
pub record PlainHeader : Type 0 where
  pub id : ℕ
  pub value : PlainValue

-- a packet: its code, the fields that only some packets have, and its headers
pub record PlainPacket : Type 0 where
  pub code : ℕ
  pub extra : List ℕ
  pub headers : List PlainHeader

-- ---- texts

-- the units of a text, two octets each and the high one first, but for the last one, the zero that ends it
abbrev pub units_of : List ℕ → List ℕ
units_of [] = []
units_of (high ∷ []) = []
units_of (high ∷ low ∷ []) = []
units_of (high ∷ low ∷ next ∷ rest) = (256 * high + low) ∷ units_of (next ∷ rest)

-- units as a text: each as two octets, and a zero unit at the end
abbrev pub text_octets : List ℕ → List ℕ
text_octets units = flat_map be16 units ++ be16 0

-- octets that are a text: none at all, or units with a zero at the end
abbrev pub IsText : List ℕ → Type 0
IsText octets = (octets ≡ []) ⊎ (octets ≡ text_octets (units_of octets))

-- ---- headers

-- what stands behind the identifier: a text and octets begin with the length of the whole header
abbrev pub value_octets : PlainValue → List ℕ
value_octets (Text octets) = be16 (3 + length octets) ++ octets
value_octets (Octets octets) = be16 (3 + length octets) ++ octets
value_octets (One octet) = octet ∷ []
value_octets (Four number) = be32 number

abbrev pub header_octets : PlainHeader → List ℕ
header_octets header = header.id ∷ value_octets header.value

abbrev pub headers_octets : List PlainHeader → List ℕ
headers_octets headers = flat_map header_octets headers

-- the two high bits of the identifier name the form of the value, and the value fits it
abbrev pub HasForm : ℕ → PlainValue → Type 0
HasForm id (Text octets) = (id < 0x40) × (3 + length octets < 2 ^ 16) × IsText octets
HasForm id (Octets octets) = (0x40 ≤ id) × (id < 0x80) × (3 + length octets < 2 ^ 16)
HasForm id (One octet) = (0x80 ≤ id) × (id < 0xC0) × (octet < 256)
HasForm id (Four number) = (0xC0 ≤ id) × (id < 256) × (number < 2 ^ 32)

abbrev pub IsHeader : PlainHeader → Type 0
IsHeader header = HasForm header.id header.value

-- ---- packets

-- CONNECT and the response to it state a version, flags and a maximum (3.4.1)
abbrev pub is_connect : Phase → ℕ → Bool
is_connect Request code = code == 0x80
is_connect Response code = false
is_connect ConnectResponse code = true

-- SETPATH has flags and constants (3.4.6)
abbrev pub is_setpath : Phase → ℕ → Bool
is_setpath Request code = code == 0x85
is_setpath Response code = false
is_setpath ConnectResponse code = false

-- how many octets of fields stand in front of the headers
abbrev pub fields_len : Phase → ℕ → ℕ
fields_len phase code = if is_connect phase code then 4 else if is_setpath phase code then 2 else 0

-- the version and the maximum of the fields of CONNECT, one octet of version, one of flags, two of maximum
abbrev pub version_of : List ℕ → ℕ
version_of extra = slice_index extra 0 / 16

abbrev pub maximum_of : List ℕ → ℕ
maximum_of extra = big_number 2 (drop 2 extra)

-- the octets of a whole packet
abbrev pub packet_len : PlainPacket → ℕ
packet_len packet = 3 + (length packet.extra + length (headers_octets packet.headers))

-- the one spelling of a packet: code, length of the whole, fields, headers
abbrev pub packet_octets : PlainPacket → List ℕ
packet_octets packet = packet.code ∷ be16 (packet_len packet) ++ (packet.extra ++ headers_octets packet.headers)

-- the fields that a packet of this code has in this phase: of CONNECT the version is 1, and the maximum at least 255
pub record HasFields (phase : Phase) (code : ℕ) (extra : List ℕ) : Type 0 where
  pub code_fits : code < 256
  pub len : length extra ≡ fields_len phase code
  pub version : IsTrue (is_connect phase code) → version_of extra ≡ 1
  pub maximum : IsTrue (is_connect phase code) → 255 ≤ maximum_of extra

-- what has a spelling as a packet
pub record IsPacket (phase : Phase) (packet : PlainPacket) : Type 0 where
  pub fields : HasFields phase packet.code packet.extra
  pub headers : AllByRecursion IsHeader packet.headers
  pub len : packet_len packet < 2 ^ 16

-- the octets are this packet's, and no more than a maximum
pub record Spells (phase : Phase) (maximum : ℕ) (octets : List ℕ) (packet : PlainPacket) : Type 0 where
  pub sound : IsPacket phase packet
  pub within : length octets ≤ maximum
  pub spelling : octets ≡ packet_octets packet

-- ---- what the code lends

-- a value without where it lies in memory
abbrev pub plain_value : HeaderValue → PlainValue
plain_value (lent.Text octets) = Text octets.now
plain_value (lent.Octets octets) = Octets octets.now
plain_value (lent.One octet) = One octet
plain_value (lent.Four number) = Four number

abbrev pub plain_header : Header → PlainHeader
plain_header header = record { id = header.id; value = plain_value header.value }

-- a lent packet shows this one: its headers lie there as octets
pub record Shows (lent_packet : Packet) (packet : PlainPacket) : Type 0 where
  pub code : lent_packet.code ≡ packet.code
  pub extra : lent_packet.extra.now ≡ packet.extra
  pub headers : lent_packet.headers.now ≡ headers_octets packet.headers

-- ---- writing piece by piece

-- a packet without headers
abbrev pub bare : ℕ → List ℕ → PlainPacket
bare code extra = record { code = code; extra = extra; headers = [] }

-- a packet with one more header
abbrev pub with_header : PlainPacket → PlainHeader → PlainPacket
with_header packet header = record packet { headers = packet.headers ++ header ∷ [] }

-- octets of a packet with more behind them, and the new length where the length stands
abbrev pub grown : List ℕ → List ℕ → List ℕ
grown octets more = take 1 octets ++ (be16 (length octets + length more) ++ (drop 3 octets ++ more))
