-- The way to the service that a client reads off a whole answer (Core 5.1, Volume 3 Part B, 5.1.5 and 5.1.7).
use Rattle.std.specs.Prelude.{ℕ, ◌&&◌, ◌==◌, not, Bool, false, bit_and, nat_le, nat_lt, if◌then◌else◌, List, [], ◌∷◌, length, Option, Some, None}
use Rattle.std.specs.List.{flat_map}
use Rattle.std.specs.Option.{option_or}
use Rattle.std.specs.Str.{bytes_eq}
use Rattle.sdp_elements.specs.declared.target.Target.{Target}
use Rattle.sdp_elements.specs.Elements.{PlainValue, Nil, Unsigned, Signed, Uuid, Text, Boolean, Url, Tree, Leaf, SequenceOf, AlternativeOf, Trees, Finish, Then, short_uuid, PlainElement, Value, Sequence, Alternative}
use Rattle.sdp_elements.specs.Optional.{◌>>=◌}
use Rattle.sdp_elements.specs.Records.{Attribute, attribute}
use Rattle.sdp_elements.specs.Sequences.{sequence_at, sequence_parts, collected}

-- ---- numbers

abbrev pub value_number : ℕ → PlainValue → Option ℕ
value_number width Nil = None
value_number width (Unsigned w number) = if (w == width) && nat_lt number 65536 then Some number else None
value_number width (Signed w number) = None
value_number width (Uuid octets) = None
value_number width (Text octets) = None
value_number width (Boolean truth) = None
value_number width (Url octets) = None

-- the number of at most sixteen bits that a value is, in so many octets
abbrev pub number_of : ℕ → Tree → Option ℕ
number_of width (Leaf value) = value_number width value
number_of width (SequenceOf parts) = None
number_of width (AlternativeOf parts) = None

-- the same without a look at the parts that an element holds
abbrev pub number_in : ℕ → PlainElement → Option ℕ
number_in width (Value value) = value_number width value
number_in width (Sequence content) = None
number_in width (Alternative content) = None

-- ---- the attributes of an answer

-- the attributes that parts are: an identifier in two octets and a value, in turn
abbrev pub attributes_in : Trees → Option (List Attribute)
attributes_in Finish = Some []
attributes_in (Then first Finish) = None
attributes_in (Then first (Then value others)) = do
  identifier ← number_of 2 first
  more ← attributes_in others
  Some (attribute identifier value ∷ more)

-- the attributes of a service record
abbrev pub attributes_of : Tree → Option (List Attribute)
attributes_of tree = sequence_parts tree >>= attributes_in

-- a sequence of service records, and nothing behind it
abbrev pub whole_sequence : List ℕ → Option Trees
whole_sequence octets = do
  found ← sequence_at octets
  if length found.1 == 0 then Some found.0 else None

-- the service records of a whole answer, each by its attributes
abbrev pub records_in : List ℕ → Option (List (List Attribute))
records_in octets = whole_sequence octets >>= collected attributes_of

-- ---- the target

-- a PSM that a service may have: the lowest octet is odd, the lowest bit of the other is clear (Volume 3 Part A, 4.2), and it is not that of
-- service discovery or of RFCOMM
abbrev pub is_service_psm : ℕ → Bool
is_service_psm number = (bit_and number 0x0101 == 0x0001) && (not (number == 0x0001) && not (number == 0x0003))

abbrev pub is_server_channel : ℕ → Bool
is_server_channel number = nat_le 1 number && nat_le number 30

abbrev pub kept : (ℕ → Bool) → ℕ → Option ℕ
kept test number = if test number then Some number else None

-- the PSM that an attribute names
abbrev pub psm_in : Attribute → Option ℕ
psm_in a = if a.identifier == 0x0200 then number_of 2 a.value >>= kept is_service_psm else None

abbrev pub is_rfcomm_value : PlainValue → Bool
is_rfcomm_value Nil = false
is_rfcomm_value (Unsigned width number) = false
is_rfcomm_value (Signed width number) = false
is_rfcomm_value (Uuid octets) = bytes_eq octets (short_uuid 0x0003)
is_rfcomm_value (Text octets) = false
is_rfcomm_value (Boolean truth) = false
is_rfcomm_value (Url octets) = false

abbrev pub is_rfcomm : Tree → Bool
is_rfcomm (Leaf value) = is_rfcomm_value value
is_rfcomm (SequenceOf parts) = false
is_rfcomm (AlternativeOf parts) = false

-- the server channel of a protocol: the number in one octet behind the identifier of RFCOMM
abbrev pub channel_among : Trees → Option ℕ
channel_among Finish = None
channel_among (Then protocol Finish) = None
channel_among (Then protocol (Then number others)) = if is_rfcomm protocol then number_of 1 number >>= kept is_server_channel else None

abbrev pub channel_of : Tree → Option ℕ
channel_of protocol = sequence_parts protocol >>= channel_among

-- the first server channel of the protocols
abbrev pub channels_among : Trees → Option ℕ
channels_among Finish = None
channels_among (Then protocol others) = option_or (channel_of protocol) (channels_among others)

-- the server channel that an attribute names
abbrev pub channel_in : Attribute → Option ℕ
channel_in a = if a.identifier == 0x0004 then sequence_parts a.value >>= channels_among else None

-- the first that an attribute names
abbrev pub first_found : (Attribute → Option ℕ) → List Attribute → Option ℕ
first_found what [] = None
first_found what (a ∷ others) = option_or (what a) (first_found what others)

-- the PSM and the server channel that attributes name, the first of each
abbrev pub target_of : List Attribute → Target
target_of attributes = record { l2cap = first_found psm_in attributes; rfcomm = first_found channel_in attributes }

-- the target of a whole answer, one service record after the other
abbrev pub target_in : List ℕ → Option Target
target_in octets = do
  found ← records_in octets
  Some (target_of (flat_map (λ attributes. attributes) found))
