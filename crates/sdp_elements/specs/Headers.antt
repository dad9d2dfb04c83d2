-- The header of a data element and the length of its content (Core 5.1, Volume 3 Part B, 3.2 and 3.3).
use Rattle.std.specs.Prelude.{◌≡◌, ℕ, ◌/◌, ◌%◌, ◌^◌, ◌≤◌, ⊤, ◌⊎◌, Bool, ◌||◌, ◌==◌, nat_lt, nat_le, if◌then◌else◌, List, Option, Some, None, Result, Ok, Err}
use Rattle.byteorder.specs.Endian.{big_number}
use Rattle.sdp_elements.specs.declared.fault.SdpRefusal.{SdpRefusal}
use Rattle.sdp_elements.specs.declared.fault.SdpRefusal.TheVariants.{BadHeader, BadUuidSize}
use Rattle.sdp_elements.specs.declared.header.Kind.{Kind}
use Rattle.sdp_elements.specs.declared.header.Kind.TheVariants.{Nil, Unsigned, Signed, Uuid, Text, Boolean, Sequence, Alternative, Url}

-- the type that a number names
abbrev pub kind_at : ℕ → Option Kind
kind_at number =
    if number == 0 then Some Nil
    else if number == 1 then Some Unsigned
    else if number == 2 then Some Signed
    else if number == 3 then Some Uuid
    else if number == 4 then Some Text
    else if number == 5 then Some Boolean
    else if number == 6 then Some Sequence
    else if number == 7 then Some Alternative
    else if number == 8 then Some Url
    else None

-- the size indexes that each type has
abbrev pub has_index : Kind → ℕ → Bool
has_index Nil index = index == 0
has_index Unsigned index = nat_le index 4
has_index Signed index = nat_le index 4
has_index Uuid index = (index == 1) || (index == 2) || (index == 4)
has_index Text index = nat_le 5 index
has_index Boolean index = index == 0
has_index Sequence index = nat_le 5 index
has_index Alternative index = nat_le 5 index
has_index Url index = nat_le 5 index

-- what is wrong where the type does not have the size
abbrev pub size_fault : Kind → SdpRefusal
size_fault Nil = BadHeader
size_fault Unsigned = BadHeader
size_fault Signed = BadHeader
size_fault Uuid = BadUuidSize
size_fault Text = BadHeader
size_fault Boolean = BadHeader
size_fault Sequence = BadHeader
size_fault Alternative = BadHeader
size_fault Url = BadHeader

abbrev pub with_index : Option Kind → ℕ → Result Kind SdpRefusal
with_index None index = Err BadHeader
with_index (Some kind) index = if has_index kind index then Ok kind else Err (size_fault kind)

-- the type that a header names: it stands in the five high bits, and the size index in the three low ones
abbrev pub header_at : ℕ → Result Kind SdpRefusal
header_at octet = with_index (kind_at (octet / 8)) (octet % 8)

-- ---- lengths

-- how many octets behind the header have the length of the content
abbrev pub length_octets : ℕ → ℕ
length_octets index =
    if nat_lt index 5 then 0
    else if index == 5 then 1
    else if index == 6 then 2
    else 4

-- the length that a size index below 5 stands for
abbrev pub fixed_len : Kind → ℕ → ℕ
fixed_len Nil index = 0
fixed_len Unsigned index = 2 ^ index
fixed_len Signed index = 2 ^ index
fixed_len Uuid index = 2 ^ index
fixed_len Text index = 2 ^ index
fixed_len Boolean index = 2 ^ index
fixed_len Sequence index = 2 ^ index
fixed_len Alternative index = 2 ^ index
fixed_len Url index = 2 ^ index

-- the length of the content, where these octets stand behind the header
abbrev pub content_len : Kind → ℕ → List ℕ → ℕ
content_len kind index octets = if nat_lt index 5 then fixed_len kind index else big_number (length_octets index) octets

-- the lengths of content that each type has
abbrev pub HasLength : Kind → ℕ → Type 0
HasLength Nil len = len ≡ 0
HasLength Unsigned len = (1 ≤ len) × (len ≤ 16)
HasLength Signed len = (1 ≤ len) × (len ≤ 16)
HasLength Uuid len = (len ≡ 2) ⊎ (len ≡ 4) ⊎ (len ≡ 16)
HasLength Text len = ⊤
HasLength Boolean len = len ≡ 1
HasLength Sequence len = ⊤
HasLength Alternative len = ⊤
HasLength Url len = ⊤
