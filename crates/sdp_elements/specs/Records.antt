-- The service record of Object Push, and which service records a search pattern finds (Core 5.1, Volume 3 Part B, 2.2, 2.5 and 4.5.1).
use Rattle.std.specs.Prelude.{ℕ, ◌||◌, Bool, false, List, [], ◌∷◌, ◌++◌, codes, filter}
use Rattle.std.specs.List.{list_any, list_all}
use Rattle.std.specs.Str.{bytes_eq}
use Rattle.bt_base.specs.declared.settings.Serves.{Serves}
use Rattle.bt_base.specs.declared.settings.Serves.TheVariants as serving
use Rattle.sdp_elements.specs.Elements.{PlainValue, Nil, Unsigned, Signed, Uuid, Text, Boolean, Url, Tree, Leaf, SequenceOf, AlternativeOf, Trees, Finish, Then, short_uuid}

-- an attribute: its identifier, and its value with all its parts
pub record Attribute : Type 0 where
  pub identifier : ℕ
  pub value : Tree

abbrev pub attribute : ℕ → Tree → Attribute
attribute identifier value = record { identifier = identifier; value = value }

-- ---- values

abbrev pub parts_of : List Tree → Trees
parts_of [] = Finish
parts_of (first ∷ others) = Then first (parts_of others)

abbrev pub sequence_of : List Tree → Tree
sequence_of parts = SequenceOf (parts_of parts)

abbrev pub short : ℕ → Tree
short identifier = Leaf (Uuid (short_uuid identifier))

abbrev pub unsigned : ℕ → ℕ → Tree
unsigned width number = Leaf (Unsigned width number)

-- ---- the service record

-- the handle of the one service record
abbrev pub record_handle : ℕ
record_handle = 0x00010000

-- L2CAP, RFCOMM with the server channel 9, OBEX
abbrev pub protocols_over_rfcomm : Tree
protocols_over_rfcomm = sequence_of (sequence_of (short 0x0100 ∷ []) ∷ sequence_of (short 0x0003 ∷ unsigned 1 9 ∷ []) ∷ sequence_of (short 0x0008 ∷ []) ∷ [])

-- the stack of protocols under the service
abbrev pub protocols : Serves → Tree
protocols serving.Both = protocols_over_rfcomm
protocols serving.Rfcomm = protocols_over_rfcomm
protocols serving.L2cap = sequence_of (sequence_of (short 0x0100 ∷ []) ∷ sequence_of (short 0x0008 ∷ []) ∷ [])

-- the PSM of the service over L2CAP, where L2CAP is served
abbrev pub goep_psm : Serves → List Attribute
goep_psm serving.Both = attribute 0x0200 (unsigned 2 0x1001) ∷ []
goep_psm serving.L2cap = attribute 0x0200 (unsigned 2 0x1001) ∷ []
goep_psm serving.Rfcomm = []

-- the attributes in rising order: handle, classes, protocols, profiles with their versions, name, PSM, formats (any)
abbrev pub service_record : Serves → List Attribute
service_record serves =
    attribute 0x0000 (unsigned 4 record_handle)
    ∷ attribute 0x0001 (sequence_of (short 0x1105 ∷ []))
    ∷ attribute 0x0004 (protocols serves)
    ∷ attribute 0x0009 (sequence_of (sequence_of (short 0x1105 ∷ unsigned 2 0x0102 ∷ []) ∷ []))
    ∷ attribute 0x0100 (Leaf (Text (codes "OBEX Object Push")))
    ∷ goep_psm serves
    ++ attribute 0x0303 (sequence_of (unsigned 1 0xFF ∷ [])) ∷ []

-- the service records of a server: there is one
abbrev pub records : Serves → List (List Attribute)
records serves = service_record serves ∷ []

-- ---- search patterns

abbrev pub is_identifier : List ℕ → PlainValue → Bool
is_identifier identifier Nil = false
is_identifier identifier (Unsigned width number) = false
is_identifier identifier (Signed width number) = false
is_identifier identifier (Uuid octets) = bytes_eq identifier octets
is_identifier identifier (Text octets) = false
is_identifier identifier (Boolean truth) = false
is_identifier identifier (Url octets) = false

-- the identifier is the value, or stands in a part of it, to any depth
abbrev mutual
  pub stands_in : List ℕ → Tree → Bool
  stands_in identifier (Leaf value) = is_identifier identifier value
  stands_in identifier (SequenceOf parts) = stands_among identifier parts
  stands_in identifier (AlternativeOf parts) = stands_among identifier parts

  pub stands_among : List ℕ → Trees → Bool
  stands_among identifier Finish = false
  stands_among identifier (Then first others) = stands_in identifier first || stands_among identifier others

-- the identifier stands somewhere in the values of a service record
abbrev pub has_identifier : List Attribute → List ℕ → Bool
has_identifier attributes identifier = list_any (λ attribute. stands_in identifier attribute.value) attributes

-- a service record matches a pattern where it has each identifier of the pattern
abbrev pub matches : List (List ℕ) → List Attribute → Bool
matches pattern attributes = list_all (has_identifier attributes) pattern

-- the service records that a pattern finds
abbrev pub matching : List (List ℕ) → List (List Attribute) → List (List Attribute)
matching pattern found = filter (matches pattern) found
