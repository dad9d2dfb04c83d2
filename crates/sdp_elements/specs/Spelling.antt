-- How data elements are spelled (Core 5.1, Volume 3 Part B, 3.2 and 3.3): in any form, and in the shortest one.
use Rattle.std.specs.Prelude.{◌≡◌, ℕ, suc, ◌+◌, ◌*◌, ◌^◌, ◌<◌, ◌≤◌, ◌⊎◌, ⊤, Bool, true, false, ◌&&◌, ◌==◌, nat_lt, if◌then◌else◌, List, [], ◌∷◌, ◌++◌, length, take, drop, slice_index, max}
use Rattle.std.specs.Int.{w128}
use Rattle.std.specs.Str.{bytes_eq}
use Rattle.byteorder.specs.Endian.{big_bytes, low_bytes, twos_complement}
use Rattle.sdp_elements.specs.declared.header.Kind.{Kind}
use Rattle.sdp_elements.specs.declared.header.Kind.TheVariants as kinds
use Rattle.sdp_elements.specs.Headers.{has_index, length_octets, fixed_len}
use Rattle.sdp_elements.specs.Elements.{PlainValue, Nil, Unsigned, Signed, Uuid, Text, Boolean, Url, PlainElement, Value, Sequence, Alternative, Tree, Leaf, SequenceOf, AlternativeOf, Trees, Finish, Then, element_in, base_end}

-- ---- any form

-- the number of a type, in the five high bits of the header
abbrev pub type_number : Kind → ℕ
type_number kinds.Nil = 0
type_number kinds.Unsigned = 1
type_number kinds.Signed = 2
type_number kinds.Uuid = 3
type_number kinds.Text = 4
type_number kinds.Boolean = 5
type_number kinds.Sequence = 6
type_number kinds.Alternative = 7
type_number kinds.Url = 8

-- a size index that the type has, and that stands for this length of content: below 5 by itself, from 5 on with the length behind it
pub record HasSize (kind : Kind) (index len : ℕ) : Type 0 where
  pub index_fits : index < 8
  pub has : has_index kind index ≡ true
  pub len_fits : ((index < 5) × (len ≡ fixed_len kind index)) ⊎ ((5 ≤ index) × (len < 256 ^ length_octets index))

-- a header, the length of the content where its size index asks for it, and the content
abbrev pub form : Kind → ℕ → List ℕ → List ℕ
form kind index content = (8 * type_number kind + index) ∷ (big_bytes (length_octets index) (length content) ++ content)

-- the octets are this element, its length in any form and its parts not looked into
pub record IsForm (element : PlainElement) (octets : List ℕ) : Type 0 where
  pub kind : Kind
  pub index : ℕ
  pub content : List ℕ
  pub size : HasSize kind index (length content)
  pub element_is : element ≡ element_in kind content
  pub octets_are : octets ≡ form kind index content

-- the octets are this element with all its parts, each length in any form
abbrev mutual
  pub IsSpelledBy : Tree → List ℕ → Type 0
  IsSpelledBy (Leaf value) octets = IsForm (Value value) octets
  IsSpelledBy (SequenceOf parts) octets = (content : List ℕ) × IsForm (Sequence content) octets × AreSpelledBy parts content
  IsSpelledBy (AlternativeOf parts) octets = (content : List ℕ) × IsForm (Alternative content) octets × AreSpelledBy parts content

  pub AreSpelledBy : Trees → List ℕ → Type 0
  AreSpelledBy Finish octets = octets ≡ []
  AreSpelledBy (Then first others) octets = (front : List ℕ) × (rest : List ℕ) × (octets ≡ front ++ rest) × IsSpelledBy first front × AreSpelledBy others rest

-- how many sequences and alternatives stand in each other
abbrev mutual
  pub depth : Tree → ℕ
  depth (Leaf value) = 0
  depth (SequenceOf parts) = suc (parts_depth parts)
  depth (AlternativeOf parts) = suc (parts_depth parts)

  pub parts_depth : Trees → ℕ
  parts_depth Finish = 0
  parts_depth (Then first others) = max (depth first) (parts_depth others)

-- the parts that an element holds are those of the tree
abbrev pub Stands : PlainElement → Tree → Type 0
Stands (Value value) tree = tree ≡ Leaf value
Stands (Sequence content) tree = (parts : Trees) × (tree ≡ SequenceOf parts) × AreSpelledBy parts content
Stands (Alternative content) tree = (parts : Trees) × (tree ≡ AlternativeOf parts) × AreSpelledBy parts content

-- ---- the shortest form

-- the size index of a number of this width
abbrev pub width_index : ℕ → ℕ
width_index width =
    if width == 1 then 0
    else if width == 2 then 1
    else if width == 4 then 2
    else if width == 8 then 3
    else 4

-- a number in this many octets
abbrev pub numbered : Kind → ℕ → ℕ → List ℕ
numbered kind width number = (8 * type_number kind + width_index width) ∷ big_bytes width number

-- a header with the length of the content, which stands in one, two or four octets
abbrev pub sized_front : Kind → ℕ → List ℕ
sized_front kind len =
    if nat_lt len 256 then (8 * type_number kind + 5) ∷ big_bytes 1 len
    else if nat_lt len 65536 then (8 * type_number kind + 6) ∷ big_bytes 2 len
    else (8 * type_number kind + 7) ∷ big_bytes 4 len

abbrev pub sized : Kind → List ℕ → List ℕ
sized kind content = sized_front kind (length content) ++ content

-- an identifier from the Base UUID on is written in two or four octets
abbrev pub uuid_octets : List ℕ → List ℕ
uuid_octets octets =
    if bytes_eq (drop 4 octets) base_end then (if (slice_index octets 0 == 0) && (slice_index octets 1 == 0) then 0x19 ∷ take 2 (drop 2 octets) else 0x1A ∷ take 4 octets)
    else 0x1C ∷ octets

abbrev pub truth_octet : Bool → ℕ
truth_octet true = 1
truth_octet false = 0

abbrev pub value_octets : PlainValue → List ℕ
value_octets Nil = 0 ∷ []
value_octets (Unsigned width number) = numbered kinds.Unsigned width number
value_octets (Signed width number) = numbered kinds.Signed width (low_bytes w128 width number)
value_octets (Uuid octets) = uuid_octets octets
value_octets (Text octets) = sized kinds.Text octets
value_octets (Boolean truth) = 0x28 ∷ truth_octet truth ∷ []
value_octets (Url octets) = sized kinds.Url octets

-- the shortest form of an element; the octets of the parts stand as they are
abbrev pub element_octets : PlainElement → List ℕ
element_octets (Value value) = value_octets value
element_octets (Sequence content) = sized kinds.Sequence content
element_octets (Alternative content) = sized kinds.Alternative content

abbrev pub IsWidth : ℕ → Type 0
IsWidth width = (width ≡ 1) ⊎ (width ≡ 2) ⊎ (width ≡ 4) ⊎ (width ≡ 8) ⊎ (width ≡ 16)

-- what has a spelling: numbers that fit one of the five widths, and content whose length four octets can state
abbrev pub HasSpelling : PlainElement → Type 0
HasSpelling (Value Nil) = ⊤
HasSpelling (Value (Unsigned width number)) = IsWidth width × (number < 256 ^ width)
HasSpelling (Value (Signed width number)) = IsWidth width × (twos_complement width (low_bytes w128 width number) ≡ number)
HasSpelling (Value (Uuid octets)) = length octets ≡ 16
HasSpelling (Value (Text octets)) = length octets < 2 ^ 32
HasSpelling (Value (Boolean truth)) = ⊤
HasSpelling (Value (Url octets)) = length octets < 2 ^ 32
HasSpelling (Sequence content) = length content < 2 ^ 32
HasSpelling (Alternative content) = length content < 2 ^ 32
