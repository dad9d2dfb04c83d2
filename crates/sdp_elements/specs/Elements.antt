-- What data elements are (Core 5.1, Volume 3 Part B, 3): values without memory, and trees of them.
use Rattle.std.specs.Prelude.{ℕ, ◌==◌, ℤ, Bool, not, List, [], ◌∷◌, ◌++◌, length, slice_index, if◌then◌else◌}
use Rattle.byteorder.specs.Endian.{big_bytes, big_number, twos_complement}
use Rattle.sdp_elements.specs.declared.header.Kind.{Kind}
use Rattle.sdp_elements.specs.declared.header.Kind.TheVariants as kinds
use Rattle.sdp_elements.specs.declared.element.Children.{Children}
use Rattle.sdp_elements.specs.declared.element.Element.{Element}
use Rattle.sdp_elements.specs.declared.element.Element.TheVariants as lent

-- an element that holds no others: numbers with their width in octets, an identifier by its sixteen octets
pub data PlainValue : Type 0 where
  Nil : PlainValue
  Unsigned : (width : ℕ) → (number : ℕ) → PlainValue
  Signed : (width : ℕ) → (number : ℤ) → PlainValue
  Uuid : (octets : List ℕ) → PlainValue
  Text : (octets : List ℕ) → PlainValue
  Boolean : (truth : Bool) → PlainValue
  Url : (octets : List ℕ) → PlainValue

-- an element, with the octets of the parts that it holds
pub data PlainElement : Type 0 where
  Value : (value : PlainValue) → PlainElement
  Sequence : (content : List ℕ) → PlainElement
  Alternative : (content : List ℕ) → PlainElement

-- an element with its parts, to any depth
mutual
  pub data Tree : Type 0 where
    Leaf : PlainValue → Tree
    SequenceOf : Trees → Tree
    AlternativeOf : Trees → Tree

  pub data Trees : Type 0 where
    Finish : Trees
    Then : Tree → Trees → Trees

-- the octets of the parts
abbrev pub content_of : PlainElement → List ℕ
content_of (Value value) = []
content_of (Sequence content) = content
content_of (Alternative content) = content

-- ---- identifiers

-- the Base UUID behind its first four octets: 0000-1000-8000-00805F9B34FB (2.5.1)
abbrev pub base_end : List ℕ
base_end = 0 ∷ 0 ∷ 0x10 ∷ 0 ∷ 0x80 ∷ 0 ∷ 0 ∷ 0x80 ∷ 0x5F ∷ 0x9B ∷ 0x34 ∷ 0xFB ∷ []

-- a short identifier stands in the first four octets of the Base UUID
abbrev pub short_uuid : ℕ → List ℕ
short_uuid number = big_bytes 4 number ++ base_end

-- the identifier that two, four or sixteen octets are
abbrev pub uuid_in : List ℕ → List ℕ
uuid_in content = if length content == 16 then content else short_uuid (big_number (length content) content)

-- ---- content

-- the element that the content is
abbrev pub element_in : Kind → List ℕ → PlainElement
element_in kinds.Nil content = Value Nil
element_in kinds.Unsigned content = Value (Unsigned (length content) (big_number (length content) content))
element_in kinds.Signed content = Value (Signed (length content) (twos_complement (length content) (big_number (length content) content)))
element_in kinds.Uuid content = Value (Uuid (uuid_in content))
element_in kinds.Text content = Value (Text content)
element_in kinds.Boolean content = Value (Boolean (not (slice_index content 0 == 0)))
element_in kinds.Sequence content = Sequence content
element_in kinds.Alternative content = Alternative content
element_in kinds.Url content = Value (Url content)

-- the octets of the parts that are left to walk
abbrev pub left_of : Children → List ℕ
left_of children = children.left.now

-- what a lent element is
abbrev pub plain : Element → PlainElement
plain lent.Nil = Value Nil
plain (lent.Unsigned width number) = Value (Unsigned width number)
plain (lent.Signed width number) = Value (Signed width number)
plain (lent.Uuid id) = Value (Uuid id)
plain (lent.Text octets) = Value (Text octets.now)
plain (lent.Boolean truth) = Value (Boolean truth)
plain (lent.Sequence children) = Sequence (left_of children)
plain (lent.Alternative children) = Alternative (left_of children)
plain (lent.Url octets) = Value (Url octets.now)
