-- Laws of the spelling: what is spelled is read, what was written is read again, and no octets are two elements.
use Rattle.std.specs.Prelude.{◌≡◌, ℕ, ◌<◌, ◌≤◌, ◌^◌, ◌↔◌, ⊤, List, [], ◌++◌, length, Ok}
use Rattle.bt_base.specs.Octets.{IsOctets}
use Rattle.sdp_elements.specs.declared.header.Kind.TheVariants as kinds
use Rattle.sdp_elements.specs.declared.fault.SdpRefusal.TheVariants.{Short}
use Rattle.sdp_elements.specs.Elements.{PlainElement, PlainValue, Nil, Unsigned, Signed, Uuid, Text, Boolean, Url, Value, Sequence, Alternative, Tree, Leaf, SequenceOf, AlternativeOf, Trees, Finish, Then}
use Rattle.sdp_elements.specs.Reading.{tree_at}
use Rattle.sdp_elements.specs.Spelling.{HasSpelling, IsForm, IsSpelledBy, Stands, depth, value_octets, element_octets, sized}

-- what is read within eight levels is spelled so, and only what is spelled so is read
abbrev pub ReadsWhatIsSpelled : Type 0
ReadsWhatIsSpelled = (octets rest : List ℕ) (tree : Tree) → IsOctets octets →
    (tree_at Short 8 octets ≡ Ok (tree, rest)) ↔ ((front : List ℕ) × IsSpelledBy tree front × (depth tree ≤ 8) × (octets ≡ front ++ rest))

-- no octets begin with two elements
abbrev pub OneReading : Type 0
OneReading = (tree other : Tree) (front front' rest rest' : List ℕ) → IsSpelledBy tree front → IsSpelledBy other front' → front ++ rest ≡ front' ++ rest' → (tree ≡ other) × (front ≡ front')

-- the octets of an identifier are octets
abbrev pub HasOctets : PlainValue → Type 0
HasOctets Nil = ⊤
HasOctets (Unsigned width number) = ⊤
HasOctets (Signed width number) = ⊤
HasOctets (Uuid octets) = IsOctets octets
HasOctets (Text octets) = ⊤
HasOctets (Boolean truth) = ⊤
HasOctets (Url octets) = ⊤

-- the shortest form is a form
pub record WritesAForm : Type 0 where
  pub value : (value : PlainValue) → HasSpelling (Value value) → HasOctets value → IsForm (Value value) (element_octets (Value value))
  pub sequence : (content : List ℕ) → HasSpelling (Sequence content) → IsForm (Sequence content) (element_octets (Sequence content))
  pub alternative : (content : List ℕ) → HasSpelling (Alternative content) → IsForm (Alternative content) (element_octets (Alternative content))

-- what the octets of an element's own identifier are; parts are octets as they stand
abbrev pub IdentifierIsOctets : PlainElement → Type 0
IdentifierIsOctets (Value value) = HasOctets value
IdentifierIsOctets (Sequence content) = ⊤
IdentifierIsOctets (Alternative content) = ⊤

-- an element that was written, with its parts in whatever form they are lent, is read again
abbrev pub ReadsElementsAgain : Type 0
ReadsElementsAgain = (element : PlainElement) (tree : Tree) (rest : List ℕ) → HasSpelling element → IdentifierIsOctets element → Stands element tree → depth tree ≤ 8
    → IsOctets (element_octets element ++ rest) → tree_at Short 8 (element_octets element ++ rest) ≡ Ok (tree, rest)

-- the shortest form of an element with all its parts
abbrev mutual
  pub tree_octets : Tree → List ℕ
  tree_octets (Leaf value) = value_octets value
  tree_octets (SequenceOf parts) = sized kinds.Sequence (parts_octets parts)
  tree_octets (AlternativeOf parts) = sized kinds.Alternative (parts_octets parts)

  pub parts_octets : Trees → List ℕ
  parts_octets Finish = []
  parts_octets (Then first others) = tree_octets first ++ parts_octets others

-- what has a spelling, to any depth
abbrev mutual
  pub TreeHasSpelling : Tree → Type 0
  TreeHasSpelling (Leaf value) = HasSpelling (Value value) × HasOctets value
  TreeHasSpelling (SequenceOf parts) = (length (parts_octets parts) < 2 ^ 32) × PartsHaveSpelling parts
  TreeHasSpelling (AlternativeOf parts) = (length (parts_octets parts) < 2 ^ 32) × PartsHaveSpelling parts

  pub PartsHaveSpelling : Trees → Type 0
  PartsHaveSpelling Finish = ⊤
  PartsHaveSpelling (Then first others) = TreeHasSpelling first × PartsHaveSpelling others

-- what was written in the shortest form is read again
abbrev pub ReadsAgain : Type 0
ReadsAgain = (tree : Tree) (rest : List ℕ) → TreeHasSpelling tree → depth tree ≤ 8 → tree_at Short 8 (tree_octets tree ++ rest) ≡ Ok (tree, rest)
