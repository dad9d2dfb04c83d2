-- Reading a data element from left to right, with the first refusal that is met.
use Rattle.std.specs.Prelude.{◌≡◌, ℕ, zero, suc, ◌+◌, ◌-◌, ◌<◌, ⊤, ◌≤◌, ◌%◌, Bool, true, false, ◌&&◌, ◌==◌, List, [], ◌∷◌, length, take, drop, Result, Ok, Err, nat_lt, if◌then◌else◌}
use Rattle.sdp_elements.specs.declared.fault.SdpRefusal.{SdpRefusal}
use Rattle.sdp_elements.specs.declared.fault.SdpRefusal.TheVariants.{TooDeep, LengthMismatch}
use Rattle.sdp_elements.specs.declared.header.Kind.{Kind}
use Rattle.sdp_elements.specs.declared.header.Kind.TheVariants as kinds
use Rattle.sdp_elements.specs.Headers.{header_at, length_octets, content_len}
use Rattle.sdp_elements.specs.Elements.{PlainElement, Value, Sequence, Alternative, Tree, Leaf, SequenceOf, AlternativeOf, Trees, Finish, Then, element_in}

infixl 10 ◌>>=◌
abbrev pub ◌>>=◌ : {A B : Type 0} → Result A SdpRefusal → (A → Result B SdpRefusal) → Result B SdpRefusal
(Ok x) >>= f = f x
(Err e) >>= f = Err e

-- ---- the front of one element

-- a type whose elements hold others
abbrev pub is_holder : Kind → Bool
is_holder kinds.Nil = false
is_holder kinds.Unsigned = false
is_holder kinds.Signed = false
is_holder kinds.Uuid = false
is_holder kinds.Text = false
is_holder kinds.Boolean = false
is_holder kinds.Sequence = true
is_holder kinds.Alternative = true
is_holder kinds.Url = false

-- the content behind a header and its length octets, and the octets behind it; `past` is the refusal where the octets end first
unfoldable pub content_at : SdpRefusal → Kind → ℕ → List ℕ → Result (List ℕ × List ℕ) SdpRefusal
content_at past kind index octets =
    if nat_lt (length octets) (length_octets index + content_len kind index octets) then Err past
    else Ok (take (content_len kind index octets) (drop (length_octets index) octets), drop (length_octets index + content_len kind index octets) octets)

-- the element behind a header of this type, where so many levels of elements that hold others may begin
unfoldable pub behind_header : SdpRefusal → ℕ → Kind → ℕ → List ℕ → Result (PlainElement × List ℕ) SdpRefusal
behind_header past levels kind index octets =
    if is_holder kind && (levels == 0) then Err TooDeep
    else (content_at past kind index octets >>= λ found. Ok (element_in kind found.0, found.1))

-- the element at the front, its parts not judged, and the octets behind it
unfoldable pub front_at : SdpRefusal → ℕ → List ℕ → Result (PlainElement × List ℕ) SdpRefusal
front_at past levels [] = Err past
front_at past levels (octet ∷ octets) = do
  kind ← header_at octet
  behind_header past levels kind (octet % 8) octets

-- ---- an element with its parts

-- one part after the other to the end of the octets; n bounds how many there can be
unfoldable pub parts_at : (List ℕ → Result (Tree × List ℕ) SdpRefusal) → ℕ → List ℕ → Result Trees SdpRefusal
parts_at part n [] = Ok Finish
parts_at part zero (octet ∷ octets) = Err LengthMismatch
parts_at part (suc n) (octet ∷ octets) = do
  first ← part (octet ∷ octets)
  others ← parts_at part n first.1
  Ok (Then first.0 others)

-- the tree of an element whose parts are read so
unfoldable pub tree_of : (List ℕ → Result Trees SdpRefusal) → PlainElement → Result Tree SdpRefusal
tree_of parts (Value value) = Ok (Leaf value)
tree_of parts (Sequence content) = do
  found ← parts content
  Ok (SequenceOf found)
tree_of parts (Alternative content) = do
  found ← parts content
  Ok (AlternativeOf found)

-- the tree of an element, and the octets behind the element
abbrev pub whole : (List ℕ → Result Trees SdpRefusal) → PlainElement × List ℕ → Result (Tree × List ℕ) SdpRefusal
whole parts front = do
  tree ← tree_of parts front.0
  Ok (tree, front.1)

-- parts that are to be judged where no level is left: there are none
abbrev pub no_parts : List ℕ → Result Trees SdpRefusal
no_parts octets = Err TooDeep

-- the element at the front with all its parts, and the octets behind it; a part must end within what holds it
unfoldable pub tree_at : SdpRefusal → ℕ → List ℕ → Result (Tree × List ℕ) SdpRefusal
tree_at past zero octets = front_at past 0 octets >>= whole no_parts
tree_at past (suc levels) octets = front_at past (suc levels) octets >>= whole (λ content. parts_at (tree_at LengthMismatch levels) (length content) content)

-- the parts that octets are, to their end; each part has at least one octet
unfoldable pub parts_in : ℕ → List ℕ → Result Trees SdpRefusal
parts_in levels content = parts_at (tree_at LengthMismatch levels) (length content) content

-- ---- what functions answer

-- what stands at the front of octets, seen by view, and by used how many octets it has: the rest is behind it
abbrev pub Gives : {X Y : Type 0} → (X → Y) → (X → ℕ) → List ℕ → Result X SdpRefusal → Result (Y × List ℕ) SdpRefusal → Type 0
Gives view used octets (Ok x) read = (used x ≤ length octets) × (read ≡ Ok (view x, drop (used x) octets))
Gives view used octets (Err e) read = read ≡ Err e

-- an element that holds others begins only where a level is left
abbrev pub IsWithin : ℕ → PlainElement → Type 0
IsWithin levels (Value value) = ⊤
IsWithin levels (Sequence content) = 0 < levels
IsWithin levels (Alternative content) = 0 < levels

-- the parts that a lent element holds are those of the tree
abbrev pub Shows : ℕ → PlainElement → Tree → Type 0
Shows levels (Value value) tree = tree ≡ Leaf value
Shows levels (Sequence content) tree = (parts : Trees) × (parts_in levels content ≡ Ok parts) × (tree ≡ SequenceOf parts)
Shows levels (Alternative content) tree = (parts : Trees) × (parts_in levels content ≡ Ok parts) × (tree ≡ AlternativeOf parts)

-- the same as Gives for an element with all its parts, of which so many levels of elements that hold others were let in
abbrev pub GivesTree : {X : Type 0} → (X → PlainElement) → (X → ℕ) → ℕ → List ℕ → Result X SdpRefusal → Result (Tree × List ℕ) SdpRefusal → Type 0
GivesTree view used levels octets (Ok x) read = (used x ≤ length octets) × ((tree : Tree) × (read ≡ Ok (tree, drop (used x) octets)) × Shows (levels - 1) (view x) tree)
GivesTree view used levels octets (Err e) read = read ≡ Err e
