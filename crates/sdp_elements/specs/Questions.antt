-- The parameters of requests in their shortest form (Core 5.1, Volume 3 Part B, 4.5.1, 4.6.1 and 4.7.1).
use Rattle.std.specs.Prelude.{ℕ, ◌+◌, ◌*◌, ◌==◌, if◌then◌else◌, List, ◌∷◌, ◌++◌, length, map}
use Rattle.bt_base.specs.Octets.{be16, be32}
use Rattle.sdp_elements.specs.Answers.{Range}
use Rattle.sdp_elements.specs.Elements.{Uuid, Tree, Leaf}
use Rattle.sdp_elements.specs.Laws.{tree_octets}
use Rattle.sdp_elements.specs.Records.{sequence_of, unsigned}

abbrev pub uuid_tree : List ℕ → Tree
uuid_tree octets = Leaf (Uuid octets)

-- a pattern is a sequence of identifiers
abbrev pub pattern_octets : List (List ℕ) → List ℕ
pattern_octets pattern = tree_octets (sequence_of (map uuid_tree pattern))

-- one identifier in two octets, a range in four with its low end in the high half
abbrev pub range_tree : Range → Tree
range_tree range = if range.low == range.high then unsigned 2 range.low else unsigned 4 (65536 * range.low + range.high)

-- an attribute list is a sequence of ranges
abbrev pub ranges_octets : List Range → List ℕ
ranges_octets ranges = tree_octets (sequence_of (map range_tree ranges))

abbrev pub handles_parameters : List (List ℕ) → ℕ → List ℕ → List ℕ
handles_parameters pattern most continuation = pattern_octets pattern ++ (be16 most ++ length continuation ∷ continuation)

abbrev pub attributes_parameters : ℕ → ℕ → List Range → List ℕ → List ℕ
attributes_parameters handle most ranges continuation = be32 handle ++ (be16 most ++ (ranges_octets ranges ++ length continuation ∷ continuation))

abbrev pub search_parameters : List (List ℕ) → ℕ → List Range → List ℕ → List ℕ
search_parameters pattern most ranges continuation = pattern_octets pattern ++ (be16 most ++ (ranges_octets ranges ++ length continuation ∷ continuation))
