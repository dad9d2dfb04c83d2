-- What a server answers to a question, as one list of octets (Core 5.1, Volume 3 Part B, 4.5 to 4.7).
use Rattle.std.specs.Prelude.{ℕ, ◌&&◌, Bool, nat_le, List, [], ◌∷◌, map, filter}
use Rattle.std.specs.List.{list_any, flat_map}
use Rattle.bt_base.specs.Octets.{be32}
use Rattle.bt_base.specs.declared.settings.Serves.{Serves}
use Rattle.sdp_elements.specs.Elements.{Tree, SequenceOf, Trees, Finish, Then}
use Rattle.sdp_elements.specs.Laws.{tree_octets}
use Rattle.sdp_elements.specs.Records.{Attribute, sequence_of, unsigned, record_handle, service_record, records, matching}

-- attribute identifiers from low to high, both ends among them
pub record Range : Type 0 where
  pub low : ℕ
  pub high : ℕ

abbrev pub is_within : ℕ → Range → Bool
is_within identifier range = nat_le range.low identifier && nat_le identifier range.high

abbrev pub is_listed : List Range → ℕ → Bool
is_listed ranges identifier = list_any (is_within identifier) ranges

-- what a request asks
pub data Question : Type 0 where
  -- the handles of the service records that a pattern finds (4.5.1)
  Handles : (pattern : List (List ℕ)) → Question
  -- the listed attributes of the service record with this handle (4.6.1)
  Attributes : (handle : ℕ) → (ranges : List Range) → Question
  -- the listed attributes of each service record that a pattern finds (4.7.1)
  Search : (pattern : List (List ℕ)) → (ranges : List Range) → Question

-- ---- attributes

-- identifier and value in turn
abbrev pub pairs_of : List Attribute → Trees
pairs_of [] = Finish
pairs_of (attribute ∷ others) = Then (unsigned 2 attribute.identifier) (Then attribute.value (pairs_of others))

-- the attributes that are listed
abbrev pub listed : List Range → List Attribute → List Attribute
listed ranges attributes = filter (λ attribute. is_listed ranges attribute.identifier) attributes

-- one sequence of the attributes that are listed
abbrev pub attribute_list : List Range → List Attribute → Tree
attribute_list ranges attributes = SequenceOf (pairs_of (listed ranges attributes))

-- ---- whole answers

-- the handle of each service record that the pattern finds
abbrev pub handles : Serves → List (List ℕ) → List ℕ
handles serves pattern = flat_map (λ _. be32 record_handle) (matching pattern (records serves))

-- one sequence of attribute lists, one for each service record that the pattern finds
abbrev pub attribute_lists : Serves → List (List ℕ) → List Range → Tree
attribute_lists serves pattern ranges = sequence_of (map (attribute_list ranges) (matching pattern (records serves)))

-- the whole answer to a question
abbrev pub answer : Serves → Question → List ℕ
answer serves (Handles pattern) = handles serves pattern
answer serves (Attributes handle ranges) = tree_octets (attribute_list ranges (service_record serves))
answer serves (Search pattern ranges) = tree_octets (attribute_lists serves pattern ranges)
