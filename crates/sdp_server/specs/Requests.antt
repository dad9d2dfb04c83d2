-- Which octets are a request, and what it asks (Core 5.1, Volume 3 Part B, 4.5.1, 4.6.1 and 4.7.1).
use Rattle.std.specs.Prelude.{ℕ, ◌/◌, ◌%◌, ◌&&◌, ◌==◌, Bool, nat_le, nat_lt, if◌then◌else◌, List, length, drop, Option, Some, None, is_some}
use Rattle.byteorder.specs.Endian.{big_number}
use Rattle.sdp_elements.specs.Answers.{Range, Question, Handles, Attributes, Search}
use Rattle.sdp_elements.specs.Elements.{PlainElement, PlainValue, Nil, Unsigned, Signed, Uuid, Text, Boolean, Url, Value, Sequence, Alternative, Tree, Leaf, SequenceOf, AlternativeOf, Trees}
use Rattle.sdp_elements.specs.Exchange.{continuation_in}
use Rattle.sdp_elements.specs.Optional.{◌>>=◌}
use Rattle.sdp_elements.specs.Sequences.{sequence_at, collected}

-- ---- search patterns

abbrev pub uuid_value : PlainValue → Option (List ℕ)
uuid_value Nil = None
uuid_value (Unsigned width number) = None
uuid_value (Signed width number) = None
uuid_value (Uuid octets) = Some octets
uuid_value (Text octets) = None
uuid_value (Boolean truth) = None
uuid_value (Url octets) = None

-- the identifier that a part is
abbrev pub uuid_of : Tree → Option (List ℕ)
uuid_of (Leaf value) = uuid_value value
uuid_of (SequenceOf parts) = None
uuid_of (AlternativeOf parts) = None

-- one to twelve
abbrev pub is_some_identifiers : List (List ℕ) → Bool
is_some_identifiers identifiers = nat_le 1 (length identifiers) && nat_le (length identifiers) 12

-- the identifiers of a pattern, of which there are one to twelve
abbrev pub pattern_of : Trees → Option (List (List ℕ))
pattern_of parts = do
  identifiers ← collected uuid_of parts
  if is_some_identifiers identifiers then Some identifiers else None

-- the pattern at the front, and the octets behind it
abbrev pub pattern_at : List ℕ → Option (List (List ℕ) × List ℕ)
pattern_at octets = do
  found ← sequence_at octets
  identifiers ← pattern_of found.0
  Some (identifiers, found.1)

-- ---- attribute lists

-- an identifier in two octets is a range of its own; in four octets the low end stands in the high half, and is at most the high end
abbrev pub range_number : ℕ → ℕ → Option Range
range_number width number =
    if (width == 2) && nat_lt number 65536 then Some (record { low = number; high = number })
    else if (width == 4) && nat_le (number / 65536) (number % 65536) then Some (record { low = number / 65536; high = number % 65536 })
    else None

abbrev pub range_value : PlainValue → Option Range
range_value Nil = None
range_value (Unsigned width number) = range_number width number
range_value (Signed width number) = None
range_value (Uuid octets) = None
range_value (Text octets) = None
range_value (Boolean truth) = None
range_value (Url octets) = None

-- the range that a part is
abbrev pub range_of : Tree → Option Range
range_of (Leaf value) = range_value value
range_of (SequenceOf parts) = None
range_of (AlternativeOf parts) = None

-- the ranges of the list at the front, and the octets behind it
abbrev pub ranges_at : List ℕ → Option (List Range × List ℕ)
ranges_at octets = do
  found ← sequence_at octets
  ranges ← collected range_of found.0
  Some (ranges, found.1)

-- ---- numbers

-- the number in the first octets, at least so great, and the octets behind it
abbrev pub number_at : ℕ → ℕ → List ℕ → Option (ℕ × List ℕ)
number_at width least octets =
    if nat_le width (length octets) && nat_le least (big_number width octets) then Some (big_number width octets, drop width octets) else None

-- ---- whole requests

-- what is asked, how much a reply may carry (handles or octets), and the continuation state
pub record Request : Type 0 where
  pub question : Question
  pub most : ℕ
  pub continuation : List ℕ

-- at least one handle is asked for, or seven octets
abbrev pub least_handles : ℕ
least_handles = 1

abbrev pub least_octets : ℕ
least_octets = 7

abbrev pub handles_request : List ℕ → Option Request
handles_request parameters = do
  pattern ← pattern_at parameters
  most ← number_at 2 least_handles pattern.1
  continuation ← continuation_in most.1
  Some (record { question = Handles pattern.0; most = most.0; continuation = continuation })

abbrev pub attributes_request : List ℕ → Option Request
attributes_request parameters = do
  handle ← number_at 4 0 parameters
  most ← number_at 2 least_octets handle.1
  ranges ← ranges_at most.1
  continuation ← continuation_in ranges.1
  Some (record { question = Attributes handle.0 ranges.0; most = most.0; continuation = continuation })

abbrev pub search_request : List ℕ → Option Request
search_request parameters = do
  pattern ← pattern_at parameters
  most ← number_at 2 least_octets pattern.1
  ranges ← ranges_at most.1
  continuation ← continuation_in ranges.1
  Some (record { question = Search pattern.0 ranges.0; most = most.0; continuation = continuation })

-- the request that a PDU with this identifier and these parameters is
abbrev pub request_in : ℕ → List ℕ → Option Request
request_in identifier parameters =
    if identifier == 2 then handles_request parameters
    else if identifier == 4 then attributes_request parameters
    else if identifier == 6 then search_request parameters
    else None

-- ---- parts, without a look at their own parts

abbrev pub uuid_in : PlainElement → Option (List ℕ)
uuid_in (Value value) = uuid_value value
uuid_in (Sequence content) = None
uuid_in (Alternative content) = None

abbrev pub range_in : PlainElement → Option Range
range_in (Value value) = range_value value
range_in (Sequence content) = None
range_in (Alternative content) = None

-- the parts are a pattern
abbrev pub is_pattern : Trees → Bool
is_pattern parts = is_some (pattern_of parts)
