-- What the patterns and the lists that the code lends stand for.
use Rattle.std.specs.Prelude.{◌≡◌, ℕ, List, Some}
use Rattle.sdp_elements.specs.Answers.{Range}
use Rattle.sdp_elements.specs.Elements.{Trees, left_of}
use Rattle.sdp_elements.specs.Sequences.{collected}
use Rattle.sdp_elements.specs.Spelling.{AreSpelledBy}
use Rattle.sdp_server.specs.declared.list.AttributeList.{AttributeList}
use Rattle.sdp_server.specs.declared.pattern.Pattern.{Pattern}
use Rattle.sdp_server.specs.Requests.{uuid_of, range_of}

-- the list has these ranges
abbrev pub Lists : AttributeList → List Range → Type 0
Lists list ranges = (parts : Trees) × AreSpelledBy parts (left_of list.ranges) × (collected range_of parts ≡ Some ranges)

-- the pattern has these identifiers
abbrev pub Seeks : Pattern → List (List ℕ) → Type 0
Seeks pattern identifiers = (parts : Trees) × AreSpelledBy parts (left_of pattern.identifiers) × (collected uuid_of parts ≡ Some identifiers)
