-- Laws of requests and their replies.
use Rattle.std.specs.Prelude.{◌≡◌, ℕ, ◌<◌, ◌≤◌, ◌^◌, List, length, Some}
use Rattle.std.specs.List.{AllByRecursion}
use Rattle.bt_base.specs.Octets.{IsOctets}
use Rattle.bt_base.specs.declared.settings.Serves.{Serves}
use Rattle.sdp_elements.specs.Answers.{Range, Handles, Attributes, Search, answer}
use Rattle.sdp_elements.specs.Exchange.{pdu_octets, offset_in, part_reply}
use Rattle.sdp_elements.specs.Questions.{handles_parameters, attributes_parameters, search_parameters}
use Rattle.sdp_server.specs.Replies.{reply_to}
use Rattle.sdp_server.specs.Requests.{request_in}

-- an identifier has sixteen octets
abbrev pub IsUuid : List ℕ → Type 0
IsUuid octets = (length octets ≡ 16) × IsOctets octets

abbrev pub IsPattern : List (List ℕ) → Type 0
IsPattern pattern = (1 ≤ length pattern) × (length pattern ≤ 12) × AllByRecursion IsUuid pattern

abbrev pub IsRange : Range → Type 0
IsRange range = (range.low ≤ range.high) × (range.high < 2 ^ 16)

abbrev pub AreRanges : List Range → Type 0
AreRanges ranges = (length ranges < 2 ^ 16) × AllByRecursion IsRange ranges

abbrev pub IsState : List ℕ → Type 0
IsState continuation = length continuation ≤ 16

-- a request in its shortest form is read as what it asks
pub record ReadsAgain : Type 0 where
  pub handles : (pattern : List (List ℕ)) (most : ℕ) (continuation : List ℕ) → IsPattern pattern → 1 ≤ most → most < 2 ^ 16 → IsState continuation →
      request_in 2 (handles_parameters pattern most continuation) ≡ Some (record { question = Handles pattern; most = most; continuation = continuation })
  pub attributes : (handle most : ℕ) (ranges : List Range) (continuation : List ℕ) → handle < 2 ^ 32 → 7 ≤ most → most < 2 ^ 16 → AreRanges ranges → IsState continuation →
      request_in 4 (attributes_parameters handle most ranges continuation) ≡ Some (record { question = Attributes handle ranges; most = most; continuation = continuation })
  pub search : (pattern : List (List ℕ)) (most : ℕ) (ranges : List Range) (continuation : List ℕ) → IsPattern pattern → 7 ≤ most → most < 2 ^ 16 → AreRanges ranges → IsState continuation →
      request_in 6 (search_parameters pattern most ranges continuation) ≡ Some (record { question = Search pattern ranges; most = most; continuation = continuation })

-- a search is answered by the part of its answer that its continuation state names
abbrev pub AnswersSearches : Type 0
AnswersSearches = (serves : Serves) (room transaction most offset : ℕ) (pattern : List (List ℕ)) (ranges : List Range) (continuation : List ℕ) → transaction < 2 ^ 16 → IsPattern pattern → 7 ≤ most → most < 2 ^ 16 → AreRanges ranges → IsState continuation
    → length (search_parameters pattern most ranges continuation) < 2 ^ 16 → offset_in continuation (length (answer serves (Search pattern ranges))) ≡ Some offset
    → reply_to serves room (pdu_octets 6 transaction (search_parameters pattern most ranges continuation)) ≡ part_reply 7 transaction (answer serves (Search pattern ranges)) offset most room
