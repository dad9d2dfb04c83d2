-- What a saying means for the channels of its link, once the request that it answers is known (Core 5.1, Volume 3 Part A,
-- 4.3 to 4.7).
use Rattle.std.specs.Prelude.{ℕ, ◌==◌, ◌%◌, ◌&&◌, not, nat_le, Bool, true, false, List, [], ◌∷◌, map, Option, Some, None, Result, Ok, Err, if◌then◌else◌}
use Rattle.capture.specs.declared.flow.Flow.{Flow}
use Rattle.capture.specs.declared.flow.Flow.TheVariants.{Out, Into}
use Rattle.capture.specs.Histories.{given_by}
use Rattle.l2cap_config.specs.declared.options.Options.{Options}
use Rattle.l2cap_config.specs.declared.options.ConfigRefusal.{ConfigRefusal}
use Rattle.l2cap_config.specs.Reading.{options_read}
use Rattle.link_talk.specs.declared.channel.Channel.{Channel}
use Rattle.link_talk.specs.Sayings.{Saying}
use Rattle.link_talk.specs.declared.word.Word.{Word}
use Rattle.link_talk.specs.Senses.{Sense, Asks, Opens, Ends, Quiet, Question, ForOptions, Reply, OnChannel, OnOptions, Forgone, sense}
use Rattle.link_talk.specs.declared.call.Wanted.{Wanted}
use Rattle.link_talk.specs.Requests.{Terms, Requests, requests, answered_call, answered_query, has_failed}

-- a request of the peer for options of a channel, as the host answered it: whether with success, and whether with the
-- flag that says that more options follow
pub record Part : Type 0 where
  pub own : ℕ
  pub peer : ℕ
  pub accepted : Bool
  pub more : Bool
  pub options : List ℕ

pub data Meaning : Type 0 where
  -- a request for a channel is granted
  Makes : (channel : Channel) → Meaning
  -- the host answers a request for options
  Answers : (part : Part) → Meaning
  -- the host asks for options of the channel of the peer's endpoint
  Wishes : (identifier peer : ℕ) (options : List ℕ) → Meaning
  -- the peer answers that, for the channel of the host's endpoint
  Settles : (identifier own : ℕ) → Meaning
  -- a channel goes to its end
  Parts : (word : Word) (own peer : ℕ) → Meaning
  Nothing : Meaning

abbrev pub granted : (own peer : ℕ) → Option Wanted → Meaning
granted own peer None = Nothing
granted own peer (Some wanted) = Makes (record { psm = wanted.psm; own = own; peer = peer })

-- the host grants a request of the peer, or the peer one of the host that has not come to nothing
abbrev pub made : Requests → Flow → (identifier destination source : ℕ) → Meaning
made asked Out identifier destination source = granted destination source (answered_call asked Into identifier source)
made asked Into identifier destination source =
    if has_failed asked identifier source then Nothing else granted source destination (answered_call asked Out identifier source)

abbrev pub answered : (peer flags answer : ℕ) → Option Terms → Meaning
answered peer flags answer None = Nothing
answered peer flags answer (Some terms) = Answers (record { own = terms.own; peer = peer; accepted = answer == 0; more = flags % 2 == 1; options = terms.options })

abbrev pub is_read : Result Options ConfigRefusal → Bool
is_read (Ok options) = true
is_read (Err refusal) = false

-- a response with malformed options is none, and result 4 says that another one follows (4.5)
abbrev pub settled : (identifier own answer : ℕ) → List ℕ → Meaning
settled identifier own answer options = if is_read (options_read options) && not (answer == 4) then Settles identifier own else Nothing

abbrev pub replied : Requests → Flow → ℕ → Reply → Meaning
replied asked flow identifier (OnChannel destination source answer) =
    if (answer == 0) && nat_le 0x0040 destination then made asked flow identifier destination source else Nothing
replied asked Out identifier (OnOptions endpoint flags answer options) = answered endpoint flags answer (answered_query asked identifier)
replied asked Into identifier (OnOptions endpoint flags answer options) = settled identifier endpoint answer options
replied asked flow identifier (Forgone own) = Nothing

abbrev pub wished : Flow → ℕ → Question → Meaning
wished Out identifier (ForOptions endpoint options) = Wishes identifier endpoint options
wished flow identifier question = Nothing

-- what a saying means behind the requests before it
abbrev pub meant : Requests → Sense → Meaning
meant asked (Asks flow identifier question) = wished flow identifier question
meant asked (Opens flow identifier reply) = replied asked flow identifier reply
meant asked (Ends word own peer) = Parts word own peer
meant asked Quiet = Nothing

-- the meanings of all that was said, one for each saying
abbrev pub meaning_behind : List Saying → Saying → List Meaning
meaning_behind past saying = meant (requests (map sense past)) (sense saying) ∷ []

abbrev pub meanings : List Saying → List Meaning
meanings said = given_by meaning_behind said
