-- The channels of a link, read off its talk: how each comes to be, opens and ends (Core 5.1, Volume 3 Part A, 4.2 to 4.7).
-- A channel is closed by its host's own words: its request for the end, or its answer to the peer's.
use Rattle.std.specs.Prelude.{ℕ, ◌==◌, ◌&&◌, ◌||◌, not, is_some, Bool, true, false, List, [], ◌∷◌, ◌++◌, length, drop, map, fold, Option, Some, None, option_to_list, if◌then◌else◌}
use Rattle.std.specs.List.{filter_map, list_any}
use Rattle.capture.specs.Histories.{led_by}
use Rattle.link_talk.specs.declared.channel.Channel.{Channel}
use Rattle.link_talk.specs.declared.life.Life.{Life}
use Rattle.link_talk.specs.declared.life.Life.TheVariants.{Alive, Leaving, Crossed, Over}
use Rattle.link_talk.specs.Sayings.{Saying}
use Rattle.link_talk.specs.declared.word.Word.{Word}
use Rattle.link_talk.specs.declared.word.Word.TheVariants.{AsksEnd, AnswersEnd, EndAnswered, EndForgone}
use Rattle.link_talk.specs.Senses.{sense}
use Rattle.link_talk.specs.Requests.{Requests, no_requests, requests_after}
use Rattle.link_talk.specs.Meanings.{Meaning, Makes, Answers, Wishes, Settles, Parts, Nothing, meant}
use Rattle.link_talk.specs.Setups.{Setup, no_setup, setup_after, term}

-- ---- words on the end of a channel

-- the word, where it names both endpoints of the channel
abbrev pub word : Channel → Meaning → Option Word
word channel (Makes other) = None
word channel (Answers part) = None
word channel (Wishes identifier peer options) = None
word channel (Settles identifier own) = None
word channel (Parts said own peer) = if (own == channel.own) && (peer == channel.peer) then Some said else None
word channel Nothing = None

abbrev pub closes : Word → Bool
closes AsksEnd = true
closes AnswersEnd = true
closes EndAnswered = false
closes EndForgone = false

abbrev pub answers_end : Word → Bool
answers_end AsksEnd = false
answers_end AnswersEnd = true
answers_end EndAnswered = false
answers_end EndForgone = false

abbrev pub frees : Word → Bool
frees AsksEnd = false
frees AnswersEnd = false
frees EndAnswered = true
frees EndForgone = true

-- what is said behind the host's request for the end, where it had not answered the peer's before
abbrev pub behind_request : List Word → Option (List Word)
behind_request [] = None
behind_request (AsksEnd ∷ rest) = Some rest
behind_request (AnswersEnd ∷ rest) = None
behind_request (EndAnswered ∷ rest) = behind_request rest
behind_request (EndForgone ∷ rest) = behind_request rest

-- the request was answered, or is waited for no longer
abbrev pub is_freed : Option (List Word) → Bool
is_freed None = false
is_freed (Some rest) = list_any frees rest

-- the host closed the channel
abbrev pub is_closed : List Word → Bool
is_closed words = list_any closes words

-- the channel is no more: the host answered the peer's request for its end, or is done with its own
abbrev pub is_gone : List Word → Bool
is_gone words = list_any answers_end words || is_freed (behind_request words)

-- the host's own request for the end waits
abbrev pub is_left : List Word → Bool
is_left words = is_some (behind_request words) && not (is_freed (behind_request words))

-- ---- channels as they come to be

-- a channel, and how many sayings there were when it had come to be
pub record Birth : Type 0 where
  pub channel : Channel
  pub before : ℕ

-- what was meant since
abbrev pub since : List Meaning → Birth → List Meaning
since meant_so_far birth = drop birth.before meant_so_far

abbrev pub words : List Meaning → Birth → List Word
words meant_so_far birth = filter_map (word birth.channel) (since meant_so_far birth)

-- An endpoint of the host is given once, and the peer gives one of its own again when the channel that had it is no more.
abbrev pub is_taken : List Meaning → Channel → Birth → Bool
is_taken meant_so_far channel birth =
    (birth.channel.own == channel.own) || ((birth.channel.peer == channel.peer) && not (is_gone (words meant_so_far birth)))

abbrev pub made_by : Meaning → Option Channel
made_by (Makes channel) = Some channel
made_by (Answers part) = None
made_by (Wishes identifier peer options) = None
made_by (Settles identifier own) = None
made_by (Parts said own peer) = None
made_by Nothing = None

abbrev pub with_birth : List Meaning → List Birth → Channel → List Birth
with_birth now births channel =
    if list_any (is_taken now channel) births then births else births ++ record { channel = channel; before = length now } ∷ []

abbrev pub births_behind : List Meaning → List Birth → Meaning → List Birth
births_behind past births more = fold (with_birth (past ++ more ∷ [])) births (option_to_list (made_by more))

-- the channels of a link, in the order in which they came to be
abbrev pub births : List Meaning → List Birth
births meant_so_far = led_by births_behind [] [] meant_so_far

-- ---- the same in one pass

abbrev pub life_after : Life → Option Word → Life
life_after life None = life
life_after Alive (Some AsksEnd) = Leaving
life_after Alive (Some AnswersEnd) = Over
life_after Alive (Some said) = Alive
life_after Leaving (Some AsksEnd) = Leaving
life_after Leaving (Some AnswersEnd) = Crossed
life_after Leaving (Some said) = Over
life_after Crossed (Some AsksEnd) = Crossed
life_after Crossed (Some AnswersEnd) = Crossed
life_after Crossed (Some said) = Over
life_after Over (Some said) = Over

abbrev pub is_alive : Life → Bool
is_alive Alive = true
is_alive Leaving = false
is_alive Crossed = false
is_alive Over = false

-- it has not ended for its host
abbrev pub is_there : Life → Bool
is_there Alive = true
is_there Leaving = true
is_there Crossed = false
is_there Over = false

-- its host waits for the answer to its request for the end
abbrev pub waits_for_end : Life → Bool
waits_for_end Alive = false
waits_for_end Leaving = true
waits_for_end Crossed = true
waits_for_end Over = false

-- a channel, and what became of it
pub record Entry : Type 0 where
  pub channel : Channel
  pub life : Life
  pub setup : Setup

abbrev pub fresh : Channel → Entry
fresh channel = record { channel = channel; life = Alive; setup = no_setup }

abbrev pub entry_after : Meaning → Entry → Entry
entry_after more entry =
    record {
      channel = entry.channel;
      life = life_after entry.life (word entry.channel more);
      setup = if is_there entry.life then setup_after entry.setup (term entry.channel more) else entry.setup;
    }

-- what both sides asked for of a channel, and what its host accepted, while it was there
abbrev pub setup_of : List Meaning → Birth → Setup
setup_of meant_so_far birth = (fold (λ entry more. entry_after more entry) (fresh birth.channel) (since meant_so_far birth)).setup

abbrev pub is_owner : Channel → Entry → Bool
is_owner channel entry = (entry.channel.own == channel.own) || ((entry.channel.peer == channel.peer) && is_there entry.life)

abbrev pub with_fresh : List Entry → Channel → List Entry
with_fresh entries channel = if list_any (is_owner channel) entries then entries else entries ++ fresh channel ∷ []

abbrev pub entries_after : List Entry → Meaning → List Entry
entries_after entries more = fold with_fresh (map (entry_after more) entries) (option_to_list (made_by more))

-- what is held of the talk so far: the requests, and the channels
pub record Reading : Type 0 where
  pub requests : Requests
  pub entries : List Entry

abbrev pub nothing_read : Reading
nothing_read = record { requests = no_requests; entries = [] }

abbrev pub read_on : Reading → Saying → Reading
read_on held saying =
    record { requests = requests_after held.requests (sense saying); entries = entries_after held.entries (meant held.requests (sense saying)) }

abbrev pub reading : List Saying → Reading
reading said = fold read_on nothing_read said
