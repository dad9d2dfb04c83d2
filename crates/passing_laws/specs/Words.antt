-- Words of a link of two hosts: something happens, and behind it both hosts give PDUs, send SDUs and ask for what they want, until they have nothing more to say
-- (this project's own; what timers do is said in Core 5.1, Volume 3 Part A, 6.2 and 8.6.5).
use Rattle.std.specs.Prelude.{ℕ, ◌≡◌, ◌+◌, ◌==◌, ◌&&◌, ◌||◌, not, Bool, true, false, List, [], ◌∷◌, ◌++◌, fold, Option, Some, None}
use Rattle.std.specs.List.{list_any, AllByRecursion}
use Rattle.channel_laws.specs.acl_fragments.specs.Pieces.{channel_of}
use Rattle.channel_laws.specs.link_talk.specs.declared.channel.Channel.{Channel}
use Rattle.channel_laws.specs.channel_model.specs.Value.{Carrier, Plain, Retransmitting, Setup, Channels}
use Rattle.channel_laws.specs.channel_model.specs.Changing.{held_at}
use Rattle.channel_laws.specs.channel_model.specs.Calls.{setup_on}
use Rattle.channel_laws.specs.channel_model.specs.Giving.{gives}
use Rattle.channel_laws.specs.Adverse.{seen_from}
use Rattle.channel_laws.specs.Pairs.{Pair, Happening, Acts, Puts, Takes, Repeats, Loses, Damages, Side, Near, Far, Turn, pair_after}
use Rattle.channel_laws.specs.Runs.{Fires}
use Rattle.channel_laws.specs.Tries.{one_if, is_firing}
use Rattle.recovery_laws.specs.Number.{is_due}

-- ---- words

-- what a host does of its own accord
abbrev pub is_unprompted : Happening → Bool
is_unprompted (Acts occurrence) = not (is_firing occurrence)
is_unprompted (Puts pdu) = true
is_unprompted Takes = false
is_unprompted Repeats = false
is_unprompted Loses = false
is_unprompted (Damages pdu) = false

-- the timer of one host, or of both
pub data Timers : Type 0 where
  OfOne : (side : Side) → Timers
  OfBoth : Timers

-- one turn, or timers
pub data Onset : Type 0 where
  ByTurn : (turn : Turn) → Onset
  ByTimers : (timers : Timers) → Onset

abbrev pub timer_of : Side → Turn
timer_of side = record { side = side; happening = Acts Fires }

abbrev pub timer_turns : Timers → List Turn
timer_turns (OfOne side) = timer_of side ∷ []
timer_turns OfBoth = timer_of Near ∷ timer_of Far ∷ []

abbrev pub onset_turns : Onset → List Turn
onset_turns (ByTurn turn) = turn ∷ []
onset_turns (ByTimers timers) = timer_turns timers

pub record Word : Type 0 where
  pub onset : Onset
  pub behind : List Turn

abbrev pub word_turns : Word → List Turn
word_turns word = onset_turns word.onset ++ word.behind

abbrev pub turns_of : List Word → List Turn
turns_of [] = []
turns_of (word ∷ words) = word_turns word ++ turns_of words

abbrev pub all_after : Pair → List Turn → Pair
all_after pair turns = fold pair_after pair turns

-- ---- when they may come

-- no channel of either host has anything to give
pub record AreSilent (pair : Pair) : Type 0 where
  pub near_none : list_any gives pair.near.run.value.held ≡ false
  pub far_none : list_any gives pair.far.run.value.held ≡ false

-- timers fire so only where nothing is under way
abbrev pub MayBegin : Onset → Pair → Type 0
MayBegin (ByTurn turn) pair = Unit {0}
MayBegin (ByTimers timers) pair = (pair.near.coming ≡ []) × (pair.far.coming ≡ [])

-- Each word begins where both hosts are silent, and so it is at the end.
abbrev pub AreWords : Pair → List Word → Type 0
AreWords pair [] = AreSilent pair
AreWords pair (word ∷ words) =
    AreSilent pair × MayBegin word.onset pair × AllByRecursion (λ (turn : Turn). is_unprompted turn.happening ≡ true) word.behind × AreWords (all_after pair (word_turns word)) words

-- So it begins, but the last one may not have ended.
abbrev pub HaveBegun : Pair → List Word → Type 0
HaveBegun pair [] = Unit {0}
HaveBegun pair (word ∷ words) =
    AreSilent pair × MayBegin word.onset pair × AllByRecursion (λ (turn : Turn). is_unprompted turn.happening ≡ true) word.behind × HaveBegun (all_after pair (word_turns word)) words

-- ---- what goes wrong

-- a loss, a repeat, damage, and a timer that fires while something is under way
abbrev pub wrong_in : Happening → ℕ
wrong_in (Acts occurrence) = one_if (is_firing occurrence)
wrong_in (Puts pdu) = 0
wrong_in Takes = 0
wrong_in Repeats = 1
wrong_in Loses = 1
wrong_in (Damages pdu) = 1

abbrev pub wrongs : Onset → ℕ
wrongs (ByTurn turn) = wrong_in turn.happening
wrongs (ByTimers timers) = 0

abbrev pub all_wrongs : List Word → ℕ
all_wrongs [] = 0
all_wrongs (word ∷ words) = wrongs word.onset + all_wrongs words

-- ---- passes that find something to do on a channel

abbrev pub is_first : (own : ℕ) → List (List ℕ) → Bool
is_first own [] = false
is_first own (pdu ∷ coming) = channel_of pdu == own

abbrev pub is_handed : Happening → Bool
is_handed (Acts occurrence) = false
is_handed (Puts pdu) = false
is_handed Takes = true
is_handed Repeats = false
is_handed Loses = false
is_handed (Damages pdu) = false

abbrev pub endpoint : Side → Channel → ℕ
endpoint Near channel = channel.own
endpoint Far channel = channel.peer

-- a retransmission machine has a poll to give
abbrev pub carrier_polls : Option Carrier → Bool
carrier_polls None = false
carrier_polls (Some (Plain agreed waiting)) = false
carrier_polls (Some (Retransmitting machine)) = is_due machine.sender.poll

abbrev pub setup_polls : Option Setup → Bool
setup_polls None = false
setup_polls (Some setup) = carrier_polls setup.carrier

abbrev pub polls_at : (own : ℕ) → Channels → Bool
polls_at own v = setup_polls (setup_on (held_at own v))

-- A PDU of the channel is handed over and goes; or timers fire where nothing is under way, and a machine of the channel has a poll to give for it.
abbrev pub finds : Channel → Onset → Pair → ℕ
finds channel (ByTurn turn) pair = one_if (is_handed turn.happening && is_first (endpoint turn.side channel) (seen_from turn.side pair).near.coming)
finds channel (ByTimers timers) pair =
    let after : Pair = all_after pair (timer_turns timers) in one_if (polls_at channel.own after.near.run.value || polls_at channel.peer after.far.run.value)

abbrev pub all_finds : Channel → Pair → List Word → ℕ
all_finds channel pair [] = 0
all_finds channel pair (word ∷ words) = finds channel word.onset pair + all_finds channel (all_after pair (word_turns word)) words
