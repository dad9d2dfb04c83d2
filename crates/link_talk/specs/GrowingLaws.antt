-- What one saying more does to the readings of a channel: each only gains behind what it had, and no mode changes.
use Rattle.std.specs.Prelude.{ℕ, ◌≡◌, Bool, true, false, List, [], ◌∷◌, ◌++◌, find, Option, Some, None}
use Rattle.std.specs.List.{AllByRecursion}
use Rattle.capture.specs.Histories.{each_after}
use Rattle.link_talk.specs.declared.channel.Channel.{Channel}
use Rattle.link_talk.specs.declared.party.Party.{Party}
use Rattle.link_talk.specs.Sayings.{Saying}
use Rattle.link_talk.specs.declared.call.Call.{Call}
use Rattle.link_talk.specs.Requests.{Query, is_call, has_identifier, last_run}
use Rattle.link_talk.specs.Setups.{is_set}
use Rattle.link_talk.specs.Channels.{Entry, reading, read_on}
use Rattle.link_talk.specs.Carriages.{is_heard, is_passed, carried, stretch, passages, has_own, mode_of}
use Rattle.link_talk.specs.Sdus.{spoken, spoken_with}
use Rattle.link_talk.specs.Packets.{carrier, packet_with, packets}

-- ---- runs

-- nothing before a run, the latest first, goes on with it
abbrev pub BeginsRun : {X : Type 0} → (X → Bool) → List X → Type 0
BeginsRun passes [] = Unit {0}
BeginsRun passes (x ∷ before) = passes x ≡ false

-- In a list with the latest first, x is the first of the last unbroken run of those that pass.
pub record IsFirst {X : Type 0} (passes : X → Bool) (list : List X) (x : X) : Type 0 where
  pub later : List X
  pub run : List X
  pub before : List X
  pub parts : list ≡ later ++ (run ++ x ∷ before)
  pub none_later : AllByRecursion (λ y. passes y ≡ false) later
  pub all_run : AllByRecursion (λ y. passes y ≡ true) run
  pub fits : passes x ≡ true
  pub begins : BeginsRun passes before

abbrev pub IsLastRun : {X : Type 0} → (X → Bool) → List X → Option X → Type 0
IsLastRun passes list None = AllByRecursion (λ y. passes y ≡ false) list
IsLastRun passes list (Some x) = IsFirst passes list x

-- ---- one saying more

abbrev pub ReadingGrows : Type 0
ReadingGrows = (said : List Saying) (more : Saying) → reading (said ++ more ∷ []) ≡ read_on (reading said) more

abbrev pub StretchGrows : Type 0
StretchGrows = (channel : Channel) (said : List Saying) (more : Saying) → stretch channel (said ++ more ∷ []) ≡ stretch channel said ++ carried is_heard channel said more

abbrev pub PassagesGrow : Type 0
PassagesGrow = (channel : Channel) (said : List Saying) (more : Saying) → passages channel (said ++ more ∷ []) ≡ passages channel said ++ carried is_passed channel said more

-- the channel has opened
abbrev pub has_opened : Option Entry → Bool
has_opened None = false
has_opened (Some entry) = is_set entry.setup

abbrev pub HasOpened : Channel → List Saying → Type 0
HasOpened channel said = has_opened (find (has_own channel) (reading said).entries) ≡ true

-- from its opening on, the mode of a channel stands
abbrev pub ModeStands : Type 0
ModeStands = (channel : Channel) (said : List Saying) (more : Saying) → HasOpened channel said → (mode_of channel (said ++ more ∷ []) ≡ mode_of channel said) × HasOpened channel (said ++ more ∷ [])

-- the SDUs so far stay, and those of the PDU come behind them
abbrev pub SpokenGrows : Type 0
SpokenGrows = (party : Party) (channel : Channel) (said : List Saying) (more : Saying) → HasOpened channel said
    → spoken party channel (said ++ more ∷ []) ≡ spoken party channel said ++ each_after (spoken_with party (mode_of channel said)) (stretch channel said) (carried is_heard channel said more)

-- and so do the packets
abbrev pub PacketsGrow : Type 0
PacketsGrow = (party : Party) (channel : Channel) (said : List Saying) (more : Saying) → HasOpened channel said
    → packets party channel (said ++ more ∷ []) ≡ packets party channel said
    ++ each_after (packet_with party (carrier channel.psm)) (spoken party channel said) (each_after (spoken_with party (mode_of channel said)) (stretch channel said) (carried is_heard channel said more))

-- ---- which request is answered

-- what is found by going back over the requests is the first of the last run
abbrev pub CallsAreAnswered : Type 0
CallsAreAnswered = (identifier source : ℕ) (calls : List Call) → IsLastRun (is_call identifier source) calls (last_run (is_call identifier source) calls)

abbrev pub QueriesAreAnswered : Type 0
QueriesAreAnswered = (identifier : ℕ) (queries : List Query) → IsLastRun (has_identifier identifier) queries (last_run (has_identifier identifier) queries)
