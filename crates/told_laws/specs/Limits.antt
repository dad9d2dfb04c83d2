-- On which channels a host meets a limit while few turns upset (Core 5.1, Volume 3 Part A, 4.6, 6.2.1 and 8.6.5; which turns upset is this project's own).
use Rattle.std.specs.Prelude.{ℕ, ◌≡◌, true, List, [], Option, Some, None, ◌⊎◌}
use Rattle.std.specs.List.{AllByRecursion}
use Rattle.channel_laws.specs.capture.specs.Histories.{EachAfter}
use Rattle.channel_laws.specs.channel_model.specs.declared.errand.Errand.TheVariants.{Connection}
use Rattle.channel_laws.specs.channel_model.specs.declared.event.ChannelEvent.{ChannelEvent}
use Rattle.channel_laws.specs.channel_model.specs.declared.event.ChannelEvent.TheVariants.{Opened, Closed, Features, FeaturesLost, DisconnectLost}
use Rattle.channel_laws.specs.channel_model.specs.declared.event.CloseReason.{CloseReason}
use Rattle.channel_laws.specs.channel_model.specs.declared.event.CloseReason.TheVariants.{PeerClosed, Refused, NoAgreement, RetryLimit, Ertm, LinkDown, OwnClosed}
use Rattle.channel_laws.specs.channel_model.specs.Changing.{held_at, is_open}
use Rattle.channel_laws.specs.channel_model.specs.Policies.{Policy}
use Rattle.channel_laws.specs.channel_model.specs.Value.{Carrier, Plain, Retransmitting, Stage, Requested, Connected, Leaving, Closing, Crossed, Held, Channels}
use Rattle.channel_laws.specs.Heeded.{AreMet}
use Rattle.channel_laws.specs.Pairs.{Near, Turn, pair_after, pair_of}
use Rattle.channel_laws.specs.Pipes.{CanStateBoth}
use Rattle.channel_laws.specs.Runs.{Run}
use Rattle.staying_laws.specs.forgoing_laws.specs.configuration_laws.specs.Asked.{HasAskedEnd}
use Rattle.staying_laws.specs.forgoing_laws.specs.Lasts.{AreOrderly}
use Rattle.staying_laws.specs.Stays.{FewNearMachines, AnswerWell}
use Rattle.told_laws.specs.Told.{IsMild}

-- ---- what is told

-- something was given as often as may be
abbrev pub IsLimit : CloseReason → Type 0
IsLimit PeerClosed = ⊥
IsLimit (Refused result) = ⊥
IsLimit NoAgreement = ⊥
IsLimit RetryLimit = Unit {0}
IsLimit (Ertm reason) = ⊥
IsLimit LinkDown = ⊥
IsLimit OwnClosed = ⊥

-- the channel of that endpoint was closed for it
abbrev pub IsLimitOf : (own : ℕ) → ChannelEvent → Type 0
IsLimitOf own (Opened other psm) = ⊥
IsLimitOf own (Closed other psm reason) = (other ≡ own) × IsLimit reason
IsLimitOf own (Features features) = ⊥
IsLimitOf own FeaturesLost = ⊥
IsLimitOf own (DisconnectLost other) = ⊥

abbrev pub MeetsNone : (own : ℕ) → List ChannelEvent → Type 0
MeetsNone own events = AllByRecursion (λ event. IsLimitOf own event → ⊥) events

-- ---- a channel

abbrev pub IsPlain : Option Carrier → Type 0
IsPlain None = ⊥
IsPlain (Some (Plain agreed waiting)) = Unit {0}
IsPlain (Some (Retransmitting machine)) = ⊥

-- it is open, and its SDUs go as they are; its end may be asked for
abbrev pub IsOpenPlain : Stage → Type 0
IsOpenPlain (Requested request) = ⊥
IsOpenPlain (Connected peer setup) = (is_open setup ≡ true) × IsPlain setup.carrier
IsOpenPlain (Leaving peer setup request) = (is_open setup ≡ true) × IsPlain setup.carrier
IsOpenPlain (Closing peer request checked) = ⊥
IsOpenPlain (Crossed peer request) = ⊥

abbrev pub IsPlainAt : (own : ℕ) → Channels → Type 0
IsPlainAt own v = (held : Held) → held_at own v ≡ Some held → IsOpenPlain held.stage

-- the host did not ask for the end of its channel of that endpoint, or that is open in basic mode, if it has one
abbrev pub IsSafe : (own : ℕ) → Run → Type 0
IsSafe own run = ((peer : ℕ) → HasAskedEnd own peer run.said → ⊥) ⊎ IsPlainAt own run.value

-- ---- the law

-- From one moment of a host to the next: nothing but what is mild waits to be told, and no limit is told of a channel that was safe, where none waited to be.
pub record LimitsNone (before after : Run) : Type 0 where
  pub waits : AllByRecursion (IsMild (λ own. ⊥)) before.value.events
  pub adds : (own : ℕ) → IsSafe own before → MeetsNone own before.value.events → MeetsNone own after.value.events

-- Whatever the link loses, repeats and damages: where fewer turns upset than both hosts try, and the rest is as it is for what the near host is told mildly, so it is of the near one at each turn.
abbrev pub FewTurnsLimitNone : Type 0
FewTurnsLimitNone = (near far : Policy) (turns : List Turn) → ((psm : ℕ) → CanStateBoth near far psm) → AreOrderly near far turns → FewNearMachines near far turns → AnswerWell near far turns → ((own : ℕ) → AreMet (Connection own) Near near far turns)
    → EachAfter (λ past turn. LimitsNone (pair_of near far past).near.run (pair_after (pair_of near far past) turn).near.run) [] turns
