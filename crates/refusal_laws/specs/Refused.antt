-- With which results a host is told that its peer refused a channel (Core 5.1, Volume 3 Part A, 4.3).
use Rattle.std.specs.Prelude.{ℕ, ◌≡◌, List}
use Rattle.std.specs.List.{AllByRecursion}
use Rattle.channel_laws.specs.channel_model.specs.declared.event.ChannelEvent.{ChannelEvent}
use Rattle.channel_laws.specs.channel_model.specs.declared.event.ChannelEvent.TheVariants.{Opened, Closed, Features, FeaturesLost, DisconnectLost}
use Rattle.channel_laws.specs.channel_model.specs.declared.event.CloseReason.{CloseReason}
use Rattle.channel_laws.specs.channel_model.specs.declared.event.CloseReason.TheVariants.{PeerClosed, Refused, NoAgreement, RetryLimit, Ertm, LinkDown, OwnClosed}
use Rattle.channel_laws.specs.channel_model.specs.Policies.{Policy}
use Rattle.channel_laws.specs.Runs.{Occurrence, run_of, arisen}

-- Result 0 grants a channel, and behind 1 another response follows: neither refuses it.
pub record IsRefusingResult (result : ℕ) : Type 0 where
  pub no_grant : result ≡ 0 → ⊥
  pub not_pending : result ≡ 1 → ⊥

-- Where a channel closed because it was refused, the result is one that refuses. While the link is up none closes because it went down.
abbrev pub ClosesRightly : CloseReason → Type 0
ClosesRightly PeerClosed = Unit {0}
ClosesRightly (Refused result) = IsRefusingResult result
ClosesRightly NoAgreement = Unit {0}
ClosesRightly RetryLimit = Unit {0}
ClosesRightly (Ertm reason) = Unit {0}
ClosesRightly LinkDown = ⊥
ClosesRightly OwnClosed = Unit {0}

abbrev pub TellsRightly : ChannelEvent → Type 0
TellsRightly (Opened own psm) = Unit {0}
TellsRightly (Closed own psm reason) = ClosesRightly reason
TellsRightly (Features features) = Unit {0}
TellsRightly FeaturesLost = Unit {0}
TellsRightly (DisconnectLost own) = Unit {0}

-- So is all that a host is told, or that waits to be told, whatever happens to the channels of a link.
abbrev pub RefusalsHaveResults : Type 0
RefusalsHaveResults = (policy : Policy) (occurrences : List Occurrence) → AllByRecursion TellsRightly (arisen (run_of policy occurrences))
