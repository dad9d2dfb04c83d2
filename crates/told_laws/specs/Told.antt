-- Which ends of its channels a host is not told while few turns upset (Core 5.1, Volume 3 Part A, 4.6, 4.10, 6.2.1 and 8.6.5; which turns upset is this project's own).
use Rattle.std.specs.Prelude.{ℕ, List}
use Rattle.std.specs.List.{AllByRecursion}
use Rattle.channel_laws.specs.ertm_model.specs.declared.reason.ErtmReason.{ErtmReason}
use Rattle.channel_laws.specs.ertm_model.specs.declared.reason.ErtmReason.TheVariants as machines
use Rattle.channel_laws.specs.channel_model.specs.declared.errand.Errand.TheVariants.{Connection}
use Rattle.channel_laws.specs.channel_model.specs.declared.event.ChannelEvent.{ChannelEvent}
use Rattle.channel_laws.specs.channel_model.specs.declared.event.ChannelEvent.TheVariants.{Opened, Closed, Features, FeaturesLost, DisconnectLost}
use Rattle.channel_laws.specs.channel_model.specs.declared.event.CloseReason.{CloseReason}
use Rattle.channel_laws.specs.channel_model.specs.declared.event.CloseReason.TheVariants.{PeerClosed, Refused, NoAgreement, RetryLimit, Ertm, LinkDown, OwnClosed}
use Rattle.channel_laws.specs.channel_model.specs.Policies.{Policy}
use Rattle.channel_laws.specs.Heeded.{AreMet}
use Rattle.channel_laws.specs.Pairs.{Near, Turn, pair_of}
use Rattle.channel_laws.specs.Pipes.{CanStateBoth}
use Rattle.channel_laws.specs.Runs.{arisen}
use Rattle.staying_laws.specs.forgoing_laws.specs.configuration_laws.specs.Met.{Remains}
use Rattle.staying_laws.specs.forgoing_laws.specs.Lasts.{AreOrderly}
use Rattle.staying_laws.specs.Stays.{FewNearMachines, AnswerWell}

-- ---- what a host may be told

-- a machine that meets its limit closes its channel as `RetryLimit`, never by a reason of its own
abbrev pub IsNoLimit : ErtmReason → Type 0
IsNoLimit machines.BadReqSeq = Unit {0}
IsNoLimit machines.Srej = Unit {0}
IsNoLimit machines.BadSegment = Unit {0}
IsNoLimit machines.RetryLimit = ⊥
IsNoLimit machines.TooLongSdu = Unit {0}
IsNoLimit machines.BadFrame = Unit {0}

-- the peer did not close the channel; and where it is one of these, nothing on it was given as often as may be
abbrev pub EndsMildly : (These : ℕ → Type 0) → (own : ℕ) → CloseReason → Type 0
EndsMildly These own PeerClosed = ⊥
EndsMildly These own (Refused result) = Unit {0}
EndsMildly These own NoAgreement = Unit {0}
EndsMildly These own RetryLimit = These own → ⊥
EndsMildly These own (Ertm reason) = IsNoLimit reason
EndsMildly These own LinkDown = Unit {0}
EndsMildly These own OwnClosed = Unit {0}

-- nor was the question for the peer's features, nor the request for the end of a channel that was closed
abbrev pub IsMild : (These : ℕ → Type 0) → ChannelEvent → Type 0
IsMild These (Opened own psm) = Unit {0}
IsMild These (Closed own psm reason) = EndsMildly These own reason
IsMild These (Features features) = Unit {0}
IsMild These FeaturesLost = ⊥
IsMild These (DisconnectLost own) = ⊥

-- the request for the end of a channel that was closed was given as often as may be
abbrev pub IsEndLost : ChannelEvent → Type 0
IsEndLost (Opened own psm) = ⊥
IsEndLost (Closed own psm reason) = ⊥
IsEndLost (Features features) = ⊥
IsEndLost FeaturesLost = ⊥
IsEndLost (DisconnectLost own) = Unit {0}

-- ---- the law

-- The near host was told of no channel that its peer closed, not that its question for the features was lost or the end of a channel that it closed, and of no channel that remains at the far one that its
-- requests, or its machine, met a limit. And the far one was told of no such end. Nor does anything of this wait to be told.
pub record ToldMildly (near far : Policy) (turns : List Turn) : Type 0 where
  pub near_told : AllByRecursion (IsMild (λ own. Remains own (pair_of near far turns).far.run.said)) (arisen (pair_of near far turns).near.run)
  pub far_told : AllByRecursion (λ event. IsEndLost event → ⊥) (arisen (pair_of near far turns).far.run)

-- Whatever the link loses, repeats and damages: so it is where fewer turns upset than both hosts try, the far one asks for no channel and no end, both answer requests for options with success, and each of
-- the near one's requests for a channel is responded to.
abbrev pub FewTurnsTellMildly : Type 0
FewTurnsTellMildly = (near far : Policy) (turns : List Turn) → ((psm : ℕ) → CanStateBoth near far psm) → AreOrderly near far turns → FewNearMachines near far turns → AnswerWell near far turns → ((own : ℕ) → AreMet (Connection own) Near near far turns) → ToldMildly near far turns
