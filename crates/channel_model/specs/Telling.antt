-- What a host was told of its channels.
use Rattle.std.specs.Prelude.{ℕ, ◌==◌, ◌&&◌, Bool, true, false, List}
use Rattle.std.specs.List.{list_any}
use Rattle.channel_model.specs.declared.event.ChannelEvent.{ChannelEvent}
use Rattle.channel_model.specs.declared.event.ChannelEvent.TheVariants.{Opened, Closed, Features, FeaturesLost, DisconnectLost}
use Rattle.channel_model.specs.declared.event.CloseReason.{CloseReason}
use Rattle.channel_model.specs.declared.event.CloseReason.TheVariants.{PeerClosed, Refused, NoAgreement, RetryLimit, Ertm, LinkDown, OwnClosed}

-- that the channel of an own endpoint was closed, for a reason that passes
abbrev pub closes_for : (CloseReason → Bool) → (own : ℕ) → ChannelEvent → Bool
closes_for passes own (Opened other psm) = false
closes_for passes own (Closed other psm reason) = (other == own) && passes reason
closes_for passes own (Features features) = false
closes_for passes own FeaturesLost = false
closes_for passes own (DisconnectLost other) = false

abbrev pub any_reason : CloseReason → Bool
any_reason reason = true

-- what its retransmission machine closes a channel for
abbrev pub is_by_machine : CloseReason → Bool
is_by_machine PeerClosed = false
is_by_machine (Refused answer) = false
is_by_machine NoAgreement = false
is_by_machine RetryLimit = true
is_by_machine (Ertm reason) = true
is_by_machine LinkDown = false
is_by_machine OwnClosed = false

abbrev pub is_told_closed : (own : ℕ) → List ChannelEvent → Bool
is_told_closed own events = list_any (closes_for any_reason own) events

abbrev pub is_told_broken : (own : ℕ) → List ChannelEvent → Bool
is_told_broken own events = list_any (closes_for is_by_machine own) events
