-- The channels whose closing a host is told, as its talk is read (Core 5.1, Volume 3 Part A, 4.6 and 4.7).
use Rattle.std.specs.Prelude.{ℕ, List}
use Rattle.std.specs.List.{AllByRecursion}
use Rattle.own_channel_laws.specs.talk_laws.specs.link_talk.specs.Channels.{Entry, reading}
use Rattle.own_channel_laws.specs.channel_model.specs.declared.event.ChannelEvent.{ChannelEvent}
use Rattle.own_channel_laws.specs.channel_model.specs.declared.event.ChannelEvent.TheVariants as events
use Rattle.own_channel_laws.specs.channel_model.specs.Policies.{Policy}
use Rattle.own_channel_laws.specs.Endpoints.{IsOf}
use Rattle.own_channel_laws.specs.Runs.{Occurrence, run_of}
use Rattle.channel_laws.specs.Singly.{AsksForNoChannel}
use Rattle.own_channel_laws.specs.Views.{channel_by, read_at}

-- a channel is read that has this PSM
abbrev pub HasPsm : (own psm : ℕ) → List Entry → Type 0
HasPsm own psm entries = (peer : ℕ) × IsOf (channel_by psm own peer) (read_at own entries)

abbrev pub IsClosingRead : List Entry → ChannelEvent → Type 0
IsClosingRead entries (events.Opened own psm) = Unit {0}
IsClosingRead entries (events.Closed own psm reason) = HasPsm own psm entries
IsClosingRead entries (events.Features features) = Unit {0}
IsClosingRead entries events.FeaturesLost = Unit {0}
IsClosingRead entries (events.DisconnectLost own) = Unit {0}

-- Of a host that asks for no channel, each channel whose closing it was told is read, with the PSM that it was told.
abbrev pub ClosingsAreRead : Type 0
ClosingsAreRead = (policy : Policy) (list : List Occurrence) → AllByRecursion AsksForNoChannel list → AllByRecursion (IsClosingRead (reading (run_of policy list).said).entries) (run_of policy list).told
