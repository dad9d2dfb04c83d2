-- Where a channel is kept.
use Rattle.std.specs.Prelude.{ℕ, List, [], ◌++◌, Bool, true, false, slice_get, option_map, Option, Some, None}
use Rattle.channel_model.specs.declared.event.ChannelEvent.{ChannelEvent}
use Rattle.channel_model.specs.Value.{Setup, Stage, Held, Channels}
use Rattle.l2cap_channels.specs.declared.stage.Stage.{Stage as Kept}
use Rattle.l2cap_channels.specs.Places.{IsStage}
use Rattle.channel_model.specs.Calls.{carrier_mtu, open_carrier, setup_on, some_waits, lost_at}
use Rattle.channel_model.specs.Following.{with_channel}

-- the channel at a place
abbrev pub place_at : Option ℕ → Channels → Option Held
place_at None v = None
place_at (Some at) v = slice_get v.held at

-- a channel is there, where one may be
abbrev pub added : Bool → (psm : ℕ) → Stage → Channels → Channels
added true psm stage v = with_channel psm stage v
added false psm stage v = v

-- what is done to the channel at a place
abbrev pub on_place : (Held → Channels → Channels) → Option Held → Channels → Channels
on_place f None v = v
on_place f (Some held) v = f held v

-- the channel at a place is at this stage
abbrev pub IsStageAt : Option Held → Kept → Type 0
IsStageAt None stage = ⊥
IsStageAt (Some held) stage = IsStage stage held.stage

-- the longest SDU that may be sent on the channel at a place
abbrev pub place_mtu : Option Held → Option ℕ
place_mtu held = option_map carrier_mtu (open_carrier (setup_on held))

-- an SDU that was taken waits on the channel at a place
abbrev pub place_waits : Option Held → Bool
place_waits held = some_waits (open_carrier (setup_on held))

-- that the channel at a place is lost with the link
abbrev pub place_lost : Option Held → List ChannelEvent
place_lost None = []
place_lost (Some held) = lost_at held.stage held

abbrev pub loses : Option Held → Channels → Channels
loses held v = record v { events = v.events ++ place_lost held }

-- how far the options are of the channel at a place
abbrev pub place_setup : Option Held → Option Setup
place_setup held = setup_on held
