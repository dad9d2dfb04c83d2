-- What a host does with its channels, and what it may ask of them (Core 5.1, Volume 3 Part A, 2.1, 4 and 6).
use Rattle.std.specs.Prelude.{ℕ, ◌&&◌, ◌||◌, nat_lt, nat_le, max, Bool, true, false, List, [], ◌∷◌, ◌++◌, length, drop, slice_get, map, fold, Option, Some, None, is_some, option_map, if◌then◌else◌}
use Rattle.std.specs.List.{list_any, flat_map}
use Rattle.ertm_model.specs.Value.{armed as machine_armed, window_used as machine_window}
use Rattle.ertm_model.specs.Submitting.{is_busy, submitted}
use Rattle.channel_model.specs.declared.errand.Errand.TheVariants.{Connection, Disconnection, Features}
use Rattle.channel_model.specs.declared.event.ChannelEvent.{ChannelEvent}
use Rattle.channel_model.specs.declared.event.ChannelEvent.TheVariants.{Closed}
use Rattle.channel_model.specs.declared.event.CloseReason.TheVariants.{LinkDown, OwnClosed}
use Rattle.channel_model.specs.Value.{Own, Unasked, Asking, Granted, Carrier, Plain, Retransmitting, Setup, Stage, Requested, Connected, Leaving, Closing, Crossed, Held, Channels, no_channels}
use Rattle.channel_model.specs.Changing.{held_at, to_stage, to_setup, setup_of, has_fcs_by, is_open}
use Rattle.channel_model.specs.Asking.{new_request, asks}
use Rattle.channel_model.specs.Closing.{closes}
use Rattle.channel_model.specs.Following.{with_channel}

-- ---- the link

-- a link is there: it has no channels
abbrev pub link_up : Channels → Channels
link_up v = record no_channels { events = v.events }

abbrev pub lost_at : Stage → Held → List ChannelEvent
lost_at (Requested request) held = Closed held.own held.psm LinkDown ∷ []
lost_at (Connected peer setup) held = Closed held.own held.psm LinkDown ∷ []
lost_at (Leaving peer setup request) held = Closed held.own held.psm LinkDown ∷ []
lost_at (Closing peer request checked) held = []
lost_at (Crossed peer request) held = []

-- the link is no more: each channel that was not closed is so now
abbrev pub link_down : Channels → Channels
link_down v = record no_channels { events = v.events ++ flat_map (λ held. lost_at held.stage held) v.held }

-- ---- asking for a channel

-- at most four channels count, and each endpoint is given one time on a link
abbrev pub can_connect : Channels → Bool
can_connect v = nat_lt (length v.held) 4 && nat_le v.next 0xFFFF

-- the own endpoint of the channel that is asked for
abbrev pub connect_answer : Channels → Option ℕ
connect_answer v = if can_connect v then Some v.next else None

abbrev pub connected : (psm : ℕ) → Channels → Channels
connected psm v = if can_connect v then asks (Connection v.next) (with_channel psm (Requested (new_request v)) v) else v

-- ---- asking for the features

abbrev pub asks_features : Channels → Channels
asks_features v = if is_some v.features then v else asks Features (record v { features = Some (new_request v) })

-- ---- asking for the end of a channel

-- one that is only asked for ends at once
abbrev pub disconnected_at : Stage → Held → Channels → Channels
disconnected_at (Requested request) held v = closes OwnClosed held v
disconnected_at (Connected peer setup) held v = asks (Disconnection held.own) (to_stage held (Leaving peer setup (new_request v)) v)
disconnected_at (Leaving peer setup request) held v = v
disconnected_at (Closing peer request checked) held v = v
disconnected_at (Crossed peer request) held v = v

abbrev pub disconnected_held : Option Held → Channels → Channels
disconnected_held None v = v
disconnected_held (Some held) v = disconnected_at held.stage held v

abbrev pub disconnected : (own : ℕ) → Channels → Channels
disconnected own v = disconnected_held (held_at own v) v

-- ---- an open channel

abbrev pub setup_on : Option Held → Option Setup
setup_on None = None
setup_on (Some held) = setup_of held.stage

abbrev pub carrier_if : Bool → Setup → Option Carrier
carrier_if true setup = setup.carrier
carrier_if false setup = None

abbrev pub open_carrier : Option Setup → Option Carrier
open_carrier None = None
open_carrier (Some setup) = carrier_if (is_open setup) setup

-- what carries the SDUs of an open channel
abbrev pub carrier_at : (own : ℕ) → Channels → Option Carrier
carrier_at own v = open_carrier (setup_on (held_at own v))

abbrev pub carrier_mtu : Carrier → ℕ
carrier_mtu (Plain agreed waiting) = agreed.send_mtu
carrier_mtu (Retransmitting machine) = machine.agreed.send_mtu

-- the longest SDU that the peer takes; there is none where the channel is not open
abbrev pub peer_mtu : (own : ℕ) → Channels → Option ℕ
peer_mtu own v = option_map carrier_mtu (carrier_at own v)

-- an SDU that was taken waits
abbrev pub carrier_waits : Carrier → Bool
carrier_waits (Plain agreed waiting) = is_some waiting
carrier_waits (Retransmitting machine) = is_busy machine

abbrev pub some_waits : Option Carrier → Bool
some_waits None = false
some_waits (Some carrier) = carrier_waits carrier

abbrev pub waits : (own : ℕ) → Channels → Bool
waits own v = some_waits (carrier_at own v)

-- ---- sending

abbrev pub carrier_with : Carrier → List ℕ → Carrier
carrier_with (Plain agreed waiting) sdu = Plain agreed (if is_some waiting then waiting else Some sdu)
carrier_with (Retransmitting machine) sdu = Retransmitting (submitted sdu machine)

abbrev pub sends_setup : Setup → List ℕ → Setup
sends_setup setup sdu = if is_open setup then record setup { carrier = option_map (λ carrier. carrier_with carrier sdu) setup.carrier } else setup

abbrev pub sends_on : Option Setup → List ℕ → Held → Channels → Channels
sends_on None sdu held v = v
sends_on (Some setup) sdu held v = to_setup held (sends_setup setup sdu) v

abbrev pub sends_held : Option Held → List ℕ → Channels → Channels
sends_held None sdu v = v
sends_held (Some held) sdu v = sends_on (setup_of held.stage) sdu held v

-- an SDU waits from now on, where the channel is open and none waits
abbrev pub sends : (own : ℕ) → List ℕ → Channels → Channels
sends own sdu v = sends_held (held_at own v) sdu v

-- ---- what may be asked

-- an own request for options waits for its response
abbrev pub own_waits : Own → Bool
own_waits Unasked = false
own_waits (Asking request options) = true
own_waits Granted = false

abbrev pub carrier_armed : Option Carrier → Bool
carrier_armed None = false
carrier_armed (Some (Plain agreed waiting)) = false
carrier_armed (Some (Retransmitting machine)) = machine_armed machine

abbrev pub is_armed : Stage → Bool
is_armed (Requested request) = true
is_armed (Connected peer setup) = own_waits setup.own || carrier_armed setup.carrier
is_armed (Leaving peer setup request) = true
is_armed (Closing peer request checked) = true
is_armed (Crossed peer request) = true

-- an own request waits for its response, or a machine for an acknowledgement or the answer to a poll
abbrev pub armed : Channels → Bool
armed v = is_some v.features || list_any (λ held. is_armed held.stage) v.held

-- where the host closed the channel it is as it was before
abbrev pub has_fcs_at : Stage → Bool
has_fcs_at (Requested request) = false
has_fcs_at (Connected peer setup) = has_fcs_by setup
has_fcs_at (Leaving peer setup request) = has_fcs_by setup
has_fcs_at (Closing peer request checked) = checked
has_fcs_at (Crossed peer request) = false

abbrev pub has_fcs_on : Option Held → Bool
has_fcs_on None = false
has_fcs_on (Some held) = has_fcs_at held.stage

-- What comes in for an endpoint has a check word: its channel wishes retransmission, and the peer's options were accepted. So
-- it is until the channel has ended for the host: the answer to its request for the end came, or it answered the peer's.
abbrev pub has_fcs : (own : ℕ) → Channels → Bool
has_fcs own v = has_fcs_on (held_at own v)

abbrev pub carrier_window : Option Carrier → ℕ
carrier_window None = 0
carrier_window (Some (Plain agreed waiting)) = 0
carrier_window (Some (Retransmitting machine)) = machine_window machine

abbrev pub setup_window : Option Setup → ℕ
setup_window None = 0
setup_window (Some setup) = carrier_window setup.carrier

-- the most frames that are not acknowledged on a channel
abbrev pub window_used : Channels → ℕ
window_used v = fold max 0 (map (λ held. setup_window (setup_of held.stage)) v.held)

-- ---- events

-- the next event, in the order in which they arose, and the channels without it
abbrev pub next_event : Channels → Option ChannelEvent
next_event v = slice_get v.events 0

abbrev pub after_event : Channels → Channels
after_event v = record v { events = drop 1 v.events }
