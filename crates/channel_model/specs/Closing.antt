-- How a channel is closed (Core 5.1, Volume 3 Part A, 4.6 and 4.7).
use Rattle.channel_model.specs.declared.errand.Errand.TheVariants.{Configuration, Disconnection}
use Rattle.channel_model.specs.declared.event.ChannelEvent.TheVariants.{Closed}
use Rattle.channel_model.specs.declared.event.CloseReason.{CloseReason}
use Rattle.channel_model.specs.declared.event.CloseReason.TheVariants.{PeerClosed}
use Rattle.channel_model.specs.Value.{Stage, Requested, Connected, Leaving, Closing, Crossed, Held, Channels}
use Rattle.channel_model.specs.Changing.{has_fcs_by, to_stage, gone, forgets, tells}
use Rattle.channel_model.specs.Asking.{new_request, asks}

abbrev pub closed_event : CloseReason → Held → Channels → Channels
closed_event reason held v = tells (Closed held.own held.psm reason) v

-- The host closes a channel. One that is only asked for is no more. For any other a request for its end goes out, unless one
-- waits.
abbrev pub closes_at : Stage → CloseReason → Held → Channels → Channels
closes_at (Requested request) reason held v = closed_event reason held (gone held v)
closes_at (Connected peer setup) reason held v =
    closed_event reason held (asks (Disconnection held.own) (to_stage held (Closing peer (new_request v) (has_fcs_by setup)) (forgets (Configuration held.own) v)))
closes_at (Leaving peer setup request) reason held v =
    closed_event reason held (to_stage held (Closing peer request (has_fcs_by setup)) (forgets (Configuration held.own) v))
closes_at (Closing peer request checked) reason held v = v
closes_at (Crossed peer request) reason held v = v

abbrev pub closes : CloseReason → Held → Channels → Channels
closes reason held v = closes_at held.stage reason held v

-- The peer's request for the end is answered. An own one that waits goes on waiting.
abbrev pub peer_closes_at : Stage → Held → Channels → Channels
peer_closes_at (Requested request) held v = v
peer_closes_at (Connected peer setup) held v = closed_event PeerClosed held (gone held v)
peer_closes_at (Leaving peer setup request) held v =
    closed_event PeerClosed held (to_stage held (Crossed peer request) (forgets (Configuration held.own) v))
peer_closes_at (Closing peer request checked) held v = to_stage held (Crossed peer request) v
peer_closes_at (Crossed peer request) held v = v

abbrev pub peer_closes : Held → Channels → Channels
peer_closes held v = peer_closes_at held.stage held v

-- A request for the end is done with: its response came, or it was given as often as may be. A channel that was not closed
-- before is so now.
abbrev pub ends_at : Stage → CloseReason → Held → Channels → Channels
ends_at (Requested request) reason held v = v
ends_at (Connected peer setup) reason held v = v
ends_at (Leaving peer setup request) reason held v = closed_event reason held (gone held v)
ends_at (Closing peer request checked) reason held v = gone held v
ends_at (Crossed peer request) reason held v = gone held v

abbrev pub ends : CloseReason → Held → Channels → Channels
ends reason held v = ends_at held.stage reason held v
