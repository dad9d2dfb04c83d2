-- The profile of a server: its sessions and replies, its inbox, and the channels that its clients use (Object Push Profile 1.2, 4.3).
use Rattle.std.specs.Prelude.{ℕ, Bool, true, false, List, [], Option, Some, None, if◌then◌else◌}
use Rattle.rest_laws.specs.bt_base.specs.declared.settings.Settings.{Settings}
use Rattle.rest_laws.specs.bt_base.specs.Objects.{Contents}
use Rattle.channel_model.specs.declared.event.ChannelEvent.{ChannelEvent}
use Rattle.channel_model.specs.declared.event.ChannelEvent.TheVariants.{Opened, Closed, Features, FeaturesLost, DisconnectLost}
use Rattle.channel_model.specs.declared.event.CloseReason.{CloseReason}
use Rattle.channel_model.specs.declared.event.CloseReason.TheVariants.{PeerClosed, Refused, NoAgreement, RetryLimit, Ertm, LinkDown, OwnClosed}
use Rattle.channel_model.specs.Value.{Channels}
use Rattle.channel_model.specs.Policies.{policy}
use Rattle.channel_model.specs.Calls.{sends}
use Rattle.push_model.specs.Sessions.{Gift}
use Rattle.push_model.specs.Server as push
use Rattle.push_model.specs.Server.{Server, Reacted, Lent, new_server, on_sdu, channel_down, lends, lent_sdu, stepped}
use Rattle.rest_laws.specs.world_model.specs.Machines.{News, Linked, Up, Down, Failed, Heard, TimerFired, Cancelled, Opening}
use Rattle.host_model.specs.Circumstances.{Circumstance, answers_in}
use Rattle.host_model.specs.Pdus.{sdu_of}
use Rattle.host_model.specs.Endpoints.{Endpoint, endpoint_of, with_endpoint, takes_sdu}
use Rattle.host_model.specs.Profiles.{Stride, Profile}

pub record ServerProfile : Type 0 where
  pub server : Server
  -- what the inbox holds, and its answers that are not used up
  pub inbox : Gift
  -- the channel that brought the last SDU, for each PSM
  pub endpoints : List Endpoint
  -- it ends the link
  pub breaks : Bool

abbrev pub reacts : Reacted → ServerProfile → ServerProfile
reacts reacted serving = record serving { server = reacted.server; inbox = reacted.gift }

-- ---- links

abbrev pub unlinked : ServerProfile → ServerProfile
unlinked serving = record serving { endpoints = []; breaks = false }

abbrev pub told : List Circumstance → News → ServerProfile → ServerProfile
told circumstances (Linked Up) serving = unlinked serving
told circumstances (Linked (Down reason)) serving = unlinked (reacts (push.link_down serving.server serving.inbox) serving)
told circumstances (Failed status) serving = serving
told circumstances (Heard pdu) serving = serving
told circumstances TimerFired serving = serving
told circumstances Cancelled serving = serving
told circumstances (Opening name) serving = serving

-- ---- channels

-- a channel that went down with its link tells nothing of its own
abbrev pub is_told : CloseReason → Bool
is_told PeerClosed = true
is_told (Refused answer) = true
is_told NoAgreement = true
is_told RetryLimit = true
is_told (Ertm reason) = true
is_told LinkDown = false
is_told OwnClosed = true

-- where the client never answers the end of a channel that was closed, the server breaks the link
abbrev pub happened : ChannelEvent → Channels → ServerProfile → ServerProfile
happened (Opened own psm) channels serving = serving
happened (Closed own psm reason) channels serving = if is_told reason then reacts (channel_down psm serving.server serving.inbox) serving else serving
happened (Features features) channels serving = serving
happened FeaturesLost channels serving = serving
happened (DisconnectLost own) channels serving = record serving { breaks = true }

abbrev pub received : (own psm : ℕ) → List ℕ → ServerProfile → ServerProfile
received own psm sdu serving = reacts (on_sdu psm sdu serving.server serving.inbox) (record serving { endpoints = with_endpoint psm own serving.endpoints })

-- ---- its steps

abbrev pub waiting : Channels → Server → ServerProfile → Stride ServerProfile
waiting channels server serving = record { channels = channels; profile = record serving { server = server }; more = false }

-- what is lent is lent until its channel takes it
abbrev pub submits : Option ℕ → Lent → Channels → Server → ServerProfile → Stride ServerProfile
submits None lent channels server serving = waiting channels server serving
submits (Some own) lent channels server serving =
    if takes_sdu own (sdu_of lent.payload) channels then record { channels = sends own (sdu_of lent.payload) channels; profile = record serving { server = stepped server }; more = true }
    else waiting channels server serving

abbrev pub takes : Option Lent → Channels → Server → ServerProfile → Stride ServerProfile
takes None channels server serving = waiting channels server serving
takes (Some lent) channels server serving = submits (endpoint_of lent.psm serving.endpoints) lent channels server serving

abbrev pub next_stride : Channels → ServerProfile → Stride ServerProfile
next_stride channels serving = let server = lends serving.server in takes (lent_sdu server) channels server serving

-- ---- all of it

abbrev pub with_answers : List Circumstance → ServerProfile → ServerProfile
with_answers circumstances serving = record serving { inbox = record { content = serving.inbox.content; answers = answers_in circumstances } }

-- its inbox holds that at first; it pushes nothing, and nothing of its own waits for the timer
abbrev pub server_profile : Settings → Option Contents → Profile ServerProfile
server_profile settings content = record {
  policy = policy settings true;
  first = record { server = new_server settings; inbox = record { content = content; answers = [] }; endpoints = []; breaks = false };
  given = with_answers;
  told = told;
  received = received;
  happened = happened;
  sent = λ channels serving. serving;
  steps = next_stride;
  wants_link = λ serving. false;
  leaves_link = λ serving. serving.breaks;
  is_idle = λ serving. true;
  outcome = λ serving. None;
  armed = λ serving. false;
  may_cancel = λ serving. false;
}
