-- The profile of a client: its push, the answers of its shelf, its channels and what it asks of its line (Object Push Profile 1.2, 4.3).
use Rattle.std.specs.Prelude.{ℕ, ◌&&◌, not, Bool, true, false, List, [], Option, Some, None, Result, if◌then◌else◌}
use Rattle.rest_laws.specs.bt_base.specs.declared.ports.PortFault.{PortFault}
use Rattle.rest_laws.specs.bt_base.specs.declared.settings.Settings.{Settings}
use Rattle.channel_model.specs.declared.event.ChannelEvent.{ChannelEvent}
use Rattle.channel_model.specs.declared.event.ChannelEvent.TheVariants.{Opened, Closed, Features, FeaturesLost, DisconnectLost}
use Rattle.channel_model.specs.declared.event.CloseReason.{CloseReason}
use Rattle.channel_model.specs.declared.event.CloseReason.TheVariants as reasons
use Rattle.channel_model.specs.Value.{Channels}
use Rattle.channel_model.specs.Policies.{policy}
use Rattle.channel_model.specs.Calls.{connected, connect_answer, disconnected, asks_features, sends, peer_mtu, waits}
use Rattle.channel_model.specs.ertm_model.specs.Reasons.{number_of}
use Rattle.push_model.specs.declared.closing.CloseCause.{CloseCause}
use Rattle.push_model.specs.declared.closing.CloseCause.TheVariants as causes
use Rattle.push_model.specs.declared.course.Stage.{Stage}
use Rattle.push_model.specs.declared.course.Stage.TheVariants.{Rest, Link, SearchChannel, Search, SearchEnd, Features as FeaturesStage, ObjectChannel, Object, ObjectEnd, LinkEnd, Over}
use Rattle.push_model.specs.Client.{Client, new_client, begins, cancelled, is_idle, may_cancel}
use Rattle.push_model.specs.Events as events
use Rattle.push_model.specs.Events.{hears_news, armed}
use Rattle.push_model.specs.Payloads.{Payload}
use Rattle.push_model.specs.Steps.{Part, Step, Wait, MakeLink, AskFeatures, OpenChannel, SendSdu, CloseChannel, BreakLink, Ended, NoMemory, steps, stepped}
use Rattle.rest_laws.specs.world_model.specs.Machines.{News, Linked, Up, Down, Failed, Heard, TimerFired, Cancelled, Opening}
use Rattle.host_model.specs.Circumstances.{Circumstance, Excerpt, parts_in}
use Rattle.host_model.specs.Pdus.{sdu_of}
use Rattle.host_model.specs.Endpoints.{Endpoint, endpoint_of, with_answer, takes_sdu}
use Rattle.host_model.specs.Profiles.{Stride, Profile}
use Rattle.host_model.specs.Shelves.{size_for, name_for, fitting, unused}

-- what it asks of its line: nothing, or that a link be made
pub data Bid : Type 0 where
  NoBid : Bid
  Paging : Bid

pub record ClientProfile : Type 0 where
  pub client : Client
  -- the answers of the shelf that are not used up
  pub parts : List Excerpt
  -- the channel that it asked for last, for each PSM
  pub endpoints : List Endpoint
  -- the channel that took its SDU, until that is sent
  pub submitted : Option ℕ
  pub bid : Bid

-- ---- a link, and a push

-- no link is there or it is new
abbrev pub unlinked : Client → ClientProfile → ClientProfile
unlinked client pushing = record pushing { client = client; endpoints = []; submitted = None; bid = NoBid }

abbrev pub after_end : Step → (after before : Client) → Client
after_end (Ended outcome) after before = after
after_end step after before = before

-- a push that is over ends at once, since no link is needed for it
abbrev pub ended : Client → Client
ended client = let one = steps client [] in after_end one.step one.client client

abbrev pub after_call : Step → Client → ClientProfile → ClientProfile
after_call MakeLink client pushing = record pushing { client = stepped client; bid = Paging }
after_call step client pushing = pushing

-- its link is asked for as a push begins
abbrev pub calls : ClientProfile → ClientProfile
calls pushing = let one = steps pushing.client [] in after_call one.step one.client pushing

-- as a push begins the shelf is asked for the object's size
abbrev pub opens : Result ℕ PortFault → List ℕ → ClientProfile → ClientProfile
opens size name pushing = calls (record pushing { client = ended (begins size name pushing.client); submitted = None; bid = NoBid })

abbrev pub told : List Circumstance → News → ClientProfile → ClientProfile
told circumstances (Linked Up) pushing = unlinked (hears_news events.LinkUp pushing.client) pushing
told circumstances (Linked (Down reason)) pushing = unlinked (ended (hears_news (events.LinkDown reason) pushing.client)) pushing
told circumstances (Failed status) pushing = unlinked (ended (hears_news (events.LinkFailed status) pushing.client)) pushing
told circumstances (Heard pdu) pushing = pushing
told circumstances TimerFired pushing = record pushing { client = hears_news events.Timer pushing.client }
told circumstances Cancelled pushing = record pushing { client = ended (cancelled pushing.client) }
told circumstances (Opening name) pushing = opens (size_for circumstances name) (name_for name) pushing

-- ---- its channels

-- a channel that went down with its link tells nothing of its own
abbrev pub cause_of : CloseReason → Option CloseCause
cause_of reasons.PeerClosed = Some causes.Peer
cause_of (reasons.Refused answer) = Some (causes.Refused answer)
cause_of reasons.NoAgreement = Some causes.NoAgreement
cause_of reasons.RetryLimit = Some causes.RetryLimit
cause_of (reasons.Ertm reason) = Some (causes.Broken (number_of reason))
cause_of reasons.LinkDown = None
cause_of reasons.OwnClosed = Some causes.Own

abbrev pub closed_by : Option CloseCause → ℕ → Client → Client
closed_by None psm client = client
closed_by (Some cause) psm client = hears_news (events.ChannelClosed psm cause) client

abbrev pub opened_by : Option ℕ → ℕ → Client → Client
opened_by None psm client = client
opened_by (Some mtu) psm client = hears_news (events.ChannelOpen psm mtu) client

-- where the peer does not answer the end of a channel that was closed, nothing is to be done
abbrev pub event_heard : ChannelEvent → Channels → Client → Client
event_heard (Opened own psm) channels client = opened_by (peer_mtu own channels) psm client
event_heard (Closed own psm reason) channels client = closed_by (cause_of reason) psm client
event_heard (Features features) channels client = hears_news events.FeaturesTold client
event_heard FeaturesLost channels client = hears_news events.FeaturesLost client
event_heard (DisconnectLost own) channels client = client

abbrev pub happened : ChannelEvent → Channels → ClientProfile → ClientProfile
happened event channels pushing = record pushing { client = event_heard event channels pushing.client }

abbrev pub received : (own psm : ℕ) → List ℕ → ClientProfile → ClientProfile
received own psm sdu pushing = record pushing { client = hears_news (events.Sdu psm sdu) pushing.client }

-- ---- its steps

-- the step was done
abbrev pub done : ClientProfile → ClientProfile
done pushing = record pushing { client = stepped pushing.client }

abbrev pub sent_on : Option ℕ → Channels → ClientProfile → ClientProfile
sent_on None channels pushing = pushing
sent_on (Some own) channels pushing = if waits own channels then pushing else done (record pushing { submitted = None })

abbrev pub sent : Channels → ClientProfile → ClientProfile
sent channels pushing = sent_on pushing.submitted channels pushing

-- Behind the end of a channel it is asked again: one that is only asked for ends at once, without a PDU. Any other step has a PDU, or
-- is awaited.
abbrev pub waiting : Channels → ClientProfile → Stride ClientProfile
waiting channels pushing = record { channels = channels; profile = pushing; more = false }

abbrev pub going : Channels → ClientProfile → Stride ClientProfile
going channels pushing = record { channels = channels; profile = pushing; more = true }

abbrev pub submits : Option ℕ → Payload → Channels → ClientProfile → Stride ClientProfile
submits None payload channels pushing = waiting channels pushing
submits (Some own) payload channels pushing =
    if takes_sdu own (sdu_of payload) channels then waiting (sends own (sdu_of payload) channels) (record pushing { submitted = Some own }) else waiting channels pushing

abbrev pub closes : Option ℕ → Channels → Channels
closes None channels = channels
closes (Some own) channels = disconnected own channels

-- what a step does; a link is asked for as a push begins, and not here
abbrev pub takes : Step → Channels → (after before : ClientProfile) → Stride ClientProfile
takes Wait channels after before = waiting channels after
takes MakeLink channels after before = waiting channels before
takes AskFeatures channels after before = waiting (asks_features channels) (done after)
takes (OpenChannel psm) channels after before = waiting (connected psm channels) (done (record after { endpoints = with_answer psm (connect_answer channels) after.endpoints }))
takes (SendSdu psm payload) channels after before = submits (endpoint_of psm after.endpoints) payload channels after
takes (CloseChannel psm) channels after before = going (closes (endpoint_of psm after.endpoints) channels) (done after)
takes BreakLink channels after before = waiting channels (done (record after { bid = NoBid }))
takes (Ended outcome) channels after before = waiting channels after
takes NoMemory channels after before = waiting channels after

-- it is asked with answers of its shelf that fit; those that the step did not use stay as they are
abbrev pub fitted : ClientProfile → List Part
fitted pushing = fitting pushing.client pushing.parts

abbrev pub next_stride : Channels → ClientProfile → Stride ClientProfile
next_stride channels pushing = let one = steps pushing.client (fitted pushing) in takes one.step channels (record pushing { client = one.client; parts = unused one.left pushing.parts }) pushing

-- ---- all of it

abbrev pub is_paging : Bid → Bool
is_paging NoBid = false
is_paging Paging = true

-- Nothing is left to its push but the end of its link. It asks for that whatever waits in its channels still: all else would be in vain.
abbrev pub is_at_end : Stage → Bool
is_at_end Rest = false
is_at_end (Link point) = false
is_at_end (SearchChannel point) = false
is_at_end Search = false
is_at_end (SearchEnd point) = false
is_at_end (FeaturesStage point) = false
is_at_end (ObjectChannel point) = false
is_at_end Object = false
is_at_end (ObjectEnd point) = false
is_at_end (LinkEnd point) = true
is_at_end Over = false

abbrev pub client_profile : Settings → Profile ClientProfile
client_profile settings = record {
  policy = policy settings false;
  first = record { client = new_client settings; parts = []; endpoints = []; submitted = None; bid = NoBid };
  given = λ circumstances pushing. record pushing { parts = parts_in circumstances };
  told = told;
  received = received;
  happened = happened;
  sent = sent;
  steps = next_stride;
  wants_link = λ pushing. is_paging pushing.bid && not (is_idle pushing.client);
  leaves_link = λ pushing. is_at_end pushing.client.stage;
  is_idle = λ pushing. is_idle pushing.client;
  outcome = λ pushing. pushing.client.cause;
  armed = λ pushing. armed pushing.client;
  may_cancel = λ pushing. may_cancel pushing.client;
}
