-- The profile of a client whose push is not cancelled: its question is a new one until its channel of service discovery is there, and none waits where
-- that is to be closed.
use Rattle.std.proofs.Common.{ℕ, List, [], ◌∷◌, Bool, true, false, cond, Option, Some, None}
use Rattle.shelf_model.specs.bt_base.specs.declared.settings.Settings.{Settings}
use Rattle.channel_laws.specs.channel_model.specs.declared.event.ChannelEvent.{ChannelEvent}
use Rattle.channel_laws.specs.channel_model.specs.declared.event.ChannelEvent.TheVariants.{Opened, Closed, Features as Told, FeaturesLost, DisconnectLost}
use Rattle.channel_laws.specs.channel_model.specs.Value.{Channels}
use Rattle.channel_laws.specs.channel_model.specs.Calls as channels
use Rattle.channel_laws.specs.channel_model.specs.Calls.{peer_mtu, waits}
use Rattle.push_laws.specs.push_model.specs.declared.closing.CloseCause.{CloseCause}
use Rattle.push_laws.specs.push_model.specs.Client.{Client, begins}
use Rattle.push_laws.specs.push_model.specs.Events as events
use Rattle.push_laws.specs.push_model.specs.Events.{hears_news}
use Rattle.push_laws.specs.push_model.specs.Payloads.{Payload}
use Rattle.push_laws.specs.push_model.specs.Steps.{Step, Wait, MakeLink, AskFeatures, OpenChannel, SendSdu, CloseChannel, BreakLink, Ended, NoMemory, steps}
use Rattle.shelf_model.specs.world_model.specs.Machines.{Up, Down, News, Linked, Failed, Heard, TimerFired, Cancelled, Opening}
use Rattle.shelf_model.specs.host_model.specs.Circumstances.{Circumstance}
use Rattle.shelf_model.specs.host_model.specs.Endpoints.{endpoint_of, takes_sdu}
use Rattle.shelf_model.specs.host_model.specs.Pdus.{sdu_of}
use Rattle.shelf_model.specs.host_model.specs.Clients as clients
use Rattle.shelf_model.specs.host_model.specs.Clients.{NoBid, ClientProfile, client_profile, after_end, ended, after_call, calls, cause_of, closed_by, opened_by, event_heard, sent_on, submits, takes, fitted}
use Rattle.shelf_model.specs.host_model.proofs.Keeping.{Keeps}
use Rattle.shelf_model.specs.host_model.specs.Shelves.{unused, size_for, name_for}
use Rattle.host_laws.specs.Feeds.{Feed, Gifts, Learns, Receives, Happens, Sent, Steps, fed}
use Rattle.host_laws.specs.SearchOrder.{SearchesInOrder, IsUncancelled, IsUncancelledFeed, ProfilesSearchInOrder}
use Rattle.host_laws.proofs.SearchOrder.{hears_so, begins_so, steps_keep}

-- its client searches in order
abbrev pub Q : ClientProfile → Type 0
Q p = SearchesInOrder p.client

-- ---- what happens to its channels

pub event_so : (event : ChannelEvent) (v : Channels) (c : Client) → SearchesInOrder c → SearchesInOrder (event_heard event v c)
event_so (Opened own psm) v c so = by (peer_mtu own v)
  where
    by : (mtu : Option ℕ) → SearchesInOrder (opened_by mtu psm c)
    by None = so
    by (Some mtu) = hears_so (events.ChannelOpen psm mtu) c so
event_so (Closed own psm reason) v c so = by (cause_of reason)
  where
    by : (cause : Option CloseCause) → SearchesInOrder (closed_by cause psm c)
    by None = so
    by (Some cause) = hears_so (events.ChannelClosed psm cause) c so
event_so (Told features) v c so = hears_so events.FeaturesTold c so
event_so FeaturesLost v c so = hears_so events.FeaturesLost c so
event_so (DisconnectLost own) v c so = so

-- ---- its steps

pub sent_so : (submitted : Option ℕ) (v : Channels) (p : ClientProfile) → Q p → Q (sent_on submitted v p)
sent_so None v p so = so
sent_so (Some own) v p so = by (waits own v)
  where
    by : (b : Bool) → Q (cond b p (clients.done (record p { submitted = None })))
    by true = so
    by false = so

pub submits_so : (own : Option ℕ) (payload : Payload) (v : Channels) (p : ClientProfile) → Q p → Q (submits own payload v p).profile
submits_so None payload v p so = so
submits_so (Some own) payload v p so = by (takes_sdu own (sdu_of payload) v)
  where
    by : (b : Bool) → Q (cond b (clients.waiting (channels.sends own (sdu_of payload) v) (record p { submitted = Some own })) (clients.waiting v p)).profile
    by true = so
    by false = so

pub takes_so : (step : Step) (v : Channels) (q p : ClientProfile) → Q q → Q p → Q (takes step v q p).profile
takes_so Wait v q p now so = now
takes_so MakeLink v q p now so = so
takes_so AskFeatures v q p now so = now
takes_so (OpenChannel psm) v q p now so = now
takes_so (SendSdu psm payload) v q p now so = submits_so (endpoint_of psm q.endpoints) payload v q now
takes_so (CloseChannel psm) v q p now so = now
takes_so BreakLink v q p now so = now
takes_so (Ended outcome) v q p now so = now
takes_so NoMemory v q p now so = now

pub keeps_search : (settings : Settings) → Keeps (client_profile settings) Q
keeps_search settings = record {
  given = λ circumstances p so. so;
  received = λ own psm sdu p so. hears_so (events.Sdu psm sdu) p.client so;
  happened = λ event v p so. event_so event v p.client so;
  sent = λ v p so. sent_so p.submitted v p so;
  steps = λ v p so. let one = steps p.client (fitted p) in takes_so one.step v (record p { client = one.client; parts = unused one.left p.parts }) p (steps_keep p.client (fitted p) so) so;
}

-- ---- what it is told

pub end_so : (step : Step) (c d : Client) → SearchesInOrder c → SearchesInOrder d → SearchesInOrder (after_end step d c)
end_so (Ended outcome) c d so now = now
end_so Wait c d so now = so
end_so MakeLink c d so now = so
end_so AskFeatures c d so now = so
end_so (OpenChannel psm) c d so now = so
end_so (SendSdu psm payload) c d so now = so
end_so (CloseChannel psm) c d so now = so
end_so BreakLink c d so now = so
end_so NoMemory c d so now = so

pub ended_so : (c : Client) → SearchesInOrder c → SearchesInOrder (ended c)
ended_so c so = let one = steps c [] in end_so one.step c one.client so (steps_keep c [] so)

pub call_so : (step : Step) (p : ClientProfile) (d : Client) → Q p → SearchesInOrder d → Q (after_call step d p)
call_so MakeLink p d so now = now
call_so Wait p d so now = so
call_so AskFeatures p d so now = so
call_so (OpenChannel psm) p d so now = so
call_so (SendSdu psm payload) p d so now = so
call_so (CloseChannel psm) p d so now = so
call_so BreakLink p d so now = so
call_so (Ended outcome) p d so now = so
call_so NoMemory p d so now = so

pub calls_so : (p : ClientProfile) → Q p → Q (calls p)
calls_so p so = let one = steps p.client [] in call_so one.step p one.client so (steps_keep p.client [] so)

-- but for that its push is cancelled
pub told_search : (circumstances : List Circumstance) (news : News) (p : ClientProfile) → IsUncancelled news → Q p → Q (clients.told circumstances news p)
told_search circumstances (Linked Up) p of so = hears_so events.LinkUp p.client so
told_search circumstances (Linked (Down reason)) p of so = ended_so (hears_news (events.LinkDown reason) p.client) (hears_so (events.LinkDown reason) p.client so)
told_search circumstances (Failed status) p of so = ended_so (hears_news (events.LinkFailed status) p.client) (hears_so (events.LinkFailed status) p.client so)
told_search circumstances (Heard pdu) p of so = so
told_search circumstances TimerFired p of so = hears_so events.Timer p.client so
told_search circumstances Cancelled p of so = absurd of
told_search circumstances (Opening name) p of so =
    let c = begins (size_for circumstances name) (name_for name) p.client in
    calls_so (record p { client = ended c; submitted = None; bid = NoBid }) (ended_so c (begins_so (size_for circumstances name) (name_for name) p.client so))

-- ---- all of it

pub fed_so : (settings : Settings) (feed : Feed) (p : ClientProfile) → IsUncancelledFeed feed → Q p → Q (fed (client_profile settings) p feed)
fed_so settings (Gifts circumstances) p of so = so
fed_so settings (Learns circumstances news) p of so = told_search circumstances news p of so
fed_so settings (Receives own psm sdu) p of so = (keeps_search settings).received own psm sdu p so
fed_so settings (Happens event v) p of so = (keeps_search settings).happened event v p so
fed_so settings (Sent v) p of so = (keeps_search settings).sent v p so
fed_so settings (Steps v) p of so = (keeps_search settings).steps v p so

pub profiles_search_in_order : ProfilesSearchInOrder
profiles_search_in_order settings [] p of so = so
profiles_search_in_order settings (feed ∷ feeds) p of so = profiles_search_in_order settings feeds (fed (client_profile settings) p feed) of.1 (fed_so settings feed p of.0 so)
