-- Host a ends its link only where its push has an outcome, whatever it hears and says.
use Rattle.std.proofs.Common.{◌≡◌, ℕ, Bool, true, false, List, [], Option, Some, None, is_some, refl, if◌then◌else◌}
use Rattle.cause_laws.specs.bt_base.specs.declared.settings.Settings.{Settings}
use Rattle.cause_laws.specs.channel_model.specs.declared.event.ChannelEvent.{ChannelEvent}
use Rattle.cause_laws.specs.channel_model.specs.declared.event.ChannelEvent.TheVariants as channels
use Rattle.cause_laws.specs.channel_model.specs.Calls.{sends, peer_mtu, waits}
use Rattle.cause_laws.specs.channel_model.specs.Value.{Channels}
use Rattle.cause_laws.specs.push_model.specs.declared.closing.CloseCause.{CloseCause}
use Rattle.cause_laws.specs.push_model.specs.declared.course.Stage.{Stage}
use Rattle.cause_laws.specs.push_model.specs.declared.course.Stage.TheVariants.{Rest, Link, SearchChannel, Search, SearchEnd, Features, ObjectChannel, Object, ObjectEnd, LinkEnd, Over}
use Rattle.cause_laws.specs.push_model.specs.Client.{Client, begins, cancelled}
use Rattle.cause_laws.specs.push_model.specs.Events as events
use Rattle.cause_laws.specs.push_model.specs.Events.{hears_news}
use Rattle.cause_laws.specs.push_model.specs.Payloads.{Payload}
use Rattle.cause_laws.specs.push_model.specs.Steps.{Step, Wait, MakeLink, AskFeatures, OpenChannel, SendSdu, CloseChannel, BreakLink, Ended, NoMemory, steps}
use Rattle.cause_laws.specs.world_model.specs.Machines.{News, Linked, Up, Down, Failed, Heard, TimerFired, Cancelled, Opening}
use Rattle.cause_laws.specs.host_model.specs.Circumstances.{Circumstance}
use Rattle.cause_laws.specs.host_model.specs.Clients as clients
use Rattle.cause_laws.specs.host_model.specs.Clients.{ClientProfile, client_profile, ended, calls, fitted, is_at_end}
use Rattle.cause_laws.specs.host_model.specs.Endpoints.{endpoint_of, takes_sdu}
use Rattle.cause_laws.specs.host_model.specs.Hosts.{Host, hear, next}
use Rattle.cause_laws.specs.host_model.specs.Pdus.{sdu_of}
use Rattle.cause_laws.specs.host_model.specs.Shelves.{size_for, name_for, unused}
use Rattle.cause_laws.specs.host_model.proofs.Keeping.{Keeps, KeepsNews, hears_on, goes_next}
use Rattle.drop_laws.proofs.Leaves.{LeavesByCause, is_ending, l_news, l_cancelled, l_steps, l_begins, leaves_by_cause}

abbrev Leaves : ClientProfile → Type 0
Leaves p = LeavesByCause p.client

-- ---- its steps

end_leaves : (step : Step) (d c : Client) → LeavesByCause d → LeavesByCause c → LeavesByCause (clients.after_end step d c)
end_leaves (Ended outcome) d c now before = now
end_leaves Wait d c now before = before
end_leaves MakeLink d c now before = before
end_leaves AskFeatures d c now before = before
end_leaves (OpenChannel psm) d c now before = before
end_leaves (SendSdu psm payload) d c now before = before
end_leaves (CloseChannel psm) d c now before = before
end_leaves BreakLink d c now before = before
end_leaves NoMemory d c now before = before

ended_leaves : (c : Client) → LeavesByCause c → LeavesByCause (ended c)
ended_leaves c l = let one = steps c [] in end_leaves one.step one.client c (l_steps c [] l) l

call_leaves : (step : Step) (d : Client) (p : ClientProfile) → LeavesByCause d → Leaves p → Leaves (clients.after_call step d p)
call_leaves MakeLink d p now before = now
call_leaves Wait d p now before = before
call_leaves AskFeatures d p now before = before
call_leaves (OpenChannel psm) d p now before = before
call_leaves (SendSdu psm payload) d p now before = before
call_leaves (CloseChannel psm) d p now before = before
call_leaves BreakLink d p now before = before
call_leaves (Ended outcome) d p now before = before
call_leaves NoMemory d p now before = before

calls_leave : (p : ClientProfile) → Leaves p → Leaves (calls p)
calls_leave p l = let one = steps p.client [] in call_leaves one.step one.client p (l_steps p.client [] l) l

submits_leave : (own : Option ℕ) (payload : Payload) (v : Channels) (p : ClientProfile) → Leaves p → Leaves (clients.submits own payload v p).profile
submits_leave None payload v p l = l
submits_leave (Some own) payload v p l = by (takes_sdu own (sdu_of payload) v)
  where
    by : (test : Bool) → Leaves (if test then clients.waiting (sends own (sdu_of payload) v) (record p { submitted = Some own }) else clients.waiting v p).profile
    by true = l
    by false = l

takes_leave : (step : Step) (v : Channels) (q p : ClientProfile) → Leaves q → Leaves p → Leaves (clients.takes step v q p).profile
takes_leave Wait v q p now before = now
takes_leave MakeLink v q p now before = before
takes_leave AskFeatures v q p now before = now
takes_leave (OpenChannel psm) v q p now before = now
takes_leave (SendSdu psm payload) v q p now before = submits_leave (endpoint_of psm q.endpoints) payload v q now
takes_leave (CloseChannel psm) v q p now before = now
takes_leave BreakLink v q p now before = now
takes_leave (Ended outcome) v q p now before = now
takes_leave NoMemory v q p now before = now

sent_leaves : (own : Option ℕ) (v : Channels) (p : ClientProfile) → Leaves p → Leaves (clients.sent_on own v p)
sent_leaves None v p l = l
sent_leaves (Some own) v p l = by (waits own v)
  where
    by : (test : Bool) → Leaves (if test then p else clients.done (record p { submitted = None }))
    by true = l
    by false = l

event_leaves : (event : ChannelEvent) (v : Channels) (c : Client) → LeavesByCause c → LeavesByCause (clients.event_heard event v c)
event_leaves (channels.Opened own psm) v c l = by (peer_mtu own v)
  where
    by : (mtu : Option ℕ) → LeavesByCause (clients.opened_by mtu psm c)
    by None = l
    by (Some mtu) = l_news (events.ChannelOpen psm mtu) c l
event_leaves (channels.Closed own psm reason) v c l = by (clients.cause_of reason)
  where
    by : (cause : Option CloseCause) → LeavesByCause (clients.closed_by cause psm c)
    by None = l
    by (Some cause) = l_news (events.ChannelClosed psm cause) c l
event_leaves (channels.Features features) v c l = l_news events.FeaturesTold c l
event_leaves channels.FeaturesLost v c l = l_news events.FeaturesLost c l
event_leaves (channels.DisconnectLost own) v c l = l

-- ---- its profile, and its host

keeps : (settings : Settings) → Keeps (client_profile settings) Leaves
keeps settings = record {
  given = λ circumstances p l. l;
  received = λ own psm sdu p l. l_news (events.Sdu psm sdu) p.client l;
  happened = λ event v p l. event_leaves event v p.client l;
  sent = λ v p l. sent_leaves p.submitted v p l;
  steps = λ v p l. let one = steps p.client (fitted p) in takes_leave one.step v (record p { client = one.client; parts = unused one.left p.parts }) p (l_steps p.client (fitted p) l) l;
}

told : (settings : Settings) (news : News) → KeepsNews (client_profile settings) Leaves news
told settings (Linked Up) circumstances p l = l_news events.LinkUp p.client l
told settings (Linked (Down reason)) circumstances p l = ended_leaves (hears_news (events.LinkDown reason) p.client) (l_news (events.LinkDown reason) p.client l)
told settings (Failed status) circumstances p l = ended_leaves (hears_news (events.LinkFailed status) p.client) (l_news (events.LinkFailed status) p.client l)
told settings (Heard pdu) circumstances p l = l
told settings TimerFired circumstances p l = l_news events.Timer p.client l
told settings Cancelled circumstances p l = ended_leaves (cancelled p.client) (l_cancelled p.client l)
told settings (Opening name) circumstances p l =
    let begun = begins (size_for circumstances name) (name_for name) p.client in
    calls_leave (record p { client = ended begun; submitted = None; bid = clients.NoBid }) (ended_leaves begun (l_begins (size_for circumstances name) (name_for name) p.client l))

module _ (settings : Settings) where
  pub hear_leaves : (gifts : List Circumstance) (news : News) (host : Host ClientProfile) → Leaves host.profile → Leaves (hear (client_profile settings) gifts news host).profile
  hear_leaves gifts news host l = hears_on (client_profile settings) Leaves (keeps settings) gifts news host (told settings news) l

  pub next_leaves : (host : Host ClientProfile) (pdu : List ℕ) (after : Host ClientProfile) → next (client_profile settings) host ≡ Some (pdu, after) → Leaves host.profile → Leaves after.profile
  next_leaves host pdu after is l = goes_next (client_profile settings) Leaves (keeps settings) host pdu after is l

-- where it ends its link
at_end : (stage : Stage) → is_at_end stage ≡ true → is_ending stage ≡ true
at_end Rest is = absurd (let e = is in cc)
at_end (Link point) is = absurd (let e = is in cc)
at_end (SearchChannel point) is = absurd (let e = is in cc)
at_end Search is = absurd (let e = is in cc)
at_end (SearchEnd point) is = absurd (let e = is in cc)
at_end (Features point) is = absurd (let e = is in cc)
at_end (ObjectChannel point) is = absurd (let e = is in cc)
at_end Object is = absurd (let e = is in cc)
at_end (ObjectEnd point) is = absurd (let e = is in cc)
at_end (LinkEnd point) is = refl
at_end Over is = absurd (let e = is in cc)

pub leaving_has_cause : (p : ClientProfile) → Leaves p → is_at_end p.client.stage ≡ true → is_some p.client.cause ≡ true
leaving_has_cause p l is = leaves_by_cause p.client l (at_end p.client.stage is)
