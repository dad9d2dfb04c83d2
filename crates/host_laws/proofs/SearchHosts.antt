-- The host of a client searches in order, and has memory while it does.
use Rattle.std.proofs.Common.{◌≡◌, ℕ, List, [], Bool, true, false, cond, Option, Some, None, refl, sym, ap, subst, ◌∙◌, inl, inr}
use Rattle.shelf_model.specs.bt_base.specs.declared.settings.Settings.{Settings}
use Rattle.channel_laws.specs.channel_model.specs.declared.event.ChannelEvent.{ChannelEvent}
use Rattle.channel_laws.specs.channel_model.specs.declared.event.ChannelEvent.TheVariants.{Opened, Closed, Features as Told, FeaturesLost, DisconnectLost}
use Rattle.channel_laws.specs.channel_model.specs.Value.{Channels}
use Rattle.channel_laws.specs.channel_model.specs.Calls as channels
use Rattle.channel_laws.specs.channel_model.specs.Calls.{peer_mtu, waits}
use Rattle.push_laws.specs.push_model.specs.declared.closing.CloseCause.{CloseCause}
use Rattle.push_laws.specs.push_model.specs.declared.course.Stage.TheVariants.{Rest, SearchChannel, Search, LinkEnd}
use Rattle.push_laws.specs.push_model.specs.Client.{Client, begins, cancelled}
use Rattle.shelf_model.specs.sdp_client.specs.Asking.{begun}
use Rattle.std.specs.Prelude.{is_some}
use Rattle.push_laws.specs.push_model.specs.declared.course.Point.TheVariants.{Due}
use Rattle.push_laws.specs.push_model.specs.declared.course.Stage.{Stage}
use Rattle.push_laws.specs.push_model.specs.Events.{linked_at}
use Rattle.host_laws.specs.Searching.{BeginsSearch}
use Rattle.push_laws.specs.push_model.specs.Events as events
use Rattle.push_laws.specs.push_model.specs.Events.{hears_news}
use Rattle.push_laws.specs.push_model.specs.Payloads.{Payload}
use Rattle.push_laws.specs.push_model.specs.Steps.{Step, Wait, MakeLink, AskFeatures, OpenChannel, SendSdu, CloseChannel, BreakLink, Ended, NoMemory, steps}
use Rattle.shelf_model.specs.world_model.specs.Machines.{Up, Down, News, Linked, Failed, Heard, TimerFired, Cancelled, Opening}
use Rattle.shelf_model.specs.host_model.specs.Circumstances.{Circumstance}
use Rattle.shelf_model.specs.host_model.specs.Endpoints.{endpoint_of, takes_sdu}
use Rattle.shelf_model.specs.host_model.specs.Pdus.{sdu_of}
use Rattle.shelf_model.specs.host_model.specs.Clients as clients
use Rattle.shelf_model.specs.host_model.specs.Clients.{NoBid, ClientProfile, client_profile, after_end, ended, after_call, calls, cause_of, closed_by, opened_by, event_heard, sent_on, submits, takes, fitted}
use Rattle.shelf_model.specs.host_model.specs.Profiles.{Profile}
use Rattle.shelf_model.specs.host_model.specs.Hosts.{Host, most_steps, hears_news as host_hears, ready, hear, next}
use Rattle.shelf_model.specs.host_model.proofs.Keeping.{Keeps, drives_on, hears_on, goes_next}
use Rattle.shelf_model.specs.host_model.specs.Shelves.{unused, size_for, name_for}
use Rattle.host_laws.specs.SearchOrder.{AsksInOrder, LinksBeginSearches, IsUncancelled, is_apart, SearchesWithMemory, SearchesWell, Admits, HostsSearchWell}
use Rattle.host_laws.proofs.SearchCancelled.{cancels_in_order}
use Rattle.host_laws.proofs.SearchKept.{Q, keeps_search, told_search}
use Rattle.host_laws.proofs.SearchMemory.{hears_memory, cancels_memory, begins_memory, steps_memory}

-- no push begins
abbrev IsOld : News → Type 0
IsOld (Linked event) = Unit {0}
IsOld (Failed status) = Unit {0}
IsOld (Heard pdu) = Unit {0}
IsOld TimerFired = Unit {0}
IsOld Cancelled = Unit {0}
IsOld (Opening name) = ⊥

-- its client has memory while it searches
abbrev pub M : ClientProfile → Type 0
M p = SearchesWithMemory p.client

-- ---- what happens to its channels

event_so : (event : ChannelEvent) (v : Channels) (c : Client) → SearchesWithMemory c → SearchesWithMemory (event_heard event v c)
event_so (Opened own psm) v c so = by (peer_mtu own v)
  where
    by : (mtu : Option ℕ) → SearchesWithMemory (opened_by mtu psm c)
    by None = so
    by (Some mtu) = hears_memory (events.ChannelOpen psm mtu) c so
event_so (Closed own psm reason) v c so = by (cause_of reason)
  where
    by : (cause : Option CloseCause) → SearchesWithMemory (closed_by cause psm c)
    by None = so
    by (Some cause) = hears_memory (events.ChannelClosed psm cause) c so
event_so (Told features) v c so = hears_memory events.FeaturesTold c so
event_so FeaturesLost v c so = hears_memory events.FeaturesLost c so
event_so (DisconnectLost own) v c so = so

-- ---- its steps

sent_so : (submitted : Option ℕ) (v : Channels) (p : ClientProfile) → M p → M (sent_on submitted v p)
sent_so None v p so = so
sent_so (Some own) v p so = by (waits own v)
  where
    by : (b : Bool) → M (cond b p (clients.done (record p { submitted = None })))
    by true = so
    by false = so

submits_so : (own : Option ℕ) (payload : Payload) (v : Channels) (p : ClientProfile) → M p → M (submits own payload v p).profile
submits_so None payload v p so = so
submits_so (Some own) payload v p so = by (takes_sdu own (sdu_of payload) v)
  where
    by : (b : Bool) → M (cond b (clients.waiting (channels.sends own (sdu_of payload) v) (record p { submitted = Some own })) (clients.waiting v p)).profile
    by true = so
    by false = so

takes_so : (step : Step) (v : Channels) (q p : ClientProfile) → M q → M p → M (takes step v q p).profile
takes_so Wait v q p now so = now
takes_so MakeLink v q p now so = so
takes_so AskFeatures v q p now so = now
takes_so (OpenChannel psm) v q p now so = now
takes_so (SendSdu psm payload) v q p now so = submits_so (endpoint_of psm q.endpoints) payload v q now
takes_so (CloseChannel psm) v q p now so = now
takes_so BreakLink v q p now so = now
takes_so (Ended outcome) v q p now so = now
takes_so NoMemory v q p now so = now

pub keeps_memory : (settings : Settings) → Keeps (client_profile settings) M
keeps_memory settings = record {
  given = λ circumstances p so. so;
  received = λ own psm sdu p so. hears_memory (events.Sdu psm sdu) p.client so;
  happened = λ event v p so. event_so event v p.client so;
  sent = λ v p so. sent_so p.submitted v p so;
  steps = λ v p so. let one = steps p.client (fitted p) in takes_so one.step v (record p { client = one.client; parts = unused one.left p.parts }) p (steps_memory p.client (fitted p) so) so;
}

-- ---- what it is told

end_so : (step : Step) (c d : Client) → SearchesWithMemory c → SearchesWithMemory d → SearchesWithMemory (after_end step d c)
end_so (Ended outcome) c d so now = now
end_so Wait c d so now = so
end_so MakeLink c d so now = so
end_so AskFeatures c d so now = so
end_so (OpenChannel psm) c d so now = so
end_so (SendSdu psm payload) c d so now = so
end_so (CloseChannel psm) c d so now = so
end_so BreakLink c d so now = so
end_so NoMemory c d so now = so

pub ended_so : (c : Client) → SearchesWithMemory c → SearchesWithMemory (ended c)
ended_so c so = let one = steps c [] in end_so one.step c one.client so (steps_memory c [] so)

call_so : (step : Step) (p : ClientProfile) (d : Client) → M p → SearchesWithMemory d → M (after_call step d p)
call_so MakeLink p d so now = now
call_so Wait p d so now = so
call_so AskFeatures p d so now = so
call_so (OpenChannel psm) p d so now = so
call_so (SendSdu psm payload) p d so now = so
call_so (CloseChannel psm) p d so now = so
call_so BreakLink p d so now = so
call_so (Ended outcome) p d so now = so
call_so NoMemory p d so now = so

calls_so : (p : ClientProfile) → M p → M (calls p)
calls_so p so = let one = steps p.client [] in call_so one.step p one.client so (steps_memory p.client [] so)

-- but for that a push begins
pub told_memory : (circumstances : List Circumstance) (news : News) (p : ClientProfile) → IsOld news → M p → M (clients.told circumstances news p)
told_memory circumstances (Linked Up) p of so = hears_memory events.LinkUp p.client so
told_memory circumstances (Linked (Down reason)) p of so = ended_so (hears_news (events.LinkDown reason) p.client) (hears_memory (events.LinkDown reason) p.client so)
told_memory circumstances (Failed status) p of so = ended_so (hears_news (events.LinkFailed status) p.client) (hears_memory (events.LinkFailed status) p.client so)
told_memory circumstances (Heard pdu) p of so = so
told_memory circumstances TimerFired p of so = hears_memory events.Timer p.client so
told_memory circumstances Cancelled p of so = ended_so (cancelled p.client) (cancels_memory p.client so)
told_memory circumstances (Opening name) p of so = absurd of

opens_memory : (circumstances : List Circumstance) (name : List ℕ) (p : ClientProfile) → p.client.stage ≡ Rest → M (clients.told circumstances (Opening name) p)
opens_memory circumstances name p at =
    let c = begins (size_for circumstances name) (name_for name) p.client in
    calls_so (record p { client = ended c; submitted = None; bid = NoBid }) (ended_so c (begins_memory (size_for circumstances name) (name_for name) p.client at))

-- ---- its host

module _ (settings : Settings) where
  abbrev A : Profile ClientProfile
  A = client_profile settings

  both : (circumstances : List Circumstance) (news : News) (host : Host ClientProfile) → IsUncancelled news → IsOld news → SearchesWell host → SearchesWell (hear A circumstances news host)
  both circumstances news host one two so = (
    hears_on A Q (keeps_search settings) circumstances news host (λ gifts p. told_search gifts news p one) so.0,
    hears_on A M (keeps_memory settings) circumstances news host (λ gifts p. told_memory gifts news p two) so.1,
  )

  works_at : (c : Client) → SearchesWithMemory c → c.stage ≡ Search → c.failed ≡ false
  works_at c (inl works) at = works
  works_at c (inr apart) at = let never : false ≡ true = sym (ap is_apart at) ∙ apart in cc

  hears_well : (circumstances : List Circumstance) (news : News) (host : Host ClientProfile) → Admits news host → SearchesWell host → SearchesWell (hear A circumstances news host)
  hears_well circumstances (Linked event) host admits so = both circumstances (Linked event) host tt tt so
  hears_well circumstances (Failed status) host admits so = both circumstances (Failed status) host tt tt so
  hears_well circumstances (Heard pdu) host admits so = both circumstances (Heard pdu) host tt tt so
  hears_well circumstances TimerFired host admits so = both circumstances TimerFired host tt tt so
  hears_well circumstances Cancelled host (none, sent) so = (
    cancels_in_order settings circumstances host none (λ at. (works_at host.profile.client so.1 at, sent at)) so.0,
    hears_on A M (keeps_memory settings) circumstances Cancelled host (λ gifts p. told_memory gifts Cancelled p tt) so.1,
  )
  hears_well circumstances (Opening name) host at so = (
    hears_on A Q (keeps_search settings) circumstances (Opening name) host (λ gifts p. told_search gifts (Opening name) p tt) so.0,
    drives_on A M (keeps_memory settings) most_steps (host_hears A circumstances (Opening name) (ready A circumstances host)) (opens_memory circumstances name (ready A circumstances host).profile at),
  )

  says_well : (host : Host ClientProfile) (pdu : List ℕ) (after : Host ClientProfile) → next A host ≡ Some (pdu, after) → SearchesWell host → SearchesWell after
  says_well host pdu after is so = (goes_next A Q (keeps_search settings) host pdu after is so.0, goes_next A M (keeps_memory settings) host pdu after is so.1)

pub hosts_search_well : HostsSearchWell
hosts_search_well = record { first = λ settings. (tt, inl refl); hears = hears_well; says = says_well }

-- ---- its link

pub links_begin_searches : LinksBeginSearches
links_begin_searches settings circumstances p at so =
    let asked : p.client.query ≡ begun = subst (λ (stage : Stage). AsksInOrder stage p.client.query) at so in
    subst (λ (stage : Stage). BeginsSearch (clients.unlinked (linked_at stage p.client) p)) (sym at) (by asked (is_some p.client.cause))
  where
    by : p.client.query ≡ begun → (b : Bool) → BeginsSearch (clients.unlinked (cond b (record (p.client) { stage = LinkEnd Due }) (record (p.client) { stage = SearchChannel Due })) p)
    by asked true = inr refl
    by asked false = inl (refl, asked, refl)
