-- A client that has its line make a link waits for that alone, with a new question: so a link that comes up where it wants one begins its search.
use Rattle.std.proofs.Common.{◌≡◌, ℕ, ◌==◌, Bool, true, false, cond, ◌&&◌, ◌||◌, not, List, [], ◌∷◌, Option, Some, None, Result, Ok, Err, refl, sym, ap, subst, ◌∙◌, ◌⊎◌, inl, inr, arith}
use Rattle.shelf_model.specs.bt_base.specs.declared.ports.PortFault.{PortFault}
use Rattle.shelf_model.specs.bt_base.specs.declared.ports.PortFault.TheVariants as fault
use Rattle.shelf_model.specs.bt_base.specs.declared.settings.Settings.{Settings}
use Rattle.shelf_model.specs.push_terms.specs.declared.outcome.Outcome.{Outcome}
use Rattle.shelf_model.specs.push_terms.specs.declared.outcome.Outcome.TheVariants as outcomes
use Rattle.shelf_model.specs.sdp_client.specs.Asking.{begun, is_due, after_resend}
use Rattle.shelf_model.specs.sdp_client.specs.Views.{is_awaiting}
use Rattle.channel_laws.specs.channel_model.specs.declared.event.ChannelEvent.{ChannelEvent}
use Rattle.channel_laws.specs.channel_model.specs.declared.event.ChannelEvent.TheVariants.{Opened, Closed, Features as Told, FeaturesLost, DisconnectLost}
use Rattle.channel_laws.specs.channel_model.specs.Calls.{peer_mtu, sends, waits}
use Rattle.channel_laws.specs.channel_model.specs.Value.{Channels}
use Rattle.push_laws.specs.push_model.specs.declared.closing.CloseCause.{CloseCause}
use Rattle.push_laws.specs.push_model.specs.declared.course.Point.TheVariants.{Due, Asked}
use Rattle.push_laws.specs.push_model.specs.declared.course.Stage.{Stage}
use Rattle.push_laws.specs.push_model.specs.declared.course.Stage.TheVariants.{Rest, Link, SearchChannel, Search, SearchEnd, Features, ObjectChannel, Object, ObjectEnd, LinkEnd, Over}
use Rattle.push_laws.specs.push_model.specs.Causes.{Ending, InOrder, AtOnce, ending_of}
use Rattle.push_laws.specs.push_model.specs.Client.{Client, begins, begun_by, cancelled, ends, ends_by, may_cancel, stage_after, is_idle}
use Rattle.push_laws.specs.push_model.specs.Events as events
use Rattle.push_laws.specs.push_model.specs.Events.{is_search, is_asking_features, hears_news}
use Rattle.push_laws.specs.push_model.specs.Laws.{Asks, links, link_steps}
use Rattle.push_laws.specs.push_model.specs.Payloads.{Payload}
use Rattle.push_laws.specs.push_model.specs.Steps.{Part, Step, Wait, MakeLink, AskFeatures, OpenChannel, SendSdu, CloseChannel, BreakLink, Ended, NoMemory, Stepped, rests, steps, steps_at}
use Rattle.push_laws.specs.push_model.proofs.LinkLaws.{asks_for_one_link}
use Rattle.shelf_model.specs.world_model.specs.Machines.{Up, Down, News, Linked, Failed, Heard, TimerFired, Cancelled, Opening}
use Rattle.shelf_model.specs.host_model.specs.Circumstances.{Circumstance}
use Rattle.shelf_model.specs.host_model.specs.Clients as clients
use Rattle.shelf_model.specs.host_model.specs.Clients.{NoBid, ClientProfile, client_profile, is_paging, after_end, ended, after_call, calls, cause_of, opened_by, closed_by, event_heard, sent_on, submits, takes, fitted}
use Rattle.shelf_model.specs.host_model.specs.Endpoints.{endpoint_of, takes_sdu}
use Rattle.shelf_model.specs.host_model.specs.Pdus.{sdu_of}
use Rattle.shelf_model.specs.host_model.specs.Shelves.{size_for, name_for, unused}
use Rattle.host_laws.specs.Feeds.{Feed, Gifts, Learns, Receives, Happens, Sent, Steps, fed, all_fed}
use Rattle.host_laws.specs.Searching.{BeginsSearch}
use Rattle.host_laws.specs.SearchOrder.{AsksInOrder}
use Rattle.host_laws.proofs.OnwardSteps.{StepSo, steps_so}
use Rattle.host_laws.proofs.SearchHosts.{links_begin_searches}

-- its push waits for its link, and its question is a new one
abbrev pub WaitsForLink : Client → Type 0
WaitsForLink c = (c.stage ≡ Link Asked) × (c.query ≡ begun)

abbrev pub PagesSo : ClientProfile → Type 0
PagesSo p = is_paging p.bid ≡ true → WaitsForLink p.client

either : (test : Bool) (a b : Client) → WaitsForLink a → WaitsForLink b → WaitsForLink (cond test a b)
either true a b one other = one
either false a b one other = other

no_bid : {X : Type 0} → false ≡ true → X
no_bid is = cc

-- ---- what it is told

still_waits : (ending : Ending) → stage_after ending (Link Asked) ≡ Link Asked
still_waits InOrder = refl
still_waits AtOnce = refl

ends_waits : (cause : Option Outcome) (outcome : Outcome) (c : Client) → WaitsForLink c → WaitsForLink (ends_by cause outcome c)
ends_waits None outcome c (at, new) = (ap (stage_after (ending_of outcome)) at ∙ still_waits (ending_of outcome), new)
ends_waits (Some earlier) outcome c (at, new) = (ap (stage_after AtOnce) at, new)

cancelled_waits : (c : Client) → WaitsForLink c → WaitsForLink (cancelled c)
cancelled_waits c so = either (may_cancel c) (ends outcomes.Cancelled c) c (ends_waits c.cause outcomes.Cancelled c so) so

timer_waits : (c : Client) → WaitsForLink c → WaitsForLink (events.fires c)
timer_waits c so =
    let late : Client = cond (c.left == 0) (ends outcomes.RetryLimit c) (record c { query = after_resend c.query }) in
    subst (λ s. WaitsForLink (cond ((is_search s && is_awaiting c.query) && not (c.given || is_due c.query)) late c)) (sym so.0) so

sdu_waits : (psm : ℕ) (sdu : List ℕ) (c : Client) → WaitsForLink c → WaitsForLink (hears_news (events.Sdu psm sdu) c)
sdu_waits psm sdu c so = subst (λ s. WaitsForLink (events.sdu_at s psm sdu c)) (sym so.0) so

opened_waits : (mtu : Option ℕ) (psm : ℕ) (c : Client) → WaitsForLink c → WaitsForLink (opened_by mtu psm c)
opened_waits None psm c so = so
opened_waits (Some mtu) psm c so = subst (λ s. WaitsForLink (events.opened_at s psm mtu c)) (sym so.0) so

closed_waits : (cause : Option CloseCause) (psm : ℕ) (c : Client) → WaitsForLink c → WaitsForLink (closed_by cause psm c)
closed_waits None psm c so = so
closed_waits (Some cause) psm c so = subst (λ s. WaitsForLink (events.closed_at s psm cause c)) (sym so.0) so

event_waits : (event : ChannelEvent) (v : Channels) (c : Client) → WaitsForLink c → WaitsForLink (event_heard event v c)
event_waits (Opened own psm) v c so = opened_waits (peer_mtu own v) psm c so
event_waits (Closed own psm reason) v c so = closed_waits (cause_of reason) psm c so
event_waits (Told features) v c so = subst (λ s. WaitsForLink (cond (is_asking_features s) (record c { stage = ObjectChannel Due }) c)) (sym so.0) so
event_waits FeaturesLost v c so = subst (λ s. WaitsForLink (cond (is_asking_features s) (ends outcomes.RetryLimit c) c)) (sym so.0) so
event_waits (DisconnectLost own) v c so = so

-- ---- its steps

-- while it waits for its link it takes none
module _ (c : Client) (parts : List Part) (so : WaitsForLink c) (P : Stepped → Type 0) where
  waits_step : P (record { client = c; step = NoMemory; left = parts }) → P (rests c parts) → P (steps c parts)
  waits_step lacks rests' = by c.failed c.given
    where
      at : P (steps_at c.stage c parts)
      at = subst (λ s. P (steps_at s c parts)) (sym so.0) rests'

      by : (failed given : Bool) → P (cond failed (record { client = c; step = NoMemory; left = parts }) (cond given (rests c parts) (steps_at c.stage c parts)))
      by true given = lacks
      by false true = rests'
      by false false = at

ended_waits : (c : Client) → WaitsForLink c → WaitsForLink (ended c)
ended_waits c so = waits_step c [] so (λ s. WaitsForLink (after_end s.step s.client c)) so so

submits_bid : (own : Option ℕ) (payload : Payload) (v : Channels) (p : ClientProfile) → (submits own payload v p).profile.bid ≡ p.bid
submits_bid None payload v p = refl
submits_bid (Some own) payload v p = by (takes_sdu own (sdu_of payload) v)
  where
    by : (taken : Bool) → (cond taken (clients.waiting (sends own (sdu_of payload) v) (record p { submitted = Some own })) (clients.waiting v p)).profile.bid ≡ p.bid
    by true = refl
    by false = refl

-- no step has its line make one
takes_bid : (step : Step) (v : Channels) (after before : ClientProfile) → after.bid ≡ before.bid → is_paging (takes step v after before).profile.bid ≡ true → is_paging before.bid ≡ true
takes_bid Wait v after before same pages = ap is_paging (sym same) ∙ pages
takes_bid MakeLink v after before same pages = pages
takes_bid AskFeatures v after before same pages = ap is_paging (sym same) ∙ pages
takes_bid (OpenChannel psm) v after before same pages = ap is_paging (sym same) ∙ pages
takes_bid (SendSdu psm payload) v after before same pages = ap is_paging (sym (submits_bid (endpoint_of psm after.endpoints) payload v after ∙ same)) ∙ pages
takes_bid (CloseChannel psm) v after before same pages = ap is_paging (sym same) ∙ pages
takes_bid BreakLink v after before same pages = no_bid pages
takes_bid (Ended outcome) v after before same pages = ap is_paging (sym same) ∙ pages
takes_bid NoMemory v after before same pages = ap is_paging (sym same) ∙ pages

steps_page : (v : Channels) (p : ClientProfile) → PagesSo p → PagesSo (clients.next_stride v p).profile
steps_page v p so pages =
    let one = steps p.client (fitted p) in
    let was : WaitsForLink p.client = so (takes_bid one.step v (record p { client = one.client; parts = unused one.left p.parts }) p refl pages) in
    waits_step p.client (fitted p) was (λ s. WaitsForLink (takes s.step v (record p { client = s.client; parts = unused s.left p.parts }) p).profile.client) was was

sent_page : (own : Option ℕ) (v : Channels) (p : ClientProfile) → PagesSo p → PagesSo (sent_on own v p)
sent_page None v p so = so
sent_page (Some own) v p so = by (waits own v)
  where
    by : (waiting : Bool) → PagesSo (cond waiting p (clients.done (record p { submitted = None })))
    by true = so
    by false = so

-- ---- a push begins

-- it lacks memory, or where its link is due its question is a new one
abbrev IsAnew : Client → Type 0
IsAnew c = (c.failed ≡ true) ⊎ (c.stage ≡ Link Due → c.query ≡ begun)

rests_anew : (c : Client) → IsAnew c → IsAnew (record c { stage = Rest })
rests_anew c (inl failed) = inl failed
rests_anew c (inr new) = inr (λ is. cc)

begun_anew : (size : Result ℕ PortFault) (name : List ℕ) (c : Client) → IsAnew (begun_by size name c)
begun_anew (Ok size) name c = inr (λ at. refl)
begun_anew (Err fault.Failed) name c = inr (λ at. refl)
begun_anew (Err fault.NoMemory) name c = inl refl

begins_anew : (size : Result ℕ PortFault) (name : List ℕ) (c : Client) → IsAnew (begins size name c)
begins_anew size name c = by c.failed refl
  where
    by : (failed : Bool) → c.failed ≡ failed → IsAnew (cond failed c (begun_by size name c))
    by true is = inl is
    by false is = begun_anew size name c

end_anew : (step : Step) (c d : Client) → IsAnew c → StepSo c d step → IsAnew (after_end step d c)
end_anew (Ended outcome) c d new (from, to) = inr (λ at. let never : Rest ≡ Link Due = sym to ∙ at in cc)
end_anew Wait c d new so = new
end_anew MakeLink c d new so = new
end_anew AskFeatures c d new so = new
end_anew (OpenChannel psm) c d new so = new
end_anew (SendSdu psm payload) c d new so = new
end_anew (CloseChannel psm) c d new so = new
end_anew BreakLink c d new so = new
end_anew NoMemory c d new so = new

ended_anew : (c : Client) → IsAnew c → IsAnew (ended c)
ended_anew c new = let one = steps c [] in end_anew one.step c one.client new (steps_so c [])

-- it asks for its link, or for nothing
none_pages : (step : Step) (d : Client) (p : ClientProfile) → is_paging p.bid ≡ false → link_steps step ≡ 0 → PagesSo (after_call step d p)
none_pages MakeLink d p free none = cc
none_pages Wait d p free none = λ pages. no_bid (sym free ∙ pages)
none_pages AskFeatures d p free none = λ pages. no_bid (sym free ∙ pages)
none_pages (OpenChannel psm) d p free none = λ pages. no_bid (sym free ∙ pages)
none_pages (SendSdu psm payload) d p free none = λ pages. no_bid (sym free ∙ pages)
none_pages (CloseChannel psm) d p free none = λ pages. no_bid (sym free ∙ pages)
none_pages BreakLink d p free none = λ pages. no_bid (sym free ∙ pages)
none_pages (Ended outcome) d p free none = λ pages. no_bid (sym free ∙ pages)
none_pages NoMemory d p free none = λ pages. no_bid (sym free ∙ pages)

due_or_none : (stage : Stage) → (stage ≡ Link Due) ⊎ (links stage ≡ 0)
due_or_none (Link Due) = inl refl
due_or_none (Link Asked) = inr refl
due_or_none Rest = inr refl
due_or_none (SearchChannel point) = inr refl
due_or_none Search = inr refl
due_or_none (SearchEnd point) = inr refl
due_or_none (Features point) = inr refl
due_or_none (ObjectChannel point) = inr refl
due_or_none Object = inr refl
due_or_none (ObjectEnd point) = inr refl
due_or_none (LinkEnd point) = inr refl
due_or_none Over = inr refl

calls_page : (p : ClientProfile) → is_paging p.bid ≡ false → IsAnew p.client → PagesSo (calls p)
calls_page p free new = on (due_or_none p.client.stage)
  where
    c : Client
    c = p.client

    P : Stepped → Type 0
    P s = PagesSo (after_call s.step s.client p)

    quiet : P (rests c [])
    quiet pages = no_bid (sym free ∙ pages)

    due : c.stage ≡ Link Due → (failed given : Bool) → c.failed ≡ failed → P (cond failed (record { client = c; step = NoMemory; left = [] }) (cond given (rests c []) (steps_at c.stage c [])))
    due at true given is = quiet
    due at false true is = quiet
    due at false false is = subst (λ s. P (steps_at s c [])) (sym at) (λ pages. (refl, by new))
      where
        by : IsAnew c → c.query ≡ begun
        by (inl failed) = let never : true ≡ false = sym failed ∙ is in absurd cc
        by (inr at_due) = at_due at

    on : (c.stage ≡ Link Due) ⊎ (links c.stage ≡ 0) → P (steps c [])
    on (inl at) = due at c.failed c.given refl
    on (inr none) = none_pages (steps c []).step (steps c []).client p free (let few = asks_for_one_link (Asks [] ∷ []) c in omega (arith, few, none))

-- ---- all that its profile goes through

told_pages : (circumstances : List Circumstance) (news : News) (p : ClientProfile) → PagesSo p → PagesSo (clients.told circumstances news p)
told_pages circumstances (Linked Up) p so = λ pages. no_bid pages
told_pages circumstances (Linked (Down reason)) p so = λ pages. no_bid pages
told_pages circumstances (Failed status) p so = λ pages. no_bid pages
told_pages circumstances (Heard pdu) p so = so
told_pages circumstances TimerFired p so = λ pages. timer_waits p.client (so pages)
told_pages circumstances Cancelled p so = λ pages. ended_waits (cancelled p.client) (cancelled_waits p.client (so pages))
told_pages circumstances (Opening name) p so =
    let begun' = begins (size_for circumstances name) (name_for name) p.client in
    calls_page (record p { client = ended begun'; submitted = None; bid = NoBid }) refl (ended_anew begun' (begins_anew (size_for circumstances name) (name_for name) p.client))

feed_pages : (settings : Settings) (feed : Feed) (p : ClientProfile) → PagesSo p → PagesSo (fed (client_profile settings) p feed)
feed_pages settings (Gifts circumstances) p so = so
feed_pages settings (Learns circumstances news) p so = told_pages circumstances news p so
feed_pages settings (Receives own psm sdu) p so = λ pages. sdu_waits psm sdu p.client (so pages)
feed_pages settings (Happens event v) p so = λ pages. event_waits event v p.client (so pages)
feed_pages settings (Sent v) p so = sent_page p.submitted v p so
feed_pages settings (Steps v) p so = steps_page v p so

pub fed_pages : (settings : Settings) (feeds : List Feed) (p : ClientProfile) → PagesSo p → PagesSo (all_fed (client_profile settings) p feeds)
fed_pages settings [] p so = so
fed_pages settings (feed ∷ feeds) p so = fed_pages settings feeds (fed (client_profile settings) p feed) (feed_pages settings feed p so)

pub first_pages : (settings : Settings) → PagesSo (client_profile settings).first
first_pages settings pages = no_bid pages

-- ---- a link that it wants comes up

pub wanted_begins : (settings : Settings) (circumstances : List Circumstance) (p : ClientProfile) → PagesSo p → (client_profile settings).wants_link p ≡ true → BeginsSearch ((client_profile settings).told circumstances (Linked Up) p)
wanted_begins settings circumstances p so wants =
    let (at, new) = so (left (is_paging p.bid) (not (is_idle p.client)) wants) in
    links_begin_searches settings circumstances p at (subst (λ s. AsksInOrder s p.client.query) (sym at) new)
  where
    left : (a b : Bool) → (a && b) ≡ true → a ≡ true
    left true b is = refl
    left false b is = cc
