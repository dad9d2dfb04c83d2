-- What host a hears and says spends its client's tries alone, and its timer sends a request once more where that is paid.
use Rattle.std.proofs.Common.{◌≡◌, ◌≤◌, ◌+◌, ℕ, Bool, true, false, not, ◌&&◌, ◌||◌, ◌==◌, cond, List, [], ◌∷◌, Option, Some, None, refl, sym, ap, ◌∙◌, arith}
use Rattle.std.specs.Prelude.{nat_lt, min}
use Rattle.cause_laws.specs.bt_base.specs.declared.settings.Settings.{Settings}
use Rattle.cause_laws.specs.bt_base.specs.declared.settings.Transport.{Transport}
use Rattle.cause_laws.specs.bt_base.specs.declared.settings.Transport.TheVariants.{L2cap, Rfcomm}
use Rattle.cause_laws.specs.push_terms.specs.declared.outcome.Outcome.{Outcome}
use Rattle.cause_laws.specs.push_terms.specs.declared.outcome.Outcome.TheVariants.{RetryLimit}
use Rattle.cause_laws.specs.channel_model.specs.declared.event.ChannelEvent.{ChannelEvent}
use Rattle.cause_laws.specs.channel_model.specs.declared.event.ChannelEvent.TheVariants.{Opened, Closed, Features as Told_features, FeaturesLost, DisconnectLost}
use Rattle.cause_laws.specs.channel_model.specs.Calls.{peer_mtu, waits, sends}
use Rattle.cause_laws.specs.channel_model.specs.Timing.{timed_out}
use Rattle.cause_laws.specs.channel_model.specs.Value.{Channels}
use Rattle.cause_laws.specs.sdp_client.specs.Asking.{Asking, is_due}
use Rattle.cause_laws.specs.sdp_client.specs.Views.{is_awaiting}
use Rattle.cause_laws.specs.push_model.specs.declared.closing.CloseCause.{CloseCause}
use Rattle.cause_laws.specs.push_model.specs.declared.course.Point.TheVariants.{Due, Asked}
use Rattle.cause_laws.specs.push_model.specs.declared.course.Stage.{Stage}
use Rattle.cause_laws.specs.push_model.specs.declared.course.Stage.TheVariants as stages
use Rattle.cause_laws.specs.push_model.specs.Causes.{cause_of_close, small_channel}
use Rattle.cause_laws.specs.push_model.specs.Client.{Client, ends, ends_by, ends_if, begins, cancelled}
use Rattle.cause_laws.specs.push_model.specs.Events as events
use Rattle.cause_laws.specs.push_model.specs.Events.{is_search, is_asking_features, search_psm, object_opened, opened_at, search_left, search_closed, closed_at}
use Rattle.cause_laws.specs.push_model.specs.Payloads.{Payload}
use Rattle.cause_laws.specs.push_model.specs.Steps.{Step, Wait, MakeLink, AskFeatures, OpenChannel, SendSdu, CloseChannel, BreakLink, Ended, NoMemory, steps}
use Rattle.cause_laws.specs.world_model.specs.Machines.{News, Linked, Up, Down, Failed, Heard, TimerFired, Cancelled, Opening}
use Rattle.cause_laws.specs.host_model.specs.Circumstances.{Circumstance}
use Rattle.cause_laws.specs.host_model.specs.Clients as profile
use Rattle.cause_laws.specs.host_model.specs.Clients.{ClientProfile, client_profile, NoBid, cause_of, closed_by, opened_by, event_heard, after_end, ended, after_call, calls, takes, submits, sent_on, fitted}
use Rattle.cause_laws.specs.host_model.specs.Endpoints.{endpoint_of, takes_sdu}
use Rattle.cause_laws.specs.host_model.specs.Hosts.{Host, hear, next, ready, tells_each, hears_news, most_steps}
use Rattle.cause_laws.specs.host_model.specs.Pdus.{sdu_of}
use Rattle.cause_laws.specs.host_model.specs.Profiles.{Profile}
use Rattle.cause_laws.specs.host_model.specs.Shelves.{size_for, name_for, unused}
use Rattle.cause_laws.specs.host_model.proofs.Keeping.{Keeps, KeepsNews, drives_on, hears_on, goes_next}
use Rattle.search_laws.specs.Searches.{awaits_reply}
use Rattle.search_laws.proofs.Deeds.{StagePaid, IsPaid, more_paid, opened_paid, closed_paid, features_paid, lost_paid, asks_paid, hears_paid, cancels_paid, begins_paid, timer_paid}

-- ---- what its channels tell it

module _ (adverse : ℕ) (shows : Asking → Bool) where
  abbrev Paid : Client → Type 0
  Paid c = StagePaid adverse c.stage c.tries c.left (shows c.query)

  event_paid : (event : ChannelEvent) (v : Channels) (c : Client) → Paid c → Paid (event_heard event v c)
  event_paid (Opened own psm) v c paid = by (peer_mtu own v)
    where
      by : (mtu : Option ℕ) → Paid (opened_by mtu psm c)
      by None = paid
      by (Some mtu) = opened_paid adverse shows c.stage psm mtu c paid paid
  event_paid (Closed own psm reason) v c paid = by (cause_of reason)
    where
      by : (cause : Option CloseCause) → Paid (closed_by cause psm c)
      by None = paid
      by (Some cause) = closed_paid adverse shows c.stage psm cause c paid
  event_paid (Told_features features) v c paid = features_paid adverse shows c paid
  event_paid FeaturesLost v c paid = lost_paid adverse shows c paid
  event_paid (DisconnectLost own) v c paid = paid

-- its question stays, and a step that was given
abbrev Same : (c d : Client) → Type 0
Same c d = (d.query ≡ c.query) × (d.given ≡ c.given)

same_if : (test : Bool) (c d e : Client) → Same c d → Same c e → Same c (cond test d e)
same_if true c d e x y = x
same_if false c d e x y = y

ends_same : (outcome : Outcome) (c : Client) → Same c (ends outcome c)
ends_same outcome c = by c.cause
  where
    by : (cause : Option Outcome) → Same c (ends_by cause outcome c)
    by None = (refl, refl)
    by (Some earlier) = (refl, refl)

ends_if_same : (cause : Option Outcome) (c : Client) → Same c (ends_if cause c)
ends_if_same None c = (refl, refl)
ends_if_same (Some outcome) c = ends_same outcome c

object_same : (transport : Transport) (mtu : ℕ) (c : Client) → Same c (object_opened transport mtu c)
object_same L2cap mtu c = by (nat_lt mtu 255)
  where
    by : (small : Bool) → Same c (cond small (ends small_channel c) (record c { stage = stages.Object; limit = min mtu 32767 }))
    by true = ends_same small_channel c
    by false = (refl, refl)
object_same Rfcomm mtu c = (refl, refl)

opened_same : (stage : Stage) (psm mtu : ℕ) (c : Client) → Same c (opened_at stage psm mtu c)
opened_same (stages.SearchChannel Asked) psm mtu c = same_if (psm == search_psm) c (record c { stage = stages.Search }) c (refl, refl) (refl, refl)
opened_same (stages.ObjectChannel Asked) psm mtu c = same_if (psm == c.psm) c (object_opened c.transport mtu c) c (object_same c.transport mtu c) (refl, refl)
opened_same stages.Rest psm mtu c = (refl, refl)
opened_same (stages.Link point) psm mtu c = (refl, refl)
opened_same (stages.SearchChannel Due) psm mtu c = (refl, refl)
opened_same stages.Search psm mtu c = (refl, refl)
opened_same (stages.SearchEnd point) psm mtu c = (refl, refl)
opened_same (stages.Features point) psm mtu c = (refl, refl)
opened_same (stages.ObjectChannel Due) psm mtu c = (refl, refl)
opened_same stages.Object psm mtu c = (refl, refl)
opened_same (stages.ObjectEnd point) psm mtu c = (refl, refl)
opened_same (stages.LinkEnd point) psm mtu c = (refl, refl)
opened_same stages.Over psm mtu c = (refl, refl)

left_same : (cause : Option Outcome) (c : Client) → Same c (search_left cause c)
left_same None c = (refl, refl)
left_same (Some outcome) c = (refl, refl)

search_same : (cause : Option Outcome) (c : Client) → Same c (search_closed cause c)
search_same None c = left_same c.cause c
search_same (Some outcome) c = ends_same outcome c

closed_same : (stage : Stage) (psm : ℕ) (cause : CloseCause) (c : Client) → Same c (closed_at stage psm cause c)
closed_same (stages.SearchChannel Asked) psm cause c = same_if (psm == search_psm) c (ends_if (cause_of_close cause) c) c (ends_if_same (cause_of_close cause) c) (refl, refl)
closed_same stages.Search psm cause c = same_if (psm == search_psm) c (ends_if (cause_of_close cause) c) c (ends_if_same (cause_of_close cause) c) (refl, refl)
closed_same (stages.SearchEnd point) psm cause c = same_if (psm == search_psm) c (search_closed (cause_of_close cause) c) c (search_same (cause_of_close cause) c) (refl, refl)
closed_same (stages.ObjectChannel Asked) psm cause c = same_if (psm == c.psm) c (ends_if (cause_of_close cause) c) c (ends_if_same (cause_of_close cause) c) (refl, refl)
closed_same stages.Object psm cause c = same_if (psm == c.psm) c (ends_if (cause_of_close cause) c) c (ends_if_same (cause_of_close cause) c) (refl, refl)
closed_same (stages.ObjectEnd point) psm cause c = same_if (psm == c.psm) c (record c { stage = stages.LinkEnd Due }) c (refl, refl) (refl, refl)
closed_same stages.Rest psm cause c = (refl, refl)
closed_same (stages.Link point) psm cause c = (refl, refl)
closed_same (stages.SearchChannel Due) psm cause c = (refl, refl)
closed_same (stages.Features point) psm cause c = (refl, refl)
closed_same (stages.ObjectChannel Due) psm cause c = (refl, refl)
closed_same (stages.LinkEnd point) psm cause c = (refl, refl)
closed_same stages.Over psm cause c = (refl, refl)

event_same : (event : ChannelEvent) (v : Channels) (c : Client) → Same c (event_heard event v c)
event_same (Opened own psm) v c = by (peer_mtu own v)
  where
    by : (mtu : Option ℕ) → Same c (opened_by mtu psm c)
    by None = (refl, refl)
    by (Some mtu) = opened_same c.stage psm mtu c
event_same (Closed own psm reason) v c = by (cause_of reason)
  where
    by : (cause : Option CloseCause) → Same c (closed_by cause psm c)
    by None = (refl, refl)
    by (Some cause) = closed_same c.stage psm cause c
event_same (Told_features features) v c = same_if (is_asking_features c.stage) c (record c { stage = stages.ObjectChannel Due }) c (refl, refl) (refl, refl)
event_same FeaturesLost v c = same_if (is_asking_features c.stage) c (ends RetryLimit c) c (ends_same RetryLimit c) (refl, refl)
event_same (DisconnectLost own) v c = (refl, refl)

-- ---- all that its profile does

ended_paid : (adverse : ℕ) (c : Client) → IsPaid adverse c → IsPaid adverse (ended c)
ended_paid adverse c paid = by (steps c []).step
  where
    by : (step : Step) → IsPaid adverse (after_end step (steps c []).client c)
    by (Ended outcome) = asks_paid adverse c [] paid
    by Wait = paid
    by MakeLink = paid
    by AskFeatures = paid
    by (OpenChannel psm) = paid
    by (SendSdu psm payload) = paid
    by (CloseChannel psm) = paid
    by BreakLink = paid
    by NoMemory = paid

calls_paid : (adverse : ℕ) (p : ClientProfile) → IsPaid adverse p.client → IsPaid adverse (calls p).client
calls_paid adverse p paid = by (steps p.client []).step
  where
    by : (step : Step) → IsPaid adverse (after_call step (steps p.client []).client p).client
    by MakeLink = asks_paid adverse p.client [] paid
    by (Ended outcome) = paid
    by Wait = paid
    by AskFeatures = paid
    by (OpenChannel psm) = paid
    by (SendSdu psm payload) = paid
    by (CloseChannel psm) = paid
    by BreakLink = paid
    by NoMemory = paid

sent_paid : (adverse : ℕ) (submitted : Option ℕ) (v : Channels) (p : ClientProfile) → IsPaid adverse p.client → IsPaid adverse (sent_on submitted v p).client
sent_paid adverse None v p paid = paid
sent_paid adverse (Some own) v p paid = by (waits own v)
  where
    by : (waiting : Bool) → IsPaid adverse (cond waiting p (profile.done (record p { submitted = None }))).client
    by true = paid
    by false = paid

submits_paid : (adverse : ℕ) (found : Option ℕ) (payload : Payload) (v : Channels) (p : ClientProfile) → IsPaid adverse p.client → IsPaid adverse (submits found payload v p).profile.client
submits_paid adverse None payload v p paid = paid
submits_paid adverse (Some own) payload v p paid = by (takes_sdu own (sdu_of payload) v)
  where
    by : (taken : Bool) → IsPaid adverse (cond taken (profile.waiting (sends own (sdu_of payload) v) (record p { submitted = Some own })) (profile.waiting v p)).profile.client
    by true = paid
    by false = paid

takes_paid : (adverse : ℕ) (step : Step) (v : Channels) (after before : ClientProfile) → IsPaid adverse after.client → IsPaid adverse before.client → IsPaid adverse (takes step v after before).profile.client
takes_paid adverse Wait v after before now was = now
takes_paid adverse MakeLink v after before now was = was
takes_paid adverse AskFeatures v after before now was = now
takes_paid adverse (OpenChannel psm) v after before now was = now
takes_paid adverse (SendSdu psm payload) v after before now was = submits_paid adverse (endpoint_of psm after.endpoints) payload v after now
takes_paid adverse (CloseChannel psm) v after before now was = now
takes_paid adverse BreakLink v after before now was = now
takes_paid adverse (Ended outcome) v after before now was = now
takes_paid adverse NoMemory v after before now was = now

module _ (settings : Settings) where
  abbrev A : Profile ClientProfile
  A = client_profile settings

  abbrev Kept : ℕ → ClientProfile → Type 0
  Kept adverse p = IsPaid adverse p.client

  pub keeps : (adverse : ℕ) → Keeps (client_profile settings) (λ (p : ClientProfile). IsPaid adverse p.client)
  keeps adverse = record {
    given = λ circumstances p paid. paid;
    received = λ own psm sdu p paid. hears_paid adverse (events.Sdu psm sdu) p.client (λ is. cc) paid;
    happened = λ event v p paid. event_paid adverse is_due event v p.client paid;
    sent = λ v p paid. sent_paid adverse p.submitted v p paid;
    steps = λ v p paid.
        let one = steps p.client (fitted p) in
        let after : ClientProfile = record p { client = one.client; parts = unused one.left p.parts } in
        takes_paid adverse one.step v after p (asks_paid adverse p.client (fitted p) paid) paid;
  }

  -- what it is told of its link and its push
  abbrev pub IsNoTimer : News → Type 0
  IsNoTimer TimerFired = ⊥
  IsNoTimer news = Unit {0}

  pub told_paid : (adverse : ℕ) (news : News) → IsNoTimer news → KeepsNews (client_profile settings) (λ (p : ClientProfile). IsPaid adverse p.client) news
  told_paid adverse (Linked Up) apart g p paid = hears_paid adverse events.LinkUp p.client (λ is. cc) paid
  told_paid adverse (Linked (Down reason)) apart g p paid = ended_paid adverse (events.hears_news (events.LinkDown reason) p.client) (hears_paid adverse (events.LinkDown reason) p.client (λ is. cc) paid)
  told_paid adverse (Failed status) apart g p paid = ended_paid adverse (events.hears_news (events.LinkFailed status) p.client) (hears_paid adverse (events.LinkFailed status) p.client (λ is. cc) paid)
  told_paid adverse (Heard pdu) apart g p paid = paid
  told_paid adverse TimerFired apart g p paid = absurd apart
  told_paid adverse Cancelled apart g p paid = ended_paid adverse (cancelled p.client) (cancels_paid adverse p.client paid)
  told_paid adverse (Opening name) apart g p paid =
      let begun : Client = begins (size_for g name) (name_for name) p.client in
      calls_paid adverse (record p { client = ended begun; submitted = None; bid = NoBid }) (ended_paid adverse begun (begins_paid adverse (size_for g name) (name_for name) p.client paid))

  pub hears_kept : (adverse : ℕ) (g : List Circumstance) (news : News) (host : Host ClientProfile) → IsNoTimer news → IsPaid adverse host.profile.client → IsPaid adverse (hear (client_profile settings) g news host).profile.client
  hears_kept adverse g news host apart paid = hears_on A (Kept adverse) (keeps adverse) g news host (told_paid adverse news apart) paid

  pub next_kept : (adverse : ℕ) (host : Host ClientProfile) (pdu : List ℕ) (after : Host ClientProfile) → next (client_profile settings) host ≡ Some (pdu, after) → IsPaid adverse host.profile.client → IsPaid adverse after.profile.client
  next_kept adverse host pdu after is paid = goes_next A (Kept adverse) (keeps adverse) host pdu after is paid

  -- ---- its timer

  -- as much as was to be paid is, whether or not it is to be sent again
  abbrev AllPaid : ℕ → Client → Type 0
  AllPaid most c = StagePaid most c.stage c.tries c.left true

  abbrev is_sent : Client → Bool
  is_sent c = is_awaiting c.query && not (c.given || is_due c.query)

  record Firm (most : ℕ) (sent : Bool) (c : Client) : Type 0 where
    paid : IsPaid most c
    all : sent ≡ true → AllPaid most c
    same : is_sent c ≡ sent

  each_firm : (most : ℕ) (sent : Bool) (list : List ChannelEvent) (v : Channels) (p : ClientProfile) → Firm most sent p.client → Firm most sent (tells_each (client_profile settings) list v p).client
  each_firm most sent [] v p firm = firm
  each_firm most sent (event ∷ list) v p firm =
      let w : Channels = record v { events = list } in
      let d = event_heard event w p.client in
      let same = event_same event w p.client in
      each_firm most sent list w (record p { client = d }) (record {
        paid = event_paid most is_due event w p.client firm.paid;
        all = λ is. event_paid most (λ q. true) event w p.client (firm.all is);
        same = ap (λ (q : Asking). is_awaiting q && not (d.given || is_due q)) same.0 ∙ (ap (λ (g : Bool). is_awaiting p.client.query && not (g || is_due p.client.query)) same.1 ∙ firm.same);
      })

  stage_all : (most : ℕ) (stage : Stage) (tries left : ℕ) (due : Bool) → (is_search stage ≡ true → tries ≤ left + most) → StagePaid most stage tries left due → StagePaid most stage tries left true
  stage_all most stages.Search tries left due pays paid = let now = pays refl in omega (arith, now)
  stage_all most (stages.Link point) tries left due pays paid = paid
  stage_all most (stages.SearchChannel point) tries left due pays paid = paid
  stage_all most stages.Rest tries left due pays paid = tt
  stage_all most (stages.SearchEnd point) tries left due pays paid = tt
  stage_all most (stages.Features point) tries left due pays paid = tt
  stage_all most (stages.ObjectChannel point) tries left due pays paid = tt
  stage_all most stages.Object tries left due pays paid = tt
  stage_all most (stages.ObjectEnd point) tries left due pays paid = tt
  stage_all most (stages.LinkEnd point) tries left due pays paid = tt
  stage_all most stages.Over tries left due pays paid = tt

  all_search : (most : ℕ) (stage : Stage) (tries left : ℕ) → is_search stage ≡ true → StagePaid most stage tries left true → tries ≤ left + most
  all_search most stages.Search tries left is paid = omega (arith, paid)
  all_search most stages.Rest tries left is paid = cc
  all_search most (stages.Link point) tries left is paid = cc
  all_search most (stages.SearchChannel point) tries left is paid = cc
  all_search most (stages.SearchEnd point) tries left is paid = cc
  all_search most (stages.Features point) tries left is paid = cc
  all_search most (stages.ObjectChannel point) tries left is paid = cc
  all_search most stages.Object tries left is paid = cc
  all_search most (stages.ObjectEnd point) tries left is paid = cc
  all_search most (stages.LinkEnd point) tries left is paid = cc
  all_search most stages.Over tries left is paid = cc

  both_true : (a b c : Bool) → ((a && b) && c) ≡ true → (a ≡ true) × ((b && c) ≡ true)
  both_true true b c is = (refl, is)
  both_true false b c is = cc

  join_true : (a b c : Bool) → a ≡ true → (b && c) ≡ true → ((a && b) && c) ≡ true
  join_true true b c one two = two
  join_true false b c one two = cc

  pub timer_kept : (adverse most : ℕ) (g : List Circumstance) (host : Host ClientProfile) → adverse ≤ most → IsPaid adverse host.profile.client → (awaits_reply host.profile.client ≡ true → host.profile.client.tries ≤ host.profile.client.left + most)
      → IsPaid most (hear (client_profile settings) g TimerFired host).profile.client
  timer_kept adverse most g host more paid pays = drives_on A (Kept most) (keeps most) most_steps (hears_news A g TimerFired (ready A g host)) fired
    where
      c : Client
      c = host.profile.client

      p : ClientProfile
      p = (ready A g host).profile

      v : Channels
      v = timed_out (client_profile settings).policy host.channels

      told : ClientProfile
      told = tells_each (client_profile settings) v.events v p

      begun : Firm most (is_sent host.profile.client) host.profile.client
      begun = record {
        paid = more_paid adverse most c more paid;
        all = λ sent. stage_all most c.stage c.tries c.left (is_due c.query) (λ search. pays (join_true (is_search c.stage) (is_awaiting c.query) (not (c.given || is_due c.query)) search sent)) (more_paid adverse most c more paid);
        same = refl;
      }

      firm : Firm most (is_sent host.profile.client) (tells_each (client_profile settings) (timed_out (client_profile settings).policy host.channels).events (timed_out (client_profile settings).policy host.channels) (ready (client_profile settings) g host).profile).client
      firm = each_firm most (is_sent c) v.events v p begun

      fired : IsPaid most (events.hears_news events.Timer (tells_each (client_profile settings) (timed_out (client_profile settings).policy host.channels).events (timed_out (client_profile settings).policy host.channels) (ready (client_profile settings) g host).profile).client)
      fired =
          timer_paid most told.client firm.paid
          (λ awaits. let parts = both_true (is_search told.client.stage) (is_awaiting told.client.query) (not (told.client.given || is_due told.client.query)) awaits in all_search most told.client.stage told.client.tries told.client.left parts.0 (firm.all (sym firm.same ∙ parts.1)))
