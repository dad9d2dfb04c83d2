-- A client that hears the reply of its server alone on the channel to the service records: it asks its one request there, and its query is never refused.
use Rattle.std.proofs.Common.{◌≡◌, ℕ, Bool, true, false, cond, ◌==◌, ◌-◌, List, [], ◌∷◌, Option, Some, None, is_some, Result, Ok, Err, inr, refl, sym, ap, subst, ◌∙◌, arith}
use Rattle.std.specs.List.{AllByRecursion}
use Rattle.request_laws.specs.bt_base.specs.declared.ports.PortFault.{PortFault}
use Rattle.request_laws.specs.bt_base.specs.declared.settings.Serves.{Serves}
use Rattle.request_laws.specs.bt_base.specs.declared.settings.Settings.{Settings}
use Rattle.request_laws.specs.bt_base.specs.declared.settings.Transport.{Transport}
use Rattle.request_laws.specs.bt_base.specs.declared.settings.Transport.TheVariants.{L2cap, Rfcomm}
use Rattle.request_laws.specs.push_terms.specs.declared.outcome.Outcome.{Outcome}
use Rattle.request_laws.specs.rfcomm_frames.specs.Frames.{PlainFrame}
use Rattle.request_laws.specs.pair_laws.specs.sdp_client.specs.Asking.{Asking, is_due, after_request, request_octets}
use Rattle.request_laws.specs.pair_laws.specs.sdp_client.specs.declared.query.Stage.TheVariants as query
use Rattle.request_laws.specs.pair_laws.specs.sdp_client.specs.Hearing.{found_at}
use Rattle.request_laws.specs.channel_model.specs.Value.{Channels}
use Rattle.request_laws.specs.push_model.specs.declared.course.Point.TheVariants.{Due, Asked}
use Rattle.request_laws.specs.push_model.specs.declared.course.Stage.{Stage}
use Rattle.request_laws.specs.push_model.specs.declared.course.Stage.TheVariants.{Rest, Link, SearchChannel, Search, SearchEnd, Features, ObjectChannel, Object, ObjectEnd, LinkEnd, Over}
use Rattle.request_laws.specs.push_model.specs.Causes.{cause_of_link, cause_of_page}
use Rattle.request_laws.specs.push_model.specs.Client.{Client}
use Rattle.request_laws.specs.push_model.specs.Events as events
use Rattle.request_laws.specs.push_model.specs.Events.{is_search, is_linked, is_paging, search_psm, rfcomm_psm}
use Rattle.request_laws.specs.push_model.specs.Laws.{Deed, Hears, Asks, Finishes, Cancels, done, all_done}
use Rattle.request_laws.specs.push_model.specs.Payloads.{Payload, Octets, Framed}
use Rattle.request_laws.specs.push_model.specs.Shown.{found_shows}
use Rattle.request_laws.specs.push_model.specs.Steps as steps
use Rattle.request_laws.specs.push_model.specs.Steps.{Part, Step, Stepped, Made, Ask, Wait, MakeLink, AskFeatures, OpenChannel, SendSdu, CloseChannel, BreakLink, Ended, NoMemory}
use Rattle.request_laws.specs.push_laws.specs.Opening.{whole_way}
use Rattle.request_laws.specs.push_laws.specs.Searches.{sdus_on}
use Rattle.request_laws.specs.push_laws.specs.Sending.{octets_in}
use Rattle.request_laws.specs.push_laws.proofs.Inquiring.{deed_asks}
use Rattle.request_laws.specs.push_laws.proofs.Lookups.{request, reply}
use Rattle.request_laws.specs.push_laws.proofs.Opening.{Walk, Stands, behind_deed, deed_stands}
use Rattle.request_laws.specs.push_laws.proofs.Searching.{is_searching, Searches, deed_search}
use Rattle.request_laws.specs.host_model.specs.Endpoints.{Endpoint, endpoint_of, takes_sdu}
use Rattle.request_laws.specs.host_model.specs.Pdus.{sdu_of}
use Rattle.request_laws.specs.host_model.specs.Clients.{ClientProfile, fitted}
use Rattle.request_laws.specs.host_laws.proofs.Paging.{WaitsForLink}
use Rattle.request_laws.specs.host_laws.proofs.Phases.{search_is}
use Rattle.request_laws.specs.Streams.{taken_by}
use Rattle.request_laws.specs.Twists.{taken_on}
use Rattle.request_laws.proofs.MuxAsking.{Kind, Rests, Searches as Searched, Sends as Sent, at_kind}
use Rattle.cause_laws.proofs.Clients.{Within}
use Rattle.cause_laws.proofs.Seeking.{is_seeking, Keeps, opens_so, closes_so, told_so, lost_so, timer_so, cancels_so, sdu_so, asks_so, reply_query}
use Rattle.blame_laws.proofs.Queries.{is_refused, IsUnrefused, unrefused_again, TakesWell, replied-well}
use Rattle.blame_laws.proofs.Replying.{IsRequest}
use Rattle.blame_laws.proofs.Spared.{is_spared, IsClear, FindsSpared, deed_clear}

never : {X : Type 0} → false ≡ true → X
never e = cc

-- ---- what it hears on a link

-- of its link no more, and the reply alone on the channel to the service records
abbrev pub Fits : Serves → Deed → Type 0
Fits serves (Hears events.LinkUp) = ⊥
Fits serves (Hears (events.Sdu psm sdu)) = (psm == search_psm) ≡ true → sdu ≡ reply serves
Fits serves deed = Unit {0}

-- while it seeks its service its query is not refused
abbrev pub Seeks : Client → Type 0
Seeks client = is_seeking client.stage ≡ true → IsUnrefused client.query

keep : (c d : Client) → Keeps c d → Seeks c → Seeks d
keep c d keeps so = λ seeks. let was = keeps seeks in unrefused_again c.query d.query was.1 (so was.0)

over_seeks : (test : Bool) (outcome : Outcome) (c : Client) → Seeks c → Seeks (cond test (events.over outcome c) c)
over_seeks true outcome c so = by c.cause
  where
    by : (cause : Option Outcome) → Seeks (events.over_by cause outcome c)
    by None = λ seeks. never seeks
    by (Some earlier) = λ seeks. never seeks
over_seeks false outcome c so = so

module _ (settings : Settings) where
  sdu_seeks : (psm : ℕ) (sdu : List ℕ) (c : Client) → ((psm == search_psm) ≡ true → sdu ≡ reply settings.serves) → Searches c → Seeks c → Seeks (events.sdu_at c.stage psm sdu c)
  sdu_seeks psm sdu c fits searches so = by (is_search c.stage) refl
    where
      on : c.stage ≡ Search → (here : Bool) → (here ≡ true → sdu ≡ reply settings.serves) → Seeks (cond here (events.hears_reply sdu c) c)
      on at true is =
          let well = replied-well settings c.query (searches (ap is_searching at)) (so (ap is_seeking at)) in
          λ seeks. subst IsUnrefused (sym (reply_query sdu c)) (subst (λ (octets : List ℕ). TakesWell settings c.query octets) (sym (is refl)) well).well_so
      on at false is = so

      by : (search : Bool) → is_search c.stage ≡ search → Seeks (events.sdu_at c.stage psm sdu c)
      by true is = let at = search_is c.stage is in subst (λ (stage : Stage). Seeks (events.sdu_at stage psm sdu c)) (sym at) (on at (psm == search_psm) fits)
      by false is = keep c (events.sdu_at c.stage psm sdu c) (sdu_so c.stage psm sdu c refl (λ at. let no : true ≡ false = ap is_search (sym at) ∙ is in cc)) so

  deed_seeks : (deed : Deed) (c : Client) → Fits settings.serves deed → Searches c → Seeks c → Seeks (done deed c)
  deed_seeks (Hears events.LinkUp) c fits searches so = absurd fits
  deed_seeks (Hears (events.LinkDown reason)) c fits searches so = over_seeks (is_linked c.stage) (cause_of_link reason) c so
  deed_seeks (Hears (events.LinkFailed status)) c fits searches so = over_seeks (is_paging c.stage) (cause_of_page status) c so
  deed_seeks (Hears (events.ChannelOpen psm mtu)) c fits searches so = keep c (done (Hears (events.ChannelOpen psm mtu)) c) (opens_so psm mtu c) so
  deed_seeks (Hears (events.ChannelClosed psm cause)) c fits searches so = keep c (done (Hears (events.ChannelClosed psm cause)) c) (closes_so psm cause c) so
  deed_seeks (Hears (events.Sdu psm sdu)) c fits searches so = sdu_seeks psm sdu c fits searches so
  deed_seeks (Hears events.FeaturesTold) c fits searches so = keep c (done (Hears events.FeaturesTold) c) (told_so c) so
  deed_seeks (Hears events.FeaturesLost) c fits searches so = keep c (done (Hears events.FeaturesLost) c) (lost_so c) so
  deed_seeks (Hears events.Timer) c fits searches so = keep c (done (Hears events.Timer) c) (timer_so c) so
  deed_seeks (Asks parts) c fits searches so = keep c (done (Asks parts) c) (asks_so c parts) so
  deed_seeks Finishes c fits searches so = so
  deed_seeks Cancels c fits searches so = keep c (done Cancels c) (cancels_so c) so

  -- ---- where it stands on a link

  pub record Well (c : Client) : Type 0 where
    pub walk : Walk
    pub stands : Stands walk c
    pub searches : Searches c
    pub seeks : Seeks c
    pub clear : IsClear settings c

  fits_only : (deed : Deed) → Fits settings.serves deed → (psm : ℕ) (sdu : List ℕ) → deed ≡ Hears (events.Sdu psm sdu) → (psm == search_psm) ≡ true → sdu ≡ reply settings.serves
  fits_only deed fits psm sdu is here = (subst (Fits settings.serves) is fits) here

  finds : (psm : ℕ) (sdu : List ℕ) (c : Client) → ((psm == search_psm) ≡ true → sdu ≡ reply settings.serves) → Well c → FindsSpared settings psm sdu c
  finds psm sdu c fits well = λ at here.
      let replied = replied-well settings c.query (well.searches (ap is_searching at)) (well.seeks (ap is_seeking at)) in
      let found = subst (λ (octets : List ℕ). TakesWell settings c.query octets) (sym (fits here)) replied in
      subst (λ (transport : Transport). Within (is_spared settings) (found_shows transport (found_at c.query sdu))) (sym well.clear.over.0) found.spared

  clear_by : (deed : Deed) (c : Client) → Fits settings.serves deed → Well c → IsClear settings (done deed c)
  clear_by (Hears events.LinkUp) c fits well = deed_clear settings (Hears events.LinkUp) c tt well.clear
  clear_by (Hears (events.LinkDown reason)) c fits well = deed_clear settings (Hears (events.LinkDown reason)) c tt well.clear
  clear_by (Hears (events.LinkFailed status)) c fits well = deed_clear settings (Hears (events.LinkFailed status)) c tt well.clear
  clear_by (Hears (events.ChannelOpen psm mtu)) c fits well = deed_clear settings (Hears (events.ChannelOpen psm mtu)) c tt well.clear
  clear_by (Hears (events.ChannelClosed psm cause)) c fits well = deed_clear settings (Hears (events.ChannelClosed psm cause)) c tt well.clear
  clear_by (Hears (events.Sdu psm sdu)) c fits well = deed_clear settings (Hears (events.Sdu psm sdu)) c (finds psm sdu c fits well) well.clear
  clear_by (Hears events.FeaturesTold) c fits well = deed_clear settings (Hears events.FeaturesTold) c tt well.clear
  clear_by (Hears events.FeaturesLost) c fits well = deed_clear settings (Hears events.FeaturesLost) c tt well.clear
  clear_by (Hears events.Timer) c fits well = deed_clear settings (Hears events.Timer) c tt well.clear
  clear_by (Asks parts) c fits well = deed_clear settings (Asks parts) c tt well.clear
  clear_by Finishes c fits well = deed_clear settings Finishes c tt well.clear
  clear_by Cancels c fits well = deed_clear settings Cancels c tt well.clear

  deed_well : (deed : Deed) (c : Client) → Fits settings.serves deed → Well c → Well (done deed c)
  deed_well deed c fits well = record {
    walk = behind_deed well.walk deed c;
    stands = deed_stands well.walk deed c well.stands;
    searches = deed_search settings.serves deed c (λ psm sdu is here. inr (fits_only deed fits psm sdu is here)) well.searches;
    seeks = deed_seeks deed c fits well.searches well.seeks;
    clear = clear_by deed c fits well;
  }

  pub all_well : (deeds : List Deed) (c : Client) → AllByRecursion (Fits settings.serves) deeds → Well c → Well (all_done deeds c)
  all_well [] c fits well = well
  all_well (deed ∷ deeds) c fits well = all_well deeds (done deed c) fits.1 (deed_well deed c fits.0 well)

  -- ---- where a link comes up

  pub link_well : (c : Client) → WaitsForLink c → IsClear settings c → Well (events.hears_news events.LinkUp c)
  link_well c (at, new) clear = subst (λ (stage : Stage). Well (events.linked_at stage c)) (sym at) (by (is_some c.cause))
    where
      left : (let d : Client = record c { stage = LinkEnd Due } in Well d)
      left = record {
        walk = record { transport = c.transport; targets = []; taken = [] };
        stands = record { one = omega arith; behind = whole_way c.transport []; way = refl };
        searches = λ e. never e;
        seeks = λ e. never e;
        clear = record { over = clear.over; spares = clear.spares };
      }

      sought : (let d : Client = record c { stage = SearchChannel Due } in Well d)
      sought = record {
        walk = record { transport = c.transport; targets = []; taken = [] };
        stands = record { same = refl; none = refl; is = refl };
        searches = λ e. (query.Due, new);
        seeks = λ e. ap (λ (q : Asking). is_refused q.stage) new;
        clear = record { over = clear.over; spares = clear.spares };
      }

      by : (ended : Bool) → Well (cond ended (record c { stage = LinkEnd Due }) (record c { stage = SearchChannel Due }))
      by true = left
      by false = sought

-- ---- the step that it takes

-- what it sends as a frame goes to the multiplexer
abbrev IsPlain : Stepped → Type 0
IsPlain o = (at : ℕ) (frame : PlainFrame) → o.step ≡ SendSdu at (Framed frame) → at ≡ rfcomm_psm

plain_if : (test : Bool) (a b : Stepped) → IsPlain a → IsPlain b → IsPlain (cond test a b)
plain_if true a b x y = x
plain_if false a b x y = y

direct_plain : (outcome : Result (Unit {0}) PortFault) (made : Made) → IsPlain (steps.sends_direct outcome made)
direct_plain (Ok done') made = λ at frame is. cc
direct_plain (Err fault) made = λ at frame is. cc

asks_plain : (ask : Ask) (client : Client) (parts : List Part) → IsPlain (steps.asks_direct ask client parts)
asks_plain steps.Close client parts = λ at frame is. cc
asks_plain steps.Nothing client parts = λ at frame is. cc
asks_plain steps.Connect client parts = let made = steps.requests steps.Connect client parts in direct_plain made.outcome made
asks_plain steps.Put client parts = let made = steps.requests steps.Put client parts in direct_plain made.outcome made
asks_plain steps.Abort client parts = let made = steps.requests steps.Abort client parts in direct_plain made.outcome made
asks_plain steps.Disconnect client parts = let made = steps.requests steps.Disconnect client parts in direct_plain made.outcome made

object_plain : (transport : Transport) (client : Client) (parts : List Part) → client.transport ≡ transport → IsPlain (steps.steps_object transport client parts)
object_plain L2cap client parts is = plain_if (steps.may_ask client) (steps.asks_direct (steps.next_ask client) (record client { rest = [] }) parts) (steps.rests client parts) (asks_plain (steps.next_ask client) (record client { rest = [] }) parts) (λ at frame e. cc)
object_plain Rfcomm client parts is = of_kind client (steps.steps_object Rfcomm client parts) (subst (λ (t : Transport). Kind client (steps.steps_object t client parts)) is (at_kind Object client parts is))
  where
    of_kind : (client : Client) (o : Stepped) → Kind client o → IsPlain o
    of_kind client o (Rests quiet untaken rests) = λ at frame is. absurd (rests at (Framed frame) is)
    of_kind client o (Searched octets step held) = λ at frame is. let no : SendSdu 0x0001 (Octets octets) ≡ SendSdu at (Framed frame) = sym step ∙ is in cc
    of_kind client o (Sent sent step held) = λ at frame is. let same : SendSdu rfcomm_psm (Framed sent) ≡ SendSdu at (Framed frame) = sym step ∙ is in cc

tells_plain : (cause : Option Outcome) (client : Client) (parts : List Part) → IsPlain (steps.tells_end cause client parts)
tells_plain None client parts = λ at frame is. cc
tells_plain (Some outcome) client parts = λ at frame is. cc

stage_plain : (stage : Stage) (client : Client) (parts : List Part) → IsPlain (steps.steps_at stage client parts)
stage_plain Rest client parts = λ at frame is. cc
stage_plain (Link Due) client parts = λ at frame is. cc
stage_plain (Link Asked) client parts = λ at frame is. cc
stage_plain (SearchChannel Due) client parts = λ at frame is. cc
stage_plain (SearchChannel Asked) client parts = λ at frame is. cc
stage_plain Search client parts =
    let asked : Client = record client { query = after_request client.query; left = client.left - 1; rest = request_octets client.query } in
    plain_if (is_due client.query) (steps.sends_sdu search_psm (Octets (request_octets client.query)) asked parts) (steps.rests client parts) (λ at frame is. cc) (λ at frame is. cc)
stage_plain (SearchEnd Due) client parts = λ at frame is. cc
stage_plain (SearchEnd Asked) client parts = λ at frame is. cc
stage_plain (Features Due) client parts = λ at frame is. cc
stage_plain (Features Asked) client parts = λ at frame is. cc
stage_plain (ObjectChannel Due) client parts = λ at frame is. cc
stage_plain (ObjectChannel Asked) client parts = λ at frame is. cc
stage_plain Object client parts = object_plain client.transport client parts refl
stage_plain (ObjectEnd Due) client parts = λ at frame is. cc
stage_plain (ObjectEnd Asked) client parts = λ at frame is. cc
stage_plain (LinkEnd Due) client parts = λ at frame is. cc
stage_plain (LinkEnd Asked) client parts = λ at frame is. cc
stage_plain Over client parts = tells_plain client.cause client parts

step_plain : (client : Client) (parts : List Part) → IsPlain (steps.steps client parts)
step_plain client parts =
    plain_if client.failed (record { client = client; step = NoMemory; left = parts }) _ (λ at frame is. cc)
    (plain_if client.given (steps.rests client parts) (steps.steps_at client.stage client parts) (λ at frame is. cc) (stage_plain client.stage client parts))

-- its channel to the service records takes the request alone
taken_if : (found : Option ℕ) (octets : List ℕ) (v : Channels) → octets ≡ request → AllByRecursion IsRequest (taken_on found octets v)
taken_if None octets v is = tt
taken_if (Some own) octets v is = by (takes_sdu own octets v)
  where
    by : (takes : Bool) → AllByRecursion IsRequest (cond takes (octets ∷ []) [])
    by true = (is, tt)
    by false = tt

sent_if : (here : Bool) (at : ℕ) (payload : Payload) (endpoints : List Endpoint) (v : Channels) → (at == search_psm) ≡ here → ((frame : PlainFrame) → payload ≡ Framed frame → at ≡ rfcomm_psm) → AllByRecursion IsRequest (cond here (octets_in payload) [])
    → AllByRecursion IsRequest (cond here (taken_on (endpoint_of at endpoints) (sdu_of payload) v) [])
sent_if false at payload endpoints v is plain all = tt
sent_if true at (Octets octets) endpoints v is plain all = taken_if (endpoint_of at endpoints) octets v all.0
sent_if true at (Framed frame) endpoints v is plain all = absurd (let no : false ≡ true = ap (λ (n : ℕ). n == search_psm) (sym (plain frame refl)) ∙ is in cc)

step_takes : (step : Step) (endpoints : List Endpoint) (v : Channels) → ((at : ℕ) (frame : PlainFrame) → step ≡ SendSdu at (Framed frame) → at ≡ rfcomm_psm) → AllByRecursion IsRequest (sdus_on search_psm step) → AllByRecursion IsRequest (taken_by search_psm step endpoints v)
step_takes Wait endpoints v plain all = tt
step_takes MakeLink endpoints v plain all = tt
step_takes AskFeatures endpoints v plain all = tt
step_takes (OpenChannel at) endpoints v plain all = tt
step_takes (SendSdu at payload) endpoints v plain all = sent_if (at == search_psm) at payload endpoints v refl (λ frame is. plain at frame (ap (SendSdu at) is)) all
step_takes (CloseChannel at) endpoints v plain all = tt
step_takes BreakLink endpoints v plain all = tt
step_takes (Ended outcome) endpoints v plain all = tt
step_takes NoMemory endpoints v plain all = tt

pub takes_requests : (settings : Settings) (p : ClientProfile) (v : Channels) → Well settings p.client → AllByRecursion IsRequest (taken_by search_psm (steps.steps p.client (fitted p)).step p.endpoints v)
takes_requests settings p v well = step_takes (steps.steps p.client (fitted p)).step p.endpoints v (step_plain p.client (fitted p)) (deed_asks well.walk (Asks (fitted p)) p.client well.searches well.stands)
