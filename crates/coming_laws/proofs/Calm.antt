-- A client that closed a channel asks its shelf for nothing before it waits.
use Rattle.std.proofs.Common.{◌≡◌, ◌&&◌, ◌==◌, ℕ, zero, suc, Bool, true, false, not, List, [], ◌∷◌, Option, Some, None, Result, Ok, Err, is_some, refl, sym, ap, subst, ◌∙◌, if◌then◌else◌}
use Rattle.std.specs.Prelude.{nat_lt}
use Rattle.std.specs.List.{AllByRecursion}
use Rattle.outcome_laws.specs.cause_laws.specs.bt_base.specs.declared.ports.PortFault.{PortFault}
use Rattle.outcome_laws.specs.cause_laws.specs.bt_base.specs.declared.settings.Settings.{Settings}
use Rattle.outcome_laws.specs.cause_laws.specs.bt_base.specs.declared.settings.Transport.{Transport}
use Rattle.outcome_laws.specs.cause_laws.specs.bt_base.specs.declared.settings.Transport.TheVariants.{L2cap, Rfcomm}
use Rattle.outcome_laws.specs.cause_laws.specs.push_terms.specs.declared.outcome.Outcome.{Outcome}
use Rattle.outcome_laws.specs.cause_laws.specs.push_terms.specs.declared.outcome.Outcome.TheVariants.{RetryLimit, PeerFault}
use Rattle.outcome_laws.specs.cause_laws.specs.channel_model.specs.declared.event.ChannelEvent.{ChannelEvent}
use Rattle.outcome_laws.specs.cause_laws.specs.channel_model.specs.declared.event.ChannelEvent.TheVariants.{Opened, Closed, Features as Told, FeaturesLost, DisconnectLost}
use Rattle.outcome_laws.specs.cause_laws.specs.channel_model.specs.Calls.{peer_mtu, waits, sends as sends_sdu_on}
use Rattle.outcome_laws.specs.cause_laws.specs.channel_model.specs.Giving.{next_given}
use Rattle.outcome_laws.specs.cause_laws.specs.channel_model.specs.Value.{Channels}
use Rattle.outcome_laws.specs.cause_laws.specs.rfcomm_model.specs.Saying.{Said, next}
use Rattle.outcome_laws.specs.cause_laws.specs.sdp_client.specs.Asking.{is_due}
use Rattle.outcome_laws.specs.cause_laws.specs.push_model.specs.declared.closing.CloseCause.{CloseCause}
use Rattle.outcome_laws.specs.cause_laws.specs.push_model.specs.declared.closing.CloseCause.TheVariants as closing
use Rattle.outcome_laws.specs.cause_laws.specs.push_model.specs.declared.course.Point.TheVariants.{Due, Asked}
use Rattle.outcome_laws.specs.cause_laws.specs.push_model.specs.declared.course.Stage.{Stage}
use Rattle.outcome_laws.specs.cause_laws.specs.push_model.specs.declared.course.Stage.TheVariants.{Rest, Link as Paged, SearchChannel, Search, SearchEnd, Features, ObjectChannel, Object, ObjectEnd, LinkEnd, Over}
use Rattle.outcome_laws.specs.cause_laws.specs.push_model.specs.Causes.{Ending, InOrder, AtOnce, ending_of, cause_of_close, small_channel}
use Rattle.outcome_laws.specs.cause_laws.specs.push_model.specs.Client.{Client, is_direct, in_order, at_once, stage_after, ends, ends_by}
use Rattle.outcome_laws.specs.cause_laws.specs.push_model.specs.Events.{search_psm, is_asking_features, opened_at, closed_at, search_closed}
use Rattle.outcome_laws.specs.cause_laws.specs.push_model.specs.Laws.{Asks, done}
use Rattle.outcome_laws.specs.cause_laws.specs.push_model.specs.Payloads.{Payload}
use Rattle.outcome_laws.specs.cause_laws.specs.push_model.specs.Responding.{is_object}
use Rattle.outcome_laws.specs.cause_laws.specs.push_model.specs.Shown.{watched, closed_shows, opened_shows, steps_show}
use Rattle.outcome_laws.specs.cause_laws.specs.push_model.specs.Steps as course
use Rattle.outcome_laws.specs.cause_laws.specs.push_model.specs.Steps.{Part, Step, Wait, MakeLink, AskFeatures, OpenChannel, SendSdu, CloseChannel, BreakLink, Ended, NoMemory, Stepped, Ask, Made, rests, requests, sends_direct, asks_direct, said_by, sends_muxed, takes_some, filled, next_ask, may_ask, asks_through, asks_muxed, goes_muxed, steps_object, tells_end, steps, steps_at}
use Rattle.outcome_laws.specs.cause_laws.specs.push_model.specs.Steps.{says as says_frame}
use Rattle.outcome_laws.specs.cause_laws.specs.host_model.specs.Clients as clients
use Rattle.outcome_laws.specs.cause_laws.specs.host_model.specs.Clients.{ClientProfile, client_profile, cause_of, closed_by, opened_by, event_heard, sent_on, submits, takes, fitted}
use Rattle.outcome_laws.specs.cause_laws.specs.host_model.specs.Endpoints.{endpoint_of, takes_sdu}
use Rattle.outcome_laws.specs.cause_laws.specs.host_model.specs.Hosts.{Host, settles, strides, drives, tells_each}
use Rattle.outcome_laws.specs.cause_laws.specs.host_model.specs.Pdus.{sdu_of}
use Rattle.outcome_laws.specs.cause_laws.specs.host_model.specs.Profiles.{Profile}
use Rattle.outcome_laws.specs.cause_laws.specs.host_model.specs.Shelves.{unused}
use Rattle.outcome_laws.specs.cause_laws.specs.host_laws.specs.Feeds.{Happens, Steps}
use Rattle.outcome_laws.specs.cause_laws.specs.host_laws.specs.Pushing.{client_behind, end_asked, then_ends, opened_pushed, closed_pushed, event_pushed, step_pushed}
use Rattle.outcome_laws.specs.cause_laws.specs.host_laws.proofs.Pushing.{feed_so}
use Rattle.outcome_laws.specs.cause_laws.proofs.Clients.{is_shelf, Within, either, Came, came_same, came_then, came_by, IsWithin}
use Rattle.outcome_laws.specs.cause_laws.proofs.Profiles.{came_fed}

-- ---- where no PUT is made

-- neither is a channel asked for or used, nor is it the one of the object
abbrev pub is_calm : Stage → Bool
is_calm Rest = true
is_calm (Paged point) = true
is_calm (SearchChannel Due) = true
is_calm (SearchChannel Asked) = false
is_calm Search = false
is_calm (SearchEnd point) = true
is_calm (Features point) = true
is_calm (ObjectChannel Due) = true
is_calm (ObjectChannel Asked) = false
is_calm Object = false
is_calm (ObjectEnd point) = true
is_calm (LinkEnd point) = true
is_calm Over = true

calm_object : (s : Stage) → is_calm s ≡ true → is_object s ≡ false
calm_object Object is = cc
calm_object s is = refl

calm_order : (s : Stage) → is_calm s ≡ true → is_calm (in_order s) ≡ true
calm_order Rest is = refl
calm_order (Paged Due) is = refl
calm_order (Paged Asked) is = refl
calm_order (SearchChannel Due) is = refl
calm_order (SearchChannel Asked) is = cc
calm_order Search is = cc
calm_order (SearchEnd point) is = refl
calm_order (Features point) is = refl
calm_order (ObjectChannel Due) is = refl
calm_order (ObjectChannel Asked) is = cc
calm_order Object is = cc
calm_order (ObjectEnd point) is = refl
calm_order (LinkEnd point) is = refl
calm_order Over is = refl

calm_once : (s : Stage) → is_calm s ≡ true → is_calm (at_once s) ≡ true
calm_once Rest is = refl
calm_once (Paged Due) is = refl
calm_once (Paged Asked) is = refl
calm_once (SearchChannel point) is = refl
calm_once Search is = refl
calm_once (SearchEnd point) is = refl
calm_once (Features point) is = refl
calm_once (ObjectChannel point) is = refl
calm_once Object is = refl
calm_once (ObjectEnd point) is = refl
calm_once (LinkEnd point) is = refl
calm_once Over is = refl

calm_after : (ending : Ending) (s : Stage) → is_calm s ≡ true → is_calm (stage_after ending s) ≡ true
calm_after InOrder s is = calm_order s is
calm_after AtOnce s is = calm_once s is

calm_ends : (outcome : Outcome) (c : Client) → is_calm c.stage ≡ true → is_calm (ends outcome c).stage ≡ true
calm_ends outcome c is = by c.cause
  where
    by : (cause : Option Outcome) → is_calm (ends_by cause outcome c).stage ≡ true
    by None = calm_after (ending_of outcome) c.stage is
    by (Some earlier) = calm_once c.stage is

-- ---- what its channels tell

calm_opened : (s : Stage) (psm mtu : ℕ) (c : Client) → is_calm s ≡ true → opened_at s psm mtu c ≡ c
calm_opened Rest psm mtu c is = refl
calm_opened (Paged point) psm mtu c is = refl
calm_opened (SearchChannel Due) psm mtu c is = refl
calm_opened (SearchChannel Asked) psm mtu c is = cc
calm_opened Search psm mtu c is = cc
calm_opened (SearchEnd point) psm mtu c is = refl
calm_opened (Features point) psm mtu c is = refl
calm_opened (ObjectChannel Due) psm mtu c is = refl
calm_opened (ObjectChannel Asked) psm mtu c is = cc
calm_opened Object psm mtu c is = cc
calm_opened (ObjectEnd point) psm mtu c is = refl
calm_opened (LinkEnd point) psm mtu c is = refl
calm_opened Over psm mtu c is = refl

if_calm : (test : Bool) (c d : Client) → is_calm c.stage ≡ true → is_calm d.stage ≡ true → is_calm (if test then c else d).stage ≡ true
if_calm true c d one two = one
if_calm false c d one two = two

left_calm : (shown cause : Option Outcome) (transport : Transport) (c : Client) → c.cause ≡ cause → c.transport ≡ transport → is_calm c.stage ≡ true → is_calm (search_closed shown c).stage ≡ true
left_calm (Some outcome) cause transport c why over is = calm_ends outcome c is
left_calm None None L2cap c why over is = rw (why, over) refl
left_calm None None Rfcomm c why over is = rw (why, over) refl
left_calm None (Some earlier) transport c why over is = rw why refl

calm_closed : (s : Stage) (psm : ℕ) (cause : CloseCause) (c : Client) → is_calm s ≡ true → is_calm c.stage ≡ true → is_calm (closed_at s psm cause c).stage ≡ true
calm_closed Rest psm cause c at is = is
calm_closed (Paged point) psm cause c at is = is
calm_closed (SearchChannel Due) psm cause c at is = is
calm_closed (SearchChannel Asked) psm cause c at is = cc
calm_closed Search psm cause c at is = cc
calm_closed (SearchEnd point) psm cause c at is = if_calm (psm == search_psm) (search_closed (cause_of_close cause) c) c (left_calm (cause_of_close cause) c.cause c.transport c refl refl is) is
calm_closed (Features point) psm cause c at is = is
calm_closed (ObjectChannel Due) psm cause c at is = is
calm_closed (ObjectChannel Asked) psm cause c at is = cc
calm_closed Object psm cause c at is = cc
calm_closed (ObjectEnd point) psm cause c at is = if_calm (psm == c.psm) (record c { stage = LinkEnd Due }) c refl is
calm_closed (LinkEnd point) psm cause c at is = is
calm_closed Over psm cause c at is = is

event_calm : (event : ChannelEvent) (v : Channels) (c : Client) → is_calm c.stage ≡ true → is_calm (event_heard event v c).stage ≡ true
event_calm (Opened own psm) v c is = by (peer_mtu own v)
  where
    by : (mtu : Option ℕ) → is_calm (opened_by mtu psm c).stage ≡ true
    by None = is
    by (Some mtu) = ap (λ (d : Client). is_calm d.stage) (calm_opened c.stage psm mtu c is) ∙ is
event_calm (Closed own psm reason) v c is = by (cause_of reason)
  where
    by : (cause : Option CloseCause) → is_calm (closed_by cause psm c).stage ≡ true
    by None = is
    by (Some cause) = calm_closed c.stage psm cause c is is
event_calm (Told features) v c is = if_calm (is_asking_features c.stage) (record c { stage = ObjectChannel Due }) c refl is
event_calm FeaturesLost v c is = if_calm (is_asking_features c.stage) (ends RetryLimit c) c (calm_ends RetryLimit c is) is
event_calm (DisconnectLost own) v c is = is

-- and of these the shelf's fault is none

abbrev pub is_unshelf : Outcome → Bool
is_unshelf outcome = not (is_shelf outcome)

opened_unshelf : (s : Stage) (psm mtu : ℕ) (c : Client) → Within is_unshelf (opened_shows s psm mtu c)
opened_unshelf (ObjectChannel Asked) psm mtu c = either is_unshelf ((psm == c.psm) && (is_direct c.transport && nat_lt mtu 255)) (Some small_channel) None refl tt
opened_unshelf s psm mtu c = tt

close_unshelf : (cause : CloseCause) → Within is_unshelf (cause_of_close cause)
close_unshelf closing.Peer = refl
close_unshelf (closing.Refused result) = refl
close_unshelf closing.NoAgreement = refl
close_unshelf closing.RetryLimit = refl
close_unshelf (closing.Broken number) = by (number == 5)
  where
    by : (test : Bool) → is_unshelf (if test then RetryLimit else PeerFault 2 number) ≡ true
    by true = refl
    by false = refl
close_unshelf closing.Own = tt

closed_unshelf : (psm : ℕ) (cause : CloseCause) (own : Option ℕ) → Within is_unshelf (closed_shows psm cause own)
closed_unshelf psm cause None = tt
closed_unshelf psm cause (Some own) = either is_unshelf (psm == own) (cause_of_close cause) None (close_unshelf cause) tt

mtu_unshelf : (mtu : Option ℕ) (psm : ℕ) → AllByRecursion (IsWithin is_unshelf) (opened_pushed mtu psm)
mtu_unshelf None psm = tt
mtu_unshelf (Some mtu) psm = ((λ c. opened_unshelf c.stage psm mtu c), tt)

cause_unshelf : (cause : Option CloseCause) (psm : ℕ) → AllByRecursion (IsWithin is_unshelf) (closed_pushed cause psm)
cause_unshelf None psm = tt
cause_unshelf (Some cause) psm = ((λ c. closed_unshelf psm cause (watched c.stage c)), tt)

event_unshelf : (event : ChannelEvent) (v : Channels) → AllByRecursion (IsWithin is_unshelf) (event_pushed event v)
event_unshelf (Opened own psm) v = mtu_unshelf (peer_mtu own v) psm
event_unshelf (Closed own psm reason) v = cause_unshelf (cause_of reason) psm
event_unshelf (Told features) v = ((λ c. tt), tt)
event_unshelf FeaturesLost v = ((λ c. either is_unshelf (is_asking_features c.stage) (Some RetryLimit) None refl tt), tt)
event_unshelf (DisconnectLost own) v = tt

-- ---- its steps

-- one that closes a channel leaves it calm, and one that asks for a link was not of an object
abbrev pub StepsCalmly : Client → Step → Client → Type 0
StepsCalmly c (CloseChannel psm) d = is_calm d.stage ≡ true
StepsCalmly c MakeLink d = is_object c.stage ≡ false
StepsCalmly c (Ended outcome) d = is_object c.stage ≡ false
StepsCalmly c step d = Unit {0}

abbrev pub Calmly : Client → Stepped → Type 0
Calmly c one = StepsCalmly c one.step one.client

if_calmly : (c : Client) (test : Bool) (one two : Stepped) → Calmly c one → Calmly c two → Calmly c (if test then one else two)
if_calmly c true one two a b = a
if_calmly c false one two a b = b

said_calmly : (c : Client) (said : Option Said) (d : Client) (parts : List Part) → Calmly c (said_by said d parts)
said_calmly c None d parts = tt
said_calmly c (Some said) d parts = tt

direct_calmly : (c : Client) (outcome : Result (Unit {0}) PortFault) (made : Made) → Calmly c (sends_direct outcome made)
direct_calmly c (Ok done) made = tt
direct_calmly c (Err fault) made = tt

muxed_calmly : (c : Client) (outcome : Result (Unit {0}) PortFault) (made : Made) → Calmly c (sends_muxed outcome made)
muxed_calmly c (Ok done) made = said_calmly c (next (filled made.client).mux) (filled made.client) made.left
muxed_calmly c (Err fault) made = tt

asks_calmly : (c : Client) (ask : Ask) (d : Client) (parts : List Part) → Calmly c (asks_direct ask d parts)
asks_calmly c course.Close d parts = refl
asks_calmly c course.Nothing d parts = tt
asks_calmly c course.Connect d parts = let made = requests course.Connect d parts in direct_calmly c made.outcome made
asks_calmly c course.Put d parts = let made = requests course.Put d parts in direct_calmly c made.outcome made
asks_calmly c course.Abort d parts = let made = requests course.Abort d parts in direct_calmly c made.outcome made
asks_calmly c course.Disconnect d parts = let made = requests course.Disconnect d parts in direct_calmly c made.outcome made

through_calmly : (c : Client) (ask : Ask) (d : Client) (parts : List Part) → Calmly c (asks_through ask d parts)
through_calmly c ask d parts = let made = requests ask (record d { rest = [] }) parts in if_calmly c (takes_some d.mux) (sends_muxed made.outcome made) (rests d parts) (muxed_calmly c made.outcome made) tt

mux_calmly : (c : Client) (ask : Ask) (d : Client) (parts : List Part) → Calmly c (asks_muxed ask d parts)
mux_calmly c course.Close d parts = said_calmly c _ _ parts
mux_calmly c course.Nothing d parts = tt
mux_calmly c course.Connect d parts = through_calmly c course.Connect d parts
mux_calmly c course.Put d parts = through_calmly c course.Put d parts
mux_calmly c course.Abort d parts = through_calmly c course.Abort d parts
mux_calmly c course.Disconnect d parts = through_calmly c course.Disconnect d parts

goes_calmly : (c : Client) (said : Option Said) (d : Client) (parts : List Part) → Calmly c (goes_muxed said d parts)
goes_calmly c None d parts = let quiet : Client = record d { frame = None } in if_calmly c (may_ask quiet) (asks_muxed (next_ask quiet) quiet parts) (rests quiet parts) (mux_calmly c (next_ask quiet) quiet parts) tt
goes_calmly c (Some said) d parts = tt

object_calmly : (transport : Transport) (c : Client) (parts : List Part) → Calmly c (steps_object transport c parts)
object_calmly L2cap c parts = let clear : Client = record c { rest = [] } in if_calmly c (may_ask c) (asks_direct (next_ask c) clear parts) (rests c parts) (asks_calmly c (next_ask c) clear parts) tt
object_calmly Rfcomm c parts = goes_calmly c (next (filled c).mux) (filled c) parts

end_calmly : (cause : Option Outcome) (c : Client) (parts : List Part) → is_object c.stage ≡ false → Calmly c (tells_end cause c parts)
end_calmly None c parts off = tt
end_calmly (Some outcome) c parts off = off

at_calmly : (stage : Stage) (c : Client) (parts : List Part) → c.stage ≡ stage → Calmly c (steps_at stage c parts)
at_calmly Rest c parts at = tt
at_calmly (Paged Due) c parts at = ap is_object at
at_calmly (Paged Asked) c parts at = tt
at_calmly (SearchChannel Due) c parts at = tt
at_calmly (SearchChannel Asked) c parts at = tt
at_calmly Search c parts at = if_calmly c (is_due c.query) _ (rests c parts) tt tt
at_calmly (SearchEnd Due) c parts at = refl
at_calmly (SearchEnd Asked) c parts at = tt
at_calmly (Features Due) c parts at = tt
at_calmly (Features Asked) c parts at = tt
at_calmly (ObjectChannel Due) c parts at = tt
at_calmly (ObjectChannel Asked) c parts at = tt
at_calmly Object c parts at = object_calmly c.transport c parts
at_calmly (ObjectEnd Due) c parts at = refl
at_calmly (ObjectEnd Asked) c parts at = tt
at_calmly (LinkEnd Due) c parts at = tt
at_calmly (LinkEnd Asked) c parts at = tt
at_calmly Over c parts at = end_calmly c.cause c parts (ap is_object at)

pub steps_calmly : (c : Client) (parts : List Part) → Calmly c (steps c parts)
steps_calmly c parts = by c.failed c.given
  where
    by : (failed given : Bool) → Calmly c (if failed then record { client = c; step = NoMemory; left = parts } else if given then rests c parts else steps_at c.stage c parts)
    by true given = tt
    by false true = tt
    by false false = at_calmly c.stage c parts refl

-- it is asked again only where it closed a channel
sends_once : (own : Option ℕ) (payload : Payload) (v : Channels) (p : ClientProfile) → (submits own payload v p).more ≡ false
sends_once None payload v p = refl
sends_once (Some own) payload v p = by (takes_sdu own (sdu_of payload) v)
  where
    by : (taken : Bool) → (if taken then clients.waiting (sends_sdu_on own (sdu_of payload) v) (record p { submitted = Some own }) else clients.waiting v p).more ≡ false
    by true = refl
    by false = refl

more_calm : (c : Client) (step : Step) (v : Channels) (after before : ClientProfile) → StepsCalmly c step after.client → (takes step v after before).more ≡ true → is_calm (takes step v after before).profile.client.stage ≡ true
more_calm c (CloseChannel psm) v after before calm more = calm
more_calm c (SendSdu psm payload) v after before calm more = let never : false ≡ true = sym (sends_once (endpoint_of psm after.endpoints) payload v after) ∙ more in cc
more_calm c step v after before calm more = cc

-- it shows no more than its shelf's fault, and that where it is of an object
step_came : (q : Outcome → Bool) (step : Step) (parts : List Part) (c : Client) → Within q (steps_show c parts) → Came q c.cause (client_behind (step_pushed step parts) c).cause
step_came q MakeLink parts c within = came_same q c.cause
step_came q Wait parts c within = came_by q (Asks parts) c within
step_came q AskFeatures parts c within = came_by q (Asks parts) c within
step_came q (OpenChannel psm) parts c within = came_by q (Asks parts) c within
step_came q (SendSdu psm payload) parts c within = came_by q (Asks parts) c within
step_came q (CloseChannel psm) parts c within = came_by q (Asks parts) c within
step_came q BreakLink parts c within = came_by q (Asks parts) c within
step_came q (Ended outcome) parts c within = came_by q (Asks parts) c within
step_came q NoMemory parts c within = came_by q (Asks parts) c within

unshown : (q : Outcome → Bool) (object : Bool) (a b : Bool) (shown : Option Outcome) → object ≡ false → Within q (if a && (b && object) then shown else None)
unshown q false true true shown is = tt
unshown q false true false shown is = tt
unshown q false false b shown is = tt
unshown q true a b shown is = cc

calm_unshown : (q : Outcome → Bool) (c : Client) (parts : List Part) → is_calm c.stage ≡ true → Within q (steps_show c parts)
calm_unshown q c parts is = unshown q (is_object c.stage) (not c.failed) (not c.given) _ (calm_object c.stage is)

-- a push that is over ends without a word to its shelf
same_never : (old new : Option Outcome) → Came (λ (outcome : Outcome). false) old new → new ≡ old
same_never None None came = refl
same_never None (Some outcome) came = cc
same_never (Some outcome) new came = came

end_same : (c : Client) (step : Step) (d : Client) → StepsCalmly c step d → (client_behind (end_asked step) c).cause ≡ c.cause
end_same c (Ended outcome) d off = same_never c.cause _ (came_by (λ (o : Outcome). false) (Asks []) c (unshown (λ (o : Outcome). false) (is_object c.stage) (not c.failed) (not c.given) _ off))
end_same c Wait d off = refl
end_same c MakeLink d off = refl
end_same c AskFeatures d off = refl
end_same c (OpenChannel psm) d off = refl
end_same c (SendSdu psm payload) d off = refl
end_same c (CloseChannel psm) d off = refl
end_same c BreakLink d off = refl
end_same c NoMemory d off = refl

pub ends_same : (c : Client) → (client_behind (then_ends c) c).cause ≡ c.cause
ends_same c = end_same c (steps c []).step (steps c []).client (steps_calmly c [])

-- ---- a host

module _ (settings : Settings) where
  abbrev C : Profile ClientProfile
  C = client_profile settings

  pub each_came : (old : Option Outcome) (list : List ChannelEvent) (v : Channels) (p : ClientProfile) → Came is_unshelf old p.client.cause → Came is_unshelf old (tells_each (client_profile settings) list v p).client.cause
  each_came old [] v p came = came
  each_came old (event ∷ list) v p came =
      let u : Channels = record v { events = list } in
      each_came old list u (C.happened event u p) (came_fed settings is_unshelf old p (Happens event u) (event_unshelf event u) came)

  each_calm : (list : List ChannelEvent) (v : Channels) (p : ClientProfile) → is_calm p.client.stage ≡ true → is_calm (tells_each (client_profile settings) list v p).client.stage ≡ true
  each_calm [] v p calm = calm
  each_calm (event ∷ list) v p calm = let u : Channels = record v { events = list } in each_calm list u (C.happened event u p) (event_calm event u p.client calm)

  pub sent_same : (submitted : Option ℕ) (v : Channels) (p : ClientProfile) → ((sent_on submitted v p).client.stage ≡ p.client.stage) × ((sent_on submitted v p).client.cause ≡ p.client.cause)
  sent_same None v p = (refl, refl)
  sent_same (Some own) v p = by (waits own v)
    where
      by : (waiting : Bool) → (let q = if waiting then p else clients.done (record p { submitted = None }) in (q.client.stage ≡ p.client.stage) × (q.client.cause ≡ p.client.cause))
      by true = (refl, refl)
      by false = (refl, refl)

  -- behind one step, and what its channels tell of that
  pub stride_came : (old : Option Outcome) (now : Host ClientProfile) → Within is_unshelf (steps_show now.profile.client (fitted now.profile)) → Came is_unshelf old now.profile.client.cause
      → Came is_unshelf old ((client_profile settings).steps now.channels now.profile).profile.client.cause
  stride_came old now within came =
      let p = now.profile in
      came_then is_unshelf old p.client.cause _ came
      (subst (λ (c : Client). Came is_unshelf p.client.cause c.cause) (sym (feed_so settings p (Steps now.channels))) (step_came is_unshelf (steps p.client (fitted p)).step (fitted p) p.client within))

  pub stride_calm : (now : Host ClientProfile) → ((client_profile settings).steps now.channels now.profile).more ≡ true → is_calm (strides (client_profile settings) ((client_profile settings).steps now.channels now.profile) now).profile.client.stage ≡ true
  stride_calm now more =
      let p = now.profile in
      let one = steps p.client (fitted p) in
      let stride = C.steps now.channels p in
      each_calm stride.channels.events stride.channels stride.profile (more_calm p.client one.step now.channels (record p { client = one.client; parts = unused one.left p.parts }) p (steps_calmly p.client (fitted p)) more)

  pick_next : (P : Host ClientProfile → Type 0) (given again : Bool) (stay go on : Host ClientProfile) → P stay → (again ≡ true → P go) → P on → P (if given then stay else (if again then go else on))
  pick_next P true again stay go on x y z = x
  pick_next P false true stay go on x y z = y refl
  pick_next P false false stay go on x y z = z

  -- where it is calm its shelf shows nothing
  pub drives_calm : (old : Option Outcome) (count : ℕ) (host : Host ClientProfile) → is_calm host.profile.client.stage ≡ true → Came is_unshelf old host.profile.client.cause → Came is_unshelf old (drives (client_profile settings) count host).profile.client.cause
  unfolding drives
  drives_calm old zero host calm came = subst (Came is_unshelf old) (sym (sent_same host.profile.submitted host.channels host.profile).1) came
  drives_calm old (suc count) host calm came =
      let now : Host ClientProfile = settles C host in
      let stride = C.steps now.channels now.profile in
      let on = strides C stride now in
      let same = sent_same host.profile.submitted host.channels host.profile in
      let settled : Came is_unshelf old now.profile.client.cause = subst (Came is_unshelf old) (sym same.1) came in
      let told : Came is_unshelf old on.profile.client.cause = each_came old stride.channels.events stride.channels stride.profile (stride_came old now (calm_unshown is_unshelf now.profile.client (fitted now.profile) (ap is_calm same.0 ∙ calm)) settled) in
      pick_next (λ (h : Host ClientProfile). Came is_unshelf old h.profile.client.cause) (is_some (next_given now.channels)) stride.more now (drives C count on) on settled (λ more. drives_calm old count on (stride_calm now more) told) told
