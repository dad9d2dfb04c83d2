-- What a client on its link does and is told there: it stays on it, and asks for what suits its stage.
use Rattle.std.proofs.Common.{◌≡◌, ℕ, List, [], ◌∷◌, eqb, length, drop, ◌-◌, Bool, true, false, cond, not, ◌&&◌, ◌||◌, Option, Some, None, Result, Ok, Err, refl, sym, ap, subst, ◌∙◌, inl, inr}
use Rattle.std.specs.List.{AllByRecursion}
use Rattle.shelf_model.specs.bt_base.specs.declared.ports.PortFault.{PortFault}
use Rattle.shelf_model.specs.bt_base.specs.declared.ports.PortFault.TheVariants as fault
use Rattle.shelf_model.specs.bt_base.specs.declared.settings.Settings.{Settings}
use Rattle.shelf_model.specs.bt_base.specs.declared.settings.Transport.{Transport}
use Rattle.shelf_model.specs.bt_base.specs.declared.settings.Transport.TheVariants.{L2cap, Rfcomm}
use Rattle.shelf_model.specs.push_terms.specs.declared.outcome.Outcome.{Outcome}
use Rattle.shelf_model.specs.push_terms.specs.declared.outcome.Outcome.TheVariants as outcomes
use Rattle.shelf_model.specs.rfcomm_frames.specs.FrameReading.{is_empty}
use Rattle.shelf_model.specs.rfcomm_model.specs.Machine.{is_ready, sends, leaves, taken_count}
use Rattle.shelf_model.specs.rfcomm_model.specs.Saying.{Said, next}
use Rattle.shelf_model.specs.sdp_client.specs.Asking.{is_due, request_octets, after_request, after_resend}
use Rattle.shelf_model.specs.sdp_client.specs.Views.{is_awaiting}
use Rattle.channel_laws.specs.channel_model.specs.declared.event.ChannelEvent.{ChannelEvent}
use Rattle.channel_laws.specs.channel_model.specs.declared.event.ChannelEvent.TheVariants.{Opened, Closed, Features as Told, FeaturesLost, DisconnectLost}
use Rattle.channel_laws.specs.channel_model.specs.Value.{Channels}
use Rattle.channel_laws.specs.channel_model.specs.Calls as channels
use Rattle.channel_laws.specs.channel_model.specs.Calls.{peer_mtu, waits}
use Rattle.push_laws.specs.push_model.specs.declared.closing.CloseCause.{CloseCause}
use Rattle.push_laws.specs.push_model.specs.declared.course.Contact.TheVariants.{Closing}
use Rattle.push_laws.specs.push_model.specs.declared.course.Point.TheVariants.{Due, Asked}
use Rattle.push_laws.specs.push_model.specs.declared.course.Stage.{Stage}
use Rattle.push_laws.specs.push_model.specs.declared.course.Stage.TheVariants.{Rest, Link, SearchChannel, Search, SearchEnd, Features, ObjectChannel, Object, ObjectEnd, LinkEnd, Over}
use Rattle.push_laws.specs.push_model.specs.Causes.{Ending, InOrder, AtOnce, ending_of}
use Rattle.push_laws.specs.push_model.specs.Client.{Client, stage_after, ends_by, ends, may_cancel, cancelled}
use Rattle.push_laws.specs.push_model.specs.Events as events
use Rattle.push_laws.specs.push_model.specs.Events.{is_linked, armed, hears_news}
use Rattle.push_laws.specs.push_model.specs.Payloads.{Payload, Octets}
use Rattle.push_laws.specs.push_model.specs.Steps as course
use Rattle.push_laws.specs.push_model.specs.Steps.{Part, Step, Wait, MakeLink, AskFeatures, OpenChannel, SendSdu, CloseChannel, BreakLink, Ended, NoMemory, Stepped, Made, Ask, Connect, Put, Abort, Disconnect, Close, Nothing, steps}
use Rattle.shelf_model.specs.world_model.specs.Machines.{News, Linked, Failed, Heard, TimerFired, Cancelled, Opening}
use Rattle.shelf_model.specs.host_model.specs.Circumstances.{Circumstance}
use Rattle.shelf_model.specs.host_model.specs.Endpoints.{endpoint_of, takes_sdu}
use Rattle.shelf_model.specs.host_model.specs.Pdus.{sdu_of}
use Rattle.shelf_model.specs.host_model.specs.Clients as clients
use Rattle.shelf_model.specs.host_model.specs.Clients.{Bid, NoBid, is_paging, ClientProfile, client_profile, after_end, ended, cause_of, closed_by, opened_by, event_heard, sent_on, submits, takes, fitted}
use Rattle.shelf_model.specs.host_model.specs.Shelves.{unused}
use Rattle.shelf_model.specs.host_model.proofs.Keeping.{Keeps}
use Rattle.host_laws.specs.Feeds.{Feed, Gifts, Learns, Receives, Happens, Sent, Steps, fed, all_fed}
use Rattle.host_laws.specs.Onward.{Befits, IsOfPush, IsFeedOfPush, ClientsGoOnward}
use Rattle.host_laws.proofs.Onward.{is_onward, On, Goes, on_ends, on_if, goes_suits, goes_linked, heard_goes, opened_goes, closed_goes, told_goes, lost_goes, asking_goes}

-- ---- its steps

abbrev OnStep : Client → Step → Type 0
OnStep d Wait = On d
OnStep d MakeLink = ⊥
OnStep d AskFeatures = ⊥
OnStep d (OpenChannel psm) = ⊥
OnStep d (SendSdu psm payload) = On d
OnStep d (CloseChannel psm) = On d
OnStep d BreakLink = ⊥
OnStep d (Ended outcome) = ⊥
OnStep d NoMemory = On d

abbrev IsOn : Stepped → Type 0
IsOn one = OnStep one.client one.step

either_on : (b : Bool) (x y : Stepped) → IsOn x → IsOn y → IsOn (cond b x y)
either_on true x y one other = one
either_on false x y one other = other

abbrev MadeOn : Made → Type 0
MadeOn made = On made.client

leaves_on : (ask : Ask) (c : Client) (parts : List Part) → On c → MadeOn (course.leaves_by ask c parts)
leaves_on Connect c parts on = on
leaves_on Put c parts on = on
leaves_on Abort c parts on = on
leaves_on Disconnect c parts on = on
leaves_on Close c parts on = on
leaves_on Nothing c parts on = on

failing_on : (c : Client) (parts : List Part) → On c → MadeOn (course.failing c parts)
failing_on c parts on = let failed = ends outcomes.ShelfFault c in leaves_on (course.next_ask failed) failed parts (on_ends outcomes.ShelfFault c on)

part_on : (part : Part) (c : Client) (parts : List Part) → On c → MadeOn (course.puts_part part c parts)
part_on (Ok octets) c parts on = on
part_on (Err fault) c parts on = on

from_on : (parts : List Part) (c : Client) → On c → MadeOn (course.puts_from parts c)
from_on [] c on = on
from_on (part ∷ parts) c on = part_on part c parts on

puts_on : (c : Client) (parts : List Part) → On c → MadeOn (course.puts c parts)
puts_on c parts on = by (eqb (course.put_count c) 0)
  where
    by : (b : Bool) → MadeOn (cond b (course.puts_part (Ok []) c parts) (course.puts_from parts c))
    by true = part_on (Ok []) c parts on
    by false = from_on parts c on

put_or_leaves : (outcome : Result (Unit {0}) PortFault) (put : Made) → MadeOn put → MadeOn (course.puts_or_leaves outcome put)
put_or_leaves (Ok done) put on = on
put_or_leaves (Err fault.Failed) put on = failing_on put.client put.left on
put_or_leaves (Err fault.NoMemory) put on = on

requests_on : (ask : Ask) (c : Client) (parts : List Part) → On c → MadeOn (course.requests ask c parts)
requests_on Connect c parts on = on
requests_on Put c parts on = let put = course.puts c parts in put_or_leaves put.outcome put (puts_on c parts on)
requests_on Abort c parts on = on
requests_on Disconnect c parts on = on
requests_on Close c parts on = on
requests_on Nothing c parts on = on

direct_on : (outcome : Result (Unit {0}) PortFault) (request : Made) → MadeOn request → IsOn (course.sends_direct outcome request)
direct_on (Ok done) request on = on
direct_on (Err fault) request on = on

asks_direct_on : (ask : Ask) (c : Client) (parts : List Part) → On c → IsOn (course.asks_direct ask c parts)
asks_direct_on Close c parts on = refl
asks_direct_on Nothing c parts on = on
asks_direct_on Connect c parts on = let request = course.requests Connect c parts in direct_on request.outcome request (requests_on Connect c parts on)
asks_direct_on Put c parts on = let request = course.requests Put c parts in direct_on request.outcome request (requests_on Put c parts on)
asks_direct_on Abort c parts on = let request = course.requests Abort c parts in direct_on request.outcome request (requests_on Abort c parts on)
asks_direct_on Disconnect c parts on = let request = course.requests Disconnect c parts in direct_on request.outcome request (requests_on Disconnect c parts on)

filled_on : (c : Client) → On c → On (course.filled c)
filled_on c on = by (is_ready c.mux && not (is_empty c.rest))
  where
    full : Client
    full = record c { mux = sends c.rest c.mux; rest = drop (taken_count (length c.rest) c.mux) c.rest }

    by : (b : Bool) → On (cond b full c)
    by true = on
    by false = on

said_on : (said : Option Said) (c : Client) (parts : List Part) → On c → IsOn (course.said_by said c parts)
said_on None c parts on = on
said_on (Some said) c parts on = on

says_on : (c : Client) (parts : List Part) → On c → IsOn (course.says c parts)
says_on c parts on = let full = course.filled c in said_on (next full.mux) full parts (filled_on c on)

muxed_on : (outcome : Result (Unit {0}) PortFault) (request : Made) → MadeOn request → IsOn (course.sends_muxed outcome request)
muxed_on (Ok done) request on = says_on request.client request.left on
muxed_on (Err fault) request on = on

through_on : (ask : Ask) (c : Client) (parts : List Part) → On c → IsOn (course.asks_through ask c parts)
through_on ask c parts on =
    let bare : Client = record c { rest = [] } in
    let request = course.requests ask bare parts in
    either_on (course.takes_some c.mux) (course.sends_muxed request.outcome request) (course.rests c parts) (muxed_on request.outcome request (requests_on ask bare parts on)) on

asks_muxed_on : (ask : Ask) (c : Client) (parts : List Part) → On c → IsOn (course.asks_muxed ask c parts)
asks_muxed_on Close c parts on = let leaving : Client = record c { mux = leaves c.mux; contact = Closing } in says_on leaving parts on
asks_muxed_on Nothing c parts on = on
asks_muxed_on Connect c parts on = through_on Connect c parts on
asks_muxed_on Put c parts on = through_on Put c parts on
asks_muxed_on Abort c parts on = through_on Abort c parts on
asks_muxed_on Disconnect c parts on = through_on Disconnect c parts on

goes_muxed_on : (said : Option Said) (c : Client) (parts : List Part) → On c → IsOn (course.goes_muxed said c parts)
goes_muxed_on None c parts on =
    let quiet : Client = record c { frame = None } in either_on (course.may_ask quiet) (course.asks_muxed (course.next_ask quiet) quiet parts) (course.rests quiet parts) (asks_muxed_on (course.next_ask quiet) quiet parts on) on
goes_muxed_on (Some said) c parts on = on

object_on : (transport : Transport) (c : Client) (parts : List Part) → On c → IsOn (course.steps_object transport c parts)
object_on L2cap c parts on =
    let bare : Client = record c { rest = [] } in either_on (course.may_ask c) (course.asks_direct (course.next_ask c) bare parts) (course.rests c parts) (asks_direct_on (course.next_ask c) bare parts on) on
object_on Rfcomm c parts on = let full = course.filled c in goes_muxed_on (next full.mux) full parts (filled_on c on)

-- ---- all stages

-- it goes on, or asks for a link or for the end of the one that it has, or its push ends
abbrev pub StepSo : (before after : Client) → Step → Type 0
StepSo c d Wait = Goes c d
StepSo c d MakeLink = d.stage ≡ Link Asked
StepSo c d AskFeatures = Goes c d
StepSo c d (OpenChannel psm) = Goes c d
StepSo c d (SendSdu psm payload) = Goes c d
StepSo c d (CloseChannel psm) = Goes c d
StepSo c d BreakLink = d.stage ≡ LinkEnd Asked
StepSo c d (Ended outcome) = (c.stage ≡ Over) × (d.stage ≡ Rest)
StepSo c d NoMemory = Goes c d

abbrev StepsSo : Client → Stepped → Type 0
StepsSo c one = StepSo c one.client one.step

on_so : (c d : Client) (step : Step) → On c → OnStep d step → StepSo c d step
on_so c d Wait from to = inl (from, to)
on_so c d MakeLink from to = absurd to
on_so c d AskFeatures from to = absurd to
on_so c d (OpenChannel psm) from to = absurd to
on_so c d (SendSdu psm payload) from to = inl (from, to)
on_so c d (CloseChannel psm) from to = inl (from, to)
on_so c d BreakLink from to = absurd to
on_so c d (Ended outcome) from to = absurd to
on_so c d NoMemory from to = inl (from, to)

either_so : (b : Bool) (c : Client) (x y : Stepped) → StepsSo c x → StepsSo c y → StepsSo c (cond b x y)
either_so true c x y one other = one
either_so false c x y one other = other

over_so : (cause : Option Outcome) (c : Client) (parts : List Part) → c.stage ≡ Over → StepsSo c (course.tells_end cause c parts)
over_so None c parts at = inr refl
over_so (Some outcome) c parts at = (at, refl)

at_so : (stage : Stage) (c : Client) (parts : List Part) → c.stage ≡ stage → StepsSo c (course.steps_at stage c parts)
at_so Rest c parts at = inr refl
at_so (Link Due) c parts at = refl
at_so (Link Asked) c parts at = inr refl
at_so (SearchChannel Due) c parts at = inl (ap is_onward at, refl)
at_so (SearchChannel Asked) c parts at = inr refl
at_so Search c parts at = by (is_due c.query)
  where
    asked : Stepped
    asked = course.sends_sdu 0x0001 (Octets (request_octets c.query)) (record c { query = after_request c.query; left = c.left - 1; rest = request_octets c.query }) parts

    by : (b : Bool) → StepsSo c (cond b asked (course.rests c parts))
    by true = inr refl
    by false = inr refl
at_so (SearchEnd Due) c parts at = inl (ap is_onward at, refl)
at_so (SearchEnd Asked) c parts at = inr refl
at_so (Features Due) c parts at = inl (ap is_onward at, refl)
at_so (Features Asked) c parts at = inr refl
at_so (ObjectChannel Due) c parts at = inl (ap is_onward at, refl)
at_so (ObjectChannel Asked) c parts at = inr refl
at_so Object c parts at = let one = course.steps_object c.transport c parts in on_so c one.client one.step (ap is_onward at) (object_on c.transport c parts (ap is_onward at))
at_so (ObjectEnd Due) c parts at = inl (ap is_onward at, refl)
at_so (ObjectEnd Asked) c parts at = inr refl
at_so (LinkEnd Due) c parts at = refl
at_so (LinkEnd Asked) c parts at = inr refl
at_so Over c parts at = over_so c.cause c parts at

pub steps_so : (c : Client) (parts : List Part) → StepsSo c (steps c parts)
steps_so c parts =
    let lacking : Stepped = record { client = c; step = NoMemory; left = parts } in
    either_so c.failed c lacking (cond c.given (course.rests c parts) (course.steps_at c.stage c parts)) (inr refl)
    (either_so c.given c (course.rests c parts) (course.steps_at c.stage c parts) (inr refl) (at_so c.stage c parts refl))

-- ---- its profile

-- it asks for what suits it, and is on its link where one is up
pub record IsSo (up : Bool) (p : ClientProfile) : Type 0 where
  pub suits : Befits p.client.stage p.bid
  pub linked : up ≡ true → is_linked p.client.stage ≡ true

-- what keeps it so
pub record Stays (c d : Client) : Type 0 where
  pub suits : (bid : Bid) → Befits c.stage bid → Befits d.stage bid
  pub linked : is_linked c.stage ≡ true → is_linked d.stage ≡ true

goes_stay : (c d : Client) → Goes c d → Stays c d
goes_stay c d goes = record { suits = λ bid suits. goes_suits c d bid goes suits; linked = goes_linked c d goes }

pub stays_then : (c d e : Client) → Stays c d → Stays d e → Stays c e
stays_then c d e one two = record { suits = λ bid suits. two.suits bid (one.suits bid suits); linked = λ on. two.linked (one.linked on) }

pub so_by : (up : Bool) (p q : ClientProfile) → q.bid ≡ p.bid → Stays p.client q.client → IsSo up p → IsSo up q
so_by up p q same stays so = record { suits = subst (Befits q.client.stage) (sym same) (stays.suits p.bid so.suits); linked = λ on. stays.linked (so.linked on) }

as_is : (c d : Client) → d.stage ≡ c.stage → Stays c d
as_is c d same = goes_stay c d (inr same)

event_stays : (event : ChannelEvent) (v : Channels) (c : Client) → Stays c (event_heard event v c)
event_stays (Opened own psm) v c = by (peer_mtu own v)
  where
    by : (mtu : Option ℕ) → Stays c (opened_by mtu psm c)
    by None = as_is c c refl
    by (Some mtu) = goes_stay c (hears_news (events.ChannelOpen psm mtu) c) (opened_goes psm mtu c)
event_stays (Closed own psm reason) v c = by (cause_of reason)
  where
    by : (cause : Option CloseCause) → Stays c (closed_by cause psm c)
    by None = as_is c c refl
    by (Some cause) = goes_stay c (hears_news (events.ChannelClosed psm cause) c) (closed_goes psm cause c)
event_stays (Told features) v c = goes_stay c (hears_news events.FeaturesTold c) (told_goes c)
event_stays FeaturesLost v c = goes_stay c (hears_news events.FeaturesLost c) (lost_goes c)
event_stays (DisconnectLost own) v c = as_is c c refl

sent_so : (up : Bool) (submitted : Option ℕ) (v : Channels) (p : ClientProfile) → IsSo up p → IsSo up (sent_on submitted v p)
sent_so up None v p so = so
sent_so up (Some own) v p so = by (waits own v)
  where
    by : (b : Bool) → IsSo up (cond b p (clients.done (record p { submitted = None })))
    by true = so
    by false = record { suits = so.suits; linked = so.linked }

submits_so : (up : Bool) (own : Option ℕ) (payload : Payload) (v : Channels) (p : ClientProfile) → IsSo up p → IsSo up (submits own payload v p).profile
submits_so up None payload v p so = so
submits_so up (Some own) payload v p so = by (takes_sdu own (sdu_of payload) v)
  where
    by : (b : Bool) → IsSo up (cond b (clients.waiting (channels.sends own (sdu_of payload) v) (record p { submitted = Some own })) (clients.waiting v p)).profile
    by true = record { suits = so.suits; linked = so.linked }
    by false = so

takes_so : (up : Bool) (step : Step) (v : Channels) (q p : ClientProfile) → q.bid ≡ p.bid → StepSo p.client q.client step → IsSo up p → IsSo up (takes step v q p).profile
takes_so up Wait v q p same step so = so_by up p q same (goes_stay p.client q.client step) so
takes_so up MakeLink v q p same step so = so
takes_so up AskFeatures v q p same step so = let now = so_by up p q same (goes_stay p.client q.client step) so in record { suits = now.suits; linked = now.linked }
takes_so up (OpenChannel psm) v q p same step so = let now = so_by up p q same (goes_stay p.client q.client step) so in record { suits = now.suits; linked = now.linked }
takes_so up (SendSdu psm payload) v q p same step so = by (endpoint_of psm q.endpoints)
  where
    by : (own : Option ℕ) → IsSo up (submits own payload v q).profile
    by own = submits_so up own payload v q (so_by up p q same (goes_stay p.client q.client step) so)
takes_so up (CloseChannel psm) v q p same step so = let now = so_by up p q same (goes_stay p.client q.client step) so in record { suits = now.suits; linked = now.linked }
takes_so up BreakLink v q p same step so = record { suits = subst (λ (stage : Stage). Befits stage NoBid) (sym step) refl; linked = λ on. ap is_linked step }
takes_so up (Ended outcome) v q p same (from, to) so = record {
  suits = subst (λ (stage : Stage). Befits stage q.bid) (sym to) (subst (λ (bid : Bid). is_paging bid ≡ false) (sym same) (subst (λ (stage : Stage). Befits stage p.bid) from so.suits));
  linked = λ on. let never : false ≡ true = sym (ap is_linked from) ∙ so.linked on in cc;
}
takes_so up NoMemory v q p same step so = so_by up p q same (goes_stay p.client q.client step) so

pub keeps_so : (settings : Settings) (up : Bool) → Keeps (client_profile settings) (IsSo up)
keeps_so settings up = record {
  given = λ circumstances p so. record { suits = so.suits; linked = so.linked };
  received = λ own psm sdu p so. so_by up p (clients.received own psm sdu p) refl (goes_stay p.client (hears_news (events.Sdu psm sdu) p.client) (heard_goes psm sdu p.client)) so;
  happened = λ event v p so. so_by up p (clients.happened event v p) refl (event_stays event v p.client) so;
  sent = λ v p so. sent_so up p.submitted v p so;
  steps = λ v p so. let one = steps p.client (fitted p) in takes_so up one.step v (record p { client = one.client; parts = unused one.left p.parts }) p refl (steps_so p.client (fitted p)) so;
}

-- ---- what it is told

end_stays : (step : Step) (c d : Client) → StepSo c d step → Stays c (after_end step d c)
end_stays (Ended outcome) c d (from, to) = record {
  suits = λ bid suits. subst (λ (stage : Stage). Befits stage bid) (sym to) (subst (λ (stage : Stage). Befits stage bid) from suits);
  linked = λ on. let never : false ≡ true = sym (ap is_linked from) ∙ on in cc;
}
end_stays Wait c d so = as_is c c refl
end_stays MakeLink c d so = as_is c c refl
end_stays AskFeatures c d so = as_is c c refl
end_stays (OpenChannel psm) c d so = as_is c c refl
end_stays (SendSdu psm payload) c d so = as_is c c refl
end_stays (CloseChannel psm) c d so = as_is c c refl
end_stays BreakLink c d so = as_is c c refl
end_stays NoMemory c d so = as_is c c refl

pub ended_stays : (c : Client) → Stays c (ended c)
ended_stays c = let one = steps c [] in end_stays one.step c one.client (steps_so c [])

after_suits : (ending : Ending) (stage : Stage) (bid : Bid) → Befits stage bid → Befits (stage_after ending stage) bid
after_suits InOrder Rest bid so = so
after_suits InOrder (Link Due) bid so = so
after_suits InOrder (Link Asked) bid so = so
after_suits InOrder (SearchChannel Due) bid so = so
after_suits InOrder (SearchChannel Asked) bid so = so
after_suits InOrder Search bid so = so
after_suits InOrder (SearchEnd point) bid so = so
after_suits InOrder (Features point) bid so = so
after_suits InOrder (ObjectChannel Due) bid so = so
after_suits InOrder (ObjectChannel Asked) bid so = so
after_suits InOrder Object bid so = so
after_suits InOrder (ObjectEnd point) bid so = so
after_suits InOrder (LinkEnd Due) bid so = so
after_suits InOrder (LinkEnd Asked) bid so = so
after_suits InOrder Over bid so = so
after_suits AtOnce Rest bid so = so
after_suits AtOnce (Link Due) bid so = so
after_suits AtOnce (Link Asked) bid so = so
after_suits AtOnce (SearchChannel point) bid so = so
after_suits AtOnce Search bid so = so
after_suits AtOnce (SearchEnd point) bid so = so
after_suits AtOnce (Features point) bid so = so
after_suits AtOnce (ObjectChannel point) bid so = so
after_suits AtOnce Object bid so = so
after_suits AtOnce (ObjectEnd point) bid so = so
after_suits AtOnce (LinkEnd Due) bid so = so
after_suits AtOnce (LinkEnd Asked) bid so = so
after_suits AtOnce Over bid so = so

after_linked : (ending : Ending) (stage : Stage) → is_linked stage ≡ true → is_linked (stage_after ending stage) ≡ true
after_linked InOrder (SearchChannel Due) on = refl
after_linked InOrder (SearchChannel Asked) on = refl
after_linked InOrder Search on = refl
after_linked InOrder (SearchEnd point) on = refl
after_linked InOrder (Features point) on = refl
after_linked InOrder (ObjectChannel Due) on = refl
after_linked InOrder (ObjectChannel Asked) on = refl
after_linked InOrder Object on = refl
after_linked InOrder (ObjectEnd point) on = refl
after_linked InOrder (LinkEnd point) on = refl
after_linked AtOnce (SearchChannel point) on = refl
after_linked AtOnce Search on = refl
after_linked AtOnce (SearchEnd point) on = refl
after_linked AtOnce (Features point) on = refl
after_linked AtOnce (ObjectChannel point) on = refl
after_linked AtOnce Object on = refl
after_linked AtOnce (ObjectEnd point) on = refl
after_linked AtOnce (LinkEnd point) on = refl
after_linked ending Rest on = cc
after_linked ending (Link point) on = cc
after_linked ending Over on = cc

ends_stays : (outcome : Outcome) (c : Client) → Stays c (ends outcome c)
ends_stays outcome c = by c.cause
  where
    by : (cause : Option Outcome) → Stays c (ends_by cause outcome c)
    by None = record { suits = λ bid so. after_suits (ending_of outcome) c.stage bid so; linked = λ on. after_linked (ending_of outcome) c.stage on }
    by (Some earlier) = record { suits = λ bid so. after_suits AtOnce c.stage bid so; linked = λ on. after_linked AtOnce c.stage on }

cancelled_stays : (c : Client) → Stays c (cancelled c)
cancelled_stays c = by (may_cancel c)
  where
    by : (b : Bool) → Stays c (cond b (ends outcomes.Cancelled c) c)
    by true = ends_stays outcomes.Cancelled c
    by false = as_is c c refl

search_on : (stage : Stage) → events.is_search stage ≡ true → is_onward stage ≡ true
search_on Search is = refl
search_on Rest is = cc
search_on (Link point) is = cc
search_on (SearchChannel point) is = cc
search_on (SearchEnd point) is = cc
search_on (Features point) is = cc
search_on (ObjectChannel point) is = cc
search_on Object is = cc
search_on (ObjectEnd point) is = cc
search_on (LinkEnd point) is = cc
search_on Over is = cc

first_of : (a b c : Bool) → ((a && b) && c) ≡ true → a ≡ true
first_of true b c is = refl
first_of false b c is = cc

pub timer_stays : (c : Client) → Stays c (hears_news events.Timer c)
timer_stays c = goes_stay c (hears_news events.Timer c)
    (asking_goes (armed c && not (c.given || is_due c.query)) c (cond (eqb c.left 0) (ends outcomes.RetryLimit c) again)
    (λ is. search_on c.stage (first_of (events.is_search c.stage) (is_awaiting c.query) (not (c.given || is_due c.query)) is)) (λ on. on_if (eqb c.left 0) (ends outcomes.RetryLimit c) again (on_ends outcomes.RetryLimit c on) on))
  where
    again : Client
    again = record c { query = after_resend c.query }

pub cancel_stays : (c : Client) → Stays c (ended (cancelled c))
cancel_stays c = stays_then c (cancelled c) (ended (cancelled c)) (cancelled_stays c) (ended_stays (cancelled c))

-- but for what it hears of its link, and that a push begins
pub learns_so : (up : Bool) (circumstances : List Circumstance) (news : News) (p : ClientProfile) → IsOfPush news → IsSo up p → IsSo up (clients.told circumstances news p)
learns_so up circumstances (Linked event) p of so = absurd of
learns_so up circumstances (Failed status) p of so = absurd of
learns_so up circumstances (Heard pdu) p of so = so
learns_so up circumstances TimerFired p of so = so_by up p (clients.told circumstances TimerFired p) refl (timer_stays p.client) so
learns_so up circumstances Cancelled p of so = so_by up p (clients.told circumstances Cancelled p) refl (cancel_stays p.client) so
learns_so up circumstances (Opening name) p of so = absurd of

-- ---- all of it

fed_so : (settings : Settings) (feed : Feed) (p : ClientProfile) → IsFeedOfPush feed → IsSo true p → IsSo true (fed (client_profile settings) p feed)
fed_so settings (Gifts circumstances) p of so = (keeps_so settings true).given circumstances p so
fed_so settings (Learns circumstances news) p of so = learns_so true circumstances news p of so
fed_so settings (Receives own psm sdu) p of so = (keeps_so settings true).received own psm sdu p so
fed_so settings (Happens event v) p of so = (keeps_so settings true).happened event v p so
fed_so settings (Sent v) p of so = (keeps_so settings true).sent v p so
fed_so settings (Steps v) p of so = (keeps_so settings true).steps v p so

all_so : (settings : Settings) (feeds : List Feed) (p : ClientProfile) → AllByRecursion IsFeedOfPush feeds → IsSo true p → IsSo true (all_fed (client_profile settings) p feeds)
all_so settings [] p of so = so
all_so settings (feed ∷ feeds) p of so = all_so settings feeds (fed (client_profile settings) p feed) of.1 (fed_so settings feed p of.0 so)

pub clients_go_onward : ClientsGoOnward
clients_go_onward settings feeds pushing of onward =
    let now = all_so settings feeds pushing of (record { suits = onward.suits; linked = λ on. onward.linked }) in
    record { suits = now.suits; linked = now.linked refl }
