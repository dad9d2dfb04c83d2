-- A client without a link: it rests, a link is to be made for its push, or its push is over.
use Rattle.std.proofs.Common.{◌≡◌, ◌&&◌, ℕ, Bool, true, false, List, [], Option, Some, None, Result, Ok, Err, refl, if◌then◌else◌}
use Rattle.radio_world.specs.bt_base.specs.declared.ports.PortFault.{PortFault}
use Rattle.radio_world.specs.bt_base.specs.declared.ports.PortFault.TheVariants as faults
use Rattle.radio_world.specs.bt_base.specs.declared.settings.Settings.{Settings}
use Rattle.radio_world.specs.push_terms.specs.declared.outcome.Outcome.{Outcome}
use Rattle.radio_world.specs.push_terms.specs.declared.outcome.Outcome.TheVariants as outcomes
use Rattle.host_laws.specs.push_model.specs.declared.course.Point.TheVariants.{Due, Asked}
use Rattle.host_laws.specs.push_model.specs.declared.course.Stage.{Stage}
use Rattle.host_laws.specs.push_model.specs.declared.course.Stage.TheVariants.{Rest, Link, SearchChannel, Search, SearchEnd, Features, ObjectChannel, Object, ObjectEnd, LinkEnd, Over}
use Rattle.host_laws.specs.push_model.specs.Causes.{Ending, InOrder, AtOnce, ending_of, cause_of_link, cause_of_page}
use Rattle.host_laws.specs.push_model.specs.Client.{Client, stage_after, ends, ends_by, cancelled, may_cancel, begins, begun_by}
use Rattle.host_laws.specs.push_model.specs.Events as events
use Rattle.host_laws.specs.push_model.specs.Events.{hears_news, is_linked, is_paging, over, over_by, fires, armed}
use Rattle.host_laws.specs.push_model.specs.Steps.{Part, Step, Wait, MakeLink, AskFeatures, OpenChannel, SendSdu, CloseChannel, BreakLink, Ended, NoMemory, Stepped, steps, steps_at, tells_end, rests}
use Rattle.host_laws.specs.channel_model.specs.Value.{no_channels}
use Rattle.host_laws.specs.world_model.specs.Machines.{News, Linked, Failed, Heard, TimerFired, Cancelled, Opening}
use Rattle.host_laws.specs.host_model.specs.Circumstances.{Circumstance}
use Rattle.host_laws.specs.host_model.specs.Profiles.{Stride}
use Rattle.host_laws.specs.host_model.specs.Clients.{ClientProfile, client_profile, after_end, ended, after_call, calls, told, takes, next_stride, sent_on, NoBid, fitted}
use Rattle.host_laws.specs.host_model.specs.Shelves.{size_for, name_for, unused}
use Rattle.scenario_laws.proofs.Acting.{IsAside}
use Rattle.scenario_laws.proofs.Unlinked.{Keeps}

abbrev pub IsFree : Client → Type 0
IsFree client = is_linked client.stage ≡ false

-- and it waits for no SDU to be sent
pub record HasNoLink (pushing : ClientProfile) : Type 0 where
  pub free : IsFree pushing.client
  pub none : pushing.submitted ≡ None

-- ---- its steps

abbrev pub IsAlone : Step → Type 0
IsAlone Wait = Unit {0}
IsAlone MakeLink = Unit {0}
IsAlone AskFeatures = ⊥
IsAlone (OpenChannel psm) = ⊥
IsAlone (SendSdu psm payload) = ⊥
IsAlone (CloseChannel psm) = ⊥
IsAlone BreakLink = ⊥
IsAlone (Ended outcome) = Unit {0}
IsAlone NoMemory = Unit {0}

abbrev pub IsFreely : Stepped → Type 0
IsFreely one = IsAlone one.step × IsFree one.client

end_free : (cause : Option Outcome) (client : Client) (parts : List Part) → IsFree client → IsFreely (tells_end cause client parts)
end_free None client parts free = (tt, free)
end_free (Some outcome) client parts free = (tt, refl)

at_free : (stage : Stage) (client : Client) (parts : List Part) → is_linked stage ≡ false → IsFree client → IsFreely (steps_at stage client parts)
at_free Rest client parts off free = (tt, free)
at_free (Link Due) client parts off free = (tt, refl)
at_free (Link Asked) client parts off free = (tt, free)
at_free (SearchChannel point) client parts off free = cc
at_free Search client parts off free = cc
at_free (SearchEnd point) client parts off free = cc
at_free (Features point) client parts off free = cc
at_free (ObjectChannel point) client parts off free = cc
at_free Object client parts off free = cc
at_free (ObjectEnd point) client parts off free = cc
at_free (LinkEnd point) client parts off free = cc
at_free Over client parts off free = end_free client.cause client parts free

steps_by : (failed given : Bool) (client : Client) (parts : List Part) → IsFree client → IsFreely (if failed then record { client = client; step = NoMemory; left = parts } else if given then rests client parts else steps_at client.stage client parts)
steps_by true given client parts free = (tt, free)
steps_by false true client parts free = (tt, free)
steps_by false false client parts free = at_free client.stage client parts free free

pub steps_free : (client : Client) (parts : List Part) → IsFree client → IsFreely (steps client parts)
steps_free client parts free = steps_by client.failed client.given client parts free

end_by : (step : Step) (after before : Client) → IsFree after → IsFree before → IsFree (after_end step after before)
end_by Wait after before free same = same
end_by MakeLink after before free same = same
end_by AskFeatures after before free same = same
end_by (OpenChannel psm) after before free same = same
end_by (SendSdu psm payload) after before free same = same
end_by (CloseChannel psm) after before free same = same
end_by BreakLink after before free same = same
end_by (Ended outcome) after before free same = free
end_by NoMemory after before free same = same

ended_free : (client : Client) → IsFree client → IsFree (ended client)
ended_free client free = end_by (steps client []).step (steps client []).client client (steps_free client [] free).1 free

call_by : (step : Step) (client : Client) (pushing : ClientProfile) → IsFree client → HasNoLink pushing → HasNoLink (after_call step client pushing)
call_by Wait client pushing free same = same
call_by MakeLink client pushing free same = record { free = free; none = same.none }
call_by AskFeatures client pushing free same = same
call_by (OpenChannel psm) client pushing free same = same
call_by (SendSdu psm payload) client pushing free same = same
call_by (CloseChannel psm) client pushing free same = same
call_by BreakLink client pushing free same = same
call_by (Ended outcome) client pushing free same = same
call_by NoMemory client pushing free same = same

calls_free : (pushing : ClientProfile) → HasNoLink pushing → HasNoLink (calls pushing)
calls_free pushing same = call_by (steps pushing.client []).step (steps pushing.client []).client pushing (steps_free pushing.client [] same.free).1 same

-- ---- what it is told

over_free : (cause : Option Outcome) (outcome : Outcome) (client : Client) → IsFree (over_by cause outcome client)
over_free None outcome client = refl
over_free (Some earlier) outcome client = refl

down_by : (linked : Bool) (outcome : Outcome) (client : Client) → is_linked client.stage ≡ linked → IsFree (if linked then over outcome client else client)
down_by true outcome client is = over_free client.cause outcome client
down_by false outcome client is = is

paged_by : (paging : Bool) (outcome : Outcome) (client : Client) → IsFree client → IsFree (if paging then over outcome client else client)
paged_by true outcome client free = over_free client.cause outcome client
paged_by false outcome client free = free

-- it is given up
after_free : (ending : Ending) (stage : Stage) → is_linked stage ≡ false → is_linked (stage_after ending stage) ≡ false
after_free InOrder Rest off = refl
after_free InOrder (Link Due) off = refl
after_free InOrder (Link Asked) off = refl
after_free InOrder Over off = refl
after_free AtOnce Rest off = refl
after_free AtOnce (Link Due) off = refl
after_free AtOnce (Link Asked) off = refl
after_free AtOnce Over off = refl
after_free ending (SearchChannel point) off = cc
after_free ending Search off = cc
after_free ending (SearchEnd point) off = cc
after_free ending (Features point) off = cc
after_free ending (ObjectChannel point) off = cc
after_free ending Object off = cc
after_free ending (ObjectEnd point) off = cc
after_free ending (LinkEnd point) off = cc

ends_free : (cause : Option Outcome) (outcome : Outcome) (client : Client) → IsFree client → IsFree (ends_by cause outcome client)
ends_free None outcome client free = after_free (ending_of outcome) client.stage free
ends_free (Some earlier) outcome client free = after_free AtOnce client.stage free

cancelled_by : (may : Bool) (client : Client) → IsFree client → IsFree (if may then ends outcomes.Cancelled client else client)
cancelled_by true client free = ends_free client.cause outcomes.Cancelled client free
cancelled_by false client free = free

-- nothing that waits for the timer
not_armed : (stage : Stage) (waits : Bool) → is_linked stage ≡ false → events.is_search stage && waits ≡ false
not_armed Rest waits off = refl
not_armed (Link point) waits off = refl
not_armed Over waits off = refl
not_armed (SearchChannel point) waits off = cc
not_armed Search waits off = cc
not_armed (SearchEnd point) waits off = cc
not_armed (Features point) waits off = cc
not_armed (ObjectChannel point) waits off = cc
not_armed Object waits off = cc
not_armed (ObjectEnd point) waits off = cc
not_armed (LinkEnd point) waits off = cc

quiet_client : (client : Client) → IsFree client → armed client ≡ false
quiet_client client free = not_armed client.stage _ free

fires_free : (client : Client) → IsFree client → IsFree (fires client)
fires_free client free = rw (quiet_client client free) free

begun_free : (size : Result ℕ PortFault) (name : List ℕ) (client : Client) → IsFree client → IsFree (begun_by size name client)
begun_free (Ok size) name client free = refl
begun_free (Err faults.Failed) name client free = refl
begun_free (Err faults.NoMemory) name client free = free

begins_by : (failed : Bool) (size : Result ℕ PortFault) (name : List ℕ) (client : Client) → IsFree client → IsFree (if failed then client else begun_by size name client)
begins_by true size name client free = free
begins_by false size name client free = begun_free size name client free

told_free : (circumstances : List Circumstance) (news : News) (pushing : ClientProfile) → IsAside news → HasNoLink pushing → HasNoLink (told circumstances news pushing)
told_free circumstances (Linked event) pushing aside same = absurd aside
told_free circumstances (Failed status) pushing aside same =
    record { free = ended_free (hears_news (events.LinkFailed status) pushing.client) (paged_by (is_paging pushing.client.stage) (cause_of_page status) pushing.client same.free); none = refl }
told_free circumstances (Heard pdu) pushing aside same = same
told_free circumstances TimerFired pushing aside same = record { free = fires_free pushing.client same.free; none = same.none }
told_free circumstances Cancelled pushing aside same = record { free = ended_free (cancelled pushing.client) (cancelled_by (may_cancel pushing.client) pushing.client same.free); none = same.none }
told_free circumstances (Opening name) pushing aside same =
    let client = begins (size_for circumstances name) (name_for name) pushing.client in
    calls_free (record pushing { client = ended client; submitted = None; bid = NoBid })
    (record { free = ended_free client (begins_by pushing.client.failed (size_for circumstances name) (name_for name) pushing.client same.free); none = refl })

-- ---- all of it

sent_none : (submitted : Option ℕ) (pushing : ClientProfile) → submitted ≡ None → HasNoLink pushing → HasNoLink (sent_on submitted no_channels pushing)
sent_none None pushing none same = same
sent_none (Some own) pushing none same = cc

abbrev Stays : Stride ClientProfile → Type 0
Stays stride = HasNoLink stride.profile × (stride.channels ≡ no_channels)

takes_none : (step : Step) (after before : ClientProfile) → IsAlone step → HasNoLink after → HasNoLink before → Stays (takes step no_channels after before)
takes_none Wait after before alone free same = (free, refl)
takes_none MakeLink after before alone free same = (same, refl)
takes_none AskFeatures after before alone free same = absurd alone
takes_none (OpenChannel psm) after before alone free same = absurd alone
takes_none (SendSdu psm payload) after before alone free same = absurd alone
takes_none (CloseChannel psm) after before alone free same = absurd alone
takes_none BreakLink after before alone free same = absurd alone
takes_none (Ended outcome) after before alone free same = (free, refl)
takes_none NoMemory after before alone free same = (free, refl)

strides_none : (pushing : ClientProfile) → HasNoLink pushing → Stays (next_stride no_channels pushing)
strides_none pushing same =
    let one = steps pushing.client (fitted pushing) in
    let (alone, free) = steps_free pushing.client (fitted pushing) same.free in
    takes_none one.step (record pushing { client = one.client; parts = unused one.left pushing.parts }) pushing alone (record { free = free; none = same.none }) same

pub clients_keep : (settings : Settings) → Keeps (client_profile settings) HasNoLink
clients_keep settings = record {
  first = record { free = refl; none = refl };
  given = λ circumstances pushing same. record { free = same.free; none = same.none };
  down = λ circumstances reason pushing. record {
    free = ended_free (hears_news (events.LinkDown reason) pushing.client) (down_by (is_linked pushing.client.stage) (cause_of_link reason) pushing.client refl);
    none = refl;
  };
  aside = told_free;
  sent = λ pushing same. sent_none pushing.submitted pushing same.none same;
  steps = strides_none;
  quiet = λ pushing same. quiet_client pushing.client same.free;
}
