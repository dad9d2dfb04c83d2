-- A client is asked again only behind the end of a channel, so it soon waits.
use Rattle.std.proofs.Common.{true≢false, sym, ◌∙◌, ◌≡◌, ◌≤◌, ◌<◌, ℕ, zero, suc, ◌-◌, Bool, true, false, is_some, List, [], Option, Some, None, Result, Ok, Err, refl, arith, if◌then◌else◌}
use Rattle.rest_laws.specs.bt_base.specs.declared.ports.PortFault.{PortFault}
use Rattle.rest_laws.specs.bt_base.specs.declared.settings.Settings.{Settings}
use Rattle.rest_laws.specs.bt_base.specs.declared.settings.Transport.{Transport}
use Rattle.rest_laws.specs.bt_base.specs.declared.settings.Transport.TheVariants.{L2cap, Rfcomm}
use Rattle.rest_laws.specs.push_terms.specs.declared.outcome.Outcome.{Outcome}
use Rattle.push_model.specs.rfcomm_model.specs.Machine.{leaves}
use Rattle.push_model.specs.rfcomm_model.specs.Saying.{Said, next}
use Rattle.push_model.specs.sdp_client.specs.Asking.{is_due, request_octets, after_request}
use Rattle.channel_model.specs.Value.{Channels}
use Rattle.channel_model.specs.Calls.{waits, sends}
use Rattle.channel_model.specs.Giving.{next_given}
use Rattle.push_model.specs.declared.course.Contact.TheVariants.{Closing}
use Rattle.push_model.specs.declared.course.Point.TheVariants.{Due, Asked}
use Rattle.push_model.specs.declared.course.Stage.{Stage}
use Rattle.push_model.specs.declared.course.Stage.TheVariants.{Rest, Link, SearchChannel, Search, SearchEnd, Features, ObjectChannel, Object, ObjectEnd, LinkEnd, Over}
use Rattle.push_model.specs.Client.{Client}
use Rattle.push_model.specs.Payloads.{Payload, Octets}
use Rattle.push_model.specs.Steps as course
use Rattle.push_model.specs.Steps.{Part, Step, Wait, MakeLink, AskFeatures, OpenChannel, SendSdu, CloseChannel, BreakLink, Ended, NoMemory, Stepped, Made, Ask, Connect, Put, Abort, Disconnect, Close, Nothing, steps}
use Rattle.host_model.specs.Endpoints.{endpoint_of, takes_sdu}
use Rattle.host_model.specs.Pdus.{sdu_of}
use Rattle.host_model.specs.Profiles.{Stride}
use Rattle.host_model.specs.Hosts.{Host, settles, strides, most_steps}
use Rattle.host_model.specs.Clients.{ClientProfile, client_profile, sent_on, done, submits, takes, next_stride, waiting, fitted}
use Rattle.host_model.specs.Waiting.{waits_within, waits_by, ClientsWait}
use Rattle.host_model.specs.Shelves.{unused}
use Rattle.host_model.proofs.Ending.{left, all_low}

-- where a step ends a channel, one less is left to be ended
abbrev Lowers : ℕ → Step → Client → Type 0
Lowers before (CloseChannel psm) after = left after.stage < before
Lowers before Wait after = Unit {0}
Lowers before MakeLink after = Unit {0}
Lowers before AskFeatures after = Unit {0}
Lowers before (OpenChannel psm) after = Unit {0}
Lowers before (SendSdu psm payload) after = Unit {0}
Lowers before BreakLink after = Unit {0}
Lowers before (Ended outcome) after = Unit {0}
Lowers before NoMemory after = Unit {0}

abbrev Good : ℕ → Stepped → Type 0
Good before stepped = Lowers before stepped.step stepped.client

either : (test : Bool) (before : ℕ) (a b : Stepped) → Good before a → Good before b → Good before (if test then a else b)
either true before a b good_a good_b = good_a
either false before a b good_a good_b = good_b

direct : (outcome : Result (Unit {0}) PortFault) (request : Made) (before : ℕ) → Good before (course.sends_direct outcome request)
direct (Ok done) request before = tt
direct (Err fault) request before = tt

asks_direct : (ask : Ask) (client : Client) (parts : List Part) (before : ℕ) → 0 < before → Good before (course.asks_direct ask client parts)
asks_direct Close client parts before some = some
asks_direct Nothing client parts before some = tt
asks_direct Connect client parts before some = let request = course.requests Connect client parts in direct request.outcome request before
asks_direct Put client parts before some = let request = course.requests Put client parts in direct request.outcome request before
asks_direct Abort client parts before some = let request = course.requests Abort client parts in direct request.outcome request before
asks_direct Disconnect client parts before some = let request = course.requests Disconnect client parts in direct request.outcome request before

said : (one : Option Said) (client : Client) (parts : List Part) (before : ℕ) → Good before (course.said_by one client parts)
said None client parts before = tt
said (Some one) client parts before = tt

says : (client : Client) (parts : List Part) (before : ℕ) → Good before (course.says client parts)
says client parts before = let full = course.filled client in said (next full.mux) full parts before

muxed : (outcome : Result (Unit {0}) PortFault) (request : Made) (before : ℕ) → Good before (course.sends_muxed outcome request)
muxed (Ok done) request before = says request.client request.left before
muxed (Err fault) request before = tt

through : (ask : Ask) (client : Client) (parts : List Part) (before : ℕ) → Good before (course.asks_through ask client parts)
through ask client parts before =
    let request = course.requests ask (record client { rest = [] }) parts in
    either (course.takes_some client.mux) before (course.sends_muxed request.outcome request) (course.rests client parts) (muxed request.outcome request before) tt

asks_muxed : (ask : Ask) (client : Client) (parts : List Part) (before : ℕ) → Good before (course.asks_muxed ask client parts)
asks_muxed Close client parts before = says (record client { mux = leaves client.mux; contact = Closing }) parts before
asks_muxed Nothing client parts before = tt
asks_muxed Connect client parts before = through Connect client parts before
asks_muxed Put client parts before = through Put client parts before
asks_muxed Abort client parts before = through Abort client parts before
asks_muxed Disconnect client parts before = through Disconnect client parts before

goes : (one : Option Said) (client : Client) (parts : List Part) (before : ℕ) → Good before (course.goes_muxed one client parts)
goes None client parts before =
    let quiet = record client { frame = None } in
    either (course.may_ask quiet) before (course.asks_muxed (course.next_ask quiet) quiet parts) (course.rests quiet parts) (asks_muxed (course.next_ask quiet) quiet parts before) tt
goes (Some one) client parts before = tt

object : (transport : Transport) (client : Client) (parts : List Part) (before : ℕ) → 0 < before → Good before (course.steps_object transport client parts)
object L2cap client parts before some =
    let new = record client { rest = [] } in
    either (course.may_ask client) before (course.asks_direct (course.next_ask client) new parts) (course.rests client parts) (asks_direct (course.next_ask client) new parts before some) tt
object Rfcomm client parts before some = let full = course.filled client in goes (next full.mux) full parts before

search : (test : Bool) (client asked : Client) (psm : ℕ) (payload : Payload) (parts : List Part) (before : ℕ)
    → Good before (if test then course.sends_sdu psm payload asked parts else course.rests client parts)
search true client asked psm payload parts before = tt
search false client asked psm payload parts before = tt

ended : (cause : Option Outcome) (client : Client) (parts : List Part) (before : ℕ) → Good before (course.tells_end cause client parts)
ended None client parts before = tt
ended (Some outcome) client parts before = tt

at : (stage : Stage) (client : Client) (parts : List Part) (before : ℕ) → left stage ≡ before → Good before (course.steps_at stage client parts)
at Rest client parts before is = tt
at (Link Due) client parts before is = tt
at (Link Asked) client parts before is = tt
at (SearchChannel Due) client parts before is = tt
at (SearchChannel Asked) client parts before is = tt
at Search client parts before is =
    search (is_due client.query) client (record client { query = after_request client.query; left = client.left - 1; rest = request_octets client.query }) 0x0001 (Octets (request_octets client.query)) parts before
at (SearchEnd Due) client parts before is = omega (arith, is)
at (SearchEnd Asked) client parts before is = tt
at (Features Due) client parts before is = tt
at (Features Asked) client parts before is = tt
at (ObjectChannel Due) client parts before is = tt
at (ObjectChannel Asked) client parts before is = tt
at Object client parts before is = object client.transport client parts before (omega (arith, is))
at (ObjectEnd Due) client parts before is = omega (arith, is)
at (ObjectEnd Asked) client parts before is = tt
at (LinkEnd Due) client parts before is = tt
at (LinkEnd Asked) client parts before is = tt
at Over client parts before is = ended client.cause client parts before

by : (failed given : Bool) (client : Client) (parts : List Part)
    → Good (left client.stage) (if failed then record { client = client; step = NoMemory; left = parts } else if given then course.rests client parts else course.steps_at client.stage client parts)
by true given client parts = tt
by false true client parts = tt
by false false client parts = at client.stage client parts (left client.stage) refl

lowers : (client : Client) (parts : List Part) → Good (left client.stage) (steps client parts)
lowers client parts = by client.failed client.given client parts

-- ---- the profile

submitted : (test : Bool) (on channels : Channels) (after pushing : ClientProfile) → (if test then waiting on after else waiting channels pushing).more ≡ false
submitted true on channels after pushing = refl
submitted false on channels after pushing = refl

submits_once : (own : Option ℕ) (payload : Payload) (channels : Channels) (pushing : ClientProfile) → (submits own payload channels pushing).more ≡ false
submits_once None payload channels pushing = refl
submits_once (Some own) payload channels pushing = submitted (takes_sdu own (sdu_of payload) channels) (sends own (sdu_of payload) channels) channels (record pushing { submitted = Some own }) pushing

taken : (step : Step) (channels : Channels) (after before : ClientProfile) (bound : ℕ) → Lowers bound step after.client → (takes step channels after before).more ≡ true
    → left (takes step channels after before).profile.client.stage < bound
taken (CloseChannel psm) channels after before bound lower more = lower
taken Wait channels after before bound lower more = absurd (true≢false (sym more))
taken MakeLink channels after before bound lower more = absurd (true≢false (sym more))
taken AskFeatures channels after before bound lower more = absurd (true≢false (sym more))
taken (OpenChannel psm) channels after before bound lower more = absurd (true≢false (sym more))
taken (SendSdu psm payload) channels after before bound lower more = absurd (true≢false (sym more ∙ submits_once (endpoint_of psm after.endpoints) payload channels after))
taken BreakLink channels after before bound lower more = absurd (true≢false (sym more))
taken (Ended outcome) channels after before bound lower more = absurd (true≢false (sym more))
taken NoMemory channels after before bound lower more = absurd (true≢false (sym more))

strides_low : (channels : Channels) (pushing : ClientProfile) → (next_stride channels pushing).more ≡ true → left (next_stride channels pushing).profile.client.stage < left pushing.client.stage
strides_low channels pushing more =
    let one = steps pushing.client (fitted pushing) in
    taken one.step channels (record pushing { client = one.client; parts = unused one.left pushing.parts }) pushing (left pushing.client.stage) (lowers pushing.client (fitted pushing)) more

sent_by : (test : Bool) (pushing : ClientProfile) → left (if test then pushing else done (record pushing { submitted = None })).client.stage ≡ left pushing.client.stage
sent_by true pushing = refl
sent_by false pushing = refl

sent_same : (own : Option ℕ) (channels : Channels) (pushing : ClientProfile) → left (sent_on own channels pushing).client.stage ≡ left pushing.client.stage
sent_same None channels pushing = refl
sent_same (Some own) channels pushing = sent_by (waits own channels) pushing

module _ (settings : Settings) where
  after_stride : (count : ℕ) (host : Host ClientProfile) (stride : Stride ClientProfile) (test : Bool) → stride.more ≡ test
      → (test ≡ true → left stride.profile.client.stage < count) → ((next : Host ClientProfile) → left next.profile.client.stage < count → waits_within (client_profile settings) count next ≡ true)
      → (if test then waits_within (client_profile settings) count (strides (client_profile settings) stride host) else true) ≡ true
  after_stride count host stride true is low more =
      let new = record host { channels = stride.channels; profile = stride.profile } in
      let first = low refl in
      let rest = all_low settings stride.channels stride.channels.events stride.profile in
      more (strides (client_profile settings) stride host) (omega (arith, first, rest))
  after_stride count host stride false is low more = refl

  step_by : (test : Bool) (count : ℕ) (host : Host ClientProfile) → left host.profile.client.stage ≤ count
      → ((next : Host ClientProfile) → left next.profile.client.stage < count → waits_within (client_profile settings) count next ≡ true)
      → (if test then true else waits_by (client_profile settings) (λ next. waits_within (client_profile settings) count next) (next_stride host.channels host.profile) host) ≡ true
  step_by true count host low more = refl
  step_by false count host low more =
      let stride = next_stride host.channels host.profile in
      after_stride count host stride stride.more refl (λ again. let first = strides_low host.channels host.profile again in omega (arith, first, low)) more

  waits_soon : (count : ℕ) (host : Host ClientProfile) → left host.profile.client.stage < count → waits_within (client_profile settings) count host ≡ true
  unfolding waits_within
  waits_soon zero host low = absurd (omega (arith, low))
  waits_soon (suc count) host low =
      let now = settles (client_profile settings) host in
      let is = sent_same host.profile.submitted host.channels host.profile in
      step_by (is_some (next_given now.channels)) count now (omega (arith, low, is)) (λ next less. waits_soon count next less)

few : (stage : Stage) → left stage < most_steps
few Rest = omega arith
few (Link Due) = omega arith
few (Link Asked) = omega arith
few (SearchChannel Due) = omega arith
few (SearchChannel Asked) = omega arith
few Search = omega arith
few (SearchEnd Due) = omega arith
few (SearchEnd Asked) = omega arith
few (Features Due) = omega arith
few (Features Asked) = omega arith
few (ObjectChannel Due) = omega arith
few (ObjectChannel Asked) = omega arith
few Object = omega arith
few (ObjectEnd Due) = omega arith
few (ObjectEnd Asked) = omega arith
few (LinkEnd Due) = omega arith
few (LinkEnd Asked) = omega arith
few Over = omega arith

pub clients_wait : ClientsWait
clients_wait settings host = waits_soon settings most_steps host (few host.profile.client.stage)
