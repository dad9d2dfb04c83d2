-- A client that rests goes on resting, whatever it hears but a begin.
use Rattle.std.proofs.Common.{true≢false, ◌≡◌, ℕ, Bool, true, false, List, [], Option, Some, None, refl, if◌then◌else◌}
use Rattle.rest_laws.specs.bt_base.specs.declared.settings.Settings.{Settings}
use Rattle.channel_model.specs.declared.event.ChannelEvent.{ChannelEvent}
use Rattle.channel_model.specs.declared.event.ChannelEvent.TheVariants.{Opened, Closed, Features, FeaturesLost, DisconnectLost}
use Rattle.channel_model.specs.Value.{Channels}
use Rattle.channel_model.specs.Calls.{peer_mtu, waits, sends}
use Rattle.push_model.specs.declared.closing.CloseCause.{CloseCause}
use Rattle.push_model.specs.declared.course.Stage.TheVariants.{Rest}
use Rattle.rest_laws.specs.push_terms.specs.declared.outcome.Outcome.TheVariants as outcome
use Rattle.push_model.specs.Client.{Client, cancelled, may_cancel, ends}
use Rattle.push_model.specs.Payloads.{Payload}
use Rattle.push_model.specs.Events as events
use Rattle.push_model.specs.Events.{hears_news, linked_at, opened_at, closed_at, sdu_at, is_linked, is_paging, is_asking_features}
use Rattle.push_model.specs.Steps.{Part, Step, Wait, MakeLink, AskFeatures, OpenChannel, SendSdu, CloseChannel, BreakLink, Ended, NoMemory, steps, steps_at, rests}
use Rattle.rest_laws.specs.turn_laws.specs.Premises.{IsAside}
use Rattle.rest_laws.specs.world_model.specs.Machines.{News, Linked, Up, Down, Failed, Heard, TimerFired, Cancelled, Opening}
use Rattle.host_model.specs.Pdus.{sdu_of}
use Rattle.host_model.proofs.Keeping.{Keeps, KeepsNews}
use Rattle.host_model.specs.Endpoints.{endpoint_of, takes_sdu}
use Rattle.host_model.specs.Clients.{ClientProfile, client_profile, ended, after_end, cause_of, closed_by, opened_by, event_heard, sent_on, done, submits, takes, next_stride, waiting, fitted}
use Rattle.host_model.specs.Shelves.{unused}

abbrev pub Rests : Client → Type 0
Rests client = client.stage ≡ Rest

-- ---- the client

pub hears : (news : events.News) (client : Client) → Rests client → Rests (hears_news news client)
hears events.LinkUp client rest = rw rest refl
hears (events.LinkDown reason) client rest = rw rest refl
hears (events.LinkFailed status) client rest = rw rest refl
hears (events.ChannelOpen psm mtu) client rest = rw rest refl
hears (events.ChannelClosed psm cause) client rest = rw rest refl
hears (events.Sdu psm octets) client rest = rw rest refl
hears events.FeaturesTold client rest = rw rest refl
hears events.FeaturesLost client rest = rw rest refl
hears events.Timer client rest = rw rest refl

steps_by : (failed given : Bool) (client : Client) (parts : List Part) → Rests client
    → Rests (if failed then record { client = client; step = NoMemory; left = parts } else if given then rests client parts else steps_at client.stage client parts).client
steps_by true given client parts rest = rest
steps_by false true client parts rest = rest
steps_by false false client parts rest = rw rest refl

pub stepping : (client : Client) (parts : List Part) → Rests client → Rests (steps client parts).client
stepping client parts rest = steps_by client.failed client.given client parts rest

ending_by : (step : Step) (after before : Client) → Rests after → Rests before → Rests (after_end step after before)
ending_by Wait after before rest same = same
ending_by MakeLink after before rest same = same
ending_by AskFeatures after before rest same = same
ending_by (OpenChannel psm) after before rest same = same
ending_by (SendSdu psm payload) after before rest same = same
ending_by (CloseChannel psm) after before rest same = same
ending_by BreakLink after before rest same = same
ending_by (Ended outcome) after before rest same = rest
ending_by NoMemory after before rest same = same

pub ending : (client : Client) → Rests client → Rests (ended client)
ending client rest = ending_by (steps client []).step (steps client []).client client (stepping client [] rest) rest

-- ---- its profile

abbrev pub IsResting : ClientProfile → Type 0
IsResting pushing = Rests pushing.client

opening_by : (mtu : Option ℕ) (psm : ℕ) (client : Client) → Rests client → Rests (opened_by mtu psm client)
opening_by None psm client rest = rest
opening_by (Some mtu) psm client rest = hears (events.ChannelOpen psm mtu) client rest

closing_by : (cause : Option CloseCause) (psm : ℕ) (client : Client) → Rests client → Rests (closed_by cause psm client)
closing_by None psm client rest = rest
closing_by (Some cause) psm client rest = hears (events.ChannelClosed psm cause) client rest

happening : (event : ChannelEvent) (channels : Channels) (client : Client) → Rests client → Rests (event_heard event channels client)
happening (Opened own psm) channels client rest = opening_by (peer_mtu own channels) psm client rest
happening (Closed own psm reason) channels client rest = closing_by (cause_of reason) psm client rest
happening (Features features) channels client rest = hears events.FeaturesTold client rest
happening FeaturesLost channels client rest = hears events.FeaturesLost client rest
happening (DisconnectLost own) channels client rest = rest

sending_by : (test : Bool) (pushing : ClientProfile) → IsResting pushing → IsResting (if test then pushing else done (record pushing { submitted = None }))
sending_by true pushing rest = rest
sending_by false pushing rest = rest

sending : (submitted : Option ℕ) (channels : Channels) (pushing : ClientProfile) → IsResting pushing → IsResting (sent_on submitted channels pushing)
sending None channels pushing rest = rest
sending (Some own) channels pushing rest = sending_by (waits own channels) pushing rest

submitting_by : (test : Bool) (own : ℕ) (on : Channels) (channels : Channels) (pushing : ClientProfile) → IsResting pushing
    → IsResting (if test then waiting on (record pushing { submitted = Some own }) else waiting channels pushing).profile
submitting_by true own on channels pushing rest = rest
submitting_by false own on channels pushing rest = rest

submitting : (own : Option ℕ) (payload : Payload) (channels : Channels) (pushing : ClientProfile) → IsResting pushing → IsResting (submits own payload channels pushing).profile
submitting None payload channels pushing rest = rest
submitting (Some own) payload channels pushing rest = submitting_by (takes_sdu own (sdu_of payload) channels) own (sends own (sdu_of payload) channels) channels pushing rest

taking : (step : Step) (channels : Channels) (after before : ClientProfile) → IsResting after → IsResting before → IsResting (takes step channels after before).profile
taking Wait channels after before rest same = rest
taking MakeLink channels after before rest same = same
taking AskFeatures channels after before rest same = rest
taking (OpenChannel psm) channels after before rest same = rest
taking (SendSdu psm payload) channels after before rest same = submitting (endpoint_of psm after.endpoints) payload channels after rest
taking (CloseChannel psm) channels after before rest same = rest
taking BreakLink channels after before rest same = rest
taking (Ended outcome) channels after before rest same = rest
taking NoMemory channels after before rest same = rest

striding : (channels : Channels) (pushing : ClientProfile) → IsResting pushing → IsResting (next_stride channels pushing).profile
striding channels pushing rest =
    let one = steps pushing.client (fitted pushing) in
    taking one.step channels (record pushing { client = one.client; parts = unused one.left pushing.parts }) pushing (stepping pushing.client (fitted pushing) rest) rest

pub keeps_rest : (settings : Settings) → Keeps (client_profile settings) IsResting
keeps_rest settings = record {
  given = λ circumstances pushing rest. rest;
  received = λ own psm sdu pushing rest. hears (events.Sdu psm sdu) pushing.client rest;
  happened = λ event channels pushing rest. happening event channels pushing.client rest;
  sent = λ channels pushing rest. sending pushing.submitted channels pushing rest;
  steps = striding;
}

-- ---- what it is told

cancelling_by : (test : Bool) (ends client : Client) → test ≡ false → Rests client → Rests (if test then ends else client)
cancelling_by true ends client off rest = absurd (true≢false off)
cancelling_by false ends client off rest = rest

-- nothing is cancelled where no push goes on
cancelling : (client : Client) → Rests client → Rests (cancelled client)
cancelling client rest = cancelling_by (may_cancel client) (ends outcome.Cancelled client) client (rw rest refl) rest

pub told_rest : (settings : Settings) (news : News) → IsAside news → KeepsNews (client_profile settings) IsResting news
told_rest settings (Linked Up) aside circumstances pushing rest = hears events.LinkUp pushing.client rest
told_rest settings (Linked (Down reason)) aside circumstances pushing rest = ending (hears_news (events.LinkDown reason) pushing.client) (hears (events.LinkDown reason) pushing.client rest)
told_rest settings (Failed status) aside circumstances pushing rest = ending (hears_news (events.LinkFailed status) pushing.client) (hears (events.LinkFailed status) pushing.client rest)
told_rest settings (Heard pdu) aside circumstances pushing rest = rest
told_rest settings TimerFired aside circumstances pushing rest = hears events.Timer pushing.client rest
told_rest settings Cancelled aside circumstances pushing rest = ending (cancelled pushing.client) (cancelling pushing.client rest)
told_rest settings (Opening name) aside circumstances pushing rest = absurd aside
