-- A client asks for a link as a push begins, and not before.
use Rattle.std.proofs.Common.{◌≡◌, ℕ, Bool, true, false, Option, Some, None, refl, if◌then◌else◌}
use Rattle.rest_laws.specs.bt_base.specs.declared.settings.Settings.{Settings}
use Rattle.channel_model.specs.Value.{Channels}
use Rattle.channel_model.specs.Calls.{waits, sends}
use Rattle.push_model.specs.Payloads.{Payload}
use Rattle.push_model.specs.Steps.{Step, Wait, MakeLink, AskFeatures, OpenChannel, SendSdu, CloseChannel, BreakLink, Ended, NoMemory, steps}
use Rattle.rest_laws.specs.world_model.specs.Machines.{News, Linked, Up, Down, Failed, Heard, TimerFired, Cancelled, Opening}
use Rattle.rest_laws.specs.turn_laws.specs.Premises.{IsAside}
use Rattle.host_model.specs.Pdus.{sdu_of}
use Rattle.host_model.specs.Endpoints.{endpoint_of, takes_sdu}
use Rattle.host_model.specs.Clients.{ClientProfile, client_profile, sent_on, done, submits, takes, next_stride, waiting, is_paging, fitted}
use Rattle.host_model.specs.Shelves.{unused}
use Rattle.host_model.proofs.Keeping.{Keeps, KeepsNews}

abbrev pub PagesNot : ClientProfile → Type 0
PagesNot pushing = is_paging pushing.bid ≡ false

sending_by : (test : Bool) (pushing : ClientProfile) → PagesNot pushing → PagesNot (if test then pushing else done (record pushing { submitted = None }))
sending_by true pushing off = off
sending_by false pushing off = off

sending : (submitted : Option ℕ) (channels : Channels) (pushing : ClientProfile) → PagesNot pushing → PagesNot (sent_on submitted channels pushing)
sending None channels pushing off = off
sending (Some own) channels pushing off = sending_by (waits own channels) pushing off

submitting_by : (test : Bool) (own : ℕ) (on : Channels) (channels : Channels) (pushing : ClientProfile) → PagesNot pushing
    → PagesNot (if test then waiting on (record pushing { submitted = Some own }) else waiting channels pushing).profile
submitting_by true own on channels pushing off = off
submitting_by false own on channels pushing off = off

submitting : (own : Option ℕ) (payload : Payload) (channels : Channels) (pushing : ClientProfile) → PagesNot pushing → PagesNot (submits own payload channels pushing).profile
submitting None payload channels pushing off = off
submitting (Some own) payload channels pushing off = submitting_by (takes_sdu own (sdu_of payload) channels) own (sends own (sdu_of payload) channels) channels pushing off

taking : (step : Step) (channels : Channels) (after before : ClientProfile) → PagesNot after → PagesNot before → PagesNot (takes step channels after before).profile
taking Wait channels after before off same = off
taking MakeLink channels after before off same = same
taking AskFeatures channels after before off same = off
taking (OpenChannel psm) channels after before off same = off
taking (SendSdu psm payload) channels after before off same = submitting (endpoint_of psm after.endpoints) payload channels after off
taking (CloseChannel psm) channels after before off same = off
taking BreakLink channels after before off same = refl
taking (Ended outcome) channels after before off same = off
taking NoMemory channels after before off same = off

striding : (channels : Channels) (pushing : ClientProfile) → PagesNot pushing → PagesNot (next_stride channels pushing).profile
striding channels pushing off =
    let one = steps pushing.client (fitted pushing) in taking one.step channels (record pushing { client = one.client; parts = unused one.left pushing.parts }) pushing off off

pub keeps_unpaged : (settings : Settings) → Keeps (client_profile settings) PagesNot
keeps_unpaged settings = record {
  given = λ circumstances pushing off. off;
  received = λ own psm sdu pushing off. off;
  happened = λ event channels pushing off. off;
  sent = λ channels pushing off. sending pushing.submitted channels pushing off;
  steps = striding;
}

pub told_unpaged : (settings : Settings) (news : News) → IsAside news → KeepsNews (client_profile settings) PagesNot news
told_unpaged settings (Linked Up) aside circumstances pushing off = refl
told_unpaged settings (Linked (Down reason)) aside circumstances pushing off = refl
told_unpaged settings (Failed status) aside circumstances pushing off = refl
told_unpaged settings (Heard pdu) aside circumstances pushing off = off
told_unpaged settings TimerFired aside circumstances pushing off = off
told_unpaged settings Cancelled aside circumstances pushing off = off
told_unpaged settings (Opening name) aside circumstances pushing off = absurd aside
