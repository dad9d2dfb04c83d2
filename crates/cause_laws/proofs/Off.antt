-- Where no push goes on over its link a client stays so, until it hears that a link is up.
use Rattle.std.proofs.Common.{◌≡◌, ℕ, Bool, true, false, List, [], ◌∷◌, Option, Some, None, if◌then◌else◌}
use Rattle.scenario_laws.specs.bt_base.specs.declared.settings.Settings.{Settings}
use Rattle.scenario_laws.specs.channel_model.specs.declared.event.ChannelEvent.{ChannelEvent}
use Rattle.scenario_laws.specs.channel_model.specs.Calls.{waits, sends}
use Rattle.scenario_laws.specs.channel_model.specs.Hearing.{up}
use Rattle.scenario_laws.specs.channel_model.specs.Carrying.{Up as Handed, Nothing, Received}
use Rattle.scenario_laws.specs.channel_model.specs.Value.{Channels}
use Rattle.scenario_laws.specs.acl_fragments.specs.Pieces.{channel_of}
use Rattle.scenario_laws.specs.push_model.specs.Client.{Client, begins, cancelled}
use Rattle.scenario_laws.specs.push_model.specs.Events as events
use Rattle.scenario_laws.specs.push_model.specs.Events.{hears_news}
use Rattle.scenario_laws.specs.push_model.specs.Steps.{Step, Wait, MakeLink, AskFeatures, OpenChannel, SendSdu, CloseChannel, BreakLink, Ended, NoMemory, steps}
use Rattle.scenario_laws.specs.push_model.specs.Payloads.{Payload}
use Rattle.scenario_laws.specs.world_model.specs.Machines.{News, Linked, Failed, Heard, TimerFired, Cancelled, Opening}
use Rattle.scenario_laws.specs.host_model.specs.Circumstances.{Circumstance}
use Rattle.scenario_laws.specs.host_model.specs.Clients.{ClientProfile, NoBid, client_profile, after_end, ended, after_call, calls, done, sent_on, submits, takes, fitted}
use Rattle.scenario_laws.specs.host_model.specs.Clients as clients
use Rattle.scenario_laws.specs.host_model.specs.Endpoints.{endpoint_of, takes_sdu}
use Rattle.scenario_laws.specs.host_model.specs.Pdus.{sdu_of}
use Rattle.scenario_laws.specs.host_model.specs.Hosts.{handed}
use Rattle.scenario_laws.specs.host_model.specs.Shelves.{size_for, name_for, unused}
use Rattle.scenario_laws.specs.host_laws.specs.Feeds.{tidings_by}
use Rattle.scenario_laws.specs.host_laws.specs.Leaving.{is_off}
use Rattle.scenario_laws.specs.host_laws.specs.Woven.{Strand, Hearing, Giving, Firing, Telling, Gifting, Learning, Checking, Stepping, IsOnLink, told_next, strand_profile}
use Rattle.scenario_laws.specs.host_laws.proofs.Courses.{steps_off}
use Rattle.scenario_laws.specs.host_laws.proofs.Faces.{heard_off, timer_off, cancelled_off, failed_off, begins_off}
use Rattle.scenario_laws.specs.host_laws.proofs.StandingClients.{event_off}

abbrev pub IsOff : ClientProfile → Type 0
IsOff p = is_off p.client.stage ≡ true

-- ---- news

end_off : (step : Step) (after before : Client) → is_off before.stage ≡ true → is_off after.stage ≡ true → is_off (after_end step after before).stage ≡ true
end_off (Ended outcome) after before off now = now
end_off Wait after before off now = off
end_off MakeLink after before off now = off
end_off AskFeatures after before off now = off
end_off (OpenChannel psm) after before off now = off
end_off (SendSdu psm payload) after before off now = off
end_off (CloseChannel psm) after before off now = off
end_off BreakLink after before off now = off
end_off NoMemory after before off now = off

pub ended_off : (c : Client) → is_off c.stage ≡ true → is_off (ended c).stage ≡ true
ended_off c off = let one = steps c [] in end_off one.step one.client c off (steps_off c [] off)

call_off : (step : Step) (after : Client) (p : ClientProfile) → is_off after.stage ≡ true → IsOff p → IsOff (after_call step after p)
call_off MakeLink after p off was = off
call_off Wait after p off was = was
call_off AskFeatures after p off was = was
call_off (OpenChannel psm) after p off was = was
call_off (SendSdu psm payload) after p off was = was
call_off (CloseChannel psm) after p off was = was
call_off BreakLink after p off was = was
call_off (Ended outcome) after p off was = was
call_off NoMemory after p off was = was

calls_off : (p : ClientProfile) → IsOff p → IsOff (calls p)
calls_off p off = let one = steps p.client [] in call_off one.step one.client p (steps_off p.client [] off) off

told_off : (circumstances : List Circumstance) (news : News) (p : ClientProfile) → tidings_by news ≡ [] → IsOff p → IsOff (clients.told circumstances news p)
told_off circumstances (Linked event) p none off = cc
told_off circumstances (Failed status) p none off = ended_off (hears_news (events.LinkFailed status) p.client) (failed_off status p.client off)
told_off circumstances (Heard pdu) p none off = off
told_off circumstances TimerFired p none off = timer_off p.client off
told_off circumstances Cancelled p none off = ended_off (cancelled p.client) (cancelled_off p.client off)
told_off circumstances (Opening name) p none off =
    let begun = begins (size_for circumstances name) (name_for name) p.client in
    calls_off (record p { client = ended begun; submitted = None; bid = NoBid }) (ended_off begun (begins_off (size_for circumstances name) (name_for name) p.client off))

-- ---- its steps

submits_off : (found : Option ℕ) (payload : Payload) (v : Channels) (p : ClientProfile) → IsOff p → IsOff (submits found payload v p).profile
submits_off None payload v p off = off
submits_off (Some own) payload v p off = by (takes_sdu own (sdu_of payload) v)
  where
    by : (taken : Bool) → IsOff (if taken then clients.waiting (sends own (sdu_of payload) v) (record p { submitted = Some own }) else clients.waiting v p).profile
    by true = off
    by false = off

takes_off : (step : Step) (v : Channels) (after before : ClientProfile) → IsOff after → IsOff before → IsOff (takes step v after before).profile
takes_off Wait v after before off was = off
takes_off MakeLink v after before off was = was
takes_off AskFeatures v after before off was = off
takes_off (OpenChannel psm) v after before off was = off
takes_off (SendSdu psm payload) v after before off was = submits_off (endpoint_of psm after.endpoints) payload v after off
takes_off (CloseChannel psm) v after before off was = off
takes_off BreakLink v after before off was = off
takes_off (Ended outcome) v after before off was = off
takes_off NoMemory v after before off was = off

sent_off : (submitted : Option ℕ) (v : Channels) (p : ClientProfile) → IsOff p → IsOff (sent_on submitted v p)
sent_off None v p off = off
sent_off (Some own) v p off = by (waits own v)
  where
    by : (waiting : Bool) → IsOff (if waiting then p else done (record p { submitted = None }))
    by true = off
    by false = off

next_off : (events : List ChannelEvent) (v : Channels) (p : ClientProfile) (settings : Settings) → IsOff p → IsOff (told_next (client_profile settings) events v p)
next_off [] v p settings off = off
next_off (event ∷ events) v p settings off = event_off event (record v { events = events }) p.client off

handed_off : (brought : Handed) (p : ClientProfile) (settings : Settings) → IsOff p → IsOff (handed (client_profile settings) brought p)
handed_off Nothing p settings off = off
handed_off (Received own psm sdu) p settings off = heard_off psm sdu p.client off

-- ---- a strand

pub strand_off : (settings : Settings) (strand : Strand) (v : Channels) (p : ClientProfile) → IsOnLink strand → IsOff p → IsOff (strand_profile (client_profile settings) strand v p)
strand_off settings (Hearing pdu) v p on off = handed_off (up (channel_of pdu) pdu v) p settings off
strand_off settings (Giving pdu) v p on off = off
strand_off settings Firing v p on off = off
strand_off settings Telling v p on off = next_off v.events v p settings off
strand_off settings (Gifting circumstances) v p on off = off
strand_off settings (Learning circumstances news) v p on off = told_off circumstances news p on off
strand_off settings Checking v p on off = sent_off p.submitted v p off
strand_off settings Stepping v p on off =
    let one = steps p.client (fitted p) in
    takes_off one.step v (record p { client = one.client; parts = unused one.left p.parts }) p (steps_off p.client (fitted p) off) off
