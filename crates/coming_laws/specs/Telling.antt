-- What a host tells its client with one thing that happens to it, in this order, and what that shows (Core 5.1, Volume 3 Part A, 3.1, 4, 6.2.1 and 7; IrOBEX 1.5,
-- 3.2 and 3.4).
use Rattle.std.specs.Prelude.{false, List, [], ◌∷◌, ◌++◌, Option, None}
use Rattle.outcome_laws.specs.cause_laws.specs.bt_base.specs.declared.settings.Settings.{Settings}
use Rattle.outcome_laws.specs.cause_laws.specs.push_terms.specs.declared.outcome.Outcome.{Outcome}
use Rattle.outcome_laws.specs.unit_laws.specs.scenario_laws.specs.acl_fragments.specs.Pieces.{channel_of}
use Rattle.outcome_laws.specs.unit_laws.specs.scenario_laws.specs.host_link.specs.Hearing.{PlainNews, Nothing, LinkUp, LinkFailed, LinkDown, Pdu, news_of}
use Rattle.outcome_laws.specs.cause_laws.specs.channel_model.specs.declared.event.ChannelEvent.{ChannelEvent}
use Rattle.outcome_laws.specs.cause_laws.specs.channel_model.specs.Carrying.{Up as Handed, Nothing as NoSdu, Received}
use Rattle.outcome_laws.specs.cause_laws.specs.channel_model.specs.Hearing.{hears, up}
use Rattle.outcome_laws.specs.cause_laws.specs.channel_model.specs.Policies.{policy}
use Rattle.outcome_laws.specs.cause_laws.specs.channel_model.specs.Timing.{timed_out}
use Rattle.outcome_laws.specs.cause_laws.specs.channel_model.specs.Value.{Channels}
use Rattle.outcome_laws.specs.cause_laws.specs.push_model.specs.Events as events
use Rattle.outcome_laws.specs.cause_laws.specs.push_model.specs.Laws.{Hears, Cancels}
use Rattle.outcome_laws.specs.cause_laws.specs.world_model.specs.Machines.{News, Linked, Up, Down, Failed, Heard, TimerFired, Cancelled, Opening}
use Rattle.outcome_laws.specs.cause_laws.specs.host_model.specs.Circumstances.{Circumstance}
use Rattle.outcome_laws.specs.cause_laws.specs.host_model.specs.Clients.{ClientProfile}
use Rattle.outcome_laws.specs.cause_laws.specs.host_model.specs.Hosts.{Host}
use Rattle.outcome_laws.specs.cause_laws.specs.host_laws.specs.Pushing.{Affair, Does, event_pushed}
use Rattle.outcome_laws.specs.unit_laws.specs.Units.{Lined, Occasion, Comes, Learns}
use Rattle.outcome_laws.specs.FirstCause.{first_cause}

-- ---- of its channels

-- the SDU that they hand up
abbrev pub sdu_tells : Handed → List Affair
sdu_tells NoSdu = []
sdu_tells (Received own psm sdu) = Does (Hears (events.Sdu psm sdu)) ∷ []

-- and what became of them, each thing as it is taken from them
abbrev pub events_tell : List ChannelEvent → Channels → List Affair
events_tell [] v = []
events_tell (event ∷ rest) v = event_pushed event (record v { events = rest }) ++ events_tell rest (record v { events = rest })

abbrev pub channels_tell : Channels → List Affair
channels_tell v = events_tell v.events v

-- ---- of anything

-- Of a link it tells that it came up, failed or went down; with a PDU what its channels hand up, and then what becomes of them; where its timer fires what
-- becomes of them, and then that; and that its push is given up. What a begin shows, the begin itself says.
abbrev pub news_tells : Settings → Channels → News → List Affair
news_tells settings v (Linked Up) = Does (Hears events.LinkUp) ∷ []
news_tells settings v (Linked (Down reason)) = Does (Hears (events.LinkDown reason)) ∷ []
news_tells settings v (Failed status) = Does (Hears (events.LinkFailed status)) ∷ []
news_tells settings v (Heard pdu) = sdu_tells (up (channel_of pdu) pdu v) ++ channels_tell (hears (policy settings false) (channel_of pdu) pdu v)
news_tells settings v TimerFired = channels_tell (timed_out (policy settings false) v) ++ Does (Hears events.Timer) ∷ []
news_tells settings v Cancelled = Does Cancels ∷ []
news_tells settings v (Opening name) = []

abbrev pub plain_tells : Settings → Channels → PlainNews → List Affair
plain_tells settings v Nothing = []
plain_tells settings v LinkUp = news_tells settings v (Linked Up)
plain_tells settings v (LinkFailed status) = news_tells settings v (Failed status)
plain_tells settings v (LinkDown reason) = news_tells settings v (Linked (Down reason))
plain_tells settings v (Pdu channel octets) = news_tells settings v (Heard octets)

abbrev pub tells_client : Settings → Occasion Circumstance → Lined (Host ClientProfile) → List Affair
tells_client settings (Comes gifts unit) now = plain_tells settings now.upper.channels (news_of unit now.line)
tells_client settings (Learns gifts news) now = news_tells settings now.upper.channels news
tells_client settings one now = []

-- what the first of it shows that shows an outcome of the client's push
abbrev pub shown_with : Settings → Occasion Circumstance → Lined (Host ClientProfile) → Option Outcome
shown_with settings one now = first_cause (tells_client settings one now) now.upper.profile.client None
