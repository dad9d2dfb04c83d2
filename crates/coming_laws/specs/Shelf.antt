-- What the step shows for which a client is asked behind one thing that happens to its host: that its shelf fails, where the part of its object for the next PUT is
-- asked for (Object Push Profile 1.2, 4.3).
use Rattle.std.specs.Prelude.{ℕ, zero, suc, nat_le, List, Option, None, is_some, if◌then◌else◌}
use Rattle.outcome_laws.specs.cause_laws.specs.bt_base.specs.declared.settings.Settings.{Settings}
use Rattle.outcome_laws.specs.cause_laws.specs.push_terms.specs.declared.outcome.Outcome.{Outcome}
use Rattle.outcome_laws.specs.unit_laws.specs.scenario_laws.specs.host_link.specs.Hearing.{PlainNews, Nothing, LinkUp, LinkFailed, LinkDown, Pdu, news_of}
use Rattle.outcome_laws.specs.cause_laws.specs.channel_model.specs.Giving.{next_given, after_given}
use Rattle.outcome_laws.specs.cause_laws.specs.push_model.specs.Shown.{steps_show}
use Rattle.outcome_laws.specs.cause_laws.specs.world_model.specs.Machines.{News, Linked, Up, Down, Failed, Heard}
use Rattle.outcome_laws.specs.cause_laws.specs.host_model.specs.Circumstances.{Circumstance}
use Rattle.outcome_laws.specs.cause_laws.specs.host_model.specs.Clients.{ClientProfile, client_profile, sent, fitted}
use Rattle.outcome_laws.specs.cause_laws.specs.host_model.specs.Hosts.{Host, half_said, hears_news, ready, with_channels}
use Rattle.outcome_laws.specs.unit_laws.specs.Units.{Lined, Occasion, Comes, Learns, Says}

-- A client is asked for a step where its channels have no PDU to give, once an SDU that waits no longer is sent.
abbrev pub asked_shows : Host ClientProfile → Option Outcome
asked_shows host = if is_some (next_given host.channels) then None else (let pushing = sent host.channels host.profile in steps_show pushing.client (fitted pushing))

-- behind what it is told, with what its shelf answers from then on
abbrev pub news_asked : Settings → List Circumstance → News → Host ClientProfile → Option Outcome
news_asked settings gifts news host = asked_shows (hears_news (client_profile settings) gifts news (ready (client_profile settings) gifts host))

abbrev pub plain_asked : Settings → List Circumstance → PlainNews → Host ClientProfile → Option Outcome
plain_asked settings gifts Nothing host = None
plain_asked settings gifts LinkUp host = news_asked settings gifts (Linked Up) host
plain_asked settings gifts (LinkFailed status) host = news_asked settings gifts (Failed status) host
plain_asked settings gifts (LinkDown reason) host = news_asked settings gifts (Linked (Down reason)) host
plain_asked settings gifts (Pdu channel octets) host = news_asked settings gifts (Heard octets) host

-- and behind a PDU that it says, in the first half of those that it may say
abbrev pub says_asked : (may_say : ℕ) → Host ClientProfile → Option Outcome
says_asked zero host = None
says_asked (suc count) host = if nat_le half_said count then asked_shows host else None

abbrev pub shelf_shows : Settings → Occasion Circumstance → Lined (Host ClientProfile) → Option Outcome
shelf_shows settings (Comes gifts unit) now = plain_asked settings gifts (news_of unit now.line) now.upper
shelf_shows settings (Learns gifts news) now = news_asked settings gifts news now.upper
shelf_shows settings (Says pdu) now = says_asked now.upper.may_say (with_channels (after_given now.upper.channels) now.upper)
shelf_shows settings one now = None
