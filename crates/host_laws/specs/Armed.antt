-- What the timer of a host finds, as its own talk is read (Core 5.1, Volume 3 Part A, 4.1, 6.2 and 8.6; Part B, 4.2).
use Rattle.std.specs.Prelude.{◌≡◌, true, false, List, Option}
use Rattle.std.specs.List.{AllByRecursion}
use Rattle.shelf_model.specs.bt_base.specs.declared.settings.Settings.{Settings}
use Rattle.shelf_model.specs.bt_base.specs.Objects.{Contents}
use Rattle.push_laws.specs.link_talk.specs.declared.party.Party.{Party}
use Rattle.push_laws.specs.link_talk.specs.Waits.{waits}
use Rattle.channel_laws.specs.channel_model.specs.Calls.{armed}
use Rattle.channel_laws.specs.channel_model.specs.Policies.{policy}
use Rattle.channel_laws.specs.Armed.{services_wait}
use Rattle.channel_laws.specs.Frames.{AreUttered}
use Rattle.channel_laws.specs.Runs.{Occurrence, run_of}
use Rattle.channel_laws.specs.Sdus.{StatesFrame}
use Rattle.channel_laws.specs.Services.{AsksNoServices}
use Rattle.shelf_model.specs.host_model.specs.Profiles.{Profile}
use Rattle.shelf_model.specs.host_model.specs.Hosts.{Host}
use Rattle.shelf_model.specs.host_model.specs.Machines.{upper, server_host}
use Rattle.shelf_model.specs.host_model.specs.Servers.{ServerProfile, server_profile}
use Rattle.host_laws.specs.Calls.{Asks}
use Rattle.host_laws.specs.Lives.{Mark, Lives}

-- Where its channels wait for nothing, its profile waits exactly where its own talk says that a request for services waits. Where they do,
-- as on a channel on its way out, a push may have ended whose request for services has no reply.
abbrev pub AwaitsServices : {P : Type 0} → Profile P → Party → Host P → List Occurrence → Type 0
AwaitsServices A party host list = armed host.channels ≡ false → A.armed host.profile ≡ services_wait party (run_of A.policy list).said

-- Then the timer of a host is armed exactly where its own talk says that something waits: its channels know of all but services.
abbrev pub ArmedIsRead : {P : Type 0} → Profile P → Type 0
ArmedIsRead {P} A =
    (party : Party) (asks : Asks A) (marks : List Mark) (host : Host P) (lives : Lives A asks marks host) → StatesFrame A.policy party → AreUttered A.policy lives.now → AwaitsServices A party host lives.now
    → (upper A).armed host ≡ waits party (run_of A.policy lives.now).said

-- A server waits for no services: where no SDU that it had for a channel on the link is a request for them, its timer is armed exactly
-- where its own talk says that something waits.
abbrev pub ServersAreArmed : Type 0
ServersAreArmed = (settings : Settings) (content : Option Contents) (party : Party) (asks : Asks (server_profile settings content)) (marks : List Mark) (host : Host ServerProfile)
    (lives : Lives (server_profile settings content) asks marks host) → StatesFrame (policy settings true) party → AreUttered (policy settings true) lives.now → AllByRecursion AsksNoServices lives.now
    → (server_host settings content).armed host ≡ waits party (run_of (policy settings true) lives.now).said
