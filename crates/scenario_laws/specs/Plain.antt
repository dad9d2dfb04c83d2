-- What is asked of a host in a run, so that what moved on its link is all that it said and heard there. Each of these is a premise of laws
-- on talk; that hosts are so is no matter of the laws here (this project's own).
use Rattle.std.specs.Prelude.{ℕ, ◌≡◌, List, Option, Some, None}
use Rattle.radio_world.specs.bt_base.specs.Objects.{Contents}
use Rattle.radio_world.specs.push_script.specs.declared.scenario.Scenario.{Scenario}
use Rattle.radio_world.specs.push_terms.specs.declared.word.Side.TheVariants as sides
use Rattle.radio_world.specs.capture.specs.Links.{Link, link_up}
use Rattle.radio_world.specs.capture.specs.Pdus.{Pdu, pdus}
use Rattle.host_laws.specs.link_talk.specs.declared.party.Party.{Party}
use Rattle.host_laws.specs.link_talk.specs.Sayings.{Saying}
use Rattle.host_laws.specs.link_talk.specs.Waits.{waits, has_check_word}
use Rattle.host_laws.specs.channel_laws.specs.Runs.{run_of}
use Rattle.host_laws.specs.world_model.specs.Worlds.{Happening, IsAtRest, all_entries}
use Rattle.host_laws.specs.turn_laws.specs.Laws.{IsFront}
use Rattle.host_laws.specs.host_model.specs.Hosts.{Host}
use Rattle.host_laws.specs.host_model.specs.Profiles.{Profile}
use Rattle.host_laws.specs.host_model.specs.Clients.{client_profile}
use Rattle.host_laws.specs.host_model.specs.Servers.{server_profile}
use Rattle.host_laws.specs.host_model.specs.Machines.{upper}
use Rattle.host_laws.specs.Armed.{AwaitsServices}
use Rattle.host_laws.specs.Calls.{Asks, HostsAsk}
use Rattle.host_laws.specs.Calm.{TalksSo}
use Rattle.host_laws.specs.Seen.{spoken_of}
use Rattle.scenario_laws.specs.Captures.{client_of, server_of, BothHosts, Happened}
use Rattle.scenario_laws.specs.Coming.{CameUp}
use Rattle.scenario_laws.specs.Gentle.{CameSo}
use Rattle.scenario_laws.specs.Parties.{party_of}

-- A host waits for its timer, and looks for check words, where this talk says so.
pub record TellsOf {P : Type 0} (A : Profile P) (party : Party) (said : List Saying) (host : Host P) : Type 0 where
  pub armed_is : (upper A).armed host ≡ waits party said
  pub checks_are : (own : ℕ) → (upper A).has_check host own ≡ has_check_word said own

-- It came by a talk to what moved on its link, and lived so through it that what its channels said and heard there is what moved, and it gave
-- up no request; and where its channels wait for nothing, its profile waits for services as its own talk says. A host that is gentle on its
-- link lives through such a talk.
pub record IsPlain {P : Type 0} (A : Profile P) (asks : Asks A) (party : Party) (moved : List Pdu) (now : Host P) : Type 0 where
  pub came : CameUp A moved now
  pub so : TalksSo A asks came.talk now came.on
  pub keeps_on : spoken_of (run_of A.policy so.lives.now).said ≡ (run_of A.policy so.lives.now).said
  pub awaits : AwaitsServices A party now so.lives.now

-- So it is on the link that a capture has up, if there is one.
abbrev pub IsPlainAt : {P : Type 0} (A : Profile P) → Asks A → Party → Option Link → Host P → Type 0
IsPlainAt A asks party None now = Unit {0}
IsPlainAt A asks party (Some link) now = IsPlain A asks party (pdus link) now

-- Both hosts are plain wherever a run is at rest on its way: words act there alone.
pub record ArePlain (asks : HostsAsk) (scenario : Scenario) (content : Option Contents) (happenings : List Happening) : Type 0 where
  pub a : (front : List Happening) (world : BothHosts) → IsFront front happenings → Happened scenario content front world → IsAtRest (client_of scenario) (server_of scenario content) world
      → IsPlainAt (client_profile scenario.settings) (asks.clients scenario.settings) (party_of scenario.settings sides.A) (link_up sides.A (all_entries front)) world.a.upper
  pub b : (front : List Happening) (world : BothHosts) → IsFront front happenings → Happened scenario content front world → IsAtRest (client_of scenario) (server_of scenario content) world
      → IsPlainAt (server_profile scenario.settings content) (asks.servers scenario.settings content) (party_of scenario.settings sides.B) (link_up sides.B (all_entries front)) world.b.upper

-- ---- where a run is free at rest

-- However a host came to what moved on its link and lived through it, it gave up no request, and its profile waits for services as its own
-- talk says.
abbrev pub KeepsOn : {P : Type 0} (A : Profile P) → Asks A → Party → Option Link → Host P → Type 0
KeepsOn A asks party None now = Unit {0}
KeepsOn A asks party (Some link) now =
    (came : CameSo A asks (pdus link) now) → (spoken_of (run_of A.policy came.so.lives.now).said ≡ (run_of A.policy came.so.lives.now).said) × AwaitsServices A party now came.so.lives.now

pub record RestsKeepOn (asks : HostsAsk) (scenario : Scenario) (content : Option Contents) (happenings : List Happening) : Type 0 where
  pub a : (front : List Happening) (world : BothHosts) → IsFront front happenings → Happened scenario content front world → IsAtRest (client_of scenario) (server_of scenario content) world
      → KeepsOn (client_profile scenario.settings) (asks.clients scenario.settings) (party_of scenario.settings sides.A) (link_up sides.A (all_entries front)) world.a.upper
  pub b : (front : List Happening) (world : BothHosts) → IsFront front happenings → Happened scenario content front world → IsAtRest (client_of scenario) (server_of scenario content) world
      → KeepsOn (server_profile scenario.settings content) (asks.servers scenario.settings content) (party_of scenario.settings sides.B) (link_up sides.B (all_entries front)) world.b.upper

-- Then both hosts are plain: all else is so of every run.
abbrev pub FreeHostsArePlain : Type 0
FreeHostsArePlain = (asks : HostsAsk) (scenario : Scenario) (content : Option Contents) (happenings : List Happening) → RestsKeepOn asks scenario content happenings → ArePlain asks scenario content happenings
