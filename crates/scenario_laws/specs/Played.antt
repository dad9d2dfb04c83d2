-- A world in code that plays a scenario: what it does is a run of both hosts of the scenario (this project's own).
use Rattle.std.specs.Prelude.{◌≡◌, List, ◌++◌, Option}
use Rattle.radio_world.specs.bt_base.specs.Objects.{Contents}
use Rattle.radio_world.specs.push_script.specs.declared.scenario.Scenario.{Scenario}
use Rattle.radio_world.specs.push_terms.specs.declared.outcome.Outcome.{Outcome}
use Rattle.radio_world.specs.capture.specs.Air.{words_of}
use Rattle.host_laws.specs.world_model.specs.Machines.{Upper}
use Rattle.host_laws.specs.world_model.specs.Worlds.{Happening, all_entries, all_words}
use Rattle.host_laws.specs.rest_laws.specs.Premises.{AreOrderly}
use Rattle.radio_world.specs.run_laws.specs.Embedding.{Embeds, world_as}
use Rattle.radio_world.specs.Hosts.{Asking, answering}
use Rattle.radio_world.specs.Scenes.{Scene, Moment, moment, world_at, Plays}
use Rattle.radio_world.specs.Standing.{starting, first_moment, Stands, last_entries}
use Rattle.host_laws.specs.host_model.specs.Circumstances.{Circumstance}
use Rattle.host_laws.specs.host_model.specs.Hosts.{Host}
use Rattle.host_laws.specs.host_model.specs.Settings.{set_to, client_machine, server_machine}
use Rattle.host_laws.specs.host_model.specs.Clients.{ClientProfile}
use Rattle.host_laws.specs.host_model.specs.Servers.{ServerProfile}
use Rattle.scenario_laws.specs.Captures.{client_of, server_of, BothHosts, Happened, Finished}

-- the two machines of a world in code are those of both hosts, beside what they keep and never change, as their settings
pub record AreHostsOf {S T : Type 0} (scenario : Scenario) (content : Option Contents) (U : Upper S Circumstance) (V : Upper T Circumstance) (as_a : Host ClientProfile → S) (as_b : Host ServerProfile → T) : Type 0 where
  pub a : Embeds as_a (client_of scenario) U
  pub b : Embeds as_b (server_of scenario content) V
  pub orderly : AreOrderly U V

-- before anything happened to them
abbrev pub fresh_moment : {S T : Type 0} → (scenario : Scenario) (content : Option Contents) (U : Upper S Circumstance) (V : Upper T Circumstance) (as_a : Host ClientProfile → S) (as_b : Host ServerProfile → T) → Moment S T
fresh_moment scenario content U V as_a as_b =
    first_moment (starting (as_a (client_of scenario).first) U) (starting (as_b (server_of scenario content).first) V) scenario.acl_length scenario.acl_count scenario.names

-- what happened to a world in code is a run of the scenario, whose world it is
pub record IsPlayed {S T : Type 0} (scenario : Scenario) (content : Option Contents) (as_a : Host ClientProfile → S) (as_b : Host ServerProfile → T) (happenings : List Happening) (at : Moment S T) : Type 0 where
  pub world : BothHosts
  pub happened : Happened scenario content happenings world
  pub world_is : world_at at ≡ world_as as_a as_b world

-- So it is of what a world in code says of its calls, whatever its ports answered.
abbrev pub CallsArePlayed : {S T : Type 0} → (U : Upper S Circumstance) (V : Upper T Circumstance) → Type 0
CallsArePlayed {S} {T} U V =
    (scenario : Scenario) (content : Option Contents) (as_a : Host ClientProfile → S) (as_b : Host ServerProfile → T) (happenings : List Happening) (at : Moment S T) → AreHostsOf scenario content U V as_a as_b
    → Plays U V happenings (fresh_moment scenario content U V as_a as_b) at → IsPlayed scenario content as_a as_b happenings at

-- The scenario ran to its end in that world, with the end of the push that goes on behind all that happened.
pub record FinishedSo {S T : Type 0} (scenario : Scenario) (content : Option Contents) (as_a : Host ClientProfile → S) (as_b : Host ServerProfile → T) (happenings : List Happening) (came : Option Outcome) (scene : Scene) (world : BothHosts) : Type 0 where
  pub finished : Finished scenario content (all_entries happenings ++ last_entries came scene.pushes)
  pub world_is : finished.ran.world ≡ world

-- So it is where a world in code stands and all words of the script were turned, and then its end is written.
abbrev pub PlaysAreFinished : {S T : Type 0} → (U : Upper S Circumstance) (V : Upper T Circumstance) → Type 0
PlaysAreFinished {S} {T} U V =
    (scenario : Scenario) (content : Option Contents) (as_a : Host ClientProfile → S) (as_b : Host ServerProfile → T) (happenings : List Happening) (came : Option Outcome) (scene : Scene) (a : Asking S Circumstance) (b : Asking T Circumstance)
    (rest_a rest_b : List Circumstance) → AreHostsOf scenario content U V as_a as_b → Stands U V scene a b → all_words happenings ≡ words_of scenario.script
    → (played : IsPlayed scenario content as_a as_b happenings (moment scene (answering rest_a a) (answering rest_b b))) → FinishedSo scenario content as_a as_b happenings came scene played.world

-- The machines of both hosts in code, beside their settings, are hosts of every scenario with these settings, whatever the inbox holds at first.
abbrev pub SetHostsAreHosts : Type 0
SetHostsAreHosts = (scenario : Scenario) (content : Option Contents) → AreHostsOf scenario content client_machine server_machine (set_to scenario.settings) (set_to scenario.settings)
