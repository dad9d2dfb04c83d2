-- The greatest numbers that both hosts of a scenario held (this project's own).
use Rattle.std.specs.Prelude.{◌≡◌, List, Option, min}
use Rattle.bt_base.specs.Objects.{Object, Contents}
use Rattle.push_script.specs.declared.scenario.Scenario.{Scenario}
use Rattle.push_terms.specs.declared.peaks.Peaks.{Peaks}
use Rattle.noting_laws.specs.world_model.specs.Worlds.{Happening, IsAtRest}
use Rattle.radio_world.specs.Leaving.{Medium}
use Rattle.radio_world.specs.Scenes.{Moment, world_at, Plays}
use Rattle.radio_world.specs.Standing.{starting, first_moment}
use Rattle.bt_host.specs.host_model.specs.Circumstances.{Circumstance}
use Rattle.bt_host.specs.host_model.specs.Servers.{ServerProfile}
use Rattle.bt_host.specs.host_model.specs.Settings.{SetHost}
use Rattle.bt_host.specs.Newness as served
use Rattle.bt_host.specs.Noting.{Noted}
use Rattle.bt_host.specs.NotedHosts.{client_noting, noted_client_machine, server_noting, noted_server_machine}
use Rattle.bt_host.specs.Playing.{set_host}
use Rattle.bt_host.specs.Pushing as pushed
use Rattle.bt_host.specs.Shelving.{Shelved}

-- new hosts of a scenario that note what they hold, and whose ports are to answer so
abbrev pub asked_client : Scenario → Option (List Object) → List Circumstance → SetHost (Noted Shelved)
asked_client scenario shelf answers = set_host (client_noting (λ (held : Option (List Object)). held)) shelf (pushed.new_stack scenario.settings) answers

abbrev pub asked_server : Scenario → Option Contents → List Circumstance → SetHost (Noted ServerProfile)
asked_server scenario content answers = set_host (server_noting (λ (held : Option Contents). held)) content (served.new_stack scenario.settings) answers

abbrev pub NotedMoment : Type 0
NotedMoment = Moment (SetHost (Noted Shelved)) (SetHost (Noted ServerProfile))

-- what lies between the hosts noted how many packets were outstanding, up to 65,535, and each host its window and its credits
pub record AreNoted (medium : Medium) (last : NotedMoment) (peaks : Peaks) : Type 0 where
  pub buffers : (peaks.buffers_a ≡ min medium.peak_a 65535) × (peaks.buffers_b ≡ min medium.peak_b 65535)
  pub windows : (peaks.window_a ≡ last.a.upper.host.profile.window) × (peaks.window_b ≡ last.b.upper.host.profile.window)
  pub credits : (peaks.credits_a ≡ last.a.upper.host.profile.credits) × (peaks.credits_b ≡ last.b.upper.host.profile.credits)

-- All this happened to new hosts that note what they hold and whose ports were to answer so, up to where all is at rest; and these are the
-- numbers that were noted by then.
pub record AreReached (scenario : Scenario) (content : Option Contents) (happenings : List Happening) (peaks : Peaks) : Type 0 where
  pub shelf : Option (List Object)
  pub for_a : List Circumstance
  pub for_b : List Circumstance
  pub last : NotedMoment
  pub plays : Plays noted_client_machine noted_server_machine happenings
      (first_moment (starting (asked_client scenario shelf for_a) noted_client_machine) (starting (asked_server scenario content for_b) noted_server_machine) scenario.acl_length scenario.acl_count scenario.names) last
  pub rests : IsAtRest noted_client_machine noted_server_machine (world_at last)
  pub noted : AreNoted last.scene.medium last peaks
