-- What is so of a scenario that ran to its end, over its capture alone (this project's own).
use Rattle.std.specs.Prelude.{◌≡◌, List, ◌++◌, Option, Some}
use Rattle.radio_world.specs.bt_base.specs.declared.settings.Transport.TheVariants.{L2cap}
use Rattle.radio_world.specs.bt_base.specs.Objects.{Object}
use Rattle.radio_world.specs.push_script.specs.declared.scenario.Scenario.{Scenario}
use Rattle.radio_world.specs.push_terms.specs.declared.outcome.Outcome.{Outcome}
use Rattle.radio_world.specs.push_terms.specs.declared.word.Side.TheVariants.{A, B}
use Rattle.radio_world.specs.capture.specs.Air.{words_of}
use Rattle.radio_world.specs.capture.specs.Buffers.{KeepsWithin}
use Rattle.radio_world.specs.capture.specs.Entries.{Entry}
use Rattle.host_laws.specs.link_talk.specs.Captures.{objects_heard}
use Rattle.radio_world.specs.radio_model.specs.Air.{Obeys}
use Rattle.radio_world.specs.radio_model.specs.Course.{PushesInTurn}
use Rattle.radio_world.specs.radio_model.specs.Honest.{AreHonest}
use Rattle.host_laws.specs.push_laws.specs.Laws.{stored_in}
use Rattle.radio_world.specs.Standing.{last_ended, last_entries, all_outcomes}
use Rattle.host_laws.specs.Calls.{HostsAsk}
use Rattle.scenario_laws.specs.Accounts.{KeepsWindow}
use Rattle.scenario_laws.specs.Air.{hosts_of}
use Rattle.scenario_laws.specs.Captures.{Finished}
use Rattle.scenario_laws.specs.Gains.{holding}
use Rattle.scenario_laws.specs.Orderly.{ServesSo}
use Rattle.scenario_laws.specs.Outcomes.{outcomes_of}
use Rattle.scenario_laws.specs.Parties.{party_of}

-- What the capture says of it: what the inbox holds then, the buffers of both controllers at each moment, the windows of both hosts, that
-- controllers are honest, the pushes and how they ended, and that the air obeyed the script.
pub record Ends (scenario : Scenario) (before : List Object) (stored : Option (List Object)) (outcomes : List Outcome) (capture : List Entry) : Type 0 where
  pub gained : stored ≡ Some (before ++ objects_heard (party_of scenario.settings B) B capture)
  pub within_a : KeepsWithin A scenario.acl_count capture
  pub within_b : KeepsWithin B scenario.acl_count capture
  pub window_a : KeepsWindow scenario.settings A capture
  pub window_b : KeepsWindow scenario.settings B capture
  pub honest : AreHonest capture
  pub in_turn : PushesInTurn capture
  pub outcomes_are : outcomes ≡ outcomes_of scenario capture
  pub obeys : Obeys (hosts_of scenario.settings) scenario.acl_length (words_of scenario.script) capture

-- So it is of every scenario over L2CAP and every script, whatever shelf and inbox answered, where host b serves: no call of its inbox fails, no
-- request is ignored, and all that comes on its channels is handed up.
pub record ScenariosEnd : Type 0 where
  pub asks : HostsAsk
  pub ends : (scenario : Scenario) (before : List Object) (capture : List Entry) (finished : Finished scenario (holding before) capture) (came : Option Outcome) → finished.ran.ends ≡ last_entries came finished.ran.world.pushes
      → scenario.settings.transport ≡ L2cap → ServesSo asks scenario.settings before capture finished.ran.world.b.upper → Ends scenario before (stored_in finished.ran.world.b.upper.profile.inbox.content) (all_outcomes (last_ended came finished.ran.world.pushes)) capture
