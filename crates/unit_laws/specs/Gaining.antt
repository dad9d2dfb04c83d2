-- What a client comes to, read off its own units (Object Push Profile 1.2, 4.3).
use Rattle.std.specs.Prelude.{◌≡◌, List}
use Rattle.std.specs.List.{flat_map}
use Rattle.scenario_laws.specs.bt_base.specs.declared.settings.Settings.{Settings}
use Rattle.scenario_laws.specs.push_terms.specs.declared.word.Side.TheVariants as sides
use Rattle.scenario_laws.specs.host_link.specs.declared.role.Role.TheVariants.{Client}
use Rattle.scenario_laws.specs.host_model.specs.Circumstances.{Circumstance}
use Rattle.scenario_laws.specs.host_model.specs.Hosts.{Host}
use Rattle.scenario_laws.specs.host_model.specs.Clients.{ClientProfile, client_profile}
use Rattle.scenario_laws.specs.push_model.specs.Client.{new_client}
use Rattle.scenario_laws.specs.host_laws.specs.Calls.{HostsAsk}
use Rattle.scenario_laws.specs.host_laws.specs.OverLinks.{talk_marks}
use Rattle.scenario_laws.specs.host_laws.specs.Pushing.{client_behind, pushed}
use Rattle.unit_laws.specs.Units.{Lined, Occasion, units, lone_capture}
use Rattle.unit_laws.specs.Living.{Did, HaveCommands, LivesBy}

-- A client is what it is of what happened to it on the links that its units have: of the pushes that began, of what it was told and of what it
-- sent there. So its outcome is.
abbrev pub ClientsCome : Type 0
ClientsCome = (asks : HostsAsk) (settings : Settings) (occasions : List (Occasion Circumstance)) (now : Lined (Host ClientProfile)) → Did (client_profile settings) Client occasions now → HaveCommands sides.A (lone_capture sides.A (units occasions))
    → (lives : LivesBy (client_profile settings) (asks.clients settings) sides.A (lone_capture sides.A (units occasions)) now.upper)
    → now.upper.profile.client ≡ client_behind (pushed settings (asks.clients settings) (flat_map talk_marks lives.came.talk) now.upper lives.so.lives) (new_client settings)
