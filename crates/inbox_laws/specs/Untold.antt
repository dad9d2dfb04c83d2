-- That what an inbox answers decides what its host does, and not what it holds (this project's own).
use Rattle.std.specs.Prelude.{◌≡◌, List, Option, None}
use Rattle.pair_laws.specs.bt_base.specs.Objects.{Contents}
use Rattle.pair_laws.specs.push_script.specs.declared.scenario.Scenario.{Scenario}
use Rattle.pair_laws.specs.world_model.specs.Machines.{News}
use Rattle.pair_laws.specs.world_model.specs.Worlds.{Happening, Runs}
use Rattle.pair_laws.specs.alike_laws.specs.Twins.{WorldsAlike}
use Rattle.pair_laws.specs.host_model.specs.Circumstances.{Circumstance}
use Rattle.pair_laws.specs.host_model.specs.Clients.{ClientProfile}
use Rattle.pair_laws.specs.host_model.specs.Hosts.{Host}
use Rattle.pair_laws.specs.host_model.specs.Servers.{ServerProfile}
use Rattle.pair_laws.specs.scenario_laws.specs.Captures.{client_of, server_of, BothHosts, beginning}
use Rattle.pair_laws.specs.Granted.{answered_by}

-- a server whose inbox does not tell what it holds
abbrev pub untold : ServerProfile → ServerProfile
untold serving = record serving { inbox = record { content = None; answers = serving.inbox.answers } }

abbrev pub untold_host : Host ServerProfile → Host ServerProfile
untold_host host = record host { profile = untold host.profile }

-- both worlds are the same but for what their inboxes hold
abbrev pub HoldsElse : (world other : BothHosts) → Type 0
HoldsElse world other = WorldsAlike (λ (a a' : Host ClientProfile). a' ≡ a) (λ (b b' : Host ServerProfile). untold_host b' ≡ untold_host b) world other

-- What happens to both hosts where the inbox holds the one happens where it holds the other, or does not tell what it holds: if its answers are the same,
-- whatever these are in place of those that are given.
abbrev pub AnswersAloneDecide : Type 0
AnswersAloneDecide = (scenario : Scenario) (to_a to_b : News → List Circumstance → List Circumstance) (content other : Option Contents) (happenings : List Happening) (world : BothHosts)
    → Runs (answered_by to_a (client_of scenario)) (answered_by to_b (server_of scenario content)) happenings (beginning scenario content) world
    → (there : BothHosts) × HoldsElse world there × Runs (answered_by to_a (client_of scenario)) (answered_by to_b (server_of scenario other)) happenings (beginning scenario other) there
