-- That both hosts in code put out what they do in rounds, by their contracts (this project's own).
use Rattle.std.specs.Prelude.{ℕ, List, ◌++◌, Option, Some}
use Rattle.bt_host.specs.bt_base.specs.Objects.{Object, Contents}
use Rattle.bt_host.specs.bt_base.specs.declared.settings.Settings.{Settings}
use Rattle.bt_host.specs.shelf_model.specs.h4_framing.specs.Packets.{Packet}
use Rattle.bt_host.specs.host_model.specs.Circumstances.{Circumstance}
use Rattle.bt_host.specs.host_model.specs.Profiles.{Profile}
use Rattle.bt_host.specs.shelf_model.specs.world_model.specs.Machines.{News}
use Rattle.bt_host.specs.NotedHosts.{noted_client, noted_server, client_noting, server_noting}
use Rattle.bt_host.specs.PushingLaws.{Answers}
use Rattle.bt_host.specs.Serving.{Asks}
use Rattle.bt_host.specs.Stacks.{standing, Moment, IsResting, Hears, HearsNews}
use Rattle.order_laws.specs.Rounds.{EndsInRounds, midway_told, midway_heard}

-- A host that had done all that it could is where rounds end, whatever its port answers later: behind a packet that it heard, and behind news that no packet
-- brings, as that its timer fired.
pub record GoesInRounds {E S P : Type 0} (A : Profile S) (Answered : P → List Circumstance → P → Type 0) (pushing : E → P → List Circumstance → S) : Type 0 where
  pub hears : (packet : Packet) (old new : Moment E P) → IsResting A pushing old → (heard : Hears A Answered pushing packet old new) → (rest : List Circumstance)
      → (let given = heard.reacts.used ++ rest in EndsInRounds A (midway_heard A packet given (standing pushing old.port old.stack given)) (standing pushing new.port new.stack rest))
  pub is_told : (news : News) (old new : Moment E P) → IsResting A pushing old → (told : HearsNews A Answered pushing news old new) → (rest : List Circumstance)
      → (let given = told.used ++ rest in EndsInRounds A (midway_told A given (Some news) (standing pushing old.port old.stack given)) (standing pushing new.port new.stack rest))

-- So is each client in code, and each server.
abbrev pub ClientsGoInRounds : Type 0 → Type 0
ClientsGoInRounds P = (content : P → Option (List Object)) (faults shortages : P → ℕ) (settings : Settings) → GoesInRounds (noted_client settings) (Answers content faults shortages) (client_noting content)

abbrev pub ServersGoInRounds : Type 0 → Type 0
ServersGoInRounds P = (content : P → Option Contents) (faults shortages : P → ℕ) (settings : Settings) → GoesInRounds (noted_server settings) (Asks faults shortages) (server_noting content)
