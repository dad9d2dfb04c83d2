-- A client and a server that note what they hold on their way (this project's own).
use Rattle.std.specs.Prelude.{ℕ, List, Option}
use Rattle.bt_base.specs.Objects.{Object, Contents}
use Rattle.bt_base.specs.declared.settings.Settings.{Settings}
use Rattle.shelf_model.specs.world_model.specs.Machines.{Upper}
use Rattle.shelf_model.specs.host_model.specs.Circumstances.{Circumstance}
use Rattle.shelf_model.specs.host_model.specs.Profiles.{Profile}
use Rattle.shelf_model.specs.host_model.specs.Clients.{ClientProfile}
use Rattle.shelf_model.specs.host_model.specs.Servers.{ServerProfile}
use Rattle.shelf_model.specs.host_model.specs.Settings.{SetHost, with_settings}
use Rattle.bt_host.specs.Noting.{Noted, noting, noting_by}
use Rattle.bt_host.specs.Shelving.{Shelved, shelf_profile, shelved_by}
use Rattle.bt_host.specs.Serving.{Served, profile_of, served_by}

-- the credits that the multiplexer of each holds
abbrev pub credits_of_client : ClientProfile → ℕ
credits_of_client pushing = pushing.client.mux.account.held

abbrev pub credits_of_shelved : Shelved → ℕ
credits_of_shelved shelved = credits_of_client shelved.pushing

abbrev pub credits_of_server : ServerProfile → ℕ
credits_of_server serving = serving.server.mux.account.held

-- what stands above the channels of each
abbrev pub noted_client : Settings → Profile (Noted Shelved)
noted_client settings = noting credits_of_shelved (shelf_profile settings)

abbrev pub noted_server : Settings → Profile (Noted ServerProfile)
noted_server settings = noting credits_of_server (profile_of settings)

abbrev pub client_noting : {P : Type 0} → (P → Option (List Object)) → Noted ClientProfile → P → List Circumstance → Noted Shelved
client_noting content noted port rest = noting_by (shelved_by content) noted port rest

abbrev pub server_noting : {P : Type 0} → (P → Option Contents) → Noted Served → P → List Circumstance → Noted ServerProfile
server_noting content noted port rest = noting_by (served_by content) noted port rest

-- and the machines that they are
abbrev pub noted_client_machine : Upper (SetHost (Noted Shelved)) Circumstance
noted_client_machine = with_settings noted_client

abbrev pub noted_server_machine : Upper (SetHost (Noted ServerProfile)) Circumstance
noted_server_machine = with_settings noted_server
