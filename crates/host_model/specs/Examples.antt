-- How a push begins, worked out by hand: a client that is to push asks for a link; once that is up it asks for a channel to the service
-- records, PSM 0x0001, whose own endpoint is 0x0040; a server answers with its endpoint and asks for its options (Core 5.1, Volume 3
-- Part A, 4.2 and 4.3).
use Rattle.std.specs.Prelude.{ℕ, ◌≡◌, true, false, List, [], ◌∷◌, Option, Some, None, Ok, option_map}
use Rattle.rest_laws.specs.bt_base.specs.declared.settings.Settings.{Settings}
use Rattle.rest_laws.specs.bt_base.specs.Objects.{Contents}
use Rattle.rest_laws.specs.world_model.specs.Machines.{Linked, Up, Heard, Opening}
use Rattle.host_model.specs.Circumstances.{Size}
use Rattle.host_model.specs.Hosts.{Host}
use Rattle.host_model.specs.Clients.{ClientProfile}
use Rattle.host_model.specs.Servers.{ServerProfile}
use Rattle.host_model.specs.Machines.{client_host, server_host}

-- an object of three octets, whose name is of one unit
abbrev pub opened : Settings → Host ClientProfile
opened settings = (client_host settings).hear (Size (Ok 3) ∷ []) (Opening (0x61 ∷ [])) (client_host settings).first

abbrev pub linked : Settings → Host ClientProfile
linked settings = (client_host settings).hear [] (Linked Up) (opened settings)

-- code 02, identifier 1, four octets: the PSM and the endpoint
abbrev pub request : List ℕ
request = 8 ∷ 0 ∷ 1 ∷ 0 ∷ 0x02 ∷ 1 ∷ 4 ∷ 0 ∷ 0x01 ∷ 0 ∷ 0x40 ∷ 0 ∷ []

-- code 03, identifier 1, eight octets: both endpoints, result and status
abbrev pub response : List ℕ
response = 12 ∷ 0 ∷ 1 ∷ 0 ∷ 0x03 ∷ 1 ∷ 8 ∷ 0 ∷ 0x40 ∷ 0 ∷ 0x40 ∷ 0 ∷ 0 ∷ 0 ∷ 0 ∷ 0 ∷ []

abbrev pub asked : Settings → Option Contents → Host ServerProfile
asked settings content = (server_host settings content).hear [] (Heard request) ((server_host settings content).hear [] (Linked Up) (server_host settings content).first)

abbrev pub said : {S : Type 0} → Option (List ℕ × S) → Option (List ℕ)
said spoken = option_map (λ one. one.0) spoken

pub record PushesBegin : Type 0 where
  pub calls : (settings : Settings) → (client_host settings).wants_link (opened settings) ≡ true
  pub waits : (settings : Settings) → said ((client_host settings).next (opened settings)) ≡ None
  pub asks : (settings : Settings) → said ((client_host settings).next (linked settings)) ≡ Some request
  pub calls_once : (settings : Settings) → (client_host settings).wants_link (linked settings) ≡ false
  pub answers : (settings : Settings) (content : Option Contents) → said ((server_host settings content).next (asked settings content)) ≡ Some response
