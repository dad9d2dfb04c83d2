-- New hosts in code: whatever their ports are to answer, they are those of the scenario.
use Rattle.std.proofs.Common.{List, [], ◌∷◌, Option, refl, ap₂}
use Rattle.bt_base.specs.Objects.{Object, Contents}
use Rattle.bt_base.specs.declared.settings.Settings.{Settings}
use Rattle.push_script.specs.declared.scenario.Scenario.{Scenario}
use Rattle.push_terms.specs.declared.word.Side.{Side}
use Rattle.push_terms.specs.declared.word.Side.TheVariants.{A, B}
use Rattle.bt_host.specs.host_link.specs.PuttingOut.{started}
use Rattle.noting_laws.specs.station_laws.specs.Seen.{role_of}
use Rattle.noting_laws.specs.world_model.specs.Machines.{News}
use Rattle.noting_laws.specs.world_model.specs.Stations.{Station, Commanding, first_station}
use Rattle.noting_laws.specs.world_model.specs.Worlds.{Happening, Tries}
use Rattle.noting_laws.specs.alike_laws.specs.Twins.{AreTwins}
use Rattle.radio_world.specs.Hosts.{answering}
use Rattle.radio_world.specs.Scenes.{first_scene, moment, Plays}
use Rattle.radio_world.specs.Standing.{starting, first_moment}
use Rattle.bt_host.specs.line_laws.specs.Laws.{GoesAsSeen}
use Rattle.bt_host.specs.line_laws.proofs.Seeing.{stations_are_seen}
use Rattle.bt_host.specs.host_model.specs.Circumstances.{Circumstance}
use Rattle.bt_host.specs.host_model.specs.Profiles.{Profile}
use Rattle.bt_host.specs.host_model.specs.Servers.{ServerProfile}
use Rattle.bt_host.specs.host_model.specs.Machines.{client_host, server_host}
use Rattle.bt_host.specs.host_model.specs.Settings.{SetHost, set_to, with_settings, client_machine, server_machine}
use Rattle.bt_host.specs.host_model.proofs.Setting.{hosts_say_octets}
use Rattle.bt_host.specs.Newness as served
use Rattle.bt_host.specs.Pushing as pushed
use Rattle.bt_host.specs.Noting.{Noted}
use Rattle.bt_host.specs.Shelving.{Shelved}
use Rattle.bt_host.specs.NotedHosts.{noted_client, client_noting, noted_client_machine, noted_server, server_noting, noted_server_machine}
use Rattle.bt_host.specs.Playing.{set_host, playing}
use Rattle.noting_laws.specs.pair_laws.specs.Granted.{answered_by}
use Rattle.noting_laws.specs.pair_laws.specs.Served.{holding_on}
use Rattle.noting_laws.specs.Noting.{plain_set}
use Rattle.scenario_play.specs.Shelving.{plain_client}

-- ---- what stands above their lines

abbrev pub new_client : {P : Type 0} → (P → Option (List Object)) → P → Settings → List Circumstance → SetHost (Noted Shelved)
new_client holds shelf settings rest = set_host (client_noting holds) shelf (pushed.new_stack settings) rest

abbrev pub new_server : {Q : Type 0} → (Q → Option Contents) → Q → Settings → List Circumstance → SetHost (Noted ServerProfile)
new_server content inbox settings rest = set_host (server_noting content) inbox (served.new_stack settings) rest

-- with the first news they hear, what their ports were to answer is forgotten
pub client_twins : {P : Type 0} (holds : P → Option (List Object)) (shelf : P) (settings : Settings) (rest : List Circumstance) → AreTwins client_machine (plain_client (new_client holds shelf settings rest)) (set_to settings (client_host settings).first)
client_twins holds shelf settings rest = record {
  hear = λ answers news. refl;
  next = refl;
  wants_link = refl;
  leaves_link = refl;
  is_idle = refl;
  outcome = refl;
  armed = refl;
  may_cancel = refl;
  has_check = λ own. refl;
}

-- a new client whose shelf holds these is no other one either
pub holding_twins : {P : Type 0} (held : Option (List Object)) (holds : P → Option (List Object)) (shelf : P) (settings : Settings) (rest : List Circumstance) → AreTwins (holding_on held client_machine) (plain_client (new_client holds shelf settings rest)) (set_to settings (client_host settings).first)
holding_twins held holds shelf settings rest = record {
  hear = λ answers news. refl;
  next = refl;
  wants_link = refl;
  leaves_link = refl;
  is_idle = refl;
  outcome = refl;
  armed = refl;
  may_cancel = refl;
  has_check = λ own. refl;
}

pub server_twins : {Q : Type 0} (content : Q → Option Contents) (inbox : Q) (settings : Settings) (rest : List Circumstance)
    → AreTwins server_machine (plain_set (new_server content inbox settings rest)) (set_to settings (server_host settings (content inbox)).first)
server_twins content inbox settings rest = record {
  hear = λ answers news. refl;
  next = refl;
  wants_link = refl;
  leaves_link = refl;
  is_idle = refl;
  outcome = refl;
  armed = refl;
  may_cancel = refl;
  has_check = λ own. refl;
}

-- a new server whose inbox gives other answers is no other one either
pub answering_twins : {Q : Type 0} (content : Q → Option Contents) (inbox : Q) (settings : Settings) (rest : List Circumstance) (to : News → List Circumstance → List Circumstance)
    → AreTwins (answered_by to server_machine) (plain_set (new_server content inbox settings rest)) (set_to settings (server_host settings (content inbox)).first)
answering_twins content inbox settings rest to = record {
  hear = λ answers news. refl;
  next = refl;
  wants_link = refl;
  leaves_link = refl;
  is_idle = refl;
  outcome = refl;
  armed = refl;
  may_cancel = refl;
  has_check = λ own. refl;
}

-- ---- their first commands

-- both put them out
abbrev pub beginning : List Happening
beginning = Tries A Commanding ∷ Tries B Commanding ∷ []

begins : {S : Type 0} (profile : Settings → Profile S) (side : Side) (first : SetHost S)
    → GoesAsSeen (starting first (with_settings profile)) side (Commanding ∷ []) (first_station (starting first (with_settings profile)) side) first (started (role_of side))
begins profile side first = stations_are_seen (starting first (with_settings profile)) side (hosts_say_octets profile)

pub hosts_begin : {P Q : Type 0} (holds : P → Option (List Object)) (content : Q → Option Contents) (scenario : Scenario) (shelf : P) (inbox : Q) (rest_a rest_b : List Circumstance)
    → Plays noted_client_machine noted_server_machine beginning
    (first_moment (starting (new_client holds shelf scenario.settings rest_a) noted_client_machine) (starting (new_server content inbox scenario.settings rest_b) noted_server_machine) scenario.acl_length scenario.acl_count scenario.names)
    (moment (first_scene scenario.acl_length scenario.acl_count scenario.names) (answering rest_a (playing (client_noting holds) shelf (pushed.new_stack scenario.settings))) (answering rest_b (playing (server_noting content) inbox (served.new_stack scenario.settings))))
hosts_begin holds content scenario shelf inbox rest_a rest_b =
    let scene = first_scene scenario.acl_length scenario.acl_count scenario.names in
    let first_b = new_server content inbox scenario.settings rest_b in
    let (station_a, commands_a, same_a) = (begins noted_client A (new_client holds shelf scenario.settings rest_a)).makes in
    let (station_b, commands_b, same_b) = (begins noted_server B first_b).makes in (
      moment scene station_a (first_station (starting first_b noted_server_machine) B),
      record { does = (station_a, commands_a, refl); notes = refl },
      (
        moment scene station_a station_b,
        record { does = (station_b, commands_b, refl); notes = refl },
        ap₂ (λ (a : Station (SetHost (Noted Shelved))) (b : Station (SetHost (Noted ServerProfile))). moment scene a b) same_a same_b,
      ),
    )
