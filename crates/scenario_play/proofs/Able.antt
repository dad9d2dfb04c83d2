-- A client in code finds its memory at each moment of a run.
use Rattle.std.proofs.Common.{◌≡◌, false, List, sym, subst}
use Rattle.noting_laws.specs.world_model.specs.Worlds.{Happening, Runs}
use Rattle.bt_host.specs.host_model.specs.Hosts.{next}
use Rattle.bt_host.specs.host_model.specs.Servers.{ServerProfile}
use Rattle.bt_host.specs.host_model.specs.Settings.{SetHost}
use Rattle.bt_host.specs.host_model.proofs.Setting.{said_by}
use Rattle.noting_laws.specs.inbox_laws.specs.Owned.{own_machine}
use Rattle.noting_laws.specs.inbox_laws.proofs.Keeping.{hear_kept, next_kept}
use Rattle.bt_host.specs.NotedHosts.{noted_client_machine, noted_server_machine}
use Rattle.bt_host.specs.Shelving.{Shelved, shelf_profile}
use Rattle.noting_laws.specs.Noting.{plain_set}
use Rattle.scenario_play.proofs.Along.{Stays, stays_along}
use Rattle.scenario_play.proofs.Bare.{shelf_machine}
use Rattle.scenario_play.proofs.Plainness.{NotedWorld, shelf_world, unnoted_runs}
use Rattle.scenario_play.proofs.Shelves.{IsAble, keeps_able}

abbrev Able : SetHost Shelved → Type 0
Able s = IsAble s.host.profile

able_stays : Stays shelf_machine Able
able_stays = record {
  hears = λ answers news s able. hear_kept (shelf_profile s.settings) IsAble (keeps_able s.settings) answers news s.host able;
  says = λ s pdu after is able.
      let (host, said, same) = said_by s.settings (next (shelf_profile s.settings) s.host) pdu after is in
      subst Able (sym same) (next_kept (shelf_profile s.settings) IsAble (keeps_able s.settings) s.host pdu host said able);
}

-- of a server nothing is asked
abbrev Any : SetHost ServerProfile → Type 0
Any s = Unit {0}

any_stays : Stays own_machine Any
any_stays = record { hears = λ answers news s any. tt; says = λ s pdu after is any. tt }

pub able_along : (happenings : List Happening) (old new : NotedWorld) → Able (plain_set old.a.upper) → Runs noted_client_machine noted_server_machine happenings old new → (plain_set new.a.upper).host.profile.pushing.client.failed ≡ false
able_along happenings old new able runs =
    (stays_along shelf_machine own_machine Able Any able_stays any_stays happenings (shelf_world old) (shelf_world new) able tt (unnoted_runs happenings old new runs)).0.works
