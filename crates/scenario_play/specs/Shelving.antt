-- Clients without what their shelf tells that it holds (this project's own).
use Rattle.bt_host.specs.host_model.specs.Clients.{ClientProfile}
use Rattle.bt_host.specs.host_model.specs.Hosts.{Host}
use Rattle.bt_host.specs.host_model.specs.Settings.{SetHost, set_to}
use Rattle.bt_host.specs.Noting.{Noted}
use Rattle.bt_host.specs.Shelving.{Shelved}
use Rattle.noting_laws.specs.Noting.{plain_set}

abbrev pub bare_host : Host Shelved → Host ClientProfile
bare_host host = record { channels = host.channels; profile = host.profile.pushing; may_say = host.may_say }

abbrev pub bare_set : SetHost Shelved → SetHost ClientProfile
bare_set set = set_to set.settings (bare_host set.host)

-- and without what they noted
abbrev pub plain_client : SetHost (Noted Shelved) → SetHost ClientProfile
plain_client set = bare_set (plain_set set)
