-- Hosts without what they noted (this project's own).
use Rattle.bt_host.specs.Noting.{Noted}
use Rattle.bt_host.specs.host_model.specs.Hosts.{Host}
use Rattle.bt_host.specs.host_model.specs.Settings.{SetHost, set_to}

abbrev pub plain_host : {S : Type 0} → Host (Noted S) → Host S
plain_host host = record { channels = host.channels; profile = host.profile.end; may_say = host.may_say }

abbrev pub plain_set : {S : Type 0} → SetHost (Noted S) → SetHost S
plain_set set = set_to set.settings (plain_host set.host)
