-- The channels of a link and what the host is, as a value.
use Rattle.std.specs.Prelude.{Bool}
use Rattle.bt_base.specs.declared.settings.Settings.{Settings}
use Rattle.channel_model.specs.Value.{Channels, no_channels}
use Rattle.channel_model.specs.Policies.{Policy, policy}

-- a host's settings, whether it is a server, and its channels
pub record Machine : Type 0 where
  pub settings : Settings
  pub server : Bool
  pub channels : Channels

abbrev pub new_machine : Settings → Bool → Machine
new_machine settings server = record { settings = settings; server = server; channels = no_channels }

abbrev pub policy_of : Machine → Policy
policy_of m = policy m.settings m.server

abbrev pub with_channels : Machine → Channels → Machine
with_channels m channels = record m { channels = channels }
