-- Nothing comes on the channel of the object behind its end (Core 5.1, Volume 3 Part A, 4.6).
use Rattle.std.specs.Prelude.{true, List, Option}
use Rattle.pair_laws.specs.bt_base.specs.declared.settings.Settings.{Settings}
use Rattle.pair_laws.specs.bt_base.specs.Objects.{Contents}
use Rattle.pair_laws.specs.channel_model.specs.Policies.{policy}
use Rattle.pair_laws.specs.channel_model.specs.Value.{no_channels}
use Rattle.pair_laws.specs.channel_laws.specs.Runs.{Occurrence}
use Rattle.pair_laws.specs.host_model.specs.Servers.{ServerProfile, server_profile}
use Rattle.pair_laws.specs.host_laws.specs.Calls.{Asks}
use Rattle.pair_laws.specs.host_laws.specs.Fed.{woven_feeds}
use Rattle.pair_laws.specs.host_laws.specs.GainingOver.{CarriesOne}
use Rattle.pair_laws.specs.host_laws.specs.Serving.{served_from}
use Rattle.pair_laws.specs.host_laws.specs.Woven.{Woven}
use Rattle.request_laws.specs.Twists.{NoneBehind}

-- On a link where one channel alone carries packets, if any came in, nothing comes to the server once it was told that this channel is closed.
abbrev pub NothingComesBehind : Type 0
NothingComesBehind = (settings : Settings) (content : Option Contents) (asks : Asks (server_profile settings content)) (list : List Occurrence) (first last : ServerProfile) → (so : Woven (server_profile settings content) asks list first last) → CarriesOne (policy settings true) list
    → NoneBehind (served_from settings content first (woven_feeds (server_profile settings content) asks so.weave no_channels first))
