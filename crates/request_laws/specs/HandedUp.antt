-- What comes on the channel of the object at either host, as its channels hand it up (Core 5.1, Volume 3 Part A, 3.1).
use Rattle.std.specs.Prelude.{ℕ, ◌≡◌, ◌==◌, true, false, List, Option, Some, None, if◌then◌else◌}
use Rattle.std.specs.List.{AllByRecursion, flat_map, filter_map}
use Rattle.pair_laws.specs.bt_base.specs.declared.settings.Settings.{Settings}
use Rattle.pair_laws.specs.bt_base.specs.Objects.{Contents}
use Rattle.pair_laws.specs.channel_model.specs.Carrying.{Up, Nothing, Received}
use Rattle.pair_laws.specs.channel_model.specs.Policies.{policy}
use Rattle.pair_laws.specs.channel_laws.specs.Runs.{Occurrence, run_of}
use Rattle.pair_laws.specs.push_model.specs.Server.{object_psm}
use Rattle.pair_laws.specs.push_laws.specs.Parties.{come_by, heard_by}
use Rattle.pair_laws.specs.host_model.specs.Clients.{ClientProfile, client_profile}
use Rattle.pair_laws.specs.host_model.specs.Servers.{ServerProfile, server_profile}
use Rattle.pair_laws.specs.host_laws.specs.Calls.{Asks}
use Rattle.pair_laws.specs.host_laws.specs.Fed.{WovenFed}
use Rattle.pair_laws.specs.host_laws.specs.Feeds.{Feed}
use Rattle.pair_laws.specs.host_laws.specs.Pushing.{pushed_from}
use Rattle.pair_laws.specs.host_laws.specs.Serving.{served_from}
use Rattle.request_laws.specs.Twists.{all_deeds, OpensNone}

-- an SDU of a channel to that PSM
abbrev pub up_for : ℕ → Up → Option (List ℕ)
up_for psm Nothing = None
up_for psm (Received own at sdu) = if at == psm then Some sdu else None

abbrev pub handed_for : ℕ → List Up → List (List ℕ)
handed_for psm ups = filter_map (up_for psm) ups

-- On a link the SDUs that come to a server and to a client on the server's PSM are those that their channels handed up there, in order.
pub record ObjectsAreHandedUp : Type 0 where
  pub servers : (settings : Settings) (content : Option Contents) (asks : Asks (server_profile settings content)) (list : List Occurrence) (feeds : List Feed) (first last : ServerProfile)
      → WovenFed (server_profile settings content) asks list feeds first last → flat_map come_by (served_from settings content first feeds) ≡ handed_for object_psm (run_of (policy settings true) list).up
  pub clients : (settings : Settings) (asks : Asks (client_profile settings)) (list : List Occurrence) (feeds : List Feed) (first last : ClientProfile)
      → (so : WovenFed (client_profile settings) asks list feeds first last) → AllByRecursion OpensNone so.woven.weave
      → flat_map heard_by (all_deeds (pushed_from settings first feeds)) ≡ handed_for object_psm (run_of (policy settings false) list).up
