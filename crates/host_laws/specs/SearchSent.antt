-- The request of a client for services was sent, where its channels have nothing to give (Core 5.1, Volume 3 Part A, 3.1; Part B, 4.2).
use Rattle.std.specs.Prelude.{◌≡◌, false, [], List}
use Rattle.shelf_model.specs.bt_base.specs.declared.settings.Settings.{Settings}
use Rattle.channel_laws.specs.channel_model.specs.Policies.{policy}
use Rattle.channel_laws.specs.channel_model.specs.Value.{no_channels}
use Rattle.channel_laws.specs.Runs.{Occurrence, run_of}
use Rattle.push_laws.specs.push_model.specs.declared.course.Stage.TheVariants.{Search}
use Rattle.shelf_model.specs.host_model.specs.Clients.{ClientProfile, client_profile}
use Rattle.host_laws.specs.Calls.{Asks}
use Rattle.host_laws.specs.Searching.{AsksAsItSteps, SearchesOn}
use Rattle.host_laws.specs.SearchOrder.{IsSent}
use Rattle.host_laws.specs.Seen.{IsQuiet, IsCalm}

-- A client that went calmly through its search on a link, and waits for nothing that its channels have to give, has no request that its channel
-- holds back, and no step of it is under way.
abbrev pub SearchesAreSent : Type 0
SearchesAreSent = (settings : Settings) (asks : Asks (client_profile settings)) (list : List Occurrence) (first last : ClientProfile) → AsksAsItSteps settings asks → SearchesOn settings asks list first last
    → IsCalm (policy settings false) no_channels list → (run_of (policy settings false) list).value.events ≡ [] → IsQuiet (run_of (policy settings false) list).value → last.client.stage ≡ Search
    → IsSent last.submitted (run_of (policy settings false) list).value last.client.given
