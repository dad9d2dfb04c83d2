-- A client goes by what service discovery told it on its link (Object Push Profile 1.2, 4.3 and 5; Core 5.1, Volume 3 Part B, 4.7).
use Rattle.std.specs.Prelude.{◌≡◌, false, List}
use Rattle.shelf_model.specs.bt_base.specs.declared.settings.Settings.{Settings}
use Rattle.push_laws.specs.link_talk.specs.declared.party.Party.{Party}
use Rattle.channel_laws.specs.channel_model.specs.Policies.{policy}
use Rattle.channel_laws.specs.Runs.{Occurrence, run_of}
use Rattle.shelf_model.specs.host_model.specs.Clients.{ClientProfile, client_profile}
use Rattle.host_laws.specs.Calls.{Asks}
use Rattle.host_laws.specs.Feeds.{Feed, all_fed}
use Rattle.host_laws.specs.InOrder.{CallsInOrder}
use Rattle.host_laws.specs.Searching.{AsksAsItSteps, SearchesOn}
use Rattle.host_laws.specs.Seen.{spoken_of}
use Rattle.host_laws.specs.Services.{GoesAsTold}

-- On a link that came up for its push a client goes by what it was told there, whatever it went through before, whatever it hears, however often its timer
-- repeats its requests and whatever its shelf answers: where it asks for one channel after the other.
abbrev pub ClientsGoAsTold : Type 0
ClientsGoAsTold = (settings : Settings) (asks : Asks (client_profile settings)) (party : Party) (before : List Feed) (list : List Occurrence) (first last : ClientProfile) → AsksAsItSteps settings asks → first ≡ all_fed (client_profile settings) (client_profile settings).first before
    → SearchesOn settings asks list first last → CallsInOrder settings.transport (policy settings false) list → GoesAsTold party settings.transport (spoken_of (run_of (policy settings false) list).said)
