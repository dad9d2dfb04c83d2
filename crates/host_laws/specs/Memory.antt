-- A client never lacks memory of its own: it has failed only where its shelf answered so (this project's own).
use Rattle.std.specs.Prelude.{◌≡◌, false, List, Result, Ok, Err}
use Rattle.std.specs.List.{AllByRecursion}
use Rattle.shelf_model.specs.bt_base.specs.declared.ports.PortFault.{PortFault}
use Rattle.shelf_model.specs.bt_base.specs.declared.ports.PortFault.TheVariants as fault
use Rattle.shelf_model.specs.bt_base.specs.declared.settings.Settings.{Settings}
use Rattle.shelf_model.specs.host_model.specs.Circumstances.{Circumstance, Size, Part, Stored}
use Rattle.shelf_model.specs.host_model.specs.Clients.{client_profile}
use Rattle.host_laws.specs.Feeds.{Feed, Gifts, Learns, Receives, Happens, Sent, Steps, all_fed}

-- an answer of the shelf other than that it lacks memory
abbrev pub HasRoom : {A : Type 0} → Result A PortFault → Type 0
HasRoom (Ok answer) = Unit {0}
HasRoom (Err fault.Failed) = Unit {0}
HasRoom (Err fault.NoMemory) = ⊥

abbrev pub IsRoomy : Circumstance → Type 0
IsRoomy (Size answer) = HasRoom answer
IsRoomy (Part excerpt) = HasRoom excerpt.answer
IsRoomy (Stored answer) = Unit {0}

abbrev pub IsRoomyFeed : Feed → Type 0
IsRoomyFeed (Gifts circumstances) = AllByRecursion IsRoomy circumstances
IsRoomyFeed (Learns circumstances news) = AllByRecursion IsRoomy circumstances
IsRoomyFeed (Receives own psm sdu) = Unit {0}
IsRoomyFeed (Happens event channels) = Unit {0}
IsRoomyFeed (Sent channels) = Unit {0}
IsRoomyFeed (Steps channels) = Unit {0}

-- From its first moment on, whatever it goes through, a client whose shelf never lacks memory has not failed.
abbrev pub ClientsHaveMemory : Type 0
ClientsHaveMemory = (settings : Settings) (feeds : List Feed) → AllByRecursion IsRoomyFeed feeds → (all_fed (client_profile settings) (client_profile settings).first feeds).client.failed ≡ false
