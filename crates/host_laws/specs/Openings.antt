-- Which objects a client is told to push, and which it begins to push (this project's own).
use Rattle.std.specs.Prelude.{ℕ, List, [], ◌∷◌, Result, Ok, Err}
use Rattle.std.specs.List.{flat_map}
use Rattle.shelf_model.specs.bt_base.specs.declared.settings.Settings.{Settings}
use Rattle.push_laws.specs.Spelled.{AreAmong}
use Rattle.shelf_model.specs.world_model.specs.Machines.{News, Linked, Failed, Heard, TimerFired, Cancelled, Opening}
use Rattle.shelf_model.specs.host_model.specs.Clients.{ClientProfile}
use Rattle.host_laws.specs.Feeds.{Feed, Gifts, Learns, Receives, Happens, Sent, Steps}
use Rattle.host_laws.specs.Pushing.{Affair, Begins, Does, pushed_from}

-- the name of the object that is to be pushed
abbrev pub name_in : News → List (List ℕ)
name_in (Linked event) = []
name_in (Failed status) = []
name_in (Heard pdu) = []
name_in TimerFired = []
name_in Cancelled = []
name_in (Opening name) = name ∷ []

abbrev pub name_told : Feed → List (List ℕ)
name_told (Gifts circumstances) = []
name_told (Learns circumstances news) = name_in news
name_told (Receives own psm sdu) = []
name_told (Happens event v) = []
name_told (Sent v) = []
name_told (Steps v) = []

-- the names of those that a client was told to push, in order
abbrev pub names_told : List Feed → List (List ℕ)
names_told feeds = flat_map name_told feeds

-- a push begins where the shelf tells how long the object is
abbrev pub name_begun : Affair → List (List ℕ)
name_begun (Begins (Ok size) name) = name ∷ []
name_begun (Begins (Err fault) name) = []
name_begun (Does deed) = []

abbrev pub names_begun : List Affair → List (List ℕ)
names_begun affairs = flat_map name_begun affairs

-- ---- the law

-- The pushes that a client begins are of objects that it was told to push, in their order, each at most as often as it was told.
abbrev pub ClientsBeginWhatIsTold : Type 0
ClientsBeginWhatIsTold = (settings : Settings) (pushing : ClientProfile) (feeds : List Feed) → AreAmong (names_begun (pushed_from settings pushing feeds)) (names_told feeds)
