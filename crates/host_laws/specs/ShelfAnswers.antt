-- What a client goes through of what its shelf answers, where that tells what it holds: each part is of the object that the client pushes, from where the
-- body of its next PUT begins (IrOBEX 1.5, 3.4; Object Push Profile 1.2, 4.3).
use Rattle.std.specs.Prelude.{ℕ, ◌≡◌, ◌≤◌, List, Option, Some, Result, Ok, IfSome}
use Rattle.std.specs.List.{AllByRecursion}
use Rattle.shelf_model.specs.bt_base.specs.Objects.{Object}
use Rattle.shelf_model.specs.bt_base.specs.declared.settings.Settings.{Settings}
use Rattle.push_laws.specs.push_model.specs.Client.{Client}
use Rattle.push_laws.specs.Sending.{AnswersTo}
use Rattle.shelf_model.specs.world_model.specs.Machines.{News, Linked, Failed, Heard, TimerFired, Cancelled, Opening}
use Rattle.shelf_model.specs.host_model.specs.Circumstances.{Circumstance, size_in, parts_in}
use Rattle.shelf_model.specs.host_model.specs.Clients.{ClientProfile}
use Rattle.shelf_model.specs.Held.{longest_octets, IsHeld, length_of}
use Rattle.host_laws.specs.Feeds.{Feed, Gifts, Learns, Receives, Happens, Sent, Steps}
use Rattle.host_laws.specs.Pushing.{Affair, Begins, Does, AllAsked, pushed_from}

-- ---- what the shelf answers

-- As a push begins, the shelf tells a length alone that stands in four octets; and that is of the object that it holds under that name, where it tells
-- what it holds.
abbrev pub TellsSizeOf : Option (List Object) → List Circumstance → News → Type 0
TellsSizeOf shelf circumstances (Linked event) = Unit {0}
TellsSizeOf shelf circumstances (Failed status) = Unit {0}
TellsSizeOf shelf circumstances (Heard pdu) = Unit {0}
TellsSizeOf shelf circumstances TimerFired = Unit {0}
TellsSizeOf shelf circumstances Cancelled = Unit {0}
TellsSizeOf shelf circumstances (Opening name) = (size : ℕ) → size_in circumstances ≡ Ok size → (size ≤ longest_octets) × IfSome shelf (λ objects. length_of name objects ≡ Some size)

-- and the excerpts of objects that it gives are octets, and those that stand there
abbrev pub AnswersOf : Option (List Object) → Feed → Type 0
AnswersOf shelf (Gifts circumstances) = AllByRecursion (IsHeld shelf) (parts_in circumstances)
AnswersOf shelf (Learns circumstances news) = TellsSizeOf shelf circumstances news
AnswersOf shelf (Receives own psm sdu) = Unit {0}
AnswersOf shelf (Happens event v) = Unit {0}
AnswersOf shelf (Sent v) = Unit {0}
AnswersOf shelf (Steps v) = Unit {0}

-- ---- what the client goes through

-- a push begins of an object that the shelf holds, as long as it told; and a part is as long as was asked for, and stands there
abbrev pub IsGiven : Option (List Object) → Affair → Client → Type 0
IsGiven shelf (Begins size name) client = (count : ℕ) → size ≡ Ok count → IfSome shelf (λ objects. length_of name objects ≡ Some count)
IsGiven shelf (Does deed) client = AnswersTo shelf deed client

-- ---- the law

-- So it is of all that a client goes through, wherever it begins.
abbrev pub ClientsAreGivenObjects : Type 0
ClientsAreGivenObjects = (shelf : Option (List Object)) (settings : Settings) (pushing : ClientProfile) (feeds : List Feed) → AllByRecursion (IsHeld shelf) pushing.parts → AllByRecursion (AnswersOf shelf) feeds
    → AllAsked (IsGiven shelf) (pushed_from settings pushing feeds) pushing.client
