-- A client goes through no answer of its shelf that is not as long as it asked for, whatever its shelf answers (IrOBEX 1.5, 3.4; Object
-- Push Profile 1.2, 4.3).
use Rattle.std.specs.Prelude.{ℕ, ◌≡◌, ◌≤◌, List, length, None, Result, Ok}
use Rattle.std.specs.List.{AllByRecursion}
use Rattle.shelf_model.specs.bt_base.specs.declared.ports.PortFault.{PortFault}
use Rattle.shelf_model.specs.bt_base.specs.declared.settings.Settings.{Settings}
use Rattle.shelf_model.specs.obex_session.specs.PutPackets.{units_in}
use Rattle.push_laws.specs.push_model.specs.Client.{Client}
use Rattle.push_laws.specs.Sending.{AnswersTo}
use Rattle.shelf_model.specs.world_model.specs.Machines.{News, Linked, Failed, Heard, TimerFired, Cancelled, Opening}
use Rattle.shelf_model.specs.host_model.specs.Circumstances.{Circumstance, size_in}
use Rattle.shelf_model.specs.host_model.specs.Clients.{ClientProfile}
use Rattle.host_laws.specs.Feeds.{Feed, Gifts, Learns, Receives, Happens, Sent, Steps}
use Rattle.host_laws.specs.Pushing.{Affair, Begins, Does, AllAsked, pushed_from}

-- an object of so many octets at most, whose name has at most 100 units
pub record IsSmall (most : ℕ) (size : Result ℕ PortFault) (name : List ℕ) : Type 0 where
  pub short : length (units_in name) ≤ 100
  pub bounded : (count : ℕ) → size ≡ Ok count → count ≤ most

-- a part of an object has as many octets as were asked for
abbrev pub IsAnswered : (most : ℕ) → Affair → Client → Type 0
IsAnswered most (Begins size name) client = IsSmall most size name
IsAnswered most (Does deed) client = AnswersTo None deed client

abbrev pub AllAnswered : (most : ℕ) → List Affair → Client → Type 0
AllAnswered most affairs client = AllAsked (IsAnswered most) affairs client

-- ---- the law

-- as a push begins, the shelf tells no object that is longer
abbrev pub TellsAtMost : (most : ℕ) → List Circumstance → News → Type 0
TellsAtMost most circumstances (Linked event) = Unit {0}
TellsAtMost most circumstances (Failed status) = Unit {0}
TellsAtMost most circumstances (Heard pdu) = Unit {0}
TellsAtMost most circumstances TimerFired = Unit {0}
TellsAtMost most circumstances Cancelled = Unit {0}
TellsAtMost most circumstances (Opening name) = (count : ℕ) → size_in circumstances ≡ Ok count → count ≤ most

abbrev pub BeginsAtMost : (most : ℕ) → Feed → Type 0
BeginsAtMost most (Gifts circumstances) = Unit {0}
BeginsAtMost most (Learns circumstances news) = TellsAtMost most circumstances news
BeginsAtMost most (Receives own psm sdu) = Unit {0}
BeginsAtMost most (Happens event v) = Unit {0}
BeginsAtMost most (Sent v) = Unit {0}
BeginsAtMost most (Steps v) = Unit {0}

-- So it is of all that a client goes through, wherever it begins and whatever its shelf answers, but for how long an object is.
abbrev pub ClientsAreAnswered : Type 0
ClientsAreAnswered = (most : ℕ) (settings : Settings) (pushing : ClientProfile) (feeds : List Feed) → AllByRecursion (BeginsAtMost most) feeds → AllAnswered most (pushed_from settings pushing feeds) pushing.client
