-- What the inbox gains of what is pushed where its calls fail, over L2CAP (Object Push Profile 1.2, 4.3; that a fault leaves out one object at most is
-- this project's own).
use Rattle.std.specs.Prelude.{ℕ, ◌≡◌, ◌+◌, ◌⊎◌, List, [], ◌∷◌, ◌++◌, Some}
use Rattle.std.specs.List.{AllByRecursion}
use Rattle.link_talk.specs.bt_base.specs.declared.settings.Settings.{Settings}
use Rattle.link_talk.specs.bt_base.specs.Objects.{Object}
use Rattle.push_laws.specs.Faults.{spent_from}
use Rattle.push_laws.specs.Gains.{objects}
use Rattle.push_laws.specs.Laws.{new_over, stored_in}
use Rattle.push_laws.specs.Occurrences.{Occurrence, all_done}
use Rattle.push_laws.specs.Parties.{Push, IsOffered, over_pushes, AllServeDirectly}
use Rattle.push_laws.specs.Premises.{AllGranted, NoneShort}

-- These are the objects in their order, but for so many at most that are left out.
abbrev pub LeavesOut : (kept objects : List Object) → ℕ → Type 0
LeavesOut kept [] most = kept ≡ []
LeavesOut kept (object ∷ objects) most =
    ((rest : List Object) × (kept ≡ object ∷ rest) × LeavesOut rest objects most) ⊎ ((less : ℕ) × (most ≡ less + 1) × LeavesOut kept objects less)

-- the inbox gained the objects that the packets spell, but for one at most for each fault that its calls used up
pub record GainsLess (settings : Settings) (before : List Object) (occurrences : List Occurrence) : Type 0 where
  pub gain : List Object
  pub stored : stored_in (all_done occurrences (new_over settings before)).gift.content ≡ Some (before ++ gain)
  pub leaves : LeavesOut gain (objects settings occurrences) (spent_from (new_over settings before) occurrences)

-- So it is push after push, where the inbox does not lack memory, whatever becomes of the pushes.
abbrev pub PushesGainLess : Type 0
PushesGainLess = (settings : Settings) (before : List Object) (pushes : List Push) (last : Push) → AllByRecursion IsOffered pushes → IsOffered last → AllServeDirectly NoneShort (new_over settings before) (over_pushes pushes last)
    → GainsLess settings before (over_pushes pushes last)

-- Where it grants all calls it gains all that is spelled.
abbrev pub PushesGainAll : Type 0
PushesGainAll = (settings : Settings) (before : List Object) (pushes : List Push) (last : Push) → AllByRecursion IsOffered pushes → IsOffered last → AllServeDirectly AllGranted (new_over settings before) (over_pushes pushes last)
    → stored_in (all_done (over_pushes pushes last) (new_over settings before)).gift.content ≡ Some (before ++ objects settings (over_pushes pushes last))

-- With no fault all of them are gained.
abbrev pub NothingIsLeftOut : Type 0
NothingIsLeftOut = (kept objects : List Object) → LeavesOut kept objects 0 → kept ≡ objects
