-- What the inbox gains of pushes of which some are done (IrOBEX 1.5, 3.2.1 and 3.3.3; Object Push Profile 1.2, 4.3; that a fault leaves out one object at most is
-- this project's own).
use Rattle.std.specs.Prelude.{ℕ, ◌≡◌, ◌≤◌, ◌+◌, ◌⊎◌, List, [], ◌∷◌, ◌++◌, length, Some}
use Rattle.std.specs.List.{AllByRecursion}
use Rattle.tape_laws.specs.bt_base.specs.declared.settings.Settings.{Settings}
use Rattle.tape_laws.specs.bt_base.specs.Objects.{Object}
use Rattle.tape_laws.specs.push_terms.specs.declared.outcome.Outcome.TheVariants.{Done, Cancelled}
use Rattle.tape_laws.specs.push_model.specs.Client.{Client}
use Rattle.tape_laws.specs.push_model.specs.Laws as deeds
use Rattle.tape_laws.specs.push_model.specs.Server.{object_psm}
use Rattle.tape_laws.specs.push_laws.specs.Faults.{spent_from}
use Rattle.tape_laws.specs.push_laws.specs.Gains.{objects}
use Rattle.tape_laws.specs.push_laws.specs.Laws.{new_over, stored_in}
use Rattle.tape_laws.specs.push_laws.specs.Losing.{LeavesOut}
use Rattle.tape_laws.specs.push_laws.specs.Occurrences.{Occurrence, all_done}
use Rattle.tape_laws.specs.push_laws.specs.Parties.{server_side, client_side, Push, IsOffered, begun_of, ended_with, over_pushes, AllServeDirectly}
use Rattle.tape_laws.specs.push_laws.specs.Premises.{NoneShort}
use Rattle.tape_laws.specs.push_laws.specs.Spelled.{ArePushed, IsOfShelfOrStill, name_of}

-- ---- a push

-- its client behind all that happened
abbrev pub client_of : Push → Client
client_of push = deeds.all_done (client_side push.moves) (begun_of push)

-- it is done, on the channel of the object
pub record IsDone (push : Push) : Type 0 where
  pub cause : (client_of push).cause ≡ Some Done
  pub psm : (client_of push).psm ≡ object_psm

-- What was spelled of a push is one object at most, which is the shelf's where that tells it, and that was gained or left out. Where the push is done, it is one,
-- and was gained; where it was cancelled, and where its client did nothing, none was spelled.
pub record IsKept (push : Push) (gained spelled : List Object) : Type 0 where
  pub few : length spelled ≤ 1
  pub either : (gained ≡ []) ⊎ (gained ≡ spelled)
  pub done : IsDone push → (gained ≡ spelled) × (length spelled ≡ 1)
  pub cancelled : (client_of push).cause ≡ Some Cancelled → spelled ≡ []
  pub still : client_side push.moves ≡ [] → spelled ≡ []
  pub once : (shelf : List Object) → IsOfShelfOrStill shelf push → ArePushed shelf (name_of push) spelled

-- so it is of each of them, in their order
abbrev pub AreKept : (pushes : List Push) (gained spelled : List Object) → Type 0
AreKept [] gained spelled = (gained ≡ []) × (spelled ≡ [])
AreKept (push ∷ pushes) gained spelled =
    (kept : List Object) × (here : List Object) × (gains : List Object) × (rest : List Object) × (gained ≡ kept ++ gains) × (spelled ≡ here ++ rest) × IsKept push kept here × AreKept pushes gains rest

-- What is gained so is what is spelled, in its order, but for as many at most as it has less.
abbrev pub KeptLeaveOut : Type 0
KeptLeaveOut = (pushes : List Push) (gained spelled : List Object) (most : ℕ) → AreKept pushes gained spelled → length spelled ≤ length gained + most → LeavesOut gained spelled most

-- ---- push after push

-- once this has happened to its server, the inbox has gained these behind what it stored at first
abbrev pub HasGained : Settings → (before : List Object) → (past : List Occurrence) → (gain : List Object) → Type 0
HasGained settings before past gain = stored_in (all_done past (new_over settings before)).gift.content ≡ Some (before ++ gain)

-- By what happened to the server in a push the packets spell its object more, or none; and the inbox gained that, or nothing.
pub record SpellsHere (settings : Settings) (before : List Object) (past now : List Occurrence) (push : Push) : Type 0 where
  pub gained : List Object
  pub here : List Object
  pub spelled : objects settings now ≡ objects settings past ++ here
  pub stored : (gain : List Object) → HasGained settings before past gain → HasGained settings before now (gain ++ gained)
  pub kept : IsKept push gained here

abbrev pub SpellEach : Settings → (before : List Object) → (past : List Occurrence) → (pushes : List Push) → (last : Push) → Type 0
SpellEach settings before past [] last = SpellsHere settings before past (past ++ server_side last.moves) last
SpellEach settings before past (push ∷ pushes) last = SpellsHere settings before past (past ++ ended_with push) push × SpellEach settings before (past ++ ended_with push) pushes last

-- So it is of each of them over L2CAP, where the inbox does not lack memory, whatever becomes of the pushes.
abbrev pub PushesSpellEach : Type 0
PushesSpellEach = (settings : Settings) (before : List Object) (pushes : List Push) (last : Push) → AllByRecursion IsOffered pushes → IsOffered last → AllServeDirectly NoneShort (new_over settings before) (over_pushes pushes last)
    → SpellEach settings before [] pushes last

-- Behind the front of what happened one object more is spelled, that of this push, and the inbox gained it.
pub record KeepsLast (settings : Settings) (before : List Object) (push : Push) (occurrences : List Occurrence) : Type 0 where
  pub front : List Occurrence
  pub since : List Occurrence
  pub parts : occurrences ≡ front ++ since
  pub object : Object
  pub spelled : objects settings occurrences ≡ objects settings front ++ object ∷ []
  pub gain : List Object
  pub held : HasGained settings before front gain
  pub stored : HasGained settings before occurrences (gain ++ object ∷ [])
  pub once : (shelf : List Object) → IsOfShelfOrStill shelf push → ArePushed shelf (name_of push) (object ∷ [])

-- So it is of one that is done, where the clients of those behind it did nothing.
abbrev pub DoneIsLast : Type 0
DoneIsLast = (settings : Settings) (before : List Object) (pushes : List Push) (last : Push) → SpellEach settings before [] pushes last → (ahead : List Push) (one : Push) (behind : List Push) → pushes ++ last ∷ [] ≡ ahead ++ one ∷ behind → IsDone one
    → AllByRecursion (λ (push : Push). client_side push.moves ≡ []) behind → KeepsLast settings before one (over_pushes pushes last)

-- ---- all pushes

-- The inbox gained, push by push, the object that the packets spell of it or nothing; as many are left out at most as its calls used up faults.
pub record KeepsDone (settings : Settings) (before : List Object) (pushes : List Push) (last : Push) : Type 0 where
  pub gain : List Object
  pub stored : stored_in (all_done (over_pushes pushes last) (new_over settings before)).gift.content ≡ Some (before ++ gain)
  pub kept : AreKept (pushes ++ last ∷ []) gain (objects settings (over_pushes pushes last))
  pub few : length (objects settings (over_pushes pushes last)) ≤ length gain + spent_from (new_over settings before) (over_pushes pushes last)

-- So it is push after push over L2CAP, where the inbox does not lack memory, whatever becomes of the pushes.
abbrev pub DonePushesAreKept : Type 0
DonePushesAreKept = (settings : Settings) (before : List Object) (pushes : List Push) (last : Push) → AllByRecursion IsOffered pushes → IsOffered last → AllServeDirectly NoneShort (new_over settings before) (over_pushes pushes last)
    → KeepsDone settings before pushes last
