-- What is spelled of what is pushed: the objects of the shelf, each whole and once at most, in the order of the pushes (Object Push Profile 1.2, 4.3;
-- IrOBEX 1.5, 3.4).
use Rattle.std.specs.Prelude.{ℕ, ◌≡◌, ◌<◌, ◌^◌, ◌⊎◌, List, [], ◌∷◌, ◌++◌, length, Option, Some, None}
use Rattle.std.specs.List.{AllByRecursion, flat_map}
use Rattle.link_talk.specs.bt_base.specs.declared.settings.Settings.{Settings}
use Rattle.link_talk.specs.bt_base.specs.Objects.{Object, octets_of}
use Rattle.push_model.specs.obex_session.specs.PutPackets.{units_in}
use Rattle.push_model.specs.Laws.{Deed}
use Rattle.push_laws.specs.Gains.{objects}
use Rattle.push_laws.specs.Laws.{new_over}
use Rattle.push_laws.specs.Occurrences.{Occurrence}
use Rattle.push_laws.specs.Parties.{Push, IsOffered, over_pushes, client_side}
use Rattle.push_laws.specs.Premises.{NoneShort}
use Rattle.push_laws.specs.Readings.{passed_by}
use Rattle.push_laws.specs.Searches.{IsPushedOver, AllServe}

-- ---- an object of a shelf

-- these are no object, or the one that the shelf holds under that name: its name in UTF-16 units, and all its octets
abbrev pub IsOnce : (shelf : List Object) (name : List ℕ) (spelled : List Object) → Type 0
IsOnce shelf name spelled = (spelled ≡ []) ⊎ ((octets : List ℕ) × (octets_of name shelf ≡ Some octets) × (spelled ≡ record { name = units_in name; octets = octets } ∷ []))

-- These are what the shelf holds under some of these names, in their order: whole, and of each name in the list once at most.
abbrev pub ArePushed : (shelf : List Object) (names : List (List ℕ)) (spelled : List Object) → Type 0
ArePushed shelf [] spelled = spelled ≡ []
ArePushed shelf (name ∷ names) spelled = (here : List Object) × (rest : List Object) × (spelled ≡ here ++ rest) × IsOnce shelf name here × ArePushed shelf names rest

-- these are some of the names, in their order
abbrev pub AreAmong : (some names : List (List ℕ)) → Type 0
AreAmong some [] = some ≡ []
AreAmong some (name ∷ names) = AreAmong some names ⊎ ((rest : List (List ℕ)) × (some ≡ name ∷ rest) × AreAmong rest names)

-- ---- a push of one

-- The shelf tells what it holds, and its object of that name is as long as it told.
pub record IsOfShelf (shelf : List Object) (name : List ℕ) (size : ℕ) (content : Option (List Object)) : Type 0 where
  pub content_is : content ≡ Some shelf
  pub units : AllByRecursion (λ unit. unit < 2 ^ 16) (units_in name)
  pub octets : List ℕ
  pub there : octets_of name shelf ≡ Some octets
  pub long : length octets ≡ size

-- or its client does nothing
abbrev pub IsOfShelfOrStill : List Object → Push → Type 0
IsOfShelfOrStill shelf push = (client_side push.moves ≡ []) ⊎ IsOfShelf shelf push.name push.size push.content

-- the name of a push, where its client does something
abbrev pub name_by : List Deed → List ℕ → List (List ℕ)
name_by [] name = []
name_by (deed ∷ deeds) name = name ∷ []

abbrev pub name_of : Push → List (List ℕ)
name_of push = name_by (client_side push.moves) push.name

abbrev pub names_of : List Push → List (List ℕ)
names_of pushes = flat_map name_of pushes

-- ---- the laws

-- nothing moves on the channel of the multiplexer
abbrev pub PassesNone : Occurrence → Type 0
PassesNone one = passed_by one ≡ None

-- Of each such push over L2CAP its object is spelled, once, or none, whatever becomes of the pushes and whatever the inbox answers; of objects of any
-- size and in any mode.
abbrev pub PushesSpellOnce : Type 0
PushesSpellOnce = (settings : Settings) (shelf : List Object) (pushes : List Push) (last : Push) → AllByRecursion IsOffered pushes → IsOffered last → AllByRecursion (IsOfShelfOrStill shelf) (pushes ++ last ∷ [])
    → AllByRecursion PassesNone (over_pushes pushes last) → ArePushed shelf (names_of (pushes ++ last ∷ [])) (objects settings (over_pushes pushes last))

-- So it is over RFCOMM, where the inbox does not lack memory.
abbrev pub PushedSpellOnce : Type 0
PushedSpellOnce = (settings : Settings) (before shelf : List Object) (pushes : List Push) (last : Push) → AllByRecursion IsPushedOver pushes → IsPushedOver last → AllByRecursion (IsOfShelfOrStill shelf) (pushes ++ last ∷ [])
    → AllServe NoneShort (new_over settings before) (over_pushes pushes last) → ArePushed shelf (names_of (pushes ++ last ∷ [])) (objects settings (over_pushes pushes last))
