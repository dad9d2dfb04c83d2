-- Objects, and what the calls of a shelf and of an inbox do, where their contents are told (this project's own).
use Rattle.std.specs.Prelude.{ℕ, Bool, false, nat_le, ◌≡◌, ◌<◌, ◌≤◌, ◌+◌, ◌++◌, ⊤, List, [], length, take, drop, find, Option, Some, None, Result, Ok, Err, IfSome, IsErrOf, option_to_list}
use Rattle.std.specs.Option.{option_map}
use Rattle.std.specs.Str.{bytes_eq}
use Rattle.bt_base.specs.Counts.{HasRisen}
use Rattle.bt_base.specs.declared.ports.PortFault.{PortFault}
use Rattle.bt_base.specs.declared.ports.PortFault.TheVariants.{Failed}

-- a name and octets: on a shelf the name is UTF-8 text, in an inbox it is UTF-16 units
pub record Object : Type 0 where
  pub name : List ℕ
  pub octets : List ℕ

-- the octets of the object of that name on a shelf
abbrev pub octets_of : List ℕ → List Object → Option (List ℕ)
octets_of name objects = option_map (λ object. object.octets) (find (λ object. bytes_eq object.name name) objects)

-- there is an object, and it does not end before that place
abbrev pub reaches : ℕ → Option (List ℕ) → Bool
reaches end None = false
reaches end (Some octets) = nat_le end (length octets)

-- there is no object, or it ends before that place
abbrev pub EndsBefore : ℕ → Option (List ℕ) → Type 0
EndsBefore end None = ⊤
EndsBefore end (Some octets) = length octets < end

-- these octets stand in the object from that place on
abbrev pub HasAt : ℕ → List ℕ → Option (List ℕ) → Type 0
HasAt at part None = ⊥
HasAt at part (Some octets) = (at + length part ≤ length octets) × (part ≡ take (length part) (drop at octets))

-- A look for the octets before `end` of the object of that name. They are absent where there is no such object or
-- it ends before: then the call fails, and both counts rise.
pub record HasLooked {A : Type 0} (content : Option (List Object)) (name : List ℕ) (end faults faults' absences absences' : ℕ) (result : Result A PortFault) : Type 0 where
  pub stay : absences ≤ absences'
  pub failed : absences < absences' → IsErrOf result Failed
  pub absent : absences < absences' → IfSome content (λ objects. EndsBefore end (octets_of name objects))
  pub all_fail : IfSome content (λ objects. EndsBefore end (octets_of name objects) → IsErrOf result Failed × HasRisen faults faults' × HasRisen absences absences')

-- what an inbox holds: the objects that it stored, in order, and the one that is not stored yet
pub record Contents : Type 0 where
  pub stored : List Object
  pub pending : Option Object

-- a new object is pending, with no octets yet
abbrev pub begun : List ℕ → Contents → Contents
begun name contents = record contents { pending = Some (record { name = name; octets = [] }) }

-- the object with a piece at its end
abbrev pub longer : List ℕ → Object → Object
longer piece object = record object { octets = object.octets ++ piece }

-- the pending object goes on with the piece
abbrev pub appended : List ℕ → Contents → Contents
appended piece contents = record contents { pending = option_map (longer piece) contents.pending }

-- the pending object is stored, at the end
abbrev pub committed : Contents → Contents
committed contents = record { stored = contents.stored ++ option_to_list contents.pending; pending = None }

-- no object is pending
abbrev pub aborted : Contents → Contents
aborted contents = record contents { pending = None }

-- what a call leaves that does `step` where it succeeds: after a fault none is pending and the list is as before
abbrev pub stepped : {A : Type 0} → Result A PortFault → (Contents → Contents) → Option Contents → Option Contents
stepped (Ok done) step content = option_map step content
stepped (Err fault) step content = option_map aborted content
