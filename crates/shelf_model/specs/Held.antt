-- What a shelf answers: octets, and what it tells of the objects that it holds (this project's own).
use Rattle.std.specs.Prelude.{ℕ, ◌≡◌, ◌≤◌, ◌==◌, ◌&&◌, ◌+◌, ◌%◌, min, nat_le, Bool, true, false, List, map, length, take, drop, Option, Some, None, Result, Ok, Err, IfSome}
use Rattle.std.specs.List.{AllByRecursion}
use Rattle.std.specs.Option.{option_map}
use Rattle.std.specs.Str.{bytes_eq}
use Rattle.host_model.specs.bt_base.specs.Objects.{Object, octets_of, HasAt}
use Rattle.host_model.specs.bt_base.specs.Octets.{IsOctets}
use Rattle.host_model.specs.bt_base.specs.declared.ports.PortFault.{PortFault}
use Rattle.host_model.specs.bt_base.specs.declared.ports.PortFault.TheVariants.{Failed}
use Rattle.host_model.specs.push_model.specs.Steps.{Part as Octets}
use Rattle.host_model.specs.world_model.specs.Machines.{News, Linked, Failed as NotLinked, Heard, TimerFired, Cancelled, Opening, Upper}
use Rattle.host_model.specs.Circumstances.{Circumstance, Excerpt, Size, Part, Stored, size_in, parts_in}

-- how long the object of that name is, where the shelf holds one
abbrev pub length_of : List ℕ → List Object → Option ℕ
length_of name objects = option_map length (octets_of name objects)

-- ---- octets

-- the longest object that a client can push: the header Length is a number of four octets (IrOBEX 1.5, 2.2.3)
abbrev pub longest_octets : ℕ
longest_octets = 4294967295

-- the octet that has the low eight bits of a number; the number itself, where that is one
abbrev pub low_octet : ℕ → ℕ
low_octet n = n % 256

abbrev pub part_in_octets : Octets → Octets
part_in_octets (Ok part) = Ok (map low_octet part)
part_in_octets (Err fault) = Err fault

abbrev pub size_in_octets : Result ℕ PortFault → Result ℕ PortFault
size_in_octets (Ok size) = Ok (min size longest_octets)
size_in_octets (Err fault) = Err fault

-- a part of an object that was given is in octets
abbrev pub IsPartOctets : Octets → Type 0
IsPartOctets (Ok part) = IsOctets part
IsPartOctets (Err fault) = Unit {0}

-- ---- excerpts

-- these octets stand in the object from that place on
abbrev pub is_at : ℕ → List ℕ → Option (List ℕ) → Bool
is_at at part None = false
is_at at part (Some octets) = nat_le (at + length part) (length octets) && bytes_eq part (take (length part) (drop at octets))

abbrev pub part_where : Bool → List ℕ → Octets
part_where true part = Ok part
part_where false part = Err Failed

-- octets that do not stand there are a fault
abbrev pub standing : List Object → List ℕ → ℕ → Octets → Octets
standing objects name at (Ok part) = part_where (is_at at part (octets_of name objects)) part
standing objects name at (Err fault) = Err fault

-- a shelf that does not tell what it holds gives any
abbrev pub given_at : Option (List Object) → List ℕ → ℕ → Octets → Octets
given_at None name at answer = answer
given_at (Some objects) name at answer = standing objects name at answer

-- Each shelf answers in octets, and tells a length that stands in four of them; one that tells what it holds gives those that stand there.
abbrev pub given_by : Option (List Object) → Circumstance → Circumstance
given_by shelf (Size answer) = Size (size_in_octets answer)
given_by shelf (Part excerpt) = Part (record excerpt { answer = given_at shelf excerpt.name excerpt.at (part_in_octets excerpt.answer) })
given_by shelf (Stored answer) = Stored answer

abbrev pub IsThere : Option (List Object) → (name : List ℕ) (at : ℕ) → Octets → Type 0
IsThere shelf name at (Ok part) = IsOctets part × IfSome shelf (λ objects. HasAt at part (octets_of name objects))
IsThere shelf name at (Err fault) = Unit {0}

-- an excerpt that was given are octets, and where the shelf tells what it holds, those that stand there
abbrev pub IsHeld : Option (List Object) → Excerpt → Type 0
IsHeld shelf excerpt = IsThere shelf excerpt.name excerpt.at excerpt.answer

-- ---- an answer

abbrev pub is_length : Option ℕ → ℕ → Bool
is_length None size = false
is_length (Some length) size = length == size

abbrev pub size_where : Bool → ℕ → Result ℕ PortFault
size_where true size = Ok size
size_where false size = Err Failed

-- a length that is not that of its object is a fault
abbrev pub sized : List ℕ → List Object → Result ℕ PortFault → Result ℕ PortFault
sized name objects (Ok size) = size_where (is_length (length_of name objects) size) size
sized name objects (Err fault) = Err fault

abbrev pub sized_in : List ℕ → List Object → Circumstance → Circumstance
sized_in name objects (Size answer) = Size (sized name objects answer)
sized_in name objects (Part excerpt) = Part excerpt
sized_in name objects (Stored answer) = Stored answer

-- ---- a machine whose shelf holds these

-- with the begin of a push its shelf tells how long the object is, if anything
abbrev pub told_of : List Object → News → List Circumstance → List Circumstance
told_of objects (Linked event) answers = answers
told_of objects (NotLinked status) answers = answers
told_of objects (Heard pdu) answers = answers
told_of objects TimerFired answers = answers
told_of objects Cancelled answers = answers
told_of objects (Opening name) answers = map (sized_in name objects) answers

-- a shelf that does not tell what it holds tells any length
abbrev pub told_by : Option (List Object) → News → List Circumstance → List Circumstance
told_by None news answers = answers
told_by (Some objects) news answers = told_of objects news answers

-- all that it answers
abbrev pub held_by : Option (List Object) → News → List Circumstance → List Circumstance
held_by shelf news answers = told_by shelf news (map (given_by shelf) answers)

-- ---- the laws

-- So all that a shelf gives are octets, of its objects where it tells what it holds; and each length that it tells is a number of four octets.
pub record ShelvesGiveWhatTheyHold : Type 0 where
  pub parts : (shelf : Option (List Object)) (news : News) (answers : List Circumstance) → AllByRecursion (IsHeld shelf) (parts_in (held_by shelf news answers))
  pub sizes : (shelf : Option (List Object)) (news : News) (answers : List Circumstance) (size : ℕ) → size_in (held_by shelf news answers) ≡ Ok size → size ≤ longest_octets

-- And where such a shelf tells how long an object is, it holds one of that name, and that is as long.
abbrev pub SizesAreOfObjects : Type 0
SizesAreOfObjects = (objects : List Object) (name : List ℕ) (answers : List Circumstance) (size : ℕ) → size_in (told_of objects (Opening name) answers) ≡ Ok size → length_of name objects ≡ Some size
