-- What a client makes of what its shelf answers: an excerpt of another object or from another place than was asked for, or one that is not as
-- long, is a fault of the shelf, and a name that is too long is that of no object (this project's own).
use Rattle.std.specs.Prelude.{ℕ, ◌-◌, ◌==◌, ◌&&◌, nat_le, Bool, true, false, List, [], ◌∷◌, length, map, drop, Result, Ok, Err, if◌then◌else◌}
use Rattle.rest_laws.specs.bt_base.specs.declared.ports.PortFault.{PortFault}
use Rattle.rest_laws.specs.bt_base.specs.declared.ports.PortFault.TheVariants.{Failed}
use Rattle.std.specs.Str.{bytes_eq}
use Rattle.push_model.specs.obex_session.specs.PutPackets.{units_in, place_of}
use Rattle.push_model.specs.Client.{Client}
use Rattle.push_model.specs.Steps.{Part, put_count}
use Rattle.host_model.specs.Circumstances.{Circumstance, Excerpt, size_in}

-- ---- a push begins

-- a name has at most 100 UTF-16 units
abbrev pub is_short : List ℕ → Bool
is_short name = nat_le (length (units_in name)) 100

abbrev pub size_if : Bool → Result ℕ PortFault → Result ℕ PortFault
size_if true size = size
size_if false size = Err Failed

abbrev pub name_if : Bool → List ℕ → List ℕ
name_if true name = name
name_if false name = []

-- a push under another name ends as one does whose object the shelf lacks
abbrev pub size_for : List Circumstance → List ℕ → Result ℕ PortFault
size_for circumstances name = size_if (is_short name) (size_in circumstances)

abbrev pub name_for : List ℕ → List ℕ
name_for name = name_if (is_short name) name

-- ---- a step

-- as many octets as were asked for
abbrev pub measured : ℕ → Part → Part
measured count (Ok part) = if length part == count then Ok part else Err Failed
measured count (Err fault) = Err fault

-- it is of the object that the client pushes, from where the body of its next PUT begins
abbrev pub is_next : Client → Excerpt → Bool
is_next client excerpt = bytes_eq excerpt.name client.name && excerpt.at == place_of client.session.put

abbrev pub part_for : Client → Excerpt → Part
part_for client excerpt = if is_next client excerpt then measured (put_count client) excerpt.answer else Err Failed

abbrev pub bare_part : Excerpt → Part
bare_part excerpt = excerpt.answer

-- the first answer is for the next PUT
abbrev pub fitting : Client → List Excerpt → List Part
fitting client [] = []
fitting client (excerpt ∷ excerpts) = part_for client excerpt ∷ map bare_part excerpts

-- behind a step that left so many of its answers these are left of them
abbrev pub unused : (left : List Part) (excerpts : List Excerpt) → List Excerpt
unused left excerpts = drop (length excerpts - length left) excerpts
