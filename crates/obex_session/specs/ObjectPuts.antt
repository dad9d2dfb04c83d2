-- The PUT packets that a client's session writes for one object, one after the other.
use Rattle.std.specs.Prelude.{◌≡◌, ℕ, ◌<◌, ◌≤◌, ◌^◌, Bool, true, false, List, [], ◌∷◌, ◌++◌, length, take, map, Option, Some, None, IfSome}
use Rattle.std.specs.List.{AllByRecursion}
use Rattle.bt_base.specs.Objects.{Object, octets_of}
use Rattle.obex_headers.specs.declared.packet.Phase.TheVariants.{Request}
use Rattle.obex_headers.specs.Packets.{PlainHeader, PlainPacket, IsPacket, packet_octets}
use Rattle.obex_headers.specs.Runs.{joined, spelled}
use Rattle.obex_session.specs.declared.client.PutNext.{PutNext}
use Rattle.obex_session.specs.declared.client.PutNext.TheVariants.{Packet, Wait, ShelfFault, NoMemory}
use Rattle.obex_session.specs.PutPackets.{units_in, head_of, put_packet, object_packets}
use Rattle.obex_session.specs.Asking.{Asking}
use Rattle.obex_session.specs.NextPut.{PutsNext}

-- the packets of the parts ahead of the last
abbrev pub front_packets : List PlainHeader → List (List ℕ) → List PlainPacket
front_packets ahead [] = []
front_packets ahead (part ∷ parts) = put_packet false ahead part ∷ front_packets [] parts

-- how many octets were put with these parts, if there is one
abbrev pub place_behind : List (List ℕ) → Option ℕ
place_behind [] = None
place_behind (part ∷ parts) = Some (length (joined (part ∷ parts)))

-- the octets are the first of the object on the shelf, where the shelf tells it and has one of that size
abbrev pub Fronts : List ℕ → ℕ → List ℕ → Option (List Object) → Type 0
Fronts name size octets content = IfSome content (λ objects. IfSome (octets_of name objects) (λ object. length object ≡ size → octets ≡ take (length octets) object))

-- the session said these packets of the object so far, and none of them was final
pub record HasPut (name : List ℕ) (size : ℕ) (said : List (List ℕ)) (session : Asking) (content : Option (List Object)) : Type 0 where
  pub parts : List (List ℕ)
  pub said_is : said ≡ map packet_octets (front_packets (head_of session.wanted (units_in name) size) parts)
  pub sound : AllByRecursion (IsPacket Request) (front_packets (head_of session.wanted (units_in name) size) parts)
  pub place : session.put ≡ place_behind parts
  pub within : length (joined parts) ≤ size
  pub fronts : Fronts name size (joined parts) content

-- these are all packets of the object: its body is cut into parts and a last one, which are its octets
pub record IsWhole (wanted : Bool) (name : List ℕ) (size : ℕ) (said : List (List ℕ)) (content : Option (List Object)) : Type 0 where
  pub parts : List (List ℕ)
  pub last : List ℕ
  pub said_is : said ≡ map packet_octets (object_packets wanted (units_in name) size parts last)
  pub sound : AllByRecursion (IsPacket Request) (object_packets wanted (units_in name) size parts last)
  pub len : length (joined parts ++ last) ≡ size
  pub fronts : Fronts name size (joined parts ++ last) content

-- what was said of the object with one packet more
abbrev pub GoesOnTo : List ℕ → ℕ → List (List ℕ) → Asking → Option (List Object) → List ℕ → PutNext → Type 0
GoesOnTo name size said session content room (Packet count true) = IsWhole session.wanted name size (said ++ take count room ∷ []) content
GoesOnTo name size said session content room (Packet count false) = HasPut name size (said ++ take count room ∷ []) session content
GoesOnTo name size said session content room Wait = HasPut name size said session content
GoesOnTo name size said session content room ShelfFault = HasPut name size said session content
GoesOnTo name size said session content room NoMemory = HasPut name size said session content

-- packet for packet, what a session puts of an object is that object's packets, with the same name and size throughout
pub record PutsInOrder : Type 0 where
  pub begins : (name : List ℕ) (size : ℕ) (session : Asking) (content : Option (List Object)) → session.put ≡ None → HasPut name size [] session content
  pub goes_on : (name : List ℕ) (size limit : ℕ) (said : List (List ℕ)) (session session' : Asking) (content : Option (List Object)) (room room' : List ℕ) (answer : PutNext)
      → length (units_in name) ≤ 100 → size < 2 ^ 32 → limit < 2 ^ 15 → 255 ≤ limit → 255 ≤ session.limit
      → HasPut name size said session content → PutsNext session session' name size limit content room room' answer → GoesOnTo name size said session' content room' answer
  pub stays : (name : List ℕ) (size : ℕ) (said : List (List ℕ)) (session session' : Asking) (content : Option (List Object)) → session'.put ≡ session.put → session'.wanted ≡ session.wanted → HasPut name size said session content → HasPut name size said session' content

-- all packets of an object spell it
abbrev pub SpellsTheObject : Type 0
SpellsTheObject = (wanted : Bool) (name : List ℕ) (size : ℕ) (said : List (List ℕ)) (objects : List Object) (object : List ℕ) → length (units_in name) ≤ 255 → AllByRecursion (λ unit. unit < 2 ^ 16) (units_in name) → size ≤ 16777215
    → IsWhole wanted name size said (Some objects) → octets_of name objects ≡ Some object → length object ≡ size → spelled said ≡ record { name = units_in name; octets = object } ∷ []
