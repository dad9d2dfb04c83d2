-- The PUT packets of one object, as a client writes them (IrOBEX 1.5, 3.4.3; Object Push Profile 1.2, 4.3): Name and
-- Length stand in the first, each has a body, and the last alone is final and ends the body.
use Rattle.std.specs.Prelude.{◌≡◌, ℕ, ◌+◌, ◌-◌, ◌<◌, ◌≤◌, ◌^◌, Bool, true, false, List, [], ◌∷◌, ◌++◌, length, drop, map, Option, Some, None, IfSome, if◌then◌else◌}
use Rattle.std.specs.List.{flat_map, AllByRecursion}
use Rattle.std.specs.Char.Escape.{encode_utf16}
use Rattle.std.specs.Str.{chars}
use Rattle.bt_base.specs.Objects.{Object, octets_of, HasAt}
use Rattle.bt_base.specs.Objects.{reaches}
use Rattle.obex_headers.specs.declared.packet.Phase.TheVariants.{Request}
use Rattle.obex_headers.specs.Packets.{Text, Octets, Four, PlainHeader, PlainPacket, IsPacket, text_octets, headers_octets, packet_octets}
use Rattle.obex_headers.specs.Runs.{joined, spelled}
use Rattle.obex_session.specs.Responses.{single_header}

-- Name (01), Length (C3) with the octets of the whole object, and where it is wanted, single response mode
abbrev pub head_with : Bool → List ℕ → ℕ → List PlainHeader
head_with wanted text size = record { id = 0x01; value = Text text } ∷ record { id = 0xC3; value = Four size } ∷ (if wanted then single_header ∷ [] else [])

abbrev pub head_of : Bool → List ℕ → ℕ → List PlainHeader
head_of wanted units size = head_with wanted (text_octets units) size

-- Body (48), or End of Body (49) in the final packet
abbrev pub body_header : Bool → List ℕ → PlainHeader
body_header final part = record { id = if final then 0x49 else 0x48; value = Octets part }

-- a PUT (02, final 82) with these headers ahead of its body
abbrev pub put_packet : Bool → List PlainHeader → List ℕ → PlainPacket
put_packet final ahead part = record { code = if final then 0x82 else 0x02; extra = []; headers = ahead ++ body_header final part ∷ [] }

-- the packets of an object whose body is cut into these parts and a last one
abbrev pub packets_from : List PlainHeader → List (List ℕ) → List ℕ → List PlainPacket
packets_from ahead [] last = put_packet true ahead last ∷ []
packets_from ahead (part ∷ parts) last = put_packet false ahead part ∷ packets_from [] parts last

abbrev pub object_packets : Bool → List ℕ → ℕ → List (List ℕ) → List ℕ → List PlainPacket
object_packets wanted units size parts last = packets_from (head_of wanted units size) parts last

-- however the body of an object of at most 16,777,215 octets is cut, its packets spell it
abbrev pub SpellsWhatIsPut : Type 0
SpellsWhatIsPut = (wanted : Bool) (units : List ℕ) (size : ℕ) (parts : List (List ℕ)) (last : List ℕ) → AllByRecursion (λ unit. unit < 2 ^ 16) units → length units ≤ 255 → length (joined parts ++ last) ≤ 16777215
    → AllByRecursion (IsPacket Request) (object_packets wanted units size parts last)
    → spelled (map packet_octets (object_packets wanted units size parts last)) ≡ record { name = units; octets = joined parts ++ last } ∷ []

-- the UTF-16 units of a name in UTF-8 (The Unicode Standard, 3.9)
abbrev pub units_in : List ℕ → List ℕ
units_in name = flat_map encode_utf16 (chars name)

-- ---- how a packet is cut

-- the headers ahead of the body: those of the head in the first packet of an object, and none in the others
abbrev pub ahead_with : Bool → Option ℕ → List ℕ → ℕ → List PlainHeader
ahead_with wanted None text size = head_with wanted text size
ahead_with wanted (Some place) text size = []

abbrev pub ahead_of : Bool → Option ℕ → List ℕ → ℕ → List PlainHeader
ahead_of wanted put name size = ahead_with wanted put (text_octets (units_in name)) size

-- how many octets of the object were put before
abbrev pub place_of : Option ℕ → ℕ
place_of None = 0
place_of (Some place) = place

-- how many octets of a body have room, in a packet of at most `limit` octets with these headers ahead of it
abbrev pub room_in : ℕ → List PlainHeader → ℕ
room_in limit ahead = limit - (6 + length (headers_octets ahead))

-- a packet was written to the front of the room: its part of the object stands on the shelf, where the shelf tells it
pub record WritesPut (final : Bool) (ahead : List PlainHeader) (n : ℕ) (name : List ℕ) (place : ℕ) (content : Option (List Object)) (room room' : List ℕ) (count : ℕ) : Type 0 where
  pub part : List ℕ
  pub part_len : length part ≡ n
  pub told : 0 < n → IfSome content (λ objects. HasAt place part (octets_of name objects))
  pub count_is : count ≡ length (packet_octets (put_packet final ahead part))
  pub written : room' ≡ packet_octets (put_packet final ahead part) ++ drop count room

-- the shelf tells its content, and the object of that name has so many octets
abbrev pub Reaches : ℕ → List ℕ → Option (List Object) → Type 0
Reaches end name None = ⊥
Reaches end name (Some objects) = reaches end (octets_of name objects) ≡ true
