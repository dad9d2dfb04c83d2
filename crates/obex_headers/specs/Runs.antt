-- Objects, as runs of PUT packets spell them (IrOBEX 1.5, 3.4.3; Object Push Profile 1.2, 4.3). The bounds on a
-- Name and on an object are this project's own.
use Rattle.std.specs.Prelude.{◌≡◌, ℕ, ◌<◌, ◌≤◌, ◌==◌, ◌||◌, ◌&&◌, ◌⊎◌, ◌↔◌, Bool, true, false, List, [], ◌∷◌, ◌++◌, length, map, nat_lt, Option, Some, None, is_none, Result, Ok, Err, if◌then◌else◌}
use Rattle.std.specs.List.{flat_map, filter_map, take_while, list_any, AllByRecursion}
use Rattle.bt_base.specs.Objects.{Object}
use Rattle.obex_headers.specs.declared.fault.ObexRefusal.{ObexRefusal}
use Rattle.obex_headers.specs.declared.packet.Phase.TheVariants.{Request}
use Rattle.obex_headers.specs.Packets.{PlainValue, Text, Octets, One, Four, PlainHeader, PlainPacket, units_of}
use Rattle.obex_headers.specs.Reading.{packet_in}

-- ---- packets as they are heard

-- a PUT is 02, and 82 where it is the final one
abbrev pub is_final : PlainPacket → Bool
is_final packet = packet.code == 0x82

abbrev pub put_of : Result PlainPacket ObexRefusal → Option PlainPacket
put_of (Ok packet) = if (packet.code == 0x02) || (packet.code == 0x82) then Some packet else None
put_of (Err refusal) = None

-- the PUT that the octets are; there is none where they are another packet, or are refused
abbrev pub put_in : List ℕ → Option PlainPacket
put_in octets = put_of (packet_in Request 65535 octets)

abbrev pub heard : List (List ℕ) → List (Option PlainPacket)
heard packets = map put_in packets

-- ---- what the headers of a run say

abbrev pub text_in : PlainValue → Option (List ℕ)
text_in (Text octets) = Some octets
text_in (Octets octets) = None
text_in (One octet) = None
text_in (Four number) = None

abbrev pub octets_in : PlainValue → Option (List ℕ)
octets_in (Text octets) = None
octets_in (Octets octets) = Some octets
octets_in (One octet) = None
octets_in (Four number) = None

-- the text of a Name header (01)
abbrev pub name_text : PlainHeader → Option (List ℕ)
name_text header = if header.id == 0x01 then text_in header.value else None

-- the octets of a Body (48) or an End of Body header (49)
abbrev pub body_of : PlainHeader → Option (List ℕ)
body_of header = if (header.id == 0x48) || (header.id == 0x49) then octets_in header.value else None

-- the names, as units
abbrev pub names : List PlainHeader → List (List ℕ)
names headers = map units_of (filter_map name_text headers)

abbrev pub bodies : List PlainHeader → List (List ℕ)
bodies headers = filter_map body_of headers

-- the headers ahead of the first Name
abbrev pub ahead_of_name : List PlainHeader → List PlainHeader
ahead_of_name headers = take_while (λ header. is_none (name_text header)) headers

-- parts, one after the other
abbrev pub joined : List (List ℕ) → List ℕ
joined parts = flat_map (λ part. part) parts

-- the headers of all packets of a run
abbrev pub run_headers : List PlainPacket → List PlainHeader
run_headers run = flat_map (λ packet. packet.headers) run

-- ---- the rules, over a whole run

-- at most one Name, of at most 255 units; no body ahead of it; at most 16,777,215 octets
pub record KeepsRules (headers : List PlainHeader) : Type 0 where
  pub one_name : length (names headers) ≤ 1
  pub short_name : AllByRecursion (λ name. length name ≤ 255) (names headers)
  pub name_first : bodies (ahead_of_name headers) ≡ []
  pub bounded : length (joined (bodies headers)) ≤ 16777215

-- PUTs that go on: none of them is final, and together they keep the rules
pub record IsOpen (run : List PlainPacket) : Type 0 where
  pub not_final : AllByRecursion (λ packet. is_final packet ≡ false) run
  pub rules : KeepsRules (run_headers run)

-- PUTs that spell an object: the last alone is final, they keep the rules, and they have a Name and a body
pub record SpellsObject (run : List PlainPacket) (object : Object) : Type 0 where
  pub front : List PlainPacket
  pub last : PlainPacket
  pub parts : run ≡ front ++ last ∷ []
  pub not_final : AllByRecursion (λ packet. is_final packet ≡ false) front
  pub final : is_final last ≡ true
  pub rules : KeepsRules (run_headers run)
  pub name : names (run_headers run) ≡ object.name ∷ []
  pub has_body : 0 < length (bodies (run_headers run))
  pub octets : object.octets ≡ joined (bodies (run_headers run))

-- what ends a run without an object: what is no PUT, a PUT with which a rule is broken, and a final one without a Name or a body
abbrev pub EndsWithout : List PlainPacket → Option PlainPacket → Type 0
EndsWithout run None = Unit {0}
EndsWithout run (Some put) = (KeepsRules (run_headers (run ++ put ∷ [])) → ⊥)
    ⊎ ((is_final put ≡ true) × ((names (run_headers (run ++ put ∷ [])) ≡ []) ⊎ (bodies (run_headers (run ++ put ∷ [])) ≡ [])))

-- ---- a whole list of packets

-- a stretch of packets: PUTs that spell an object, or a run that its last packet ends without one
pub data Stretch : Type 0 where
  Spelling : (run : List PlainPacket) → (object : Object) → Stretch
  Broken : (run : List PlainPacket) → (last : Option PlainPacket) → Stretch

abbrev pub IsStretch : Stretch → Type 0
IsStretch (Spelling run object) = SpellsObject run object
IsStretch (Broken run last) = IsOpen run × EndsWithout run last

abbrev pub puts : List PlainPacket → List (Option PlainPacket)
puts run = map (λ put. Some put) run

abbrev pub stretch_packets : Stretch → List (Option PlainPacket)
stretch_packets (Spelling run object) = puts run
stretch_packets (Broken run last) = puts run ++ last ∷ []

abbrev pub stretch_objects : Stretch → List Object
stretch_objects (Spelling run object) = object ∷ []
stretch_objects (Broken run last) = []

-- the packets fall into stretches and PUTs that go on, and the objects are those of the stretches
pub record FallsInto (packets : List (Option PlainPacket)) (objects : List Object) : Type 0 where
  pub stretches : List Stretch
  pub open_run : List PlainPacket
  pub are_stretches : AllByRecursion IsStretch stretches
  pub is_open : IsOpen open_run
  pub packets_are : packets ≡ flat_map stretch_packets stretches ++ puts open_run
  pub objects_are : objects ≡ flat_map stretch_objects stretches

-- ---- the same, packet by packet, with the run so far

abbrev pub is_long : List ℕ → Bool
is_long name = nat_lt 255 (length name)

-- a rule is broken
abbrev pub breaks : List PlainHeader → Bool
breaks headers = nat_lt 1 (length (names headers)) || list_any is_long (names headers) || nat_lt 0 (length (bodies (ahead_of_name headers))) || nat_lt 16777215 (length (joined (bodies headers)))

-- there is no Name or no body
abbrev pub lacks : List PlainHeader → Bool
lacks headers = (length (names headers) == 0) || (length (bodies headers) == 0)

-- the object of a run: its one name, and its bodies joined
abbrev pub object_of : List PlainHeader → Object
object_of headers = record { name = joined (names headers); octets = joined (bodies headers) }

-- the objects, from a place on behind a run
abbrev pub objects_from : List PlainPacket → List (Option PlainPacket) → List Object
objects_from run [] = []
objects_from run (None ∷ rest) = objects_from [] rest
objects_from run (Some put ∷ rest) =
    if breaks (run_headers (run ++ put ∷ [])) || (is_final put && lacks (run_headers (run ++ put ∷ []))) then objects_from [] rest
    else if is_final put then object_of (run_headers (run ++ put ∷ [])) ∷ objects_from [] rest
    else objects_from (run ++ put ∷ []) rest

-- the objects that packets spell, in the order of their last packets; each packet is given by its octets
abbrev pub spelled : List (List ℕ) → List Object
spelled packets = objects_from [] (heard packets)

-- the objects are those of the stretches into which the packets fall, however that is shown
abbrev pub SpellsByStretches : Type 0
SpellsByStretches = (packets : List (List ℕ)) (objects : List Object) → (objects ≡ spelled packets) ↔ FallsInto (heard packets) objects
