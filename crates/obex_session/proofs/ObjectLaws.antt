-- The packets that a client's session puts of one object.
use Rattle.std.proofs.Common.{Bool, true, false, cond, leb, ◌≡◌, ℕ, ◌+◌, ◌-◌, ◌*◌, ◌<◌, ◌≤◌, ◌^◌, List, [], ◌∷◌, ◌++◌, length, take, drop, map, Option, Some, None, refl, sym, ap, subst, ◌∙◌, arith}
use Rattle.std.specs.Prelude.{IfSome, min}
use Rattle.std.specs.List.{flat_map, AllByRecursion}
use Rattle.std.proofs.lemmas.Bool.{leb-true}
use Rattle.std.proofs.lemmas.List.{append-nil, length-append, map-append, take_at}
use Rattle.std.proofs.lemmas.Grind.{flat_map-append}
use Rattle.std.proofs.Math.Seq.{take-add}
use Rattle.bt_base.specs.Objects.{Object, octets_of, HasAt}
use Rattle.bt_base.specs.Octets.{be16}
use Rattle.obex_headers.specs.declared.packet.Phase.TheVariants.{Request}
use Rattle.obex_headers.specs.Packets.{Four, PlainHeader, PlainPacket, IsHeader, IsPacket, HasFields, text_octets, header_octets, headers_octets, packet_len, packet_octets}
use Rattle.obex_headers.specs.Runs.{joined, heard, spelled}
use Rattle.obex_session.specs.declared.client.PutNext.{PutNext}
use Rattle.obex_session.specs.declared.client.PutNext.TheVariants.{Packet, Wait, ShelfFault, NoMemory}
use Rattle.obex_session.specs.Responses.{single_header}
use Rattle.obex_session.specs.PutPackets.{units_in, head_of, body_header, put_packet, object_packets, ahead_of, place_of}
use Rattle.obex_session.specs.Asking.{Asking}
use Rattle.obex_session.specs.NextPut.{left_of, room_for, after_put, PutsPacket, PutsNext}
use Rattle.obex_session.specs.ObjectPuts.{front_packets, place_behind, Fronts, HasPut, IsWhole, GoesOnTo, PutsInOrder, SpellsTheObject}
use Rattle.obex_session.specs.AnySize.{SpellsUnbounded, SpellsAnySize}
use Rattle.obex_session.proofs.NameLaws.{is_text, length-octets}
use Rattle.obex_session.proofs.PutPacketLaws.{head_at, parts_are, all_heard, joined_last, unbounded_of, spells}

-- ---- one part more

pub front-more : (ahead : List PlainHeader) (parts : List (List ℕ)) (part : List ℕ) → front_packets ahead (parts ++ part ∷ []) ≡ front_packets ahead parts ++ put_packet false (head_at ahead parts) part ∷ []
front-more ahead [] part = refl
front-more ahead (first ∷ []) part = refl
front-more ahead (first ∷ next ∷ parts) part = ap (λ (ps : List PlainPacket). put_packet false ahead first ∷ ps) (front-more [] (next ∷ parts) part)

ahead_is : (wanted : Bool) (parts : List (List ℕ)) (name : List ℕ) (size : ℕ) → ahead_of wanted (place_behind parts) name size ≡ head_at (head_of wanted (units_in name) size) parts
ahead_is wanted [] name size = refl
ahead_is wanted (part ∷ parts) name size = refl

place_is : (parts : List (List ℕ)) → place_of (place_behind parts) ≡ length (joined parts)
place_is [] = refl
place_is (part ∷ parts) = refl

length-more : (parts : List (List ℕ)) (part : List ℕ) → length (joined (parts ++ part ∷ [])) ≡ length (joined parts) + length part
length-more parts part = ap length (joined_last parts part) ∙ length-append (joined parts) part

place-more : (parts : List (List ℕ)) (part : List ℕ) → place_behind (parts ++ part ∷ []) ≡ Some (length (joined (parts ++ part ∷ [])))
place-more [] part = refl
place-more (first ∷ parts) part = refl

pub all-more : {X : Type 0} (P : X → Type 0) (xs : List X) (x : X) → AllByRecursion P xs → P x → AllByRecursion P (xs ++ x ∷ [])
all-more P [] x all last = (last, tt)
all-more P (y ∷ xs) x all last = (all.0, all-more P xs x all.1 last)

-- ---- what is written is a packet

name_len : (units : List ℕ) → length (text_octets units) ≡ 2 * length units + 2
name_len units = length-append (flat_map be16 units) (be16 0) ∙ ap (λ (n : ℕ). n + 2) (length-octets units)

head_sound : (wanted : Bool) (units : List ℕ) (size : ℕ) → length units ≤ 100 → size < 2 ^ 32 → AllByRecursion IsHeader (head_of wanted units size)
head_sound true units size few small = let len = name_len units in ((omega arith, omega (arith, len), is_text units (text_octets units) refl), ((omega arith, omega arith, small), ((omega arith, omega arith, omega arith), tt)))
head_sound false units size few small = let len = name_len units in ((omega arith, omega (arith, len), is_text units (text_octets units) refl), ((omega arith, omega arith, small), tt))

headers-more : (ahead : List PlainHeader) (final : Bool) (part : List ℕ) → length (headers_octets (ahead ++ body_header final part ∷ [])) ≡ length (headers_octets ahead) + (3 + length part)
headers-more ahead final part =
    let all = ap length (flat_map-append header_octets ahead (body_header final part ∷ [])) in
    let both = length-append (headers_octets ahead) (headers_octets (body_header final part ∷ [])) in
    let one = ap length (append-nil (header_octets (body_header final part))) in
    omega (arith, all, both, one)

pub put_len : (final : Bool) (ahead : List PlainHeader) (part : List ℕ) → packet_len (put_packet final ahead part) ≡ 6 + length (headers_octets ahead) + length part
put_len final ahead part = let more = headers-more ahead final part in omega (arith, more)

body_sound : (final : Bool) (part : List ℕ) → 3 + length part < 2 ^ 16 → IsHeader (body_header final part)
body_sound true part short = (omega arith, omega arith, short)
body_sound false part short = (omega arith, omega arith, short)

never : false ≡ true → ⊥
never e = cc

put_fields : (final : Bool) → HasFields Request (cond final 0x82 0x02) []
put_fields true = record { code_fits = omega arith; len = refl; version = λ no. absurd (never no); maximum = λ no. absurd (never no) }
put_fields false = record { code_fits = omega arith; len = refl; version = λ no. absurd (never no); maximum = λ no. absurd (never no) }

put_sound : (final : Bool) (ahead : List PlainHeader) (part : List ℕ) → AllByRecursion IsHeader ahead → 6 + length (headers_octets ahead) + length part < 2 ^ 16 → IsPacket Request (put_packet final ahead part)
put_sound final ahead part sound short = record {
  fields = put_fields final;
  headers = all-more IsHeader ahead (body_header final part) sound (body_sound final part (omega (arith, short)));
  len = let len = put_len final ahead part in omega (arith, len, short);
}

at_sound : (wanted : Bool) (parts : List (List ℕ)) (units : List ℕ) (size : ℕ) → length units ≤ 100 → size < 2 ^ 32 → AllByRecursion IsHeader (head_at (head_of wanted units size) parts)
at_sound wanted [] units size few small = head_sound wanted units size few small
at_sound wanted (part ∷ parts) units size few small = tt

head_len : (wanted : Bool) (units : List ℕ) (size : ℕ) → length units ≤ 100 → length (headers_octets (head_of wanted units size)) ≤ 212
head_len true units size few = let len = name_len units in let all = length-append (text_octets units) (headers_octets (record { id = 0xC3; value = Four size } ∷ single_header ∷ [])) in omega (arith, len, all)
head_len false units size few = let len = name_len units in let all = length-append (text_octets units) (headers_octets (record { id = 0xC3; value = Four size } ∷ [])) in omega (arith, len, all)

at_len : (wanted : Bool) (parts : List (List ℕ)) (units : List ℕ) (size : ℕ) → length units ≤ 100 → length (headers_octets (head_at (head_of wanted units size) parts)) ≤ 212
at_len wanted [] units size few = head_len wanted units size few
at_len wanted (part ∷ parts) units size few = omega arith

-- ---- the octets of the object

fronts_at : (size place : ℕ) (before part : List ℕ) (object : Option (List ℕ)) → place ≡ length before → IfSome object (λ o. length o ≡ size → before ≡ take (length before) o) → (0 < length part → HasAt place part object)
    → IfSome object (λ o. length o ≡ size → before ++ part ≡ take (length (before ++ part)) o)
fronts_at size place before part None p front has = tt
fronts_at size place before [] (Some object) p front has = λ e. append-nil before ∙ front e ∙ ap (λ (n : ℕ). take n object) (sym (ap length (append-nil before)))
fronts_at size place before (x ∷ part) (Some object) p front has = λ e.
    let there = has (omega arith) in
    ap (λ (xs : List ℕ). xs ++ x ∷ part) (front e) ∙ ap (λ (xs : List ℕ). take (length before) object ++ xs) (there.1 ∙ ap (λ (n : ℕ). take (length (x ∷ part)) (drop n object)) p)
    ∙ sym (take-add (length before) (length (x ∷ part)) object) ∙ ap (λ (n : ℕ). take n object) (sym (length-append before (x ∷ part)))

fronts-more : (name : List ℕ) (size place : ℕ) (before part : List ℕ) (content : Option (List Object)) → place ≡ length before → Fronts name size before content → (0 < length part → IfSome content (λ objects. HasAt place part (octets_of name objects)))
    → Fronts name size (before ++ part) content
fronts-more name size place before part None p front has = tt
fronts-more name size place before part (Some objects) p front has = fronts_at size place before part (octets_of name objects) p front has

-- ---- one packet more

-- what the packet is
pub record Put (wanted final : Bool) (name : List ℕ) (size : ℕ) (parts : List (List ℕ)) (content : Option (List Object)) (n count : ℕ) (room : List ℕ) : Type 0 where
  pub part : List ℕ
  pub part_len : length part ≡ n
  pub packet : take count room ≡ packet_octets (put_packet final (head_at (head_of wanted (units_in name) size) parts) part)
  pub sound : IsPacket Request (put_packet final (head_at (head_of wanted (units_in name) size) parts) part)
  pub fronts : Fronts name size (joined parts ++ part) content

fits_in : (limit ahead n : ℕ) → 255 ≤ limit → limit < 2 ^ 15 → ahead ≤ 212 → n ≤ limit - (6 + ahead) → 6 + ahead + n < 2 ^ 16
fits_in limit ahead n least most a h = omega (arith, least, most, a, h)

limit_least : (a b : ℕ) → 255 ≤ a → 255 ≤ b → b < 2 ^ 15 → (255 ≤ min a b) × (min a b < 2 ^ 15)
limit_least a b x y z = (omega arith, omega arith)

min_right : (a b : ℕ) → min a b ≤ b
min_right a b = omega arith

pub put_of : (final : Bool) (name : List ℕ) (size limit : ℕ) (said : List (List ℕ)) (session session' : Asking) (content : Option (List Object)) (room room' : List ℕ) (count : ℕ)
    → length (units_in name) ≤ 100 → size < 2 ^ 32 → limit < 2 ^ 15 → 255 ≤ limit → 255 ≤ session.limit → (has : HasPut name size said session content) → PutsPacket session session' name size limit content room room' count final
    → Put session.wanted final name size has.parts content (min (left_of session size) (room_for session name size limit)) count room'
put_of final name size limit said session session' content room room' count few small most least own has puts =
    let ahead = head_at (head_of session.wanted (units_in name) size) has.parts in
    let same : ahead_of session.wanted session.put name size ≡ ahead = ap (λ (put : Option ℕ). ahead_of session.wanted put name size) has.place ∙ ahead_is session.wanted has.parts name size in
    let written = puts.written in
    let place : place_of session.put ≡ length (joined has.parts) = ap place_of has.place ∙ place_is has.parts in
    let bounds = limit_least session.limit limit own least most in
    let within : min (left_of session size) (room_for session name size limit) ≤ min session.limit limit - (6 + length (headers_octets ahead)) =
    subst (λ (hs : List PlainHeader). min (left_of session size) (room_for session name size limit) ≤ min session.limit limit - (6 + length (headers_octets hs))) same (min_right (left_of session size) (room_for session name size limit)) in
    record {
      part = written.part;
      part_len = written.part_len;
      packet = ap (λ (xs : List ℕ). take count xs) written.written ∙ take_at (packet_octets (put_packet final (ahead_of session.wanted session.put name size) written.part)) (drop count room) count (sym written.count_is)
          ∙ ap (λ (hs : List PlainHeader). packet_octets (put_packet final hs written.part)) same;
      sound = put_sound final ahead written.part (at_sound session.wanted has.parts (units_in name) size few small)
          (subst (λ (k : ℕ). 6 + length (headers_octets ahead) + k < 2 ^ 16) (sym written.part_len) (fits_in (min session.limit limit) (length (headers_octets ahead)) _ bounds.0 bounds.1 (at_len session.wanted has.parts (units_in name) size few) within));
      fronts = fronts-more name size (place_of session.put) (joined has.parts) written.part content place has.fronts (λ some. written.told (subst (λ (k : ℕ). 0 < k) written.part_len some));
    }

wanted_same : (session session' : Asking) (final : Bool) (n : ℕ) → session' ≡ after_put session final n → session'.wanted ≡ session.wanted
wanted_same session session' final n e = ap (λ (s : Asking). s.wanted) e

goes_on_to : (answer : PutNext) (name : List ℕ) (size limit : ℕ) (said : List (List ℕ)) (session session' : Asking) (content : Option (List Object)) (room room' : List ℕ)
    → length (units_in name) ≤ 100 → size < 2 ^ 32 → limit < 2 ^ 15 → 255 ≤ limit → 255 ≤ session.limit
    → HasPut name size said session content → PutsNext session session' name size limit content room room' answer → GoesOnTo name size said session' content room' answer
goes_on_to (Packet count true) name size limit said session session' content room room' few small most least own has puts =
    let one = put_of true name size limit said session session' content room room' count few small most least own has puts in
    let same = wanted_same session session' true (min (left_of session size) (room_for session name size limit)) puts.session_is in
    let head = head_of session.wanted (units_in name) size in
    let place : place_of session.put ≡ length (joined has.parts) = ap place_of has.place ∙ place_is has.parts in
    let all : object_packets session.wanted (units_in name) size has.parts one.part ≡ front_packets head has.parts ++ put_packet true (head_at head has.parts) one.part ∷ [] = parts_are head has.parts one.part in
    subst (λ (wanted : Bool). IsWhole wanted name size (said ++ take count room' ∷ []) content) (sym same) (record {
      parts = has.parts;
      last = one.part;
      said_is = ap (λ (ps : List (List ℕ)). ps ++ take count room' ∷ []) has.said_is ∙ ap (λ (p : List ℕ). map packet_octets (front_packets head has.parts) ++ p ∷ []) one.packet
          ∙ sym (map-append packet_octets (front_packets head has.parts) (put_packet true (head_at head has.parts) one.part ∷ [])) ∙ ap (map packet_octets) (sym all);
      sound = subst (AllByRecursion (IsPacket Request)) (sym all) (all-more (IsPacket Request) (front_packets head has.parts) (put_packet true (head_at head has.parts) one.part) has.sound one.sound);
      len = length-append (joined has.parts) one.part ∙ all_put (length (joined has.parts)) (length one.part) size (place_of session.put) (room_for session name size limit) place has.within one.part_len puts.final_is;
      fronts = one.fronts;
    })
  where
    all_put : (before part size place room : ℕ) → place ≡ before → before ≤ size → part ≡ min (size - place) room → true ≡ leb (size - place) room → before + part ≡ size
    all_put before part size place room p within e final = let fits : size - place ≤ room = leb-true (size - place) room (sym final) in omega (arith, p, within, e, fits)
goes_on_to (Packet count false) name size limit said session session' content room room' few small most least own has puts =
    let one = put_of false name size limit said session session' content room room' count few small most least own has puts in
    let same = wanted_same session session' false (min (left_of session size) (room_for session name size limit)) puts.session_is in
    let head = head_of session.wanted (units_in name) size in
    let place : place_of session.put ≡ length (joined has.parts) = ap place_of has.place ∙ place_is has.parts in
    let all : front_packets head (has.parts ++ one.part ∷ []) ≡ front_packets head has.parts ++ put_packet false (head_at head has.parts) one.part ∷ [] = front-more head has.parts one.part in
    let part_len = one.part_len in
    record {
      parts = has.parts ++ one.part ∷ [];
      said_is = subst (λ (wanted : Bool). said ++ take count room' ∷ [] ≡ map packet_octets (front_packets (head_of wanted (units_in name) size) (has.parts ++ one.part ∷ []))) (sym same)
          (ap (λ (ps : List (List ℕ)). ps ++ take count room' ∷ []) has.said_is ∙ ap (λ (p : List ℕ). map packet_octets (front_packets head has.parts) ++ p ∷ []) one.packet
          ∙ sym (map-append packet_octets (front_packets head has.parts) (put_packet false (head_at head has.parts) one.part ∷ [])) ∙ ap (map packet_octets) (sym all));
      sound = subst (λ (wanted : Bool). AllByRecursion (IsPacket Request) (front_packets (head_of wanted (units_in name) size) (has.parts ++ one.part ∷ []))) (sym same)
          (subst (AllByRecursion (IsPacket Request)) (sym all) (all-more (IsPacket Request) (front_packets head has.parts) (put_packet false (head_at head has.parts) one.part) has.sound one.sound));
      place = ap (λ (s : Asking). s.put) puts.session_is ∙ ap Some (ap (λ (k : ℕ). k + min (left_of session size) (room_for session name size limit)) place ∙ ap (λ (k : ℕ). length (joined has.parts) + k) (sym part_len) ∙ sym (length-more has.parts one.part)) ∙ sym (place-more has.parts one.part);
      within = let len = length-more has.parts one.part in in_size (length (joined has.parts)) (length one.part) size (place_of session.put) (room_for session name size limit) (length (joined (has.parts ++ one.part ∷ []))) place has.within part_len len;
      fronts = subst (λ (xs : List ℕ). Fronts name size xs content) (sym (joined_last has.parts one.part)) one.fronts;
    }
  where
    in_size : (before part size place room total : ℕ) → place ≡ before → before ≤ size → part ≡ min (size - place) room → total ≡ before + part → total ≤ size
    in_size before part size place room total p within e t = omega (arith, p, within, e, t)
goes_on_to Wait name size limit said session session' content room room' few small most least own has puts = subst (λ (s : Asking). HasPut name size said s content) (sym puts.1) has
goes_on_to ShelfFault name size limit said session session' content room room' few small most least own has puts = subst (λ (s : Asking). HasPut name size said s content) (sym puts.1) has
goes_on_to NoMemory name size limit said session session' content room room' few small most least own has puts = subst (λ (s : Asking). HasPut name size said s content) (sym puts.1) has

nothing_put : (name : List ℕ) (size : ℕ) (content : Option (List Object)) → Fronts name size [] content
nothing_put name size None = tt
nothing_put name size (Some objects) = nothing_of (octets_of name objects)
  where
    nothing_of : (object : Option (List ℕ)) → IfSome object (λ o. length o ≡ size → [] ≡ take 0 o)
    nothing_of None = tt
    nothing_of (Some o) = λ e. refl

pub puts_in_order : PutsInOrder
puts_in_order = record {
  begins = λ name size session content none. record {
    parts = [];
    said_is = refl;
    sound = tt;
    place = none;
    within = omega arith;
    fronts = nothing_put name size content;
  };
  goes_on = λ name size limit said session session' content room room' answer few small most least own has puts. goes_on_to answer name size limit said session session' content room room' few small most least own has puts;
  stays = λ name size said session session' content put wanted has. record {
    parts = has.parts;
    said_is = has.said_is ∙ ap (λ (w : Bool). map packet_octets (front_packets (head_of w (units_in name) size) has.parts)) (sym wanted);
    sound = subst (λ (w : Bool). AllByRecursion (IsPacket Request) (front_packets (head_of w (units_in name) size) has.parts)) (sym wanted) has.sound;
    place = put ∙ has.place;
    within = has.within;
    fronts = has.fronts;
  };
}

-- the octets of all packets are the object's
whole_octets : (wanted : Bool) (name : List ℕ) (size : ℕ) (said : List (List ℕ)) (objects : List Object) (object : List ℕ) (whole : IsWhole wanted name size said (Some objects)) → octets_of name objects ≡ Some object → length object ≡ size
    → joined whole.parts ++ whole.last ≡ object
whole_octets wanted name size said objects object whole there len =
    let octets = joined whole.parts ++ whole.last in
    let front : length object ≡ size → octets ≡ take (length octets) object = subst (λ (o : Option (List ℕ)). IfSome o (λ x. length x ≡ size → octets ≡ take (length octets) x)) there whole.fronts in
    front len ∙ ap (λ (n : ℕ). take n object) (whole.len ∙ sym len) ∙ take_whole object
  where
    take_whole : (xs : List ℕ) → take (length xs) xs ≡ xs
    take_whole xs = ap (take (length xs)) (sym (append-nil xs)) ∙ take_at xs [] (length xs) refl

pub spells_the_object : SpellsTheObject
spells_the_object wanted name size said objects object short fit most whole there len =
    ap spelled whole.said_is ∙ spells wanted (units_in name) size whole.parts whole.last fit short (subst (λ (n : ℕ). n ≤ 16777215) (sym whole.len) most) whole.sound
    ∙ ap (λ (o : List ℕ). record { name = units_in name; octets = o } ∷ []) (whole_octets wanted name size said objects object whole there len)

pub spells_any_size : SpellsAnySize
spells_any_size wanted name size said objects object short fit whole there len =
    let run = object_packets wanted (units_in name) size whole.parts whole.last in
    record {
      run = run;
      heard_as = ap heard whole.said_is ∙ all_heard (head_of wanted (units_in name) size) whole.parts whole.last whole.sound;
      spelling = subst (λ (o : List ℕ). SpellsUnbounded run (record { name = units_in name; octets = o })) (whole_octets wanted name size said objects object whole there len) (unbounded_of wanted (units_in name) size whole.parts whole.last fit short);
    }
