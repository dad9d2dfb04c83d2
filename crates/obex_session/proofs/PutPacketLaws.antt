-- The packets of an object spell it.
use Rattle.std.proofs.Common.{Bool, true, false, cond, ◌≡◌, ℕ, ◌<◌, ◌≤◌, ◌^◌, List, [], ◌∷◌, ◌++◌, length, map, Option, Some, Ok, refl, sym, ap, subst, ◌∙◌, arith, append_assoc}
use Rattle.std.specs.Prelude.{is_none}
use Rattle.std.specs.List.{filter_map, AllByRecursion}
use Rattle.std.proofs.lemmas.List.{append-nil}
use Rattle.std.proofs.lemmas.List.Sums.{take_while-cons}
use Rattle.std.proofs.lemmas.Grind.{flat_map-append}
use Rattle.bt_base.specs.Objects.{Object}
use Rattle.obex_headers.specs.declared.packet.Phase.TheVariants.{Request}
use Rattle.obex_headers.specs.Packets.{Text, Four, PlainHeader, PlainPacket, IsPacket, text_octets, packet_octets, units_of}
use Rattle.obex_headers.specs.Reading.{packet_in}
use Rattle.obex_headers.specs.Runs.{put_of, heard, is_final, name_text, names, bodies, ahead_of_name, joined, run_headers, SpellsObject, puts, Spelling, objects_from}
use Rattle.obex_headers.proofs.PacketLaws.{packet_again, length-packet}
use Rattle.obex_headers.proofs.RunLaws.{stretches_spell}
use Rattle.obex_headers.proofs.Texts.{units_again}
use Rattle.obex_session.specs.Responses.{single_header}
use Rattle.obex_session.specs.ObjectPuts.{front_packets}
use Rattle.obex_session.specs.AnySize.{SpellsUnbounded}
use Rattle.obex_session.specs.PutPackets.{head_of, body_header, put_packet, packets_from, object_packets, SpellsWhatIsPut}
use Rattle.obex_session.proofs.AnySizeLaws.{with_bound}

-- ---- each packet is heard as it was written

pub heard_again : (packet : PlainPacket) → IsPacket Request packet → packet_in Request 65535 (packet_octets packet) ≡ Ok packet
heard_again packet is = packet_again Request 65535 (packet_octets packet) packet (record { sound = is; within = let fits = is.len in let len = length-packet packet in omega (arith, fits, len); spelling = refl })

pub all_heard : (ahead : List PlainHeader) (parts : List (List ℕ)) (last : List ℕ) → AllByRecursion (IsPacket Request) (packets_from ahead parts last)
    → heard (map packet_octets (packets_from ahead parts last)) ≡ puts (packets_from ahead parts last)
all_heard ahead [] last is = ap (λ (p : Option PlainPacket). p ∷ []) (ap put_of (heard_again (put_packet true ahead last) is.0))
all_heard ahead (part ∷ parts) last is =
    ap (λ (p : Option PlainPacket). p ∷ heard (map packet_octets (packets_from [] parts last))) (ap put_of (heard_again (put_packet false ahead part) is.0))
    ∙ ap (λ (ps : List (Option PlainPacket)). Some (put_packet false ahead part) ∷ ps) (all_heard [] parts last is.1)

-- ---- what a run of them says

-- the headers ahead of the body of the packet behind these parts
abbrev pub head_at : List PlainHeader → List (List ℕ) → List PlainHeader
head_at ahead [] = ahead
head_at ahead (part ∷ parts) = []

pub parts_are : (ahead : List PlainHeader) (parts : List (List ℕ)) (last : List ℕ) → packets_from ahead parts last ≡ front_packets ahead parts ++ put_packet true (head_at ahead parts) last ∷ []
parts_are ahead [] last = refl
parts_are ahead (part ∷ []) last = refl
parts_are ahead (part ∷ next ∷ parts) last = ap (λ (ps : List PlainPacket). put_packet false ahead part ∷ ps) (parts_are [] (next ∷ parts) last)

pub none_final : (ahead : List PlainHeader) (parts : List (List ℕ)) → AllByRecursion (λ packet. is_final packet ≡ false) (front_packets ahead parts)
none_final ahead [] = tt
none_final ahead (part ∷ parts) = (refl, none_final [] parts)

-- the bodies alone
abbrev body_headers : List (List ℕ) → List ℕ → List PlainHeader
body_headers [] last = body_header true last ∷ []
body_headers (part ∷ parts) last = body_header false part ∷ body_headers parts last

pub headers_are : (ahead : List PlainHeader) (parts : List (List ℕ)) (last : List ℕ) → run_headers (packets_from ahead parts last) ≡ ahead ++ body_headers parts last
headers_are ahead [] last = append-nil (ahead ++ body_header true last ∷ [])
headers_are ahead (part ∷ parts) last =
    ap (λ (hs : List PlainHeader). (ahead ++ body_header false part ∷ []) ++ hs) (headers_are [] parts last) ∙ append_assoc ahead (body_header false part ∷ []) (body_headers parts last)

no_names : (parts : List (List ℕ)) (last : List ℕ) → filter_map name_text (body_headers parts last) ≡ []
no_names [] last = refl
no_names (part ∷ parts) last = no_names parts last

bodies_are : (parts : List (List ℕ)) (last : List ℕ) → bodies (body_headers parts last) ≡ parts ++ last ∷ []
bodies_are [] last = refl
bodies_are (part ∷ parts) last = ap (λ (bs : List (List ℕ)). part ∷ bs) (bodies_are parts last)

pub joined_last : (parts : List (List ℕ)) (last : List ℕ) → joined (parts ++ last ∷ []) ≡ joined parts ++ last
joined_last parts last = flat_map-append (λ part. part) parts (last ∷ []) ∙ ap (λ (xs : List ℕ). joined parts ++ xs) (append-nil last)

some_parts : (parts : List (List ℕ)) (last : List ℕ) → 0 < length (parts ++ last ∷ [])
some_parts [] last = omega arith
some_parts (part ∷ parts) last = omega arith

-- the head has one Name, no body, and the Name first
head_names : (wanted : Bool) (units : List ℕ) (size : ℕ) (rest : List PlainHeader) → names (head_of wanted units size ++ rest) ≡ units_of (text_octets units) ∷ names rest
head_names true units size rest = refl
head_names false units size rest = refl

head_bodies : (wanted : Bool) (units : List ℕ) (size : ℕ) (rest : List PlainHeader) → bodies (head_of wanted units size ++ rest) ≡ bodies rest
head_bodies true units size rest = refl
head_bodies false units size rest = refl

head_ahead : (wanted : Bool) (units : List ℕ) (size : ℕ) (rest : List PlainHeader) → ahead_of_name (head_of wanted units size ++ rest) ≡ []
head_ahead wanted units size rest = take_while-cons (λ header. is_none (name_text header)) (record { id = 0x01; value = Text (text_octets units) }) (record { id = 0xC3; value = Four size } ∷ (cond wanted (single_header ∷ []) [] ++ rest))

pub unbounded_of : (wanted : Bool) (units : List ℕ) (size : ℕ) (parts : List (List ℕ)) (last : List ℕ) → AllByRecursion (λ unit. unit < 2 ^ 16) units → length units ≤ 255
    → SpellsUnbounded (object_packets wanted units size parts last) (record { name = units; octets = joined parts ++ last })
unbounded_of wanted units size parts last fit short =
    let packets = object_packets wanted units size parts last in
    let headers = run_headers packets in
    let all : headers ≡ head_of wanted units size ++ body_headers parts last = headers_are (head_of wanted units size) parts last in
    let body : bodies headers ≡ parts ++ last ∷ [] = ap bodies all ∙ head_bodies wanted units size (body_headers parts last) ∙ bodies_are parts last in
    record {
      front = front_packets (head_of wanted units size) parts;
      last = put_packet true (head_at (head_of wanted units size) parts) last;
      parts = parts_are (head_of wanted units size) parts last;
      not_final = none_final (head_of wanted units size) parts;
      final = refl;
      name = ap names all ∙ head_names wanted units size (body_headers parts last) ∙ ap (λ (us : List (List ℕ)). units_of (text_octets units) ∷ us) (ap (map units_of) (no_names parts last)) ∙ ap (λ (us : List ℕ). us ∷ []) (units_again units fit);
      short_name = short;
      name_first = ap bodies (ap ahead_of_name all ∙ head_ahead wanted units size (body_headers parts last));
      has_body = subst (λ (bs : List (List ℕ)). 0 < length bs) (sym body) (some_parts parts last);
      octets = sym (ap joined body ∙ joined_last parts last);
    }

pub spelling_of : (wanted : Bool) (units : List ℕ) (size : ℕ) (parts : List (List ℕ)) (last : List ℕ) → AllByRecursion (λ unit. unit < 2 ^ 16) units → length units ≤ 255 → length (joined parts ++ last) ≤ 16777215
    → SpellsObject (object_packets wanted units size parts last) (record { name = units; octets = joined parts ++ last })
spelling_of wanted units size parts last fit short bound = with_bound (object_packets wanted units size parts last) (record { name = units; octets = joined parts ++ last }) (unbounded_of wanted units size parts last fit short) bound

pub spells : SpellsWhatIsPut
spells wanted units size parts last fit short bound are =
    let packets = object_packets wanted units size parts last in
    let object : Object = record { name = units; octets = joined parts ++ last } in
    let spelling = spelling_of wanted units size parts last fit short bound in
    ap (objects_from []) (all_heard (head_of wanted units size) parts last are)
    ∙ sym (stretches_spell (puts packets) (object ∷ []) (record {
      stretches = Spelling packets object ∷ [];
      open_run = [];
      are_stretches = (spelling, tt);
      is_open = record { not_final = tt; rules = record { one_name = omega arith; short_name = tt; name_first = refl; bounded = omega arith } };
      packets_are = sym (append-nil (puts packets)) ∙ sym (append-nil (puts packets ++ []));
      objects_are = refl;
    }))
