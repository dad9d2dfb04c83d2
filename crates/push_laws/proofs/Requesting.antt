-- The requests of a client of Object Push as packets: each is one that a server reads, and not longer than the client's own maximum.
use Rattle.std.proofs.Common.{Bool, true, false, cond, ◌+◌, ◌*◌, ◌<◌, ◌≤◌, ◌^◌, ◌≡◌, ℕ, List, [], ◌∷◌, ◌++◌, length, Option, Some, None, refl, sym, ap, subst, ◌∙◌, arith, append-nil, length-append}
use Rattle.std.specs.List.{flat_map, AllByRecursion}
use Rattle.std.proofs.lemmas.Grind.{flat_map-append}
use Rattle.link_talk.specs.bt_base.specs.Octets.{be16}
use Rattle.push_model.specs.rfcomm_frames.specs.ObexPackets as obex
use Rattle.push_model.specs.rfcomm_frames.specs.ObexPackets.{stated_size}
use Rattle.push_model.specs.obex_headers.specs.declared.packet.Phase.TheVariants.{Request}
use Rattle.push_model.specs.obex_headers.specs.Packets.{Four, PlainHeader, PlainPacket, IsHeader, IsPacket, HasFields, text_octets, header_octets, headers_octets, packet_len, packet_octets, bare}
use Rattle.push_model.specs.obex_headers.specs.Reading.{packet_in}
use Rattle.push_model.specs.obex_headers.proofs.PacketLaws.{packet_again, length-packet}
use Rattle.push_model.specs.obex_session.specs.Asking.{Asking}
use Rattle.push_model.specs.obex_session.specs.NextPut.{room_for}
use Rattle.push_model.specs.obex_session.specs.PutPackets.{units_in, head_of, body_header, put_packet, ahead_with, ahead_of}
use Rattle.push_model.specs.obex_session.specs.Responses.{connect_fields, single_header}
use Rattle.push_model.specs.obex_session.proofs.NameLaws.{is_text, length-octets}
use Rattle.push_model.specs.Client.{Client}
use Rattle.push_model.specs.Listening.{has_bad_length}
use Rattle.push_model.specs.Steps.{put_count, is_last_put, put_octets, connect_octets, abort_octets, disconnect_octets}

-- ---- a request

pub record IsRequest (most : ℕ) (octets : List ℕ) : Type 0 where
  pub packet : PlainPacket
  pub sound : IsPacket Request packet
  pub octets_are : octets ≡ packet_octets packet
  pub within : length octets ≤ most

stated : (packet : PlainPacket) → packet_len packet < 2 ^ 16 → stated_size (packet_octets packet) ≡ packet_len packet
stated packet fits = omega arith

pub request_packet : (most : ℕ) (octets : List ℕ) → IsRequest most octets → obex.IsPacket octets
request_packet most octets r =
    let len = length-packet r.packet in
    subst obex.IsPacket (sym r.octets_are) (omega (arith, len), stated r.packet r.sound.len ∙ sym len)

pub request_length : (most : ℕ) (octets : List ℕ) → IsRequest most octets → has_bad_length (packet_in Request most octets) ≡ false
request_length most octets r = ap has_bad_length (packet_again Request most octets r.packet (record { sound = r.sound; within = r.within; spelling = r.octets_are }))

-- ---- those without headers

never : false ≡ true → ⊥
never e = cc

pub connect_request : (most : ℕ) (session : Asking) → 255 ≤ session.maximum → session.maximum < 2 ^ 16 → 7 ≤ most → IsRequest most (connect_octets session)
connect_request most session least fits room = record {
  packet = bare 0x80 (connect_fields session.maximum);
  sound = record {
    fields = record { code_fits = omega arith; len = refl; version = λ e. refl; maximum = λ e. omega (arith, least, fits) };
    headers = tt;
    len = omega arith;
  };
  octets_are = refl;
  within = omega (arith, room);
}

pub abort_request : (most : ℕ) → 7 ≤ most → IsRequest most abort_octets
abort_request most room = record {
  packet = bare 0xFF [];
  sound = record { fields = record { code_fits = omega arith; len = refl; version = λ e. absurd (never e); maximum = λ e. absurd (never e) }; headers = tt; len = omega arith };
  octets_are = refl;
  within = omega (arith, room);
}

pub disconnect_request : (most : ℕ) → 7 ≤ most → IsRequest most disconnect_octets
disconnect_request most room = record {
  packet = bare 0x81 [];
  sound = record { fields = record { code_fits = omega arith; len = refl; version = λ e. absurd (never e); maximum = λ e. absurd (never e) }; headers = tt; len = omega arith };
  octets_are = refl;
  within = omega (arith, room);
}

-- ---- PUT

name_len : (units : List ℕ) → length (text_octets units) ≡ 2 * length units + 2
name_len units = length-append (flat_map be16 units) (be16 0) ∙ ap (λ (n : ℕ). n + 2) (length-octets units)

head_sound : (wanted : Bool) (units : List ℕ) (size : ℕ) → length units ≤ 100 → size < 2 ^ 32 → AllByRecursion IsHeader (head_of wanted units size)
head_sound true units size few small = let len = name_len units in ((omega arith, omega (arith, len), is_text units (text_octets units) refl), ((omega arith, omega arith, small), ((omega arith, omega arith, omega arith), tt)))
head_sound false units size few small = let len = name_len units in ((omega arith, omega (arith, len), is_text units (text_octets units) refl), ((omega arith, omega arith, small), tt))

head_len : (wanted : Bool) (units : List ℕ) (size : ℕ) → length units ≤ 100 → length (headers_octets (head_of wanted units size)) ≤ 212
head_len true units size few = let len = name_len units in let all = length-append (text_octets units) (headers_octets (record { id = 0xC3; value = Four size } ∷ single_header ∷ [])) in omega (arith, len, all)
head_len false units size few = let len = name_len units in let all = length-append (text_octets units) (headers_octets (record { id = 0xC3; value = Four size } ∷ [])) in omega (arith, len, all)

ahead_sound : (wanted : Bool) (put : Option ℕ) (units : List ℕ) (size : ℕ) → length units ≤ 100 → size < 2 ^ 32 → AllByRecursion IsHeader (ahead_with wanted put (text_octets units) size)
ahead_sound wanted None units size few small = head_sound wanted units size few small
ahead_sound wanted (Some place) units size few small = tt

ahead_len : (wanted : Bool) (put : Option ℕ) (units : List ℕ) (size : ℕ) → length units ≤ 100 → length (headers_octets (ahead_with wanted put (text_octets units) size)) ≤ 212
ahead_len wanted None units size few = head_len wanted units size few
ahead_len wanted (Some place) units size few = omega arith

headers-more : (ahead : List PlainHeader) (final : Bool) (part : List ℕ) → length (headers_octets (ahead ++ body_header final part ∷ [])) ≡ length (headers_octets ahead) + (3 + length part)
headers-more ahead final part =
    let all = ap length (flat_map-append header_octets ahead (body_header final part ∷ [])) in
    let both = length-append (headers_octets ahead) (headers_octets (body_header final part ∷ [])) in
    let one = ap length (append-nil (header_octets (body_header final part))) in
    omega (arith, all, both, one)

put_len : (final : Bool) (ahead : List PlainHeader) (part : List ℕ) → packet_len (put_packet final ahead part) ≡ 6 + length (headers_octets ahead) + length part
put_len final ahead part = let more = headers-more ahead final part in omega (arith, more)

all-more : (P : PlainHeader → Type 0) (xs : List PlainHeader) (x : PlainHeader) → AllByRecursion P xs → P x → AllByRecursion P (xs ++ x ∷ [])
all-more P [] x all last = (last, tt)
all-more P (y ∷ xs) x all last = (all.0, all-more P xs x all.1 last)

body_sound : (final : Bool) (part : List ℕ) → 3 + length part < 2 ^ 16 → IsHeader (body_header final part)
body_sound true part short = (omega arith, omega arith, short)
body_sound false part short = (omega arith, omega arith, short)

put_fields : (final : Bool) → HasFields Request (cond final 0x82 0x02) []
put_fields true = record { code_fits = omega arith; len = refl; version = λ no. absurd (never no); maximum = λ no. absurd (never no) }
put_fields false = record { code_fits = omega arith; len = refl; version = λ no. absurd (never no); maximum = λ no. absurd (never no) }

pub put_request : (most : ℕ) (client : Client) (part : List ℕ) → length (units_in client.name) ≤ 100 → client.size < 2 ^ 32 → 255 ≤ client.limit → 255 ≤ client.session.limit → client.session.limit ≤ most → most < 2 ^ 16 → length part ≡ put_count client
    → IsRequest most (put_octets client part)
put_request most client part few small wide own room fits len =
    let ahead : List PlainHeader = ahead_of client.session.wanted client.session.put client.name client.size in
    let head = ahead_len client.session.wanted client.session.put (units_in client.name) client.size few in
    let count : put_count client ≤ room_for client.session client.name client.size client.limit = omega arith in
    let all = put_len (is_last_put client) ahead part in
    let less : 6 + length (headers_octets ahead) + length part ≤ most = omega (arith, head, count, len, wide, own, room) in
    let octets = length-packet (put_packet (is_last_put client) ahead part) in
    record {
      packet = put_packet (is_last_put client) ahead part;
      sound = record {
        fields = put_fields (is_last_put client);
        headers = all-more IsHeader ahead (body_header (is_last_put client) part) (ahead_sound client.session.wanted client.session.put (units_in client.name) client.size few small) (body_sound (is_last_put client) part (omega (arith, less, fits)));
        len = omega (arith, all, less, fits);
      };
      octets_are = refl;
      within = omega (arith, octets, all, less);
    }
