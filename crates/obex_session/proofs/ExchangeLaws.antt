-- Responses that are read, and what success says.
use Rattle.std.proofs.Common.{Bool, true, false, cond, ◌≡◌, ℕ, ◌<◌, ◌≤◌, ◌^◌, List, [], Ok, refl, sym, ap, subst, ◌∙◌, arith}
use Rattle.obex_headers.specs.declared.codes.Code.{Code}
use Rattle.obex_headers.specs.declared.packet.Phase.{Phase}
use Rattle.obex_headers.specs.declared.packet.Phase.TheVariants.{Response, ConnectResponse}
use Rattle.obex_headers.specs.Codes.{octet_of}
use Rattle.obex_headers.specs.Packets.{IsPacket, bare, with_header, maximum_of, packet_octets}
use Rattle.obex_headers.specs.Reading.{packet_in}
use Rattle.obex_headers.proofs.PacketLaws.{packet_again}
use Rattle.obex_session.specs.Responses.{is_connect, connect_fields, single_header, response_octets, confirmation_octets}
use Rattle.obex_session.specs.Asking.{answer_read}
use Rattle.obex_session.specs.Exchanges.{ResponsesAreRead}

-- ---- responses are packets

never : false ≡ true → ⊥
never e = cc

bare_sound : (code : ℕ) → code < 256 → IsPacket Response (bare code [])
bare_sound code fits = record {
  fields = record { code_fits = fits; len = refl; version = λ no. absurd (never no); maximum = λ no. absurd (never no) };
  headers = tt;
  len = omega arith;
}

single_sound : (code : ℕ) → code < 256 → IsPacket Response (with_header (bare code []) single_header)
single_sound code fits = record {
  fields = record { code_fits = fits; len = refl; version = λ no. absurd (never no); maximum = λ no. absurd (never no) };
  headers = ((omega arith, omega arith, omega arith), tt);
  len = omega arith;
}

own_maximum : (own : ℕ) → own < 2 ^ 16 → maximum_of (connect_fields own) ≡ own
own_maximum own fits = omega arith

connect_sound : (code own : ℕ) → code < 256 → 255 ≤ own → own < 2 ^ 16 → IsPacket ConnectResponse (bare code (connect_fields own))
connect_sound code own fits least most = record {
  fields = record { code_fits = fits; len = refl; version = λ yes. refl; maximum = λ yes. subst (λ (n : ℕ). 255 ≤ n) (sym (own_maximum own most)) least };
  headers = tt;
  len = omega arith;
}

read_plain : (packet : List ℕ) (own maximum : ℕ) (code : Code) → octet_of code < 256 → 7 ≤ maximum → is_connect packet ≡ false → packet_in Response maximum (response_octets packet own code) ≡ Ok (bare (octet_of code) [])
read_plain packet own maximum code fits room refuted =
    ap (λ (b : Bool). packet_in Response maximum (packet_octets (bare (octet_of code) (cond b (connect_fields own) [])))) refuted
    ∙ packet_again Response maximum (packet_octets (bare (octet_of code) [])) (bare (octet_of code) []) (record { sound = bare_sound (octet_of code) fits; within = omega (arith, room); spelling = refl })

read_connecting : (packet : List ℕ) (own maximum : ℕ) (code : Code) → octet_of code < 256 → 7 ≤ maximum → 255 ≤ own → own < 2 ^ 16 → is_connect packet ≡ true
    → packet_in ConnectResponse maximum (response_octets packet own code) ≡ Ok (bare (octet_of code) (connect_fields own))
read_connecting packet own maximum code fits room least most connects =
    ap (λ (b : Bool). packet_in ConnectResponse maximum (packet_octets (bare (octet_of code) (cond b (connect_fields own) [])))) connects
    ∙ packet_again ConnectResponse maximum (packet_octets (bare (octet_of code) (connect_fields own))) (bare (octet_of code) (connect_fields own))
    (record { sound = connect_sound (octet_of code) own fits least most; within = omega (arith, room); spelling = refl })

read_confirming : (maximum : ℕ) (code : Code) → octet_of code < 256 → 7 ≤ maximum → packet_in Response maximum (confirmation_octets code) ≡ Ok (with_header (bare (octet_of code) []) single_header)
read_confirming maximum code fits room =
    packet_again Response maximum (confirmation_octets code) (with_header (bare (octet_of code) []) single_header) (record { sound = single_sound (octet_of code) fits; within = omega (arith, room); spelling = refl })

pub responses_are_read : ResponsesAreRead
responses_are_read = record {
  plain = read_plain;
  connecting = read_connecting;
  confirming = read_confirming;
  answer_plain = λ request packet own maximum code fits room refuted phase.
      ap (λ (p : Phase). answer_read request (packet_in p maximum (response_octets packet own code))) phase ∙ ap (answer_read request) (read_plain packet own maximum code fits room refuted);
  answer_connecting = λ request packet own maximum code fits room least most connects phase.
      ap (λ (p : Phase). answer_read request (packet_in p maximum (response_octets packet own code))) phase ∙ ap (answer_read request) (read_connecting packet own maximum code fits room least most connects);
  answer_confirming = λ request maximum code fits room phase.
      ap (λ (p : Phase). answer_read request (packet_in p maximum (confirmation_octets code))) phase ∙ ap (answer_read request) (read_confirming maximum code fits room);
}
