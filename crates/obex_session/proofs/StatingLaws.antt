-- What a server says states its own maximum, wherever it is read as a response to CONNECT.
use Rattle.std.proofs.Common.{true, false, cond, Bool, ◌<◌, ◌≤◌, ◌^◌, ◌≡◌, ℕ, List, [], length, take, drop, Ok, refl, sym, ap, subst, ◌∙◌, arith}
use Rattle.obex_headers.specs.declared.packet.Phase.TheVariants.{ConnectResponse}
use Rattle.obex_headers.specs.Codes.{octet_of}
use Rattle.obex_headers.specs.Packets.{PlainPacket, maximum_of, bare, packet_octets}
use Rattle.obex_headers.specs.Reading.{packet_in, front_at, headers_in}
use Rattle.obex_headers.proofs.HeaderLaws.{bind_ok, ok_is}
use Rattle.obex_headers.proofs.PacketLaws.{front_takes}
use Rattle.obex_session.specs.declared.responding.Saying.{Saying}
use Rattle.obex_session.specs.declared.responding.Saying.TheVariants.{Response, Confirmation, Silence, NoMemory}
use Rattle.obex_session.specs.Responses.{is_connect, connect_fields}
use Rattle.obex_session.specs.Views.{octets_said}

-- octets that are read as a response to CONNECT state so much at most
abbrev pub States : ℕ → List ℕ → Type 0
States most octets = (maximum : ℕ) (packet : PlainPacket) → packet_in ConnectResponse maximum octets ≡ Ok packet → maximum_of packet.extra ≤ most

-- the fields stand behind the length
record HasFields (octets : List ℕ) (packet : PlainPacket) : Type 0 where
  long : 7 ≤ length octets
  extra : packet.extra ≡ take 4 (drop 3 octets)
  least : 255 ≤ maximum_of packet.extra

fields_read : (maximum : ℕ) (octets : List ℕ) (packet : PlainPacket) → packet_in ConnectResponse maximum octets ≡ Ok packet → HasFields octets packet
unfolding packet_in
fields_read maximum octets packet e =
    let front = bind_ok (front_at ConnectResponse maximum octets) _ packet e in
    let headers = bind_ok (headers_in front.0.1) _ packet front.2 in
    let read = front_takes ConnectResponse maximum octets front.0 front.1 in
    let same : packet.extra ≡ front.0.0 = ap (λ (p : PlainPacket). p.extra) (sym (ok_is _ packet headers.2)) in
    record { long = read.long; extra = same ∙ sym read.extra; least = subst (λ (octets : List ℕ). 255 ≤ maximum_of octets) (sym same) (read.accepts.maximum refl) }

-- and never less than each packet may have
pub states_least : (maximum : ℕ) (octets : List ℕ) (packet : PlainPacket) → packet_in ConnectResponse maximum octets ≡ Ok packet → 255 ≤ maximum_of packet.extra
states_least maximum octets packet e = (fields_read maximum octets packet e).least

short_states : (most : ℕ) (octets : List ℕ) → length octets < 7 → States most octets
short_states most octets short maximum packet e = let read = fields_read maximum octets packet e in let long = read.long in absurd (omega (arith, short, long))

own_stated : (own : ℕ) → own < 2 ^ 16 → maximum_of (connect_fields own) ≡ own
own_stated own fits = omega arith

connect_states : (own code : ℕ) → own < 2 ^ 16 → States own (packet_octets (bare code (connect_fields own)))
connect_states own code fits maximum packet e =
    let read = fields_read maximum (packet_octets (bare code (connect_fields own))) packet e in
    let extra : packet.extra ≡ connect_fields own = read.extra in
    let is : maximum_of packet.extra ≡ own = ap maximum_of extra ∙ own_stated own fits in
    omega (arith, is)

by_fields : (connecting : Bool) (own code : ℕ) → own < 2 ^ 16 → States own (packet_octets (bare code (cond connecting (connect_fields own) [])))
by_fields true own code fits = connect_states own code fits
by_fields false own code fits = short_states own (packet_octets (bare code [])) (omega arith)

pub said_states : (packet : List ℕ) (own : ℕ) (said : Saying) → own < 2 ^ 16 → States own (octets_said packet own said)
said_states packet own (Response code) fits = by_fields (is_connect packet) own (octet_of code) fits
said_states packet own (Confirmation code) fits = short_states own (octets_said packet own (Confirmation code)) (omega arith)
said_states packet own Silence fits = short_states own [] (omega arith)
said_states packet own NoMemory fits = short_states own [] (omega arith)
