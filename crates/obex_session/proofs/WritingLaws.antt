-- The octets of a PUT, while it is written.
use Rattle.std.proofs.Common.{Bool, true, false, cond, ◌≡◌, ℕ, ◌+◌, ◌<◌, ◌≤◌, List, [], ◌++◌, length, take, drop, Option, sym, ap, subst, ◌∙◌, arith}
use Rattle.std.specs.Prelude.{IfSome}
use Rattle.std.proofs.lemmas.List.{length-take-le, length-drop, take_at, drop-drop, take-append-drop, take-append-le}
use Rattle.std.proofs.Math.Seq.{drop-append-add}
use Rattle.bt_base.specs.Objects.{Object, octets_of, HasAt}
use Rattle.obex_headers.specs.Packets.{Text, Four, Octets, PlainHeader, PlainPacket, packet_octets, header_octets, headers_octets, with_header, grown}
use Rattle.obex_headers.proofs.PacketLaws.{length-packet}
use Rattle.obex_headers.proofs.WritingLaws.{grown_packet, length-grown}
use Rattle.obex_session.specs.Responses.{single_header}
use Rattle.obex_session.specs.PutPackets.{head_with, put_packet, WritesPut}

-- ---- one header more

behind : (front back : List ℕ) (at more : ℕ) → length front ≡ at → drop (at + more) (front ++ drop at back) ≡ drop (at + more) back
behind front back at more e = ap (λ (n : ℕ). drop (n + more) (front ++ drop at back)) (sym e) ∙ drop-append-add front (drop at back) more ∙ drop-drop more at back

-- what stands in the first octets is a packet, and the rest of the room is as it was
pub record Stood (packet : PlainPacket) (at : ℕ) (room now : List ℕ) : Type 0 where
  pub at_is : at ≡ length (packet_octets packet)
  pub now_is : now ≡ packet_octets packet ++ drop at room

pub one_header_more : (packet : PlainPacket) (header : PlainHeader) (at end : ℕ) (room now new : List ℕ) → Stood packet at room now → 3 ≤ at → end ≡ at + length (header_octets header)
    → new ≡ grown (take at now) (header_octets header) ++ drop end now → Stood (with_header packet header) end room new
one_header_more packet header at end room now new stood three e written =
    let front : take at now ≡ packet_octets packet = ap (take at) stood.now_is ∙ take_at (packet_octets packet) (drop at room) at (sym stood.at_is) in
    let rest : drop end now ≡ drop end room =
    ap (drop end) stood.now_is ∙ ap (λ (n : ℕ). drop n (packet_octets packet ++ drop at room)) e ∙ behind (packet_octets packet) room at (length (header_octets header)) (sym stood.at_is) ∙ ap (λ (n : ℕ). drop n room) (sym e) in
    let whole : grown (packet_octets packet) (header_octets header) ≡ packet_octets (with_header packet header) = grown_packet packet header in
    let len = length-grown (packet_octets packet) (header_octets header) (subst (λ (n : ℕ). 3 ≤ n) stood.at_is three) in
    record {
      at_is = e ∙ ap (λ (n : ℕ). n + length (header_octets header)) stood.at_is ∙ sym len ∙ ap length whole;
      now_is = written ∙ ap (λ (xs : List ℕ). grown xs (header_octets header) ++ drop end now) front ∙ ap (λ (xs : List ℕ). xs ++ drop end now) whole ∙ ap (λ (xs : List ℕ). packet_octets (with_header packet header) ++ xs) rest;
    }

-- the first octets of the first octets
take_front : (at : ℕ) (xs : List ℕ) → at ≤ length (take (at + 3) xs) → take at xs ≡ take at (take (at + 3) xs)
take_front at xs h = ap (take at) (sym (take-append-drop (at + 3) xs)) ∙ take-append-le at (take (at + 3) xs) (drop (at + 3) xs) h

-- ---- a body whose octets were put in their place first

-- the octets were put in place
pub record Placed (at n : ℕ) (old mid : List ℕ) : Type 0 where
  pub front : take (at + 3) mid ≡ take (at + 3) old
  pub rest : drop (at + 3 + n) mid ≡ drop (at + 3 + n) old
  pub room : at + 3 + n ≤ length mid

pub body_written : (packet : PlainPacket) (id n at end : ℕ) (room old mid new : List ℕ) → Stood packet at room old → 3 ≤ at → Placed at n old mid → end ≡ at + 3 + n
    → new ≡ grown (take at mid) (header_octets (record { id = id; value = Octets (take n (drop (at + 3) mid)) })) ++ drop end mid
    → Stood (with_header packet (record { id = id; value = Octets (take n (drop (at + 3) mid)) })) end room new
body_written packet id n at end room old mid new stood three placed e written =
    let part = take n (drop (at + 3) mid) in
    let fits = placed.room in
    let part_len : length part ≡ n = length-take-le n (drop (at + 3) mid) (let len = length-drop (at + 3) mid in omega (arith, len, fits)) in
    let long : at ≤ length (take (at + 3) mid) = let len = length-take-le (at + 3) mid (omega (arith, fits)) in omega (arith, len) in
    let front : take at mid ≡ take at old =
    take_front at mid long ∙ ap (take at) placed.front ∙ sym (take_front at old (subst (λ (xs : List ℕ). at ≤ length xs) placed.front long)) in
    one_header_more packet (record { id = id; value = Octets part }) at end room old new stood three (omega (arith, e, part_len))
    (written ∙ ap (λ (xs : List ℕ). grown xs (header_octets (record { id = id; value = Octets part })) ++ drop end mid) front
    ∙ ap (λ (xs : List ℕ). grown (take at old) (header_octets (record { id = id; value = Octets part })) ++ xs) (ap (λ (k : ℕ). drop k mid) e ∙ placed.rest ∙ ap (λ (k : ℕ). drop k old) (sym e)))

-- what `WritesPut` says of it
pub put_written : (final : Bool) (ahead : List PlainHeader) (n : ℕ) (name : List ℕ) (place at end id : ℕ) (content : Option (List Object)) (room old mid new : List ℕ)
    → old ≡ packet_octets (record { code = cond final 0x82 0x02; extra = []; headers = ahead }) ++ drop at room → at ≡ 3 + length (headers_octets ahead) → Placed at n old mid → end ≡ at + 3 + n → id ≡ cond final 0x49 0x48
    → (0 < n → IfSome content (λ objects. HasAt place (take n (drop (at + 3) mid)) (octets_of name objects)))
    → new ≡ grown (take at mid) (header_octets (record { id = id; value = Octets (take n (drop (at + 3) mid)) })) ++ drop end mid
    → WritesPut final ahead n name place content room new end
put_written final ahead n name place at end id content room old mid new stood at_is placed e id_is told written =
    let packet : PlainPacket = record { code = cond final 0x82 0x02; extra = []; headers = ahead } in
    let len = length-packet packet in
    let before : Stood packet at room old = record { at_is = omega (arith, at_is, len); now_is = stood } in
    let part = take n (drop (at + 3) mid) in
    let after : Stood (put_packet final ahead part) end room new = body_written packet (cond final 0x49 0x48) n at end room old mid new before (omega (arith, at_is)) placed e
    (written ∙ ap (λ (i : ℕ). grown (take at mid) (header_octets (record { id = i; value = Octets part })) ++ drop end mid) id_is) in
    let fits = placed.room in
    record {
      part = part;
      part_len = length-take-le n (drop (at + 3) mid) (let l = length-drop (at + 3) mid in omega (arith, l, fits));
      told = told;
      count_is = after.at_is;
      written = after.now_is;
    }

-- ---- the front of the first PUT of an object

object_sized : (code size bare named end : ℕ) (text room now now' now'' : List ℕ)
    → bare ≡ 3 → now ≡ packet_octets (record { code = code; extra = []; headers = [] }) ++ drop bare room
    → named ≡ bare + (3 + length text) → now' ≡ grown (take bare now) (header_octets (record { id = 0x01; value = Text text })) ++ drop named now
    → end ≡ named + 5 → now'' ≡ grown (take named now') (header_octets (record { id = 0xC3; value = Four size })) ++ drop end now'
    → Stood (record { code = code; extra = []; headers = head_with false text size }) end room now''
object_sized code size bare named end text room now now' now'' b w n w' e w'' =
    let start : PlainPacket = record { code = code; extra = []; headers = [] } in
    let name : PlainHeader = record { id = 0x01; value = Text text } in
    let length_header : PlainHeader = record { id = 0xC3; value = Four size } in
    let len = length-packet start in
    let first : Stood start bare room now = record { at_is = omega (arith, b, len); now_is = w } in
    let second : Stood (with_header start name) named room now' = one_header_more start name bare named room now now' first (omega (arith, b)) (omega (arith, n)) w' in
    one_header_more (with_header start name) length_header named end room now' now'' second (omega (arith, b, n)) e w''

pub object_started : (wanted : Bool) (code size bare named sized end : ℕ) (text room now now' now'' last : List ℕ)
    → bare ≡ 3 → now ≡ packet_octets (record { code = code; extra = []; headers = [] }) ++ drop bare room
    → named ≡ bare + (3 + length text) → now' ≡ grown (take bare now) (header_octets (record { id = 0x01; value = Text text })) ++ drop named now
    → sized ≡ named + 5 → now'' ≡ grown (take named now') (header_octets (record { id = 0xC3; value = Four size })) ++ drop sized now'
    → end ≡ sized + cond wanted 2 0 → last ≡ cond wanted (grown (take sized now'') (header_octets single_header) ++ drop end now'') now''
    → last ≡ packet_octets (record { code = code; extra = []; headers = head_with wanted text size }) ++ drop end room
object_started true code size bare named sized end text room now now' now'' last b w n w' e w'' f z =
    let before = object_sized code size bare named sized text room now now' now'' b w n w' e w'' in
    let after : Stood (record { code = code; extra = []; headers = head_with true text size }) end room last =
    one_header_more (record { code = code; extra = []; headers = head_with false text size }) single_header sized end room now'' last before (omega (arith, b, n, e)) f z in
    after.now_is
object_started false code size bare named sized end text room now now' now'' last b w n w' e w'' f z =
    let before = object_sized code size bare named sized text room now now' now'' b w n w' e w'' in
    let same : sized ≡ end = omega (arith, f) in
    z ∙ before.now_is ∙ ap (λ (k : ℕ). packet_octets (record { code = code; extra = []; headers = head_with false text size }) ++ drop k room) same
