-- Packets as they are written, piece by piece.
use Rattle.std.proofs.Common.{◌≡◌, ℕ, ◌+◌, ◌-◌, ◌≤◌, List, [], ◌∷◌, ◌++◌, length, set, take, drop, sym, ap, ◌∙◌, append_assoc, arith}
use Rattle.std.specs.Prelude.{fold, Ok}
use borrow.Rule.Slice.PartMut.{put_mid}
use Rattle.std.proofs.lemmas.List.{append-nil, length-append, length-take, length-drop, length-take-le, take_at, flat_map_more, take-append-drop, take_more_set, drop-drop, drop-set-lt, drop_all, take_rest}
use Rattle.bt_base.specs.Octets.{be16}
use Rattle.obex_headers.specs.declared.packet.Phase.{Phase}
use Rattle.obex_headers.specs.Laws.{encode}
use Rattle.obex_headers.specs.Reading.{packet_in}
use Rattle.obex_headers.specs.Packets.{PlainHeader, PlainPacket, Octets, header_octets, headers_octets, packet_len, packet_octets, IsPacket, with_header, grown}
use Rattle.obex_headers.proofs.PacketLaws.{length-packet, packet_again}

-- the new length over what stands, where more was put behind
pub relength : (front more rest : List ℕ) (n : ℕ) → 3 ≤ length front → n ≡ length front + length more
    → take 1 (front ++ (more ++ rest)) ++ (be16 n ++ drop 3 (front ++ (more ++ rest))) ≡ grown front more ++ rest
relength [] more rest n h e = absurd (omega arith)
relength (a ∷ []) more rest n h e = absurd (omega arith)
relength (a ∷ b ∷ []) more rest n h e = absurd (omega arith)
relength (a ∷ b ∷ c ∷ front) more rest n h e =
    ap (λ (k : ℕ). (a ∷ be16 k) ++ (front ++ (more ++ rest))) e ∙ ap (λ (y : List ℕ). (a ∷ be16 (length (a ∷ b ∷ c ∷ front) + length more)) ++ y) (sym (append_assoc front more rest))

pub length-grown : (front more : List ℕ) → 3 ≤ length front → length (grown front more) ≡ length front + length more
length-grown [] more h = absurd (omega arith)
length-grown (a ∷ []) more h = absurd (omega arith)
length-grown (a ∷ b ∷ []) more h = absurd (omega arith)
length-grown (a ∷ b ∷ c ∷ front) more h = omega (arith, length-append front more)

-- a packet with one more header behind it
pub grown_packet : (packet : PlainPacket) (header : PlainHeader) → grown (packet_octets packet) (header_octets header) ≡ packet_octets (with_header packet header)
grown_packet packet header =
    let body = packet.extra ++ headers_octets packet.headers in
    let more : body ++ header_octets header ≡ packet.extra ++ headers_octets (packet.headers ++ header ∷ []) = flat_map_more header_octets packet.extra packet.headers header in
    let len : length (packet_octets packet) + length (header_octets header) ≡ packet_len (with_header packet header) =
    omega (arith, length-packet packet, ap length more, length-append body (header_octets header), length-append packet.extra (headers_octets packet.headers), length-append packet.extra (headers_octets (packet.headers ++ header ∷ []))) in
    ap (λ (k : ℕ). (packet.code ∷ be16 k) ++ (body ++ header_octets header)) len ∙ ap (λ (y : List ℕ). (packet.code ∷ be16 (packet_len (with_header packet header))) ++ y) more

-- what stands in the front after the writing, where a packet stood before
pub grown_front : (front : List ℕ) (header : PlainHeader) (rest : List ℕ) (n : ℕ) (packet : PlainPacket) → 3 ≤ length front → n ≡ length front + length (header_octets header) → front ≡ packet_octets packet
    → take n (grown front (header_octets header) ++ rest) ≡ packet_octets (with_header packet header)
grown_front front header rest n packet h e stood =
    take_at (grown front (header_octets header)) rest n (length-grown front (header_octets header) h ∙ sym e)
    ∙ ap (λ (y : List ℕ). grown y (header_octets header)) stood ∙ grown_packet packet header

-- the header was put behind the front, and then the length was written
pub record IsWritten (old new : List ℕ) (at n : ℕ) (header : PlainHeader) : Type 0 where
  pub started : 3 ≤ at
  pub room : at ≤ length old
  pub len : n ≡ at + length (header_octets header)
  pub mid : List ℕ
  pub behind : mid ≡ take at old ++ (header_octets header ++ drop n old)
  pub stated : new ≡ take 1 mid ++ (be16 n ++ drop 3 mid)

pub is_grown : (old new : List ℕ) (at n : ℕ) (header : PlainHeader) → IsWritten old new at n header → new ≡ grown (take at old) (header_octets header) ++ drop n old
is_grown old new at n header h =
    let started = h.started in
    let len = h.len in
    let front_len : length (take at old) ≡ at = length-take-le at old h.room in
    h.stated ∙ ap (λ (y : List ℕ). take 1 y ++ (be16 n ++ drop 3 y)) h.behind ∙ relength (take at old) (header_octets header) (drop n old) n (omega arith) (omega arith)

pub packet_grown : (old new : List ℕ) (at n : ℕ) (header : PlainHeader) → IsWritten old new at n header → (packet : PlainPacket) → take at old ≡ packet_octets packet → take n new ≡ packet_octets (with_header packet header)
packet_grown old new at n header h packet stood =
    let started = h.started in
    let len = h.len in
    let front_len : length (take at old) ≡ at = length-take-le at old h.room in
    ap (take n) (is_grown old new at n header h) ∙ grown_front (take at old) header (drop n old) n packet (omega arith) (omega arith) stood

add_3 : (n : ℕ) → n + 1 + 2 ≡ n + 3
add_3 n = omega arith

-- the front of a header of octets, where its octets stand already
pub front_put : (old written : List ℕ) (at n id : ℕ) → at + 3 + n ≤ length old → written ≡ be16 (3 + n) ++ drop 2 (take (length (set old at id) - (at + 1)) (drop (at + 1) (set old at id)))
    → put_mid (at + 1) (length (set old at id) - (at + 1)) (set old at id) written
    ≡ take at old ++ (header_octets (record { id = id; value = Octets (take n (drop (at + 3) old)) }) ++ drop (at + 3 + n) old)
front_put old written at n id room e =
    let s = set old at id in
    let body = take n (drop (at + 3) old) in
    let rest = drop (at + 3 + n) old in
    let len : length body ≡ n = omega (arith, length-take n (drop (at + 3) old), length-drop (at + 3) old) in
    let past : drop 2 (take (length s - (at + 1)) (drop (at + 1) s)) ≡ body ++ rest =
    ap (drop 2) (take_rest s (at + 1)) ∙ drop-drop 2 (at + 1) s ∙ drop-set-lt (at + 1 + 2) old at id (omega arith) ∙ ap (λ (m : ℕ). drop m old) (add_3 at)
    ∙ sym (take-append-drop n (drop (at + 3) old)) ∙ ap (λ (y : List ℕ). body ++ y) (drop-drop n (at + 3) old) in
    let nothing : drop (length s - (at + 1)) (drop (at + 1) s) ≡ [] = drop_all (length s - (at + 1)) (drop (at + 1) s) (omega (arith, length-drop (at + 1) s)) in
    ap (λ (y : List ℕ). take (at + 1) s ++ (written ++ y)) nothing ∙ ap (λ (y : List ℕ). take (at + 1) s ++ y) (append-nil written)
    ∙ ap (λ (y : List ℕ). y ++ written) (take_more_set old at id (omega arith)) ∙ append_assoc (take at old) (id ∷ []) written
    ∙ ap (λ (y : List ℕ). take at old ++ (id ∷ y)) (e ∙ ap (λ (y : List ℕ). be16 (3 + n) ++ y) past ∙ ap (λ (m : ℕ). be16 (3 + m) ++ (body ++ rest)) (sym len))

-- ---- a whole packet, header by header

encoded_onto : (code : ℕ) (extra : List ℕ) (before headers : List PlainHeader)
    → fold (λ octets header. grown octets (header_octets header)) (packet_octets (record { code = code; extra = extra; headers = before })) headers ≡ packet_octets (record { code = code; extra = extra; headers = before ++ headers })
encoded_onto code extra before [] = ap (λ (hs : List PlainHeader). packet_octets (record { code = code; extra = extra; headers = hs })) (sym (append-nil before))
encoded_onto code extra before (header ∷ headers) =
    ap (λ (octets : List ℕ). fold (λ octets header. grown octets (header_octets header)) octets headers) (grown_packet (record { code = code; extra = extra; headers = before }) header)
    ∙ encoded_onto code extra (before ++ header ∷ []) headers
    ∙ ap (λ (hs : List PlainHeader). packet_octets (record { code = code; extra = extra; headers = hs })) (append_assoc before (header ∷ []) headers)

pub encode-is : (packet : PlainPacket) → encode packet ≡ packet_octets packet
encode-is packet = encoded_onto packet.code packet.extra [] packet.headers

pub encoded_again : (phase : Phase) (maximum : ℕ) (packet : PlainPacket) → IsPacket phase packet → length (encode packet) ≤ maximum → packet_in phase maximum (encode packet) ≡ Ok packet
encoded_again phase maximum packet h within = packet_again phase maximum (encode packet) packet (record { sound = h; within = within; spelling = encode-is packet })
