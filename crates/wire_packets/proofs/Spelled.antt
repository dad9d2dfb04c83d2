-- The octets of a packet, and the packet again.
use Rattle.std.proofs.Common.{◌≡◌, ℕ, zero, suc, get_or, take, ◌+◌, ◌-◌, ◌*◌, ◌/◌, ◌%◌, ◌<◌, ◌≤◌, Bool, true, false, List, [], ◌∷◌, length, drop, Ok, Err, eqb, inl, inr, refl, sym, ap, subst, ◌∙◌, arith}
use Rattle.std.specs.Prelude.{slice_index}
use Rattle.std.proofs.lemmas.List.{take_all}
use Rattle.bt_base.specs.Octets.{IsOctets}
use Rattle.wire_packets.specs.declared.refusal.WireRefusal.{WireRefusal}
use Rattle.wire_packets.specs.declared.refusal.WireRefusal.TheVariants.{Short, BadEscape, BadChecksum, Checked, BadLength, BadKind}
use Rattle.wire_packets.specs.Packets.{Packet, IsPacket, IsKind, bit, numbers_of, kind_of, spelling}
use Rattle.wire_packets.specs.Answers.{Answer, IsAnswer, Refuses, AddsUp, check_bit, stated_length, stated_kind}

pub bit_small : (b : Bool) → bit b ≤ 1
bit_small true = omega arith
bit_small false = omega arith

-- the fields of the header's octets
pub record Header (p : Packet) : Type 0 where
  pub sums : AddsUp (spelling p)
  pub unchecked : check_bit (spelling p) ≡ 0
  pub length_stated : 4 + stated_length (spelling p) ≡ length (spelling p)
  pub kind_stated : stated_kind (spelling p) ≡ p.kind

pub header_of : (p : Packet) → IsPacket p → Header p
header_of p fits =
    let small = bit_small p.reliable in
    let known : p.kind < 16 = elim fits.kind_known [ inl l ↦ omega arith | inr e ↦ omega arith ] in
    record {
      sums = omega (arith, fits.seq_fits, fits.ack_fits, fits.length_fits);
      unchecked = omega (arith, fits.seq_fits, fits.ack_fits);
      length_stated = omega (arith, fits.length_fits);
      kind_stated = omega arith;
    }

-- a spelled packet is refused for nothing
no_refusal : (p : Packet) (r : WireRefusal) → IsPacket p → Refuses (spelling p) r → ⊥
no_refusal p Short fits why = omega (arith, why)
no_refusal p BadEscape fits why = why
no_refusal p BadChecksum fits why = why.1 (header_of p fits).sums
no_refusal p Checked fits why = let h = header_of p fits in omega (arith, why.2, h.unchecked)
no_refusal p BadLength fits why = why.3 (header_of p fits).length_stated
no_refusal p BadKind fits why = why.4 (subst IsKind (sym (header_of p fits).kind_stated) fits.kind_known)

bit_same : (a b : Bool) → bit a ≡ bit b → a ≡ b
bit_same true true e = refl
bit_same true false e = absurd (omega arith)
bit_same false true e = absurd (omega arith)
bit_same false false e = refl

abbrev packet_at : ℕ → ℕ → Bool → ℕ → List ℕ → Packet
packet_at seq ack reliable kind payload = record { seq = seq; ack = ack; reliable = reliable; kind = kind; payload = payload }

same_fields : (p q : Packet) → p.seq ≡ q.seq → p.ack ≡ q.ack → p.reliable ≡ q.reliable → p.kind ≡ q.kind → p.payload ≡ q.payload → p ≡ q
same_fields p q a b c d e =
    ap (λ (x : ℕ). packet_at x p.ack p.reliable p.kind p.payload) a ∙ ap (λ (x : ℕ). packet_at q.seq x p.reliable p.kind p.payload) b ∙ ap (λ (x : Bool). packet_at q.seq q.ack x p.kind p.payload) c
    ∙ ap (λ (x : ℕ). packet_at q.seq q.ack q.reliable x p.payload) d ∙ ap (λ (x : List ℕ). packet_at q.seq q.ack q.reliable q.kind x) e

-- one refusal alone
one_refusal : (o : List ℕ) (r s : WireRefusal) → Refuses o r → Refuses o s → r ≡ s
one_refusal o Short Short a b = refl
one_refusal o Short BadEscape a b = absurd b
one_refusal o Short BadChecksum a b = absurd (omega (arith, a, b.0))
one_refusal o Short Checked a b = absurd (omega (arith, a, b.0))
one_refusal o Short BadLength a b = absurd (omega (arith, a, b.0))
one_refusal o Short BadKind a b = absurd (omega (arith, a, b.0))
one_refusal o BadEscape Short a b = absurd a
one_refusal o BadEscape BadEscape a b = refl
one_refusal o BadEscape BadChecksum a b = absurd a
one_refusal o BadEscape Checked a b = absurd a
one_refusal o BadEscape BadLength a b = absurd a
one_refusal o BadEscape BadKind a b = absurd a
one_refusal o BadChecksum Short a b = absurd (omega (arith, b, a.0))
one_refusal o BadChecksum BadEscape a b = absurd b
one_refusal o BadChecksum BadChecksum a b = refl
one_refusal o BadChecksum Checked a b = absurd (a.1 b.1)
one_refusal o BadChecksum BadLength a b = absurd (a.1 b.1)
one_refusal o BadChecksum BadKind a b = absurd (a.1 b.1)
one_refusal o Checked Short a b = absurd (omega (arith, b, a.0))
one_refusal o Checked BadEscape a b = absurd b
one_refusal o Checked BadChecksum a b = absurd (b.1 a.1)
one_refusal o Checked Checked a b = refl
one_refusal o Checked BadLength a b = absurd (omega (arith, a.2, b.2))
one_refusal o Checked BadKind a b = absurd (omega (arith, a.2, b.2))
one_refusal o BadLength Short a b = absurd (omega (arith, b, a.0))
one_refusal o BadLength BadEscape a b = absurd b
one_refusal o BadLength BadChecksum a b = absurd (b.1 a.1)
one_refusal o BadLength Checked a b = absurd (omega (arith, b.2, a.2))
one_refusal o BadLength BadLength a b = refl
one_refusal o BadLength BadKind a b = absurd (a.3 b.3)
one_refusal o BadKind Short a b = absurd (omega (arith, b, a.0))
one_refusal o BadKind BadEscape a b = absurd b
one_refusal o BadKind BadChecksum a b = absurd (b.1 a.1)
one_refusal o BadKind Checked a b = absurd (omega (arith, b.2, a.2))
one_refusal o BadKind BadLength a b = absurd (b.3 a.3)
one_refusal o BadKind BadKind a b = refl

-- two packets with the same octets are one, where their numbers fit their fields
pub one_packet : (p q : Packet) → p.seq < 8 → p.ack < 8 → q.seq < 8 → q.ack < 8 → spelling p ≡ spelling q → p ≡ q
one_packet p q ps pa qs qa e =
    let small = bit_small p.reliable in
    let small' = bit_small q.reliable in
    let n : numbers_of p ≡ numbers_of q = ap (λ xs. slice_index xs 0) e in
    let k : kind_of p ≡ kind_of q = ap (λ xs. slice_index xs 1) e in
    let payload : p.payload ≡ q.payload = ap (drop 4) e in
    let long = ap length payload in
    let seq : p.seq ≡ q.seq = omega (arith, ps, qs) in
    let ack : p.ack ≡ q.ack = omega (arith, ps, qs, pa, qa) in
    let rel : p.reliable ≡ q.reliable = bit_same p.reliable q.reliable (omega (arith, ps, qs, pa, qa)) in
    let kind : p.kind ≡ q.kind = omega (arith, long) in
    same_fields p q seq ack rel kind payload

-- an answer is the only one
pub one_answer_lem : (octets : List ℕ) (first second : Answer) → IsAnswer octets first → IsAnswer octets second → first ≡ second
one_answer_lem octets (Ok p) (Ok q) a b = ap Ok (one_packet p q a.0.seq_fits a.0.ack_fits b.0.seq_fits b.0.ack_fits (sym a.1 ∙ b.1))
one_answer_lem octets (Ok p) (Err r) a b = absurd (no_refusal p r a.0 (subst (λ (o : List ℕ). Refuses o r) a.1 b))
one_answer_lem octets (Err r) (Ok p) a b = absurd (no_refusal p r b.0 (subst (λ (o : List ℕ). Refuses o r) b.1 a))
one_answer_lem octets (Err r) (Err s) a b = ap Err (one_refusal octets r s a b)

-- the packet that octets spell whose header is in order
bit_read : (n : ℕ) → n < 2 → bit (eqb n 1) ≡ n
bit_read zero lt = refl
bit_read (suc zero) lt = refl
bit_read (suc (suc n)) lt = absurd (omega arith)

read_cons : (a b c d : ℕ) (payload : List ℕ) → a < 256 → b < 256 → c < 256 → d < 256 → (a + b + c + d) % 256 ≡ 255 → (a / 64 % 2 ≡ 1 → ⊥) → length payload ≡ b / 16 + 16 * c
    → IsKind (b % 16) → IsOctets payload → IsAnswer (a ∷ b ∷ c ∷ d ∷ payload) (Ok (packet_at (a % 8) (a / 8 % 8) (eqb (a / 128) 1) (b % 16) payload))
read_cons a b c d payload al bl cl dl sums unchecked long kind octets =
    let flag : bit (eqb (a / 128) 1) ≡ a / 128 = bit_read (a / 128) (omega arith) in
    let low : a % 8 + 8 * (a / 8 % 8) + 128 * bit (eqb (a / 128) 1) ≡ a = omega arith in
    let second : b % 16 + 16 * (length payload % 16) ≡ b = omega arith in
    let third : length payload / 16 ≡ c = omega arith in
    let fourth : 255 - (a + b + c) % 256 ≡ d = omega arith in (
      record { seq_fits = omega arith; ack_fits = omega arith; kind_known = kind; length_fits = omega arith; are_octets = octets },
      rw (low, second, third, fourth) refl,
    )

pub read_packet : (xs : List ℕ) → 4 ≤ length xs → IsOctets xs → (get_or xs 0 0 + get_or xs 1 0 + get_or xs 2 0 + get_or xs 3 0) % 256 ≡ 255 → (get_or xs 0 0 / 64 % 2 ≡ 1 → ⊥)
    → length (take (length xs - 4) (drop 4 xs)) ≡ get_or xs 1 0 / 16 + 16 * get_or xs 2 0 → IsKind (get_or xs 1 0 % 16)
    → IsAnswer xs (Ok (packet_at (get_or xs 0 0 % 8) (get_or xs 0 0 / 8 % 8) (eqb (get_or xs 0 0 / 128) 1) (get_or xs 1 0 % 16) (take (length xs - 4) (drop 4 xs))))
read_packet [] long fits sums unchecked length kind = absurd (omega arith)
read_packet (a ∷ []) long fits sums unchecked length kind = absurd (omega arith)
read_packet (a ∷ b ∷ []) long fits sums unchecked length kind = absurd (omega arith)
read_packet (a ∷ b ∷ c ∷ []) long fits sums unchecked length kind = absurd (omega arith)
read_packet (a ∷ b ∷ c ∷ d ∷ xs) long fits sums unchecked stated kind =
    let all : take (length (a ∷ b ∷ c ∷ d ∷ xs) - 4) xs ≡ xs = take_all (length (a ∷ b ∷ c ∷ d ∷ xs) - 4) xs (omega arith) in
    rw all (read_cons a b c d xs (fits 0) (fits 1) (fits 2) (fits 3) sums unchecked (rw all at stated) kind (λ i. fits (suc (suc (suc (suc i))))))
