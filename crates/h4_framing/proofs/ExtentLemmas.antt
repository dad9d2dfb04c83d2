-- What the length that the first octets tell means for a packet.
use Rattle.std.proofs.Common.{◌≡◌, ◌≢◌, ℕ, zero, suc, ◌+◌, ◌-◌, ◌*◌, ◌/◌, ◌%◌, ◌^◌, ◌<◌, ◌≤◌, List, [], ◌∷◌, ◌++◌, length, get_or, take, drop, max, refl, sym, ap, subst, ◌∙◌, append_assoc, arith, inl, inr}
use Rattle.std.specs.Prelude.{replicate}
use Rattle.std.proofs.lemmas.Bool.{cases_lt, le-ltb, lt-ltb}
use Rattle.std.proofs.lemmas.List.{append-nil, length-append, length-take, length-take-le, length-replicate, take-append-drop, take-append-le}
use Rattle.bt_base.specs.Octets.{IsOctets, le16}
use Rattle.h4_framing.specs.declared.refusal.H4Refusal.{H4Refusal}
use Rattle.h4_framing.specs.declared.refusal.H4Refusal.TheVariants.{BadIndicator, AclTooLong, Truncated}
use Rattle.h4_framing.specs.declared.extent.Extent.TheVariants.{AtLeast, Known, Refused}
use Rattle.h4_framing.specs.Packets.{Packet, Command, Acl, Sync, Event, spelling, IsPacket}
use Rattle.h4_framing.specs.Stream.{IsIndicator, IsFrontOf, IsUnfinished, GoesWrong}
use Rattle.h4_framing.specs.Extents.{acl_extent, extent}
use Rattle.h4_framing.proofs.OctetLists.{IsOctets-nil, IsOctets-cons, IsOctets-append, IsOctets-front, IsOctets-zeros}

-- two octets as a number, and again as octets
pub le16_of : (a b : ℕ) → a < 256 → b < 256 → le16 (a + 256 * b) ≡ a ∷ b ∷ []
le16_of a b low high =
    let first : (a + 256 * b) % 256 ≡ a = omega arith in
    let second : (a + 256 * b) / 256 % 256 ≡ b = omega arith in
    rw (first, second) refl

-- a number below 2 ^ 16 from its octets
pub le16_back : (n : ℕ) → n < 2 ^ 16 → n % 256 + 256 * (n / 256 % 256) ≡ n
le16_back n fits = omega arith

acl_known : (limit size n : ℕ) → acl_extent limit size ≡ Known n → (size ≤ limit) × (n ≡ 5 + size)
acl_known limit size n e =
    elim (cases_lt limit size) [
      | inl lt ↦ absurd (let b = lt-ltb limit size lt in let f = rw b at e in cc)
      | inr le ↦ (le, let b = le-ltb limit size le in let f = rw b at e in cc)
    ]

-- a packet's first octets, up to and with its length field
pub data HasHead (limit : ℕ) (octets : List ℕ) (n : ℕ) : Type 0 where
  command : (a b size : ℕ) (rest : List ℕ) → octets ≡ 1 ∷ a ∷ b ∷ size ∷ rest → n ≡ 4 + size → HasHead limit octets n
  acl : (a b low high : ℕ) (rest : List ℕ) → octets ≡ 2 ∷ a ∷ b ∷ low ∷ high ∷ rest → low + 256 * high ≤ limit → n ≡ 5 + (low + 256 * high) → HasHead limit octets n
  sync : (a b size : ℕ) (rest : List ℕ) → octets ≡ 3 ∷ a ∷ b ∷ size ∷ rest → n ≡ 4 + size → HasHead limit octets n
  event : (code size : ℕ) (rest : List ℕ) → octets ≡ 4 ∷ code ∷ size ∷ rest → n ≡ 3 + size → HasHead limit octets n

pub known_head : (limit : ℕ) (octets : List ℕ) (n : ℕ) → extent limit octets ≡ Known n → HasHead limit octets n
unfolding extent
known_head limit [] n e = absurd cc
known_head limit (zero ∷ xs) n e = absurd cc
known_head limit (suc zero ∷ []) n e = absurd cc
known_head limit (suc zero ∷ a ∷ []) n e = absurd cc
known_head limit (suc zero ∷ a ∷ b ∷ []) n e = absurd cc
known_head limit (suc zero ∷ a ∷ b ∷ size ∷ rest) n e = command a b size rest refl cc
known_head limit (suc (suc zero) ∷ []) n e = absurd cc
known_head limit (suc (suc zero) ∷ a ∷ []) n e = absurd cc
known_head limit (suc (suc zero) ∷ a ∷ b ∷ []) n e = absurd cc
known_head limit (suc (suc zero) ∷ a ∷ b ∷ low ∷ []) n e = absurd cc
known_head limit (suc (suc zero) ∷ a ∷ b ∷ low ∷ high ∷ rest) n e = let k = acl_known limit (low + 256 * high) n e in acl a b low high rest refl k.0 k.1
known_head limit (suc (suc (suc zero)) ∷ []) n e = absurd cc
known_head limit (suc (suc (suc zero)) ∷ a ∷ []) n e = absurd cc
known_head limit (suc (suc (suc zero)) ∷ a ∷ b ∷ []) n e = absurd cc
known_head limit (suc (suc (suc zero)) ∷ a ∷ b ∷ size ∷ rest) n e = sync a b size rest refl cc
known_head limit (suc (suc (suc (suc zero))) ∷ []) n e = absurd cc
known_head limit (suc (suc (suc (suc zero))) ∷ a ∷ []) n e = absurd cc
known_head limit (suc (suc (suc (suc zero))) ∷ code ∷ size ∷ rest) n e = event code size rest refl cc
known_head limit (suc (suc (suc (suc (suc k)))) ∷ xs) n e = absurd cc

pub head_known : (limit : ℕ) (octets : List ℕ) (n : ℕ) → HasHead limit octets n → extent limit octets ≡ Known n
unfolding extent
head_known limit octets n (command a b size rest e len) = rw (e, len) refl
head_known limit octets n (acl a b low high rest e le len) = let below = le-ltb limit (low + 256 * high) le in rw (e, len, below) refl
head_known limit octets n (sync a b size rest e len) = rw (e, len) refl
head_known limit octets n (event code size rest e len) = rw (e, len) refl

-- more octets change nothing
pub head_more : (limit : ℕ) (octets more : List ℕ) (n : ℕ) → HasHead limit octets n → HasHead limit (octets ++ more) n
head_more limit octets more n (command a b size rest e len) = command a b size (rest ++ more) (ap (λ (xs : List ℕ). xs ++ more) e) len
head_more limit octets more n (acl a b low high rest e le len) = acl a b low high (rest ++ more) (ap (λ (xs : List ℕ). xs ++ more) e) le len
head_more limit octets more n (sync a b size rest e len) = sync a b size (rest ++ more) (ap (λ (xs : List ℕ). xs ++ more) e) len
head_more limit octets more n (event code size rest e len) = event code size (rest ++ more) (ap (λ (xs : List ℕ). xs ++ more) e) len

pub known_more : (limit : ℕ) (octets more : List ℕ) (n : ℕ) → extent limit octets ≡ Known n → extent limit (octets ++ more) ≡ Known n
known_more limit octets more n e = head_known limit (octets ++ more) n (head_more limit octets more n (known_head limit octets n e))

-- as many octets as the head tells are a packet
head_packet : (limit : ℕ) (octets : List ℕ) → HasHead limit octets (length octets) → IsOctets octets → (packet : Packet) × IsPacket limit packet × (spelling packet ≡ octets)
head_packet limit octets (command a b size rest e len) fits =
    let all : IsOctets (1 ∷ a ∷ b ∷ size ∷ rest) = subst IsOctets e fits in
    let fits-a : a < 256 = all 1 in
    let fits-b : b < 256 = all 2 in
    let fits-size : size < 256 = all 3 in
    let long : length rest ≡ size = omega (arith, ap length e) in (
      Command (a + 256 * b) rest,
      (omega arith, omega arith, λ i. all (suc (suc (suc (suc i))))),
      ap (λ (xs : List ℕ). 1 ∷ (xs ++ length rest ∷ rest)) (le16_of a b fits-a fits-b) ∙ ap (λ (k : ℕ). 1 ∷ a ∷ b ∷ k ∷ rest) long ∙ sym e,
    )
head_packet limit octets (acl a b low high rest e le len) fits =
    let all : IsOctets (2 ∷ a ∷ b ∷ low ∷ high ∷ rest) = subst IsOctets e fits in
    let fits-a : a < 256 = all 1 in
    let fits-b : b < 256 = all 2 in
    let fits-low : low < 256 = all 3 in
    let fits-high : high < 256 = all 4 in
    let long : length rest ≡ low + 256 * high = omega (arith, ap length e) in (
      Acl (a + 256 * b) rest,
      (omega arith, omega arith, omega arith, λ i. all (suc (suc (suc (suc (suc i)))))),
      ap (λ (xs : List ℕ). 2 ∷ (xs ++ le16 (length rest) ++ rest)) (le16_of a b fits-a fits-b)
          ∙ ap (λ (k : ℕ). 2 ∷ a ∷ b ∷ (le16 k ++ rest)) long
          ∙ ap (λ (xs : List ℕ). 2 ∷ a ∷ b ∷ (xs ++ rest)) (le16_of low high fits-low fits-high) ∙ sym e,
    )
head_packet limit octets (sync a b size rest e len) fits =
    let all : IsOctets (3 ∷ a ∷ b ∷ size ∷ rest) = subst IsOctets e fits in
    let fits-a : a < 256 = all 1 in
    let fits-b : b < 256 = all 2 in
    let fits-size : size < 256 = all 3 in
    let long : length rest ≡ size = omega (arith, ap length e) in (
      Sync (a + 256 * b) rest,
      (omega arith, omega arith, λ i. all (suc (suc (suc (suc i))))),
      ap (λ (xs : List ℕ). 3 ∷ (xs ++ length rest ∷ rest)) (le16_of a b fits-a fits-b) ∙ ap (λ (k : ℕ). 3 ∷ a ∷ b ∷ k ∷ rest) long ∙ sym e,
    )
head_packet limit octets (event code size rest e len) fits =
    let all : IsOctets (4 ∷ code ∷ size ∷ rest) = subst IsOctets e fits in
    let fits-code : code < 256 = all 1 in
    let fits-size : size < 256 = all 2 in
    let long : length rest ≡ size = omega (arith, ap length e) in (
      Event code rest,
      (omega arith, omega arith, λ i. all (suc (suc (suc i)))),
      ap (λ (k : ℕ). 4 ∷ code ∷ k ∷ rest) long ∙ sym e,
    )

pub known_packet : (limit : ℕ) (octets : List ℕ) → extent limit octets ≡ Known (length octets) → IsOctets octets → (packet : Packet) × IsPacket limit packet × (spelling packet ≡ octets)
known_packet limit octets e fits = head_packet limit octets (known_head limit octets (length octets) e) fits

-- a packet's spelling tells its length, whatever follows it
pub packet_head : (limit : ℕ) (packet : Packet) (more : List ℕ) → IsPacket limit packet → HasHead limit (spelling packet ++ more) (length (spelling packet))
packet_head limit (Command opcode params) more fits = command (opcode % 256) (opcode / 256 % 256) (length params) (params ++ more) refl (omega arith)
packet_head limit (Acl word octets) more fits =
    let size = le16_back (length octets) fits.1 in
    acl (word % 256) (word / 256 % 256) (length octets % 256) (length octets / 256 % 256) (octets ++ more) refl (rw size fits.2) (rw size (omega arith))
packet_head limit (Sync word octets) more fits = sync (word % 256) (word / 256 % 256) (length octets) (octets ++ more) refl (omega arith)
packet_head limit (Event code params) more fits = event code (length params) (params ++ more) refl (omega arith)

pub packet_known : (limit : ℕ) (packet : Packet) (more : List ℕ) → IsPacket limit packet → extent limit (spelling packet ++ more) ≡ Known (length (spelling packet))
packet_known limit packet more fits = head_known limit (spelling packet ++ more) (length (spelling packet)) (packet_head limit packet more fits)

-- ---- fewer octets than the head tells

front_same : (k : ℕ) (octets more xs : List ℕ) → octets ++ more ≡ xs → k ≤ length octets → octets ≡ take k xs ++ drop k octets
front_same k octets more xs e le =
    sym (take-append-drop k octets) ∙ ap (λ (ys : List ℕ). ys ++ drop k octets) (sym (take-append-le k octets more le) ∙ ap (take k) e)

head_front : (limit : ℕ) (octets more : List ℕ) (n : ℕ) → HasHead limit (octets ++ more) n → n ≤ length octets → HasHead limit octets n
head_front limit octets more n (command a b size rest e len) le =
    command a b size (drop 4 octets) (front_same 4 octets more (1 ∷ a ∷ b ∷ size ∷ rest) e (omega arith)) len
head_front limit octets more n (acl a b low high rest e bound len) le =
    acl a b low high (drop 5 octets) (front_same 5 octets more (2 ∷ a ∷ b ∷ low ∷ high ∷ rest) e (omega arith)) bound len
head_front limit octets more n (sync a b size rest e len) le =
    sync a b size (drop 4 octets) (front_same 4 octets more (3 ∷ a ∷ b ∷ size ∷ rest) e (omega arith)) len
head_front limit octets more n (event code size rest e len) le =
    event code size (drop 3 octets) (front_same 3 octets more (4 ∷ code ∷ size ∷ rest) e (omega arith)) len

-- a packet that is whole among the octets is known from its own octets alone
pub known_front : (limit : ℕ) (octets more : List ℕ) (n : ℕ) → extent limit (octets ++ more) ≡ Known n → n ≤ length octets → extent limit octets ≡ Known n
known_front limit octets more n e le = head_known limit octets n (head_front limit octets more n (known_head limit (octets ++ more) n e) le)

pub known_take : (limit : ℕ) (octets : List ℕ) (n : ℕ) → extent limit octets ≡ Known n → n ≤ length octets → extent limit (take n octets) ≡ Known n
known_take limit octets n e le =
    let split : extent limit (take n octets ++ drop n octets) ≡ Known n = rw take-append-drop e in
    known_front limit (take n octets) (drop n octets) n split (omega (arith, length-take n octets))

-- the head tells no more than a framer has room for
pub head_bound : (limit : ℕ) (octets : List ℕ) (n : ℕ) → 255 ≤ limit → IsOctets octets → HasHead limit octets n → n ≤ 5 + limit
head_bound limit octets n low fits (command a b size rest e len) = let all : IsOctets (1 ∷ a ∷ b ∷ size ∷ rest) = subst IsOctets e fits in omega (arith, all 3)
head_bound limit octets n low fits (acl a b low' high rest e bound len) = omega arith
head_bound limit octets n low fits (sync a b size rest e len) = let all : IsOctets (3 ∷ a ∷ b ∷ size ∷ rest) = subst IsOctets e fits in omega (arith, all 3)
head_bound limit octets n low fits (event code size rest e len) = let all : IsOctets (4 ∷ code ∷ size ∷ rest) = subst IsOctets e fits in omega (arith, all 2)

pub known_bound : (limit : ℕ) (octets : List ℕ) (n : ℕ) → 255 ≤ limit → IsOctets octets → extent limit octets ≡ Known n → n ≤ 5 + limit
known_bound limit octets n low fits e = head_bound limit octets n low fits (known_head limit octets n e)

padded_by : (limit : ℕ) (octets pad zeros : List ℕ) (m : ℕ) (p : Packet) → IsPacket limit p → spelling p ≡ (octets ++ pad) ++ zeros → m ≡ length ((octets ++ pad) ++ zeros) → length octets < m
    → (packet : Packet) × IsFrontOf limit octets packet × (m ≡ length (spelling packet))
padded_by limit octets pad zeros m p fits spelled long lt =
    let regroup : octets ++ (pad ++ zeros) ≡ (octets ++ pad) ++ zeros = sym (append_assoc octets pad zeros) in
    (p, (pad ++ zeros, fits, (λ none. omega (arith, ap length none, ap length regroup, length-append octets (pad ++ zeros))), regroup ∙ sym spelled), long ∙ ap length (sym spelled))

-- octets with a tail that tells their length, which is not reached yet, begin a packet of that length
pub padded_front : (limit : ℕ) (octets pad : List ℕ) (m : ℕ) → HasHead limit (octets ++ pad) m → IsOctets octets → IsOctets pad → length octets < m → length (octets ++ pad) ≤ m
    → (packet : Packet) × IsFrontOf limit octets packet × (m ≡ length (spelling packet))
padded_front limit octets pad m head fits fits-pad lt le =
    let zeros : List ℕ = replicate (m - length (octets ++ pad)) 0 in
    let whole : List ℕ = (octets ++ pad) ++ zeros in
    let long : m ≡ length whole = omega (arith, length-append (octets ++ pad) zeros, length-replicate {A = ℕ} (m - length (octets ++ pad)) 0) in
    let head-whole : HasHead limit whole (length whole) = subst (λ (k : ℕ). HasHead limit whole k) long (head_more limit (octets ++ pad) zeros m head) in
    let fits-whole : IsOctets whole = IsOctets-append (octets ++ pad) zeros (IsOctets-append octets pad fits fits-pad) (IsOctets-zeros (m - length (octets ++ pad))) in
    let p = head_packet limit whole head-whole fits-whole in
    padded_by limit octets pad zeros m p.0 p.1 p.2 long lt

pub padded_unfinished : (limit : ℕ) (octets pad : List ℕ) (m : ℕ) → HasHead limit (octets ++ pad) m → IsOctets octets → IsOctets pad → length octets < m → length (octets ++ pad) ≤ m → IsUnfinished limit octets
padded_unfinished limit octets pad m head fits fits-pad lt le = let p = padded_front limit octets pad m head fits fits-pad lt le in (p.0, p.1)

pub known_unfinished : (limit : ℕ) (octets : List ℕ) (n : ℕ) → extent limit octets ≡ Known n → IsOctets octets → length octets < n → IsUnfinished limit octets
known_unfinished limit octets n e fits lt =
    padded_unfinished limit octets [] n (head_more limit octets [] n (known_head limit octets n e)) fits IsOctets-nil lt (omega (arith, length-append octets []))

-- how many octets lead up to the length field and with it
abbrev pub need : List ℕ → ℕ
need [] = 1
need (zero ∷ xs) = 1
need (suc zero ∷ xs) = 4
need (suc (suc zero) ∷ xs) = 5
need (suc (suc (suc zero)) ∷ xs) = 4
need (suc (suc (suc (suc zero))) ∷ xs) = 3
need (suc (suc (suc (suc (suc k)))) ∷ xs) = 1

pub need_more : (xs ys : List ℕ) → 0 < length xs → need (xs ++ ys) ≡ need xs
need_more [] ys some = absurd (omega arith)
need_more (zero ∷ xs) ys some = refl
need_more (suc zero ∷ xs) ys some = refl
need_more (suc (suc zero) ∷ xs) ys some = refl
need_more (suc (suc (suc zero)) ∷ xs) ys some = refl
need_more (suc (suc (suc (suc zero))) ∷ xs) ys some = refl
need_more (suc (suc (suc (suc (suc k)))) ∷ xs) ys some = refl

need_head : (limit : ℕ) (octets : List ℕ) (n : ℕ) → HasHead limit octets n → need octets ≤ n
need_head limit octets n (command a b size rest e len) = let h : need octets ≡ 4 = ap need e in omega arith
need_head limit octets n (acl a b low high rest e bound len) = let h : need octets ≡ 5 = ap need e in omega arith
need_head limit octets n (sync a b size rest e len) = let h : need octets ≡ 4 = ap need e in omega arith
need_head limit octets n (event code size rest e len) = let h : need octets ≡ 3 = ap need e in omega arith

pub need_known : (limit : ℕ) (octets : List ℕ) (n : ℕ) → extent limit octets ≡ Known n → need octets ≤ n
need_known limit octets n e = need_head limit octets n (known_head limit octets n e)

-- fewer octets than lead up to the length field, and octets that could follow them up to it
pub record IsShort (limit : ℕ) (octets : List ℕ) (n : ℕ) : Type 0 where
  pub bound : n ≤ 5
  pub needs : n ≡ need octets
  pub short : length octets < n
  pub pad : List ℕ
  pub fits : IsOctets pad
  pub told : ℕ
  pub tells : told ≡ max 3 n + get_or octets 3 0
  pub head : HasHead limit (octets ++ pad) told
  pub left : length octets < told
  pub within : length (octets ++ pad) ≤ told

acl_never_short : (limit size n : ℕ) → acl_extent limit size ≡ AtLeast n → ⊥
acl_never_short limit size n e =
    elim (cases_lt limit size) [
      | inl lt ↦ let b = lt-ltb limit size lt in let f = rw b at e in absurd cc
      | inr le ↦ let b = le-ltb limit size le in let f = rw b at e in absurd cc
    ]

pub at_least_short : (limit : ℕ) (octets : List ℕ) (n : ℕ) → 255 ≤ limit → IsOctets octets → extent limit octets ≡ AtLeast n → IsShort limit octets n
unfolding extent
at_least_short limit [] n low fits e =
    let is : 1 ≡ n = cc in
    record { bound = omega arith; needs = sym is; short = omega arith; pad = 4 ∷ 0 ∷ 0 ∷ []; fits = IsOctets-cons 4 (0 ∷ 0 ∷ []) (omega arith) (IsOctets-zeros 2); told = 3; tells = ap (λ (k : ℕ). max 3 k + 0) is; head = event 0 0 [] refl refl; left = omega arith; within = omega arith }
at_least_short limit (zero ∷ xs) n low fits e = absurd cc
at_least_short limit (suc zero ∷ []) n low fits e =
    let is : 4 ≡ n = cc in
    record { bound = omega arith; needs = sym is; short = omega arith; pad = 0 ∷ 0 ∷ 0 ∷ []; fits = IsOctets-zeros 3; told = 4; tells = ap (λ (k : ℕ). max 3 k + 0) is; head = command 0 0 0 [] refl refl; left = omega arith; within = omega arith }
at_least_short limit (suc zero ∷ a ∷ []) n low fits e =
    let is : 4 ≡ n = cc in
    record { bound = omega arith; needs = sym is; short = omega arith; pad = 0 ∷ 0 ∷ []; fits = IsOctets-zeros 2; told = 4; tells = ap (λ (k : ℕ). max 3 k + 0) is; head = command a 0 0 [] refl refl; left = omega arith; within = omega arith }
at_least_short limit (suc zero ∷ a ∷ b ∷ []) n low fits e =
    let is : 4 ≡ n = cc in
    record { bound = omega arith; needs = sym is; short = omega arith; pad = 0 ∷ []; fits = IsOctets-zeros 1; told = 4; tells = ap (λ (k : ℕ). max 3 k + 0) is; head = command a b 0 [] refl refl; left = omega arith; within = omega arith }
at_least_short limit (suc zero ∷ a ∷ b ∷ size ∷ rest) n low fits e = absurd cc
at_least_short limit (suc (suc zero) ∷ []) n low fits e =
    let is : 5 ≡ n = cc in
    record { bound = omega arith; needs = sym is; short = omega arith; pad = 0 ∷ 0 ∷ 0 ∷ 0 ∷ []; fits = IsOctets-zeros 4; told = 5; tells = ap (λ (k : ℕ). max 3 k + 0) is; head = acl 0 0 0 0 [] refl (omega arith) refl; left = omega arith; within = omega arith }
at_least_short limit (suc (suc zero) ∷ a ∷ []) n low fits e =
    let is : 5 ≡ n = cc in
    record { bound = omega arith; needs = sym is; short = omega arith; pad = 0 ∷ 0 ∷ 0 ∷ []; fits = IsOctets-zeros 3; told = 5; tells = ap (λ (k : ℕ). max 3 k + 0) is; head = acl a 0 0 0 [] refl (omega arith) refl; left = omega arith; within = omega arith }
at_least_short limit (suc (suc zero) ∷ a ∷ b ∷ []) n low fits e =
    let is : 5 ≡ n = cc in
    record { bound = omega arith; needs = sym is; short = omega arith; pad = 0 ∷ 0 ∷ []; fits = IsOctets-zeros 2; told = 5; tells = ap (λ (k : ℕ). max 3 k + 0) is; head = acl a b 0 0 [] refl (omega arith) refl; left = omega arith; within = omega arith }
at_least_short limit (suc (suc zero) ∷ a ∷ b ∷ size ∷ []) n low fits e =
    let is : 5 ≡ n = cc in
    let small : size < 256 = fits 3 in
    record { bound = omega arith; needs = sym is; short = omega arith; pad = 0 ∷ []; fits = IsOctets-zeros 1; told = 5 + (size + 256 * 0); tells = omega (arith, is); head = acl a b size 0 [] refl (omega arith) refl; left = omega arith; within = omega arith }
at_least_short limit (suc (suc zero) ∷ a ∷ b ∷ size ∷ high ∷ rest) n low fits e = absurd (acl_never_short limit (size + 256 * high) n e)
at_least_short limit (suc (suc (suc zero)) ∷ []) n low fits e =
    let is : 4 ≡ n = cc in
    record { bound = omega arith; needs = sym is; short = omega arith; pad = 0 ∷ 0 ∷ 0 ∷ []; fits = IsOctets-zeros 3; told = 4; tells = ap (λ (k : ℕ). max 3 k + 0) is; head = sync 0 0 0 [] refl refl; left = omega arith; within = omega arith }
at_least_short limit (suc (suc (suc zero)) ∷ a ∷ []) n low fits e =
    let is : 4 ≡ n = cc in
    record { bound = omega arith; needs = sym is; short = omega arith; pad = 0 ∷ 0 ∷ []; fits = IsOctets-zeros 2; told = 4; tells = ap (λ (k : ℕ). max 3 k + 0) is; head = sync a 0 0 [] refl refl; left = omega arith; within = omega arith }
at_least_short limit (suc (suc (suc zero)) ∷ a ∷ b ∷ []) n low fits e =
    let is : 4 ≡ n = cc in
    record { bound = omega arith; needs = sym is; short = omega arith; pad = 0 ∷ []; fits = IsOctets-zeros 1; told = 4; tells = ap (λ (k : ℕ). max 3 k + 0) is; head = sync a b 0 [] refl refl; left = omega arith; within = omega arith }
at_least_short limit (suc (suc (suc zero)) ∷ a ∷ b ∷ size ∷ rest) n low fits e = absurd cc
at_least_short limit (suc (suc (suc (suc zero))) ∷ []) n low fits e =
    let is : 3 ≡ n = cc in
    record { bound = omega arith; needs = sym is; short = omega arith; pad = 0 ∷ 0 ∷ []; fits = IsOctets-zeros 2; told = 3; tells = ap (λ (k : ℕ). max 3 k + 0) is; head = event 0 0 [] refl refl; left = omega arith; within = omega arith }
at_least_short limit (suc (suc (suc (suc zero))) ∷ a ∷ []) n low fits e =
    let is : 3 ≡ n = cc in
    record { bound = omega arith; needs = sym is; short = omega arith; pad = 0 ∷ []; fits = IsOctets-zeros 1; told = 3; tells = ap (λ (k : ℕ). max 3 k + 0) is; head = event a 0 [] refl refl; left = omega arith; within = omega arith }
at_least_short limit (suc (suc (suc (suc zero))) ∷ code ∷ size ∷ rest) n low fits e = absurd cc
at_least_short limit (suc (suc (suc (suc (suc k)))) ∷ xs) n low fits e = absurd cc

pub short_unfinished : (limit : ℕ) (octets : List ℕ) (n : ℕ) → 255 ≤ limit → IsOctets octets → extent limit octets ≡ AtLeast n → IsUnfinished limit octets
short_unfinished limit octets n low fits e =
    let s = at_least_short limit octets n low fits e in
    padded_unfinished limit octets s.pad s.told s.head fits s.fits s.left s.within

-- ---- octets that go wrong

acl_refused : (limit size : ℕ) (r : H4Refusal) (n : ℕ) → acl_extent limit size ≡ Refused r n → (limit < size) × (AclTooLong ≡ r) × (4 ≡ n)
acl_refused limit size r n e =
    elim (cases_lt limit size) [
      | inl lt ↦ let b = lt-ltb limit size lt in let f = rw b at e in (lt, cc, cc)
      | inr le ↦ let b = le-ltb limit size le in let f = rw b at e in absurd cc
    ]

wrong_same : (limit : ℕ) (octets : List ℕ) (r s : H4Refusal) (m n : ℕ) → r ≡ s → m ≡ n → GoesWrong limit octets r m → GoesWrong limit octets s n
wrong_same limit octets r s m n e f h = subst (λ (x : ℕ). GoesWrong limit octets s x) f (subst (λ (x : H4Refusal). GoesWrong limit octets x m) e h)

pub refused_wrong : (limit : ℕ) (octets : List ℕ) (r : H4Refusal) (n : ℕ) → IsOctets octets → extent limit octets ≡ Refused r n → GoesWrong limit octets r n
unfolding extent
refused_wrong limit [] r n fits e = absurd cc
refused_wrong limit (zero ∷ xs) r n fits e = wrong_same limit (zero ∷ xs) BadIndicator r 0 n (cc) (cc) (zero, xs, refl, (λ h. omega arith), refl)
refused_wrong limit (suc zero ∷ []) r n fits e = absurd cc
refused_wrong limit (suc zero ∷ a ∷ []) r n fits e = absurd cc
refused_wrong limit (suc zero ∷ a ∷ b ∷ []) r n fits e = absurd cc
refused_wrong limit (suc zero ∷ a ∷ b ∷ size ∷ rest) r n fits e = absurd cc
refused_wrong limit (suc (suc zero) ∷ []) r n fits e = absurd cc
refused_wrong limit (suc (suc zero) ∷ a ∷ []) r n fits e = absurd cc
refused_wrong limit (suc (suc zero) ∷ a ∷ b ∷ []) r n fits e = absurd cc
refused_wrong limit (suc (suc zero) ∷ a ∷ b ∷ low ∷ []) r n fits e = absurd cc
refused_wrong limit (suc (suc zero) ∷ a ∷ b ∷ low ∷ high ∷ rest) r n fits e =
    let k = acl_refused limit (low + 256 * high) r n e in
    let fits-a : a < 256 = fits 1 in
    let fits-b : b < 256 = fits 2 in
    let fits-low : low < 256 = fits 3 in
    let fits-high : high < 256 = fits 4 in
    wrong_same limit (2 ∷ a ∷ b ∷ low ∷ high ∷ rest) AclTooLong r 4 n k.1 k.2 (
      a + 256 * b,
      low + 256 * high,
      rest,
      sym (ap (λ (xs : List ℕ). 2 ∷ (xs ++ le16 (low + 256 * high) ++ rest)) (le16_of a b fits-a fits-b) ∙ ap (λ (xs : List ℕ). 2 ∷ a ∷ b ∷ (xs ++ rest)) (le16_of low high fits-low fits-high)),
      omega arith,
      k.0,
      refl,
    )
refused_wrong limit (suc (suc (suc zero)) ∷ []) r n fits e = absurd cc
refused_wrong limit (suc (suc (suc zero)) ∷ a ∷ []) r n fits e = absurd cc
refused_wrong limit (suc (suc (suc zero)) ∷ a ∷ b ∷ []) r n fits e = absurd cc
refused_wrong limit (suc (suc (suc zero)) ∷ a ∷ b ∷ size ∷ rest) r n fits e = absurd cc
refused_wrong limit (suc (suc (suc (suc zero))) ∷ []) r n fits e = absurd cc
refused_wrong limit (suc (suc (suc (suc zero))) ∷ a ∷ []) r n fits e = absurd cc
refused_wrong limit (suc (suc (suc (suc zero))) ∷ code ∷ size ∷ rest) r n fits e = absurd cc
refused_wrong limit (suc (suc (suc (suc (suc k)))) ∷ xs) r n fits e = wrong_same limit (suc (suc (suc (suc (suc k)))) ∷ xs) BadIndicator r 0 n (cc) (cc) (suc (suc (suc (suc (suc k)))), xs, refl, (λ h. omega arith), refl)

no_indicator : (limit first : ℕ) (more : List ℕ) → (IsIndicator first → ⊥) → extent limit (first ∷ more) ≡ Refused BadIndicator 0
unfolding extent
no_indicator limit zero more not = refl
no_indicator limit (suc zero) more not = absurd (not (omega arith, omega arith))
no_indicator limit (suc (suc zero)) more not = absurd (not (omega arith, omega arith))
no_indicator limit (suc (suc (suc zero))) more not = absurd (not (omega arith, omega arith))
no_indicator limit (suc (suc (suc (suc zero)))) more not = absurd (not (omega arith, omega arith))
no_indicator limit (suc (suc (suc (suc (suc k))))) more not = refl

acl_above : (limit size : ℕ) → limit < size → acl_extent limit size ≡ Refused AclTooLong 4
acl_above limit size lt = let b = lt-ltb limit size lt in rw b refl

acl_wrong : (limit word size : ℕ) (more : List ℕ) → size < 2 ^ 16 → limit < size → extent limit (2 ∷ (le16 word ++ le16 size ++ more)) ≡ Refused AclTooLong 4
unfolding extent
acl_wrong limit word size more fits lt = ap (acl_extent limit) (le16_back size fits) ∙ acl_above limit size lt

pub wrong_refused : (limit : ℕ) (octets : List ℕ) (r : H4Refusal) (n : ℕ) → GoesWrong limit octets r n → extent limit octets ≡ Refused r n
wrong_refused limit octets BadIndicator n h = rw (h.2, h.4) (no_indicator limit h.0 h.1 h.3)
wrong_refused limit octets AclTooLong n h = ap (extent limit) h.3 ∙ acl_wrong limit h.0 h.1 h.2 h.4 h.5 ∙ ap (Refused AclTooLong) (sym h.6)
wrong_refused limit octets Truncated n h = absurd h

-- more octets mend nothing
pub wrong_more : (limit : ℕ) (octets more : List ℕ) (r : H4Refusal) (n : ℕ) → GoesWrong limit octets r n → GoesWrong limit (octets ++ more) r n
wrong_more limit octets more BadIndicator n h = (h.0, h.1 ++ more, ap (λ (xs : List ℕ). xs ++ more) h.2, h.3, h.4)
wrong_more limit octets more AclTooLong n h = (h.0, h.1, h.2 ++ more, ap (λ (xs : List ℕ). xs ++ more) h.3, h.4, h.5, h.6)
wrong_more limit octets more Truncated n h = absurd h

-- ---- a packet that is not whole yet

pub some_long : (xs : List ℕ) → xs ≢ [] → 0 < length xs
some_long [] h = absurd (h refl)
some_long (x ∷ xs) h = omega arith

alone : (limit : ℕ) (packet : Packet) → IsPacket limit packet → extent limit (spelling packet) ≡ Known (length (spelling packet))
alone limit packet fits = ap (extent limit) (sym (append-nil (spelling packet))) ∙ packet_known limit packet [] fits

pub told_same : (m n : ℕ) → Known m ≡ Known n → m ≡ n
told_same m n e = cc

-- a packet that the octets begin has the length that they tell
pub front_known : (limit : ℕ) (octets : List ℕ) (n : ℕ) (packet : Packet) → IsFrontOf limit octets packet → extent limit octets ≡ Known n → n ≡ length (spelling packet)
front_known limit octets n packet f e =
    let more = known_more limit octets f.0 n e in
    told_same n (length (spelling packet)) (sym more ∙ ap (extent limit) f.3 ∙ alone limit packet f.1)

pub unfinished_known : (limit : ℕ) (octets : List ℕ) (n : ℕ) → IsUnfinished limit octets → extent limit octets ≡ Known n → length octets < n
unfinished_known limit octets n u e =
    let same = front_known limit octets n u.0 u.1 e in
    omega (arith, some_long u.1.0 u.1.2, length-append octets u.1.0, ap length u.1.3)

pub unfinished_right : (limit : ℕ) (octets : List ℕ) (r : H4Refusal) (n : ℕ) → IsUnfinished limit octets → GoesWrong limit octets r n → ⊥
unfinished_right limit octets r n u h =
    let wrong = wrong_refused limit (octets ++ u.1.0) r n (wrong_more limit octets u.1.0 r n h) in
    let right = ap (extent limit) u.1.3 ∙ alone limit u.0 u.1.1 in
    absurd cc

pub packet_right : (limit : ℕ) (packet : Packet) (more : List ℕ) (r : H4Refusal) (n : ℕ) → IsPacket limit packet → GoesWrong limit (spelling packet ++ more) r n → ⊥
packet_right limit packet more r n fits h =
    let wrong = wrong_refused limit (spelling packet ++ more) r n h in
    let right = packet_known limit packet more fits in
    absurd cc

pub packet_long : (packet : Packet) → 0 < length (spelling packet)
packet_long (Command opcode params) = omega arith
packet_long (Acl word octets) = omega arith
packet_long (Sync word octets) = omega arith
packet_long (Event code params) = omega arith

-- ---- the same head under a greater limit

head_above : (low high : ℕ) (octets : List ℕ) (n : ℕ) → low ≤ high → HasHead low octets n → HasHead high octets n
head_above low high octets n le (command a b size rest e len) = command a b size rest e len
head_above low high octets n le (acl a b l h rest e bound len) = acl a b l h rest e (omega arith) len
head_above low high octets n le (sync a b size rest e len) = sync a b size rest e len
head_above low high octets n le (event code size rest e len) = event code size rest e len

pub known_above : (low high : ℕ) (octets : List ℕ) (n : ℕ) → low ≤ high → extent low octets ≡ Known n → extent high octets ≡ Known n
known_above low high octets n le e = head_known high octets n (head_above low high octets n le (known_head low octets n e))

head_positive : (limit : ℕ) (octets : List ℕ) (n : ℕ) → HasHead limit octets n → 0 < n
head_positive limit octets n (command a b size rest e len) = omega arith
head_positive limit octets n (acl a b low high rest e bound len) = omega arith
head_positive limit octets n (sync a b size rest e len) = omega arith
head_positive limit octets n (event code size rest e len) = omega arith

pub known_positive : (limit : ℕ) (octets : List ℕ) (n : ℕ) → extent limit octets ≡ Known n → 0 < n
known_positive limit octets n e = head_positive limit octets n (known_head limit octets n e)

-- a packet that is whole at the front of the octets is known by itself, also to whoever knows no limit
pub whole_known : (limit : ℕ) (octets : List ℕ) (n : ℕ) → limit < 2 ^ 16 → extent limit octets ≡ Known n → n ≤ length octets → extent 65535 (take n octets) ≡ Known (length (take n octets))
whole_known limit octets n fits e le =
    let front = known_above limit 65535 (take n octets) n (omega arith) (known_take limit octets n e le) in
    front ∙ ap Known (sym (length-take-le n octets le))

-- ---- a packet's octets are octets

pub spelling_octets : (limit : ℕ) (packet : Packet) → IsPacket limit packet → IsOctets (spelling packet)
spelling_octets limit (Command opcode params) fits =
    IsOctets-cons 1 (opcode % 256 ∷ opcode / 256 % 256 ∷ length params ∷ params) (omega arith)
    (IsOctets-cons (opcode % 256) (opcode / 256 % 256 ∷ length params ∷ params) (omega arith)
    (IsOctets-cons (opcode / 256 % 256) (length params ∷ params) (omega arith) (IsOctets-cons (length params) params fits.1 fits.2)))
spelling_octets limit (Acl word octets) fits =
    IsOctets-cons 2 (word % 256 ∷ word / 256 % 256 ∷ length octets % 256 ∷ length octets / 256 % 256 ∷ octets) (omega arith)
    (IsOctets-cons (word % 256) (word / 256 % 256 ∷ length octets % 256 ∷ length octets / 256 % 256 ∷ octets) (omega arith)
    (IsOctets-cons (word / 256 % 256) (length octets % 256 ∷ length octets / 256 % 256 ∷ octets) (omega arith)
    (IsOctets-cons (length octets % 256) (length octets / 256 % 256 ∷ octets) (omega arith) (IsOctets-cons (length octets / 256 % 256) octets (omega arith) fits.3))))
spelling_octets limit (Sync word octets) fits =
    IsOctets-cons 3 (word % 256 ∷ word / 256 % 256 ∷ length octets ∷ octets) (omega arith)
    (IsOctets-cons (word % 256) (word / 256 % 256 ∷ length octets ∷ octets) (omega arith)
    (IsOctets-cons (word / 256 % 256) (length octets ∷ octets) (omega arith) (IsOctets-cons (length octets) octets fits.1 fits.2)))
spelling_octets limit (Event code params) fits =
    IsOctets-cons 4 (code ∷ length params ∷ params) (omega arith) (IsOctets-cons code (length params ∷ params) fits.0 (IsOctets-cons (length params) params fits.1 fits.2))

pub unfinished_octets : (limit : ℕ) (octets : List ℕ) → IsUnfinished limit octets → IsOctets octets
unfinished_octets limit octets u = IsOctets-front octets u.1.0 (subst IsOctets (sym u.1.3) (spelling_octets limit u.0 u.1.1))
