-- A packet is known by its spelling.
use Rattle.std.proofs.Common.{◌≡◌, ℕ, ◌+◌, ◌-◌, ◌*◌, ◌/◌, ◌%◌, ◌^◌, ◌<◌, ◌≤◌, List, ◌∷◌, ◌++◌, length, get_or, take, drop, refl, sym, ap, subst, ◌∙◌, arith}
use Rattle.std.proofs.lemmas.List.{take_all, take_at, drop_at}
use Rattle.bt_base.specs.Octets.{IsOctets, le16}
use Rattle.h4_framing.specs.declared.extent.Extent.TheVariants.{Known}
use Rattle.h4_framing.specs.Packets.{Packet, Command, Acl, Sync, Event, spelling, IsPacket, HasNumber}
use Rattle.h4_framing.specs.Extents.{extent}
use Rattle.h4_framing.proofs.ExtentLemmas.{HasHead, command, acl, sync, event, known_head, known_packet, packet_known, le16_of, told_same}

-- two lists that begin with the same number have the same rest
tail_same : (x y : ℕ) (xs ys : List ℕ) → x ∷ xs ≡ y ∷ ys → xs ≡ ys
tail_same x y xs ys e = cc

numbers_same : (m n : ℕ) → m < 2 ^ 16 → n < 2 ^ 16 → m % 256 ≡ n % 256 → m / 256 % 256 ≡ n / 256 % 256 → m ≡ n
numbers_same m n p q e f = omega arith

command_same : (a b : ℕ) (xs ys : List ℕ) → a < 2 ^ 16 → b < 2 ^ 16 → spelling (Command a xs) ≡ spelling (Command b ys) → Command a xs ≡ Command b ys
command_same a b xs ys p q e =
    let low : a % 256 ≡ b % 256 = cc in
    let high : a / 256 % 256 ≡ b / 256 % 256 = cc in
    let number : a ≡ b = numbers_same a b p q low high in
    let rest : xs ≡ ys = cc in
    cc

acl_same : (a b : ℕ) (xs ys : List ℕ) → a < 2 ^ 16 → b < 2 ^ 16 → spelling (Acl a xs) ≡ spelling (Acl b ys) → Acl a xs ≡ Acl b ys
acl_same a b xs ys p q e =
    let low : a % 256 ≡ b % 256 = cc in
    let high : a / 256 % 256 ≡ b / 256 % 256 = cc in
    let number : a ≡ b = numbers_same a b p q low high in
    let rest : xs ≡ ys = cc in
    cc

sync_same : (a b : ℕ) (xs ys : List ℕ) → a < 2 ^ 16 → b < 2 ^ 16 → spelling (Sync a xs) ≡ spelling (Sync b ys) → Sync a xs ≡ Sync b ys
sync_same a b xs ys p q e =
    let low : a % 256 ≡ b % 256 = cc in
    let high : a / 256 % 256 ≡ b / 256 % 256 = cc in
    let number : a ≡ b = numbers_same a b p q low high in
    let rest : xs ≡ ys = cc in
    cc

pub same_spelling : (p q : Packet) → HasNumber p → HasNumber q → spelling p ≡ spelling q → p ≡ q
same_spelling (Command a xs) (Command b ys) m n e = command_same a b xs ys m n e
same_spelling (Command a xs) (Acl b ys) m n e = absurd cc
same_spelling (Command a xs) (Sync b ys) m n e = absurd cc
same_spelling (Command a xs) (Event b ys) m n e = absurd cc
same_spelling (Acl a xs) (Command b ys) m n e = absurd cc
same_spelling (Acl a xs) (Acl b ys) m n e = acl_same a b xs ys m n e
same_spelling (Acl a xs) (Sync b ys) m n e = absurd cc
same_spelling (Acl a xs) (Event b ys) m n e = absurd cc
same_spelling (Sync a xs) (Command b ys) m n e = absurd cc
same_spelling (Sync a xs) (Acl b ys) m n e = absurd cc
same_spelling (Sync a xs) (Sync b ys) m n e = sync_same a b xs ys m n e
same_spelling (Sync a xs) (Event b ys) m n e = absurd cc
same_spelling (Event a xs) (Command b ys) m n e = absurd cc
same_spelling (Event a xs) (Acl b ys) m n e = absurd cc
same_spelling (Event a xs) (Sync b ys) m n e = absurd cc
same_spelling (Event a xs) (Event b ys) m n e = let number : a ≡ b = cc in let rest : xs ≡ ys = cc in cc

pub packet_number : (limit : ℕ) (p : Packet) → IsPacket limit p → HasNumber p
packet_number limit (Command a xs) fits = fits.0
packet_number limit (Acl a xs) fits = fits.0
packet_number limit (Sync a xs) fits = fits.0
packet_number limit (Event a xs) fits = fits.0

-- a unit whose spelling is known to be whole is a packet
pub spelled_packet : (limit : ℕ) (p : Packet) (octets : List ℕ) → HasNumber p → spelling p ≡ octets → IsOctets octets → extent limit octets ≡ Known (length octets) → IsPacket limit p
spelled_packet limit p octets number e fits known =
    let q = known_packet limit octets known fits in
    subst (IsPacket limit) (same_spelling q.0 p (packet_number limit q.0 q.1) number (q.2 ∙ sym e)) q.1

-- no spelling begins another
pub one_spelling : (limit : ℕ) (p q : Packet) (x y : List ℕ) → IsPacket limit p → IsPacket limit q → spelling p ++ x ≡ spelling q ++ y → (p ≡ q) × (x ≡ y)
one_spelling limit p q x y fits-p fits-q e =
    let long : length (spelling p) ≡ length (spelling q) =
    told_same (length (spelling p)) (length (spelling q)) (sym (packet_known limit p x fits-p) ∙ ap (extent limit) e ∙ packet_known limit q y fits-q) in
    let front : spelling p ≡ spelling q =
    sym (take_at (spelling p) x (length (spelling p)) refl) ∙ ap (take (length (spelling p))) e ∙ take_at (spelling q) y (length (spelling p)) (sym long) in
    let rest : x ≡ y =
    sym (drop_at (spelling p) x (length (spelling p)) refl) ∙ ap (drop (length (spelling p))) e ∙ drop_at (spelling q) y (length (spelling p)) (sym long) in
    (same_spelling p q (packet_number limit p fits-p) (packet_number limit q fits-q) front, rest)

-- an ACL packet again from its octets
acl_parts : (octets : List ℕ) (word : ℕ) → IsOctets octets → HasHead 65535 octets (length octets) → get_or octets 0 0 ≡ 2 → word ≡ get_or octets 1 0 + get_or octets 2 0 * 256 → spelling (Acl word (take (length octets - 5) (drop 5 octets))) ≡ octets
acl_parts octets word fits (command a b size rest e len) is number = absurd (let h = ap (λ (xs : List ℕ). get_or xs 0 0) e in omega arith)
acl_parts octets word fits (acl a b low high rest e le len) is number =
    let all : IsOctets (2 ∷ a ∷ b ∷ low ∷ high ∷ rest) = subst IsOctets e fits in
    let fits-a : a < 256 = all 1 in
    let fits-b : b < 256 = all 2 in
    let fits-low : low < 256 = all 3 in
    let fits-high : high < 256 = all 4 in
    let long : length rest ≡ low + 256 * high = omega (arith, ap length e) in
    let at-a : get_or octets 1 0 ≡ a = ap (λ (xs : List ℕ). get_or xs 1 0) e in
    let at-b : get_or octets 2 0 ≡ b = ap (λ (xs : List ℕ). get_or xs 2 0) e in
    let word-is : word ≡ a + 256 * b = omega arith in
    let left : length rest ≤ length octets - 5 = omega (arith, ap length e) in
    let rest-is : take (length octets - 5) (drop 5 octets) ≡ rest = ap (λ (xs : List ℕ). take (length octets - 5) (drop 5 xs)) e ∙ take_all (length octets - 5) rest left in
    ap (λ (xs : List ℕ). spelling (Acl word xs)) rest-is
    ∙ ap (λ (k : ℕ). 2 ∷ (le16 k ++ le16 (length rest) ++ rest)) word-is
    ∙ ap (λ (xs : List ℕ). 2 ∷ (xs ++ le16 (length rest) ++ rest)) (le16_of a b fits-a fits-b)
    ∙ ap (λ (k : ℕ). 2 ∷ a ∷ b ∷ (le16 k ++ rest)) long
    ∙ ap (λ (xs : List ℕ). 2 ∷ a ∷ b ∷ (xs ++ rest)) (le16_of low high fits-low fits-high) ∙ sym e
acl_parts octets word fits (sync a b size rest e len) is number = absurd (let h = ap (λ (xs : List ℕ). get_or xs 0 0) e in omega arith)
acl_parts octets word fits (event code size rest e len) is number = absurd (let h = ap (λ (xs : List ℕ). get_or xs 0 0) e in omega arith)

pub acl_again : (octets : List ℕ) (word : ℕ) → IsOctets octets → extent 65535 octets ≡ Known (length octets) → get_or octets 0 0 ≡ 2 → word ≡ get_or octets 1 0 + get_or octets 2 0 * 256 → spelling (Acl word (take (length octets - 5) (drop 5 octets))) ≡ octets
acl_again octets word fits known is number = acl_parts octets word fits (known_head 65535 octets (length octets) known) is number
