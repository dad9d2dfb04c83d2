-- The fewest octets of a packet that begins with some octets.
use Rattle.std.proofs.Common.{◌≡◌, ℕ, zero, suc, ◌+◌, ◌<◌, ◌≤◌, List, [], ◌∷◌, ◌++◌, length, get_or, max, refl, sym, ap, subst, ◌∙◌, arith, inl, inr}
use Rattle.std.proofs.lemmas.Bool.{cases_lt}
use Rattle.std.proofs.lemmas.List.{append-nil, length-append, get_or_past, get_or_append_left}
use Rattle.h4_framing.specs.declared.extent.Extent.{Extent}
use Rattle.h4_framing.specs.declared.extent.Extent.TheVariants.{AtLeast, Known, Refused}
use Rattle.h4_framing.specs.Packets.{Packet, spelling}
use Rattle.h4_framing.specs.Stream.{IsFrontOf, IsUnfinished, IsLeastLength}
use Rattle.h4_framing.specs.Extents.{extent}
use Rattle.h4_framing.proofs.ExtentLemmas.{HasHead, command, acl, sync, event, packet_head, front_known, padded_front, unfinished_octets, at_least_short, unfinished_right, refused_wrong, some_long, need, need_more}

-- the length is told
pub least_known : (limit : ℕ) (octets : List ℕ) (n : ℕ) → IsUnfinished limit octets → extent limit octets ≡ Known n → IsLeastLength limit octets n
least_known limit octets n u e = record {
  some = (u.0, u.1, front_known limit octets n u.0 u.1 e);
  none_shorter = λ p f. omega (arith, front_known limit octets n p f e);
}

-- an octet of the front is one of the whole
front_octet : (i : ℕ) (octets more : List ℕ) → get_or octets i 0 ≤ get_or (octets ++ more) i 0
front_octet i octets more =
    elim (cases_lt i (length octets)) [
      | inl lt ↦ omega (arith, get_or_append_left octets more 0 i lt)
      | inr le ↦ omega (arith, get_or_past octets i 0 le)
    ]

need_some : (octets : List ℕ) → 1 ≤ need octets
need_some [] = omega arith
need_some (zero ∷ xs) = omega arith
need_some (suc zero ∷ xs) = omega arith
need_some (suc (suc zero) ∷ xs) = omega arith
need_some (suc (suc (suc zero)) ∷ xs) = omega arith
need_some (suc (suc (suc (suc zero))) ∷ xs) = omega arith
need_some (suc (suc (suc (suc (suc k)))) ∷ xs) = omega arith

need_front : (octets more : List ℕ) → need octets ≤ need (octets ++ more)
need_front [] more = need_some more
need_front (x ∷ xs) more = omega (arith, need_more (x ∷ xs) more (omega arith))

-- a packet has as many octets as lead up to its length, and then those of what is there of the length
head_least : (limit n m : ℕ) (octets more : List ℕ) → n ≡ need octets → length octets < n → HasHead limit (octets ++ more) m → max 3 n + get_or octets 3 0 ≤ m
head_least limit n m octets more is lt (command a b size rest e len) =
    let whole : need (octets ++ more) ≡ 4 = ap need e in
    let octet : get_or (octets ++ more) 3 0 ≡ size = ap (λ (xs : List ℕ). get_or xs 3 0) e in
    omega (arith, need_front octets more, front_octet 3 octets more)
head_least limit n m octets more is lt (acl a b low high rest e bound len) =
    let whole : need (octets ++ more) ≡ 5 = ap need e in
    let octet : get_or (octets ++ more) 3 0 ≡ low = ap (λ (xs : List ℕ). get_or xs 3 0) e in
    omega (arith, need_front octets more, front_octet 3 octets more)
head_least limit n m octets more is lt (sync a b size rest e len) =
    let whole : need (octets ++ more) ≡ 4 = ap need e in
    let octet : get_or (octets ++ more) 3 0 ≡ size = ap (λ (xs : List ℕ). get_or xs 3 0) e in
    omega (arith, need_front octets more, front_octet 3 octets more)
head_least limit n m octets more is lt (event code size rest e len) =
    let whole : need (octets ++ more) ≡ 3 = ap need e in
    let le : n ≤ 3 = omega (arith, need_front octets more) in
    omega (arith, get_or_past octets 3 0 (omega arith))

front_head : (limit : ℕ) (octets : List ℕ) (p : Packet) (f : IsFrontOf limit octets p) → HasHead limit (octets ++ f.0) (length (spelling p))
front_head limit octets p f = subst (λ (xs : List ℕ). HasHead limit xs (length (spelling p))) (append-nil (spelling p) ∙ sym f.3) (packet_head limit p [] f.1)

-- the length is not told yet: n octets lead up to it
pub least_short : (limit n m : ℕ) (octets : List ℕ) → 255 ≤ limit → IsUnfinished limit octets → extent limit octets ≡ AtLeast n → m ≡ max 3 n + get_or octets 3 0 → IsLeastLength limit octets m
least_short limit n m octets low u e is =
    let fits = unfinished_octets limit octets u in
    let s = at_least_short limit octets n low fits e in
    let some = padded_front limit octets s.pad s.told s.head fits s.fits s.left s.within in
    record {
      some = (some.0, some.1, is ∙ sym s.tells ∙ some.2);
      none_shorter = λ p f. omega (arith, head_least limit n (length (spelling p)) octets f.0 s.needs s.short (front_head limit octets p f));
    }

-- the beginning of a packet is shorter than the packet
pub front_short : (limit : ℕ) (octets : List ℕ) (p : Packet) → IsFrontOf limit octets p → length octets < length (spelling p)
front_short limit octets p f = omega (arith, some_long f.0 f.2, length-append octets f.0, ap length f.3)

least_by : (limit : ℕ) (octets : List ℕ) (x : Extent) → 255 ≤ limit → IsUnfinished limit octets → extent limit octets ≡ x → (n : ℕ) × IsLeastLength limit octets n
least_by limit octets (Known n) low u e = (n, least_known limit octets n u e)
least_by limit octets (AtLeast n) low u e = (max 3 n + get_or octets 3 0, least_short limit n (max 3 n + get_or octets 3 0) octets low u e refl)
least_by limit octets (Refused r n) low u e = absurd (unfinished_right limit octets r n u (refused_wrong limit octets r n (unfinished_octets limit octets u) e))

-- there is a least length
pub least_length : (limit : ℕ) (octets : List ℕ) → 255 ≤ limit → IsUnfinished limit octets → (n : ℕ) × IsLeastLength limit octets n
least_length limit octets low u = least_by limit octets (extent limit octets) low u refl

-- what the octets tell while the length field is not whole
pub record IsHead (octets : List ℕ) (n : ℕ) : Type 0 where
  pub short : length octets < n
  pub bound : n ≤ 5
  pub empty : length octets ≡ 0 → n ≡ 1
  pub some : 0 < length octets → 3 ≤ n
  pub acl : n ≡ 5 → get_or octets 0 0 ≡ 2

head_by : (octets : List ℕ) (n : ℕ) → n ≡ need octets → length octets < n → IsHead octets n
head_by [] n is lt = record { short = lt; bound = omega arith; empty = λ none. is; some = λ lt'. absurd (omega arith); acl = λ five. absurd (omega arith) }
head_by (zero ∷ xs) n is lt = absurd (omega arith)
head_by (suc zero ∷ xs) n is lt = record { short = lt; bound = omega arith; empty = λ none. absurd (omega arith); some = λ lt'. omega arith; acl = λ five. absurd (omega arith) }
head_by (suc (suc zero) ∷ xs) n is lt = record { short = lt; bound = omega arith; empty = λ none. absurd (omega arith); some = λ lt'. omega arith; acl = λ five. refl }
head_by (suc (suc (suc zero)) ∷ xs) n is lt = record { short = lt; bound = omega arith; empty = λ none. absurd (omega arith); some = λ lt'. omega arith; acl = λ five. absurd (omega arith) }
head_by (suc (suc (suc (suc zero))) ∷ xs) n is lt = record { short = lt; bound = omega arith; empty = λ none. absurd (omega arith); some = λ lt'. omega arith; acl = λ five. absurd (omega arith) }
head_by (suc (suc (suc (suc (suc k)))) ∷ xs) n is lt = absurd (omega arith)

pub head_of : (limit n : ℕ) (octets : List ℕ) → 255 ≤ limit → IsUnfinished limit octets → extent limit octets ≡ AtLeast n → IsHead octets n
head_of limit n octets low u e = let s = at_least_short limit octets n low (unfinished_octets limit octets u) e in head_by octets n s.needs s.short
