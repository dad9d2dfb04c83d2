-- A name has at most three octets for each of its UTF-16 units.
use Rattle.std.proofs.Common.{◌≤◌, ◌*◌, ℕ, Bool, true, false, cond, nat_lt, List, [], ◌∷◌, length, flat_map, sym, ap, subst, arith, length-append}
use Rattle.std.specs.Char.Escape.{encode_utf16}
use Rattle.std.specs.Str.{chars, IsUtf8}
use Rattle.std.proofs.lemmas.Str.{length-encode, encodes-chars, chars-nil}
use lib.Utf8.{encodes, encode}
use Rattle.obex_session.specs.PutPackets.{units_in}

bounded : (a b c : Bool) (x h l : ℕ) → cond a 1 (cond b 2 (cond c 3 4)) ≤ 3 * length (cond c (x ∷ []) (h ∷ l ∷ []))
bounded true b true x h l = omega arith
bounded true b false x h l = omega arith
bounded false true true x h l = omega arith
bounded false true false x h l = omega arith
bounded false false true x h l = omega arith
bounded false false false x h l = omega arith

one_bounded : (c : ℕ) → length (encode c) ≤ 3 * length (encode_utf16 c)
one_bounded c = subst (λ (n : ℕ). n ≤ 3 * length (encode_utf16 c)) (sym (length-encode c)) (bounded (nat_lt c 0x80) (nat_lt c 0x800) (nat_lt c 0x1_0000) c _ _)

all_bounded : (cs : List ℕ) → length (encodes cs) ≤ 3 * length (flat_map encode_utf16 cs)
all_bounded [] = omega arith
all_bounded (c ∷ cs) =
    let first = one_bounded c in
    let rest = all_bounded cs in
    omega (arith, first, rest, length-append (encode c) (encodes cs), length-append (encode_utf16 c) (flat_map encode_utf16 cs))

pub short : (name : List ℕ) → IsUtf8 name → length (units_in name) ≤ 100 → length name ≤ 300
short name utf8 few = let all = all_bounded (chars name) in omega (arith, few, all, ap length (encodes-chars name utf8))

pub none_few : length (units_in []) ≤ 100
none_few = subst (λ (cs : List ℕ). length (flat_map encode_utf16 cs) ≤ 100) (sym chars-nil) (omega arith)
