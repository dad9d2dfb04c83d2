-- A stream of octets is split into OBEX packets in one way.
use Rattle.std.proofs.Common.{◌≡◌, ◌⊎◌, inl, inr, ℕ, zero, suc, ◌+◌, ◌-◌, ◌*◌, ◌<◌, ◌≤◌, ◌||◌, Bool, true, false, cond, List, [], ◌∷◌, ◌++◌, length, get_or, slice_index, take, drop, refl, sym, ap, subst, ◌∙◌, arith, append_assoc, length-append}
use Rattle.std.specs.Prelude.{nat_lt}
use Rattle.std.specs.List.{flat_map, AllByRecursion}
use Rattle.std.proofs.lemmas.Bool.{ltb-true, ltb-false, lt-ltb, le-ltb}
use Rattle.std.proofs.lemmas.List.{length-drop, take-append-drop, length-take-le, take_at, drop_at, get_or-take, get_or_append_left}
use Rattle.std.proofs.Math.Bool.{or-true}
use Rattle.rfcomm_frames.specs.ObexPackets.{stated_size, IsPacket, HasNoPacket, AreObexPackets, packets_within, obex_packets, ObexPacketsAreRight, ObexPacketsAreOne}

-- the length that octets state is that of a front of them, from the third octet on
size_of_front : (n : ℕ) (stream : List ℕ) → 3 ≤ n → stated_size (take n stream) ≡ stated_size stream
size_of_front n stream long =
    let one = get_or-take n stream 1 0 (omega arith) in
    let two = get_or-take n stream 2 0 (omega arith) in
    omega (arith, one, two)

size_before : (front behind : List ℕ) → 3 ≤ length front → stated_size (front ++ behind) ≡ stated_size front
size_before front behind long =
    let one = get_or_append_left front behind 0 1 (omega arith) in
    let two = get_or_append_left front behind 0 2 (omega arith) in
    omega (arith, one, two)

-- whether no packet is whole at the front, as a test
abbrev has_none : List ℕ → Bool
has_none stream = nat_lt (length stream) 3 || (nat_lt (stated_size stream) 3 || nat_lt (length stream) (stated_size stream))

none_true : (stream : List ℕ) (a b c : Bool) → nat_lt (length stream) 3 ≡ a → nat_lt (stated_size stream) 3 ≡ b → nat_lt (length stream) (stated_size stream) ≡ c → (a || (b || c)) ≡ true → HasNoPacket stream
none_true stream true b c ia ib ic e = inl (ltb-true (length stream) 3 ia)
none_true stream false true c ia ib ic e = inr (inl (ltb-true (stated_size stream) 3 ib))
none_true stream false false true ia ib ic e = inr (inr (ltb-true (length stream) (stated_size stream) ic))
none_true stream false false false ia ib ic e = let never : false ≡ true = e in cc

record HasPacket (stream : List ℕ) : Type 0 where
  size : 3 ≤ stated_size stream
  whole : stated_size stream ≤ length stream

none_false : (stream : List ℕ) (a b c : Bool) → nat_lt (length stream) 3 ≡ a → nat_lt (stated_size stream) 3 ≡ b → nat_lt (length stream) (stated_size stream) ≡ c → (a || (b || c)) ≡ false → HasPacket stream
none_false stream true b c ia ib ic e = let never : true ≡ false = e in cc
none_false stream false true c ia ib ic e = let never : true ≡ false = e in cc
none_false stream false false true ia ib ic e = let never : true ≡ false = e in cc
none_false stream false false false ia ib ic e = record { size = ltb-false (stated_size stream) 3 ib; whole = ltb-false (length stream) (stated_size stream) ic }

has_none-true : (stream : List ℕ) → HasNoPacket stream → has_none stream ≡ true
has_none-true stream (inl short) = rw (lt-ltb (length stream) 3 short) refl
has_none-true stream (inr (inl small)) = rw (lt-ltb (stated_size stream) 3 small) (or-true (nat_lt (length stream) 3))
has_none-true stream (inr (inr few)) = rw (lt-ltb (length stream) (stated_size stream) few) (ap (λ b. nat_lt (length stream) 3 || b) (or-true (nat_lt (stated_size stream) 3)) ∙ or-true (nat_lt (length stream) 3))

has_none-false : (stream : List ℕ) → 3 ≤ stated_size stream → stated_size stream ≤ length stream → has_none stream ≡ false
has_none-false stream size whole = rw (le-ltb (length stream) 3 (omega arith), le-ltb (stated_size stream) 3 size, le-ltb (length stream) (stated_size stream) whole) refl

-- ---- the function gives them

step : (steps : ℕ) (stream : List ℕ) (none : Bool) → has_none stream ≡ none → length stream ≤ suc steps
    → ((rest : List ℕ) → length rest ≤ steps → AreObexPackets rest (packets_within steps rest))
    → AreObexPackets stream (cond none [] (take (stated_size stream) stream ∷ packets_within steps (drop (stated_size stream) stream)))
unfolding packets_within
step steps stream true is long more =
    record { rest = stream; whole = refl; each = tt; no_more = none_true stream (nat_lt (length stream) 3) (nat_lt (stated_size stream) 3) (nat_lt (length stream) (stated_size stream)) refl refl refl is }
step steps stream false is long more =
    let has = none_false stream (nat_lt (length stream) 3) (nat_lt (stated_size stream) 3) (nat_lt (length stream) (stated_size stream)) refl refl refl is in
    let n : ℕ = stated_size stream in
    let behind = more (drop n stream) (omega (arith, has.size, length-drop n stream)) in
    let size : length (take n stream) ≡ n = length-take-le n stream has.whole in
    let packet : IsPacket (take n stream) = (omega (arith, size, has.size), size_of_front n stream has.size ∙ sym size) in
    record {
      rest = behind.rest;
      whole = sym (take-append-drop n stream) ∙ ap (λ xs. take n stream ++ xs) behind.whole ∙ sym (append_assoc (take n stream) (flat_map (λ packet. packet) (packets_within steps (drop n stream))) behind.rest);
      each = (packet, behind.each);
      no_more = behind.no_more;
    }

right : (steps : ℕ) (stream : List ℕ) → length stream ≤ steps → AreObexPackets stream (packets_within steps stream)
unfolding packets_within
right zero [] long = record { rest = []; whole = refl; each = tt; no_more = inl (omega arith) }
right zero (x ∷ xs) long = absurd (omega arith)
right (suc steps) stream long = step steps stream (has_none stream) refl long (λ rest short. right steps rest short)

-- ---- and no others are

only : (steps : ℕ) (stream : List ℕ) (packets : List (List ℕ)) (rest : List ℕ) → length stream ≤ steps → stream ≡ flat_map (λ packet. packet) packets ++ rest
    → AllByRecursion IsPacket packets → HasNoPacket rest → packets ≡ packets_within steps stream
unfolding packets_within
only zero stream [] rest long whole each none = refl
only zero stream (p ∷ ps) rest long whole each none =
    let size = ap length whole ∙ length-append (p ++ flat_map (λ packet. packet) ps) rest in
    absurd (omega (arith, size, each.0.0, length-append p (flat_map (λ packet. packet) ps)))
only (suc steps) stream [] rest long whole each none =
    sym (ap (λ b. cond b [] (take (stated_size stream) stream ∷ packets_within steps (drop (stated_size stream) stream))) (has_none-true stream (subst HasNoPacket (sym whole) none)))
only (suc steps) stream (p ∷ ps) rest long whole each none =
    let behind : List ℕ = flat_map (λ packet. packet) ps ++ rest in
    let parts : stream ≡ p ++ behind = whole ∙ append_assoc p (flat_map (λ packet. packet) ps) rest in
    let total = ap length parts ∙ length-append p behind in
    let size : stated_size stream ≡ length p = ap stated_size parts ∙ size_before p behind each.0.0 ∙ each.0.1 in
    let front : take (stated_size stream) stream ≡ p = ap (λ k. take k stream) size ∙ ap (take (length p)) parts ∙ take_at p behind (length p) refl in
    let back : drop (stated_size stream) stream ≡ behind = ap (λ k. drop k stream) size ∙ ap (drop (length p)) parts ∙ drop_at p behind (length p) refl in
    let more : ps ≡ packets_within steps (drop (stated_size stream) stream) = only steps (drop (stated_size stream) stream) ps rest (omega (arith, ap length back, total, each.0.0)) back each.1 none in
    ap (λ xs. p ∷ xs) more ∙ ap (λ x. x ∷ packets_within steps (drop (stated_size stream) stream)) (sym front)
    ∙ sym (ap (λ b. cond b [] (take (stated_size stream) stream ∷ packets_within steps (drop (stated_size stream) stream))) (has_none-false stream (omega (arith, size, each.0.0)) (omega (arith, size, total))))

pub obex_packets-right : ObexPacketsAreRight
unfolding obex_packets
obex_packets-right stream = right (length stream) stream (omega arith)

pub obex_packets-one : ObexPacketsAreOne
unfolding obex_packets
obex_packets-one stream packets are = only (length stream) stream packets are.rest (omega arith) are.whole are.each are.no_more
