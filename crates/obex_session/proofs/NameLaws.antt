-- The units of a name, while they are written.
use Rattle.std.proofs.Common.{◌≡◌, ℕ, ◌+◌, ◌*◌, ◌/◌, ◌%◌, ◌<◌, ◌≤◌, subst, inr, List, [], ◌∷◌, ◌++◌, length, take, drop, get_or, refl, sym, ap, ◌∙◌, arith}
use Rattle.std.specs.List.{flat_map}
use Rattle.std.specs.Char.Escape.{encode_utf16}
use Rattle.std.proofs.lemmas.List.{append-nil, length-append, take_more, take-append-drop, take_all}
use Rattle.std.proofs.lemmas.Grind.{flat_map-append}
use Rattle.std.specs.Str.{chars}
use Rattle.bt_base.specs.Octets.{be16}
use Rattle.obex_session.specs.PutPackets.{units_in}
use Rattle.obex_headers.specs.Packets.{IsText, text_octets, units_of}

-- one character more
pub units_more : (cs : List ℕ) (n c : ℕ) → (n < length cs) × (c ≡ get_or cs n c) → flat_map encode_utf16 (take (n + 1) cs) ≡ flat_map encode_utf16 (take n cs) ++ encode_utf16 c
units_more cs n c h =
    ap (flat_map encode_utf16) (take_more cs n c h.0 ∙ ap (λ (x : ℕ). take n cs ++ x ∷ []) (sym h.1)) ∙ flat_map-append encode_utf16 (take n cs) (c ∷ [])
    ∙ ap (λ (us : List ℕ). flat_map encode_utf16 (take n cs) ++ us) (append-nil (encode_utf16 c))

-- the first characters have no more units than all
pub units_within : (cs : List ℕ) (n : ℕ) → length (flat_map encode_utf16 (take n cs)) ≤ length (flat_map encode_utf16 cs)
units_within cs n =
    let all = ap length (ap (flat_map encode_utf16) (sym (take-append-drop n cs)) ∙ flat_map-append encode_utf16 (take n cs) (drop n cs)) ∙ length-append (flat_map encode_utf16 (take n cs)) (flat_map encode_utf16 (drop n cs)) in
    omega (arith, all)

pub length-octets : (us : List ℕ) → length (flat_map be16 us) ≡ 2 * length us
length-octets [] = refl
length-octets (u ∷ us) = let e = length-octets us in omega arith

-- there is room for the next character
pub room_for : (cs text : List ℕ) (n c : ℕ) → text ≡ flat_map be16 (flat_map encode_utf16 (take n cs)) → (n < length cs) × (c ≡ get_or cs n c) → length (flat_map encode_utf16 cs) ≤ 100 → length text + 2 * length (encode_utf16 c) ≤ 202
room_for cs text n c e h short =
    let written = ap length e ∙ length-octets (flat_map encode_utf16 (take n cs)) in
    let more = ap length (units_more cs n c h) ∙ length-append (flat_map encode_utf16 (take n cs)) (encode_utf16 c) in
    let within = units_within cs (n + 1) in
    omega (arith, written, more, within, short)

-- and for the last unit
pub room_at_end : (cs text : List ℕ) (n : ℕ) → text ≡ flat_map be16 (flat_map encode_utf16 (take n cs)) → length (flat_map encode_utf16 cs) ≤ 100 → length text + 2 ≤ 202
room_at_end cs text n e short =
    let written = ap length e ∙ length-octets (flat_map encode_utf16 (take n cs)) in
    let within = units_within cs n in
    omega (arith, written, within, short)

pub one_character_more : (cs text text' : List ℕ) (n n' c : ℕ) → text ≡ flat_map be16 (flat_map encode_utf16 (take n cs)) → text' ≡ text ++ flat_map be16 (encode_utf16 c) → (n < length cs) × (c ≡ get_or cs n c) → n' ≡ n + 1
    → text' ≡ flat_map be16 (flat_map encode_utf16 (take n' cs))
one_character_more cs text text' n n' c e p h k =
    p ∙ ap (λ (t : List ℕ). t ++ flat_map be16 (encode_utf16 c)) e ∙ sym (flat_map-append be16 (flat_map encode_utf16 (take n cs)) (encode_utf16 c)) ∙ ap (flat_map be16) (sym (units_more cs n c h)) ∙ ap (λ (m : ℕ). flat_map be16 (flat_map encode_utf16 (take m cs))) (sym k)

pub all_characters : (cs text : List ℕ) (n : ℕ) → text ≡ flat_map be16 (flat_map encode_utf16 (take n cs)) → length cs ≤ n → text ≡ flat_map be16 (flat_map encode_utf16 cs)
all_characters cs text n e h = e ∙ ap (λ (xs : List ℕ). flat_map be16 (flat_map encode_utf16 xs)) (take_all n cs h)

-- ---- what was written is a text

be16-halves : (a b : ℕ) → a < 256 → b < 256 → be16 (256 * a + b) ≡ a ∷ b ∷ []
be16-halves a b la lb =
    let high : (256 * a + b) / 256 % 256 ≡ a = omega arith in
    let low : (256 * a + b) % 256 ≡ b = omega arith in
    ap (λ (x : ℕ). x ∷ (256 * a + b) % 256 ∷ []) high ∙ ap (λ (y : ℕ). a ∷ y ∷ []) low

one_again : (u : ℕ) → be16 u ≡ be16 (256 * (u / 256 % 256) + u % 256)
one_again u = sym (be16-halves (u / 256 % 256) (u % 256) (omega arith) (omega arith))

respelled : (us : List ℕ) → text_octets us ≡ text_octets (units_of (text_octets us))
respelled [] = refl
respelled (u ∷ []) = ap (λ (front : List ℕ). front ++ be16 0) (one_again u)
respelled (u ∷ v ∷ us) = ap (λ (front : List ℕ). front ++ text_octets (v ∷ us)) (one_again u) ∙ ap (λ (rest : List ℕ). be16 (256 * (u / 256 % 256) + u % 256) ++ rest) (respelled (v ∷ us))

pub is_text : (us octets : List ℕ) → octets ≡ text_octets us → IsText octets
is_text us octets e = subst IsText (sym e) (inr (respelled us))

-- a name of one letter
pub one_letter : length (units_in (97 ∷ [])) ≤ 100
unfolding chars
one_letter = let one : length (units_in (97 ∷ [])) ≡ 1 = refl in omega (arith, one)
