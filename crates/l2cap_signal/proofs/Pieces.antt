-- Octets written one piece behind the other.
use Rattle.std.proofs.Common.{◌≡◌, ℕ, ◌+◌, ◌*◌, ◌<◌, ◌≤◌, List, [], ◌∷◌, ◌++◌, length, get_or, take, drop, refl, sym, ap, ◌∙◌, append_assoc, arith, length-append}
use Rattle.std.specs.List.{flat_map}
use Rattle.std.proofs.lemmas.List.{take_at, drop_at, length-take-le, take_more, flat_map_more}
use Rattle.std.proofs.lemmas.Slice.{drop-append-drop}
use Rattle.bt_base.specs.Octets.{le16}
use Rattle.l2cap_signal.specs.Writing.{overwritten}

-- a piece behind another
pub over_then : (a b : ℕ) (p q xs : List ℕ) → b ≡ a + length p → a ≤ length xs → overwritten b q (overwritten a p xs) ≡ overwritten a (p ++ q) xs
over_then a b p q xs at le =
    let front : length (take a xs ++ p) ≡ b = omega (arith, length-append (take a xs) p, length-take-le a xs le) in
    let group : overwritten a p xs ≡ (take a xs ++ p) ++ drop b xs = ap (λ (k : ℕ). take a xs ++ (p ++ drop k xs)) (sym at) ∙ sym (append_assoc (take a xs) p (drop b xs)) in
    let end : b + length q ≡ a + length (p ++ q) = omega (arith, length-append p q) in
    ap (overwritten b q) group
    ∙ rw (take_at (take a xs ++ p) (drop b xs) b front, drop-append-drop b xs (take a xs ++ p) (b + length q) (omega arith) front, end) (simp append_assoc)

-- a piece at the front, and the one behind it that was there first
pub over_front : (h p xs : List ℕ) (b : ℕ) → length h ≡ b → b ≤ length xs → overwritten 0 h (overwritten b p xs) ≡ (h ++ p) ++ drop (b + length p) xs
over_front h p xs b len le =
    let front : 0 + length h ≡ b = omega arith in
    rw (front, drop_at (take b xs) (p ++ drop (b + length p) xs) b (length-take-le b xs le)) (sym (append_assoc h p (drop (b + length p) xs)))

pub length-words : (ws : List ℕ) → length (flat_map le16 ws) ≡ 2 * length ws
length-words [] = refl
length-words (w ∷ ws) = omega (arith, length-words ws)

-- one more number
pub words_more : (ws : List ℕ) (i : ℕ) → i < length ws → flat_map le16 (take (i + 1) ws) ≡ flat_map le16 (take i ws) ++ le16 (get_or ws i 0)
words_more ws i lt = ap (flat_map le16) (take_more ws i 0 lt) ∙ sym (flat_map_more le16 [] (take i ws) (get_or ws i 0))

-- one more number, written behind those before it
pub words_step : (ws : List ℕ) (i a end : ℕ) (old now new word : List ℕ) → i < length ws → a + 2 * length ws ≤ length old → end ≡ a + 2 * i
    → now ≡ overwritten a (flat_map le16 (take i ws)) old → word ≡ le16 (get_or ws i 0) → new ≡ overwritten end word now
    → new ≡ overwritten a (flat_map le16 (take (i + 1) ws)) old
words_step ws i a end old now new word lt room at so_far is wrote =
    let done : length (flat_map le16 (take i ws)) ≡ 2 * i = omega (arith, length-words (take i ws), length-take-le i ws (omega arith)) in
    wrote ∙ ap (λ (x : List ℕ). overwritten end x now) is ∙ ap (overwritten end (le16 (get_or ws i 0))) so_far
    ∙ over_then a end (flat_map le16 (take i ws)) (le16 (get_or ws i 0)) old (omega arith) (omega arith)
    ∙ ap (λ (x : List ℕ). overwritten a x old) (sym (words_more ws i lt))

-- octets behind numbers
pub parts_are : (ws rest : List ℕ) (a end : ℕ) (old now new : List ℕ) → a + (2 * length ws + length rest) ≤ length old → end ≡ a + 2 * length ws
    → now ≡ overwritten a (flat_map le16 ws) old → new ≡ overwritten end rest now → new ≡ overwritten a (flat_map le16 ws ++ rest) old
parts_are ws rest a end old now new room at so_far wrote =
    let done = length-words ws in
    wrote ∙ ap (overwritten end rest) so_far ∙ over_then a end (flat_map le16 ws) rest old (omega arith) (omega arith)
