-- The parts of a PDU.
use Rattle.std.proofs.Common.{◌≡◌, ◌↔◌, ℕ, suc, ◌+◌, ◌-◌, ◌*◌, ◌/◌, ◌%◌, ◌^◌, ◌<◌, ◌≤◌, List, [], ◌∷◌, ◌++◌, length, get_or, take, drop, refl, sym, ap, subst, ◌∙◌, arith, drop-cons, length-append}
use Rattle.std.proofs.lemmas.List.{nil_from_length, length-drop, length-take-le, take-append-drop, drop-drop, take_at}
use Rattle.bt_base.specs.Octets.{IsOctets, le16}
use Rattle.check_words.specs.CheckWords.{low_bits, l2cap_check, L2capCheckHolds}
use Rattle.check_words.proofs.Octets.{word-holds}
use Rattle.ertm_frames.specs.Frames.{covered}
use Rattle.ertm_frames.specs.Answers.{word_at, middle, IsWhole}

-- two octets from a place on
cells : (i j : ℕ) (p : List ℕ) → j ≡ i + 2 → j ≤ length p → drop i p ≡ get_or p i 0 ∷ get_or p (i + 1) 0 ∷ drop j p
cells i j p e le =
    let next : i + 1 ≡ suc i = omega arith in
    let after : j ≡ suc (suc i) = omega arith in
    rw (next, after) (drop-cons p i 0 (omega arith) ∙ ap (λ (x : List ℕ). get_or p i 0 ∷ x) (drop-cons p (suc i) 0 (omega arith)))

pub pair : (a b : ℕ) → a < 256 → b < 256 → le16 (a + 256 * b) ≡ a ∷ b ∷ []
pair a b low high =
    let first : (a + 256 * b) % 256 ≡ a = omega arith in
    let second : (a + 256 * b) / 256 % 256 ≡ b = omega arith in
    rw (first, second) refl

pub number : (n : ℕ) → n < 2 ^ 16 → n % 256 + 256 * (n / 256 % 256) ≡ n
number n fits = omega arith

-- the number in two octets, and what stands behind them
pub word_split : (i j : ℕ) (p : List ℕ) → IsOctets p → j ≡ i + 2 → j ≤ length p → drop i p ≡ le16 (word_at i p) ++ drop j p
word_split i j p fits e le =
    cells i j p e le ∙ ap (λ (x : List ℕ). x ++ drop j p) (sym (pair (get_or p i 0) (get_or p (i + 1) 0) (fits i) (fits (i + 1))))

pub word_below : (i : ℕ) (p : List ℕ) → IsOctets p → word_at i p < 2 ^ 16
word_below i p fits = omega (arith, fits i, fits (i + 1))

nothing_behind : (n : ℕ) (p : List ℕ) → length p ≡ n → drop n p ≡ []
nothing_behind n p e = nil_from_length (drop n p) (omega (arith, length-drop n p))

-- a PDU with its last two octets apart
last_two : (pdu : List ℕ) (n : ℕ) → n + 2 ≡ length pdu → pdu ≡ take n pdu ++ get_or pdu n 0 ∷ get_or pdu (n + 1) 0 ∷ []
last_two pdu n e =
    sym (take-append-drop n pdu)
    ∙ ap (λ (x : List ℕ). take n pdu ++ x) (cells n (n + 2) pdu refl (omega arith) ∙ ap (λ (x : List ℕ). get_or pdu n 0 ∷ get_or pdu (n + 1) 0 ∷ x) (nothing_behind (n + 2) pdu (sym e)))

-- the check word holds exactly where it is that of the octets before it
pub check_is : (pdu : List ℕ) (n check : ℕ) → IsOctets pdu → n + 2 ≡ length pdu → check < 2 ^ 16 → low_bits 16 check ≡ l2cap_check (take n pdu)
    → L2capCheckHolds pdu ↔ (check ≡ word_at n pdu)
check_is pdu n check fits e small is =
    subst (λ (x : List ℕ). L2capCheckHolds x ↔ (check ≡ word_at n pdu)) (sym (last_two pdu n e))
    (word-holds (take n pdu) (get_or pdu n 0) (get_or pdu (n + 1) 0) check (fits n) (fits (n + 1)) small is)

-- a whole PDU is what the check word is over, and the check word
pub parts_are : (pdu : List ℕ) → IsOctets pdu → IsWhole pdu
    → pdu ≡ covered (word_at 2 pdu) (word_at 4 pdu) (middle pdu) ++ le16 (word_at (length pdu - 2) pdu)
parts_are pdu fits all =
    let n : ℕ = length pdu in
    let m : ℕ = n - 8 in
    let size : length (middle pdu) ≡ m = length-take-le m (drop 6 pdu) (omega (arith, length-drop 6 pdu)) in
    let length_is : word_at 0 pdu ≡ 4 + length (middle pdu) = omega arith in
    let end : 6 + m ≡ n - 2 = omega arith in
    let whole : n - 2 + 2 ≡ n = omega arith in
    let check : List ℕ = le16 (word_at (n - 2) pdu) in
    let tail : drop m (drop 6 pdu) ≡ check =
    drop-drop m 6 pdu ∙ ap (λ (k : ℕ). drop k pdu) end ∙ word_split (n - 2) n pdu fits (sym whole) (omega arith)
    ∙ ap (λ (x : List ℕ). check ++ x) (nothing_behind n pdu refl) in
    let behind : drop 6 pdu ≡ middle pdu ++ check = sym (take-append-drop m (drop 6 pdu)) ∙ ap (λ (x : List ℕ). middle pdu ++ x) tail in
    word_split 0 2 pdu fits refl (omega arith)
    ∙ ap (λ (x : List ℕ). le16 (word_at 0 pdu) ++ x) (word_split 2 4 pdu fits refl (omega arith))
    ∙ ap (λ (x : List ℕ). le16 (word_at 0 pdu) ++ (le16 (word_at 2 pdu) ++ x)) (word_split 4 6 pdu fits refl (omega arith))
    ∙ ap (λ (x : List ℕ). le16 (word_at 0 pdu) ++ (le16 (word_at 2 pdu) ++ (le16 (word_at 4 pdu) ++ x))) behind
    ∙ ap (λ (k : ℕ). covered_with k (word_at 2 pdu) (word_at 4 pdu) (middle pdu) ++ check) length_is
  where
    covered_with : ℕ → ℕ → ℕ → List ℕ → List ℕ
    covered_with k cid control body = le16 k ++ (le16 cid ++ (le16 control ++ body))

-- ---- and back

pub length-covered : (cid control : ℕ) (body : List ℕ) → length (covered cid control body) ≡ 6 + length body
length-covered cid control body = omega arith

pub spelled_whole : (cid control check : ℕ) (body : List ℕ) → 4 + length body < 2 ^ 16 → IsWhole (covered cid control body ++ le16 check)
spelled_whole cid control check body small =
    let size : length (covered cid control body ++ le16 check) ≡ 8 + length body = omega (arith, length-append (covered cid control body) (le16 check)) in
    (omega arith, omega (arith, number (4 + length body) small))

pub spelled_middle : (cid control check : ℕ) (body : List ℕ) → middle (covered cid control body ++ le16 check) ≡ body
spelled_middle cid control check body =
    let size : length (covered cid control body ++ le16 check) ≡ 8 + length body = omega (arith, length-append (covered cid control body) (le16 check)) in
    let n : length (covered cid control body ++ le16 check) - 8 ≡ length body = omega arith in
    ap (λ (k : ℕ). take k (body ++ le16 check)) n ∙ take_at body (le16 check) (length body) refl
