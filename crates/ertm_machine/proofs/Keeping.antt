-- The segments that heads and octets stand for.
use Rattle.std.proofs.Common.{◌≡◌, ℕ, zero, suc, ◌+◌, ◌-◌, ◌≤◌, ◌<◌, Bool, true, false, ◌||◌, List, [], ◌∷◌, ◌++◌, length, take, drop, refl, sym, ap, subst, ◌∙◌, arith, length-drop}
use Rattle.std.specs.Prelude.{slice_get, slice_set, Some, None, nat_le}
use Rattle.std.specs.List.{sum_by, list_any, All}
use Rattle.std.proofs.lemmas.List.{drop-drop, take-append-le, drop-append-le}
use Rattle.std.proofs.lemmas.List.Sums.{sum_by-cons}
use Rattle.std.proofs.lemmas.List.Elements.{All-nil, All-cons}
use Rattle.std.proofs.lemmas.Bool.{leb-false}
use Rattle.ertm_model.specs.Value.{Kept}
use Rattle.ertm_model.specs.Giving.{given_again}
use Rattle.ertm_model.specs.Hearing.{is_spent}
use Rattle.ertm_machine.specs.declared.window.Head.{Head}
use Rattle.ertm_machine.specs.Windows.{segment_at, kept_at, kept_of, size_of}

neither : (a b : Bool) → a || b ≡ false → (a ≡ false) × (b ≡ false)
neither true b e = cc
neither false b e = (refl, e)

size-cons : (head : Head) (heads : List Head) → size_of (head ∷ heads) ≡ head.len + size_of heads
size-cons head heads = sum_by-cons (λ (h : Head). h.len) head heads

-- octets behind the first head and then behind so many more
behind : (head : Head) (heads : List Head) (octets : List ℕ) → drop (size_of heads) (drop head.len octets) ≡ drop (size_of (head ∷ heads)) octets
behind head heads octets = drop-drop (size_of heads) head.len octets ∙ ap (λ (n : ℕ). drop n octets) (sym (size-cons head heads))

pub length-kept_of : (heads : List Head) (octets : List ℕ) → length (kept_of heads octets) ≡ length heads
length-kept_of [] octets = refl
length-kept_of (head ∷ heads) octets = ap suc (length-kept_of heads (drop head.len octets))

pub kept_of-append : (heads more : List Head) (octets : List ℕ) → kept_of (heads ++ more) octets ≡ kept_of heads octets ++ kept_of more (drop (size_of heads) octets)
kept_of-append [] more octets = refl
kept_of-append (head ∷ heads) more octets =
    ap (λ (l : List Kept). kept_at head octets ∷ l)
    (kept_of-append heads more (drop head.len octets) ∙ ap (λ (x : List ℕ). kept_of heads (drop head.len octets) ++ kept_of more x) (behind head heads octets))

pub kept_of-more : (heads : List Head) (octets more : List ℕ) → size_of heads ≤ length octets → kept_of heads (octets ++ more) ≡ kept_of heads octets
kept_of-more [] octets more le = refl
kept_of-more (head ∷ heads) octets more le =
    let all = size-cons head heads in
    let rest = length-drop head.len octets in
    ap (λ (x : List ℕ). record { segment = record { sar = head.sar; total = head.total; octets = x }; given = head.given } ∷ kept_of heads (drop head.len (octets ++ more)))
    (take-append-le head.len octets more (omega arith))
    ∙ ap (λ (x : List ℕ). kept_at head octets ∷ kept_of heads x) (drop-append-le head.len octets more (omega arith))
    ∙ ap (λ (l : List Kept). kept_at head octets ∷ l) (kept_of-more heads (drop head.len octets) more (omega arith))

pub drop-kept_of : (k : ℕ) (heads : List Head) (octets : List ℕ) → drop k (kept_of heads octets) ≡ kept_of (drop k heads) (drop (size_of (take k heads)) octets)
drop-kept_of zero heads octets = refl
drop-kept_of (suc k) [] octets = refl
drop-kept_of (suc k) (head ∷ heads) octets =
    drop-kept_of k heads (drop head.len octets) ∙ ap (kept_of (drop k heads)) (behind head (take k heads) octets)

pub get-kept_of : (heads : List Head) (octets : List ℕ) (i : ℕ) (head : Head) → slice_get heads i ≡ Some head
    → slice_get (kept_of heads octets) i ≡ Some (kept_at head (drop (size_of (take i heads)) octets))
get-kept_of [] octets i head is = cc
get-kept_of (first ∷ heads) octets zero head is = let e : first ≡ head = cc in ap (λ (h : Head). Some (kept_at h octets)) e
get-kept_of (first ∷ heads) octets (suc i) head is =
    get-kept_of heads (drop first.len octets) i head is ∙ ap (λ (x : List ℕ). Some (kept_at head x)) (behind first (take i heads) octets)

pub given_again-kept_of : (heads : List Head) (octets : List ℕ) (i : ℕ) (head : Head) → slice_get heads i ≡ Some head
    → given_again i (kept_of heads octets) ≡ kept_of (slice_set heads i (record head { given = head.given + 1 })) octets
given_again-kept_of [] octets i head is = cc
given_again-kept_of (first ∷ heads) octets zero head is =
    let e : first ≡ head = cc in
    ap (λ (h : Head). kept_at (record h { given = h.given + 1 }) octets ∷ kept_of heads (drop h.len octets)) e
given_again-kept_of (first ∷ heads) octets (suc i) head is =
    ap (λ (l : List Kept). kept_at first octets ∷ l) (given_again-kept_of heads (drop first.len octets) i head is)

pub spent-kept_of : (tries : ℕ) (heads : List Head) (octets : List ℕ) → is_spent tries (kept_of heads octets) ≡ list_any (λ head. nat_le tries head.given) heads
spent-kept_of tries [] octets = refl
spent-kept_of tries (head ∷ heads) octets = ap (λ (b : Bool). nat_le tries head.given || b) (spent-kept_of tries heads (drop head.len octets))

-- none was given as often as may be
pub unspent : (tries : ℕ) (heads : List Head) → list_any (λ head. nat_le tries head.given) heads ≡ false → All (λ head. head.given < tries) heads
unspent tries [] none = All-nil (λ head. head.given < tries)
unspent tries (head ∷ heads) none =
    let (here, rest) = neither (nat_le tries head.given) (list_any (λ head. nat_le tries head.given) heads) none in
    All-cons (λ head. head.given < tries) head heads (leb-false tries head.given here) (unspent tries heads rest)
