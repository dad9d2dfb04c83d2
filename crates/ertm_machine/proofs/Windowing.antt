-- What the calls of a window leave is a window.
use Rattle.std.proofs.Common.{◌≡◌, ℕ, zero, suc, ◌+◌, ◌-◌, ◌*◌, ◌≤◌, ◌<◌, ◌^◌, Bool, true, false, List, [], ◌∷◌, ◌++◌, length, take, drop, get_or, refl, sym, ap, subst, ◌∙◌, arith, length-drop, length-append, length-take, inl, inr, add-zero, mul-le-mul_left, mul-le-mul_right}
use Rattle.std.specs.Prelude.{IfSome, slice_get, slice_set, Some, None, nat_le}
use Rattle.std.specs.List.{sum_by, list_any, All}
use Rattle.std.proofs.lemmas.List.{drop-drop, drop-take, take-take, take_more_set, take_all, drop_all, drop-set-lt, length-set, get_or-drop}
use Rattle.std.proofs.lemmas.Bool.{cases_lt}
use Rattle.std.proofs.lemmas.Option.{get_or_from_slice_get, slice_get_within, slice_get-get_or}
use Rattle.std.proofs.lemmas.List.Sums.{sum_by-take-drop, sum_by-take-le, sum_by-le, sum_by-set, sum_by_push, sum_by_more}
use Rattle.std.proofs.lemmas.List.Elements.{All-drop, All-set, All-push, All-weaker, All-nil}
use Rattle.circular_buffer.specs.Buffer.{Buffer, buffer}
use Rattle.ertm_machine.specs.declared.window.Head.{Head}
use Rattle.ertm_machine.specs.declared.window.Waiting.{Waiting}
use Rattle.ertm_machine.specs.declared.window.Waiting.TheVariants.{Nothing, Uncut}
use Rattle.ertm_machine.specs.declared.window.Window.TheInside.{Inside}
use Rattle.ertm_machine.proofs.Keeping.{unspent}
use Rattle.ertm_machine.specs.Windows.{size_of, IsHead, IsWaiting, IsWindow, Cuts}

pub size_of-drop : (k : ℕ) (heads : List Head) → size_of (take k heads) + size_of (drop k heads) ≡ size_of heads
size_of-drop k heads = sum_by-take-drop (λ (h : Head). h.len) heads k

-- what holds behind a place holds behind a later one
later : (P : Head → Type 0) (n m : ℕ) (heads : List Head) → n ≤ m → All P (drop n heads) → All P (drop m heads)
later P n m heads le here =
    let e : n + (m - n) ≡ m = omega arith in
    subst (λ (l : List Head). All P l) (drop-drop (m - n) n heads ∙ ap (λ (k : ℕ). drop k heads) e) (All-drop P (m - n) (drop n heads) here)

size_of-take-drop : (k n : ℕ) (heads : List Head) → size_of (take (n - k) (drop k heads)) ≡ size_of (take n heads) - size_of (take k heads)
size_of-take-drop k n heads =
    elim (cases_lt n k) [
      | inl before ↦
          let none : n - k ≡ 0 = omega arith in
          let fewer : size_of (take n heads) ≤ size_of (take k heads) =
          subst (λ (l : List Head). size_of l ≤ size_of (take k heads)) (take-take n k heads (omega arith)) (sum_by-take-le (λ (h : Head). h.len) (take k heads) n) in
          ap (λ (j : ℕ). size_of (take j (drop k heads))) none ∙ omega arith
      | inr within ↦
          let e : k + (n - k) ≡ n = omega arith in
          let front : size_of (take k (take n heads)) ≡ size_of (take k heads) = ap (λ (l : List Head). size_of l) (take-take k n heads within) in
          let back : size_of (drop k (take n heads)) ≡ size_of (take (n - k) (drop k heads)) =
          ap (λ (j : ℕ). size_of (drop k (take j heads))) (sym e) ∙ ap (λ (l : List Head). size_of l) (drop-take k (n - k) heads) in
          omega (arith, size_of-drop k (take n heads))
    ]

-- ---- some are acknowledged

pub acknowledges : (w : Inside) (k size : ℕ) (octets : Buffer ℕ) (heads : Buffer Head) (next place : ℕ) → IsWindow w → k ≤ length w.heads.items
    → size ≡ size_of (take k w.heads.items) → octets ≡ buffer (drop size w.octets.items) w.octets.capacity → heads ≡ buffer (drop k w.heads.items) w.heads.capacity
    → next ≡ w.next - k → place ≡ w.place - size → IsWindow (record w { octets = octets; heads = heads; next = next; place = place })
acknowledges w k size octets heads next place is le size_is octets_is heads_is next_is place_is =
    let parts = size_of-drop k w.heads.items in
    let fewer = length-drop k w.heads.items in
    let left = length-drop size w.octets.items in
    let held = is.held in
    let waits = is.waits in
    let count : length (drop size w.octets.items) - size_of (drop k w.heads.items) ≡ length w.octets.items - size_of w.heads.items = omega arith in
    rw (octets_is, heads_is, next_is, place_is) (record {
      agreed = is.agreed;
      within = is.within;
      octets_room = is.octets_room;
      heads_room = is.heads_room;
      few = omega (arith, is.few);
      next = omega (arith, is.next);
      place = omega (arith, size_of-take-drop k w.next w.heads.items, is.place);
      held = omega arith;
      waits = omega arith;
      waiting = subst (IsWaiting w.waiting) (sym count) is.waiting;
      heads = All-drop (IsHead w.agreed.send_mps) k w.heads.items is.heads;
      unspent = subst (λ (l : List Head). All (λ head. head.given < w.agreed.tries) l) (sym (drop-drop (w.next - k) k w.heads.items))
          (later (λ head. head.given < w.agreed.tries) w.next (k + (w.next - k)) w.heads.items (omega arith) is.unspent);
    })

-- ---- one is given again

-- where a head stands, of which only the count changes
module _ (heads : List Head) (i : ℕ) (head : Head) (is : slice_get heads i ≡ Some head) where
  abbrev pub again : Head
  again = record head { given = head.given + 1 }

  pub within : i < length heads
  within = slice_get_within heads i head is

  here : get_or heads i head ≡ head
  here = get_or_from_slice_get heads i head head is

  pub size_of-again : size_of (slice_set heads i again) ≡ size_of heads
  size_of-again =
      let one : (λ (h : Head). h.len) (get_or heads i head) ≡ head.len = ap (λ (h : Head). h.len) here in
      omega (arith, sum_by-set (λ (h : Head). h.len) heads i again head within)

  pub size_of-next : size_of (take (i + 1) heads) ≡ size_of (take i heads) + head.len
  size_of-next = sum_by_more (λ (h : Head). h.len) heads i head within ∙ ap (λ (h : Head). size_of (take i heads) + h.len) here

  size_of-next_again : size_of (take (i + 1) (slice_set heads i again)) ≡ size_of (take i heads) + head.len
  size_of-next_again =
      ap (λ (l : List Head). size_of l) (take_more_set heads i again within) ∙ sum_by_push (λ (h : Head). h.len) (take i heads) again

pub goes_again : (w : Inside) (head : Head) (heads : Buffer Head) (next place : ℕ) → IsWindow w → slice_get w.heads.items w.next ≡ Some head
    → heads ≡ buffer (slice_set w.heads.items w.next (record head { given = head.given + 1 })) w.heads.capacity
    → next ≡ w.next + 1 → place ≡ w.place + head.len → IsWindow (record w { heads = heads; next = next; place = place })
goes_again w head heads next place is found heads_is next_is place_is =
    let same = size_of-again w.heads.items w.next head found in
    let in_it = within w.heads.items w.next head found in
    let count = length-set w.heads.items w.next (record head { given = head.given + 1 }) in
    let own : IsHead w.agreed.send_mps head = subst (IsHead w.agreed.send_mps) (here w.heads.items w.next head found) (is.heads w.next head in_it) in
    let wait : length w.octets.items - size_of w.heads.items ≡ length w.octets.items - size_of (slice_set w.heads.items w.next (record head { given = head.given + 1 })) = omega arith in
    rw (heads_is, next_is, place_is) (record {
      agreed = is.agreed;
      within = is.within;
      octets_room = is.octets_room;
      heads_room = is.heads_room;
      few = omega (arith, is.few);
      next = omega arith;
      place = omega (arith, size_of-next_again w.heads.items w.next head found, is.place);
      held = omega (arith, is.held);
      waits = omega (arith, is.waits);
      waiting = subst (IsWaiting w.waiting) wait is.waiting;
      heads = All-set (IsHead w.agreed.send_mps) w.heads.items w.next (record head { given = head.given + 1 }) (record { len = own.len; sar = own.sar; total = own.total }) is.heads;
      unspent = subst (λ (l : List Head). All (λ head. head.given < w.agreed.tries) l)
          (sym (drop-set-lt (w.next + 1) w.heads.items w.next (record head { given = head.given + 1 }) (omega arith)))
          (later (λ head. head.given < w.agreed.tries) w.next (w.next + 1) w.heads.items (omega arith) is.unspent);
    })

-- ---- one comes into the window

pub comes : (w : Inside) (count : ℕ) (head : Head) (behind : Waiting) (heads : Buffer Head) (next place : ℕ) → IsWindow w → length w.heads.items ≤ w.next
    → length w.heads.items < w.agreed.send_window → count ≡ length w.octets.items - w.place → Cuts w.waiting count w.agreed.send_mps (head, behind)
    → heads ≡ buffer (w.heads.items ++ head ∷ []) w.heads.capacity → next ≡ w.next + 1 → place ≡ w.place + head.len
    → IsWindow (record w { heads = heads; next = next; place = place; waiting = behind })
comes w count head behind heads next place is all room count_is cuts heads_is next_is place_is =
    let end = is.next in
    let at : w.place ≡ size_of w.heads.items = is.place ∙ ap (λ (l : List Head). size_of l) (take_all w.next w.heads.items all) in
    let longer = length-append w.heads.items (head ∷ []) in
    let more : size_of (w.heads.items ++ head ∷ []) ≡ size_of w.heads.items + head.len = sum_by_push (λ (h : Head). h.len) w.heads.items head in
    let left : count - head.len ≡ length w.octets.items - size_of (w.heads.items ++ head ∷ []) = omega arith in
    let fits = cuts.fits in
    let held = is.held in
    rw (heads_is, next_is, place_is) (record {
      agreed = is.agreed;
      within = is.within;
      octets_room = is.octets_room;
      heads_room = is.heads_room;
      few = omega arith;
      next = omega arith;
      place = omega (arith, ap (λ (l : List Head). size_of l) (take_all (w.next + 1) (w.heads.items ++ head ∷ []) (omega arith)));
      held = omega arith;
      waits = omega (arith, is.waits);
      waiting = subst (IsWaiting behind) left cuts.rest;
      heads = All-push (IsHead w.agreed.send_mps) w.heads.items head is.heads cuts.head;
      unspent = subst (λ (l : List Head). All (λ head. head.given < w.agreed.tries) l) (sym (drop_all (w.next + 1) (w.heads.items ++ head ∷ []) (omega arith)))
          (All-nil (λ head. head.given < w.agreed.tries));
    })

-- ---- an SDU is taken

pub takes : (w : Inside) (sdu : List ℕ) (octets : Buffer ℕ) → IsWindow w → w.waiting ≡ Nothing → length sdu ≤ w.agreed.send_mtu
    → octets ≡ buffer (w.octets.items ++ sdu) w.octets.capacity → IsWindow (record w { octets = octets; waiting = Uncut })
takes w sdu octets is none fits octets_is =
    let nothing : length w.octets.items - size_of w.heads.items ≡ 0 = subst (λ (x : Waiting). IsWaiting x (length w.octets.items - size_of w.heads.items)) none is.waiting in
    let longer = length-append w.octets.items sdu in
    rw octets_is (record {
      agreed = is.agreed;
      within = is.within;
      octets_room = is.octets_room;
      heads_room = is.heads_room;
      few = is.few;
      next = is.next;
      place = is.place;
      held = omega (arith, is.held);
      waits = omega (arith, is.held);
      waiting = tt;
      heads = is.heads;
      unspent = is.unspent;
    })

-- what a place is once all heads were gone past
pub place_at_end : (w : Inside) → IsWindow w → length w.heads.items ≤ w.next → w.place ≡ size_of w.heads.items
place_at_end w is all = is.place ∙ ap (λ (l : List Head). size_of l) (take_all w.next w.heads.items all)

-- there is room for it
pub has_room : (w : Inside) (sdu : List ℕ) → IsWindow w → w.waiting ≡ Nothing → length sdu ≤ w.agreed.send_mtu → length w.octets.items + length sdu ≤ w.octets.capacity
has_room w sdu is none fits =
    let nothing : length w.octets.items - size_of w.heads.items ≡ 0 = subst (λ (x : Waiting). IsWaiting x (length w.octets.items - size_of w.heads.items)) none is.waiting in
    let short : size_of w.heads.items ≤ length w.heads.items * w.agreed.send_mps =
    sum_by-le (λ (h : Head). h.len) w.agreed.send_mps w.heads.items (All-weaker (IsHead w.agreed.send_mps) (λ h. h.len ≤ w.agreed.send_mps) (λ h own. own.len) w.heads.items is.heads) in
    let few : length w.heads.items * w.agreed.send_mps ≤ w.agreed.send_window * w.agreed.send_mps = mul-le-mul_right w.agreed.send_mps is.few in
    let window : w.agreed.send_window * w.agreed.send_mps ≤ w.reserved.send_window * w.agreed.send_mps = mul-le-mul_right w.agreed.send_mps is.within.send_window in
    let mps : w.reserved.send_window * w.agreed.send_mps ≤ w.reserved.send_window * w.reserved.send_mps = mul-le-mul_left w.reserved.send_window is.within.send_mps in
    omega (arith, is.octets_room, is.within.send_mtu, is.held)

-- what stands in the window is at most 63 times 1,010 octets
pub few_octets : (w : Inside) → IsWindow w → size_of w.heads.items ≤ 63630
few_octets w is =
    let short : size_of w.heads.items ≤ length w.heads.items * w.agreed.send_mps =
    sum_by-le (λ (h : Head). h.len) w.agreed.send_mps w.heads.items (All-weaker (IsHead w.agreed.send_mps) (λ h. h.len ≤ w.agreed.send_mps) (λ h own. own.len) w.heads.items is.heads) in
    let few : length w.heads.items * w.agreed.send_mps ≤ 63 * w.agreed.send_mps = mul-le-mul_right w.agreed.send_mps (omega (arith, is.few, is.agreed.send_to)) in
    omega (arith, is.agreed.mps_to)

pub few_in_front : (w : Inside) (k : ℕ) → IsWindow w → size_of (take k w.heads.items) ≤ 63630
few_in_front w k is = omega (arith, few_octets w is, sum_by-take-le (λ (h : Head). h.len) w.heads.items k)

-- ---- all are to be given again

pub rewinds : (w : Inside) → IsWindow w → list_any (λ head. nat_le w.agreed.tries head.given) w.heads.items ≡ false → IsWindow (record w { next = 0; place = 0 })
rewinds w is none = record {
  agreed = is.agreed;
  within = is.within;
  octets_room = is.octets_room;
  heads_room = is.heads_room;
  few = is.few;
  next = omega arith;
  place = refl;
  held = is.held;
  waits = is.waits;
  waiting = is.waiting;
  heads = is.heads;
  unspent = unspent w.agreed.tries w.heads.items none;
}

-- ---- the head at a place

pub head_at : (heads : List Head) (i : ℕ) → i < length heads → (head : Head) × (slice_get heads i ≡ Some head)
head_at heads i lt =
    let none : Head = record { len = 0; sar = 0; total = 0; given = 0 } in
    (get_or heads i none, slice_get-get_or heads i none lt)

pub unspent_at : (w : Inside) → IsWindow w → w.next < length w.heads.items → IfSome (slice_get w.heads.items w.next) (λ head. head.given < w.agreed.tries)
unspent_at w is lt =
    let none : Head = record { len = 0; sar = 0; total = 0; given = 0 } in
    let first = is.unspent 0 none (omega (arith, length-drop w.next w.heads.items)) in
    let same : get_or (drop w.next w.heads.items) 0 none ≡ get_or w.heads.items w.next none = get_or-drop w.next w.heads.items 0 none ∙ ap (λ (n : ℕ). get_or w.heads.items n none) (add-zero w.next) in
    rw (slice_get-get_or w.heads.items w.next none lt) (subst (λ (head : Head). head.given < w.agreed.tries) same first)

-- ---- the segment that was given last

module _ (w : Inside) (head : Head) (is : IsWindow w) (some : 0 < w.next) (found : slice_get w.heads.items (w.next - 1) ≡ Some head) where
  -- it begins behind those before it
  pub begins : w.place ≡ size_of (take (w.next - 1) w.heads.items) + head.len
  begins =
      let e : w.next ≡ w.next - 1 + 1 = omega arith in
      is.place ∙ ap (λ (n : ℕ). size_of (take n w.heads.items)) e ∙ size_of-next w.heads.items (w.next - 1) head found

  pub ends : w.place ≤ length w.octets.items
  ends = omega (arith, is.place, is.held, sum_by-take-le (λ (h : Head). h.len) w.heads.items w.next)

  pub own : IsHead w.agreed.send_mps head
  own = subst (IsHead w.agreed.send_mps) (here w.heads.items (w.next - 1) head found) (is.heads (w.next - 1) head (within w.heads.items (w.next - 1) head found))
