-- What a queue of the air is, while frames come and go.
use Rattle.std.proofs.Common.{◌≡◌, ℕ, zero, suc, ◌+◌, ◌*◌, ◌-◌, ◌≤◌, ◌<◌, ◌==◌, ◌||◌, nat_lt, min, Bool, true, false, cond, List, [], ◌∷◌, ◌++◌, length, take, drop, Option, Some, None, refl, sym, ap, ap₂, subst, ◌∙◌, arith, length-append, length-take, length-drop}
use Rattle.std.proofs.lemmas.Bool.{lt-ltb, le-ltb, or_right, or_left}
use Rattle.std.specs.Prelude.{slice_set, slice_index, bit_xor, ◌/◌, ◌%◌}
use Rattle.std.proofs.lemmas.List.{append-nil, drop-append-le, get_or-set_other, length-set}
use Rattle.acl_fragments.specs.Pieces.{Piece, joined, channel_of}
use Rattle.acl_fragments.specs.Cuts.{cut, first_pieces}
use Rattle.hci_packets.specs.declared.acl.Boundary.{Boundary}
use Rattle.radio_model.specs.Radio.{first_channel}
use Rattle.radio_air.specs.Rings.{Kept, with_first, octets_in}
use Rattle.radio_model.specs.Radio.{first_or_nothing}
use Rattle.radio_model.specs.Fates.{changed}
use Rattle.radio_model.specs.Queues.{Queue, IsSize, begun_with, is_crowded}
use Rattle.radio_air.specs.Keeping.{queue_of, IsQueue, boundary_at}
use Rattle.radio_air.specs.Plain.{IsShortStep, stepped}
use Rattle.radio_air.specs.declared.step.Step.{Step}
use Rattle.radio_air.specs.declared.step.Step.TheVariants.{Whole, More, Drop}

-- ---- what stays true

first_more : (frames more : List (List ℕ)) (n : ℕ) → n ≤ length (first_or_nothing frames) → n ≤ length (first_or_nothing (frames ++ more))
first_more [] more n within = omega arith
first_more (frame ∷ frames) more n within = within

-- frames more, or none, and something else that was begun
pub queue_grown : (size handing gone leaving : ℕ) (old new : Kept) (more : List (List ℕ)) → new.frames ≡ old.frames ++ more → (0 < length new.begun → 4 ≤ length new.begun)
    → IsQueue size old handing gone leaving → IsQueue size new handing gone leaving
queue_grown size handing gone leaving old new more is headed queue = record {
  sized = queue.sized;
  handing_within = subst (λ frames. handing ≤ length (first_or_nothing frames)) (sym is) (first_more old.frames more handing queue.handing_within);
  gone_within = queue.gone_within;
  leaving_within = omega (arith, queue.leaving_within, ap length is, length-append old.frames more);
  over = queue.over;
  headed = headed;
}

-- ---- nothing is handed over

cut_none : (size : ℕ) (boundary : Boundary) (octets : List ℕ) → cut size boundary octets ≡ [] → octets ≡ []
cut_none size boundary [] none = refl
cut_none size boundary (x ∷ octets) none = cc

pub still_over : (size handing gone leaving : ℕ) (kept : Kept) → IsQueue size kept handing gone leaving → (queue_of size kept handing gone leaving).coming ≡ [] → (handing ≡ 0) × (leaving ≡ 0)
still_over size handing gone leaving kept queue none =
    let left : drop gone (take handing (first_or_nothing kept.frames)) ≡ [] = cut_none size (boundary_at gone) (drop gone (take handing (first_or_nothing kept.frames))) none in
    queue.over (omega (arith, ap length left, length-drop gone (take handing (first_or_nothing kept.frames)), length-take handing (first_or_nothing kept.frames), queue.handing_within))

-- so the queue is its frames
pub still_is : (size handing gone leaving : ℕ) (kept : Kept) → IsQueue size kept handing gone leaving → (queue_of size kept handing gone leaving).coming ≡ []
    → (handing ≡ 0) × (gone ≡ 0) × (leaving ≡ 0)
still_is size handing gone leaving kept queue none =
    let over = still_over size handing gone leaving kept queue none in
    (over.0, omega (arith, over.0, queue.gone_within), over.1)

pub still_frames : (size handing gone leaving : ℕ) (kept : Kept) → IsQueue size kept handing gone leaving → (queue_of size kept handing gone leaving).coming ≡ []
    → drop leaving kept.frames ≡ kept.frames
still_frames size handing gone leaving kept queue none = ap (λ n. drop n kept.frames) (still_is size handing gone leaving kept queue none).2

-- ---- too much

pub crowded_octets : (frames : List (List ℕ)) → 1048576 < length (joined frames) → is_crowded frames ≡ true
crowded_octets frames above = or_right (nat_lt 256 (length frames)) (nat_lt 1048576 (length (joined frames))) (lt-ltb 1048576 (length (joined frames)) above)

pub crowded_frames : (frames : List (List ℕ)) → 256 < length frames → is_crowded frames ≡ true
crowded_frames frames above = or_left (nat_lt 256 (length frames)) (nat_lt 1048576 (length (joined frames))) (lt-ltb 256 (length frames) above)

joined_more : (frames more : List (List ℕ)) → length (joined frames) ≤ length (joined (frames ++ more))
joined_more [] more = omega arith
joined_more (frame ∷ frames) more = omega (arith, joined_more frames more, length-append frame (joined frames), length-append frame (joined (frames ++ more)))

-- nothing more can be begun while nothing is handed over: too many octets wait
pub crowded_by_octets : (size handing gone leaving count : ℕ) (kept : Kept) (more : List (List ℕ)) → IsQueue size kept handing gone leaving → 1114115 < octets_in kept + count → length kept.begun + count ≤ 65539
    → (queue_of size kept handing gone leaving).coming ≡ [] → is_crowded (drop leaving kept.frames ++ more) ≡ true
crowded_by_octets size handing gone leaving count kept more queue above short none =
    let all : leaving ≡ 0 = (still_over size handing gone leaving kept queue none).1 in
    crowded_octets (drop leaving kept.frames ++ more)
    (subst (λ n. 1048576 < length (joined (drop n kept.frames ++ more))) (sym all) (omega (arith, joined_more kept.frames more)))

-- or too many frames
pub crowded_by_frames : (size handing gone leaving : ℕ) (kept : Kept) (frame : List ℕ) → IsQueue size kept handing gone leaving → 256 ≤ length kept.frames
    → (queue_of size kept handing gone leaving).coming ≡ [] → is_crowded (drop leaving kept.frames ++ frame ∷ []) ≡ true
crowded_by_frames size handing gone leaving kept frame queue above none =
    let all : leaving ≡ 0 = (still_over size handing gone leaving kept queue none).1 in
    crowded_frames (drop leaving kept.frames ++ frame ∷ [])
    (subst (λ n. 256 < length (drop n kept.frames ++ frame ∷ [])) (sym all) (omega (arith, length-append kept.frames (frame ∷ []))))

-- ---- what a piece wants

pub whole_crowded : (step : Step) (flies : Bool) (octets : List ℕ) (size handing gone leaving : ℕ) (kept : Kept) → step ≡ Whole → flies ≡ true → IsQueue size kept handing gone leaving
    → IsShortStep step (kept.begun ++ octets) → 1114115 < octets_in kept + length octets → (queue_of size kept handing gone leaving).coming ≡ []
    → is_crowded (stepped step flies octets (queue_of size kept handing gone leaving)).waiting ≡ true
whole_crowded step flies octets size handing gone leaving kept is now queue short above none =
    let fits : IsShortStep Whole (kept.begun ++ octets) = subst (λ s. IsShortStep s (kept.begun ++ octets)) is short in
    subst (λ s. is_crowded (stepped s flies octets (queue_of size kept handing gone leaving)).waiting ≡ true) (sym is)
    (subst (λ b. is_crowded (cond b (drop leaving kept.frames ++ (kept.begun ++ octets) ∷ []) (drop leaving kept.frames)) ≡ true) (sym now)
    (crowded_by_octets size handing gone leaving (length octets) kept ((kept.begun ++ octets) ∷ []) queue above (omega (arith, fits.1, length-append kept.begun octets)) none))

pub frames_crowded : (step : Step) (flies : Bool) (octets : List ℕ) (size handing gone leaving : ℕ) (kept : Kept) → step ≡ Whole → flies ≡ true → IsQueue size kept handing gone leaving
    → 256 ≤ length kept.frames → (queue_of size kept handing gone leaving).coming ≡ [] → is_crowded (stepped step flies octets (queue_of size kept handing gone leaving)).waiting ≡ true
frames_crowded step flies octets size handing gone leaving kept is now queue above none =
    subst (λ s. is_crowded (stepped s flies octets (queue_of size kept handing gone leaving)).waiting ≡ true) (sym is)
    (subst (λ b. is_crowded (cond b (drop leaving kept.frames ++ (kept.begun ++ octets) ∷ []) (drop leaving kept.frames)) ≡ true) (sym now)
    (crowded_by_frames size handing gone leaving kept (kept.begun ++ octets) queue above none))

pub more_crowded : (step : Step) (flies : Bool) (octets : List ℕ) (size handing gone leaving : ℕ) (kept : Kept) → step ≡ More → IsQueue size kept handing gone leaving
    → IsShortStep step (kept.begun ++ octets) → 1114115 < octets_in kept + length octets → (queue_of size kept handing gone leaving).coming ≡ []
    → is_crowded (stepped step flies octets (queue_of size kept handing gone leaving)).waiting ≡ true
more_crowded step flies octets size handing gone leaving kept is queue short above none =
    let fits : IsShortStep More (kept.begun ++ octets) = subst (λ s. IsShortStep s (kept.begun ++ octets)) is short in
    subst (λ s. is_crowded (stepped s flies octets (queue_of size kept handing gone leaving)).waiting ≡ true) (sym is)
    (subst (λ xs. is_crowded xs ≡ true) (append-nil (drop leaving kept.frames))
    (crowded_by_octets size handing gone leaving (length octets) kept [] queue above (omega (arith, fits.1, length-append kept.begun octets)) none))

-- ---- the channel of the first frame

pub no_channel : (frames : List (List ℕ)) → length (first_or_nothing frames) < 4 → None ≡ first_channel frames
no_channel frames short = ap (λ b. cond b None (Some (channel_of (first_or_nothing frames)))) (sym (lt-ltb (length (first_or_nothing frames)) 4 short))

pub a_channel : (frames : List (List ℕ)) → 4 ≤ length (first_or_nothing frames) → Some (channel_of (first_or_nothing frames)) ≡ first_channel frames
a_channel frames whole = ap (λ b. cond b None (Some (channel_of (first_or_nothing frames)))) (sym (le-ltb (length (first_or_nothing frames)) 4 whole))

-- ---- a queue from which nothing is handed over

abbrev AllZero : (handing gone leaving : ℕ) → Type 0
AllZero handing gone leaving = (handing ≡ 0) × (gone ≡ 0) × (leaving ≡ 0)

pub still_zero : (size handing gone leaving : ℕ) (kept : Kept) → AllZero handing gone leaving → queue_of size kept handing gone leaving ≡ queue_of size kept 0 0 0
still_zero size handing gone leaving kept zeros =
    ap (λ n. queue_of size kept n gone leaving) zeros.0 ∙ ap (λ n. queue_of size kept 0 n leaving) zeros.1 ∙ ap (λ n. queue_of size kept 0 0 n) zeros.2

pub queue_still : (size handing gone leaving : ℕ) (kept : Kept) → IsSize size → AllZero handing gone leaving → (0 < length kept.begun → 4 ≤ length kept.begun) → IsQueue size kept handing gone leaving
queue_still size handing gone leaving kept sized zeros headed = record {
  sized = sized;
  handing_within = omega (arith, zeros.0);
  gone_within = omega (arith, zeros.1);
  leaving_within = omega (arith, zeros.2);
  over = λ above. (zeros.0, zeros.2);
  headed = headed;
}

pub begun_nothing : (size handing gone leaving none leaves : ℕ) (kept next : Kept) → AllZero handing gone leaving → none ≡ 0 → next ≡ record { frames = drop leaves kept.frames; begun = kept.begun }
    → queue_of size next handing gone leaving ≡ begun_with none leaves (queue_of size kept handing gone leaving)
begun_nothing size handing gone leaving none leaves kept next zeros is now =
    still_zero size handing gone leaving next zeros ∙ ap (λ k. queue_of size k 0 0 0) now
    ∙ sym (ap (λ n. begun_with n leaves (queue_of size kept handing gone leaving)) is ∙ ap (λ q. begun_with 0 leaves q) (still_zero size handing gone leaving kept zeros))

pub begun_some : (size handing gone leaving some leaves : ℕ) (kept : Kept) → AllZero handing gone leaving
    → queue_of size kept some gone leaves ≡ begun_with some leaves (queue_of size kept handing gone leaving)
begun_some size handing gone leaving some leaves kept zeros =
    ap (λ n. queue_of size kept some n leaves) zeros.1 ∙ sym (ap (λ q. begun_with some leaves q) (still_zero size handing gone leaving kept zeros))

pub queue_begun : (size handing gone leaving some leaves : ℕ) (kept : Kept) → IsQueue size kept handing gone leaving → AllZero handing gone leaving → (some ≡ 0 → ⊥)
    → some ≤ length (first_or_nothing kept.frames) → leaves ≤ length kept.frames → IsQueue size kept some gone leaves
queue_begun size handing gone leaving some leaves kept queue zeros there octets frames = record {
  sized = queue.sized;
  handing_within = octets;
  gone_within = omega (arith, zeros.1);
  leaving_within = frames;
  over = λ above. absurd (there (omega (arith, zeros.1)));
  headed = queue.headed;
}

-- ---- two octets of the first frame are changed

abbrev pub with_waiting : List (List ℕ) → Queue → Queue
with_waiting waiting queue = record queue { waiting = waiting }

twice_changed : (at mask high low : ℕ) (frames : List (List ℕ)) → high ≡ mask / 256 → low ≡ mask % 256
    → with_first (slice_set (first_or_nothing (with_first (slice_set (first_or_nothing frames) at (bit_xor (slice_index (first_or_nothing frames) at) high)) frames)) (at + 1)
    (bit_xor (slice_index (first_or_nothing (with_first (slice_set (first_or_nothing frames) at (bit_xor (slice_index (first_or_nothing frames) at) high)) frames)) (at + 1)) low))
    (with_first (slice_set (first_or_nothing frames) at (bit_xor (slice_index (first_or_nothing frames) at) high)) frames)
    ≡ with_first (changed at mask (first_or_nothing frames)) frames
twice_changed at mask high low [] h l = refl
twice_changed at mask high low (frame ∷ frames) h l =
    let once = λ (n : ℕ). slice_set frame at (bit_xor (slice_index frame at) n) in
    let other : slice_index (once high) (at + 1) ≡ slice_index frame (at + 1) = get_or-set_other frame at (at + 1) (bit_xor (slice_index frame at) high) 0 (λ same. omega (arith, same)) in
    ap (λ x. x ∷ frames)
    (ap₂ (λ octet n. slice_set (once high) (at + 1) (bit_xor octet n)) other l ∙ ap (λ n. slice_set (once n) (at + 1) (bit_xor (slice_index frame (at + 1)) (mask % 256))) h)

pub queue_changed : (size handing gone leaving at mask high low : ℕ) (kept once twice : Kept) → AllZero handing gone leaving → high ≡ mask / 256 → low ≡ mask % 256
    → once ≡ record { frames = with_first (slice_set (first_or_nothing kept.frames) at (bit_xor (slice_index (first_or_nothing kept.frames) at) high)) kept.frames; begun = kept.begun }
    → twice ≡ record { frames = with_first (slice_set (first_or_nothing once.frames) (at + 1) (bit_xor (slice_index (first_or_nothing once.frames) (at + 1)) low)) once.frames; begun = once.begun }
    → queue_of size twice handing gone leaving ≡ with_waiting (with_first (changed at mask (first_or_nothing (drop leaving kept.frames))) (drop leaving kept.frames)) (queue_of size kept handing gone leaving)
queue_changed size handing gone leaving at mask high low kept once twice zeros h l one two =
    let frames : twice.frames ≡ with_first (changed at mask (first_or_nothing kept.frames)) kept.frames =
    ap (λ k. k.frames) two
    ∙ ap (λ (k : Kept). with_first (slice_set (first_or_nothing k.frames) (at + 1) (bit_xor (slice_index (first_or_nothing k.frames) (at + 1)) low)) k.frames) one ∙ twice_changed at mask high low kept.frames h l in
    let begun : twice.begun ≡ kept.begun = ap (λ k. k.begun) two ∙ ap (λ k. k.begun) one in
    still_zero size handing gone leaving twice zeros
    ∙ ap₂ (λ w b. let queue : Queue = record { size = size; waiting = w; begun = b; coming = [] } in queue) frames begun
    ∙ sym (ap (λ n. with_waiting (with_first (changed at mask (first_or_nothing (drop n kept.frames))) (drop n kept.frames)) (queue_of size kept handing gone leaving)) zeros.2
    ∙ ap (λ q. with_waiting (with_first (changed at mask (first_or_nothing kept.frames)) kept.frames) q) (still_zero size handing gone leaving kept zeros))

pub first_same : (at value : ℕ) (frames : List (List ℕ)) → length (first_or_nothing (with_first (slice_set (first_or_nothing frames) at value) frames)) ≡ length (first_or_nothing frames)
first_same at value [] = refl
first_same at value (frame ∷ frames) = length-set frame at value
