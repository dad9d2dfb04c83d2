-- What the calls of a window do to its value.
use Rattle.std.proofs.Common.{◌≡◌, ℕ, zero, suc, ◌+◌, ◌-◌, ◌≤◌, ◌<◌, ◌^◌, Bool, true, false, List, [], ◌∷◌, ◌++◌, length, take, drop, refl, sym, ap, subst, ◌∙◌, arith, length-drop, length-append, inl, inr}
use Rattle.std.specs.Prelude.{slice_get, slice_set, Option, Some, None, nat_le, nat_lt}
use Rattle.std.specs.List.{sum_by, list_any, All}
use Rattle.std.proofs.lemmas.Bool.{cases_Bool, lt-ltb, le-ltb}
use Rattle.std.proofs.lemmas.List.{drop-drop, drop_at, nil_from_length}
use Rattle.std.proofs.lemmas.Option.{slice_get_past}
use Rattle.std.proofs.lemmas.List.Sums.{sum_by-take-drop, sum_by_push}
use Rattle.circular_buffer.specs.Buffer.{Buffer, buffer}
use Rattle.std.specs.Option.{option_map}
use Rattle.bt_base.specs.Octets.{IsOctets}
use Rattle.ertm_frames.specs.Frames.{IsInformation}
use Rattle.ertm_frames.specs.Segments.{Segment}
use Rattle.ertm_model.specs.Value.{Kept}
use Rattle.ertm_model.specs.Giving.{given_again}
use Rattle.ertm_model.specs.Hearing.{is_spent}
use Rattle.ertm_model.specs.Submitting.{cut, later_segments, later_within, is_some_fresh}
use Rattle.ertm_machine.specs.declared.window.Head.{Head}
use Rattle.ertm_machine.specs.declared.window.Waiting.{Waiting}
use Rattle.ertm_machine.specs.declared.window.Waiting.TheVariants.{Nothing, Uncut, Begun}
use Rattle.ertm_machine.specs.declared.window.Window.TheInside.{Inside}
use Rattle.ertm_machine.specs.declared.piece.Piece.{Piece}
use Rattle.ertm_machine.specs.Pieces.{octets_of, segment_of_piece}
use Rattle.ertm_machine.specs.Values.{WindowValue}
use Rattle.ertm_machine.specs.Windows.{size_of, IsHead, segment_at, kept_at, kept_of, waiting_segments, window_value, IsWindow, IsWaiting, Cuts, Advances, AdvancesTo, stepped_new, stepped_by}
use Rattle.ertm_machine.proofs.Keeping.{length-kept_of, kept_of-append, kept_of-more, drop-kept_of, get-kept_of, given_again-kept_of, spent-kept_of}
use Rattle.ertm_machine.proofs.Windowing.{size_of-drop, size_of-again, begins, own}

pub used_is : (w : Inside) (v : WindowValue) → window_value w ≡ v → length v.unacked ≡ length w.heads.items
used_is w v is = ap (λ (x : WindowValue). length x.unacked) (sym is) ∙ length-kept_of w.heads.items w.octets.items

pub next_is : (w : Inside) (v : WindowValue) → window_value w ≡ v → v.next ≡ w.next
next_is w v is = ap (λ (x : WindowValue). x.next) (sym is)

pub spent_is : (w : Inside) (v : WindowValue) (k : ℕ) → window_value w ≡ v → is_spent v.agreed.tries (drop k v.unacked) ≡ list_any (λ head. nat_le w.agreed.tries head.given) (drop k w.heads.items)
spent_is w v k is =
    ap (λ (x : WindowValue). is_spent x.agreed.tries (drop k x.unacked)) (sym is)
    ∙ ap (is_spent w.agreed.tries) (drop-kept_of k w.heads.items w.octets.items)
    ∙ spent-kept_of w.agreed.tries (drop k w.heads.items) (drop (size_of (take k w.heads.items)) w.octets.items)

-- ---- whether something waits

abbrev pub some_waits : Waiting → Bool
some_waits Nothing = false
some_waits Uncut = true
some_waits Begun = true

some_later : (count mps : ℕ) (octets : List ℕ) → is_some_fresh (later_within count mps octets) ≡ true
some_later zero mps octets = refl
some_later (suc count) mps octets = elim (cases_Bool (nat_le (length octets) mps)) [ inl few ↦ rw few refl | inr many ↦ rw many refl ]

pub fresh_is : (waiting : Waiting) (mps : ℕ) (octets : List ℕ) → is_some_fresh (waiting_segments waiting mps octets) ≡ some_waits waiting
fresh_is Nothing mps octets = refl
fresh_is Uncut mps octets = elim (cases_Bool (nat_le (length octets) mps)) [ inl few ↦ rw few refl | inr many ↦ rw many refl ]
fresh_is Begun mps octets = some_later (length octets) mps octets

pub waits_is : (w : Inside) (v : WindowValue) → window_value w ≡ v → is_some_fresh v.fresh ≡ some_waits w.waiting
waits_is w v is = ap (λ (x : WindowValue). is_some_fresh x.fresh) (sym is) ∙ fresh_is w.waiting w.agreed.send_mps (drop (size_of w.heads.items) w.octets.items)

none_by : (waiting : Waiting) → some_waits waiting ≡ false → waiting ≡ Nothing
none_by Nothing e = refl
none_by Uncut e = cc
none_by Begun e = cc

pub none_waits : (w : Inside) (v : WindowValue) → window_value w ≡ v → is_some_fresh v.fresh ≡ false → w.waiting ≡ Nothing
none_waits w v is none = none_by w.waiting (sym (waits_is w v is) ∙ none)

-- ---- some are acknowledged

pub acknowledged : (w : Inside) (v : WindowValue) (k size : ℕ) (octets : Buffer ℕ) (heads : Buffer Head) (next place : ℕ) → window_value w ≡ v
    → size ≡ size_of (take k w.heads.items) → octets ≡ buffer (drop size w.octets.items) w.octets.capacity → heads ≡ buffer (drop k w.heads.items) w.heads.capacity
    → next ≡ w.next - k → window_value (record w { octets = octets; heads = heads; next = next; place = place }) ≡ record v { unacked = drop k v.unacked; next = v.next - k }
acknowledged w v k size octets heads next place was size_is octets_is heads_is next_is =
    let rest : drop (size_of (drop k w.heads.items)) (drop size w.octets.items) ≡ drop (size_of w.heads.items) w.octets.items =
    drop-drop (size_of (drop k w.heads.items)) size w.octets.items
    ∙ ap (λ (n : ℕ). drop n w.octets.items) (ap (λ (n : ℕ). n + size_of (drop k w.heads.items)) size_is ∙ size_of-drop k w.heads.items) in
    let kept : kept_of (drop k w.heads.items) (drop size w.octets.items) ≡ drop k (kept_of w.heads.items w.octets.items) =
    ap (λ (n : ℕ). kept_of (drop k w.heads.items) (drop n w.octets.items)) size_is ∙ sym (drop-kept_of k w.heads.items w.octets.items) in
    subst (λ (x : WindowValue). window_value (record w { octets = octets; heads = heads; next = next; place = place }) ≡ record x { unacked = drop k x.unacked; next = x.next - k }) was
    (rw (octets_is, heads_is, next_is)
    (ap (λ (l : List Kept). record (window_value w) { unacked = l; next = w.next - k; fresh = waiting_segments w.waiting w.agreed.send_mps (drop (size_of (drop k w.heads.items)) (drop size w.octets.items)) }) kept
    ∙ ap (λ (x : List ℕ). record (window_value w) { unacked = drop k (kept_of w.heads.items w.octets.items); next = w.next - k; fresh = waiting_segments w.waiting w.agreed.send_mps x }) rest))

-- ---- one is given again

moves_again : (v new : WindowValue) (kept : Kept) → slice_get v.unacked v.next ≡ Some kept → new ≡ record v { unacked = given_again v.next v.unacked; next = v.next + 1 } → Advances v true new
moves_again v new kept found is = rw found (refl, is)

pub went_again : (w : Inside) (v : WindowValue) (head : Head) (heads : Buffer Head) (next place : ℕ) → window_value w ≡ v → slice_get w.heads.items w.next ≡ Some head
    → heads ≡ buffer (slice_set w.heads.items w.next (record head { given = head.given + 1 })) w.heads.capacity → next ≡ w.next + 1
    → Advances v true (window_value (record w { heads = heads; next = next; place = place }))
went_again w v head heads next place was found heads_is next_is =
    let H : List Head = w.heads.items in
    let O : List ℕ = w.octets.items in
    let set : List Head = slice_set H w.next (record head { given = head.given + 1 }) in
    let same : size_of set ≡ size_of H = size_of-again H w.next head found in
    let kept : kept_of set O ≡ given_again w.next (kept_of H O) = sym (given_again-kept_of H O w.next head found) in
    let value : window_value (record w { heads = heads; next = next; place = place }) ≡ record (window_value w) { unacked = given_again w.next (kept_of H O); next = w.next + 1 } =
    rw (heads_is, next_is)
    (ap (λ (l : List Kept). record (window_value w) { unacked = l; next = w.next + 1; fresh = waiting_segments w.waiting w.agreed.send_mps (drop (size_of set) O) }) kept
    ∙ ap (λ (n : ℕ). record (window_value w) { unacked = given_again w.next (kept_of H O); next = w.next + 1; fresh = waiting_segments w.waiting w.agreed.send_mps (drop n O) }) same) in
    subst (λ (x : WindowValue). Advances x true (window_value (record w { heads = heads; next = next; place = place }))) was
    (moves_again (window_value w) (window_value (record w { heads = heads; next = next; place = place })) (kept_at head (drop (size_of (take w.next H)) O)) (get-kept_of H O w.next head found) value)

-- ---- one comes into the window, or none

none_there : (w : Inside) → length w.heads.items ≤ w.next → slice_get (kept_of w.heads.items w.octets.items) w.next ≡ None
none_there w all =
    let count = length-kept_of w.heads.items w.octets.items in
    slice_get_past (kept_of w.heads.items w.octets.items) w.next (omega arith)

moves_new : (v new : WindowValue) (segment : Segment) (fresh : List Segment) → slice_get v.unacked v.next ≡ None → nat_lt (length v.unacked) v.agreed.send_window ≡ true
    → v.fresh ≡ segment ∷ fresh → new ≡ record v { unacked = v.unacked ++ record { segment = segment; given = 1 } ∷ []; next = v.next + 1; fresh = fresh } → Advances v true new
moves_new v new segment fresh none room is after = rw (none, room, is) (refl, after)

stays_full : (v : WindowValue) → slice_get v.unacked v.next ≡ None → nat_lt (length v.unacked) v.agreed.send_window ≡ false → Advances v false v
stays_full v none full = rw (none, full) (refl, refl)

stays_empty : (v : WindowValue) → slice_get v.unacked v.next ≡ None → v.fresh ≡ [] → Advances v false v
stays_empty v none empty =
    elim (cases_Bool (nat_lt (length v.unacked) v.agreed.send_window)) [ inl room ↦ rw (none, room, empty) (refl, refl) | inr full ↦ rw (none, full) (refl, refl) ]

pub came : (w : Inside) (v : WindowValue) (count : ℕ) (head : Head) (behind : Waiting) (heads : Buffer Head) (next place : ℕ) → window_value w ≡ v → IsWindow w
    → length w.heads.items ≤ w.next → length w.heads.items < w.agreed.send_window → count ≡ length w.octets.items - size_of w.heads.items
    → Cuts w.waiting count w.agreed.send_mps (head, behind) → heads ≡ buffer (w.heads.items ++ head ∷ []) w.heads.capacity → next ≡ w.next + 1
    → Advances v true (window_value (record w { heads = heads; next = next; place = place; waiting = behind }))
came w v count head behind heads next place was is all room count_is cuts heads_is next_is =
    let H : List Head = w.heads.items in
    let O : List ℕ = w.octets.items in
    let rest : List ℕ = drop (size_of H) O in
    let segment : Segment = segment_at head rest in
    let used = length-kept_of H O in
    let fresh : waiting_segments w.waiting w.agreed.send_mps rest ≡ segment ∷ waiting_segments behind w.agreed.send_mps (drop head.len rest) =
    cuts.segments rest (length-drop (size_of H) O ∙ sym count_is) in
    let kept : kept_of (H ++ head ∷ []) O ≡ kept_of H O ++ record { segment = segment; given = 1 } ∷ [] =
    kept_of-append H (head ∷ []) O ∙ ap (λ (n : ℕ). kept_of H O ++ record { segment = segment; given = n } ∷ []) cuts.given in
    let left : drop (size_of (H ++ head ∷ [])) O ≡ drop head.len rest =
    ap (λ (n : ℕ). drop n O) (sum_by_push (λ (h : Head). h.len) H head) ∙ sym (drop-drop head.len (size_of H) O) in
    let value : window_value (record w { heads = heads; next = next; place = place; waiting = behind })
    ≡ record (window_value w) { unacked = kept_of H O ++ record { segment = segment; given = 1 } ∷ []; next = w.next + 1; fresh = waiting_segments behind w.agreed.send_mps (drop head.len rest) } =
    rw (heads_is, next_is)
    (ap (λ (l : List Kept). record (window_value w) { unacked = l; next = w.next + 1; fresh = waiting_segments behind w.agreed.send_mps (drop (size_of (H ++ head ∷ [])) O) }) kept
    ∙ ap (λ (x : List ℕ). record (window_value w) { unacked = kept_of H O ++ record { segment = segment; given = 1 } ∷ []; next = w.next + 1; fresh = waiting_segments behind w.agreed.send_mps x }) left) in
    subst (λ (x : WindowValue). Advances x true (window_value (record w { heads = heads; next = next; place = place; waiting = behind }))) was
    (moves_new (window_value w) (window_value (record w { heads = heads; next = next; place = place; waiting = behind })) segment (waiting_segments behind w.agreed.send_mps (drop head.len rest))
    (none_there w all) (lt-ltb (length (kept_of H O)) w.agreed.send_window (omega arith)) fresh value)

pub full : (w : Inside) (v : WindowValue) → window_value w ≡ v → length w.heads.items ≤ w.next → w.agreed.send_window ≤ length w.heads.items → Advances v false v
full w v was all many =
    let used = length-kept_of w.heads.items w.octets.items in
    subst (λ (x : WindowValue). Advances x false x) was
    (stays_full (window_value w) (none_there w all) (le-ltb (length (kept_of w.heads.items w.octets.items)) w.agreed.send_window (omega arith)))

pub empty : (w : Inside) (v : WindowValue) → window_value w ≡ v → length w.heads.items ≤ w.next → w.waiting ≡ Nothing → Advances v false v
empty w v was all none =
    let nothing : waiting_segments w.waiting w.agreed.send_mps (drop (size_of w.heads.items) w.octets.items) ≡ [] =
    ap (λ (x : Waiting). waiting_segments x w.agreed.send_mps (drop (size_of w.heads.items) w.octets.items)) none in
    subst (λ (x : WindowValue). Advances x false x) was (stays_empty (window_value w) (none_there w all) nothing)

-- ---- an SDU is taken

pub took : (w : Inside) (v : WindowValue) (sdu : List ℕ) (octets : Buffer ℕ) → window_value w ≡ v → IsWindow w → w.waiting ≡ Nothing
    → octets ≡ buffer (w.octets.items ++ sdu) w.octets.capacity → window_value (record w { octets = octets; waiting = Uncut }) ≡ record v { fresh = cut v.agreed.send_mps sdu }
took w v sdu octets was is none octets_is =
    let nothing : length w.octets.items - size_of w.heads.items ≡ 0 = subst (λ (x : Waiting). IsWaiting x (length w.octets.items - size_of w.heads.items)) none is.waiting in
    let rest : drop (size_of w.heads.items) (w.octets.items ++ sdu) ≡ sdu = drop_at w.octets.items sdu (size_of w.heads.items) (omega (arith, is.held)) in
    subst (λ (x : WindowValue). window_value (record w { octets = octets; waiting = Uncut }) ≡ record x { fresh = cut x.agreed.send_mps sdu }) was
    (rw octets_is
    (ap (λ (l : List Kept). record (window_value w) { unacked = l; fresh = cut w.agreed.send_mps (drop (size_of w.heads.items) (w.octets.items ++ sdu)) })
    (kept_of-more w.heads.items w.octets.items sdu is.held)
    ∙ ap (λ (x : List ℕ). record (window_value w) { fresh = cut w.agreed.send_mps x }) rest))

-- ---- the segment that was given last

pub latest_is : (w : Inside) (v : WindowValue) (head : Head) (piece : Piece) → window_value w ≡ v → IsWindow w → 0 < w.next → slice_get w.heads.items (w.next - 1) ≡ Some head
    → piece.sar ≡ head.sar → piece.total ≡ head.total → octets_of piece ≡ take head.len (drop (w.place - head.len) w.octets.items)
    → option_map (λ (kept : Kept). kept.segment) (slice_get v.unacked (v.next - 1)) ≡ Some (segment_of_piece piece)
latest_is w v head piece was is some found sar total octets =
    let at : w.place - head.len ≡ size_of (take (w.next - 1) w.heads.items) = omega (arith, begins w head is some found) in
    let own : Segment = segment_at head (drop (size_of (take (w.next - 1) w.heads.items)) w.octets.items) in
    let same : own ≡ segment_of_piece piece = rw (sar, total, octets, at) refl in
    subst (λ (x : WindowValue). option_map (λ (kept : Kept). kept.segment) (slice_get x.unacked (x.next - 1)) ≡ Some (segment_of_piece piece)) was
    (ap (option_map (λ (kept : Kept). kept.segment)) (get-kept_of w.heads.items w.octets.items (w.next - 1) head found) ∙ ap Some same)

-- it fits an I-frame
pub piece_fits : (w : Inside) (head : Head) (piece : Piece) → IsWindow w → 0 < w.next → slice_get w.heads.items (w.next - 1) ≡ Some head → piece.sar ≡ head.sar → piece.total ≡ head.total
    → piece.total < 2 ^ 16 → IsOctets (octets_of piece) → (tx req : ℕ) → tx < 64 → req < 64 → IsInformation tx req piece.sar piece.total (octets_of piece)
piece_fits w head piece is some found sar total small octets tx req tx_fits req_fits =
    let own : IsHead w.agreed.send_mps head = own w head is some found in
    record {
      tx_fits = tx_fits;
      req_fits = req_fits;
      sar_fits = rw sar own.sar;
      total_fits = small;
      stated = λ other. total ∙ own.total (λ e. other (sar ∙ e));
      are_octets = octets;
    }
