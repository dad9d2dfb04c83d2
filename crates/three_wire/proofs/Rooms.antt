-- The rooms of an end, and the units that they keep.
use Rattle.std.proofs.Common.{◌≡◌, eqb, ℕ, inl, inr, length-append, zero, suc, max, slice_get, subst, ◌+◌, ◌-◌, ◌%◌, ◌<◌, ◌≤◌, true, false, List, [], ◌∷◌, ◌++◌, map, length, take, drop, get_or, All, Some, None, leb, refl, sym, ap, ◌∙◌, arith}
use Rattle.std.proofs.lemmas.List.{take-append-le, drop-take, length-drop, drop-map, length-map, length-take, get_or_append_left, get_or-append_right, get_or-drop, get_or-take}
use Rattle.std.proofs.lemmas.Bool.{le-leb, lt-leb, cases_lt}
use Rattle.std.proofs.lemmas.Option.{slice_get_past, slice_get_within, get_or_from_slice_get}
use Rattle.wire_model.specs.declared.link.LinkMessage.{LinkMessage}
use Rattle.wire_model.specs.declared.link.Stage.TheVariants.{Active}
use Rattle.wire_model.specs.Machine.{Wire, Unit, past, hears_ack, says, unit_packet, ack_packet, link_packet, is_reset}
use Rattle.three_wire.specs.declared.held.Held.{Held}
use Rattle.three_wire.specs.Held.{unit_of, units_of, IsUnit}

-- rooms whose units are acknowledged go behind the others
pub rotated : (k count : ℕ) (rooms rooms' : List Held) → k ≤ count → count ≤ length rooms → rooms' ≡ drop k rooms ++ take k rooms → units_of (count - k) rooms' ≡ drop k (units_of count rooms)
rotated k count rooms rooms' le fits is =
    let n : count ≡ k + (count - k) = omega arith in
    ap (λ (rs : List Held). map unit_of (take (count - k) rs)) is
    ∙ ap (map unit_of) (take-append-le (count - k) (drop k rooms) (take k rooms) (rw (length-drop k rooms) (omega arith)))
    ∙ ap (map unit_of) (sym (drop-take k (count - k) rooms) ∙ ap (λ (m : ℕ). drop k (take m rooms)) (sym n))
    ∙ sym (drop-map unit_of k (take count rooms))

-- an AckNo that acknowledges, and one that does not
pub acked : (w : Wire) (ack k next' : ℕ) (units' : List Unit) → k ≡ past w.first ack → k ≤ w.given → units' ≡ drop k w.unacked → next' ≡ w.next - k
    → record w { first = (w.first + k) % 8; unacked = units'; given = w.given - k; next = next' } ≡ hears_ack ack w
acked w ack k next' units' is le units nexts =
    let test : leb (past w.first ack) w.given ≡ true = le-leb (past w.first ack) w.given (omega arith) in
    rw test (ap (λ (j : ℕ). record w { first = (w.first + j) % 8; unacked = units'; given = w.given - j; next = next' }) is
    ∙ ap (λ (us : List Unit). record w { first = (w.first + past w.first ack) % 8; unacked = us; given = w.given - past w.first ack; next = next' }) (units ∙ ap (λ (j : ℕ). drop j w.unacked) is)
    ∙ ap (λ (n : ℕ). record w { first = (w.first + past w.first ack) % 8; unacked = drop (past w.first ack) w.unacked; given = w.given - past w.first ack; next = n }) (nexts ∙ ap (λ (j : ℕ). w.next - j) is))

pub not_acked : (w : Wire) (ack : ℕ) → w.given < past w.first ack → w ≡ hears_ack ack w
not_acked w ack lt = rw (lt-leb (past w.first ack) w.given lt) refl

-- the unit in a room that is in use
pub kept : (rooms : List Held) (count i : ℕ) (held : Held) → i < count → count ≤ length rooms → held ≡ get_or rooms i held → slice_get (units_of count rooms) i ≡ Some (unit_of held)
kept [] count i held lt fits is = absurd (omega arith)
kept (room ∷ rooms) zero i held lt fits is = absurd (omega arith)
kept (room ∷ rooms) (suc count) zero held lt fits is = ap (λ (h : Held). Some (unit_of h)) (sym is)
kept (room ∷ rooms) (suc count) (suc i) held lt fits is = kept rooms count i held (omega arith) (omega arith) is

pub unit_at : (units : List Unit) (i : ℕ) (unit : Unit) → All IsUnit units → slice_get units i ≡ Some unit → IsUnit unit
unit_at units i unit all is = subst IsUnit (get_or_from_slice_get units i unit unit is) (all i unit (slice_get_within units i unit is))

-- what an active end says where no link control waits
pub says_next : (w : Wire) (unit : Unit) → w.stage ≡ Active → w.waiting ≡ [] → slice_get w.unacked w.next ≡ Some unit
    → says w ≡ Some (record { packet = unit_packet ((w.first + w.next) % 8) w.expected unit; after = record w { given = max w.given (w.next + 1); next = w.next + 1; answers = false } })
says_next w unit active none at = rw (active, none, at) refl

pub says_answer : (w : Wire) → w.stage ≡ Active → w.waiting ≡ [] → length w.unacked ≤ w.next → w.answers ≡ true → says w ≡ Some (record { packet = ack_packet w.expected; after = record w { answers = false } })
says_answer w active none past-all due = rw (active, none, slice_get_past w.unacked w.next past-all, due) refl

pub says_none : (w : Wire) → w.stage ≡ Active → w.waiting ≡ [] → length w.unacked ≤ w.next → w.answers ≡ false → says w ≡ None
says_none w active none past-all due = rw (active, none, slice_get_past w.unacked w.next past-all, due) refl

pub says_message : (w : Wire) (message : LinkMessage) (rest : List LinkMessage) → is_reset w.stage ≡ false → w.waiting ≡ message ∷ rest → says w ≡ Some (record { packet = link_packet message; after = record w { waiting = rest } })
says_message w message rest sound first = rw (sound, first) refl

pub units_length : (count : ℕ) (rooms : List Held) → length (units_of count rooms) ≤ count
units_length count rooms = rw (length-map (take count rooms) unit_of, length-take count rooms) (omega arith)

-- what holds of each holds of them in another order
pub all_rotated : {X : Type 0} (P : X → Type 0) (k : ℕ) (xs ys : List X) → k ≤ length xs → ys ≡ drop k xs ++ take k xs → All P xs → All P ys
all_rotated P k xs ys le is all = subst (All P) (sym is) (λ i d lt. elim (cases_lt i (length (drop k xs))) [
  | inl below ↦ rw (get_or_append_left (drop k xs) (take k xs) d i below, get_or-drop k xs i d) (all (k + i) d (omega (arith, length-drop k xs)))
  | inr above ↦ let j : i - length (drop k xs) < k = omega (arith, length-append (drop k xs) (take k xs), length-take k xs, lt) in
      rw (get_or-append_right (drop k xs) (take k xs) (length (drop k xs)) i d refl above, get_or-take k xs (i - length (drop k xs)) d j) (all (i - length (drop k xs)) d (omega arith))
])

pub all_dropped : {X : Type 0} (P : X → Type 0) (k : ℕ) (xs : List X) → All P xs → All P (drop k xs)
all_dropped P k xs all = λ i d lt. rw (get_or-drop k xs i d) (all (k + i) d (omega (arith, length-drop k xs, lt)))

-- the first of some messages, and the others
pub first_rest : (messages messages' : List LinkMessage) (message : LinkMessage) → eqb (length messages) 0 ≡ false → message ≡ get_or messages 0 message → messages' ≡ drop 1 messages → messages ≡ message ∷ messages'
first_rest [] messages' message some is rest = absurd cc
first_rest (m ∷ ms) messages' message some is rest = ap (λ (x : LinkMessage). x ∷ ms) (sym is) ∙ ap (λ xs. message ∷ xs) (sym rest)
