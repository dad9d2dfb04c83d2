-- The I-frame that is given is the next one.
use Rattle.std.proofs.Common.{◌≡◌, ℕ, zero, suc, ◌+◌, ◌-◌, ◌%◌, ◌≤◌, ◌<◌, Bool, true, false, List, [], ◌∷◌, ◌++◌, length, refl, sym, ap, subst, ◌∙◌, arith, length-append, inl, inr}
use Rattle.std.specs.Prelude.{is_some, slice_get, Option, Some, None, nat_lt}
use Rattle.std.specs.Option.{option_map}
use Rattle.std.proofs.lemmas.Bool.{cases_Bool}
use Rattle.std.proofs.lemmas.Option.{slice_get_within}
use Rattle.ertm_frames.specs.Frames.{PlainFrame, information}
use Rattle.ertm_frames.specs.Segments.{Segment}
use Rattle.ertm_model.specs.Value.{Kept, Sender, Receiver, Ertm, Poll, NoPoll, Due, Waits, Reply, NoReply, Acknowledges, Rejects}
use Rattle.ertm_model.specs.Giving.{given_again, next_frame, after_frame, data_frame}
use Rattle.ertm_machine.specs.declared.machine.Ertm.TheInside.{Inside}
use Rattle.ertm_machine.specs.declared.piece.Piece.{Piece}
use Rattle.ertm_machine.specs.Pieces.{segment_of_piece, information_of}
use Rattle.ertm_machine.specs.Values.{Machine, SenderValue, ReceiverValue}
use Rattle.ertm_machine.specs.Machines.{machine_value, Writes, WritesNext, Gives}
use Rattle.ertm_machine.specs.Receivers.{own_frame, own_after}
use Rattle.ertm_machine.specs.Senders.{given, given_ready, given_by, given_new, AdvancesTo, Advances}

some_same : {X : Type 0} {x y : X} → Some x ≡ Some y → x ≡ y
some_same {X} {x} {y} e = cc

none_some : {X : Type 0} {x : X} → None ≡ Some x → ⊥
none_some {X} {x} e = cc

pub none_from : {X : Type 0} (x : Option X) → is_some x ≡ false → x ≡ None
none_from None e = refl
none_from (Some x) e = cc

true_false : true ≡ false → ⊥
true_false e = cc

mapped_within : (unacked : List Kept) (place : ℕ) (segment : Segment) → option_map (λ (k : Kept). k.segment) (slice_get unacked place) ≡ Some segment → place < length unacked
mapped_within [] place segment is = cc
mapped_within (first ∷ behind) zero segment is = omega arith
mapped_within (first ∷ behind) (suc place) segment is = omega (arith, mapped_within behind place segment is)

-- the segment at a place, where it was given once more
again_at : (unacked : List Kept) (place : ℕ) (kept : Kept) → slice_get unacked place ≡ Some kept
    → option_map (λ (k : Kept). k.segment) (slice_get (given_again place unacked) place) ≡ Some kept.segment
again_at [] place kept is = cc
again_at (first ∷ behind) zero kept is = let e : first ≡ kept = cc in ap (λ (k : Kept). Some k.segment) e
again_at (first ∷ behind) (suc place) kept is = again_at behind place kept is

-- the segment that came into the window stands at its end
none_past : (unacked : List Kept) (place : ℕ) → slice_get unacked place ≡ None → length unacked ≤ place
none_past [] place is = omega arith
none_past (first ∷ behind) zero is = cc
none_past (first ∷ behind) (suc place) is = omega (arith, none_past behind place is)

at_end : (unacked : List Kept) (kept : Kept) → slice_get (unacked ++ kept ∷ []) (length unacked) ≡ Some kept
at_end [] kept = refl
at_end (first ∷ behind) kept = at_end behind kept

-- ---- nothing else is given before

own_none : (polled : Bool) (reply : Reply) (req : ℕ) → own_frame polled reply req ≡ None → (polled ≡ false) × (reply ≡ NoReply)
own_none true reply req is = cc
own_none false NoReply req is = (refl, refl)
own_none false Acknowledges req is = cc
own_none false Rejects req is = cc

same_receiver : (r : Receiver) → r.reply ≡ NoReply → record r { reply = NoReply } ≡ r
same_receiver r none = ap (λ (x : Reply). record r { reply = x }) (sym none)

-- ---- the frame, and the machine after it

abbrev pub IsGiven : Ertm → Sender → (tx : ℕ) → Segment → Type 0
IsGiven m after tx segment =
    (next_frame m ≡ Some (information tx false m.receiver.expected segment.sar segment.total segment.octets)) × (after_frame m ≡ record m { sender = after })

module _ (m : Ertm) (after : Sender) (tx : ℕ) (segment : Segment) (open_ : m.closed ≡ None) (answered : m.receiver.polled ≡ false) (silent : m.receiver.reply ≡ NoReply)
    (unpolled : m.sender.poll ≡ NoPoll) (ready : m.sender.busy ≡ false)
    (shown : option_map (λ (k : Kept). k.segment) (slice_get after.unacked (after.next - 1)) ≡ Some segment)
    (number : tx ≡ (after.first + (after.next - 1)) % 64) where
  back_one : (n : ℕ) → n + 1 - 1 ≡ n
  back_one n = omega arith

  given_again_is : (kept : Kept) → slice_get m.sender.unacked m.sender.next ≡ Some kept → after ≡ record m.sender { unacked = given_again m.sender.next m.sender.unacked; next = m.sender.next + 1 }
      → IsGiven m after tx segment
  given_again_is kept found is =
      let own : kept.segment ≡ segment =
      some_same (sym (again_at m.sender.unacked m.sender.next kept found)
      ∙ ap (λ (n : ℕ). option_map (λ (k : Kept). k.segment) (slice_get (given_again m.sender.next m.sender.unacked) n)) (sym (back_one m.sender.next))
      ∙ ap (λ (x : Sender). option_map (λ (k : Kept). k.segment) (slice_get x.unacked (x.next - 1))) (sym is) ∙ shown) in
      let at : tx ≡ (m.sender.first + m.sender.next) % 64 =
      number ∙ ap (λ (x : Sender). (x.first + (x.next - 1)) % 64) is ∙ ap (λ (n : ℕ). (m.sender.first + n) % 64) (back_one m.sender.next) in
      (rw (at, ← own, open_, answered, silent, unpolled, ready, found) refl, rw (is, open_, answered, silent, unpolled, ready, found) refl)

  given_new_is : (fresh : Segment) (behind : List Segment) → slice_get m.sender.unacked m.sender.next ≡ None → nat_lt (length m.sender.unacked) m.agreed.send_window ≡ true
      → m.sender.fresh ≡ fresh ∷ behind
      → after ≡ record m.sender { unacked = m.sender.unacked ++ record { segment = fresh; given = 1 } ∷ []; next = m.sender.next + 1; fresh = behind } → IsGiven m after tx segment
  given_new_is fresh behind none room waits is =
      let end : List Kept = m.sender.unacked ++ record { segment = fresh; given = 1 } ∷ [] in
      let there : option_map (λ (k : Kept). k.segment) (slice_get end m.sender.next) ≡ Some segment =
      ap (λ (n : ℕ). option_map (λ (k : Kept). k.segment) (slice_get end n)) (sym (back_one m.sender.next))
      ∙ ap (λ (x : Sender). option_map (λ (k : Kept). k.segment) (slice_get x.unacked (x.next - 1))) (sym is) ∙ shown in
      let within : m.sender.next < length end = mapped_within end m.sender.next segment there in
      let place : length m.sender.unacked ≡ m.sender.next =
      omega (arith, none_past m.sender.unacked m.sender.next none, length-append m.sender.unacked (record { segment = fresh; given = 1 } ∷ [])) in
      let own : fresh ≡ segment =
      some_same (sym (ap (option_map (λ (k : Kept). k.segment)) (ap (slice_get end) (sym place) ∙ at_end m.sender.unacked (record { segment = fresh; given = 1 }))) ∙ there) in
      let at : tx ≡ (m.sender.first + m.sender.next) % 64 =
      number ∙ ap (λ (x : Sender). (x.first + (x.next - 1)) % 64) is ∙ ap (λ (n : ℕ). (m.sender.first + n) % 64) (back_one m.sender.next) in
      (rw (at, ← own, open_, answered, silent, unpolled, ready, none, room, waits) refl, rw (is, open_, answered, silent, unpolled, ready, none, room, waits) refl)

  found_is : (found : Option Kept) (room : Bool) (fresh : List Segment) → slice_get m.sender.unacked m.sender.next ≡ found → nat_lt (length m.sender.unacked) m.agreed.send_window ≡ room
      → m.sender.fresh ≡ fresh → given_by found m.agreed.send_window m.sender ≡ Some after → IsGiven m after tx segment
  found_is (Some kept) room fresh found left waits is = given_again_is kept found (sym (some_same is))
  found_is None true [] none left waits is = absurd (none_some (rw (left, waits) at is))
  found_is None true (first ∷ behind) none left waits is = given_new_is first behind none left waits (sym (some_same (rw (left, waits) at is)))
  found_is None false fresh none left waits is = absurd (none_some (rw left at is))

ready_is : (poll : Poll) (busy : Bool) (s after : Sender) (size : ℕ) → s.busy ≡ busy → given poll size s ≡ Some after
    → (poll ≡ NoPoll) × (busy ≡ false) × (given_by (slice_get s.unacked s.next) size s ≡ Some after)
ready_is NoPoll true s after size busy is = absurd (none_some (rw busy at is))
ready_is NoPoll false s after size ready is = (refl, refl, subst (λ (b : Bool). given_ready b size s ≡ Some after) ready is)
ready_is Due busy s after size ready is = absurd (none_some is)
ready_is Waits busy s after size ready is = absurd (none_some is)

moved_is : (found : Option Sender) (old new : SenderValue) → AdvancesTo found old true new → (after : Sender) × (found ≡ Some after) × (new ≡ record old { sender = after })
moved_is None old new (moved, same) = absurd (true_false moved)
moved_is (Some after) old new (moved, is) = (after, refl, is)

-- the I-frame that is written is the next frame
pub gives_data : (w : Inside) (v : Machine) (cid tx req count : ℕ) (before behind : List ℕ) (piece : Piece) (r : ReceiverValue) (s : SenderValue) → machine_value w ≡ v → w.closed ≡ None
    → own_frame w.receiver.receiver.polled w.receiver.receiver.reply w.receiver.receiver.expected ≡ None
    → r ≡ record w.receiver { receiver = own_after w.receiver.receiver.polled w.receiver.receiver } → Advances w.sender true s
    → tx ≡ (s.sender.first + (s.sender.next - 1)) % 64 → option_map (λ (k : Kept). k.segment) (slice_get s.sender.unacked (s.sender.next - 1)) ≡ Some (segment_of_piece piece)
    → req ≡ w.receiver.receiver.expected → Writes cid (information_of tx req piece) before count behind
    → Gives v cid before (Some count) (machine_value (record w { sender = s; receiver = r })) behind
gives_data w v cid tx req count before behind piece r s was open_ none r_is moved number shown req_is writes =
    let m : Ertm = (machine_value w).ertm in
    let (answered, silent) = own_none m.receiver.polled m.receiver.reply m.receiver.expected none in
    let (after, is, s_is) = moved_is (given m.sender.poll m.agreed.send_window m.sender) w.sender s moved in
    let (unpolled, ready, by) = ready_is m.sender.poll m.sender.busy m.sender after m.agreed.send_window refl is in
    let shown_after = subst (λ (x : SenderValue). option_map (λ (k : Kept). k.segment) (slice_get x.sender.unacked (x.sender.next - 1)) ≡ Some (segment_of_piece piece)) s_is shown in
    let number_after = subst (λ (x : SenderValue). tx ≡ (x.sender.first + (x.sender.next - 1)) % 64) s_is number in
    let (frame, done) =
    found_is m after tx (segment_of_piece piece) open_ answered silent unpolled ready shown_after number_after (slice_get m.sender.unacked m.sender.next)
    (nat_lt (length m.sender.unacked) m.agreed.send_window) m.sender.fresh refl refl refl by in
    let same : r ≡ w.receiver =
    r_is ∙ ap (λ (b : Bool). record w.receiver { receiver = own_after b w.receiver.receiver }) answered ∙ ap (λ (x : Receiver). record w.receiver { receiver = x }) (same_receiver w.receiver.receiver silent) in
    let value : machine_value (record w { sender = s; receiver = r }) ≡ record (machine_value w) { ertm = after_frame m } =
    ap (λ (x : ReceiverValue). machine_value (record w { sender = s; receiver = x })) same ∙ ap (λ (x : SenderValue). machine_value (record w { sender = x })) s_is
    ∙ ap (λ (x : Ertm). record (machine_value w) { ertm = x }) (sym done) in
    let next : next_frame m ≡ Some (information_of tx req piece) = frame ∙ ap (λ (n : ℕ). Some (information_of tx n piece)) (sym req_is) in
    subst (λ (x : Machine). Gives x cid before (Some count) (machine_value (record w { sender = s; receiver = r })) behind) was
    (record { frame = subst (λ (f : Option PlainFrame). WritesNext f cid before (Some count) behind) (sym next) (count, refl, writes); after = value })
