-- Whether a machine has a frame to give.
use Rattle.std.proofs.Common.{ℕ, zero, suc, ◌≡◌, ◌≤◌, ◌<◌, Bool, true, false, not, ◌||◌, ◌&&◌, List, [], ◌∷◌, length, refl, sym, ap, ◌∙◌, inl, inr}
use Rattle.std.specs.Prelude.{Option, Some, None, is_some, is_none, slice_get, nat_lt, if◌then◌else◌}
use Rattle.std.proofs.lemmas.Bool.{lt-ltb, le-ltb}
use Rattle.std.proofs.lemmas.Option.{slice_get_cases}
use Rattle.l2cap_config.specs.declared.wish.Agreed.{Agreed}
use Rattle.ertm_frames.specs.Segments.{Segment}
use Rattle.ertm_model.specs.declared.reason.ErtmReason.{ErtmReason}
use Rattle.ertm_model.specs.Value.{Kept, Poll, NoPoll, Due, Waits, Reply, NoReply, Acknowledges, Rejects, Sender, Receiver, Ertm}
use Rattle.ertm_model.specs.Submitting.{is_some_fresh}
use Rattle.ertm_model.specs.Giving.{Giving, PollAnswer, frame_by, new_giving, data_giving, poll_giving, reply_giving, open_giving, giving, next_frame}
use Rattle.ertm_machine.specs.Receivers.{replies}
use Rattle.ertm_machine.specs.Senders.{has_data, has_next_by, has_next}

frame_is : (given : Option Giving) (m : Ertm) → is_some (frame_by given m) ≡ is_some given
frame_is None m = refl
frame_is (Some given) m = refl

is_within : {X : Type 0} (xs : List X) (n : ℕ) → is_some (slice_get xs n) ≡ nat_lt n (length xs)
is_within xs n =
    elim (slice_get_cases xs n).1 [
      | inl (x, lt, some, same) ↦ ap is_some some ∙ sym (lt-ltb n (length xs) lt)
      | inr (le, none) ↦ ap is_some none ∙ sym (le-ltb n (length xs) le)
    ]

new_is : (room : Bool) (fresh : List Segment) → is_some (new_giving room fresh) ≡ (room && is_some_fresh fresh)
new_is true [] = refl
new_is false [] = refl
new_is true (segment ∷ behind) = refl
new_is false (segment ∷ behind) = refl

data_is : (kept : Option Kept) (m : Ertm) → is_some (data_giving kept m) ≡ (is_some kept || (nat_lt (length m.sender.unacked) m.agreed.send_window && is_some_fresh m.sender.fresh))
data_is (Some kept) m = refl
data_is None m = new_is (nat_lt (length m.sender.unacked) m.agreed.send_window) m.sender.fresh

ready_is : (busy : Bool) (given : Option Giving) (test : Bool) → is_some given ≡ test → is_some (if busy then None else given) ≡ (not busy && test)
ready_is true given test e = refl
ready_is false given test e = e

poll_is : (poll : Poll) (m : Ertm) (reserved : Agreed) → is_some (poll_giving poll m) ≡ has_next_by poll (record { reserved = reserved; agreed = m.agreed; sender = m.sender })
poll_is Due m reserved = refl
poll_is Waits m reserved = refl
poll_is NoPoll m reserved =
    ready_is m.sender.busy (data_giving (slice_get m.sender.unacked m.sender.next) m) (has_data m.agreed.send_window m.sender)
    (data_is (slice_get m.sender.unacked m.sender.next) m ∙ ap (λ (b : Bool). b || (nat_lt (length m.sender.unacked) m.agreed.send_window && is_some_fresh m.sender.fresh)) (is_within m.sender.unacked m.sender.next))

reply_is : (reply : Reply) (m : Ertm) (reserved : Agreed) → is_some (reply_giving reply m) ≡ (replies reply || has_next (record { reserved = reserved; agreed = m.agreed; sender = m.sender }))
reply_is Acknowledges m reserved = refl
reply_is Rejects m reserved = refl
reply_is NoReply m reserved = poll_is m.sender.poll m reserved

polled_is : (polled : Bool) (m : Ertm) (reserved : Agreed) → is_some (if polled then Some PollAnswer else reply_giving m.receiver.reply m) ≡ ((polled || replies m.receiver.reply) || has_next (record { reserved = reserved; agreed = m.agreed; sender = m.sender }))
polled_is true m reserved = refl
polled_is false m reserved = reply_is m.receiver.reply m reserved

open_is : (closed : Option ErtmReason) (m : Ertm) (reserved : Agreed)
    → is_some (open_giving closed m) ≡ (is_none closed && ((m.receiver.polled || replies m.receiver.reply) || has_next (record { reserved = reserved; agreed = m.agreed; sender = m.sender })))
open_is (Some reason) m reserved = refl
open_is None m reserved = polled_is m.receiver.polled m reserved

-- a machine that is not closed has a frame to give exactly where its receiver or its sender has
pub gives_is : (m : Ertm) (reserved : Agreed)
    → (is_none m.closed && ((m.receiver.polled || replies m.receiver.reply) || has_next (record { reserved = reserved; agreed = m.agreed; sender = m.sender }))) ≡ is_some (next_frame m)
gives_is m reserved = sym (frame_is (giving m) m ∙ open_is m.closed m reserved)
