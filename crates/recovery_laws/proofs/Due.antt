-- The frames that an end has to give at once, before any that is new; and those on their way with them.
use Rattle.std.proofs.Common.{ℕ, zero, suc, ◌≡◌, ◌+◌, inl, inr, Bool, true, false, List, [], ◌∷◌, ◌++◌, length, drop, Some, None, refl, ap, sym, ◌∙◌, arith, length-append}
use Rattle.std.specs.Prelude.{slice_get, ◌%◌}
use Rattle.std.proofs.lemmas.List.{append_assoc, drop_all}
use Rattle.std.proofs.lemmas.Bool.{both_ways}
use Rattle.ertm_frames.specs.Segments.{Segment}
use Rattle.ertm_frames.specs.declared.frame.SKind.{SKind}
use Rattle.ertm_frames.specs.declared.frame.SKind.TheVariants.{Rr, Rej}
use Rattle.ertm_frames.specs.Frames.{PlainFrame, information, supervisory}
use Rattle.ertm_model.specs.Submitting.{cut}
use Rattle.ertm_model.specs.Value.{Sender, Kept, Poll, NoPoll, Due, Waits, Reply, NoReply, Acknowledges, Rejects}
use Rattle.ertm_model.specs.Giving.{Giving, PollAnswer, Acknowledgement, Rejection, Polling, Again, New, next_number, data_frame, given_frame, given_again, giving}
use Rattle.ertm_model.specs.Pair.{Sent, End, acknowledged_by, accepted_by, gave, took}
use Rattle.ertm_model.proofs.Lists.{get-none, again-length}
use Rattle.ertm_model.proofs.Inverting.{IsFree, Gives}
use Rattle.ertm_model.proofs.Resting.{at_rest, silent}

-- ---- what is due

-- what an end gives
abbrev pub sent_by : Giving → End → Sent
sent_by given e = record { frame = given_frame given e.machine; number = acknowledged_by e + e.machine.sender.next; asks = accepted_by e }

-- the frames that are given again, one after the other
abbrev pub repeated : List Kept → End → List Sent
repeated [] e = []
repeated (kept ∷ more) e = sent_by (Again kept) e ∷ repeated more (gave (Some (Again kept)) e)

abbrev pub due_data : Poll → End → List Sent
due_data NoPoll e = repeated (drop e.machine.sender.next e.machine.sender.unacked) e
due_data Due e = sent_by Polling e ∷ []
due_data Waits e = []

abbrev pub due_reply : Reply → End → List Sent
due_reply NoReply e = due_data e.machine.sender.poll e
due_reply Acknowledges e = sent_by Acknowledgement e ∷ due_data e.machine.sender.poll (gave (Some Acknowledgement) e)
due_reply Rejects e = sent_by Rejection e ∷ due_data e.machine.sender.poll (gave (Some Rejection) e)

abbrev pub due_answer : Bool → End → List Sent
due_answer true e = sent_by PollAnswer e ∷ due_reply e.machine.receiver.reply (gave (Some PollAnswer) e)
due_answer false e = due_reply e.machine.receiver.reply e

abbrev pub due : End → List Sent
due e = due_answer e.machine.receiver.polled e

-- the frames on their way, with those that are due
abbrev pub under_way : End → List Sent
under_way e = e.queue ++ due e

-- ---- lists

drop_at : (n : ℕ) (unacked : List Kept) (kept : Kept) → slice_get unacked n ≡ Some kept → drop n unacked ≡ kept ∷ drop (n + 1) unacked
drop_at n [] kept is = cc
drop_at zero (first ∷ unacked) kept is = cc
drop_at (suc n) (first ∷ unacked) kept is = let e : suc n + 1 ≡ suc (n + 1) = omega arith in rw e (drop_at n unacked kept is)

drop_again : (n : ℕ) (unacked : List Kept) → drop (n + 1) (given_again n unacked) ≡ drop (n + 1) unacked
drop_again n [] = refl
drop_again zero (first ∷ unacked) = refl
drop_again (suc n) (first ∷ unacked) = let e : suc n + 1 ≡ suc (n + 1) = omega arith in rw e (drop_again n unacked)

-- ---- a frame that was due is given

moved : (e : End) (given : Giving) (rest : List Sent) → due e ≡ sent_by given e ∷ rest → due (gave (Some given) e) ≡ rest → under_way (gave (Some given) e) ≡ under_way e
moved e given rest before after = rw (before, after) (append_assoc e.queue (sent_by given e ∷ []) rest)

-- without an S-frame that is due
pub due-quiet : (e : End) → e.machine.receiver.polled ≡ false → e.machine.receiver.reply ≡ NoReply → due e ≡ due_data e.machine.sender.poll e
due-quiet e unpolled unreplied = rw (unpolled, unreplied) refl

-- or a poll
pub due-free : (e : End) → e.machine.receiver.polled ≡ false → e.machine.receiver.reply ≡ NoReply → e.machine.sender.poll ≡ NoPoll → due e ≡ repeated (drop e.machine.sender.next e.machine.sender.unacked) e
due-free e unpolled unreplied no_poll = rw (unpolled, unreplied, no_poll) refl

-- none but a new frame changes what is under way
abbrev pub IsDue : Giving → Type 0
IsDue PollAnswer = Unit {0}
IsDue Acknowledgement = Unit {0}
IsDue Rejection = Unit {0}
IsDue Polling = Unit {0}
IsDue (Again kept) = Unit {0}
IsDue (New segment behind) = ⊥

pub gave-due : (e : End) (given : Giving) → IsDue given → Gives e.machine (Some given) → under_way (gave (Some given) e) ≡ under_way e
gave-due e PollAnswer is (open_, polled) = moved e PollAnswer (due_reply e.machine.receiver.reply (gave (Some PollAnswer) e)) (rw polled refl) refl
gave-due e Acknowledgement is (open_, unpolled, replies) =
    moved e Acknowledgement (due_data e.machine.sender.poll (gave (Some Acknowledgement) e)) (rw (unpolled, replies) refl) (due-quiet (gave (Some Acknowledgement) e) unpolled refl)
gave-due e Rejection is (open_, unpolled, replies) =
    moved e Rejection (due_data e.machine.sender.poll (gave (Some Rejection) e)) (rw (unpolled, replies) refl) (due-quiet (gave (Some Rejection) e) unpolled refl)
gave-due e Polling is (quiet, polls) = moved e Polling [] (rw (quiet.unpolled, quiet.unreplied, polls) refl) (due-quiet (gave (Some Polling) e) quiet.unpolled quiet.unreplied)
gave-due e (Again kept) is (free, here) =
    let after : End = gave (Some (Again kept)) e in
    let rest : List Kept = drop (e.machine.sender.next + 1) e.machine.sender.unacked in
    moved e (Again kept) (repeated rest after)
    (due-free e free.quiet.unpolled free.quiet.unreplied free.no_poll ∙ ap (λ (l : List Kept). repeated l e) (drop_at e.machine.sender.next e.machine.sender.unacked kept here))
    (due-free after free.quiet.unpolled free.quiet.unreplied free.no_poll ∙ ap (λ (l : List Kept). repeated l after) (drop_again e.machine.sender.next e.machine.sender.unacked))
gave-due e (New segment behind) is why = absurd is

-- before a new one, and behind it, none is due
pub none-due : (e : End) → IsFree e.machine → slice_get e.machine.sender.unacked e.machine.sender.next ≡ None → due e ≡ []
none-due e free none =
    due-free e free.quiet.unpolled free.quiet.unreplied free.no_poll
    ∙ ap (λ (l : List Kept). repeated l e) (drop_all e.machine.sender.next e.machine.sender.unacked (get-none e.machine.sender.unacked e.machine.sender.next none))

pub none-due_new : (e : End) (segment : Segment) (behind : List Segment) → IsFree e.machine → slice_get e.machine.sender.unacked e.machine.sender.next ≡ None → due (gave (Some (New segment behind)) e) ≡ []
none-due_new e segment behind free none =
    let after : End = gave (Some (New segment behind)) e in
    let far = get-none e.machine.sender.unacked e.machine.sender.next none in
    let long = length-append e.machine.sender.unacked (record { segment = segment; given = 1 } ∷ []) in
    due-free after free.quiet.unpolled free.quiet.unreplied free.no_poll
    ∙ ap (λ (l : List Kept). repeated l after) (drop_all (e.machine.sender.next + 1) after.machine.sender.unacked (omega arith))

-- where an end has nothing to give, nothing is due
pub silent-due : (e : End) → e.machine.closed ≡ None → e.machine.sender.busy ≡ false → giving e.machine ≡ None → due e ≡ []
silent-due e open_ ready is =
    let rest = at_rest e.machine open_ (silent e.machine is) in
    elim rest.rests [
      | inl waits ↦ due-quiet e rest.quiet.unpolled rest.quiet.unreplied ∙ ap (λ (p : Poll). due_data p e) waits
      | inr (no_poll, inl busy) ↦ absurd (both_ways e.machine.sender.busy ready busy)
      | inr (no_poll, inr (ready_, spent)) ↦ none-due e (record { quiet = rest.quiet; no_poll = no_poll; ready = ready }) spent.at_end
    ]

-- ---- what is due hangs on little of an end

pub same-acknowledged : (e : End) (kept : Kept) → acknowledged_by (gave (Some (Again kept)) e) ≡ acknowledged_by e
same-acknowledged e kept = let long = again-length e.machine.sender.next e.machine.sender.unacked in omega arith

record AreAlike (e f : End) : Type 0 where
  first : e.machine.sender.first ≡ f.machine.sender.first
  next : e.machine.sender.next ≡ f.machine.sender.next
  unacked : e.machine.sender.unacked ≡ f.machine.sender.unacked
  expected : e.machine.receiver.expected ≡ f.machine.receiver.expected
  acknowledged_is : acknowledged_by e ≡ acknowledged_by f
  accepted_is : accepted_by e ≡ accepted_by f

same_sent : (given : Giving) (e f : End) → given_frame given e.machine ≡ given_frame given f.machine → AreAlike e f → sent_by given e ≡ sent_by given f
same_sent given e f frame h =
    ap (λ (g : PlainFrame). record { frame = g; number = acknowledged_by e + e.machine.sender.next; asks = accepted_by e }) frame
    ∙ ap (λ (n : ℕ). record { frame = given_frame given f.machine; number = n; asks = accepted_by e }) (let a = h.acknowledged_is in let b = h.next in omega arith)
    ∙ ap (λ (c : ℕ). record { frame = given_frame given f.machine; number = acknowledged_by f + f.machine.sender.next; asks = c }) h.accepted_is

s_frame_same : (kind : SKind) (poll final : Bool) (e f : End) → AreAlike e f → supervisory kind poll final e.machine.receiver.expected ≡ supervisory kind poll final f.machine.receiver.expected
s_frame_same kind poll final e f h = ap (λ (n : ℕ). supervisory kind poll final n) h.expected

i_frame_same : (segment : Segment) (e f : End) → AreAlike e f → data_frame segment e.machine ≡ data_frame segment f.machine
i_frame_same segment e f h =
    ap (λ (n : ℕ). information ((n + e.machine.sender.next) % 64) false e.machine.receiver.expected segment.sar segment.total segment.octets) h.first
    ∙ ap (λ (n : ℕ). information ((f.machine.sender.first + n) % 64) false e.machine.receiver.expected segment.sar segment.total segment.octets) h.next
    ∙ ap (λ (n : ℕ). information (next_number f.machine) false n segment.sar segment.total segment.octets) h.expected

repeated_same : (kepts : List Kept) (e f : End) → AreAlike e f → repeated kepts e ≡ repeated kepts f
repeated_same [] e f h = refl
repeated_same (kept ∷ more) e f h =
    ap (λ (s : Sent). s ∷ repeated more (gave (Some (Again kept)) e)) (same_sent (Again kept) e f (i_frame_same kept.segment e f h) h)
    ∙ ap (λ (l : List Sent). sent_by (Again kept) f ∷ l) (repeated_same more (gave (Some (Again kept)) e) (gave (Some (Again kept)) f) (record {
      first = h.first;
      next = ap (λ (n : ℕ). n + 1) h.next;
      unacked = ap (λ (l : List Kept). given_again e.machine.sender.next l) h.unacked ∙ ap (λ (n : ℕ). given_again n f.machine.sender.unacked) h.next;
      expected = h.expected;
      acknowledged_is = same-acknowledged e kept ∙ h.acknowledged_is ∙ sym (same-acknowledged f kept);
      accepted_is = h.accepted_is;
    }))

data_same : (poll : Poll) (e f : End) → AreAlike e f → due_data poll e ≡ due_data poll f
data_same NoPoll e f h =
    ap (λ (l : List Kept). repeated l e) (ap (λ (n : ℕ). drop n e.machine.sender.unacked) h.next ∙ ap (λ (l : List Kept). drop f.machine.sender.next l) h.unacked)
    ∙ repeated_same (drop f.machine.sender.next f.machine.sender.unacked) e f h
data_same Due e f h = ap (λ (s : Sent). s ∷ []) (same_sent Polling e f (s_frame_same Rr true false e f h) h)
data_same Waits e f h = refl

alike_on : (e f after other : End) → AreAlike e f → after.machine.sender ≡ e.machine.sender → other.machine.sender ≡ f.machine.sender → after.machine.receiver.expected ≡ e.machine.receiver.expected → other.machine.receiver.expected ≡ f.machine.receiver.expected
    → acknowledged_by after ≡ acknowledged_by e → acknowledged_by other ≡ acknowledged_by f → accepted_by after ≡ accepted_by e → accepted_by other ≡ accepted_by f → AreAlike after other
alike_on e f after other h sender_is sender_is' expected_is expected_is' acknowledged_is acknowledged_is' accepted_is accepted_is' = record {
  first = ap (λ (s : Sender). s.first) sender_is ∙ h.first ∙ sym (ap (λ (s : Sender). s.first) sender_is');
  next = ap (λ (s : Sender). s.next) sender_is ∙ h.next ∙ sym (ap (λ (s : Sender). s.next) sender_is');
  unacked = ap (λ (s : Sender). s.unacked) sender_is ∙ h.unacked ∙ sym (ap (λ (s : Sender). s.unacked) sender_is');
  expected = expected_is ∙ h.expected ∙ sym expected_is';
  acknowledged_is = acknowledged_is ∙ h.acknowledged_is ∙ sym acknowledged_is';
  accepted_is = accepted_is ∙ h.accepted_is ∙ sym accepted_is';
}

poll_same : (e f : End) → e.machine.sender.poll ≡ f.machine.sender.poll → AreAlike e f → due_data e.machine.sender.poll e ≡ due_data f.machine.sender.poll f
poll_same e f is h = ap (λ (p : Poll). due_data p e) is ∙ data_same f.machine.sender.poll e f h

reply_same : (reply : Reply) (e f : End) → e.machine.sender.poll ≡ f.machine.sender.poll → AreAlike e f → due_reply reply e ≡ due_reply reply f
reply_same NoReply e f is h = poll_same e f is h
reply_same Acknowledges e f is h =
    let after = alike_on e f (gave (Some Acknowledgement) e) (gave (Some Acknowledgement) f) h refl refl refl refl refl refl refl refl in
    ap (λ (s : Sent). s ∷ due_data e.machine.sender.poll (gave (Some Acknowledgement) e)) (same_sent Acknowledgement e f (s_frame_same Rr false false e f h) h)
    ∙ ap (λ (l : List Sent). sent_by Acknowledgement f ∷ l) (poll_same (gave (Some Acknowledgement) e) (gave (Some Acknowledgement) f) is after)
reply_same Rejects e f is h =
    let after = alike_on e f (gave (Some Rejection) e) (gave (Some Rejection) f) h refl refl refl refl refl refl refl refl in
    ap (λ (s : Sent). s ∷ due_data e.machine.sender.poll (gave (Some Rejection) e)) (same_sent Rejection e f (s_frame_same Rej false false e f h) h)
    ∙ ap (λ (l : List Sent). sent_by Rejection f ∷ l) (poll_same (gave (Some Rejection) e) (gave (Some Rejection) f) is after)

said_same : (e f : End) → e.machine.receiver.reply ≡ f.machine.receiver.reply → e.machine.sender.poll ≡ f.machine.sender.poll → AreAlike e f → due_reply e.machine.receiver.reply e ≡ due_reply f.machine.receiver.reply f
said_same e f is poll_is h = ap (λ (r : Reply). due_reply r e) is ∙ reply_same f.machine.receiver.reply e f poll_is h

answer_same : (polled : Bool) (e f : End) → e.machine.receiver.reply ≡ f.machine.receiver.reply → e.machine.sender.poll ≡ f.machine.sender.poll → AreAlike e f → due_answer polled e ≡ due_answer polled f
answer_same true e f is poll_is h =
    let after = alike_on e f (gave (Some PollAnswer) e) (gave (Some PollAnswer) f) h refl refl refl refl refl refl refl refl in
    ap (λ (s : Sent). s ∷ due_reply e.machine.receiver.reply (gave (Some PollAnswer) e)) (same_sent PollAnswer e f (s_frame_same Rr false true e f h) h)
    ∙ ap (λ (l : List Sent). sent_by PollAnswer f ∷ l) (said_same (gave (Some PollAnswer) e) (gave (Some PollAnswer) f) is poll_is after)
answer_same false e f is poll_is h = said_same e f is poll_is h

-- an SDU that is taken changes nothing of it
pub took-due : (e : End) (sdu : List ℕ) → e.machine.sender.fresh ≡ [] → due (took sdu e) ≡ due e
took-due e sdu none =
    let long = length-append e.put (cut e.machine.agreed.send_mps sdu) in
    let none_ = ap length none in
    answer_same e.machine.receiver.polled (took sdu e) e refl refl
    (record { first = refl; next = refl; unacked = refl; expected = refl; acknowledged_is = omega arith; accepted_is = refl })
