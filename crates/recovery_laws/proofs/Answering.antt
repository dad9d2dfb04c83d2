-- What an end that has nothing to give makes of the front frame as a receiver: what it answers, and the direction in which
-- the frame went.
use Rattle.std.proofs.Common.{ℕ, ◌≡◌, ◌+◌, ◌<◌, ◌≤◌, ◌⊎◌, inl, inr, Bool, true, false, cond, List, [], ◌∷◌, ◌++◌, length, Some, None, refl, ap, subst, arith, append-nil, length-append}
use Rattle.std.specs.Prelude.{◌||◌}
use Rattle.std.specs.List.{AllByRecursion}
use Rattle.ertm_frames.specs.declared.frame.SKind.{SKind}
use Rattle.ertm_frames.specs.Frames.{PlainFrame, information, supervisory}
use Rattle.ertm_frames.specs.Segments.{Segment}
use Rattle.ertm_model.specs.Value.{NoReply, Rejects, Sender, Receiver}
use Rattle.ertm_model.specs.Giving.{PollAnswer, Acknowledgement, Rejection}
use Rattle.ertm_model.specs.Hearing.{Place, Expected, Ahead, Other, place_in, placed_after, segment_of, sender_after, sdu_in}
use Rattle.ertm_model.specs.Pair.{Sent, End, accepted_by, given_by, gave, placed_segment, listed, hearing_by}
use Rattle.ertm_model.proofs.Spending.{IsPlaced}
use Rattle.ertm_model.specs.Order.{IsBelow}
use Rattle.ertm_model.proofs.Accepting.{PlaceIs, at, ahead, behind}
use Rattle.recovery_laws.specs.Number.{Direction, weight, weights, number_in}
use Rattle.recovery_laws.specs.Facts.{IsSound}
use Rattle.recovery_laws.proofs.Putting.{Goes}
use Rattle.recovery_laws.proofs.Receiving.{goes, accepts-goes, rejects-goes, gone-goes, passed-goes, answers-goes}
use Rattle.recovery_laws.proofs.Due.{sent_by, due_data, due, under_way}
use Rattle.recovery_laws.proofs.Speaking.{under}

pub goes-as : {paid owed : ℕ} {d e f : Direction} → e ≡ f → Goes paid owed d e → Goes paid owed d f
goes-as {paid} {owed} {d} {e} {f} same h = subst (λ (x : Direction). Goes paid owed d x) same h

-- the end as it is after it heard the frame
abbrev pub hearing_end : Sender → Receiver → List Segment → List (List ℕ) → End → End
hearing_end s r got up y = record y { machine = record y.machine { sender = s; receiver = r }; got = got; up = up }

-- the direction in which the frame went
abbrev pub received : ℕ → (x y after : End) → List Sent → List Sent → Direction
received planned x y after rest small = record (under planned x y) { going = rest; accepted = accepted_by after; rejecting = after.machine.receiver.rejecting; coming = under_way y ++ small }

pub record Receives (planned : ℕ) (x y after : End) (sent : Sent) (rest : List Sent) : Type 0 where
  -- what it answers, at most one S-frame, and the end behind it
  pub small : List Sent
  pub later : End
  pub due_is : due after ≡ small ++ due_data after.machine.sender.poll later
  pub sender_is : later.machine.sender ≡ after.machine.sender
  pub put_is : later.put ≡ after.put
  pub got_is : later.got ≡ after.got
  pub numberless : AllByRecursion (λ (s : Sent). number_in s.number s.frame ≡ []) small
  pub light : weights small + 1 ≤ weight sent.frame
  pub onward : Goes 0 0 (goes sent rest (under planned x y)) (received planned x y after rest small)

-- ---- an S-frame

s_frame : (planned : ℕ) (x y : End) (s : Sender) (up : List (List ℕ)) (kind : SKind) (poll final : Bool) (req number asks : ℕ) (rest : List Sent) → y.machine.receiver.polled ≡ false → y.machine.receiver.reply ≡ NoReply
    → IsSound (goes (record { frame = supervisory kind poll final req; number = number; asks = asks }) rest (under planned x y))
    → Receives planned x y (hearing_end s (record y.machine.receiver { polled = poll || y.machine.receiver.polled }) (y.got ++ []) up y) (record { frame = supervisory kind poll final req; number = number; asks = asks }) rest
s_frame planned x y s up kind true final req number asks rest unpolled unreplied h =
    let sent : Sent = record { frame = supervisory kind true final req; number = number; asks = asks } in
    let after : End = hearing_end s (record y.machine.receiver { polled = true }) (y.got ++ []) up y in
    let answer = sent_by PollAnswer after in
    let same = append-nil y.got in
    record {
      small = answer ∷ [];
      later = gave (Some PollAnswer) after;
      due_is = rw unreplied refl;
      sender_is = refl;
      put_is = refl;
      got_is = refl;
      numberless = (refl, tt);
      light = omega arith;
      onward = goes-as (rw same refl) (answers-goes sent rest answer (under planned x y) refl (ap length same) refl refl h);
    }
s_frame planned x y s up kind false final req number asks rest unpolled unreplied h =
    let sent : Sent = record { frame = supervisory kind false final req; number = number; asks = asks } in
    let after : End = hearing_end s y.machine.receiver (y.got ++ []) up y in
    let same = append-nil y.got in
    let none = append-nil (under_way y) in
    record {
      small = [];
      later = after;
      due_is = rw (unpolled, unreplied) refl;
      sender_is = refl;
      put_is = refl;
      got_is = refl;
      numberless = tt;
      light = omega arith;
      onward = goes-as (rw (same, none) refl) (passed-goes sent rest (under planned x y) refl refl h);
    }

-- ---- an I-frame

-- it is not expected, and nothing is answered
other_frame : (planned : ℕ) (x y : End) (s : Sender) (up : List (List ℕ)) (tx req sar total : ℕ) (final : Bool) (octets : List ℕ) (number asks : ℕ) (rest : List Sent) → y.machine.receiver.polled ≡ false → y.machine.receiver.reply ≡ NoReply
    → (number < length y.got) ⊎ (length y.got < number) → IsSound (goes (record { frame = information tx final req sar total octets; number = number; asks = asks }) rest (under planned x y))
    → Receives planned x y (hearing_end s y.machine.receiver (y.got ++ []) up y) (record { frame = information tx final req sar total octets; number = number; asks = asks }) rest
other_frame planned x y s up tx req sar total final octets number asks rest unpolled unreplied other h =
    let sent : Sent = record { frame = information tx final req sar total octets; number = number; asks = asks } in
    let after : End = hearing_end s y.machine.receiver (y.got ++ []) up y in
    let same = append-nil y.got in
    let none = append-nil (under_way y) in
    record {
      small = [];
      later = after;
      due_is = rw (unpolled, unreplied) refl;
      sender_is = refl;
      put_is = refl;
      got_is = refl;
      numberless = tt;
      light = omega arith;
      onward = goes-as (rw (same, none) refl) (gone-goes sent rest (under planned x y) number refl other refl h);
    }

ahead_frame : (planned : ℕ) (x y : End) (s : Sender) (up : List (List ℕ)) (tx req sar total : ℕ) (final : Bool) (octets : List ℕ) (number asks : ℕ) (rest : List Sent) (rejecting : Bool) → y.machine.receiver.rejecting ≡ rejecting
    → y.machine.receiver.polled ≡ false → y.machine.receiver.reply ≡ NoReply
    → length y.got < number → IsSound (goes (record { frame = information tx final req sar total octets; number = number; asks = asks }) rest (under planned x y))
    → Receives planned x y (hearing_end s (cond rejecting y.machine.receiver (record y.machine.receiver { reply = Rejects; rejecting = true })) (y.got ++ []) up y)
    (record { frame = information tx final req sar total octets; number = number; asks = asks }) rest
ahead_frame planned x y s up tx req sar total final octets number asks rest true is unpolled unreplied far h = other_frame planned x y s up tx req sar total final octets number asks rest unpolled unreplied (inr far) h
ahead_frame planned x y s up tx req sar total final octets number asks rest false is unpolled unreplied far h =
    let sent : Sent = record { frame = information tx final req sar total octets; number = number; asks = asks } in
    let after : End = hearing_end s (record y.machine.receiver { reply = Rejects; rejecting = true }) (y.got ++ []) up y in
    let answer = sent_by Rejection after in
    let same = append-nil y.got in
    record {
      small = answer ∷ [];
      later = gave (Some Rejection) after;
      due_is = rw unpolled refl;
      sender_is = refl;
      put_is = refl;
      got_is = refl;
      numberless = (refl, tt);
      light = omega arith;
      onward = goes-as (rw same refl) (rejects-goes sent rest answer (under planned x y) number refl far is refl (ap length same) refl h);
    }

expected_frame : (planned : ℕ) (x y : End) (s : Sender) (up : List (List ℕ)) (tx req sar total : ℕ) (final : Bool) (octets : List ℕ) (number asks : ℕ) (rest : List Sent) (segment : Segment)
    → y.machine.receiver.polled ≡ false → number ≡ length y.got → number < given_by x → IsSound (goes (record { frame = information tx final req sar total octets; number = number; asks = asks }) rest (under planned x y))
    → Receives planned x y (hearing_end s (placed_after Expected segment y.machine.receiver) (y.got ++ segment ∷ []) up y) (record { frame = information tx final req sar total octets; number = number; asks = asks }) rest
expected_frame planned x y s up tx req sar total final octets number asks rest segment unpolled is less h =
    let sent : Sent = record { frame = information tx final req sar total octets; number = number; asks = asks } in
    let after : End = hearing_end s (placed_after Expected segment y.machine.receiver) (y.got ++ segment ∷ []) up y in
    let answer = sent_by Acknowledgement after in
    let long : length (y.got ++ segment ∷ []) ≡ length y.got + 1 = length-append y.got (segment ∷ []) in
    record {
      small = answer ∷ [];
      later = gave (Some Acknowledgement) after;
      due_is = rw unpolled refl;
      sender_is = refl;
      put_is = refl;
      got_is = refl;
      numberless = (refl, tt);
      light = omega arith;
      onward = goes-as (rw long refl) (accepts-goes sent rest answer (under planned x y) (ap (λ (n : ℕ). n ∷ []) is) (omega arith) refl long refl h);
    }

placed_frame : (planned : ℕ) (x y : End) (s : Sender) (up : List (List ℕ)) (tx req sar total : ℕ) (final : Bool) (octets : List ℕ) (number asks : ℕ) (rest : List Sent) (segment : Segment) (place : Place) → PlaceIs number (length y.got) place
    → y.machine.receiver.polled ≡ false → y.machine.receiver.reply ≡ NoReply → number < given_by x
    → IsSound (goes (record { frame = information tx final req sar total octets; number = number; asks = asks }) rest (under planned x y))
    → Receives planned x y (hearing_end s (placed_after place segment y.machine.receiver) (y.got ++ placed_segment place segment) up y) (record { frame = information tx final req sar total octets; number = number; asks = asks }) rest
placed_frame planned x y s up tx req sar total final octets number asks rest segment Expected (at is e) unpolled unreplied less h = expected_frame planned x y s up tx req sar total final octets number asks rest segment unpolled is less h
placed_frame planned x y s up tx req sar total final octets number asks rest segment Expected (ahead is (inl e)) unpolled unreplied less h = cc
placed_frame planned x y s up tx req sar total final octets number asks rest segment Expected (ahead is (inr e)) unpolled unreplied less h = cc
placed_frame planned x y s up tx req sar total final octets number asks rest segment Expected (behind is e) unpolled unreplied less h = cc
placed_frame planned x y s up tx req sar total final octets number asks rest segment Ahead (at is e) unpolled unreplied less h = cc
placed_frame planned x y s up tx req sar total final octets number asks rest segment Ahead (ahead is e) unpolled unreplied less h =
    ahead_frame planned x y s up tx req sar total final octets number asks rest y.machine.receiver.rejecting refl unpolled unreplied is h
placed_frame planned x y s up tx req sar total final octets number asks rest segment Ahead (behind is e) unpolled unreplied less h = cc
placed_frame planned x y s up tx req sar total final octets number asks rest segment Other (at is e) unpolled unreplied less h = cc
placed_frame planned x y s up tx req sar total final octets number asks rest segment Other (ahead is e) unpolled unreplied less h = other_frame planned x y s up tx req sar total final octets number asks rest unpolled unreplied (inr is) h
placed_frame planned x y s up tx req sar total final octets number asks rest segment Other (behind is e) unpolled unreplied less h = other_frame planned x y s up tx req sar total final octets number asks rest unpolled unreplied (inl is) h

-- ---- any frame

pub receives : (planned : ℕ) (x y : End) (frame : PlainFrame) (number asks : ℕ) (rest : List Sent) → IsPlaced number y.got y.machine frame → IsBelow (given_by x) number frame
    → y.machine.receiver.polled ≡ false → y.machine.receiver.reply ≡ NoReply → IsSound (goes (record { frame = frame; number = number; asks = asks }) rest (under planned x y))
    → Receives planned x y (hearing_by None None frame y) (record { frame = frame; number = number; asks = asks }) rest
receives planned x y (information tx final req sar total octets) number asks rest place less unpolled unreplied h =
    placed_frame planned x y (sender_after (information tx final req sar total octets) y.machine.sender) (y.up ++ listed (sdu_in (information tx final req sar total octets) y.machine))
    tx req sar total final octets number asks rest (segment_of sar total octets) (place_in y.machine tx) place unpolled unreplied less h
receives planned x y (supervisory kind poll final req) number asks rest place less unpolled unreplied h =
    s_frame planned x y (sender_after (supervisory kind poll final req) y.machine.sender) (y.up ++ listed (sdu_in (supervisory kind poll final req) y.machine)) kind poll final req number asks rest unpolled unreplied h
