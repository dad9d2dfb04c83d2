-- What an end gives keeps what holds of both.
use Rattle.std.proofs.Common.{ℕ, ◌≡◌, ◌+◌, ◌%◌, ◌<◌, ◌⊎◌, inl, inr, Bool, true, false, List, [], ◌∷◌, ◌++◌, length, Option, Some, None, refl, ◌∙◌, arith, length-append}
use Rattle.std.specs.Prelude.{slice_get}
use Rattle.ertm_frames.specs.declared.frame.SKind.{SKind}
use Rattle.ertm_frames.specs.declared.frame.SKind.TheVariants.{Rr, Rej}
use Rattle.ertm_frames.specs.Frames.{PlainFrame, information, supervisory}
use Rattle.ertm_frames.specs.Segments.{Segment}
use Rattle.ertm_frames.specs.Joining.{Begun}
use Rattle.ertm_frames.specs.Picking.{req_of}
use Rattle.ertm_model.specs.Value.{Kept}
use Rattle.ertm_model.specs.Giving.{Giving, PollAnswer, Acknowledgement, Rejection, Polling, Again, New, next_number, given_again, giving}
use Rattle.ertm_model.specs.Pair.{Sent, End, acknowledged_by, gave, near, Give}
use Rattle.ertm_model.specs.Order.{Way, WayOf, Stands}
use Rattle.ertm_model.proofs.Lists.{get-inside, get-none, again-length}
use Rattle.ertm_model.proofs.Sending.{put-length, sends-again, sends-new}
use Rattle.ertm_model.proofs.Queues.{flies-on, rises-on}
use Rattle.ertm_model.proofs.Inverting.{Gives, gives}

-- ---- an S-frame is on its way as well

pub flies-s :
    {window mtu first next : ℕ} {unacked : List Kept} {fresh put : List Segment} {sdus : List (List ℕ)} {queue : List Sent} {expected : ℕ} {begun : Option Begun} {got : List Segment} {up : List (List ℕ)} {asking : List Sent}
    (kind : SKind) (poll final : Bool) (req number asks : ℕ) → (kind ≡ Rr) ⊎ (kind ≡ Rej)
    → Way window mtu first next unacked fresh put sdus queue expected begun got up asking
    → Way window mtu first next unacked fresh put sdus (queue ++ record { frame = supervisory kind poll final req; number = number; asks = asks } ∷ []) expected begun got up asking
flies-s {window = window} {unacked = unacked} {put = put} {queue = queue} {got = got} kind poll final req number asks own h = record {
  a = h.a;
  sends = h.sends;
  accepts = h.accepts;
  holds = h.holds;
  a_c = h.a_c;
  c_n = h.c_n;
  flies = flies-on window put (h.a + length unacked) (h.a + length unacked) (length got) queue _ (omega arith) (λ r le. (own, le)) h.flies;
  rises = h.rises;
}

-- and so is a ReqSeq
pub asks-on :
    {window mtu first next : ℕ} {unacked : List Kept} {fresh put : List Segment} {sdus : List (List ℕ)} {queue : List Sent} {expected : ℕ} {begun : Option Begun} {got : List Segment} {up : List (List ℕ)} {asking : List Sent}
    (frame : PlainFrame) (number : ℕ) → req_of frame ≡ expected
    → Way window mtu first next unacked fresh put sdus queue expected begun got up asking
    → Way window mtu first next unacked fresh put sdus queue expected begun got up (asking ++ record { frame = frame; number = number; asks = length got } ∷ [])
asks-on {got = got} {asking = asking} frame number is h = record {
  a = h.a;
  sends = h.sends;
  accepts = h.accepts;
  holds = h.holds;
  a_c = h.a_c;
  c_n = h.c_n;
  flies = h.flies;
  rises = rises-on h.a (length got) asking _ refl (is ∙ h.accepts.expected_is) h.rises;
}

-- ---- an I-frame is given again

flies-again :
    {window mtu first next : ℕ} {unacked : List Kept} {fresh put : List Segment} {sdus : List (List ℕ)} {queue : List Sent} {expected : ℕ} {begun : Option Begun} {got : List Segment} {up : List (List ℕ)} {asking : List Sent}
    (kept : Kept) (final : Bool) (req number asks : ℕ)
    → (h : Way window mtu first next unacked fresh put sdus queue expected begun got up asking) → slice_get unacked next ≡ Some kept → number ≡ h.a + next
    → Way window mtu first (next + 1) (given_again next unacked) fresh put sdus
    (queue ++ record { frame = information ((first + next) % 64) final req kept.segment.sar kept.segment.total kept.segment.octets; number = number; asks = asks } ∷ []) expected begun got up asking
flies-again {window} {mtu} {first} {next} {unacked} {fresh} {put} {sdus} {queue} {expected} {begun} {got} {up} {asking} kept final req number asks h at is =
    let g = sends-again kept at h.sends in
    let inside = get-inside unacked next kept at in
    let same = again-length next unacked in
    let in_window = h.sends.in_window in
    let c_n = h.c_n in
    let here : slice_get put number ≡ Some kept.segment = rw is g.here in
    let tx : (first + next) % 64 ≡ number % 64 = rw is g.tx in
    record {
      a = h.a;
      sends = g.sends;
      accepts = h.accepts;
      holds = h.holds;
      a_c = h.a_c;
      c_n = omega arith;
      flies = flies-on window put (h.a + length unacked) (h.a + length (given_again next unacked)) (length got) queue _ (omega arith) (λ r le. ((tx, omega arith, omega arith, here), omega arith)) h.flies;
      rises = h.rises;
    }

-- ---- an I-frame is given for the first time

flies-new :
    {window mtu first next : ℕ} {unacked : List Kept} {fresh put : List Segment} {sdus : List (List ℕ)} {queue : List Sent} {expected : ℕ} {begun : Option Begun} {got : List Segment} {up : List (List ℕ)} {asking : List Sent}
    (segment : Segment) (behind : List Segment) (final : Bool) (req number asks : ℕ)
    → (h : Way window mtu first next unacked fresh put sdus queue expected begun got up asking) → fresh ≡ segment ∷ behind → slice_get unacked next ≡ None → length unacked < window → number ≡ h.a + next
    → Way window mtu first (next + 1) (unacked ++ record { segment = segment; given = 1 } ∷ []) behind put sdus
    (queue ++ record { frame = information ((first + next) % 64) final req segment.sar segment.total segment.octets; number = number; asks = asks } ∷ []) expected begun got up asking
flies-new {window} {mtu} {first} {next} {unacked} {fresh} {put} {sdus} {queue} {expected} {begun} {got} {up} {asking} segment behind final req number asks h fresh_is none room is =
    let kept : Kept = record { segment = segment; given = 1 } in
    let g = sends-new kept behind fresh_is none room h.sends in
    let past_end = get-none unacked next none in
    let next_in = h.sends.next_in in
    let more = length-append unacked (kept ∷ []) in
    let c_n = h.c_n in
    let here : slice_get put number ≡ Some segment = rw is g.here in
    let tx : (first + next) % 64 ≡ number % 64 = rw is g.tx in
    record {
      a = h.a;
      sends = g.sends;
      accepts = h.accepts;
      holds = h.holds;
      a_c = h.a_c;
      c_n = omega arith;
      flies = flies-on window put (h.a + length unacked) (h.a + length (unacked ++ kept ∷ [])) (length got) queue _ (omega arith) (λ r le. ((tx, omega arith, omega arith, here), omega arith)) h.flies;
      rises = h.rises;
    }

-- ---- an end

number_is : (x y : End) (h : WayOf x y) → acknowledged_by x + x.machine.sender.next ≡ h.a + x.machine.sender.next
number_is x y h = let e = put-length h.sends in omega arith

gave-s : (x y : End) (kind : SKind) (poll final : Bool) → (kind ≡ Rr) ⊎ (kind ≡ Rej) → Stands x y
    → Stands (record x { queue = x.queue ++ record { frame = supervisory kind poll final x.machine.receiver.expected; number = acknowledged_by x + x.machine.sender.next; asks = length x.got } ∷ [] }) y
gave-s x y kind poll final own h = record {
  meets = h.meets;
  met = h.met;
  there = flies-s kind poll final x.machine.receiver.expected (acknowledged_by x + x.machine.sender.next) (length x.got) own h.there;
  back = asks-on (supervisory kind poll final x.machine.receiver.expected) (acknowledged_by x + x.machine.sender.next) refl h.back;
  only_x = h.only_x;
  only_y = h.only_y;
}

pub gave-stands : (x y : End) (given : Option Giving) → Gives x.machine given → Stands x y → Stands (gave given x) y
gave-stands x y None why h = h
gave-stands x y (Some PollAnswer) why h =
    let k = gave-s x y Rr false true (inl refl) h in
    record { meets = k.meets; met = k.met; there = k.there; back = k.back; only_x = k.only_x; only_y = k.only_y }
gave-stands x y (Some Acknowledgement) why h =
    let k = gave-s x y Rr false false (inl refl) h in
    record { meets = k.meets; met = k.met; there = k.there; back = k.back; only_x = k.only_x; only_y = k.only_y }
gave-stands x y (Some Rejection) why h =
    let k = gave-s x y Rej false false (inr refl) h in
    record { meets = k.meets; met = k.met; there = k.there; back = k.back; only_x = k.only_x; only_y = k.only_y }
gave-stands x y (Some Polling) why h =
    let k = gave-s x y Rr true false (inl refl) h in
    record { meets = k.meets; met = k.met; there = k.there; back = k.back; only_x = k.only_x; only_y = k.only_y }
gave-stands x y (Some (Again kept)) (free, at) h = record {
  meets = h.meets;
  met = h.met;
  there = flies-again kept false x.machine.receiver.expected (acknowledged_by x + x.machine.sender.next) (length x.got) h.there at (number_is x y h.there);
  back = asks-on (information (next_number x.machine) false x.machine.receiver.expected kept.segment.sar kept.segment.total kept.segment.octets) (acknowledged_by x + x.machine.sender.next) refl h.back;
  only_x = h.only_x;
  only_y = h.only_y;
}
gave-stands x y (Some (New segment behind)) (free, none, is, room) h = record {
  meets = h.meets;
  met = h.met;
  there = flies-new segment behind false x.machine.receiver.expected (acknowledged_by x + x.machine.sender.next) (length x.got) h.there is none room (number_is x y h.there);
  back = asks-on (information (next_number x.machine) false x.machine.receiver.expected segment.sar segment.total segment.octets) (acknowledged_by x + x.machine.sender.next) refl h.back;
  only_x = h.only_x;
  only_y = h.only_y;
}

pub gives-stands : (x y : End) → Stands x y → Stands (near Give x) y
gives-stands x y h = gave-stands x y (giving x.machine) (gives x.machine) h
