-- How the rings of octets and of heads stand for the segments of a sender.
use Rattle.std.specs.Prelude.{ℕ, ◌≡◌, ◌≢◌, ◌+◌, ◌-◌, ◌*◌, ◌<◌, ◌≤◌, Bool, true, false, List, [], ◌∷◌, ◌++◌, length, take, drop, slice_get, Option, Some, None, nat_lt, if◌then◌else◌}
use Rattle.std.specs.List.{sum_by, All}
use Rattle.l2cap_config.specs.declared.wish.Agreed.{Agreed}
use Rattle.ertm_frames.specs.Segments.{Segment}
use Rattle.ertm_model.specs.Value.{Kept}
use Rattle.ertm_model.specs.Submitting.{cut, later_segments}
use Rattle.ertm_model.specs.Giving.{given_again}
use Rattle.ertm_machine.specs.declared.window.Head.{Head}
use Rattle.ertm_machine.specs.declared.window.Waiting.{Waiting}
use Rattle.ertm_machine.specs.declared.window.Waiting.TheVariants.{Nothing, Uncut, Begun}
use Rattle.ertm_machine.specs.declared.window.Window.TheInside.{Inside}
use Rattle.ertm_machine.specs.Values.{WindowValue}

-- the segment of a head whose octets stand at the front of these
abbrev pub segment_at : Head → List ℕ → Segment
segment_at head octets = record { sar = head.sar; total = head.total; octets = take head.len octets }

abbrev pub kept_at : Head → List ℕ → Kept
kept_at head octets = record { segment = segment_at head octets; given = head.given }

-- the segments of heads, one behind the other
abbrev pub kept_of : List Head → List ℕ → List Kept
kept_of [] octets = []
kept_of (head ∷ heads) octets = kept_at head octets ∷ kept_of heads (drop head.len octets)

abbrev pub size_of : List Head → ℕ
size_of heads = sum_by (λ head. head.len) heads

-- the segments that are still to be cut of these octets
abbrev pub waiting_segments : Waiting → ℕ → List ℕ → List Segment
waiting_segments Nothing mps octets = []
waiting_segments Uncut mps octets = cut mps octets
waiting_segments Begun mps octets = later_segments mps octets

-- how many octets the ring has room for: those of a full window and one SDU
abbrev pub room_for : Agreed → ℕ
room_for agreed = agreed.send_window * agreed.send_mps + agreed.send_mtu

-- what `new` and `reset` need
pub record IsAgreed (agreed : Agreed) : Type 0 where
  pub mps_from : 8 ≤ agreed.send_mps
  pub mps_to : agreed.send_mps ≤ 1010
  pub send_from : 1 ≤ agreed.send_window
  pub send_to : agreed.send_window ≤ 63
  pub receive_from : 1 ≤ agreed.receive_window
  pub receive_to : agreed.receive_window ≤ 63

-- what was agreed is within what was reserved
pub record IsWithin (reserved agreed : Agreed) : Type 0 where
  pub send_mtu : agreed.send_mtu ≤ reserved.send_mtu
  pub receive_mtu : agreed.receive_mtu ≤ reserved.receive_mtu
  pub send_mps : agreed.send_mps ≤ reserved.send_mps
  pub send_window : agreed.send_window ≤ reserved.send_window

pub record IsHead (mps : ℕ) (head : Head) : Type 0 where
  pub len : head.len ≤ mps
  pub sar : head.sar < 4
  pub total : head.sar ≢ 1 → head.total ≡ 0

-- so many octets wait
abbrev pub IsWaiting : Waiting → ℕ → Type 0
IsWaiting Nothing count = count ≡ 0
IsWaiting Uncut count = Unit {0}
IsWaiting Begun count = 0 < count

abbrev pub window_value : Inside → WindowValue
window_value w = record {
  reserved = w.reserved;
  agreed = w.agreed;
  unacked = kept_of w.heads.items w.octets.items;
  next = w.next;
  fresh = waiting_segments w.waiting w.agreed.send_mps (drop (size_of w.heads.items) w.octets.items);
}

pub record IsWindow (w : Inside) : Type 0 where
  pub agreed : IsAgreed w.agreed
  pub within : IsWithin w.reserved w.agreed
  pub octets_room : w.octets.capacity ≡ room_for w.reserved
  pub heads_room : w.heads.capacity ≡ w.reserved.send_window
  pub few : length w.heads.items ≤ w.agreed.send_window
  pub next : w.next ≤ length w.heads.items
  pub place : w.place ≡ size_of (take w.next w.heads.items)
  pub held : size_of w.heads.items ≤ length w.octets.items
  pub waits : length w.octets.items ≤ size_of w.heads.items + w.agreed.send_mtu
  pub waiting : IsWaiting w.waiting (length w.octets.items - size_of w.heads.items)
  pub heads : All (IsHead w.agreed.send_mps) w.heads.items
  pub unspent : All (λ head. head.given < w.agreed.tries) (drop w.next w.heads.items)

-- ---- what a call does

-- the head that is cut off the front of what waits, and what waits behind it
pub record Cuts (waiting : Waiting) (count mps : ℕ) (cut_off : Head × Waiting) : Type 0 where
  pub given : cut_off.0.given ≡ 1
  pub head : IsHead mps cut_off.0
  pub fits : cut_off.0.len ≤ count
  pub rest : IsWaiting cut_off.1 (count - cut_off.0.len)
  pub segments : (octets : List ℕ) → length octets ≡ count
      → waiting_segments waiting mps octets ≡ segment_at cut_off.0 octets ∷ waiting_segments cut_off.1 mps (drop cut_off.0.len octets)

-- the next segment is one of those that were given, or it comes into the window, or there is none
abbrev pub stepped_new : Bool → List Segment → WindowValue → Option WindowValue
stepped_new true [] w = None
stepped_new false fresh w = None
stepped_new true (segment ∷ behind) w = Some (record w {
  unacked = w.unacked ++ record { segment = segment; given = 1 } ∷ [];
  next = w.next + 1;
  fresh = behind;
})

abbrev pub stepped_by : Option Kept → WindowValue → Option WindowValue
stepped_by (Some kept) w = Some (record w { unacked = given_again w.next w.unacked; next = w.next + 1 })
stepped_by None w = stepped_new (nat_lt (length w.unacked) w.agreed.send_window) w.fresh w

abbrev pub stepped : WindowValue → Option WindowValue
stepped w = stepped_by (slice_get w.unacked w.next) w

abbrev pub AdvancesTo : Option WindowValue → WindowValue → Bool → WindowValue → Type 0
AdvancesTo None old moved new = (moved ≡ false) × (new ≡ old)
AdvancesTo (Some after) old moved new = (moved ≡ true) × (new ≡ after)

abbrev pub Advances : WindowValue → Bool → WindowValue → Type 0
Advances old moved new = AdvancesTo (stepped old) old moved new
