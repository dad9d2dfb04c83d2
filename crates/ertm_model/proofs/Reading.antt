-- One machine holds what is said on its channel.
use Rattle.std.proofs.Common.{ℕ, ◌≡◌, ◌≢◌, ◌+◌, ◌-◌, ◌%◌, ◌<◌, ◌≤◌, Bool, true, false, cond, List, [], ◌∷◌, ◌++◌, length, drop, Option, Some, None, refl, ap, sym, ◌∙◌, arith, append-nil, length-append}
use Rattle.std.specs.Prelude.{nat_lt, ◌==◌, ◌&&◌, slice_get}
use Rattle.std.proofs.lemmas.Bool.{eqb-true, eqb-false, eq-eqb, ne_eqb}
use Rattle.ertm_frames.specs.declared.frame.SKind.{SKind}
use Rattle.ertm_frames.specs.Frames.{PlainFrame, information, supervisory}
use Rattle.ertm_frames.specs.Segments.{Segment}
use Rattle.ertm_frames.specs.Joining.{Begun, Joint, Misplaced, Begins, Ends, joint, Joining, At, joined_by, ended_by, joined, ended}
use Rattle.ertm_frames.specs.Picking.{segments_in, picked, IsNumber, AreNumbers}
use Rattle.ertm_frames.proofs.Longest.{joined-append, ended-append}
use Rattle.ertm_model.specs.Value.{Kept, Rejects, Receiver}
use Rattle.ertm_model.specs.Giving.{given_again}
use Rattle.ertm_model.specs.Hearing.{past, Place, Expected, Ahead, Other, place_of, joint_fault, place_fault, begun_after, placed_after, segment_of, sdu_by, placed_sdu}
use Rattle.ertm_model.specs.Pair.{listed}
use Rattle.ertm_model.proofs.Sending.{cond-at_most}
use Rattle.ertm_model.proofs.Accepting.{rejected-same}
use Rattle.ertm_model.proofs.Lists.{get-inside, get-none, again-length, dropped}
use Rattle.ertm_frames.proofs.Telling.{picked_one, picked-more, tops, tops-more, numbers-more, numbers-same}

-- ---- a sender, and the frames that went out

-- the ReqSeq is that of the last frame that came in
pub record Gave (window first next : ℕ) (unacked : List Kept) (frames : List PlainFrame) (req : ℕ) : Type 0 where
  pub a : ℕ
  pub n_is : a + length unacked ≡ length (picked 0 frames)
  pub first_is : first ≡ a % 64
  pub next_in : next ≤ length unacked
  pub in_window : length unacked ≤ window
  pub asked : req ≡ a % 64
  pub numbers : List ℕ
  pub numbered : AreNumbers 0 frames numbers
  pub tops_is : tops 0 numbers ≡ length (picked 0 frames)

pub none-more : (frames : List PlainFrame) (last : PlainFrame) → picked_one (length (picked 0 frames)) last ≡ [] → picked 0 (frames ++ last ∷ []) ≡ picked 0 frames
none-more frames last none =
    let e : 0 + length (picked 0 frames) ≡ length (picked 0 frames) = omega arith in
    picked-more 0 frames last ∙ ap (λ (m : ℕ). picked 0 frames ++ picked_one m last) e ∙ ap (λ (l : List Segment). picked 0 frames ++ l) none ∙ append-nil (picked 0 frames)

pub gave-s : {window first next : ℕ} {unacked : List Kept} {frames : List PlainFrame} {req : ℕ} (kind : SKind) (poll final : Bool) (asks : ℕ)
    → Gave window first next unacked frames req → Gave window first next unacked (frames ++ supervisory kind poll final asks ∷ []) req
gave-s {frames = frames} kind poll final asks h =
    let same = none-more frames (supervisory kind poll final asks) refl in
    record {
      a = h.a;
      n_is = h.n_is ∙ ap length (sym same);
      first_is = h.first_is;
      next_in = h.next_in;
      in_window = h.in_window;
      asked = h.asked;
      numbers = h.numbers;
      numbered = numbers-same 0 frames h.numbers (supervisory kind poll final asks) refl h.numbered;
      tops_is = h.tops_is ∙ ap length (sym same);
    }

pub gave-again : {window first next : ℕ} {unacked : List Kept} {frames : List PlainFrame} {req : ℕ} (kept : Kept) (sar total asks : ℕ) (final : Bool) (octets : List ℕ)
    → window ≤ 63 → slice_get unacked next ≡ Some kept
    → Gave window first next unacked frames req → Gave window first (next + 1) (given_again next unacked) (frames ++ information ((first + next) % 64) final asks sar total octets ∷ []) req
gave-again {window} {first} {next} {unacked} {frames} {req} kept sar total asks final octets small at h =
    let frame = information ((first + next) % 64) final asks sar total octets in
    let inside = get-inside unacked next kept at in
    let long = again-length next unacked in
    let n_is = h.n_is in
    let first_is = h.first_is in
    let in_window = h.in_window in
    let top = h.tops_is in
    let other : ((first + next) % 64 == length (picked 0 frames) % 64) ≡ false = ne_eqb ((first + next) % 64) (length (picked 0 frames) % 64) (λ e. omega (arith, e)) in
    let same = none-more frames frame (ap (λ (b : Bool). cond b (segments_in frame) []) other) in
    let number : IsNumber (tops 0 h.numbers) ((first + next) % 64) (h.a + next) = record { same = omega arith; low = omega arith; greatest = omega arith } in
    let tops_are = tops-more 0 h.numbers (h.a + next) in
    let count = ap length same in
    record {
      a = h.a;
      n_is = omega arith;
      first_is = h.first_is;
      next_in = omega arith;
      in_window = omega arith;
      asked = h.asked;
      numbers = h.numbers ++ (h.a + next) ∷ [];
      numbered = numbers-more 0 frames h.numbers ((first + next) % 64) asks sar total (h.a + next) final octets h.numbered number;
      tops_is = omega arith;
    }

pub gave-new : {window first next : ℕ} {unacked : List Kept} {frames : List PlainFrame} {req : ℕ} (kept : Kept) (sar total asks : ℕ) (final : Bool) (octets : List ℕ)
    → window ≤ 63 → slice_get unacked next ≡ None → length unacked < window
    → Gave window first next unacked frames req → Gave window first (next + 1) (unacked ++ kept ∷ []) (frames ++ information ((first + next) % 64) final asks sar total octets ∷ []) req
gave-new {window} {first} {next} {unacked} {frames} {req} kept sar total asks final octets small none room h =
    let frame = information ((first + next) % 64) final asks sar total octets in
    let past_end = get-none unacked next none in
    let next_in = h.next_in in
    let n_is = h.n_is in
    let first_is = h.first_is in
    let top = h.tops_is in
    let long = length-append unacked (kept ∷ []) in
    let here : ((first + next) % 64 == (0 + length (picked 0 frames)) % 64) ≡ true = eq-eqb ((first + next) % 64) ((0 + length (picked 0 frames)) % 64) (omega arith) in
    let more : picked 0 (frames ++ frame ∷ []) ≡ picked 0 frames ++ segments_in frame = picked-more 0 frames frame ∙ ap (λ (b : Bool). picked 0 frames ++ cond b (segments_in frame) []) here in
    let count = ap length more ∙ length-append (picked 0 frames) (segments_in frame) in
    let number : IsNumber (tops 0 h.numbers) ((first + next) % 64) (h.a + next) = record { same = omega arith; low = omega arith; greatest = omega arith } in
    let tops_are = tops-more 0 h.numbers (h.a + next) in
    record {
      a = h.a;
      n_is = omega arith;
      first_is = h.first_is;
      next_in = omega arith;
      in_window = omega arith;
      asked = h.asked;
      numbers = h.numbers ++ (h.a + next) ∷ [];
      numbered = numbers-more 0 frames h.numbers ((first + next) % 64) asks sar total (h.a + next) final octets h.numbered number;
      tops_is = omega arith;
    }

-- a ReqSeq acknowledges
pub gave-asked : {window first next : ℕ} {unacked : List Kept} {frames : List PlainFrame} {req : ℕ} (asks k : ℕ) (again : Bool) → asks < 64 → past first asks ≡ k → k ≤ length unacked
    → Gave window first next unacked frames req → Gave window ((first + k) % 64) (cond again 0 (next - k)) (drop k unacked) frames asks
gave-asked {window} {first} {next} {unacked} {frames} {req} asks k again small is few h =
    let rest = (dropped k unacked few).left_length in
    let n_is = h.n_is in
    let first_is = h.first_is in
    let next_in = h.next_in in
    let in_window = h.in_window in
    record {
      a = h.a + k;
      n_is = omega arith;
      first_is = omega arith;
      next_in = cond-at_most again next k (length (drop k unacked)) (omega arith);
      in_window = omega arith;
      asked = omega arith;
      numbers = h.numbers;
      numbered = h.numbered;
      tops_is = h.tops_is;
    }

-- ---- a receiver, and the frames that came in

pub record Took (expected : ℕ) (begun : Option Begun) (frames : List PlainFrame) (up : List (List ℕ)) : Type 0 where
  pub expected_is : expected ≡ length (picked 0 frames) % 64
  pub joins : joined (At None) (picked 0 frames) ≡ At begun
  pub up_is : ended (At None) (picked 0 frames) ≡ up

pub took-none : {expected : ℕ} {begun : Option Begun} {frames : List PlainFrame} {up : List (List ℕ)} (last : PlainFrame) → picked 0 (frames ++ last ∷ []) ≡ picked 0 frames
    → Took expected begun frames up → Took expected begun (frames ++ last ∷ []) (up ++ [])
took-none {up = up} last same h = record {
  expected_is = h.expected_is ∙ ap (λ (l : List Segment). length l % 64) (sym same);
  joins = ap (λ (l : List Segment). joined (At None) l) same ∙ h.joins;
  up_is = ap (λ (l : List Segment). ended (At None) l) same ∙ h.up_is ∙ sym (append-nil up);
}

-- what a segment makes where it does not close
joint_goes : (j : Joint) (mtu : ℕ) (segment : Segment) → joint_fault j mtu segment ≡ None → (joined_by j ≡ At (begun_after j)) × (ended_by j ++ [] ≡ listed (sdu_by j))
joint_goes Misplaced mtu segment none = cc
joint_goes (Begins begun) mtu segment none = (refl, refl)
joint_goes (Ends sdu) mtu segment none = (refl, refl)

pub took-next : {frames : List PlainFrame} {up : List (List ℕ)} (mtu tx req sar total : ℕ) (final : Bool) (octets : List ℕ) (r : Receiver) → tx ≡ length (picked 0 frames) % 64
    → joint_fault (joint r.begun (segment_of sar total octets)) mtu (segment_of sar total octets) ≡ None → Took r.expected r.begun frames up
    → Took ((r.expected + 1) % 64) (begun_after (joint r.begun (segment_of sar total octets))) (frames ++ information tx final req sar total octets ∷ []) (up ++ listed (sdu_by (joint r.begun (segment_of sar total octets))))
took-next {frames} {up} mtu tx req sar total final octets r is none h =
    let segment = segment_of sar total octets in
    let here : (tx == (0 + length (picked 0 frames)) % 64) ≡ true = eq-eqb tx ((0 + length (picked 0 frames)) % 64) (omega arith) in
    let more : picked 0 (frames ++ information tx final req sar total octets ∷ []) ≡ picked 0 frames ++ segment ∷ [] =
    picked-more 0 frames (information tx final req sar total octets) ∙ ap (λ (b : Bool). picked 0 frames ++ cond b (segment ∷ []) []) here in
    let goes = joint_goes (joint r.begun segment) mtu segment none in
    let count = ap length more ∙ length-append (picked 0 frames) (segment ∷ []) in
    record {
      expected_is = let e = h.expected_is in omega arith;
      joins = ap (λ (l : List Segment). joined (At None) l) more ∙ joined-append (At None) (picked 0 frames) (segment ∷ []) ∙ ap (λ (j : Joining). joined j (segment ∷ [])) h.joins ∙ goes.0;
      up_is =
          ap (λ (l : List Segment). ended (At None) l) more ∙ ended-append (At None) (picked 0 frames) (segment ∷ [])
          ∙ ap (λ (l : List (List ℕ)). l ++ ended (joined (At None) (picked 0 frames)) (segment ∷ [])) h.up_is
          ∙ ap (λ (j : Joining). up ++ ended j (segment ∷ [])) h.joins ∙ ap (λ (l : List (List ℕ)). up ++ l) goes.1;
    }

-- where a number stands
pub data Stood (tx expected : ℕ) (place : Place) : Type 0 where
  next_one : tx ≡ expected → place ≡ Expected → Stood tx expected place
  other_one : tx ≢ expected → place ≢ Expected → Stood tx expected place

not_expected : (b : Bool) → cond b Ahead Other ≢ Expected
not_expected true = λ e. cc
not_expected false = λ e. cc

stood_by : (own tx expected : ℕ) (same : Bool) → (tx == expected) ≡ same → tx < 64 → expected < 64 → Stood tx expected (place_of own (past expected tx))
stood_by own tx expected true is small small' =
    let e = eqb-true tx expected is in
    let d : past expected tx ≡ 0 = omega arith in
    next_one e (rw d refl)
stood_by own tx expected false is small small' =
    let e = eqb-false tx expected is in
    let d : (past expected tx == 0) ≡ false = ne_eqb (past expected tx) 0 (λ f. e (omega (arith, f))) in
    other_one e (rw d (not_expected (nat_lt (past expected tx) own && nat_lt (past expected tx + own) 64)))

pub stood : (own tx expected : ℕ) → tx < 64 → expected < 64 → Stood tx expected (place_of own (past expected tx))
stood own tx expected small small' = stood_by own tx expected (tx == expected) refl small small'

pub took-placed : {frames : List PlainFrame} {up : List (List ℕ)} (mtu tx req sar total : ℕ) (final : Bool) (octets : List ℕ) (r : Receiver) (place : Place) → tx < 64 → Stood tx r.expected place
    → place_fault place mtu (segment_of sar total octets) r ≡ None → Took r.expected r.begun frames up
    → Took (placed_after place (segment_of sar total octets) r).expected (placed_after place (segment_of sar total octets) r).begun (frames ++ information tx final req sar total octets ∷ []) (up ++ listed (placed_sdu place (segment_of sar total octets) r))
took-placed mtu tx req sar total final octets r Expected small (next_one is e) none h = took-next mtu tx req sar total final octets r (is ∙ h.expected_is) none h
took-placed mtu tx req sar total final octets r Expected small (other_one is e) none h = absurd (e refl)
took-placed mtu tx req sar total final octets r Ahead small (next_one is e) none h = cc
took-placed {frames} {up} mtu tx req sar total final octets r Ahead small (other_one is e) none h =
    let same = rejected-same r.rejecting r (record r { reply = Rejects; rejecting = true }) refl refl in
    let other : (tx == length (picked 0 frames) % 64) ≡ false = ne_eqb tx (length (picked 0 frames) % 64) (λ f. is (f ∙ sym h.expected_is)) in
    let k = took-none (information tx final req sar total octets) (none-more frames (information tx final req sar total octets) (ap (λ (b : Bool). cond b (segment_of sar total octets ∷ []) []) other)) h in
    rw (same.0, same.1) k
took-placed mtu tx req sar total final octets r Other small (next_one is e) none h = cc
took-placed {frames} {up} mtu tx req sar total final octets r Other small (other_one is e) none h =
    let other : (tx == length (picked 0 frames) % 64) ≡ false = ne_eqb tx (length (picked 0 frames) % 64) (λ f. is (f ∙ sym h.expected_is)) in
    took-none (information tx final req sar total octets) (none-more frames (information tx final req sar total octets) (ap (λ (b : Bool). cond b (segment_of sar total octets ∷ []) []) other)) h
