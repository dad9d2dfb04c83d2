-- A sender and what was put, where a frame is given, some are acknowledged, or an SDU is taken.
use Rattle.std.proofs.Common.{ℕ, ◌≡◌, ◌+◌, ◌-◌, ◌%◌, ◌<◌, ◌≤◌, Bool, true, false, cond, List, [], ◌∷◌, ◌++◌, length, drop, Some, None, ap, sym, ◌∙◌, arith, length-append, append-nil}
use Rattle.std.proofs.lemmas.List.{append_assoc}
use Rattle.std.specs.Prelude.{slice_get}
use Rattle.ertm_frames.specs.Segments.{Segment}
use Rattle.ertm_model.specs.Value.{Kept}
use Rattle.ertm_model.specs.Giving.{given_again}
use Rattle.ertm_model.specs.Order.{kept_segments, Sends}
use Rattle.ertm_model.proofs.Counting.{add-on}
use Rattle.ertm_model.proofs.Lists.{get-before, get-behind, get-inside, get-none, segment-at, segments-length, again-segments, again-length, segments-more, dropped}

pub put-length : {window : ℕ} {put : List Segment} {a first next : ℕ} {unacked : List Kept} {fresh : List Segment} → Sends window put a first next unacked fresh → length put ≡ a + (length unacked + length fresh)
put-length {unacked = unacked} {fresh = fresh} h =
    ap length h.put_is ∙ length-append h.done (kept_segments unacked ++ fresh)
    ∙ ap (λ (n : ℕ). length h.done + n) (length-append (kept_segments unacked) fresh ∙ ap (λ (n : ℕ). n + length fresh) (segments-length unacked))
    ∙ ap (λ (n : ℕ). n + (length unacked + length fresh)) h.done_is

-- what is given is the segment of its number, and its TxSeq is that number's
pub record Given (window : ℕ) (put : List Segment) (a first next : ℕ) (segment : Segment) (unacked : List Kept) (fresh : List Segment) : Type 0 where
  pub here : slice_get put (a + next) ≡ Some segment
  pub tx : (first + next) % 64 ≡ (a + next) % 64
  pub sends : Sends window put a first (next + 1) unacked fresh

pub sends-again : {window : ℕ} {put : List Segment} {a first next : ℕ} {unacked : List Kept} {fresh : List Segment} (kept : Kept) → slice_get unacked next ≡ Some kept
    → Sends window put a first next unacked fresh → Given window put a first next kept.segment (given_again next unacked) fresh
sends-again {window} {put} {a} {first} {next} {unacked} {fresh} kept at h =
    let inside = get-inside unacked next kept at in
    let same = again-length next unacked in
    let done_is = h.done_is in
    let in_window = h.in_window in
    record {
      here =
          ap (λ (l : List Segment). slice_get l (a + next)) h.put_is
          ∙ get-behind h.done (kept_segments unacked ++ fresh) next (a + next) (omega arith)
          ∙ get-before (kept_segments unacked) fresh next kept.segment (segment-at unacked next kept at);
      tx = rw h.first_is (add-on a next);
      sends = record {
        done = h.done;
        put_is = h.put_is ∙ ap (λ (l : List Segment). h.done ++ (l ++ fresh)) (sym (again-segments next unacked));
        done_is = h.done_is;
        first_is = h.first_is;
        next_in = omega arith;
        in_window = omega arith;
      };
    }

pub sends-new : {window : ℕ} {put : List Segment} {a first next : ℕ} {unacked : List Kept} {fresh : List Segment} (kept : Kept) (behind : List Segment) → fresh ≡ kept.segment ∷ behind → slice_get unacked next ≡ None → length unacked < window
    → Sends window put a first next unacked fresh → Given window put a first next kept.segment (unacked ++ kept ∷ []) behind
sends-new {window} {put} {a} {first} {next} {unacked} {fresh} kept behind fresh_is none room h =
    let past_end = get-none unacked next none in
    let next_in = h.next_in in
    let more = length-append unacked (kept ∷ []) in
    let segments = segments-length unacked in
    let done_is = h.done_is in
    let put_is : put ≡ h.done ++ (kept_segments unacked ++ kept.segment ∷ behind) = h.put_is ∙ ap (λ (l : List Segment). h.done ++ (kept_segments unacked ++ l)) fresh_is in
    record {
      here =
          ap (λ (l : List Segment). slice_get l (a + next)) put_is
          ∙ get-behind h.done (kept_segments unacked ++ kept.segment ∷ behind) next (a + next) (omega arith)
          ∙ get-behind (kept_segments unacked) (kept.segment ∷ behind) 0 next (omega arith);
      tx = rw h.first_is (add-on a next);
      sends = record {
        done = h.done;
        put_is =
            put_is ∙ ap (λ (l : List Segment). h.done ++ l) (sym (append_assoc (kept_segments unacked) (kept.segment ∷ []) behind))
            ∙ ap (λ (l : List Segment). h.done ++ (l ++ behind)) (sym (segments-more unacked kept));
        done_is = h.done_is;
        first_is = h.first_is;
        next_in = omega arith;
        in_window = omega arith;
      };
    }

pub cond-at_most : (again : Bool) (next k n : ℕ) → next - k ≤ n → cond again 0 (next - k) ≤ n
cond-at_most true next k n le = omega arith
cond-at_most false next k n le = le

-- the first k frames of the window are acknowledged
pub sends-acknowledged : {window : ℕ} {put : List Segment} {a first next : ℕ} {unacked : List Kept} {fresh : List Segment} (k : ℕ) (again : Bool) → k ≤ length unacked
    → Sends window put a first next unacked fresh → Sends window put (a + k) ((first + k) % 64) (cond again 0 (next - k)) (drop k unacked) fresh
sends-acknowledged {window} {put} {a} {first} {next} {unacked} {fresh} k again few h =
    let d = dropped k unacked few in
    let gone = d.gone_length in
    let rest = d.left_length in
    let more = length-append h.done d.gone in
    let done_is = h.done_is in
    let next_in = h.next_in in
    let in_window = h.in_window in
    record {
      done = h.done ++ d.gone;
      put_is =
          h.put_is ∙ ap (λ (l : List Segment). h.done ++ (l ++ fresh)) d.is
          ∙ ap (λ (l : List Segment). h.done ++ l) (append_assoc d.gone (kept_segments (drop k unacked)) fresh)
          ∙ sym (append_assoc h.done d.gone (kept_segments (drop k unacked) ++ fresh));
      done_is = omega arith;
      first_is = ap (λ (n : ℕ). (n + k) % 64) h.first_is ∙ add-on a k;
      next_in = cond-at_most again next k (length (drop k unacked)) (omega arith);
      in_window = omega arith;
    }

-- more is put behind all that was put
pub sends-taken : {window : ℕ} {put : List Segment} {a first next : ℕ} {unacked : List Kept} {fresh : List Segment} (more : List Segment) → fresh ≡ []
    → Sends window put a first next unacked fresh → Sends window (put ++ more) a first next unacked more
sends-taken {unacked = unacked} more none h = record {
  done = h.done;
  put_is =
      ap (λ (l : List Segment). l ++ more) (h.put_is ∙ ap (λ (l : List Segment). h.done ++ (kept_segments unacked ++ l)) none)
      ∙ ap (λ (l : List Segment). (h.done ++ l) ++ more) (append-nil (kept_segments unacked)) ∙ append_assoc h.done (kept_segments unacked) more;
  done_is = h.done_is;
  first_is = h.first_is;
  next_in = h.next_in;
  in_window = h.in_window;
}
