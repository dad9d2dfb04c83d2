-- What a frame does to the sender that hears it.
use Rattle.std.proofs.Common.{ℕ, ◌≡◌, ◌+◌, ◌-◌, ◌%◌, ◌≤◌, inl, inr, Bool, true, false, cond, List, ◌∷◌, length, drop, Option, Some, None, refl, sym, ◌∙◌, arith}
use Rattle.std.specs.Prelude.{◌&&◌}
use Rattle.std.proofs.lemmas.Bool.{le-ltb}
use Rattle.ertm_frames.specs.declared.frame.SKind.TheVariants.{Rr, Rej, Rnr, Srej}
use Rattle.ertm_frames.specs.Frames.{PlainFrame, information, supervisory}
use Rattle.ertm_frames.specs.Segments.{Segment}
use Rattle.ertm_frames.specs.Joining.{Begun}
use Rattle.ertm_frames.specs.Picking.{req_of}
use Rattle.ertm_model.specs.declared.reason.ErtmReason.TheVariants as reason
use Rattle.ertm_model.specs.Value.{Kept, Sender}
use Rattle.ertm_model.specs.Hearing.{past, acknowledged, asks_again, is_spent, sender_fault, selects_frames}
use Rattle.ertm_model.specs.Pair.{Sent}
use Rattle.ertm_model.specs.Order.{MayFly, Way, OnlyRetries}
use Rattle.ertm_model.proofs.Counting.{past-up}
use Rattle.ertm_model.proofs.Lists.{dropped}
use Rattle.ertm_model.proofs.Sending.{sends-acknowledged}
use Rattle.ertm_model.proofs.Queues.{flies-still, rises-between}

-- a ReqSeq that is on its way acknowledges as many frames as it should
pub record Acknowledges (window mtu first next : ℕ) (unacked : List Kept) (fresh put : List Segment) (sdus : List (List ℕ)) (flying : List Sent) (expected : ℕ) (begun : Option Begun) (got : List Segment) (up : List (List ℕ)) (sent : Sent) (queue : List Sent) (k a : ℕ) : Type 0 where
  pub few : k ≤ length unacked
  pub is : a + k ≡ sent.asks
  pub after : (again : Bool) → Way window mtu ((first + k) % 64) (cond again 0 (next - k)) (drop k unacked) fresh put sdus flying expected begun got up (sent ∷ queue)

pub acknowledges :
    {window mtu first next : ℕ} {unacked : List Kept} {fresh put : List Segment} {sdus : List (List ℕ)} {flying : List Sent} {expected : ℕ} {begun : Option Begun} {got : List Segment} {up : List (List ℕ)} (sent : Sent) (queue : List Sent) (k : ℕ)
    → window ≤ 63 → past first (req_of sent.frame) ≡ k → (h : Way window mtu first next unacked fresh put sdus flying expected begun got up (sent ∷ queue))
    → Acknowledges window mtu first next unacked fresh put sdus flying expected begun got up sent queue k h.a
acknowledges {window} {mtu} {first} {next} {unacked} {fresh} {put} {sdus} {flying} {expected} {begun} {got} {up} sent queue k small is h =
    let low = h.rises.0 in
    let high = rises-between sent.asks (length got) queue h.rises.2 in
    let c_n = h.c_n in
    let in_window = h.sends.in_window in
    let steps : sent.asks - h.a ≡ k = sym (past-up h.a sent.asks low (omega arith)) ∙ rw (← h.sends.first_is, ← h.rises.1) is in
    let few : k ≤ length unacked = omega arith in
    let rest = (dropped k unacked few).left_length in
    record {
      few = few;
      is = omega arith;
      after = λ again. record {
        a = h.a + k;
        sends = sends-acknowledged k again few h.sends;
        accepts = h.accepts;
        holds = h.holds;
        a_c = omega arith;
        c_n = omega arith;
        flies = flies-still window put (h.a + length unacked) (h.a + k + length (drop k unacked)) (length got) (length got) flying (omega arith) (omega arith) h.flies;
        rises = (omega arith, h.rises.1, h.rises.2);
      };
    }

-- and nothing that is on its way closes a sender, but for want of tries

pub may-close : (b : Bool) → OnlyRetries (cond b (Some reason.RetryLimit) None)
may-close true = inr refl
may-close false = inl refl

pub selects-none : (window : ℕ) (put : List Segment) (given reach number : ℕ) (frame : PlainFrame) → MayFly window put given reach number frame → selects_frames frame ≡ false
selects-none window put given reach number (information tx final req sar total octets) may = refl
selects-none window put given reach number (supervisory Rr poll final req) may = refl
selects-none window put given reach number (supervisory Rej poll final req) may = refl
selects-none window put given reach number (supervisory Rnr poll final req) may = refl
selects-none window put given reach number (supervisory Srej poll final req) may = elim may [ inl e ↦ cc | inr e ↦ cc ]

pub no-sender_fault : (tries : ℕ) (frame : PlainFrame) (s : Sender) → acknowledged frame s ≤ length s.unacked → selects_frames frame ≡ false → OnlyRetries (sender_fault tries frame s)
no-sender_fault tries frame s few none =
    let e = le-ltb (length s.unacked) (acknowledged frame s) few in
    rw (e, none) (may-close (asks_again s.poll frame && is_spent tries (drop (acknowledged frame s) s.unacked)))
