-- Two ends with nothing to give, of which one awaits no answer and has no frames that are not acknowledged: all that it took the other handed up.
use Rattle.std.proofs.Common.{◌≡◌, inl, inr, true, false, List, [], ◌∷◌, ◌++◌, length, None, refl, ap, sym, ◌∙◌, arith, append-nil, length-append}
use Rattle.channel_laws.specs.ertm_frames.specs.Segments.{Segment}
use Rattle.channel_laws.specs.ertm_frames.specs.Joining.{At, ended}
use Rattle.channel_laws.specs.ertm_model.specs.Value.{NoPoll, Waits}
use Rattle.channel_laws.specs.ertm_model.specs.Pair.{End}
use Rattle.channel_laws.specs.ertm_model.specs.Order.{Stands}
use Rattle.channel_laws.specs.ertm_model.specs.Recovery.{IsDone}
use Rattle.channel_laws.specs.ertm_model.proofs.Resting.{at_rest, silent}
use Rattle.channel_laws.specs.ertm_model.proofs.Sending.{put-length}
use Rattle.recovery_laws.specs.Facts.{IsSettled}
use Rattle.passing_laws.specs.Channels.{IsIdle}

no_left : (left : List Segment) → length left ≡ 0 → left ≡ []
no_left [] e = refl
no_left (segment ∷ left) e = absurd (omega (arith, e))

fresh_gone : (x y : End) → Stands x y → IsSettled x → x.machine.sender.busy ≡ false → IsIdle x.machine → x.machine.sender.fresh ≡ []
fresh_gone x y s settled ready (no_poll, none_kept) =
    let used = ap length none_kept in
    elim (at_rest x.machine settled.is_open (silent x.machine settled.is_silent)).rests [
      | inl waits ↦ (let never : NoPoll ≡ Waits = sym no_poll ∙ waits in absurd cc)
      | inr (poll, inl busy) ↦ (let e : true ≡ false = sym busy ∙ ready in absurd cc)
      | inr (poll, inr (free, spent)) ↦ elim spent.full [ inl none ↦ none | inr full ↦ absurd (let some = s.meets.some in omega arith) ]
    ]

pub idle-done : (x y : End) → Stands x y → IsSettled x → x.machine.sender.busy ≡ false → IsIdle x.machine → IsDone x y
idle-done x y s settled ready idle =
    let used = ap length idle.1 in
    let none = fresh_gone x y s settled ready idle in
    let none_long = ap length none in
    let long = put-length s.there.sends in
    let a_c = s.there.a_c in
    let split = ap length s.there.accepts.put_is ∙ length-append y.got s.there.accepts.left in
    let left : s.there.accepts.left ≡ [] = no_left s.there.accepts.left (omega arith) in
    let same : x.put ≡ y.got = s.there.accepts.put_is ∙ ap (λ (l : List Segment). y.got ++ l) left ∙ append-nil y.got in
    record {
      all_up = sym s.there.holds.sdus_are ∙ ap (λ (l : List Segment). ended (At None) l) same ∙ s.there.accepts.up_is;
      none_kept = idle.1;
      none_fresh = none;
    }
