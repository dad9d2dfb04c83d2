-- Two ends at rest, one of which is not armed.
use Rattle.std.proofs.Common.{ℕ, ◌≡◌, ◌+◌, ◌<◌, ◌≤◌, ◌⊎◌, inl, inr, Bool, true, false, Some, None, List, [], ◌∷◌, ◌++◌, length, refl, ap, sym, ◌∙◌, arith, append-nil, length-append}
use Rattle.std.specs.Prelude.{◌||◌, nat_lt}
use Rattle.std.proofs.lemmas.Bool.Decides.{leb_tells}
use Rattle.ertm_frames.specs.Segments.{Segment}
use Rattle.ertm_frames.specs.Joining.{At, ended}
use Rattle.ertm_model.specs.Value.{Kept, armed}
use Rattle.ertm_model.specs.Pair.{End, Pair, new_pair}
use Rattle.ertm_model.specs.Order.{Stands, StandsBoth}
use Rattle.ertm_model.specs.Recovery.{IsAtRest, Happening, happened, all_happened, AllMayHappen, all_costs, IsDone, RestIsDone}
use Rattle.ertm_model.proofs.Sending.{put-length}
use Rattle.ertm_model.proofs.Standing.{new-stands, swapped}
use Rattle.ertm_model.proofs.Affording.{Account, Accounts}
use Rattle.ertm_model.proofs.Resting.{happened_stands, all_accounts, new_account, at_rest, silent, turned_rest}

neither : (a b : Bool) → (a || b) ≡ false → (a ≡ false) × (b ≡ false)
neither true b e = cc
neither false b e = (refl, e)

none_there : (n : ℕ) → nat_lt 0 n ≡ false → n ≡ 0
none_there n is = elim (leb_tells 1 n) [
  | inl (e, le) ↦ (let f : true ≡ false = sym e ∙ is in cc)
  | inr (e, lt) ↦ omega arith
]

no_kept : (unacked : List Kept) → length unacked ≡ 0 → unacked ≡ []
no_kept [] e = refl
no_kept (kept ∷ unacked) e = absurd (omega arith)

no_left : (left : List Segment) → length left ≡ 0 → left ≡ []
no_left [] e = refl
no_left (segment ∷ left) e = absurd (omega arith)

fresh_gone : (wrong : ℕ) (x y : End) → Stands x y → Account wrong x y → IsAtRest x y → x.machine.sender.polls ≡ 0 → length x.machine.sender.unacked ≡ 0 → x.machine.sender.fresh ≡ []
fresh_gone wrong x y s h rest polls used = elim (at_rest x.machine rest.open_x (silent x.machine rest.silent_x)).rests [
  | inl waits ↦ (let some = (h.pays rest.open_x).pays.some waits in absurd (omega arith))
  | inr (no_poll, inl busy) ↦ (let e : true ≡ false = sym busy ∙ h.ready in cc)
  | inr (no_poll, inr (ready, spent)) ↦ elim spent.full [ inl none ↦ none | inr full ↦ absurd (let some = s.meets.some in omega arith) ]
]

unarmed_done : (wrong : ℕ) (x y : End) → Stands x y → Account wrong x y → IsAtRest x y → armed x.machine ≡ false → IsDone x y
unarmed_done wrong x y s h rest unarmed =
    let both = neither (nat_lt 0 (length x.machine.sender.unacked)) (nat_lt 0 x.machine.sender.polls) unarmed in
    let used = none_there (length x.machine.sender.unacked) both.0 in
    let none = fresh_gone wrong x y s h rest (none_there x.machine.sender.polls both.1) used in
    let none_long = ap length none in
    let long = put-length s.there.sends in
    let a_c = s.there.a_c in
    let split = ap length s.there.accepts.put_is ∙ length-append y.got s.there.accepts.left in
    let left : s.there.accepts.left ≡ [] = no_left s.there.accepts.left (omega arith) in
    let same : x.put ≡ y.got = s.there.accepts.put_is ∙ ap (λ (l : List Segment). y.got ++ l) left ∙ append-nil y.got in
    record {
      all_up = sym s.there.holds.sdus_are ∙ ap (λ (l : List Segment). ended (At None) l) same ∙ s.there.accepts.up_is;
      none_kept = no_kept x.machine.sender.unacked used;
      none_fresh = none;
    }

all_stand : (happenings : List Happening) (p : Pair) → AllMayHappen happenings p → StandsBoth p → StandsBoth (all_happened happenings p)
all_stand [] p may s = s
all_stand (happening ∷ happenings) p may s = all_stand happenings (happened happening p) may.1 (happened_stands happening p may.0 s)

pub rest-is_done : RestIsDone
rest-is_done a b happenings meets met may rest =
    let p = all_happened happenings (new_pair a b) in
    let s : StandsBoth p = all_stand happenings (new_pair a b) may (new-stands a b meets met) in
    let h = all_accounts 0 happenings (new_pair a b) may (new-stands a b meets met) (record { there = new_account a b; back = new_account b a }) in (
      (λ unarmed. unarmed_done (0 + all_costs happenings) p.a p.b s h.there rest unarmed),
      (λ unarmed. unarmed_done (0 + all_costs happenings) p.b p.a (swapped s) h.back (turned_rest rest) unarmed),
    )
