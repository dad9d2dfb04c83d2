-- A source that has come to its end.
use Rattle.std.proofs.Common.{◌≡◌, ℕ, List, [], drop, sym, subst}
use Rattle.std.specs.Prelude.{Option, None, Some, Result, Ok, Err, IfSome, OnOk}
use Rattle.bt_base.specs.Streams.{left_after}
use Rattle.bt_base.specs.declared.ports.PortFault.{PortFault}

-- none were read, and nothing was left before: nothing is left
nothing_left : (old new : Option (List ℕ)) → new ≡ left_after (Ok 0) old → IfSome old (λ left. left ≡ []) → IfSome new (λ left. left ≡ [])
nothing_left None new is none = subst (λ (content : Option (List ℕ)). IfSome content (λ left. left ≡ [])) (sym is) tt
nothing_left (Some left) new is none = subst (λ (content : Option (List ℕ)). IfSome content (λ left. left ≡ [])) (sym is) none

pub left_at_end : {T E : Type 0} → (n : ℕ) (old new : Option (List ℕ)) (result : Result T E) → n ≡ 0 → new ≡ left_after (Ok n) old → IfSome old (λ left. left ≡ []) → OnOk result (IfSome new (λ left. left ≡ []))
left_at_end n old new (Ok value) none is left = nothing_left old new (subst (λ (k : ℕ). new ≡ left_after (Ok k) old) none is) left
left_at_end n old new (Err fault) none is left = tt
