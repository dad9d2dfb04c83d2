-- Places of handles.
use Rattle.std.proofs.Common.{◌≡◌, ℕ, zero, suc, List, [], ◌∷◌, ◌++◌, get_or, Option, None, replicate, refl}

none_behind : {T : Type 0} (count handle : ℕ) → get_or (replicate {A = Option T} count None) handle None ≡ None
none_behind zero handle = refl
none_behind (suc count) zero = refl
none_behind {T} (suc count) (suc handle) = none_behind {T = T} count handle

-- places without a link say what no places say
pub same_places : {T : Type 0} (places : List (Option T)) (count handle : ℕ) → get_or (places ++ replicate count None) handle None ≡ get_or places handle None
same_places {T} [] count handle = none_behind {T = T} count handle
same_places (place ∷ places) count zero = refl
same_places (place ∷ places) count (suc handle) = same_places places count handle
