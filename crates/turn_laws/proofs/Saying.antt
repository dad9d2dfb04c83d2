-- What a machine says until it has nothing to say.
use Rattle.std.proofs.Common.{ℕ, zero, suc, ◌≡◌, ◌≤◌, List, [], ◌∷◌, Option, Some, None, refl, ap, sym, ◌∙◌, arith}
use Rattle.world_model.specs.Machines.{Upper, Spoken, said_next, drain, all_said}

none_left : {S G : Type 0} (U : Upper S G) (s : S) (next : Option (List ℕ × S)) → U.next s ≡ next → U.left s ≤ 0 → next ≡ None
none_left U s None is few = refl
none_left U s (Some one) is few = absurd (let less = U.falls s one.0 one.1 is in omega arith)

same_next :
    {S G : Type 0} (U : Upper S G) (s : S) (f g : S → Spoken S) (next : Option (List ℕ × S)) → U.next s ≡ next
    → ((pdu : List ℕ) (t : S) → U.next s ≡ Some (pdu, t) → f t ≡ g t) → said_next s next f ≡ said_next s next g
same_next U s f g None is same = refl
same_next {S} U s f g (Some one) is same = ap (λ (spoken : Spoken S). record { said = one.0 ∷ spoken.said; after = spoken.after }) (same one.0 one.1 is)

pub drain_none : {S G : Type 0} (U : Upper S G) (count : ℕ) (s : S) → U.next s ≡ None → drain U count s ≡ record { said = []; after = s }
drain_none U zero s none = refl
drain_none U (suc count) s none = rw none refl

pub drain_some :
    {S G : Type 0} (U : Upper S G) (count : ℕ) (s : S) (pdu : List ℕ) (t : S) → U.next s ≡ Some (pdu, t)
    → drain U (suc count) s ≡ record { said = pdu ∷ (drain U count t).said; after = (drain U count t).after }
drain_some U count s pdu t is = rw is refl

drain_enough : {S G : Type 0} (U : Upper S G) (m n : ℕ) (s : S) → U.left s ≤ m → U.left s ≤ n → drain U m s ≡ drain U n s
drain_enough U zero n s few also = sym (drain_none U n s (none_left U s (U.next s) refl few))
drain_enough U (suc m) zero s few also = drain_none U (suc m) s (none_left U s (U.next s) refl also)
drain_enough U (suc m) (suc n) s few also =
    same_next U s (λ t. drain U m t) (λ t. drain U n t) (U.next s) refl
    (λ pdu t is. let less = U.falls s pdu t is in drain_enough U m n t (omega arith) (omega arith))

pub all_said_none : {S G : Type 0} (U : Upper S G) (s : S) → U.next s ≡ None → all_said U s ≡ record { said = []; after = s }
all_said_none U s none = drain_none U (U.left s) s none

pub all_said_some :
    {S G : Type 0} (U : Upper S G) (s : S) (pdu : List ℕ) (t : S) → U.next s ≡ Some (pdu, t)
    → all_said U s ≡ record { said = pdu ∷ (all_said U t).said; after = (all_said U t).after }
all_said_some {S} U s pdu t is =
    let less = U.falls s pdu t is in
    let more : drain U (U.left s) s ≡ drain U (suc (U.left s)) s = drain_enough U (U.left s) (suc (U.left s)) s (omega arith) (omega arith) in
    let same : drain U (U.left s) t ≡ all_said U t = drain_enough U (U.left s) (U.left t) t (omega arith) (omega arith) in
    more ∙ drain_some U (U.left s) s pdu t is ∙ ap (λ (spoken : Spoken S). record { said = pdu ∷ spoken.said; after = spoken.after }) same
