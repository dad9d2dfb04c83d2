-- Items that stand one after the other are read in one way.
use Rattle.std.proofs.Common.{◌≡◌, List, [], ◌∷◌, ◌++◌, ℕ, refl, sym, ap, ◌∙◌, append_assoc}
use Rattle.std.specs.List.{AllByRecursion, flat_map}

-- no item stands at the front of octets
abbrev pub NoItem : {I : Type 0} → (I → List ℕ) → (I → Type 0) → List ℕ → Type 0
NoItem {I} octets IsItem front = (item : I) (more : List ℕ) → IsItem item → front ≡ octets item ++ more → ⊥

-- one item at most stands at the front of octets
abbrev pub OneItem : {I : Type 0} → (I → List ℕ) → (I → Type 0) → Type 0
OneItem {I} octets IsItem = (item other : I) (x y : List ℕ) → IsItem item → IsItem other → octets item ++ x ≡ octets other ++ y → (item ≡ other) × (x ≡ y)

pub same_items : {I : Type 0} (octets : I → List ℕ) (IsItem : I → Type 0) → OneItem octets IsItem → (items others : List I) (x y : List ℕ) → AllByRecursion IsItem items → AllByRecursion IsItem others
    → NoItem octets IsItem x → NoItem octets IsItem y → flat_map octets items ++ x ≡ flat_map octets others ++ y → (items ≡ others) × (x ≡ y)
same_items octets IsItem one [] [] x y p q none none' e = (refl, e)
same_items octets IsItem one [] (b ∷ ts) x y p q none none' e = absurd (none b (flat_map octets ts ++ y) q.0 (e ∙ append_assoc (octets b) (flat_map octets ts) y))
same_items octets IsItem one (a ∷ us) [] x y p q none none' e = absurd (none' a (flat_map octets us ++ x) p.0 (sym e ∙ append_assoc (octets a) (flat_map octets us) x))
same_items octets IsItem one (a ∷ us) (b ∷ ts) x y p q none none' e =
    let first = one a b (flat_map octets us ++ x) (flat_map octets ts ++ y) p.0 q.0 (sym (append_assoc (octets a) (flat_map octets us) x) ∙ e ∙ append_assoc (octets b) (flat_map octets ts) y) in
    let behind = same_items octets IsItem one us ts x y p.1 q.1 none none' first.1 in
    (ap (λ i. i ∷ us) first.0 ∙ ap (λ is. b ∷ is) behind.0, behind.1)
