-- What a client makes of the responses of its server (IrOBEX 1.5, 3.1 and 3.2; Generic Object Exchange Profile 2.1, 4.6).
use Rattle.std.specs.Prelude.{ℕ, ◌≡◌, false, List, ◌∷◌}
use Rattle.push_laws.specs.push_model.specs.obex_session.specs.Pairs.{HoldsAtEachMove}
use Rattle.push_laws.specs.Blames.{ResponseBlames}

-- Wherever the packets have moved to, the next response blames the server for nothing (`false`: each request goes out whole).
abbrev pub PairsBlameNone : Type 0
PairsBlameNone = HoldsAtEachMove (λ name size content b. (response : List ℕ) (rest : List (List ℕ)) (reason : ℕ) → b.responses ≡ response ∷ rest → ResponseBlames response b.client false reason → ⊥)
