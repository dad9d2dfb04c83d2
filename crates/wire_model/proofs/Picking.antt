-- One packet more that came, and what is picked then.
use Rattle.std.proofs.Common.{◌≡◌, ℕ, suc, ◌+◌, ◌%◌, Bool, true, false, cond, ◌||◌, ◌&&◌, List, [], ◌∷◌, ◌++◌, length, eqb, refl, ap, ◌∙◌, arith, inl, inr}
use Rattle.std.proofs.lemmas.Bool.{cases_Bool}
use Rattle.std.proofs.lemmas.List.{append-nil}
use Rattle.std.proofs.lemmas.List.Elements.{filter_map-append}
use Rattle.wire_packets.specs.Packets.{Packet}
use Rattle.wire_model.specs.Machine.{Unit}
use Rattle.wire_model.specs.Trace.{Crossing, came_to_second, came, is_config_response, behind_response, has_number, picked}

-- a CONFIG RESPONSE has come
abbrev pub has_come : List Packet → Bool
has_come [] = false
has_come (p ∷ ps) = is_config_response p || has_come ps

abbrev pub unit_in : Packet → Unit
unit_in p = record { kind = p.kind; octets = p.payload }

abbrev pub picked_at : Bool → Packet → List Unit
picked_at true p = unit_in p ∷ []
picked_at false p = []

pub has_come-push : (ps : List Packet) (p : Packet) → has_come (ps ++ p ∷ []) ≡ (has_come ps || is_config_response p)
has_come-push [] p = elim (is_config_response p) as (λ b. (b || false) ≡ b) [ true ↦ refl | false ↦ refl ]
has_come-push (q ∷ qs) p = ap (λ b. is_config_response q || b) (has_come-push qs p) ∙ assoc (is_config_response q) (has_come qs) (is_config_response p)
  where
    assoc : (a b c : Bool) → (a || (b || c)) ≡ ((a || b) || c)
    assoc true b c = refl
    assoc false b c = refl

pub behind_push : (ps : List Packet) (p : Packet) → has_come ps ≡ true → behind_response (ps ++ p ∷ []) ≡ behind_response ps ++ p ∷ []
behind_push [] p h = absurd cc
behind_push (q ∷ qs) p h = elim (cases_Bool (is_config_response q)) [
  | inl e ↦ rw e refl
  | inr e ↦ rw e (behind_push qs p (rw e at h))
]

-- before it nothing is behind it
pub behind_none : (ps : List Packet) → has_come ps ≡ false → behind_response ps ≡ []
behind_none [] h = refl
behind_none (q ∷ qs) h = elim (cases_Bool (is_config_response q)) [
  | inl e ↦ absurd (let x = rw e at h in cc)
  | inr e ↦ rw e (behind_none qs (rw e at h))
]

pub behind_first : (ps : List Packet) (p : Packet) → has_come ps ≡ false → behind_response (ps ++ p ∷ []) ≡ []
behind_first [] p h = elim (is_config_response p) as (λ b. (let xs : List Packet = cond b [] [] in xs) ≡ []) [ true ↦ refl | false ↦ refl ]
behind_first (q ∷ qs) p h = elim (cases_Bool (is_config_response q)) [
  | inl e ↦ absurd (let x = rw e at h in cc)
  | inr e ↦ rw e (behind_first qs p (rw e at h))
]

pick_one : (n : ℕ) (p : Packet) → picked n (p ∷ []) ≡ picked_at (has_number n p) p
pick_one n p = elim (has_number n p) as (λ b. (let us : List Unit = cond b (unit_in p ∷ []) [] in us) ≡ picked_at b p) [ true ↦ refl | false ↦ refl ]

pub picked-push : (n : ℕ) (ps : List Packet) (p : Packet) → picked n (ps ++ p ∷ []) ≡ picked n ps ++ picked_at (has_number (n + length (picked n ps)) p) p
picked-push n [] p = let e : n ≡ n + 0 = omega arith in pick_one n p ∙ ap (λ (k : ℕ). picked_at (has_number k p) p) e
picked-push n (q ∷ qs) p = elim (cases_Bool (has_number n q)) [
  | inl e ↦ rw e (let k : n + 1 + length (picked (n + 1) qs) ≡ n + suc (length (picked (n + 1) qs)) = omega arith in
      ap (λ us. unit_in q ∷ us) (picked-push (n + 1) qs p ∙ ap (λ (j : ℕ). picked (n + 1) qs ++ picked_at (has_number j p) p) k))
  | inr e ↦ rw e (picked-push n qs p)
]

-- a packet that is not reliable brings nothing
pub picks_none : (n : ℕ) (ps : List Packet) (p : Packet) → p.reliable ≡ false → picked n (ps ++ p ∷ []) ≡ picked n ps
picks_none n ps p plain = picked-push n ps p ∙ ap (λ (b : Bool). picked n ps ++ picked_at (b && eqb p.seq ((n + length (picked n ps)) % 8)) p) plain ∙ append-nil (picked n ps)

pub came-append : (a b : List Crossing) → came (a ++ b) ≡ came a ++ came b
came-append a b = filter_map-append (λ (c : Crossing). came_to_second c.way c.lost c.packet) a b
