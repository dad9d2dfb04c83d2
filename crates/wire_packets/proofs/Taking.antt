-- What a decoder that holds nothing takes of a whole packet on the line.
use Rattle.std.proofs.Common.{◌≡◌, ◌≢◌, ℕ, ◌+◌, ◌<◌, ◌≤◌, List, [], ◌∷◌, ◌++◌, length, take, drop, Ok, Err, Result, inl, inr, refl, sym, ap, subst, ◌∙◌, arith, length-append}
use Rattle.std.proofs.lemmas.List.{take-append-drop, take_all, take-append-le, append-nil}
use Rattle.std.proofs.lemmas.Bool.{cases_lt}
use Rattle.wire_packets.specs.declared.refusal.WireRefusal.{WireRefusal}
use Rattle.wire_packets.specs.declared.stepping.Place.{Place}
use Rattle.wire_packets.specs.declared.stepping.Place.TheVariants.{Outside, Inside, Escaping}
use Rattle.wire_packets.specs.declared.slip.SlipTaken.{SlipTaken}
use Rattle.wire_packets.specs.declared.slip.SlipTaken.TheVariants.{Packet, Bad, More}
use Rattle.wire_packets.specs.Slip.{delimiter, all_escaped, slip, longest, Found}
use Rattle.wire_packets.specs.Stepping.{Slipping, standing, after, found, Completes, Takes}
use Rattle.wire_packets.proofs.Walking.{after-append, found-append}
use Rattle.wire_packets.proofs.Finding.{Goes, goes_then, spelled_front, whole_found}

none_in_front : (fs gs : List Found) → fs ++ gs ≡ [] → fs ≡ []
none_in_front [] gs e = refl
none_in_front (f ∷ fs) gs e = absurd cc

-- nothing is found in the beginning of what nothing is found in
found-take : (s : Slipping) (n : ℕ) (xs : List ℕ) → found s xs ≡ [] → found s (take n xs) ≡ []
found-take s n xs none = none_in_front (found s (take n xs)) (found (after s (take n xs)) (drop n xs))
    (sym (found-append s (take n xs) (drop n xs)) ∙ ap (found s) (take-append-drop n xs) ∙ none)

-- a decoder that holds nothing
pub data Rests (s : Slipping) : Type 0 where
  outside : s ≡ standing Outside [] → Rests s
  inside : s ≡ standing Inside [] → Rests s

record Over (s : Slipping) (octets : List ℕ) : Type 0 where
  pub before : found s (delimiter ∷ all_escaped octets) ≡ []
  pub there : found s (slip octets) ≡ Ok octets ∷ []
  pub becomes : after s (slip octets) ≡ standing Inside []

over : (s : Slipping) (octets : List ℕ) → Rests s → octets ≢ [] → length octets ≤ longest → Over s octets
over s octets (outside is) some fits =
    let g = spelled_front octets fits in let w = whole_found octets some fits in
    subst (λ (x : Slipping). Over x octets) (sym is) (record { before = g.finds; there = w.0; becomes = w.1 })
over s octets (inside is) some fits =
    let g = spelled_front octets fits in let w = whole_found octets some fits in
    subst (λ (x : Slipping). Over x octets) (sym is) (record { before = g.finds; there = w.2; becomes = w.3 })

-- what is completed is completed with the last octet
completes_last : (s new : Slipping) (octets : List ℕ) (n : ℕ) (what : Found) → Over s octets → Completes s (slip octets) n what new → (what ≡ Ok octets) × (new ≡ standing Inside [])
completes_last s new octets n what o c = elim (cases_lt n (length (slip octets))) [
  | inl short ↦
      let front = delimiter ∷ all_escaped octets in
      let le : n ≤ length front = omega (arith, length-append (all_escaped octets) (delimiter ∷ [])) in
      let none : found s (take n (slip octets)) ≡ [] = ap (found s) (take-append-le n front (delimiter ∷ []) le) ∙ found-take s n front o.before in
      let clash : [] ≡ what ∷ [] = sym none ∙ c.there in absurd cc
  | inr all ↦
      let e : take n (slip octets) ≡ slip octets = take_all n (slip octets) all in
      let same : what ∷ [] ≡ Ok octets ∷ [] = sym c.there ∙ ap (found s) e ∙ o.there in
      (cc, c.becomes ∙ ap (after s) e ∙ o.becomes)
]

abbrev pub TakesWhole : List ℕ → SlipTaken → Slipping → Type 0
TakesWhole octets (Packet bytes n) new = (bytes.now ≡ octets) × (new ≡ standing Inside [])
TakesWhole octets (Bad refusal n) new = ⊥
TakesWhole octets More new = ⊥

same_octets : (a b : List ℕ) → (let r : Found = Ok a in r) ≡ Ok b → a ≡ b
same_octets a b e = cc

pub takes_whole : (old new : Slipping) (octets : List ℕ) (taken : SlipTaken) → Rests old → octets ≢ [] → length octets ≤ longest → Takes old (slip octets) taken new → TakesWhole octets taken new
takes_whole old new octets (Packet bytes n) rests some fits t =
    let c = completes_last old new octets n (Ok bytes.now) (over old octets rests some fits) t in (same_octets bytes.now octets c.0, c.1)
takes_whole old new octets (Bad refusal n) rests some fits t =
    let c = completes_last old new octets n (Err refusal) (over old octets rests some fits) t in let e = c.0 in absurd cc
takes_whole old new octets More rests some fits t =
    let o = over old octets rests some fits in let clash : [] ≡ Ok octets ∷ [] = sym t.0 ∙ o.there in absurd cc
