-- A joiner answers with the PDUs that groups give.
use Rattle.std.proofs.Common.{◌≡◌, ℕ, zero, suc, ◌+◌, ◌≤◌, ◌<◌, List, [], ◌∷◌, ◌++◌, length, take, Bool, true, false, cond, eqb, ltb, refl, sym, ap, subst, ◌∙◌, length-append, inl, inr, arith}
use Rattle.std.specs.Prelude.{◌⊎◌}
use Rattle.std.proofs.lemmas.Bool.{cases_Bool, cases_lt, le-ltb, ltb-false, ltb-true, eqb-true, eq-eqb, ne_eqb}
use Rattle.std.proofs.lemmas.List.{append-nil, take_all, take-append-le, nil_from_length}
use Rattle.byteorder.specs.Numbers.{little_from-append}
use Rattle.acl_fragments.specs.declared.joined.DropReason.TheVariants.{StrayContinuation, Overrun, AboveLimit, ShortStart}
use Rattle.acl_fragments.specs.Pieces.{Piece, starts, pdu_length, channel_of, joined}
use Rattle.acl_fragments.specs.Groups.{GivesPdu, last_group}
use Rattle.acl_fragments.specs.Answers.{Pdu, More, Dropped, start_answer, next_answer, open_octets, open_after, answer}
use Rattle.acl_fragments.proofs.Grouping.{extended, regrouped, last_group-append}
use Rattle.acl_fragments.proofs.Holding.{joined-append}
use Rattle.acl_fragments.proofs.Frames.{gives_whole}

whole_start : (short above long equal : Bool) (c channel : ℕ) (octets pdu : List ℕ)
    → cond short (Dropped ShortStart) (cond above (Dropped Overrun) (cond long (Dropped AboveLimit) (cond equal (Pdu c octets) More))) ≡ Pdu channel pdu
    → (short ≡ false) × (long ≡ false) × (equal ≡ true) × (c ≡ channel) × (octets ≡ pdu)
whole_start true above long equal c channel octets pdu e = absurd cc
whole_start false true long equal c channel octets pdu e = absurd cc
whole_start false false true equal c channel octets pdu e = absurd cc
whole_start false false false true c channel octets pdu e = (refl, refl, refl, cc, cc)
whole_start false false false false c channel octets pdu e = absurd cc

whole_next : (none above equal : Bool) (c channel : ℕ) (octets pdu : List ℕ)
    → cond none (Dropped StrayContinuation) (cond above (Dropped Overrun) (cond equal (Pdu c octets) More)) ≡ Pdu channel pdu
    → (equal ≡ true) × (c ≡ channel) × (octets ≡ pdu)
whole_next true above equal c channel octets pdu e = absurd cc
whole_next false true equal c channel octets pdu e = absurd cc
whole_next false false true c channel octets pdu e = (refl, cc, cc)
whole_next false false false c channel octets pdu e = absurd cc

abbrev IsOpenGroup : ℕ → List ℕ → List (List ℕ) → Type 0
IsOpenGroup limit start rest =
    (open_octets limit (start ∷ rest) ≡ joined (start ∷ rest)) × (4 ≤ length start) × (pdu_length start ≤ limit) × (length (joined (start ∷ rest)) < pdu_length start)

abbrev IsShutGroup : ℕ → List ℕ → List (List ℕ) → Type 0
IsShutGroup limit start rest =
    (open_octets limit (start ∷ rest) ≡ []) × (4 ≤ length start → pdu_length start ≤ limit → pdu_length start ≤ length (joined (start ∷ rest)))

open_or_shut : (limit : ℕ) (start : List ℕ) (rest : List (List ℕ)) → IsOpenGroup limit start rest ⊎ IsShutGroup limit start rest
open_or_shut limit start rest =
    elim (cases_Bool (ltb (length start) 4)) [
      | inl short ↦ inr (rw short refl, λ four within. absurd (omega (arith, ltb-true (length start) 4 short)))
      | inr header ↦
          elim (cases_Bool (ltb limit (pdu_length start))) [
            | inl long ↦ inr (rw (header, long) refl, λ four within. absurd (omega (arith, ltb-true limit (pdu_length start) long)))
            | inr fits ↦
                elim (cases_Bool (ltb (length (joined (start ∷ rest))) (pdu_length start))) [
                  | inl below ↦ inl (rw (header, fits, below) refl, ltb-false (length start) 4 header, ltb-false limit (pdu_length start) fits, ltb-true (length (joined (start ∷ rest))) (pdu_length start) below)
                  | inr full ↦ inr (rw (header, fits, full) refl, λ four within. ltb-false (length (joined (start ∷ rest))) (pdu_length start) full)
                ]
          ]
    ]

says_length : (start : List ℕ) (rest : List (List ℕ)) → 4 ≤ length start → pdu_length (joined (start ∷ rest)) ≡ pdu_length start
says_length start rest header = ap (λ (n : ℕ). 4 + n) (little_from-append 2 start (joined rest) (omega arith))

given_start : (limit : ℕ) (octets : List ℕ) (channel : ℕ) (pdu : List ℕ) → start_answer limit octets ≡ Pdu channel pdu → GivesPdu limit (octets ∷ []) pdu × (channel ≡ channel_of pdu)
given_start limit octets channel pdu e =
    let n : ℕ = pdu_length octets in
    let parts = whole_start (ltb (length octets) 4) (ltb n (length octets)) (ltb limit n) (eqb n (length octets)) (channel_of octets) channel octets pdu e in
    let says : length octets ≡ n = sym (eqb-true n (length octets) parts.2) in
    let given = gives_whole limit octets [] octets (ltb-false (length octets) 4 parts.0) (ltb-false limit n parts.1) says (append-nil octets) in
    (subst (λ (p : List ℕ). GivesPdu limit (octets ∷ []) p) parts.4 given, sym parts.3 ∙ ap channel_of parts.4)

given_next : (limit : ℕ) (group : List (List ℕ)) (octets : List ℕ) (channel : ℕ) (pdu : List ℕ) → next_answer (open_octets limit group) octets ≡ Pdu channel pdu → GivesPdu limit (extended group octets) pdu × (channel ≡ channel_of pdu)
given_next limit [] octets channel pdu e = absurd cc
given_next limit (start ∷ rest) octets channel pdu e =
    elim (open_or_shut limit start rest) [
      | inl is_open ↦
          let held : List ℕ = joined (start ∷ rest) in
          let at_held : next_answer held octets ≡ Pdu channel pdu = ap (λ (h : List ℕ). next_answer h octets) (sym is_open.0) ∙ e in
          let n : ℕ = pdu_length held in
          let k : ℕ = length held + length octets in
          let parts = whole_next (eqb (length held) 0) (ltb n k) (eqb n k) (channel_of (held ++ octets)) channel (held ++ octets) pdu at_held in
          let says : length (held ++ octets) ≡ pdu_length start = length-append held octets ∙ sym (eqb-true n k parts.0) ∙ says_length start rest is_open.1 in
          let given = gives_whole limit start (rest ++ octets ∷ []) (held ++ octets) is_open.1 is_open.2 says (joined-append (start ∷ rest) octets) in
          (subst (λ (p : List ℕ). GivesPdu limit (start ∷ (rest ++ octets ∷ [])) p) parts.2 given, sym parts.1 ∙ ap channel_of parts.2)
      | inr is_shut ↦
          let stray : Dropped StrayContinuation ≡ Pdu channel pdu = ap (λ (h : List ℕ). next_answer h octets) (sym is_shut.0) ∙ e in
          absurd cc
    ]

alone : (octets pdu : List ℕ) (count : ℕ) → pdu ≡ joined (take count (octets ∷ [])) → 1 ≤ length pdu → pdu ≡ octets
alone octets pdu zero e some = absurd (omega (arith, ap length e))
alone octets pdu (suc count) e some = e ∙ ap (λ (r : List (List ℕ)). octets ++ joined r) (take_all count [] (omega arith)) ∙ append-nil octets

answered_start : (limit : ℕ) (octets pdu : List ℕ) → GivesPdu limit (octets ∷ []) pdu → start_answer limit octets ≡ Pdu (channel_of pdu) pdu
answered_start limit octets pdu given =
    let same : pdu ≡ octets = alone octets pdu given.3.0 given.3.1 (omega (arith, given.2)) in
    let n : ℕ = pdu_length octets in
    let says : length octets ≡ n = ap length (sym same) ∙ given.2 in
    let judged : start_answer limit octets ≡ Pdu (channel_of octets) octets =
    rw (le-ltb (length octets) 4 given.0, le-ltb n (length octets) (omega arith), le-ltb limit n given.1, eq-eqb n (length octets) (sym says)) refl in
    judged ∙ ap (λ (p : List ℕ). Pdu (channel_of p) p) (sym same)

abbrev Answered : ℕ → List (List ℕ) → List ℕ → List ℕ → Type 0
Answered limit group octets pdu = (next_answer (open_octets limit group) octets ≡ Pdu (channel_of pdu) pdu) ⊎ GivesPdu limit group pdu

-- a group that gives the PDU with all its pieces
answered_whole : (limit : ℕ) (start : List ℕ) (rest : List (List ℕ)) (octets pdu : List ℕ) → 4 ≤ length start → pdu_length start ≤ limit → length pdu ≡ pdu_length start
    → pdu ≡ joined (start ∷ rest) ++ octets → Answered limit (start ∷ rest) octets pdu
answered_whole limit start rest octets pdu header within says whole =
    let held : List ℕ = joined (start ∷ rest) in
    let count : length held + length octets ≡ pdu_length start = sym (length-append held octets) ∙ ap length (sym whole) ∙ says in
    elim (open_or_shut limit start rest) [
      | inl is_open ↦
          let n : ℕ = pdu_length held in
          let k : ℕ = length held + length octets in
          let same : n ≡ k = says_length start rest header ∙ sym count in
          let first : length held ≡ length start + length (joined rest) = length-append start (joined rest) in
          let none : eqb (length held) 0 ≡ false = ne_eqb (length held) 0 (λ empty. omega arith) in
          let judged : next_answer held octets ≡ Pdu (channel_of (held ++ octets)) (held ++ octets) =
          rw (none, le-ltb n k (omega arith), eq-eqb n k same) refl in
          inl (ap (λ (h : List ℕ). next_answer h octets) is_open.0 ∙ judged ∙ ap (λ (p : List ℕ). Pdu (channel_of p) p) (sym whole))
      | inr is_shut ↦
          let full = is_shut.1 header within in
          let nothing : octets ≡ [] = nil_from_length octets (omega arith) in
          let is_held : held ≡ pdu = sym (append-nil held) ∙ ap (λ (xs : List ℕ). held ++ xs) (sym nothing) ∙ sym whole in
          inr (gives_whole limit start rest pdu header within says is_held)
    ]

answered_next : (limit : ℕ) (group : List (List ℕ)) (octets pdu : List ℕ) → GivesPdu limit (extended group octets) pdu → Answered limit group octets pdu
answered_next limit [] octets pdu given = absurd given
answered_next limit (start ∷ rest) octets pdu given =
    let count : ℕ = given.3.0 in
    let group : List (List ℕ) = start ∷ rest in
    elim (cases_lt (length group) count) [
      | inl more ↦
          let all : take count (group ++ octets ∷ []) ≡ group ++ octets ∷ [] = take_all count (group ++ octets ∷ []) (omega (arith, length-append group (octets ∷ []))) in
          answered_whole limit start rest octets pdu given.0 given.1 given.2 (given.3.1 ∙ ap joined all ∙ joined-append group octets)
      | inr few ↦ inr (given.0, given.1, given.2, (count, given.3.1 ∙ ap joined (take-append-le count group (octets ∷ []) few)))
    ]

answered_by : (limit : ℕ) (past : List Piece) (octets : List ℕ) (channel : ℕ) (pdu : List ℕ) (start : Bool) → answer limit (open_after limit past) start octets ≡ Pdu channel pdu
    → GivesPdu limit (regrouped (last_group past) start octets) pdu × (channel ≡ channel_of pdu)
answered_by limit past octets channel pdu true e = given_start limit octets channel pdu e
answered_by limit past octets channel pdu false e = given_next limit (last_group past) octets channel pdu e

pub answered_is_given : (limit : ℕ) (past : List Piece) (piece : Piece) (channel : ℕ) (pdu : List ℕ)
    → answer limit (open_after limit past) (starts piece.boundary) piece.octets ≡ Pdu channel pdu
    → GivesPdu limit (last_group (past ++ piece ∷ [])) pdu × (channel ≡ channel_of pdu)
answered_is_given limit past piece channel pdu e =
    subst (λ (group : List (List ℕ)). GivesPdu limit group pdu × (channel ≡ channel_of pdu)) (sym (last_group-append past piece))
    (answered_by limit past piece.octets channel pdu (starts piece.boundary) e)

given_by : (limit : ℕ) (past : List Piece) (octets pdu : List ℕ) (start : Bool) → GivesPdu limit (regrouped (last_group past) start octets) pdu
    → (answer limit (open_after limit past) start octets ≡ Pdu (channel_of pdu) pdu) ⊎ ((start ≡ false) × GivesPdu limit (last_group past) pdu)
given_by limit past octets pdu true given = inl (answered_start limit octets pdu given)
given_by limit past octets pdu false given =
    elim (answered_next limit (last_group past) octets pdu given) [ inl now ↦ inl now | inr before ↦ inr (refl, before) ]

pub given_is_answered : (limit : ℕ) (past : List Piece) (piece : Piece) (pdu : List ℕ)
    → GivesPdu limit (last_group (past ++ piece ∷ [])) pdu
    → (answer limit (open_after limit past) (starts piece.boundary) piece.octets ≡ Pdu (channel_of pdu) pdu)
    ⊎ ((starts piece.boundary ≡ false) × GivesPdu limit (last_group past) pdu)
given_is_answered limit past piece pdu given =
    given_by limit past piece.octets pdu (starts piece.boundary) (subst (λ (group : List (List ℕ)). GivesPdu limit group pdu) (last_group-append past piece) given)
