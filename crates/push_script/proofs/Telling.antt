-- Texts that are told to a sink one after the other are one text.
use Rattle.std.proofs.Common.{◌≡◌, ℕ, ◌+◌, ◌<◌, ◌≤◌, List, [], ◌++◌, length, get_or, drop, Option, Result, Ok, Err, refl, sym, ap, subst, ◌∙◌, append_assoc, arith, inl, inr, drop-cons, add-one}
use Rattle.std.proofs.lemmas.List.{append-nil, nil_from_length, length-drop}
use Rattle.std.proofs.lemmas.Bool.{cases_lt}
use Rattle.std.specs.Prelude.{codes}
use Rattle.bt_base.specs.Counts.{HasCause}
use Rattle.bt_base.specs.Streams.{gained}
use Rattle.bt_base.specs.declared.ports.PortFault.{PortFault}
use Rattle.bt_base.specs.declared.ports.PortFault.TheVariants.{Failed, NoMemory}
use Rattle.bt_base.proofs.PortLaws.{gained-gained, front_then, front_longer, gained-nil, front_none}
use Rattle.push_terms.specs.declared.outcome.Outcome.{Outcome}
use Rattle.push_script.specs.Reports.{Tells, push_head, push_line, push_lines, peaks_text, report_text}
use Rattle.push_terms.specs.declared.peaks.Peaks.{Peaks}

abbrev mk_ok : Unit {0} → Result (Unit {0}) PortFault
mk_ok u = Ok u

no_fault : (u : Unit {0}) (fault : PortFault) → mk_ok u ≡ Err fault → ⊥
no_fault u fault h = absurd cc

-- a count whose rise would have been answered did not move
stays : (a b : ℕ) → a ≤ b → (a < b → ⊥) → a ≡ b
stays a b le never = elim (cases_lt a b) [ inl lt ↦ absurd (never lt) | inr ge ↦ omega arith ]

-- the causes of a call behind one that was answered by Ok
causes_then : (f f1 f2 s s1 s2 : ℕ) (u : Unit {0}) (result : Result (Unit {0}) PortFault) → HasCause f f1 s s1 (mk_ok u) → HasCause f1 f2 s1 s2 result → HasCause f f2 s s2 result
causes_then f f1 f2 s s1 s2 u result one two =
    let ff : f1 ≡ f = sym (stays f f1 one.faults_stay (λ h. no_fault u Failed (one.only_failed h))) in
    let ss : s1 ≡ s = sym (stays s s1 one.shortages_stay (λ h. no_fault u NoMemory (one.only_short h))) in
    subst (λ (n : ℕ). HasCause n f2 s s2 result) ff (subst (λ (n : ℕ). HasCause f1 f2 n s2 result) ss two)

-- a text behind a text that was told whole
pub tells_then : (old mid new : Option (List ℕ)) (f f1 f2 s s1 s2 : ℕ) (a b : List ℕ) (u : Unit {0}) (result : Result (Unit {0}) PortFault) → Tells old mid f f1 s s1 a (Ok u) → Tells mid new f1 f2 s1 s2 b result
    → Tells old new f f2 s s2 (a ++ b) result
tells_then old mid new f f1 f2 s s1 s2 a b u (Ok v) one two = record {
  put = record {
    ok = two.put.ok ∙ ap (λ (c : Option (List ℕ)). gained c b) one.put.ok ∙ gained-gained old a b;
    front = front_then old mid new a b one.put.ok two.put.front;
  };
  cause = causes_then f f1 f2 s s1 s2 u (Ok v) one.cause two.cause;
}
tells_then old mid new f f1 f2 s s1 s2 a b u (Err e) one two = record {
  put = record { ok = tt; front = front_then old mid new a b one.put.ok two.put.front };
  cause = causes_then f f1 f2 s s1 s2 u (Err e) one.cause two.cause;
}

-- a text that was not told whole is a front of a longer one
pub tells_stop : (old new : Option (List ℕ)) (f f1 s s1 : ℕ) (a b : List ℕ) (fault : PortFault) → Tells old new f f1 s s1 a (Err fault) → Tells old new f f1 s s1 (a ++ b) (Err fault)
tells_stop old new f f1 s s1 a b fault one = record {
  put = record { ok = tt; front = front_longer old new a b one.put.front };
  cause = one.cause;
}

pub tells_as : (old new : Option (List ℕ)) (f f1 s s1 : ℕ) (a b : List ℕ) (result : Result (Unit {0}) PortFault) → a ≡ b → Tells old new f f1 s s1 a result → Tells old new f f1 s s1 b result
tells_as old new f f1 s s1 a b result e one = subst (λ (t : List ℕ). Tells old new f f1 s s1 t result) e one

-- the line of a push is what stands before the name, and the rest
pub line_stop : (old new : Option (List ℕ)) (f f1 s s1 : ℕ) (head : List ℕ) (number : ℕ) (outcome : Outcome) (name : List ℕ) (fault : PortFault) → head ≡ push_head number outcome → Tells old new f f1 s s1 head (Err fault)
    → Tells old new f f1 s s1 (push_line number outcome name) (Err fault)
line_stop old new f f1 s s1 head number outcome name fault e one = tells_as old new f f1 s s1 _ _ (Err fault) (ap (λ (t : List ℕ). t ++ (name ++ codes "\n")) e) (tells_stop old new f f1 s s1 head (name ++ codes "\n") fault one)

pub line_then : (old mid new : Option (List ℕ)) (f f1 f2 s s1 s2 : ℕ) (head : List ℕ) (number : ℕ) (outcome : Outcome) (name octets : List ℕ) (u : Unit {0}) (result : Result (Unit {0}) PortFault) → head ≡ push_head number outcome → octets ≡ name
    → Tells old mid f f1 s s1 head (Ok u) → Tells mid new f1 f2 s1 s2 (octets ++ codes "\n") result → Tells old new f f2 s s2 (push_line number outcome name) result
line_then old mid new f f1 f2 s s1 s2 head number outcome name octets u result e n one two =
    tells_as old new f f2 s s2 _ _ result (ap (λ (t : List ℕ). t ++ (octets ++ codes "\n")) e ∙ ap (λ (t : List ℕ). push_head number outcome ++ (t ++ codes "\n")) n) (tells_then old mid new f f1 f2 s s1 s2 head (octets ++ codes "\n") u result one two)

-- the report is the lines of the pushes, and the lines below
pub report_stop : (old new : Option (List ℕ)) (f f1 s s1 : ℕ) (names given : List (List ℕ)) (outcomes : List Outcome) (kept : ℕ) (peaks : Peaks) (fault : PortFault) → given ≡ names → Tells old new f f1 s s1 (push_lines 1 outcomes given) (Err fault)
    → Tells old new f f1 s s1 (report_text names outcomes kept peaks) (Err fault)
report_stop old new f f1 s s1 names given outcomes kept peaks fault e one = tells_as old new f f1 s s1 _ _ (Err fault) (ap (λ (n : List (List ℕ)). push_lines 1 outcomes n ++ peaks_text kept peaks) e) (tells_stop old new f f1 s s1 (push_lines 1 outcomes given) (peaks_text kept peaks) fault one)

pub report_then : (old mid new : Option (List ℕ)) (f f1 f2 s s1 s2 : ℕ) (names given : List (List ℕ)) (outcomes : List Outcome) (kept : ℕ) (peaks : Peaks) (octets : List ℕ) (u : Unit {0}) (result : Result (Unit {0}) PortFault) → given ≡ names → octets ≡ peaks_text kept peaks
    → Tells old mid f f1 s s1 (push_lines 1 outcomes given) (Ok u) → Tells mid new f1 f2 s1 s2 octets result → Tells old new f f2 s s2 (report_text names outcomes kept peaks) result
report_then old mid new f f1 f2 s s1 s2 names given outcomes kept peaks octets u result e o one two =
    tells_as old new f f2 s s2 _ _ result (ap (λ (n : List (List ℕ)). push_lines 1 outcomes n ++ octets) e ∙ ap (λ (t : List ℕ). push_lines 1 outcomes names ++ t) o) (tells_then old mid new f f1 f2 s s1 s2 (push_lines 1 outcomes given) octets u result one two)

-- nothing is told
pub tells_none : (content : Option (List ℕ)) (f s : ℕ) (u : Unit {0}) → Tells content content f f s s [] (Ok u)
tells_none content f s u = record {
  put = record { ok = sym (gained-nil content); front = front_none content [] };
  cause = record {
    faults_stay = omega arith;
    shortages_stay = omega arith;
    failed = λ h. absurd (no_fault u Failed h);
    short = λ h. absurd (no_fault u NoMemory h);
    only_failed = λ h. absurd (omega arith);
    only_short = λ h. absurd (omega arith);
  };
}

-- The lines of the first `i` pushes were told, and these are left.
pub record HasTold (old new : Option (List ℕ)) (f f1 s s1 : ℕ) (i : ℕ) (outcomes : List Outcome) (names : List (List ℕ)) : Type 0 where
  pub told : List ℕ
  pub whole : push_lines 1 outcomes names ≡ told ++ push_lines (i + 1) (drop i outcomes) (drop i names)
  pub tells : Tells old new f f1 s s1 told (Ok tt)

-- the line of the next push stands first
next_line : (n i : ℕ) (outcomes : List Outcome) (names : List (List ℕ)) (outcome : Outcome) (name : List ℕ) → i < length outcomes → i < length names
    → push_lines n (drop i outcomes) (drop i names) ≡ push_line n (get_or outcomes i outcome) (get_or names i name) ++ push_lines (n + 1) (drop (i + 1) outcomes) (drop (i + 1) names)
next_line n i outcomes names outcome name o k = rw (drop-cons outcomes i outcome o, drop-cons names i name k, add-one i) refl

pub told_none : (content : Option (List ℕ)) (f s : ℕ) (outcomes : List Outcome) (names : List (List ℕ)) → HasTold content content f f s s 0 outcomes names
told_none content f s outcomes names = record { told = []; whole = refl; tells = tells_none content f s tt }

pub told_next : (old mid new : Option (List ℕ)) (f f1 f2 s s1 s2 i n : ℕ) (outcomes : List Outcome) (names : List (List ℕ)) (outcome : Outcome) (name text : List ℕ) (u : Unit {0}) → i < length outcomes → i < length names → n ≡ i + 1 → text ≡ get_or names i name
    → HasTold old mid f f1 s s1 i outcomes names → Tells mid new f1 f2 s1 s2 (push_line n (get_or outcomes i outcome) text) (Ok u) → HasTold old new f f2 s s2 (i + 1) outcomes names
told_next old mid new f f1 f2 s s1 s2 i n outcomes names outcome name text u o k e t so_far more = record {
  told = so_far.told ++ push_line (i + 1) (get_or outcomes i outcome) (get_or names i name);
  whole = so_far.whole ∙ ap (λ (t : List ℕ). so_far.told ++ t) (next_line (i + 1) i outcomes names outcome name o k) ∙ sym (append_assoc so_far.told _ _);
  tells = tells_then old mid new f f1 f2 s s1 s2 so_far.told _ tt (Ok tt) so_far.tells (rw (e, t) at more);
}

pub told_stop : (old mid new : Option (List ℕ)) (f f1 f2 s s1 s2 i n : ℕ) (outcomes : List Outcome) (names : List (List ℕ)) (outcome : Outcome) (name text : List ℕ) (fault : PortFault) → i < length outcomes → i < length names → n ≡ i + 1 → text ≡ get_or names i name
    → HasTold old mid f f1 s s1 i outcomes names → Tells mid new f1 f2 s1 s2 (push_line n (get_or outcomes i outcome) text) (Err fault) → Tells old new f f2 s s2 (push_lines 1 outcomes names) (Err fault)
told_stop old mid new f f1 f2 s s1 s2 i n outcomes names outcome name text fault o k e t so_far more =
    let line : List ℕ = push_line (i + 1) (get_or outcomes i outcome) (get_or names i name) in
    let rest : List ℕ = push_lines (i + 1 + 1) (drop (i + 1) outcomes) (drop (i + 1) names) in
    let whole : push_lines 1 outcomes names ≡ so_far.told ++ (line ++ rest) = so_far.whole ∙ ap (λ (t : List ℕ). so_far.told ++ t) (next_line (i + 1) i outcomes names outcome name o k) in
    let stopped : Tells mid new f1 f2 s1 s2 (line ++ rest) (Err fault) = tells_stop mid new f1 f2 s1 s2 line rest fault (rw (e, t) at more) in
    rw whole (tells_then old mid new f f1 f2 s s1 s2 so_far.told (line ++ rest) tt (Err fault) so_far.tells stopped)

pub told_all : (old new : Option (List ℕ)) (f f1 s s1 i : ℕ) (outcomes : List Outcome) (names : List (List ℕ)) → length outcomes ≤ i → HasTold old new f f1 s s1 i outcomes names → Tells old new f f1 s s1 (push_lines 1 outcomes names) (Ok tt)
told_all old new f f1 s s1 i outcomes names le so_far =
    let nothing : drop i outcomes ≡ [] = nil_from_length (drop i outcomes) (omega (arith, length-drop i outcomes)) in
    let whole : push_lines 1 outcomes names ≡ so_far.told = so_far.whole ∙ rw nothing (append-nil so_far.told) in
    rw whole so_far.tells
