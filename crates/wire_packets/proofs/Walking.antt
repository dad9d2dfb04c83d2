-- A stream gone through in two pieces is gone through whole.
use Rattle.std.proofs.Common.{◌≡◌, ℕ, ◌+◌, ◌-◌, ◌<◌, ◌≤◌, List, [], ◌∷◌, ◌++◌, length, take, get_or, refl, sym, ap, ◌∙◌, append_assoc, arith}
use Rattle.std.proofs.lemmas.List.{append-nil, take_more}
use Rattle.std.specs.List.{flat_map}
use Rattle.wire_packets.specs.declared.slip.SlipTaken.{SlipTaken}
use Rattle.wire_packets.specs.declared.slip.SlipTaken.TheVariants.{Packet, Bad, More}
use Rattle.wire_packets.specs.Slip.{Found}
use Rattle.wire_packets.specs.Stepping.{Slipping, standing, Step, step_to, stepped, after, found, Completes, Takes, used, given, TakesAll, all_used, all_given}

pub after-append : (s : Slipping) (xs ys : List ℕ) → after s (xs ++ ys) ≡ after (after s xs) ys
after-append s [] ys = refl
after-append s (x ∷ xs) ys = after-append (stepped s.place s.held x).next xs ys

pub found-append : (s : Slipping) (xs ys : List ℕ) → found s (xs ++ ys) ≡ found s xs ++ found (after s xs) ys
found-append s [] ys = refl
found-append s (x ∷ xs) ys =
    ap (λ rest. (stepped s.place s.held x).found ++ rest) (found-append (stepped s.place s.held x).next xs ys)
    ∙ sym (append_assoc (stepped s.place s.held x).found (found (stepped s.place s.held x).next xs) (found (after (stepped s.place s.held x).next xs) ys))

-- one octet more of a piece
pub after_more : (s : Slipping) (xs : List ℕ) (i : ℕ) → i < length xs → after s (take (i + 1) xs) ≡ (stepped (after s (take i xs)).place (after s (take i xs)).held (get_or xs i 0)).next
after_more s xs i lt = ap (after s) (take_more xs i 0 lt) ∙ after-append s (take i xs) (get_or xs i 0 ∷ [])

pub found_more : (s : Slipping) (xs : List ℕ) (i : ℕ) → i < length xs → found s (take i xs) ≡ [] → found s (take (i + 1) xs) ≡ (stepped (after s (take i xs)).place (after s (take i xs)).held (get_or xs i 0)).found
found_more s xs i lt none = ap (found s) (take_more xs i 0 lt) ∙ found-append s (take i xs) (get_or xs i 0 ∷ []) ∙ ap (λ (fs : List Found). fs ++ found (after s (take i xs)) (get_or xs i 0 ∷ [])) none ∙ append-nil (stepped (after s (take i xs)).place (after s (take i xs)).held (get_or xs i 0)).found

-- what a call used makes the decoder new, and gives what was found in it
took : (old new : Slipping) (piece : List ℕ) (taken : SlipTaken) → Takes old piece taken new → (given taken ≡ found old (used piece taken)) × (new ≡ after old (used piece taken))
took old new piece (Packet octets n) t = (sym t.there, t.becomes)
took old new piece (Bad refusal n) t = (sym t.there, t.becomes)
took old new piece More t = (sym t.0, t.1)

pub took_all : (old new : Slipping) (calls : List (List ℕ × SlipTaken)) → TakesAll old calls new → (all_given calls ≡ found old (all_used calls)) × (new ≡ after old (all_used calls))
took_all old new [] t = (refl, t)
took_all old new (call ∷ calls) t =
    let one = took old t.0 call.0 call.1 t.1 in
    let rest = took_all t.0 new calls t.2 in
    let u = used call.0 call.1 in
    let us = all_used calls in (
      ap (λ (fs : List Found). fs ++ all_given calls) one.0 ∙ ap (λ fs. found old u ++ fs) (rest.0 ∙ ap (λ s. found s us) one.1) ∙ sym (found-append old u us),
      rest.1 ∙ ap (λ s. after s us) one.1 ∙ sym (after-append old u us),
    )

-- a step behind the octets that were gone through, in which nothing was found
pub walked : (s : Slipping) (xs : List ℕ) (i : ℕ) (now : Slipping) (step : Step) → i < length xs → after s (take i xs) ≡ now → found s (take i xs) ≡ []
    → stepped now.place now.held (get_or xs i 0) ≡ step → (after s (take (i + 1) xs) ≡ step.next) × (found s (take (i + 1) xs) ≡ step.found)
walked s xs i now step lt stands quiet does =
    let at : stepped (after s (take i xs)).place (after s (take i xs)).held (get_or xs i 0) ≡ step = ap (λ (n : Slipping). stepped n.place n.held (get_or xs i 0)) stands ∙ does in
    (after_more s xs i lt ∙ ap (λ (t : Step). t.next) at, found_more s xs i lt quiet ∙ ap (λ (t : Step). t.found) at)

pub completed : (s : Slipping) (xs : List ℕ) (i : ℕ) (now next : Slipping) (what : Found) → i < length xs → after s (take i xs) ≡ now → found s (take i xs) ≡ []
    → stepped now.place now.held (get_or xs i 0) ≡ step_to next.place next.held (what ∷ []) → Completes s xs (i + 1) what next
completed s xs i now next what lt stands quiet does =
    let w = walked s xs i now (step_to next.place next.held (what ∷ [])) lt stands quiet does in
    record {
      some = omega arith;
      within = omega arith;
      before = let e : i + 1 - 1 ≡ i = omega arith in ap (λ n. found s (take n xs)) e ∙ quiet;
      there = w.1;
      becomes = sym w.0;
    }
