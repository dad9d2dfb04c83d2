-- A front of what happened to both hosts' channels is what happened with a front of the turns.
use Rattle.std.proofs.Common.{◌≡◌, ℕ, List, [], ◌∷◌, ◌++◌, Bool, true, false, cond, fold, Option, Some, None, refl, sym, ap, subst, ◌∙◌}
use Rattle.std.specs.List.{flat_map}
use Rattle.std.proofs.lemmas.List.Concat.{flat_map-append}
use Rattle.std.proofs.lemmas.List.Sums.{fold-append}
use Rattle.scenario_laws.specs.acl_fragments.specs.Pieces.{channel_of}
use Rattle.channel_laws.specs.channel_model.specs.Calls.{has_fcs}
use Rattle.channel_laws.specs.channel_model.specs.Giving.{Given, next_given}
use Rattle.channel_laws.specs.channel_model.specs.Policies.{Policy}
use Rattle.channel_laws.specs.Frames.{IsUttered, AreUttered}
use Rattle.channel_laws.specs.Pairs.{End, Pair, new_pair, Happening, Acts, Puts, Takes, Repeats, Loses, Damages, is_alone, occurs, with_near, puts, let_go, takes_first, repeats_first, loses_first, damages_first, happens_near, Side, Near, Far, turned, Turn, happens_at, pair_after}
use Rattle.channel_laws.specs.Runs.{Occurrence, Comes, Gives, Run, run_on, run_of}
use Rattle.pair_laws.specs.Fronts.{FrontsAreRun}
use Rattle.pair_laws.specs.Orders.{Joint, AtNear, AtFar, near_in, far_in, first_come, given_as, damaged_come, occurs_by, joints_with, joints_at, joints_by, joints_from}
use Rattle.pair_laws.proofs.Facing.{each_split}

-- ---- one thing happens with a turn, or none

data Once (list : List Occurrence) : Type 0 where
  Never : list ≡ [] → Once list
  Ever : (one : Occurrence) → list ≡ one ∷ [] → Once list

first_once : (coming : List (List ℕ)) → Once (first_come coming)
first_once [] = Never refl
first_once (pdu ∷ coming) = Ever (Comes pdu) refl

given_once : (given : Option Given) (pdu : List ℕ) → Once (given_as given pdu)
given_once None pdu = Never refl
given_once (Some given) pdu = Ever (Gives pdu) refl

if_once : (test : Bool) (one : Occurrence) → Once (cond test (one ∷ []) [])
if_once true one = Ever one refl
if_once false one = Never refl

damaged_once : (other : List ℕ) (coming : List (List ℕ)) (end' : End) → Once (damaged_come other coming end')
damaged_once other [] end' = Never refl
damaged_once other (pdu ∷ coming) end' = if_once (has_fcs (channel_of pdu) end'.run.value) (Comes other)

occurs_once : (happening : Happening) (end' : End) → Once (occurs_by happening end')
occurs_once (Acts occurrence) end' = if_once (is_alone occurrence) occurrence
occurs_once (Puts pdu) end' = given_once (next_given end'.run.value) pdu
occurs_once Takes end' = first_once end'.coming
occurs_once Repeats end' = first_once end'.coming
occurs_once Loses end' = Never refl
occurs_once (Damages other) end' = damaged_once other end'.coming end'

data AtMostOne (joints : List Joint) : Type 0 where
  NoneThere : joints ≡ [] → AtMostOne joints
  OneThere : (one : Joint) → joints ≡ one ∷ [] → AtMostOne joints

with_once : (to : Occurrence → Joint) (list : List Occurrence) → Once list → AtMostOne (joints_with to list)
with_once to list (Never none) = NoneThere (ap (joints_with to) none)
with_once to list (Ever one some) = OneThere (to one) (ap (joints_with to) some)

at_once : (side : Side) (happening : Happening) (pair : Pair) → AtMostOne (joints_at side happening pair)
at_once Near happening pair = with_once AtNear (occurs_by happening pair.near) (occurs_once happening pair.near)
at_once Far happening pair = with_once AtFar (occurs_by happening pair.far) (occurs_once happening pair.far)

-- ---- a front of the turns

record Cut (pair : Pair) (turns : List Turn) (front : List Joint) : Type 0 where
  past : List Turn
  later : List Turn
  turns_are : turns ≡ past ++ later
  joints_are : joints_from pair past ≡ front

cut : (turns : List Turn) (pair : Pair) (front rest : List Joint) → joints_from pair turns ≡ front ++ rest → Cut pair turns front
cut [] pair [] rest is = record { past = []; later = []; turns_are = refl; joints_are = refl }
cut [] pair (x ∷ front) rest is = cc
cut (turn ∷ turns) pair [] rest is = record { past = []; later = turn ∷ turns; turns_are = refl; joints_are = refl }
cut (turn ∷ turns) pair (x ∷ front) rest is =
    by (at_once turn.side turn.happening pair) (λ on. cut turns (pair_after pair turn) (x ∷ front) rest on) (λ on. cut turns (pair_after pair turn) front rest on)
  where
    next : Pair
    next = pair_after pair turn

    behind : (y : Joint) (xs ys : List Joint) → y ∷ xs ≡ x ∷ ys → xs ≡ ys
    behind y xs ys e = cc

    first : (y : Joint) (xs ys : List Joint) → y ∷ xs ≡ x ∷ ys → y ≡ x
    first y xs ys e = cc

    by : AtMostOne (joints_by turn pair) → (joints_from next turns ≡ x ∷ (front ++ rest) → Cut next turns (x ∷ front)) → (joints_from next turns ≡ front ++ rest → Cut next turns front) → Cut pair (turn ∷ turns) (x ∷ front)
    by (NoneThere none) on more =
        let so = on (ap (λ (l : List Joint). l ++ joints_from next turns) (sym none) ∙ is) in
        record {
          past = turn ∷ so.past;
          later = so.later;
          turns_are = ap (λ (l : List Turn). turn ∷ l) so.turns_are;
          joints_are = ap (λ (l : List Joint). l ++ joints_from next so.past) none ∙ so.joints_are;
        }
    by (OneThere one some) on more =
        let split : one ∷ joints_from next turns ≡ x ∷ (front ++ rest) = ap (λ (l : List Joint). l ++ joints_from next turns) (sym some) ∙ is in
        let so = more (behind one (joints_from next turns) (front ++ rest) split) in
        record {
          past = turn ∷ so.past;
          later = so.later;
          turns_are = ap (λ (l : List Turn). turn ∷ l) so.turns_are;
          joints_are = ap (λ (l : List Joint). l ++ joints_from next so.past) some
              ∙ (ap (λ (j : Joint). j ∷ joints_from next so.past) (first one (joints_from next turns) (front ++ rest) split) ∙ ap (λ (l : List Joint). x ∷ l) so.joints_are);
        }

-- ---- what both hosts go through with turns

record Does (before after : End) (list : List Occurrence) : Type 0 where
  policy_is : after.policy ≡ before.policy
  run_is : after.run ≡ fold (run_on before.policy) before.run list

takes_does : (coming : List (List ℕ)) (end' : End) → Does end' (takes_first coming end') (first_come coming)
takes_does [] end' = record { policy_is = refl; run_is = refl }
takes_does (pdu ∷ coming) end' = record { policy_is = refl; run_is = refl }

repeats_does : (coming : List (List ℕ)) (end' : End) → Does end' (repeats_first coming end') (first_come coming)
repeats_does [] end' = record { policy_is = refl; run_is = refl }
repeats_does (pdu ∷ coming) end' = record { policy_is = refl; run_is = refl }

loses_does : (coming : List (List ℕ)) (end' : End) → Does end' (loses_first coming end') []
loses_does [] end' = record { policy_is = refl; run_is = refl }
loses_does (pdu ∷ coming) end' = record { policy_is = refl; run_is = refl }

damages_does : (other : List ℕ) (coming : List (List ℕ)) (end' : End) → Does end' (damages_first other coming end') (damaged_come other coming end')
damages_does other [] end' = record { policy_is = refl; run_is = refl }
damages_does other (pdu ∷ coming) end' = by (has_fcs (channel_of pdu) end'.run.value)
  where
    by : (checked : Bool) → Does end' (cond checked (occurs (Comes other) (let_go coming end')) (let_go coming end')) (cond checked (Comes other ∷ []) [])
    by true = record { policy_is = refl; run_is = refl }
    by false = record { policy_is = refl; run_is = refl }

stays : (end' : End) → Does end' end' []
stays end' = record { policy_is = refl; run_is = refl }

near_does : (happening : Happening) (pair : Pair) → Does pair.near (happens_near happening pair).near (occurs_by happening pair.near) × Does pair.far (happens_near happening pair).far []
near_does (Acts occurrence) pair = by (is_alone occurrence)
  where
    by : (alone : Bool) → (let next = cond alone (with_near (occurs occurrence pair.near) pair) pair in Does pair.near next.near (cond alone (occurrence ∷ []) []) × Does pair.far next.far [])
    by true = (record { policy_is = refl; run_is = refl }, stays pair.far)
    by false = (stays pair.near, stays pair.far)
near_does (Puts pdu) pair = by (next_given pair.near.run.value)
  where
    by : (given : Option Given) → Does pair.near (puts given pdu pair).near (given_as given pdu) × Does pair.far (puts given pdu pair).far []
    by None = (stays pair.near, stays pair.far)
    by (Some given) = (record { policy_is = refl; run_is = refl }, record { policy_is = refl; run_is = refl })
near_does Takes pair = (takes_does pair.near.coming pair.near, stays pair.far)
near_does Repeats pair = (repeats_does pair.near.coming pair.near, stays pair.far)
near_does Loses pair = (loses_does pair.near.coming pair.near, stays pair.far)
near_does (Damages other) pair = (damages_does other pair.near.coming pair.near, stays pair.far)

of_near : (list : List Occurrence) → (flat_map near_in (joints_with AtNear list) ≡ list) × (flat_map far_in (joints_with AtNear list) ≡ [])
of_near [] = (refl, refl)
of_near (one ∷ list) = let rest = of_near list in (ap (λ (l : List Occurrence). one ∷ l) rest.0, rest.1)

of_far : (list : List Occurrence) → (flat_map near_in (joints_with AtFar list) ≡ []) × (flat_map far_in (joints_with AtFar list) ≡ list)
of_far [] = (refl, refl)
of_far (one ∷ list) = let rest = of_far list in (rest.0, ap (λ (l : List Occurrence). one ∷ l) rest.1)

abbrev BothDo : (before after : Pair) → List Joint → Type 0
BothDo before after joints = Does before.near after.near (flat_map near_in joints) × Does before.far after.far (flat_map far_in joints)

at_does : (side : Side) (happening : Happening) (pair : Pair) → BothDo pair (happens_at side happening pair) (joints_at side happening pair)
at_does Near happening pair =
    let next = happens_near happening pair in
    let list = occurs_by happening pair.near in
    let does = near_does happening pair in (
      subst (λ (l : List Occurrence). Does pair.near next.near l) (sym (of_near list).0) does.0,
      subst (λ (l : List Occurrence). Does pair.far next.far l) (sym (of_near list).1) does.1,
    )
at_does Far happening pair =
    let next = happens_near happening (turned pair) in
    let list = occurs_by happening pair.far in
    let does = near_does happening (turned pair) in (
      subst (λ (l : List Occurrence). Does pair.near next.far l) (sym (of_far list).0) does.1,
      subst (λ (l : List Occurrence). Does pair.far next.near l) (sym (of_far list).1) does.0,
    )

-- one after the other
run_over : (policy : Policy) (of : Joint → List Occurrence) (run mid last : Run) (joints more : List Joint) → mid ≡ fold (run_on policy) run (flat_map of joints) → last ≡ fold (run_on policy) mid (flat_map of more)
    → last ≡ fold (run_on policy) run (flat_map of (joints ++ more))
run_over policy of run mid last joints more one two =
    two
    ∙ (ap (λ (r : Run). fold (run_on policy) r (flat_map of more)) one
    ∙ (sym (fold-append (run_on policy) run (flat_map of joints) (flat_map of more)) ∙ ap (fold (run_on policy) run) (sym (flat_map-append of joints more))))

-- both hosts behind some turns
record Ran (near far : Policy) (before after : Pair) (joints : List Joint) : Type 0 where
  near_run : after.near.run ≡ fold (run_on near) before.near.run (flat_map near_in joints)
  far_run : after.far.run ≡ fold (run_on far) before.far.run (flat_map far_in joints)

ran : (near far : Policy) (turns : List Turn) (pair : Pair) → pair.near.policy ≡ near → pair.far.policy ≡ far → Ran near far pair (fold pair_after pair turns) (joints_from pair turns)
ran near far [] pair near_is far_is = record { near_run = refl; far_run = refl }
ran near far (turn ∷ turns) pair near_is far_is =
    let next = pair_after pair turn in
    let last = fold pair_after next turns in
    let here = joints_by turn pair in
    let does = at_does turn.side turn.happening pair in
    let rest = ran near far turns next (does.0.policy_is ∙ near_is) (does.1.policy_is ∙ far_is) in
    record {
      near_run = run_over near near_in pair.near.run next.near.run last.near.run here (joints_from next turns) (does.0.run_is ∙ ap (λ (p : Policy). fold (run_on p) pair.near.run (flat_map near_in here)) near_is) rest.near_run;
      far_run = run_over far far_in pair.far.run next.far.run last.far.run here (joints_from next turns) (does.1.run_is ∙ ap (λ (p : Policy). fold (run_on p) pair.far.run (flat_map far_in here)) far_is) rest.far_run;
    }

-- ---- the law

uttered_front : (policy : Policy) (of : Joint → List Occurrence) (front rest : List Joint) → AreUttered policy (flat_map of (front ++ rest)) → AreUttered policy (flat_map of front)
uttered_front policy of front rest uttered =
    (each_split (λ past more. IsUttered more (run_of policy past).value) [] (flat_map of front) (flat_map of rest) (subst (AreUttered policy) (flat_map-append of front rest) uttered)).0

pub fronts-are_run : FrontsAreRun
fronts-are_run near far turns front rest is near_uttered far_uttered =
    let so = cut turns (new_pair near far) front rest is in
    let runs = ran near far so.past (new_pair near far) refl refl in
    record {
      past = so.past;
      later = so.later;
      turns_are = so.turns_are;
      near_by = record { run_is = runs.near_run ∙ ap (λ (l : List Joint). run_of near (flat_map near_in l)) so.joints_are; uttered = uttered_front near near_in front rest near_uttered };
      far_by = record { run_is = runs.far_run ∙ ap (λ (l : List Joint). run_of far (flat_map far_in l)) so.joints_are; uttered = uttered_front far far_in front rest far_uttered };
    }
