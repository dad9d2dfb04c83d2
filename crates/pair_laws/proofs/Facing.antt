-- A pair as it is seen from one of its ends, with what is coming into each, and what that end may do.
use Rattle.std.proofs.Common.{◌≡◌, ◌≤◌, ◌+◌, ℕ, Bool, true, false, not, eqb, ◌&&◌, List, [], ◌∷◌, ◌++◌, length, Option, Some, fold, refl, sym, ap, subst, ◌∙◌, append-nil, append_assoc, if◌then◌else◌, arith}
use Rattle.std.specs.List.{AllByRecursion, flat_map, list_any}
use Rattle.std.proofs.lemmas.List.Concat.{flat_map-append}
use Rattle.std.proofs.lemmas.List.Sums.{fold-append}
use Rattle.scenario_laws.specs.acl_fragments.specs.Pieces.{channel_of}
use Rattle.scenario_laws.specs.capture.specs.Histories.{EachAfter}
use Rattle.scenario_laws.specs.capture.proofs.HistoryLaws.{each_after-more}
use Rattle.channel_laws.specs.channel_model.specs.Policies.{Policy}
use Rattle.channel_laws.specs.channel_model.specs.Changing.{is_answer, has_room}
use Rattle.channel_laws.specs.channel_model.specs.Giving.{Given, next_given}
use Rattle.channel_laws.specs.Adverse.{is_quiet, disturbs, disturbances, seen_from, IsRoomy}
use Rattle.recovered_laws.specs.Calm.{owes, IsSettledAt, AreSettled}
use Rattle.channel_laws.specs.channel_model.specs.Giving.{gives}
use Rattle.channel_laws.specs.Runs.{Occurrence, Comes, Gives, Fires, Run, new_link, run_on, run_of}
use Rattle.channel_laws.specs.Frames.{IsUttered, IsSpelled}
use Rattle.channel_laws.specs.Pairs.{End, Pair, new_pair, Happening, Acts, Puts, Takes, Repeats, Loses, Damages, is_alone, occurs, with_near, put, puts, let_go, takes_first, repeats_first, loses_first, damages_first, happens_near, Near, Far, turned, Turn, pair_after, pair_of}
use Rattle.channel_laws.specs.Ends.{DoesSo, end_at}
use Rattle.channel_laws.specs.Belonging.{IsRead, IsReadAs}
use Rattle.channel_laws.specs.Pipes.{IsTakeable, IsAddressed}
use Rattle.channel_laws.specs.Tries.{one_if, is_firing}
use Rattle.channel_laws.proofs.Pairing.{end-policy}
use Rattle.pair_laws.specs.Changes.{IsChange, IsChangeOfFirst, IsChanged}
use Rattle.pair_laws.specs.Orders.{first_come, given_as, damaged_come, occurs_by, Joint, AtNear, AtFar, near_in, far_in, joints_with, joints_by, joints_from}
use Rattle.pair_laws.specs.Pairs.{TakesAll}
use Rattle.pair_laws.specs.Seen.{IsAddressedAt}
use Rattle.pair_laws.specs.Waits.{NoneWaitsAt, NoneEverWaits}
use Rattle.passing_laws.specs.Words.{is_unprompted, AreSilent}
use Rattle.pair_laws.specs.OnWords.{AreWorded}
use Rattle.pair_laws.proofs.Worded.{disturbances-more, new-worded, both-worded, turn-worded}

-- ---- a turn

-- what is so of each turn, whatever SDUs there are
pub record Goes (happening : Happening) (end' : End) : Type 0 where
  pub fair : DoesSo IsUttered happening end'
  pub read : IsRead happening end'
  pub addressed : IsAddressedAt happening end'
  pub changed : IsChanged happening end'
  pub roomy : IsRoomy happening end'

abbrev pub AllGo : (near far : Policy) → List Turn → Type 0
AllGo near far turns = EachAfter (λ past turn. Goes turn.happening (end_at turn.side (pair_of near far past))) [] turns

-- all that is under way comes in once, as it is; or it may be lost, repeated and damaged
abbrev pub IsKept : (whole : Bool) → Happening → Type 0
IsKept whole (Acts occurrence) = Unit {0}
IsKept whole (Puts pdu) = Unit {0}
IsKept whole Takes = Unit {0}
IsKept whole Repeats = whole ≡ false
IsKept whole Loses = whole ≡ false
IsKept whole (Damages pdu) = whole ≡ false

abbrev pub AllKept : (whole : Bool) → List Turn → Type 0
AllKept whole turns = AllByRecursion (λ (turn : Turn). IsKept whole turn.happening) turns

abbrev pub AllTake : (near far : Policy) → List Turn → Type 0
AllTake near far turns = EachAfter (λ past turn. DoesSo IsTakeable turn.happening (end_at turn.side (pair_of near far past))) [] turns

-- ---- what is coming

-- the first that is under way is handed over as it is, it is handed over and stays, or it is damaged; the rest comes behind it. Where all
-- comes in whole, it is the first of these. The others disturb, which is due once.
pub data Passage (whole : Bool) (due : ℕ) (end' : End) (pdu : List ℕ) (rest : List (List ℕ)) : Type 0 where
  Whole : end'.coming ≡ pdu ∷ rest → Passage whole due end' pdu rest
  Again : whole ≡ false → 1 ≤ due → (behind : List (List ℕ)) → end'.coming ≡ pdu ∷ behind → rest ≡ pdu ∷ behind → Passage whole due end' pdu rest
  Other : whole ≡ false → 1 ≤ due → (frame : List ℕ) → end'.coming ≡ frame ∷ rest → IsChange end'.run.value frame pdu → eqb (channel_of pdu) 0x0001 ≡ false → Passage whole due end' pdu rest

-- at most one PDU is being handed over
abbrev pub IsComing : (whole : Bool) (due : ℕ) → End → (coming rest : List (List ℕ)) → Type 0
IsComing whole due end' [] rest = end'.coming ≡ rest
IsComing whole due end' (pdu ∷ []) rest = Passage whole due end' pdu rest
IsComing whole due end' (pdu ∷ other ∷ more) rest = ⊥

-- ---- a pair, and what its near end does

-- its turns disturbed at most so often, with what is due
pub record PairAt (whole : Bool) (most : ℕ) (near far : Policy) (one other : List Occurrence) (near_coming near_rest far_coming far_rest : List (List ℕ)) : Type 0 where
  pub turns : List Turn
  pub near_is : (pair_of near far turns).near.run ≡ run_of near one
  pub far_is : (pair_of near far turns).far.run ≡ run_of far other
  pub near_list : flat_map near_in (joints_from (new_pair near far) turns) ≡ one
  pub far_list : flat_map far_in (joints_from (new_pair near far) turns) ≡ other
  pub goes : AllGo near far turns
  pub takes : TakesAll near one → TakesAll far other → AllTake near far turns
  pub kept : AllKept whole turns
  pub settled : AreSettled near far turns
  pub none_waits : NoneEverWaits near far turns
  pub worded : AreWorded near far turns
  pub near_due : ℕ
  pub far_due : ℕ
  pub near_comes : IsComing whole near_due (pair_of near far turns).near near_coming near_rest
  pub far_comes : IsComing whole far_due (pair_of near far turns).far far_coming far_rest
  pub spent : disturbances (new_pair near far) turns + (near_due + far_due) ≤ most

-- what was due before, and how much more is spent
pub record Step (whole : Bool) (extra before : ℕ) (mine : Policy) (list later : List Occurrence) (pair : Pair) (coming rest far_coming far_rest : List (List ℕ)) : Type 0 where
  pub happening : Happening
  pub next : Pair
  pub is : happens_near happening pair ≡ next
  pub goes : Goes happening pair.near
  pub run_is : next.near.run ≡ run_of mine later
  pub later_is : later ≡ list ++ occurs_by happening pair.near
  pub far_run : next.far.run ≡ pair.far.run
  pub takes : TakesAll mine later → TakesAll mine list × DoesSo IsTakeable happening pair.near
  pub kept : IsKept whole happening
  pub settled : IsSettledAt happening pair
  pub none_waits : NoneWaitsAt happening pair.near
  pub due : ℕ
  pub far_due : ℕ
  pub comes : IsComing whole due next.near coming rest
  pub far_comes : IsComing whole far_due next.far far_coming far_rest
  pub cost : disturbs happening pair + (due + far_due) ≤ extra + before

-- ---- lists of what happened

near_joints : (list : List Occurrence) → (flat_map near_in (joints_with AtNear list) ≡ list) × (flat_map far_in (joints_with AtNear list) ≡ [])
near_joints [] = (refl, refl)
near_joints (one ∷ rest) = let more = near_joints rest in (ap (λ (l : List Occurrence). one ∷ l) more.0, more.1)

far_joints : (list : List Occurrence) → (flat_map near_in (joints_with AtFar list) ≡ []) × (flat_map far_in (joints_with AtFar list) ≡ list)
far_joints [] = (refl, refl)
far_joints (one ∷ rest) = let more = far_joints rest in (more.0, ap (λ (l : List Occurrence). one ∷ l) more.1)

joints_more : (turns : List Turn) (turn : Turn) (pair : Pair) → joints_from pair (turns ++ turn ∷ []) ≡ joints_from pair turns ++ joints_by turn (fold pair_after pair turns)
joints_more [] turn pair = append-nil (joints_by turn pair)
joints_more (first ∷ turns) turn pair =
    let next = pair_after pair first in
    ap (λ (l : List Joint). joints_by first pair ++ l) (joints_more turns turn next) ∙ sym (append_assoc (joints_by first pair) (joints_from next turns) (joints_by turn (fold pair_after next turns)))

list_more : (of : Joint → List Occurrence) (near far : Policy) (turns : List Turn) (turn : Turn) (list : List Occurrence) → flat_map of (joints_from (new_pair near far) turns) ≡ list
    → flat_map of (joints_from (new_pair near far) (turns ++ turn ∷ [])) ≡ list ++ flat_map of (joints_by turn (pair_of near far turns))
list_more of near far turns turn list is =
    ap (flat_map of) (joints_more turns turn (new_pair near far))
    ∙ (flat_map-append of (joints_from (new_pair near far) turns) (joints_by turn (pair_of near far turns)) ∙ ap (λ (l : List Occurrence). l ++ flat_map of (joints_by turn (pair_of near far turns))) is)

kept_more : (whole : Bool) (turns : List Turn) (turn : Turn) → AllKept whole turns → IsKept whole turn.happening → AllKept whole (turns ++ turn ∷ [])
kept_more whole [] turn all here = (here, tt)
kept_more whole (first ∷ turns) turn all here = (all.0, kept_more whole turns turn all.1 here)

-- what disturbs does so whichever end is the near one
quiet_turned : (pair : Pair) → is_quiet (turned pair) ≡ is_quiet pair
quiet_turned pair =
    by (eqb (length pair.near.coming) 0) (eqb (length pair.far.coming) 0) (not (list_any is_answer pair.near.run.value.queue)) (not (list_any is_answer pair.far.run.value.queue))
  where
    by : (a b c d : Bool) → ((b && a) && (d && c)) ≡ ((a && b) && (c && d))
    by true true true true = refl
    by true true true false = refl
    by true true false true = refl
    by true true false false = refl
    by true false c d = refl
    by false true c d = refl
    by false false c d = refl

disturbs_turned : (happening : Happening) (pair : Pair) → disturbs happening (turned pair) ≡ disturbs happening pair
disturbs_turned (Acts occurrence) pair = ap (λ (b : Bool). one_if (is_firing occurrence && not b)) (quiet_turned pair)
disturbs_turned (Puts pdu) pair = refl
disturbs_turned Takes pair = refl
disturbs_turned Repeats pair = refl
disturbs_turned Loses pair = refl
disturbs_turned (Damages pdu) pair = refl

spends : (near far : Policy) (turns : List Turn) (turn : Turn) (most m extra before after : ℕ) → extra + most ≤ m → disturbances (new_pair near far) turns + before ≤ most → disturbs turn.happening (pair_of near far turns) + after ≤ extra + before
    → disturbances (new_pair near far) (turns ++ turn ∷ []) + after ≤ m
spends near far turns turn most m extra before after more spent cost = let whole = disturbances-more (new_pair near far) turns turn in omega (arith, more, spent, cost, whole)

pub new_at : (whole : Bool) (most : ℕ) (near far : Policy) → PairAt whole most near far [] [] [] [] [] []
new_at whole most near far = record { turns = []; near_is = refl; far_is = refl; near_list = refl; far_list = refl; goes = tt; takes = λ mine theirs. tt; kept = tt; settled = tt; none_waits = tt; worded = new-worded near far; near_due = 0; far_due = 0; near_comes = refl; far_comes = refl; spent = omega arith }

near_on : (whole : Bool) (most m extra : ℕ) (near far : Policy) (one later other : List Occurrence) (c r c' r' d s d' s' : List (List ℕ)) (p : PairAt whole most near far one other c r c' r') → extra + most ≤ m → (step : Step whole extra (p.near_due + p.far_due) near one later (pair_of near far p.turns) d s d' s')
    → AreWorded near far (p.turns ++ record { side = Near; happening = step.happening } ∷ []) → PairAt whole m near far later other d s d' s'
near_on whole most m extra near far one later other c r c' r' d s d' s' p more step worded =
    let turn : Turn = record { side = Near; happening = step.happening } in
    let after : pair_of near far (p.turns ++ turn ∷ []) ≡ step.next = fold-append pair_after (new_pair near far) p.turns (turn ∷ []) ∙ step.is in
    record {
      turns = p.turns ++ turn ∷ [];
      near_is = ap (λ (q : Pair). q.near.run) after ∙ step.run_is;
      far_is = ap (λ (q : Pair). q.far.run) after ∙ (step.far_run ∙ p.far_is);
      near_list = list_more near_in near far p.turns turn one p.near_list ∙ (ap (λ (l : List Occurrence). one ++ l) (near_joints (occurs_by step.happening (pair_of near far p.turns).near)).0 ∙ sym step.later_is);
      far_list = list_more far_in near far p.turns turn other p.far_list ∙ (ap (λ (l : List Occurrence). other ++ l) (near_joints (occurs_by step.happening (pair_of near far p.turns).near)).1 ∙ append-nil other);
      goes = each_after-more (λ past turn. Goes turn.happening (end_at turn.side (pair_of near far past))) p.turns turn p.goes step.goes;
      takes = λ mine theirs. let took = step.takes mine in each_after-more (λ past turn. DoesSo IsTakeable turn.happening (end_at turn.side (pair_of near far past))) p.turns turn (p.takes took.0 theirs) took.1;
      kept = kept_more whole p.turns turn p.kept step.kept;
      settled = each_after-more (λ past turn. IsSettledAt turn.happening (seen_from turn.side (pair_of near far past))) p.turns turn p.settled step.settled;
      none_waits = each_after-more (λ past turn. NoneWaitsAt turn.happening (end_at turn.side (pair_of near far past))) p.turns turn p.none_waits step.none_waits;
      worded = worded;
      near_due = step.due;
      far_due = step.far_due;
      near_comes = subst (λ (q : Pair). IsComing whole step.due q.near d s) (sym after) step.comes;
      far_comes = subst (λ (q : Pair). IsComing whole step.far_due q.far d' s') (sym after) step.far_comes;
      spent = spends near far p.turns turn most m extra (p.near_due + p.far_due) (step.due + step.far_due) more p.spent step.cost;
    }

far_on : (whole : Bool) (most m extra : ℕ) (near far : Policy) (one other later : List Occurrence) (c r c' r' d s d' s' : List (List ℕ)) (p : PairAt whole most near far one other c r c' r') → extra + most ≤ m → (step : Step whole extra (p.far_due + p.near_due) far other later (turned (pair_of near far p.turns)) d' s' d s)
    → AreWorded near far (p.turns ++ record { side = Far; happening = step.happening } ∷ []) → PairAt whole m near far one later d s d' s'
far_on whole most m extra near far one other later c r c' r' d s d' s' p more step worded =
    let turn : Turn = record { side = Far; happening = step.happening } in
    let after : pair_of near far (p.turns ++ turn ∷ []) ≡ turned step.next = fold-append pair_after (new_pair near far) p.turns (turn ∷ []) ∙ ap turned step.is in
    record {
      turns = p.turns ++ turn ∷ [];
      near_is = ap (λ (q : Pair). q.near.run) after ∙ (step.far_run ∙ p.near_is);
      far_is = ap (λ (q : Pair). q.far.run) after ∙ step.run_is;
      near_list = list_more near_in near far p.turns turn one p.near_list ∙ (ap (λ (l : List Occurrence). one ++ l) (far_joints (occurs_by step.happening (pair_of near far p.turns).far)).0 ∙ append-nil one);
      far_list = list_more far_in near far p.turns turn other p.far_list ∙ (ap (λ (l : List Occurrence). other ++ l) (far_joints (occurs_by step.happening (pair_of near far p.turns).far)).1 ∙ sym step.later_is);
      goes = each_after-more (λ past turn. Goes turn.happening (end_at turn.side (pair_of near far past))) p.turns turn p.goes step.goes;
      takes = λ mine theirs. let took = step.takes theirs in each_after-more (λ past turn. DoesSo IsTakeable turn.happening (end_at turn.side (pair_of near far past))) p.turns turn (p.takes mine took.0) took.1;
      kept = kept_more whole p.turns turn p.kept step.kept;
      settled = each_after-more (λ past turn. IsSettledAt turn.happening (seen_from turn.side (pair_of near far past))) p.turns turn p.settled step.settled;
      none_waits = each_after-more (λ past turn. NoneWaitsAt turn.happening (end_at turn.side (pair_of near far past))) p.turns turn p.none_waits step.none_waits;
      worded = worded;
      near_due = step.far_due;
      far_due = step.due;
      near_comes = subst (λ (q : Pair). IsComing whole step.far_due q.near d s) (sym after) step.far_comes;
      far_comes = subst (λ (q : Pair). IsComing whole step.due q.far d' s') (sym after) step.comes;
      spent =
          let same = disturbs_turned step.happening (pair_of near far p.turns) in
          let so_far = p.spent in
          let cost = step.cost in
          spends near far p.turns turn most m extra (p.near_due + p.far_due) (step.far_due + step.due) more so_far (omega (arith, same, cost));
    }

-- ---- from either end

turned_silent : (pair : Pair) → AreSilent (turned pair) → AreSilent pair
turned_silent pair silent = record { near_none = silent.far_none; far_none = silent.near_none }

-- as the host at one side has it, where all that is under way comes in whole, or maybe not, and so many turns disturb at most
pub data View : Type 0 where
  NearBy : (whole : Bool) (most : ℕ) → View
  FarBy : (whole : Bool) (most : ℕ) → View

abbrev pub whole_of : View → Bool
whole_of (NearBy whole most) = whole
whole_of (FarBy whole most) = whole

abbrev pub most_of : View → ℕ
most_of (NearBy whole most) = most
most_of (FarBy whole most) = most

abbrev pub with_most : ℕ → View → View
with_most m (NearBy whole most) = NearBy whole m
with_most m (FarBy whole most) = FarBy whole m

abbrev pub PairFrom : View → (mine theirs : Policy) (list other : List Occurrence) (coming rest far_coming far_rest : List (List ℕ)) → Type 0
PairFrom (NearBy whole most) mine theirs list other coming rest far_coming far_rest = PairAt whole most mine theirs list other coming rest far_coming far_rest
PairFrom (FarBy whole most) mine theirs list other coming rest far_coming far_rest = PairAt whole most theirs mine other list far_coming far_rest coming rest

richer_at : (whole : Bool) (most m : ℕ) (near far : Policy) (one other : List Occurrence) (c r c' r' : List (List ℕ)) → most ≤ m → PairAt whole most near far one other c r c' r' → PairAt whole m near far one other c r c' r'
richer_at whole most m near far one other c r c' r' more p =
    let spent = p.spent in
    record { turns = p.turns; near_is = p.near_is; far_is = p.far_is; near_list = p.near_list; far_list = p.far_list; goes = p.goes; takes = p.takes; kept = p.kept; settled = p.settled; none_waits = p.none_waits; worded = p.worded; near_due = p.near_due; far_due = p.far_due; near_comes = p.near_comes; far_comes = p.far_comes; spent = omega (arith, spent, more) }

-- more may be spent
pub richer : (side : View) (m : ℕ) (mine theirs : Policy) (list other : List Occurrence) (c r c' r' : List (List ℕ)) → most_of side ≤ m → PairFrom side mine theirs list other c r c' r' → PairFrom (with_most m side) mine theirs list other c r c' r'
richer (NearBy whole most) m mine theirs list other c r c' r' more p = richer_at whole most m mine theirs list other c r c' r' more p
richer (FarBy whole most) m mine theirs list other c r c' r' more p = richer_at whole most m theirs mine other list c' r' c r more p

pub record Faced (side : View) (mine theirs : Policy) (list other : List Occurrence) (coming rest far_coming far_rest : List (List ℕ)) : Type 0 where
  pub pair : Pair
  pub policy_is : pair.near.policy ≡ mine
  pub run_is : pair.near.run ≡ run_of mine list
  pub far_run_is : pair.far.run ≡ run_of theirs other
  pub due : ℕ
  pub far_due : ℕ
  pub comes : IsComing (whole_of side) due pair.near coming rest
  pub far_comes : IsComing (whole_of side) far_due pair.far far_coming far_rest
  pub on : (later : List Occurrence) (d s d' s' : List (List ℕ)) → (step : Step (whole_of side) 0 (due + far_due) mine list later pair d s d' s') → (is_unprompted step.happening ≡ false → AreSilent pair) → PairFrom side mine theirs later other d s d' s'
  -- where more is spent
  pub on_at : (m extra : ℕ) → extra + most_of side ≤ m → (later : List Occurrence) (d s d' s' : List (List ℕ)) → (step : Step (whole_of side) extra (due + far_due) mine list later pair d s d' s') → (is_unprompted step.happening ≡ false → AreSilent pair)
      → PairFrom (with_most m side) mine theirs later other d s d' s'

pub faced : (side : View) (mine theirs : Policy) (list other : List Occurrence) (c r c' r' : List (List ℕ)) → PairFrom side mine theirs list other c r c' r' → Faced side mine theirs list other c r c' r'
faced (NearBy whole most) mine theirs list other c r c' r' p = record {
  pair = pair_of mine theirs p.turns;
  policy_is = end-policy mine theirs p.turns Near;
  run_is = p.near_is;
  far_run_is = p.far_is;
  due = p.near_due;
  far_due = p.far_due;
  comes = p.near_comes;
  far_comes = p.far_comes;
  on = λ later d s d' s' step silent. near_on whole most most 0 mine theirs list later other c r c' r' d s d' s' p (omega arith) step (turn-worded mine theirs p.turns p.worded Near step.happening silent);
  on_at = λ m extra more later d s d' s' step silent. near_on whole most m extra mine theirs list later other c r c' r' d s d' s' p more step (turn-worded mine theirs p.turns p.worded Near step.happening silent);
}
faced (FarBy whole most) mine theirs list other c r c' r' p = record {
  pair = turned (pair_of theirs mine p.turns);
  policy_is = end-policy theirs mine p.turns Far;
  run_is = p.far_is;
  far_run_is = p.near_is;
  due = p.far_due;
  far_due = p.near_due;
  comes = p.far_comes;
  far_comes = p.near_comes;
  on = λ later d s d' s' step silent.
      far_on whole most most 0 theirs mine other list later c' r' c r d' s' d s p (omega arith) step (turn-worded theirs mine p.turns p.worded Far step.happening (λ asked. turned_silent (pair_of theirs mine p.turns) (silent asked)));
  on_at = λ m extra more later d s d' s' step silent.
      far_on whole most m extra theirs mine other list later c' r' c r d' s' d s p more step (turn-worded theirs mine p.turns p.worded Far step.happening (λ asked. turned_silent (pair_of theirs mine p.turns) (silent asked)));
}

-- ---- what an end does

-- behind what happened to it no channel of the host has anything to give
abbrev pub GivesNone : Policy → List Occurrence → Type 0
GivesNone policy list = list_any gives (run_of policy list).value.held ≡ false

-- nor has the host an answer that waits, and it owes no reply
pub record SaysNone (policy : Policy) (list : List Occurrence) : Type 0 where
  pub silent : list_any is_answer (run_of policy list).value.queue ≡ false
  pub gives_none : GivesNone policy list
  pub clear : owes (run_of policy list).value ≡ false

silent_by : (mine theirs : Policy) (list other : List Occurrence) (pair : Pair) → pair.near.run ≡ run_of mine list → pair.far.run ≡ run_of theirs other → GivesNone mine list → GivesNone theirs other → AreSilent pair
silent_by mine theirs list other pair near_is far_is none far_none = record { near_none = ap (λ (r : Run). list_any gives r.value.held) near_is ∙ none; far_none = ap (λ (r : Run). list_any gives r.value.held) far_is ∙ far_none }

occurs_is : (mine : Policy) (end' : End) (list : List Occurrence) (one : Occurrence) → end'.policy ≡ mine → end'.run ≡ run_of mine list → (occurs one end').run ≡ run_of mine (list ++ one ∷ [])
occurs_is mine end' list one policy_is run_is =
    ap (λ (p : Policy). run_on p end'.run one) policy_is ∙ (ap (λ (r : Run). run_on mine r one) run_is ∙ sym (fold-append (run_on mine) new_link list (one ∷ [])))

pub each_split : {X : Type 0} (P : List X → X → Type 0) (past xs ys : List X) → EachAfter P past (xs ++ ys) → EachAfter P past xs × EachAfter P (past ++ xs) ys
each_split P past [] ys all = (tt, subst (λ before. EachAfter P before ys) (sym (append-nil past)) all)
each_split P past (x ∷ xs) ys (now, all) =
    let rest = each_split P (past ++ x ∷ []) xs ys all in ((now, rest.0), subst (λ before. EachAfter P before ys) (append_assoc past (x ∷ []) xs) rest.1)

takes_one : (mine : Policy) (end' : End) (list : List Occurrence) (one : Occurrence) → end'.run ≡ run_of mine list → TakesAll mine (list ++ one ∷ []) → TakesAll mine list × IsTakeable one end'.run.value
takes_one mine end' list one run_is all =
    let parts = each_split (λ past more. IsTakeable more (run_of mine past).value) [] list (one ∷ []) all in (parts.0, subst (λ (r : Run). IsTakeable one r.value) (sym run_is) parts.1.0)

-- something more stands behind all that is coming
put_behind : (whole : Bool) (due : ℕ) (end' : End) (pdu : List ℕ) (coming rest : List (List ℕ)) → IsComing whole due end' coming rest → IsComing whole due (let_go (end'.coming ++ pdu ∷ []) end') coming (rest ++ pdu ∷ [])
put_behind whole due end' pdu [] rest comes = ap (λ (l : List (List ℕ)). l ++ pdu ∷ []) comes
put_behind whole due end' pdu (first ∷ other ∷ more) rest comes = absurd comes
put_behind whole due end' pdu (first ∷ []) rest comes = by comes
  where
    by : Passage whole due end' first rest → Passage whole due (let_go (end'.coming ++ pdu ∷ []) end') first (rest ++ pdu ∷ [])
    by (Whole is) = Whole (ap (λ (l : List (List ℕ)). l ++ pdu ∷ []) is)
    by (Again broken some behind is rest_is) = Again broken some (behind ++ pdu ∷ []) (ap (λ (l : List (List ℕ)). l ++ pdu ∷ []) is) (ap (λ (l : List (List ℕ)). l ++ pdu ∷ []) rest_is)
    by (Other broken some frame is change apart) = Other broken some frame (ap (λ (l : List (List ℕ)). l ++ pdu ∷ []) is) change apart

quiet_by : (mine theirs : Policy) (list other : List Occurrence) (pair : Pair) → pair.near.run ≡ run_of mine list → pair.far.run ≡ run_of theirs other → pair.near.coming ≡ [] → pair.far.coming ≡ []
    → list_any is_answer (run_of mine list).value.queue ≡ false → list_any is_answer (run_of theirs other).value.queue ≡ false → is_quiet pair ≡ true
quiet_by mine theirs list other pair near_run far_run near_is far_is silent far_silent =
    let near_says : list_any is_answer pair.near.run.value.queue ≡ false = ap (λ (r : Run). list_any is_answer r.value.queue) near_run ∙ silent in
    let far_says : list_any is_answer pair.far.run.value.queue ≡ false = ap (λ (r : Run). list_any is_answer r.value.queue) far_run ∙ far_silent in
    ap (λ (c : List (List ℕ)). (eqb (length c) 0 && eqb (length pair.far.coming) 0) && (not (list_any is_answer pair.near.run.value.queue) && not (list_any is_answer pair.far.run.value.queue))) near_is
    ∙ (ap (λ (c : List (List ℕ)). eqb (length c) 0 && (not (list_any is_answer pair.near.run.value.queue) && not (list_any is_answer pair.far.run.value.queue))) far_is
    ∙ (ap (λ (b : Bool). not b && not (list_any is_answer pair.far.run.value.queue)) near_says ∙ ap not far_says))

-- a host whose timer fires has nothing to give, and no command of it waits
pub record MayFire (policy : Policy) (list : List Occurrence) : Type 0 where
  pub gives_none : GivesNone policy list
  pub none_waits : (run_of policy list).value.queue ≡ []

abbrev fire_step : (whole : Bool) (extra due far_due : ℕ) (mine theirs : Policy) (list other : List Occurrence) (pair : Pair) (rest far_coming far_rest : List (List ℕ)) → pair.near.policy ≡ mine → pair.near.run ≡ run_of mine list → pair.far.run ≡ run_of theirs other → IsComing whole due pair.near [] rest
    → IsComing whole far_due pair.far far_coming far_rest → MayFire mine list → owes (run_of theirs other).value ≡ false → one_if (not (is_quiet pair)) ≤ extra → Step whole extra (due + far_due) mine list (list ++ Fires ∷ []) pair [] rest far_coming far_rest
fire_step whole extra due far_due mine theirs list other pair rest far_coming far_rest policy_is run_is far_run_is comes far_comes can clear paid = record {
  happening = Acts Fires;
  next = with_near (occurs Fires pair.near) pair;
  is = refl;
  goes = record { fair = tt; read = tt; addressed = tt; changed = tt; roomy = tt };
  run_is = occurs_is mine pair.near list Fires policy_is run_is;
  later_is = refl;
  far_run = refl;
  takes = takes_one mine pair.near list Fires run_is;
  kept = tt;
  settled = λ fires quiet. (ap (λ (r : Run). list_any gives r.value.held) run_is ∙ can.gives_none, ap (λ (r : Run). owes r.value) far_run_is ∙ clear);
  none_waits = λ fires. ap (λ (r : Run). r.value.queue) run_is ∙ can.none_waits;
  due = due;
  far_due = far_due;
  comes = comes;
  far_comes = far_comes;
  cost = omega (arith, paid);
}

-- the timers of both fire, where nothing is under way to either, no answer waits, and neither owes the other a reply
pub fire-both : (whole : Bool) (most : ℕ) (near far : Policy) (one other : List Occurrence) (rest far_rest : List (List ℕ)) → rest ≡ [] → far_rest ≡ [] → list_any is_answer (run_of near one).value.queue ≡ false → list_any is_answer (run_of far other).value.queue ≡ false
    → MayFire near one → MayFire far other → owes (run_of far other).value ≡ false → list_any is_answer (run_of near (one ++ Fires ∷ [])).value.queue ≡ false → owes (run_of near (one ++ Fires ∷ [])).value ≡ false
    → PairAt whole most near far one other [] rest [] far_rest → PairAt whole most near far (one ++ Fires ∷ []) (other ++ Fires ∷ []) [] rest [] far_rest
unfolding near_on
fire-both whole most near far one other rest far_rest none far_none silent far_silent can far_can far_clear silent' clear' p =
    let pair = pair_of near far p.turns in
    let so = silent_by near far one other pair p.near_is p.far_is can.gives_none far_can.gives_none in
    let quiet = quiet_by near far one other pair p.near_is p.far_is (p.near_comes ∙ none) (p.far_comes ∙ far_none) silent far_silent in
    let first = near_on whole most most 0 near far one (one ++ Fires ∷ []) other [] rest [] far_rest [] rest [] far_rest p (omega arith)
    (fire_step whole 0 p.near_due p.far_due near far one other pair rest [] far_rest (end-policy near far p.turns Near) p.near_is p.far_is p.near_comes p.far_comes can far_clear (let free = ap (λ (b : Bool). one_if (not b)) quiet in omega (arith, free)))
    (turn-worded near far p.turns p.worded Near (Acts Fires) (λ asked. so)) in
    let mid = turned (pair_of near far first.turns) in
    let later = quiet_by far near other (one ++ Fires ∷ []) mid first.far_is first.near_is (first.far_comes ∙ far_none) (first.near_comes ∙ none) far_silent silent' in
    far_on whole most most 0 near far (one ++ Fires ∷ []) other (other ++ Fires ∷ []) [] rest [] far_rest [] rest [] far_rest first (omega arith)
    (fire_step whole 0 first.far_due first.near_due far near other (one ++ Fires ∷ []) mid far_rest [] rest (end-policy near far first.turns Far) first.far_is first.near_is first.far_comes first.near_comes far_can clear' (let free = ap (λ (b : Bool). one_if (not b)) later in omega (arith, free)))
    (both-worded near far p.turns p.worded so (p.near_comes ∙ none) (p.far_comes ∙ far_none))

module _ (side : View) (mine theirs : Policy) (list other : List Occurrence) (far_coming far_rest : List (List ℕ)) where
  -- something that its host does alone, and no firing
  pub does-alone : (one : Occurrence) (rest : List (List ℕ)) → is_alone one ≡ true → is_firing one ≡ false → IsUttered one (run_of mine list).value → PairFrom side mine theirs list other [] rest far_coming far_rest → PairFrom side mine theirs (list ++ one ∷ []) other [] rest far_coming far_rest
  does-alone one rest alone plain uttered p =
      let v = faced side mine theirs list other [] rest far_coming far_rest p in
      let pair = v.pair in
      v.on (list ++ one ∷ []) [] rest far_coming far_rest (record {
        happening = Acts one;
        next = with_near (occurs one pair.near) pair;
        is = ap (λ (b : Bool). if b then with_near (occurs one pair.near) pair else pair) alone;
        goes = record { fair = subst (λ (r : Run). IsUttered one r.value) (sym v.run_is) uttered; read = tt; addressed = tt; changed = tt; roomy = tt };
        run_is = occurs_is mine pair.near list one v.policy_is v.run_is;
        later_is = ap (λ (b : Bool). list ++ (if b then one ∷ [] else [])) (sym alone);
        far_run = refl;
        takes = takes_one mine pair.near list one v.run_is;
        kept = tt;
        settled = λ fires quiet. let never : false ≡ true = sym plain ∙ fires in absurd cc;
        none_waits = λ fires. let never : false ≡ true = sym plain ∙ fires in absurd cc;
        due = v.due;
        far_due = v.far_due;
        comes = v.comes;
        far_comes = v.far_comes;
        cost = let none : disturbs (Acts one) pair ≡ 0 = ap (λ (b : Bool). one_if (b && not (is_quiet pair))) plain in omega (arith, none);
      }) (λ asked. let never : true ≡ false = sym (ap not plain) ∙ asked in absurd cc)

  -- nothing is under way to either, and no answer waits
  abbrev pub IsStill : (rest : List (List ℕ)) → Type 0
  IsStill rest = (rest ≡ []) × (far_coming ≡ []) × (far_rest ≡ []) × (list_any is_answer (run_of mine list).value.queue ≡ false) × (list_any is_answer (run_of theirs other).value.queue ≡ false)

  still_quiet : (rest : List (List ℕ)) (v : Faced side mine theirs list other [] rest far_coming far_rest) → IsStill rest → is_quiet v.pair ≡ true
  still_quiet rest v (none, far_none, far_left, silent, far_silent) =
      quiet_by mine theirs list other v.pair v.run_is v.far_run_is (v.comes ∙ none) (far_empty far_coming v.far_comes far_none ∙ far_left) silent far_silent
    where
      far_empty : (coming : List (List ℕ)) → IsComing (whole_of side) v.far_due v.pair.far coming far_rest → coming ≡ [] → v.pair.far.coming ≡ far_rest
      far_empty [] comes is = comes
      far_empty (pdu ∷ coming) comes is = cc

  -- its timer fires: that is free where all is still
  pub fires-it : (free : Bool) (m : ℕ) (rest : List (List ℕ)) → one_if (not free) + most_of side ≤ m → (free ≡ true → IsStill rest) → MayFire mine list → owes (run_of theirs other).value ≡ false → GivesNone theirs other → PairFrom side mine theirs list other [] rest far_coming far_rest
      → PairFrom (with_most m side) mine theirs (list ++ Fires ∷ []) other [] rest far_coming far_rest
  fires-it free m rest more still can clear far_none p =
      let v = faced side mine theirs list other [] rest far_coming far_rest p in
      let pair = v.pair in
      v.on_at m (one_if (not free)) more (list ++ Fires ∷ []) [] rest far_coming far_rest
      (fire_step (whole_of side) (one_if (not free)) v.due v.far_due mine theirs list other pair rest far_coming far_rest v.policy_is v.run_is v.far_run_is v.comes v.far_comes can clear
      (by free (is_quiet pair) (λ on. still_quiet rest v (still on)))) (λ asked. silent_by mine theirs list other pair v.run_is v.far_run_is can.gives_none far_none)
    where
      by : (free quiet : Bool) → (free ≡ true → quiet ≡ true) → one_if (not quiet) ≤ one_if (not free)
      by false true so = omega arith
      by false false so = omega arith
      by true true so = omega arith
      by true false so = let never : false ≡ true = so refl in cc

  -- it gives its next PDU
  pub puts-it : (pdu : List ℕ) (given : Given) (rest : List (List ℕ)) → next_given (run_of mine list).value ≡ Some given → IsSpelled (Some given) pdu → IsReadAs (Some given) pdu → IsAddressed (Some given) pdu → PairFrom side mine theirs list other [] rest far_coming far_rest
      → PairFrom side mine theirs (list ++ Gives pdu ∷ []) other [] rest far_coming (far_rest ++ pdu ∷ [])
  puts-it pdu given rest is spelled read addressed p =
      let v = faced side mine theirs list other [] rest far_coming far_rest p in
      let pair = v.pair in
      let gives : next_given pair.near.run.value ≡ Some given = ap (λ (r : Run). next_given r.value) v.run_is ∙ is in
      v.on (list ++ Gives pdu ∷ []) [] rest far_coming (far_rest ++ pdu ∷ []) (record {
        happening = Puts pdu;
        next = put pdu pair;
        is = ap (λ (g : Option Given). puts g pdu pair) gives;
        goes = record {
          fair = subst (λ (g : Option Given). IsSpelled g pdu) (sym gives) spelled;
          read = subst (λ (g : Option Given). IsReadAs g pdu) (sym gives) read;
          addressed = subst (λ (g : Option Given). IsAddressed g pdu) (sym gives) addressed;
          changed = tt;
          roomy = tt;
        };
        run_is = occurs_is mine pair.near list (Gives pdu) v.policy_is v.run_is;
        later_is = ap (λ (g : Option Given). list ++ given_as g pdu) (sym gives);
        far_run = refl;
        takes = takes_one mine pair.near list (Gives pdu) v.run_is;
        kept = tt;
        settled = tt;
        none_waits = tt;
        due = v.due;
        far_due = v.far_due;
        comes = v.comes;
        far_comes = put_behind (whole_of side) v.far_due pair.far pdu far_coming far_rest v.far_comes;
        cost = omega arith;
      }) (λ asked. cc)

  -- the first of what is under way to it is lost
  pub loses-it : (pdu : List ℕ) (m : ℕ) (rest : List (List ℕ)) → 1 + most_of side ≤ m → whole_of side ≡ false → GivesNone mine list → GivesNone theirs other → PairFrom side mine theirs list other [] (pdu ∷ rest) far_coming far_rest → PairFrom (with_most m side) mine theirs list other [] rest far_coming far_rest
  loses-it pdu m rest more broken none far_none p =
      let v = faced side mine theirs list other [] (pdu ∷ rest) far_coming far_rest p in
      let pair = v.pair in
      v.on_at m 1 more list [] rest far_coming far_rest (record {
        happening = Loses;
        next = with_near (let_go rest pair.near) pair;
        is = ap (λ (l : List (List ℕ)). with_near (loses_first l pair.near) pair) v.comes;
        goes = record { fair = tt; read = tt; addressed = tt; changed = tt; roomy = tt };
        run_is = v.run_is;
        later_is = sym (append-nil list);
        far_run = refl;
        takes = λ all. (all, tt);
        kept = broken;
        settled = tt;
        none_waits = tt;
        due = v.due;
        far_due = v.far_due;
        comes = refl;
        far_comes = v.far_comes;
        cost = omega arith;
      }) (λ asked. silent_by mine theirs list other pair v.run_is v.far_run_is none far_none)

  comes_on : (pdu : List ℕ) (rest : List (List ℕ)) (v : Faced side mine theirs list other (pdu ∷ []) rest far_coming far_rest) (happening : Happening) (end' : End) → happens_near happening v.pair ≡ with_near (occurs (Comes pdu) end') v.pair → end'.run ≡ v.pair.near.run → end'.policy ≡ v.pair.near.policy
      → end'.coming ≡ rest → occurs_by happening v.pair.near ≡ Comes pdu ∷ [] → Goes happening v.pair.near → DoesSo IsTakeable happening v.pair.near → IsKept (whole_of side) happening → IsSettledAt happening v.pair → NoneWaitsAt happening v.pair.near → disturbs happening v.pair ≤ v.due → AreSilent v.pair
      → PairFrom side mine theirs (list ++ Comes pdu ∷ []) other [] rest far_coming far_rest
  comes_on pdu rest v happening end' is run_is policy_is coming_is happens goes takes kept settled none_waits paid silent =
      let pair = v.pair in
      v.on (list ++ Comes pdu ∷ []) [] rest far_coming far_rest (record {
        happening = happening;
        next = with_near (occurs (Comes pdu) end') pair;
        is = is;
        goes = goes;
        run_is = occurs_is mine end' list (Comes pdu) (policy_is ∙ v.policy_is) (run_is ∙ v.run_is);
        later_is = ap (λ (l : List Occurrence). list ++ l) (sym happens);
        far_run = refl;
        takes = λ all. ((takes_one mine pair.near list (Comes pdu) v.run_is all).0, takes);
        kept = kept;
        settled = settled;
        none_waits = none_waits;
        due = 0;
        far_due = v.far_due;
        comes = coming_is;
        far_comes = v.far_comes;
        cost = omega (arith, paid);
      }) (λ asked. silent)

  passes_in : (pdu : List ℕ) (rest : List (List ℕ)) (v : Faced side mine theirs list other (pdu ∷ []) rest far_coming far_rest) → has_room v.pair.near.run.value ≡ true → AreSilent v.pair → Passage (whole_of side) v.due v.pair.near pdu rest → PairFrom side mine theirs (list ++ Comes pdu ∷ []) other [] rest far_coming far_rest
  passes_in pdu rest v room silent (Whole is) =
      let pair = v.pair in comes_on pdu rest v Takes (let_go rest pair.near) (ap (λ (l : List (List ℕ)). with_near (takes_first l pair.near) pair) is) refl refl refl (ap first_come is) (record { fair = tt; read = tt; addressed = tt; changed = tt; roomy = room }) tt tt tt tt (omega arith) silent
  passes_in pdu rest v room silent (Again broken some behind is rest_is) =
      let pair = v.pair in comes_on pdu rest v Repeats pair.near (ap (λ (l : List (List ℕ)). with_near (repeats_first l pair.near) pair) is) refl refl (is ∙ sym rest_is) (ap first_come is) (record { fair = tt; read = tt; addressed = tt; changed = tt; roomy = tt }) tt broken tt tt some silent
  passes_in pdu rest v room silent (Other broken some frame is change apart) =
      let pair = v.pair in
      comes_on pdu rest v (Damages pdu) (let_go rest pair.near)
      (ap (λ (l : List (List ℕ)). with_near (damages_first pdu l pair.near) pair) is
      ∙ ap (λ (b : Bool). with_near (if b then occurs (Comes pdu) (let_go rest pair.near) else let_go rest pair.near) pair) change.checked)
      refl refl refl (ap (λ (l : List (List ℕ)). damaged_come pdu l pair.near) is ∙ ap (λ (b : Bool). if b then Comes pdu ∷ [] else []) change.checked) (record { fair = tt; read = apart; addressed = tt; changed = subst (λ (l : List (List ℕ)). IsChangeOfFirst l pair.near.run.value pdu) (sym is) change; roomy = tt }) tt broken tt tt some silent

  -- what is being handed over to it comes in, where there is room for an answer
  pub comes-in : (pdu : List ℕ) (rest : List (List ℕ)) → has_room (run_of mine list).value ≡ true → GivesNone mine list → GivesNone theirs other → PairFrom side mine theirs list other (pdu ∷ []) rest far_coming far_rest → PairFrom side mine theirs (list ++ Comes pdu ∷ []) other [] rest far_coming far_rest
  comes-in pdu rest room none far_none p =
      let v = faced side mine theirs list other (pdu ∷ []) rest far_coming far_rest p in
      passes_in pdu rest v (ap (λ (r : Run). has_room r.value) v.run_is ∙ room) (silent_by mine theirs list other v.pair v.run_is v.far_run_is none far_none) v.comes

  -- the first that is under way to it is handed over
  pub is-handed : (pdu : List ℕ) (due m : ℕ) (before rest : List (List ℕ)) → due + most_of side ≤ m → ((end' : End) → end'.coming ≡ before → end'.run ≡ run_of mine list → Passage (whole_of side) due end' pdu rest) → PairFrom side mine theirs list other [] before far_coming far_rest
      → PairFrom (with_most m side) mine theirs list other (pdu ∷ []) rest far_coming far_rest
  is-handed pdu due m before rest more passes p = by side more passes p
    where
      by : (which : View) → due + most_of which ≤ m → ((end' : End) → end'.coming ≡ before → end'.run ≡ run_of mine list → Passage (whole_of which) due end' pdu rest) → PairFrom which mine theirs list other [] before far_coming far_rest
          → PairFrom (with_most m which) mine theirs list other (pdu ∷ []) rest far_coming far_rest
      by (NearBy whole most) enough passed q =
          let spent = q.spent in
          record { turns = q.turns; near_is = q.near_is; far_is = q.far_is; near_list = q.near_list; far_list = q.far_list; goes = q.goes; takes = q.takes; kept = q.kept; settled = q.settled; none_waits = q.none_waits; worded = q.worded; near_due = due; far_due = q.far_due; near_comes = passed (pair_of mine theirs q.turns).near q.near_comes q.near_is; far_comes = q.far_comes; spent = omega (arith, spent, enough) }
      by (FarBy whole most) enough passed q =
          let spent = q.spent in
          record { turns = q.turns; near_is = q.near_is; far_is = q.far_is; near_list = q.near_list; far_list = q.far_list; goes = q.goes; takes = q.takes; kept = q.kept; settled = q.settled; none_waits = q.none_waits; worded = q.worded; near_due = q.near_due; far_due = due; near_comes = q.near_comes; far_comes = passed (pair_of theirs mine q.turns).far q.far_comes q.far_is; spent = omega (arith, spent, enough) }
