-- Each end of a pair is a host to which something occurred.
use Rattle.std.proofs.Common.{◌≡◌, ℕ, List, [], ◌∷◌, ◌++◌, Bool, true, false, cond, Option, Some, None, refl, sym, ap, subst, ◌∙◌, append_assoc, append-nil}
use Rattle.std.proofs.lemmas.List.Sums.{fold-append}
use Rattle.own_channel_laws.specs.talk_laws.specs.acl_fragments.specs.Pieces.{channel_of}
use Rattle.own_channel_laws.specs.talk_laws.specs.capture.specs.Histories.{EachAfter}
use Rattle.own_channel_laws.specs.talk_laws.specs.capture.proofs.HistoryLaws.{each_after-more}
use Rattle.own_channel_laws.specs.channel_model.specs.Value.{Channels}
use Rattle.own_channel_laws.specs.channel_model.specs.Policies.{Policy}
use Rattle.own_channel_laws.specs.channel_model.specs.Calls.{has_fcs}
use Rattle.own_channel_laws.specs.channel_model.specs.Giving.{Given, next_given}
use Rattle.own_channel_laws.specs.Runs.{Occurrence, Comes, Gives, new_link, run_on, run_of}
use Rattle.own_channel_laws.specs.Frames.{IsUttered}
use Rattle.channel_laws.specs.Pairs.{End, Pair, new_pair, Happening, Acts, Puts, Takes, Repeats, Loses, Damages, is_alone, occurs, with_near, puts, let_go, takes_first, repeats_first, loses_first, damages_first, happens_near, Side, Near, Far, turned, Turn, happens_at, pair_after, pair_of, EachEndRuns}
use Rattle.channel_laws.specs.Modes.{policy_of}
use Rattle.channel_laws.specs.Ends.{DoesSo, end_at, EachEndUtters}

-- something of what occurs to a host, whatever comes in
abbrev pub OfOccurrence : Type 1
OfOccurrence = Occurrence → Channels → Type 0

abbrev pub AnyComes : OfOccurrence → Type 0
AnyComes F = (pdu : List ℕ) (v : Channels) → F (Comes pdu) v

-- a host of the policy, with a run of it
pub record Runs (F : OfOccurrence) (policy : Policy) (end' : End) : Type 0 where
  pub policy_is : end'.policy ≡ policy
  pub list : List Occurrence
  pub run_is : end'.run ≡ run_of policy list
  pub each : EachAfter (λ past more. F more (run_of policy past).value) [] list

pub record BothRun (F : OfOccurrence) (near far : Policy) (pair : Pair) : Type 0 where
  pub near_runs : Runs F near pair.near
  pub far_runs : Runs F far pair.far

occurs_runs : (F : OfOccurrence) (policy : Policy) (end' : End) (occurrence : Occurrence) → F occurrence end'.run.value → Runs F policy end' → Runs F policy (occurs occurrence end')
occurs_runs F policy end' occurrence now runs = record {
  policy_is = runs.policy_is;
  list = runs.list ++ occurrence ∷ [];
  run_is = ap (λ p. run_on p end'.run occurrence) runs.policy_is ∙ (ap (λ r. run_on policy r occurrence) runs.run_is ∙ sym (fold-append (run_on policy) new_link runs.list (occurrence ∷ [])));
  each = each_after-more (λ past more. F more (run_of policy past).value) runs.list occurrence runs.each (subst (λ run. F occurrence run.value) runs.run_is now);
}

lets_run : (F : OfOccurrence) (policy : Policy) (end' : End) (coming : List (List ℕ)) → Runs F policy end' → Runs F policy (let_go coming end')
lets_run F policy end' coming runs = record { policy_is = runs.policy_is; list = runs.list; run_is = runs.run_is; each = runs.each }

takes_run : (F : OfOccurrence) (policy : Policy) (coming : List (List ℕ)) (end' : End) → AnyComes F → Runs F policy end' → Runs F policy (takes_first coming end')
takes_run F policy [] end' any runs = runs
takes_run F policy (pdu ∷ coming) end' any runs = occurs_runs F policy (let_go coming end') (Comes pdu) (any pdu end'.run.value) (lets_run F policy end' coming runs)

repeats_run : (F : OfOccurrence) (policy : Policy) (coming : List (List ℕ)) (end' : End) → AnyComes F → Runs F policy end' → Runs F policy (repeats_first coming end')
repeats_run F policy [] end' any runs = runs
repeats_run F policy (pdu ∷ coming) end' any runs = occurs_runs F policy end' (Comes pdu) (any pdu end'.run.value) runs

loses_run : (F : OfOccurrence) (policy : Policy) (coming : List (List ℕ)) (end' : End) → Runs F policy end' → Runs F policy (loses_first coming end')
loses_run F policy [] end' runs = runs
loses_run F policy (pdu ∷ coming) end' runs = lets_run F policy end' coming runs

damages_run : (F : OfOccurrence) (policy : Policy) (other : List ℕ) (coming : List (List ℕ)) (end' : End) → AnyComes F → Runs F policy end' → Runs F policy (damages_first other coming end')
damages_run F policy other [] end' any runs = runs
damages_run F policy other (pdu ∷ coming) end' any runs = by (has_fcs (channel_of pdu) end'.run.value)
  where
    by : (checked : Bool) → Runs F policy (cond checked (occurs (Comes other) (let_go coming end')) (let_go coming end'))
    by true = occurs_runs F policy (let_go coming end') (Comes other) (any other end'.run.value) (lets_run F policy end' coming runs)
    by false = lets_run F policy end' coming runs

with_runs : (F : OfOccurrence) (near far : Policy) (pair : Pair) (end' : End) → BothRun F near far pair → Runs F near end' → BothRun F near far (with_near end' pair)
with_runs F near far pair end' both runs = record { near_runs = runs; far_runs = both.far_runs }

near_run : (F : OfOccurrence) (near far : Policy) (happening : Happening) (pair : Pair) → AnyComes F → DoesSo F happening pair.near → BothRun F near far pair → BothRun F near far (happens_near happening pair)
near_run F near far (Acts occurrence) pair any fair both = by (is_alone occurrence)
  where
    by : (alone : Bool) → BothRun F near far (cond alone (with_near (occurs occurrence pair.near) pair) pair)
    by true = with_runs F near far pair (occurs occurrence pair.near) both (occurs_runs F near pair.near occurrence fair both.near_runs)
    by false = both
near_run F near far (Puts pdu) pair any fair both = by (next_given pair.near.run.value)
  where
    by : (given : Option Given) → BothRun F near far (puts given pdu pair)
    by None = both
    by (Some given) = record { near_runs = occurs_runs F near pair.near (Gives pdu) fair both.near_runs; far_runs = lets_run F far pair.far (pair.far.coming ++ pdu ∷ []) both.far_runs }
near_run F near far Takes pair any fair both = with_runs F near far pair (takes_first pair.near.coming pair.near) both (takes_run F near pair.near.coming pair.near any both.near_runs)
near_run F near far Repeats pair any fair both = with_runs F near far pair (repeats_first pair.near.coming pair.near) both (repeats_run F near pair.near.coming pair.near any both.near_runs)
near_run F near far Loses pair any fair both = with_runs F near far pair (loses_first pair.near.coming pair.near) both (loses_run F near pair.near.coming pair.near both.near_runs)
near_run F near far (Damages other) pair any fair both = with_runs F near far pair (damages_first other pair.near.coming pair.near) both (damages_run F near other pair.near.coming pair.near any both.near_runs)

turned_runs : (F : OfOccurrence) (near far : Policy) (pair : Pair) → BothRun F near far pair → BothRun F far near (turned pair)
turned_runs F near far pair both = record { near_runs = both.far_runs; far_runs = both.near_runs }

pub at-runs : (F : OfOccurrence) (near far : Policy) (side : Side) (happening : Happening) (pair : Pair) → AnyComes F → DoesSo F happening (end_at side pair) → BothRun F near far pair → BothRun F near far (happens_at side happening pair)
at-runs F near far Near happening pair any fair both = near_run F near far happening pair any fair both
at-runs F near far Far happening pair any fair both = turned_runs F far near (happens_near happening (turned pair)) (near_run F far near happening (turned pair) any fair (turned_runs F near far pair both))

-- each turn behind those before it
all_run : (F : OfOccurrence) (near far : Policy) (past turns : List Turn) → AnyComes F → EachAfter (λ front turn. DoesSo F turn.happening (end_at turn.side (pair_of near far front))) past turns → BothRun F near far (pair_of near far past)
    → BothRun F near far (pair_of near far (past ++ turns))
all_run F near far past [] any fair both = subst (λ list. BothRun F near far (pair_of near far list)) (sym (append-nil past)) both
all_run F near far past (turn ∷ turns) any (now, fair) both =
    subst (λ list. BothRun F near far (pair_of near far list)) (append_assoc past (turn ∷ []) turns)
    (all_run F near far (past ++ turn ∷ []) turns any fair
    (subst (BothRun F near far) (sym (fold-append pair_after (new_pair near far) past (turn ∷ []))) (at-runs F near far turn.side turn.happening (pair_of near far past) any now both)))

pub first-runs : (F : OfOccurrence) (near far : Policy) → BothRun F near far (new_pair near far)
first-runs F near far = record { near_runs = record { policy_is = refl; list = []; run_is = refl; each = tt }; far_runs = record { policy_is = refl; list = []; run_is = refl; each = tt } }

from_first : (F : OfOccurrence) (near far : Policy) (turns : List Turn) → AnyComes F → EachAfter (λ front turn. DoesSo F turn.happening (end_at turn.side (pair_of near far front))) [] turns → BothRun F near far (pair_of near far turns)
from_first F near far turns any fair = all_run F near far [] turns any fair (first-runs F near far)

-- ---- of any host

abbrev Anything : OfOccurrence
Anything occurrence v = Unit {0}

all_fair : (near far : Policy) (past turns : List Turn) → EachAfter (λ front turn. DoesSo Anything turn.happening (end_at turn.side (pair_of near far front))) past turns
all_fair near far past [] = tt
all_fair near far past (turn ∷ turns) = (by turn.happening, all_fair near far (past ++ turn ∷ []) turns)
  where
    by : (happening : Happening) → DoesSo Anything happening (end_at turn.side (pair_of near far past))
    by (Acts occurrence) = tt
    by (Puts pdu) = tt
    by Takes = tt
    by Repeats = tt
    by Loses = tt
    by (Damages pdu) = tt

pub each-end_runs : EachEndRuns
each-end_runs near far turns =
    let both = from_first Anything near far turns (λ pdu v. tt) (all_fair near far [] turns) in
    ((both.near_runs.list, both.near_runs.run_is), (both.far_runs.list, both.far_runs.run_is))

-- ---- of hosts that utter what they are

pub each-end_utters : EachEndUtters
each-end_utters near far turns fair =
    let both = from_first IsUttered near far turns (λ pdu v. tt) fair in
    ((both.near_runs.list, both.near_runs.run_is, both.near_runs.each), (both.far_runs.list, both.far_runs.run_is, both.far_runs.each))

-- the host of an end stays the same
pub end-policy : (near far : Policy) (turns : List Turn) (side : Side) → (end_at side (pair_of near far turns)).policy ≡ policy_of side near far
end-policy near far turns Near = (from_first Anything near far turns (λ pdu v. tt) (all_fair near far [] turns)).near_runs.policy_is
end-policy near far turns Far = (from_first Anything near far turns (λ pdu v. tt) (all_fair near far [] turns)).far_runs.policy_is
