-- How often frames and polls are given, against what went wrong.
use Rattle.std.specs.Prelude.{ℕ, ◌≡◌, ◌+◌, ◌≤◌, false, List, [], ◌∷◌, Some, None}
use Rattle.std.specs.List.{AllByRecursion}
use Rattle.l2cap_config.specs.declared.wish.Agreed.{Agreed}
use Rattle.ertm_model.specs.declared.reason.ErtmReason.TheVariants.{RetryLimit}
use Rattle.ertm_model.specs.Value.{Kept, armed}
use Rattle.ertm_model.specs.Giving.{giving}
use Rattle.ertm_model.specs.Pair.{End, Deed, Give, Fire, Submit, Pass, Lose, Repeat, Damage, Pair, Turn, ByA, ByB, turned, new_pair, MayTurn, Meets}

-- both ends are open, nothing is on its way, and neither has anything to give
pub record IsAtRest (x y : End) : Type 0 where
  pub open_x : x.machine.closed ≡ None
  pub open_y : y.machine.closed ≡ None
  pub none_x : x.queue ≡ []
  pub none_y : y.queue ≡ []
  pub silent_x : giving x.machine ≡ None
  pub silent_y : giving y.machine ≡ None

-- a turn; or both timers fire where both ends are at rest
pub data Happening : Type 0 where
  Usual : (turn : Turn) → Happening
  Rest : Happening

abbrev pub happened : Happening → Pair → Pair
happened (Usual turn) p = turned turn p
happened Rest p = turned (ByB Fire) (turned (ByA Fire) p)

abbrev pub all_happened : List Happening → Pair → Pair
all_happened [] p = p
all_happened (happening ∷ happenings) p = all_happened happenings (happened happening p)

abbrev pub MayHappen : Happening → Pair → Type 0
MayHappen (Usual turn) p = MayTurn turn p
MayHappen Rest p = IsAtRest p.a p.b

abbrev pub AllMayHappen : List Happening → Pair → Type 0
AllMayHappen [] p = Unit {0}
AllMayHappen (happening ∷ happenings) p = MayHappen happening p × AllMayHappen happenings (happened happening p)

-- what goes wrong: a loss, a repeat, damage, or a timer that fires out of turn
abbrev pub adverse : Deed → ℕ
adverse Give = 0
adverse Fire = 1
adverse (Submit sdu) = 0
adverse Pass = 0
adverse Lose = 1
adverse Repeat = 1
adverse (Damage refusal) = 1

abbrev pub adverse_turn : Turn → ℕ
adverse_turn (ByA deed) = adverse deed
adverse_turn (ByB deed) = adverse deed

abbrev pub cost : Happening → ℕ
cost (Usual turn) = adverse_turn turn
cost Rest = 0

abbrev pub all_costs : List Happening → ℕ
all_costs [] = 0
all_costs (happening ∷ happenings) = cost happening + all_costs happenings

-- A frame in the window was given for the t-th time only after t - 1 adverse turns, polls were given in a row at most as
-- often as there were such turns, and an end closed for want of tries only after as many of them as it has tries.
pub record Affords (wrong : ℕ) (x : End) : Type 0 where
  pub given : AllByRecursion (λ (kept : Kept). kept.given ≤ wrong + 1) x.machine.sender.unacked
  pub polled : x.machine.sender.polls ≤ wrong
  pub limit : x.machine.closed ≡ Some RetryLimit → x.machine.agreed.tries ≤ wrong

abbrev pub AffordsBoth : ℕ → Pair → Type 0
AffordsBoth wrong p = Affords wrong p.a × Affords wrong p.b

abbrev pub AlwaysAffords : Type 0
AlwaysAffords = (a b : Agreed) (happenings : List Happening) → Meets a b → Meets b a → AllMayHappen happenings (new_pair a b)
    → AffordsBoth (all_costs happenings) (all_happened happenings (new_pair a b))

-- Of two ends at rest one that is not armed has nothing left: the other end handed up all that was submitted to it. So
-- the timers of armed ends are all that is wanted to go on.
pub record IsDone (x y : End) : Type 0 where
  pub all_up : x.sdus ≡ y.up
  pub none_kept : x.machine.sender.unacked ≡ []
  pub none_fresh : x.machine.sender.fresh ≡ []

abbrev pub UnarmedIsDone : (x y : End) → Type 0
UnarmedIsDone x y = armed x.machine ≡ false → IsDone x y

abbrev pub RestIsDone : Type 0
RestIsDone = (a b : Agreed) (happenings : List Happening) → Meets a b → Meets b a → AllMayHappen happenings (new_pair a b)
    → IsAtRest (all_happened happenings (new_pair a b)).a (all_happened happenings (new_pair a b)).b
    → UnarmedIsDone (all_happened happenings (new_pair a b)).a (all_happened happenings (new_pair a b)).b
    × UnarmedIsDone (all_happened happenings (new_pair a b)).b (all_happened happenings (new_pair a b)).a
