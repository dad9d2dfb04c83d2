-- Words of two ends: something happens, and behind it SDUs are submitted and each end gives all that it has. A word that
-- hands a frame over, or at which timers fire where both ends are at rest, is a pass.
use Rattle.std.specs.Prelude.{ℕ, ◌+◌, ◌*◌, ◌≤◌, ◌≡◌, ◌||◌, List, [], ◌∷◌, length, None, if◌then◌else◌}
use Rattle.std.specs.List.{AllByRecursion}
use Rattle.l2cap_config.specs.declared.wish.Agreed.{Agreed}
use Rattle.ertm_model.specs.Value.{armed}
use Rattle.ertm_model.specs.Giving.{giving}
use Rattle.ertm_model.specs.Pair.{Sent, End, Deed, Give, Fire, Submit, Pass, Lose, Repeat, Damage, Pair, Turn, ByA, ByB, all_turned, AllMay, new_pair, Meets}
use Rattle.ertm_model.specs.Order.{OnlyRetries}
use Rattle.ertm_model.specs.Recovery.{Happening, Usual, Rest, happened, MayHappen, cost, Affords, IsDone}
use Rattle.recovery_laws.specs.Number.{passes_left}
use Rattle.recovery_laws.specs.Facts.{IsSettled, Recovers}

-- what may be done behind what happens: an end gives its next frame, or takes an SDU
abbrev pub IsMild : Deed → Type 0
IsMild Give = Unit {0}
IsMild Fire = ⊥
IsMild (Submit sdu) = Unit {0}
IsMild Pass = ⊥
IsMild Lose = ⊥
IsMild Repeat = ⊥
IsMild (Damage refusal) = ⊥

abbrev pub IsMildTurn : Turn → Type 0
IsMildTurn (ByA deed) = IsMild deed
IsMildTurn (ByB deed) = IsMild deed

pub record Word : Type 0 where
  pub happening : Happening
  pub behind : List Turn

abbrev pub spoken : Word → Pair → Pair
spoken word p = all_turned word.behind (happened word.happening p)

pub record MayCome (word : Word) (p : Pair) : Type 0 where
  pub may : MayHappen word.happening p
  pub mild : AllByRecursion IsMildTurn word.behind
  pub behind : AllMay word.behind (happened word.happening p)

-- both are open then, have nothing more to give, and put no more than is planned
pub record MaySpeak (planned_a planned_b : ℕ) (word : Word) (p : Pair) : Type 0 where
  pub comes : MayCome word p
  pub settled_a : IsSettled (spoken word p).a
  pub settled_b : IsSettled (spoken word p).b
  pub fits_a : length (spoken word p).a.put ≤ planned_a
  pub fits_b : length (spoken word p).b.put ≤ planned_b

-- ---- passes

abbrev pub handed : Deed → List Sent → ℕ
handed Give queue = 0
handed Fire queue = 0
handed (Submit sdu) queue = 0
handed Pass [] = 0
handed Pass (sent ∷ queue) = 1
handed Lose queue = 0
handed Repeat queue = 0
handed (Damage refusal) queue = 0

-- a pass that finds something to do
abbrev pub passed : Happening → Pair → ℕ
passed (Usual (ByA deed)) p = handed deed p.a.queue
passed (Usual (ByB deed)) p = handed deed p.b.queue
passed Rest p = if armed p.a.machine || armed p.b.machine then 1 else 0

-- what a word that went wrong may add to the passes that are left
abbrev pub harm : (window_a window_b : ℕ) → ℕ
harm window_a window_b = 2 * window_a + (2 * window_b + 4)

-- ---- words, one after the other

abbrev pub all_spoken : List Word → Pair → Pair
all_spoken [] p = p
all_spoken (word ∷ words) p = all_spoken words (spoken word p)

abbrev pub AllMaySpeak : (planned_a planned_b : ℕ) → List Word → Pair → Type 0
AllMaySpeak planned_a planned_b [] p = Unit {0}
AllMaySpeak planned_a planned_b (word ∷ words) p = MaySpeak planned_a planned_b word p × AllMaySpeak planned_a planned_b words (spoken word p)

abbrev pub all_passed : List Word → Pair → ℕ
all_passed [] p = 0
all_passed (word ∷ words) p = passed word.happening p + all_passed words (spoken word p)

abbrev pub all_costs : List Word → ℕ
all_costs [] = 0
all_costs (word ∷ words) = cost word.happening + all_costs words

-- ---- the laws

-- the ends give frames, and do nothing else
abbrev pub AreGiven : List Turn → Type 0
AreGiven [] = Unit {0}
AreGiven (ByA deed ∷ turns) = (deed ≡ Give) × AreGiven turns
AreGiven (ByB deed ∷ turns) = (deed ≡ Give) × AreGiven turns

-- Whatever happened, both ends come so to have nothing more to give: every word can be completed.
abbrev pub EndsFallSilent : Type 0
EndsFallSilent = (p : Pair) → (behind : List Turn) × AreGiven behind × (giving (all_turned behind p).a.machine ≡ None) × (giving (all_turned behind p).b.machine ≡ None)

-- Two new ends have nothing on their way, and need two passes for each segment that they will put.
abbrev pub NewRecovers : Type 0
NewRecovers = (a b : Agreed) (planned_a planned_b : ℕ) → Meets a b → Meets b a
    → Recovers planned_a planned_b (new_pair a b) × (passes_left planned_a planned_b (new_pair a b) ≡ 2 * planned_a + 2 * planned_b)

-- What the number rests on is kept by every word. A pass that finds something to do lowers it, what goes wrong raises
-- it by `harm` at most, and no other word raises it.
pub record GoesOn (planned_a planned_b : ℕ) (word : Word) (p : Pair) : Type 0 where
  pub recovers : Recovers planned_a planned_b (spoken word p)
  pub falls : passed word.happening p + passes_left planned_a planned_b (spoken word p)
      ≤ cost word.happening * harm p.a.machine.agreed.send_window p.b.machine.agreed.send_window + passes_left planned_a planned_b p

abbrev pub WordsGoOn : Type 0
WordsGoOn = (planned_a planned_b : ℕ) (word : Word) (p : Pair) → Recovers planned_a planned_b p → MaySpeak planned_a planned_b word p → GoesOn planned_a planned_b word p

-- Where less is put than was planned, the number may be that of what is planned then.
abbrev pub LessMayBePlanned : Type 0
LessMayBePlanned = (planned_a planned_b less_a less_b : ℕ) (p : Pair) → Recovers planned_a planned_b p → less_a ≤ planned_a → less_b ≤ planned_b → length p.a.put ≤ less_a → length p.b.put ≤ less_b
    → Recovers less_a less_b p × (passes_left less_a less_b p ≤ passes_left planned_a planned_b p)

-- ---- whole runs

-- Of all passes so many at most find something to do: two for each segment, and so many for each word that went wrong.
abbrev pub RunsAreBounded : Type 0
RunsAreBounded = (a b : Agreed) (planned_a planned_b : ℕ) (words : List Word) → Meets a b → Meets b a → AllMaySpeak planned_a planned_b words (new_pair a b)
    → all_passed words (new_pair a b) + passes_left planned_a planned_b (all_spoken words (new_pair a b)) ≤ all_costs words * harm a.send_window b.send_window + (2 * planned_a + 2 * planned_b)

-- For windows to 63 that is 256 at most for each word that went wrong.
abbrev pub HarmIsSmall : Type 0
HarmIsSmall = (a b : Agreed) → Meets a b → Meets b a → harm a.send_window b.send_window ≤ 256

-- A pass that finds nothing to do is of two ends that are done: each handed up all that was submitted to the other.
abbrev pub IdleIsDone : Type 0
IdleIsDone = (a b : Agreed) (planned_a planned_b : ℕ) (words : List Word) → Meets a b → Meets b a → AllMaySpeak planned_a planned_b words (new_pair a b)
    → (all_spoken words (new_pair a b)).a.queue ≡ [] → (all_spoken words (new_pair a b)).b.queue ≡ [] → passed Rest (all_spoken words (new_pair a b)) ≡ 0
    → IsDone (all_spoken words (new_pair a b)).a (all_spoken words (new_pair a b)).b × IsDone (all_spoken words (new_pair a b)).b (all_spoken words (new_pair a b)).a

-- words that may come to pass, though an end closes
abbrev pub AllMayCome : List Word → Pair → Type 0
AllMayCome [] p = Unit {0}
AllMayCome (word ∷ words) p = MayCome word p × AllMayCome words (spoken word p)

-- An end closes only for want of tries, and only after as many words that went wrong as it has tries.
pub record IsPaid (wrong : ℕ) (e : End) : Type 0 where
  pub only : OnlyRetries e.machine.closed
  pub paid : Affords wrong e

abbrev pub ClosingsArePaid : Type 0
ClosingsArePaid = (a b : Agreed) (words : List Word) → Meets a b → Meets b a → AllMayCome words (new_pair a b)
    → IsPaid (all_costs words) (all_spoken words (new_pair a b)).a × IsPaid (all_costs words) (all_spoken words (new_pair a b)).b
