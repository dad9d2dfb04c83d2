-- What the counts of an inbox say of its answers.
use Rattle.std.proofs.Common.{ℕ, ◌<◌, ◌≤◌, ◌⊎◌, List, [], ◌++◌, inl, inr, sym, subst, arith}
use Rattle.std.proofs.lemmas.Bool.{cases_lt}
use Rattle.bt_base.specs.Counts.{HasRisen, last_count}
use Rattle.noting_laws.specs.obex_session.specs.Counting.{Counts, counts_of, faults_of, HasRisenBy}
use Rattle.noting_laws.specs.obex_session.specs.InboxCalls.{Answer}
use Rattle.noting_laws.specs.push_laws.specs.Premises.{AllGranted, NoneShort}
use Rattle.radio_world.specs.Breaking.{IsLeft}
use Rattle.bt_host.specs.host_model.specs.Circumstances.{Circumstance, answers_in}
use Rattle.bt_host.specs.Calls.{JoinAnswers}
use Rattle.bt_host.specs.Serving.{Asks, Lacks}
use Rattle.bt_host.specs.ServingLaws.{joins, lacks}
use Rattle.scenario_play.specs.Playing.{LackedNever, RoseNever}

-- ---- whether a count rose can be told

rose_not : (a b : ℕ) → b ≤ a → a < last_count → HasRisen a b → ⊥
rose_not a b stays below (inl rose) = omega (arith, stays, rose)
rose_not a b stays below (inr end) = omega (arith, below, end)

has_risen : (a b : ℕ) → HasRisen a b ⊎ (HasRisen a b → ⊥)
has_risen a b = elim (cases_lt a b) [
  | inl rose ↦ inl (inl rose)
  | inr stays ↦ elim (cases_lt a last_count) [
    | inl below ↦ inr (λ risen. rose_not a b stays below risen)
    | inr end ↦ inl (inr end)
  ]
]

pub rose_or_not : (counts counts' : Counts) → RoseNever counts counts' ⊎ (RoseNever counts counts' → ⊥)
rose_or_not counts counts' = elim (has_risen counts.faults counts'.faults) [
  | inl rose ↦ inr (λ never. never.0 rose)
  | inr none ↦ elim (has_risen counts.shortages counts'.shortages) [
    | inl rose ↦ inr (λ never. never.1 rose)
    | inr short ↦ inl (none, short)
  ]
]

-- ---- what they say

-- None is want of memory. Where neither rose all are grants; and where that of shortages did not, that of faults rose with each that says that a call failed.
pub record Says (answers : List Answer) (counts counts' : Counts) : Type 0 where
  pub enough : NoneShort answers
  pub granted : RoseNever counts counts' → AllGranted answers
  pub counted : LackedNever counts counts' → HasRisenBy (faults_of answers) counts.faults counts'.faults

module _ {Q : Type 0} (faults shortages : Q → ℕ) where
  abbrev counts : Q → Counts
  counts inbox = counts_of faults shortages inbox

  abbrev Gave : Q → List Circumstance → Q → Type 0
  Gave first used last = Asks faults shortages first used last

  -- of all that it gave from one value to another
  pub asked_says : (first last : Q) (used : List Circumstance) → Gave first used last → Says (answers_in used) (counts first) (counts last)
  asked_says first last used asked = record { enough = asked.none_short; granted = λ never. asked.counted.granted never.0 never.1; counted = asked.counted.few }

  -- and where it was not asked behind that, or lacked memory
  pub left_says : (first mid last : Q) (used : List Circumstance) → Gave first used mid → IsLeft (Lacks shortages) mid last → Says (answers_in used) (counts first) (counts last)
  left_says first mid last used asked (inl same) = asked_says first last used (subst (λ (q : Q). Gave first used q) (sym same) asked)
  left_says first mid last used asked (inr lacked) =
      let rose = (lacks faults shortages first mid last used asked lacked).0 in
      record { enough = asked.none_short; granted = λ never. absurd (never.1 rose); counted = λ none. absurd (none rose) }

  -- ---- one list behind another

  join : JoinAnswers Gave
  join = joins faults shortages

  pub asked_once : (first last : Q) (used : List Circumstance) → Gave first used last → Gave first (used ++ []) last
  asked_once first last used asked = join.then first last last used [] asked (join.none last)

  pub asked_twice : (first mid last : Q) (one two : List Circumstance) → Gave first one mid → Gave mid two last → Gave first (one ++ (two ++ [])) last
  asked_twice first mid last one two before behind = join.then first mid last one (two ++ []) before (asked_once mid last two behind)
