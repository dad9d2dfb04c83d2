-- What an inbox's answers say of its counts (this project's own).
use Rattle.std.specs.Prelude.{ℕ, ◌≡◌, ◌+◌, ◌≤◌, ◌⊎◌, List, [], ◌∷◌, Ok, Err}
use Rattle.std.specs.List.{AllByRecursion}
use Rattle.bt_base.specs.Counts.{HasRisen, last_count}
use Rattle.bt_base.specs.declared.ports.PortFault.TheVariants.{NoMemory}
use Rattle.obex_session.specs.InboxCalls.{Answer}

-- both counts of a port: of its faults, and of its shortages of memory
pub record Counts : Type 0 where
  pub faults : ℕ
  pub shortages : ℕ

abbrev pub counts_of : {P : Type 0} → (faults shortages : P → ℕ) → P → Counts
counts_of faults shortages port = record { faults = faults port; shortages = shortages port }

-- how many of its answers say that a call failed
abbrev pub faults_of : List Answer → ℕ
faults_of [] = 0
faults_of (Ok done ∷ answers) = faults_of answers
faults_of (Err fault ∷ answers) = faults_of answers + 1

-- A count rose by so many at least. One that came to its end counts as risen by any number.
abbrev pub HasRisenBy : ℕ → ℕ → ℕ → Type 0
HasRisenBy many before after = (before + many ≤ after) ⊎ (last_count ≤ after)

-- An inbox gave these answers between both counts: neither fell. Where neither rose it granted all calls, and where that of shortages did not, it
-- lacked memory at none, and that of faults rose with each call that failed.
pub record AreCounted (answers : List Answer) (old new : Counts) : Type 0 where
  pub faults_stay : old.faults ≤ new.faults
  pub shortages_stay : old.shortages ≤ new.shortages
  pub granted : (HasRisen old.faults new.faults → ⊥) → (HasRisen old.shortages new.shortages → ⊥) → AllByRecursion (λ answer. answer ≡ Ok tt) answers
  pub none_short : (HasRisen old.shortages new.shortages → ⊥) → AllByRecursion (λ answer. answer ≡ Err NoMemory → ⊥) answers
  pub few : (HasRisen old.shortages new.shortages → ⊥) → HasRisenBy (faults_of answers) old.faults new.faults
