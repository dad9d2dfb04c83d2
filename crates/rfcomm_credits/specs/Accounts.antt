-- What an account tells.
use Rattle.std.specs.Prelude.{ℕ, ◌+◌, ◌-◌, ◌*◌, ◌≤◌, ◌≡◌, List, take, nat_le, if◌then◌else◌}
use Rattle.rfcomm_credits.specs.Histories.{CreditEvent, granted_in, spent_in, heard_in, given_in}

-- the most credits that the peer is to have, the credits that the side holds, those that its peer has
pub record Credits : Type 0 where
  pub cap : ℕ
  pub held : ℕ
  pub peer : ℕ

-- what the peer lacks, once it has half of its credits or fewer (the half is this project's own choice)
abbrev pub grant_of : Credits → ℕ
grant_of account = if nat_le (2 * account.peer) account.cap then account.cap - account.peer else 0

-- An account tells the credits after a history, with so many granted to the peer from the start on. What is held
-- is what was granted less what was spent, and at no moment more was spent than had been granted; the peer's
-- credits likewise. All are sums without a cut-off at 0.
pub record Tells (first : ℕ) (history : List CreditEvent) (account : Credits) : Type 0 where
  pub held : granted_in history ≡ spent_in history + account.held
  pub peer : first + given_in history ≡ heard_in history + account.peer
  pub never_below : (n : ℕ) → spent_in (take n history) ≤ granted_in (take n history)
  pub never_overdrawn : (n : ℕ) → heard_in (take n history) ≤ first + given_in (take n history)
