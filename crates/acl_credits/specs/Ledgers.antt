-- What a ledger says.
use Rattle.std.specs.Prelude.{◌≡◌, ℕ, ◌-◌, List, Option, Some, None, ◌==◌, if◌then◌else◌}
use Rattle.acl_credits.specs.Histories.{BufferEvent, outstanding_in}

-- how many packets the controller takes, and the one handle whose packets it holds, with their number
pub record Account : Type 0 where
  pub total : ℕ
  pub held : Option (ℕ × ℕ)

-- all packets that are outstanding
abbrev pub packets_of : Option (ℕ × ℕ) → ℕ
packets_of None = 0
packets_of (Some held) = held.1

-- the packets outstanding on a handle
abbrev pub packets_on : Option (ℕ × ℕ) → ℕ → ℕ
packets_on None handle = 0
packets_on (Some held) handle = if held.0 == handle then held.1 else 0

abbrev pub outstanding_on : Account → ℕ → ℕ
outstanding_on account handle = packets_on account.held handle

-- what is held once this many packets came back
abbrev pub less : ℕ → Option (ℕ × ℕ) → Option (ℕ × ℕ)
less n None = None
less n (Some held) = Some (held.0, held.1 - n)

-- what is held once the link of a handle ended
abbrev pub without : ℕ → Option (ℕ × ℕ) → Option (ℕ × ℕ)
without handle None = None
without handle (Some held) = if held.0 == handle then None else Some held

-- an account says what is outstanding after a history
abbrev pub SaysOutstanding : List BufferEvent → Account → Type 0
SaysOutstanding history account = (handle : ℕ) → outstanding_on account handle ≡ outstanding_in history handle
