-- Outstanding packets (Core 5.1, Volume 2 Part E, 4.1.1), read off a history of the buffers.
use Rattle.std.specs.Prelude.{ℕ, ◌+◌, ◌-◌, List, fold, ◌==◌, nat_le, if◌then◌else◌}

-- what happens to the buffers of a controller
pub data BufferEvent : Type 0 where
  -- a packet goes out on a handle
  Sent : (handle : ℕ) → BufferEvent
  -- the controller gives packets of a handle back
  Completed : (handle n : ℕ) → BufferEvent
  -- the link of a handle ends
  Closed : (handle : ℕ) → BufferEvent

-- the packets outstanding on a handle, after an event: more by one that goes out on it, less by those that come
-- back for it, none once its link ends. A number above what was outstanding is not counted
abbrev pub outstanding_after : ℕ → ℕ → BufferEvent → ℕ
outstanding_after handle n (Sent other) = if other == handle then n + 1 else n
outstanding_after handle n (Completed other back) = if other == handle then (if nat_le back n then n - back else n) else n
outstanding_after handle n (Closed other) = if other == handle then 0 else n

-- the packets outstanding on a handle at the end of a history that begins with none
abbrev pub outstanding_in : List BufferEvent → ℕ → ℕ
outstanding_in history handle = fold (outstanding_after handle) 0 history
