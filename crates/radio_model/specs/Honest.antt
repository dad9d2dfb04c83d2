-- Honest controllers, over the finished capture (Core 5.1, Volume 2 Part E, 4.1.1 and 7.7.19).
use Rattle.std.specs.Prelude.{ℕ, ◌%◌, ◌≡◌, ◌≤◌, ◌==◌, List, [], length, sum_by, Some, if◌then◌else◌}
use Rattle.std.specs.List.{flat_map}
use Rattle.h4_framing.specs.Packets.{Acl}
use Rattle.acl_credits.specs.Histories.{BufferEvent, Sent, Completed}
use Rattle.push_terms.specs.declared.word.Side.{Side}
use Rattle.push_terms.specs.declared.word.Side.TheVariants as sides
use Rattle.capture.specs.declared.flow.Flow.TheVariants.{Out}
use Rattle.capture.specs.Histories.{AtEach, EachAfter}
use Rattle.capture.specs.Entries.{Entry, Moved}
use Rattle.capture.specs.Moves.{moves}
use Rattle.capture.specs.Links.{Link, links, link_up}
use Rattle.capture.specs.Buffers.{buffer_events}

-- the packets that went out on a handle, and those that were said to be completed on it
abbrev pub sent_on : ℕ → BufferEvent → ℕ
sent_on handle (Sent other) = if other == handle then 1 else 0
sent_on handle event = 0

abbrev pub completed_on : ℕ → BufferEvent → ℕ
completed_on handle (Completed other count) = if other == handle then count else 0
completed_on handle event = 0

abbrev pub all_sent : Side → ℕ → List Entry → ℕ
all_sent side handle past = sum_by (sent_on handle) (flat_map buffer_events (moves side past))

abbrev pub all_completed : Side → ℕ → List Entry → ℕ
all_completed side handle past = sum_by (completed_on handle) (flat_map buffer_events (moves side past))

-- At each moment a controller has said of no handle that more packets were completed than went out on it since the
-- beginning.
abbrev pub IsHonest : Side → List Entry → Type 0
IsHonest side entries = AtEach (λ past. (handle : ℕ) → all_completed side handle past ≤ all_sent side handle past) entries

-- the n-th link of a host has handle n
abbrev pub IsNumbered : Side → List Entry → Type 0
IsNumbered side past = (link : Link) → link_up side past ≡ Some link → link.handle ≡ length (links side past)

-- A packet out of a host has the handle of the last link that it was told of: it may have put the packet out before it was told that
-- the link is gone.
abbrev pub IsOnItsLink : List Entry → Entry → Type 0
IsOnItsLink past (Moved side Out (Acl word octets)) = (1 ≤ length (links side past)) × (word % 0x1000 ≡ length (links side past))
IsOnItsLink past entry = Unit {0}

pub record AreHonest (entries : List Entry) : Type 0 where
  pub a : IsHonest sides.A entries
  pub b : IsHonest sides.B entries
  pub numbered_a : AtEach (IsNumbered sides.A) entries
  pub numbered_b : AtEach (IsNumbered sides.B) entries
  pub handles : EachAfter IsOnItsLink [] entries
