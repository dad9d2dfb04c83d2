-- What stands above the line of a tiny host (this project's own).
use Rattle.std.specs.Prelude.{ℕ, ◌≡◌, ◌≤◌, List, Some}
use Rattle.tiny_hosts.specs.declared.told.Told.{Told}
use Rattle.tiny_hosts.specs.declared.told.Told.TheVariants as told
use Rattle.line_laws.specs.world_model.specs.Machines.{News, Linked, Up, Down, Failed, Heard, TimerFired, Cancelled, Opening, Upper}

-- a tiny host has no port: nothing is asked and nothing answered
abbrev pub Unasked : Type 0
Unasked = Unit {0}

abbrev pub news_told : Told → News
news_told told.LinkUp = Linked Up
news_told (told.LinkDown reason) = Linked (Down reason)
news_told (told.LinkFailed status) = Failed status
news_told (told.Pdu octets) = Heard octets.now
news_told told.TimerFired = TimerFired
news_told told.Cancelled = Cancelled
news_told (told.Opening name) = Opening name.now

-- a number that never falls as the machine hears and says
pub record IsCounted {S G : Type 0} (U : Upper S G) (count : S → ℕ) : Type 0 where
  pub hears : (answers : List G) (news : News) (s : S) → count s ≤ count (U.hear answers news s)
  pub says : (s : S) (pdu : List ℕ) (after : S) → U.next s ≡ Some (pdu, after) → count s ≤ count after
