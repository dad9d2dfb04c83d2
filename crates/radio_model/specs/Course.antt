-- Pushes in turn, over the finished capture (this project's own).
use Rattle.std.specs.Prelude.{ℕ, ◌+◌, ◌≡◌, List, [], ◌∷◌, length, Some, None}
use Rattle.std.specs.List.{flat_map}
use Rattle.capture.specs.Entries.{Entry, Begun, Ended}
use Rattle.capture.specs.Histories.{EachAfter, last_of}
use Rattle.capture.specs.Pushes.{under_way, LinksWithin, NoLinkAtEnd}

-- the number of a push that begins
abbrev pub push_begun : Entry → List ℕ
push_begun (Begun push) = push ∷ []
push_begun entry = []

abbrev pub pushes_begun : List Entry → ℕ
pushes_begun past = length (flat_map push_begun past)

-- a push begins while none is under way, and pushes are numbered as they begin; the one that is under way ends
abbrev pub KeepsTurn : List Entry → Entry → Type 0
KeepsTurn past (Begun push) = (under_way past ≡ None) × (push ≡ pushes_begun past + 1)
KeepsTurn past (Ended push outcome) = under_way past ≡ Some push
KeepsTurn past entry = Unit {0}

-- Pushes are in turn, and the links of each lie within it; that of the last one may outlast the capture.
pub record PushesInTurn (entries : List Entry) : Type 0 where
  pub each : EachAfter KeepsTurn [] entries
  pub within : EachAfter LinksWithin [] entries
  pub finish : NoLinkAtEnd entries (last_of entries)
