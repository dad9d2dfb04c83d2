-- Which request of a kind waits, looking back: the last, if no answer stands behind it. A kind is what asks with an identifier,
-- and what answers that.
use Rattle.std.specs.Prelude.{ℕ, Bool, List, Option, Some, None, is_some, if◌then◌else◌}
use Rattle.std.specs.List.{filter_map, list_any}
use Rattle.link_talk.specs.capture.specs.Histories.{last_of}
use Rattle.talk_laws.specs.Lists.{behind_last}

abbrev pub unless_answered : {X : Type 0} → (ℕ → X → Bool) → List X → Option ℕ → Option ℕ
unless_answered answers since None = None
unless_answered answers since (Some identifier) = if list_any (answers identifier) since then None else Some identifier

-- the identifier of the last request, if no answer to it stands behind it
abbrev pub last_unanswered : {X : Type 0} → (X → Option ℕ) → (ℕ → X → Bool) → List X → Option ℕ
last_unanswered asked answers list = unless_answered answers (behind_last (λ one. is_some (asked one)) list) (last_of (filter_map asked list))
