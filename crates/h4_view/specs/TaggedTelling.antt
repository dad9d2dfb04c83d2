-- What contracts see of the view of a capture under way (this project's own).
use Rattle.std.specs.Prelude.{ℕ, ◌≡◌, ◌≢◌, ◌≤◌, ◌⊎◌, List, [], ◌∷◌, ◌++◌, length, codes, Option, None, Some, Err}
use Rattle.std.specs.List.{AllByRecursion}
use Rattle.push_terms.specs.declared.word.Side.TheVariants as sides
use Rattle.capture.specs.declared.entry_refusal.EntryRefusal.TheVariants as entry
use Rattle.capture.specs.Entries.{Entry, IsEntry, capture_octets}
use Rattle.capture.specs.EntryReading.{IsFront}
use Rattle.tagged_entries.specs.Records.{least_length}
use Rattle.item_stream.specs.declared.end.Ending.{Ending}
use Rattle.item_stream.specs.declared.end.Ending.TheVariants.{Whole, Truncated as CutAt, TooLong as Past, Refused as RefusedAt}
use Rattle.item_stream.specs.declared.teller.Front.{Front}
use Rattle.item_stream.specs.declared.teller.Front.TheVariants.{Item, Cut, Nothing, Refused}
use Rattle.item_stream.specs.Running.{input_limit}
use Rattle.h4_view.specs.declared.refusal.ViewRefusal.{ViewRefusal}
use Rattle.h4_view.specs.declared.refusal.ViewRefusal.TheVariants.{Truncated, TooLong, BadTag, BadRecord}
use Rattle.h4_view.specs.declared.tagged.TaggedView.{TaggedView}
use Rattle.h4_view.specs.Both.{KnowsBoth}
use Rattle.h4_view.specs.Keeping.{of_side}
use Rattle.h4_view.specs.Tagged.{sent_of, entry_text, entry_under, entry_lines, tagged_lines}

-- what is kept of the links of both hosts is what these entries say
pub record KnowsHosts (past : List Entry) (view : TaggedView) : Type 0 where
  pub a : KnowsBoth (sent_of sides.A past) view.a
  pub b : KnowsBoth (sent_of sides.B past) view.b

-- what stands behind the offset of an entry was shown
abbrev pub BehindOffset : Entry → TaggedView → TaggedView → List ℕ → List ℕ → Type 0
BehindOffset entry old new text text' =
    (new.place ≡ old.place) × (new.kept ≡ old.kept) × ((past : List Entry) → KnowsHosts past old → (text' ≡ text ++ ((entry_text entry ++ codes "\n") ++ entry_under past entry)) × KnowsHosts (past ++ entry ∷ []) new)

-- an entry after some others was shown
abbrev pub EntryShown : Entry → TaggedView → TaggedView → List ℕ → List ℕ → Type 0
EntryShown entry old new text text' = (new.place ≡ old.place) × (new.kept ≡ old.kept) × ((past : List Entry) → KnowsHosts past old → (text' ≡ text ++ entry_lines past old.place entry) × KnowsHosts (past ++ entry ∷ []) new)

-- Since the view began it took entries with these octets and told this of them, and it keeps those of host b. Offsets count up to
-- the greatest length of an input.
pub record HasShown (first now : TaggedView) (octets said : List ℕ) : Type 0 where
  pub entries : List Entry
  pub each : AllByRecursion IsEntry entries
  pub whole : octets ≡ capture_octets entries
  pub lines : length octets ≤ input_limit → said ≡ tagged_lines [] 0 entries
  pub place : length octets ≤ input_limit → now.place ≡ length octets
  pub knows : KnowsHosts entries now
  pub kept : now.kept.items ≡ capture_octets (of_side sides.B entries)

-- what it finds where no whole entry stands
abbrev pub Finds : TaggedView → List ℕ → Front → Type 0
Finds now octets (Item n) = ⊥
Finds now octets (Cut n) = (octets ≢ []) × IsFront octets (Err entry.Truncated) × (n ≡ least_length octets)
Finds now octets Nothing = octets ≡ []
Finds now octets Refused = ((now.refusal ≡ BadTag) × IsFront octets (Err entry.BadTag)) ⊎ ((now.refusal ≡ BadRecord) × IsFront octets (Err entry.BadRecord))

-- The verdict on an input that ends so.
abbrev pub VerdictOf : TaggedView → Ending → Option (ViewRefusal × ℕ) → Type 0
VerdictOf view Whole verdict = verdict ≡ None
VerdictOf view (CutAt place) verdict = verdict ≡ Some (Truncated, place)
VerdictOf view Past verdict = verdict ≡ Some (TooLong, input_limit)
VerdictOf view (RefusedAt place) verdict = verdict ≡ Some (view.refusal, place)

-- a view at the beginning of a capture
pub record IsNew (view : TaggedView) : Type 0 where
  pub knows : KnowsHosts [] view
  pub place : view.place ≡ 0
  pub empty : view.kept.items ≡ []
