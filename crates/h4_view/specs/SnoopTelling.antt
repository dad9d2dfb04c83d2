-- What contracts see of the view of a btsnoop file under way (this project's own).
use Rattle.std.specs.Prelude.{ℕ, ◌≡◌, ◌+◌, ◌<◌, ◌≤◌, List, [], ◌∷◌, ◌++◌, length, Option, Some, None}
use Rattle.std.specs.List.{AllByRecursion}
use Rattle.btsnoop.specs.declared.fields.Part.TheVariants.{Header, Body}
use Rattle.btsnoop.specs.declared.refusal.SnoopRefusal.{SnoopRefusal}
use Rattle.btsnoop.specs.Files.{Record}
use Rattle.btsnoop.specs.Fields.{fault_in, told_length}
use Rattle.btsnoop.specs.Reading.{IsCut}
use Rattle.item_stream.specs.declared.end.Ending.{Ending}
use Rattle.item_stream.specs.declared.end.Ending.TheVariants.{Whole, Truncated as CutAt, TooLong as Past, Refused as RefusedAt}
use Rattle.item_stream.specs.declared.teller.Front.{Front}
use Rattle.item_stream.specs.declared.teller.Front.TheVariants.{Item, Cut, Nothing, Refused}
use Rattle.item_stream.specs.Running.{input_limit}
use Rattle.h4_view.specs.declared.refusal.ViewRefusal.{ViewRefusal}
use Rattle.h4_view.specs.declared.refusal.ViewRefusal.TheVariants.{Truncated, TooLong}
use Rattle.h4_view.specs.declared.snoop.SnoopView.{SnoopView}
use Rattle.h4_view.specs.Both.{KnowsBoth}
use Rattle.h4_view.specs.Snoop.{Kept, IsKept, sent_of, kept_lines, snoop_lines, view_refusal, led_by}

-- A record after some others was shown, with the packet that its octets are, where they are one.
abbrev pub RecordShown : Record → SnoopView → SnoopView → List ℕ → List ℕ → Type 0
RecordShown item old new text text' =
    (kept : Kept) × (kept.item ≡ item) × IsKept kept × (new ≡ record old { links = new.links })
    × ((past : List Kept) → KnowsBoth (sent_of past) old.links → (text' ≡ text ++ kept_lines past old.place kept) × KnowsBoth (sent_of (past ++ kept ∷ [])) new.links)

-- Since the view began it took the file header and records with these octets and told this of them. Offsets count up to
-- the greatest length of an input.
pub record HasShown (first now : SnoopView) (octets said : List ℕ) : Type 0 where
  pub items : List Kept
  pub each : AllByRecursion IsKept items
  pub early : now.part ≡ Header → items ≡ []
  pub whole : octets ≡ led_by now.part items
  pub lines : length octets ≤ input_limit → said ≡ snoop_lines items
  pub place : length octets ≤ input_limit → now.place ≡ length octets
  pub knows : KnowsBoth (sent_of items) now.links

-- what it finds where the file header is not whole, or no whole record stands
abbrev pub Finds : SnoopView → List ℕ → Front → Type 0
Finds now octets (Item n) = ⊥
Finds now octets (Cut n) = IsCut now.part octets × (n ≡ told_length now.part octets)
Finds now octets Nothing = (now.part ≡ Body) × (octets ≡ [])
Finds now octets Refused = (refusal : SnoopRefusal) × (fault_in now.part octets ≡ Some (refusal, now.within)) × (now.refusal ≡ view_refusal refusal) × (now.within < 16)

-- The verdict on an input that ends so.
abbrev pub VerdictOf : SnoopView → Ending → Option (ViewRefusal × ℕ) → Type 0
VerdictOf view Whole verdict = verdict ≡ None
VerdictOf view (CutAt place) verdict = verdict ≡ Some (Truncated, place)
VerdictOf view Past verdict = verdict ≡ Some (TooLong, input_limit)
VerdictOf view (RefusedAt place) verdict = (n : ℕ) × (verdict ≡ Some (view.refusal, n)) × (place ≤ input_limit → view.within < 16 → n ≡ place + view.within)

-- a view at the beginning of a file
pub record IsNew (view : SnoopView) : Type 0 where
  pub knows : KnowsBoth [] view.links
  pub part : view.part ≡ Header
  pub place : view.place ≡ 0
