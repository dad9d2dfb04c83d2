-- What a sink gains from the view of an input of items that stand one after the other, whatever they are (this project's own).
use Rattle.std.specs.Prelude.{ℕ, ◌≡◌, ◌+◌, List, [], ◌∷◌, ◌++◌, length, Option, Some, None, Result, Ok, Err}
use Rattle.bt_base.specs.Streams.{gained, GainedFront}
use Rattle.h4_view.specs.declared.refusal.ViewRefusal.{ViewRefusal}
use Rattle.h4_view.specs.declared.refusal.ViewFault.{ViewFault}
use Rattle.h4_view.specs.declared.refusal.ViewFault.TheVariants.{Refused, ReadFault, WriteFault, NoMemory}
use Rattle.h4_view.specs.Lines.{refusal_line}

-- the lines of items that stand one after the other from that offset on, after these items
abbrev pub lines_from : {I : Type 0} → (I → List ℕ) → (List I → ℕ → I → List ℕ) → List I → ℕ → List I → List ℕ
lines_from octets lines past offset [] = []
lines_from octets lines past offset (item ∷ items) = lines past offset item ++ lines_from octets lines (past ++ item ∷ []) (offset + length (octets item)) items

-- A kind of input: that it begins with some items, within the greatest length; which items its view shows, and why and
-- where the view stops; that what was read of it, where this is left of the source, is these items and no whole one more;
-- and the lines of items.
pub record Viewed (I : Type 0) : Type 1 where
  pub begins : List ℕ → List I → Type 0
  pub is_view : List ℕ → List I → Option (ViewRefusal × ℕ) → Type 0
  pub was_read : List ℕ → Option (List ℕ) → List I → Type 0
  pub text : List I → List ℕ

-- A front of the view's text was written: some of the lines of items that the input begins with, or all lines and some
-- of the refusal.
pub data FrontShown {I : Type 0} (kind : Viewed I) (input : List ℕ) (old new : Option (List ℕ)) : Type 0 where
  OfLines : (items : List I) → kind.begins input items → GainedFront old new (kind.text items) → FrontShown kind input old new
  OfAll : (items : List I) (refusal : ViewRefusal) (place : ℕ) → kind.is_view input items (Some (refusal, place)) → GainedFront old new (kind.text items ++ refusal_line refusal place) → FrontShown kind input old new

-- What a sink gains from the view of an input, of which the source then has `left`. A fault of the source loses nothing.
abbrev pub ViewsAs : {I : Type 0} → Viewed I → List ℕ → Option (List ℕ) → Option (List ℕ) → Option (List ℕ) → Result (Unit {0}) ViewFault → Type 0
ViewsAs {I} kind input left old new (Ok done) = (items : List I) × kind.is_view input items None × (new ≡ gained old (kind.text items))
ViewsAs {I} kind input left old new (Err (Refused refusal place)) = (items : List I) × kind.is_view input items (Some (refusal, place)) × (new ≡ gained old (kind.text items ++ refusal_line refusal place))
ViewsAs {I} kind input left old new (Err ReadFault) = (items : List I) × kind.was_read input left items × (new ≡ gained old (kind.text items))
ViewsAs {I} kind input left old new (Err WriteFault) = FrontShown kind input old new
ViewsAs {I} kind input left old new (Err NoMemory) = FrontShown kind input old new
