-- The order of pushes in a capture (this project's own).
use Rattle.std.specs.Prelude.{ℕ, ◌≡◌, List, [], ◌∷◌, Option, Some, None}
use Rattle.std.specs.List.{filter_map}
use Rattle.push_terms.specs.declared.word.Side.TheVariants as sides
use Rattle.capture.specs.Entries.{Entry, Begun, Ended}
use Rattle.capture.specs.Links.{link_up}

-- ---- the order of pushes

-- the begin or the end of a push
pub data Mark : Type 0 where
  Begins : (push : ℕ) → Mark
  Ends : (push : ℕ) → Mark

abbrev pub mark_of : Entry → Option Mark
mark_of (Begun push) = Some (Begins push)
mark_of (Ended push outcome) = Some (Ends push)
mark_of _ = None

-- the push that is under way
abbrev pub with_mark : Option ℕ → Mark → Option ℕ
with_mark current (Begins push) = Some push
with_mark current (Ends push) = None

abbrev pub last_mark : Option ℕ → List Mark → Option ℕ
last_mark current [] = current
last_mark current (mark ∷ marks) = last_mark (with_mark current mark) marks

abbrev pub under_way : List Entry → Option ℕ
under_way entries = last_mark None (filter_map mark_of entries)

-- where no push is under way no link is up
abbrev pub NoLinkOutside : List Entry → Type 0
NoLinkOutside past = under_way past ≡ None → (link_up sides.A past ≡ None) × (link_up sides.B past ≡ None)

-- so it is before each entry but the ends of pushes: where a link outlasts its push, only such ends follow
abbrev pub LinksWithin : List Entry → Entry → Type 0
LinksWithin past (Ended push outcome) = Unit {0}
LinksWithin past _ = NoLinkOutside past

-- and it is so at the end of the capture too, unless a push ends there
abbrev pub NoLinkAtEnd : List Entry → Option Entry → Type 0
NoLinkAtEnd entries (Some (Ended push outcome)) = Unit {0}
NoLinkAtEnd entries _ = NoLinkOutside entries
