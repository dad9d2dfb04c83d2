-- What one entry more does to links, buffers, and the course of pushes and words.
use Rattle.std.proofs.Common.{◌≡◌, ℕ, ◌≤◌, List, [], ◌∷◌, ◌++◌, fold, Option, Some, None, refl, ap, ◌∙◌}
use Rattle.std.specs.Prelude.{min, max, option_to_list}
use Rattle.std.specs.List.{filter_map, cons_option, flat_map}
use Rattle.std.proofs.lemmas.List.{append-nil}
use Rattle.std.proofs.lemmas.List.Elements.{filter_map-append}
use Rattle.std.proofs.lemmas.List.Sums.{fold-append}
use Rattle.std.proofs.lemmas.Grind.{flat_map-append}
use Rattle.capture.specs.Histories.{given_by}
use Rattle.capture.specs.Moves.{Move, move_of, moves}
use Rattle.capture.specs.Links.{linking}
use Rattle.capture.specs.Buffers.{all_outstanding}
use Rattle.capture.specs.Pushes.{Mark, with_mark, mark_of, last_mark}
use Rattle.capture.specs.Air.{last_or, ordinal_of}
use Rattle.capture.specs.Laws.{EntryLinksMore, led_on, WithinMore, PeakMore, UnderWayMore, WordsMore}
use Rattle.capture.proofs.HistoryLaws.{given_by-more, at_each-more}
use Rattle.capture.proofs.MoreLaws.{moves-more, links-more}

-- ---- links and buffers

led : (moved : List Move) (move : Option Move) → linking (moved ++ option_to_list move) ≡ led_on move (linking moved)
led moved None = ap linking (append-nil moved)
led moved (Some move) = links-more moved move

pub entry_links-more : EntryLinksMore
entry_links-more side entries entry = ap linking (moves-more side entries entry) ∙ led (moves side entries) (move_of side entry)

pub within-more : WithinMore
within-more side count entries entry before now = at_each-more (λ past. all_outstanding side past ≤ min count 64) entries entry before now

pub peak-more : PeakMore
peak-more side entries entry =
    ap (fold max 0) (given_by-more (λ past e. all_outstanding side (past ++ e ∷ []) ∷ []) entries entry)
    ∙ fold-append max 0 (given_by (λ past e. all_outstanding side (past ++ e ∷ []) ∷ []) entries) (all_outstanding side (entries ++ entry ∷ []) ∷ [])

-- ---- pushes and words

marks_on : (current : Option ℕ) (marks more : List Mark) → last_mark current (marks ++ more) ≡ last_mark (last_mark current marks) more
marks_on current [] more = refl
marks_on current (mark ∷ marks) more = marks_on (with_mark current mark) marks more

one_or_none : {X : Type 0} (x : Option X) → cons_option x [] ≡ option_to_list x
one_or_none None = refl
one_or_none (Some x) = refl

pub under_way-more : UnderWayMore
under_way-more entries entry =
    ap (last_mark None) (filter_map-append mark_of entries (entry ∷ []) ∙ ap (λ more. filter_map mark_of entries ++ more) (one_or_none (mark_of entry)))
    ∙ marks_on None (filter_map mark_of entries) (option_to_list (mark_of entry))

last_on : (before : ℕ) (ns ms : List ℕ) → last_or before (ns ++ ms) ≡ last_or (last_or before ns) ms
last_on before [] ms = refl
last_on before (n ∷ ns) ms = last_on n ns ms

pub words-more : WordsMore
words-more entries entry =
    ap (last_or 0) (flat_map-append ordinal_of entries (entry ∷ []) ∙ ap (λ more. flat_map ordinal_of entries ++ more) (append-nil (ordinal_of entry)))
    ∙ last_on 0 (flat_map ordinal_of entries) (ordinal_of entry)
