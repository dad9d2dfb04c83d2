-- What one entry more does to each definition.
use Rattle.std.proofs.Common.{◌≡◌, [], ◌∷◌, ◌++◌, fold, Option, Some, None, refl, ap, ◌∙◌}
use Rattle.std.specs.Prelude.{option_to_list}
use Rattle.std.specs.List.{flat_map, filter_map, cons_option}
use Rattle.std.proofs.lemmas.List.{append-nil}
use Rattle.std.proofs.lemmas.List.Elements.{filter_map-append}
use Rattle.std.proofs.lemmas.List.Sums.{fold-append}
use Rattle.std.proofs.lemmas.Grind.{flat_map-append}
use Rattle.acl_credits.specs.Histories.{outstanding_after}
use Rattle.capture.specs.Histories.{given_by}
use Rattle.capture.specs.Entries.{entry_octets}
use Rattle.capture.specs.Moves.{move_of}
use Rattle.capture.specs.Links.{after_move, no_links}
use Rattle.capture.specs.Buffers.{buffer_events}
use Rattle.capture.specs.Pdus.{completed, pdus}
use Rattle.capture.specs.Laws.{MovesMore, LinksMore, OutstandingMore, PdusMore, OctetsInParts, MovesInParts, LinksInParts}
use Rattle.capture.proofs.HistoryLaws.{given_by-more}

one_or_none : {X : Type 0} (x : Option X) → cons_option x [] ≡ option_to_list x
one_or_none None = refl
one_or_none (Some x) = refl

pub moves-more : MovesMore
moves-more side entries entry = filter_map-append (move_of side) entries (entry ∷ []) ∙ ap (λ more. filter_map (move_of side) entries ++ more) (one_or_none (move_of side entry))

pub links-more : LinksMore
links-more moved move = fold-append after_move no_links moved (move ∷ [])

pub outstanding-more : OutstandingMore
outstanding-more link move =
    ap (λ events. fold (outstanding_after link.handle) 0 events) (flat_map-append buffer_events link.moves (move ∷ []) ∙ ap (λ more. flat_map buffer_events link.moves ++ more) (append-nil (buffer_events move)))
    ∙ fold-append (outstanding_after link.handle) 0 (flat_map buffer_events link.moves) (buffer_events move)

pub pdus-more : PdusMore
pdus-more link move = given_by-more (completed link.handle) link.moves move

pub octets-in_parts : OctetsInParts
octets-in_parts first second = flat_map-append entry_octets first second

pub moves-in_parts : MovesInParts
moves-in_parts side first second = filter_map-append (move_of side) first second

pub links-in_parts : LinksInParts
links-in_parts first second = fold-append after_move no_links first second
