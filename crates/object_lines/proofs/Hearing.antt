-- What a host heard is told by its own packets.
use Rattle.std.proofs.Common.{◌≡◌, ℕ, Bool, true, false, cond, List, [], ◌∷◌, ◌++◌, map, Option, Some, None, refl, sym, ap, ◌∙◌}
use Rattle.std.specs.List.{AllByRecursion, flat_map, cons_option}
use Rattle.std.specs.Prelude.{option_to_list, is_some}
use Rattle.push_terms.specs.declared.word.Side.{Side}
use Rattle.capture.specs.Entries.{Entry, IsEntry, IsCapture, capture_octets}
use Rattle.capture.specs.Links.{linking}
use Rattle.capture.specs.Moves.{Move, move_of, moves}
use Rattle.link_talk.specs.Sayings.{talk}
use Rattle.link_talk.specs.ObjectsHeard.{objects}
use Rattle.h4_view.specs.Keeping.{is_of, of_side}
use Rattle.object_lines.specs.Laws.{HearByTheirOwn}

-- one entry more
moves_more : (side : Side) (entry : Entry) (own entries : List Entry) (move : Option Move) → move_of side entry ≡ move → moves side own ≡ moves side entries → moves side (cond (is_some move) (entry ∷ own) own) ≡ moves side (entry ∷ entries)
moves_more side entry own entries None is same = same ∙ ap (λ moved. cons_option moved (moves side entries)) (sym is)
moves_more side entry own entries (Some move) is same = ap (λ (moved : List Move). cons_option (move_of side entry) moved) same

pub same_moves : (side : Side) (entries : List Entry) → moves side (of_side side entries) ≡ moves side entries
same_moves side [] = refl
same_moves side (entry ∷ entries) = moves_more side entry (of_side side entries) entries (move_of side entry) refl (same_moves side entries)

pub hear_by_their_own : HearByTheirOwn
hear_by_their_own party side entries =
    ap (λ (moved : List Move). flat_map (objects party) (map talk ((linking moved).past ++ option_to_list (linking moved).up))) (same_moves side entries)

own_more : (is_own : Bool) (entry : Entry) (entries : List Entry) → IsEntry entry → AllByRecursion IsEntry entries → AllByRecursion IsEntry (cond is_own (entry ∷ entries) entries)
own_more true entry entries here each = (here, each)
own_more false entry entries here each = each

each_own : (side : Side) (entries : List Entry) → AllByRecursion IsEntry entries → AllByRecursion IsEntry (of_side side entries)
each_own side [] each = tt
each_own side (entry ∷ entries) (first, each) = own_more (is_of side entry) entry (of_side side entries) first (each_own side entries each)

-- the packets of a side are a capture
pub own_capture : (side : Side) (octets : List ℕ) (entries : List Entry) → AllByRecursion IsEntry entries → octets ≡ capture_octets (of_side side entries) → IsCapture octets (of_side side entries)
own_capture side octets entries each is = record { each = each_own side entries each; whole = is }
