-- The pieces of a frame are handed over one after the other.
use Rattle.std.proofs.Common.{◌≡◌, ℕ, suc, ◌+◌, ◌-◌, ◌*◌, ◌≤◌, ◌<◌, ◌^◌, ◌==◌, min, List, [], ◌∷◌, ◌++◌, length, take, drop, Option, Some, None, false, Bool, cond, refl, sym, ap, ap₂, subst, ◌∙◌, arith, length-take, length-drop, inl, inr}
use Rattle.std.specs.Prelude.{slice_index}
use Rattle.std.proofs.lemmas.Bool.{ne_eqb, cases_lt}
use Rattle.std.proofs.lemmas.List.{drop-drop, drop-take, take-take, drop_all, get_or_past, get_or_append_left, get_or-append-add}
use Rattle.bt_base.specs.Octets.{IsOctets}
use Rattle.h4_framing.specs.Packets.{Acl, spelling, IsPacket}
use Rattle.hci_packets.specs.declared.acl.Boundary.{Boundary}
use Rattle.hci_packets.specs.declared.acl.Boundary.TheVariants.{Continuing, FirstFromController}
use Rattle.hci_packets.specs.AclWords.{flag_of}
use Rattle.acl_fragments.specs.Pieces.{Piece}
use Rattle.acl_fragments.specs.Cuts.{cut}
use Rattle.acl_fragments.proofs.Cutting.{next_piece}
use Rattle.radio_model.specs.Controllers.{piece_packet}
use Rattle.radio_air.specs.Rings.{Kept}
use Rattle.radio_model.specs.Radio.{first_or_nothing}
use Rattle.radio_model.specs.Queues.{Queue, IsWritten, IsShort, IsHandedOver, piece_first, longest_packet}
use Rattle.radio_air.specs.Keeping.{queue_of, IsQueue, boundary_at}

goes_on : (gone count : ℕ) → 0 < count → boundary_at (gone + count) ≡ Continuing
goes_on gone count some = ap (λ (same : Bool). cond same FirstFromController Continuing) (ne_eqb (gone + count) 0 (λ (e : gone + count ≡ 0). omega arith))

-- the pieces that come: the next one, and those behind it
pub coming_is : (size handing gone count : ℕ) (first : List ℕ) → 1 ≤ size → gone < handing → handing ≤ length first → count ≡ min (handing - gone) size
    → cut size (boundary_at gone) (drop gone (take handing first))
    ≡ record { boundary = boundary_at gone; octets = take count (drop gone first) } ∷ cut size (boundary_at (gone + count)) (drop (gone + count) (take handing first))
coming_is size handing gone count first some before within is =
    let rest : List ℕ = drop gone (take handing first) in
    let long : length rest ≡ handing - gone = omega (arith, length-drop gone (take handing first), length-take handing first) in
    let whole : handing ≡ gone + (handing - gone) = omega arith in
    let front : take count (drop gone first) ≡ take count rest =
    sym (ap (λ n. take count (drop gone (take n first))) whole ∙ ap (λ xs. take count xs) (drop-take gone (handing - gone) first) ∙ take-take count (handing - gone) (drop gone first) (omega arith)) in
    next_piece size count (boundary_at gone) rest (take count (drop gone first)) (drop (gone + count) (take handing first)) some (omega arith) (is ∙ ap (λ n. min n size) (sym long)) front (sym (drop-drop count gone (take handing first)))
    ∙ ap (λ b. record { boundary = boundary_at gone; octets = take count (drop gone first) } ∷ cut size b (drop (gone + count) (take handing first))) (sym (goes_on gone count (omega arith)))

-- ---- a packet that was written has octets

behind_five : (a b c d e : ℕ) (octets rest all : List ℕ) → all ≡ a ∷ b ∷ c ∷ d ∷ e ∷ (octets ++ rest) → IsOctets all → IsOctets octets
behind_five a b c d e octets rest all is small i =
    elim (cases_lt i (length octets)) [
      | inl within ↦
          let same : slice_index all (5 + i) ≡ slice_index octets i = ap (λ xs. slice_index xs (5 + i)) is ∙ get_or-append-add (a ∷ b ∷ c ∷ d ∷ e ∷ []) (octets ++ rest) i 0 ∙ get_or_append_left octets rest 0 i within in
          omega (arith, same, small (5 + i))
      | inr past ↦ omega (arith, get_or_past octets i 0 past)
    ]

pub is_short : (word count : ℕ) (octets from to : List ℕ) → word < 2 ^ 16 → length octets ≤ 1021 → IsWritten (Acl word octets) count from to → IsOctets to → IsShort longest_packet (Acl word octets)
is_short word count octets from to fits few written small =
    ((fits, omega arith, omega arith, behind_five _ _ _ _ _ octets (drop (length (spelling (Acl word octets))) from) to written.1 small), omega arith)

-- ---- a piece is handed over

pub handed_is : (handle size handing gone leaving count written : ℕ) (kept : Kept) (from to : List ℕ) → IsQueue size kept handing gone leaving → gone < handing → count ≡ min (handing - gone) size
    → IsWritten (Acl (handle + 0x1000 * flag_of (boundary_at gone)) (take count (drop gone (first_or_nothing kept.frames)))) written from to
    → handle + 0x1000 * flag_of (boundary_at gone) < 2 ^ 16 → IsOctets to → IsHandedOver (piece_first handle (queue_of size kept handing gone leaving).coming) (Some written) from to
handed_is handle size handing gone leaving count written kept from to queue before is wrote word small =
    let piece : List ℕ = take count (drop gone (first_or_nothing kept.frames)) in
    subst (λ (pieces : List Piece). IsHandedOver (piece_first handle pieces) (Some written) from to)
    (sym (coming_is size handing gone count (first_or_nothing kept.frames) (omega (arith, queue.sized.0)) before queue.handing_within is))
    (wrote, is_short (handle + 0x1000 * flag_of (boundary_at gone)) written piece from to word (omega (arith, queue.sized.1, length-take count (drop gone (first_or_nothing kept.frames)))) wrote small)

pub handed_on : (size handing gone leaving count : ℕ) (kept : Kept) → IsQueue size kept handing gone leaving → gone < handing → count ≡ min (handing - gone) size
    → queue_of size kept handing (gone + count) leaving ≡ record (queue_of size kept handing gone leaving) { coming = drop 1 (queue_of size kept handing gone leaving).coming }
handed_on size handing gone leaving count kept queue before is =
    ap (λ pieces. let next : Queue = record { size = size; waiting = drop leaving kept.frames; begun = kept.begun; coming = drop 1 pieces } in next)
    (sym (coming_is size handing gone count (first_or_nothing kept.frames) (omega (arith, queue.sized.0)) before queue.handing_within is))

pub handed_all : (size handing gone leaving count : ℕ) (kept next : Kept) → IsQueue size kept handing gone leaving → gone < handing → count ≡ min (handing - gone) size → gone + count ≡ handing
    → next ≡ record { frames = drop leaving kept.frames; begun = kept.begun }
    → queue_of size next 0 0 0 ≡ record (queue_of size kept handing gone leaving) { coming = drop 1 (queue_of size kept handing gone leaving).coming }
handed_all size handing gone leaving count kept next queue before is over left =
    let nothing : drop (gone + count) (take handing (first_or_nothing kept.frames)) ≡ [] = drop_all (gone + count) (take handing (first_or_nothing kept.frames)) (omega (arith, length-take handing (first_or_nothing kept.frames))) in
    ap (λ k. queue_of size k 0 0 0) left
    ∙ ap (λ pieces. let next : Queue = record { size = size; waiting = drop leaving kept.frames; begun = kept.begun; coming = pieces } in next)
    (sym (ap (λ pieces. drop 1 pieces) (coming_is size handing gone count (first_or_nothing kept.frames) (omega (arith, queue.sized.0)) before queue.handing_within is) ∙ ap (λ xs. cut size (boundary_at (gone + count)) xs) nothing))
