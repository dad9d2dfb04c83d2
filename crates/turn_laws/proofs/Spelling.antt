-- A radio makes of a packet what it makes of the order that the packet spells.
use Rattle.std.proofs.Common.{◌≡◌, ℕ, ◌+◌, ◌*◌, ◌%◌, ◌≤◌, ◌==◌, ◌&&◌, Bool, true, false, List, [], ◌∷◌, ◌++◌, Option, Some, None, if◌then◌else◌, refl, sym, ap, ◌∙◌, arith, le-ltb}
use Rattle.world_model.specs.bt_base.specs.Octets.{le16}
use Rattle.world_model.specs.bt_base.proofs.OctetLemmas.{le16-number}
use Rattle.world_model.specs.h4_framing.specs.Packets.{Packet, Acl}
use Rattle.world_model.specs.hci_packets.specs.declared.acl.Boundary.{Boundary}
use Rattle.world_model.specs.hci_packets.specs.declared.acl.Boundary.TheVariants.{First, Continuing, FirstFromController}
use Rattle.world_model.specs.hci_packets.specs.AclWords.{flag_of}
use Rattle.world_model.specs.acl_fragments.specs.Pieces.{Piece}
use Rattle.world_model.specs.push_terms.specs.declared.word.Side.{Side}
use Rattle.world_model.specs.push_terms.specs.declared.word.Side.TheVariants.{A, B}
use Rattle.world_model.specs.capture.specs.Pdus.{piece_of}
use Rattle.world_model.specs.radio_model.specs.Controllers.{Controller}
use Rattle.world_model.specs.radio_model.specs.Radio.{Radio, controller, with_controller, knows_link, piece_from, with_piece, after_taking, after_packet}
use Rattle.world_model.specs.Stations.{Order, Reset, ReadBuffers, ReadAddress, Scan, Page, Accept, End, Data, order_packet}
use Rattle.world_model.specs.Worlds.{piece_on, after_order}
use Rattle.turn_laws.specs.WorldLaws.{handle_of, OrdersAreSpelled}
use Rattle.turn_laws.proofs.Showing.{piece_packet_is}

flag_low : (boundary : Boundary) → flag_of boundary ≤ 2
flag_low First = omega arith
flag_low Continuing = omega arith
flag_low FirstFromController = omega arith

on_by : (up : Bool) (handle told : ℕ) (piece : Piece) → (if up then (if handle == told then Some piece else None) else None) ≡ (if up && (handle == told) then Some piece else None)
on_by true handle told piece = refl
on_by false handle told piece = refl

piece_is : (one : Controller) (handle : ℕ) (piece : Piece) → handle ≤ 0x0EFF → piece_from one (Acl (handle + 0x1000 * flag_of piece.boundary) piece.octets) ≡ piece_on one handle piece
piece_is one handle piece low =
    ap (λ (found : Option Piece). if one.up then found else None) (piece_packet_is one.told handle piece low) ∙ on_by one.up handle one.told piece

word_is : (handle : ℕ) (boundary : Boundary) → handle ≤ 0x0EFF → (handle + 0x1000 * flag_of boundary) % 0x1000 ≡ handle
word_is handle boundary low = let flag = flag_low boundary in omega arith

data_is : (side : Side) (handle : ℕ) (piece : Piece) (radio : Radio) → handle ≤ 0x0EFF → after_packet side (Acl (handle + 0x1000 * flag_of piece.boundary) piece.octets) radio ≡ after_order side (Data handle piece) radio
data_is side handle piece radio low =
    ap (λ (n : ℕ). with_controller side (after_taking n (with_piece (knows_link side radio) (piece_from (controller side radio) (Acl (handle + 0x1000 * flag_of piece.boundary) piece.octets)) (controller side radio))) radio) (word_is handle piece.boundary low)
    ∙ ap (λ (found : Option Piece). with_controller side (after_taking handle (with_piece (knows_link side radio) found (controller side radio))) radio) (piece_is (controller side radio) handle piece low)

pub orders_are_spelled : OrdersAreSpelled
orders_are_spelled A Reset radio low = refl
orders_are_spelled B Reset radio low = refl
orders_are_spelled A ReadBuffers radio low = refl
orders_are_spelled B ReadBuffers radio low = refl
orders_are_spelled A ReadAddress radio low = refl
orders_are_spelled B ReadAddress radio low = refl
orders_are_spelled A Scan radio low = refl
orders_are_spelled B Scan radio low = refl
orders_are_spelled A Page radio low = refl
orders_are_spelled B Page radio low = refl
orders_are_spelled A Accept radio low = refl
orders_are_spelled B Accept radio low = refl
orders_are_spelled A (End handle) radio low = let again = le16-number handle (0x13 ∷ []) (omega arith) in rw (again, le-ltb 0x0EFF handle low) refl
orders_are_spelled B (End handle) radio low = let again = le16-number handle (0x13 ∷ []) (omega arith) in rw (again, le-ltb 0x0EFF handle low) refl
orders_are_spelled A (Data handle piece) radio low = data_is A handle piece radio low
orders_are_spelled B (Data handle piece) radio low = data_is B handle piece radio low
