-- What an order makes a controller owe, and what it leaves as it is.
use Rattle.std.proofs.Common.{◌≡◌, ℕ, ◌+◌, ◌≤◌, ◌==◌, ◌&&◌, nat_le, Bool, true, false, List, [], ◌∷◌, ◌++◌, Option, Some, None, inl, inr, if◌then◌else◌, refl, ap, ◌∙◌, arith}
use Rattle.std.proofs.lemmas.Bool.{eqb-true, cases_Bool}
use Rattle.rest_laws.specs.bt_base.specs.Octets.{le16}
use Rattle.rest_laws.specs.acl_fragments.specs.Pieces.{Piece}
use Rattle.rest_laws.specs.push_terms.specs.declared.word.Side.{Side}
use Rattle.rest_laws.specs.push_terms.specs.declared.word.Side.TheVariants.{A, B}
use Rattle.rest_laws.specs.radio_model.specs.Controllers.{Answer, Returned, Stated, Called, LinkMade, LinkGone, address, Controller, owing, after_giving_back}
use Rattle.rest_laws.specs.radio_model.specs.Radio.{Radio, Paging, Requested, controller, owes, scanning, is_reached, after_reaching, may_page, is_requested, joined, knows_link, parted, with_piece, after_taking}
use Rattle.rest_laws.specs.world_model.specs.Stations.{Order, Reset, ReadBuffers, ReadAddress, Scan, Page, Accept, End, Data}
use Rattle.rest_laws.specs.world_model.specs.Worlds.{piece_on, after_order}
use Rattle.rest_laws.specs.turn_laws.proofs.Recording.{NoData}
use Rattle.room_laws.specs.Rooms.{stray_by, strays}

pub strays-append : (side : Side) (one two : List Answer) → strays side (one ++ two) ≡ strays side one + strays side two
strays-append side [] two = omega arith
strays-append side (answer ∷ one) two = let same = strays-append side one two in omega arith

-- nothing stray more, and nothing more is handed over
pub record Plainly (side : Side) (one one' : Controller) : Type 0 where
  pub strays_are : strays side one'.owed ≡ strays side one.owed
  pub coming_is : one'.coming ≡ one.coming

pub plainly_refl : (side : Side) (one : Controller) → Plainly side one one
plainly_refl side one = record { strays_are = refl; coming_is = refl }

plainly_then : (side : Side) (one two three : Controller) → Plainly side one two → Plainly side two three → Plainly side one three
plainly_then side one two three first second = record { strays_are = second.strays_are ∙ first.strays_are; coming_is = second.coming_is ∙ first.coming_is }

plainly_more : (side : Side) (one one' : Controller) (answer : Answer) → one'.owed ≡ one.owed ++ answer ∷ [] → one'.coming ≡ one.coming → stray_by answer side ≡ 0 → Plainly side one one'
plainly_more side one one' answer owed coming none = record {
  strays_are = ap (strays side) owed ∙ strays-append side one.owed (answer ∷ []) ∙ (let zero_is = none in omega arith);
  coming_is = coming;
}

plainly_if : (side : Side) (radio one two : Radio) (some : Bool) → Plainly side (controller side radio) (controller side one) → Plainly side (controller side radio) (controller side two) → Plainly side (controller side radio) (controller side (if some then one else two))
plainly_if side radio one two true first second = first
plainly_if side radio one two false first second = second

owes_plainly : (side by : Side) (answer : Answer) (radio : Radio) → stray_by answer side ≡ 0 → Plainly side (controller side radio) (controller side (owes by (answer ∷ []) radio))
owes_plainly A A answer radio none = plainly_more A radio.a _ answer refl refl none
owes_plainly B B answer radio none = plainly_more B radio.b _ answer refl refl none
owes_plainly A B answer radio none = plainly_refl A radio.a
owes_plainly B A answer radio none = plainly_refl B radio.b

reaches_plainly : (side : Side) (radio : Radio) → Plainly side (controller side radio) (controller side (after_reaching radio))
reaches_plainly A radio = plainly_if A radio (record radio { b = owing (Called ∷ []) radio.b; phase = Requested }) radio (is_reached radio) (plainly_refl A radio.a) (plainly_refl A radio.a)
reaches_plainly B radio =
    plainly_if B radio (record radio { b = owing (Called ∷ []) radio.b; phase = Requested }) radio (is_reached radio) (plainly_more B radio.b _ Called refl refl refl) (plainly_refl B radio.b)

joins_plainly : (side : Side) (radio : Radio) → Plainly side (controller side radio) (controller side (joined radio))
joins_plainly A radio = plainly_more A radio.a _ (LinkMade (radio.number + 1)) refl refl refl
joins_plainly B radio = plainly_more B radio.b _ (LinkMade (radio.number + 1)) refl refl refl

pub parts_plainly : (for_a for_b : ℕ) (side : Side) (radio : Radio) → Plainly side (controller side radio) (controller side (parted for_a for_b radio))
parts_plainly for_a for_b A radio = plainly_more A radio.a _ (LinkGone radio.number for_a) refl refl refl
parts_plainly for_a for_b B radio = plainly_more B radio.b _ (LinkGone radio.number for_b) refl refl refl

scan_plainly : (side by : Side) (radio : Radio) → Plainly side (controller side radio) (controller side (owes by (Returned 0x0C1A (0 ∷ []) ∷ []) (scanning by 0x03 radio)))
scan_plainly A A radio = plainly_more A radio.a _ (Returned 0x0C1A (0 ∷ [])) refl refl refl
scan_plainly B B radio = plainly_more B radio.b _ (Returned 0x0C1A (0 ∷ [])) refl refl refl
scan_plainly A B radio = plainly_refl A radio.a
scan_plainly B A radio = plainly_refl B radio.b

scans_plainly : (side by : Side) (radio : Radio) → Plainly side (controller side radio) (controller side (after_order by Scan radio))
scans_plainly side by radio =
    let one : Radio = owes by (Returned 0x0C1A (0 ∷ []) ∷ []) (scanning by 0x03 radio) in
    plainly_then side (controller side radio) (controller side one) (controller side (after_order by Scan radio)) (scan_plainly side by radio) (reaches_plainly side one)

page_plainly : (side : Side) (radio : Radio) → Plainly side (controller side radio) (controller side (record radio { phase = Paging }))
page_plainly A radio = plainly_refl A radio.a
page_plainly B radio = plainly_refl B radio.b

pages_plainly : (side : Side) (radio : Radio) → Plainly side (controller side radio) (controller side (if may_page radio then after_reaching (record radio { phase = Paging }) else radio))
pages_plainly side radio =
    let paged : Radio = record radio { phase = Paging } in
    plainly_if side radio (after_reaching paged) radio (may_page radio)
    (plainly_then side (controller side radio) (controller side paged) (controller side (after_reaching paged)) (page_plainly side radio) (reaches_plainly side paged)) (plainly_refl side (controller side radio))

-- a command
pub order_plainly : (side by : Side) (order : Order) (radio : Radio) → NoData order → Plainly side (controller side radio) (controller side (after_order by order radio))
order_plainly side by Reset radio plain = owes_plainly side by (Returned 0x0C03 (0 ∷ [])) radio refl
order_plainly side by ReadBuffers radio plain = owes_plainly side by (Returned 0x1005 (0 ∷ (le16 radio.size ++ (0 ∷ (le16 radio.count ++ le16 0))))) radio refl
order_plainly side by ReadAddress radio plain = owes_plainly side by (Returned 0x1009 (0 ∷ address by)) radio refl
order_plainly side by Scan radio plain = scans_plainly side by radio
order_plainly side A Page radio plain =
    let one : Radio = owes A (Stated 0x0405 ∷ []) radio in
    plainly_then side (controller side radio) (controller side one) (controller side (after_order A Page radio)) (owes_plainly side A (Stated 0x0405) radio refl) (pages_plainly side one)
order_plainly side B Page radio plain = owes_plainly side B (Stated 0x0405) radio refl
order_plainly side A Accept radio plain = owes_plainly side A (Stated 0x0409) radio refl
order_plainly side B Accept radio plain =
    let one : Radio = owes B (Stated 0x0409 ∷ []) radio in
    plainly_then side (controller side radio) (controller side one) (controller side (after_order B Accept radio)) (owes_plainly side B (Stated 0x0409) radio refl)
    (plainly_if side one (joined one) one (is_requested radio.phase) (joins_plainly side one) (plainly_refl side (controller side one)))
order_plainly side A (End handle) radio plain =
    let one : Radio = owes A (Stated 0x0406 ∷ []) radio in
    plainly_then side (controller side radio) (controller side one) (controller side (after_order A (End handle) radio)) (owes_plainly side A (Stated 0x0406) radio refl)
    (plainly_if side one (parted 0x16 0x13 one) one (knows_link A radio && (handle == radio.number)) (parts_plainly 0x16 0x13 side one) (plainly_refl side (controller side one)))
order_plainly side B (End handle) radio plain =
    let one : Radio = owes B (Stated 0x0406 ∷ []) radio in
    plainly_then side (controller side radio) (controller side one) (controller side (after_order B (End handle) radio)) (owes_plainly side B (Stated 0x0406) radio refl)
    (plainly_if side one (parted 0x13 0x16 one) one (knows_link B radio && (handle == radio.number)) (parts_plainly 0x13 0x16 side one) (plainly_refl side (controller side one)))
order_plainly side by (Data handle piece) radio plain = absurd plain

-- ---- a packet of data

-- it is taken, and fewer are held than one event can give back
taken_by : (side : Side) (ours full : Bool) (one : Controller) → full ≡ false → Plainly side one (if ours then (if full then record (after_giving_back one) { taken = 1 } else record one { taken = one.taken + 1 }) else one)
taken_by side true true one not_full = absurd cc
taken_by side true false one not_full = record { strays_are = refl; coming_is = refl }
taken_by side false full one not_full = plainly_refl side one

not_full : (n : ℕ) → n ≤ 64 → (n == 65535) ≡ false
not_full n few = elim (cases_Bool (n == 65535)) [
  | inl is ↦ let same = eqb-true n 65535 is in absurd (omega arith)
  | inr other ↦ other
]

piece_plainly : (side : Side) (flies : Bool) (piece : Option Piece) (one : Controller) → Plainly side one (with_piece flies piece one) × ((with_piece flies piece one).taken ≡ one.taken)
piece_plainly side flies None one = (plainly_refl side one, refl)
piece_plainly side flies (Some piece) one = (record { strays_are = refl; coming_is = refl }, refl)

takes_plainly : (side : Side) (handle : ℕ) (flies : Bool) (piece : Option Piece) (one : Controller) → one.taken ≤ 64 → Plainly side one (after_taking handle (with_piece flies piece one))
takes_plainly side handle flies piece one few =
    let with : Controller = with_piece flies piece one in
    let same = piece_plainly side flies piece one in
    let taken = same.1 in
    plainly_then side one with (after_taking handle with) same.0 (taken_by side ((handle == with.told) && nat_le 1 with.told) (with.taken == 65535) with (not_full with.taken (omega arith)))

-- ---- whatever it is

pub orders_plainly : (side by : Side) (order : Order) (radio : Radio) → (controller by radio).taken ≤ 64 → Plainly side (controller side radio) (controller side (after_order by order radio))
orders_plainly A A (Data handle piece) radio few = takes_plainly A handle (knows_link A radio) (piece_on radio.a handle piece) radio.a few
orders_plainly B B (Data handle piece) radio few = takes_plainly B handle (knows_link B radio) (piece_on radio.b handle piece) radio.b few
orders_plainly A B (Data handle piece) radio few = plainly_refl A radio.a
orders_plainly B A (Data handle piece) radio few = plainly_refl B radio.b
orders_plainly side by order radio few = order_plainly side by order radio tt
