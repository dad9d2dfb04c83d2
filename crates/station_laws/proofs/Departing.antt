-- What a host put out, as packets of orders.
use Rattle.std.proofs.Common.{◌≡◌, ℕ, zero, suc, ◌+◌, ◌-◌, ◌<◌, ◌≤◌, List, [], ◌∷◌, ◌++◌, length, drop, map, inl, inr, refl, sym, ap, ◌∙◌, subst, append-nil, length-append, length-drop, drop-drop, arith}
use Rattle.std.proofs.Math.Seq.{drop-append-add}
use Rattle.std.proofs.lemmas.Bool.{cases_lt}
use Rattle.std.proofs.lemmas.List.{drop-append-le, map-append}
use Rattle.std.proofs.lemmas.List.Concat.{flat_map-append}
use Rattle.turn_laws.specs.h4_framing.specs.Packets.{Packet, Command, Acl, Sync, Event, spelling, spellings}
use Rattle.turn_laws.specs.push_terms.specs.declared.word.Side.{Side}
use Rattle.turn_laws.specs.world_model.specs.Stations.{Order, order_packet}
use Rattle.station_laws.specs.Seen.{IsWithin, Offers}
use Rattle.station_laws.specs.Striving.{Departs}
use Rattle.station_laws.specs.Laws.{OctetsDepart}

abbrev octets_of : Side → List Order → List ℕ
octets_of side orders = spellings (map (order_packet side) orders)

some_octets : (packet : Packet) → 0 < length (spelling packet)
some_octets (Command opcode params) = omega arith
some_octets (Acl word octets) = omega arith
some_octets (Sync word octets) = omega arith
some_octets (Event code params) = omega arith

-- ---- one order more

all_within : (side : Side) (gone : ℕ) (orders : List Order) → IsWithin side gone orders → gone ≤ length (octets_of side orders)
all_within side gone [] within = omega (arith, within)
all_within side gone (order ∷ orders) within = omega (arith, within, length-append (spelling (order_packet side order)) (octets_of side orders))

still_within : (side : Side) (gone : ℕ) (orders : List Order) (order : Order) → IsWithin side gone orders → IsWithin side gone (orders ++ order ∷ [])
still_within side gone [] order within = omega (arith, within, some_octets (order_packet side order))
still_within side gone (first ∷ orders) order within = within

octets_more : (side : Side) (orders : List Order) (order : Order) → octets_of side (orders ++ order ∷ []) ≡ octets_of side orders ++ spelling (order_packet side order)
octets_more side orders order =
    ap spellings (map-append (order_packet side) orders (order ∷ []))
    ∙ flat_map-append spelling (map (order_packet side) orders) (order_packet side order ∷ [])
    ∙ ap (λ (octets : List ℕ). octets_of side orders ++ octets) (append-nil (spelling (order_packet side order)))

pub offers_more : (side : Side) (gone : ℕ) (orders : List Order) (octets : List ℕ) (order : Order) (packet : Packet) → packet ≡ order_packet side order
    → Offers side gone orders octets → Offers side gone (orders ++ order ∷ []) (octets ++ spelling packet)
offers_more side gone orders octets order packet is offers =
    record {
      octets_are = ap (λ (p : Packet). octets ++ spelling p) is
          ∙ ap (λ (front : List ℕ). front ++ spelling (order_packet side order)) offers.octets_are
          ∙ sym (ap (λ (all : List ℕ). drop gone all) (octets_more side orders order) ∙ drop-append-le gone (octets_of side orders) (spelling (order_packet side order)) (all_within side gone orders offers.within));
      within = still_within side gone orders order offers.within;
    }

-- ---- octets are taken

nothing_gone : (side : Side) (orders : List Order) → IsWithin side 0 orders
nothing_gone side [] = refl
nothing_gone side (order ∷ orders) = some_octets (order_packet side order)

nothing_left : (n : ℕ) → ◌≡◌ {A = List ℕ} (drop n []) []
nothing_left zero = refl
nothing_left (suc n) = refl

depart : (side : Side) (gone : ℕ) (orders : List Order) (count : ℕ) → IsWithin side gone orders → count ≤ length (drop gone (octets_of side orders))
    → Departs side gone orders count (drop gone (octets_of side orders))
depart side gone [] count within fits =
    let none = nothing_left gone in
    let no_more : length (drop gone (octets_of side [])) ≡ 0 = ap (λ (l : List ℕ). length l) none in
    record {
      moved = [];
      rest = [];
      gone_then = 0;
      orders_are = refl;
      counted = omega (arith, within, fits, no_more);
      offers = record { octets_are = ap (λ (l : List ℕ). drop count l) none ∙ nothing_left count; within = refl };
    }
depart side gone (order ∷ orders) count within fits =
    let first : List ℕ = spelling (order_packet side order) in
    let behind : List ℕ = octets_of side orders in
    let all : List ℕ = first ++ behind in
    elim (cases_lt (gone + count) (length first)) [
      | inl short ↦
          record {
            moved = [];
            rest = order ∷ orders;
            gone_then = gone + count;
            orders_are = refl;
            counted = omega arith;
            offers = record { octets_are = drop-drop count gone all; within = short };
          }
      | inr long ↦
          let more : ℕ = gone + count - length first in
          let whole = length-append first behind in
          let left = length-drop gone all in
          let rest = depart side 0 orders more (nothing_gone side orders) (omega (arith, whole, left, fits)) in
          let counted = rest.counted in
          let at : gone + count ≡ length first + more = omega arith in
          let moved = length-append first (octets_of side rest.moved) in
          let whole_first : drop count (drop gone all) ≡ drop (length first + more) all = drop-drop count gone all ∙ ap (λ (n : ℕ). drop n all) at in
          let behind_it : drop (length first + more) all ≡ drop more behind = drop-append-add first behind more in
          let then_taken : drop more behind ≡ drop rest.gone_then (octets_of side rest.rest) = rest.offers.octets_are in
          record {
            moved = order ∷ rest.moved;
            rest = rest.rest;
            gone_then = rest.gone_then;
            orders_are = ap (λ (l : List Order). order ∷ l) rest.orders_are;
            counted = omega (arith, counted, moved, at);
            offers = record {
              octets_are = whole_first ∙ (behind_it ∙ then_taken);
              within = rest.offers.within;
            };
          }
    ]

pub octets_depart : OctetsDepart
octets_depart side gone orders count octets offers fits =
    subst (λ (all : List ℕ). count ≤ length all → Departs side gone orders count all) (sym offers.octets_are) (depart side gone orders count offers.within) fits
