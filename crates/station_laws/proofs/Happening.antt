-- What a host does by itself, and what moves from it, happens in its world.
use Rattle.std.proofs.Common.{◌≡◌, List, [], ◌∷◌, ◌++◌, map, refl, sym, ap}
use Rattle.turn_laws.specs.push_terms.specs.declared.word.Side.TheVariants.{A, B}
use Rattle.turn_laws.specs.world_model.specs.Machines.{Upper}
use Rattle.turn_laws.specs.world_model.specs.Stations.{Order, Station, Effort}
use Rattle.turn_laws.specs.world_model.specs.Worlds.{World, Tries, Departure, Runs, after_order}
use Rattle.station_laws.specs.Striving.{Makes}
use Rattle.station_laws.specs.WorldLaws.{EffortsHappen, after_orders, OrdersHappen}

efforts_of_a : {S T G H : Type 0} (U : Upper S G) (V : Upper T H) (efforts : List Effort) (old : World S T) (station : Station S) → Makes U A efforts old.a station
    → Runs U V (map (λ effort. Tries A effort) efforts) old (record old { a = station })
efforts_of_a {S} U V [] old station is = ap (λ (s : Station S). record old { a = s }) is
efforts_of_a U V (effort ∷ efforts) old station makes =
    (record old { a = makes.0 }, (makes.0, makes.1, refl), efforts_of_a U V efforts (record old { a = makes.0 }) station makes.2)

efforts_of_b : {S T G H : Type 0} (U : Upper S G) (V : Upper T H) (efforts : List Effort) (old : World S T) (station : Station T) → Makes V B efforts old.b station
    → Runs U V (map (λ effort. Tries B effort) efforts) old (record old { b = station })
efforts_of_b {S} {T} U V [] old station is = ap (λ (s : Station T). record old { b = s }) is
efforts_of_b U V (effort ∷ efforts) old station makes =
    (record old { b = makes.0 }, (makes.0, makes.1, refl), efforts_of_b U V efforts (record old { b = makes.0 }) station makes.2)

pub efforts_happen : {S T G H : Type 0} (U : Upper S G) (V : Upper T H) → EffortsHappen U V
efforts_happen U V efforts old = (efforts_of_a U V efforts old, efforts_of_b U V efforts old)

orders_of_a : {S T G H : Type 0} (U : Upper S G) (V : Upper T H) (moved rest : List Order) (old : World S T) → old.a.out ≡ moved ++ rest
    → Runs U V (map (λ order. Departure A order) moved) old (record old { radio = after_orders A moved old.radio; a = record old.a { out = rest } })
orders_of_a U V [] rest old is = ap (λ (out : List Order). record old { a = record old.a { out = out } }) (sym is)
orders_of_a {S} {T} U V (order ∷ moved) rest old is =
    let mid : World S T = record old { radio = after_order A order old.radio; a = record old.a { out = moved ++ rest } } in
    (mid, (moved ++ rest, is, refl), orders_of_a U V moved rest mid refl)

orders_of_b : {S T G H : Type 0} (U : Upper S G) (V : Upper T H) (moved rest : List Order) (old : World S T) → old.b.out ≡ moved ++ rest
    → Runs U V (map (λ order. Departure B order) moved) old (record old { radio = after_orders B moved old.radio; b = record old.b { out = rest } })
orders_of_b U V [] rest old is = ap (λ (out : List Order). record old { b = record old.b { out = out } }) (sym is)
orders_of_b {S} {T} U V (order ∷ moved) rest old is =
    let mid : World S T = record old { radio = after_order B order old.radio; b = record old.b { out = moved ++ rest } } in
    (mid, (moved ++ rest, is, refl), orders_of_b U V moved rest mid refl)

pub orders_happen : {S T G H : Type 0} (U : Upper S G) (V : Upper T H) → OrdersHappen U V
orders_happen U V moved rest old = (orders_of_a U V moved rest old, orders_of_b U V moved rest old)
