-- What comes into the hosts of the pure world is what a host in code hears as its station does (this project's own).
use Rattle.std.specs.Prelude.{ℕ, ◌≡◌, ◌≤◌, ◌<◌, ◌^◌, List, [], ◌∷◌, ◌++◌, map}
use Rattle.turn_laws.specs.bt_base.specs.Numbers.{IsHandle}
use Rattle.turn_laws.specs.push_terms.specs.declared.word.Side.{Side}
use Rattle.turn_laws.specs.push_terms.specs.declared.word.Side.TheVariants.{A, B}
use Rattle.turn_laws.specs.radio_model.specs.Controllers.{Answer, Controller}
use Rattle.turn_laws.specs.radio_model.specs.Radio.{Radio}
use Rattle.turn_laws.specs.world_model.specs.Machines.{Upper}
use Rattle.turn_laws.specs.world_model.specs.Stations.{Order, Station, Effort}
use Rattle.turn_laws.specs.world_model.specs.Worlds.{after_order, World, Happening, Tries, Departure, Runs, first_world}
use Rattle.station_laws.specs.Coming.{MayCome}
use Rattle.station_laws.specs.Striving.{Makes}

-- controllers take packets of 27 octets at least, and one at least
pub record AreSizes (size count : ℕ) : Type 0 where
  pub long : 27 ≤ size
  pub some : 1 ≤ count
  pub size_fits : size < 2 ^ 16
  pub count_fits : count < 2 ^ 16

-- what a controller owes first may come
abbrev pub NextMayCome : {S : Type 0} → Controller → Station S → Type 0
NextMayCome one station = (answer : Answer) (rest : List Answer) → one.owed ≡ answer ∷ rest → MayCome station.awaited answer

pub record AllMayCome {S T : Type 0} (w : World S T) : Type 0 where
  pub a : NextMayCome w.radio.a w.a
  pub b : NextMayCome w.radio.b w.b
  -- pieces come on a handle
  pub handle : IsHandle w.radio.number

-- whatever happens in a world
abbrev pub WorldsAnswer : {S T G H : Type 0} → Upper S G → Upper T H → Type 0
WorldsAnswer {S} {T} U V =
    (size count : ℕ) (names : List (List ℕ)) (happenings : List Happening) (w : World S T) → AreSizes size count
    → Runs U V happenings (first_world U V size count names) w → AllMayCome w

-- ---- what a host does happens in its world

-- the efforts of a host happen, one after the other
abbrev pub EffortsHappen : {S T G H : Type 0} → Upper S G → Upper T H → Type 0
EffortsHappen {S} {T} U V =
    (efforts : List Effort) (old : World S T)
    → ((station : Station S) → Makes U A efforts old.a station → Runs U V (map (λ effort. Tries A effort) efforts) old (record old { a = station }))
    × ((station : Station T) → Makes V B efforts old.b station → Runs U V (map (λ effort. Tries B effort) efforts) old (record old { b = station }))

-- the radio after orders of the host of a side
abbrev pub after_orders : Side → List Order → Radio → Radio
after_orders side [] radio = radio
after_orders side (order ∷ orders) radio = after_orders side orders (after_order side order radio)

-- the first orders that a host put out move to its controller, one after the other
abbrev pub OrdersHappen : {S T G H : Type 0} → Upper S G → Upper T H → Type 0
OrdersHappen {S} {T} U V =
    (moved rest : List Order) (old : World S T)
    → (old.a.out ≡ moved ++ rest
    → Runs U V (map (λ order. Departure A order) moved) old (record old { radio = after_orders A moved old.radio; a = record old.a { out = rest } }))
    × (old.b.out ≡ moved ++ rest
    → Runs U V (map (λ order. Departure B order) moved) old (record old { radio = after_orders B moved old.radio; b = record old.b { out = rest } }))
