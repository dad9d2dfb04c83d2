-- A world of two new hosts may start.
use Rattle.std.proofs.Common.{◌≡◌, ℕ, ◌≤◌, List, [], ◌∷◌, ◌++◌, length, map, refl, sym, ap, subst}
use Rattle.push_script.specs.declared.scenario.Scenario.{Scenario}
use Rattle.push_terms.specs.declared.word.Side.{Side}
use Rattle.push_terms.specs.declared.word.Side.TheVariants.{A, B}
use Rattle.radio_model.specs.Queues.{IsSize}
use Rattle.room_laws.specs.world_model.specs.Machines.{Upper}
use Rattle.room_laws.specs.world_model.specs.Stations.{Station, Effort, first_station}
use Rattle.room_laws.specs.world_model.specs.Worlds.{Tries}
use Rattle.radio_world.specs.declared.host.Host as host
use Rattle.radio_world.specs.Hosts.{Asking, answering, MakesEfforts}
use Rattle.radio_world.specs.Scenes.{Scene, first_scene, moment, Plays}
use Rattle.radio_world.specs.Standing.{IsCount, starting, IsReached}
use Rattle.radio_world.specs.Both.{Both}
use Rattle.radio_world.specs.Beginning.{HasBegun, Begins}
use Rattle.radio_world.specs.Calls.{MayStart, new_world}
use Rattle.radio_world.proofs.Advancing.{plays_then}

-- what hosts do by themselves is a run of the pure world
a_plays : {S T G H : Type 0} (U : Upper S G) (V : Upper T H) (scene : Scene) (b : Station T) (efforts : List Effort) (old new : Station S) → MakesEfforts U A efforts old new → Plays U V (map (Tries A) efforts) (moment scene old b) (moment scene new b)
a_plays {S} U V scene b [] old new made = ap (λ (a : Station S). moment scene a b) made
a_plays U V scene b (effort ∷ efforts) old new made = (moment scene made.0 b, record { does = (made.0, made.1, refl); notes = refl }, a_plays U V scene b efforts made.0 new made.2)

b_plays : {S T G H : Type 0} (U : Upper S G) (V : Upper T H) (scene : Scene) (a : Station S) (efforts : List Effort) (old new : Station T) → MakesEfforts V B efforts old new → Plays U V (map (Tries B) efforts) (moment scene a old) (moment scene a new)
b_plays {T = T} U V scene a [] old new made = ap (λ (b : Station T). moment scene a b) made
b_plays U V scene a (effort ∷ efforts) old new made = (moment scene a made.0, record { does = (made.0, made.1, refl); notes = refl }, b_plays U V scene a efforts made.0 new made.2)

new_reached : {S T G H : Type 0} (U : Upper S G) (V : Upper T H) (size count : ℕ) (names : List (List ℕ)) (a : Station S) (b : Station T) → IsSize size → IsCount count → length names ≤ 64 → HasBegun U A a → HasBegun V B b
    → IsReached U V (moment (first_scene size count names) a b)
new_reached U V size count names a b sized counted few one two =
    let scene = first_scene size count names in
    let second = first_station (starting two.first V) B in
    record {
      size = size;
      count = count;
      names = names;
      sized = sized;
      counted = counted;
      few = few;
      first_a = one.first;
      first_b = two.first;
      idle = one.idle;
      happenings = map (Tries A) one.efforts ++ map (Tries B) two.efforts;
      plays = plays_then U V (map (Tries A) one.efforts) (map (Tries B) two.efforts) _ (moment scene a second) _ (a_plays U V scene second one.efforts _ a one.makes) (b_plays U V scene a two.efforts _ b two.makes);
    }

begun_on : {S G : Type 0} (U : Upper S G) (side side' : Side) (host : Asking S G) → side ≡ side' → ((rest : List G) → HasBegun U side (answering rest host)) → (rest : List G) → HasBegun U side' (answering rest host)
begun_on U side side' host same begun rest = subst (λ s. HasBegun U s (answering rest host)) same (begun rest)

new_may_start :
    {A' B' P Q : Type 0} (one : host.Ghosts A' P) (two : host.Ghosts B' Q) (scenario : Scenario) (shelf : P) (inbox : Q) → (one.side ≡ A) × (two.side ≡ B)
    → Begins one.machine one.side (one.station (one.fresh scenario.settings) shelf) (one.held (one.fresh scenario.settings)) (one.is_sound (one.fresh scenario.settings) shelf)
    → Begins two.machine two.side (two.station (two.fresh scenario.settings) inbox) (two.held (two.fresh scenario.settings)) (two.is_sound (two.fresh scenario.settings) inbox)
    → MayStart one two (new_world one two scenario) shelf inbox
new_may_start one two scenario shelf inbox sides first second = record {
  reached = λ rest_a rest_b.
      new_reached one.machine two.machine scenario.acl_length scenario.acl_count scenario.names _ _ (scenario.acl_length_low, scenario.acl_length_high) (scenario.acl_count_low, scenario.acl_count_high) scenario.few
      (begun_on one.machine one.side A (one.station (one.fresh scenario.settings) shelf) sides.0 first.begun rest_a)
      (begun_on two.machine two.side B (two.station (two.fresh scenario.settings) inbox) sides.1 second.begun rest_b);
  none_back = record { a = refl; b = refl };
  are_sound = record { none_held = (first.none_held, second.none_held); sound = (first.sound, second.sound) };
}

pub may_start :
    {A' B' P Q : Type 0} (one : host.Ghosts A' P) (two : host.Ghosts B' Q) (scenario : Scenario) (shelf : P) (inbox : Q) (world : Both A' B') → world ≡ new_world one two scenario → (one.side ≡ A) × (two.side ≡ B)
    → Begins one.machine one.side (one.station (one.fresh scenario.settings) shelf) (one.held (one.fresh scenario.settings)) (one.is_sound (one.fresh scenario.settings) shelf)
    → Begins two.machine two.side (two.station (two.fresh scenario.settings) inbox) (two.held (two.fresh scenario.settings)) (two.is_sound (two.fresh scenario.settings) inbox)
    → MayStart one two world shelf inbox
may_start {A'} {B'} one two scenario shelf inbox world made sides first second = subst (λ (w : Both A' B'). MayStart one two w shelf inbox) (sym made) (new_may_start one two scenario shelf inbox sides first second)
