-- What comes to a host in a run may be heard.
use Rattle.std.proofs.Common.{ℕ, List, [], ◌++◌, Option, refl, sym, subst}
use Rattle.bt_base.specs.Numbers.{IsHandle}
use Rattle.push_terms.specs.declared.word.Side.{Side}
use Rattle.push_terms.specs.declared.word.Side.TheVariants.{A, B}
use Rattle.radio_model.specs.Radio.{Radio, controller}
use Rattle.room_laws.specs.world_model.specs.Machines.{Upper}
use Rattle.room_laws.specs.world_model.specs.Stations.{Station}
use Rattle.run_laws.specs.station_laws.specs.WorldLaws.{NextMayCome, AllMayCome}
use Rattle.run_laws.specs.station_laws.proofs.Running.{worlds_answer}
use Rattle.radio_world.specs.Hosts.{Asking, answering, Coming, Part, Told, MayBeHeard}
use Rattle.radio_world.specs.Leaving.{Medium}
use Rattle.radio_world.specs.Halves.{happenings_of, half_of, Goes, ComesFirst, MayAllBeHeard}
use Rattle.radio_world.specs.Scenes.{Scene, Moment, moment, world_at, Plays}
use Rattle.radio_world.specs.Standing.{starting, first_moment, IsReached}
use Rattle.radio_world.proofs.Starting.{runs_from}
use Rattle.radio_world.proofs.Moving.{makes_then}
use Rattle.radio_world.proofs.Lifting.{plays_a, plays_b}
use Rattle.radio_world.proofs.Advancing.{plays_then}
use Rattle.radio_world.proofs.Standing.{runs_of, sizes_of}

pub may_next : {S G : Type 0} (U : Upper S G) (side : Side) (medium : Medium) (host : Asking S G) → MayAllBeHeard U side medium host
    → (coming : Coming) → ComesFirst side coming medium.radio → MayBeHeard host coming
may_next U side medium host all (Part handle piece) first = all [] [] (half_of medium host []) refl (Part handle piece) first
may_next U side medium host all (Told answer) first = all [] [] (half_of medium host []) refl (Told answer) first

pub heard_then :
    {S G P : Type 0} (U : Upper S G) (side : Side) (Answers : P → List G → P → Type 0) (medium medium' : Medium) (host host' : Asking S G) (port port' : P) (trace trace' : Option (List ℕ))
    → Goes U side Answers medium medium' host host' port port' trace trace' → MayAllBeHeard U side medium host → MayAllBeHeard U side medium' host'
heard_then U side Answers medium medium' host host' port port' trace trace' goes all rest motions half makes =
    all (goes.used ++ rest) (goes.motions ++ motions) half (makes_then U side goes.motions motions _ (half_of medium' host' rest) half (goes.makes rest) makes)

-- ---- what a controller owes, and what it hands over

comes_by : {S : Type 0} (side : Side) (radio : Radio) (station : Station S) → NextMayCome (controller side radio) station → IsHandle radio.number
    → (coming : Coming) → ComesFirst side coming radio → MayBeHeard station coming
comes_by side radio station next handle (Part number piece) (rest, coming_are, is) = subst (λ (n : ℕ). IsHandle n) (sym is) handle
comes_by side radio station next handle (Told answer) (rest, none, owed_are) = next answer rest owed_are

all_come : {S T G H : Type 0} (U : Upper S G) (V : Upper T H) (at new : Moment S T) (happenings : List _) → IsReached U V at → Plays U V happenings at new → AllMayCome (world_at new)
all_come U V at new happenings reached plays =
    let s = reached.first_a in
    let t = reached.first_b in
    let first = first_moment (starting s U) (starting t V) reached.size reached.count reached.names in
    worlds_answer (starting s U) (starting t V) reached.size reached.count reached.names (reached.happenings ++ happenings) (world_at new) (sizes_of reached.size reached.count reached.sized reached.counted)
    (runs_from U V s t (reached.happenings ++ happenings) (world_at first) (world_at new)
    (runs_of U V (reached.happenings ++ happenings) first new (plays_then U V reached.happenings happenings first at new reached.plays plays)))

-- ---- whatever happens from where a run led

abbrev pub Reaches : {S T G H : Type 0} → Upper S G → Upper T H → Scene → Asking S G → Asking T H → Type 0
Reaches {S} {T} {G} {H} U V scene a b = (rest_a : List G) (rest_b : List H) → IsReached U V (moment scene (answering rest_a a) (answering rest_b b))

pub a_hears : {S T G H : Type 0} (U : Upper S G) (V : Upper T H) (scene : Scene) (a : Asking S G) (b : Asking T H) → Reaches U V scene a b → MayAllBeHeard U A scene.medium a
a_hears U V scene a b reached rest motions half makes =
    let all = all_come U V (moment scene (answering rest a) (answering [] b)) (record { scene = record scene { medium = half.medium }; a = half.station; b = answering [] b }) (happenings_of A motions)
    (reached rest []) (plays_a U V motions (half_of scene.medium a rest) half (answering [] b) scene.pushes scene.turned makes) in
    comes_by A half.medium.radio half.station all.a all.handle

pub b_hears : {S T G H : Type 0} (U : Upper S G) (V : Upper T H) (scene : Scene) (a : Asking S G) (b : Asking T H) → Reaches U V scene a b → MayAllBeHeard V B scene.medium b
b_hears U V scene a b reached rest motions half makes =
    let all = all_come U V (moment scene (answering [] a) (answering rest b)) (record { scene = record scene { medium = half.medium }; a = answering [] a; b = half.station }) (happenings_of B motions)
    (reached [] rest) (plays_b U V motions (half_of scene.medium b rest) half (answering [] a) scene.pushes scene.turned makes) in
    comes_by B half.medium.radio half.station all.b all.handle
