-- What the capture and the script have where a world wants memory.
use Rattle.std.proofs.Common.{◌≡◌, ℕ, List, [], ◌++◌, Option, Some, inl, inr, sym, ap, subst, ◌∙◌, arith}
use Rattle.bt_base.specs.Streams.{gained}
use Rattle.capture.specs.Entries.{Entry, capture_octets}
use Rattle.push_terms.specs.declared.word.Side.TheVariants.{A}
use Rattle.room_laws.specs.world_model.specs.Machines.{Upper}
use Rattle.room_laws.specs.world_model.specs.Stations.{Station, first_station}
use Rattle.room_laws.specs.world_model.specs.Worlds.{World, Runs, all_entries, first_world}
use Rattle.room_laws.specs.turn_laws.specs.WorldLaws.{Fits}
use Rattle.room_laws.specs.air_laws.proofs.Crowding.{crowds_are_told}
use Rattle.radio_world.specs.Hosts.{answering}
use Rattle.radio_world.specs.Scenes.{Scene, first_scene, moment, world_at, moment_of, Stage}
use Rattle.radio_world.specs.Standing.{starting}
use Rattle.radio_world.specs.Crowds.{IsNew, OverrunsAreCrowded, WantsAreTold}
use Rattle.radio_world.specs.Shortages.{ShelfLacked, InboxLacked, AirCrowded, WordsFull}
use Rattle.radio_world.proofs.Runs.{scripts_are_counted}
use Rattle.capture.specs.Air.{words_of}
use Rattle.radio_world.proofs.Starting.{orderly_from, runs_from}
use Rattle.radio_world.proofs.Standing.{runs_of}

first_is :
    {S T G H P Q : Type 0} (U : Upper S G) (V : Upper T H) (size count : ℕ) (names : List (List ℕ)) (s : S) (t : T) (at : Stage S T G H P Q) (rest_a : List G) (rest_b : List H) → IsNew U V size count names s t at
    → world_at (moment_of at rest_a rest_b) ≡ first_world (starting s U) (starting t V) size count names
first_is {S} {T} U V size count names s t at rest_a rest_b new =
    ap (λ (scene : Scene). world_at (moment scene (answering rest_a at.a) (answering rest_b at.b))) new.scene_is
    ∙ ap (λ (one : Station S). world_at (moment (first_scene size count names) one (answering rest_b at.b))) (new.fresh_a rest_a)
    ∙ ap (λ (other : Station T). world_at (moment (first_scene size count names) (first_station (starting s U) A) other)) (new.fresh_b rest_b)

pub overruns_are_crowded : {S T G H P Q : Type 0} (U : Upper S G) (V : Upper T H) (RA : P → List G → P → Type 0) (RB : Q → List H → Q → Type 0) → OverrunsAreCrowded U V RA RB
overruns_are_crowded {S} {T} {G} {H} U V RA RB hosts size count names s t words old shelf inbox trace orderly sized new over tells =
    let advances = over.advances in
    let began = orderly_from U V s t new.idle orderly in
    let fits : Fits (starting s U) (starting t V) size = record { long = sized.0; frames_a = began.frames_a; frames_b = began.frames_b; idles = began.idles } in
    let last = moment_of over.new [] [] in
    let runs = runs_from U V s t advances.happenings (world_at (moment_of old (advances.used_a ++ []) (advances.used_b ++ []))) (world_at last)
    (runs_of U V advances.happenings (moment_of old (advances.used_a ++ []) (advances.used_b ++ [])) last (advances.plays [] [])) in
    let from_first = subst (λ (w : World S T). Runs (starting s U) (starting t V) advances.happenings w (world_at last)) (first_is U V size count names s t old (advances.used_a ++ []) (advances.used_b ++ []) new) runs in
    (crowds_are_told (starting s U) (starting t V) hosts size count names advances.happenings (world_at last) fits from_first tells over.crowded, sym over.trace_is ∙ advances.written)

-- ---- all causes

from_told : (before octets more : List ℕ) (trace : Option (List ℕ)) → trace ≡ Some before → Some octets ≡ gained trace more → octets ≡ before ++ more
from_told before octets more trace told is =
    let now : Some octets ≡ gained (Some before) more = is ∙ ap (λ (t : Option (List ℕ)). gained t more) told in
    cc

pub wants_are_told : {S T G H P Q : Type 0} (U : Upper S G) (V : Upper T H) (RA : P → List G → P → Type 0) (RB : Q → List H → Q → Type 0) (LA : P → P → Type 0) (LB : Q → Q → Type 0) → WantsAreTold U V RA RB LA LB
wants_are_told U V RA RB LA LB hosts size count names s t script old shelf inbox before octets orderly sized new are few told tells (ShelfLacked lacked) = inl (inl lacked)
wants_are_told U V RA RB LA LB hosts size count names s t script old shelf inbox before octets orderly sized new are few told tells (InboxLacked lacked) = inl (inr lacked)
wants_are_told U V RA RB LA LB hosts size count names s t script old shelf inbox before octets orderly sized new are few told tells (AirCrowded over) =
    let crowded = overruns_are_crowded U V RA RB hosts size count names s t (words_of script) old shelf inbox (Some octets) orderly sized new over (tells over.advances.happenings) in
    let entries : List Entry = all_entries over.advances.happenings in
    inr (entries, from_told before octets (capture_octets entries) old.trace told crowded.1, crowded.0)
wants_are_told U V RA RB LA LB hosts size count names s t script old shelf inbox before octets orderly sized new are few told tells (WordsFull full) =
    let none = ap (λ (scene : Scene). scene.turned) new.scene_is in
    let words = scripts_are_counted script are few in
    absurd (omega arith)
