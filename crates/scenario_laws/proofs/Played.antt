-- A world in code that plays a scenario runs as both hosts of the scenario do.
use Rattle.std.proofs.Common.{◌≡◌, Bool, true, false, cond, [], ◌∷◌, Option, unwrap_or, refl, ap, subst}
use Rattle.radio_world.specs.push_terms.specs.declared.outcome.Outcome.{Outcome}
use Rattle.radio_world.specs.push_terms.specs.declared.outcome.Outcome.TheVariants.{ScriptEnded}
use Rattle.radio_world.specs.capture.specs.Entries.{Ended}
use Rattle.host_laws.specs.world_model.specs.Machines.{Upper}
use Rattle.host_laws.specs.world_model.specs.Pushes.{Pushes}
use Rattle.host_laws.specs.world_model.specs.Worlds.{World, Runs, IsAtRest}
use Rattle.host_laws.specs.air_laws.specs.AirLaws.{IsLastEnd}
use Rattle.radio_world.specs.run_laws.specs.Embedding.{world_as}
use Rattle.radio_world.specs.run_laws.proofs.Embedding.{runs_are_of_less, rest_is_of_less}
use Rattle.radio_world.specs.Hosts.{answering}
use Rattle.radio_world.specs.Scenes.{moment, world_at}
use Rattle.radio_world.specs.Standing.{last_entries}
use Rattle.radio_world.proofs.Standing.{runs_of, at_rest}
use Rattle.host_laws.specs.host_model.specs.Circumstances.{Circumstance}
use Rattle.scenario_laws.specs.Captures.{client_of, server_of, beginning}
use Rattle.scenario_laws.specs.Played.{fresh_moment, CallsArePlayed, PlaysAreFinished}

pub calls_are_played : {S T : Type 0} (U : Upper S Circumstance) (V : Upper T Circumstance) → CallsArePlayed U V
calls_are_played U V scenario content as_a as_b happenings at hosts plays =
    let runs : Runs U V happenings (world_as as_a as_b (beginning scenario content)) (world_at at) = runs_of U V happenings (fresh_moment scenario content U V as_a as_b) at plays in
    let (world, same, happened) = runs_are_of_less as_a as_b (client_of scenario) U (server_of scenario content) V hosts.a hosts.b happenings (beginning scenario content) (world_at at) runs in
    record { world = world; happened = happened; world_is = same }

pub last_is : (came : Option Outcome) (pushes : Pushes) → IsLastEnd pushes (last_entries came pushes)
last_is came pushes = by pushes.going refl
  where
    by : (going : Bool) → pushes.going ≡ going → IsLastEnd pushes (cond going (Ended pushes.begun (unwrap_or came ScriptEnded) ∷ []) [])
    by true is = (is, refl)
    by false is = tt

pub plays_are_finished : {S T : Type 0} (U : Upper S Circumstance) (V : Upper T Circumstance) → PlaysAreFinished U V
plays_are_finished {S} {T} U V scenario content as_a as_b happenings came scene a b rest_a rest_b hosts stands words played =
    let rests : IsAtRest U V (world_at (moment scene (answering rest_a a) (answering rest_b b))) = at_rest U V scene a b hosts.orderly stands rest_a rest_b in
    let rests_so : IsAtRest U V (world_as as_a as_b played.world) = subst (λ (w : World S T). IsAtRest U V w) played.world_is rests in
    let pushes_are : scene.pushes ≡ played.world.pushes = ap (λ (w : World S T). w.pushes) played.world_is in
    let ends = last_entries came scene.pushes in
    record {
      finished = record {
        ran = record {
          happenings = happenings;
          world = played.world;
          happened = played.happened;
          ends = ends;
          last = subst (λ (p : Pushes). IsLastEnd p ends) pushes_are (last_is came scene.pushes);
          capture_is = refl;
        };
        words_are = words;
        rests = rest_is_of_less as_a as_b (client_of scenario) U (server_of scenario content) V hosts.a hosts.b played.world rests_so;
      };
      world_is = refl;
    }
