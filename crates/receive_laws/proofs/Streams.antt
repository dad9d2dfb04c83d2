-- A stream is a run of the server that hears it.
use Rattle.std.proofs.Common.{List, [], sym, subst}
use Rattle.std.proofs.lemmas.List.{append-nil}
use Rattle.noting_laws.specs.push_laws.specs.Premises.{AllGranted}
use Rattle.receiving.specs.host_model.specs.Circumstances.{Circumstance, answers_in}
use Rattle.noting_laws.specs.scenario_laws.specs.Gains.{holding}
use Rattle.receiving.specs.bt_host.specs.NotedHosts.{noted_server}
use Rattle.receiving.specs.Turns.{answers_along}
use Rattle.receive_laws.specs.Streams.{new_server, StreamsAreRuns}
use Rattle.receive_laws.proofs.Alike.{holds_alike}
use Rattle.receive_laws.proofs.Deeds.{lined}
use Rattle.receive_laws.proofs.Reaching.{stands_first, stands_behind}

-- the whole run, from before its first command
pub streams_are_runs : StreamsAreRuns
streams_are_runs settings before turns last runs each in_turn =
    let used = answers_along (noted_server settings) turns (new_server settings before).posture last runs in
    let whole = (stands_behind settings before [] turns [] (new_server settings before).posture last runs (stands_first settings before used) each in_turn).reached in
    record {
      occasions = whole.occasions;
      now = lined (last.stands []).line whole.after;
      did = whole.runs;
      moves = whole.moves;
      inbox_is = holds_alike settings (holding before) (last.stands []).host whole.after whole.alike;
      untimed = whole.untimed;
      granted = λ granting. (whole.granting (subst (λ (all : List Circumstance). AllGranted (answers_in all)) (sym (append-nil used)) granting)).0;
    }
