-- The credits of no host ran out in a scenario that was played.
use Rattle.std.proofs.Common.{◌++◌}
use Rattle.noting_laws.specs.world_model.specs.Worlds.{all_entries, all_words}
use Rattle.credit_laws.specs.request_laws.proofs.Scripts.{scripts_lose_nothing}
use Rattle.credit_laws.proofs.Staying.{runs-stay_solvent}
use Rattle.scenario_play.specs.Solvent.{PlaysStaySolvent}
use Rattle.scenario_play.proofs.Streamed.{loses_nothing}

pub plays_stay_solvent : PlaysStaySolvent
plays_stay_solvent = record {
  plays = λ scenario shelf before after trace trace' outcomes peaks counts counts' played side.
      runs-stay_solvent scenario shelf before played.capture side played.finished.ran played.enough (λ muxed. loses_nothing scenario before played.capture muxed played.finished);
  breaks = λ scenario shelf before after trace trace' counts counts' broken side.
      runs-stay_solvent scenario shelf before (all_entries broken.happenings ++ broken.next) side broken.ran broken.enough.1
      (λ muxed. scripts_lose_nothing scenario (all_words broken.ran.happenings) broken.later muxed broken.words_are);
}
