use Rattle.scenario_play.proofs.PeakBounds.{peaks_are_bounded}
use Rattle.scenario_play.proofs.ending.peaks_are_bounded.Goals as goal

pub returns : goal.returns
returns c = peaks_are_bounded
