use Rattle.scenario_play.proofs.WindowPeaks.{window_peaks_are_told}
use Rattle.scenario_play.proofs.ending.window_peaks_are_told.Goals as goal

pub returns : goal.returns
returns c = window_peaks_are_told
