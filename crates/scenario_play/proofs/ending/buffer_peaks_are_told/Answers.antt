use Rattle.scenario_play.proofs.BufferPeaks.{buffer_peaks_are_told}
use Rattle.scenario_play.proofs.ending.buffer_peaks_are_told.Goals as goal

pub returns : goal.returns
returns c = buffer_peaks_are_told
