use Rattle.radio_world.proofs.BufferPeaks.{buffer_peaks_are_seen}
use Rattle.radio_world.proofs.laws.buffer_peaks_are_seen.Goals as goal

pub returns : goal.returns
returns g c = buffer_peaks_are_seen g.A.Host.machine g.B.Host.machine
