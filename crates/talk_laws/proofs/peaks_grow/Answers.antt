use Rattle.talk_laws.proofs.Peaks.{peaks-grow}
use Rattle.talk_laws.proofs.PeakPass.{peaks-look_back}
use Rattle.talk_laws.proofs.peaks_grow.Goals as goal

pub returns : goal.returns
returns c = record { grow = peaks-grow; back = peaks-look_back }
