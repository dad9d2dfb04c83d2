use Rattle.push_laws.proofs.FramesFit.{frames-fit}
use Rattle.push_laws.proofs.Throughout.{pushed-frames_fit}
use Rattle.push_laws.proofs.laws.frames_find_room.Goals as goal

pub returns-clause-opened : goal.returns-clause-opened
returns-clause-opened c = frames-fit

pub returns-clause-pushed : goal.returns-clause-pushed
returns-clause-pushed c = pushed-frames_fit
