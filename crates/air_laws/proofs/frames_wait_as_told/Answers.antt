use Rattle.air_laws.proofs.Crowding.{frames_are_told, crowds_are_told}
use Rattle.air_laws.proofs.frames_wait_as_told.Goals as goal

pub returns-clause-frames : goal.returns-clause-frames
returns-clause-frames g c U V = frames_are_told U V

pub returns-clause-crowds : goal.returns-clause-crowds
returns-clause-crowds g c U V = crowds_are_told U V
