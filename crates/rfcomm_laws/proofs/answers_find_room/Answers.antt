use Rattle.rfcomm_laws.proofs.Rooms.{frames-find_room, sdus-find_room}
use Rattle.rfcomm_laws.proofs.answers_find_room.Goals as goal

pub returns-clause-frames : goal.returns-clause-frames
returns-clause-frames c = frames-find_room

pub returns-clause-sdus : goal.returns-clause-sdus
returns-clause-sdus c = sdus-find_room
