use Rattle.room_laws.proofs.Rooming.{few_are_owed, room_is_left}
use Rattle.room_laws.proofs.room_is_left.Goals as goal

pub returns-clause-few : goal.returns-clause-few
returns-clause-few g c U V = few_are_owed U V

pub returns-clause-room : goal.returns-clause-room
returns-clause-room g c U V = room_is_left U V
