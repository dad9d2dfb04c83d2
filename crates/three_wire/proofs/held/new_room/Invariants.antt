use Rattle.std.proofs.Common.{◌≡◌, All, vec_len}
use Rattle.three_wire.specs.Held.{HasRoom}
use Rattle.three_wire.proofs.held.new_room.Given as goal

abbrev pub invariant-loop : goal.invariant-loop
invariant-loop l = record { count : vec_len l.rooms ≡ l.counter; room : All HasRoom l.rooms.items }
