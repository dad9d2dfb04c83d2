use Rattle.std.proofs.Common.{◌≡◌, take}
use Rattle.capture.specs.Histories.{given_by}
use Rattle.capture.specs.Pdus.{completed}
use Rattle.capture.specs.Lent.{plain_moves}
use Rattle.capture.specs.ReadPdus.{plain_pdus, Holds}
use Rattle.capture.proofs.readers.completing.pdus.Given as goal

abbrev pub invariant-loop-moved : goal.invariant-loop-moved
invariant-loop-moved l =
    (plain_pdus l.found.items ≡ given_by (completed l.link.handle) (plain_moves (take l.moved-index l.link.moves.items)))
    × Holds l.link.handle (plain_moves (take l.moved-index l.link.moves.items)) l.joiners
