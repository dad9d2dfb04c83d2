use Rattle.std.proofs.Common.{◌≡◌, drop, fold}
use Rattle.capture.specs.Links.{after_move, linking}
use Rattle.capture.specs.Lent.{plain_moves}
use Rattle.capture.specs.ReadLinks.{plain_linking}
use Rattle.capture.proofs.readers.linking.linking_of.Given as goal

abbrev pub invariant-loop-packet : goal.invariant-loop-packet
invariant-loop-packet l = fold after_move (plain_linking l.linking) (plain_moves (drop l.packet-index l.moved)) ≡ linking (plain_moves l.moved)
