use Rattle.std.proofs.Common.{length}
use Rattle.h4_view.proofs.Showing.{HasShown}
use Rattle.h4_view.proofs.piece.show_piece.Given as goal

abbrev pub invariant-loop-rest : goal.invariant-loop-rest
invariant-loop-rest l = HasShown l.initial.framer l.framer l.initial.links l.links l.initial.offset l.offset l.initial.text.items l.text.items l.piece l.rest

abbrev pub decreases-loop-rest : goal.decreases-loop-rest
decreases-loop-rest l = length l.rest
