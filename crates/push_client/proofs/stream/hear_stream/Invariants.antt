use Rattle.std.proofs.Common.{◌++◌, length}
use Rattle.push_client.specs.Talking.{Suits}
use Rattle.push_client.proofs.StreamLaws.{IsLeft}
use Rattle.push_client.proofs.stream.hear_stream.Given as goal

-- what is left of the stream brings the client to where all of it does
abbrev pub invariant-loop-used : goal.invariant-loop-used
invariant-loop-used l = record {
  left : IsLeft (l.initial.assembler.held ++ l.octets) (l.assembler.held ++ l.rest) l.initial.assembler.held l.assembler.held l.initial.dialog l.dialog;
  suits : Suits l.assembler l.dialog;
}

abbrev pub decreases-loop-used : goal.decreases-loop-used
decreases-loop-used l = length l.rest
