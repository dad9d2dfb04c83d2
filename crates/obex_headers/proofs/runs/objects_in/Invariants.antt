use Rattle.obex_headers.specs.Reader.{plain_headers, objects_seen}
use Rattle.obex_headers.proofs.ReaderLaws.{SoFar}
use Rattle.obex_headers.proofs.runs.objects_in.Given as goal

abbrev pub invariant-loop-packet : goal.invariant-loop-packet
invariant-loop-packet l = SoFar l.packets l.packet-index (plain_headers l.run.items) (objects_seen l.objects.items)
