use Rattle.std.proofs.Common.{◌≡◌, length, List}
use Rattle.obex_headers.specs.Packets.{PlainHeader}
use Rattle.obex_headers.specs.Reading.{headers_in}
use Rattle.obex_headers.proofs.HeaderLaws.{behind}
use Rattle.obex_headers.proofs.reading.judge_headers.Given as goal

abbrev pub invariant-loop-rest : goal.invariant-loop-rest
invariant-loop-rest l = (front : List PlainHeader) × (headers_in l.octets ≡ behind front (headers_in l.rest))

abbrev pub decreases-loop-rest : goal.decreases-loop-rest
decreases-loop-rest l = length l.rest
