use Rattle.std.proofs.Common.{◌≡◌, ◌++◌, List, length}
use Rattle.std.specs.List.{AllByRecursion}
use Rattle.obex_headers.specs.Packets.{PlainHeader, IsHeader, headers_octets}
use Rattle.obex_headers.specs.Reader.{plain_headers}
use Rattle.obex_headers.proofs.ReaderLaws.{IsLeft}
use Rattle.obex_headers.proofs.runs.go_on.Given as goal

abbrev pub invariant-loop-header : goal.invariant-loop-header
invariant-loop-header l = (headers : List PlainHeader) → AllByRecursion IsHeader headers → l.packet.headers.now ≡ headers_octets headers → IsLeft l.left (plain_headers l.run.items) (plain_headers l.initial.run.items ++ headers)

abbrev pub decreases-loop-header : goal.decreases-loop-header
decreases-loop-header l = length l.left
