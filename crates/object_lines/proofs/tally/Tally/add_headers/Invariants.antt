use Rattle.std.proofs.Common.{◌≡◌, List, length}
use Rattle.std.specs.List.{AllByRecursion}
use Rattle.obex_headers.specs.Packets.{PlainHeader, IsHeader, headers_octets}
use Rattle.object_lines.specs.Tallies.{plain_tally}
use Rattle.object_lines.proofs.Tallying.{IsCounted}
use Rattle.object_lines.proofs.tally.Tally.add_headers.Given as goal

abbrev pub invariant-loop-header : goal.invariant-loop-header
invariant-loop-header l =
    (headers : List PlainHeader) → AllByRecursion IsHeader headers → l.packet.headers.now ≡ headers_octets headers → IsCounted (plain_tally l.initial.self) l.left (plain_tally l.self) headers

abbrev pub decreases-loop-header : goal.decreases-loop-header
decreases-loop-header l = length l.left
