use Rattle.std.proofs.Common.{◌≡◌, ◌-◌, ℕ, List, Option}
use Rattle.h4_framing.specs.Packets.{Packet}
use Rattle.three_wire.specs.Feeding.{HasShape, IsFeeding}
use Rattle.three_wire.proofs.feed.Feed.next.Given as goal

abbrev pub invariant-reading : goal.invariant-reading
invariant-reading g l = record {
  shape : HasShape l.self;
  feeds : (input : Option (List ℕ)) → (packets : List Packet) → IsFeeding input (g.S.Source.content l.initial.source) l.initial.self packets → IsFeeding input (g.S.Source.content l.source) l.self packets;
  faults : g.S.Source.faults l.source ≡ g.S.Source.faults l.initial.source;
  shortages : g.S.Source.shortages l.source ≡ g.S.Source.shortages l.initial.source;
}

abbrev pub decreases-reading : goal.decreases-reading
decreases-reading g l = 67108864 - l.self.fed
