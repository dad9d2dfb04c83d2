use Rattle.std.proofs.Common.{ap}
use Rattle.link_readers.specs.talk_laws.specs.Sdus.{Ears}
use Rattle.object_lines.specs.Matters.{Matter}
use Rattle.object_lines.specs.Matter.{plain_matter}
use Rattle.object_lines.proofs.Mattering.{out_ears}
use Rattle.object_lines.proofs.matter.Matter.take.Goals as goal

pub returns-in_ok-sdu-in-Out-clause-matter : goal.returns-in_ok-sdu-in-Out-clause-matter
returns-in_ok-sdu-in-Out-clause-matter c =
    let old = plain_matter c.args.self.now in
    ap (λ (ears : Ears). let now : Matter = record { ears = ears; streams = old.streams; tally = old.tally } in now) (out_ears c.args.party.now old.ears _ c.args.flow c.args.pdu.now c.in-Out.is c.in_ok-sdu-in-Out.ensures.ear)
