-- What a reader holds of what matters, as values.
use Rattle.std.specs.Prelude.{ℕ, List}
use Rattle.capture.specs.declared.flow.Flow.{Flow}
use Rattle.link_talk.specs.Carriages.{Carriage}
use Rattle.object_lines.specs.declared.matter.Matter.{Matter as LentMatter}
use Rattle.object_lines.specs.Ears.{plain_ear}
use Rattle.object_lines.specs.Streams.{plain_streams}
use Rattle.object_lines.specs.Tallies.{plain_tally}
use Rattle.object_lines.specs.Matters.{Matter}

abbrev pub plain_matter : LentMatter → Matter
plain_matter matter =
    record {
      ears = record { out_ = plain_ear matter.out; into = plain_ear matter.into };
      streams = plain_streams matter.streams;
      tally = plain_tally matter.tally;
    }

abbrev pub carriage : Flow → List ℕ → Carriage
carriage flow pdu = record { flow = flow; pdu = pdu }
