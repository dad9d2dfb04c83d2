-- How far the multiplexer of a link is, and what it brought into its host that is no whole packet yet, as values.
use Rattle.std.specs.Prelude.{[]}
use Rattle.rfcomm_frames.specs.Frames.{plain}
use Rattle.rfcomm_frames.specs.Multiplexing.{Framed, Connections}
use Rattle.rfcomm_frames.specs.Ending.{Course}
use Rattle.link_readers.specs.talk_laws.specs.Packets.{Streams}
use Rattle.object_lines.specs.declared.course.Connections.{Connections as LentConnections}
use Rattle.object_lines.specs.declared.course.Course.{Course as LentCourse}
use Rattle.object_lines.specs.declared.course.Framed.{Framed as LentFramed}
use Rattle.object_lines.specs.declared.streams.Streams.{Streams as LentStreams}

abbrev pub plain_connections : LentConnections → Connections
plain_connections now = record { control = now.control; user = now.user }

abbrev pub plain_course : LentCourse → Course
plain_course course = record { lines = plain_connections course.connections; closing = course.closing }

abbrev pub plain_framed : LentFramed → Framed
plain_framed f = record { from = f.from; frame = plain f.frame }

-- of what goes out nothing is held
abbrev pub plain_streams : LentStreams → Streams
plain_streams streams = record { course = plain_course streams.course; closed = streams.closed; out_ = []; into = streams.into.items }
