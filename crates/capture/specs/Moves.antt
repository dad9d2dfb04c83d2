-- What moved between one host and its controller.
use Rattle.std.specs.Prelude.{List, Option, Some, None}
use Rattle.std.specs.List.{filter_map}
use Rattle.h4_framing.specs.Packets.{Packet}
use Rattle.push_terms.specs.declared.word.Side.{Side}
use Rattle.push_terms.specs.declared.word.Side.TheVariants as sides
use Rattle.capture.specs.declared.flow.Flow.{Flow}
use Rattle.capture.specs.Entries.{Entry, Moved}

-- a packet that went out of the host, or came into it
pub record Move : Type 0 where
  pub flow : Flow
  pub packet : Packet

abbrev pub move_of : Side → Entry → Option Move
move_of sides.A (Moved sides.A flow packet) = Some (record { flow = flow; packet = packet })
move_of sides.B (Moved sides.B flow packet) = Some (record { flow = flow; packet = packet })
move_of _ _ = None

-- the packets of one host, in their order
abbrev pub moves : Side → List Entry → List Move
moves side entries = filter_map (move_of side) entries
