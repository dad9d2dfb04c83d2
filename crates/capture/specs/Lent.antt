-- What code holds, apart from where its octets lie in memory.
use Rattle.std.specs.Prelude.{List, map}
use Rattle.h4_framing.specs.Packets.{packet}
use Rattle.capture.specs.declared.entry.Entry.{Entry as LentEntry}
use Rattle.capture.specs.declared.entry.Entry.TheVariants as lent
use Rattle.capture.specs.declared.readers.Move.{Move as LentMove}
use Rattle.capture.specs.declared.readers.Link.{Link as LentLink}
use Rattle.capture.specs.declared.readers.Pdu.{Pdu as LentPdu}
use Rattle.capture.specs.Entries.{Entry, Moved, Acted, Begun, Ended}
use Rattle.capture.specs.Moves.{Move}
use Rattle.capture.specs.Links.{Link}
use Rattle.capture.specs.Pdus.{Pdu}

abbrev pub plain_entry : LentEntry → Entry
plain_entry (lent.Moved side flow unit) = Moved side flow (packet unit)
plain_entry (lent.Acted ordinal word) = Acted ordinal word
plain_entry (lent.Begun push) = Begun push
plain_entry (lent.Ended push outcome) = Ended push outcome

abbrev pub plain_entries : List LentEntry → List Entry
plain_entries entries = map plain_entry entries

abbrev pub plain_move : LentMove → Move
plain_move move = record { flow = move.flow; packet = packet move.unit }

abbrev pub plain_moves : List LentMove → List Move
plain_moves moves = map plain_move moves

abbrev pub plain_link : LentLink → Link
plain_link link = record { handle = link.handle; moves = plain_moves link.moves.items }

abbrev pub plain_pdu : LentPdu → Pdu
plain_pdu pdu = record { flow = pdu.flow; octets = pdu.octets.items }
