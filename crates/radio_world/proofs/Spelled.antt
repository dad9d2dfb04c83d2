-- What is written are entries: each of them has octets.
use Rattle.std.proofs.Common.{◌≡◌, List, [], ◌∷◌, ◌++◌, subst, sym, arith}
use Rattle.std.specs.List.{AllByRecursion}
use Rattle.h4_framing.specs.Packets.{Packet, Command, Acl, Sync, Event, IsPacket}
use Rattle.push_terms.specs.declared.word.Side.{Side}
use Rattle.capture.specs.declared.flow.Flow.{Flow}
use Rattle.capture.specs.declared.flow.Flow.TheVariants.{Out}
use Rattle.capture.specs.Entries.{Entry, Moved, IsEntry}
use Rattle.room_laws.specs.world_model.specs.Stations.{Order, order_packet}
use Rattle.radio_world.specs.Hosts.{acl_limit, AreSent}
use Rattle.radio_world.specs.Leaving.{leaving_entries}

abbrev pub AreEntries : List Entry → Type 0
AreEntries entries = AllByRecursion IsEntry entries

pub packet_is_entry : (side : Side) (flow : Flow) (p : Packet) → IsPacket acl_limit p → IsEntry (Moved side flow p)
packet_is_entry side flow (Command opcode params) is = (is, let short = is.1 in omega arith)
packet_is_entry side flow (Acl word octets) is = let short = is.2 in ((is.0, is.1, omega arith, is.3), omega arith)
packet_is_entry side flow (Sync word octets) is = (is, let short = is.1 in omega arith)
packet_is_entry side flow (Event code params) is = (is, let short = is.1 in omega arith)

pub sent_are_entries : (side : Side) (orders : List Order) → AreSent side orders → AreEntries (leaving_entries side orders)
sent_are_entries side [] sent = tt
sent_are_entries side (order ∷ orders) sent = (packet_is_entry side Out (order_packet side order) sent.0.packet, sent_are_entries side orders sent.1)

-- ---- lists of them

pub each_of_both : (xs ys : List Entry) → AreEntries xs → AreEntries ys → AreEntries (xs ++ ys)
each_of_both [] ys first second = second
each_of_both (x ∷ xs) ys first second = (first.0, each_of_both xs ys first.1 second)

pub each_of_same : (xs ys : List Entry) → xs ≡ ys → AreEntries ys → AreEntries xs
each_of_same xs ys same each = subst AreEntries (sym same) each

pub each_then : (xs ys both : List Entry) → both ≡ xs ++ ys → AreEntries xs → AreEntries ys → AreEntries both
each_then xs ys both are first second = each_of_same both (xs ++ ys) are (each_of_both xs ys first second)

pub sent_first : (side : Side) (xs ys : List Order) → AreSent side (xs ++ ys) → AreSent side xs
sent_first side [] ys sent = tt
sent_first side (x ∷ xs) ys sent = (sent.0, sent_first side xs ys sent.1)

pub each_first : (xs ys : List Entry) → AreEntries (xs ++ ys) → AreEntries xs
each_first [] ys each = tt
each_first (x ∷ xs) ys each = (each.0, each_first xs ys each.1)

pub each_last : (xs : List Entry) (y : Entry) → AreEntries (xs ++ y ∷ []) → IsEntry y
each_last [] y each = each.0
each_last (x ∷ xs) y each = each_last xs y each.1
