-- The packets that a server heard over each transport since the channel there was last closed (IrOBEX 1.5, 2.2;
-- RFCOMM 1.2, 5). They are read off what came and went alone.
use Rattle.std.specs.Prelude.{ℕ, ◌==◌, Bool, true, false, List, [], ◌∷◌, ◌++◌, Option, Some, None, if◌then◌else◌}
use Rattle.std.specs.List.{filter_map}
use Rattle.link_talk.specs.bt_base.specs.declared.settings.Transport.{Transport}
use Rattle.link_talk.specs.bt_base.specs.declared.settings.Transport.TheVariants.{L2cap, Rfcomm}
use Rattle.push_model.specs.rfcomm_frames.specs.declared.connection.Role.{Role}
use Rattle.push_model.specs.rfcomm_frames.specs.declared.connection.Role.TheVariants.{Initiator, Responder}
use Rattle.push_model.specs.rfcomm_frames.specs.Multiplexing.{Passed}
use Rattle.push_model.specs.rfcomm_frames.specs.UserChannel.{user_octets}
use Rattle.push_model.specs.rfcomm_frames.specs.ObexPackets.{obex_packets}
use Rattle.push_model.specs.Server.{object_psm, rfcomm_psm}
use Rattle.push_laws.specs.Occurrences.{Occurrence, Came, Went, Closed, LinkDown, Asked, Answering}

-- ---- since the last closing

abbrev pub closes : ℕ → Occurrence → Bool
closes psm (Came at sdu) = false
closes psm (Went at sdu) = false
closes psm (Closed at) = at == psm
closes psm LinkDown = true
closes psm Asked = false
closes psm (Answering answers) = false

abbrev pub since_from : ℕ → List Occurrence → List Occurrence → List Occurrence
since_from psm kept [] = kept
since_from psm kept (one ∷ rest) = since_from psm (if closes psm one then [] else kept ++ one ∷ []) rest

-- what stands behind the last closing of a channel to a PSM
abbrev pub since : ℕ → List Occurrence → List Occurrence
since psm past = since_from psm [] past

-- ---- over L2CAP each SDU is a packet

abbrev pub came_on : ℕ → Occurrence → Option (List ℕ)
came_on psm (Came at sdu) = if at == psm then Some sdu else None
came_on psm (Went at sdu) = None
came_on psm (Closed at) = None
came_on psm LinkDown = None
came_on psm Asked = None
came_on psm (Answering answers) = None

-- ---- over RFCOMM they stand one behind the other on the user channel of server channel 9, whose DLCI is 18

abbrev pub passing : ℕ → Role → List ℕ → Option Passed
passing at from sdu = if at == rfcomm_psm then Some (record { from = from; sdu = sdu }) else None

-- the client opened the multiplexer
abbrev pub passed_by : Occurrence → Option Passed
passed_by (Came at sdu) = passing at Initiator sdu
passed_by (Went at sdu) = passing at Responder sdu
passed_by (Closed at) = None
passed_by LinkDown = None
passed_by Asked = None
passed_by (Answering answers) = None

abbrev pub user_dlci : ℕ
user_dlci = 18

abbrev pub octets_heard : List Occurrence → List ℕ
octets_heard past = user_octets user_dlci Responder Initiator (filter_map passed_by (since rfcomm_psm past))

-- ---- both

abbrev pub packets_over : Transport → List Occurrence → List (List ℕ)
packets_over L2cap past = filter_map (came_on object_psm) (since object_psm past)
packets_over Rfcomm past = obex_packets (octets_heard past)
