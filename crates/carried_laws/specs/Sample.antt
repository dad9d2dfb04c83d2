-- A push over RFCOMM, octet for octet: an example of what comes in order (TS 07.10, 5.2 and 5.4; RFCOMM 1.2, 5 and 6.5; IrOBEX 1.5, 3.1 and 3.2).
use Rattle.std.specs.Prelude.{ℕ, ◌≡◌, List, [], ◌∷◌}
use Rattle.push_laws.specs.link_talk.specs.bt_base.specs.declared.settings.Settings.{Settings}
use Rattle.push_laws.specs.push_model.specs.rfcomm_frames.specs.declared.connection.Role.TheVariants.{Initiator, Responder}
use Rattle.push_laws.specs.push_model.specs.rfcomm_frames.specs.Multiplexing.{Passed}
use Rattle.carried_laws.specs.Orderly.{IsInOrder}

abbrev pub client_says : List ℕ → Passed
client_says octets = record { from = Initiator; sdu = octets }

abbrev pub server_says : List ℕ → Passed
server_says octets = record { from = Responder; sdu = octets }

-- SABM on DLCI 0, and UA
abbrev pub sabm_control : Passed
sabm_control = client_says (0x03 ∷ 0x3f ∷ 0x01 ∷ 0x1c ∷ [])

abbrev pub ua_control : Passed
ua_control = server_says (0x03 ∷ 0x73 ∷ 0x01 ∷ 0xd7 ∷ [])

-- PN for DLCI 18: frames of 127 octets, and 7 credits
abbrev pub pn_command : Passed
pn_command = client_says (0x03 ∷ 0xef ∷ 0x15 ∷ 0x83 ∷ 0x11 ∷ 0x12 ∷ 0xf0 ∷ 0x00 ∷ 0x00 ∷ 0x7f ∷ 0x00 ∷ 0x00 ∷ 0x07 ∷ 0x70 ∷ [])

abbrev pub pn_response : Passed
pn_response = server_says (0x01 ∷ 0xef ∷ 0x15 ∷ 0x81 ∷ 0x11 ∷ 0x12 ∷ 0xe0 ∷ 0x00 ∷ 0x00 ∷ 0x7f ∷ 0x00 ∷ 0x00 ∷ 0x07 ∷ 0xaa ∷ [])

-- SABM on DLCI 18, and UA
abbrev pub sabm_user : Passed
sabm_user = client_says (0x4b ∷ 0x3f ∷ 0x01 ∷ 0x32 ∷ [])

abbrev pub ua_user : Passed
ua_user = server_says (0x4b ∷ 0x73 ∷ 0x01 ∷ 0xf9 ∷ [])

-- MSC of either side
abbrev pub msc_command : Passed
msc_command = client_says (0x03 ∷ 0xef ∷ 0x09 ∷ 0xe3 ∷ 0x05 ∷ 0x4b ∷ 0x8d ∷ 0x70 ∷ [])

abbrev pub msc_response : Passed
msc_response = server_says (0x01 ∷ 0xef ∷ 0x09 ∷ 0xe1 ∷ 0x05 ∷ 0x4b ∷ 0x8d ∷ 0xaa ∷ [])

abbrev pub server_command : Passed
server_command = server_says (0x01 ∷ 0xef ∷ 0x09 ∷ 0xe3 ∷ 0x05 ∷ 0x4b ∷ 0x8d ∷ 0xaa ∷ [])

abbrev pub client_response : Passed
client_response = client_says (0x03 ∷ 0xef ∷ 0x09 ∷ 0xe1 ∷ 0x05 ∷ 0x4b ∷ 0x8d ∷ 0x70 ∷ [])

-- CONNECT, and its response
abbrev pub connect : Passed
connect = client_says (0x4b ∷ 0xef ∷ 0x0f ∷ 0x80 ∷ 0x00 ∷ 0x07 ∷ 0x10 ∷ 0x00 ∷ 0x04 ∷ 0x00 ∷ 0xce ∷ [])

abbrev pub connected : Passed
connected = server_says (0x49 ∷ 0xef ∷ 0x0f ∷ 0xa0 ∷ 0x00 ∷ 0x07 ∷ 0x10 ∷ 0x00 ∷ 0x04 ∷ 0x00 ∷ 0x14 ∷ [])

-- one PUT, of the octet 0x78 with the name a, and its response
abbrev pub put : Passed
put = client_says (0x4b ∷ 0xef ∷ 0x1d ∷ 0x82 ∷ 0x00 ∷ 0x0e ∷ 0x01 ∷ 0x00 ∷ 0x07 ∷ 0x00 ∷ 0x61 ∷ 0x00 ∷ 0x00 ∷ 0x49 ∷ 0x00 ∷ 0x04 ∷ 0x78 ∷ 0xce ∷ [])

abbrev pub stored : Passed
stored = server_says (0x49 ∷ 0xef ∷ 0x07 ∷ 0xa0 ∷ 0x00 ∷ 0x03 ∷ 0x14 ∷ [])

-- TEST with the octets 0x61 and 0x62, and its response
abbrev pub test_command : Passed
test_command = client_says (0x03 ∷ 0xef ∷ 0x09 ∷ 0x23 ∷ 0x05 ∷ 0x61 ∷ 0x62 ∷ 0x70 ∷ [])

abbrev pub test_response : Passed
test_response = server_says (0x01 ∷ 0xef ∷ 0x09 ∷ 0x21 ∷ 0x05 ∷ 0x61 ∷ 0x62 ∷ 0xaa ∷ [])

-- PN for DLCI 20, and DM there
abbrev pub pn_elsewhere : Passed
pn_elsewhere = client_says (0x03 ∷ 0xef ∷ 0x15 ∷ 0x83 ∷ 0x11 ∷ 0x14 ∷ 0x00 ∷ 0x00 ∷ 0x00 ∷ 0x7f ∷ 0x00 ∷ 0x00 ∷ 0x00 ∷ 0x70 ∷ [])

abbrev pub dm_elsewhere : Passed
dm_elsewhere = server_says (0x53 ∷ 0x1f ∷ 0x01 ∷ 0xd7 ∷ [])

-- DISC on DLCI 18; UA is that of SABM again
abbrev pub disc_user : Passed
disc_user = client_says (0x4b ∷ 0x53 ∷ 0x01 ∷ 0xd3 ∷ [])

abbrev pub push : List Passed
push =
    sabm_control ∷ ua_control ∷ pn_command ∷ pn_response ∷ sabm_user ∷ ua_user ∷ msc_command ∷ msc_response ∷ server_command ∷ client_response ∷ connect ∷ connected ∷ put ∷ stored ∷ test_command ∷ test_response ∷ pn_elsewhere ∷ dm_elsewhere ∷ disc_user
    ∷ ua_user ∷ []

-- It is in order, where the server takes packets of 1,024 octets.
abbrev pub APushIsInOrder : Type 0
APushIsInOrder = (settings : Settings) → settings.obex ≡ 1024 → IsInOrder settings push
