-- The octets of what a host gives: commands, SDUs and frames (Core 5.1, Volume 3 Part A, 3.1, 3.3 and 4; TS 07.10, 5.2.1).
use Rattle.std.specs.Prelude.{ℕ, ◌+◌, ◌*◌, ◌==◌, ◌&&◌, nat_lt, nat_le, Bool, true, false, List, [], ◌∷◌, ◌++◌, length}
use Rattle.rest_laws.specs.bt_base.specs.Octets.{le16}
use Rattle.push_model.specs.check_words.specs.CheckWords.{l2cap_check, rfcomm_check}
use Rattle.rest_laws.specs.acl_fragments.specs.Pieces.{pdu_length}
use Rattle.channel_model.specs.l2cap_signal.specs.Commands.{spelling}
use Rattle.channel_model.specs.ertm_frames.specs.Frames.{PlainFrame, control_of, body_of, covered}
use Rattle.push_model.specs.rfcomm_frames.specs.Lengths.{shortest}
use Rattle.push_model.specs.rfcomm_frames.specs.Frames as mux
use Rattle.channel_model.specs.Giving.{Given, Signal, Whole, Framed, headed}
use Rattle.push_model.specs.Payloads as payloads
use Rattle.push_model.specs.Payloads.{Payload}
use Rattle.rest_laws.specs.world_model.specs.Stations.{longest_pdu}

-- the number of bits, the lowest first
unfoldable pub number_of : List Bool → ℕ
number_of [] = 0
number_of (true ∷ bits) = 1 + 2 * number_of bits
number_of (false ∷ bits) = 2 * number_of bits

-- octets with their check word behind them
abbrev pub checked : List ℕ → List ℕ
checked octets = octets ++ le16 (number_of (l2cap_check octets))

abbrev pub frame_octets : (peer : ℕ) → PlainFrame → List ℕ
frame_octets peer frame = checked (covered peer (control_of frame) (body_of frame))

abbrev pub pdu_of : Given → List ℕ
pdu_of (Signal command) = headed 0x0001 (spelling command)
pdu_of (Whole peer sdu) = headed peer sdu
pdu_of (Framed peer frame) = frame_octets peer frame

-- a frame of the multiplexer in the shortest form, with its check word
abbrev pub mux_octets : mux.PlainFrame → List ℕ
mux_octets frame = mux.unchecked frame ++ number_of (rfcomm_check (mux.covered (shortest (length frame.octets)) frame)) ∷ []

abbrev pub sdu_of : Payload → List ℕ
sdu_of (payloads.Octets octets) = octets
sdu_of (payloads.Framed frame) = mux_octets frame

-- each member is an octet
abbrev pub are_octets : List ℕ → Bool
are_octets [] = true
are_octets (x ∷ xs) = nat_lt x 256 && are_octets xs

-- a PDU of octets that says its own length, and that hosts take
abbrev pub is_frame : List ℕ → Bool
is_frame pdu = are_octets pdu && (nat_le 4 (length pdu) && ((pdu_length pdu == length pdu) && nat_le (length pdu) longest_pdu))
