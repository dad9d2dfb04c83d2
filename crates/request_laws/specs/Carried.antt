-- What both hosts go through on a link over RFCOMM, as moves of a client and a server whose multiplexers are carried (RFCOMM 1.2, 2.1).
use Rattle.std.specs.Prelude.{ℕ, ◌≡◌, true, List, [], ◌∷◌, ◌++◌, None, Ok}
use Rattle.std.specs.List.{AllByRecursion, flat_map}
use Rattle.pair_laws.specs.bt_base.specs.declared.settings.Transport.TheVariants.{Rfcomm}
use Rattle.pair_laws.specs.rfcomm_frames.specs.FrameReading.{frame_answer}
use Rattle.pair_laws.specs.rfcomm_frames.specs.Frames.{PlainFrame}
use Rattle.pair_laws.specs.push_model.specs.Client.{Client}
use Rattle.pair_laws.specs.push_model.specs.Laws.{Deed, done}
use Rattle.pair_laws.specs.push_model.specs.Server.{rfcomm_psm}
use Rattle.pair_laws.specs.push_laws.specs.Carriage.{no_carriage, frames_by, StayCarried}
use Rattle.pair_laws.specs.push_laws.specs.Occurrences.{Occurrence}
use Rattle.pair_laws.specs.push_laws.specs.Parties.{server_side, client_side}
use Rattle.pair_laws.specs.push_laws.specs.Readings.{closes}
use Rattle.pair_laws.specs.host_model.specs.Clients.{ClientProfile}
use Rattle.pair_laws.specs.host_model.specs.Pdus.{mux_octets}
use Rattle.pair_laws.specs.host_model.specs.Servers.{ServerProfile}
use Rattle.request_laws.specs.Streams.{come_on, no_streams, AllStayStreams}
use Rattle.request_laws.specs.Twists.{Twist, of_client, Set, new_both, all_moves, OpensNone}

-- the frames that a client asks to send
abbrev pub frames_over : List Deed → Client → List PlainFrame
frames_over [] client = []
frames_over (deed ∷ deeds) client = frames_by deed client ++ frames_over deeds (done deed client)

-- a frame is read from the octets that are written of it
abbrev pub IsReadSo : PlainFrame → Type 0
IsReadSo frame = frame_answer (mux_octets frame) ≡ Ok frame

-- nothing comes to a server behind the end of its channel to a PSM
abbrev pub NoneComesBehind : ℕ → List Occurrence → Type 0
NoneComesBehind carrier [] = Unit {0}
NoneComesBehind carrier (one ∷ rest) = (closes carrier one ≡ true → flat_map (come_on carrier) rest ≡ []) × NoneComesBehind carrier rest

-- A client over RFCOMM and a server went through this while a link was up, and no push began meanwhile: the channels of their multiplexers were pipes at
-- each moment, each frame is read as it was sent, and nothing came to the server behind the end of its channel.
pub record IsGoneThrough (set : Set) (twists : List Twist) (client : ClientProfile) (server : ServerProfile) : Type 0 where
  pub muxed : client.client.transport ≡ Rfcomm
  pub free : client.submitted ≡ None
  pub opens : AllByRecursion OpensNone (flat_map of_client twists)
  pub read : AllByRecursion IsReadSo (frames_over (client_side (all_moves set twists (new_both client server))) client.client)
  pub streams : AllStayStreams rfcomm_psm set twists (new_both client server) no_streams
  pub behind : NoneComesBehind rfcomm_psm (server_side (all_moves set twists (new_both client server)))

-- Then at each of their moves what the multiplexers carry is a front of what they sent, both ways: as the laws on a client and a server over RFCOMM
-- ask of each push.
abbrev pub LinksAreCarried : Type 0
LinksAreCarried = (set : Set) (twists : List Twist) (client : ClientProfile) (server : ServerProfile) → IsGoneThrough set twists client server → StayCarried (all_moves set twists (new_both client server)) client.client no_carriage
