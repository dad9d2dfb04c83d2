-- The channels that a host asks for are those that service discovery told it (Object Push Profile 1.2, 4.3 and 5; Core 5.1, Volume 3 Part A, 4.2,
-- and Part B, 4.7; RFCOMM 1.2, 5.4).
use Rattle.std.specs.Prelude.{ℕ, ◌≡◌, ◌*◌, ◌==◌, ◌&&◌, ◌||◌, not, Bool, true, false, List, [], drop, Option, Some, None, is_some, option_map, Result, Ok, Err, if◌then◌else◌, IfSome}
use Rattle.std.specs.List.{filter_map, list_any}
use Rattle.shelf_model.specs.bt_base.specs.declared.settings.Transport.{Transport}
use Rattle.shelf_model.specs.bt_base.specs.declared.settings.Transport.TheVariants.{L2cap, Rfcomm}
use Rattle.shelf_model.specs.capture.specs.declared.flow.Flow.TheVariants.{Out, Into}
use Rattle.shelf_model.specs.capture.specs.Histories.{EachAfter}
use Rattle.shelf_model.specs.rfcomm_frames.specs.declared.frame.MuxKind.{MuxKind}
use Rattle.shelf_model.specs.rfcomm_frames.specs.declared.frame.MuxKind.TheVariants.{Sabm, Ua, Dm, Disc, Uih}
use Rattle.shelf_model.specs.rfcomm_frames.specs.Answers.{Answer}
use Rattle.shelf_model.specs.rfcomm_frames.specs.FrameReading.{frame_answer}
use Rattle.shelf_model.specs.rfcomm_frames.specs.Frames.{PlainFrame}
use Rattle.shelf_model.specs.sdp_elements.specs.declared.target.Target.{Target}
use Rattle.shelf_model.specs.sdp_elements.specs.Targets.{target_in}
use Rattle.push_laws.specs.link_talk.specs.declared.call.Call.{Call}
use Rattle.push_laws.specs.link_talk.specs.declared.call.Wanted.{Wanted}
use Rattle.push_laws.specs.link_talk.specs.declared.party.Party.{Party}
use Rattle.push_laws.specs.link_talk.specs.Requests.{call, went}
use Rattle.push_laws.specs.link_talk.specs.Sayings.{Saying, Command, Carried, GaveUp}
use Rattle.push_laws.specs.link_talk.specs.Senses.{sense}
use Rattle.push_laws.specs.link_talk.specs.ServiceAnswers.{service_answers}

-- ---- what was told

-- the targets of the answers of service discovery that a host heard on a link so far
abbrev pub targets_told : Party → List Saying → List Target
targets_told party said = filter_map target_in (service_answers party said)

abbrev pub is_number : ℕ → Option ℕ → Bool
is_number number None = false
is_number number (Some other) = other == number

-- one of them names the PSM
abbrev pub tells_psm : List Target → ℕ → Bool
tells_psm targets psm = list_any (λ (target : Target). is_number psm target.l2cap) targets

-- one of them names a server channel
abbrev pub tells_channel : List Target → Bool
tells_channel targets = list_any (λ (target : Target). is_some target.rfcomm) targets

-- the DLCI of a server channel of the responder is twice its number
abbrev pub dlci_of : Target → Option ℕ
dlci_of target = option_map (λ number. 2 * number) target.rfcomm

abbrev pub tells_dlci : List Target → ℕ → Bool
tells_dlci targets dlci = list_any (λ (target : Target). is_number dlci (dlci_of target)) targets

-- ---- what a host says

abbrev pub psm_wanted : Option Wanted → Option ℕ
psm_wanted None = None
psm_wanted (Some wanted) = Some wanted.psm

abbrev pub psm_called : Option Call → Option ℕ
psm_called None = None
psm_called (Some one) = if went Out one then psm_wanted one.wanted else None

-- the PSM of a channel that it asks for
abbrev pub psm_asked : Saying → Option ℕ
psm_asked saying = psm_called (call (sense saying))

abbrev pub frame_read : Answer → Option PlainFrame
frame_read (Ok frame) = Some frame
frame_read (Err refusal) = None

-- the frame of RFCOMM that it sends
abbrev pub frame_sent : Saying → Option PlainFrame
frame_sent (Command flow answer) = None
frame_sent (Carried Out pdu) = frame_read (frame_answer (drop 4 pdu))
frame_sent (Carried Into pdu) = None
frame_sent (GaveUp forgone) = None

-- ---- by what it was told

-- Besides that of service discovery it asks over L2CAP for a channel to a PSM that was told, and over RFCOMM for that of a multiplexer once a server
-- channel was told.
abbrev pub asks_as_told : Transport → List Target → ℕ → Bool
asks_as_told L2cap targets psm = (psm == 0x0001) || tells_psm targets psm
asks_as_told Rfcomm targets psm = (psm == 0x0001) || ((psm == 0x0003) && tells_channel targets)

-- a UA or DM frame answers one of the peer
abbrev pub answers_peer : MuxKind → Bool
answers_peer Sabm = false
answers_peer Ua = true
answers_peer Dm = true
answers_peer Disc = false
answers_peer Uih = false

-- the multiplexer opens, uses and closes no data link connection but that of a server channel that was told, and its own, which has DLCI 0
abbrev pub goes_as_told : List Target → PlainFrame → Bool
goes_as_told targets frame = answers_peer frame.kind || ((frame.dlci == 0) || tells_dlci targets frame.dlci)

pub record Follows (party : Party) (transport : Transport) (past : List Saying) (saying : Saying) : Type 0 where
  pub asks : IfSome (psm_asked saying) (λ psm. asks_as_told transport (targets_told party past) psm ≡ true)
  pub sends : transport ≡ Rfcomm → IfSome (frame_sent saying) (λ frame. goes_as_told (targets_told party past) frame ≡ true)

-- On a link a host goes by what it was told there before.
abbrev pub GoesAsTold : Party → Transport → List Saying → Type 0
GoesAsTold party transport said = EachAfter (Follows party transport) [] said
