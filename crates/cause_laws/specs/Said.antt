-- What a host heard that ended a push, by its talk on a link (IrOBEX 1.5, 3.2; Core 5.1, Volume 3 Part A, 3.1 and 7, and Part B, 4.7.2; RFCOMM 1.2, 5).
use Rattle.std.specs.List.{list_any, filter_map, flat_map}
use Rattle.std.specs.Prelude.{ℕ, ◌<◌, ◌≡◌, ◌⊎◌, ◌==◌, true, false, List, [], ◌∷◌, ◌++◌, Option, Some, None, Ok, Err, drop, find, is_none, length, if◌then◌else◌}
use Rattle.scenario_laws.specs.bt_base.specs.declared.settings.Settings.{Settings}
use Rattle.scenario_laws.specs.bt_base.specs.declared.settings.Transport.{Transport}
use Rattle.scenario_laws.specs.bt_base.specs.declared.settings.Transport.TheVariants.{L2cap, Rfcomm}
use Rattle.scenario_laws.specs.acl_fragments.specs.Pieces.{channel_of}
use Rattle.scenario_laws.specs.capture.specs.declared.flow.Flow.TheVariants.{Into}
use Rattle.scenario_laws.specs.push_terms.specs.declared.outcome.Outcome.{Outcome}
use Rattle.scenario_laws.specs.push_terms.specs.declared.outcome.Outcome.TheVariants as outcomes
use Rattle.scenario_laws.specs.push_terms.specs.declared.word.Side.TheVariants.{A}
use Rattle.scenario_laws.specs.obex_headers.specs.declared.packet.Phase.{Phase}
use Rattle.scenario_laws.specs.obex_headers.specs.declared.packet.Phase.TheVariants.{ConnectResponse, Response}
use Rattle.scenario_laws.specs.obex_headers.specs.Packets.{PlainPacket}
use Rattle.scenario_laws.specs.obex_headers.specs.Reading.{packet_in}
use Rattle.scenario_laws.specs.rfcomm_frames.specs.declared.frame.MuxKind.{MuxKind}
use Rattle.scenario_laws.specs.rfcomm_frames.specs.declared.frame.MuxKind.TheVariants.{Uih}
use Rattle.scenario_laws.specs.rfcomm_frames.specs.Answers.{Answer}
use Rattle.scenario_laws.specs.rfcomm_frames.specs.Frames.{PlainFrame}
use Rattle.scenario_laws.specs.rfcomm_frames.specs.FrameReading.{frame_answer}
use Rattle.scenario_laws.specs.sdp_elements.specs.declared.target.Target.{Target}
use Rattle.scenario_laws.specs.sdp_elements.specs.Targets.{is_service_psm}
use Rattle.scenario_laws.specs.push_model.specs.Shown.{way_of}
use Rattle.scenario_laws.specs.link_talk.specs.Channels.{Entry, reading}
use Rattle.scenario_laws.specs.link_talk.specs.Sayings.{Saying, Carried}
use Rattle.scenario_laws.specs.link_talk.specs.Sdus.{sdus}
use Rattle.scenario_laws.specs.host_laws.specs.Services.{targets_told}
use Rattle.scenario_laws.specs.Parties.{party_of}

-- ---- which outcomes an SDU brings about

-- what it says then
pub data Decision : Type 0 where
  -- success to another request than CONNECT
  Success : Decision
  -- a response with this code
  Refusal : (code : ℕ) → Decision
  -- the end of an answer of service discovery that lacks the service
  NoWay : Decision

abbrev pub decision_of : Outcome → Option Decision
decision_of outcomes.Done = Some Success
decision_of (outcomes.Refused code) = Some (Refusal code)
decision_of outcomes.NoService = Some NoWay
decision_of outcome = None

-- ---- responses

-- a response with this code, as it is read of a request of that kind: to CONNECT, or to another one
pub record IsResponse (phase : Phase) (code : ℕ) (octets : List ℕ) : Type 0 where
  pub read : PlainPacket
  pub is : packet_in phase (length octets) octets ≡ Ok read
  pub code_is : read.code ≡ code

-- with whatever request it answers
abbrev pub HasCode : ℕ → List ℕ → Type 0
HasCode code octets = IsResponse ConnectResponse code octets ⊎ IsResponse Response code octets

-- ---- responses over RFCOMM

-- the octets that a frame of a user channel carries: UIH, on a DLCI other than 0
abbrev pub octets_by : MuxKind → PlainFrame → List ℕ
octets_by Uih frame = if frame.dlci == 0 then [] else frame.octets
octets_by kind frame = []

abbrev pub octets_read : Answer → List ℕ
octets_read (Ok frame) = octets_by frame.kind frame
octets_read (Err refusal) = []

abbrev pub user_octets : List ℕ → List ℕ
user_octets payload = octets_read (frame_answer payload)

-- what the PDUs that came in carry, behind the header of four octets
abbrev pub payload_in : Saying → Option (List ℕ)
payload_in (Carried Into pdu) = Some (drop 4 pdu)
payload_in saying = None

abbrev pub payloads_in : List Saying → List (List ℕ)
payloads_in said = filter_map payload_in said

-- these are some of those, in their order
abbrev pub AreAmong : (some all : List (List ℕ)) → Type 0
AreAmong [] all = Unit {0}
AreAmong (one ∷ some) [] = ⊥
AreAmong (one ∷ some) (first ∷ all) = ((one ≡ first) × AreAmong some all) ⊎ AreAmong (one ∷ some) all

-- a frame of a user channel: behind the octets of some frames that had come in on the link, on whatever channel, in their order, a packet ends in its own that is such
-- a one
pub record IsCarried (Is : List ℕ → Type 0) (ahead : List Saying) (octets : List ℕ) : Type 0 where
  pub frame : PlainFrame
  pub is : frame_answer octets ≡ Ok frame
  pub kind : frame.kind ≡ Uih
  pub user : (frame.dlci == 0) ≡ false
  pub others : List (List ℕ)
  pub among : AreAmong others (payloads_in ahead)
  pub earlier : List ℕ
  pub packet : List ℕ
  pub later : List ℕ
  pub stream_is : flat_map user_octets others ++ frame.octets ≡ earlier ++ (packet ++ later)
  pub ends : length later < length frame.octets
  pub read : Is packet

-- over L2CAP the SDU is the packet, on a channel to a PSM that a service may have; over RFCOMM a frame brings octets of it, behind what was said ahead
abbrev pub IsPacket : Transport → (List ℕ → Type 0) → (ahead : List Saying) → (psm : ℕ) → List ℕ → Type 0
IsPacket L2cap Is ahead psm octets = (is_service_psm psm ≡ true) × Is octets
IsPacket Rfcomm Is ahead psm octets = (psm ≡ 0x0003) × IsCarried Is ahead octets

-- ---- an SDU

-- an SDU on a channel with that PSM says so
abbrev pub Brings : Transport → Decision → (ahead : List Saying) → (psm : ℕ) → List ℕ → Type 0
Brings transport Success ahead psm octets = IsPacket transport (IsResponse Response 0xA0) ahead psm octets
Brings transport (Refusal code) ahead psm octets = IsPacket transport (HasCode code) ahead psm octets
Brings transport NoWay ahead psm octets = psm ≡ 0x0001

-- ---- answers of service discovery

-- of those that host a heard whole on the link, in parts that came to its own requests, one names no way over the transport
abbrev pub LacksService : Settings → List Saying → Type 0
LacksService settings said = list_any (λ (target : Target). is_none (way_of settings.transport target)) (targets_told (party_of settings A) said) ≡ true

abbrev pub LacksWhat : Settings → Decision → List Saying → Type 0
LacksWhat settings NoWay said = LacksService settings said
LacksWhat settings decision said = Unit {0}

-- ---- on a link

-- A PDU came in to host a for a channel that was there, and one of the SDUs that had come in on it says so; and where it found no service, it was told so.
pub record IsHeard (settings : Settings) (decision : Decision) (said : List Saying) : Type 0 where
  pub front : List Saying
  pub pdu : List ℕ
  pub rest : List Saying
  pub said_is : said ≡ front ++ Carried Into pdu ∷ rest
  pub entry : Entry
  pub found : find (λ (one : Entry). one.channel.own == channel_of pdu) (reading front).entries ≡ Some entry
  pub earlier : List (List ℕ)
  pub octets : List ℕ
  pub later : List (List ℕ)
  pub sdus_are : sdus (party_of settings A) entry.channel Into (front ++ Carried Into pdu ∷ []) ≡ earlier ++ octets ∷ later
  pub brings : Brings settings.transport decision front entry.channel.psm octets
  pub lacks : LacksWhat settings decision said
