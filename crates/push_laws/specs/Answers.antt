-- The responses of a server to what comes over L2CAP (IrOBEX 1.5, 3.2; Generic Object Exchange Profile 2.1, 4.6, for what
-- is passed over in silence).
use Rattle.std.specs.Prelude.{ℕ, ◌≡◌, ◌==◌, ◌&&◌, ◌||◌, Bool, Result, Ok, Err, IfSome, List, [], ◌∷◌, ◌++◌, length, map, slice_index, Option, Some, None, is_some, if◌then◌else◌}
use Rattle.std.specs.List.{filter_map, cons_option}
use Rattle.link_talk.specs.bt_base.specs.declared.settings.Settings.{Settings}
use Rattle.link_talk.specs.bt_base.specs.declared.settings.Transport.TheVariants.{L2cap}
use Rattle.link_talk.specs.capture.specs.Histories.{EachAfter}
use Rattle.link_talk.specs.Gains.{gained}
use Rattle.push_model.specs.obex_headers.specs.declared.packet.Phase.TheVariants.{Request}
use Rattle.push_model.specs.obex_headers.specs.declared.fault.ObexRefusal.{ObexRefusal}
use Rattle.push_model.specs.obex_headers.specs.Packets.{PlainPacket}
use Rattle.push_model.specs.obex_headers.specs.Reading.{packet_in}
use Rattle.link_talk.specs.ObjectsHeard.{put_within, spelled_within}
use Rattle.push_model.specs.Client.{own_maximum}
use Rattle.push_model.specs.Server.{Server, object_psm}
use Rattle.push_laws.specs.Occurrences.{Occurrence, Came, Went, Closed, LinkDown, Asked, Answering}
use Rattle.push_laws.specs.Readings.{since, packets_over}

-- a request and its response, which has no octets where the request is passed over in silence
pub record Replied : Type 0 where
  pub request : List ℕ
  pub response : List ℕ

abbrev pub requests : List Replied → List (List ℕ)
requests past = map (λ (one : Replied). one.request) past

-- success (A0) is said to a PUT
abbrev pub says_success : ℕ → Replied → Bool
says_success most one = is_some (put_within most one.request) && (slice_index one.response 0 == 0xA0)

-- it is said exactly where the PUT stores an object, behind the requests before it
abbrev pub SaysWhatIsStored : ℕ → List Replied → Replied → Type 0
SaysWhatIsStored most past one = length (gained (λ all. spelled_within most (requests all)) past one) ≡ (if says_success most one then 1 else 0)

-- The code that is due to a request that is no PUT: success to CONNECT, DISCONNECT and ABORT, C0 to one that is refused as a packet,
-- and D1 to any other (3.3.1, 3.3.2, 3.3.5; Object Push Profile 1.2, 4.3).
abbrev pub code_due : Result PlainPacket ObexRefusal → Option ℕ
code_due (Ok packet) =
    if (packet.code == 0x02) || (packet.code == 0x82) then None else Some (if (packet.code == 0x80) || (packet.code == 0x81) || (packet.code == 0xFF) then 0xA0 else 0xD1)
code_due (Err refusal) = Some 0xC0

abbrev pub SaysWhatIsDue : ℕ → Replied → Type 0
SaysWhatIsDue most one = IfSome (code_due (packet_in Request most one.request)) (λ code. slice_index one.response 0 ≡ code)

-- so is a request answered, behind those before it
pub record IsAnswered (most : ℕ) (past : List Replied) (one : Replied) : Type 0 where
  pub stored : SaysWhatIsStored most past one
  pub due : SaysWhatIsDue most one

-- octets that are said
abbrev pub said : List ℕ → Option (List ℕ)
said [] = None
said (octet ∷ octets) = Some (octet ∷ octets)

abbrev pub responses : List Replied → List (List ℕ)
responses past = filter_map (λ (one : Replied). said one.response) past

abbrev pub went_on : ℕ → Occurrence → Option (List ℕ)
went_on psm (Came at sdu) = None
went_on psm (Went at sdu) = if at == psm then said sdu else None
went_on psm (Closed at) = None
went_on psm LinkDown = None
went_on psm Asked = None
went_on psm (Answering answers) = None

-- Since the channel was last closed each request has its response, or none. What went out are these responses in their
-- order, up to one that waits.
pub record AnswersInTurn (settings : Settings) (occurrences : List Occurrence) (server : Server) : Type 0 where
  pub replied : List Replied
  pub all : requests replied ≡ packets_over L2cap occurrences
  pub means : EachAfter (IsAnswered (own_maximum L2cap settings)) [] replied
  pub in_turn : responses replied ≡ filter_map (went_on object_psm) (since object_psm occurrences) ++ cons_option (said server.listener.service.response) []
