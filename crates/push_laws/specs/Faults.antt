-- The objects that packets spell where calls of the inbox fail and where packets are ignored because a response waits: a packet at which a call
-- failed, or that was ignored, counts as a refused PUT (this project's own).
use Rattle.std.specs.Prelude.{ℕ, ◌+◌, ◌-◌, ◌||◌, Bool, false, List, [], ◌∷◌, ◌++◌, map, sum_by, is_err, if◌then◌else◌}
use Rattle.std.specs.List.{list_any}
use Rattle.link_talk.specs.bt_base.specs.declared.settings.Settings.{Settings}
use Rattle.link_talk.specs.bt_base.specs.declared.settings.Transport.{Transport}
use Rattle.link_talk.specs.bt_base.specs.declared.settings.Transport.TheVariants.{L2cap, Rfcomm}
use Rattle.link_talk.specs.bt_base.specs.Objects.{Object}
use Rattle.link_talk.specs.capture.specs.Histories.{given_by}
use Rattle.link_talk.specs.Gains.{gained}
pub use Rattle.push_model.specs.obex_session.specs.Counting.{faults_of}
use Rattle.push_model.specs.obex_session.specs.InboxCalls.{Answer, come_of}
use Rattle.push_model.specs.obex_session.specs.Past.{Heard, stored_by}
use Rattle.push_model.specs.obex_session.specs.Serving.{ruling_on}
use Rattle.push_model.specs.Client.{own_maximum}
use Rattle.push_model.specs.Service.{Service, is_ignored}
use Rattle.push_model.specs.Sessions.{session_of}
use Rattle.push_model.specs.Server.{Reacted, object_psm, rfcomm_psm}
use Rattle.push_laws.specs.Occurrences.{Occurrence, Came, Went, Closed, LinkDown, Asked, Answering, done}
use Rattle.push_laws.specs.Readings.{closes, packets_over}

-- an occurrence, and whether the packet that is whole with it counts as refused
pub record Marked : Type 0 where
  pub occurrence : Occurrence
  pub refused : Bool

abbrev pub unmarked : List Marked → List Occurrence
unmarked past = map (λ (one : Marked). one.occurrence) past

abbrev pub psm_of : Transport → ℕ
psm_of L2cap = object_psm
psm_of Rfcomm = rfcomm_psm

abbrev pub heard_as : Bool → List (List ℕ) → List Heard
heard_as refused packets = map (λ (packet : List ℕ). (packet, refused)) packets

-- with one occurrence more
abbrev pub heard_behind : Transport → List Occurrence → List Heard → Marked → List Heard
heard_behind transport past kept one = if closes (psm_of transport) one.occurrence then [] else kept ++ heard_as one.refused (gained (packets_over transport) past one.occurrence)

abbrev pub heard_from : Transport → List Occurrence → List Heard → List Marked → List Heard
heard_from transport past kept [] = kept
heard_from transport past kept (one ∷ rest) = heard_from transport (past ++ one.occurrence ∷ []) (heard_behind transport past kept one) rest

-- the packets that were heard over a transport since the channel there was last closed
abbrev pub heard_over : Transport → List Marked → List Heard
heard_over transport past = heard_from transport [] [] past

-- what they store
abbrev pub stored_over : Settings → Transport → List Marked → List Object
stored_over settings transport past = stored_by (own_maximum transport settings) (heard_over transport past)

abbrev pub objects_with : Settings → List Marked → Marked → List Object
objects_with settings past one = gained (stored_over settings L2cap) past one ++ gained (stored_over settings Rfcomm) past one

abbrev pub objects : Settings → List Marked → List Object
objects settings past = given_by (objects_with settings) past

-- ---- how many do

abbrev pub counted : Bool → ℕ
counted holds = if holds then 1 else 0

abbrev pub refusals : List Marked → ℕ
refusals past = sum_by (λ (one : Marked). counted one.refused) past

-- ---- which packets are marked

-- a call of the inbox fails that a packet asks for: a fault is among the answers that these calls use up
abbrev pub fails_at : Transport → List ℕ → Service → List Answer → Bool
fails_at transport packet service answers = is_err (come_of (ruling_on (session_of transport service.sessions) packet).calls answers)

-- it counts as refused: it is ignored, or such a call fails
abbrev pub is_refused : Transport → List ℕ → Service → List Answer → Bool
is_refused transport packet service answers = is_ignored transport packet service || fails_at transport packet service answers

abbrev pub any_refused : Transport → Service → List Answer → List (List ℕ) → Bool
any_refused transport service answers packets = list_any (λ (packet : List ℕ). is_refused transport packet service answers) packets

-- the same of the packets that are whole with an occurrence
abbrev pub refuses_with : List Occurrence → Service → List Answer → Occurrence → Bool
refuses_with past service answers (Came psm sdu) =
    any_refused L2cap service answers (gained (packets_over L2cap) past (Came psm sdu)) || any_refused Rfcomm service answers (gained (packets_over Rfcomm) past (Came psm sdu))
refuses_with past service answers (Went psm sdu) = false
refuses_with past service answers (Closed psm) = false
refuses_with past service answers LinkDown = false
refuses_with past service answers Asked = false
refuses_with past service answers (Answering later) = false

abbrev pub mark_of : List Occurrence → Reacted → Occurrence → Marked
mark_of past at one = record { occurrence = one; refused = refuses_with past at.server.listener.service at.gift.answers one }

-- what happens to a server from a moment on, with its marks
abbrev pub marked_from : List Occurrence → Reacted → List Occurrence → List Marked
marked_from past at [] = []
marked_from past at (one ∷ rest) = mark_of past at one ∷ marked_from (past ++ one ∷ []) (done one at) rest

-- ---- how many faults are used up

-- the faults that the inbox is to answer with when its calls begin
abbrev pub faults_before : Occurrence → List Answer → ℕ
faults_before (Came psm sdu) answers = faults_of answers
faults_before (Went psm sdu) answers = faults_of answers
faults_before (Closed psm) answers = faults_of answers
faults_before LinkDown answers = faults_of answers
faults_before Asked answers = faults_of answers
faults_before (Answering later) answers = faults_of later

-- those that calls use up; what is told and not asked for counts nothing
abbrev pub spends : Reacted → Occurrence → ℕ
spends at one = faults_before one at.gift.answers - faults_of (done one at).gift.answers

abbrev pub spent_from : Reacted → List Occurrence → ℕ
spent_from at [] = 0
spent_from at (one ∷ rest) = spends at one + spent_from (done one at) rest

-- ---- how many are ignored

-- of these packets
abbrev pub ignored_of : Transport → Service → List (List ℕ) → ℕ
ignored_of transport service packets = sum_by (λ (packet : List ℕ). counted (is_ignored transport packet service)) packets

-- of those that are whole with an occurrence
abbrev pub ignored_with : List Occurrence → Service → Occurrence → ℕ
ignored_with past service one = ignored_of L2cap service (gained (packets_over L2cap) past one) + ignored_of Rfcomm service (gained (packets_over Rfcomm) past one)

abbrev pub ignored_from : List Occurrence → Reacted → List Occurrence → ℕ
ignored_from past at [] = 0
ignored_from past at (one ∷ rest) = ignored_with past at.server.listener.service one + ignored_from (past ++ one ∷ []) (done one at) rest
