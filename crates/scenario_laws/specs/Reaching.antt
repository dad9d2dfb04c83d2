-- Which requests for channels reach a host of those that the other one said (Core 5.1, Volume 3 Part A, 4.2): between two turns of its
-- link they come in their order, some of them left out and some again.
use Rattle.std.specs.Prelude.{ℕ, ◌≡◌, ◌+◌, ◌==◌, ◌⊎◌, List, [], ◌∷◌, ◌++◌, if◌then◌else◌}
use Rattle.radio_world.specs.capture.specs.declared.flow.Flow.TheVariants.{Into}
use Rattle.radio_world.specs.capture.specs.Pdus.{Pdu}
use Rattle.host_laws.specs.link_talk.specs.declared.call.Call.{Call}
use Rattle.host_laws.specs.link_talk.specs.Sayings.{said_by}
use Rattle.host_laws.specs.channel_laws.specs.Singly.{calls_that_went}
use Rattle.host_laws.specs.world_model.specs.Machines.{Linked, Failed, Heard, TimerFired, Cancelled, Opening}
use Rattle.host_laws.specs.world_model.specs.Talks.{Talk, Told, Said, Unsent, Met, Done}
use Rattle.host_laws.specs.OverLinks.{turns_link}

-- the requests of a PDU, as its hearer has them
abbrev pub calls_by : List ℕ → List Call
calls_by pdu = calls_that_went Into (let came : Pdu = record { flow = Into; octets = pdu } in said_by came)

-- it has one at most
abbrev pub IsOnePdu : List ℕ → Type 0
IsOnePdu pdu = (calls_by pdu ≡ []) ⊎ ((one : Call) × (calls_by pdu ≡ one ∷ []))

abbrev pub heard_of : Talk → List Call
heard_of (Told (Linked event)) = []
heard_of (Told (Failed status)) = []
heard_of (Told (Heard pdu)) = calls_by pdu
heard_of (Told TimerFired) = []
heard_of (Told Cancelled) = []
heard_of (Told (Opening name)) = []
heard_of (Said pdu) = []
heard_of (Unsent pdu) = []
heard_of (Met fate checked) = []
heard_of (Done outcome) = []

abbrev pub said_of : Talk → List Call
said_of (Told news) = []
said_of (Said pdu) = calls_by pdu
said_of (Unsent pdu) = []
said_of (Met fate checked) = []
said_of (Done outcome) = []

-- how often the link was turned
abbrev pub turn_of : Talk → ℕ
turn_of one = if turns_link one then 1 else 0

abbrev pub turns : List Talk → ℕ
turns [] = 0
turns (one ∷ talk) = turn_of one + turns talk

-- what talk has behind the j-th turn and before the next, the latest first, where there were n turns before
abbrev pub at_turn : (Talk → List Call) → (n j : ℕ) → List Talk → List Call
at_turn of n j [] = []
at_turn of n j (one ∷ talk) = at_turn of (n + turn_of one) j talk ++ (if n == j then of one else [])
