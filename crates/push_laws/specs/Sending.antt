-- What a client of Object Push asks of its server in one push (IrOBEX 1.5, 3.4; Object Push Profile 1.2, 4.3): each request
-- as a packet, in the order in which they go to the channel of the object.
use Rattle.std.specs.Prelude.{ℕ, ◌≡◌, ◌<◌, ◌≤◌, ◌^◌, ◌⊎◌, ◌||◌, ◌&&◌, Bool, true, false, List, [], ◌∷◌, ◌++◌, length, take, Option, Some, None, Result, Ok, Err, IfSome, if◌then◌else◌}
use Rattle.link_talk.specs.bt_base.specs.declared.ports.PortFault.{PortFault}
use Rattle.link_talk.specs.bt_base.specs.declared.settings.Transport.{Transport}
use Rattle.link_talk.specs.bt_base.specs.declared.settings.Transport.TheVariants.{L2cap, Rfcomm}
use Rattle.link_talk.specs.bt_base.specs.Objects.{Object, octets_of, HasAt}
use Rattle.link_talk.specs.push_terms.specs.declared.outcome.Outcome.{Outcome}
use Rattle.link_talk.specs.push_terms.specs.declared.outcome.Outcome.TheVariants.{Done, Cancelled, ShelfFault}
use Rattle.push_model.specs.rfcomm_model.specs.Saying.{Said, next}
use Rattle.push_model.specs.obex_headers.specs.Runs.{spelled}
use Rattle.push_model.specs.obex_session.specs.Asking.{Asking}
use Rattle.push_model.specs.obex_session.specs.NextPut.{put_request}
use Rattle.push_model.specs.obex_session.specs.ObjectPuts.{HasPut, IsWhole}
use Rattle.push_model.specs.obex_session.specs.PutPackets.{units_in, place_of}
use Rattle.push_model.specs.obex_session.specs.Pushes.{Fits}
use Rattle.push_model.specs.Client.{Client, may_cancel, with_object}
use Rattle.push_model.specs.Laws.{Deed, Hears, Asks, Finishes, Cancels, done, all_done}
use Rattle.push_model.specs.Payloads.{Payload, Octets, Framed}
use Rattle.push_model.specs.Responding.{is_object}
use Rattle.push_model.specs.Steps.{Part, Step, Wait, MakeLink, AskFeatures, OpenChannel, SendSdu, CloseChannel, BreakLink, Ended, NoMemory, Ask, Connect, Put, Abort, Disconnect, Close, Nothing, Made, requests, next_ask, may_ask, filled, takes_some, put_count, steps, connect_octets, abort_octets, disconnect_octets}

-- ---- over L2CAP: each SDU on the channel of the object

abbrev pub octets_in : Payload → List (List ℕ)
octets_in (Octets octets) = octets ∷ []
octets_in (Framed frame) = []

abbrev pub sdus_of : Step → List (List ℕ)
sdus_of Wait = []
sdus_of MakeLink = []
sdus_of AskFeatures = []
sdus_of (OpenChannel psm) = []
sdus_of (SendSdu psm payload) = octets_in payload
sdus_of (CloseChannel psm) = []
sdus_of BreakLink = []
sdus_of (Ended outcome) = []
sdus_of NoMemory = []

-- ---- over RFCOMM: each packet that is handed to the multiplexer, where no frame goes first and it takes some octets

abbrev pub packet_of : Result (Unit {0}) PortFault → Made → List (List ℕ)
packet_of (Ok done) request = request.client.rest ∷ []
packet_of (Err fault) request = []

abbrev pub packet_asked : Ask → Client → List Part → List (List ℕ)
packet_asked Connect client parts = let request = requests Connect client parts in packet_of request.outcome request
packet_asked Put client parts = let request = requests Put client parts in packet_of request.outcome request
packet_asked Abort client parts = let request = requests Abort client parts in packet_of request.outcome request
packet_asked Disconnect client parts = let request = requests Disconnect client parts in packet_of request.outcome request
packet_asked Close client parts = []
packet_asked Nothing client parts = []

abbrev pub packets_behind : Option Said → Client → List Part → List (List ℕ)
packets_behind None client parts = if may_ask client && takes_some client.mux then packet_asked (next_ask client) (record client { frame = None; rest = [] }) parts else []
packets_behind (Some said) client parts = []

abbrev pub packets_muxed : Client → List Part → List (List ℕ)
packets_muxed client parts = let full = filled client in packets_behind (next full.mux) full parts

-- ---- both

abbrev pub packets_through : Transport → Client → List Part → List (List ℕ)
packets_through L2cap client parts = sdus_of (steps client parts).step
packets_through Rfcomm client parts = if client.failed || client.given then [] else packets_muxed client parts

abbrev pub packets_by : Deed → Client → List (List ℕ)
packets_by (Hears news) client = []
packets_by (Asks parts) client = if is_object client.stage then packets_through client.transport client parts else []
packets_by Finishes client = []
packets_by Cancels client = []

abbrev pub packets_sent : List Deed → Client → List (List ℕ)
packets_sent [] client = []
packets_sent (deed ∷ deeds) client = packets_by deed client ++ packets_sent deeds (done deed client)

-- ---- what the shelf answers

-- as many octets as the next PUT has, and those that stand at its place, where the shelf tells what it has
abbrev pub Answers : Option (List Object) → Client → List Part → Type 0
Answers content client [] = Unit {0}
Answers content client (Ok part ∷ parts) = (length part ≡ put_count client) × IfSome content (λ objects. HasAt (place_of client.session.put) part (octets_of client.name objects))
Answers content client (Err fault ∷ parts) = Unit {0}

abbrev pub AnswersTo : Option (List Object) → Deed → Client → Type 0
AnswersTo content (Hears news) client = Unit {0}
AnswersTo content (Asks parts) client = Answers content client parts
AnswersTo content Finishes client = Unit {0}
AnswersTo content Cancels client = Unit {0}

abbrev pub AllAnswer : Option (List Object) → List Deed → Client → Type 0
AllAnswer content [] client = Unit {0}
AllAnswer content (deed ∷ deeds) client = AnswersTo content deed client × AllAnswer content deeds (done deed client)

-- ---- a push, or a front of it

-- ABORT, where the object was given up, and DISCONNECT, where the client took leave
abbrev pub end_of : Bool → Bool → List (List ℕ)
end_of gave_up left = (if gave_up then abort_octets ∷ [] else []) ++ (if left then disconnect_octets ∷ [] else [])

-- the object is given up: the push is cancelled, or the shelf fails
abbrev pub IsGivenUp : Option Outcome → Type 0
IsGivenUp cause = (cause ≡ Some Cancelled) ⊎ (cause ≡ Some ShelfFault)

-- Of the PUTs these were sent: all of the object, and then it is not given up; or a front of them, and then the push is not
-- done, and ABORT goes behind a PUT alone.
abbrev pub ArePuts : Bool → List ℕ → ℕ → Option (List Object) → Option Outcome → List (List ℕ) → Bool → Type 0
ArePuts wanted name size content cause puts gave_up =
    (IsWhole wanted name size puts content × (gave_up ≡ false) × (cause ≡ Some Cancelled → ⊥) × (cause ≡ Some ShelfFault → ⊥)) ⊎ ((session : Asking) × (session.wanted ≡ wanted) × HasPut name size puts session content × (cause ≡ Some Done → ⊥) × (gave_up ≡ true → puts ≡ [] → ⊥))

-- one CONNECT, the PUTs of the object or a front of them, ABORT and DISCONNECT
pub record IsPush (connect : List ℕ) (wanted : Bool) (name : List ℕ) (size : ℕ) (content : Option (List Object)) (cause : Option Outcome) (sent : List (List ℕ)) : Type 0 where
  pub puts : List (List ℕ)
  pub gave_up : Bool
  pub left : Bool
  pub sent_is : sent ≡ connect ∷ (puts ++ end_of gave_up left)
  pub puts_are : ArePuts wanted name size content cause puts gave_up

-- ABORT is sent of an object that is given up, and of no other; and where one is given up behind a PUT, the client does not
-- take leave without ABORT.
pub record GivesUp (cause : Option Outcome) (puts : List (List ℕ)) (gave_up left : Bool) : Type 0 where
  pub only : gave_up ≡ true → IsGivenUp cause
  pub always : IsGivenUp cause → (puts ≡ [] → ⊥) → left ≡ true → gave_up ≡ true

-- nothing was sent, or a push
abbrev pub IsSent : List ℕ → Bool → List ℕ → ℕ → Option (List Object) → Option Outcome → List (List ℕ) → Type 0
IsSent connect wanted name size content cause sent = ((sent ≡ []) × (cause ≡ Some Done → ⊥)) ⊎ IsPush connect wanted name size content cause sent

-- a client that may begin a push of this object: its own packets and those of its channel have room for any request
pub record MayPush (client : Client) (name : List ℕ) (size : ℕ) : Type 0 where
  pub short : length (units_in name) ≤ 100
  pub small : size < 2 ^ 32
  pub own : 255 ≤ client.session.maximum
  pub least : 255 ≤ client.limit
  pub most : client.limit < 2 ^ 15

-- From a begin to the next one a client sends nothing, or one CONNECT, the PUTs that spell its object or a front of them,
-- ABORT and DISCONNECT, whatever it hears, and the body is what the shelf answered: where each answer of the shelf has as
-- many octets as it was asked for. Where all PUTs were sent, its outcome is neither Cancelled nor ShelfFault; else it is not
-- Done. Whatever of it is read as PUTs, ABORT and DISCONNECT, ABORT stands where it is due.
abbrev pub SendsOnePush : Type 0
SendsOnePush = (client : Client) (name : List ℕ) (size : ℕ) (content : Option (List Object)) (deeds : List Deed) → MayPush client name size → AllAnswer content deeds (with_object name size client)
    → let cause = (all_done deeds (with_object name size client)).cause in
    let sent = packets_sent deeds (with_object name size client) in
    IsSent (connect_octets client.session) client.session.wanted name size content cause sent
    × ((push : IsPush (connect_octets client.session) client.session.wanted name size content cause sent) → GivesUp cause push.puts push.gave_up push.left)

-- ---- what a server makes of it

-- what a server hears of a push is a front of it
pub record SpellsOneObject (name : List ℕ) (object : List ℕ) (cause : Option Outcome) (sent : List (List ℕ)) : Type 0 where
  -- each front spells the object once, or nothing
  pub front : (n : ℕ) → (spelled (take n sent) ≡ []) ⊎ (spelled (take n sent) ≡ record { name = units_in name; octets = object } ∷ [])
  -- what was sent of a push that is done spells it
  pub done : cause ≡ Some Done → spelled sent ≡ record { name = units_in name; octets = object } ∷ []

-- Where the shelf has the object and answers with its octets, what is sent spells it once or not at all, and a push that is
-- done spelled it.
abbrev pub SpellsWhatIsPushed : Type 0
SpellsWhatIsPushed = (client : Client) (name : List ℕ) (size : ℕ) (objects : List Object) (object : List ℕ) (deeds : List Deed) → MayPush client name size → Fits name size → octets_of name objects ≡ Some object → length object ≡ size
    → AllAnswer (Some objects) deeds (with_object name size client) → SpellsOneObject name object (all_done deeds (with_object name size client)).cause (packets_sent deeds (with_object name size client))

-- ---- behind the final PUT

-- the final PUT of the object was sent, and awaits its response
abbrev pub AwaitsFinalPut : Client → Type 0
AwaitsFinalPut client = (client.cause ≡ None) × (client.session.awaited ≡ Some (put_request false true false))

-- From there on a push may not be cancelled, and its outcome is not Cancelled, whatever comes.
abbrev pub NothingIsCancelledLate : Type 0
NothingIsCancelledLate = (deeds : List Deed) (client : Client) → AwaitsFinalPut client → (may_cancel (all_done deeds client) ≡ false) × ((all_done deeds client).cause ≡ Some Cancelled → ⊥)
