-- A client sends nothing while the response to what it sent before is due, which over L2CAP is the next SDU on the channel of the
-- object (IrOBEX 1.5, 3.2; Generic Object Exchange Profile 2.1, 4.6, for the PUTs of single response mode, of which more
-- follow before the response). Over RFCOMM it says only that an SDU came since.
use Rattle.std.specs.Prelude.{ℕ, ◌≡◌, ◌==◌, ◌&&◌, Bool, true, false, List, [], ◌∷◌, if◌then◌else◌}
use Rattle.push_model.specs.obex_session.specs.NextPut.{is_waiting}
use Rattle.push_model.specs.Client.{Client, with_object}
use Rattle.push_model.specs.Events.{News, LinkUp, LinkDown, LinkFailed, ChannelOpen, ChannelClosed, Sdu, FeaturesTold, FeaturesLost, Timer}
use Rattle.push_model.specs.Laws.{Deed, Hears, Asks, Finishes, Cancels, done}
use Rattle.push_model.specs.Responding.{is_object}
use Rattle.push_laws.specs.Sending.{packets_by}

-- an SDU comes on the channel of the object
abbrev pub is_response : News → Client → Bool
is_response LinkUp client = false
is_response (LinkDown reason) client = false
is_response (LinkFailed status) client = false
is_response (ChannelOpen psm mtu) client = false
is_response (ChannelClosed psm cause) client = false
is_response (Sdu psm octets) client = is_object client.stage && (psm == client.psm)
is_response FeaturesTold client = false
is_response FeaturesLost client = false
is_response Timer client = false

-- what was sent waits for a response, where it has one before more is sent
abbrev pub due_with : List (List ℕ) → Client → Bool → Bool
due_with [] client due = due
due_with (packet ∷ packets) client due = is_waiting client.session.awaited

-- behind a deed a response is due
abbrev pub due_after : Deed → Client → Bool → Bool
due_after (Hears news) client due = if is_response news client then false else due
due_after (Asks parts) client due = due_with (packets_by (Asks parts) client) (done (Asks parts) client) due
due_after Finishes client due = due
due_after Cancels client due = due

-- nothing is sent while one is
abbrev pub SendInTurn : List Deed → Client → Bool → Type 0
SendInTurn [] client due = Unit {0}
SendInTurn (deed ∷ deeds) client due = (due ≡ true → packets_by deed client ≡ []) × SendInTurn deeds (done deed client) (due_after deed client due)

abbrev pub SendsBehindResponses : Type 0
SendsBehindResponses = (client : Client) (name : List ℕ) (size : ℕ) (deeds : List Deed) → SendInTurn deeds (with_object name size client) false
