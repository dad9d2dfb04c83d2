-- To which copies of a request of its peer a host replies with a response to it (Core 5.1, Volume 3 Part A, 4.2 to 4.11).
use Rattle.std.specs.Prelude.{ℕ, ◌≡◌, ◌==◌, Bool, true, false, Option, Some, None, Ok}
use Rattle.own_channel_laws.specs.talk_laws.specs.l2cap_signal.specs.Commands.{Content, Command, connection_request, configuration_request, disconnection_request, information_request}
use Rattle.own_channel_laws.specs.channel_model.specs.declared.errand.Errand.{Errand}
use Rattle.own_channel_laws.specs.channel_model.specs.declared.errand.Errand.TheVariants.{Connection, Configuration, Disconnection, Features}
use Rattle.own_channel_laws.specs.channel_model.specs.Value.{Held, Remembered, Channels}
use Rattle.own_channel_laws.specs.channel_model.specs.Policies.{Policy}
use Rattle.own_channel_laws.specs.channel_model.specs.Changing.{held_at, is_peer, has_room}
use Rattle.channel_laws.specs.Adverse.{responds_with, asks_for}
use Rattle.channel_laws.specs.Heeded.{IsResponse}
use Rattle.own_channel_laws.specs.OwnTalk.{reply_to}

-- what is remembered of a request with the identifier is a response to this one
abbrev pub Recalls : Errand → Option Content → Type 0
Recalls errand None = ⊥
Recalls errand (Some content) = responds_with errand content ≡ true

abbrev pub RecalledOr : Bool → (recalled fresh : Type 0) → Type 0
RecalledOr true recalled fresh = recalled
RecalledOr false recalled fresh = fresh

-- or it is no such request that came last
abbrev pub IsRecalledOr : Errand → Option Remembered → (identifier : ℕ) → (fresh : Type 0) → Type 0
IsRecalledOr errand None identifier fresh = fresh
IsRecalledOr errand (Some last) identifier fresh = RecalledOr (last.identifier == identifier) (Recalls errand last.response) fresh

-- there is a channel, and the peer has it with this endpoint
abbrev pub HasPeer : (peer : ℕ) → Option Held → Type 0
HasPeer peer None = ⊥
HasPeer peer (Some held) = is_peer peer held.stage ≡ true

-- A copy that is not remembered can be responded to if it asks for a channel or for information, or is about a channel that is there.
abbrev pub CanRespond : Errand → (identifier : ℕ) → Content → Channels → Type 0
CanRespond (Connection own) identifier (connection_request psm source) v = IsRecalledOr (Connection own) v.memory.connection identifier (Unit {0})
CanRespond (Configuration own) identifier (configuration_request destination flags options) v = IsRecalledOr (Configuration own) v.memory.configuration identifier (HasPeer own (held_at destination v))
CanRespond (Disconnection own) identifier (disconnection_request destination source) v = IsRecalledOr (Disconnection own) v.memory.disconnection identifier (HasPeer own (held_at destination v))
CanRespond Features identifier (information_request kind) v = IsRecalledOr Features v.memory.information identifier (Unit {0})
CanRespond errand identifier content v = Unit {0}

-- Then the reply is a response to the request, where there is room.
abbrev pub CopiesHaveResponses : Type 0
CopiesHaveResponses = (policy : Policy) (v : Channels) (errand : Errand) (identifier : ℕ) (command : Command) → asks_for errand identifier command ≡ true → CanRespond errand command.identifier command.content v → has_room v ≡ true
    → IsResponse errand identifier (reply_to policy (Ok command) v) v
