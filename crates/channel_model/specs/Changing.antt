-- How the channels of a link are looked at and changed.
use Rattle.std.specs.Prelude.{ℕ, ◌==◌, ◌&&◌, not, nat_lt, Bool, true, false, [], ◌∷◌, ◌++◌, length, map, filter, find, Option, Some, None, is_some, if◌then◌else◌}
use Rattle.std.specs.List.{list_any}
use Rattle.l2cap_signal.specs.Commands.{Content}
use Rattle.channel_model.specs.declared.errand.Errand.{Errand}
use Rattle.channel_model.specs.declared.errand.Errand.TheVariants.{Connection, Configuration, Disconnection, Features}
use Rattle.channel_model.specs.declared.event.ChannelEvent.{ChannelEvent}
use Rattle.channel_model.specs.Value.{Queued, Answer, Ask, Own, Unasked, Asking, Granted, Carrier, Plain, Retransmitting, Setup, Stage, Requested, Connected, Leaving, Closing, Crossed, Held, Channels}

-- ---- channels

abbrev pub has_own : ℕ → Held → Bool
has_own own held = held.own == own

abbrev pub held_at : ℕ → Channels → Option Held
held_at own v = find (has_own own) v.held

abbrev pub in_place_of : Held → Held → Held
in_place_of held other = if other.own == held.own then held else other

-- a channel goes on to a stage
abbrev pub to_stage : Held → Stage → Channels → Channels
to_stage held stage v = record v { held = map (in_place_of (record held { stage = stage })) v.held }

-- the peer's endpoint of a channel that counts
abbrev pub is_peer : ℕ → Stage → Bool
is_peer endpoint (Requested request) = false
is_peer endpoint (Connected peer setup) = endpoint == peer
is_peer endpoint (Leaving peer setup request) = endpoint == peer
is_peer endpoint (Closing peer request checked) = endpoint == peer
is_peer endpoint (Crossed peer request) = endpoint == peer

abbrev pub has_peer : ℕ → Held → Bool
has_peer endpoint held = is_peer endpoint held.stage

-- the peer's endpoint of a channel whose end the peer did not ask for
abbrev pub is_live_peer : ℕ → Stage → Bool
is_live_peer endpoint (Requested request) = false
is_live_peer endpoint (Connected peer setup) = endpoint == peer
is_live_peer endpoint (Leaving peer setup request) = endpoint == peer
is_live_peer endpoint (Closing peer request checked) = endpoint == peer
is_live_peer endpoint (Crossed peer request) = false

abbrev pub has_live_peer : ℕ → Held → Bool
has_live_peer endpoint held = is_live_peer endpoint held.stage

-- ---- options

-- how far the options of a channel are that is there
abbrev pub setup_of : Stage → Option Setup
setup_of (Requested request) = None
setup_of (Connected peer setup) = Some setup
setup_of (Leaving peer setup request) = Some setup
setup_of (Closing peer request checked) = None
setup_of (Crossed peer request) = None

abbrev pub stage_with : Setup → Stage → Stage
stage_with setup (Requested request) = Requested request
stage_with setup (Connected peer before) = Connected peer setup
stage_with setup (Leaving peer before request) = Leaving peer setup request
stage_with setup (Closing peer request checked) = Closing peer request checked
stage_with setup (Crossed peer request) = Crossed peer request

-- the host asked for the end of a channel that is there
abbrev pub is_leaving : Stage → Bool
is_leaving (Requested request) = false
is_leaving (Connected peer setup) = false
is_leaving (Leaving peer setup request) = true
is_leaving (Closing peer request checked) = false
is_leaving (Crossed peer request) = false

abbrev pub with_setup : Held → Setup → Held
with_setup held setup = record held { stage = stage_with setup held.stage }

abbrev pub to_setup : Held → Setup → Channels → Channels
to_setup held setup v = to_stage held (stage_with setup held.stage) v

abbrev pub is_granted : Own → Bool
is_granted Unasked = false
is_granted (Asking request options) = false
is_granted Granted = true

-- the own request was made
abbrev pub is_stated : Own → Bool
is_stated Unasked = false
is_stated (Asking request options) = true
is_stated Granted = true

abbrev pub is_retransmitting : Option Carrier → Bool
is_retransmitting None = false
is_retransmitting (Some (Plain agreed waiting)) = false
is_retransmitting (Some (Retransmitting machine)) = true

-- what comes in has a check word: the host asked for options, and accepted those of the peer for retransmission (3.3.5)
abbrev pub has_fcs_by : Setup → Bool
has_fcs_by setup = is_stated setup.own && is_retransmitting setup.carrier

-- A channel is open where both requests for its options were accepted (6.1.4).
abbrev pub is_open : Setup → Bool
is_open setup = is_some setup.carrier && is_granted setup.own

-- ---- what waits to be given

abbrev pub same_errand : Errand → Errand → Bool
same_errand (Connection own) (Connection other) = own == other
same_errand (Configuration own) (Configuration other) = own == other
same_errand (Disconnection own) (Disconnection other) = own == other
same_errand Features Features = true
same_errand errand other = false

abbrev pub is_copy : Errand → Queued → Bool
is_copy errand (Answer command) = false
is_copy errand (Ask other) = same_errand errand other

-- a copy of the own request waits to be given
abbrev pub is_due : Errand → Channels → Bool
is_due errand v = list_any (is_copy errand) v.queue

abbrev pub queued : Queued → Channels → Channels
queued more v = record v { queue = v.queue ++ more ∷ [] }

-- a copy that waits of a request that needs no answer any more is not given (this project's own)
abbrev pub forgets : Errand → Channels → Channels
forgets errand v = record v { queue = filter (λ waiting. not (is_copy errand waiting)) v.queue }

-- the request is about the channel
abbrev pub is_about : (own : ℕ) → Errand → Bool
is_about own (Connection other) = other == own
is_about own (Configuration other) = other == own
is_about own (Disconnection other) = other == own
is_about own Features = false

abbrev pub is_copy_about : (own : ℕ) → Queued → Bool
is_copy_about own (Answer command) = false
is_copy_about own (Ask errand) = is_about own errand

-- a channel does not count any more, and nothing is asked of it
abbrev pub gone : Held → Channels → Channels
gone held v = record v {
  held = filter (λ other. not (other.own == held.own)) v.held;
  queue = filter (λ waiting. not (is_copy_about held.own waiting)) v.queue;
}

abbrev pub is_answer : Queued → Bool
is_answer (Answer command) = true
is_answer (Ask errand) = false

-- At most 16 answers wait (this project's own); own requests do not count.
abbrev pub has_room : Channels → Bool
has_room v = nat_lt (length (filter is_answer v.queue)) 16

abbrev pub answers : (identifier : ℕ) → Content → Channels → Channels
answers identifier content v = queued (Answer (record { identifier = identifier; content = content })) v

-- ---- events

abbrev pub tells : ChannelEvent → Channels → Channels
tells event v = record v { events = v.events ++ event ∷ [] }
