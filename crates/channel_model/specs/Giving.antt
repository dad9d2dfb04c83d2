-- What a host gives next: what waits on the signalling channel, in the order in which it arose, and then what waits on the
-- channels, in the order of their endpoints (Core 5.1, Volume 3 Part A, 3.1, 3.3 and 4).
use Rattle.std.specs.Prelude.{ℕ, ◌≡◌, ◌+◌, min, Bool, List, [], ◌∷◌, ◌++◌, length, find, Option, Some, None, option_map, is_some}
use Rattle.bt_base.specs.Octets.{le16}
use Rattle.l2cap_signal.specs.Commands.{Content, Command, spelling, connection_request, configuration_request, disconnection_request, information_request}
use Rattle.l2cap_config.specs.Writing.{written}
use Rattle.ertm_frames.specs.Frames.{PlainFrame, Spells}
use Rattle.ertm_model.specs.Giving.{next_frame, after_frame}
use Rattle.channel_model.specs.declared.errand.Errand.{Errand}
use Rattle.channel_model.specs.declared.errand.Errand.TheVariants.{Connection, Configuration, Disconnection, Features}
use Rattle.channel_model.specs.Value.{Request, Queued, Answer, Ask, Own, Unasked, Asking, Granted, Carrier, Plain, Retransmitting, Setup, Stage, Requested, Connected, Leaving, Closing, Crossed, Held, Channels}
use Rattle.channel_model.specs.Changing.{held_at, setup_of, to_stage, to_setup}

-- a command; an SDU in basic mode, or a frame, for the peer's endpoint
pub data Given : Type 0 where
  Signal : (command : Command) → Given
  Whole : (peer : ℕ) (sdu : List ℕ) → Given
  Framed : (peer : ℕ) (frame : PlainFrame) → Given

-- ---- own requests

-- the count stands still at 255, which is far above what is ever given (this project's own)
abbrev pub one_more : Request → Request
one_more request = record { identifier = request.identifier; given = min (request.given + 1) 255 }

-- with what an own request asks
abbrev pub asking : Request → Content → Option Command
asking request content = Some (record { identifier = request.identifier; content = content })

abbrev pub connection_at : Stage → Held → Option Command
connection_at (Requested request) held = asking request (connection_request held.psm held.own)
connection_at (Connected peer setup) held = None
connection_at (Leaving peer setup request) held = None
connection_at (Closing peer request checked) held = None
connection_at (Crossed peer request) held = None

abbrev pub configuration_by : Own → (peer : ℕ) → Option Command
configuration_by Unasked peer = None
configuration_by (Asking request options) peer = asking request (configuration_request peer 0 (written options))
configuration_by Granted peer = None

abbrev pub configuration_at : Stage → Option Command
configuration_at (Requested request) = None
configuration_at (Connected peer setup) = configuration_by setup.own peer
configuration_at (Leaving peer setup request) = configuration_by setup.own peer
configuration_at (Closing peer request checked) = None
configuration_at (Crossed peer request) = None

-- the request names the peer's endpoint and then the own one (4.6)
abbrev pub disconnection_at : Stage → Held → Option Command
disconnection_at (Requested request) held = None
disconnection_at (Connected peer setup) held = None
disconnection_at (Leaving peer setup request) held = asking request (disconnection_request peer held.own)
disconnection_at (Closing peer request checked) held = asking request (disconnection_request peer held.own)
disconnection_at (Crossed peer request) held = asking request (disconnection_request peer held.own)

abbrev pub on_held : (Held → Option Command) → Option Held → Option Command
on_held f None = None
on_held f (Some held) = f held

-- information of kind 2 are the features (4.10)
abbrev pub features_command : Option Request → Option Command
features_command None = None
features_command (Some request) = asking request (information_request 2)

-- the command of an own request that waits for its response
abbrev pub command_of : Errand → Channels → Option Command
command_of (Connection own) v = on_held (λ held. connection_at held.stage held) (held_at own v)
command_of (Configuration own) v = on_held (λ held. configuration_at held.stage) (held_at own v)
command_of (Disconnection own) v = on_held (λ held. disconnection_at held.stage held) (held_at own v)
command_of Features v = features_command v.features

-- ---- the request was given one time more

abbrev pub own_given : Own → Own
own_given Unasked = Unasked
own_given (Asking request options) = Asking (one_more request) options
own_given Granted = Granted

abbrev pub setup_given : Setup → Setup
setup_given setup = record setup { own = own_given setup.own }

abbrev pub connection_given : Stage → Stage
connection_given (Requested request) = Requested (one_more request)
connection_given (Connected peer setup) = Connected peer setup
connection_given (Leaving peer setup request) = Leaving peer setup request
connection_given (Closing peer request checked) = Closing peer request checked
connection_given (Crossed peer request) = Crossed peer request

abbrev pub configuration_given : Stage → Stage
configuration_given (Requested request) = Requested request
configuration_given (Connected peer setup) = Connected peer (setup_given setup)
configuration_given (Leaving peer setup request) = Leaving peer (setup_given setup) request
configuration_given (Closing peer request checked) = Closing peer request checked
configuration_given (Crossed peer request) = Crossed peer request

abbrev pub disconnection_given : Stage → Stage
disconnection_given (Requested request) = Requested request
disconnection_given (Connected peer setup) = Connected peer setup
disconnection_given (Leaving peer setup request) = Leaving peer setup (one_more request)
disconnection_given (Closing peer request checked) = Closing peer (one_more request) checked
disconnection_given (Crossed peer request) = Crossed peer (one_more request)

abbrev pub stage_given : (Stage → Stage) → Option Held → Channels → Channels
stage_given f None v = v
stage_given f (Some held) v = to_stage held (f held.stage) v

abbrev pub counted : Errand → Channels → Channels
counted (Connection own) v = stage_given connection_given (held_at own v) v
counted (Configuration own) v = stage_given configuration_given (held_at own v) v
counted (Disconnection own) v = stage_given disconnection_given (held_at own v) v
counted Features v = record v { features = option_map one_more v.features }

-- ---- SDUs and frames

abbrev pub carrier_gives : Carrier → (peer : ℕ) → Option Given
carrier_gives (Plain agreed waiting) peer = option_map (Whole peer) waiting
carrier_gives (Retransmitting machine) peer = option_map (Framed peer) (next_frame machine)

abbrev pub some_carrier_gives : Option Carrier → (peer : ℕ) → Option Given
some_carrier_gives None peer = None
some_carrier_gives (Some carrier) peer = carrier_gives carrier peer

abbrev pub stage_gives : Stage → Option Given
stage_gives (Requested request) = None
stage_gives (Connected peer setup) = some_carrier_gives setup.carrier peer
stage_gives (Leaving peer setup request) = some_carrier_gives setup.carrier peer
stage_gives (Closing peer request checked) = None
stage_gives (Crossed peer request) = None

abbrev pub gives : Held → Bool
gives held = is_some (stage_gives held.stage)

abbrev pub carrier_given : Carrier → Carrier
carrier_given (Plain agreed waiting) = Plain agreed None
carrier_given (Retransmitting machine) = Retransmitting (after_frame machine)

abbrev pub carrier_spent : Option Setup → Held → Channels → Channels
carrier_spent None held v = v
carrier_spent (Some setup) held v = to_setup held (record setup { carrier = option_map carrier_given setup.carrier }) v

-- the first channel that has something to give
abbrev pub held_gives : Option Held → Option Given
held_gives None = None
held_gives (Some held) = stage_gives held.stage

abbrev pub held_given : Option Held → Channels → Channels
held_given None v = v
held_given (Some held) v = carrier_spent (setup_of held.stage) held v

-- ---- the next PDU

abbrev pub queue_gives : List Queued → Channels → Option Given
queue_gives [] v = held_gives (find gives v.held)
queue_gives (Answer command ∷ behind) v = Some (Signal command)
queue_gives (Ask errand ∷ behind) v = option_map Signal (command_of errand v)

abbrev pub queue_given : List Queued → Channels → Channels
queue_given [] v = held_given (find gives v.held) v
queue_given (Answer command ∷ behind) v = record v { queue = behind }
queue_given (Ask errand ∷ behind) v = counted errand (record v { queue = behind })

-- what is given next, and the channels once it was given
abbrev pub next_given : Channels → Option Given
next_given v = queue_gives v.queue v

abbrev pub after_given : Channels → Channels
after_given v = queue_given v.queue v

-- ---- its octets

-- a PDU has a header: the length of what follows it, and the endpoint that it is for (3.1)
abbrev pub headed : (endpoint : ℕ) → List ℕ → List ℕ
headed endpoint payload = le16 (length payload) ++ (le16 endpoint ++ payload)

-- these are the octets of the PDU
abbrev pub IsPdu : Given → List ℕ → Type 0
IsPdu (Signal command) pdu = pdu ≡ headed 0x0001 (spelling command)
IsPdu (Whole peer sdu) pdu = pdu ≡ headed peer sdu
IsPdu (Framed peer frame) pdu = Spells peer frame pdu
