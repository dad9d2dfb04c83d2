-- The channels of a link, as its signalling tells them to whoever reads along (Core 5.1, Volume 3 Part A, 4.2 to
-- 4.5). That identifiers and directions alone tie a response to its request is this project's own choice, and so is
-- that nothing but the end of the link makes a channel forgotten.
use Rattle.std.specs.Prelude.{ℕ, List, [], ◌∷◌, Bool, false, cond, ◌==◌, ◌&&◌, Option, None, Some, Result, Ok, Err, fold}
use Rattle.std.specs.List.{flat_map}
use Rattle.std.specs.Map.{lookup}
use Rattle.l2cap_signal.specs.Commands.{Command, Content, reject, connection_request, connection_response, configuration_request, configuration_response, disconnection_request, disconnection_response, echo_request, echo_response, information_request, information_response}
use Rattle.l2cap_signal.specs.Reading.{Answer, answers}
use Rattle.l2cap_config.specs.declared.options.Options.{Options}
use Rattle.l2cap_config.specs.declared.options.ModeOption.{ModeOption}
use Rattle.l2cap_config.specs.declared.options.ConfigRefusal.{ConfigRefusal}
use Rattle.l2cap_config.specs.Reading.{options_read}
use Rattle.seen_channels.specs.declared.direction.Direction.{Direction}
use Rattle.seen_channels.specs.declared.direction.Direction.TheVariants.{Out, In}
use Rattle.seen_channels.specs.declared.channel.Request.{Request}
use Rattle.seen_channels.specs.declared.channel.Channel.{Channel}
use Rattle.seen_channels.specs.declared.channel.Protocol.{Protocol}
use Rattle.seen_channels.specs.declared.channel.Protocol.TheVariants.{Sdp, Rfcomm, Enhanced, Data}

abbrev pub opposite : Direction → Direction
opposite Out = In
opposite In = Out

-- a command, and which way it goes
pub record Telling : Type 0 where
  pub direction : Direction
  pub command : Command

-- what is known of a link, the latest first: the connection requests out of the host and those into it, each with
-- its identifier, and the channels
pub record Learnt : Type 0 where
  pub asked_out : List (ℕ × Request)
  pub asked_in : List (ℕ × Request)
  pub channels : List Channel

-- nothing is known at the beginning of a link
abbrev pub nothing : Learnt
nothing = record { asked_out = []; asked_in = []; channels = [] }

abbrev pub asked : Direction → Learnt → List (ℕ × Request)
asked Out learnt = learnt.asked_out
asked In learnt = learnt.asked_in

-- the latest request of an identifier
abbrev pub request_of : ℕ → List (ℕ × Request) → Option Request
request_of identifier requests = lookup (λ other. identifier == other) requests

-- the number of a channel that PDUs of a direction carry: it is the receiver's own number (2.1)
abbrev pub number : Direction → Channel → ℕ
number Out channel = channel.far
number In channel = channel.near

-- the latest channel of that number in that direction
abbrev pub find : Direction → ℕ → List Channel → Option Channel
find direction cid [] = None
find direction cid (channel ∷ earlier) = cond (number direction channel == cid) (Some channel) (find direction cid earlier)

-- the channel of a request and its response, which goes that way: each names the sender's own number (4.2, 4.3). Its
-- mode is the basic one until another is asked for (5.4)
abbrev pub channel_of : Direction → ℕ → Request → ℕ → Channel
channel_of Out identifier request destination = record { identifier = identifier; psm = request.psm; far = request.source; near = destination; enhanced = false }
channel_of In identifier request destination = record { identifier = identifier; psm = request.psm; far = destination; near = request.source; enhanced = false }

-- one channel, whatever its mode
abbrev pub is_same : Channel → Channel → Bool
is_same a b = (a.identifier == b.identifier) && (a.psm == b.psm) && (a.far == b.far) && (a.near == b.near)

abbrev pub is_found : Channel → Option Channel → Bool
is_found channel None = false
is_found channel (Some other) = is_same channel other

-- the channel is the latest of both its numbers: so the same response again makes no other channel
abbrev pub is_known : Channel → List Channel → Bool
is_known channel channels = is_found channel (find Out channel.far channels) && is_found channel (find In channel.near channels)

abbrev pub with_channel : Channel → List Channel → List Channel
with_channel channel channels = cond (is_known channel channels) channels (channel ∷ channels)

-- a successful response, after these requests of the other direction
abbrev pub granted : Direction → ℕ → ℕ → Option Request → List Channel → List Channel
granted direction identifier destination None channels = channels
granted direction identifier destination (Some request) channels = with_channel (channel_of direction identifier request destination) channels

abbrev pub in_mode : Channel → Bool → Channel
in_mode channel enhanced = record { identifier = channel.identifier; psm = channel.psm; far = channel.far; near = channel.near; enhanced = enhanced }

-- the latest channel of that number gets that mode
abbrev pub with_mode : Direction → ℕ → Bool → List Channel → List Channel
with_mode direction cid enhanced [] = []
with_mode direction cid enhanced (channel ∷ earlier) = cond (number direction channel == cid) (in_mode channel enhanced ∷ earlier) (channel ∷ with_mode direction cid enhanced earlier)

-- the mode that a configuration request asks for: one without a mode option asks for none, and so does a malformed
-- one. Mode 3 is enhanced retransmission (5.4)
abbrev pub mode_by : Option ModeOption → Option Bool
mode_by None = None
mode_by (Some option) = Some (option.mode == 3)

abbrev pub mode_asked : Result Options ConfigRefusal → Option Bool
mode_asked (Ok options) = mode_by options.mode
mode_asked (Err refusal) = None

abbrev pub configured : Direction → ℕ → Option Bool → List Channel → List Channel
configured direction cid None channels = channels
configured direction cid (Some enhanced) channels = with_mode direction cid enhanced channels

abbrev pub with_request : Direction → ℕ → Request → Learnt → Learnt
with_request Out identifier request learnt = record { asked_out = (identifier, request) ∷ learnt.asked_out; asked_in = learnt.asked_in; channels = learnt.channels }
with_request In identifier request learnt = record { asked_out = learnt.asked_out; asked_in = (identifier, request) ∷ learnt.asked_in; channels = learnt.channels }

abbrev pub with_channels : Learnt → List Channel → Learnt
with_channels learnt channels = record { asked_out = learnt.asked_out; asked_in = learnt.asked_in; channels = channels }

-- What a command tells. A request is kept, also behind its answer. A response with result 0 makes a channel with the
-- latest request of its identifier and of the other direction. A configuration request tells the mode of the channel
-- that the receiver knows by that number. Nothing else tells of a channel.
abbrev pub told : Direction → ℕ → Content → Learnt → Learnt
told direction identifier (connection_request psm source) learnt = with_request direction identifier (record { psm = psm; source = source }) learnt
told direction identifier (connection_response destination source answer status) learnt =
    cond (answer == 0) (with_channels learnt (granted direction identifier destination (request_of identifier (asked (opposite direction) learnt)) learnt.channels)) learnt
told direction identifier (configuration_request destination flags options) learnt = with_channels learnt (configured direction destination (mode_asked (options_read options)) learnt.channels)
told direction identifier (reject reason rest) learnt = learnt
told direction identifier (configuration_response source flags answer options) learnt = learnt
told direction identifier (disconnection_request destination source) learnt = learnt
told direction identifier (disconnection_response destination source) learnt = learnt
told direction identifier (echo_request octets) learnt = learnt
told direction identifier (echo_response octets) learnt = learnt
told direction identifier (information_request kind) learnt = learnt
told direction identifier (information_response kind answer rest) learnt = learnt

-- what is known with one telling more
abbrev pub learn : Learnt → Telling → Learnt
learn learnt telling = told telling.direction telling.command.identifier telling.command.content learnt

-- the tellings of a payload on the signalling channel: what is refused tells nothing
abbrev pub told_by : Direction → Answer → List Telling
told_by direction (Ok command) = record { direction = direction; command = command } ∷ []
told_by direction (Err refusal) = []

abbrev pub tellings : Direction → List ℕ → List Telling
tellings direction payload = flat_map (told_by direction) (answers payload)

-- what is known with a payload more
abbrev pub heard : Direction → List ℕ → Learnt → Learnt
heard direction payload learnt = fold learn learnt (tellings direction payload)

-- how the PDUs of a channel are read: service discovery and RFCOMM by their PSMs, whatever the mode
abbrev pub protocol_of : Channel → Protocol
protocol_of channel =
    cond (channel.psm == 0x0001) Sdp (
    cond (channel.psm == 0x0003) Rfcomm (
    cond channel.enhanced Enhanced Data))

-- a number of no channel that is known carries data
abbrev pub protocol_by : Option Channel → Protocol
protocol_by None = Data
protocol_by (Some channel) = protocol_of channel

abbrev pub protocol : Learnt → Direction → ℕ → Protocol
protocol learnt direction cid = protocol_by (find direction cid learnt.channels)
