-- That a channel of one end of a link belongs to one of the other (Core 5.1, Volume 3 Part A, 4.2 and 4.3).
use Rattle.std.specs.Prelude.{ℕ, ◌≡◌, ◌<◌, ◌≤◌, ◌==◌, Bool, true, false, length, List, [], ◌∷◌, drop, Option, Some, None, Ok, ◌⊎◌}
use Rattle.own_channel_laws.specs.talk_laws.specs.acl_fragments.specs.Pieces.{channel_of}
use Rattle.own_channel_laws.specs.talk_laws.specs.capture.specs.Histories.{EachAfter}
use Rattle.own_channel_laws.specs.talk_laws.specs.capture.specs.declared.flow.Flow.TheVariants.{Into}
use Rattle.own_channel_laws.specs.talk_laws.specs.l2cap_signal.specs.Commands.{Content, Command, reject, connection_request, connection_response, configuration_request, configuration_response, disconnection_request, disconnection_response, echo_request, echo_response, information_request, information_response, spelling, IsCommand}
use Rattle.own_channel_laws.specs.talk_laws.specs.l2cap_signal.specs.Reading.{answers}
use Rattle.own_channel_laws.specs.talk_laws.specs.link_talk.specs.declared.channel.Channel.{Channel}
use Rattle.own_channel_laws.specs.talk_laws.specs.link_talk.specs.Sayings.{Saying}
use Rattle.own_channel_laws.specs.talk_laws.specs.link_talk.specs.Sayings as sayings
use Rattle.own_channel_laws.specs.talk_laws.specs.link_talk.specs.Channels.{Entry, reading}
use Rattle.own_channel_laws.specs.channel_model.specs.Policies.{Policy}
use Rattle.own_channel_laws.specs.channel_model.specs.Giving.{Given, Signal, Whole, Framed, IsPdu, next_given}
use Rattle.own_channel_laws.specs.OwnTalk.{spoken, command_with}
use Rattle.own_channel_laws.specs.Views.{read_at}
use Rattle.channel_laws.specs.Pairs.{End, Pair, Happening, Acts, Puts, Takes, Repeats, Loses, Damages, Side, turned, Turn, pair_of}
use Rattle.channel_laws.specs.Ends.{end_at}
use Rattle.own_channel_laws.specs.Signals.{StandsIn}

-- ---- what is read of what is under way

-- a command that is given is read as that command, and anything else is none
abbrev pub IsReadAs : Option Given → List ℕ → Type 0
IsReadAs None pdu = Unit {0}
IsReadAs (Some (Signal command)) pdu = answers (drop 4 pdu) ≡ Ok command ∷ []
IsReadAs (Some (Whole peer sdu)) pdu = (channel_of pdu == 0x0001) ≡ false
IsReadAs (Some (Framed peer frame)) pdu = (channel_of pdu == 0x0001) ≡ false

-- what is given is fit for a link: a command has a spelling, which is no longer than what is heard of one payload, and all else
-- has a channel of its own
abbrev pub IsFit : Given → Type 0
IsFit (Signal command) = IsCommand command × (length (spelling command) ≤ 672)
IsFit (Whole peer sdu) = (peer < 65536) × ((peer == 0x0001) ≡ false)
IsFit (Framed peer frame) = (peer == 0x0001) ≡ false

-- What is fit for a link is read as what it is, of its octets.
abbrev pub UtteredIsRead : Type 0
UtteredIsRead = (given : Given) (pdu : List ℕ) → IsFit given → IsPdu given pdu → IsReadAs (Some given) pdu

-- and what is damaged is no command
abbrev pub IsRead : Happening → End → Type 0
IsRead (Acts occurrence) end' = Unit {0}
IsRead (Puts pdu) end' = IsReadAs (next_given end'.run.value) pdu
IsRead Takes end' = Unit {0}
IsRead Repeats end' = Unit {0}
IsRead Loses end' = Unit {0}
IsRead (Damages pdu) end' = (channel_of pdu == 0x0001) ≡ false

abbrev pub AreRead : (near far : Policy) → List Turn → Type 0
AreRead near far turns = EachAfter (λ past turn. IsRead turn.happening (end_at turn.side (pair_of near far past))) [] turns

-- ---- what was said

-- at one end, and of the turned pair at the other
abbrev pub said_at : Side → Pair → List Saying
said_at side pair = (end_at side pair).run.said

-- a response, or a request for a channel
abbrev pub is_pledge : Content → Bool
is_pledge (reject reason rest) = true
is_pledge (connection_request psm source) = true
is_pledge (connection_response destination source answer status) = true
is_pledge (configuration_request destination flags options) = false
is_pledge (configuration_response source flags answer options) = true
is_pledge (disconnection_request destination source) = false
is_pledge (disconnection_response destination source) = true
is_pledge (echo_request octets) = false
is_pledge (echo_response octets) = true
is_pledge (information_request kind) = false
is_pledge (information_response kind answer rest) = true

-- Whatever the link loses, repeats and damages: each response, and each request for a channel, that one end heard the other
-- said, with the same identifier.
abbrev pub PledgesWereSaid : Type 0
PledgesWereSaid = (near far : Policy) (turns : List Turn) → AreRead near far turns → (side : Side) (command : Command) → is_pledge command.content ≡ true → StandsIn (sayings.Command Into (Ok command)) (said_at side (pair_of near far turns))
    → StandsIn (spoken command) (said_at side (turned (pair_of near far turns)))

-- ---- channels

-- a host asked for a channel, with its endpoint
abbrev pub HasAsked : (identifier psm own : ℕ) → List Saying → Type 0
HasAsked identifier psm own said = StandsIn (spoken (command_with identifier (connection_request psm own))) said

-- it granted one, with its endpoint and the peer's
abbrev pub HasGranted : (identifier status own peer : ℕ) → List Saying → Type 0
HasGranted identifier status own peer said = StandsIn (spoken (command_with identifier (connection_response own peer 0 status))) said

-- one of two ends asked for it, and the other's response to that granted it
abbrev pub Belongs : (mine other : List Saying) → Channel → Type 0
Belongs mine other channel = (identifier : ℕ) × (status : ℕ) × ((HasGranted identifier status channel.own channel.peer mine × HasAsked identifier channel.psm channel.peer other) ⊎ (HasAsked identifier channel.psm channel.own mine × HasGranted identifier status channel.peer channel.own other))

-- Whatever the link loses, repeats and damages: each channel of one end was granted by it where the other asked for it with the
-- same PSM, or was asked for by it with its PSM and granted by the other, with the endpoints that the two have of it.
abbrev pub ChannelsBelong : Type 0
ChannelsBelong = (near far : Policy) (turns : List Turn) → AreRead near far turns → (side : Side) (own : ℕ) (entry : Entry) → read_at own (reading (said_at side (pair_of near far turns))).entries ≡ Some entry
    → Belongs (said_at side (pair_of near far turns)) (said_at side (turned (pair_of near far turns))) entry.channel
