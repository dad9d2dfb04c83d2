-- The own talk of a host on a link: what it heard, and what it let wait, in the order in which it did so (Core 5.1, Volume 3
-- Part A, 3.1 and 4). Where nothing waits in a host this is what moved on its link.
use Rattle.std.specs.Prelude.{ℕ, ◌==◌, List, [], ◌∷◌, ◌++◌, map, Option, Some, None, option_map, option_to_list, Ok, Err, if◌then◌else◌}
use Rattle.std.specs.Option.{option_and_then, option_or}
use Rattle.talk_laws.specs.l2cap_signal.specs.Commands.{Content, Command, reject, connection_request, connection_response, configuration_request, configuration_response, disconnection_request, disconnection_response, echo_request, echo_response, information_request, information_response}
use Rattle.talk_laws.specs.l2cap_signal.specs.Reading.{Answer as Read}
use Rattle.talk_laws.specs.l2cap_signal.specs.declared.refusal.SignalRefusal.TheVariants.{ZeroIdentifier, BadLength, UnknownCode, AboveMtu}
use Rattle.talk_laws.specs.capture.specs.declared.flow.Flow.TheVariants.{Out, Into}
use Rattle.talk_laws.specs.link_talk.specs.Sayings.{Saying}
use Rattle.talk_laws.specs.link_talk.specs.Sayings as sayings
use Rattle.channel_model.specs.declared.errand.Errand.{Errand}
use Rattle.channel_model.specs.declared.request_kind.RequestKind.{RequestKind}
use Rattle.channel_model.specs.declared.request_kind.RequestKind.TheVariants as kinds
use Rattle.channel_model.specs.Value.{Queued, Answer, Ask, Remembered, Channels}
use Rattle.channel_model.specs.Policies.{Policy}
use Rattle.channel_model.specs.Answers.{kind_of_code, remembered, not_understood, too_long, answer_to}
use Rattle.channel_model.specs.Following.{can_say}
use Rattle.channel_model.specs.Hearing.{hears_command, is_response_code}
use Rattle.channel_model.specs.Giving.{command_of}

abbrev pub spoken : Command → Saying
spoken command = sayings.Command Out (Ok command)

abbrev pub command_with : (identifier : ℕ) → Content → Command
command_with identifier content = record { identifier = identifier; content = content }

-- ---- the answer to a command

-- a request with the identifier of the last one of its kind gets the response of that one again
abbrev pub response_by : Option Remembered → (identifier : ℕ) → Option Content → Option Content
response_by None identifier fresh = fresh
response_by (Some last) identifier fresh = if last.identifier == identifier then last.response else fresh

abbrev pub response_as : RequestKind → (identifier : ℕ) → Option Content → Channels → Option Content
response_as kind identifier fresh v = response_by (remembered kind v.memory) identifier fresh

abbrev pub response_to : Policy → (identifier : ℕ) → Content → Channels → Option Content
response_to policy identifier (reject reason rest) v = None
response_to policy identifier (connection_request psm source) v =
    response_as kinds.Connection identifier (answer_to policy (connection_request psm source) v) v
response_to policy identifier (connection_response destination source answer status) v = None
response_to policy identifier (configuration_request destination flags options) v =
    response_as kinds.Configuration identifier (answer_to policy (configuration_request destination flags options) v) v
response_to policy identifier (configuration_response source flags answer options) v = None
response_to policy identifier (disconnection_request destination source) v =
    response_as kinds.Disconnection identifier (answer_to policy (disconnection_request destination source) v) v
response_to policy identifier (disconnection_response destination source) v = None
response_to policy identifier (echo_request octets) v = response_as kinds.Echo identifier (answer_to policy (echo_request octets) v) v
response_to policy identifier (echo_response octets) v = None
response_to policy identifier (information_request kind) v =
    response_as kinds.Information identifier (answer_to policy (information_request kind) v) v
response_to policy identifier (information_response kind answer rest) v = None

-- a request that cannot be read is not understood
abbrev pub response_malformed : Option RequestKind → (identifier : ℕ) → Channels → Option Content
response_malformed None identifier v = Some not_understood
response_malformed (Some kind) identifier v = response_as kind identifier (Some not_understood) v

abbrev pub response_unread : (code identifier : ℕ) → Channels → Option Content
response_unread code identifier v =
    if identifier == 0 then None else
    if is_response_code code then None else
    response_malformed (kind_of_code code) identifier v

abbrev pub command_if : (identifier : ℕ) → Option Content → Option Command
command_if identifier response = option_map (command_with identifier) response

abbrev pub reply_to : Policy → Read → Channels → Option Command
reply_to policy (Ok command) v = command_if command.identifier (response_to policy command.identifier command.content v)
reply_to policy (Err (ZeroIdentifier code identifier)) v = None
reply_to policy (Err (BadLength code None)) v = None
reply_to policy (Err (BadLength code (Some identifier))) v = command_if identifier (response_unread code identifier v)
reply_to policy (Err (UnknownCode code None)) v = None
reply_to policy (Err (UnknownCode code (Some identifier))) v = command_if identifier (response_unread code identifier v)
reply_to policy (Err (AboveMtu code None)) v = None
reply_to policy (Err (AboveMtu code (Some identifier))) v = command_if identifier (if identifier == 0 then None else Some too_long)

-- a request for whose answer there is no room is as if it were lost: it is not heard
abbrev pub exchanged : Read → Option Command → Channels → List Saying
exchanged one reply v =
    if can_say (option_map (λ (c : Command). c.content) reply) v
    then sayings.Command Into one ∷ map spoken (option_to_list reply)
    else []

-- ---- own requests

-- the errand of the last own request that waits to be given
abbrev pub newest : List Queued → Option Errand
newest [] = None
newest (Answer command ∷ behind) = newest behind
newest (Ask errand ∷ behind) = option_or (newest behind) (Some errand)

abbrev pub said_of : Option Errand → Channels → List Saying
said_of errand w = map spoken (option_to_list (option_and_then (λ one. command_of one w) errand))

-- between two moments with at most one new own request: each takes an identifier, and waits behind all others
abbrev pub asked_between : (before after : Channels) → List Saying
asked_between before after = if after.identifier == before.identifier then [] else said_of (newest after.queue) after

-- ---- a PDU comes in

abbrev pub said_with : Policy → Read → Channels → List Saying
said_with policy one v = exchanged one (reply_to policy one v) v ++ asked_between v (hears_command policy one v)

abbrev pub said_with_all : Policy → List Read → Channels → List Saying
said_with_all policy [] v = []
said_with_all policy (one ∷ more) v = said_with policy one v ++ said_with_all policy more (hears_command policy one v)
