-- What a host makes of a PDU that comes in (Core 5.1, Volume 3 Part A, 3.1 and 4).
use Rattle.std.specs.Prelude.{ℕ, ◌%◌, ◌==◌, ◌&&◌, nat_le, Bool, true, false, List, drop, fold, Option, Some, None, Ok, Err, if◌then◌else◌}
use Rattle.l2cap_signal.specs.Commands.{Content, reject, connection_request, connection_response, configuration_request, configuration_response, disconnection_request, disconnection_response, echo_request, echo_response, information_request, information_response}
use Rattle.l2cap_signal.specs.Reading.{Answer, answers}
use Rattle.l2cap_signal.specs.declared.refusal.SignalRefusal.{SignalRefusal}
use Rattle.l2cap_signal.specs.declared.refusal.SignalRefusal.TheVariants.{ZeroIdentifier, BadLength, UnknownCode, AboveMtu}
use Rattle.channel_model.specs.declared.request_kind.RequestKind.{RequestKind}
use Rattle.channel_model.specs.declared.request_kind.RequestKind.TheVariants.{Connection, Configuration, Disconnection, Echo, Information}
use Rattle.channel_model.specs.Value.{Channels}
use Rattle.channel_model.specs.Policies.{Policy}
use Rattle.channel_model.specs.Changing.{held_at}
use Rattle.channel_model.specs.Answers.{kind_of_code, not_understood, too_long}
use Rattle.channel_model.specs.Following.{hears_request, hears_question, hears_again}
use Rattle.channel_model.specs.Responses.{hears_grant, hears_response, hears_end, hears_features, features_in}
use Rattle.channel_model.specs.Carrying.{takes, Up, Nothing, up_at}

-- ---- a command that can be read

abbrev pub hears_content : Policy → (identifier : ℕ) → Content → Channels → Channels
hears_content policy identifier (reject reason rest) v = hears_features identifier None v
hears_content policy identifier (connection_request psm source) v = hears_question policy Connection identifier (connection_request psm source) v
hears_content policy identifier (connection_response destination source answer status) v =
    hears_grant (held_at source v) policy identifier destination answer v
hears_content policy identifier (configuration_request destination flags options) v =
    hears_question policy Configuration identifier (configuration_request destination flags options) v
hears_content policy identifier (configuration_response source flags answer options) v =
    hears_response (held_at source v) policy identifier answer options v
hears_content policy identifier (disconnection_request destination source) v =
    hears_question policy Disconnection identifier (disconnection_request destination source) v
hears_content policy identifier (disconnection_response destination source) v = hears_end (held_at source v) destination v
hears_content policy identifier (echo_request octets) v = hears_question policy Echo identifier (echo_request octets) v
hears_content policy identifier (echo_response octets) v = v
hears_content policy identifier (information_request kind) v = hears_question policy Information identifier (information_request kind) v
hears_content policy identifier (information_response kind answer rest) v = hears_features identifier (features_in kind answer rest) v

-- ---- a command that is refused

-- a malformed request is a request of its kind all the same; its answer says that it was not understood (4.1)
abbrev pub hears_malformed : Option RequestKind → (identifier : ℕ) → Channels → Channels
hears_malformed None identifier v = v
hears_malformed (Some kind) identifier v = hears_request kind identifier (Some not_understood) (λ w. w) v

-- the codes of responses are 01, 03, 05, 07, 09 and 0B; a malformed one is nothing
abbrev pub is_response_code : ℕ → Bool
is_response_code code = nat_le code 0x0B && (code % 2 == 1)

abbrev pub is_kind : Option RequestKind → Bool
is_kind None = false
is_kind (Some kind) = true

-- with an unknown code it is no request, and never one that is repeated
abbrev pub hears_unread : (code identifier : ℕ) → Channels → Channels
hears_unread code identifier v =
    if identifier == 0 then v else
    if is_response_code code then v else
    if is_kind (kind_of_code code) then hears_malformed (kind_of_code code) identifier v else
    hears_again identifier (Some not_understood) v

abbrev pub hears_refused : SignalRefusal → Channels → Channels
hears_refused (ZeroIdentifier code identifier) v = v
hears_refused (BadLength code None) v = v
hears_refused (BadLength code (Some identifier)) v = hears_unread code identifier v
hears_refused (UnknownCode code None) v = v
hears_refused (UnknownCode code (Some identifier)) v = hears_unread code identifier v
hears_refused (AboveMtu code None) v = v
hears_refused (AboveMtu code (Some identifier)) v = if identifier == 0 then v else hears_again identifier (Some too_long) v

-- ---- a PDU

abbrev pub hears_command : Policy → Answer → Channels → Channels
hears_command policy (Ok command) v = hears_content policy command.identifier command.content v
hears_command policy (Err refusal) v = hears_refused refusal v

-- the commands of a payload, one after the other
abbrev pub hears_commands : Policy → List Answer → Channels → Channels
hears_commands policy given v = fold (λ w one. hears_command policy one w) v given

-- a PDU comes in, whole, for an endpoint; endpoint 0x0001 is that of signalling
abbrev pub hears : Policy → (endpoint : ℕ) → List ℕ → Channels → Channels
hears policy endpoint pdu v = if endpoint == 0x0001 then hears_commands policy (answers (drop 4 pdu)) v else takes endpoint pdu v

abbrev pub up : (endpoint : ℕ) → List ℕ → Channels → Up
up endpoint pdu v = if endpoint == 0x0001 then Nothing else up_at endpoint pdu v
