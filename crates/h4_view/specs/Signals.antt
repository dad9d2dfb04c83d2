-- What stands under a PDU of the signalling channel (this project's own).
use Rattle.std.specs.Prelude.{ℕ, List, [], ◌∷◌, ◌++◌, Ok, Err, codes}
use Rattle.std.specs.List.{flat_map}
use Rattle.hex.specs.Hex.{encode_upper}
use Rattle.l2cap_signal.specs.declared.refusal.SignalRefusal.{SignalRefusal}
use Rattle.l2cap_signal.specs.declared.refusal.SignalRefusal.TheVariants.{ZeroIdentifier, BadLength, UnknownCode, AboveMtu}
use Rattle.l2cap_signal.specs.Commands.{Content, code_of, payload_of, reject, connection_request, connection_response, configuration_request, configuration_response, disconnection_request, disconnection_response, echo_request, echo_response, information_request, information_response}
use Rattle.l2cap_signal.specs.Reading.{Answer, answers}
use Rattle.h4_view.specs.Texts.{octets_text}

-- the name of what a command says (Core 5.1, Volume 3 Part A, 4)
abbrev pub kind_name : Content → List ℕ
kind_name (reject reason rest) = codes "Reject"
kind_name (connection_request psm source) = codes "ConnectionRequest"
kind_name (connection_response destination source answer status) = codes "ConnectionResponse"
kind_name (configuration_request destination flags options) = codes "ConfigurationRequest"
kind_name (configuration_response source flags answer options) = codes "ConfigurationResponse"
kind_name (disconnection_request destination source) = codes "DisconnectionRequest"
kind_name (disconnection_response destination source) = codes "DisconnectionResponse"
kind_name (echo_request octets) = codes "EchoRequest"
kind_name (echo_response octets) = codes "EchoResponse"
kind_name (information_request kind) = codes "InformationRequest"
kind_name (information_response kind answer rest) = codes "InformationResponse"

-- the name of the refusal of a command
abbrev pub refused_name : SignalRefusal → List ℕ
refused_name (ZeroIdentifier code identifier) = codes "ZeroIdentifier"
refused_name (BadLength code identifier) = codes "BadLength"
refused_name (UnknownCode code identifier) = codes "UnknownCode"
refused_name (AboveMtu code identifier) = codes "AboveMtu"

-- the line of a command, or of its refusal
abbrev pub signal_text : Answer → List ℕ
signal_text (Ok command) = codes "  sig " ++ encode_upper (code_of command.content ∷ []) ++ codes " " ++ encode_upper (command.identifier ∷ []) ++ codes " " ++ kind_name command.content ++ codes " " ++ octets_text (payload_of command.content) ++ codes "\n"
signal_text (Err refusal) = codes "  sig bad " ++ refused_name refusal ++ codes "\n"

-- the lines of all that a payload says
abbrev pub signals_text : List ℕ → List ℕ
signals_text payload = flat_map signal_text (answers payload)
