-- That no response of a host says that another one follows (Core 5.1, Volume 3 Part A, 4.3 and 4.5).
use Rattle.std.specs.Prelude.{◌≡◌, ◌==◌, false, List}
use Rattle.talk_laws.specs.l2cap_signal.specs.Commands.{Content, Command, reject, connection_request, connection_response, configuration_request, configuration_response, disconnection_request, disconnection_response, echo_request, echo_response, information_request, information_response}
use Rattle.channel_model.specs.Value.{Answer}
use Rattle.channel_model.specs.Policies.{Policy}
use Rattle.own_channel_laws.specs.Runs.{Occurrence, run_of}
use Rattle.own_channel_laws.specs.Signals.{StandsIn}

-- result 1 of a channel, and result 4 of options, say that another response follows
abbrev pub IsDecisive : Content → Type 0
IsDecisive (reject reason rest) = Unit {0}
IsDecisive (connection_request psm source) = Unit {0}
IsDecisive (connection_response destination source answer status) = (answer == 1) ≡ false
IsDecisive (configuration_request destination flags options) = Unit {0}
IsDecisive (configuration_response source flags answer options) = (answer == 4) ≡ false
IsDecisive (disconnection_request destination source) = Unit {0}
IsDecisive (disconnection_response destination source) = Unit {0}
IsDecisive (echo_request octets) = Unit {0}
IsDecisive (echo_response octets) = Unit {0}
IsDecisive (information_request kind) = Unit {0}
IsDecisive (information_response kind answer rest) = Unit {0}

-- Whatever happens to a host, for every table of offers and wishes: so it is of each answer that waits to be given.
abbrev pub AnswersAreDecisive : Type 0
AnswersAreDecisive = (policy : Policy) (list : List Occurrence) (command : Command) → StandsIn (Answer command) (run_of policy list).value.queue → IsDecisive command.content
