-- What is said by the numbers of a response and the octets behind them.
use Rattle.std.specs.Prelude.{ℕ, List}
use Rattle.l2cap_signal.specs.Commands.{Content, reject, connection_response, configuration_response, disconnection_response, echo_response, information_response}
use Rattle.l2cap_channels.specs.declared.response.Head.{Head}
use Rattle.l2cap_channels.specs.declared.response.Head.TheVariants.{Reject, Connection, Configuration, Disconnection, Echo, Information}

-- what numbers and the octets behind them say
abbrev pub said : Head → List ℕ → Content
said (Reject reason) rest = reject reason rest
said (Connection destination source answer) rest = connection_response destination source answer 0
said (Configuration source flags answer) rest = configuration_response source flags answer rest
said (Disconnection destination source) rest = disconnection_response destination source
said Echo rest = echo_response rest
said (Information kind answer) rest = information_response kind answer rest
