-- That each endpoint of a host is given once on a link (Core 5.1, Volume 3 Part A, 2.1, 4.2 and 4.3).
use Rattle.std.specs.Prelude.{ℕ, ◌≡◌, ◌<◌, ◌≤◌, ◌==◌, List, ◌++◌, Option, Some, None, Ok, Err, ◌⊎◌, if◌then◌else◌}
use Rattle.channel_laws.specs.capture.specs.declared.flow.Flow.TheVariants.{Out, Into}
use Rattle.channel_laws.specs.l2cap_signal.specs.Commands.{Content, reject, connection_request, connection_response, configuration_request, configuration_response, disconnection_request, disconnection_response, echo_request, echo_response, information_request, information_response}
use Rattle.channel_laws.specs.link_talk.specs.Sayings.{Saying, Command, Carried, GaveUp}
use Rattle.channel_laws.specs.channel_model.specs.Policies.{Policy}
use Rattle.channel_laws.specs.Runs.{Occurrence, run_of}
use Rattle.channel_laws.specs.Signals.{StandsIn}

-- the endpoint that the side that says it gives to a channel: in a request for one (4.2), or in a response that grants one (4.3, result 0)
abbrev pub endpoint_named : Content → Option ℕ
endpoint_named (reject reason rest) = None
endpoint_named (connection_request psm source) = Some source
endpoint_named (connection_response destination source answer status) = if answer == 0 then Some destination else None
endpoint_named (configuration_request destination flags options) = None
endpoint_named (configuration_response source flags answer options) = None
endpoint_named (disconnection_request destination source) = None
endpoint_named (disconnection_response destination source) = None
endpoint_named (echo_request octets) = None
endpoint_named (echo_response octets) = None
endpoint_named (information_request kind) = None
endpoint_named (information_response kind answer rest) = None

-- and what a host says gives that endpoint of its own
abbrev pub gives_endpoint : Saying → Option ℕ
gives_endpoint (Command Out (Ok command)) = endpoint_named command.content
gives_endpoint (Command Out (Err refusal)) = None
gives_endpoint (Command Into answer) = None
gives_endpoint (Carried flow pdu) = None
gives_endpoint (GaveUp forgone) = None

-- Whatever happens, the endpoint that is given next never falls.
abbrev pub EndpointsRise : Type 0
EndpointsRise = (policy : Policy) (list later : List Occurrence) → (run_of policy list).value.next ≤ (run_of policy (list ++ later)).value.next

-- Each endpoint that a host asked for a channel with, or granted one with, is below it, also where the channel was refused or is long over.
abbrev pub GivenAreBelow : Type 0
GivenAreBelow = (policy : Policy) (list : List Occurrence) (one : Saying) (own : ℕ) → StandsIn one (run_of policy list).said → gives_endpoint one ≡ Some own → own < (run_of policy list).value.next

-- An endpoint is given by one request or by one grant, however often that is said: two that give it are the same, with the same identifier.
abbrev pub EndpointsAreGivenOnce : Type 0
EndpointsAreGivenOnce = (policy : Policy) (list : List Occurrence) (one other : Saying) (own : ℕ) → StandsIn one (run_of policy list).said → StandsIn other (run_of policy list).said
    → gives_endpoint one ≡ Some own → gives_endpoint other ≡ Some own → one ≡ other

-- A request or a grant that was not said at some moment, and is later, gives a greater endpoint than each that was said by then.
abbrev pub LaterAreGreater : Type 0
LaterAreGreater = (policy : Policy) (list later : List Occurrence) (earlier one : Saying) (before own : ℕ) → StandsIn earlier (run_of policy list).said → gives_endpoint earlier ≡ Some before
    → StandsIn one (run_of policy (list ++ later)).said → gives_endpoint one ≡ Some own → StandsIn one (run_of policy list).said ⊎ (before < own)
