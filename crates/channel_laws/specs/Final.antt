-- Which responses end the wait of a request of a host (Core 5.1, Volume 3 Part A, 4.3, 4.5, 4.7 and 4.11).
use Rattle.std.specs.Prelude.{ℕ, ◌≡◌, ◌==◌, true, false, Option, Some, None, Result, Ok, Err}
use Rattle.own_channel_laws.specs.talk_laws.specs.l2cap_signal.specs.Commands.{Content, Command, reject, connection_request, connection_response, configuration_request, configuration_response, disconnection_request, disconnection_response, echo_request, echo_response, information_request, information_response}
use Rattle.own_channel_laws.specs.talk_laws.specs.l2cap_config.specs.declared.options.Options.{Options}
use Rattle.own_channel_laws.specs.talk_laws.specs.l2cap_config.specs.declared.options.ConfigRefusal.{ConfigRefusal}
use Rattle.own_channel_laws.specs.talk_laws.specs.l2cap_config.specs.declared.agreement.Settled.{Settled}
use Rattle.own_channel_laws.specs.talk_laws.specs.l2cap_config.specs.declared.agreement.Settled.TheVariants.{Accepted, Again, Wait, Never}
use Rattle.own_channel_laws.specs.talk_laws.specs.l2cap_config.specs.Reading.{options_read}
use Rattle.own_channel_laws.specs.talk_laws.specs.l2cap_config.specs.Agreement.{settled}
use Rattle.own_channel_laws.specs.channel_model.specs.declared.errand.Errand.{Errand}
use Rattle.own_channel_laws.specs.channel_model.specs.Value.{Request, Held, Channels}
use Rattle.own_channel_laws.specs.channel_model.specs.Policies.{Policy}
use Rattle.own_channel_laws.specs.channel_model.specs.Changing.{held_at, is_peer}
use Rattle.own_channel_laws.specs.channel_model.specs.Hearing.{hears_command}
use Rattle.own_channel_laws.specs.channel_model.specs.Responses.{is_fresh_endpoint}
use Rattle.channel_laws.specs.Adverse.{responds_to}
use Rattle.channel_laws.specs.Heeded.{WaitsNoMore}
use Rattle.own_channel_laws.specs.Tries.{request_of}

-- a response to a request for options is not that another one follows; and where it suggests other options, the next request has another identifier
abbrev pub IsDecided : Settled → (identifier next : ℕ) → Type 0
IsDecided Accepted identifier next = Unit {0}
IsDecided (Again options) identifier next = (next == identifier) ≡ false
IsDecided Wait identifier next = ⊥
IsDecided Never identifier next = Unit {0}

-- its options can be read
abbrev pub IsDecidedBy : Result Options ConfigRefusal → Policy → (answer identifier next : ℕ) → Held → Type 0
IsDecidedBy (Ok options) policy answer identifier next held = IsDecided (settled (policy.wish held.psm) answer options) identifier next
IsDecidedBy (Err refusal) policy answer identifier next held = ⊥

abbrev pub OnHeld : (Held → Type 0) → Option Held → Type 0
OnHeld P None = Unit {0}
OnHeld P (Some held) = P held

-- It says something final: of a channel that it is granted with an endpoint that no other channel has, or refused; of options as above; of the
-- end of a channel that it is that with this endpoint of the peer.
abbrev pub IsFinal : Policy → (identifier : ℕ) → Content → Channels → Type 0
IsFinal policy identifier (reject reason rest) v = Unit {0}
IsFinal policy identifier (connection_request psm source) v = Unit {0}
IsFinal policy identifier (connection_response destination source answer status) v = ((answer == 1) ≡ false) × ((answer == 0) ≡ true → is_fresh_endpoint destination v ≡ true)
IsFinal policy identifier (configuration_request destination flags options) v = Unit {0}
IsFinal policy identifier (configuration_response source flags answer options) v = OnHeld (IsDecidedBy (options_read options) policy answer identifier v.identifier) (held_at source v)
IsFinal policy identifier (disconnection_request destination source) v = Unit {0}
IsFinal policy identifier (disconnection_response destination source) v = OnHeld (λ held. is_peer destination held.stage ≡ true) (held_at source v)
IsFinal policy identifier (echo_request octets) v = Unit {0}
IsFinal policy identifier (echo_response octets) v = Unit {0}
IsFinal policy identifier (information_request kind) v = Unit {0}
IsFinal policy identifier (information_response kind answer rest) v = Unit {0}

-- Whatever a host holds: a response to a request that waits ends its wait, where it is final.
abbrev pub FinalResponsesEndWaits : Type 0
FinalResponsesEndWaits = (policy : Policy) (v : Channels) (errand : Errand) (request : Request) (command : Command) → request_of errand v ≡ Some request → responds_to errand request.identifier command ≡ true
    → IsFinal policy request.identifier command.content v → WaitsNoMore errand request.identifier (hears_command policy (Ok command) v)
