-- The channels whose end a host answered (Core 5.1, Volume 3 Part A, 4.6 and 4.7).
use Rattle.std.specs.Prelude.{ℕ, ◌≡◌, false, List, Option, Some, None, Ok}
use Rattle.channel_laws.specs.capture.specs.declared.flow.Flow.TheVariants.{Into}
use Rattle.channel_laws.specs.l2cap_signal.specs.Commands.{disconnection_request, disconnection_response}
use Rattle.channel_laws.specs.link_talk.specs.Channels.{Entry, is_there, reading}
use Rattle.channel_laws.specs.link_talk.specs.Sayings.{Saying}
use Rattle.channel_laws.specs.link_talk.specs.Sayings as sayings
use Rattle.channel_laws.specs.channel_model.specs.Policies.{Policy}
use Rattle.channel_laws.specs.OwnTalk.{spoken, command_with}
use Rattle.channel_laws.specs.Runs.{Occurrence, run_of}
use Rattle.channel_laws.specs.Signals.{StandsIn}
use Rattle.channel_laws.specs.Views.{read_at}

-- a host answered a request for the end of the channel of these endpoints
abbrev pub HasAnsweredEnd : (identifier own peer : ℕ) → List Saying → Type 0
HasAnsweredEnd identifier own peer said = StandsIn (spoken (command_with identifier (disconnection_response own peer))) said

-- it heard such a request
abbrev pub HasHeardEnd : (identifier own peer : ℕ) → List Saying → Type 0
HasHeardEnd identifier own peer said = StandsIn (sayings.Command Into (Ok (command_with identifier (disconnection_request own peer)))) said

-- a channel for that endpoint of the peer is read, and has ended for its host
abbrev pub IsEndedFor : (peer : ℕ) → Option Entry → Type 0
IsEndedFor peer None = ⊥
IsEndedFor peer (Some entry) = (entry.channel.peer ≡ peer) × (is_there entry.life ≡ false)

-- Whatever happens: where a host answered so, it heard the request, and its own talk has that channel, and it has ended.
abbrev pub AnsweredEndsAreEnded : Type 0
AnsweredEndsAreEnded = (policy : Policy) (list : List Occurrence) (identifier own peer : ℕ) → HasAnsweredEnd identifier own peer (run_of policy list).said → IsEndedFor peer (read_at own (reading (run_of policy list).said).entries) × HasHeardEnd identifier own peer (run_of policy list).said
