-- That a host answers no request for the end of a channel but its peer's (Core 5.1, Volume 3 Part A, 4.6 and 4.7).
use Rattle.std.specs.Prelude.{ℕ, List}
use Rattle.channel_laws.specs.l2cap_signal.specs.Commands.{disconnection_request}
use Rattle.channel_laws.specs.link_talk.specs.Sayings.{Saying}
use Rattle.channel_laws.specs.channel_model.specs.Policies.{Policy}
use Rattle.channel_laws.specs.Belonging.{AreRead, said_at}
use Rattle.channel_laws.specs.OwnTalk.{spoken, command_with}
use Rattle.channel_laws.specs.Pairs.{Side, turned, Turn, pair_of}
use Rattle.channel_laws.specs.Signals.{StandsIn}
use Rattle.disconnection_laws.specs.Ended.{HasAnsweredEnd}

-- a host asked for the end of its channel of these endpoints
abbrev pub HasAskedEnd : (own peer : ℕ) → List Saying → Type 0
HasAskedEnd own peer said = (identifier : ℕ) × StandsIn (spoken (command_with identifier (disconnection_request peer own))) said

-- Whatever the link loses, repeats and damages: where one end answered a request for the end of a channel, the other asked for it.
abbrev pub EndsAreAskedFor : Type 0
EndsAreAskedFor = (near far : Policy) (turns : List Turn) → AreRead near far turns → (side : Side) (identifier own peer : ℕ) → HasAnsweredEnd identifier own peer (said_at side (pair_of near far turns)) → HasAskedEnd peer own (said_at side (turned (pair_of near far turns)))
