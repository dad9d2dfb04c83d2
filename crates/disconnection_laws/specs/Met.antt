-- That a request for the end of a channel is responded to, and that the response ends its wait (Core 5.1, Volume 3 Part A, 4, 4.6 and 4.7).
use Rattle.std.specs.Prelude.{ℕ, ◌≡◌, ◌≤◌, List, [], Some, None, ◌⊎◌}
use Rattle.channel_laws.specs.capture.specs.Histories.{EachAfter}
use Rattle.channel_laws.specs.l2cap_signal.specs.Commands.{Command, disconnection_request}
use Rattle.channel_laws.specs.link_talk.specs.Sayings.{Saying}
use Rattle.channel_laws.specs.channel_model.specs.declared.errand.Errand.TheVariants.{Disconnection}
use Rattle.channel_laws.specs.channel_model.specs.Giving.{command_of}
use Rattle.channel_laws.specs.channel_model.specs.Policies.{Policy}
use Rattle.channel_laws.specs.channel_model.specs.Value.{Channels}
use Rattle.channel_laws.specs.Adverse.{AreRoomy}
use Rattle.channel_laws.specs.Belonging.{AreRead, said_at, HasAsked}
use Rattle.channel_laws.specs.Ends.{end_at}
use Rattle.channel_laws.specs.Heeded.{AreMet}
use Rattle.channel_laws.specs.Named.{HaveNames}
use Rattle.channel_laws.specs.OwnTalk.{spoken, command_with}
use Rattle.channel_laws.specs.Pairs.{Side, turned, Turn, pair_after, pair_of}
use Rattle.channel_laws.specs.Signals.{StandsIn}
use Rattle.disconnection_laws.specs.Waits.{GrantsApart}

-- ---- what is asked of the host that responds

-- it asked for no channel, and for the end of none
pub record AskedForNothing (said : List Saying) : Type 0 where
  pub no_channel : (identifier psm own : ℕ) → HasAsked identifier psm own said → ⊥
  pub no_end : (identifier own peer : ℕ) → StandsIn (spoken (command_with identifier (disconnection_request peer own))) said → ⊥

-- ---- what is asked of the host that asks

-- the identifiers of its requests that wait have not come round, and one request for an end waits at a time
pub record AsksSingly (v : Channels) : Type 0 where
  pub names : HaveNames v
  pub single : (own other : ℕ) (first second : Command) → command_of (Disconnection own) v ≡ Some first → command_of (Disconnection other) v ≡ Some second → own ≡ other

-- from one moment to the next: each request for an end waited before, or none did for that channel, and it has an identifier that was not given before
pub record AsksOn (v w : Channels) : Type 0 where
  pub rises : v.identifier ≤ w.identifier
  pub anew : (own : ℕ) (command : Command) → command_of (Disconnection own) w ≡ Some command → (command_of (Disconnection own) v ≡ Some command) ⊎ ((command_of (Disconnection own) v ≡ None) × (v.identifier ≤ command.identifier))

-- so it is at each moment
abbrev pub AskInOrder : Side → (near far : Policy) → List Turn → Type 0
AskInOrder side near far turns = EachAfter (λ past turn. AsksSingly (end_at side (pair_of near far past)).run.value × AsksOn (end_at side (pair_of near far past)).run.value (end_at side (pair_after (pair_of near far past) turn)).run.value) [] turns

-- ---- the law

-- Then, whatever the link loses, repeats and damages: where an answer has room when something comes in, each copy of a request for an end that comes in is
-- responded to, and each response to it ends its wait.
abbrev pub EndsAreMet : Type 0
EndsAreMet = (near far : Policy) (turns : List Turn) → AreRead near far turns → AreRoomy near far turns → (side : Side) → AskInOrder side near far turns
    → GrantsApart (said_at side (turned (pair_of near far turns))) → AskedForNothing (said_at side (turned (pair_of near far turns))) → (own : ℕ) → AreMet (Disconnection own) side near far turns
