-- PDUs that are given.
use Rattle.std.specs.Prelude.{ℕ, ◌≡◌, List, ◌++◌, length, drop, option_map, Option, Some, None}
use Rattle.l2cap_signal.specs.Commands.{Command}
use Rattle.channel_model.specs.declared.errand.Errand.{Errand}
use Rattle.channel_model.specs.declared.errand.Errand.TheVariants.{Connection, Configuration, Disconnection, Features}
use Rattle.channel_model.specs.Value.{Setup, Stage, Held}
use Rattle.channel_model.specs.Changing.{setup_of, stage_with}
use Rattle.channel_model.specs.Giving.{Given, IsPdu, next_given, after_given, carrier_given, stage_gives, connection_at, configuration_at, disconnection_at, connection_given, configuration_given, disconnection_given}
use Rattle.l2cap_channels.specs.Machine.{Machine, with_channels}

-- the octets of what is given are written from the front on, and no others
abbrev pub WritesNext : Option Given → List ℕ → Option ℕ → List ℕ → Type 0
WritesNext None old result new = (result ≡ None) × (new ≡ old)
WritesNext (Some given) old result new = (pdu : List ℕ) × IsPdu given pdu × (result ≡ Some (length pdu)) × (new ≡ pdu ++ drop (length pdu) old)

pub record Gives (old : Machine) (before : List ℕ) (result : Option ℕ) (new : Machine) (behind : List ℕ) : Type 0 where
  pub pdu : WritesNext (next_given old.channels) before result behind
  pub after : new ≡ with_channels old (after_given old.channels)

-- ---- a channel

abbrev pub spent_on : Option Setup → Stage → Stage
spent_on None stage = stage
spent_on (Some setup) stage = stage_with (record setup { carrier = option_map carrier_given setup.carrier }) stage

-- once what its carrier has to give was given
abbrev pub spent : Stage → Stage
spent stage = spent_on (setup_of stage) stage

abbrev pub place_gives : Option Held → Option Given
place_gives None = None
place_gives (Some held) = stage_gives held.stage

-- the command of an own request about the channel
abbrev pub command_at : Errand → Held → Option Command
command_at (Connection own) held = connection_at held.stage held
command_at (Configuration own) held = configuration_at held.stage
command_at (Disconnection own) held = disconnection_at held.stage held
command_at Features held = None

abbrev pub place_command : Errand → Option Held → Option Command
place_command errand None = None
place_command errand (Some held) = command_at errand held

-- once it was given
abbrev pub stage_counted : Errand → Stage → Stage
stage_counted (Connection own) stage = connection_given stage
stage_counted (Configuration own) stage = configuration_given stage
stage_counted (Disconnection own) stage = disconnection_given stage
stage_counted Features stage = stage
