-- Firings of which all that is said waits to be given (Core 5.1, Volume 3 Part A, 4.1 and 6.2.1).
use Rattle.std.specs.Prelude.{ℕ, ◌≡◌, nat_le, true, List, Option, Some, None}
use Rattle.channel_laws.specs.channel_model.specs.Value.{Request, Own, Unasked, Asking, Granted, Stage, Requested, Connected, Leaving, Closing, Crossed, Held, Channels}
use Rattle.channel_laws.specs.channel_model.specs.Policies.{Policy}
use Rattle.channel_laws.specs.channel_model.specs.Changing.{held_at}
use Rattle.channel_laws.specs.Runs.{Occurrence, run_of}
use Rattle.host_laws.specs.Seen.{FiresPlainly}

-- where the end of a channel was asked for as often as may be, so were its options, if they are asked for
abbrev pub IsSteadyOwn : (tries : ℕ) → (end : Request) → Own → Type 0
IsSteadyOwn tries end Unasked = Unit {0}
IsSteadyOwn tries end (Asking request options) = nat_le tries end.given ≡ true → nat_le tries request.given ≡ true
IsSteadyOwn tries end Granted = Unit {0}

abbrev pub IsSteadyStage : (tries : ℕ) → Stage → Type 0
IsSteadyStage tries (Requested request) = Unit {0}
IsSteadyStage tries (Connected peer setup) = Unit {0}
IsSteadyStage tries (Leaving peer setup request) = IsSteadyOwn tries request setup.own
IsSteadyStage tries (Closing peer request checked) = Unit {0}
IsSteadyStage tries (Crossed peer request) = Unit {0}

abbrev pub IsSteadyAt : (tries : ℕ) → Option Held → Type 0
IsSteadyAt tries None = Unit {0}
IsSteadyAt tries (Some held) = IsSteadyStage tries held.stage

-- each channel, of a host that asks so often at most
abbrev pub IsSteady : (tries : ℕ) → Channels → Type 0
IsSteady tries v = (own : ℕ) → IsSteadyAt tries (held_at own v)

-- A firing of steady channels says what waits behind it, in its order, where no command waited before.
abbrev pub SteadyFirePlainly : Type 0
SteadyFirePlainly = (policy : Policy) (list : List Occurrence) → IsSteady policy.tries (run_of policy list).value → FiresPlainly policy (run_of policy list).value
