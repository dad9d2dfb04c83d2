-- What the timer makes of a channel.
use Rattle.std.specs.Prelude.{ℕ, Bool, false, Option, Some, None}
use Rattle.ertm_model.specs.declared.reason.ErtmReason.{ErtmReason}
use Rattle.ertm_model.specs.Value.{Ertm}
use Rattle.ertm_model.specs.Giving.{timed}
use Rattle.channel_model.specs.Value.{Request, Own, Unasked, Asking, Granted, Carrier, Plain, Retransmitting, Setup, Stage, Requested, Connected, Leaving, Closing, Crossed, Held, Channels}
use Rattle.channel_model.specs.Changing.{is_retransmitting, has_fcs_by, setup_of, stage_with}
use Rattle.channel_model.specs.Asking as asking
use Rattle.channel_model.specs.Timing.{times_carrier, times_setup, loses_end}
use Rattle.channel_model.specs.declared.event.CloseReason.TheVariants.{RetryLimit}
use Rattle.channel_model.specs.Closing.{ends}
use Rattle.l2cap_channels.specs.declared.timing.Fired.{Fired}
use Rattle.l2cap_channels.specs.declared.timing.Fired.TheVariants.{StillDue, OnceMore, Spent}

abbrev pub fired_value : Fired → asking.Fired
fired_value StillDue = asking.StillDue
fired_value OnceMore = asking.OnceMore
fired_value Spent = asking.Spent

-- a channel that closes, with this request for its end unless one waits
abbrev pub shut : Request → Stage → Stage
shut request (Requested before) = Requested before
shut request (Connected peer setup) = Closing peer request (has_fcs_by setup)
shut request (Leaving peer setup before) = Closing peer before (has_fcs_by setup)
shut request (Closing peer before checked) = Closing peer before checked
shut request (Crossed peer before) = Crossed peer before

-- a channel whose machine has changed, and closes with it
abbrev pub settled : Option ErtmReason → Ertm → Request → Setup → Stage → Stage
settled None machine request setup stage = stage_with (record setup { carrier = Some (Retransmitting machine) }) stage
settled (Some reason) machine request setup stage = shut request stage

abbrev pub carrier_reason : Option Carrier → Option ErtmReason
carrier_reason None = None
carrier_reason (Some (Plain agreed waiting)) = None
carrier_reason (Some (Retransmitting machine)) = (timed machine).closed

abbrev pub carrier_stage : Option Carrier → Request → Setup → Stage → Stage
carrier_stage None request setup stage = stage
carrier_stage (Some (Plain agreed waiting)) request setup stage = stage
carrier_stage (Some (Retransmitting machine)) request setup stage = settled (timed machine).closed (timed machine) request setup stage

-- the carrier of a channel that is there is a machine
abbrev pub retransmits_on : Option Setup → Bool
retransmits_on None = false
retransmits_on (Some setup) = is_retransmitting setup.carrier

abbrev pub reason_on : Option Setup → Option ErtmReason
reason_on None = None
reason_on (Some setup) = carrier_reason setup.carrier

abbrev pub timed_on : Option Setup → Request → Stage → Stage
timed_on None request stage = stage
timed_on (Some setup) request stage = carrier_stage setup.carrier request setup stage

-- a channel once its machine's timer fired
abbrev pub timed_stage : Request → Stage → Stage
timed_stage request stage = timed_on (setup_of stage) request stage

-- the own request for options that waits
abbrev pub asked_by : Own → Option Request
asked_by Unasked = None
asked_by (Asking request options) = Some request
asked_by Granted = None

abbrev pub asked_on : Option Setup → Option Request
asked_on None = None
asked_on (Some setup) = asked_by setup.own

-- the machine of the channel at a place
abbrev pub machine_on : Option Setup → Held → Channels → Channels
machine_on None held v = v
machine_on (Some setup) held v = times_carrier setup.carrier held setup v

abbrev pub times_machine : Option Held → Channels → Channels
times_machine None v = v
times_machine (Some held) v = machine_on (setup_of held.stage) held v

-- the own request for options of the channel at a place, or else its machine
abbrev pub options_on : Option Setup → (tries : ℕ) → Held → Channels → Channels
options_on None tries held v = v
options_on (Some setup) tries held v = times_setup setup.own tries held setup v

abbrev pub times_options : Option Held → (tries : ℕ) → Channels → Channels
times_options None tries v = v
times_options (Some held) tries v = options_on (setup_of held.stage) tries held v

-- the request for the end is given up
abbrev pub ends_lost_at : Stage → Held → Channels → Channels
ends_lost_at (Requested request) held v = v
ends_lost_at (Connected peer setup) held v = v
ends_lost_at (Leaving peer setup request) held v = ends RetryLimit held v
ends_lost_at (Closing peer request checked) held v = loses_end held v
ends_lost_at (Crossed peer request) held v = loses_end held v

abbrev pub ends_lost : Option Held → Channels → Channels
ends_lost None v = v
ends_lost (Some held) v = ends_lost_at held.stage held v
