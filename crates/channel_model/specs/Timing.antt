-- What the timer of a host does (Core 5.1, Volume 3 Part A, 6.2 and 8.6): each own request that waits for its response is
-- given once more, or given up where that was done as often as may be.
use Rattle.std.specs.Prelude.{ℕ, List, map, fold, Option, Some, None}
use Rattle.ertm_model.specs.Giving.{timed}
use Rattle.channel_model.specs.declared.errand.Errand.{Errand}
use Rattle.channel_model.specs.declared.errand.Errand.TheVariants.{Connection, Configuration, Disconnection, Features}
use Rattle.channel_model.specs.declared.event.ChannelEvent.TheVariants.{FeaturesLost, DisconnectLost}
use Rattle.channel_model.specs.declared.event.CloseReason.TheVariants.{RetryLimit}
use Rattle.channel_model.specs.Value.{Request, Ask, Own, Unasked, Asking, Granted, Carrier, Plain, Retransmitting, Setup, Stage, Requested, Connected, Leaving, Closing, Crossed, Held, Channels}
use Rattle.channel_model.specs.Policies.{Policy}
use Rattle.channel_model.specs.Changing.{held_at, queued, tells}
use Rattle.channel_model.specs.Asking.{Fired, StillDue, OnceMore, Spent, fired}
use Rattle.channel_model.specs.Closing.{closes, ends}
use Rattle.channel_model.specs.Carrying.{with_machine}

-- a request that is spent has the given end
abbrev pub fires : Fired → Errand → (spent : Channels → Channels) → Channels → Channels
fires StillDue errand spent v = v
fires OnceMore errand spent v = queued (Ask errand) v
fires Spent errand spent v = spent v

abbrev pub times : (tries : ℕ) → Errand → Request → (spent : Channels → Channels) → Channels → Channels
times tries errand request spent v = fires (fired tries errand request v) errand spent v

-- ---- a channel

abbrev pub times_carrier : Option Carrier → Held → Setup → Channels → Channels
times_carrier None held setup v = v
times_carrier (Some (Plain agreed waiting)) held setup v = v
times_carrier (Some (Retransmitting machine)) held setup v = with_machine (timed machine) held setup v

-- the own request for options, or else the machine
abbrev pub times_setup : Own → (tries : ℕ) → Held → Setup → Channels → Channels
times_setup Unasked tries held setup v = times_carrier setup.carrier held setup v
times_setup (Asking request options) tries held setup v = times tries (Configuration held.own) request (closes RetryLimit held) v
times_setup Granted tries held setup v = times_carrier setup.carrier held setup v

abbrev pub times_stage : Stage → (tries : ℕ) → Held → Channels → Channels
times_stage (Requested request) tries held v = times tries (Connection held.own) request (closes RetryLimit held) v
times_stage (Connected peer setup) tries held v = times_setup setup.own tries held setup v
times_stage (Leaving peer setup request) tries held v = times_setup setup.own tries held setup v
times_stage (Closing peer request checked) tries held v = v
times_stage (Crossed peer request) tries held v = v

abbrev pub times_held : Option Held → (tries : ℕ) → Channels → Channels
times_held None tries v = v
times_held (Some held) tries v = times_stage held.stage tries held v

-- the request for the end: a channel that was not closed is closed now, and of one that was closed before it is told that the
-- peer never answered
abbrev pub loses_end : Held → Channels → Channels
loses_end held v = tells (DisconnectLost held.own) (ends RetryLimit held v)

abbrev pub times_end_at : Stage → (tries : ℕ) → Held → Channels → Channels
times_end_at (Requested request) tries held v = v
times_end_at (Connected peer setup) tries held v = v
times_end_at (Leaving peer setup request) tries held v = times tries (Disconnection held.own) request (ends RetryLimit held) v
times_end_at (Closing peer request checked) tries held v = times tries (Disconnection held.own) request (loses_end held) v
times_end_at (Crossed peer request) tries held v = times tries (Disconnection held.own) request (loses_end held) v

abbrev pub times_end : Option Held → (tries : ℕ) → Channels → Channels
times_end None tries v = v
times_end (Some held) tries v = times_end_at held.stage tries held v

-- what a channel waits for, and then its end
abbrev pub times_channel : (tries : ℕ) → (own : ℕ) → Channels → Channels
times_channel tries own v =
    let after = times_held (held_at own v) tries v in
    times_end (held_at own after) tries after

-- ---- the question for the peer's features

abbrev pub loses_features : Channels → Channels
loses_features v = tells FeaturesLost (record v { features = None })

abbrev pub times_features : Option Request → (tries : ℕ) → Channels → Channels
times_features None tries v = v
times_features (Some request) tries v = times tries Features request loses_features v

-- ---- all of a link: the channels in the order of their endpoints, then the features

abbrev pub times_channels : (tries : ℕ) → List ℕ → Channels → Channels
times_channels tries owns v = fold (λ w own. times_channel tries own w) v owns

abbrev pub timed_out : Policy → Channels → Channels
timed_out policy v =
    let after = times_channels policy.tries (map (λ held. held.own) v.held) v in
    times_features after.features policy.tries after
