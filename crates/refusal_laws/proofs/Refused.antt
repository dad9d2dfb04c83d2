-- Nothing that happens to the channels of a link tells of a refusal with result 0 or 1.
use Rattle.std.proofs.Common.{ℕ, List, [], ◌∷◌, ◌++◌, map, drop, Option, Some, None}
use Rattle.std.specs.Prelude.{fold, slice_get, option_to_list}
use Rattle.std.specs.List.{AllByRecursion}
use Rattle.channel_laws.specs.ertm_model.specs.Giving.{timed}
use Rattle.channel_laws.specs.ertm_model.specs.Value.{Ertm}
use Rattle.channel_laws.specs.channel_model.specs.declared.errand.Errand.{Errand}
use Rattle.channel_laws.specs.channel_model.specs.declared.errand.Errand.TheVariants as errands
use Rattle.channel_laws.specs.channel_model.specs.declared.event.ChannelEvent.{ChannelEvent}
use Rattle.channel_laws.specs.channel_model.specs.declared.event.CloseReason.TheVariants.{RetryLimit}
use Rattle.channel_laws.specs.channel_model.specs.Asking.{Fired, StillDue, OnceMore, Spent, fired}
use Rattle.channel_laws.specs.channel_model.specs.Changing.{held_at}
use Rattle.channel_laws.specs.channel_model.specs.Closing.{closes, ends}
use Rattle.channel_laws.specs.channel_model.specs.Policies.{Policy}
use Rattle.channel_laws.specs.channel_model.specs.Timing.{fires, times, times_carrier, times_setup, times_stage, times_held, loses_end, times_end_at, times_end, times_channel, times_channels, loses_features, times_features, timed_out}
use Rattle.channel_laws.specs.channel_model.specs.Value.{Request, Own, Unasked, Asking, Granted, Carrier, Plain, Retransmitting, Setup, Stage, Requested, Connected, Leaving, Closing, Crossed, Held, Channels}
use Rattle.channel_laws.specs.Runs.{Occurrence, Comes, Connects, AsksFeatures, Disconnects, Sends, Gives, Fires, Tells, value_after, told_in, Run, new_link, run_on, arisen}
use Rattle.refusal_laws.specs.Refused.{TellsRightly, RefusalsHaveResults}
use Rattle.refusal_laws.proofs.Telling.{IsRight, all_and, closed_so, ended_so, settled_so, untimed_so}

-- ---- the timer

times_so : (now : Fired) (errand : Errand) (spent : Channels → Channels) (v : Channels) → IsRight (spent v) → IsRight v → IsRight (fires now errand spent v)
times_so StillDue errand spent v gone all = all
times_so OnceMore errand spent v gone all = all
times_so Spent errand spent v gone all = gone

carrier_so : (v : Channels) (held : Held) (setup : Setup) (carrier : Option Carrier) → IsRight v → IsRight (times_carrier carrier held setup v)
carrier_so v held setup None all = all
carrier_so v held setup (Some (Plain agreed waiting)) all = all
carrier_so v held setup (Some (Retransmitting machine)) all = let after : Ertm = timed machine in settled_so v held setup after after.closed all

waits_so : (tries : ℕ) (v : Channels) (held : Held) (setup : Setup) (own : Own) → IsRight v → IsRight (times_setup own tries held setup v)
waits_so tries v held setup Unasked all = carrier_so v held setup setup.carrier all
waits_so tries v held setup (Asking request options) all =
    let errand : Errand = errands.Configuration held.own in times_so (fired tries errand request v) errand (closes RetryLimit held) v (closed_so v held held.stage RetryLimit tt all) all
waits_so tries v held setup Granted all = carrier_so v held setup setup.carrier all

held_so : (tries : ℕ) (v : Channels) (found : Option Held) → IsRight v → IsRight (times_held found tries v)
held_so tries v None all = all
held_so tries v (Some held) all = at held.stage
  where
    at : (stage : Stage) → IsRight (times_stage stage tries held v)
    at (Requested request) = let errand : Errand = errands.Connection held.own in times_so (fired tries errand request v) errand (closes RetryLimit held) v (closed_so v held held.stage RetryLimit tt all) all
    at (Connected peer setup) = waits_so tries v held setup setup.own all
    at (Leaving peer setup request) = waits_so tries v held setup setup.own all
    at (Closing peer request checked) = all
    at (Crossed peer request) = all

end_so : (tries : ℕ) (v : Channels) (found : Option Held) → IsRight v → IsRight (times_end found tries v)
end_so tries v None all = all
end_so tries v (Some held) all = at held.stage
  where
    ended : IsRight (ends RetryLimit held v)
    ended = ended_so v held held.stage RetryLimit tt all

    errand : Errand
    errand = errands.Disconnection held.own

    lost : (request : Request) → IsRight (times tries errand request (loses_end held) v)
    lost request = times_so (fired tries errand request v) errand (loses_end held) v (all_and (ends RetryLimit held v).events _ ended tt) all

    at : (stage : Stage) → IsRight (times_end_at stage tries held v)
    at (Requested request) = all
    at (Connected peer setup) = all
    at (Leaving peer setup request) = times_so (fired tries errand request v) errand (ends RetryLimit held) v ended all
    at (Closing peer request checked) = lost request
    at (Crossed peer request) = lost request

channels_so : (tries : ℕ) (owns : List ℕ) (v : Channels) → IsRight v → IsRight (times_channels tries owns v)
channels_so tries [] v all = all
channels_so tries (own ∷ owns) v all =
    let between : Channels = times_held (held_at own v) tries v in
    channels_so tries owns (times_channel tries own v) (end_so tries between (held_at own between) (held_so tries v (held_at own v) all))

features_so : (tries : ℕ) (v : Channels) (asked : Option Request) → IsRight v → IsRight (times_features asked tries v)
features_so tries v None all = all
features_so tries v (Some request) all = times_so (fired tries errands.Features request v) errands.Features loses_features v (all_and v.events _ all tt) all

timer_so : (policy : Policy) (v : Channels) → IsRight v → IsRight (timed_out policy v)
timer_so policy v all =
    let after : Channels = times_channels policy.tries (map (λ held. held.own) v.held) v in
    features_so policy.tries after after.features (channels_so policy.tries (map (λ held. held.own) v.held) v all)

-- ---- a run

abbrev AllRight : List ChannelEvent → Type 0
AllRight events = AllByRecursion TellsRightly events

all_append : (events others : List ChannelEvent) → AllRight events → AllRight others → AllRight (events ++ others)
all_append [] others all rest = rest
all_append (event ∷ events) others all rest = (all.0, all_append events others all.1 rest)

left_right : (events : List ChannelEvent) → AllRight events → AllRight (drop 1 events)
left_right [] all = tt
left_right (event ∷ events) all = all.1

next_right : (events : List ChannelEvent) → AllRight events → AllRight (option_to_list (slice_get events 0))
next_right [] all = tt
next_right (event ∷ events) all = (all.0, tt)

told_right : (one : Occurrence) (v : Channels) → IsRight v → AllRight (told_in one v)
told_right (Comes pdu) v all = tt
told_right (Connects psm) v all = tt
told_right AsksFeatures v all = tt
told_right (Disconnects own) v all = tt
told_right (Sends own sdu) v all = tt
told_right (Gives pdu) v all = tt
told_right Fires v all = tt
told_right Tells v all = next_right v.events all

value_right : (policy : Policy) (one : Occurrence) (v : Channels) → IsRight v → IsRight (value_after policy one v)
value_right policy one v all = untimed_so policy one v (timer_so policy v all) (left_right v.events all) all

runs_right : (policy : Policy) (list : List Occurrence) (run : Run) → AllRight run.told → IsRight run.value → AllRight (arisen (fold (run_on policy) run list))
runs_right policy [] run told waits = all_append run.told run.value.events told waits
runs_right policy (one ∷ list) run told waits =
    runs_right policy list (run_on policy run one) (all_append run.told (told_in one run.value) told (told_right one run.value waits)) (value_right policy one run.value waits)

pub refusals_have_results : RefusalsHaveResults
refusals_have_results policy occurrences = runs_right policy occurrences new_link tt tt
