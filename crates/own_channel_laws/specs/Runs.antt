-- What may happen to the channels of a link while it is up, what of it is own talk, and runs of it.
use Rattle.std.specs.Prelude.{ℕ, ◌==◌, ◌&&◌, not, is_some, List, [], ◌∷◌, ◌++◌, map, drop, fold, Option, Some, None, unwrap_or, option_to_list, if◌then◌else◌}
use Rattle.std.specs.List.{filter_map}
use Rattle.talk_laws.specs.acl_fragments.specs.Pieces.{channel_of}
use Rattle.talk_laws.specs.l2cap_signal.specs.Reading.{answers}
use Rattle.talk_laws.specs.capture.specs.declared.flow.Flow.TheVariants.{Out, Into}
use Rattle.talk_laws.specs.link_talk.specs.Sayings.{Saying, Forgone, Carried, GaveUp}
use Rattle.talk_laws.specs.link_talk.specs.Sayings as sayings
use Rattle.channel_model.specs.declared.errand.Errand.{Errand}
use Rattle.channel_model.specs.declared.errand.Errand.TheVariants as errands
use Rattle.channel_model.specs.declared.event.ChannelEvent.{ChannelEvent}
use Rattle.channel_model.specs.Value.{Request, Carrier, Plain, Retransmitting, Stage, Requested, Connected, Leaving, Closing, Crossed, Held, Channels, no_channels}
use Rattle.channel_model.specs.Policies.{Policy}
use Rattle.channel_model.specs.Changing.{held_at, is_due}
use Rattle.channel_model.specs.Timing.{times_held, times_end, times_features, timed_out}
use Rattle.channel_model.specs.Hearing.{hears, up}
use Rattle.channel_model.specs.Carrying.{takes, Up, Nothing, Received}
use Rattle.channel_model.specs.Giving.{Given, Signal, Whole, Framed, next_given, after_given, headed}
use Rattle.channel_model.specs.Calls.{connected, asks_features, disconnected, carrier_at, sends, next_event, after_event}
use Rattle.own_channel_laws.specs.Views.{peer_of}
use Rattle.own_channel_laws.specs.OwnTalk.{said_of, asked_between, said_with_all}

pub data Occurrence : Type 0 where
  -- a PDU comes in, whole
  Comes : (pdu : List ℕ) → Occurrence
  -- the host asks for a channel, for the peer's features, or for the end of a channel
  Connects : (psm : ℕ) → Occurrence
  AsksFeatures : Occurrence
  Disconnects : (own : ℕ) → Occurrence
  -- the host has an SDU for a channel
  Sends : (own : ℕ) (sdu : List ℕ) → Occurrence
  -- the next PDU is given, with these octets
  Gives : (pdu : List ℕ) → Occurrence
  -- the timer fires
  Fires : Occurrence
  -- the next event is told
  Tells : Occurrence

-- ---- requests that are given up

-- the request by which a channel that is not there any more was asked for, or its end
abbrev pub forgone_at : Stage → (own : ℕ) → List Saying
forgone_at (Requested request) own = GaveUp (sayings.Connection request.identifier own) ∷ []
forgone_at (Connected peer setup) own = []
forgone_at (Leaving peer setup request) own = GaveUp (sayings.Disconnection own peer) ∷ []
forgone_at (Closing peer request checked) own = GaveUp (sayings.Disconnection own peer) ∷ []
forgone_at (Crossed peer request) own = GaveUp (sayings.Disconnection own peer) ∷ []

abbrev pub forgone_between : (before after : Option Held) → List Saying
forgone_between None after = []
forgone_between (Some held) None = forgone_at held.stage held.own
forgone_between (Some held) (Some other) = []

-- where nothing came in, a channel that is not there any more was given up
abbrev pub given_up : (own : ℕ) → (before after : Channels) → List Saying
given_up own before after = forgone_between (held_at own before) (held_at own after)

abbrev pub features_given_up : (before after : Option Request) → List Saying
features_given_up None after = []
features_given_up (Some request) None = GaveUp (sayings.Information request.identifier) ∷ []
features_given_up (Some request) (Some other) = []

-- ---- the timer

-- a request of which no copy waited is to be given once more
abbrev pub said_again : Errand → (before after : Channels) → List Saying
said_again errand before after =
    if (after.identifier == before.identifier) && (is_due errand after && not (is_due errand before)) then said_of (Some errand) after else []

abbrev pub said_on_firing : (own : ℕ) → (before after : Channels) → List Saying
said_on_firing own before after =
    said_again (errands.Connection own) before after
    ++ (said_again (errands.Configuration own) before after
    ++ (said_again (errands.Disconnection own) before after
    ++ (asked_between before after ++ given_up own before after)))

-- of a channel, what it waits for and then its end
abbrev pub said_by_channel : (tries own : ℕ) → Channels → List Saying
said_by_channel tries own v =
    let between = times_held (held_at own v) tries v in
    said_on_firing own v between ++ said_on_firing own between (times_end (held_at own between) tries between)

abbrev pub fired_channel : (tries own : ℕ) → Channels → Channels
fired_channel tries own v =
    let between = times_held (held_at own v) tries v in
    times_end (held_at own between) tries between

abbrev pub said_by_features : (tries : ℕ) → Channels → List Saying
said_by_features tries v =
    let after = times_features v.features tries v in
    said_again errands.Features v after ++ features_given_up v.features after.features

abbrev pub said_by_channels : (tries : ℕ) → List ℕ → Channels → List Saying
said_by_channels tries [] v = said_by_features tries v
said_by_channels tries (own ∷ owns) v = said_by_channel tries own v ++ said_by_channels tries owns (fired_channel tries own v)

-- ---- SDUs and frames

abbrev pub peer_at : Option Held → ℕ
peer_at None = 0
peer_at (Some held) = unwrap_or (peer_of held.stage) 0

-- in basic mode an SDU is said when it is taken
abbrev pub said_by_carrier : Option Carrier → (peer : ℕ) → List ℕ → List Saying
said_by_carrier None peer sdu = []
said_by_carrier (Some (Plain agreed waiting)) peer sdu = if is_some waiting then [] else Carried Out (headed peer sdu) ∷ []
said_by_carrier (Some (Retransmitting machine)) peer sdu = []

-- a frame when it is given
abbrev pub said_as : Option Given → List ℕ → List Saying
said_as None pdu = []
said_as (Some (Signal command)) pdu = []
said_as (Some (Whole peer sdu)) pdu = []
said_as (Some (Framed peer frame)) pdu = Carried Out pdu ∷ []

-- ---- all of it

abbrev pub said_in : Policy → Occurrence → Channels → List Saying
said_in policy (Comes pdu) v =
    if channel_of pdu == 0x0001
    then said_with_all policy (answers (drop 4 pdu)) v
    else Carried Into pdu ∷ asked_between v (takes (channel_of pdu) pdu v)
said_in policy (Connects psm) v = asked_between v (connected psm v)
said_in policy AsksFeatures v = asked_between v (asks_features v)
said_in policy (Disconnects own) v = asked_between v (disconnected own v) ++ given_up own v (disconnected own v)
said_in policy (Sends own sdu) v = said_by_carrier (carrier_at own v) (peer_at (held_at own v)) sdu
said_in policy (Gives pdu) v = said_as (next_given v) pdu
said_in policy Fires v = said_by_channels policy.tries (map (λ held. held.own) v.held) v
said_in policy Tells v = []

-- the channels behind it
abbrev pub value_after : Policy → Occurrence → Channels → Channels
value_after policy (Comes pdu) v = hears policy (channel_of pdu) pdu v
value_after policy (Connects psm) v = connected psm v
value_after policy AsksFeatures v = asks_features v
value_after policy (Disconnects own) v = disconnected own v
value_after policy (Sends own sdu) v = sends own sdu v
value_after policy (Gives pdu) v = after_given v
value_after policy Fires v = timed_out policy v
value_after policy Tells v = after_event v

-- ---- what the host is told

abbrev pub told_in : Occurrence → Channels → List ChannelEvent
told_in (Comes pdu) v = []
told_in (Connects psm) v = []
told_in AsksFeatures v = []
told_in (Disconnects own) v = []
told_in (Sends own sdu) v = []
told_in (Gives pdu) v = []
told_in Fires v = []
told_in Tells v = option_to_list (next_event v)

-- and what is handed up to it
abbrev pub up_with : Occurrence → Channels → Up
up_with (Comes pdu) v = up (channel_of pdu) pdu v
up_with (Connects psm) v = Nothing
up_with AsksFeatures v = Nothing
up_with (Disconnects own) v = Nothing
up_with (Sends own sdu) v = Nothing
up_with (Gives pdu) v = Nothing
up_with Fires v = Nothing
up_with Tells v = Nothing

-- ---- a run

pub record Run : Type 0 where
  pub said : List Saying
  pub told : List ChannelEvent
  pub up : List Up
  pub value : Channels

abbrev pub new_link : Run
new_link = record { said = []; told = []; up = []; value = no_channels }

abbrev pub run_on : Policy → Run → Occurrence → Run
run_on policy run more =
    record {
      said = run.said ++ said_in policy more run.value;
      told = run.told ++ told_in more run.value;
      up = run.up ++ up_with more run.value ∷ [];
      value = value_after policy more run.value;
    }

abbrev pub run_of : Policy → List Occurrence → Run
run_of policy list = fold (run_on policy) new_link list

-- all that arose for the host to be told, also what it was not told yet
abbrev pub arisen : Run → List ChannelEvent
arisen run = run.told ++ run.value.events

-- the SDUs that were handed up of an own endpoint
abbrev pub sdu_up : (own : ℕ) → Up → Option (List ℕ)
sdu_up own Nothing = None
sdu_up own (Received other psm sdu) = if other == own then Some sdu else None

abbrev pub sdus_up : (own : ℕ) → List Up → List (List ℕ)
sdus_up own ups = filter_map (sdu_up own) ups
