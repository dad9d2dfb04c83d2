-- What a profile goes through (this project's own), and what of it its channels tell.
use Rattle.std.specs.Prelude.{ℕ, List, [], ◌∷◌, ◌++◌, map, fold}
use Rattle.std.specs.List.{flat_map}
use Rattle.channel_laws.specs.channel_model.specs.declared.event.ChannelEvent.{ChannelEvent}
use Rattle.channel_laws.specs.channel_model.specs.Value.{Channels}
use Rattle.channel_laws.specs.channel_model.specs.Policies.{Policy}
use Rattle.channel_laws.specs.channel_model.specs.Carrying.{Up, Nothing, Received}
use Rattle.channel_laws.specs.Runs.{Occurrence, value_after, told_in, up_with}
use Rattle.shelf_model.specs.world_model.specs.Machines.{LinkEvent, News, Linked, Failed, Heard, TimerFired, Cancelled, Opening}
use Rattle.shelf_model.specs.host_model.specs.Circumstances.{Circumstance}
use Rattle.shelf_model.specs.host_model.specs.Profiles.{Profile}
use Rattle.host_laws.specs.Calls.{Asks, from_call}

pub data Feed : Type 0 where
  -- it is given what its ports will answer, and news
  Gifts : (circumstances : List Circumstance) → Feed
  Learns : (circumstances : List Circumstance) (news : News) → Feed
  -- an SDU of a channel, and what happened, with the channels as they stand once that was taken from them
  Receives : (own psm : ℕ) (sdu : List ℕ) → Feed
  Happens : (event : ChannelEvent) (channels : Channels) → Feed
  -- an SDU that waits no longer in its channel is sent, and it is asked for a step
  Sent : (channels : Channels) → Feed
  Steps : (channels : Channels) → Feed

abbrev pub fed : {P : Type 0} → Profile P → P → Feed → P
fed A p (Gifts circumstances) = A.given circumstances p
fed A p (Learns circumstances news) = A.told circumstances news p
fed A p (Receives own psm sdu) = A.received own psm sdu p
fed A p (Happens event channels) = A.happened event channels p
fed A p (Sent channels) = A.sent channels p
fed A p (Steps channels) = (A.steps channels p).profile

abbrev pub all_fed : {P : Type 0} → Profile P → P → List Feed → P
all_fed A p feeds = fold (fed A) p feeds

-- ---- what it asks for

abbrev pub asked_with : {P : Type 0} (A : Profile P) → Asks A → P → Feed → List Occurrence
asked_with A asks p (Gifts circumstances) = []
asked_with A asks p (Learns circumstances news) = []
asked_with A asks p (Receives own psm sdu) = []
asked_with A asks p (Happens event channels) = []
asked_with A asks p (Sent channels) = []
asked_with A asks p (Steps channels) = from_call (asks.call channels p)

-- what a profile asks of its channels with all its steps
abbrev pub asked_from : {P : Type 0} (A : Profile P) → Asks A → P → List Feed → List Occurrence
asked_from A asks p [] = []
asked_from A asks p (feed ∷ feeds) = asked_with A asks p feed ++ asked_from A asks (fed A p feed) feeds

-- ---- what channels tell

-- an SDU of a channel, what happened to one, or that the link came up or went down
pub data Tiding : Type 0 where
  Brings : (own psm : ℕ) (sdu : List ℕ) → Tiding
  Tells : (event : ChannelEvent) → Tiding
  Turns : (event : LinkEvent) → Tiding

abbrev pub tidings_by : News → List Tiding
tidings_by (Linked event) = Turns event ∷ []
tidings_by (Failed status) = []
tidings_by (Heard pdu) = []
tidings_by TimerFired = []
tidings_by Cancelled = []
tidings_by (Opening name) = []

abbrev pub tidings_in : Feed → List Tiding
tidings_in (Gifts circumstances) = []
tidings_in (Learns circumstances news) = tidings_by news
tidings_in (Receives own psm sdu) = Brings own psm sdu ∷ []
tidings_in (Happens event channels) = Tells event ∷ []
tidings_in (Sent channels) = []
tidings_in (Steps channels) = []

-- what a profile was told of its channels and its links
abbrev pub tidings_of : List Feed → List Tiding
tidings_of feeds = flat_map tidings_in feeds

abbrev pub brought_by : Up → List Tiding
brought_by Nothing = []
brought_by (Received own psm sdu) = Brings own psm sdu ∷ []

abbrev pub tidings_with : Occurrence → Channels → List Tiding
tidings_with one v = brought_by (up_with one v) ++ map Tells (told_in one v)

-- what channels tell with all that happens to them, in its order
abbrev pub tidings_from : Policy → Channels → List Occurrence → List Tiding
tidings_from policy v [] = []
tidings_from policy v (one ∷ list) = tidings_with one v ++ tidings_from policy (value_after policy one v) list
