-- A server that is never told that the end of a channel was lost does not end its link.
use Rattle.std.proofs.Common.{◌≡◌, ℕ, List, [], ◌∷◌, Bool, true, false, cond, Option, Some, None, refl}
use Rattle.std.specs.List.{AllByRecursion}
use Rattle.cause_laws.specs.bt_base.specs.Objects.{Contents}
use Rattle.cause_laws.specs.bt_base.specs.declared.settings.Settings.{Settings}
use Rattle.cause_laws.specs.channel_model.specs.declared.event.ChannelEvent.{ChannelEvent}
use Rattle.cause_laws.specs.channel_model.specs.declared.event.ChannelEvent.TheVariants as events
use Rattle.cause_laws.specs.channel_model.specs.declared.event.CloseReason.TheVariants.{LinkDown}
use Rattle.cause_laws.specs.channel_model.specs.Calls.{sends}
use Rattle.cause_laws.specs.channel_model.specs.Value.{Channels}
use Rattle.cause_laws.specs.push_model.specs.Server.{Server, Lent, lends, lent_sdu, channel_down, stepped}
use Rattle.cause_laws.specs.world_model.specs.Machines.{Up, Down, News, Linked, Failed, Heard, TimerFired, Cancelled, Opening}
use Rattle.cause_laws.specs.host_model.specs.Circumstances.{Circumstance}
use Rattle.cause_laws.specs.host_model.specs.Endpoints.{endpoint_of, takes_sdu}
use Rattle.cause_laws.specs.host_model.specs.Pdus.{sdu_of}
use Rattle.cause_laws.specs.host_model.specs.Profiles.{Profile, Stride}
use Rattle.cause_laws.specs.host_model.specs.Servers.{ServerProfile, is_told, reacts, takes, submits, waiting, server_profile}
use Rattle.cause_laws.specs.host_laws.specs.Feeds.{Feed, Gifts, Learns, Receives, Happens, Sent, Steps, fed, all_fed}
use Rattle.limit_laws.specs.told_laws.specs.Told.{IsEndLost}
use Rattle.parting_laws.proofs.Tidings.{FeedSo}

abbrev pub LosesNoEnd : ChannelEvent → Type 0
LosesNoEnd event = IsEndLost event → ⊥

pub lost_so : (own psm : ℕ) → LosesNoEnd (events.Closed own psm LinkDown)
lost_so own psm lost = lost

module _ (settings : Settings) (content : Option Contents) where
  abbrev B : Profile ServerProfile
  B = server_profile settings content

  abbrev StaysOn : ServerProfile → Type 0
  StaysOn q = q.breaks ≡ false

  news_on : (circumstances : List Circumstance) (news : News) (q : ServerProfile) → StaysOn q → StaysOn (B.told circumstances news q)
  news_on circumstances (Linked Up) q on = refl
  news_on circumstances (Linked (Down reason)) q on = refl
  news_on circumstances (Failed status) q on = on
  news_on circumstances (Heard pdu) q on = on
  news_on circumstances TimerFired q on = on
  news_on circumstances Cancelled q on = on
  news_on circumstances (Opening name) q on = on

  event_on : (event : ChannelEvent) (v : Channels) (q : ServerProfile) → LosesNoEnd event → StaysOn q → StaysOn (B.happened event v q)
  event_on (events.Opened own psm) v q so on = on
  event_on (events.Closed own psm reason) v q so on = by (is_told reason)
    where
      by : (told : Bool) → StaysOn (cond told (reacts (channel_down psm q.server q.inbox) q) q)
      by true = on
      by false = on
  event_on (events.Features features) v q so on = on
  event_on events.FeaturesLost v q so on = on
  event_on (events.DisconnectLost own) v q so on = absurd (so tt)

  steps_on : (lent : Option Lent) (v : Channels) (server : Server) (q : ServerProfile) → StaysOn q → StaysOn (takes lent v server q).profile
  steps_on None v server q on = on
  steps_on (Some lent) v server q on = by (endpoint_of lent.psm q.endpoints)
    where
      took : (own : ℕ) → Stride ServerProfile
      took own = record { channels = sends own (sdu_of lent.payload) v; profile = record q { server = stepped server }; more = true }

      sent : (own : ℕ) (taken : Bool) → StaysOn (cond taken (took own) (waiting v server q)).profile
      sent own true = on
      sent own false = on

      by : (found : Option ℕ) → StaysOn (submits found lent v server q).profile
      by None = on
      by (Some own) = sent own (takes_sdu own (sdu_of lent.payload) v)

  feed_on : (feed : Feed) (q : ServerProfile) → FeedSo LosesNoEnd lost_so feed → StaysOn q → StaysOn (fed (server_profile settings content) q feed)
  feed_on (Gifts circumstances) q so on = on
  feed_on (Learns circumstances news) q so on = news_on circumstances news q on
  feed_on (Receives own psm sdu) q so on = on
  feed_on (Happens event v) q so on = event_on event v q so on
  feed_on (Sent v) q so on = on
  feed_on (Steps v) q so on = steps_on (lent_sdu (lends q.server)) v (lends q.server) q on

  pub stays_on : (feeds : List Feed) (q : ServerProfile) → AllByRecursion (FeedSo LosesNoEnd lost_so) feeds → StaysOn q → StaysOn (all_fed (server_profile settings content) q feeds)
  stays_on [] q so on = on
  stays_on (feed ∷ feeds) q so on = stays_on feeds (fed B q feed) so.1 (feed_on feed q so.0 on)
