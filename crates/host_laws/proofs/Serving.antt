-- The server of a host is what it is of what happened to it.
use Rattle.std.proofs.Common.{◌≡◌, ℕ, Bool, true, false, cond, List, [], ◌∷◌, ◌++◌, Option, Some, None, refl, sym, ap, ◌∙◌}
use Rattle.shelf_model.specs.bt_base.specs.declared.settings.Settings.{Settings}
use Rattle.shelf_model.specs.bt_base.specs.Objects.{Contents}
use Rattle.channel_laws.specs.channel_model.specs.declared.event.ChannelEvent.{ChannelEvent}
use Rattle.channel_laws.specs.channel_model.specs.declared.event.ChannelEvent.TheVariants as events
use Rattle.channel_laws.specs.channel_model.specs.Value.{Channels}
use Rattle.channel_laws.specs.channel_model.specs.Calls.{sends}
use Rattle.push_laws.specs.push_model.specs.Server.{Reacted, Lent, lends, lent_sdu, stepped, channel_down}
use Rattle.push_laws.specs.Occurrences.{Occurrence, done, all_done, begun}
use Rattle.push_laws.specs.Occurrences as push
use Rattle.push_laws.specs.Laws.{stored_in}
use Rattle.push_laws.proofs.Gaining.{gains-what_is_heard}
use Rattle.shelf_model.specs.world_model.specs.Machines.{News, Linked, Up, Down, Failed, Heard, TimerFired, Cancelled, Opening}
use Rattle.shelf_model.specs.host_model.specs.Endpoints.{endpoint_of, takes_sdu}
use Rattle.shelf_model.specs.host_model.specs.Pdus.{sdu_of}
use Rattle.shelf_model.specs.host_model.specs.Circumstances.{Circumstance}
use Rattle.shelf_model.specs.host_model.specs.Profiles.{Stride}
use Rattle.shelf_model.specs.host_model.specs.Servers.{ServerProfile, is_told, reacts, told, happened, submits, takes, waiting, server_profile}
use Rattle.host_laws.specs.Feeds.{Feed, Gifts, Learns, Receives, Happens, Sent, Steps, fed, all_fed}
use Rattle.host_laws.specs.Serving.{event_served, news_served, taken_by, lent_by, served_with, served_from, served, reacted, ServersAreServed, HostsGain}

done-both : (xs ys : List Occurrence) (at : Reacted) → all_done (xs ++ ys) at ≡ all_done ys (all_done xs at)
done-both [] ys at = refl
done-both (x ∷ xs) ys at = done-both xs ys (done x at)

news_done : (circumstances : List Circumstance) (news : News) (serving : ServerProfile) → reacted (told circumstances news serving) ≡ all_done (news_served news) (reacted serving)
news_done circumstances (Linked Up) serving = refl
news_done circumstances (Linked (Down reason)) serving = refl
news_done circumstances (Failed status) serving = refl
news_done circumstances (Heard pdu) serving = refl
news_done circumstances TimerFired serving = refl
news_done circumstances Cancelled serving = refl
news_done circumstances (Opening name) serving = refl

event_done : (event : ChannelEvent) (v : Channels) (serving : ServerProfile) → reacted (happened event v serving) ≡ all_done (event_served event) (reacted serving)
event_done (events.Opened own psm) v serving = refl
event_done (events.Closed own psm reason) v serving = by (is_told reason)
  where
    by : (is : Bool) → reacted (cond is (reacts (channel_down psm serving.server serving.inbox) serving) serving) ≡ all_done (cond is (push.Closed psm ∷ []) []) (reacted serving)
    by true = refl
    by false = refl
event_done (events.Features features) v serving = refl
event_done events.FeaturesLost v serving = refl
event_done (events.DisconnectLost own) v serving = refl

abbrev asked : ServerProfile → Reacted
asked serving = record { server = lends serving.server; gift = serving.inbox }

lent_done : (own : Option ℕ) (lent : Lent) (v : Channels) (serving : ServerProfile) → reacted (submits own lent v (lends serving.server) serving).profile ≡ all_done (taken_by own lent v) (asked serving)
lent_done None lent v serving = refl
lent_done (Some own) lent v serving = by (takes_sdu own (sdu_of lent.payload) v)
  where
    took : Stride ServerProfile
    took = record { channels = sends own (sdu_of lent.payload) v; profile = record serving { server = stepped (lends serving.server) }; more = true }

    by : (is : Bool) → reacted (cond is took (waiting v (lends serving.server) serving)).profile ≡ all_done (cond is (push.Went lent.psm (sdu_of lent.payload) ∷ []) []) (asked serving)
    by true = refl
    by false = refl

steps_done : (lent : Option Lent) (v : Channels) (serving : ServerProfile) → reacted (takes lent v (lends serving.server) serving).profile ≡ all_done (lent_by lent v serving) (asked serving)
steps_done None v serving = refl
steps_done (Some lent) v serving = lent_done (endpoint_of lent.psm serving.endpoints) lent v serving

pub feed_done : (settings : Settings) (content : Option Contents) (serving : ServerProfile) (feed : Feed) → reacted (fed (server_profile settings content) serving feed) ≡ all_done (served_with serving feed) (reacted serving)
feed_done settings content serving (Gifts circumstances) = refl
feed_done settings content serving (Learns circumstances news) = news_done circumstances news serving
feed_done settings content serving (Receives own psm sdu) = refl
feed_done settings content serving (Happens event v) = event_done event v serving
feed_done settings content serving (Sent v) = refl
feed_done settings content serving (Steps v) = steps_done (lent_sdu (lends serving.server)) v serving

all_served : (settings : Settings) (content : Option Contents) (feeds : List Feed) (serving : ServerProfile) → reacted (all_fed (server_profile settings content) serving feeds) ≡ all_done (served_from settings content serving feeds) (reacted serving)
all_served settings content [] serving = refl
all_served settings content (feed ∷ feeds) serving =
    let next = fed (server_profile settings content) serving feed in
    all_served settings content feeds next
    ∙ (ap (all_done (served_from settings content next feeds)) (feed_done settings content serving feed) ∙ sym (done-both (served_with serving feed) (served_from settings content next feeds) (reacted serving)))

pub servers_are_served : ServersAreServed
servers_are_served settings content asks marks host lives = ap reacted lives.profile_is ∙ all_served settings content lives.feeds (server_profile settings content).first

pub hosts_gain : HostsGain
hosts_gain settings before asks marks host lives may =
    let content : Option Contents = Some (record { stored = before; pending = None }) in
    ap (λ (at : Reacted). stored_in at.gift.content) (servers_are_served settings content asks marks host lives) ∙ gains-what_is_heard settings before (served settings content asks marks host lives) may
