-- The faults that a server is told of its inbox are those that its host was given.
use Rattle.std.proofs.Common.{Bool, true, false, cond, ◌≡◌, ℕ, ◌+◌, List, [], ◌∷◌, ◌++◌, Option, Some, None, refl, arith}
use Rattle.std.proofs.lemmas.List.Sums.{sum_by-cons}
use Rattle.pair_laws.specs.bt_base.specs.declared.settings.Settings.{Settings}
use Rattle.pair_laws.specs.bt_base.specs.Objects.{Contents}
use Rattle.pair_laws.specs.channel_model.specs.declared.event.ChannelEvent.{ChannelEvent}
use Rattle.pair_laws.specs.channel_model.specs.declared.event.ChannelEvent.TheVariants as events
use Rattle.pair_laws.specs.channel_model.specs.Value.{Channels}
use Rattle.pair_laws.specs.push_model.specs.Server.{Lent, lends, lent_sdu}
use Rattle.pair_laws.specs.push_laws.specs.Faults.{faults_of}
use Rattle.pair_laws.specs.push_laws.specs.Occurrences.{Occurrence, Went, Closed}
use Rattle.pair_laws.specs.push_laws.specs.OneName.{faults_told}
use Rattle.pair_laws.specs.world_model.specs.Machines.{News, Linked, Up, Down, Failed, Heard, TimerFired, Cancelled, Opening}
use Rattle.pair_laws.specs.host_model.specs.Circumstances.{Circumstance, answers_in}
use Rattle.pair_laws.specs.host_model.specs.Endpoints.{endpoint_of, takes_sdu}
use Rattle.pair_laws.specs.host_model.specs.Pdus.{sdu_of}
use Rattle.pair_laws.specs.host_model.specs.Servers.{ServerProfile, is_told, server_profile}
use Rattle.pair_laws.specs.host_laws.specs.Feeds.{Feed, Gifts, Learns, Receives, Happens, Sent, Steps, fed}
use Rattle.pair_laws.specs.host_laws.specs.Gifts.{gifts_of}
use Rattle.pair_laws.specs.host_laws.specs.Serving.{news_served, event_served, taken_by, lent_by, served_with, served_from}
use Rattle.request_laws.specs.LessHeard.{faults_given}

told_both : (xs ys : List Occurrence) → faults_told (xs ++ ys) ≡ faults_told xs + faults_told ys
told_both [] ys = omega arith
told_both (x ∷ xs) ys = let rest = told_both xs ys in omega (arith, rest)

news_told : (news : News) → faults_told (news_served news) ≡ 0
news_told (Linked Up) = refl
news_told (Linked (Down reason)) = refl
news_told (Failed status) = refl
news_told (Heard pdu) = refl
news_told TimerFired = refl
news_told Cancelled = refl
news_told (Opening name) = refl

event_told : (event : ChannelEvent) → faults_told (event_served event) ≡ 0
event_told (events.Opened own psm) = refl
event_told (events.Closed own psm reason) = by (is_told reason)
  where
    by : (told : Bool) → faults_told (cond told (Closed psm ∷ []) []) ≡ 0
    by true = refl
    by false = refl
event_told (events.Features features) = refl
event_told events.FeaturesLost = refl
event_told (events.DisconnectLost own) = refl

taken_told : (own : Option ℕ) (lent : Lent) (v : Channels) → faults_told (taken_by own lent v) ≡ 0
taken_told None lent v = refl
taken_told (Some own) lent v = by (takes_sdu own (sdu_of lent.payload) v)
  where
    by : (takes : Bool) → faults_told (cond takes (Went lent.psm (sdu_of lent.payload) ∷ []) []) ≡ 0
    by true = refl
    by false = refl

lent_told : (lent : Option Lent) (v : Channels) (p : ServerProfile) → faults_told (lent_by lent v p) ≡ 0
lent_told None v p = refl
lent_told (Some lent) v p = taken_told (endpoint_of lent.psm p.endpoints) lent v

-- what is told of one thing
given_in : Feed → ℕ
given_in (Gifts circumstances) = faults_of (answers_in circumstances)
given_in (Learns circumstances news) = 0
given_in (Receives own psm sdu) = 0
given_in (Happens event v) = 0
given_in (Sent v) = 0
given_in (Steps v) = 0

told_with : (feed : Feed) (p : ServerProfile) → faults_told (served_with p feed) ≡ given_in feed
unfolding given_in
told_with (Gifts circumstances) p = omega arith
told_with (Learns circumstances news) p = news_told news
told_with (Receives own psm sdu) p = refl
told_with (Happens event v) p = event_told event
told_with (Sent v) p = refl
told_with (Steps v) p = let none = lent_told (lent_sdu (lends p.server)) v p in omega (arith, none)

given_more : (feed : Feed) (feeds : List Feed) → faults_given (gifts_of (feed ∷ feeds)) ≡ given_in feed + faults_given (gifts_of feeds)
unfolding given_in
given_more (Gifts circumstances) feeds = sum_by-cons (λ (gift : List Circumstance). faults_of (answers_in gift)) circumstances (gifts_of feeds)
given_more (Learns circumstances news) feeds = omega arith
given_more (Receives own psm sdu) feeds = omega arith
given_more (Happens event v) feeds = omega arith
given_more (Sent v) feeds = omega arith
given_more (Steps v) feeds = omega arith

pub told_is_given : (settings : Settings) (content : Option Contents) (feeds : List Feed) (p : ServerProfile) → faults_told (served_from settings content p feeds) ≡ faults_given (gifts_of feeds)
told_is_given settings content [] p = refl
told_is_given settings content (feed ∷ feeds) p =
    let next = fed (server_profile settings content) p feed in
    let both = told_both (served_with p feed) (served_from settings content next feeds) in
    let first = told_with feed p in
    let rest = told_is_given settings content feeds next in
    let more = given_more feed feeds in
    omega (arith, both, first, rest, more)
