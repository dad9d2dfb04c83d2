-- What goes from a server is what it lends, and what its inbox answers is so.
use Rattle.std.proofs.Common.{◌≡◌, ℕ, Bool, true, false, cond, not, ◌&&◌, List, [], ◌∷◌, ◌++◌, length, Option, Some, None, refl, subst, ◌∙◌}
use Rattle.std.specs.List.{AllByRecursion}
use Rattle.std.proofs.lemmas.Bool.{and_parts}
use Rattle.pair_laws.specs.bt_base.specs.declared.settings.Settings.{Settings}
use Rattle.pair_laws.specs.bt_base.specs.Objects.{Contents}
use Rattle.pair_laws.specs.bt_base.specs.Octets.{IsOctets}
use Rattle.pair_laws.specs.channel_model.specs.declared.event.ChannelEvent.{ChannelEvent}
use Rattle.pair_laws.specs.channel_model.specs.declared.event.ChannelEvent.TheVariants as events
use Rattle.pair_laws.specs.channel_model.specs.Calls.{peer_mtu, waits}
use Rattle.pair_laws.specs.channel_model.specs.Value.{Channels}
use Rattle.pair_laws.specs.push_model.specs.declared.outlet.Outlet.{Outlet}
use Rattle.pair_laws.specs.push_model.specs.declared.outlet.Outlet.TheVariants.{Records, Direct, Muxed}
use Rattle.pair_laws.specs.push_model.specs.Payloads.{Payload, Octets, Framed, IsSaid}
use Rattle.pair_laws.specs.push_model.specs.Server.{Server, Reacted, Lent, lends, lent_sdu}
use Rattle.pair_laws.specs.push_model.specs.Server as server
use Rattle.pair_laws.specs.push_laws.specs.Occurrences.{Occurrence, Went, Closed, Asked, IsLent, done, all_done}
use Rattle.pair_laws.specs.push_laws.specs.Parties.{AllServeDirectly}
use Rattle.pair_laws.specs.obex_session.specs.InboxCalls.{Answer}
use Rattle.pair_laws.specs.rfcomm_frames.specs.Frames.{PlainFrame}
use Rattle.pair_laws.specs.world_model.specs.Machines.{News, Linked, Up, Down, Failed, Heard, TimerFired, Cancelled, Opening}
use Rattle.pair_laws.specs.host_model.specs.Endpoints.{endpoint_of, fits, takes_sdu}
use Rattle.pair_laws.specs.host_model.specs.Pdus.{sdu_of, are_octets}
use Rattle.pair_laws.specs.host_model.specs.Servers.{ServerProfile, is_told, server_profile}
use Rattle.pair_laws.specs.host_model.proofs.Orderly.{octets_by}
use Rattle.pair_laws.specs.host_laws.specs.Feeds.{Feed, Gifts, Learns, Receives, Happens, Sent, Steps, fed}
use Rattle.pair_laws.specs.host_laws.specs.Gaining.{IsDirect}
use Rattle.pair_laws.specs.host_laws.specs.Serving.{news_served, event_served, taken_by, lent_by, served_with, served_from, reacted}
use Rattle.pair_laws.specs.host_laws.proofs.Serving.{feed_done}
use Rattle.request_laws.specs.BothFed.{InboxAnswers}
use Rattle.request_laws.proofs.Feeding.{all_ahead}

module _ (Are : List Answer → Type 0) where
  abbrev Serves : Reacted → List Occurrence → Type 0
  Serves at occurrences = AllServeDirectly Are at occurrences

  serves_both : (xs ys : List Occurrence) (at : Reacted) → Serves at xs → Serves (all_done xs at) ys → Serves at (xs ++ ys)
  serves_both [] ys at one two = two
  serves_both (x ∷ xs) ys at one two = (one.0, serves_both xs ys (done x at) one.1 two)

  -- ---- what is lent

  -- a frame is lent on the channel of the multiplexer
  abbrev IsOnMux : Option Lent → Type 0
  IsOnMux None = Unit {0}
  IsOnMux (Some lent) = (frame : PlainFrame) → lent.payload ≡ Framed frame → lent.psm ≡ 0x0003

  framed_on : (frame : Option PlainFrame) → IsOnMux (server.frame_lent frame)
  framed_on None = tt
  framed_on (Some frame) = λ other is. refl

  outlet_on : (outlet : Option Outlet) (s : Server) → IsOnMux (server.lent_by outlet s)
  outlet_on None s = tt
  outlet_on (Some Records) s = λ frame is. cc
  outlet_on (Some Direct) s = λ frame is. cc
  outlet_on (Some Muxed) s = framed_on s.frame

  said_so : (payload : Payload) → ((frame : PlainFrame) → payload ≡ Framed frame → ⊥) → IsSaid payload (sdu_of payload)
  said_so (Octets octets) none = refl
  said_so (Framed frame) none = absurd (none frame refl)

  went : (lent : Option Lent) (one : Lent) (s : Server) → lent_sdu s ≡ lent → lent ≡ Some one → IsOnMux lent → (one.psm ≡ 0x0003 → ⊥) → IsOctets (sdu_of one.payload) → IsLent one.psm (sdu_of one.payload) s
  went None one s is some on direct octets = cc
  went (Some lent) one s is some on direct octets =
      let same : lent ≡ one = cc in
      let here : IsOnMux (Some one) = subst (λ (l : Lent). IsOnMux (Some l)) same on in
      (one, is ∙ some, refl, said_so one.payload (λ frame framed. direct (here frame framed)), octets)

  -- ---- one thing

  news_serves : (heard : News) (at : Reacted) → Serves at (news_served heard)
  news_serves (Linked Up) at = tt
  news_serves (Linked (Down reason)) at = (record { own = tt; answers = tt; direct = tt }, tt)
  news_serves (Failed status) at = tt
  news_serves (Heard pdu) at = tt
  news_serves TimerFired at = tt
  news_serves Cancelled at = tt
  news_serves (Opening name) at = tt

  event_serves : (event : ChannelEvent) (at : Reacted) → Serves at (event_served event)
  event_serves (events.Opened own psm) at = tt
  event_serves (events.Closed own psm reason) at = by (is_told reason)
    where
      by : (is : Bool) → Serves at (cond is (Closed psm ∷ []) [])
      by true = (record { own = tt; answers = tt; direct = tt }, tt)
      by false = tt
  event_serves (events.Features features) at = tt
  event_serves events.FeaturesLost at = tt
  event_serves (events.DisconnectLost own) at = tt

  -- a channel takes octets alone
  taken_octets : (own : ℕ) (sdu : List ℕ) (v : Channels) → takes_sdu own sdu v ≡ true → IsOctets sdu
  taken_octets own sdu v takes = octets_by sdu (and_parts (fits (length sdu) (peer_mtu own v) && not (waits own v)) (are_octets sdu) takes).1

  taken_serves : (own : Option ℕ) (lent : Lent) (v : Channels) (at : Reacted) → lent_sdu at.server ≡ Some lent → AllByRecursion IsDirect (taken_by own lent v) → Serves at (taken_by own lent v)
  taken_serves None lent v at is direct = tt
  taken_serves (Some own) lent v at is direct = by (takes_sdu own (sdu_of lent.payload) v) refl direct
    where
      by : (takes : Bool) → takes_sdu own (sdu_of lent.payload) v ≡ takes → AllByRecursion IsDirect (cond takes (Went lent.psm (sdu_of lent.payload) ∷ []) []) → Serves at (cond takes (Went lent.psm (sdu_of lent.payload) ∷ []) [])
      by true takes one = (record { own = went (lent_sdu at.server) lent at.server refl is (outlet_on at.server.lent at.server) one.0 (taken_octets own (sdu_of lent.payload) v takes); answers = tt; direct = tt }, tt)
      by false takes one = tt

  lent_serves : (lent : Option Lent) (v : Channels) (p : ServerProfile) (at : Reacted) → lent_sdu at.server ≡ lent → AllByRecursion IsDirect (lent_by lent v p) → Serves at (lent_by lent v p)
  lent_serves None v p at is direct = tt
  lent_serves (Some lent) v p at is direct = taken_serves (endpoint_of lent.psm p.endpoints) lent v at is direct

  feed_serves : (feed : Feed) (p : ServerProfile) → InboxAnswers Are feed → AllByRecursion IsDirect (served_with p feed) → Serves (reacted p) (served_with p feed)
  feed_serves (Gifts circumstances) p grants direct = (record { own = tt; answers = grants; direct = tt }, tt)
  feed_serves (Learns circumstances heard) p grants direct = news_serves heard (reacted p)
  feed_serves (Receives own psm sdu) p grants direct = (record { own = tt; answers = tt; direct = direct.0 }, tt)
  feed_serves (Happens event v) p grants direct = event_serves event (reacted p)
  feed_serves (Sent v) p grants direct = tt
  feed_serves (Steps v) p grants direct = (record { own = tt; answers = tt; direct = tt }, lent_serves (lent_sdu (lends p.server)) v p (done Asked (reacted p)) refl direct.1)

  -- ---- all of it

  serve_from : (settings : Settings) (content : Option Contents) (feeds : List Feed) (p : ServerProfile) → AllByRecursion (InboxAnswers Are) feeds → AllByRecursion IsDirect (served_from settings content p feeds)
      → Serves (reacted p) (served_from settings content p feeds)
  serve_from settings content [] p grants direct = tt
  serve_from settings content (feed ∷ feeds) p grants direct =
      let next = fed (server_profile settings content) p feed in
      let one = all_ahead IsDirect (served_with p feed) (served_from settings content next feeds) direct in
      serves_both (served_with p feed) (served_from settings content next feeds) (reacted p) (feed_serves feed p grants.0 one.0)
      (subst (λ (at : Reacted). Serves at (served_from settings content next feeds)) (feed_done settings content p feed) (serve_from settings content feeds next grants.1 one.1))

  pub serve_all : (settings : Settings) (content : Option Contents) (feeds : List Feed) (p : ServerProfile) → AllByRecursion (InboxAnswers Are) feeds → AllByRecursion IsDirect (served_from settings content p feeds)
      → AllServeDirectly Are (reacted p) (served_from settings content p feeds)
  serve_all settings content feeds p grants direct = serve_from settings content feeds p grants direct
