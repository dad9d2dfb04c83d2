-- What is so of each thing that happens to a client, where it is so of the begins of its pushes and of its steps.
use Rattle.std.proofs.Common.{◌≡◌, ℕ, Bool, true, false, cond, List, [], ◌∷◌, ◌++◌, Option, Some, None, subst}
use Rattle.std.specs.List.{AllByRecursion}
use Rattle.shelf_model.specs.bt_base.specs.declared.settings.Settings.{Settings}
use Rattle.channel_laws.specs.channel_model.specs.declared.event.ChannelEvent.{ChannelEvent}
use Rattle.channel_laws.specs.channel_model.specs.declared.event.ChannelEvent.TheVariants as channels
use Rattle.channel_laws.specs.channel_model.specs.Calls.{peer_mtu, waits}
use Rattle.channel_laws.specs.channel_model.specs.Value.{Channels}
use Rattle.push_laws.specs.push_model.specs.declared.closing.CloseCause.{CloseCause}
use Rattle.push_laws.specs.push_model.specs.Client.{Client, begins, cancelled}
use Rattle.push_laws.specs.push_model.specs.Events as events
use Rattle.push_laws.specs.push_model.specs.Events.{hears_news}
use Rattle.push_laws.specs.push_model.specs.Laws.{Deed, Hears, Asks, Finishes, Cancels}
use Rattle.push_laws.specs.push_model.specs.Steps.{Part, Step, Wait, MakeLink, AskFeatures, OpenChannel, SendSdu, CloseChannel, BreakLink, Ended, NoMemory, steps}
use Rattle.shelf_model.specs.world_model.specs.Machines.{News, Linked, Up, Down, Failed, Heard, TimerFired, Cancelled, Opening}
use Rattle.shelf_model.specs.host_model.specs.Circumstances.{Circumstance}
use Rattle.shelf_model.specs.host_model.specs.Clients.{ClientProfile, cause_of, ended, client_profile, fitted}
use Rattle.shelf_model.specs.host_model.specs.Shelves.{size_for, name_for}
use Rattle.host_laws.specs.Feeds.{Feed, Gifts, Learns, Receives, Happens, Sent, Steps, fed}
use Rattle.host_laws.specs.Pushing.{Affair, Begins, Does, AllAsked, client_after, client_behind, end_asked, then_ends, link_asked, then_calls, news_pushed, opened_pushed, closed_pushed, event_pushed, sent_pushed, step_pushed, pushed_with, pushed_from}
use Rattle.host_laws.proofs.Pushing.{feed_so}

-- with no part of its object
abbrev pub IsBare : Deed → Type 0
IsBare (Hears news) = Unit {0}
IsBare (Asks []) = Unit {0}
IsBare (Asks (part ∷ parts)) = ⊥
IsBare Finishes = Unit {0}
IsBare Cancels = Unit {0}

module _ (Is : Affair → Client → Type 0) (bare : (deed : Deed) (client : Client) → IsBare deed → Is (Does deed) client) where
  both_asked : (xs ys : List Affair) (client : Client) → AllAsked Is xs client → AllAsked Is ys (client_behind xs client) → AllAsked Is (xs ++ ys) client
  both_asked [] ys client one two = two
  both_asked (x ∷ xs) ys client one two = (one.0, both_asked xs ys (client_after x client) one.1 two)

  -- ---- what it is told

  ends_asked : (step : Step) (client : Client) → AllAsked Is (end_asked step) client
  ends_asked Wait client = tt
  ends_asked MakeLink client = tt
  ends_asked AskFeatures client = tt
  ends_asked (OpenChannel psm) client = tt
  ends_asked (SendSdu psm payload) client = tt
  ends_asked (CloseChannel psm) client = tt
  ends_asked BreakLink client = tt
  ends_asked (Ended outcome) client = (bare (Asks []) client tt, tt)
  ends_asked NoMemory client = tt

  links_asked : (step : Step) (client : Client) → AllAsked Is (link_asked step) client
  links_asked Wait client = tt
  links_asked MakeLink client = (bare (Asks []) client tt, (bare Finishes (client_after (Does (Asks [])) client) tt, tt))
  links_asked AskFeatures client = tt
  links_asked (OpenChannel psm) client = tt
  links_asked (SendSdu psm payload) client = tt
  links_asked (CloseChannel psm) client = tt
  links_asked BreakLink client = tt
  links_asked (Ended outcome) client = tt
  links_asked NoMemory client = tt

  -- where it is told to begin a push, that is so
  abbrev pub BeginsSo : List Circumstance → News → Client → Type 0
  BeginsSo circumstances (Linked event) client = Unit {0}
  BeginsSo circumstances (Failed status) client = Unit {0}
  BeginsSo circumstances (Heard pdu) client = Unit {0}
  BeginsSo circumstances TimerFired client = Unit {0}
  BeginsSo circumstances Cancelled client = Unit {0}
  BeginsSo circumstances (Opening name) client = Is (Begins (size_for circumstances name) (name_for name)) client

  -- behind its begin
  pub begun_asked : (begun : Client) → AllAsked Is (then_ends begun ++ then_calls (ended begun)) begun
  begun_asked begun = both_asked (then_ends begun) (then_calls (ended begun)) begun (ends_asked (steps begun []).step begun) (links_asked (steps (ended begun) []).step (client_behind (then_ends begun) begun))

  news_asked : (circumstances : List Circumstance) (news : News) (client : Client) → BeginsSo circumstances news client → AllAsked Is (news_pushed circumstances news client) client
  news_asked circumstances (Linked Up) client so = (bare (Hears events.LinkUp) client tt, tt)
  news_asked circumstances (Linked (Down reason)) client so = let now = hears_news (events.LinkDown reason) client in (bare (Hears (events.LinkDown reason)) client tt, ends_asked (steps now []).step now)
  news_asked circumstances (Failed status) client so = let now = hears_news (events.LinkFailed status) client in (bare (Hears (events.LinkFailed status)) client tt, ends_asked (steps now []).step now)
  news_asked circumstances (Heard pdu) client so = tt
  news_asked circumstances TimerFired client so = (bare (Hears events.Timer) client tt, tt)
  news_asked circumstances Cancelled client so = let now = cancelled client in (bare Cancels client tt, ends_asked (steps now []).step now)
  news_asked circumstances (Opening name) client so = (so, begun_asked (begins (size_for circumstances name) (name_for name) client))

  -- ---- its channels

  opened_asked : (mtu : Option ℕ) (psm : ℕ) (client : Client) → AllAsked Is (opened_pushed mtu psm) client
  opened_asked None psm client = tt
  opened_asked (Some mtu) psm client = (bare (Hears (events.ChannelOpen psm mtu)) client tt, tt)

  closed_asked : (cause : Option CloseCause) (psm : ℕ) (client : Client) → AllAsked Is (closed_pushed cause psm) client
  closed_asked None psm client = tt
  closed_asked (Some cause) psm client = (bare (Hears (events.ChannelClosed psm cause)) client tt, tt)

  event_asked : (event : ChannelEvent) (v : Channels) (client : Client) → AllAsked Is (event_pushed event v) client
  event_asked (channels.Opened own psm) v client = opened_asked (peer_mtu own v) psm client
  event_asked (channels.Closed own psm reason) v client = closed_asked (cause_of reason) psm client
  event_asked (channels.Features features) v client = (bare (Hears events.FeaturesTold) client tt, tt)
  event_asked channels.FeaturesLost v client = (bare (Hears events.FeaturesLost) client tt, tt)
  event_asked (channels.DisconnectLost own) v client = tt

  sent_asked : (own : Option ℕ) (v : Channels) (client : Client) → AllAsked Is (sent_pushed own v) client
  sent_asked None v client = tt
  sent_asked (Some own) v client = by (waits own v)
    where
      by : (waiting : Bool) → AllAsked Is (cond waiting [] (Does Finishes ∷ [])) client
      by true = tt
      by false = (bare Finishes client tt, tt)

  -- ---- a step

  step_asked : (step : Step) (client : Client) (parts : List Part) → Is (Does (Asks parts)) client → AllAsked Is (step_pushed step parts) client
  step_asked Wait client parts so = (so, tt)
  step_asked MakeLink client parts so = tt
  step_asked AskFeatures client parts so = (so, (bare Finishes (client_after (Does (Asks parts)) client) tt, tt))
  step_asked (OpenChannel psm) client parts so = (so, (bare Finishes (client_after (Does (Asks parts)) client) tt, tt))
  step_asked (SendSdu psm payload) client parts so = (so, tt)
  step_asked (CloseChannel psm) client parts so = (so, (bare Finishes (client_after (Does (Asks parts)) client) tt, tt))
  step_asked BreakLink client parts so = (so, (bare Finishes (client_after (Does (Asks parts)) client) tt, tt))
  step_asked (Ended outcome) client parts so = (so, tt)
  step_asked NoMemory client parts so = (so, tt)

  -- ---- all of it

  -- the begin of a push, and a step
  abbrev pub FeedSo : ClientProfile → Feed → Type 0
  FeedSo pushing (Gifts circumstances) = Unit {0}
  FeedSo pushing (Learns circumstances news) = BeginsSo circumstances news pushing.client
  FeedSo pushing (Receives own psm sdu) = Unit {0}
  FeedSo pushing (Happens event v) = Unit {0}
  FeedSo pushing (Sent v) = Unit {0}
  FeedSo pushing (Steps v) = Is (Does (Asks (fitted pushing))) pushing.client

  pub feed_asked : (pushing : ClientProfile) (feed : Feed) → FeedSo pushing feed → AllAsked Is (pushed_with pushing feed) pushing.client
  feed_asked pushing (Gifts circumstances) so = tt
  feed_asked pushing (Learns circumstances news) so = news_asked circumstances news pushing.client so
  feed_asked pushing (Receives own psm sdu) so = (bare (Hears (events.Sdu psm sdu)) pushing.client tt, tt)
  feed_asked pushing (Happens event v) so = event_asked event v pushing.client
  feed_asked pushing (Sent v) so = sent_asked pushing.submitted v pushing.client
  feed_asked pushing (Steps v) so = step_asked (steps pushing.client (fitted pushing)).step pushing.client (fitted pushing) so

  -- along what a profile goes through that stays so
  module _ (settings : Settings) (Stays : ClientProfile → Type 0) (Of : Feed → Type 0) (keeps : (pushing : ClientProfile) (feed : Feed) → Of feed → Stays pushing → Stays (fed (client_profile settings) pushing feed)) (so : (pushing : ClientProfile) (feed : Feed) → Of feed → Stays pushing → FeedSo pushing feed) where
    pub all_asked : (feeds : List Feed) (pushing : ClientProfile) → Stays pushing → AllByRecursion Of feeds → AllAsked Is (pushed_from settings pushing feeds) pushing.client
    all_asked [] pushing stays all = tt
    all_asked (feed ∷ feeds) pushing stays all =
        let next = fed (client_profile settings) pushing feed in
        both_asked (pushed_with pushing feed) (pushed_from settings next feeds) pushing.client (feed_asked pushing feed (so pushing feed all.0 stays))
        (subst (AllAsked Is (pushed_from settings next feeds)) (feed_so settings pushing feed) (all_asked feeds next (keeps pushing feed all.0 stays) all.1))
