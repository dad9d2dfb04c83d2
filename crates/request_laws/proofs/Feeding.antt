-- What both profiles went through, put together and taken apart.
use Rattle.std.proofs.Common.{◌≡◌, ℕ, Bool, true, false, cond, List, [], ◌∷◌, ◌++◌, Option, Some, None, refl, sym, ap, ◌∙◌, append_assoc}
use Rattle.std.specs.List.{AllByRecursion}
use Rattle.pair_laws.specs.acl_fragments.specs.Pieces.{channel_of}
use Rattle.pair_laws.specs.bt_base.specs.declared.settings.Settings.{Settings}
use Rattle.pair_laws.specs.bt_base.specs.Objects.{Contents}
use Rattle.pair_laws.specs.channel_model.specs.declared.event.ChannelEvent.{ChannelEvent}
use Rattle.pair_laws.specs.channel_model.specs.declared.event.ChannelEvent.TheVariants as events
use Rattle.pair_laws.specs.channel_model.specs.Carrying.{Up as Handed, Nothing, Received}
use Rattle.pair_laws.specs.channel_model.specs.Calls.{link_down, peer_mtu, waits}
use Rattle.pair_laws.specs.channel_model.specs.Hearing.{up}
use Rattle.pair_laws.specs.channel_model.specs.Value.{Channels}
use Rattle.pair_laws.specs.push_model.specs.declared.closing.CloseCause.{CloseCause}
use Rattle.pair_laws.specs.push_model.specs.Client.{Client, cancelled}
use Rattle.pair_laws.specs.push_model.specs.Events.{hears_news}
use Rattle.pair_laws.specs.push_model.specs.Events as news
use Rattle.pair_laws.specs.push_model.specs.Laws as push
use Rattle.pair_laws.specs.push_model.specs.Laws.{Hears, Asks, Finishes, Cancels, all_done}
use Rattle.pair_laws.specs.push_model.specs.Server.{Lent, lends, lent_sdu}
use Rattle.pair_laws.specs.push_model.specs.Steps.{Part, Step, Wait, MakeLink, AskFeatures, OpenChannel, SendSdu, CloseChannel, BreakLink, Ended, NoMemory, steps}
use Rattle.pair_laws.specs.push_laws.specs.Occurrences.{Occurrence, Came, Went, Closed, LinkDown}
use Rattle.pair_laws.specs.world_model.specs.Machines.{LinkEvent, Up, Down, News, Linked, Failed, Heard, TimerFired, Cancelled, Opening}
use Rattle.pair_laws.specs.host_model.specs.Circumstances.{Circumstance}
use Rattle.pair_laws.specs.host_model.specs.Clients.{ClientProfile, cause_of, client_profile, fitted}
use Rattle.pair_laws.specs.host_model.specs.Endpoints.{endpoint_of, takes_sdu}
use Rattle.pair_laws.specs.host_model.specs.Pdus.{sdu_of}
use Rattle.pair_laws.specs.host_model.specs.Servers.{ServerProfile, is_told, server_profile}
use Rattle.pair_laws.specs.host_laws.specs.Calls.{Asks as Asking}
use Rattle.pair_laws.specs.host_laws.specs.Fed.{feeds_up, next_happening, strand_feeds, happenings, turned_feeds}
use Rattle.pair_laws.specs.host_laws.specs.Feeds.{Feed, Gifts, Learns, Receives, Happens, Sent, Steps, fed, all_fed}
use Rattle.pair_laws.specs.host_laws.specs.Pushing.{Affair, Begins, Does, client_behind, end_asked, news_pushed, opened_pushed, closed_pushed, event_pushed, sent_pushed, step_pushed, pushed_with, pushed_from}
use Rattle.pair_laws.specs.host_laws.specs.Serving.{news_served, event_served, taken_by, lent_by, served_with, served_from}
use Rattle.pair_laws.specs.host_laws.specs.Woven.{Strand, Hearing, Giving, Firing, Telling, Gifting, Learning, Checking, Stepping, strand_profile}
use Rattle.pair_laws.specs.host_laws.proofs.Pushing.{all_pushed}
use Rattle.pair_laws.specs.host_laws.proofs.StrandsFed.{strand_so}
use Rattle.request_laws.specs.BothFed.{ComesNone}
use Rattle.request_laws.specs.Twists.{all_deeds, OpensNone}

-- ---- what that is for a client and a server

pub pushed-both : (settings : Settings) (xs ys : List Feed) (p : ClientProfile) → pushed_from settings p (xs ++ ys) ≡ pushed_from settings p xs ++ pushed_from settings (all_fed (client_profile settings) p xs) ys
pushed-both settings [] ys p = refl
pushed-both settings (x ∷ xs) ys p =
    let q = fed (client_profile settings) p x in
    ap (λ (l : List Affair). pushed_with p x ++ l) (pushed-both settings xs ys q) ∙ sym (append_assoc (pushed_with p x) (pushed_from settings q xs) (pushed_from settings (all_fed (client_profile settings) q xs) ys))

pub served-both : (settings : Settings) (content : Option Contents) (xs ys : List Feed) (p : ServerProfile) → served_from settings content p (xs ++ ys) ≡ served_from settings content p xs ++ served_from settings content (all_fed (server_profile settings content) p xs) ys
served-both settings content [] ys p = refl
served-both settings content (x ∷ xs) ys p =
    let q = fed (server_profile settings content) p x in
    ap (λ (l : List Occurrence). served_with p x ++ l) (served-both settings content xs ys q)
    ∙ sym (append_assoc (served_with p x) (served_from settings content q xs) (served_from settings content (all_fed (server_profile settings content) q xs) ys))

-- ---- deeds alone

pub all_both : {X : Type 0} (P : X → Type 0) (xs ys : List X) → AllByRecursion P xs → AllByRecursion P ys → AllByRecursion P (xs ++ ys)
all_both P [] ys one two = two
all_both P (x ∷ xs) ys one two = (one.0, all_both P xs ys one.1 two)

abbrev pub IsDeed : Affair → Type 0
IsDeed (Begins size name) = ⊥
IsDeed (Does deed) = Unit {0}

pub all_ahead : {X : Type 0} (P : X → Type 0) (xs ys : List X) → AllByRecursion P (xs ++ ys) → AllByRecursion P xs × AllByRecursion P ys
all_ahead P [] ys all = (tt, all)
all_ahead P (x ∷ xs) ys all = let rest = all_ahead P xs ys all.1 in ((all.0, rest.0), rest.1)

pub behind_deeds : (affairs : List Affair) (client : Client) → AllByRecursion IsDeed affairs → client_behind affairs client ≡ all_done (all_deeds affairs) client
behind_deeds [] client all = refl
behind_deeds (Begins size name ∷ affairs) client all = absurd all.0
behind_deeds (Does deed ∷ affairs) client all = behind_deeds affairs (push.done deed client) all.1

-- what is so of all that a client does, but for what it hears of its link and its channels
pub record Holds (Q : Affair → Type 0) : Type 0 where
  pub asks : (parts : List Part) → Q (Does (Asks parts))
  pub finishes : Q (Does Finishes)
  pub cancels : Q (Does Cancels)
  pub down : (reason : ℕ) → Q (Does (Hears (news.LinkDown reason)))
  pub failed : (status : ℕ) → Q (Does (Hears (news.LinkFailed status)))
  pub opened : (psm mtu : ℕ) → Q (Does (Hears (news.ChannelOpen psm mtu)))
  pub closed : (psm : ℕ) (cause : CloseCause) → Q (Does (Hears (news.ChannelClosed psm cause)))
  pub told : Q (Does (Hears news.FeaturesTold))
  pub lost : Q (Does (Hears news.FeaturesLost))
  pub timer : Q (Does (Hears news.Timer))

abbrev pub NewsSo : (Affair → Type 0) → News → Type 0
NewsSo Q (Linked Up) = Q (Does (Hears news.LinkUp))
NewsSo Q (Linked (Down reason)) = Unit {0}
NewsSo Q (Failed status) = Unit {0}
NewsSo Q (Heard pdu) = Unit {0}
NewsSo Q TimerFired = Unit {0}
NewsSo Q Cancelled = Unit {0}
NewsSo Q (Opening name) = ⊥

abbrev pub FeedSo : (Affair → Type 0) → Feed → Type 0
FeedSo Q (Gifts circumstances) = Unit {0}
FeedSo Q (Learns circumstances heard) = NewsSo Q heard
FeedSo Q (Receives own psm sdu) = Q (Does (Hears (news.Sdu psm sdu)))
FeedSo Q (Happens event v) = Unit {0}
FeedSo Q (Sent v) = Unit {0}
FeedSo Q (Steps v) = Unit {0}

module _ (Q : Affair → Type 0) (holds : Holds Q) where
  pub end_so : (step : Step) → AllByRecursion Q (end_asked step)
  end_so Wait = tt
  end_so MakeLink = tt
  end_so AskFeatures = tt
  end_so (OpenChannel psm) = tt
  end_so (SendSdu psm payload) = tt
  end_so (CloseChannel psm) = tt
  end_so BreakLink = tt
  end_so (Ended outcome) = (holds.asks [], tt)
  end_so NoMemory = tt

  opened_so : (mtu : Option ℕ) (psm : ℕ) → AllByRecursion Q (opened_pushed mtu psm)
  opened_so None psm = tt
  opened_so (Some mtu) psm = (holds.opened psm mtu, tt)

  closed_so : (cause : Option CloseCause) (psm : ℕ) → AllByRecursion Q (closed_pushed cause psm)
  closed_so None psm = tt
  closed_so (Some cause) psm = (holds.closed psm cause, tt)

  event_so : (event : ChannelEvent) (v : Channels) → AllByRecursion Q (event_pushed event v)
  event_so (events.Opened own psm) v = opened_so (peer_mtu own v) psm
  event_so (events.Closed own psm reason) v = closed_so (cause_of reason) psm
  event_so (events.Features features) v = (holds.told, tt)
  event_so events.FeaturesLost v = (holds.lost, tt)
  event_so (events.DisconnectLost own) v = tt

  sent_so : (own : Option ℕ) (v : Channels) → AllByRecursion Q (sent_pushed own v)
  sent_so None v = tt
  sent_so (Some own) v = by (waits own v)
    where
      by : (waiting : Bool) → AllByRecursion Q (cond waiting [] (Does Finishes ∷ []))
      by true = tt
      by false = (holds.finishes, tt)

  step_so : (step : Step) (parts : List Part) → AllByRecursion Q (step_pushed step parts)
  step_so Wait parts = (holds.asks parts, tt)
  step_so MakeLink parts = tt
  step_so AskFeatures parts = (holds.asks parts, (holds.finishes, tt))
  step_so (OpenChannel psm) parts = (holds.asks parts, (holds.finishes, tt))
  step_so (SendSdu psm payload) parts = (holds.asks parts, tt)
  step_so (CloseChannel psm) parts = (holds.asks parts, (holds.finishes, tt))
  step_so BreakLink parts = (holds.asks parts, (holds.finishes, tt))
  step_so (Ended outcome) parts = (holds.asks parts, tt)
  step_so NoMemory parts = (holds.asks parts, tt)

  news_so : (circumstances : List Circumstance) (heard : News) (client : Client) → NewsSo Q heard → AllByRecursion Q (news_pushed circumstances heard client)
  news_so circumstances (Linked Up) client so = (so, tt)
  news_so circumstances (Linked (Down reason)) client so = (holds.down reason, end_so (steps (hears_news (news.LinkDown reason) client) []).step)
  news_so circumstances (Failed status) client so = (holds.failed status, end_so (steps (hears_news (news.LinkFailed status) client) []).step)
  news_so circumstances (Heard pdu) client so = tt
  news_so circumstances TimerFired client so = (holds.timer, tt)
  news_so circumstances Cancelled client so = (holds.cancels, end_so (steps (cancelled client) []).step)
  news_so circumstances (Opening name) client so = absurd so

  pub feed_so : (p : ClientProfile) (feed : Feed) → FeedSo Q feed → AllByRecursion Q (pushed_with p feed)
  feed_so p (Gifts circumstances) so = tt
  feed_so p (Learns circumstances heard) so = news_so circumstances heard p.client so
  feed_so p (Receives own psm sdu) so = (so, tt)
  feed_so p (Happens event v) so = event_so event v
  feed_so p (Sent v) so = sent_so p.submitted v
  feed_so p (Steps v) so = step_so (steps p.client (fitted p)).step (fitted p)

  pub all_so : (settings : Settings) (feeds : List Feed) (p : ClientProfile) → AllByRecursion (FeedSo Q) feeds → AllByRecursion Q (pushed_from settings p feeds)
  all_so settings [] p so = tt
  all_so settings (feed ∷ feeds) p so =
      let q = fed (client_profile settings) p feed in
      all_both Q (pushed_with p feed) (pushed_from settings q feeds) (feed_so p feed so.0) (all_so settings feeds q so.1)

-- all that a client does on a link are deeds
deeds_hold : Holds IsDeed
deeds_hold = record { asks = λ parts. tt; finishes = tt; cancels = tt; down = λ reason. tt; failed = λ status. tt; opened = λ psm mtu. tt; closed = λ psm cause. tt; told = tt; lost = tt; timer = tt }

learned_so : (circumstances : List Circumstance) (heard : News) → OpensNone (Learning circumstances heard) → NewsSo IsDeed heard
learned_so circumstances (Linked event) none = absurd none
learned_so circumstances (Failed status) none = absurd none
learned_so circumstances (Heard pdu) none = tt
learned_so circumstances TimerFired none = tt
learned_so circumstances Cancelled none = tt
learned_so circumstances (Opening name) none = none

up_so : (brought : Handed) → AllByRecursion (FeedSo IsDeed) (feeds_up brought)
up_so Nothing = tt
up_so (Received own psm sdu) = (tt, tt)

next_so : (events : List ChannelEvent) (v : Channels) → AllByRecursion (FeedSo IsDeed) (next_happening events v)
next_so [] v = tt
next_so (event ∷ events) v = (tt, tt)

strand_feeds_so : (strand : Strand) (v : Channels) → OpensNone strand → AllByRecursion (FeedSo IsDeed) (strand_feeds strand v)
strand_feeds_so (Hearing pdu) v none = up_so (up (channel_of pdu) pdu v)
strand_feeds_so (Giving pdu) v none = tt
strand_feeds_so Firing v none = tt
strand_feeds_so Telling v none = next_so v.events v
strand_feeds_so (Gifting circumstances) v none = (tt, tt)
strand_feeds_so (Learning circumstances heard) v none = (learned_so circumstances heard none, tt)
strand_feeds_so Checking v none = (tt, tt)
strand_feeds_so Stepping v none = (tt, tt)

pub strand_deeds : (settings : Settings) (strand : Strand) (v : Channels) (p : ClientProfile) → OpensNone strand → AllByRecursion IsDeed (pushed_from settings p (strand_feeds strand v))
strand_deeds settings strand v p none = all_so IsDeed deeds_hold settings (strand_feeds strand v) p (strand_feeds_so strand v none)

pub strand_client : (settings : Settings) (asks : Asking (client_profile settings)) (strand : Strand) (v : Channels) (p : ClientProfile) → OpensNone strand
    → (strand_profile (client_profile settings) strand v p).client ≡ all_done (all_deeds (pushed_from settings p (strand_feeds strand v))) p.client
strand_client settings asks strand v p none =
    ap (λ (q : ClientProfile). q.client) (sym (strand_so (client_profile settings) asks strand v p))
    ∙ (all_pushed settings (strand_feeds strand v) p ∙ behind_deeds (pushed_from settings p (strand_feeds strand v)) p.client (strand_deeds settings strand v p none))

-- ---- what a server is told with one thing: nothing comes, or one SDU

pub data Shape (occurrences : List Occurrence) : Type 0 where
  Quiet : AllByRecursion ComesNone occurrences → Shape occurrences
  Single : (one : Occurrence) → occurrences ≡ one ∷ [] → Shape occurrences

pub news_shape : (heard : News) → AllByRecursion ComesNone (news_served heard ++ [])
news_shape (Linked Up) = tt
news_shape (Linked (Down reason)) = (λ carrier. refl, tt)
news_shape (Failed status) = tt
news_shape (Heard pdu) = tt
news_shape TimerFired = tt
news_shape Cancelled = tt
news_shape (Opening name) = tt

pub event_shape : (event : ChannelEvent) → AllByRecursion ComesNone (event_served event)
event_shape (events.Opened own psm) = tt
event_shape (events.Closed own psm reason) = by (is_told reason)
  where
    by : (is : Bool) → AllByRecursion ComesNone (cond is (Closed psm ∷ []) [])
    by true = (λ carrier. refl, tt)
    by false = tt
event_shape (events.Features features) = tt
event_shape events.FeaturesLost = tt
event_shape (events.DisconnectLost own) = tt

taken_shape : (own : Option ℕ) (lent : Lent) (v : Channels) → AllByRecursion ComesNone (taken_by own lent v)
taken_shape None lent v = tt
taken_shape (Some own) lent v = by (takes_sdu own (sdu_of lent.payload) v)
  where
    by : (is : Bool) → AllByRecursion ComesNone (cond is (Went lent.psm (sdu_of lent.payload) ∷ []) [])
    by true = (λ carrier. refl, tt)
    by false = tt

pub lent_shape : (lent : Option Lent) (v : Channels) (p : ServerProfile) → AllByRecursion ComesNone (lent_by lent v p)
lent_shape None v p = tt
lent_shape (Some lent) v p = taken_shape (endpoint_of lent.psm p.endpoints) lent v

up_shape : (settings : Settings) (content : Option Contents) (p : ServerProfile) (brought : Handed) → Shape (served_from settings content p (feeds_up brought))
up_shape settings content p Nothing = Quiet tt
up_shape settings content p (Received own psm sdu) = Single (Came psm sdu) refl

told_shape : (settings : Settings) (content : Option Contents) (p : ServerProfile) (events : List ChannelEvent) (v : Channels) → Shape (served_from settings content p (next_happening events v))
told_shape settings content p [] v = Quiet tt
told_shape settings content p (event ∷ events) v = Quiet (all_both ComesNone (event_served event) [] (event_shape event) tt)

pub strand_shape : (settings : Settings) (content : Option Contents) (strand : Strand) (v : Channels) (p : ServerProfile) → Shape (served_from settings content p (strand_feeds strand v))
strand_shape settings content (Hearing pdu) v p = up_shape settings content p (up (channel_of pdu) pdu v)
strand_shape settings content (Giving pdu) v p = Quiet tt
strand_shape settings content Firing v p = Quiet tt
strand_shape settings content Telling v p = told_shape settings content p v.events v
strand_shape settings content (Gifting circumstances) v p = Quiet (λ carrier. refl, tt)
strand_shape settings content (Learning circumstances heard) v p = Quiet (news_shape heard)
strand_shape settings content Checking v p = Quiet tt
strand_shape settings content Stepping v p = Quiet (λ carrier. refl, all_both ComesNone (lent_by (lent_sdu (lends p.server)) v p) [] (lent_shape (lent_sdu (lends p.server)) v p) tt)

-- ---- the link of a server comes up, or goes down

pub up_served : (settings : Settings) (content : Option Contents) (circumstances : List Circumstance) (event : LinkEvent) (v : Channels) (p : ServerProfile) → event ≡ Up → served_from settings content p (turned_feeds circumstances event v) ≡ []
up_served settings content circumstances event v p is = ap (λ (e : LinkEvent). served_from settings content p (turned_feeds circumstances e v)) is

happenings_quiet : (settings : Settings) (content : Option Contents) (events : List ChannelEvent) (v : Channels) (p : ServerProfile) → AllByRecursion ComesNone (served_from settings content p (happenings v events))
happenings_quiet settings content [] v p = tt
happenings_quiet settings content (event ∷ events) v p =
    let now : Channels = record v { events = events } in
    let q = fed (server_profile settings content) p (Happens event now) in
    all_both ComesNone (event_served event) (served_from settings content q (happenings now events)) (event_shape event) (happenings_quiet settings content events now q)

-- what the link closes goes first
pub record DownServed (occurrences : List Occurrence) : Type 0 where
  pub ahead : List Occurrence
  pub quiet : AllByRecursion ComesNone ahead
  pub is : occurrences ≡ ahead ++ LinkDown ∷ []

pub down_served : (settings : Settings) (content : Option Contents) (circumstances : List Circumstance) (reason : ℕ) (v : Channels) (p : ServerProfile) → DownServed (served_from settings content p (turned_feeds circumstances (Down reason) v))
down_served settings content circumstances reason v p =
    let w = link_down v in
    let ahead = served_from settings content p (happenings w w.events) in
    record { ahead = ahead; quiet = happenings_quiet settings content w.events w p; is = served-both settings content (happenings w w.events) (Learns circumstances (Linked (Down reason)) ∷ []) p }
