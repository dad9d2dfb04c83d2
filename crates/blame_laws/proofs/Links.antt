-- Both hosts over all their links: at no moment does the client blame service discovery.
use Rattle.std.proofs.Common.{◌≡◌, ℕ, suc, Bool, true, false, cond, ◌&&◌, Result, Ok, Err, List, [], ◌∷◌, Option, refl, sym, ap, subst, ◌∙◌}
use Rattle.std.specs.Prelude.{get_or}
use Rattle.std.specs.List.{AllByRecursion}
use Rattle.std.proofs.lemmas.List.Sums.{fold-append}
use Rattle.request_laws.specs.bt_base.specs.Objects.{Contents}
use Rattle.request_laws.specs.bt_base.specs.declared.settings.Settings.{Settings}
use Rattle.request_laws.specs.channel_model.specs.declared.event.ChannelEvent.{ChannelEvent}
use Rattle.request_laws.specs.channel_model.specs.Calls.{link_down}
use Rattle.request_laws.specs.channel_model.specs.Policies.{policy}
use Rattle.request_laws.specs.channel_model.specs.Value.{Channels, no_channels}
use Rattle.request_laws.specs.channel_laws.specs.Frames.{AreUttered}
use Rattle.request_laws.specs.channel_laws.specs.Pipes.{AreCarried}
use Rattle.request_laws.specs.channel_laws.specs.Runs as channels
use Rattle.request_laws.specs.bt_base.specs.declared.ports.PortFault.{PortFault}
use Rattle.request_laws.specs.bt_base.specs.declared.ports.PortFault.TheVariants as fault
use Rattle.request_laws.specs.push_model.specs.sdp_client.specs.declared.query.Stage.TheVariants as at
use Rattle.request_laws.specs.push_model.specs.Client.{Client, begun_by, begins}
use Rattle.request_laws.specs.push_laws.proofs.Searching.{Searches, deed_search}
use Rattle.request_laws.specs.push_model.specs.Events as events
use Rattle.request_laws.specs.push_model.specs.Events.{search_psm}
use Rattle.request_laws.specs.push_model.specs.Laws.{Deed, Hears, Asks, Finishes, Cancels, done}
use Rattle.request_laws.specs.push_model.specs.Steps.{Step, Wait, MakeLink, AskFeatures, OpenChannel, SendSdu, CloseChannel, BreakLink, Ended, NoMemory, steps}
use Rattle.request_laws.specs.push_laws.specs.Occurrences.{LinkDown}
use Rattle.request_laws.specs.world_model.specs.Machines.{LinkEvent, Up, Down, Linked, Failed, Heard, TimerFired, Cancelled, Opening}
use Rattle.request_laws.specs.world_model.specs.Carriages.{linked_by}
use Rattle.request_laws.specs.host_model.specs.Circumstances.{Circumstance}
use Rattle.request_laws.specs.host_model.specs.Clients.{ClientProfile, ended, is_paging, client_profile}
use Rattle.request_laws.specs.host_model.specs.Profiles.{Profile}
use Rattle.request_laws.specs.host_model.specs.Servers.{ServerProfile, server_profile}
use Rattle.request_laws.specs.host_model.specs.Shelves.{size_for, name_for}
use Rattle.request_laws.specs.host_laws.specs.Asked.{IsWantedAt, AreAsked}
use Rattle.request_laws.specs.host_laws.specs.Calls.{Asks as Asking, values_after}
use Rattle.request_laws.specs.host_laws.specs.Fed.{WovenFed, happenings, turned_feeds, FedSpan, span_feeds, behind_span, AreFed}
use Rattle.request_laws.specs.host_laws.specs.Feeds.{Feed, Gifts, Learns, Receives, Happens, Sent, Steps, fed, all_fed}
use Rattle.request_laws.specs.host_laws.specs.Lives.{Span, all_marks}
use Rattle.request_laws.specs.host_laws.specs.OverLinks.{AreTimely}
use Rattle.request_laws.specs.host_laws.specs.Pushing.{Affair, Begins, Does, client_after, client_behind, link_asked, then_ends, then_calls, pushed_with, pushed_from}
use Rattle.request_laws.specs.host_laws.specs.Serving.{served_from}
use Rattle.request_laws.specs.host_laws.specs.Woven.{Woven, turned}
use Rattle.request_laws.specs.host_laws.proofs.Paging.{WaitsForLink, PagesSo, fed_pages}
use Rattle.request_laws.specs.host_laws.proofs.Pushing.{all_pushed}
use Rattle.request_laws.specs.host_laws.proofs.StrandsFed.{woven_so, here_so, span_so}
use Rattle.request_laws.specs.pair_laws.specs.Pairs.{PairOnLink}
use Rattle.request_laws.specs.BothFed.{ComesNone, IsDown}
use Rattle.request_laws.specs.Twists.{OpensNone}
use Rattle.request_laws.proofs.Between.{between_still}
use Rattle.request_laws.proofs.Feeding.{all_both, Holds, end_so, feed_so, down_served}
use Rattle.request_laws.proofs.HandedUp.{none_flat}
use Rattle.request_laws.proofs.Linked.{up_opens, wanted_up}
use Rattle.request_laws.proofs.Opening.{IsBetween, fed_between}
use Rattle.request_laws.proofs.Paired.{lists_of}
use Rattle.request_laws.proofs.Piping.{still_quiet}
use Rattle.request_laws.proofs.Summing.{both_ask}
use Rattle.request_laws.proofs.Timely.{HearsNothing, is_up, goes_down, is_deaf, is_down, is_deaf_now}
use Rattle.blame_laws.proofs.Asking.{Well, link_well}
use Rattle.blame_laws.proofs.OnLinks.{LinkEnds, through_link}
use Rattle.blame_laws.proofs.Replying.{IsRequest, Replies, first_replies, fed_replies, comes-right}
use Rattle.blame_laws.proofs.Spared.{IsClear, deed_clear, begins_clear}

-- ---- without an SDU

abbrev IsQuiet : Affair → Type 0
IsQuiet (Does (Hears (events.Sdu psm octets))) = ⊥
IsQuiet affair = Unit {0}

quiet_holds : Holds IsQuiet
quiet_holds = record { asks = λ parts. tt; finishes = tt; cancels = tt; down = λ reason. tt; failed = λ status. tt; opened = λ psm mtu. tt; closed = λ psm cause. tt; told = tt; lost = tt; timer = tt }

links_quiet : (step : Step) → AllByRecursion IsQuiet (link_asked step)
links_quiet Wait = tt
links_quiet MakeLink = (tt, (tt, tt))
links_quiet AskFeatures = tt
links_quiet (OpenChannel psm) = tt
links_quiet (SendSdu psm payload) = tt
links_quiet (CloseChannel psm) = tt
links_quiet BreakLink = tt
links_quiet (Ended outcome) = tt
links_quiet NoMemory = tt

abbrev BringsNone : Feed → Type 0
BringsNone (Receives own psm sdu) = ⊥
BringsNone feed = Unit {0}

feed_quiet : (feed : Feed) (p : ClientProfile) → BringsNone feed → AllByRecursion IsQuiet (pushed_with p feed)
feed_quiet (Gifts circumstances) p none = tt
feed_quiet (Learns circumstances (Linked Up)) p none = feed_so IsQuiet quiet_holds p (Learns circumstances (Linked Up)) tt
feed_quiet (Learns circumstances (Linked (Down reason))) p none = feed_so IsQuiet quiet_holds p (Learns circumstances (Linked (Down reason))) tt
feed_quiet (Learns circumstances (Failed status)) p none = feed_so IsQuiet quiet_holds p (Learns circumstances (Failed status)) tt
feed_quiet (Learns circumstances (Heard pdu)) p none = tt
feed_quiet (Learns circumstances TimerFired) p none = feed_so IsQuiet quiet_holds p (Learns circumstances TimerFired) tt
feed_quiet (Learns circumstances Cancelled) p none = feed_so IsQuiet quiet_holds p (Learns circumstances Cancelled) tt
feed_quiet (Learns circumstances (Opening name)) p none =
    let begun : Client = begins (size_for circumstances name) (name_for name) p.client in
    (tt, all_both IsQuiet (then_ends begun) (then_calls (ended begun)) (end_so IsQuiet quiet_holds (steps begun []).step) (links_quiet (steps (ended begun) []).step))
feed_quiet (Receives own psm sdu) p none = absurd none
feed_quiet (Happens event v) p none = feed_so IsQuiet quiet_holds p (Happens event v) tt
feed_quiet (Sent v) p none = feed_so IsQuiet quiet_holds p (Sent v) tt
feed_quiet (Steps v) p none = feed_so IsQuiet quiet_holds p (Steps v) tt

deed_quiet : (settings : Settings) (deed : Deed) (client : Client) → IsQuiet (Does deed) → IsClear settings client → IsClear settings (done deed client)
deed_quiet settings (Hears (events.Sdu psm octets)) client quiet clear = absurd quiet
deed_quiet settings (Hears events.LinkUp) client quiet clear = deed_clear settings (Hears events.LinkUp) client tt clear
deed_quiet settings (Hears (events.LinkDown reason)) client quiet clear = deed_clear settings (Hears (events.LinkDown reason)) client tt clear
deed_quiet settings (Hears (events.LinkFailed status)) client quiet clear = deed_clear settings (Hears (events.LinkFailed status)) client tt clear
deed_quiet settings (Hears (events.ChannelOpen psm mtu)) client quiet clear = deed_clear settings (Hears (events.ChannelOpen psm mtu)) client tt clear
deed_quiet settings (Hears (events.ChannelClosed psm cause)) client quiet clear = deed_clear settings (Hears (events.ChannelClosed psm cause)) client tt clear
deed_quiet settings (Hears events.FeaturesTold) client quiet clear = deed_clear settings (Hears events.FeaturesTold) client tt clear
deed_quiet settings (Hears events.FeaturesLost) client quiet clear = deed_clear settings (Hears events.FeaturesLost) client tt clear
deed_quiet settings (Hears events.Timer) client quiet clear = deed_clear settings (Hears events.Timer) client tt clear
deed_quiet settings (Asks parts) client quiet clear = deed_clear settings (Asks parts) client tt clear
deed_quiet settings Finishes client quiet clear = deed_clear settings Finishes client tt clear
deed_quiet settings Cancels client quiet clear = deed_clear settings Cancels client tt clear

-- a push begins with the first question
begins_search : (size : Result ℕ PortFault) (name : List ℕ) (client : Client) → Searches client → Searches (begins size name client)
begins_search size name client searches = by client.failed size
  where
    by : (failed : Bool) (size : Result ℕ PortFault) → Searches (cond failed client (begun_by size name client))
    by true size = searches
    by false (Ok count) = λ seeks. (at.Due, refl)
    by false (Err fault.Failed) = λ seeks. cc
    by false (Err fault.NoMemory) = searches

-- it blames its peer for no such fault, and while it seeks the service its question is the first
abbrev pub IsWell : Settings → Client → Type 0
IsWell settings client = IsClear settings client × Searches client

all_quiet : (settings : Settings) (affairs : List Affair) (client : Client) → AllByRecursion IsQuiet affairs → IsWell settings client → IsWell settings (client_behind affairs client)
all_quiet settings [] client quiet clear = clear
all_quiet settings (Begins size name ∷ affairs) client quiet clear = all_quiet settings affairs (client_after (Begins size name) client) quiet.1 (begins_clear settings size name client clear.0, begins_search size name client clear.1)
all_quiet settings (Does deed ∷ affairs) client quiet clear = all_quiet settings affairs (done deed client) quiet.1
    (deed_quiet settings deed client quiet.0 clear.0, deed_search settings.serves deed client (λ psm sdu is here. absurd (subst (λ (one : Deed). IsQuiet (Does one)) is quiet.0)) clear.1)

between_brings : (feeds : List Feed) → AllByRecursion IsBetween feeds → AllByRecursion BringsNone feeds
between_brings [] so = tt
between_brings (Gifts circumstances ∷ feeds) so = (tt, between_brings feeds so.1)
between_brings (Learns circumstances heard ∷ feeds) so = (tt, between_brings feeds so.1)
between_brings (Receives own psm sdu ∷ feeds) so = absurd so.0
between_brings (Happens event v ∷ feeds) so = (tt, between_brings feeds so.1)
between_brings (Sent v ∷ feeds) so = (tt, between_brings feeds so.1)
between_brings (Steps v ∷ feeds) so = (tt, between_brings feeds so.1)

happenings_bring : (v : Channels) (found : List ChannelEvent) → AllByRecursion BringsNone (happenings v found)
happenings_bring v [] = tt
happenings_bring v (event ∷ found) = let now : Channels = record v { events = found } in (tt, happenings_bring now found)

turned_bring : (circumstances : List Circumstance) (event : LinkEvent) (v : Channels) → AllByRecursion BringsNone (turned_feeds circumstances event v)
turned_bring circumstances Up v = (tt, tt)
turned_bring circumstances (Down reason) v = let w = link_down v in all_both BringsNone (happenings w w.events) (Learns circumstances (Linked (Down reason)) ∷ []) (happenings_bring w w.events) (tt, tt)

module _ (settings : Settings) (content : Option Contents) where
  abbrev Clear : Client → Type 0
  Clear client = IsWell settings client

  well_so : {client : Client} → Well settings client → Clear client
  well_so well = (well.clear, well.searches)

  abbrev A : Profile ClientProfile
  A = client_profile settings

  abbrev B : Profile ServerProfile
  B = server_profile settings content

  abbrev asks_a : Asking A
  asks_a = both_ask.clients settings

  abbrev asks_b : Asking B
  asks_b = both_ask.servers settings content

  -- ---- a host alone

  feeds_quiet : (feeds : List Feed) (p : ClientProfile) → AllByRecursion BringsNone feeds → AllByRecursion IsQuiet (pushed_from settings p feeds)
  feeds_quiet [] p none = tt
  feeds_quiet (feed ∷ feeds) p none = let q = fed (client_profile settings) p feed in all_both IsQuiet (pushed_with p feed) (pushed_from settings q feeds) (feed_quiet feed p none.0) (feeds_quiet feeds q none.1)

  fed_clear : (feeds : List Feed) (p : ClientProfile) → AllByRecursion BringsNone feeds → Clear p.client → Clear (all_fed (client_profile settings) p feeds).client
  fed_clear feeds p none clear = subst Clear (sym (all_pushed settings feeds p)) (all_quiet settings (pushed_from settings p feeds) p.client (feeds_quiet feeds p none) clear)

  last_fed : (list : List channels.Occurrence) (feeds : List Feed) (first last : ClientProfile) (so : WovenFed (client_profile settings) (both_ask.clients settings) list feeds first last) → all_fed (client_profile settings) first feeds ≡ last
  last_fed list feeds first last so = ap (all_fed A first) so.feeds_are ∙ (woven_so A asks_a so.woven.weave no_channels first ∙ sym so.woven.last_is)

  between_clear : (list : List channels.Occurrence) (feeds : List Feed) (first last : ClientProfile) → WovenFed (client_profile settings) (both_ask.clients settings) list feeds first last → AllByRecursion HearsNothing list → Clear first.client → Clear last.client
  between_clear list feeds first last so deaf clear =
      subst (λ (p : ClientProfile). Clear p.client) (last_fed list feeds first last so) (fed_clear feeds first (between_brings feeds (fed_between settings asks_a list feeds first last so deaf)) clear)

  -- as a link comes up for it or goes down it goes through that
  turned_a : (span : Span) (first : ClientProfile) (so : FedSpan (client_profile settings) (both_ask.clients settings) span first)
      → all_fed (client_profile settings) so.mid (turned_feeds so.circumstances span.event (values_after (client_profile settings).policy no_channels span.list)) ≡ behind_span (client_profile settings) (both_ask.clients settings) span first so
  turned_a span first so =
      let turning = turned_feeds so.circumstances span.event (values_after A.policy no_channels span.list) in
      ap (λ (p : ClientProfile). all_fed A p turning) (sym (here_so A asks_a span first so)) ∙ (sym (fold-append (fed A) first so.here turning) ∙ span_so A asks_a span first so)

  turned_b : (span : Span) (first : ServerProfile) (so : FedSpan (server_profile settings content) (both_ask.servers settings content) span first)
      → all_fed (server_profile settings content) so.mid (turned_feeds so.circumstances span.event (values_after (server_profile settings content).policy no_channels span.list)) ≡ behind_span (server_profile settings content) (both_ask.servers settings content) span first so
  turned_b span first so =
      let turning = turned_feeds so.circumstances span.event (values_after B.policy no_channels span.list) in
      ap (λ (q : ServerProfile). all_fed B q turning) (sym (here_so B asks_b span first so)) ∙ (sym (fold-append (fed B) first so.here turning) ∙ span_so B asks_b span first so)

  turned_clear : (span : Span) (first : ClientProfile) (so : FedSpan (client_profile settings) (both_ask.clients settings) span first) → Clear so.mid.client → Clear (behind_span (client_profile settings) (both_ask.clients settings) span first so).client
  turned_clear span first so clear =
      let turning = turned_feeds so.circumstances span.event (values_after A.policy no_channels span.list) in
      subst (λ (p : ClientProfile). Clear p.client) (turned_a span first so) (fed_clear turning so.mid (turned_bring so.circumstances span.event (values_after A.policy no_channels span.list)) clear)

  span_pages : (span : Span) (first : ClientProfile) (so : FedSpan (client_profile settings) (both_ask.clients settings) span first) → PagesSo first → PagesSo (behind_span (client_profile settings) (both_ask.clients settings) span first so)
  span_pages span first so pages = subst PagesSo (span_so A asks_a span first so) (fed_pages settings (span_feeds A asks_a span first so) first pages)

  -- where a link comes up that it wants
  abbrev Wants : ClientProfile → Type 0
  Wants p = (client_profile settings).wants_link p ≡ true

  up_well : (one : Span) (first : ClientProfile) (so : FedSpan (client_profile settings) (both_ask.clients settings) one first) → one.event ≡ Up → AllByRecursion HearsNothing one.list → IsWantedAt Wants one.event so.mid → PagesSo first → Clear first.client
      → Well settings (behind_span (client_profile settings) (both_ask.clients settings) one first so).client
  up_well one first so up deaf wanted pages clear =
      let paged : PagesSo so.mid = subst PagesSo (here_so A asks_a one first so) (fed_pages settings so.here first pages) in
      let waits : WaitsForLink so.mid.client = paged (left (is_paging so.mid.bid) _ (wanted_up Wants one.event so.mid up wanted)) in
      subst (λ (event : LinkEvent). Well settings (turned A so.circumstances event (values_after A.policy no_channels one.list) so.mid).client) (sym up)
      (link_well settings so.mid.client waits (between_clear one.list so.here first so.mid so.so deaf clear).0)
    where
      left : (a b : Bool) → (a && b) ≡ true → a ≡ true
      left true b is = refl
      left false b is = cc

  -- ---- the server alone

  quiet_replies : (feeds : List Feed) (q : ServerProfile) → AllByRecursion ComesNone (served_from settings content q feeds) → Replies settings.serves q.server → Replies settings.serves (all_fed (server_profile settings content) q feeds).server
  quiet_replies feeds q quiet so =
      let served = served_from settings content q feeds in
      fed_replies settings.serves settings content feeds q (comes-right served (subst (AllByRecursion IsRequest) (sym (none_flat search_psm served quiet)) tt)) so

  turned_quiet : (circumstances : List Circumstance) (event : LinkEvent) (v : Channels) (q : ServerProfile) → AllByRecursion ComesNone (served_from settings content q (turned_feeds circumstances event v))
  turned_quiet circumstances Up v q = tt
  turned_quiet circumstances (Down reason) v q =
      let down = down_served settings content circumstances reason v q in
      subst (AllByRecursion ComesNone) (sym down.is) (all_both ComesNone down.ahead (LinkDown ∷ []) down.quiet (λ carrier. refl, tt))

  turned_replies : (span : Span) (first : ServerProfile) (so : FedSpan (server_profile settings content) (both_ask.servers settings content) span first) → Replies settings.serves so.mid.server
      → Replies settings.serves (behind_span (server_profile settings content) (both_ask.servers settings content) span first so).server
  turned_replies span first so replies =
      let v = values_after B.policy no_channels span.list in
      subst (λ (q : ServerProfile). Replies settings.serves q.server) (turned_b span first so) (quiet_replies (turned_feeds so.circumstances span.event v) so.mid (turned_quiet so.circumstances span.event v so.mid) replies)

  -- by the time that its link comes up
  up_replies : (one : Span) (first : ServerProfile) (so : FedSpan (server_profile settings content) (both_ask.servers settings content) one first) → AllByRecursion HearsNothing one.list → Replies settings.serves first.server
      → Replies settings.serves (behind_span (server_profile settings content) (both_ask.servers settings content) one first so).server
  up_replies one first so deaf replies =
      let quiet = still_quiet (served_from settings content first so.here) (between_still settings content asks_b one.list so.here first so.mid so.so deaf) in
      turned_replies one first so (subst (λ (q : ServerProfile). Replies settings.serves q.server) (here_so B asks_b one first so) (quiet_replies so.here first quiet replies))

  -- ---- both

  new_client : (circumstances : List Circumstance) (event : LinkEvent) (v : Channels) (p : ClientProfile) → (turned (client_profile settings) circumstances event v p).endpoints ≡ []
  new_client circumstances Up v p = refl
  new_client circumstances (Down reason) v p = refl

  new_server : (circumstances : List Circumstance) (event : LinkEvent) (v : Channels) (q : ServerProfile) → (turned (server_profile settings content) circumstances event v q).endpoints ≡ []
  new_server circumstances Up v q = refl
  new_server circumstances (Down reason) v q = refl

  none_woven : Woven (server_profile settings content) (both_ask.servers settings content) [] (server_profile settings content).first (server_profile settings content).first
  none_woven = record { weave = []; list_is = refl; last_is = refl; on_link = tt }

  down_off : (event : LinkEvent) → IsDown event → linked_by event ≡ false
  down_off Up down = absurd down
  down_off (Down reason) down = refl

  -- what happened to their channels on each of their links is a pair
  module _ (near far : ℕ → List channels.Occurrence) (pairs : (k : ℕ) → PairOnLink (policy settings false) (policy settings true) (near k) (far k)) (carried : (k : ℕ) → AreCarried (policy settings false) (policy settings true) (pairs k).turns)
      (near_utters : (k : ℕ) → AreUttered (policy settings false) (near k)) (far_utters : (k : ℕ) → AreUttered (policy settings true) (far k)) where
    on_link : (k : ℕ) (list_a list_b : List channels.Occurrence) (client last_a : ClientProfile) (server last_b : ServerProfile) (a : Woven (client_profile settings) (both_ask.clients settings) list_a client last_a) → Woven (server_profile settings content) (both_ask.servers settings content) list_b server last_b
        → list_a ≡ near k → list_b ≡ far k → client.endpoints ≡ [] → server.endpoints ≡ [] → AllByRecursion OpensNone a.weave → Well settings client.client → Replies settings.serves server.server → LinkEnds settings content last_a last_b
    on_link k list_a list_b client last_a server last_b a b is_a is_b client_none server_none opens well replies =
        through_link settings content list_a list_b pair carried_so (subst (AreUttered (policy settings false)) (sym is_a) (near_utters k)) (subst (AreUttered (policy settings true)) (sym is_b) (far_utters k)) client last_a server last_b a b client_none server_none opens well replies
      where
        both_so : (xs ys : List channels.Occurrence) → xs ≡ near k → ys ≡ far k → (pair : PairOnLink (policy settings false) (policy settings true) xs ys) × AreCarried (policy settings false) (policy settings true) pair.turns
        both_so xs ys one two =
            subst (λ (l : List channels.Occurrence). (pair : PairOnLink (policy settings false) (policy settings true) l ys) × AreCarried (policy settings false) (policy settings true) pair.turns) (sym one)
            (subst (λ (l : List channels.Occurrence). (pair : PairOnLink (policy settings false) (policy settings true) (near k) l) × AreCarried (policy settings false) (policy settings true) pair.turns) (sym two) (pairs k, carried k))

        pair : PairOnLink (policy settings false) (policy settings true) list_a list_b
        pair = (both_so list_a list_b is_a is_b).0

        carried_so : AreCarried (policy settings false) (policy settings true) pair.turns
        carried_so = (both_so list_a list_b is_a is_b).1

    abbrev Near_are : (number : ℕ → ℕ) → List Span → List channels.Occurrence → Type 0
    Near_are number spans now = (k : ℕ) → get_or (lists_of spans now) k [] ≡ near (number k)

    abbrev Far_are : (number : ℕ → ℕ) → List Span → List channels.Occurrence → Type 0
    Far_are number spans now = (k : ℕ) → get_or (lists_of spans now) k [] ≡ far (number k)

    -- the server on the link of that place, if its host has heard of it
    record Serving (list : List channels.Occurrence) : Type 0 where
      server : ServerProfile
      last : ServerProfile
      woven : Woven (server_profile settings content) (both_ask.servers settings content) list server last
      none : server.endpoints ≡ []
      replies : Replies settings.serves server.server

    unheard : (list : List channels.Occurrence) → [] ≡ list → Serving list
    unheard list is =
        let none : Serving [] = record { server = B.first; last = B.first; woven = none_woven; none = refl; replies = first_replies settings content } in
        subst Serving is none

    -- ---- where host a alone goes on

    alone : (number : ℕ → ℕ) (spans : List Span) (now : List channels.Occurrence) (feeds : List Feed) (client last : ClientProfile) (a : AreFed (client_profile settings) (both_ask.clients settings) spans now feeds client last) → Near_are number spans now → ((k : ℕ) → [] ≡ far (number (suc k)))
        → AreTimely false (all_marks spans now) → AreAsked (client_profile settings) (both_ask.clients settings) Wants false spans now feeds client last a → PagesSo client → Clear client.client → Clear last.client
    alone number [] now feeds client last a near_is far_is timely asked pages clear = between_clear now feeds client last a (is_deaf_now now timely) clear
    alone number (one ∷ []) now feeds client last (here, later, is, a) near_is far_is timely (before, wanted, none) pages clear =
        let up = is_up one [] now timely in
        let deaf = is_deaf one [] now up timely in
        let well = up_well one client here up deaf.deaf wanted pages clear in
        let serving = unheard (far (number 1)) (far_is 0) in
        well_so ((on_link (number 1) now (far (number 1)) (behind_span A asks_a one client here) last serving.server serving.last a.woven serving.woven (near_is 1) refl (new_client here.circumstances one.event (values_after A.policy no_channels one.list) here.mid) serving.none
        (up_opens one.event a.woven.weave up none) well serving.replies).well)
    alone number (one ∷ link ∷ spans) now feeds client last (here, later, is, (on, rest, are, a)) near_is far_is timely (before, wanted, (none, down_wanted, more)) pages clear =
        let up = is_up one (link ∷ spans) now timely in
        let deaf = is_deaf one (link ∷ spans) now up timely in
        let ends = goes_down link spans now deaf.rest in
        let well = up_well one client here up deaf.deaf wanted pages clear in
        let serving = unheard (far (number 1)) (far_is 0) in
        let client_up = behind_span A asks_a one client here in
        let done' = on_link (number 1) link.list (far (number 1)) client_up on.mid serving.server serving.last on.so.woven serving.woven (near_is 1) refl (new_client here.circumstances one.event (values_after A.policy no_channels one.list) here.mid) serving.none
        (up_opens one.event on.so.woven.weave up none) well serving.replies in
        alone (λ k. number (suc (suc k))) spans now rest (behind_span A asks_a link client_up on) last a (λ k. near_is (suc (suc k))) (λ k. far_is (suc (suc k))) (is_down link spans now ends deaf.rest)
        (subst (λ (b : Bool). AreAsked A asks_a Wants b spans now rest (behind_span A asks_a link client_up on) last a) (down_off link.event ends) more) (span_pages link client_up on (span_pages one client here pages)) (turned_clear link client_up on (well_so done'.well))

    -- ---- both go on

    pub together : (number : ℕ → ℕ) (spans_a : List Span) (now_a : List channels.Occurrence) (feeds_a : List Feed) (client last_a : ClientProfile) (spans_b : List Span) (now_b : List channels.Occurrence) (feeds_b : List Feed) (server last_b : ServerProfile)
        (a : AreFed (client_profile settings) (both_ask.clients settings) spans_a now_a feeds_a client last_a) (b : AreFed (server_profile settings content) (both_ask.servers settings content) spans_b now_b feeds_b server last_b) → Near_are number spans_a now_a → Far_are number spans_b now_b
        → AreTimely false (all_marks spans_a now_a) → AreTimely false (all_marks spans_b now_b) → AreAsked (client_profile settings) (both_ask.clients settings) Wants false spans_a now_a feeds_a client last_a a
        → PagesSo client → Clear client.client → Replies settings.serves server.server → Clear last_a.client
    together number spans_a now_a feeds_a client last_a [] now_b feeds_b server last_b a b near_is far_is timely_a timely_b asked pages clear replies =
        alone number spans_a now_a feeds_a client last_a a near_is (λ k. far_is (suc k)) timely_a asked pages clear
    together number [] now_a feeds_a client last_a (other ∷ spans_b) now_b feeds_b server last_b a b near_is far_is timely_a timely_b asked pages clear replies = between_clear now_a feeds_a client last_a a (is_deaf_now now_a timely_a) clear
    together number (one ∷ []) now_a feeds_a client last_a (other ∷ []) now_b feeds_b server last_b (here_a, later_a, is_a, a) (here_b, later_b, is_b, b) near_is far_is timely_a timely_b (before, wanted, none) pages clear replies =
        let up = is_up one [] now_a timely_a in
        let deaf = is_deaf one [] now_a up timely_a in
        let deaf_b = is_deaf other [] now_b (is_up other [] now_b timely_b) timely_b in
        well_so ((on_link (number 1) now_a now_b (behind_span A asks_a one client here_a) last_a (behind_span B asks_b other server here_b) last_b a.woven b.woven (near_is 1) (far_is 1) (new_client here_a.circumstances one.event (values_after A.policy no_channels one.list) here_a.mid)
        (new_server here_b.circumstances other.event (values_after B.policy no_channels other.list) here_b.mid) (up_opens one.event a.woven.weave up none) (up_well one client here_a up deaf.deaf wanted pages clear) (up_replies other server here_b deaf_b.deaf replies)).well)
    together number (one ∷ []) now_a feeds_a client last_a (other ∷ far_link ∷ spans_b) now_b feeds_b server last_b (here_a, later_a, is_a, a) (here_b, later_b, is_b, (link_b, rest_b, are_b, b)) near_is far_is timely_a timely_b (before, wanted, none) pages clear replies =
        let up = is_up one [] now_a timely_a in
        let deaf = is_deaf one [] now_a up timely_a in
        let deaf_b = is_deaf other (far_link ∷ spans_b) now_b (is_up other (far_link ∷ spans_b) now_b timely_b) timely_b in
        well_so ((on_link (number 1) now_a far_link.list (behind_span A asks_a one client here_a) last_a (behind_span B asks_b other server here_b) link_b.mid a.woven link_b.so.woven (near_is 1) (far_is 1) (new_client here_a.circumstances one.event (values_after A.policy no_channels one.list) here_a.mid)
        (new_server here_b.circumstances other.event (values_after B.policy no_channels other.list) here_b.mid) (up_opens one.event a.woven.weave up none) (up_well one client here_a up deaf.deaf wanted pages clear) (up_replies other server here_b deaf_b.deaf replies)).well)
    together number (one ∷ link ∷ spans_a) now_a feeds_a client last_a (other ∷ []) now_b feeds_b server last_b (here_a, later_a, is_a, (link_a, rest_a, are_a, a)) (here_b, later_b, is_b, b) near_is far_is timely_a timely_b (before, wanted, (none, down_wanted, more)) pages clear replies =
        let up = is_up one (link ∷ spans_a) now_a timely_a in
        let deaf = is_deaf one (link ∷ spans_a) now_a up timely_a in
        let ends = goes_down link spans_a now_a deaf.rest in
        let deaf_b = is_deaf other [] now_b (is_up other [] now_b timely_b) timely_b in
        let client_up = behind_span A asks_a one client here_a in
        let done' = on_link (number 1) link.list now_b client_up link_a.mid (behind_span B asks_b other server here_b) last_b link_a.so.woven b.woven (near_is 1) (far_is 1) (new_client here_a.circumstances one.event (values_after A.policy no_channels one.list) here_a.mid)
        (new_server here_b.circumstances other.event (values_after B.policy no_channels other.list) here_b.mid) (up_opens one.event link_a.so.woven.weave up none) (up_well one client here_a up deaf.deaf wanted pages clear) (up_replies other server here_b deaf_b.deaf replies) in
        alone (λ k. number (suc (suc k))) spans_a now_a rest_a (behind_span A asks_a link client_up link_a) last_a a (λ k. near_is (suc (suc k))) (λ k. far_is (suc (suc (suc k)))) (is_down link spans_a now_a ends deaf.rest)
        (subst (λ (b' : Bool). AreAsked A asks_a Wants b' spans_a now_a rest_a (behind_span A asks_a link client_up link_a) last_a a) (down_off link.event ends) more) (span_pages link client_up link_a (span_pages one client here_a pages)) (turned_clear link client_up link_a (well_so done'.well))
    together number (one ∷ link ∷ spans_a) now_a feeds_a client last_a (other ∷ far_link ∷ spans_b) now_b feeds_b server last_b (here_a, later_a, is_a, (link_a, rest_a, are_a, a)) (here_b, later_b, is_b, (link_b, rest_b, are_b, b)) near_is far_is timely_a timely_b (before, wanted, (none, down_wanted, more)) pages clear replies =
        let up = is_up one (link ∷ spans_a) now_a timely_a in
        let deaf = is_deaf one (link ∷ spans_a) now_a up timely_a in
        let ends = goes_down link spans_a now_a deaf.rest in
        let deaf_b = is_deaf other (far_link ∷ spans_b) now_b (is_up other (far_link ∷ spans_b) now_b timely_b) timely_b in
        let ends_b = goes_down far_link spans_b now_b deaf_b.rest in
        let client_up = behind_span A asks_a one client here_a in
        let server_up = behind_span B asks_b other server here_b in
        let done' = on_link (number 1) link.list far_link.list client_up link_a.mid server_up link_b.mid link_a.so.woven link_b.so.woven (near_is 1) (far_is 1) (new_client here_a.circumstances one.event (values_after A.policy no_channels one.list) here_a.mid)
        (new_server here_b.circumstances other.event (values_after B.policy no_channels other.list) here_b.mid) (up_opens one.event link_a.so.woven.weave up none) (up_well one client here_a up deaf.deaf wanted pages clear) (up_replies other server here_b deaf_b.deaf replies) in
        together (λ k. number (suc (suc k))) spans_a now_a rest_a (behind_span A asks_a link client_up link_a) last_a spans_b now_b rest_b (behind_span B asks_b far_link server_up link_b) last_b a b (λ k. near_is (suc (suc k))) (λ k. far_is (suc (suc k)))
        (is_down link spans_a now_a ends deaf.rest) (is_down far_link spans_b now_b ends_b deaf_b.rest) (subst (λ (b' : Bool). AreAsked A asks_a Wants b' spans_a now_a rest_a (behind_span A asks_a link client_up link_a) last_a a) (down_off link.event ends) more)
        (span_pages link client_up link_a (span_pages one client here_a pages)) (turned_clear link client_up link_a (well_so done'.well)) (turned_replies far_link server_up link_b done'.replies)
