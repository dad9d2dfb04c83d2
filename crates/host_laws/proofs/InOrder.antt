-- A server whose client asks for one channel of objects on each link is served in order.
use Rattle.std.proofs.Common.{◌≡◌, ℕ, zero, suc, List, [], ◌∷◌, ◌++◌, map, filter, find, take, Bool, true, false, cond, eqb, not, Option, Some, None, refl, sym, ap, subst, ◌∙◌, inr}
use Rattle.std.specs.Prelude.{option_map}
use Rattle.std.specs.List.{AllByRecursion, AllZip, filter_map, flat_map}
use Rattle.std.proofs.lemmas.Bool.{eqb-true, eq-eqb}
use Rattle.shelf_model.specs.bt_base.specs.declared.settings.Settings.{Settings}
use Rattle.shelf_model.specs.bt_base.specs.declared.settings.Transport.TheVariants.{L2cap}
use Rattle.shelf_model.specs.bt_base.specs.Objects.{Contents}
use Rattle.push_laws.specs.link_talk.specs.declared.channel.Channel.{Channel}
use Rattle.push_laws.specs.link_talk.specs.Channels.{Entry, reading}
use Rattle.channel_laws.specs.channel_model.specs.declared.event.ChannelEvent.{ChannelEvent}
use Rattle.channel_laws.specs.channel_model.specs.declared.event.ChannelEvent.TheVariants as events
use Rattle.channel_laws.specs.channel_model.specs.Value.{Channels, no_channels}
use Rattle.channel_laws.specs.channel_model.specs.Policies.{Policy}
use Rattle.channel_laws.specs.channel_model.specs.Calls.{sends}
use Rattle.channel_laws.specs.Closings.{IsClosingRead}
use Rattle.channel_laws.specs.Endpoints.{IsOf}
use Rattle.channel_laws.specs.Runs.{Occurrence, Comes, Connects, AsksFeatures, Disconnects, Sends, Gives, Fires, Tells, run_of}
use Rattle.channel_laws.specs.Singly.{AsksForNoChannel}
use Rattle.channel_laws.specs.Views.{channel_by, read_at}
use Rattle.channel_laws.proofs.Shutting.{closings-are_read}
use Rattle.push_laws.specs.push_model.specs.Server.{Server, Lent, lends, lent_sdu, channel_down, stepped}
use Rattle.push_laws.specs.Occurrences as push
use Rattle.shelf_model.specs.world_model.specs.Machines.{LinkEvent, Up, Down, News, Linked, Failed, Heard, TimerFired, Cancelled, Opening}
use Rattle.shelf_model.specs.world_model.specs.Talks.{Talk}
use Rattle.shelf_model.specs.host_model.specs.Endpoints.{Endpoint, is_of, endpoint_of, takes_sdu}
use Rattle.shelf_model.specs.host_model.specs.Pdus.{sdu_of}
use Rattle.shelf_model.specs.host_model.specs.Hosts.{Host}
use Rattle.shelf_model.specs.host_model.specs.Profiles.{Profile, Stride}
use Rattle.shelf_model.specs.host_model.specs.Servers.{ServerProfile, is_told, reacts, takes, submits, waiting, server_profile}
use Rattle.host_laws.specs.Calls.{Call, Connect, AskFeatures, Disconnect, Send, Asks, from_call, values_after, asked}
use Rattle.host_laws.specs.Feeds.{Feed, Gifts, Learns, Receives, Happens, Sent, Steps, fed, asked_with, asked_from, Tiding, Brings, Tells as TellsIt, Turns, tidings_in, tidings_of, tidings_from}
use Rattle.host_laws.specs.Gaining.{IsDirect, ClosesItself, OneObjectChannel}
use Rattle.host_laws.specs.GainingOver.{CarriedOne, CarriesOne}
use Rattle.host_laws.specs.InOrder.{AsksForOneObject, AsksNoChannels, ServersAskNothing, IsWhole, ServersAreServedInOrder}
use Rattle.host_laws.specs.Keeping.{IsLent, AsksForNothing, ServersAskForNothing}
use Rattle.host_laws.specs.Lives.{Mark, Span, Lives, end_tidings, span_tidings, all_tidings}
use Rattle.host_laws.specs.OneCarrier.{IsFor, CarriesAlone}
use Rattle.host_laws.specs.OverLinks.{parts, moved_in, talk_marks, IsTalkOf}
use Rattle.host_laws.specs.Serving.{event_served, news_served, taken_by, lent_by, served_with, served_from}
use Rattle.host_laws.specs.Spoken.{IsServed}
use Rattle.host_laws.specs.Told.{IsOfChannel}
use Rattle.host_laws.proofs.Asking.{sends_on, lent_call, hosts_ask, servers-call}
use Rattle.host_laws.proofs.Gaining.{found_in}
use Rattle.host_laws.proofs.AskingOnce.{may_name}
use Rattle.host_laws.proofs.Seeking.{IsGranted, IsLinked, all_granted, named, carries-one, is-served}
use Rattle.host_laws.proofs.Silence.{channels-are_named}
use Rattle.host_laws.proofs.Telling.{events_run}

all_both : {X : Type 0} (P : X → Type 0) (xs ys : List X) → AllByRecursion P xs → AllByRecursion P ys → AllByRecursion P (xs ++ ys)
all_both P [] ys one two = two
all_both P (x ∷ xs) ys one two = (one.0, all_both P xs ys one.1 two)

all_left : {X : Type 0} (P : X → Type 0) (xs ys : List X) → AllByRecursion P (xs ++ ys) → AllByRecursion P xs
all_left P [] ys all = tt
all_left P (x ∷ xs) ys all = (all.0, all_left P xs ys all.1)

all_right : {X : Type 0} (P : X → Type 0) (xs ys : List X) → AllByRecursion P (xs ++ ys) → AllByRecursion P ys
all_right P [] ys all = all
all_right P (x ∷ xs) ys all = all_right P xs ys all.1

-- ---- what it never asks for

-- what is so of all that a host's profile does not ask for
abbrev IsNeverAsked : (Occurrence → Type 0) → Type 0
IsNeverAsked Q = ((pdu : List ℕ) → Q (Comes pdu)) × ((pdu : List ℕ) → Q (Gives pdu)) × Q Fires × Q Tells

module _ (Q : Occurrence → Type 0) (never : IsNeverAsked Q) where
  feed_asks : {P : Type 0} (A : Profile P) (asks : Asks A) → ((v : Channels) (p : P) → AllByRecursion Q (from_call (asks.call v p))) → (p : P) (feed : Feed) → AllByRecursion Q (asked_with A asks p feed)
  feed_asks A asks so p (Gifts circumstances) = tt
  feed_asks A asks so p (Learns circumstances news) = tt
  feed_asks A asks so p (Receives own psm sdu) = tt
  feed_asks A asks so p (Happens event v) = tt
  feed_asks A asks so p (Sent v) = tt
  feed_asks A asks so p (Steps v) = so v p

  feeds_ask : {P : Type 0} (A : Profile P) (asks : Asks A) → ((v : Channels) (p : P) → AllByRecursion Q (from_call (asks.call v p))) → (p : P) (feeds : List Feed) → AllByRecursion Q (asked_from A asks p feeds)
  feeds_ask A asks so p [] = tt
  feeds_ask A asks so p (feed ∷ feeds) = all_both Q (asked_with A asks p feed) (asked_from A asks (fed A p feed) feeds) (feed_asks A asks so p feed) (feeds_ask A asks so (fed A p feed) feeds)

  list_asks : (list : List Occurrence) → AllByRecursion Q (filter_map asked list) → AllByRecursion Q list
  list_asks [] so = tt
  list_asks (Comes pdu ∷ list) so = (never.0 pdu, list_asks list so)
  list_asks (Connects psm ∷ list) so = (so.0, list_asks list so.1)
  list_asks (AsksFeatures ∷ list) so = (so.0, list_asks list so.1)
  list_asks (Disconnects own ∷ list) so = (so.0, list_asks list so.1)
  list_asks (Sends own sdu ∷ list) so = (so.0, list_asks list so.1)
  list_asks (Gives pdu ∷ list) so = (never.1 pdu, list_asks list so)
  list_asks (Fires ∷ list) so = (never.2, list_asks list so)
  list_asks (Tells ∷ list) so = (never.3, list_asks list so)

  spans_ask : (spans : List Span) → AllByRecursion Q (flat_map (λ (span : Span). filter_map asked span.list) spans) → AllByRecursion (λ (span : Span). AllByRecursion Q span.list) spans
  spans_ask [] so = tt
  spans_ask (span ∷ spans) so =
      let rest = flat_map (λ (one : Span). filter_map asked one.list) spans in
      (list_asks span.list (all_left Q (filter_map asked span.list) rest so), spans_ask spans (all_right Q (filter_map asked span.list) rest so))

-- ---- it asks for no channel

called_none : (call : Option Call) → ((psm : ℕ) → call ≡ Some (Connect psm) → ⊥) → AllByRecursion AsksForNoChannel (from_call call)
called_none None never = tt
called_none (Some (Connect psm)) never = absurd (never psm refl)
called_none (Some AskFeatures) never = (tt, tt)
called_none (Some (Disconnect own)) never = (tt, tt)
called_none (Some (Send own sdu)) never = (tt, tt)

no_channels_asked : IsNeverAsked AsksForNoChannel
no_channels_asked = (λ pdu. tt, λ pdu. tt, tt, tt)

-- a server in particular
pub asks-nothing : (settings : Settings) (content : Option Contents) → AsksNoChannels (server_profile settings content) (hosts_ask.servers settings content)
asks-nothing settings content v serving psm is = lending (lent_sdu (lends serving.server)) (sym (servers-call settings content v serving) ∙ is)
  where
    sends_alone : (taken : Bool) (own : ℕ) (sdu : List ℕ) → cond taken (Some (Send own sdu)) None ≡ Some (Connect psm) → ⊥
    sends_alone true own sdu is = cc
    sends_alone false own sdu is = cc

    on : (lent : Lent) (own : Option ℕ) → sends_on v lent.payload own ≡ Some (Connect psm) → ⊥
    on lent None is = cc
    on lent (Some own) is = sends_alone (takes_sdu own (sdu_of lent.payload) v) own (sdu_of lent.payload) is

    lending : (lent : Option Lent) → lent_call lent v serving ≡ Some (Connect psm) → ⊥
    lending None is = cc
    lending (Some lent) is = on lent (endpoint_of lent.psm serving.endpoints) is

pub servers_ask_nothing : ServersAskNothing
servers_ask_nothing = record { asks = hosts_ask; nothing = asks-nothing }

-- ---- one link

-- an SDU that is told is of another channel than RFCOMM's
abbrev IsUnmuxed : Tiding → Type 0
IsUnmuxed (Brings own psm sdu) = eqb psm 0x0003 ≡ false
IsUnmuxed (TellsIt event) = Unit {0}
IsUnmuxed (Turns event) = Unit {0}

-- over L2CAP a client names no channel of RFCOMM
not_muxed : (psm : ℕ) → may_name L2cap psm ≡ true → eqb psm 0x0003 ≡ false
not_muxed psm named' = by (eqb psm 0x0003) refl
  where
    by : (b : Bool) → eqb psm 0x0003 ≡ b → b ≡ false
    by true is = let never : true ≡ false = sym named' ∙ ap (may_name L2cap) (eqb-true psm 0x0003 is) in cc
    by false is = refl

module _ (policy : Policy) (list : List Occurrence) (part : List Talk) (is : IsTalkOf policy list part) (none : AllByRecursion AsksForNoChannel list) (sought : AsksForOneObject L2cap (moved_in part)) where
  linked : IsLinked L2cap policy list (moved_in part) is.waits
  linked = record { none = none; talk_is = is.talk_is; go_out = is.go_out; sought = sought }

  abbrev entries : List Entry
  entries = (reading (run_of policy list).said).entries

  apart : (psm number : ℕ) → psm ≡ number → eqb psm number ≡ false → ⊥
  apart psm number same is = let never : true ≡ false = sym (eq-eqb psm number same) ∙ is in cc

  closes_so : (channel : Channel) → CarriesAlone channel (run_of policy list).said → (event : ChannelEvent) → IsClosingRead entries event → ClosesItself channel event
  closes_so channel alone (events.Opened own psm) read = tt
  closes_so channel alone (events.Closed own psm reason) (peer, of) = λ objects. by objects (read_at own entries) refl of
    where
      by : psm ≡ 0x1001 → (found : Option Entry) → read_at own entries ≡ found → IsOf (channel_by psm own peer) found → own ≡ channel.own
      by objects None at none = absurd none
      by objects (Some entry) at it = at_own (eqb entry.channel.own channel.own) refl
        where
          fit : IsFor channel entry.channel
          fit = found_in own (λ (one : Entry). IsFor channel one.channel) entries entry alone at

          at_own : (same : Bool) → eqb entry.channel.own channel.own ≡ same → own ≡ channel.own
          at_own true same = sym (ap (λ (c : Channel). c.own) it) ∙ eqb-true entry.channel.own channel.own same
          at_own false same = absurd ((fit.aside same).0 (ap (λ (c : Channel). c.psm) it ∙ objects))
  closes_so channel alone (events.Features features) read = tt
  closes_so channel alone events.FeaturesLost read = tt
  closes_so channel alone (events.DisconnectLost own) read = tt

  all_close : (channel : Channel) → CarriesAlone channel (run_of policy list).said → (told : List ChannelEvent) → AllByRecursion (IsClosingRead entries) told → AllByRecursion (ClosesItself channel) told
  all_close channel alone [] all = tt
  all_close channel alone (event ∷ told) all = (closes_so channel alone event all.0, all_close channel alone told all.1)

  pub one-channel : IsWhole policy list → OneObjectChannel policy list
  one-channel whole =
      let one = carries-one L2cap policy list (moved_in part) is.waits linked in
      record {
        channel = one.channel;
        psm_is = one.psm_is;
        alone = one.alone;
        whole = whole one.channel;
        closings = subst (AllByRecursion (ClosesItself one.channel)) (events_run policy list) (all_close one.channel one.alone (run_of policy list).told (closings-are_read policy list none));
      }

  pub part-served : IsServed (moved_in part)
  part-served = is-served L2cap policy list (moved_in part) is.waits linked

  -- nothing comes over RFCOMM
  named_direct : (tidings : List Tiding) → AllByRecursion (IsOfChannel entries) tidings → AllByRecursion IsUnmuxed tidings
  named_direct [] all = tt
  named_direct (Brings own psm sdu ∷ tidings) all = (by (read_at own entries) refl all.0.1, named_direct tidings all.1)
    where
      by : (found : Option Entry) → read_at own entries ≡ found → IsOf (channel_by psm own all.0.0) found → eqb psm 0x0003 ≡ false
      by None at none = absurd none
      by (Some entry) at it =
          let from = found_in own (λ (one : Entry). IsGranted (run_of policy list).said one.channel) entries entry (all_granted L2cap policy list (moved_in part) is.waits linked) at in
          sym (ap (λ (c : Channel). eqb c.psm 0x0003) it) ∙ not_muxed entry.channel.psm (named L2cap policy list (moved_in part) is.waits linked entry.channel from)
  named_direct (TellsIt event ∷ tidings) all = (tt, named_direct tidings all.1)
  named_direct (Turns event ∷ tidings) all = (tt, named_direct tidings all.1)

  pub link-direct : AllByRecursion IsUnmuxed (tidings_from policy no_channels list)
  link-direct = named_direct (tidings_from policy no_channels list) (channels-are_named policy list)

-- ---- all links

abbrev AllUnmuxed : List Tiding → Type 0
AllUnmuxed tidings = AllByRecursion IsUnmuxed tidings

told_unmuxed : (told : List ChannelEvent) (rest : List Tiding) → AllUnmuxed rest → AllUnmuxed (map TellsIt told ++ rest)
told_unmuxed [] rest all = all
told_unmuxed (event ∷ told) rest all = (tt, told_unmuxed told rest all)

end_unmuxed : (event : LinkEvent) (v : Channels) → AllUnmuxed (end_tidings event v)
end_unmuxed Up v = (tt, tt)
end_unmuxed (Down reason) v = told_unmuxed _ (Turns (Down reason) ∷ []) (tt, tt)

-- all that is so of the links
record AreInOrder (policy : Policy) (spans : List Span) (now : List Occurrence) (talks : List (List Talk)) : Type 0 where
  tidings : AllUnmuxed (all_tidings policy spans now)
  carried : AllByRecursion (λ (span : Span). CarriedOne policy span.event span.list) spans
  carries : CarriesOne policy now
  granted : AllByRecursion (λ part. IsServed (moved_in part)) talks

carried_so : (policy : Policy) (event : LinkEvent) (list : List Occurrence) → OneObjectChannel policy list → CarriedOne policy event list
carried_so policy Up list one = tt
carried_so policy (Down reason) list one = one

in_order : (policy : Policy) (spans : List Span) (now : List Occurrence) (talks : List (List Talk)) → AllZip (IsTalkOf policy) (map (λ (span : Span). span.list) spans ++ now ∷ []) talks → AllByRecursion (λ (span : Span). AllByRecursion AsksForNoChannel span.list) spans
    → AllByRecursion AsksForNoChannel now → AllByRecursion (λ part. AsksForOneObject L2cap (moved_in part)) talks → AllByRecursion (IsWhole policy) (map (λ (span : Span). span.list) spans ++ now ∷ []) → AreInOrder policy spans now talks
in_order policy [] now [] are none now_none sought whole = absurd are
in_order policy [] now (part ∷ []) are none now_none sought whole = record {
  tidings = link-direct policy now part are.0 now_none sought.0;
  carried = tt;
  carries = inr (one-channel policy now part are.0 now_none sought.0 whole.0);
  granted = (part-served policy now part are.0 now_none sought.0, tt);
}
in_order policy [] now (part ∷ other ∷ talks) are none now_none sought whole = absurd are.1
in_order policy (span ∷ spans) now [] are none now_none sought whole = absurd are
in_order policy (span ∷ spans) now (part ∷ talks) are none now_none sought whole =
    let rest = in_order policy spans now talks are.1 none.1 now_none sought.1 whole.1 in
    let here = tidings_from policy no_channels span.list in
    let end' = end_tidings span.event (values_after policy no_channels span.list) in
    let later = flat_map (span_tidings policy) spans in
    record {
      tidings = all_both IsUnmuxed ((here ++ end') ++ later) (tidings_from policy no_channels now)
          (all_both IsUnmuxed (here ++ end') later (all_both IsUnmuxed here end' (link-direct policy span.list part are.0 none.0 sought.0) (end_unmuxed span.event (values_after policy no_channels span.list))) (all_left IsUnmuxed later (tidings_from policy no_channels now) rest.tidings))
          (all_right IsUnmuxed later (tidings_from policy no_channels now) rest.tidings);
      carried = (carried_so policy span.event span.list (one-channel policy span.list part are.0 none.0 sought.0 whole.0), rest.carried);
      carries = rest.carries;
      granted = (part-served policy span.list part are.0 none.0 sought.0, rest.granted);
    }

-- ---- its server

-- it uses no channel of RFCOMM
abbrev IsPlainEndpoint : Endpoint → Type 0
IsPlainEndpoint endpoint = eqb endpoint.psm 0x0003 ≡ false

no_endpoint : (endpoints : List Endpoint) → AllByRecursion IsPlainEndpoint endpoints → endpoint_of 0x0003 endpoints ≡ None
no_endpoint [] all = refl
no_endpoint (endpoint ∷ endpoints) all = ap (λ b. option_map (λ (e : Endpoint). e.own) (cond b (Some endpoint) (find (is_of 0x0003) endpoints))) all.0 ∙ no_endpoint endpoints all.1

kept_plain : (keeps : Endpoint → Bool) (endpoints : List Endpoint) → AllByRecursion IsPlainEndpoint endpoints → AllByRecursion IsPlainEndpoint (filter keeps endpoints)
kept_plain keeps [] all = tt
kept_plain keeps (endpoint ∷ endpoints) all = by (keeps endpoint) (kept_plain keeps endpoints all.1)
  where
    by : (kept : Bool) → AllByRecursion IsPlainEndpoint (filter keeps endpoints) → AllByRecursion IsPlainEndpoint (cond kept (endpoint ∷ filter keeps endpoints) (filter keeps endpoints))
    by true later = (all.0, later)
    by false later = later

taken_plain : (count : ℕ) (endpoints : List Endpoint) → AllByRecursion IsPlainEndpoint endpoints → AllByRecursion IsPlainEndpoint (take count endpoints)
taken_plain zero endpoints all = tt
taken_plain (suc count) [] all = tt
taken_plain (suc count) (endpoint ∷ endpoints) all = (all.0, taken_plain count endpoints all.1)

news_direct : (news : News) → AllByRecursion IsDirect (news_served news)
news_direct (Linked Up) = tt
news_direct (Linked (Down reason)) = (tt, tt)
news_direct (Failed status) = tt
news_direct (Heard pdu) = tt
news_direct TimerFired = tt
news_direct Cancelled = tt
news_direct (Opening name) = tt

event_direct : (event : ChannelEvent) → AllByRecursion IsDirect (event_served event)
event_direct (events.Opened own psm) = tt
event_direct (events.Closed own psm reason) = by (is_told reason)
  where
    by : (told : Bool) → AllByRecursion IsDirect (cond told (push.Closed psm ∷ []) [])
    by true = (tt, tt)
    by false = tt
event_direct (events.Features features) = tt
event_direct events.FeaturesLost = tt
event_direct (events.DisconnectLost own) = tt

lent_direct : (lent : Option Lent) (v : Channels) (serving : ServerProfile) → AllByRecursion IsPlainEndpoint serving.endpoints → AllByRecursion IsDirect (lent_by lent v serving)
lent_direct None v serving plain = tt
lent_direct (Some lent) v serving plain = by (endpoint_of lent.psm serving.endpoints) refl
  where
    sent : (own : ℕ) (taken : Bool) → endpoint_of lent.psm serving.endpoints ≡ Some own → AllByRecursion IsDirect (cond taken (push.Went lent.psm (sdu_of lent.payload) ∷ []) [])
    sent own true at = ((λ muxed. let never : None ≡ Some own = sym (no_endpoint serving.endpoints plain) ∙ (ap (λ n. endpoint_of n serving.endpoints) (sym muxed) ∙ at) in cc), tt)
    sent own false at = tt

    by : (found : Option ℕ) → endpoint_of lent.psm serving.endpoints ≡ found → AllByRecursion IsDirect (taken_by found lent v)
    by None at = tt
    by (Some own) at = sent own (takes_sdu own (sdu_of lent.payload) v) at

unmuxed : (psm : ℕ) → eqb psm 0x0003 ≡ false → psm ≡ 0x0003 → ⊥
unmuxed psm apart same = let never : true ≡ false = sym (eq-eqb psm 0x0003 same) ∙ apart in cc

feed_direct : (serving : ServerProfile) (feed : Feed) → AllUnmuxed (tidings_in feed) → AllByRecursion IsPlainEndpoint serving.endpoints → AllByRecursion IsDirect (served_with serving feed)
feed_direct serving (Gifts circumstances) told plain = (tt, tt)
feed_direct serving (Learns circumstances news) told plain = news_direct news
feed_direct serving (Receives own psm sdu) told plain = (unmuxed psm told.0, tt)
feed_direct serving (Happens event v) told plain = event_direct event
feed_direct serving (Sent v) told plain = tt
feed_direct serving (Steps v) told plain = (tt, lent_direct (lent_sdu (lends serving.server)) v serving plain)

news_plain : (settings : Settings) (content : Option Contents) (circumstances : _) (news : News) (serving : ServerProfile) → AllByRecursion IsPlainEndpoint serving.endpoints → AllByRecursion IsPlainEndpoint ((server_profile settings content).told circumstances news serving).endpoints
news_plain settings content circumstances (Linked Up) serving plain = tt
news_plain settings content circumstances (Linked (Down reason)) serving plain = tt
news_plain settings content circumstances (Failed status) serving plain = plain
news_plain settings content circumstances (Heard pdu) serving plain = plain
news_plain settings content circumstances TimerFired serving plain = plain
news_plain settings content circumstances Cancelled serving plain = plain
news_plain settings content circumstances (Opening name) serving plain = plain

event_plain : (settings : Settings) (content : Option Contents) (event : ChannelEvent) (v : Channels) (serving : ServerProfile) → AllByRecursion IsPlainEndpoint serving.endpoints → AllByRecursion IsPlainEndpoint ((server_profile settings content).happened event v serving).endpoints
event_plain settings content (events.Opened own psm) v serving plain = plain
event_plain settings content (events.Closed own psm reason) v serving plain = by (is_told reason)
  where
    by : (told : Bool) → AllByRecursion IsPlainEndpoint (cond told (reacts (channel_down psm serving.server serving.inbox) serving) serving).endpoints
    by true = plain
    by false = plain
event_plain settings content (events.Features features) v serving plain = plain
event_plain settings content events.FeaturesLost v serving plain = plain
event_plain settings content (events.DisconnectLost own) v serving plain = plain

steps_plain : (lent : Option Lent) (v : Channels) (server : Server) (serving : ServerProfile) → AllByRecursion IsPlainEndpoint serving.endpoints → AllByRecursion IsPlainEndpoint (takes lent v server serving).profile.endpoints
steps_plain None v server serving plain = plain
steps_plain (Some lent) v server serving plain = by (endpoint_of lent.psm serving.endpoints)
  where
    took : ℕ → Stride ServerProfile
    took own = record { channels = sends own (sdu_of lent.payload) v; profile = record serving { server = stepped server }; more = true }

    sent : (own : ℕ) (taken : Bool) → AllByRecursion IsPlainEndpoint (cond taken (took own) (waiting v server serving)).profile.endpoints
    sent own true = plain
    sent own false = plain

    by : (found : Option ℕ) → AllByRecursion IsPlainEndpoint (submits found lent v server serving).profile.endpoints
    by None = plain
    by (Some own) = sent own (takes_sdu own (sdu_of lent.payload) v)

feed_plain : (settings : Settings) (content : Option Contents) (serving : ServerProfile) (feed : Feed) → AllUnmuxed (tidings_in feed) → AllByRecursion IsPlainEndpoint serving.endpoints → AllByRecursion IsPlainEndpoint (fed (server_profile settings content) serving feed).endpoints
feed_plain settings content serving (Gifts circumstances) told plain = plain
feed_plain settings content serving (Learns circumstances news) told plain = news_plain settings content circumstances news serving plain
feed_plain settings content serving (Receives own psm sdu) told plain = (told.0, taken_plain 3 _ (kept_plain (λ other. not (is_of psm other)) serving.endpoints plain))
feed_plain settings content serving (Happens event v) told plain = event_plain settings content event v serving plain
feed_plain settings content serving (Sent v) told plain = plain
feed_plain settings content serving (Steps v) told plain = steps_plain (lent_sdu (lends serving.server)) v (lends serving.server) serving plain

feeds_direct : (settings : Settings) (content : Option Contents) (serving : ServerProfile) (feeds : List Feed) → AllUnmuxed (tidings_of feeds) → AllByRecursion IsPlainEndpoint serving.endpoints → AllByRecursion IsDirect (served_from settings content serving feeds)
feeds_direct settings content serving [] told plain = tt
feeds_direct settings content serving (feed ∷ feeds) told plain =
    let first = all_left IsUnmuxed (tidings_in feed) (tidings_of feeds) told in
    let next = fed (server_profile settings content) serving feed in
    all_both IsDirect (served_with serving feed) (served_from settings content next feeds) (feed_direct serving feed first plain)
    (feeds_direct settings content next feeds (all_right IsUnmuxed (tidings_in feed) (tidings_of feeds) told) (feed_plain settings content serving feed first plain))

-- on none of its links it asks for a channel
pub record AskNone (spans : List Span) (now : List Occurrence) : Type 0 where
  pub before : AllByRecursion (λ (span : Span). AllByRecursion AsksForNoChannel span.list) spans
  pub last : AllByRecursion AsksForNoChannel now

pub links-ask_none : {P : Type 0} (A : Profile P) (asks : Asks A) (marks : List Mark) (now : Host P) (lives : Lives A asks marks now) → AsksNoChannels A asks → AskNone lives.spans lives.now
links-ask_none A asks marks now lives nothing =
    let none = subst (AllByRecursion AsksForNoChannel) (sym lives.asked_are) (feeds_ask AsksForNoChannel no_channels_asked A asks (λ v p. called_none (asks.call v p) (λ psm is. nothing v p psm is)) A.first lives.feeds) in
    let past = flat_map (λ (span : Span). filter_map asked span.list) lives.spans in
    record { before = spans_ask AsksForNoChannel no_channels_asked lives.spans (all_left AsksForNoChannel past (filter_map asked lives.now) none); last = list_asks AsksForNoChannel no_channels_asked lives.now (all_right AsksForNoChannel past (filter_map asked lives.now) none) }

-- on each link
on_each : (Q : Occurrence → Type 0) (spans : List Span) (now : List Occurrence) → AllByRecursion (λ (span : Span). AllByRecursion Q span.list) spans → AllByRecursion Q now → AllByRecursion (AllByRecursion Q) (map (λ (span : Span). span.list) spans ++ now ∷ [])
on_each Q [] now before last = (last, tt)
on_each Q (span ∷ spans) now before last = (before.0, on_each Q spans now before.1 last)

lent_alone : (serving : ServerProfile) (call : Option Call) → ((one : Call) → call ≡ Some one → IsLent serving one) → AllByRecursion AsksForNothing (from_call call)
lent_alone serving None lent = tt
lent_alone serving (Some (Connect psm)) lent = absurd (lent (Connect psm) refl)
lent_alone serving (Some AskFeatures) lent = absurd (lent AskFeatures refl)
lent_alone serving (Some (Disconnect own)) lent = absurd (lent (Disconnect own) refl)
lent_alone serving (Some (Send own sdu)) lent = (tt, tt)

pub servers-ask_for_nothing : ServersAskForNothing
servers-ask_for_nothing settings content asks marks host lives sends =
    let A = server_profile settings content in
    let never : IsNeverAsked AsksForNothing = (λ pdu. tt, λ pdu. tt, tt, tt) in
    let all = subst (AllByRecursion AsksForNothing) (sym lives.asked_are) (feeds_ask AsksForNothing never A asks (λ v serving. lent_alone serving (asks.call v serving) (λ one is. sends v serving one is)) A.first lives.feeds) in
    let past = flat_map (λ (span : Span). filter_map asked span.list) lives.spans in
    on_each AsksForNothing lives.spans lives.now (spans_ask AsksForNothing never lives.spans (all_left AsksForNothing past (filter_map asked lives.now) all)) (list_asks AsksForNothing never lives.now (all_right AsksForNothing past (filter_map asked lives.now) all))

pub servers-are_served_in_order : ServersAreServedInOrder
servers-are_served_in_order settings content asks talk now so nothing sought whole =
    let A = server_profile settings content in
    let lives = so.lives in
    let none = links-ask_none A asks (flat_map talk_marks talk) now lives nothing in
    let order = in_order A.policy lives.spans lives.now (parts talk) so.talks_are none.before none.last sought whole in
    record {
      direct = feeds_direct settings content A.first lives.feeds (subst AllUnmuxed (sym lives.tidings_are) order.tidings) tt;
      carried = order.carried;
      carries = order.carries;
      granted = order.granted;
    }
