-- A server that gave up a request ends its link.
use Rattle.std.proofs.Common.{◌≡◌, ℕ, List, [], ◌∷◌, ◌++◌, map, fold, Bool, true, false, cond, ◌||◌, Option, Some, None, refl, sym, ap, subst, ◌∙◌}
use Rattle.std.specs.List.{AllByRecursion, filter_map, flat_map}
use Rattle.std.proofs.lemmas.List.Sums.{fold-append}
use Rattle.shelf_model.specs.bt_base.specs.declared.settings.Settings.{Settings}
use Rattle.shelf_model.specs.bt_base.specs.Objects.{Contents}
use Rattle.channel_laws.specs.channel_model.specs.declared.event.ChannelEvent.{ChannelEvent}
use Rattle.channel_laws.specs.channel_model.specs.declared.event.ChannelEvent.TheVariants as events
use Rattle.channel_laws.specs.channel_model.specs.Calls.{link_down, sends}
use Rattle.channel_laws.specs.channel_model.specs.Carrying.{Up as Handed, Nothing, Received}
use Rattle.channel_laws.specs.channel_model.specs.Policies.{Policy, policy}
use Rattle.channel_laws.specs.channel_model.specs.Value.{Channels, no_channels}
use Rattle.channel_laws.specs.Runs.{Occurrence, Comes, Connects, AsksFeatures, Disconnects, Sends, Gives, Fires, Tells, value_after, told_in, up_with, run_of}
use Rattle.push_laws.specs.push_model.specs.Server.{Server, Lent, lends, lent_sdu, channel_down, stepped}
use Rattle.shelf_model.specs.world_model.specs.Machines.{LinkEvent, Up, Down, News, Linked, Failed, Heard, TimerFired, Cancelled, Opening}
use Rattle.shelf_model.specs.host_model.specs.Circumstances.{Circumstance}
use Rattle.shelf_model.specs.host_model.specs.Endpoints.{endpoint_of, takes_sdu}
use Rattle.shelf_model.specs.host_model.specs.Pdus.{sdu_of}
use Rattle.shelf_model.specs.host_model.specs.Profiles.{Profile, Stride}
use Rattle.shelf_model.specs.host_model.specs.Servers.{ServerProfile, is_told, reacts, takes, submits, waiting, server_profile}
use Rattle.host_laws.specs.Calls.{Call, Connect, AskFeatures, Disconnect, Send, Asks, from_call, values_after, asked}
use Rattle.host_laws.specs.Feeds.{Feed, Gifts, Learns, Receives, Happens, Sent, Steps, fed, all_fed, asked_with, asked_from, Tiding, Brings, Tells as TellsIt, Turns, tidings_in, tidings_of, brought_by, tidings_with, tidings_from}
use Rattle.host_laws.specs.Keeping.{is_end_lost, IsLent, SendsAsItLends, ServersSendAsTheyLend, ServersKeepOn}
use Rattle.host_laws.specs.Lives.{Span, end_tidings, span_tidings}
use Rattle.host_laws.specs.Told.{events_told}
use Rattle.host_laws.proofs.Asking.{sends_on, lent_call, hosts_ask, servers-call}
use Rattle.host_laws.proofs.Forgoing.{IsToSend, any_lost, lost_both, nothing-given_up}
use Rattle.host_laws.proofs.Telling.{events_run}

all_both : {X : Type 0} (P : X → Type 0) (xs ys : List X) → AllByRecursion P xs → AllByRecursion P ys → AllByRecursion P (xs ++ ys)
all_both P [] ys one two = two
all_both P (x ∷ xs) ys one two = (one.0, all_both P xs ys one.1 two)

all_right : {X : Type 0} (P : X → Type 0) (xs ys : List X) → AllByRecursion P (xs ++ ys) → AllByRecursion P ys
all_right P [] ys all = all
all_right P (x ∷ xs) ys all = all_right P xs ys all.1

-- ---- it asks its channels for nothing but to send

called_sends : (serving : ServerProfile) (call : Option Call) → ((one : Call) → call ≡ Some one → IsLent serving one) → AllByRecursion IsToSend (from_call call)
called_sends serving None sends = tt
called_sends serving (Some (Connect psm)) sends = absurd (sends (Connect psm) refl)
called_sends serving (Some AskFeatures) sends = absurd (sends AskFeatures refl)
called_sends serving (Some (Disconnect own)) sends = absurd (sends (Disconnect own) refl)
called_sends serving (Some (Send own sdu)) sends = (tt, tt)

feed_sends : (settings : Settings) (content : Option Contents) (asks : Asks (server_profile settings content)) → SendsAsItLends settings content asks → (p : ServerProfile) (feed : Feed) → AllByRecursion IsToSend (asked_with (server_profile settings content) asks p feed)
feed_sends settings content asks sends p (Gifts circumstances) = tt
feed_sends settings content asks sends p (Learns circumstances news) = tt
feed_sends settings content asks sends p (Receives own psm sdu) = tt
feed_sends settings content asks sends p (Happens event v) = tt
feed_sends settings content asks sends p (Sent v) = tt
feed_sends settings content asks sends p (Steps v) = called_sends p (asks.call v p) (λ one is. sends v p one is)

feeds_send : (settings : Settings) (content : Option Contents) (asks : Asks (server_profile settings content)) → SendsAsItLends settings content asks → (p : ServerProfile) (feeds : List Feed) → AllByRecursion IsToSend (asked_from (server_profile settings content) asks p feeds)
feeds_send settings content asks sends p [] = tt
feeds_send settings content asks sends p (feed ∷ feeds) =
    let A = server_profile settings content in
    all_both IsToSend (asked_with A asks p feed) (asked_from A asks (fed A p feed) feeds) (feed_sends settings content asks sends p feed) (feeds_send settings content asks sends (fed A p feed) feeds)

list_sends : (list : List Occurrence) → AllByRecursion IsToSend (filter_map asked list) → AllByRecursion IsToSend list
list_sends [] all = tt
list_sends (Comes pdu ∷ list) all = (tt, list_sends list all)
list_sends (Connects psm ∷ list) all = absurd all.0
list_sends (AsksFeatures ∷ list) all = absurd all.0
list_sends (Disconnects own ∷ list) all = absurd all.0
list_sends (Sends own sdu ∷ list) all = (tt, list_sends list all.1)
list_sends (Gives pdu ∷ list) all = (tt, list_sends list all)
list_sends (Fires ∷ list) all = (tt, list_sends list all)
list_sends (Tells ∷ list) all = (tt, list_sends list all)

pub servers_send_as_they_lend : ServersSendAsTheyLend
servers_send_as_they_lend = record { asks = hosts_ask; sends = sending }
  where
    sent : (taken : Bool) (own : ℕ) (serving : ServerProfile) (lent : Lent) (call : Call) → lent_sdu (lends serving.server) ≡ Some lent → cond taken (Some (Send own (sdu_of lent.payload))) None ≡ Some call → IsLent serving call
    sent true own serving lent (Connect psm) at is = cc
    sent true own serving lent AskFeatures at is = cc
    sent true own serving lent (Disconnect other) at is = cc
    sent true own serving lent (Send other sdu) at is = let same : sdu_of lent.payload ≡ sdu = cc in (lent, at, sym same)
    sent false own serving lent call at is = cc

    on : (v : Channels) (serving : ServerProfile) (lent : Lent) (own : Option ℕ) (call : Call) → lent_sdu (lends serving.server) ≡ Some lent → sends_on v lent.payload own ≡ Some call → IsLent serving call
    on v serving lent None call at is = cc
    on v serving lent (Some own) call at is = sent (takes_sdu own (sdu_of lent.payload) v) own serving lent call at is

    lending : (v : Channels) (serving : ServerProfile) (lent : Option Lent) (call : Call) → lent_sdu (lends serving.server) ≡ lent → lent_call lent v serving ≡ Some call → IsLent serving call
    lending v serving None call at is = cc
    lending v serving (Some lent) call at is = on v serving lent (endpoint_of lent.psm serving.endpoints) call at is

    sending : (settings : Settings) (content : Option Contents) → SendsAsItLends settings content (hosts_ask.servers settings content)
    sending settings content v serving call is = lending v serving (lent_sdu (lends serving.server)) call refl (sym (servers-call settings content v serving) ∙ is)

pub servers_lend : (settings : Settings) (content : Option Contents) → SendsAsItLends settings content (hosts_ask.servers settings content)
unfolding servers_send_as_they_lend
servers_lend = servers_send_as_they_lend.sends

-- ---- it ends the link where it is told of a loss

abbrev breaks_by : Bool → Tiding → Bool
breaks_by breaks (Brings own psm sdu) = breaks
breaks_by breaks (TellsIt event) = cond (is_end_lost event) true breaks
breaks_by breaks (Turns event) = false

module _ (settings : Settings) (content : Option Contents) where
  abbrev A : Profile ServerProfile
  A = server_profile settings content

  news_breaks : (circumstances : List Circumstance) (news : News) (serving : ServerProfile) → (A.told circumstances news serving).breaks ≡ fold breaks_by serving.breaks (tidings_in (Learns circumstances news))
  news_breaks circumstances (Linked Up) serving = refl
  news_breaks circumstances (Linked (Down reason)) serving = refl
  news_breaks circumstances (Failed status) serving = refl
  news_breaks circumstances (Heard pdu) serving = refl
  news_breaks circumstances TimerFired serving = refl
  news_breaks circumstances Cancelled serving = refl
  news_breaks circumstances (Opening name) serving = refl

  event_breaks : (event : ChannelEvent) (v : Channels) (serving : ServerProfile) → (A.happened event v serving).breaks ≡ cond (is_end_lost event) true serving.breaks
  event_breaks (events.Opened own psm) v serving = refl
  event_breaks (events.Closed own psm reason) v serving = by (is_told reason)
    where
      by : (told : Bool) → (cond told (reacts (channel_down psm serving.server serving.inbox) serving) serving).breaks ≡ serving.breaks
      by true = refl
      by false = refl
  event_breaks (events.Features features) v serving = refl
  event_breaks events.FeaturesLost v serving = refl
  event_breaks (events.DisconnectLost own) v serving = refl

  steps_break : (lent : Option Lent) (v : Channels) (server : Server) (serving : ServerProfile) → (takes lent v server serving).profile.breaks ≡ serving.breaks
  steps_break None v server serving = refl
  steps_break (Some lent) v server serving = by (endpoint_of lent.psm serving.endpoints)
    where
      took : (own : ℕ) → Stride ServerProfile
      took own = record { channels = sends own (sdu_of lent.payload) v; profile = record serving { server = stepped server }; more = true }

      sent : (own : ℕ) (taken : Bool) → (cond taken (took own) (waiting v server serving)).profile.breaks ≡ serving.breaks
      sent own true = refl
      sent own false = refl

      by : (found : Option ℕ) → (submits found lent v server serving).profile.breaks ≡ serving.breaks
      by None = refl
      by (Some own) = sent own (takes_sdu own (sdu_of lent.payload) v)

  feed_breaks : (serving : ServerProfile) (feed : Feed) → (fed A serving feed).breaks ≡ fold breaks_by serving.breaks (tidings_in feed)
  feed_breaks serving (Gifts circumstances) = refl
  feed_breaks serving (Learns circumstances news) = news_breaks circumstances news serving
  feed_breaks serving (Receives own psm sdu) = refl
  feed_breaks serving (Happens event v) = event_breaks event v serving
  feed_breaks serving (Sent v) = refl
  feed_breaks serving (Steps v) = steps_break (lent_sdu (lends serving.server)) v (lends serving.server) serving

  feeds_break : (feeds : List Feed) (serving : ServerProfile) → (all_fed A serving feeds).breaks ≡ fold breaks_by serving.breaks (tidings_of feeds)
  feeds_break [] serving = refl
  feeds_break (feed ∷ feeds) serving =
      feeds_break feeds (fed A serving feed)
      ∙ (ap (λ b. fold breaks_by b (tidings_of feeds)) (feed_breaks serving feed) ∙ sym (fold-append breaks_by serving.breaks (tidings_in feed) (tidings_of feeds)))

-- ---- a link begins anew

turned_off : (before : List Tiding) (event : LinkEvent) (b : Bool) → fold breaks_by b (before ++ Turns event ∷ []) ≡ false
turned_off before event b = fold-append breaks_by b before (Turns event ∷ [])

end_off : (event : LinkEvent) (v : Channels) (b : Bool) → fold breaks_by b (end_tidings event v) ≡ false
end_off Up v b = refl
end_off (Down reason) v b = turned_off (map TellsIt (link_down v).events) (Down reason) b

span_off : (wanted : Policy) (span : Span) (b : Bool) → fold breaks_by b (span_tidings wanted span) ≡ false
span_off wanted span b =
    let here = tidings_from wanted no_channels span.list in
    let v = values_after wanted no_channels span.list in
    fold-append breaks_by b here (end_tidings span.event v) ∙ end_off span.event v (fold breaks_by b here)

spans_off : (wanted : Policy) (spans : List Span) → fold breaks_by false (flat_map (span_tidings wanted) spans) ≡ false
spans_off wanted [] = refl
spans_off wanted (span ∷ spans) =
    let later = flat_map (span_tidings wanted) spans in
    fold-append breaks_by false (span_tidings wanted span) later ∙ (ap (λ b. fold breaks_by b later) (span_off wanted span false) ∙ spans_off wanted spans)

-- ---- on a link

abbrev IsOn : Tiding → Type 0
IsOn (Brings own psm sdu) = Unit {0}
IsOn (TellsIt event) = Unit {0}
IsOn (Turns event) = ⊥

brought_on : (up : Handed) → AllByRecursion IsOn (brought_by up)
brought_on Nothing = tt
brought_on (Received own psm sdu) = (tt, tt)

told_on : (list : List ChannelEvent) → AllByRecursion IsOn (map TellsIt list)
told_on [] = tt
told_on (event ∷ list) = (tt, told_on list)

all_on : (wanted : Policy) (v : Channels) (list : List Occurrence) → AllByRecursion IsOn (tidings_from wanted v list)
all_on wanted v [] = tt
all_on wanted v (one ∷ list) =
    all_both IsOn (tidings_with one v) (tidings_from wanted (value_after wanted one v) list) (all_both IsOn (brought_by (up_with one v)) (map TellsIt (told_in one v)) (brought_on (up_with one v)) (told_on (told_in one v)))
    (all_on wanted (value_after wanted one v) list)

none_lost : (tidings : List Tiding) (b : Bool) → AllByRecursion IsOn tidings → fold breaks_by b tidings ≡ false → (b ≡ false) × (any_lost false (events_told tidings) ≡ false)
none_lost [] b all is = (is, refl)
none_lost (Brings own psm sdu ∷ tidings) b all is = none_lost tidings b all.1 is
none_lost (TellsIt event ∷ tidings) b all is = let (first, rest) = none_lost tidings (cond (is_end_lost event) true b) all.1 is in by (is_end_lost event) first rest
  where
    by : (lost : Bool) → cond lost true b ≡ false → any_lost false (events_told tidings) ≡ false → (b ≡ false) × ((lost || any_lost false (events_told tidings)) ≡ false)
    by true first rest = cc
    by false first rest = (first, rest)
none_lost (Turns event ∷ tidings) b all is = absurd all.0

pub servers_keep_on : ServersKeepOn
servers_keep_on settings content asks marks host lives sends on =
    let wanted = policy settings true in
    let A = server_profile settings content in
    let run = run_of wanted lives.now in
    let here = tidings_from wanted no_channels lives.now in
    let earlier = flat_map (span_tidings wanted) lives.spans in
    let breaks : fold breaks_by false (earlier ++ here) ≡ false =
    ap (λ (l : List Tiding). fold breaks_by false l) (sym lives.tidings_are) ∙ (sym (feeds_break settings content lives.feeds A.first) ∙ (ap (λ (p : ServerProfile). p.breaks) (sym lives.profile_is) ∙ on)) in
    let now : fold breaks_by false here ≡ false = ap (λ b. fold breaks_by b here) (sym (spans_off wanted lives.spans)) ∙ (sym (fold-append breaks_by false earlier here) ∙ breaks) in
    let told : any_lost false run.told ≡ false = ap (any_lost false) (events_run wanted lives.now) ∙ (none_lost here false (all_on wanted no_channels lives.now) now).1 in
    let waits : any_lost false run.value.events ≡ false = ap (any_lost false) (ap (λ (v : Channels). v.events) (sym lives.channels_run) ∙ lives.all_told) in
    let asked_before = flat_map (λ (span : Span). filter_map asked span.list) lives.spans in
    let all = subst (AllByRecursion IsToSend) (sym lives.asked_are) (feeds_send settings content asks sends A.first lives.feeds) in
    nothing-given_up wanted lives.now (list_sends lives.now (all_right IsToSend asked_before (filter_map asked lives.now) all)) (lost_both false run.told run.value.events told waits)
