-- The inbox of a host gains what its own talk spells over all links.
use Rattle.std.proofs.Common.{◌≡◌, ℕ, List, [], ◌∷◌, ◌++◌, map, find, Bool, true, false, cond, ◌||◌, ◌&&◌, eqb, Option, Some, None, inl, inr, refl, sym, ap, ap₂, subst, ◌∙◌, append_assoc, append-nil}
use Rattle.std.specs.List.{AllByRecursion, flat_map, cons_option}
use Rattle.std.proofs.lemmas.Bool.{eqb-true, eq-eqb}
use Rattle.std.proofs.lemmas.List.{map-append}
use Rattle.std.proofs.lemmas.List.Concat.{flat_map-append}
use Rattle.std.proofs.lemmas.List.Elements.{filter_map-append}
use Rattle.std.proofs.lemmas.List.Sums.{fold-append}
use Rattle.shelf_model.specs.bt_base.specs.declared.settings.Settings.{Settings}
use Rattle.shelf_model.specs.bt_base.specs.Objects.{Object, Contents}
use Rattle.shelf_model.specs.capture.specs.declared.flow.Flow.TheVariants.{Into}
use Rattle.push_laws.specs.link_talk.specs.declared.channel.Channel.{Channel}
use Rattle.push_laws.specs.link_talk.specs.declared.party.Party.{Party}
use Rattle.push_laws.specs.link_talk.specs.Gains.{beyond}
use Rattle.push_laws.specs.link_talk.specs.Channels.{Entry, reading}
use Rattle.push_laws.specs.link_talk.specs.Sdus.{sdus}
use Rattle.push_laws.specs.link_talk.specs.ObjectsHeard.{spelled_within, objects}
use Rattle.channel_laws.specs.channel_model.specs.declared.event.ChannelEvent.{ChannelEvent}
use Rattle.channel_laws.specs.channel_model.specs.declared.event.ChannelEvent.TheVariants as events
use Rattle.channel_laws.specs.channel_model.specs.Value.{Stage, Requested, Connected, Leaving, Closing, Crossed, Held, Channels, no_channels}
use Rattle.channel_laws.specs.channel_model.specs.Policies.{Policy}
use Rattle.channel_laws.specs.channel_model.specs.Calls.{link_down, lost_at}
use Rattle.channel_laws.specs.channel_model.specs.Telling.{any_reason, closes_for, is_told_closed, is_told_broken}
use Rattle.channel_laws.specs.Runs.{Occurrence, value_after, told_in, up_with, new_link, run_of}
use Rattle.channel_laws.specs.Views.{channel_by, is_own, read_at}
use Rattle.channel_laws.specs.Endpoints.{IsOf}
use Rattle.channel_laws.specs.Sdus.{StatesFrame, IsHandedUp}
use Rattle.push_laws.specs.push_model.specs.Server.{Lent, lends, lent_sdu, object_psm}
use Rattle.push_laws.specs.Occurrences as push
use Rattle.shelf_model.specs.world_model.specs.Machines.{LinkEvent, Up, Down, News, Linked, Failed, Heard, TimerFired, Cancelled, Opening}
use Rattle.channel_laws.specs.channel_model.specs.Carrying.{Up as Handed, Nothing, Received}
use Rattle.shelf_model.specs.host_model.specs.Circumstances.{answers_in}
use Rattle.shelf_model.specs.host_model.specs.Endpoints.{endpoint_of, takes_sdu}
use Rattle.shelf_model.specs.host_model.specs.Pdus.{sdu_of}
use Rattle.shelf_model.specs.host_model.specs.Servers.{ServerProfile, is_told, server_profile}
use Rattle.host_laws.specs.Calls.{values_after}
use Rattle.host_laws.specs.Feeds.{Feed, Gifts, Learns, Receives, Happens, Sent, Steps, fed, Tiding, Brings, Tells, Turns, tidings_by, tidings_in, tidings_of, brought_by, tidings_from}
use Rattle.host_laws.specs.Lives.{Span, end_tidings, span_tidings, all_tidings}
use Rattle.host_laws.specs.OneCarrier.{IsFor}
use Rattle.host_laws.specs.Serving.{news_served, event_served, taken_by, lent_by, served_with, served_from}
use Rattle.host_laws.specs.Told.{event_told, events_told, sdus_told, IsOfChannel, told_on}
use Rattle.host_laws.specs.Gaining.{ClosesItself, OneObjectChannel, IsNoSdu, StartsBare, HostsGainTalk}
use Rattle.host_laws.proofs.Links.{value_run}
use Rattle.host_laws.proofs.Silence.{ends-are_last, channels-are_named}
use Rattle.host_laws.proofs.Profiles.{sdus-so}
use Rattle.host_laws.proofs.Serving.{hosts_gain}
use Rattle.host_laws.proofs.OneWay.{packets-are_sdus}
use Rattle.host_laws.proofs.OneCarrier.{one_carrier_gains}
use Rattle.host_laws.proofs.Gains.{state, gain, states, gain-both, gain-still, gain-over, spelled-more, objects-are_gained}

-- ---- what a server is told makes all that it gains

abbrev pub served_by : Tiding → List push.Occurrence
served_by (Brings own psm sdu) = push.Came psm sdu ∷ []
served_by (Tells event) = event_served event
served_by (Turns Up) = []
served_by (Turns (Down reason)) = push.LinkDown ∷ []

abbrev pub all_served : List Tiding → List push.Occurrence
all_served tidings = flat_map served_by tidings

pub record Same (xs ys : List push.Occurrence) : Type 0 where
  pub gain_is : (most : ℕ) (packets : List (List ℕ)) → gain most packets xs ≡ gain most packets ys
  pub states_are : (packets : List (List ℕ)) → states packets xs ≡ states packets ys

same_all : (xs ys : List push.Occurrence) → xs ≡ ys → Same xs ys
same_all xs ys same = record { gain_is = λ most packets. ap (gain most packets) same; states_are = λ packets. ap (states packets) same }

same_both : (xs xs' ys ys' : List push.Occurrence) → Same xs ys → Same xs' ys' → Same (xs ++ xs') (ys ++ ys')
same_both xs xs' ys ys' one two = record {
  gain_is = λ most packets. gain-both most packets xs xs'
      ∙ (ap₂ (λ (a b : List Object). a ++ b) (one.gain_is most packets) (ap (λ p. gain most p xs') (one.states_are packets) ∙ two.gain_is most (states packets ys))
      ∙ sym (gain-both most packets ys ys'));
  states_are = λ packets. fold-append state packets xs xs' ∙ (ap (λ p. states p xs') (one.states_are packets) ∙ (two.states_are (states packets ys) ∙ sym (fold-append state packets ys ys')));
}

went_same : (own : Option ℕ) (lent : Lent) (v : Channels) → Same (push.Asked ∷ taken_by own lent v) []
went_same None lent v = record { gain_is = λ most packets. gain-still most packets push.Asked [] refl; states_are = λ packets. refl }
went_same (Some own) lent v = by (takes_sdu own (sdu_of lent.payload) v)
  where
    by : (taken : Bool) → Same (push.Asked ∷ cond taken (push.Went lent.psm (sdu_of lent.payload) ∷ []) []) []
    by true = record {
      gain_is = λ most packets. gain-still most packets push.Asked (push.Went lent.psm (sdu_of lent.payload) ∷ []) refl ∙ gain-still most packets (push.Went lent.psm (sdu_of lent.payload)) [] refl;
      states_are = λ packets. refl;
    }
    by false = record { gain_is = λ most packets. gain-still most packets push.Asked [] refl; states_are = λ packets. refl }

lent_same : (lent : Option Lent) (v : Channels) (serving : ServerProfile) → Same (push.Asked ∷ lent_by lent v serving) []
lent_same None v serving = record { gain_is = λ most packets. gain-still most packets push.Asked [] refl; states_are = λ packets. refl }
lent_same (Some lent) v serving = went_same (endpoint_of lent.psm serving.endpoints) lent v

news_same : (news : News) → news_served news ≡ all_served (tidings_by news)
news_same (Linked Up) = refl
news_same (Linked (Down reason)) = refl
news_same (Failed status) = refl
news_same (Heard pdu) = refl
news_same TimerFired = refl
news_same Cancelled = refl
news_same (Opening name) = refl

feed_same : (serving : ServerProfile) (feed : Feed) → Same (served_with serving feed) (all_served (tidings_in feed))
feed_same serving (Gifts circumstances) = record { gain_is = λ most packets. gain-still most packets (push.Answering (answers_in circumstances)) [] refl; states_are = λ packets. refl }
feed_same serving (Learns circumstances news) = same_all (news_served news) (all_served (tidings_by news)) (news_same news)
feed_same serving (Receives own psm sdu) = same_all (push.Came psm sdu ∷ []) (push.Came psm sdu ∷ []) refl
feed_same serving (Happens event v) = same_all (event_served event) (event_served event ++ []) (sym (append-nil (event_served event)))
feed_same serving (Sent v) = same_all [] [] refl
feed_same serving (Steps v) = lent_same (lent_sdu (lends serving.server)) v serving

pub feeds_same : (settings : Settings) (content : Option Contents) (serving : ServerProfile) (feeds : List Feed) → Same (served_from settings content serving feeds) (all_served (tidings_of feeds))
feeds_same settings content serving [] = same_all [] [] refl
feeds_same settings content serving (feed ∷ feeds) =
    let next = fed (server_profile settings content) serving feed in
    subst (λ (l : List push.Occurrence). Same (served_from settings content serving (feed ∷ feeds)) l) (sym (flat_map-append served_by (tidings_in feed) (tidings_of feeds)))
    (same_both (served_with serving feed) (served_from settings content next feeds) (all_served (tidings_in feed)) (all_served (tidings_of feeds)) (feed_same serving feed) (feeds_same settings content next feeds))

-- ---- on one link

abbrev pub Fits : Channel → Tiding → Type 0
Fits channel (Brings own psm sdu) = (eqb own channel.own ≡ true → psm ≡ 0x1001) × (eqb own channel.own ≡ false → eqb psm 0x1001 ≡ false)
Fits channel (Tells event) = ClosesItself channel event
Fits channel (Turns event) = ⊥

-- none is told behind a closing
abbrev pub Ends : ℕ → List Tiding → Type 0
Ends own [] = Unit {0}
Ends own (Brings other psm sdu ∷ rest) = Ends own rest
Ends own (Tells event ∷ rest) = (closes_for any_reason own event ≡ true → sdus_told own rest ≡ []) × Ends own rest
Ends own (Turns event ∷ rest) = Ends own rest

abbrev Gains : ℕ → Channel → List (List ℕ) → List Tiding → Type 0
Gains most channel packets tidings = spelled_within most packets ++ gain most packets (all_served tidings) ≡ spelled_within most (packets ++ sdus_told channel.own tidings)

own_gain : (most : ℕ) (packets : List (List ℕ)) (psm : ℕ) (sdu : List ℕ) (rest : List push.Occurrence) (later : List (List ℕ)) → psm ≡ 0x1001
    → spelled_within most (packets ++ sdu ∷ []) ++ gain most (packets ++ sdu ∷ []) rest ≡ spelled_within most ((packets ++ sdu ∷ []) ++ later)
    → spelled_within most packets ++ gain most packets (push.Came psm sdu ∷ rest) ≡ spelled_within most (packets ++ sdu ∷ later)
own_gain most packets psm sdu rest later is gains =
    let old = spelled_within most packets in
    let now : List (List ℕ) = packets ++ sdu ∷ [] in
    ap (λ n. old ++ gain most packets (push.Came n sdu ∷ rest)) is
    ∙ (sym (append_assoc old (beyond old (spelled_within most now)) (gain most now rest))
    ∙ (ap (λ (a : List Object). a ++ gain most now rest) (spelled-more most packets sdu) ∙ (gains ∙ ap (spelled_within most) (append_assoc packets (sdu ∷ []) later))))

told_gain : (most : ℕ) (channel : Channel) (tidings : List Tiding) (packets : List (List ℕ)) → AllByRecursion (Fits channel) tidings → Ends channel.own tidings → Gains most channel packets tidings
told_gain most channel [] packets fits ends = append-nil (spelled_within most packets) ∙ ap (spelled_within most) (sym (append-nil packets))
told_gain most channel (Brings own psm sdu ∷ rest) packets fits ends = by (eqb own channel.own) refl (λ p. told_gain most channel rest p fits.1 ends)
  where
    by : (here : Bool) → eqb own channel.own ≡ here → ((p : List (List ℕ)) → Gains most channel p rest)
        → spelled_within most packets ++ gain most packets (push.Came psm sdu ∷ all_served rest) ≡ spelled_within most (packets ++ cons_option (cond here (Some sdu) None) (sdus_told channel.own rest))
    by true is later = own_gain most packets psm sdu (all_served rest) (sdus_told channel.own rest) (fits.0.0 is) (later (packets ++ sdu ∷ []))
    by false is later =
        ap (λ (g : List Object). spelled_within most packets ++ g) (gain-still most packets (push.Came psm sdu) (all_served rest) (ap (λ b. cond b (packets ++ sdu ∷ []) packets) (fits.0.1 is))) ∙ later packets
told_gain most channel (Tells (events.Opened own psm) ∷ rest) packets fits ends = told_gain most channel rest packets fits.1 ends.1
told_gain most channel (Tells (events.Closed own psm reason) ∷ rest) packets fits ends = by (is_told reason) (eqb psm 0x1001) refl (λ p. told_gain most channel rest p fits.1 ends.1)
  where
    by : (told here : Bool) → eqb psm 0x1001 ≡ here → ((p : List (List ℕ)) → Gains most channel p rest)
        → spelled_within most packets ++ gain most packets (cond told (push.Closed psm ∷ []) [] ++ all_served rest) ≡ spelled_within most (packets ++ sdus_told channel.own rest)
    by false here is later = later packets
    by true false is later = ap (λ (g : List Object). spelled_within most packets ++ g) (gain-still most packets (push.Closed psm) (all_served rest) (ap (λ b. cond b [] packets) is)) ∙ later packets
    by true true is later =
        let same = fits.0 (eqb-true psm 0x1001 is) in
        let none : sdus_told channel.own rest ≡ [] = ends.0 (ap (λ b. b && true) (eq-eqb own channel.own same)) in
        let nothing : gain most [] (all_served rest) ≡ [] = later [] ∙ ap (spelled_within most) none in
        ap (λ (g : List Object). spelled_within most packets ++ g) (gain-over most packets (push.Closed psm) (all_served rest) (ap (λ b. cond b [] packets) is) ∙ nothing)
        ∙ (append-nil (spelled_within most packets) ∙ ap (spelled_within most) (sym (ap (λ (l : List (List ℕ)). packets ++ l) none ∙ append-nil packets)))
told_gain most channel (Tells (events.Features features) ∷ rest) packets fits ends = told_gain most channel rest packets fits.1 ends.1
told_gain most channel (Tells events.FeaturesLost ∷ rest) packets fits ends = told_gain most channel rest packets fits.1 ends.1
told_gain most channel (Tells (events.DisconnectLost own) ∷ rest) packets fits ends = told_gain most channel rest packets fits.1 ends.1
told_gain most channel (Turns event ∷ rest) packets fits ends = absurd fits.0

-- ---- what is told on a link fits it

pub found_in : (n : ℕ) (P : Entry → Type 0) (entries : List Entry) (found : Entry) → AllByRecursion P entries → find (is_own n) entries ≡ Some found → P found
found_in n P [] found all is = cc
found_in n P (entry ∷ entries) found all is = by (is_own n entry) is (λ some. found_in n P entries found all.1 some)
  where
    by : (here : Bool) → cond here (Some entry) (find (is_own n) entries) ≡ Some found → (find (is_own n) entries ≡ Some found → P found) → P found
    by true some later = let same : entry ≡ found = cc in subst P same all.0
    by false some later = later some

brings_fit : (channel : Channel) (entries : List Entry) (own psm peer : ℕ) → channel.psm ≡ 0x1001 → AllByRecursion (λ (entry : Entry). IsFor channel entry.channel) entries → IsOf (channel_by psm own peer) (read_at own entries)
    → (eqb own channel.own ≡ true → psm ≡ 0x1001) × (eqb own channel.own ≡ false → eqb psm 0x1001 ≡ false)
brings_fit channel entries own psm peer psm_is all of = by (read_at own entries) refl of
  where
    by : (found : Option Entry) → read_at own entries ≡ found → IsOf (channel_by psm own peer) found → (eqb own channel.own ≡ true → psm ≡ 0x1001) × (eqb own channel.own ≡ false → eqb psm 0x1001 ≡ false)
    by None at is = absurd is
    by (Some entry) at is =
        let fit = found_in own (λ (one : Entry). IsFor channel one.channel) entries entry all at in
        let own_is : entry.channel.own ≡ own = ap (λ (c : Channel). c.own) is in
        let at_psm : entry.channel.psm ≡ psm = ap (λ (c : Channel). c.psm) is in (
          λ here. sym at_psm ∙ (ap (λ (c : Channel). c.psm) (fit.same (ap (λ n. eqb n channel.own) own_is ∙ here)) ∙ psm_is),
          λ apart. off (eqb psm 0x1001) refl (λ same. (fit.aside (ap (λ n. eqb n channel.own) own_is ∙ apart)).0 (at_psm ∙ eqb-true psm 0x1001 same)),
        )
      where
        off : (b : Bool) → eqb psm 0x1001 ≡ b → (eqb psm 0x1001 ≡ true → ⊥) → b ≡ false
        off false now never = refl
        off true now never = absurd (never now)

abbrev pub NoTurn : Tiding → Type 0
NoTurn (Brings own psm sdu) = Unit {0}
NoTurn (Tells event) = Unit {0}
NoTurn (Turns event) = ⊥

events_no_turn : (list : List ChannelEvent) (rest : List Tiding) → AllByRecursion NoTurn rest → AllByRecursion NoTurn (map Tells list ++ rest)
events_no_turn [] rest all = all
events_no_turn (event ∷ list) rest all = (tt, events_no_turn list rest all)

with_no_turn : (up : Handed) (list : List ChannelEvent) (rest : List Tiding) → AllByRecursion NoTurn rest → AllByRecursion NoTurn ((brought_by up ++ map Tells list) ++ rest)
with_no_turn Nothing list rest all = events_no_turn list rest all
with_no_turn (Received own psm sdu) list rest all = (tt, events_no_turn list rest all)

pub no_turns : (policy : Policy) (v : Channels) (list : List Occurrence) → AllByRecursion NoTurn (tidings_from policy v list)
no_turns policy v [] = tt
no_turns policy v (one ∷ list) = with_no_turn (up_with one v) (told_in one v) (tidings_from policy (value_after policy one v) list) (no_turns policy (value_after policy one v) list)

pub all_fit : (channel : Channel) (entries : List Entry) (tidings : List Tiding) → channel.psm ≡ 0x1001 → AllByRecursion (λ (entry : Entry). IsFor channel entry.channel) entries → AllByRecursion (IsOfChannel entries) tidings
    → AllByRecursion (ClosesItself channel) (events_told tidings) → AllByRecursion NoTurn tidings → AllByRecursion (Fits channel) tidings
all_fit channel entries [] psm_is all named closings still = tt
all_fit channel entries (Brings own psm sdu ∷ rest) psm_is all named closings still = (brings_fit channel entries own psm named.0.0 psm_is all named.0.1, all_fit channel entries rest psm_is all named.1 closings still.1)
all_fit channel entries (Tells event ∷ rest) psm_is all named closings still = (closings.0, all_fit channel entries rest psm_is all named.1 closings.1 still.1)
all_fit channel entries (Turns event ∷ rest) psm_is all named closings still = absurd still.0

closed_last : (own : ℕ) (list : List ChannelEvent) (event : ChannelEvent) → closes_for any_reason own event ≡ true → is_told_closed own (list ++ event ∷ []) ≡ true
closed_last own [] event is = ap (λ b. b || false) is
closed_last own (one ∷ list) event is = by (closes_for any_reason own one) (closed_last own list event is)
  where
    by : (b : Bool) → is_told_closed own (list ++ event ∷ []) ≡ true → (b || is_told_closed own (list ++ event ∷ [])) ≡ true
    by true later = refl
    by false later = later

pub all_end : (own : ℕ) (all before rest : List Tiding) → all ≡ before ++ rest → ((front after : List Tiding) → all ≡ front ++ after → is_told_closed own (events_told front) ≡ true → sdus_told own after ≡ []) → Ends own rest
all_end own all before [] is last = tt
all_end own all before (Brings other psm sdu ∷ rest) is last = all_end own all (before ++ Brings other psm sdu ∷ []) rest (is ∙ sym (append_assoc before (Brings other psm sdu ∷ []) rest)) last
all_end own all before (Tells event ∷ rest) is last =
    let split : all ≡ (before ++ Tells event ∷ []) ++ rest = is ∙ sym (append_assoc before (Tells event ∷ []) rest) in (
      λ closes. last (before ++ Tells event ∷ []) rest split (ap (is_told_closed own) (filter_map-append event_told before (Tells event ∷ [])) ∙ closed_last own (events_told before) event closes),
      all_end own all (before ++ Tells event ∷ []) rest split last,
    )
all_end own all before (Turns event ∷ rest) is last = all_end own all (before ++ Turns event ∷ []) rest (is ∙ sym (append_assoc before (Turns event ∷ []) rest)) last

-- an event brings none where there was none
pub event_still : (most : ℕ) (event : ChannelEvent) (rest : List push.Occurrence) → gain most [] (event_served event ++ rest) ≡ gain most [] rest
event_still most (events.Opened own psm) rest = refl
event_still most (events.Closed own psm reason) rest = by (is_told reason)
  where
    here : (b : Bool) → (let none : List (List ℕ) = [] in cond b none none ≡ none)
    here true = refl
    here false = refl

    by : (told : Bool) → gain most [] (cond told (push.Closed psm ∷ []) [] ++ rest) ≡ gain most [] rest
    by true = gain-still most [] (push.Closed psm) rest (here (eqb psm object_psm))
    by false = refl
event_still most (events.Features features) rest = refl
event_still most events.FeaturesLost rest = refl
event_still most (events.DisconnectLost own) rest = refl

-- ---- one link

module _ (policy : Policy) (party : Party) (states_frame : StatesFrame policy party) where
  abbrev spelled_on : List Occurrence → List Object
  spelled_on list = objects party (run_of policy list).said

  link_read : (list : List Occurrence) (one : OneObjectChannel policy list) → (run_of policy list).value.events ≡ [] → spelled_on list ≡ spelled_within party.packet (sdus_told one.channel.own (told_on policy list))
  link_read list one none =
      let said = (run_of policy list).said in
      one_carrier_gains party one.channel said one.alone
      ∙ ap (spelled_within party.packet) (packets-are_sdus party one.channel said one.psm_is ∙ by (sdus-so policy party list states_frame none one.channel))
    where
      by : IsHandedUp (is_told_broken one.channel.own (events_told (told_on policy list))) (sdus_told one.channel.own (told_on policy list)) (sdus party one.channel Into (run_of policy list).said)
          → sdus party one.channel Into (run_of policy list).said ≡ sdus_told one.channel.own (told_on policy list)
      by (inl same) = same
      by (inr more) = one.whole more.0 party states_frame

  pub link_gain : (list : List Occurrence) (one : OneObjectChannel policy list) → (run_of policy list).value.events ≡ [] → gain party.packet [] (all_served (told_on policy list)) ≡ spelled_on list
  link_gain list one none =
      let told = told_on policy list in
      told_gain party.packet one.channel told [] (all_fit one.channel (reading (run_of policy list).said).entries told one.psm_is one.alone (channels-are_named policy list) one.closings (no_turns policy no_channels list))
      (all_end one.channel.own told [] told refl (λ front after is closed. ends-are_last policy list one.channel.own front after is closed))
      ∙ sym (link_read list one none)

  -- ---- where it ends

  lost_none : (stage : Stage) (held : Held) → all_served (map Tells (lost_at stage held)) ≡ []
  lost_none (Requested request) held = refl
  lost_none (Connected peer setup) held = refl
  lost_none (Leaving peer setup request) held = refl
  lost_none (Closing peer request checked) held = refl
  lost_none (Crossed peer request) held = refl

  all_lost : (hs : List Held) → all_served (map Tells (flat_map (λ (held : Held). lost_at held.stage held) hs)) ≡ []
  all_lost [] = refl
  all_lost (held ∷ hs) =
      ap all_served (map-append Tells (lost_at held.stage held) (flat_map (λ (h : Held). lost_at h.stage h) hs))
      ∙ (flat_map-append served_by (map Tells (lost_at held.stage held)) (map Tells (flat_map (λ (h : Held). lost_at h.stage h) hs))
      ∙ ap₂ (λ (a b : List push.Occurrence). a ++ b) (lost_none held.stage held) (all_lost hs))

  end_served : (v : Channels) (reason : ℕ) → v.events ≡ [] → all_served (end_tidings (Down reason) v) ≡ push.LinkDown ∷ []
  end_served v reason none =
      flat_map-append served_by (map Tells (link_down v).events) (Turns (Down reason) ∷ [])
      ∙ ap (λ (l : List push.Occurrence). l ++ push.LinkDown ∷ []) (ap (λ (l : List ChannelEvent). all_served (map Tells (l ++ flat_map (λ (held : Held). lost_at held.stage held) v.held))) none ∙ all_lost v.held)

  no_packets : (here : Bool) → (let none : List (List ℕ) = [] in cond here none none ≡ none)
  no_packets true = refl
  no_packets false = refl

  closed_state : (told : Bool) (psm : ℕ) → states [] (cond told (push.Closed psm ∷ []) []) ≡ []
  closed_state true psm = no_packets (eqb psm object_psm)
  closed_state false psm = refl

  event_state : (one : ChannelEvent) → states [] (event_served one) ≡ []
  event_state (events.Opened own psm) = refl
  event_state (events.Closed own psm reason) = closed_state (is_told reason) psm
  event_state (events.Features features) = refl
  event_state events.FeaturesLost = refl
  event_state (events.DisconnectLost own) = refl

  bare_states : (tidings : List Tiding) → AllByRecursion IsNoSdu tidings → AllByRecursion NoTurn tidings → states [] (all_served tidings) ≡ []
  bare_states [] bare still = refl
  bare_states (Brings own psm sdu ∷ rest) bare still = absurd bare.0
  bare_states (Tells event ∷ rest) bare still = fold-append state [] (event_served event) (all_served rest) ∙ (ap (λ p. states p (all_served rest)) (event_state event) ∙ bare_states rest bare.1 still.1)
  bare_states (Turns event ∷ rest) bare still = absurd still.0

  pub ends_over : (event : LinkEvent) (list : List Occurrence) (rest : List push.Occurrence) → (run_of policy list).value.events ≡ [] → StartsBare policy event list
      → gain party.packet (states [] (all_served (told_on policy list))) (all_served (end_tidings event (values_after policy no_channels list)) ++ rest) ≡ gain party.packet [] rest
  ends_over Up list rest none bare = ap (λ p. gain party.packet p rest) (bare_states (told_on policy list) bare (no_turns policy no_channels list))
  ends_over (Down reason) list rest none bare =
      let told = states [] (all_served (told_on policy list)) in
      ap (λ (l : List push.Occurrence). gain party.packet told (l ++ rest)) (end_served (values_after policy no_channels list) reason (ap (λ (v : Channels). v.events) (sym (value_run policy list new_link)) ∙ none))
      ∙ gain-over party.packet told push.LinkDown rest refl

  -- ---- all of them

  abbrev AllSingle : List Span → List Occurrence → Type 0
  AllSingle spans now = AllByRecursion (OneObjectChannel policy) (map (λ (span : Span). span.list) spans ++ now ∷ [])

  all_gain : (spans : List Span) (now : List Occurrence) → AllSingle spans now → AllByRecursion (λ (span : Span). StartsBare policy span.event span.list) spans
      → AllByRecursion (λ (span : Span). (run_of policy span.list).value.events ≡ []) spans → (run_of policy now).value.events ≡ []
      → gain party.packet [] (all_served (all_tidings policy spans now)) ≡ flat_map spelled_on (map (λ (span : Span). span.list) spans ++ now ∷ [])
  all_gain [] now single bare told none = link_gain now single.0 none ∙ sym (append-nil (spelled_on now))
  all_gain (span ∷ spans) now single bare told none =
      let first = told_on policy span.list in
      let end' = end_tidings span.event (values_after policy no_channels span.list) in
      let rest = all_tidings policy spans now in
      let T = all_served first in
      let R = all_served rest in
      ap (λ (l : List Tiding). gain party.packet [] (all_served l)) (append_assoc (first ++ end') (flat_map (span_tidings policy) spans) (tidings_from policy no_channels now) ∙ append_assoc first end' rest)
      ∙ (ap (gain party.packet []) (flat_map-append served_by first (end' ++ rest) ∙ ap (λ (l : List push.Occurrence). T ++ l) (flat_map-append served_by end' rest))
      ∙ (gain-both party.packet [] T (all_served end' ++ R)
      ∙ ap₂ (λ (a b : List Object). a ++ b) (link_gain span.list single.0 told.0) (ends_over span.event span.list R told.0 bare.0 ∙ all_gain spans now single.1 bare.1 told.1 none)))

pub hosts_gain_talk : HostsGainTalk
hosts_gain_talk settings before party asks marks host lives states_frame packet_is may direct single bare =
    let content : Option Contents = Some (record { stored = before; pending = None }) in
    let A = server_profile settings content in
    let list = served_from settings content A.first lives.feeds in
    let none : (run_of A.policy lives.now).value.events ≡ [] = ap (λ (v : Channels). v.events) (sym lives.channels_run) ∙ lives.all_told in
    hosts_gain settings before asks marks host lives may
    ∙ ap (λ (gained : List Object). Some (before ++ gained))
    (objects-are_gained settings list direct
    ∙ (ap (λ most. gain most [] list) (sym packet_is)
    ∙ ((feeds_same settings content A.first lives.feeds).gain_is party.packet []
    ∙ (ap (λ (l : List Tiding). gain party.packet [] (all_served l)) lives.tidings_are
    ∙ all_gain A.policy party states_frame lives.spans lives.now single bare lives.spans_told none))))
