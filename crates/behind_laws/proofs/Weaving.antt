-- Along all that a server goes through on a link each request that has a response comes behind the response to the one before on its channel.
use Rattle.std.proofs.Common.{◌≡◌, ◌≤◌, ◌+◌, ℕ, Bool, true, false, cond, ◌&&◌, ◌||◌, eqb, List, [], ◌∷◌, ◌++◌, length, map, filter_map, Option, Some, None, refl, sym, ap, ap₂, subst, ◌∙◌, append_assoc, append-nil, length-append, arith}
use Rattle.std.specs.Prelude.{option_map, option_to_list, slice_get}
use Rattle.std.specs.List.{AllByRecursion, cons_option, list_any}
use Rattle.std.proofs.lemmas.Bool.{eqb-true, eq-eqb}
use Rattle.std.proofs.lemmas.List.Elements.{filter_map-append}
use Rattle.std.proofs.lemmas.List.Folds.{list_any-append}
use Rattle.request_laws.specs.acl_fragments.specs.Pieces.{channel_of}
use Rattle.request_laws.specs.bt_base.specs.declared.settings.Settings.{Settings}
use Rattle.request_laws.specs.bt_base.specs.Objects.{Contents}
use Rattle.request_laws.specs.capture.specs.Histories.{EachAfter}
use Rattle.request_laws.specs.push_terms.specs.declared.word.Side.TheVariants as sides
use Rattle.request_laws.specs.link_talk.specs.declared.channel.Channel.{Channel}
use Rattle.request_laws.specs.link_talk.specs.Channels.{reading}
use Rattle.request_laws.specs.link_talk.specs.Sayings.{Saying}
use Rattle.request_laws.specs.channel_model.specs.declared.event.ChannelEvent.{ChannelEvent}
use Rattle.request_laws.specs.channel_model.specs.declared.event.ChannelEvent.TheVariants as events
use Rattle.request_laws.specs.channel_model.specs.declared.event.CloseReason.{CloseReason}
use Rattle.request_laws.specs.channel_model.specs.Calls.{carrier_at, carrier_mtu, open_carrier, peer_mtu, setup_on}
use Rattle.request_laws.specs.channel_model.specs.Calls as calling
use Rattle.request_laws.specs.channel_model.specs.Carrying.{Up as Handed, Nothing, Received}
use Rattle.request_laws.specs.channel_model.specs.Changing.{held_at, setup_of}
use Rattle.request_laws.specs.channel_model.specs.Hearing.{up}
use Rattle.request_laws.specs.channel_model.specs.Policies.{Policy, policy}
use Rattle.request_laws.specs.channel_model.specs.Telling.{any_reason, closes_for, is_told_closed}
use Rattle.request_laws.specs.channel_model.specs.Value.{Stage, Requested, Connected, Leaving, Closing, Crossed, Held, Channels, no_channels}
use Rattle.request_laws.specs.channel_laws.specs.Endpoints.{IsOf}
use Rattle.request_laws.specs.channel_laws.specs.Frames.{AreUttered}
use Rattle.request_laws.specs.channel_laws.specs.Runs.{Comes, Tells, Run, run_of, arisen, sdus_up}
use Rattle.request_laws.specs.channel_laws.specs.Runs as channels
use Rattle.request_laws.specs.channel_laws.specs.Taken.{is_free, taken_of}
use Rattle.request_laws.specs.channel_laws.specs.Views.{channel_by, read_at}
use Rattle.request_laws.specs.channel_laws.proofs.Running.{along}
use Rattle.request_laws.specs.channel_laws.proofs.Telling.{StageTold, HeldTold, RunTold, one_told, nothing_told}
use Rattle.request_laws.specs.obex_session.specs.Calls.{session_behind}
use Rattle.request_laws.specs.obex_session.specs.Views.{is_silent}
use Rattle.request_laws.specs.push_model.specs.Server.{Server, Lent, lends, lent_sdu, object_psm}
use Rattle.request_laws.specs.push_model.specs.Server as push
use Rattle.request_laws.specs.push_laws.specs.Answers.{said}
use Rattle.request_laws.specs.push_laws.specs.Occurrences.{Occurrence, Came, Went, Closed}
use Rattle.request_laws.specs.push_laws.specs.Parties.{sdu_if}
use Rattle.request_laws.specs.world_model.specs.Machines.{News, Linked, Up, Down, Failed, Heard, TimerFired, Cancelled, Opening}
use Rattle.request_laws.specs.host_model.specs.Circumstances.{Circumstance}
use Rattle.request_laws.specs.host_model.specs.Endpoints.{Endpoint, endpoint_of, takes_sdu}
use Rattle.request_laws.specs.host_model.specs.Hosts.{handed}
use Rattle.request_laws.specs.host_model.specs.Pdus.{sdu_of}
use Rattle.request_laws.specs.host_model.specs.Profiles.{Profile}
use Rattle.request_laws.specs.host_model.specs.Servers.{ServerProfile, is_told, submits, takes, server_profile}
use Rattle.request_laws.specs.host_model.specs.Servers as profile
use Rattle.request_laws.specs.host_laws.specs.Calls.{Call, Connect, AskFeatures, Disconnect, Send, Asks, from_call, values_after}
use Rattle.request_laws.specs.host_laws.specs.Fed.{feeds_up, next_happening, strand_feeds, woven_feeds}
use Rattle.request_laws.specs.host_laws.specs.Feeds.{Tiding, Brings, Tells as TellsIt, Turns, tidings_by, brought_by, tidings_from}
use Rattle.request_laws.specs.host_laws.specs.OverLinks.{GoesOut}
use Rattle.request_laws.specs.host_laws.specs.Serving.{news_served, event_served, taken_by, lent_by, served_from}
use Rattle.request_laws.specs.host_laws.specs.Told.{events_told, sdus_told, told_on}
use Rattle.request_laws.specs.host_laws.specs.Woven.{Strand, Hearing, Giving, Firing, Telling, Gifting, Learning, Checking, Stepping, IsOnLink, told_next, strand_list, strand_profile, woven_list}
use Rattle.request_laws.specs.host_laws.proofs.Asking.{send_if, sends_on, lent_call, hosts_ask, servers-call}
use Rattle.request_laws.specs.host_laws.proofs.Gains.{state, states}
use Rattle.request_laws.specs.host_laws.proofs.Gaining.{NoTurn, all_served, no_turns}
use Rattle.request_laws.specs.host_laws.proofs.Growing.{tidings-append}
use Rattle.request_laws.specs.host_laws.proofs.SearchingWeave.{each_split}
use Rattle.request_laws.specs.host_laws.proofs.Silence.{ends-are_last, channels-are_named}
use Rattle.request_laws.specs.host_laws.proofs.StrandsFed.{strand_so}
use Rattle.request_laws.specs.host_laws.proofs.Telling.{events_run, sdus_run}
use Rattle.request_laws.proofs.Accepted.{Opened, opened-stays, OpenedUp, opened-up}
use Rattle.request_laws.proofs.Feeding.{served-both}
use Rattle.request_laws.proofs.ServerTakes.{WasOpened, Open, strand_open}
use Rattle.request_laws.proofs.Sole.{is_of}
use Rattle.request_laws.proofs.Takes.{takes_from, takes_both, takes_of, value_behind, is_taken, AllEndpoints, with_new, all_mapped, endpoint_so}
use Rattle.unit_laws.specs.scenario_laws.specs.Parties.{party_of}
use Rattle.orderly_laws.specs.Answered.{fresh_session, responses_due, AreAnswered}
use Rattle.orderly_laws.proofs.Counting.{gone, MayAsk}
use Rattle.following_laws.specs.Following.{object_sdus_told, ends_objects, is_object_over, OthersAreOver, FollowsOthers}
use Rattle.following_laws.proofs.Current.{packets, IsCurrent, BringsOpen, current-on}
use Rattle.following_laws.proofs.Moments.{one_of}
use Rattle.behind_laws.proofs.Counting.{went, Proceeds}
use Rattle.behind_laws.proofs.Requests.{took, behind-responses}
use Rattle.behind_laws.proofs.Standing.{packets-on, told-same, IsAlone, alone-on, most_by, most_at, most-few, most-more, most-on, most-closed, HasBrought, brought-on, brought-now}

-- ---- a channel that is told to be closed is not open

closed_by : (own : ℕ) (told : List ChannelEvent) → list_any (ends_objects own) told ≡ true → is_told_closed own told ≡ true
closed_by own [] is = is
closed_by own (events.Opened other psm ∷ told) is = closed_by own told is
closed_by own (events.Closed other psm reason ∷ told) is = by (eqb other own) (eqb psm object_psm && is_told reason) is (closed_by own told)
  where
    by : (here heeds : Bool) → ((here && heeds) || list_any (ends_objects own) told) ≡ true → (list_any (ends_objects own) told ≡ true → is_told_closed own told ≡ true) → ((here && true) || is_told_closed own told) ≡ true
    by true heeds now later = refl
    by false heeds now later = later now
closed_by own (events.Features features ∷ told) is = closed_by own told is
closed_by own (events.FeaturesLost ∷ told) is = closed_by own told is
closed_by own (events.DisconnectLost other ∷ told) is = closed_by own told is

module _ (rules : Policy) where
  unclosed : (held : Option Held) (closed : Bool) (mtu : ℕ) → HeldTold held closed → option_map carrier_mtu (open_carrier (setup_on held)) ≡ Some mtu → closed ≡ false
  unclosed None closed mtu told is = cc
  unclosed (Some held) closed mtu told is = by held.stage told is
    where
      by : (stage : Stage) → StageTold stage closed → option_map carrier_mtu (open_carrier (setup_of stage)) ≡ Some mtu → closed ≡ false
      by (Requested request) stated open' = stated
      by (Connected peer setup) stated open' = stated.1
      by (Leaving peer setup request) stated open' = stated.1
      by (Closing peer request checked) stated open' = cc
      by (Crossed peer request) stated open' = cc

  not_over : (front : List channels.Occurrence) (own mtu : ℕ) → peer_mtu own (run_of rules front).value ≡ Some mtu → is_object_over own (told_on rules front) ≡ false
  not_over front own mtu is = by (is_object_over own (told_on rules front)) refl
    where
      run : Run
      run = run_of rules front

      told : RunTold run
      told = (along rules RunTold nothing_told (λ before more s so. one_told rules before more s.core.lone so) front).1

      by : (over : Bool) → is_object_over own (told_on rules front) ≡ over → over ≡ false
      by false at = refl
      by true at =
          let closed : is_told_closed own run.told ≡ true = ap (is_told_closed own) (events_run rules front) ∙ closed_by own (events_told (told_on rules front)) at in
          let arises : is_told_closed own (arisen run) ≡ true = list_any-append (closes_for any_reason own) run.told run.value.events ∙ ap (λ (b : Bool). b || is_told_closed own run.value.events) closed in
          let never : true ≡ false = sym arises ∙ unclosed (held_at own run.value) (is_told_closed own (arisen run)) mtu (told.at own) is in
          cc

  -- an SDU comes on one that is not over
  opens_on : (list : List channels.Occurrence) (past rest : List Tiding) → told_on rules list ≡ past ++ rest → EachAfter BringsOpen past rest
  opens_on list past [] is = tt
  opens_on list past (Brings own psm sdu ∷ rest) is = (by (is_object_over own past) refl, opens_on list (past ++ Brings own psm sdu ∷ []) rest (is ∙ sym (append_assoc past (Brings own psm sdu ∷ []) rest)))
    where
      by : (over : Bool) → is_object_over own past ≡ over → over ≡ false
      by false at = refl
      by true at =
          let none = ends-are_last rules list own past (Brings own psm sdu ∷ rest) is (closed_by own (events_told past) at) in
          let some : sdu ∷ sdus_told own rest ≡ [] = sym (ap (λ (b : Bool). cons_option (cond b (Some sdu) None) (sdus_told own rest)) (eq-eqb own own refl)) ∙ none in
          cc
  opens_on list past (TellsIt event ∷ rest) is = (tt, opens_on list (past ++ TellsIt event ∷ []) rest (is ∙ sym (append_assoc past (TellsIt event ∷ []) rest)))
  opens_on list past (Turns event ∷ rest) is = (tt, opens_on list (past ++ Turns event ∷ []) rest (is ∙ sym (append_assoc past (Turns event ∷ []) rest)))

-- ---- the endpoints that a server keeps

module _ (settings : Settings) (content : Option Contents) (F : Endpoint → Type 0) where
  abbrev A : Profile ServerProfile
  A = server_profile settings content

  abbrev pub NewUp : Handed → Type 0
  NewUp Nothing = Unit {0}
  NewUp (Received at psm sdu) = F (record { psm = psm; own = at })

  abbrev pub NewWith : Strand → Channels → Type 0
  NewWith (Hearing pdu) v = NewUp (up (channel_of pdu) pdu v)
  NewWith (Giving pdu) v = Unit {0}
  NewWith Firing v = Unit {0}
  NewWith Telling v = Unit {0}
  NewWith (Gifting circumstances) v = Unit {0}
  NewWith (Learning circumstances news) v = Unit {0}
  NewWith Checking v = Unit {0}
  NewWith Stepping v = Unit {0}

  up_kept : (brought : Handed) (p : ServerProfile) → NewUp brought → AllEndpoints F p.endpoints → AllEndpoints F (handed (server_profile settings content) brought p).endpoints
  up_kept Nothing p new all = all
  up_kept (Received at psm sdu) p new all = with_new F psm at p.endpoints new all

  next_kept : (found : List ChannelEvent) (v : Channels) (p : ServerProfile) → AllEndpoints F p.endpoints → AllEndpoints F (told_next (server_profile settings content) found v p).endpoints
  next_kept [] v p all = all
  next_kept (events.Opened at psm ∷ found) v p all = all
  next_kept (events.Closed at psm reason ∷ found) v p all = by (is_told reason)
    where
      by : (told' : Bool) → AllEndpoints F (cond told' (profile.reacts (push.channel_down psm p.server p.inbox) p) p).endpoints
      by true = all
      by false = all
  next_kept (events.Features features ∷ found) v p all = all
  next_kept (events.FeaturesLost ∷ found) v p all = all
  next_kept (events.DisconnectLost at ∷ found) v p all = all

  news_kept : (circumstances : List Circumstance) (news : News) (p : ServerProfile) → AllEndpoints F p.endpoints → AllEndpoints F (profile.told circumstances news p).endpoints
  news_kept circumstances (Linked Up) p all = tt
  news_kept circumstances (Linked (Down reason)) p all = tt
  news_kept circumstances (Failed status) p all = all
  news_kept circumstances (Heard pdu) p all = all
  news_kept circumstances TimerFired p all = all
  news_kept circumstances Cancelled p all = all
  news_kept circumstances (Opening name) p all = all

  takes_kept : (lent : Option Lent) (v : Channels) (server : Server) (p : ServerProfile) → AllEndpoints F p.endpoints → AllEndpoints F (takes lent v server p).profile.endpoints
  takes_kept None v server p all = all
  takes_kept (Some lent) v server p all = on (endpoint_of lent.psm p.endpoints)
    where
      by : (at : ℕ) (taken : Bool) → AllEndpoints F (cond taken (record { channels = calling.sends at (sdu_of lent.payload) v; profile = record p { server = push.stepped server }; more = true }) (profile.waiting v server p)).profile.endpoints
      by at true = all
      by at false = all

      on : (found : Option ℕ) → AllEndpoints F (submits found lent v server p).profile.endpoints
      on None = all
      on (Some at) = by at (takes_sdu at (sdu_of lent.payload) v)

  pub strand-kept : (strand : Strand) (v : Channels) (p : ServerProfile) → NewWith strand v → AllEndpoints F p.endpoints → AllEndpoints F (strand_profile (server_profile settings content) strand v p).endpoints
  strand-kept (Hearing pdu) v p new all = up_kept (up (channel_of pdu) pdu v) p new all
  strand-kept (Giving pdu) v p new all = all
  strand-kept Firing v p new all = all
  strand-kept Telling v p new all = next_kept v.events v p all
  strand-kept (Gifting circumstances) v p new all = all
  strand-kept (Learning circumstances news) v p new all = news_kept circumstances news p all
  strand-kept Checking v p new all = all
  strand-kept Stepping v p new all = takes_kept (lent_sdu (lends p.server)) v (lends p.server) p all

-- ---- a link, as it is read off what moved

pub record ReadsLink (settings : Settings) (list : List channels.Occurrence) : Type 0 where
  pub talk : List Saying
  pub outs : List Saying
  pub said_is : (run_of (policy settings true) list).said ≡ talk ++ outs
  pub go_out : AllByRecursion GoesOut outs
  pub uttered : AreUttered (policy settings true) list
  pub answered : AreAnswered settings (party_of settings sides.B) talk
  pub behind : EachAfter FollowsOthers [] (told_on (policy settings true) list)
  pub told : (run_of (policy settings true) list).value.events ≡ []

-- an endpoint of a channel of objects
abbrev pub IsOfObjects : Settings → List channels.Occurrence → ℕ → Type 0
IsOfObjects settings list own = (peer : ℕ) × IsOf (channel_by object_psm own peer) (read_at own (reading (run_of (policy settings true) list).said).entries)

module _ (settings : Settings) (content : Option Contents) (all : List channels.Occurrence) (read : ReadsLink settings all) where
  abbrev rules : Policy
  rules = policy settings true

  abbrev B : Profile ServerProfile
  B = server_profile settings content

  abbrev asks : Asks (server_profile settings content)
  asks = hosts_ask.servers settings content

  abbrev told_at : List channels.Occurrence → List Tiding
  told_at front = told_on (policy settings true) front

  -- what stands behind a front of what happened
  pub record Standing (front : List channels.Occurrence) (p : ServerProfile) (rs : List (List ℕ)) (m : ℕ) : Type 0 where
    pub current : IsCurrent (told_on (policy settings true) front)
    pub alone : (own : ℕ) → IsAlone (told_on (policy settings true) front) own
    pub rs_is : rs ≡ packets (told_on (policy settings true) front)
    pub counts : (own : ℕ) → IsOfObjects settings all own → took settings own front ≤ most_at settings (told_on (policy settings true) front) m own
    pub opens : Open object_psm settings content front p
    pub brought : AllEndpoints (HasBrought (told_on (policy settings true) front)) p.endpoints

  -- ---- one thing more

  value_at : (front : List channels.Occurrence) (v : Channels) → v ≡ (run_of rules front).value → values_after rules no_channels front ≡ v
  value_at front v at = value_behind rules [] front no_channels refl ∙ sym at

  module _ (front later : List channels.Occurrence) (strand : Strand) (v : Channels) (p : ServerProfile) (is : all ≡ front ++ (strand_list (server_profile settings content) (hosts_ask.servers settings content) strand v p ++ later)) (at : v ≡ (run_of (policy settings true) front).value) where
    abbrev list : List channels.Occurrence
    list = strand_list (server_profile settings content) (hosts_ask.servers settings content) strand v p

    -- what is told with it comes so
    each_with : (P : List Tiding → Tiding → Type 0) → EachAfter P [] (told_on rules all) → EachAfter P (told_at front) (tidings_from rules v list)
    each_with P each =
        let w = values_after rules no_channels front in
        let here = tidings_from rules w list in
        let rest = tidings_from rules (values_after rules w list) later in
        let told_is : told_on rules all ≡ told_at front ++ (here ++ rest) =
        ap (told_on rules) is ∙ (tidings-append rules no_channels front (list ++ later) ∙ ap (λ (l : List Tiding). told_at front ++ l) (tidings-append rules w list later)) in
        subst (λ (u : Channels). EachAfter P (told_at front) (tidings_from rules u list)) (value_at front v at) (each_split P (told_at front) here rest (each_split P [] (told_at front) (here ++ rest) (subst (EachAfter P []) told_is each)).1).0

    follows_with : EachAfter FollowsOthers (told_at front) (tidings_from rules v list)
    follows_with = each_with FollowsOthers read.behind

    opens_with : EachAfter BringsOpen (told_at front) (tidings_from rules v list)
    opens_with = each_with BringsOpen (opens_on rules all [] (told_on rules all) refl)

    took_more : (own : ℕ) → took settings own (front ++ list) ≡ took settings own front + length (filter_map said (takes_from rules own v list))
    took_more own =
        ap (λ (l : List (List ℕ)). length (filter_map said l))
        (takes_of rules own (front ++ list)
        ∙ (takes_both rules own front list no_channels ∙ ap₂ (λ (a b : List (List ℕ)). a ++ b) (sym (takes_of rules own front)) (ap (λ (w : Channels). takes_from rules own w list) (value_at front v at))))
        ∙ (ap length (filter_map-append said (taken_of rules own front) (takes_from rules own v list)) ∙ length-append (filter_map said (taken_of rules own front)) (filter_map said (takes_from rules own v list)))

    moved : (rs rs' : List (List ℕ)) (m m' : ℕ) (more : List Tiding) → tidings_from rules v list ≡ more → Standing front p rs m → rs' ≡ states rs (all_served more) → NewWith settings content (HasBrought (told_at front ++ more)) strand v
        → ((own : ℕ) → IsOfObjects settings all own → took settings own front + length (filter_map said (takes_from rules own v list)) ≤ most_at settings (told_at front ++ more) m' own) → Standing (front ++ list) (strand_profile B strand v p) rs' m'
    moved rs rs' m m' more more_is st same new counts =
        let T = told_at front in
        let told_is : told_at (front ++ list) ≡ T ++ more = tidings-append rules no_channels front list ∙ ap (λ (l : List Tiding). T ++ l) (ap (λ (w : Channels). tidings_from rules w list) (value_at front v at) ∙ more_is) in
        let follows = subst (EachAfter FollowsOthers T) more_is follows_with in
        let opens = subst (EachAfter BringsOpen T) more_is opens_with in
        let still = subst (AllByRecursion NoTurn) more_is (no_turns rules v list) in
        record {
          current = subst IsCurrent (sym told_is) (current-on T more follows opens still st.current);
          alone = λ own. subst (λ (t : List Tiding). IsAlone t own) (sym told_is) (alone-on own T more follows still (st.alone own));
          rs_is = same ∙ (ap (λ (l : List (List ℕ)). states l (all_served more)) st.rs_is ∙ (sym (packets-on T more) ∙ ap packets (sym told_is)));
          counts = λ own object. let few = counts own object in let grown = took_more own in subst (λ (t : List Tiding). took settings own (front ++ list) ≤ most_at settings t m' own) (sym told_is) (omega (arith, few, grown));
          opens = strand_open object_psm settings content front strand v p at st.opens;
          brought = subst (λ (t : List Tiding). AllEndpoints (HasBrought t) (strand_profile B strand v p).endpoints) (sym told_is)
              (strand-kept settings content (HasBrought (T ++ more)) strand v p new (all_mapped (HasBrought T) (HasBrought (T ++ more)) p.endpoints (λ endpoint brought. brought-on T more endpoint brought) st.brought));
        }

    -- where nothing is taken
    told_so : (rs rs' : List (List ℕ)) (m m' : ℕ) (more : List Tiding) → tidings_from rules v list ≡ more → ((own : ℕ) → takes_from rules own v list ≡ []) → Standing front p rs m → rs' ≡ states rs (all_served more) → NewWith settings content (HasBrought (told_at front ++ more)) strand v
        → ((own : ℕ) → most_at settings (told_at front) m own ≤ most_at settings (told_at front ++ more) m' own) → Standing (front ++ list) (strand_profile B strand v p) rs' m'
    told_so rs rs' m m' more more_is none st same new grows = moved rs rs' m m' more more_is st same new counts
      where
        counts : (own : ℕ) → IsOfObjects settings all own → took settings own front + length (filter_map said (takes_from rules own v list)) ≤ most_at settings (told_at front ++ more) m' own
        counts own object =
            let none_is = ap (λ (l : List (List ℕ)). length (filter_map said l)) (none own) in
            let few = st.counts own object in
            let grown = grows own in
            omega (arith, none_is, few, grown)

    rests : (rs : List (List ℕ)) (m : ℕ) → tidings_from rules v list ≡ [] → ((own : ℕ) → takes_from rules own v list ≡ []) → NewWith settings content (HasBrought (told_at front ++ [])) strand v → Standing front p rs m → Standing (front ++ list) (strand_profile B strand v p) rs m
    rests rs m more_is none new st = told_so rs rs m m [] more_is none st refl new (λ own. most-on settings (told_at front) [] m own refl)

  -- ---- a channel of objects

  object_at : (front later : List channels.Occurrence) (own : ℕ) → all ≡ front ++ later → Opened (run_of rules front).said object_psm own → IsOfObjects settings all own
  object_at front later own is opened =
      let there = subst (λ (l : List channels.Occurrence). Opened (run_of rules l).said object_psm own) (sym is) (opened-stays rules front later object_psm own opened) in
      (there.0, is_of (channel_by object_psm own there.0) (read_at own (reading (run_of rules all).said).entries) there.1)

  psm_at : (front later : List channels.Occurrence) (psm own : ℕ) → all ≡ front ++ later → Opened (run_of rules front).said psm own → IsOfObjects settings all own → psm ≡ object_psm
  psm_at front later psm own is opened object =
      let there = subst (λ (l : List channels.Occurrence). Opened (run_of rules l).said psm own) (sym is) (opened-stays rules front later psm own opened) in
      let entries = (reading (run_of rules all).said).entries in
      ap (λ (c : Channel). c.psm) (one_of (channel_by psm own there.0) (channel_by object_psm own object.0) (read_at own entries) (is_of (channel_by psm own there.0) (read_at own entries) there.1) object.1)

  -- ---- in turn

  module _ (G : Type 0) where
    -- so it goes on behind a front of what happened
    abbrev pub Later : List channels.Occurrence → ServerProfile → List Occurrence → Type 0
    Later front p rest = (rs : List (List ℕ)) (m : ℕ) → Standing front p rs m → Proceeds settings G rs m rest

    -- ---- an SDU comes

    module _ (front later : List channels.Occurrence) (pdu : List ℕ) (v : Channels) (p : ServerProfile) (is : all ≡ front ++ Comes pdu ∷ later) (at : v ≡ (run_of (policy settings true) front).value) where
      abbrev T : List Tiding
      T = told_on (policy settings true) front

      tidings_is : (brought : Handed) → up (channel_of pdu) pdu v ≡ brought → tidings_from rules v (Comes pdu ∷ []) ≡ brought_by brought
      tidings_is Nothing brings = ap (λ (u : Handed). (brought_by u ++ []) ++ []) brings
      tidings_is (Received from psm sdu) brings = ap (λ (u : Handed). (brought_by u ++ []) ++ []) brings

      comes_behind : (from psm : ℕ) (sdu : List ℕ) (rs : List (List ℕ)) (m : ℕ) → up (channel_of pdu) pdu v ≡ Received from psm sdu → Standing front p rs m → MayAsk settings rs m (Came psm sdu)
      comes_behind from psm sdu rs m brings st object loud =
          let brought : up (channel_of pdu) pdu (run_of rules front).value ≡ Received from object_psm sdu = ap (λ (w : Channels). up (channel_of pdu) pdu w) (sym at) ∙ (brings ∙ ap (λ (k : ℕ). Received from k sdu) object) in
          let opened : Opened (run_of rules front).said object_psm from = subst (OpenedUp (run_of rules front).said) brought (opened-up rules front (Comes pdu)) in
          let there = object_at front (Comes pdu ∷ later) from is opened in
          let told = tidings_is (Received from psm sdu) brings in
          let others : OthersAreOver from T = (subst (EachAfter FollowsOthers T) told (follows_with front later (Hearing pdu) v p is at)).0 object in
          let open' : is_object_over from T ≡ false = (subst (EachAfter BringsOpen T) told (opens_with front later (Hearing pdu) v p is at)).0 in
          let entries = (reading (run_of rules front).said).entries in
          let same : rs ≡ sdus_up from (run_of rules front).up =
          st.rs_is
          ∙ (st.current from others open'
          ∙ (told-same entries from opened.0 (is_of (channel_by object_psm from opened.0) (read_at from entries) opened.1) T (channels-are_named rules front) ∙ sym (sdus_run rules from front))) in
          let behind = behind-responses settings all read.talk read.outs read.said_is read.go_out read.uttered read.answered (channel_by object_psm from there.0) refl there.1 front later pdu sdu is brought
          (subst (λ (l : List (List ℕ)). is_silent (session_behind (fresh_session settings) l) sdu ≡ false) same loud) in
          let counted : took settings from front ≤ most_by settings false (object_sdus_told from T) m = subst (λ (b : Bool). took settings from front ≤ most_by settings b (object_sdus_told from T) m) open' (st.counts from there) in
          let few = most-few settings (object_sdus_told from T) m in
          let due = ap (responses_due settings) same in
          omega (arith, behind, counted, few, due)

      hears : (brought : Handed) (rest : List Occurrence) → up (channel_of pdu) pdu v ≡ brought → Later (front ++ Comes pdu ∷ []) (strand_profile B (Hearing pdu) v p) rest → Later front p (served_from settings content p (feeds_up brought) ++ rest)
      hears Nothing rest brings next rs m st = next rs m (rests front later (Hearing pdu) v p is at rs m (tidings_is Nothing brings) (λ own. refl) (subst (NewUp settings content (HasBrought (T ++ []))) (sym brings) tt) st)
      hears (Received from psm sdu) rest brings next rs m st = λ few. (
        comes_behind from psm sdu rs m brings st,
        next (state rs (Came psm sdu)) m
            (told_so front later (Hearing pdu) v p is at rs (state rs (Came psm sdu)) m m (Brings from psm sdu ∷ []) (tidings_is (Received from psm sdu) brings) (λ own. refl) st refl
            (subst (NewUp settings content (HasBrought (T ++ Brings from psm sdu ∷ []))) (sym brings) (brought-now T from psm sdu)) (λ own. most-on settings T (Brings from psm sdu ∷ []) m own refl)),
      )

    -- ---- something is told

    module _ (front later : List channels.Occurrence) (v : Channels) (p : ServerProfile) (rest : List Occurrence) (is : all ≡ front ++ Tells ∷ later) (at : v ≡ (run_of (policy settings true) front).value)
        (next : Later (front ++ Tells ∷ []) (strand_profile (server_profile settings content) Telling v p) rest) where
      abbrev U : List Tiding
      U = told_on (policy settings true) front

      next_told : (found : List ChannelEvent) → v.events ≡ found → tidings_from rules v (Tells ∷ []) ≡ map TellsIt (option_to_list (slice_get found 0)) ++ []
      next_told found waits = ap (λ (l : List ChannelEvent). map TellsIt (option_to_list (slice_get l 0)) ++ []) waits

      module _ (event : ChannelEvent) (found : List ChannelEvent) (waits : v.events ≡ event ∷ found) (rs : List (List ℕ)) (m : ℕ) (st : Standing front p rs m) where
        so : (rs' : List (List ℕ)) (m' : ℕ) → rs' ≡ states rs (event_served event ++ []) → ((own : ℕ) → most_at settings U m own ≤ most_at settings (U ++ TellsIt event ∷ []) m' own) → Proceeds settings G rs' m' rest
        so rs' m' same grows = next rs' m' (told_so front later Telling v p is at rs rs' m m' (TellsIt event ∷ []) (next_told (event ∷ found) waits) (λ own. refl) st same tt grows)

        still : event_served event ≡ [] → ((own : ℕ) → ends_objects own event ≡ false) → Proceeds settings G rs m rest
        still none ends = so rs m (ap (λ (l : List Occurrence). states rs (l ++ [])) (sym none)) (λ own. most-on settings U (TellsIt event ∷ []) m own (ap (λ (b : Bool). b || false) (ends own)))

      closes : (own psm : ℕ) (reason : CloseReason) (found : List ChannelEvent) (waits : v.events ≡ events.Closed own psm reason ∷ found) (rs : List (List ℕ)) (m : ℕ) → Standing front p rs m → (object told : Bool) → eqb psm object_psm ≡ object → is_told reason ≡ told
          → Proceeds settings G rs m ((cond told (Closed psm ∷ []) [] ++ []) ++ rest)
      closes own psm reason found waits rs m st object false o t = still (events.Closed own psm reason) found waits rs m st (ap (λ (b : Bool). cond b (Closed psm ∷ []) []) t) (λ n. ap₂ (λ (a b : Bool). eqb own n && (a && b)) o t ∙ by (eqb own n) object)
        where
          by : (a b : Bool) → (a && (b && false)) ≡ false
          by true true = refl
          by true false = refl
          by false b = refl
      closes own psm reason found waits rs m st false true o t = λ few. (
        tt,
        so (events.Closed own psm reason) found waits rs m st (state rs (Closed psm)) (went m (Closed psm)) (ap (λ (b : Bool). states rs (cond b (Closed psm ∷ []) [] ++ [])) (sym t))
            (λ n.
            subst (λ (k : ℕ). most_at settings U m n ≤ most_at settings (U ++ TellsIt (events.Closed own psm reason) ∷ []) k n) (sym (ap (λ (b : Bool). cond b 0 m) o))
            (most-on settings U (TellsIt (events.Closed own psm reason) ∷ []) m n (ap₂ (λ (a b : Bool). (eqb own n && (a && b)) || false) o t ∙ by (eqb own n)))),
      )
        where
          by : (a : Bool) → ((a && (false && true)) || false) ≡ false
          by true = refl
          by false = refl
      closes own psm reason found waits rs m st true true o t = λ few. (
        tt,
        so (events.Closed own psm reason) found waits rs m st (state rs (Closed psm)) (went m (Closed psm)) (ap (λ (b : Bool). states rs (cond b (Closed psm ∷ []) [] ++ [])) (sym t))
            (λ n.
            subst (λ (k : ℕ). most_at settings U m n ≤ most_at settings (U ++ TellsIt (events.Closed own psm reason) ∷ []) k n) (sym (ap (λ (b : Bool). cond b 0 m) o))
            (most-closed settings U own psm reason m o t (subst (λ (l : List (List ℕ)). m ≤ responses_due settings l) st.rs_is few) st.current
            ((subst (EachAfter FollowsOthers U) (next_told (events.Closed own psm reason ∷ found) waits) (follows_with front later Telling v p is at)).0 (eqb-true psm object_psm o)) n)),
      )

      tells : (found : List ChannelEvent) → v.events ≡ found → Later front p (served_from settings content p (next_happening found v) ++ rest)
      tells [] waits rs m st = next rs m (rests front later Telling v p is at rs m (next_told [] waits) (λ own. refl) tt st)
      tells (events.Opened own psm ∷ found) waits rs m st = still (events.Opened own psm) found waits rs m st refl (λ n. refl)
      tells (events.Closed own psm reason ∷ found) waits rs m st = closes own psm reason found waits rs m st (eqb psm object_psm) (is_told reason) refl refl
      tells (events.Features features ∷ found) waits rs m st = still (events.Features features) found waits rs m st refl (λ n. refl)
      tells (events.FeaturesLost ∷ found) waits rs m st = still events.FeaturesLost found waits rs m st refl (λ n. refl)
      tells (events.DisconnectLost own ∷ found) waits rs m st = still (events.DisconnectLost own) found waits rs m st refl (λ n. refl)

    -- ---- the server takes a step

    module _ (front later : List channels.Occurrence) (v : Channels) (p : ServerProfile) (rest : List Occurrence) (is : all ≡ front ++ (strand_list (server_profile settings content) (hosts_ask.servers settings content) Stepping v p ++ later)) (at : v ≡ (run_of (policy settings true) front).value)
        (next : Later (front ++ strand_list (server_profile settings content) (hosts_ask.servers settings content) Stepping v p) (strand_profile (server_profile settings content) Stepping v p) rest) (rs : List (List ℕ)) (m : ℕ) (st : Standing front p rs m) where
      abbrev V : List Tiding
      V = told_on (policy settings true) front

      call_tells : (call : Option Call) → tidings_from rules v (from_call call) ≡ []
      call_tells None = refl
      call_tells (Some (Connect psm)) = refl
      call_tells (Some AskFeatures) = refl
      call_tells (Some (Disconnect own)) = refl
      call_tells (Some (Send own sdu)) = refl

      calls : (call : Option Call) (k : ℕ) → asks.call v p ≡ call → ((own : ℕ) → IsOfObjects settings all own → took settings own front + length (filter_map said (takes_from rules own v (from_call call))) ≤ most_at settings V k own) → Proceeds settings G rs k rest
      calls call k asked counts =
          next rs k
          (moved front later Stepping v p is at rs rs m k [] (call_tells (asks.call v p)) st refl tt
          (λ own object.
          let few = subst (λ (c : Option Call). took settings own front + length (filter_map said (takes_from rules own v (from_call c))) ≤ most_at settings V k own) (sym asked) (counts own object) in
          let grown = most-on settings V [] k own refl in
          omega (arith, few, grown)))

      none : asks.call v p ≡ None → Proceeds settings G rs m rest
      none asked = calls None m asked (λ own object. let few = st.counts own object in omega (arith, few))

      -- at an endpoint that has brought a request and is not over
      all_count : (own k : ℕ) (over : Bool) (requests : List (List ℕ)) → over ≡ false → (requests ≡ [] → ⊥) → most_by settings over requests k ≡ k
      all_count own k false [] open' some = absurd (some refl)
      all_count own k false (request ∷ requests) open' some = refl
      all_count own k true requests open' some = cc

      sent : (lent : Lent) (from : ℕ) → endpoint_of lent.psm p.endpoints ≡ Some from → takes_sdu from (sdu_of lent.payload) v ≡ true → (own : ℕ) → IsOfObjects settings all own
          → took settings own front + length (filter_map said (takes_from rules own v (from_call (Some (Send from (sdu_of lent.payload)))))) ≤ most_at settings V (went m (Went lent.psm (sdu_of lent.payload))) own
      sent lent from found takes own object = by (eqb from own) refl (is_free (carrier_at from v))
        where
          sdu : List ℕ
          sdu = sdu_of lent.payload

          more : ℕ
          more = length (gone (Went lent.psm (sdu_of lent.payload)))

          by : (here : Bool) → eqb from own ≡ here → (free : Bool) → took settings own front + length (filter_map said (cond (here && free) (sdu ∷ []) [] ++ [])) ≤ most_at settings V (m + more) own
          by false same free = let few = st.counts own object in let grown = most-more settings (is_object_over own V) (object_sdus_told own V) m more in omega (arith, few, grown)
          by true same false = let few = st.counts own object in let grown = most-more settings (is_object_over own V) (object_sdus_told own V) m more in omega (arith, few, grown)
          by true same true =
              let own_is : from ≡ own = eqb-true from own same in
              let opened : Opened (run_of rules front).said lent.psm own = subst (λ n. Opened (run_of rules front).said lent.psm n) own_is (endpoint_so (WasOpened object_psm settings content front) lent.psm from p.endpoints st.opens found) in
              let psm_is = psm_at front (strand_list B asks Stepping v p ++ later) lent.psm own is opened object in
              let brought : object_sdus_told own V ≡ [] → ⊥ = subst (λ n. object_sdus_told n V ≡ [] → ⊥) own_is (endpoint_so (HasBrought V) lent.psm from p.endpoints st.brought found psm_is) in
              let taken = is_taken from sdu v takes in
              let open' : is_object_over own V ≡ false = not_over rules front own taken.mtu (subst (λ (w : Channels). peer_mtu own w ≡ Some taken.mtu) at (subst (λ n. peer_mtu n v ≡ Some taken.mtu) own_is taken.mtu_is)) in
              let all_now = all_count own (m + more) (is_object_over own V) (object_sdus_told own V) open' brought in
              let all_before = all_count own m (is_object_over own V) (object_sdus_told own V) open' brought in
              let goes : more ≡ length (filter_map said (sdu ∷ [] ++ [])) = ap (λ (b : Bool). length (filter_map said (sdu_if b sdu))) (eq-eqb lent.psm object_psm psm_is) in
              let few = st.counts own object in
              omega (arith, all_now, all_before, goes, few)

      lends_next : (lent : Option Lent) → lent_sdu (lends p.server) ≡ lent → Proceeds settings G rs m ((lent_by lent v p ++ []) ++ rest)
      lends_next None lent_is = none (servers-call settings content v p ∙ ap (λ (l : Option Lent). lent_call l v p) lent_is)
      lends_next (Some lent) lent_is = on (endpoint_of lent.psm p.endpoints) refl
        where
          sdu : List ℕ
          sdu = sdu_of lent.payload

          called : asks.call v p ≡ lent_call (Some lent) v p
          called = servers-call settings content v p ∙ ap (λ (l : Option Lent). lent_call l v p) lent_is

          sends : (from : ℕ) (taken : Bool) → endpoint_of lent.psm p.endpoints ≡ Some from → takes_sdu from (sdu_of lent.payload) v ≡ taken → asks.call v p ≡ send_if taken from lent.payload
          sends from taken found takes = called ∙ (ap (λ (f : Option ℕ). sends_on v lent.payload f) found ∙ ap (λ (b : Bool). send_if b from lent.payload) takes)

          by : (from : ℕ) (taken : Bool) → endpoint_of lent.psm p.endpoints ≡ Some from → takes_sdu from (sdu_of lent.payload) v ≡ taken → Proceeds settings G rs m ((cond taken (Went lent.psm (sdu_of lent.payload) ∷ []) [] ++ []) ++ rest)
          by from false found takes = none (sends from false found takes)
          by from true found takes = λ few. (tt, calls (Some (Send from sdu)) (went m (Went lent.psm sdu)) (sends from true found takes) (sent lent from found takes))

          on : (found : Option ℕ) → endpoint_of lent.psm p.endpoints ≡ found → Proceeds settings G rs m ((taken_by found lent v ++ []) ++ rest)
          on None found = none (called ∙ ap (λ (f : Option ℕ). sends_on v lent.payload f) found)
          on (Some from) found = by from (takes_sdu from (sdu_of lent.payload) v) found refl

    -- ---- all of it

    news_proceed : (news : News) (rest : List Occurrence) (rs : List (List ℕ)) (m : ℕ) → tidings_by news ≡ [] → Proceeds settings G rs m rest → Proceeds settings G rs m ((news_served news ++ []) ++ rest)
    news_proceed (Linked event) rest rs m none next = cc
    news_proceed (Failed status) rest rs m none next = next
    news_proceed (Heard pdu) rest rs m none next = next
    news_proceed TimerFired rest rs m none next = next
    news_proceed Cancelled rest rs m none next = next
    news_proceed (Opening name) rest rs m none next = next

    strand_later : (front later : List channels.Occurrence) (strand : Strand) (v : Channels) (p : ServerProfile) (rest : List Occurrence) → all ≡ front ++ (strand_list B asks strand v p ++ later) → v ≡ (run_of rules front).value → IsOnLink strand
        → Later (front ++ strand_list B asks strand v p) (strand_profile B strand v p) rest → Later front p (served_from settings content p (strand_feeds strand v) ++ rest)
    strand_later front later (Hearing pdu) v p rest is at on next = hears front later pdu v p is at (up (channel_of pdu) pdu v) rest refl next
    strand_later front later (Giving pdu) v p rest is at on next = λ rs m st. next rs m (rests front later (Giving pdu) v p is at rs m refl (λ own. refl) tt st)
    strand_later front later Firing v p rest is at on next = λ rs m st. next rs m (rests front later Firing v p is at rs m refl (λ own. refl) tt st)
    strand_later front later Telling v p rest is at on next = tells front later v p rest is at next v.events refl
    strand_later front later (Gifting circumstances) v p rest is at on next = λ rs m st few. (tt, next rs m (rests front later (Gifting circumstances) v p is at rs m refl (λ own. refl) tt st))
    strand_later front later (Learning circumstances news) v p rest is at on next = λ rs m st. news_proceed news rest rs m on (next rs m (rests front later (Learning circumstances news) v p is at rs m refl (λ own. refl) tt st))
    strand_later front later Checking v p rest is at on next = λ rs m st. next rs m (rests front later Checking v p is at rs m refl (λ own. refl) tt st)
    strand_later front later Stepping v p rest is at on next = λ rs m st few. (tt, lends_next front later v p rest is at next rs m st (lent_sdu (lends p.server)) refl)

    pub weave-later : (weave : List Strand) (front : List channels.Occurrence) (v : Channels) (p : ServerProfile) (rest : List Occurrence) → all ≡ front ++ woven_list (server_profile settings content) (hosts_ask.servers settings content) weave v p → v ≡ (run_of (policy settings true) front).value
        → AllByRecursion IsOnLink weave → ((q : ServerProfile) → Later all q rest) → Later front p (served_from settings content p (woven_feeds (server_profile settings content) (hosts_ask.servers settings content) weave v p) ++ rest)
    weave-later [] front v p rest is at on last = subst (λ (l : List channels.Occurrence). Later l p rest) (is ∙ append-nil front) (last p)
    weave-later (strand ∷ weave) front v p rest is at on last =
        let list = strand_list B asks strand v p in
        let w = values_after rules v list in
        let q = strand_profile B strand v p in
        let more = woven_list B asks weave w q in
        let S = served_from settings content p (strand_feeds strand v) in
        let R = served_from settings content q (woven_feeds B asks weave w q) in
        let next = weave-later weave (front ++ list) w q rest (is ∙ sym (append_assoc front list more)) (value_behind rules front list v at) on.1 last in
        subst (Later front p)
        (sym (ap (λ (l : List Occurrence). l ++ rest) (served-both settings content (strand_feeds strand v) (woven_feeds B asks weave w q) p ∙ ap (λ (x : ServerProfile). S ++ served_from settings content x (woven_feeds B asks weave w q)) (strand_so B asks strand v p)) ∙ append_assoc S R rest))
        (strand_later front more strand v p (R ++ rest) is at on.0 next)
