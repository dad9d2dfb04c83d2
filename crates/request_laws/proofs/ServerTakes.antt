-- What goes from a server on the one channel of a PSM is what its end of that channel takes.
use Rattle.std.proofs.Common.{◌≡◌, ℕ, List, [], ◌∷◌, ◌++◌, fold, Bool, true, false, cond, eqb, ◌&&◌, Option, Some, None, refl, sym, ap, ap₂, subst, ◌∙◌, append_assoc}
use Rattle.std.specs.List.{AllByRecursion, flat_map}
use Rattle.pair_laws.specs.acl_fragments.specs.Pieces.{channel_of}
use Rattle.pair_laws.specs.bt_base.specs.declared.settings.Settings.{Settings}
use Rattle.pair_laws.specs.bt_base.specs.Objects.{Contents}
use Rattle.pair_laws.specs.link_talk.specs.Sayings.{Saying}
use Rattle.pair_laws.specs.channel_model.specs.declared.event.ChannelEvent.{ChannelEvent}
use Rattle.pair_laws.specs.channel_model.specs.declared.event.ChannelEvent.TheVariants as events
use Rattle.pair_laws.specs.channel_model.specs.Calls.{carrier_at, sends}
use Rattle.pair_laws.specs.channel_model.specs.Carrying.{Up as Handed, Nothing, Received}
use Rattle.pair_laws.specs.channel_model.specs.Hearing.{up}
use Rattle.pair_laws.specs.channel_model.specs.Policies.{Policy, policy}
use Rattle.pair_laws.specs.channel_model.specs.Value.{Channels, no_channels}
use Rattle.pair_laws.specs.channel_laws.specs.Runs.{Occurrence, Comes, Connects, AsksFeatures, Disconnects, Sends, Gives, Fires, Tells, said_in, value_after, Run, new_link, run_on, run_of}
use Rattle.pair_laws.specs.channel_laws.specs.Taken.{is_free, taken_of}
use Rattle.pair_laws.specs.push_model.specs.Server.{Server, Lent, lends, lent_sdu}
use Rattle.pair_laws.specs.push_model.specs.Server as push
use Rattle.pair_laws.specs.push_laws.specs.Occurrences as served
use Rattle.pair_laws.specs.push_laws.specs.Parties.{sdu_if}
use Rattle.pair_laws.specs.world_model.specs.Machines.{News, Linked, Up, Down, Failed, Heard, TimerFired, Cancelled, Opening}
use Rattle.pair_laws.specs.host_model.specs.Circumstances.{Circumstance}
use Rattle.pair_laws.specs.host_model.specs.Endpoints.{Endpoint, endpoint_of, takes_sdu}
use Rattle.pair_laws.specs.host_model.specs.Hosts.{handed}
use Rattle.pair_laws.specs.host_model.specs.Pdus.{sdu_of}
use Rattle.pair_laws.specs.host_model.specs.Servers.{ServerProfile, is_told, submits, takes, server_profile}
use Rattle.pair_laws.specs.host_model.specs.Servers as profile
use Rattle.pair_laws.specs.host_laws.specs.Calls.{from_call, values_after}
use Rattle.pair_laws.specs.host_laws.specs.Fed.{feeds_up, next_happening, strand_feeds}
use Rattle.pair_laws.specs.host_laws.specs.GainingOver.{IsNoPdu}
use Rattle.pair_laws.specs.host_laws.specs.Serving.{news_served, taken_by, lent_by, served_from}
use Rattle.pair_laws.specs.host_laws.specs.Woven.{Strand, Hearing, Giving, Firing, Telling, Gifting, Learning, Checking, Stepping, told_next, strand_list, strand_profile, woven_list}
use Rattle.pair_laws.specs.host_laws.proofs.Asking.{send_if, sends_on, lent_call, hosts_ask, servers-call}
use Rattle.request_laws.specs.Streams.{gone_on}
use Rattle.request_laws.proofs.Accepted.{Opened, opened-stays, OpenedUp, opened-up, up-stays}
use Rattle.request_laws.proofs.Feeding.{all_ahead}
use Rattle.request_laws.proofs.Takes.{takes_from, takes_both, takes_of, value_behind, is_taken, AllEndpoints, with_new, all_mapped, endpoint_so}

module _ (carrier : ℕ) (settings : Settings) (content : Option Contents) where
  abbrev own : Policy
  own = policy settings true

  abbrev list_of : Strand → Channels → ServerProfile → List Occurrence
  list_of strand v p = strand_list (server_profile settings content) (hosts_ask.servers settings content) strand v p

  abbrev next_of : Strand → Channels → ServerProfile → ServerProfile
  next_of strand v p = strand_profile (server_profile settings content) strand v p

  -- ---- the endpoints of a server

  -- it brought an SDU, so its channel is one of the talk
  abbrev pub WasOpened : List Occurrence → Endpoint → Type 0
  WasOpened front endpoint = Opened (run_of (policy settings true) front).said endpoint.psm endpoint.own

  abbrev pub Open : List Occurrence → ServerProfile → Type 0
  Open front p = AllEndpoints (WasOpened front) p.endpoints

  later_open : (front here : List Occurrence) (p : ServerProfile) → Open front p → Open (front ++ here) p
  later_open front here p all = all_mapped (WasOpened front) (WasOpened (front ++ here)) p.endpoints (λ e opened. opened-stays own front here e.psm e.own opened) all

  handed_open : (front : List Occurrence) (brought : Handed) (p : ServerProfile) → OpenedUp (run_of own front).said brought → Open front p → Open front (handed (server_profile settings content) brought p)
  handed_open front Nothing p opened all = all
  handed_open front (Received at psm sdu) p opened all = with_new (WasOpened front) psm at p.endpoints opened all

  next_open : (front : List Occurrence) (found : List ChannelEvent) (v : Channels) (p : ServerProfile) → Open front p → Open front (told_next (server_profile settings content) found v p)
  next_open front [] v p all = all
  next_open front (events.Opened at psm ∷ found) v p all = all
  next_open front (events.Closed at psm reason ∷ found) v p all = by (is_told reason)
    where
      by : (told' : Bool) → Open front (cond told' (profile.reacts (push.channel_down psm p.server p.inbox) p) p)
      by true = all
      by false = all
  next_open front (events.Features features ∷ found) v p all = all
  next_open front (events.FeaturesLost ∷ found) v p all = all
  next_open front (events.DisconnectLost at ∷ found) v p all = all

  news_open : (front : List Occurrence) (circumstances : List Circumstance) (news : News) (p : ServerProfile) → Open front p → Open front (profile.told circumstances news p)
  news_open front circumstances (Linked Up) p all = tt
  news_open front circumstances (Linked (Down reason)) p all = tt
  news_open front circumstances (Failed status) p all = all
  news_open front circumstances (Heard pdu) p all = all
  news_open front circumstances TimerFired p all = all
  news_open front circumstances Cancelled p all = all
  news_open front circumstances (Opening name) p all = all

  submits_open : (front : List Occurrence) (found : Option ℕ) (lent : Lent) (v : Channels) (server : Server) (p : ServerProfile) → Open front p → Open front (submits found lent v server p).profile
  submits_open front None lent v server p all = all
  submits_open front (Some at) lent v server p all = by (takes_sdu at (sdu_of lent.payload) v)
    where
      by : (taken : Bool) → Open front (cond taken (record { channels = sends at (sdu_of lent.payload) v; profile = record p { server = push.stepped server }; more = true }) (profile.waiting v server p)).profile
      by true = all
      by false = all

  takes_open : (front : List Occurrence) (lent : Option Lent) (v : Channels) (server : Server) (p : ServerProfile) → Open front p → Open front (takes lent v server p).profile
  takes_open front None v server p all = all
  takes_open front (Some lent) v server p all = submits_open front (endpoint_of lent.psm p.endpoints) lent v server p all

  pub strand_open : (front : List Occurrence) (strand : Strand) (v : Channels) (p : ServerProfile) → v ≡ (run_of own front).value → Open front p → Open (front ++ list_of strand v p) (next_of strand v p)
  strand_open front (Hearing pdu) v p at all =
      handed_open (front ++ Comes pdu ∷ []) (up (channel_of pdu) pdu v) p
      (up-stays own front (Comes pdu ∷ []) (up (channel_of pdu) pdu v) (subst (λ (w : Channels). OpenedUp (run_of own front).said (up (channel_of pdu) pdu w)) (sym at) (opened-up own front (Comes pdu))))
      (later_open front (Comes pdu ∷ []) p all)
  strand_open front (Giving pdu) v p at all = later_open front (Gives pdu ∷ []) p all
  strand_open front Firing v p at all = later_open front (Fires ∷ []) p all
  strand_open front Telling v p at all = next_open (front ++ Tells ∷ []) v.events v p (later_open front (Tells ∷ []) p all)
  strand_open front (Gifting circumstances) v p at all = later_open front [] p all
  strand_open front (Learning circumstances news) v p at all = news_open (front ++ []) circumstances news p (later_open front [] p all)
  strand_open front Checking v p at all = later_open front [] p all
  strand_open front Stepping v p at all =
      let here = list_of Stepping v p in
      takes_open (front ++ here) (lent_sdu (lends p.server)) v (lends p.server) p (later_open front here p all)

  -- ---- what goes with one thing

  -- at an endpoint of the talk the PSM is that of the object where the endpoint is this one
  abbrev pub Sure : List Occurrence → ℕ → Type 0
  Sure all here = (psm at : ℕ) → Opened (run_of (policy settings true) all).said psm at → eqb psm carrier ≡ eqb at here

  abbrev pub gone_in : List served.Occurrence → List (List ℕ)
  gone_in occurrences = flat_map (gone_on carrier) occurrences

  abbrev pub goes_by : Strand → Channels → ServerProfile → List (List ℕ)
  goes_by strand v p = flat_map (gone_on carrier) (served_from settings content p (strand_feeds strand v))

  up_goes : (brought : Handed) (p : ServerProfile) → gone_in (served_from settings content p (feeds_up brought)) ≡ []
  up_goes Nothing p = refl
  up_goes (Received at psm sdu) p = refl

  pub told_goes : (found : List ChannelEvent) (v : Channels) (p : ServerProfile) → gone_in (served_from settings content p (next_happening found v)) ≡ []
  told_goes [] v p = refl
  told_goes (events.Opened at psm ∷ found) v p = refl
  told_goes (events.Closed at psm reason ∷ found) v p = by (is_told reason)
    where
      by : (told' : Bool) → gone_in (cond told' (served.Closed psm ∷ []) [] ++ []) ≡ []
      by true = refl
      by false = refl
  told_goes (events.Features features ∷ found) v p = refl
  told_goes (events.FeaturesLost ∷ found) v p = refl
  told_goes (events.DisconnectLost at ∷ found) v p = refl

  pub news_go : (news : News) → gone_in (news_served news ++ []) ≡ []
  news_go (Linked Up) = refl
  news_go (Linked (Down reason)) = refl
  news_go (Failed status) = refl
  news_go (Heard pdu) = refl
  news_go TimerFired = refl
  news_go Cancelled = refl
  news_go (Opening name) = refl

  both_if : (one two free : Bool) (sdu : List ℕ) → one ≡ two → free ≡ true → sdu_if one sdu ++ [] ≡ cond (two && free) (sdu ∷ []) [] ++ []
  both_if true true true sdu same is = refl
  both_if false false true sdu same is = refl
  both_if true false true sdu same is = cc
  both_if false true true sdu same is = cc
  both_if one two false sdu same is = cc

  lent_goes : (front later : List Occurrence) (here : ℕ) (lent : Option Lent) (v : Channels) (p : ServerProfile) → Open front p → Sure (front ++ later) here → gone_in (lent_by lent v p ++ []) ≡ takes_from own here v (from_call (lent_call lent v p))
  lent_goes front later here None v p all sure = refl
  lent_goes front later here (Some lent) v p all sure = on (endpoint_of lent.psm p.endpoints) refl
    where
      by : (at : ℕ) (taken : Bool) → endpoint_of lent.psm p.endpoints ≡ Some at → takes_sdu at (sdu_of lent.payload) v ≡ taken
          → gone_in (cond taken (served.Went lent.psm (sdu_of lent.payload) ∷ []) [] ++ []) ≡ takes_from own here v (from_call (send_if taken at lent.payload))
      by at false found is = refl
      by at true found is =
          let taken = is_taken at (sdu_of lent.payload) v is in
          let opened = endpoint_so (WasOpened front) lent.psm at p.endpoints all found in
          both_if (eqb lent.psm carrier) (eqb at here) (is_free (carrier_at at v)) (sdu_of lent.payload) (sure lent.psm at (opened-stays own front later lent.psm at opened)) taken.free

      on : (found : Option ℕ) → endpoint_of lent.psm p.endpoints ≡ found → gone_in (taken_by found lent v ++ []) ≡ takes_from own here v (from_call (sends_on v lent.payload found))
      on None found = refl
      on (Some at) found = by at (takes_sdu at (sdu_of lent.payload) v) found refl

  pub strand_goes : (front later : List Occurrence) (here : ℕ) (strand : Strand) (v : Channels) (p : ServerProfile) → Open front p → Sure (front ++ later) here → goes_by strand v p ≡ takes_from own here v (list_of strand v p)
  strand_goes front later here (Hearing pdu) v p all sure = up_goes (up (channel_of pdu) pdu v) p
  strand_goes front later here (Giving pdu) v p all sure = refl
  strand_goes front later here Firing v p all sure = refl
  strand_goes front later here Telling v p all sure = told_goes v.events v p
  strand_goes front later here (Gifting circumstances) v p all sure = refl
  strand_goes front later here (Learning circumstances news) v p all sure = news_go news
  strand_goes front later here Checking v p all sure = refl
  strand_goes front later here Stepping v p all sure =
      lent_goes front later here (lent_sdu (lends p.server)) v p all sure ∙ ap (λ call. takes_from own here v (from_call call)) (sym (servers-call settings content v p))

  -- ---- on a link

  abbrev pub went : List Strand → Channels → ServerProfile → List (List ℕ)
  went [] v p = []
  went (strand ∷ weave) v p =
      goes_by strand v p ++ went weave (values_after (server_profile settings content).policy v (strand_list (server_profile settings content) (hosts_ask.servers settings content) strand v p)) (strand_profile (server_profile settings content) strand v p)

  went_from : (here : ℕ) (weave : List Strand) (front : List Occurrence) (v : Channels) (p : ServerProfile) → v ≡ (run_of own front).value → Open front p → Sure (front ++ woven_list (server_profile settings content) (hosts_ask.servers settings content) weave v p) here
      → went weave v p ≡ takes_from own here v (woven_list (server_profile settings content) (hosts_ask.servers settings content) weave v p)
  went_from here [] front v p at all sure = refl
  went_from here (strand ∷ weave) front v p at all sure =
      let list = list_of strand v p in
      let w = values_after own v list in
      let q = next_of strand v p in
      let rest = woven_list (server_profile settings content) (hosts_ask.servers settings content) weave w q in
      ap₂ (λ (a b : List (List ℕ)). a ++ b) (strand_goes front (list ++ rest) here strand v p all sure)
      (went_from here weave (front ++ list) w q (value_behind own front list v at) (strand_open front strand v p at all) (subst (λ (l : List Occurrence). Sure l here) (sym (append_assoc front list rest)) sure))
      ∙ sym (takes_both own here list rest v)

  -- of a server that keeps no endpoint when the link comes up
  pub went-is : (here : ℕ) (weave : List Strand) (p : ServerProfile) → p.endpoints ≡ [] → Sure (woven_list (server_profile settings content) (hosts_ask.servers settings content) weave no_channels p) here
      → went weave no_channels p ≡ taken_of (policy settings true) here (woven_list (server_profile settings content) (hosts_ask.servers settings content) weave no_channels p)
  went-is here weave p none sure =
      went_from here weave [] no_channels p refl (subst (AllEndpoints (WasOpened [])) (sym none) tt) sure
      ∙ sym (takes_of own here (woven_list (server_profile settings content) (hosts_ask.servers settings content) weave no_channels p))

  -- ---- a link on which nothing came in

  -- it lets the channels be
  abbrev IsIdle : Occurrence → Type 0
  IsIdle (Comes pdu) = ⊥
  IsIdle (Connects psm) = ⊥
  IsIdle AsksFeatures = ⊥
  IsIdle (Disconnects at) = ⊥
  IsIdle (Sends at sdu) = ⊥
  IsIdle (Gives pdu) = Unit {0}
  IsIdle Fires = Unit {0}
  IsIdle Tells = Unit {0}

  idle_value : (one : Occurrence) → IsIdle one → value_after own one no_channels ≡ no_channels
  idle_value (Comes pdu) idle = absurd idle
  idle_value (Connects psm) idle = absurd idle
  idle_value AsksFeatures idle = absurd idle
  idle_value (Disconnects at) idle = absurd idle
  idle_value (Sends at sdu) idle = absurd idle
  idle_value (Gives pdu) idle = refl
  idle_value Fires idle = refl
  idle_value Tells idle = refl

  idle_says : (one : Occurrence) → IsIdle one → said_in own one no_channels ≡ []
  idle_says (Comes pdu) idle = absurd idle
  idle_says (Connects psm) idle = absurd idle
  idle_says AsksFeatures idle = absurd idle
  idle_says (Disconnects at) idle = absurd idle
  idle_says (Sends at sdu) idle = absurd idle
  idle_says (Gives pdu) idle = refl
  idle_says Fires idle = refl
  idle_says Tells idle = refl

  idle_run : (list : List Occurrence) (run : Run) → AllByRecursion IsIdle list → run.said ≡ [] → run.value ≡ no_channels → (fold (run_on own) run list).said ≡ []
  idle_run [] run idle none bare = none
  idle_run (one ∷ list) run idle none bare =
      idle_run list (run_on own run one) idle.1
      (ap₂ (λ (a b : List Saying). a ++ b) none (ap (λ (v : Channels). said_in own one v) bare ∙ idle_says one idle.0))
      (ap (λ (v : Channels). value_after own one v) bare ∙ idle_value one idle.0)

  bare_lent : (lent : Option Lent) (v : Channels) (p : ServerProfile) → p.endpoints ≡ [] → lent_call lent v p ≡ None
  bare_lent None v p none = refl
  bare_lent (Some lent) v p none = ap (λ (es : List Endpoint). sends_on v lent.payload (endpoint_of lent.psm es)) none

  bare_next : (found : List ChannelEvent) (v : Channels) (p : ServerProfile) → p.endpoints ≡ [] → (told_next (server_profile settings content) found v p).endpoints ≡ []
  bare_next [] v p none = none
  bare_next (events.Opened at psm ∷ found) v p none = none
  bare_next (events.Closed at psm reason ∷ found) v p none = by (is_told reason)
    where
      by : (told' : Bool) → (cond told' (profile.reacts (push.channel_down psm p.server p.inbox) p) p).endpoints ≡ []
      by true = none
      by false = none
  bare_next (events.Features features ∷ found) v p none = none
  bare_next (events.FeaturesLost ∷ found) v p none = none
  bare_next (events.DisconnectLost at ∷ found) v p none = none

  bare_news : (circumstances : List Circumstance) (news : News) (p : ServerProfile) → p.endpoints ≡ [] → (profile.told circumstances news p).endpoints ≡ []
  bare_news circumstances (Linked Up) p none = refl
  bare_news circumstances (Linked (Down reason)) p none = refl
  bare_news circumstances (Failed status) p none = none
  bare_news circumstances (Heard pdu) p none = none
  bare_news circumstances TimerFired p none = none
  bare_news circumstances Cancelled p none = none
  bare_news circumstances (Opening name) p none = none

  bare_submits : (found : Option ℕ) (lent : Lent) (v : Channels) (server : Server) (p : ServerProfile) → p.endpoints ≡ [] → (submits found lent v server p).profile.endpoints ≡ []
  bare_submits None lent v server p none = none
  bare_submits (Some at) lent v server p none = by (takes_sdu at (sdu_of lent.payload) v)
    where
      by : (taken : Bool) → (cond taken (record { channels = sends at (sdu_of lent.payload) v; profile = record p { server = push.stepped server }; more = true }) (profile.waiting v server p)).profile.endpoints ≡ []
      by true = none
      by false = none

  bare_takes : (lent : Option Lent) (v : Channels) (server : Server) (p : ServerProfile) → p.endpoints ≡ [] → (takes lent v server p).profile.endpoints ≡ []
  bare_takes None v server p none = none
  bare_takes (Some lent) v server p none = bare_submits (endpoint_of lent.psm p.endpoints) lent v server p none

  record IsBare (strand : Strand) (v : Channels) (p : ServerProfile) : Type 0 where
    idle : AllByRecursion IsIdle (list_of strand v p)
    none : (next_of strand v p).endpoints ≡ []

  bare_strand : (strand : Strand) (v : Channels) (p : ServerProfile) → p.endpoints ≡ [] → AllByRecursion IsNoPdu (list_of strand v p) → IsBare strand v p
  bare_strand (Hearing pdu) v p none still = absurd still.0
  bare_strand (Giving pdu) v p none still = record { idle = (tt, tt); none = none }
  bare_strand Firing v p none still = record { idle = (tt, tt); none = none }
  bare_strand Telling v p none still = record { idle = (tt, tt); none = bare_next v.events v p none }
  bare_strand (Gifting circumstances) v p none still = record { idle = tt; none = none }
  bare_strand (Learning circumstances news) v p none still = record { idle = tt; none = bare_news circumstances news p none }
  bare_strand Checking v p none still = record { idle = tt; none = none }
  bare_strand Stepping v p none still = record {
    idle = subst (λ call. AllByRecursion IsIdle (from_call call)) (sym (servers-call settings content v p ∙ bare_lent (lent_sdu (lends p.server)) v p none)) tt;
    none = bare_takes (lent_sdu (lends p.server)) v (lends p.server) p none;
  }

  idle_both : (xs ys : List Occurrence) → AllByRecursion IsIdle xs → AllByRecursion IsIdle ys → AllByRecursion IsIdle (xs ++ ys)
  idle_both [] ys one two = two
  idle_both (x ∷ xs) ys one two = (one.0, idle_both xs ys one.1 two)

  bare_weave : (weave : List Strand) (v : Channels) (p : ServerProfile) → p.endpoints ≡ [] → AllByRecursion IsNoPdu (woven_list (server_profile settings content) (hosts_ask.servers settings content) weave v p)
      → AllByRecursion IsIdle (woven_list (server_profile settings content) (hosts_ask.servers settings content) weave v p)
  bare_weave [] v p none still = tt
  bare_weave (strand ∷ weave) v p none still =
      let list = list_of strand v p in
      let w = values_after own v list in
      let q = next_of strand v p in
      let rest = woven_list (server_profile settings content) (hosts_ask.servers settings content) weave w q in
      let parts = all_ahead IsNoPdu list rest still in
      let here = bare_strand strand v p none parts.0 in
      idle_both list rest here.idle (bare_weave weave w q here.none parts.1)

  -- then nothing is said there
  pub none-said : (weave : List Strand) (p : ServerProfile) → p.endpoints ≡ [] → AllByRecursion IsNoPdu (woven_list (server_profile settings content) (hosts_ask.servers settings content) weave no_channels p)
      → (run_of (policy settings true) (woven_list (server_profile settings content) (hosts_ask.servers settings content) weave no_channels p)).said ≡ []
  none-said weave p none still = idle_run (woven_list (server_profile settings content) (hosts_ask.servers settings content) weave no_channels p) new_link (bare_weave weave no_channels p none still) refl refl
