-- What a server goes through on a link, and as the link turns.
use Rattle.std.proofs.Common.{◌≡◌, ℕ, ◌==◌, List, [], ◌∷◌, ◌++◌, Bool, true, false, cond, Option, Some, None, refl, sym, ap, subst, ◌∙◌, append_assoc, append-nil}
use Rattle.std.specs.List.{AllByRecursion, filter_map, cons_option}
use Rattle.std.proofs.lemmas.List.Elements.{filter_map-append}
use Rattle.inbox_laws.specs.bt_base.specs.declared.settings.Settings.{Settings}
use Rattle.inbox_laws.specs.bt_base.specs.Objects.{Contents}
use Rattle.inbox_laws.specs.rfcomm_frames.specs.Multiplexing.{Passed}
use Rattle.inbox_laws.specs.channel_model.specs.declared.event.ChannelEvent.{ChannelEvent}
use Rattle.inbox_laws.specs.channel_model.specs.declared.event.ChannelEvent.TheVariants as events
use Rattle.inbox_laws.specs.channel_model.specs.Carrying.{Up as Handed, Nothing, Received}
use Rattle.inbox_laws.specs.channel_model.specs.Hearing.{up}
use Rattle.inbox_laws.specs.acl_fragments.specs.Pieces.{channel_of}
use Rattle.inbox_laws.specs.channel_model.specs.Policies.{policy}
use Rattle.inbox_laws.specs.channel_model.specs.Value.{Channels, no_channels}
use Rattle.inbox_laws.specs.channel_laws.specs.Runs as channels
use Rattle.inbox_laws.specs.channel_laws.specs.Runs.{run_of}
use Rattle.inbox_laws.specs.push_model.specs.Server.{Lent, lends, lent_sdu, rfcomm_psm}
use Rattle.inbox_laws.specs.push_laws.specs.Occurrences.{Occurrence, Came, Went, Closed, LinkDown, Asked, Answering}
use Rattle.inbox_laws.specs.push_laws.specs.Readings.{passed_by}
use Rattle.inbox_laws.specs.world_model.specs.Machines.{LinkEvent, News, Linked, Up, Down, Failed, Heard, TimerFired, Cancelled, Opening}
use Rattle.inbox_laws.specs.host_model.specs.Circumstances.{Circumstance}
use Rattle.inbox_laws.specs.host_model.specs.Endpoints.{endpoint_of, takes_sdu}
use Rattle.inbox_laws.specs.host_model.specs.Pdus.{sdu_of}
use Rattle.inbox_laws.specs.host_model.specs.Servers.{ServerProfile, is_told, server_profile}
use Rattle.inbox_laws.specs.host_laws.specs.Calls.{values_after}
use Rattle.inbox_laws.specs.host_laws.specs.Fed.{feeds_up, next_happening, strand_feeds, woven_feeds, WovenFed, turned_feeds, FedSpan, span_feeds}
use Rattle.inbox_laws.specs.host_laws.specs.Feeds.{Feed, tidings_by}
use Rattle.inbox_laws.specs.host_laws.specs.Lives.{Span}
use Rattle.inbox_laws.specs.host_laws.specs.Serving.{news_served, event_served, taken_by, lent_by, served_from}
use Rattle.inbox_laws.specs.host_laws.specs.Woven.{Strand, IsOnLink, Hearing, Giving, Firing, Telling, Gifting, Learning, Checking, Stepping, strand_list, strand_profile, turned}
use Rattle.inbox_laws.specs.host_laws.proofs.Asking.{hosts_ask}
use Rattle.inbox_laws.specs.host_laws.proofs.InOrder.{asks-nothing}
use Rattle.inbox_laws.specs.host_laws.proofs.StrandsFed.{strand_so, here_so}
use Rattle.request_laws.specs.BothFed.{IsDown}
use Rattle.inbox_laws.specs.host_laws.specs.OneOnLinks.{CarriesOneOn}
use Rattle.inbox_laws.specs.push_laws.specs.Parties.{sdu_if}
use Rattle.request_laws.specs.Carried.{NoneComesBehind}
use Rattle.request_laws.proofs.Behind.{muxes_end_last}
use Rattle.request_laws.proofs.Feeding.{all_both, served-both, up_served, down_served}
use Rattle.request_laws.proofs.Silent.{IsStill}

-- ---- the link lasts, or nothing happens

abbrev pub ends_link : Occurrence → Bool
ends_link (Came psm sdu) = false
ends_link (Went psm sdu) = false
ends_link (Closed psm) = false
ends_link LinkDown = true
ends_link Asked = false
ends_link (Answering answers) = false

abbrev pub NoDown : Occurrence → Type 0
NoDown one = ends_link one ≡ false

none_if : (here : Bool) (sdu : List ℕ) (one : Passed) → sdu_if here sdu ≡ [] → cond here (Some one) None ≡ None
none_if true sdu one is = cc
none_if false sdu one is = refl

still_none : (one : Occurrence) → IsStill one → passed_by one ≡ None
still_none (Came at sdu) still = none_if (at == rfcomm_psm) sdu _ (still.come rfcomm_psm)
still_none (Went at sdu) still = none_if (at == rfcomm_psm) sdu _ (still.gone rfcomm_psm)
still_none (Closed at) still = refl
still_none LinkDown still = refl
still_none Asked still = refl
still_none (Answering answers) still = refl

pub still_kept : (kept : List Occurrence) (one : Occurrence) (ends : Bool) → filter_map passed_by kept ≡ [] → IsStill one → filter_map passed_by (cond ends [] (kept ++ one ∷ [])) ≡ []
still_kept kept one true none still = refl
still_kept kept one false none still =
    filter_map-append passed_by kept (one ∷ []) ∙ (ap (λ (ps : List Passed). ps ++ cons_option (passed_by one) []) none ∙ ap (λ (o : Option Passed). cons_option o []) (still_none one still))

-- ---- on a link

module _ (settings : Settings) (content : Option Contents) where
  event_stays : (event : ChannelEvent) → AllByRecursion NoDown (event_served event ++ [])
  event_stays (events.Opened own psm) = tt
  event_stays (events.Closed own psm reason) = by (is_told reason)
    where
      by : (b : Bool) → AllByRecursion NoDown (cond b (Closed psm ∷ []) [] ++ [])
      by true = (refl, tt)
      by false = tt
  event_stays (events.Features features) = tt
  event_stays events.FeaturesLost = tt
  event_stays (events.DisconnectLost own) = tt

  told_stays : (found : List ChannelEvent) (v : Channels) (p : ServerProfile) → AllByRecursion NoDown (served_from settings content p (next_happening found v))
  told_stays [] v p = tt
  told_stays (event ∷ found) v p = event_stays event

  up_stays : (brought : Handed) (p : ServerProfile) → AllByRecursion NoDown (served_from settings content p (feeds_up brought))
  up_stays Nothing p = tt
  up_stays (Received own psm sdu) p = (refl, tt)

  news_stays : (news : News) → tidings_by news ≡ [] → AllByRecursion NoDown (news_served news ++ [])
  news_stays (Linked event) none = cc
  news_stays (Failed status) none = tt
  news_stays (Heard pdu) none = tt
  news_stays TimerFired none = tt
  news_stays Cancelled none = tt
  news_stays (Opening name) none = tt

  taken_stays : (own : Option ℕ) (lent : Lent) (v : Channels) → AllByRecursion NoDown (taken_by own lent v ++ [])
  taken_stays None lent v = tt
  taken_stays (Some own) lent v = by (takes_sdu own (sdu_of lent.payload) v)
    where
      by : (b : Bool) → AllByRecursion NoDown (cond b (Went lent.psm (sdu_of lent.payload) ∷ []) [] ++ [])
      by true = (refl, tt)
      by false = tt

  lent_stays : (lent : Option Lent) (v : Channels) (p : ServerProfile) → AllByRecursion NoDown (lent_by lent v p ++ [])
  lent_stays None v p = tt
  lent_stays (Some lent) v p = taken_stays (endpoint_of lent.psm p.endpoints) lent v

  strand_stays : (strand : Strand) (v : Channels) (p : ServerProfile) → IsOnLink strand → AllByRecursion NoDown (served_from settings content p (strand_feeds strand v))
  strand_stays (Hearing pdu) v p on = up_stays (up (channel_of pdu) pdu v) p
  strand_stays (Giving pdu) v p on = tt
  strand_stays Firing v p on = tt
  strand_stays Telling v p on = told_stays v.events v p
  strand_stays (Gifting circumstances) v p on = (refl, tt)
  strand_stays (Learning circumstances news) v p on = news_stays news on
  strand_stays Checking v p on = tt
  strand_stays Stepping v p on = (refl, lent_stays (lent_sdu (lends p.server)) v p)

  pub weave_stays : (weave : List Strand) (v : Channels) (p : ServerProfile) → AllByRecursion IsOnLink weave
      → AllByRecursion NoDown (served_from settings content p (woven_feeds (server_profile settings content) (hosts_ask.servers settings content) weave v p))
  weave_stays [] v p on = tt
  weave_stays (strand ∷ weave) v p on =
      let B = server_profile settings content in
      let asks = hosts_ask.servers settings content in
      let q = strand_profile B strand v p in
      let w = values_after B.policy v (strand_list B asks strand v p) in
      let feeds = strand_feeds strand v in
      let more = woven_feeds B asks weave w q in
      subst (AllByRecursion NoDown) (sym (served-both settings content feeds more p ∙ ap (λ (x : ServerProfile). served_from settings content p feeds ++ served_from settings content x more) (strand_so B asks strand v p)))
      (all_both NoDown (served_from settings content p feeds) (served_from settings content q more) (strand_stays strand v p on.0) (weave_stays weave w q on.1))

  -- ---- as it turns

  pub turned_bare : (circumstances : List Circumstance) (event : LinkEvent) (v : Channels) (p : ServerProfile) → (turned (server_profile settings content) circumstances event v p).endpoints ≡ []
  turned_bare circumstances Up v p = refl
  turned_bare circumstances (Down reason) v p = refl

  abbrev pub span_served : (span : Span) (first : ServerProfile) → FedSpan (server_profile settings content) (hosts_ask.servers settings content) span first → List Occurrence
  span_served span first here = served_from settings content first (span_feeds (server_profile settings content) (hosts_ask.servers settings content) span first here)

  abbrev pub part_served : (span : Span) (first : ServerProfile) → FedSpan (server_profile settings content) (hosts_ask.servers settings content) span first → List Occurrence
  part_served span first here = served_from settings content first here.here

  abbrev pub turn_served : (span : Span) (first : ServerProfile) → FedSpan (server_profile settings content) (hosts_ask.servers settings content) span first → List Occurrence
  turn_served span first here = served_from settings content here.mid (turned_feeds here.circumstances span.event (values_after (policy settings true) no_channels span.list))

  pub span_parts : (span : Span) (first : ServerProfile) (here : FedSpan (server_profile settings content) (hosts_ask.servers settings content) span first) → span_served span first here ≡ part_served span first here ++ turn_served span first here
  span_parts span first here =
      let B = server_profile settings content in
      let turns = turned_feeds here.circumstances span.event (values_after B.policy no_channels span.list) in
      served-both settings content here.here turns first ∙ ap (λ (p : ServerProfile). served_from settings content first here.here ++ served_from settings content p turns) (here_so B (hosts_ask.servers settings content) span first here)

  pub served_up : (span : Span) (first : ServerProfile) (here : FedSpan (server_profile settings content) (hosts_ask.servers settings content) span first) → span.event ≡ Up → span_served span first here ≡ part_served span first here
  served_up span first here event =
      span_parts span first here ∙ (ap (λ (l : List Occurrence). part_served span first here ++ l) (up_served settings content here.circumstances span.event (values_after (policy settings true) no_channels span.list) here.mid event) ∙ append-nil (part_served span first here))

  down_parts : (circumstances : List Circumstance) (event : LinkEvent) (v : Channels) (p : ServerProfile) → IsDown event → (ahead : List Occurrence) × (served_from settings content p (turned_feeds circumstances event v) ≡ ahead ++ LinkDown ∷ [])
  down_parts circumstances Up v p down = absurd down
  down_parts circumstances (Down reason) v p down = let d = down_served settings content circumstances reason v p in (d.ahead, d.is)

  pub served_down : (span : Span) (first : ServerProfile) (here : FedSpan (server_profile settings content) (hosts_ask.servers settings content) span first) → IsDown span.event → (ahead : List Occurrence) × (span_served span first here ≡ (part_served span first here ++ ahead) ++ LinkDown ∷ [])
  served_down span first here down =
      let d = down_parts here.circumstances span.event (values_after (policy settings true) no_channels span.list) here.mid down in
      (d.0, span_parts span first here ∙ (ap (λ (l : List Occurrence). part_served span first here ++ l) d.1 ∙ sym (append_assoc (part_served span first here) d.0 (LinkDown ∷ []))))

  -- ---- nothing comes behind the closing

  pub part_behind : (list : List channels.Occurrence) (feeds : List Feed) (first last : ServerProfile) → WovenFed (server_profile settings content) (hosts_ask.servers settings content) list feeds first last → CarriesOneOn rfcomm_psm (policy settings true) list
      → NoneComesBehind rfcomm_psm (served_from settings content first feeds)
  part_behind list feeds first last so one =
      subst (λ (fs : List Feed). NoneComesBehind rfcomm_psm (served_from settings content first fs)) (sym so.feeds_are)
      (muxes_end_last rfcomm_psm settings content (hosts_ask.servers settings content) list first last so.woven (λ psm aside is. aside.1 is) (asks-nothing settings content) one)
