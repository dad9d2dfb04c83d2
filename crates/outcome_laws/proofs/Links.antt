-- Where the last link of a client begins: no push goes on over it, or one without an outcome yet.
use Rattle.std.proofs.Common.{◌≡◌, ℕ, Bool, true, false, List, [], ◌∷◌, ◌++◌, map, Option, Some, None, refl, sym, ap, subst, ◌∙◌, ◌⊎◌, inl, inr, append_assoc, if◌then◌else◌}
use Rattle.std.specs.Prelude.{is_some}
use Rattle.std.specs.List.{AllByRecursion, filter_map, flat_map}
use Rattle.unit_laws.specs.scenario_laws.specs.bt_base.specs.declared.settings.Settings.{Settings}
use Rattle.unit_laws.specs.scenario_laws.specs.push_terms.specs.declared.outcome.Outcome.{Outcome}
use Rattle.unit_laws.specs.scenario_laws.specs.bt_base.specs.declared.settings.Transport.TheVariants.{Rfcomm}
use Rattle.unit_laws.specs.scenario_laws.specs.channel_model.specs.Calls.{link_down}
use Rattle.unit_laws.specs.scenario_laws.specs.channel_model.specs.Policies.{Policy, policy}
use Rattle.unit_laws.specs.scenario_laws.specs.channel_model.specs.Value.{Channels, no_channels}
use Rattle.unit_laws.specs.scenario_laws.specs.channel_laws.specs.Runs.{Occurrence, Comes, Connects, AsksFeatures, Disconnects, Sends, Gives, Fires, Tells}
use Rattle.unit_laws.specs.scenario_laws.specs.push_model.specs.declared.course.Point.TheVariants.{Due, Asked}
use Rattle.unit_laws.specs.scenario_laws.specs.push_model.specs.declared.course.Stage.{Stage}
use Rattle.unit_laws.specs.scenario_laws.specs.push_model.specs.declared.course.Stage.TheVariants.{Rest, Link as Paged, SearchChannel, LinkEnd, Over}
use Rattle.unit_laws.specs.scenario_laws.specs.push_model.specs.Client.{Client}
use Rattle.unit_laws.specs.scenario_laws.specs.push_model.specs.Events.{is_linked, linked_at}
use Rattle.unit_laws.specs.scenario_laws.specs.world_model.specs.Machines.{LinkEvent, Up, Down, Linked}
use Rattle.unit_laws.specs.scenario_laws.specs.host_model.specs.Circumstances.{Circumstance}
use Rattle.unit_laws.specs.scenario_laws.specs.host_model.specs.Clients as clients
use Rattle.unit_laws.specs.scenario_laws.specs.host_model.specs.Clients.{ClientProfile, client_profile}
use Rattle.unit_laws.specs.scenario_laws.specs.host_model.specs.Hosts.{tells_each}
use Rattle.unit_laws.specs.scenario_laws.specs.host_model.specs.Profiles.{Profile}
use Rattle.unit_laws.specs.scenario_laws.specs.host_model.specs.Hosts.{Host}
use Rattle.unit_laws.specs.scenario_laws.specs.world_model.specs.Talks.{Talk}
use Rattle.unit_laws.specs.scenario_laws.specs.channel_laws.specs.Runs.{run_of}
use Rattle.unit_laws.specs.scenario_laws.specs.host_laws.specs.Calls.{Asks, values_after, outer}
use Rattle.unit_laws.specs.scenario_laws.specs.host_laws.specs.Fed.{WovenFed, FedSpan, span_feeds, behind_span, AreFed, TalksFed}
use Rattle.unit_laws.specs.scenario_laws.specs.host_laws.specs.Feeds.{Feed}
use Rattle.unit_laws.specs.scenario_laws.specs.host_laws.specs.Leaving.{is_off}
use Rattle.unit_laws.specs.scenario_laws.specs.host_laws.specs.Lives.{Mark, Occurred, Turned, Span, Lives, marks_on, span_marks, all_marks}
use Rattle.unit_laws.specs.scenario_laws.specs.host_laws.specs.OverLinks.{AreTimely, talk_marks}
use Rattle.unit_laws.specs.scenario_laws.specs.host_laws.specs.Seen.{spoken_of}
use Rattle.unit_laws.specs.scenario_laws.specs.host_laws.specs.Woven.{Strand, IsOnLink, turned, strand_list, strand_profile, woven_profile}
use Rattle.unit_laws.specs.scenario_laws.specs.host_laws.proofs.Asking.{hosts_ask}
use Rattle.unit_laws.specs.scenario_laws.specs.host_laws.proofs.FramesSent.{IsOver}
use Rattle.unit_laws.specs.scenario_laws.specs.host_laws.proofs.GoingAsTold.{first_over, fed_over}
use Rattle.unit_laws.specs.scenario_laws.specs.host_laws.proofs.KeepingClients.{clients_keep_on}
use Rattle.unit_laws.specs.scenario_laws.specs.host_laws.proofs.StrandsFed.{span_so}
use Rattle.unit_laws.specs.scenario_laws.specs.push_laws.proofs.Opening.{Walk, Stands}
use Rattle.unit_laws.specs.scenario_laws.specs.push_laws.proofs.Late.{IsLate}
use Rattle.unit_laws.specs.scenario_laws.proofs.UnlinkedClients.{clients_keep}
use Rattle.cause_laws.proofs.Clients.{never}
use Rattle.cause_laws.proofs.Holding.{HoldsSo, holds_none, IsFresh, fed_fresh}
use Rattle.cause_laws.proofs.Off.{IsOff, strand_off}
use Rattle.cause_laws.proofs.Weaves.{HasCame, Known, Knows, weave_knows}

-- ---- where a link begins

module _ (settings : Settings) where
  abbrev C : Profile ClientProfile
  C = client_profile settings

  abbrev asks : Asks (client_profile settings)
  asks = hosts_ask.clients settings

  abbrev wanted : Policy
  wanted = policy settings false

  -- no push goes on over it, or one without an outcome yet, which stands where its way begins
  abbrev pub StartsSo : Client → Type 0
  StartsSo c = (is_off c.stage ≡ true) ⊎ ((c.cause ≡ None) × ((c.stage ≡ SearchChannel Due) × ((walk : Walk) × Stands walk c)))

  abbrev pub Starts : ClientProfile → Type 0
  Starts p = StartsSo p.client

  up_starts : (circumstances : List Circumstance) (p : ClientProfile) → IsOff p → Starts (clients.told circumstances (Linked Up) p)
  up_starts circumstances p off = by p.client.stage refl off
    where
      waiting : (cause : Option Outcome) → p.client.cause ≡ cause → (let d : Client = if is_some cause then record (p.client) { stage = LinkEnd Due } else record (p.client) { stage = SearchChannel Due } in StartsSo d)
      waiting None is = inr (is, (refl, (record { transport = p.client.transport; targets = []; taken = [] }, record { same = refl; none = refl; is = refl })))
      waiting (Some outcome) is = inl refl

      by : (stage : Stage) → p.client.stage ≡ stage → is_off stage ≡ true → StartsSo (linked_at stage p.client)
      by Rest at off' = inl off
      by (Paged Due) at off' = inl off
      by (Paged Asked) at off' = waiting p.client.cause refl
      by (LinkEnd point) at off' = inl off
      by Over at off' = inl off
      by stage at off' = cc

  unlinked_off : (stage : Stage) → is_linked stage ≡ false → is_off stage ≡ true
  unlinked_off Rest is = refl
  unlinked_off (Paged point) is = refl
  unlinked_off Over is = refl
  unlinked_off stage is = cc

  down_off : (circumstances : List Circumstance) (reason : ℕ) (p : ClientProfile) → IsOff (clients.told circumstances (Linked (Down reason)) p)
  down_off circumstances reason p = unlinked_off (clients.told circumstances (Linked (Down reason)) p).client.stage ((clients_keep settings).down circumstances reason p).free

  weave_off : (weave : List Strand) (v : Channels) (p : ClientProfile) → AllByRecursion IsOnLink weave → IsOff p → IsOff (woven_profile (client_profile settings) (hosts_ask.clients settings) weave v p)
  weave_off [] v p on off = off
  weave_off (strand ∷ weave) v p on off = weave_off weave (values_after wanted v (strand_list C asks strand v p)) (strand_profile C strand v p) on.1 (strand_off settings strand v p on.0 off)

  fed_off : (list : List Occurrence) (feeds : List Feed) (first last : ClientProfile) → WovenFed (client_profile settings) (hosts_ask.clients settings) list feeds first last → IsOff first → IsOff last
  fed_off list feeds first last so off = subst IsOff (sym so.woven.last_is) (weave_off so.woven.weave no_channels first so.woven.on_link off)

  -- ---- the links in their order

  skip : (up : Bool) (list : List Occurrence) (marks : List Mark) → AreTimely up (map Occurred list ++ marks) → AreTimely up marks
  skip up [] marks timely = timely
  skip up (Comes pdu ∷ list) marks timely = skip up list marks timely.1
  skip up (Connects psm ∷ list) marks timely = skip up list marks timely
  skip up (AsksFeatures ∷ list) marks timely = skip up list marks timely
  skip up (Disconnects own ∷ list) marks timely = skip up list marks timely
  skip up (Sends own sdu ∷ list) marks timely = skip up list marks timely
  skip up (Gives pdu ∷ list) marks timely = skip up list marks timely
  skip up (Fires ∷ list) marks timely = skip up list marks timely
  skip up (Tells ∷ list) marks timely = skip up list marks timely

  turn_timely : (up : Bool) (span : Span) (spans : List Span) (now : List Occurrence) → AreTimely up (all_marks (span ∷ spans) now) → AreTimely up (Turned span.event ∷ all_marks spans now)
  turn_timely up span spans now timely =
      let here = marks_on span.list in
      skip up (filter_map outer span.list) (Turned span.event ∷ all_marks spans now)
      (subst (AreTimely up) (append_assoc (here ++ Turned span.event ∷ []) (flat_map span_marks spans) (marks_on now) ∙ append_assoc here (Turned span.event ∷ []) (flat_map span_marks spans ++ marks_on now)) timely)

  -- a link is up or none is
  abbrev pub Fits : (up : Bool) → ClientProfile → Type 0
  Fits true p = Starts p
  Fits false p = IsOff p

  record Behind (spans : List Span) (now : List Occurrence) (p : ClientProfile) : Type 0 where
    up : Bool
    timely : AreTimely up (all_marks spans now)
    fits : Fits up p

  behind_fits : (up : Bool) (span : Span) (spans : List Span) (now : List Occurrence) (first : ClientProfile) (here : FedSpan (client_profile settings) (hosts_ask.clients settings) span first) → AreTimely up (Turned span.event ∷ all_marks spans now) → Fits up first
      → Behind spans now (behind_span (client_profile settings) (hosts_ask.clients settings) span first here)
  behind_fits up span spans now first here timely fits = by up span.event refl timely fits
    where
      by : (up' : Bool) (event : LinkEvent) → span.event ≡ event → AreTimely up' (Turned event ∷ all_marks spans now) → Fits up' first → Behind spans now (behind_span (client_profile settings) (hosts_ask.clients settings) span first here)
      by true Up at timely' fits' = let no : true ≡ false = timely'.0 in absurd cc
      by false Up at timely' fits' = record {
        up = true;
        timely = timely'.1;
        fits = subst (λ (event : LinkEvent). Starts (turned C here.circumstances event (values_after wanted no_channels span.list) here.mid)) (sym at) (up_starts here.circumstances here.mid (fed_off span.list here.here first here.mid here.so fits'));
      }
      by true (Down reason) at timely' fits' = record {
        up = false;
        timely = timely'.1;
        fits = subst (λ (event : LinkEvent). IsOff (turned C here.circumstances event (values_after wanted no_channels span.list) here.mid)) (sym at)
            (let w = link_down (values_after wanted no_channels span.list) in down_off here.circumstances reason (tells_each C w.events w here.mid));
      }
      by false (Down reason) at timely' fits' = let no : false ≡ true = timely'.0 in never no

  -- it keeps its transport
  span_over : (span : Span) (p : ClientProfile) (fed : FedSpan (client_profile settings) (hosts_ask.clients settings) span p) → IsOver settings.transport p.client → IsOver settings.transport (behind_span (client_profile settings) (hosts_ask.clients settings) span p fed).client
  span_over span p fed over = subst (λ (q : ClientProfile). IsOver settings.transport q.client) (span_so C asks span p fed) (fed_over settings (span_feeds C asks span p fed) p over)

  -- and ahead of the channel of its object it holds nothing
  abbrev pub FreshOver : ClientProfile → Type 0
  FreshOver p = settings.transport ≡ Rfcomm → IsFresh p.client

  span_fresh : (span : Span) (p : ClientProfile) (fed : FedSpan (client_profile settings) (hosts_ask.clients settings) span p) → IsOver settings.transport p.client → FreshOver p → FreshOver (behind_span (client_profile settings) (hosts_ask.clients settings) span p fed)
  span_fresh span p fed over fresh muxed = subst (λ (q : ClientProfile). IsFresh q.client) (span_so C asks span p fed) (fed_fresh settings (span_feeds C asks span p fed) p muxed over (fresh muxed))

  pub record LastLink (now : List Occurrence) (last : ClientProfile) : Type 0 where
    pub feeds : List Feed
    pub first : ClientProfile
    pub so : WovenFed (client_profile settings) (hosts_ask.clients settings) now feeds first last
    pub starts : Starts first
    pub over : IsOver settings.transport first.client
    pub fresh : FreshOver first

  pub last_link : (up : Bool) (spans : List Span) (now : List Occurrence) (feeds : List Feed) (first last : ClientProfile) → AreFed (client_profile settings) (hosts_ask.clients settings) spans now feeds first last → AreTimely up (all_marks spans now) → Fits up first → IsOver settings.transport first.client → FreshOver first
      → IsOff last ⊎ LastLink now last
  last_link true [] now feeds first last fed timely fits over fresh = inr (record { feeds = feeds; first = first; so = fed; starts = fits; over = over; fresh = fresh })
  last_link false [] now feeds first last fed timely fits over fresh = inl (fed_off now feeds first last fed fits)
  last_link up (span ∷ spans) now feeds first last (here, later, is, fed) timely fits over fresh =
      let behind = behind_fits up span spans now first here (turn_timely up span spans now timely) fits in
      last_link behind.up spans now later (behind_span C asks span first here) last fed behind.timely behind.fits (span_over span first here over) (span_fresh span first here over fresh)

  -- what is known of it behind all that happened on that link
  known_on : (now : List Occurrence) (last : ClientProfile) → LastLink now last → Knows settings (hosts_ask.clients settings) last now
  known_on now last here =
      let woven = here.so.woven in
      subst (λ (p : ClientProfile). Knows settings asks p now) (sym woven.last_is)
      (subst (Knows settings asks (woven_profile C asks woven.weave no_channels here.first)) (sym woven.list_is) (weave_knows settings asks woven.weave [] here.first no_channels refl woven.on_link (at_first here.starts)))
    where
      empty : here.first.client.stage ≡ SearchChannel Due → IsFresh here.first.client → HoldsSo here.first.client.held []
      empty at (inl late) = absurd (subst IsLate at late)
      empty at (inr none) = subst (λ (held : List ℕ). HoldsSo held []) (sym none) (holds_none [])

      at_first : Starts here.first → Knows settings (hosts_ask.clients settings) here.first []
      at_first (inl off) = inl off
      at_first (inr (none, (at, (walk, stands)))) =
          inr (record { over = here.over; walk = walk; stands = stands; has = subst (λ (c : Option Outcome). HasCame settings c []) (sym none) tt; held = λ muxed. empty at (here.fresh muxed) })

-- ---- where a push goes on

-- What is known of a client on its last link, and that its own talk there has nothing that it gave up.
pub record OnLast (settings : Settings) (now : List Occurrence) (last : ClientProfile) : Type 0 where
  pub known : Known settings last.client now
  pub keeps : spoken_of (run_of (policy settings false) now).said ≡ (run_of (policy settings false) now).said

module _ (settings : Settings) (talk : List Talk) (host : Host ClientProfile) (fed : TalksFed (client_profile settings) (hosts_ask.clients settings) talk host) (on : is_off host.profile.client.stage ≡ false) where
  abbrev lives : Lives (client_profile settings) (hosts_ask.clients settings) (flat_map talk_marks talk) host
  lives = fed.so.lives

  none_told : (run_of (policy settings false) fed.so.lives.now).value.events ≡ []
  none_told = ap (λ (v : Channels). v.events) (sym lives.channels_run) ∙ lives.all_told

  known_where : (now : List Occurrence) → Knows settings (hosts_ask.clients settings) host.profile now → Known settings host.profile.client now
  known_where now (inl off) = never (sym on ∙ off)
  known_where now (inr known) = known

  by_last : IsOff host.profile ⊎ LastLink settings fed.so.lives.now host.profile → OnLast settings fed.so.lives.now host.profile
  by_last (inl off) = never (sym on ∙ off)
  by_last (inr here) = record {
    known = known_where fed.so.lives.now (known_on settings fed.so.lives.now host.profile here);
    keeps = clients_keep_on settings (hosts_ask.clients settings) fed.so.lives.now here.first host.profile here.so.woven none_told on;
  }

  pub on_last : OnLast settings fed.so.lives.now host.profile
  on_last = by_last (last_link settings false fed.so.lives.spans fed.so.lives.now fed.so.lives.feeds (client_profile settings).first host.profile fed.fed (subst (AreTimely false) (sym fed.so.lives.marks_are) fed.so.timely) refl (first_over settings) (λ muxed. inr refl))
