-- On the link that is up where a run is at rest: host a heard what brought the outcome of its push about, where an SDU does so.
use Rattle.std.proofs.Common.{◌≡◌, ℕ, Bool, true, false, eqb, List, [], ◌∷◌, ◌++◌, map, Option, Some, None, refl, sym, ap, subst, ◌∙◌, ◌⊎◌, inl, inr, append_assoc, append-nil, if◌then◌else◌}
use Rattle.std.specs.Prelude.{drop, is_none, is_some, IfSome}
use Rattle.std.specs.List.{AllByRecursion, AllZip, filter_map, flat_map, list_any}
use Rattle.std.proofs.lemmas.List.Concat.{flat_map-append}
use Rattle.std.proofs.lemmas.List.Sums.{fold-append}
use Rattle.scenario_laws.specs.bt_base.specs.Objects.{Contents}
use Rattle.scenario_laws.specs.bt_base.specs.declared.settings.Settings.{Settings}
use Rattle.scenario_laws.specs.acl_fragments.specs.Pieces.{channel_of}
use Rattle.scenario_laws.specs.push_script.specs.declared.scenario.Scenario.{Scenario}
use Rattle.scenario_laws.specs.push_terms.specs.declared.outcome.Outcome.{Outcome}
use Rattle.scenario_laws.specs.push_terms.specs.declared.outcome.Outcome.TheVariants.{Done, Refused, NoService}
use Rattle.scenario_laws.specs.bt_base.specs.declared.settings.Transport.{Transport}
use Rattle.scenario_laws.specs.bt_base.specs.declared.settings.Transport.TheVariants.{Rfcomm}
use Rattle.scenario_laws.specs.sdp_elements.specs.declared.target.Target.{Target}
use Rattle.scenario_laws.specs.push_model.specs.Shown.{way_of}
use Rattle.scenario_laws.specs.channel_model.specs.declared.event.ChannelEvent.TheVariants.{Closed, FeaturesLost}
use Rattle.scenario_laws.specs.host_laws.specs.Services.{targets_told}
use Rattle.scenario_laws.specs.host_laws.proofs.OneChannel.{notes}
use Rattle.scenario_laws.specs.host_laws.proofs.StandingClients.{Shut, Missed}
use Rattle.scenario_laws.specs.host_laws.proofs.Stepping.{clients_step}
use Rattle.scenario_laws.specs.Searched.{CameSearching, CameSearchingAt}
use Rattle.scenario_laws.proofs.Searched.{runs_search}
use Rattle.scenario_laws.specs.push_terms.specs.declared.word.Side.TheVariants as sides
use Rattle.scenario_laws.specs.capture.specs.declared.flow.Flow.TheVariants.{Out, Into}
use Rattle.scenario_laws.specs.capture.specs.Links.{Link, link_up}
use Rattle.scenario_laws.specs.capture.specs.Pdus.{Pdu, pdus}
use Rattle.scenario_laws.specs.l2cap_signal.specs.Reading.{Answer, answers}
use Rattle.scenario_laws.specs.link_talk.specs.Sayings.{Saying, Command, Carried, said_by, talk}
use Rattle.scenario_laws.specs.channel_model.specs.Calls.{link_down}
use Rattle.scenario_laws.specs.channel_model.specs.Carrying.{takes}
use Rattle.scenario_laws.specs.channel_model.specs.Policies.{Policy, policy}
use Rattle.scenario_laws.specs.channel_model.specs.Value.{Channels, no_channels}
use Rattle.scenario_laws.specs.channel_laws.specs.OwnTalk.{asked_between}
use Rattle.scenario_laws.specs.channel_laws.specs.Runs.{Occurrence, Comes, Connects, AsksFeatures, Disconnects, Sends, Gives, Fires, Tells, Run, new_link, run_on, run_of}
use Rattle.scenario_laws.specs.push_model.specs.declared.course.Point.TheVariants.{Due, Asked}
use Rattle.scenario_laws.specs.push_model.specs.declared.course.Stage.{Stage}
use Rattle.scenario_laws.specs.push_model.specs.declared.course.Stage.TheVariants.{Rest, Link as Paged, SearchChannel, SearchEnd, LinkEnd, Over}
use Rattle.scenario_laws.specs.push_model.specs.Client.{Client}
use Rattle.scenario_laws.specs.push_model.specs.Events.{is_linked, linked_at}
use Rattle.scenario_laws.specs.world_model.specs.Machines.{LinkEvent, Up, Down, Linked}
use Rattle.scenario_laws.specs.world_model.specs.Talks.{Talk}
use Rattle.scenario_laws.specs.world_model.specs.Worlds.{Happening, IsAtRest, all_entries}
use Rattle.scenario_laws.specs.host_model.specs.Circumstances.{Circumstance}
use Rattle.scenario_laws.specs.host_model.specs.Clients as clients
use Rattle.scenario_laws.specs.host_model.specs.Clients.{ClientProfile, client_profile}
use Rattle.scenario_laws.specs.host_model.specs.Hosts.{tells_each}
use Rattle.scenario_laws.specs.host_model.specs.Profiles.{Profile}
use Rattle.scenario_laws.specs.host_laws.specs.Calls.{Asks, values_after, outer}
use Rattle.scenario_laws.specs.host_laws.specs.Fed.{WovenFed, FedSpan, span_feeds, behind_span, AreFed}
use Rattle.scenario_laws.specs.host_laws.specs.Feeds.{Feed}
use Rattle.scenario_laws.specs.host_laws.specs.Leaving.{is_off}
use Rattle.scenario_laws.specs.host_laws.specs.Lives.{Mark, Occurred, Turned, Span, marks_on, span_marks, all_marks}
use Rattle.scenario_laws.specs.host_laws.specs.OverLinks.{parts, AreTimely, GoesOut, IsTalkOf}
use Rattle.scenario_laws.specs.host_laws.specs.Seen.{spoken_of}
use Rattle.scenario_laws.specs.host_laws.specs.Woven.{Strand, IsOnLink, turned, strand_list, strand_profile, woven_profile}
use Rattle.scenario_laws.specs.host_laws.proofs.Asking.{hosts_ask}
use Rattle.scenario_laws.specs.host_laws.proofs.FramesSent.{IsOver}
use Rattle.scenario_laws.specs.host_laws.proofs.GoingAsTold.{first_over, fed_over}
use Rattle.scenario_laws.specs.host_laws.proofs.KeepingClients.{clients_keep_on}
use Rattle.scenario_laws.specs.host_laws.proofs.OverLinks.{hosts_talk_fed}
use Rattle.scenario_laws.specs.host_laws.proofs.StrandsFed.{span_so}
use Rattle.scenario_laws.specs.push_laws.proofs.Opening.{Walk, Stands}
use Rattle.scenario_laws.specs.Captures.{client_of, server_of, BothHosts, Happened, Ran}
use Rattle.scenario_laws.specs.Coming.{out_of, LastHas, LastIsUp}
use Rattle.scenario_laws.specs.Gentle.{CameGently}
use Rattle.scenario_laws.specs.Parties.{party_of}
use Rattle.scenario_laws.proofs.Free.{free_runs_are_gentle}
use Rattle.scenario_laws.proofs.Onward.{pushes_go_onward}
use Rattle.scenario_laws.proofs.UnlinkedClients.{clients_keep}
use Rattle.scenario_laws.proofs.Wishes.{states_frame}
use Rattle.cause_laws.specs.Said.{Decision, NoWay, decision_of, Brings, LacksService, LacksWhat, IsHeard}
use Rattle.cause_laws.proofs.AnswersTold.{IsOut, Told, grown, link_told}
use Rattle.cause_laws.proofs.Clients.{never}
use Rattle.cause_laws.proofs.Lacking.{is_search_end, OffOrLacks, Fares, fed_fares}
use Rattle.cause_laws.proofs.Hearings.{is_read_up, said_then}
use Rattle.cause_laws.proofs.Holding.{HoldsSo, holds_none, IsFresh, fed_fresh}
use Rattle.scenario_laws.specs.push_laws.proofs.Late.{IsLate}
use Rattle.cause_laws.proofs.Off.{IsOff, strand_off}
use Rattle.cause_laws.proofs.Seeking.{is_seeking}
use Rattle.cause_laws.proofs.Weaves.{CameIn, HasCame, Knows, weave_knows}

-- ---- where a link begins

module _ (settings : Settings) where
  abbrev C : Profile ClientProfile
  C = client_profile settings

  abbrev asks : Asks (client_profile settings)
  asks = hosts_ask.clients settings

  abbrev wanted : Policy
  wanted = policy settings false

  -- no push goes on over it, or one without an outcome yet, which stands where its way begins
  abbrev StartsSo : Client → Type 0
  StartsSo c = (is_off c.stage ≡ true) ⊎ ((c.cause ≡ None) × ((c.stage ≡ SearchChannel Due) × ((walk : Walk) × Stands walk c)))

  abbrev Starts : ClientProfile → Type 0
  Starts p = StartsSo p.client

  up_starts : (circumstances : List Circumstance) (p : ClientProfile) → IsOff p → Starts (clients.told circumstances (Linked Up) p)
  up_starts circumstances p off = by p.client.stage refl off
    where
      waiting : (cause : Option Outcome) → p.client.cause ≡ cause → (let d : Client = if is_some cause then record (p.client) { stage = LinkEnd Due } else record (p.client) { stage = SearchChannel Due } in StartsSo d)
      waiting None is = inr (is, (refl, (record { transport = p.client.transport; targets = []; taken = [] }, record { same = refl; none = refl; is = refl })))
      waiting (Some outcome) is = inl refl

      by : (stage : Stage) → p.client.stage ≡ stage → is_off stage ≡ true → StartsSo (linked_at stage p.client)
      by Rest at off' = inl off
      by (Paged Due) at off' = inl off
      by (Paged Asked) at off' = waiting p.client.cause refl
      by (LinkEnd point) at off' = inl off
      by Over at off' = inl off
      by stage at off' = cc

  unlinked_off : (stage : Stage) → is_linked stage ≡ false → is_off stage ≡ true
  unlinked_off Rest is = refl
  unlinked_off (Paged point) is = refl
  unlinked_off Over is = refl
  unlinked_off stage is = cc

  down_off : (circumstances : List Circumstance) (reason : ℕ) (p : ClientProfile) → IsOff (clients.told circumstances (Linked (Down reason)) p)
  down_off circumstances reason p = unlinked_off (clients.told circumstances (Linked (Down reason)) p).client.stage ((clients_keep settings).down circumstances reason p).free

  weave_off : (weave : List Strand) (v : Channels) (p : ClientProfile) → AllByRecursion IsOnLink weave → IsOff p → IsOff (woven_profile (client_profile settings) (hosts_ask.clients settings) weave v p)
  weave_off [] v p on off = off
  weave_off (strand ∷ weave) v p on off = weave_off weave (values_after wanted v (strand_list C asks strand v p)) (strand_profile C strand v p) on.1 (strand_off settings strand v p on.0 off)

  fed_off : (list : List Occurrence) (feeds : List Feed) (first last : ClientProfile) → WovenFed (client_profile settings) (hosts_ask.clients settings) list feeds first last → IsOff first → IsOff last
  fed_off list feeds first last so off = subst IsOff (sym so.woven.last_is) (weave_off so.woven.weave no_channels first so.woven.on_link off)

  -- ---- the links in their order

  skip : (up : Bool) (list : List Occurrence) (marks : List Mark) → AreTimely up (map Occurred list ++ marks) → AreTimely up marks
  skip up [] marks timely = timely
  skip up (Comes pdu ∷ list) marks timely = skip up list marks timely.1
  skip up (Connects psm ∷ list) marks timely = skip up list marks timely
  skip up (AsksFeatures ∷ list) marks timely = skip up list marks timely
  skip up (Disconnects own ∷ list) marks timely = skip up list marks timely
  skip up (Sends own sdu ∷ list) marks timely = skip up list marks timely
  skip up (Gives pdu ∷ list) marks timely = skip up list marks timely
  skip up (Fires ∷ list) marks timely = skip up list marks timely
  skip up (Tells ∷ list) marks timely = skip up list marks timely

  turn_timely : (up : Bool) (span : Span) (spans : List Span) (now : List Occurrence) → AreTimely up (all_marks (span ∷ spans) now) → AreTimely up (Turned span.event ∷ all_marks spans now)
  turn_timely up span spans now timely =
      let here = marks_on span.list in
      skip up (filter_map outer span.list) (Turned span.event ∷ all_marks spans now)
      (subst (AreTimely up) (append_assoc (here ++ Turned span.event ∷ []) (flat_map span_marks spans) (marks_on now) ∙ append_assoc here (Turned span.event ∷ []) (flat_map span_marks spans ++ marks_on now)) timely)

  -- a link is up or none is
  abbrev Fits : (up : Bool) → ClientProfile → Type 0
  Fits true p = Starts p
  Fits false p = IsOff p

  record Behind (spans : List Span) (now : List Occurrence) (p : ClientProfile) : Type 0 where
    up : Bool
    timely : AreTimely up (all_marks spans now)
    fits : Fits up p

  behind_fits : (up : Bool) (span : Span) (spans : List Span) (now : List Occurrence) (first : ClientProfile) (here : FedSpan (client_profile settings) (hosts_ask.clients settings) span first) → AreTimely up (Turned span.event ∷ all_marks spans now) → Fits up first
      → Behind spans now (behind_span (client_profile settings) (hosts_ask.clients settings) span first here)
  behind_fits up span spans now first here timely fits = by up span.event refl timely fits
    where
      by : (up' : Bool) (event : LinkEvent) → span.event ≡ event → AreTimely up' (Turned event ∷ all_marks spans now) → Fits up' first → Behind spans now (behind_span (client_profile settings) (hosts_ask.clients settings) span first here)
      by true Up at timely' fits' = let no : true ≡ false = timely'.0 in absurd cc
      by false Up at timely' fits' = record {
        up = true;
        timely = timely'.1;
        fits = subst (λ (event : LinkEvent). Starts (turned C here.circumstances event (values_after wanted no_channels span.list) here.mid)) (sym at) (up_starts here.circumstances here.mid (fed_off span.list here.here first here.mid here.so fits'));
      }
      by true (Down reason) at timely' fits' = record {
        up = false;
        timely = timely'.1;
        fits = subst (λ (event : LinkEvent). IsOff (turned C here.circumstances event (values_after wanted no_channels span.list) here.mid)) (sym at)
            (let w = link_down (values_after wanted no_channels span.list) in down_off here.circumstances reason (tells_each C w.events w here.mid));
      }
      by false (Down reason) at timely' fits' = let no : false ≡ true = timely'.0 in never no

  -- it keeps its transport
  span_over : (span : Span) (p : ClientProfile) (fed : FedSpan (client_profile settings) (hosts_ask.clients settings) span p) → IsOver settings.transport p.client → IsOver settings.transport (behind_span (client_profile settings) (hosts_ask.clients settings) span p fed).client
  span_over span p fed over = subst (λ (q : ClientProfile). IsOver settings.transport q.client) (span_so C asks span p fed) (fed_over settings (span_feeds C asks span p fed) p over)

  -- and ahead of the channel of its object it holds nothing
  abbrev FreshOver : ClientProfile → Type 0
  FreshOver p = settings.transport ≡ Rfcomm → IsFresh p.client

  span_fresh : (span : Span) (p : ClientProfile) (fed : FedSpan (client_profile settings) (hosts_ask.clients settings) span p) → IsOver settings.transport p.client → FreshOver p → FreshOver (behind_span (client_profile settings) (hosts_ask.clients settings) span p fed)
  span_fresh span p fed over fresh muxed = subst (λ (q : ClientProfile). IsFresh q.client) (span_so C asks span p fed) (fed_fresh settings (span_feeds C asks span p fed) p muxed over (fresh muxed))

  record LastLink (now : List Occurrence) (last : ClientProfile) : Type 0 where
    feeds : List Feed
    first : ClientProfile
    so : WovenFed (client_profile settings) (hosts_ask.clients settings) now feeds first last
    starts : Starts first
    over : IsOver settings.transport first.client
    fresh : FreshOver first

  last_link : (up : Bool) (spans : List Span) (now : List Occurrence) (feeds : List Feed) (first last : ClientProfile) → AreFed (client_profile settings) (hosts_ask.clients settings) spans now feeds first last → AreTimely up (all_marks spans now) → Fits up first → IsOver settings.transport first.client → FreshOver first
      → IsOff last ⊎ LastLink now last
  last_link true [] now feeds first last fed timely fits over fresh = inr (record { feeds = feeds; first = first; so = fed; starts = fits; over = over; fresh = fresh })
  last_link false [] now feeds first last fed timely fits over fresh = inl (fed_off now feeds first last fed fits)
  last_link up (span ∷ spans) now feeds first last (here, later, is, fed) timely fits over fresh =
      let behind = behind_fits up span spans now first here (turn_timely up span spans now timely) fits in
      last_link behind.up spans now later (behind_span C asks span first here) last fed behind.timely behind.fits (span_over span first here over) (span_fresh span first here over fresh)

-- ---- talk

commands_out : (list : List Answer) → AllByRecursion GoesOut (map (Command Out) list)
commands_out [] = tt
commands_out (answer ∷ list) = (tt, commands_out list)

all_both : (one two : List Saying) → AllByRecursion GoesOut one → AllByRecursion GoesOut two → AllByRecursion GoesOut (one ++ two)
all_both [] two x y = y
all_both (saying ∷ one) two x y = (x.0, all_both one two x.1 y)

one_out : (pdu : List ℕ) → AllByRecursion GoesOut (said_by (out_of pdu))
one_out pdu = by (eqb (channel_of pdu) 0x0001)
  where
    by : (signals : Bool) → AllByRecursion GoesOut (if signals then map (Command Out) (answers (drop 4 pdu)) else Carried Out pdu ∷ [])
    by true = commands_out (answers (drop 4 pdu))
    by false = (tt, tt)

unsent_out : (list : List (List ℕ)) → AllByRecursion GoesOut (flat_map said_by (map out_of list))
unsent_out [] = tt
unsent_out (pdu ∷ list) = all_both (said_by (out_of pdu)) (flat_map said_by (map out_of list)) (one_out pdu) (unsent_out list)

-- what came in stands in what moved
none_in : (front rest : List Saying) (pdu : List ℕ) → AllByRecursion GoesOut (front ++ Carried Into pdu ∷ rest) → ⊥
none_in [] rest pdu out = out.0
none_in (saying ∷ front) rest pdu out = none_in front rest pdu out.1

moved_front : (front rest moved outs : List Saying) (pdu : List ℕ) → front ++ Carried Into pdu ∷ rest ≡ moved ++ outs → AllByRecursion GoesOut outs → (more : List Saying) × (moved ≡ front ++ Carried Into pdu ∷ more)
moved_front front rest [] outs pdu is out = absurd (none_in front rest pdu (subst (AllByRecursion GoesOut) (sym is) out))
moved_front [] rest (saying ∷ moved) outs pdu is out = let same : Carried Into pdu ≡ saying = cc in (moved, ap (λ (s : Saying). s ∷ moved) (sym same))
moved_front (one ∷ front) rest (saying ∷ moved) outs pdu is out =
    let same : one ≡ saying = cc in
    let later : front ++ Carried Into pdu ∷ rest ≡ moved ++ outs = cc in
    let (more, moved_is) = moved_front front rest moved outs pdu later out in
    (more, ap (λ (s : Saying). s ∷ moved) (sym same) ∙ ap (λ (l : List Saying). one ∷ l) moved_is)

-- the talk of the last link
last_talk : (policy : Policy) (lists : List (List Occurrence)) (now : List Occurrence) (before : List (List Talk)) (part : List Talk) → AllZip (IsTalkOf policy) (lists ++ now ∷ []) (before ++ part ∷ []) → IsTalkOf policy now part
last_talk policy [] now [] part zip = zip.0
last_talk policy [] now (one ∷ []) part zip = absurd zip.1
last_talk policy [] now (one ∷ other ∷ before) part zip = absurd zip.1
last_talk policy (list ∷ []) now [] part zip = absurd zip.1
last_talk policy (list ∷ other ∷ lists) now [] part zip = absurd zip.1
last_talk policy (list ∷ lists) now (one ∷ before) part zip = last_talk policy lists now before part zip.1

-- ---- at each moment

-- nothing is left to be told
pub none_told : (scenario : Scenario) (content : Option Contents) (done : List Happening) (w : BothHosts) → Happened scenario content done w → w.a.upper.channels.events ≡ []
none_told scenario content done w there =
    let ran : Ran scenario content (all_entries done) = record { happenings = done; world = w; happened = there; ends = []; last = tt; capture_is = sym (append-nil (all_entries done)) } in
    let gentle = (free_runs_are_gentle scenario content (all_entries done) ran).a in
    (hosts_talk_fed (client_profile scenario.settings) (hosts_ask.clients scenario.settings) gentle.came.talk w.a.upper gentle.came.over gentle.gently).so.lives.all_told

-- ---- at rest

-- its outcome comes of an SDU that says this
abbrev pub Decides : BothHosts → Decision → Type 0
Decides w decision = (outcome : Outcome) × (w.a.upper.profile.client.cause ≡ Some outcome) × (decision_of outcome ≡ Some decision)

module _ (scenario : Scenario) (content : Option Contents) (done : List Happening) (w : BothHosts) (there : Happened scenario content done w) (rest : IsAtRest (client_of scenario) (server_of scenario content) w) (link : Link) (up : link_up sides.A (all_entries done) ≡ Some link) where
  abbrev D : Profile ClientProfile
  D = client_profile scenario.settings

  abbrev own : Policy
  own = policy scenario.settings false

  goes_on : is_off w.a.upper.profile.client.stage ≡ false
  goes_on = pushes_go_onward scenario content done done w link ([], sym (append-nil done)) there rest up

  on_never : {X : Type 0} → IsOff w.a.upper.profile → X
  on_never off = never (sym goes_on ∙ off)

  -- an SDU that came in on it stands in its talk
  in_talk : (decision : Decision) (now : List Occurrence) → spoken_of (run_of (policy scenario.settings false) now).said ≡ (run_of (policy scenario.settings false) now).said
      → (outs : List Saying) → spoken_of (run_of (policy scenario.settings false) now).said ≡ talk link ++ outs → AllByRecursion GoesOut outs → CameIn scenario.settings decision now → LacksWhat scenario.settings decision (talk link) → IsHeard scenario.settings decision (talk link)
  in_talk decision now keeps outs talk_is out came lacks =
      let party = party_of scenario.settings sides.A in
      let read = is_read_up own party came.front came.pdu came.own came.psm came.sdu (states_frame scenario.settings false sides.A) came.brought in
      let run = run_of own came.front in
      let heard = run_on own run (Comes came.pdu) in
      let more = grown own came.back heard in
      let asked = asked_between run.value (takes (channel_of came.pdu) came.pdu run.value) in
      let before = run.said ++ Carried Into came.pdu ∷ [] in
      let said_is : (run_of own now).said ≡ run.said ++ Carried Into came.pdu ∷ (asked ++ more.more) =
      ap (λ (l : List Occurrence). (run_of own l).said) came.list_is
      ∙ (ap (λ (r : Run). r.said) (fold-append (run_on own) new_link came.front (Comes came.pdu ∷ came.back))
      ∙ (more.is
      ∙ (ap (λ (l : List Saying). l ++ more.more) (said_then own party came.front came.pdu came.own came.psm came.sdu (states_frame scenario.settings false sides.A) came.brought)
      ∙ (append_assoc before asked more.more ∙ append_assoc run.said (Carried Into came.pdu ∷ []) (asked ++ more.more))))) in
      let (behind, moved_is) = moved_front run.said (asked ++ more.more) (talk link) outs came.pdu (sym said_is ∙ (sym keeps ∙ talk_is)) out in
      record {
        front = run.said;
        pdu = came.pdu;
        rest = behind;
        said_is = moved_is;
        entry = read.entry;
        found = read.found;
        earlier = read.earlier;
        octets = came.sdu;
        later = read.later;
        sdus_are = read.sdus_are;
        brings = subst (λ (psm : ℕ). Brings scenario.settings.transport decision run.said psm came.sdu) (sym read.psm_is) came.brings;
        lacks = lacks;
      }

  abbrev asking : Asks (client_profile scenario.settings)
  asking = hosts_ask.clients scenario.settings

  -- what is known behind all that happened on it
  known_on : (now : List Occurrence) (last : ClientProfile) → LastLink scenario.settings now last → Knows scenario.settings (hosts_ask.clients scenario.settings) last now
  known_on now last here =
      let woven = here.so.woven in
      subst (λ (p : ClientProfile). Knows scenario.settings asking p now) (sym woven.last_is)
      (subst (Knows scenario.settings asking (woven_profile D asking woven.weave no_channels here.first)) (sym woven.list_is) (weave_knows scenario.settings asking woven.weave [] here.first no_channels refl woven.on_link (at_first here.starts)))
    where
      empty : here.first.client.stage ≡ SearchChannel Due → IsFresh here.first.client → HoldsSo here.first.client.held []
      empty at (inl late) = absurd (subst IsLate at late)
      empty at (inr none) = subst (λ (held : List ℕ). HoldsSo held []) (sym none) (holds_none [])

      at_first : Starts scenario.settings here.first → Knows scenario.settings (hosts_ask.clients scenario.settings) here.first []
      at_first (inl off) = inl off
      at_first (inr (none, (at, (walk, stands)))) = inr (record { over = here.over; walk = walk; stands = stands; has = subst (λ (c : Option Outcome). HasCame scenario.settings c []) (sym none) tt; held = λ muxed. empty at (here.fresh muxed) })

  came_on : (decision : Decision) (now : List Occurrence) → Decides w decision → Knows scenario.settings (hosts_ask.clients scenario.settings) w.a.upper.profile now → CameIn scenario.settings decision now
  came_on decision now (outcome, is, said) (inl off) = on_never off
  came_on decision now (outcome, is, said) (inr known) =
      let has : HasCame scenario.settings (Some outcome) now = subst (λ (c : Option Outcome). HasCame scenario.settings c now) is known.has in
      subst (λ (found : Option Decision). IfSome found (λ one. CameIn scenario.settings one now)) said has

  -- where it found no service an answer that it was told names no way
  told_lacks : w.a.upper.profile.client.cause ≡ Some NoService → LacksService scenario.settings (talk link)
  told_lacks cause =
      let party = party_of scenario.settings sides.A in
      let came : CameSearching scenario.settings asking (pdus link) w.a.upper = subst (λ (found : Option Link). CameSearchingAt scenario.settings asking found w.a.upper) up (runs_search hosts_ask scenario content done w (clients_step scenario.settings) there rest) in
      let lives = came.so.lives in
      let client = w.a.upper.profile.client in
      let fares : Fares client = subst (λ (p : ClientProfile). Fares p.client) (sym lives.profile_is) (fed_fares scenario.settings lives.feeds) in
      let over : IsOver scenario.settings.transport client = subst (λ (p : ClientProfile). IsOver scenario.settings.transport p.client) (sym lives.profile_is) (fed_over scenario.settings lives.feeds D.first (first_over scenario.settings)) in
      let said = (run_of own lives.now).said in
      let talk_is : spoken_of said ≡ talk link = came.so.talk_is ∙ ap (λ (moved : List Pdu). flat_map said_by moved) came.came.moved_is in
      let none : (run_of own lives.now).value.events ≡ [] = ap (λ (v : Channels). v.events) (sym lives.channels_run) ∙ lives.all_told in
      subst (λ (l : List Saying). list_any (λ (target : Target). is_none (way_of scenario.settings.transport target)) (targets_told party l) ≡ true) talk_is
      (by said (run_of own lives.now).value none (fares cause) over.0 (link_told scenario.settings party asking (clients_step scenario.settings) lives.now came.first w.a.upper.profile came.searches))
    where
      none_out : {X : Type 0} (v : Channels) → v.events ≡ [] → IsOut w.a.upper.profile.client v → X
      none_out v none (inl off) = on_never off
      none_out v none (inr (Shut own' psm reason more used why told)) = let no : [] ≡ Closed own' psm reason ∷ more = ap notes (sym none) ∙ told in absurd cc
      none_out v none (inr (Missed asks (more, told))) = let no : [] ≡ FeaturesLost ∷ more = ap notes (sym none) ∙ told in absurd cc

      seeks : (stage : Stage) → is_search_end stage ≡ true → is_seeking stage ≡ true
      seeks (SearchEnd point) is = refl
      seeks stage is = never is

      by : (said : List Saying) (v : Channels) → v.events ≡ [] → OffOrLacks w.a.upper.profile.client → w.a.upper.profile.client.transport ≡ scenario.settings.transport → IsOut w.a.upper.profile.client v ⊎ Told (party_of scenario.settings sides.A) w.a.upper.profile.client said
          → list_any (λ (target : Target). is_none (way_of scenario.settings.transport target)) (targets_told (party_of scenario.settings sides.A) (spoken_of said)) ≡ true
      by said v none (inl off) same told = on_never off
      by said v none (inr lacks) same (inl out) = none_out v none out
      by said v none (inr lacks) same (inr told) =
          told (seeks w.a.upper.profile.client.stage lacks.stage) lacks.answered lacks.target lacks.read (λ (target : Target). is_none (way_of scenario.settings.transport target)) (ap (λ (t : Transport). is_none (way_of t lacks.target)) (sym same) ∙ lacks.none)

  no_service : (outcome : Outcome) → decision_of outcome ≡ Some NoWay → outcome ≡ NoService
  no_service NoService is = refl
  no_service Done is = cc
  no_service (Refused code) is = cc
  no_service outcome is = cc

  lacks_what : (decision : Decision) → Decides w decision → LacksWhat scenario.settings decision (talk link)
  lacks_what NoWay (outcome, is, said) = told_lacks (is ∙ ap Some (no_service outcome said))
  lacks_what decision decides = tt

  gently_hears : (decision : Decision) → Decides w decision → CameGently (client_profile scenario.settings) sides.A (all_entries done) w.a.upper → IsHeard scenario.settings decision (talk link)
  gently_hears decision decides gentle =
      let fed = hosts_talk_fed D asking gentle.came.talk w.a.upper gentle.came.over gentle.gently in
      let lives = fed.so.lives in
      let timely : AreTimely false (all_marks lives.spans lives.now) = subst (AreTimely false) (sym lives.marks_are) fed.so.timely in
      let has : LastHas (parts gentle.came.talk) (pdus link) = subst (LastIsUp (parts gentle.came.talk)) up gentle.came.last in
      let (before, part, unsent, parts_are, pdus_are) = has in
      let zip : AllZip (IsTalkOf own) (map (λ (span : Span). span.list) lives.spans ++ lives.now ∷ []) (before ++ part ∷ []) =
      subst (AllZip (IsTalkOf own) (map (λ (span : Span). span.list) lives.spans ++ lives.now ∷ [])) parts_are fed.so.talks_are in
      let so = last_talk own (map (λ (span : Span). span.list) lives.spans) lives.now before part zip in
      let left = flat_map said_by (map out_of unsent) in
      let talk_is : spoken_of (run_of own lives.now).said ≡ talk link ++ (left ++ so.waits) =
      so.talk_is
      ∙ (ap (λ (l : List Pdu). flat_map said_by l ++ so.waits) pdus_are
      ∙ (ap (λ (l : List Saying). l ++ so.waits) (flat_map-append said_by (pdus link) (map out_of unsent)) ∙ append_assoc (talk link) left so.waits)) in
      with_last decision decides lives.now (left ++ so.waits) talk_is (all_both left so.waits (unsent_out unsent) so.go_out)
      (ap (λ (v : Channels). v.events) (sym lives.channels_run) ∙ lives.all_told)
      (last_link scenario.settings false lives.spans lives.now lives.feeds D.first w.a.upper.profile fed.fed timely refl (first_over scenario.settings) (λ muxed. inr refl))
    where
      with_last : (decision : Decision) → Decides w decision → (now : List Occurrence) (outs : List Saying) → spoken_of (run_of (policy scenario.settings false) now).said ≡ talk link ++ outs → AllByRecursion GoesOut outs
          → (run_of (policy scenario.settings false) now).value.events ≡ [] → IsOff w.a.upper.profile ⊎ LastLink scenario.settings now w.a.upper.profile → IsHeard scenario.settings decision (talk link)
      with_last decision decides now outs talk_is out none (inl off) = on_never off
      with_last decision decides now outs talk_is out none (inr here) =
          in_talk decision now (clients_keep_on scenario.settings asking now here.first w.a.upper.profile here.so.woven none goes_on) outs talk_is out (came_on decision now decides (known_on now w.a.upper.profile here)) (lacks_what decision decides)

  pub rest_hears : (decision : Decision) → Decides w decision → IsHeard scenario.settings decision (talk link)
  rest_hears decision decides =
      let ran : Ran scenario content (all_entries done) = record { happenings = done; world = w; happened = there; ends = []; last = tt; capture_is = sym (append-nil (all_entries done)) } in
      gently_hears decision decides (free_runs_are_gentle scenario content (all_entries done) ran).a
