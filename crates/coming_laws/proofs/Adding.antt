-- What comes of all that a host tells its client with one thing that happens to it: the first of that which shows an outcome, and else none, or that the shelf fails.
use Rattle.std.proofs.Common.{◌≡◌, ℕ, zero, suc, Bool, true, false, List, [], ◌∷◌, ◌++◌, Option, Some, None, refl, sym, ap, subst, ◌∙◌, if◌then◌else◌}
use Rattle.std.specs.Prelude.{nat_le}
use Rattle.std.specs.List.{AllByRecursion, flat_map}
use Rattle.outcome_laws.specs.cause_laws.specs.bt_base.specs.declared.settings.Settings.{Settings}
use Rattle.outcome_laws.specs.cause_laws.specs.push_terms.specs.declared.outcome.Outcome.{Outcome}
use Rattle.outcome_laws.specs.unit_laws.specs.scenario_laws.specs.acl_fragments.specs.Pieces.{channel_of}
use Rattle.outcome_laws.specs.unit_laws.specs.scenario_laws.specs.host_link.specs.Hearing.{PlainNews, Nothing, LinkUp, LinkFailed, LinkDown, Pdu, news_of}
use Rattle.outcome_laws.specs.cause_laws.specs.channel_model.specs.declared.event.ChannelEvent.{ChannelEvent}
use Rattle.outcome_laws.specs.cause_laws.specs.channel_model.specs.declared.event.ChannelEvent.TheVariants as channels
use Rattle.outcome_laws.specs.cause_laws.specs.channel_model.specs.Calls.{link_down, lost_at, peer_mtu}
use Rattle.outcome_laws.specs.cause_laws.specs.channel_model.specs.Carrying.{Up as Handed, Nothing as NoSdu, Received}
use Rattle.outcome_laws.specs.cause_laws.specs.channel_model.specs.Hearing.{hears, up}
use Rattle.outcome_laws.specs.cause_laws.specs.channel_model.specs.Timing.{timed_out}
use Rattle.outcome_laws.specs.cause_laws.specs.channel_model.specs.Value.{Channels, Held, Stage as ChannelStage, Requested, Connected, Leaving, Closing, Crossed}
use Rattle.outcome_laws.specs.cause_laws.specs.push_model.specs.declared.closing.CloseCause.{CloseCause}
use Rattle.outcome_laws.specs.cause_laws.specs.push_model.specs.Client.{Client, cancelled}
use Rattle.outcome_laws.specs.cause_laws.specs.push_model.specs.Events as events
use Rattle.outcome_laws.specs.cause_laws.specs.push_model.specs.Events.{hears_news}
use Rattle.outcome_laws.specs.cause_laws.specs.push_model.specs.Laws.{Hears}
use Rattle.outcome_laws.specs.cause_laws.specs.push_model.specs.Shown.{first_of}
use Rattle.outcome_laws.specs.cause_laws.specs.world_model.specs.Machines.{News, Linked, Up, Down, Failed, Heard, TimerFired, Cancelled, Opening}
use Rattle.outcome_laws.specs.cause_laws.specs.host_model.specs.Circumstances.{Circumstance}
use Rattle.outcome_laws.specs.cause_laws.specs.host_model.specs.Clients.{ClientProfile, client_profile, cause_of, event_heard}
use Rattle.outcome_laws.specs.cause_laws.specs.host_model.specs.Hosts.{Host, most_said, half_said, most_steps, hears_news as host_hears, hears_pdu, handed, ready, hear, tells_each, tells_events, with_channels, drives, says as says_so, after_said}
use Rattle.outcome_laws.specs.cause_laws.specs.host_model.specs.Machines.{upper}
use Rattle.outcome_laws.specs.cause_laws.specs.channel_model.specs.Giving.{Given, next_given, after_given}
use Rattle.outcome_laws.specs.cause_laws.specs.host_model.specs.Pdus.{pdu_of, is_frame}
use Rattle.outcome_laws.specs.cause_laws.specs.host_model.specs.Profiles.{Profile}
use Rattle.outcome_laws.specs.cause_laws.specs.host_laws.specs.Acts as acts
use Rattle.outcome_laws.specs.cause_laws.specs.host_laws.specs.Feeds.{Learns as Learns_feed, Happens as Happens_feed, fed}
use Rattle.outcome_laws.specs.cause_laws.specs.host_laws.specs.Pushing.{Does, client_behind, then_ends, opened_pushed, closed_pushed, event_pushed}
use Rattle.outcome_laws.specs.cause_laws.specs.host_laws.proofs.Links.{act_told}
use Rattle.outcome_laws.specs.cause_laws.specs.host_laws.proofs.Pushing.{feed_so}
use Rattle.outcome_laws.specs.cause_laws.proofs.Clients.{is_shelf, Came, came_same, none_later}
use Rattle.outcome_laws.specs.cause_laws.proofs.Driving.{next_shelf}
use Rattle.outcome_laws.specs.unit_laws.specs.Units.{Lined, Occasion, Comes, Learns, Says, Puts, Commands, Waits, hears_line, Happens, Runs, Whatever}
use Rattle.outcome_laws.specs.BroughtAbout.{is_begin_news, is_begin}
use Rattle.outcome_laws.specs.FirstCause.{first_cause}
use Rattle.outcome_laws.proofs.FirstCause.{causes-are_first}
use Rattle.outcome_laws.proofs.Telling.{hears_so}
use Rattle.coming_laws.specs.Shelf.{asked_shows, news_asked, plain_asked, says_asked, shelf_shows}
use Rattle.coming_laws.specs.Telling.{sdu_tells, events_tell, channels_tell, news_tells, plain_tells, tells_client, shown_with}
use Rattle.coming_laws.proofs.Calm.{ends_same}
use Rattle.coming_laws.proofs.Shelving.{settled_same, drives_exactly}
use Rattle.coming_laws.proofs.Lists.{behind_both, IsOfNoBegin, all_both, outcome_stays}

abbrev pub One : Type 0
One = Occasion Circumstance

abbrev pub At : Type 0
At = Lined (Host ClientProfile)

abbrev second_of : {X Y : Type 0} → Y → Option (X × Y) → Y
second_of other None = other
second_of other (Some one) = one.1

second_same : {X Y : Type 0} (a b : X) (c d : Y) → (let one : Option (X × Y) = Some (a, c) in one ≡ Some (b, d)) → c ≡ d
second_same a b c d is = ap (second_of c) is

same_came : (old new : Option Outcome) → new ≡ old → Came is_shelf old new
same_came old new is = subst (Came is_shelf old) (sym is) (came_same is_shelf old)

-- ---- none of it begins a push

opened_deeds : (mtu : Option ℕ) (psm : ℕ) → AllByRecursion IsOfNoBegin (opened_pushed mtu psm)
opened_deeds None psm = tt
opened_deeds (Some mtu) psm = (tt, tt)

closed_deeds : (cause : Option CloseCause) (psm : ℕ) → AllByRecursion IsOfNoBegin (closed_pushed cause psm)
closed_deeds None psm = tt
closed_deeds (Some cause) psm = (tt, tt)

event_deeds : (event : ChannelEvent) (v : Channels) → AllByRecursion IsOfNoBegin (event_pushed event v)
event_deeds (channels.Opened own psm) v = opened_deeds (peer_mtu own v) psm
event_deeds (channels.Closed own psm reason) v = closed_deeds (cause_of reason) psm
event_deeds (channels.Features features) v = (tt, tt)
event_deeds channels.FeaturesLost v = (tt, tt)
event_deeds (channels.DisconnectLost own) v = tt

events_deeds : (list : List ChannelEvent) (v : Channels) → AllByRecursion IsOfNoBegin (events_tell list v)
events_deeds [] v = tt
events_deeds (event ∷ list) v = let u : Channels = record v { events = list } in all_both IsOfNoBegin (event_pushed event u) (events_tell list u) (event_deeds event u) (events_deeds list u)

sdu_deeds : (brought : Handed) → AllByRecursion IsOfNoBegin (sdu_tells brought)
sdu_deeds NoSdu = tt
sdu_deeds (Received own psm sdu) = (tt, tt)

news_deeds : (settings : Settings) (v : Channels) (news : News) → AllByRecursion IsOfNoBegin (news_tells settings v news)
news_deeds settings v (Linked Up) = (tt, tt)
news_deeds settings v (Linked (Down reason)) = (tt, tt)
news_deeds settings v (Failed status) = (tt, tt)
news_deeds settings v (Heard pdu) =
    let brought = up (channel_of pdu) pdu v in
    let w = hears (client_profile settings).policy (channel_of pdu) pdu v in
    all_both IsOfNoBegin (sdu_tells brought) (channels_tell w) (sdu_deeds brought) (events_deeds w.events w)
news_deeds settings v TimerFired = let w = timed_out (client_profile settings).policy v in all_both IsOfNoBegin (channels_tell w) (Does (Hears events.Timer) ∷ []) (events_deeds w.events w) (tt, tt)
news_deeds settings v Cancelled = (tt, tt)
news_deeds settings v (Opening name) = tt

plain_deeds : (settings : Settings) (v : Channels) (news : PlainNews) → AllByRecursion IsOfNoBegin (plain_tells settings v news)
plain_deeds settings v Nothing = tt
plain_deeds settings v LinkUp = (tt, tt)
plain_deeds settings v (LinkFailed status) = (tt, tt)
plain_deeds settings v (LinkDown reason) = (tt, tt)
plain_deeds settings v (Pdu channel octets) = news_deeds settings v (Heard octets)

pub tells_deeds : (settings : Settings) (one : One) (now : At) → AllByRecursion IsOfNoBegin (tells_client settings one now)
tells_deeds settings (Comes gifts unit) now = plain_deeds settings now.upper.channels (news_of unit now.line)
tells_deeds settings (Learns gifts news) now = news_deeds settings now.upper.channels news
tells_deeds settings (Says pdu) now = tt
tells_deeds settings (Puts handle piece) now = tt
tells_deeds settings (Commands command) now = tt
tells_deeds settings Waits now = tt

module _ (settings : Settings) where
  abbrev C : Profile ClientProfile
  C = client_profile settings

  -- ---- what its channels tell

  each_so : (list : List ChannelEvent) (v : Channels) (p : ClientProfile) → (tells_each (client_profile settings) list v p).client ≡ client_behind (events_tell list v) p.client
  each_so [] v p = refl
  each_so (event ∷ list) v p =
      let u : Channels = record v { events = list } in
      each_so list u (C.happened event u p) ∙ (ap (client_behind (events_tell list u)) (feed_so settings p (Happens_feed event u)) ∙ sym (behind_both (event_pushed event u) (events_tell list u) p.client))

  handed_so : (brought : Handed) (p : ClientProfile) → (handed (client_profile settings) brought p).client ≡ client_behind (sdu_tells brought) p.client
  handed_so NoSdu p = refl
  handed_so (Received own psm sdu) p = refl

  pdu_so : (pdu : List ℕ) (host : Host ClientProfile) → (hears_pdu (client_profile settings) pdu host).profile.client ≡ client_behind (news_tells settings host.channels (Heard pdu)) host.profile.client
  pdu_so pdu host =
      let brought = up (channel_of pdu) pdu host.channels in
      let v = hears C.policy (channel_of pdu) pdu host.channels in
      each_so v.events v (handed C brought host.profile) ∙ (ap (client_behind (channels_tell v)) (handed_so brought host.profile) ∙ sym (behind_both (sdu_tells brought) (channels_tell v) host.profile.client))

  -- those that end with their link tell nothing
  abbrev IsSilent : ChannelEvent → Type 0
  IsSilent event = (v : Channels) (c : Client) → event_heard event v c ≡ c

  lost_silent : (stage : ChannelStage) (held : Held) → AllByRecursion IsSilent (lost_at stage held)
  lost_silent (Requested request) held = ((λ v c. refl), tt)
  lost_silent (Connected peer setup) held = ((λ v c. refl), tt)
  lost_silent (Leaving peer setup request) held = ((λ v c. refl), tt)
  lost_silent (Closing peer request checked) held = tt
  lost_silent (Crossed peer request) held = tt

  all_silent : (list : List Held) → AllByRecursion IsSilent (flat_map (λ (held : Held). lost_at held.stage held) list)
  all_silent [] = tt
  all_silent (held ∷ list) = all_both IsSilent (lost_at held.stage held) (flat_map (λ (one : Held). lost_at one.stage one) list) (lost_silent held.stage held) (all_silent list)

  each_same : (list : List ChannelEvent) (v : Channels) (p : ClientProfile) → AllByRecursion IsSilent list → (tells_each (client_profile settings) list v p).client ≡ p.client
  each_same [] v p all = refl
  each_same (event ∷ list) v p all = let u : Channels = record v { events = list } in each_same list u (C.happened event u p) all.1 ∙ all.0 u p.client

  down_same : (host : Host ClientProfile) → host.channels.events ≡ [] → (tells_events (client_profile settings) (with_channels (link_down host.channels) host)).profile.client ≡ host.profile.client
  down_same host none =
      let v = link_down host.channels in
      each_same v.events v host.profile (subst (λ (l : List ChannelEvent). AllByRecursion IsSilent (l ++ flat_map (λ (held : Held). lost_at held.stage held) host.channels.held)) (sym none) (all_silent host.channels.held))

  -- ---- what comes of news

  told_ends : (gifts : List Circumstance) (news : News) (p : ClientProfile) (d : Client) → (fed (client_profile settings) p (Learns_feed gifts news)).client ≡ client_behind (then_ends d) d → (fed (client_profile settings) p (Learns_feed gifts news)).client.cause ≡ d.cause
  told_ends gifts news p d is = ap (λ (c : Client). c.cause) is ∙ ends_same d

  -- what it is told, and then its steps
  abbrev told_host : List Circumstance → News → Host ClientProfile → Host ClientProfile
  told_host gifts news host = host_hears (client_profile settings) gifts news (ready (client_profile settings) gifts host)

  pub record IsTold (gifts : List Circumstance) (news : News) (host : Host ClientProfile) : Type 0 where
    pub may : (told_host gifts news host).may_say ≡ most_said
    pub none : (told_host gifts news host).channels.events ≡ []
    pub cause_is : (told_host gifts news host).profile.client.cause ≡ (client_behind (news_tells settings host.channels news) host.profile.client).cause

  news_told : (gifts : List Circumstance) (news : News) (host : Host ClientProfile) → is_begin_news news ≡ false → host.channels.events ≡ [] → IsTold gifts news host
  news_told gifts (Linked Up) host calm none = record { may = refl; none = none; cause_is = refl }
  news_told gifts (Linked (Down reason)) host calm none =
      let now = ready C gifts host in
      let p = (tells_events C (with_channels (link_down now.channels) now)).profile in
      record {
        may = refl;
        none = refl;
        cause_is = told_ends gifts (Linked (Down reason)) p (hears_news (events.LinkDown reason) p.client) (feed_so settings p (Learns_feed gifts (Linked (Down reason))))
            ∙ ap (λ (d : Client). (hears_news (events.LinkDown reason) d).cause) (down_same now none);
      }
  news_told gifts (Failed status) host calm none =
      let p = (ready C gifts host).profile in
      record { may = refl; none = none; cause_is = told_ends gifts (Failed status) p (hears_news (events.LinkFailed status) p.client) (feed_so settings p (Learns_feed gifts (Failed status))) }
  news_told gifts (Heard pdu) host calm none = record { may = refl; none = refl; cause_is = ap (λ (c : Client). c.cause) (pdu_so pdu (ready C gifts host)) }
  news_told gifts TimerFired host calm none =
      let p = (ready C gifts host).profile in
      let v = timed_out C.policy host.channels in
      record {
        may = refl;
        none = refl;
        cause_is = ap (λ (c : Client). c.cause) (ap (hears_news events.Timer) (each_so v.events v p) ∙ sym (behind_both (channels_tell v) (Does (Hears events.Timer) ∷ []) p.client));
      }
  news_told gifts Cancelled host calm none =
      let p = (ready C gifts host).profile in
      record { may = refl; none = none; cause_is = told_ends gifts Cancelled p (cancelled p.client) (feed_so settings p (Learns_feed gifts Cancelled)) }
  news_told gifts (Opening name) host calm none = cc

  pub news_came : (gifts : List Circumstance) (news : News) (host : Host ClientProfile) → is_begin_news news ≡ false → host.channels.events ≡ []
      → Came is_shelf (client_behind (news_tells settings host.channels news) host.profile.client).cause (hear (client_profile settings) gifts news host).profile.client.cause
  news_came gifts news host calm none =
      let told = news_told gifts news host calm none in
      hears_so settings is_shelf (λ outcome is. is) (client_behind (news_tells settings host.channels news) host.profile.client).cause (told_host gifts news host) told.may told.none (same_came _ _ told.cause_is)

  -- exactly
  pub news_exactly : (gifts : List Circumstance) (news : News) (host : Host ClientProfile) → is_begin_news news ≡ false → host.channels.events ≡ []
      → (hear (client_profile settings) gifts news host).profile.client.cause ≡ first_of (client_behind (news_tells settings host.channels news) host.profile.client).cause (news_asked settings gifts news host)
  news_exactly gifts news host calm none =
      let told = news_told gifts news host calm none in
      let mid = told_host gifts news host in
      drives_exactly settings 3 mid (hear C gifts news host).profile.client.cause refl (hears_so settings is_shelf (λ outcome is. is) mid.profile.client.cause mid told.may told.none (came_same is_shelf mid.profile.client.cause))
      ∙ ap (λ (c : Option Outcome). first_of c (asked_shows mid)) told.cause_is

  line_exactly : (gifts : List Circumstance) (news : PlainNews) (host : Host ClientProfile) → host.channels.events ≡ []
      → (hears_line (upper (client_profile settings)) gifts news host).profile.client.cause ≡ first_of (client_behind (plain_tells settings host.channels news) host.profile.client).cause (plain_asked settings gifts news host)
  line_exactly gifts Nothing host none = sym (none_later host.profile.client.cause)
  line_exactly gifts LinkUp host none = news_exactly gifts (Linked Up) host refl none
  line_exactly gifts (LinkFailed status) host none = news_exactly gifts (Failed status) host refl none
  line_exactly gifts (LinkDown reason) host none = news_exactly gifts (Linked (Down reason)) host refl none
  line_exactly gifts (Pdu channel octets) host none = news_exactly gifts (Heard octets) host refl none

  pub line_came : (gifts : List Circumstance) (news : PlainNews) (host : Host ClientProfile) → host.channels.events ≡ []
      → Came is_shelf (client_behind (plain_tells settings host.channels news) host.profile.client).cause (hears_line (upper (client_profile settings)) gifts news host).profile.client.cause
  line_came gifts Nothing host none = came_same is_shelf host.profile.client.cause
  line_came gifts LinkUp host none = news_came gifts (Linked Up) host refl none
  line_came gifts (LinkFailed status) host none = news_came gifts (Failed status) host refl none
  line_came gifts (LinkDown reason) host none = news_came gifts (Linked (Down reason)) host refl none
  line_came gifts (Pdu channel octets) host none = news_came gifts (Heard octets) host refl none

  -- ---- of one thing that happens

  pub adds : (one : One) (old new : At) → Happens (upper (client_profile settings)) one old new → is_begin one ≡ false → old.upper.channels.events ≡ []
      → Came is_shelf (client_behind (tells_client settings one old) old.upper.profile.client).cause new.upper.profile.client.cause
  adds (Comes gifts unit) old new (fault, is) calm none =
      subst (λ (s : At). Came is_shelf (client_behind (tells_client settings (Comes gifts unit) old) old.upper.profile.client).cause s.upper.profile.client.cause) (sym is) (line_came gifts (news_of unit old.line) old.upper none)
  adds (Learns gifts news) old new (own, is) calm none =
      subst (λ (s : At). Came is_shelf (client_behind (tells_client settings (Learns gifts news) old) old.upper.profile.client).cause s.upper.profile.client.cause) (sym is) (news_came gifts news old.upper calm none)
  adds (Says pdu) old new says calm none = next_shelf settings old.upper pdu new.upper none says.next_is
  adds (Puts handle piece) old new puts calm none = same_came _ _ (ap (λ (h : Host ClientProfile). h.profile.client.cause) puts.upper_is)
  adds (Commands command) old new puts calm none = same_came _ _ (ap (λ (h : Host ClientProfile). h.profile.client.cause) puts.upper_is)
  adds Waits old new waits calm none = same_came _ _ (ap (λ (h : Host ClientProfile). h.profile.client.cause) waits.upper_is)

  -- it says a PDU
  says_exactly : (given : Option Given) (may_say : ℕ) (host : Host ClientProfile) (pdu : List ℕ) (after : Host ClientProfile) → says_so (client_profile settings) given may_say host ≡ Some (pdu, after) → Came is_shelf host.profile.client.cause after.profile.client.cause
      → after.profile.client.cause ≡ first_of host.profile.client.cause (says_asked may_say (with_channels (after_given host.channels) host))
  says_exactly None may host pdu after is came = cc
  says_exactly (Some given) zero host pdu after is came = cc
  says_exactly (Some given) (suc count) host pdu after is came = framed (is_frame (pdu_of given)) is
    where
      gone : Host ClientProfile
      gone = with_channels (after_given host.channels) host

      stepped : (half : Bool) → after.profile.client.cause ≡ (drives (client_profile settings) (if half then most_steps else 0) gone).profile.client.cause → after.profile.client.cause ≡ first_of host.profile.client.cause (if half then asked_shows gone else None)
      stepped true same = drives_exactly settings 3 gone after.profile.client.cause same came
      stepped false same = same ∙ (settled_same settings gone ∙ sym (none_later host.profile.client.cause))

      framed : (fits : Bool) → (let one : Option (List ℕ × Host ClientProfile) = if fits then Some (pdu_of given, after_said (client_profile settings) count host) else None in one ≡ Some (pdu, after))
          → after.profile.client.cause ≡ first_of host.profile.client.cause (says_asked (suc count) (with_channels (after_given host.channels) host))
      framed true is' = let same = second_same (pdu_of given) pdu (after_said (client_profile settings) count host) after is' in stepped (nat_le half_said count) (ap (λ (h : Host ClientProfile). h.profile.client.cause) (sym same))
      framed false is' = cc

  pub exactly : (one : One) (old new : At) → Happens (upper (client_profile settings)) one old new → is_begin one ≡ false → old.upper.channels.events ≡ []
      → new.upper.profile.client.cause ≡ first_of (client_behind (tells_client settings one old) old.upper.profile.client).cause (shelf_shows settings one old)
  exactly (Comes gifts unit) old new (fault, is) calm none = ap (λ (s : At). s.upper.profile.client.cause) is ∙ line_exactly gifts (news_of unit old.line) old.upper none
  exactly (Learns gifts news) old new (own, is) calm none = ap (λ (s : At). s.upper.profile.client.cause) is ∙ news_exactly gifts news old.upper calm none
  exactly (Says pdu) old new says calm none = says_exactly (next_given old.upper.channels) old.upper.may_say old.upper pdu new.upper says.next_is (next_shelf settings old.upper pdu new.upper none says.next_is)
  exactly (Puts handle piece) old new puts calm none = ap (λ (h : Host ClientProfile). h.profile.client.cause) puts.upper_is ∙ sym (none_later old.upper.profile.client.cause)
  exactly (Commands command) old new puts calm none = ap (λ (h : Host ClientProfile). h.profile.client.cause) puts.upper_is ∙ sym (none_later old.upper.profile.client.cause)
  exactly Waits old new waits calm none = ap (λ (h : Host ClientProfile). h.profile.client.cause) waits.upper_is ∙ sym (none_later old.upper.profile.client.cause)

  -- nothing is left to be told of its channels
  line_told : (gifts : List Circumstance) (news : PlainNews) (host : Host ClientProfile) → host.channels.events ≡ [] → (hears_line (upper (client_profile settings)) gifts news host).channels.events ≡ []
  line_told gifts Nothing host none = none
  line_told gifts LinkUp host none = act_told C (acts.Hears gifts (Linked Up)) host (hear C gifts (Linked Up) host) refl none
  line_told gifts (LinkFailed status) host none = act_told C (acts.Hears gifts (Failed status)) host (hear C gifts (Failed status) host) refl none
  line_told gifts (LinkDown reason) host none = act_told C (acts.Hears gifts (Linked (Down reason))) host (hear C gifts (Linked (Down reason)) host) refl none
  line_told gifts (Pdu channel octets) host none = act_told C (acts.Hears gifts (Heard octets)) host (hear C gifts (Heard octets) host) refl none

  pub one_told : (one : One) (old new : At) → Happens (upper (client_profile settings)) one old new → old.upper.channels.events ≡ [] → new.upper.channels.events ≡ []
  one_told (Comes gifts unit) old new (fault, is) none = ap (λ (s : At). s.upper.channels.events) is ∙ line_told gifts (news_of unit old.line) old.upper none
  one_told (Learns gifts news) old new (own, is) none = act_told C (acts.Hears gifts news) old.upper new.upper (ap (λ (s : At). s.upper) is) none
  one_told (Says pdu) old new says none = act_told C (acts.Says pdu) old.upper new.upper says.next_is none
  one_told (Puts handle piece) old new puts none = ap (λ (h : Host ClientProfile). h.channels.events) puts.upper_is ∙ none
  one_told (Commands command) old new puts none = ap (λ (h : Host ClientProfile). h.channels.events) puts.upper_is ∙ none
  one_told Waits old new waits none = ap (λ (h : Host ClientProfile). h.channels.events) waits.upper_is ∙ none

  pub run_told : (list : List One) (old new : At) → Runs (upper (client_profile settings)) Whatever list old new → old.upper.channels.events ≡ [] → new.upper.channels.events ≡ []
  run_told [] old new is none = ap (λ (s : At). s.upper.channels.events) is ∙ none
  run_told (one ∷ list) old new (mid, aside, happens, rest) none = run_told list mid new rest (one_told one old mid happens none)

  -- ---- outcomes

  pub shown_so : (one : One) (old : At) → old.upper.profile.client.cause ≡ None → (client_behind (tells_client settings one old) old.upper.profile.client).cause ≡ shown_with settings one old
  shown_so one old none = causes-are_first (tells_client settings one old) old.upper.profile.client ∙ ap (first_cause (tells_client settings one old) old.upper.profile.client) none

  exactly_shown : (shown : Option Outcome) (outcome : Outcome) → is_shelf outcome ≡ false → Came is_shelf shown (Some outcome) → shown ≡ Some outcome
  exactly_shown None outcome apart came = absurd (let never : false ≡ true = sym apart ∙ came in cc)
  exactly_shown (Some other) outcome apart came = sym came

  module _ (one : One) (old new : At) (happens : Happens (upper (client_profile settings)) one old new) (calm : is_begin one ≡ false) (told : old.upper.channels.events ≡ []) where
    came : Came is_shelf (client_behind (tells_client settings one old) old.upper.profile.client).cause new.upper.profile.client.cause
    came = adds one old new happens calm told

    -- what shows it brings it about
    pub comes_with : (outcome : Outcome) → (client_behind (tells_client settings one old) old.upper.profile.client).cause ≡ Some outcome → new.upper.profile.client.cause ≡ Some outcome
    comes_with outcome is = subst (λ (c : Option Outcome). Came is_shelf c new.upper.profile.client.cause) is came

    pub stays_with : (outcome : Outcome) → old.upper.profile.client.cause ≡ Some outcome → new.upper.profile.client.cause ≡ Some outcome
    stays_with outcome is = comes_with outcome (outcome_stays (tells_client settings one old) old.upper.profile.client outcome (tells_deeds settings one old) is)

    -- and what comes about was shown
    pub shown_there : (outcome : Outcome) → is_shelf outcome ≡ false → old.upper.profile.client.cause ≡ None → new.upper.profile.client.cause ≡ Some outcome → shown_with settings one old ≡ Some outcome
    shown_there outcome apart none is =
        sym (shown_so one old none)
        ∙ exactly_shown (client_behind (tells_client settings one old) old.upper.profile.client).cause outcome apart (subst (Came is_shelf (client_behind (tells_client settings one old) old.upper.profile.client).cause) is came)

    pub adds_up : new.upper.profile.client.cause ≡ first_of (first_of old.upper.profile.client.cause (shown_with settings one old)) (shelf_shows settings one old)
    adds_up = exactly one old new happens calm told ∙ ap (λ (c : Option Outcome). first_of c (shelf_shows settings one old)) (by old.upper.profile.client.cause refl)
      where
        by : (cause : Option Outcome) → old.upper.profile.client.cause ≡ cause → (client_behind (tells_client settings one old) old.upper.profile.client).cause ≡ first_of cause (shown_with settings one old)
        by None is = shown_so one old is
        by (Some outcome) is = outcome_stays (tells_client settings one old) old.upper.profile.client outcome (tells_deeds settings one old) is
