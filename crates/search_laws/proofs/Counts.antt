-- A client on a link spends a try for each request that its channel took.
use Rattle.std.proofs.Common.{◌≡◌, ◌≤◌, ◌+◌, ℕ, Bool, true, false, ◌==◌, cond, List, Option, Some, None, refl, sym, subst, ◌⊎◌, arith, if◌then◌else◌}
use Rattle.std.specs.Prelude.{nat_lt, min}
use Rattle.cause_laws.specs.bt_base.specs.declared.settings.Transport.{Transport}
use Rattle.cause_laws.specs.bt_base.specs.declared.settings.Transport.TheVariants.{L2cap, Rfcomm}
use Rattle.cause_laws.specs.push_terms.specs.declared.outcome.Outcome.{Outcome}
use Rattle.cause_laws.specs.push_terms.specs.declared.outcome.Outcome.TheVariants.{RetryLimit, NoService, Cancelled as PushCancelled}
use Rattle.cause_laws.specs.channel_model.specs.declared.event.ChannelEvent.{ChannelEvent}
use Rattle.cause_laws.specs.channel_model.specs.declared.event.ChannelEvent.TheVariants as channels
use Rattle.cause_laws.specs.channel_model.specs.Calls.{peer_mtu}
use Rattle.cause_laws.specs.channel_model.specs.Value.{Channels}
use Rattle.cause_laws.specs.sdp_client.specs.Asking.{after_resend}
use Rattle.cause_laws.specs.sdp_client.specs.declared.reason.Found.{Found}
use Rattle.cause_laws.specs.sdp_client.specs.declared.reason.Found.TheVariants as found
use Rattle.cause_laws.specs.sdp_client.specs.Hearing.{found_at, after_reply}
use Rattle.cause_laws.specs.sdp_elements.specs.declared.target.Target.{Target}
use Rattle.cause_laws.specs.sdp_elements.specs.Targets.{is_service_psm, is_server_channel}
use Rattle.cause_laws.specs.push_model.specs.declared.closing.CloseCause.{CloseCause}
use Rattle.cause_laws.specs.push_model.specs.declared.course.Point.TheVariants.{Due, Asked}
use Rattle.cause_laws.specs.push_model.specs.declared.course.Stage.{Stage}
use Rattle.cause_laws.specs.push_model.specs.declared.course.Stage.TheVariants.{Rest, Link, SearchChannel, Search, SearchEnd, Features, ObjectChannel, Object, ObjectEnd, LinkEnd, Over}
use Rattle.cause_laws.specs.push_model.specs.Causes.{Ending, InOrder, AtOnce, ending_of, cause_of_close, cause_of_page, cause_of_query, small_channel, unawaited_response}
use Rattle.cause_laws.specs.push_model.specs.Client.{Client, at_once, in_order, stage_after, ends, ends_by, ends_if, may_cancel, cancelled}
use Rattle.cause_laws.specs.push_model.specs.Events as events
use Rattle.cause_laws.specs.push_model.specs.Events.{is_search, is_paging, is_asking_features, search_psm, over, over_by, object_opened, opened_at, stage_behind, search_left, search_closed, closed_at, kept_of, found_psm, found_channel, found_way, finds, hears_reply, hears_outside, hears_object, sdu_at, armed}
use Rattle.cause_laws.specs.host_model.specs.Clients.{cause_of, closed_by, opened_by, event_heard}
use Rattle.pair_laws.specs.push_laws.proofs.Late.{IsLate, anchor_of, object_late}
use Rattle.search_laws.specs.Searches.{awaits_reply}

-- whether nothing of its last request is to be taken still: no step of it was given, or its channel took what the step gave
abbrev pub IsSettled : (given waits : Bool) → Type 0
IsSettled given waits = (given ≡ false) ⊎ (waits ≡ true)

-- Ahead of its search it has all its tries, and an SDU of it waits only with a step that was given; in it, so many are spent at most.
abbrev pub StageCounts : (count : ℕ) → (given waits : Bool) → Stage → (tries left : ℕ) → Type 0
StageCounts count given waits (SearchChannel point) tries left = (given ≡ false → waits ≡ false) × (tries ≤ left)
StageCounts count given waits Search tries left = (given ≡ false → waits ≡ false) × (IsSettled given waits → tries ≤ left + count)
StageCounts count given waits stage tries left = Unit {0}

-- an SDU of it waits, or none does
module _ (count : ℕ) (waits : Bool) where
  abbrev pub Counts : Client → Type 0
  Counts c = StageCounts count c.given waits c.stage c.tries c.left

  abbrev Now : Stage → Client → Type 0
  Now stage c = StageCounts count c.given waits stage c.tries c.left

  here : (stage : Stage) (c : Client) → c.stage ≡ stage → Now stage c → Counts c
  here stage c at now = subst (λ (s : Stage). Now s c) (sym at) now

  either : (test : Bool) (c d : Client) → Counts c → Counts d → Counts (cond test c d)
  either true c d x y = x
  either false c d x y = y

  pub late_counts : (stage : Stage) (given : Bool) (tries left : ℕ) → IsLate stage → StageCounts count given waits stage tries left
  late_counts Object given tries left late = tt
  late_counts (ObjectEnd point) given tries left late = tt
  late_counts (LinkEnd point) given tries left late = tt
  late_counts Over given tries left late = tt
  late_counts Rest given tries left late = tt
  late_counts (Link point) given tries left late = tt
  late_counts (SearchChannel point) given tries left late = absurd late
  late_counts Search given tries left late = absurd late
  late_counts (SearchEnd point) given tries left late = tt
  late_counts (Features point) given tries left late = tt
  late_counts (ObjectChannel point) given tries left late = tt

  -- ---- it ends

  once_counts : (stage : Stage) (given : Bool) (tries left : ℕ) → StageCounts count given waits (at_once stage) tries left
  once_counts Rest given tries left = tt
  once_counts (Link Due) given tries left = tt
  once_counts (Link Asked) given tries left = tt
  once_counts (SearchChannel point) given tries left = tt
  once_counts Search given tries left = tt
  once_counts (SearchEnd point) given tries left = tt
  once_counts (Features point) given tries left = tt
  once_counts (ObjectChannel point) given tries left = tt
  once_counts Object given tries left = tt
  once_counts (ObjectEnd point) given tries left = tt
  once_counts (LinkEnd point) given tries left = tt
  once_counts Over given tries left = tt

  order_counts : (stage : Stage) (given : Bool) (tries left : ℕ) → StageCounts count given waits (in_order stage) tries left
  order_counts Rest given tries left = tt
  order_counts (Link Due) given tries left = tt
  order_counts (Link Asked) given tries left = tt
  order_counts (SearchChannel Due) given tries left = tt
  order_counts (SearchChannel Asked) given tries left = tt
  order_counts Search given tries left = tt
  order_counts (SearchEnd point) given tries left = tt
  order_counts (Features point) given tries left = tt
  order_counts (ObjectChannel Due) given tries left = tt
  order_counts (ObjectChannel Asked) given tries left = tt
  order_counts Object given tries left = tt
  order_counts (ObjectEnd point) given tries left = tt
  order_counts (LinkEnd point) given tries left = tt
  order_counts Over given tries left = tt

  after_counts : (ending : Ending) (stage : Stage) (given : Bool) (tries left : ℕ) → StageCounts count given waits (stage_after ending stage) tries left
  after_counts InOrder stage given tries left = order_counts stage given tries left
  after_counts AtOnce stage given tries left = once_counts stage given tries left

  ends_counts : (outcome : Outcome) (c : Client) → Counts (ends outcome c)
  ends_counts outcome c = by c.cause
    where
      by : (cause : Option Outcome) → Counts (ends_by cause outcome c)
      by None = after_counts (ending_of outcome) c.stage c.given c.tries c.left
      by (Some earlier) = once_counts c.stage c.given c.tries c.left

  ends_if_counts : (cause : Option Outcome) (c : Client) → Counts c → Counts (ends_if cause c)
  ends_if_counts None c counts = counts
  ends_if_counts (Some outcome) c counts = ends_counts outcome c

  over_counts : (outcome : Outcome) (c : Client) → Counts (over outcome c)
  over_counts outcome c = by c.cause
    where
      by : (cause : Option Outcome) → Counts (over_by cause outcome c)
      by None = tt
      by (Some earlier) = tt

  -- ---- its channels

  object_counts : (transport : Transport) (mtu : ℕ) (c : Client) → Counts (object_opened transport mtu c)
  object_counts L2cap mtu c = either (nat_lt mtu 255) (ends small_channel c) (record c { stage = Object; limit = min mtu 32767 }) (ends_counts small_channel c) tt
  object_counts Rfcomm mtu c = tt

  opened_counts : (stage : Stage) (psm mtu : ℕ) (c : Client) → Now stage c → Counts c → Counts (opened_at stage psm mtu c)
  opened_counts (SearchChannel Asked) psm mtu c now counts = either (psm == search_psm) (record c { stage = Search }) c (now.0, λ settled. let whole = now.1 in omega (arith, whole)) counts
  opened_counts (ObjectChannel Asked) psm mtu c now counts = either (psm == c.psm) (object_opened c.transport mtu c) c (object_counts c.transport mtu c) counts
  opened_counts Rest psm mtu c now counts = counts
  opened_counts (Link point) psm mtu c now counts = counts
  opened_counts (SearchChannel Due) psm mtu c now counts = counts
  opened_counts Search psm mtu c now counts = counts
  opened_counts (SearchEnd point) psm mtu c now counts = counts
  opened_counts (Features point) psm mtu c now counts = counts
  opened_counts (ObjectChannel Due) psm mtu c now counts = counts
  opened_counts Object psm mtu c now counts = counts
  opened_counts (ObjectEnd point) psm mtu c now counts = counts
  opened_counts (LinkEnd point) psm mtu c now counts = counts
  opened_counts Over psm mtu c now counts = counts

  behind_counts : (transport : Transport) (given : Bool) (tries left : ℕ) → StageCounts count given waits (stage_behind transport) tries left
  behind_counts L2cap given tries left = tt
  behind_counts Rfcomm given tries left = tt

  left_counts : (cause : Option Outcome) (c : Client) → Counts (search_left cause c)
  left_counts None c = behind_counts c.transport c.given c.tries c.left
  left_counts (Some outcome) c = tt

  search_counts : (cause : Option Outcome) (c : Client) → Counts (search_closed cause c)
  search_counts None c = left_counts c.cause c
  search_counts (Some outcome) c = ends_counts outcome c

  closed_counts : (stage : Stage) (psm : ℕ) (cause : CloseCause) (c : Client) → Counts c → Counts (closed_at stage psm cause c)
  closed_counts (SearchChannel Asked) psm cause c counts = either (psm == search_psm) (ends_if (cause_of_close cause) c) c (ends_if_counts (cause_of_close cause) c counts) counts
  closed_counts Search psm cause c counts = either (psm == search_psm) (ends_if (cause_of_close cause) c) c (ends_if_counts (cause_of_close cause) c counts) counts
  closed_counts (SearchEnd point) psm cause c counts = either (psm == search_psm) (search_closed (cause_of_close cause) c) c (search_counts (cause_of_close cause) c) counts
  closed_counts (ObjectChannel Asked) psm cause c counts = either (psm == c.psm) (ends_if (cause_of_close cause) c) c (ends_if_counts (cause_of_close cause) c counts) counts
  closed_counts Object psm cause c counts = either (psm == c.psm) (ends_if (cause_of_close cause) c) c (ends_if_counts (cause_of_close cause) c counts) counts
  closed_counts (ObjectEnd point) psm cause c counts = either (psm == c.psm) (record c { stage = LinkEnd Due }) c tt counts
  closed_counts Rest psm cause c counts = counts
  closed_counts (Link point) psm cause c counts = counts
  closed_counts (SearchChannel Due) psm cause c counts = counts
  closed_counts (Features point) psm cause c counts = counts
  closed_counts (ObjectChannel Due) psm cause c counts = counts
  closed_counts (LinkEnd point) psm cause c counts = counts
  closed_counts Over psm cause c counts = counts

  pub event_counts : (event : ChannelEvent) (v : Channels) (c : Client) → Counts c → Counts (event_heard event v c)
  event_counts (channels.Opened own psm) v c counts = by (peer_mtu own v)
    where
      by : (mtu : Option ℕ) → Counts (opened_by mtu psm c)
      by None = counts
      by (Some mtu) = opened_counts c.stage psm mtu c counts counts
  event_counts (channels.Closed own psm reason) v c counts = by (cause_of reason)
    where
      by : (cause : Option CloseCause) → Counts (closed_by cause psm c)
      by None = counts
      by (Some cause) = closed_counts c.stage psm cause c counts
  event_counts (channels.Features features) v c counts = either (is_asking_features c.stage) (record c { stage = ObjectChannel Due }) c tt counts
  event_counts channels.FeaturesLost v c counts = either (is_asking_features c.stage) (ends RetryLimit c) c (ends_counts RetryLimit c) counts
  event_counts (channels.DisconnectLost own) v c counts = counts

  -- ---- an SDU

  way_counts : (transport : Transport) (target : Target) (c : Client) → Counts (found_way transport target c)
  way_counts L2cap target c = by (kept_of is_service_psm target.l2cap)
    where
      by : (psm : Option ℕ) → Counts (found_psm psm c)
      by None = ends_counts NoService c
      by (Some psm) = tt
  way_counts Rfcomm target c = by (kept_of is_server_channel target.rfcomm)
    where
      by : (channel : Option ℕ) → Counts (found_channel channel c)
      by None = ends_counts NoService c
      by (Some channel) = tt

  -- with the next part it has all its tries
  finds_counts : (what : Found) (c : Client) → c.stage ≡ Search → Now Search c → Counts (finds what c)
  finds_counts found.More c at now = here Search (record c { left = c.tries }) at (now.0, λ settled. omega arith)
  finds_counts (found.Service target) c at now = way_counts c.transport target c
  finds_counts found.NoService c at now = ends_counts NoService c
  finds_counts (found.Refused reason) c at now = ends_if_counts (cause_of_query reason) c (here Search c at now)

  outside_counts : (transport : Transport) (c : Client) → Counts c → Counts (hears_outside transport c)
  outside_counts L2cap c counts = ends_counts unawaited_response c
  outside_counts Rfcomm c counts = counts

  sdu_counts : (stage : Stage) (psm : ℕ) (sdu : List ℕ) (c : Client) → c.stage ≡ stage → Now stage c → Counts c → Counts (sdu_at stage psm sdu c)
  sdu_counts Search psm sdu c at now counts = either (psm == search_psm) (hears_reply sdu c) c (finds_counts (found_at c.query sdu) (record c { query = after_reply c.query sdu }) at now) counts
  sdu_counts (ObjectChannel point) psm sdu c at now counts = either (psm == c.psm) (hears_outside c.transport c) c (outside_counts c.transport c counts) counts
  sdu_counts Object psm sdu c at now counts =
      let after = hears_object c.transport sdu c in
      either (psm == c.psm) after c (late_counts after.stage after.given after.tries after.left (object_late (anchor_of c) c.transport sdu c (subst IsLate (sym at) tt, refl)).0) counts
  sdu_counts (ObjectEnd point) psm sdu c at now counts = either (psm == c.psm) (hears_outside c.transport c) c (outside_counts c.transport c counts) counts
  sdu_counts Rest psm sdu c at now counts = counts
  sdu_counts (Link point) psm sdu c at now counts = counts
  sdu_counts (SearchChannel point) psm sdu c at now counts = counts
  sdu_counts (SearchEnd point) psm sdu c at now counts = counts
  sdu_counts (Features point) psm sdu c at now counts = counts
  sdu_counts (LinkEnd point) psm sdu c at now counts = counts
  sdu_counts Over psm sdu c at now counts = counts

  pub hears_counts : (psm : ℕ) (sdu : List ℕ) (c : Client) → Counts c → Counts (events.hears_news (events.Sdu psm sdu) c)
  hears_counts psm sdu c counts = sdu_counts c.stage psm sdu c refl counts counts

  -- ---- its timer, and the end of its push

  pub timer_counts : (c : Client) → Counts c → Counts (events.hears_news events.Timer c)
  timer_counts c counts =
      either (awaits_reply c) (if c.left == 0 then ends RetryLimit c else record c { query = after_resend c.query }) c (either (c.left == 0) (ends RetryLimit c) (record c { query = after_resend c.query }) (ends_counts RetryLimit c) counts) counts

  pub failed_counts : (status : ℕ) (c : Client) → Counts c → Counts (events.hears_news (events.LinkFailed status) c)
  failed_counts status c counts = either (is_paging c.stage) (over (cause_of_page status) c) c (over_counts (cause_of_page status) c) counts

  pub cancels_counts : (c : Client) → Counts c → Counts (cancelled c)
  cancels_counts c counts = either (may_cancel c) (ends PushCancelled c) c (ends_counts PushCancelled c) counts
