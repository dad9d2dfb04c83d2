-- What a client does and hears spends its tries alone: it sends its request no more often than it is paid for.
use Rattle.std.proofs.Common.{◌≡◌, ◌≤◌, ◌+◌, ◌-◌, ℕ, Bool, true, false, not, ◌&&◌, ◌||◌, ◌==◌, cond, List, length, ◌++◌, Option, Some, None, Result, Ok, Err, refl, sym, ap, subst, ◌⊎◌, inl, inr, arith, if◌then◌else◌}
use Rattle.std.specs.Prelude.{is_some, nat_lt, min}
use Rattle.cause_laws.specs.bt_base.specs.declared.ports.PortFault.{PortFault}
use Rattle.cause_laws.specs.bt_base.specs.declared.ports.PortFault.TheVariants as fault
use Rattle.cause_laws.specs.bt_base.specs.declared.settings.Transport.{Transport}
use Rattle.cause_laws.specs.bt_base.specs.declared.settings.Transport.TheVariants.{L2cap, Rfcomm}
use Rattle.cause_laws.specs.push_terms.specs.declared.outcome.Outcome.{Outcome}
use Rattle.cause_laws.specs.push_terms.specs.declared.outcome.Outcome.TheVariants.{RetryLimit, NoService, Cancelled as PushCancelled}
use Rattle.cause_laws.specs.sdp_client.specs.Asking.{Asking, is_due, after_request, after_resend, request_octets, waits, written}
use Rattle.cause_laws.specs.sdp_client.specs.Views.{is_awaiting}
use Rattle.cause_laws.specs.sdp_client.specs.declared.query.Stage.{Stage as Query_stage}
use Rattle.cause_laws.specs.sdp_client.specs.declared.query.Stage.TheVariants as queries
use Rattle.cause_laws.specs.sdp_client.specs.declared.reason.Found.{Found}
use Rattle.cause_laws.specs.sdp_client.specs.declared.reason.Found.TheVariants as found
use Rattle.cause_laws.specs.sdp_client.specs.declared.reason.QueryReason.TheVariants.{WrongTransaction, TooLong}
use Rattle.cause_laws.specs.sdp_client.specs.Hearing.{ended, with_part, stage_in, found_in, asks_on, found_part, after_part, found_said, when_said, found_by, after_said, found_when, after_when, found_at, after_reply}
use Rattle.cause_laws.specs.sdp_client.specs.Replies.{PlainPart, PlainSaid, Gives, Failed, Nothing, said_in, is_of_another}
use Rattle.cause_laws.specs.sdp_elements.specs.declared.target.Target.{Target}
use Rattle.cause_laws.specs.sdp_elements.specs.Targets.{target_in, is_service_psm, is_server_channel}
use Rattle.cause_laws.specs.push_model.specs.declared.closing.CloseCause.{CloseCause}
use Rattle.cause_laws.specs.push_model.specs.declared.course.Point.TheVariants.{Due, Asked}
use Rattle.cause_laws.specs.push_model.specs.declared.course.Stage.{Stage}
use Rattle.cause_laws.specs.push_model.specs.declared.course.Stage.TheVariants.{Rest, Link, SearchChannel, Search, SearchEnd, Features, ObjectChannel, Object, ObjectEnd, LinkEnd, Over}
use Rattle.cause_laws.specs.push_model.specs.Causes.{Ending, InOrder, AtOnce, ending_of, cause_of_close, cause_of_link, cause_of_page, cause_of_query, small_channel, unawaited_response}
use Rattle.cause_laws.specs.push_model.specs.Client.{Client, at_once, in_order, stage_after, ends, ends_by, ends_if, may_cancel, cancelled, begins, begun_by}
use Rattle.cause_laws.specs.push_model.specs.Events as events
use Rattle.cause_laws.specs.push_model.specs.Events.{is_search, is_linked, is_paging, is_asking_features, search_psm, over, over_by, linked_at, object_opened, opened_at, stage_behind, search_left, search_closed, closed_at, kept_of, found_psm, found_channel, found_way, finds, hears_reply, hears_outside, hears_object, sdu_at, armed}
use Rattle.cause_laws.specs.push_model.specs.Payloads.{Octets}
use Rattle.cause_laws.specs.push_model.specs.Steps as course
use Rattle.cause_laws.specs.push_model.specs.Steps.{Part, Stepped, steps, steps_at, tells_end}
use Rattle.pair_laws.specs.push_laws.proofs.Late.{IsLate, anchor_of, object_late, object_quiet}
use Rattle.pair_laws.specs.channel_laws.specs.Tries.{one_if}
use Rattle.search_laws.specs.Searches.{awaits_reply, IsSearchPaid}

-- ---- what is paid

-- Ahead of its search all tries are left; in it, so many are spent at most, and one more where the request is not to be sent again as yet.
abbrev pub StagePaid : (adverse : ℕ) → Stage → (tries left : ℕ) → (due : Bool) → Type 0
StagePaid adverse (Link point) tries left due = tries ≤ left
StagePaid adverse (SearchChannel point) tries left due = tries ≤ left
StagePaid adverse Search tries left due = tries ≤ left + (adverse + one_if (not due))
StagePaid adverse stage tries left due = Unit {0}

abbrev pub IsPaid : ℕ → Client → Type 0
IsPaid adverse client = StagePaid adverse client.stage client.tries client.left (is_due client.query)

pub paid_by : (adverse : ℕ) (client : Client) → IsPaid adverse client → IsSearchPaid adverse client
paid_by adverse client paid = by client.stage paid
  where
    by : (stage : Stage) → StagePaid adverse stage client.tries client.left (is_due client.query) → is_search stage ≡ true → client.tries ≤ client.left + (adverse + one_if (not (is_due client.query)))
    by Search paid is = paid
    by Rest paid is = cc
    by (Link point) paid is = cc
    by (SearchChannel point) paid is = cc
    by (SearchEnd point) paid is = cc
    by (Features point) paid is = cc
    by (ObjectChannel point) paid is = cc
    by Object paid is = cc
    by (ObjectEnd point) paid is = cc
    by (LinkEnd point) paid is = cc
    by Over paid is = cc

stage_more : (adverse most : ℕ) (stage : Stage) (tries left : ℕ) (due : Bool) → adverse ≤ most → StagePaid adverse stage tries left due → StagePaid most stage tries left due
stage_more adverse most Search tries left due more paid = omega (arith, more, paid)
stage_more adverse most (Link point) tries left due more paid = paid
stage_more adverse most (SearchChannel point) tries left due more paid = paid
stage_more adverse most Rest tries left due more paid = tt
stage_more adverse most (SearchEnd point) tries left due more paid = tt
stage_more adverse most (Features point) tries left due more paid = tt
stage_more adverse most (ObjectChannel point) tries left due more paid = tt
stage_more adverse most Object tries left due more paid = tt
stage_more adverse most (ObjectEnd point) tries left due more paid = tt
stage_more adverse most (LinkEnd point) tries left due more paid = tt
stage_more adverse most Over tries left due more paid = tt

pub more_paid : (adverse most : ℕ) (client : Client) → adverse ≤ most → IsPaid adverse client → IsPaid most client
more_paid adverse most client more paid = stage_more adverse most client.stage client.tries client.left (is_due client.query) more paid

at_most_one : (b : Bool) → one_if b ≤ 1
at_most_one true = omega arith
at_most_one false = omega arith

-- a request that was written is not to be written
written_not : (stage : Query_stage) → waits stage ≡ true → waits (written stage) ≡ false
written_not queries.Due due = refl
written_not queries.Written due = cc
written_not queries.Again due = refl
written_not queries.Answered due = cc
written_not (queries.Refused reason) due = cc

both_left : (a b c : Bool) → ((a && b) && c) ≡ true → a ≡ true
both_left true b c is = refl
both_left false b c is = cc

armed_search : (c : Client) → awaits_reply c ≡ true → is_search c.stage ≡ true
armed_search c is = both_left (is_search c.stage) (is_awaiting c.query) (not (c.given || is_due c.query)) is

-- of what counts as due
module _ (adverse : ℕ) (shows : Asking → Bool) where
  abbrev Paid : Client → Type 0
  Paid client = StagePaid adverse client.stage client.tries client.left (shows client.query)

  -- as it stands at that stage
  abbrev At : Stage → Client → Type 0
  At stage client = StagePaid adverse stage client.tries client.left (shows client.query)

  here : (stage : Stage) (c : Client) → c.stage ≡ stage → At stage c → Paid c
  here stage c at paid = subst (λ (s : Stage). At s c) (sym at) paid

  either : (test : Bool) (c d : Client) → Paid c → Paid d → Paid (cond test c d)
  either true c d x y = x
  either false c d x y = y

  late_paid : (stage : Stage) (tries left : ℕ) (due : Bool) → IsLate stage → StagePaid adverse stage tries left due
  late_paid Object tries left due late = tt
  late_paid (ObjectEnd point) tries left due late = tt
  late_paid (LinkEnd point) tries left due late = tt
  late_paid Over tries left due late = tt
  late_paid Rest tries left due late = tt
  late_paid (Link point) tries left due late = absurd late
  late_paid (SearchChannel point) tries left due late = absurd late
  late_paid Search tries left due late = absurd late
  late_paid (SearchEnd point) tries left due late = tt
  late_paid (Features point) tries left due late = tt
  late_paid (ObjectChannel point) tries left due late = tt

  -- ---- it ends

  once_paid : (stage : Stage) (tries left : ℕ) (due : Bool) → StagePaid adverse stage tries left due → StagePaid adverse (at_once stage) tries left due
  once_paid (Link Due) tries left due paid = tt
  once_paid (Link Asked) tries left due paid = paid
  once_paid Rest tries left due paid = tt
  once_paid (SearchChannel point) tries left due paid = tt
  once_paid Search tries left due paid = tt
  once_paid (SearchEnd point) tries left due paid = tt
  once_paid (Features point) tries left due paid = tt
  once_paid (ObjectChannel point) tries left due paid = tt
  once_paid Object tries left due paid = tt
  once_paid (ObjectEnd point) tries left due paid = tt
  once_paid (LinkEnd point) tries left due paid = tt
  once_paid Over tries left due paid = tt

  order_paid : (stage : Stage) (tries left : ℕ) (due : Bool) → StagePaid adverse stage tries left due → StagePaid adverse (in_order stage) tries left due
  order_paid (Link Due) tries left due paid = tt
  order_paid (Link Asked) tries left due paid = paid
  order_paid Rest tries left due paid = tt
  order_paid (SearchChannel Due) tries left due paid = tt
  order_paid (SearchChannel Asked) tries left due paid = tt
  order_paid Search tries left due paid = tt
  order_paid (SearchEnd point) tries left due paid = tt
  order_paid (Features point) tries left due paid = tt
  order_paid (ObjectChannel Due) tries left due paid = tt
  order_paid (ObjectChannel Asked) tries left due paid = tt
  order_paid Object tries left due paid = tt
  order_paid (ObjectEnd point) tries left due paid = tt
  order_paid (LinkEnd point) tries left due paid = tt
  order_paid Over tries left due paid = tt

  after_paid : (ending : Ending) (stage : Stage) (tries left : ℕ) (due : Bool) → StagePaid adverse stage tries left due → StagePaid adverse (stage_after ending stage) tries left due
  after_paid InOrder stage tries left due paid = order_paid stage tries left due paid
  after_paid AtOnce stage tries left due paid = once_paid stage tries left due paid

  pub ends_paid : (outcome : Outcome) (c : Client) → Paid c → Paid (ends outcome c)
  ends_paid outcome c paid = by c.cause
    where
      by : (cause : Option Outcome) → Paid (ends_by cause outcome c)
      by None = after_paid (ending_of outcome) c.stage c.tries c.left (shows c.query) paid
      by (Some earlier) = once_paid c.stage c.tries c.left (shows c.query) paid

  ends_if_paid : (cause : Option Outcome) (c : Client) → Paid c → Paid (ends_if cause c)
  ends_if_paid None c paid = paid
  ends_if_paid (Some outcome) c paid = ends_paid outcome c paid

  over_paid : (outcome : Outcome) (c : Client) → Paid (over outcome c)
  over_paid outcome c = by c.cause
    where
      by : (cause : Option Outcome) → Paid (over_by cause outcome c)
      by None = tt
      by (Some earlier) = tt

  -- ---- its link

  pub linked_paid : (stage : Stage) (c : Client) → At stage c → Paid c → Paid (linked_at stage c)
  linked_paid (Link Asked) c now paid = by (is_some c.cause)
    where
      by : (ended' : Bool) → Paid (cond ended' (record c { stage = LinkEnd Due }) (record c { stage = SearchChannel Due }))
      by true = tt
      by false = now
  linked_paid Rest c now paid = paid
  linked_paid (Link Due) c now paid = paid
  linked_paid (SearchChannel point) c now paid = paid
  linked_paid Search c now paid = paid
  linked_paid (SearchEnd point) c now paid = paid
  linked_paid (Features point) c now paid = paid
  linked_paid (ObjectChannel point) c now paid = paid
  linked_paid Object c now paid = paid
  linked_paid (ObjectEnd point) c now paid = paid
  linked_paid (LinkEnd point) c now paid = paid
  linked_paid Over c now paid = paid

  -- ---- its channels

  object_paid : (transport : Transport) (mtu : ℕ) (c : Client) → Paid c → Paid (object_opened transport mtu c)
  object_paid L2cap mtu c paid = either (nat_lt mtu 255) (ends small_channel c) (record c { stage = Object; limit = min mtu 32767 }) (ends_paid small_channel c paid) tt
  object_paid Rfcomm mtu c paid = tt

  pub opened_paid : (stage : Stage) (psm mtu : ℕ) (c : Client) → At stage c → Paid c → Paid (opened_at stage psm mtu c)
  opened_paid (SearchChannel Asked) psm mtu c now paid = either (psm == search_psm) (record c { stage = Search }) c (omega (arith, now)) paid
  opened_paid (ObjectChannel Asked) psm mtu c now paid = either (psm == c.psm) (object_opened c.transport mtu c) c (object_paid c.transport mtu c paid) paid
  opened_paid Rest psm mtu c now paid = paid
  opened_paid (Link point) psm mtu c now paid = paid
  opened_paid (SearchChannel Due) psm mtu c now paid = paid
  opened_paid Search psm mtu c now paid = paid
  opened_paid (SearchEnd point) psm mtu c now paid = paid
  opened_paid (Features point) psm mtu c now paid = paid
  opened_paid (ObjectChannel Due) psm mtu c now paid = paid
  opened_paid Object psm mtu c now paid = paid
  opened_paid (ObjectEnd point) psm mtu c now paid = paid
  opened_paid (LinkEnd point) psm mtu c now paid = paid
  opened_paid Over psm mtu c now paid = paid

  behind_paid : (transport : Transport) (tries left : ℕ) (due : Bool) → StagePaid adverse (stage_behind transport) tries left due
  behind_paid L2cap tries left due = tt
  behind_paid Rfcomm tries left due = tt

  left_paid : (cause : Option Outcome) (c : Client) → Paid (search_left cause c)
  left_paid None c = behind_paid c.transport c.tries c.left (shows c.query)
  left_paid (Some outcome) c = tt

  search_paid : (cause : Option Outcome) (c : Client) → Paid c → Paid (search_closed cause c)
  search_paid None c paid = left_paid c.cause c
  search_paid (Some outcome) c paid = ends_paid outcome c paid

  pub closed_paid : (stage : Stage) (psm : ℕ) (cause : CloseCause) (c : Client) → Paid c → Paid (closed_at stage psm cause c)
  closed_paid (SearchChannel Asked) psm cause c paid = either (psm == search_psm) (ends_if (cause_of_close cause) c) c (ends_if_paid (cause_of_close cause) c paid) paid
  closed_paid Search psm cause c paid = either (psm == search_psm) (ends_if (cause_of_close cause) c) c (ends_if_paid (cause_of_close cause) c paid) paid
  closed_paid (SearchEnd point) psm cause c paid = either (psm == search_psm) (search_closed (cause_of_close cause) c) c (search_paid (cause_of_close cause) c paid) paid
  closed_paid (ObjectChannel Asked) psm cause c paid = either (psm == c.psm) (ends_if (cause_of_close cause) c) c (ends_if_paid (cause_of_close cause) c paid) paid
  closed_paid Object psm cause c paid = either (psm == c.psm) (ends_if (cause_of_close cause) c) c (ends_if_paid (cause_of_close cause) c paid) paid
  closed_paid (ObjectEnd point) psm cause c paid = either (psm == c.psm) (record c { stage = LinkEnd Due }) c tt paid
  closed_paid Rest psm cause c paid = paid
  closed_paid (Link point) psm cause c paid = paid
  closed_paid (SearchChannel Due) psm cause c paid = paid
  closed_paid (Features point) psm cause c paid = paid
  closed_paid (ObjectChannel Due) psm cause c paid = paid
  closed_paid (LinkEnd point) psm cause c paid = paid
  closed_paid Over psm cause c paid = paid

  pub features_paid : (c : Client) → Paid c → Paid (events.hears_news events.FeaturesTold c)
  features_paid c paid = either (is_asking_features c.stage) (record c { stage = ObjectChannel Due }) c tt paid

  pub lost_paid : (c : Client) → Paid c → Paid (events.hears_news events.FeaturesLost c)
  lost_paid c paid = either (is_asking_features c.stage) (ends RetryLimit c) c (ends_paid RetryLimit c paid) paid

-- ---- with a question

module _ (adverse : ℕ) where
  abbrev Pays : Client → Type 0
  Pays client = IsPaid adverse client

  abbrev Stands : Stage → Client → Type 0
  Stands stage client = StagePaid adverse stage client.tries client.left (is_due client.query)

  -- ---- a reply

  -- the next part is to be asked for only where a part came
  part_asks : (q : Asking) (part : PlainPart) → is_due (after_part q part) ≡ true → found_part q part ≡ found.More
  part_asks q part = by (nat_lt 4096 (length (q.joined ++ part.octets))) (length part.continuation == 0) (target_in (q.joined ++ part.octets))
    where
      by : (long last : Bool) (target : Option Target) → is_due (cond long (ended q TooLong) (cond last (record (with_part q part) { stage = stage_in target }) (asks_on (with_part q part) part.continuation))) ≡ true
          → cond long (found.Refused TooLong) (cond last (found_in target) found.More) ≡ found.More
      by true last target due = cc
      by false true None due = cc
      by false true (Some target) due = cc
      by false false target due = refl

  said_asks : (q : Asking) (said : PlainSaid) → is_due (when_said q said) ≡ true → found_said q said ≡ found.More
  said_asks q (Gives part) due = part_asks q part due
  said_asks q (Failed code) due = cc
  said_asks q Nothing due = cc

  heard_asks : (q : Asking) (octets : List ℕ) → is_due (after_said q octets) ≡ true → (is_due q ≡ true) ⊎ (found_by q octets ≡ found.More)
  heard_asks q octets = by (is_of_another octets q.transaction)
    where
      by : (other : Bool) → is_due (cond other q (when_said q (said_in octets))) ≡ true → (is_due q ≡ true) ⊎ (cond other (found.Refused WrongTransaction) (found_said q (said_in octets)) ≡ found.More)
      by true due = inl due
      by false due = inr (said_asks q (said_in octets) due)

  reply_asks : (q : Asking) (octets : List ℕ) → is_due (after_reply q octets) ≡ true → (is_due q ≡ true) ⊎ (found_at q octets ≡ found.More)
  reply_asks q octets = by q.stage
    where
      by : (stage : Query_stage) → is_due (after_when stage q octets) ≡ true → (is_due q ≡ true) ⊎ (found_when stage q octets ≡ found.More)
      by queries.Due due = inl due
      by queries.Written due = heard_asks q octets due
      by queries.Again due = heard_asks q octets due
      by queries.Answered due = inl due
      by (queries.Refused reason) due = inl due

  ends_search : (outcome : Outcome) (c : Client) → c.stage ≡ Search → Pays (ends outcome c)
  ends_search outcome c at = by c.cause
    where
      none : (ending : Ending) (tries left : ℕ) (due : Bool) → StagePaid adverse (stage_after ending Search) tries left due
      none InOrder tries left due = tt
      none AtOnce tries left due = tt

      by : (cause : Option Outcome) → Pays (ends_by cause outcome c)
      by None = subst (λ (s : Stage). StagePaid adverse (stage_after (ending_of outcome) s) c.tries c.left (is_due c.query)) (sym at) (none (ending_of outcome) c.tries c.left (is_due c.query))
      by (Some earlier) = subst (λ (s : Stage). StagePaid adverse (at_once s) c.tries c.left (is_due c.query)) (sym at) tt

  way_paid : (transport : Transport) (target : Target) (c : Client) → c.stage ≡ Search → Pays (found_way transport target c)
  way_paid L2cap target c at = by (kept_of is_service_psm target.l2cap)
    where
      by : (psm : Option ℕ) → Pays (found_psm psm c)
      by None = ends_search NoService c at
      by (Some psm) = tt
  way_paid Rfcomm target c at = by (kept_of is_server_channel target.rfcomm)
    where
      by : (channel : Option ℕ) → Pays (found_channel channel c)
      by None = ends_search NoService c at
      by (Some channel) = tt

  finds_paid : (what : Found) (c : Client) → c.stage ≡ Search → (what ≡ found.More) ⊎ Pays c → Pays (finds what c)
  finds_paid found.More c at paid = here adverse is_due Search (record c { left = c.tries }) at (omega arith)
  finds_paid (found.Service target) c at paid = way_paid c.transport target c at
  finds_paid found.NoService c at paid = ends_search NoService c at
  finds_paid (found.Refused reason) c at (inl more) = cc
  finds_paid (found.Refused reason) c at (inr paid) = ends_if_paid adverse is_due (cause_of_query reason) c paid

  -- one that is to be asked for again was to be before, or its next part is
  heard_paid : (reply : List ℕ) (c : Client) → c.stage ≡ Search → Stands Search c → Pays (hears_reply reply c)
  heard_paid reply c at now = by (is_due (after_reply c.query reply)) refl
    where
      after : Client
      after = record c { query = after_reply c.query reply }

      same : is_due (after_reply c.query reply) ≡ true → is_due c.query ≡ true → Stands Search after
      same due was =
          let none = ap (λ (b : Bool). one_if (not b)) was in
          let now' : c.tries ≤ c.left + (adverse + one_if (not (is_due c.query))) = now in
          omega (arith, none, now')

      by : (due : Bool) → is_due (after_reply c.query reply) ≡ due → Pays (hears_reply reply c)
      by true due = on (reply_asks c.query reply due)
        where
          on : (is_due c.query ≡ true) ⊎ (found_at c.query reply ≡ found.More) → Pays (hears_reply reply c)
          on (inl was) = finds_paid (found_at c.query reply) after at (inr (here adverse is_due Search after at (same due was)))
          on (inr more) = finds_paid (found_at c.query reply) after at (inl more)
      by false due =
          let one = ap (λ (b : Bool). one_if (not b)) due in
          let most = at_most_one (not (is_due c.query)) in
          let now' : c.tries ≤ c.left + (adverse + one_if (not (is_due c.query))) = now in
          finds_paid (found_at c.query reply) after at (inr (here adverse is_due Search after at (omega (arith, one, most, now'))))

  -- ---- an SDU

  outside_paid : (transport : Transport) (c : Client) → Pays c → Pays (hears_outside transport c)
  outside_paid L2cap c paid = ends_paid adverse is_due unawaited_response c paid
  outside_paid Rfcomm c paid = paid

  sdu_paid : (stage : Stage) (psm : ℕ) (sdu : List ℕ) (c : Client) → c.stage ≡ stage → Stands stage c → Pays c → Pays (sdu_at stage psm sdu c)
  sdu_paid Search psm sdu c at now paid = either adverse is_due (psm == search_psm) (hears_reply sdu c) c (heard_paid sdu c at now) paid
  sdu_paid (ObjectChannel point) psm sdu c at now paid = either adverse is_due (psm == c.psm) (hears_outside c.transport c) c (outside_paid c.transport c paid) paid
  sdu_paid Object psm sdu c at now paid =
      let after = hears_object c.transport sdu c in
      either adverse is_due (psm == c.psm) after c (late_paid adverse is_due after.stage after.tries after.left (is_due after.query) (object_late (anchor_of c) c.transport sdu c (subst IsLate (sym at) tt, refl)).0) paid
  sdu_paid (ObjectEnd point) psm sdu c at now paid = either adverse is_due (psm == c.psm) (hears_outside c.transport c) c (outside_paid c.transport c paid) paid
  sdu_paid Rest psm sdu c at now paid = paid
  sdu_paid (Link point) psm sdu c at now paid = paid
  sdu_paid (SearchChannel point) psm sdu c at now paid = paid
  sdu_paid (SearchEnd point) psm sdu c at now paid = paid
  sdu_paid (Features point) psm sdu c at now paid = paid
  sdu_paid (LinkEnd point) psm sdu c at now paid = paid
  sdu_paid Over psm sdu c at now paid = paid

  -- ---- its steps

  sent_paid : (c : Client) (parts : List Part) → Stands Search c → Pays c → c.stage ≡ Search → Pays (course.steps_search c parts).client
  sent_paid c parts now paid at = by (is_due c.query) refl
    where
      asked : Client
      asked = record c { query = after_request c.query; left = c.left - 1; rest = request_octets c.query }

      by : (due : Bool) → is_due c.query ≡ due → Pays (if due then course.sends_sdu search_psm (Octets (request_octets c.query)) asked parts else course.rests c parts).client
      by true due =
          let spent : is_due (after_request c.query) ≡ false = written_not c.query.stage due in
          let one = ap (λ (b : Bool). one_if (not b)) spent in
          let none = ap (λ (b : Bool). one_if (not b)) due in
          let now' : c.tries ≤ c.left + (adverse + one_if (not (is_due c.query))) = now in
          here adverse is_due Search (record asked { given = true }) at (omega (arith, one, none, now'))
      by false due = paid

  told_paid : (cause : Option Outcome) (c : Client) (parts : List Part) → Pays c → Pays (tells_end cause c parts).client
  told_paid None c parts paid = paid
  told_paid (Some outcome) c parts paid = tt

  stage_paid : (stage : Stage) (c : Client) (parts : List Part) → c.stage ≡ stage → Stands stage c → Pays c → Pays (steps_at stage c parts).client
  stage_paid Rest c parts at now paid = paid
  stage_paid (Link Due) c parts at now paid = now
  stage_paid (Link Asked) c parts at now paid = paid
  stage_paid (SearchChannel Due) c parts at now paid = now
  stage_paid (SearchChannel Asked) c parts at now paid = paid
  stage_paid Search c parts at now paid = sent_paid c parts now paid at
  stage_paid (SearchEnd Due) c parts at now paid = tt
  stage_paid (SearchEnd Asked) c parts at now paid = paid
  stage_paid (Features Due) c parts at now paid = tt
  stage_paid (Features Asked) c parts at now paid = paid
  stage_paid (ObjectChannel Due) c parts at now paid = tt
  stage_paid (ObjectChannel Asked) c parts at now paid = paid
  stage_paid Object c parts at now paid =
      let after = (course.steps_object c.transport c parts).client in
      late_paid adverse is_due after.stage after.tries after.left (is_due after.query) (object_quiet (anchor_of c) c.transport c parts (subst IsLate (sym at) tt, refl)).0.0
  stage_paid (ObjectEnd Due) c parts at now paid = tt
  stage_paid (ObjectEnd Asked) c parts at now paid = paid
  stage_paid (LinkEnd Due) c parts at now paid = tt
  stage_paid (LinkEnd Asked) c parts at now paid = paid
  stage_paid Over c parts at now paid = told_paid c.cause c parts paid

  pub asks_paid : (c : Client) (parts : List Part) → Pays c → Pays (steps c parts).client
  asks_paid c parts paid = by c.failed c.given
    where
      lacking : Stepped
      lacking = record { client = c; step = course.NoMemory; left = parts }

      by : (failed given' : Bool) → Pays (if failed then lacking else if given' then course.rests c parts else steps_at c.stage c parts).client
      by true given' = paid
      by false true = paid
      by false false = stage_paid c.stage c parts refl paid paid

  -- ---- what it is told

  pub hears_paid : (news : events.News) (c : Client) → (news ≡ events.Timer → ⊥) → Pays c → Pays (events.hears_news news c)
  hears_paid events.LinkUp c apart paid = linked_paid adverse is_due c.stage c paid paid
  hears_paid (events.LinkDown reason) c apart paid = either adverse is_due (is_linked c.stage) (over (cause_of_link reason) c) c (over_paid adverse is_due (cause_of_link reason) c) paid
  hears_paid (events.LinkFailed status) c apart paid = either adverse is_due (is_paging c.stage) (over (cause_of_page status) c) c (over_paid adverse is_due (cause_of_page status) c) paid
  hears_paid (events.ChannelOpen psm mtu) c apart paid = opened_paid adverse is_due c.stage psm mtu c paid paid
  hears_paid (events.ChannelClosed psm cause) c apart paid = closed_paid adverse is_due c.stage psm cause c paid
  hears_paid (events.Sdu psm octets) c apart paid = sdu_paid c.stage psm octets c refl paid paid
  hears_paid events.FeaturesTold c apart paid = features_paid adverse is_due c paid
  hears_paid events.FeaturesLost c apart paid = lost_paid adverse is_due c paid
  hears_paid events.Timer c apart paid = absurd (apart refl)

  pub cancels_paid : (c : Client) → Pays c → Pays (cancelled c)
  cancels_paid c paid = either adverse is_due (may_cancel c) (ends PushCancelled c) c (ends_paid adverse is_due PushCancelled c paid) paid

  pub begins_paid : (size : Result ℕ PortFault) (name : List ℕ) (c : Client) → Pays c → Pays (begins size name c)
  begins_paid size name c paid = by c.failed size
    where
      by : (failed : Bool) (size : Result ℕ PortFault) → Pays (cond failed c (begun_by size name c))
      by true size = paid
      by false (Ok count) = omega arith
      by false (Err fault.Failed) = tt
      by false (Err fault.NoMemory) = paid

  -- the timer has it sent once more where that is paid
  pub timer_paid : (c : Client) → Pays c → (awaits_reply c ≡ true → c.tries ≤ c.left + adverse) → Pays (events.hears_news events.Timer c)
  timer_paid c paid pays = by (armed c && not (c.given || is_due c.query)) refl
    where
      on : (none : Bool) → c.tries ≤ c.left + adverse → Pays (cond none (ends RetryLimit c) (record c { query = after_resend c.query }))
      on true most = ends_paid adverse is_due RetryLimit c paid
      on false most = again_paid c.stage most paid
        where
          again_paid : (stage : Stage) → c.tries ≤ c.left + adverse → StagePaid adverse stage c.tries c.left (is_due c.query) → StagePaid adverse stage c.tries c.left (is_due (after_resend c.query))
          again_paid Search most now = omega (arith, most)
          again_paid (Link point) most now = now
          again_paid (SearchChannel point) most now = now
          again_paid Rest most now = tt
          again_paid (SearchEnd point) most now = tt
          again_paid (Features point) most now = tt
          again_paid (ObjectChannel point) most now = tt
          again_paid Object most now = tt
          again_paid (ObjectEnd point) most now = tt
          again_paid (LinkEnd point) most now = tt
          again_paid Over most now = tt

      by : (awaits : Bool) → awaits_reply c ≡ awaits → Pays (cond awaits (cond (c.left == 0) (ends RetryLimit c) (record c { query = after_resend c.query })) c)
      by true is = on (c.left == 0) (pays is)
      by false is = paid

  -- where a request awaits its reply, and one word more was adverse, it is paid
  pub one_more_pays : (c : Client) → Pays c → awaits_reply c ≡ true → c.tries ≤ c.left + (adverse + 1)
  one_more_pays c paid is = by c.stage paid (armed_search c is)
    where
      by : (stage : Stage) → StagePaid adverse stage c.tries c.left (is_due c.query) → is_search stage ≡ true → c.tries ≤ c.left + (adverse + 1)
      by Search now here' = let most = at_most_one (not (is_due c.query)) in omega (arith, most, now)
      by Rest now here' = cc
      by (Link point) now here' = cc
      by (SearchChannel point) now here' = cc
      by (SearchEnd point) now here' = cc
      by (Features point) now here' = cc
      by (ObjectChannel point) now here' = cc
      by Object now here' = cc
      by (ObjectEnd point) now here' = cc
      by (LinkEnd point) now here' = cc
      by Over now here' = cc
