-- A client ends a push since a limit was met where it is told so of a channel that it uses, or of the features, or where its own request was sent as often as may be.
use Rattle.std.proofs.Common.{◌≡◌, ℕ, List, [], ◌∷◌, Bool, true, false, not, ◌&&◌, ◌||◌, eqb, cond, Option, Some, None, is_some, Result, Ok, Err, refl, sym, ap, subst, ◌∙◌, ◌⊎◌, inl, inr, if◌then◌else◌}
use Rattle.std.specs.Prelude.{min, nat_lt}
use Rattle.std.proofs.lemmas.Bool.{eqb-true}
use Rattle.cause_laws.specs.bt_base.specs.declared.ports.PortFault.{PortFault}
use Rattle.cause_laws.specs.bt_base.specs.declared.ports.PortFault.TheVariants as fault
use Rattle.cause_laws.specs.bt_base.specs.declared.settings.Transport.{Transport}
use Rattle.cause_laws.specs.bt_base.specs.declared.settings.Transport.TheVariants.{L2cap, Rfcomm}
use Rattle.cause_laws.specs.push_terms.specs.declared.outcome.Outcome.{Outcome}
use Rattle.cause_laws.specs.push_terms.specs.declared.outcome.Outcome.TheVariants.{RetryLimit, PeerClosed, LinkLost, Cancelled as PushCancelled}
use Rattle.cause_laws.specs.sdp_client.specs.Asking.{is_due, after_resend}
use Rattle.cause_laws.specs.push_model.specs.declared.closing.CloseCause.{CloseCause}
use Rattle.cause_laws.specs.push_model.specs.declared.course.Point.TheVariants.{Due, Asked}
use Rattle.cause_laws.specs.push_model.specs.declared.course.Stage.{Stage}
use Rattle.cause_laws.specs.push_model.specs.declared.course.Stage.TheVariants.{Rest, Link, SearchChannel, Search, SearchEnd, Features, ObjectChannel, Object, ObjectEnd, LinkEnd, Over}
use Rattle.cause_laws.specs.push_model.specs.Causes.{Ending, InOrder, AtOnce, ending_of, cause_of_close, cause_of_link, cause_of_page, small_channel, unawaited_response}
use Rattle.cause_laws.specs.push_model.specs.Client.{Client, at_once, stage_after, ends, ends_by, ends_if, may_cancel, cancelled, begins, begun_by}
use Rattle.cause_laws.specs.push_model.specs.Events as events
use Rattle.cause_laws.specs.push_model.specs.Events.{is_linked, is_paging, is_asking_features, search_psm, over, over_by}
use Rattle.cause_laws.specs.push_model.specs.Laws.{Deed, Hears, Asks, Finishes, Cancels, done}
use Rattle.cause_laws.specs.push_model.specs.Shown.{closed_shows, watched, shows, opened_shows, sdu_shows}
use Rattle.cause_laws.specs.push_model.specs.Steps.{Part, NoMemory, Stepped, rests, steps_at, steps, tells_end}
use Rattle.cause_laws.specs.push_model.proofs.CauseLaws.{first_causes_stay}
use Rattle.limit_laws.specs.pair_laws.specs.push_laws.proofs.Late.{IsLate, anchor_of, object_late, object_quiet}
use Rattle.cause_laws.specs.host_laws.specs.Leaving.{is_off}
use Rattle.cause_laws.specs.host_laws.proofs.Faces.{off_at_once}
use Rattle.cause_laws.proofs.Clients.{is_shelf, Within, within_more, either, asks_within, Came, came_by}
use Rattle.parting_laws.proofs.Shown.{is_else, shelf_else, opened_else, sdu_else}

-- ---- where it is

-- no channel of it is used, but that of the object may be closed still
abbrev pub is_past : Stage → Bool
is_past Rest = true
is_past (Link point) = true
is_past (SearchChannel point) = false
is_past Search = false
is_past (SearchEnd point) = false
is_past (Features point) = false
is_past (ObjectChannel point) = false
is_past Object = false
is_past (ObjectEnd point) = true
is_past (LinkEnd point) = true
is_past Over = true

-- it uses the channel of its search, which was opened
abbrev pub is_searching : Stage → Bool
is_searching Rest = false
is_searching (Link point) = false
is_searching (SearchChannel point) = false
is_searching Search = true
is_searching (SearchEnd point) = true
is_searching (Features point) = false
is_searching (ObjectChannel point) = false
is_searching Object = false
is_searching (ObjectEnd point) = false
is_searching (LinkEnd point) = false
is_searching Over = false

pub off_past : (stage : Stage) → is_off stage ≡ true → is_past stage ≡ true
off_past Rest is = refl
off_past (Link point) is = refl
off_past (SearchChannel point) is = cc
off_past Search is = cc
off_past (SearchEnd point) is = cc
off_past (Features point) is = cc
off_past (ObjectChannel point) is = cc
off_past Object is = cc
off_past (ObjectEnd point) is = refl
off_past (LinkEnd point) is = refl
off_past Over is = refl

off_search : (stage : Stage) → is_off stage ≡ true → is_searching stage ≡ false
off_search Rest is = refl
off_search (Link point) is = refl
off_search (SearchChannel point) is = refl
off_search Search is = cc
off_search (SearchEnd point) is = cc
off_search (Features point) is = refl
off_search (ObjectChannel point) is = refl
off_search Object is = refl
off_search (ObjectEnd point) is = refl
off_search (LinkEnd point) is = refl
off_search Over is = refl

past_after : (ending : Ending) (stage : Stage) → is_past stage ≡ true → is_past (stage_after ending stage) ≡ true
past_after AtOnce stage is = off_past (at_once stage) (off_at_once stage)
past_after InOrder Rest is = refl
past_after InOrder (Link Due) is = refl
past_after InOrder (Link Asked) is = refl
past_after InOrder (SearchChannel point) is = cc
past_after InOrder Search is = cc
past_after InOrder (SearchEnd point) is = cc
past_after InOrder (Features point) is = cc
past_after InOrder (ObjectChannel point) is = cc
past_after InOrder Object is = cc
past_after InOrder (ObjectEnd point) is = refl
past_after InOrder (LinkEnd point) is = refl
past_after InOrder Over is = refl

late_not : (stage : Stage) → IsLate stage → is_searching stage ≡ false
late_not Object late = refl
late_not (ObjectEnd point) late = refl
late_not (LinkEnd point) late = refl
late_not Over late = refl
late_not Rest late = refl
late_not (Link point) late = refl
late_not (SearchChannel point) late = refl
late_not Search late = elim late [ ]
late_not (SearchEnd point) late = elim late [ ]
late_not (Features point) late = refl
late_not (ObjectChannel point) late = refl

clash : {X : Type 0} (b : Bool) → b ≡ true → b ≡ false → X
clash b one other = let never : true ≡ false = sym one ∙ other in cc

-- ---- how it goes on

-- With a cause it stays off, with as many tries; where no channel is used, none is used later; and it searches only where it did before, but for this.
record Turns (X : Type 0) (c d : Client) : Type 0 where
  off : is_off c.stage ≡ true → is_some c.cause ≡ true → (d.left ≡ c.left) × (is_off d.stage ≡ true)
  past : is_past c.stage ≡ true → is_past d.stage ≡ true
  search : d.cause ≡ None → is_searching d.stage ≡ true → (is_searching c.stage ≡ true) ⊎ X

module _ {X : Type 0} where
  -- it stays where it is
  stays : (c d : Client) → d.stage ≡ c.stage → d.left ≡ c.left → Turns X c d
  stays c d same left = record {
    off = λ is some. (left, ap is_off same ∙ is);
    past = λ is. ap is_past same ∙ is;
    search = λ none is. inl (sym (ap is_searching same) ∙ is);
  }

  same : (c : Client) → Turns X c c
  same c = stays c c refl refl

  -- it is off now
  onto : (c d : Client) → is_off d.stage ≡ true → d.left ≡ c.left → Turns X c d
  onto c d off left = record { off = λ is some. (left, off); past = λ is. off_past d.stage off; search = λ none is. clash (is_searching d.stage) is (off_search d.stage off) }

  -- it was not off, nor past, and goes on without a search
  away : (c d : Client) (stage : Stage) → c.stage ≡ stage → is_off stage ≡ false → is_past stage ≡ false → is_searching d.stage ≡ false → Turns X c d
  away c d stage at off past none = record {
    off = λ is some. clash (is_off stage) (sym (ap is_off at) ∙ is) off;
    past = λ is. clash (is_past stage) (sym (ap is_past at) ∙ is) past;
    search = λ no is. clash (is_searching d.stage) is none;
  }

  -- it searched
  inside : (c d : Client) (stage : Stage) → c.stage ≡ stage → is_off stage ≡ false → is_past stage ≡ false → is_searching stage ≡ true → Turns X c d
  inside c d stage at off past searching = record {
    off = λ is some. clash (is_off stage) (sym (ap is_off at) ∙ is) off;
    past = λ is. clash (is_past stage) (sym (ap is_past at) ∙ is) past;
    search = λ no is. inl (ap is_searching at ∙ searching);
  }

  if_turns : (b : Bool) (c x y : Client) → Turns X c x → Turns X c y → Turns X c (cond b x y)
  if_turns true c x y one other = one
  if_turns false c x y one other = other

  by_turns : (cause : Option Outcome) (o : Outcome) (c : Client) → c.cause ≡ cause → Turns X c (ends_by cause o c)
  by_turns None o c is = record {
    off = λ off some. let never : false ≡ true = sym (ap is_some is) ∙ some in cc;
    past = past_after (ending_of o) c.stage;
    search = λ none searching. cc;
  }
  by_turns (Some earlier) o c is = onto c (ends_by (Some earlier) o c) (off_at_once c.stage) refl

  end_turns : (o : Outcome) (c : Client) → Turns X c (ends o c)
  end_turns o c = by_turns c.cause o c refl

  end_if_turns : (found : Option Outcome) (c : Client) → Turns X c (ends_if found c)
  end_if_turns None c = same c
  end_if_turns (Some o) c = end_turns o c

  -- ---- a channel

  closed_turns : (stage : Stage) (psm : ℕ) (cause : CloseCause) (c : Client) → c.stage ≡ stage → Turns X c (events.closed_at stage psm cause c)
  closed_turns Rest psm cause c at = same c
  closed_turns (Link point) psm cause c at = same c
  closed_turns (SearchChannel Due) psm cause c at = same c
  closed_turns (SearchChannel Asked) psm cause c at = if_turns (eqb psm search_psm) c (ends_if (cause_of_close cause) c) c (end_if_turns (cause_of_close cause) c) (same c)
  closed_turns Search psm cause c at = inside c _ Search at refl refl refl
  closed_turns (SearchEnd point) psm cause c at = inside c _ (SearchEnd point) at refl refl refl
  closed_turns (Features point) psm cause c at = same c
  closed_turns (ObjectChannel Due) psm cause c at = same c
  closed_turns (ObjectChannel Asked) psm cause c at = if_turns (eqb psm c.psm) c (ends_if (cause_of_close cause) c) c (end_if_turns (cause_of_close cause) c) (same c)
  closed_turns Object psm cause c at = if_turns (eqb psm c.psm) c (ends_if (cause_of_close cause) c) c (end_if_turns (cause_of_close cause) c) (same c)
  closed_turns (ObjectEnd point) psm cause c at = if_turns (eqb psm c.psm) c (record c { stage = LinkEnd Due }) c (onto c (record c { stage = LinkEnd Due }) refl refl) (same c)
  closed_turns (LinkEnd point) psm cause c at = same c
  closed_turns Over psm cause c at = same c

  outside_turns : (transport : Transport) (c : Client) → Turns X c (events.hears_outside transport c)
  outside_turns L2cap c = end_turns unawaited_response c
  outside_turns Rfcomm c = same c

  sdu_turns : (stage : Stage) (psm : ℕ) (sdu : List ℕ) (c : Client) → c.stage ≡ stage → Turns X c (events.sdu_at stage psm sdu c)
  sdu_turns Rest psm sdu c at = same c
  sdu_turns (Link point) psm sdu c at = same c
  sdu_turns (SearchChannel point) psm sdu c at = same c
  sdu_turns Search psm sdu c at = inside c _ Search at refl refl refl
  sdu_turns (SearchEnd point) psm sdu c at = same c
  sdu_turns (Features point) psm sdu c at = same c
  sdu_turns (ObjectChannel point) psm sdu c at = if_turns (eqb psm c.psm) c (events.hears_outside c.transport c) c (outside_turns c.transport c) (same c)
  sdu_turns Object psm sdu c at =
      let heard = events.hears_object c.transport sdu c in
      if_turns (eqb psm c.psm) c heard c
      (away c heard Object at refl refl (late_not heard.stage (object_late (anchor_of c) c.transport sdu c (subst IsLate (sym at) tt, refl)).0)) (same c)
  sdu_turns (ObjectEnd point) psm sdu c at = if_turns (eqb psm c.psm) c (events.hears_outside c.transport c) c (outside_turns c.transport c) (same c)
  sdu_turns (LinkEnd point) psm sdu c at = same c
  sdu_turns Over psm sdu c at = same c

  -- ---- its link

  over_turns : (cause : Option Outcome) (o : Outcome) (c : Client) → Turns X c (over_by cause o c)
  over_turns None o c = onto c (over_by None o c) refl refl
  over_turns (Some earlier) o c = onto c (over_by (Some earlier) o c) refl refl

  -- ---- a step

  step_turns : (b : Bool) (c : Client) (x y : Stepped) → Turns X c x.client → Turns X c y.client → Turns X c (if b then x else y).client
  step_turns true c x y one other = one
  step_turns false c x y one other = other

  tells_turns : (cause : Option Outcome) (c : Client) (parts : List Part) → Turns X c (tells_end cause c parts).client
  tells_turns None c parts = same c
  tells_turns (Some outcome) c parts = onto c (record c { stage = Rest }) refl refl

  stage_turns : (stage : Stage) (c : Client) (parts : List Part) → c.stage ≡ stage → Turns X c (steps_at stage c parts).client
  stage_turns Rest c parts at = same c
  stage_turns (Link Due) c parts at = onto c (record c { stage = Link Asked; given = true }) refl refl
  stage_turns (Link Asked) c parts at = same c
  stage_turns (SearchChannel Due) c parts at = away c _ (SearchChannel Due) at refl refl refl
  stage_turns (SearchChannel Asked) c parts at = same c
  stage_turns Search c parts at = inside c _ Search at refl refl refl
  stage_turns (SearchEnd Due) c parts at = inside c _ (SearchEnd Due) at refl refl refl
  stage_turns (SearchEnd Asked) c parts at = same c
  stage_turns (Features Due) c parts at = away c _ (Features Due) at refl refl refl
  stage_turns (Features Asked) c parts at = same c
  stage_turns (ObjectChannel Due) c parts at = away c _ (ObjectChannel Due) at refl refl refl
  stage_turns (ObjectChannel Asked) c parts at = same c
  stage_turns Object c parts at =
      let one = steps_at Object c parts in
      away c one.client Object at refl refl (late_not one.client.stage (object_quiet (anchor_of c) c.transport c parts (subst IsLate (sym at) tt, refl)).0.0)
  stage_turns (ObjectEnd Due) c parts at = record {
    off = λ is some. clash (is_off (ObjectEnd Due)) (sym (ap is_off at) ∙ is) refl;
    past = λ is. refl;
    search = λ none is. cc;
  }
  stage_turns (ObjectEnd Asked) c parts at = same c
  stage_turns (LinkEnd Due) c parts at = onto c (record c { stage = LinkEnd Asked; given = true }) refl refl
  stage_turns (LinkEnd Asked) c parts at = same c
  stage_turns Over c parts at = tells_turns c.cause c parts

  steps_turns : (c : Client) (parts : List Part) → Turns X c (steps c parts).client
  steps_turns c parts =
      step_turns c.failed c (record { client = c; step = NoMemory; left = parts }) (if c.given then rests c parts else steps_at c.stage c parts) (same c)
      (step_turns c.given c (rests c parts) (steps_at c.stage c parts) (same c) (stage_turns c.stage c parts refl))

-- its channel is opened: that of its search, which it asked for
abbrev pub Opens : (psm : ℕ) → Client → Type 0
Opens psm c = (psm ≡ search_psm) × (c.stage ≡ SearchChannel Asked)

opened_turns : (stage : Stage) (psm mtu : ℕ) (c : Client) → c.stage ≡ stage → Turns (Opens psm c) c (events.opened_at stage psm mtu c)
opened_turns Rest psm mtu c at = same c
opened_turns (Link point) psm mtu c at = same c
opened_turns (SearchChannel Due) psm mtu c at = same c
opened_turns (SearchChannel Asked) psm mtu c at = by (eqb psm search_psm) refl
  where
    by : (here : Bool) → eqb psm search_psm ≡ here → Turns (Opens psm c) c (cond here (record c { stage = Search }) c)
    by true is = record {
      off = λ off some. clash (is_off (SearchChannel Asked)) (sym (ap is_off at) ∙ off) refl;
      past = λ past. clash (is_past (SearchChannel Asked)) (sym (ap is_past at) ∙ past) refl;
      search = λ none searching. inr (eqb-true psm search_psm is, at);
    }
    by false is = same c
opened_turns Search psm mtu c at = same c
opened_turns (SearchEnd point) psm mtu c at = same c
opened_turns (Features point) psm mtu c at = same c
opened_turns (ObjectChannel Due) psm mtu c at = same c
opened_turns (ObjectChannel Asked) psm mtu c at = if_turns (eqb psm c.psm) c (events.object_opened c.transport mtu c) c (by c.transport) (same c)
  where
    onto_object : (d : Client) → d.stage ≡ Object → Turns (Opens psm c) c d
    onto_object d is = away c d (ObjectChannel Asked) at refl refl (ap is_searching is)

    direct : (small : Bool) (d : Client) → d.stage ≡ Object → Turns (Opens psm c) c (cond small (ends small_channel c) d)
    direct true d is = end_turns small_channel c
    direct false d is = onto_object d is

    by : (transport : Transport) → Turns (Opens psm c) c (events.object_opened transport mtu c)
    by L2cap = direct (nat_lt mtu 255) (record c { stage = Object; limit = min mtu 32767 }) refl
    by Rfcomm = onto_object (events.object_opened Rfcomm mtu c) refl
opened_turns Object psm mtu c at = same c
opened_turns (ObjectEnd point) psm mtu c at = same c
opened_turns (LinkEnd point) psm mtu c at = same c
opened_turns Over psm mtu c at = same c

-- ---- what is so of it

-- a limit that ended its push is that of its own request, which may not be sent any more
abbrev pub Spent : Client → Type 0
Spent c = c.cause ≡ Some RetryLimit → (c.left ≡ 0) × (is_off c.stage ≡ true)

-- the end of a channel ends its push no more: that has a cause, or uses none
abbrev pub Harmless : Client → Type 0
Harmless c = (is_past c.stage ≡ true) ⊎ (is_some c.cause ≡ true)

abbrev pub Searches : Client → Type 0
Searches c = (is_searching c.stage ≡ true) × (c.cause ≡ None)

pub record Moves (X : Type 0) (c d : Client) : Type 0 where
  pub spent : Spent c → Spent d
  pub harmless : Harmless c → Harmless d
  pub searches : Searches d → Searches c ⊎ X

pub still : (c : Client) → Moves ⊥ c c
still c = record { spent = λ so. so; harmless = λ so. so; searches = λ so. inl so }

pub moves_both : {X : Type 0} (c d e : Client) → Moves X c d → Moves ⊥ d e → Moves X c e
moves_both {X} c d e one other = record { spent = λ so. other.spent (one.spent so); harmless = λ so. other.harmless (one.harmless so); searches = λ so. by (other.searches so) }
  where
    by : Searches d ⊎ ⊥ → Searches c ⊎ X
    by (inl before) = one.searches before
    by (inr none) = absurd none

-- what stays with a cause, and what comes of none
moved : {X : Type 0} (c d : Client) → ((o : Outcome) → c.cause ≡ Some o → d.cause ≡ Some o) → (c.cause ≡ None → d.cause ≡ Some RetryLimit → (d.left ≡ 0) × (is_off d.stage ≡ true)) → Turns X c d → Moves X c d
moved {X} c d causes comes turns = record { spent = spent c.cause refl; harmless = harmless; searches = λ so. searches c.cause refl so }
  where
    some_so : (o : Outcome) → Some o ≡ Some RetryLimit → Spent c → c.cause ≡ Some o → (d.left ≡ 0) × (is_off d.stage ≡ true)
    some_so o limit so is =
        let before = so (is ∙ limit) in
        let now = turns.off before.1 (ap is_some is) in
        (now.0 ∙ before.0, now.1)

    spent : (cause : Option Outcome) → c.cause ≡ cause → Spent c → Spent d
    spent None is so limit = comes is limit
    spent (Some o) is so limit = some_so o (sym (causes o is) ∙ limit) so is

    with_cause : (cause : Option Outcome) → c.cause ≡ cause → is_some cause ≡ true → is_some d.cause ≡ true
    with_cause None is some = cc
    with_cause (Some o) is some = ap is_some (causes o is)

    harmless : Harmless c → Harmless d
    harmless (inl past) = inl (turns.past past)
    harmless (inr some) = inr (with_cause c.cause refl some)

    kept : (cause : Option Outcome) → c.cause ≡ cause → d.cause ≡ None → c.cause ≡ None
    kept None is none = is
    kept (Some o) is none = let never : Some o ≡ None = sym (causes o is) ∙ none in cc

    searches : (cause : Option Outcome) → c.cause ≡ cause → Searches d → Searches c ⊎ X
    searches cause is (searching, none) = by (turns.search none searching)
      where
        by : (is_searching c.stage ≡ true) ⊎ X → Searches c ⊎ X
        by (inl before) = inl (before, kept cause is none)
        by (inr opens) = inr opens

-- any but that a limit was met
abbrev pub is_no_limit : Outcome → Bool
is_no_limit RetryLimit = false
is_no_limit outcome = true

else_no_limit : (outcome : Outcome) → is_else outcome ≡ true → is_no_limit outcome ≡ true
else_no_limit RetryLimit is = cc
else_no_limit outcome is = refl

shelf_no_limit : (outcome : Outcome) → is_shelf outcome ≡ true → is_no_limit outcome ≡ true
shelf_no_limit outcome is = else_no_limit outcome (shelf_else outcome is)

pub not_limit : {Y : Type 0} (found : Option Outcome) → Within is_no_limit found → found ≡ Some RetryLimit → Y
not_limit None within is = cc
not_limit (Some o) within is = let now : is_no_limit RetryLimit ≡ true = subst (Within is_no_limit) is within in absurd (let never : false ≡ true = now in cc)

limit_or : (found : Option Outcome) → Within is_no_limit found ⊎ (found ≡ Some RetryLimit)
limit_or None = inl tt
limit_or (Some RetryLimit) = inr refl
limit_or (Some outcome) = inl refl

-- a deed that shows another cause, or none
shown : {X : Type 0} (deed : Deed) (c : Client) → (c.cause ≡ None → Within is_no_limit (shows deed c)) → Turns X c (done deed c) → Moves X c (done deed c)
shown deed c within turns =
    moved c (done deed c) (λ o is. first_causes_stay (deed ∷ []) c o is)
    (λ none limit. not_limit (done deed c).cause (subst (λ (cause : Option Outcome). Came is_no_limit cause (done deed c).cause) none (came_by is_no_limit deed c (within none))) limit) turns

-- ---- the end of a channel

-- a limit is met
abbrev pub IsLimitCause : CloseCause → Type 0
IsLimitCause cause = cause_of_close cause ≡ Some RetryLimit

past_unwatched : (stage : Stage) (c : Client) → is_past stage ≡ true → watched stage c ≡ None
past_unwatched Rest c is = refl
past_unwatched (Link point) c is = refl
past_unwatched (SearchChannel point) c is = cc
past_unwatched Search c is = cc
past_unwatched (SearchEnd point) c is = cc
past_unwatched (Features point) c is = cc
past_unwatched (ObjectChannel point) c is = cc
past_unwatched Object c is = cc
past_unwatched (ObjectEnd point) c is = refl
past_unwatched (LinkEnd point) c is = refl
past_unwatched Over c is = refl

unwatched : (psm : ℕ) (cause : CloseCause) (c : Client) → Harmless c → c.cause ≡ None → Within is_no_limit (closed_shows psm cause (watched c.stage c))
unwatched psm cause c (inl past) none = subst (λ (own : Option ℕ). Within is_no_limit (closed_shows psm cause own)) (sym (past_unwatched c.stage c past)) tt
unwatched psm cause c (inr some) none = let never : false ≡ true = sym (ap is_some none) ∙ some in cc

closed_within : (psm : ℕ) (cause : CloseCause) (own : Option ℕ) → Within is_no_limit (cause_of_close cause) → Within is_no_limit (closed_shows psm cause own)
closed_within psm cause None within = tt
closed_within psm cause (Some own) within = either is_no_limit (eqb psm own) (cause_of_close cause) None within tt

-- its channel meets a limit only where that is harmless
pub closes_moves : (psm : ℕ) (cause : CloseCause) (c : Client) → (IsLimitCause cause → Harmless c) → Moves ⊥ c (events.hears_news (events.ChannelClosed psm cause) c)
closes_moves psm cause c harmless = shown (Hears (events.ChannelClosed psm cause)) c (λ none. by none (limit_or (cause_of_close cause))) (closed_turns c.stage psm cause c refl)
  where
    by : c.cause ≡ None → Within is_no_limit (cause_of_close cause) ⊎ IsLimitCause cause → Within is_no_limit (closed_shows psm cause (watched c.stage c))
    by none (inl within) = closed_within psm cause (watched c.stage c) within
    by none (inr limit) = unwatched psm cause c (harmless limit) none

-- ---- what else may happen to it

pub opens_moves : (psm mtu : ℕ) (c : Client) → Moves (Opens psm c) c (events.hears_news (events.ChannelOpen psm mtu) c)
opens_moves psm mtu c =
    shown (Hears (events.ChannelOpen psm mtu)) c (λ none. within_more is_else is_no_limit else_no_limit (opened_shows c.stage psm mtu c) (opened_else c.stage psm mtu c)) (opened_turns c.stage psm mtu c refl)

pub hears_moves : (psm : ℕ) (sdu : List ℕ) (c : Client) → Moves ⊥ c (events.hears_news (events.Sdu psm sdu) c)
hears_moves psm sdu c =
    shown (Hears (events.Sdu psm sdu)) c (λ none. within_more is_else is_no_limit else_no_limit (sdu_shows c.stage psm sdu c) (sdu_else c.stage psm sdu c)) (sdu_turns c.stage psm sdu c refl)

told_turns : (stage : Stage) (c : Client) → c.stage ≡ stage → Turns ⊥ c (if is_asking_features stage then record c { stage = ObjectChannel Due } else c)
told_turns Rest c at = same c
told_turns (Link point) c at = same c
told_turns (SearchChannel point) c at = same c
told_turns Search c at = same c
told_turns (SearchEnd point) c at = same c
told_turns (Features Due) c at = same c
told_turns (Features Asked) c at = away c (record c { stage = ObjectChannel Due }) (Features Asked) at refl refl refl
told_turns (ObjectChannel point) c at = same c
told_turns Object c at = same c
told_turns (ObjectEnd point) c at = same c
told_turns (LinkEnd point) c at = same c
told_turns Over c at = same c

pub told_moves : (c : Client) → Moves ⊥ c (events.hears_news events.FeaturesTold c)
told_moves c = shown (Hears events.FeaturesTold) c (λ none. tt) (told_turns c.stage c refl)

-- it sent its own request as often as may be, or sends it once more
pub timer_moves : (c : Client) → Moves ⊥ c (events.hears_news events.Timer c)
timer_moves c =
    moved c (events.fires c) (λ o is. first_causes_stay (Hears events.Timer ∷ []) c o is) (λ none. by (events.armed c && not (c.given || is_due c.query)) (eqb c.left 0) refl none)
    (if_turns (events.armed c && not (c.given || is_due c.query)) c (cond (eqb c.left 0) (ends RetryLimit c) again) c (if_turns (eqb c.left 0) c (ends RetryLimit c) again (end_turns RetryLimit c) (stays c again refl refl)) (same c))
  where
    again : Client
    again = record c { query = after_resend c.query }

    spent : (cause : Option Outcome) → c.left ≡ 0 → cause ≡ None → ((ends_by cause RetryLimit c).left ≡ 0) × (is_off (ends_by cause RetryLimit c).stage ≡ true)
    spent None zero none = (zero, off_at_once c.stage)
    spent (Some o) zero none = cc

    by : (awaits zero : Bool) → eqb c.left 0 ≡ zero → c.cause ≡ None → (cond awaits (cond zero (ends RetryLimit c) again) c).cause ≡ Some RetryLimit → (let d : Client = cond awaits (cond zero (ends RetryLimit c) again) c in (d.left ≡ 0) × (is_off d.stage ≡ true))
    by true true is none limit = spent c.cause (eqb-true c.left 0 is) none
    by true false is none limit = let never : None ≡ Some RetryLimit = sym none ∙ limit in cc
    by false zero is none limit = let never : None ≡ Some RetryLimit = sym none ∙ limit in cc

pub asks_moves : (parts : List Part) (c : Client) → Moves ⊥ c (steps c parts).client
asks_moves parts c = shown (Asks parts) c (λ none. within_more is_shelf is_no_limit shelf_no_limit (shows (Asks parts) c) (asks_within parts c)) (steps_turns c parts)

pub finish_moves : (c : Client) → Moves ⊥ c (done Finishes c)
finish_moves c = shown Finishes c (λ none. tt) (stays c (done Finishes c) refl refl)

pub cancels_moves : (c : Client) → Moves ⊥ c (cancelled c)
cancels_moves c = shown Cancels c (λ none. either is_no_limit (may_cancel c) (Some PushCancelled) None refl tt) (if_turns (may_cancel c) c (ends PushCancelled c) c (end_turns PushCancelled c) (same c))

pub failed_moves : (status : ℕ) (c : Client) → Moves ⊥ c (events.hears_news (events.LinkFailed status) c)
failed_moves status c =
    shown (Hears (events.LinkFailed status)) c (λ none. either is_no_limit (is_paging c.stage) (Some (cause_of_page status)) None refl tt)
    (if_turns (is_paging c.stage) c (over (cause_of_page status) c) c (over_turns c.cause (cause_of_page status) c) (same c))

pub begins_moves : (size : Result ℕ PortFault) (name : List ℕ) (c : Client) → Moves ⊥ c (begins size name c)
begins_moves size name c = by c.failed size
  where
    by : (failed : Bool) (s : Result ℕ PortFault) → Moves ⊥ c (cond failed c (begun_by s name c))
    by true s = still c
    by false (Ok count) = record { spent = λ so limit. cc; harmless = λ so. inl refl; searches = λ so. let never : false ≡ true = so.0 in cc }
    by false (Err fault.Failed) = record { spent = λ so limit. cc; harmless = λ so. inl refl; searches = λ so. let never : false ≡ true = so.0 in cc }
    by false (Err fault.NoMemory) = record { spent = λ so. so; harmless = λ so. so; searches = λ so. inl so }

-- ---- between links

link_within : (reason : ℕ) → is_no_limit (cause_of_link reason) ≡ true
link_within reason = by (eqb reason 0x13)
  where
    by : (test : Bool) → is_no_limit (cond test PeerClosed LinkLost) ≡ true
    by true = refl
    by false = refl

pub down_moves : (reason : ℕ) (c : Client) → Moves ⊥ c (events.hears_news (events.LinkDown reason) c)
down_moves reason c =
    shown (Hears (events.LinkDown reason)) c (λ none. either is_no_limit (is_linked c.stage) (Some (cause_of_link reason)) None (link_within reason) tt)
    (if_turns (is_linked c.stage) c (over (cause_of_link reason) c) c (over_turns c.cause (cause_of_link reason) c) (same c))

-- with a cause it ends a link that comes up
pub up_spent : (c : Client) → Spent c → Spent (events.hears_news events.LinkUp c)
up_spent c so = by c.stage refl
  where
    kept : (d : Client) → d.cause ≡ c.cause → d.left ≡ c.left → (is_off c.stage ≡ true → is_some c.cause ≡ true → is_off d.stage ≡ true) → Spent d
    kept d cause left off limit = let was = so (sym cause ∙ limit) in (left ∙ was.0, off was.1 (ap is_some (sym cause ∙ limit)))

    linked : (some : Bool) → is_some c.cause ≡ some → Spent (cond some (record c { stage = LinkEnd Due }) (record c { stage = SearchChannel Due }))
    linked true is = kept (record c { stage = LinkEnd Due }) refl refl (λ off some. refl)
    linked false is = kept (record c { stage = SearchChannel Due }) refl refl (λ off some. clash (is_some c.cause) some is)

    by : (stage : Stage) → c.stage ≡ stage → Spent (events.linked_at stage c)
    by (Link Asked) at = linked (is_some c.cause) refl
    by Rest at = so
    by (Link Due) at = so
    by (SearchChannel point) at = so
    by Search at = so
    by (SearchEnd point) at = so
    by (Features point) at = so
    by (ObjectChannel point) at = so
    by Object at = so
    by (ObjectEnd point) at = so
    by (LinkEnd point) at = so
    by Over at = so
