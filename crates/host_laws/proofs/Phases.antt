-- Where a push stands on its link, by what it has to do with its search and with the channel of its object: what it does goes on there, or leaves it aside.
use Rattle.std.proofs.Common.{◌≡◌, ℕ, ◌-◌, Bool, true, false, cond, eqb, nat_lt, min, not, ◌&&◌, ◌||◌, Option, Some, None, refl, sym, ap, subst, ◌∙◌, ◌⊎◌, inl, inr, List, []}
use Rattle.std.specs.Prelude.{is_some}
use Rattle.shelf_model.specs.bt_base.specs.declared.settings.Transport.{Transport}
use Rattle.shelf_model.specs.bt_base.specs.declared.settings.Transport.TheVariants.{L2cap, Rfcomm}
use Rattle.shelf_model.specs.push_terms.specs.declared.outcome.Outcome.{Outcome}
use Rattle.shelf_model.specs.push_terms.specs.declared.outcome.Outcome.TheVariants as outcomes
use Rattle.shelf_model.specs.sdp_client.specs.Asking.{Asking, is_due, after_resend, after_request, request_octets}
use Rattle.shelf_model.specs.sdp_client.specs.Views.{is_awaiting}
use Rattle.push_laws.specs.push_model.specs.declared.closing.CloseCause.{CloseCause}
use Rattle.push_laws.specs.push_model.specs.declared.course.Point.{Point}
use Rattle.push_laws.specs.push_model.specs.declared.course.Point.TheVariants.{Due, Asked}
use Rattle.push_laws.specs.push_model.specs.declared.course.Stage.{Stage}
use Rattle.push_laws.specs.push_model.specs.declared.course.Stage.TheVariants.{Rest, Link, SearchChannel, Search, SearchEnd, Features, ObjectChannel, Object, ObjectEnd, LinkEnd, Over}
use Rattle.push_laws.specs.push_model.specs.Causes.{Ending, InOrder, AtOnce, ending_of, cause_of_link, cause_of_page, cause_of_close, small_channel, unawaited_response}
use Rattle.push_laws.specs.push_model.specs.Client.{Client, ends, ends_by, ends_if, may_cancel, in_order, at_once, stage_after}
use Rattle.push_laws.specs.push_model.specs.Events as events
use Rattle.push_laws.specs.push_model.specs.Events.{is_search}
use Rattle.push_laws.specs.push_model.specs.Laws.{Deed, Hears, Asks, Finishes, Cancels, done}
use Rattle.push_laws.specs.push_model.specs.Payloads.{Octets}
use Rattle.push_laws.specs.push_model.specs.Steps as course
use Rattle.push_laws.specs.push_model.specs.Steps.{Part, Stepped, NoMemory, rests, sends_sdu, steps_at, tells_end}
use Rattle.push_laws.proofs.Late.{anchor_of, IsLate, object_late, object_quiet}

-- ---- phases

pub data Phase : Type 0 where
  -- its link is due, or asked for
  Linking : Phase
  -- the channel of its search is asked for
  Opening : Phase
  Searching : Phase
  -- the channel of its object is asked for, or it carries it
  Carrying : Phase
  Aside : Phase

abbrev pub phase : Stage → Phase
phase Rest = Aside
phase (Link point) = Linking
phase (SearchChannel Due) = Aside
phase (SearchChannel Asked) = Opening
phase Search = Searching
phase (SearchEnd point) = Aside
phase (Features point) = Aside
phase (ObjectChannel Due) = Aside
phase (ObjectChannel Asked) = Carrying
phase Object = Carrying
phase (ObjectEnd point) = Aside
phase (LinkEnd point) = Aside
phase Over = Aside

-- its query stays, or holds the same parts of an answer
abbrev pub SameIn : Phase → (q r : Asking) → Type 0
SameIn Linking q r = r ≡ q
SameIn Opening q r = r ≡ q
SameIn Searching q r = r.joined ≡ q.joined
SameIn Carrying q r = Unit {0}
SameIn Aside q r = Unit {0}

-- it is in the same phase, or aside
abbrev pub Moved : (c d : Client) → Type 0
Moved c d = (phase d.stage ≡ Aside) ⊎ ((phase d.stage ≡ phase c.stage) × SameIn (phase c.stage) c.query d.query)

-- ---- one after the other

pub same_in : (p : Phase) (q r : Asking) → r ≡ q → SameIn p q r
same_in Linking q r same = same
same_in Opening q r same = same
same_in Searching q r same = ap (λ (x : Asking). x.joined) same
same_in Carrying q r same = tt
same_in Aside q r same = tt

pub both_in : (p : Phase) (q r s : Asking) → SameIn p q r → SameIn p r s → SameIn p q s
both_in Linking q r s one other = other ∙ one
both_in Opening q r s one other = other ∙ one
both_in Searching q r s one other = other ∙ one
both_in Carrying q r s one other = tt
both_in Aside q r s one other = tt

pub still : (c : Client) → Moved c c
still c = inr (refl, same_in (phase c.stage) c.query c.query refl)

pub moved_both : (c d e : Client) → Moved c d → Moved d e → Moved c e
moved_both c d e one (inl aside) = inl aside
moved_both c d e (inl aside) (inr (same, query)) = inl (same ∙ aside)
moved_both c d e (inr (first, q)) (inr (second, r)) = inr (second ∙ first, both_in (phase c.stage) c.query d.query e.query q (subst (λ p. SameIn p d.query e.query) first r))

abbrev pub Near : (s t : Stage) → Type 0
Near s t = (phase t ≡ Aside) ⊎ (phase t ≡ phase s)

pub near : (c d : Client) → d.query ≡ c.query → Near c.stage d.stage → Moved c d
near c d same (inl aside) = inl aside
near c d same (inr here) = inr (here, same_in (phase c.stage) c.query d.query same)

pub either : (b : Bool) (c x y : Client) → Moved c x → Moved c y → Moved c (cond b x y)
either true c x y one other = one
either false c x y one other = other

-- ---- an end

pub near_once : (s : Stage) → Near s (at_once s)
near_once Rest = inl refl
near_once (Link Due) = inl refl
near_once (Link Asked) = inr refl
near_once (SearchChannel point) = inl refl
near_once Search = inl refl
near_once (SearchEnd point) = inl refl
near_once (Features point) = inl refl
near_once (ObjectChannel point) = inl refl
near_once Object = inl refl
near_once (ObjectEnd point) = inl refl
near_once (LinkEnd point) = inl refl
near_once Over = inl refl

pub near_order : (s : Stage) → Near s (in_order s)
near_order Rest = inl refl
near_order (Link Due) = inl refl
near_order (Link Asked) = inr refl
near_order (SearchChannel Due) = inl refl
near_order (SearchChannel Asked) = inl refl
near_order Search = inl refl
near_order (SearchEnd point) = inl refl
near_order (Features point) = inl refl
near_order (ObjectChannel Due) = inl refl
near_order (ObjectChannel Asked) = inl refl
near_order Object = inr refl
near_order (ObjectEnd point) = inl refl
near_order (LinkEnd point) = inl refl
near_order Over = inl refl

pub near_after : (ending : Ending) (s : Stage) → Near s (stage_after ending s)
near_after InOrder s = near_order s
near_after AtOnce s = near_once s

pub by_cause : (cause : Option Outcome) (outcome : Outcome) (c : Client) → Moved c (ends_by cause outcome c)
by_cause None outcome c = near c (ends_by None outcome c) refl (near_after (ending_of outcome) c.stage)
by_cause (Some earlier) outcome c = near c (ends_by (Some earlier) outcome c) refl (near_once c.stage)

pub end_moves : (outcome : Outcome) (c : Client) → Moved c (ends outcome c)
end_moves outcome c = by_cause c.cause outcome c

pub if_moves : (cause : Option Outcome) (c : Client) → Moved c (ends_if cause c)
if_moves None c = still c
if_moves (Some outcome) c = end_moves outcome c

-- ---- what it hears

pub outside_moves : (transport : Transport) (c : Client) → Moved c (events.hears_outside transport c)
outside_moves L2cap c = end_moves unawaited_response c
outside_moves Rfcomm c = still c

pub late_phase : (s : Stage) → IsLate s → (phase s ≡ Aside) ⊎ (phase s ≡ Carrying)
late_phase Object late = inr refl
late_phase (ObjectEnd point) late = inl refl
late_phase (LinkEnd point) late = inl refl
late_phase Over late = inl refl
late_phase Rest late = inl refl
late_phase (Link point) late = absurd late
late_phase (SearchChannel point) late = absurd late
late_phase Search late = absurd late
late_phase (SearchEnd point) late = absurd late
late_phase (Features point) late = absurd late
late_phase (ObjectChannel point) late = absurd late

-- from the channel of its object
pub late_moves : (c d : Client) → c.stage ≡ Object → IsLate d.stage → Moved c d
late_moves c d at late = by (late_phase d.stage late)
  where
    by : (phase d.stage ≡ Aside) ⊎ (phase d.stage ≡ Carrying) → Moved c d
    by (inl aside) = inl aside
    by (inr carrying) = inr (carrying ∙ sym (ap phase at), subst (λ s. SameIn (phase s) c.query d.query) (sym at) tt)

pub late_at : (c : Client) → c.stage ≡ Object → IsLate c.stage
late_at c at = subst IsLate (sym at) tt

pub sdu_moves : (psm : ℕ) (sdu : List ℕ) (c : Client) (stage : Stage) → c.stage ≡ stage → (stage ≡ Search → ⊥) → Moved c (events.sdu_at stage psm sdu c)
sdu_moves psm sdu c Search at apart = absurd (apart refl)
sdu_moves psm sdu c (ObjectChannel point) at apart = either (eqb psm c.psm) c (events.hears_outside c.transport c) c (outside_moves c.transport c) (still c)
sdu_moves psm sdu c Object at apart = either (eqb psm c.psm) c (events.hears_object c.transport sdu c) c (late_moves c (events.hears_object c.transport sdu c) at (object_late (anchor_of c) c.transport sdu c (late_at c at, refl)).0) (still c)
sdu_moves psm sdu c (ObjectEnd point) at apart = either (eqb psm c.psm) c (events.hears_outside c.transport c) c (outside_moves c.transport c) (still c)
sdu_moves psm sdu c Rest at apart = still c
sdu_moves psm sdu c (Link point) at apart = still c
sdu_moves psm sdu c (SearchChannel point) at apart = still c
sdu_moves psm sdu c (SearchEnd point) at apart = still c
sdu_moves psm sdu c (Features point) at apart = still c
sdu_moves psm sdu c (LinkEnd point) at apart = still c
sdu_moves psm sdu c Over at apart = still c

pub object_moves : (mtu : ℕ) (c : Client) → c.stage ≡ ObjectChannel Asked → (transport : Transport) → Moved c (events.object_opened transport mtu c)
object_moves mtu c at L2cap =
    let open_ : Client = record c { stage = Object; limit = min mtu 32767 } in
    either (nat_lt mtu 255) c (ends small_channel c) open_ (end_moves small_channel c) (near c open_ refl (inr (sym (ap phase at))))
object_moves mtu c at Rfcomm = near c (events.object_opened Rfcomm mtu c) refl (inr (sym (ap phase at)))

pub opened_moves : (psm mtu : ℕ) (c : Client) (stage : Stage) → c.stage ≡ stage → (stage ≡ SearchChannel Asked → ⊥) → Moved c (events.opened_at stage psm mtu c)
opened_moves psm mtu c (SearchChannel Asked) at apart = absurd (apart refl)
opened_moves psm mtu c (ObjectChannel Asked) at apart = either (eqb psm c.psm) c (events.object_opened c.transport mtu c) c (object_moves mtu c at c.transport) (still c)
opened_moves psm mtu c Rest at apart = still c
opened_moves psm mtu c (Link point) at apart = still c
opened_moves psm mtu c (SearchChannel Due) at apart = still c
opened_moves psm mtu c Search at apart = still c
opened_moves psm mtu c (SearchEnd point) at apart = still c
opened_moves psm mtu c (Features point) at apart = still c
opened_moves psm mtu c (ObjectChannel Due) at apart = still c
opened_moves psm mtu c Object at apart = still c
opened_moves psm mtu c (ObjectEnd point) at apart = still c
opened_moves psm mtu c (LinkEnd point) at apart = still c
opened_moves psm mtu c Over at apart = still c

pub left_moves : (cause : Option Outcome) (c : Client) → Moved c (events.search_left cause c)
left_moves (Some cause) c = inl refl
left_moves None c = by c.transport
  where
    by : (transport : Transport) → (let d : Client = record c { stage = events.stage_behind transport } in Moved c d)
    by L2cap = inl refl
    by Rfcomm = inl refl

pub closed_search : (cause : Option Outcome) (c : Client) → Moved c (events.search_closed cause c)
closed_search None c = left_moves c.cause c
closed_search (Some outcome) c = end_moves outcome c

pub closed_moves : (psm : ℕ) (cause : CloseCause) (c : Client) (stage : Stage) → c.stage ≡ stage → Moved c (events.closed_at stage psm cause c)
closed_moves psm cause c (SearchChannel Asked) at = either (eqb psm 0x0001) c (ends_if (cause_of_close cause) c) c (if_moves (cause_of_close cause) c) (still c)
closed_moves psm cause c Search at = either (eqb psm 0x0001) c (ends_if (cause_of_close cause) c) c (if_moves (cause_of_close cause) c) (still c)
closed_moves psm cause c (SearchEnd point) at = either (eqb psm 0x0001) c (events.search_closed (cause_of_close cause) c) c (closed_search (cause_of_close cause) c) (still c)
closed_moves psm cause c (ObjectChannel Asked) at = either (eqb psm c.psm) c (ends_if (cause_of_close cause) c) c (if_moves (cause_of_close cause) c) (still c)
closed_moves psm cause c Object at = either (eqb psm c.psm) c (ends_if (cause_of_close cause) c) c (if_moves (cause_of_close cause) c) (still c)
closed_moves psm cause c (ObjectEnd point) at = either (eqb psm c.psm) c (record c { stage = LinkEnd Due }) c (inl refl) (still c)
closed_moves psm cause c Rest at = still c
closed_moves psm cause c (Link point) at = still c
closed_moves psm cause c (SearchChannel Due) at = still c
closed_moves psm cause c (Features point) at = still c
closed_moves psm cause c (ObjectChannel Due) at = still c
closed_moves psm cause c (LinkEnd point) at = still c
closed_moves psm cause c Over at = still c

pub linked_moves : (c : Client) (stage : Stage) → Moved c (events.linked_at stage c)
linked_moves c (Link Asked) = either (is_some c.cause) c (record c { stage = LinkEnd Due }) (record c { stage = SearchChannel Due }) (inl refl) (inl refl)
linked_moves c (Link Due) = still c
linked_moves c Rest = still c
linked_moves c (SearchChannel point) = still c
linked_moves c Search = still c
linked_moves c (SearchEnd point) = still c
linked_moves c (Features point) = still c
linked_moves c (ObjectChannel point) = still c
linked_moves c Object = still c
linked_moves c (ObjectEnd point) = still c
linked_moves c (LinkEnd point) = still c
linked_moves c Over = still c

pub over_moves : (cause : Option Outcome) (outcome : Outcome) (c : Client) → Moved c (events.over_by cause outcome c)
over_moves None outcome c = inl refl
over_moves (Some earlier) outcome c = inl refl

pub search_is : (stage : Stage) → is_search stage ≡ true → stage ≡ Search
search_is Search is = refl
search_is Rest is = cc
search_is (Link point) is = cc
search_is (SearchChannel point) is = cc
search_is (SearchEnd point) is = cc
search_is (Features point) is = cc
search_is (ObjectChannel point) is = cc
search_is Object is = cc
search_is (ObjectEnd point) is = cc
search_is (LinkEnd point) is = cc
search_is Over is = cc

-- in its search, where the query holds the same parts still
pub joined_moves : (c d : Client) → c.stage ≡ Search → d.stage ≡ Search → d.query.joined ≡ c.query.joined → Moved c d
joined_moves c d at to same = inr (ap phase to ∙ sym (ap phase at), subst (λ s. SameIn (phase s) c.query d.query) (sym at) same)

pub timer_moves : (c : Client) → Moved c (events.fires c)
timer_moves c = by (is_search c.stage) refl
  where
    again : Client
    again = record c { query = after_resend c.query }

    late : Client
    late = cond (eqb c.left 0) (ends outcomes.RetryLimit c) again

    by : (search : Bool) → is_search c.stage ≡ search → Moved c (cond ((is_search c.stage && is_awaiting c.query) && not (c.given || is_due c.query)) late c)
    by false is = subst (Moved c) (sym (ap (λ b. cond ((b && is_awaiting c.query) && not (c.given || is_due c.query)) late c) is)) (still c)
    by true is =
        let at = search_is c.stage is in
        either ((is_search c.stage && is_awaiting c.query) && not (c.given || is_due c.query)) c late c (either (eqb c.left 0) c (ends outcomes.RetryLimit c) again (end_moves outcomes.RetryLimit c) (joined_moves c again at at refl)) (still c)

pub features_moves : (c : Client) (b : Bool) → Moved c (cond b (record c { stage = ObjectChannel Due }) c)
features_moves c true = inl refl
features_moves c false = still c

-- but for what its search hears, and for the opening of the channel of that
abbrev pub IsPlainNews : events.News → Stage → Type 0
IsPlainNews events.LinkUp stage = Unit {0}
IsPlainNews (events.LinkDown reason) stage = Unit {0}
IsPlainNews (events.LinkFailed status) stage = Unit {0}
IsPlainNews (events.ChannelOpen psm mtu) stage = stage ≡ SearchChannel Asked → ⊥
IsPlainNews (events.ChannelClosed psm cause) stage = Unit {0}
IsPlainNews (events.Sdu psm octets) stage = stage ≡ Search → ⊥
IsPlainNews events.FeaturesTold stage = Unit {0}
IsPlainNews events.FeaturesLost stage = Unit {0}
IsPlainNews events.Timer stage = Unit {0}

pub news_moves : (news : events.News) (c : Client) → IsPlainNews news c.stage → Moved c (events.hears_news news c)
news_moves events.LinkUp c plain = linked_moves c c.stage
news_moves (events.LinkDown reason) c plain = either (events.is_linked c.stage) c (events.over (cause_of_link reason) c) c (over_moves c.cause (cause_of_link reason) c) (still c)
news_moves (events.LinkFailed status) c plain = either (events.is_paging c.stage) c (events.over (cause_of_page status) c) c (over_moves c.cause (cause_of_page status) c) (still c)
news_moves (events.ChannelOpen psm mtu) c plain = opened_moves psm mtu c c.stage refl plain
news_moves (events.ChannelClosed psm cause) c plain = closed_moves psm cause c c.stage refl
news_moves (events.Sdu psm octets) c plain = sdu_moves psm octets c c.stage refl plain
news_moves events.FeaturesTold c plain = features_moves c (events.is_asking_features c.stage)
news_moves events.FeaturesLost c plain = either (events.is_asking_features c.stage) c (ends outcomes.RetryLimit c) c (end_moves outcomes.RetryLimit c) (still c)
news_moves events.Timer c plain = timer_moves c

-- ---- steps

pub step_either : (b : Bool) (c : Client) (x y : Stepped) → Moved c x.client → Moved c y.client → Moved c (cond b x y).client
step_either true c x y one other = one
step_either false c x y one other = other

pub end_tells : (cause : Option Outcome) (c : Client) (parts : List Part) → Moved c (tells_end cause c parts).client
end_tells None c parts = still c
end_tells (Some outcome) c parts = inl refl

-- but for the two in which it asks for a channel
abbrev pub IsPlainStage : Stage → Type 0
IsPlainStage stage = (stage ≡ SearchChannel Due → ⊥) × (stage ≡ ObjectChannel Due → ⊥)

pub stage_moves : (c : Client) (parts : List Part) (stage : Stage) → c.stage ≡ stage → IsPlainStage stage → Moved c (steps_at stage c parts).client
stage_moves c parts (SearchChannel Due) at plain = absurd (plain.0 refl)
stage_moves c parts (ObjectChannel Due) at plain = absurd (plain.1 refl)
stage_moves c parts Rest at plain = still c
stage_moves c parts (Link Due) at plain = near c (steps_at (Link Due) c parts).client refl (inr (sym (ap phase at)))
stage_moves c parts (Link Asked) at plain = still c
stage_moves c parts (SearchChannel Asked) at plain = still c
stage_moves c parts Search at plain =
    let asked : Client = record c { query = after_request c.query; left = c.left - 1; rest = request_octets c.query } in
    let one = sends_sdu 0x0001 (Octets (request_octets c.query)) asked parts in
    step_either (is_due c.query) c one (rests c parts) (joined_moves c one.client at at refl) (still c)
stage_moves c parts (SearchEnd Due) at plain = inl refl
stage_moves c parts (SearchEnd Asked) at plain = still c
stage_moves c parts (Features Due) at plain = inl refl
stage_moves c parts (Features Asked) at plain = still c
stage_moves c parts (ObjectChannel Asked) at plain = still c
stage_moves c parts Object at plain = late_moves c (course.steps_object c.transport c parts).client at (object_quiet (anchor_of c) c.transport c parts (late_at c at, refl)).0.0
stage_moves c parts (ObjectEnd Due) at plain = inl refl
stage_moves c parts (ObjectEnd Asked) at plain = still c
stage_moves c parts (LinkEnd Due) at plain = inl refl
stage_moves c parts (LinkEnd Asked) at plain = still c
stage_moves c parts Over at plain = end_tells c.cause c parts

pub step_moves : (c : Client) (parts : List Part) → IsPlainStage c.stage → Moved c (course.steps c parts).client
step_moves c parts plain =
    step_either c.failed c (record { client = c; step = NoMemory; left = parts }) (cond c.given (rests c parts) (steps_at c.stage c parts)) (still c)
    (step_either c.given c (rests c parts) (steps_at c.stage c parts) (still c) (stage_moves c parts c.stage refl plain))

-- ---- all that it does

abbrev pub IsPlainDeed : Deed → Stage → Type 0
IsPlainDeed (Hears news) stage = IsPlainNews news stage
IsPlainDeed (Asks parts) stage = IsPlainStage stage
IsPlainDeed Finishes stage = Unit {0}
IsPlainDeed Cancels stage = Unit {0}

pub deed_moves : (deed : Deed) (c : Client) → IsPlainDeed deed c.stage → Moved c (done deed c)
deed_moves (Hears news) c plain = news_moves news c plain
deed_moves (Asks parts) c plain = step_moves c parts plain
deed_moves Finishes c plain = near c (done Finishes c) refl (inr refl)
deed_moves Cancels c plain = either (may_cancel c) c (ends outcomes.Cancelled c) c (end_moves outcomes.Cancelled c) (still c)
