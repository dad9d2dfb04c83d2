-- The channels that a client opens: where a push stands on its way.
use Rattle.std.proofs.Common.{◌≡◌, ℕ, ◌≤◌, ◌*◌, ◌-◌, ◌++◌, ◌==◌, ◌&&◌, ◌||◌, not, nat_lt, min, length, Bool, true, false, List, [], ◌∷◌, Option, Some, None, is_some, refl, sym, ap, subst, ◌∙◌, arith, append-nil, append_assoc, if◌then◌else◌}
use Rattle.std.specs.List.{filter_map, flat_map, cons_option}
use Rattle.link_talk.specs.bt_base.specs.declared.settings.Transport.{Transport}
use Rattle.link_talk.specs.bt_base.specs.declared.settings.Transport.TheVariants.{L2cap, Rfcomm}
use Rattle.link_talk.specs.push_terms.specs.declared.outcome.Outcome.{Outcome}
use Rattle.link_talk.specs.push_terms.specs.declared.outcome.Outcome.TheVariants as outcomes
use Rattle.push_model.specs.sdp_elements.specs.declared.target.Target.{Target}
use Rattle.push_model.specs.sdp_client.specs.declared.reason.Found.{Found}
use Rattle.push_model.specs.sdp_client.specs.declared.reason.Found.TheVariants.{More, Service, NoService, Refused}
use Rattle.push_model.specs.sdp_client.specs.Asking.{is_due, after_resend, after_request, request_octets}
use Rattle.push_model.specs.sdp_client.specs.Hearing.{found_at, after_reply}
use Rattle.push_model.specs.declared.closing.CloseCause.{CloseCause}
use Rattle.push_model.specs.declared.course.Point.TheVariants.{Due, Asked}
use Rattle.push_model.specs.declared.course.Stage.{Stage}
use Rattle.push_model.specs.declared.course.Stage.TheVariants.{Rest, Link, SearchChannel, Search, SearchEnd, Features, ObjectChannel, Object, ObjectEnd, LinkEnd, Over}
use Rattle.push_model.specs.Causes.{Ending, InOrder, AtOnce, ending_of, cause_of_link, cause_of_page, cause_of_close, cause_of_query, small_channel, unawaited_response}
use Rattle.push_model.specs.Client.{Client, ends, ends_by, ends_if, may_cancel, in_order, at_once, stage_after, with_object}
use Rattle.push_model.specs.Events as events
use Rattle.push_model.specs.Events.{is_search, search_psm, rfcomm_psm}
use Rattle.push_model.specs.Laws.{Deed, Hears, Asks, Finishes, Cancels, done, all_done}
use Rattle.push_model.specs.Responding.{is_object}
use Rattle.push_model.specs.Payloads.{Octets}
use Rattle.push_model.specs.Shown.{way_of}
use Rattle.push_model.specs.Steps as steps
use Rattle.push_model.specs.Steps.{Part, Step, AskFeatures, OpenChannel, NoMemory, Stepped, Made, Ask, Connect, Put, Abort, Disconnect, Close, Nothing, put_count, puts_part, puts_from, puts, leaves_by, failing, puts_or_leaves, requests, sends_direct, asks_direct, filled, said_by, says, sends_muxed, takes_some, asks_through, asks_muxed, goes_muxed, steps_object, steps_search, tells_end, steps_at, sends_sdu, rests, may_ask, next_ask}
use Rattle.push_laws.specs.Opening.{way_in, way_by, way_taken, found_in, targets_told, targets_by, targets_heard, way_to, whole_way, TakesTheWay, OpensTheTarget, OpensTheServerChannel}
use Rattle.push_laws.proofs.Talks.{object_of}
use Rattle.push_laws.proofs.Late.{Anchor, anchor_of, IsLate, either, object_late, object_quiet}

-- ---- where a push stands on its way

pub record Walk : Type 0 where
  pub transport : Transport
  pub targets : List Target
  pub taken : List Step

pub record Course : Type 0 where
  pub cause : Option Outcome
  pub anchor : Anchor

abbrev pub course_of : Client → Course
course_of client = record { cause = client.cause; anchor = anchor_of client }

abbrev pub first : List Step
first = OpenChannel search_psm ∷ []

abbrev pub psm_over : Transport → ℕ → ℕ
psm_over L2cap psm = psm
psm_over Rfcomm channel = rfcomm_psm

pub record Begins (w : Walk) (taken : List Step) (c : Course) : Type 0 where
  pub same : c.anchor.transport ≡ w.transport
  pub none : w.targets ≡ []
  pub is : w.taken ≡ taken

-- the target that was heard names the channel
pub record Names (w : Walk) (anchor : Anchor) : Type 0 where
  pub same : anchor.transport ≡ w.transport
  pub target : Target
  pub number : ℕ
  pub only : w.targets ≡ target ∷ []
  pub named : way_of w.transport target ≡ Some number
  pub psm_is : anchor.psm ≡ psm_over w.transport number
  pub channel_is : w.transport ≡ Rfcomm → anchor.channel ≡ number

pub record Searched (w : Walk) (c : Course) : Type 0 where
  pub one : length w.targets ≤ 1
  pub is : w.taken ≡ first
  pub names : c.cause ≡ None → Names w c.anchor

pub record AsksPeer (w : Walk) (taken : List Step) (c : Course) : Type 0 where
  pub names : Names w c.anchor
  pub is : w.taken ≡ taken
  pub direct : w.transport ≡ L2cap

pub record Opens (w : Walk) (c : Course) : Type 0 where
  pub names : Names w c.anchor
  pub way : whole_way w.transport w.targets ≡ w.taken ++ OpenChannel c.anchor.psm ∷ []

abbrev pub OnTheWay : Walk → Type 0
OnTheWay w = TakesTheWay w.transport w.targets w.taken

-- the channel of the object was asked for
pub record AsksChannel (w : Walk) (c : Course) : Type 0 where
  pub names : Names w c.anchor
  pub way : OnTheWay w

-- it is open, and over RFCOMM the multiplexer is for the server channel
pub record HasChannel (w : Walk) (c : Course) : Type 0 where
  pub names : Names w c.anchor
  pub way : OnTheWay w
  pub dlci : w.transport ≡ Rfcomm → c.anchor.dlci ≡ 2 * c.anchor.channel

abbrev pub At : Walk → Stage → Course → Type 0
At w (Link point) c = Begins w [] c
At w (SearchChannel Due) c = Begins w [] c
At w (SearchChannel Asked) c = Begins w first c
At w Search c = Begins w first c
At w (SearchEnd point) c = Searched w c
At w (Features Due) c = AsksPeer w first c
At w (Features Asked) c = AsksPeer w (OpenChannel search_psm ∷ AskFeatures ∷ []) c
At w (ObjectChannel Due) c = Opens w c
At w (ObjectChannel Asked) c = AsksChannel w c
At w Object c = HasChannel w c
At w (ObjectEnd point) c = OnTheWay w
At w (LinkEnd point) c = OnTheWay w
At w Over c = OnTheWay w
At w Rest c = OnTheWay w

abbrev pub Stands : Walk → Client → Type 0
Stands w client = At w client.stage (course_of client)

-- ---- each stands on the whole way

on_way : (w : Walk) (taken behind : List Step) → length w.targets ≤ 1 → w.taken ≡ taken → whole_way w.transport w.targets ≡ taken ++ behind → OnTheWay w
on_way w taken behind one is way = record { one = one; behind = behind; way = way ∙ ap (λ (xs : List Step). xs ++ behind) (sym is) }

few_none : (xs : List Target) → xs ≡ [] → length xs ≤ 1
few_none xs e = subst (λ (ys : List Target). length ys ≤ 1) (sym e) (omega arith)

few_one : (xs : List Target) (x : Target) → xs ≡ x ∷ [] → length xs ≤ 1
few_one xs x e = subst (λ (ys : List Target). length ys ≤ 1) (sym e) (omega arith)

searched : (w : Walk) → length w.targets ≤ 1 → w.taken ≡ first → OnTheWay w
searched w one is = on_way w first (flat_map (way_to w.transport) (filter_map (way_of w.transport) w.targets)) one is refl

named_way : (w : Walk) (c : Course) (n : Names w c.anchor) → whole_way w.transport w.targets ≡ OpenChannel search_psm ∷ (way_to w.transport n.number ++ [])
named_way w c n = ap (whole_way w.transport) n.only ∙ ap (λ (o : Option ℕ). OpenChannel search_psm ∷ flat_map (way_to w.transport) (cons_option o [])) n.named

direct_way : (w : Walk) (c : Course) (n : Names w c.anchor) → w.transport ≡ L2cap → whole_way w.transport w.targets ≡ OpenChannel search_psm ∷ AskFeatures ∷ OpenChannel c.anchor.psm ∷ []
direct_way w c n direct =
    named_way w c n ∙ ap (λ (t : Transport). OpenChannel search_psm ∷ (way_to t n.number ++ [])) direct
    ∙ ap (λ (psm : ℕ). OpenChannel search_psm ∷ AskFeatures ∷ OpenChannel psm ∷ []) (sym (n.psm_is ∙ ap (λ (t : Transport). psm_over t n.number) direct))

muxed_way : (w : Walk) (c : Course) (n : Names w c.anchor) → w.transport ≡ Rfcomm → whole_way w.transport w.targets ≡ OpenChannel search_psm ∷ OpenChannel c.anchor.psm ∷ []
muxed_way w c n muxed =
    named_way w c n ∙ ap (λ (t : Transport). OpenChannel search_psm ∷ (way_to t n.number ++ [])) muxed
    ∙ ap (λ (psm : ℕ). OpenChannel search_psm ∷ OpenChannel psm ∷ []) (sym (n.psm_is ∙ ap (λ (t : Transport). psm_over t n.number) muxed))

on_way_at : (w : Walk) (stage : Stage) (c : Course) → At w stage c → OnTheWay w
on_way_at w (Link point) c s = on_way w [] first (few_none w.targets s.none) s.is (ap (whole_way w.transport) s.none)
on_way_at w (SearchChannel Due) c s = on_way w [] first (few_none w.targets s.none) s.is (ap (whole_way w.transport) s.none)
on_way_at w (SearchChannel Asked) c s = searched w (few_none w.targets s.none) s.is
on_way_at w Search c s = searched w (few_none w.targets s.none) s.is
on_way_at w (SearchEnd point) c s = searched w s.one s.is
on_way_at w (Features Due) c s = searched w (few_one w.targets s.names.target s.names.only) s.is
on_way_at w (Features Asked) c s =
    on_way w (OpenChannel search_psm ∷ AskFeatures ∷ []) (OpenChannel c.anchor.psm ∷ []) (few_one w.targets s.names.target s.names.only) s.is (direct_way w c s.names s.direct)
on_way_at w (ObjectChannel Due) c s = record { one = few_one w.targets s.names.target s.names.only; behind = OpenChannel c.anchor.psm ∷ []; way = s.way }
on_way_at w (ObjectChannel Asked) c s = s.way
on_way_at w Object c s = s.way
on_way_at w (ObjectEnd point) c s = s
on_way_at w (LinkEnd point) c s = s
on_way_at w Over c s = s
on_way_at w Rest c s = s

-- ---- an end

some_cause : (o : Outcome) (A : Type 0) → Some o ≡ None → A
some_cause o A e = absurd cc

ends_search : (w : Walk) (o : Outcome) (point : Stage) (c : Course) → length w.targets ≤ 1 → w.taken ≡ first → At w (SearchEnd Due) (record c { cause = Some o })
ends_search w o point c one is = record { one = one; is = is; names = λ e. some_cause o (Names w c.anchor) e }

ends_in_order : (w : Walk) (o : Outcome) (stage : Stage) (c : Course) → At w stage c → At w (in_order stage) (record c { cause = Some o })
ends_in_order w o Rest c s = s
ends_in_order w o (Link Due) c s = on_way_at w (Link Due) c s
ends_in_order w o (Link Asked) c s = record { same = s.same; none = s.none; is = s.is }
ends_in_order w o (SearchChannel Due) c s = on_way_at w (SearchChannel Due) c s
ends_in_order w o (SearchChannel Asked) c s = ends_search w o Search c (few_none w.targets s.none) s.is
ends_in_order w o Search c s = ends_search w o Search c (few_none w.targets s.none) s.is
ends_in_order w o (SearchEnd point) c s = ends_search w o Search c s.one s.is
ends_in_order w o (Features Due) c s = on_way_at w (Features Due) c s
ends_in_order w o (Features Asked) c s = on_way_at w (Features Asked) c s
ends_in_order w o (ObjectChannel Due) c s = on_way_at w (ObjectChannel Due) c s
ends_in_order w o (ObjectChannel Asked) c s = s.way
ends_in_order w o Object c s = record { names = s.names; way = s.way; dlci = s.dlci }
ends_in_order w o (ObjectEnd point) c s = s
ends_in_order w o (LinkEnd point) c s = s
ends_in_order w o Over c s = s

ends_at_once : (w : Walk) (cause : Option Outcome) (stage : Stage) (c : Course) → At w stage c → At w (at_once stage) (record c { cause = cause })
ends_at_once w cause Rest c s = s
ends_at_once w cause (Link Due) c s = on_way_at w (Link Due) c s
ends_at_once w cause (Link Asked) c s = record { same = s.same; none = s.none; is = s.is }
ends_at_once w cause (SearchChannel Due) c s = on_way_at w (SearchChannel Due) c s
ends_at_once w cause (SearchChannel Asked) c s = on_way_at w (SearchChannel Asked) c s
ends_at_once w cause Search c s = on_way_at w Search c s
ends_at_once w cause (SearchEnd point) c s = on_way_at w (SearchEnd point) c s
ends_at_once w cause (Features Due) c s = on_way_at w (Features Due) c s
ends_at_once w cause (Features Asked) c s = on_way_at w (Features Asked) c s
ends_at_once w cause (ObjectChannel Due) c s = on_way_at w (ObjectChannel Due) c s
ends_at_once w cause (ObjectChannel Asked) c s = s.way
ends_at_once w cause Object c s = s.way
ends_at_once w cause (ObjectEnd point) c s = s
ends_at_once w cause (LinkEnd point) c s = s
ends_at_once w cause Over c s = s

ending_stands : (w : Walk) (ending : Ending) (o : Outcome) (stage : Stage) (c : Course) → At w stage c → At w (stage_after ending stage) (record c { cause = Some o })
ending_stands w InOrder o stage c s = ends_in_order w o stage c s
ending_stands w AtOnce o stage c s = ends_at_once w (Some o) stage c s

ends_by_stands : (w : Walk) (cause : Option Outcome) (o : Outcome) (client : Client) → Stands w client → Stands w (ends_by cause o client)
ends_by_stands w None o client s = ending_stands w (ending_of o) o client.stage (course_of client) s
ends_by_stands w (Some earlier) o client s = ends_at_once w client.cause client.stage (course_of client) s

ends_stands : (w : Walk) (o : Outcome) (client : Client) → Stands w client → Stands w (ends o client)
ends_stands w o client s = ends_by_stands w client.cause o client s

ends_if_stands : (w : Walk) (found : Option Outcome) (client : Client) → Stands w client → Stands w (ends_if found client)
ends_if_stands w None client s = s
ends_if_stands w (Some o) client s = ends_stands w o client s

-- ---- from the channel of the object on nothing more is opened

late_at : (w : Walk) (stage : Stage) (c c' : Course) → IsLate stage → c'.anchor ≡ c.anchor → HasChannel w c → At w stage c'
late_at w Object c c' late same s = record {
  names = subst (Names w) (sym same) s.names;
  way = s.way;
  dlci = λ muxed. subst (λ (a : Anchor). a.dlci ≡ 2 * a.channel) (sym same) (s.dlci muxed);
}
late_at w (ObjectEnd point) c c' late same s = s.way
late_at w (LinkEnd point) c c' late same s = s.way
late_at w Over c c' late same s = s.way
late_at w Rest c c' late same s = s.way
late_at w (Link point) c c' late same s = absurd late
late_at w (SearchChannel point) c c' late same s = absurd late
late_at w Search c c' late same s = absurd late
late_at w (SearchEnd point) c c' late same s = absurd late
late_at w (Features point) c c' late same s = absurd late
late_at w (ObjectChannel point) c c' late same s = absurd late

-- ---- links and channels

over_stands : (w : Walk) (cause : Option Outcome) (o : Outcome) (client : Client) → Stands w client → Stands w (events.over_by cause o client)
over_stands w None o client s = on_way_at w client.stage (course_of client) s
over_stands w (Some earlier) o client s = on_way_at w client.stage (course_of client) s

linked_stands : (w : Walk) (stage : Stage) (client : Client) → At w stage (course_of client) → Stands w client → Stands w (events.linked_at stage client)
linked_stands w (Link Asked) client s c =
    either (Stands w) (is_some client.cause) (record client { stage = LinkEnd Due }) (record client { stage = SearchChannel Due }) (on_way_at w (Link Asked) (course_of client) s) s
linked_stands w Rest client s c = c
linked_stands w (Link Due) client s c = c
linked_stands w (SearchChannel point) client s c = c
linked_stands w Search client s c = c
linked_stands w (SearchEnd point) client s c = c
linked_stands w (Features point) client s c = c
linked_stands w (ObjectChannel point) client s c = c
linked_stands w Object client s c = c
linked_stands w (ObjectEnd point) client s c = c
linked_stands w (LinkEnd point) client s c = c
linked_stands w Over client s c = c

not_muxed : L2cap ≡ Rfcomm → ⊥
not_muxed e = cc

object_opens : (w : Walk) (t : Transport) (mtu : ℕ) (client : Client) → t ≡ client.transport → AsksChannel w (course_of client) → Stands w client → Stands w (events.object_opened t mtu client)
object_opens w L2cap mtu client t s c =
    either (Stands w) (nat_lt mtu 255) (ends small_channel client) (record client { stage = Object; limit = min mtu 32767 }) (ends_stands w small_channel client c)
    (record { names = s.names; way = s.way; dlci = λ muxed. absurd (not_muxed (t ∙ s.names.same ∙ muxed)) })
object_opens w Rfcomm mtu client t s c =
    let n = s.names in
    record { names = record { same = n.same; target = n.target; number = n.number; only = n.only; named = n.named; psm_is = n.psm_is; channel_is = n.channel_is }; way = s.way; dlci = λ muxed. refl }

opened_stands : (w : Walk) (stage : Stage) (psm mtu : ℕ) (client : Client) → At w stage (course_of client) → Stands w client → Stands w (events.opened_at stage psm mtu client)
opened_stands w (SearchChannel Asked) psm mtu client s c = either (Stands w) (psm == search_psm) (record client { stage = Search }) client s c
opened_stands w (ObjectChannel Asked) psm mtu client s c = either (Stands w) (psm == client.psm) (events.object_opened client.transport mtu client) client (object_opens w client.transport mtu client refl s c) c
opened_stands w Rest psm mtu client s c = c
opened_stands w (Link point) psm mtu client s c = c
opened_stands w (SearchChannel Due) psm mtu client s c = c
opened_stands w Search psm mtu client s c = c
opened_stands w (SearchEnd point) psm mtu client s c = c
opened_stands w (Features point) psm mtu client s c = c
opened_stands w (ObjectChannel Due) psm mtu client s c = c
opened_stands w Object psm mtu client s c = c
opened_stands w (ObjectEnd point) psm mtu client s c = c
opened_stands w (LinkEnd point) psm mtu client s c = c
opened_stands w Over psm mtu client s c = c

behind_stands : (w : Walk) (t : Transport) (client : Client) → w.transport ≡ t → Searched w (course_of client) → Names w (anchor_of client) → At w (events.stage_behind t) (course_of client)
behind_stands w L2cap client is s n = record { names = n; is = s.is; direct = is }
behind_stands w Rfcomm client is s n = record { names = n; way = muxed_way w (course_of client) n is ∙ ap (λ (xs : List Step). xs ++ OpenChannel client.psm ∷ []) (sym s.is) }

left_stands : (w : Walk) (cause : Option Outcome) (client : Client) → client.cause ≡ cause → Searched w (course_of client) → Stands w (events.search_left cause client)
left_stands w None client is s = let n = s.names is in behind_stands w client.transport client (sym n.same) s n
left_stands w (Some cause) client is s = searched w s.one s.is

search_closed_stands : (w : Walk) (found : Option Outcome) (client : Client) → Searched w (course_of client) → Stands w client → Stands w (events.search_closed found client)
search_closed_stands w None client s c = left_stands w client.cause client refl s
search_closed_stands w (Some o) client s c = ends_stands w o client c

closed_stands : (w : Walk) (stage : Stage) (psm : ℕ) (cause : CloseCause) (client : Client) → At w stage (course_of client) → Stands w client → Stands w (events.closed_at stage psm cause client)
closed_stands w (SearchChannel Asked) psm cause client s c = either (Stands w) (psm == search_psm) (ends_if (cause_of_close cause) client) client (ends_if_stands w (cause_of_close cause) client c) c
closed_stands w Search psm cause client s c = either (Stands w) (psm == search_psm) (ends_if (cause_of_close cause) client) client (ends_if_stands w (cause_of_close cause) client c) c
closed_stands w (SearchEnd point) psm cause client s c = either (Stands w) (psm == search_psm) (events.search_closed (cause_of_close cause) client) client (search_closed_stands w (cause_of_close cause) client s c) c
closed_stands w (ObjectChannel Asked) psm cause client s c = either (Stands w) (psm == client.psm) (ends_if (cause_of_close cause) client) client (ends_if_stands w (cause_of_close cause) client c) c
closed_stands w Object psm cause client s c = either (Stands w) (psm == client.psm) (ends_if (cause_of_close cause) client) client (ends_if_stands w (cause_of_close cause) client c) c
closed_stands w (ObjectEnd point) psm cause client s c = either (Stands w) (psm == client.psm) (record client { stage = LinkEnd Due }) client s c
closed_stands w Rest psm cause client s c = c
closed_stands w (Link point) psm cause client s c = c
closed_stands w (SearchChannel Due) psm cause client s c = c
closed_stands w (Features point) psm cause client s c = c
closed_stands w (ObjectChannel Due) psm cause client s c = c
closed_stands w (LinkEnd point) psm cause client s c = c
closed_stands w Over psm cause client s c = c

told_stands : (w : Walk) (stage : Stage) (client : Client) → At w stage (course_of client) → Stands w client → Stands w (if events.is_asking_features stage then record client { stage = ObjectChannel Due } else client)
told_stands w (Features Asked) client s c =
    record { names = s.names; way = direct_way w (course_of client) s.names s.direct ∙ ap (λ (xs : List Step). xs ++ OpenChannel client.psm ∷ []) (sym s.is) }
told_stands w (Features Due) client s c = c
told_stands w Rest client s c = c
told_stands w (Link point) client s c = c
told_stands w (SearchChannel point) client s c = c
told_stands w Search client s c = c
told_stands w (SearchEnd point) client s c = c
told_stands w (ObjectChannel point) client s c = c
told_stands w Object client s c = c
told_stands w (ObjectEnd point) client s c = c
told_stands w (LinkEnd point) client s c = c
told_stands w Over client s c = c

-- ---- the search

-- a reply makes an answer whole: the search is over
abbrev hearing : Walk → List Target → Walk
hearing w targets = record w { targets = w.targets ++ targets }

none_heard : (w : Walk) (client : Client) → Stands w client → Stands (hearing w []) client
none_heard w client s = subst (λ (xs : List Target). Stands (record w { targets = xs }) client) (sym (append-nil w.targets)) s

only_heard : (w : Walk) (target : Target) → w.targets ≡ [] → (hearing w (target ∷ [])).targets ≡ target ∷ []
only_heard w target none = ap (λ (xs : List Target). xs ++ target ∷ []) none

-- the record names no way for the transport
ends_searching : (w : Walk) (cause : Option Outcome) (o : Outcome) (stage : Stage) (client : Client) → stage ≡ Search → length w.targets ≤ 1 → w.taken ≡ first
    → At w (ends_by cause o (record client { stage = stage })).stage (course_of (ends_by cause o (record client { stage = stage })))
ends_searching w None o stage client is one taken = subst (λ (s : Stage). At w (stage_after (ending_of o) s) (record (course_of client) { cause = Some o })) (sym is) (by (ending_of o))
  where
    by : (ending : Ending) → At w (stage_after ending Search) (record (course_of client) { cause = Some o })
    by InOrder = ends_search w o Search (course_of client) one taken
    by AtOnce = searched w one taken
ends_searching w (Some earlier) o stage client is one taken = subst (λ (s : Stage). At w (at_once s) (course_of client)) (sym is) (searched w one taken)

no_way : (w : Walk) (o : Outcome) (client : Client) → client.stage ≡ Search → length w.targets ≤ 1 → w.taken ≡ first → Stands w (ends o client)
no_way w o client is one taken = ends_searching w client.cause o client.stage client is one taken

psm_found : (w : Walk) (target : Target) (found : Option ℕ) (client : Client) → client.stage ≡ Search → w.transport ≡ L2cap → way_of L2cap target ≡ found → Begins w first (course_of client)
    → Stands (hearing w (target ∷ [])) (events.found_psm found client)
psm_found w target None client is t named s = let only = only_heard w target s.none in no_way (hearing w (target ∷ [])) outcomes.NoService client is (few_one (w.targets ++ target ∷ []) target only) s.is
psm_found w target (Some psm) client is t named s =
    let only = only_heard w target s.none in
    record {
      one = few_one (w.targets ++ target ∷ []) target only;
      is = s.is;
      names = λ e. record { same = s.same; target = target; number = psm; only = only; named = ap (λ (u : Transport). way_of u target) t ∙ named; psm_is = sym (ap (λ (u : Transport). psm_over u psm) t); channel_is = λ muxed. absurd (not_muxed (sym t ∙ muxed)) };
    }

channel_found : (w : Walk) (target : Target) (found : Option ℕ) (client : Client) → client.stage ≡ Search → w.transport ≡ Rfcomm → way_of Rfcomm target ≡ found → Begins w first (course_of client)
    → Stands (hearing w (target ∷ [])) (events.found_channel found client)
channel_found w target None client is t named s = let only = only_heard w target s.none in no_way (hearing w (target ∷ [])) outcomes.NoService client is (few_one (w.targets ++ target ∷ []) target only) s.is
channel_found w target (Some channel) client is t named s =
    let only = only_heard w target s.none in
    record {
      one = few_one (w.targets ++ target ∷ []) target only;
      is = s.is;
      names = λ e. record { same = s.same; target = target; number = channel; only = only; named = ap (λ (u : Transport). way_of u target) t ∙ named; psm_is = sym (ap (λ (u : Transport). psm_over u channel) t); channel_is = λ muxed. refl };
    }

way_found : (w : Walk) (target : Target) (t : Transport) (client : Client) → client.stage ≡ Search → w.transport ≡ t → Begins w first (course_of client) → Stands (hearing w (target ∷ [])) (events.found_way t target client)
way_found w target L2cap client is t s = psm_found w target (way_of L2cap target) client is t refl s
way_found w target Rfcomm client is t s = channel_found w target (way_of Rfcomm target) client is t refl s

finds_stands : (w : Walk) (found : Found) (client : Client) → client.stage ≡ Search → Begins w first (course_of client) → Stands w client → Stands (hearing w (found_in found)) (events.finds found client)
finds_stands w More client is s c = none_heard w (record client { left = client.tries }) c
finds_stands w (Service target) client is s c = way_found w target client.transport client is (sym s.same) s
finds_stands w NoService client is s c = none_heard w (ends outcomes.NoService client) (ends_stands w outcomes.NoService client c)
finds_stands w (Refused reason) client is s c = none_heard w (ends_if (cause_of_query reason) client) (ends_if_stands w (cause_of_query reason) client c)

reply_stands : (w : Walk) (here : Bool) (sdu : List ℕ) (client : Client) → client.stage ≡ Search → Begins w first (course_of client) → Stands w client
    → Stands (hearing w (if here then found_in (found_at client.query sdu) else [])) (if here then events.hears_reply sdu client else client)
reply_stands w true sdu client is s c = finds_stands w (found_at client.query sdu) (record client { query = after_reply client.query sdu }) is s c
reply_stands w false sdu client is s c = none_heard w client c

outside_stands : (w : Walk) (t : Transport) (client : Client) → Stands w client → Stands w (events.hears_outside t client)
outside_stands w L2cap client c = ends_stands w unawaited_response client c
outside_stands w Rfcomm client c = c

objects_stand : (w : Walk) (sdu : List ℕ) (client : Client) → Object ≡ client.stage → HasChannel w (course_of client) → Stands w (events.hears_object client.transport sdu client)
objects_stand w sdu client is s =
    let after = events.hears_object client.transport sdu client in
    let late = object_late (anchor_of client) client.transport sdu client (subst IsLate is tt, refl) in
    late_at w after.stage (course_of client) (course_of after) late.0 late.1 s

sdu_stands : (w : Walk) (stage : Stage) (psm : ℕ) (sdu : List ℕ) (client : Client) → stage ≡ client.stage → At w stage (course_of client) → Stands w client
    → Stands (hearing w (if is_search stage && (psm == search_psm) then found_in (found_at client.query sdu) else [])) (events.sdu_at stage psm sdu client)
sdu_stands w Search psm sdu client is s c = reply_stands w (psm == search_psm) sdu client (sym is) s c
sdu_stands w (ObjectChannel point) psm sdu client is s c =
    let after = if psm == client.psm then events.hears_outside client.transport client else client in
    none_heard w after (either (Stands w) (psm == client.psm) (events.hears_outside client.transport client) client (outside_stands w client.transport client c) c)
sdu_stands w Object psm sdu client is s c =
    let after = if psm == client.psm then events.hears_object client.transport sdu client else client in
    none_heard w after (either (Stands w) (psm == client.psm) (events.hears_object client.transport sdu client) client (objects_stand w sdu client is s) c)
sdu_stands w (ObjectEnd point) psm sdu client is s c =
    let after = if psm == client.psm then events.hears_outside client.transport client else client in
    none_heard w after (either (Stands w) (psm == client.psm) (events.hears_outside client.transport client) client (outside_stands w client.transport client c) c)
sdu_stands w Rest psm sdu client is s c = none_heard w client c
sdu_stands w (Link point) psm sdu client is s c = none_heard w client c
sdu_stands w (SearchChannel point) psm sdu client is s c = none_heard w client c
sdu_stands w (SearchEnd point) psm sdu client is s c = none_heard w client c
sdu_stands w (Features point) psm sdu client is s c = none_heard w client c
sdu_stands w (LinkEnd point) psm sdu client is s c = none_heard w client c
sdu_stands w Over psm sdu client is s c = none_heard w client c

-- ---- all news

fires_stand : (w : Walk) (client : Client) → Stands w client → Stands w (events.fires client)
fires_stand w client c =
    let fired : Client = record client { query = after_resend client.query } in
    either (Stands w) (events.armed client && not (client.given || is_due client.query)) (if client.left == 0 then ends outcomes.RetryLimit client else fired) client
    (either (Stands w) (client.left == 0) (ends outcomes.RetryLimit client) fired (ends_stands w outcomes.RetryLimit client c) c) c

news_stand : (w : Walk) (news : events.News) (client : Client) → Stands w client → Stands (hearing w (targets_told news client)) (events.hears_news news client)
news_stand w events.LinkUp client c = none_heard w (events.linked_at client.stage client) (linked_stands w client.stage client c c)
news_stand w (events.LinkDown reason) client c =
    none_heard w (events.hears_news (events.LinkDown reason) client) (either (Stands w) (events.is_linked client.stage) (events.over (cause_of_link reason) client) client (over_stands w client.cause (cause_of_link reason) client c) c)
news_stand w (events.LinkFailed status) client c =
    none_heard w (events.hears_news (events.LinkFailed status) client) (either (Stands w) (events.is_paging client.stage) (events.over (cause_of_page status) client) client (over_stands w client.cause (cause_of_page status) client c) c)
news_stand w (events.ChannelOpen psm mtu) client c = none_heard w (events.opened_at client.stage psm mtu client) (opened_stands w client.stage psm mtu client c c)
news_stand w (events.ChannelClosed psm cause) client c = none_heard w (events.closed_at client.stage psm cause client) (closed_stands w client.stage psm cause client c c)
news_stand w (events.Sdu psm octets) client c = sdu_stands w client.stage psm octets client refl c c
news_stand w events.FeaturesTold client c = none_heard w (events.hears_news events.FeaturesTold client) (told_stands w client.stage client c c)
news_stand w events.FeaturesLost client c =
    none_heard w (events.hears_news events.FeaturesLost client) (either (Stands w) (events.is_asking_features client.stage) (ends outcomes.RetryLimit client) client (ends_stands w outcomes.RetryLimit client c) c)
news_stand w events.Timer client c = none_heard w (events.fires client) (fires_stand w client c)

-- ---- steps

abbrev taking : Walk → List Step → Walk
taking w more = record w { taken = w.taken ++ more }

none_taken : (w : Walk) (client : Client) → Stands w client → Stands (taking w []) client
none_taken w client s = subst (λ (xs : List Step). Stands (record w { taken = xs }) client) (sym (append-nil w.taken)) s

abbrev Steps : Walk → Stepped → Type 0
Steps w s = Stands (taking w (way_in s.step)) s.client

step_either : (w : Walk) (test : Bool) (a b : Stepped) → Steps w a → Steps w b → Steps w (if test then a else b)
step_either w true a b x y = x
step_either w false a b x y = y

object_steps : (w : Walk) (client : Client) (parts : List Part) → Object ≡ client.stage → HasChannel w (course_of client) → Steps w (steps_object client.transport client parts)
object_steps w client parts is s =
    let after = steps_object client.transport client parts in
    let quiet = object_quiet (anchor_of client) client.transport client parts (subst IsLate is tt, refl) in
    subst (λ (xs : List Step). Stands (taking w xs) after.client) (sym quiet.1) (none_taken w after.client (late_at w after.client.stage (course_of client) (course_of after.client) quiet.0.0 quiet.0.1 s))

tells_steps : (w : Walk) (cause : Option Outcome) (client : Client) (parts : List Part) → Stands w client → Steps w (tells_end cause client parts)
tells_steps w None client parts c = none_taken w client c
tells_steps w (Some outcome) client parts c = none_taken w (record client { stage = Rest }) (on_way_at w client.stage (course_of client) c)

given_at : (w : Walk) (stage : Stage) (client : Client) → At w stage (course_of client) → Stands (taking w []) (record client { stage = stage; given = true })
given_at w stage client s = none_taken w (record client { stage = stage; given = true }) s

at_steps : (w : Walk) (stage : Stage) (client : Client) (parts : List Part) → stage ≡ client.stage → At w stage (course_of client) → Stands w client → Steps w (steps_at stage client parts)
at_steps w Rest client parts is s c = none_taken w client c
at_steps w (Link Due) client parts is s c = given_at w (Link Asked) client s
at_steps w (Link Asked) client parts is s c = none_taken w client c
at_steps w (SearchChannel Due) client parts is s c = record { same = s.same; none = s.none; is = ap (λ (xs : List Step). xs ++ OpenChannel search_psm ∷ []) s.is }
at_steps w (SearchChannel Asked) client parts is s c = none_taken w client c
at_steps w Search client parts is s c =
    let asked : Client = record client { query = after_request client.query; left = client.left - 1; rest = request_octets client.query } in
    step_either w (is_due client.query) (sends_sdu search_psm (Octets (request_octets client.query)) asked parts) (rests client parts) (none_taken w (record asked { given = true }) c) (none_taken w client c)
at_steps w (SearchEnd Due) client parts is s c = given_at w (SearchEnd Asked) client s
at_steps w (SearchEnd Asked) client parts is s c = none_taken w client c
at_steps w (Features Due) client parts is s c =
    let n = s.names in record { names = record { same = n.same; target = n.target; number = n.number; only = n.only; named = n.named; psm_is = n.psm_is; channel_is = n.channel_is }; is = ap (λ (xs : List Step). xs ++ AskFeatures ∷ []) s.is; direct = s.direct }
at_steps w (Features Asked) client parts is s c = none_taken w client c
at_steps w (ObjectChannel Due) client parts is s c =
    let n = s.names in record {
      names = record { same = n.same; target = n.target; number = n.number; only = n.only; named = n.named; psm_is = n.psm_is; channel_is = n.channel_is };
      way = record { one = few_one w.targets n.target n.only; behind = []; way = s.way ∙ sym (append-nil (w.taken ++ OpenChannel client.psm ∷ [])) };
    }
at_steps w (ObjectChannel Asked) client parts is s c = none_taken w client c
at_steps w Object client parts is s c = object_steps w client parts is s
at_steps w (ObjectEnd Due) client parts is s c = given_at w (ObjectEnd Asked) client s
at_steps w (ObjectEnd Asked) client parts is s c = none_taken w client c
at_steps w (LinkEnd Due) client parts is s c = given_at w (LinkEnd Asked) client s
at_steps w (LinkEnd Asked) client parts is s c = none_taken w client c
at_steps w Over client parts is s c = tells_steps w client.cause client parts c

all_steps : (w : Walk) (client : Client) (parts : List Part) → Stands w client → Steps w (steps.steps client parts)
all_steps w client parts c =
    step_either w client.failed (record { client = client; step = NoMemory; left = parts }) (if client.given then rests client parts else steps_at client.stage client parts) (none_taken w client c)
    (step_either w client.given (rests client parts) (steps_at client.stage client parts) (none_taken w client c) (at_steps w client.stage client parts refl c c))

-- ---- all that may happen

abbrev pub behind_deed : Walk → Deed → Client → Walk
behind_deed w deed client = record { transport = w.transport; targets = w.targets ++ targets_by deed client; taken = w.taken ++ way_by deed client }

neither : (w : Walk) (client : Client) → Stands w client → Stands (taking (hearing w []) []) client
neither w client c = none_taken (hearing w []) client (none_heard w client c)

unheard : (w : Walk) (more : List Step) (client : Client) → Stands (taking w more) client → Stands (taking (hearing w []) more) client
unheard w more client s = none_heard (taking w more) client s

pub deed_stands : (w : Walk) (deed : Deed) (client : Client) → Stands w client → Stands (behind_deed w deed client) (done deed client)
deed_stands w (Hears news) client c = none_taken (hearing w (targets_told news client)) (events.hears_news news client) (news_stand w news client c)
deed_stands w (Asks parts) client c = unheard w (way_in (steps.steps client parts).step) (steps.steps client parts).client (all_steps w client parts c)
deed_stands w Finishes client c = neither w (done Finishes client) c
deed_stands w Cancels client c = neither w (done Cancels client) (either (Stands w) (may_cancel client) (ends outcomes.Cancelled client) client (ends_stands w outcomes.Cancelled client c) c)

all_stand : (w : Walk) (deeds : List Deed) (client : Client) → Stands w client → Stands (record { transport = w.transport; targets = w.targets ++ targets_heard deeds client; taken = w.taken ++ way_taken deeds client }) (all_done deeds client)
all_stand w [] client c =
    subst (λ (ts : List Target). Stands (record { transport = w.transport; targets = ts; taken = w.taken ++ [] }) client) (sym (append-nil w.targets))
    (subst (λ (xs : List Step). Stands (record { transport = w.transport; targets = w.targets; taken = xs }) client) (sym (append-nil w.taken)) c)
all_stand w (deed ∷ deeds) client c =
    let w' = behind_deed w deed client in
    let after = all_done deeds (done deed client) in
    let later = all_stand w' deeds (done deed client) (deed_stands w deed client c) in
    subst (λ (ts : List Target). Stands (record { transport = w.transport; targets = ts; taken = w.taken ++ way_taken (deed ∷ deeds) client }) after) (append_assoc w.targets (targets_by deed client) (targets_heard deeds (done deed client)))
    (subst (λ (xs : List Step). Stands (record { transport = w.transport; targets = w'.targets ++ targets_heard deeds (done deed client); taken = xs }) after) (append_assoc w.taken (way_by deed client) (way_taken deeds (done deed client))) later)

begun_stands : (client : Client) (name : List ℕ) (size : ℕ) (deeds : List Deed)
    → (let begun : Client = with_object name size client in Stands (record { transport = client.transport; targets = targets_heard deeds begun; taken = way_taken deeds begun }) (all_done deeds begun))
begun_stands client name size deeds = all_stand (record { transport = client.transport; targets = []; taken = [] }) deeds (with_object name size client) (record { same = refl; none = refl; is = refl })

pub opens-the_target : OpensTheTarget
opens-the_target client name size deeds =
    let begun : Client = with_object name size client in
    let after = all_done deeds begun in
    on_way_at (record { transport = client.transport; targets = targets_heard deeds begun; taken = way_taken deeds begun }) after.stage (course_of after) (begun_stands client name size deeds)

-- ---- the server channel

pub opened_at : (w : Walk) (stage : Stage) (c : Course) → is_object stage ≡ true → At w stage c → HasChannel w c
opened_at w stage c works s = subst (λ (x : Stage). At w x c) (object_of stage works) s

pub opens-the_server_channel : OpensTheServerChannel
opens-the_server_channel client name size deeds muxed works =
    let begun : Client = with_object name size client in
    let after = all_done deeds begun in
    let w : Walk = record { transport = client.transport; targets = targets_heard deeds begun; taken = way_taken deeds begun } in
    let has = opened_at w after.stage (course_of after) works (begun_stands client name size deeds) in
    let n = has.names in
    record {
      target = n.target;
      number = n.number;
      heard = n.only;
      named = ap (λ (t : Transport). way_of t n.target) (sym muxed) ∙ n.named;
      dlci = has.dlci muxed ∙ ap (λ (k : ℕ). 2 * k) (n.channel_is muxed);
    }
