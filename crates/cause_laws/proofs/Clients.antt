-- What a client hears and does, and the outcomes that come of it.
use Rattle.std.proofs.Common.{◌≡◌, ℕ, zero, suc, Bool, true, false, not, ◌&&◌, ◌||◌, ◌==◌, List, [], ◌∷◌, ◌++◌, length, Option, Some, None, is_none, Result, Ok, Err, refl, sym, ap, subst, ◌∙◌, if◌then◌else◌}
use Rattle.std.specs.Prelude.{nat_lt, IfSome}
use Rattle.std.specs.List.{AllByRecursion}
use Rattle.std.proofs.lemmas.Bool.{eqb-true}
use Rattle.scenario_laws.specs.bt_base.specs.declared.ports.PortFault.{PortFault}
use Rattle.scenario_laws.specs.bt_base.specs.declared.ports.PortFault.TheVariants as fault
use Rattle.scenario_laws.specs.bt_base.specs.declared.settings.Transport.{Transport}
use Rattle.scenario_laws.specs.bt_base.specs.declared.settings.Transport.TheVariants.{L2cap, Rfcomm}
use Rattle.scenario_laws.specs.push_terms.specs.declared.outcome.Outcome.{Outcome}
use Rattle.scenario_laws.specs.push_terms.specs.declared.outcome.Outcome.TheVariants.{Done, RetryLimit, Refused, NoService, ShelfFault, PeerClosed, PeerFault}
use Rattle.scenario_laws.specs.rfcomm_model.specs.Hearing.{Up, nothing, opened, bytes, closed, up, hears}
use Rattle.scenario_laws.specs.rfcomm_model.specs.Saying.{Said, next}
use Rattle.scenario_laws.specs.sdp_client.specs.Asking.{is_due}
use Rattle.scenario_laws.specs.sdp_client.specs.Hearing.{found_at}
use Rattle.scenario_laws.specs.sdp_client.specs.declared.reason.Found.{Found}
use Rattle.scenario_laws.specs.sdp_client.specs.declared.reason.Found.TheVariants as found
use Rattle.scenario_laws.specs.sdp_client.specs.declared.reason.QueryReason.{QueryReason}
use Rattle.scenario_laws.specs.sdp_client.specs.declared.reason.QueryReason.TheVariants.{BadReply, ErrorCode, WrongTransaction, TooLong}
use Rattle.scenario_laws.specs.obex_session.specs.declared.client.Answered.{Answered}
use Rattle.scenario_laws.specs.obex_session.specs.declared.client.Answered.TheVariants as answer
use Rattle.scenario_laws.specs.obex_session.specs.Views.{answer_at}
use Rattle.scenario_laws.specs.push_model.specs.declared.closing.CloseCause.{CloseCause}
use Rattle.scenario_laws.specs.push_model.specs.declared.closing.CloseCause.TheVariants as closing
use Rattle.scenario_laws.specs.push_model.specs.declared.course.Point.TheVariants.{Due, Asked}
use Rattle.scenario_laws.specs.push_model.specs.declared.course.Stage.{Stage}
use Rattle.scenario_laws.specs.push_model.specs.declared.course.Stage.TheVariants.{Rest, Link, SearchChannel, Search, SearchEnd, Features, ObjectChannel, Object, ObjectEnd, LinkEnd, Over}
use Rattle.scenario_laws.specs.push_model.specs.Causes.{cause_of_close, cause_of_query, cause_of_mux, small_channel, unawaited_response}
use Rattle.scenario_laws.specs.push_model.specs.Client.{Client, is_direct, begins, begun_by}
use Rattle.scenario_laws.specs.push_model.specs.Events as events
use Rattle.scenario_laws.specs.push_model.specs.Events.{is_asking_features, armed, search_psm}
use Rattle.scenario_laws.specs.push_model.specs.Laws.{Deed, Hears, Asks, Finishes, Cancels, done}
use Rattle.scenario_laws.specs.push_model.specs.Responding.{is_early, is_success, is_left, is_object, hears_response}
use Rattle.scenario_laws.specs.push_model.specs.Shown.{first_of, watched, closed_shows, opened_shows, way_of, found_shows, says, answer_shows, response_shows, front_shows, stream_shows, up_shows, object_shows, outside_shows, sdu_shows, part_shows, ask_shows, said_shows, step_shows, shows}
use Rattle.scenario_laws.specs.push_model.specs.Steps as course
use Rattle.scenario_laws.specs.push_model.specs.Steps.{Part, Ask, Stepped, puts, takes_some, filled, next_ask, may_ask}
use Rattle.scenario_laws.specs.push_model.specs.Streams.{Front, Whole, Partial, Broken, front_of}
use Rattle.scenario_laws.specs.push_model.proofs.CauseLaws.{first_causes_stay}
use Rattle.scenario_laws.specs.push_model.proofs.ShownLaws.{outcomes_are_shown}
use Rattle.cause_laws.specs.FirstCauses.{may_blame}
use Rattle.cause_laws.specs.Said.{Decision, decision_of}
use Rattle.push_client.proofs.KeepingLaws.{news_keeps, cancelled_keeps}
use Rattle.scenario_laws.specs.host_laws.specs.Pushing.{Affair, Begins, Does, client_after, client_behind}
use Rattle.cause_laws.specs.Said.{Decision, decision_of}

-- ---- outcomes

pub never : {X : Type 0} → false ≡ true → X
never is = absurd cc

-- those that come of anything
abbrev pub is_any : Outcome → Bool
is_any RetryLimit = true
is_any ShelfFault = true
is_any PeerClosed = true
is_any (PeerFault layer reason) = layer == 2
is_any outcome = false

-- those that no SDU decides
abbrev pub is_unsaid : Outcome → Bool
is_unsaid outcome = is_none (decision_of outcome)

-- and those that come of an SDU besides
abbrev pub is_heard : Outcome → Bool
is_heard (PeerFault layer reason) = may_blame layer
is_heard outcome = is_any outcome || not (is_unsaid outcome)

pub any_unsaid : (outcome : Outcome) → is_any outcome ≡ true → is_unsaid outcome ≡ true
any_unsaid Done is = is
any_unsaid (Refused code) is = is
any_unsaid NoService is = is
any_unsaid outcome is = refl

pub none_says : {X : Type 0} (P : X → Type 0) (found : Option X) → is_none found ≡ true → IfSome found P
none_says P None is = tt
none_says P (Some x) is = cc

pub unsaid_says : (P : Decision → Type 0) (outcome : Outcome) → is_unsaid outcome ≡ true → IfSome (decision_of outcome) P
unsaid_says P outcome is = none_says P (decision_of outcome) is

pub some_goes : {X : Type 0} (P Q : X → Type 0) → ((x : X) → P x → Q x) → (found : Option X) → IfSome found P → IfSome found Q
some_goes P Q goes None some = tt
some_goes P Q goes (Some x) some = goes x some

abbrev pub Within : (Outcome → Bool) → Option Outcome → Type 0
Within q None = Unit {0}
Within q (Some outcome) = q outcome ≡ true

pub any_heard : (outcome : Outcome) → is_any outcome ≡ true → is_heard outcome ≡ true
any_heard (PeerFault layer reason) is = ap may_blame (eqb-true layer 2 is)
any_heard outcome is = ap (λ (b : Bool). b || not (is_unsaid outcome)) is

pub within_more : (p q : Outcome → Bool) → ((outcome : Outcome) → p outcome ≡ true → q outcome ≡ true) → (shown : Option Outcome) → Within p shown → Within q shown
within_more p q more None within = tt
within_more p q more (Some outcome) within = more outcome within

pub either : (q : Outcome → Bool) (test : Bool) (a b : Option Outcome) → Within q a → Within q b → Within q (if test then a else b)
either q true a b x y = x
either q false a b x y = y

-- ---- what shows

close_within : (cause : CloseCause) → Within is_any (cause_of_close cause)
close_within closing.Peer = refl
close_within (closing.Refused result) = refl
close_within closing.NoAgreement = refl
close_within closing.RetryLimit = refl
close_within (closing.Broken number) = by (number == 5)
  where
    by : (test : Bool) → is_any (if test then RetryLimit else PeerFault 2 number) ≡ true
    by true = refl
    by false = refl
close_within closing.Own = tt

closed_within : (psm : ℕ) (cause : CloseCause) (own : Option ℕ) → Within is_any (closed_shows psm cause own)
closed_within psm cause None = tt
closed_within psm cause (Some own) = either is_any (psm == own) (cause_of_close cause) None (close_within cause) tt

opened_within : (stage : Stage) (psm mtu : ℕ) (client : Client) → Within is_any (opened_shows stage psm mtu client)
opened_within Rest psm mtu client = tt
opened_within (Link point) psm mtu client = tt
opened_within (SearchChannel point) psm mtu client = tt
opened_within Search psm mtu client = tt
opened_within (SearchEnd point) psm mtu client = tt
opened_within (Features point) psm mtu client = tt
opened_within (ObjectChannel Due) psm mtu client = tt
opened_within (ObjectChannel Asked) psm mtu client = either is_any ((psm == client.psm) && (is_direct client.transport && nat_lt mtu 255)) (Some small_channel) None refl tt
opened_within Object psm mtu client = tt
opened_within (ObjectEnd point) psm mtu client = tt
opened_within (LinkEnd point) psm mtu client = tt
opened_within Over psm mtu client = tt

query_within : (reason : QueryReason) → Within is_heard (cause_of_query reason)
query_within BadReply = refl
query_within (ErrorCode code) = refl
query_within WrongTransaction = tt
query_within TooLong = refl

found_within : (transport : Transport) (what : Found) → Within is_heard (found_shows transport what)
found_within transport found.More = tt
found_within transport (found.Service target) = either is_heard (is_none (way_of transport target)) (Some NoService) None refl tt
found_within transport found.NoService = refl
found_within transport (found.Refused reason) = query_within reason

-- ---- responses show no other ones than these

abbrev pub is_responded : Outcome → Bool
is_responded Done = true
is_responded (Refused code) = true
is_responded (PeerFault layer reason) = may_blame layer
is_responded outcome = false

responded_heard : (outcome : Outcome) → is_responded outcome ≡ true → is_heard outcome ≡ true
responded_heard Done is = refl
responded_heard (Refused code) is = refl
responded_heard (PeerFault layer reason) is = is
responded_heard outcome is = cc

says_responds : (answered : Answered) → Within is_responded (says answered)
says_responds answer.Go = tt
says_responds answer.Done = refl
says_responds (answer.Refused code) = refl
says_responds (answer.Bad refusal) = refl
says_responds answer.Srmp = refl

answer_responds : (answered : Option Answered) (client : Client) → Within is_responded (answer_shows answered client)
answer_responds None client = refl
answer_responds (Some answered) client = either is_responded (is_success answered && is_early client) (Some unawaited_response) (says answered) refl (says_responds answered)

pub response_responds : (packet : List ℕ) (client : Client) → Within is_responded (response_shows packet client)
response_responds packet client = answer_responds (answer_at client.session.awaited client.session packet) client

first_within : (q : Outcome → Bool) (first later : Option Outcome) → Within q first → Within q later → Within q (first_of first later)
first_within q None later x y = y
first_within q (Some outcome) later x y = x

front_responds : (more : List ℕ → Client → Option Outcome) → ((rest : List ℕ) (client : Client) → Within is_responded (more rest client)) → (front : Front) (client : Client) → Within is_responded (front_shows more front client)
front_responds more all (Whole packet rest) client =
    let alone : Client = record client { held = [] } in
    first_within is_responded (response_shows packet alone) (more rest (hears_response packet alone)) (response_responds packet alone) (all rest (hears_response packet alone))
front_responds more all Partial client = tt
front_responds more all (Broken refusal) client = refl

pub stream_responds : (count : ℕ) (stream : List ℕ) (client : Client) → Within is_responded (stream_shows count stream client)
unfolding stream_shows
stream_responds zero stream client = tt
stream_responds (suc count) stream client = front_responds (λ rest next. stream_shows count rest next) (λ rest next. stream_responds count rest next) (front_of client.session.maximum stream) client

response_within : (packet : List ℕ) (client : Client) → Within is_heard (response_shows packet client)
response_within packet client = within_more is_responded is_heard responded_heard (response_shows packet client) (response_responds packet client)

stream_within : (count : ℕ) (stream : List ℕ) (client : Client) → Within is_heard (stream_shows count stream client)
stream_within count stream client = within_more is_responded is_heard responded_heard (stream_shows count stream client) (stream_responds count stream client)

up_within : (news : Up) (client : Client) → Within is_heard (up_shows news client)
up_within nothing client = tt
up_within opened client = tt
up_within (bytes octets) client = stream_within (length (client.held ++ octets)) (client.held ++ octets) client
up_within (closed reason) client = either is_heard (is_left client.contact reason) None (Some (cause_of_mux reason)) tt refl

object_within : (transport : Transport) (sdu : List ℕ) (client : Client) → Within is_heard (object_shows transport sdu client)
object_within L2cap sdu client = response_within sdu client
object_within Rfcomm sdu client = up_within (up sdu client.mux) (record client { mux = hears sdu client.mux })

outside_within : (transport : Transport) → Within is_heard (outside_shows transport)
outside_within L2cap = refl
outside_within Rfcomm = tt

sdu_within : (stage : Stage) (psm : ℕ) (sdu : List ℕ) (client : Client) → Within is_heard (sdu_shows stage psm sdu client)
sdu_within Rest psm sdu client = tt
sdu_within (Link point) psm sdu client = tt
sdu_within (SearchChannel point) psm sdu client = tt
sdu_within Search psm sdu client = either is_heard (psm == search_psm) (found_shows client.transport (found_at client.query sdu)) None (found_within client.transport (found_at client.query sdu)) tt
sdu_within (SearchEnd point) psm sdu client = tt
sdu_within (Features point) psm sdu client = tt
sdu_within (ObjectChannel point) psm sdu client = either is_heard (psm == client.psm) (outside_shows client.transport) None (outside_within client.transport) tt
sdu_within Object psm sdu client = either is_heard (psm == client.psm) (object_shows client.transport sdu client) None (object_within client.transport sdu client) tt
sdu_within (ObjectEnd point) psm sdu client = either is_heard (psm == client.psm) (outside_shows client.transport) None (outside_within client.transport) tt
sdu_within (LinkEnd point) psm sdu client = tt
sdu_within Over psm sdu client = tt

-- only the shelf's fault comes of a step

abbrev pub is_shelf : Outcome → Bool
is_shelf ShelfFault = true
is_shelf outcome = false

pub shelf_any : (outcome : Outcome) → is_shelf outcome ≡ true → is_any outcome ≡ true
shelf_any ShelfFault is = refl
shelf_any outcome is = cc

pub shelf_unsaid : (outcome : Outcome) → is_shelf outcome ≡ true → is_unsaid outcome ≡ true
shelf_unsaid ShelfFault is = refl
shelf_unsaid outcome is = cc

part_within : (answer : Result (Unit {0}) PortFault) → Within is_shelf (part_shows answer)
part_within (Ok done) = tt
part_within (Err fault.Failed) = refl
part_within (Err fault.NoMemory) = tt

ask_within : (ask : Ask) (client : Client) (parts : List Part) → Within is_shelf (ask_shows ask client parts)
ask_within course.Connect client parts = tt
ask_within course.Put client parts = part_within (puts client parts).outcome
ask_within course.Abort client parts = tt
ask_within course.Disconnect client parts = tt
ask_within course.Close client parts = tt
ask_within course.Nothing client parts = tt

said_within : (said : Option Said) (client : Client) (parts : List Part) → Within is_shelf (said_shows said client parts)
said_within None client parts =
    let quiet : Client = record client { frame = None; rest = [] } in either is_shelf (may_ask client && takes_some client.mux) (ask_shows (next_ask client) quiet parts) None (ask_within (next_ask client) quiet parts) tt
said_within (Some said) client parts = tt

step_within : (transport : Transport) (client : Client) (parts : List Part) → Within is_shelf (step_shows transport client parts)
step_within L2cap client parts = let clear : Client = record client { rest = [] } in either is_shelf (may_ask client) (ask_shows (next_ask client) clear parts) None (ask_within (next_ask client) clear parts) tt
step_within Rfcomm client parts = let full = filled client in said_within (next full.mux) full parts

pub asks_within : (parts : List Part) (client : Client) → Within is_shelf (shows (Asks parts) client)
asks_within parts client = either is_shelf (not client.failed && (not client.given && is_object client.stage)) (step_shows client.transport client parts) None (step_within client.transport client parts) tt

-- ---- which deeds show no other ones

abbrev pub ShowsWithin : (Outcome → Bool) → Deed → Type 0
ShowsWithin q deed = (client : Client) → Within q (shows deed client)

pub more_shown : (q : Outcome → Bool) → ((outcome : Outcome) → is_any outcome ≡ true → q outcome ≡ true) → (deed : Deed) → ShowsWithin is_any deed → ShowsWithin q deed
more_shown q more deed within client = within_more is_any q more (shows deed client) (within client)

pub up_shown : ShowsWithin is_any (Hears events.LinkUp)
up_shown client = tt

pub opens_shown : (psm mtu : ℕ) → ShowsWithin is_any (Hears (events.ChannelOpen psm mtu))
opens_shown psm mtu client = opened_within client.stage psm mtu client

pub closes_shown : (psm : ℕ) (cause : CloseCause) → ShowsWithin is_any (Hears (events.ChannelClosed psm cause))
closes_shown psm cause client = closed_within psm cause (watched client.stage client)

pub told_shown : ShowsWithin is_any (Hears events.FeaturesTold)
told_shown client = tt

pub lost_shown : ShowsWithin is_any (Hears events.FeaturesLost)
lost_shown client = either is_any (is_asking_features client.stage) (Some RetryLimit) None refl tt

pub timer_shown : ShowsWithin is_any (Hears events.Timer)
timer_shown client = either is_any ((armed client && not (client.given || is_due client.query)) && (client.left == 0)) (Some RetryLimit) None refl tt

pub asks_shown : (parts : List Part) → ShowsWithin is_any (Asks parts)
asks_shown parts client = within_more is_shelf is_any shelf_any (shows (Asks parts) client) (asks_within parts client)

pub finishes_shown : ShowsWithin is_any Finishes
finishes_shown client = tt

pub sdu_shown : (psm : ℕ) (sdu : List ℕ) → ShowsWithin is_heard (Hears (events.Sdu psm sdu))
sdu_shown psm sdu client = sdu_within client.stage psm sdu client

-- ---- from one outcome to a later one

-- an outcome stays, and where there was none one of these may come
abbrev pub Came : (Outcome → Bool) → (old new : Option Outcome) → Type 0
Came q None new = Within q new
Came q (Some outcome) new = new ≡ Some outcome

pub came_same : (q : Outcome → Bool) (old : Option Outcome) → Came q old old
came_same q None = tt
came_same q (Some outcome) = refl

pub came_then : (q : Outcome → Bool) (old mid new : Option Outcome) → Came q old mid → Came q mid new → Came q old new
came_then q None None new one two = two
came_then q None (Some outcome) new one two = subst (Within q) (sym two) one
came_then q (Some outcome) mid new one two = subst (λ (c : Option Outcome). Came q c new) one two

pub came_more : (p q : Outcome → Bool) → ((outcome : Outcome) → p outcome ≡ true → q outcome ≡ true) → (old new : Option Outcome) → Came p old new → Came q old new
came_more p q more None new came = within_more p q more new came
came_more p q more (Some outcome) new came = came

-- there is one
abbrev pub HasCome : Option Outcome → Type 0
HasCome None = ⊥
HasCome (Some outcome) = Unit {0}

pub has_come : (q : Outcome → Bool) (old new : Option Outcome) → Came q old new → HasCome old → HasCome new
has_come q None new came come = absurd come
has_come q (Some outcome) new came come = subst HasCome (sym came) tt

pub over_comes : (outcome : Outcome) (client : Client) → HasCome (events.over outcome client).cause
over_comes outcome client = by client.cause refl
  where
    by : (cause : Option Outcome) → client.cause ≡ cause → HasCome (events.over_by cause outcome client).cause
    by None is = tt
    by (Some earlier) is = subst HasCome (sym is) tt

pub none_later : (shown : Option Outcome) → first_of shown None ≡ shown
none_later None = refl
none_later (Some outcome) = refl

pub came_by : (q : Outcome → Bool) (deed : Deed) (client : Client) → Within q (shows deed client) → Came q client.cause (done deed client).cause
came_by q deed client within = by client.cause refl
  where
    by : (cause : Option Outcome) → client.cause ≡ cause → Came q cause (done deed client).cause
    by None is = subst (Within q) (sym (outcomes_are_shown (deed ∷ []) client is ∙ none_later (shows deed client))) within
    by (Some outcome) is = first_causes_stay (deed ∷ []) client outcome is

-- the same of several things that happen to a client, none of which begins a push
abbrev pub IsWithin : (Outcome → Bool) → Affair → Type 0
IsWithin q (Begins size name) = ⊥
IsWithin q (Does deed) = ShowsWithin q deed

pub came_behind : (q : Outcome → Bool) (affairs : List Affair) (client : Client) → AllByRecursion (IsWithin q) affairs → Came q client.cause (client_behind affairs client).cause
came_behind q [] client all = came_same q client.cause
came_behind q (Begins size name ∷ affairs) client all = absurd all.0
came_behind q (Does deed ∷ affairs) client all = came_then q client.cause (done deed client).cause (client_behind affairs (done deed client)).cause (came_by q deed client (all.0 client)) (came_behind q affairs (done deed client) all.1)

-- ---- want of memory stays

lame_done : (deed : Deed) (client : Client) → client.failed ≡ true → (done deed client).failed ≡ true
lame_done (Hears news) client lame = (news_keeps news client).2 ∙ lame
lame_done (Asks parts) client lame =
    ap (λ (b : Bool). let one : Stepped = if b then record { client = client; step = course.NoMemory; left = parts } else if client.given then course.rests client parts else course.steps_at client.stage client parts in one.client.failed) lame ∙ lame
lame_done Finishes client lame = lame
lame_done Cancels client lame = (cancelled_keeps client).2 ∙ lame

lame_after : (affair : Affair) (client : Client) → client.failed ≡ true → (client_after affair client).failed ≡ true
lame_after (Begins size name) client lame = ap (λ (b : Bool). (if b then client else begun_by size name client).failed) lame ∙ lame
lame_after (Does deed) client lame = lame_done deed client lame

pub lame_behind : (affairs : List Affair) (client : Client) → client.failed ≡ true → (client_behind affairs client).failed ≡ true
lame_behind [] client lame = lame
lame_behind (affair ∷ affairs) client lame = lame_behind affairs (client_after affair client) (lame_after affair client lame)

-- a push that is begun has no outcome yet, or the shelf does not give its object
pub begins_shelf : (size : Result ℕ PortFault) (name : List ℕ) (client : Client) → client.failed ≡ false → (begins size name client).failed ≡ false → Within is_shelf (begins size name client).cause
begins_shelf size name client well after =
    subst (λ (b : Bool). Within is_shelf (if b then client else begun_by size name client).cause) (sym well) (by size (sym (ap (λ (b : Bool). (if b then client else begun_by size name client).failed) well) ∙ after))
  where
    by : (s : Result ℕ PortFault) → (begun_by s name client).failed ≡ false → Within is_shelf (begun_by s name client).cause
    by (Ok n) is = tt
    by (Err fault.Failed) is = refl
    by (Err fault.NoMemory) is = absurd (let never : true ≡ false = is in cc)
