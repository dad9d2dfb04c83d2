-- A client that seeks its service: its question changes with the replies that it hears alone, and what ends an answer is a part of it that its talk has.
use Rattle.std.proofs.Common.{◌≡◌, ◌⊎◌, ℕ, ◌-◌, Bool, true, false, cond, eqb, not, ◌&&◌, ◌||◌, ◌==◌, List, [], ◌∷◌, ◌++◌, length, drop, Option, Some, None, inl, inr, refl, sym, ap, subst, ◌∙◌, arith, if◌then◌else◌}
use Rattle.std.specs.Prelude.{nat_le, nat_lt, slice_index, min}
use Rattle.std.proofs.lemmas.Bool.{and_parts, leb-true, le-leb}
use Rattle.byteorder.specs.Endian.{big_number}
use Rattle.scenario_laws.specs.bt_base.specs.declared.settings.Transport.{Transport}
use Rattle.scenario_laws.specs.bt_base.specs.declared.settings.Transport.TheVariants.{L2cap, Rfcomm}
use Rattle.scenario_laws.specs.push_terms.specs.declared.outcome.Outcome.{Outcome}
use Rattle.scenario_laws.specs.push_terms.specs.declared.outcome.Outcome.TheVariants as outcomes
use Rattle.scenario_laws.specs.sdp_client.specs.Asking.{Asking, is_due, written, again, after_request, after_resend, request_octets}
use Rattle.scenario_laws.specs.sdp_client.specs.declared.query.Stage.{Stage as Query_stage}
use Rattle.scenario_laws.specs.sdp_client.specs.declared.query.Stage.TheVariants as queries
use Rattle.scenario_laws.specs.sdp_client.specs.declared.reason.Found.{Found}
use Rattle.scenario_laws.specs.sdp_client.specs.declared.reason.Found.TheVariants as found
use Rattle.scenario_laws.specs.sdp_client.specs.declared.reason.QueryReason.TheVariants.{TooLong}
use Rattle.scenario_laws.specs.sdp_client.specs.Hearing.{ended, with_part, after_whole, asks_on, after_part, when_said, after_said, after_when, found_at, after_reply}
use Rattle.scenario_laws.specs.sdp_client.specs.Replies.{PlainPart, PlainSaid, Gives, Failed, Nothing, part_in, given, said_by, said_in, is_of_another}
use Rattle.scenario_laws.specs.sdp_elements.specs.Pdus.{PlainPdu, states_length, pdu_in}
use Rattle.scenario_laws.specs.sdp_elements.specs.declared.target.Target.{Target}
use Rattle.scenario_laws.specs.sdp_elements.specs.Targets.{target_in, is_service_psm, is_server_channel}
use Rattle.scenario_laws.specs.link_talk.specs.ServiceAnswers.{part_of, joined_from}
use Rattle.scenario_laws.specs.host_laws.specs.talk_laws.specs.LinkAnswers.{answers_now}
use Rattle.scenario_laws.specs.push_model.specs.declared.closing.CloseCause.{CloseCause}
use Rattle.scenario_laws.specs.push_model.specs.declared.course.Point.TheVariants.{Due, Asked}
use Rattle.scenario_laws.specs.push_model.specs.declared.course.Stage.{Stage}
use Rattle.scenario_laws.specs.push_model.specs.declared.course.Stage.TheVariants.{Rest, Link, SearchChannel, Search, SearchEnd, Features, ObjectChannel, Object, ObjectEnd, LinkEnd, Over}
use Rattle.scenario_laws.specs.push_model.specs.Causes.{Ending, InOrder, AtOnce, ending_of, cause_of_close, cause_of_query, unawaited_response, small_channel}
use Rattle.scenario_laws.specs.push_model.specs.Client.{Client, cancelled, ends, ends_by, ends_if, in_order, at_once, stage_after, may_cancel}
use Rattle.scenario_laws.specs.push_model.specs.Events as events
use Rattle.scenario_laws.specs.push_model.specs.Events.{hears_news, search_psm, kept_of, is_asking_features, opened_at, object_opened, closed_at, search_closed, search_left, stage_behind, sdu_at, hears_outside, hears_object, finds, found_psm, found_channel, found_way, hears_reply, fires}
use Rattle.scenario_laws.specs.push_model.specs.Payloads.{Octets}
use Rattle.scenario_laws.specs.push_model.specs.Steps as course
use Rattle.scenario_laws.specs.push_model.specs.Steps.{Part, Stepped, steps, steps_at, tells_end}
use Rattle.scenario_laws.specs.push_laws.proofs.Late.{IsLate, anchor_of, object_late, object_quiet}
use Rattle.scenario_laws.specs.host_laws.proofs.Querying.{awaited_at, awaited}
use Rattle.scenario_laws.specs.host_laws.proofs.Replies.{came, Tells}
use Rattle.cause_laws.proofs.Clients.{never}

-- ---- its question

-- it asks for its service, or closes the channel of that search
abbrev pub is_seeking : Stage → Bool
is_seeking (SearchChannel point) = true
is_seeking Search = true
is_seeking (SearchEnd point) = true
is_seeking stage = false

-- the question is the same, or was asked once more
abbrev pub AskedAgain : (q r : Asking) → Type 0
AskedAgain q r = (r ≡ q) ⊎ ((r ≡ after_request q) ⊎ (r ≡ after_resend q))

written_so : (stage : Query_stage) → written stage ≡ queries.Answered → stage ≡ queries.Answered
written_so queries.Due is = cc
written_so queries.Written is = cc
written_so queries.Again is = cc
written_so queries.Answered is = refl
written_so (queries.Refused reason) is = cc

again_so : (stage : Query_stage) → again stage ≡ queries.Answered → stage ≡ queries.Answered
again_so queries.Due is = cc
again_so queries.Written is = cc
again_so queries.Again is = cc
again_so queries.Answered is = refl
again_so (queries.Refused reason) is = cc

-- what an answered question holds it held before
pub again_holds : (q r : Asking) → AskedAgain q r → r.stage ≡ queries.Answered → (q.stage ≡ queries.Answered) × (r.joined ≡ q.joined)
again_holds q r (inl same) answered = (ap (λ (x : Asking). x.stage) (sym same) ∙ answered, ap (λ (x : Asking). x.joined) same)
again_holds q r (inr (inl same)) answered = (written_so q.stage (ap (λ (x : Asking). x.stage) (sym same) ∙ answered), ap (λ (x : Asking). x.joined) same)
again_holds q r (inr (inr same)) answered = (again_so q.stage (ap (λ (x : Asking). x.stage) (sym same) ∙ answered), ap (λ (x : Asking). x.joined) same)

-- one that seeks it did so before, with that question
abbrev pub Keeps : (c d : Client) → Type 0
Keeps c d = is_seeking d.stage ≡ true → (is_seeking c.stage ≡ true) × AskedAgain c.query d.query

pub keeps_same : (c : Client) → Keeps c c
keeps_same c seeks = (seeks, inl refl)

keeps_if : (test : Bool) (c d e : Client) → Keeps c d → Keeps c e → Keeps c (if test then d else e)
keeps_if true c d e x y = x
keeps_if false c d e x y = y

keeps_not : (c d : Client) → is_seeking d.stage ≡ false → Keeps c d
keeps_not c d is = λ seeks. never (sym is ∙ seeks)

-- ---- it ends

once_not : (stage : Stage) → is_seeking (at_once stage) ≡ false
once_not Rest = refl
once_not (Link Due) = refl
once_not (Link Asked) = refl
once_not (SearchChannel point) = refl
once_not Search = refl
once_not (SearchEnd point) = refl
once_not (Features point) = refl
once_not (ObjectChannel point) = refl
once_not Object = refl
once_not (ObjectEnd point) = refl
once_not (LinkEnd point) = refl
once_not Over = refl

order_back : (stage : Stage) → is_seeking (in_order stage) ≡ true → is_seeking stage ≡ true
order_back Rest is = never is
order_back (Link Due) is = never is
order_back (Link Asked) is = never is
order_back (SearchChannel point) is = refl
order_back Search is = refl
order_back (SearchEnd point) is = refl
order_back (Features point) is = never is
order_back (ObjectChannel Due) is = never is
order_back (ObjectChannel Asked) is = never is
order_back Object is = never is
order_back (ObjectEnd point) is = never is
order_back (LinkEnd point) is = never is
order_back Over is = never is

after_back : (ending : Ending) (stage : Stage) → is_seeking (stage_after ending stage) ≡ true → is_seeking stage ≡ true
after_back InOrder stage is = order_back stage is
after_back AtOnce stage is = never (sym (once_not stage) ∙ is)

ends_keeps : (outcome : Outcome) (c : Client) → Keeps c (ends outcome c)
ends_keeps outcome c = by c.cause
  where
    by : (cause : Option Outcome) → Keeps c (ends_by cause outcome c)
    by None = λ seeks. (after_back (ending_of outcome) c.stage seeks, inl refl)
    by (Some earlier) = keeps_not c (record c { stage = at_once c.stage }) (once_not c.stage)

ends_if_keeps : (found : Option Outcome) (c : Client) → Keeps c (ends_if found c)
ends_if_keeps None c = keeps_same c
ends_if_keeps (Some outcome) c = ends_keeps outcome c

-- ---- its channels

late_not : (stage : Stage) → IsLate stage → is_seeking stage ≡ false
late_not Object late = refl
late_not (ObjectEnd point) late = refl
late_not (LinkEnd point) late = refl
late_not Over late = refl
late_not Rest late = refl
late_not (Link point) late = absurd late
late_not (SearchChannel point) late = absurd late
late_not Search late = absurd late
late_not (SearchEnd point) late = absurd late
late_not (Features point) late = absurd late
late_not (ObjectChannel point) late = absurd late

opens_keeps : (transport : Transport) (mtu : ℕ) (c : Client) → Keeps c (object_opened transport mtu c)
opens_keeps L2cap mtu c = keeps_if (nat_lt mtu 255) c (ends small_channel c) (record c { stage = Object; limit = min mtu 32767 }) (ends_keeps small_channel c) ((λ seeks. never seeks))
opens_keeps Rfcomm mtu c = λ seeks. never seeks

opened_keeps : (stage : Stage) (psm mtu : ℕ) (c : Client) → c.stage ≡ stage → Keeps c (opened_at stage psm mtu c)
opened_keeps (SearchChannel Asked) psm mtu c at = keeps_if (psm == search_psm) c (record c { stage = Search }) c (λ seeks. (ap is_seeking at, inl refl)) (keeps_same c)
opened_keeps (ObjectChannel Asked) psm mtu c at = keeps_if (psm == c.psm) c (object_opened c.transport mtu c) c (opens_keeps c.transport mtu c) (keeps_same c)
opened_keeps Rest psm mtu c at = keeps_same c
opened_keeps (Link point) psm mtu c at = keeps_same c
opened_keeps (SearchChannel Due) psm mtu c at = keeps_same c
opened_keeps Search psm mtu c at = keeps_same c
opened_keeps (SearchEnd point) psm mtu c at = keeps_same c
opened_keeps (Features point) psm mtu c at = keeps_same c
opened_keeps (ObjectChannel Due) psm mtu c at = keeps_same c
opened_keeps Object psm mtu c at = keeps_same c
opened_keeps (ObjectEnd point) psm mtu c at = keeps_same c
opened_keeps (LinkEnd point) psm mtu c at = keeps_same c
opened_keeps Over psm mtu c at = keeps_same c

behind_not : (transport : Transport) → is_seeking (stage_behind transport) ≡ false
behind_not L2cap = refl
behind_not Rfcomm = refl

left_keeps : (cause : Option Outcome) (c : Client) → Keeps c (search_left cause c)
left_keeps None c = λ seeks. never (sym (behind_not c.transport) ∙ seeks)
left_keeps (Some outcome) c = λ seeks. never seeks

search_keeps : (cause : Option Outcome) (c : Client) → Keeps c (search_closed cause c)
search_keeps None c = left_keeps c.cause c
search_keeps (Some outcome) c = ends_keeps outcome c

closed_keeps : (stage : Stage) (psm : ℕ) (cause : CloseCause) (c : Client) → Keeps c (closed_at stage psm cause c)
closed_keeps (SearchChannel Asked) psm cause c = keeps_if (psm == search_psm) c (ends_if (cause_of_close cause) c) c (ends_if_keeps (cause_of_close cause) c) (keeps_same c)
closed_keeps Search psm cause c = keeps_if (psm == search_psm) c (ends_if (cause_of_close cause) c) c (ends_if_keeps (cause_of_close cause) c) (keeps_same c)
closed_keeps (SearchEnd point) psm cause c = keeps_if (psm == search_psm) c (search_closed (cause_of_close cause) c) c (search_keeps (cause_of_close cause) c) (keeps_same c)
closed_keeps (ObjectChannel Asked) psm cause c = keeps_if (psm == c.psm) c (ends_if (cause_of_close cause) c) c (ends_if_keeps (cause_of_close cause) c) (keeps_same c)
closed_keeps Object psm cause c = keeps_if (psm == c.psm) c (ends_if (cause_of_close cause) c) c (ends_if_keeps (cause_of_close cause) c) (keeps_same c)
closed_keeps (ObjectEnd point) psm cause c = keeps_if (psm == c.psm) c (record c { stage = LinkEnd Due }) c ((λ seeks. never seeks)) (keeps_same c)
closed_keeps Rest psm cause c = keeps_same c
closed_keeps (Link point) psm cause c = keeps_same c
closed_keeps (SearchChannel Due) psm cause c = keeps_same c
closed_keeps (Features point) psm cause c = keeps_same c
closed_keeps (ObjectChannel Due) psm cause c = keeps_same c
closed_keeps (LinkEnd point) psm cause c = keeps_same c
closed_keeps Over psm cause c = keeps_same c

pub opens_so : (psm mtu : ℕ) (c : Client) → Keeps c (hears_news (events.ChannelOpen psm mtu) c)
opens_so psm mtu c = opened_keeps c.stage psm mtu c refl

pub closes_so : (psm : ℕ) (cause : CloseCause) (c : Client) → Keeps c (hears_news (events.ChannelClosed psm cause) c)
closes_so psm cause c = closed_keeps c.stage psm cause c

pub told_so : (c : Client) → Keeps c (hears_news events.FeaturesTold c)
told_so c = keeps_if (is_asking_features c.stage) c (record c { stage = ObjectChannel Due }) c ((λ seeks. never seeks)) (keeps_same c)

pub lost_so : (c : Client) → Keeps c (hears_news events.FeaturesLost c)
lost_so c = keeps_if (is_asking_features c.stage) c (ends outcomes.RetryLimit c) c (ends_keeps outcomes.RetryLimit c) (keeps_same c)

pub timer_so : (c : Client) → Keeps c (hears_news events.Timer c)
timer_so c =
    let more : Client = record c { query = after_resend c.query } in
    keeps_if (events.armed c && not (c.given || is_due c.query)) c (if c.left == 0 then ends outcomes.RetryLimit c else more) c
    (keeps_if (c.left == 0) c (ends outcomes.RetryLimit c) more (ends_keeps outcomes.RetryLimit c) (λ seeks. (seeks, inr (inr refl)))) (keeps_same c)

pub cancels_so : (c : Client) → Keeps c (cancelled c)
cancels_so c = keeps_if (may_cancel c) c (ends outcomes.Cancelled c) c (ends_keeps outcomes.Cancelled c) (keeps_same c)

-- ---- an SDU, but for a reply in its search

outside_keeps : (transport : Transport) (c : Client) → Keeps c (hears_outside transport c)
outside_keeps L2cap c = ends_keeps unawaited_response c
outside_keeps Rfcomm c = keeps_same c

pub sdu_so : (stage : Stage) (psm : ℕ) (sdu : List ℕ) (c : Client) → c.stage ≡ stage → (stage ≡ Search → ⊥) → Keeps c (sdu_at stage psm sdu c)
sdu_so Search psm sdu c at apart = absurd (apart refl)
sdu_so (ObjectChannel point) psm sdu c at apart = keeps_if (psm == c.psm) c (hears_outside c.transport c) c (outside_keeps c.transport c) (keeps_same c)
sdu_so Object psm sdu c at apart =
    keeps_if (psm == c.psm) c (hears_object c.transport sdu c) c
    (keeps_not c (hears_object c.transport sdu c) (late_not (hears_object c.transport sdu c).stage (object_late (anchor_of c) c.transport sdu c (subst IsLate (sym at) tt, refl)).0)) (keeps_same c)
sdu_so (ObjectEnd point) psm sdu c at apart = keeps_if (psm == c.psm) c (hears_outside c.transport c) c (outside_keeps c.transport c) (keeps_same c)
sdu_so Rest psm sdu c at apart = keeps_same c
sdu_so (Link point) psm sdu c at apart = keeps_same c
sdu_so (SearchChannel point) psm sdu c at apart = keeps_same c
sdu_so (SearchEnd point) psm sdu c at apart = keeps_same c
sdu_so (Features point) psm sdu c at apart = keeps_same c
sdu_so (LinkEnd point) psm sdu c at apart = keeps_same c
sdu_so Over psm sdu c at apart = keeps_same c

-- ---- its steps

ended_keeps : (cause : Option Outcome) (c : Client) (parts : List Part) → c.stage ≡ Over → Keeps c (tells_end cause c parts).client
ended_keeps None c parts at = keeps_same c
ended_keeps (Some outcome) c parts at = λ seeks. never seeks

stage_keeps : (stage : Stage) (c : Client) (parts : List Part) → c.stage ≡ stage → Keeps c (steps_at stage c parts).client
stage_keeps Rest c parts at = keeps_same c
stage_keeps (Link Due) c parts at = λ seeks. never seeks
stage_keeps (Link Asked) c parts at = keeps_same c
stage_keeps (SearchChannel Due) c parts at = λ seeks. (ap is_seeking at, inl refl)
stage_keeps (SearchChannel Asked) c parts at = keeps_same c
stage_keeps Search c parts at = by (is_due c.query)
  where
    asked : Client
    asked = record c { query = after_request c.query; left = c.left - 1; rest = request_octets c.query }

    by : (due : Bool) → Keeps c (if due then course.sends_sdu search_psm (Octets (request_octets c.query)) asked parts else course.rests c parts).client
    by true = λ seeks. (ap is_seeking at, inr (inl refl))
    by false = keeps_same c
stage_keeps (SearchEnd Due) c parts at = λ seeks. (ap is_seeking at, inl refl)
stage_keeps (SearchEnd Asked) c parts at = keeps_same c
stage_keeps (Features Due) c parts at = λ seeks. never seeks
stage_keeps (Features Asked) c parts at = keeps_same c
stage_keeps (ObjectChannel Due) c parts at = λ seeks. never seeks
stage_keeps (ObjectChannel Asked) c parts at = keeps_same c
stage_keeps Object c parts at =
    keeps_not c (course.steps_object c.transport c parts).client (late_not (course.steps_object c.transport c parts).client.stage (object_quiet (anchor_of c) c.transport c parts (subst IsLate (sym at) tt, refl)).0.0)
stage_keeps (ObjectEnd Due) c parts at = λ seeks. never seeks
stage_keeps (ObjectEnd Asked) c parts at = keeps_same c
stage_keeps (LinkEnd Due) c parts at = λ seeks. never seeks
stage_keeps (LinkEnd Asked) c parts at = keeps_same c
stage_keeps Over c parts at = ended_keeps c.cause c parts at

pub asks_so : (c : Client) (parts : List Part) → Keeps c (steps c parts).client
asks_so c parts = by c.failed c.given
  where
    lacking : Stepped
    lacking = record { client = c; step = course.NoMemory; left = parts }

    by : (failed given' : Bool) → Keeps c (if failed then lacking else if given' then course.rests c parts else steps_at c.stage c parts).client
    by true given' = keeps_same c
    by false true = keeps_same c
    by false false = stage_keeps c.stage c parts refl

-- ---- a reply in its search

ends_query : (outcome : Outcome) (c : Client) → (ends outcome c).query ≡ c.query
ends_query outcome c = by c.cause
  where
    by : (cause : Option Outcome) → (ends_by cause outcome c).query ≡ c.query
    by None = refl
    by (Some earlier) = refl

found_query : (what : Found) (c : Client) → (finds what c).query ≡ c.query
found_query found.More c = refl
found_query (found.Service target) c = way c.transport
  where
    psm_query : (kept : Option ℕ) → (found_psm kept c).query ≡ c.query
    psm_query None = ends_query outcomes.NoService c
    psm_query (Some psm) = refl

    channel_query : (kept : Option ℕ) → (found_channel kept c).query ≡ c.query
    channel_query None = ends_query outcomes.NoService c
    channel_query (Some channel) = refl

    way : (transport : Transport) → (found_way transport target c).query ≡ c.query
    way L2cap = psm_query (kept_of is_service_psm target.l2cap)
    way Rfcomm = channel_query (kept_of is_server_channel target.rfcomm)
found_query found.NoService c = ends_query outcomes.NoService c
found_query (found.Refused reason) c = by (cause_of_query reason)
  where
    by : (outcome : Option Outcome) → (ends_if outcome c).query ≡ c.query
    by None = refl
    by (Some outcome) = ends_query outcome c

pub reply_query : (reply : List ℕ) (c : Client) → (hears_reply reply c).query ≡ after_reply c.query reply
reply_query reply c = found_query (found_at c.query reply) (record c { query = after_reply c.query reply })

-- ---- the talk has the part

part_said : (transaction : ℕ) (pdu : PlainPdu) → eqb pdu.transaction transaction ≡ true → (part : PlainPart) → said_by (Some pdu) ≡ Gives part → part_of transaction (Some pdu) ≡ part ∷ []
part_said transaction pdu mine part = by (eqb pdu.identifier 1 && eqb (length pdu.parameters) 2) (eqb pdu.identifier 7) refl (part_in pdu.parameters) refl
  where
    by : (one seven : Bool) → eqb pdu.identifier 7 ≡ seven → (read : Option PlainPart) → part_in pdu.parameters ≡ read → cond one (Failed (big_number 2 pdu.parameters)) (cond seven (given read) Nothing) ≡ Gives part → part_of transaction (Some pdu) ≡ part ∷ []
    by true seven is read at said = cc
    by false false is read at said = cc
    by false true is None at said = cc
    by false true is (Some one) at said = let same : one ≡ part = cc in rw (is, mine, at) (ap (λ (x : PlainPart). x ∷ []) same)

pdu_said : (transaction : ℕ) (octets : List ℕ) → is_of_another octets transaction ≡ false → (part : PlainPart) → said_in octets ≡ Gives part → part_of transaction (pdu_in octets) ≡ part ∷ []
pdu_said transaction octets ours part = by (nat_le 5 (length octets) && eqb (states_length octets) (length octets - 5)) refl
  where
    pdu : PlainPdu
    pdu = record { identifier = slice_index octets 0; transaction = big_number 2 (drop 1 octets); parameters = drop 5 octets }

    mine : (b : Bool) → (nat_le 3 (length octets) && not b) ≡ false → nat_le 3 (length octets) ≡ true → b ≡ true
    mine true is long = refl
    mine false is long = let no : true ≡ false = sym (ap (λ (x : Bool). x && true) long) ∙ is in absurd cc

    by : (whole : Bool) → (nat_le 5 (length octets) && eqb (states_length octets) (length octets - 5)) ≡ whole → said_by (cond whole (Some pdu) None) ≡ Gives part → part_of transaction (cond whole (Some pdu) None) ≡ part ∷ []
    by false is said = cc
    by true is said =
        let five = leb-true 5 (length octets) (and_parts (nat_le 5 (length octets)) (eqb (states_length octets) (length octets - 5)) is).0 in
        part_said transaction pdu (mine (eqb pdu.transaction transaction) ours (le-leb 3 (length octets) (omega (arith, five)))) part said

-- an answer that is whole with a reply the talk has then, unless the question had it before
abbrev pub HoldsAnswer : (waiting : Option ℕ) (q after : Asking) (reply : List ℕ) → Type 0
HoldsAnswer waiting q after reply = after.stage ≡ queries.Answered → (target : Target) → target_in after.joined ≡ Some target → (after ≡ q) ⊎ Tells target (answers_now waiting q.joined (came reply))

part_holds : (q : Asking) (reply : List ℕ) (part : PlainPart) → part_of q.transaction (pdu_in reply) ≡ part ∷ [] → HoldsAnswer (Some q.transaction) q (after_part q part) reply
part_holds q reply part said = by (nat_lt 4096 (length (q.joined ++ part.octets))) (eqb (length part.continuation) 0) refl
  where
    by : (long last : Bool) → eqb (length part.continuation) 0 ≡ last → HoldsAnswer (Some q.transaction) q (if long then ended q TooLong else if last then after_whole (with_part q part) else asks_on (with_part q part) part.continuation) reply
    by true last is = λ answered target read. cc
    by false true is = λ answered target read. inr (record {
      answer = q.joined ++ part.octets;
      only = ap (λ (l : List PlainPart). joined_from q.joined (l ++ [])) said ∙ ap (λ (b : Bool). cond b ((q.joined ++ part.octets) ∷ []) []) is;
      heard_is = read;
    })
    by false false is = λ answered target read. cc

said_holds : (q : Asking) (reply : List ℕ) (said : PlainSaid) → said_in reply ≡ said → is_of_another reply q.transaction ≡ false → HoldsAnswer (Some q.transaction) q (when_said q said) reply
said_holds q reply (Gives part) is ours = part_holds q reply part (pdu_said q.transaction reply ours part is)
said_holds q reply (Failed code) is ours = λ answered target read. cc
said_holds q reply Nothing is ours = λ answered target read. cc

awaited_holds : (q : Asking) (reply : List ℕ) → HoldsAnswer (Some q.transaction) q (after_said q reply) reply
awaited_holds q reply = by (is_of_another reply q.transaction) refl
  where
    by : (other : Bool) → is_of_another reply q.transaction ≡ other → HoldsAnswer (Some q.transaction) q (if other then q else when_said q (said_in reply)) reply
    by true is = λ answered target read. inl refl
    by false is = said_holds q reply (said_in reply) refl is

pub reply_holds : (q : Asking) (reply : List ℕ) → HoldsAnswer (awaited q) q (after_reply q reply) reply
reply_holds q reply = by q.stage
  where
    by : (stage : Query_stage) → HoldsAnswer (awaited_at stage q.transaction) q (after_when stage q reply) reply
    by queries.Due = λ answered target read. inl refl
    by queries.Written = awaited_holds q reply
    by queries.Again = awaited_holds q reply
    by queries.Answered = λ answered target read. inl refl
    by (queries.Refused reason) = λ answered target read. inl refl
