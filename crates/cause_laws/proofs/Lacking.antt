-- A client that found no service holds a whole answer of service discovery that names no way.
use Rattle.std.proofs.Common.{◌≡◌, ◌⊎◌, ℕ, Bool, true, false, not, ◌&&◌, ◌||◌, ◌==◌, List, [], ◌∷◌, ◌++◌, length, Option, Some, None, is_none, inl, inr, Result, Ok, Err, refl, sym, ap, ap₂, subst, ◌∙◌, if◌then◌else◌}
use Rattle.std.specs.Prelude.{nat_lt, is_some}
use Rattle.scenario_laws.specs.bt_base.specs.declared.ports.PortFault.{PortFault}
use Rattle.scenario_laws.specs.bt_base.specs.declared.ports.PortFault.TheVariants as fault
use Rattle.scenario_laws.specs.bt_base.specs.declared.settings.Settings.{Settings}
use Rattle.scenario_laws.specs.bt_base.specs.declared.settings.Transport.{Transport}
use Rattle.scenario_laws.specs.bt_base.specs.declared.settings.Transport.TheVariants.{L2cap, Rfcomm}
use Rattle.scenario_laws.specs.push_terms.specs.declared.outcome.Outcome.{Outcome}
use Rattle.scenario_laws.specs.push_terms.specs.declared.outcome.Outcome.TheVariants as outcomes
use Rattle.scenario_laws.specs.push_terms.specs.declared.outcome.Outcome.TheVariants.{Done, Refused, NoService, ShelfFault, PeerFault}
use Rattle.scenario_laws.specs.rfcomm_model.specs.Hearing.{Up, nothing, opened, bytes, closed, up, hears}
use Rattle.scenario_laws.specs.sdp_client.specs.Asking.{Asking, is_due, after_resend}
use Rattle.scenario_laws.specs.sdp_client.specs.Views.{is_awaiting}
use Rattle.scenario_laws.specs.sdp_client.specs.declared.query.Stage.{Stage as Query_stage}
use Rattle.scenario_laws.specs.sdp_client.specs.declared.query.Stage.TheVariants as queries
use Rattle.scenario_laws.specs.sdp_client.specs.declared.reason.Found.{Found}
use Rattle.scenario_laws.specs.sdp_client.specs.declared.reason.Found.TheVariants as found
use Rattle.scenario_laws.specs.sdp_client.specs.declared.reason.QueryReason.{QueryReason}
use Rattle.scenario_laws.specs.sdp_client.specs.declared.reason.QueryReason.TheVariants.{BadReply, ErrorCode, WrongTransaction, TooLong}
use Rattle.scenario_laws.specs.sdp_client.specs.Hearing.{ended, found_target, found_in, stage_in, with_part, after_whole, asks_on, found_part, after_part, found_whole, found_said, when_said, found_by, after_said, found_when, after_when, found_at, after_reply}
use Rattle.scenario_laws.specs.sdp_client.specs.Replies.{PlainPart, PlainSaid, Gives, Failed, Nothing, said_in, is_of_another}
use Rattle.scenario_laws.specs.sdp_elements.specs.declared.target.Target.{Target}
use Rattle.scenario_laws.specs.sdp_elements.specs.Targets.{target_in, is_service_psm, is_server_channel}
use Rattle.scenario_laws.specs.push_model.specs.declared.course.Point.{Point}
use Rattle.scenario_laws.specs.push_model.specs.declared.course.Point.TheVariants.{Due, Asked}
use Rattle.scenario_laws.specs.push_model.specs.declared.course.Stage.{Stage}
use Rattle.scenario_laws.specs.push_model.specs.declared.course.Stage.TheVariants.{Rest, Link, SearchChannel, Search, SearchEnd, Features, ObjectChannel, Object, ObjectEnd, LinkEnd, Over}
use Rattle.scenario_laws.specs.push_model.specs.Causes.{cause_of_link, cause_of_page, cause_of_close, cause_of_query, cause_of_mux}
use Rattle.scenario_laws.specs.push_model.specs.Client.{Client, begins, begun_by, ends, ends_by, ends_if, in_order, at_once, may_cancel}
use Rattle.scenario_laws.specs.push_model.specs.Events as events
use Rattle.scenario_laws.specs.push_model.specs.Events.{News, hears_news, search_psm, kept_of, over, over_by, is_linked, is_paging, is_asking_features, is_search, linked_at, opened_at, closed_at, search_closed, search_left, sdu_at, finds, found_way, found_psm, found_channel, hears_reply}
use Rattle.scenario_laws.specs.push_model.specs.Responding.{is_left}
use Rattle.scenario_laws.specs.push_model.specs.Laws.{Deed, Hears, Asks, Finishes, Cancels, done}
use Rattle.scenario_laws.specs.push_model.specs.Shown.{way_of, shows, sdu_shows, object_shows, outside_shows, up_shows}
use Rattle.scenario_laws.specs.push_model.specs.Steps as course
use Rattle.scenario_laws.specs.push_model.specs.Steps.{Part, Stepped, steps, steps_at}
use Rattle.scenario_laws.specs.push_model.proofs.CauseLaws.{first_causes_stay}
use Rattle.scenario_laws.specs.push_model.proofs.ShownLaws.{outcomes_are_shown}
use Rattle.scenario_laws.specs.host_laws.specs.Feeds.{Feed, all_fed}
use Rattle.scenario_laws.specs.host_laws.specs.Leaving.{is_off}
use Rattle.scenario_laws.specs.host_laws.specs.Pushing.{Affair, Begins, Does, client_behind, pushed_from}
use Rattle.scenario_laws.specs.host_laws.proofs.Courses.{steps_off}
use Rattle.scenario_laws.specs.host_laws.proofs.Pushing.{all_pushed}
use Rattle.scenario_laws.specs.host_model.specs.Clients.{client_profile}
use Rattle.cause_laws.proofs.Clients.{never, is_unsaid, any_unsaid, is_responded, Within, within_more, more_shown, either, up_shown, opens_shown, closes_shown, told_shown, lost_shown, timer_shown, asks_shown, stream_responds, response_responds, none_later}

-- ---- a reply that ends a search

-- what it finds of a whole answer, the query holds
abbrev pub Finds : Found → Asking → Type 0
Finds found.More q = Unit {0}
Finds (found.Service target) q = (q.stage ≡ queries.Answered) × (target_in q.joined ≡ Some target)
Finds found.NoService q = (q.stage ≡ queries.Answered) × ((target : Target) × (target_in q.joined ≡ Some target) × (target.l2cap ≡ None) × (target.rfcomm ≡ None))
Finds (found.Refused reason) q = Unit {0}

target_finds : (q : Asking) (target : Target) (l2cap rfcomm : Option ℕ) → q.stage ≡ queries.Answered → target_in q.joined ≡ Some target → target.l2cap ≡ l2cap → target.rfcomm ≡ rfcomm → Finds (found_target l2cap rfcomm) q
target_finds q target None None answered is one two = (answered, (target, is, one, two))
target_finds q target None (Some rfcomm) answered is one two = (answered, is ∙ ap₂ (λ (l r : Option ℕ). let t : Target = record { l2cap = l; rfcomm = r } in Some t) one two)
target_finds q target (Some l2cap) rfcomm answered is one two = (answered, is ∙ ap₂ (λ (l r : Option ℕ). let t : Target = record { l2cap = l; rfcomm = r } in Some t) one two)

whole_finds : (q : Asking) (target : Option Target) → target_in q.joined ≡ target → Finds (found_in target) (record q { stage = stage_in target })
whole_finds q None is = tt
whole_finds q (Some target) is = target_finds (record q { stage = queries.Answered }) target target.l2cap target.rfcomm refl is refl refl

part_finds : (q : Asking) (part : PlainPart) → Finds (found_part q part) (after_part q part)
part_finds q part = by (nat_lt 4096 (length (q.joined ++ part.octets))) (length part.continuation == 0)
  where
    by : (long last : Bool) → Finds (if long then found.Refused TooLong else if last then found_whole (q.joined ++ part.octets) else found.More) (if long then ended q TooLong else if last then after_whole (with_part q part) else asks_on (with_part q part) part.continuation)
    by true last = tt
    by false true = whole_finds (with_part q part) (target_in (q.joined ++ part.octets)) refl
    by false false = tt

said_finds : (q : Asking) (said : PlainSaid) → Finds (found_said q said) (when_said q said)
said_finds q (Gives part) = part_finds q part
said_finds q (Failed code) = tt
said_finds q Nothing = tt

by_finds : (q : Asking) (reply : List ℕ) → Finds (found_by q reply) (after_said q reply)
by_finds q reply = by (is_of_another reply q.transaction)
  where
    by : (other : Bool) → Finds (if other then found.Refused WrongTransaction else found_said q (said_in reply)) (if other then q else when_said q (said_in reply))
    by true = tt
    by false = said_finds q (said_in reply)

when_finds : (stage : Query_stage) (q : Asking) (reply : List ℕ) → Finds (found_when stage q reply) (after_when stage q reply)
when_finds queries.Due q reply = tt
when_finds queries.Written q reply = by_finds q reply
when_finds queries.Again q reply = by_finds q reply
when_finds queries.Answered q reply = tt
when_finds (queries.Refused reason) q reply = tt

pub reply_finds : (q : Asking) (reply : List ℕ) → Finds (found_at q reply) (after_reply q reply)
reply_finds q reply = when_finds q.stage q reply

-- ---- what the client holds

abbrev pub is_search_end : Stage → Bool
is_search_end (SearchEnd point) = true
is_search_end stage = false

-- it closes the channel of its search, and its question was answered so
pub record Lacks (c : Client) : Type 0 where
  pub stage : is_search_end c.stage ≡ true
  pub answered : c.query.stage ≡ queries.Answered
  pub target : Target
  pub read : target_in c.query.joined ≡ Some target
  pub none : is_none (way_of c.transport target) ≡ true

-- or no push goes on over its link
abbrev pub OffOrLacks : Client → Type 0
OffOrLacks c = (is_off c.stage ≡ true) ⊎ Lacks c

abbrev pub Fares : Client → Type 0
Fares c = c.cause ≡ Some NoService → OffOrLacks c

end_is : (stage : Stage) → is_search_end stage ≡ true → (point : Point) × (stage ≡ SearchEnd point)
end_is (SearchEnd point) is = (point, refl)
end_is Rest is = never is
end_is (Link point) is = never is
end_is (SearchChannel point) is = never is
end_is Search is = never is
end_is (Features point) is = never is
end_is (ObjectChannel point) is = never is
end_is Object is = never is
end_is (ObjectEnd point) is = never is
end_is (LinkEnd point) is = never is
end_is Over is = never is

by_off : (P : Stage → Type 0) → P Rest → P (Link Due) → P (Link Asked) → ((point : Point) → P (LinkEnd point)) → P Over → (stage : Stage) → is_off stage ≡ true → P stage
by_off P rest due asked ending over' Rest is = rest
by_off P rest due asked ending over' (Link Due) is = due
by_off P rest due asked ending over' (Link Asked) is = asked
by_off P rest due asked ending over' (LinkEnd point) is = ending point
by_off P rest due asked ending over' Over is = over'
by_off P rest due asked ending over' (SearchChannel point) is = never is
by_off P rest due asked ending over' Search is = never is
by_off P rest due asked ending over' (SearchEnd point) is = never is
by_off P rest due asked ending over' (Features point) is = never is
by_off P rest due asked ending over' (ObjectChannel point) is = never is
by_off P rest due asked ending over' Object is = never is
by_off P rest due asked ending over' (ObjectEnd point) is = never is

over_off : (outcome : Outcome) (c : Client) → is_off (over outcome c).stage ≡ true
over_off outcome c = by c.cause
  where
    by : (cause : Option Outcome) → is_off (over_by cause outcome c).stage ≡ true
    by None = refl
    by (Some earlier) = refl

-- ---- of one that has that outcome

module _ (c : Client) (has : c.cause ≡ Some NoService) where
  -- whatever else would end it breaks its link
  broken : (outcome : Outcome) → (is_off (at_once c.stage) ≡ true) → is_off (ends outcome c).stage ≡ true
  broken outcome off = subst (λ (cause : Option Outcome). is_off (ends_by cause outcome c).stage ≡ true) (sym has) off

  -- it stays off
  off_news : (news : News) → is_off c.stage ≡ true → is_off (hears_news news c).stage ≡ true
  off_news events.LinkUp off =
      by_off (λ (s : Stage). is_off (linked_at s c).stage ≡ true) off off
      (subst (λ (cause : Option Outcome). is_off (if is_some cause then record c { stage = LinkEnd Due } else record c { stage = SearchChannel Due }).stage ≡ true) (sym has) refl) (λ point. off) off c.stage off
  off_news (events.LinkDown reason) off = by_off (λ (s : Stage). is_off (if is_linked s then over (cause_of_link reason) c else c).stage ≡ true) off off off (λ point. over_off (cause_of_link reason) c) off c.stage off
  off_news (events.LinkFailed status) off = by_off (λ (s : Stage). is_off (if is_paging s then over (cause_of_page status) c else c).stage ≡ true) off off (over_off (cause_of_page status) c) (λ point. off) off c.stage off
  off_news (events.ChannelOpen psm mtu) off = by_off (λ (s : Stage). is_off (opened_at s psm mtu c).stage ≡ true) off off off (λ point. off) off c.stage off
  off_news (events.ChannelClosed psm cause) off = by_off (λ (s : Stage). is_off (closed_at s psm cause c).stage ≡ true) off off off (λ point. off) off c.stage off
  off_news (events.Sdu psm octets) off = by_off (λ (s : Stage). is_off (sdu_at s psm octets c).stage ≡ true) off off off (λ point. off) off c.stage off
  off_news events.FeaturesTold off = by_off (λ (s : Stage). is_off (if is_asking_features s then record c { stage = ObjectChannel Due } else c).stage ≡ true) off off off (λ point. off) off c.stage off
  off_news events.FeaturesLost off = by_off (λ (s : Stage). is_off (if is_asking_features s then ends outcomes.RetryLimit c else c).stage ≡ true) off off off (λ point. off) off c.stage off
  off_news events.Timer off = by_off (λ (s : Stage). is_off (timed s).stage ≡ true) off off off (λ point. off) off c.stage off
    where
      timed : Stage → Client
      timed s =
          if (is_search s && is_awaiting c.query) && not (c.given || is_due c.query) then (if c.left == 0 then ends outcomes.RetryLimit c else record c { query = after_resend c.query }) else c

  off_done : (deed : Deed) → is_off c.stage ≡ true → is_off (done deed c).stage ≡ true
  off_done (Hears news) off = off_news news off
  off_done (Asks parts) off = steps_off c parts off
  off_done Finishes off = off
  off_done Cancels off = by (may_cancel c)
    where
      by : (may : Bool) → is_off (if may then ends outcomes.Cancelled c else c).stage ≡ true
      by true = broken outcomes.Cancelled (by_off (λ (s : Stage). is_off (at_once s) ≡ true) refl refl refl (λ point. refl) refl c.stage off)
      by false = off

  -- or ends its search
  module _ (lacks : Lacks c) (point : Point) (at : c.stage ≡ SearchEnd point) where
    ends_off : (outcome : Outcome) → is_off (ends outcome c).stage ≡ true
    ends_off outcome = broken outcome (ap (λ (s : Stage). is_off (at_once s)) at)

    either_so : (test : Bool) (d e : Client) → OffOrLacks d → OffOrLacks e → OffOrLacks (if test then d else e)
    either_so true d e x y = x
    either_so false d e x y = y

    at_end : (f : Stage → Client) → OffOrLacks (f (SearchEnd point)) → OffOrLacks (f c.stage)
    at_end f so = subst (λ (s : Stage). OffOrLacks (f s)) (sym at) so

    closed_so : (cause : Option Outcome) → OffOrLacks (search_closed cause c)
    closed_so None = inl (subst (λ (cause : Option Outcome). is_off (search_left cause c).stage ≡ true) (sym has) refl)
    closed_so (Some outcome) = inl (ends_off outcome)

    news_so : (news : News) → OffOrLacks (hears_news news c)
    news_so events.LinkUp = at_end (λ (s : Stage). linked_at s c) (inr lacks)
    news_so (events.LinkDown reason) = at_end (λ (s : Stage). if is_linked s then over (cause_of_link reason) c else c) (inl (over_off (cause_of_link reason) c))
    news_so (events.LinkFailed status) = at_end (λ (s : Stage). if is_paging s then over (cause_of_page status) c else c) (inr lacks)
    news_so (events.ChannelOpen psm mtu) = at_end (λ (s : Stage). opened_at s psm mtu c) (inr lacks)
    news_so (events.ChannelClosed psm cause) = at_end (λ (s : Stage). closed_at s psm cause c) (either_so (psm == search_psm) (search_closed (cause_of_close cause) c) c (closed_so (cause_of_close cause)) (inr lacks))
    news_so (events.Sdu psm octets) = at_end (λ (s : Stage). sdu_at s psm octets c) (inr lacks)
    news_so events.FeaturesTold = at_end (λ (s : Stage). if is_asking_features s then record c { stage = ObjectChannel Due } else c) (inr lacks)
    news_so events.FeaturesLost = at_end (λ (s : Stage). if is_asking_features s then ends outcomes.RetryLimit c else c) (inr lacks)
    news_so events.Timer =
        at_end (λ (s : Stage). if (is_search s && is_awaiting c.query) && not (c.given || is_due c.query) then (if c.left == 0 then ends outcomes.RetryLimit c else record c { query = after_resend c.query }) else c) (inr lacks)

    asks_so : (parts : List Part) → OffOrLacks (steps c parts).client
    asks_so parts = by c.failed c.given
      where
        lacking : Stepped
        lacking = record { client = c; step = course.NoMemory; left = parts }

        stage_so : OffOrLacks (steps_at c.stage c parts).client
        stage_so = at_end (λ (s : Stage). (steps_at s c parts).client) (on point)
          where
            on : (point' : Point) → OffOrLacks (steps_at (SearchEnd point') c parts).client
            on Due = inr (record { stage = refl; answered = lacks.answered; target = lacks.target; read = lacks.read; none = lacks.none })
            on Asked = inr lacks

        by : (failed given : Bool) → OffOrLacks (if failed then lacking else if given then course.rests c parts else steps_at c.stage c parts).client
        by true given = inr lacks
        by false true = inr lacks
        by false false = stage_so

    lacks_done : (deed : Deed) → OffOrLacks (done deed c)
    lacks_done (Hears news) = news_so news
    lacks_done (Asks parts) = asks_so parts
    lacks_done Finishes = inr (record { stage = lacks.stage; answered = lacks.answered; target = lacks.target; read = lacks.read; none = lacks.none })
    lacks_done Cancels = either_so (may_cancel c) (ends outcomes.Cancelled c) c (inl (ends_off outcomes.Cancelled)) (inr lacks)

-- ---- of one that has none yet

-- another outcome than that
abbrev pub is_other : Outcome → Bool
is_other NoService = false
is_other outcome = true

pub unsaid_other : (outcome : Outcome) → is_unsaid outcome ≡ true → is_other outcome ≡ true
unsaid_other NoService is = is
unsaid_other outcome is = refl

responded_other : (outcome : Outcome) → is_responded outcome ≡ true → is_other outcome ≡ true
responded_other NoService is = is
responded_other outcome is = refl

pub other_not : {X : Type 0} (shown : Option Outcome) → Within is_other shown → shown ≡ Some NoService → X
other_not shown within is = never (subst (Within is_other) is within)

pub link_unsaid : (by_user : Bool) → Within is_unsaid (Some (if by_user then outcomes.PeerClosed else outcomes.LinkLost))
link_unsaid true = refl
link_unsaid false = refl

up_other : (news : Up) (c : Client) → Within is_other (up_shows news c)
up_other nothing c = tt
up_other opened c = tt
up_other (bytes octets) c = within_more is_responded is_other responded_other _ (stream_responds (length (c.held ++ octets)) (c.held ++ octets) c)
up_other (closed reason) c = either is_other (is_left c.contact reason) None (Some (cause_of_mux reason)) tt refl

pub object_other : (transport : Transport) (sdu : List ℕ) (c : Client) → Within is_other (object_shows transport sdu c)
object_other L2cap sdu c = within_more is_responded is_other responded_other _ (response_responds sdu c)
object_other Rfcomm sdu c = up_other (up sdu c.mux) (record c { mux = hears sdu c.mux })

pub outside_other : (transport : Transport) → Within is_other (outside_shows transport)
outside_other L2cap = refl
outside_other Rfcomm = tt

module _ (c : Client) (none : c.cause ≡ None) where
  some_none : {X : Type 0} (outcome : Outcome) → c.cause ≡ Some outcome → X
  some_none outcome is = let e : None ≡ Some outcome = sym none ∙ is in absurd cc

  -- anything but an SDU in its search shows another one
  shown_so : (deed : Deed) → Within is_other (shows deed c) → (done deed c).cause ≡ Some NoService → OffOrLacks (done deed c)
  shown_so deed within is = other_not (shows deed c) within (sym (outcomes_are_shown (deed ∷ []) c none ∙ none_later (shows deed c)) ∙ is)

  unsaid_so : (deed : Deed) → Within is_unsaid (shows deed c) → (done deed c).cause ≡ Some NoService → OffOrLacks (done deed c)
  unsaid_so deed within = shown_so deed (within_more is_unsaid is_other unsaid_other (shows deed c) within)

  no_way : (transport : Transport) (target : Target) → target.l2cap ≡ None → target.rfcomm ≡ None → is_none (way_of transport target) ≡ true
  no_way L2cap target one two = ap (λ (o : Option ℕ). is_none (kept_of is_service_psm o)) one
  no_way Rfcomm target one two = ap (λ (o : Option ℕ). is_none (kept_of is_server_channel o)) two

  -- in its search
  module _ (at : c.stage ≡ Search) (q : Asking) where
    abbrev heard : Client
    heard = record c { query = q }

    ends_lacking : q.stage ≡ queries.Answered → (target : Target) → target_in q.joined ≡ Some target → is_none (way_of c.transport target) ≡ true → OffOrLacks (ends NoService heard)
    ends_lacking answered target read way =
        subst (λ (cause : Option Outcome). OffOrLacks (ends_by cause NoService heard)) (sym none)
        (inr (record { stage = ap (λ (s : Stage). is_search_end (in_order s)) at; answered = answered; target = target; read = read; none = way }))

    way_lacks : (transport : Transport) → c.transport ≡ transport → (target : Target) → q.stage ≡ queries.Answered → target_in q.joined ≡ Some target → (found_way transport target heard).cause ≡ Some NoService → OffOrLacks (found_way transport target heard)
    way_lacks L2cap same target answered read is = by (kept_of is_service_psm target.l2cap) refl is
      where
        by : (kept : Option ℕ) → kept_of is_service_psm target.l2cap ≡ kept → (found_psm kept heard).cause ≡ Some NoService → OffOrLacks (found_psm kept heard)
        by None way is' = ends_lacking answered target read (ap (λ (t : Transport). is_none (way_of t target)) same ∙ ap is_none way)
        by (Some psm) way is' = some_none NoService is'
    way_lacks Rfcomm same target answered read is = by (kept_of is_server_channel target.rfcomm) refl is
      where
        by : (kept : Option ℕ) → kept_of is_server_channel target.rfcomm ≡ kept → (found_channel kept heard).cause ≡ Some NoService → OffOrLacks (found_channel kept heard)
        by None way is' = ends_lacking answered target read (ap (λ (t : Transport). is_none (way_of t target)) same ∙ ap is_none way)
        by (Some channel) way is' = some_none NoService is'

    refused_other : (reason : QueryReason) → (ends_if (cause_of_query reason) heard).cause ≡ Some NoService → OffOrLacks (ends_if (cause_of_query reason) heard)
    refused_other WrongTransaction is = some_none NoService is
    refused_other BadReply is = fault_other _ is
      where
        fault_other : {X : Type 0} (reason' : ℕ) → (ends (PeerFault 3 reason') heard).cause ≡ Some NoService → X
        fault_other reason' is' = let e : Some (PeerFault 3 reason') ≡ Some NoService = sym (ap (λ (cause : Option Outcome). (ends_by cause (PeerFault 3 reason') heard).cause) none) ∙ is' in absurd cc
    refused_other (ErrorCode code) is = let e : Some (PeerFault 3 2) ≡ Some NoService = sym (ap (λ (cause : Option Outcome). (ends_by cause (PeerFault 3 2) heard).cause) none) ∙ is in absurd cc
    refused_other TooLong is = let e : Some (PeerFault 3 4) ≡ Some NoService = sym (ap (λ (cause : Option Outcome). (ends_by cause (PeerFault 3 4) heard).cause) none) ∙ is in absurd cc

    finds_lacks : (what : Found) → Finds what q → (finds what heard).cause ≡ Some NoService → OffOrLacks (finds what heard)
    finds_lacks found.More so is = some_none NoService is
    finds_lacks (found.Service target) so is = way_lacks c.transport refl target so.0 so.1 is
    finds_lacks found.NoService so is = let (answered, (target, read, one, two)) = so in ends_lacking answered target read (no_way c.transport target one two)
    finds_lacks (found.Refused reason) so is = refused_other reason is

  reply_lacks : (at : c.stage ≡ Search) (here : Bool) (sdu : List ℕ) → (if here then hears_reply sdu c else c).cause ≡ Some NoService → OffOrLacks (if here then hears_reply sdu c else c)
  reply_lacks at true sdu is = finds_lacks at (after_reply c.query sdu) (found_at c.query sdu) (reply_finds c.query sdu) is
  reply_lacks at false sdu is = some_none NoService is

  -- on another channel
  elsewhere : (stage : Stage) (psm : ℕ) (sdu : List ℕ) → c.stage ≡ stage → Within is_other (sdu_shows stage psm sdu c) → (sdu_at c.stage psm sdu c).cause ≡ Some NoService → OffOrLacks (sdu_at c.stage psm sdu c)
  elsewhere stage psm sdu at within = shown_so (Hears (events.Sdu psm sdu)) (subst (λ (s : Stage). Within is_other (sdu_shows s psm sdu c)) (sym at) within)

  sdu_lacks : (stage : Stage) → c.stage ≡ stage → (psm : ℕ) (sdu : List ℕ) → (sdu_at c.stage psm sdu c).cause ≡ Some NoService → OffOrLacks (sdu_at c.stage psm sdu c)
  sdu_lacks Search at psm sdu = subst (λ (s : Stage). (sdu_at s psm sdu c).cause ≡ Some NoService → OffOrLacks (sdu_at s psm sdu c)) (sym at) (reply_lacks at (psm == search_psm) sdu)
  sdu_lacks (ObjectChannel point) at psm sdu = elsewhere (ObjectChannel point) psm sdu at (either is_other (psm == c.psm) (outside_shows c.transport) None (outside_other c.transport) tt)
  sdu_lacks Object at psm sdu = elsewhere Object psm sdu at (either is_other (psm == c.psm) (object_shows c.transport sdu c) None (object_other c.transport sdu c) tt)
  sdu_lacks (ObjectEnd point) at psm sdu = elsewhere (ObjectEnd point) psm sdu at (either is_other (psm == c.psm) (outside_shows c.transport) None (outside_other c.transport) tt)
  sdu_lacks Rest at psm sdu = elsewhere Rest psm sdu at tt
  sdu_lacks (Link point) at psm sdu = elsewhere (Link point) psm sdu at tt
  sdu_lacks (SearchChannel point) at psm sdu = elsewhere (SearchChannel point) psm sdu at tt
  sdu_lacks (SearchEnd point) at psm sdu = elsewhere (SearchEnd point) psm sdu at tt
  sdu_lacks (Features point) at psm sdu = elsewhere (Features point) psm sdu at tt
  sdu_lacks (LinkEnd point) at psm sdu = elsewhere (LinkEnd point) psm sdu at tt
  sdu_lacks Over at psm sdu = elsewhere Over psm sdu at tt

  none_done : (deed : Deed) → (done deed c).cause ≡ Some NoService → OffOrLacks (done deed c)
  none_done (Hears events.LinkUp) = unsaid_so (Hears events.LinkUp) (more_shown is_unsaid any_unsaid (Hears events.LinkUp) up_shown c)
  none_done (Hears (events.LinkDown reason)) = unsaid_so (Hears (events.LinkDown reason)) (either is_unsaid (is_linked c.stage) (Some (cause_of_link reason)) None (link_unsaid (reason == 0x13)) tt)
  none_done (Hears (events.LinkFailed status)) = unsaid_so (Hears (events.LinkFailed status)) (either is_unsaid (is_paging c.stage) (Some (cause_of_page status)) None refl tt)
  none_done (Hears (events.ChannelOpen psm mtu)) = unsaid_so (Hears (events.ChannelOpen psm mtu)) (more_shown is_unsaid any_unsaid (Hears (events.ChannelOpen psm mtu)) (opens_shown psm mtu) c)
  none_done (Hears (events.ChannelClosed psm cause)) = unsaid_so (Hears (events.ChannelClosed psm cause)) (more_shown is_unsaid any_unsaid (Hears (events.ChannelClosed psm cause)) (closes_shown psm cause) c)
  none_done (Hears (events.Sdu psm sdu)) = sdu_lacks c.stage refl psm sdu
  none_done (Hears events.FeaturesTold) = unsaid_so (Hears events.FeaturesTold) (more_shown is_unsaid any_unsaid (Hears events.FeaturesTold) told_shown c)
  none_done (Hears events.FeaturesLost) = unsaid_so (Hears events.FeaturesLost) (more_shown is_unsaid any_unsaid (Hears events.FeaturesLost) lost_shown c)
  none_done (Hears events.Timer) = unsaid_so (Hears events.Timer) (more_shown is_unsaid any_unsaid (Hears events.Timer) timer_shown c)
  none_done (Asks parts) = unsaid_so (Asks parts) (more_shown is_unsaid any_unsaid (Asks parts) (asks_shown parts) c)
  none_done Finishes = unsaid_so Finishes tt
  none_done Cancels = unsaid_so Cancels (either is_unsaid (may_cancel c) (Some outcomes.Cancelled) None refl tt)

-- ---- whatever happens

pub fares_done : (deed : Deed) (c : Client) → Fares c → Fares (done deed c)
fares_done deed c fares = by c.cause refl
  where
    stays : (so : OffOrLacks c) → c.cause ≡ Some NoService → OffOrLacks (done deed c)
    stays (inl off) has = inl (off_done c has deed off)
    stays (inr lacks) has = let (point, at) = end_is c.stage lacks.stage in lacks_done c has lacks point at deed

    by : (cause : Option Outcome) → c.cause ≡ cause → Fares (done deed c)
    by None none = none_done c none deed
    by (Some outcome) some = λ is. let has : c.cause ≡ Some NoService = some ∙ (sym (first_causes_stay (deed ∷ []) c outcome some) ∙ is) in stays (fares has) has

fares_begun : (size : Result ℕ PortFault) (name : List ℕ) (c : Client) → Fares c → Fares (begins size name c)
fares_begun size name c fares = on c.failed
  where
    by : (answered : Result ℕ PortFault) → Fares (begun_by answered name c)
    by (Ok n) = λ is. let e : None ≡ Some NoService = is in absurd cc
    by (Err fault.Failed) = λ is. let e : Some ShelfFault ≡ Some NoService = is in absurd cc
    by (Err fault.NoMemory) = λ is. elim (fares is) [ inl off ↦ inl off | inr lacks ↦ inr (record { stage = lacks.stage; answered = lacks.answered; target = lacks.target; read = lacks.read; none = lacks.none }) ]

    on : (failed : Bool) → Fares (if failed then c else begun_by size name c)
    on true = fares
    on false = by size

fares_behind : (affairs : List Affair) (c : Client) → Fares c → Fares (client_behind affairs c)
fares_behind [] c fares = fares
fares_behind (Begins size name ∷ affairs) c fares = fares_behind affairs (begins size name c) (fares_begun size name c fares)
fares_behind (Does deed ∷ affairs) c fares = fares_behind affairs (done deed c) (fares_done deed c fares)

-- from its first moment on
pub fed_fares : (settings : Settings) (feeds : List Feed) → Fares (all_fed (client_profile settings) (client_profile settings).first feeds).client
fed_fares settings feeds =
    let A = client_profile settings in subst Fares (sym (all_pushed settings feeds A.first)) (fares_behind (pushed_from settings A.first feeds) A.first.client (λ is. let e : None ≡ Some NoService = is in absurd cc))
