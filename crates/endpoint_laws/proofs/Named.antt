-- What one step says gives an endpoint that was given before by the same, or one that is given next.
use Rattle.std.proofs.Common.{◌≡◌, ℕ, ◌<◌, ◌≤◌, List, [], ◌∷◌, ◌++◌, map, Bool, true, false, cond, eqb, ◌&&◌, ◌||◌, Option, Some, None, refl, sym, ap, subst, ◌∙◌, ◌⊎◌, inl, inr, arith}
use Rattle.std.specs.Prelude.{nat_lt, option_map, option_to_list}
use Rattle.std.specs.List.{list_any}
use Rattle.std.proofs.lemmas.Bool.{eqb-true, ltb-true, ltb-false}
use Rattle.channel_laws.specs.capture.specs.declared.flow.Flow.TheVariants.{Out, Into}
use Rattle.channel_laws.specs.l2cap_signal.specs.Commands.{Command, Content, reject, connection_request, connection_response, configuration_request, configuration_response, disconnection_request, disconnection_response, echo_request, echo_response, information_request, information_response}
use Rattle.channel_laws.specs.l2cap_signal.specs.Reading.{Answer as Read}
use Rattle.channel_laws.specs.link_talk.specs.declared.call.Call.{Call}
use Rattle.channel_laws.specs.link_talk.specs.Sayings.{Saying}
use Rattle.channel_laws.specs.link_talk.specs.Sayings as sayings
use Rattle.channel_laws.specs.link_talk.specs.Senses.{sense}
use Rattle.channel_laws.specs.link_talk.specs.Requests.{is_own_call, call}
use Rattle.channel_laws.specs.link_talk.specs.Channels.{Reading, read_on, reading}
use Rattle.channel_laws.specs.talk_laws.proofs.Passes.{from_end}
use Rattle.channel_laws.specs.channel_model.specs.Value.{Request, no_setup, Requested, Connected, Held, Channels}
use Rattle.channel_laws.specs.channel_model.specs.Policies.{Policy}
use Rattle.channel_laws.specs.channel_model.specs.Changing.{held_at}
use Rattle.channel_laws.specs.channel_model.specs.Following.{can_say}
use Rattle.channel_laws.specs.channel_model.proofs.Lookups.{own_of, eqb-same, found-has}
use Rattle.channel_laws.specs.Belonging.{HasAsked, HasGranted}
use Rattle.channel_laws.specs.OwnTalk.{spoken, command_with, command_if, exchanged, asked_between}
use Rattle.channel_laws.specs.Signals.{StandsIn}
use Rattle.channel_laws.proofs.Bestowing.{Bestows, grant_in}
use Rattle.channel_laws.proofs.Conversing.{reading-on}
use Rattle.channel_laws.proofs.Converses.{IsMade, IsLast, Grants}
use Rattle.channel_laws.proofs.Due.{KeepsDue}
use Rattle.channel_laws.proofs.Origins.{answered-asked}
use Rattle.channel_laws.proofs.Protocols.{KeepsPsm}
use Rattle.channel_laws.proofs.Replying.{is_response, IsReply}
use Rattle.channel_laws.proofs.Saying.{stands-left, stands-either}
use Rattle.channel_laws.proofs.Sound.{has_called, WantsAt, Wants, Sound}
use Rattle.channel_laws.proofs.Words.{Words}
use Rattle.endpoint_laws.specs.Given.{endpoint_named, gives_endpoint}

-- ---- what was asked was called

asked_called : (said : List Saying) (identifier psm own : ℕ) → HasAsked identifier psm own said → has_called (reading said).requests identifier own ≡ true
asked_called said identifier psm own = from_end (λ s. HasAsked identifier psm own s → has_called (reading s).requests identifier own ≡ true) (λ is. elim is [ ]) step said
  where
    it : Saying
    it = spoken (command_with identifier (connection_request psm own))

    or_on : (a b : Bool) → b ≡ true → (a || b) ≡ true
    or_on true b is = refl
    or_on false b is = is

    more : (found : Option Call) (calls : List Call) → list_any (is_own_call identifier own) calls ≡ true → list_any (is_own_call identifier own) (option_to_list found ++ calls) ≡ true
    more None calls is = is
    more (Some one) calls is = or_on (is_own_call identifier own one) (list_any (is_own_call identifier own) calls) is

    now : (past : List Saying) → has_called (read_on (reading past) it).requests identifier own ≡ true
    now past = ap (λ b. (b && eqb own own) || has_called (reading past).requests identifier own) (eqb-same identifier) ∙ ap (λ b. b || has_called (reading past).requests identifier own) (eqb-same own)

    step : (past : List Saying) (s : Saying) → (HasAsked identifier psm own past → has_called (reading past).requests identifier own ≡ true) → HasAsked identifier psm own (past ++ s ∷ []) → has_called (reading (past ++ s ∷ [])).requests identifier own ≡ true
    step past s before stands = ap (λ (r : Reading). has_called r.requests identifier own) (reading-on past (s ∷ [])) ∙ by (stands-either it past (s ∷ []) stands)
      where
        by : HasAsked identifier psm own past ⊎ HasAsked identifier psm own (s ∷ []) → has_called (read_on (reading past) s).requests identifier own ≡ true
        by (inl old) = more (call (sense s)) (reading past).requests.calls (before old)
        by (inr (inl same)) = subst (λ x. has_called (read_on (reading past) x).requests identifier own ≡ true) (sym same) (now past)
        by (inr (inr none)) = elim none [ ]

-- ---- a request that waits

pub record IsCall (w : Channels) (own : ℕ) (one : Saying) : Type 0 where
  pub held : Held
  pub request : Request
  pub found : held_at own w ≡ Some held
  pub waits : held.stage ≡ Requested request
  pub is : one ≡ spoken (command_with request.identifier (connection_request held.psm held.own))

-- whatever gives an endpoint is such a request
abbrev pub Calls : Channels → List Saying → Type 0
Calls w said = (one : Saying) (own : ℕ) → StandsIn one said → gives_endpoint one ≡ Some own → IsCall w own one

pub calls_none : (w : Channels) → Calls w []
calls_none w one own stands gives = elim stands [ ]

pub calls_both : (w : Channels) (xs ys : List Saying) → Calls w xs → Calls w ys → Calls w (xs ++ ys)
calls_both w xs ys first second one own stands gives = by (stands-either one xs ys stands)
  where
    by : StandsIn one xs ⊎ StandsIn one ys → IsCall w own one
    by (inl left) = first one own left gives
    by (inr right) = second one own right gives

pub calls_other : (w : Channels) (said : Saying) → gives_endpoint said ≡ None → Calls w (said ∷ [])
calls_other w said none one own (inl same) gives = let never : None ≡ Some own = sym none ∙ (ap gives_endpoint same ∙ gives) in absurd cc
calls_other w said none one own (inr nothing) gives = elim nothing [ ]

pub call_words : (w : Channels) → Words w (Calls w)
call_words w = record {
  none = calls_none w;
  both = calls_both w;
  calls = λ own held request at is one other stands gives. calls own held request at is one other stands gives;
  wishes = λ own peer held setup request options at has to is. calls_other w _ refl;
  ends = λ identifier peer own. calls_other w _ refl;
  asks = λ request is. calls_other w _ refl;
  lets_call = λ identifier own. calls_other w _ refl;
  lets_end = λ own peer. calls_other w _ refl;
}
  where
    calls : (own : ℕ) (held : Held) (request : Request) → held_at own w ≡ Some held → held.stage ≡ Requested request → Calls w (spoken (command_with request.identifier (connection_request held.psm held.own)) ∷ [])
    calls own held request at is one other (inl same) gives =
        let both : Some held.own ≡ Some other = ap gives_endpoint same ∙ gives in
        let named : held.own ≡ other = cc in
        record { held = held; request = request; found = ap (λ n. held_at n w) (sym named ∙ found-has own_of own w.held held at) ∙ at; waits = is; is = sym same }
    calls own held request at is one other (inr nothing) gives = elim nothing [ ]

same_call : (w : Channels) (own : ℕ) (one other : Saying) → IsCall w own one → IsCall w own other → other ≡ one
same_call w own one other first second =
    let both : Some second.held ≡ Some first.held = sym second.found ∙ first.found in
    let held : second.held ≡ first.held = cc in
    let stages : Requested second.request ≡ Requested first.request = sym second.waits ∙ (ap (λ (h : Held). h.stage) held ∙ first.waits) in
    let request : second.request ≡ first.request = cc in
    second.is ∙ (ap (λ (r : Request). spoken (command_with r.identifier (connection_request second.held.psm second.held.own))) request
    ∙ (ap (λ (h : Held). spoken (command_with first.request.identifier (connection_request h.psm h.own))) held ∙ sym first.is))

-- one of an endpoint that was given before was said before
said_before : (policy : Policy) (past said : List Saying) (v w : Channels) (own : ℕ) (one : Saying) → Sound policy (reading past) v → Sound policy (reading (past ++ said)) w → KeepsPsm v w → KeepsDue v w → own < v.next → IsCall w own one → StandsIn one past
said_before policy past said v w own one before after psms dues less now =
    let (earlier, request, found, waits) = dues.due own less (now.held, now.request, now.found, now.waits) in
    let (kept, kept_at, psm_is) = psms.psm own now.held less now.found in
    let both : Some kept ≡ Some earlier = sym kept_at ∙ found in
    let same : kept ≡ earlier = cc in
    let earlier_own : earlier.own ≡ own = found-has own_of own v.held earlier found in
    let now_own : now.held.own ≡ own = found-has own_of own w.held now.held now.found in
    let want = subst (WantsAt (reading past).requests earlier) waits (subst (Wants (reading past).requests) found (before.kept.wants own)) in
    let asked : HasAsked request.identifier earlier.psm earlier.own past = answered-asked past Out request.identifier earlier.own _ want.0 in
    let awaits = subst (WantsAt (reading (past ++ said)).requests now.held) now.waits (subst (Wants (reading (past ++ said)).requests) now.found (after.kept.wants own)) in
    let whole : HasAsked request.identifier earlier.psm now.held.own (past ++ said) =
    subst (λ n. HasAsked request.identifier earlier.psm n (past ++ said)) (earlier_own ∙ sym now_own) (stands-left _ past said asked) in
    let identifier_is : request.identifier ≡ now.request.identifier = awaits.2 request.identifier (asked_called (past ++ said) request.identifier earlier.psm now.held.own whole) in
    subst (λ s. StandsIn s past) (sym now.is)
    (subst (λ n. HasAsked n now.held.psm now.held.own past) identifier_is
    (subst (λ n. HasAsked request.identifier n now.held.own past) (sym (ap (λ (h : Held). h.psm) same) ∙ psm_is)
    (subst (λ n. HasAsked request.identifier earlier.psm n past) (earlier_own ∙ sym now_own) asked)))

-- ---- a grant

-- a response that gives an endpoint grants a channel
grant_of : (content : Content) (own : ℕ) → is_response content ≡ true → endpoint_named content ≡ Some own → (peer : ℕ) × (status : ℕ) × (content ≡ connection_response own peer 0 status)
grant_of (reject reason rest) own is gives = cc
grant_of (connection_request psm source) own is gives = cc
grant_of (connection_response destination source answer status) own is gives = by (eqb answer 0) refl gives
  where
    by : (granted : Bool) → eqb answer 0 ≡ granted → cond granted (Some destination) None ≡ Some own → (peer : ℕ) × (given : ℕ) × (connection_response destination source answer status ≡ connection_response own peer 0 given)
    by true zero same = let named : destination ≡ own = cc in (source, status, ap (λ n. connection_response n source answer status) named ∙ ap (λ n. connection_response own source n status) (eqb-true answer 0 zero))
    by false zero same = cc
grant_of (configuration_request destination flags options) own is gives = cc
grant_of (configuration_response source flags answer options) own is gives = cc
grant_of (disconnection_request destination source) own is gives = cc
grant_of (disconnection_response destination source) own is gives = cc
grant_of (echo_request octets) own is gives = cc
grant_of (echo_response octets) own is gives = cc
grant_of (information_request kind) own is gives = cc
grant_of (information_response kind answer rest) own is gives = cc

answer_gives : (one : Read) (identifier : ℕ) (response : Option Content) (v : Channels) → IsReply response → (s : Saying) (own : ℕ) → StandsIn s (exchanged one (command_if identifier response) v) → gives_endpoint s ≡ Some own
    → (peer : ℕ) × (status : ℕ) × (s ≡ spoken (command_with identifier (connection_response own peer 0 status)))
answer_gives one identifier response v reply s own stands gives = by (can_say (option_map (λ (c : Command). c.content) (command_if identifier response)) v) response reply stands
  where
    by : (can : Bool) (r : Option Content) → IsReply r → StandsIn s (cond can (sayings.Command Into one ∷ map spoken (option_to_list (command_if identifier r))) []) → (peer : ℕ) × (status : ℕ) × (s ≡ spoken (command_with identifier (connection_response own peer 0 status)))
    by false r is none = elim none [ ]
    by true r is (inl same) = let never : None ≡ Some own = ap gives_endpoint same ∙ gives in absurd cc
    by true None is (inr none) = elim none [ ]
    by true (Some content) is (inr (inl same)) =
        let (peer, status, at) = grant_of content own is (ap gives_endpoint same ∙ gives) in
        (peer, status, sym same ∙ ap (λ (c : Content). spoken (command_with identifier c)) at)
    by true (Some content) is (inr (inr none)) = elim none [ ]

-- ---- one step

-- the response that grants a channel which comes to be
pub record IsGrant (v w : Channels) (identifier : ℕ) (response : Option Content) (own : ℕ) (one : Saying) : Type 0 where
  pub peer : ℕ
  pub made : IsMade v w own peer
  pub content : Content
  pub answer_is : response ≡ Some content
  pub is : one ≡ spoken (command_with identifier content)

-- what a step says that gives an endpoint was said before, grants a channel, or is a request that waits
abbrev pub Sources : (past : List Saying) (v : Channels) (said : List Saying) (w : Channels) (identifier : ℕ) → Option Content → Type 0
Sources past v said w identifier response = (one : Saying) (own : ℕ) → StandsIn one said → gives_endpoint one ≡ Some own → StandsIn one past ⊎ (IsGrant v w identifier response own one ⊎ IsCall w own one)

pub call_sources : (past : List Saying) (v : Channels) (said : List Saying) (w : Channels) → Calls w said → Sources past v said w 0 None
call_sources past v said w calls one own stands gives = inr (inr (calls one own stands gives))

pub asked_sources : (past : List Saying) (v w : Channels) (one : Read) (identifier : ℕ) (response : Option Content) → IsReply response → Grants v w one identifier response → Bestows past v → Calls w (asked_between v w)
    → Sources past v (exchanged one (command_if identifier response) v ++ asked_between v w) w identifier response
asked_sources past v w one identifier response reply grants bestows calls s own stands gives = by (stands-either s (exchanged one (command_if identifier response) v) (asked_between v w) stands)
  where
    by : StandsIn s (exchanged one (command_if identifier response) v) ⊎ StandsIn s (asked_between v w) → StandsIn s past ⊎ (IsGrant v w identifier response own s ⊎ IsCall w own s)
    by (inr asked) = inr (inr (calls s own asked gives))
    by (inl answered) =
        let (peer, status, is) = answer_gives one identifier response v reply s own answered gives in
        let granted : HasGranted identifier status own peer (exchanged one (command_if identifier response) v) = subst (λ x. StandsIn x (exchanged one (command_if identifier response) v)) is answered in
        let (can, answer_is, same) = grant_in one identifier response v identifier status own peer granted in
        from peer status is answer_is (grants.grant can own peer status answer_is)
      where
        from : (peer status : ℕ) → s ≡ spoken (command_with identifier (connection_response own peer 0 status)) → response ≡ Some (connection_response own peer 0 status) → IsLast v identifier (connection_response own peer 0 status) ⊎ IsMade v w own peer
            → StandsIn s past ⊎ (IsGrant v w identifier response own s ⊎ IsCall w own s)
        from peer status is answer_is (inl (it, at, named, last_is)) =
            inl (subst (λ x. StandsIn x past) (sym is) (subst (λ n. HasGranted n status own peer past) named (bestows.last it own peer status at last_is)))
        from peer status is answer_is (inr made) = inr (inl (record { peer = peer; made = made; content = connection_response own peer 0 status; answer_is = answer_is; is = is }))

-- it gives an endpoint that none gave, and nothing else that is said gives it
pub record IsFresh (v w : Channels) (said : List Saying) (own : ℕ) (one : Saying) : Type 0 where
  pub above : v.next ≤ own
  pub below : own < w.next
  pub alone : (other : Saying) → StandsIn other said → gives_endpoint other ≡ Some own → other ≡ one

-- two that give an endpoint are one, and the endpoint is below the next one
pub record Once (past : List Saying) (v : Channels) : Type 0 where
  pub sole : (one other : Saying) (own : ℕ) → StandsIn one past → StandsIn other past → gives_endpoint one ≡ Some own → gives_endpoint other ≡ Some own → one ≡ other
  pub below : (one : Saying) (own : ℕ) → StandsIn one past → gives_endpoint one ≡ Some own → own < v.next

pub record Steps (past : List Saying) (v : Channels) (said : List Saying) (w : Channels) : Type 0 where
  pub rises : v.next ≤ w.next
  pub each : (one : Saying) (own : ℕ) → StandsIn one said → gives_endpoint one ≡ Some own → StandsIn one past ⊎ IsFresh v w said own one

pub steps : (policy : Policy) (past said : List Saying) (v w : Channels) (identifier : ℕ) (response : Option Content) → Sources past v said w identifier response → KeepsPsm v w → KeepsDue v w
    → Sound policy (reading past) v → Sound policy (reading (past ++ said)) w → Once past v → Steps past v said w
steps policy past said v w identifier response sources psms dues before after once = record { rises = psms.next_is; each = each }
  where
    -- a channel that is only asked for is not there
    apart : (own : ℕ) (one other : Saying) → IsGrant v w identifier response own one → IsCall w own other → ⊥
    apart own one other grant waiting =
        let both : Some grant.made.held ≡ Some waiting.held = sym grant.made.found ∙ waiting.found in
        let held : grant.made.held ≡ waiting.held = cc in
        let never : Connected grant.peer no_setup ≡ Requested waiting.request = sym grant.made.stage_is ∙ (ap (λ (h : Held). h.stage) held ∙ waiting.waits) in absurd cc

    under : (own : ℕ) (held : Held) → held_at own w ≡ Some held → own < w.next
    under own held found = by (nat_lt own w.next) refl
      where
        by : (less : Bool) → nat_lt own w.next ≡ less → own < w.next
        by true is = ltb-true own w.next is
        by false is = let never : None ≡ Some held = sym (after.core.held_below own (ltb-false own w.next is)) ∙ found in absurd cc

    granted : (one : Saying) (own : ℕ) → IsGrant v w identifier response own one → IsFresh v w said own one
    granted one own grant = let own_is = grant.made.own_is in record { above = omega (arith, own_is); below = under own grant.made.held grant.made.found; alone = λ other stands gives. by other gives (sources other own stands gives) }
      where
        by : (other : Saying) → gives_endpoint other ≡ Some own → StandsIn other past ⊎ (IsGrant v w identifier response own other ⊎ IsCall w own other) → other ≡ one
        by other gives (inl old) = let less = once.below other own old gives in let own_is = grant.made.own_is in absurd (omega (arith, own_is, less))
        by other gives (inr (inl again)) =
            let both : Some again.content ≡ Some grant.content = sym again.answer_is ∙ grant.answer_is in
            let same : again.content ≡ grant.content = cc in again.is ∙ (ap (λ (c : Content). spoken (command_with identifier c)) same ∙ sym grant.is)
        by other gives (inr (inr waiting)) = absurd (apart own one other grant waiting)

    waits : (one : Saying) (own : ℕ) → v.next ≤ own → IsCall w own one → IsFresh v w said own one
    waits one own above now = record { above = above; below = under own now.held now.found; alone = λ other stands gives. by other gives (sources other own stands gives) }
      where
        by : (other : Saying) → gives_endpoint other ≡ Some own → StandsIn other past ⊎ (IsGrant v w identifier response own other ⊎ IsCall w own other) → other ≡ one
        by other gives (inl old) = let less = once.below other own old gives in absurd (omega (arith, above, less))
        by other gives (inr (inl grant)) = absurd (apart own other one grant now)
        by other gives (inr (inr again)) = same_call w own one other now again

    each : (one : Saying) (own : ℕ) → StandsIn one said → gives_endpoint one ≡ Some own → StandsIn one past ⊎ IsFresh v w said own one
    each one own stands gives = by (sources one own stands gives)
      where
        at : IsCall w own one → (less : Bool) → nat_lt own v.next ≡ less → StandsIn one past ⊎ IsFresh v w said own one
        at now true is = inl (said_before policy past said v w own one before after psms dues (ltb-true own v.next is) now)
        at now false is = inr (waits one own (ltb-false own v.next is) now)

        by : StandsIn one past ⊎ (IsGrant v w identifier response own one ⊎ IsCall w own one) → StandsIn one past ⊎ IsFresh v w said own one
        by (inl old) = inl old
        by (inr (inl grant)) = inr (granted one own grant)
        by (inr (inr now)) = at now (nat_lt own v.next) refl

-- ---- what it keeps

pub once_first : (v : Channels) → Once [] v
once_first v = record { sole = λ one other own stands. elim stands [ ]; below = λ one own stands. elim stands [ ] }

pub once_more : (past said : List Saying) (v w : Channels) → Steps past v said w → Once past v → Once (past ++ said) w
once_more past said v w step once = record { sole = sole; below = below }
  where
    sort : (one : Saying) (own : ℕ) → StandsIn one (past ++ said) → gives_endpoint one ≡ Some own → StandsIn one past ⊎ (StandsIn one said × IsFresh v w said own one)
    sort one own stands gives = by (stands-either one past said stands)
      where
        new : StandsIn one said → StandsIn one past ⊎ IsFresh v w said own one → StandsIn one past ⊎ (StandsIn one said × IsFresh v w said own one)
        new now (inl old) = inl old
        new now (inr fresh) = inr (now, fresh)

        by : StandsIn one past ⊎ StandsIn one said → StandsIn one past ⊎ (StandsIn one said × IsFresh v w said own one)
        by (inl old) = inl old
        by (inr now) = new now (step.each one own now gives)

    below : (one : Saying) (own : ℕ) → StandsIn one (past ++ said) → gives_endpoint one ≡ Some own → own < w.next
    below one own stands gives = by (sort one own stands gives)
      where
        by : StandsIn one past ⊎ (StandsIn one said × IsFresh v w said own one) → own < w.next
        by (inl old) = let less = once.below one own old gives in let rises = step.rises in omega (arith, less, rises)
        by (inr (now, fresh)) = fresh.below

    sole : (one other : Saying) (own : ℕ) → StandsIn one (past ++ said) → StandsIn other (past ++ said) → gives_endpoint one ≡ Some own → gives_endpoint other ≡ Some own → one ≡ other
    sole one other own first second gives too = by (sort one own first gives) (sort other own second too)
      where
        apart : (older newer : Saying) → StandsIn older past → gives_endpoint older ≡ Some own → IsFresh v w said own newer → ⊥
        apart older newer old given fresh = let less = once.below older own old given in let above = fresh.above in omega (arith, less, above)

        by : StandsIn one past ⊎ (StandsIn one said × IsFresh v w said own one) → StandsIn other past ⊎ (StandsIn other said × IsFresh v w said own other) → one ≡ other
        by (inl old) (inl older) = once.sole one other own old older gives too
        by (inl old) (inr (now, fresh)) = absurd (apart one other old gives fresh)
        by (inr (now, fresh)) (inl old) = absurd (apart other one old too fresh)
        by (inr (now, fresh)) (inr (again, also)) = also.alone one now gives
