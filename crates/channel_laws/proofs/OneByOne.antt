-- A host that asks for its next channel when no other one is only asked for asks for one after the other.
use Rattle.std.proofs.Common.{◌≡◌, ℕ, List, [], ◌∷◌, ◌++◌, map, filter, Bool, true, false, cond, eqb, ◌&&◌, ◌||◌, Option, Some, None, Ok, Err, refl, sym, ap, subst, ◌∙◌, ◌⊎◌, inl, inr, arith, append-nil}
use Rattle.std.specs.Prelude.{find, option_map, option_to_list}
use Rattle.std.specs.List.{AllByRecursion, list_any}
use Rattle.std.proofs.lemmas.Bool.{eqb-true}
use Rattle.own_channel_laws.specs.talk_laws.specs.acl_fragments.specs.Pieces.{channel_of}
use Rattle.own_channel_laws.specs.talk_laws.specs.capture.specs.Histories.{EachAfter}
use Rattle.own_channel_laws.specs.talk_laws.specs.capture.specs.declared.flow.Flow.{Flow}
use Rattle.own_channel_laws.specs.talk_laws.specs.capture.specs.declared.flow.Flow.TheVariants.{Out, Into}
use Rattle.own_channel_laws.specs.talk_laws.specs.capture.specs.Pdus.{same_flow}
use Rattle.own_channel_laws.specs.talk_laws.specs.l2cap_signal.specs.Commands.{Command, Content, reject, connection_request, connection_response, configuration_request, configuration_response, disconnection_request, disconnection_response, echo_request, echo_response, information_request, information_response}
use Rattle.own_channel_laws.specs.talk_laws.specs.l2cap_signal.specs.Reading.{Answer as Read}
use Rattle.own_channel_laws.specs.talk_laws.specs.l2cap_signal.specs.declared.refusal.SignalRefusal.TheVariants.{ZeroIdentifier, BadLength, UnknownCode, AboveMtu}
use Rattle.own_channel_laws.specs.talk_laws.specs.l2cap_config.specs.Writing.{written}
use Rattle.own_channel_laws.specs.talk_laws.specs.link_talk.specs.declared.call.Call.{Call}
use Rattle.own_channel_laws.specs.talk_laws.specs.link_talk.specs.Sayings.{Saying, Carried, GaveUp}
use Rattle.own_channel_laws.specs.talk_laws.specs.link_talk.specs.Sayings as sayings
use Rattle.own_channel_laws.specs.talk_laws.specs.link_talk.specs.Senses.{Asks, Quiet, Unread}
use Rattle.own_channel_laws.specs.talk_laws.specs.link_talk.specs.Requests.{call, went, is_own_call}
use Rattle.own_channel_laws.specs.talk_laws.specs.link_talk.specs.Channels.{reading}
use Rattle.own_channel_laws.specs.channel_model.specs.declared.errand.Errand.TheVariants as errands
use Rattle.own_channel_laws.specs.channel_model.specs.Value.{Request, Carrier, Plain, Retransmitting, Requested, Held, Channels, no_channels}
use Rattle.own_channel_laws.specs.channel_model.specs.Policies.{Policy}
use Rattle.own_channel_laws.specs.channel_model.specs.Changing.{has_own, held_at}
use Rattle.own_channel_laws.specs.channel_model.specs.Asking.{new_request, asks}
use Rattle.own_channel_laws.specs.channel_model.specs.Following.{can_say, with_channel, follows}
use Rattle.own_channel_laws.specs.channel_model.specs.Hearing.{hears_content}
use Rattle.own_channel_laws.specs.channel_model.specs.Carrying.{takes}
use Rattle.own_channel_laws.specs.channel_model.specs.Giving.{Given, Signal, Whole, Framed, next_given, on_held, connection_at}
use Rattle.own_channel_laws.specs.channel_model.specs.Timing.{times_held, times_end, times_features}
use Rattle.own_channel_laws.specs.channel_model.specs.Calls.{carrier_at, can_connect, connected, asks_features, disconnected}
use Rattle.own_channel_laws.specs.channel_model.proofs.Lookups.{own_of, Distinct, eqb-same, found-has}
use Rattle.own_channel_laws.specs.channel_model.proofs.Going.{new_held}
use Rattle.own_channel_laws.specs.channel_model.proofs.Walking.{follows-goes, command-goes}
use Rattle.own_channel_laws.specs.channel_model.proofs.Calling.{asks-features-goes, disconnected-goes, sends-goes, takes-goes, timed-held, ended-held, features-timed, given-goes}
use Rattle.own_channel_laws.specs.OwnTalk.{spoken, command_with, command_if, exchanged, asked_between}
use Rattle.own_channel_laws.specs.Runs.{Occurrence, Comes, Connects, AsksFeatures, Disconnects, Sends, Gives, Fires, Tells, features_given_up, said_again, said_on_firing, said_by_features, said_by_carrier, said_as, said_in, value_after, run_of}
use Rattle.own_channel_laws.specs.Signals.{StandsIn}
use Rattle.channel_laws.specs.Singly.{calls_that_went, names, IsAgain, IsFresh, AreOneByOne, NoneIsDue, AsksSo, CallsAreOneByOne, AsksForNoChannel, NoneIsCalled}
use Rattle.own_channel_laws.proofs.Asking.{newest-asks, asked-one}
use Rattle.own_channel_laws.proofs.Questions.{asked-none}
use Rattle.own_channel_laws.proofs.Inviting.{held_here, held_others}
use Rattle.own_channel_laws.proofs.Sound.{Wants, WantsAt, Sound}
use Rattle.own_channel_laws.proofs.Saying.{stands-right, stands-either}
use Rattle.own_channel_laws.proofs.Words.{Words, words-asked, words-again, words-left, words-firing}
use Rattle.own_channel_laws.proofs.Replying.{IsReply}
use Rattle.own_channel_laws.proofs.Converses.{IsAlike, is_single, ConversesWhile}
use Rattle.own_channel_laws.proofs.Conversing.{conversed-while}
use Rattle.channel_laws.proofs.Protocols.{KeepsPsm, follows-psm, hears-psm, takes-psm, times-psm, ends-psm, features-psm, single-psm}
use Rattle.channel_laws.proofs.Placing.{is_call, follows-next, responds-next, takes-next, times-next, timed-end-next, features-next, single-next}
use Rattle.channel_laws.proofs.Singling.{calls-more}
use Rattle.own_channel_laws.proofs.Due.{KeepsDue, same-due, apart, walks, AllWereDue, all-due, granted-due, Any, within}

-- ---- what a host says of its own accord

abbrev pub call_by : Held → Request → Call
call_by held request = record { flow = Out; identifier = request.identifier; wanted = Some (record { psm = held.psm; source = held.own }) }

-- the request of a channel that is only asked for
record IsDueCall (w : Channels) (one : Call) : Type 0 where
  held : Held
  request : Request
  found : held_at held.own w ≡ Some held
  is : held.stage ≡ Requested request
  call_is : one ≡ call_by held request

abbrev AllDueCalls : Channels → List Saying → Type 0
AllDueCalls w said = (one : Call) → StandsIn one (calls_that_went Out said) → IsDueCall w one

none_due : (w : Channels) (said : List Saying) → calls_that_went Out said ≡ [] → AllDueCalls w said
none_due w said none one stands = absurd (subst (StandsIn one) none stands)

both_due : (w : Channels) (xs ys : List Saying) → AllDueCalls w xs → AllDueCalls w ys → AllDueCalls w (xs ++ ys)
both_due w xs ys first second one stands = by (stands-either one (calls_that_went Out ys) (calls_that_went Out xs) (subst (StandsIn one) (calls-more Out xs ys) stands))
  where
    by : StandsIn one (calls_that_went Out ys) ⊎ StandsIn one (calls_that_went Out xs) → IsDueCall w one
    by (inl later) = second one later
    by (inr earlier) = first one earlier

due_words : (w : Channels) → Words w (AllDueCalls w)
due_words w = record {
  none = none_due w [] refl;
  both = both_due w;
  calls = λ own held request at is one stands. called own held request at is one stands;
  wishes = λ own peer held setup request options at has to is. none_due w (spoken (command_with request.identifier (configuration_request peer 0 (written options))) ∷ []) refl;
  ends = λ identifier peer own. none_due w (spoken (command_with identifier (disconnection_request peer own)) ∷ []) refl;
  asks = λ request is. none_due w (spoken (command_with request.identifier (information_request 2)) ∷ []) refl;
  lets_call = λ identifier own. none_due w (GaveUp (sayings.Connection identifier own) ∷ []) refl;
  lets_end = λ own peer. none_due w (GaveUp (sayings.Disconnection own peer) ∷ []) refl;
}
  where
    called : (own : ℕ) (held : Held) (request : Request) → held_at own w ≡ Some held → held.stage ≡ Requested request → (one : Call) → StandsIn one (call_by held request ∷ []) → IsDueCall w one
    called own held request at is one (inl same) = record { held = held; request = request; found = ap (λ n. held_at n w) (found-has own_of own w.held held at) ∙ at; is = is; call_is = sym same }
    called own held request at is one (inr none) = absurd none

carried_due : (w : Channels) (pdu : List ℕ) → AllDueCalls w (Carried Into pdu ∷ [])
carried_due w pdu = none_due w (Carried Into pdu ∷ []) refl

sent_none : (carrier : Option Carrier) (peer : ℕ) (sdu : List ℕ) → calls_that_went Out (said_by_carrier carrier peer sdu) ≡ []
sent_none None peer sdu = refl
sent_none (Some (Plain agreed None)) peer sdu = refl
sent_none (Some (Plain agreed (Some waiting))) peer sdu = refl
sent_none (Some (Retransmitting machine)) peer sdu = refl

given_none : (given : Option Given) (pdu : List ℕ) → calls_that_went Out (said_as given pdu) ≡ []
given_none None pdu = refl
given_none (Some (Signal command)) pdu = refl
given_none (Some (Whole peer sdu)) pdu = refl
given_none (Some (Framed peer frame)) pdu = refl

features_none : (before after : Option Request) → calls_that_went Out (features_given_up before after) ≡ []
features_none None after = refl
features_none (Some request) None = refl
features_none (Some request) (Some other) = refl

-- what went one way is no request that went the other way
pub other-way : (way other : Flow) → same_flow way other ≡ false → (one : Read) → calls_that_went way (sayings.Command other one ∷ []) ≡ []
other-way way other apart (Ok command) = by command.content other apart
  where
    by : (content : Content) (to : Flow) → same_flow way to ≡ false → calls_that_went way (sayings.Command to (Ok (command_with command.identifier content)) ∷ []) ≡ []
    by (reject reason rest) to apart = refl
    by (connection_request psm source) to apart = (let it : Call = record { flow = to; identifier = command.identifier; wanted = Some (record { psm = psm; source = source }) } in ap (λ b. cond b (it ∷ []) []) apart)
    by (connection_response destination source answer status) to apart = refl
    by (configuration_request destination flags options) to apart = refl
    by (configuration_response source flags answer options) to apart = refl
    by (disconnection_request destination source) Out apart = refl
    by (disconnection_request destination source) Into apart = refl
    by (disconnection_response destination source) Out apart = refl
    by (disconnection_response destination source) Into apart = refl
    by (echo_request octets) to apart = refl
    by (echo_response octets) to apart = refl
    by (information_request kind) to apart = refl
    by (information_response kind answer rest) to apart = refl
other-way way other apart (Err (ZeroIdentifier code identifier)) = refl
other-way way other apart (Err (BadLength code None)) = refl
other-way way other apart (Err (BadLength code (Some identifier))) = by (eqb identifier 0)
  where
    asked : (two : Bool) → (let none : Call = record { flow = other; identifier = identifier; wanted = None } in filter (went way) (option_to_list (cond two (Some none) None) ++ []) ≡ [])
    asked true = (let none : Call = record { flow = other; identifier = identifier; wanted = None } in ap (λ b. cond b (none ∷ []) []) apart)
    asked false = refl

    by : (zero : Bool) → filter (went way) (option_to_list (call (cond zero Quiet (Asks other identifier (Unread code)))) ++ []) ≡ []
    by true = refl
    by false = asked (eqb code 2)
other-way way other apart (Err (UnknownCode code identifier)) = refl
other-way way other apart (Err (AboveMtu code identifier)) = refl

reply_none : (identifier : ℕ) (response : Option Content) → IsReply response → calls_that_went Out (map spoken (option_to_list (command_if identifier response))) ≡ []
reply_none identifier None is = refl
reply_none identifier (Some (reject reason rest)) is = refl
reply_none identifier (Some (connection_request psm source)) is = cc
reply_none identifier (Some (connection_response destination source answer status)) is = refl
reply_none identifier (Some (configuration_request destination flags options)) is = refl
reply_none identifier (Some (configuration_response source flags answer options)) is = refl
reply_none identifier (Some (disconnection_request destination source)) is = refl
reply_none identifier (Some (disconnection_response destination source)) is = refl
reply_none identifier (Some (echo_request octets)) is = refl
reply_none identifier (Some (echo_response octets)) is = refl
reply_none identifier (Some (information_request kind)) is = refl
reply_none identifier (Some (information_response kind answer rest)) is = refl

answer_none : (one : Read) (identifier : ℕ) (response : Option Content) (v : Channels) → IsReply response → calls_that_went Out (exchanged one (command_if identifier response) v) ≡ []
answer_none one identifier response v reply = by (can_say (option_map (λ (c : Command). c.content) (command_if identifier response)) v)
  where
    heard : List Saying
    heard = sayings.Command Into one ∷ []

    replies : List Saying
    replies = map spoken (option_to_list (command_if identifier response))

    by : (can : Bool) → calls_that_went Out (cond can (heard ++ replies) []) ≡ []
    by true = calls-more Out heard replies ∙ (ap (λ (l : List Call). l ++ calls_that_went Out heard) (reply_none identifier response reply) ∙ other-way Out Into refl one)
    by false = refl

-- ---- what holds

-- the last request is that of the channel which is only asked for
abbrev pub HeadIs : Call → List Call → Type 0
HeadIs one [] = ⊥
HeadIs one (last ∷ before) = last ≡ one

pub record Holds (Fits : ℕ → List Call → Bool) (past : List Saying) (v : Channels) : Type 0 where
  pub calls : AreOneByOne Fits (calls_that_went Out past)
  pub head : (own : ℕ) (held : Held) (request : Request) → held_at own v ≡ Some held → held.stage ≡ Requested request → HeadIs (call_by held request) (calls_that_went Out past)

any_filtered : (keeps p : Call → Bool) (xs : List Call) → list_any p (filter keeps xs) ≡ true → list_any p xs ≡ true
any_filtered keeps p [] is = is
any_filtered keeps p (x ∷ xs) is = by (keeps x) is (any_filtered keeps p xs)
  where
    or_right : (a b : Bool) → b ≡ true → (a || b) ≡ true
    or_right true b now = refl
    or_right false b now = now

    both : (a : Bool) → (a || list_any p (filter keeps xs)) ≡ true → (list_any p (filter keeps xs) ≡ true → list_any p xs ≡ true) → (a || list_any p xs) ≡ true
    both true now later = refl
    both false now later = later now

    by : (kept : Bool) → list_any p (cond kept (x ∷ filter keeps xs) (filter keeps xs)) ≡ true → (list_any p (filter keeps xs) ≡ true → list_any p xs ≡ true) → (p x || list_any p xs) ≡ true
    by true now later = both (p x) now later
    by false now later = or_right (p x) (list_any p xs) (later now)

-- its own request is the only one for its endpoint
same_identifier : (policy : Policy) (past : List Saying) (w : Channels) (own identifier psm : ℕ) (held : Held) (request : Request) → Sound policy (reading past) w → held_at own w ≡ Some held → held.stage ≡ Requested request → held.own ≡ own
    → (let one : Call = record { flow = Out; identifier = identifier; wanted = Some (record { psm = psm; source = own }) } in StandsIn one (calls_that_went Out past)) → identifier ≡ request.identifier
same_identifier policy past w own identifier psm held request sound at is own_is stands =
    let want : WantsAt (reading past).requests held held.stage = subst (Wants (reading past).requests) at (sound.kept.wants own) in
    let awaits = subst (WantsAt (reading past).requests held) is want in
    awaits.2 identifier (any_filtered (went Out) (is_own_call identifier held.own) (reading past).requests.calls (any (calls_that_went Out past) stands))
  where
    or_left : (a b : Bool) → a ≡ true → (a || b) ≡ true
    or_left true b now = refl
    or_left false b now = cc

    or_right : (a b : Bool) → b ≡ true → (a || b) ≡ true
    or_right true b now = refl
    or_right false b now = now

    it : Call
    it = record { flow = Out; identifier = identifier; wanted = Some (record { psm = psm; source = own }) }

    fits : is_own_call identifier held.own it ≡ true
    fits = ap (λ b. b && eqb own held.own) (eqb-same identifier) ∙ (ap (λ n. eqb own n) own_is ∙ eqb-same own)

    any : (calls : List Call) → StandsIn it calls → list_any (is_own_call identifier held.own) calls ≡ true
    any [] here = absurd here
    any (one ∷ calls) (inl same) = or_left (is_own_call identifier held.own one) (list_any (is_own_call identifier held.own) calls) (ap (is_own_call identifier held.own) same ∙ fits)
    any (one ∷ calls) (inr later) = or_right (is_own_call identifier held.own one) (list_any (is_own_call identifier held.own) calls) (any calls later)

-- so it stays the same
same_call : (policy : Policy) (past said : List Saying) (v w : Channels) (own : ℕ) (held : Held) (request : Request) → Sound policy (reading past) v → Sound policy (reading (past ++ said)) w → KeepsPsm v w → AllWereDue v w
    → ((n : ℕ) (h : Held) (r : Request) → held_at n v ≡ Some h → h.stage ≡ Requested r → HeadIs (call_by h r) (calls_that_went Out past)) → held_at own w ≡ Some held → held.stage ≡ Requested request → HeadIs (call_by held request) (calls_that_went Out past)
same_call policy past said v w own held request before sound keeps due head at is =
    let (earlier, asked, found, was) = due own (held, request, at, is) in
    let (kept, kept_at, psm_is) = keeps.psm own held (within v own before.core.held_below (earlier, asked, found, was)) at in
    let both : Some kept ≡ Some earlier = sym kept_at ∙ found in
    let same : kept ≡ earlier = cc in
    let earlier_own : earlier.own ≡ own = found-has own_of own v.held earlier found in
    let held_own : held.own ≡ own = found-has own_of own w.held held at in
    of earlier asked (head own earlier asked found was) earlier_own held_own (sym (ap (λ (h : Held). h.psm) same) ∙ psm_is)
  where
    of : (earlier : Held) (asked : Request) → HeadIs (call_by earlier asked) (calls_that_went Out past) → earlier.own ≡ own → held.own ≡ own → earlier.psm ≡ held.psm → HeadIs (call_by held request) (calls_that_went Out past)
    of earlier asked is_head earlier_own held_own psm_is = by (calls_that_went Out past) refl is_head
      where
        by : (calls : List Call) → calls_that_went Out past ≡ calls → HeadIs (call_by earlier asked) calls → HeadIs (call_by held request) calls
        by [] all none = none
        by (last ∷ calls) all same =
            let first : call_by earlier asked ≡ (let it : Call = record { flow = Out; identifier = asked.identifier; wanted = Some (record { psm = earlier.psm; source = own }) } in it) =
            ap (λ n. let it : Call = record { flow = Out; identifier = asked.identifier; wanted = Some (record { psm = earlier.psm; source = n }) } in it) earlier_own in
            let stands : StandsIn (let it : Call = record { flow = Out; identifier = asked.identifier; wanted = Some (record { psm = earlier.psm; source = own }) } in it) (calls_that_went Out (past ++ said)) =
            subst (StandsIn (let it : Call = record { flow = Out; identifier = asked.identifier; wanted = Some (record { psm = earlier.psm; source = own }) } in it)) (sym (calls-more Out past said))
            (stands-right _ (calls_that_went Out said) (calls_that_went Out past) (subst (StandsIn (let it : Call = record { flow = Out; identifier = asked.identifier; wanted = Some (record { psm = earlier.psm; source = own }) } in it)) (sym all) (inl (same ∙ first)))) in
            let one : asked.identifier ≡ request.identifier = same_identifier policy (past ++ said) w own asked.identifier earlier.psm held request sound at is held_own stands in
            same ∙ (ap (λ n. let it : Call = record { flow = Out; identifier = n; wanted = Some (record { psm = earlier.psm; source = earlier.own }) } in it) one
            ∙ (ap (λ n. let it : Call = record { flow = Out; identifier = request.identifier; wanted = Some (record { psm = n; source = earlier.own }) } in it) psm_is
            ∙ ap (λ n. let it : Call = record { flow = Out; identifier = request.identifier; wanted = Some (record { psm = held.psm; source = n }) } in it) (earlier_own ∙ sym held_own)))

-- requests that are the last one again
again_more : (Fits : ℕ → List Call → Bool) (new : List Call) (last : Call) (before : List Call) → ((one : Call) → StandsIn one new → one ≡ last) → AreOneByOne Fits (last ∷ before) → AreOneByOne Fits (new ++ last ∷ before) × HeadIs last (new ++ last ∷ before)
again_more Fits [] last before all calls = (calls, refl)
again_more Fits (one ∷ new) last before all calls =
    let (later, head) = again_more Fits new last before (λ other stands. all other (inr stands)) calls in
    ((inl (by (new ++ last ∷ before) head), later), all one (inl refl))
  where
    by : (list : List Call) → HeadIs last list → IsAgain one list
    by [] head = absurd head
    by (x ∷ list) head = all one (inl refl) ∙ sym head

-- the same of a list of requests
abbrev HoldsOf : (Fits : ℕ → List Call → Bool) → Channels → List Call → Type 0
HoldsOf Fits w calls = AreOneByOne Fits calls × ((own : ℕ) (held : Held) (request : Request) → held_at own w ≡ Some held → held.stage ≡ Requested request → HeadIs (call_by held request) calls)

quiet_step : (Fits : ℕ → List Call → Bool) (policy : Policy) (past said : List Saying) (v w : Channels) → AllDueCalls w said → KeepsPsm v w → AllWereDue v w → Sound policy (reading past) v → Holds Fits past v → Sound policy (reading (past ++ said)) w → Holds Fits (past ++ said) w
quiet_step Fits policy past said v w new keeps due before holds sound =
    let (calls, heads) = by (calls_that_went Out past) refl in
    record { calls = subst (AreOneByOne Fits) (sym (calls-more Out past said)) calls; head = λ own held request at is. subst (HeadIs (call_by held request)) (sym (calls-more Out past said)) (heads own held request at is) }
  where
    head_is : (own : ℕ) (held : Held) (request : Request) → held_at own w ≡ Some held → held.stage ≡ Requested request → HeadIs (call_by held request) (calls_that_went Out past)
    head_is own held request at is = same_call policy past said v w own held request before sound keeps due holds.head at is

    head_of : (one : Call) → StandsIn one (calls_that_went Out said) → HeadIs one (calls_that_went Out past)
    head_of one stands = let it = new one stands in subst (λ c. HeadIs c (calls_that_went Out past)) (sym it.call_is) (head_is it.held.own it.held it.request it.found it.is)

    to_head : (one last : Call) (list : List Call) → last ≡ one → HeadIs last list → HeadIs one list
    to_head one last [] same head = head
    to_head one last (x ∷ list) same head = head ∙ same

    by : (list : List Call) → calls_that_went Out past ≡ list → HoldsOf Fits w (calls_that_went Out said ++ list)
    by [] is =
        let none : calls_that_went Out said ≡ [] = no_calls (calls_that_went Out said) (λ one stands. subst (HeadIs one) is (head_of one stands)) in
        (subst (λ (l : List Call). AreOneByOne Fits (l ++ [])) (sym none) tt, λ own held request at due. absurd (subst (HeadIs (call_by held request)) is (head_is own held request at due)))
      where
        no_calls : (list : List Call) → ((one : Call) → StandsIn one list → ⊥) → list ≡ []
        no_calls [] never = refl
        no_calls (one ∷ list) never = absurd (never one (inl refl))
    by (last ∷ list) is =
        let (calls, head) = again_more Fits (calls_that_went Out said) last list (λ one stands. sym (subst (HeadIs one) is (head_of one stands))) (subst (AreOneByOne Fits) is holds.calls) in
        (calls, λ own held request at due. to_head (call_by held request) last (calls_that_went Out said ++ last ∷ list) (subst (HeadIs (call_by held request)) is (head_is own held request at due)) head)

-- ---- a channel is asked for

unused_calls : (own : ℕ) (xs : List Call) → ((identifier : ℕ) → list_any (is_own_call identifier own) xs ≡ false) → list_any (names own) (filter (went Out) xs) ≡ false
unused_calls own [] none = refl
unused_calls own (x ∷ xs) none = by (went Out x) refl (unused_calls own xs (λ identifier. off (is_own_call identifier own x) (list_any (is_own_call identifier own) xs) (none identifier)))
  where
    off : (a b : Bool) → (a || b) ≡ false → b ≡ false
    off true b is = cc
    off false b is = is

    first : (a b : Bool) → (a || b) ≡ false → a ≡ false
    first true b is = cc
    first false b is = refl

    unnamed : went Out x ≡ true → names own x ≡ false
    unnamed out =
        let here = first (is_own_call x.identifier own x) (list_any (is_own_call x.identifier own) xs) (none x.identifier) in
        sym (ap (λ b. b && (eqb x.identifier x.identifier && names own x)) out ∙ ap (λ b. b && names own x) (eqb-same x.identifier)) ∙ here

    by : (out : Bool) → went Out x ≡ out → list_any (names own) (filter (went Out) xs) ≡ false → list_any (names own) (cond out (x ∷ filter (went Out) xs) (filter (went Out) xs)) ≡ false
    by true out later = ap (λ b. b || list_any (names own) (filter (went Out) xs)) (unnamed out) ∙ later
    by false out later = later

connects_step : (Fits : ℕ → List Call → Bool) (policy : Policy) (past : List Saying) (v : Channels) (psm : ℕ) → NoneIsDue v → Fits psm (calls_that_went Out past) ≡ true → Sound policy (reading past) v → Holds Fits past v → Holds Fits (past ++ asked_between v (connected psm v)) (connected psm v)
connects_step Fits policy past v psm lone fits sound holds = by (can_connect v)
  where
    new : Held
    new = new_held psm v.next (Requested (new_request v))

    w : Channels
    w = asks (errands.Connection v.next) (with_channel psm (Requested (new_request v)) v)

    command : Command
    command = command_with v.identifier (connection_request psm v.next)

    here : held_at v.next w ≡ Some new
    here = held_here v.held new (sound.core.held_below v.next (omega arith))

    said : asked_between v w ≡ spoken command ∷ []
    said = asked-one v w (errands.Connection v.next) command refl (newest-asks (errands.Connection v.next) (with_channel psm (Requested (new_request v)) v)) (ap (on_held (λ h. connection_at h.stage h)) here)

    calls_are : calls_that_went Out (past ++ asked_between v w) ≡ call_by new (new_request v) ∷ calls_that_went Out past
    calls_are = calls-more Out past (asked_between v w) ∙ ap (λ (s : List Saying). calls_that_went Out s ++ calls_that_went Out past) said

    fresh : IsFresh Fits (call_by new (new_request v)) (calls_that_went Out past)
    fresh = record { wanted = record { psm = psm; source = v.next }; wanted_is = refl; fits = fits; unused = unused_calls v.next (reading past).requests.calls (λ identifier. (sound.uncalled v.next (omega arith) identifier).0) }

    head : (own : ℕ) (held : Held) (request : Request) → held_at own w ≡ Some held → held.stage ≡ Requested request → call_by new (new_request v) ≡ call_by held request
    head own held request at is = of (eqb v.next own) refl
      where
        of : (same : Bool) → eqb v.next own ≡ same → call_by new (new_request v) ≡ call_by held request
        of true now =
            let both : Some new ≡ Some held = sym here ∙ (ap (λ n. held_at n w) (eqb-true v.next own now) ∙ at) in
            let one : new ≡ held = cc in
            let stages : Requested (new_request v) ≡ Requested request = ap (λ (h : Held). h.stage) one ∙ is in
            let two : new_request v ≡ request = cc in
            subst (λ (h : Held). call_by new (new_request v) ≡ call_by h request) one (ap (call_by new) two)
        of false now = absurd (lone own held request (sym (held_others v.held new own now) ∙ at) is)

    by : (can : Bool) → Holds Fits (past ++ asked_between v (cond can w v)) (cond can w v)
    by true = record {
      calls = subst (AreOneByOne Fits) (sym calls_are) (inr fresh, holds.calls);
      head = λ own held request at is. subst (HeadIs (call_by held request)) (sym calls_are) (head own held request at is);
    }
    by false =
        let none : asked_between v v ≡ [] = asked-none v v refl in
        subst (λ (s : List Saying). Holds Fits (past ++ s) v) (sym none) (subst (λ (s : List Saying). Holds Fits s v) (sym (append-nil past)) holds)

-- ---- whatever happens

abbrev pub Allows : (Fits : ℕ → List Call → Bool) → List Saying → Occurrence → Channels → Type 0
Allows Fits past (Comes pdu) v = Unit {0}
Allows Fits past (Connects psm) v = NoneIsDue v × (Fits psm (calls_that_went Out past) ≡ true)
Allows Fits past AsksFeatures v = Unit {0}
Allows Fits past (Disconnects own) v = Unit {0}
Allows Fits past (Sends own sdu) v = Unit {0}
Allows Fits past (Gives pdu) v = Unit {0}
Allows Fits past Fires v = Unit {0}
Allows Fits past Tells v = Unit {0}

pub single-due : (policy : Policy) (v : Channels) (more : Occurrence) → is_single more ≡ true → AsksForNoChannel more → Distinct own_of v.held → KeepsDue v (value_after policy more v)
single-due policy v (Comes pdu) is none lone = cc
single-due policy v (Connects psm) is none lone = absurd none
single-due policy v AsksFeatures is none lone = asks-features-goes policy Any KeepsDue (walks policy) v
single-due policy v (Disconnects own) is none lone = disconnected-goes policy Any KeepsDue (walks policy) own v
single-due policy v (Sends own sdu) is none lone = sends-goes policy Any KeepsDue (walks policy) own sdu v (λ machine. tt)
single-due policy v (Gives pdu) is none lone = given-goes policy Any KeepsDue (walks policy) v (λ carrier. tt) lone
single-due policy v Fires is none lone = cc
single-due policy v Tells is none lone = same-due v (value_after policy Tells v) refl refl

single_said : (policy : Policy) (v : Channels) (more : Occurrence) → is_single more ≡ true → AllDueCalls (value_after policy more v) (said_in policy more v)
single_said policy v (Comes pdu) is = cc
single_said policy v (Connects psm) is = let w = connected psm v in words-asked w (AllDueCalls w) (due_words w) v
single_said policy v AsksFeatures is = let w = asks_features v in words-asked w (AllDueCalls w) (due_words w) v
single_said policy v (Disconnects own) is = let w = disconnected own v in words-left w (AllDueCalls w) (due_words w) own v
single_said policy v (Sends own sdu) is = none_due (value_after policy (Sends own sdu) v) (said_in policy (Sends own sdu) v) (sent_none (carrier_at own v) _ sdu)
single_said policy v (Gives pdu) is = none_due (value_after policy (Gives pdu) v) (said_in policy (Gives pdu) v) (given_none (next_given v) pdu)
single_said policy v Fires is = cc
single_said policy v Tells is = none_due (value_after policy Tells v) [] refl

other_step : (Fits : ℕ → List Call → Bool) (policy : Policy) (past : List Saying) (v : Channels) (more : Occurrence) → is_single more ≡ true → AsksForNoChannel more → Sound policy (reading past) v → Holds Fits past v
    → Sound policy (reading (past ++ said_in policy more v)) (value_after policy more v) → Holds Fits (past ++ said_in policy more v) (value_after policy more v)
other_step Fits policy past v more is none sound holds after =
    quiet_step Fits policy past (said_in policy more v) v (value_after policy more v) (single_said policy v more is) (single-psm policy v more is sound.core.lone)
    (all-due policy (past ++ said_in policy more v) v (value_after policy more v) after (single-due policy v more is none sound.core.lone) (single-next policy more v is none)) sound holds after

single_step : (Fits : ℕ → List Call → Bool) (policy : Policy) (past : List Saying) (v : Channels) (more : Occurrence) → is_single more ≡ true → Allows Fits past more v → Sound policy (reading past) v → Holds Fits past v
    → Sound policy (reading (past ++ said_in policy more v)) (value_after policy more v) → Holds Fits (past ++ said_in policy more v) (value_after policy more v)
single_step Fits policy past v (Comes pdu) is allowed sound holds after = cc
single_step Fits policy past v (Connects psm) is allowed sound holds after = connects_step Fits policy past v psm allowed.0 allowed.1 sound holds
single_step Fits policy past v AsksFeatures is allowed sound holds after = other_step Fits policy past v AsksFeatures refl tt sound holds after
single_step Fits policy past v (Disconnects own) is allowed sound holds after = other_step Fits policy past v (Disconnects own) refl tt sound holds after
single_step Fits policy past v (Sends own sdu) is allowed sound holds after = other_step Fits policy past v (Sends own sdu) refl tt sound holds after
single_step Fits policy past v (Gives pdu) is allowed sound holds after = other_step Fits policy past v (Gives pdu) refl tt sound holds after
single_step Fits policy past v Fires is allowed sound holds after = cc
single_step Fits policy past v Tells is allowed sound holds after = other_step Fits policy past v Tells refl tt sound holds after

pub asked-due : (policy : Policy) (past : List Saying) (v u : Channels) (content : Content) → IsAlike v u → Sound policy (reading past) v → (after : List Saying) → Sound policy (reading after) (follows policy content u) → AllWereDue v (follows policy content u)
asked-due policy past v u content alike sound after sound_after = by (is_call content) refl
  where
    none : find (has_own u.next) u.held ≡ None
    none = ap (find (has_own u.next)) alike.held_is ∙ (ap (λ n. find (has_own n) v.held) alike.next_is ∙ sound.core.held_below v.next (omega arith))

    keeps : KeepsDue v (follows policy content u)
    keeps = (walks policy).both v u (follows policy content u) (same-due v u alike.held_is alike.next_is) (follows-goes policy Any KeepsDue (walks policy) content u)

    called : (c : Content) → is_call c ≡ true → AllWereDue v (follows policy c u)
    called (reject reason rest) is = cc
    called (connection_request psm source) is = granted-due policy v u psm source alike none
    called (connection_response destination source answer status) is = cc
    called (configuration_request destination flags options) is = cc
    called (configuration_response source flags answer options) is = cc
    called (disconnection_request destination source) is = cc
    called (disconnection_response destination source) is = cc
    called (echo_request octets) is = cc
    called (echo_response octets) is = cc
    called (information_request kind) is = cc
    called (information_response kind answer rest) is = cc

    by : (asks : Bool) → is_call content ≡ asks → AllWereDue v (follows policy content u)
    by true is = called content is
    by false is = all-due policy after v (follows policy content u) sound_after keeps (follows-next policy content u is ∙ alike.next_is)

pub one_by_one : (Fits : ℕ → List Call → Bool) (policy : Policy) → ConversesWhile policy (Allows Fits) (λ v. Unit {0}) (Holds Fits)
one_by_one Fits policy = record {
  first = tt;
  kept = λ v more lone known. tt;
  asked = λ past v u one identifier response content asking reply alike waits grants sound holds after.
      let w : Channels = follows policy content u in
      let said : List Saying = exchanged one (command_if identifier response) v ++ asked_between v w in
      quiet_step Fits policy past said v w (both_due w (exchanged one (command_if identifier response) v) (asked_between v w) (none_due w (exchanged one (command_if identifier response) v) (answer_none one identifier response v reply)) (words-asked w (AllDueCalls w) (due_words w) v))
      (follows-psm policy v u content alike) (asked-due policy past v u content alike sound (past ++ said) after) sound holds after;
  answered = λ past v identifier content is same sound holds after.
      let w : Channels = hears_content policy identifier content v in
      let one : Read = Ok (command_with identifier content) in
      let said : List Saying = exchanged one None v ++ asked_between v w in
      quiet_step Fits policy past said v w (both_due w (exchanged one None v) (asked_between v w) (none_due w (exchanged one None v) (answer_none one identifier None v tt)) (words-asked w (AllDueCalls w) (due_words w) v))
      (hears-psm policy identifier content v) (all-due policy (past ++ said) v w after (command-goes policy Any KeepsDue (walks policy) one v) (responds-next policy identifier content v is)) sound holds after;
  taken = λ past v pdu known same sound holds after.
      let w : Channels = takes (channel_of pdu) pdu v in
      let said : List Saying = Carried Into pdu ∷ asked_between v w in
      quiet_step Fits policy past said v w (both_due w (Carried Into pdu ∷ []) (asked_between v w) (carried_due w pdu) (words-asked w (AllDueCalls w) (due_words w) v)) (takes-psm policy (channel_of pdu) pdu v)
      (all-due policy (past ++ said) v w after (takes-goes policy Any KeepsDue (walks policy) (channel_of pdu) pdu v (λ machine open'. tt)) (takes-next (channel_of pdu) pdu v)) sound holds after;
  waits = λ past v tries own same sound holds after.
      let w : Channels = times_held (held_at own v) tries v in
      quiet_step Fits policy past (said_on_firing own v w) v w (words-firing w (AllDueCalls w) (due_words w) own v) (times-psm policy tries own v)
      (all-due policy (past ++ said_on_firing own v w) v w after (timed-held policy Any KeepsDue (walks policy) v tries own (held_at own v) (λ machine open'. tt) refl) (times-next (held_at own v) tries v)) sound holds after;
  ends = λ past v tries own same sound holds after.
      let w : Channels = times_end (held_at own v) tries v in
      quiet_step Fits policy past (said_on_firing own v w) v w (words-firing w (AllDueCalls w) (due_words w) own v) (ends-psm policy tries own v)
      (all-due policy (past ++ said_on_firing own v w) v w after (ended-held policy Any KeepsDue (walks policy) v tries own (held_at own v) refl) (timed-end-next (held_at own v) tries v)) sound holds after;
  loses = λ past v tries same sound holds after.
      let w : Channels = times_features v.features tries v in
      quiet_step Fits policy past (said_by_features tries v) v w
      (both_due w (said_again errands.Features v w) (features_given_up v.features w.features) (words-again w (AllDueCalls w) (due_words w) errands.Features v) (none_due w (features_given_up v.features w.features) (features_none v.features w.features))) (features-psm policy tries v)
      (all-due policy (past ++ said_by_features tries v) v w after (features-timed policy Any KeepsDue (walks policy) tries v.features v) (features-next v.features tries v)) sound holds after;
  single = λ past v more is allowed known same sound holds after. single_step Fits policy past v more is allowed sound holds after;
}

pub first_holds : (Fits : ℕ → List Call → Bool) → Holds Fits [] no_channels
first_holds Fits = record { calls = tt; head = λ own held request at is. cc }

pub each_allowed : (policy : Policy) (Fits : ℕ → List Call → Bool) (past list : List Occurrence) → EachAfter (λ front one. AsksSo Fits one (run_of policy front)) past list → EachAfter (λ front one. Allows Fits (run_of policy front).said one (run_of policy front).value) past list
each_allowed policy Fits past [] each = tt
each_allowed policy Fits past (more ∷ list) (now, later) = (by more now, each_allowed policy Fits (past ++ more ∷ []) list later)
  where
    by : (one : Occurrence) → AsksSo Fits one (run_of policy past) → Allows Fits (run_of policy past).said one (run_of policy past).value
    by (Comes pdu) so = tt
    by (Connects psm) so = so
    by AsksFeatures so = tt
    by (Disconnects own) so = tt
    by (Sends own sdu) so = tt
    by (Gives pdu) so = tt
    by Fires so = tt
    by Tells so = tt

pub calls-are_one_by_one : CallsAreOneByOne
calls-are_one_by_one policy Fits list each =
    (conversed-while policy (Allows Fits) (λ v. Unit {0}) (Holds Fits) (one_by_one Fits policy) (first_holds Fits) list (each_allowed policy Fits [] list each)).calls

-- ---- where none is asked for

abbrev pub Never : ℕ → List Call → Bool
Never psm before = false

pub each_none : (policy : Policy) (past list : List Occurrence) → AllByRecursion AsksForNoChannel list → EachAfter (λ front one. AsksSo Never one (run_of policy front)) past list
each_none policy past [] none = tt
each_none policy past (more ∷ list) (now, later) = (by more now, each_none policy (past ++ more ∷ []) list later)
  where
    by : (one : Occurrence) → AsksForNoChannel one → AsksSo Never one (run_of policy past)
    by (Comes pdu) so = tt
    by (Connects psm) so = absurd so
    by AsksFeatures so = tt
    by (Disconnects own) so = tt
    by (Sends own sdu) so = tt
    by (Gives pdu) so = tt
    by Fires so = tt
    by Tells so = tt

pub never-called : (calls : List Call) → AreOneByOne Never calls → calls ≡ []
never-called [] all = refl
never-called (one ∷ before) (inl again, later) = absurd (subst (IsAgain one) (never-called before later) again)
never-called (one ∷ before) (inr fresh, later) = let never = fresh.fits in cc

pub none-is_called : NoneIsCalled
none-is_called policy list none = never-called (calls_that_went Out (run_of policy list).said) (calls-are_one_by_one policy Never list (each_none policy [] list none))
