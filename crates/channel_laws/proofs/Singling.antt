-- A peer that asks for one channel after the other is granted one endpoint for each of its own.
use Rattle.std.proofs.Common.{◌≡◌, ℕ, List, [], ◌∷◌, ◌++◌, map, filter, fold, Bool, true, false, cond, eqb, ◌||◌, Option, Some, None, Ok, refl, sym, ap, subst, ◌∙◌, ◌⊎◌, inl, inr, append_assoc, append-nil}
use Rattle.std.specs.Prelude.{option_map, option_to_list}
use Rattle.std.specs.List.{list_any}
use Rattle.std.proofs.lemmas.List.Elements.{filter-append}
use Rattle.std.proofs.lemmas.List.Folds.{list_any-append}
use Rattle.own_channel_laws.specs.talk_laws.specs.acl_fragments.specs.Pieces.{channel_of}
use Rattle.own_channel_laws.specs.talk_laws.specs.capture.specs.declared.flow.Flow.{Flow}
use Rattle.own_channel_laws.specs.talk_laws.specs.capture.specs.declared.flow.Flow.TheVariants.{Out, Into}
use Rattle.own_channel_laws.specs.talk_laws.specs.l2cap_signal.specs.Commands.{Command, Content, code_of, reject, connection_request, connection_response, configuration_request, configuration_response, disconnection_request, disconnection_response, echo_request, echo_response, information_request, information_response}
use Rattle.own_channel_laws.specs.talk_laws.specs.l2cap_signal.specs.Reading.{Answer as Read}
use Rattle.own_channel_laws.specs.talk_laws.specs.l2cap_config.specs.Writing.{written}
use Rattle.own_channel_laws.specs.talk_laws.specs.link_talk.specs.declared.call.Call.{Call}
use Rattle.own_channel_laws.specs.talk_laws.specs.link_talk.specs.declared.call.Wanted.{Wanted}
use Rattle.own_channel_laws.specs.talk_laws.specs.link_talk.specs.Sayings.{Saying, Carried}
use Rattle.own_channel_laws.specs.talk_laws.specs.link_talk.specs.Sayings as sayings
use Rattle.own_channel_laws.specs.talk_laws.specs.link_talk.specs.Senses.{sense}
use Rattle.own_channel_laws.specs.talk_laws.specs.link_talk.specs.Requests.{call, went}
use Rattle.own_channel_laws.specs.talk_laws.specs.link_talk.specs.Channels.{Reading, nothing_read, read_on, reading}
use Rattle.own_channel_laws.specs.channel_model.specs.declared.errand.Errand.TheVariants as errands
use Rattle.own_channel_laws.specs.channel_model.specs.Value.{Request, Carrier, Plain, Retransmitting, Remembered, Channels}
use Rattle.own_channel_laws.specs.channel_model.specs.Policies.{Policy}
use Rattle.own_channel_laws.specs.channel_model.specs.Changing.{held_at}
use Rattle.own_channel_laws.specs.channel_model.specs.Following.{can_say, follows}
use Rattle.own_channel_laws.specs.channel_model.specs.Hearing.{hears_content}
use Rattle.own_channel_laws.specs.channel_model.specs.Carrying.{takes}
use Rattle.own_channel_laws.specs.channel_model.specs.Giving.{Given, Signal, Whole, Framed, next_given}
use Rattle.own_channel_laws.specs.channel_model.specs.Timing.{times_held, times_end, times_features}
use Rattle.own_channel_laws.specs.channel_model.specs.Calls.{carrier_at, connected, asks_features, disconnected}
use Rattle.own_channel_laws.specs.channel_model.proofs.Lookups.{eqb-same}
use Rattle.own_channel_laws.specs.OwnTalk.{spoken, command_with, command_if, exchanged, asked_between}
use Rattle.own_channel_laws.specs.Runs.{Occurrence, Comes, Connects, AsksFeatures, Disconnects, Sends, Gives, Fires, Tells, features_given_up, said_again, said_on_firing, said_by_features, said_by_carrier, said_as, said_in}
use Rattle.channel_laws.specs.Belonging.{HasGranted}
use Rattle.channel_laws.specs.Singly.{calls_that_went, names, IsAgain, IsFresh, AreOneByOne, GrantsAreSingle}
use Rattle.own_channel_laws.proofs.Sound.{CallsKept, Sound}
use Rattle.own_channel_laws.proofs.Saying.{stands-either}
use Rattle.own_channel_laws.proofs.Replying.{is_response}
use Rattle.own_channel_laws.proofs.Words.{Words, words-asked, words-again, words-left, words-firing}
use Rattle.own_channel_laws.proofs.Converses.{is_single, IsLast, IsAnew, Grants, ConversesKnowing}
use Rattle.own_channel_laws.proofs.Conversing.{conversed-knowing, reading-on}
use Rattle.channel_laws.proofs.Bestowing.{Bestows, response_in, grant_in, converses, first-bestows}

-- ---- requests, one list behind the other

calls_from : (said : List Saying) (r : Reading) → (fold read_on r said).requests.calls ≡ (reading said).requests.calls ++ r.requests.calls
calls_from [] r = refl
calls_from (s ∷ said) r =
    let new = option_to_list (call (sense s)) in
    calls_from said (read_on r s)
    ∙ (sym (append_assoc (reading said).requests.calls new r.requests.calls)
    ∙ ap (λ (l : List Call). l ++ r.requests.calls) (sym (calls_from said (read_on nothing_read s) ∙ ap (λ (l : List Call). (reading said).requests.calls ++ l) (append-nil new))))

pub calls-more : (flow : Flow) (past said : List Saying) → calls_that_went flow (past ++ said) ≡ calls_that_went flow said ++ calls_that_went flow past
calls-more flow past said =
    ap (λ (r : Reading). filter (went flow) r.requests.calls) (reading-on past said)
    ∙ (ap (filter (went flow)) (calls_from said (reading past)) ∙ filter-append (went flow) (reading said).requests.calls (reading past).requests.calls)

-- ---- what a host says of its own accord

-- it asks for nothing of what its peer asks for, and grants nothing
record IsOwn (said : List Saying) : Type 0 where
  no_calls : calls_that_went Into said ≡ []
  no_grants : (identifier status own peer : ℕ) → ¬ HasGranted identifier status own peer said

own_none : IsOwn []
own_none = record { no_calls = refl; no_grants = λ identifier status own peer is. is }

own_both : (xs ys : List Saying) → IsOwn xs → IsOwn ys → IsOwn (xs ++ ys)
own_both xs ys one other = record {
  no_calls = calls-more Into xs ys ∙ (ap (λ (l : List Call). l ++ calls_that_went Into xs) other.no_calls ∙ one.no_calls);
  no_grants = λ identifier status own peer is. by identifier status own peer (stands-either _ xs ys is);
}
  where
    by : (identifier status own peer : ℕ) → HasGranted identifier status own peer xs ⊎ HasGranted identifier status own peer ys → ⊥
    by identifier status own peer (inl left) = one.no_grants identifier status own peer left
    by identifier status own peer (inr right) = other.no_grants identifier status own peer right

own_other : (s : Saying) → calls_that_went Into (s ∷ []) ≡ [] → ((identifier status own peer : ℕ) → s ≡ spoken (command_with identifier (connection_response own peer 0 status)) → ⊥) → IsOwn (s ∷ [])
own_other s none no_grant = record { no_calls = none; no_grants = by }
  where
    by : (identifier status own peer : ℕ) → HasGranted identifier status own peer (s ∷ []) → ⊥
    by identifier status own peer (inl same) = no_grant identifier status own peer same
    by identifier status own peer (inr nothing) = nothing

other_code : (a b : Command) → spoken a ≡ spoken b → code_of a.content ≡ code_of b.content
other_code a b same = let whole : a ≡ b = cc in ap (λ (c : Command). code_of c.content) whole

own_command : (c : Command) → calls_that_went Into (spoken c ∷ []) ≡ [] → eqb (code_of c.content) 0x03 ≡ false → IsOwn (spoken c ∷ [])
own_command c none apart = own_other (spoken c) none
    (λ identifier status own peer same. let never : true ≡ false = sym (ap (λ n. eqb n 0x03) (other_code c (command_with identifier (connection_response own peer 0 status)) same)) ∙ apart in absurd cc)

own_words : (w : Channels) → Words w IsOwn
own_words w = record {
  none = own_none;
  both = own_both;
  calls = λ own held request at is. own_command (command_with request.identifier (connection_request held.psm held.own)) refl refl;
  wishes = λ own peer held setup request options at has to is. own_command (command_with request.identifier (configuration_request peer 0 (written options))) refl refl;
  ends = λ identifier peer own. own_command (command_with identifier (disconnection_request peer own)) refl refl;
  asks = λ request is. own_command (command_with request.identifier (information_request 2)) refl refl;
  lets_call = λ identifier own. own_other _ refl (λ other status end' peer same. cc);
  lets_end = λ own peer. own_other _ refl (λ other status end' again same. cc);
}

own_carried : (flow : Flow) (pdu : List ℕ) → IsOwn (Carried flow pdu ∷ [])
own_carried flow pdu = own_other (Carried flow pdu) refl (λ identifier status own peer same. cc)

own_sent : (carrier : Option Carrier) (peer : ℕ) (sdu : List ℕ) → IsOwn (said_by_carrier carrier peer sdu)
own_sent None peer sdu = own_none
own_sent (Some (Plain agreed None)) peer sdu = own_carried Out _
own_sent (Some (Plain agreed (Some waiting))) peer sdu = own_none
own_sent (Some (Retransmitting machine)) peer sdu = own_none

own_given : (given : Option Given) (pdu : List ℕ) → IsOwn (said_as given pdu)
own_given None pdu = own_none
own_given (Some (Signal command)) pdu = own_none
own_given (Some (Whole peer sdu)) pdu = own_none
own_given (Some (Framed peer frame)) pdu = own_carried Out pdu

own_features : (before after : Option Request) → IsOwn (features_given_up before after)
own_features None after = own_none
own_features (Some request) None = own_other _ refl (λ identifier status own peer same. cc)
own_features (Some request) (Some other) = own_none

own_single : (policy : Policy) (v : Channels) (more : Occurrence) → is_single more ≡ true → IsOwn (said_in policy more v)
own_single policy v (Comes pdu) is = cc
own_single policy v (Connects psm) is = let w = connected psm v in words-asked w IsOwn (own_words w) v
own_single policy v AsksFeatures is = let w = asks_features v in words-asked w IsOwn (own_words w) v
own_single policy v (Disconnects own) is = let w = disconnected own v in words-left w IsOwn (own_words w) own v
own_single policy v (Sends own sdu) is = own_sent (carrier_at own v) _ sdu
own_single policy v (Gives pdu) is = own_given (next_given v) pdu
own_single policy v Fires is = cc
own_single policy v Tells is = own_none

-- ---- what holds

record Singles (past : List Saying) : Type 0 where
  called : (identifier status own peer : ℕ) → HasGranted identifier status own peer past → list_any (names peer) (calls_that_went Into past) ≡ true
  once : (identifier status own other again second peer : ℕ) → HasGranted identifier status own peer past → HasGranted other again second peer past → own ≡ second

abbrev Holds : (Fits : ℕ → List Call → Bool) → List Saying → Channels → Type 0
Holds Fits past v = Bestows past v × (AreOneByOne Fits (calls_that_went Into past) → Singles past)

pub tail-single : (Fits : ℕ → List Call → Bool) (new : List Call) (calls : List Call) → AreOneByOne Fits (new ++ calls) → AreOneByOne Fits calls
tail-single Fits [] calls single = single
tail-single Fits (one ∷ new) calls single = tail-single Fits new calls single.1

or_left : (a b : Bool) → a ≡ true → (a || b) ≡ true
or_left true b is = refl
or_left false b is = cc

or_right : (a b : Bool) → b ≡ true → (a || b) ≡ true
or_right true b is = refl
or_right false b is = is

still_called : (peer : ℕ) (past said : List Saying) → list_any (names peer) (calls_that_went Into past) ≡ true → list_any (names peer) (calls_that_went Into (past ++ said)) ≡ true
still_called peer past said is =
    ap (list_any (names peer)) (calls-more Into past said)
    ∙ (list_any-append (names peer) (calls_that_went Into said) (calls_that_went Into past) ∙ or_right (list_any (names peer) (calls_that_went Into said)) (list_any (names peer) (calls_that_went Into past)) is)

-- nothing is granted
own_step : (Fits : ℕ → List Call → Bool) (past said : List Saying) → IsOwn said → (AreOneByOne Fits (calls_that_went Into past) → Singles past) → AreOneByOne Fits (calls_that_went Into (past ++ said)) → Singles (past ++ said)
own_step Fits past said own_said before single = record { called = called; once = once }
  where
    singles : Singles past
    singles = before (tail-single Fits (calls_that_went Into said) (calls_that_went Into past) (subst (AreOneByOne Fits) (calls-more Into past said) single))

    old : (identifier status own peer : ℕ) → HasGranted identifier status own peer (past ++ said) → HasGranted identifier status own peer past
    old identifier status own peer stands = by (stands-either _ past said stands)
      where
        by : HasGranted identifier status own peer past ⊎ HasGranted identifier status own peer said → HasGranted identifier status own peer past
        by (inl left) = left
        by (inr right) = absurd (own_said.no_grants identifier status own peer right)

    called : (identifier status own peer : ℕ) → HasGranted identifier status own peer (past ++ said) → list_any (names peer) (calls_that_went Into (past ++ said)) ≡ true
    called identifier status own peer stands = still_called peer past said (singles.called identifier status own peer (old identifier status own peer stands))

    once : (identifier status own other again second peer : ℕ) → HasGranted identifier status own peer (past ++ said) → HasGranted other again second peer (past ++ said) → own ≡ second
    once identifier status own other again second peer one two = singles.once identifier status own other again second peer (old identifier status own peer one) (old other again second peer two)

-- ---- a request of the peer is answered

-- the call for which the answer is new
abbrev call_of : (identifier psm peer : ℕ) → Call
call_of identifier psm peer = record { flow = Into; identifier = identifier; wanted = Some (record { psm = psm; source = peer }) }

said_none : (identifier : ℕ) (content : Content) → calls_that_went Into (spoken (command_with identifier content) ∷ []) ≡ []
said_none identifier (reject reason rest) = refl
said_none identifier (connection_request psm source) = refl
said_none identifier (connection_response destination source answer status) = refl
said_none identifier (configuration_request destination flags options) = refl
said_none identifier (configuration_response source flags answer options) = refl
said_none identifier (disconnection_request destination source) = refl
said_none identifier (disconnection_response destination source) = refl
said_none identifier (echo_request octets) = refl
said_none identifier (echo_response octets) = refl
said_none identifier (information_request kind) = refl
said_none identifier (information_response kind answer rest) = refl

reply_none : (identifier : ℕ) (response : Option Content) → calls_that_went Into (map spoken (option_to_list (command_if identifier response))) ≡ []
reply_none identifier None = refl
reply_none identifier (Some content) = said_none identifier content

new_call : (v : Channels) (one : Read) (identifier : ℕ) (response : Option Content) (peer : ℕ) → can_say response v ≡ true → (anew : IsAnew v one identifier peer) → calls_that_went Into (exchanged one (command_if identifier response) v) ≡ call_of identifier anew.psm peer ∷ []
new_call v one identifier response peer can anew =
    let replies = map spoken (option_to_list (command_if identifier response)) in
    let heard : List Saying = sayings.Command Into one ∷ [] in
    let able : can_say (option_map (λ (c : Command). c.content) (command_if identifier response)) v ≡ true = ap (λ x. can_say x v) (response_in identifier response) ∙ can in
    ap (λ b. calls_that_went Into (cond b (heard ++ replies) [])) able
    ∙ (calls-more Into heard replies
    ∙ (ap (λ (l : List Call). l ++ calls_that_went Into heard) (reply_none identifier response) ∙ ap (λ (r : Read). calls_that_went Into (sayings.Command Into r ∷ [])) anew.asks))

same_own : (own second peer status again : ℕ) → Some (connection_response own peer 0 status) ≡ Some (connection_response second peer 0 again) → own ≡ second
same_own own second peer status again is = cc

-- an endpoint is granted now to a request that is new
record IsNew (v : Channels) (one : Read) (identifier : ℕ) (response : Option Content) (own peer : ℕ) : Type 0 where
  status : ℕ
  can : can_say response v ≡ true
  is : response ≡ Some (connection_response own peer 0 status)
  anew : IsAnew v one identifier peer

-- it was granted before, or is so now
abbrev IsFrom : (past : List Saying) (v : Channels) (one : Read) (identifier : ℕ) (response : Option Content) (own peer : ℕ) → Type 0
IsFrom past v one identifier response own peer = ((other : ℕ) × (status : ℕ) × HasGranted other status own peer past) ⊎ IsNew v one identifier response own peer

answered_step : (Fits : ℕ → List Call → Bool) (policy : Policy) (past : List Saying) (v w : Channels) (one : Read) (identifier : ℕ) (response : Option Content) → Grants v w one identifier response → Sound policy (reading past) v → Bestows past v → (AreOneByOne Fits (calls_that_went Into past) → Singles past)
    → (let said : List Saying = exchanged one (command_if identifier response) v ++ asked_between v w in AreOneByOne Fits (calls_that_went Into (past ++ said)) → Singles (past ++ said))
answered_step Fits policy past v w one identifier response grants sound bestows before single = record { called = called; once = once }
  where
    answer : List Saying
    answer = exchanged one (command_if identifier response) v

    said : List Saying
    said = answer ++ asked_between v w

    own_said : IsOwn (asked_between v w)
    own_said = words-asked w IsOwn (own_words w) v

    now_called : calls_that_went Into (past ++ said) ≡ calls_that_went Into answer ++ calls_that_went Into past
    now_called = calls-more Into past said ∙ ap (λ (l : List Call). l ++ calls_that_went Into past) (calls-more Into answer (asked_between v w) ∙ ap (λ (l : List Call). l ++ calls_that_went Into answer) own_said.no_calls)

    single_now : AreOneByOne Fits (calls_that_went Into answer ++ calls_that_went Into past)
    single_now = subst (AreOneByOne Fits) now_called single

    singles : Singles past
    singles = before (tail-single Fits (calls_that_went Into answer) (calls_that_went Into past) single_now)

    from : (other status own peer : ℕ) → HasGranted other status own peer (past ++ said) → IsFrom past v one identifier response own peer
    from other status own peer stands = by (stands-either _ past said stands)
      where
        answered : HasGranted other status own peer answer → IsFrom past v one identifier response own peer
        answered in_it = let (can, is, same) = grant_in one identifier response v other status own peer in_it in of can is (grants.anew can own peer status is)
          where
            of : can_say response v ≡ true → response ≡ Some (connection_response own peer 0 status) → IsLast v identifier (connection_response own peer 0 status) ⊎ IsAnew v one identifier peer → IsFrom past v one identifier response own peer
            of can is (inl (it, at, same, was)) = inl (it.identifier, status, bestows.last it own peer status at was)
            of can is (inr anew) = inr (record { status = status; can = can; is = is; anew = anew })

        either : HasGranted other status own peer answer ⊎ HasGranted other status own peer (asked_between v w) → IsFrom past v one identifier response own peer
        either (inl in_it) = answered in_it
        either (inr asked) = absurd (own_said.no_grants other status own peer asked)

        by : HasGranted other status own peer past ⊎ HasGranted other status own peer said → IsFrom past v one identifier response own peer
        by (inl old) = inl (other, status, old)
        by (inr new) = either (stands-either _ answer (asked_between v w) new)

    -- to a request that is new nothing was granted before
    unused : (other status second own peer : ℕ) → HasGranted other status second peer past → IsNew v one identifier response own peer → ⊥
    unused other status second own peer old new = by (calls_that_went Into past) refl (subst (λ (l : List Call). AreOneByOne Fits (l ++ calls_that_went Into past)) (new_call v one identifier response peer new.can new.anew) single_now).0
      where
        it : Call
        it = call_of identifier new.anew.psm peer

        source_is : (a b : Wanted) → Some a ≡ Some b → a.source ≡ b.source
        source_is a b is = cc

        last_one : (last : Call) (calls : List Call) (l : Option Remembered) → v.memory.connection ≡ l → CallsKept (last ∷ calls) (reading past).entries l → it ≡ last → ⊥
        last_one last calls None at kept same = cc
        last_one last calls (Some l) at kept same = new.anew.other l at (sym kept.0 ∙ ap (λ (c : Call). c.identifier) (sym same))

        by : (calls : List Call) → calls_that_went Into past ≡ calls → IsAgain it calls ⊎ IsFresh Fits it calls → ⊥
        by [] is next = let never : false ≡ true = ap (list_any (names peer)) (sym is) ∙ singles.called other status second peer old in cc
        by (last ∷ calls) is (inl same) = last_one last calls v.memory.connection refl (subst (λ (c : List Call). CallsKept c (reading past).entries v.memory.connection) is sound.kept.calls) same
        by (last ∷ calls) is (inr fresh) =
            let right : peer ≡ fresh.wanted.source = source_is (record { psm = new.anew.psm; source = peer }) fresh.wanted fresh.wanted_is in
            let none : list_any (names peer) (last ∷ calls) ≡ false = ap (λ n. list_any (names n) (last ∷ calls)) right ∙ fresh.unused in
            let never : true ≡ false = sym (singles.called other status second peer old) ∙ (ap (list_any (names peer)) is ∙ none) in cc

    called : (other status own peer : ℕ) → HasGranted other status own peer (past ++ said) → list_any (names peer) (calls_that_went Into (past ++ said)) ≡ true
    called other status own peer stands = by (from other status own peer stands)
      where
        by : IsFrom past v one identifier response own peer → list_any (names peer) (calls_that_went Into (past ++ said)) ≡ true
        by (inl (i, s, old)) = still_called peer past said (singles.called i s own peer old)
        by (inr new) =
            ap (list_any (names peer)) (now_called ∙ ap (λ (l : List Call). l ++ calls_that_went Into past) (new_call v one identifier response peer new.can new.anew))
            ∙ or_left (eqb peer peer) (list_any (names peer) (calls_that_went Into past)) (eqb-same peer)

    once : (other status own again more second peer : ℕ) → HasGranted other status own peer (past ++ said) → HasGranted again more second peer (past ++ said) → own ≡ second
    once other status own again more second peer one_is two_is = by (from other status own peer one_is) (from again more second peer two_is)
      where
        by : IsFrom past v one identifier response own peer → IsFrom past v one identifier response second peer → own ≡ second
        by (inl (i, s, old)) (inl (j, t, older)) = singles.once i s own j t second peer old older
        by (inl (i, s, old)) (inr new) = absurd (unused i s own second peer old new)
        by (inr new) (inl (j, t, old)) = absurd (unused j t second own peer old new)
        by (inr new) (inr newer) = same_own own second peer new.status newer.status (sym new.is ∙ newer.is)

-- ---- whatever happens

heard_none : (identifier : ℕ) (content : Content) → is_response content ≡ true → calls_that_went Into (sayings.Command Into (Ok (command_with identifier content)) ∷ []) ≡ []
heard_none identifier (reject reason rest) is = refl
heard_none identifier (connection_request psm source) is = cc
heard_none identifier (connection_response destination source answer status) is = refl
heard_none identifier (configuration_request destination flags options) is = refl
heard_none identifier (configuration_response source flags answer options) is = refl
heard_none identifier (disconnection_request destination source) is = refl
heard_none identifier (disconnection_response destination source) is = refl
heard_none identifier (echo_request octets) is = refl
heard_none identifier (echo_response octets) is = refl
heard_none identifier (information_request kind) is = refl
heard_none identifier (information_response kind answer rest) is = refl

own_heard : (v : Channels) (identifier : ℕ) (content : Content) → is_response content ≡ true → IsOwn (exchanged (Ok (command_with identifier content)) None v)
own_heard v identifier content is = own_other _ (heard_none identifier content is) (λ other status own peer same. cc)

singly : (Fits : ℕ → List Call → Bool) (policy : Policy) → ConversesKnowing policy (λ v. Unit {0}) (Holds Fits)
singly Fits policy =
    let bestowing = converses policy in
    record {
      first = tt;
      kept = λ v more lone known. tt;
      asked = λ past v u one identifier response content asking reply alike waits grants sound holds after. (
        bestowing.asked past v u one identifier response content asking reply alike waits grants sound holds.0 after,
        answered_step Fits policy past v (follows policy content u) one identifier response grants sound holds.0 holds.1,
      );
      answered = λ past v identifier content is same sound holds after.
          let w : Channels = hears_content policy identifier content v in (
            bestowing.answered past v identifier content is same sound holds.0 after,
            own_step Fits past (exchanged (Ok (command_with identifier content)) None v ++ asked_between v w) (own_both (exchanged (Ok (command_with identifier content)) None v) (asked_between v w) (own_heard v identifier content is) (words-asked w IsOwn (own_words w) v)) holds.1,
          );
      taken = λ past v pdu known same sound holds after.
          let w : Channels = takes (channel_of pdu) pdu v in (
            bestowing.taken past v pdu known same sound holds.0 after,
            own_step Fits past (Carried Into pdu ∷ asked_between v w) (own_both (Carried Into pdu ∷ []) (asked_between v w) (own_carried Into pdu) (words-asked w IsOwn (own_words w) v)) holds.1,
          );
      waits = λ past v tries own same sound holds after.
          let w : Channels = times_held (held_at own v) tries v in (bestowing.waits past v tries own same sound holds.0 after, own_step Fits past (said_on_firing own v w) (words-firing w IsOwn (own_words w) own v) holds.1);
      ends = λ past v tries own same sound holds after.
          let w : Channels = times_end (held_at own v) tries v in (bestowing.ends past v tries own same sound holds.0 after, own_step Fits past (said_on_firing own v w) (words-firing w IsOwn (own_words w) own v) holds.1);
      loses = λ past v tries same sound holds after.
          let w : Channels = times_features v.features tries v in (
            bestowing.loses past v tries same sound holds.0 after,
            own_step Fits past (said_by_features tries v)
                (own_both (said_again errands.Features v w) (features_given_up v.features w.features) (words-again w IsOwn (own_words w) errands.Features v) (own_features v.features w.features)) holds.1,
          );
      single = λ past v more is any known same sound holds after. (bestowing.single past v more is tt known same sound holds.0 after, own_step Fits past (said_in policy more v) (own_single policy v more is) holds.1);
    }

first_singles : Singles []
first_singles = record { called = λ identifier status own peer is. elim is [ ]; once = λ identifier status own other again second peer is. elim is [ ] }

-- The peer asks for one channel after the other, so each endpoint of it is granted one.
pub grants-are_single : GrantsAreSingle
grants-are_single policy list Fits single identifier status own other again second peer one two =
    ((conversed-knowing policy (λ v. Unit {0}) (Holds Fits) (singly Fits policy) (first-bestows, λ none. first_singles) list).1 single).once identifier status own other again second peer one two
