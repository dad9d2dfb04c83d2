-- An endpoint is granted once.
use Rattle.std.proofs.Common.{◌≡◌, ℕ, List, [], ◌∷◌, ◌++◌, map, Bool, true, false, cond, eqb, ◌&&◌, ◌||◌, Option, Some, None, Ok, refl, sym, ap, subst, ◌∙◌, ◌⊎◌, inl, inr, arith}
use Rattle.std.specs.Prelude.{option_map, option_to_list}
use Rattle.std.specs.List.{list_any}
use Rattle.own_channel_laws.specs.talk_laws.specs.acl_fragments.specs.Pieces.{channel_of}
use Rattle.own_channel_laws.specs.talk_laws.specs.capture.specs.declared.flow.Flow.TheVariants.{Out, Into}
use Rattle.own_channel_laws.specs.talk_laws.specs.l2cap_signal.specs.Commands.{Command, Content, code_of, connection_request, connection_response, configuration_request, disconnection_request, information_request}
use Rattle.own_channel_laws.specs.talk_laws.specs.l2cap_signal.specs.Reading.{Answer as Read}
use Rattle.own_channel_laws.specs.talk_laws.specs.l2cap_config.specs.Writing.{written}
use Rattle.own_channel_laws.specs.talk_laws.specs.link_talk.specs.declared.channel.Channel.{Channel}
use Rattle.own_channel_laws.specs.talk_laws.specs.link_talk.specs.declared.call.Call.{Call}
use Rattle.own_channel_laws.specs.talk_laws.specs.link_talk.specs.Sayings.{Saying, Carried, GaveUp}
use Rattle.own_channel_laws.specs.talk_laws.specs.link_talk.specs.Sayings as sayings
use Rattle.own_channel_laws.specs.talk_laws.specs.link_talk.specs.Senses.{sense}
use Rattle.own_channel_laws.specs.talk_laws.specs.link_talk.specs.Requests.{is_own_call, call}
use Rattle.own_channel_laws.specs.talk_laws.specs.link_talk.specs.Channels.{Entry, Reading, read_on, reading}
use Rattle.own_channel_laws.specs.talk_laws.proofs.Passes.{from_end}
use Rattle.own_channel_laws.specs.channel_model.specs.declared.errand.Errand.TheVariants as errands
use Rattle.own_channel_laws.specs.channel_model.specs.Value.{Request, Carrier, Plain, Retransmitting, Requested, Held, Remembered, Channels, no_channels}
use Rattle.own_channel_laws.specs.channel_model.specs.Policies.{Policy}
use Rattle.own_channel_laws.specs.channel_model.specs.Changing.{held_at}
use Rattle.own_channel_laws.specs.channel_model.specs.Following.{can_say, follows}
use Rattle.own_channel_laws.specs.channel_model.specs.Hearing.{hears_content}
use Rattle.own_channel_laws.specs.channel_model.specs.Carrying.{takes}
use Rattle.own_channel_laws.specs.channel_model.specs.Giving.{Given, Signal, Whole, Framed, next_given}
use Rattle.own_channel_laws.specs.channel_model.specs.Timing.{times_held, times_end, times_features}
use Rattle.own_channel_laws.specs.channel_model.specs.Calls.{carrier_at, connected, asks_features, disconnected}
use Rattle.own_channel_laws.specs.channel_model.proofs.Lookups.{own_of, eqb-same, found-has}
use Rattle.own_channel_laws.specs.OwnTalk.{spoken, command_with, command_if, exchanged, asked_between}
use Rattle.own_channel_laws.specs.Runs.{Occurrence, run_of, Comes, Connects, AsksFeatures, Disconnects, Sends, Gives, Fires, Tells, features_given_up, said_again, said_on_firing, said_by_features, said_by_carrier, said_as, said_in, value_after}
use Rattle.own_channel_laws.specs.Views.{peer_of, read_at}
use Rattle.own_channel_laws.specs.Signals.{StandsIn}
use Rattle.own_channel_laws.specs.Endpoints.{IsOf}
use Rattle.channel_laws.specs.Belonging.{HasAsked, HasGranted}
use Rattle.channel_laws.specs.Granted.{IsFor, EndpointsAreGrantedOnce, EndpointsAskForOnePsm}
use Rattle.own_channel_laws.proofs.Sound.{Reads, ReadsBy, has_called, requested-unread, Sound}
use Rattle.own_channel_laws.proofs.Naming.{said-of}
use Rattle.own_channel_laws.proofs.Saying.{stands-left, stands-right, stands-either}
use Rattle.own_channel_laws.proofs.Words.{Words, words-asked, words-again, words-left, words-firing}
use Rattle.own_channel_laws.proofs.Replying.{is_response, IsReply}
use Rattle.channel_laws.proofs.Protocols.{KeepsPsm, follows-psm, hears-psm, takes-psm, times-psm, ends-psm, features-psm, single-psm, IsCalled, Asks, asks-first, asks-step}
use Rattle.own_channel_laws.proofs.Converses.{is_single, IsMade, IsLast, Grants, ConversesKnowing}
use Rattle.own_channel_laws.proofs.Conversing.{conversed-knowing, reading-on}

-- ---- what was asked was called

or_on : (a b : Bool) → b ≡ true → (a || b) ≡ true
or_on true b is = refl
or_on false b is = is

asked-called : (said : List Saying) (identifier psm own : ℕ) → HasAsked identifier psm own said → has_called (reading said).requests identifier own ≡ true
asked-called said identifier psm own = from_end (λ s. HasAsked identifier psm own s → has_called (reading s).requests identifier own ≡ true) (λ is. elim is [ ]) step said
  where
    it : Saying
    it = spoken (command_with identifier (connection_request psm own))

    more : (found : Option Call) (calls : List Call) → list_any (is_own_call identifier own) calls ≡ true → list_any (is_own_call identifier own) (option_to_list found ++ calls) ≡ true
    more None calls is = is
    more (Some one) calls is = or_on (is_own_call identifier own one) (list_any (is_own_call identifier own) calls) is

    now : (past : List Saying) → has_called (read_on (reading past) it).requests identifier own ≡ true
    now past = ap (λ b. (b && eqb own own) || has_called (reading past).requests identifier own) (eqb-same identifier) ∙ ap (λ b. b || has_called (reading past).requests identifier own) (eqb-same own)

    step : (past : List Saying) (s : Saying) → (HasAsked identifier psm own past → has_called (reading past).requests identifier own ≡ true) → HasAsked identifier psm own (past ++ s ∷ []) → has_called (reading (past ++ s ∷ [])).requests identifier own ≡ true
    step past s before stands = ap (λ (r : Reading). has_called r.requests identifier own) (reading-on past (s ∷ [])) ∙ by (stands-either it past (s ∷ []) stands)
      where
        by : HasAsked identifier psm own past ⊎ HasAsked identifier psm own (s ∷ []) → has_called (read_on (reading past) s).requests identifier own ≡ true
        by (inl old) = more (call (sense s)) (reading past).requests.calls (before old)
        by (inr (inl same)) = subst (λ x. has_called (read_on (reading past) x).requests identifier own ≡ true) (sym same) (now past)
        by (inr (inr none)) = elim none [ ]

-- ---- what a host says of its own accord

-- of the channels that it asks for it waits for the answer, and it grants none
pub record Plainly (w : Channels) (said : List Saying) : Type 0 where
  pub calls : (identifier psm own : ℕ) → HasAsked identifier psm own said → IsCalled psm own w
  pub no_grants : (identifier status own peer : ℕ) → ¬ HasGranted identifier status own peer said

plain_none : (w : Channels) → Plainly w []
plain_none w = record { calls = λ identifier psm own is. elim is [ ]; no_grants = λ identifier status own peer is. is }

plain_both : (w : Channels) (xs ys : List Saying) → Plainly w xs → Plainly w ys → Plainly w (xs ++ ys)
plain_both w xs ys one other = record { calls = calls; no_grants = no_grants }
  where
    calls : (identifier psm own : ℕ) → HasAsked identifier psm own (xs ++ ys) → IsCalled psm own w
    calls identifier psm own is = by (stands-either _ xs ys is)
      where
        by : HasAsked identifier psm own xs ⊎ HasAsked identifier psm own ys → IsCalled psm own w
        by (inl left) = one.calls identifier psm own left
        by (inr right) = other.calls identifier psm own right

    no_grants : (identifier status own peer : ℕ) → HasGranted identifier status own peer (xs ++ ys) → ⊥
    no_grants identifier status own peer is = by (stands-either _ xs ys is)
      where
        by : HasGranted identifier status own peer xs ⊎ HasGranted identifier status own peer ys → ⊥
        by (inl left) = one.no_grants identifier status own peer left
        by (inr right) = other.no_grants identifier status own peer right

-- what is neither a request for a channel nor a grant
plain_other : (w : Channels) (s : Saying) → ((identifier psm own : ℕ) → s ≡ spoken (command_with identifier (connection_request psm own)) → ⊥) → ((identifier status own peer : ℕ) → s ≡ spoken (command_with identifier (connection_response own peer 0 status)) → ⊥) → Plainly w (s ∷ [])
plain_other w s no_call no_grant = record { calls = calls; no_grants = no_grants }
  where
    calls : (identifier psm own : ℕ) → HasAsked identifier psm own (s ∷ []) → IsCalled psm own w
    calls identifier psm own (inl same) = absurd (no_call identifier psm own same)
    calls identifier psm own (inr none) = elim none [ ]

    no_grants : (identifier status own peer : ℕ) → HasGranted identifier status own peer (s ∷ []) → ⊥
    no_grants identifier status own peer (inl same) = no_grant identifier status own peer same
    no_grants identifier status own peer (inr none) = none

-- commands of other codes
other_code : (a b : Command) → spoken a ≡ spoken b → code_of a.content ≡ code_of b.content
other_code a b same = let whole : a ≡ b = cc in ap (λ (c : Command). code_of c.content) whole

plain_command : (w : Channels) (c : Command) → eqb (code_of c.content) 0x02 ≡ false → eqb (code_of c.content) 0x03 ≡ false → Plainly w (spoken c ∷ [])
plain_command w c no_call no_grant = plain_other w (spoken c)
    (λ identifier psm own same. let never : true ≡ false = sym (ap (λ n. eqb n 0x02) (other_code c (command_with identifier (connection_request psm own)) same)) ∙ no_call in absurd cc)
    (λ identifier status own peer same. let never : true ≡ false = sym (ap (λ n. eqb n 0x03) (other_code c (command_with identifier (connection_response own peer 0 status)) same)) ∙ no_grant in absurd cc)

plain_words : (w : Channels) → Words w (Plainly w)
plain_words w = record {
  none = plain_none w;
  both = plain_both w;
  calls = calls;
  wishes = λ own peer held setup request options at has to is. plain_command w (command_with request.identifier (configuration_request peer 0 (written options))) refl refl;
  ends = λ identifier peer own. plain_command w (command_with identifier (disconnection_request peer own)) refl refl;
  asks = λ request is. plain_command w (command_with request.identifier (information_request 2)) refl refl;
  lets_call = λ identifier own. plain_other w _ (λ other psm end' same. cc) (λ other status own' end' same. cc);
  lets_end = λ own peer. plain_other w _ (λ identifier psm end' same. cc) (λ identifier status own' end' same. cc);
}
  where
    calls : (own : ℕ) (held : Held) (request : Request) → held_at own w ≡ Some held → held.stage ≡ Requested request → Plainly w (spoken (command_with request.identifier (connection_request held.psm held.own)) ∷ [])
    calls own held request at is = record { calls = here; no_grants = λ identifier status other peer stands. none identifier status other peer stands }
      where
        here : (identifier psm other : ℕ) → HasAsked identifier psm other (spoken (command_with request.identifier (connection_request held.psm held.own)) ∷ []) → IsCalled psm other w
        here identifier psm other (inl same) =
            let whole : command_with request.identifier (connection_request held.psm held.own) ≡ command_with identifier (connection_request psm other) = cc in
            let inside : connection_request held.psm held.own ≡ connection_request psm other = ap (λ (c : Command). c.content) whole in
            let one : held.own ≡ other = cc in
            record { held = held; request = request; found = ap (λ n. held_at n w) (sym one ∙ found-has own_of own w.held held at) ∙ at; waits = is; psm_is = cc }
        here identifier psm other (inr none) = elim none [ ]

        none : (identifier status other peer : ℕ) → HasGranted identifier status other peer (spoken (command_with request.identifier (connection_request held.psm held.own)) ∷ []) → ⊥
        none identifier status other peer (inl same) =
            let never : 0x02 ≡ 0x03 = other_code (command_with request.identifier (connection_request held.psm held.own)) (command_with identifier (connection_response other peer 0 status)) same in omega (arith, never)
        none identifier status other peer (inr nothing) = nothing

plain_carried : (w : Channels) (flow : _) (pdu : List ℕ) → Plainly w (Carried flow pdu ∷ [])
plain_carried w flow pdu = plain_other w (Carried flow pdu) (λ identifier psm own same. cc) (λ identifier status own peer same. cc)

plain_heard : (w : Channels) (one : Read) → Plainly w (sayings.Command Into one ∷ [])
plain_heard w one = plain_other w (sayings.Command Into one) (λ identifier psm own same. cc) (λ identifier status own peer same. cc)

-- ---- what holds

pub record Bestows (past : List Saying) (v : Channels) : Type 0 where
  pub asks : Asks past v
  pub granted : (identifier status own peer : ℕ) → HasGranted identifier status own peer past → (channel : Channel) × (channel.peer ≡ peer) × IsOf channel (read_at own (reading past).entries)
  pub apart : (identifier status own peer : ℕ) → HasGranted identifier status own peer past → (other psm : ℕ) → ¬ HasAsked other psm own past
  pub last : (it : Remembered) (own peer status : ℕ) → v.memory.connection ≡ Some it → it.response ≡ Some (connection_response own peer 0 status) → HasGranted it.identifier status own peer past

-- what is waited for has no channel yet
asked_unread : (policy : Policy) (past : List Saying) (w : Channels) (own : ℕ) (held : Held) (request : Request) (channel : Channel) → Sound policy (reading past) w → held_at own w ≡ Some held → held.stage ≡ Requested request → IsOf channel (read_at own (reading past).entries) → ⊥
asked_unread policy past w own held request channel sound at is of =
    let none : read_at own (reading past).entries ≡ None = requested-unread policy held request (read_at own (reading past).entries) is (subst (λ h. Reads policy h (read_at own (reading past).entries)) at (sound.core.reads own)) in
    subst (IsOf channel) none of

pub still_of : (past said : List Saying) (own : ℕ) (channel : Channel) → IsOf channel (read_at own (reading past).entries) → IsOf channel (read_at own (reading (past ++ said)).entries)
still_of past said own channel is = subst (λ (r : Reading). IsOf channel (read_at own r.entries)) (sym (reading-on past said)) (said-of channel own said (reading past) is)

plain_step : (policy : Policy) (past said : List Saying) (v w : Channels) → Plainly w said → KeepsPsm v w → w.memory ≡ v.memory → Bestows past v → Sound policy (reading (past ++ said)) w → Bestows (past ++ said) w
plain_step policy past said v w plain keeps same holds sound = record { asks = asks-step past said v w plain.calls sound.core.held_below keeps holds.asks; granted = granted; apart = apart; last = λ it own peer status at is. stands-left _ past said (holds.last it own peer status (sym (ap (λ (m : _). m.connection) same) ∙ at) is) }
  where
    granted : (identifier status own peer : ℕ) → HasGranted identifier status own peer (past ++ said) → (channel : Channel) × (channel.peer ≡ peer) × IsOf channel (read_at own (reading (past ++ said)).entries)
    granted identifier status own peer stands = by (stands-either _ past said stands)
      where
        by : HasGranted identifier status own peer past ⊎ HasGranted identifier status own peer said → (channel : Channel) × (channel.peer ≡ peer) × IsOf channel (read_at own (reading (past ++ said)).entries)
        by (inl old) = let (channel, to, of) = holds.granted identifier status own peer old in (channel, to, still_of past said own channel of)
        by (inr new) = absurd (plain.no_grants identifier status own peer new)

    apart : (identifier status own peer : ℕ) → HasGranted identifier status own peer (past ++ said) → (other psm : ℕ) → HasAsked other psm own (past ++ said) → ⊥
    apart identifier status own peer stands other psm asks = by (stands-either _ past said stands) (stands-either _ past said asks)
      where
        by : HasGranted identifier status own peer past ⊎ HasGranted identifier status own peer said → HasAsked other psm own past ⊎ HasAsked other psm own said → ⊥
        by (inr new) asked = plain.no_grants identifier status own peer new
        by (inl old) (inl before) = holds.apart identifier status own peer old other psm before
        by (inl old) (inr now) =
            let (channel, to, of) = holds.granted identifier status own peer old in
            let one : IsCalled psm own w = plain.calls other psm own now in
            asked_unread policy (past ++ said) w own one.held one.request channel sound one.found one.waits (still_of past said own channel of)

-- ---- a request of the peer is answered

pub response_in : (identifier : ℕ) (response : Option Content) → option_map (λ (c : Command). c.content) (command_if identifier response) ≡ response
response_in identifier None = refl
response_in identifier (Some content) = refl

-- what is granted in the answer
pub grant_in : (one : Read) (identifier : ℕ) (response : Option Content) (v : Channels) (other status own peer : ℕ) → HasGranted other status own peer (exchanged one (command_if identifier response) v)
    → (can_say response v ≡ true) × (response ≡ Some (connection_response own peer 0 status)) × (identifier ≡ other)
grant_in one identifier response v other status own peer stands = by (can_say (option_map (λ (c : Command). c.content) (command_if identifier response)) v) refl response refl stands
  where
    by : (can : Bool) → can_say (option_map (λ (c : Command). c.content) (command_if identifier response)) v ≡ can → (r : Option Content) → response ≡ r
        → HasGranted other status own peer (cond can (sayings.Command Into one ∷ map spoken (option_to_list (command_if identifier r))) []) → (can_say response v ≡ true) × (response ≡ Some (connection_response own peer 0 status)) × (identifier ≡ other)
    by false can r is none = elim none [ ]
    by true can r is (inl same) = cc
    by true can None is (inr none) = elim none [ ]
    by true can (Some content) is (inr (inl same)) =
        let whole : command_with identifier content ≡ command_with other (connection_response own peer 0 status) = cc in
        (ap (λ x. can_say x v) (sym (response_in identifier response)) ∙ can, is ∙ ap (λ (c : Command). Some c.content) whole, ap (λ (c : Command). c.identifier) whole)
    by true can (Some content) is (inr (inr none)) = elim none [ ]

-- no channel is asked for in it
no_call_in : (one : Read) (identifier : ℕ) (response : Option Content) (v : Channels) → IsReply response → (other psm own : ℕ) → HasAsked other psm own (exchanged one (command_if identifier response) v) → ⊥
no_call_in one identifier response v reply other psm own stands = by (can_say (option_map (λ (c : Command). c.content) (command_if identifier response)) v) response reply stands
  where
    by : (can : Bool) (r : Option Content) → IsReply r → HasAsked other psm own (cond can (sayings.Command Into one ∷ map spoken (option_to_list (command_if identifier r))) []) → ⊥
    by false r reply none = none
    by true r reply (inl same) = cc
    by true None reply (inr none) = none
    by true (Some content) reply (inr (inl same)) =
        let whole : command_with identifier content ≡ command_with other (connection_request psm own) = cc in
        let never : is_response (connection_request psm own) ≡ true = ap (λ (c : Command). is_response c.content) (sym whole) ∙ reply in cc
    by true (Some content) reply (inr (inr none)) = none

-- what can be said stands in it
said_in_it : (one : Read) (identifier : ℕ) (response : Option Content) (content : Content) (v : Channels) → can_say response v ≡ true → response ≡ Some content → StandsIn (spoken (command_with identifier content)) (exchanged one (command_if identifier response) v)
said_in_it one identifier response content v can is =
    let able : can_say (option_map (λ (c : Command). c.content) (command_if identifier response)) v ≡ true = ap (λ x. can_say x v) (response_in identifier response) ∙ can in
    subst (StandsIn (spoken (command_with identifier content))) (sym (ap (λ b. cond b (sayings.Command Into one ∷ map spoken (option_to_list (command_if identifier response))) []) able ∙ ap (λ r. sayings.Command Into one ∷ map spoken (option_to_list (command_if identifier r))) is)) (inr (inl refl))

-- a channel that comes to be is read
made_of : (policy : Policy) (past : List Saying) (v w : Channels) (own peer : ℕ) → Sound policy (reading past) w → IsMade v w own peer → (channel : Channel) × (channel.peer ≡ peer) × IsOf channel (read_at own (reading past).entries)
made_of policy past v w own peer sound made = by (read_at own (reading past).entries) (subst (λ p. ReadsBy policy made.held p (read_at own (reading past).entries)) (ap peer_of made.stage_is) (subst (λ h. Reads policy h (read_at own (reading past).entries)) made.found (sound.core.reads own)))
  where
    by : (found : Option Entry) → ReadsBy policy made.held (Some peer) found → (channel : Channel) × (channel.peer ≡ peer) × IsOf channel found
    by None reads = elim reads [ ]
    by (Some entry) (there, agrees) = (entry.channel, ap (λ (c : Channel). c.peer) there.channel_is, refl)

asked_step : (policy : Policy) (past : List Saying) (v w : Channels) (one : Read) (identifier : ℕ) (response : Option Content) → IsReply response → KeepsPsm v w → Grants v w one identifier response → Sound policy (reading past) v → Bestows past v
    → (let said : List Saying = exchanged one (command_if identifier response) v ++ asked_between v w in Sound policy (reading (past ++ said)) w → Bestows (past ++ said) w)
asked_step policy past v w one identifier response reply keeps grants before holds sound = record { asks = asks-step past said v w called sound.core.held_below keeps holds.asks; granted = granted; apart = apart; last = last }
  where
    answer : List Saying
    answer = exchanged one (command_if identifier response) v

    said : List Saying
    said = answer ++ asked_between v w

    plain : Plainly w (asked_between v w)
    plain = words-asked w (Plainly w) (plain_words w) v

    called : (other psm own : ℕ) → HasAsked other psm own said → IsCalled psm own w
    called other psm own stands = by (stands-either _ answer (asked_between v w) stands)
      where
        by : HasAsked other psm own answer ⊎ HasAsked other psm own (asked_between v w) → IsCalled psm own w
        by (inl answered) = absurd (no_call_in one identifier response v reply other psm own answered)
        by (inr asked) = plain.calls other psm own asked

    -- from what was granted before, or a channel that comes to be
    from : (own peer status : ℕ) → IsLast v identifier (connection_response own peer 0 status) ⊎ IsMade v w own peer → (channel : Channel) × (channel.peer ≡ peer) × IsOf channel (read_at own (reading (past ++ said)).entries)
    from own peer status (inl (it, at, same, is)) = let (channel, to, of) = holds.granted it.identifier status own peer (holds.last it own peer status at is) in (channel, to, still_of past said own channel of)
    from own peer status (inr made) = made_of policy (past ++ said) v w own peer sound made

    granted : (other status own peer : ℕ) → HasGranted other status own peer (past ++ said) → (channel : Channel) × (channel.peer ≡ peer) × IsOf channel (read_at own (reading (past ++ said)).entries)
    granted other status own peer stands = by (stands-either _ past said stands)
      where
        now : HasGranted other status own peer answer ⊎ HasGranted other status own peer (asked_between v w) → (channel : Channel) × (channel.peer ≡ peer) × IsOf channel (read_at own (reading (past ++ said)).entries)
        now (inl answered) = let (can, is, same) = grant_in one identifier response v other status own peer answered in from own peer status (grants.grant can own peer status is)
        now (inr asked) = absurd (plain.no_grants other status own peer asked)

        by : HasGranted other status own peer past ⊎ HasGranted other status own peer said → (channel : Channel) × (channel.peer ≡ peer) × IsOf channel (read_at own (reading (past ++ said)).entries)
        by (inl old) = let (channel, to, of) = holds.granted other status own peer old in (channel, to, still_of past said own channel of)
        by (inr new) = now (stands-either _ answer (asked_between v w) new)

    -- a channel that is asked for now
    asks_now : (other psm own : ℕ) (channel : Channel) → IsOf channel (read_at own (reading (past ++ said)).entries) → HasAsked other psm own said → ⊥
    asks_now other psm own channel of stands = by (stands-either _ answer (asked_between v w) stands)
      where
        by : HasAsked other psm own answer ⊎ HasAsked other psm own (asked_between v w) → ⊥
        by (inl answered) = no_call_in one identifier response v reply other psm own answered
        by (inr asked) = let one : IsCalled psm own w = plain.calls other psm own asked in asked_unread policy (past ++ said) w own one.held one.request channel sound one.found one.waits of

    apart : (other status own peer : ℕ) → HasGranted other status own peer (past ++ said) → (asking psm : ℕ) → HasAsked asking psm own (past ++ said) → ⊥
    apart other status own peer stands asking psm asks = by (stands-either _ past said stands) (stands-either _ past said asks)
      where
        of : (channel : Channel) × (channel.peer ≡ peer) × IsOf channel (read_at own (reading (past ++ said)).entries)
        of = granted other status own peer stands

        before_it : IsLast v identifier (connection_response own peer 0 status) ⊎ IsMade v w own peer → HasAsked asking psm own past → ⊥
        before_it (inl (it, at, same, is)) asked = holds.apart it.identifier status own peer (holds.last it own peer status at is) asking psm asked
        before_it (inr made) asked =
            let next = made.own_is in
            let never : true ≡ false = sym (asked-called past asking psm own asked) ∙ (before.uncalled own (omega (arith, next)) asking).0 in absurd cc

        now : HasGranted other status own peer answer ⊎ HasGranted other status own peer (asked_between v w) → HasAsked asking psm own past → ⊥
        now (inl answered) asked = let (can, is, same) = grant_in one identifier response v other status own peer answered in before_it (grants.grant can own peer status is) asked
        now (inr new) asked = plain.no_grants other status own peer new

        by : HasGranted other status own peer past ⊎ HasGranted other status own peer said → HasAsked asking psm own past ⊎ HasAsked asking psm own said → ⊥
        by grant (inr asked) = asks_now asking psm own of.0 of.2 asked
        by (inl old) (inl asked) = holds.apart other status own peer old asking psm asked
        by (inr new) (inl asked) = now (stands-either _ answer (asked_between v w) new) asked

    last : (it : Remembered) (own peer status : ℕ) → w.memory.connection ≡ Some it → it.response ≡ Some (connection_response own peer 0 status) → HasGranted it.identifier status own peer (past ++ said)
    last it own peer status at is = by grants.last_is
      where
        by : (w.memory.connection ≡ v.memory.connection) ⊎ ((can_say response v ≡ true) × (l : Remembered) × (w.memory.connection ≡ Some l) × (l.identifier ≡ identifier) × (l.response ≡ response)) → HasGranted it.identifier status own peer (past ++ said)
        by (inl same) = stands-left _ past said (holds.last it own peer status (sym same ∙ at) is)
        by (inr (can, l, there, named, response_is)) =
            let one_it : l ≡ it = some_same l it (sym there ∙ at) in
            let answered : response ≡ Some (connection_response own peer 0 status) = sym response_is ∙ (ap (λ (r : Remembered). r.response) one_it ∙ is) in
            let identified : it.identifier ≡ identifier = sym (ap (λ (r : Remembered). r.identifier) one_it) ∙ named in
            subst (λ n. HasGranted n status own peer (past ++ said)) (sym identified)
            (stands-right _ past said (stands-left _ answer (asked_between v w) (said_in_it one identifier response (connection_response own peer 0 status) v can answered)))
          where
            some_same : (a b : Remembered) → Some a ≡ Some b → a ≡ b
            some_same a b same = cc

-- ---- whatever happens

plain_response : (w v : Channels) (one : Read) → Plainly w (exchanged one None v)
plain_response w v one = plain_heard w one

plain_sent : (w : Channels) (carrier : Option Carrier) (peer : ℕ) (sdu : List ℕ) → Plainly w (said_by_carrier carrier peer sdu)
plain_sent w None peer sdu = plain_none w
plain_sent w (Some (Plain agreed None)) peer sdu = plain_carried w Out _
plain_sent w (Some (Plain agreed (Some waiting))) peer sdu = plain_none w
plain_sent w (Some (Retransmitting machine)) peer sdu = plain_none w

plain_given : (w : Channels) (given : Option Given) (pdu : List ℕ) → Plainly w (said_as given pdu)
plain_given w None pdu = plain_none w
plain_given w (Some (Signal command)) pdu = plain_none w
plain_given w (Some (Whole peer sdu)) pdu = plain_none w
plain_given w (Some (Framed peer frame)) pdu = plain_carried w Out pdu

plain_features : (w : Channels) (before after : Option Request) → Plainly w (features_given_up before after)
plain_features w None after = plain_none w
plain_features w (Some request) None = plain_other w _ (λ identifier psm own same. cc) (λ identifier status own peer same. cc)
plain_features w (Some request) (Some other) = plain_none w

plain_single : (policy : Policy) (v : Channels) (more : Occurrence) → is_single more ≡ true → Plainly (value_after policy more v) (said_in policy more v)
plain_single policy v (Comes pdu) is = cc
plain_single policy v (Connects psm) is = let w : Channels = connected psm v in words-asked w (Plainly w) (plain_words w) v
plain_single policy v AsksFeatures is = let w : Channels = asks_features v in words-asked w (Plainly w) (plain_words w) v
plain_single policy v (Disconnects own) is = let w : Channels = disconnected own v in words-left w (Plainly w) (plain_words w) own v
plain_single policy v (Sends own sdu) is = plain_sent (value_after policy (Sends own sdu) v) (carrier_at own v) _ sdu
plain_single policy v (Gives pdu) is = plain_given (value_after policy (Gives pdu) v) (next_given v) pdu
plain_single policy v Fires is = cc
plain_single policy v Tells is = plain_none (value_after policy Tells v)

pub converses : (policy : Policy) → ConversesKnowing policy (λ v. Unit {0}) Bestows
converses policy = record {
  first = tt;
  kept = λ v more lone known. tt;
  asked = λ past v u one identifier response content asking reply alike waits grants sound holds after. asked_step policy past v (follows policy content u) one identifier response reply (follows-psm policy v u content alike) grants sound holds after;
  answered = λ past v identifier content is same sound holds after.
      let w : Channels = hears_content policy identifier content v in
      plain_step policy past (exchanged (Ok (command_with identifier content)) None v ++ asked_between v w) v w (plain_both w _ (asked_between v w) (plain_response w v (Ok (command_with identifier content))) (words-asked w (Plainly w) (plain_words w) v)) (hears-psm policy identifier content v) same holds after;
  taken = λ past v pdu known same sound holds after.
      let w : Channels = takes (channel_of pdu) pdu v in plain_step policy past (Carried Into pdu ∷ asked_between v w) v w (plain_both w (Carried Into pdu ∷ []) (asked_between v w) (plain_carried w Into pdu) (words-asked w (Plainly w) (plain_words w) v)) (takes-psm policy (channel_of pdu) pdu v) same holds after;
  waits = λ past v tries own same sound holds after. let w : Channels = times_held (held_at own v) tries v in plain_step policy past (said_on_firing own v w) v w (words-firing w (Plainly w) (plain_words w) own v) (times-psm policy tries own v) same holds after;
  ends = λ past v tries own same sound holds after. let w : Channels = times_end (held_at own v) tries v in plain_step policy past (said_on_firing own v w) v w (words-firing w (Plainly w) (plain_words w) own v) (ends-psm policy tries own v) same holds after;
  loses = λ past v tries same sound holds after.
      let w : Channels = times_features v.features tries v in
      plain_step policy past (said_by_features tries v) v w (plain_both w (said_again errands.Features v w) (features_given_up v.features w.features) (words-again w (Plainly w) (plain_words w) errands.Features v) (plain_features w v.features w.features)) (features-psm policy tries v) same holds after;
  single = λ past v more is any known same sound holds after. plain_step policy past (said_in policy more v) v (value_after policy more v) (plain_single policy v more is) (single-psm policy v more is sound.core.lone) same holds after;
}

pub first-bestows : Bestows [] no_channels
first-bestows = record { asks = asks-first no_channels; granted = λ i s o p is. elim is [ ]; apart = λ i s o p is. elim is [ ]; last = λ it o p s at is. cc }

bestowed : (policy : Policy) (list : List Occurrence) → Bestows (run_of policy list).said (run_of policy list).value
bestowed policy list =
    conversed-knowing policy (λ v. Unit {0}) Bestows (converses policy) first-bestows list

-- no endpoint is asked for with two PSMs
pub endpoints-ask_for_one_psm : EndpointsAskForOnePsm
endpoints-ask_for_one_psm policy list identifier psm own other again first second = (bestowed policy list).asks.one identifier psm own other again first second

pub endpoints-are_granted_once : EndpointsAreGrantedOnce
endpoints-are_granted_once policy list identifier status own peer stands =
    let all : Bestows (run_of policy list).said (run_of policy list).value = bestowed policy list in
    let (channel, to, of) = all.granted identifier status own peer stands in
    (by channel to (read_at own (reading (run_of policy list).said).entries) of, all.apart identifier status own peer stands)
  where
    by : (channel : Channel) → channel.peer ≡ peer → (found : Option Entry) → IsOf channel found → IsFor peer found
    by channel to None of = of
    by channel to (Some entry) of = ap (λ (c : Channel). c.peer) of ∙ to
