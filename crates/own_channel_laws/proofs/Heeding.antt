-- The request for options that waits, as the host has it and as its talk says.
use Rattle.std.proofs.Common.{◌≡◌, ℕ, ◌≤◌, List, [], ◌∷◌, ◌++◌, Bool, true, false, cond, eqb, not, ◌&&◌, Option, Some, None, Ok, Err, refl, sym, ap, subst, ◌∙◌, ◌⊎◌, inl, inr, arith, append_assoc, append-nil}
use Rattle.std.specs.Prelude.{find, nat_le}
use Rattle.talk_laws.specs.capture.specs.declared.flow.Flow.TheVariants.{Out, Into}
use Rattle.talk_laws.specs.l2cap_signal.specs.Commands.{Content, reject, connection_request, connection_response, configuration_request, configuration_response, disconnection_request, disconnection_response, echo_request, echo_response, information_request, information_response}
use Rattle.talk_laws.specs.l2cap_signal.specs.Reading.{Answer as Read}
use Rattle.talk_laws.specs.l2cap_signal.specs.declared.refusal.SignalRefusal.TheVariants.{ZeroIdentifier, BadLength, UnknownCode, AboveMtu}
use Rattle.talk_laws.specs.link_talk.specs.declared.call.Wanted.{Wanted}
use Rattle.talk_laws.specs.link_talk.specs.declared.channel.Channel.{Channel}
use Rattle.talk_laws.specs.link_talk.specs.declared.party.Party.{Party}
use Rattle.talk_laws.specs.link_talk.specs.Sayings.{Saying, Carried, GaveUp}
use Rattle.talk_laws.specs.link_talk.specs.Sayings as sayings
use Rattle.talk_laws.specs.link_talk.specs.Requests.{Terms, Requests, answered_query, answered_call, has_failed}
use Rattle.talk_laws.specs.link_talk.specs.Meanings.{Meaning, Nothing, granted, made, answered, meant}
use Rattle.talk_laws.specs.link_talk.specs.Channels.{Entry, reading}
use Rattle.talk_laws.specs.link_talk.specs.Carriages.{has_own as is_of}
use Rattle.talk_laws.specs.link_talk.specs.Waits.{demand_of, demand_of_saying}
use Rattle.talk_laws.specs.Waits.{Counts}
use Rattle.talk_laws.proofs.Waits.{counts-before}
use Rattle.channel_model.specs.declared.errand.Errand.{Errand}
use Rattle.channel_model.specs.declared.errand.Errand.TheVariants as errands
use Rattle.channel_model.specs.Value.{Channels}
use Rattle.channel_model.specs.Policies.{Policy}
use Rattle.channel_model.specs.Changing.{has_own, held_at, has_room}
use Rattle.channel_model.specs.Asking.{next_identifier}
use Rattle.channel_model.specs.Following.{follows}
use Rattle.own_channel_laws.specs.OwnTalk.{spoken, command_with, command_if, exchanged, newest, said_of, asked_between}
use Rattle.own_channel_laws.specs.Views.{read_at}
use Rattle.own_channel_laws.proofs.Sound.{Sound}
use Rattle.own_channel_laws.proofs.Asking.{next-apart}
use Rattle.own_channel_laws.proofs.Replying.{is_response, IsReply}
use Rattle.own_channel_laws.proofs.Converses.{IsAlike, is_asking}
use Rattle.own_channel_laws.proofs.Demanding.{asked_on, Stays, Rests}
use Rattle.own_channel_laws.proofs.Anew.{IsAnew, GoesAt, follows-goes}
use Rattle.own_channel_laws.proofs.Wishing.{waiting, silent, AreNamed, sound-named, Mild, mild-asked, new-waits}
use Rattle.talk_laws.specs.link_talk.specs.Senses.{Asks, Quiet, Unread}
use Rattle.own_channel_laws.proofs.Awaiting.{any-none}

-- ---- responses are no demand

abbrev IsNone : Channel → Meaning → Type 0
IsNone channel meaning = demand_of channel meaning ≡ []

granted_none : (channel : Channel) (own peer : ℕ) (wanted : Option Wanted) → IsNone channel (granted own peer wanted)
granted_none channel own peer None = refl
granted_none channel own peer (Some wanted) = refl

if_none : (channel : Channel) (b : Bool) (one other : Meaning) → IsNone channel one → IsNone channel other → IsNone channel (cond b one other)
if_none channel true one other this that = this
if_none channel false one other this that = that

-- on a channel, of either side
pub channel-none : (channel : Channel) (asked : Requests) (identifier destination source answer : ℕ) → IsNone channel (cond (eqb answer 0 && nat_le 0x0040 destination) (made asked Into identifier destination source) Nothing)
channel-none channel asked identifier destination source answer =
    if_none channel (eqb answer 0 && nat_le 0x0040 destination) (made asked Into identifier destination source) Nothing
    (if_none channel (has_failed asked identifier source) Nothing (granted source destination (answered_call asked Out identifier source)) refl (granted_none channel source destination (answered_call asked Out identifier source))) refl

answered_none : (channel : Channel) (peer flags answer : ℕ) (terms : Option Terms) → IsNone channel (answered peer flags answer terms)
answered_none channel peer flags answer None = refl
answered_none channel peer flags answer (Some terms) = refl

-- what the host answers
response_none : (party : Party) (identifier : ℕ) (content : Content) → is_response content ≡ true → (past : List Saying) (entry : Entry) → demand_of_saying party (reading past) (spoken (command_with identifier content)) entry ≡ []
response_none party identifier (reject reason rest) is past entry = refl
response_none party identifier (connection_request psm source) is past entry = cc
response_none party identifier (connection_response destination source answer status) is past entry =
    if_none entry.channel (eqb answer 0 && nat_le 0x0040 destination) (made (reading past).requests Out identifier destination source) Nothing
    (granted_none entry.channel destination source (answered_call (reading past).requests Into identifier source)) refl
response_none party identifier (configuration_request destination flags options) is past entry = cc
response_none party identifier (configuration_response source flags answer options) is past entry = answered_none entry.channel source flags answer (answered_query (reading past).requests identifier)
response_none party identifier (disconnection_request destination source) is past entry = cc
response_none party identifier (disconnection_response destination source) is past entry = refl
response_none party identifier (echo_request octets) is past entry = cc
response_none party identifier (echo_response octets) is past entry = refl
response_none party identifier (information_request kind) is past entry = cc
response_none party identifier (information_response kind answer rest) is past entry = refl

-- nor what the peer asks
asking_none : (party : Party) (identifier : ℕ) (content : Content) → not (is_response content) ≡ true → (past : List Saying) (entry : Entry) → demand_of_saying party (reading past) (sayings.Command Into (Ok (command_with identifier content))) entry ≡ []
asking_none party identifier (reject reason rest) is past entry = cc
asking_none party identifier (connection_request psm source) is past entry = refl
asking_none party identifier (connection_response destination source answer status) is past entry = cc
asking_none party identifier (configuration_request destination flags options) is past entry = refl
asking_none party identifier (configuration_response source flags answer options) is past entry = cc
asking_none party identifier (disconnection_request destination source) is past entry = refl
asking_none party identifier (disconnection_response destination source) is past entry = cc
asking_none party identifier (echo_request octets) is past entry = refl
asking_none party identifier (echo_response octets) is past entry = cc
asking_none party identifier (information_request kind) is past entry = refl
asking_none party identifier (information_response kind answer rest) is past entry = cc

one_none : (party : Party) (one : Read) → is_asking one ≡ true → (past : List Saying) (entry : Entry) → demand_of_saying party (reading past) (sayings.Command Into one) entry ≡ []
one_none party (Ok command) is past entry = asking_none party command.identifier command.content is past entry
one_none party (Err (ZeroIdentifier code identifier)) is past entry = refl
one_none party (Err (BadLength code None)) is past entry = refl
one_none party (Err (BadLength code (Some identifier))) is past entry = by (eqb identifier 0)
  where
    by : (b : Bool) → demand_of entry.channel (meant (reading past).requests (cond b Quiet (Asks Into identifier (Unread code)))) ≡ []
    by true = refl
    by false = refl
one_none party (Err (UnknownCode code identifier)) is past entry = refl
one_none party (Err (AboveMtu code identifier)) is past entry = refl

-- a request and its answer change nothing
exchange_none : (party : Party) (channel : Channel) (past : List Saying) (one : Read) (identifier : ℕ) (response : Option Content) (v : Channels) → ((before : List Saying) (entry : Entry) → demand_of_saying party (reading before) (sayings.Command Into one) entry ≡ [])
    → IsReply response → waiting party channel (past ++ exchanged one (command_if identifier response) v) ≡ waiting party channel past
exchange_none party channel past one identifier None v quiet reply = silent party channel past (sayings.Command Into one) (quiet past)
exchange_none party channel past one identifier (Some content) v quiet reply = by (has_room v)
  where
    heard : List Saying
    heard = past ++ sayings.Command Into one ∷ []

    by : (room : Bool) → waiting party channel (past ++ cond room (sayings.Command Into one ∷ spoken (command_with identifier content) ∷ []) []) ≡ waiting party channel past
    by true =
        sym (ap (waiting party channel) (append_assoc past (sayings.Command Into one ∷ []) (spoken (command_with identifier content) ∷ [])))
        ∙ (silent party channel heard (spoken (command_with identifier content)) (response_none party identifier content reply heard) ∙ silent party channel past (sayings.Command Into one) (quiet past))
    by false = ap (waiting party channel) (append-nil past)

-- ---- what always holds

abbrev pub Heeds : Party → Channel → List Saying → Channels → Type 0
Heeds party channel past v = (m : Option ℕ) → asked_on (held_at channel.own v) ≡ Some m → waiting party channel past ≡ m

none_waits : (party : Party) (channel : Channel) (past : List Saying) → read_at channel.own (reading past).entries ≡ None → waiting party channel past ≡ None
none_waits party channel past none = ap (λ (c : Counts). c.options) (counts-before party channel past (any-none (is_of channel) (reading past).entries none))

-- behind sayings that leave alone what waits
mild_heeds : (party : Party) (channel : Channel) (policy : Policy) (past said : List Saying) (w : Channels) → Mild party channel w said → Sound policy (reading (past ++ said)) w → Heeds party channel past w → Heeds party channel (past ++ said) w
mild_heeds party channel policy past said w mild sound heeds m asked = (mild past).waits (sound-named policy (past ++ said) w sound) m asked (heeds m asked)

rests_heeds : (party : Party) (channel : Channel) (past : List Saying) (v w : Channels) → Rests v w → Heeds party channel past v → Heeds party channel past w
rests_heeds party channel past v w rests heeds m asked = by (rests channel.own)
  where
    by : Stays (asked_on (held_at channel.own w)) (asked_on (held_at channel.own v)) → waiting party channel past ≡ m
    by (inl none) = let never : None ≡ Some m = sym none ∙ asked in absurd cc
    by (inr same) = heeds m (sym same ∙ asked)

pub rests-mild : (party : Party) (channel : Channel) (policy : Policy) (past said : List Saying) (v w : Channels) → Rests v w → Mild party channel w said → Sound policy (reading (past ++ said)) w → Heeds party channel past v → Heeds party channel (past ++ said) w
rests-mild party channel policy past said v w rests mild sound heeds = mild_heeds party channel policy past said w mild sound (rests_heeds party channel past v w rests heeds)

-- ---- what is asked anew

-- what waits is as the host has it, but where it has just asked
abbrev pub Nearly : Party → Channel → List Saying → Channels → Channels → Type 0
Nearly party channel past v w = (m : Option ℕ) → asked_on (held_at channel.own w) ≡ Some m → (waiting party channel past ≡ m) ⊎ IsAnew channel.own v w

asked_heeds : (party : Party) (channel : Channel) (policy : Policy) (past : List Saying) (v w : Channels) → Nearly party channel past v w → Sound policy (reading (past ++ asked_between v w)) w → Heeds party channel (past ++ asked_between v w) w
asked_heeds party channel policy past v w nearly sound m asked = by (nearly m asked)
  where
    fresh : (n : ℕ) → asked_on (held_at channel.own w) ≡ Some (Some n) → (same : Bool) → eqb w.identifier v.identifier ≡ same → w.identifier ≡ next_identifier v.identifier → (errand : Option Errand) → newest w.queue ≡ errand → errand ≡ Some (errands.Configuration channel.own)
        → (let said : List Saying = past ++ cond same [] (said_of errand w) in AreNamed (reading said).entries w → waiting party channel said ≡ Some n)
    fresh n asks true is next errand at config = λ named. let never : true ≡ false = sym is ∙ (ap (λ i. eqb i v.identifier) next ∙ next-apart v.identifier) in absurd cc
    fresh n asks false is next errand at config =
        subst (λ e. let said : List Saying = past ++ said_of e w in AreNamed (reading said).entries w → waiting party channel said ≡ Some n) (sym config) (new-waits party channel past w n asks)

    by : (waiting party channel past ≡ m) ⊎ IsAnew channel.own v w → waiting party channel (past ++ asked_between v w) ≡ m
    by (inl waits) = (mild-asked party channel v w past).waits (sound-named policy (past ++ asked_between v w) w sound) m asked waits
    by (inr anew) =
        let same : Some (Some v.identifier) ≡ Some m = sym anew.asked ∙ asked in
        let inner : Some v.identifier ≡ m = cc in
        fresh v.identifier anew.asked (eqb w.identifier v.identifier) refl anew.next (newest w.queue) refl anew.newest_is (sound-named policy (past ++ asked_between v w) w sound) ∙ inner

-- a step of a channel
pub goes-nearly : (party : Party) (channel : Channel) (policy : Policy) (past before : List Saying) (v w : Channels) → waiting party channel past ≡ waiting party channel before → GoesAt channel.own v w → Sound policy (reading before) v → Heeds party channel before v → Nearly party channel past v w
goes-nearly party channel policy past before v w same (inl (inl none)) sound heeds m asked = let never : None ≡ Some m = sym none ∙ asked in absurd cc
goes-nearly party channel policy past before v w same (inl (inr stays)) sound heeds m asked = inl (same ∙ heeds m (sym stays ∙ asked))
goes-nearly party channel policy past before v w same (inr (inl anew)) sound heeds m asked = inr anew
goes-nearly party channel policy past before v w same (inr (inr born)) sound heeds m asked =
    let is : Some None ≡ Some m = sym born.asked ∙ asked in
    let inner : None ≡ m = cc in
    let here : v.next ≤ channel.own = omega (arith, born.own_is) in
    inl (same ∙ (none_waits party channel before (sound.core.read_below channel.own here) ∙ inner))

-- with what is said before the request
pub behind : (party : Party) (channel : Channel) (policy : Policy) (past said : List Saying) (v w : Channels) → Nearly party channel (past ++ said) v w → Sound policy (reading (past ++ (said ++ asked_between v w))) w → Heeds party channel (past ++ (said ++ asked_between v w)) w
behind party channel policy past said v w nearly sound =
    let there : (past ++ said) ++ asked_between v w ≡ past ++ (said ++ asked_between v w) = append_assoc past said (asked_between v w) in
    subst (λ all. Heeds party channel all w) there (asked_heeds party channel policy (past ++ said) v w nearly (subst (λ all. Sound policy (reading all) w) (sym there) sound))

-- ---- a request of the peer

pub alike_goes : (own : ℕ) (v u w : Channels) → IsAlike v u → GoesAt own u w → GoesAt own v w
alike_goes own v u w alike (inl (inl none)) = inl (inl none)
alike_goes own v u w alike (inl (inr stays)) = inl (inr (stays ∙ ap (λ hs. asked_on (find (has_own own) hs)) alike.held_is))
alike_goes own v u w alike (inr (inl anew)) = inr (inl (record { next = anew.next ∙ ap next_identifier alike.identifier_is; newest_is = anew.newest_is; asked = anew.asked ∙ ap (λ i. Some (Some i)) alike.identifier_is }))
alike_goes own v u w alike (inr (inr born)) = inr (inr (record { own_is = sym alike.next_is ∙ born.own_is; asked = born.asked }))

pub asked-so : (party : Party) (channel : Channel) (policy : Policy) (past : List Saying) (v u : Channels) (one : Read) (identifier : ℕ) (response : Option Content) (content : Content) → is_asking one ≡ true → IsReply response → IsAlike v u
    → Sound policy (reading past) v → Heeds party channel past v
    → (let w : Channels = follows policy content u in let said : List Saying = past ++ (exchanged one (command_if identifier response) v ++ asked_between v w) in Sound policy (reading said) w → Heeds party channel said w)
asked-so party channel policy past v u one identifier response content asking reply alike sound heeds after =
    let w : Channels = follows policy content u in
    let none : find (has_own u.next) u.held ≡ None = ap (find (has_own u.next)) alike.held_is ∙ sound.core.held_below u.next (omega (arith, alike.next_is)) in
    behind party channel policy past (exchanged one (command_if identifier response) v) v w
    (goes-nearly party channel policy (past ++ exchanged one (command_if identifier response) v) past v w (exchange_none party channel past one identifier response v (one_none party one asking) reply)
    (alike_goes channel.own v u w alike (follows-goes policy content u none channel.own)) sound heeds) after
