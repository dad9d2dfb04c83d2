-- A host's request for options of a channel is accepted where its peer said so, or sent a PDU on the channel.
use Rattle.std.proofs.Common.{◌≡◌, ℕ, List, [], ◌∷◌, ◌++◌, map, Bool, true, false, cond, eqb, ◌&&◌, Option, Some, None, Result, Ok, Err, refl, sym, ap, subst, ◌∙◌, inl, inr, arith, append_assoc, append-nil, ◌||◌}
use Rattle.std.specs.Prelude.{find, option_map, option_to_list, is_some, nat_le}
use Rattle.std.proofs.lemmas.Bool.{eqb-true}
use Rattle.own_channel_laws.specs.talk_laws.specs.acl_fragments.specs.Pieces.{channel_of}
use Rattle.own_channel_laws.specs.talk_laws.specs.capture.specs.declared.flow.Flow.TheVariants.{Into}
use Rattle.own_channel_laws.specs.talk_laws.specs.l2cap_signal.specs.Commands.{Command, Content, reject, connection_request, connection_response, configuration_request, configuration_response, disconnection_request, disconnection_response, echo_request, echo_response, information_request, information_response}
use Rattle.own_channel_laws.specs.talk_laws.specs.l2cap_signal.specs.Reading.{Answer as Read}
use Rattle.own_channel_laws.specs.talk_laws.specs.l2cap_config.specs.declared.options.Options.{Options}
use Rattle.own_channel_laws.specs.talk_laws.specs.l2cap_config.specs.declared.options.ConfigRefusal.{ConfigRefusal}
use Rattle.own_channel_laws.specs.talk_laws.specs.l2cap_config.specs.declared.agreement.Settled.{Settled}
use Rattle.own_channel_laws.specs.talk_laws.specs.l2cap_config.specs.declared.agreement.Settled.TheVariants.{Accepted, Again, Wait, Never}
use Rattle.own_channel_laws.specs.talk_laws.specs.l2cap_config.specs.declared.wish.Mode.{Mode}
use Rattle.own_channel_laws.specs.talk_laws.specs.l2cap_config.specs.declared.wish.Wish.{Wish}
use Rattle.own_channel_laws.specs.talk_laws.specs.l2cap_config.specs.Agreement.{settled, keeps_mode, requested}
use Rattle.own_channel_laws.specs.talk_laws.specs.l2cap_config.specs.Reading.{options_read}
use Rattle.own_channel_laws.specs.talk_laws.specs.l2cap_config.specs.Writing.{written}
use Rattle.own_channel_laws.specs.talk_laws.specs.link_talk.specs.declared.channel.Channel.{Channel}
use Rattle.own_channel_laws.specs.talk_laws.specs.link_talk.specs.Sayings.{Saying, Carried}
use Rattle.own_channel_laws.specs.talk_laws.specs.link_talk.specs.Sayings as sayings
use Rattle.own_channel_laws.specs.talk_laws.specs.link_talk.specs.Senses.{sense}
use Rattle.own_channel_laws.specs.talk_laws.specs.link_talk.specs.Meanings.{meant}
use Rattle.own_channel_laws.specs.talk_laws.specs.link_talk.specs.Setups.{Wished, setup_after}
use Rattle.own_channel_laws.specs.talk_laws.specs.link_talk.specs.Channels.{Entry, entry_after, is_there, Reading, reading}
use Rattle.own_channel_laws.specs.channel_model.specs.declared.errand.Errand.TheVariants as errands
use Rattle.own_channel_laws.specs.channel_model.specs.Value.{Own, Unasked, Asking, Granted, Request, Carrier, Plain, Retransmitting, Setup, Stage, Requested, Connected, Leaving, Closing, Crossed, Held, Channels}
use Rattle.own_channel_laws.specs.channel_model.specs.Policies.{Policy}
use Rattle.own_channel_laws.specs.channel_model.specs.Changing.{has_own, held_at, is_leaving, setup_of, with_setup, to_setup}
use Rattle.own_channel_laws.specs.channel_model.specs.Asking.{asks_options}
use Rattle.own_channel_laws.specs.channel_model.specs.Closing.{closes}
use Rattle.own_channel_laws.specs.channel_model.specs.declared.event.CloseReason.TheVariants.{NoAgreement}
use Rattle.own_channel_laws.specs.channel_model.specs.Carrying.{takes}
use Rattle.own_channel_laws.specs.channel_model.specs.Following.{follows, can_say}
use Rattle.own_channel_laws.specs.channel_model.specs.Responses.{renewed_setup, hears_settled, is_asked, hears_options, hears_response_on, hears_response, features_in, hears_features}
use Rattle.own_channel_laws.specs.channel_model.specs.Hearing.{hears_content}
use Rattle.own_channel_laws.specs.channel_model.specs.Timing.{times_held, times_end, times_features}
use Rattle.own_channel_laws.specs.channel_model.specs.Giving.{Given, Signal, Whole, Framed, next_given, after_given}
use Rattle.own_channel_laws.specs.channel_model.specs.Calls.{setup_on, carrier_at, connected, asks_features, disconnected, sends, after_event}
use Rattle.own_channel_laws.specs.channel_model.proofs.Walking.{found-own}
use Rattle.own_channel_laws.specs.OwnTalk.{spoken, command_with, command_if, exchanged, asked_between}
use Rattle.own_channel_laws.specs.Runs.{Occurrence, Comes, Connects, AsksFeatures, Disconnects, Sends, Gives, Fires, Tells, peer_at, given_up, features_given_up, said_again, said_on_firing, said_by_features, said_by_carrier, said_as, said_in, value_after, run_of}
use Rattle.own_channel_laws.specs.Tries.{own_request}
use Rattle.own_channel_laws.specs.Views.{asked_mode, read_at}
use Rattle.own_channel_laws.specs.Endpoints.{IsOf}
use Rattle.channel_laws.specs.Consent.{IsShown, GrantsAreShown}
use Rattle.own_channel_laws.proofs.Anew.{GoesAt, Goes as GoOn, rests-goes, asks-anew, third-goes, follows-goes, grant-goes}
use Rattle.own_channel_laws.proofs.Answered.{setup-asks, features_rest, response_else}
use Rattle.channel_laws.proofs.Bestowing.{still_of}
use Rattle.own_channel_laws.proofs.Conversing.{reading-on, conversed}
use Rattle.own_channel_laws.proofs.Converses.{is_single, Goes, Converses}
use Rattle.own_channel_laws.proofs.Demanding.{asked_at, asked_on, Rests, same-rests, closes-rests, end-rests, disconnects-rests, sends-rest, times-rest, ends-rest, gives-rest, connects-rest, asks-rest}
use Rattle.own_channel_laws.proofs.Heeding.{alike_goes}
use Rattle.own_channel_laws.proofs.Holding.{IsRead, is-read}
use Rattle.own_channel_laws.proofs.Lasting.{asked_by}
use Rattle.own_channel_laws.proofs.Options.{lost_rests}
use Rattle.channel_laws.proofs.OwnWishes.{goes_on, asked_same, IsMild, heard_mild, spoken_mild}
use Rattle.own_channel_laws.proofs.Replying.{is_response, IsReply}
use Rattle.own_channel_laws.proofs.Running.{all-sound}
use Rattle.own_channel_laws.proofs.Saying.{stands-left, stands-right}
use Rattle.own_channel_laws.proofs.Taking.{takes-others}
use Rattle.own_channel_laws.proofs.Wishing.{talks_to, IsNamed, AreNamed, setup_wishes, sound-named}
use Rattle.own_channel_laws.proofs.Words.{Words, words-asked, words-left, words-again, words-firing}

-- ---- what was asked of a channel

-- its host has asked for its options
record WasAsked (own : ℕ) (said : List Saying) : Type 0 where
  entry : Entry
  found : read_at own (reading said).entries ≡ Some entry
  asked : is_some entry.setup.asked ≡ true

-- behind what has another meaning it was asked for before
one_back : (own : ℕ) (past : List Saying) (s : Saying) → ((x : Entry) → read_at own (reading past).entries ≡ Some x → (entry_after (meant (reading past).requests (sense s)) x).setup.asked ≡ x.setup.asked) → WasAsked own (past ++ s ∷ []) → WasAsked own past
one_back own past s same was =
    goes_on (λ e. is_some e.setup.asked ≡ true → WasAsked own past) (λ channel now. cc) own (reading past).entries (meant (reading past).requests (sense s))
    (λ x found now. record { entry = x; found = found; asked = now })
    (λ x found now. record { entry = x; found = found; asked = sym (ap (λ (m : Option Mode). is_some m) (same x found)) ∙ now })
    was.entry (sym (ap (λ (r : Reading). read_at own r.entries) (reading-on past (s ∷ []))) ∙ was.found) was.asked

mild_back : (own : ℕ) (past : List Saying) (s : Saying) → IsMild s → WasAsked own (past ++ s ∷ []) → WasAsked own past
mild_back own past s mild was = one_back own past s (λ x found. asked_same x (meant (reading past).requests (sense s)) (mild (reading past).requests)) was

-- ---- what a host says while no request for options of the channel waits

-- it was asked for before all of it
abbrev AllBack : (own : ℕ) → Channels → List Saying → Type 0
AllBack own w said = (past rest : List Saying) → AreNamed (reading ((past ++ said) ++ rest)).entries w → asked_on (held_at own w) ≡ Some None → WasAsked own (past ++ said) → WasAsked own past

none_back : (own : ℕ) (w : Channels) → AllBack own w []
none_back own w past rest named none was = subst (WasAsked own) (append-nil past) was

both_back : (own : ℕ) (w : Channels) (xs ys : List Saying) → AllBack own w xs → AllBack own w ys → AllBack own w (xs ++ ys)
both_back own w xs ys one other past rest named none was =
    let there : (past ++ xs) ++ ys ≡ past ++ (xs ++ ys) = append_assoc past xs ys in
    let later : AreNamed (reading (((past ++ xs) ++ ys) ++ rest)).entries w = subst (λ l. AreNamed (reading (l ++ rest)).entries w) (sym there) named in
    one past (ys ++ rest) (subst (λ l. AreNamed (reading l).entries w) (append_assoc (past ++ xs) ys rest) later) none
    (other (past ++ xs) rest later none (subst (WasAsked own) (sym there) was))

mild_all : (own : ℕ) (w : Channels) (s : Saying) → IsMild s → AllBack own w (s ∷ [])
mild_all own w s mild past rest named none was = mild_back own past s mild was

-- a channel of which no request waits
none_talks : (stage : Stage) → asked_at stage ≡ Some None → (peer : ℕ) × (talks_to stage ≡ Some peer)
none_talks (Requested request) is = cc
none_talks (Connected peer setup) is = (peer, refl)
none_talks (Leaving peer setup request) is = (peer, refl)
none_talks (Closing peer request checked) is = cc
none_talks (Crossed peer request) is = cc

-- a request for options that waits is that of another channel
wish_back : (own : ℕ) (w : Channels) (other peer : ℕ) (held : Held) (request : Request) (octets : List ℕ) → held_at other w ≡ Some held → talks_to held.stage ≡ Some peer → asked_at held.stage ≡ Some (Some request.identifier)
    → AllBack own w (spoken (command_with request.identifier (configuration_request peer 0 octets)) ∷ [])
wish_back own w other peer held request octets at talks asks past rest named none was = one_back own past s same was
  where
    s : Saying
    s = spoken (command_with request.identifier (configuration_request peer 0 octets))

    all : List Saying
    all = (past ++ s ∷ []) ++ rest

    -- it is not this one
    apart : (mine : Option Held) → held_at own w ≡ mine → asked_on mine ≡ Some None → (x : Entry) → read_at own (reading past).entries ≡ Some x → eqb peer x.channel.peer ≡ false
    apart None here waits x found = cc
    apart (Some mine) here waits x found =
        let (own_peer, mine_talks) = none_talks mine.stage waits in
        let it : IsNamed (reading all).entries own own_peer = named.named own own_peer mine here mine_talks in
        let of : IsOf x.channel (Some it.entry) =
        subst (IsOf x.channel) it.found (subst (λ l. IsOf x.channel (read_at own (reading l).entries)) (sym (append_assoc past (s ∷ []) rest)) (still_of past (s ∷ rest) own x.channel (subst (IsOf x.channel) (sym found) refl))) in
        by own_peer mine_talks (sym (ap (λ (c : Channel). c.peer) of) ∙ it.peer_is) (eqb peer x.channel.peer) refl
      where
        by : (own_peer : ℕ) → talks_to mine.stage ≡ Some own_peer → x.channel.peer ≡ own_peer → (b : Bool) → eqb peer x.channel.peer ≡ b → b ≡ false
        by own_peer mine_talks to false is = refl
        by own_peer mine_talks to true is =
            let one : other ≡ own = named.lone other own own_peer held mine at here (talks ∙ ap Some (eqb-true peer x.channel.peer is ∙ to)) mine_talks in
            let same : held_at own w ≡ Some held = subst (λ n. held_at n w ≡ Some held) one at in
            let both : asked_on (Some held) ≡ Some None = ap asked_on (sym same) ∙ (ap asked_on here ∙ waits) in
            let never : Some (Some request.identifier) ≡ Some None = sym asks ∙ both in absurd cc

    same : (x : Entry) → read_at own (reading past).entries ≡ Some x → (entry_after (meant (reading past).requests (sense s)) x).setup.asked ≡ x.setup.asked
    same x found = by (is_there x.life) (eqb peer x.channel.peer) (apart (held_at own w) refl none x found)
      where
        by : (there named : Bool) → named ≡ false → (cond there (setup_after x.setup (cond named (Some (Wished octets)) None)) x.setup).asked ≡ x.setup.asked
        by true false is = refl
        by true true is = cc
        by false named is = refl

own_words : (own : ℕ) (w : Channels) → Words w (AllBack own w)
own_words own w = record {
  none = none_back own w;
  both = both_back own w;
  calls = λ other held request at is. mild_all own w _ (λ asked. refl);
  wishes = λ other peer held setup request options at has to is. let (talks, asks) = setup_wishes held.stage setup peer request options has to is in wish_back own w other peer held request (written options) at talks asks;
  ends = λ identifier peer other. mild_all own w _ (λ asked. refl);
  asks = λ request is. mild_all own w _ (λ asked. refl);
  lets_call = λ identifier other. mild_all own w _ (λ asked. refl);
  lets_end = λ other peer. mild_all own w _ (λ asked. refl);
}

asked_back : (own : ℕ) (v w : Channels) → AllBack own w (asked_between v w)
asked_back own v w = words-asked w (AllBack own w) (own_words own w) v

exchange_back : (own : ℕ) (w : Channels) (one : Read) (identifier : ℕ) (response : Option Content) (v : Channels) → IsReply response → AllBack own w (exchanged one (command_if identifier response) v)
exchange_back own w one identifier response v reply = by (can_say (option_map (λ (c : Command). c.content) (command_if identifier response)) v) response reply
  where
    by : (can : Bool) (r : Option Content) → IsReply r → AllBack own w (cond can (sayings.Command Into one ∷ map spoken (option_to_list (command_if identifier r))) [])
    by true None is = mild_all own w (sayings.Command Into one) (heard_mild one)
    by true (Some content) is =
        both_back own w (sayings.Command Into one ∷ []) (spoken (command_with identifier content) ∷ []) (mild_all own w (sayings.Command Into one) (heard_mild one)) (mild_all own w (spoken (command_with identifier content)) (spoken_mild identifier content is))
    by false r is = none_back own w

carrier_back : (own : ℕ) (w : Channels) (carrier : Option Carrier) (peer : ℕ) (sdu : List ℕ) → AllBack own w (said_by_carrier carrier peer sdu)
carrier_back own w None peer sdu = none_back own w
carrier_back own w (Some (Plain agreed None)) peer sdu = mild_all own w _ (λ asked. refl)
carrier_back own w (Some (Plain agreed (Some waiting))) peer sdu = none_back own w
carrier_back own w (Some (Retransmitting machine)) peer sdu = none_back own w

given_back : (own : ℕ) (w : Channels) (given : Option Given) (pdu : List ℕ) → AllBack own w (said_as given pdu)
given_back own w None pdu = none_back own w
given_back own w (Some (Signal command)) pdu = none_back own w
given_back own w (Some (Whole peer sdu)) pdu = none_back own w
given_back own w (Some (Framed peer frame)) pdu = mild_all own w _ (λ asked. refl)

features_back : (own : ℕ) (w : Channels) (before after : Option Request) → AllBack own w (features_given_up before after)
features_back own w None after = none_back own w
features_back own w (Some request) None = mild_all own w _ (λ asked. refl)
features_back own w (Some request) (Some other) = none_back own w

-- ---- what always holds

-- of a channel whose options were asked for, and of which no request waits, its acceptance was shown
abbrev Knows : (own : ℕ) → List Saying → Channels → Type 0
Knows own past v = WasAsked own past → asked_on (held_at own v) ≡ Some None → IsShown own past

shown_more : (own : ℕ) (past said : List Saying) → IsShown own past → IsShown own (past ++ said)
shown_more own past said (inl (identifier, flags, options, stands)) = inl (identifier, flags, options, stands-left _ past said stands)
shown_more own past said (inr (pdu, to, stands)) = inr (pdu, to, stands-left _ past said stands)

goes_know : (policy : Policy) (own : ℕ) (past said : List Saying) (v w : Channels) → AllBack own w said → GoesAt own v w → Goes policy (Knows own) past v said w
goes_know policy own past said v w back goes sound knows after was none = by goes
  where
    before : WasAsked own past
    before = back past [] (subst (λ l. AreNamed (reading l).entries w) (sym (append-nil (past ++ said))) (sound-named policy (past ++ said) w after)) none was

    by : GoesAt own v w → IsShown own (past ++ said)
    by (inl (inl gone)) = let never : None ≡ Some None = sym gone ∙ none in absurd cc
    by (inl (inr same)) = shown_more own past said (knows before (sym same ∙ none))
    by (inr (inl anew)) = let never : Some (Some v.identifier) ≡ Some None = sym anew.asked ∙ none in absurd cc
    by (inr (inr born)) =
        let unread : read_at own (reading past).entries ≡ None = sound.core.read_below own (omega (arith, born.own_is)) in
        let never : None ≡ Some before.entry = sym unread ∙ before.found in absurd cc

rests_know : (policy : Policy) (own : ℕ) (past said : List Saying) (v w : Channels) → AllBack own w said → Rests v w → Goes policy (Knows own) past v said w
rests_know policy own past said v w back rests = goes_know policy own past said v w back (rests-goes v w rests own)

-- ---- a response to the own request

same_goes : (v : Channels) → GoOn v v
same_goes v = rests-goes v v (same-rests v v refl)

either : (b : Bool) (v x y : Channels) → GoOn v x → GoOn v y → GoOn v (cond b x y)
either true v x y one other = one
either false v x y one other = other

-- any but success
abbrev IsRefused : Settled → Type 0
IsRefused Accepted = ⊥
IsRefused (Again options) = Unit {0}
IsRefused Wait = Unit {0}
IsRefused Never = Unit {0}

refused_by : (wish : Wish) (answer : ℕ) (options : Options) → eqb answer 0 ≡ false → IsRefused (settled wish answer options)
refused_by wish answer options is = by (eqb answer 0) (eqb answer 4) (eqb answer 1 && keeps_mode wish options) is
  where
    by : (zero four one : Bool) → zero ≡ false → IsRefused (cond zero Accepted (cond four Wait (cond one (Again (requested wish options)) Never)))
    by true four one is = cc
    by false true one is = tt
    by false false true is = tt
    by false false false is = tt

-- leaves the request as it was, or there is a new one, or the channel is closed
refused_goes : (v : Channels) (now : Settled) (held : Held) (setup : Setup) → IsRefused now → find (has_own held.own) v.held ≡ Some held → setup_of held.stage ≡ Some setup → GoOn v (hears_settled now held setup v)
refused_goes v Accepted held setup refused found has = elim refused [ ]
refused_goes v (Again options) held setup refused found has =
    let after : Setup = renewed_setup setup in
    either (is_leaving held.stage || nat_le 3 after.renewed) v (closes NoAgreement (with_setup held after) (to_setup held after v)) (asks_options held after options v) (third-goes v held setup after refl found has) (asks-anew v held after options found)
refused_goes v Wait held setup refused found has = same_goes v
refused_goes v Never held setup refused found has = rests-goes v (hears_settled Never held setup v) (closes-rests v held NoAgreement found)

response_here : (policy : Policy) (v : Channels) (own identifier answer : ℕ) (octets : List ℕ) (held : Option Held) → held_at own v ≡ held → eqb answer 0 ≡ false → GoOn v (hears_response held policy identifier answer octets v)
response_here policy v own identifier answer octets None at refused = same_goes v
response_here policy v own identifier answer octets (Some held) at refused = on (setup_of held.stage) refl
  where
    read : (found : Result Options ConfigRefusal) (setup : Setup) → setup_of held.stage ≡ Some setup → GoOn v (hears_options found policy answer held setup v)
    read (Ok options) setup has = refused_goes v (settled (policy.wish held.psm) answer options) held setup (refused_by (policy.wish held.psm) answer options refused) (found-own own v held at) has
    read (Err refusal) setup has = same_goes v

    on : (setup : Option Setup) → setup_of held.stage ≡ setup → GoOn v (hears_response_on setup policy identifier answer octets held v)
    on None has = same_goes v
    on (Some setup) has = either (is_asked identifier setup.own) v (hears_options (options_read octets) policy answer held setup v) v (read (options_read octets) setup has) (same_goes v)

-- ---- each step

abbrev readable : (identifier : ℕ) → Content → Read
readable identifier content = Ok (command_with identifier content)

-- what is heard of the peer
answered_back : (own : ℕ) (v w : Channels) (identifier : ℕ) (content : Content) → AllBack own w (exchanged (readable identifier content) None v ++ asked_between v w)
answered_back own v w identifier content =
    both_back own w (exchanged (readable identifier content) None v) (asked_between v w) (exchange_back own w (readable identifier content) identifier None v tt) (asked_back own v w)

abbrev Answered_so : Policy → (own : ℕ) → List Saying → Channels → (identifier : ℕ) → Content → Type 0
Answered_so policy own past v identifier content = (let w : Channels = hears_content policy identifier content v in Goes policy (Knows own) past v (exchanged (readable identifier content) None v ++ asked_between v w) w)

options_know : (policy : Policy) (own : ℕ) (past : List Saying) (v : Channels) (identifier source flags answer : ℕ) (octets : List ℕ) → Answered_so policy own past v identifier (configuration_response source flags answer octets)
options_know policy own past v identifier source flags answer octets = by (eqb source own) refl (eqb answer 0) refl
  where
    content : Content
    content = configuration_response source flags answer octets

    w : Channels
    w = hears_response (held_at source v) policy identifier answer octets v

    said : List Saying
    said = exchanged (readable identifier content) None v ++ asked_between v w

    by : (here : Bool) → eqb source own ≡ here → (zero : Bool) → eqb answer 0 ≡ zero → Goes policy (Knows own) past v said w
    by false away zero is = goes_know policy own past said v w (answered_back own v w identifier content) (response_else policy v source own identifier answer octets (held_at source v) refl away)
    by true here false is = goes_know policy own past said v w (answered_back own v w identifier content) (response_here policy v source identifier answer octets (held_at source v) refl is own)
    by true here true is = λ sound knows after was none.
        let it : content ≡ configuration_response own flags 0 octets = ap (λ n. configuration_response n flags answer octets) (eqb-true source own here) ∙ ap (λ n. configuration_response own flags n octets) (eqb-true answer 0 is) in
        inl (identifier, flags, octets, stands-right _ past said (inl (ap (λ c. sayings.Command Into (readable identifier c)) it)))

answered_know : (policy : Policy) (own : ℕ) (past : List Saying) (v : Channels) (identifier : ℕ) (content : Content) → is_response content ≡ true → Answered_so policy own past v identifier content
answered_know policy own past v identifier (reject reason rest) is =
    let w : Channels = hears_features identifier None v in
    rests_know policy own past _ v w (answered_back own v w identifier (reject reason rest)) (features_rest identifier None v)
answered_know policy own past v identifier (connection_request psm source) is = cc
answered_know policy own past v identifier (connection_response destination source answer status) is =
    let content : Content = connection_response destination source answer status in
    let w : Channels = hears_content policy identifier content v in
    goes_know policy own past _ v w (answered_back own v w identifier content) (grant-goes v source (held_at source v) policy identifier destination answer refl own)
answered_know policy own past v identifier (configuration_request destination flags options) is = cc
answered_know policy own past v identifier (configuration_response source flags answer options) is = options_know policy own past v identifier source flags answer options
answered_know policy own past v identifier (disconnection_request destination source) is = cc
answered_know policy own past v identifier (disconnection_response destination source) is =
    let content : Content = disconnection_response destination source in
    let w : Channels = hears_content policy identifier content v in
    rests_know policy own past _ v w (answered_back own v w identifier content) (end-rests v (held_at source v) destination)
answered_know policy own past v identifier (echo_request octets) is = cc
answered_know policy own past v identifier (echo_response octets) is = rests_know policy own past _ v v (answered_back own v v identifier (echo_response octets)) (same-rests v v refl)
answered_know policy own past v identifier (information_request kind) is = cc
answered_know policy own past v identifier (information_response kind answer rest) is =
    let given : Option ℕ = features_in kind answer rest in
    let w : Channels = hears_features identifier given v in
    rests_know policy own past _ v w (answered_back own v w identifier (information_response kind answer rest)) (features_rest identifier given v)

taken_know : (policy : Policy) (own : ℕ) (past : List Saying) (v : Channels) (pdu : List ℕ) → (let w : Channels = takes (channel_of pdu) pdu v in Goes policy (Knows own) past v (Carried Into pdu ∷ asked_between v w) w)
taken_know policy own past v pdu = by (eqb (channel_of pdu) own) refl
  where
    w : Channels
    w = takes (channel_of pdu) pdu v

    said : List Saying
    said = Carried Into pdu ∷ asked_between v w

    by : (here : Bool) → eqb (channel_of pdu) own ≡ here → Goes policy (Knows own) past v said w
    by true here = λ sound knows after was none. inr (pdu, eqb-true (channel_of pdu) own here, stands-right _ past said (inl refl))
    by false away =
        goes_know policy own past said v w (both_back own w (Carried Into pdu ∷ []) (asked_between v w) (mild_all own w (Carried Into pdu) (λ asked. refl)) (asked_back own v w))
        (inl (inr (ap asked_on ((takes-others (channel_of pdu) pdu v).others own away))))

single_know : (policy : Policy) (own : ℕ) (past : List Saying) (v : Channels) (more : Occurrence) → is_single more ≡ true → Goes policy (Knows own) past v (said_in policy more v) (value_after policy more v)
single_know policy own past v (Comes pdu) is = cc
single_know policy own past v (Connects psm) is = let w : Channels = connected psm v in rests_know policy own past (asked_between v w) v w (asked_back own v w) (connects-rest psm v)
single_know policy own past v AsksFeatures is = let w : Channels = asks_features v in rests_know policy own past (asked_between v w) v w (asked_back own v w) (asks-rest v)
single_know policy own past v (Disconnects other) is =
    let w : Channels = disconnected other v in rests_know policy own past (asked_between v w ++ given_up other v w) v w (words-left w (AllBack own w) (own_words own w) other v) (disconnects-rests other v)
single_know policy own past v (Sends other sdu) is =
    let w : Channels = sends other sdu v in rests_know policy own past (said_in policy (Sends other sdu) v) v w (carrier_back own w (carrier_at other v) (peer_at (held_at other v)) sdu) (sends-rest other sdu v)
single_know policy own past v (Gives pdu) is = λ sound. let w : Channels = after_given v in rests_know policy own past (said_as (next_given v) pdu) v w (given_back own w (next_given v) pdu) (gives-rest v sound.core.lone) sound
single_know policy own past v Fires is = cc
single_know policy own past v Tells is = rests_know policy own past [] v (after_event v) (none_back own (after_event v)) (same-rests v (after_event v) refl)

converses : (policy : Policy) (own : ℕ) → Converses policy (λ v. Unit {0}) (Knows own)
converses policy own = record {
  first = tt;
  kept = λ v more lone known. tt;
  asked = λ past v u one identifier response content asking reply alike waits sound.
      let w : Channels = follows policy content u in
      let none : find (has_own u.next) u.held ≡ None = ap (find (has_own u.next)) alike.held_is ∙ sound.core.held_below u.next (omega (arith, alike.next_is)) in
      goes_know policy own past _ v w (both_back own w (exchanged one (command_if identifier response) v) (asked_between v w) (exchange_back own w one identifier response v reply) (asked_back own v w))
      (alike_goes own v u w alike (follows-goes policy content u none own)) sound;
  answered = λ past v identifier content is. answered_know policy own past v identifier content is;
  taken = λ past v pdu known. taken_know policy own past v pdu;
  waits = λ past v tries other. let w : Channels = times_held (held_at other v) tries v in rests_know policy own past (said_on_firing other v w) v w (words-firing w (AllBack own w) (own_words own w) other v) (times-rest tries other v);
  ends = λ past v tries other. let w : Channels = times_end (held_at other v) tries v in rests_know policy own past (said_on_firing other v w) v w (words-firing w (AllBack own w) (own_words own w) other v) (ends-rest tries other v);
  loses = λ past v tries.
      let w : Channels = times_features v.features tries v in
      rests_know policy own past (said_by_features tries v) v w
      (both_back own w (said_again errands.Features v w) (features_given_up v.features w.features) (words-again w (AllBack own w) (own_words own w) errands.Features v) (features_back own w v.features w.features)) (lost_rests tries v v.features);
  single = λ past v more is known. single_know policy own past v more is;
}

-- ---- the law

some_asked : (wish : Wish) (own : Own) → own ≡ Granted → is_some (asked_mode wish own) ≡ true
some_asked wish Unasked is = cc
some_asked wish (Asking request options) is = cc
some_asked wish Granted is = refl

none_waits : (own : Own) → own ≡ Granted → asked_by (own_request own) ≡ None
none_waits Unasked is = cc
none_waits (Asking request options) is = cc
none_waits Granted is = refl

pub grants-are_shown : GrantsAreShown
grants-are_shown policy list own setup is granted = by (held_at own (run_of policy list).value) refl is
  where
    by : (held : Option Held) → held_at own (run_of policy list).value ≡ held → setup_on held ≡ Some setup → IsShown own (run_of policy list).said
    by None at is = cc
    by (Some held) at is =
        let r : IsRead policy (run_of policy list).said own held setup = is-read policy (run_of policy list).said (run_of policy list).value own held setup at is (all-sound policy list) in
        conversed policy (λ v. Unit {0}) (Knows own) (converses policy own) (λ was none. let never : None ≡ Some was.entry = was.found in absurd cc) list
        (record { entry = r.entry; found = r.found; asked = ap (λ (m : Option Mode). is_some m) r.agrees.set_up.asked_is ∙ some_asked (policy.wish held.psm) setup.own granted })
        (ap asked_on at ∙ (setup-asks held.stage setup is ∙ ap Some (none_waits setup.own granted)))
