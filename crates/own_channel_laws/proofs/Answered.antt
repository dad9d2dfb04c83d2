-- The peer answers a request for options.
use Rattle.std.proofs.Common.{◌≡◌, ℕ, List, [], ◌∷◌, ◌++◌, fold, Bool, true, false, cond, eqb, not, ◌&&◌, Option, Some, None, Result, Ok, Err, refl, sym, ap, subst, ◌∙◌, inl, inr}
use Rattle.std.proofs.lemmas.Bool.{eqb-true}
use Rattle.talk_laws.specs.capture.specs.declared.flow.Flow.TheVariants.{Into}
use Rattle.talk_laws.specs.l2cap_signal.specs.Commands.{Content, reject, connection_request, connection_response, configuration_request, configuration_response, disconnection_request, disconnection_response, echo_request, echo_response, information_request, information_response}
use Rattle.talk_laws.specs.l2cap_signal.specs.Reading.{Answer as Read}
use Rattle.talk_laws.specs.l2cap_config.specs.declared.options.Options.{Options}
use Rattle.talk_laws.specs.l2cap_config.specs.declared.options.ConfigRefusal.{ConfigRefusal}
use Rattle.talk_laws.specs.l2cap_config.specs.declared.wish.Wish.{Wish}
use Rattle.talk_laws.specs.l2cap_config.specs.Reading.{options_read}
use Rattle.talk_laws.specs.l2cap_config.specs.Agreement.{settled, requested, keeps_mode}
use Rattle.talk_laws.specs.link_talk.specs.declared.channel.Channel.{Channel}
use Rattle.talk_laws.specs.link_talk.specs.declared.party.Party.{Party}
use Rattle.talk_laws.specs.link_talk.specs.Sayings.{Saying, Carried, GaveUp}
use Rattle.talk_laws.specs.link_talk.specs.Sayings as sayings
use Rattle.talk_laws.specs.link_talk.specs.Meanings.{Nothing, Settles, granted, settled as settles, is_read}
use Rattle.talk_laws.specs.link_talk.specs.Channels.{Entry, is_there, reading}
use Rattle.talk_laws.specs.link_talk.specs.Waits.{OptionsAnswered, demand_of, demand_of_saying, demand_at, demanded, unless_same, Demand}
use Rattle.channel_model.specs.declared.errand.Errand.TheVariants as errands
use Rattle.channel_model.specs.Value.{Own, Unasked, Asking, Granted, Setup, Stage, Requested, Connected, Leaving, Closing, Crossed, Held, Channels}
use Rattle.channel_model.specs.Policies.{Policy}
use Rattle.channel_model.specs.Changing.{held_at, setup_of, forgets, tells}
use Rattle.channel_model.specs.Responses.{is_asked, hears_settled, hears_options, hears_response_on, hears_response, hears_features, features_in, has_identifier}
use Rattle.channel_model.specs.Hearing.{hears_content}
use Rattle.channel_model.proofs.Lookups.{own_of, found-has, eqb-same}
use Rattle.channel_model.proofs.Walking.{found-own}
use Rattle.own_channel_laws.specs.OwnTalk.{command_with, exchanged, asked_between}
use Rattle.own_channel_laws.specs.Tries.{own_request}
use Rattle.own_channel_laws.specs.Views.{read_at}
use Rattle.own_channel_laws.proofs.Entries.{read-own}
use Rattle.own_channel_laws.proofs.Sound.{Sound}
use Rattle.own_channel_laws.proofs.Lasting.{asked_by}
use Rattle.own_channel_laws.proofs.Replying.{is_response}
use Rattle.own_channel_laws.proofs.Demanding.{asked_at, asked_on, Rests, same-rests, end-rests}
use Rattle.own_channel_laws.proofs.Anew.{GoesAt, rests-goes, grant-goes}
use Rattle.own_channel_laws.proofs.Accepting.{IsDone, IsAnswered, IsFinal, settled-answers}
use Rattle.own_channel_laws.proofs.Wishing.{waiting, waiting-more, silent, sound-named, talks_to}
use Rattle.channel_model.specs.declared.event.ChannelEvent.TheVariants.{Features}
use Rattle.talk_laws.specs.l2cap_config.specs.declared.agreement.Settled.TheVariants.{Accepted, Again, Wait, Never}
use Rattle.own_channel_laws.proofs.Heeding.{Heeds, Nearly, goes-nearly, behind, channel-none}

-- ---- a response of the peer

abbrev readable : (identifier : ℕ) → Content → Read
readable identifier content = Ok (command_with identifier content)

abbrev heard : (identifier : ℕ) → Content → Saying
heard identifier content = sayings.Command Into (readable identifier content)

-- one that is nothing for options
besides : (party : Party) (channel : Channel) (policy : Policy) (past : List Saying) (v w : Channels) (identifier : ℕ) (content : Content) → ((before : List Saying) (entry : Entry) → demand_of_saying party (reading before) (heard identifier content) entry ≡ [])
    → GoesAt channel.own v w → Sound policy (reading past) v → Heeds party channel past v
    → (let said : List Saying = past ++ (exchanged (readable identifier content) None v ++ asked_between v w) in Sound policy (reading said) w → Heeds party channel said w)
besides party channel policy past v w identifier content quiet goes sound heeds after =
    behind party channel policy past (heard identifier content ∷ []) v w (goes-nearly party channel policy (past ++ heard identifier content ∷ []) past v w (silent party channel past (heard identifier content) (quiet past)) goes sound heeds) after

-- the answer to a request for options
answers_mode : (wish : Wish) (answer : ℕ) (options : Options) → eqb answer 4 ≡ false → IsFinal (settled wish answer options)
answers_mode wish answer options away = by (eqb answer 0) (eqb answer 4) away (eqb answer 1 && keeps_mode wish options)
  where
    by : (zero four : Bool) → four ≡ false → (again : Bool) → IsFinal (cond zero Accepted (cond four Wait (cond again (Again (requested wish options)) Never)))
    by true four is again = tt
    by false true is again = cc
    by false false is true = tt
    by false false is false = tt

-- another one follows
waits_mode : (wish : Wish) (answer : ℕ) (options : Options) (held : Held) (setup : Setup) (v : Channels) → eqb answer 4 ≡ true → hears_settled (settled wish answer options) held setup v ≡ v
waits_mode wish answer options held setup v is =
    subst (λ n. hears_settled (settled wish n options) held setup v ≡ v) (sym (eqb-true answer 4 is)) refl

-- what the response demands, where it settles
abbrev settled_at : (identifier source : ℕ) (settles : Bool) → Option Entry → List Demand
settled_at identifier source settles None = []
settled_at identifier source settles (Some entry) = cond (is_there entry.life) (demand_of entry.channel (cond settles (Settles identifier source) Nothing)) []

-- what the response demands
response_at : (party : Party) (channel : Channel) (past : List Saying) (identifier source flags answer : ℕ) (octets : List ℕ) (b : Bool) → (is_read (options_read octets) && not (eqb answer 4)) ≡ b
    → (let content : Content = configuration_response source flags answer octets in
    waiting party channel (past ++ heard identifier content ∷ []) ≡ fold demanded (waiting party channel past) (settled_at identifier source b (read_at channel.own (reading past).entries)))
response_at party channel past identifier source flags answer octets b is = waiting-more party channel past _ ∙ by (read_at channel.own (reading past).entries)
  where
    content : Content
    content = configuration_response source flags answer octets

    m : Option ℕ
    m = waiting party channel past

    by : (found : Option Entry) → fold demanded m (demand_at party (reading past) (heard identifier content) found) ≡ fold demanded m (settled_at identifier source b found)
    by None = refl
    by (Some entry) = ap (λ t. fold demanded m (cond (is_there entry.life) (demand_of entry.channel (cond t (Settles identifier source) Nothing)) [])) is

settled_none : (identifier source : ℕ) (found : Option Entry) → settled_at identifier source false found ≡ []
settled_none identifier source None = refl
settled_none identifier source (Some entry) = by (is_there entry.life)
  where
    by : (b : Bool) → (let none : List Demand = [] in cond b none none ≡ none)
    by true = refl
    by false = refl

-- of another channel it is nothing
settled_else : (identifier source own : ℕ) (settles : Bool) (entries : List Entry) (found : Option Entry) → read_at own entries ≡ found → eqb source own ≡ false → settled_at identifier source settles found ≡ []
settled_else identifier source own settles entries None is away = refl
settled_else identifier source own settles entries (Some entry) is away = by (is_there entry.life) settles
  where
    by : (there settles : Bool) → cond there (demand_of entry.channel (cond settles (Settles identifier source) Nothing)) [] ≡ []
    by true true = ap (λ n. cond (eqb source n) (OptionsAnswered identifier ∷ []) []) (read-own own entries entry is) ∙ ap (λ t. cond t (OptionsAnswered identifier ∷ []) []) away
    by true false = refl
    by false settles = refl

-- a channel that talks is there
settled_here : (identifier own : ℕ) (entries : List Entry) (entry : Entry) → read_at own entries ≡ Some entry → is_there entry.life ≡ true → settled_at identifier own true (Some entry) ≡ OptionsAnswered identifier ∷ []
settled_here identifier own entries entry is there =
    ap (λ t. cond t (cond (eqb own entry.channel.own) (OptionsAnswered identifier ∷ []) []) []) there
    ∙ (ap (λ n. cond (eqb own n) (OptionsAnswered identifier ∷ []) []) (read-own own entries entry is) ∙ ap (λ t. cond t (OptionsAnswered identifier ∷ []) []) (eqb-same own))

-- the channel waits for its own request
pub setup-asks : (stage : Stage) (setup : Setup) → setup_of stage ≡ Some setup → asked_at stage ≡ Some (asked_by (own_request setup.own))
setup-asks (Requested request) setup is = cc
setup-asks (Connected peer s) setup is = let same : s ≡ setup = cc in ap (λ (x : Setup). Some (asked_by (own_request x.own))) same
setup-asks (Leaving peer s request) setup is = let same : s ≡ setup = cc in ap (λ (x : Setup). Some (asked_by (own_request x.own))) same
setup-asks (Closing peer request checked) setup is = cc
setup-asks (Crossed peer request) setup is = cc

pub setup-talks : (stage : Stage) (setup : Setup) → setup_of stage ≡ Some setup → (peer : ℕ) × (talks_to stage ≡ Some peer)
setup-talks (Requested request) setup is = cc
setup-talks (Connected peer s) setup is = (peer, refl)
setup-talks (Leaving peer s request) setup is = (peer, refl)
setup-talks (Closing peer request checked) setup is = cc
setup-talks (Crossed peer request) setup is = cc

pub no-setup_asks : (stage : Stage) (m : Option ℕ) → setup_of stage ≡ None → asked_at stage ≡ Some m → ⊥
no-setup_asks (Requested request) m is asks = cc
no-setup_asks (Connected peer setup) m is asks = cc
no-setup_asks (Leaving peer setup request) m is asks = cc
no-setup_asks (Closing peer request checked) m is asks = cc
no-setup_asks (Crossed peer request) m is asks = cc

asked_has : (identifier : ℕ) (own : Own) → is_asked identifier own ≡ true → asked_by (own_request own) ≡ Some identifier
asked_has identifier Unasked is = cc
asked_has identifier (Asking request options) is = ap Some (eqb-true request.identifier identifier is)
asked_has identifier Granted is = cc

not_asked : (identifier : ℕ) (own : Own) → is_asked identifier own ≡ false → unless_same (asked_by (own_request own)) identifier ≡ asked_by (own_request own)
not_asked identifier Unasked is = refl
not_asked identifier (Asking request options) is = ap (λ t. cond t None (Some request.identifier)) is
not_asked identifier Granted is = refl

-- an answer to a request that does not wait
passes_by : (identifier own : ℕ) (waits : Option ℕ) (settles : Bool) (found : Option Entry) → unless_same waits identifier ≡ waits → fold demanded waits (settled_at identifier own settles found) ≡ waits
passes_by identifier own waits settles None same = refl
passes_by identifier own waits settles (Some entry) same = by (is_there entry.life) settles
  where
    mine : (b : Bool) → fold demanded waits (cond b (OptionsAnswered identifier ∷ []) []) ≡ waits
    mine true = same
    mine false = refl

    by : (there settles : Bool) → fold demanded waits (cond there (demand_of entry.channel (cond settles (Settles identifier own) Nothing)) []) ≡ waits
    by true true = mine (eqb own entry.channel.own)
    by true false = refl
    by false settles = refl

-- of another channel
pub response_else : (policy : Policy) (v : Channels) (source own identifier answer : ℕ) (octets : List ℕ) (held : Option Held) → held_at source v ≡ held → eqb source own ≡ false → GoesAt own v (hears_response held policy identifier answer octets v)
response_else policy v source own identifier answer octets None at away = rests-goes v v (same-rests v v refl) own
response_else policy v source own identifier answer octets (Some held) at away = on (setup_of held.stage) refl
  where
    same : GoesAt own v v
    same = rests-goes v v (same-rests v v refl) own

    apart : eqb held.own own ≡ false
    apart = ap (λ n. eqb n own) (found-has own_of source v.held held at) ∙ away

    settled_so : (setup : Setup) (options : Options) (four : Bool) → eqb answer 4 ≡ four → setup_of held.stage ≡ Some setup → GoesAt own v (hears_settled (settled (policy.wish held.psm) answer options) held setup v)
    settled_so setup options true is has = subst (GoesAt own v) (sym (waits_mode (policy.wish held.psm) answer options held setup v is)) same
    settled_so setup options false is has = (settled-answers v (settled (policy.wish held.psm) answer options) held setup (answers_mode (policy.wish held.psm) answer options is) (found-own source v held at) has).others own apart

    read : (found : Result Options ConfigRefusal) (setup : Setup) → setup_of held.stage ≡ Some setup → GoesAt own v (hears_options found policy answer held setup v)
    read (Ok options) setup has = settled_so setup options (eqb answer 4) refl has
    read (Err refusal) setup has = same

    asks : (asked : Bool) (setup : Setup) → setup_of held.stage ≡ Some setup → GoesAt own v (cond asked (hears_options (options_read octets) policy answer held setup v) v)
    asks true setup has = read (options_read octets) setup has
    asks false setup has = same

    on : (setup : Option Setup) → setup_of held.stage ≡ setup → GoesAt own v (hears_response_on setup policy identifier answer octets held v)
    on None has = same
    on (Some setup) has = asks (is_asked identifier setup.own) setup has

-- of the channel itself
response_here : (party : Party) (channel : Channel) (policy : Policy) (past : List Saying) (v : Channels) (identifier flags answer : ℕ) (octets : List ℕ) (held : Held) (setup : Setup) → held_at channel.own v ≡ Some held → setup_of held.stage ≡ Some setup
    → Sound policy (reading past) v → Heeds party channel past v → (asked : Bool) → is_asked identifier setup.own ≡ asked → (found : Result Options ConfigRefusal) → options_read octets ≡ found → (four : Bool) → eqb answer 4 ≡ four
    → Nearly party channel (past ++ heard identifier (configuration_response channel.own flags answer octets) ∷ []) v (cond asked (hears_options found policy answer held setup v) v)
response_here party channel policy past v identifier flags answer octets held setup at has sound heeds = by
  where
    waits : Option ℕ
    waits = waiting party channel past

    after : List Saying
    after = past ++ heard identifier (configuration_response channel.own flags answer octets) ∷ []

    asks : asked_on (held_at channel.own v) ≡ Some (asked_by (own_request setup.own))
    asks = ap asked_on at ∙ setup-asks held.stage setup has

    -- nothing is settled
    still : (is_read (options_read octets) && not (eqb answer 4)) ≡ false → Nearly party channel after v v
    still none m asked =
        inl (response_at party channel past identifier channel.own flags answer octets false none ∙ (ap (fold demanded waits) (settled_none identifier channel.own (read_at channel.own (reading past).entries)) ∙ heeds m asked))

    answered_now : (is_read (options_read octets) && not (eqb answer 4)) ≡ true → is_asked identifier setup.own ≡ true → waiting party channel after ≡ None
    answered_now settles is =
        let (peer, talks) = setup-talks held.stage setup has in
        let named = (sound-named policy past v sound).named channel.own peer held at talks in
        response_at party channel past identifier channel.own flags answer octets true settles
        ∙ (ap (λ e. fold demanded waits (settled_at identifier channel.own true e)) named.found
        ∙ (ap (fold demanded waits) (settled_here identifier channel.own (reading past).entries named.entry named.found named.there)
        ∙ (ap (λ w. unless_same w identifier) (heeds (asked_by (own_request setup.own)) asks ∙ asked_has identifier setup.own is)
        ∙ ap (λ t. cond t None (Some identifier)) (eqb-same identifier))))

    done : (w : Channels) → waiting party channel after ≡ None → IsDone channel.own v w → Nearly party channel after v w
    done w none (inl gone) m asked = let never : None ≡ Some m = sym gone ∙ asked in absurd cc
    done w none (inr (inl granted)) m asked =
        let is : Some None ≡ Some m = sym granted ∙ asked in
        let inner : None ≡ m = cc in inl (none ∙ inner)
    done w none (inr (inr anew)) m asked = inr anew

    by : (asked : Bool) → is_asked identifier setup.own ≡ asked → (found : Result Options ConfigRefusal) → options_read octets ≡ found → (four : Bool) → eqb answer 4 ≡ four → Nearly party channel after v (cond asked (hears_options found policy answer held setup v) v)
    by false is found read four last = λ m asked.
        inl (response_at party channel past identifier channel.own flags answer octets (is_read (options_read octets) && not (eqb answer 4)) refl
        ∙ (passes_by identifier channel.own waits (is_read (options_read octets) && not (eqb answer 4)) (read_at channel.own (reading past).entries)
        (subst (λ n. unless_same n identifier ≡ n) (sym (heeds (asked_by (own_request setup.own)) asks)) (not_asked identifier setup.own is)) ∙ heeds m asked))
    by true is (Err refusal) read four last = still (ap (λ r. is_read r && not (eqb answer 4)) read)
    by true is (Ok options) read true last =
        subst (Nearly party channel after v) (sym (waits_mode (policy.wish held.psm) answer options held setup v last)) (still (ap (λ r. is_read r && not (eqb answer 4)) read ∙ ap not last))
    by true is (Ok options) read false last =
        let wish : Wish = policy.wish held.psm in
        let answers : IsAnswered held v (hears_settled (settled wish answer options) held setup v) =
        settled-answers v (settled wish answer options) held setup (answers_mode wish answer options last) (found-own channel.own v held at) has in
        done (hears_settled (settled wish answer options) held setup v) (answered_now (ap (λ r. is_read r && not (eqb answer 4)) read ∙ ap not last) is)
        (subst (λ n. IsDone n v (hears_settled (settled wish answer options) held setup v)) (found-has own_of channel.own v.held held at) answers.done)

response_nearly : (party : Party) (channel : Channel) (policy : Policy) (past : List Saying) (v : Channels) (identifier source flags answer : ℕ) (octets : List ℕ) → Sound policy (reading past) v → Heeds party channel past v
    → Nearly party channel (past ++ heard identifier (configuration_response source flags answer octets) ∷ []) v (hears_response (held_at source v) policy identifier answer octets v)
response_nearly party channel policy past v identifier source flags answer octets sound heeds = by (eqb source channel.own) refl
  where
    on : (setup : Option Setup) (held : Held) → setup_of held.stage ≡ setup → held_at channel.own v ≡ Some held
        → Nearly party channel (past ++ heard identifier (configuration_response channel.own flags answer octets) ∷ []) v (hears_response_on setup policy identifier answer octets held v)
    on None held has at = λ m asked. absurd (no-setup_asks held.stage m has (sym (ap asked_on at) ∙ asked))
    on (Some setup) held has at = response_here party channel policy past v identifier flags answer octets held setup at has sound heeds (is_asked identifier setup.own) refl (options_read octets) refl (eqb answer 4) refl

    here : (held : Option Held) → held_at channel.own v ≡ held → Nearly party channel (past ++ heard identifier (configuration_response channel.own flags answer octets) ∷ []) v (hears_response held policy identifier answer octets v)
    here None at = λ m asked. let never : None ≡ Some m = sym (ap asked_on at) ∙ asked in absurd cc
    here (Some held) at = on (setup_of held.stage) held refl at

    by : (same : Bool) → eqb source channel.own ≡ same → Nearly party channel (past ++ heard identifier (configuration_response source flags answer octets) ∷ []) v (hears_response (held_at source v) policy identifier answer octets v)
    by true is =
        subst (λ n. Nearly party channel (past ++ heard identifier (configuration_response n flags answer octets) ∷ []) v (hears_response (held_at n v) policy identifier answer octets v)) (sym (eqb-true source channel.own is))
        (here (held_at channel.own v) refl)
    by false away =
        let settles : Bool = is_read (options_read octets) && not (eqb answer 4) in
        goes-nearly party channel policy (past ++ heard identifier (configuration_response source flags answer octets) ∷ []) past v (hears_response (held_at source v) policy identifier answer octets v)
        (response_at party channel past identifier source flags answer octets settles refl
        ∙ ap (fold demanded (waiting party channel past)) (settled_else identifier source channel.own settles (reading past).entries (read_at channel.own (reading past).entries) refl away))
        (response_else policy v source channel.own identifier answer octets (held_at source v) refl away) sound heeds

pub features_rest : (identifier : ℕ) (given : Option ℕ) (v : Channels) → Rests v (hears_features identifier given v)
features_rest identifier given v = same-rests v (hears_features identifier given v) (by (has_identifier identifier v.features))
  where
    by : (b : Bool) → (cond b (tells (Features given) (forgets errands.Features (record v { features = None }))) v).held ≡ v.held
    by true = refl
    by false = refl

pub answered-so : (party : Party) (channel : Channel) (policy : Policy) (past : List Saying) (v : Channels) (identifier : ℕ) (content : Content) → is_response content ≡ true → Sound policy (reading past) v → Heeds party channel past v
    → (let w : Channels = hears_content policy identifier content v in let said : List Saying = past ++ (exchanged (readable identifier content) None v ++ asked_between v w) in Sound policy (reading said) w → Heeds party channel said w)
answered-so party channel policy past v identifier (reject reason rest) is sound heeds =
    besides party channel policy past v (hears_features identifier None v) identifier (reject reason rest) (λ before entry. refl) (rests-goes v (hears_features identifier None v) (features_rest identifier None v) channel.own) sound heeds
answered-so party channel policy past v identifier (connection_request psm source) is sound heeds = cc
answered-so party channel policy past v identifier (connection_response destination source answer status) is sound heeds =
    besides party channel policy past v (hears_content policy identifier (connection_response destination source answer status) v) identifier (connection_response destination source answer status)
    (λ before entry. channel-none entry.channel (reading before).requests identifier destination source answer) (grant-goes v source (held_at source v) policy identifier destination answer refl channel.own) sound heeds
answered-so party channel policy past v identifier (configuration_request destination flags options) is sound heeds = cc
answered-so party channel policy past v identifier (configuration_response source flags answer options) is sound heeds =
    behind party channel policy past (heard identifier (configuration_response source flags answer options) ∷ []) v (hears_response (held_at source v) policy identifier answer options v)
    (response_nearly party channel policy past v identifier source flags answer options sound heeds)
answered-so party channel policy past v identifier (disconnection_request destination source) is sound heeds = cc
answered-so party channel policy past v identifier (disconnection_response destination source) is sound heeds =
    let w : Channels = hears_content policy identifier (disconnection_response destination source) v in
    besides party channel policy past v w identifier (disconnection_response destination source) (λ before entry. refl) (rests-goes v w (end-rests v (held_at source v) destination) channel.own) sound heeds
answered-so party channel policy past v identifier (echo_request octets) is sound heeds = cc
answered-so party channel policy past v identifier (echo_response octets) is sound heeds =
    besides party channel policy past v v identifier (echo_response octets) (λ before entry. refl) (rests-goes v v (same-rests v v refl) channel.own) sound heeds
answered-so party channel policy past v identifier (information_request kind) is sound heeds = cc
answered-so party channel policy past v identifier (information_response kind answer rest) is sound heeds =
    let given : Option ℕ = features_in kind answer rest in
    besides party channel policy past v (hears_features identifier given v) identifier (information_response kind answer rest) (λ before entry. refl) (rests-goes v (hears_features identifier given v) (features_rest identifier given v) channel.own) sound heeds
