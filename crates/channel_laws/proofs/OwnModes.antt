-- A host accepts options of a channel in the mode alone that it wishes of it.
use Rattle.std.proofs.Common.{◌≡◌, ℕ, ◌%◌, List, [], ◌∷◌, ◌++◌, map, drop, Bool, true, false, cond, eqb, not, ◌&&◌, Option, Some, None, Result, Ok, Err, refl, sym, ap, subst, ◌∙◌, append_assoc}
use Rattle.std.specs.Prelude.{find, option_map, unwrap_or}
use Rattle.std.specs.List.{AllByRecursion}
use Rattle.std.proofs.lemmas.Bool.{eqb-true}
use Rattle.own_channel_laws.specs.talk_laws.specs.acl_fragments.specs.Pieces.{channel_of}
use Rattle.own_channel_laws.specs.talk_laws.specs.capture.specs.declared.flow.Flow.{Flow}
use Rattle.own_channel_laws.specs.talk_laws.specs.capture.specs.declared.flow.Flow.TheVariants.{Into}
use Rattle.own_channel_laws.specs.talk_laws.specs.l2cap_signal.specs.Commands.{Content, reject, connection_request, connection_response, configuration_request, configuration_response, disconnection_request, disconnection_response, echo_request, echo_response, information_request, information_response}
use Rattle.own_channel_laws.specs.talk_laws.specs.l2cap_signal.specs.Reading.{Answer as Read, answers}
use Rattle.own_channel_laws.specs.talk_laws.specs.l2cap_signal.specs.declared.refusal.SignalRefusal.TheVariants.{ZeroIdentifier, BadLength, UnknownCode, AboveMtu}
use Rattle.own_channel_laws.specs.talk_laws.specs.l2cap_config.specs.declared.options.Options.{Options}
use Rattle.own_channel_laws.specs.talk_laws.specs.l2cap_config.specs.declared.options.ConfigRefusal.{ConfigRefusal}
use Rattle.own_channel_laws.specs.talk_laws.specs.l2cap_config.specs.declared.agreement.ConfigAnswer.{ConfigAnswer}
use Rattle.own_channel_laws.specs.talk_laws.specs.l2cap_config.specs.declared.agreement.ConfigAnswer.TheVariants.{Accept, Unacceptable, Unknown}
use Rattle.own_channel_laws.specs.talk_laws.specs.l2cap_config.specs.declared.wish.Mode.{Mode}
use Rattle.own_channel_laws.specs.talk_laws.specs.l2cap_config.specs.declared.wish.Mode.TheVariants.{Basic}
use Rattle.own_channel_laws.specs.talk_laws.specs.l2cap_config.specs.declared.wish.Wish.{Wish}
use Rattle.own_channel_laws.specs.talk_laws.specs.l2cap_config.specs.Items.{joined}
use Rattle.own_channel_laws.specs.talk_laws.specs.l2cap_config.specs.Reading.{options_read}
use Rattle.own_channel_laws.specs.talk_laws.specs.l2cap_config.specs.Agreement.{answered as answer_on}
use Rattle.own_channel_laws.specs.talk_laws.specs.link_talk.specs.declared.channel.Channel.{Channel}
use Rattle.own_channel_laws.specs.talk_laws.specs.link_talk.specs.Sayings.{Saying, Carried}
use Rattle.own_channel_laws.specs.talk_laws.specs.link_talk.specs.Sayings as sayings
use Rattle.own_channel_laws.specs.talk_laws.specs.link_talk.specs.Requests.{Terms, answered_query}
use Rattle.own_channel_laws.specs.talk_laws.specs.link_talk.specs.Meanings.{Part, Answers, Nothing, answered}
use Rattle.own_channel_laws.specs.talk_laws.specs.link_talk.specs.Setups as read
use Rattle.own_channel_laws.specs.talk_laws.specs.link_talk.specs.Setups.{mode_in, is_set, with_answer, setup_after, Answered}
use Rattle.own_channel_laws.specs.talk_laws.specs.link_talk.specs.Channels.{Entry, fresh, entry_after, is_there, Reading, reading}
use Rattle.own_channel_laws.specs.channel_model.specs.declared.errand.Errand.TheVariants as errands
use Rattle.own_channel_laws.specs.channel_model.specs.declared.request_kind.RequestKind.TheVariants as kinds
use Rattle.own_channel_laws.specs.channel_model.specs.Value.{Own, Unasked, Asking, Granted, Request, Carrier, Plain, Retransmitting, Setup, Stage, Requested, Connected, Leaving, Closing, Crossed, Held, Remembered, Channels}
use Rattle.own_channel_laws.specs.channel_model.specs.Policies.{Policy}
use Rattle.own_channel_laws.specs.channel_model.specs.Changing.{has_own, held_at, is_open, setup_of}
use Rattle.own_channel_laws.specs.channel_model.specs.Asking.{first_options}
use Rattle.own_channel_laws.specs.channel_model.specs.Configuring.{Verdict, TooLate, Judged, judged_part, judged_read, judged_setup, judged_stage, verdict_on, verdict, accepted_setup, accepts_with, follows_verdict}
use Rattle.own_channel_laws.specs.channel_model.specs.Answers.{remembered, answer_to, configuration_answer}
use Rattle.own_channel_laws.specs.channel_model.specs.Following.{follows_setup, follows_configuration, follows, remembers, says, can_say, hears_again, hears_new, hears_kind}
use Rattle.own_channel_laws.specs.channel_model.specs.Hearing.{hears_content, hears_command}
use Rattle.own_channel_laws.specs.channel_model.specs.Carrying.{takes}
use Rattle.own_channel_laws.specs.channel_model.specs.Timing.{times_held, times_features}
use Rattle.own_channel_laws.specs.channel_model.specs.Giving.{Given, Signal, Whole, Framed, next_given}
use Rattle.own_channel_laws.specs.channel_model.specs.Calls.{setup_on, carrier_at, connected, asks_features, disconnected}
use Rattle.own_channel_laws.specs.channel_model.proofs.Lookups.{own_of, found-has}
use Rattle.own_channel_laws.specs.channel_model.proofs.Walking.{found-own, with-found, with-setup}
use Rattle.own_channel_laws.specs.OwnTalk.{spoken, command_with, response_by, response_to, command_if, reply_to, exchanged, asked_between, said_with, said_with_all}
use Rattle.own_channel_laws.specs.Runs.{Occurrence, Comes, Connects, AsksFeatures, Disconnects, Sends, Gives, Fires, Tells, peer_at, said_again, features_given_up, said_on_firing, said_by_channel, said_by_features, said_by_channels, fired_channel, said_by_carrier, said_as, said_in, Run}
use Rattle.own_channel_laws.specs.Views.{peer_of, life_of, carrier_mode, standing, read_at}
use Rattle.channel_laws.specs.Modes.{ModesAreOwn}
use Rattle.own_channel_laws.proofs.Sound.{CarrierIs, Agrees, AgreesIf, ReadsBy, Reads, QueriesKept, IsRepeated, RepeatsOf, Repeats, RepeatsIn, part_of, Sound, standing-is}
use Rattle.own_channel_laws.proofs.Entries.{read-own}
use Rattle.own_channel_laws.proofs.Both.{and-left}
use Rattle.own_channel_laws.proofs.Questions.{IsNew}
use Rattle.own_channel_laws.proofs.Configuring.{queried, Queries, queries-by, begins_same, query-new}
use Rattle.own_channel_laws.proofs.Conversing.{reading-on}
use Rattle.own_channel_laws.proofs.Commands.{IsTold, hears-any}
use Rattle.own_channel_laws.proofs.Told.{all-told}
use Rattle.own_channel_laws.proofs.Words.{words-asked, words-left, words-again, words-firing}
use Rattle.own_channel_laws.proofs.Running.{IsSound, along}
use Rattle.own_channel_laws.specs.talk_laws.specs.l2cap_signal.specs.declared.refusal.SignalRefusal.{SignalRefusal}
use Rattle.own_channel_laws.specs.talk_laws.specs.link_talk.specs.Requests.{query_terms}
use Rattle.own_channel_laws.specs.channel_model.specs.declared.request_kind.RequestKind.{RequestKind}
use Rattle.own_channel_laws.specs.channel_model.specs.Answers.{not_understood, too_long, connection_result, connection_answer, information_answer, kind_of_code}
use Rattle.own_channel_laws.specs.channel_model.specs.Following.{hears_request}
use Rattle.own_channel_laws.specs.channel_model.specs.Hearing.{hears_malformed, is_response_code, is_kind, hears_unread, hears_refused}
use Rattle.own_channel_laws.specs.OwnTalk.{response_as, response_malformed, response_unread}
use Rattle.own_channel_laws.proofs.Commands.{short-queries}
use Rattle.own_channel_laws.proofs.Mild.{IsOwn, OwnAt, after_keeps, same_accepted, IsMild, KeepsOwn, one_saying, no_sayings, both_sayings, heard_mild, is_about_options, spoken_mild, own_words}
use Rattle.own_channel_laws.proofs.PlainReplies.{plain_response, some_plain, no_plain, ended_plain, informed_plain}

-- ---- a channel that talks

agreeing_own : (wish : Wish) (setup : Setup) (said : read.Setup) → Agrees wish setup said → (mode : Mode) → said.accepted ≡ Some mode → wish.mode ≡ mode
agreeing_own wish setup said agrees mode is = by setup.carrier refl
  where
    by : (carrier : Option Carrier) → setup.carrier ≡ carrier → wish.mode ≡ mode
    by None at = let never : Some mode ≡ None = sym is ∙ (agrees.set_up.accepted_is ∙ ap (option_map carrier_mode) at) in absurd cc
    by (Some carrier) at =
        let both : Some (carrier_mode carrier) ≡ Some mode = sym (agrees.set_up.accepted_is ∙ ap (option_map carrier_mode) at) ∙ is in
        let same : carrier_mode carrier ≡ mode = cc in
        sym (subst (CarrierIs wish) at agrees.carrier_is) ∙ same

-- while its host has the options of it, what it accepted is what it wishes
talks_own : (policy : Policy) (r : Reading) (w : Channels) (n : ℕ) (held : Held) (setup : Setup) → Sound policy r w → held_at n w ≡ Some held → setup_of held.stage ≡ Some setup → OwnAt policy n r
talks_own policy r w n held setup sound at has entry found = by (peer_of held.stage) (subst (λ e. ReadsBy policy held (peer_of held.stage) e) found (subst (λ h. Reads policy h (read_at n r.entries)) at (sound.core.reads n)))
  where
    by : (peer : Option ℕ) → ReadsBy policy held peer (Some entry) → IsOwn policy entry
    by None reads = elim reads [ ]
    by (Some peer) (there, agrees) = λ mode is.
        ap (λ (c : Channel). (policy.wish c.psm).mode) there.channel_is
        ∙ agreeing_own (policy.wish held.psm) setup entry.setup (subst (λ s. AgreesIf (policy.wish held.psm) s entry.setup) (standing-is held.stage setup has) agrees) mode is

-- ---- a response to a request for options

-- the answer accepts options that are whole
abbrev is_whole : Content → Bool
is_whole (reject reason rest) = false
is_whole (connection_request psm source) = false
is_whole (connection_response destination source answer status) = false
is_whole (configuration_request destination flags options) = false
is_whole (configuration_response source flags answer options) = eqb answer 0 && not (eqb (flags % 2) 1)
is_whole (disconnection_request destination source) = false
is_whole (disconnection_response destination source) = false
is_whole (echo_request octets) = false
is_whole (echo_response octets) = false
is_whole (information_request kind) = false
is_whole (information_response kind answer rest) = false

-- any other leaves what was accepted
part_kept : (policy : Policy) (x : Entry) (part : Part) → (is_there x.life ≡ true → part.own ≡ x.channel.own → is_set x.setup ≡ false → (part.accepted && not part.more) ≡ false) → IsOwn policy x → IsOwn policy (entry_after (Answers part) x)
part_kept policy x part unwhole own mode is = own mode (sym (by (is_there x.life) (eqb part.own x.channel.own && eqb part.peer x.channel.peer) refl refl) ∙ is)
  where
    answer : (accepted more : Bool) → (accepted && not more) ≡ false
        → (cond accepted (cond more (record x.setup { parts = x.setup.parts ++ part.options }) (record x.setup { parts = []; accepted = Some (unwrap_or (mode_in (x.setup.parts ++ part.options)) Basic) })) (record x.setup { parts = [] })).accepted ≡ x.setup.accepted
    answer false more none = refl
    answer true true none = refl
    answer true false none = cc

    set : (b : Bool) → is_set x.setup ≡ b → (b ≡ false → (part.accepted && not part.more) ≡ false) → (cond b x.setup (with_answer x.setup part)).accepted ≡ x.setup.accepted
    set true at none = refl
    set false at none = answer part.accepted part.more (none refl)

    by : (there names : Bool) → is_there x.life ≡ there → (eqb part.own x.channel.own && eqb part.peer x.channel.peer) ≡ names → (cond there (setup_after x.setup (cond names (Some (Answered part)) None)) x.setup).accepted ≡ x.setup.accepted
    by false names at named = refl
    by true false at named = refl
    by true true at named =
        set (is_set x.setup) refl (unwhole at (eqb-true part.own x.channel.own (and-left (eqb part.own x.channel.own) (eqb part.peer x.channel.peer) named)))

-- ---- a request that is answered anew

accepted_there : (own : Own) (wish : Wish) (held : Held) (setup after : Setup) (u : Channels) → find (has_own held.own) u.held ≡ Some held → setup_of held.stage ≡ Some setup → (now : Setup) × (setup_on (held_at held.own (accepts_with own wish held after u)) ≡ Some now)
accepted_there Unasked wish held setup after u found has =
    let now : Setup = record after { own = Asking _ (first_options wish) } in (now, ap setup_on (with-found u held now found) ∙ with-setup held.stage setup now has)
accepted_there (Asking request options) wish held setup after u found has = (after, ap setup_on (with-found u held after found) ∙ with-setup held.stage setup after has)
accepted_there Granted wish held setup after u found has = (after, ap setup_on (with-found u held after found) ∙ with-setup held.stage setup after has)

-- what is accepted whole is there behind it
abbrev IsThereBehind : Verdict → Wish → Held → Setup → Channels → (own : ℕ) → Type 0
IsThereBehind now wish held setup u own = setup_on (held_at held.own (follows_verdict now wish held setup u)) ≡ None → is_whole (configuration_answer now own) ≡ false

answer_there : (wish : Wish) (held : Held) (setup : Setup) (u : Channels) (own peer : ℕ) (options : Options) (answer : ConfigAnswer) → find (has_own held.own) u.held ≡ Some held → setup_of held.stage ≡ Some setup → IsThereBehind (Judged peer options answer) wish held setup u own
answer_there wish held setup u own peer options (Accept given) found has none =
    let (now, is) = accepted_there setup.own wish held setup (accepted_setup wish options setup) u found has in
    let never : Some now ≡ None = sym is ∙ none in absurd cc
answer_there wish held setup u own peer options (Unacceptable refusal given) found has none = refl
answer_there wish held setup u own peer options Unknown found has none = refl

read_there : (wish : Wish) (held : Held) (setup : Setup) (u : Channels) (own peer flags : ℕ) (found_options : Result Options ConfigRefusal) → find (has_own held.own) u.held ≡ Some held → setup_of held.stage ≡ Some setup → IsThereBehind (judged_read peer flags wish setup found_options) wish held setup u own
read_there wish held setup u own peer flags (Err refusal) found has = λ none. refl
read_there wish held setup u own peer flags (Ok options) found has = by (eqb (flags % 2) 1)
  where
    by : (more : Bool) → IsThereBehind (judged_part more peer wish (joined setup.parts options)) wish held setup u own
    by true = λ none. refl
    by false = answer_there wish held setup u own peer (joined setup.parts options) (answer_on wish (joined setup.parts options)) found has

setup_there : (wish : Wish) (held : Held) (setup : Setup) (u : Channels) (own peer flags : ℕ) (octets : List ℕ) → find (has_own held.own) u.held ≡ Some held → setup_of held.stage ≡ Some setup → IsThereBehind (judged_setup peer flags wish setup octets) wish held setup u own
setup_there wish held setup u own peer flags octets found has = by (is_open setup)
  where
    by : (opened : Bool) → IsThereBehind (cond opened (TooLate peer) (judged_read peer flags wish setup (options_read octets))) wish held setup u own
    by true = λ none. refl
    by false = read_there wish held setup u own peer flags (options_read octets) found has

stage_there : (wish : Wish) (held : Held) (setup : Setup) (u : Channels) (own flags : ℕ) (octets : List ℕ) (stage : Stage) → find (has_own held.own) u.held ≡ Some held → setup_of held.stage ≡ Some setup → setup_of stage ≡ Some setup → IsThereBehind (judged_stage stage wish flags octets) wish held setup u own
stage_there wish held setup u own flags octets (Requested request) found has is = cc
stage_there wish held setup u own flags octets (Connected peer s) found has is =
    let same : setup ≡ s = cc in subst (λ x. IsThereBehind (judged_setup peer flags wish x octets) wish held setup u own) same (setup_there wish held setup u own peer flags octets found has)
stage_there wish held setup u own flags octets (Leaving peer s request) found has is =
    let same : setup ≡ s = cc in subst (λ x. IsThereBehind (judged_setup peer flags wish x octets) wish held setup u own) same (setup_there wish held setup u own peer flags octets found has)
stage_there wish held setup u own flags octets (Closing peer request checked) found has is = cc
stage_there wish held setup u own flags octets (Crossed peer request) found has is = cc

unset_stage : (wish : Wish) (own flags : ℕ) (octets : List ℕ) (stage : Stage) → setup_of stage ≡ None → is_whole (configuration_answer (judged_stage stage wish flags octets) own) ≡ false
unset_stage wish own flags octets (Requested request) none = refl
unset_stage wish own flags octets (Connected peer setup) none = cc
unset_stage wish own flags octets (Leaving peer setup request) none = cc
unset_stage wish own flags octets (Closing peer request checked) none = refl
unset_stage wish own flags octets (Crossed peer request) none = refl

new_unwhole : (policy : Policy) (v u : Channels) (own flags : ℕ) (octets : List ℕ) → u.held ≡ v.held → setup_on (held_at own (follows policy (configuration_request own flags octets) u)) ≡ None
    → is_whole (configuration_answer (verdict policy own flags octets v) own) ≡ false
new_unwhole policy v u own flags octets same none = by (held_at own v) refl
  where
    on : (held : Held) (setup : Option Setup) → held_at own v ≡ Some held → setup_of held.stage ≡ setup → is_whole (configuration_answer (judged_stage held.stage (policy.wish held.psm) flags octets) own) ≡ false
    on held None at has = unset_stage (policy.wish held.psm) own flags octets held.stage has
    on held (Some setup) at has =
        let mine : held.own ≡ own = found-has own_of own v.held held at in
        let there : held_at own u ≡ Some held = ap (find (has_own own)) same ∙ at in
        let here : held_at held.own u ≡ Some held = found-own own u held there in
        let goes : follows policy (configuration_request own flags octets) u ≡ follows_verdict (judged_stage held.stage (policy.wish held.psm) flags octets) (policy.wish held.psm) held setup u =
        ap (λ h. follows_configuration h policy flags octets u) there
        ∙ (ap (λ s. follows_setup s policy held flags octets u) has ∙ ap (λ h. follows_verdict (verdict_on h policy flags octets) (policy.wish held.psm) held setup u) here) in
        stage_there (policy.wish held.psm) held setup u own flags octets held.stage here has has (ap (λ n. setup_on (held_at n (follows_verdict (judged_stage held.stage (policy.wish held.psm) flags octets) (policy.wish held.psm) held setup u))) mine ∙ (ap (λ w. setup_on (held_at own w)) (sym goes) ∙ none))

    by : (found : Option Held) → held_at own v ≡ found → is_whole (configuration_answer (verdict policy own flags octets v) own) ≡ false
    by None at = ap (λ h. is_whole (configuration_answer (verdict_on h policy flags octets) own)) at
    by (Some held) at = ap (λ h. is_whole (configuration_answer (verdict_on h policy flags octets) own)) at ∙ on held (setup_of held.stage) at refl

-- ---- a request that is answered as before

query_again : (r : Reading) (identifier : ℕ) (terms : Option Terms) (v : Channels) (l : Remembered) → QueriesKept r.requests v.held r.entries (Some l) → l.identifier ≡ identifier → answered_query (queried r identifier terms).requests identifier ≡ answered_query r.requests l.identifier
query_again r identifier terms v l kept same =
    ap query_terms (begins_same identifier l.identifier _ r.requests.queries same kept.0 refl) ∙ ap (answered_query r.requests) (sym same)

-- it sets up no channel that was closed
repeated_unwhole : (policy : Policy) (r : Reading) (v : Channels) (sound : Sound policy r v) (identifier : ℕ) (l : Remembered) (peer flags answer : ℕ) (options : List ℕ) → v.memory.configuration ≡ Some l → l.response ≡ Some (configuration_response peer flags answer options)
    → (n : ℕ) (x : Entry) → read_at n r.entries ≡ Some x → is_there x.life ≡ true → setup_on (held_at n v) ≡ None → (terms : Terms) → answered_query r.requests l.identifier ≡ Some terms → terms.own ≡ n → is_set x.setup ≡ false
    → (eqb answer 0 && not (eqb (flags % 2) 1)) ≡ false
repeated_unwhole policy r v sound identifier l peer flags answer options last is n x found there none terms asked owned unset =
    by (held_at n v) refl none (sound.core.reads n) (subst (λ e. Repeats (held_at n v) e part) found (subst (λ k. Repeats (find (has_own k) v.held) (read_at k r.entries) part) owned repeats))
  where
    part : Part
    part = part_of terms peer flags answer

    kept : QueriesKept r.requests v.held r.entries (Some l)
    kept = subst (QueriesKept r.requests v.held r.entries) last sound.kept.queries

    repeats : Repeats (find (has_own terms.own) v.held) (read_at terms.own r.entries) part
    repeats = subst (λ t. RepeatsOf v.held r.entries t peer flags answer) asked (subst (IsRepeated (answered_query r.requests l.identifier) v.held r.entries) is kept.1)

    gone : is_there x.life ≡ false → (eqb answer 0 && not (eqb (flags % 2) 1)) ≡ false
    gone dead = let never : true ≡ false = sym there ∙ dead in absurd cc

    on : (held : Held) (stage : Stage) → held.stage ≡ stage → setup_of stage ≡ None → ReadsBy policy held (peer_of stage) (Some x) → RepeatsIn (standing stage) x.setup part → (eqb answer 0 && not (eqb (flags % 2) 1)) ≡ false
    on held (Requested request) stage_is none reads again = elim reads [ ]
    on held (Connected at setup) stage_is none reads again = cc
    on held (Leaving at setup request) stage_is none reads again = cc
    on held (Closing at request checked) stage_is none reads again = again unset
    on held (Crossed at request) stage_is none reads again = gone (ap is_there (reads.0.life_is ∙ ap life_of stage_is))

    by : (held : Option Held) → held_at n v ≡ held → setup_on held ≡ None → Reads policy held (read_at n r.entries) → Repeats held (Some x) part → (eqb answer 0 && not (eqb (flags % 2) 1)) ≡ false
    by None at none reads again = gone (ap is_there (subst (Reads policy None) found reads))
    by (Some held) at none reads again = on held held.stage refl none (subst (ReadsBy policy held (peer_of held.stage)) found reads) again

-- ---- a request and its answer

-- an answer that is about no options
plain_exchange : (policy : Policy) (past : List Saying) (v : Channels) (one : Read) (identifier : ℕ) (response : Option Content) → ((content : Content) → response ≡ Some content → is_about_options content ≡ false) → KeepsOwn policy (exchanged one (command_if identifier response) v)
plain_exchange policy past v one identifier None plain = one_saying policy (sayings.Command Into one) (heard_mild one)
plain_exchange policy past v one identifier (Some content) plain = by (can_say (Some content) v)
  where
    by : (room : Bool) → KeepsOwn policy (cond room (sayings.Command Into one ∷ spoken (command_with identifier content) ∷ []) [])
    by true = both_sayings policy (sayings.Command Into one ∷ []) (spoken (command_with identifier content) ∷ []) (one_saying policy (sayings.Command Into one) (heard_mild one)) (one_saying policy (spoken (command_with identifier content)) (spoken_mild identifier content (plain content refl)))
    by false = no_sayings policy

-- where the answer accepts whole options of no channel that is not set up
options_exchange : (policy : Policy) (past : List Saying) (v : Channels) (one : Read) (identifier : ℕ) (asked : Option Terms) (response : Option Content) (n : ℕ) → Queries one identifier asked
    → ((content : Content) → response ≡ Some content → can_say response v ≡ true → (x : Entry) → read_at n (reading past).entries ≡ Some x → is_there x.life ≡ true → (terms : Terms) → answered_query (queried (reading past) identifier asked).requests identifier ≡ Some terms → terms.own ≡ n → is_set x.setup ≡ false
    → is_whole content ≡ false) → OwnAt policy n (reading past) → OwnAt policy n (reading (past ++ exchanged one (command_if identifier response) v))
options_exchange policy past v one identifier asked None n queries unwhole own = one_saying policy (sayings.Command Into one) (heard_mild one) past n own
options_exchange policy past v one identifier asked (Some content) n queries unwhole own = by (can_say (Some content) v) refl
  where
    heard : List Saying
    heard = past ++ sayings.Command Into one ∷ []

    own_heard : OwnAt policy n (reading heard)
    own_heard = one_saying policy (sayings.Command Into one) (heard_mild one) past n own

    heard_is : reading heard ≡ queried (reading past) identifier asked
    heard_is = reading-on past (sayings.Command Into one ∷ []) ∙ queries (reading past)

    answer : can_say (Some content) v ≡ true → (c : Content) → content ≡ c → OwnAt policy n (reading (heard ++ spoken (command_with identifier c) ∷ []))
    answer can (reject reason rest) is = one_saying policy _ (spoken_mild identifier (reject reason rest) refl) heard n own_heard
    answer can (connection_request psm source) is = one_saying policy _ (spoken_mild identifier (connection_request psm source) refl) heard n own_heard
    answer can (connection_response destination source result status) is = one_saying policy _ (spoken_mild identifier (connection_response destination source result status) refl) heard n own_heard
    answer can (configuration_request destination flags options) is = one_saying policy _ (spoken_mild identifier (configuration_request destination flags options) refl) heard n own_heard
    answer can (disconnection_request destination source) is = one_saying policy _ (spoken_mild identifier (disconnection_request destination source) refl) heard n own_heard
    answer can (disconnection_response destination source) is = one_saying policy _ (spoken_mild identifier (disconnection_response destination source) refl) heard n own_heard
    answer can (echo_request octets) is = one_saying policy _ (spoken_mild identifier (echo_request octets) refl) heard n own_heard
    answer can (echo_response octets) is = one_saying policy _ (spoken_mild identifier (echo_response octets) refl) heard n own_heard
    answer can (information_request kind) is = one_saying policy _ (spoken_mild identifier (information_request kind) refl) heard n own_heard
    answer can (information_response kind result rest) is = one_saying policy _ (spoken_mild identifier (information_response kind result rest) refl) heard n own_heard
    answer can (configuration_response peer flags result options) is = λ entry at.
        after_keeps policy n (reading heard).entries (answered peer flags result (answered_query (reading heard).requests identifier)) own_heard (λ x found. goes x found (answered_query (reading heard).requests identifier) refl) entry
        (sym (ap (λ (q : Reading). read_at n q.entries) (reading-on heard (spoken (command_with identifier (configuration_response peer flags result options)) ∷ []))) ∙ at)
      where
        goes : (x : Entry) → read_at n (reading heard).entries ≡ Some x → (terms : Option Terms) → answered_query (reading heard).requests identifier ≡ terms → IsOwn policy (entry_after (answered peer flags result terms) x)
        goes x found None at = same_accepted policy Nothing x refl (own_heard x found)
        goes x found (Some terms) at =
            part_kept policy x (part_of terms peer flags result)
            (λ there owned unset. ap is_whole (sym is) ∙ unwhole content refl can x (sym (ap (λ (q : Reading). read_at n q.entries) heard_is) ∙ found) there terms
            (sym (ap (λ (q : Reading). answered_query q.requests identifier) heard_is) ∙ at) (owned ∙ read-own n (reading heard).entries x found) unset) (own_heard x found)

    by : (room : Bool) → can_say (Some content) v ≡ room → OwnAt policy n (reading (past ++ cond room (sayings.Command Into one ∷ spoken (command_with identifier content) ∷ []) []))
    by true can = subst (λ l. OwnAt policy n (reading l)) (append_assoc past (sayings.Command Into one ∷ []) (spoken (command_with identifier content) ∷ [])) (answer can content refl)
    by false can = no_sayings policy past n own

-- of all requests for options
asked_exchange : (policy : Policy) (past : List Saying) (v : Channels) (one : Read) (identifier : ℕ) (asked : Option Terms) (fresh : Option Content) (more : Channels → Channels) (n : ℕ) → Sound policy (reading past) v → Queries one identifier asked
    → ((content : Content) → fresh ≡ Some content → (u : Channels) → u.held ≡ v.held → setup_on (held_at n (more u)) ≡ None → (terms : Terms) → asked ≡ Some terms → terms.own ≡ n → is_whole content ≡ false)
    → (last : Option Remembered) → v.memory.configuration ≡ last → setup_on (held_at n (hears_kind last kinds.Configuration identifier fresh more v)) ≡ None → OwnAt policy n (reading past)
    → OwnAt policy n (reading (past ++ exchanged one (command_if identifier (response_by last identifier fresh)) v))
asked_exchange policy past v one identifier asked fresh more n sound queries new last at none own = by last at none
  where
    says_same : (response : Option Content) (u : Channels) → (says identifier response u).held ≡ u.held
    says_same None u = refl
    says_same (Some content) u = refl

    anew : IsNew v.memory.configuration identifier → setup_on (held_at n (hears_new kinds.Configuration identifier fresh more v)) ≡ None → OwnAt policy n (reading (past ++ exchanged one (command_if identifier fresh) v))
    anew is_new none = options_exchange policy past v one identifier asked fresh n queries
        (λ content is can x found there terms asks owned unset.
        let last_one : Remembered = record { identifier = identifier; response = fresh } in
        let u : Channels = says identifier fresh (remembers kinds.Configuration identifier fresh v) in
        new content is u (says_same fresh (remembers kinds.Configuration identifier fresh v)) (sym (ap (λ b. setup_on (held_at n (cond b (more u) v))) can) ∙ none) terms
        (sym (query-new (reading past) identifier asked v.held v.memory.configuration sound.kept.queries is_new) ∙ asks) owned) own

    again : (l : Remembered) → v.memory.configuration ≡ Some l → l.identifier ≡ identifier → setup_on (held_at n (hears_again identifier l.response v)) ≡ None → OwnAt policy n (reading (past ++ exchanged one (command_if identifier l.response) v))
    again l at same none = options_exchange policy past v one identifier asked l.response n queries
        (λ content is can x found there terms asks owned unset. whole content is x found there terms
        (sym (query_again (reading past) identifier asked v l (subst (QueriesKept (reading past).requests v.held (reading past).entries) at sound.kept.queries) same) ∙ asks) owned unset) own
      where
        still : (can : Bool) → (cond can (says identifier l.response v) v).held ≡ v.held
        still true = says_same l.response v
        still false = refl

        none_now : setup_on (held_at n v) ≡ None
        none_now = sym (ap (λ hs. setup_on (find (has_own n) hs)) (still (can_say l.response v))) ∙ none

        whole : (content : Content) → l.response ≡ Some content → (x : Entry) → read_at n (reading past).entries ≡ Some x → is_there x.life ≡ true → (terms : Terms) → answered_query (reading past).requests l.identifier ≡ Some terms → terms.own ≡ n → is_set x.setup ≡ false → is_whole content ≡ false
        whole (reject reason rest) is x found there terms asks owned unset = refl
        whole (connection_request psm source) is x found there terms asks owned unset = refl
        whole (connection_response destination source result status) is x found there terms asks owned unset = refl
        whole (configuration_request destination flags options) is x found there terms asks owned unset = refl
        whole (configuration_response peer flags result options) is x found there terms asks owned unset =
            repeated_unwhole policy (reading past) v sound identifier l peer flags result options at is n x found there none_now terms asks owned unset
        whole (disconnection_request destination source) is x found there terms asks owned unset = refl
        whole (disconnection_response destination source) is x found there terms asks owned unset = refl
        whole (echo_request octets) is x found there terms asks owned unset = refl
        whole (echo_response octets) is x found there terms asks owned unset = refl
        whole (information_request kind) is x found there terms asks owned unset = refl
        whole (information_response kind result rest) is x found there terms asks owned unset = refl

    by : (last : Option Remembered) → v.memory.configuration ≡ last → setup_on (held_at n (hears_kind last kinds.Configuration identifier fresh more v)) ≡ None
        → OwnAt policy n (reading (past ++ exchanged one (command_if identifier (response_by last identifier fresh)) v))
    by None at none = anew (subst (λ l. IsNew l identifier) (sym at) tt) none
    by (Some l) at none = on (eqb l.identifier identifier) refl none
      where
        on : (same : Bool) → eqb l.identifier identifier ≡ same → setup_on (held_at n (cond same (hears_again identifier l.response v) (hears_new kinds.Configuration identifier fresh more v))) ≡ None
            → OwnAt policy n (reading (past ++ exchanged one (command_if identifier (cond same l.response fresh)) v))
        on true same none = again l at (eqb-true l.identifier identifier same) none
        on false apart none = anew (subst (λ l. IsNew l identifier) (sym at) apart) none

-- ---- each command

module _ (policy : Policy) (past : List Saying) (v : Channels) (n : ℕ) (sound : Sound policy (reading past) v) (own : OwnAt policy n (reading past)) where
  -- behind a request and its answer, where the channel has no options any more
  abbrev Behind : Read → Option Content → (identifier : ℕ) → Channels → Type 0
  Behind one response identifier w = setup_on (held_at n w) ≡ None → OwnAt policy n (reading (past ++ exchanged one (command_if identifier response) v))

  plainly : (one : Read) (response : Option Content) (identifier : ℕ) → ((content : Content) → response ≡ Some content → is_about_options content ≡ false) → OwnAt policy n (reading (past ++ exchanged one (command_if identifier response) v))
  plainly one response identifier plain = plain_exchange policy past v one identifier response plain past n own

  content_behind : (identifier : ℕ) (content : Content) → Behind (Ok (command_with identifier content)) (response_to policy identifier content v) identifier (hears_content policy identifier content v)
  content_behind identifier (reject reason rest) = λ none. plainly _ None identifier no_plain
  content_behind identifier (connection_request psm source) =
      λ none. plainly _ _ identifier (plain_response policy (reading past) v sound kinds.Connection (λ is. cc) identifier _ (some_plain (connection_answer (connection_result policy psm source v) source v) refl))
  content_behind identifier (connection_response destination source answer status) = λ none. plainly _ None identifier no_plain
  content_behind identifier (configuration_request own_endpoint flags octets) =
      let asked : Terms = record { own = own_endpoint; options = octets } in
      let content : Content = configuration_request own_endpoint flags octets in
      λ none. asked_exchange policy past v (Ok (command_with identifier content)) identifier (Some asked) (answer_to policy content v) (follows policy content) n sound
      (queries-by (Ok (command_with identifier content)) identifier (Some asked) (λ r. refl) (λ r. refl))
      (λ given is u same gone terms asks owned.
      let which : asked ≡ terms = cc in
      let here : own_endpoint ≡ n = ap (λ (t : Terms). t.own) which ∙ owned in
      let answer : configuration_answer (verdict policy own_endpoint flags octets v) own_endpoint ≡ given = cc in
      sym (ap is_whole answer) ∙ new_unwhole policy v u own_endpoint flags octets same (ap (λ k. setup_on (held_at k (follows policy content u))) here ∙ gone))
      (remembered kinds.Configuration v.memory) refl none own
  content_behind identifier (configuration_response source flags answer options) = λ none. plainly _ None identifier no_plain
  content_behind identifier (disconnection_request destination source) =
      λ none. plainly _ _ identifier (plain_response policy (reading past) v sound kinds.Disconnection (λ is. cc) identifier _ (ended_plain (held_at destination v) destination source))
  content_behind identifier (disconnection_response destination source) = λ none. plainly _ None identifier no_plain
  content_behind identifier (echo_request octets) = λ none. plainly _ _ identifier (plain_response policy (reading past) v sound kinds.Echo (λ is. cc) identifier _ (some_plain (echo_response octets) refl))
  content_behind identifier (echo_response octets) = λ none. plainly _ None identifier no_plain
  content_behind identifier (information_request kind) =
      λ none. plainly _ _ identifier (plain_response policy (reading past) v sound kinds.Information (λ is. cc) identifier _ (some_plain (information_answer kind) (informed_plain kind)))
  content_behind identifier (information_response kind answer rest) = λ none. plainly _ None identifier no_plain

  -- a malformed request of each kind
  malformed : (one : Read) (identifier : ℕ) (kind : RequestKind) → (kind ≡ kinds.Configuration → Queries one identifier None) → Behind one (response_as kind identifier (Some not_understood) v) identifier (hears_request kind identifier (Some not_understood) (λ w. w) v)
  malformed one identifier kinds.Connection queries = λ none. plainly _ _ identifier (plain_response policy (reading past) v sound kinds.Connection (λ is. cc) identifier _ (some_plain not_understood refl))
  malformed one identifier kinds.Configuration queries = λ none.
      asked_exchange policy past v one identifier None (Some not_understood) (λ w. w) n sound (queries refl) (λ given is u same gone terms asks owned. cc) (remembered kinds.Configuration v.memory) refl none own
  malformed one identifier kinds.Disconnection queries = λ none. plainly _ _ identifier (plain_response policy (reading past) v sound kinds.Disconnection (λ is. cc) identifier _ (some_plain not_understood refl))
  malformed one identifier kinds.Echo queries = λ none. plainly _ _ identifier (plain_response policy (reading past) v sound kinds.Echo (λ is. cc) identifier _ (some_plain not_understood refl))
  malformed one identifier kinds.Information queries = λ none. plainly _ _ identifier (plain_response policy (reading past) v sound kinds.Information (λ is. cc) identifier _ (some_plain not_understood refl))

  unread_behind : (one : Read) (code identifier : ℕ) → (eqb identifier 0 ≡ false → (kind : RequestKind) → kind_of_code code ≡ Some kind → kind ≡ kinds.Configuration → Queries one identifier None)
      → Behind one (response_unread code identifier v) identifier (hears_unread code identifier v)
  unread_behind one code identifier queries = zero (eqb identifier 0) refl
    where
      kinds_of : eqb identifier 0 ≡ false → (kind : Option RequestKind) → kind_of_code code ≡ kind
          → Behind one (response_malformed kind identifier v) identifier (cond (is_kind kind) (hears_malformed kind identifier v) (hears_again identifier (Some not_understood) v))
      kinds_of some None is = λ none. plainly one (Some not_understood) identifier (some_plain not_understood refl)
      kinds_of some (Some kind) is = malformed one identifier kind (queries some kind is)

      response : eqb identifier 0 ≡ false → (b : Bool)
          → Behind one (cond b None (response_malformed (kind_of_code code) identifier v)) identifier (cond b v (cond (is_kind (kind_of_code code)) (hears_malformed (kind_of_code code) identifier v) (hears_again identifier (Some not_understood) v)))
      response some true = λ none. plainly one None identifier no_plain
      response some false = kinds_of some (kind_of_code code) refl

      zero : (b : Bool) → eqb identifier 0 ≡ b
          → Behind one (cond b None (cond (is_response_code code) None (response_malformed (kind_of_code code) identifier v))) identifier
          (cond b v (cond (is_response_code code) v (cond (is_kind (kind_of_code code)) (hears_malformed (kind_of_code code) identifier v) (hears_again identifier (Some not_understood) v))))
      zero true is = λ none. plainly one None identifier no_plain
      zero false is = response is (is_response_code code)

  -- the code of requests for options
  four : (code : ℕ) (kind : RequestKind) → kind_of_code code ≡ Some kind → kind ≡ kinds.Configuration → code ≡ 4
  four code kind is same = by (eqb code 2) (eqb code 4) refl (eqb code 6) (eqb code 8) (eqb code 10) (is ∙ ap Some same)
    where
      by : (two four : Bool) → eqb code 4 ≡ four → (six eight ten : Bool) → cond two (Some kinds.Connection) (cond four (Some kinds.Configuration) (cond six (Some kinds.Disconnection) (cond eight (Some kinds.Echo) (cond ten (Some kinds.Information) None)))) ≡ Some kinds.Configuration → code ≡ 4
      by true four at six eight ten is = cc
      by false true at six eight ten is = eqb-true code 4 at
      by false false at true eight ten is = cc
      by false false at false true ten is = cc
      by false false at false false true is = cc
      by false false at false false false is = cc

  refused_behind : (refusal : SignalRefusal) → IsTold (Err refusal) → setup_on (held_at n (hears_refused refusal v)) ≡ None → OwnAt policy n (reading (past ++ exchanged (Err refusal) (reply_to policy (Err refusal) v) v))
  refused_behind (ZeroIdentifier code identifier) told none = plain_exchange policy past v _ 0 None no_plain past n own
  refused_behind (BadLength code None) told none = plain_exchange policy past v _ 0 None no_plain past n own
  refused_behind (BadLength code (Some identifier)) told none =
      unread_behind (Err (BadLength code (Some identifier))) code identifier
      (λ some kind is same. subst (λ c. Queries (Err (BadLength c (Some identifier))) identifier None) (sym (four code kind is same)) (short-queries identifier some)) none
  refused_behind (UnknownCode code None) told none = plain_exchange policy past v _ 0 None no_plain past n own
  refused_behind (UnknownCode code (Some identifier)) told none =
      unread_behind (Err (UnknownCode code (Some identifier))) code identifier (λ some kind is same. let never : false ≡ true = sym told ∙ ap is_kind is in absurd cc) none
  refused_behind (AboveMtu code None) told none = plain_exchange policy past v _ 0 None no_plain past n own
  refused_behind (AboveMtu code (Some identifier)) told none = plain_exchange policy past v (Err (AboveMtu code (Some identifier))) identifier (cond (eqb identifier 0) None (Some too_long)) (by (eqb identifier 0)) past n own
    where
      by : (zero : Bool) (content : Content) → cond zero None (Some too_long) ≡ Some content → is_about_options content ≡ false
      by true content is = no_plain content is
      by false content is = some_plain too_long refl content is

  command_behind : (one : Read) → IsTold one → setup_on (held_at n (hears_command policy one v)) ≡ None → OwnAt policy n (reading (past ++ exchanged one (reply_to policy one v) v))
  command_behind (Ok command) told none = content_behind command.identifier command.content none
  command_behind (Err refusal) told none = refused_behind refusal told none

  pub command-own : (one : Read) → IsTold one → Sound policy (reading (past ++ said_with policy one v)) (hears_command policy one v) → OwnAt policy n (reading (past ++ said_with policy one v))
  command-own one told after = by (held_at n w) refl
    where
      w : Channels
      w = hears_command policy one v

      silent : setup_on (held_at n w) ≡ None → OwnAt policy n (reading (past ++ said_with policy one v))
      silent none =
          subst (λ l. OwnAt policy n (reading l)) (append_assoc past (exchanged one (reply_to policy one v) v) (asked_between v w))
          (words-asked w (KeepsOwn policy) (own_words policy w) v (past ++ exchanged one (reply_to policy one v) v) n (command_behind one told none))

      on : (held : Held) (setup : Option Setup) → held_at n w ≡ Some held → setup_of held.stage ≡ setup → OwnAt policy n (reading (past ++ said_with policy one v))
      on held None at has = silent (ap setup_on at ∙ has)
      on held (Some setup) at has = talks_own policy (reading (past ++ said_with policy one v)) w n held setup after at has

      by : (found : Option Held) → held_at n w ≡ found → OwnAt policy n (reading (past ++ said_with policy one v))
      by None at = silent (ap setup_on at)
      by (Some held) at = on held (setup_of held.stage) at refl

-- ---- whatever happens

abbrev AllOwn : Policy → List Saying → Type 0
AllOwn policy said = (n : ℕ) → OwnAt policy n (reading said)

commands_own : (policy : Policy) (past : List Saying) (v : Channels) (list : List Read) → AllByRecursion IsTold list → Sound policy (reading past) v → AllOwn policy past → AllOwn policy (past ++ said_with_all policy list v)
commands_own policy past v [] told sound all n = no_sayings policy past n (all n)
commands_own policy past v (one ∷ list) (now, told) sound all n =
    let w : Channels = hears_command policy one v in
    let after : Sound policy (reading (past ++ said_with policy one v)) w = subst (λ r. Sound policy r w) (sym (reading-on past (said_with policy one v))) (hears-any policy (reading past) v one now sound) in
    subst (λ l. OwnAt policy n (reading l)) (append_assoc past (said_with policy one v) (said_with_all policy list w))
    (commands_own policy (past ++ said_with policy one v) w list told after (λ k. command-own policy past v k sound (all k) one now after) n)

carried_mild : (flow : Flow) (pdu : List ℕ) → IsMild (Carried flow pdu)
carried_mild flow pdu asked = refl

by_carrier : (policy : Policy) (carrier : Option Carrier) (peer : ℕ) (sdu : List ℕ) → KeepsOwn policy (said_by_carrier carrier peer sdu)
by_carrier policy None peer sdu = no_sayings policy
by_carrier policy (Some (Plain agreed None)) peer sdu = one_saying policy _ (λ asked. refl)
by_carrier policy (Some (Plain agreed (Some waiting))) peer sdu = no_sayings policy
by_carrier policy (Some (Retransmitting machine)) peer sdu = no_sayings policy

as_given : (policy : Policy) (given : Option Given) (pdu : List ℕ) → KeepsOwn policy (said_as given pdu)
as_given policy None pdu = no_sayings policy
as_given policy (Some (Signal command)) pdu = no_sayings policy
as_given policy (Some (Whole peer sdu)) pdu = no_sayings policy
as_given policy (Some (Framed peer frame)) pdu = one_saying policy _ (λ asked. refl)

features_left : (policy : Policy) (before after : Option Request) → KeepsOwn policy (features_given_up before after)
features_left policy None after = no_sayings policy
features_left policy (Some request) None = one_saying policy _ (λ asked. refl)
features_left policy (Some request) (Some other) = no_sayings policy

by_features : (policy : Policy) (tries : ℕ) (v : Channels) → KeepsOwn policy (said_by_features tries v)
by_features policy tries v =
    let w : Channels = times_features v.features tries v in
    both_sayings policy (said_again errands.Features v w) (features_given_up v.features w.features) (words-again w (KeepsOwn policy) (own_words policy w) errands.Features v) (features_left policy v.features w.features)

by_channels : (policy : Policy) (tries : ℕ) (owns : List ℕ) (v : Channels) → KeepsOwn policy (said_by_channels tries owns v)
by_channels policy tries [] v = by_features policy tries v
by_channels policy tries (own ∷ owns) v =
    let between : Channels = times_held (held_at own v) tries v in
    let next : Channels = fired_channel tries own v in
    both_sayings policy (said_by_channel tries own v) (said_by_channels tries owns next)
    (both_sayings policy (said_on_firing own v between) (said_on_firing own between next) (words-firing between (KeepsOwn policy) (own_words policy between) own v) (words-firing next (KeepsOwn policy) (own_words policy next) own between))
    (by_channels policy tries owns next)

comes_own : (policy : Policy) (past : List Saying) (v : Channels) (pdu : List ℕ) (signals : Bool) → Sound policy (reading past) v → AllOwn policy past
    → AllOwn policy (past ++ cond signals (said_with_all policy (answers (drop 4 pdu)) v) (Carried Into pdu ∷ asked_between v (takes (channel_of pdu) pdu v)))
comes_own policy past v pdu true sound all n = commands_own policy past v (answers (drop 4 pdu)) (all-told (drop 4 pdu)) sound all n
comes_own policy past v pdu false sound all n =
    let w : Channels = takes (channel_of pdu) pdu v in
    both_sayings policy (Carried Into pdu ∷ []) (asked_between v w) (one_saying policy (Carried Into pdu) (carried_mild Into pdu)) (words-asked w (KeepsOwn policy) (own_words policy w) v) past n (all n)

occurs_own : (policy : Policy) (run : Run) (more : Occurrence) → IsSound policy run → AllOwn policy run.said → AllOwn policy (run.said ++ said_in policy more run.value)
occurs_own policy run (Comes pdu) sound all n = comes_own policy run.said run.value pdu (eqb (channel_of pdu) 0x0001) sound all n
occurs_own policy run (Connects psm) sound all n = let w : Channels = connected psm run.value in words-asked w (KeepsOwn policy) (own_words policy w) run.value run.said n (all n)
occurs_own policy run AsksFeatures sound all n = let w : Channels = asks_features run.value in words-asked w (KeepsOwn policy) (own_words policy w) run.value run.said n (all n)
occurs_own policy run (Disconnects own) sound all n = let w : Channels = disconnected own run.value in words-left w (KeepsOwn policy) (own_words policy w) own run.value run.said n (all n)
occurs_own policy run (Sends own sdu) sound all n = by_carrier policy (carrier_at own run.value) (peer_at (held_at own run.value)) sdu run.said n (all n)
occurs_own policy run (Gives pdu) sound all n = as_given policy (next_given run.value) pdu run.said n (all n)
occurs_own policy run Fires sound all n = by_channels policy policy.tries (map (λ held. held.own) run.value.held) run.value run.said n (all n)
occurs_own policy run Tells sound all n = no_sayings policy run.said n (all n)

pub modes-are_own : ModesAreOwn
modes-are_own policy list own entry mode found accepted = (along policy (λ run. AllOwn policy run.said) (λ n entry at. cc) (λ run more sound all. occurs_own policy run more sound all) list).1 own entry found mode accepted
