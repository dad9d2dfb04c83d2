-- A host that answered a request for the end of a channel had that channel, and has it no more.
use Rattle.std.proofs.Common.{◌≡◌, ℕ, List, [], ◌∷◌, ◌++◌, map, drop, Bool, true, false, cond, eqb, Option, Some, None, Ok, Err, refl, sym, ap, subst, ◌∙◌, ◌⊎◌, inl, inr, append_assoc}
use Rattle.std.specs.Prelude.{option_map, option_to_list}
use Rattle.std.specs.List.{AllByRecursion}
use Rattle.std.proofs.lemmas.Bool.{eqb-true}
use Rattle.channel_laws.specs.acl_fragments.specs.Pieces.{channel_of}
use Rattle.channel_laws.specs.capture.specs.declared.flow.Flow.TheVariants.{Into, Out}
use Rattle.channel_laws.specs.l2cap_signal.specs.Commands.{Content, Command, reject, connection_request, connection_response, configuration_request, configuration_response, disconnection_request, disconnection_response, echo_request, echo_response, information_request, information_response, code_of}
use Rattle.channel_laws.specs.l2cap_signal.specs.Reading.{Answer as Read, answers}
use Rattle.channel_laws.specs.l2cap_signal.specs.declared.refusal.SignalRefusal.TheVariants.{ZeroIdentifier, BadLength, UnknownCode, AboveMtu}
use Rattle.channel_laws.specs.l2cap_config.specs.declared.options.Options.{Options}
use Rattle.channel_laws.specs.l2cap_config.specs.declared.agreement.ConfigAnswer.{ConfigAnswer}
use Rattle.channel_laws.specs.l2cap_config.specs.declared.agreement.ConfigAnswer.TheVariants.{Accept, Unacceptable, Unknown}
use Rattle.channel_laws.specs.l2cap_config.specs.Writing.{written}
use Rattle.channel_laws.specs.link_talk.specs.declared.channel.Channel.{Channel}
use Rattle.channel_laws.specs.link_talk.specs.Channels.{Entry, Reading, reading}
use Rattle.channel_laws.specs.link_talk.specs.Requests.{Requests, answered_query}
use Rattle.channel_laws.specs.link_talk.specs.Senses.{Quiet, sense_of}
use Rattle.channel_laws.specs.link_talk.specs.Sayings.{Saying, Carried, GaveUp}
use Rattle.channel_laws.specs.link_talk.specs.Sayings as sayings
use Rattle.channel_laws.specs.channel_model.specs.declared.errand.Errand.TheVariants as errands
use Rattle.channel_laws.specs.channel_model.specs.declared.request_kind.RequestKind.{RequestKind}
use Rattle.channel_laws.specs.channel_model.specs.declared.request_kind.RequestKind.TheVariants as kinds
use Rattle.channel_laws.specs.channel_model.specs.Answers.{kind_of_code, remembered, not_understood, too_long, judged_answer, configuration_answer, disconnection_by, disconnection_answer, information_answer, answer_to}
use Rattle.channel_laws.specs.channel_model.specs.Calls.{carrier_at, connected, asks_features, disconnected}
use Rattle.channel_laws.specs.channel_model.specs.Carrying.{takes}
use Rattle.channel_laws.specs.channel_model.specs.Changing.{held_at}
use Rattle.channel_laws.specs.channel_model.specs.Configuring.{Verdict, NoChannel, TooLate, Unreadable, Incomplete, Judged, verdict}
use Rattle.channel_laws.specs.channel_model.specs.Following.{follows, remembers, says, can_say, hears_new, hears_again, hears_kind}
use Rattle.channel_laws.specs.channel_model.specs.Giving.{Given, Signal, Whole, Framed, next_given}
use Rattle.channel_laws.specs.channel_model.specs.Hearing.{hears_content, hears_malformed, is_response_code, is_kind, hears_unread, hears_command, hears_commands}
use Rattle.channel_laws.specs.channel_model.specs.Policies.{Policy}
use Rattle.channel_laws.specs.channel_model.specs.Responses.{features_in}
use Rattle.channel_laws.specs.channel_model.specs.Timing.{times_held, times_end, times_features, times_channels, timed_out}
use Rattle.channel_laws.specs.channel_model.specs.Value.{Request, Carrier, Plain, Retransmitting, Stage, Requested, Connected, Leaving, Closing, Crossed, Held, Remembered, Memory, Channels}
use Rattle.channel_laws.specs.Granted.{IsFor}
use Rattle.channel_laws.specs.OwnTalk.{spoken, command_with, response_by, response_to, response_malformed, response_unread, command_if, reply_to, exchanged, asked_between, said_with, said_with_all}
use Rattle.channel_laws.specs.Runs.{Occurrence, Comes, Connects, AsksFeatures, Disconnects, Sends, Gives, Fires, Tells, said_again, said_on_firing, said_by_channel, fired_channel, said_by_channels, features_given_up, said_by_carrier, said_as, said_in, value_after, Run, run_on, new_link}
use Rattle.channel_laws.specs.Views.{read_at, peer_of}
use Rattle.channel_laws.proofs.Commands.{IsTold, hears-any}
use Rattle.channel_laws.proofs.Conversing.{says_memory, features_memory, features_lost, reading-on, single_memory}
use Rattle.channel_laws.proofs.Lasting.{follows-lasts, grant-lasts, response-lasts, end-lasts, takes-lasts, times-last, ends-last}
use Rattle.channel_laws.proofs.Running.{IsSound, along}
use Rattle.channel_laws.proofs.Saying.{stands-left, stands-right, stands-either}
use Rattle.channel_laws.proofs.Sound.{ReadsBy, Reads, IsKnown, CallsKept, IsAway, IsEnded, EndsKept, QueriesKept, IsRepeated, IsHarmless, HarmlessKept, Sound}
use Rattle.channel_laws.proofs.Told.{all-told}
use Rattle.channel_laws.proofs.Words.{Words, words-asked, words-again, words-left, words-firing}
use Rattle.disconnection_laws.specs.Ended.{HasAnsweredEnd, HasHeardEnd, IsEndedFor, AnsweredEndsAreEnded}
use Rattle.disconnection_laws.proofs.Staying.{more-ended, more-for, ended-by}

-- ---- what a host says of its own accord answers nothing

abbrev pub Silent : List Saying → Type 0
Silent said = (identifier own peer : ℕ) → HasAnsweredEnd identifier own peer said → ⊥

pub silent_both : (xs ys : List Saying) → Silent xs → Silent ys → Silent (xs ++ ys)
silent_both xs ys one other identifier own peer is = by (stands-either (spoken (command_with identifier (disconnection_response own peer))) xs ys is)
  where
    by : HasAnsweredEnd identifier own peer xs ⊎ HasAnsweredEnd identifier own peer ys → ⊥
    by (inl left) = one identifier own peer left
    by (inr right) = other identifier own peer right

pub silent_one : (s : Saying) → ((identifier own peer : ℕ) → s ≡ spoken (command_with identifier (disconnection_response own peer)) → ⊥) → Silent (s ∷ [])
silent_one s apart identifier own peer (inl same) = apart identifier own peer same
silent_one s apart identifier own peer (inr none) = elim none [ ]

pub command_same : (one other : Command) → spoken one ≡ spoken other → one ≡ other
command_same one other same = cc

pub silent_command : (command : Command) → eqb (code_of command.content) 0x07 ≡ false → Silent (spoken command ∷ [])
silent_command command none = silent_one (spoken command) (λ identifier own peer same.
    let it : command ≡ command_with identifier (disconnection_response own peer) = command_same command (command_with identifier (disconnection_response own peer)) same in
    let never : true ≡ false = sym (ap (λ (c : Command). eqb (code_of c.content) 0x07) it) ∙ none in absurd cc)

pub own-words : (w : Channels) → Words w Silent
own-words w = record {
  none = λ identifier own peer is. elim is [ ];
  both = silent_both;
  calls = λ own held request at is. silent_command (command_with request.identifier (connection_request held.psm held.own)) refl;
  wishes = λ own peer held setup request options at has to is. silent_command (command_with request.identifier (configuration_request peer 0 (written options))) refl;
  ends = λ identifier peer own. silent_command (command_with identifier (disconnection_request peer own)) refl;
  asks = λ request is. silent_command (command_with request.identifier (information_request 2)) refl;
  lets_call = λ identifier own. silent_one (GaveUp (sayings.Connection identifier own)) (λ i o p same. cc);
  lets_end = λ own peer. silent_one (GaveUp (sayings.Disconnection own peer)) (λ i o p same. cc);
}

pub silent_none : Silent []
silent_none identifier own peer is = elim is [ ]

pub silent_features : (before after : Option Request) → Silent (features_given_up before after)
silent_features None after = silent_none
silent_features (Some request) None = silent_one _ (λ i o p same. cc)
silent_features (Some request) (Some other) = silent_none

pub silent_fired : (tries : ℕ) (owns : List ℕ) (v : Channels) → Silent (said_by_channels tries owns v)
silent_fired tries [] v =
    let w : Channels = times_features v.features tries v in
    silent_both (said_again errands.Features v w) (features_given_up v.features w.features) (words-again w Silent (own-words w) errands.Features v) (silent_features v.features w.features)
silent_fired tries (own ∷ owns) v =
    let between : Channels = times_held (held_at own v) tries v in
    let after : Channels = times_end (held_at own between) tries between in
    silent_both (said_by_channel tries own v) (said_by_channels tries owns (fired_channel tries own v))
    (silent_both (said_on_firing own v between) (said_on_firing own between after) (words-firing between Silent (own-words between) own v) (words-firing after Silent (own-words after) own between))
    (silent_fired tries owns (fired_channel tries own v))

pub silent_sent : (carrier : Option Carrier) (peer : ℕ) (sdu : List ℕ) → Silent (said_by_carrier carrier peer sdu)
silent_sent None peer sdu = silent_none
silent_sent (Some (Plain agreed None)) peer sdu = silent_one _ (λ i o p same. cc)
silent_sent (Some (Plain agreed (Some waiting))) peer sdu = silent_none
silent_sent (Some (Retransmitting machine)) peer sdu = silent_none

pub silent_given : (given : Option Given) (pdu : List ℕ) → Silent (said_as given pdu)
silent_given None pdu = silent_none
silent_given (Some (Signal command)) pdu = silent_none
silent_given (Some (Whole other sdu)) pdu = silent_none
silent_given (Some (Framed other frame)) pdu = silent_one _ (λ i o p same. cc)

-- ---- what is kept

-- each channel whose end was answered has ended, and so has that of the answer that is remembered
pub record Ends (said : List Saying) (memory : Memory) : Type 0 where
  pub answered : (identifier own peer : ℕ) → HasAnsweredEnd identifier own peer said → IsEndedFor peer (read_at own (reading said).entries) × HasHeardEnd identifier own peer said
  pub kept : (last : Remembered) (own peer : ℕ) → memory.disconnection ≡ Some last → last.response ≡ Some (disconnection_response own peer) → IsFor peer (read_at own (reading said).entries) × HasHeardEnd last.identifier own peer said

pub silent_step : (past said : List Saying) (before after : Memory) → after ≡ before → Silent said → Ends past before → Ends (past ++ said) after
silent_step past said before after same silent ends = record {
  answered = λ identifier own peer is. by identifier own peer (stands-either (spoken (command_with identifier (disconnection_response own peer))) past said is);
  kept = λ last own peer at is. let it = ends.kept last own peer (sym (ap (λ (m : Memory). m.disconnection) same) ∙ at) is in (more-for peer own past said it.0, stands-left _ past said it.1);
}
  where
    by : (identifier own peer : ℕ) → HasAnsweredEnd identifier own peer past ⊎ HasAnsweredEnd identifier own peer said → IsEndedFor peer (read_at own (reading (past ++ said)).entries) × HasHeardEnd identifier own peer (past ++ said)
    by identifier own peer (inl old) = let it = ends.answered identifier own peer old in (more-ended peer own past said it.0, stands-left _ past said it.1)
    by identifier own peer (inr new) = absurd (silent identifier own peer new)

-- ---- one command

-- something of an identifier and the two endpoints of a channel
abbrev pub OfEnd : Type 1
OfEnd = (identifier own peer : ℕ) → Type 0

abbrev pub IsKept : OfEnd → Option Remembered → Type 0
IsKept K memory = (last : Remembered) (own peer : ℕ) → memory ≡ Some last → last.response ≡ Some (disconnection_response own peer) → K last.identifier own peer

-- an answer that ends a channel is remembered, and what is remembered is of a channel for that endpoint of the peer
pub record Answers (K : OfEnd) (v w : Channels) (identifier : ℕ) (response : Option Content) : Type 0 where
  pub said : (own peer : ℕ) → response ≡ Some (disconnection_response own peer) → can_say response v ≡ true → (last : Remembered) × (w.memory.disconnection ≡ Some last) × (last.identifier ≡ identifier) × (last.response ≡ Some (disconnection_response own peer))
  pub kept : (last : Remembered) (own peer : ℕ) → w.memory.disconnection ≡ Some last → last.response ≡ Some (disconnection_response own peer) → K last.identifier own peer

abbrev pub IsNoEnd : Option Content → Type 0
IsNoEnd response = (own peer : ℕ) → response ≡ Some (disconnection_response own peer) → ⊥

-- nothing is answered of ends, and what is remembered of them stays
pub other_answers : (K : OfEnd) (v w : Channels) (identifier : ℕ) (response : Option Content) → w.memory.disconnection ≡ v.memory.disconnection → IsNoEnd response → IsKept K v.memory.disconnection → Answers K v w identifier response
other_answers K v w identifier response same none kept = record { said = λ own peer is can. absurd (none own peer is); kept = λ last own peer at is. kept last own peer (sym same ∙ at) is }

pub said-memory : (identifier : ℕ) (response : Option Content) (v : Channels) (can : Bool) → (cond can (says identifier response v) v).memory ≡ v.memory
said-memory identifier response v true = says_memory identifier response v
said-memory identifier response v false = refl

pub no_end_by : (last : Option Remembered) (identifier : ℕ) (given : Option Content) → IsNoEnd given → ((one : Remembered) → last ≡ Some one → IsNoEnd one.response) → IsNoEnd (response_by last identifier given)
no_end_by None identifier given none kept = none
no_end_by (Some one) identifier given none kept = by (eqb one.identifier identifier)
  where
    by : (same : Bool) → IsNoEnd (cond same one.response given)
    by true = kept one refl
    by false = none

-- a request of another kind
pub other-memory : (v : Channels) (last : Option Remembered) (kind : RequestKind) (identifier : ℕ) (given : Option Content) (more : Channels → Channels) → ((u : Channels) → (more u).memory ≡ u.memory)
    → ((u : Channels) → (remembers kind identifier given u).memory.disconnection ≡ u.memory.disconnection) → (hears_kind last kind identifier given more v).memory.disconnection ≡ v.memory.disconnection
other-memory v last kind identifier given more keeps apart = by last
  where
    new : (can : Bool) → (cond can (more (says identifier given (remembers kind identifier given v))) v).memory.disconnection ≡ v.memory.disconnection
    new true =
        let u : Channels = remembers kind identifier given v in
        ap (λ (m : Memory). m.disconnection) (keeps (says identifier given u)) ∙ (ap (λ (m : Memory). m.disconnection) (says_memory identifier given u) ∙ apart v)
    new false = refl

    by : (last : Option Remembered) → (hears_kind last kind identifier given more v).memory.disconnection ≡ v.memory.disconnection
    by None = new (can_say given v)
    by (Some one) = at (eqb one.identifier identifier)
      where
        at : (same : Bool) → (cond same (hears_again identifier one.response v) (hears_new kind identifier given more v)).memory.disconnection ≡ v.memory.disconnection
        at true = ap (λ (m : Memory). m.disconnection) (said-memory identifier one.response v (can_say one.response v))
        at false = new (can_say given v)

pub other_kind : (K : OfEnd) (v : Channels) (last : Option Remembered) (kind : RequestKind) (identifier : ℕ) (given : Option Content) (more : Channels → Channels) → ((u : Channels) → (more u).memory ≡ u.memory)
    → ((u : Channels) → (remembers kind identifier given u).memory.disconnection ≡ u.memory.disconnection) → IsNoEnd given → ((one : Remembered) → last ≡ Some one → IsNoEnd one.response) → IsKept K v.memory.disconnection
    → Answers K v (hears_kind last kind identifier given more v) identifier (response_by last identifier given)
other_kind K v last kind identifier given more keeps apart none none_kept kept =
    other_answers K v (hears_kind last kind identifier given more v) identifier (response_by last identifier given) (other-memory v last kind identifier given more keeps apart) (no_end_by last identifier given none none_kept) kept

pub some_same : (one other : Remembered) → Some one ≡ Some other → one ≡ other
some_same one other is = cc

-- a request for an end
pub end_kind : (K : OfEnd) (v : Channels) (identifier : ℕ) (given : Option Content) (more : Channels → Channels) → ((u : Channels) → (more u).memory ≡ u.memory) → ((own peer : ℕ) → given ≡ Some (disconnection_response own peer) → can_say given v ≡ true → response_by v.memory.disconnection identifier given ≡ given → K identifier own peer) → IsKept K v.memory.disconnection
    → Answers K v (hears_kind v.memory.disconnection kinds.Disconnection identifier given more v) identifier (response_by v.memory.disconnection identifier given)
end_kind K v identifier given more keeps now kept = by v.memory.disconnection refl
  where
    it : Remembered
    it = record { identifier = identifier; response = given }

    u : Channels
    u = remembers kinds.Disconnection identifier given v

    new : (can : Bool) → can_say given v ≡ can → response_by v.memory.disconnection identifier given ≡ given → Answers K v (cond can (more (says identifier given u)) v) identifier given
    new true can anew =
        let after : (more (says identifier given u)).memory.disconnection ≡ Some it = ap (λ (m : Memory). m.disconnection) (keeps (says identifier given u) ∙ says_memory identifier given u) in
        record {
          said = λ own peer is able. (it, after, refl, is);
          kept = λ last own peer at is.
              let one : it ≡ last = some_same it last (sym after ∙ at) in
              subst (λ n. K n own peer) (ap (λ (l : Remembered). l.identifier) one) (now own peer (ap (λ (l : Remembered). l.response) one ∙ is) can anew);
        }
    new false can anew = record { said = λ own peer is able. let never : true ≡ false = sym able ∙ can in absurd cc; kept = kept }

    by : (last : Option Remembered) → v.memory.disconnection ≡ last → Answers K v (hears_kind last kinds.Disconnection identifier given more v) identifier (response_by last identifier given)
    by None at = new (can_say given v) refl (ap (λ (l : Option Remembered). response_by l identifier given) at)
    by (Some last) at = same (eqb last.identifier identifier) refl
      where
        same : (equal : Bool) → eqb last.identifier identifier ≡ equal → Answers K v (cond equal (hears_again identifier last.response v) (hears_new kinds.Disconnection identifier given more v)) identifier (cond equal last.response given)
        same true named =
            let after : (hears_again identifier last.response v).memory.disconnection ≡ v.memory.disconnection = ap (λ (m : Memory). m.disconnection) (said-memory identifier last.response v (can_say last.response v)) in
            record {
              said = λ own peer is able. (last, after ∙ at, eqb-true last.identifier identifier named, is);
              kept = λ other own peer there is. kept other own peer (sym after ∙ there) is;
            }
        same false named = new (can_say given v) refl (ap (λ (l : Option Remembered). response_by l identifier given) at ∙ ap (λ (b : Bool). cond b last.response given) named)

-- ---- what is remembered of other kinds

pub calls_none : (calls : _) (entries : List Entry) (last : Option Remembered) → CallsKept calls entries last → (one : Remembered) → last ≡ Some one → IsNoEnd one.response
calls_none calls entries None is one at own peer same = cc
calls_none calls entries (Some last) (first, known) one at own peer same =
    let it : last ≡ one = some_same last one at in
    let never : ⊥ = subst (λ (r : Option Content). IsKnown entries r) (ap (λ (l : Remembered). l.response) it ∙ same) known in never

pub queries_none : (asked : Requests) (held : List Held) (entries : List Entry) (last : Option Remembered) → QueriesKept asked held entries last → (one : Remembered) → last ≡ Some one → IsNoEnd one.response
queries_none asked held entries None is one at own peer same = cc
queries_none asked held entries (Some last) (first, repeated) one at own peer same =
    let it : last ≡ one = some_same last one at in
    let never : ⊥ = subst (λ (r : Option Content). IsRepeated (answered_query asked last.identifier) held entries r) (ap (λ (l : Remembered). l.response) it ∙ same) repeated in never

pub harmless_none : (last : Option Remembered) → HarmlessKept last → (one : Remembered) → last ≡ Some one → IsNoEnd one.response
harmless_none None is one at own peer same = cc
harmless_none (Some last) harmless one at own peer same =
    let it : last ≡ one = some_same last one at in
    let quiet : IsHarmless (Some (disconnection_response own peer)) = subst IsHarmless (ap (λ (l : Remembered). l.response) it ∙ same) harmless in
    by (quiet 0)
  where
    by : sense_of Out 0 (disconnection_response own peer) ≡ Quiet → ⊥
    by is = cc

pub kept_none : (policy : Policy) (r : Reading) (v : Channels) → Sound policy r v → (kind : RequestKind) → (kind ≡ kinds.Disconnection → ⊥) → (one : Remembered) → remembered kind v.memory ≡ Some one → IsNoEnd one.response
kept_none policy r v sound kinds.Connection other = calls_none _ r.entries v.memory.connection sound.kept.calls
kept_none policy r v sound kinds.Configuration other = queries_none r.requests v.held r.entries v.memory.configuration sound.kept.queries
kept_none policy r v sound kinds.Disconnection other = absurd (other refl)
kept_none policy r v sound kinds.Echo other = harmless_none v.memory.echo sound.kept.echoes
kept_none policy r v sound kinds.Information other = harmless_none v.memory.information sound.kept.informations

-- ---- what is answered anew

pub judged_none : (answer : ConfigAnswer) (to : ℕ) (options : Options) → IsNoEnd (Some (judged_answer answer to options))
judged_none (Accept given) to options own peer is = cc
judged_none (Unacceptable refusal given) to options own peer is = cc
judged_none Unknown to options own peer is = cc

pub configuration_none : (now : Verdict) (to : ℕ) → IsNoEnd (Some (configuration_answer now to))
configuration_none NoChannel to own peer is = cc
configuration_none (TooLate other) to own peer is = cc
configuration_none (Unreadable other) to own peer is = cc
configuration_none (Incomplete other options) to own peer is = cc
configuration_none (Judged other options answer) to own peer is = judged_none answer other options own peer is

pub information_none : (kind : ℕ) → IsNoEnd (Some (information_answer kind))
information_none kind own peer is = by (eqb kind 2) (eqb kind 3) is
  where
    by : (a b : Bool) → Some (cond a (information_response kind 0 (0xA8 ∷ 0x00 ∷ 0x00 ∷ 0x00 ∷ [])) (cond b (information_response kind 0 (0x02 ∷ 0x00 ∷ 0x00 ∷ 0x00 ∷ 0x00 ∷ 0x00 ∷ 0x00 ∷ 0x00 ∷ [])) (information_response kind 1 []))) ≡ Some (disconnection_response own peer) → ⊥
    by true b is = cc
    by false true is = cc
    by false false is = cc

-- the answer to a request for an end is of a channel that is there, for that endpoint of the peer
pub end_for : (policy : Policy) (r : Reading) (v : Channels) → Sound policy r v → (destination source own peer : ℕ) → disconnection_answer (held_at destination v) destination source ≡ Some (disconnection_response own peer) → IsFor peer (read_at own r.entries) × (disconnection_request destination source ≡ disconnection_request own peer)
end_for policy r v sound destination source own peer = by (held_at destination v) refl
  where
    read : (held : Held) (endpoint : ℕ) → held_at destination v ≡ Some held → peer_of held.stage ≡ Some endpoint → IsFor endpoint (read_at destination r.entries)
    read held endpoint at to = found (read_at destination r.entries) (subst (λ (p : Option ℕ). ReadsBy policy held p (read_at destination r.entries)) to (subst (λ (h : Option Held). Reads policy h (read_at destination r.entries)) at (sound.core.reads destination)))
      where
        found : (entry : Option Entry) → ReadsBy policy held (Some endpoint) entry → IsFor endpoint entry
        found None reads = elim reads [ ]
        found (Some entry) (there, agrees) = ap (λ (c : Channel). c.peer) there.channel_is

    named : (held : Held) (endpoint : ℕ) → held_at destination v ≡ Some held → peer_of held.stage ≡ Some endpoint → (same : Bool) → eqb endpoint source ≡ same → cond same (Some (disconnection_response destination source)) None ≡ Some (disconnection_response own peer) → IsFor peer (read_at own r.entries) × (disconnection_request destination source ≡ disconnection_request own peer)
    named held endpoint at to true same is =
        let whole : disconnection_response destination source ≡ disconnection_response own peer = cc in
        let one : destination ≡ own = cc in
        let two : source ≡ peer = cc in
        (subst (λ n. IsFor n (read_at own r.entries)) (eqb-true endpoint source same ∙ two) (subst (λ n. IsFor endpoint (read_at n r.entries)) one (read held endpoint at to)), ap (λ n. disconnection_request n source) one ∙ ap (disconnection_request own) two)
    named held endpoint at to false same is = cc

    stage_is : (held : Held) (stage : Stage) → held_at destination v ≡ Some held → held.stage ≡ stage → disconnection_by stage destination source ≡ Some (disconnection_response own peer) → IsFor peer (read_at own r.entries) × (disconnection_request destination source ≡ disconnection_request own peer)
    stage_is held (Requested request) at is answer = cc
    stage_is held (Connected endpoint setup) at is answer = named held endpoint at (ap peer_of is) (eqb endpoint source) refl answer
    stage_is held (Leaving endpoint setup request) at is answer = named held endpoint at (ap peer_of is) (eqb endpoint source) refl answer
    stage_is held (Closing endpoint request checked) at is answer = named held endpoint at (ap peer_of is) (eqb endpoint source) refl answer
    stage_is held (Crossed endpoint request) at is answer = named held endpoint at (ap peer_of is) (eqb endpoint source) refl answer

    by : (found : Option Held) → held_at destination v ≡ found → disconnection_answer found destination source ≡ Some (disconnection_response own peer) → IsFor peer (read_at own r.entries) × (disconnection_request destination source ≡ disconnection_request own peer)
    by None at answer = cc
    by (Some held) at answer = stage_is held held.stage at refl answer

-- ---- whatever command comes in

module _ (policy : Policy) (r : Reading) (v : Channels) (sound : Sound policy r v) (K : OfEnd) (kept : IsKept K v.memory.disconnection) where
  -- a request for an end that is answered now
  abbrev IsNow : (identifier : ℕ) → Content → Type 0
  IsNow identifier content = (own peer : ℕ) → content ≡ disconnection_request own peer → IsFor peer (read_at own r.entries) → can_say (answer_to policy content v) v ≡ true → response_to policy identifier content v ≡ answer_to policy content v → K identifier own peer

  -- a request of a kind, answered so
  abbrev Kind : RequestKind → (identifier : ℕ) → Option Content → (Channels → Channels) → Type 0
  Kind kind identifier given more = Answers K v (hears_kind (remembered kind v.memory) kind identifier given more v) identifier (response_by (remembered kind v.memory) identifier given)

  -- nothing is answered
  abbrev None_said : ℕ → Channels → Type 0
  None_said identifier w = Answers K v w identifier None

  nothing : (identifier : ℕ) (w : Channels) → w.memory ≡ v.memory → None_said identifier w
  nothing identifier w same = other_answers K v w identifier None (ap (λ (m : Memory). m.disconnection) same) (λ own peer is. cc) kept

  calls_kind : (identifier : ℕ) (given : Option Content) (more : Channels → Channels) → ((u : Channels) → (more u).memory ≡ u.memory) → IsNoEnd given → Kind kinds.Connection identifier given more
  calls_kind identifier given more keeps none = other_kind K v v.memory.connection kinds.Connection identifier given more keeps (λ u. refl) none (kept_none policy r v sound kinds.Connection (λ same. cc)) kept

  options_kind : (identifier : ℕ) (given : Option Content) (more : Channels → Channels) → ((u : Channels) → (more u).memory ≡ u.memory) → IsNoEnd given → Kind kinds.Configuration identifier given more
  options_kind identifier given more keeps none = other_kind K v v.memory.configuration kinds.Configuration identifier given more keeps (λ u. refl) none (kept_none policy r v sound kinds.Configuration (λ same. cc)) kept

  echo_kind : (identifier : ℕ) (given : Option Content) (more : Channels → Channels) → ((u : Channels) → (more u).memory ≡ u.memory) → IsNoEnd given → Kind kinds.Echo identifier given more
  echo_kind identifier given more keeps none = other_kind K v v.memory.echo kinds.Echo identifier given more keeps (λ u. refl) none (kept_none policy r v sound kinds.Echo (λ same. cc)) kept

  information_kind : (identifier : ℕ) (given : Option Content) (more : Channels → Channels) → ((u : Channels) → (more u).memory ≡ u.memory) → IsNoEnd given → Kind kinds.Information identifier given more
  information_kind identifier given more keeps none = other_kind K v v.memory.information kinds.Information identifier given more keeps (λ u. refl) none (kept_none policy r v sound kinds.Information (λ same. cc)) kept

  unread_kind : (kind : RequestKind) (identifier : ℕ) → Kind kind identifier (Some not_understood) (λ w. w)
  unread_kind kinds.Connection identifier = calls_kind identifier (Some not_understood) (λ w. w) (λ u. refl) (λ own peer is. cc)
  unread_kind kinds.Configuration identifier = options_kind identifier (Some not_understood) (λ w. w) (λ u. refl) (λ own peer is. cc)
  unread_kind kinds.Disconnection identifier = end_kind K v identifier (Some not_understood) (λ w. w) (λ u. refl) (λ own peer is can anew. cc) kept
  unread_kind kinds.Echo identifier = echo_kind identifier (Some not_understood) (λ w. w) (λ u. refl) (λ own peer is. cc)
  unread_kind kinds.Information identifier = information_kind identifier (Some not_understood) (λ w. w) (λ u. refl) (λ own peer is. cc)

  content_answers : (identifier : ℕ) (content : Content) → IsNow identifier content → Answers K v (hears_content policy identifier content v) identifier (response_to policy identifier content v)
  content_answers identifier (reject reason rest) now = nothing identifier (hears_content policy identifier (reject reason rest) v) (features_memory identifier None v)
  content_answers identifier (connection_request psm source) now = let c : Content = connection_request psm source in calls_kind identifier (answer_to policy c v) (follows policy c) (λ u. (follows-lasts policy c u).1) (λ own peer is. cc)
  content_answers identifier (connection_response destination source answer status) now =
      nothing identifier (hears_content policy identifier (connection_response destination source answer status) v) (grant-lasts v (held_at source v) policy identifier destination answer).1
  content_answers identifier (configuration_request destination flags options) now =
      let c : Content = configuration_request destination flags options in options_kind identifier (answer_to policy c v) (follows policy c) (λ u. (follows-lasts policy c u).1) (configuration_none (verdict policy destination flags options v) destination)
  content_answers identifier (configuration_response source flags answer options) now =
      nothing identifier (hears_content policy identifier (configuration_response source flags answer options) v) (response-lasts v (held_at source v) policy identifier answer options).1
  content_answers identifier (disconnection_request destination source) now =
      let c : Content = disconnection_request destination source in
      end_kind K v identifier (answer_to policy c v) (follows policy c) (λ u. (follows-lasts policy c u).1) (λ own peer is can anew. let it = end_for policy r v sound destination source own peer is in now own peer it.1 it.0 can anew) kept
  content_answers identifier (disconnection_response destination source) now = nothing identifier (hears_content policy identifier (disconnection_response destination source) v) (end-lasts v (held_at source v) destination).1
  content_answers identifier (echo_request octets) now = let c : Content = echo_request octets in echo_kind identifier (answer_to policy c v) (follows policy c) (λ u. (follows-lasts policy c u).1) (λ own peer is. cc)
  content_answers identifier (echo_response octets) now = nothing identifier v refl
  content_answers identifier (information_request kind) now = let c : Content = information_request kind in information_kind identifier (answer_to policy c v) (follows policy c) (λ u. (follows-lasts policy c u).1) (information_none kind)
  content_answers identifier (information_response kind answer rest) now = nothing identifier (hears_content policy identifier (information_response kind answer rest) v) (features_memory identifier (features_in kind answer rest) v)

  -- as it is said again, with nothing remembered
  again_answers : (identifier : ℕ) (content : Content) → IsNoEnd (Some content) → Answers K v (hears_again identifier (Some content) v) identifier (Some content)
  again_answers identifier content none = other_answers K v (hears_again identifier (Some content) v) identifier (Some content) (ap (λ (m : Memory). m.disconnection) (said-memory identifier (Some content) v (can_say (Some content) v))) none kept

  unread_answers : (code identifier : ℕ) → Answers K v (hears_unread code identifier v) identifier (response_unread code identifier v)
  unread_answers code identifier = by (eqb identifier 0) (is_response_code code) (kind_of_code code)
    where
      by : (zero response : Bool) (kind : Option RequestKind) → Answers K v (cond zero v (cond response v (cond (is_kind kind) (hears_malformed kind identifier v) (hears_again identifier (Some not_understood) v)))) identifier (cond zero None (cond response None (response_malformed kind identifier v)))
      by true response kind = nothing identifier v refl
      by false true kind = nothing identifier v refl
      by false false None = again_answers identifier not_understood (λ own peer is. cc)
      by false false (Some kind) = unread_kind kind identifier

-- how a command that came in is answered
pub record Replied (K : OfEnd) (v w : Channels) (reply : Option Command) : Type 0 where
  pub said : (identifier own peer : ℕ) → reply ≡ Some (command_with identifier (disconnection_response own peer)) → can_say (option_map (λ (c : Command). c.content) reply) v ≡ true → (last : Remembered) × (w.memory.disconnection ≡ Some last) × (last.identifier ≡ identifier) × (last.response ≡ Some (disconnection_response own peer))
  pub kept : IsKept K w.memory.disconnection

pub can_reply : (identifier : ℕ) (response : Option Content) (v : Channels) → can_say (option_map (λ (c : Command). c.content) (command_if identifier response)) v ≡ can_say response v
can_reply identifier None v = refl
can_reply identifier (Some content) v = refl

pub replied : (K : OfEnd) (v w : Channels) (identifier : ℕ) (response : Option Content) → Answers K v w identifier response → Replied K v w (command_if identifier response)
replied K v w identifier None answers = record { said = λ i own peer is can. cc; kept = answers.kept }
replied K v w identifier (Some content) answers = record {
  said = λ i own peer is can.
      let whole : command_with identifier content ≡ command_with i (disconnection_response own peer) = cc in
      let (last, at, named, response) = answers.said own peer (ap (λ (c : Command). Some c.content) whole) can in (last, at, named ∙ ap (λ (c : Command). c.identifier) whole, response);
  kept = answers.kept;
}

pub none_replied : (K : OfEnd) (v : Channels) → IsKept K v.memory.disconnection → Replied K v v None
none_replied K v kept = record { said = λ i own peer is can. cc; kept = kept }

-- what is so of a request for an end that is answered as the command comes in
abbrev pub AnsweredNow : Policy → Reading → Channels → OfEnd → Read → Type 0
AnsweredNow policy r v K one = (identifier own peer : ℕ) → one ≡ Ok (command_with identifier (disconnection_request own peer)) → IsFor peer (read_at own r.entries) → can_say (option_map (λ (c : Command). c.content) (reply_to policy one v)) v ≡ true → K identifier own peer

pub any-replied : (policy : Policy) (r : Reading) (v : Channels) → Sound policy r v → (K : OfEnd) → IsKept K v.memory.disconnection → (one : Read) → AnsweredNow policy r v K one → Replied K v (hears_command policy one v) (reply_to policy one v)
any-replied policy r v sound K kept (Ok command) now =
    replied K v (hears_content policy command.identifier command.content v) command.identifier (response_to policy command.identifier command.content v)
    (content_answers policy r v sound K kept command.identifier command.content (λ own peer is there can anew.
    now command.identifier own peer (ap (λ (c : Content). Ok (command_with command.identifier c)) is) there (can_reply command.identifier (response_to policy command.identifier command.content v) v ∙ (ap (λ (x : Option Content). can_say x v) anew ∙ can))))
any-replied policy r v sound K kept (Err (ZeroIdentifier code identifier)) now = none_replied K v kept
any-replied policy r v sound K kept (Err (BadLength code None)) now = none_replied K v kept
any-replied policy r v sound K kept (Err (BadLength code (Some identifier))) now = replied K v (hears_unread code identifier v) identifier (response_unread code identifier v) (unread_answers policy r v sound K kept code identifier)
any-replied policy r v sound K kept (Err (UnknownCode code None)) now = none_replied K v kept
any-replied policy r v sound K kept (Err (UnknownCode code (Some identifier))) now = replied K v (hears_unread code identifier v) identifier (response_unread code identifier v) (unread_answers policy r v sound K kept code identifier)
any-replied policy r v sound K kept (Err (AboveMtu code None)) now = none_replied K v kept
any-replied policy r v sound K kept (Err (AboveMtu code (Some identifier))) now = by (eqb identifier 0)
  where
    by : (zero : Bool) → Replied K v (cond zero v (hears_again identifier (Some too_long) v)) (command_if identifier (cond zero None (Some too_long)))
    by true = none_replied K v kept
    by false = replied K v (hears_again identifier (Some too_long) v) identifier (Some too_long) (again_answers policy r v sound K kept identifier too_long (λ own peer is. cc))

-- what is said of it is the response, where there is room
pub answered-in : (one : Read) (reply : Option Command) (v : Channels) (identifier own peer : ℕ) → HasAnsweredEnd identifier own peer (exchanged one reply v)
    → (reply ≡ Some (command_with identifier (disconnection_response own peer))) × (can_say (option_map (λ (c : Command). c.content) reply) v ≡ true)
answered-in one reply v identifier own peer = by (can_say (option_map (λ (c : Command). c.content) reply) v) refl reply refl
  where
    by : (can : Bool) → can_say (option_map (λ (c : Command). c.content) reply) v ≡ can → (given : Option Command) → reply ≡ given → HasAnsweredEnd identifier own peer (cond can (sayings.Command Into one ∷ map spoken (option_to_list given)) [])
        → (reply ≡ Some (command_with identifier (disconnection_response own peer))) × (can_say (option_map (λ (c : Command). c.content) reply) v ≡ true)
    by false can given is none = elim none [ ]
    by true can given is (inl same) = cc
    by true can None is (inr none) = elim none [ ]
    by true can (Some command) is (inr (inl same)) = let it : command ≡ command_with identifier (disconnection_response own peer) = cc in (is ∙ ap Some it, can)
    by true can (Some command) is (inr (inr none)) = elim none [ ]

-- one command behind all that was said
pub one_ends : (policy : Policy) (past : List Saying) (v : Channels) (one : Read) → IsTold one → Sound policy (reading past) v → Ends past v.memory → Ends (past ++ said_with policy one v) (hears_command policy one v).memory
one_ends policy past v one told sound ends = record { answered = answered; kept = kept }
  where
    w : Channels
    w = hears_command policy one v

    reply : Option Command
    reply = reply_to policy one v

    said : List Saying
    said = said_with policy one v

    after : Sound policy (reading (past ++ said)) w
    after = subst (λ (r : Reading). Sound policy r w) (sym (reading-on past said)) (hears-any policy (reading past) v one told sound)

    -- the channel is read, and the request was heard
    Known : OfEnd
    Known identifier own peer = IsFor peer (read_at own (reading past).entries) × HasHeardEnd identifier own peer (past ++ said)

    now : AnsweredNow policy (reading past) v Known one
    now identifier own peer is there can =
        let heard : HasHeardEnd identifier own peer (exchanged one reply v) =
        subst (λ (b : Bool). HasHeardEnd identifier own peer (cond b (sayings.Command Into one ∷ map spoken (option_to_list reply)) [])) (sym can) (inl (ap (sayings.Command Into) is)) in
        (there, stands-right _ past said (stands-left _ (exchanged one reply v) (asked_between v w) heard))

    so : Replied Known v w reply
    so = any-replied policy (reading past) v sound Known (λ last own peer at is. let it = ends.kept last own peer at is in (it.0, stands-left _ past said it.1)) one now

    kept : (last : Remembered) (own peer : ℕ) → w.memory.disconnection ≡ Some last → last.response ≡ Some (disconnection_response own peer) → IsFor peer (read_at own (reading (past ++ said)).entries) × HasHeardEnd last.identifier own peer (past ++ said)
    kept last own peer at is = let it = so.kept last own peer at is in (more-for peer own past said it.0, it.1)

    -- what is remembered now has ended
    gone : (identifier : ℕ) (last : Remembered) (own peer : ℕ) → w.memory.disconnection ≡ Some last → last.identifier ≡ identifier → last.response ≡ Some (disconnection_response own peer) → IsEndedFor peer (read_at own (reading (past ++ said)).entries) × HasHeardEnd identifier own peer (past ++ said)
    gone identifier last own peer at named is =
        let away : IsAway (read_at own (reading (past ++ said)).entries) = subst (IsEnded (reading (past ++ said)).entries) is (subst (EndsKept (reading (past ++ said)).entries) at after.kept.ends) in
        let it = kept last own peer at is in
        (ended-by peer (read_at own (reading (past ++ said)).entries) it.0 away, subst (λ n. HasHeardEnd n own peer (past ++ said)) named it.1)

    new : (identifier own peer : ℕ) → HasAnsweredEnd identifier own peer (exchanged one reply v) ⊎ HasAnsweredEnd identifier own peer (asked_between v w) → IsEndedFor peer (read_at own (reading (past ++ said)).entries) × HasHeardEnd identifier own peer (past ++ said)
    new identifier own peer (inl is) =
        let (answer, can) = answered-in one reply v identifier own peer is in
        let (last, at, named, response) = so.said identifier own peer answer can in gone identifier last own peer at named response
    new identifier own peer (inr is) = absurd (words-asked w Silent (own-words w) v identifier own peer is)

    by : (identifier own peer : ℕ) → HasAnsweredEnd identifier own peer past ⊎ HasAnsweredEnd identifier own peer said → IsEndedFor peer (read_at own (reading (past ++ said)).entries) × HasHeardEnd identifier own peer (past ++ said)
    by identifier own peer (inl old) = let it = ends.answered identifier own peer old in (more-ended peer own past said it.0, stands-left _ past said it.1)
    by identifier own peer (inr is) = new identifier own peer (stands-either (spoken (command_with identifier (disconnection_response own peer))) (exchanged one reply v) (asked_between v w) is)

    answered : (identifier own peer : ℕ) → HasAnsweredEnd identifier own peer (past ++ said) → IsEndedFor peer (read_at own (reading (past ++ said)).entries) × HasHeardEnd identifier own peer (past ++ said)
    answered identifier own peer is = by identifier own peer (stands-either (spoken (command_with identifier (disconnection_response own peer))) past said is)

pub all_end : (policy : Policy) (list : List Read) (past : List Saying) (v : Channels) → AllByRecursion IsTold list → Sound policy (reading past) v → Ends past v.memory → Ends (past ++ said_with_all policy list v) (hears_commands policy list v).memory
all_end policy [] past v told sound ends = silent_step past [] v.memory v.memory refl (λ identifier own peer is. elim is [ ]) ends
all_end policy (one ∷ list) past v told sound ends =
    let w : Channels = hears_command policy one v in
    let said : List Saying = said_with policy one v in
    let after : Sound policy (reading (past ++ said)) w = subst (λ (r : Reading). Sound policy r w) (sym (reading-on past said)) (hears-any policy (reading past) v one told.0 sound) in
    subst (λ (list' : List Saying). Ends list' (hears_commands policy list w).memory) (append_assoc past said (said_with_all policy list w))
    (all_end policy list (past ++ said) w told.1 after (one_ends policy past v one told.0 sound ends))

-- ---- whatever happens

pub channels_memory : (tries : ℕ) (owns : List ℕ) (v : Channels) → (times_channels tries owns v).memory ≡ v.memory
channels_memory tries [] v = refl
channels_memory tries (own ∷ owns) v =
    let u : Channels = times_held (held_at own v) tries v in
    let w : Channels = times_end (held_at own u) tries u in
    channels_memory tries owns w ∙ ((ends-last tries own u).1 ∙ (times-last tries own v).1)

pub fired_memory : (policy : Policy) (v : Channels) → (timed_out policy v).memory ≡ v.memory
fired_memory policy v =
    let owns : List ℕ = map (λ (held : Held). held.own) v.held in
    let u : Channels = times_channels policy.tries owns v in
    features_lost policy.tries u u.features ∙ channels_memory policy.tries owns v

-- it brings nothing on the signalling channel
abbrev pub BringsNone : Occurrence → Type 0
BringsNone (Comes pdu) = eqb (channel_of pdu) 0x0001 ≡ false
BringsNone (Connects psm) = Unit {0}
BringsNone AsksFeatures = Unit {0}
BringsNone (Disconnects own) = Unit {0}
BringsNone (Sends own sdu) = Unit {0}
BringsNone (Gives pdu) = Unit {0}
BringsNone Fires = Unit {0}
BringsNone Tells = Unit {0}

-- then nothing is remembered, and no end is answered
pub silent-occurs : (policy : Policy) (one : Occurrence) (v : Channels) → BringsNone one → ((value_after policy one v).memory ≡ v.memory) × Silent (said_in policy one v)
silent-occurs policy (Comes pdu) v none =
    let w : Channels = takes (channel_of pdu) pdu v in
    let all : List Saying = said_with_all policy (answers (drop 4 pdu)) v in
    let silent = silent_both (Carried Into pdu ∷ []) (asked_between v w) (silent_one (Carried Into pdu) (λ i o p same. cc)) (words-asked w Silent (own-words w) v) in (
      ap (λ (b : Bool). (cond b (hears_commands policy (answers (drop 4 pdu)) v) w).memory) none ∙ (takes-lasts (channel_of pdu) pdu v).1,
      subst Silent (sym (ap (λ (b : Bool). cond b all (Carried Into pdu ∷ asked_between v w)) none)) silent,
    )
silent-occurs policy (Connects psm) v none = let w : Channels = connected psm v in (single_memory policy (Connects psm) v refl, words-asked w Silent (own-words w) v)
silent-occurs policy AsksFeatures v none = let w : Channels = asks_features v in (single_memory policy AsksFeatures v refl, words-asked w Silent (own-words w) v)
silent-occurs policy (Disconnects own) v none = let w : Channels = disconnected own v in (single_memory policy (Disconnects own) v refl, words-left w Silent (own-words w) own v)
silent-occurs policy (Sends own sdu) v none = (single_memory policy (Sends own sdu) v refl, silent_sent (carrier_at own v) _ sdu)
silent-occurs policy (Gives pdu) v none = (single_memory policy (Gives pdu) v refl, silent_given (next_given v) pdu)
silent-occurs policy Fires v none = (fired_memory policy v, silent_fired policy.tries (map (λ (held : Held). held.own) v.held) v)
silent-occurs policy Tells v none = (single_memory policy Tells v refl, silent_none)

pub occurs_ends : (policy : Policy) (run : Run) (more : Occurrence) → IsSound policy run → Ends run.said run.value.memory → Ends (run_on policy run more).said (run_on policy run more).value.memory
occurs_ends policy run more sound ends = by more
  where
    v : Channels
    v = run.value

    quiet : (one : Occurrence) → BringsNone one → Ends (run.said ++ said_in policy one v) (value_after policy one v).memory
    quiet one none = let so = silent-occurs policy one v none in silent_step run.said (said_in policy one v) v.memory (value_after policy one v).memory so.0 so.1 ends

    comes : (pdu : List ℕ) (signals : Bool) → eqb (channel_of pdu) 0x0001 ≡ signals → Ends (run.said ++ said_in policy (Comes pdu) v) (value_after policy (Comes pdu) v).memory
    comes pdu false is = quiet (Comes pdu) is
    comes pdu true is =
        let all : List Saying = said_with_all policy (answers (drop 4 pdu)) v in
        subst (λ (b : Bool). Ends (run.said ++ cond b all (Carried Into pdu ∷ asked_between v (takes (channel_of pdu) pdu v))) (cond b (hears_commands policy (answers (drop 4 pdu)) v) (takes (channel_of pdu) pdu v)).memory) (sym is)
        (all_end policy (answers (drop 4 pdu)) run.said v (all-told (drop 4 pdu)) sound ends)

    by : (one : Occurrence) → Ends (run.said ++ said_in policy one v) (value_after policy one v).memory
    by (Comes pdu) = comes pdu (eqb (channel_of pdu) 0x0001) refl
    by (Connects psm) = quiet (Connects psm) tt
    by AsksFeatures = quiet AsksFeatures tt
    by (Disconnects own) = quiet (Disconnects own) tt
    by (Sends own sdu) = quiet (Sends own sdu) tt
    by (Gives pdu) = quiet (Gives pdu) tt
    by Fires = quiet Fires tt
    by Tells = quiet Tells tt

pub first_ends : Ends [] new_link.value.memory
first_ends = record { answered = λ identifier own peer is. elim is [ ]; kept = λ last own peer at is. cc }

pub answered-ends_are_ended : AnsweredEndsAreEnded
answered-ends_are_ended policy list identifier own peer is =
    let all = (along policy (λ (run : Run). Ends run.said run.value.memory) first_ends (λ run more sound ends. occurs_ends policy run more sound ends) list).1 in
    all.answered identifier own peer is
