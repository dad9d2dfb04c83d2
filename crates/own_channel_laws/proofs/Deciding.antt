-- No answer of a host says that another one follows.
use Rattle.std.proofs.Common.{◌≡◌, ℕ, List, [], ◌∷◌, ◌++◌, map, drop, Bool, true, false, cond, eqb, not, Option, Some, None, Ok, Err, refl, sym, ap, subst, ◌∙◌, inl, inr}
use Rattle.std.specs.Prelude.{find, nat_le, nat_lt, length}
use Rattle.std.specs.List.{list_any}
use Rattle.talk_laws.specs.acl_fragments.specs.Pieces.{channel_of}
use Rattle.talk_laws.specs.l2cap_signal.specs.Commands.{Content, Command, reject, connection_request, connection_response, configuration_request, configuration_response, disconnection_request, disconnection_response, echo_request, echo_response, information_request, information_response}
use Rattle.talk_laws.specs.l2cap_signal.specs.Reading.{Answer as Read, answers}
use Rattle.talk_laws.specs.l2cap_signal.specs.declared.refusal.SignalRefusal.TheVariants.{ZeroIdentifier, BadLength, UnknownCode, AboveMtu}
use Rattle.talk_laws.specs.l2cap_config.specs.declared.agreement.ConfigAnswer.{ConfigAnswer}
use Rattle.talk_laws.specs.l2cap_config.specs.declared.agreement.ConfigAnswer.TheVariants.{Accept, Unacceptable, Unknown}
use Rattle.talk_laws.specs.l2cap_config.specs.declared.options.Options.{Options}
use Rattle.channel_model.specs.declared.request_kind.RequestKind.{RequestKind}
use Rattle.channel_model.specs.declared.request_kind.RequestKind.TheVariants as kinds
use Rattle.channel_model.specs.Value.{Queued, Answer, Ask, Stage, Requested, Connected, Leaving, Closing, Crossed, Held, Remembered, Memory, no_memory, Channels}
use Rattle.channel_model.specs.Policies.{Policy}
use Rattle.channel_model.specs.Changing.{held_at, has_peer}
use Rattle.channel_model.specs.Configuring.{Verdict, NoChannel, TooLate, Unreadable, Incomplete, Judged, verdict}
use Rattle.channel_model.specs.Answers.{kind_of_code, remembered, with_remembered, not_understood, too_long, connection_result, judged_answer, configuration_answer, disconnection_by, disconnection_answer, answer_to}
use Rattle.channel_model.specs.Carrying.{takes}
use Rattle.channel_model.specs.Following.{follows, remembers, says, can_say, hears_new, hears_again, hears_kind}
use Rattle.channel_model.specs.Giving.{gives, counted, queue_given}
use Rattle.channel_model.specs.Hearing.{hears_content, hears_malformed, is_response_code, is_kind, hears_unread, hears_command, hears_commands}
use Rattle.channel_model.specs.Responses.{hears_features, features_in, hears_grant, hears_response, hears_end}
use Rattle.channel_model.specs.Timing.{times_held, times_end, times_channels, timed_out}
use Rattle.own_channel_laws.specs.Decisive.{IsDecisive, AnswersAreDecisive}
use Rattle.own_channel_laws.specs.OwnTalk.{command_with}
use Rattle.own_channel_laws.specs.Runs.{Occurrence, Comes, Connects, AsksFeatures, Disconnects, Sends, Gives, Fires, Tells, value_after, run_of}
use Rattle.own_channel_laws.specs.Signals.{StandsIn}
use Rattle.own_channel_laws.proofs.Conversing.{answers-more, says_memory, features_memory, features_lost, single_memory}
use Rattle.own_channel_laws.proofs.Lasting.{answers_of, Lasts, follows-lasts, grant-lasts, response-lasts, end-lasts, takes-lasts, connects-lasts, disconnects-last, sends-last, times-last, ends-last}
use Rattle.own_channel_laws.proofs.Running.{along}
use Rattle.own_channel_laws.proofs.Saying.{features-same, lost-same, asks-same, given-held, given-counted}

-- ---- what is answered

pub result_decides : (policy : Policy) (psm source : ℕ) (v : Channels) → eqb (connection_result policy psm source v) 1 ≡ false
result_decides policy psm source v = by (not (policy.offers psm)) (nat_le 4 (length v.held)) (nat_lt 0xFFFF v.next) (nat_lt source 0x0040) (list_any (has_peer source) v.held)
  where
    by : (a b c d e : Bool) → eqb (cond a 2 (cond b 4 (cond c 4 (cond d 6 (cond e 7 0))))) 1 ≡ false
    by true b c d e = refl
    by false true c d e = refl
    by false false true d e = refl
    by false false false true e = refl
    by false false false false true = refl
    by false false false false false = refl

pub judged_decides : (answer : ConfigAnswer) (peer : ℕ) (options : Options) → IsDecisive (judged_answer answer peer options)
judged_decides (Accept given) peer options = refl
judged_decides (Unacceptable refusal given) peer options = refl
judged_decides Unknown peer options = refl

pub options_decide : (now : Verdict) (own : ℕ) → IsDecisive (configuration_answer now own)
options_decide NoChannel own = tt
options_decide (TooLate peer) own = refl
options_decide (Unreadable peer) own = refl
options_decide (Incomplete peer options) own = refl
options_decide (Judged peer options answer) own = judged_decides answer peer options

abbrev pub Decides : Option Content → Type 0
Decides None = Unit {0}
Decides (Some content) = IsDecisive content

pub end_decides : (held : Option Held) (own peer : ℕ) → Decides (disconnection_answer held own peer)
end_decides None own peer = tt
end_decides (Some held) own peer = by held.stage
  where
    named : (same : Bool) → Decides (cond same (Some (disconnection_response own peer)) None)
    named true = tt
    named false = tt

    by : (stage : Stage) → Decides (disconnection_by stage own peer)
    by (Requested request) = tt
    by (Connected endpoint setup) = named (eqb endpoint peer)
    by (Leaving endpoint setup request) = named (eqb endpoint peer)
    by (Closing endpoint request checked) = named (eqb endpoint peer)
    by (Crossed endpoint request) = named (eqb endpoint peer)

pub answer_decides : (policy : Policy) (content : Content) (v : Channels) → Decides (answer_to policy content v)
answer_decides policy (reject reason rest) v = tt
answer_decides policy (connection_request psm source) v = result_decides policy psm source v
answer_decides policy (connection_response destination source answer status) v = tt
answer_decides policy (configuration_request destination flags options) v = options_decide (verdict policy destination flags options v) destination
answer_decides policy (configuration_response source flags answer options) v = tt
answer_decides policy (disconnection_request destination source) v = end_decides (held_at destination v) destination source
answer_decides policy (disconnection_response destination source) v = tt
answer_decides policy (echo_request octets) v = tt
answer_decides policy (echo_response octets) v = tt
answer_decides policy (information_request kind) v = by (eqb kind 2) (eqb kind 3)
  where
    by : (two three : Bool) → IsDecisive (cond two (information_response kind 0 (0xA8 ∷ 0x00 ∷ 0x00 ∷ 0x00 ∷ [])) (cond three (information_response kind 0 (0x02 ∷ 0x00 ∷ 0x00 ∷ 0x00 ∷ 0x00 ∷ 0x00 ∷ 0x00 ∷ 0x00 ∷ [])) (information_response kind 1 [])))
    by true three = tt
    by false true = tt
    by false false = tt
answer_decides policy (information_response kind answer rest) v = tt

-- ---- what waits, and what is remembered

abbrev pub AllDecide : List Command → Type 0
AllDecide [] = Unit {0}
AllDecide (command ∷ list) = IsDecisive command.content × AllDecide list

pub more_decide : (list : List Command) (command : Command) → AllDecide list → IsDecisive command.content → AllDecide (list ++ command ∷ [])
more_decide [] command all one = (one, tt)
more_decide (first ∷ list) command (now, later) one = (now, more_decide list command later one)

abbrev pub LastDecides : Option Remembered → Type 0
LastDecides None = Unit {0}
LastDecides (Some last) = Decides last.response

pub record Decided (v : Channels) : Type 0 where
  pub waiting : AllDecide (answers_of v.queue)
  pub kept : (kind : RequestKind) → LastDecides (remembered kind v.memory)

-- so it stays
abbrev pub Stays : (v w : Channels) → Type 0
Stays v w = Decided v → Decided w

pub by_both : (v w : Channels) → w.memory ≡ v.memory → answers_of w.queue ≡ answers_of v.queue → Stays v w
by_both v w memory queue so = record { waiting = subst AllDecide (sym queue) so.waiting; kept = λ kind. subst (λ (m : Memory). LastDecides (remembered kind m)) (sym memory) (so.kept kind) }

pub by_lasts : (v w : Channels) → Lasts v w → Stays v w
by_lasts v w (features, memory, queue) = by_both v w memory queue

pub said_decides : (identifier : ℕ) (response : Option Content) (v : Channels) → Decides response → AllDecide (answers_of v.queue) → AllDecide (answers_of (says identifier response v).queue)
said_decides identifier None v one all = all
said_decides identifier (Some content) v one all = subst AllDecide (sym (answers-more v.queue (command_with identifier content))) (more_decide (answers_of v.queue) (command_with identifier content) all one)

pub with_last : (kind other : RequestKind) (last : Remembered) (memory : Memory) → Decides last.response → LastDecides (remembered other memory) → LastDecides (remembered other (with_remembered kind last memory))
with_last kinds.Connection kinds.Connection last memory one so = one
with_last kinds.Connection kinds.Configuration last memory one so = so
with_last kinds.Connection kinds.Disconnection last memory one so = so
with_last kinds.Connection kinds.Echo last memory one so = so
with_last kinds.Connection kinds.Information last memory one so = so
with_last kinds.Configuration kinds.Connection last memory one so = so
with_last kinds.Configuration kinds.Configuration last memory one so = one
with_last kinds.Configuration kinds.Disconnection last memory one so = so
with_last kinds.Configuration kinds.Echo last memory one so = so
with_last kinds.Configuration kinds.Information last memory one so = so
with_last kinds.Disconnection kinds.Connection last memory one so = so
with_last kinds.Disconnection kinds.Configuration last memory one so = so
with_last kinds.Disconnection kinds.Disconnection last memory one so = one
with_last kinds.Disconnection kinds.Echo last memory one so = so
with_last kinds.Disconnection kinds.Information last memory one so = so
with_last kinds.Echo kinds.Connection last memory one so = so
with_last kinds.Echo kinds.Configuration last memory one so = so
with_last kinds.Echo kinds.Disconnection last memory one so = so
with_last kinds.Echo kinds.Echo last memory one so = one
with_last kinds.Echo kinds.Information last memory one so = so
with_last kinds.Information kinds.Connection last memory one so = so
with_last kinds.Information kinds.Configuration last memory one so = so
with_last kinds.Information kinds.Disconnection last memory one so = so
with_last kinds.Information kinds.Echo last memory one so = so
with_last kinds.Information kinds.Information last memory one so = one

pub new_stays : (v : Channels) (kind : RequestKind) (identifier : ℕ) (response : Option Content) (more : Channels → Channels) → ((u : Channels) → Lasts u (more u)) → Decides response → Stays v (hears_new kind identifier response more v)
new_stays v kind identifier response more goes one so = by (can_say response v)
  where
    last : Remembered
    last = record { identifier = identifier; response = response }

    t : Channels
    t = remembers kind identifier response v

    u : Channels
    u = says identifier response t

    memory_is : (more u).memory ≡ with_remembered kind last v.memory
    memory_is = (goes u).1 ∙ says_memory identifier response t

    by : (can : Bool) → Decided (cond can (more u) v)
    by true = record {
      waiting = subst AllDecide (sym (goes u).2) (said_decides identifier response t one so.waiting);
      kept = λ other. subst (λ (m : Memory). LastDecides (remembered other m)) (sym memory_is) (with_last kind other last v.memory one (so.kept other));
    }
    by false = so

pub again_stays : (v : Channels) (identifier : ℕ) (response : Option Content) → Decides response → Stays v (hears_again identifier response v)
again_stays v identifier response one so = by (can_say response v)
  where
    by : (can : Bool) → Decided (cond can (says identifier response v) v)
    by true = record {
      waiting = said_decides identifier response v one so.waiting;
      kept = λ other. subst (λ (m : Memory). LastDecides (remembered other m)) (sym (says_memory identifier response v)) (so.kept other);
    }
    by false = so

pub kind_stays : (v : Channels) (kind : RequestKind) (identifier : ℕ) (fresh : Option Content) (more : Channels → Channels) → ((u : Channels) → Lasts u (more u)) → Decides fresh → Stays v (hears_kind (remembered kind v.memory) kind identifier fresh more v)
kind_stays v kind identifier fresh more goes one so = by (remembered kind v.memory) (so.kept kind)
  where
    by : (last : Option Remembered) → LastDecides last → Decided (hears_kind last kind identifier fresh more v)
    by None any = new_stays v kind identifier fresh more goes one so
    by (Some last) told = at (eqb last.identifier identifier)
      where
        at : (same : Bool) → Decided (cond same (hears_again identifier last.response v) (hears_new kind identifier fresh more v))
        at true = again_stays v identifier last.response told so
        at false = new_stays v kind identifier fresh more goes one so

pub content_stays : (policy : Policy) (identifier : ℕ) (content : Content) (v : Channels) → Stays v (hears_content policy identifier content v)
content_stays policy identifier (reject reason rest) v = by_both v (hears_features identifier None v) (features_memory identifier None v) (features-same identifier None v)
content_stays policy identifier (connection_request psm source) v =
    let c : Content = connection_request psm source in kind_stays v kinds.Connection identifier (answer_to policy c v) (follows policy c) (follows-lasts policy c) (answer_decides policy c v)
content_stays policy identifier (connection_response destination source answer status) v =
    let heard : Channels = hears_grant (held_at source v) policy identifier destination answer v in by_lasts v heard (grant-lasts v (held_at source v) policy identifier destination answer)
content_stays policy identifier (configuration_request destination flags options) v =
    let c : Content = configuration_request destination flags options in kind_stays v kinds.Configuration identifier (answer_to policy c v) (follows policy c) (follows-lasts policy c) (answer_decides policy c v)
content_stays policy identifier (configuration_response source flags answer options) v =
    let heard : Channels = hears_response (held_at source v) policy identifier answer options v in by_lasts v heard (response-lasts v (held_at source v) policy identifier answer options)
content_stays policy identifier (disconnection_request destination source) v =
    let c : Content = disconnection_request destination source in kind_stays v kinds.Disconnection identifier (answer_to policy c v) (follows policy c) (follows-lasts policy c) (answer_decides policy c v)
content_stays policy identifier (disconnection_response destination source) v =
    let heard : Channels = hears_end (held_at source v) destination v in by_lasts v heard (end-lasts v (held_at source v) destination)
content_stays policy identifier (echo_request octets) v = let c : Content = echo_request octets in kind_stays v kinds.Echo identifier (answer_to policy c v) (follows policy c) (follows-lasts policy c) (answer_decides policy c v)
content_stays policy identifier (echo_response octets) v = λ so. so
content_stays policy identifier (information_request kind) v =
    let c : Content = information_request kind in kind_stays v kinds.Information identifier (answer_to policy c v) (follows policy c) (follows-lasts policy c) (answer_decides policy c v)
content_stays policy identifier (information_response kind answer rest) v =
    let given = features_in kind answer rest in by_both v (hears_features identifier given v) (features_memory identifier given v) (features-same identifier given v)

pub malformed_stays : (kind : Option RequestKind) (identifier : ℕ) (v : Channels) → Stays v (hears_malformed kind identifier v)
malformed_stays None identifier v = λ so. so
malformed_stays (Some kind) identifier v = kind_stays v kind identifier (Some not_understood) (λ w. w) (λ u. (refl, refl, refl)) tt

pub unread_stays : (code identifier : ℕ) (v : Channels) → Stays v (hears_unread code identifier v)
unread_stays code identifier v = by (eqb identifier 0) (is_response_code code) (is_kind (kind_of_code code))
  where
    by : (zero response kind : Bool) → Stays v (cond zero v (cond response v (cond kind (hears_malformed (kind_of_code code) identifier v) (hears_again identifier (Some not_understood) v))))
    by true response kind = λ so. so
    by false true kind = λ so. so
    by false false true = malformed_stays (kind_of_code code) identifier v
    by false false false = again_stays v identifier (Some not_understood) tt

pub long_stays : (identifier : ℕ) (v : Channels) (zero : Bool) → Stays v (cond zero v (hears_again identifier (Some too_long) v))
long_stays identifier v true = λ so. so
long_stays identifier v false = again_stays v identifier (Some too_long) tt

pub command_stays : (policy : Policy) (one : Read) (v : Channels) → Stays v (hears_command policy one v)
command_stays policy (Ok command) v = content_stays policy command.identifier command.content v
command_stays policy (Err (ZeroIdentifier code identifier)) v = λ so. so
command_stays policy (Err (BadLength code None)) v = λ so. so
command_stays policy (Err (BadLength code (Some identifier))) v = unread_stays code identifier v
command_stays policy (Err (UnknownCode code None)) v = λ so. so
command_stays policy (Err (UnknownCode code (Some identifier))) v = unread_stays code identifier v
command_stays policy (Err (AboveMtu code None)) v = λ so. so
command_stays policy (Err (AboveMtu code (Some identifier))) v = long_stays identifier v (eqb identifier 0)

pub commands_stay : (policy : Policy) (list : List Read) (v : Channels) → Stays v (hears_commands policy list v)
commands_stay policy [] v so = so
commands_stay policy (one ∷ list) v so = commands_stay policy list (hears_command policy one v) (command_stays policy one v so)

pub channels_stay : (tries : ℕ) (owns : List ℕ) (v : Channels) → Stays v (times_channels tries owns v)
channels_stay tries [] v so = so
channels_stay tries (own ∷ owns) v so =
    let u : Channels = times_held (held_at own v) tries v in
    let w : Channels = times_end (held_at own u) tries u in
    channels_stay tries owns w (by_lasts u w (ends-last tries own u) (by_lasts v u (times-last tries own v) so))

pub given_stays : (v : Channels) (queue : List Queued) → v.queue ≡ queue → (queue_given queue v).memory ≡ v.memory → Stays v (queue_given queue v)
given_stays v [] is memory = by_both v (queue_given [] v) memory (ap answers_of (given-held v (find gives v.held)))
given_stays v (Answer command ∷ behind) is memory = λ so. record { waiting = (subst AllDecide (ap answers_of is) so.waiting).1; kept = so.kept }
given_stays v (Ask errand ∷ behind) is memory =
    let u : Channels = record v { queue = behind } in
    by_both v (counted errand u) memory (ap answers_of (given-counted u errand) ∙ sym (ap answers_of is))

pub occurs_stays : (policy : Policy) (more : Occurrence) (v : Channels) → Stays v (value_after policy more v)
occurs_stays policy (Comes pdu) v = by (eqb (channel_of pdu) 0x0001)
  where
    by : (signals : Bool) → Stays v (cond signals (hears_commands policy (answers (drop 4 pdu)) v) (takes (channel_of pdu) pdu v))
    by true = commands_stay policy (answers (drop 4 pdu)) v
    by false = by_lasts v (takes (channel_of pdu) pdu v) (takes-lasts (channel_of pdu) pdu v)
occurs_stays policy (Connects psm) v = by_lasts v (value_after policy (Connects psm) v) (connects-lasts psm v)
occurs_stays policy AsksFeatures v = by_both v (value_after policy AsksFeatures v) (single_memory policy AsksFeatures v refl) (asks-same v)
occurs_stays policy (Disconnects own) v = by_lasts v (value_after policy (Disconnects own) v) (disconnects-last own v)
occurs_stays policy (Sends own sdu) v = by_lasts v (value_after policy (Sends own sdu) v) (sends-last own sdu v)
occurs_stays policy (Gives pdu) v = given_stays v v.queue refl (single_memory policy (Gives pdu) v refl)
occurs_stays policy Fires v = λ so.
    let u : Channels = times_channels policy.tries (map (λ held. held.own) v.held) v in
    by_both u (timed_out policy v) (features_lost policy.tries u u.features) (lost-same policy.tries u u.features) (channels_stay policy.tries (map (λ held. held.own) v.held) v so)
occurs_stays policy Tells v = λ so. record { waiting = so.waiting; kept = so.kept }

pub first_kept : (kind : RequestKind) → LastDecides (remembered kind no_memory)
first_kept kinds.Connection = tt
first_kept kinds.Configuration = tt
first_kept kinds.Disconnection = tt
first_kept kinds.Echo = tt
first_kept kinds.Information = tt

pub all_decided : (policy : Policy) (list : List Occurrence) → Decided (run_of policy list).value
all_decided policy list = (along policy (λ run. Decided run.value) (record { waiting = tt; kept = first_kept }) (λ run more sound so. occurs_stays policy more run.value so) list).1

pub stands_decides : (queue : List Queued) (command : Command) → StandsIn (Answer command) queue → AllDecide (answers_of queue) → IsDecisive command.content
stands_decides [] command is all = elim is [ ]
stands_decides (Answer other ∷ queue) command (inl same) all = let it : other ≡ command = cc in subst (λ (c : Command). IsDecisive c.content) it all.0
stands_decides (Answer other ∷ queue) command (inr later) all = stands_decides queue command later all.1
stands_decides (Ask errand ∷ queue) command (inl same) all = cc
stands_decides (Ask errand ∷ queue) command (inr later) all = stands_decides queue command later all

pub answers-are_decisive : AnswersAreDecisive
answers-are_decisive policy list command stands = stands_decides (run_of policy list).value.queue command stands (all_decided policy list).waiting
