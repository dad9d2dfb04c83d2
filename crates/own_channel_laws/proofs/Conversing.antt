-- All that happens to a host, with what is said of it, step by step.
use Rattle.std.proofs.Common.{◌≡◌, ℕ, List, [], ◌∷◌, ◌++◌, fold, map, drop, Bool, true, false, cond, eqb, not, Option, Some, None, Ok, Err, refl, sym, ap, subst, ◌∙◌, ◌⊎◌, inl, inr, arith, append_assoc, append-nil}
use Rattle.std.specs.Prelude.{find, is_some, nat_le}
use Rattle.std.specs.List.{AllByRecursion}
use Rattle.std.proofs.lemmas.List.Sums.{fold-append}
use Rattle.talk_laws.specs.acl_fragments.specs.Pieces.{channel_of}
use Rattle.talk_laws.specs.capture.specs.Histories.{EachAfter}
use Rattle.talk_laws.specs.capture.specs.declared.flow.Flow.TheVariants.{Out, Into}
use Rattle.talk_laws.specs.l2cap_signal.specs.Commands.{Command, Content, reject, connection_request, connection_response, configuration_request, configuration_response, disconnection_request, disconnection_response, echo_request, echo_response, information_request, information_response}
use Rattle.talk_laws.specs.l2cap_signal.specs.Reading.{Answer as Read, answers}
use Rattle.talk_laws.specs.l2cap_signal.specs.declared.refusal.SignalRefusal.TheVariants.{ZeroIdentifier, BadLength, UnknownCode, AboveMtu}
use Rattle.talk_laws.specs.link_talk.specs.Sayings.{Saying, Carried}
use Rattle.talk_laws.specs.link_talk.specs.Channels.{nothing_read, read_on, reading}
use Rattle.channel_model.specs.declared.errand.Errand.TheVariants as errands
use Rattle.channel_model.specs.declared.event.ChannelEvent.TheVariants.{Features}
use Rattle.channel_model.specs.declared.request_kind.RequestKind.{RequestKind}
use Rattle.channel_model.specs.declared.request_kind.RequestKind.TheVariants as kinds
use Rattle.channel_model.specs.Value.{Queued, Answer, Ask, Request, no_setup, Stage, Requested, Connected, Leaving, Closing, Crossed, Held, Remembered, Memory, Channels, no_channels}
use Rattle.channel_model.specs.Policies.{Policy}
use Rattle.channel_model.specs.Changing.{has_own, held_at, is_due, forgets, tells}
use Rattle.channel_model.specs.Asking.{new_request, asks, StillDue, OnceMore, Spent}
use Rattle.channel_model.specs.Answers.{kind_of_code, remembered, with_remembered, not_understood, too_long, connection_result, connection_answer, judged_answer, configuration_answer, disconnection_by, disconnection_answer, information_answer, answer_to}
use Rattle.channel_model.specs.Following.{with_channel, follows_connection, follows, remembers, says, can_say, hears_new, hears_again, hears_kind}
use Rattle.channel_model.specs.Responses.{has_identifier, hears_features, features_in}
use Rattle.channel_model.specs.Hearing.{hears_content, hears_malformed, is_response_code, is_kind, hears_unread, hears_command, hears_commands}
use Rattle.channel_model.specs.Carrying.{takes}
use Rattle.channel_model.specs.Timing.{fires, times_held, times_end, loses_features, times_features, times_channels}
use Rattle.channel_model.specs.Calls.{asks_features}
use Rattle.own_channel_laws.specs.OwnTalk.{command_with, response_by, response_to, response_malformed, response_unread, command_if, exchanged, asked_between, said_with, said_with_all}
use Rattle.own_channel_laws.specs.Runs.{Occurrence, Comes, Connects, AsksFeatures, Disconnects, Sends, Gives, Fires, Tells, said_on_firing, said_by_channel, fired_channel, said_by_features, said_by_channels, said_in, value_after, Run, new_link, run_on, run_of}
use Rattle.own_channel_laws.proofs.Sound.{IsEnded, EndsKept, IsRepeated, QueriesKept, IsHarmless, HarmlessKept, Sound}
use Rattle.own_channel_laws.proofs.Inviting.{held_here}
use Rattle.channel_model.proofs.Going.{new_held}
use Rattle.channel_model.specs.Configuring.{Verdict, NoChannel, TooLate, Unreadable, Incomplete, Judged, verdict}
use Rattle.talk_laws.specs.l2cap_config.specs.declared.options.Options.{Options}
use Rattle.talk_laws.specs.l2cap_config.specs.declared.agreement.ConfigAnswer.{ConfigAnswer}
use Rattle.talk_laws.specs.l2cap_config.specs.declared.agreement.ConfigAnswer.TheVariants.{Accept, Unacceptable, Unknown}
use Rattle.talk_laws.specs.link_talk.specs.Senses.{Opens, Quiet, OnChannel}
use Rattle.talk_laws.specs.link_talk.specs.Requests.{answered_query}
use Rattle.std.proofs.lemmas.Bool.{eqb-true, eq-eqb}
use Rattle.own_channel_laws.proofs.Commands.{IsTold, hears-any}
use Rattle.own_channel_laws.proofs.Told.{all-told}
use Rattle.own_channel_laws.proofs.Firing.{held-fires, ending-fires, features-fires}
use Rattle.own_channel_laws.proofs.Running.{all-sound, run-more}
use Rattle.own_channel_laws.proofs.Converses.{IsAlike, WaitsSo, is_asking, is_single, Converses, IsMade, IsLast, IsAnew, Grants, ConversesWhile, AnyOccurs, ConversesKnowing, knowing}
use Rattle.own_channel_laws.proofs.Lasting.{answers_of, follows-lasts, grant-lasts, response-lasts, end-lasts, takes-lasts, connects-lasts, disconnects-last, sends-last, gives-last, times-last, ends-last}
use Rattle.own_channel_laws.proofs.Replying.{is_response, IsReply, IsReplied, Replies, replied, replies-with, answer-reply}

-- what is remembered are responses
abbrev Both : (J : List Saying → Channels → Type 0) → List Saying → Channels → Type 0
Both J past v = J past v × Replies v.memory

abbrev GoesBoth : Policy → (J : List Saying → Channels → Type 0) → (past : List Saying) (v : Channels) (said : List Saying) (w : Channels) → Type 0
GoesBoth policy J past v said w = Sound policy (reading past) v → Both J past v → Sound policy (reading (past ++ said)) w → Both J (past ++ said) w

-- ---- a request of the peer

same_alike : (v : Channels) → IsAlike v v
same_alike v = record { held_is = refl; next_is = refl; identifier_is = refl; features_is = refl; events_are = refl }

says_alike : (identifier : ℕ) (response : Option Content) (v : Channels) → IsAlike v (says identifier response v)
says_alike identifier None v = same_alike v
says_alike identifier (Some content) v = record { held_is = refl; next_is = refl; identifier_is = refl; features_is = refl; events_are = refl }

pub answers-more : (queue : List Queued) (command : Command) → answers_of (queue ++ Answer command ∷ []) ≡ answers_of queue ++ command ∷ []
answers-more [] command = refl
answers-more (Answer other ∷ queue) command = ap (λ cs. other ∷ cs) (answers-more queue command)
answers-more (Ask errand ∷ queue) command = answers-more queue command

says_waits : (identifier : ℕ) (response : Option Content) (v t : Channels) → t.queue ≡ v.queue → can_say response v ≡ true → WaitsSo v (says identifier response t) identifier response
says_waits identifier None v t same can = inl (ap answers_of same)
says_waits identifier (Some content) v t same can = inr (content, refl, can, answers-more t.queue (command_with identifier content) ∙ ap (λ q. answers_of q ++ command_with identifier content ∷ []) same)

pub says_memory : (identifier : ℕ) (response : Option Content) (v : Channels) → (says identifier response v).memory ≡ v.memory
says_memory identifier None v = refl
says_memory identifier (Some content) v = refl

remembered_alike : (kind : RequestKind) (identifier : ℕ) (response : Option Content) (v : Channels) → IsAlike v (says identifier response (remembers kind identifier response v))
remembered_alike kind identifier None v = record { held_is = refl; next_is = refl; identifier_is = refl; features_is = refl; events_are = refl }
remembered_alike kind identifier (Some content) v = record { held_is = refl; next_is = refl; identifier_is = refl; features_is = refl; events_are = refl }

-- the answer to it is said, and something follows
abbrev Answers : Policy → (J : List Saying → Channels → Type 0) → List Saying → Channels → Read → (identifier : ℕ) → Option Content → Channels → Type 0
Answers policy J past v one identifier response w = GoesBoth policy J past v (exchanged one (command_if identifier response) v ++ asked_between v w) w

step : (policy : Policy) (A : List Saying → Occurrence → Channels → Type 0) (K : Channels → Type 0) (J : List Saying → Channels → Type 0) (c : ConversesWhile policy A K J) (past : List Saying) (v u : Channels) (one : Read) (identifier : ℕ) (response : Option Content) (content : Content) → is_asking one ≡ true → IsReply response → IsAlike v u
    → WaitsSo v u identifier response → (Replies v.memory → Replies u.memory) → (Sound policy (reading past) v → Grants v (follows policy content u) one identifier response) → Answers policy J past v one identifier response (follows policy content u)
step policy A K J c past v u one identifier response content asking reply alike waits replies grants sound (holds, known) after =
    (c.asked past v u one identifier response content asking reply alike waits (grants sound) sound holds after, subst Replies (sym (follows-lasts policy content u).1) (replies known))

-- a channel comes to be where the response grants it
abbrev Makes : Policy → List Saying → Channels → (u : Channels) → Option Content → Content → Type 0
Makes policy past v u response content = Sound policy (reading past) v → (own peer status : ℕ) → response ≡ Some (connection_response own peer 0 status) → IsMade v (follows policy content u) own peer

-- a response that grants one answers a request that is new
abbrev Renews : Channels → Read → (identifier : ℕ) → Option Content → Type 0
Renews v one identifier response = (own peer status : ℕ) → response ≡ Some (connection_response own peer 0 status) → IsAnew v one identifier peer

-- of the last request for a channel the response is remembered
last_of : (kind : RequestKind) (v w : Channels) (last : Remembered) (response : Option Content) → w.memory ≡ with_remembered kind last v.memory → can_say response v ≡ true → last.response ≡ response
    → (w.memory.connection ≡ v.memory.connection) ⊎ ((can_say response v ≡ true) × (it : Remembered) × (w.memory.connection ≡ Some it) × (it.identifier ≡ last.identifier) × (it.response ≡ response))
last_of kinds.Connection v w last response is can same = inr (can, last, ap (λ (m : Memory). m.connection) is, refl, same)
last_of kinds.Configuration v w last response is can same = inl (ap (λ (m : Memory). m.connection) is)
last_of kinds.Disconnection v w last response is can same = inl (ap (λ (m : Memory). m.connection) is)
last_of kinds.Echo v w last response is can same = inl (ap (λ (m : Memory). m.connection) is)
last_of kinds.Information v w last response is can same = inl (ap (λ (m : Memory). m.connection) is)

new_goes : (policy : Policy) (A : List Saying → Occurrence → Channels → Type 0) (K : Channels → Type 0) (J : List Saying → Channels → Type 0) (c : ConversesWhile policy A K J) (past : List Saying) (v : Channels) (kind : RequestKind) (one : Read) (identifier : ℕ) (response : Option Content) (content : Content) → is_asking one ≡ true → IsReply response
    → Makes policy past v (says identifier response (remembers kind identifier response v)) response content → Renews v one identifier response → Answers policy J past v one identifier response (hears_new kind identifier response (follows policy content) v)
new_goes policy A K J c past v kind one identifier response content asking reply makes renews = by (can_say response v) refl
  where
    last : Remembered
    last = record { identifier = identifier; response = response }

    t : Channels
    t = remembers kind identifier response v

    u : Channels
    u = says identifier response t

    by : (can : Bool) → can_say response v ≡ can → Answers policy J past v one identifier response (cond can (follows policy content u) v)
    by true can = step policy A K J c past v u one identifier response content asking reply (remembered_alike kind identifier response v) (says_waits identifier response v t refl can)
        (λ known. subst Replies (sym (says_memory identifier response t)) (replies-with kind last v.memory reply known))
        (λ sound. record { grant = λ able own peer status is. inr (makes sound own peer status is); anew = λ able own peer status is. inr (renews own peer status is); last_is = last_of kind v (follows policy content u) last response ((follows-lasts policy content u).1 ∙ says_memory identifier response t) can refl })
    by false can = step policy A K J c past v v one identifier response (echo_response []) asking reply (same_alike v) (inl refl) (λ known. known) (λ sound. unsaid can)
      where
        unsaid : can_say response v ≡ false → Grants v v one identifier response
        unsaid shut = record {
          grant = λ able own peer status is. let never : true ≡ false = sym able ∙ shut in absurd cc;
          anew = λ able own peer status is. inr (renews own peer status is);
          last_is = inl refl;
        }

-- the response grants a channel only where it is the last one
abbrev IsOld : Policy → List Saying → Channels → (identifier : ℕ) → Option Content → Type 0
IsOld policy past v identifier response = Sound policy (reading past) v → (own peer status : ℕ) → response ≡ Some (connection_response own peer 0 status) → IsLast v identifier (connection_response own peer 0 status)

again_goes : (policy : Policy) (A : List Saying → Occurrence → Channels → Type 0) (K : Channels → Type 0) (J : List Saying → Channels → Type 0) (c : ConversesWhile policy A K J) (past : List Saying) (v : Channels) (one : Read) (identifier : ℕ) (response : Option Content) → is_asking one ≡ true → IsReply response
    → IsOld policy past v identifier response → Answers policy J past v one identifier response (hears_again identifier response v)
again_goes policy A K J c past v one identifier response asking reply old = by (can_say response v) refl
  where
    by : (can : Bool) → can_say response v ≡ can → Answers policy J past v one identifier response (cond can (says identifier response v) v)
    by true can = step policy A K J c past v (says identifier response v) one identifier response (echo_response []) asking reply (says_alike identifier response v) (says_waits identifier response v v refl can)
        (λ known. subst Replies (sym (says_memory identifier response v)) known)
        (λ sound. record { grant = λ able own peer status is. inl (old sound own peer status is); anew = λ able own peer status is. inl (old sound own peer status is); last_is = inl (ap (λ (m : Memory). m.connection) (says_memory identifier response v)) })
    by false can = step policy A K J c past v v one identifier response (echo_response []) asking reply (same_alike v) (inl refl) (λ known. known)
        (λ sound. record { grant = λ able own peer status is. inl (old sound own peer status is); anew = λ able own peer status is. inl (old sound own peer status is); last_is = inl refl })

-- ---- grants

abbrev is_grant : Content → Bool
is_grant (reject reason rest) = false
is_grant (connection_request psm source) = false
is_grant (connection_response destination source answer status) = true
is_grant (configuration_request destination flags options) = false
is_grant (configuration_response source flags answer options) = false
is_grant (disconnection_request destination source) = false
is_grant (disconnection_response destination source) = false
is_grant (echo_request octets) = false
is_grant (echo_response octets) = false
is_grant (information_request kind) = false
is_grant (information_response kind answer rest) = false

some_content : (a b : Content) → Some a ≡ Some b → a ≡ b
some_content a b is = cc

opens_loud : {X : Type 0} (identifier own peer : ℕ) → Opens Out identifier (OnChannel own peer 0) ≡ Quiet → X
opens_loud identifier own peer is = absurd cc

-- what a grant says
abbrev granted_own : Content → ℕ
granted_own (connection_response destination source answer status) = destination
granted_own content = 0

abbrev granted_peer : Content → ℕ
granted_peer (connection_response destination source answer status) = source
granted_peer content = 0

abbrev granted_result : Content → ℕ
granted_result (connection_response destination source answer status) = answer
granted_result content = 1

judged_no_grant : (answer : ConfigAnswer) (peer : ℕ) (options : Options) → is_grant (judged_answer answer peer options) ≡ false
judged_no_grant (Accept given) peer options = refl
judged_no_grant (Unacceptable refusal given) peer options = refl
judged_no_grant Unknown peer options = refl

configured_no_grant : (verdict : Verdict) (own : ℕ) → is_grant (configuration_answer verdict own) ≡ false
configured_no_grant NoChannel own = refl
configured_no_grant (TooLate peer) own = refl
configured_no_grant (Unreadable peer) own = refl
configured_no_grant (Incomplete peer options) own = refl
configured_no_grant (Judged peer options answer) own = judged_no_grant answer peer options

ended_no_grant : (held : Option Held) (destination source own peer status : ℕ) → disconnection_answer held destination source ≡ Some (connection_response own peer 0 status) → ⊥
ended_no_grant None destination source own peer status is = cc
ended_no_grant (Some held) destination source own peer status is = by held.stage is
  where
    named : (same : Bool) → cond same (Some (disconnection_response destination source)) None ≡ Some (connection_response own peer 0 status) → ⊥
    named true is = cc
    named false is = cc

    by : (stage : Stage) → disconnection_by stage destination source ≡ Some (connection_response own peer 0 status) → ⊥
    by (Requested request) is = cc
    by (Connected endpoint setup) is = named (eqb endpoint source) is
    by (Leaving endpoint setup request) is = named (eqb endpoint source) is
    by (Closing endpoint request checked) is = named (eqb endpoint source) is
    by (Crossed endpoint request) is = named (eqb endpoint source) is

informed_no_grant : (kind : ℕ) → is_grant (information_answer kind) ≡ false
informed_no_grant kind = by (eqb kind 2) (eqb kind 3)
  where
    by : (two three : Bool) → is_grant (cond two (information_response kind 0 (0xA8 ∷ 0x00 ∷ 0x00 ∷ 0x00 ∷ [])) (cond three (information_response kind 0 (0x02 ∷ 0x00 ∷ 0x00 ∷ 0x00 ∷ 0x00 ∷ 0x00 ∷ 0x00 ∷ 0x00 ∷ [])) (information_response kind 1 []))) ≡ false
    by true three = refl
    by false true = refl
    by false false = refl

-- no other kind of request is answered so
not_granted : (content : Content) → is_grant content ≡ false → (own peer status : ℕ) → content ≡ connection_response own peer 0 status → ⊥
not_granted content none own peer status is = let never : false ≡ true = sym none ∙ ap is_grant is in absurd cc

old_kind : (policy : Policy) (past : List Saying) (v : Channels) (kind : RequestKind) (identifier : ℕ) (l : Remembered) → remembered kind v.memory ≡ Some l → l.identifier ≡ identifier → IsOld policy past v identifier l.response
old_kind policy past v kinds.Connection identifier l at same sound own peer status is = (l, at, same, is)
old_kind policy past v kinds.Configuration identifier l at same sound own peer status is =
    let kept : QueriesKept (reading past).requests v.held (reading past).entries (Some l) = subst (QueriesKept (reading past).requests v.held (reading past).entries) at sound.kept.queries in
    absurd (subst (IsRepeated (answered_query (reading past).requests l.identifier) v.held (reading past).entries) is kept.1)
old_kind policy past v kinds.Disconnection identifier l at same sound own peer status is =
    let kept : EndsKept (reading past).entries (Some l) = subst (EndsKept (reading past).entries) at sound.kept.ends in absurd (subst (IsEnded (reading past).entries) is kept)
old_kind policy past v kinds.Echo identifier l at same sound own peer status is =
    let kept : HarmlessKept (Some l) = subst HarmlessKept at sound.kept.echoes in let loud : IsHarmless (Some (connection_response own peer 0 status)) = subst IsHarmless is kept in opens_loud identifier own peer (loud identifier)
old_kind policy past v kinds.Information identifier l at same sound own peer status is =
    let kept : HarmlessKept (Some l) = subst HarmlessKept at sound.kept.informations in let loud : IsHarmless (Some (connection_response own peer 0 status)) = subst IsHarmless is kept in opens_loud identifier own peer (loud identifier)

-- a channel that is granted comes to be
made_here : (v u : Channels) (psm source own peer status result : ℕ) → u.held ≡ v.held → u.next ≡ v.next → find (has_own v.next) v.held ≡ None → connection_answer result source v ≡ connection_response own peer 0 status
    → IsMade v (follows_connection result psm source u) own peer
made_here v u psm source own peer status result held_is next_is none is = by (eqb result 0) refl parts.0
  where
    parts : (cond (eqb result 0) v.next 0 ≡ own) × (source ≡ peer) × (result ≡ 0)
    parts = (ap granted_own is, ap granted_peer is, ap granted_result is)

    new : Held
    new = new_held psm v.next (Connected source no_setup)

    by : (zero : Bool) → eqb result 0 ≡ zero → cond zero v.next 0 ≡ own → IsMade v (cond zero (with_channel psm (Connected source no_setup) u) u) own peer
    by true is_zero own_is =
        let placed : find (has_own v.next) (v.held ++ new ∷ []) ≡ Some new = held_here v.held new none in
        let whole : (with_channel psm (Connected source no_setup) u).held ≡ v.held ++ new ∷ [] = ap (λ n. u.held ++ new_held psm n (Connected source no_setup) ∷ []) next_is ∙ ap (λ h. h ++ new ∷ []) held_is in
        record {
          own_is = sym own_is;
          held = new;
          found = ap (λ n. find (has_own n) (with_channel psm (Connected source no_setup) u).held) (sym own_is) ∙ (ap (find (has_own v.next)) whole ∙ placed);
          stage_is = ap (λ n. Connected n no_setup) parts.1;
        }
    by false apart own_is = let never : true ≡ false = sym (ap (λ n. eqb n 0) parts.2) ∙ apart in absurd cc

makes_channel : (policy : Policy) (past : List Saying) (v : Channels) (kind : RequestKind) (identifier : ℕ) (content : Content) → Makes policy past v (says identifier (answer_to policy content v) (remembers kind identifier (answer_to policy content v) v)) (answer_to policy content v) content
makes_channel policy past v kind identifier (reject reason rest) sound own peer status is = cc
makes_channel policy past v kind identifier (connection_request psm source) sound own peer status is =
    let answer : Content = connection_answer (connection_result policy psm source v) source v in
    let u : Channels = says identifier (Some answer) (remembers kind identifier (Some answer) v) in
    made_here v u psm source own peer status (connection_result policy psm source v) refl refl (sound.core.held_below v.next (omega arith)) (some_content answer (connection_response own peer 0 status) is)
makes_channel policy past v kind identifier (connection_response destination source answer status') sound own peer status is = cc
makes_channel policy past v kind identifier (configuration_request destination flags options) sound own peer status is =
    let answer : Content = configuration_answer (verdict policy destination flags options v) destination in
    absurd (not_granted answer (configured_no_grant (verdict policy destination flags options v) destination) own peer status (some_content answer (connection_response own peer 0 status) is))
makes_channel policy past v kind identifier (configuration_response source flags answer options) sound own peer status is = cc
makes_channel policy past v kind identifier (disconnection_request destination source) sound own peer status is = absurd (ended_no_grant (held_at destination v) destination source own peer status is)
makes_channel policy past v kind identifier (disconnection_response destination source) sound own peer status is = cc
makes_channel policy past v kind identifier (echo_request octets) sound own peer status is = cc
makes_channel policy past v kind identifier (echo_response octets) sound own peer status is = cc
makes_channel policy past v kind identifier (information_request asked) sound own peer status is =
    absurd (not_granted (information_answer asked) (informed_no_grant asked) own peer status (some_content (information_answer asked) (connection_response own peer 0 status) is))
makes_channel policy past v kind identifier (information_response asked answer rest) sound own peer status is = cc

kind_goes : (policy : Policy) (A : List Saying → Occurrence → Channels → Type 0) (K : Channels → Type 0) (J : List Saying → Channels → Type 0) (c : ConversesWhile policy A K J) (past : List Saying) (v : Channels) (last : Option Remembered) (kind : RequestKind) (one : Read) (identifier : ℕ) (fresh : Option Content) (content : Content) → is_asking one ≡ true
    → (Replies v.memory → IsReplied last) → IsReply fresh → ((l : Remembered) → last ≡ Some l → l.identifier ≡ identifier → IsOld policy past v identifier l.response)
    → Makes policy past v (says identifier fresh (remembers kind identifier fresh v)) fresh content → (((l : Remembered) → last ≡ Some l → l.identifier ≡ identifier → ⊥) → Renews v one identifier fresh) → Answers policy J past v one identifier (response_by last identifier fresh) (hears_kind last kind identifier fresh (follows policy content) v)
kind_goes policy A K J c past v None kind one identifier fresh content asking is reply old makes renews = new_goes policy A K J c past v kind one identifier fresh content asking reply makes (renews (λ l at same. cc))
kind_goes policy A K J c past v (Some last) kind one identifier fresh content asking is reply old makes renews = by (eqb last.identifier identifier) refl
  where
    other : (l : Remembered) → Some last ≡ Some l → l.identifier ≡ identifier → eqb last.identifier identifier ≡ false → ⊥
    other l at same apart =
        let it : last ≡ l = cc in
        let never : true ≡ false = sym (eq-eqb last.identifier identifier (ap (λ (r : Remembered). r.identifier) it ∙ same)) ∙ apart in cc

    by : (same : Bool) → eqb last.identifier identifier ≡ same → Answers policy J past v one identifier (cond same last.response fresh) (cond same (hears_again identifier last.response v) (hears_new kind identifier fresh (follows policy content) v))
    by true same = λ sound both. again_goes policy A K J c past v one identifier last.response asking (is both.1) (old last refl (eqb-true last.identifier identifier same)) sound both
    by false apart = new_goes policy A K J c past v kind one identifier fresh content asking reply makes (renews (λ l at same. other l at same apart))

-- ---- a command

-- what is heard besides, and what is remembered
replied_goes : (policy : Policy) (A : List Saying → Occurrence → Channels → Type 0) (K : Channels → Type 0) (J : List Saying → Channels → Type 0) (c : ConversesWhile policy A K J) (past : List Saying) (v : Channels) (identifier : ℕ) (content : Content) → is_response content ≡ true → (hears_content policy identifier content v).memory ≡ v.memory
    → Answers policy J past v (Ok (command_with identifier content)) identifier None (hears_content policy identifier content v)
replied_goes policy A K J c past v identifier content is same sound (holds, known) after = (c.answered past v identifier content is same sound holds after, subst Replies (sym same) known)

pub features_memory : (identifier : ℕ) (given : Option ℕ) (v : Channels) → (hears_features identifier given v).memory ≡ v.memory
features_memory identifier given v = by (has_identifier identifier v.features)
  where
    by : (b : Bool) → (cond b (tells (Features given) (forgets errands.Features (record v { features = None }))) v).memory ≡ v.memory
    by true = refl
    by false = refl

-- what is granted was asked for
abbrev IsGrantOf : RequestKind → Content → (peer : ℕ) → Type 0
IsGrantOf kind content peer = (kind ≡ kinds.Connection) × (psm : ℕ) × (content ≡ connection_request psm peer)

abbrev GrantsWhatIsAsked : RequestKind → Content → Option Content → Type 0
GrantsWhatIsAsked kind content fresh = (own peer status : ℕ) → fresh ≡ Some (connection_response own peer 0 status) → IsGrantOf kind content peer

renewed : (v : Channels) (kind : RequestKind) (identifier : ℕ) (content : Content) (fresh : Option Content) → GrantsWhatIsAsked kind content fresh → ((l : Remembered) → remembered kind v.memory ≡ Some l → l.identifier ≡ identifier → ⊥)
    → Renews v (Ok (command_with identifier content)) identifier fresh
renewed v kind identifier content fresh grants other own peer status is =
    let (kind_is, psm, content_is) = grants own peer status is in
    record {
      psm = psm;
      asks = ap (λ (c : Content). Ok (command_with identifier c)) content_is;
      other = subst (λ (k : RequestKind). (l : Remembered) → remembered k v.memory ≡ Some l → l.identifier ≡ identifier → ⊥) kind_is other;
    }

asking_goes : (policy : Policy) (A : List Saying → Occurrence → Channels → Type 0) (K : Channels → Type 0) (J : List Saying → Channels → Type 0) (c : ConversesWhile policy A K J) (past : List Saying) (v : Channels) (kind : RequestKind) (identifier : ℕ) (content : Content) → not (is_response content) ≡ true
    → GrantsWhatIsAsked kind content (answer_to policy content v) → Answers policy J past v (Ok (command_with identifier content)) identifier (response_by (remembered kind v.memory) identifier (answer_to policy content v)) (hears_kind (remembered kind v.memory) kind identifier (answer_to policy content v) (follows policy content) v)
asking_goes policy A K J c past v kind identifier content asking grants =
    kind_goes policy A K J c past v (remembered kind v.memory) kind (Ok (command_with identifier content)) identifier (answer_to policy content v) content asking (replied kind v.memory) (answer-reply policy content v)
    (old_kind policy past v kind identifier) (makes_channel policy past v kind identifier content) (renewed v kind identifier content (answer_to policy content v) grants)

content_goes : (policy : Policy) (A : List Saying → Occurrence → Channels → Type 0) (K : Channels → Type 0) (J : List Saying → Channels → Type 0) (c : ConversesWhile policy A K J) (past : List Saying) (v : Channels) (identifier : ℕ) (content : Content)
    → Answers policy J past v (Ok (command_with identifier content)) identifier (response_to policy identifier content v) (hears_content policy identifier content v)
content_goes policy A K J c past v identifier (reject reason rest) = replied_goes policy A K J c past v identifier (reject reason rest) refl (features_memory identifier None v)
content_goes policy A K J c past v identifier (connection_request psm source) = asking_goes policy A K J c past v kinds.Connection identifier (connection_request psm source) refl
    (λ own peer status is. (refl, psm, ap (connection_request psm) (ap granted_peer (some_content (connection_answer (connection_result policy psm source v) source v) (connection_response own peer 0 status) is))))
content_goes policy A K J c past v identifier (connection_response destination source answer status) =
    replied_goes policy A K J c past v identifier (connection_response destination source answer status) refl (grant-lasts v (held_at source v) policy identifier destination answer).1
content_goes policy A K J c past v identifier (configuration_request destination flags options) = asking_goes policy A K J c past v kinds.Configuration identifier (configuration_request destination flags options) refl
    (λ own peer status is.
    let answer : Content = configuration_answer (verdict policy destination flags options v) destination in
    absurd (not_granted answer (configured_no_grant (verdict policy destination flags options v) destination) own peer status (some_content answer (connection_response own peer 0 status) is)))
content_goes policy A K J c past v identifier (configuration_response source flags answer options) =
    replied_goes policy A K J c past v identifier (configuration_response source flags answer options) refl (response-lasts v (held_at source v) policy identifier answer options).1
content_goes policy A K J c past v identifier (disconnection_request destination source) = asking_goes policy A K J c past v kinds.Disconnection identifier (disconnection_request destination source) refl
    (λ own peer status is. absurd (ended_no_grant (held_at destination v) destination source own peer status is))
content_goes policy A K J c past v identifier (disconnection_response destination source) = replied_goes policy A K J c past v identifier (disconnection_response destination source) refl (end-lasts v (held_at source v) destination).1
content_goes policy A K J c past v identifier (echo_request octets) = asking_goes policy A K J c past v kinds.Echo identifier (echo_request octets) refl (λ own peer status is. cc)
content_goes policy A K J c past v identifier (echo_response octets) = replied_goes policy A K J c past v identifier (echo_response octets) refl refl
content_goes policy A K J c past v identifier (information_request kind) = asking_goes policy A K J c past v kinds.Information identifier (information_request kind) refl
    (λ own peer status is. absurd (not_granted (information_answer kind) (informed_no_grant kind) own peer status (some_content (information_answer kind) (connection_response own peer 0 status) is)))
content_goes policy A K J c past v identifier (information_response kind answer rest) = replied_goes policy A K J c past v identifier (information_response kind answer rest) refl (features_memory identifier (features_in kind answer rest) v)

-- one that is refused, and follows from nothing
none_goes : (policy : Policy) (A : List Saying → Occurrence → Channels → Type 0) (K : Channels → Type 0) (J : List Saying → Channels → Type 0) (c : ConversesWhile policy A K J) (past : List Saying) (v : Channels) (one : Read) → is_asking one ≡ true → Answers policy J past v one 0 None v
none_goes policy A K J c past v one asking = step policy A K J c past v v one 0 None (echo_response []) asking tt (same_alike v) (inl refl) (λ known. known) (λ sound. record { grant = λ able own peer status is. cc; anew = λ able own peer status is. cc; last_is = inl refl })

malformed_goes : (policy : Policy) (A : List Saying → Occurrence → Channels → Type 0) (K : Channels → Type 0) (J : List Saying → Channels → Type 0) (c : ConversesWhile policy A K J) (past : List Saying) (v : Channels) (kind : Option RequestKind) (one : Read) (identifier : ℕ) → is_asking one ≡ true
    → Answers policy J past v one identifier (response_malformed kind identifier v) (cond (is_kind kind) (hears_malformed kind identifier v) (hears_again identifier (Some not_understood) v))
malformed_goes policy A K J c past v None one identifier asking = again_goes policy A K J c past v one identifier (Some not_understood) asking refl (λ sound own peer status is. cc)
malformed_goes policy A K J c past v (Some kind) one identifier asking = kind_goes policy A K J c past v (remembered kind v.memory) kind one identifier (Some not_understood) (echo_response []) asking (replied kind v.memory) refl (old_kind policy past v kind identifier) (λ sound own peer status is. cc) (λ other own peer status is. cc)

unread_goes : (policy : Policy) (A : List Saying → Occurrence → Channels → Type 0) (K : Channels → Type 0) (J : List Saying → Channels → Type 0) (c : ConversesWhile policy A K J) (past : List Saying) (v : Channels) (one : Read) (code identifier : ℕ) → is_asking one ≡ true
    → Answers policy J past v one identifier (response_unread code identifier v) (hears_unread code identifier v)
unread_goes policy A K J c past v one code identifier asking = by (eqb identifier 0) (is_response_code code)
  where
    kind : Option RequestKind
    kind = kind_of_code code

    by : (zero response : Bool)
        → Answers policy J past v one identifier (cond zero None (cond response None (response_malformed kind identifier v))) (cond zero v (cond response v (cond (is_kind kind) (hears_malformed kind identifier v) (hears_again identifier (Some not_understood) v))))
    by true response = none_goes policy A K J c past v one asking
    by false true = none_goes policy A K J c past v one asking
    by false false = malformed_goes policy A K J c past v kind one identifier asking

long_goes : (policy : Policy) (A : List Saying → Occurrence → Channels → Type 0) (K : Channels → Type 0) (J : List Saying → Channels → Type 0) (c : ConversesWhile policy A K J) (past : List Saying) (v : Channels) (one : Read) (identifier : ℕ) (zero : Bool) → is_asking one ≡ true
    → Answers policy J past v one identifier (cond zero None (Some too_long)) (cond zero v (hears_again identifier (Some too_long) v))
long_goes policy A K J c past v one identifier true asking = none_goes policy A K J c past v one asking
long_goes policy A K J c past v one identifier false asking = again_goes policy A K J c past v one identifier (Some too_long) asking refl (λ sound own peer status is. cc)

command_goes : (policy : Policy) (A : List Saying → Occurrence → Channels → Type 0) (K : Channels → Type 0) (J : List Saying → Channels → Type 0) (c : ConversesWhile policy A K J) (past : List Saying) (v : Channels) (one : Read) → GoesBoth policy J past v (said_with policy one v) (hears_command policy one v)
command_goes policy A K J c past v (Ok command) = content_goes policy A K J c past v command.identifier command.content
command_goes policy A K J c past v (Err (ZeroIdentifier code identifier)) = none_goes policy A K J c past v (Err (ZeroIdentifier code identifier)) refl
command_goes policy A K J c past v (Err (BadLength code None)) = none_goes policy A K J c past v (Err (BadLength code None)) refl
command_goes policy A K J c past v (Err (BadLength code (Some identifier))) = unread_goes policy A K J c past v (Err (BadLength code (Some identifier))) code identifier refl
command_goes policy A K J c past v (Err (UnknownCode code None)) = none_goes policy A K J c past v (Err (UnknownCode code None)) refl
command_goes policy A K J c past v (Err (UnknownCode code (Some identifier))) = unread_goes policy A K J c past v (Err (UnknownCode code (Some identifier))) code identifier refl
command_goes policy A K J c past v (Err (AboveMtu code None)) = none_goes policy A K J c past v (Err (AboveMtu code None)) refl
command_goes policy A K J c past v (Err (AboveMtu code (Some identifier))) = long_goes policy A K J c past v (Err (AboveMtu code (Some identifier))) identifier (eqb identifier 0) refl

-- ---- one thing after the other

-- with what is known of the channels
abbrev Stands : Policy → (J : List Saying → Channels → Type 0) → List Saying → Channels → Type 0
Stands policy J past v = Sound policy (reading past) v × Both J past v

pub reading-on : (past said : List Saying) → reading (past ++ said) ≡ fold read_on (reading past) said
reading-on past said = fold-append read_on nothing_read past said

stands_on : (policy : Policy) (J : List Saying → Channels → Type 0) (past said : List Saying) (v w : Channels) → GoesBoth policy J past v said w → (Sound policy (reading past) v → Sound policy (fold read_on (reading past) said) w) → Stands policy J past v → Stands policy J (past ++ said) w
stands_on policy J past said v w goes sounds (sound, both) =
    let after : Sound policy (reading (past ++ said)) w = subst (λ r. Sound policy r w) (sym (reading-on past said)) (sounds sound) in (after, goes sound both after)

stands_behind : (policy : Policy) (J : List Saying → Channels → Type 0) (past xs ys : List Saying) (w : Channels) → Stands policy J ((past ++ xs) ++ ys) w → Stands policy J (past ++ (xs ++ ys)) w
stands_behind policy J past xs ys w stands = subst (λ said. Stands policy J said w) (append_assoc past xs ys) stands

commands_go : (policy : Policy) (A : List Saying → Occurrence → Channels → Type 0) (K : Channels → Type 0) (J : List Saying → Channels → Type 0) (c : ConversesWhile policy A K J) (past : List Saying) (v : Channels) (list : List Read) → AllByRecursion IsTold list → Stands policy J past v
    → Stands policy J (past ++ said_with_all policy list v) (hears_commands policy list v)
commands_go policy A K J c past v [] told stands = subst (λ said. Stands policy J said v) (sym (append-nil past)) stands
commands_go policy A K J c past v (one ∷ list) (told, all) stands =
    let w : Channels = hears_command policy one v in
    stands_behind policy J past (said_with policy one v) (said_with_all policy list w) (hears_commands policy list w)
    (commands_go policy A K J c (past ++ said_with policy one v) w list all (stands_on policy J past (said_with policy one v) v w (command_goes policy A K J c past v one) (hears-any policy (reading past) v one told) stands))

-- ---- the timer

held_go : (policy : Policy) (A : List Saying → Occurrence → Channels → Type 0) (K : Channels → Type 0) (J : List Saying → Channels → Type 0) (c : ConversesWhile policy A K J) (past : List Saying) (v : Channels) (tries own : ℕ) → Stands policy J past v → Stands policy J (past ++ said_by_channel tries own v) (fired_channel tries own v)
held_go policy A K J c past v tries own stands =
    let between : Channels = times_held (held_at own v) tries v in
    let next : Channels = times_end (held_at own between) tries between in
    stands_behind policy J past (said_on_firing own v between) (said_on_firing own between next) next
    (stands_on policy J (past ++ said_on_firing own v between) (said_on_firing own between next) between next
    (λ sound (holds, known) after. (c.ends (past ++ said_on_firing own v between) between tries own (ends-last tries own between).1 sound holds after, subst Replies (sym (ends-last tries own between).1) known))
    (ending-fires policy (reading (past ++ said_on_firing own v between)) between tries own (held_at own between) refl)
    (stands_on policy J past (said_on_firing own v between) v between
    (λ sound (holds, known) after. (c.waits past v tries own (times-last tries own v).1 sound holds after, subst Replies (sym (times-last tries own v).1) known)) (held-fires policy (reading past) v tries own (held_at own v) refl) stands))

pub features_lost : (tries : ℕ) (v : Channels) (features : Option Request) → (times_features features tries v).memory ≡ v.memory
features_lost tries v None = refl
features_lost tries v (Some request) = by (is_due errands.Features v) (nat_le tries request.given)
  where
    by : (due most : Bool) → (fires (cond due StillDue (cond most Spent OnceMore)) errands.Features loses_features v).memory ≡ v.memory
    by true most = refl
    by false true = refl
    by false false = refl

channels_fire : (policy : Policy) (A : List Saying → Occurrence → Channels → Type 0) (K : Channels → Type 0) (J : List Saying → Channels → Type 0) (c : ConversesWhile policy A K J) (past : List Saying) (v : Channels) (tries : ℕ) (owns : List ℕ) → Stands policy J past v
    → (let after : Channels = times_channels tries owns v in Stands policy J (past ++ said_by_channels tries owns v) (times_features after.features tries after))
channels_fire policy A K J c past v tries [] stands =
    stands_on policy J past (said_by_features tries v) v (times_features v.features tries v)
    (λ sound (holds, known) after. (c.loses past v tries (features_lost tries v v.features) sound holds after, subst Replies (sym (features_lost tries v v.features)) known)) (features-fires policy (reading past) v tries v.features refl) stands
channels_fire policy A K J c past v tries (own ∷ owns) stands =
    let next : Channels = fired_channel tries own v in
    let after : Channels = times_channels tries owns next in
    stands_behind policy J past (said_by_channel tries own v) (said_by_channels tries owns next) (times_features after.features tries after)
    (channels_fire policy A K J c (past ++ said_by_channel tries own v) next tries owns (held_go policy A K J c past v tries own stands))

-- ---- whatever happens

comes_go : (policy : Policy) (A : List Saying → Occurrence → Channels → Type 0) (K : Channels → Type 0) (J : List Saying → Channels → Type 0) (c : ConversesWhile policy A K J) (past : List Saying) (v : Channels) (pdu : List ℕ) (signals : Bool) → K v → Stands policy J past v
    → (let said : List Saying = past ++ cond signals (said_with_all policy (answers (drop 4 pdu)) v) (Carried Into pdu ∷ asked_between v (takes (channel_of pdu) pdu v)) in
    let w : Channels = cond signals (hears_commands policy (answers (drop 4 pdu)) v) (takes (channel_of pdu) pdu v) in Sound policy (reading said) w → Both J said w)
comes_go policy A K J c past v pdu true known_of stands after = (commands_go policy A K J c past v (answers (drop 4 pdu)) (all-told (drop 4 pdu)) stands).1
comes_go policy A K J c past v pdu false known_of (sound, (holds, known)) after = (c.taken past v pdu known_of (takes-lasts (channel_of pdu) pdu v).1 sound holds after, subst Replies (sym (takes-lasts (channel_of pdu) pdu v).1) known)

asks_memory : (v : Channels) → (asks_features v).memory ≡ v.memory
asks_memory v = by (is_some v.features)
  where
    by : (some : Bool) → (cond some v (asks errands.Features (record v { features = Some (new_request v) }))).memory ≡ v.memory
    by true = refl
    by false = refl

-- of what happens alone nothing is remembered
pub single_memory : (policy : Policy) (more : Occurrence) (v : Channels) → is_single more ≡ true → (value_after policy more v).memory ≡ v.memory
single_memory policy (Comes pdu) v is = cc
single_memory policy (Connects psm) v is = (connects-lasts psm v).1
single_memory policy AsksFeatures v is = asks_memory v
single_memory policy (Disconnects own) v is = (disconnects-last own v).1
single_memory policy (Sends own sdu) v is = (sends-last own sdu v).1
single_memory policy (Gives pdu) v is = (gives-last v).1
single_memory policy Fires v is = cc
single_memory policy Tells v is = refl

single_goes : (policy : Policy) (A : List Saying → Occurrence → Channels → Type 0) (K : Channels → Type 0) (J : List Saying → Channels → Type 0) (c : ConversesWhile policy A K J) (past : List Saying) (v : Channels) (more : Occurrence) → is_single more ≡ true → A past more v → K v → Stands policy J past v → Sound policy (reading (past ++ said_in policy more v)) (value_after policy more v)
    → Both J (past ++ said_in policy more v) (value_after policy more v)
single_goes policy A K J c past v more is allowed known_of (sound, (holds, known)) after = (c.single past v more is allowed known_of (single_memory policy more v is) sound holds after, subst Replies (sym (single_memory policy more v is)) known)

occurs_go : (policy : Policy) (A : List Saying → Occurrence → Channels → Type 0) (K : Channels → Type 0) (J : List Saying → Channels → Type 0) (c : ConversesWhile policy A K J) (past : List Saying) (v : Channels) (more : Occurrence) → A past more v → K v → Stands policy J past v → Sound policy (reading (past ++ said_in policy more v)) (value_after policy more v)
    → Both J (past ++ said_in policy more v) (value_after policy more v)
occurs_go policy A K J c past v (Comes pdu) allowed known stands after = comes_go policy A K J c past v pdu (eqb (channel_of pdu) 0x0001) known stands after
occurs_go policy A K J c past v (Connects psm) allowed known stands after = single_goes policy A K J c past v (Connects psm) refl allowed known stands after
occurs_go policy A K J c past v AsksFeatures allowed known stands after = single_goes policy A K J c past v AsksFeatures refl allowed known stands after
occurs_go policy A K J c past v (Disconnects own) allowed known stands after = single_goes policy A K J c past v (Disconnects own) refl allowed known stands after
occurs_go policy A K J c past v (Sends own sdu) allowed known stands after = single_goes policy A K J c past v (Sends own sdu) refl allowed known stands after
occurs_go policy A K J c past v (Gives pdu) allowed known stands after = single_goes policy A K J c past v (Gives pdu) refl allowed known stands after
occurs_go policy A K J c past v Fires allowed known stands after = (channels_fire policy A K J c past v policy.tries (map (λ held. held.own) v.held) stands).1
occurs_go policy A K J c past v Tells allowed known stands after = single_goes policy A K J c past v Tells refl allowed known stands after

-- what holds at first holds of all runs while what the host does alone is so
abbrev Throughout : Policy → (K : Channels → Type 0) (J : List Saying → Channels → Type 0) → Run → Type 0
Throughout policy K J run = Sound policy (reading run.said) run.value × (K run.value × Both J run.said run.value)

occurs : (policy : Policy) (A : List Saying → Occurrence → Channels → Type 0) (K : Channels → Type 0) (J : List Saying → Channels → Type 0) (c : ConversesWhile policy A K J) (past : List Occurrence) (more : Occurrence) → A (run_of policy past).said more (run_of policy past).value → Throughout policy K J (run_of policy past)
    → Throughout policy K J (run_of policy (past ++ more ∷ []))
occurs policy A K J c past more allowed (sound, (known, both)) =
    let run = run_of policy past in
    subst (Throughout policy K J) (sym (fold-append (run_on policy) new_link past (more ∷ [])))
    (run-more policy run more sound, (c.kept run.value more sound.core.lone known, occurs_go policy A K J c run.said run.value more allowed known (sound, both) (run-more policy run more sound)))

all_occur : (policy : Policy) (A : List Saying → Occurrence → Channels → Type 0) (K : Channels → Type 0) (J : List Saying → Channels → Type 0) (c : ConversesWhile policy A K J) (past list : List Occurrence) → EachAfter (λ front one. A (run_of policy front).said one (run_of policy front).value) past list
    → Throughout policy K J (run_of policy past) → Throughout policy K J (run_of policy (past ++ list))
all_occur policy A K J c past [] allowed holds = subst (λ l. Throughout policy K J (run_of policy l)) (sym (append-nil past)) holds
all_occur policy A K J c past (more ∷ list) (allowed, later) holds =
    subst (λ l. Throughout policy K J (run_of policy l)) (append_assoc past (more ∷ []) list) (all_occur policy A K J c (past ++ more ∷ []) list later (occurs policy A K J c past more allowed holds))

pub conversed-while : (policy : Policy) (A : List Saying → Occurrence → Channels → Type 0) (K : Channels → Type 0) (J : List Saying → Channels → Type 0) → ConversesWhile policy A K J → J [] no_channels → (list : List Occurrence) → EachAfter (λ front one. A (run_of policy front).said one (run_of policy front).value) [] list
    → J (run_of policy list).said (run_of policy list).value
conversed-while policy A K J c first list allowed =
    (all_occur policy A K J c [] list allowed (all-sound policy [], (c.first, (first, record { connection = tt; configuration = tt; disconnection = tt; echo = tt; information = tt })))).1.1.0

any_occur : (policy : Policy) (past list : List Occurrence) → EachAfter (λ front one. AnyOccurs (run_of policy front).said one (run_of policy front).value) past list
any_occur policy past [] = tt
any_occur policy past (more ∷ list) = (tt, any_occur policy (past ++ more ∷ []) list)

pub conversed-knowing : (policy : Policy) (K : Channels → Type 0) (J : List Saying → Channels → Type 0) → ConversesKnowing policy K J → J [] no_channels → (list : List Occurrence) → J (run_of policy list).said (run_of policy list).value
conversed-knowing policy K J c first list = conversed-while policy AnyOccurs K J c first list (any_occur policy [] list)

pub conversed : (policy : Policy) (K : Channels → Type 0) (J : List Saying → Channels → Type 0) → Converses policy K J → J [] no_channels → (list : List Occurrence) → J (run_of policy list).said (run_of policy list).value
conversed policy K J c first list = conversed-knowing policy K J (knowing policy K J c) first list

-- ---- from any moment on

any_goes : (policy : Policy) → ConversesWhile policy AnyOccurs (λ v. Unit {0}) (λ past v. Unit {0})
any_goes policy = record {
  first = tt;
  kept = λ v more lone known. tt;
  asked = λ past v u one identifier response content asking reply alike waits grants sound holds after. tt;
  answered = λ past v identifier content is same sound holds after. tt;
  taken = λ past v pdu known same sound holds after. tt;
  waits = λ past v tries own same sound holds after. tt;
  ends = λ past v tries own same sound holds after. tt;
  loses = λ past v tries same sound holds after. tt;
  single = λ past v more is allowed known same sound holds after. tt;
}

any_allowed : (policy : Policy) (past list : List Occurrence) → EachAfter (λ front one. AnyOccurs (run_of policy front).said one (run_of policy front).value) past list
any_allowed policy past [] = tt
any_allowed policy past (more ∷ list) = (tt, any_allowed policy (past ++ more ∷ []) list)

replies_known : (policy : Policy) (list : List Occurrence) → Replies (run_of policy list).value.memory
replies_known policy list =
    (all_occur policy AnyOccurs (λ v. Unit {0}) (λ past v. Unit {0}) (any_goes policy) [] list (any_allowed policy [] list) (all-sound policy [], (tt, (tt, record { connection = tt; configuration = tt; disconnection = tt; echo = tt; information = tt })))).1.1.1

pub conversed-on : (policy : Policy) (A : List Saying → Occurrence → Channels → Type 0) (K : Channels → Type 0) (J : List Saying → Channels → Type 0) → ConversesWhile policy A K J → (past list : List Occurrence) → K (run_of policy past).value
    → J (run_of policy past).said (run_of policy past).value → EachAfter (λ front one. A (run_of policy front).said one (run_of policy front).value) past list → J (run_of policy (past ++ list)).said (run_of policy (past ++ list)).value
conversed-on policy A K J c past list known first allowed = (all_occur policy A K J c past list allowed (all-sound policy past, (known, (first, replies_known policy past)))).1.1.0
