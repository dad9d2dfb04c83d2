-- A host has said each answer that waits to be given.
use Rattle.std.proofs.Common.{◌≡◌, ℕ, List, [], ◌∷◌, ◌++◌, Bool, true, false, cond, Option, Some, None, Ok, refl, sym, ap, subst, ◌∙◌, ◌⊎◌, inl, inr}
use Rattle.std.specs.Prelude.{find, is_some, nat_le}
use Rattle.talk_laws.specs.acl_fragments.specs.Pieces.{channel_of}
use Rattle.talk_laws.specs.capture.specs.declared.flow.Flow.TheVariants.{Into}
use Rattle.talk_laws.specs.l2cap_signal.specs.Commands.{Content, Command, reject, connection_request, connection_response, configuration_request, configuration_response, disconnection_request, disconnection_response, echo_request, echo_response, information_request, information_response}
use Rattle.talk_laws.specs.l2cap_signal.specs.Reading.{Answer as Read}
use Rattle.talk_laws.specs.link_talk.specs.Sayings.{Saying, Carried}
use Rattle.talk_laws.specs.link_talk.specs.Sayings as sayings
use Rattle.channel_model.specs.declared.errand.Errand.TheVariants as errands
use Rattle.channel_model.specs.declared.event.ChannelEvent.TheVariants.{Features}
use Rattle.channel_model.specs.Value.{Request, Queued, Answer, Ask, Setup, Held, Channels}
use Rattle.channel_model.specs.Policies.{Policy}
use Rattle.channel_model.specs.Changing.{held_at, is_due, forgets, tells, setup_of}
use Rattle.channel_model.specs.Asking.{new_request, asks, StillDue, OnceMore, Spent}
use Rattle.channel_model.specs.Following.{follows}
use Rattle.channel_model.specs.Responses.{has_identifier, hears_features, features_in}
use Rattle.channel_model.specs.Hearing.{hears_content}
use Rattle.channel_model.specs.Carrying.{takes}
use Rattle.channel_model.specs.Timing.{fires, times_held, times_end, loses_features, times_features}
use Rattle.channel_model.specs.Giving.{gives, stage_given, counted, carrier_spent, held_given, queue_given, connection_given, configuration_given, disconnection_given}
use Rattle.channel_model.specs.Calls.{asks_features}
use Rattle.own_channel_laws.specs.OwnTalk.{spoken, command_with, command_if, exchanged, asked_between}
use Rattle.own_channel_laws.specs.Runs.{Occurrence, Comes, Connects, AsksFeatures, Disconnects, Sends, Gives, Fires, Tells, said_in, value_after, said_on_firing, said_by_features, run_of}
use Rattle.own_channel_laws.specs.Signals.{StandsIn, AnswersAreSaid}
use Rattle.own_channel_laws.proofs.Lasting.{answers_of, answers-asked, follows-lasts, grant-lasts, response-lasts, end-lasts, takes-lasts, connects-lasts, disconnects-last, sends-last, times-last, ends-last, asked-with, forgotten}
use Rattle.own_channel_laws.proofs.Replying.{is_response, IsReply}
use Rattle.own_channel_laws.proofs.Converses.{WaitsSo, is_single, Converses}
use Rattle.own_channel_laws.proofs.Conversing.{conversed}

-- ---- members of lists

pub stands-left : {X : Type 0} (x : X) (xs ys : List X) → StandsIn x xs → StandsIn x (xs ++ ys)
stands-left x [] ys is = elim is [ ]
stands-left x (y ∷ xs) ys (inl same) = inl same
stands-left x (y ∷ xs) ys (inr later) = inr (stands-left x xs ys later)

pub stands-right : {X : Type 0} (x : X) (xs ys : List X) → StandsIn x ys → StandsIn x (xs ++ ys)
stands-right x [] ys is = is
stands-right x (y ∷ xs) ys is = inr (stands-right x xs ys is)

pub stands-either : {X : Type 0} (x : X) (xs ys : List X) → StandsIn x (xs ++ ys) → StandsIn x xs ⊎ StandsIn x ys
stands-either x [] ys is = inr is
stands-either x (y ∷ xs) ys (inl same) = inl (inl same)
stands-either x (y ∷ xs) ys (inr later) = by (stands-either x xs ys later)
  where
    by : StandsIn x xs ⊎ StandsIn x ys → StandsIn x (y ∷ xs) ⊎ StandsIn x ys
    by (inl one) = inl (inr one)
    by (inr other) = inr other

-- ---- what is kept

-- each is a response, and was said
abbrev AllSaid : List Saying → Channels → Type 0
AllSaid past v = (command : Command) → StandsIn command (answers_of v.queue) → StandsIn (spoken command) past × (is_response command.content ≡ true)

-- no more answers wait
said_on : (past said : List Saying) (v w : Channels) → answers_of w.queue ≡ answers_of v.queue → AllSaid past v → AllSaid (past ++ said) w
said_on past said v w same all command is = let (stands, response) = all command (subst (StandsIn command) same is) in (stands-left (spoken command) past said stands, response)

-- ---- what the peer asks, and what it responds

asked_said : (policy : Policy) (past : List Saying) (v u w : Channels) (one : Read) (identifier : ℕ) (response : Option Content) → IsReply response → WaitsSo v u identifier response → answers_of w.queue ≡ answers_of u.queue → AllSaid past v
    → AllSaid (past ++ (exchanged one (command_if identifier response) v ++ asked_between v w)) w
asked_said policy past v u w one identifier response reply (inl same) follows_same all = said_on past (exchanged one (command_if identifier response) v ++ asked_between v w) v w (follows_same ∙ same) all
asked_said policy past v u w one identifier response reply (inr (content, is, room, more)) follows_same all = λ command waits. by command (stands-either command (answers_of v.queue) (new ∷ []) (subst (StandsIn command) (follows_same ∙ more) waits))
  where
    new : Command
    new = command_with identifier content

    said : List Saying
    said = exchanged one (command_if identifier response) v ++ asked_between v w

    spoken_now : exchanged one (command_if identifier response) v ≡ sayings.Command Into one ∷ spoken new ∷ []
    spoken_now = ap (λ r. exchanged one (command_if identifier r) v) is ∙ ap (λ b. cond b (sayings.Command Into one ∷ spoken new ∷ []) []) room

    there : StandsIn (spoken new) said
    there = stands-left (spoken new) (exchanged one (command_if identifier response) v) (asked_between v w) (subst (StandsIn (spoken new)) (sym spoken_now) (inr (inl refl)))

    by : (command : Command) → StandsIn command (answers_of v.queue) ⊎ StandsIn command (new ∷ []) → StandsIn (spoken command) (past ++ said) × (is_response command.content ≡ true)
    by command (inl old) = let (stands, is_one) = all command old in (stands-left (spoken command) past said stands, is_one)
    by command (inr (inl same)) = (stands-right (spoken command) past said (subst (λ c. StandsIn (spoken c) said) same there), subst (λ (c : Command). is_response c.content ≡ true) same (subst IsReply is reply))
    by command (inr (inr none)) = elim none [ ]

pub features-same : (identifier : ℕ) (given : Option ℕ) (v : Channels) → answers_of (hears_features identifier given v).queue ≡ answers_of v.queue
features-same identifier given v = by (has_identifier identifier v.features)
  where
    by : (b : Bool) → answers_of (cond b (tells (Features given) (forgets errands.Features (record v { features = None }))) v).queue ≡ answers_of v.queue
    by true = forgotten errands.Features v.queue
    by false = refl

pub answered-same : (policy : Policy) (v : Channels) (identifier : ℕ) (content : Content) → is_response content ≡ true → answers_of (hears_content policy identifier content v).queue ≡ answers_of v.queue
answered-same policy v identifier (reject reason rest) is = features-same identifier None v
answered-same policy v identifier (connection_request psm source) is = cc
answered-same policy v identifier (connection_response destination source answer status) is = (grant-lasts v (held_at source v) policy identifier destination answer).2
answered-same policy v identifier (configuration_request destination flags options) is = cc
answered-same policy v identifier (configuration_response source flags answer options) is = (response-lasts v (held_at source v) policy identifier answer options).2
answered-same policy v identifier (disconnection_request destination source) is = cc
answered-same policy v identifier (disconnection_response destination source) is = (end-lasts v (held_at source v) destination).2
answered-same policy v identifier (echo_request octets) is = cc
answered-same policy v identifier (echo_response octets) is = refl
answered-same policy v identifier (information_request kind) is = cc
answered-same policy v identifier (information_response kind answer rest) is = features-same identifier (features_in kind answer rest) v

-- ---- what the host does

pub lost-same : (tries : ℕ) (v : Channels) (features : Option Request) → answers_of (times_features features tries v).queue ≡ answers_of v.queue
lost-same tries v None = refl
lost-same tries v (Some request) = by (is_due errands.Features v) (nat_le tries request.given)
  where
    by : (due most : Bool) → answers_of (fires (cond due StillDue (cond most Spent OnceMore)) errands.Features loses_features v).queue ≡ answers_of v.queue
    by true most = refl
    by false true = refl
    by false false = answers-asked v.queue errands.Features

pub asks-same : (v : Channels) → answers_of (asks_features v).queue ≡ answers_of v.queue
asks-same v = by (is_some v.features)
  where
    by : (some : Bool) → answers_of (cond some v (asks errands.Features (record v { features = Some (new_request v) }))).queue ≡ answers_of v.queue
    by true = refl
    by false = asked-with errands.Features v.queue

-- of a PDU that is given one answer less waits, or as many
given_stage : (v : Channels) (f : _) (held : Option Held) → (stage_given f held v).queue ≡ v.queue
given_stage v f None = refl
given_stage v f (Some held) = refl

given_spent : (v : Channels) (setup : Option Setup) (held : Held) → (carrier_spent setup held v).queue ≡ v.queue
given_spent v None held = refl
given_spent v (Some setup) held = refl

pub given-held : (v : Channels) (held : Option Held) → (held_given held v).queue ≡ v.queue
given-held v None = refl
given-held v (Some held) = given_spent v (setup_of held.stage) held

pub given-counted : (v : Channels) (errand : _) → (counted errand v).queue ≡ v.queue
given-counted v (errands.Connection own) = given_stage v connection_given (held_at own v)
given-counted v (errands.Configuration own) = given_stage v configuration_given (held_at own v)
given-counted v (errands.Disconnection own) = given_stage v disconnection_given (held_at own v)
given-counted v errands.Features = refl

given_said : (past said : List Saying) (v : Channels) (queue : List Queued) → v.queue ≡ queue → AllSaid past v → AllSaid (past ++ said) (queue_given queue v)
given_said past said v [] is all = said_on past said v (held_given (find gives v.held) v) (ap answers_of (given-held v (find gives v.held))) all
given_said past said v (Answer command ∷ behind) is all = λ other waits. let (stands, is_one) = all other (subst (λ q. StandsIn other (answers_of q)) (sym is) (inr waits)) in (stands-left (spoken other) past said stands, is_one)
given_said past said v (Ask errand ∷ behind) is all =
    let u : Channels = record v { queue = behind } in
    said_on past said v (counted errand u) (ap answers_of (given-counted u errand) ∙ sym (ap answers_of is)) all

single_said : (policy : Policy) (past : List Saying) (v : Channels) (more : Occurrence) → is_single more ≡ true → AllSaid past v → AllSaid (past ++ said_in policy more v) (value_after policy more v)
single_said policy past v (Comes pdu) is all = cc
single_said policy past v (Connects psm) is all = said_on past (said_in policy (Connects psm) v) v (value_after policy (Connects psm) v) (connects-lasts psm v).2 all
single_said policy past v AsksFeatures is all = said_on past (said_in policy AsksFeatures v) v (value_after policy AsksFeatures v) (asks-same v) all
single_said policy past v (Disconnects own) is all = said_on past (said_in policy (Disconnects own) v) v (value_after policy (Disconnects own) v) (disconnects-last own v).2 all
single_said policy past v (Sends own sdu) is all = said_on past (said_in policy (Sends own sdu) v) v (value_after policy (Sends own sdu) v) (sends-last own sdu v).2 all
single_said policy past v (Gives pdu) is all = given_said past (said_in policy (Gives pdu) v) v v.queue refl all
single_said policy past v Fires is all = cc
single_said policy past v Tells is all = said_on past [] v (value_after policy Tells v) refl all

converses : (policy : Policy) → Converses policy (λ v. Unit {0}) AllSaid
converses policy = record {
  first = tt;
  kept = λ v more lone known. tt;
  asked = λ past v u one identifier response content asking reply alike waits sound all after. asked_said policy past v u (follows policy content u) one identifier response reply waits (follows-lasts policy content u).2 all;
  answered = λ past v identifier content is sound all after. said_on past (exchanged (Ok (command_with identifier content)) None v ++ asked_between v (hears_content policy identifier content v)) v (hears_content policy identifier content v) (answered-same policy v identifier content is) all;
  taken = λ past v pdu known sound all after. said_on past (Carried Into pdu ∷ asked_between v (takes (channel_of pdu) pdu v)) v (takes (channel_of pdu) pdu v) (takes-lasts (channel_of pdu) pdu v).2 all;
  waits = λ past v tries own sound all after. said_on past (said_on_firing own v (times_held (held_at own v) tries v)) v (times_held (held_at own v) tries v) (times-last tries own v).2 all;
  ends = λ past v tries own sound all after. said_on past (said_on_firing own v (times_end (held_at own v) tries v)) v (times_end (held_at own v) tries v) (ends-last tries own v).2 all;
  loses = λ past v tries sound all after. said_on past (said_by_features tries v) v (times_features v.features tries v) (lost-same tries v v.features) all;
  single = λ past v more is known sound all after. single_said policy past v more is all;
}

waits_in : (queue : List Queued) (command : Command) → StandsIn (Answer command) queue → StandsIn command (answers_of queue)
waits_in [] command is = elim is [ ]
waits_in (Answer other ∷ queue) command (inl same) = inl (let one : other ≡ command = cc in one)
waits_in (Answer other ∷ queue) command (inr later) = inr (waits_in queue command later)
waits_in (Ask errand ∷ queue) command (inl same) = cc
waits_in (Ask errand ∷ queue) command (inr later) = waits_in queue command later

all_said : (policy : Policy) (list : List Occurrence) (command : Command) → StandsIn (Answer command) (run_of policy list).value.queue → StandsIn (spoken command) (run_of policy list).said × (is_response command.content ≡ true)
all_said policy list command waits =
    conversed policy (λ v. Unit {0}) AllSaid (converses policy) (λ c is. elim is [ ]) list command (waits_in (run_of policy list).value.queue command waits)

pub answers-are_said : AnswersAreSaid
answers-are_said policy list command waits = (all_said policy list command waits).0

pub answers-are_responses : (policy : Policy) (list : List Occurrence) (command : Command) → StandsIn (Answer command) (run_of policy list).value.queue → is_response command.content ≡ true
answers-are_responses policy list command waits = (all_said policy list command waits).1
