-- What a host hears: the commands that come in.
use Rattle.std.proofs.Common.{◌≡◌, ℕ, List, [], ◌∷◌, ◌++◌, map, drop, Bool, true, false, cond, Option, Some, None, Ok, refl, sym, ap, subst, ◌⊎◌, inl, inr}
use Rattle.std.specs.Prelude.{option_map, option_to_list}
use Rattle.channel_laws.specs.acl_fragments.specs.Pieces.{channel_of}
use Rattle.channel_laws.specs.capture.specs.declared.flow.Flow.TheVariants.{Into}
use Rattle.channel_laws.specs.l2cap_signal.specs.Commands.{Command, connection_request, configuration_request, disconnection_request, information_request}
use Rattle.channel_laws.specs.l2cap_signal.specs.Reading.{answers}
use Rattle.channel_laws.specs.l2cap_config.specs.Writing.{written}
use Rattle.channel_laws.specs.link_talk.specs.Sayings.{Saying, Carried, GaveUp}
use Rattle.channel_laws.specs.link_talk.specs.Sayings as sayings
use Rattle.channel_laws.specs.channel_model.specs.declared.errand.Errand.TheVariants as errands
use Rattle.channel_laws.specs.channel_model.specs.Calls.{carrier_at, connected, asks_features, disconnected}
use Rattle.channel_laws.specs.channel_model.specs.Carrying.{takes}
use Rattle.channel_laws.specs.channel_model.specs.Changing.{held_at}
use Rattle.channel_laws.specs.channel_model.specs.Following.{can_say}
use Rattle.channel_laws.specs.channel_model.specs.Giving.{Given, Signal, Whole, Framed, next_given}
use Rattle.channel_laws.specs.channel_model.specs.Hearing.{hears_command}
use Rattle.channel_laws.specs.channel_model.specs.Policies.{Policy}
use Rattle.channel_laws.specs.channel_model.specs.Timing.{times_held, times_end, times_features}
use Rattle.channel_laws.specs.channel_model.specs.Value.{Request, Carrier, Plain, Retransmitting, Held, Channels}
use Rattle.channel_laws.specs.OwnTalk.{spoken, command_with, reply_to, exchanged, asked_between, said_with_all}
use Rattle.channel_laws.specs.Runs.{Occurrence, Comes, Connects, AsksFeatures, Disconnects, Sends, Gives, Fires, Tells, said_again, said_on_firing, said_by_channel, fired_channel, said_by_channels, features_given_up, said_by_carrier, said_as, said_in}
use Rattle.channel_laws.specs.Signals.{StandsIn}
use Rattle.channel_laws.proofs.Saying.{stands-either}
use Rattle.channel_laws.proofs.Words.{Words, words-asked, words-again, words-left, words-firing}
use Rattle.disconnection_laws.proofs.Ending.{BringsNone}

-- ---- what a host says of its own accord is nothing that it heard

abbrev pub heard : Command → Saying
heard command = sayings.Command Into (Ok command)

abbrev pub Deaf : List Saying → Type 0
Deaf said = (command : Command) → StandsIn (heard command) said → ⊥

deaf_none : Deaf []
deaf_none command is = elim is [ ]

deaf_both : (xs ys : List Saying) → Deaf xs → Deaf ys → Deaf (xs ++ ys)
deaf_both xs ys one other command is = by (stands-either (heard command) xs ys is)
  where
    by : StandsIn (heard command) xs ⊎ StandsIn (heard command) ys → ⊥
    by (inl left) = one command left
    by (inr right) = other command right

deaf_one : (s : Saying) → ((command : Command) → s ≡ heard command → ⊥) → Deaf (s ∷ [])
deaf_one s apart command (inl same) = apart command same
deaf_one s apart command (inr none) = elim none [ ]

deaf_spoken : (command : Command) → Deaf (spoken command ∷ [])
deaf_spoken command = deaf_one (spoken command) (λ other same. cc)

own_words : (w : Channels) → Words w Deaf
own_words w = record {
  none = deaf_none;
  both = deaf_both;
  calls = λ own held request at is. deaf_spoken (command_with request.identifier (connection_request held.psm held.own));
  wishes = λ own peer held setup request options at has to is. deaf_spoken (command_with request.identifier (configuration_request peer 0 (written options)));
  ends = λ identifier peer own. deaf_spoken (command_with identifier (disconnection_request peer own));
  asks = λ request is. deaf_spoken (command_with request.identifier (information_request 2));
  lets_call = λ identifier own. deaf_one (GaveUp (sayings.Connection identifier own)) (λ other same. cc);
  lets_end = λ own peer. deaf_one (GaveUp (sayings.Disconnection own peer)) (λ other same. cc);
}

deaf_features : (before after : Option Request) → Deaf (features_given_up before after)
deaf_features None after = deaf_none
deaf_features (Some request) None = deaf_one _ (λ other same. cc)
deaf_features (Some request) (Some other) = deaf_none

deaf_fired : (tries : ℕ) (owns : List ℕ) (v : Channels) → Deaf (said_by_channels tries owns v)
deaf_fired tries [] v =
    let w : Channels = times_features v.features tries v in
    deaf_both (said_again errands.Features v w) (features_given_up v.features w.features) (words-again w Deaf (own_words w) errands.Features v) (deaf_features v.features w.features)
deaf_fired tries (own ∷ owns) v =
    let between : Channels = times_held (held_at own v) tries v in
    let after : Channels = times_end (held_at own between) tries between in
    deaf_both (said_by_channel tries own v) (said_by_channels tries owns (fired_channel tries own v))
    (deaf_both (said_on_firing own v between) (said_on_firing own between after) (words-firing between Deaf (own_words between) own v) (words-firing after Deaf (own_words after) own between))
    (deaf_fired tries owns (fired_channel tries own v))

deaf_sent : (carrier : Option Carrier) (peer : ℕ) (sdu : List ℕ) → Deaf (said_by_carrier carrier peer sdu)
deaf_sent None peer sdu = deaf_none
deaf_sent (Some (Plain agreed None)) peer sdu = deaf_one _ (λ other same. cc)
deaf_sent (Some (Plain agreed (Some waiting))) peer sdu = deaf_none
deaf_sent (Some (Retransmitting machine)) peer sdu = deaf_none

deaf_given : (given : Option Given) (pdu : List ℕ) → Deaf (said_as given pdu)
deaf_given None pdu = deaf_none
deaf_given (Some (Signal command)) pdu = deaf_none
deaf_given (Some (Whole other sdu)) pdu = deaf_none
deaf_given (Some (Framed other frame)) pdu = deaf_one _ (λ other same. cc)

-- where nothing comes in on the signalling channel nothing is heard
pub hears-none : (policy : Policy) (one : Occurrence) (v : Channels) → BringsNone one → Deaf (said_in policy one v)
hears-none policy (Comes pdu) v none =
    let w : Channels = takes (channel_of pdu) pdu v in
    let all : List Saying = said_with_all policy (answers (drop 4 pdu)) v in
    let deaf = deaf_both (Carried Into pdu ∷ []) (asked_between v w) (deaf_one (Carried Into pdu) (λ other same. cc)) (words-asked w Deaf (own_words w) v) in
    subst Deaf (sym (ap (λ (b : Bool). cond b all (Carried Into pdu ∷ asked_between v w)) none)) deaf
hears-none policy (Connects psm) v none = let w : Channels = connected psm v in words-asked w Deaf (own_words w) v
hears-none policy AsksFeatures v none = let w : Channels = asks_features v in words-asked w Deaf (own_words w) v
hears-none policy (Disconnects own) v none = let w : Channels = disconnected own v in words-left w Deaf (own_words w) own v
hears-none policy (Sends own sdu) v none = deaf_sent (carrier_at own v) _ sdu
hears-none policy (Gives pdu) v none = deaf_given (next_given v) pdu
hears-none policy Fires v none = deaf_fired policy.tries (map (λ (held : Held). held.own) v.held) v
hears-none policy Tells v none = deaf_none

deaf_reply : (reply : Option Command) → Deaf (map spoken (option_to_list reply))
deaf_reply None = deaf_none
deaf_reply (Some command) = deaf_spoken command

command_same : (one other : Command) → sayings.Command Into (Ok one) ≡ sayings.Command Into (Ok other) → one ≡ other
command_same one other same = cc

-- one that stands in what is said as a command comes in is that command, and what is answered to it has room
pub heard-is : (policy : Policy) (command other : Command) (v : Channels) → StandsIn (heard other) (said_with_all policy (Ok command ∷ []) v) → (command ≡ other) × (can_say (option_map (λ (c : Command). c.content) (reply_to policy (Ok command) v)) v ≡ true)
heard-is policy command other v is = whole (stands-either (heard other) (exchanged (Ok command) reply v ++ asked_between v w) [] is)
  where
    w : Channels
    w = hears_command policy (Ok command) v

    reply : Option Command
    reply = reply_to policy (Ok command) v

    So : Type 0
    So = (command ≡ other) × (can_say (option_map (λ (c : Command). c.content) reply) v ≡ true)

    part : (can : Bool) → can_say (option_map (λ (c : Command). c.content) reply) v ≡ can → StandsIn (heard other) (cond can (sayings.Command Into (Ok command) ∷ map spoken (option_to_list reply)) []) → So
    part true can (inl same) = (command_same command other same, can)
    part true can (inr more) = absurd (deaf_reply reply other more)
    part false can none = elim none [ ]

    both : StandsIn (heard other) (exchanged (Ok command) reply v) ⊎ StandsIn (heard other) (asked_between v w) → So
    both (inl now) = part (can_say (option_map (λ (c : Command). c.content) reply) v) refl now
    both (inr own_word) = absurd (words-asked w Deaf (own_words w) v other own_word)

    whole : StandsIn (heard other) (exchanged (Ok command) reply v ++ asked_between v w) ⊎ StandsIn (heard other) [] → So
    whole (inl one) = both (stands-either (heard other) (exchanged (Ok command) reply v) (asked_between v w) one)
    whole (inr none) = elim none [ ]
