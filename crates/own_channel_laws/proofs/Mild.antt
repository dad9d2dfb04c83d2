-- What a host says and hears accepts nothing, but for its responses to requests for options.
use Rattle.std.proofs.Common.{◌≡◌, ℕ, List, [], ◌∷◌, ◌++◌, Bool, true, false, cond, eqb, not, ◌&&◌, Option, Some, None, Ok, Err, refl, sym, ap, subst, ◌∙◌, append_assoc, append-nil}
use Rattle.std.specs.Prelude.{nat_le}
use Rattle.std.specs.Option.{option_or}
use Rattle.std.specs.List.{list_any}
use Rattle.talk_laws.specs.capture.specs.declared.flow.Flow.TheVariants.{Out, Into}
use Rattle.talk_laws.specs.l2cap_signal.specs.Commands.{Content, reject, connection_request, connection_response, configuration_request, configuration_response, disconnection_request, disconnection_response, echo_request, echo_response, information_request, information_response}
use Rattle.talk_laws.specs.l2cap_signal.specs.Reading.{Answer as Read}
use Rattle.talk_laws.specs.l2cap_signal.specs.declared.refusal.SignalRefusal.TheVariants.{ZeroIdentifier, BadLength, UnknownCode, AboveMtu}
use Rattle.talk_laws.specs.l2cap_config.specs.declared.wish.Mode.{Mode}
use Rattle.talk_laws.specs.l2cap_config.specs.Reading.{options_read}
use Rattle.talk_laws.specs.link_talk.specs.declared.channel.Channel.{Channel}
use Rattle.talk_laws.specs.link_talk.specs.declared.call.Wanted.{Wanted}
use Rattle.talk_laws.specs.link_talk.specs.Sayings.{Saying, Carried, GaveUp}
use Rattle.talk_laws.specs.link_talk.specs.Sayings as sayings
use Rattle.talk_laws.specs.link_talk.specs.Senses.{Asks, Quiet, Unread, sense}
use Rattle.talk_laws.specs.link_talk.specs.Requests.{Requests, answered_call, has_failed}
use Rattle.talk_laws.specs.link_talk.specs.Meanings.{Meaning, Makes, Answers, Wishes, Settles, Parts, Nothing, granted, meant, is_read}
use Rattle.talk_laws.specs.link_talk.specs.Setups as read
use Rattle.talk_laws.specs.link_talk.specs.Setups.{mode_in, is_set, with_answer, with_term, setup_after, term, Answered, Wished}
use Rattle.talk_laws.specs.link_talk.specs.Channels.{Entry, fresh, entry_after, entries_after, is_there, is_owner, made_by, Reading, reading}
use Rattle.channel_model.specs.Value.{Channels}
use Rattle.channel_model.specs.Policies.{Policy}
use Rattle.own_channel_laws.specs.OwnTalk.{spoken, command_with}
use Rattle.own_channel_laws.specs.Views.{read_at}
use Rattle.own_channel_laws.proofs.Sound.{some-of_map}
use Rattle.own_channel_laws.proofs.Entries.{makes-fresh, read-after, read-append}
use Rattle.own_channel_laws.proofs.Origins.{makes-it}
use Rattle.own_channel_laws.proofs.Conversing.{reading-on}
use Rattle.own_channel_laws.proofs.Words.{Words}

-- ---- what is accepted of a channel

-- by the mode that its host wishes
abbrev pub IsOwn : Policy → Entry → Type 0
IsOwn policy entry = (mode : Mode) → entry.setup.accepted ≡ Some mode → (policy.wish entry.channel.psm).mode ≡ mode

-- what is read at an endpoint
abbrev pub OwnAt : Policy → ℕ → Reading → Type 0
OwnAt policy n r = (entry : Entry) → read_at n r.entries ≡ Some entry → IsOwn policy entry

-- it goes on with a meaning
pub after_keeps : (policy : Policy) (n : ℕ) (entries : List Entry) (m : Meaning) → ((x : Entry) → read_at n entries ≡ Some x → IsOwn policy x) → ((x : Entry) → read_at n entries ≡ Some x → IsOwn policy (entry_after m x))
    → (entry : Entry) → read_at n (entries_after entries m) ≡ Some entry → IsOwn policy entry
after_keeps policy n entries m was goes entry at = by (made_by m) refl
  where
    fresh_or : (channel : Channel) (old : Option Entry) → read_at n entries ≡ old → (same : Bool) → option_or old (cond same (Some (fresh channel)) None) ≡ Some entry → IsOwn policy entry
    fresh_or channel (Some x) found same one = was entry (found ∙ one)
    fresh_or channel None found true one = let it : fresh channel ≡ entry = cc in subst (IsOwn policy) it (λ mode is. cc)
    fresh_or channel None found false one = cc

    owned : (channel : Channel) (taken : Bool) → read_at n (cond taken entries (entries ++ fresh channel ∷ [])) ≡ Some entry → IsOwn policy entry
    owned channel true found = was entry found
    owned channel false found = fresh_or channel (read_at n entries) refl (eqb channel.own n) (sym (read-append n entries channel) ∙ found)

    by : (found : Option Channel) → made_by m ≡ found → IsOwn policy entry
    by None none = let (x, there, is) = some-of_map (entry_after m) (read_at n entries) entry (sym (read-after m entries n none) ∙ at) in subst (IsOwn policy) is (goes x there)
    by (Some channel) makes = owned channel (list_any (is_owner channel) entries) (sym (ap (read_at n) (ap (entries_after entries) (makes-it m channel makes) ∙ makes-fresh channel entries)) ∙ at)

-- ---- sayings that accept nothing

abbrev is_answers : Meaning → Bool
is_answers (Makes channel) = false
is_answers (Answers part) = true
is_answers (Wishes identifier peer options) = false
is_answers (Settles identifier own) = false
is_answers (Parts said own peer) = false
is_answers Nothing = false

pub same_accepted : (policy : Policy) (m : Meaning) (x : Entry) → is_answers m ≡ false → IsOwn policy x → IsOwn policy (entry_after m x)
same_accepted policy m x mild own mode is = own mode (sym (by m mild) ∙ is)
  where
    still : (there : Bool) (setup : read.Setup) → setup.accepted ≡ x.setup.accepted → (cond there setup x.setup).accepted ≡ x.setup.accepted
    still true setup same = same
    still false setup same = refl

    wished : (b : Bool) (options : List ℕ) → (setup_after x.setup (cond b (Some (Wished options)) None)).accepted ≡ x.setup.accepted
    wished false options = refl
    wished true options = set (is_set x.setup)
      where
        set : (b : Bool) → (cond b x.setup (with_term x.setup (Wished options))).accepted ≡ x.setup.accepted
        set true = refl
        set false = refl

    by : (m : Meaning) → is_answers m ≡ false → (entry_after m x).setup.accepted ≡ x.setup.accepted
    by (Makes channel) is = still (is_there x.life) x.setup refl
    by (Answers part) is = cc
    by (Wishes identifier peer options) is = still (is_there x.life) _ (wished (eqb peer x.channel.peer) options)
    by (Settles identifier own) is = still (is_there x.life) x.setup refl
    by (Parts said own peer) is = still (is_there x.life) x.setup refl
    by Nothing is = still (is_there x.life) x.setup refl

-- a saying is none that accepts
abbrev pub IsMild : Saying → Type 0
IsMild s = (asked : Requests) → is_answers (meant asked (sense s)) ≡ false

-- at each endpoint
abbrev pub KeepsOwn : Policy → List Saying → Type 0
KeepsOwn policy said = (past : List Saying) (n : ℕ) → OwnAt policy n (reading past) → OwnAt policy n (reading (past ++ said))

pub one_saying : (policy : Policy) (s : Saying) → IsMild s → KeepsOwn policy (s ∷ [])
one_saying policy s mild past n own entry at =
    let r : Reading = reading past in
    after_keeps policy n r.entries (meant r.requests (sense s)) own (λ x found. same_accepted policy (meant r.requests (sense s)) x (mild r.requests) (own x found)) entry
    (sym (ap (λ (q : Reading). read_at n q.entries) (reading-on past (s ∷ []))) ∙ at)

pub no_sayings : (policy : Policy) → KeepsOwn policy []
no_sayings policy past n own = subst (λ l. OwnAt policy n (reading l)) (sym (append-nil past)) own

pub both_sayings : (policy : Policy) (xs ys : List Saying) → KeepsOwn policy xs → KeepsOwn policy ys → KeepsOwn policy (xs ++ ys)
both_sayings policy xs ys first second past n own = subst (λ l. OwnAt policy n (reading l)) (append_assoc past xs ys) (second (past ++ xs) n (first past n own))

granted_mild : (own peer : ℕ) (wanted : Option Wanted) → is_answers (granted own peer wanted) ≡ false
granted_mild own peer None = refl
granted_mild own peer (Some wanted) = refl

mild_if : (b : Bool) (m : Meaning) → is_answers m ≡ false → is_answers (cond b m Nothing) ≡ false
mild_if true m is = is
mild_if false m is = refl

mild_unless : (b : Bool) (m : Meaning) → is_answers m ≡ false → is_answers (cond b Nothing m) ≡ false
mild_unless true m is = refl
mild_unless false m is = is

-- nothing that comes in does
pub heard_mild : (one : Read) → IsMild (sayings.Command Into one)
heard_mild (Ok command) asked = by command.content
  where
    by : (content : Content) → is_answers (meant asked (sense (sayings.Command Into (Ok (command_with command.identifier content))))) ≡ false
    by (reject reason rest) = refl
    by (connection_request psm source) = refl
    by (connection_response destination source answer status) =
        mild_if (eqb answer 0 && nat_le 0x0040 destination) _ (mild_unless (has_failed asked command.identifier source) _ (granted_mild source destination (answered_call asked Out command.identifier source)))
    by (configuration_request destination flags options) = refl
    by (configuration_response source flags answer options) = mild_if (is_read (options_read options) && not (eqb answer 4)) (Settles command.identifier source) refl
    by (disconnection_request destination source) = refl
    by (disconnection_response destination source) = refl
    by (echo_request octets) = refl
    by (echo_response octets) = refl
    by (information_request kind) = refl
    by (information_response kind answer rest) = refl
heard_mild (Err (ZeroIdentifier code identifier)) asked = refl
heard_mild (Err (BadLength code None)) asked = refl
heard_mild (Err (BadLength code (Some identifier))) asked = by (eqb identifier 0)
  where
    by : (zero : Bool) → is_answers (meant asked (cond zero Quiet (Asks Into identifier (Unread code)))) ≡ false
    by true = refl
    by false = refl
heard_mild (Err (UnknownCode code identifier)) asked = refl
heard_mild (Err (AboveMtu code identifier)) asked = refl

abbrev pub is_about_options : Content → Bool
is_about_options (reject reason rest) = false
is_about_options (connection_request psm source) = false
is_about_options (connection_response destination source answer status) = false
is_about_options (configuration_request destination flags options) = false
is_about_options (configuration_response source flags answer options) = true
is_about_options (disconnection_request destination source) = false
is_about_options (disconnection_response destination source) = false
is_about_options (echo_request octets) = false
is_about_options (echo_response octets) = false
is_about_options (information_request kind) = false
is_about_options (information_response kind answer rest) = false

-- nor what the host says, but for a response to a request for options
pub spoken_mild : (identifier : ℕ) (content : Content) → is_about_options content ≡ false → IsMild (spoken (command_with identifier content))
spoken_mild identifier (reject reason rest) none asked = refl
spoken_mild identifier (connection_request psm source) none asked = refl
spoken_mild identifier (connection_response destination source answer status) none asked = mild_if (eqb answer 0 && nat_le 0x0040 destination) _ (granted_mild destination source (answered_call asked Into identifier source))
spoken_mild identifier (configuration_request destination flags options) none asked = refl
spoken_mild identifier (configuration_response source flags answer options) none asked = cc
spoken_mild identifier (disconnection_request destination source) none asked = refl
spoken_mild identifier (disconnection_response destination source) none asked = refl
spoken_mild identifier (echo_request octets) none asked = refl
spoken_mild identifier (echo_response octets) none asked = refl
spoken_mild identifier (information_request kind) none asked = refl
spoken_mild identifier (information_response kind answer rest) none asked = refl

pub own_words : (policy : Policy) (w : Channels) → Words w (KeepsOwn policy)
own_words policy w = record {
  none = no_sayings policy;
  both = both_sayings policy;
  calls = λ own held request at is. one_saying policy _ (λ asked. refl);
  wishes = λ own peer held setup request options at has to is. one_saying policy _ (λ asked. refl);
  ends = λ identifier peer own. one_saying policy _ (λ asked. refl);
  asks = λ request is. one_saying policy _ (λ asked. refl);
  lets_call = λ identifier own. one_saying policy _ (λ asked. refl);
  lets_end = λ own peer. one_saying policy _ (λ asked. refl);
}
