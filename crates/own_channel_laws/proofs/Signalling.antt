-- What a host says of signalling alone.
use Rattle.std.proofs.Common.{◌≡◌, ℕ, List, [], ◌∷◌, ◌++◌, map, Bool, true, false, cond, ◌||◌, Option, Some, None, refl, ap, ◌∙◌}
use Rattle.std.specs.Prelude.{option_map, option_to_list}
use Rattle.std.specs.List.{list_any}
use Rattle.talk_laws.specs.capture.specs.declared.flow.Flow.TheVariants.{Into}
use Rattle.talk_laws.specs.l2cap_signal.specs.Commands.{Command}
use Rattle.talk_laws.specs.l2cap_signal.specs.Reading.{Answer as Read}
use Rattle.talk_laws.specs.link_talk.specs.Sayings.{Saying, Carried}
use Rattle.talk_laws.specs.link_talk.specs.Sayings as sayings
use Rattle.channel_model.specs.Following.{can_say}
use Rattle.channel_model.specs.declared.errand.Errand.TheVariants as errands
use Rattle.channel_model.specs.Value.{Request, Channels}
use Rattle.channel_model.specs.Policies.{Policy}
use Rattle.channel_model.specs.Changing.{held_at}
use Rattle.channel_model.specs.Hearing.{hears_command}
use Rattle.channel_model.specs.Timing.{times_held, times_end, times_features}
use Rattle.own_channel_laws.specs.OwnTalk.{spoken, reply_to, exchanged, asked_between, said_with, said_with_all}
use Rattle.own_channel_laws.specs.Runs.{given_up, features_given_up, said_again, said_on_firing, said_by_channel, fired_channel, said_by_channels}
use Rattle.own_channel_laws.proofs.Words.{Words, words-asked, words-again, words-left, words-firing}
use Rattle.own_channel_laws.proofs.Stretching.{NoneComes, comes_in}
use Rattle.talk_laws.specs.link_talk.specs.Sayings.{Command as Said, GaveUp}

-- a PDU on a channel
abbrev pub is_carried : Saying → Bool
is_carried (Said flow answer) = false
is_carried (Carried flow pdu) = true
is_carried (GaveUp forgone) = false

-- there is none in a list of sayings
abbrev pub IsBare : List Saying → Type 0
IsBare said = list_any is_carried said ≡ false

pub bare-append : (xs ys : List Saying) → IsBare xs → IsBare ys → IsBare (xs ++ ys)
bare-append [] ys one other = other
bare-append (x ∷ xs) ys one other = by (is_carried x) one (bare-append xs ys)
  where
    by : (now : Bool) → (now || list_any is_carried xs) ≡ false → (IsBare xs → IsBare ys → IsBare (xs ++ ys)) → (now || list_any is_carried (xs ++ ys)) ≡ false
    by true all later = cc
    by false all later = later all other

own_words : (w : Channels) → Words w IsBare
own_words w = record {
  none = refl;
  both = bare-append;
  calls = λ own held request at is. refl;
  wishes = λ own peer held setup request options at has to is. refl;
  ends = λ identifier peer own. refl;
  asks = λ request is. refl;
  lets_call = λ identifier own. refl;
  lets_end = λ own peer. refl;
}

pub bare-asked : (v w : Channels) → IsBare (asked_between v w)
bare-asked v w = words-asked w IsBare (own_words w) v

pub bare-left : (own : ℕ) (v w : Channels) → IsBare (asked_between v w ++ given_up own v w)
bare-left own v w = words-left w IsBare (own_words w) own v

bare_exchanged : (one : Read) (reply : Option Command) (v : Channels) → IsBare (exchanged one reply v)
bare_exchanged one reply v = by (can_say (option_map (λ (c : Command). c.content) reply) v) reply
  where
    by : (can : Bool) (reply : Option Command) → IsBare (cond can (sayings.Command Into one ∷ map spoken (option_to_list reply)) [])
    by true None = refl
    by true (Some command) = refl
    by false reply = refl

pub bare-with_all : (policy : Policy) (list : List Read) (v : Channels) → IsBare (said_with_all policy list v)
bare-with_all policy [] v = refl
bare-with_all policy (one ∷ list) v =
    bare-append (said_with policy one v) (said_with_all policy list (hears_command policy one v))
    (bare-append (exchanged one (reply_to policy one v) v) (asked_between v (hears_command policy one v)) (bare_exchanged one (reply_to policy one v) v) (bare-asked v (hears_command policy one v)))
    (bare-with_all policy list (hears_command policy one v))

bare_features : (before after : Option Request) → IsBare (features_given_up before after)
bare_features None after = refl
bare_features (Some request) None = refl
bare_features (Some request) (Some other) = refl

pub bare-fired : (tries : ℕ) (owns : List ℕ) (v : Channels) → IsBare (said_by_channels tries owns v)
bare-fired tries [] v = bare-append (said_again errands.Features v (times_features v.features tries v)) _ (words-again (times_features v.features tries v) IsBare (own_words (times_features v.features tries v)) errands.Features v) (bare_features v.features (times_features v.features tries v).features)
bare-fired tries (own ∷ owns) v =
    let between : Channels = times_held (held_at own v) tries v in
    bare-append (said_by_channel tries own v) (said_by_channels tries owns (fired_channel tries own v))
    (bare-append (said_on_firing own v between) (said_on_firing own between (times_end (held_at own between) tries between)) (words-firing between IsBare (own_words between) own v) (words-firing (times_end (held_at own between) tries between) IsBare (own_words (times_end (held_at own between) tries between)) own between))
    (bare-fired tries owns (fired_channel tries own v))

-- so none comes in
comes_less : (s : Saying) → is_carried s ≡ false → comes_in s ≡ false
comes_less (Said flow answer) is = refl
comes_less (Carried flow pdu) is = cc
comes_less (GaveUp forgone) is = refl

pub bare-comes : (said : List Saying) → IsBare said → NoneComes said
bare-comes [] bare = refl
bare-comes (s ∷ said) bare = by (is_carried s) refl bare (bare-comes said)
  where
    by : (b : Bool) → is_carried s ≡ b → (b || list_any is_carried said) ≡ false → (IsBare said → NoneComes said) → NoneComes (s ∷ said)
    by true is bare later = cc
    by false is bare later = ap (λ t. t || list_any comes_in said) (comes_less s is) ∙ later bare
