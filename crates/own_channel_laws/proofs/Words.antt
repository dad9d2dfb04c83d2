-- All that a host says of its own accord, word by word.
use Rattle.std.proofs.Common.{◌≡◌, ℕ, List, [], ◌∷◌, ◌++◌, map, Bool, true, false, cond, eqb, Option, Some, None, refl, ap}
use Rattle.std.specs.Prelude.{option_to_list}
use Rattle.talk_laws.specs.l2cap_signal.specs.Commands.{connection_request, configuration_request, disconnection_request, information_request}
use Rattle.talk_laws.specs.l2cap_config.specs.declared.options.Options.{Options}
use Rattle.talk_laws.specs.l2cap_config.specs.Writing.{written}
use Rattle.talk_laws.specs.link_talk.specs.Sayings.{Saying, GaveUp}
use Rattle.talk_laws.specs.link_talk.specs.Sayings as sayings
use Rattle.channel_model.specs.declared.errand.Errand.{Errand}
use Rattle.channel_model.specs.declared.errand.Errand.TheVariants as errands
use Rattle.channel_model.specs.Value.{Request, Own, Unasked, Asking, Granted, Setup, Stage, Requested, Connected, Leaving, Closing, Crossed, Held, Channels}
use Rattle.channel_model.specs.Changing.{held_at, setup_of}
use Rattle.channel_model.specs.Giving.{connection_at, configuration_by, configuration_at, disconnection_at, on_held, features_command}
use Rattle.own_channel_laws.specs.OwnTalk.{spoken, command_with, newest, said_of, asked_between}
use Rattle.own_channel_laws.specs.Runs.{forgone_at, forgone_between, given_up, said_again, said_on_firing}
use Rattle.own_channel_laws.specs.Views.{peer_of}

-- something of lists of sayings, which holds of each word that a host may say of its channels and its questions
pub record Words (w : Channels) (P : List Saying → Type 0) : Type 0 where
  pub none : P []
  pub both : (xs ys : List Saying) → P xs → P ys → P (xs ++ ys)
  pub calls : (own : ℕ) (held : Held) (request : Request) → held_at own w ≡ Some held → held.stage ≡ Requested request → P (spoken (command_with request.identifier (connection_request held.psm held.own)) ∷ [])
  pub wishes : (own peer : ℕ) (held : Held) (setup : Setup) (request : Request) (options : Options) → held_at own w ≡ Some held → setup_of held.stage ≡ Some setup → peer_of held.stage ≡ Some peer → setup.own ≡ Asking request options
      → P (spoken (command_with request.identifier (configuration_request peer 0 (written options))) ∷ [])
  pub ends : (identifier peer own : ℕ) → P (spoken (command_with identifier (disconnection_request peer own)) ∷ [])
  pub asks : (request : Request) → w.features ≡ Some request → P (spoken (command_with request.identifier (information_request 2)) ∷ [])
  pub lets_call : (identifier own : ℕ) → P (GaveUp (sayings.Connection identifier own) ∷ [])
  pub lets_end : (own peer : ℕ) → P (GaveUp (sayings.Disconnection own peer) ∷ [])

words_if : (w : Channels) (P : List Saying → Type 0) → Words w P → (b : Bool) (said : List Saying) → P said → P (cond b said [])
words_if w P words true said holds = holds
words_if w P words false said holds = words.none

-- ---- own requests

words_call : (w : Channels) (P : List Saying → Type 0) → Words w P → (own : ℕ) (held : Option Held) → held_at own w ≡ held → P (map spoken (option_to_list (on_held (λ h. connection_at h.stage h) held)))
words_call w P words own None at = words.none
words_call w P words own (Some held) at = by held.stage refl
  where
    by : (stage : Stage) → held.stage ≡ stage → P (map spoken (option_to_list (connection_at stage held)))
    by (Requested request) is = words.calls own held request at is
    by (Connected peer setup) is = words.none
    by (Leaving peer setup request) is = words.none
    by (Closing peer request checked) is = words.none
    by (Crossed peer request) is = words.none

words_wish : (w : Channels) (P : List Saying → Type 0) → Words w P → (own : ℕ) (held : Option Held) → held_at own w ≡ held → P (map spoken (option_to_list (on_held (λ h. configuration_at h.stage) held)))
words_wish w P words own None at = words.none
words_wish w P words own (Some held) at = by held.stage refl
  where
    asked : (peer : ℕ) (setup : Setup) → setup_of held.stage ≡ Some setup → peer_of held.stage ≡ Some peer → (by_own : Own) → setup.own ≡ by_own → P (map spoken (option_to_list (configuration_by by_own peer)))
    asked peer setup has to Unasked is = words.none
    asked peer setup has to (Asking request options) is = words.wishes own peer held setup request options at has to is
    asked peer setup has to Granted is = words.none

    by : (stage : Stage) → held.stage ≡ stage → P (map spoken (option_to_list (configuration_at stage)))
    by (Requested request) is = words.none
    by (Connected peer setup) is = asked peer setup (ap setup_of is) (ap peer_of is) setup.own refl
    by (Leaving peer setup request) is = asked peer setup (ap setup_of is) (ap peer_of is) setup.own refl
    by (Closing peer request checked) is = words.none
    by (Crossed peer request) is = words.none

words_end : (w : Channels) (P : List Saying → Type 0) → Words w P → (held : Option Held) → P (map spoken (option_to_list (on_held (λ h. disconnection_at h.stage h) held)))
words_end w P words None = words.none
words_end w P words (Some held) = by held.stage
  where
    by : (stage : Stage) → P (map spoken (option_to_list (disconnection_at stage held)))
    by (Requested request) = words.none
    by (Connected peer setup) = words.none
    by (Leaving peer setup request) = words.ends request.identifier peer held.own
    by (Closing peer request checked) = words.ends request.identifier peer held.own
    by (Crossed peer request) = words.ends request.identifier peer held.own

words_features : (w : Channels) (P : List Saying → Type 0) → Words w P → (features : Option Request) → w.features ≡ features → P (map spoken (option_to_list (features_command features)))
words_features w P words None is = words.none
words_features w P words (Some request) is = words.asks request is

pub words-errand : (w : Channels) (P : List Saying → Type 0) → Words w P → (errand : Errand) → P (said_of (Some errand) w)
words-errand w P words (errands.Connection own) = words_call w P words own (held_at own w) refl
words-errand w P words (errands.Configuration own) = words_wish w P words own (held_at own w) refl
words-errand w P words (errands.Disconnection own) = words_end w P words (held_at own w)
words-errand w P words errands.Features = words_features w P words w.features refl

pub words-asked : (w : Channels) (P : List Saying → Type 0) → Words w P → (v : Channels) → P (asked_between v w)
words-asked w P words v = by (eqb w.identifier v.identifier)
  where
    last : (errand : Option Errand) → P (said_of errand w)
    last None = words.none
    last (Some errand) = words-errand w P words errand

    by : (same : Bool) → P (cond same [] (said_of (newest w.queue) w))
    by true = words.none
    by false = last (newest w.queue)

pub words-again : (w : Channels) (P : List Saying → Type 0) → Words w P → (errand : Errand) (v : Channels) → P (said_again errand v w)
words-again w P words errand v = words_if w P words _ (said_of (Some errand) w) (words-errand w P words errand)

-- ---- what is given up

pub words-forgone : (w : Channels) (P : List Saying → Type 0) → Words w P → (before after : Option Held) → P (forgone_between before after)
words-forgone w P words None after = words.none
words-forgone w P words (Some held) None = by held.stage
  where
    by : (stage : Stage) → P (forgone_at stage held.own)
    by (Requested request) = words.lets_call request.identifier held.own
    by (Connected peer setup) = words.none
    by (Leaving peer setup request) = words.lets_end held.own peer
    by (Closing peer request checked) = words.lets_end held.own peer
    by (Crossed peer request) = words.lets_end held.own peer
words-forgone w P words (Some held) (Some other) = words.none

pub words-left : (w : Channels) (P : List Saying → Type 0) → Words w P → (own : ℕ) (v : Channels) → P (asked_between v w ++ given_up own v w)
words-left w P words own v = words.both (asked_between v w) (given_up own v w) (words-asked w P words v) (words-forgone w P words (held_at own v) (held_at own w))

pub words-firing : (w : Channels) (P : List Saying → Type 0) → Words w P → (own : ℕ) (v : Channels) → P (said_on_firing own v w)
words-firing w P words own v =
    words.both (said_again (errands.Connection own) v w) _ (words-again w P words (errands.Connection own) v)
    (words.both (said_again (errands.Configuration own) v w) _ (words-again w P words (errands.Configuration own) v)
    (words.both (said_again (errands.Disconnection own) v w) _ (words-again w P words (errands.Disconnection own) v) (words-left w P words own v)))
