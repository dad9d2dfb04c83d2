-- What a host says of its options while its peer suggests no others.
use Rattle.std.proofs.Common.{◌≡◌, ℕ, List, [], ◌∷◌, ◌++◌, map, Bool, true, false, cond, Option, Some, None, Ok, refl, sym, ap, subst, ◌∙◌, ◌⊎◌, inl, inr}
use Rattle.std.specs.Prelude.{option_map, option_to_list}
use Rattle.std.specs.List.{AllByRecursion}
use Rattle.channel_laws.specs.acl_fragments.specs.Pieces.{channel_of}
use Rattle.channel_laws.specs.capture.specs.declared.flow.Flow.TheVariants.{Into}
use Rattle.channel_laws.specs.l2cap_config.specs.declared.options.Options.{Options}
use Rattle.channel_laws.specs.l2cap_config.specs.Writing.{written}
use Rattle.channel_laws.specs.l2cap_signal.specs.Commands.{Content, Command, connection_request, configuration_request, disconnection_request, information_request}
use Rattle.channel_laws.specs.l2cap_signal.specs.Reading.{Answer as Read}
use Rattle.channel_laws.specs.link_talk.specs.Channels.{Entry, Reading, reading}
use Rattle.channel_laws.specs.link_talk.specs.Sayings.{Saying, Carried, GaveUp}
use Rattle.channel_laws.specs.link_talk.specs.Sayings as sayings
use Rattle.channel_laws.specs.channel_model.specs.declared.errand.Errand.TheVariants as errands
use Rattle.channel_laws.specs.channel_model.specs.Calls.{carrier_at, connected, asks_features, disconnected}
use Rattle.channel_laws.specs.channel_model.specs.Carrying.{takes}
use Rattle.channel_laws.specs.channel_model.specs.Changing.{held_at, setup_of}
use Rattle.channel_laws.specs.channel_model.specs.Following.{can_say, follows}
use Rattle.channel_laws.specs.channel_model.specs.Giving.{Given, Signal, Whole, Framed, next_given}
use Rattle.channel_laws.specs.channel_model.specs.Hearing.{hears_content}
use Rattle.channel_laws.specs.channel_model.specs.Policies.{Policy}
use Rattle.channel_laws.specs.channel_model.specs.Timing.{times_held, times_end, times_features}
use Rattle.channel_laws.specs.channel_model.specs.Value.{Request, Asking, Carrier, Plain, Retransmitting, Setup, Held, Channels}
use Rattle.channel_laws.specs.Endpoints.{IsOf}
use Rattle.channel_laws.specs.OwnTalk.{spoken, command_with, command_if, exchanged, asked_between}
use Rattle.channel_laws.specs.Runs.{Occurrence, Comes, Connects, AsksFeatures, Disconnects, Sends, Gives, Fires, Tells, features_given_up, said_again, said_on_firing, said_by_features, said_by_carrier, said_as, said_in, value_after, run_of}
use Rattle.channel_laws.specs.Signals.{StandsIn}
use Rattle.channel_laws.specs.Views.{peer_of, channel_by, read_at}
use Rattle.channel_laws.proofs.Converses.{is_single, Converses}
use Rattle.channel_laws.proofs.Conversing.{conversed, reading-on}
use Rattle.channel_laws.proofs.Naming.{said-of}
use Rattle.channel_laws.proofs.Replying.{IsReply, is_response}
use Rattle.channel_laws.proofs.Saying.{stands-left, stands-right, stands-either}
use Rattle.channel_laws.proofs.Sound.{ReadsBy, Reads, Sound}
use Rattle.channel_laws.proofs.Words.{Words, words-asked, words-again, words-left, words-firing}
use Rattle.disconnection_laws.proofs.Ending.{command_same}
use Rattle.accepting_laws.specs.First.{SuggestsNone, IsForFirst, FirstOptionsAreAsked}
use Rattle.accepting_laws.proofs.Firsts.{FirstOwn, IsFirst, first-stays}
use Rattle.accepting_laws.proofs.Owning.{HeldOf, AllOf, setup-so, found-so, follows-so, answered-so, taken-so, times-so, ends-so, features-so, single-so}

-- ---- what waits

abbrev AllFirst : Policy → Channels → Type 0
AllFirst policy v = AllOf (IsFirst policy) v

-- ---- requests

abbrev pub is_wish : (identifier peer flags : ℕ) → List ℕ → Saying
is_wish identifier peer flags options = spoken (command_with identifier (configuration_request peer flags options))

-- all of these that are said are for first options, of the channels of a talk
abbrev pub AllAsk : Policy → (talk : List Saying) → List Saying → Type 0
AllAsk policy talk said = (identifier peer flags : ℕ) (options : List ℕ) → StandsIn (is_wish identifier peer flags options) said → IsForFirst policy talk peer flags options

pub more-first : (policy : Policy) (said more : List Saying) (peer flags : ℕ) (options : List ℕ) → IsForFirst policy said peer flags options → IsForFirst policy (said ++ more) peer flags options
more-first policy said more peer flags options is = record {
  own = is.own;
  channel = is.channel;
  has = subst (λ (r : Reading). IsOf is.channel (read_at is.own r.entries)) (sym (reading-on said more)) (said-of is.channel is.own more (reading said) is.has);
  peer_is = is.peer_is;
  flags_are = is.flags_are;
  octets_are = is.octets_are;
}

module _ (policy : Policy) (talk : List Saying) where
  ask_none : AllAsk policy talk []
  ask_none identifier peer flags options is = elim is [ ]

  ask_both : (xs ys : List Saying) → AllAsk policy talk xs → AllAsk policy talk ys → AllAsk policy talk (xs ++ ys)
  ask_both xs ys one other identifier peer flags options is = by (stands-either (is_wish identifier peer flags options) xs ys is)
    where
      by : StandsIn (is_wish identifier peer flags options) xs ⊎ StandsIn (is_wish identifier peer flags options) ys → IsForFirst policy talk peer flags options
      by (inl left) = one identifier peer flags options left
      by (inr right) = other identifier peer flags options right

  ask_other : (said : Saying) → ((command : Command) → said ≡ spoken command → ⊥) → AllAsk policy talk (said ∷ [])
  ask_other said apart identifier peer flags options (inl same) = absurd (apart _ same)
  ask_other said apart identifier peer flags options (inr none) = elim none [ ]

  ask_content : (identifier : ℕ) (content : Content) → ((peer flags : ℕ) (options : List ℕ) → content ≡ configuration_request peer flags options → ⊥) → AllAsk policy talk (spoken (command_with identifier content) ∷ [])
  ask_content n content apart identifier peer flags options (inl same) = absurd (apart peer flags options (ap (λ (c : Command). c.content) (command_same (command_with n content) (command_with identifier (configuration_request peer flags options)) same)))
  ask_content n content apart identifier peer flags options (inr none) = elim none [ ]

  -- what waits is for the first ones
  for_first : (w : Channels) → Sound policy (reading talk) w → AllFirst policy w → (own peer : ℕ) (held : Held) (setup : Setup) (request : Request) (options : Options) → held_at own w ≡ Some held → setup_of held.stage ≡ Some setup → peer_of held.stage ≡ Some peer → setup.own ≡ Asking request options
      → IsForFirst policy talk peer 0 (written options)
  for_first w sound all own peer held setup request options at has to is = by (read_at own (reading talk).entries) refl (subst (λ p. ReadsBy policy held p (read_at own (reading talk).entries)) to (subst (λ h. Reads policy h (read_at own (reading talk).entries)) at (sound.core.reads own)))
    where
      first : FirstOwn policy held.psm held.own peer (Asking request options)
      first = subst (FirstOwn policy held.psm held.own peer) is (setup-so (IsFirst policy) held setup (found-so policy (IsFirst policy) (first-stays policy) own w held all at) has peer to)

      by : (found : Option Entry) → read_at own (reading talk).entries ≡ found → ReadsBy policy held (Some peer) found → IsForFirst policy talk peer 0 (written options)
      by None found reads = elim reads [ ]
      by (Some entry) found (there, agrees) = record {
        own = own;
        channel = channel_by held.psm held.own peer;
        has = subst (IsOf (channel_by held.psm held.own peer)) (sym found) there.channel_is;
        peer_is = refl;
        flags_are = refl;
        octets_are = ap written first;
      }

  pub own-words : (w : Channels) → Sound policy (reading talk) w → AllFirst policy w → Words w (AllAsk policy talk)
  own-words w sound all = record {
    none = ask_none;
    both = ask_both;
    calls = λ own held request at is. ask_content request.identifier (connection_request held.psm held.own) (λ peer flags options same. cc);
    wishes = λ own peer held setup request options at has to is. wished request.identifier peer (written options) (for_first w sound all own peer held setup request options at has to is);
    ends = λ identifier peer own. ask_content identifier (disconnection_request peer own) (λ other flags options same. cc);
    asks = λ request is. ask_content request.identifier (information_request 2) (λ peer flags options same. cc);
    lets_call = λ identifier own. ask_other (GaveUp (sayings.Connection identifier own)) (λ command same. cc);
    lets_end = λ own peer. ask_other (GaveUp (sayings.Disconnection own peer)) (λ command same. cc);
  }
    where
      wished : (n to : ℕ) (octets : List ℕ) → IsForFirst policy talk to 0 octets → AllAsk policy talk (is_wish n to 0 octets ∷ [])
      wished n to octets first identifier peer flags options (inr none) = elim none [ ]
      wished n to octets first identifier peer flags options (inl same) =
          let it : configuration_request to 0 octets ≡ configuration_request peer flags options = ap (λ (c : Command). c.content) (command_same (command_with n (configuration_request to 0 octets)) (command_with identifier (configuration_request peer flags options)) same) in
          let to_is : to ≡ peer = cc in
          let flags_are : 0 ≡ flags = cc in
          let octets_are : octets ≡ options = cc in
          subst (λ o. IsForFirst policy talk peer flags o) octets_are (subst (λ f. IsForFirst policy talk peer f octets) flags_are (subst (λ p. IsForFirst policy talk p 0 octets) to_is first))

  -- a reply is no request
  ask_exchanged : (v : Channels) (one : Read) (identifier : ℕ) (response : Option Content) → IsReply response → AllAsk policy talk (exchanged one (command_if identifier response) v)
  ask_exchanged v one n response reply = by (can_say (option_map (λ (c : Command). c.content) (command_if n response)) v)
    where
      replied : (given : Option Content) → IsReply given → AllAsk policy talk (sayings.Command Into one ∷ map spoken (option_to_list (command_if n given)))
      replied None is identifier peer flags options (inl same) = cc
      replied None is identifier peer flags options (inr none) = elim none [ ]
      replied (Some content) is identifier peer flags options (inl same) = cc
      replied (Some content) is identifier peer flags options (inr later) =
          ask_content n content (λ to f o same. let never : false ≡ true = sym (ap is_response same) ∙ is in cc) identifier peer flags options later

      by : (b : Bool) → AllAsk policy talk (cond b (sayings.Command Into one ∷ map spoken (option_to_list (command_if n response))) [])
      by true = replied response reply
      by false = ask_none

  ask_features : (before after : Option Request) → AllAsk policy talk (features_given_up before after)
  ask_features None after = ask_none
  ask_features (Some request) None = ask_other _ (λ c same. cc)
  ask_features (Some request) (Some other) = ask_none

  ask_sent : (carrier : Option Carrier) (peer : ℕ) (sdu : List ℕ) → AllAsk policy talk (said_by_carrier carrier peer sdu)
  ask_sent None peer sdu = ask_none
  ask_sent (Some (Plain agreed None)) peer sdu = ask_other _ (λ c same. cc)
  ask_sent (Some (Plain agreed (Some waiting))) peer sdu = ask_none
  ask_sent (Some (Retransmitting machine)) peer sdu = ask_none

  ask_given : (given : Option Given) (pdu : List ℕ) → AllAsk policy talk (said_as given pdu)
  ask_given None pdu = ask_none
  ask_given (Some (Signal command)) pdu = ask_none
  ask_given (Some (Whole other sdu)) pdu = ask_none
  ask_given (Some (Framed other frame)) pdu = ask_other _ (λ c same. cc)

  ask_single : (more : Occurrence) (v : Channels) → is_single more ≡ true → Words (value_after policy more v) (AllAsk policy talk) → AllAsk policy talk (said_in policy more v)
  ask_single (Comes pdu) v is words = cc
  ask_single (Connects psm) v is words = words-asked (connected psm v) (AllAsk policy talk) words v
  ask_single AsksFeatures v is words = words-asked (asks_features v) (AllAsk policy talk) words v
  ask_single (Disconnects own) v is words = words-left (disconnected own v) (AllAsk policy talk) words own v
  ask_single (Sends own sdu) v is words = ask_sent (carrier_at own v) _ sdu
  ask_single (Gives pdu) v is words = ask_given (next_given v) pdu
  ask_single Fires v is words = cc
  ask_single Tells v is words = ask_none

-- ---- while nothing is suggested

abbrev Asks : Policy → List Saying → Channels → Type 0
Asks policy past v = SuggestsNone past → AllFirst policy v × AllAsk policy past past

goes_on : (policy : Policy) (past said : List Saying) (v w : Channels) → (SuggestsNone said → AllFirst policy v → AllFirst policy w) → (Words w (AllAsk policy (past ++ said)) → AllAsk policy (past ++ said) said)
    → Asks policy past v → Sound policy (reading (past ++ said)) w → Asks policy (past ++ said) w
goes_on policy past said v w keeps asks before sound none = (all, ask_both policy (past ++ said) past said old (asks (own-words policy (past ++ said) w sound all)))
  where
    was : AllFirst policy v × AllAsk policy past past
    was = before (λ identifier own flags options stands. none identifier own flags options (stands-left _ past said stands))

    all : AllFirst policy w
    all = keeps (λ identifier own flags options stands. none identifier own flags options (stands-right _ past said stands)) was.0

    old : AllAsk policy (past ++ said) past
    old identifier peer flags options stands = more-first policy past said peer flags options (was.1 identifier peer flags options stands)

converses : (policy : Policy) → Converses policy (λ v. Unit {0}) (Asks policy)
converses policy = record {
  first = tt;
  kept = λ v more lone known. tt;
  asked = λ past v u one identifier response content asking reply alike waits before holds after.
      let w : Channels = follows policy content u in
      let said : List Saying = exchanged one (command_if identifier response) v ++ asked_between v w in
      goes_on policy past said v w (λ none all. follows-so policy (IsFirst policy) (first-stays policy) content u (λ psm peer. tt) (subst (AllByRecursion (HeldOf (IsFirst policy))) (sym alike.held_is) all))
      (λ words. ask_both policy (past ++ said) (exchanged one (command_if identifier response) v) (asked_between v w) (ask_exchanged policy (past ++ said) v one identifier response reply) (words-asked w (AllAsk policy (past ++ said)) words v))
      holds after;
  answered = λ past v identifier content is before holds after.
      let w : Channels = hears_content policy identifier content v in
      let one : Read = Ok (command_with identifier content) in
      let said : List Saying = exchanged one None v ++ asked_between v w in
      goes_on policy past said v w
      (λ none all. answered-so policy (IsFirst policy) (first-stays policy) identifier content v is (λ own flags options same. none identifier own flags options (inl (ap (λ c. sayings.Command Into (Ok (command_with identifier c))) same))) (λ held request found made peer. refl) all)
      (λ words. ask_both policy (past ++ said) (exchanged one None v) (asked_between v w) (ask_exchanged policy (past ++ said) v one identifier None tt) (words-asked w (AllAsk policy (past ++ said)) words v))
      holds after;
  taken = λ past v pdu known before holds after.
      let w : Channels = takes (channel_of pdu) pdu v in
      let said : List Saying = Carried Into pdu ∷ asked_between v w in
      goes_on policy past said v w (λ none all. taken-so policy (IsFirst policy) (first-stays policy) (channel_of pdu) pdu v all)
      (λ words. ask_both policy (past ++ said) (Carried Into pdu ∷ []) (asked_between v w) (ask_other policy (past ++ said) (Carried Into pdu) (λ c same. cc)) (words-asked w (AllAsk policy (past ++ said)) words v)) holds after;
  waits = λ past v tries own before holds after.
      let w : Channels = times_held (held_at own v) tries v in
      let said : List Saying = said_on_firing own v w in
      goes_on policy past said v w (λ none all. times-so policy (IsFirst policy) (first-stays policy) tries own v all) (λ words. words-firing w (AllAsk policy (past ++ said)) words own v) holds after;
  ends = λ past v tries own before holds after.
      let w : Channels = times_end (held_at own v) tries v in
      let said : List Saying = said_on_firing own v w in
      goes_on policy past said v w (λ none all. ends-so policy (IsFirst policy) (first-stays policy) tries own v all) (λ words. words-firing w (AllAsk policy (past ++ said)) words own v) holds after;
  loses = λ past v tries before holds after.
      let w : Channels = times_features v.features tries v in
      let said : List Saying = said_by_features tries v in
      goes_on policy past said v w (λ none all. features-so policy (IsFirst policy) (first-stays policy) tries v all)
      (λ words. ask_both policy (past ++ said) (said_again errands.Features v w) (features_given_up v.features w.features) (words-again w (AllAsk policy (past ++ said)) words errands.Features v) (ask_features policy (past ++ said) v.features w.features)) holds after;
  single = λ past v more is known before holds after.
      let w : Channels = value_after policy more v in
      let said : List Saying = said_in policy more v in
      goes_on policy past said v w (λ none all. single-so policy (IsFirst policy) (first-stays policy) v more is all) (λ words. ask_single policy (past ++ said) more v is words) holds after;
}

pub asks-so : (policy : Policy) (list : List Occurrence) → SuggestsNone (run_of policy list).said → AllFirst policy (run_of policy list).value × AllAsk policy (run_of policy list).said (run_of policy list).said
asks-so policy list none = conversed policy (λ v. Unit {0}) (Asks policy) (converses policy) (λ none. (tt, λ identifier peer flags options is. elim is [ ])) list none

pub first-options_are_asked : FirstOptionsAreAsked
first-options_are_asked policy list none identifier peer flags options stands = (asks-so policy list none).1 identifier peer flags options stands
