-- The mode that a host asks for, of a channel that is there, is the one that it wishes.
use Rattle.std.proofs.Common.{◌≡◌, ◌⊎◌, inl, inr, ℕ, List, [], ◌∷◌, ◌++◌, map, Bool, true, false, cond, eqb, not, ◌&&◌, Option, Some, None, Ok, Err, refl, sym, ap, subst, ◌∙◌, append_assoc, append-nil}
use Rattle.std.specs.Prelude.{nat_le, unwrap_or, option_map, option_to_list, is_some}
use Rattle.std.specs.Option.{option_or}
use Rattle.std.specs.List.{list_any}
use Rattle.std.proofs.lemmas.Bool.{and_parts, eqb-true}
use Rattle.own_channel_laws.specs.talk_laws.specs.acl_fragments.specs.Pieces.{channel_of}
use Rattle.own_channel_laws.specs.talk_laws.specs.capture.specs.declared.flow.Flow.TheVariants.{Out, Into}
use Rattle.own_channel_laws.specs.talk_laws.specs.l2cap_signal.specs.Commands.{Content, Command as Signal_command, reject, connection_request, connection_response, configuration_request, configuration_response, disconnection_request, disconnection_response, echo_request, echo_response, information_request, information_response}
use Rattle.own_channel_laws.specs.talk_laws.specs.l2cap_signal.specs.Reading.{Answer as Read}
use Rattle.own_channel_laws.specs.talk_laws.specs.l2cap_signal.specs.declared.refusal.SignalRefusal.TheVariants.{ZeroIdentifier, BadLength, UnknownCode, AboveMtu}
use Rattle.own_channel_laws.specs.talk_laws.specs.l2cap_config.specs.declared.options.Options.{Options}
use Rattle.own_channel_laws.specs.talk_laws.specs.l2cap_config.specs.declared.wish.Mode.{Mode}
use Rattle.own_channel_laws.specs.talk_laws.specs.l2cap_config.specs.declared.wish.Mode.TheVariants.{Basic, Enhanced}
use Rattle.own_channel_laws.specs.talk_laws.specs.l2cap_config.specs.declared.wish.Wish.{Wish}
use Rattle.own_channel_laws.specs.talk_laws.specs.l2cap_config.specs.Reading.{options_read}
use Rattle.own_channel_laws.specs.talk_laws.specs.l2cap_config.specs.Writing.{written}
use Rattle.own_channel_laws.specs.talk_laws.specs.link_talk.specs.declared.channel.Channel.{Channel}
use Rattle.own_channel_laws.specs.talk_laws.specs.link_talk.specs.declared.call.Wanted.{Wanted}
use Rattle.own_channel_laws.specs.talk_laws.specs.link_talk.specs.Sayings.{Saying, Command, Carried}
use Rattle.own_channel_laws.specs.talk_laws.specs.link_talk.specs.Senses.{Asks, Quiet, Unread, sense}
use Rattle.own_channel_laws.specs.talk_laws.specs.link_talk.specs.Requests.{Requests, answered_call, answered_query, has_failed}
use Rattle.own_channel_laws.specs.talk_laws.specs.link_talk.specs.Requests.{Terms}
use Rattle.own_channel_laws.specs.talk_laws.specs.link_talk.specs.Meanings.{Part, Meaning, Makes, Answers, Wishes, Settles, Parts, Nothing, granted, answered, meant, is_read}
use Rattle.own_channel_laws.specs.talk_laws.specs.link_talk.specs.Setups as read
use Rattle.own_channel_laws.specs.talk_laws.specs.link_talk.specs.Setups.{mode_in, is_set, is_enhanced, with_answer, setup_after, term, Wished, Answered}
use Rattle.own_channel_laws.specs.talk_laws.specs.link_talk.specs.Channels.{word, Entry, fresh, entry_after, entries_after, is_there, is_owner, made_by, Reading, reading}
use Rattle.own_channel_laws.specs.channel_model.specs.declared.errand.Errand.TheVariants as errands
use Rattle.own_channel_laws.specs.channel_model.specs.Value.{Request, Asking, Carrier, Plain, Retransmitting, Setup, Held, Channels}
use Rattle.own_channel_laws.specs.channel_model.specs.Policies.{Policy}
use Rattle.own_channel_laws.specs.channel_model.specs.Changing.{held_at, setup_of}
use Rattle.own_channel_laws.specs.channel_model.specs.Carrying.{takes}
use Rattle.own_channel_laws.specs.channel_model.specs.Following.{follows, can_say}
use Rattle.own_channel_laws.specs.channel_model.specs.Giving.{Given, Signal, Whole, Framed, next_given}
use Rattle.own_channel_laws.specs.channel_model.specs.Hearing.{hears_content}
use Rattle.own_channel_laws.specs.channel_model.specs.Timing.{times_held, times_end, times_features}
use Rattle.own_channel_laws.specs.channel_model.specs.Calls.{carrier_at, connected, asks_features, disconnected}
use Rattle.own_channel_laws.specs.CheckWords.{IsEnhancedAt, CheckWordsAreWished}
use Rattle.own_channel_laws.specs.Endpoints.{IsOf}
use Rattle.own_channel_laws.specs.OwnTalk.{spoken, command_with, command_if, exchanged, asked_between}
use Rattle.own_channel_laws.specs.Runs.{Occurrence, Comes, Connects, AsksFeatures, Disconnects, Sends, Gives, Fires, Tells, peer_at, features_given_up, said_again, said_on_firing, said_by_carrier, said_as, said_by_features, said_in, value_after, Run, run_of}
use Rattle.own_channel_laws.specs.Views.{peer_of, is_checked_by, read_at}
use Rattle.own_channel_laws.proofs.Agreeing.{requested-so, wish_states}
use Rattle.channel_laws.proofs.Bestowing.{still_of}
use Rattle.own_channel_laws.proofs.CheckWords.{checked, held_checks}
use Rattle.own_channel_laws.proofs.Conversing.{reading-on, conversed}
use Rattle.own_channel_laws.proofs.Converses.{is_single, Goes, Converses}
use Rattle.own_channel_laws.proofs.Entries.{makes-fresh, read-after, read-append, there-before}
use Rattle.own_channel_laws.proofs.Holding.{is-read}
use Rattle.own_channel_laws.proofs.Origins.{makes-it}
use Rattle.own_channel_laws.proofs.Replying.{is_response, IsReply}
use Rattle.own_channel_laws.proofs.Running.{all-sound}
use Rattle.own_channel_laws.proofs.Sound.{states_mode, OwnStates, ReadsBy, Reads, Sound, some-of_map}
use Rattle.own_channel_laws.proofs.Wishing.{IsNamed, setup_wishes, sound-named}
use Rattle.own_channel_laws.proofs.Words.{Words, words-asked, words-left, words-again, words-firing}

-- ---- what is asked of a channel

-- the mode that its host wishes
abbrev IsWish : Policy → Entry → Type 0
IsWish policy entry = (mode : Mode) → entry.setup.asked ≡ Some mode → (policy.wish entry.channel.psm).mode ≡ mode

abbrev IsWishIfThere : Policy → Entry → Type 0
IsWishIfThere policy entry = is_there entry.life ≡ true → IsWish policy entry

-- what is read at an endpoint
abbrev WishAt : Policy → ℕ → Reading → Type 0
WishAt policy n r = (entry : Entry) → read_at n r.entries ≡ Some entry → IsWishIfThere policy entry

-- something of what is read goes on with a meaning
pub goes_on : (P : Entry → Type 0) → ((channel : Channel) → P (fresh channel)) → (n : ℕ) (entries : List Entry) (m : Meaning) → ((x : Entry) → read_at n entries ≡ Some x → P x) → ((x : Entry) → read_at n entries ≡ Some x → P (entry_after m x))
    → (entry : Entry) → read_at n (entries_after entries m) ≡ Some entry → P entry
goes_on P first n entries m was goes entry at = by (made_by m) refl
  where
    fresh_or : (channel : Channel) (old : Option Entry) → read_at n entries ≡ old → (same : Bool) → option_or old (cond same (Some (fresh channel)) None) ≡ Some entry → P entry
    fresh_or channel (Some x) found same one = was entry (found ∙ one)
    fresh_or channel None found true one = let it : fresh channel ≡ entry = cc in subst P it (first channel)
    fresh_or channel None found false one = cc

    owned : (channel : Channel) (taken : Bool) → read_at n (cond taken entries (entries ++ fresh channel ∷ [])) ≡ Some entry → P entry
    owned channel true found = was entry found
    owned channel false found = fresh_or channel (read_at n entries) refl (eqb channel.own n) (sym (read-append n entries channel) ∙ found)

    by : (found : Option Channel) → made_by m ≡ found → P entry
    by None none = let (x, there, is) = some-of_map (entry_after m) (read_at n entries) entry (sym (read-after m entries n none) ∙ at) in subst P is (goes x there)
    by (Some channel) makes = owned channel (list_any (is_owner channel) entries) (sym (ap (read_at n) (ap (entries_after entries) (makes-it m channel makes) ∙ makes-fresh channel entries)) ∙ at)

-- ---- sayings that ask for no options

abbrev pub is_wishes : Meaning → Bool
is_wishes (Makes channel) = false
is_wishes (Answers part) = false
is_wishes (Wishes identifier peer options) = true
is_wishes (Settles identifier own) = false
is_wishes (Parts said own peer) = false
is_wishes Nothing = false

pub asked_same : (x : Entry) (m : Meaning) → is_wishes m ≡ false → (entry_after m x).setup.asked ≡ x.setup.asked
asked_same x m mild = by m mild
  where
    still : (there : Bool) (setup : read.Setup) → setup.asked ≡ x.setup.asked → (cond there setup x.setup).asked ≡ x.setup.asked
    still true setup same = same
    still false setup same = refl

    answer : (part : Part) (accepted more : Bool)
        → (cond accepted (cond more (record x.setup { parts = x.setup.parts ++ part.options }) (record x.setup { parts = []; accepted = Some (unwrap_or (mode_in (x.setup.parts ++ part.options)) Basic) })) (record x.setup { parts = [] })).asked ≡ x.setup.asked
    answer part false more = refl
    answer part true true = refl
    answer part true false = refl

    set : (b : Bool) (part : Part) → (cond b x.setup (with_answer x.setup part)).asked ≡ x.setup.asked
    set true part = refl
    set false part = answer part part.accepted part.more

    named : (b : Bool) (part : Part) → (setup_after x.setup (cond b (Some (Answered part)) None)).asked ≡ x.setup.asked
    named true part = set (is_set x.setup) part
    named false part = refl

    by : (m : Meaning) → is_wishes m ≡ false → (entry_after m x).setup.asked ≡ x.setup.asked
    by (Makes channel) is = still (is_there x.life) x.setup refl
    by (Answers part) is = still (is_there x.life) _ (named (eqb part.own x.channel.own && eqb part.peer x.channel.peer) part)
    by (Wishes identifier peer options) is = cc
    by (Settles identifier own) is = still (is_there x.life) x.setup refl
    by (Parts said own peer) is = still (is_there x.life) x.setup refl
    by Nothing is = still (is_there x.life) x.setup refl

abbrev pub IsMild : Saying → Type 0
IsMild s = (asked : Requests) → is_wishes (meant asked (sense s)) ≡ false

mild_if : (b : Bool) (m : Meaning) → is_wishes m ≡ false → is_wishes (cond b m Nothing) ≡ false
mild_if true m is = is
mild_if false m is = refl

mild_unless : (b : Bool) (m : Meaning) → is_wishes m ≡ false → is_wishes (cond b Nothing m) ≡ false
mild_unless true m is = refl
mild_unless false m is = is

granted_mild : (own peer : ℕ) (wanted : Option Wanted) → is_wishes (granted own peer wanted) ≡ false
granted_mild own peer None = refl
granted_mild own peer (Some wanted) = refl

answered_mild : (peer flags answer : ℕ) (terms : Option Terms) → is_wishes (answered peer flags answer terms) ≡ false
answered_mild peer flags answer None = refl
answered_mild peer flags answer (Some terms) = refl

pub heard_mild : (one : Read) → IsMild (Command Into one)
heard_mild (Ok command) asked = by command.content
  where
    by : (content : Content) → is_wishes (meant asked (sense (Command Into (Ok (command_with command.identifier content))))) ≡ false
    by (reject reason rest) = refl
    by (connection_request psm source) = refl
    by (connection_response destination source answer status) =
        mild_if (eqb answer 0 && nat_le 0x0040 destination) _ (mild_unless (has_failed asked command.identifier source) _ (granted_mild source destination (answered_call asked Out command.identifier source)))
    by (configuration_request destination flags options) = refl
    by (configuration_response source flags answer options) = mild_if (is_read (options_read options) && not (eqb answer 4)) (Settles command.identifier source) refl
    by (disconnection_request destination source) = refl
    by (disconnection_response destination source) = refl
    by (echo_request octets) = refl
    by (echo_response octets) = refl
    by (information_request kind) = refl
    by (information_response kind answer rest) = refl
heard_mild (Err (ZeroIdentifier code identifier)) asked = refl
heard_mild (Err (BadLength code None)) asked = refl
heard_mild (Err (BadLength code (Some identifier))) asked = by (eqb identifier 0)
  where
    by : (zero : Bool) → is_wishes (meant asked (cond zero Quiet (Asks Into identifier (Unread code)))) ≡ false
    by true = refl
    by false = refl
heard_mild (Err (UnknownCode code identifier)) asked = refl
heard_mild (Err (AboveMtu code identifier)) asked = refl

-- nor does a response
pub spoken_mild : (identifier : ℕ) (content : Content) → is_response content ≡ true → IsMild (spoken (command_with identifier content))
spoken_mild identifier (reject reason rest) is asked = refl
spoken_mild identifier (connection_request psm source) is asked = cc
spoken_mild identifier (connection_response destination source answer status) is asked = mild_if (eqb answer 0 && nat_le 0x0040 destination) _ (granted_mild destination source (answered_call asked Into identifier source))
spoken_mild identifier (configuration_request destination flags options) is asked = cc
spoken_mild identifier (configuration_response source flags answer options) is asked = answered_mild source flags answer (answered_query asked identifier)
spoken_mild identifier (disconnection_request destination source) is asked = cc
spoken_mild identifier (disconnection_response destination source) is asked = refl
spoken_mild identifier (echo_request octets) is asked = cc
spoken_mild identifier (echo_response octets) is asked = refl
spoken_mild identifier (information_request kind) is asked = cc
spoken_mild identifier (information_response kind answer rest) is asked = refl

-- ---- what is said on the way to all of it

-- there is a channel, behind all that is said
abbrev IsThereAt : ℕ → List Saying → Type 0
IsThereAt n all = (final : Entry) × (read_at n (reading all).entries ≡ Some final) × (is_there final.life ≡ true)

abbrev AreWishes : Policy → (all past : List Saying) → Type 0
AreWishes policy all past = (n : ℕ) → IsThereAt n all → WishAt policy n (reading past)

abbrev Within : (front all : List Saying) → Type 0
Within front all = (rest : List Saying) × (front ++ rest ≡ all)

-- what is said of these channels on the way to all that is said of them
abbrev Keeps : Policy → Channels → List Saying → Type 0
Keeps policy w said = (past all : List Saying) → Within (past ++ said) all → Sound policy (reading all) w → AreWishes policy all past → AreWishes policy all (past ++ said)

none_keeps : (policy : Policy) (w : Channels) → Keeps policy w []
none_keeps policy w past all within sound wishes = subst (AreWishes policy all) (sym (append-nil past)) wishes

both_keep : (policy : Policy) (w : Channels) (xs ys : List Saying) → Keeps policy w xs → Keeps policy w ys → Keeps policy w (xs ++ ys)
both_keep policy w xs ys one two past all (rest, is) sound wishes =
    let later : ((past ++ xs) ++ ys) ++ rest ≡ all = ap (λ (l : List Saying). l ++ rest) (append_assoc past xs ys) ∙ is in
    let earlier : (past ++ xs) ++ (ys ++ rest) ≡ all = sym (append_assoc (past ++ xs) ys rest) ∙ later in
    subst (AreWishes policy all) (append_assoc past xs ys) (two (past ++ xs) all (rest, later) sound (one past all (ys ++ rest, earlier) sound wishes))

one_keeps : (policy : Policy) (w : Channels) (s : Saying) → IsMild s → Keeps policy w (s ∷ [])
one_keeps policy w s mild past all within sound wishes n there entry at =
    let m : Meaning = meant (reading past).requests (sense s) in
    goes_on (IsWishIfThere policy) (λ channel live mode is. cc) n (reading past).entries m (wishes n there)
    (λ x found live mode is. wishes n there x found (there-before x.life (word x.channel m) live) mode (sym (asked_same x m (mild (reading past).requests)) ∙ is)) entry
    (sym (ap (λ (q : Reading). read_at n q.entries) (reading-on past (s ∷ []))) ∙ at)

-- ---- a request for options

some_same : (a b : Mode) → Some a ≡ Some b → a ≡ b
some_same a b is = cc

module _ (policy : Policy) (w : Channels) (own peer : ℕ) (held : Held) (setup : Setup) (request : Request) (options : Options) (at_own : held_at own w ≡ Some held) (has : setup_of held.stage ≡ Some setup) (to : peer_of held.stage ≡ Some peer) (is_own : setup.own ≡ Asking request options) where
  abbrev wish_saying : Saying
  wish_saying = spoken (command_with request.identifier (configuration_request peer 0 (written options)))

  -- a channel of this endpoint of the peer is that of the request
  psm_same : (all : List Saying) (n : ℕ) (final : Entry) → Sound policy (reading all) w → read_at n (reading all).entries ≡ Some final → is_there final.life ≡ true → final.channel.peer ≡ peer → final.channel.psm ≡ held.psm
  psm_same all n final sound found there peer_is =
      let talks = (setup_wishes held.stage setup peer request options has to is_own).0 in
      let named : IsNamed (reading all).entries own peer = (sound-named policy all w sound).named own peer held at_own talks in
      let same : own ≡ n = sound.core.apart own n named.entry final named.found found named.there there (named.peer_is ∙ sym peer_is) in
      let here : read_at own (reading all).entries ≡ Some final = ap (λ (k : ℕ). read_at k (reading all).entries) same ∙ found in
      let reads : Reads policy (Some held) (Some final) = subst (Reads policy (Some held)) here (subst (λ h. Reads policy h (read_at own (reading all).entries)) at_own (sound.core.reads own)) in
      let by : ReadsBy policy held (Some peer) (Some final) = subst (λ p. ReadsBy policy held p (Some final)) to reads in
      ap (λ (c : Channel). c.psm) by.0.channel_is

  wish_keeps : Keeps policy w (wish_saying ∷ [])
  wish_keeps past all (rest, is) sound wishes n (final, at_final, there) entry at =
      goes_on (IsWishIfThere policy) (λ channel live mode is. cc) n (reading past).entries (Wishes request.identifier peer (written options)) (wishes n (final, at_final, there)) goes entry
      (sym (ap (λ (q : Reading). read_at n q.entries) (reading-on past (wish_saying ∷ []))) ∙ at)
    where
      wish : Wish
      wish = policy.wish held.psm

      states : mode_in (written options) ≡ states_mode wish.mode
      states = requested-so wish options (subst (OwnStates wish) is_own (is-read policy all w own held setup at_own has sound).agrees.states)

      final_is : (x : Entry) → read_at n (reading past).entries ≡ Some x → final.channel ≡ x.channel
      final_is x found =
          let whole : past ++ (wish_saying ∷ rest) ≡ all = sym (append_assoc past (wish_saying ∷ []) rest) ∙ is in
          subst (IsOf x.channel) at_final (subst (λ (l : List Saying). IsOf x.channel (read_at n (reading l).entries)) whole (still_of past (wish_saying ∷ rest) n x.channel (subst (IsOf x.channel) (sym found) refl)))

      goes : (x : Entry) → read_at n (reading past).entries ≡ Some x → IsWishIfThere policy (entry_after (Wishes request.identifier peer (written options)) x)
      goes x found live mode = on (is_there x.life) refl (eqb peer x.channel.peer) refl
        where
          before : is_there x.life ≡ true → IsWish policy x
          before lives = wishes n (final, at_final, there) x found lives

          lives_now : is_there x.life ≡ true
          lives_now = there-before x.life (word x.channel (Wishes request.identifier peer (written options))) live

          either : (asked : Option Mode) → x.setup.asked ≡ asked → (psm : x.channel.psm ≡ held.psm) → (x.setup.asked ≡ None) ⊎ (x.setup.asked ≡ Some wish.mode)
          either None none psm = inl none
          either (Some m) some psm = inr (some ∙ ap Some (sym (ap (λ (k : ℕ). (policy.wish k).mode) (sym psm) ∙ before lives_now m some)))

          set : (b : Bool) → x.channel.psm ≡ held.psm → (cond b x.setup (read.with_wish x.setup (written options))).asked ≡ Some mode → (policy.wish x.channel.psm).mode ≡ mode
          set true psm now = before lives_now mode now
          set false psm now = ap (λ (k : ℕ). (policy.wish k).mode) psm ∙ some_same wish.mode mode (sym (wish_states wish.mode (written options) x.setup.asked states (either x.setup.asked refl psm)) ∙ now)

          on : (lives : Bool) → is_there x.life ≡ lives → (same : Bool) → eqb peer x.channel.peer ≡ same → (cond lives (setup_after x.setup (cond same (Some (Wished (written options))) None)) x.setup).asked ≡ Some mode → (policy.wish x.channel.psm).mode ≡ mode
          on false none same is now = before lives_now mode now
          on true live false is now = before lives_now mode now
          on true live true is now =
              let ends : final.channel ≡ x.channel = final_is x found in
              let psm : final.channel.psm ≡ held.psm = psm_same all n final sound at_final there (ap (λ (c : Channel). c.peer) ends ∙ sym (eqb-true peer x.channel.peer is)) in
              set (is_set x.setup) (sym (ap (λ (c : Channel). c.psm) ends) ∙ psm) now

own_words : (policy : Policy) (w : Channels) → Words w (Keeps policy w)
own_words policy w = record {
  none = none_keeps policy w;
  both = both_keep policy w;
  calls = λ own held request at is. one_keeps policy w _ (λ asked. refl);
  wishes = λ own peer held setup request options at has to is. wish_keeps policy w own peer held setup request options at has to is;
  ends = λ identifier peer own. one_keeps policy w _ (λ asked. refl);
  asks = λ request is. one_keeps policy w _ (λ asked. refl);
  lets_call = λ identifier own. one_keeps policy w _ (λ asked. refl);
  lets_end = λ own peer. one_keeps policy w _ (λ asked. refl);
}

-- ---- each step

exchange_keeps : (policy : Policy) (w : Channels) (one : Read) (identifier : ℕ) (response : Option Content) (v : Channels) → IsReply response → Keeps policy w (exchanged one (command_if identifier response) v)
exchange_keeps policy w one identifier response v reply = by (can_say (option_map (λ (c : Signal_command). c.content) (command_if identifier response)) v) response reply
  where
    by : (can : Bool) (r : Option Content) → IsReply r → Keeps policy w (cond can (Command Into one ∷ map spoken (option_to_list (command_if identifier r))) [])
    by true None is = one_keeps policy w (Command Into one) (heard_mild one)
    by true (Some content) is = both_keep policy w (Command Into one ∷ []) (spoken (command_with identifier content) ∷ []) (one_keeps policy w (Command Into one) (heard_mild one)) (one_keeps policy w (spoken (command_with identifier content)) (spoken_mild identifier content is))
    by false r is = none_keeps policy w

asked_keeps : (policy : Policy) (v w : Channels) → Keeps policy w (asked_between v w)
asked_keeps policy v w = words-asked w (Keeps policy w) (own_words policy w) v

firing_keeps : (policy : Policy) (own : ℕ) (v w : Channels) → Keeps policy w (said_on_firing own v w)
firing_keeps policy own v w = words-firing w (Keeps policy w) (own_words policy w) own v

features_left : (policy : Policy) (w : Channels) (before after : Option Request) → Keeps policy w (features_given_up before after)
features_left policy w None after = none_keeps policy w
features_left policy w (Some request) None = one_keeps policy w _ (λ asked. refl)
features_left policy w (Some request) (Some other) = none_keeps policy w

carrier_keeps : (policy : Policy) (w : Channels) (carrier : Option Carrier) (peer : ℕ) (sdu : List ℕ) → Keeps policy w (said_by_carrier carrier peer sdu)
carrier_keeps policy w None peer sdu = none_keeps policy w
carrier_keeps policy w (Some (Plain agreed None)) peer sdu = one_keeps policy w _ (λ asked. refl)
carrier_keeps policy w (Some (Plain agreed (Some waiting))) peer sdu = none_keeps policy w
carrier_keeps policy w (Some (Retransmitting machine)) peer sdu = none_keeps policy w

given_keeps : (policy : Policy) (w : Channels) (given : Option Given) (pdu : List ℕ) → Keeps policy w (said_as given pdu)
given_keeps policy w None pdu = none_keeps policy w
given_keeps policy w (Some (Signal command)) pdu = none_keeps policy w
given_keeps policy w (Some (Whole peer sdu)) pdu = none_keeps policy w
given_keeps policy w (Some (Framed peer frame)) pdu = one_keeps policy w _ (λ asked. refl)

-- what holds between all that was said and the channels
abbrev Holds : Policy → List Saying → Channels → Type 0
Holds policy said v = (n : ℕ) → WishAt policy n (reading said)

finish : (policy : Policy) (past : List Saying) (v : Channels) (said : List Saying) (w : Channels) → Keeps policy w said → Goes policy (Holds policy) past v said w
finish policy past v said w keeps sound holds after n entry found there =
    keeps past (past ++ said) ([], append-nil (past ++ said)) after (λ k any. holds k) n (entry, found, there) entry found there

single_keeps : (policy : Policy) (v : Channels) (more : Occurrence) → is_single more ≡ true → Keeps policy (value_after policy more v) (said_in policy more v)
single_keeps policy v (Comes pdu) is = cc
single_keeps policy v (Connects psm) is = asked_keeps policy v (connected psm v)
single_keeps policy v AsksFeatures is = asked_keeps policy v (asks_features v)
single_keeps policy v (Disconnects own) is = let w : Channels = disconnected own v in words-left w (Keeps policy w) (own_words policy w) own v
single_keeps policy v (Sends own sdu) is = carrier_keeps policy (value_after policy (Sends own sdu) v) (carrier_at own v) (peer_at (held_at own v)) sdu
single_keeps policy v (Gives pdu) is = given_keeps policy (value_after policy (Gives pdu) v) (next_given v) pdu
single_keeps policy v Fires is = cc
single_keeps policy v Tells is = none_keeps policy (value_after policy Tells v)

talking : (policy : Policy) → Converses policy (λ v. Unit {0}) (Holds policy)
talking policy = record {
  first = tt;
  kept = λ v more lone known. tt;
  asked = λ past v u one identifier response content is reply alike waits.
      let w : Channels = follows policy content u in
      finish policy past v (exchanged one (command_if identifier response) v ++ asked_between v w) w (both_keep policy w (exchanged one (command_if identifier response) v) (asked_between v w) (exchange_keeps policy w one identifier response v reply) (asked_keeps policy v w));
  answered = λ past v identifier content is.
      let w : Channels = hears_content policy identifier content v in
      let one : Read = Ok (command_with identifier content) in
      finish policy past v (exchanged one None v ++ asked_between v w) w (both_keep policy w (exchanged one None v) (asked_between v w) (exchange_keeps policy w one identifier None v tt) (asked_keeps policy v w));
  taken = λ past v pdu known.
      let w : Channels = takes (channel_of pdu) pdu v in
      finish policy past v (Carried Into pdu ∷ asked_between v w) w (both_keep policy w (Carried Into pdu ∷ []) (asked_between v w) (one_keeps policy w (Carried Into pdu) (λ asked. refl)) (asked_keeps policy v w));
  waits = λ past v tries own. let w : Channels = times_held (held_at own v) tries v in finish policy past v (said_on_firing own v w) w (firing_keeps policy own v w);
  ends = λ past v tries own. let w : Channels = times_end (held_at own v) tries v in finish policy past v (said_on_firing own v w) w (firing_keeps policy own v w);
  loses = λ past v tries.
      let w : Channels = times_features v.features tries v in
      finish policy past v (said_by_features tries v) w
      (both_keep policy w (said_again errands.Features v w) (features_given_up v.features w.features) (words-again w (Keeps policy w) (own_words policy w) errands.Features v) (features_left policy w v.features w.features));
  single = λ past v more is known. finish policy past v (said_in policy more v) (value_after policy more v) (single_keeps policy v more is);
}

-- ---- whatever happens

asked_enhanced : (asked : Option Mode) → is_enhanced asked ≡ true → asked ≡ Some Enhanced
asked_enhanced None is = cc
asked_enhanced (Some Basic) is = cc
asked_enhanced (Some Enhanced) is = refl

pub check_words-are_wished : CheckWordsAreWished
check_words-are_wished policy list own looks = by (read_at own (reading run.said).entries) refl (sym (held_checks policy (held_at own run.value) (read_at own (reading run.said).entries) (sound.core.reads own)) ∙ looks)
  where
    run : Run
    run = run_of policy list

    sound : Sound policy (reading run.said) run.value
    sound = all-sound policy list

    by : (found : Option Entry) → read_at own (reading run.said).entries ≡ found → checked found ≡ true → IsEnhancedAt policy run own
    by None found is = cc
    by (Some entry) found is =
        let parts = and_parts (is_there entry.life) (is_checked_by entry.setup) is in
        let words = and_parts (is_some entry.setup.accepted) (is_enhanced entry.setup.asked) parts.1 in
        record {
          entry = entry;
          found = found;
          enhanced = conversed policy (λ v. Unit {0}) (Holds policy) (talking policy) (λ n x found. cc) list own entry found parts.0 Enhanced (asked_enhanced entry.setup.asked words.1);
        }
