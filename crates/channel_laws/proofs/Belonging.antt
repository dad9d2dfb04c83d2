-- A channel of one end of a link belongs to one of the other.
use Rattle.std.proofs.Common.{◌≡◌, ℕ, List, [], ◌∷◌, ◌++◌, map, drop, Bool, true, false, cond, eqb, Option, Some, None, Ok, refl, sym, ap, subst, ◌∙◌, ◌⊎◌, inl, inr, append_assoc, append-nil}
use Rattle.std.specs.Prelude.{find, option_map, option_to_list}
use Rattle.std.proofs.lemmas.List.Sums.{fold-append}
use Rattle.own_channel_laws.specs.talk_laws.specs.acl_fragments.specs.Pieces.{channel_of}
use Rattle.own_channel_laws.specs.talk_laws.specs.capture.specs.declared.flow.Flow.TheVariants.{Out, Into}
use Rattle.own_channel_laws.specs.talk_laws.specs.capture.specs.Histories.{EachAfter}
use Rattle.own_channel_laws.specs.talk_laws.specs.l2cap_signal.specs.Commands.{Content, Command, reject, connection_request, connection_response, configuration_request, configuration_response, disconnection_request, disconnection_response, echo_request, echo_response, information_request, information_response}
use Rattle.own_channel_laws.specs.talk_laws.specs.l2cap_config.specs.declared.options.Options.{Options}
use Rattle.own_channel_laws.specs.talk_laws.specs.l2cap_config.specs.Agreement.{requested}
use Rattle.own_channel_laws.specs.talk_laws.specs.l2cap_config.specs.Writing.{written}
use Rattle.own_channel_laws.specs.talk_laws.specs.link_talk.specs.declared.channel.Channel.{Channel}
use Rattle.own_channel_laws.specs.talk_laws.specs.l2cap_signal.specs.Reading.{Answer as Read, answers}
use Rattle.own_channel_laws.specs.talk_laws.specs.link_talk.specs.Sayings.{Saying, Carried, GaveUp}
use Rattle.own_channel_laws.specs.talk_laws.specs.link_talk.specs.Sayings as sayings
use Rattle.own_channel_laws.specs.talk_laws.specs.link_talk.specs.Channels.{Entry, Reading, reading}
use Rattle.own_channel_laws.specs.channel_model.specs.declared.errand.Errand.{Errand}
use Rattle.own_channel_laws.specs.channel_model.specs.declared.errand.Errand.TheVariants as errands
use Rattle.own_channel_laws.specs.channel_model.specs.Value.{Request, Queued, Answer, Ask, Asking, Setup, Stage, Requested, Connected, Leaving, Closing, Crossed, Carrier, Plain, Retransmitting, Held, Channels}
use Rattle.own_channel_laws.specs.channel_model.specs.Policies.{Policy}
use Rattle.own_channel_laws.specs.channel_model.specs.Changing.{held_at, setup_of}
use Rattle.own_channel_laws.specs.channel_model.specs.Calls.{has_fcs, connected, asks_features, disconnected}
use Rattle.own_channel_laws.specs.channel_model.specs.Carrying.{takes}
use Rattle.own_channel_laws.specs.channel_model.specs.Following.{can_say}
use Rattle.own_channel_laws.specs.channel_model.specs.Hearing.{hears_command}
use Rattle.own_channel_laws.specs.channel_model.specs.Timing.{times_held, times_end, times_features}
use Rattle.own_channel_laws.specs.channel_model.specs.Giving.{Given, Signal, Whole, Framed, command_of, some_carrier_gives, stage_gives, gives, held_gives, queue_gives, next_given}
use Rattle.own_channel_laws.specs.channel_model.specs.ertm_model.specs.Giving.{next_frame}
use Rattle.own_channel_laws.specs.OwnTalk.{spoken, command_with, exchanged, reply_to, asked_between, said_with, said_with_all}
use Rattle.own_channel_laws.specs.Runs.{Occurrence, Comes, Connects, AsksFeatures, Disconnects, Sends, Gives, Fires, Tells, features_given_up, said_again, said_on_firing, said_by_channel, fired_channel, said_by_channels, said_by_carrier, said_as, said_in, Run, run_of}
use Rattle.channel_laws.specs.Pairs.{End, Pair, new_pair, Happening, Acts, Puts, Takes, Repeats, Loses, Damages, is_alone, occurs, with_near, puts, let_go, takes_first, repeats_first, loses_first, damages_first, happens_near, Side, Near, Far, turned, Turn, happens_at, pair_after, pair_of}
use Rattle.channel_laws.specs.Ends.{end_at}
use Rattle.own_channel_laws.specs.Signals.{StandsIn}
use Rattle.channel_laws.specs.Belonging.{IsReadAs, IsRead, AreRead, said_at, is_pledge, PledgesWereSaid, Belongs, ChannelsBelong}
use Rattle.own_channel_laws.specs.Views.{peer_of, channel_by, read_at}
use Rattle.own_channel_laws.specs.Endpoints.{IsOf}
use Rattle.channel_laws.specs.Granted.{IsFor}
use Rattle.channel_laws.specs.Modes.{policy_of}
use Rattle.own_channel_laws.proofs.Naming.{said-of}
use Rattle.own_channel_laws.proofs.Conversing.{reading-on}
use Rattle.own_channel_laws.proofs.Replying.{is_response}
use Rattle.own_channel_laws.proofs.Sound.{OwnStates, Agrees, AgreesIf, standing-is, Reads, ReadsBy, Wants, WantsAt, wanted_by, Sound}
use Rattle.own_channel_laws.proofs.Running.{all-sound}
use Rattle.own_channel_laws.proofs.Words.{Words, words-errand, words-asked, words-again, words-left, words-firing}
use Rattle.own_channel_laws.proofs.Saying.{stands-left, stands-either, answers-are_said, answers-are_responses}
use Rattle.own_channel_laws.proofs.Origins.{Origin, answered-asked, entries-from}
use Rattle.channel_laws.proofs.Pairing.{each-end_runs}

-- ---- what a host hears

abbrev Hears : Command → List Saying → Type 0
Hears c said = StandsIn (sayings.Command Into (Ok c)) said

abbrev IsDeaf : Command → List Saying → Type 0
IsDeaf c said = Hears c said → ⊥

deaf_both : (c : Command) (xs ys : List Saying) → IsDeaf c xs → IsDeaf c ys → IsDeaf c (xs ++ ys)
deaf_both c xs ys one other is = by (stands-either (sayings.Command Into (Ok c)) xs ys is)
  where
    by : Hears c xs ⊎ Hears c ys → ⊥
    by (inl left) = one left
    by (inr right) = other right

deaf_said : (c other : Command) → IsDeaf c (spoken other ∷ [])
deaf_said c other (inl same) = cc
deaf_said c other (inr none) = none

own_words : (c : Command) (w : Channels) → Words w (IsDeaf c)
own_words c w = record {
  none = λ is. is;
  both = deaf_both c;
  calls = λ own held request at is. deaf_said c (command_with request.identifier (connection_request held.psm held.own));
  wishes = λ own peer held setup request options at has to is. deaf_said c _;
  ends = λ identifier peer own. deaf_said c (command_with identifier (disconnection_request peer own));
  asks = λ request is. deaf_said c (command_with request.identifier (information_request 2));
  lets_call = λ identifier own. lets (sayings.Connection identifier own);
  lets_end = λ own peer. lets (sayings.Disconnection own peer);
}
  where
    lets : (forgone : _) → IsDeaf c (GaveUp forgone ∷ [])
    lets forgone (inl same) = cc
    lets forgone (inr none) = none

deaf_features : (c : Command) (before after : Option Request) → IsDeaf c (features_given_up before after)
deaf_features c None after is = is
deaf_features c (Some request) None (inl same) = cc
deaf_features c (Some request) None (inr none) = none
deaf_features c (Some request) (Some other) is = is

deaf_fired : (c : Command) (tries : ℕ) (owns : List ℕ) (v : Channels) → IsDeaf c (said_by_channels tries owns v)
deaf_fired c tries [] v =
    let w : Channels = times_features v.features tries v in
    deaf_both c (said_again errands.Features v w) (features_given_up v.features w.features) (words-again w (IsDeaf c) (own_words c w) errands.Features v) (deaf_features c v.features w.features)
deaf_fired c tries (own ∷ owns) v =
    let between : Channels = times_held (held_at own v) tries v in
    let after : Channels = times_end (held_at own between) tries between in
    deaf_both c (said_by_channel tries own v) (said_by_channels tries owns (fired_channel tries own v))
    (deaf_both c (said_on_firing own v between) (said_on_firing own between after) (words-firing between (IsDeaf c) (own_words c between) own v) (words-firing after (IsDeaf c) (own_words c after) own between))
    (deaf_fired c tries owns (fired_channel tries own v))

-- of what comes in it hears what is read of it
heard_exchanged : (c : Command) (one : Read) (reply : Option Command) (v : Channels) → Hears c (exchanged one reply v) → one ≡ Ok c
heard_exchanged c one reply v = by (can_say (option_map (λ (r : Command). r.content) reply) v) reply
  where
    by : (can : Bool) (reply : Option Command) → Hears c (cond can (sayings.Command Into one ∷ map spoken (option_to_list reply)) []) → one ≡ Ok c
    by true None (inl same) = cc
    by true None (inr none) = elim none [ ]
    by true (Some other) (inl same) = cc
    by true (Some other) (inr later) = absurd (deaf_said c other later)
    by false reply none = elim none [ ]

heard_with : (policy : Policy) (c : Command) (list : List Read) (v : Channels) → Hears c (said_with_all policy list v) → StandsIn (Ok c) list
heard_with policy c [] v is = is
heard_with policy c (one ∷ list) v is = by (stands-either it (said_with policy one v) (said_with_all policy list after) is) (heard_with policy c list after)
  where
    it : Saying
    it = sayings.Command Into (Ok c)

    after : Channels
    after = hears_command policy one v

    first : Hears c (exchanged one (reply_to policy one v) v) ⊎ Hears c (asked_between v after) → StandsIn (Ok c) (one ∷ list)
    first (inl heard) = inl (heard_exchanged c one (reply_to policy one v) v heard)
    first (inr own) = absurd (words-asked after (IsDeaf c) (own_words c after) v own)

    by : Hears c (said_with policy one v) ⊎ Hears c (said_with_all policy list after) → (Hears c (said_with_all policy list after) → StandsIn (Ok c) list) → StandsIn (Ok c) (one ∷ list)
    by (inl now) behind = first (stands-either it (exchanged one (reply_to policy one v) v) (asked_between v after) now)
    by (inr later) behind = inr (behind later)

-- a PDU brings a command
abbrev Brings : List ℕ → Command → Type 0
Brings pdu c = (eqb (channel_of pdu) 0x0001 ≡ true) × StandsIn (Ok c) (answers (drop 4 pdu))

abbrev Causes : Occurrence → Command → Type 0
Causes (Comes pdu) c = Brings pdu c
Causes (Connects psm) c = ⊥
Causes AsksFeatures c = ⊥
Causes (Disconnects own) c = ⊥
Causes (Sends own sdu) c = ⊥
Causes (Gives pdu) c = ⊥
Causes Fires c = ⊥
Causes Tells c = ⊥

sent_deaf : (c : Command) (carrier : Option Carrier) (peer : ℕ) (sdu : List ℕ) → IsDeaf c (said_by_carrier carrier peer sdu)
sent_deaf c None peer sdu is = is
sent_deaf c (Some (Plain agreed None)) peer sdu (inl same) = cc
sent_deaf c (Some (Plain agreed None)) peer sdu (inr none) = none
sent_deaf c (Some (Plain agreed (Some waiting))) peer sdu is = is
sent_deaf c (Some (Retransmitting machine)) peer sdu is = is

given_deaf : (c : Command) (given : Option Given) (pdu : List ℕ) → IsDeaf c (said_as given pdu)
given_deaf c None pdu is = is
given_deaf c (Some (Signal command)) pdu is = is
given_deaf c (Some (Whole peer sdu)) pdu is = is
given_deaf c (Some (Framed peer frame)) pdu (inl same) = cc
given_deaf c (Some (Framed peer frame)) pdu (inr none) = none

heard_in : (policy : Policy) (more : Occurrence) (v : Channels) (c : Command) → Hears c (said_in policy more v) → Causes more c
heard_in policy (Comes pdu) v c heard = by (eqb (channel_of pdu) 1) refl heard
  where
    by : (signal : Bool) → eqb (channel_of pdu) 1 ≡ signal → Hears c (cond signal (said_with_all policy (answers (drop 4 pdu)) v) (Carried Into pdu ∷ asked_between v (takes (channel_of pdu) pdu v))) → Brings pdu c
    by true is heard = (is, heard_with policy c (answers (drop 4 pdu)) v heard)
    by false is (inl same) = cc
    by false is (inr own) = let w : Channels = takes (channel_of pdu) pdu v in absurd (words-asked w (IsDeaf c) (own_words c w) v own)
heard_in policy (Connects psm) v c heard = let w : Channels = connected psm v in words-asked w (IsDeaf c) (own_words c w) v heard
heard_in policy AsksFeatures v c heard = let w : Channels = asks_features v in words-asked w (IsDeaf c) (own_words c w) v heard
heard_in policy (Disconnects own) v c heard = let w : Channels = disconnected own v in words-left w (IsDeaf c) (own_words c w) own v heard
heard_in policy (Sends own sdu) v c heard = sent_deaf c _ _ sdu heard
heard_in policy (Gives pdu) v c heard = given_deaf c (next_given v) pdu heard
heard_in policy Fires v c heard = deaf_fired c policy.tries (map (λ (h : Held). h.own) v.held) v heard
heard_in policy Tells v c heard = heard

-- ---- what a host gives

-- a request for options is for a channel that the host has with the peer's endpoint, and asks for what it wishes of its PSM, or
-- less where less was suggested
pub record IsWished (policy : Policy) (said : List Saying) (destination flags : ℕ) (octets : List ℕ) : Type 0 where
  pub own : ℕ
  pub channel : Channel
  pub has : IsOf channel (read_at own (reading said).entries)
  pub peer_is : channel.peer ≡ destination
  pub flags_are : flags ≡ 0
  pub suggested : Options
  pub octets_are : octets ≡ written (requested (policy.wish channel.psm) suggested)

abbrev Wished : Policy → List Saying → Content → Type 0
Wished policy said (reject reason rest) = Unit {0}
Wished policy said (connection_request psm source) = Unit {0}
Wished policy said (connection_response destination source answer status) = Unit {0}
Wished policy said (configuration_request destination flags options) = IsWished policy said destination flags options
Wished policy said (configuration_response source flags answer options) = Unit {0}
Wished policy said (disconnection_request destination source) = Unit {0}
Wished policy said (disconnection_response destination source) = Unit {0}
Wished policy said (echo_request octets) = Unit {0}
Wished policy said (echo_response octets) = Unit {0}
Wished policy said (information_request kind) = Unit {0}
Wished policy said (information_response kind answer rest) = Unit {0}

-- a pledge was said
abbrev Backed : Policy → List Saying → Command → Type 0
Backed policy said c = (is_pledge c.content ≡ true → StandsIn (spoken c) said) × Wished policy said c.content

wished_more : (policy : Policy) (said more : List Saying) (content : Content) → Wished policy said content → Wished policy (said ++ more) content
wished_more policy said more (reject reason rest) is = tt
wished_more policy said more (connection_request psm source) is = tt
wished_more policy said more (connection_response destination source answer status) is = tt
wished_more policy said more (configuration_request destination flags options) is = record {
  own = is.own;
  channel = is.channel;
  has = subst (λ (r : Reading). IsOf is.channel (read_at is.own r.entries)) (sym (reading-on said more)) (said-of is.channel is.own more (reading said) is.has);
  peer_is = is.peer_is;
  flags_are = is.flags_are;
  suggested = is.suggested;
  octets_are = is.octets_are;
}
wished_more policy said more (configuration_response source flags answer options) is = tt
wished_more policy said more (disconnection_request destination source) is = tt
wished_more policy said more (disconnection_response destination source) is = tt
wished_more policy said more (echo_request octets) is = tt
wished_more policy said more (echo_response octets) is = tt
wished_more policy said more (information_request kind) is = tt
wished_more policy said more (information_response kind answer rest) is = tt

-- no response is one
wished_response : (policy : Policy) (said : List Saying) (content : Content) → is_response content ≡ true → Wished policy said content
wished_response policy said (reject reason rest) is = tt
wished_response policy said (connection_request psm source) is = tt
wished_response policy said (connection_response destination source answer status) is = tt
wished_response policy said (configuration_request destination flags options) is = cc
wished_response policy said (configuration_response source flags answer options) is = tt
wished_response policy said (disconnection_request destination source) is = tt
wished_response policy said (disconnection_response destination source) is = tt
wished_response policy said (echo_request octets) is = tt
wished_response policy said (echo_response octets) is = tt
wished_response policy said (information_request kind) is = tt
wished_response policy said (information_response kind answer rest) is = tt

backed_more : (policy : Policy) (said more : List Saying) (c : Command) → Backed policy said c → Backed policy (said ++ more) c
backed_more policy said more c (stands, wished) = ((λ pledge. stands-left (spoken c) said more (stands pledge)), wished_more policy said more c.content wished)

-- all of a list that is pledged was said
abbrev AllBacked : (policy : Policy) (said : List Saying) → List Saying → Type 0
AllBacked policy said list = (c : Command) → StandsIn (spoken c) list → Backed policy said c

one_backed : (policy : Policy) (said : List Saying) (d : Command) → Backed policy said d → AllBacked policy said (spoken d ∷ [])
one_backed policy said d is c (inl same) = let it : d ≡ c = cc in subst (Backed policy said) it is
one_backed policy said d is c (inr none) = elim none [ ]

-- own requests for channels were said
own_backed : (policy : Policy) (said : List Saying) (v : Channels) → Sound policy (reading said) v → Words v (AllBacked policy said)
own_backed policy said v sound = record {
  none = λ c is. elim is [ ];
  both = both;
  calls = λ own held request at is.
      let want : WantsAt (reading said).requests held held.stage = subst (Wants (reading said).requests) at (sound.kept.wants own) in
      let awaits = subst (WantsAt (reading said).requests held) is want in
      one_backed policy said (command_with request.identifier (connection_request held.psm held.own)) ((λ pledge. answered-asked said Out request.identifier held.own (wanted_by held.psm held.own) awaits.0), tt);
  wishes = λ own peer held setup request options at has to is. one_backed policy said (command_with request.identifier (configuration_request peer 0 (written options))) ((λ pledge. cc), reads_for own peer held setup request options at has to is);
  ends = λ identifier peer own. one_backed policy said (command_with identifier (disconnection_request peer own)) ((λ pledge. cc), tt);
  asks = λ request is. one_backed policy said (command_with request.identifier (information_request 2)) ((λ pledge. cc), tt);
  lets_call = λ identifier own. lets (sayings.Connection identifier own);
  lets_end = λ own peer. lets (sayings.Disconnection own peer);
}
  where
    reads_for : (own peer : ℕ) (held : Held) (setup : Setup) (request : Request) (options : Options) → held_at own v ≡ Some held → setup_of held.stage ≡ Some setup → peer_of held.stage ≡ Some peer → setup.own ≡ Asking request options → IsWished policy said peer 0 (written options)
    reads_for own peer held setup request options at has to is = by (read_at own (reading said).entries) refl (subst (λ p. ReadsBy policy held p (read_at own (reading said).entries)) to (subst (λ h. Reads policy h (read_at own (reading said).entries)) at (sound.core.reads own)))
      where
        by : (found : Option Entry) → read_at own (reading said).entries ≡ found → ReadsBy policy held (Some peer) found → IsWished policy said peer 0 (written options)
        by None found reads = elim reads [ ]
        by (Some entry) found (there, agrees) =
            let agreed : Agrees (policy.wish held.psm) setup entry.setup = subst (λ s. AgreesIf (policy.wish held.psm) s entry.setup) (standing-is held.stage setup has) agrees in
            let (suggested, same) = subst (OwnStates (policy.wish held.psm)) is agreed.states in
            record {
              own = own;
              channel = channel_by held.psm held.own peer;
              has = subst (IsOf (channel_by held.psm held.own peer)) (sym found) there.channel_is;
              peer_is = refl;
              flags_are = refl;
              suggested = suggested;
              octets_are = ap written same;
            }

    both : (xs ys : List Saying) → AllBacked policy said xs → AllBacked policy said ys → AllBacked policy said (xs ++ ys)
    both xs ys one other c is = by (stands-either (spoken c) xs ys is)
      where
        by : StandsIn (spoken c) xs ⊎ StandsIn (spoken c) ys → Backed policy said c
        by (inl left) = one c left
        by (inr right) = other c right

    lets : (forgone : _) → AllBacked policy said (GaveUp forgone ∷ [])
    lets forgone c (inl same) = cc
    lets forgone c (inr none) = elim none [ ]

-- what a channel gives is no command
no_signal : (held : Option Held) (c : Command) → held_gives held ≡ Some (Signal c) → ⊥
no_signal None c is = cc
no_signal (Some held) c is = by held.stage is
  where
    carried : (carrier : Option Carrier) (peer : ℕ) → some_carrier_gives carrier peer ≡ Some (Signal c) → ⊥
    carried None peer is = cc
    carried (Some (Plain agreed None)) peer is = cc
    carried (Some (Plain agreed (Some sdu))) peer is = cc
    carried (Some (Retransmitting machine)) peer is = framed (next_frame machine) is
      where
        framed : (found : _) → option_map (Framed peer) found ≡ Some (Signal c) → ⊥
        framed None is = cc
        framed (Some frame) is = cc

    by : (stage : Stage) → stage_gives stage ≡ Some (Signal c) → ⊥
    by (Requested request) is = cc
    by (Connected peer setup) is = carried setup.carrier peer is
    by (Leaving peer setup request) is = carried setup.carrier peer is
    by (Closing peer request checked) is = cc
    by (Crossed peer request) is = cc

given_backed : (policy : Policy) (list : List Occurrence) (c : Command) → next_given (run_of policy list).value ≡ Some (Signal c) → Backed policy (run_of policy list).said c
given_backed policy list c = by run.value.queue refl
  where
    run : Run
    run = run_of policy list

    asked : (errand : Errand) (found : Option Command) → command_of errand run.value ≡ found → option_map Signal found ≡ Some (Signal c) → Backed policy run.said c
    asked errand None at is = cc
    asked errand (Some d) at is =
        let same : d ≡ c = cc in
        words-errand run.value (AllBacked policy run.said) (own_backed policy run.said run.value (all-sound policy list)) errand c (subst (λ (found : Option Command). StandsIn (spoken c) (map spoken (option_to_list found))) (sym (at ∙ ap Some same)) (inl refl))

    by : (queue : List Queued) → run.value.queue ≡ queue → queue_gives queue run.value ≡ Some (Signal c) → Backed policy run.said c
    by [] at is = absurd (no_signal (find gives run.value.held) c is)
    by (Answer d ∷ behind) at is =
        let same : d ≡ c = cc in
        let stands = subst (StandsIn (Answer c)) (sym at) (inl (ap Answer same)) in
        ((λ pledge. answers-are_said policy list c stands), wished_response policy run.said c.content (answers-are_responses policy list c stands))
    by (Ask errand ∷ behind) at is = asked errand (command_of errand run.value) refl is

-- ---- both ends

-- what one end heard, and what is under way to it, the other said
record Believes (policy : Policy) (end' : End) (other : List Saying) : Type 0 where
  heard : (c : Command) → Hears c end'.run.said → Backed policy other c
  coming : (pdu : List ℕ) → StandsIn pdu end'.coming → (c : Command) → Brings pdu c → Backed policy other c

more_said : (policy : Policy) (end' : End) (other more : List Saying) → Believes policy end' other → Believes policy end' (other ++ more)
more_said policy end' other more believes = record {
  heard = λ c is. backed_more policy other more c (believes.heard c is);
  coming = λ pdu is c brings. backed_more policy other more c (believes.coming pdu is c brings);
}

more_heard : (policy : Policy) (end' : End) (other : List Saying) (more : Occurrence) → ((c : Command) → Causes more c → Backed policy other c) → Believes policy end' other → Believes policy (occurs more end') other
more_heard policy end' other more causes believes = record { heard = heard; coming = believes.coming }
  where
    heard : (c : Command) → Hears c (end'.run.said ++ said_in end'.policy more end'.run.value) → Backed policy other c
    heard c is = by (stands-either (sayings.Command Into (Ok c)) end'.run.said (said_in end'.policy more end'.run.value) is)
      where
        by : Hears c end'.run.said ⊎ Hears c (said_in end'.policy more end'.run.value) → Backed policy other c
        by (inl old) = believes.heard c old
        by (inr new) = causes c (heard_in end'.policy more end'.run.value c new)

fewer_come : (policy : Policy) (end' : End) (other : List Saying) (coming : List (List ℕ)) → ((pdu : List ℕ) → StandsIn pdu coming → StandsIn pdu end'.coming) → Believes policy end' other → Believes policy (let_go coming end') other
fewer_come policy end' other coming fewer believes = record { heard = believes.heard; coming = λ pdu is. believes.coming pdu (fewer pdu is) }

record BothBelieve (mine other : Policy) (pair : Pair) : Type 0 where
  near : Believes other pair.near pair.far.run.said
  far : Believes mine pair.far pair.near.run.said

-- something occurs at the near end
one_occurs : (mine other : Policy) (pair : Pair) (end' : End) (more : Occurrence) → end'.run ≡ pair.near.run → Believes other end' pair.far.run.said → ((c : Command) → Causes more c → Backed other pair.far.run.said c) → BothBelieve mine other pair
    → BothBelieve mine other (with_near (occurs more end') pair)
one_occurs mine other pair end' more run_is believes causes both = record {
  near = more_heard other end' pair.far.run.said more causes believes;
  far = subst (λ (run : Run). Believes mine pair.far (run.said ++ said_in end'.policy more end'.run.value)) (sym run_is) (more_said mine pair.far pair.near.run.said (said_in end'.policy more end'.run.value) both.far);
}

first_stands : (pdu : List ℕ) (coming : List (List ℕ)) (end' : End) → end'.coming ≡ pdu ∷ coming → StandsIn pdu end'.coming
first_stands pdu coming end' is = subst (StandsIn pdu) (sym is) (inl refl)

rest_stands : (pdu : List ℕ) (coming : List (List ℕ)) (end' : End) → end'.coming ≡ pdu ∷ coming → (other : List ℕ) → StandsIn other coming → StandsIn other end'.coming
rest_stands pdu coming end' is other stands = subst (StandsIn other) (sym is) (inr stands)

lets_believe : (mine other : Policy) (pair : Pair) (coming : List (List ℕ)) (pdu : List ℕ) → pair.near.coming ≡ pdu ∷ coming → BothBelieve mine other pair → Believes other (let_go coming pair.near) pair.far.run.said
lets_believe mine other pair coming pdu is both = fewer_come other pair.near pair.far.run.said coming (rest_stands pdu coming pair.near is) both.near

let_believe : (mine other : Policy) (pair : Pair) (coming : List (List ℕ)) (pdu : List ℕ) → pair.near.coming ≡ pdu ∷ coming → BothBelieve mine other pair → BothBelieve mine other (with_near (let_go coming pair.near) pair)
let_believe mine other pair coming pdu is both = record { near = lets_believe mine other pair coming pdu is both; far = both.far }

takes_believe : (mine other : Policy) (pair : Pair) (coming : List (List ℕ)) → pair.near.coming ≡ coming → BothBelieve mine other pair → BothBelieve mine other (with_near (takes_first coming pair.near) pair)
takes_believe mine other pair [] is both = record { near = both.near; far = both.far }
takes_believe mine other pair (pdu ∷ coming) is both =
    one_occurs mine other pair (let_go coming pair.near) (Comes pdu) refl (lets_believe mine other pair coming pdu is both) (both.near.coming pdu (first_stands pdu coming pair.near is)) both

repeats_believe : (mine other : Policy) (pair : Pair) (coming : List (List ℕ)) → pair.near.coming ≡ coming → BothBelieve mine other pair → BothBelieve mine other (with_near (repeats_first coming pair.near) pair)
repeats_believe mine other pair [] is both = record { near = both.near; far = both.far }
repeats_believe mine other pair (pdu ∷ coming) is both = one_occurs mine other pair pair.near (Comes pdu) refl both.near (both.near.coming pdu (first_stands pdu coming pair.near is)) both

loses_believe : (mine other : Policy) (pair : Pair) (coming : List (List ℕ)) → pair.near.coming ≡ coming → BothBelieve mine other pair → BothBelieve mine other (with_near (loses_first coming pair.near) pair)
loses_believe mine other pair [] is both = record { near = both.near; far = both.far }
loses_believe mine other pair (pdu ∷ coming) is both = let_believe mine other pair coming pdu is both

damages_believe : (mine other : Policy) (pair : Pair) (octets : List ℕ) (coming : List (List ℕ)) → eqb (channel_of octets) 1 ≡ false → pair.near.coming ≡ coming → BothBelieve mine other pair → BothBelieve mine other (with_near (damages_first octets coming pair.near) pair)
damages_believe mine other pair octets [] apart is both = record { near = both.near; far = both.far }
damages_believe mine other pair octets (pdu ∷ coming) apart is both = by (has_fcs (channel_of pdu) pair.near.run.value)
  where
    by : (checked : Bool) → BothBelieve mine other (with_near (cond checked (occurs (Comes octets) (let_go coming pair.near)) (let_go coming pair.near)) pair)
    by true = one_occurs mine other pair (let_go coming pair.near) (Comes octets) refl (lets_believe mine other pair coming pdu is both) (λ c brings. let never : true ≡ false = sym brings.0 ∙ apart in absurd cc) both
    by false = let_believe mine other pair coming pdu is both

-- what is given is read of it
reads_given : (policy : Policy) (said : List Saying) (given : Given) (pdu : List ℕ) → ((c : Command) → Some given ≡ Some (Signal c) → Backed policy said c) → IsReadAs (Some given) pdu → (c : Command) → Brings pdu c → Backed policy said c
reads_given policy said (Signal d) pdu backed read c brings = by (subst (λ (list : List Read). StandsIn (Ok c) list) read brings.1)
  where
    it : Read
    it = Ok c

    only : List Read
    only = Ok d ∷ []

    by : StandsIn it only → Backed policy said c
    by (inl same) = let it : d ≡ c = cc in backed c (ap (λ x. Some (Signal x)) it)
    by (inr none) = elim none [ ]
reads_given policy said (Whole peer sdu) pdu backed read c brings = let never : true ≡ false = sym brings.0 ∙ read in absurd cc
reads_given policy said (Framed peer frame) pdu backed read c brings = let never : true ≡ false = sym brings.0 ∙ read in absurd cc

puts_believe : (policy other : Policy) (list : List Occurrence) (pair : Pair) (pdu : List ℕ) (given : Option Given) → pair.near.run ≡ run_of policy list → next_given pair.near.run.value ≡ given → IsReadAs given pdu → BothBelieve policy other pair → BothBelieve policy other (puts given pdu pair)
puts_believe policy other list pair pdu None run_is is read both = both
puts_believe policy other list pair pdu (Some given) run_is is read both = record { near = after.near; far = record { heard = after.far.heard; coming = coming } }
  where
    after : BothBelieve policy other (with_near (occurs (Gives pdu) pair.near) pair)
    after = one_occurs policy other pair pair.near (Gives pdu) refl both.near (λ c none. elim none [ ]) both

    backed : (c : Command) → Some given ≡ Some (Signal c) → Backed policy pair.near.run.said c
    backed c same = subst (λ (run : Run). Backed policy run.said c) (sym run_is) (given_backed policy list c (sym (ap (λ (run : Run). next_given run.value) run_is) ∙ (is ∙ same)))

    coming : (octets : List ℕ) → StandsIn octets (pair.far.coming ++ pdu ∷ []) → (c : Command) → Brings octets c → Backed policy (pair.near.run.said ++ said_in pair.near.policy (Gives pdu) pair.near.run.value) c
    coming octets stands c brings = by (stands-either octets pair.far.coming (pdu ∷ []) stands)
      where
        by : StandsIn octets pair.far.coming ⊎ StandsIn octets (pdu ∷ []) → Backed policy (pair.near.run.said ++ said_in pair.near.policy (Gives pdu) pair.near.run.value) c
        by (inl old) = after.far.coming octets old c brings
        by (inr (inl same)) = backed_more policy pair.near.run.said _ c (reads_given policy pair.near.run.said given pdu backed read c (subst (λ p. Brings p c) (sym same) brings))
        by (inr (inr none)) = elim none [ ]

near_believes : (policy other : Policy) (list : List Occurrence) (happening : Happening) (pair : Pair) → pair.near.run ≡ run_of policy list → IsRead happening pair.near → BothBelieve policy other pair → BothBelieve policy other (happens_near happening pair)
near_believes policy other list (Acts occurrence) pair run_is read both = by (is_alone occurrence) refl
  where
    silent : (more : Occurrence) → is_alone more ≡ true → (c : Command) → Causes more c → Backed other pair.far.run.said c
    silent (Comes pdu) alone c brings = cc
    silent (Connects psm) alone c none = elim none [ ]
    silent AsksFeatures alone c none = elim none [ ]
    silent (Disconnects own) alone c none = elim none [ ]
    silent (Sends own sdu) alone c none = elim none [ ]
    silent (Gives pdu) alone c none = cc
    silent Fires alone c none = elim none [ ]
    silent Tells alone c none = elim none [ ]

    by : (alone : Bool) → is_alone occurrence ≡ alone → BothBelieve policy other (cond alone (with_near (occurs occurrence pair.near) pair) pair)
    by true alone = one_occurs policy other pair pair.near occurrence refl both.near (silent occurrence alone) both
    by false alone = both
near_believes policy other list (Puts pdu) pair run_is read both = puts_believe policy other list pair pdu (next_given pair.near.run.value) run_is refl read both
near_believes policy other list Takes pair run_is read both = takes_believe policy other pair pair.near.coming refl both
near_believes policy other list Repeats pair run_is read both = repeats_believe policy other pair pair.near.coming refl both
near_believes policy other list Loses pair run_is read both = loses_believe policy other pair pair.near.coming refl both
near_believes policy other list (Damages octets) pair run_is read both = damages_believe policy other pair octets pair.near.coming read refl both

turned_believe : (mine other : Policy) (pair : Pair) → BothBelieve mine other pair → BothBelieve other mine (turned pair)
turned_believe mine other pair both = record { near = both.far; far = both.near }

-- each turn behind those before it
all_believe : (near far : Policy) (past turns : List Turn) → EachAfter (λ front turn. IsRead turn.happening (end_at turn.side (pair_of near far front))) past turns → BothBelieve near far (pair_of near far past) → BothBelieve near far (pair_of near far (past ++ turns))
all_believe near far past [] read both = subst (λ list. BothBelieve near far (pair_of near far list)) (sym (append-nil past)) both
all_believe near far past (turn ∷ turns) (now, read) both =
    subst (λ list. BothBelieve near far (pair_of near far list)) (append_assoc past (turn ∷ []) turns)
    (all_believe near far (past ++ turn ∷ []) turns read
    (subst (BothBelieve near far) (sym (fold-append pair_after (new_pair near far) past (turn ∷ []))) (at turn.side turn.happening now)))
  where
    pair : Pair
    pair = pair_of near far past

    at : (side : Side) (happening : Happening) → IsRead happening (end_at side pair) → BothBelieve near far (happens_at side happening pair)
    at Near happening fair = let (list, is) = (each-end_runs near far past).0 in near_believes near far list happening pair is fair both
    at Far happening fair =
        let (list, is) = (each-end_runs near far past).1 in
        turned_believe far near (happens_near happening (turned pair)) (near_believes far near list happening (turned pair) is fair (turned_believe near far pair both))

nothing_yet : (near far : Policy) → BothBelieve near far (new_pair near far)
nothing_yet near far = record { near = record { heard = λ c is. elim is [ ]; coming = λ pdu is. elim is [ ] }; far = record { heard = λ c is. elim is [ ]; coming = λ pdu is. elim is [ ] } }

all_from : (near far : Policy) (turns : List Turn) → AreRead near far turns → BothBelieve near far (pair_of near far turns)
all_from near far turns read = all_believe near far [] turns read (nothing_yet near far)

pub pledges-were_said : PledgesWereSaid
pledges-were_said near far turns read Near command pledge heard = ((all_from near far turns read).near.heard command heard).0 pledge
pledges-were_said near far turns read Far command pledge heard = ((all_from near far turns read).far.heard command heard).0 pledge

-- a request for options that one end heard the other made for a channel that it has with that endpoint, as it wishes
pub wishes-wished : (near far : Policy) (turns : List Turn) → AreRead near far turns → (side : Side) (identifier destination flags : ℕ) (options : List ℕ)
    → StandsIn (sayings.Command Into (Ok (command_with identifier (configuration_request destination flags options)))) (said_at side (pair_of near far turns))
    → IsWished (policy_of side far near) (said_at side (turned (pair_of near far turns))) destination flags options
wishes-wished near far turns read Near identifier destination flags options heard = ((all_from near far turns read).near.heard (command_with identifier (configuration_request destination flags options)) heard).1
wishes-wished near far turns read Far identifier destination flags options heard = ((all_from near far turns read).far.heard (command_with identifier (configuration_request destination flags options)) heard).1

pub wishes-belong : (near far : Policy) (turns : List Turn) → AreRead near far turns → (side : Side) (identifier destination flags : ℕ) (options : List ℕ)
    → StandsIn (sayings.Command Into (Ok (command_with identifier (configuration_request destination flags options)))) (said_at side (pair_of near far turns))
    → (own : ℕ) × IsFor destination (read_at own (reading (said_at side (turned (pair_of near far turns)))).entries)
wishes-belong near far turns read side identifier destination flags options heard =
    let it = wishes-wished near far turns read side identifier destination flags options heard in (it.own, by it.channel it.peer_is _ it.has)
  where
    by : (channel : Channel) → channel.peer ≡ destination → (found : Option Entry) → IsOf channel found → IsFor destination found
    by channel to None is = is
    by channel to (Some entry) is = ap (λ (c : Channel). c.peer) is ∙ to

pub channels-belong : ChannelsBelong
channels-belong near far turns read side own entry found = by (entries-from mine own entry found)
  where
    mine : List Saying
    mine = said_at side (pair_of near far turns)

    by : Origin mine entry.channel → Belongs mine (said_at side (turned (pair_of near far turns))) entry.channel
    by (identifier, status, inl (granted, asked)) = (identifier, status, inl (granted, pledges-were_said near far turns read side (command_with identifier (connection_request entry.channel.psm entry.channel.peer)) refl asked))
    by (identifier, status, inr (granted, asked)) = (identifier, status, inr (asked, pledges-were_said near far turns read side (command_with identifier (connection_response entry.channel.peer entry.channel.own 0 status)) refl granted))
