-- An end that a host answered is one that its peer asked for.
use Rattle.std.proofs.Common.{◌≡◌, ℕ, List, [], ◌∷◌, ◌++◌, map, drop, Bool, true, false, cond, eqb, Option, Some, None, Ok, refl, sym, ap, subst, ◌∙◌, ◌⊎◌, inl, inr, append_assoc, append-nil}
use Rattle.std.specs.Prelude.{option_map, option_to_list}
use Rattle.std.proofs.lemmas.List.Sums.{fold-append}
use Rattle.channel_laws.specs.acl_fragments.specs.Pieces.{channel_of}
use Rattle.channel_laws.specs.capture.specs.declared.flow.Flow.TheVariants.{Into}
use Rattle.channel_laws.specs.capture.specs.Histories.{EachAfter}
use Rattle.channel_laws.specs.l2cap_signal.specs.Commands.{Command, disconnection_request}
use Rattle.channel_laws.specs.l2cap_signal.specs.Reading.{answers}
use Rattle.channel_laws.specs.link_talk.specs.declared.channel.Channel.{Channel}
use Rattle.channel_laws.specs.link_talk.specs.Channels.{Entry, waits_for_end, reading}
use Rattle.channel_laws.specs.link_talk.specs.Sayings.{Saying, Carried, GaveUp}
use Rattle.channel_laws.specs.link_talk.specs.Sayings as sayings
use Rattle.channel_laws.specs.channel_model.specs.declared.errand.Errand.TheVariants as errands
use Rattle.channel_laws.specs.channel_model.specs.Calls.{has_fcs, carrier_at, connected, asks_features, disconnected}
use Rattle.channel_laws.specs.channel_model.specs.Carrying.{takes}
use Rattle.channel_laws.specs.channel_model.specs.Changing.{held_at}
use Rattle.channel_laws.specs.channel_model.specs.Following.{can_say}
use Rattle.channel_laws.specs.channel_model.specs.Giving.{Given, Signal, Whole, Framed, next_given}
use Rattle.channel_laws.specs.channel_model.specs.Hearing.{hears_command}
use Rattle.channel_laws.specs.channel_model.specs.Policies.{Policy}
use Rattle.channel_laws.specs.channel_model.specs.Timing.{times_held, times_end, times_features}
use Rattle.channel_laws.specs.channel_model.specs.Value.{Request, Answer, Carrier, Plain, Retransmitting, Held, Channels}
use Rattle.channel_laws.specs.Belonging.{IsReadAs, IsRead}
use Rattle.channel_laws.specs.Ends.{end_at}
use Rattle.channel_laws.specs.OwnTalk.{spoken, command_with, reply_to, exchanged, asked_between, said_with_all}
use Rattle.channel_laws.specs.Pairs.{End, Pair, new_pair, Happening, Acts, Puts, Takes, Repeats, Loses, Damages, is_alone, occurs, with_near, puts, let_go, takes_first, repeats_first, loses_first, damages_first, happens_near, Side, Near, Far, turned, Turn, pair_after, pair_of, IsRunOf}
use Rattle.channel_laws.specs.Runs.{Occurrence, Comes, Connects, AsksFeatures, Disconnects, Sends, Gives, Fires, Tells, said_again, said_on_firing, said_by_channel, fired_channel, said_by_channels, features_given_up, said_by_carrier, said_as, said_in, Run}
use Rattle.channel_laws.specs.Signals.{StandsIn}
use Rattle.channel_laws.specs.Views.{read_at}
use Rattle.channel_laws.proofs.Pairing.{each-end_runs}
use Rattle.channel_laws.proofs.Replying.{is_response}
use Rattle.channel_laws.proofs.Running.{IsSound}
use Rattle.channel_laws.proofs.Saying.{stands-left, stands-either, answers-are_responses}
use Rattle.channel_laws.proofs.Sharing.{said-grows}
use Rattle.channel_laws.proofs.Sound.{ReadsBy, Reads, Sound}
use Rattle.channel_laws.proofs.Trusting.{both-sound}
use Rattle.channel_laws.proofs.Words.{Words, words-asked, words-again, words-left, words-firing}
use Rattle.disconnection_laws.specs.Ended.{HasAnsweredEnd, HasHeardEnd}
use Rattle.disconnection_laws.proofs.Ending.{answered-ends_are_ended}
use Rattle.disconnection_laws.proofs.Waiting.{own-of_read}
use Rattle.configuration_laws.specs.Asked.{HasAskedEnd, EndsAreAskedFor}
use Rattle.configuration_laws.proofs.Asking.{Brings, IsLeft, IsAsked, given-is, given-plain}
use Rattle.configuration_laws.proofs.Going.{ComesPlainly}
use Rattle.configuration_laws.proofs.Keeping.{IsPlain, one-more}
use Rattle.configuration_laws.proofs.Parting.{all-left}

-- ---- what a host says of its own accord is nothing that it heard

abbrev Deaf : List Saying → Type 0
Deaf said = (identifier own peer : ℕ) → HasHeardEnd identifier own peer said → ⊥

deaf_none : Deaf []
deaf_none identifier own peer is = elim is [ ]

deaf_both : (xs ys : List Saying) → Deaf xs → Deaf ys → Deaf (xs ++ ys)
deaf_both xs ys one other identifier own peer is = by (stands-either (sayings.Command Into (Ok (command_with identifier (disconnection_request own peer)))) xs ys is)
  where
    by : HasHeardEnd identifier own peer xs ⊎ HasHeardEnd identifier own peer ys → ⊥
    by (inl left) = one identifier own peer left
    by (inr right) = other identifier own peer right

deaf_spoken : (command : Command) → Deaf (spoken command ∷ [])
deaf_spoken command identifier own peer (inl same) = cc
deaf_spoken command identifier own peer (inr none) = elim none [ ]

deaf_gave : (forgone : _) → Deaf (GaveUp forgone ∷ [])
deaf_gave forgone identifier own peer (inl same) = cc
deaf_gave forgone identifier own peer (inr none) = elim none [ ]

deaf_carried : (flow : _) (pdu : List ℕ) → Deaf (Carried flow pdu ∷ [])
deaf_carried flow pdu identifier own peer (inl same) = cc
deaf_carried flow pdu identifier own peer (inr none) = elim none [ ]

deaf_words : (w : Channels) → Words w Deaf
deaf_words w = record {
  none = deaf_none;
  both = deaf_both;
  calls = λ own held request at is. deaf_spoken _;
  wishes = λ own peer held setup request options at has to is. deaf_spoken _;
  ends = λ identifier peer own. deaf_spoken _;
  asks = λ request is. deaf_spoken _;
  lets_call = λ identifier own. deaf_gave _;
  lets_end = λ own peer. deaf_gave _;
}

deaf_features : (before after : Option Request) → Deaf (features_given_up before after)
deaf_features None after = deaf_none
deaf_features (Some request) None = deaf_gave _
deaf_features (Some request) (Some other) = deaf_none

deaf_fired : (tries : ℕ) (owns : List ℕ) (v : Channels) → Deaf (said_by_channels tries owns v)
deaf_fired tries [] v =
    let w : Channels = times_features v.features tries v in
    deaf_both (said_again errands.Features v w) (features_given_up v.features w.features) (words-again w Deaf (deaf_words w) errands.Features v) (deaf_features v.features w.features)
deaf_fired tries (own ∷ owns) v =
    let between : Channels = times_held (held_at own v) tries v in
    let after : Channels = times_end (held_at own between) tries between in
    deaf_both (said_by_channel tries own v) (said_by_channels tries owns (fired_channel tries own v))
    (deaf_both (said_on_firing own v between) (said_on_firing own between after) (words-firing between Deaf (deaf_words between) own v) (words-firing after Deaf (deaf_words after) own between))
    (deaf_fired tries owns (fired_channel tries own v))

deaf_sent : (carrier : Option Carrier) (peer : ℕ) (sdu : List ℕ) → Deaf (said_by_carrier carrier peer sdu)
deaf_sent None peer sdu = deaf_none
deaf_sent (Some (Plain agreed None)) peer sdu = deaf_carried _ _
deaf_sent (Some (Plain agreed (Some waiting))) peer sdu = deaf_none
deaf_sent (Some (Retransmitting machine)) peer sdu = deaf_none

deaf_given : (given : Option Given) (pdu : List ℕ) → Deaf (said_as given pdu)
deaf_given None pdu = deaf_none
deaf_given (Some (Signal command)) pdu = deaf_none
deaf_given (Some (Whole other sdu)) pdu = deaf_none
deaf_given (Some (Framed other frame)) pdu = deaf_carried _ _

-- ---- what it heard came in

-- of what is said of a command and its reply it is the command
heard_command : (policy : Policy) (command : Command) (v : Channels) (identifier own peer : ℕ) → HasHeardEnd identifier own peer (said_with_all policy (Ok command ∷ []) v) → command ≡ command_with identifier (disconnection_request own peer)
heard_command policy command v identifier own peer is = whole (stands-either it (exchanged (Ok command) reply v ++ asked_between v w) [] is)
  where
    w : Channels
    w = hears_command policy (Ok command) v

    reply : Option Command
    reply = reply_to policy (Ok command) v

    it : Saying
    it = sayings.Command Into (Ok (command_with identifier (disconnection_request own peer)))

    by : (can : Bool) (given : Option Command) → HasHeardEnd identifier own peer (cond can (sayings.Command Into (Ok command) ∷ map spoken (option_to_list given)) []) → command ≡ command_with identifier (disconnection_request own peer)
    by false given none = elim none [ ]
    by true given (inl same) = cc
    by true None (inr none) = elim none [ ]
    by true (Some answer) (inr (inl same)) = cc
    by true (Some answer) (inr (inr none)) = elim none [ ]

    part : HasHeardEnd identifier own peer (exchanged (Ok command) reply v) ⊎ HasHeardEnd identifier own peer (asked_between v w) → command ≡ command_with identifier (disconnection_request own peer)
    part (inl heard) = by (can_say (option_map (λ (c : Command). c.content) reply) v) reply heard
    part (inr asked) = absurd (words-asked w Deaf (deaf_words w) v identifier own peer asked)

    whole : HasHeardEnd identifier own peer (exchanged (Ok command) reply v ++ asked_between v w) ⊎ HasHeardEnd identifier own peer [] → command ≡ command_with identifier (disconnection_request own peer)
    whole (inl both) = part (stands-either it (exchanged (Ok command) reply v) (asked_between v w) both)
    whole (inr none) = elim none [ ]

-- a PDU brought it
abbrev Causes : Occurrence → Command → Type 0
Causes (Comes pdu) command = Brings pdu command
Causes (Connects psm) command = ⊥
Causes AsksFeatures command = ⊥
Causes (Disconnects own) command = ⊥
Causes (Sends own sdu) command = ⊥
Causes (Gives pdu) command = ⊥
Causes Fires command = ⊥
Causes Tells command = ⊥

heard_in : (policy : Policy) (more : Occurrence) (v : Channels) (identifier own peer : ℕ) → ComesPlainly more → HasHeardEnd identifier own peer (said_in policy more v) → Causes more (command_with identifier (disconnection_request own peer))
heard_in policy (Comes pdu) v identifier own peer plain is = by (eqb (channel_of pdu) 0x0001) refl is
  where
    by : (signals : Bool) → eqb (channel_of pdu) 0x0001 ≡ signals → HasHeardEnd identifier own peer (cond signals (said_with_all policy (answers (drop 4 pdu)) v) (Carried Into pdu ∷ asked_between v (takes (channel_of pdu) pdu v))) → Brings pdu (command_with identifier (disconnection_request own peer))
    by true signals heard =
        let (command, read) = plain signals in
        let it = heard_command policy command v identifier own peer (subst (λ list. HasHeardEnd identifier own peer (said_with_all policy list v)) read heard) in
        (signals, subst (λ (c : Command). answers (drop 4 pdu) ≡ Ok c ∷ []) it read)
    by false signals heard =
        let w : Channels = takes (channel_of pdu) pdu v in
        absurd (deaf_both (Carried Into pdu ∷ []) (asked_between v w) (deaf_carried Into pdu) (words-asked w Deaf (deaf_words w) v) identifier own peer heard)
heard_in policy (Connects psm) v identifier own peer plain is = let w : Channels = connected psm v in words-asked w Deaf (deaf_words w) v identifier own peer is
heard_in policy AsksFeatures v identifier own peer plain is = let w : Channels = asks_features v in words-asked w Deaf (deaf_words w) v identifier own peer is
heard_in policy (Disconnects other) v identifier own peer plain is = let w : Channels = disconnected other v in words-left w Deaf (deaf_words w) other v identifier own peer is
heard_in policy (Sends other sdu) v identifier own peer plain is = deaf_sent (carrier_at other v) _ sdu identifier own peer is
heard_in policy (Gives pdu) v identifier own peer plain is = deaf_given (next_given v) pdu identifier own peer is
heard_in policy Fires v identifier own peer plain is = deaf_fired policy.tries (map (λ (held : Held). held.own) v.held) v identifier own peer is
heard_in policy Tells v identifier own peer plain is = deaf_none identifier own peer is

-- ---- both hosts

-- an end that is asked for was asked for
abbrev Backs : List Saying → Command → Type 0
Backs said command = (destination source : ℕ) → command.content ≡ disconnection_request destination source → HasAskedEnd source destination said

asked_more : (own peer : ℕ) (said more : List Saying) → HasAskedEnd own peer said → HasAskedEnd own peer (said ++ more)
asked_more own peer said more (identifier, stands) = (identifier, stands-left _ said more stands)

-- of the talk of one host, and of what came to the other and is under way to it
record Backed (mine : List Saying) (theirs : List Saying) (coming : List (List ℕ)) : Type 0 where
  plain : (pdu : List ℕ) → StandsIn pdu coming → IsPlain pdu
  backed : (pdu : List ℕ) → StandsIn pdu coming → (command : Command) → Brings pdu command → Backs mine command
  heard : (identifier own peer : ℕ) → HasHeardEnd identifier own peer theirs → HasAskedEnd peer own mine

backed_more : (mine more theirs : List Saying) (coming : List (List ℕ)) → Backed mine theirs coming → Backed (mine ++ more) theirs coming
backed_more mine more theirs coming b = record {
  plain = b.plain;
  backed = λ pdu stands command brings destination source is. asked_more source destination mine more (b.backed pdu stands command brings destination source is);
  heard = λ identifier own peer is. asked_more peer own mine more (b.heard identifier own peer is);
}

-- one PDU more is under way
backed_given : (mine theirs : List Saying) (coming : List (List ℕ)) (pdu : List ℕ) → IsPlain pdu → ((command : Command) → Brings pdu command → Backs mine command) → Backed mine theirs coming → Backed mine theirs (coming ++ pdu ∷ [])
backed_given mine theirs coming pdu plain backs b = record {
  plain = one-more IsPlain coming pdu plain b.plain;
  backed = one-more (λ p. (command : Command) → Brings p command → Backs mine command) coming pdu backs b.backed;
  heard = b.heard;
}

fewer_backed : (mine theirs : List Saying) (coming rest : List (List ℕ)) → ((pdu : List ℕ) → StandsIn pdu rest → StandsIn pdu coming) → Backed mine theirs coming → Backed mine theirs rest
fewer_backed mine theirs coming rest fewer b = record { plain = λ pdu stands. b.plain pdu (fewer pdu stands); backed = λ pdu stands. b.backed pdu (fewer pdu stands); heard = b.heard }

-- something occurs to the other host
heard_more : (policy : Policy) (mine theirs : List Saying) (v : Channels) (more : Occurrence) (coming : List (List ℕ)) → ComesPlainly more → ((command : Command) → Causes more command → Backs mine command) → Backed mine theirs coming → Backed mine (theirs ++ said_in policy more v) coming
heard_more policy mine theirs v more coming plain causes b = record { plain = b.plain; backed = b.backed; heard = λ identifier own peer is. by identifier own peer (stands-either (sayings.Command Into (Ok (command_with identifier (disconnection_request own peer)))) theirs (said_in policy more v) is) }
  where
    by : (identifier own peer : ℕ) → HasHeardEnd identifier own peer theirs ⊎ HasHeardEnd identifier own peer (said_in policy more v) → HasAskedEnd peer own mine
    by identifier own peer (inl old) = b.heard identifier own peer old
    by identifier own peer (inr new) = let it = command_with identifier (disconnection_request own peer) in causes it (heard_in policy more v identifier own peer plain new) own peer refl

-- an end that a host asks for waits in its talk
left_asked : (policy : Policy) (said : List Saying) (v : Channels) (own peer : ℕ) → Sound policy (reading said) v → IsLeft own peer v → HasAskedEnd own peer said
left_asked policy said v own peer sound left = by (read_at own (reading said).entries) refl (subst (λ (p : Option ℕ). ReadsBy policy left.held p (read_at own (reading said).entries)) left.to (subst (λ (h : Option Held). Reads policy h (read_at own (reading said).entries)) left.found (sound.core.reads own)))
  where
    by : (found : Option Entry) → read_at own (reading said).entries ≡ found → ReadsBy policy left.held (Some peer) found → HasAskedEnd own peer said
    by None is reads = elim reads [ ]
    by (Some entry) is (there, agrees) =
        let asked = all-left said own entry is (ap waits_for_end there.life_is ∙ left.left) in
        subst (λ n. HasAskedEnd n peer said) (own-of_read own (reading said).entries entry is) (subst (λ n. HasAskedEnd entry.channel.own n said) (ap (λ (c : Channel). c.peer) there.channel_is) asked)

-- ---- each turn

-- the near end asks
abbrev BackedOf : Pair → Type 0
BackedOf pair = Backed pair.near.run.said pair.far.run.said pair.far.coming

-- at the end that asks
near_turn : (pair : Pair) (happening : Happening) (more : List Saying) → (happens_near happening pair).near.run.said ≡ pair.near.run.said ++ more → IsSound pair.near.policy pair.near.run
    → ((command : Command) → StandsIn (Answer command) pair.near.run.value.queue → is_response command.content ≡ true) → IsRead happening pair.near → BackedOf pair → BackedOf (happens_near happening pair)
near_turn pair happening more grown sound responses read b = by happening grown read
  where
    v : Channels
    v = pair.near.run.value

    still : (after : Pair) → after.far ≡ pair.far → after.near.run.said ≡ pair.near.run.said ++ more → BackedOf after
    still after same is = subst (λ (e : End). Backed after.near.run.said e.run.said e.coming) (sym same) (subst (λ (s : List Saying). Backed s pair.far.run.said pair.far.coming) (sym is) (backed_more pair.near.run.said more pair.far.run.said pair.far.coming b))

    backs : (given : Given) (pdu : List ℕ) → next_given pair.near.run.value ≡ Some given → IsReadAs (Some given) pdu → (command : Command) → Brings pdu command → Backs pair.near.run.said command
    backs given pdu is reads command brings destination source content = either (given-is pair.near.run.value given pdu is reads command brings)
      where
        either : StandsIn (Answer command) pair.near.run.value.queue ⊎ IsAsked pair.near.run.value command → HasAskedEnd source destination pair.near.run.said
        either (inl answer) = let never : false ≡ true = sym (ap is_response content) ∙ responses command answer in absurd cc
        either (inr asked) = left_asked pair.near.policy pair.near.run.said pair.near.run.value source destination sound (asked.leaves destination source content)

    given_by : (pdu : List ℕ) (given : Option Given) → next_given pair.near.run.value ≡ given → IsReadAs given pdu → (puts given pdu pair).near.run.said ≡ pair.near.run.said ++ more → BackedOf (puts given pdu pair)
    given_by pdu None is reads grew = b
    given_by pdu (Some given) is reads grew =
        subst (λ (s : List Saying). Backed s pair.far.run.said (pair.far.coming ++ pdu ∷ [])) (sym grew)
        (backed_more pair.near.run.said more pair.far.run.said (pair.far.coming ++ pdu ∷ []) (backed_given pair.near.run.said pair.far.run.said pair.far.coming pdu (given-plain given pdu reads) (backs given pdu is reads) b))

    acts : (one : Occurrence) (alone : Bool) → (let after : Pair = cond alone (with_near (occurs one pair.near) pair) pair in after.far ≡ pair.far)
    acts one true = refl
    acts one false = refl

    by : (h : Happening) → (happens_near h pair).near.run.said ≡ pair.near.run.said ++ more → IsRead h pair.near → BackedOf (happens_near h pair)
    by (Acts one) grew reads = still (happens_near (Acts one) pair) (acts one (is_alone one)) grew
    by (Puts pdu) grew reads = given_by pdu (next_given pair.near.run.value) refl reads grew
    by Takes grew reads = still (happens_near Takes pair) refl grew
    by Repeats grew reads = still (happens_near Repeats pair) refl grew
    by Loses grew reads = still (happens_near Loses pair) refl grew
    by (Damages other) grew reads = still (happens_near (Damages other) pair) refl grew

-- at the other, which is the near end here
far_turn : (pair : Pair) (happening : Happening) → IsRead happening pair.near → BackedOf (turned pair) → BackedOf (turned (happens_near happening pair))
far_turn pair happening read b = by happening read
  where
    occurs_to : (more : Occurrence) (rest : List (List ℕ)) → ComesPlainly more → ((command : Command) → Causes more command → Backs pair.far.run.said command) → ((pdu : List ℕ) → StandsIn pdu rest → StandsIn pdu pair.near.coming)
        → Backed pair.far.run.said (occurs more pair.near).run.said rest
    occurs_to more rest plain causes fewer =
        fewer_backed pair.far.run.said (occurs more pair.near).run.said pair.near.coming rest fewer (heard_more pair.near.policy pair.far.run.said pair.near.run.said pair.near.run.value more pair.near.coming plain causes b)

    first_in : (pdu : List ℕ) (rest : List (List ℕ)) → pair.near.coming ≡ pdu ∷ rest → StandsIn pdu pair.near.coming
    first_in pdu rest is = subst (StandsIn pdu) (sym is) (inl refl)

    rest_in : (pdu : List ℕ) (rest : List (List ℕ)) → pair.near.coming ≡ pdu ∷ rest → (other : List ℕ) → StandsIn other rest → StandsIn other pair.near.coming
    rest_in pdu rest is other stands = subst (StandsIn other) (sym is) (inr stands)

    alone : (more : Occurrence) → is_alone more ≡ true → ComesPlainly more × ((command : Command) → Causes more command → Backs pair.far.run.said command)
    alone (Comes pdu) is = cc
    alone (Connects psm) is = (tt, λ command none. elim none [ ])
    alone AsksFeatures is = (tt, λ command none. elim none [ ])
    alone (Disconnects own) is = (tt, λ command none. elim none [ ])
    alone (Sends own sdu) is = (tt, λ command none. elim none [ ])
    alone (Gives pdu) is = cc
    alone Fires is = (tt, λ command none. elim none [ ])
    alone Tells is = (tt, λ command none. elim none [ ])

    acts : (more : Occurrence) (is : Bool) → is_alone more ≡ is → BackedOf (turned (cond is (with_near (occurs more pair.near) pair) pair))
    acts more true is = occurs_to more pair.near.coming (alone more is).0 (alone more is).1 (λ pdu stands. stands)
    acts more false is = b

    gives : (pdu : List ℕ) (given : Option Given) → BackedOf (turned (puts given pdu pair))
    gives pdu None = b
    gives pdu (Some given) = occurs_to (Gives pdu) pair.near.coming tt (λ command none. elim none [ ]) (λ other stands. stands)

    took : (coming : List (List ℕ)) → pair.near.coming ≡ coming → BackedOf (turned (with_near (takes_first coming pair.near) pair))
    took [] is = b
    took (pdu ∷ coming) is = occurs_to (Comes pdu) coming (b.plain pdu (first_in pdu coming is)) (b.backed pdu (first_in pdu coming is)) (rest_in pdu coming is)

    repeated : (coming : List (List ℕ)) → pair.near.coming ≡ coming → BackedOf (turned (with_near (repeats_first coming pair.near) pair))
    repeated [] is = b
    repeated (pdu ∷ coming) is = occurs_to (Comes pdu) pair.near.coming (b.plain pdu (first_in pdu coming is)) (b.backed pdu (first_in pdu coming is)) (λ other stands. stands)

    lost : (coming : List (List ℕ)) → pair.near.coming ≡ coming → BackedOf (turned (with_near (loses_first coming pair.near) pair))
    lost [] is = b
    lost (pdu ∷ coming) is = fewer_backed pair.far.run.said pair.near.run.said pair.near.coming coming (rest_in pdu coming is) b

    damaged : (other : List ℕ) → eqb (channel_of other) 0x0001 ≡ false → (coming : List (List ℕ)) → pair.near.coming ≡ coming → BackedOf (turned (with_near (damages_first other coming pair.near) pair))
    damaged other away [] is = b
    damaged other away (pdu ∷ coming) is = at (has_fcs (channel_of pdu) pair.near.run.value)
      where
        at : (checked : Bool) → BackedOf (turned (with_near (cond checked (occurs (Comes other) (let_go coming pair.near)) (let_go coming pair.near)) pair))
        at true =
            occurs_to (Comes other) coming (λ signals. let never : true ≡ false = sym signals ∙ away in absurd cc) (λ command brings. let never : true ≡ false = sym brings.0 ∙ away in absurd cc) (rest_in pdu coming is)
        at false = fewer_backed pair.far.run.said pair.near.run.said pair.near.coming coming (rest_in pdu coming is) b

    by : (h : Happening) → IsRead h pair.near → BackedOf (turned (happens_near h pair))
    by (Acts more) reads = acts more (is_alone more) refl
    by (Puts pdu) reads = gives pdu (next_given pair.near.run.value)
    by Takes reads = took pair.near.coming refl
    by Repeats reads = repeated pair.near.coming refl
    by Loses reads = lost pair.near.coming refl
    by (Damages other) reads = damaged other reads pair.near.coming refl

-- ---- all turns

pub answers-respond : (policy : Policy) (run : Run) → IsRunOf policy run → (command : Command) → StandsIn (Answer command) run.value.queue → is_response command.content ≡ true
answers-respond policy run (list, is) command stands = answers-are_responses policy list command (subst (λ (r : Run). StandsIn (Answer command) r.value.queue) is stands)

-- seen from one side
abbrev BackedAt : Side → Pair → Type 0
BackedAt Near pair = BackedOf pair
BackedAt Far pair = BackedOf (turned pair)

module _ (near far : Policy) where
  abbrev ReadBehind : List Turn → Turn → Type 0
  ReadBehind front turn = IsRead turn.happening (end_at turn.side (pair_of near far front))

  grown : (side : Side) (past : List Turn) (turn : Turn) → (more : List Saying) × ((end_at side (pair_after (pair_of near far past) turn)).run.said ≡ (end_at side (pair_of near far past)).run.said ++ more)
  grown side past turn =
      let next_is : pair_of near far (past ++ turn ∷ []) ≡ pair_after (pair_of near far past) turn = fold-append pair_after (new_pair near far) past (turn ∷ []) in
      let (more, is) = said-grows near far side past (turn ∷ []) in (more, subst (λ (p : Pair). (end_at side p).run.said ≡ (end_at side (pair_of near far past)).run.said ++ more) next_is is)

  one_turn : (side : Side) (past : List Turn) (at : Side) (happening : Happening) → (let turn : Turn = record { side = at; happening = happening } in ReadBehind past turn → BackedAt side (pair_of near far past) → BackedAt side (pair_after (pair_of near far past) turn))
  one_turn Near past Near happening read b =
      let pair : Pair = pair_of near far past in
      let (more, is) = grown Near past (record { side = Near; happening = happening }) in near_turn pair happening more is (both-sound near far past).0 (answers-respond near pair.near.run (each-end_runs near far past).0) read b
  one_turn Near past Far happening read b = far_turn (turned (pair_of near far past)) happening read b
  one_turn Far past Near happening read b = far_turn (pair_of near far past) happening read b
  one_turn Far past Far happening read b =
      let pair : Pair = turned (pair_of near far past) in
      let (more, is) = grown Far past (record { side = Far; happening = happening }) in near_turn pair happening more is (both-sound near far past).1 (answers-respond far pair.near.run (each-end_runs near far past).1) read b

  all_backed : (side : Side) (past turns : List Turn) → EachAfter ReadBehind past turns → BackedAt side (pair_of near far past) → BackedAt side (pair_of near far (past ++ turns))
  all_backed side past [] read b = subst (λ (list : List Turn). BackedAt side (pair_of near far list)) (sym (append-nil past)) b
  all_backed side past (turn ∷ turns) (now, read) b =
      let next_is : pair_of near far (past ++ turn ∷ []) ≡ pair_after (pair_of near far past) turn = fold-append pair_after (new_pair near far) past (turn ∷ []) in
      subst (λ (list : List Turn). BackedAt side (pair_of near far list)) (append_assoc past (turn ∷ []) turns)
      (all_backed side (past ++ turn ∷ []) turns read (subst (BackedAt side) (sym next_is) (one_turn side past turn.side turn.happening now b)))

none_yet : Backed [] [] []
none_yet = record { plain = λ pdu none. elim none [ ]; backed = λ pdu none. elim none [ ]; heard = λ identifier own peer none. elim none [ ] }

heard_end : (policy : Policy) (run : Run) → IsRunOf policy run → (identifier own peer : ℕ) → HasAnsweredEnd identifier own peer run.said → HasHeardEnd identifier own peer run.said
heard_end policy run (list, is) identifier own peer answered =
    subst (λ (r : Run). HasHeardEnd identifier own peer r.said) (sym is) (answered-ends_are_ended policy list identifier own peer (subst (λ (r : Run). HasAnsweredEnd identifier own peer r.said) is answered)).1

pub ends-are_asked_for : EndsAreAskedFor
ends-are_asked_for near far turns read Near identifier own peer answered =
    (all_backed near far Far [] turns read none_yet).heard identifier own peer (heard_end near (pair_of near far turns).near.run (each-end_runs near far turns).0 identifier own peer answered)
ends-are_asked_for near far turns read Far identifier own peer answered =
    (all_backed near far Near [] turns read none_yet).heard identifier own peer (heard_end far (pair_of near far turns).far.run (each-end_runs near far turns).1 identifier own peer answered)
