-- A basic channel over a way that is ordered, or breaks, is a pipe of SDUs.
use Rattle.std.proofs.Common.{◌≡◌, ℕ, ◌≤◌, List, [], ◌∷◌, ◌++◌, fold, map, drop, Bool, true, false, cond, eqb, Option, Some, None, refl, sym, ap, subst, ◌∙◌, ◌⊎◌, inl, inr, append_assoc, append-nil}
use Rattle.std.specs.Prelude.{option_to_list}
use Rattle.std.proofs.lemmas.Bool.{eqb-true}
use Rattle.std.proofs.lemmas.List.Sums.{fold-append}
use Rattle.own_channel_laws.specs.talk_laws.specs.acl_fragments.specs.Pieces.{channel_of}
use Rattle.own_channel_laws.specs.talk_laws.specs.capture.specs.declared.flow.Flow.TheVariants.{Out}
use Rattle.own_channel_laws.specs.talk_laws.specs.capture.specs.Histories.{EachAfter}
use Rattle.own_channel_laws.specs.talk_laws.specs.l2cap_config.specs.declared.wish.Mode.TheVariants.{Basic, Enhanced}
use Rattle.own_channel_laws.specs.talk_laws.specs.link_talk.specs.declared.channel.Channel.{Channel}
use Rattle.own_channel_laws.specs.talk_laws.specs.link_talk.specs.Sayings.{Saying}
use Rattle.own_channel_laws.specs.talk_laws.specs.link_talk.specs.Channels.{reading}
use Rattle.own_channel_laws.specs.talk_laws.specs.link_talk.specs.Carriages.{is_passed, carried, pdus_of}
use Rattle.own_channel_laws.specs.channel_model.specs.Value.{Carrier, Plain, Retransmitting, Setup, Stage, Connected, Channels}
use Rattle.own_channel_laws.specs.channel_model.specs.Policies.{Policy}
use Rattle.own_channel_laws.specs.channel_model.specs.Changing.{held_at, is_open}
use Rattle.own_channel_laws.specs.channel_model.specs.Carrying.{Nothing}
use Rattle.own_channel_laws.specs.channel_model.specs.Hearing.{up}
use Rattle.own_channel_laws.specs.channel_model.specs.Giving.{Given, carrier_gives, next_given}
use Rattle.own_channel_laws.specs.channel_model.specs.Telling.{is_told_closed}
use Rattle.own_channel_laws.specs.channel_model.specs.Calls.{setup_on, carrier_if, open_carrier, carrier_at}
use Rattle.own_channel_laws.specs.channel_model.proofs.Going.{IsStated}
use Rattle.own_channel_laws.specs.Runs.{Occurrence, Comes, Gives, up_with, sdus_up, said_in, Run, run_on, run_of}
use Rattle.own_channel_laws.specs.Views.{read_at}
use Rattle.own_channel_laws.specs.Signals.{StandsIn}
use Rattle.own_channel_laws.specs.Frames.{IsSpelled, IsUttered}
use Rattle.channel_laws.specs.Pairs.{End, Pair, new_pair, Happening, Acts, Puts, Takes, Repeats, Loses, Damages, is_alone, occurs, with_near, puts, let_go, takes_first, loses_first, happens_near, Side, Near, Far, turned, Turn, happens_at, pair_after, pair_of, IsRunOf}
use Rattle.channel_laws.specs.Ends.{end_at, DoesSo, AreFair}
use Rattle.own_channel_laws.specs.Endpoints.{IsOf}
use Rattle.channel_laws.specs.Belonging.{said_at, AreRead}
use Rattle.channel_laws.specs.Common.{mirrored}
use Rattle.channel_laws.specs.Consent.{HasAccepted}
use Rattle.channel_laws.specs.Modes.{OneWishes}
use Rattle.channel_laws.specs.Ordered.{same_side, AtEnd, ComesNone, IsBroken, KeepsWay, IsOrdered, BasicChannelsArePipes}
use Rattle.channel_laws.specs.Pipes.{IsAddressed, IsCarried, AreCarried, HaveChannel, IsFront}
use Rattle.channel_laws.proofs.Arrived.{sent_are}
use Rattle.channel_laws.proofs.Assents.{Took, took-more}
use Rattle.channel_laws.proofs.Conveying.{low-apart, flipped}
use Rattle.channel_laws.proofs.Delivering.{Waits, sent_on, sent-more}
use Rattle.channel_laws.proofs.Ferried.{Sends_so, near_owed, Ends_so, ends_at, up_of_it, flight_first, flight_other, first_done, other_in, acts_up, none_up}
use Rattle.channel_laws.proofs.Ferrying.{Flight, Owes, Way, Delivers, IsBasic}
use Rattle.channel_laws.proofs.Hushed.{Left, left-all, left-up, left-stays, StatesIts, hands-up}
use Rattle.own_channel_laws.proofs.Keeping.{HeldKeeps, AllKeep}
use Rattle.channel_laws.proofs.Mating.{front-each, same_channel, stays_other, high-at}
use Rattle.channel_laws.proofs.Pairing.{each-end_runs, end-policy}
use Rattle.channel_laws.proofs.Partaking.{leaving_of, kept-on, sdu_for}
use Rattle.own_channel_laws.proofs.Receiving.{up-nothing}
use Rattle.own_channel_laws.proofs.Running.{IsSound, along}
use Rattle.own_channel_laws.proofs.Saying.{stands-either}
use Rattle.channel_laws.proofs.Sharing.{channels-are_common, near_grows, run-grows, said-grows}
use Rattle.own_channel_laws.proofs.Telling.{StageTold, HeldTold, RunTold, one_told, nothing_told}
use Rattle.channel_laws.proofs.Trusting.{GoesTo, goes_to, Gives_out, queue-out, both-sound, peers-have_accepted}

-- ---- the two ends of a way

-- the one that takes, and the other
abbrev viewed : Side → Pair → Pair
viewed Near pair = pair
viewed Far pair = turned pair

-- what came up at the one, and what the other said that went out
abbrev came : Channel → Pair → List (List ℕ)
came channel pair = sdus_up channel.own pair.near.run.up

abbrev sent : Channel → Pair → List (List ℕ)
sent channel pair = sent_on (mirrored channel) pair.far.run.said

-- all that is not under way came
abbrev whole : Way
whole came done flight = came ≡ done

record Live (channel : Channel) (pair : Pair) : Type 0 where
  owes : Delivers whole (mirrored channel) (turned pair)
  -- what is under way is for a channel of which options were accepted
  met : (pdu : List ℕ) → StandsIn pdu pair.near.coming → channel_of pdu ≡ channel.own → Took channel pair.near.run.said

-- nothing comes up any more
abbrev IsShut : Channel → Pair → Type 0
IsShut channel pair = IsFront (came channel pair) (sent channel pair) × AllKeep pair.near.policy (Left channel.own) pair.near.run.value

record Setting (channel : Channel) (pair : Pair) : Type 0 where
  high : 0x0040 ≤ channel.own
  sound : IsSound pair.near.policy pair.near.run
  states : StatesIts channel.own pair.near.run.value
  basic : IsBasic channel.own pair.near.run.value
  sender : Sends_so (mirrored channel) pair.far
  opened : (carrier : Carrier) → carrier_at channel.peer pair.far.run.value ≡ Some carrier → Took channel pair.near.run.said

front_now : (channel : Channel) (pair : Pair) → Live channel pair → IsFront (came channel pair) (sent channel pair)
front_now channel pair live =
    let behind : List (List ℕ) = Flight channel.own pair.near.coming ++ live.owes.rest in (behind, live.owes.sent_is ∙ ap (λ d. d ++ behind) (sym live.owes.reached))

-- ---- the other end does something

-- what it gives on the channel its channel has open
given_met : (channel : Channel) (pair : Pair) (pdu : List ℕ) (given : Given) → Setting channel pair → next_given pair.far.run.value ≡ Some given → GoesTo given channel.own → Live channel pair → Took channel pair.near.run.said
given_met channel pair pdu given so is goes live = by g.carrier g.is g.gives_it
  where
    v : Channels
    v = pair.far.run.value

    g : Gives_out channel.own given v
    g = queue-out v v.queue channel.own given so.sender.sound.core.lone is goes

    own_is : g.held.own ≡ channel.peer
    own_is = so.sender.sole.alone g.held g.setup g.carrier g.found g.has g.is g.to

    here : held_at channel.peer v ≡ Some g.held
    here = ap (λ n. held_at n v) (sym own_is) ∙ g.found

    on : (carrier : Carrier) → g.setup.carrier ≡ Some carrier → is_open g.setup ≡ true → Took channel pair.near.run.said
    on carrier is opens = so.opened carrier (ap (λ h. open_carrier (setup_on h)) here ∙ (ap open_carrier g.has ∙ (ap (λ b. carrier_if b g.setup) opens ∙ is)))

    opens : (sdu : List ℕ) (b : Bool) → is_open g.setup ≡ b → (b ≡ false → Some sdu ≡ None) → b ≡ true
    opens sdu true is shut = refl
    opens sdu false is shut = let never : Some sdu ≡ None = shut refl in absurd cc

    by : (carrier : Carrier) → g.setup.carrier ≡ Some carrier → carrier_gives carrier channel.own ≡ Some given → Took channel pair.near.run.said
    by (Plain agreed None) is gives = cc
    by (Plain agreed (Some sdu)) is gives =
        let kept : HeldKeeps pair.far.policy (Waits live.owes.rest) (Some g.held) = subst (HeldKeeps pair.far.policy (Waits live.owes.rest)) here live.owes.held in
        let waits : Waits live.owes.rest (pair.far.policy.wish g.held.psm) (leaving_of g.held.stage) (is_open g.setup) (Some (Plain agreed (Some sdu))) =
        subst (Waits live.owes.rest (pair.far.policy.wish g.held.psm) (leaving_of g.held.stage) (is_open g.setup)) is (kept-on (Waits live.owes.rest) (pair.far.policy.wish g.held.psm) g.held.stage g.setup g.has kept) in
        on (Plain agreed (Some sdu)) is (opens sdu (is_open g.setup) refl waits.1)
    by (Retransmitting machine) is gives = let never : Enhanced ≡ Basic = so.sender.basic g.held g.setup (Retransmitting machine) here g.has is in absurd cc

sends_on : (channel : Channel) (pair : Pair) (happening : Happening) → Setting channel pair → DoesSo IsUttered happening pair.far → IsCarried happening pair.far → Live channel pair → Live channel (turned (happens_near happening (turned pair)))
sends_on channel pair happening so uttered carried live =
    record { owes = near_owed whole (λ came done flight more was. was) (mirrored channel) (turned pair) happening so.sender uttered carried live.owes; met = met happening uttered carried }
  where
    other : Pair
    other = turned pair

    Met : Pair → Type 0
    Met after = (pdu : List ℕ) → StandsIn pdu after.far.coming → channel_of pdu ≡ channel.own → Took channel after.far.run.said

    met : (h : Happening) → DoesSo IsUttered h pair.far → IsCarried h pair.far → Met (happens_near h other)
    met (Acts occurrence) uttered carried = by (is_alone occurrence)
      where
        by : (alone : Bool) → Met (cond alone (with_near (occurs occurrence other.near) other) other)
        by true = live.met
        by false = live.met
    met (Puts pdu) uttered carried = by (next_given pair.far.run.value) refl uttered carried
      where
        by : (given : Option Given) → next_given pair.far.run.value ≡ given → IsSpelled given pdu → IsAddressed given pdu → Met (puts given pdu other)
        by None is spelled addressed = live.met
        by (Some given) is spelled addressed = λ octets stands to. on octets to (stands-either octets pair.near.coming (pdu ∷ []) stands)
          where
            on : (octets : List ℕ) → channel_of octets ≡ channel.own → StandsIn octets pair.near.coming ⊎ StandsIn octets (pdu ∷ []) → Took channel pair.near.run.said
            on octets to (inl old) = live.met octets old to
            on octets to (inr (inl same)) =
                let here : channel_of pdu ≡ channel.own = ap channel_of same ∙ to in
                given_met channel pair pdu given so is (subst (GoesTo given) here (goes_to given pdu spelled addressed (ap (λ n. eqb n 0x0001) here ∙ flipped 0x0001 channel.own (low-apart channel.own so.high)))) live
            on octets to (inr (inr none)) = elim none [ ]
    met Takes uttered carried = by pair.far.coming
      where
        by : (coming : List (List ℕ)) → Met (with_near (takes_first coming other.near) other)
        by [] = live.met
        by (pdu ∷ coming) = live.met
    met Repeats uttered carried = live.met
    met Loses uttered carried = live.met
    met (Damages octets) uttered carried = live.met

-- ---- the end itself does something

-- what was under way is, where it took it
later_met : (channel : Channel) (pair : Pair) (coming : List (List ℕ)) (more : List Saying) → ((pdu : List ℕ) → StandsIn pdu coming → StandsIn pdu pair.near.coming) → Live channel pair → (pdu : List ℕ) → StandsIn pdu coming → channel_of pdu ≡ channel.own → Took channel (pair.near.run.said ++ more)
later_met channel pair coming more fewer live pdu stands to = took-more channel pair.near.run.said more (live.met pdu (fewer pdu stands) to)

acts_on : (channel : Channel) (pair : Pair) (occurrence : Occurrence) → Live channel pair → Live channel (happens_near (Acts occurrence) pair)
acts_on channel pair occurrence live = by (is_alone occurrence) refl
  where
    by : (alone : Bool) → is_alone occurrence ≡ alone → Live channel (cond alone (with_near (occurs occurrence pair.near) pair) pair)
    by true alone = record {
      owes = none_up whole channel pair pair.near.coming (up_with occurrence pair.near.run.value) (acts_up channel.own occurrence pair.near.run.value alone) live.owes;
      met = later_met channel pair pair.near.coming (said_in pair.near.policy occurrence pair.near.run.value) (λ pdu stands. stands) live;
    }
    by false alone = live

puts_on : (channel : Channel) (pair : Pair) (pdu : List ℕ) → Live channel pair → Live channel (happens_near (Puts pdu) pair)
puts_on channel pair pdu live = by (next_given pair.near.run.value)
  where
    by : (given : Option Given) → Live channel (puts given pdu pair)
    by None = live
    by (Some given) =
        record { owes = none_up whole channel pair pair.near.coming Nothing refl live.owes; met = later_met channel pair pair.near.coming (said_in pair.near.policy (Gives pdu) pair.near.run.value) (λ octets stands. stands) live }

abbrev Next : Channel → Pair → Type 0
Next channel pair = Live channel pair ⊎ IsShut channel pair

takes_on : (channel : Channel) (pair : Pair) → Setting channel pair → Live channel pair → Next channel (happens_near Takes pair)
takes_on channel pair so live = by pair.near.coming refl
  where
    v : Channels
    v = pair.near.run.value

    first : (pdu : List ℕ) (coming : List (List ℕ)) → pair.near.coming ≡ pdu ∷ coming → (here : Bool) → eqb (channel_of pdu) channel.own ≡ here → Next channel (with_near (occurs (Comes pdu) (let_go coming pair.near)) pair)
    first pdu coming is false away = inl (record {
      owes = other_in whole channel pair pdu coming away
          (subst (λ f. Owes pair.far.policy channel.peer (sent channel pair) f (whole (came channel pair)) pair.far.run.value) (ap (Flight channel.own) is ∙ flight_other channel.own pdu coming away) live.owes);
      met = later_met channel pair coming (said_in pair.near.policy (Comes pdu) v) (λ octets stands. subst (StandsIn octets) (sym is) (inr stands)) live;
    })
    first pdu coming is true here = on (hands-up pair.near.policy channel pair.near.run.said v pdu so.sound took so.basic so.states)
      where
        to : channel_of pdu ≡ channel.own
        to = eqb-true (channel_of pdu) channel.own here

        took : Took channel pair.near.run.said
        took = live.met pdu (subst (StandsIn pdu) (sym is) (inl refl)) to

        owed : Owes pair.far.policy channel.peer (sent channel pair) (drop 4 pdu ∷ Flight channel.own coming) (whole (came channel pair)) pair.far.run.value
        owed = subst (λ f. Owes pair.far.policy channel.peer (sent channel pair) f (whole (came channel pair)) pair.far.run.value) (ap (Flight channel.own) is ∙ flight_first channel.own pdu coming here) live.owes

        up_is : sdus_up channel.own (pair.near.run.up ++ up (channel_of pdu) pdu v ∷ []) ≡ came channel pair ++ option_to_list (sdu_for (held_at channel.own v) pdu)
        up_is = up_of_it channel.own pair.near.run.up v pdu so.high to

        on : (sdu_for (held_at channel.own v) pdu ≡ Some (drop 4 pdu)) ⊎ HeldKeeps pair.near.policy (Left channel.own channel.own) (held_at channel.own v) → Next channel (with_near (occurs (Comes pdu) (let_go coming pair.near)) pair)
        on (inl some) = inl (record {
          owes = subst (λ c. Owes pair.far.policy channel.peer (sent channel pair) (Flight channel.own coming) (whole c) pair.far.run.value) (sym (up_is ∙ ap (λ o. came channel pair ++ option_to_list o) some))
              (first_done pair.far.policy channel.peer (sent channel pair) (Flight channel.own coming) (drop 4 pdu) (whole (came channel pair)) (whole (came channel pair ++ drop 4 pdu ∷ [])) pair.far.run.value (λ done is. ap (λ d. d ++ drop 4 pdu ∷ []) is) owed);
          met = later_met channel pair coming (said_in pair.near.policy (Comes pdu) v) (λ octets stands. subst (StandsIn octets) (sym is) (inr stands)) live;
        })
        on (inr left) =
            let all : AllKeep pair.near.policy (Left channel.own) v = left-all pair.near.policy pair.near.run.said v channel.own took.entry so.sound took.found left in
            inr (
              subst (λ c. IsFront c (sent channel pair)) (sym (left-up pair.near.policy channel.own (Comes pdu ∷ []) pair.near.run so.high so.sound all)) (front_now channel pair live),
              left-stays pair.near.policy channel.own (Comes pdu) pair.near.run so.sound all,
            )

    by : (coming : List (List ℕ)) → pair.near.coming ≡ coming → Next channel (with_near (takes_first coming pair.near) pair)
    by [] is = inl live
    by (pdu ∷ coming) is = first pdu coming is (eqb (channel_of pdu) channel.own) refl

-- ---- what was sent stays sent, and what does not come up does not

sent_later : (channel : Channel) (past more : List Saying) → (extra : List (List ℕ)) × (sent_on channel (past ++ more) ≡ sent_on channel past ++ extra)
sent_later channel past [] = ([], ap (sent_on channel) (append-nil past) ∙ sym (append-nil (sent_on channel past)))
sent_later channel past (s ∷ more) =
    let now : List (List ℕ) = map (drop 4) (pdus_of Out (carried is_passed channel past s)) in
    let (extra, is) = sent_later channel (past ++ s ∷ []) more in
    (now ++ extra, sym (ap (sent_on channel) (append_assoc past (s ∷ []) more)) ∙ (is ∙ (ap (λ l. l ++ extra) (sent-more channel past s) ∙ append_assoc (sent_on channel past) now extra)))

front_later : (came sent extra : List (List ℕ)) → IsFront came sent → IsFront came (sent ++ extra)
front_later came sent extra (behind, is) = (behind ++ extra, ap (λ l. l ++ extra) is ∙ append_assoc came behind extra)

said_later : (near far : Policy) (side : Side) (past rest : List Turn) → (more : List Saying) × ((viewed side (pair_of near far (past ++ rest))).far.run.said ≡ (viewed side (pair_of near far past)).far.run.said ++ more)
said_later near far Near past rest = said-grows near far Far past rest
said_later near far Far past rest = said-grows near far Near past rest

front_on : (near far : Policy) (side : Side) (channel : Channel) (past rest : List Turn) → came channel (viewed side (pair_of near far (past ++ rest))) ≡ came channel (viewed side (pair_of near far past))
    → IsFront (came channel (viewed side (pair_of near far past))) (sent channel (viewed side (pair_of near far past))) → IsFront (came channel (viewed side (pair_of near far (past ++ rest)))) (sent channel (viewed side (pair_of near far (past ++ rest))))
front_on near far side channel past rest same front =
    let now : Pair = viewed side (pair_of near far past) in
    let (more, said_is) = said_later near far side past rest in
    let (extra, is) = sent_later (mirrored channel) now.far.run.said more in
    subst (λ c. IsFront c (sent channel (viewed side (pair_of near far (past ++ rest))))) (sym same)
    (subst (IsFront (came channel now)) (sym (ap (sent_on (mirrored channel)) said_is ∙ is)) (front_later (came channel now) (sent channel now) extra front))

same_came : (policy : Policy) (own : ℕ) (before after : Run) → 0x0040 ≤ own → IsSound policy before → AllKeep policy (Left own) before.value → (later : List Occurrence) × (after ≡ fold (run_on policy) before later) → sdus_up own after.up ≡ sdus_up own before.up
same_came policy own before after high sound left (later, is) = ap (λ (run : Run). sdus_up own run.up) is ∙ left-up policy own later before high sound left

-- a channel that was left
shut_on : (near far : Policy) (side : Side) (channel : Channel) (past rest : List Turn) → 0x0040 ≤ channel.own → IsShut channel (viewed side (pair_of near far past))
    → IsFront (came channel (viewed side (pair_of near far (past ++ rest)))) (sent channel (viewed side (pair_of near far (past ++ rest))))
shut_on near far Near channel past rest high (front, left) =
    let e : End = (pair_of near far past).near in
    let is : e.policy ≡ near = end-policy near far past Near in
    front_on near far Near channel past rest
    (same_came near channel.own e.run (pair_of near far (past ++ rest)).near.run high (subst (λ p. IsSound p e.run) is (both-sound near far past).0) (subst (λ p. AllKeep p (Left channel.own) e.run.value) is left) (run-grows near far Near past rest)) front
shut_on near far Far channel past rest high (front, left) =
    let e : End = (pair_of near far past).far in
    let is : e.policy ≡ far = end-policy near far past Far in
    front_on near far Far channel past rest
    (same_came far channel.own e.run (pair_of near far (past ++ rest)).far.run high (subst (λ p. IsSound p e.run) is (both-sound near far past).1) (subst (λ p. AllKeep p (Left channel.own) e.run.value) is left) (run-grows near far Far past rest)) front

-- a way that is broken
quiet_up : (own : ℕ) (happening : Happening) (pair : Pair) → ComesNone happening → sdus_up own (happens_near happening pair).near.run.up ≡ sdus_up own pair.near.run.up
quiet_up own (Acts occurrence) pair none = by (is_alone occurrence) refl
  where
    by : (alone : Bool) → is_alone occurrence ≡ alone → sdus_up own (cond alone (with_near (occurs occurrence pair.near) pair) pair).near.run.up ≡ sdus_up own pair.near.run.up
    by true alone = up-nothing own pair.near.run.up (up_with occurrence pair.near.run.value) (acts_up own occurrence pair.near.run.value alone)
    by false alone = refl
quiet_up own (Puts pdu) pair none = by (next_given pair.near.run.value)
  where
    by : (given : Option Given) → sdus_up own (puts given pdu pair).near.run.up ≡ sdus_up own pair.near.run.up
    by None = refl
    by (Some given) = up-nothing own pair.near.run.up Nothing refl
quiet_up own Takes pair none = elim none [ ]
quiet_up own Repeats pair none = elim none [ ]
quiet_up own Loses pair none = by pair.near.coming
  where
    by : (coming : List (List ℕ)) → sdus_up own (loses_first coming pair.near).run.up ≡ sdus_up own pair.near.run.up
    by [] = refl
    by (pdu ∷ coming) = refl
quiet_up own (Damages pdu) pair none = elim none [ ]

turn_up : (own : ℕ) (pair : Pair) (side by' : Side) (happening : Happening) → AtEnd (same_side by' side) (ComesNone happening) (Unit {0}) → sdus_up own (viewed side (happens_at by' happening pair)).near.run.up ≡ sdus_up own (viewed side pair).near.run.up
turn_up own pair Near Near happening none = quiet_up own happening pair none
turn_up own pair Near Far happening any = ap (λ (run : Run). sdus_up own run.up) (near_grows happening (turned pair)).1
turn_up own pair Far Near happening any = ap (λ (run : Run). sdus_up own run.up) (near_grows happening pair).1
turn_up own pair Far Far happening none = quiet_up own happening (turned pair) none

broken_up : (near far : Policy) (side : Side) (own : ℕ) (past rest : List Turn) → IsBroken side rest → sdus_up own (viewed side (pair_of near far (past ++ rest))).near.run.up ≡ sdus_up own (viewed side (pair_of near far past)).near.run.up
broken_up near far side own past [] broken = ap (λ l. sdus_up own (viewed side (pair_of near far l)).near.run.up) (append-nil past)
broken_up near far side own past (turn ∷ rest) (now, later) =
    ap (λ l. sdus_up own (viewed side (pair_of near far l)).near.run.up) (sym (append_assoc past (turn ∷ []) rest))
    ∙ (broken_up near far side own (past ++ turn ∷ []) rest later
    ∙ (ap (λ p. sdus_up own (viewed side p).near.run.up) (fold-append pair_after (new_pair near far) past (turn ∷ [])) ∙ turn_up own (pair_of near far past) side turn.side turn.happening now))

-- ---- one turn

own_turn : (R : Type 0) (channel : Channel) (pair : Pair) (happening : Happening) (goes broken : Type 0) → Setting channel pair → Live channel pair → (Live channel (happens_near happening pair) → goes → R) → (IsShut channel (happens_near happening pair) → R)
    → (broken → IsFront (came channel (happens_near happening pair)) (sent channel (happens_near happening pair)) → R) → KeepsWay happening goes broken → R
own_turn R channel pair (Acts occurrence) goes broken so live on shut breaks ordered = on (acts_on channel pair occurrence live) ordered
own_turn R channel pair (Puts pdu) goes broken so live on shut breaks ordered = on (puts_on channel pair pdu live) ordered
own_turn R channel pair Takes goes broken so live on shut breaks ordered = by (takes_on channel pair so live)
  where
    by : Next channel (happens_near Takes pair) → R
    by (inl after) = on after ordered
    by (inr after) = shut after
own_turn R channel pair Repeats goes broken so live on shut breaks ordered = elim ordered [ ]
own_turn R channel pair Loses goes broken so live on shut breaks ordered = breaks ordered (by pair.near.coming)
  where
    by : (coming : List (List ℕ)) → (let after : Pair = with_near (loses_first coming pair.near) pair in IsFront (came channel after) (sent channel after))
    by [] = front_now channel pair live
    by (pdu ∷ coming) = front_now channel pair live
own_turn R channel pair (Damages pdu) goes broken so live on shut breaks ordered = elim ordered [ ]

each_turn : (R : Type 0) (channel : Channel) (pair : Pair) (side by' : Side) (happening : Happening) (goes broken : Type 0) → Setting channel (viewed side pair) → Live channel (viewed side pair) → (Live channel (viewed side (happens_at by' happening pair)) → goes → R)
    → (IsShut channel (viewed side (happens_at by' happening pair)) → R) → (broken → IsFront (came channel (viewed side (happens_at by' happening pair))) (sent channel (viewed side (happens_at by' happening pair))) → R) → AtEnd (same_side by' side) (KeepsWay happening goes broken) goes
    → DoesSo IsUttered happening (end_at by' pair) → IsCarried happening (end_at by' pair) → R
each_turn R channel pair Near Near happening goes broken so live on shut breaks ordered uttered carried = own_turn R channel pair happening goes broken so live on shut breaks ordered
each_turn R channel pair Near Far happening goes broken so live on shut breaks ordered uttered carried = on (sends_on channel pair happening so uttered carried live) ordered
each_turn R channel pair Far Near happening goes broken so live on shut breaks ordered uttered carried = on (sends_on channel (turned pair) happening so uttered carried live) ordered
each_turn R channel pair Far Far happening goes broken so live on shut breaks ordered uttered carried = own_turn R channel (turned pair) happening goes broken so live on shut breaks ordered

-- ---- all turns

abbrev Fronts : (near far : Policy) → Side → Channel → List Turn → Type 0
Fronts near far side channel turns = IsFront (came channel (viewed side (pair_of near far turns))) (sent channel (viewed side (pair_of near far turns)))

front_from : (near far : Policy) (side : Side) (channel : Channel) (all past rest : List Turn) → all ≡ past ++ rest → 0x0040 ≤ channel.own → IsOrdered side rest
    → EachAfter (λ front turn. DoesSo IsUttered turn.happening (end_at turn.side (pair_of near far front))) past rest → EachAfter (λ front turn. IsCarried turn.happening (end_at turn.side (pair_of near far front))) past rest
    → ((front behind : List Turn) → all ≡ front ++ behind → Setting channel (viewed side (pair_of near far front))) → Live channel (viewed side (pair_of near far past)) → Fronts near far side channel all
front_from near far side channel all past [] is high ordered uttered carried so live = subst (Fronts near far side channel) (sym (is ∙ append-nil past)) (front_now channel (viewed side (pair_of near far past)) live)
front_from near far side channel all past (turn ∷ rest) is high ordered (now, uttered) (passes, carried) so live =
    each_turn (Fronts near far side channel all) channel (pair_of near far past) side turn.side turn.happening (IsOrdered side rest) (IsBroken side rest) (so past (turn ∷ rest) is) live
    (λ after goes. front_from near far side channel all behind rest later high goes uttered carried so (subst (λ p. Live channel (viewed side p)) (sym next) after))
    (λ after. subst (Fronts near far side channel) (sym later) (shut_on near far side channel behind rest high (subst (λ p. IsShut channel (viewed side p)) (sym next) after)))
    (λ broken front. subst (Fronts near far side channel) (sym later)
    (front_on near far side channel behind rest (broken_up near far side channel.own behind rest broken) (subst (λ p. IsFront (came channel (viewed side p)) (sent channel (viewed side p))) (sym next) front)))
    ordered now passes
  where
    behind : List Turn
    behind = past ++ turn ∷ []

    next : pair_of near far behind ≡ happens_at turn.side turn.happening (pair_of near far past)
    next = fold-append pair_after (new_pair near far) past (turn ∷ [])

    later : all ≡ behind ++ rest
    later = is ∙ sym (append_assoc past (turn ∷ []) rest)

-- ---- a channel that two hosts have in common

states_its : (policy : Policy) (run : Run) (own : ℕ) → IsRunOf policy run → StatesIts own run.value
states_its policy run own (list, runs) = subst (λ (r : Run). StatesIts own r.value) (sym runs) states
  where
    told : RunTold (run_of policy list)
    told = (along policy RunTold nothing_told (λ run more sound told. one_told policy run more sound.core.lone told) list).1

    on : (stage : Stage) (closed : Bool) (peer : ℕ) (setup : Setup) → stage ≡ Connected peer setup → StageTold stage closed → IsStated setup
    on stage closed peer setup is now = (subst (λ s. StageTold s closed) is now).0

    states : StatesIts own (run_of policy list).value
    states held peer setup at is =
        let closed : Bool = is_told_closed own ((run_of policy list).told ++ (run_of policy list).value.events) in
        on held.stage closed peer setup is (subst (λ h. HeldTold h closed) at (told.at own))

-- what a host accepted for the other's endpoint of it is this channel
took_by : (near far : Policy) (side : Side) (front behind : List Turn) (channel : Channel) → AreRead near far front → IsOf (mirrored channel) (read_at channel.peer (reading (said_at side (turned (pair_of near far (front ++ behind))))).entries)
    → HasAccepted channel.peer (said_at side (pair_of near far front)) → Took channel (said_at side (pair_of near far front))
took_by near far side front behind channel read has accepted =
    record { entry = accepted.entry; found = ap (λ (c : Channel). read_at c.own (reading (said_at side (pair_of near far front))).entries) (sym same) ∙ accepted.found; channel_is = same; accepted = accepted.accepted }
  where
    it : Channel
    it = accepted.entry.channel

    common : IsOf (mirrored it) (read_at it.peer (reading (said_at side (turned (pair_of near far (front ++ behind))))).entries)
    common = stays_other near far side front behind (mirrored it) it.peer (channels-are_common near far front read side it.own accepted.entry accepted.found accepted.accepted)

    same : it ≡ channel
    same = ap mirrored (same_channel (mirrored it) (mirrored channel) (read_at channel.peer (reading (said_at side (turned (pair_of near far (front ++ behind))))).entries)
        (subst (λ n. IsOf (mirrored it) (read_at n (reading (said_at side (turned (pair_of near far (front ++ behind))))).entries)) accepted.peer_is common) has)

-- as its taking end has it
abbrev as_had : Side → Channel → Channel
as_had Near channel = channel
as_had Far channel = mirrored channel

module _ (near far : Policy) (turns : List Turn) (channel : Channel) (fair : AreFair near far turns) (read : AreRead near far turns) (passes : AreCarried near far turns) (have : HaveChannel near far turns channel) (wish : OneWishes near far channel.psm Basic) where
  runs : IsRunOf near (pair_of near far turns).near.run × IsRunOf far (pair_of near far turns).far.run
  runs = each-end_runs near far turns

  high : (side : Side) → 0x0040 ≤ (as_had side channel).own
  high Near = high-at near (pair_of near far turns).near.run channel channel.own runs.0 have.near_has
  high Far = high-at far (pair_of near far turns).far.run (mirrored channel) channel.peer runs.1 have.far_has

  -- the other end has the channel
  has : (side : Side) (front behind : List Turn) → turns ≡ front ++ behind → IsOf (mirrored (as_had side channel)) (read_at (as_had side channel).peer (reading (said_at side (turned (pair_of near far (front ++ behind))))).entries)
  has Near front behind is = subst (λ l. IsOf (mirrored channel) (read_at channel.peer (reading (pair_of near far l).far.run.said).entries)) is have.far_has
  has Far front behind is = subst (λ l. IsOf channel (read_at channel.own (reading (pair_of near far l).near.run.said).entries)) is have.near_has

  setting : (side : Side) (front behind : List Turn) → turns ≡ front ++ behind → Setting (as_had side channel) (viewed side (pair_of near far front))
  setting side front behind is = by side
    where
      fair_now : AreFair near far front
      fair_now = front-each _ [] front behind (subst (AreFair near far) is fair)

      read_now : AreRead near far front
      read_now = front-each _ [] front behind (subst (AreRead near far) is read)

      passes_now : AreCarried near far front
      passes_now = front-each _ [] front behind (subst (AreCarried near far) is passes)

      sole : Ends_so channel (pair_of near far front)
      sole = ends_at near far turns channel read have wish front behind is

      by : (side : Side) → Setting (as_had side channel) (viewed side (pair_of near far front))
      by Near = record {
        high = high Near;
        sound = (both-sound near far front).0;
        states = states_its near (pair_of near far front).near.run channel.own (each-end_runs near far front).0;
        basic = sole.near_basic;
        sender = record { high = high Near; sound = (both-sound near far front).1; sole = sole.far_sole; basic = sole.far_basic };
        opened = λ carrier opens. took_by near far Near front behind channel read_now (has Near front behind is) (peers-have_accepted near far front fair_now read_now passes_now Far channel.peer carrier opens);
      }
      by Far = record {
        high = high Far;
        sound = (both-sound near far front).1;
        states = states_its far (pair_of near far front).far.run channel.peer (each-end_runs near far front).1;
        basic = sole.far_basic;
        sender = record { high = high Far; sound = (both-sound near far front).0; sole = sole.near_sole; basic = sole.near_basic };
        opened = λ carrier opens. took_by near far Far front behind (mirrored channel) read_now (has Far front behind is) (peers-have_accepted near far front fair_now read_now passes_now Near channel.own carrier opens);
      }

  first_live : (side : Side) → Live (as_had side channel) (viewed side (new_pair near far))
  first_live Near = record { owes = record { done = []; rest = []; sent_is = refl; reached = refl; held = tt; before = λ above. refl }; met = λ pdu none. elim none [ ] }
  first_live Far = record { owes = record { done = []; rest = []; sent_is = refl; reached = refl; held = tt; before = λ above. refl }; met = λ pdu none. elim none [ ] }

  pub front-all : (side : Side) → IsOrdered side turns → Fronts near far side (as_had side channel) turns
  front-all side ordered = front_from near far side (as_had side channel) turns [] turns refl (high side) ordered fair passes (λ front behind is. setting side front behind is) (first_live side)

pub basic-are_pipes : BasicChannelsArePipes
basic-are_pipes near far turns channel fair read passes have wish = (
  λ ordered party mode.
      subst (IsFront (sdus_up channel.own (pair_of near far turns).near.run.up)) (sym (sent_are party (mirrored channel) (pair_of near far turns).far.run.said mode)) (front-all near far turns channel fair read passes have wish Near ordered),
  λ ordered party mode.
      subst (IsFront (sdus_up channel.peer (pair_of near far turns).far.run.up)) (sym (sent_are party channel (pair_of near far turns).near.run.said mode)) (front-all near far turns channel fair read passes have wish Far ordered),
)
