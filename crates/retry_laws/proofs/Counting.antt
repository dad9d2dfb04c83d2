-- Over a basic channel all that was sent came, is under way, waits or was lost, each way.
use Rattle.std.proofs.Common.{◌≡◌, ℕ, ◌+◌, ◌≤◌, List, [], ◌∷◌, ◌++◌, fold, length, drop, Bool, true, false, cond, eqb, Option, Some, None, refl, sym, ap, subst, ◌∙◌, ◌⊎◌, inl, inr, arith, append_assoc, append-nil}
use Rattle.std.specs.Prelude.{option_to_list}
use Rattle.std.proofs.lemmas.Bool.{eqb-true}
use Rattle.std.proofs.lemmas.List.{length-map, length-append}
use Rattle.std.proofs.lemmas.List.Sums.{fold-append}
use Rattle.channel_laws.specs.acl_fragments.specs.Pieces.{channel_of}
use Rattle.channel_laws.specs.capture.specs.Histories.{EachAfter}
use Rattle.channel_laws.specs.l2cap_config.specs.declared.wish.Mode.TheVariants.{Basic, Enhanced}
use Rattle.channel_laws.specs.link_talk.specs.declared.channel.Channel.{Channel}
use Rattle.channel_laws.specs.link_talk.specs.declared.party.Party.{Party}
use Rattle.channel_laws.specs.link_talk.specs.rfcomm_frames.specs.declared.connection.Role.TheVariants.{Initiator}
use Rattle.channel_laws.specs.link_talk.specs.Channels.{reading}
use Rattle.channel_laws.specs.link_talk.specs.Sayings.{Saying}
use Rattle.channel_laws.specs.channel_model.specs.Calls.{setup_on, carrier_if, open_carrier, carrier_at, some_waits, waits, has_fcs}
use Rattle.channel_laws.specs.channel_model.specs.Changing.{held_at, is_open, setup_of}
use Rattle.channel_laws.specs.channel_model.specs.Carrying.{Up}
use Rattle.channel_laws.specs.channel_model.specs.Giving.{Given, carrier_gives, next_given}
use Rattle.channel_laws.specs.channel_model.specs.Policies.{Policy}
use Rattle.channel_laws.specs.channel_model.specs.Telling.{is_told_closed}
use Rattle.channel_laws.specs.channel_model.specs.Value.{Carrier, Plain, Retransmitting, Setup, Stage, Connected, Channels}
use Rattle.channel_laws.specs.channel_model.proofs.Going.{IsStated}
use Rattle.channel_laws.specs.Adverse.{seen_from}
use Rattle.channel_laws.specs.Belonging.{said_at, AreRead}
use Rattle.channel_laws.specs.Common.{mirrored}
use Rattle.channel_laws.specs.Consent.{HasAccepted}
use Rattle.channel_laws.specs.Delivered.{IsRunBy}
use Rattle.channel_laws.specs.Endpoints.{IsOf}
use Rattle.channel_laws.specs.Ends.{end_at, DoesSo, AreFair}
use Rattle.channel_laws.specs.Frames.{IsSpelled, IsUttered}
use Rattle.channel_laws.specs.Modes.{OneWishes}
use Rattle.channel_laws.specs.Pairs.{Pair, new_pair, Happening, Acts, Puts, Takes, Repeats, Loses, Damages, is_alone, occurs, with_near, puts, let_go, takes_first, repeats_first, loses_first, damages_first, happens_near, Side, Near, Far, turned, Turn, happens_at, pair_after, pair_of, IsRunOf}
use Rattle.channel_laws.specs.Pipes.{IsAddressed, IsCarried, AreCarried}
use Rattle.channel_laws.specs.Runs.{Occurrence, Comes, Gives, up_with, said_in, sdu_up, sdus_up, Run, run_on, run_of}
use Rattle.channel_laws.specs.Signals.{StandsIn}
use Rattle.channel_laws.specs.Taken.{taken_of}
use Rattle.channel_laws.specs.Tries.{one_if}
use Rattle.channel_laws.specs.Views.{read_at}
use Rattle.channel_laws.proofs.Arrived.{sent_are}
use Rattle.channel_laws.proofs.Assents.{Took, took-more}
use Rattle.channel_laws.proofs.Conveying.{low-apart, flipped}
use Rattle.channel_laws.proofs.Delivering.{Waits, sent_on}
use Rattle.channel_laws.proofs.Ferried.{Sends_so, near_owed, Owed, Ends_so, ends_at, up_of_it, other_in, flight_first, flight_other, first_done}
use Rattle.channel_laws.proofs.Ferrying.{Flight, Owes, Way, Delivers, IsBasic}
use Rattle.channel_laws.proofs.Hushed.{Left, left-all, left-stays, StatesIts, hands-up}
use Rattle.channel_laws.proofs.Keeping.{StageKeeps, HeldKeeps, AllKeep}
use Rattle.channel_laws.proofs.Mating.{front-each, same_channel, stays_other, high-at}
use Rattle.channel_laws.proofs.Pairing.{each-end_runs, end-policy}
use Rattle.channel_laws.proofs.Partaking.{leaving_of, kept-on, sdu_for}
use Rattle.channel_laws.proofs.Piped.{under_way, up-more}
use Rattle.channel_laws.proofs.PlainTaken.{basic_mode, plain-goes_out}
use Rattle.channel_laws.proofs.Running.{IsSound, goes-on, along}
use Rattle.channel_laws.proofs.Saying.{stands-either}
use Rattle.channel_laws.proofs.Sharing.{channels-are_common, run-grows}
use Rattle.channel_laws.proofs.Telling.{StageTold, HeldTold, RunTold, one_told, nothing_told}
use Rattle.channel_laws.proofs.Trusting.{GoesTo, goes_to, Gives_out, queue-out, both-sound, peers-have_accepted}
use Rattle.passing_laws.specs.Handed.{on_side}
use Rattle.retry_laws.specs.Counted.{losses_by, all_losses, HasStill, Share, count_taken, count_come, on_the_way, SdusAreCounted}

-- ---- the two ends of a way: the one that takes, seen as the near one, and the other

abbrev came : Channel → Pair → List (List ℕ)
came channel pair = sdus_up channel.own pair.near.run.up

abbrev sent : Channel → Pair → List (List ℕ)
sent channel pair = sent_on (mirrored channel) pair.far.run.said

-- what is neither under way nor waits came, but for what was lost
abbrev Counted : (lost : ℕ) → Way
Counted lost came done flight = length done ≤ length came + lost

record Live (lost : ℕ) (channel : Channel) (pair : Pair) : Type 0 where
  owes : Delivers (Counted lost) (mirrored channel) (turned pair)
  -- what is under way is for a channel of which options were accepted
  met : (pdu : List ℕ) → StandsIn pdu pair.near.coming → channel_of pdu ≡ channel.own → Took channel pair.near.run.said

-- its host asked for its end, or it is there no more
abbrev IsShut : Channel → Pair → Type 0
IsShut channel pair = AllKeep pair.near.policy (Left channel.own) pair.near.run.value

abbrev Next : (lost : ℕ) → Channel → Pair → Type 0
Next lost channel pair = Live lost channel pair ⊎ IsShut channel pair

record Setting (channel : Channel) (pair : Pair) : Type 0 where
  high : 0x0040 ≤ channel.own
  sound : IsSound pair.near.policy pair.near.run
  states : StatesIts channel.own pair.near.run.value
  basic : IsBasic channel.own pair.near.run.value
  sender : Sends_so (mirrored channel) pair.far
  opened : (carrier : Carrier) → carrier_at channel.peer pair.far.run.value ≡ Some carrier → Took channel pair.near.run.said

-- ---- the other end does something

-- what it gives on the channel its channel has open
given_met : (lost : ℕ) (channel : Channel) (pair : Pair) (given : Given) → Setting channel pair → next_given pair.far.run.value ≡ Some given → GoesTo given channel.own → Live lost channel pair → Took channel pair.near.run.said
given_met lost channel pair given so is goes live = by g.carrier g.is g.gives_it
  where
    v : Channels
    v = pair.far.run.value

    g : Gives_out channel.own given v
    g = queue-out v v.queue channel.own given so.sender.sound.core.lone is goes

    here : held_at channel.peer v ≡ Some g.held
    here = ap (λ n. held_at n v) (sym (so.sender.sole.alone g.held g.setup g.carrier g.found g.has g.is g.to)) ∙ g.found

    on : (carrier : Carrier) → g.setup.carrier ≡ Some carrier → is_open g.setup ≡ true → Took channel pair.near.run.said
    on carrier is opens = so.opened carrier (ap (λ h. open_carrier (setup_on h)) here ∙ (ap open_carrier g.has ∙ (ap (λ b. carrier_if b g.setup) opens ∙ is)))

    opens : (sdu : List ℕ) (b : Bool) → (b ≡ false → Some sdu ≡ None) → b ≡ true
    opens sdu true shut = refl
    opens sdu false shut = let never : Some sdu ≡ None = shut refl in absurd cc

    by : (carrier : Carrier) → g.setup.carrier ≡ Some carrier → carrier_gives carrier channel.own ≡ Some given → Took channel pair.near.run.said
    by (Plain agreed None) is gives = cc
    by (Plain agreed (Some sdu)) is gives =
        let kept : HeldKeeps pair.far.policy (Waits live.owes.rest) (Some g.held) = subst (HeldKeeps pair.far.policy (Waits live.owes.rest)) here live.owes.held in
        let waits' : Waits live.owes.rest (pair.far.policy.wish g.held.psm) (leaving_of g.held.stage) (is_open g.setup) (Some (Plain agreed (Some sdu))) =
        subst (Waits live.owes.rest (pair.far.policy.wish g.held.psm) (leaving_of g.held.stage) (is_open g.setup)) is (kept-on (Waits live.owes.rest) (pair.far.policy.wish g.held.psm) g.held.stage g.setup g.has kept) in
        on (Plain agreed (Some sdu)) is (opens sdu (is_open g.setup) waits'.1)
    by (Retransmitting machine) is gives = let never : Enhanced ≡ Basic = so.sender.basic g.held g.setup (Retransmitting machine) here g.has is in absurd cc

sends_on : (lost : ℕ) (channel : Channel) (pair : Pair) (happening : Happening) → Setting channel pair → DoesSo IsUttered happening pair.far → IsCarried happening pair.far → Live lost channel pair → Live lost channel (turned (happens_near happening (turned pair)))
sends_on lost channel pair happening so uttered carried live =
    record { owes = near_owed (Counted lost) (λ came done flight more was. was) (mirrored channel) (turned pair) happening so.sender uttered carried live.owes; met = met happening uttered carried }
  where
    other : Pair
    other = turned pair

    Met : Pair → Type 0
    Met after = (pdu : List ℕ) → StandsIn pdu after.far.coming → channel_of pdu ≡ channel.own → Took channel after.far.run.said

    met : (h : Happening) → DoesSo IsUttered h pair.far → IsCarried h pair.far → Met (happens_near h other)
    met (Acts occurrence) uttered carried = by (is_alone occurrence)
      where
        by : (alone : Bool) → Met (cond alone (with_near (occurs occurrence other.near) other) other)
        by true = live.met
        by false = live.met
    met (Puts pdu) uttered carried = by (next_given pair.far.run.value) refl uttered carried
      where
        by : (given : Option Given) → next_given pair.far.run.value ≡ given → IsSpelled given pdu → IsAddressed given pdu → Met (puts given pdu other)
        by None is spelled addressed = live.met
        by (Some given) is spelled addressed = λ octets stands to. on octets to (stands-either octets pair.near.coming (pdu ∷ []) stands)
          where
            on : (octets : List ℕ) → channel_of octets ≡ channel.own → StandsIn octets pair.near.coming ⊎ StandsIn octets (pdu ∷ []) → Took channel pair.near.run.said
            on octets to (inl old) = live.met octets old to
            on octets to (inr (inl same)) =
                let here : channel_of pdu ≡ channel.own = ap channel_of same ∙ to in
                given_met lost channel pair given so is (subst (GoesTo given) here (goes_to given pdu spelled addressed (ap (λ n. eqb n 0x0001) here ∙ flipped 0x0001 channel.own (low-apart channel.own so.high)))) live
            on octets to (inr (inr none)) = elim none [ ]
    met Takes uttered carried = by pair.far.coming
      where
        by : (coming : List (List ℕ)) → Met (with_near (takes_first coming other.near) other)
        by [] = live.met
        by (pdu ∷ coming) = live.met
    met Repeats uttered carried = by pair.far.coming
      where
        by : (coming : List (List ℕ)) → Met (with_near (repeats_first coming other.near) other)
        by [] = live.met
        by (pdu ∷ coming) = live.met
    met Loses uttered carried = live.met
    met (Damages octets) uttered carried = live.met

-- ---- what is counted

owes_with : (R S : (done flight : List (List ℕ)) → Type 0) (policy : Policy) (own : ℕ) (sent flight : List (List ℕ)) (v : Channels) → ((done : List (List ℕ)) → R done flight → S done flight) → Owes policy own sent flight R v → Owes policy own sent flight S v
owes_with R S policy own sent flight v by owes = record { done = owes.done; rest = owes.rest; sent_is = owes.sent_is; reached = by owes.done owes.reached; held = owes.held; before = owes.before }

module _ (channel : Channel) (pair : Pair) where
  abbrev their_policy : Policy
  their_policy = pair.far.policy

  abbrev theirs : Channels
  theirs = pair.far.run.value

  abbrev owed : (lost : ℕ) (coming : List (List ℕ)) (ups : List Up) → Type 0
  owed lost coming ups = Owed (Counted lost) channel pair coming ups

  -- whatever more comes up
  more_came : (lost : ℕ) (coming : List (List ℕ)) (ups : List Up) (now : Up) → owed lost coming ups → owed lost coming (ups ++ now ∷ [])
  more_came lost coming ups now =
      let grows : length (sdus_up channel.own (ups ++ now ∷ [])) ≡ length (sdus_up channel.own ups) + length (option_to_list (sdu_up channel.own now))
      = ap (λ (l : List (List ℕ)). length l) (up-more channel.own ups now) ∙ length-append (sdus_up channel.own ups) (option_to_list (sdu_up channel.own now)) in
      owes_with (Counted lost (sdus_up channel.own ups)) (Counted lost (sdus_up channel.own (ups ++ now ∷ []))) their_policy channel.peer (sent channel pair) (Flight channel.own coming) theirs (λ done was. omega (arith, was, grows))

  -- one more may be lost
  one_lost : (lost : ℕ) (coming : List (List ℕ)) (ups : List Up) → owed lost coming ups → owed (lost + 1) coming ups
  one_lost lost coming ups = owes_with (Counted lost (sdus_up channel.own ups)) (Counted (lost + 1) (sdus_up channel.own ups)) their_policy channel.peer (sent channel pair) (Flight channel.own coming) theirs (λ done was. omega (arith, was))

  -- the first that is under way is lost
  first_lost : (lost : ℕ) (pdu : List ℕ) (coming : List (List ℕ)) (ups : List Up) → owed lost (pdu ∷ coming) ups → owed (lost + 1) coming ups
  first_lost lost pdu coming ups h = by (eqb (channel_of pdu) channel.own) refl
    where
      by : (here : Bool) → eqb (channel_of pdu) channel.own ≡ here → owed (lost + 1) coming ups
      by true here =
          first_done their_policy channel.peer (sent channel pair) (Flight channel.own coming) (drop 4 pdu) (Counted lost (sdus_up channel.own ups)) (Counted (lost + 1) (sdus_up channel.own ups)) theirs
          (λ done was. let one = length-append done (drop 4 pdu ∷ []) in omega (arith, was, one))
          (subst (λ f. Owes their_policy channel.peer (sent channel pair) f (Counted lost (sdus_up channel.own ups)) theirs) (flight_first channel.own pdu coming here) h)
      by false away = one_lost lost coming ups (subst (λ f. Owes their_policy channel.peer (sent channel pair) f (Counted lost (sdus_up channel.own ups)) theirs) (flight_other channel.own pdu coming away) h)

-- ---- the end itself does something

module _ (lost : ℕ) (channel : Channel) (pair : Pair) (so : Setting channel pair) (live : Live lost channel pair) where
  abbrev v : Channels
  v = pair.near.run.value

  -- what was under way is, where it took it
  later_met : (coming : List (List ℕ)) (more : List Saying) → ((pdu : List ℕ) → StandsIn pdu coming → StandsIn pdu pair.near.coming) → (pdu : List ℕ) → StandsIn pdu coming → channel_of pdu ≡ channel.own → Took channel (pair.near.run.said ++ more)
  later_met coming more fewer pdu stands to = took-more channel pair.near.run.said more (live.met pdu (fewer pdu stands) to)

  acts_on : (occurrence : Occurrence) → Live lost channel (happens_near (Acts occurrence) pair)
  acts_on occurrence = by (is_alone occurrence)
    where
      by : (alone : Bool) → Live lost channel (cond alone (with_near (occurs occurrence pair.near) pair) pair)
      by true = record {
        owes = more_came channel pair lost pair.near.coming pair.near.run.up (up_with occurrence v) live.owes;
        met = later_met pair.near.coming (said_in pair.near.policy occurrence v) (λ pdu stands. stands);
      }
      by false = live

  puts_on : (pdu : List ℕ) → Live lost channel (happens_near (Puts pdu) pair)
  puts_on pdu = by (next_given v)
    where
      by : (given : Option Given) → Live lost channel (puts given pdu pair)
      by None = live
      by (Some given) = record {
        owes = more_came channel pair lost pair.near.coming pair.near.run.up (up_with (Gives pdu) v) live.owes;
        met = later_met pair.near.coming (said_in pair.near.policy (Gives pdu) v) (λ octets stands. stands);
      }

  repeats_on : Live lost channel (happens_near Repeats pair)
  repeats_on = by pair.near.coming
    where
      by : (coming : List (List ℕ)) → Live lost channel (with_near (repeats_first coming pair.near) pair)
      by [] = live
      by (pdu ∷ coming) = record {
        owes = more_came channel pair lost pair.near.coming pair.near.run.up (up_with (Comes pdu) v) live.owes;
        met = later_met pair.near.coming (said_in pair.near.policy (Comes pdu) v) (λ octets stands. stands);
      }

  -- what is left where the first goes
  abbrev first : (coming : List (List ℕ)) (pdu : List ℕ) → pair.near.coming ≡ pdu ∷ coming → Owed (Counted lost) channel pair (pdu ∷ coming) pair.near.run.up
  first coming pdu is = subst (λ c. Owed (Counted lost) channel pair c pair.near.run.up) is live.owes

  gone_first : (coming : List (List ℕ)) (pdu : List ℕ) → pair.near.coming ≡ pdu ∷ coming → (octets : List ℕ) → StandsIn octets coming → StandsIn octets pair.near.coming
  gone_first coming pdu is octets stands = subst (StandsIn octets) (sym is) (inr stands)

  loses_on : Live (lost + 1) channel (happens_near Loses pair)
  loses_on = by pair.near.coming refl
    where
      by : (coming : List (List ℕ)) → pair.near.coming ≡ coming → Live (lost + 1) channel (with_near (loses_first coming pair.near) pair)
      by [] is = record { owes = one_lost channel pair lost pair.near.coming pair.near.run.up live.owes; met = live.met }
      by (pdu ∷ coming) is = record { owes = first_lost channel pair lost pdu coming pair.near.run.up (first coming pdu is); met = λ octets stands. live.met octets (gone_first coming pdu is octets stands) }

  damages_on : (other : List ℕ) → Live (lost + 1) channel (happens_near (Damages other) pair)
  damages_on other = by pair.near.coming refl
    where
      on : (pdu : List ℕ) (coming : List (List ℕ)) → pair.near.coming ≡ pdu ∷ coming → (checked : Bool) → Live (lost + 1) channel (with_near (cond checked (occurs (Comes other) (let_go coming pair.near)) (let_go coming pair.near)) pair)
      on pdu coming is true = record {
        owes = more_came channel pair (lost + 1) coming pair.near.run.up (up_with (Comes other) v) (first_lost channel pair lost pdu coming pair.near.run.up (first coming pdu is));
        met = later_met coming (said_in pair.near.policy (Comes other) v) (gone_first coming pdu is);
      }
      on pdu coming is false = record { owes = first_lost channel pair lost pdu coming pair.near.run.up (first coming pdu is); met = λ octets stands. live.met octets (gone_first coming pdu is octets stands) }

      by : (coming : List (List ℕ)) → pair.near.coming ≡ coming → Live (lost + 1) channel (with_near (damages_first other coming pair.near) pair)
      by [] is = record { owes = one_lost channel pair lost pair.near.coming pair.near.run.up live.owes; met = live.met }
      by (pdu ∷ coming) is = on pdu coming is (has_fcs (channel_of pdu) v)

  takes_on : Next lost channel (happens_near Takes pair)
  takes_on = by pair.near.coming refl
    where
      went : (pdu : List ℕ) (coming : List (List ℕ)) → pair.near.coming ≡ pdu ∷ coming → (here : Bool) → eqb (channel_of pdu) channel.own ≡ here → Next lost channel (with_near (occurs (Comes pdu) (let_go coming pair.near)) pair)
      went pdu coming is false away = inl (record {
        owes = other_in (Counted lost) channel pair pdu coming away
            (subst (λ f. Owes pair.far.policy channel.peer (sent channel pair) f (Counted lost (came channel pair)) pair.far.run.value) (ap (Flight channel.own) is ∙ flight_other channel.own pdu coming away) live.owes);
        met = later_met coming (said_in pair.near.policy (Comes pdu) v) (gone_first coming pdu is);
      })
      went pdu coming is true here = on (hands-up pair.near.policy channel pair.near.run.said v pdu so.sound took so.basic so.states)
        where
          to : channel_of pdu ≡ channel.own
          to = eqb-true (channel_of pdu) channel.own here

          took : Took channel pair.near.run.said
          took = live.met pdu (subst (StandsIn pdu) (sym is) (inl refl)) to

          owed' : Owes pair.far.policy channel.peer (sent channel pair) (drop 4 pdu ∷ Flight channel.own coming) (Counted lost (came channel pair)) pair.far.run.value
          owed' = subst (λ f. Owes pair.far.policy channel.peer (sent channel pair) f (Counted lost (came channel pair)) pair.far.run.value) (ap (Flight channel.own) is ∙ flight_first channel.own pdu coming here) live.owes

          on : (sdu_for (held_at channel.own v) pdu ≡ Some (drop 4 pdu)) ⊎ HeldKeeps pair.near.policy (Left channel.own channel.own) (held_at channel.own v) → Next lost channel (with_near (occurs (Comes pdu) (let_go coming pair.near)) pair)
          on (inl some) = inl (record {
            owes = subst (λ c. Owes pair.far.policy channel.peer (sent channel pair) (Flight channel.own coming) (Counted lost c) pair.far.run.value)
                (sym (up_of_it channel.own pair.near.run.up v pdu so.high to ∙ ap (λ o. came channel pair ++ option_to_list o) some))
                (first_done pair.far.policy channel.peer (sent channel pair) (Flight channel.own coming) (drop 4 pdu) (Counted lost (came channel pair)) (Counted lost (came channel pair ++ drop 4 pdu ∷ [])) pair.far.run.value
                (λ done was. let one = length-append done (drop 4 pdu ∷ []) in let two = length-append (came channel pair) (drop 4 pdu ∷ []) in omega (arith, was, one, two)) owed');
            met = later_met coming (said_in pair.near.policy (Comes pdu) v) (gone_first coming pdu is);
          })
          on (inr left) =
              let all : AllKeep pair.near.policy (Left channel.own) v = left-all pair.near.policy pair.near.run.said v channel.own took.entry so.sound took.found left in
              inr (left-stays pair.near.policy channel.own (Comes pdu) pair.near.run so.sound all)

      by : (coming : List (List ℕ)) → pair.near.coming ≡ coming → Next lost channel (with_near (takes_first coming pair.near) pair)
      by [] is = inl live
      by (pdu ∷ coming) is = went pdu coming is (eqb (channel_of pdu) channel.own) refl

  own_turn : (happening : Happening) → Next (lost + losses_by happening) channel (happens_near happening pair)
  own_turn (Acts occurrence) = inl (subst (λ n. Live n channel (happens_near (Acts occurrence) pair)) (omega arith) (acts_on occurrence))
  own_turn (Puts pdu) = inl (subst (λ n. Live n channel (happens_near (Puts pdu) pair)) (omega arith) (puts_on pdu))
  own_turn Takes = subst (λ n. Next n channel (happens_near Takes pair)) (omega arith) takes_on
  own_turn Repeats = inl (subst (λ n. Live n channel (happens_near Repeats pair)) (omega arith) repeats_on)
  own_turn Loses = inl loses_on
  own_turn (Damages other) = inl (damages_on other)

-- either of both does something
one_turn : (lost : ℕ) (channel : Channel) (pair : Pair) (side by' : Side) (happening : Happening) → Setting channel (seen_from side pair) → Live lost channel (seen_from side pair) → DoesSo IsUttered happening (end_at by' pair) → IsCarried happening (end_at by' pair)
    → Next (lost + on_side side by' (losses_by happening)) channel (seen_from side (happens_at by' happening pair))
one_turn lost channel pair Near Near happening so live uttered carried = own_turn lost channel pair so live happening
one_turn lost channel pair Near Far happening so live uttered carried = inl (subst (λ n. Live n channel (turned (happens_near happening (turned pair)))) (omega arith) (sends_on lost channel pair happening so uttered carried live))
one_turn lost channel pair Far Near happening so live uttered carried = inl (subst (λ n. Live n channel (turned (happens_near happening pair))) (omega arith) (sends_on lost channel (turned pair) happening so uttered carried live))
one_turn lost channel pair Far Far happening so live uttered carried = own_turn lost channel (turned pair) so live happening

-- ---- all turns

all_more : (side : Side) (turns : List Turn) (turn : Turn) → all_losses side (turns ++ turn ∷ []) ≡ all_losses side turns + on_side side turn.side (losses_by turn.happening)
all_more side [] turn = omega arith
all_more side (first ∷ turns) turn = let rest = all_more side turns turn in omega (arith, rest)

-- what is left stays left
left_later : (policy : Policy) (own : ℕ) (before after : Run) → IsSound policy before → AllKeep policy (Left own) before.value → (later : List Occurrence) × (after ≡ fold (run_on policy) before later) → AllKeep policy (Left own) after.value
left_later policy own before after sound left (later, is) =
    subst (λ (run : Run). AllKeep policy (Left own) run.value) (sym is) (goes-on policy (λ run. AllKeep policy (Left own) run.value) (λ run more so kept. left-stays policy own more run so kept) later before sound left).1

shut_later : (near far : Policy) (side : Side) (channel : Channel) (past rest : List Turn) → IsShut channel (seen_from side (pair_of near far past)) → IsShut channel (seen_from side (pair_of near far (past ++ rest)))
shut_later near far Near channel past rest left =
    let before = (pair_of near far past).near in
    let is : before.policy ≡ near = end-policy near far past Near in
    let now : (pair_of near far (past ++ rest)).near.policy ≡ near = end-policy near far (past ++ rest) Near in
    subst (λ p. AllKeep p (Left channel.own) (pair_of near far (past ++ rest)).near.run.value) (sym now)
    (left_later near channel.own before.run (pair_of near far (past ++ rest)).near.run (subst (λ p. IsSound p before.run) is (both-sound near far past).0) (subst (λ p. AllKeep p (Left channel.own) before.run.value) is left) (run-grows near far Near past rest))
shut_later near far Far channel past rest left =
    let before = (pair_of near far past).far in
    let is : before.policy ≡ far = end-policy near far past Far in
    let now : (pair_of near far (past ++ rest)).far.policy ≡ far = end-policy near far (past ++ rest) Far in
    subst (λ p. AllKeep p (Left channel.own) (pair_of near far (past ++ rest)).far.run.value) (sym now)
    (left_later far channel.own before.run (pair_of near far (past ++ rest)).far.run (subst (λ p. IsSound p before.run) is (both-sound near far past).1) (subst (λ p. AllKeep p (Left channel.own) before.run.value) is left) (run-grows near far Far past rest))

all_turns : (near far : Policy) (side : Side) (channel : Channel) (all past rest : List Turn) → all ≡ past ++ rest
    → EachAfter (λ front turn. DoesSo IsUttered turn.happening (end_at turn.side (pair_of near far front))) past rest → EachAfter (λ front turn. IsCarried turn.happening (end_at turn.side (pair_of near far front))) past rest
    → ((front behind : List Turn) → all ≡ front ++ behind → Setting channel (seen_from side (pair_of near far front))) → Live (all_losses side past) channel (seen_from side (pair_of near far past)) → Next (all_losses side all) channel (seen_from side (pair_of near far all))
all_turns near far side channel all past [] is uttered carried so live = subst (λ l. Next (all_losses side l) channel (seen_from side (pair_of near far l))) (sym (is ∙ append-nil past)) (inl live)
all_turns near far side channel all past (turn ∷ rest) is (now, uttered) (passes, carried) so live =
    on (one_turn (all_losses side past) channel (pair_of near far past) side turn.side turn.happening (so past (turn ∷ rest) is) live now passes)
    (λ after. all_turns near far side channel all (past ++ turn ∷ []) rest (is ∙ sym (append_assoc past (turn ∷ []) rest)) uttered carried so after)
  where
    behind : List Turn
    behind = past ++ turn ∷ []

    next : pair_of near far behind ≡ happens_at turn.side turn.happening (pair_of near far past)
    next = fold-append pair_after (new_pair near far) past (turn ∷ [])

    later : all ≡ behind ++ rest
    later = is ∙ sym (append_assoc past (turn ∷ []) rest)

    on : Next (all_losses side past + on_side side turn.side (losses_by turn.happening)) channel (seen_from side (happens_at turn.side turn.happening (pair_of near far past)))
        → (Live (all_losses side behind) channel (seen_from side (pair_of near far behind)) → Next (all_losses side all) channel (seen_from side (pair_of near far all))) → Next (all_losses side all) channel (seen_from side (pair_of near far all))
    on (inl after) goes =
        goes (subst (λ n. Live n channel (seen_from side (pair_of near far behind))) (sym (all_more side past turn)) (subst (λ p. Live (all_losses side past + on_side side turn.side (losses_by turn.happening)) channel (seen_from side p)) (sym next) after))
    on (inr shut) goes = inr (subst (λ l. IsShut channel (seen_from side (pair_of near far l))) (sym later) (shut_later near far side channel behind rest (subst (λ p. IsShut channel (seen_from side p)) (sym next) shut)))

-- ---- a channel that two hosts have in common

states_its : (policy : Policy) (run : Run) (own : ℕ) → IsRunOf policy run → StatesIts own run.value
states_its policy run own (list, runs) = subst (λ (r : Run). StatesIts own r.value) (sym runs) states
  where
    told : RunTold (run_of policy list)
    told = (along policy RunTold nothing_told (λ run more sound told. one_told policy run more sound.core.lone told) list).1

    on : (stage : Stage) (closed : Bool) (peer : ℕ) (setup : Setup) → stage ≡ Connected peer setup → StageTold stage closed → IsStated setup
    on stage closed peer setup is now = (subst (λ s. StageTold s closed) is now).0

    states : StatesIts own (run_of policy list).value
    states held peer setup at is =
        let closed : Bool = is_told_closed own ((run_of policy list).told ++ (run_of policy list).value.events) in
        on held.stage closed peer setup is (subst (λ h. HeldTold h closed) at (told.at own))

-- what a host accepted for the other's endpoint of it is this channel
took_by : (near far : Policy) (side : Side) (front behind : List Turn) (channel : Channel) → AreRead near far front → IsOf (mirrored channel) (read_at channel.peer (reading (said_at side (turned (pair_of near far (front ++ behind))))).entries)
    → HasAccepted channel.peer (said_at side (pair_of near far front)) → Took channel (said_at side (pair_of near far front))
took_by near far side front behind channel read has accepted =
    record { entry = accepted.entry; found = ap (λ (c : Channel). read_at c.own (reading (said_at side (pair_of near far front))).entries) (sym same) ∙ accepted.found; channel_is = same; accepted = accepted.accepted }
  where
    it : Channel
    it = accepted.entry.channel

    common : IsOf (mirrored it) (read_at it.peer (reading (said_at side (turned (pair_of near far (front ++ behind))))).entries)
    common = stays_other near far side front behind (mirrored it) it.peer (channels-are_common near far front read side it.own accepted.entry accepted.found accepted.accepted)

    same : it ≡ channel
    same = ap mirrored (same_channel (mirrored it) (mirrored channel) (read_at channel.peer (reading (said_at side (turned (pair_of near far (front ++ behind))))).entries)
        (subst (λ n. IsOf (mirrored it) (read_at n (reading (said_at side (turned (pair_of near far (front ++ behind))))).entries)) accepted.peer_is common) has)

-- as its taking end has it
abbrev as_had : Side → Channel → Channel
as_had Near channel = channel
as_had Far channel = mirrored channel

module _ (near far : Policy) (turns : List Turn) (channel : Channel) (one other : List Occurrence) (s : Share near far turns channel one other) where
  abbrev pair : Pair
  pair = pair_of near far turns

  wish : OneWishes near far channel.psm Basic
  wish = inl s.near_basic

  runs : IsRunOf near pair.near.run × IsRunOf far pair.far.run
  runs = each-end_runs near far turns

  high : (side : Side) → 0x0040 ≤ (as_had side channel).own
  high Near = high-at near pair.near.run channel channel.own runs.0 s.have.near_has
  high Far = high-at far pair.far.run (mirrored channel) channel.peer runs.1 s.have.far_has

  -- the other end has the channel
  has : (side : Side) (front behind : List Turn) → turns ≡ front ++ behind → IsOf (mirrored (as_had side channel)) (read_at (as_had side channel).peer (reading (said_at side (turned (pair_of near far (front ++ behind))))).entries)
  has Near front behind is = subst (λ l. IsOf (mirrored channel) (read_at channel.peer (reading (pair_of near far l).far.run.said).entries)) is s.have.far_has
  has Far front behind is = subst (λ l. IsOf channel (read_at channel.own (reading (pair_of near far l).near.run.said).entries)) is s.have.near_has

  setting : (side : Side) (front behind : List Turn) → turns ≡ front ++ behind → Setting (as_had side channel) (seen_from side (pair_of near far front))
  setting side front behind is = by side
    where
      fair_now : AreFair near far front
      fair_now = front-each _ [] front behind (subst (AreFair near far) is s.fair)

      read_now : AreRead near far front
      read_now = front-each _ [] front behind (subst (AreRead near far) is s.read)

      passes_now : AreCarried near far front
      passes_now = front-each _ [] front behind (subst (AreCarried near far) is s.carried)

      sole : Ends_so channel (pair_of near far front)
      sole = ends_at near far turns channel s.read s.have wish front behind is

      by : (side : Side) → Setting (as_had side channel) (seen_from side (pair_of near far front))
      by Near = record {
        high = high Near;
        sound = (both-sound near far front).0;
        states = states_its near (pair_of near far front).near.run channel.own (each-end_runs near far front).0;
        basic = sole.near_basic;
        sender = record { high = high Near; sound = (both-sound near far front).1; sole = sole.far_sole; basic = sole.far_basic };
        opened = λ carrier opens. took_by near far Near front behind channel read_now (has Near front behind is) (peers-have_accepted near far front fair_now read_now passes_now Far channel.peer carrier opens);
      }
      by Far = record {
        high = high Far;
        sound = (both-sound near far front).1;
        states = states_its far (pair_of near far front).far.run channel.peer (each-end_runs near far front).1;
        basic = sole.far_basic;
        sender = record { high = high Far; sound = (both-sound near far front).0; sole = sole.near_sole; basic = sole.near_basic };
        opened = λ carrier opens. took_by near far Far front behind (mirrored channel) read_now (has Far front behind is) (peers-have_accepted near far front fair_now read_now passes_now Near channel.own carrier opens);
      }

  first_live : (side : Side) → Live 0 (as_had side channel) (seen_from side (new_pair near far))
  first_live Near = record { owes = record { done = []; rest = []; sent_is = refl; reached = omega arith; held = tt; before = λ above. refl }; met = λ pdu none. elim none [ ] }
  first_live Far = record { owes = record { done = []; rest = []; sent_is = refl; reached = omega arith; held = tt; before = λ above. refl }; met = λ pdu none. elim none [ ] }

  all_live : (side : Side) → Next (all_losses side turns) (as_had side channel) (seen_from side (pair_of near far turns))
  all_live side = all_turns near far side (as_had side channel) turns [] turns refl s.fair s.carried (λ front behind is. setting side front behind is) (first_live side)

-- ---- its host has the channel still

open_still : {X : Type 0} (policy : Policy) (own : ℕ) (v : Channels) → HasStill own v → AllKeep policy (Left own) v → X
open_still policy own v (held, peer, setup, at, is) all =
    let kept : HeldKeeps policy (Left own own) (Some held) = subst (HeldKeeps policy (Left own own)) at (all.at own) in
    let now : StageKeeps (Left own own) (policy.wish held.psm) (Connected peer setup) = subst (StageKeeps (Left own own) (policy.wish held.psm)) is kept in
    let never : false ≡ true = now refl in absurd cc

-- one that waits there was taken and not given
waits_one : (policy : Policy) (own : ℕ) (v : Channels) (rest : List (List ℕ)) → HasStill own v → IsBasic own v → HeldKeeps policy (Waits rest) (held_at own v) → length rest ≤ one_if (waits own v)
waits_one policy own v rest (held, peer, setup, at, is) basic kept =
    let kept' : HeldKeeps policy (Waits rest) (Some held) = subst (HeldKeeps policy (Waits rest)) at kept in
    let now : Waits rest (policy.wish held.psm) false (is_open setup) setup.carrier = subst (StageKeeps (Waits rest) (policy.wish held.psm)) is kept' in
    subst (λ (found : Option Carrier). length rest ≤ one_if (some_waits found)) (sym (ap (λ h. open_carrier (setup_on h)) at ∙ ap (λ stage. open_carrier (setup_of stage)) is)) (by setup.carrier refl (is_open setup) refl now)
  where
    none : (opened : Bool) (carrier : Option Carrier) → rest ≡ [] → length rest ≤ one_if (some_waits (carrier_if opened (record setup { carrier = carrier })))
    none opened carrier is = let zero = ap (λ (l : List (List ℕ)). length l) is in omega (arith, zero)

    by : (carrier : Option Carrier) → setup.carrier ≡ carrier → (opened : Bool) → is_open setup ≡ opened → Waits rest (policy.wish held.psm) false opened carrier → length rest ≤ one_if (some_waits (open_carrier (Some setup)))
    by None same opened opens now = let zero = ap (λ (l : List (List ℕ)). length l) now in omega (arith, zero)
    by (Some (Retransmitting machine)) same opened opens now = let zero = ap (λ (l : List (List ℕ)). length l) now in omega (arith, zero)
    by (Some (Plain agreed None)) same opened opens now = let zero = ap (λ (l : List (List ℕ)). length l) now.0 in omega (arith, zero)
    by (Some (Plain agreed (Some sdu))) same true opens now =
        let one = ap (λ (l : List (List ℕ)). length l) now.0 in
        let some : some_waits (carrier_if (is_open setup) setup) ≡ true = ap (λ b. some_waits (carrier_if b setup)) opens ∙ ap some_waits same in
        let counts = ap one_if some in
        omega (arith, one, counts)
    by (Some (Plain agreed (Some sdu))) same false opens now = let never : Some sdu ≡ None = now.1 refl in absurd cc

-- ---- what its channel took

any_party : Party
any_party = record { frame = 65535; packet = 65535; role = Initiator; dlci = 18 }

took_all : (policy : Policy) (run : Run) (list : List Occurrence) (channel : Channel) → IsRunBy policy run list → IsOf channel (read_at channel.own (reading run.said).entries) → (policy.wish channel.psm).mode ≡ Basic → sent_on channel run.said ≡ taken_of policy channel.own list
took_all policy run list channel runs has mode =
    let has' = subst (λ (r : Run). IsOf channel (read_at channel.own (reading r.said).entries)) runs.run_is has in
    ap (λ (r : Run). sent_on channel r.said) runs.run_is ∙ (sym (sent_are any_party channel (run_of policy list).said (basic_mode policy list channel has' mode)) ∙ plain-goes_out policy any_party list channel runs.uttered has' mode)

-- ---- the law

way_counted : (lost : ℕ) (policy : Policy) (channel : Channel) (pair : Pair) (list : List Occurrence) → pair.far.policy ≡ policy → sent_on (mirrored channel) pair.far.run.said ≡ taken_of policy channel.peer list → HasStill channel.peer pair.far.run.value → IsBasic channel.peer pair.far.run.value
    → Live lost channel pair → count_taken policy (mirrored channel) list ≤ count_come (mirrored channel) (turned pair) + (on_the_way (mirrored channel) (turned pair) + lost)
way_counted lost policy channel pair list policy_is took still basic live =
    let owes = live.owes in
    let flight : List (List ℕ) = Flight channel.own pair.near.coming in
    let whole = ap (λ (l : List (List ℕ)). length l) (sym took ∙ owes.sent_is) in
    let parts = length-append owes.done (flight ++ owes.rest) in
    let more = length-append flight owes.rest in
    let under = length-map (under_way channel.own pair.near.coming) (drop 4) in
    let waiting = waits_one pair.far.policy channel.peer pair.far.run.value owes.rest still basic owes.held in
    let reached = owes.reached in
    omega (arith, whole, parts, more, under, waiting, reached)

pub sdus-are_counted : SdusAreCounted
sdus-are_counted near far turns channel one other s = record { there = there (all_live near far turns channel one other s Far); back = back (all_live near far turns channel one other s Near) }
  where
    pair : Pair
    pair = pair_of near far turns

    sole : Ends_so channel (pair_of near far turns)
    sole = ends_at near far turns channel s.read s.have (inl s.near_basic) turns [] (sym (append-nil turns))

    there : Next (all_losses Far turns) (mirrored channel) (turned (pair_of near far turns)) → count_taken near channel one ≤ count_come channel (pair_of near far turns) + (on_the_way channel (pair_of near far turns) + all_losses Far turns)
    there (inl live) = way_counted (all_losses Far turns) near (mirrored channel) (turned pair) one (end-policy near far turns Near) (took_all near pair.near.run one channel s.near_by s.have.near_has s.near_basic) s.near_still sole.near_basic live
    there (inr shut) = open_still pair.far.policy channel.peer pair.far.run.value s.far_still shut

    back : Next (all_losses Near turns) channel (pair_of near far turns) → count_taken far (mirrored channel) other ≤ count_come (mirrored channel) (turned (pair_of near far turns)) + (on_the_way (mirrored channel) (turned (pair_of near far turns)) + all_losses Near turns)
    back (inl live) = way_counted (all_losses Near turns) far channel pair other (end-policy near far turns Far) (took_all far pair.far.run other (mirrored channel) s.far_by s.have.far_has s.far_basic) s.far_still sole.far_basic live
    back (inr shut) = open_still pair.near.policy channel.own pair.near.run.value s.near_still shut
