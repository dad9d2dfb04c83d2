-- Requests for options come in time while few turns upset.
use Rattle.std.proofs.Common.{◌≡◌, ℕ, List, [], ◌∷◌, ◌++◌, drop, true, false, eqb, Option, Some, None, Ok, refl, sym, ap, subst, ◌∙◌, ◌⊎◌, inl, inr, arith, append_assoc, append-nil}
use Rattle.channel_laws.specs.acl_fragments.specs.Pieces.{channel_of}
use Rattle.channel_laws.specs.capture.specs.Histories.{EachAfter}
use Rattle.channel_laws.specs.l2cap_config.specs.declared.wish.Wish.{Wish}
use Rattle.channel_laws.specs.l2cap_config.specs.Items.{no_options}
use Rattle.channel_laws.specs.l2cap_signal.specs.Commands.{configuration_request, configuration_response}
use Rattle.channel_laws.specs.l2cap_signal.specs.Reading.{answers}
use Rattle.channel_laws.specs.link_talk.specs.Channels.{Entry, reading}
use Rattle.channel_laws.specs.channel_model.specs.Changing.{held_at, setup_of}
use Rattle.channel_laws.specs.channel_model.specs.Policies.{Policy}
use Rattle.channel_laws.specs.channel_model.specs.Value.{Setup, Stage, Requested, Connected, Leaving, Closing, Crossed, Held, Channels}
use Rattle.channel_laws.specs.channel_model.proofs.Lookups.{own_of, found-has}
use Rattle.channel_laws.specs.Awaited.{asks_for_end}
use Rattle.channel_laws.specs.Belonging.{said_at}
use Rattle.channel_laws.specs.Ends.{end_at}
use Rattle.channel_laws.specs.OwnTalk.{command_with}
use Rattle.channel_laws.specs.Pairs.{End, Pair, Happening, Acts, Puts, Takes, Repeats, Loses, Damages, Side, Near, Far, turned, Turn, pair_of, IsRunOf}
use Rattle.channel_laws.specs.Pipes.{CanStateBoth, CanState}
use Rattle.channel_laws.specs.Runs.{Run}
use Rattle.channel_laws.specs.Signals.{StandsIn}
use Rattle.channel_laws.specs.Views.{read_at, peer_of, life_of}
use Rattle.channel_laws.proofs.Belonging.{pledges-were_said}
use Rattle.channel_laws.proofs.Costing.{each_behind}
use Rattle.channel_laws.proofs.Mating.{front-each}
use Rattle.channel_laws.proofs.Pairing.{each-end_runs}
use Rattle.channel_laws.proofs.Sound.{ReadsBy, Reads}
use Rattle.configuration_laws.specs.Asked.{EndsAreAskedFor}
use Rattle.configuration_laws.specs.Met.{StayingRemains}
use Rattle.disconnection_laws.specs.Ended.{HasAnsweredEnd, AnsweredEndsAreEnded}
use Rattle.staying_laws.specs.forgoing_laws.specs.Lasts.{AreOrderly, GoOn}
use Rattle.staying_laws.specs.forgoing_laws.proofs.Lasting.{orderly_ahead}
use Rattle.staying_laws.specs.forgoing_laws.specs.lasting_laws.specs.Lasting.{OptionsSucceed}
use Rattle.accepting_laws.specs.Accepted.{AwaitsOptions}
use Rattle.accepting_laws.specs.First.{SuggestsNone}
use Rattle.accepting_laws.specs.InTime.{WishTheSame}
use Rattle.accepting_laws.specs.Together.{HasNoChannel, ComesInTime, IsInTime, AllInTimeSucceed}
use Rattle.lateness_laws.specs.Late.{AsksOptionsOnce, AskOptionsSingly, HasHeardOptions, AreUnderWay, IsLast, IsNotOpen, IsInOrder, OneChannelAsksOnce, HeardOptionsAreLast, NoOptionsComeLate, NoPartWaits}
use Rattle.lateness_laws.specs.Once.{CountsOne, PeersAreApart, OptionsAreAskedOnce, RemainingAsksOnce}
use Rattle.leaving_laws.specs.Left.{NoneWaitsInQuiet, OptionsOfLeftAreCounted}
use Rattle.recovered_laws.specs.Calm.{CalmIsQuiet}
use Rattle.staying_laws.specs.Stays.{AnswerWell, IsKept, FewNearMachines, FewTurnsCloseNone, FewTurnsEndNoneOfBoth}
use Rattle.staying_laws.proofs.Crossing.{all-crossed}
use Rattle.staying_laws.proofs.Kept.{found-kept}
use Rattle.staying_laws.proofs.Peers.{each_more, options_succeed}
use Rattle.staying_laws.proofs.There.{IsLive}
use Rattle.timely_laws.specs.Timely.{NearCountsOne, FewTurnsAnswerWell}
use Rattle.timely_laws.proofs.Unheard.{Unheard, sound-run}
use Rattle.timely_laws.proofs.Unclosed.{UnheardAreKept, near-unheard, far-unheard}

-- ---- one host, and a request for options that comes first to it

-- it finds a channel that its host did not close, that is not open, and of which no part waits
finds : (own : ℕ) (v : Channels) → IsNotOpen own v → ((held : Held) (setup : Setup) → held_at own v ≡ Some held → setup_of held.stage ≡ Some setup → setup.parts ≡ no_options) → ((held : Held) → held_at own v ≡ Some held → IsLive held.stage)
    → HasNoChannel own v ⊎ ((peer : ℕ) × (psm : ℕ) × AwaitsOptions own peer psm v)
finds own v not_open no_part live = by (held_at own v) refl
  where
    awaits : (held : Held) → held_at own v ≡ Some held → (peer : ℕ) (setup : Setup) → peer_of held.stage ≡ Some peer → setup_of held.stage ≡ Some setup → HasNoChannel own v ⊎ ((peer : ℕ) × (psm : ℕ) × AwaitsOptions own peer psm v)
    awaits held found peer setup to has =
        inr (peer, held.psm, record { held = held; setup = setup; found = found; psm_is = refl; peer_is = to; setup_is = has; not_open = not_open held setup found has; no_part = no_part held setup found has })

    on : (held : Held) → held_at own v ≡ Some held → (stage : Stage) → held.stage ≡ stage → HasNoChannel own v ⊎ ((peer : ℕ) × (psm : ℕ) × AwaitsOptions own peer psm v)
    on held found (Requested request) is = inl (λ other at. let both : Some held ≡ Some other = sym found ∙ at in let same : held ≡ other = cc in ap (λ (h : Held). peer_of h.stage) (sym same) ∙ ap peer_of is)
    on held found (Connected peer setup) is = awaits held found peer setup (ap peer_of is) (ap setup_of is)
    on held found (Leaving peer setup request) is = awaits held found peer setup (ap peer_of is) (ap setup_of is)
    on held found (Closing peer request checked) is = absurd (subst IsLive is (live held found))
    on held found (Crossed peer request) is = absurd (subst IsLive is (live held found))

    by : (found : Option Held) → held_at own v ≡ found → HasNoChannel own v ⊎ ((peer : ℕ) × (psm : ℕ) × AwaitsOptions own peer psm v)
    by None at = inl (λ held is. let never : None ≡ Some held = sym at ∙ is in absurd cc)
    by (Some held) at = on held at held.stage refl

-- a channel whose end both asked for is one whose end it answered
crossed_answered : (policy : Policy) (run : Run) → IsRunOf policy run → (own : ℕ) (held : Held) → held_at own run.value ≡ Some held → (peer : ℕ) (request : _) → held.stage ≡ Crossed peer request → (identifier : ℕ) × (mine : ℕ) × (theirs : ℕ) × HasAnsweredEnd identifier mine theirs run.said
crossed_answered policy run runs own held found peer request is = by (read_at own (reading run.said).entries) refl (subst (λ p. ReadsBy policy held p (read_at own (reading run.said).entries)) (ap peer_of is) (subst (λ h. Reads policy h (read_at own (reading run.said).entries)) found ((sound-run policy run runs).core.reads own)))
  where
    by : (entry : Option Entry) → read_at own (reading run.said).entries ≡ entry → ReadsBy policy held (Some peer) entry → (identifier : ℕ) × (mine : ℕ) × (theirs : ℕ) × HasAnsweredEnd identifier mine theirs run.said
    by None at reads = elim reads [ ]
    by (Some entry) at reads = let (identifier, answered) = all-crossed run.said own entry at (reads.0.life_is ∙ ap life_of is) in (identifier, entry.channel.own, entry.channel.peer, answered)

-- ---- both hosts at a moment

module _ (near far : Policy) (past : List Turn) (answers_well : AnswerWell near far past) (orderly : AreOrderly near far past) (on : GoOn near far past) where
  abbrev pair : Pair
  pair = pair_of near far past

  -- none of what one heard suggests other options, as the other said success alone
  suggests_none : (side : Side) → SuggestsNone (said_at side pair)
  suggests_none Near identifier own flags options stands =
      let never : 1 ≡ 0 = answers_well.far_answers identifier own flags 1 options (pledges-were_said near far past orderly.read Near (command_with identifier (configuration_response own flags 1 options)) refl stands) in absurd (omega (arith, never))
  suggests_none Far identifier own flags options stands =
      let never : 1 ≡ 0 = answers_well.near_answers identifier own flags 1 options (pledges-were_said near far past orderly.read Far (command_with identifier (configuration_response own flags 1 options)) refl stands) in absurd (omega (arith, never))

  -- both wait for the response to one request for options at a time
  ask_once : OneChannelAsksOnce → StayingRemains → RemainingAsksOnce → CountsOne pair.near.run.value → (side : Side) → AsksOptionsOnce (end_at side pair).run.value
  ask_once one staying remaining counts Near = one pair.near.run.value counts
  ask_once one staying remaining counts Far =
      remaining near far past orderly.read Far (suggests_none Far) counts (λ own. staying near far past orderly.read Far own (record { not_asked = λ peer asked. on.lasts.no_end asked.0 own peer asked.1; not_forgone = λ peer gave. on.forgoes peer own gave }))

  -- ---- what comes first to a host, of the requests for options of its peer

  module _ (ordered : HeardOptionsAreLast) (late : NoOptionsComeLate) (parts : NoPartWaits) (apart : PeersAreApart) (once : OptionsAreAskedOnce) (single : (side : Side) → AskOptionsSingly side near far past) where
    asked_once : (side : Side) (own : ℕ) (earlier identifier : ℕ) → (let hears : End = end_at side (turned pair) in HasHeardOptions earlier own hears.run.said → AreUnderWay identifier own hears.coming → earlier ≡ identifier)
    asked_once side own = once near far past orderly.read side (suggests_none side) (apart near far past orderly.read orderly.none_called orderly.apart side) own

    in_order : (side : Side) (identifier own : ℕ) → AreUnderWay identifier own (end_at side (turned pair)).coming → IsInOrder identifier (end_at side (turned pair))
    in_order Near identifier own under = ordered near far past orderly.read Near orderly.near_rise (single Near) identifier own under
    in_order Far identifier own under = ordered near far past orderly.read Far orderly.far_rise (single Far) identifier own under

    -- unless it is the last one again none was heard for the channel
    unheard : (side : Side) (identifier own : ℕ) → AreUnderWay identifier own (end_at side (turned pair)).coming → (IsLast identifier (end_at side (turned pair)).run.value → ⊥) → Unheard own (end_at side (turned pair)).run.said
    unheard side identifier own under anew earlier heard =
        anew ((in_order side identifier own under).again own (subst (λ n. HasHeardOptions n own (end_at side (turned pair)).run.said) (asked_once side own earlier identifier heard under) heard))

    not_late : (side : Side) (identifier own : ℕ) → AreUnderWay identifier own (end_at side (turned pair)).coming → IsNotOpen own (end_at side (turned pair)).run.value ⊎ IsLast identifier (end_at side (turned pair)).run.value
    not_late Near identifier own under = late near far past orderly.read Near orderly.near_rise (single Near) identifier own (asked_once Near own) under
    not_late Far identifier own under = late near far past orderly.read Far orderly.far_rise (single Far) identifier own (asked_once Far own) under

    -- the far host closed no channel at all
    far_live : (own : ℕ) (held : Held) → held_at own pair.far.run.value ≡ Some held → IsLive held.stage
    far_live own held found = by held.stage (on.lasts.there own held found)
      where
        by : (stage : Stage) → asks_for_end stage ≡ false → IsLive stage
        by (Requested request) is = tt
        by (Connected peer setup) is = tt
        by (Leaving peer setup request) is = tt
        by (Closing peer request checked) is = cc
        by (Crossed peer request) is = cc

    -- and the near one none for whose options a new request comes; it answered no request for an end, as the far one made none
    near_live : EndsAreAskedFor → UnheardAreKept pair → (identifier own : ℕ) → AreUnderWay identifier own pair.near.coming → Unheard own pair.near.run.said → (held : Held) → held_at own pair.near.run.value ≡ Some held → IsLive held.stage
    near_live asked kept identifier own under none held found = by held.stage refl
      where
        by : (stage : Stage) → held.stage ≡ stage → IsLive stage
        by (Requested request) is = tt
        by (Connected peer setup) is = tt
        by (Leaving peer setup request) is = tt
        by (Closing peer request checked) is = subst IsKept is (found-kept own own pair.near.run.value held (kept identifier own under none) found (found-has own_of own pair.near.run.value.held held found))
        by (Crossed peer request) is =
            let (answer, mine, theirs, answered) = crossed_answered near pair.near.run (each-end_runs near far past).0 own held found peer request is in
            let (request_for, asks) = asked near far past orderly.read Near answer mine theirs answered in on.lasts.no_end request_for theirs mine asks

    -- so it is in time
    comes : (side : Side) → ((identifier own : ℕ) → AreUnderWay identifier own (end_at side (turned pair)).coming → Unheard own (end_at side (turned pair)).run.said → (held : Held) → held_at own (end_at side (turned pair)).run.value ≡ Some held → IsLive held.stage)
        → ((own : ℕ) (held : Held) (setup : Setup) → held_at own (end_at side (turned pair)).run.value ≡ Some held → setup_of held.stage ≡ Some setup → setup.parts ≡ no_options)
        → ComesInTime (end_at side (turned pair)).coming (end_at side (turned pair)).run.value
    comes side live no_part = by (end_at side (turned pair)).coming refl
      where
        by : (coming : List (List ℕ)) → (end_at side (turned pair)).coming ≡ coming → ComesInTime coming (end_at side (turned pair)).run.value
        by [] is = tt
        by (pdu ∷ rest) is = λ identifier own flags options signals reads anew. one identifier own flags options signals reads (λ last. anew last.0 last.1 last.2)
          where
            one : (identifier own flags : ℕ) (options : List ℕ) → (eqb (channel_of pdu) 0x0001) ≡ true → answers (drop 4 pdu) ≡ Ok (command_with identifier (configuration_request own flags options)) ∷ [] → (IsLast identifier (end_at side (turned pair)).run.value → ⊥)
                → HasNoChannel own (end_at side (turned pair)).run.value ⊎ ((peer : ℕ) × (psm : ℕ) × AwaitsOptions own peer psm (end_at side (turned pair)).run.value)
            one identifier own flags options signals reads anew = either (not_late side identifier own under)
              where
                under : AreUnderWay identifier own (end_at side (turned pair)).coming
                under = (pdu, flags, options, subst (StandsIn pdu) (sym is) (inl refl), signals, reads)

                either : IsNotOpen own (end_at side (turned pair)).run.value ⊎ IsLast identifier (end_at side (turned pair)).run.value → HasNoChannel own (end_at side (turned pair)).run.value ⊎ ((peer : ℕ) × (psm : ℕ) × AwaitsOptions own peer psm (end_at side (turned pair)).run.value)
                either (inl not_open) = finds own (end_at side (turned pair)).run.value not_open (no_part own) (live identifier own under (unheard side identifier own under anew))
                either (inr last) = absurd (anew last)

    in_time : EndsAreAskedFor → UnheardAreKept pair → (side : Side) (happening : Happening) → IsInTime happening (end_at side pair)
    in_time asked kept Near happening = by happening
      where
        now : ComesInTime pair.near.coming pair.near.run.value
        now = comes Far (near_live asked kept) (parts near far past orderly.read Near)

        by : (happening : Happening) → IsInTime happening pair.near
        by (Acts occurrence) = tt
        by (Puts pdu) = tt
        by Takes = now
        by Repeats = now
        by Loses = tt
        by (Damages pdu) = tt
    in_time asked kept Far happening = by happening
      where
        now : ComesInTime pair.far.coming pair.far.run.value
        now = comes Near (λ identifier own under none. far_live own) (parts near far past orderly.read Far)

        by : (happening : Happening) → IsInTime happening pair.far
        by (Acts occurrence) = tt
        by (Puts pdu) = tt
        by Takes = now
        by Repeats = now
        by Loses = tt
        by (Damages pdu) = tt

-- ---- all moments

-- what is so up to a moment
record SoFar (near far : Policy) (past : List Turn) : Type 0 where
  answered : AnswerWell near far past
  timely : EachAfter (λ front turn. IsInTime turn.happening (end_at turn.side (pair_of near far front))) [] past
  single : (side : Side) → AskOptionsSingly side near far past
  kept : UnheardAreKept (pair_of near far past)

module _ (succeed : AllInTimeSucceed) (asked : EndsAreAskedFor) (staying : StayingRemains) (ended : AnsweredEndsAreEnded) (ordered : HeardOptionsAreLast) (late : NoOptionsComeLate) (parts : NoPartWaits) (one : OneChannelAsksOnce) (apart : PeersAreApart) (once : OptionsAreAskedOnce) (remaining : RemainingAsksOnce)
    (counted : OptionsOfLeftAreCounted) (calm : CalmIsQuiet) (close : FewTurnsCloseNone) (go : FewTurnsEndNoneOfBoth) (near far : Policy) (same : WishTheSame near far) where
  can : (psm : ℕ) → CanStateBoth near far psm
  can psm = let (wish, accepted) = same psm in record { near_can = accepted.can; far_can = subst CanState wish accepted.can }

  few_machines : (turns : List Turn) → AreOrderly near far turns → FewNearMachines near far turns
  few_machines turns orderly psm = let few = orderly.few_machines psm in let tries = ap (λ (wish : Wish). wish.tries) (same psm).0 in omega (arith, few, tries)

  one_turn : (past : List Turn) (turn : Turn) → AreOrderly near far (past ++ turn ∷ []) → CountsOne (pair_of near far past).near.run.value → ((own : ℕ) → NoneWaitsInQuiet own near far past) → SoFar near far past → SoFar near far (past ++ turn ∷ [])
  one_turn past turn orderly counts quiet so = record { answered = answered; timely = timely; single = single; kept = kept turn.side turn.happening refl }
    where
      before : AreOrderly near far past
      before = orderly_ahead near far past (turn ∷ []) orderly

      on : GoOn near far past
      on = go near far past can before (few_machines past before) so.answered

      timely : EachAfter (λ front t. IsInTime t.happening (end_at t.side (pair_of near far front))) [] (past ++ turn ∷ [])
      timely =
          each_more (λ (front : List Turn) (t : Turn). IsInTime t.happening (end_at t.side (pair_of near far front))) [] past turn so.timely (in_time near far past so.answered before on ordered late parts apart once so.single asked so.kept turn.side turn.happening)

      answered : AnswerWell near far (past ++ turn ∷ [])
      answered = let both = succeed near far (past ++ turn ∷ []) orderly.read same timely in record { near_answers = both.0; far_answers = both.1 }

      single : (side : Side) → AskOptionsSingly side near far (past ++ turn ∷ [])
      single side = each_more (λ (front : List Turn) (t : Turn). AsksOptionsOnce (end_at side (pair_of near far front)).run.value) [] past turn (so.single side) (ask_once near far past so.answered before on one staying remaining counts side)

      kept : (side : Side) (happening : Happening) → turn ≡ record { side = side; happening = happening } → UnheardAreKept (pair_of near far (past ++ turn ∷ []))
      kept Near happening is =
          subst (λ t. UnheardAreKept (pair_of near far (past ++ t ∷ []))) (sym is)
          (near-unheard near far past counted calm happening (subst (λ t. AreOrderly near far (past ++ t ∷ [])) is orderly) on quiet
          (subst (λ t. OptionsSucceed (pair_of near far (past ++ t ∷ [])).near.run.said) is (options_succeed near far (past ++ turn ∷ []) orderly.read answered)) so.kept)
      kept Far happening is =
          subst (λ t. UnheardAreKept (pair_of near far (past ++ t ∷ []))) (sym is)
          (far-unheard near far past ended happening (subst (λ t. AreOrderly near far (past ++ t ∷ [])) is orderly) (apart near far past before.read before.none_called before.apart Far) (close near far past can before (few_machines past before) so.answered) so.kept)

  all_turns : (turns : List Turn) → AreOrderly near far turns → NearCountsOne near far turns → ((own : ℕ) → NoneWaitsInQuiet own near far turns) → (past later : List Turn) → turns ≡ past ++ later → SoFar near far past → SoFar near far turns
  all_turns turns orderly counts quiet past [] is so = subst (SoFar near far) (sym (is ∙ append-nil past)) so
  all_turns turns orderly counts quiet past (turn ∷ later) is so =
      let further : turns ≡ (past ++ turn ∷ []) ++ later = is ∙ sym (append_assoc past (turn ∷ []) later) in
      let now : CountsOne (pair_of near far past).near.run.value = (each_behind (λ (front : List Turn) (t : Turn). CountsOne (pair_of near far front).near.run.value) [] past (turn ∷ later) (subst (NearCountsOne near far) is counts)).0 in
      let calm_so : (own : ℕ) → NoneWaitsInQuiet own near far past = λ own. front-each _ [] past (turn ∷ later) (subst (NoneWaitsInQuiet own near far) is (quiet own)) in
      all_turns turns orderly counts quiet (past ++ turn ∷ []) later further
      (one_turn past turn (orderly_ahead near far (past ++ turn ∷ []) later (subst (AreOrderly near far) further orderly)) now calm_so so)

pub few-turns_answer_well : AllInTimeSucceed → EndsAreAskedFor → StayingRemains → AnsweredEndsAreEnded → HeardOptionsAreLast → NoOptionsComeLate → NoPartWaits → OneChannelAsksOnce → PeersAreApart → OptionsAreAskedOnce → RemainingAsksOnce → OptionsOfLeftAreCounted → CalmIsQuiet
    → FewTurnsCloseNone → FewTurnsEndNoneOfBoth → FewTurnsAnswerWell
few-turns_answer_well succeed asked staying ended ordered late parts one apart once remaining counted calm close go near far turns same orderly counts quiet =
    (all_turns succeed asked staying ended ordered late parts one apart once remaining counted calm close go near far same turns orderly counts quiet [] turns refl nothing_yet).answered
  where
    nothing_yet : SoFar near far []
    nothing_yet = record {
      answered = record { near_answers = λ identifier peer flags result options stands. elim stands [ ]; far_answers = λ identifier peer flags result options stands. elim stands [ ] };
      timely = tt;
      single = λ side. tt;
      kept = λ identifier own under none. tt;
    }
