-- While few turns upset, each channel that the far host has is there at the near one.
use Rattle.std.proofs.Common.{◌≡◌, ◌<◌, ℕ, List, [], ◌∷◌, ◌++◌, true, false, Some, refl, sym, subst, ◌∙◌, arith, append_assoc, append-nil}
use Rattle.std.specs.List.{AllByRecursion}
use Rattle.std.proofs.lemmas.List.Sums.{fold-append}
use Rattle.channel_laws.specs.capture.specs.Histories.{EachAfter}
use Rattle.channel_laws.specs.capture.specs.declared.flow.Flow.TheVariants.{Out, Into}
use Rattle.channel_laws.specs.l2cap_signal.specs.Commands.{configuration_response}
use Rattle.channel_laws.specs.link_talk.specs.declared.channel.Channel.{Channel}
use Rattle.channel_laws.specs.channel_model.specs.declared.errand.Errand.TheVariants as errands
use Rattle.channel_laws.specs.channel_model.specs.Policies.{Policy}
use Rattle.channel_laws.specs.channel_model.specs.Value.{Request}
use Rattle.channel_laws.specs.Belonging.{AreRead, IsRead}
use Rattle.channel_laws.specs.Ends.{end_at}
use Rattle.channel_laws.specs.Heeded.{MetIsHeeded}
use Rattle.channel_laws.specs.OwnTalk.{command_with}
use Rattle.channel_laws.specs.Pairs.{Pair, new_pair, Happening, Acts, Side, Near, Far, turned, Turn, happens_at, pair_after, pair_of}
use Rattle.channel_laws.specs.Pipes.{IsCarried, IsSeen, HaveChannel, CanStateBoth}
use Rattle.channel_laws.specs.Runs.{Run, Fires}
use Rattle.channel_laws.specs.Tries.{request_of}
use Rattle.channel_laws.proofs.Belonging.{pledges-were_said}
use Rattle.channel_laws.proofs.Costing.{each_behind}
use Rattle.channel_laws.proofs.Pairing.{each-end_runs, end-policy}
use Rattle.configuration_laws.specs.Asked.{EndsAreAskedFor}
use Rattle.configuration_laws.specs.Met.{Remains, OptionsAreMet, StayingRemains}
use Rattle.disconnection_laws.specs.Ended.{AnsweredEndsAreEnded}
use Rattle.disconnection_laws.specs.Met.{EndsAreMet}
use Rattle.lasting_laws.specs.Ends.{PeerStays, FewUpsetsEndNone}
use Rattle.lasting_laws.specs.Lasting.{OptionsSucceed, AsksForNoEnd}
use Rattle.lasting_laws.proofs.Machines.{upsets-ahead}
use Rattle.recovered_laws.specs.Calm.{all_upsets, CalmIsQuiet}
use Rattle.recovered_laws.specs.Paid.{IsThere, MachinesArePaid}
use Rattle.forgoing_laws.specs.Forgone.{FewDisturbancesForgoNone}
use Rattle.forgoing_laws.specs.Lasts.{AreOrderly, StaysThere, GoOn, FewTurnsEndNone}
use Rattle.forgoing_laws.proofs.Lasting.{said_ahead, orderly_ahead, far_forgoes}
use Rattle.forgoing_laws.proofs.Spending.{unspent-at, said_apart}
use Rattle.staying_laws.specs.Stays.{AnswerWell, AllKept, FewTurnsCloseNone, FewTurnsKeepPeers, FewTurnsEndNoneOfBoth}
use Rattle.staying_laws.proofs.Machines.{withstands-front, withstands-damage, withstands-timer}
use Rattle.staying_laws.proofs.Standing.{IsSingle, near-single, far-single, Withstands, near-kept}
use Rattle.staying_laws.proofs.There.{far-there, far-remains, near-there}

-- what is so of each, and of one more
pub each_more : {X : Type 0} (P : List X → X → Type 0) (front xs : List X) (x : X) → EachAfter P front xs → P (front ++ xs) x → EachAfter P front (xs ++ x ∷ [])
each_more P front [] x all is = (subst (λ l. P l x) (append-nil front) is, tt)
each_more P front (y ∷ ys) x (now, rest) is = (now, each_more P (front ++ y ∷ []) ys x rest (subst (λ l. P l x) (sym (append_assoc front (y ∷ []) ys)) is))

-- fewer turns upset than the machines of the near host try, and both answer requests for options with success
record Well (near far : Policy) (turns : List Turn) : Type 0 where
  few_machines : (psm : ℕ) → all_upsets (new_pair near far) turns < (near.wish psm).tries
  answers : AnswerWell near far turns

module _ (near far : Policy) where
  well_ahead : (past later : List Turn) → Well near far (past ++ later) → Well near far past
  well_ahead past later well = record {
    few_machines = λ psm. let most = well.few_machines psm in let less = upsets-ahead (new_pair near far) past later in omega (arith, less, most);
    answers = record {
      near_answers = λ identifier peer flags result options stands. well.answers.near_answers identifier peer flags result options (said_ahead near far Near past later _ stands);
      far_answers = λ identifier peer flags result options stands. well.answers.far_answers identifier peer flags result options (said_ahead near far Far past later _ stands);
    };
  }

  -- what the near host heard, the far one said
  pub options_succeed : (turns : List Turn) → AreRead near far turns → AnswerWell near far turns → OptionsSucceed (pair_of near far turns).near.run.said
  options_succeed turns read well Out identifier peer flags result options stood = well.near_answers identifier peer flags result options stood
  options_succeed turns read well Into identifier peer flags result options stood =
      well.far_answers identifier peer flags result options (pledges-were_said near far turns read Near (command_with identifier (configuration_response peer flags result options)) refl stood)

  remains_ahead : (past later : List Turn) (own : ℕ) → Remains own (pair_of near far (past ++ later)).far.run.said → Remains own (pair_of near far past).far.run.said
  remains_ahead past later own stays = record {
    unanswered = λ identifier peer answered. stays.unanswered identifier peer (said_ahead near far Far past later _ answered);
    not_forgone = λ peer gave. stays.not_forgone peer (said_ahead near far Far past later _ gave);
  }

  -- so far: each channel that the far host did not end is one that the near one did not close
  record Holds (past : List Turn) : Type 0 where
    kept : (own : ℕ) → Remains own (pair_of near far past).far.run.said → AllKept own (pair_of near far past).near.run.value
    coming : AllByRecursion IsSingle (pair_of near far past).near.coming

  module _ (heeded : MetIsHeeded) (forgo : FewDisturbancesForgoNone) (ends_met : EndsAreMet) (options_met : OptionsAreMet) (remaining : StayingRemains) (few_end : FewUpsetsEndNone) (calm : CalmIsQuiet) (asked_for : EndsAreAskedFor) (ended : AnsweredEndsAreEnded) (paid : MachinesArePaid)
      (go : FewTurnsEndNone) (can : (psm : ℕ) → CanStateBoth near far psm) where
    peer_at : (past : List Turn) → AreOrderly near far past → StaysThere near far past → Holds past → PeerStays near far past
    peer_at past orderly stays holds channel have (held, setup, m, found, has, is) =
        near-there asked_for near far past orderly.read on.lasts.no_end channel have (holds.kept channel.own remains) on.forgoes remains
      where
        on : GoOn near far past
        on = go near far past can orderly stays

        remains : Remains channel.own (pair_of near far past).far.run.said
        remains =
            far-remains asked_for near far past orderly.read on.lasts.no_end channel have ended orderly.none_called orderly.apart
            (far_forgoes heeded forgo ends_met options_met remaining few_end calm near far can past orderly stays) (held, setup, found, has)

    -- one turn
    module _ (past : List Turn) (side : Side) (happening : Happening) (orderly : AreOrderly near far (past ++ record { side = side; happening = happening } ∷ [])) (well : Well near far (past ++ record { side = side; happening = happening } ∷ [])) (stays : StaysThere near far past) (holds : Holds past) where
      abbrev turn : Turn
      turn = record { side = side; happening = happening }

      abbrev after : List Turn
      after = past ++ turn ∷ []

      before : AreOrderly near far past
      before = orderly_ahead near far past (turn ∷ []) orderly

      on : GoOn near far past
      on = go near far past can before stays

      next : pair_of near far after ≡ happens_at side happening (pair_of near far past)
      next = fold-append pair_after (new_pair near far) past (turn ∷ [])

      unspent : happening ≡ Acts Fires → (own : ℕ) → Remains own (pair_of near far past).far.run.said → (request : Request) → request_of (errands.Configuration own) (pair_of near far past).near.run.value ≡ Some request → request.given < near.tries
      unspent fires own remains request is =
          unspent-at heeded near far past turn before.fair before.read Near (errands.Configuration own) (options_met near far past before.read before.room Near before.near_rise own remains) fires near.tries
          (let less = calm (new_pair near far) after in let few = orderly.few_near in omega (arith, less, few)) request is

      withstands : (own : ℕ) → Remains own (pair_of near far past).far.run.said → Withstands own near happening (pair_of near far past).near
      withstands own remains =
          let there : (channel : Channel) → HaveChannel near far past channel → channel.own ≡ own → IsThere channel.peer (pair_of near far past).far.run.value
          = λ channel have same. far-there asked_for near far past before.read on.lasts.no_end channel have on.lasts (subst (λ n. Remains n (pair_of near far past).far.run.said) (sym same) remains) in
          let few = (well_ahead past (turn ∷ []) well).few_machines in
          record {
            front = λ pdu behind coming_is single. (single, λ same setup m found carrier taken. withstands-front near far past before.fair before.read before.carried paid can few own there pdu behind coming_is same setup m found carrier);
            damage = λ other plain seen pdu behind coming_is.
                let bad = subst (λ c. IsSeen c other) coming_is seen in
                ((λ signals. let never : true ≡ false = sym signals ∙ plain in absurd cc), λ same setup m found carrier taken. withstands-damage near far past before.fair before.read before.carried paid can few own there other bad.1 same setup m found carrier taken);
            timer = λ fires. withstands-timer near far past before.fair before.read before.carried paid can few own there (unspent fires own remains);
          }

      now_read : IsRead happening (end_at side (pair_of near far past))
      now_read = (each_behind (λ front one. IsRead one.happening (end_at one.side (pair_of near far front))) [] past (turn ∷ []) orderly.read).0

      now_carried : IsCarried happening (end_at side (pair_of near far past))
      now_carried = (each_behind (λ front one. IsCarried one.happening (end_at one.side (pair_of near far front))) [] past (turn ∷ []) orderly.carried).0

    turn_holds : (past : List Turn) (side : Side) (happening : Happening) → (let turn : Turn = record { side = side; happening = happening } in AreOrderly near far (past ++ turn ∷ []) → Well near far (past ++ turn ∷ []) → StaysThere near far past → Holds past → Holds (past ++ turn ∷ []))
    turn_holds past Near happening orderly well stays holds = record {
      kept = λ own remains.
          let mine = remains_ahead past (record { side = Near; happening = happening } ∷ []) own remains in
          subst (λ (p : Pair). AllKept own p.near.run.value) (sym (next past Near happening orderly well stays holds))
          (near-kept own near (pair_of near far past) happening (end-policy near far past Near) (each-end_runs near far past).0 (withstands past Near happening orderly well stays holds own mine)
          (now_read past Near happening orderly well stays holds) (now_carried past Near happening orderly well stays holds) holds.coming
          (subst (λ (p : Pair). OptionsSucceed p.near.run.said) (next past Near happening orderly well stays holds) (options_succeed (past ++ record { side = Near; happening = happening } ∷ []) orderly.read well.answers)) (holds.kept own mine));
      coming = subst (λ (p : Pair). AllByRecursion IsSingle p.near.coming) (sym (next past Near happening orderly well stays holds)) (near-single (pair_of near far past) happening holds.coming);
    }
    turn_holds past Far happening orderly well stays holds = record {
      kept = λ own remains.
          subst (λ (p : Pair). AllKept own p.near.run.value) (sym (next past Far happening orderly well stays holds))
          (subst (λ (r : Run). AllKept own r.value) (sym (said_apart (turned (pair_of near far past)) happening)) (holds.kept own (remains_ahead past (record { side = Far; happening = happening } ∷ []) own remains)));
      coming =
          subst (λ (p : Pair). AllByRecursion IsSingle p.near.coming) (sym (next past Far happening orderly well stays holds))
          (far-single (turned (pair_of near far past)) happening (now_read past Far happening orderly well stays holds) holds.coming);
    }

    all_stay : (turns : List Turn) → AreOrderly near far turns → Well near far turns → (past later : List Turn) → turns ≡ past ++ later → StaysThere near far past → Holds past → StaysThere near far turns × Holds turns
    all_stay turns orderly well past [] is stays holds = subst (λ list. StaysThere near far list × Holds list) (sym (is ∙ append-nil past)) (stays, holds)
    all_stay turns orderly well past (turn ∷ later) is stays holds =
        let further : turns ≡ (past ++ turn ∷ []) ++ later = is ∙ sym (append_assoc past (turn ∷ []) later) in
        let so = orderly_ahead near far (past ++ turn ∷ []) later (subst (AreOrderly near far) further orderly) in
        let also = well_ahead (past ++ turn ∷ []) later (subst (Well near far) further well) in
        all_stay turns orderly well (past ++ turn ∷ []) later further
        (record {
          peer = each_more (λ front one. AsksForNoEnd (pair_of near far front).far.run.said → PeerStays near far front) [] past turn stays.peer (λ none. peer_at past (orderly_ahead near far past (turn ∷ []) so) stays holds);
          near_answers = also.answers.near_answers;
          far_answers = also.answers.far_answers;
        })
        (turn_holds past turn.side turn.happening so also stays holds)

    both_stay : (turns : List Turn) → AreOrderly near far turns → Well near far turns → StaysThere near far turns × Holds turns
    both_stay turns orderly well =
        all_stay turns orderly well [] turns refl
        (record { peer = tt; near_answers = λ identifier peer flags result options stands. elim stands [ ]; far_answers = λ identifier peer flags result options stands. elim stands [ ] }) (record { kept = λ own remains. tt; coming = tt })

pub few-turns_keep_peers : MetIsHeeded → FewDisturbancesForgoNone → EndsAreMet → OptionsAreMet → StayingRemains → FewUpsetsEndNone → CalmIsQuiet → EndsAreAskedFor → AnsweredEndsAreEnded → MachinesArePaid → FewTurnsEndNone → FewTurnsKeepPeers
few-turns_keep_peers heeded forgo ends_met options_met remaining few_end calm asked_for ended paid go near far turns can orderly few answers =
    (both_stay near far heeded forgo ends_met options_met remaining few_end calm asked_for ended paid go can turns orderly (record { few_machines = few; answers = answers })).0

pub few-turns_close_none : MetIsHeeded → FewDisturbancesForgoNone → EndsAreMet → OptionsAreMet → StayingRemains → FewUpsetsEndNone → CalmIsQuiet → EndsAreAskedFor → AnsweredEndsAreEnded → MachinesArePaid → FewTurnsEndNone → FewTurnsCloseNone
few-turns_close_none heeded forgo ends_met options_met remaining few_end calm asked_for ended paid go near far turns can orderly few answers =
    let (stays, holds) = both_stay near far heeded forgo ends_met options_met remaining few_end calm asked_for ended paid go can turns orderly (record { few_machines = few; answers = answers }) in
    record { kept = holds.kept; forgoes = far_forgoes heeded forgo ends_met options_met remaining few_end calm near far can turns orderly stays }

pub few-turns_end_none_of_both : FewTurnsKeepPeers → FewTurnsEndNone → FewTurnsEndNoneOfBoth
few-turns_end_none_of_both keep go near far turns can orderly few answers = go near far turns can orderly (keep near far turns can orderly few answers)
