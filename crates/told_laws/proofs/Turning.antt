-- While few turns upset, a host is told of no channel that its peer closed, and of no limit that was met on one for whose end it did not ask.
use Rattle.std.proofs.Common.{◌≡◌, ◌<◌, ◌≤◌, ◌+◌, ℕ, List, [], ◌∷◌, ◌++◌, Bool, true, false, cond, not, Option, Some, None, refl, sym, ap, subst, ◌∙◌, arith, append_assoc, append-nil}
use Rattle.std.specs.List.{AllByRecursion}
use Rattle.std.specs.Prelude.{fold, option_to_list}
use Rattle.std.proofs.lemmas.List.Sums.{fold-append}
use Rattle.channel_laws.specs.acl_fragments.specs.Pieces.{channel_of}
use Rattle.channel_laws.specs.link_talk.specs.declared.channel.Channel.{Channel}
use Rattle.channel_laws.specs.channel_model.specs.declared.errand.Errand.{Errand}
use Rattle.channel_laws.specs.channel_model.specs.declared.errand.Errand.TheVariants as errands
use Rattle.channel_laws.specs.channel_model.specs.declared.event.ChannelEvent.{ChannelEvent}
use Rattle.channel_laws.specs.channel_model.specs.declared.event.ChannelEvent.TheVariants as events
use Rattle.channel_laws.specs.channel_model.specs.declared.event.CloseReason.{CloseReason}
use Rattle.channel_laws.specs.channel_model.specs.declared.event.CloseReason.TheVariants as reasons
use Rattle.channel_laws.specs.channel_model.specs.Calls.{has_fcs, next_event, after_event, setup_on}
use Rattle.channel_laws.specs.channel_model.specs.Giving.{Given, next_given}
use Rattle.channel_laws.specs.channel_model.specs.Policies.{Policy}
use Rattle.channel_laws.specs.channel_model.specs.Value.{Request, Setup, Stage, Requested, Connected, Leaving, Closing, Crossed, Held, Channels}
use Rattle.channel_laws.specs.channel_model.specs.Changing.{held_at}
use Rattle.channel_laws.specs.channel_model.proofs.Lookups.{own_of, Distinct}
use Rattle.channel_laws.specs.Adverse.{is_quiet, adverse_from, disturbs, disturbances, FeaturesAreHeeded}
use Rattle.channel_laws.specs.Awaited.{asks_for_end}
use Rattle.channel_laws.specs.Belonging.{IsRead}
use Rattle.channel_laws.specs.capture.specs.Histories.{EachAfter}
use Rattle.channel_laws.specs.Ends.{end_at}
use Rattle.channel_laws.specs.Heeded.{AreMet, MetIsHeeded}
use Rattle.channel_laws.specs.Pairs.{End, Pair, new_pair, Happening, Acts, Puts, Takes, Repeats, Loses, Damages, is_alone, occurs, with_near, puts, let_go, takes_first, repeats_first, loses_first, damages_first, happens_near, Side, Near, Far, turned, Turn, happens_at, pair_after, pair_of}
use Rattle.channel_laws.specs.Pipes.{IsCarried, IsSeen, HaveChannel, CanStateBoth}
use Rattle.channel_laws.specs.Runs.{Occurrence, Comes, Connects, AsksFeatures, Disconnects, Sends, Gives, Fires, Tells, said_in, value_after, told_in, Run, arisen}
use Rattle.channel_laws.specs.Tries.{request_of, request_at, for_end, one_if}
use Rattle.channel_laws.proofs.Costing.{Pays, quiet_none, all_pay, first_pays, heeded_all, each_behind}
use Rattle.channel_laws.proofs.Pairing.{each-end_runs, end-policy}
use Rattle.channel_laws.proofs.Running.{all-sound}
use Rattle.channel_laws.proofs.Saying.{stands-right}
use Rattle.configuration_laws.specs.Asked.{EndsAreAskedFor}
use Rattle.configuration_laws.specs.Met.{Remains, OptionsAreMet}
use Rattle.recovered_laws.specs.Calm.{CalmIsQuiet}
use Rattle.recovered_laws.specs.Paid.{IsThere, MachinesArePaid}
use Rattle.staying_laws.specs.forgoing_laws.specs.lasting_laws.specs.Lasting.{IsUnspent, Lasts}
use Rattle.staying_laws.specs.forgoing_laws.specs.lasting_laws.proofs.Machines.{upsets-ahead}
use Rattle.staying_laws.specs.forgoing_laws.specs.Lasts.{AreOrderly, GoOn}
use Rattle.staying_laws.specs.forgoing_laws.proofs.Lasting.{said_ahead, orderly_ahead}
use Rattle.staying_laws.specs.forgoing_laws.proofs.Spending.{unspent-at, met-ahead, said_apart}
use Rattle.staying_laws.specs.Stays.{AnswerWell, FewNearMachines, FewTurnsCloseNone, FewTurnsEndNoneOfBoth}
use Rattle.staying_laws.proofs.Machines.{withstands-front, withstands-damage, withstands-timer}
use Rattle.staying_laws.proofs.Standing.{IsSingle, near-single, far-single}
use Rattle.staying_laws.proofs.There.{far-there}
use Rattle.told_laws.specs.Told.{EndsMildly, IsMild, IsEndLost, FewTurnsTellMildly}
use Rattle.told_laws.proofs.Events.{AnswersNoEnd, Ends, Mild, AllMild, Withstands, comes_mildly, alone_mildly}
use Rattle.told_laws.proofs.Timed.{times_mildly}

-- ---- lists of events

all_joined : (P : ChannelEvent → Type 0) (xs ys : List ChannelEvent) → AllByRecursion P xs → AllByRecursion P ys → AllByRecursion P (xs ++ ys)
all_joined P [] ys one other = other
all_joined P (x ∷ xs) ys one other = (one.0, all_joined P xs ys one.1 other)

-- ---- the question for features

disturbances_more : (pair : Pair) (turns : List Turn) (turn : Turn) → disturbances pair (turns ++ turn ∷ []) ≡ disturbances pair turns + disturbs turn.happening (fold pair_after pair turns)
disturbances_more pair [] turn = omega arith
disturbances_more pair (first ∷ turns) turn = let later = disturbances_more (pair_after pair first) turns turn in omega (arith, later)

-- where fewer turns disturb with it than the host tries, its timer finds it asked less often
features_unspent : FeaturesAreHeeded → (near far : Policy) (past : List Turn) (turn : Turn) → AreOrderly near far past → turn.happening ≡ Acts Fires → (tries : ℕ) → disturbances (new_pair near far) (past ++ turn ∷ []) < tries
    → (request : Request) → (pair_of near far past).near.run.value.features ≡ Some request → request.given < tries
features_unspent heeded near far past turn orderly fires tries few request is = less (is_quiet pair) refl
  where
    pair : Pair
    pair = pair_of near far past

    so_far : ℕ
    so_far = disturbances (new_pair near far) past

    same : adverse_from errands.Features Near (new_pair near far) past ≡ so_far
    same = heeded_all errands.Features Near near far [] past (heeded near far past orderly.read orderly.room Near)

    pays : Pays errands.Features so_far pair
    pays = subst (λ n. Pays errands.Features n pair) (let whole : adverse_from errands.Features Near (new_pair near far) past + 0 ≡ so_far = omega (arith, same) in whole)
        (all_pay errands.Features Near near far [] past 0 orderly.fair orderly.read (first_pays errands.Features Near near far))

    cost : disturbances (new_pair near far) (past ++ turn ∷ []) ≡ so_far + one_if (not (is_quiet pair))
    cost = disturbances_more (new_pair near far) past turn ∙ ap (λ (h : Happening). so_far + disturbs h pair) fires

    less : (quiet : Bool) → is_quiet pair ≡ quiet → request.given < tries
    less true quiet =
        let none = quiet_none errands.Features request.identifier pair quiet in let most = pays.way request is in let spent = cost ∙ ap (λ b. so_far + one_if (not b)) quiet in omega (arith, none, most, spent, few)
    less false quiet = let most = pays.most request is in let spent = cost ∙ ap (λ b. so_far + one_if (not b)) quiet in omega (arith, most, spent, few)

module _ (These : ℕ → Type 0) (Guarded : Type 0) where
  -- ---- one turn

  record Told (run : Run) : Type 0 where
    told : AllByRecursion (Mild These Guarded) run.told
    waits : AllMild These Guarded run.value

  told_now : (one : Occurrence) (v : Channels) → AllMild These Guarded v → AllByRecursion (Mild These Guarded) (told_in one v)
  told_now (Comes pdu) v all = tt
  told_now (Connects psm) v all = tt
  told_now AsksFeatures v all = tt
  told_now (Disconnects own) v all = tt
  told_now (Sends own sdu) v all = tt
  told_now (Gives pdu) v all = tt
  told_now Fires v all = tt
  told_now Tells v all = by v.events all
    where
      by : (events : List ChannelEvent) → AllByRecursion (Mild These Guarded) events → AllByRecursion (Mild These Guarded) (option_to_list (next_event (record v { events = events })))
      by [] so = tt
      by (event ∷ events) so = (so.0, tt)

  rest_waits : (v : Channels) → AllMild These Guarded v → AllMild These Guarded (after_event v)
  rest_waits v all = by v.events all
    where
      by : (events : List ChannelEvent) → AllByRecursion (Mild These Guarded) events → AllMild These Guarded (after_event (record v { events = events }))
      by [] so = tt
      by (event ∷ events) so = so.1

  occurs_told : (end' : End) (one : Occurrence) → Told end'.run → (AllMild These Guarded end'.run.value → AllMild These Guarded (value_after end'.policy one end'.run.value)) → Told (occurs one end').run
  occurs_told end' one told keeps = record { told = all_joined (Mild These Guarded) end'.run.told (told_in one end'.run.value) told.told (told_now one end'.run.value told.waits); waits = keeps told.waits }

  unsaid : (end' : End) (one : Occurrence) (coming : List (List ℕ)) → (Guarded → AnswersNoEnd (occurs one (let_go coming end')).run.said) → Guarded → AnswersNoEnd (said_in end'.policy one end'.run.value)
  unsaid end' one coming none guarded identifier own peer stands = none guarded identifier own peer (stands-right _ end'.run.said (said_in end'.policy one end'.run.value) stands)

  -- the machine of the channel withstands what comes first and what is damaged, and the timer finds no limit
  pub record Stands (happening : Happening) (end' : End) : Type 0 where
    pub front : (pdu : List ℕ) (behind : List (List ℕ)) → end'.coming ≡ pdu ∷ behind → Withstands These Guarded pdu end'.run.value
    pub damage : (other : List ℕ) → IsSeen end'.coming other → (pdu : List ℕ) (behind : List (List ℕ)) → end'.coming ≡ pdu ∷ behind → Withstands These Guarded other end'.run.value
    pub timer : happening ≡ Acts Fires → AllMild These Guarded end'.run.value → AllMild These Guarded (value_after end'.policy Fires end'.run.value)

  alone_told : (end' : End) (one : Occurrence) → is_alone one ≡ true → (one ≡ Fires → AllMild These Guarded end'.run.value → AllMild These Guarded (value_after end'.policy Fires end'.run.value)) → AllMild These Guarded end'.run.value → AllMild These Guarded (value_after end'.policy one end'.run.value)
  alone_told end' (Comes pdu) alone timer all = cc
  alone_told end' (Connects psm) alone timer all = alone_mildly These Guarded end'.policy (Connects psm) end'.run.value (λ e. cc) (λ pdu e. cc) (λ e. cc) all
  alone_told end' AsksFeatures alone timer all = alone_mildly These Guarded end'.policy AsksFeatures end'.run.value (λ e. cc) (λ pdu e. cc) (λ e. cc) all
  alone_told end' (Disconnects own) alone timer all = alone_mildly These Guarded end'.policy (Disconnects own) end'.run.value (λ e. cc) (λ pdu e. cc) (λ e. cc) all
  alone_told end' (Sends own sdu) alone timer all = alone_mildly These Guarded end'.policy (Sends own sdu) end'.run.value (λ e. cc) (λ pdu e. cc) (λ e. cc) all
  alone_told end' (Gives pdu) alone timer all = cc
  alone_told end' Fires alone timer all = timer refl all
  alone_told end' Tells alone timer all = rest_waits end'.run.value all

  -- what goes on with each thing that happens to it, where what waits stays mild
  abbrev pub GoesOn : (Run → Type 0) → Type 0
  GoesOn K = (end' : End) (one : Occurrence) → K end'.run → (AllMild These Guarded end'.run.value → AllMild These Guarded (value_after end'.policy one end'.run.value)) → K (occurs one end').run

  pub near_goes : (K : Run → Type 0) → GoesOn K → (pair : Pair) (happening : Happening) → Stands happening pair.near → IsRead happening pair.near → IsCarried happening pair.near → AllByRecursion IsSingle pair.near.coming → (Guarded → AnswersNoEnd (happens_near happening pair).near.run.said)
      → K pair.near.run → K (happens_near happening pair).near.run
  near_goes K goes pair (Acts one) stands read passes single none told = by (is_alone one) refl
    where
      by : (alone : Bool) → is_alone one ≡ alone → K (cond alone (with_near (occurs one pair.near) pair) pair).near.run
      by true alone = goes pair.near one told (alone_told pair.near one alone (λ fires. stands.timer (ap Acts fires)))
      by false alone = told
  near_goes K goes pair (Puts pdu) stands read passes single none told = by (next_given pair.near.run.value)
    where
      by : (given : Option Given) → K (puts given pdu pair).near.run
      by None = told
      by (Some given) = goes pair.near (Gives pdu) told (alone_mildly These Guarded pair.near.policy (Gives pdu) pair.near.run.value (λ e. cc) (λ pdu e. cc) (λ e. cc))
  near_goes K goes pair Takes stands read passes single none told = by pair.near.coming refl none
    where
      by : (coming : List (List ℕ)) → pair.near.coming ≡ coming → (Guarded → AnswersNoEnd (takes_first coming pair.near).run.said) → K (takes_first coming pair.near).run
      by [] is so = told
      by (pdu ∷ coming) is so =
          let each : AllByRecursion IsSingle (pdu ∷ coming) = subst (AllByRecursion IsSingle) is single in
          goes (let_go coming pair.near) (Comes pdu) told (comes_mildly These Guarded pair.near.policy pair.near.run.value pdu each.0 (stands.front pdu coming is) (unsaid pair.near (Comes pdu) coming so))
  near_goes K goes pair Repeats stands read passes single none told = by pair.near.coming refl none
    where
      by : (coming : List (List ℕ)) → pair.near.coming ≡ coming → (Guarded → AnswersNoEnd (repeats_first coming pair.near).run.said) → K (repeats_first coming pair.near).run
      by [] is so = told
      by (pdu ∷ coming) is so =
          let each : AllByRecursion IsSingle (pdu ∷ coming) = subst (AllByRecursion IsSingle) is single in
          goes pair.near (Comes pdu) told (comes_mildly These Guarded pair.near.policy pair.near.run.value pdu each.0 (stands.front pdu coming is) (unsaid pair.near (Comes pdu) pair.near.coming so))
  near_goes K goes pair Loses stands read passes single none told = by pair.near.coming
    where
      by : (coming : List (List ℕ)) → K (loses_first coming pair.near).run
      by [] = told
      by (pdu ∷ coming) = told
  near_goes K goes pair (Damages other) stands read passes single none told = by pair.near.coming refl none
    where
      by : (coming : List (List ℕ)) → pair.near.coming ≡ coming → (Guarded → AnswersNoEnd (damages_first other coming pair.near).run.said) → K (damages_first other coming pair.near).run
      by [] is so = told
      by (pdu ∷ coming) is so = checked (has_fcs (channel_of pdu) pair.near.run.value) so
        where
          checked : (b : Bool) → (Guarded → AnswersNoEnd (cond b (occurs (Comes other) (let_go coming pair.near)) (let_go coming pair.near)).run.said) → K (cond b (occurs (Comes other) (let_go coming pair.near)) (let_go coming pair.near)).run
          checked true now =
              goes (let_go coming pair.near) (Comes other) told
              (comes_mildly These Guarded pair.near.policy pair.near.run.value other (λ signals. let never : true ≡ false = sym signals ∙ read in absurd cc) (stands.damage other passes pdu coming is) (unsaid pair.near (Comes other) coming now))
          checked false now = told

  near_told : (pair : Pair) (happening : Happening) → Stands happening pair.near → IsRead happening pair.near → IsCarried happening pair.near → AllByRecursion IsSingle pair.near.coming → (Guarded → AnswersNoEnd (happens_near happening pair).near.run.said)
      → Told pair.near.run → Told (happens_near happening pair).near.run
  near_told = near_goes Told occurs_told

-- ---- two hosts, at each moment

-- the hosts ask in order, and answer requests for options with success; few turns upset, and the near one's requests for channels are responded to
pub record Few (near far : Policy) (turns : List Turn) : Type 0 where
  pub orderly : AreOrderly near far turns
  pub machines : FewNearMachines near far turns
  pub answers : AnswerWell near far turns
  pub calls : (own : ℕ) → AreMet (errands.Connection own) Near near far turns

pub few_ahead : (near far : Policy) (past later : List Turn) → Few near far (past ++ later) → Few near far past
few_ahead near far past later few = record {
  orderly = orderly_ahead near far past later few.orderly;
  machines = λ psm. let most = few.machines psm in let less = upsets-ahead (new_pair near far) past later in omega (arith, less, most);
  answers = record {
    near_answers = λ identifier peer flags result options stands. few.answers.near_answers identifier peer flags result options (said_ahead near far Near past later _ stands);
    far_answers = λ identifier peer flags result options stands. few.answers.far_answers identifier peer flags result options (said_ahead near far Far past later _ stands);
  };
  calls = λ own. met-ahead near far past later Near (errands.Connection own) (few.calls own);
}

-- ---- two hosts, and a channel of the near one

module _ (near far : Policy) (can : (psm : ℕ) → CanStateBoth near far psm) (features : FeaturesAreHeeded) (heeded : MetIsHeeded) (asked_for : EndsAreAskedFor) (options : OptionsAreMet) (calm : CalmIsQuiet) (paid : MachinesArePaid) (close : FewTurnsCloseNone) (go : FewTurnsEndNoneOfBoth) (mine : ℕ) (So : Type 0) where
  abbrev This : ℕ → Type 0
  This own = (own ≡ mine) × So

  -- it remains at the far one, where so it is
  record Well (turns : List Turn) : Type 0 where
    few : Few near far turns
    stays : So → Remains mine (pair_of near far turns).far.run.said

  well_ahead : (past later : List Turn) → Well (past ++ later) → Well past
  well_ahead past later well = record {
    few = few_ahead near far past later well.few;
    stays = λ so. record {
      unanswered = λ identifier peer answered. (well.stays so).unanswered identifier peer (said_ahead near far Far past later _ answered);
      not_forgone = λ peer gave. (well.stays so).not_forgone peer (said_ahead near far Far past later _ gave);
    };
  }

  goes : (turns : List Turn) → Well turns → GoOn near far turns
  goes turns well = go near far turns can well.few.orderly well.few.machines well.few.answers

  unanswered : (turns : List Turn) → Well turns → AnswersNoEnd (pair_of near far turns).near.run.said
  unanswered turns well identifier own peer answered =
      let asked = asked_for near far turns well.few.orderly.read Near identifier own peer answered in (goes turns well).lasts.no_end asked.0 peer own asked.1

  record Holds (past : List Turn) : Type 0 where
    told : Told This (Unit {0}) (pair_of near far past).near.run
    coming : AllByRecursion IsSingle (pair_of near far past).near.coming

  module _ (past : List Turn) (side : Side) (happening : Happening) (well : Well (past ++ record { side = side; happening = happening } ∷ [])) where
    abbrev turn : Turn
    turn = record { side = side; happening = happening }

    abbrev after : List Turn
    after = past ++ turn ∷ []

    abbrev pair : Pair
    pair = pair_of near far past

    before : Well past
    before = well_ahead past (turn ∷ []) well

    o : AreOrderly near far past
    o = before.few.orderly

    on : GoOn near far past
    on = goes past before

    next : pair_of near far after ≡ happens_at side happening pair
    next = fold-append pair_after (new_pair near far) past (turn ∷ [])

    there : So → (channel : Channel) → HaveChannel near far past channel → channel.own ≡ mine → IsThere channel.peer pair.far.run.value
    there so channel have same = far-there asked_for near far past o.read on.lasts.no_end channel have on.lasts (subst (λ n. Remains n pair.far.run.said) (sym same) (before.stays so))

    fewer : disturbances (new_pair near far) after < near.tries
    fewer = let less = calm (new_pair near far) after in let most = well.few.orderly.few_near in omega (arith, less, most)

    unspent : (errand : Errand) → AreMet errand Near near far past → happening ≡ Acts Fires → (request : Request) → request_of errand pair.near.run.value ≡ Some request → request.given < near.tries
    unspent errand met fires request is = unspent-at heeded near far past turn o.fair o.read Near errand met fires near.tries fewer request is

    lone : Distinct own_of pair.near.run.value.held
    lone = let (list, is) = (each-end_runs near far past).0 in subst (λ (r : Run). Distinct own_of r.value.held) (sym is) (all-sound near list).core.lone

    lasts : happening ≡ Acts Fires → So → (setup : Setup) → setup_on (held_at mine pair.near.run.value) ≡ Some setup → IsUnspent near.tries setup.own setup.carrier
    lasts fires so =
        withstands-timer near far past o.fair o.read o.carried paid can before.few.machines mine (there so) (unspent (errands.Configuration mine) (options near far past o.read o.room Near o.near_rise mine (before.stays so)) fires)

    timer : happening ≡ Acts Fires → AllMild This (Unit {0}) pair.near.run.value → AllMild This (Unit {0}) (value_after pair.near.policy Fires pair.near.run.value)
    timer fires all =
        subst (λ (p : Policy). AllMild This (Unit {0}) (value_after p Fires pair.near.run.value)) (sym (end-policy near far past Near))
        (times_mildly near.tries (let most = o.few_near in omega (arith, most)) mine So (Unit {0}) pair.near.run.value lone (λ so. (close near far past can o before.few.machines before.few.answers).kept mine (before.stays so)) (lasts fires)
        (λ so. unspent (errands.Connection mine) (before.few.calls mine) fires) (λ own. unspent (errands.Disconnection own) (on.ends own) fires) (λ guarded. features_unspent features near far past turn o fires near.tries fewer) all)

    stands : Stands This (Unit {0}) happening pair.near
    stands = record {
      front = λ pdu behind coming_is this setup m found carrier taken. withstands-front near far past o.fair o.read o.carried paid can before.few.machines mine (there this.1) pdu behind coming_is this.0 setup m found carrier;
      damage = λ other seen pdu behind coming_is this setup m found carrier taken.
          withstands-damage near far past o.fair o.read o.carried paid can before.few.machines mine (there this.1) other (subst (λ c. IsSeen c other) coming_is seen).1 this.0 setup m found carrier taken;
      timer = timer;
    }

    now_read : IsRead happening (end_at side pair)
    now_read = (each_behind (λ front one. IsRead one.happening (end_at one.side (pair_of near far front))) [] past (turn ∷ []) well.few.orderly.read).0

    now_carried : IsCarried happening (end_at side pair)
    now_carried = (each_behind (λ front one. IsCarried one.happening (end_at one.side (pair_of near far front))) [] past (turn ∷ []) well.few.orderly.carried).0

  turn_holds : (past : List Turn) (side : Side) (happening : Happening) → Well (past ++ record { side = side; happening = happening } ∷ []) → Holds past → Holds (past ++ record { side = side; happening = happening } ∷ [])
  turn_holds past Near happening well holds = record {
    told = subst (λ (p : Pair). Told This (Unit {0}) p.near.run) (sym (next past Near happening well))
        (near_told This (Unit {0}) (pair_of near far past) happening (stands past Near happening well) (now_read past Near happening well) (now_carried past Near happening well) holds.coming
        (λ guarded. subst (λ (p : Pair). AnswersNoEnd p.near.run.said) (next past Near happening well) (unanswered (past ++ record { side = Near; happening = happening } ∷ []) well)) holds.told);
    coming = subst (λ (p : Pair). AllByRecursion IsSingle p.near.coming) (sym (next past Near happening well)) (near-single (pair_of near far past) happening holds.coming);
  }
  turn_holds past Far happening well holds = record {
    told = subst (λ (p : Pair). Told This (Unit {0}) p.near.run) (sym (next past Far happening well)) (subst (Told This (Unit {0})) (sym (said_apart (turned (pair_of near far past)) happening)) holds.told);
    coming = subst (λ (p : Pair). AllByRecursion IsSingle p.near.coming) (sym (next past Far happening well)) (far-single (turned (pair_of near far past)) happening (now_read past Far happening well) holds.coming);
  }

  all_hold : (turns : List Turn) → Well turns → (past later : List Turn) → turns ≡ past ++ later → Holds past → Holds turns
  all_hold turns well past [] is holds = subst Holds (sym (is ∙ append-nil past)) holds
  all_hold turns well past (turn ∷ later) is holds =
      let further : turns ≡ (past ++ turn ∷ []) ++ later = is ∙ sym (append_assoc past (turn ∷ []) later) in
      all_hold turns well (past ++ turn ∷ []) later further (turn_holds past turn.side turn.happening (well_ahead (past ++ turn ∷ []) later (subst Well further well)) holds)

  all_told : (turns : List Turn) → Well turns → AllByRecursion (Mild This (Unit {0})) (arisen (pair_of near far turns).near.run)
  all_told turns well =
      let run : Run = (pair_of near far turns).near.run in
      let holds = all_hold turns well [] turns refl (record { told = record { told = tt; waits = tt }; coming = tt }) in
      all_joined (Mild This (Unit {0})) run.told run.value.events holds.told.told holds.told.waits

-- ---- of each of its channels

reason_each : (These : ℕ → Type 0) (own : ℕ) (reason : CloseReason) → ((mine : ℕ) → Ends (λ n. (n ≡ mine) × These mine) (Unit {0}) own reason) → EndsMildly These own reason
reason_each These own reasons.PeerClosed each = each own tt
reason_each These own (reasons.Refused result) each = tt
reason_each These own reasons.NoAgreement each = tt
reason_each These own reasons.RetryLimit each = λ these. each own (refl, these)
reason_each These own (reasons.Ertm reason) each = each own
reason_each These own reasons.LinkDown each = tt
reason_each These own reasons.OwnClosed each = tt

event_each : (These : ℕ → Type 0) (event : ChannelEvent) → ((mine : ℕ) → Mild (λ n. (n ≡ mine) × These mine) (Unit {0}) event) → IsMild These event
event_each These (events.Opened own psm) each = tt
event_each These (events.Closed own psm reason) each = reason_each These own reason each
event_each These (events.Features given) each = tt
event_each These events.FeaturesLost each = each 0 tt
event_each These (events.DisconnectLost own) each = each 0

all_each : (These : ℕ → Type 0) (list : List ChannelEvent) → ((mine : ℕ) → AllByRecursion (Mild (λ n. (n ≡ mine) × These mine) (Unit {0})) list) → AllByRecursion (IsMild These) list
all_each These [] each = tt
all_each These (event ∷ list) each = (event_each These event (λ mine. (each mine).0), all_each These list (λ mine. (each mine).1))

-- ---- the far host, which asks for no end

abbrev OfNone : ℕ → Type 0
OfNone own = (own ≡ 0) × ⊥

no_ends : (v : Channels) → ((own : ℕ) (held : Held) → held_at own v ≡ Some held → asks_for_end held.stage ≡ false) → (tries own : ℕ) (request : Request) → request_of (errands.Disconnection own) v ≡ Some request → request.given < tries
no_ends v there tries own request is = by (held_at own v) refl is
  where
    at : (stage : Stage) → asks_for_end stage ≡ false → for_end stage ≡ Some request → request.given < tries
    at (Requested other) none found = cc
    at (Connected peer setup) none found = cc
    at (Leaving peer setup other) none found = cc
    at (Closing peer other checked) none found = cc
    at (Crossed peer other) none found = cc

    by : (found : Option Held) → held_at own v ≡ found → request_at for_end found ≡ Some request → request.given < tries
    by None at_own found = cc
    by (Some held) at_own found = at held.stage (there own held at_own) found

lost_not : (event : ChannelEvent) → Mild OfNone ⊥ event → IsEndLost event → ⊥
lost_not (events.Opened own psm) mild lost = lost
lost_not (events.Closed own psm reason) mild lost = lost
lost_not (events.Features given) mild lost = lost
lost_not events.FeaturesLost mild lost = lost
lost_not (events.DisconnectLost own) mild lost = mild

all_lost_not : (list : List ChannelEvent) → AllByRecursion (Mild OfNone ⊥) list → AllByRecursion (λ event. IsEndLost event → ⊥) list
all_lost_not [] all = tt
all_lost_not (event ∷ list) all = (lost_not event all.0, all_lost_not list all.1)

module _ (near far : Policy) where
  record FarHolds (past : List Turn) : Type 0 where
    told : Told OfNone ⊥ (pair_of near far past).far.run
    coming : AllByRecursion IsSingle (pair_of near far past).far.coming

  far_timer : (past : List Turn) → 1 ≤ far.tries → Lasts (pair_of near far past).far.run → (let v : Channels = (pair_of near far past).far.run.value in AllMild OfNone ⊥ v → AllMild OfNone ⊥ (value_after (pair_of near far past).far.policy Fires v))
  far_timer past some so all =
      let v : Channels = (pair_of near far past).far.run.value in
      let (list, is) = (each-end_runs near far past).1 in
      let lone : Distinct own_of v.held = subst (λ (r : Run). Distinct own_of r.value.held) (sym is) (all-sound far list).core.lone in
      subst (λ (p : Policy). AllMild OfNone ⊥ (value_after p Fires v)) (sym (end-policy near far past Far))
      (times_mildly far.tries some 0 ⊥ ⊥ v lone (λ none. absurd none) (λ none. absurd none) (λ none. absurd none) (no_ends v so.there far.tries) (λ none. absurd none) all)

  far_turn : (past : List Turn) (side : Side) (happening : Happening) → 1 ≤ far.tries → Lasts (pair_of near far past).far.run → IsRead happening (end_at side (pair_of near far past)) → IsCarried happening (end_at side (pair_of near far past)) → FarHolds past
      → FarHolds (past ++ record { side = side; happening = happening } ∷ [])
  far_turn past Near happening some so read passes holds =
      let next = fold-append pair_after (new_pair near far) past (record { side = Near; happening = happening } ∷ []) in
      record {
        told = subst (λ (p : Pair). Told OfNone ⊥ p.far.run) (sym next) (subst (Told OfNone ⊥) (sym (said_apart (pair_of near far past) happening)) holds.told);
        coming = subst (λ (p : Pair). AllByRecursion IsSingle p.far.coming) (sym next) (far-single (pair_of near far past) happening read holds.coming);
      }
  far_turn past Far happening some so read passes holds =
      let next = fold-append pair_after (new_pair near far) past (record { side = Far; happening = happening } ∷ []) in
      record {
        told = subst (λ (p : Pair). Told OfNone ⊥ p.far.run) (sym next)
            (near_told OfNone ⊥ (turned (pair_of near far past)) happening
            (record { front = λ pdu behind coming_is this. absurd this.1; damage = λ other seen pdu behind coming_is this. absurd this.1; timer = λ fires. far_timer past some so }) read passes holds.coming (λ none. absurd none) holds.told);
        coming = subst (λ (p : Pair). AllByRecursion IsSingle p.far.coming) (sym next) (near-single (turned (pair_of near far past)) happening holds.coming);
      }

  module _ (turns : List Turn) (some : 1 ≤ far.tries) (lasts : (past later : List Turn) → turns ≡ past ++ later → Lasts (pair_of near far past).far.run) where
    far_all : (past later : List Turn) → turns ≡ past ++ later → EachAfter (λ front one. IsRead one.happening (end_at one.side (pair_of near far front))) past later
        → EachAfter (λ front one. IsCarried one.happening (end_at one.side (pair_of near far front))) past later → FarHolds past → FarHolds turns
    far_all past [] is reads passes holds = subst FarHolds (sym (is ∙ append-nil past)) holds
    far_all past (turn ∷ later) is reads passes holds =
        far_all (past ++ turn ∷ []) later (is ∙ sym (append_assoc past (turn ∷ []) later)) reads.1 passes.1 (far_turn past turn.side turn.happening some (lasts past (turn ∷ later) is) reads.0 passes.0 holds)

-- ---- both

pub few-turns_tell_mildly : FeaturesAreHeeded → MetIsHeeded → EndsAreAskedFor → OptionsAreMet → CalmIsQuiet → MachinesArePaid → FewTurnsCloseNone → FewTurnsEndNoneOfBoth → FewTurnsTellMildly
few-turns_tell_mildly features heeded asked_for options calm paid close go near far turns can orderly machines answers calls = record {
  near_told = all_each these (arisen pair.near.run) (λ own. all_told near far can features heeded asked_for options calm paid close go own (these own) turns (well own (these own) (λ so. so)));
  far_told = all_lost_not (arisen pair.far.run) (all_joined (Mild OfNone ⊥) pair.far.run.told pair.far.run.value.events far_holds.told.told far_holds.told.waits);
}
  where
    pair : Pair
    pair = pair_of near far turns

    these : ℕ → Type 0
    these own = Remains own (pair_of near far turns).far.run.said

    well : (own : ℕ) (So : Type 0) → (So → these own) → Well near far can features heeded asked_for options calm paid close go own So turns
    well own So stays = record { few = record { orderly = orderly; machines = machines; answers = answers; calls = calls }; stays = stays }

    -- at each moment
    lasts : (past later : List Turn) → turns ≡ past ++ later → Lasts (pair_of near far past).far.run
    lasts past later is =
        (goes near far can features heeded asked_for options calm paid close go 0 ⊥ past
        (well_ahead near far can features heeded asked_for options calm paid close go 0 ⊥ past later (subst (Well near far can features heeded asked_for options calm paid close go 0 ⊥) is (well 0 ⊥ (λ none. absurd none))))).lasts

    far_holds : FarHolds near far turns
    far_holds = far_all near far turns (let most = orderly.few_far in omega (arith, most)) lasts [] turns refl orderly.read orderly.carried (record { told = record { told = tt; waits = tt }; coming = tt })
