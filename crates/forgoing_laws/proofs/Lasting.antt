-- While few turns upset, none of both hosts' requests is spent, so the one asks for no end, and the other gives up none.
use Rattle.std.proofs.Common.{◌≡◌, ℕ, ◌<◌, ◌≤◌, List, [], ◌∷◌, ◌++◌, false, Option, Some, None, refl, sym, ap, subst, ◌∙◌, arith, append_assoc}
use Rattle.channel_laws.specs.capture.specs.Histories.{EachAfter}
use Rattle.channel_laws.specs.link_talk.specs.Sayings.{Saying}
use Rattle.channel_laws.specs.channel_model.specs.declared.errand.Errand.{Errand}
use Rattle.channel_laws.specs.channel_model.specs.declared.errand.Errand.TheVariants as errands
use Rattle.channel_laws.specs.channel_model.specs.Changing.{held_at}
use Rattle.channel_laws.specs.channel_model.specs.Policies.{Policy}
use Rattle.channel_laws.specs.channel_model.specs.Value.{Request, Stage, Requested, Connected, Leaving, Closing, Crossed, Held}
use Rattle.channel_laws.specs.Adverse.{disturbances, IsRoomy}
use Rattle.channel_laws.specs.Awaited.{asks_for_end}
use Rattle.channel_laws.specs.Belonging.{IsRead}
use Rattle.channel_laws.specs.Ends.{DoesSo, end_at}
use Rattle.channel_laws.specs.Frames.{IsUttered}
use Rattle.channel_laws.specs.Heeded.{AreMet, IsMetBy, RespondsTo, EndsWait, MetIsHeeded}
use Rattle.channel_laws.specs.Pairs.{Pair, new_pair, Happening, Acts, Puts, Takes, Repeats, Loses, Damages, Side, Near, Far, turned, Turn, happens_at, pair_after, pair_of}
use Rattle.channel_laws.specs.Pipes.{IsCarried, CanStateBoth}
use Rattle.channel_laws.specs.Runs.{Run}
use Rattle.channel_laws.specs.Signals.{StandsIn}
use Rattle.channel_laws.specs.Tries.{request_of, request_at, for_end}
use Rattle.channel_laws.proofs.Mating.{front-each}
use Rattle.channel_laws.proofs.Saying.{stands-left}
use Rattle.channel_laws.proofs.Sharing.{said-grows}
use Rattle.configuration_laws.specs.Asked.{HasAskedEnd}
use Rattle.configuration_laws.specs.Met.{Remains, OptionsAreMet, StayingRemains}
use Rattle.disconnection_laws.specs.Met.{AsksSingly, AsksOn, EndsAreMet}
use Rattle.lasting_laws.specs.Ends.{LeavesNone, IsFarFiring, OptionsUnspent, PeerStays, FewUpsetsEndNone}
use Rattle.lasting_laws.specs.Lasting.{AsksForNoEnd, Lasts}
use Rattle.lasting_laws.proofs.Machines.{upsets-ahead}
use Rattle.recovered_laws.specs.Calm.{all_upsets, CalmIsQuiet}
use Rattle.forgoing_laws.specs.Forgone.{ForgoesNoEnd, FewDisturbancesForgoNone}
use Rattle.forgoing_laws.specs.Lasts.{AreOrderly, StaysThere, FewTurnsEndNone}
use Rattle.forgoing_laws.proofs.Asked.{asked-waits}
use Rattle.forgoing_laws.proofs.Spending.{disturbances-ahead, unspent-at, said_apart}
use Rattle.channel_laws.proofs.Costing.{each_behind}
use Rattle.channel_laws.proofs.Pairing.{each-end_runs}
use Rattle.std.proofs.lemmas.List.Sums.{fold-append}

-- ---- a host that asked for no end

ends_none : (stage : Stage) → asks_for_end stage ≡ false → for_end stage ≡ None
ends_none (Requested request) is = refl
ends_none (Connected peer setup) is = refl
ends_none (Leaving peer setup request) is = cc
ends_none (Closing peer request checked) is = cc
ends_none (Crossed peer request) is = cc

waits_none : (run : Run) → Lasts run → (own : ℕ) (request : Request) → request_of (errands.Disconnection own) run.value ≡ Some request → ⊥
waits_none run lasts own request = by (held_at own run.value) refl
  where
    by : (found : Option Held) → held_at own run.value ≡ found → request_at for_end found ≡ Some request → ⊥
    by None at is = cc
    by (Some held) at is = let none = ends_none held.stage (lasts.there own held at) in let never : None ≡ Some request = sym none ∙ is in cc

-- none is met in vain
met_far : (errand : Errand) (at : Side) (happening : Happening) (pair : Pair) → ((request : Request) → request_of errand pair.far.run.value ≡ Some request → ⊥) → IsMetBy errand Far at happening pair
met_far errand at (Acts occurrence) pair none = tt
met_far errand at (Puts pdu) pair none = tt
met_far errand Near Takes pair none = by pair.near.coming
  where
    by : (coming : List (List ℕ)) → RespondsTo errand coming (turned pair)
    by [] = tt
    by (pdu ∷ coming) = λ command request signals reads waits asks. absurd (none request waits)
met_far errand Far Takes pair none = by pair.far.coming
  where
    by : (coming : List (List ℕ)) → EndsWait errand coming (turned pair)
    by [] = tt
    by (pdu ∷ coming) = λ command request signals reads waits responds. absurd (none request waits)
met_far errand at Repeats pair none = tt
met_far errand at Loses pair none = tt
met_far errand at (Damages pdu) pair none = tt

met_near : (errand : Errand) (at : Side) (happening : Happening) (pair : Pair) → ((request : Request) → request_of errand pair.near.run.value ≡ Some request → ⊥) → IsMetBy errand Near at happening pair
met_near errand at (Acts occurrence) pair none = tt
met_near errand at (Puts pdu) pair none = tt
met_near errand Near Takes pair none = by pair.near.coming
  where
    by : (coming : List (List ℕ)) → EndsWait errand coming pair
    by [] = tt
    by (pdu ∷ coming) = λ command request signals reads waits responds. absurd (none request waits)
met_near errand Far Takes pair none = by pair.far.coming
  where
    by : (coming : List (List ℕ)) → RespondsTo errand coming pair
    by [] = tt
    by (pdu ∷ coming) = λ command request signals reads waits asks. absurd (none request waits)
met_near errand at Repeats pair none = tt
met_near errand at Loses pair none = tt
met_near errand at (Damages pdu) pair none = tt

-- ---- up to a moment

module _ (near far : Policy) where
  -- what was said by a moment was said
  pub said_ahead : (side : Side) (past later : List Turn) (said : Saying) → StandsIn said (end_at side (pair_of near far past)).run.said → StandsIn said (end_at side (pair_of near far (past ++ later))).run.said
  said_ahead side past later said stands = let grown = said-grows near far side past later in subst (StandsIn said) (sym grown.1) (stands-left said (end_at side (pair_of near far past)).run.said grown.0 stands)

  pub orderly_ahead : (past later : List Turn) → AreOrderly near far (past ++ later) → AreOrderly near far past
  orderly_ahead past later orderly =
      let less = upsets-ahead (new_pair near far) past later in
      record {
        fair = front-each (λ front turn. DoesSo IsUttered turn.happening (end_at turn.side (pair_of near far front))) [] past later orderly.fair;
        read = front-each (λ front turn. IsRead turn.happening (end_at turn.side (pair_of near far front))) [] past later orderly.read;
        room = front-each (λ front turn. IsRoomy turn.happening (end_at turn.side (pair_of near far front))) [] past later orderly.room;
        carried = front-each (λ front turn. IsCarried turn.happening (end_at turn.side (pair_of near far front))) [] past later orderly.carried;
        leaves = front-each (λ front turn. LeavesNone turn.side turn.happening) [] past later orderly.leaves;
        none_called = λ identifier psm own asked. orderly.none_called identifier psm own (said_ahead Far past later _ asked);
        apart = λ identifier status own again later_one second peer granted too. orderly.apart identifier status own again later_one second peer (said_ahead Far past later _ granted) (said_ahead Far past later _ too);
        ends = front-each (λ front turn. AsksSingly (pair_of near far front).near.run.value × AsksOn (pair_of near far front).near.run.value (pair_after (pair_of near far front) turn).near.run.value) [] past later orderly.ends;
        near_rise = front-each (λ front turn. (pair_of near far front).near.run.value.identifier ≤ (pair_after (pair_of near far front) turn).near.run.value.identifier) [] past later orderly.near_rise;
        far_rise = front-each (λ front turn. (pair_of near far front).far.run.value.identifier ≤ (pair_after (pair_of near far front) turn).far.run.value.identifier) [] past later orderly.far_rise;
        few_near = let most = orderly.few_near in omega (arith, less, most);
        few_far = let most = orderly.few_far in omega (arith, less, most);
        few_machines = λ psm. let most = orderly.few_machines psm in omega (arith, less, most);
      }

  pub stays_ahead : (past later : List Turn) → StaysThere near far (past ++ later) → StaysThere near far past
  stays_ahead past later stays = record {
    peer = front-each (λ front turn. AsksForNoEnd (pair_of near far front).far.run.said → PeerStays near far front) [] past later stays.peer;
    near_answers = λ identifier peer flags result options stands. stays.near_answers identifier peer flags result options (said_ahead Near past later _ stands);
    far_answers = λ identifier peer flags result options stands. stays.far_answers identifier peer flags result options (said_ahead Far past later _ stands);
  }

-- ---- all turns

module _ (heeded : MetIsHeeded) (forgo : FewDisturbancesForgoNone) (ends_met : EndsAreMet) (options_met : OptionsAreMet) (remaining : StayingRemains) (few_end : FewUpsetsEndNone) (calm : CalmIsQuiet) (near far : Policy) (can : (psm : ℕ) → CanStateBoth near far psm) where
  few_disturb : (turns : List Turn) (most : ℕ) → all_upsets (new_pair near far) turns < most → disturbances (new_pair near far) turns < most
  few_disturb turns most few = let less = calm (new_pair near far) turns in omega (arith, less, few)

  -- while the far host asked for no end

  near_ends : (past : List Turn) → AreOrderly near far past → AsksForNoEnd (pair_of near far past).far.run.said → (own : ℕ) → AreMet (errands.Disconnection own) Near near far past
  near_ends past orderly none own = ends_met near far past orderly.read orderly.room Near orderly.ends orderly.apart (record { no_channel = orderly.none_called; no_end = none }) own

  near_forgoes : (past : List Turn) → AreOrderly near far past → AsksForNoEnd (pair_of near far past).far.run.said → ForgoesNoEnd (pair_of near far past).near.run.said
  near_forgoes past orderly none = forgo near far past orderly.fair orderly.read Near (near_ends past orderly none) (few_disturb past near.tries orderly.few_near)

  far_options : (past : List Turn) → AreOrderly near far past → AsksForNoEnd (pair_of near far past).far.run.said → (own : ℕ) → AreMet (errands.Configuration own) Far near far past
  far_options past orderly none own =
      options_met near far past orderly.read orderly.room Far orderly.far_rise own
      (remaining near far past orderly.read Far own (record { not_asked = λ peer asked. none asked.0 own peer asked.1; not_forgone = λ peer gave. near_forgoes past orderly none peer own gave }))

  -- so its requests for options are unspent when its timer fires
  far_unspent : (past : List Turn) (turn : Turn) → AreOrderly near far past → disturbances (new_pair near far) (past ++ turn ∷ []) < far.tries → AsksForNoEnd (pair_of near far past).far.run.said → IsFarFiring turn.side turn.happening → OptionsUnspent near far past
  far_unspent past turn orderly few none firing own =
      unspent-at heeded near far past turn orderly.fair orderly.read Far (errands.Configuration own) (far_options past orderly none own) firing.1 far.tries few

  each_unspent : (turns : List Turn) → AreOrderly near far turns → (past later : List Turn) → turns ≡ past ++ later → EachAfter (λ front turn. AsksForNoEnd (pair_of near far front).far.run.said → IsFarFiring turn.side turn.happening → OptionsUnspent near far front) past later
  each_unspent turns orderly past [] is = tt
  each_unspent turns orderly past (turn ∷ later) is =
      let ahead = disturbances-ahead (new_pair near far) (past ++ turn ∷ []) later in
      let further : turns ≡ (past ++ turn ∷ []) ++ later = is ∙ sym (append_assoc past (turn ∷ []) later) in
      let same : disturbances (new_pair near far) turns ≡ disturbances (new_pair near far) ((past ++ turn ∷ []) ++ later) = ap (disturbances (new_pair near far)) further in
      let few = few_disturb turns far.tries orderly.few_far in
      ((λ none firing. far_unspent past turn (orderly_ahead near far past (turn ∷ later) (subst (AreOrderly near far) is orderly)) (omega (arith, ahead, same, few)) none firing), each_unspent turns orderly (past ++ turn ∷ []) later further)

  far_lasts : (turns : List Turn) → AreOrderly near far turns → StaysThere near far turns → Lasts (pair_of near far turns).far.run
  far_lasts turns orderly stays =
      few_end near far turns orderly.fair orderly.read orderly.carried can orderly.few_machines orderly.leaves
      (record { options = each_unspent turns orderly [] turns refl; peer = stays.peer; near_answers = stays.near_answers; far_answers = stays.far_answers })

  -- and it gives up none for an end, as it makes none
  far_met : (turns : List Turn) → AreOrderly near far turns → StaysThere near far turns → (own : ℕ) (past later : List Turn) → turns ≡ past ++ later → EachAfter (λ front turn. IsMetBy (errands.Disconnection own) Far turn.side turn.happening (pair_of near far front)) past later
  far_met turns orderly stays own past [] is = tt
  far_met turns orderly stays own past (turn ∷ later) is = (
    met_far (errands.Disconnection own) turn.side turn.happening (pair_of near far past)
        (λ request waits. waits_none (pair_of near far past).far.run (far_lasts past (orderly_ahead near far past (turn ∷ later) (subst (AreOrderly near far) is orderly)) (stays_ahead near far past (turn ∷ later) (subst (StaysThere near far) is stays))) own request waits),
    far_met turns orderly stays own (past ++ turn ∷ []) later (is ∙ sym (append_assoc past (turn ∷ []) later)),
  )

  pub far_forgoes : (turns : List Turn) → AreOrderly near far turns → StaysThere near far turns → ForgoesNoEnd (pair_of near far turns).far.run.said
  far_forgoes turns orderly stays = forgo near far turns orderly.fair orderly.read Far (λ own. far_met turns orderly stays own [] turns refl) (few_disturb turns far.tries orderly.few_far)

  -- ---- while the near host did not ask for the end of a channel its requests for options are met

  not_asked : (past : List Turn) (own : ℕ) (request : Request) → request_of (errands.Configuration own) (pair_of near far past).near.run.value ≡ Some request → request_of (errands.Disconnection own) (pair_of near far past).near.run.value ≡ None
      → (peer : ℕ) → HasAskedEnd own peer (pair_of near far past).near.run.said → ⊥
  not_asked past own request waits none peer asked =
      let (list, is) = (each-end_runs near far past).0 in
      asked-waits near list own peer request (subst (λ (r : Run). HasAskedEnd own peer r.said) is asked) (subst (λ (r : Run). request_of (errands.Configuration own) r.value ≡ Some request) is waits) (subst (λ (r : Run). request_of (errands.Disconnection own) r.value ≡ None) is none)

  stays_by : (turns : List Turn) → AreOrderly near far turns → StaysThere near far turns → (own : ℕ) → ((peer : ℕ) → HasAskedEnd own peer (pair_of near far turns).near.run.said → ⊥) → Remains own (pair_of near far turns).far.run.said
  stays_by turns orderly stays own none = remaining near far turns orderly.read Near own (record { not_asked = none; not_forgone = λ peer gave. far_forgoes turns orderly stays peer own gave })

  -- behind one turn more it remains, whichever host that is of
  remains_on : (past : List Turn) (turn : Turn) → AreOrderly near far (past ++ turn ∷ []) → StaysThere near far (past ++ turn ∷ []) → (own : ℕ) → ((peer : ℕ) → HasAskedEnd own peer (pair_of near far past).near.run.said → ⊥) → Remains own (pair_of near far (past ++ turn ∷ [])).far.run.said
  remains_on past turn orderly stays own none = by turn.side refl
    where
      next : pair_of near far (past ++ turn ∷ []) ≡ pair_after (pair_of near far past) turn
      next = fold-append pair_after (new_pair near far) past (turn ∷ [])

      by : (side : Side) → turn.side ≡ side → Remains own (pair_of near far (past ++ turn ∷ [])).far.run.said
      by Near is =
          subst (λ (r : Run). Remains own r.said) (sym (ap (λ (p : Pair). p.far.run) next ∙ (ap (λ s. (happens_at s turn.happening (pair_of near far past)).far.run) is ∙ said_apart (pair_of near far past) turn.happening)))
          (stays_by past (orderly_ahead near far past (turn ∷ []) orderly) (stays_ahead near far past (turn ∷ []) stays) own none)
      by Far is =
          stays_by (past ++ turn ∷ []) orderly stays own
          (λ peer asked. none peer (subst (λ (r : Run). HasAskedEnd own peer r.said) (ap (λ (p : Pair). p.near.run) next ∙ (ap (λ s. (happens_at s turn.happening (pair_of near far past)).near.run) is ∙ said_apart (turned (pair_of near far past)) turn.happening)) asked))

  met_once : (past : List Turn) (turn : Turn) → AreOrderly near far (past ++ turn ∷ []) → StaysThere near far (past ++ turn ∷ []) → (own : ℕ) → request_of (errands.Disconnection own) (pair_of near far past).near.run.value ≡ None
      → IsMetBy (errands.Configuration own) Near turn.side turn.happening (pair_of near far past)
  met_once past turn orderly stays own none = by (request_of (errands.Configuration own) (pair_of near far past).near.run.value) refl
    where
      by : (found : Option Request) → request_of (errands.Configuration own) (pair_of near far past).near.run.value ≡ found → IsMetBy (errands.Configuration own) Near turn.side turn.happening (pair_of near far past)
      by None is = met_near (errands.Configuration own) turn.side turn.happening (pair_of near far past) (λ request waits. let never : None ≡ Some request = sym is ∙ waits in cc)
      by (Some request) is =
          (each_behind (λ front one. IsMetBy (errands.Configuration own) Near one.side one.happening (pair_of near far front)) [] past (turn ∷ [])
          (options_met near far (past ++ turn ∷ []) orderly.read orderly.room Near orderly.near_rise own (remains_on past turn orderly stays own (not_asked past own request is none)))).0

  until_left : (turns : List Turn) → AreOrderly near far turns → StaysThere near far turns → (own : ℕ) (past later : List Turn) → turns ≡ past ++ later
      → EachAfter (λ front turn. request_of (errands.Disconnection own) (pair_of near far front).near.run.value ≡ None → IsMetBy (errands.Configuration own) Near turn.side turn.happening (pair_of near far front)) past later
  until_left turns orderly stays own past [] is = tt
  until_left turns orderly stays own past (turn ∷ later) is =
      let further : turns ≡ (past ++ turn ∷ []) ++ later = is ∙ sym (append_assoc past (turn ∷ []) later) in (
        met_once past turn (orderly_ahead near far (past ++ turn ∷ []) later (subst (AreOrderly near far) further orderly)) (stays_ahead near far (past ++ turn ∷ []) later (subst (StaysThere near far) further stays)) own,
        until_left turns orderly stays own (past ++ turn ∷ []) later further,
      )

pub few-turns_end_none : MetIsHeeded → FewDisturbancesForgoNone → EndsAreMet → OptionsAreMet → StayingRemains → FewUpsetsEndNone → CalmIsQuiet → FewTurnsEndNone
few-turns_end_none heeded forgo ends_met options_met remaining few_end calm near far turns can orderly stays = record {
  lasts = lasts;
  ends = near_ends heeded forgo ends_met options_met remaining few_end calm near far can turns orderly lasts.no_end;
  forgoes = near_forgoes heeded forgo ends_met options_met remaining few_end calm near far can turns orderly lasts.no_end;
  options = far_options heeded forgo ends_met options_met remaining few_end calm near far can turns orderly lasts.no_end;
  until_left = λ own. until_left heeded forgo ends_met options_met remaining few_end calm near far can turns orderly stays own [] turns refl;
  remains = stays_by heeded forgo ends_met options_met remaining few_end calm near far can turns orderly stays;
}
  where
    lasts : Lasts (pair_of near far turns).far.run
    lasts = far_lasts heeded forgo ends_met options_met remaining few_end calm near far can turns orderly stays
