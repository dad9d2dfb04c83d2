-- While few turns upset, a host meets no limit on a channel for whose end it did not ask, nor on one that is open in basic mode.
use Rattle.std.proofs.Common.{◌≡◌, ◌<◌, ℕ, List, [], ◌∷◌, ◌++◌, Bool, true, false, ◌&&◌, Option, Some, None, is_some, refl, sym, ap, subst, ◌∙◌, inl, inr, arith, append_assoc}
use Rattle.std.specs.List.{AllByRecursion}
use Rattle.std.proofs.lemmas.List.Sums.{fold-append}
use Rattle.channel_laws.specs.acl_fragments.specs.Pieces.{channel_of}
use Rattle.channel_laws.specs.capture.specs.Histories.{EachAfter}
use Rattle.channel_laws.specs.ertm_model.specs.Value.{Ertm}
use Rattle.channel_laws.specs.channel_model.specs.declared.errand.Errand.TheVariants as errands
use Rattle.channel_laws.specs.channel_model.specs.declared.event.ChannelEvent.{ChannelEvent}
use Rattle.channel_laws.specs.channel_model.specs.declared.event.ChannelEvent.TheVariants as events
use Rattle.channel_laws.specs.channel_model.specs.declared.event.CloseReason.{CloseReason}
use Rattle.channel_laws.specs.channel_model.specs.declared.event.CloseReason.TheVariants as reasons
use Rattle.channel_laws.specs.channel_model.specs.Calls.{setup_on}
use Rattle.channel_laws.specs.channel_model.specs.Changing.{held_at, setup_of, is_granted, is_open}
use Rattle.channel_laws.specs.channel_model.specs.Policies.{Policy}
use Rattle.channel_laws.specs.channel_model.specs.Value.{Request, Own, Unasked, Asking, Granted, Carrier, Retransmitting, Setup, Stage, Requested, Connected, Leaving, Closing, Crossed, Held, Channels}
use Rattle.channel_laws.specs.channel_model.proofs.Lookups.{own_of, Distinct, found-has}
use Rattle.channel_laws.specs.Adverse.{disturbances}
use Rattle.channel_laws.specs.Belonging.{IsRead}
use Rattle.channel_laws.specs.Ends.{end_at}
use Rattle.channel_laws.specs.Heeded.{MetIsHeeded}
use Rattle.channel_laws.specs.Pairs.{Pair, new_pair, Happening, Acts, happens_near, Side, Near, Far, turned, Turn, happens_at, pair_after, pair_of}
use Rattle.channel_laws.specs.Pipes.{IsCarried, CanStateBoth}
use Rattle.channel_laws.specs.Runs.{Fires, value_after, Run, arisen}
use Rattle.channel_laws.specs.Tries.{request_of, request_at, for_channel}
use Rattle.channel_laws.proofs.Costing.{each_behind}
use Rattle.channel_laws.proofs.Pairing.{each-end_runs, end-policy}
use Rattle.channel_laws.proofs.Running.{all-sound}
use Rattle.recovered_laws.specs.Calm.{CalmIsQuiet}
use Rattle.staying_laws.specs.forgoing_laws.specs.configuration_laws.specs.Asked.{HasAskedEnd}
use Rattle.staying_laws.specs.forgoing_laws.specs.configuration_laws.specs.Met.{Remains}
use Rattle.staying_laws.specs.forgoing_laws.specs.lasting_laws.specs.Lasting.{IsUnspent}
use Rattle.staying_laws.specs.forgoing_laws.specs.lasting_laws.proofs.Timed.{each-found}
use Rattle.staying_laws.specs.forgoing_laws.specs.Lasts.{AreOrderly, GoOn}
use Rattle.staying_laws.specs.forgoing_laws.proofs.Spending.{unspent-at, said_apart}
use Rattle.staying_laws.specs.Stays.{IsKept, KeptAt, AllKept, FewTurnsEndNoneOfBoth}
use Rattle.staying_laws.proofs.Standing.{IsSingle, near-single, far-single}
use Rattle.told_laws.specs.Told.{EndsMildly, IsMild, ToldMildly, FewTurnsTellMildly}
use Rattle.told_laws.specs.Limits.{IsLimit, IsLimitOf, MeetsNone, IsPlain, IsOpenPlain, IsPlainAt, IsSafe, LimitsNone, FewTurnsLimitNone}
use Rattle.told_laws.proofs.Events.{Ends, Mild, AllMild}
use Rattle.told_laws.proofs.Timed.{times_mildly}
use Rattle.told_laws.proofs.Turning.{Stands, near_goes, Few, few_ahead}

-- ---- what is told

all_behind : (P : ChannelEvent → Type 0) (xs ys : List ChannelEvent) → AllByRecursion P (xs ++ ys) → AllByRecursion P ys
all_behind P [] ys all = all
all_behind P (x ∷ xs) ys all = all_behind P xs ys all.1

each_goes : (P Q : ChannelEvent → Type 0) → ((event : ChannelEvent) → P event → Q event) → (list : List ChannelEvent) → AllByRecursion P list → AllByRecursion Q list
each_goes P Q goes [] all = tt
each_goes P Q goes (event ∷ list) all = (goes event all.0, each_goes P Q goes list all.1)

each_both : (P Q R : ChannelEvent → Type 0) → ((event : ChannelEvent) → P event → Q event → R event) → (list : List ChannelEvent) → AllByRecursion P list → AllByRecursion Q list → AllByRecursion R list
each_both P Q R goes [] one other = tt
each_both P Q R goes (event ∷ list) one other = (goes event one.0 other.0, each_both P Q R goes list one.1 other.1)

-- of a channel that is among these no limit is told mildly
mild_none : (These : ℕ → Type 0) (own : ℕ) → These own → (event : ChannelEvent) → IsMild These event → IsLimitOf own event → ⊥
mild_none These own these (events.Opened other psm) mild limit = limit
mild_none These own these (events.Closed other psm reason) mild (same, limit) = by reason mild limit
  where
    by : (r : CloseReason) → EndsMildly These other r → IsLimit r → ⊥
    by reasons.PeerClosed ends is = is
    by (reasons.Refused result) ends is = is
    by reasons.NoAgreement ends is = is
    by reasons.RetryLimit ends is = ends (subst These (sym same) these)
    by (reasons.Ertm r) ends is = is
    by reasons.LinkDown ends is = is
    by reasons.OwnClosed ends is = is
mild_none These own these (events.Features features) mild limit = limit
mild_none These own these events.FeaturesLost mild limit = limit
mild_none These own these (events.DisconnectLost other) mild limit = limit

-- what is mild for some channels is so for none
less_mild : (These : ℕ → Type 0) (event : ChannelEvent) → IsMild These event → IsMild (λ own. ⊥) event
less_mild These (events.Opened other psm) mild = tt
less_mild These (events.Closed other psm reason) mild = by reason mild
  where
    by : (r : CloseReason) → EndsMildly These other r → EndsMildly (λ own. ⊥) other r
    by reasons.PeerClosed ends = ends
    by (reasons.Refused result) ends = tt
    by reasons.NoAgreement ends = tt
    by reasons.RetryLimit ends = λ none. none
    by (reasons.Ertm r) ends = ends
    by reasons.LinkDown ends = tt
    by reasons.OwnClosed ends = tt
less_mild These (events.Features features) mild = tt
less_mild These events.FeaturesLost mild = mild
less_mild These (events.DisconnectLost other) mild = mild

-- the channel of one endpoint
abbrev This : (own : ℕ) → ℕ → Type 0
This own other = (other ≡ own) × Unit {0}

to_mild : (These : ℕ → Type 0) (own : ℕ) (event : ChannelEvent) → IsMild These event → (IsLimitOf own event → ⊥) → Mild (This own) ⊥ event
to_mild These own (events.Opened other psm) mild none = tt
to_mild These own (events.Closed other psm reason) mild none = by reason mild none
  where
    by : (r : CloseReason) → EndsMildly These other r → (IsLimitOf own (events.Closed other psm r) → ⊥) → Ends (This own) ⊥ other r
    by reasons.PeerClosed ends apart = λ guarded. guarded
    by (reasons.Refused result) ends apart = tt
    by reasons.NoAgreement ends apart = tt
    by reasons.RetryLimit ends apart = λ this. apart (this.0, tt)
    by (reasons.Ertm r) ends apart = ends
    by reasons.LinkDown ends apart = tt
    by reasons.OwnClosed ends apart = tt
to_mild These own (events.Features features) mild none = tt
to_mild These own events.FeaturesLost mild none = λ guarded. guarded
to_mild These own (events.DisconnectLost other) mild none = mild

of_mild : (own : ℕ) (event : ChannelEvent) → Mild (This own) ⊥ event → IsLimitOf own event → ⊥
of_mild own (events.Opened other psm) mild limit = limit
of_mild own (events.Closed other psm reason) mild (same, limit) = by reason mild limit
  where
    by : (r : CloseReason) → Ends (This own) ⊥ other r → IsLimit r → ⊥
    by reasons.PeerClosed ends is = is
    by (reasons.Refused result) ends is = is
    by reasons.NoAgreement ends is = is
    by reasons.RetryLimit ends is = ends (same, tt)
    by (reasons.Ertm r) ends is = is
    by reasons.LinkDown ends is = is
    by reasons.OwnClosed ends is = is
of_mild own (events.Features features) mild limit = limit
of_mild own events.FeaturesLost mild limit = limit
of_mild own (events.DisconnectLost other) mild limit = limit

-- ---- a channel that is open in basic mode

plain_set : (stage : Stage) (setup : Setup) → IsOpenPlain stage → setup_of stage ≡ Some setup → (is_open setup ≡ true) × IsPlain setup.carrier
plain_set (Requested request) setup plain is = elim plain [ ]
plain_set (Connected peer other) setup plain is = let same : other ≡ setup = cc in subst (λ (s : Setup). (is_open s ≡ true) × IsPlain s.carrier) same plain
plain_set (Leaving peer other request) setup plain is = let same : other ≡ setup = cc in subst (λ (s : Setup). (is_open s ≡ true) × IsPlain s.carrier) same plain
plain_set (Closing peer request checked) setup plain is = elim plain [ ]
plain_set (Crossed peer request) setup plain is = elim plain [ ]

no_machine : {X : Type 0} (carrier : Option Carrier) (m : Ertm) → IsPlain carrier → carrier ≡ Some (Retransmitting m) → X
no_machine carrier m plain is = let never : ⊥ = subst IsPlain is plain in absurd never

off_and : (b : Bool) → (b && false) ≡ false
off_and true = refl
off_and false = refl

plain_lasts : (tries : ℕ) (own : Own) (carrier : Option Carrier) → (is_some carrier && is_granted own) ≡ true → IsPlain carrier → IsUnspent tries own carrier
plain_lasts tries Unasked carrier opened plain = λ m is. no_machine carrier m plain is
plain_lasts tries (Asking request options) carrier opened plain = let never : true ≡ false = sym opened ∙ off_and (is_some carrier) in cc
plain_lasts tries Granted carrier opened plain = λ m is. no_machine carrier m plain is

plain_kept : (stage : Stage) → IsOpenPlain stage → IsKept stage
plain_kept (Requested request) plain = tt
plain_kept (Connected peer setup) plain = tt
plain_kept (Leaving peer setup request) plain = tt
plain_kept (Closing peer request checked) plain = elim plain [ ]
plain_kept (Crossed peer request) plain = tt

plain_uncalled : {X : Type 0} (stage : Stage) (request : Request) → IsOpenPlain stage → for_channel stage ≡ Some request → X
plain_uncalled (Requested other) request plain is = absurd plain
plain_uncalled (Connected peer setup) request plain is = cc
plain_uncalled (Leaving peer setup other) request plain is = cc
plain_uncalled (Closing peer other checked) request plain is = cc
plain_uncalled (Crossed peer other) request plain is = cc

module _ (own : ℕ) (v : Channels) (at : IsPlainAt own v) where
  plain_setup : (setup : Setup) → setup_on (held_at own v) ≡ Some setup → (is_open setup ≡ true) × IsPlain setup.carrier
  plain_setup setup = by (held_at own v) refl
    where
      by : (found : Option Held) → held_at own v ≡ found → setup_on found ≡ Some setup → (is_open setup ≡ true) × IsPlain setup.carrier
      by None found is = cc
      by (Some held) found is = plain_set held.stage setup (at held found) is

  all_kept : Distinct own_of v.held → AllKept own v
  all_kept lone = each-found (KeptAt own) v.held lone kept
    where
      kept : (n : ℕ) (held : Held) → held_at n v ≡ Some held → KeptAt own held
      kept n held found same = plain_kept held.stage (at held (ap (λ m. held_at m v) (sym same ∙ found-has own_of n v.held held found) ∙ found))

  uncalled : {X : Type 0} (request : Request) → request_of (errands.Connection own) v ≡ Some request → X
  uncalled {X} request = by (held_at own v) refl
    where
      by : (found : Option Held) → held_at own v ≡ found → request_at for_channel found ≡ Some request → X
      by None found is = cc
      by (Some held) found is = plain_uncalled held.stage request (at held found) is

-- ---- two hosts

module _ (near far : Policy) (can : (psm : ℕ) → CanStateBoth near far psm) (heeded : MetIsHeeded) (calm : CalmIsQuiet) (go : FewTurnsEndNoneOfBoth) (tell : FewTurnsTellMildly) where
  goes : (turns : List Turn) → Few near far turns → GoOn near far turns
  goes turns few = go near far turns can few.orderly few.machines few.answers

  tells : (turns : List Turn) → Few near far turns → ToldMildly near far turns
  tells turns few = tell near far turns can few.orderly few.machines few.answers few.calls

  module _ (past : List Turn) (happening : Happening) (few : Few near far (past ++ record { side = Near; happening = happening } ∷ [])) where
    abbrev turn : Turn
    turn = record { side = Near; happening = happening }

    abbrev after : List Turn
    after = past ++ turn ∷ []

    abbrev pair : Pair
    pair = pair_of near far past

    before : Few near far past
    before = few_ahead near far past (turn ∷ []) few

    o : AreOrderly near far past
    o = before.orderly

    on : GoOn near far past
    on = goes past before

    next : pair_of near far after ≡ happens_near happening pair
    next = fold-append pair_after (new_pair near far) past (turn ∷ [])

    -- ---- one for whose end the near host did not ask

    unasked : (own : ℕ) → ((peer : ℕ) → HasAskedEnd own peer pair.near.run.said → ⊥) → MeetsNone own (happens_near happening pair).near.run.value.events
    unasked own none =
        let stays : Remains own (pair_of near far after).far.run.said = subst (λ (r : Run). Remains own r.said) (sym (ap (λ (p : Pair). p.far.run) next ∙ said_apart pair happening)) (on.remains own none) in
        let told = each_goes _ (λ event. IsLimitOf own event → ⊥) (mild_none (λ n. Remains n (pair_of near far after).far.run.said) own stays) (arisen (pair_of near far after).near.run) (tells after few).near_told in
        subst (λ (p : Pair). MeetsNone own p.near.run.value.events) next (all_behind (λ event. IsLimitOf own event → ⊥) (pair_of near far after).near.run.told (pair_of near far after).near.run.value.events told)

    -- ---- one that is open in basic mode

    module _ (own : ℕ) (at : IsPlainAt own pair.near.run.value) where
      lone : Distinct own_of pair.near.run.value.held
      lone = let (list, is) = (each-end_runs near far past).0 in subst (λ (r : Run). Distinct own_of r.value.held) (sym is) (all-sound near list).core.lone

      fewer : disturbances (new_pair near far) after < near.tries
      fewer = let less = calm (new_pair near far) after in let most = few.orderly.few_near in omega (arith, less, most)

      timer : happening ≡ Acts Fires → AllMild (This own) ⊥ pair.near.run.value → AllMild (This own) ⊥ (value_after pair.near.policy Fires pair.near.run.value)
      timer fires all =
          let v : Channels = pair.near.run.value in
          subst (λ (p : Policy). AllMild (This own) ⊥ (value_after p Fires v)) (sym (end-policy near far past Near))
          (times_mildly near.tries (let most = o.few_near in omega (arith, most)) own (Unit {0}) ⊥ v lone (λ so. all_kept own v at lone)
          (λ so setup is. let plain = plain_setup own v at setup is in plain_lasts near.tries setup.own setup.carrier plain.0 plain.1) (λ so request is. uncalled own v at request is)
          (λ n. unspent-at heeded near far past turn o.fair o.read Near (errands.Disconnection n) (on.ends n) fires near.tries fewer) (λ none. absurd none) all)

      stands : Stands (This own) ⊥ happening pair.near
      stands = record {
        front = λ pdu behind coming_is this setup m found carrier taken. withstood pdu this.0 setup m found carrier;
        damage = λ other seen pdu behind coming_is this setup m found carrier taken. withstood other this.0 setup m found carrier;
        timer = timer;
      }
        where
          withstood : {X : Type 0} (pdu : List ℕ) → channel_of pdu ≡ own → (setup : Setup) (m : Ertm) → setup_on (held_at (channel_of pdu) pair.near.run.value) ≡ Some setup → setup.carrier ≡ Some (Retransmitting m) → X
          withstood pdu same setup m found carrier =
              no_machine setup.carrier m (plain_setup own pair.near.run.value at setup (ap (λ n. setup_on (held_at n pair.near.run.value)) (sym same) ∙ found)).1 carrier

      plain : AllByRecursion IsSingle pair.near.coming → MeetsNone own pair.near.run.value.events → MeetsNone own (happens_near happening pair).near.run.value.events
      plain single none =
          let run : Run = pair.near.run in
          let told = all_behind (IsMild (λ n. Remains n pair.far.run.said)) run.told run.value.events (tells past before).near_told in
          let waits = each_both _ (λ event. IsLimitOf own event → ⊥) (Mild (This own) ⊥) (to_mild (λ n. Remains n pair.far.run.said) own) run.value.events told none in
          each_goes (Mild (This own) ⊥) (λ event. IsLimitOf own event → ⊥) (of_mild own) (happens_near happening pair).near.run.value.events
          (near_goes (This own) ⊥ (λ (r : Run). AllMild (This own) ⊥ r.value) (λ end' one all keeps. keeps all) pair happening stands
          (each_behind (λ front one. IsRead one.happening (end_at one.side (pair_of near far front))) [] past (turn ∷ []) few.orderly.read).0
          (each_behind (λ front one. IsCarried one.happening (end_at one.side (pair_of near far front))) [] past (turn ∷ []) few.orderly.carried).0 single (λ none. absurd none) waits)

    safe : (own : ℕ) → AllByRecursion IsSingle pair.near.coming → IsSafe own pair.near.run → MeetsNone own pair.near.run.value.events → MeetsNone own (happens_near happening pair).near.run.value.events
    safe own single (inl none) told = unasked own none
    safe own single (inr at) told = plain own at single told

  -- ---- each turn

  abbrev Spares : List Turn → Turn → Type 0
  Spares past turn = LimitsNone (pair_of near far past).near.run (pair_after (pair_of near far past) turn).near.run

  one : (past : List Turn) (side : Side) (happening : Happening) → Few near far (past ++ record { side = side; happening = happening } ∷ []) → AllByRecursion IsSingle (pair_of near far past).near.coming → Spares past (record { side = side; happening = happening })
  one past side happening few single = record { waits = waits; adds = λ own is told. by side few own is told }
    where
      run : Run
      run = (pair_of near far past).near.run

      waits : AllByRecursion (IsMild (λ own. ⊥)) run.value.events
      waits =
          let these : ℕ → Type 0 = λ n. Remains n (pair_of near far past).far.run.said in
          each_goes (IsMild these) (IsMild (λ own. ⊥)) (less_mild these) run.value.events (all_behind (IsMild these) run.told run.value.events (tells past (few_ahead near far past (record { side = side; happening = happening } ∷ []) few)).near_told)

      by : (which : Side) → Few near far (past ++ record { side = which; happening = happening } ∷ []) → (own : ℕ) → IsSafe own run → MeetsNone own run.value.events → MeetsNone own (happens_at which happening (pair_of near far past)).near.run.value.events
      by Near here own is told = safe past happening here own single is told
      by Far here own is told = subst (λ (r : Run). MeetsNone own r.value.events) (sym (said_apart (turned (pair_of near far past)) happening)) told

  single_more : (past : List Turn) (side : Side) (happening : Happening) → Few near far (past ++ record { side = side; happening = happening } ∷ []) → AllByRecursion IsSingle (pair_of near far past).near.coming
      → AllByRecursion IsSingle (pair_of near far (past ++ record { side = side; happening = happening } ∷ [])).near.coming
  single_more past side happening few single =
      subst (λ (p : Pair). AllByRecursion IsSingle p.near.coming) (sym (fold-append pair_after (new_pair near far) past (turn ∷ [])))
      (by side (each_behind (λ front one. IsRead one.happening (end_at one.side (pair_of near far front))) [] past (turn ∷ []) few.orderly.read).0)
    where
      turn : Turn
      turn = record { side = side; happening = happening }

      by : (which : Side) → IsRead happening (end_at which (pair_of near far past)) → AllByRecursion IsSingle (happens_at which happening (pair_of near far past)).near.coming
      by Near read = near-single (pair_of near far past) happening single
      by Far read = far-single (turned (pair_of near far past)) happening read single

  each : (turns : List Turn) → Few near far turns → (past later : List Turn) → turns ≡ past ++ later → AllByRecursion IsSingle (pair_of near far past).near.coming → EachAfter Spares past later
  each turns few past [] is single = tt
  each turns few past (turn ∷ later) is single =
      let further : turns ≡ (past ++ turn ∷ []) ++ later = is ∙ sym (append_assoc past (turn ∷ []) later) in
      let here = few_ahead near far (past ++ turn ∷ []) later (subst (Few near far) further few) in
      (one past turn.side turn.happening here single, each turns few (past ++ turn ∷ []) later further (single_more past turn.side turn.happening here single))

pub few-turns_limit_none : MetIsHeeded → CalmIsQuiet → FewTurnsEndNoneOfBoth → FewTurnsTellMildly → FewTurnsLimitNone
few-turns_limit_none heeded calm go tell near far turns can orderly machines answers calls =
    each near far can heeded calm go tell turns (record { orderly = orderly; machines = machines; answers = answers; calls = calls }) [] turns refl tt
