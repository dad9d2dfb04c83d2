-- While few turns disturb no request is spent when a timer fires, and so none for an end is given up.
use Rattle.std.proofs.Common.{◌≡◌, ℕ, ◌+◌, ◌<◌, ◌≤◌, List, [], ◌∷◌, ◌++◌, Bool, true, false, cond, not, Option, Some, None, refl, sym, ap, subst, ◌∙◌, ◌⊎◌, inl, inr, arith, append_assoc, append-nil}
use Rattle.std.specs.Prelude.{fold}
use Rattle.std.proofs.lemmas.List.Sums.{fold-append}
use Rattle.channel_laws.specs.capture.specs.Histories.{EachAfter}
use Rattle.channel_laws.specs.link_talk.specs.Sayings.{Saying, GaveUp}
use Rattle.channel_laws.specs.link_talk.specs.Sayings as sayings
use Rattle.channel_laws.specs.channel_model.specs.declared.errand.Errand.{Errand}
use Rattle.channel_laws.specs.channel_model.specs.declared.errand.Errand.TheVariants as errands
use Rattle.channel_laws.specs.channel_model.specs.Calls.{has_fcs}
use Rattle.channel_laws.specs.channel_model.specs.Giving.{Given, next_given}
use Rattle.channel_laws.specs.channel_model.specs.Policies.{Policy}
use Rattle.channel_laws.specs.channel_model.specs.Value.{Request}
use Rattle.channel_laws.specs.acl_fragments.specs.Pieces.{channel_of}
use Rattle.channel_laws.specs.Adverse.{is_quiet, seen_from, adverse_from, disturbs, disturbances}
use Rattle.channel_laws.specs.Belonging.{AreRead, IsRead}
use Rattle.channel_laws.specs.Ends.{DoesSo, end_at, AreFair}
use Rattle.channel_laws.specs.Frames.{IsUttered}
use Rattle.channel_laws.specs.Heeded.{AreMet, IsMetBy, MetIsHeeded}
use Rattle.channel_laws.specs.Pairs.{Pair, new_pair, Happening, Acts, Puts, Takes, Repeats, Loses, Damages, is_alone, occurs, with_near, puts, let_go, takes_first, repeats_first, loses_first, damages_first, happens_near, Side, Near, Far, turned, Turn, happens_at, pair_after, pair_of}
use Rattle.channel_laws.specs.Runs.{Occurrence, Comes, Gives, Fires, said_in, Run}
use Rattle.channel_laws.specs.Signals.{StandsIn}
use Rattle.channel_laws.specs.Tries.{request_of, one_if}
use Rattle.channel_laws.proofs.Costing.{Pays, quiet_none, all_pay, first_pays, quiet_seen, heeded_all}
use Rattle.channel_laws.proofs.Mating.{front-each}
use Rattle.channel_laws.proofs.Pairing.{end-policy}
use Rattle.channel_laws.proofs.Saying.{stands-either}
use Rattle.forgoing_laws.specs.Forgone.{policy_at, IsUnspent, IsFiringAt, ForgoesNoEnd, FewDisturbancesSpendNone, FewDisturbancesForgoNone}
use Rattle.forgoing_laws.proofs.Firing.{no-forgone}

-- ---- turns that disturb

disturbances_more : (pair : Pair) (turns : List Turn) (turn : Turn) → disturbances pair (turns ++ turn ∷ []) ≡ disturbances pair turns + disturbs turn.happening (fold pair_after pair turns)
disturbances_more pair [] turn = omega arith
disturbances_more pair (first ∷ turns) turn = let later = disturbances_more (pair_after pair first) turns turn in omega (arith, later)

pub disturbances-ahead : (pair : Pair) (past later : List Turn) → disturbances pair past ≤ disturbances pair (past ++ later)
disturbances-ahead pair [] later = omega arith
disturbances-ahead pair (turn ∷ past) later = let rest = disturbances-ahead (pair_after pair turn) past later in omega (arith, rest)

-- ---- one moment

-- a firing of a link that is not quiet disturbs
fires_cost : (pair : Pair) (happening : Happening) → happening ≡ Acts Fires → disturbs happening pair ≡ one_if (not (is_quiet pair))
fires_cost pair happening is = ap (λ (h : Happening). disturbs h pair) is

-- where fewer turns disturb with it than the host tries
pub unspent-at : MetIsHeeded → (near far : Policy) (past : List Turn) (turn : Turn) → AreFair near far past → AreRead near far past → (side : Side) (errand : Errand) → AreMet errand side near far past → turn.happening ≡ Acts Fires → (tries : ℕ)
    → disturbances (new_pair near far) (past ++ turn ∷ []) < tries → IsUnspent tries errand (end_at side (pair_of near far past)).run.value
unspent-at heeded near far past turn fair read side errand met fires tries few = λ request is. by side pays request is
  where
    pair : Pair
    pair = pair_of near far past

    so_far : ℕ
    so_far = disturbances (new_pair near far) past

    same : adverse_from errand side (new_pair near far) past ≡ so_far
    same = heeded_all errand side near far [] past (heeded near far past read side errand met)

    pays : Pays errand so_far (seen_from side pair)
    pays =
        let all = all_pay errand side near far [] past 0 fair read (first_pays errand side near far) in
        subst (λ n. Pays errand n (seen_from side pair)) (let whole : adverse_from errand side (new_pair near far) past + 0 ≡ so_far = omega (arith, same) in whole) all

    cost : disturbances (new_pair near far) (past ++ turn ∷ []) ≡ so_far + one_if (not (is_quiet pair))
    cost = disturbances_more (new_pair near far) past turn ∙ ap (λ n. so_far + n) (fires_cost pair turn.happening fires)

    less : (quiet : Bool) → is_quiet pair ≡ quiet → (seen : Pair) → is_quiet seen ≡ is_quiet pair → Pays errand so_far seen → (request : Request) → request_of errand seen.near.run.value ≡ Some request → request.given < tries
    less true is seen alike paid request at =
        let none = quiet_none errand request.identifier seen (alike ∙ is) in let most = paid.way request at in let spent = cost ∙ ap (λ b. so_far + one_if (not b)) is in omega (arith, none, most, spent, few)
    less false is seen alike paid request at = let most = paid.most request at in let spent = cost ∙ ap (λ b. so_far + one_if (not b)) is in omega (arith, most, spent, few)

    by : (which : Side) → Pays errand so_far (seen_from which pair) → (request : Request) → request_of errand (end_at which pair).run.value ≡ Some request → request.given < tries
    by Near paid request at = less (is_quiet pair) refl pair refl paid request at
    by Far paid request at = less (is_quiet pair) refl (turned pair) (quiet_seen Far pair) paid request at

-- ---- each moment

-- what is so behind a front is so of that front
pub met-ahead : (near far : Policy) (past later : List Turn) (side : Side) (errand : Errand) → AreMet errand side near far (past ++ later) → AreMet errand side near far past
met-ahead near far past later side errand met = front-each (λ front turn. IsMetBy errand side turn.side turn.happening (pair_of near far front)) [] past later met

module _ (heeded : MetIsHeeded) (near far : Policy) (turns : List Turn) (fair : AreFair near far turns) (read : AreRead near far turns) (side : Side) (tries : ℕ) (few : disturbances (new_pair near far) turns < tries) where
  -- at one of its turns
  unspent_in : (errand : Errand) → AreMet errand side near far turns → (past : List Turn) (turn : Turn) (later : List Turn) → turns ≡ past ++ turn ∷ later → turn.happening ≡ Acts Fires → IsUnspent tries errand (end_at side (pair_of near far past)).run.value
  unspent_in errand met past turn later is fires =
      let ahead = disturbances-ahead (new_pair near far) (past ++ turn ∷ []) later in
      let same : disturbances (new_pair near far) turns ≡ disturbances (new_pair near far) ((past ++ turn ∷ []) ++ later) = ap (disturbances (new_pair near far)) (is ∙ sym (append_assoc past (turn ∷ []) later)) in
      unspent-at heeded near far past turn (front-each (λ front one. DoesSo IsUttered one.happening (end_at one.side (pair_of near far front))) [] past (turn ∷ later) (subst (AreFair near far) is fair))
      (front-each (λ front one. IsRead one.happening (end_at one.side (pair_of near far front))) [] past (turn ∷ later) (subst (AreRead near far) is read)) side errand (met-ahead near far past (turn ∷ later) side errand (subst (AreMet errand side near far) is met)) fires tries
      (omega (arith, ahead, same, few))

  each_unspent : (errand : Errand) → AreMet errand side near far turns → (past later : List Turn) → turns ≡ past ++ later → EachAfter (λ front turn. IsFiringAt side turn → IsUnspent tries errand (end_at side (pair_of near far front)).run.value) past later
  each_unspent errand met past [] is = tt
  each_unspent errand met past (turn ∷ later) is =
      ((λ firing. unspent_in errand met past turn later is firing.1), each_unspent errand met (past ++ turn ∷ []) later (is ∙ sym (append_assoc past (turn ∷ []) later)))

pub few-disturbances_spend_none : MetIsHeeded → FewDisturbancesSpendNone
few-disturbances_spend_none heeded near far turns fair read side errand met few = each_unspent heeded near far turns fair read side (policy_at side near far).tries few errand met [] turns refl

-- ---- requests for ends

-- something happens at the near end, by which none is given up
forgoes_more : (pair : Pair) (happening : Happening) → 1 ≤ pair.near.policy.tries → (happening ≡ Acts Fires → (own : ℕ) → IsUnspent pair.near.policy.tries (errands.Disconnection own) pair.near.run.value) → ForgoesNoEnd pair.near.run.said → ForgoesNoEnd (happens_near happening pair).near.run.said
forgoes_more pair happening some unspent none = by happening unspent
  where
    grows : (more : Occurrence) → ForgoesNoEnd (said_in pair.near.policy more pair.near.run.value) → ForgoesNoEnd (pair.near.run.said ++ said_in pair.near.policy more pair.near.run.value)
    grows more new own peer is = either (stands-either (GaveUp (sayings.Disconnection own peer)) pair.near.run.said (said_in pair.near.policy more pair.near.run.value) is)
      where
        either : StandsIn (GaveUp (sayings.Disconnection own peer)) pair.near.run.said ⊎ StandsIn (GaveUp (sayings.Disconnection own peer)) (said_in pair.near.policy more pair.near.run.value) → ⊥
        either (inl old) = none own peer old
        either (inr now) = new own peer now

    other : (more : Occurrence) → (more ≡ Fires → ⊥) → ForgoesNoEnd (pair.near.run.said ++ said_in pair.near.policy more pair.near.run.value)
    other more apart = grows more (no-forgone pair.near.policy more pair.near.run.value some (λ fires. absurd (apart fires)))

    acts : (more : Occurrence) (alone : Bool) → (Acts more ≡ Acts Fires → (own : ℕ) → IsUnspent pair.near.policy.tries (errands.Disconnection own) pair.near.run.value) → ForgoesNoEnd (cond alone (with_near (occurs more pair.near) pair) pair).near.run.said
    acts more true so = grows more (no-forgone pair.near.policy more pair.near.run.value some (λ fires. so (ap Acts fires)))
    acts more false so = none

    gives : (pdu : List ℕ) (given : Option Given) → ForgoesNoEnd (puts given pdu pair).near.run.said
    gives pdu None = none
    gives pdu (Some given) = other (Gives pdu) (λ is. cc)

    took : (coming : List (List ℕ)) → ForgoesNoEnd (takes_first coming pair.near).run.said
    took [] = none
    took (pdu ∷ coming) = other (Comes pdu) (λ is. cc)

    repeated : (coming : List (List ℕ)) → ForgoesNoEnd (repeats_first coming pair.near).run.said
    repeated [] = none
    repeated (pdu ∷ coming) = other (Comes pdu) (λ is. cc)

    lost : (coming : List (List ℕ)) → ForgoesNoEnd (loses_first coming pair.near).run.said
    lost [] = none
    lost (pdu ∷ coming) = none

    damaged : (pdu : List ℕ) (coming : List (List ℕ)) → ForgoesNoEnd (damages_first pdu coming pair.near).run.said
    damaged pdu [] = none
    damaged pdu (first ∷ coming) = at (has_fcs (channel_of first) pair.near.run.value)
      where
        at : (checked : Bool) → ForgoesNoEnd (cond checked (occurs (Comes pdu) (let_go coming pair.near)) (let_go coming pair.near)).run.said
        at true = other (Comes pdu) (λ is. cc)
        at false = none

    by : (h : Happening) → (h ≡ Acts Fires → (own : ℕ) → IsUnspent pair.near.policy.tries (errands.Disconnection own) pair.near.run.value) → ForgoesNoEnd (happens_near h pair).near.run.said
    by (Acts more) so = acts more (is_alone more) so
    by (Puts pdu) so = gives pdu (next_given pair.near.run.value)
    by Takes so = took pair.near.coming
    by Repeats so = repeated pair.near.coming
    by Loses so = lost pair.near.coming
    by (Damages pdu) so = damaged pdu pair.near.coming

-- at the other end nothing is said
pub said_apart : (pair : Pair) (happening : Happening) → (happens_near happening pair).far.run ≡ pair.far.run
said_apart pair (Acts more) = by (is_alone more)
  where
    by : (alone : Bool) → (cond alone (with_near (occurs more pair.near) pair) pair).far.run ≡ pair.far.run
    by true = refl
    by false = refl
said_apart pair (Puts pdu) = by (next_given pair.near.run.value)
  where
    by : (given : Option Given) → (puts given pdu pair).far.run ≡ pair.far.run
    by None = refl
    by (Some given) = refl
said_apart pair Takes = refl
said_apart pair Repeats = refl
said_apart pair Loses = refl
said_apart pair (Damages pdu) = refl

module _ (near far : Policy) (side : Side) (some : 1 ≤ (policy_at side near far).tries) where
  -- of the turns up to a moment
  turn_forgoes : (past : List Turn) (at : Side) (happening : Happening) → (let turn : Turn = record { side = at; happening = happening } in IsFiringAt side turn → (own : ℕ) → IsUnspent (policy_at side near far).tries (errands.Disconnection own) (end_at side (pair_of near far past)).run.value)
      → ForgoesNoEnd (end_at side (pair_of near far past)).run.said → ForgoesNoEnd (end_at side (happens_at at happening (pair_of near far past))).run.said
  turn_forgoes past at happening unspent none = by side at (end-policy near far past side) some unspent none
    where
      pair : Pair
      pair = pair_of near far past

      by : (which at : Side) → (end_at which pair).policy ≡ policy_at which near far → 1 ≤ (policy_at which near far).tries
          → ((at ≡ which) × (happening ≡ Acts Fires) → (own : ℕ) → IsUnspent (policy_at which near far).tries (errands.Disconnection own) (end_at which pair).run.value)
          → ForgoesNoEnd (end_at which pair).run.said → ForgoesNoEnd (end_at which (happens_at at happening pair)).run.said
      by Near Near policy_is least so old =
          forgoes_more pair happening (subst (λ (p : Policy). 1 ≤ p.tries) (sym policy_is) least) (λ fires own. subst (λ (p : Policy). IsUnspent p.tries (errands.Disconnection own) pair.near.run.value) (sym policy_is) (so (refl, fires) own)) old
      by Near Far policy_is least so old = subst (λ (r : Run). ForgoesNoEnd r.said) (sym (said_apart (turned pair) happening)) old
      by Far Near policy_is least so old = subst (λ (r : Run). ForgoesNoEnd r.said) (sym (said_apart pair happening)) old
      by Far Far policy_is least so old =
          forgoes_more (turned pair) happening (subst (λ (p : Policy). 1 ≤ p.tries) (sym policy_is) least) (λ fires own. subst (λ (p : Policy). IsUnspent p.tries (errands.Disconnection own) pair.far.run.value) (sym policy_is) (so (refl, fires) own)) old

  each_forgoes : (past later : List Turn) → ((own : ℕ) → EachAfter (λ front turn. IsFiringAt side turn → IsUnspent (policy_at side near far).tries (errands.Disconnection own) (end_at side (pair_of near far front)).run.value) past later)
      → ForgoesNoEnd (end_at side (pair_of near far past)).run.said → ForgoesNoEnd (end_at side (pair_of near far (past ++ later))).run.said
  each_forgoes past [] unspent none = subst (λ (l : List Turn). ForgoesNoEnd (end_at side (pair_of near far l)).run.said) (sym (append-nil past)) none
  each_forgoes past (turn ∷ later) unspent none =
      subst (λ (l : List Turn). ForgoesNoEnd (end_at side (pair_of near far l)).run.said) (append_assoc past (turn ∷ []) later)
      (each_forgoes (past ++ turn ∷ []) later (λ own. (unspent own).1)
      (subst (λ (p : Pair). ForgoesNoEnd (end_at side p).run.said) (sym (fold-append pair_after (new_pair near far) past (turn ∷ []))) (turn_forgoes past turn.side turn.happening (λ firing own. (unspent own).0 firing) none)))

nothing_yet : (side : Side) (near far : Policy) → ForgoesNoEnd (end_at side (new_pair near far)).run.said
nothing_yet Near near far own peer is = elim is [ ]
nothing_yet Far near far own peer is = elim is [ ]

pub few-disturbances_forgo_none : FewDisturbancesSpendNone → FewDisturbancesForgoNone
few-disturbances_forgo_none spend near far turns fair read side met few =
    each_forgoes near far side (omega (arith, few)) [] turns (λ own. spend near far turns fair read side (errands.Disconnection own) (met own) few) (nothing_yet side near far)
