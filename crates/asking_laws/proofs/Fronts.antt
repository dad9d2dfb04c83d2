-- What is so of a host at each moment of what happened to it is so at each moment of its link.
use Rattle.std.proofs.Common.{◌≡◌, ℕ, List, [], ◌∷◌, ◌++◌, Bool, true, false, cond, Option, Some, None, refl, sym, ap, subst, ◌∙◌, ◌⊎◌, inl, inr, append_assoc, append-nil}
use Rattle.std.specs.List.{flat_map}
use Rattle.std.proofs.lemmas.List.Concat.{flat_map-append}
use Rattle.std.proofs.lemmas.List.Sums.{fold-append}
use Rattle.pair_laws.specs.acl_fragments.specs.Pieces.{channel_of}
use Rattle.pair_laws.specs.capture.specs.Histories.{EachAfter}
use Rattle.pair_laws.specs.channel_model.specs.Calls.{has_fcs}
use Rattle.pair_laws.specs.channel_model.specs.Giving.{Given, next_given}
use Rattle.pair_laws.specs.channel_model.specs.Policies.{Policy}
use Rattle.channel_laws.specs.Ends.{end_at}
use Rattle.channel_laws.specs.Modes.{policy_of}
use Rattle.channel_laws.specs.Pairs.{End, Pair, Happening, Acts, Puts, Takes, Repeats, Loses, Damages, is_alone, occurs, with_near, puts, let_go, takes_first, repeats_first, loses_first, damages_first, happens_near, Side, Near, Far, turned, Turn, new_pair, happens_at, pair_after, pair_of}
use Rattle.channel_laws.specs.Runs.{Occurrence, Comes, Gives, Run, new_link, run_on, run_of}
use Rattle.channel_laws.proofs.Pairing.{end-policy}
use Rattle.channel_laws.proofs.Sharing.{near_grows}
use Rattle.pair_laws.specs.Orders.{first_come, given_as, damaged_come, occurs_by, Joint, AtNear, AtFar, near_in, far_in, joints_with, joints_at, joints_by, joints_from}

-- ---- one turn

abbrev pub in_at : Side → Joint → List Occurrence
in_at Near = near_in
in_at Far = far_in

-- nothing happens to a host, or one thing does
abbrev Happens : (list : List Occurrence) (before : End) (after : Run) → Type 0
Happens list before after = ((list ≡ []) × (after ≡ before.run)) ⊎ ((one : Occurrence) × (list ≡ one ∷ []) × (after ≡ run_on before.policy before.run one))

near_happens : (happening : Happening) (pair : Pair) → Happens (occurs_by happening pair.near) pair.near (happens_near happening pair).near.run
near_happens (Acts one) pair = by (is_alone one)
  where
    by : (alone : Bool) → (let after : Pair = cond alone (with_near (occurs one pair.near) pair) pair in Happens (cond alone (one ∷ []) []) pair.near after.near.run)
    by true = inr (one, refl, refl)
    by false = inl (refl, refl)
near_happens (Puts pdu) pair = by (next_given pair.near.run.value)
  where
    by : (given : Option Given) → Happens (given_as given pdu) pair.near (puts given pdu pair).near.run
    by None = inl (refl, refl)
    by (Some given) = inr (Gives pdu, refl, refl)
near_happens Takes pair = by pair.near.coming
  where
    by : (coming : List (List ℕ)) → Happens (first_come coming) pair.near (takes_first coming pair.near).run
    by [] = inl (refl, refl)
    by (pdu ∷ coming) = inr (Comes pdu, refl, refl)
near_happens Repeats pair = by pair.near.coming
  where
    by : (coming : List (List ℕ)) → Happens (first_come coming) pair.near (repeats_first coming pair.near).run
    by [] = inl (refl, refl)
    by (pdu ∷ coming) = inr (Comes pdu, refl, refl)
near_happens Loses pair = by pair.near.coming
  where
    by : (coming : List (List ℕ)) → Happens [] pair.near (loses_first coming pair.near).run
    by [] = inl (refl, refl)
    by (pdu ∷ coming) = inl (refl, refl)
near_happens (Damages other) pair = by pair.near.coming
  where
    checked : (b : Bool) (coming : List (List ℕ)) → Happens (cond b (Comes other ∷ []) []) pair.near (cond b (occurs (Comes other) (let_go coming pair.near)) (let_go coming pair.near)).run
    checked true coming = inr (Comes other, refl, refl)
    checked false coming = inl (refl, refl)

    by : (coming : List (List ℕ)) → Happens (damaged_come other coming pair.near) pair.near (damages_first other coming pair.near).run
    by [] = inl (refl, refl)
    by (pdu ∷ coming) = checked (has_fcs (channel_of pdu) pair.near.run.value) coming

own_list : (to : Occurrence → Joint) (mine : Joint → List Occurrence) → ((one : Occurrence) → mine (to one) ≡ one ∷ []) → (list : List Occurrence) → flat_map mine (joints_with to list) ≡ list
own_list to mine is [] = refl
own_list to mine is (one ∷ list) = ap (λ l. l ++ flat_map mine (joints_with to list)) (is one) ∙ ap (λ l. one ∷ l) (own_list to mine is list)

other_list : (to : Occurrence → Joint) (mine : Joint → List Occurrence) → ((one : Occurrence) → mine (to one) ≡ []) → (list : List Occurrence) → flat_map mine (joints_with to list) ≡ []
other_list to mine is [] = refl
other_list to mine is (one ∷ list) = ap (λ l. l ++ flat_map mine (joints_with to list)) (is one) ∙ other_list to mine is list

happens : (side at : Side) (happening : Happening) (pair : Pair) → Happens (flat_map (in_at side) (joints_at at happening pair)) (end_at side pair) (end_at side (happens_at at happening pair)).run
happens Near Near happening pair = subst (λ l. Happens l pair.near (happens_near happening pair).near.run) (sym (own_list AtNear near_in (λ one. refl) (occurs_by happening pair.near))) (near_happens happening pair)
happens Near Far happening pair = inl (other_list AtFar near_in (λ one. refl) (occurs_by happening pair.far), (near_grows happening (turned pair)).1)
happens Far Near happening pair = inl (other_list AtNear far_in (λ one. refl) (occurs_by happening pair.near), (near_grows happening pair).1)
happens Far Far happening pair = subst (λ l. Happens l pair.far (happens_near happening (turned pair)).near.run) (sym (own_list AtFar far_in (λ one. refl) (occurs_by happening pair.far))) (near_happens happening (turned pair))

-- ---- all turns

module _ (near far : Policy) (side : Side) where
  abbrev run_at : List Turn → Run
  run_at past = (end_at side (pair_of near far past)).run

  abbrev host : List Occurrence → Run
  host front = run_of (policy_of side near far) front

  -- what is still to happen to the host
  abbrev rest_of : (past turns : List Turn) → List Occurrence
  rest_of past turns = flat_map (in_at side) (joints_from (pair_of near far past) turns)

  policy_is : (past : List Turn) → (end_at side (pair_of near far past)).policy ≡ policy_of side near far
  policy_is past = by side
    where
      by : (at : Side) → (end_at at (pair_of near far past)).policy ≡ policy_of at near far
      by Near = end-policy near far past Near
      by Far = end-policy near far past Far

  -- one turn, and the others
  record Turned (past : List Turn) (turn : Turn) (turns : List Turn) (front : List Occurrence) : Type 0 where
    more : List Occurrence
    rest_is : rest_of past (turn ∷ turns) ≡ more ++ rest_of (past ++ turn ∷ []) turns
    how : ((more ≡ []) × (run_at (past ++ turn ∷ []) ≡ host front)) ⊎ ((one : Occurrence) × (more ≡ one ∷ []) × (run_at (past ++ turn ∷ []) ≡ host (front ++ one ∷ [])))

  turn_by : (past : List Turn) (turn : Turn) (turns : List Turn) (front : List Occurrence) → run_at past ≡ host front → Turned past turn turns front
  turn_by past turn turns front is = record {
    more = flat_map (in_at side) (joints_by turn (pair_of near far past));
    rest_is = flat_map-append (in_at side) (joints_by turn (pair_of near far past)) (joints_from (pair_after (pair_of near far past) turn) turns) ∙ ap (λ (p : Pair). flat_map (in_at side) (joints_by turn (pair_of near far past)) ++ flat_map (in_at side) (joints_from p turns)) (sym next);
    how = by (happens side turn.side turn.happening (pair_of near far past));
  }
    where
      next : pair_of near far (past ++ turn ∷ []) ≡ pair_after (pair_of near far past) turn
      next = fold-append pair_after (new_pair near far) past (turn ∷ [])

      then : run_at (past ++ turn ∷ []) ≡ (end_at side (pair_after (pair_of near far past) turn)).run
      then = ap (λ (p : Pair). (end_at side p).run) next

      by : Happens (flat_map (in_at side) (joints_by turn (pair_of near far past))) (end_at side (pair_of near far past)) (end_at side (pair_after (pair_of near far past) turn)).run
          → ((flat_map (in_at side) (joints_by turn (pair_of near far past)) ≡ []) × (run_at (past ++ turn ∷ []) ≡ host front)) ⊎ ((one : Occurrence) × (flat_map (in_at side) (joints_by turn (pair_of near far past)) ≡ one ∷ []) × (run_at (past ++ turn ∷ []) ≡ host (front ++ one ∷ [])))
      by (inl (none, same)) = inl (none, then ∙ (same ∙ is))
      by (inr (one, list, now)) = inr (
        one,
        list,
        then
            ∙ (now
            ∙ (ap (λ (p : Policy). run_on p (run_at past) one) (policy_is past) ∙ (ap (λ (r : Run). run_on (policy_of side near far) r one) is ∙ sym (fold-append (run_on (policy_of side near far)) new_link front (one ∷ []))))),
      )

  -- what leads from one moment to the next, and from each to itself
  pub each-step : (Q : Run → Run → Type 0) → ((run : Run) → Q run run) → (past turns : List Turn) (front : List Occurrence) → run_at past ≡ host front → EachAfter (λ f one. Q (host f) (host (f ++ one ∷ []))) front (rest_of past turns)
      → EachAfter (λ p turn. Q (run_at p) (end_at side (pair_after (pair_of near far p) turn)).run) past turns
  each-step Q same past [] front is all = tt
  each-step Q same past (turn ∷ turns) front is all = by (λ next now later. each-step Q same (past ++ turn ∷ []) turns next now later) it.how
    where
      it : Turned past turn turns front
      it = turn_by past turn turns front is

      P : List Occurrence → Occurrence → Type 0
      P f one = Q (host f) (host (f ++ one ∷ []))

      all_now : EachAfter P front (it.more ++ rest_of (past ++ turn ∷ []) turns)
      all_now = subst (EachAfter P front) it.rest_is all

      then : run_at (past ++ turn ∷ []) ≡ (end_at side (pair_after (pair_of near far past) turn)).run
      then = ap (λ (p : Pair). (end_at side p).run) (fold-append pair_after (new_pair near far) past (turn ∷ []))

      Later : Type 0
      Later = EachAfter (λ p t. Q (run_at p) (end_at side (pair_after (pair_of near far p) t)).run) (past ++ turn ∷ []) turns

      by : ((next : List Occurrence) → run_at (past ++ turn ∷ []) ≡ host next → EachAfter P next (rest_of (past ++ turn ∷ []) turns) → Later)
          → ((it.more ≡ []) × (run_at (past ++ turn ∷ []) ≡ host front)) ⊎ ((one : Occurrence) × (it.more ≡ one ∷ []) × (run_at (past ++ turn ∷ []) ≡ host (front ++ one ∷ []))) → Q (run_at past) (end_at side (pair_after (pair_of near far past) turn)).run × Later
      by goes (inl (none, now)) = (
        subst (Q (run_at past)) then (subst (λ (r : Run). Q r (run_at (past ++ turn ∷ []))) (sym is) (subst (Q (host front)) (sym now) (same (host front)))),
        goes front now (subst (λ l. EachAfter P front (l ++ rest_of (past ++ turn ∷ []) turns)) none all_now),
      )
      by goes (inr (one, list, now)) =
          let later : EachAfter P front (one ∷ rest_of (past ++ turn ∷ []) turns) = subst (λ l. EachAfter P front (l ++ rest_of (past ++ turn ∷ []) turns)) list all_now in (
            subst (Q (run_at past)) then (subst (λ (r : Run). Q r (run_at (past ++ turn ∷ []))) (sym is) (subst (Q (host front)) (sym now) later.0)),
            goes (front ++ one ∷ []) now later.1,
          )

  -- what is so at each moment, and behind all
  abbrev pub Stays : (S : Run → Type 0) → (front list : List Occurrence) → Type 0
  Stays S front list = EachAfter (λ f one. S (run_of (policy_of side near far) f)) front list × S (run_of (policy_of side near far) (front ++ list))

  now_so : (S : Run → Type 0) → (front list : List Occurrence) → Stays S front list → S (host front)
  now_so S front [] (each, end) = subst (λ l. S (host l)) (append-nil front) end
  now_so S front (one ∷ list) ((now, each), end) = now

  pub each-state : (S : Run → Type 0) → (past turns : List Turn) (front : List Occurrence) → run_at past ≡ host front → Stays S front (rest_of past turns) → EachAfter (λ p turn. S (run_at p)) past turns
  each-state S past [] front is so = tt
  each-state S past (turn ∷ turns) front is so = (subst S (sym is) (now_so S front (rest_of past (turn ∷ turns)) so), by (λ next now later. each-state S (past ++ turn ∷ []) turns next now later) it.how)
    where
      it : Turned past turn turns front
      it = turn_by past turn turns front is

      so_now : Stays S front (it.more ++ rest_of (past ++ turn ∷ []) turns)
      so_now = subst (Stays S front) it.rest_is so

      Later : Type 0
      Later = EachAfter (λ p t. S (run_at p)) (past ++ turn ∷ []) turns

      by : ((next : List Occurrence) → run_at (past ++ turn ∷ []) ≡ host next → Stays S next (rest_of (past ++ turn ∷ []) turns) → Later)
          → ((it.more ≡ []) × (run_at (past ++ turn ∷ []) ≡ host front)) ⊎ ((one : Occurrence) × (it.more ≡ one ∷ []) × (run_at (past ++ turn ∷ []) ≡ host (front ++ one ∷ []))) → Later
      by goes (inl (none, now)) = goes front now (subst (λ l. Stays S front (l ++ rest_of (past ++ turn ∷ []) turns)) none so_now)
      by goes (inr (one, list, now)) =
          let later : Stays S front (one ∷ rest_of (past ++ turn ∷ []) turns) = subst (λ l. Stays S front (l ++ rest_of (past ++ turn ∷ []) turns)) list so_now in
          goes (front ++ one ∷ []) now (later.0.1, subst (λ l. S (host l)) (sym (append_assoc front (one ∷ []) (rest_of (past ++ turn ∷ []) turns))) later.1)

  -- and back: what leads from each moment of the link to the next does so at each moment of what happened to the host
  pub each-happened : (Q : Run → Run → Type 0) → (past turns : List Turn) (front : List Occurrence) → run_at past ≡ host front → EachAfter (λ p turn. Q (run_at p) (end_at side (pair_after (pair_of near far p) turn)).run) past turns
      → EachAfter (λ f one. Q (host f) (host (f ++ one ∷ []))) front (rest_of past turns)
  each-happened Q past [] front is all = tt
  each-happened Q past (turn ∷ turns) front is (now, later) = subst (EachAfter P front) (sym it.rest_is) (by (λ next at. each-happened Q (past ++ turn ∷ []) turns next at later) it.how)
    where
      it : Turned past turn turns front
      it = turn_by past turn turns front is

      P : List Occurrence → Occurrence → Type 0
      P f one = Q (host f) (host (f ++ one ∷ []))

      rest : List Occurrence
      rest = rest_of (past ++ turn ∷ []) turns

      then : run_at (past ++ turn ∷ []) ≡ (end_at side (pair_after (pair_of near far past) turn)).run
      then = ap (λ (p : Pair). (end_at side p).run) (fold-append pair_after (new_pair near far) past (turn ∷ []))

      by : ((next : List Occurrence) → run_at (past ++ turn ∷ []) ≡ host next → EachAfter P next rest)
          → ((it.more ≡ []) × (run_at (past ++ turn ∷ []) ≡ host front)) ⊎ ((one : Occurrence) × (it.more ≡ one ∷ []) × (run_at (past ++ turn ∷ []) ≡ host (front ++ one ∷ []))) → EachAfter P front (it.more ++ rest)
      by goes (inl (none, at)) = subst (λ (l : List Occurrence). EachAfter P front (l ++ rest)) (sym none) (goes front at)
      by goes (inr (one, list, at)) =
          let here : Q (host front) (host (front ++ one ∷ [])) = subst (λ (r : Run). Q r (host (front ++ one ∷ []))) is (subst (Q (run_at past)) (sym then ∙ at) now) in
          subst (λ (l : List Occurrence). EachAfter P front (l ++ rest)) (sym list) (here, goes (front ++ one ∷ []) at)
