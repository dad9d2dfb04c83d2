-- All links of two hosts at once, by their numbers, and what one of the hosts does on its link.
use Rattle.std.proofs.Common.{◌≡◌, ◌⊎◌, inl, inr, ℕ, zero, suc, ◌+◌, ◌<◌, ◌≤◌, List, [], ◌∷◌, ◌++◌, map, length, get_or, refl, sym, ap, subst, ◌∙◌, arith, length-append}
use Rattle.std.proofs.lemmas.Bool.{cases_eq}
use Rattle.channel_laws.specs.channel_model.specs.Policies.{Policy}
use Rattle.channel_laws.specs.Runs.{Occurrence}
use Rattle.host_laws.specs.Lives.{Span}
use Rattle.scenario_laws.specs.world_model.specs.Machines.{LinkEvent, Up, Down}
use Rattle.scenario_laws.specs.world_model.specs.Carriages as carriages
use Rattle.pair_laws.proofs.Facing.{View, NearBy, FarBy, most_of, with_most, PairFrom, richer}

-- ---- what happened on the link of a number

abbrev pub part_at : ℕ → List Span → List Occurrence → List Occurrence
part_at zero [] now = now
part_at (suc k) [] now = []
part_at zero (span ∷ spans) now = span.list
part_at (suc k) (span ∷ spans) now = part_at k spans now

pub part-now : (spans : List Span) (now : List Occurrence) → part_at (length spans) spans now ≡ now
part-now [] now = refl
part-now (span ∷ spans) now = part-now spans now

pub part-else : (k : ℕ) (spans : List Span) (x y : List Occurrence) → (k ≡ length spans → ⊥) → part_at k spans x ≡ part_at k spans y
part-else zero [] x y apart = absurd (apart refl)
part-else (suc k) [] x y apart = refl
part-else zero (span ∷ spans) x y apart = refl
part-else (suc k) (span ∷ spans) x y apart = part-else k spans x y (λ is. apart (ap suc is))

abbrev pub ended : List Occurrence → LinkEvent → Span
ended now event = record { list = now; event = event }

part_turned : (k : ℕ) (spans : List Span) (now : List Occurrence) (event : LinkEvent) → part_at k (spans ++ ended now event ∷ []) [] ≡ part_at k spans now
part_turned zero [] now event = refl
part_turned (suc zero) [] now event = refl
part_turned (suc (suc k)) [] now event = refl
part_turned zero (span ∷ spans) now event = refl
part_turned (suc k) (span ∷ spans) now event = part_turned k spans now event

pub part-get : (k : ℕ) (spans : List Span) (now : List Occurrence) → part_at k spans now ≡ get_or (map (λ (span : Span). span.list) spans ++ now ∷ []) k []
part-get zero [] now = refl
part-get (suc k) [] now = refl
part-get zero (span ∷ spans) now = refl
part-get (suc k) (span ∷ spans) now = part-get k spans now

-- ---- a link

abbrev coming_of : {X : Type 0} {k i : ℕ} → (k ≡ i) ⊎ (k ≡ i → ⊥) → List X → List X
coming_of (inl same) coming = coming
coming_of (inr apart) coming = []

-- what is being handed over comes on the link that the host is on
abbrev pub coming_at : (k i : ℕ) → List (List ℕ) → List (List ℕ)
coming_at k i coming = coming_of (cases_eq k i) coming

coming_here : (k i : ℕ) (coming : List (List ℕ)) (which : (k ≡ i) ⊎ (k ≡ i → ⊥)) → k ≡ i → coming_of which coming ≡ coming
coming_here k i coming (inl same) is = refl
coming_here k i coming (inr apart) is = absurd (apart is)

coming_else : (k i : ℕ) (coming : List (List ℕ)) (which : (k ≡ i) ⊎ (k ≡ i → ⊥)) → (k ≡ i → ⊥) → coming_of which coming ≡ []
coming_else k i coming (inl same) not = absurd (not same)
coming_else k i coming (inr apart) not = refl

pub coming_none : (k i : ℕ) (coming : List (List ℕ)) (which : (k ≡ i) ⊎ (k ≡ i → ⊥)) → coming ≡ [] → coming_of which coming ≡ []
coming_none k i coming (inl same) none = none
coming_none k i coming (inr apart) none = refl

-- The link of number k as the host at one side has it, which is on its link of number i; the other is on its link of number j. On a link that
-- a host has not come to it has put nothing; and on the one that it is on, where no event is owed to it, all that is under way from it is in
-- the air or waits.
pub record LinkAt {S T : Type 0} (side : View) (mine theirs : Policy) (list other : List Occurrence) (k i : ℕ) (e : carriages.End S) (j : ℕ) (f : carriages.End T) : Type 0 where
  pub rest : List (List ℕ)
  pub far_rest : List (List ℕ)
  pub pair : PairFrom side mine theirs list other (coming_at k i e.coming) rest (coming_at k j f.coming) far_rest
  pub none_put : i < k → far_rest ≡ []
  pub now_put : k ≡ i → e.owed ≡ [] → far_rest ≡ e.queue ++ e.waiting
  pub none_far : j < k → rest ≡ []
  pub now_far : k ≡ j → f.owed ≡ [] → rest ≡ f.queue ++ f.waiting

-- all of them
abbrev pub Links : {S T : Type 0} → View → (mine theirs : Policy) (spans : List Span) (now : List Occurrence) → carriages.End S → (other : ℕ → List Occurrence) (j : ℕ) → carriages.End T → Type 0
Links side mine theirs spans now e other j f = (k : ℕ) → LinkAt side mine theirs (part_at k spans now) (other k) k (length spans) e j f

abbrev pub opposite : View → View
opposite (NearBy whole most) = FarBy whole most
opposite (FarBy whole most) = NearBy whole most

turned_pair : (side : View) (mine theirs : Policy) (list other : List Occurrence) (c r c' r' : List (List ℕ)) → PairFrom side mine theirs list other c r c' r' → PairFrom (opposite side) theirs mine other list c' r' c r
turned_pair (NearBy whole most) mine theirs list other c r c' r' p = p
turned_pair (FarBy whole most) mine theirs list other c r c' r' p = p

-- as the other host has them
pub turned-links : {S T : Type 0} (side : View) (mine theirs : Policy) (spans others : List Span) (now then : List Occurrence) (e : carriages.End S) (f : carriages.End T) → Links side mine theirs spans now e (λ k. part_at k others then) (length others) f
    → Links (opposite side) theirs mine others then f (λ k. part_at k spans now) (length spans) e
turned-links side mine theirs spans others now then e f links k =
    let link = links k in
    record { rest = link.far_rest; far_rest = link.rest; pair = turned_pair side mine theirs (part_at k spans now) (part_at k others then) _ _ _ _ link.pair; none_put = link.none_far; now_put = link.now_far; none_far = link.none_put; now_far = link.now_put }

-- It did more on the link that it is on, and what it put is in the air or waits.
pub record Later {S : Type 0} (side : View) (mine theirs : Policy) (there later : List Occurrence) (e e' : carriages.End S) (rest far_coming far_rest : List (List ℕ)) : Type 0 where
  pub after : List (List ℕ)
  pub pair : PairFrom side mine theirs later there e'.coming rest far_coming after
  pub put : (e.owed ≡ [] → far_rest ≡ e.queue ++ e.waiting) → e'.owed ≡ [] → after ≡ e'.queue ++ e'.waiting

-- so it is whatever is under way
abbrev pub DoesMore : {S : Type 0} → View → (mine theirs : Policy) (there now later : List Occurrence) (e e' : carriages.End S) → Type 0
DoesMore side mine theirs there now later e e' = (rest far_coming far_rest : List (List ℕ)) → PairFrom side mine theirs now there e.coming rest far_coming far_rest → Later side mine theirs there later e e' rest far_coming far_rest

module _ {S T : Type 0} (side : View) (mine theirs : Policy) (spans : List Span) (now : List Occurrence) (other : ℕ → List Occurrence) (j : ℕ) (f : carriages.End T) where
  -- ---- on the link that it is on

  here_on : (later : List Occurrence) (e e' : carriages.End S) → DoesMore side mine theirs (other (length spans)) now later e e' → Links side mine theirs spans now e other j f
      → LinkAt side mine theirs (part_at (length spans) spans later) (other (length spans)) (length spans) (length spans) e' j f
  here_on later e e' does links =
      let i = length spans in
      let link = links i in
      let fc = coming_at i j f.coming in
      let old : PairFrom side mine theirs now (other (length spans)) e.coming link.rest fc link.far_rest =
      subst (λ (c : List (List ℕ)). PairFrom side mine theirs now (other (length spans)) c link.rest fc link.far_rest) (coming_here i i e.coming (cases_eq i i) refl) (subst (λ (l : List Occurrence). PairFrom side mine theirs l (other (length spans)) (coming_at i i e.coming) link.rest fc link.far_rest) (part-now spans now) link.pair) in
      let new = does link.rest fc link.far_rest old in
      record {
        rest = link.rest;
        far_rest = new.after;
        pair = subst (λ (c : List (List ℕ)). PairFrom side mine theirs (part_at i spans later) (other (length spans)) c link.rest fc new.after) (sym (coming_here i i e'.coming (cases_eq i i) refl)) (subst (λ (l : List Occurrence). PairFrom side mine theirs l (other (length spans)) e'.coming link.rest fc new.after) (sym (part-now spans later)) new.pair);
        none_put = λ below. absurd (omega arith);
        now_put = λ same. new.put (link.now_put refl);
        none_far = link.none_far;
        now_far = link.now_far;
      }

  else_on : (later : List Occurrence) (e e' : carriages.End S) (k : ℕ) → (k ≡ length spans → ⊥) → Links side mine theirs spans now e other j f → LinkAt side mine theirs (part_at k spans later) (other k) k (length spans) e' j f
  else_on later e e' k apart links =
      let i = length spans in
      let link = links k in
      let fc = coming_at k j f.coming in
      let none = coming_else k i e.coming (cases_eq k i) apart ∙ sym (coming_else k i e'.coming (cases_eq k i) apart) in
      record {
        rest = link.rest;
        far_rest = link.far_rest;
        pair = subst (λ (c : List (List ℕ)). PairFrom side mine theirs (part_at k spans later) (other k) c link.rest fc link.far_rest) none
            (subst (λ (l : List Occurrence). PairFrom side mine theirs l (other k) (coming_at k i e.coming) link.rest fc link.far_rest) (part-else k spans now later apart) link.pair);
        none_put = link.none_put;
        now_put = λ same. absurd (apart same);
        none_far = link.none_far;
        now_far = link.now_far;
      }

  -- it does something on its link
  pub does-more : (later : List Occurrence) (e e' : carriages.End S) → DoesMore side mine theirs (other (length spans)) now later e e' → Links side mine theirs spans now e other j f
      → Links side mine theirs spans later e' other j f
  does-more later e e' does links k = by (cases_eq k (length spans))
    where
      by : (k ≡ length spans) ⊎ (k ≡ length spans → ⊥) → LinkAt side mine theirs (part_at k spans later) (other k) k (length spans) e' j f
      by (inl same) = subst (λ (n : ℕ). LinkAt side mine theirs (part_at n spans later) (other n) n (length spans) e' j f) (sym same) (here_on later e e' does links)
      by (inr apart) = else_on later e e' k apart links

  -- its link comes up or goes down: it comes to the next one
  pub turns-to : (event : LinkEvent) (e e' : carriages.End S) → e.coming ≡ [] → e'.coming ≡ [] → e'.queue ++ e'.waiting ≡ [] → Links side mine theirs spans now e other j f → Links side mine theirs (spans ++ ended now event ∷ []) [] e' other j f
  turns-to event e e' before none empty links k =
      let i = length spans in
      let i' = length (spans ++ ended now event ∷ []) in
      let next : i' ≡ i + 1 = length-append spans (ended now event ∷ []) in
      let link = links k in
      let fc = coming_at k j f.coming in
      record {
        rest = link.rest;
        far_rest = link.far_rest;
        pair = subst (λ (c : List (List ℕ)). PairFrom side mine theirs (part_at k (spans ++ ended now event ∷ []) []) (other k) c link.rest fc link.far_rest) (coming_none k i e.coming (cases_eq k i) before ∙ sym (coming_none k i' e'.coming (cases_eq k i') none))
            (subst (λ (l : List Occurrence). PairFrom side mine theirs l (other k) (coming_at k i e.coming) link.rest fc link.far_rest) (sym (part_turned k spans now event)) link.pair);
        none_put = λ below. link.none_put (omega arith);
        now_put = λ same owed. link.none_put (omega arith) ∙ sym empty;
        none_far = link.none_far;
        now_far = link.now_far;
      }

-- ---- both

-- an event is owed to each
abbrev OwesMore : {S : Type 0} → (old new : carriages.End S) → Type 0
OwesMore old new = (new.owed ≡ [] → ⊥) × (new.coming ≡ old.coming)

owes_more : {S : Type 0} (event : LinkEvent) (e : carriages.End S) → OwesMore e (carriages.owing event e)
owes_more Up e = (some e.owed, refl)
  where
    some : (owed : List LinkEvent) → owed ++ Up ∷ [] ≡ [] → ⊥
    some [] is = cc
    some (one ∷ owed) is = cc
owes_more (Down reason) e = (some e.owed, refl)
  where
    some : (owed : List LinkEvent) → owed ++ Down reason ∷ [] ≡ [] → ⊥
    some [] is = cc
    some (one ∷ owed) is = cc

pub owes-both : {S T : Type 0} (side : View) (mine theirs : Policy) (spans : List Span) (now : List Occurrence) (other : ℕ → List Occurrence) (j : ℕ) (one two : LinkEvent) (e : carriages.End S) (f : carriages.End T) → Links side mine theirs spans now e other j f
    → Links side mine theirs spans now (carriages.owing one e) other j (carriages.owing two f)
owes-both side mine theirs spans now other j one two e f links k =
    let link = links k in
    let i = length spans in
    let (owed, same) = owes_more one e in
    let (far_owed, far_same) = owes_more two f in
    record {
      rest = link.rest;
      far_rest = link.far_rest;
      pair = subst (λ (c : List (List ℕ)). PairFrom side mine theirs (part_at k spans now) (other k) (coming_at k i (carriages.owing one e).coming) link.rest (coming_at k j c) link.far_rest) (sym far_same)
          (subst (λ (c : List (List ℕ)). PairFrom side mine theirs (part_at k spans now) (other k) (coming_at k i c) link.rest (coming_at k j f.coming) link.far_rest) (sym same) link.pair);
      none_put = link.none_put;
      now_put = λ here none. absurd (owed none);
      none_far = link.none_far;
      now_far = λ here none. absurd (far_owed none);
    }

-- where more may be spent
pub richer-links : {S T : Type 0} (side : View) (m : ℕ) (mine theirs : Policy) (spans : List Span) (now : List Occurrence) (other : ℕ → List Occurrence) (j : ℕ) (e : carriages.End S) (f : carriages.End T) → most_of side ≤ m → Links side mine theirs spans now e other j f
    → Links (with_most m side) mine theirs spans now e other j f
richer-links side m mine theirs spans now other j e f more links k =
    let link = links k in
    record {
      rest = link.rest;
      far_rest = link.far_rest;
      pair = richer side m mine theirs (part_at k spans now) (other k) (coming_at k (length spans) e.coming) link.rest (coming_at k j f.coming) link.far_rest more link.pair;
      none_put = link.none_put;
      now_put = link.now_put;
      none_far = link.none_far;
      now_far = link.now_far;
    }

-- what is under way to the host comes to it, or is lost: both are on the same link, and nothing is owed to the other
pub comes-over : {S T : Type 0} (side : View) (m : ℕ) (mine theirs : Policy) (spans : List Span) (now : List Occurrence) (other : ℕ → List Occurrence) (j : ℕ) (e e' : carriages.End S) (f f' : carriages.End T) → length spans ≡ j → f.owed ≡ [] → most_of side ≤ m
    → (e'.owed ≡ e.owed) × (e'.queue ++ e'.waiting ≡ e.queue ++ e.waiting) → f'.coming ≡ f.coming
    → ((far_coming far_rest : List (List ℕ)) → PairFrom side mine theirs now (other (length spans)) e.coming (f.queue ++ f.waiting) far_coming far_rest → PairFrom (with_most m side) mine theirs now (other (length spans)) e'.coming (f'.queue ++ f'.waiting) far_coming far_rest)
    → Links side mine theirs spans now e other j f → Links (with_most m side) mine theirs spans now e' other j f'
comes-over {S} {T} side m mine theirs spans now other j e e' f f' level none more same far_same comes links k = by (cases_eq k (length spans))
  where
    here : LinkAt (with_most m side) mine theirs (part_at (length spans) spans now) (other (length spans)) (length spans) (length spans) e' j f'
    here =
        let i = length spans in
        let link = links i in
        let fc = coming_at i j f.coming in
        let rest_is : link.rest ≡ f.queue ++ f.waiting = link.now_far level none in
        let old : PairFrom side mine theirs now (other i) e.coming (f.queue ++ f.waiting) fc link.far_rest =
        subst (λ (r : List (List ℕ)). PairFrom side mine theirs now (other i) e.coming r fc link.far_rest) rest_is
        (subst (λ (c : List (List ℕ)). PairFrom side mine theirs now (other i) c link.rest fc link.far_rest) (coming_here i i e.coming (cases_eq i i) refl) (subst (λ (l : List Occurrence). PairFrom side mine theirs l (other i) (coming_at i i e.coming) link.rest fc link.far_rest) (part-now spans now) link.pair)) in
        let new = comes fc link.far_rest old in
        record {
          rest = f'.queue ++ f'.waiting;
          far_rest = link.far_rest;
          pair = subst (λ (c : List (List ℕ)). PairFrom (with_most m side) mine theirs (part_at i spans now) (other i) (coming_at i i e'.coming) (f'.queue ++ f'.waiting) (coming_at i j c) link.far_rest) (sym far_same)
              (subst (λ (c : List (List ℕ)). PairFrom (with_most m side) mine theirs (part_at i spans now) (other i) c (f'.queue ++ f'.waiting) fc link.far_rest) (sym (coming_here i i e'.coming (cases_eq i i) refl))
              (subst (λ (l : List Occurrence). PairFrom (with_most m side) mine theirs l (other i) e'.coming (f'.queue ++ f'.waiting) fc link.far_rest) (sym (part-now spans now)) new));
          none_put = λ below. absurd (omega arith);
          now_put = λ here owed. link.now_put refl (sym same.0 ∙ owed) ∙ sym same.1;
          none_far = λ below. absurd (omega arith);
          now_far = λ here owed. refl;
        }

    apart_from : (k ≡ length spans → ⊥) → LinkAt (with_most m side) mine theirs (part_at k spans now) (other k) k (length spans) e' j f'
    apart_from apart =
        let i = length spans in
        let link = richer-links side m mine theirs spans now other j e f more links k in
        let fc = coming_at k j f.coming in
        record {
          rest = link.rest;
          far_rest = link.far_rest;
          pair = subst (λ (c : List (List ℕ)). PairFrom (with_most m side) mine theirs (part_at k spans now) (other k) (coming_at k i e'.coming) link.rest (coming_at k j c) link.far_rest) (sym far_same)
              (subst (λ (c : List (List ℕ)). PairFrom (with_most m side) mine theirs (part_at k spans now) (other k) c link.rest fc link.far_rest) (coming_else k i e.coming (cases_eq k i) apart ∙ sym (coming_else k i e'.coming (cases_eq k i) apart)) link.pair);
          none_put = link.none_put;
          now_put = λ same. absurd (apart same);
          none_far = link.none_far;
          now_far = λ there. absurd (apart (there ∙ sym level));
        }

    by : (k ≡ length spans) ⊎ (k ≡ length spans → ⊥) → LinkAt (with_most m side) mine theirs (part_at k spans now) (other k) k (length spans) e' j f'
    by (inl is) = subst (λ (n : ℕ). LinkAt (with_most m side) mine theirs (part_at n spans now) (other n) n (length spans) e' j f') (sym is) here
    by (inr apart) = apart_from apart

-- Timers fire: both are on the same link, nothing is owed to either, and what they say then waits still.
pub fires-over : {S T : Type 0} (side : View) (m : ℕ) (mine theirs : Policy) (spans : List Span) (now later : List Occurrence) (other after : ℕ → List Occurrence) (j : ℕ) (e e' : carriages.End S) (f f' : carriages.End T) → length spans ≡ j → e.owed ≡ [] → f.owed ≡ [] → e.coming ≡ [] → e'.coming ≡ [] → f.coming ≡ []
    → f'.coming ≡ [] → most_of side ≤ m → e'.queue ++ e'.waiting ≡ e.queue ++ e.waiting → f'.queue ++ f'.waiting ≡ f.queue ++ f.waiting → ((k : ℕ) → (k ≡ length spans → ⊥) → other k ≡ after k)
    → (PairFrom side mine theirs now (other (length spans)) [] (f.queue ++ f.waiting) [] (e.queue ++ e.waiting) → PairFrom (with_most m side) mine theirs later (after (length spans)) [] (f.queue ++ f.waiting) [] (e.queue ++ e.waiting))
    → Links side mine theirs spans now e other j f → Links (with_most m side) mine theirs spans later e' after j f'
fires-over {S} {T} side m mine theirs spans now later other after j e e' f f' level owes far_owes idle idle' far_idle far_idle' more same far_same else fires links k = by (cases_eq k (length spans))
  where
    here : LinkAt (with_most m side) mine theirs (part_at (length spans) spans later) (after (length spans)) (length spans) (length spans) e' j f'
    here =
        let i = length spans in
        let link = links i in
        let put = e.queue ++ e.waiting in
        let left = f.queue ++ f.waiting in
        let far_none = coming_none i j f.coming (cases_eq i j) far_idle in
        let far_none' = coming_none i j f'.coming (cases_eq i j) far_idle' in
        let near_none = coming_none i i e.coming (cases_eq i i) idle in
        let near_none' = coming_none i i e'.coming (cases_eq i i) idle' in
        let old : PairFrom side mine theirs now (other i) [] left [] put =
        subst (λ (r : List (List ℕ)). PairFrom side mine theirs now (other i) [] left [] r) (link.now_put refl owes)
        (subst (λ (r : List (List ℕ)). PairFrom side mine theirs now (other i) [] r [] link.far_rest) (link.now_far level far_owes)
        (subst (λ (c : List (List ℕ)). PairFrom side mine theirs now (other i) [] link.rest c link.far_rest) far_none
        (subst (λ (c : List (List ℕ)). PairFrom side mine theirs now (other i) c link.rest (coming_at i j f.coming) link.far_rest) near_none
        (subst (λ (l : List Occurrence). PairFrom side mine theirs l (other i) (coming_at i i e.coming) link.rest (coming_at i j f.coming) link.far_rest) (part-now spans now) link.pair)))) in
        record {
          rest = left;
          far_rest = put;
          pair = subst (λ (l : List Occurrence). PairFrom (with_most m side) mine theirs l (after i) (coming_at i i e'.coming) left (coming_at i j f'.coming) put) (sym (part-now spans later))
              (subst (λ (c : List (List ℕ)). PairFrom (with_most m side) mine theirs later (after i) c left (coming_at i j f'.coming) put) (sym near_none')
              (subst (λ (c : List (List ℕ)). PairFrom (with_most m side) mine theirs later (after i) [] left c put) (sym far_none') (fires old)));
          none_put = λ below. absurd (omega arith);
          now_put = λ there owed. sym same;
          none_far = λ below. absurd (omega (arith, level, below));
          now_far = λ there owed. sym far_same;
        }

    apart_from : (k ≡ length spans → ⊥) → LinkAt (with_most m side) mine theirs (part_at k spans later) (after k) k (length spans) e' j f'
    apart_from apart =
        let i = length spans in
        let link = richer-links side m mine theirs spans now other j e f more links k in
        let near_same = coming_else k i e.coming (cases_eq k i) apart ∙ sym (coming_else k i e'.coming (cases_eq k i) apart) in
        let both_none = coming_none k j f.coming (cases_eq k j) far_idle ∙ sym (coming_none k j f'.coming (cases_eq k j) far_idle') in
        record {
          rest = link.rest;
          far_rest = link.far_rest;
          pair = subst (λ (l : List Occurrence). PairFrom (with_most m side) mine theirs (part_at k spans later) l (coming_at k i e'.coming) link.rest (coming_at k j f'.coming) link.far_rest) (else k apart)
              (subst (λ (c : List (List ℕ)). PairFrom (with_most m side) mine theirs (part_at k spans later) (other k) (coming_at k i e'.coming) link.rest c link.far_rest) both_none
              (subst (λ (c : List (List ℕ)). PairFrom (with_most m side) mine theirs (part_at k spans later) (other k) c link.rest (coming_at k j f.coming) link.far_rest) near_same
              (subst (λ (l : List Occurrence). PairFrom (with_most m side) mine theirs l (other k) (coming_at k i e.coming) link.rest (coming_at k j f.coming) link.far_rest) (part-else k spans now later apart) link.pair)));
          none_put = link.none_put;
          now_put = λ there. absurd (apart there);
          none_far = link.none_far;
          now_far = λ there. absurd (apart (there ∙ sym level));
        }

    by : (k ≡ length spans) ⊎ (k ≡ length spans → ⊥) → LinkAt (with_most m side) mine theirs (part_at k spans later) (after k) k (length spans) e' j f'
    by (inl is) = subst (λ (n : ℕ). LinkAt (with_most m side) mine theirs (part_at n spans later) (after n) n (length spans) e' j f') (sym is) here
    by (inr apart) = apart_from apart
