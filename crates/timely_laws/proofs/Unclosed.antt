-- A host did not close a channel for whose options a request is under way to it, where it heard none.
use Rattle.std.proofs.Common.{◌≡◌, ◌<◌, ◌+◌, ℕ, List, [], ◌∷◌, ◌++◌, Bool, true, false, eqb, not, ◌&&◌, length, Some, refl, sym, ap, subst, ◌∙◌, ◌⊎◌, inl, inr, arith}
use Rattle.std.specs.Prelude.{fold}
use Rattle.std.specs.List.{AllByRecursion, list_any}
use Rattle.std.proofs.lemmas.Bool.{eqb-true}
use Rattle.std.proofs.lemmas.List.Sums.{fold-append}
use Rattle.channel_laws.specs.channel_model.specs.Calls.{setup_on}
use Rattle.channel_laws.specs.channel_model.specs.Changing.{held_at, is_answer}
use Rattle.channel_laws.specs.channel_model.specs.Policies.{Policy}
use Rattle.channel_laws.specs.channel_model.specs.Value.{Request, Own, Unasked, Asking, Granted, Carrier, Retransmitting, Setup, Channels}
use Rattle.channel_laws.specs.Adverse.{is_quiet, disturbs, disturbances}
use Rattle.channel_laws.specs.Belonging.{IsRead}
use Rattle.channel_laws.specs.Ends.{end_at}
use Rattle.channel_laws.specs.Pairs.{Pair, new_pair, Happening, Acts, Side, Near, Far, turned, Turn, happens_near, pair_after, pair_of, IsRunOf}
use Rattle.channel_laws.specs.Pipes.{IsCarried}
use Rattle.channel_laws.specs.Runs.{Run, Fires}
use Rattle.channel_laws.specs.Signals.{StandsIn}
use Rattle.channel_laws.specs.Tries.{one_if}
use Rattle.channel_laws.proofs.Costing.{each_behind}
use Rattle.channel_laws.proofs.Pairing.{each-end_runs, end-policy}
use Rattle.channel_laws.proofs.UnderWay.{AllPlainly, come-plainly}
use Rattle.configuration_laws.proofs.Leaving.{answers-respond}
use Rattle.disconnection_laws.specs.Ended.{AnsweredEndsAreEnded}
use Rattle.staying_laws.specs.forgoing_laws.specs.Lasts.{AreOrderly, GoOn}
use Rattle.staying_laws.specs.forgoing_laws.proofs.Lasting.{said_ahead, orderly_ahead}
use Rattle.staying_laws.specs.forgoing_laws.proofs.Spending.{said_apart}
use Rattle.staying_laws.specs.forgoing_laws.specs.lasting_laws.specs.Lasting.{OptionsSucceed, IsUnspent}
use Rattle.lateness_laws.specs.Late.{AreUnderWay}
use Rattle.lateness_laws.specs.Once.{PeersApart}
use Rattle.leaving_laws.specs.Left.{NoneWaitsInQuiet, OptionsOfLeftAreCounted}
use Rattle.recovered_laws.specs.Calm.{CalmIsQuiet}
use Rattle.staying_laws.specs.Stays.{AllKept, CloseNone}
use Rattle.staying_laws.proofs.Machines.{held_of, options_wait}
use Rattle.staying_laws.proofs.Standing.{IsSingle, Withstands, near-kept}
use Rattle.timely_laws.proofs.Coming.{under-before, IsAskingFor, under-or_asked}
use Rattle.timely_laws.proofs.Unheard.{Unheard, carries-none, asked-remains}

-- so far it closed none
abbrev pub UnheardAreKept : Pair → Type 0
UnheardAreKept pair = (identifier own : ℕ) → AreUnderWay identifier own pair.near.coming → Unheard own pair.near.run.said → AllKept own pair.near.run.value

-- ---- a firing while something is under way

not_quiet : (pair : Pair) (pdu : List ℕ) → StandsIn pdu pair.near.coming → is_quiet pair ≡ false
not_quiet pair pdu stands = ap (λ (none : Bool). (none && eqb (length pair.far.coming) 0) && (not (list_any is_answer pair.near.run.value.queue) && not (list_any is_answer pair.far.run.value.queue))) (some pair.near.coming stands)
  where
    some : (coming : List (List ℕ)) → StandsIn pdu coming → eqb (length coming) 0 ≡ false
    some [] none = elim none [ ]
    some (first ∷ coming) stood = by (eqb (length (first ∷ coming)) 0) refl
      where
        by : (b : Bool) → eqb (length (first ∷ coming)) 0 ≡ b → b ≡ false
        by true is = let empty = eqb-true (length (first ∷ coming)) 0 is in absurd (omega (arith, empty))
        by false is = refl

fires_more : (pair : Pair) (past : List Turn) (turn : Turn) → turn.happening ≡ Acts Fires → is_quiet (fold pair_after pair past) ≡ false → disturbances pair (past ++ turn ∷ []) ≡ 1 + disturbances pair past
fires_more pair [] turn fires loud = let cost : disturbs turn.happening pair ≡ 1 = ap (λ (h : Happening). disturbs h pair) fires ∙ ap (λ (quiet : Bool). one_if (not quiet)) loud in omega (arith, cost)
fires_more pair (first ∷ past) turn fires loud = let later = fires_more (pair_after pair first) past turn fires loud in omega (arith, later)

-- ---- one turn

all_single : (list : List (List ℕ)) → AllPlainly list → AllByRecursion IsSingle list
all_single [] plain = tt
all_single (pdu ∷ list) plain = ((λ signals. let (command, is, decisive) = plain pdu (inl refl) signals in (command, is)), all_single list (λ other stands. plain other (inr stands)))

module _ (near far : Policy) (past : List Turn) where
  abbrev pair : Pair
  pair = pair_of near far past

  moved : (side : Side) (happening : Happening) → pair_of near far (past ++ record { side = side; happening = happening } ∷ []) ≡ pair_after pair (record { side = side; happening = happening })
  moved side happening = fold-append pair_after (new_pair near far) past (record { side = side; happening = happening } ∷ [])

  read_now : (side : Side) (happening : Happening) → AreOrderly near far (past ++ record { side = side; happening = happening } ∷ []) → IsRead happening (end_at side pair)
  read_now side happening orderly = (each_behind (λ front one. IsRead one.happening (end_at one.side (pair_of near far front))) [] past (record { side = side; happening = happening } ∷ []) orderly.read).0

  -- ---- at the near end

  module _ (counted : OptionsOfLeftAreCounted) (calm : CalmIsQuiet) (happening : Happening) (orderly : AreOrderly near far (past ++ record { side = Near; happening = happening } ∷ [])) (on : GoOn near far past) (quiet : (own : ℕ) → NoneWaitsInQuiet own near far past)
      (identifier own : ℕ) (under : AreUnderWay identifier own pair.near.coming) (none : Unheard own pair.near.run.said) where
    abbrev turn : Turn
    turn = record { side = Near; happening = happening }

    abbrev v : Channels
    v = pair.near.run.value

    before : AreOrderly near far past
    before = orderly_ahead near far past (turn ∷ []) orderly

    runs : IsRunOf near pair.near.run
    runs = (each-end_runs near far past).0

    bare : (setup : Setup) → setup_on (held_at own v) ≡ Some setup → (carrier : Carrier) → setup.carrier ≡ Some carrier → ⊥
    bare setup has carrier is = let (held, found, staged) = held_of own v setup has in carries-none near pair.near.run runs own held setup found staged none carrier is

    -- a firing disturbs, as the request is under way, so its own request for options is not spent
    unspent : happening ≡ Acts Fires → (setup : Setup) → setup_on (held_at own v) ≡ Some setup → (request : Request) (options : _) → setup.own ≡ Asking request options → request.given < near.tries
    unspent fires setup has request options asks =
        let (held, found, staged) = held_of own v setup has in
        let most = counted near far past before.fair before.read own (on.ends own) (on.until_left own) (quiet own) request (options_wait own v held setup request options found staged asks) in
        let (pdu, flags, stated, stands, signals, reads) = under in
        let more = fires_more (new_pair near far) past turn fires (not_quiet pair pdu stands) in
        let less = calm (new_pair near far) (past ++ turn ∷ []) in
        let few = orderly.few_near in
        omega (arith, most, more, less, few)

    timer : happening ≡ Acts Fires → (setup : Setup) → setup_on (held_at own v) ≡ Some setup → IsUnspent near.tries setup.own setup.carrier
    timer fires setup has = by setup.own refl
      where
        by : (mine : Own) → setup.own ≡ mine → IsUnspent near.tries mine setup.carrier
        by Unasked is = λ m carrier. absurd (bare setup has (Retransmitting m) carrier)
        by (Asking request options) is = unspent fires setup has request options is
        by Granted is = λ m carrier. absurd (bare setup has (Retransmitting m) carrier)

    withstands : Withstands own near happening pair.near
    withstands = record {
      front = λ pdu behind is single. (single, λ same setup m has carrier taken. absurd (bare setup (ap (λ n. setup_on (held_at n v)) (sym same) ∙ has) (Retransmitting m) carrier));
      damage = λ other plain seen pdu behind is. ((λ signals. let never : true ≡ false = sym signals ∙ plain in absurd cc), λ same setup m has carrier taken. absurd (bare setup (ap (λ n. setup_on (held_at n v)) (sym same) ∙ has) (Retransmitting m) carrier));
      timer = timer;
    }

    now_carried : IsCarried happening pair.near
    now_carried = (each_behind (λ front one. IsCarried one.happening (end_at one.side (pair_of near far front))) [] past (turn ∷ []) orderly.carried).0

    still_kept : OptionsSucceed (happens_near happening pair).near.run.said → AllKept own v → AllKept own (happens_near happening pair).near.run.value
    still_kept succeed kept =
        near-kept own near pair happening (end-policy near far past Near) runs withstands (read_now Near happening orderly) now_carried (all_single pair.near.coming (come-plainly near far past before.read).near) succeed kept

  pub near-unheard : OptionsOfLeftAreCounted → CalmIsQuiet → (happening : Happening) → (let turn : Turn = record { side = Near; happening = happening } in AreOrderly near far (past ++ turn ∷ []) → GoOn near far past → ((own : ℕ) → NoneWaitsInQuiet own near far past)
      → OptionsSucceed (pair_of near far (past ++ turn ∷ [])).near.run.said → UnheardAreKept pair → UnheardAreKept (pair_of near far (past ++ turn ∷ [])))
  near-unheard counted calm happening orderly on quiet succeed kept identifier own under none =
      let turn : Turn = record { side = Near; happening = happening } in
      let is = moved Near happening in
      let was : AreUnderWay identifier own pair.near.coming = under-before pair happening (come-plainly near far past (orderly_ahead near far past (turn ∷ []) orderly).read).near (read_now Near happening orderly) identifier own (subst (λ (p : Pair). AreUnderWay identifier own p.near.coming) is under) in
      let unheard : Unheard own pair.near.run.said = λ earlier heard. none earlier (heard.0, heard.1, said_ahead near far Near past (turn ∷ []) _ heard.2) in
      subst (λ (p : Pair). AllKept own p.near.run.value) (sym is)
      (still_kept counted calm happening orderly on quiet identifier own was unheard (subst (λ (p : Pair). OptionsSucceed p.near.run.said) is succeed) (kept identifier own was unheard))

  -- ---- at the far end

  pub far-unheard : AnsweredEndsAreEnded → (happening : Happening) → (let turn : Turn = record { side = Far; happening = happening } in AreOrderly near far (past ++ turn ∷ []) → PeersApart pair.far.run.said → CloseNone near far past → UnheardAreKept pair
      → UnheardAreKept (pair_of near far (past ++ turn ∷ [])))
  far-unheard ended happening orderly apart closes kept identifier own under none =
      subst (λ (p : Pair). AllKept own p.near.run.value) (sym is)
      (subst (λ (r : Run). AllKept own r.value) (sym still) (by (under-or_asked (turned pair) happening (read_now Far happening orderly) (answers-respond far pair.far.run (each-end_runs near far past).1) identifier own (subst (λ (p : Pair). AreUnderWay identifier own p.near.coming) is under))))
    where
      is : pair_of near far (past ++ record { side = Far; happening = happening } ∷ []) ≡ turned (happens_near happening (turned pair))
      is = moved Far happening

      still : (happens_near happening (turned pair)).far.run ≡ pair.near.run
      still = said_apart (turned pair) happening

      unheard : Unheard own pair.near.run.said
      unheard earlier heard = none earlier (heard.0, heard.1, said_ahead near far Near past (record { side = Far; happening = happening } ∷ []) _ heard.2)

      by : AreUnderWay identifier own pair.near.coming ⊎ IsAskingFor own pair.far.run.value → AllKept own pair.near.run.value
      by (inl old) = kept identifier own old unheard
      by (inr asks) = closes.kept own (asked-remains ended far pair.far.run (each-end_runs near far past).1 apart closes.forgoes own asks)
