-- How much less is under way for a request for the end of a channel behind a turn.
use Rattle.std.proofs.Common.{◌≡◌, ℕ, ◌+◌, ◌≤◌, List, [], ◌∷◌, Bool, true, false, cond, not, ◌&&◌, Option, Some, None, refl, subst, arith}
use Rattle.channel_laws.specs.acl_fragments.specs.Pieces.{channel_of}
use Rattle.channel_laws.specs.channel_model.specs.declared.errand.Errand.{Errand}
use Rattle.channel_laws.specs.channel_model.specs.declared.errand.Errand.TheVariants as errands
use Rattle.channel_laws.specs.channel_model.specs.Calls.{has_fcs}
use Rattle.channel_laws.specs.channel_model.specs.Giving.{Given, next_given}
use Rattle.channel_laws.specs.channel_model.specs.Value.{Request}
use Rattle.channel_laws.specs.Adverse.{asks_for, responds_to, brings, under_way, is_quiet, is_vain, adverse_by}
use Rattle.channel_laws.specs.Belonging.{IsReadAs, IsRead}
use Rattle.channel_laws.specs.Ends.{DoesSo}
use Rattle.channel_laws.specs.Frames.{IsSpelled, IsUttered}
use Rattle.channel_laws.specs.Pairs.{End, Pair, Happening, Acts, Puts, Takes, Repeats, Loses, Damages, is_alone, occurs, with_near, puts, let_go, takes_first, repeats_first, loses_first, damages_first, happens_near, turned}
use Rattle.channel_laws.specs.Runs.{Comes, Gives}
use Rattle.channel_laws.specs.Tries.{request_of, one_if, is_firing}
use Rattle.channel_laws.proofs.Costing.{Known, first_owes, less_comes, vain_costs, none_given, answer_goes}
use Rattle.channel_laws.proofs.Counting.{many-last}

module _ (own : ℕ) where
  abbrev pub leave : Errand
  leave = errands.Disconnection own

  pub falls_near : (happening : Happening) (pair : Pair) (end : Request) → request_of leave pair.near.run.value ≡ Some end → request_of leave (happens_near happening pair).near.run.value ≡ Some end
      → under_way leave end.identifier pair ≤ adverse_by leave happening pair (happens_near happening pair) + under_way leave end.identifier (happens_near happening pair)
  falls_near (Acts more) pair end was now = by (is_alone more)
    where
      by : (alone : Bool) → (let after : Pair = cond alone (with_near (occurs more pair.near) pair) pair in under_way leave end.identifier pair ≤ one_if (is_firing more && not (is_quiet pair)) + under_way leave end.identifier after)
      by true = omega arith
      by false = omega arith
  falls_near (Puts pdu) pair end was now = by (next_given pair.near.run.value)
    where
      by : (given : Option Given) → under_way leave end.identifier pair ≤ 0 + under_way leave end.identifier (puts given pdu pair)
      by None = omega arith
      by (Some given) = let whole = many-last (brings (asks_for leave end.identifier)) pair.far.coming pdu in omega (arith, whole)
  falls_near Takes pair end was now = by pair.near.coming refl now
    where
      by : (coming : List (List ℕ)) → pair.near.coming ≡ coming → (let after : Pair = with_near (takes_first coming pair.near) pair in request_of leave after.near.run.value ≡ Some end → under_way leave end.identifier pair ≤ one_if (is_vain leave pair after) + under_way leave end.identifier after)
      by [] is at = omega arith
      by (pdu ∷ coming) is at = let after : Pair = with_near (occurs (Comes pdu) (let_go coming pair.near)) pair in vain_costs leave pair after end was at (first_owes leave end.identifier pair after.near pdu coming is refl)
  falls_near Repeats pair end was now = by pair.near.coming
    where
      by : (coming : List (List ℕ)) → under_way leave end.identifier pair ≤ 1 + under_way leave end.identifier (with_near (repeats_first coming pair.near) pair)
      by [] = omega arith
      by (pdu ∷ coming) = omega arith
  falls_near Loses pair end was now = by pair.near.coming refl
    where
      by : (coming : List (List ℕ)) → pair.near.coming ≡ coming → under_way leave end.identifier pair ≤ 1 + under_way leave end.identifier (with_near (loses_first coming pair.near) pair)
      by [] is = omega arith
      by (pdu ∷ coming) is = first_owes leave end.identifier pair (let_go coming pair.near) pdu coming is refl
  falls_near (Damages other) pair end was now = by pair.near.coming refl
    where
      by : (coming : List (List ℕ)) → pair.near.coming ≡ coming → under_way leave end.identifier pair ≤ 1 + under_way leave end.identifier (with_near (damages_first other coming pair.near) pair)
      by [] is = omega arith
      by (pdu ∷ coming) is = at (has_fcs (channel_of pdu) pair.near.run.value)
        where
          at : (checked : Bool) → under_way leave end.identifier pair ≤ 1 + under_way leave end.identifier (with_near (cond checked (occurs (Comes other) (let_go coming pair.near)) (let_go coming pair.near)) pair)
          at true = first_owes leave end.identifier pair (occurs (Comes other) (let_go coming pair.near)) pdu coming is refl
          at false = first_owes leave end.identifier pair (let_go coming pair.near) pdu coming is refl

  -- by a turn of the other host, which is the near end here
  pub falls_far : (happening : Happening) (pair : Pair) (end : Request) → Known pair.near → DoesSo IsUttered happening pair.near → IsRead happening pair.near → request_of leave pair.far.run.value ≡ Some end
      → under_way leave end.identifier (turned pair) ≤ adverse_by leave happening (turned pair) (turned (happens_near happening pair)) + under_way leave end.identifier (turned (happens_near happening pair))
  falls_far (Acts more) pair end known uttered read was = by (is_alone more) refl
    where
      by : (alone : Bool) → is_alone more ≡ alone → (let after : Pair = cond alone (with_near (occurs more pair.near) pair) pair in under_way leave end.identifier (turned pair) ≤ one_if (is_firing more && not (is_quiet (turned pair))) + under_way leave end.identifier (turned after))
      by true alone = let stay = known.stay (responds_to leave end.identifier) more (none_given more alone) in omega (arith, stay)
      by false alone = omega arith
  falls_far (Puts pdu) pair end known uttered read was = by (next_given pair.near.run.value) refl uttered read
    where
      by : (given : Option Given) → next_given pair.near.run.value ≡ given → IsUttered (Gives pdu) pair.near.run.value → IsReadAs given pdu → under_way leave end.identifier (turned pair) ≤ 0 + under_way leave end.identifier (turned (puts given pdu pair))
      by None is says reads = omega arith
      by (Some given) is says reads =
          let goes = answer_goes (responds_to leave end.identifier) pair.near.run.value pair.near.run.value.queue given pdu refl is (subst (λ g. IsSpelled g pdu) is says).0 reads in
          let whole = many-last (brings (responds_to leave end.identifier)) pair.far.coming pdu in
          omega (arith, goes, whole)
  falls_far Takes pair end known uttered read was = by pair.near.coming refl
    where
      by : (coming : List (List ℕ)) → pair.near.coming ≡ coming
          → (let after : Pair = with_near (takes_first coming pair.near) pair in under_way leave end.identifier (turned pair) ≤ one_if (is_vain leave (turned pair) (turned after)) + under_way leave end.identifier (turned after))
      by [] is = omega arith
      by (pdu ∷ coming) is =
          let end' : End = occurs (Comes pdu) (let_go coming pair.near) in
          vain_costs leave (turned pair) (turned (with_near end' pair)) end was was (less_comes leave end.identifier pair end' pdu coming is refl (known.stay (responds_to leave end.identifier) (Comes pdu) refl))
  falls_far Repeats pair end known uttered read was = by pair.near.coming
    where
      by : (coming : List (List ℕ)) → under_way leave end.identifier (turned pair) ≤ 1 + under_way leave end.identifier (turned (with_near (repeats_first coming pair.near) pair))
      by [] = omega arith
      by (pdu ∷ coming) = let stay = known.stay (responds_to leave end.identifier) (Comes pdu) refl in omega (arith, stay)
  falls_far Loses pair end known uttered read was = by pair.near.coming refl
    where
      by : (coming : List (List ℕ)) → pair.near.coming ≡ coming → under_way leave end.identifier (turned pair) ≤ 1 + under_way leave end.identifier (turned (with_near (loses_first coming pair.near) pair))
      by [] is = omega arith
      by (pdu ∷ coming) is = less_comes leave end.identifier pair (let_go coming pair.near) pdu coming is refl (omega arith)
  falls_far (Damages other) pair end known uttered read was = by pair.near.coming refl
    where
      by : (coming : List (List ℕ)) → pair.near.coming ≡ coming → under_way leave end.identifier (turned pair) ≤ 1 + under_way leave end.identifier (turned (with_near (damages_first other coming pair.near) pair))
      by [] is = omega arith
      by (pdu ∷ coming) is = at (has_fcs (channel_of pdu) pair.near.run.value)
        where
          at : (checked : Bool) → under_way leave end.identifier (turned pair) ≤ 1 + under_way leave end.identifier (turned (with_near (cond checked (occurs (Comes other) (let_go coming pair.near)) (let_go coming pair.near)) pair))
          at true =
              let end' : End = occurs (Comes other) (let_go coming pair.near) in
              less_comes leave end.identifier pair end' pdu coming is refl (known.stay (responds_to leave end.identifier) (Comes other) refl)
          at false = less_comes leave end.identifier pair (let_go coming pair.near) pdu coming is refl (omega arith)
