-- What is handed over on an endpoint was put.
use Rattle.std.proofs.Common.{◌≡◌, ℕ, ◌+◌, ◌≤◌, List, [], ◌∷◌, ◌++◌, length, Bool, true, false, cond, eqb, Option, Some, None, refl, ap, arith}
use Rattle.channel_laws.specs.acl_fragments.specs.Pieces.{channel_of}
use Rattle.channel_laws.specs.channel_model.specs.Giving.{Given, next_given}
use Rattle.channel_laws.specs.channel_model.specs.Policies.{Policy}
use Rattle.channel_laws.specs.channel_model.specs.Calls.{has_fcs}
use Rattle.channel_laws.specs.Adverse.{seen_from}
use Rattle.channel_laws.specs.Pairs.{End, Pair, Happening, Acts, Puts, Takes, Repeats, Loses, Damages, is_alone, occurs, with_near, puts, let_go, takes_first, repeats_first, loses_first, damages_first, happens_near, Side, Near, Far, turned, Turn, new_pair, pair_after}
use Rattle.channel_laws.specs.Runs.{Comes}
use Rattle.channel_laws.specs.Tries.{one_if}
use Rattle.passing_laws.specs.Words.{is_first, all_after}
use Rattle.passing_laws.specs.Channels.{of_endpoint}
use Rattle.passing_laws.specs.Handed.{handed_at, put_by, put_at, on_side, other_side, all_handed, all_put, HandedWerePut}

-- ---- how many of an endpoint

abbrev under : ℕ → List (List ℕ) → ℕ
under own coming = length (of_endpoint own coming)

one_more : (b : Bool) (pdu : List ℕ) (rest : List (List ℕ)) → length (cond b (pdu ∷ rest) rest) ≡ one_if b + length rest
one_more true pdu rest = omega arith
one_more false pdu rest = omega arith

first_more : (own : ℕ) (pdu : List ℕ) (rest : List (List ℕ)) → under own (pdu ∷ rest) ≡ one_if (eqb (channel_of pdu) own) + under own rest
first_more own pdu rest = one_more (eqb (channel_of pdu) own) pdu (of_endpoint own rest)

last_more : (own : ℕ) (coming : List (List ℕ)) (pdu : List ℕ) → under own (coming ++ pdu ∷ []) ≡ under own coming + one_if (eqb (channel_of pdu) own)
last_more own [] pdu = let e = first_more own pdu [] in omega (arith, e)
last_more own (first ∷ coming) pdu =
    let here = first_more own first (coming ++ pdu ∷ []) in
    let rest = last_more own coming pdu in
    let before = first_more own first coming in
    omega (arith, here, rest, before)

-- ---- a turn of the near host

-- to itself
takes_own : (own : ℕ) (coming : List (List ℕ)) (end' : End) → end'.coming ≡ coming → one_if (is_first own coming) + under own (takes_first coming end').coming ≤ under own coming
takes_own own [] end' is = let same = ap (under own) is in omega (arith, same)
takes_own own (pdu ∷ rest) end' is = let e = first_more own pdu rest in omega (arith, e)

repeats_own : (own : ℕ) (coming : List (List ℕ)) (end' : End) → under own (repeats_first coming end').coming ≤ under own end'.coming
repeats_own own [] end' = omega arith
repeats_own own (pdu ∷ rest) end' = omega arith

loses_own : (own : ℕ) (coming : List (List ℕ)) (end' : End) → end'.coming ≡ coming → under own (loses_first coming end').coming ≤ under own coming
loses_own own [] end' is = let same = ap (under own) is in omega (arith, same)
loses_own own (pdu ∷ rest) end' is = let e = first_more own pdu rest in omega (arith, e)

damages_own : (own : ℕ) (other : List ℕ) (coming : List (List ℕ)) (end' : End) → end'.coming ≡ coming → under own (damages_first other coming end').coming ≤ under own coming
damages_own own other [] end' is = let same = ap (under own) is in omega (arith, same)
damages_own own other (pdu ∷ rest) end' is = by (has_fcs (channel_of pdu) end'.run.value)
  where
    by : (checked : Bool) → under own (cond checked (occurs (Comes other) (let_go rest end')) (let_go rest end')).coming ≤ under own (pdu ∷ rest)
    by true = let e = first_more own pdu rest in omega (arith, e)
    by false = let e = first_more own pdu rest in omega (arith, e)

puts_own : (given : Option Given) (own : ℕ) (pdu : List ℕ) (pair : Pair) → under own (puts given pdu pair).near.coming ≤ under own pair.near.coming
puts_own None own pdu pair = omega arith
puts_own (Some given) own pdu pair = omega arith

acts_own : (alone : Bool) (own : ℕ) (end' : End) (pair : Pair) → end'.coming ≡ pair.near.coming → under own (cond alone (with_near end' pair) pair).near.coming ≤ under own pair.near.coming
acts_own true own end' pair is = let same = ap (under own) is in omega (arith, same)
acts_own false own end' pair is = omega arith

near_own : (own : ℕ) (happening : Happening) (pair : Pair) → handed_at own happening pair + under own (happens_near happening pair).near.coming ≤ under own pair.near.coming
near_own own (Acts occurrence) pair = let le = acts_own (is_alone occurrence) own (occurs occurrence pair.near) pair refl in omega (arith, le)
near_own own (Puts pdu) pair = let le = puts_own (next_given pair.near.run.value) own pdu pair in omega (arith, le)
near_own own Takes pair = takes_own own pair.near.coming pair.near refl
near_own own Repeats pair = let le = repeats_own own pair.near.coming pair.near in omega (arith, le)
near_own own Loses pair = let le = loses_own own pair.near.coming pair.near refl in omega (arith, le)
near_own own (Damages other) pair = let le = damages_own own other pair.near.coming pair.near refl in omega (arith, le)

-- to the other host
puts_far : (given : Option Given) (peer : ℕ) (pdu : List ℕ) (pair : Pair) → under peer (puts given pdu pair).far.coming ≤ under peer pair.far.coming + put_by given peer pdu
puts_far None peer pdu pair = omega arith
puts_far (Some given) peer pdu pair = let e = last_more peer pair.far.coming pdu in omega (arith, e)

acts_far : (alone : Bool) (peer : ℕ) (end' : End) (pair : Pair) → under peer (cond alone (with_near end' pair) pair).far.coming ≤ under peer pair.far.coming
acts_far true peer end' pair = omega arith
acts_far false peer end' pair = omega arith

near_far : (peer : ℕ) (happening : Happening) (pair : Pair) → under peer (happens_near happening pair).far.coming ≤ under peer pair.far.coming + put_at peer happening pair
near_far peer (Acts occurrence) pair = let le = acts_far (is_alone occurrence) peer (occurs occurrence pair.near) pair in omega (arith, le)
near_far peer (Puts pdu) pair = puts_far (next_given pair.near.run.value) peer pdu pair
near_far peer Takes pair = omega arith
near_far peer Repeats pair = omega arith
near_far peer Loses pair = omega arith
near_far peer (Damages other) pair = omega arith

-- ---- all turns

one_turn : (side : Side) (own : ℕ) (turn : Turn) (pair : Pair) → on_side side turn.side (handed_at own turn.happening (seen_from side pair)) + under own (seen_from side (pair_after pair turn)).near.coming
    ≤ under own (seen_from side pair).near.coming + on_side (other_side side) turn.side (put_at own turn.happening (seen_from (other_side side) pair))
one_turn side own turn pair = by side turn.side
  where
    by : (side of : Side) → (let now : Turn = record { side = of; happening = turn.happening } in on_side side of (handed_at own turn.happening (seen_from side pair)) + under own (seen_from side (pair_after pair now)).near.coming)
        ≤ under own (seen_from side pair).near.coming + on_side (other_side side) of (put_at own turn.happening (seen_from (other_side side) pair))
    by Near Near = let le = near_own own turn.happening pair in omega (arith, le)
    by Near Far = let le = near_far own turn.happening (turned pair) in omega (arith, le)
    by Far Near = let le = near_far own turn.happening pair in omega (arith, le)
    by Far Far = let le = near_own own turn.happening (turned pair) in omega (arith, le)

all_turns : (side : Side) (own : ℕ) (pair : Pair) (turns : List Turn) → all_handed side own pair turns + under own (seen_from side (all_after pair turns)).near.coming ≤ under own (seen_from side pair).near.coming + all_put side own pair turns
all_turns side own pair [] = omega arith
all_turns side own pair (turn ∷ turns) =
    let here = one_turn side own turn pair in
    let rest = all_turns side own (pair_after pair turn) turns in
    omega (arith, here, rest)

none_yet : (side : Side) (own : ℕ) (near far : Policy) → under own (seen_from side (new_pair near far)).near.coming ≡ 0
none_yet Near own near far = refl
none_yet Far own near far = refl

pub handed-were_put : HandedWerePut
handed-were_put near far turns side own = let all = all_turns side own (new_pair near far) turns in let none = none_yet side own near far in omega (arith, all, none)
