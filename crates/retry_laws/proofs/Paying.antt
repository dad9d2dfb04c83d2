-- What is lost over a basic channel is paid by turns that disturb, both ways.
use Rattle.std.proofs.Common.{ℕ, ◌+◌, ◌≤◌, ◌≡◌, List, [], ◌∷◌, arith}
use Rattle.channel_laws.specs.Adverse.{disturbs, disturbances}
use Rattle.channel_laws.specs.Pairs.{Pair, Happening, Acts, Puts, Takes, Repeats, Loses, Damages, Side, Near, Far, Turn, new_pair, pair_after}
use Rattle.passing_laws.specs.Handed.{on_side}
use Rattle.retry_laws.specs.Counted.{losses_by, all_losses, LossesArePaid, UnansweredArePaid}
use Rattle.retry_laws.proofs.Counting.{sdus-are_counted}

-- ---- a turn that loses disturbs

losses_disturb : (happening : Happening) (pair : Pair) → losses_by happening ≤ disturbs happening pair
losses_disturb (Acts occurrence) pair = omega arith
losses_disturb (Puts pdu) pair = omega arith
losses_disturb Takes pair = omega arith
losses_disturb Repeats pair = omega arith
losses_disturb Loses pair = omega arith
losses_disturb (Damages pdu) pair = omega arith

of_one : (side : Side) (count : ℕ) → on_side Near side count + on_side Far side count ≡ count
of_one Near count = omega arith
of_one Far count = omega arith

all_disturb : (pair : Pair) (turns : List Turn) → all_losses Near turns + all_losses Far turns ≤ disturbances pair turns
all_disturb pair [] = omega arith
all_disturb pair (turn ∷ turns) =
    let here = losses_disturb turn.happening pair in
    let one = of_one turn.side (losses_by turn.happening) in
    let rest = all_disturb (pair_after pair turn) turns in
    omega (arith, here, one, rest)

-- ---- the laws

pub losses-are_paid : LossesArePaid
losses-are_paid near far turns channel one other s =
    let all = sdus-are_counted near far turns channel one other s in
    let there = all.there in
    let back = all.back in
    let most = all_disturb (new_pair near far) turns in
    omega (arith, there, back, most)

pub unanswered-are_paid : UnansweredArePaid
unanswered-are_paid near far turns channel one other s answered none = let all = losses-are_paid near far turns channel one other s in omega (arith, all, answered, none)
