-- The profile of a host that asks for nothing leaves no channel.
use Rattle.std.proofs.Common.{List, [], ◌∷◌, ◌++◌, subst}
use Rattle.std.specs.List.{AllByRecursion, flat_map}
use Rattle.std.proofs.lemmas.List.Concat.{flat_map-append}
use Rattle.pair_laws.specs.capture.specs.Histories.{EachAfter}
use Rattle.channel_laws.specs.Pairs.{Pair, Happening, Acts, Puts, Takes, Repeats, Loses, Damages, Side, Near, Far, Turn, pair_after}
use Rattle.channel_laws.specs.Runs.{Occurrence, Comes, Connects, AsksFeatures, Disconnects, Sends, Gives, Fires, Tells}
use Rattle.staying_laws.specs.forgoing_laws.specs.lasting_laws.specs.Ends.{LeavesNone}
use Rattle.pair_laws.specs.host_laws.specs.Keeping.{AsksForNothing}
use Rattle.pair_laws.specs.Orders.{far_in, joints_by, joints_from}

-- ---- a host whose profile asks for nothing

all_behind : (P : Occurrence → Type 0) (xs ys : List Occurrence) → AllByRecursion P (xs ++ ys) → AllByRecursion P ys
all_behind P [] ys all = all
all_behind P (x ∷ xs) ys all = all_behind P xs ys all.1

pub leaves_none : (pair : Pair) (front turns : List Turn) → AllByRecursion AsksForNothing (flat_map far_in (joints_from pair turns)) → EachAfter (λ past turn. LeavesNone turn.side turn.happening) front turns
leaves_none pair front [] all = tt
leaves_none pair front (turn ∷ turns) all = (
  one turn.side turn.happening all,
  leaves_none (pair_after pair turn) (front ++ turn ∷ []) turns
      (all_behind AsksForNothing (flat_map far_in (joints_by turn pair)) (flat_map far_in (joints_from (pair_after pair turn) turns)) (subst (AllByRecursion AsksForNothing) (flat_map-append far_in (joints_by turn pair) (joints_from (pair_after pair turn) turns)) all)),
)
  where
    alone : (occurrence : Occurrence) → AllByRecursion AsksForNothing (flat_map far_in (joints_by (record { side = Far; happening = Acts occurrence }) pair ++ joints_from (pair_after pair turn) turns)) → LeavesNone Far (Acts occurrence)
    alone (Comes pdu) so = tt
    alone (Connects psm) so = tt
    alone AsksFeatures so = tt
    alone (Disconnects own) so = so.0
    alone (Sends own sdu) so = tt
    alone (Gives pdu) so = tt
    alone Fires so = tt
    alone Tells so = tt

    one : (side : Side) (happening : Happening) → AllByRecursion AsksForNothing (flat_map far_in (joints_by (record { side = side; happening = happening }) pair ++ joints_from (pair_after pair turn) turns)) → LeavesNone side happening
    one Near happening so = tt
    one Far (Acts occurrence) so = alone occurrence so
    one Far (Puts pdu) so = tt
    one Far Takes so = tt
    one Far Repeats so = tt
    one Far Loses so = tt
    one Far (Damages pdu) so = tt
