use Rattle.std.proofs.Common.{List, ℕ, ◌≤◌, length, sym, subst}
use Rattle.obex_session.specs.PutPackets.{units_in}
use Rattle.push_rooms.proofs.NameLaws.{none_few}
use Rattle.push_rooms.proofs.object_name.ObjectName.new.Goals as goal

pub invariant_of-result : goal.invariant_of-result
invariant_of-result c = (c.in_ok-text.ensures.capacity, subst (λ (name : List ℕ). length (units_in name) ≤ 100) (sym c.in_ok-text.ensures.bytes) none_few)
