use Rattle.std.proofs.Common.{◌≡◌, length}
use Rattle.bt_base.specs.Octets.{IsOctets}
use Rattle.l2cap_config.specs.Reading.{items_of, options_read}
use Rattle.l2cap_config.proofs.ItemLists.{continued}
use Rattle.l2cap_config.proofs.reading.all_of.Given as goal

abbrev pub invariant-loop-rest : goal.invariant-loop-rest
invariant-loop-rest l = IsOctets l.rest × (continued l.options (items_of l.rest) ≡ options_read l.octets)

abbrev pub decreases-loop-rest : goal.decreases-loop-rest
decreases-loop-rest l = length l.rest
