use Rattle.std.proofs.Common.{arith}
use Rattle.l2cap_config.proofs.ItemLists.{is_found, is_only}
use Rattle.l2cap_config.proofs.reading.options_of.Goals as goal

pub returns-clause-found : goal.returns-clause-found
returns-clause-found c = is_found c.args.octets.now c.all_of.result (λ i. omega (arith, c.type_inv.octets i)) c.all_of.ensures

pub returns-clause-only : goal.returns-clause-only
returns-clause-only c = λ items fit spelled_so. is_only c.args.octets.now c.all_of.result items c.all_of.ensures fit spelled_so
