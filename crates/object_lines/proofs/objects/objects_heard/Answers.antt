use Rattle.std.proofs.Common.{[], map, refl, sym, ◌∙◌}
use Rattle.object_lines.specs.Tallies.{plain_told}
use Rattle.object_lines.proofs.Heard.{at_last, at_refused}
use Rattle.object_lines.proofs.objects.objects_heard.Goals as goal

pub loop-rest-init : goal.loop-rest-init
loop-rest-init c = record { past = []; each = tt; whole = refl; heard = c.new-hearer.ensures.heard c.args.party.now; joins = c.new-hearer.ensures.joins }

pub returns-in-Err : goal.returns-in-Err
returns-in-Err c entries is =
    at_refused c.args.party.now c.args.octets.now c.loop-rest.rest.now c.loop-rest.hearer entries c.in-Err._refusal (map plain_told c.new.result.items)
    (sym c.is_empty.ensures ∙ c.loop-rest-test.true) c.in-Err.ensures c.loop-rest.invariant is

pub returns : goal.returns
returns c entries is =
    at_last c.args.party.now c.args.octets.now c.loop-rest.rest.now c.loop-rest.hearer entries (map plain_told c.finish.new.self.found.items)
    (sym c.is_empty.ensures ∙ c.loop-rest-test.false) c.loop-rest.invariant is (c.in_ok-finish.ensures c.args.party.now)
