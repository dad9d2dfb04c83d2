use Rattle.std.proofs.Common.{ap, ◌∙◌, length, get_or, arith}
use Rattle.push_script.proofs.Making.{length-octets, shelved_none, shelved_next, shelved_all, partly}
use Rattle.push_script.proofs.made.shelve.Goals as goal

pub loop-i-init : goal.loop-i-init
loop-i-init c = shelved_none _ _ _ _

pub returns-in_err-octets-clause-partly : goal.returns-in_err-octets-clause-partly
returns-in_err-octets-clause-partly c = partly _ _ _ _ _ _ _ c.loop-i.invariant

pub add-requires : goal.add-requires
add-requires c =
    let count = get_or c.args.lengths.now c.loop-i.i 0 in
    omega (arith, ap length (c.deref.ensures.value ∙ c.in_ok-octets.ensures.octets), length-octets count c.loop-i.draws.state, c.type_inv.lengths c.loop-i.i)

pub loop-i-preserved : goal.loop-i-preserved
loop-i-preserved c = shelved_next _ _ _ _ _ _ _ _ _ c.index-names-i.result _ _ c.loop-i-test.true (omega (arith, c.requires.each, c.loop-i-test.true)) (c.text.ensures.text ∙ c.index-names-i.is) (c.deref.ensures.value ∙ c.in_ok-octets.ensures.octets) c.in_ok-octets.ensures.state c.in_ok-add.ensures.ok c.loop-i.invariant

pub returns-clause-shelf : goal.returns-clause-shelf
returns-clause-shelf c = shelved_all _ _ _ _ _ _ _ (omega (arith, c.loop-i-test.false)) c.loop-i.invariant
