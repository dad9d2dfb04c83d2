use Rattle.std.proofs.Common.{◌-◌, length, drop, subst, sym, ◌∙◌, arith, refl}
use Rattle.std.proofs.lemmas.Bool.{eqb-true, eqb-false}
use Rattle.sdp_elements.specs.Elements.{plain, content_of}
use Rattle.sdp_elements.proofs.ReadingLaws.{Decides, decides_all, front_refused, goes_on_by, tree_refused, tree_found}
use Rattle.sdp_elements.proofs.reading.+judge.Goals as goal

pub returns-in-Err-clause-tree : goal.returns-in-Err-clause-tree
returns-in-Err-clause-tree t c = front_refused c.args.past c.args.levels c.args.bytes.now c.in-Err.refusal c.in-Err.ensures.read

pub loop-left-init : goal.loop-left-init
loop-left-init t c = subst (Decides (c.args.levels - 1) (content_of (plain c.in-Ok.found.0))) (sym c.content_of-left.ensures) (decides_all (c.args.levels - 1) (content_of (plain c.in-Ok.found.0)))

pub loop-left-preserved : goal.loop-left-preserved
loop-left-preserved t c =
    goes_on_by (c.args.levels - 1) (content_of (plain c.in-Ok.found.0)) c.loop-left.left.now c.in-Ok-judge.ensures.tree.1.0 c.in-Ok-judge.part (length c.loop-left.left.now - c.in-Ok-judge.part)
    c.loop-left.invariant c.in-Ok-judge.ensures.tree.1.1 refl

pub returns-in-Err-judge-clause-tree : goal.returns-in-Err-judge-clause-tree
returns-in-Err-judge-clause-tree t c =
    let some = eqb-false (length c.loop-left.left.now) 0 (sym c.is_empty.ensures ∙ c.loop-left-test.true) in
    tree_refused c.args.past c.args.levels c.args.bytes.now (plain c.in-Ok.found.0) (drop c.in-Ok.found.1 c.args.bytes.now) c.loop-left.left.now c.in-Err-judge.refusal c.in-Ok.ensures.read.1 c.in-Ok.ensures.within
    c.loop-left.invariant (omega arith) c.in-Err-judge.ensures.tree

pub returns-clause-tree : goal.returns-clause-tree
returns-clause-tree t c = (
  c.in-Ok.ensures.read.0,
  tree_found c.args.past c.args.levels c.args.bytes.now (plain c.in-Ok.found.0) (drop c.in-Ok.found.1 c.args.bytes.now) c.loop-left.left.now c.in-Ok.ensures.read.1 c.in-Ok.ensures.within
      c.loop-left.invariant (eqb-true _ _ (sym c.loop-left-test.ensures)),
)
