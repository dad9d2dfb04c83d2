use Rattle.std.proofs.Common.{ℕ, true, subst, Option, Some, IfSome, ◌++◌}
use Rattle.push_profile.specs.Hearing.{IsHeard}
use Rattle.push_profile.proofs.StreamEnds.{left_ends_by, left_behind}
use Rattle.push_profile.proofs.StreamSteps.{left_ends, more_of}
use Rattle.push_profile.proofs.stream.hear_stream.Goals as goal

pub returns-in_default-clause-comes : goal.returns-in_default-clause-comes
returns-in_default-clause-comes g c =
    let left = c.loop-next.invariant.left in
    left_ends (c.args.assembler.now.held ++ c.args.octets.now) (c.loop-next.assembler.held ++ c.loop-next.rest.now) c.hear_next.new.assembler.held c.args.listener.now c.loop-next.listener c.hear_next.new.listener _ _ _ _ _ _ true left
    (c.in_default.ensures.comes (more_of left.steps))

pub returns-in_default-next-clause-comes : goal.returns-in_default-next-clause-comes
returns-in_default-next-clause-comes g c =
    let left = c.loop-next.invariant.left in
    left_ends_by (c.args.assembler.now.held ++ c.args.octets.now) c.loop-next.assembler.held c.loop-next.rest.now c.hear_next.new.assembler.held c.args.listener.now c.loop-next.listener c.hear_next.new.listener _ _ _ _ _ _ c.in-Ok.next left
    c.in_default-next.is (c.in-Ok.ensures.comes (more_of left.steps))

pub loop-next-preserved : goal.loop-next-preserved
loop-next-preserved g c =
    let left = c.loop-next.invariant.left in
    let heard = subst (λ (o : Option ℕ). IfSome o (IsHeard c.loop-next.assembler c.loop-next.rest.now c.hear_next.new.assembler c.hear_next.new.listener)) c.in-Some.is c.in-Ok.ensures.heard in
    record {
      left = left_behind (c.args.assembler.now.held ++ c.args.octets.now) c.loop-next.assembler.held c.loop-next.rest.now c.hear_next.new.assembler.held c.in-Some.used c.args.listener.now c.loop-next.listener c.hear_next.new.listener _ _ _ _ _ _ c.in-Ok.next left
          c.in-Some.is heard.held heard.some heard.within (c.in-Ok.ensures.comes (more_of left.steps));
      works = heard.works;
      suits = c.hear_next.ensures.suits;
      pending = c.hear_next.ensures.pending;
    }
