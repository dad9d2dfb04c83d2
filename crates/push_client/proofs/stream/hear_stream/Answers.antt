use Rattle.std.proofs.Common.{ℕ, subst, Option, IfSome, ◌++◌}
use Rattle.push_client.specs.Talking.{IsHeard}
use Rattle.push_client.proofs.StreamLaws.{left_ends, left_behind, more_of}
use Rattle.push_client.proofs.stream.hear_stream.Goals as goal

pub returns-in_default-clause-hears : goal.returns-in_default-clause-hears
returns-in_default-clause-hears c =
    let left = c.loop-used.invariant.left in
    left_ends (c.args.assembler.now.held ++ c.args.octets.now) c.loop-used.assembler.held c.loop-used.rest.now c.args.assembler.now.held c.hear_next.new.assembler.held c.args.dialog.now c.loop-used.dialog c.hear_next.new.dialog
    c.hear_next.result left c.in_default.is (c.hear_next.ensures.hears (more_of left.steps))

pub loop-used-preserved : goal.loop-used-preserved
loop-used-preserved c =
    let left = c.loop-used.invariant.left in
    let heard = subst (λ (o : Option ℕ). IfSome o (IsHeard c.loop-used.rest.now c.hear_next.new.assembler)) c.in-Some.is c.hear_next.ensures.heard in
    record {
      left = left_behind (c.args.assembler.now.held ++ c.args.octets.now) c.loop-used.assembler.held c.loop-used.rest.now c.args.assembler.now.held c.hear_next.new.assembler.held c.in-Some.used c.args.dialog.now c.loop-used.dialog c.hear_next.new.dialog
          c.hear_next.result left c.in-Some.is heard.held heard.some heard.within (c.hear_next.ensures.hears (more_of left.steps));
      suits = c.hear_next.ensures.suits;
    }
