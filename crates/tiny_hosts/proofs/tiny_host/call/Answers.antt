use Rattle.std.proofs.Common.{◌≡◌, is_some, sym, ap, ◌∙◌, subst}
use Rattle.host_link.specs.Lines.{Line}
use Rattle.host_link.specs.PuttingOut.{connecting}
use Rattle.line_laws.specs.Seeing.{IsSeen, is_asking}
use Rattle.tiny_hosts.specs.Hosting.{GoesOn}
use Rattle.tiny_hosts.proofs.Lines.{none_by}
use Rattle.tiny_hosts.proofs.Going.{Called, calls}
use Rattle.tiny_hosts.proofs.tiny_host.call.Given.{Over}
use Rattle.tiny_hosts.proofs.tiny_host.call.Goals as goal

called : (g : Over) (c : goal.After-connect g) → IsSeen g.M.Mind.side c.args.mind.now c.args.line.now → Called g.M.Mind.machine g.M.Mind.side c.args.mind.now c.args.line.now c.connect.new.self
called g c is =
    subst (λ (l : Line). Called g.M.Mind.machine g.M.Mind.side c.args.mind.now c.args.line.now l) (sym (c.connect.ensures.line ∙ ap (λ a. connecting a c.args.line.now) c.device_b.ensures))
    (calls g.M.Mind.machine g.M.Mind.side c.args.mind.now c.args.line.now g.met.M.Mind.called g.met.M.Mind.octets is (sym c.wants_link.ensures ∙ c.if-wants_link.true)
    (none_by c.args.line.now.link c.is_none.result (ap is_some (sym c.link.ensures) ∙ c.is_none.ensures) c.if-is_none.true) (sym c.is_asking.ensures ∙ c.if-not-is_asking.true))

pub returns-then-not-is_asking-clause-goes : goal.returns-then-not-is_asking-clause-goes
returns-then-not-is_asking-clause-goes g c = λ is. (called g c is).goes

pub returns-then-not-is_asking-clause-asks : goal.returns-then-not-is_asking-clause-asks
returns-then-not-is_asking-clause-asks g c = λ is wants off. (called g c is).asks
