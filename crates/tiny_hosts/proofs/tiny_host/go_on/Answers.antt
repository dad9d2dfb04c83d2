use Rattle.std.proofs.Common.{◌≡◌, sym, subst}
use Rattle.host_link.specs.Lines.{Line}
use Rattle.line_laws.specs.Seeing.{IsSeen}
use Rattle.tiny_hosts.specs.Hosting.{GoesOn, IsReady}
use Rattle.tiny_hosts.proofs.Going.{goes_then, puts_command, ready}
use Rattle.tiny_hosts.proofs.tiny_host.go_on.Given.{Over}
use Rattle.tiny_hosts.proofs.tiny_host.go_on.Goals as goal

went : (g : Over) (c : goal.After-put_command g) → IsSeen g.M.Mind.side c.args.mind.now c.args.line.now → GoesOn g.M.Mind.machine g.M.Mind.side c.args.mind.now c.say_all.new.mind c.args.line.now c.put_command.new.self
went g c is =
    let machine = g.M.Mind.machine in
    let side = g.M.Mind.side in
    let said = c.say_all.ensures.goes is in
    let called = c.call.ensures.goes said.is_seen in
    let left = c.leave.ensures.goes called.is_seen in
    let put = subst (λ (l : Line). GoesOn machine side c.say_all.new.mind c.say_all.new.mind c.leave.new.line l) (sym c.put_command.ensures.line) (puts_command machine side c.say_all.new.mind c.leave.new.line g.met.M.Mind.octets left.is_seen) in
    goes_then machine side c.args.mind.now c.say_all.new.mind c.say_all.new.mind c.args.line.now c.say_all.new.line c.put_command.new.self said
    (goes_then machine side c.say_all.new.mind c.say_all.new.mind c.say_all.new.mind c.say_all.new.line c.call.new.line c.put_command.new.self called
    (goes_then machine side c.say_all.new.mind c.say_all.new.mind c.say_all.new.mind c.call.new.line c.leave.new.line c.put_command.new.self left put))

pub returns-clause-goes : goal.returns-clause-goes
returns-clause-goes g c = λ is. went g c is

pub returns-clause-ready : goal.returns-clause-ready
returns-clause-ready g c = λ is.
    let side = g.M.Mind.side in
    let said = c.say_all.ensures.goes is in
    subst (λ (l : Line). IsReady g.M.Mind.machine side c.say_all.new.mind l) (sym c.put_command.ensures.line)
    (ready g.M.Mind.machine side c.say_all.new.mind c.say_all.new.line c.call.new.line c.leave.new.line (subst (λ (l : Line). IsSeen side c.say_all.new.mind l) c.put_command.ensures.line (went g c is).is_seen)
    c.call.ensures.link c.leave.ensures.link c.say_all.ensures.stuck c.say_all.ensures.said (λ wants off. c.call.ensures.asks said.is_seen wants off) c.leave.ensures.asks c.leave.ensures.left)
