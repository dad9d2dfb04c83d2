use Rattle.std.proofs.Common.{◌≡◌, Option, Some, None, Result, Ok, Err, sym, ap, ◌∙◌, subst}
use Rattle.h4_framing.specs.Packets.{Packet, packet}
use Rattle.host_link.specs.declared.news.ControllerFault.{ControllerFault}
use Rattle.host_link.specs.declared.news.News.{News}
use Rattle.host_link.specs.Hearing.{Answers, fault_of, PlainNews}
use Rattle.tiny_hosts.specs.Hosting.{told_by}
use Rattle.tiny_hosts.proofs.Listening.{heard_so, no_fault}
use Rattle.tiny_hosts.proofs.tiny_host.hear.Goals as goal

no_both : {X : Type 0} (o : Option X) (x : X) → o ≡ Some x → o ≡ None → ⊥
no_both None x is none = cc
no_both (Some y) x is none = cc

pub returns-in_default : goal.returns-in_default
returns-in_default g c = λ coming is may same.
    let fault = subst (λ (result : Result News ControllerFault). Answers (packet c.args.unit) c.args.line.now result) c.in_default.is c.hear.follows.holds-at-none.answer in
    absurd (no_both (fault_of (packet c.args.unit) c.args.line.now) c.in_default.field-0 fault
    (ap (λ (p : Packet). fault_of p c.args.line.now) same ∙ no_fault g.M.Mind.machine g.M.Mind.side coming c.args.mind.now c.args.line.now is may))

pub returns : goal.returns
returns g c =
    let answer = subst (λ (result : Result News ControllerFault). Answers (packet c.args.unit) c.args.line.now result) c.in-Ok.is c.hear.follows.holds-at-none.answer in
    heard_so g.M.Mind.machine g.M.Mind.side (packet c.args.unit) c.args.mind.now c.tell.new.mind c.go_on.new.mind c.args.line.now c.hear.follows.lender-at-none c.go_on.new.line
    (λ answers. c.tell.ensures answers ∙ ap (λ (n : PlainNews). told_by g.M.Mind.machine answers n c.args.mind.now) answer.1)
    c.hear.follows.holds-at-none.line c.go_on.ensures.goes c.go_on.ensures.ready
