use Rattle.std.proofs.Common.{◌≡◌, ◌++◌, sym, ap, ◌∙◌, subst}
use Rattle.h4_framing.specs.Packets.{packet}
use Rattle.line_laws.specs.Seeing.{IsSeen}
use Rattle.tiny_hosts.specs.Hosting.{Tiny, HearsComing}
use Rattle.tiny_hosts.proofs.Framing.{hears_whole}
use Rattle.tiny_hosts.proofs.hosting.TinyHostHost.feed.Goals as goal

pub returns-clause-hears : goal.returns-clause-hears
returns-clause-hears g c =
    let machine = g.M.Mind.machine in
    let side = g.M.Mind.side in
    hears_whole machine side c.args.self.now c.hear.new.mind c.hear.new.line c.args.octets.now c.deref.result.now c.clear.new.self.items c.in-Whole.unit c.in-Whole.field-1 c.args._port.now c.requires.sound.is_seen
    (c.deref.ensures.value ∙ c.in_ok-extend_from_slice.ensures.items ∙ ap (λ (h : Tiny _). h.held ++ c.args.octets.now) c.self.view_is)
    c.in-Whole.ensures (subst (λ (h : Tiny _). HearsComing machine side (packet c.in-Whole.unit) h.mind c.hear.new.mind h.line c.hear.new.line) c.self.view_is c.hear.ensures) c.clear.ensures.items
