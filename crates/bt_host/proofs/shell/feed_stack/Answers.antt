use Rattle.std.proofs.Common.{◌∙◌, ap, Ok, Err}
use Rattle.std.proofs.lemmas.Result.{err_from_is_err_and}
use Rattle.h4_framing.specs.Packets.{packet}
use Rattle.l2cap_channels.specs.Machine.{Machine}
use Rattle.bt_host.proofs.Reacting.{resting_by}
use Rattle.bt_host.proofs.Feeding.{served_packet, served_refused, one_by}
use Rattle.bt_host.proofs.shell.feed_stack.Goals as goal

pub returns-in_err-hear-in-Whole-clause-reads : goal.returns-in_err-hear-in-Whole-clause-reads
returns-in_err-hear-in-Whole-clause-reads g c =
    let p = err_from_is_err_and c.from_residual.result c.from_residual.ensures.1 in
    let so_far = c.loop-unit.invariant in
    rw (p.1, p.2)
    (served_refused (g.E.End.profile c.args.stack.now.upper.machine.settings) g.E.End.answers g.E.End.pushing g.E.End.lacked g.met.E.End.joins g.met.E.End.lacks _ _ _ _ _ _ _ _ c.in-Whole.unit c.in-Whole.used _ _ c.in_err-hear-in-Whole.field-0.0
    c.in-Whole.is c.requires.limit c.requires.framed so_far.served c.take.follows.holds-at-none c.place-place.ensures
    (one_by g.E.End.profile g.E.End.answers g.E.End.lacked g.E.End.pushing _ _ (packet c.in-Whole.unit) c.place-place.result (record { stack = c.loop-unit.stack; port = c.loop-unit.port }) (record { stack = c.hear.new.self; port = c.hear.new.port })
    (Err c.in_err-hear-in-Whole.field-0.0) so_far.same c.in_err-hear-in-Whole.ensures.heard))

pub loop-unit-preserved : goal.loop-unit-preserved
loop-unit-preserved g c =
    let so_far = c.loop-unit.invariant in
    let hear = c.in_ok-hear-in-Whole.ensures in
    record {
      served = served_packet (g.E.End.profile c.args.stack.now.upper.machine.settings) g.E.End.answers g.E.End.pushing _ _ _ _ _ _ _ _ c.in-Whole.unit c.in-Whole.used _ c.in-Whole.is c.requires.limit so_far.served c.take.follows.holds-at-none
          (one_by g.E.End.profile g.E.End.answers g.E.End.lacked g.E.End.pushing _ _ (packet c.in-Whole.unit) c.place-place.result _ _ (Ok tt) so_far.same hear.heard);
      sound = hear.sound;
      of = hear.of;
      rests = resting_by g.E.End.profile g.E.End.pushing c.loop-unit.stack.upper.machine.settings c.args.stack.now.upper.machine.settings (record { stack = c.hear.new.self; port = c.hear.new.port }) so_far.same hear.rests;
      paged = c.hear.ensures.paged ∙ so_far.paged;
      same = ap (λ (m : Machine). m.settings) c.hear.ensures.machine ∙ so_far.same;
    }
