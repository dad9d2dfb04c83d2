use Rattle.std.proofs.Common.{sym, ◌∙◌}
use Rattle.push_terms.specs.declared.word.Side.TheVariants.{B}
use Rattle.radio_world.specs.Turning.{fires, cancels}
use Rattle.radio_world.proofs.Reacting.{doing_fired, doing_nothing}
use Rattle.radio_world.proofs.Turned.{b_cancels_not}
use Rattle.radio_world.proofs.turning.server_acts.Goals as goal

pub returns-then-not-fires-clause-reacts : goal.returns-then-not-fires-clause-reacts
returns-then-not-fires-clause-reacts g c =
    let host = g.B.Host in
    doing_nothing host.machine host.side host.answers (fires B c.args.deed) (cancels B c.args.deed) (host.station c.args.b.now c.args.inbox.now) c.args.inbox.now g.met.B.Host.joins
    (sym c.fires.ensures ∙ c.if-not-fires.true) (b_cancels_not c.args.deed)

pub returns-clause-reacts : goal.returns-clause-reacts
returns-clause-reacts g c =
    let host = g.B.Host in
    doing_fired host.machine host.side host.answers (fires B c.args.deed) (cancels B c.args.deed) (host.station c.args.b.now c.args.inbox.now) (host.station c.fire.new.host c.fire.new.port) c.args.inbox.now c.fire.new.port
    (sym c.fires.ensures ∙ c.if-not-fires.false) c.in_ok-fire.ensures.reacts
