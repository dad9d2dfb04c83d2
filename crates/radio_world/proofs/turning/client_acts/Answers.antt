use Rattle.std.proofs.Common.{sym, ◌∙◌}
use Rattle.push_terms.specs.declared.word.Side.TheVariants.{A}
use Rattle.radio_world.specs.Turning.{fires, cancels}
use Rattle.radio_world.proofs.Reacting.{doing_fired, doing_cancelled, doing_nothing}
use Rattle.radio_world.proofs.turning.client_acts.Goals as goal

pub cancel-requires-clause-may : goal.cancel-requires-clause-may
cancel-requires-clause-may g c = c.requires.cancelled (sym c.cancels.ensures ∙ c.if-not-cancels.false)

pub returns-then-fires-clause-reacts : goal.returns-then-fires-clause-reacts
returns-then-fires-clause-reacts g c =
    let host = g.A.Host in
    doing_fired host.machine host.side host.answers (fires A c.args.deed) (cancels A c.args.deed) (host.station c.args.a.now c.args.shelf.now) (host.station c.fire.new.host c.fire.new.port) c.args.shelf.now c.fire.new.port
    (sym c.fires.ensures ∙ c.if-fires.true) c.in_ok-fire.ensures.reacts

pub returns-then-not-cancels-clause-reacts : goal.returns-then-not-cancels-clause-reacts
returns-then-not-cancels-clause-reacts g c =
    let host = g.A.Host in
    doing_nothing host.machine host.side host.answers (fires A c.args.deed) (cancels A c.args.deed) (host.station c.args.a.now c.args.shelf.now) c.args.shelf.now g.met.A.Host.joins
    (sym c.fires.ensures ∙ c.if-fires.false) (sym c.cancels.ensures ∙ c.if-not-cancels.true)

pub returns-clause-reacts : goal.returns-clause-reacts
returns-clause-reacts g c =
    let host = g.A.Host in
    doing_cancelled host.machine host.side host.answers (fires A c.args.deed) (cancels A c.args.deed) (host.station c.args.a.now c.args.shelf.now) (host.station c.cancel.new.self c.cancel.new.port) c.args.shelf.now c.cancel.new.port
    (sym c.fires.ensures ∙ c.if-fires.false) (sym c.cancels.ensures ∙ c.if-not-cancels.false) c.in_ok-cancel.ensures.reacts
