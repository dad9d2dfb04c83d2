use Rattle.std.proofs.Common.{◌∙◌, ap}
use Rattle.std.specs.Prelude.{slice_get}
use Rattle.l2cap_channels.specs.Machine.{with_channels}
use Rattle.l2cap_channels.proofs.Firing.{leaving_by, closing_by, crossed_by}
use Rattle.l2cap_channels.proofs.channels.Channels.fire_end.Goals as goal

pub returns-in-Leaving-clause-after : goal.returns-in-Leaving-clause-after
returns-in-Leaving-clause-after c =
    let m = c.args.self.now in
    c.fire_request.ensures.after ∙ ap (with_channels m) (leaving_by (slice_get m.channels.held c.args.at) c.endpoint-own.result m.settings.tries c.in-Leaving.field-0 c.in-Leaving.request m.channels c.endpoint-own.ensures.own c.in-Leaving.ensures)

pub returns-in-Closing-clause-after : goal.returns-in-Closing-clause-after
returns-in-Closing-clause-after c =
    let m = c.args.self.now in
    c.fire_request-in-Closing.ensures.after ∙ ap (with_channels m) (closing_by (slice_get m.channels.held c.args.at) c.endpoint-own.result m.settings.tries c.in-Closing.field-0 c.in-Closing.request c.in-Closing.field-2 m.channels c.endpoint-own.ensures.own c.in-Closing.ensures)

pub returns-in-Crossed-clause-after : goal.returns-in-Crossed-clause-after
returns-in-Crossed-clause-after c =
    let m = c.args.self.now in
    c.fire_request-in-Crossed.ensures.after ∙ ap (with_channels m) (crossed_by (slice_get m.channels.held c.args.at) c.endpoint-own.result m.settings.tries c.in-Crossed.field-0 c.in-Crossed.request m.channels c.endpoint-own.ensures.own c.in-Crossed.ensures)
