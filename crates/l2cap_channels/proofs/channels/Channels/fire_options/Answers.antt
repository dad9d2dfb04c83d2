use Rattle.std.proofs.Common.{◌∙◌, ap, sym}
use Rattle.std.specs.Prelude.{slice_get}
use Rattle.l2cap_channels.specs.Machine.{with_channels}
use Rattle.l2cap_channels.specs.Parts.{request_value}
use Rattle.l2cap_channels.proofs.Firing.{options_by}
use Rattle.l2cap_channels.proofs.channels.Channels.fire_options.Goals as goal

pub returns-in-Some-clause-after : goal.returns-in-Some-clause-after
returns-in-Some-clause-after c =
    let m = c.args.self.now in
    c.fire.ensures.after ∙ ap (with_channels m) (options_by (slice_get m.channels.held c.args.at) c.endpoint-own.result m.settings.tries (request_value c.in-Some.request) m.channels c.endpoint-own.ensures.own (sym c.in-Some.ensures))
