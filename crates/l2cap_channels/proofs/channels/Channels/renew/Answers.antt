use Rattle.std.proofs.Common.{◌∙◌, ap, rules}
use Rattle.std.specs.Prelude.{slice_get}
use Rattle.l2cap_channels.specs.Machine.{with_channels}
use Rattle.l2cap_channels.proofs.Following.{renewed_by}
use Rattle.l2cap_channels.proofs.channels.Channels.renew.Goals as goal

pub returns-then-asks_no_more-clause-after : goal.returns-then-asks_no_more-clause-after
returns-then-asks_no_more-clause-after c =
    let m = c.args.self.now in
    let o = slice_get m.channels.held c.args.at in
    c.close.ensures.closes ∙ ap (with_channels m) (renewed_by o c.args.options m.channels (search rules))
