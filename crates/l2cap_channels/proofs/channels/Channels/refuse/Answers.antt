use Rattle.std.proofs.Common.{◌≤◌, ◌∙◌, ap, rules}
use Rattle.std.specs.Prelude.{slice_get}
use Rattle.l2cap_channels.specs.Finding.{place_setup}
use Rattle.l2cap_channels.specs.Machine.{with_channels}
use Rattle.l2cap_channels.specs.Steps.{refused_on}
use Rattle.l2cap_channels.proofs.Following.{refused_by}
use Rattle.l2cap_channels.proofs.channels.Channels.refuse.Goals as goal

pub returns-then-refused-ge-MOST_REFUSALS-clause-after : goal.returns-then-refused-ge-MOST_REFUSALS-clause-after
returns-then-refused-ge-MOST_REFUSALS-clause-after c =
    let m = c.args.self.now in
    let o = slice_get m.channels.held c.args.at in
    let many : 2 ≤ refused_on (place_setup o) = search rules in
    c.close.ensures.closes ∙ ap (with_channels m) (refused_by o m.channels many)
