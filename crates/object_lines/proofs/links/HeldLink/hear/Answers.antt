use Rattle.std.proofs.Common.{sym}
use Rattle.capture.specs.Lent.{plain_move}
use Rattle.object_lines.specs.Held.{plain_piece, plain_link}
use Rattle.object_lines.proofs.Heard.{after_none, hears_out, hears_into}
use Rattle.object_lines.proofs.links.HeldLink.hear.Goals as goal

pub returns-in_default : goal.returns-in_default
returns-in_default c = (after_none c.args.party.now (plain_move c.args.moved.now) (plain_link c.args.self.now) (sym c.in_default.ensures), c.requires)

pub returns-in_ok-join-in-Out : goal.returns-in_ok-join-in-Out
returns-in_ok-join-in-Out c =
    let joined = c.in_ok-join-in-Out.ensures in
    (hears_out c.args.party.now (plain_move c.args.moved.now) (plain_link c.args.self.now) (plain_piece c.in-Some.part) _ _ c.in-Out.is (sym c.in-Some.ensures) joined.1 joined.2, record { out_ = joined.0; into = c.requires.into })

pub returns-in_ok-join-in-Into : goal.returns-in_ok-join-in-Into
returns-in_ok-join-in-Into c =
    let joined = c.in_ok-join-in-Into.ensures in
    (hears_into c.args.party.now (plain_move c.args.moved.now) (plain_link c.args.self.now) (plain_piece c.in-Some.part) _ _ c.in-Into.is (sym c.in-Some.ensures) joined.1 joined.2, record { out_ = c.requires.out_; into = joined.0 })
