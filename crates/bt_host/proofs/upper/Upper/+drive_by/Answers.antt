use Rattle.std.proofs.Common.{inl, inr, rules}
use Rattle.bt_host.proofs.Going.{drive_rests, drive_once, drive_more}
use Rattle.bt_host.proofs.upper.Upper.+drive_by.Goals as goal

pub returns-then-count-eq0-clause-does : goal.returns-then-count-eq0-clause-does
returns-then-count-eq0-clause-does g t c =
    drive_rests g.E.End.profile g.E.End.answers g.met.E.End.joins g.E.End.pushing c.self.inside.channels c.self.inside.end c.sent.new.self c.self.inside.may_say c.args.count c.args.self.now c.args.port.now c.self.view_is
    (inl (search rules)) c.sent.ensures.is

pub returns-then-gives-clause-does : goal.returns-then-gives-clause-does
returns-then-gives-clause-does g t c =
    drive_rests g.E.End.profile g.E.End.answers g.met.E.End.joins g.E.End.pushing c.self.inside.channels c.self.inside.end c.sent.new.self c.self.inside.may_say c.args.count c.args.self.now c.args.port.now c.self.view_is
    (inr (search rules)) c.sent.ensures.is

pub returns-then-not-branch-clause-does : goal.returns-then-not-branch-clause-does
returns-then-not-branch-clause-does g t c =
    drive_once g.E.End.profile g.E.End.answers g.met.E.End.joins g.E.End.pushing c.self.inside.channels c.self.inside.end c.sent.new.self c.self.inside.may_say c.args.count _ c.args.self.now c.stride.new.self c.args.port.now c.stride.new.port c.self.view_is
    (search rules) (search rules) (search rules) c.sent.ensures.is c.in_ok-stride.ensures.does

pub returns-clause-does : goal.returns-clause-does
returns-clause-does g t c =
    drive_more g.E.End.profile g.E.End.answers g.met.E.End.joins g.E.End.pushing c.self.inside.channels c.self.inside.end c.sent.new.self c.self.inside.may_say c.args.count _ c.args.self.now c.stride.new.self c.drive_by.new.self
    c.args.port.now c.stride.new.port c.drive_by.new.port c.self.view_is
    (search rules) (search rules) (search rules) c.stride.ensures.machine c.sent.ensures.is c.in_ok-stride.ensures.does c.in_ok-drive_by.ensures.does
