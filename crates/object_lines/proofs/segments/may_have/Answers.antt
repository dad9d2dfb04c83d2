use Rattle.std.proofs.Common.{ℕ, ◌/◌, ◌%◌, eqb, sym, ap, ◌∙◌}
use Rattle.object_lines.proofs.Earing.{odd_none, other_none}
use Rattle.object_lines.proofs.segments.may_have.Goals as goal

pub returns-then-low-eq1 : goal.returns-then-low-eq1
returns-then-low-eq1 c never most = odd_none c.args.number most c.args.pdu.now (sym (ap (λ (low : ℕ). low % 2) c.octet_at-low.ensures) ∙ c.if-low-eq1.true)

pub returns : goal.returns
returns c other most = other_none c.args.number most c.args.pdu.now (sym (ap (λ (low : ℕ). eqb (low / 2 % 64) (c.args.number % 64)) c.octet_at-low.ensures) ∙ other)
