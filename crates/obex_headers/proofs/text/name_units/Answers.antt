use Rattle.std.proofs.Common.{◌++◌, List, ℕ, drop, ap, arith}
use Rattle.std.proofs.lemmas.List.{length-take}
use Rattle.obex_headers.proofs.Texts.{name_len, name_read}
use Rattle.obex_headers.proofs.text.name_units.Goals as goal

pub returns-then-into-count-clause-fits : goal.returns-then-into-count-clause-fits
returns-then-into-count-clause-fits c = omega (arith, name_len c.args.text.now c.requires)

pub returns-clause-fits : goal.returns-clause-fits
returns-clause-fits c = omega (arith, name_len c.args.text.now c.requires)

pub returns-clause-units : goal.returns-clause-units
returns-clause-units c = ap (λ (us : List ℕ). us ++ drop c.saturating_sub-count.result c.args.into.now) (name_read c.args.text.now c.read_u16_into.new.dst c.saturating_sub-count.result c.requires (omega arith) (omega (arith, c.read_u16_into.auto.dst, length-take c.saturating_sub-count.result c.args.into.now)) c.read_u16_into.ensures)
