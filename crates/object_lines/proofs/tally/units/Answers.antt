use Rattle.std.proofs.Common.{arith}
use Rattle.obex_headers.proofs.Texts.{name_len}
use Rattle.object_lines.proofs.tally.units.Goals as goal

pub unreachable-requires : goal.unreachable-requires
unreachable-requires c = omega (arith, name_len c.args.text.now c.requires, c.in_default.ensures.fits, c.deref_mut.ensures.len, c.in_ok-units.ensures.len)
