use Rattle.std.proofs.Common.{arith}
use Rattle.obex_headers.proofs.HeaderLaws.{is_found, is_only}
use Rattle.obex_headers.specs.Packets.{plain_header}
use Rattle.obex_headers.proofs.reading.header.Goals as goal

pub returns-clause-found : goal.returns-clause-found
returns-clause-found c = is_found (λ x. (plain_header x.0, x.1.now)) c.args.octets.now c.read_header.result (λ i. omega (arith, c.type_inv.octets i)) c.read_header.ensures

pub returns-clause-only : goal.returns-clause-only
returns-clause-only c = λ header rest h e. is_only (λ x. (plain_header x.0, x.1.now)) c.args.octets.now header rest c.read_header.result h e c.read_header.ensures
