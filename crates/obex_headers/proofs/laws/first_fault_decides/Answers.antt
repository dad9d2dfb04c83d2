use Rattle.obex_headers.proofs.HeaderLaws.{refused_first, first_refused}
use Rattle.obex_headers.proofs.laws.first_fault_decides.Goals as goal

pub returns : goal.returns
returns c = λ octets refusal fits. (refused_first octets refusal fits, first_refused octets refusal)
