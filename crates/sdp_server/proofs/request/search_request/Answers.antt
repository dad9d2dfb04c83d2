use Rattle.std.proofs.Common.{refl}
use Rattle.sdp_elements.specs.Answers.{Search}
use Rattle.sdp_server.proofs.Reading.{search_found}
use Rattle.sdp_server.proofs.request.search_request.Goals as goal

pub returns : goal.returns
returns c =
    let p = c.in_ok-pattern.ensures in
    let m = c.in_ok-most in
    let l = c.in_ok-list in
    let k = c.in_ok-continuation in
    let found = l.ensures in (
      record { question = Search p.0 found.0; most = m.most; continuation = k.continuation.now },
      search_found c.args.parameters.now c.in_ok-pattern.rest.now m.rest.now l.rest.now p.0 m.most found.0 k.continuation.now p.1 m.ensures.value found.1 k.ensures,
      record { question = (p.0, found.0, refl, p.2, found.2); most = refl; continuation = refl },
      m.ensures.least,
    )
