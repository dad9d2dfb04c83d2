use Rattle.std.proofs.Common.{refl}
use Rattle.sdp_elements.specs.Answers.{Attributes}
use Rattle.sdp_server.proofs.Reading.{attributes_found}
use Rattle.sdp_server.proofs.request.attributes_request.Goals as goal

pub returns : goal.returns
returns c =
    let h = c.in_ok-handle in
    let m = c.in_ok-most in
    let l = c.in_ok-list in
    let k = c.in_ok-continuation in
    let found = l.ensures in (
      record { question = Attributes h.handle found.0; most = m.most; continuation = k.continuation.now },
      attributes_found c.args.parameters.now h.rest.now m.rest.now l.rest.now h.handle m.most found.0 k.continuation.now h.ensures m.ensures.value found.1 k.ensures,
      record { question = (found.0, refl, found.2); most = refl; continuation = refl },
      m.ensures.least,
    )
