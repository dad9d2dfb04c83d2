use Rattle.std.proofs.Common.{refl}
use Rattle.sdp_elements.specs.Answers.{Handles}
use Rattle.sdp_server.proofs.Reading.{handles_found}
use Rattle.sdp_server.proofs.request.handles_request.Goals as goal

pub returns : goal.returns
returns c =
    let p = c.in_ok-pattern.ensures in
    let m = c.in_ok-most in
    let k = c.in_ok-continuation in (
      record { question = Handles p.0; most = m.most; continuation = k.continuation.now },
      handles_found c.args.parameters.now c.in_ok-pattern.rest.now m.rest.now p.0 m.most k.continuation.now p.1 m.ensures.value k.ensures,
      record { question = (p.0, refl, p.2); most = refl; continuation = refl },
      m.ensures.least,
    )
