use Rattle.std.proofs.Common.{sym, ◌∙◌}
use Rattle.sdp_server.proofs.Patterns.{pattern_found}
use Rattle.sdp_server.proofs.pattern.pattern_at.Goals as goal

pub returns : goal.returns
returns c =
    let s = c.in_ok-identifiers.ensures in
    let f = pattern_found c.args.octets.now c.in_ok-identifiers.rest.now s.0 s.1 (sym (c.is_pattern.ensures s.0 s.2) ∙ c.if-not-is_pattern.false) in
    (f.0, f.1, (s.0, s.2, f.2))
