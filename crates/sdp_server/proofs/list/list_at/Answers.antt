use Rattle.std.proofs.Common.{refl, sym, ◌∙◌}
use Rattle.sdp_elements.specs.Sequences.{collected}
use Rattle.sdp_server.specs.Requests.{range_of}
use Rattle.sdp_server.proofs.Lists.{list_found}
use Rattle.sdp_server.proofs.list.list_at.Goals as goal

pub returns : goal.returns
returns c =
    let s = c.in_ok-ranges.ensures in
    let f = list_found c.args.octets.now c.in_ok-ranges.rest.now s.0 s.1 (collected range_of s.0) refl (sym (c.are_ranges.ensures s.0 s.2) ∙ c.if-not-are_ranges.false) in
    (f.0, f.1, (s.0, s.2, f.2))
