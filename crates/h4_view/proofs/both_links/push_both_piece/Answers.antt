use Rattle.std.proofs.Common.{refl, sym, ◌∙◌}
use Rattle.h4_view.proofs.BothWays.{piece_both, both_placed}
use Rattle.h4_view.proofs.both_links.push_both_piece.Goals as goal

pub returns : goal.returns
returns c past knows =
    let value = rw c.in-Some-get_mut.is at c.get_mut.ensures.value in
    let placed = record c.args.links.now { places = c.make_place.new.places } in
    piece_both past placed _ c.args.direction c.args.word c.args.octets.now c.in-Some.at c.in-Some.boundary c.in-Some-get_mut.place.now c.push_in_both.new.place _ _ c.in-Some.ensures.range c.in_ok-make_place.ensures.there (sym c.in-Some.is ∙ c.link_of.ensures.value) value c.in_ok-push_in_both.ensures refl (both_placed past c.args.links.now placed c.in_ok-make_place.ensures.same refl knows)
