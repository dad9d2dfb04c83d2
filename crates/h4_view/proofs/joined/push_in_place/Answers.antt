use Rattle.std.proofs.Common.{List, sym, subst}
use Rattle.acl_fragments.specs.Pieces.{Piece}
use Rattle.h4_view.specs.Details.{IsLink}
use Rattle.h4_view.proofs.joined.push_in_place.Goals as goal

pub returns-in_ok-push_on_link-in-None : goal.returns-in_ok-push_on_link-in-None
returns-in_ok-push_on_link-in-None c past is spare =
    let none = rw c.in-None.is at is in
    c.in_ok-push_on_link-in-None.ensures past (subst (λ (pieces : List Piece). IsLink pieces c.new-link.result) (sym none) c.new-link.ensures) spare
