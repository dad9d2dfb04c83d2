use Rattle.std.proofs.Common.{List, sym, subst}
use Rattle.h4_view.specs.Both.{IsBoth, SentPiece}
use Rattle.h4_view.proofs.both_links.push_in_both.Goals as goal

pub returns-in_ok-push_on_both-in-None : goal.returns-in_ok-push_on_both-in-None
returns-in_ok-push_on_both-in-None c past is spare =
    let none = rw c.in-None.is at is in
    c.in_ok-push_on_both-in-None.ensures past (subst (λ (pieces : List SentPiece). IsBoth pieces c.new-link.result) (sym none) c.new-link.ensures) spare
