use Rattle.std.proofs.Common.{◌≡◌, ◌∙◌, ℕ, Option, Some, sym, ap}
use Rattle.host_link.specs.Lines.{Line}
use Rattle.host_link.specs.PuttingOut.{put_pieces_on}
use Rattle.host_link.proofs.Saying.{says_then, stuck}
use Rattle.host_link.proofs.host_link.HostLink.put_pieces.Goals as goal

pub loop-handle-preserved : goal.loop-handle-preserved
loop-handle-preserved c = (
  c.put_piece.ensures.link ∙ c.loop-handle.invariant.0,
  c.put_piece.ensures.next ∙ c.loop-handle.invariant.1,
  says_then _ _ _ c.loop-handle.invariant.2 c.put_piece.ensures.history,
)

pub returns-clause-line : goal.returns-clause-line
returns-clause-line c =
    let link : c.args.self.now.link ≡ Some c.in-Some.handle = sym (ap (λ (l : Line). l.link) c.self.view_is) ∙ c.in-Some.is in
    sym (stuck c.in-Some.handle c.loop-handle.self (sym c.may_put_piece.ensures.piece ∙ c.loop-handle-test.false))
    ∙ (c.loop-handle.invariant.1 ∙ sym (ap (λ (l : Option ℕ). put_pieces_on l c.args.self.now) link))
