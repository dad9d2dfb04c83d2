-- The head that is cut off what waits.
use Rattle.std.proofs.Common.{◌≡◌, ℕ, ◌-◌, ◌≤◌, ◌<◌, List, [], ◌∷◌, length, take, drop, refl, sym, ap, ◌∙◌, arith}
use Rattle.std.proofs.lemmas.List.{take_all}
use Rattle.ertm_frames.specs.Segments.{Segment, whole, start, end, continuation}
use Rattle.ertm_model.specs.Submitting.{later_segments}
use Rattle.ertm_model.proofs.Cutting.{cut-whole, cut-start, later-end, later-continuation}
use Rattle.ertm_machine.specs.declared.window.Head.{Head}
use Rattle.ertm_machine.specs.declared.window.Waiting.{Waiting}
use Rattle.ertm_machine.specs.declared.window.Waiting.TheVariants.{Nothing, Uncut, Begun}
use Rattle.ertm_machine.specs.Windows.{Cuts}

-- a continuation is cut off what is more than one segment holds
pub continuation_cut : (waiting : Waiting) (count mps : ℕ) (head : Head) → 8 ≤ mps → waiting ≡ Begun → head ≡ record { len = mps; sar = 3; total = 0; given = 1 } → mps < count → Cuts waiting count mps (head, Begun)
continuation_cut waiting count mps head some is made lt = rw (is, made) (record {
  given = refl;
  head = record { len = omega arith; sar = omega arith; total = λ not. refl };
  fits = omega arith;
  rest = omega arith;
  segments = λ octets e. later-continuation mps octets (omega arith) (omega arith);
})
