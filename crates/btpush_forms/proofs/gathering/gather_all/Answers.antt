use Rattle.std.proofs.Common.{◌≡◌, ◌≤◌, ap, ◌∙◌, Ok, arith, take, drop, length, List, ℕ, ◌++◌}
use Rattle.std.proofs.lemmas.List.{length-take, take-append-le}
use Rattle.btpush_forms.specs.Gathering.{kept_limit}
use Rattle.btpush_forms.proofs.Kept.{gathered_more, few_kept, stopped_still, stopped_behind, whole_behind, at_limit, none_left, full_at_limit, unblamed, unanswered}
use Rattle.btpush_forms.proofs.gathering.gather_all.Goals as goal

pub returns-then-n-eq0-clause-few : goal.returns-then-n-eq0-clause-few
returns-then-n-eq0-clause-few g c = few_kept _ _ _ _ c.loop-count.invariant.gathered

pub keep-requires : goal.keep-requires
keep-requires g c = record { room = few_kept _ _ _ _ c.loop-count.invariant.gathered }

pub returns-in-Err-keep-clause-gathers : goal.returns-in-Err-keep-clause-gathers
returns-in-Err-keep-clause-gathers g c = stopped_behind _ _ _ _ _ c.loop-count.text.items _ c.in-Err-keep.fault c.loop-count.invariant.gathered c.in-Ok.ensures.took.1

pub returns-clause-few : goal.returns-clause-few
returns-clause-few g c = few_kept _ _ _ _ c.loop-count.invariant.gathered

pub returns-in-Err-clause-gathers : goal.returns-in-Err-clause-gathers
returns-in-Err-clause-gathers g c = stopped_still _ _ _ _ _ c.loop-count.text.items c.in-Err.fault c.loop-count.invariant.gathered c.in-Err.ensures.kept

pub returns-then-n-eq0-clause-gathers : goal.returns-then-n-eq0-clause-gathers
returns-then-n-eq0-clause-gathers g c = whole_behind _ _ _ _ c.in-Ok.n _ _ c.loop-count.invariant.below c.loop-count.invariant.gathered c.in-Ok.ensures.took.1 c.if-n-eq0.true (c.in-Ok.ensures.finish (ap Ok c.if-n-eq0.true) (omega (arith, length-take c.min-room.result c.loop-count.piece, c.min-room.ensures, c.requires.room, c.loop-count-test.true)))

pub loop-count-preserved : goal.loop-count-preserved
loop-count-preserved g c =
    let room : c.in-Ok.n ≤ length (take c.min-room.result c.loop-count.piece) = c.in-Ok.ensures.took.0 in
    let size : length (take c.in-Ok.n c.read_piece.new.piece) ≡ c.in-Ok.n = omega (arith, length-take c.in-Ok.n c.read_piece.new.piece, room, c.read_piece.auto.piece) in
    let front = take-append-le c.in-Ok.n c.read_piece.new.piece (drop c.min-room.result c.loop-count.piece) (omega (arith, room, c.read_piece.auto.piece)) in
    record {
      gathered = gathered_more _ _ _ _ c.in-Ok.n _ _ _ c.loop-count.invariant.gathered c.in-Ok.ensures.took.1 size (c.in_default.ensures.kept ∙ ap (λ (t : List ℕ). take kept_limit (c.loop-count.text.items ++ t)) front);
      below = omega (arith, room, length-take c.min-room.result c.loop-count.piece, c.min-room.ensures, c.loop-count-test.true);
      faults = unblamed _ _ c.in-Ok.n c.in-Ok.ensures.blame ∙ c.loop-count.invariant.faults;
      shortages = unanswered _ _ c.in-Ok.n c.in-Ok.ensures.short ∙ c.loop-count.invariant.shortages;
    }

pub returns-clause-gathers : goal.returns-clause-gathers
returns-clause-gathers g c = at_limit _ _ _ _ (omega (arith, c.loop-count.invariant.below, c.loop-count-test.false)) c.loop-count.invariant.gathered

pub returns-then-n-eq0-clause-finish : goal.returns-then-n-eq0-clause-finish
returns-then-n-eq0-clause-finish g c short = none_left _ _ c.in-Ok.n _ c.in-Ok.ensures.took.1 c.if-n-eq0.true (c.in-Ok.ensures.finish (ap Ok c.if-n-eq0.true) (omega (arith, length-take c.min-room.result c.loop-count.piece, c.min-room.ensures, c.requires.room, c.loop-count-test.true)))

pub returns-clause-finish : goal.returns-clause-finish
returns-clause-finish g c short = absurd (full_at_limit _ _ _ _ (omega (arith, c.loop-count.invariant.below, c.loop-count-test.false)) c.loop-count.invariant.gathered short)
