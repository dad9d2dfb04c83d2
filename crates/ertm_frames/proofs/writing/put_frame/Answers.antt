use Rattle.std.proofs.Common.{ℕ, ◌+◌, take, subst, arith}
use Rattle.ertm_frames.specs.Frames.{plain, Spells}
use Rattle.ertm_frames.proofs.Written.{written_spells, written_rest}
use Rattle.ertm_frames.proofs.writing.put_frame.Goals as goal

pub returns-clause-spelling : goal.returns-clause-spelling
returns-clause-spelling c =
    subst (λ (cid : ℕ). Spells cid (plain c.args.frame.now) (take (c.put_covered-end.result + 2) c.put_word.new.into)) c.get.ensures.value
    (written_spells c.get.result c.put_covered-end.result c.fcs16-check.result (plain c.args.frame.now) c.args.into.now c.put_covered-end.new.into c.put_word.new.into
    (omega arith) c.requires.fits c.requires.size c.requires.room c.put_covered-end.ensures.count c.put_covered-end.ensures.written (omega arith) c.fcs16-check.ensures c.put_word.ensures)

pub returns-clause-rest : goal.returns-clause-rest
returns-clause-rest c =
    written_rest c.get.result c.put_covered-end.result c.fcs16-check.result (plain c.args.frame.now) c.args.into.now c.put_covered-end.new.into c.put_word.new.into
    (omega arith) c.requires.fits c.requires.size c.requires.room c.put_covered-end.ensures.count c.put_covered-end.ensures.written (omega arith) c.fcs16-check.ensures c.put_word.ensures
