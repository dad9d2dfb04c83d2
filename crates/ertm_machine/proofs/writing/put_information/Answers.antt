use Rattle.std.proofs.Common.{◌≡◌, ℕ, ◌+◌, ◌≤◌, List, ◌++◌, length, drop, take, sym, subst, ap, ◌∙◌, arith}
use Rattle.bt_base.specs.Octets.{le16}
use Rattle.ertm_frames.specs.Frames.{PlainFrame, Spells, body_of}
use Rattle.ertm_frames.proofs.Written.{written_spells, written_rest}
use Rattle.ertm_machine.specs.Pieces.{information_of, octets_of}
use Rattle.ertm_machine.proofs.Parts.{length-body_of}
use Rattle.ertm_machine.proofs.writing.put_information.Goals as goal

pub returns : goal.returns
returns c =
    let frame : PlainFrame = information_of c.args.tx c.args.req c.args.piece.now in
    let end : ℕ = c.put_covered-end.result in
    let mid : List ℕ = c.put_covered-end.new.into in
    let few : length (body_of frame) ≤ 2 + length (octets_of c.args.piece.now) =
    length-body_of c.args.tx c.args.req c.args.piece.now.sar c.args.piece.now.total (octets_of c.args.piece.now) in
    let reach : c.put_at.result ≡ end + 2 = c.put_at.ensures.end ∙ ap (λ (x : List ℕ). end + length x) c.to_le_bytes.ensures in
    let written : c.put_at.new.into ≡ take end mid ++ (le16 c.fcs16-check.result ++ drop (end + 2) mid) =
    c.put_at.ensures.written ∙ ap (λ (x : List ℕ). take end mid ++ (x ++ drop c.put_at.result mid)) c.to_le_bytes.ensures
    ∙ ap (λ (n : ℕ). take end mid ++ (le16 c.fcs16-check.result ++ drop n mid)) reach in
    let spelled =
    written_spells c.get.result end c.fcs16-check.result frame c.args.into.now mid c.put_at.new.into
    (omega arith) c.requires.fits (omega arith) (omega arith) c.put_covered-end.ensures.count c.put_covered-end.ensures.written (omega arith) c.fcs16-check.ensures written in
    let rest =
    written_rest c.get.result end c.fcs16-check.result frame c.args.into.now mid c.put_at.new.into
    (omega arith) c.requires.fits (omega arith) (omega arith) c.put_covered-end.ensures.count c.put_covered-end.ensures.written (omega arith) c.fcs16-check.ensures written in
    record {
      count = omega arith;
      few = omega arith;
      spelling = subst (λ (n : ℕ). Spells c.args.cid frame (take n c.put_at.new.into)) (sym reach) (rw c.get.ensures.value at spelled);
      rest = subst (λ (n : ℕ). drop n c.put_at.new.into ≡ drop n c.args.into.now) (sym reach) rest;
    }
