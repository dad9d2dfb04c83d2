use Rattle.std.proofs.Common.{◌≡◌, ◌≤◌, ℕ, List, Ok, length, take, ap, refl, arith}
use Rattle.std.proofs.lemmas.List.{length-take, with_items_is}
use Rattle.three_wire.proofs.Feeding.{fed_read, reads_more, read_pending, read_octets}
use Rattle.three_wire.proofs.feed.Feed.read_more.Goals as goal

pub returns-in-Ok-clause-reads : goal.returns-in-Ok-clause-reads
returns-in-Ok-clause-reads g c = λ input packets f none.
    let r = c.in-Ok.ensures in
    let n = c.in-Ok.n in
    let same = with_items_is c.args.self.now.piece c.read_piece.new.piece (omega (arith, c.read_piece.auto.piece, c.deref_mut.ensures.len)) in
    let pend = read_pending c.read_piece.new.piece _ n same in
    let long = pend_long n c.read_piece.new.piece (omega (arith, r.within, c.min-room.ensures, c.read_piece.auto.piece, c.deref_mut.ensures.len, c.requires.shape.piece)) pend in
    reads_more input (g.S.Source.content c.args.source.now) (g.S.Source.content c.read_piece.new.source) c.args.self.now _ packets n
    (fed_read input (g.S.Source.content c.args.source.now) (g.S.Source.content c.read_piece.new.source) c.args.self.now _ packets n f none r.after (read_octets (g.S.Source.content c.args.source.now) _ (take n c.read_piece.new.piece) n pend r.octets) long refl refl (omega (arith, r.within, c.min-room.ensures, c.requires.below)))
    r.after long (λ zero'. r.finish (ap Ok zero') (omega (arith, c.min-room.ensures, c.requires.below)))
  where
    pend_long : (n : ℕ) (piece : List ℕ) → n ≤ length piece → {pend : List ℕ} → pend ≡ take n piece → length pend ≡ n
    pend_long n piece le e = omega (arith, ap length e, length-take n piece)
