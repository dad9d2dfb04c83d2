use Rattle.std.proofs.Common.{ℕ, List, ◌∷◌, ◌++◌, length, take, ◌∙◌, ap, subst, arith}
use Rattle.std.proofs.lemmas.List.{with_items_is}
use Rattle.bt_base.specs.Octets.{be16}
use Rattle.bt_base.specs.Streams.{gained, GainedFront}
use Rattle.three_wire.proofs.Breaking.{line_of, broken_trace, broken_sink}
use Rattle.three_wire.proofs.crossing.cross.Goals.{in-Forth, in_default-matches}
use Rattle.three_wire.proofs.crossing.cross.Goals as goal

pub returns-in-Err-clause-crossed : goal.returns-in-Err-clause-crossed
returns-in-Err-clause-crossed g c =
    let e = c.in-Some.ensures in
    let octets = take c.in-Some.n c.next_packet.new.into in
    let same = with_items_is c.args.medium.now.line c.next_packet.new.into (omega (arith, c.next_packet.auto.into, c.deref_mut.ensures.len)) in
    broken_trace c.args.way c.args.from.now c.next_packet.new.self c.args.to.now c.args.medium.now.draws (g.K.Sink.content c.args.sink.now) (g.T.Sink.content c.args.trace.now) (g.T.Sink.content c.put.new.sink)
    c.loses-lost.result e.0 c.deref_mut.result.now c.next_packet.new.into c.fill_entry.new.entry.items c.in-Some.n e.1 e.2 c.loses-lost.ensures.lost
    (c.fill_entry.ensures.items ∙ ap (λ (xs : List ℕ). c.tag_of.result ∷ (be16 (length (take c.in-Some.n xs)) ++ take c.in-Some.n xs)) (c.deref.ensures.value ∙ same) ∙ ap (λ (t : ℕ). t ∷ (be16 (length octets) ++ octets)) c.tag_of.ensures)
    (subst (GainedFront (g.T.Sink.content c.args.trace.now) (g.T.Sink.content c.put.new.sink)) c.deref-2.ensures.value c.put.ensures.front)

pub returns-in-Err-put-clause-crossed : goal.returns-in-Err-put-clause-crossed
returns-in-Err-put-clause-crossed g c =
    let e = c.in-Some.ensures in
    let octets = take c.in-Some.n c.next_packet.new.into in
    let same = with_items_is c.args.medium.now.line c.next_packet.new.into (omega (arith, c.next_packet.auto.into, c.deref_mut.ensures.len)) in
    broken_sink c.args.way c.args.from.now c.next_packet.new.self c.args.to.now c.hear-got.new.to c.args.medium.now.draws c.hear-got.new.slip (g.K.Sink.content c.args.sink.now) (g.K.Sink.content c.put-then-matches.new.sink)
    (g.T.Sink.content c.args.trace.now) (g.T.Sink.content c.put.new.sink)
    c.loses-lost.result c.hear-got.result e.0 c.deref_mut.result.now c.next_packet.new.into c.fill_entry.new.entry.items c.hear-got.new.unit.items c.in-Some.n e.1 e.2 c.loses-lost.ensures.lost
    (c.fill_entry.ensures.items ∙ ap (λ (xs : List ℕ). c.tag_of.result ∷ (be16 (length (take c.in-Some.n xs)) ++ take c.in-Some.n xs)) (c.deref.ensures.value ∙ same) ∙ ap (λ (t : ℕ). t ∷ (be16 (length octets) ++ octets)) c.tag_of.ensures)
    (c.in-Ok.ensures.ok ∙ ap (gained (g.T.Sink.content c.args.trace.now)) c.deref-2.ensures.value)
    c.if-lost.false
    (elim c.match-matches.branch [ in-Forth w ↦ w.in-Forth.is | in_default-matches w ↦ absurd (let x = c.if-matches.true in let y = w.matches-is in cc) ])
    c.if-got.true
    (c.hear-got.ensures.whole e.0 e.2.fits (ap (take c.in-Some.n) (c.deref-3.ensures.value ∙ same) ∙ line_of e.0 c.deref_mut.result.now c.next_packet.new.into c.in-Some.n e.2))
    (subst (GainedFront (g.K.Sink.content c.args.sink.now) (g.K.Sink.content c.put-then-matches.new.sink)) c.deref-then-matches.ensures.value c.put-then-matches.ensures.front)
