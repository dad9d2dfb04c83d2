use Rattle.std.proofs.Common.{◌≡◌, vec_len, sym, ap, ◌∙◌, arith}
use Rattle.h4_framing.specs.Extents.{extent}
use Rattle.h4_framing.specs.declared.extent.Extent.TheVariants.{AtLeast}
use Rattle.h4_framing.proofs.ExtentLemmas.{at_least_short, unfinished_octets, unfinished_known}
use Rattle.h4_framing.proofs.GatheringLemmas.{all_used, none_beyond}
use Rattle.h4_framing.proofs.gathering.gather_head.Goals as goal

pub top_up-requires-clause-within : goal.top_up-requires-clause-within
top_up-requires-clause-within c =
    let known : extent c.args.limit c.args.buffer.now.items ≡ AtLeast c.in-AtLeast.length = ap (extent c.args.limit) (sym c.deref.ensures.value) ∙ sym c.in-AtLeast.ensures in
    let s = at_least_short c.args.limit c.args.buffer.now.items c.in-AtLeast.length c.requires.limit (unfinished_octets c.args.limit c.args.buffer.now.items c.requires.unfinished) known in
    omega (arith, s.short, c.args.buffer.now.ok.0)

pub top_up-requires-clause-room : goal.top_up-requires-clause-room
top_up-requires-clause-room c =
    let known : extent c.args.limit c.args.buffer.now.items ≡ AtLeast c.in-AtLeast.length = ap (extent c.args.limit) (sym c.deref.ensures.value) ∙ sym c.in-AtLeast.ensures in
    let s = at_least_short c.args.limit c.args.buffer.now.items c.in-AtLeast.length c.requires.limit (unfinished_octets c.args.limit c.args.buffer.now.items c.requires.unfinished) known in
    omega (arith, s.bound)

pub returns-in-AtLeast-clause-all : goal.returns-in-AtLeast-clause-all
returns-in-AtLeast-clause-all c = λ n e.
    let known : extent c.args.limit c.args.buffer.now.items ≡ AtLeast c.in-AtLeast.length = ap (extent c.args.limit) (sym c.deref.ensures.value) ∙ sym c.in-AtLeast.ensures in
    all_used c.args.limit c.in-AtLeast.length n c.top_up.result (vec_len c.args.buffer.now) c.args.buffer.now.items c.args.piece.now c.top_up.new.buffer.items c.requires.limit c.args.buffer.now.ok.0
    c.requires.begun (unfinished_octets c.args.limit c.args.buffer.now.items c.requires.unfinished) (λ i. omega (arith, c.type_inv.piece i)) known c.top_up.ensures.count c.top_up.ensures.items e

pub returns-in-AtLeast-clause-within : goal.returns-in-AtLeast-clause-within
returns-in-AtLeast-clause-within c = λ n e.
    let known : extent c.args.limit c.args.buffer.now.items ≡ AtLeast c.in-AtLeast.length = ap (extent c.args.limit) (sym c.deref.ensures.value) ∙ sym c.in-AtLeast.ensures in
    none_beyond c.args.limit c.in-AtLeast.length n c.top_up.result (vec_len c.args.buffer.now) (vec_len c.top_up.new.buffer) c.args.buffer.now.items c.args.piece.now c.top_up.new.buffer.items c.requires.limit
    c.args.buffer.now.ok.0 c.requires.begun (unfinished_octets c.args.limit c.args.buffer.now.items c.requires.unfinished) known c.top_up.ensures.count c.top_up.ensures.items c.top_up.new.buffer.ok.0 e

pub returns-in-Known-clause-within : goal.returns-in-Known-clause-within
returns-in-Known-clause-within c = λ n e.
    let lt = unfinished_known c.args.limit c.args.buffer.now.items n c.requires.unfinished e in
    (omega (arith, c.args.buffer.now.ok.0), λ none. omega (arith, c.args.buffer.now.ok.0))
