use Rattle.std.proofs.Common.{◌≡◌, ℕ, ◌*◌, ◌/◌, take, length, ap, ◌∙◌, arith}
use Rattle.check_words.proofs.Eights.{left_behind, none_behind, eight_more, rest_behind}
use Rattle.check_words.proofs.fcs.with_eights.Goals as goal

pub loop-eight-init : goal.loop-eight-init
loop-eight-init c = none_behind c.args.word

pub loop-eight-preserved : goal.loop-eight-preserved
loop-eight-preserved c =
    eight_more c.args.word c.args.octets.now c.loop-eight.eight c.loop-eight.next c.with_eight-next.result c.loop-eight.invariant c.with_eight-next.ensures

pub returns : goal.returns
returns c =
    let n : ℕ = length c.args.octets.now / 8 in
    let end : c.loop-eight.eight ≡ n = omega arith in
    rest_behind c.args.word c.args.octets.now (8 * n) c.loop-eight.next c.with_octets.result
    (c.loop-eight.invariant ∙ ap (λ (k : ℕ). left_behind c.args.word (take (8 * k) c.args.octets.now)) end) c.with_octets.ensures
