use Rattle.std.proofs.Common.{◌≡◌, ℕ, ◌+◌, ◌*◌, ◌/◌, [], take, length, refl, ap, ◌∙◌, arith}
use Rattle.std.specs.List.{slice_range}
use Rattle.check_words.specs.Division.{reduced, divided}
use Rattle.check_words.specs.CheckWords.{low_bits, l2cap_check}
use Rattle.check_words.proofs.Eights.{all_behind, up_to, to_the_end}
use Rattle.check_words.proofs.Words.{stand_further}
use Rattle.check_words.proofs.fcs.fcs16.Goals as goal

pub returns-then-octets-lt-WORTH_FOLDING : goal.returns-then-octets-lt-WORTH_FOLDING
unfolding low_bits reduced divided
returns-then-octets-lt-WORTH_FOLDING c = all_behind [] c.args.octets.now 0 c.with_eights.result refl c.with_eights.ensures

pub loop-block-init : goal.loop-block-init
unfolding low_bits reduced divided
loop-block-init c = refl

pub loop-block-preserved : goal.loop-block-preserved
loop-block-preserved c =
    let n : ℕ = 128 * c.loop-block.block in
    let further : n + 128 ≡ 128 * (c.loop-block.block + 1) = omega arith in
    stand_further c.loop-block.words c.fold.new.words (take n c.args.octets.now) (slice_range c.args.octets.now n (n + 128)) c.loop-block.invariant c.fold.ensures
    ∙ ap l2cap_check (up_to c.args.octets.now n 128 ∙ ap (λ (k : ℕ). take k c.args.octets.now) further)

pub returns : goal.returns
returns c =
    let n : ℕ = 128 * (length c.args.octets.now / 128) in
    let end : 128 * c.loop-block.block ≡ n = omega arith in
    all_behind (take n c.args.octets.now) (slice_range c.args.octets.now n (length c.args.octets.now)) c.check_word_of_words.result c.with_eights-2.result
    (c.check_word_of_words.ensures ∙ c.loop-block.invariant ∙ ap (λ (k : ℕ). l2cap_check (take k c.args.octets.now)) end) c.with_eights-2.ensures
    ∙ ap l2cap_check (to_the_end c.args.octets.now n)
