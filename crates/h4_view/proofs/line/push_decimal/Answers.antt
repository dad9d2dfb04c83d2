use Rattle.std.proofs.Common.{◌++◌, ◌/◌, refl, ap, sym, ◌∙◌, append_assoc, arith}
use Rattle.std.proofs.lemmas.Fmt.{decimal_digit, decimal_step}
use Rattle.h4_view.proofs.line.push_decimal.Goals as goal

pub returns-then-number-lt10 : goal.returns-then-number-lt10
returns-then-number-lt10 c = c.in_ok-push.ensures.items ∙ ap (λ w. c.args.text.now.items ++ w) (sym (decimal_digit c.args.number (omega arith)))

pub returns-then-number-lt100 : goal.returns-then-number-lt100
returns-then-number-lt100 c =
    rw (c.in_ok-push-3.ensures.items, c.in_ok-push-2.ensures.items, decimal_step c.args.number (omega arith) (omega arith), decimal_digit (c.args.number / 10) (omega arith), append_assoc) refl
