use Rattle.std.proofs.Common.{◌≡◌, ◌+◌, ◌-◌, ◌<◌, ◌≤◌, ℕ, List, length, take, drop, refl, sym, ap, subst, ◌∙◌, arith}
use Rattle.std.specs.Prelude.{slice_get, slice_set, Some}
use Rattle.circular_buffer.specs.Buffer.{buffer}
use Rattle.ertm_machine.specs.declared.window.Head.{Head}
use Rattle.ertm_machine.specs.Windows.{size_of}
use Rattle.ertm_machine.specs.Values.{WindowValue}
use Rattle.ertm_machine.proofs.Windowing.{head_at, unspent_at, goes_again, comes, few_in_front, place_at_end}
use Rattle.ertm_machine.proofs.Valuing.{used_is, went_again, came, full, empty}
use Rattle.ertm_machine.proofs.window.Window.advance.Goals as goal

pub count_again-len-requires-clause-unspent : goal.count_again-len-requires-clause-unspent
count_again-len-requires-clause-unspent c = unspent_at c.self.inside c.self.invariant (omega arith)

pub overflow_add-self-then-self-len : goal.overflow_add-self-then-self-len
overflow_add-self-then-self-len c = omega (arith, few_in_front c.self.inside c.self.inside.next c.self.invariant, c.self.invariant.place)

pub invariant_of-self : goal.invariant_of-self
invariant_of-self c =
    let (head, found) = head_at c.self.inside.heads.items c.self.inside.next (omega arith) in
    let (len, heads) = rw found at c.count_again-len.ensures in
    goes_again c.self.inside head c.count_again-len.new.heads (c.self.inside.next + 1) (c.self.inside.place + c.from.result) c.self.invariant found heads refl
    (ap (λ (n : ℕ). c.self.inside.place + n) (c.from.ensures ∙ len))

pub returns-then-self-len : goal.returns-then-self-len
returns-then-self-len c =
    let (head, found) = head_at c.self.inside.heads.items c.self.inside.next (omega arith) in
    let (len, heads) = rw found at c.count_again-len.ensures in
    went_again c.self.inside c.args.self.now head c.count_again-len.new.heads (c.self.inside.next + 1) (c.self.inside.place + c.from.result) c.self.view_is found heads refl

pub returns-then-len-from : goal.returns-then-len-from
returns-then-len-from c = full c.self.inside c.args.self.now c.self.view_is (omega arith) (omega arith)

pub returns-in_default : goal.returns-in_default
returns-in_default c = empty c.self.inside c.args.self.now c.self.view_is (omega arith) c.in_default.ensures.none

pub invariant_of-self-2 : goal.invariant_of-self-2
invariant_of-self-2 c =
    comes c.self.inside (c.len-3.result - c.self.inside.place) c.in-Some.head c.in-Some.behind c.put_head.new.heads (c.self.inside.next + 1) (c.self.inside.place + c.from-3.result)
    c.self.invariant (omega arith) (omega arith) (omega arith) c.in-Some.ensures.some c.put_head.ensures refl (ap (λ (n : ℕ). c.self.inside.place + n) c.from-3.ensures)

pub returns : goal.returns
returns c =
    came c.self.inside c.args.self.now (c.len-3.result - c.self.inside.place) c.in-Some.head c.in-Some.behind c.put_head.new.heads (c.self.inside.next + 1) (c.self.inside.place + c.from-3.result)
    c.self.view_is c.self.invariant (omega arith) (omega arith) (omega (arith, place_at_end c.self.inside c.self.invariant (omega arith))) c.in-Some.ensures.some c.put_head.ensures refl
