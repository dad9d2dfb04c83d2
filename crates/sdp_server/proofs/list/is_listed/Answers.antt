use Rattle.std.proofs.Common.{List, sym, ◌∙◌}
use Rattle.sdp_elements.specs.Answers.{Range, is_within, is_listed}
use Rattle.sdp_elements.specs.Elements.{plain, left_of}
use Rattle.sdp_elements.proofs.WalkLaws.{walked, walk_over}
use Rattle.sdp_server.specs.Requests.{range_of, range_in}
use Rattle.sdp_server.proofs.Lists.{range-of_tree, asks_next, asks_on, asks_over, tested, any_here, any_later}
use Rattle.sdp_server.proofs.list.is_listed.Goals as goal

pub returns-then-names : goal.returns-then-names
returns-then-names c = λ ranges s.
    let old = left_of c.loop-part.left in
    let new = left_of c.next.new.self in
    let element = plain c.in-Some.part in
    let a = c.loop-part.invariant ranges s in
    let w = walked a.rest element old new c.in-Some.ensures.found c.in-Some.ensures.parts a.spelled in
    let n = asks_next range_of (λ (rs : List Range). is_listed rs c.args.identifier) ranges old new element a w in
    let here = tested (is_within c.args.identifier) (range_of w.first) (range_in element) n.found c.names.result c.names.ensures (range-of_tree element w.first w.stands) n.first_is in
    sym (n.same ∙ any_here (is_within c.args.identifier n.found) (is_listed n.more c.args.identifier) (sym here ∙ c.if-names.true))

pub loop-part-preserved : goal.loop-part-preserved
loop-part-preserved c = λ ranges s.
    let old = left_of c.loop-part.left in
    let new = left_of c.next.new.self in
    let element = plain c.in-Some.part in
    let a = c.loop-part.invariant ranges s in
    let w = walked a.rest element old new c.in-Some.ensures.found c.in-Some.ensures.parts a.spelled in
    let n = asks_next range_of (λ (rs : List Range). is_listed rs c.args.identifier) ranges old new element a w in
    let here = tested (is_within c.args.identifier) (range_of w.first) (range_in element) n.found c.names.result c.names.ensures (range-of_tree element w.first w.stands) n.first_is in
    asks_on range_of (λ (rs : List Range). is_listed rs c.args.identifier) ranges w.first new n (any_later (is_within c.args.identifier n.found) (is_listed n.more c.args.identifier) (sym here ∙ c.if-names.false))

pub returns : goal.returns
returns c = λ ranges s.
    let a = c.loop-part.invariant ranges s in
    sym (asks_over range_of (λ (rs : List Range). is_listed rs c.args.identifier) ranges (left_of c.loop-part.left) a (walk_over a.rest (left_of c.loop-part.left) (left_of c.next.new.self) c.in_default.ensures.parts a.spelled))
