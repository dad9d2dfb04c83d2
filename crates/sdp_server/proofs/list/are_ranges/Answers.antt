use Rattle.std.proofs.Common.{sym}
use Rattle.sdp_elements.specs.Elements.{plain, left_of}
use Rattle.sdp_elements.proofs.WalkLaws.{walked, walk_over}
use Rattle.sdp_server.specs.Ranges.{plain_range}
use Rattle.sdp_server.specs.Requests.{range_of, range_in}
use Rattle.sdp_server.proofs.Lists.{range-of_tree, judges_on, judges_no, judges_yes, none_there, some_there}
use Rattle.sdp_server.proofs.list.are_ranges.Goals as goal

pub returns-then-is_none : goal.returns-then-is_none
returns-then-is_none c = λ trees s.
    let old = left_of c.loop-part.left in
    let new = left_of c.next.new.self in
    let element = plain c.in-Some.part in
    let j = c.loop-part.invariant trees s in
    let w = walked j.rest element old new c.in-Some.ensures.found c.in-Some.ensures.parts j.spelled in
    sym (judges_no range_of trees old new element j w (none_there plain_range c.range_of.result (range_of w.first) (range_in element) c.is_none.result c.is_none.ensures c.if-is_none.true c.range_of.ensures (range-of_tree element w.first w.stands)))

pub loop-part-preserved : goal.loop-part-preserved
loop-part-preserved c = λ trees s.
    let old = left_of c.loop-part.left in
    let new = left_of c.next.new.self in
    let element = plain c.in-Some.part in
    let j = c.loop-part.invariant trees s in
    let w = walked j.rest element old new c.in-Some.ensures.found c.in-Some.ensures.parts j.spelled in
    judges_on range_of trees old new element j w (some_there plain_range c.range_of.result (range_of w.first) (range_in element) c.is_none.result c.is_none.ensures c.if-is_none.false c.range_of.ensures (range-of_tree element w.first w.stands))

pub returns : goal.returns
returns c = λ trees s.
    let j = c.loop-part.invariant trees s in
    sym (judges_yes range_of trees (left_of c.loop-part.left) j (walk_over j.rest (left_of c.loop-part.left) (left_of c.next.new.self) c.in_default.ensures.parts j.spelled))
