use Rattle.std.proofs.Common.{sym, arith}
use Rattle.sdp_elements.specs.Elements.{plain, left_of}
use Rattle.sdp_elements.proofs.WalkLaws.{walked, walk_over}
use Rattle.sdp_server.specs.Requests.{uuid_of, uuid_in}
use Rattle.sdp_server.proofs.Lists.{uuid-of_tree, mapped, none_there, some_there}
use Rattle.sdp_server.proofs.Patterns.{counts_on, counts_no, counts_full, counts_over}
use Rattle.sdp_server.proofs.pattern.is_pattern.Goals as goal

pub returns-then-is_none : goal.returns-then-is_none
returns-then-is_none c = λ trees s.
    let old = left_of c.loop-part.left in
    let new = left_of c.next.new.self in
    let element = plain c.in-Some.part in
    let k = c.loop-part.invariant.counts trees s in
    let w = walked k.rest element old new c.in-Some.ensures.found c.in-Some.ensures.parts k.spelled in
    sym (counts_no trees c.loop-part.count old new element k w
    (none_there (λ x. x) c.uuid_of.result (uuid_of w.first) (uuid_in element) c.is_none.result c.is_none.ensures c.if-is_none.true (mapped c.uuid_of.result (uuid_in element) c.uuid_of.ensures) (uuid-of_tree element w.first w.stands)))

pub returns-then-count-eq-MOST_IDENTIFIERS : goal.returns-then-count-eq-MOST_IDENTIFIERS
returns-then-count-eq-MOST_IDENTIFIERS c = λ trees s.
    let old = left_of c.loop-part.left in
    let new = left_of c.next.new.self in
    let element = plain c.in-Some.part in
    let k = c.loop-part.invariant.counts trees s in
    let w = walked k.rest element old new c.in-Some.ensures.found c.in-Some.ensures.parts k.spelled in
    sym (counts_full trees c.loop-part.count old new element k w
    (some_there (λ x. x) c.uuid_of.result (uuid_of w.first) (uuid_in element) c.is_none.result c.is_none.ensures c.if-is_none.false (mapped c.uuid_of.result (uuid_in element) c.uuid_of.ensures) (uuid-of_tree element w.first w.stands))
    c.if-count-eq-MOST_IDENTIFIERS.true)

pub loop-part-preserved : goal.loop-part-preserved
loop-part-preserved c = record {
  counts = λ trees s.
      let old = left_of c.loop-part.left in
      let new = left_of c.next.new.self in
      let element = plain c.in-Some.part in
      let k = c.loop-part.invariant.counts trees s in
      let w = walked k.rest element old new c.in-Some.ensures.found c.in-Some.ensures.parts k.spelled in
      counts_on trees c.loop-part.count old new element k w
      (some_there (λ x. x) c.uuid_of.result (uuid_of w.first) (uuid_in element) c.is_none.result c.is_none.ensures c.if-is_none.false (mapped c.uuid_of.result (uuid_in element) c.uuid_of.ensures) (uuid-of_tree element w.first w.stands));
  within = omega arith;
}

pub returns : goal.returns
returns c = λ trees s.
    let k = c.loop-part.invariant.counts trees s in
    sym (counts_over trees c.loop-part.count (left_of c.loop-part.left) k (walk_over k.rest (left_of c.loop-part.left) (left_of c.next.new.self) c.in_default.ensures.parts k.spelled) c.loop-part.invariant.within)
