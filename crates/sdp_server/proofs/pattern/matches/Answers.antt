use Rattle.std.proofs.Common.{ℕ, List, sym, ◌∙◌}
use Rattle.sdp_elements.specs.Elements.{plain, left_of}
use Rattle.sdp_elements.specs.Records.{has_identifier, matches, service_record}
use Rattle.sdp_elements.proofs.WalkLaws.{walked, walk_over}
use Rattle.sdp_server.specs.Requests.{uuid_of, uuid_in}
use Rattle.sdp_server.proofs.Lists.{uuid-of_tree, asks_next, asks_on, asks_over, tested, all_not_here, all_later}
use Rattle.sdp_server.proofs.pattern.matches.Goals as goal

pub returns-then-not-is_found : goal.returns-then-not-is_found
returns-then-not-is_found c = λ identifiers s.
    let old = left_of c.loop-part.left in
    let new = left_of c.next.new.self in
    let element = plain c.in-Some.part in
    let served = service_record c.args.serves in
    let a = c.loop-part.invariant identifiers s in
    let w = walked a.rest element old new c.in-Some.ensures.found c.in-Some.ensures.parts a.spelled in
    let n = asks_next uuid_of (λ (ids : List (List ℕ)). matches ids served) identifiers old new element a w in
    let here = tested (has_identifier served) (uuid_of w.first) (uuid_in element) n.found c.is_found.result c.is_found.ensures (uuid-of_tree element w.first w.stands) n.first_is in
    sym (n.same ∙ all_not_here (has_identifier served n.found) (matches n.more served) (sym here ∙ c.if-not-is_found.true))

pub loop-part-preserved : goal.loop-part-preserved
loop-part-preserved c = λ identifiers s.
    let old = left_of c.loop-part.left in
    let new = left_of c.next.new.self in
    let element = plain c.in-Some.part in
    let served = service_record c.args.serves in
    let a = c.loop-part.invariant identifiers s in
    let w = walked a.rest element old new c.in-Some.ensures.found c.in-Some.ensures.parts a.spelled in
    let n = asks_next uuid_of (λ (ids : List (List ℕ)). matches ids served) identifiers old new element a w in
    let here = tested (has_identifier served) (uuid_of w.first) (uuid_in element) n.found c.is_found.result c.is_found.ensures (uuid-of_tree element w.first w.stands) n.first_is in
    asks_on uuid_of (λ (ids : List (List ℕ)). matches ids served) identifiers w.first new n (all_later (has_identifier served n.found) (matches n.more served) (sym here ∙ c.if-not-is_found.false))

pub returns : goal.returns
returns c = λ identifiers s.
    let a = c.loop-part.invariant identifiers s in
    sym (asks_over uuid_of (λ (ids : List (List ℕ)). matches ids (service_record c.args.serves)) identifiers (left_of c.loop-part.left) a (walk_over a.rest (left_of c.loop-part.left) (left_of c.next.new.self) c.in_default.ensures.parts a.spelled))
