use Rattle.std.proofs.Common.{sym, ap, refl, ◌∙◌}
use Rattle.sdp_elements.specs.Elements.{plain, left_of, Then}
use Rattle.sdp_elements.proofs.WalkLaws.{walked, walk_over}
use Rattle.sdp_client.specs.Reading.{target_or, target_by, record_target}
use Rattle.sdp_client.proofs.Walks.{number-of_tree, finds_all, finds_on, finds_none, finds_over, pair_found}
use Rattle.sdp_client.proofs.reading.record_target.Goals as goal

pub loop-first-init : goal.loop-first-init
loop-first-init c = λ trees s. finds_all record_target trees (left_of c.args.attributes) s

pub returns-in_default-next : goal.returns-in_default-next
returns-in_default-next c = λ trees s.
    let old = left_of c.loop-first.left in
    let mid = left_of c.next.new.self in
    let k = c.loop-first.invariant trees s in
    let w = walked k.rest (plain c.in-Some.first) old mid c.in-Some.ensures.found c.in-Some.ensures.parts k.spelled in
    let over = walk_over w.others mid (left_of c.next-in-Some.new.self) c.in_default-next.ensures.parts w.spelled in
    sym (finds_none record_target trees c.loop-first.target old k (ap record_target (w.rest_is ∙ ap (Then w.first) over)))

pub loop-first-preserved : goal.loop-first-preserved
loop-first-preserved c = λ trees s.
    let old = left_of c.loop-first.left in
    let mid = left_of c.next.new.self in
    let new = left_of c.next-in-Some.new.self in
    let k = c.loop-first.invariant trees s in
    let w = walked k.rest (plain c.in-Some.first) old mid c.in-Some.ensures.found c.in-Some.ensures.parts k.spelled in
    let v = walked w.others (plain c.in-Some-next.value) mid new c.in-Some-next.ensures.found c.in-Some-next.ensures.parts w.spelled in
    let identifier = c.in_ok-identifier.identifier in
    let named = number-of_tree 2 (plain c.in-Some.first) w.first w.stands ∙ sym c.in_ok-identifier.ensures in
    finds_on record_target trees c.loop-first.target (target_by identifier v.first) c.first_of-target.result old new k v.others v.spelled
    (ap record_target (w.rest_is ∙ ap (Then w.first) v.rest_is) ∙ pair_found w.first v.first v.others identifier named)
    (c.first_of-target.ensures ∙ ap (target_or c.loop-first.target) (c.attribute_target.ensures v.first v.stands))

pub returns : goal.returns
returns c = λ trees s.
    let k = c.loop-first.invariant trees s in
    sym (finds_over record_target trees c.loop-first.target (left_of c.loop-first.left) k (walk_over k.rest (left_of c.loop-first.left) (left_of c.next.new.self) c.in_default.ensures.parts k.spelled) refl)
