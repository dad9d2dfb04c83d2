use Rattle.std.proofs.Common.{Option, sym, ap, refl, ◌∙◌}
use Rattle.sdp_elements.specs.declared.target.Target.{Target}
use Rattle.sdp_elements.specs.Elements.{plain, left_of}
use Rattle.sdp_elements.specs.Optional.{◌>>=◌}
use Rattle.sdp_elements.proofs.WalkLaws.{walked, walk_over}
use Rattle.sdp_client.specs.Reading.{records_target}
use Rattle.sdp_client.proofs.Walks.{behind, finds_all, finds_on, finds_none, finds_over, service_found}
use Rattle.sdp_client.proofs.reading.records_target.Goals as goal

pub loop-service-init : goal.loop-service-init
loop-service-init c = λ trees s. finds_all records_target trees (left_of c.args.records) s

pub returns-in_default-service_target : goal.returns-in_default-service_target
returns-in_default-service_target c = λ trees s.
    let old = left_of c.loop-service.left in
    let new = left_of c.next.new.self in
    let k = c.loop-service.invariant trees s in
    let w = walked k.rest (plain c.in-Some.service) old new c.in-Some.ensures.found c.in-Some.ensures.parts k.spelled in
    let none = sym (c.service_target.ensures w.first w.stands) ∙ c.in_default-service_target.is in
    sym (finds_none records_target trees c.loop-service.target old k
    (ap records_target w.rest_is ∙ service_found w.first w.others ∙ ap (λ (o : Option Target). o >>= λ t. behind t (records_target w.others)) none))

pub loop-service-preserved : goal.loop-service-preserved
loop-service-preserved c = λ trees s.
    let old = left_of c.loop-service.left in
    let new = left_of c.next.new.self in
    let k = c.loop-service.invariant trees s in
    let w = walked k.rest (plain c.in-Some.service) old new c.in-Some.ensures.found c.in-Some.ensures.parts k.spelled in
    let named = sym (c.in-Some-service_target.ensures w.first w.stands) in
    finds_on records_target trees c.loop-service.target c.in-Some-service_target.named c.first_of-target.result old new k w.others w.spelled
    (ap records_target w.rest_is ∙ service_found w.first w.others ∙ ap (λ (o : Option Target). o >>= λ t. behind t (records_target w.others)) named)
    c.first_of-target.ensures

pub returns : goal.returns
returns c = λ trees s.
    let k = c.loop-service.invariant trees s in
    sym (finds_over records_target trees c.loop-service.target (left_of c.loop-service.left) k (walk_over k.rest (left_of c.loop-service.left) (left_of c.next.new.self) c.in_default.ensures.parts k.spelled) refl)
