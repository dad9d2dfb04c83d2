use Rattle.std.proofs.Common.{◌∙◌, Ok, Result, Bool, subst, ap}
use Rattle.three_wire.specs.declared.fault.CarryFault.{CarryFault}
use Rattle.three_wire.specs.Feeding.{ReadsMore}
use Rattle.three_wire.proofs.Feeding.{refused_so, port_stops}
use Rattle.three_wire.proofs.feed.Feed.next.Goals as goal

pub returns-in-Refused-clause-feeds : goal.returns-in-Refused-clause-feeds
returns-in-Refused-clause-feeds g c = λ input packets f.
    let t = c.in-Refused.ensures.takes input (g.S.Source.content c.reading.source) packets (c.reading.invariant.feeds input packets f) in
    refused_so input packets c.in-Refused.refusal c.in-Refused.place t.0 t.1

pub returns-in-Ok-ending-clause-feeds : goal.returns-in-Ok-ending-clause-feeds
returns-in-Ok-ending-clause-feeds g c = λ input packets f.
    let t = c.in-Nothing.ensures.takes input (g.S.Source.content c.reading.source) packets (c.reading.invariant.feeds input packets f) in
    let r = subst (λ (r : Result Bool CarryFault). ReadsMore input (g.S.Source.content c.read_more.new.source) c.take_next.new.self c.read_more.new.self packets r) (c.in-Ok-false.is ∙ ap Ok c.in-Ok-false.field-0-test) (c.read_more.ensures.reads input packets t.0 t.1) in
    (c.in-Ok-ending.ensures.ends input (g.S.Source.content c.read_more.new.source) packets r.0 r.1 r.2, r.2)

pub returns-in-Err-ending-clause-feeds : goal.returns-in-Err-ending-clause-feeds
returns-in-Err-ending-clause-feeds g c = λ input packets f.
    let t = c.in-Nothing.ensures.takes input (g.S.Source.content c.reading.source) packets (c.reading.invariant.feeds input packets f) in
    let r = subst (λ (r : Result Bool CarryFault). ReadsMore input (g.S.Source.content c.read_more.new.source) c.take_next.new.self c.read_more.new.self packets r) (c.in-Ok-false.is ∙ ap Ok c.in-Ok-false.field-0-test) (c.read_more.ensures.reads input packets t.0 t.1) in
    c.in-Err-ending.ensures.ends input (g.S.Source.content c.read_more.new.source) packets r.0 r.1 r.2

pub returns-in-Err-read_more-clause-feeds : goal.returns-in-Err-read_more-clause-feeds
returns-in-Err-read_more-clause-feeds g c = λ input packets f. port_stops input packets c.in-Err-read_more.fault c.in-Err-read_more.ensures.of_port
