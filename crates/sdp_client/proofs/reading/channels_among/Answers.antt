use Rattle.std.proofs.Common.{sym, ap, ◌∙◌}
use Rattle.std.specs.Prelude.{is_some}
use Rattle.sdp_elements.specs.Elements.{plain, left_of}
use Rattle.sdp_elements.specs.Targets.{channels_among}
use Rattle.sdp_elements.proofs.WalkLaws.{walked, walk_over}
use Rattle.sdp_client.proofs.Walks.{seeks_on, seeks_found}
use Rattle.sdp_client.proofs.reading.channels_among.Goals as goal

pub returns-then-is_some : goal.returns-then-is_some
returns-then-is_some c = λ trees s.
    let old = left_of c.loop-protocol.left in
    let new = left_of c.next.new.self in
    let element = plain c.in-Some.protocol in
    let k = c.loop-protocol.invariant trees s in
    let w = walked k.rest element old new c.in-Some.ensures.found c.in-Some.ensures.parts k.spelled in
    seeks_found trees old new element k w c.channel_of-channel.result (c.channel_of-channel.ensures w.first w.stands) (sym c.is_some.ensures ∙ c.if-is_some.true)

pub loop-protocol-preserved : goal.loop-protocol-preserved
loop-protocol-preserved c = λ trees s.
    let old = left_of c.loop-protocol.left in
    let new = left_of c.next.new.self in
    let element = plain c.in-Some.protocol in
    let k = c.loop-protocol.invariant trees s in
    let w = walked k.rest element old new c.in-Some.ensures.found c.in-Some.ensures.parts k.spelled in
    seeks_on trees old new element k w (ap is_some (sym (c.channel_of-channel.ensures w.first w.stands)) ∙ sym c.is_some.ensures ∙ c.if-is_some.false)

pub returns : goal.returns
returns c = λ trees s.
    let k = c.loop-protocol.invariant trees s in
    sym (k.same ∙ ap channels_among (walk_over k.rest (left_of c.loop-protocol.left) (left_of c.next.new.self) c.in_default.ensures.parts k.spelled))
