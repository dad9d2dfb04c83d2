use Rattle.std.proofs.Common.{sym, ◌∙◌}
use Rattle.sdp_elements.specs.Elements.{plain, left_of}
use Rattle.sdp_elements.proofs.WalkLaws.{walked}
use Rattle.sdp_client.proofs.Walks.{rfcomm-of_tree, no_channel, channel_here}
use Rattle.sdp_client.proofs.reading.channel_among.Goals as goal

pub returns-then-not-is_rfcomm : goal.returns-then-not-is_rfcomm
returns-then-not-is_rfcomm c = λ trees s.
    let old = left_of c.args.parts in
    let mid = left_of c.next.new.self in
    let new = left_of c.next-2.new.self in
    let w = walked trees (plain c.in-Some.protocol) old mid c.in-Some.ensures.found c.in-Some.ensures.parts s in
    let v = walked w.others (plain c.in-Some-next.number) mid new c.in-Some-next.ensures.found c.in-Some-next.ensures.parts w.spelled in
    sym (no_channel trees w.first w.others v.first v.others w.rest_is v.rest_is (rfcomm-of_tree (plain c.in-Some.protocol) w.first w.stands ∙ sym c.is_rfcomm.ensures ∙ c.if-not-is_rfcomm.true))

pub returns : goal.returns
returns c = λ trees s.
    let old = left_of c.args.parts in
    let mid = left_of c.next.new.self in
    let new = left_of c.next-2.new.self in
    let w = walked trees (plain c.in-Some.protocol) old mid c.in-Some.ensures.found c.in-Some.ensures.parts s in
    let v = walked w.others (plain c.in-Some-next.number) mid new c.in-Some-next.ensures.found c.in-Some-next.ensures.parts w.spelled in
    c.server_channel.ensures
    ∙ sym (channel_here trees w.first w.others v.first v.others (plain c.in-Some-next.number) w.rest_is v.rest_is (rfcomm-of_tree (plain c.in-Some.protocol) w.first w.stands ∙ sym c.is_rfcomm.ensures ∙ c.if-not-is_rfcomm.false) v.stands)
