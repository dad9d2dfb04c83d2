use Rattle.std.proofs.Common.{◌&&◌, ◌∙◌}
use Rattle.std.proofs.lemmas.Bool.{or_left, or_from, and_left, and_right}
use Rattle.obex_headers.specs.Reader.{plain_headers}
use Rattle.obex_headers.specs.Runs.{breaks, lacks}
use Rattle.obex_headers.proofs.ReaderLaws.{gather, breaks_same, lacks_same, object_is}
use Rattle.obex_headers.proofs.runs.judge.Goals as goal

pub returns-then-breaks_rules : goal.returns-then-breaks_rules
returns-then-breaks_rules c =
    let hs = plain_headers c.args.headers.now in
    let g = gather hs c.in_ok-names.names.items c.in_ok-bodies.bodies.items c.deref.result.now c.deref-2.result.now c.has_body_ahead.result c.in_ok-join.field-0.items c.in_ok-join-2.field-0.items
    c.deref.ensures.value c.deref-2.ensures.value c.in_ok-names.ensures c.in_ok-bodies.ensures c.has_body_ahead.ensures c.in_ok-join.ensures c.in_ok-join-2.ensures in
    let broken = breaks_same hs c.in_ok-names.names.items c.in_ok-bodies.bodies.items c.deref-3.result.now c.has_body_ahead.result c.in_ok-join.field-0.items c.in_ok-join-2.field-0.items c.deref-4.result.now c.breaks_rules.result
    g c.deref-3.ensures.value c.deref-4.ensures.value c.breaks_rules.ensures in
    or_left (breaks hs) (c.args.ends && lacks hs) (broken ∙ c.if-breaks_rules.true)

pub returns-then-not-ends : goal.returns-then-not-ends
returns-then-not-ends c =
    let hs = plain_headers c.args.headers.now in
    let g = gather hs c.in_ok-names.names.items c.in_ok-bodies.bodies.items c.deref.result.now c.deref-2.result.now c.has_body_ahead.result c.in_ok-join.field-0.items c.in_ok-join-2.field-0.items
    c.deref.ensures.value c.deref-2.ensures.value c.in_ok-names.ensures c.in_ok-bodies.ensures c.has_body_ahead.ensures c.in_ok-join.ensures c.in_ok-join-2.ensures in
    let broken = breaks_same hs c.in_ok-names.names.items c.in_ok-bodies.bodies.items c.deref-3.result.now c.has_body_ahead.result c.in_ok-join.field-0.items c.in_ok-join-2.field-0.items c.deref-4.result.now c.breaks_rules.result
    g c.deref-3.ensures.value c.deref-4.ensures.value c.breaks_rules.ensures in
    (or_from (breaks hs) (c.args.ends && lacks hs) (broken ∙ c.if-breaks_rules.false) (and_left c.args.ends (lacks hs) c.if-not-ends.true), c.if-not-ends.true)

pub returns : goal.returns
returns c =
    let hs = plain_headers c.args.headers.now in
    let g = gather hs c.in_ok-names.names.items c.in_ok-bodies.bodies.items c.deref.result.now c.deref-2.result.now c.has_body_ahead.result c.in_ok-join.field-0.items c.in_ok-join-2.field-0.items
    c.deref.ensures.value c.deref-2.ensures.value c.in_ok-names.ensures c.in_ok-bodies.ensures c.has_body_ahead.ensures c.in_ok-join.ensures c.in_ok-join-2.ensures in
    let broken = breaks_same hs c.in_ok-names.names.items c.in_ok-bodies.bodies.items c.deref-3.result.now c.has_body_ahead.result c.in_ok-join.field-0.items c.in_ok-join-2.field-0.items c.deref-4.result.now c.breaks_rules.result
    g c.deref-3.ensures.value c.deref-4.ensures.value c.breaks_rules.ensures in
    let lacking = lacks_same hs c.in_ok-names.names.items c.in_ok-bodies.bodies.items c.deref-5.result.now c.deref-6.result.now c.has_body_ahead.result c.in_ok-join.field-0.items c.in_ok-join-2.field-0.items c.lacks.result
    g c.deref-5.ensures.value c.deref-6.ensures.value c.lacks.ensures in (
      or_from (breaks hs) (c.args.ends && lacks hs) (broken ∙ c.if-breaks_rules.false) (and_right c.args.ends (lacks hs) (lacking ∙ c.if-lacks.false)),
      c.if-not-ends.false,
      object_is hs c.in_ok-names.names.items c.in_ok-bodies.bodies.items c.has_body_ahead.result c.in_ok-join.field-0.items c.in_ok-join-2.field-0.items g,
    )
