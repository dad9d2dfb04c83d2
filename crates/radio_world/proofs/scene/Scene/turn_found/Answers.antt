use Rattle.std.proofs.Common.{[], ◌∷◌, inl, inr, refl, ◌∙◌, arith}
use Rattle.radio_world.specs.Shortages.{ShelfLacked, InboxLacked, WordsFull}
use Rattle.radio_world.proofs.Wanting.{any_err, lacks_for, lacks_on}
use Rattle.radio_world.proofs.Reasons.{wants_behind}
use Rattle.radio_world.specs.Scenes.{stage}
use Rattle.radio_world.proofs.Advancing.{advances_none, advances_then}
use Rattle.radio_world.proofs.Standing.{at_rest, reached_then, stands_quiet, stands_then}
use Rattle.radio_world.proofs.Broken.{advances_no_more, broken_then}
use Rattle.radio_world.proofs.scene.Scene.turn_found.Goals as goal

pub do_word-requires-clause-rest : goal.do_word-requires-clause-rest
do_word-requires-clause-rest g c =
    let one = g.A.Host in
    let two = g.B.Host in
    at_rest one.machine two.machine c.args.self.now (one.station c.args.a.now c.args.shelf.now) (two.station c.args.b.now c.args.inbox.now) c.requires.orderly c.requires.stands

pub do_word-requires-clause-quiet : goal.do_word-requires-clause-quiet
do_word-requires-clause-quiet g c =
    let one = g.A.Host in
    let two = g.B.Host in
    stands_quiet one.machine two.machine c.args.self.now (one.station c.args.a.now c.args.shelf.now) (two.station c.args.b.now c.args.inbox.now) c.requires.stands

pub do_word-requires-clause-few : goal.do_word-requires-clause-few
do_word-requires-clause-few g c = c.is_count_full.ensures.room c.if-is_count_full.false

pub settle-requires-clause-none_held : goal.settle-requires-clause-none_held
settle-requires-clause-none_held g c = (c.in_ok-do_word.ensures.held.0 ∙ c.requires.none_held.0, c.in_ok-do_word.ensures.held.1 ∙ c.requires.none_held.1)

pub settle-requires-clause-reached : goal.settle-requires-clause-reached
settle-requires-clause-reached g c =
    let one = g.A.Host in
    let two = g.B.Host in
    reached_then one.machine two.machine one.answers two.answers (c.args.word ∷ []) _ _ c.in_ok-do_word.ensures.advances c.requires.stands.reached

pub returns-clause-advances : goal.returns-clause-advances
returns-clause-advances g c =
    let one = g.A.Host in
    let two = g.B.Host in
    advances_then one.machine two.machine one.answers two.answers (c.args.word ∷ []) [] _ _ _ g.met.A.Host.joins g.met.B.Host.joins c.in_ok-do_word.ensures.advances c.in_ok-settle.ensures.advances

pub returns-clause-stands : goal.returns-clause-stands
returns-clause-stands g c =
    let one = g.A.Host in
    let two = g.B.Host in
    let content = g.T.Sink.content in
    stands_then one.machine two.machine one.answers two.answers (c.args.word ∷ []) c.args.self.now c.settle.new.self (one.station c.args.a.now c.args.shelf.now) (one.station c.settle.new.a c.settle.new.shelf) (two.station c.args.b.now c.args.inbox.now) (two.station c.settle.new.b c.settle.new.inbox)
    c.args.shelf.now c.settle.new.shelf c.args.inbox.now c.settle.new.inbox (content c.args.trace.now) (content c.settle.new.trace)
    (advances_then one.machine two.machine one.answers two.answers (c.args.word ∷ []) [] _ _ _ g.met.A.Host.joins g.met.B.Host.joins c.in_ok-do_word.ensures.advances c.in_ok-settle.ensures.advances)
    c.requires.stands.reached c.in_ok-settle.ensures.settled

pub returns-then-is_count_full-clause-lacks : goal.returns-then-is_count_full-clause-lacks
returns-then-is_count_full-clause-lacks g c = lacks_for _ _ _ _ (omega arith) (WordsFull (omega (arith, c.is_count_full.ensures.full c.if-is_count_full.true)))

pub returns-in_err-do_word-clause-lacks : goal.returns-in_err-do_word-clause-lacks
returns-in_err-do_word-clause-lacks g c =
    lacks_on _ _ _ _ _ c.do_word.result c.from_residual.result c.in_err-do_word.field-0.0 c.from_residual.ensures.1 c.in_err-do_word.was (omega arith)
    (λ cause. elim cause [ inl shelf ↦ ShelfLacked shelf | inr inbox ↦ InboxLacked inbox ]) c.do_word.ensures.lacks

pub returns-in_err-settle-clause-lacks : goal.returns-in_err-settle-clause-lacks
returns-in_err-settle-clause-lacks g c =
    let one = g.A.Host in
    let two = g.B.Host in
    lacks_on _ _ _ _ _ c.settle.result c.from_residual-in_err-settle.result c.in_err-settle.field-0.0 c.from_residual-in_err-settle.ensures.1 c.in_err-settle.was c.do_word.ensures.lacks.stays
    (λ cause. wants_behind one.machine two.machine one.answers two.answers one.lacked two.lacked (c.args.word ∷ []) (c.args.word ∷ []) [] [] _ _ _ _ _ g.met.A.Host.joins g.met.B.Host.joins g.met.A.Host.lacks g.met.B.Host.lacks refl
    c.in_ok-do_word.ensures.advances cause) c.settle.ensures.lacks

pub returns-then-is_count_full-clause-breaks : goal.returns-then-is_count_full-clause-breaks
returns-then-is_count_full-clause-breaks g c =
    let one = g.A.Host in
    let two = g.B.Host in
    let content = g.T.Sink.content in
    let first = stage c.args.self.now (one.station c.args.a.now c.args.shelf.now) (two.station c.args.b.now c.args.inbox.now) c.args.shelf.now c.args.inbox.now (content c.args.trace.now) in
    advances_no_more one.machine two.machine one.answers two.answers one.lacked two.lacked two.station g.met.A.Host.joins g.met.B.Host.joins (c.args.word ∷ []) [] (c.args.word ∷ []) first first refl
    (advances_none one.machine two.machine one.answers two.answers first g.met.A.Host.joins g.met.B.Host.joins) (c.args.b.now, refl)

pub returns-in_err-settle-clause-breaks : goal.returns-in_err-settle-clause-breaks
returns-in_err-settle-clause-breaks g c =
    let one = g.A.Host in
    let two = g.B.Host in
    any_err c.from_residual-in_err-settle.result
    (broken_then one.machine two.machine one.answers two.answers one.lacked two.lacked two.station g.met.A.Host.joins g.met.B.Host.joins (c.args.word ∷ []) (c.args.word ∷ []) [] [] _ _ _ _ _ refl c.in_ok-do_word.ensures.advances c.in_err-settle.ensures.breaks)
