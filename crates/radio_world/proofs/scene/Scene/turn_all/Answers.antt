use Rattle.std.proofs.Common.{List, ◌+◌, take, drop, replicate, sym, subst, ◌∙◌, arith}
use Rattle.radio_world.proofs.Wanting.{any_err, lacks_on}
use Rattle.radio_world.proofs.Reasons.{wants_behind}
use Rattle.push_terms.specs.declared.word.Word.{Word}
use Rattle.capture.specs.Air.{words_of}
use Rattle.radio_world.specs.Scenes.{stage, Advances}
use Rattle.radio_world.proofs.Advancing.{advances_none, advances_then}
use Rattle.radio_world.proofs.Runs.{run_more, runs_behind, none_beyond, word_at}
use Rattle.radio_world.proofs.Broken.{broken_then}
use Rattle.radio_world.proofs.scene.Scene.turn_all.Goals as goal

pub loop-i-init : goal.loop-i-init
loop-i-init g c =
    let one = g.A.Host in
    let two = g.B.Host in
    (advances_none one.machine two.machine one.answers two.answers _ g.met.A.Host.joins g.met.B.Host.joins, c.requires.stands, c.requires.none_held, c.requires.sound, omega arith, omega arith)

pub unreachable-requires : goal.unreachable-requires
unreachable-requires g c = none_beyond c.args.script.now c.loop-i.i c.len-i-end.result c.len-i-end.ensures.count c.loop-i-test.true (sym c.at.ensures ∙ c.in_default.is)

pub turn_times-requires-clause-word : goal.turn_times-requires-clause-word
turn_times-requires-clause-word g c = word_at c.args.script.now c.loop-i.i c.in-Some.count c.in-Some.word c.len-i-end.ensures.runs (sym c.at.ensures ∙ c.in-Some.is)

pub loop-i-preserved : goal.loop-i-preserved
loop-i-preserved g c =
    let one = g.A.Host in
    let two = g.B.Host in
    let content = g.T.Sink.content in (
      subst (λ (words : List Word). Advances one.machine two.machine one.answers two.answers words (stage c.args.self.now (one.station c.args.a.now c.args.shelf.now) (two.station c.args.b.now c.args.inbox.now) c.args.shelf.now c.args.inbox.now (content c.args.trace.now))
          (stage c.turn_times.new.self (one.station c.turn_times.new.a c.turn_times.new.shelf) (two.station c.turn_times.new.b c.turn_times.new.inbox) c.turn_times.new.shelf c.turn_times.new.inbox (content c.turn_times.new.trace)))
          (run_more c.args.script.now c.loop-i.i c.in-Some.count c.in-Some.word (sym c.at.ensures ∙ c.in-Some.is))
          (advances_then one.machine two.machine one.answers two.answers (words_of (take c.loop-i.i c.args.script.now)) (replicate c.in-Some.count c.in-Some.word) _ _ _ g.met.A.Host.joins g.met.B.Host.joins c.loop-i.invariant.0 c.in_ok-turn_times.ensures.turns),
      c.in_ok-turn_times.ensures.stands,
      c.in_ok-turn_times.ensures.none_held,
      c.in_ok-turn_times.ensures.sound,
      omega (arith, c.loop-i.invariant.4, c.turn_times.ensures.blames.stays),
      omega (arith, c.loop-i.invariant.5, c.turn_times.ensures.lacks.stays),
    )

pub returns-in_err-turn_times-clause-lacks : goal.returns-in_err-turn_times-clause-lacks
returns-in_err-turn_times-clause-lacks g c =
    let one = g.A.Host in
    let two = g.B.Host in
    lacks_on _ _ _ _ _ c.turn_times.result c.from_residual.result c.in_err-turn_times.field-0.0 c.from_residual.ensures.1 c.in_err-turn_times.was c.loop-i.invariant.5
    (λ cause. wants_behind one.machine two.machine one.answers two.answers one.lacked two.lacked (words_of c.args.script.now) (words_of (take c.loop-i.i c.args.script.now)) (replicate c.in-Some.count c.in-Some.word) (words_of (drop (c.loop-i.i + 1) c.args.script.now)) _ _ _ _ _
    g.met.A.Host.joins g.met.B.Host.joins g.met.A.Host.lacks g.met.B.Host.lacks (runs_behind c.args.script.now c.loop-i.i c.in-Some.count c.in-Some.word (sym c.at.ensures ∙ c.in-Some.is)) c.loop-i.invariant.0 cause) c.turn_times.ensures.lacks

pub returns-in_err-turn_times-clause-breaks : goal.returns-in_err-turn_times-clause-breaks
returns-in_err-turn_times-clause-breaks g c =
    let one = g.A.Host in
    let two = g.B.Host in
    any_err c.from_residual.result
    (broken_then one.machine two.machine one.answers two.answers one.lacked two.lacked two.station g.met.A.Host.joins g.met.B.Host.joins (words_of c.args.script.now) (words_of (take c.loop-i.i c.args.script.now)) (replicate c.in-Some.count c.in-Some.word) (words_of (drop (c.loop-i.i + 1) c.args.script.now)) _ _ _ _ _
    (runs_behind c.args.script.now c.loop-i.i c.in-Some.count c.in-Some.word (sym c.at.ensures ∙ c.in-Some.is)) c.loop-i.invariant.0 c.in_err-turn_times.ensures.breaks)
