use Rattle.std.proofs.Common.{rules, ℕ, ◌≡◌, ◌<◌, ◌+◌, ◌-◌, List, [], ◌∷◌, ◌++◌, length, replicate, refl, sym, ap, subst, ◌∙◌, arith}
use Rattle.std.proofs.lemmas.List.{append-nil, length-replicate}
use Rattle.radio_world.specs.Shortages.{WordsFull}
use Rattle.radio_world.proofs.Wanting.{any_err, lacks_for, lacks_on}
use Rattle.radio_world.proofs.Reasons.{wants_behind}
use Rattle.push_terms.specs.declared.word.Word.{Word}
use Rattle.radio_world.specs.Scenes.{stage, Advances}
use Rattle.radio_world.proofs.Advancing.{advances_none, advances_then}
use Rattle.radio_world.proofs.Runs.{once_more, times_and_one, times_and_rest}
use Rattle.radio_world.proofs.Standing.{at_rest, stands_quiet, reached_then, misses_advance, misses_stand}
use Rattle.radio_world.proofs.Broken.{advances_no_more, broken_then}
use Rattle.radio_world.proofs.scene.Scene.turn_times.Goals as goal

pub loop-done-init : goal.loop-done-init
loop-done-init g c =
    let one = g.A.Host in
    let two = g.B.Host in
    (advances_none one.machine two.machine one.answers two.answers _ g.met.A.Host.joins g.met.B.Host.joins, c.requires.stands, c.requires.none_held, c.requires.sound, omega arith, omega arith)

pub finds-requires : goal.finds-requires
finds-requires g c =
    let one = g.A.Host in
    let two = g.B.Host in
    stands_quiet one.machine two.machine c.loop-done.self (one.station c.loop-done.a c.loop-done.shelf) (two.station c.loop-done.b c.loop-done.inbox) c.loop-done.invariant.1

pub turn_found-requires-clause-finds : goal.turn_found-requires-clause-finds
turn_found-requires-clause-finds g c = λ rest_a rest_b. sym (c.finds.ensures c.loop-done.shelf c.loop-done.inbox rest_a rest_b) ∙ c.if-not-finds.false

pub loop-done-preserved : goal.loop-done-preserved
loop-done-preserved g c =
    let one = g.A.Host in
    let two = g.B.Host in
    let content = g.T.Sink.content in (
      subst (λ (words : List Word). Advances one.machine two.machine one.answers two.answers words (stage c.args.self.now (one.station c.args.a.now c.args.shelf.now) (two.station c.args.b.now c.args.inbox.now) c.args.shelf.now c.args.inbox.now (content c.args.trace.now))
          (stage c.turn_found.new.self (one.station c.turn_found.new.a c.turn_found.new.shelf) (two.station c.turn_found.new.b c.turn_found.new.inbox) c.turn_found.new.shelf c.turn_found.new.inbox (content c.turn_found.new.trace))) (once_more c.loop-done.done c.args.word)
          (advances_then one.machine two.machine one.answers two.answers (replicate c.loop-done.done c.args.word) (c.args.word ∷ []) _ _ _ g.met.A.Host.joins g.met.B.Host.joins c.loop-done.invariant.0 c.in_ok-turn_found.ensures.advances),
      c.in_ok-turn_found.ensures.stands,
      c.in_ok-turn_found.ensures.none_held,
      c.in_ok-turn_found.ensures.sound,
      omega (arith, c.loop-done.invariant.4, c.turn_found.ensures.blames.stays),
      omega (arith, c.loop-done.invariant.5, c.turn_found.ensures.lacks.stays),
    )

pub returns-then-not-finds-clause-turns : goal.returns-then-not-finds-clause-turns
returns-then-not-finds-clause-turns g c =
    let one = g.A.Host in
    let two = g.B.Host in
    let content = g.T.Sink.content in
    let below : c.loop-done.done < c.args.count = search rules in
    let rest = c.args.count - c.loop-done.done in
    subst (λ (words : List Word). Advances one.machine two.machine one.answers two.answers words (stage c.args.self.now (one.station c.args.a.now c.args.shelf.now) (two.station c.args.b.now c.args.inbox.now) c.args.shelf.now c.args.inbox.now (content c.args.trace.now))
    (stage c.pass_over.new.self (one.station c.loop-done.a c.loop-done.shelf) (two.station c.loop-done.b c.loop-done.inbox) c.loop-done.shelf c.loop-done.inbox (content c.loop-done.trace))) (times_and_rest c.loop-done.done c.args.count c.args.word below)
    (advances_then one.machine two.machine one.answers two.answers (replicate c.loop-done.done c.args.word) (replicate rest c.args.word) _ _ _ g.met.A.Host.joins g.met.B.Host.joins c.loop-done.invariant.0
    (misses_advance one.machine two.machine one.answers two.answers c.args.word rest c.loop-done.self c.pass_over.new.self (one.station c.loop-done.a c.loop-done.shelf) (two.station c.loop-done.b c.loop-done.inbox) c.loop-done.shelf c.loop-done.inbox (content c.loop-done.trace)
    g.met.A.Host.joins g.met.B.Host.joins c.in_ok-pass_over.ensures.ok
    (at_rest one.machine two.machine c.loop-done.self (one.station c.loop-done.a c.loop-done.shelf) (two.station c.loop-done.b c.loop-done.inbox) c.requires.orderly c.loop-done.invariant.1)
    (λ rest_a rest_b. sym (c.finds.ensures c.loop-done.shelf c.loop-done.inbox rest_a rest_b) ∙ c.if-not-finds.true)))

pub returns-then-not-finds-clause-stands : goal.returns-then-not-finds-clause-stands
returns-then-not-finds-clause-stands g c =
    let one = g.A.Host in
    let two = g.B.Host in
    let content = g.T.Sink.content in
    let rest = c.args.count - c.loop-done.done in
    misses_stand one.machine two.machine c.loop-done.self c.pass_over.new.self (one.station c.loop-done.a c.loop-done.shelf) (two.station c.loop-done.b c.loop-done.inbox) (c.loop-done.self.turned + rest) c.in_ok-pass_over.ensures.ok
    (reached_then one.machine two.machine one.answers two.answers (replicate rest c.args.word)
    (stage c.loop-done.self (one.station c.loop-done.a c.loop-done.shelf) (two.station c.loop-done.b c.loop-done.inbox) c.loop-done.shelf c.loop-done.inbox (content c.loop-done.trace))
    (stage c.pass_over.new.self (one.station c.loop-done.a c.loop-done.shelf) (two.station c.loop-done.b c.loop-done.inbox) c.loop-done.shelf c.loop-done.inbox (content c.loop-done.trace))
    (misses_advance one.machine two.machine one.answers two.answers c.args.word rest c.loop-done.self c.pass_over.new.self (one.station c.loop-done.a c.loop-done.shelf) (two.station c.loop-done.b c.loop-done.inbox) c.loop-done.shelf c.loop-done.inbox (content c.loop-done.trace)
    g.met.A.Host.joins g.met.B.Host.joins c.in_ok-pass_over.ensures.ok
    (at_rest one.machine two.machine c.loop-done.self (one.station c.loop-done.a c.loop-done.shelf) (two.station c.loop-done.b c.loop-done.inbox) c.requires.orderly c.loop-done.invariant.1)
    (λ rest_a rest_b. sym (c.finds.ensures c.loop-done.shelf c.loop-done.inbox rest_a rest_b) ∙ c.if-not-finds.true))
    c.loop-done.invariant.1.reached)
    c.loop-done.invariant.1

long : (n : ℕ) (word : Word) → length (replicate n word) ≡ n
long n word = length-replicate n word

pub returns-in_err-pass_over-clause-lacks : goal.returns-in_err-pass_over-clause-lacks
returns-in_err-pass_over-clause-lacks g c =
    let one = g.A.Host in
    let two = g.B.Host in
    let below : c.loop-done.done < c.args.count = search rules in
    let rest = c.args.count - c.loop-done.done in
    lacks_for _ _ _ _ c.loop-done.invariant.5
    (wants_behind one.machine two.machine one.answers two.answers one.lacked two.lacked (replicate c.args.count c.args.word) (replicate c.loop-done.done c.args.word) (replicate rest c.args.word) [] _ _ _ _ _ g.met.A.Host.joins g.met.B.Host.joins g.met.A.Host.lacks g.met.B.Host.lacks
    (sym (times_and_rest c.loop-done.done c.args.count c.args.word below) ∙ ap (λ (ws : List Word). replicate c.loop-done.done c.args.word ++ ws) (sym (append-nil (replicate rest c.args.word))))
    c.loop-done.invariant.0 (WordsFull (omega (arith, c.in_err-pass_over.ensures.full, long rest c.args.word))))

pub returns-in_err-turn_found-clause-lacks : goal.returns-in_err-turn_found-clause-lacks
returns-in_err-turn_found-clause-lacks g c =
    let one = g.A.Host in
    let two = g.B.Host in
    let below : c.loop-done.done < c.args.count = search rules in
    lacks_on _ _ _ _ _ c.turn_found.result c.from_residual-in_err-turn_found.result c.in_err-turn_found.field-0.0 c.from_residual-in_err-turn_found.ensures.1 c.in_err-turn_found.was c.loop-done.invariant.5
    (λ cause. wants_behind one.machine two.machine one.answers two.answers one.lacked two.lacked (replicate c.args.count c.args.word) (replicate c.loop-done.done c.args.word) (c.args.word ∷ []) (replicate (c.args.count - (c.loop-done.done + 1)) c.args.word) _ _ _ _ _
    g.met.A.Host.joins g.met.B.Host.joins g.met.A.Host.lacks g.met.B.Host.lacks (times_and_one c.loop-done.done c.args.count c.args.word below) c.loop-done.invariant.0 cause) c.turn_found.ensures.lacks

pub returns-in_err-pass_over-clause-breaks : goal.returns-in_err-pass_over-clause-breaks
returns-in_err-pass_over-clause-breaks g c =
    let one = g.A.Host in
    let two = g.B.Host in
    let below : c.loop-done.done < c.args.count = search rules in
    any_err c.from_residual.result
    (advances_no_more one.machine two.machine one.answers two.answers one.lacked two.lacked two.station g.met.A.Host.joins g.met.B.Host.joins (replicate c.args.count c.args.word) (replicate c.loop-done.done c.args.word) (replicate (c.args.count - c.loop-done.done) c.args.word) _ _
    (sym (times_and_rest c.loop-done.done c.args.count c.args.word below)) c.loop-done.invariant.0 (c.loop-done.b, refl))

pub returns-in_err-turn_found-clause-breaks : goal.returns-in_err-turn_found-clause-breaks
returns-in_err-turn_found-clause-breaks g c =
    let one = g.A.Host in
    let two = g.B.Host in
    let below : c.loop-done.done < c.args.count = search rules in
    any_err c.from_residual-in_err-turn_found.result
    (broken_then one.machine two.machine one.answers two.answers one.lacked two.lacked two.station g.met.A.Host.joins g.met.B.Host.joins (replicate c.args.count c.args.word) (replicate c.loop-done.done c.args.word) (c.args.word ∷ []) (replicate (c.args.count - (c.loop-done.done + 1)) c.args.word) _ _ _ _ _
    (times_and_one c.loop-done.done c.args.count c.args.word below) c.loop-done.invariant.0 c.in_err-turn_found.ensures.breaks)
