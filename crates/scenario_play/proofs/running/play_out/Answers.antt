use Rattle.std.proofs.Common.{inl, inr, length, refl, sym, ap, subst, ◌∙◌, arith}
use Rattle.capture.specs.Air.{words_of}
use Rattle.radio_world.specs.Both.{Both}
use Rattle.radio_world.specs.Calls.{new_world, ports_of}
use Rattle.radio_world.proofs.Wanting.{any_err, lacks_for, lacks_on}
use Rattle.scenario_play.specs.Through.{RunsThroughAt, BreaksThroughAt, MayWantAt}
use Rattle.scenario_play.proofs.Untouched.{untouched_breaks}
use Rattle.scenario_play.proofs.running.play_out.Goals as goal

pub run_through-requires-clause-may : goal.run_through-requires-clause-may
run_through-requires-clause-may g c = c.in_ok-world.ensures.may_start c.args.shelf.now c.args.inbox.now c.requires.unused.0 c.requires.unused.1

pub copy_from_slice-requires : goal.copy_from_slice-requires
copy_from_slice-requires g c =
    let named = ap (λ (w : Both g.row.A.Denot g.row.B.Denot). length w.scene.pushes.names) c.in_ok-world.ensures.made in
    c.in_ok-outcomes.ensures ∙ (c.len.ensures.count ∙ (sym named ∙ (sym c.in_ok-run_through.ensures.each ∙ sym (ap length c.outcomes.ensures))))

pub returns-clause-runs : goal.returns-clause-runs
returns-clause-runs g c =
    let old = ports_of g.T.Sink c.args.shelf.now c.args.inbox.now c.args.trace.now in
    let new = ports_of g.T.Sink c.run_through.new.shelf c.run_through.new.inbox c.run_through.new.trace in
    subst (λ (w : Both g.row.A.Denot g.row.B.Denot). RunsThroughAt g.A.Host g.B.Host (words_of c.args.scenario.now.script) w old c.run_through.new.world new) c.in_ok-world.ensures.made c.in_ok-run_through.ensures.runs

pub returns-clause-sound : goal.returns-clause-sound
returns-clause-sound g c = c.in_ok-run_through.ensures.sound

pub returns-clause-outcomes : goal.returns-clause-outcomes
returns-clause-outcomes g c = c.copy_from_slice.ensures.items ∙ c.outcomes.ensures

pub returns-clause-each : goal.returns-clause-each
returns-clause-each g c =
    let named = ap (λ (w : Both g.row.A.Denot g.row.B.Denot). length w.scene.pushes.names) c.in_ok-world.ensures.made in
    ap length (c.copy_from_slice.ensures.items ∙ c.outcomes.ensures) ∙ (c.in_ok-run_through.ensures.each ∙ named)

-- ---- what it reserves cannot be had

pub returns-in_err-world-clause-breaks : goal.returns-in_err-world-clause-breaks
returns-in_err-world-clause-breaks g c = any_err c.from_residual.result (untouched_breaks g.A.Host g.B.Host (words_of c.args.scenario.now.script) (new_world g.A.Host g.B.Host c.args.scenario.now) (ports_of g.T.Sink c.args.shelf.now c.args.inbox.now c.args.trace.now) g.met.A.Host.joins g.met.B.Host.joins)

pub returns-in_err-world-clause-lacks : goal.returns-in_err-world-clause-lacks
returns-in_err-world-clause-lacks g c = lacks_for _ _ _ c.from_residual.result (omega arith) (inl (record { shelf_is = refl; inbox_is = refl; trace_is = refl }))

pub returns-in_err-outcomes-clause-breaks : goal.returns-in_err-outcomes-clause-breaks
returns-in_err-outcomes-clause-breaks g c = any_err c.from_residual-in_err-outcomes.result (untouched_breaks g.A.Host g.B.Host (words_of c.args.scenario.now.script) (new_world g.A.Host g.B.Host c.args.scenario.now) (ports_of g.T.Sink c.args.shelf.now c.args.inbox.now c.args.trace.now) g.met.A.Host.joins g.met.B.Host.joins)

pub returns-in_err-outcomes-clause-lacks : goal.returns-in_err-outcomes-clause-lacks
returns-in_err-outcomes-clause-lacks g c = lacks_for _ _ _ c.from_residual-in_err-outcomes.result (omega arith) (inl (record { shelf_is = refl; inbox_is = refl; trace_is = refl }))

-- ---- it broke off

pub returns-in_err-run_through-clause-breaks : goal.returns-in_err-run_through-clause-breaks
returns-in_err-run_through-clause-breaks g c =
    let old = ports_of g.T.Sink c.args.shelf.now c.args.inbox.now c.args.trace.now in
    let new = ports_of g.T.Sink c.run_through.new.shelf c.run_through.new.inbox c.run_through.new.trace in
    any_err c.from_residual-in_err-run_through.result
    (subst (λ (w : Both g.row.A.Denot g.row.B.Denot). BreaksThroughAt g.A.Host g.B.Host (words_of c.args.scenario.now.script) w old new) c.in_ok-world.ensures.made c.in_err-run_through.ensures.breaks)

pub returns-in_err-run_through-clause-lacks : goal.returns-in_err-run_through-clause-lacks
returns-in_err-run_through-clause-lacks g c =
    let old = ports_of g.T.Sink c.args.shelf.now c.args.inbox.now c.args.trace.now in
    let new = ports_of g.T.Sink c.run_through.new.shelf c.run_through.new.inbox c.run_through.new.trace in
    subst (λ (w : Both g.row.A.Denot g.row.B.Denot). MayWantAt g.A.Host g.B.Host (words_of c.args.scenario.now.script) w old new c.from_residual-in_err-run_through.result) c.in_ok-world.ensures.made
    (lacks_on _ _ _ _ _ c.run_through.result c.from_residual-in_err-run_through.result c.in_err-run_through.field-0.0 c.from_residual-in_err-run_through.ensures.1 c.in_err-run_through.was (omega arith) (λ cause. inr cause) c.run_through.ensures.lacks)
