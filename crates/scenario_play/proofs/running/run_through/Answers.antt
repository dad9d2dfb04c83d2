use Rattle.std.proofs.Common.{[], refl, sym, ap, subst, ◌∙◌, length, arith}
use Rattle.std.proofs.lemmas.List.{append-nil}
use Rattle.capture.specs.Air.{words_of}
use Rattle.radio_world.specs.Scenes.{stage}
use Rattle.scenario_play.specs.Running.{RunsThrough}
use Rattle.radio_world.proofs.Advancing.{advances_none, advances_then}
use Rattle.radio_world.proofs.Broken.{broken_then}
use Rattle.radio_world.proofs.Reasons.{wants_behind}
use Rattle.radio_world.proofs.Wanting.{any_err, lacks_ok, lacks_on, lacks_by_trace}
use Rattle.scenario_play.specs.Breaking.{OnItsWay, AtItsEnd}
use Rattle.scenario_play.proofs.Blaming.{blames_none, blames_on}
use Rattle.scenario_play.proofs.Names.{names_stay}
use Rattle.scenario_play.proofs.running.run_through.Goals as goal

pub returns-clause-runs : goal.returns-clause-runs
returns-clause-runs g c =
    let one = g.A.Host in
    let two = g.B.Host in
    let content = g.T.Sink.content in
    let first = c.args.world.now in
    let begun = c.start.new.self in
    let last = c.turn_all.new.self in
    let end = c.finish.new.self in
    let hosts = (c.finish.ensures []).hosts in
    subst (λ a. RunsThrough one.machine two.machine one.answers two.answers (words_of c.args.script.now) (stage first.scene (one.station first.a c.args.shelf.now) (two.station first.b c.args.inbox.now) c.args.shelf.now c.args.inbox.now (content c.args.trace.now))
    (stage end.scene (one.station a c.turn_all.new.shelf) (two.station end.b c.turn_all.new.inbox) c.turn_all.new.shelf c.turn_all.new.inbox (content c.finish.new.trace))) (sym hosts.0)
    (subst (λ b. RunsThrough one.machine two.machine one.answers two.answers (words_of c.args.script.now) (stage first.scene (one.station first.a c.args.shelf.now) (two.station first.b c.args.inbox.now) c.args.shelf.now c.args.inbox.now (content c.args.trace.now))
    (stage end.scene (one.station last.a c.turn_all.new.shelf) (two.station b c.turn_all.new.inbox) c.turn_all.new.shelf c.turn_all.new.inbox (content c.finish.new.trace))) (sym hosts.1)
    (record {
      mid = stage begun.scene (one.station begun.a c.start.new.shelf) (two.station begun.b c.start.new.inbox) c.start.new.shelf c.start.new.inbox (content c.start.new.trace);
      last = last.scene;
      trace = content c.turn_all.new.trace;
      starts = c.in_ok-start.ensures.turned.advances;
      turns = c.in_ok-turn_all.ensures.turned.advances;
      stands = c.in_ok-turn_all.ensures.turned.may.stands;
      medium_stays = (c.in_ok-finish.ensures []).finished.medium;
      outcomes_are = (c.in_ok-finish.ensures []).finished.outcomes;
      written = (c.in_ok-finish.ensures []).finished.written;
      each = (c.finish.ensures []).entries;
    }))

pub returns-clause-sound : goal.returns-clause-sound
returns-clause-sound g c = subst (λ a. g.A.Host.is_sound a c.turn_all.new.shelf) (sym (c.finish.ensures []).hosts.0) c.in_ok-turn_all.ensures.turned.may.are_sound.sound.0

pub returns-clause-each : goal.returns-clause-each
returns-clause-each g c =
    let one = g.A.Host in
    let two = g.B.Host in
    (c.in_ok-finish.ensures []).finished.each
    ∙ ap length (names_stay one.machine two.machine one.answers two.answers (words_of c.args.script.now) _ _ c.in_ok-turn_all.ensures.turned.advances ∙ names_stay one.machine two.machine one.answers two.answers [] _ _ c.in_ok-start.ensures.turned.advances)

pub returns-clause-blames : goal.returns-clause-blames
returns-clause-blames g c =
    let last = (c.finish.ensures []).blames.stays in
    blames_none _ _ _ (omega (arith, c.start.ensures.blames.stays, c.turn_all.ensures.blames.stays, last))

pub returns-clause-lacks : goal.returns-clause-lacks
returns-clause-lacks g c =
    let last = (c.finish.ensures []).lacks.stays in
    lacks_ok _ _ _ _ (omega (arith, c.start.ensures.lacks.stays, c.turn_all.ensures.lacks.stays, last))

pub returns-in_err-start-clause-breaks : goal.returns-in_err-start-clause-breaks
returns-in_err-start-clause-breaks g c =
    let one = g.A.Host in
    let two = g.B.Host in
    let joins_a = g.met.A.Host.joins in
    let joins_b = g.met.B.Host.joins in
    let content = g.T.Sink.content in
    let words = words_of c.args.script.now in
    let world = c.args.world.now in
    let first = stage world.scene (one.station world.a c.args.shelf.now) (two.station world.b c.args.inbox.now) c.args.shelf.now c.args.inbox.now (content c.args.trace.now) in
    any_err c.from_residual.result (OnItsWay (broken_then one.machine two.machine one.answers two.answers one.lacked two.lacked two.station joins_a joins_b words [] [] words first first _ _ _ refl (advances_none one.machine two.machine one.answers two.answers first joins_a joins_b) c.in_err-start.ensures.breaks))

pub returns-in_err-start-clause-lacks : goal.returns-in_err-start-clause-lacks
returns-in_err-start-clause-lacks g c =
    let one = g.A.Host in
    let two = g.B.Host in
    let joins_a = g.met.A.Host.joins in
    let joins_b = g.met.B.Host.joins in
    let content = g.T.Sink.content in
    let words = words_of c.args.script.now in
    let world = c.args.world.now in
    let first = stage world.scene (one.station world.a c.args.shelf.now) (two.station world.b c.args.inbox.now) c.args.shelf.now c.args.inbox.now (content c.args.trace.now) in
    lacks_on _ _ _ _ _ c.start.result c.from_residual.result c.in_err-start.field-0.0 c.from_residual.ensures.1 c.in_err-start.was (omega arith)
    (λ cause. wants_behind one.machine two.machine one.answers two.answers one.lacked two.lacked words [] [] words first first _ _ _ joins_a joins_b g.met.A.Host.lacks g.met.B.Host.lacks refl (advances_none one.machine two.machine one.answers two.answers first joins_a joins_b) cause) c.start.ensures.lacks

pub returns-in_err-turn_all-clause-breaks : goal.returns-in_err-turn_all-clause-breaks
returns-in_err-turn_all-clause-breaks g c =
    let one = g.A.Host in
    let two = g.B.Host in
    let joins_a = g.met.A.Host.joins in
    let joins_b = g.met.B.Host.joins in
    let content = g.T.Sink.content in
    let words = words_of c.args.script.now in
    let world = c.args.world.now in
    let first = stage world.scene (one.station world.a c.args.shelf.now) (two.station world.b c.args.inbox.now) c.args.shelf.now c.args.inbox.now (content c.args.trace.now) in
    any_err c.from_residual-in_err-turn_all.result (OnItsWay (broken_then one.machine two.machine one.answers two.answers one.lacked two.lacked two.station joins_a joins_b words [] words [] first _ _ _ _ (sym (append-nil words)) c.in_ok-start.ensures.turned.advances c.in_err-turn_all.ensures.breaks))

pub returns-in_err-turn_all-clause-lacks : goal.returns-in_err-turn_all-clause-lacks
returns-in_err-turn_all-clause-lacks g c =
    let one = g.A.Host in
    let two = g.B.Host in
    let joins_a = g.met.A.Host.joins in
    let joins_b = g.met.B.Host.joins in
    let content = g.T.Sink.content in
    let words = words_of c.args.script.now in
    let world = c.args.world.now in
    let first = stage world.scene (one.station world.a c.args.shelf.now) (two.station world.b c.args.inbox.now) c.args.shelf.now c.args.inbox.now (content c.args.trace.now) in
    lacks_on _ _ _ _ _ c.turn_all.result c.from_residual-in_err-turn_all.result c.in_err-turn_all.field-0.0 c.from_residual-in_err-turn_all.ensures.1 c.in_err-turn_all.was c.start.ensures.lacks.stays
    (λ cause. wants_behind one.machine two.machine one.answers two.answers one.lacked two.lacked words [] words [] first _ _ _ _ joins_a joins_b g.met.A.Host.lacks g.met.B.Host.lacks (sym (append-nil words)) c.in_ok-start.ensures.turned.advances cause) c.turn_all.ensures.lacks

pub returns-in_err-finish-clause-breaks : goal.returns-in_err-finish-clause-breaks
returns-in_err-finish-clause-breaks g c =
    let one = g.A.Host in
    let two = g.B.Host in
    let joins_a = g.met.A.Host.joins in
    let joins_b = g.met.B.Host.joins in
    let content = g.T.Sink.content in
    let words = words_of c.args.script.now in
    let world = c.args.world.now in
    let first = stage world.scene (one.station world.a c.args.shelf.now) (two.station world.b c.args.inbox.now) c.args.shelf.now c.args.inbox.now (content c.args.trace.now) in
    let last = c.turn_all.new.self in
    let mid = stage last.scene (one.station last.a c.turn_all.new.shelf) (two.station last.b c.turn_all.new.inbox) c.turn_all.new.shelf c.turn_all.new.inbox (content c.turn_all.new.trace) in
    any_err c.from_residual-in_err-finish.result
    (AtItsEnd mid (advances_then one.machine two.machine one.answers two.answers [] words first _ mid joins_a joins_b c.in_ok-start.ensures.turned.advances c.in_ok-turn_all.ensures.turned.advances) (last.b, refl) (c.finish.ensures []).front (c.finish.ensures []).entries refl refl)

pub returns-in_err-finish-clause-lacks : goal.returns-in_err-finish-clause-lacks
returns-in_err-finish-clause-lacks g c =
    lacks_by_trace _ _ _ _ c.finish.result c.from_residual-in_err-finish.result c.in_err-finish.field-0.0 c.from_residual-in_err-finish.ensures.1 c.in_err-finish.was
    (omega (arith, c.start.ensures.lacks.stays, c.turn_all.ensures.lacks.stays)) (c.finish.ensures []).lacks

pub returns-in_err-finish-clause-blames : goal.returns-in_err-finish-clause-blames
returns-in_err-finish-clause-blames g c =
    blames_on _ _ _ c.finish.result c.from_residual-in_err-finish.result c.in_err-finish.field-0.0 c.from_residual-in_err-finish.ensures.1 c.in_err-finish.was
    (omega (arith, c.start.ensures.blames.stays, c.turn_all.ensures.blames.stays)) (c.finish.ensures []).blames
