use Rattle.std.proofs.Common.{[], refl, arith}
use Rattle.radio_world.proofs.Wanting.{any_err, lacks_ok, lacks_on}
use Rattle.radio_world.specs.Hosts.{answering}
use Rattle.radio_world.specs.Scenes.{moment}
use Rattle.bt_host.specs.NotedHosts.{client_noting, server_noting}
use Rattle.bt_host.specs.Pushing.{Lacks as NoShelf}
use Rattle.bt_host.specs.PushingLaws.{Answers}
use Rattle.bt_host.specs.Playing.{playing}
use Rattle.scenario_play.specs.Playing.{fresh_world}
use Rattle.scenario_play.specs.Peaks.{NotedMoment, AreNoted}
use Rattle.scenario_play.proofs.Breaking.{broke, wanting, shelf_left, inbox_left}
use Rattle.scenario_play.proofs.Plainness.{orderly}
use Rattle.scenario_play.proofs.Course.{played, shelf_kept}
use Rattle.scenario_play.proofs.Failing.{shelf_counted}
use Rattle.scenario_play.proofs.playing.play.Goals as goal

pub play_out-requires-clause-orderly : goal.play_out-requires-clause-orderly
play_out-requires-clause-orderly g c = orderly

pub play_out-requires-clause-sides : goal.play_out-requires-clause-sides
play_out-requires-clause-sides g c = (refl, refl)

pub play_out-requires-clause-unused : goal.play_out-requires-clause-unused
play_out-requires-clause-unused g c = (tt, c.requires.none_pending)

pub returns-clause-plays : goal.returns-clause-plays
returns-clause-plays g c =
    let traced = g.T.Sink.content in
    let shelf = c.play_out.new.shelf in
    let inbox = c.play_out.new.inbox in
    let last : NotedMoment = moment c.in_ok-outcomes.world.scene (answering [] (playing (client_noting g.F.Shelf.content) shelf c.in_ok-outcomes.world.a.stack)) (answering [] (playing (server_noting g.I.Inbox.content) inbox c.in_ok-outcomes.world.b.stack)) in
    let noted : AreNoted c.in_ok-outcomes.world.scene.medium last c.peaks_of-peaks.result = record { buffers = c.peaks_of-peaks.ensures.buffers; windows = c.peaks_of-peaks.ensures.windows; credits = c.peaks_of-peaks.ensures.credits } in
    played g.F.Shelf.content g.I.Inbox.content (Answers g.F.Shelf.content g.F.Shelf.faults g.F.Shelf.shortages) g.I.Inbox.faults g.I.Inbox.shortages c.args.scenario.now (fresh_world c.args.scenario.now) c.in_ok-outcomes.world
    c.args.shelf.now shelf c.args.inbox.now inbox (traced c.args.trace.now) (traced c.play_out.new.trace) c.in_ok-outcomes.outcomes.items c.peaks_of-peaks.result refl c.in_ok-outcomes.ensures.runs c.in_ok-outcomes.ensures.sound.1.0.works c.in_ok-outcomes.ensures.outcomes noted

pub returns-clause-faulted : goal.returns-clause-faulted
returns-clause-faulted g c =
    let shelf = g.F.Shelf in
    let traced = g.T.Sink.content in
    shelf_counted shelf.content shelf.faults shelf.shortages g.I.Inbox.content g.I.Inbox.faults g.I.Inbox.shortages c.args.scenario.now (fresh_world c.args.scenario.now) c.in_ok-outcomes.world c.args.shelf.now c.play_out.new.shelf c.args.inbox.now c.play_out.new.inbox
    (traced c.args.trace.now) (traced c.play_out.new.trace) c.in_ok-outcomes.outcomes.items refl c.in_ok-outcomes.ensures.runs c.in_ok-outcomes.ensures.outcomes

pub returns-clause-each : goal.returns-clause-each
returns-clause-each g c = c.in_ok-outcomes.ensures.each

pub returns-clause-shelf : goal.returns-clause-shelf
returns-clause-shelf g c =
    let shelf = g.F.Shelf in
    let runs = c.in_ok-outcomes.ensures.runs in
    let mid = runs.mid.shelf in
    let end = c.play_out.new.shelf in
    shelf_kept (shelf.content c.args.shelf.now) (shelf.content mid) (shelf.content end) (shelf.faults c.args.shelf.now) (shelf.faults mid) (shelf.faults end) (shelf.shortages c.args.shelf.now) (shelf.shortages mid) (shelf.shortages end)
    runs.starts.used_a runs.turns.used_a runs.starts.answered_a runs.turns.answered_a

pub returns-clause-inbox : goal.returns-clause-inbox
returns-clause-inbox g c = let runs = c.in_ok-outcomes.ensures.runs in omega (arith, runs.starts.answered_b.counted.shortages_stay, runs.turns.answered_b.counted.shortages_stay)

pub returns-clause-blames : goal.returns-clause-blames
returns-clause-blames g c = record { stays = c.play_out.ensures.blames.stays; failed = λ is. cc }

pub returns-clause-lacks : goal.returns-clause-lacks
returns-clause-lacks g c = lacks_ok _ _ _ _ c.play_out.ensures.lacks.stays

-- ---- where it broke off

pub returns-in_err-outcomes-clause-breaks : goal.returns-in_err-outcomes-clause-breaks
returns-in_err-outcomes-clause-breaks g c =
    let shelf = g.F.Shelf in
    let inbox = g.I.Inbox in
    let traced = g.T.Sink.content in
    any_err c.from_residual.result
    (broke shelf.content inbox.content (Answers shelf.content shelf.faults shelf.shortages) (NoShelf shelf.shortages) inbox.faults inbox.shortages c.args.scenario.now (fresh_world c.args.scenario.now)
    c.args.shelf.now c.play_out.new.shelf c.args.inbox.now c.play_out.new.inbox (traced c.args.trace.now) (traced c.play_out.new.trace) refl c.in_err-outcomes.ensures.breaks)

pub returns-in_err-outcomes-clause-left : goal.returns-in_err-outcomes-clause-left
returns-in_err-outcomes-clause-left g c =
    let shelf = g.F.Shelf in
    any_err c.from_residual.result (shelf_left shelf.content shelf.faults shelf.shortages c.args.shelf.now c.play_out.new.shelf c.in_err-outcomes.ensures.breaks refl)

pub returns-in_err-outcomes-clause-inbox : goal.returns-in_err-outcomes-clause-inbox
returns-in_err-outcomes-clause-inbox g c = inbox_left g.I.Inbox.faults g.I.Inbox.shortages c.args.inbox.now c.play_out.new.inbox c.in_err-outcomes.ensures.breaks refl

pub returns-in_err-outcomes-clause-lacks : goal.returns-in_err-outcomes-clause-lacks
returns-in_err-outcomes-clause-lacks g c =
    let shelf = g.F.Shelf in
    let inbox = g.I.Inbox in
    let traced = g.T.Sink.content in
    lacks_on _ _ _ _ _ c.play_out.result c.from_residual.result c.in_err-outcomes.field-0.0 c.from_residual.ensures.1 c.in_err-outcomes.was (omega arith)
    (λ cause. wanting shelf.content inbox.content (Answers shelf.content shelf.faults shelf.shortages) (NoShelf shelf.shortages) inbox.faults inbox.shortages c.args.scenario.now (fresh_world c.args.scenario.now)
    c.args.shelf.now c.play_out.new.shelf c.args.inbox.now c.play_out.new.inbox (traced c.args.trace.now) (traced c.play_out.new.trace) _ _
    refl (λ lacked. lacked.0) (λ lacked. lacked.0) cause) c.play_out.ensures.lacks
