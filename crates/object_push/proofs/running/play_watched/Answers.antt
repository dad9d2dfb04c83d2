use Rattle.std.proofs.Common.{◌≡◌, ℕ, Result, Ok, sym, subst}
use Rattle.std.specs.Prelude.{IfOk}
use Rattle.watched_ports.specs.Gains.{Keeps}
use Rattle.object_push.proofs.Ended.{broken_at_end}
use Rattle.object_push.proofs.Handing.{either_way, at_err, err_then, ok_then}
use Rattle.object_push.proofs.Reasons.{reason}
use Rattle.object_push.proofs.running.play_watched.Goals as goal

pub returns-clause-kept : goal.returns-clause-kept
returns-clause-kept g c =
    ok_then c.end_of-end.result c.end_of-end.ensures.kept
    (λ ended is. subst (λ (n : ℕ). Keeps g.PB.Past.inbox.content n (g.B.LentInbox.content c.play-played.new.inbox.inbox)) (sym is) c.play-played.new.inbox.keeps)

pub returns-clause-breaks : goal.returns-clause-breaks
returns-clause-breaks g c =
    at_err c.end_of-end.result
    (either_way c.play-played.result (rw (c.new-shelf.ensures.shelf, c.new-inbox.ensures.inbox, c.new-trace.ensures.sink) at c.play-played.ensures.plays) (rw (c.new-shelf.ensures.shelf, c.new-inbox.ensures.inbox, c.new-trace.ensures.sink) at c.play-played.ensures.breaks)
    (λ played is. broken_at_end _ _ _ _ _ _ _ _ _ _ is))

pub returns-clause-reason : goal.returns-clause-reason
returns-clause-reason g c =
    let shelf = c.play-played.new.shelf in
    let inbox = c.play-played.new.inbox in
    let trace = c.play-played.new.trace in
    err_then c.end_of-end.result c.end_of-end.ensures.halts (λ fault halts. reason c.args.scenario.now (g.B.LentInbox.content c.args.inbox) (g.B.LentInbox.content inbox.inbox) (g.T.LentSink.content c.args.trace) (g.T.LentSink.content trace.sink) c.play-played.result
    (g.F.LentShelf.shortages c.args.shelf) (g.F.LentShelf.shortages shelf.shelf) (g.B.LentInbox.shortages c.args.inbox) (g.B.LentInbox.shortages inbox.inbox) g.PT.Past.sink.faults (g.T.LentSink.faults trace.sink) g.PT.Past.sink.shortages (g.T.LentSink.shortages trace.sink)
    shelf.short inbox.short trace.failed trace.short c.any_short-short.result
    (record {
      new_failed = c.new-trace.result.failed;
      new_short = c.new-trace.result.short;
      not_failed = c.new-trace.ensures.noted.0;
      not_short = c.new-trace.ensures.noted.1;
      blames = rw (c.new-trace.ensures.sink, c.requires.trace.faults_are) at c.play-played.ensures.blames;
      lacks = rw (c.new-shelf.ensures.shelf, c.new-inbox.ensures.inbox, c.new-trace.ensures.sink, c.requires.trace.shortages_are) at c.play-played.ensures.lacks;
      shelf = rw (sym c.requires.shelf.shortages_are) at shelf.shortages;
      inbox = rw (sym c.requires.inbox.shortages_are) at inbox.shortages;
      trace_faults = trace.faults;
      trace_shortages = trace.shortages;
    }) c.any_short-short.ensures fault halts)

ok_is : {X E : Type 0} (P : X → Type 0) (result : Result X E) (x : X) → result ≡ Ok x → IfOk result P → P x
ok_is P result x is plays = subst (λ r. IfOk r P) is plays

pub returns-clause-plays : goal.returns-clause-plays
returns-clause-plays g c =
    ok_then c.end_of-end.result c.end_of-end.ensures.follows
    (λ ended follows. ok_is _ c.play-played.result ended.played follows.is (rw (c.new-shelf.ensures.shelf, c.new-inbox.ensures.inbox, c.new-trace.ensures.sink) at c.play-played.ensures.plays))

pub returns-clause-faulted : goal.returns-clause-faulted
returns-clause-faulted g c =
    ok_then c.end_of-end.result c.end_of-end.ensures.follows
    (λ ended follows. ok_is _ c.play-played.result ended.played follows.is (rw (c.new-shelf.ensures.shelf) at c.play-played.ensures.faulted))
