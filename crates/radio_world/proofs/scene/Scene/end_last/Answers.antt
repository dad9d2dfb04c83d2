use Rattle.std.proofs.Common.{rules, ◌≡◌, true, false}
use Rattle.bt_base.proofs.PortLaws.{front_none}
use Rattle.radio_world.proofs.Closing.{none_ends, none_is_entry, none_written, one_ends, one_front, one_is_entry, one_written}
use Rattle.radio_world.proofs.scene.Scene.end_last.Goals as goal

pub returns-then-not-going-clause-scene : goal.returns-then-not-going-clause-scene
returns-then-not-going-clause-scene g c =
    let none : c.args.self.now.pushes.going ≡ false = search rules in
    none_ends c.args.came c.args.self.now none

pub returns-then-not-going-clause-written : goal.returns-then-not-going-clause-written
returns-then-not-going-clause-written g c =
    let none : c.args.self.now.pushes.going ≡ false = search rules in
    none_written c.args.came c.args.self.now.pushes (g.T.Sink.content c.args.trace.now) none

pub returns-then-not-going-clause-entries : goal.returns-then-not-going-clause-entries
returns-then-not-going-clause-entries g c =
    let none : c.args.self.now.pushes.going ≡ false = search rules in
    none_is_entry c.args.came c.args.self.now.pushes none

pub returns-clause-entries : goal.returns-clause-entries
returns-clause-entries g c =
    let going : c.args.self.now.pushes.going ≡ true = search rules in
    one_is_entry c.args.came c.args.self.now.pushes c.unwrap_or-outcome.result going c.unwrap_or-outcome.ensures c.end.ensures.entry

pub returns-in_err-end-clause-entries : goal.returns-in_err-end-clause-entries
returns-in_err-end-clause-entries g c =
    let going : c.args.self.now.pushes.going ≡ true = search rules in
    one_is_entry c.args.came c.args.self.now.pushes c.unwrap_or-outcome.result going c.unwrap_or-outcome.ensures c.end.ensures.entry

pub returns-clause-scene : goal.returns-clause-scene
returns-clause-scene g c =
    let going : c.args.self.now.pushes.going ≡ true = search rules in
    one_ends c.args.came c.args.self.now c.end.new.self c.unwrap_or-outcome.result going c.unwrap_or-outcome.ensures c.in_ok-end.ensures.scene

pub returns-clause-written : goal.returns-clause-written
returns-clause-written g c =
    let going : c.args.self.now.pushes.going ≡ true = search rules in
    one_written c.args.came c.args.self.now.pushes c.unwrap_or-outcome.result (g.T.Sink.content c.args.trace.now) (g.T.Sink.content c.end.new.trace) going c.unwrap_or-outcome.ensures c.in_ok-end.ensures.written

pub returns-then-not-going-clause-front : goal.returns-then-not-going-clause-front
returns-then-not-going-clause-front g c = front_none _ _

pub returns-clause-front : goal.returns-clause-front
returns-clause-front g c =
    let going : c.args.self.now.pushes.going ≡ true = search rules in
    one_front c.args.came c.args.self.now.pushes c.unwrap_or-outcome.result (g.T.Sink.content c.args.trace.now) (g.T.Sink.content c.end.new.trace) going c.unwrap_or-outcome.ensures c.end.ensures.front

pub returns-in_err-end-clause-front : goal.returns-in_err-end-clause-front
returns-in_err-end-clause-front g c =
    let going : c.args.self.now.pushes.going ≡ true = search rules in
    one_front c.args.came c.args.self.now.pushes c.unwrap_or-outcome.result (g.T.Sink.content c.args.trace.now) (g.T.Sink.content c.end.new.trace) going c.unwrap_or-outcome.ensures c.end.ensures.front
