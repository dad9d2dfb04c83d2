use Rattle.std.proofs.Common.{◌≡◌, [], sym, ap₂, ◌∙◌, subst}
use Rattle.radio_world.specs.capture.specs.Air.{words_of}
use Rattle.radio_world.specs.Both.{Both}
use Rattle.tiny_hosts.specs.declared.counter.Counter.{Counter}
use Rattle.tiny_hosts.specs.declared.echo.Echo.{Echo}
use Rattle.tiny_hosts.specs.Hosting.{Tiny}
use Rattle.tiny_hosts.specs.Playing.{IsPlayed}
use Rattle.tiny_hosts.proofs.Course.{played}
use Rattle.tiny_hosts.proofs.Orderly.{are_orderly}
use Rattle.tiny_hosts.proofs.playing.play.Goals as goal

pub start-requires-clause-may : goal.start-requires-clause-may
start-requires-clause-may g c = c.in_ok-world.ensures.may_start tt tt tt tt

pub turn_all-requires-clause-orderly : goal.turn_all-requires-clause-orderly
turn_all-requires-clause-orderly g c = are_orderly

pub returns : goal.returns
returns g c =
    let scenario = c.args.scenario.now in
    let content = g.T.Sink.content in
    let first = c.in_ok-world.world in
    let mid = c.start.new.self in
    let last = c.turn_all.new.self in
    let end = c.finish.new.self in
    let hosts = (c.finish.ensures []).hosts in
    subst (λ (w : Both (Tiny Counter) (Tiny Echo)). IsPlayed scenario.acl_length scenario.acl_count scenario.names (words_of scenario.script) (content c.args.trace.now) (content c.finish.new.trace) w)
    (ap₂ (λ (a : Tiny Counter) (b : Tiny Echo). record { a = a; b = b; scene = end.scene }) (sym hosts.0) (sym hosts.1))
    (played scenario.acl_length scenario.acl_count scenario.names (words_of scenario.script) first.scene mid.scene last.scene end.scene first.a mid.a last.a first.b mid.b last.b
    (content c.args.trace.now) (content c.start.new.trace) (content c.turn_all.new.trace) (content c.finish.new.trace)
    c.in_ok-world.ensures.made
    c.in_ok-start.ensures.turned.advances c.in_ok-turn_all.ensures.turned.advances (c.in_ok-turn_all.ensures.turned.may.stands.settled [] []) (c.in_ok-finish.ensures []).finished.medium (c.in_ok-finish.ensures []).finished.outcomes (c.in_ok-finish.ensures []).finished.written)
