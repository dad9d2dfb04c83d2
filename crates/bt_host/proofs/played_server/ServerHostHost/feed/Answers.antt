use Rattle.std.proofs.Common.{sym, subst}
use Rattle.push_terms.specs.declared.word.Side.TheVariants.{B}
use Rattle.radio_world.specs.Hosts as world
use Rattle.bt_host.specs.Serving.{Served, Works, Asks, Lacks}
use Rattle.bt_host.specs.Noting.{Noted}
use Rattle.bt_host.specs.NotedHosts.{noted_server_machine, noted_server, server_noting}
use Rattle.bt_host.specs.ServingLaws as laws
use Rattle.bt_host.specs.Shells.{Shelled}
use Rattle.bt_host.specs.Playing.{playing, IsPlayed, ServesSoundly}
use Rattle.bt_host.proofs.Played.{both_ok, on_err, fed_played, lacked_so}
use Rattle.bt_host.proofs.PlayedServers.{server_pages}
use Rattle.bt_host.proofs.played_server.ServerHostHost.feed.Goals as goal

pub hear-requires-clause-rests : goal.hear-requires-clause-rests
hear-requires-clause-rests g c =
    (subst (λ (h : Shelled (Noted Served)). IsPlayed noted_server B (server_noting g.I.Inbox.content) h.stack c.args.port.now) (sym c.self.view_is) c.requires.sound.2).rests

pub returns-clause-hears : goal.returns-clause-hears
returns-clause-hears g c =
    let served = server_noting g.I.Inbox.content in
    let answers = Asks g.I.Inbox.faults g.I.Inbox.shortages in
    let old = c.self.inside.shell in
    let new = c.hear.new.self in
    let port = c.hear.new.port in
    let sound = ServesSoundly g.I.Inbox.content g.I.Inbox.is_pending new port in
    let is = subst (λ (h : Shelled (Noted Served)). IsPlayed noted_server B served h.stack c.args.port.now) (sym c.self.view_is) c.requires.sound.2 in
    both_ok c.want.result c.want.ensures.went c.want.ensures.went
    (λ some again.
    subst (λ (h : Shelled (Noted Served)). world.Hears noted_server_machine B answers h.framing.held c.args.octets.now new.framing.held (playing served c.args.port.now h.stack) (playing served port new.stack) c.args.port.now port sound) c.self.view_is
    (fed_played noted_server answers served B (laws.joins g.I.Inbox.faults g.I.Inbox.shortages) (Lacks g.I.Inbox.shortages) (Works new.stack.upper.end.end (g.I.Inbox.is_pending port)) c.args.octets.now old.framing new.framing old.stack new.stack
    c.args.port.now port new.refusal (server_pages B old.stack.paged) is c.hear.ensures.settings c.hear.result some c.hear.ensures.reads
    c.hear.ensures.refusal c.hear.ensures.sound c.hear.ensures.rests))

pub returns-clause-lacked : goal.returns-clause-lacked
returns-clause-lacked g c =
    on_err c.want.result c.want.ensures.wanted
    (λ is. lacked_so noted_server (Asks g.I.Inbox.faults g.I.Inbox.shortages) (server_noting g.I.Inbox.content) B (Lacks g.I.Inbox.shortages) c.args.octets.now c.self.inside.shell.framing c.hear.new.self.framing c.self.inside.shell.stack c.hear.new.self.stack
    c.args.port.now c.hear.new.port c.hear.result is c.hear.ensures.reads)
