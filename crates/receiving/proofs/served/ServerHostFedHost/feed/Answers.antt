use Rattle.bt_host.specs.NotedHosts.{noted_server, server_noting}
use Rattle.bt_host.specs.Serving.{Asks, Lacks}
use Rattle.bt_host.specs.Shells.{settings_of}
use Rattle.receiving.proofs.Serving.{server_stays, fed_of, feed_stays, feed_lacks, feeds_on}
use Rattle.receiving.proofs.served.ServerHostFedHost.feed.Goals as goal

pub returns-clause-fed : goal.returns-clause-fed
returns-clause-fed g c =
    let A = noted_server (settings_of c.args.self.now) in
    let faults = g.B.Inbox.faults in
    let shortages = g.B.Inbox.shortages in
    let pushing = server_noting g.B.Inbox.content in
    fed_of A faults shortages pushing (server_stays g.B.Inbox.content) (Lacks shortages) c.args.piece.now c.args.self.now.framing c.feed.new.self.framing (record { stack = c.args.self.now.stack; port = c.args.port.now }) (record { stack = c.feed.new.self.stack; port = c.feed.new.inbox }) c.feed.result
    (feeds_on A (Asks faults shortages) (Lacks shortages) pushing c.args.piece.now c.args.self.now c.feed.new.self c.args.port.now c.feed.new.inbox c.feed.result c.requires.sound.0 c.feed.ensures.feeds).0

pub returns-clause-stays : goal.returns-clause-stays
returns-clause-stays g c =
    let A = noted_server (settings_of c.args.self.now) in
    let faults = g.B.Inbox.faults in
    let shortages = g.B.Inbox.shortages in
    let pushing = server_noting g.B.Inbox.content in
    feed_stays A faults shortages pushing c.args.piece.now c.args.self.now.framing c.feed.new.self.framing (record { stack = c.args.self.now.stack; port = c.args.port.now }) (record { stack = c.feed.new.self.stack; port = c.feed.new.inbox }) c.feed.result
    (feeds_on A (Asks faults shortages) (Lacks shortages) pushing c.args.piece.now c.args.self.now c.feed.new.self c.args.port.now c.feed.new.inbox c.feed.result c.requires.sound.0 c.feed.ensures.feeds).0

pub returns-clause-lacked : goal.returns-clause-lacked
returns-clause-lacked g c is =
    let A = noted_server (settings_of c.args.self.now) in
    let faults = g.B.Inbox.faults in
    let shortages = g.B.Inbox.shortages in
    let pushing = server_noting g.B.Inbox.content in
    feed_lacks A faults shortages pushing c.args.piece.now c.args.self.now.framing c.feed.new.self.framing (record { stack = c.args.self.now.stack; port = c.args.port.now }) (record { stack = c.feed.new.self.stack; port = c.feed.new.inbox }) c.feed.result
    (feeds_on A (Asks faults shortages) (Lacks shortages) pushing c.args.piece.now c.args.self.now c.feed.new.self c.args.port.now c.feed.new.inbox c.feed.result c.requires.sound.0 c.feed.ensures.feeds).0 is
