use Rattle.std.proofs.Common.{◌∙◌, [], ◌∷◌, ◌++◌, sym, subst, Err}
use Rattle.h4_framing.specs.Framing.{Framing}
use Rattle.receiving.specs.declared.fault.ListenFault.{ListenFault}
use Rattle.bt_host.specs.obex_session.specs.Counting.{counts_of}
use Rattle.receiving.specs.Coming.{Halts, beside}
use Rattle.receiving.specs.Faring.{Fares}
use Rattle.receiving.proofs.Following.{follows_alike}
use Rattle.receiving.proofs.Octets.{fares_on, taken_halts, stopped_halts, refused_halts, short_halts}
use Rattle.receiving.proofs.hearing.hear_octet.Goals as goal

pub returns-in-Ok-say-clause-hears : goal.returns-in-Ok-say-clause-hears
returns-in-Ok-say-clause-hears g c first octets before small fares =
    let host = g.L.FedHost in
    let content = g.K.Sink.content in
    subst (λ (f : Framing). Fares (host.profile c.args.host.now) first (octets ++ c.args.octet ∷ []) f (host.stands c.say.new.host c.feed.new.port) before (beside (content c.say.new.sink) host.faults host.shortages c.feed.new.port)) (sym c.say.ensures.framing)
    (fares_on (host.profile c.args.host.now) first octets c.args.octet (host.framing c.args.host.now) (host.stands c.args.host.now c.args.port.now) (host.stands c.feed.new.self c.feed.new.port) (host.stands c.say.new.host c.feed.new.port) before (beside (content c.args.sink.now) host.faults host.shortages c.args.port.now) (counts_of host.faults host.shortages c.feed.new.port)
    (host.stands c.feed.new.self c.feed.new.port []).line.out fares (record { says = c.say.ensures.said; now_is = c.say.ensures.stands }) (host.framing c.feed.new.self) (content c.say.new.sink) c.in-Ok.ensures.fed c.in-Ok.ensures.rests small c.in-Ok-say.ensures.ok)

pub returns-in-Ok-say-clause-alike : goal.returns-in-Ok-say-clause-alike
returns-in-Ok-say-clause-alike g c first octets before fares same =
    let host = g.L.FedHost in
    let fed = c.in-Ok.ensures.fed in
    follows_alike c.args.octet (host.framing c.args.host.now) (host.framing c.feed.new.self) fed.0 fed.1 fares.limit fares.sound c.args.framer.now c.follow.new.framer c.follow.ensures.0 same c.follow.ensures.1 ∙ sym c.say.ensures.framing

pub returns-in-Err-say-clause-hears : goal.returns-in-Err-say-clause-hears
returns-in-Err-say-clause-hears g c first octets before small fares =
    let host = g.L.FedHost in
    let content = g.K.Sink.content in
    taken_halts (host.profile c.args.host.now) first octets c.args.octet (host.framing c.args.host.now) (host.stands c.args.host.now c.args.port.now) (host.stands c.feed.new.self c.feed.new.port) (host.stands c.say.new.host c.feed.new.port) before (beside (content c.args.sink.now) host.faults host.shortages c.args.port.now) (counts_of host.faults host.shortages c.feed.new.port)
    (host.stands c.feed.new.self c.feed.new.port []).line.out fares (record { says = c.say.ensures.said; now_is = c.say.ensures.stands }) (host.framing c.feed.new.self) (content c.say.new.sink) c.in-Ok.ensures.fed c.in-Ok.ensures.rests small c.say.ensures.front c.in-Err-say.fault c.in-Err-say.ensures.of_sink

pub returns-then-is_short-clause-hears : goal.returns-then-is_short-clause-hears
returns-then-is_short-clause-hears g c first octets before small fares =
    let host = g.L.FedHost in
    let content = g.K.Sink.content in
    short_halts (host.profile c.args.host.now) first octets c.args.octet (host.framing c.args.host.now) (host.stands c.args.host.now c.args.port.now) (host.stands c.feed.new.self c.feed.new.port) before (beside (content c.args.sink.now) host.faults host.shortages c.args.port.now) (counts_of host.faults host.shortages c.feed.new.port) fares

pub returns-in-Ok-say-2-clause-hears : goal.returns-in-Ok-say-2-clause-hears
returns-in-Ok-say-2-clause-hears g c first octets before small fares behind left =
    let host = g.L.FedHost in
    let content = g.K.Sink.content in
    subst (λ (w : ListenFault). Halts (host.profile c.args.host.now) first (octets ++ c.args.octet ∷ []) behind left (host.stands c.say-2.new.host c.feed.new.port) before (beside (content c.say-2.new.sink) host.faults host.shortages c.feed.new.port) (Err w)) (sym c.told.ensures)
    (refused_halts (host.profile c.args.host.now) first octets c.args.octet (host.framing c.args.host.now) (host.stands c.args.host.now c.args.port.now) (host.stands c.feed.new.self c.feed.new.port) (host.stands c.say-2.new.host c.feed.new.port) before (beside (content c.args.sink.now) host.faults host.shortages c.args.port.now) (counts_of host.faults host.shortages c.feed.new.port)
    (host.stands c.feed.new.self c.feed.new.port []).line.out fares (record { says = c.say-2.ensures.said; now_is = c.say-2.ensures.stands }) (host.framing c.feed.new.self) (content c.say-2.new.sink) c.in-Err.refusal (c.is_short.ensures.no c.if-is_short.false) c.in-Err.ensures.fed small c.in-Ok-say-2.ensures.ok behind left)

pub returns-in-Err-say-2-clause-hears : goal.returns-in-Err-say-2-clause-hears
returns-in-Err-say-2-clause-hears g c first octets before small fares =
    let host = g.L.FedHost in
    let content = g.K.Sink.content in
    stopped_halts (host.profile c.args.host.now) first octets c.args.octet (host.framing c.args.host.now) (host.stands c.args.host.now c.args.port.now) (host.stands c.feed.new.self c.feed.new.port) (host.stands c.say-2.new.host c.feed.new.port) before (beside (content c.args.sink.now) host.faults host.shortages c.args.port.now) (counts_of host.faults host.shortages c.feed.new.port)
    (host.stands c.feed.new.self c.feed.new.port []).line.out fares (record { says = c.say-2.ensures.said; now_is = c.say-2.ensures.stands }) (host.framing c.feed.new.self) (content c.say-2.new.sink) c.in-Err.refusal (c.is_short.ensures.no c.if-is_short.false) c.in-Err.ensures.fed c.say-2.ensures.front c.in-Err-say-2.fault c.in-Err-say-2.ensures.of_sink
