use Rattle.std.proofs.Common.{◌-◌, ◌≡◌, ◌≤◌, []}
use Rattle.receiving.specs.Turns.{Begun}
use Rattle.receiving.specs.Coming.{input_limit, Beside, beside}
use Rattle.receiving.specs.Faring.{Fares, Follows}
use Rattle.receiving.proofs.listening.listen.Given as goal

abbrev pub invariant-loop-count : goal.invariant-loop-count
invariant-loop-count g l =
    let host = g.L.FedHost in
    let content = g.K.Sink.content in
    record {
      follows : (first : Begun host.State) (before : Beside) → Fares (host.profile l.initial.host) first [] (host.framing l.initial.host) (host.stands l.initial.host l.initial.port) before (beside (content l.initial.sink) host.faults host.shortages l.initial.port) → l.initial.framer ≡ host.framing l.initial.host
          → Follows (host.profile l.initial.host) first (g.S.Source.content l.initial.source) (g.S.Source.content l.source) (host.framing l.host) (host.stands l.host l.port) before (beside (content l.sink) host.faults host.shortages l.port) l.count;
      alike : (first : Begun host.State) (before : Beside) → Fares (host.profile l.initial.host) first [] (host.framing l.initial.host) (host.stands l.initial.host l.initial.port) before (beside (content l.initial.sink) host.faults host.shortages l.initial.port) → l.initial.framer ≡ host.framing l.initial.host
          → l.framer ≡ host.framing l.host;
      sound : host.is_sound l.host l.port;
      profile : host.profile l.host ≡ host.profile l.initial.host;
      below : l.count ≤ input_limit;
      source_faults : g.S.Source.faults l.source ≡ g.S.Source.faults l.initial.source;
      source_shortages : g.S.Source.shortages l.source ≡ g.S.Source.shortages l.initial.source;
      faults : g.K.Sink.faults l.sink ≡ g.K.Sink.faults l.initial.sink;
      shortages : g.K.Sink.shortages l.sink ≡ g.K.Sink.shortages l.initial.sink;
      port : host.shortages l.initial.port ≤ host.shortages l.port;
    }

abbrev pub decreases-loop-count : goal.decreases-loop-count
decreases-loop-count g l = 67108864 - l.count
