use Rattle.std.proofs.Common.{◌≡◌, ◌≤◌, ◌+◌, ◌++◌, ℕ, List, length, take}
use Rattle.receiving.specs.Turns.{Begun}
use Rattle.receiving.specs.Coming.{input_limit, Beside, beside}
use Rattle.receiving.specs.Faring.{Fares}
use Rattle.receiving.proofs.hearing.hear_piece.Given as goal

abbrev pub invariant-loop-i : goal.invariant-loop-i
invariant-loop-i g l =
    let host = g.L.FedHost in
    let content = g.K.Sink.content in
    record {
      hears : (first : Begun host.State) (octets : List ℕ) (before : Beside) → length octets + length l.piece ≤ input_limit → Fares (host.profile l.initial.host) first octets (host.framing l.initial.host) (host.stands l.initial.host l.initial.port) before (beside (content l.initial.sink) host.faults host.shortages l.initial.port)
          → Fares (host.profile l.initial.host) first (octets ++ take l.i l.piece) (host.framing l.host) (host.stands l.host l.port) before (beside (content l.sink) host.faults host.shortages l.port);
      alike : (first : Begun host.State) (octets : List ℕ) (before : Beside) → length octets + length l.piece ≤ input_limit → Fares (host.profile l.initial.host) first octets (host.framing l.initial.host) (host.stands l.initial.host l.initial.port) before (beside (content l.initial.sink) host.faults host.shortages l.initial.port)
          → l.initial.framer ≡ host.framing l.initial.host → l.framer ≡ host.framing l.host;
      sound : host.is_sound l.host l.port;
      profile : host.profile l.host ≡ host.profile l.initial.host;
      faults : g.K.Sink.faults l.sink ≡ g.K.Sink.faults l.initial.sink;
      shortages : g.K.Sink.shortages l.sink ≡ g.K.Sink.shortages l.initial.sink;
      port : host.shortages l.initial.port ≤ host.shortages l.port;
    }
