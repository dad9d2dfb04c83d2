use Rattle.std.proofs.Common.{◌≡◌, ◌≤◌, ◌+◌, ◌∙◌, ℕ, Ok, Err, length, take, ap, subst, arith, refl}
use Rattle.std.proofs.lemmas.List.{length-take}
use Rattle.h4_framing.specs.Framing.{Framing}
use Rattle.btpush_forms.specs.h4_view.specs.View.{Took}
use Rattle.receiving.specs.declared.fault.ListenFault.TheVariants.{WriteFault}
use Rattle.receiving.specs.Coming.{input_limit, beside}
use Rattle.receiving.specs.Faring.{EndsHeld}
use Rattle.receiving.proofs.Counting.{unmoved, never_other}
use Rattle.receiving.proofs.Streams.{source_fails, source_ends, piece_follows, piece_stops}
use Rattle.receiving.proofs.listening.hear_next.Goals as goal

pub returns-in-Err-clause-follows : goal.returns-in-Err-clause-follows
returns-in-Err-clause-follows g c first origin before F same =
    let host = g.L.FedHost in
    let content = g.K.Sink.content in
    source_fails (host.profile c.args.host.now) first origin (g.S.Source.content c.args.source.now) (host.framing c.args.host.now) (host.stands c.args.host.now c.args.port.now) before (beside (content c.args.sink.now) host.faults host.shortages c.args.port.now) c.args.count.now F c.in-Err.fault (g.S.Source.content c.read_piece.new.source) c.in-Err.ensures.of_source c.in-Err.ensures.kept

pub returns-in-Ok-ending-clause-follows : goal.returns-in-Ok-ending-clause-follows
returns-in-Ok-ending-clause-follows g c first origin before F same =
    let host = g.L.FedHost in
    let content = g.K.Sink.content in
    let took = subst (λ (k : ℕ). Took (g.S.Source.content c.args.source.now) (g.S.Source.content c.read_piece.new.source) (take k c.read_piece.new.piece)) c.if-n-eq0.true c.in-Ok.ensures.took.1 in
    let none = c.in-Ok.ensures.finish (ap Ok c.if-n-eq0.true) (omega (arith, length-take c.min-room.result c.args.piece.now, c.min-room.ensures, c.requires.room, c.requires.below)) in
    source_ends (host.profile c.args.host.now) first origin (g.S.Source.content c.args.source.now) (host.framing c.args.host.now) (host.stands c.args.host.now c.args.port.now) before (beside (content c.args.sink.now) host.faults host.shortages c.args.port.now) c.args.count.now F (Ok tt) (g.S.Source.content c.read_piece.new.source) took none
    (subst (λ (f : Framing). EndsHeld f (Ok tt)) same (c.in-Ok-ending.ensures.ends (ap (λ (f : Framing). f.fault) same ∙ F.fares.sound) (ap (λ (f : Framing). f.limit) same ∙ F.fares.limit)))

pub returns-in-Err-ending-clause-follows : goal.returns-in-Err-ending-clause-follows
returns-in-Err-ending-clause-follows g c first origin before F same =
    let host = g.L.FedHost in
    let content = g.K.Sink.content in
    let took = subst (λ (k : ℕ). Took (g.S.Source.content c.args.source.now) (g.S.Source.content c.read_piece.new.source) (take k c.read_piece.new.piece)) c.if-n-eq0.true c.in-Ok.ensures.took.1 in
    let none = c.in-Ok.ensures.finish (ap Ok c.if-n-eq0.true) (omega (arith, length-take c.min-room.result c.args.piece.now, c.min-room.ensures, c.requires.room, c.requires.below)) in
    source_ends (host.profile c.args.host.now) first origin (g.S.Source.content c.args.source.now) (host.framing c.args.host.now) (host.stands c.args.host.now c.args.port.now) before (beside (content c.args.sink.now) host.faults host.shortages c.args.port.now) c.args.count.now F (Err c.in-Err-ending.fault) (g.S.Source.content c.read_piece.new.source) took none
    (subst (λ (f : Framing). EndsHeld f (Err c.in-Err-ending.fault)) same (c.in-Err-ending.ensures.ends (ap (λ (f : Framing). f.fault) same ∙ F.fares.sound) (ap (λ (f : Framing). f.limit) same ∙ F.fares.limit)))

pub returns-in-Err-ending-clause-sink_counts : goal.returns-in-Err-ending-clause-sink_counts
returns-in-Err-ending-clause-sink_counts g c = unmoved _ _ _ _ WriteFault (Err c.in-Err-ending.fault) refl refl (never_other c.in-Err-ending.fault WriteFault c.in-Err-ending.ensures.no_write)

pub returns-in-Ok-hear_piece-clause-follows : goal.returns-in-Ok-hear_piece-clause-follows
returns-in-Ok-hear_piece-clause-follows g c first origin before F same =
    let host = g.L.FedHost in
    let content = g.K.Sink.content in
    let piece = take c.in-Ok.n c.read_piece.new.piece in
    let size : length piece ≡ c.in-Ok.n = omega (arith, length-take c.in-Ok.n c.read_piece.new.piece, c.in-Ok.ensures.took.0, c.read_piece.auto.piece) in
    let room : c.args.count.now + c.in-Ok.n ≤ input_limit = omega (arith, length-take c.min-room.result c.args.piece.now, c.in-Ok.ensures.took.0, c.min-room.ensures, c.requires.below) in
    piece_follows (host.profile c.args.host.now) first origin (g.S.Source.content c.args.source.now) (host.framing c.args.host.now) (host.stands c.args.host.now c.args.port.now) before (beside (content c.args.sink.now) host.faults host.shortages c.args.port.now) c.args.count.now F (g.S.Source.content c.read_piece.new.source) piece c.in-Ok.n c.in-Ok.ensures.took.1 size room (host.framing c.hear_piece.new.host) (host.stands c.hear_piece.new.host c.hear_piece.new.port) (beside (content c.hear_piece.new.sink) host.faults host.shortages c.hear_piece.new.port)
    (c.in-Ok-hear_piece.ensures.hears first F.octets before (omega (arith, F.counted, size, room)) F.fares)

pub returns-in-Ok-hear_piece-clause-alike : goal.returns-in-Ok-hear_piece-clause-alike
returns-in-Ok-hear_piece-clause-alike g c first origin before F same is =
    let piece = take c.in-Ok.n c.read_piece.new.piece in
    let size : length piece ≡ c.in-Ok.n = omega (arith, length-take c.in-Ok.n c.read_piece.new.piece, c.in-Ok.ensures.took.0, c.read_piece.auto.piece) in
    let room : c.args.count.now + c.in-Ok.n ≤ input_limit = omega (arith, length-take c.min-room.result c.args.piece.now, c.in-Ok.ensures.took.0, c.min-room.ensures, c.requires.below) in
    c.in-Ok-hear_piece.ensures.alike first F.octets before (omega (arith, F.counted, size, room)) F.fares same

pub returns-in-Err-hear_piece-clause-follows : goal.returns-in-Err-hear_piece-clause-follows
returns-in-Err-hear_piece-clause-follows g c first origin before F same =
    let host = g.L.FedHost in
    let content = g.K.Sink.content in
    let piece = take c.in-Ok.n c.read_piece.new.piece in
    let size : length piece ≡ c.in-Ok.n = omega (arith, length-take c.in-Ok.n c.read_piece.new.piece, c.in-Ok.ensures.took.0, c.read_piece.auto.piece) in
    let room : c.args.count.now + c.in-Ok.n ≤ input_limit = omega (arith, length-take c.min-room.result c.args.piece.now, c.in-Ok.ensures.took.0, c.min-room.ensures, c.requires.below) in
    piece_stops (host.profile c.args.host.now) first origin (g.S.Source.content c.args.source.now) (host.framing c.args.host.now) (host.stands c.args.host.now c.args.port.now) before (beside (content c.args.sink.now) host.faults host.shortages c.args.port.now) c.args.count.now F (g.S.Source.content c.read_piece.new.source) piece c.in-Ok.n c.in-Ok.ensures.took.1 size room (host.framing c.hear_piece.new.host) (host.stands c.hear_piece.new.host c.hear_piece.new.port) (beside (content c.hear_piece.new.sink) host.faults host.shortages c.hear_piece.new.port)
    c.in-Err-hear_piece.fault (c.in-Err-hear_piece.ensures.hears first F.octets before (omega (arith, F.counted, size, room)) F.fares)
