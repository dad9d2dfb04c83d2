use Rattle.std.proofs.Common.{◌≡◌, ◌+◌, ◌≤◌, ◌||◌, arith, [], Bool, true, false, Result, Ok, refl, sym, ap, ap₂, subst, ◌∙◌}
use Rattle.push_terms.specs.declared.word.Side.{Side}
use Rattle.push_terms.specs.declared.word.Side.TheVariants.{A, B}
use Rattle.room_laws.specs.Rooms.{OwesNoneBack}
use Rattle.radio_world.specs.Leaving.{Medium}
use Rattle.radio_world.specs.Counting.{one_if}
use Rattle.radio_world.specs.Shortages.{ShelfLacked}
use Rattle.radio_world.proofs.Wanting.{any_err, lacks_on, lacks_by_trace}
use Rattle.radio_world.proofs.Reasons.{wants_behind}
use Rattle.radio_world.proofs.Crowding.{exchange_wants_a, exchange_wants_b}
use Rattle.radio_world.proofs.Returned.{exchange_gives_none}
use Rattle.radio_world.proofs.Tallying.{advances_by_then}
use Rattle.radio_world.specs.Hosts.{Asking, answering}
use Rattle.radio_world.specs.Scenes.{Scene, moment, world_at, Begins}
use Rattle.room_laws.specs.world_model.specs.Pushes.{next_name}
use Rattle.room_laws.specs.world_model.specs.Stations.{IsStopped}
use Rattle.room_laws.specs.world_model.specs.Worlds.{IsSettled}
use Rattle.radio_world.proofs.Advancing.{advances_then, begun_or_not, exchanged_a, exchanged_b, ended_or_not}
use Rattle.radio_world.proofs.Settling.{settles}
use Rattle.radio_world.proofs.Standing.{reached_then}
use Rattle.radio_world.proofs.Hearing.{a_hears, b_hears}
use Rattle.radio_world.proofs.Broken.{broken_then, broken_a, broken_b, begin_broken, end_broken}
use Rattle.radio_world.proofs.scene.Scene.round.Goals as goal

pub exchange-requires-clause-heard : goal.exchange-requires-clause-heard
exchange-requires-clause-heard g c =
    let one = g.A.Host in
    let two = g.B.Host in
    let joins_a = g.met.A.Host.joins in
    let joins_b = g.met.B.Host.joins in
    let content = g.T.Sink.content in
    let began = begun_or_not one.machine two.machine one.answers two.answers c.in_ok-began.began c.args.self.now c.begin.new.self (one.station c.args.a.now c.args.shelf.now) (one.station c.begin.new.a c.begin.new.shelf) (two.station c.args.b.now c.args.inbox.now)
    c.args.shelf.now c.begin.new.shelf c.args.inbox.now (content c.args.trace.now) (content c.begin.new.trace) joins_a joins_b
    (λ is. subst (λ (side : Side). Begins one.machine side one.answers c.args.self.now c.begin.new.self (one.station c.args.a.now c.args.shelf.now) (one.station c.begin.new.a c.begin.new.shelf) c.args.shelf.now c.begin.new.shelf (content c.args.trace.now) (content c.begin.new.trace))
    c.requires.sides.0 (c.in_ok-began.ensures.begins (ap Ok is)))
    (λ is. let same = c.in_ok-began.ensures.none (ap Ok is) in (same.0, ap₂ one.station same.1 same.2, same.2, same.3)) in
    a_hears one.machine two.machine c.begin.new.self (one.station c.begin.new.a c.begin.new.shelf) (two.station c.args.b.now c.args.inbox.now)
    (reached_then one.machine two.machine one.answers two.answers [] _ _ began.advances c.requires.reached)

pub exchange-requires-2-clause-heard : goal.exchange-requires-2-clause-heard
exchange-requires-2-clause-heard g c =
    let one = g.A.Host in
    let two = g.B.Host in
    let joins_a = g.met.A.Host.joins in
    let joins_b = g.met.B.Host.joins in
    let content = g.T.Sink.content in
    let began = begun_or_not one.machine two.machine one.answers two.answers c.in_ok-began.began c.args.self.now c.begin.new.self (one.station c.args.a.now c.args.shelf.now) (one.station c.begin.new.a c.begin.new.shelf) (two.station c.args.b.now c.args.inbox.now)
    c.args.shelf.now c.begin.new.shelf c.args.inbox.now (content c.args.trace.now) (content c.begin.new.trace) joins_a joins_b
    (λ is. subst (λ (side : Side). Begins one.machine side one.answers c.args.self.now c.begin.new.self (one.station c.args.a.now c.args.shelf.now) (one.station c.begin.new.a c.begin.new.shelf) c.args.shelf.now c.begin.new.shelf (content c.args.trace.now) (content c.begin.new.trace))
    c.requires.sides.0 (c.in_ok-began.ensures.begins (ap Ok is)))
    (λ is. let same = c.in_ok-began.ensures.none (ap Ok is) in (same.0, ap₂ one.station same.1 same.2, same.2, same.3)) in
    let moved_a = exchanged_a (one_if c.in_ok-moved_a.moved_a) one.machine two.machine one.answers two.answers c.begin.new.self c.exchange.new.self (one.station c.begin.new.a c.begin.new.shelf) (one.station c.exchange.new.host c.exchange.new.port) (two.station c.args.b.now c.args.inbox.now)
    c.begin.new.shelf c.exchange.new.port c.args.inbox.now (content c.begin.new.trace) (content c.exchange.new.trace) joins_b c.in_ok-moved_a.ensures.scene c.in_ok-moved_a.ensures.goes in
    b_hears one.machine two.machine c.exchange.new.self (one.station c.exchange.new.host c.exchange.new.port) (two.station c.args.b.now c.args.inbox.now)
    (reached_then one.machine two.machine one.answers two.answers [] _ _ moved_a.advances (reached_then one.machine two.machine one.answers two.answers [] _ _ began.advances c.requires.reached))

some_of : (x y z w : Bool) → one_if (x || y || z || w) ≤ one_if x + one_if y + one_if z + one_if w
some_of true y z w = omega arith
some_of false true z w = omega arith
some_of false false true w = omega arith
some_of false false false w = omega arith

pub returns-clause-advances : goal.returns-clause-advances
returns-clause-advances g c =
    let one = g.A.Host in
    let two = g.B.Host in
    let joins_a = g.met.A.Host.joins in
    let joins_b = g.met.B.Host.joins in
    let content = g.T.Sink.content in
    let began = begun_or_not one.machine two.machine one.answers two.answers c.in_ok-began.began c.args.self.now c.begin.new.self (one.station c.args.a.now c.args.shelf.now) (one.station c.begin.new.a c.begin.new.shelf) (two.station c.args.b.now c.args.inbox.now)
    c.args.shelf.now c.begin.new.shelf c.args.inbox.now (content c.args.trace.now) (content c.begin.new.trace) joins_a joins_b
    (λ is. subst (λ (side : Side). Begins one.machine side one.answers c.args.self.now c.begin.new.self (one.station c.args.a.now c.args.shelf.now) (one.station c.begin.new.a c.begin.new.shelf) c.args.shelf.now c.begin.new.shelf (content c.args.trace.now) (content c.begin.new.trace))
    c.requires.sides.0 (c.in_ok-began.ensures.begins (ap Ok is)))
    (λ is. let same = c.in_ok-began.ensures.none (ap Ok is) in (same.0, ap₂ one.station same.1 same.2, same.2, same.3)) in
    let moved_a = exchanged_a (one_if c.in_ok-moved_a.moved_a) one.machine two.machine one.answers two.answers c.begin.new.self c.exchange.new.self (one.station c.begin.new.a c.begin.new.shelf) (one.station c.exchange.new.host c.exchange.new.port) (two.station c.args.b.now c.args.inbox.now)
    c.begin.new.shelf c.exchange.new.port c.args.inbox.now (content c.begin.new.trace) (content c.exchange.new.trace) joins_b c.in_ok-moved_a.ensures.scene c.in_ok-moved_a.ensures.goes in
    let moved_b = exchanged_b (one_if c.in_ok-moved_b.moved_b) one.machine two.machine one.answers two.answers c.exchange.new.self c.exchange-2.new.self (one.station c.exchange.new.host c.exchange.new.port) (two.station c.args.b.now c.args.inbox.now) (two.station c.exchange-2.new.host c.exchange-2.new.port)
    c.exchange.new.port c.args.inbox.now c.exchange-2.new.port (content c.exchange.new.trace) (content c.exchange-2.new.trace) joins_a c.in_ok-moved_b.ensures.scene c.in_ok-moved_b.ensures.goes in
    let ended = ended_or_not one.machine two.machine one.answers two.answers c.in_ok-ended.ended c.exchange-2.new.self c.end_idle.new.self (one.station c.exchange.new.host c.exchange.new.port) (two.station c.exchange-2.new.host c.exchange-2.new.port)
    c.exchange.new.port c.exchange-2.new.port (content c.exchange-2.new.trace) (content c.end_idle.new.trace) joins_a joins_b
    (λ is. c.in_ok-ended.ensures.ends (ap Ok is) c.exchange.new.port) (λ is. c.in_ok-ended.ensures.none (ap Ok is)) in
    let x = c.in_ok-began.began in
    let y = c.in_ok-moved_a.moved_a in
    let z = c.in_ok-moved_b.moved_b in
    let w = c.in_ok-ended.ended in
    advances_by_then (one_if x + one_if y + one_if z) (one_if w) (one_if (x || y || z || w)) one.machine two.machine one.answers two.answers [] [] _ _ _ joins_a joins_b (some_of x y z w)
    (advances_by_then (one_if x + one_if y) (one_if z) (one_if x + one_if y + one_if z) one.machine two.machine one.answers two.answers [] [] _ _ _ joins_a joins_b (omega arith)
    (advances_by_then (one_if x) (one_if y) (one_if x + one_if y) one.machine two.machine one.answers two.answers [] [] _ _ _ joins_a joins_b (omega arith) began moved_a) moved_b) ended

none_of : {E : Type 0} (x y z w : Bool) (r : Result Bool E) → r ≡ Ok (x || y || z || w) → r ≡ Ok false → (x ≡ false) × (y ≡ false) × (z ≡ false) × (w ≡ false)
none_of false false false false r one other = (refl, refl, refl, refl)
none_of false false false true r one other = absurd cc
none_of false false true w r one other = absurd cc
none_of false true z w r one other = absurd cc
none_of true y z w r one other = absurd cc

pub returns-clause-settled : goal.returns-clause-settled
returns-clause-settled g c = λ is rest_a rest_b.
    let one = g.A.Host in
    let two = g.B.Host in
    let none = none_of c.in_ok-began.began c.in_ok-moved_a.moved_a c.in_ok-moved_b.moved_b c.in_ok-ended.ended _ refl is in
    let began = c.in_ok-began.ensures.none (ap Ok none.0) in
    let put_a = c.in_ok-moved_a.ensures.none (ap Ok none.1) in
    let put_b = c.in_ok-moved_b.ensures.none (ap Ok none.2) in
    let ended = c.in_ok-ended.ensures.none (ap Ok none.3) in
    subst (λ (s : Scene). IsSettled one.machine two.machine (world_at (moment s (answering rest_a (one.station c.exchange.new.host c.exchange.new.port)) (answering rest_b (two.station c.exchange-2.new.host c.exchange-2.new.port))))) (sym ended.0)
    (settles one.machine two.machine c.begin.new.self c.exchange.new.self c.exchange-2.new.self (one.station c.begin.new.a c.begin.new.shelf) (one.station c.exchange.new.host c.exchange.new.port) (two.station c.args.b.now c.args.inbox.now) (two.station c.exchange-2.new.host c.exchange-2.new.port)
    (λ rest idle. ap (λ (s : Scene). next_name s.pushes) began.0 ∙ began.4 rest (ap (λ (h : Asking one.State one.Answer). one.machine.is_idle (h.upper rest)) (sym (ap₂ one.station began.1 began.2)) ∙ idle))
    c.in_ok-moved_a.ensures.still put_a c.in_ok-moved_a.ensures.scene.0
    c.in_ok-moved_b.ensures.still put_b c.in_ok-moved_b.ensures.scene.0
    (λ may. c.in_ok-ended.ensures.early (ap Ok none.3) may c.exchange.new.port)
    (λ rest. subst (λ (side : Side). IsStopped one.machine side (answering rest (one.station c.exchange.new.host c.exchange.new.port))) c.requires.sides.0 (g.met.A.Host.stops c.exchange.new.host c.exchange.new.port c.in_ok-moved_a.ensures.sound put_a.none_out rest))
    (λ rest. subst (λ (side : Side). IsStopped two.machine side (answering rest (two.station c.exchange-2.new.host c.exchange-2.new.port))) c.requires.sides.1 (g.met.B.Host.stops c.exchange-2.new.host c.exchange-2.new.port c.in_ok-moved_b.ensures.sound put_b.none_out rest))
    rest_a rest_b)

pub returns-in_err-began-clause-lacks : goal.returns-in_err-began-clause-lacks
returns-in_err-began-clause-lacks g c =
    lacks_on _ _ _ _ _ c.begin.result c.from_residual.result c.in_err-began.field-0.0 c.from_residual.ensures.1 c.in_err-began.was (omega arith) (λ cause. ShelfLacked cause) c.begin.ensures.lacks

pub returns-in_err-moved_a-clause-lacks : goal.returns-in_err-moved_a-clause-lacks
returns-in_err-moved_a-clause-lacks g c =
    let one = g.A.Host in
    let two = g.B.Host in
    let joins_a = g.met.A.Host.joins in
    let joins_b = g.met.B.Host.joins in
    let content = g.T.Sink.content in
    let begins : c.in_ok-began.began ≡ true → Begins one.machine A one.answers c.args.self.now c.begin.new.self (one.station c.args.a.now c.args.shelf.now) (one.station c.begin.new.a c.begin.new.shelf) c.args.shelf.now c.begin.new.shelf (content c.args.trace.now) (content c.begin.new.trace) =
    λ is. subst (λ (side : Side). Begins one.machine side one.answers c.args.self.now c.begin.new.self (one.station c.args.a.now c.args.shelf.now) (one.station c.begin.new.a c.begin.new.shelf) c.args.shelf.now c.begin.new.shelf (content c.args.trace.now) (content c.begin.new.trace))
    c.requires.sides.0 (c.in_ok-began.ensures.begins (ap Ok is)) in
    let began = begun_or_not one.machine two.machine one.answers two.answers c.in_ok-began.began c.args.self.now c.begin.new.self (one.station c.args.a.now c.args.shelf.now) (one.station c.begin.new.a c.begin.new.shelf) (two.station c.args.b.now c.args.inbox.now)
    c.args.shelf.now c.begin.new.shelf c.args.inbox.now (content c.args.trace.now) (content c.begin.new.trace) joins_a joins_b begins
    (λ is. let same = c.in_ok-began.ensures.none (ap Ok is) in (same.0, ap₂ one.station same.1 same.2, same.2, same.3)) in
    let none_back : OwesNoneBack c.begin.new.self.medium.radio = subst (λ (m : Medium). OwesNoneBack m.radio) (sym c.in_ok-began.ensures.medium) c.requires.none_back in
    let reached = reached_then one.machine two.machine one.answers two.answers [] _ _ began.advances c.requires.reached in
    lacks_on _ _ _ _ _ c.exchange.result c.from_residual-in_err-moved_a.result c.in_err-moved_a.field-0.0 c.from_residual-in_err-moved_a.ensures.1 c.in_err-moved_a.was c.begin.ensures.lacks.stays
    (λ cause. wants_behind one.machine two.machine one.answers two.answers one.lacked two.lacked [] [] [] [] _ _ _ _ _ joins_a joins_b g.met.A.Host.lacks g.met.B.Host.lacks refl began.advances
    (exchange_wants_a one.machine two.machine one.answers two.answers one.lacked two.lacked c.begin.new.self (one.station c.begin.new.a c.begin.new.shelf) (two.station c.args.b.now c.args.inbox.now) c.begin.new.shelf c.exchange.new.port c.args.inbox.now
    (content c.begin.new.trace) (content c.exchange.new.trace) joins_a joins_b c.requires.orderly reached none_back cause)) c.exchange.ensures.lacks

pub returns-in_err-moved_b-clause-lacks : goal.returns-in_err-moved_b-clause-lacks
returns-in_err-moved_b-clause-lacks g c =
    let one = g.A.Host in
    let two = g.B.Host in
    let joins_a = g.met.A.Host.joins in
    let joins_b = g.met.B.Host.joins in
    let content = g.T.Sink.content in
    let begins : c.in_ok-began.began ≡ true → Begins one.machine A one.answers c.args.self.now c.begin.new.self (one.station c.args.a.now c.args.shelf.now) (one.station c.begin.new.a c.begin.new.shelf) c.args.shelf.now c.begin.new.shelf (content c.args.trace.now) (content c.begin.new.trace) =
    λ is. subst (λ (side : Side). Begins one.machine side one.answers c.args.self.now c.begin.new.self (one.station c.args.a.now c.args.shelf.now) (one.station c.begin.new.a c.begin.new.shelf) c.args.shelf.now c.begin.new.shelf (content c.args.trace.now) (content c.begin.new.trace))
    c.requires.sides.0 (c.in_ok-began.ensures.begins (ap Ok is)) in
    let began = begun_or_not one.machine two.machine one.answers two.answers c.in_ok-began.began c.args.self.now c.begin.new.self (one.station c.args.a.now c.args.shelf.now) (one.station c.begin.new.a c.begin.new.shelf) (two.station c.args.b.now c.args.inbox.now)
    c.args.shelf.now c.begin.new.shelf c.args.inbox.now (content c.args.trace.now) (content c.begin.new.trace) joins_a joins_b begins
    (λ is. let same = c.in_ok-began.ensures.none (ap Ok is) in (same.0, ap₂ one.station same.1 same.2, same.2, same.3)) in
    let none_back : OwesNoneBack c.begin.new.self.medium.radio = subst (λ (m : Medium). OwesNoneBack m.radio) (sym c.in_ok-began.ensures.medium) c.requires.none_back in
    let reached = reached_then one.machine two.machine one.answers two.answers [] _ _ began.advances c.requires.reached in
    let moved_a = exchanged_a (one_if c.in_ok-moved_a.moved_a) one.machine two.machine one.answers two.answers c.begin.new.self c.exchange.new.self (one.station c.begin.new.a c.begin.new.shelf) (one.station c.exchange.new.host c.exchange.new.port) (two.station c.args.b.now c.args.inbox.now)
    c.begin.new.shelf c.exchange.new.port c.args.inbox.now (content c.begin.new.trace) (content c.exchange.new.trace) joins_b c.in_ok-moved_a.ensures.scene c.in_ok-moved_a.ensures.goes in
    let none_back_a = exchange_gives_none one.machine A one.answers c.begin.new.self.medium c.exchange.new.self.medium (one.station c.begin.new.a c.begin.new.shelf) (one.station c.exchange.new.host c.exchange.new.port) c.begin.new.shelf c.exchange.new.port
    (content c.begin.new.trace) (content c.exchange.new.trace) c.in_ok-moved_a.ensures.goes.goes c.in_ok-moved_a.ensures.still none_back in
    let before = advances_then one.machine two.machine one.answers two.answers [] [] _ _ _ joins_a joins_b began.advances moved_a.advances in
    lacks_on _ _ _ _ _ c.exchange-2.result c.from_residual-in_err-moved_b.result c.in_err-moved_b.field-0.0 c.from_residual-in_err-moved_b.ensures.1 c.in_err-moved_b.was (omega (arith, c.begin.ensures.lacks.stays, c.exchange.ensures.lacks.stays))
    (λ cause. wants_behind one.machine two.machine one.answers two.answers one.lacked two.lacked [] [] [] [] _ _ _ _ _ joins_a joins_b g.met.A.Host.lacks g.met.B.Host.lacks refl before
    (exchange_wants_b one.machine two.machine one.answers two.answers one.lacked two.lacked c.exchange.new.self (one.station c.exchange.new.host c.exchange.new.port) (two.station c.args.b.now c.args.inbox.now) c.exchange.new.port c.args.inbox.now c.exchange-2.new.port
    (content c.exchange.new.trace) (content c.exchange-2.new.trace) joins_a joins_b c.requires.orderly (reached_then one.machine two.machine one.answers two.answers [] _ _ moved_a.advances reached) none_back_a cause)) c.exchange-2.ensures.lacks

pub returns-in_err-ended-clause-lacks : goal.returns-in_err-ended-clause-lacks
returns-in_err-ended-clause-lacks g c =
    lacks_by_trace _ _ _ _ c.end_idle.result c.from_residual-in_err-ended.result c.in_err-ended.field-0.0 c.from_residual-in_err-ended.ensures.1 c.in_err-ended.was
    (omega (arith, c.begin.ensures.lacks.stays, c.exchange.ensures.lacks.stays, c.exchange-2.ensures.lacks.stays)) c.end_idle.ensures.lacks

pub returns-clause-none_back : goal.returns-clause-none_back
returns-clause-none_back g c =
    let one = g.A.Host in
    let two = g.B.Host in
    let content = g.T.Sink.content in
    let none_back : OwesNoneBack c.begin.new.self.medium.radio = subst (λ (m : Medium). OwesNoneBack m.radio) (sym c.in_ok-began.ensures.medium) c.requires.none_back in
    let none_back_a = exchange_gives_none one.machine A one.answers c.begin.new.self.medium c.exchange.new.self.medium (one.station c.begin.new.a c.begin.new.shelf) (one.station c.exchange.new.host c.exchange.new.port) c.begin.new.shelf c.exchange.new.port
    (content c.begin.new.trace) (content c.exchange.new.trace) c.in_ok-moved_a.ensures.goes.goes c.in_ok-moved_a.ensures.still none_back in
    let none_back_b = exchange_gives_none two.machine B two.answers c.exchange.new.self.medium c.exchange-2.new.self.medium (two.station c.args.b.now c.args.inbox.now) (two.station c.exchange-2.new.host c.exchange-2.new.port) c.args.inbox.now c.exchange-2.new.port
    (content c.exchange.new.trace) (content c.exchange-2.new.trace) c.in_ok-moved_b.ensures.goes.goes c.in_ok-moved_b.ensures.still none_back_a in
    subst (λ (m : Medium). OwesNoneBack m.radio) (sym c.in_ok-ended.ensures.medium) none_back_b

pub returns-in_err-began-clause-breaks : goal.returns-in_err-began-clause-breaks
returns-in_err-began-clause-breaks g c =
    let one = g.A.Host in
    let two = g.B.Host in
    let joins_a = g.met.A.Host.joins in
    let joins_b = g.met.B.Host.joins in
    let content = g.T.Sink.content in
    any_err c.from_residual.result
    (begin_broken one.machine two.machine one.answers two.answers one.lacked two.lacked two.station joins_a joins_b c.args.self.now (one.station c.args.a.now c.args.shelf.now) (two.station c.args.b.now c.args.inbox.now) c.args.shelf.now c.begin.new.shelf c.args.inbox.now (content c.args.trace.now) (content c.begin.new.trace)
    (c.args.b.now, refl) c.in_err-began.ensures.breaks)

pub returns-in_err-moved_a-clause-breaks : goal.returns-in_err-moved_a-clause-breaks
returns-in_err-moved_a-clause-breaks g c =
    let one = g.A.Host in
    let two = g.B.Host in
    let joins_a = g.met.A.Host.joins in
    let joins_b = g.met.B.Host.joins in
    let content = g.T.Sink.content in
    let begins : c.in_ok-began.began ≡ true → Begins one.machine A one.answers c.args.self.now c.begin.new.self (one.station c.args.a.now c.args.shelf.now) (one.station c.begin.new.a c.begin.new.shelf) c.args.shelf.now c.begin.new.shelf (content c.args.trace.now) (content c.begin.new.trace) =
    λ is. subst (λ (side : Side). Begins one.machine side one.answers c.args.self.now c.begin.new.self (one.station c.args.a.now c.args.shelf.now) (one.station c.begin.new.a c.begin.new.shelf) c.args.shelf.now c.begin.new.shelf (content c.args.trace.now) (content c.begin.new.trace))
    c.requires.sides.0 (c.in_ok-began.ensures.begins (ap Ok is)) in
    let began = begun_or_not one.machine two.machine one.answers two.answers c.in_ok-began.began c.args.self.now c.begin.new.self (one.station c.args.a.now c.args.shelf.now) (one.station c.begin.new.a c.begin.new.shelf) (two.station c.args.b.now c.args.inbox.now)
    c.args.shelf.now c.begin.new.shelf c.args.inbox.now (content c.args.trace.now) (content c.begin.new.trace) joins_a joins_b begins
    (λ is. let same = c.in_ok-began.ensures.none (ap Ok is) in (same.0, ap₂ one.station same.1 same.2, same.2, same.3)) in
    any_err c.from_residual-in_err-moved_a.result
    (broken_then one.machine two.machine one.answers two.answers one.lacked two.lacked two.station joins_a joins_b [] [] [] [] _ _ _ _ _ refl began.advances
    (broken_a one.machine two.machine one.answers two.answers one.lacked two.lacked two.station joins_a joins_b one.station c.begin.new.self (one.station c.begin.new.a c.begin.new.shelf) (two.station c.args.b.now c.args.inbox.now) c.begin.new.shelf c.exchange.new.port c.args.inbox.now (content c.begin.new.trace) (content c.exchange.new.trace)
    (c.args.b.now, refl) c.in_err-moved_a.ensures.breaks))

pub returns-in_err-moved_b-clause-breaks : goal.returns-in_err-moved_b-clause-breaks
returns-in_err-moved_b-clause-breaks g c =
    let one = g.A.Host in
    let two = g.B.Host in
    let joins_a = g.met.A.Host.joins in
    let joins_b = g.met.B.Host.joins in
    let content = g.T.Sink.content in
    let begins : c.in_ok-began.began ≡ true → Begins one.machine A one.answers c.args.self.now c.begin.new.self (one.station c.args.a.now c.args.shelf.now) (one.station c.begin.new.a c.begin.new.shelf) c.args.shelf.now c.begin.new.shelf (content c.args.trace.now) (content c.begin.new.trace) =
    λ is. subst (λ (side : Side). Begins one.machine side one.answers c.args.self.now c.begin.new.self (one.station c.args.a.now c.args.shelf.now) (one.station c.begin.new.a c.begin.new.shelf) c.args.shelf.now c.begin.new.shelf (content c.args.trace.now) (content c.begin.new.trace))
    c.requires.sides.0 (c.in_ok-began.ensures.begins (ap Ok is)) in
    let began = begun_or_not one.machine two.machine one.answers two.answers c.in_ok-began.began c.args.self.now c.begin.new.self (one.station c.args.a.now c.args.shelf.now) (one.station c.begin.new.a c.begin.new.shelf) (two.station c.args.b.now c.args.inbox.now)
    c.args.shelf.now c.begin.new.shelf c.args.inbox.now (content c.args.trace.now) (content c.begin.new.trace) joins_a joins_b begins
    (λ is. let same = c.in_ok-began.ensures.none (ap Ok is) in (same.0, ap₂ one.station same.1 same.2, same.2, same.3)) in
    let moved_a = exchanged_a (one_if c.in_ok-moved_a.moved_a) one.machine two.machine one.answers two.answers c.begin.new.self c.exchange.new.self (one.station c.begin.new.a c.begin.new.shelf) (one.station c.exchange.new.host c.exchange.new.port) (two.station c.args.b.now c.args.inbox.now)
    c.begin.new.shelf c.exchange.new.port c.args.inbox.now (content c.begin.new.trace) (content c.exchange.new.trace) joins_b c.in_ok-moved_a.ensures.scene c.in_ok-moved_a.ensures.goes in
    let before = advances_then one.machine two.machine one.answers two.answers [] [] _ _ _ joins_a joins_b began.advances moved_a.advances in
    any_err c.from_residual-in_err-moved_b.result
    (broken_then one.machine two.machine one.answers two.answers one.lacked two.lacked two.station joins_a joins_b [] [] [] [] _ _ _ _ _ refl before
    (broken_b one.machine two.machine one.answers two.answers one.lacked two.lacked two.station joins_a joins_b c.exchange.new.self (one.station c.exchange.new.host c.exchange.new.port) (two.station c.args.b.now c.args.inbox.now) c.exchange.new.port c.args.inbox.now c.exchange-2.new.port (content c.exchange.new.trace)
    (content c.exchange-2.new.trace) c.in_err-moved_b.ensures.breaks))

pub returns-in_err-ended-clause-breaks : goal.returns-in_err-ended-clause-breaks
returns-in_err-ended-clause-breaks g c =
    let one = g.A.Host in
    let two = g.B.Host in
    let joins_a = g.met.A.Host.joins in
    let joins_b = g.met.B.Host.joins in
    let content = g.T.Sink.content in
    let begins : c.in_ok-began.began ≡ true → Begins one.machine A one.answers c.args.self.now c.begin.new.self (one.station c.args.a.now c.args.shelf.now) (one.station c.begin.new.a c.begin.new.shelf) c.args.shelf.now c.begin.new.shelf (content c.args.trace.now) (content c.begin.new.trace) =
    λ is. subst (λ (side : Side). Begins one.machine side one.answers c.args.self.now c.begin.new.self (one.station c.args.a.now c.args.shelf.now) (one.station c.begin.new.a c.begin.new.shelf) c.args.shelf.now c.begin.new.shelf (content c.args.trace.now) (content c.begin.new.trace))
    c.requires.sides.0 (c.in_ok-began.ensures.begins (ap Ok is)) in
    let began = begun_or_not one.machine two.machine one.answers two.answers c.in_ok-began.began c.args.self.now c.begin.new.self (one.station c.args.a.now c.args.shelf.now) (one.station c.begin.new.a c.begin.new.shelf) (two.station c.args.b.now c.args.inbox.now)
    c.args.shelf.now c.begin.new.shelf c.args.inbox.now (content c.args.trace.now) (content c.begin.new.trace) joins_a joins_b begins
    (λ is. let same = c.in_ok-began.ensures.none (ap Ok is) in (same.0, ap₂ one.station same.1 same.2, same.2, same.3)) in
    let moved_a = exchanged_a (one_if c.in_ok-moved_a.moved_a) one.machine two.machine one.answers two.answers c.begin.new.self c.exchange.new.self (one.station c.begin.new.a c.begin.new.shelf) (one.station c.exchange.new.host c.exchange.new.port) (two.station c.args.b.now c.args.inbox.now)
    c.begin.new.shelf c.exchange.new.port c.args.inbox.now (content c.begin.new.trace) (content c.exchange.new.trace) joins_b c.in_ok-moved_a.ensures.scene c.in_ok-moved_a.ensures.goes in
    let moved_b = exchanged_b (one_if c.in_ok-moved_b.moved_b) one.machine two.machine one.answers two.answers c.exchange.new.self c.exchange-2.new.self (one.station c.exchange.new.host c.exchange.new.port) (two.station c.args.b.now c.args.inbox.now) (two.station c.exchange-2.new.host c.exchange-2.new.port)
    c.exchange.new.port c.args.inbox.now c.exchange-2.new.port (content c.exchange.new.trace) (content c.exchange-2.new.trace) joins_a c.in_ok-moved_b.ensures.scene c.in_ok-moved_b.ensures.goes in
    let before = advances_then one.machine two.machine one.answers two.answers [] [] _ _ _ joins_a joins_b
    (advances_then one.machine two.machine one.answers two.answers [] [] _ _ _ joins_a joins_b began.advances moved_a.advances) moved_b.advances in
    any_err c.from_residual-in_err-ended.result
    (broken_then one.machine two.machine one.answers two.answers one.lacked two.lacked two.station joins_a joins_b [] [] [] [] _ _ _ _ _ refl before
    (end_broken one.machine two.machine one.answers two.answers one.lacked two.lacked two.station joins_a joins_b c.exchange-2.new.self (one.station c.exchange.new.host c.exchange.new.port) (two.station c.exchange-2.new.host c.exchange-2.new.port) c.exchange.new.port c.exchange-2.new.port (content c.exchange-2.new.trace)
    (content c.end_idle.new.trace) (c.exchange-2.new.host, refl) (c.in_err-ended.ensures.breaks c.exchange.new.port)))
