use Rattle.std.proofs.Common.{◌≡◌, ◌||◌, Bool, true, false, Result, Ok, inl, refl, ap, subst, ◌∙◌, arith}
use Rattle.push_terms.specs.declared.word.Side.{Side}
use Rattle.push_terms.specs.declared.word.Side.TheVariants.{A, B}
use Rattle.radio_model.specs.Controllers.{other_side}
use Rattle.radio_model.specs.Radio.{Radio, controller, after_offer}
use Rattle.radio_world.specs.Leaving.{Medium}
use Rattle.radio_world.proofs.Moving.{goes_back}
use Rattle.radio_world.specs.Counting.{one_if}
use Rattle.radio_world.proofs.Tallying.{either_one, goes_by_any, goes_by_then}
use Rattle.radio_world.proofs.Hearing.{heard_then}
use Rattle.radio_model.specs.Owed.{owes_many}
use Rattle.radio_world.specs.Shortages.{PortLacked, ReturnWants}
use Rattle.radio_world.proofs.Wanting.{any_err, lacks_for, lacks_on}
use Rattle.radio_world.proofs.Breaking.{goes_no_more, goes_broken_then}
use Rattle.radio_world.proofs.medium.Medium.exchange.Goals as goal

pub move_all_into-requires-clause-heard : goal.move_all_into-requires-clause-heard
move_all_into-requires-clause-heard g c =
    let host = g.H.Host in
    let content = g.T.Sink.content in
    heard_then host.machine c.args.side host.answers c.move_out.new.self c.give_back.new.self (host.station c.move_out.new.host c.move_out.new.port) (host.station c.move_out.new.host c.move_out.new.port) c.move_out.new.port c.move_out.new.port
    (content c.move_out.new.trace) (content c.move_out.new.trace)
    (goes_back host.machine c.args.side host.answers c.move_out.new.self c.give_back.new.self (host.station c.move_out.new.host c.move_out.new.port) c.move_out.new.port (content c.move_out.new.trace) g.met.H.Host.joins c.in_ok-give_back.ensures.ok)
    (heard_then host.machine c.args.side host.answers c.args.self.now c.move_out.new.self (host.station c.args.host.now c.args.port.now) (host.station c.move_out.new.host c.move_out.new.port) c.args.port.now c.move_out.new.port
    (content c.args.trace.now) (content c.move_out.new.trace) c.in_ok-left.ensures.goes.goes c.requires.heard)

pub returns-clause-goes : goal.returns-clause-goes
returns-clause-goes g c =
    let host = g.H.Host in
    let content = g.T.Sink.content in
    let back = goes_by_any host.machine c.args.side host.answers _ _ _ _ _ _ _ _
    (goes_back host.machine c.args.side host.answers c.move_out.new.self c.give_back.new.self (host.station c.move_out.new.host c.move_out.new.port) c.move_out.new.port (content c.move_out.new.trace) g.met.H.Host.joins c.in_ok-give_back.ensures.ok) in
    let given = goes_by_then (one_if c.in_ok-left.left) 0 (one_if c.in_ok-left.left) host.machine c.args.side host.answers c.args.self.now c.move_out.new.self c.give_back.new.self
    (host.station c.args.host.now c.args.port.now) (host.station c.move_out.new.host c.move_out.new.port) (host.station c.move_out.new.host c.move_out.new.port)
    c.args.port.now c.move_out.new.port c.move_out.new.port (content c.args.trace.now) (content c.move_out.new.trace) (content c.move_out.new.trace) g.met.H.Host.joins (omega arith) c.in_ok-left.ensures.goes back in
    goes_by_then (one_if c.in_ok-left.left) (one_if c.in_ok-came.came) (one_if (c.in_ok-left.left || c.in_ok-came.came)) host.machine c.args.side host.answers c.args.self.now c.give_back.new.self c.move_all_into.new.self
    (host.station c.args.host.now c.args.port.now) (host.station c.move_out.new.host c.move_out.new.port) (host.station c.move_all_into.new.host c.move_all_into.new.port)
    c.args.port.now c.move_out.new.port c.move_all_into.new.port (content c.args.trace.now) (content c.move_out.new.trace) (content c.move_all_into.new.trace) g.met.H.Host.joins (either_one c.in_ok-left.left c.in_ok-came.came) given c.in_ok-came.ensures.goes

neither : {E : Type 0} (x y : Bool) (r : Result Bool E) → r ≡ Ok (x || y) → r ≡ Ok false → (x ≡ false) × (y ≡ false)
neither false false r one other = (refl, refl)
neither false true r one other = absurd cc
neither true y r one other = absurd cc

returned : (side : Side) (radio : Radio) → (controller side (after_offer side radio)).taken ≡ 0
returned A radio = refl
returned B radio = refl

other_stays : (side : Side) (radio : Radio) → controller (other_side side) (after_offer side radio) ≡ controller (other_side side) radio
other_stays A radio = refl
other_stays B radio = refl

pub returns-clause-none : goal.returns-clause-none
returns-clause-none g c = λ is.
    let still = neither c.in_ok-left.left c.in_ok-came.came _ refl is in
    let left = c.in_ok-left.ensures.none (ap Ok still.0) in
    let came = c.in_ok-came.ensures.none (ap Ok still.1) in
    let medium : c.move_all_into.new.self ≡ c.give_back.new.self = came.0 in
    record {
      none_out = ap (λ s. s.out) (came.1 ∙ left.2) ∙ left.0;
      returned = ap (λ (m : Medium). (controller c.args.side m.radio).taken) (medium ∙ c.in_ok-give_back.ensures.ok) ∙ returned c.args.side c.move_out.new.self.radio;
      station_is = came.1 ∙ left.2;
      other_is = ap (λ (m : Medium). controller (other_side c.args.side) m.radio) (medium ∙ c.in_ok-give_back.ensures.ok) ∙ other_stays c.args.side c.move_out.new.self.radio ∙ ap (λ (m : Medium). controller (other_side c.args.side) m.radio) left.1;
    }

pub returns-in_err-give_back-clause-lacks : goal.returns-in_err-give_back-clause-lacks
returns-in_err-give_back-clause-lacks g c =
    lacks_for _ _ _ c.from_residual-in_err-give_back.result c.move_out.ensures.lacks.stays
    (ReturnWants (subst (λ (m : Medium). owes_many 16 m.radio ≡ true) c.in_ok-left.ensures.medium c.in_err-give_back.ensures.full))

pub returns-in_err-came-clause-lacks : goal.returns-in_err-came-clause-lacks
returns-in_err-came-clause-lacks g c =
    lacks_on _ _ _ _ _ c.move_all_into.result c.from_residual-in_err-came.result c.in_err-came.field-0.0 c.from_residual-in_err-came.ensures.1 c.in_err-came.was c.move_out.ensures.lacks.stays
    (λ cause. PortLacked (g.met.H.Host.lacks c.args.port.now c.move_out.new.port c.move_all_into.new.port c.in_ok-left.ensures.goes.goes.used c.in_ok-left.ensures.goes.goes.answered cause)) c.move_all_into.ensures.lacks

pub returns-in_err-give_back-clause-breaks : goal.returns-in_err-give_back-clause-breaks
returns-in_err-give_back-clause-breaks g c =
    let host = g.H.Host in
    let content = g.T.Sink.content in
    any_err c.from_residual-in_err-give_back.result
    (goes_no_more host.machine c.args.side host.answers host.lacked host.station g.met.H.Host.joins c.args.self.now c.move_out.new.self (host.station c.args.host.now c.args.port.now) (host.station c.move_out.new.host c.move_out.new.port)
    c.args.port.now c.move_out.new.port c.move_out.new.port (content c.args.trace.now) (content c.move_out.new.trace) c.in_ok-left.ensures.goes.goes (c.move_out.new.host, refl) (inl refl))

pub returns-in_err-came-clause-breaks : goal.returns-in_err-came-clause-breaks
returns-in_err-came-clause-breaks g c =
    let host = g.H.Host in
    let content = g.T.Sink.content in
    let joins = g.met.H.Host.joins in
    let back = goes_back host.machine c.args.side host.answers c.move_out.new.self c.give_back.new.self (host.station c.move_out.new.host c.move_out.new.port) c.move_out.new.port (content c.move_out.new.trace) joins c.in_ok-give_back.ensures.ok in
    any_err c.from_residual-in_err-came.result
    (goes_broken_then host.machine c.args.side host.answers host.lacked host.station joins c.args.self.now c.move_out.new.self (host.station c.args.host.now c.args.port.now) (host.station c.move_out.new.host c.move_out.new.port)
    c.args.port.now c.move_out.new.port c.move_all_into.new.port (content c.args.trace.now) (content c.move_out.new.trace) (content c.move_all_into.new.trace) c.in_ok-left.ensures.goes.goes
    (goes_broken_then host.machine c.args.side host.answers host.lacked host.station joins c.move_out.new.self c.give_back.new.self (host.station c.move_out.new.host c.move_out.new.port) (host.station c.move_out.new.host c.move_out.new.port)
    c.move_out.new.port c.move_out.new.port c.move_all_into.new.port (content c.move_out.new.trace) (content c.move_out.new.trace) (content c.move_all_into.new.trace) back c.in_err-came.ensures.breaks))
