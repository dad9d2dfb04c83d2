use Rattle.std.proofs.Common.{◌≡◌, ℕ, List, [], ◌∷◌, length, refl, sym, ap, subst, ◌∙◌, arith}
use Rattle.push_terms.specs.declared.word.Side.{Side}
use Rattle.room_laws.specs.world_model.specs.Stations.{Order}
use Rattle.radio_world.specs.Hosts.{order_octets, AreSent, Reacts}
use Rattle.radio_world.proofs.Moving.{goes_none}
use Rattle.radio_world.proofs.Tallying.{goes_out_by}
use Rattle.radio_world.proofs.Leaving.{none_offered}
use Rattle.radio_world.specs.Leaving.{after_all}
use Rattle.radio_world.specs.Shortages.{OrderWants}
use Rattle.radio_world.proofs.Wanting.{any_err, lacks_on}
use Rattle.radio_world.proofs.Breaking.{leaving_broken, taking_broken}
use Rattle.radio_world.proofs.medium.Medium.move_out.Goals as goal

pub returns-then-count-eq0-clause-goes : goal.returns-then-count-eq0-clause-goes
returns-then-count-eq0-clause-goes g c =
    let host = g.H.Host in
    record { goes = goes_none host.machine c.args.side host.answers c.args.self.now (host.station c.args.host.now c.args.port.now) c.args.port.now (g.T.Sink.content c.args.trace.now) g.met.H.Host.joins; many = omega arith }

nothing : (xs : List ℕ) → length xs ≡ 0 → xs ≡ []
nothing [] none = refl
nothing (x ∷ xs) none = absurd (omega arith)

pub returns-then-count-eq0-clause-none : goal.returns-then-count-eq0-clause-none
returns-then-count-eq0-clause-none g c = λ is.
    let host = g.H.Host in
    let orders : List Order = (host.station c.args.host.now c.args.port.now).out in
    let octets : c.out-offered.result.now ≡ order_octets c.args.side orders = c.out-offered.ensures.octets c.args.port.now c.requires.sound ∙ ap (λ s. order_octets s orders) c.requires.side in
    (none_offered c.args.side orders (sym octets ∙ nothing c.out-offered.result.now c.if-count-eq0.true), refl, refl)

pub returns-clause-goes : goal.returns-clause-goes
returns-clause-goes g c =
    let host = g.H.Host in
    let orders : List Order = (host.station c.args.host.now c.args.port.now).out in
    let sent : AreSent c.args.side orders = subst (λ (s : Side). AreSent s orders) c.requires.side (c.out-offered.ensures.sent c.args.port.now c.requires.sound) in
    let octets : c.out-offered.result.now ≡ order_octets c.args.side orders = c.out-offered.ensures.octets c.args.port.now c.requires.sound ∙ ap (λ s. order_octets s orders) c.requires.side in
    let moved = c.in_ok-take_all.ensures.moved orders sent octets in
    let goes = subst (λ (s : Side). Reacts host.machine s host.answers (λ used station. station) (record (host.station c.args.host.now c.args.port.now) { out = [] }) (host.station c.taken.new.self c.taken.new.port) c.args.port.now c.taken.new.port)
    c.requires.side c.in_ok-taken.ensures.goes in
    goes_out_by host.machine c.args.side host.answers c.args.self.now c.take_all.new.self (host.station c.args.host.now c.args.port.now) (host.station c.taken.new.self c.taken.new.port) c.args.port.now c.taken.new.port
    (g.T.Sink.content c.args.trace.now) (g.T.Sink.content c.take_all.new.trace) moved.0 goes moved.1 sent
    (λ none. c.if-count-eq0.false (ap length (octets ∙ ap (λ os. order_octets c.args.side os) none)))

pub returns-then-count-eq0-clause-medium : goal.returns-then-count-eq0-clause-medium
returns-then-count-eq0-clause-medium g c =
    let orders : List Order = (g.H.Host.station c.args.host.now c.args.port.now).out in
    let octets : c.out-offered.result.now ≡ order_octets c.args.side orders = c.out-offered.ensures.octets c.args.port.now c.requires.sound ∙ ap (λ s. order_octets s orders) c.requires.side in
    ap (λ os. after_all c.args.side os c.args.self.now) (sym (none_offered c.args.side orders (sym octets ∙ nothing c.out-offered.result.now c.if-count-eq0.true)))

pub returns-clause-medium : goal.returns-clause-medium
returns-clause-medium g c =
    let orders : List Order = (g.H.Host.station c.args.host.now c.args.port.now).out in
    let sent : AreSent c.args.side orders = subst (λ (s : Side). AreSent s orders) c.requires.side (c.out-offered.ensures.sent c.args.port.now c.requires.sound) in
    (c.in_ok-take_all.ensures.moved orders sent (c.out-offered.ensures.octets c.args.port.now c.requires.sound ∙ ap (λ s. order_octets s orders) c.requires.side)).0

pub returns-in_err-take_all-clause-lacks : goal.returns-in_err-take_all-clause-lacks
returns-in_err-take_all-clause-lacks g c =
    let orders : List Order = (g.H.Host.station c.args.host.now c.args.port.now).out in
    let sent : AreSent c.args.side orders = subst (λ (s : Side). AreSent s orders) c.requires.side (c.out-offered.ensures.sent c.args.port.now c.requires.sound) in
    let octets : c.out-offered.result.now ≡ order_octets c.args.side orders = c.out-offered.ensures.octets c.args.port.now c.requires.sound ∙ ap (λ s. order_octets s orders) c.requires.side in
    lacks_on _ _ _ _ _ c.take_all.result c.from_residual.result c.in_err-take_all.field-0.0 c.from_residual.ensures.1 c.in_err-take_all.was (omega arith)
    (λ cause. OrderWants refl (cause orders sent octets)) c.take_all.ensures.lacks

pub returns-in_err-take_all-clause-breaks : goal.returns-in_err-take_all-clause-breaks
returns-in_err-take_all-clause-breaks g c =
    let host = g.H.Host in
    let content = g.T.Sink.content in
    let orders : List Order = (host.station c.args.host.now c.args.port.now).out in
    let sent : AreSent c.args.side orders = subst (λ (s : Side). AreSent s orders) c.requires.side (c.out-offered.ensures.sent c.args.port.now c.requires.sound) in
    let octets : c.out-offered.result.now ≡ order_octets c.args.side orders = c.out-offered.ensures.octets c.args.port.now c.requires.sound ∙ ap (λ s. order_octets s orders) c.requires.side in
    any_err c.from_residual.result
    (leaving_broken host.machine c.args.side host.answers host.lacked host.station g.met.H.Host.joins c.args.self.now (host.station c.args.host.now c.args.port.now) c.args.port.now (content c.args.trace.now) (content c.take_all.new.trace)
    (c.args.host.now, refl) (c.in_err-take_all.ensures.broken orders sent octets))

pub returns-in_err-taken-clause-breaks : goal.returns-in_err-taken-clause-breaks
returns-in_err-taken-clause-breaks g c =
    let host = g.H.Host in
    let content = g.T.Sink.content in
    let orders : List Order = (host.station c.args.host.now c.args.port.now).out in
    let sent : AreSent c.args.side orders = subst (λ (s : Side). AreSent s orders) c.requires.side (c.out-offered.ensures.sent c.args.port.now c.requires.sound) in
    let octets : c.out-offered.result.now ≡ order_octets c.args.side orders = c.out-offered.ensures.octets c.args.port.now c.requires.sound ∙ ap (λ s. order_octets s orders) c.requires.side in
    any_err c.from_residual-in_err-taken.result
    (taking_broken host.machine c.args.side host.answers host.lacked host.station g.met.H.Host.joins c.args.self.now (host.station c.args.host.now c.args.port.now) c.args.port.now c.taken.new.port (content c.args.trace.now) (content c.take_all.new.trace)
    (c.args.host.now, refl) (c.in_ok-take_all.ensures.moved orders sent octets).1 sent c.in_err-taken.ensures.lacked)
