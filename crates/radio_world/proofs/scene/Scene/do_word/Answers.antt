use Rattle.std.proofs.Common.{◌≡◌, [], inl, inr, refl, sym, ap, subst, ◌∙◌}
use Rattle.push_terms.specs.declared.word.Side.{Side}
use Rattle.push_terms.specs.declared.word.Side.TheVariants.{A, B}
use Rattle.radio_model.specs.declared.deed.Deed.{Deed}
use Rattle.radio_model.specs.Owed.{IsMet}
use Rattle.radio_model.specs.Radio.{found, after_deed}
use Rattle.radio_world.specs.Hosts.{answering, Reacts}
use Rattle.radio_world.specs.Turning.{cancels, done_by, is_checked}
use Rattle.room_laws.specs.Rooms.{OwesNoneBack}
use Rattle.radio_world.specs.Scenes.{Scene}
use Rattle.radio_world.proofs.Returned.{deeds_give_none}
use Rattle.radio_world.proofs.Turned.{asked_right, asked_for, word_advances, cancels_may}
use Rattle.radio_world.proofs.Wanting.{any_err}
use Rattle.radio_world.proofs.Broken.{went_left, word_broken}
use Rattle.radio_world.proofs.scene.Scene.do_word.Goals as goal

pub client_acts-requires-clause-cancelled : goal.client_acts-requires-clause-cancelled
client_acts-requires-clause-cancelled g c = λ is rest.
    let one = g.A.Host in
    let two = g.B.Host in
    cancels_may one.machine two.machine (found c.args.word c.args.self.now.medium.radio) c.args.self.now.pushes ((one.station c.args.a.now c.args.shelf.now).upper rest) ((two.station c.args.b.now c.args.inbox.now).upper []) (sym (ap (cancels A) c.found-deed.ensures.deed) ∙ is)
    (c.requires.finds rest [])

pub returns-clause-advances : goal.returns-clause-advances
returns-clause-advances g c =
    let one = g.A.Host in
    let two = g.B.Host in
    let radio = c.args.self.now.medium.radio in
    let deed = found c.args.word radio in
    let content = g.T.Sink.content in
    let same : c.found-deed.result ≡ deed = c.found-deed.ensures.deed in
    word_advances one.machine two.machine one.answers two.answers c.args.word c.is_checked-checked.result c.args.self.now c.act.new.self
    (one.station c.args.a.now c.args.shelf.now) (one.station c.client_acts.new.a c.client_acts.new.shelf) (two.station c.args.b.now c.args.inbox.now) (two.station c.server_acts.new.b c.server_acts.new.inbox)
    c.args.shelf.now c.client_acts.new.shelf c.args.inbox.now c.server_acts.new.inbox (content c.args.trace.now) (content c.act.new.trace)
    c.in_ok-act.ensures.scene c.requires.rest c.requires.word c.requires.finds
    (λ rest_a rest_b.
    let a = answering rest_a (one.station c.args.a.now c.args.shelf.now) in
    let b = answering rest_b (two.station c.args.b.now c.args.inbox.now) in
    ap (λ checked. after_deed checked deed radio) (c.is_checked-checked.ensures c.args.shelf.now c.args.inbox.now rest_a rest_b ∙ ap (λ (d : Deed). is_checked one.machine two.machine d radio a.upper b.upper) same)
    ∙ asked_right one.machine two.machine deed radio a b (asked_for c.args.word radio c.requires.word) (subst (λ (d : Deed). IsMet d radio) same c.found-deed.ensures.met))
    (subst (λ (side : Side). Reacts one.machine side one.answers (done_by one.machine A deed) (one.station c.args.a.now c.args.shelf.now) (one.station c.client_acts.new.a c.client_acts.new.shelf) c.args.shelf.now c.client_acts.new.shelf) c.requires.sides.0
    (subst (λ (d : Deed). Reacts one.machine one.side one.answers (done_by one.machine A d) (one.station c.args.a.now c.args.shelf.now) (one.station c.client_acts.new.a c.client_acts.new.shelf) c.args.shelf.now c.client_acts.new.shelf) same c.in_ok-client_acts.ensures.reacts))
    (subst (λ (side : Side). Reacts two.machine side two.answers (done_by two.machine B deed) (two.station c.args.b.now c.args.inbox.now) (two.station c.server_acts.new.b c.server_acts.new.inbox) c.args.inbox.now c.server_acts.new.inbox) c.requires.sides.1
    (subst (λ (d : Deed). Reacts two.machine two.side two.answers (done_by two.machine B d) (two.station c.args.b.now c.args.inbox.now) (two.station c.server_acts.new.b c.server_acts.new.inbox) c.args.inbox.now c.server_acts.new.inbox) same c.in_ok-server_acts.ensures.reacts))
    c.in_ok-act.ensures.written c.requires.few

pub returns-clause-none_back : goal.returns-clause-none_back
returns-clause-none_back g c =
    let radio = c.args.self.now.medium.radio in
    let rest = c.requires.rest [] [] in
    subst (λ (s : Scene). OwesNoneBack s.medium.radio) (sym c.in_ok-act.ensures.scene) (deeds_give_none c.is_checked-checked.result (found c.args.word radio) radio rest.still_a.none_owed rest.still_b.none_owed)

pub returns-in_err-act-clause-breaks : goal.returns-in_err-act-clause-breaks
returns-in_err-act-clause-breaks g c =
    let one = g.A.Host in
    let two = g.B.Host in
    let joins_a = g.met.A.Host.joins in
    let joins_b = g.met.B.Host.joins in
    let content = g.T.Sink.content in
    any_err c.from_residual.result
    (word_broken one.machine two.machine one.answers two.answers one.lacked two.lacked two.station joins_a joins_b c.args.word c.args.self.now (one.station c.args.a.now c.args.shelf.now) (two.station c.args.b.now c.args.inbox.now) c.args.shelf.now c.args.shelf.now c.args.inbox.now c.args.inbox.now (content c.args.trace.now) (content c.act.new.trace)
    (c.args.b.now, refl) c.requires.few c.requires.rest c.requires.word c.requires.finds c.act.ensures.front (went_left one.machine two.machine one.answers two.answers one.lacked two.lacked two.station joins_a joins_b c.args.shelf.now c.args.shelf.now (inl refl)) (inl refl))

pub returns-in_err-client_acts-clause-breaks : goal.returns-in_err-client_acts-clause-breaks
returns-in_err-client_acts-clause-breaks g c =
    let one = g.A.Host in
    let two = g.B.Host in
    let joins_a = g.met.A.Host.joins in
    let joins_b = g.met.B.Host.joins in
    let content = g.T.Sink.content in
    any_err c.from_residual-in_err-client_acts.result
    (word_broken one.machine two.machine one.answers two.answers one.lacked two.lacked two.station joins_a joins_b c.args.word c.args.self.now (one.station c.args.a.now c.args.shelf.now) (two.station c.args.b.now c.args.inbox.now) c.args.shelf.now c.client_acts.new.shelf c.args.inbox.now c.args.inbox.now (content c.args.trace.now) (content c.act.new.trace)
    (c.args.b.now, refl) c.requires.few c.requires.rest c.requires.word c.requires.finds c.act.ensures.front (inr c.in_err-client_acts.ensures.lacked) (inl refl))

pub returns-in_err-server_acts-clause-breaks : goal.returns-in_err-server_acts-clause-breaks
returns-in_err-server_acts-clause-breaks g c =
    let one = g.A.Host in
    let two = g.B.Host in
    let joins_a = g.met.A.Host.joins in
    let joins_b = g.met.B.Host.joins in
    let content = g.T.Sink.content in
    let acted = c.in_ok-client_acts.ensures.reacts in
    any_err c.from_residual-in_err-server_acts.result
    (word_broken one.machine two.machine one.answers two.answers one.lacked two.lacked two.station joins_a joins_b c.args.word c.args.self.now (one.station c.args.a.now c.args.shelf.now) (two.station c.args.b.now c.args.inbox.now) c.args.shelf.now c.client_acts.new.shelf c.args.inbox.now c.server_acts.new.inbox (content c.args.trace.now) (content c.act.new.trace)
    (c.args.b.now, refl) c.requires.few c.requires.rest c.requires.word c.requires.finds c.act.ensures.front (inl (acted.used, acted.answered)) (inr c.in_err-server_acts.ensures.lacked))
