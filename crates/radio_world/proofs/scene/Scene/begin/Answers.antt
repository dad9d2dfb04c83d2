use Rattle.std.proofs.Common.{ℕ, ◌+◌, inl, inr, refl, sym, ap, subst, ◌∙◌}
use Rattle.bt_base.specs.Streams.{gained, GainedFront}
use Rattle.capture.specs.Entries.{Begun, IsEntry, entry_octets}
use Rattle.room_laws.specs.world_model.specs.Pushes.{Pushes, next_name, one_begun}
use Rattle.radio_world.specs.Scenes.{Scene}
use Rattle.radio_world.proofs.Wanting.{any_err}
use Rattle.radio_world.proofs.scene.Scene.begin.Goals as goal

pub returns-clause-begins : goal.returns-clause-begins
returns-clause-begins g c = λ is.
    let here = c.self.inside in
    let trace = g.T.Sink.content c.args.trace.now in
    record {
      idle = λ rest. sym (c.idle.ensures c.args.shelf.now rest) ∙ c.if-not-idle.false;
      name = c.in-Some.name.now;
      next = ap (λ (s : Scene). next_name s.pushes) (sym c.self.view_is) ∙ sym c.in-Some.ensures.next;
      scene_is = ap (λ (p : Pushes). record { medium = here.medium; pushes = p; turned = here.turned }) c.begin.ensures
          ∙ ap (λ (s : Scene). record s { pushes = one_begun s.pushes }) c.self.view_is;
      reacts = c.in_ok-push.ensures.reacts;
      written = c.in_ok-record.ensures.ok ∙ ap (λ (n : ℕ). gained trace (entry_octets (Begun (n + 1)))) c.begun.ensures.begun
          ∙ ap (λ (s : Scene). gained trace (entry_octets (Begun (s.pushes.begun + 1)))) c.self.view_is;
      entry = subst (λ (n : ℕ). IsEntry (Begun (n + 1))) (c.begun.ensures.begun ∙ ap (λ (s : Scene). s.pushes.begun) c.self.view_is) c.record.ensures.entry;
    }

pub returns-in_err-record-clause-breaks : goal.returns-in_err-record-clause-breaks
returns-in_err-record-clause-breaks g c =
    let content = g.T.Sink.content in
    any_err c.from_residual.result (record {
      idle = λ rest. sym (c.idle.ensures c.args.shelf.now rest) ∙ c.if-not-idle.false;
      name = c.in-Some.name.now;
      next = ap (λ (s : Scene). next_name s.pushes) (sym c.self.view_is) ∙ sym c.in-Some.ensures.next;
      front = subst (λ (n : ℕ). GainedFront (content c.args.trace.now) (content c.record.new.trace) (entry_octets (Begun (n + 1)))) (c.begun.ensures.begun ∙ ap (λ (s : Scene). s.pushes.begun) c.self.view_is) c.record.ensures.front;
      entry = subst (λ (n : ℕ). IsEntry (Begun (n + 1))) (c.begun.ensures.begun ∙ ap (λ (s : Scene). s.pushes.begun) c.self.view_is) c.record.ensures.entry;
      left = inl refl;
    })

pub returns-in_err-push-clause-breaks : goal.returns-in_err-push-clause-breaks
returns-in_err-push-clause-breaks g c =
    let content = g.T.Sink.content in
    any_err c.from_residual-in_err-push.result (record {
      idle = λ rest. sym (c.idle.ensures c.args.shelf.now rest) ∙ c.if-not-idle.false;
      name = c.in-Some.name.now;
      next = ap (λ (s : Scene). next_name s.pushes) (sym c.self.view_is) ∙ sym c.in-Some.ensures.next;
      front = subst (λ (n : ℕ). GainedFront (content c.args.trace.now) (content c.record.new.trace) (entry_octets (Begun (n + 1)))) (c.begun.ensures.begun ∙ ap (λ (s : Scene). s.pushes.begun) c.self.view_is) c.record.ensures.front;
      entry = subst (λ (n : ℕ). IsEntry (Begun (n + 1))) (c.begun.ensures.begun ∙ ap (λ (s : Scene). s.pushes.begun) c.self.view_is) c.record.ensures.entry;
      left = inr c.in_err-push.ensures.lacked;
    })
