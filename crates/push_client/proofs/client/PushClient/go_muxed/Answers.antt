use Rattle.std.proofs.Common.{◌≡◌, Bool, true, is_some, sym, ap, ◌∙◌, subst}
use Rattle.push_model.specs.Client.{Client}
use Rattle.push_model.specs.Steps as steps
use Rattle.push_model.specs.Steps.{steps_muxed, may_ask, next_ask}
use Rattle.push_client.specs.Pushing.{gone}
use Rattle.push_client.specs.Putting.{Comes}
use Rattle.push_client.specs.Requesting.{ask_of}
use Rattle.push_client.specs.declared.step.Step.{Step}
use Rattle.push_client.specs.declared.step.Step.TheVariants.{Wait}
use Rattle.push_client.proofs.AskingLaws.{comes_at_once}
use Rattle.push_client.proofs.SteppingLaws.{muxed_by, first_frame_goes, quiet_rests, quiet_goes_on, quiet_asks_on, comes_alike, reaches_alike, close_is, nothing_is}
use Rattle.push_client.proofs.client.PushClient.go_muxed.Goals as goal

pub returns-then-is_there-clause-comes : goal.returns-then-is_there-clause-comes
returns-then-is_there-clause-comes g c =
    let s = g.F.Shelf in
    let old = c.args.self.now in
    let now = c.say.new.self in
    let stays = c.say.ensures.stays in
    let some = ap (λ (x : Client). is_some x.frame) (sym c.self.view_is) ∙ sym c.is_there.ensures ∙ c.if-is_there.true in
    let works = ap (λ (x : Client). x.failed) c.send_frame.ensures.client ∙ stays.failed ∙ c.requires.works in
    subst (λ (b : Bool). Comes (steps_muxed old) (gone c.send_frame.new.self c.send_frame.result) old (s.content c.args.shelf.now) (s.faults c.args.shelf.now) (s.faults c.args.shelf.now) (s.shortages c.args.shelf.now) (s.shortages c.args.shelf.now) b) (sym works)
    (comes_at_once _ _ old _ _ _ (λ parts.
    first_frame_goes old now parts c.say.ensures.client some (muxed_by now (stays.stage ∙ c.requires.stage) (stays.transport ∙ c.requires.transport))
    ∙ ap (λ (step : Step). gone (record now { given = true }) step parts) (sym c.send_frame.ensures.step)
    ∙ ap (λ (x : Client). gone x c.send_frame.result parts) (sym c.send_frame.ensures.client)))

pub returns-then-not-may_ask-clause-comes : goal.returns-then-not-may_ask-clause-comes
returns-then-not-may_ask-clause-comes g c =
    let s = g.F.Shelf in
    let old = c.args.self.now in
    let now = c.say.new.self in
    let stays = c.say.ensures.stays in
    let none = ap (λ (x : Client). is_some x.frame) (sym c.self.view_is) ∙ sym c.is_there.ensures ∙ c.if-is_there.false in
    let free = ap may_ask (sym c.self.view_is) ∙ sym c.may_ask.ensures ∙ c.if-not-may_ask.true in
    subst (λ (b : Bool). Comes (steps_muxed old) (gone now Wait) old (s.content c.args.shelf.now) (s.faults c.args.shelf.now) (s.faults c.args.shelf.now) (s.shortages c.args.shelf.now) (s.shortages c.args.shelf.now) b) (sym (stays.failed ∙ c.requires.works))
    (comes_at_once _ _ old _ _ _ (λ parts. quiet_rests old now parts c.say.ensures.client none free))

pub returns-in-Close-clause-comes : goal.returns-in-Close-clause-comes
returns-in-Close-clause-comes g c =
    let s = g.F.Shelf in
    let old = c.args.self.now in
    let now = c.say.new.self in
    let stays = c.say.ensures.stays in
    let none = ap (λ (x : Client). is_some x.frame) (sym c.self.view_is) ∙ sym c.is_there.ensures ∙ c.if-is_there.false in
    let free = ap may_ask (sym c.self.view_is) ∙ sym c.may_ask.ensures ∙ c.if-not-may_ask.false in
    let asks = sym (ap ask_of c.in-Close.is) ∙ c.next_ask.ensures ∙ ap next_ask c.self.view_is in
    subst (λ (b : Bool). Comes (steps_muxed old) (gone c.close_mux.new.self c.close_mux.result) old (s.content c.args.shelf.now) (s.faults c.args.shelf.now) (s.faults c.args.shelf.now) (s.shortages c.args.shelf.now) (s.shortages c.args.shelf.now) b) (sym (c.close_mux.ensures.failed ∙ stays.failed ∙ c.requires.works))
    (comes_at_once _ _ old _ _ _ (λ parts. quiet_goes_on old now steps.Close parts c.say.ensures.client none free asks ∙ c.close_mux.ensures.steps parts))

pub returns-in-Nothing-clause-comes : goal.returns-in-Nothing-clause-comes
returns-in-Nothing-clause-comes g c =
    let s = g.F.Shelf in
    let old = c.args.self.now in
    let now = c.say.new.self in
    let stays = c.say.ensures.stays in
    let none = ap (λ (x : Client). is_some x.frame) (sym c.self.view_is) ∙ sym c.is_there.ensures ∙ c.if-is_there.false in
    let free = ap may_ask (sym c.self.view_is) ∙ sym c.may_ask.ensures ∙ c.if-not-may_ask.false in
    let asks = sym (ap ask_of c.in-Nothing.is) ∙ c.next_ask.ensures ∙ ap next_ask c.self.view_is in
    subst (λ (b : Bool). Comes (steps_muxed old) (gone now Wait) old (s.content c.args.shelf.now) (s.faults c.args.shelf.now) (s.faults c.args.shelf.now) (s.shortages c.args.shelf.now) (s.shortages c.args.shelf.now) b) (sym (stays.failed ∙ c.requires.works))
    (comes_at_once _ _ old _ _ _ (λ parts. quiet_goes_on old now steps.Nothing parts c.say.ensures.client none free asks))

pub returns-in_default : goal.returns-in_default
returns-in_default g c =
    let s = g.F.Shelf in
    let old = c.args.self.now in
    let now = c.say.new.self in
    let stays = c.say.ensures.stays in
    let none = ap (λ (x : Client). is_some x.frame) (sym c.self.view_is) ∙ sym c.is_there.ensures ∙ c.if-is_there.false in
    let free = ap may_ask (sym c.self.view_is) ∙ sym c.may_ask.ensures ∙ c.if-not-may_ask.false in
    let asks = c.next_ask.ensures ∙ ap next_ask c.self.view_is in
    let closes : ask_of c.next_ask.result ≡ steps.Close → ⊥ = λ e. c.in_default.not-Close (close_is c.next_ask.result e) in
    let rests : ask_of c.next_ask.result ≡ steps.Nothing → ⊥ = λ e. c.in_default.not-Nothing (nothing_is c.next_ask.result e) in
    let alike = c.say.ensures.alike in
    record {
      comes = comes_alike _ _ _ old now _ _ _ _ _ _ alike (λ parts. quiet_asks_on old now (ask_of c.next_ask.result) parts c.say.ensures.client none free asks closes rests) c.ask_through.ensures.comes;
      fails = c.ask_through.ensures.fails;
      content = c.ask_through.ensures.content;
      absence = λ reaches. c.ask_through.ensures.absence (reaches_alike old now _ alike reaches);
    }
