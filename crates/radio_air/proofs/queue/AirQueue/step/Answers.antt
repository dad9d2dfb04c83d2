use Rattle.std.proofs.Common.{◌≡◌, ◌+◌, ◌≤◌, ◌<◌, ◌++◌, ◌∷◌, [], length, sym, ap, subst, ◌∙◌, arith, length-append, true}
use Rattle.std.proofs.lemmas.List.{append-nil}
use Rattle.radio_air.specs.declared.step.Step.TheVariants.{Whole}
use Rattle.radio_air.specs.Plain.{IsShortStep, stepped}
use Rattle.radio_model.specs.Queues.{is_crowded}
use Rattle.radio_air.proofs.Faults.{on_err}
use Rattle.radio_air.proofs.Queueing.{queue_grown, whole_crowded, frames_crowded, more_crowded}
use Rattle.radio_air.proofs.queue.AirQueue.step.Goals as goal

pub returns-in_err-go_on-in-Whole-clause-crowded : goal.returns-in_err-go_on-in-Whole-clause-crowded
returns-in_err-go_on-in-Whole-clause-crowded c =
    let here = c.self.inside in
    let short = rw (← c.self.view_is) at c.requires.short in
    on_err c.from_residual.result
    (rw (← c.self.view_is) (whole_crowded c.args.step c.args.flies c.args.octets.now here.size here.handing here.gone here.leaving here.frames c.in-Whole.is c.if-flies.true c.self.invariant short c.in_err-go_on-in-Whole.ensures.full))

pub invariant_of-self-in_err-complete-in-Whole : goal.invariant_of-self-in_err-complete-in-Whole
invariant_of-self-in_err-complete-in-Whole c =
    let here = c.self.inside in
    let short = rw (← c.self.view_is) at c.requires.short in
    let fits = subst (λ s. IsShortStep s (here.frames.begun ++ c.args.octets.now)) c.in-Whole.is short in
    let same = c.in_err-complete-in-Whole.ensures.unchanged ∙ c.in_ok-go_on-in-Whole.ensures.ok in
    queue_grown here.size here.handing here.gone here.leaving here.frames c.complete.new.self [] (ap (λ kept. kept.frames) same ∙ sym (append-nil here.frames.frames))
    (λ some. omega (arith, fits.0, ap length (ap (λ kept. kept.begun) same))) c.self.invariant

pub returns-in_err-complete-in-Whole-clause-crowded : goal.returns-in_err-complete-in-Whole-clause-crowded
returns-in_err-complete-in-Whole-clause-crowded c =
    let here = c.self.inside in
    let frames = ap (λ kept. length kept.frames) c.in_ok-go_on-in-Whole.ensures.ok in
    on_err c.from_residual-in_err-complete-in-Whole.result
    (rw (← c.self.view_is) (frames_crowded c.args.step c.args.flies c.args.octets.now here.size here.handing here.gone here.leaving here.frames c.in-Whole.is c.if-flies.true c.self.invariant (omega (arith, frames, c.in_err-complete-in-Whole.ensures.full))))

pub returns-in_err-go_on-in-More-clause-crowded : goal.returns-in_err-go_on-in-More-clause-crowded
returns-in_err-go_on-in-More-clause-crowded c =
    let here = c.self.inside in
    let short = rw (← c.self.view_is) at c.requires.short in
    on_err c.from_residual-in_err-go_on-in-More.result
    (rw (← c.self.view_is) (more_crowded c.args.step c.args.flies c.args.octets.now here.size here.handing here.gone here.leaving here.frames c.in-More.is c.self.invariant short c.in_err-go_on-in-More.ensures.full))
