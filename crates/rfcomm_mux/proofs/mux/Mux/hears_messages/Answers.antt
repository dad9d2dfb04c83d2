use Rattle.std.proofs.Common.{◌≡◌, ◌≢◌, List, [], ℕ, None, Some, drop, sym, ap, ◌∙◌}
use Rattle.rfcomm_frames.specs.Controls.{plain_control}
use Rattle.rfcomm_frames.specs.FrameReading.{messages}
use Rattle.rfcomm_model.specs.Machine.{Mux}
use Rattle.rfcomm_model.specs.Hearing.{hears_messages}
use Rattle.rfcomm_mux.proofs.Loops.{closed_hears, hears_next, hears_last, hears_none, not_empty, no_octets, stands_is, closed_is}
use Rattle.rfcomm_mux.proofs.mux.Mux.hears_messages.Goals as goal

pub loop-self-preserved-in-Ok : goal.loop-self-preserved-in-Ok
loop-self-preserved-in-Ok c =
    let m : Mux = c.loop-self.self in
    let rest : List ℕ = c.loop-self.rest.now in
    let some : rest ≢ [] = not_empty rest c.is_empty.result c.is_empty.ensures c.loop-self-test.true in
    let stands : m.closed ≡ None = ap (λ (x : Mux). x.closed) (sym c.self.view_is) ∙ stands_is c.self.inside.closed c.is_none.result c.is_none.ensures c.if-is_none.true in
    ap (λ (xs : List ℕ). hears_messages (messages xs) c.hears_control.new.self) c.behind-rest.ensures
    ∙ ap (hears_messages (messages (drop c.in-Ok.used rest))) c.hears_control.ensures
    ∙ sym (hears_next m rest (plain_control c.in-Ok.control) c.in-Ok.used some c.in-Ok.ensures.octets stands (sym c.in-Ok.ensures.answer))
    ∙ c.loop-self.invariant

pub loop-self-preserved : goal.loop-self-preserved
loop-self-preserved c =
    let m : Mux = c.loop-self.self in
    let rest : List ℕ = c.loop-self.rest.now in
    let some : rest ≢ [] = not_empty rest c.is_empty.result c.is_empty.ensures c.loop-self-test.true in
    let stands : m.closed ≡ None = ap (λ (x : Mux). x.closed) (sym c.self.view_is) ∙ stands_is c.self.inside.closed c.is_none.result c.is_none.ensures c.if-is_none.true in
    hears_none c.shut.new.self ∙ c.shut.ensures ∙ sym (hears_last m rest c.in-Err.field-0 some stands (sym c.in-Err.ensures.answer)) ∙ c.loop-self.invariant

pub returns-else-is_none : goal.returns-else-is_none
returns-else-is_none c =
    let m : Mux = c.loop-self.self in
    let closed = closed_is c.self.inside.closed c.is_none.result c.is_none.ensures c.if-is_none.false in
    let is : m.closed ≡ Some closed.0 = ap (λ (x : Mux). x.closed) (sym c.self.view_is) ∙ closed.1 in
    sym (closed_hears (messages c.loop-self.rest.now) m closed.0 is) ∙ c.loop-self.invariant

pub returns-after-loop-self : goal.returns-after-loop-self
returns-after-loop-self c =
    let none : c.loop-self.rest.now ≡ [] = no_octets c.loop-self.rest.now c.is_empty.result c.is_empty.ensures c.loop-self-test.false in
    sym (ap (λ (xs : List ℕ). hears_messages (messages xs) c.loop-self.self) none ∙ hears_none c.loop-self.self) ∙ c.loop-self.invariant
