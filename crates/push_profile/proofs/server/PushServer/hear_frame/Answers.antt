use Rattle.std.proofs.Common.{rules, ℕ, ◌≤◌, [], sym, ap, ◌∙◌, subst}
use Rattle.obex_session.proofs.CountingLaws.{counted_none}
use Rattle.push_model.specs.rfcomm_model.specs.Machine.{Mux}
use Rattle.push_model.specs.rfcomm_model.proofs.Keeping.{hears_keeps}
use Rattle.push_profile.proofs.server.PushServer.hear_frame.Goals as goal

pub invariant_of-self : goal.invariant_of-self
invariant_of-self g c = record {
  suits = c.self.invariant.suits;
  largest = subst (λ (n : ℕ). 23 ≤ n) (sym (ap (λ (m : Mux). m.largest) c.on_sdu.ensures.machine ∙ (hears_keeps c.args.sdu.now c.self.inside.mux).2)) c.self.invariant.largest;
}

pub invariant_of-self-in-Nothing : goal.invariant_of-self-in-Nothing
invariant_of-self-in-Nothing g c = record {
  suits = c.self.invariant.suits;
  largest = subst (λ (n : ℕ). 23 ≤ n) (sym (ap (λ (m : Mux). m.largest) c.on_sdu.ensures.machine ∙ (hears_keeps c.args.sdu.now c.self.inside.mux).2)) c.self.invariant.largest;
}

pub returns-in-Nothing-clause-comes : goal.returns-in-Nothing-clause-comes
returns-in-Nothing-clause-comes g c = record { used = []; comes = search rules; short = search rules; counted = counted_none _ }
