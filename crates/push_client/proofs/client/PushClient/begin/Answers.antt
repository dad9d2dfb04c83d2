use Rattle.std.proofs.Common.{◌≡◌, Bool, Err, true, false, refl, sym, ap, ◌∙◌, if◌then◌else◌}
use Rattle.bt_base.specs.declared.ports.PortFault.TheVariants as fault
use Rattle.push_model.specs.Client.{Client, begun_by}
use Rattle.push_client.proofs.client.PushClient.begin.Goals as goal

pub returns-then-self-clause-begins : goal.returns-then-self-clause-begins
returns-then-self-clause-begins g c =
    let old = c.args.self.now in
    let failed : old.failed ≡ true = sym (ap (λ (x : Client). x.failed) c.self.view_is) ∙ c.if-self.true in
    record {
      size = Err fault.Failed;
      client = sym (ap (λ (b : Bool). (if b then old else begun_by (Err fault.Failed) c.args.name.now old)) failed);
      few = tt;
      told = λ works. tt;
      cause = λ works. absurd (let e : true ≡ false = sym failed ∙ works in cc);
      unasked = λ e. (refl, refl);
    }
