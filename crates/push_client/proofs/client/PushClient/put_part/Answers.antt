use Rattle.std.proofs.Common.{true, List, ℕ, Result, Ok, Err, false, refl, ap, ◌∙◌, subst}
use Rattle.bt_base.specs.Counts.{HasCause}
use Rattle.bt_base.specs.Octets.{IsOctets}
use Rattle.bt_base.specs.declared.ports.PortFault.{PortFault}
use Rattle.push_model.specs.Client.{Client}
use Rattle.push_model.specs.Steps.{put_count, puts}
use Rattle.push_client.specs.Pushing.{client_of}
use Rattle.push_client.specs.Putting.{IsPut, PutsOr, Comes}
use Rattle.push_client.specs.Requesting.{made_by, is_shortage}
use Rattle.push_client.proofs.AskingLaws.{put_done, put_fails}
use Rattle.push_client.proofs.client.PushClient.put_part.Goals as goal

pub returns-clause-comes : goal.returns-clause-comes
returns-clause-comes g c =
    let old : Client = client_of c.self.inside in
    let new : Client = record old { session = c.put.new.session; going = true; rest = c.put.new.self } in
    let s = g.F.Shelf in
    let content = s.content c.args.shelf.now in
    let named = subst (λ (name : List ℕ). IsPut old.session c.put.new.session name old.size old.limit content c.put.new.self) c.text-name.ensures.text c.in_default.ensures.puts in
    let cause = subst (λ (r : Result (Unit {0}) PortFault). HasCause (s.faults c.args.shelf.now) (s.faults c.put.new.shelf) (s.shortages c.args.shelf.now) (s.shortages c.put.new.shelf) r) c.in_default.is c.put.ensures.cause in
    subst (λ (x : Client). Comes (puts x) (made_by new (Ok tt)) x content (s.faults c.args.shelf.now) (s.faults c.put.new.shelf) (s.shortages c.args.shelf.now) (s.shortages c.put.new.shelf) false) c.self.view_is
    (put_done (put_count old) old c.put.new.session c.put.new.self content _ _ _ _ refl named (subst IsOctets c.octets.ensures c.are_octets.ensures) cause)

pub returns-in-Err-clause-comes : goal.returns-in-Err-clause-comes
returns-in-Err-clause-comes g c =
    let old : Client = client_of c.self.inside in
    let new : Client = record old { session = c.put.new.session; rest = c.put.new.self } in
    let s = g.F.Shelf in
    let content = s.content c.args.shelf.now in
    let named = subst (λ (name : List ℕ). PutsOr old.session c.put.new.session name old.size old.limit content c.put.new.self (Err c.in-Err.fault)) c.text-name.ensures.text c.in-Err.ensures.puts in
    let cause = subst (λ (r : Result (Unit {0}) PortFault). HasCause (s.faults c.args.shelf.now) (s.faults c.put.new.shelf) (s.shortages c.args.shelf.now) (s.shortages c.put.new.shelf) r) c.in-Err.is c.put.ensures.cause in
    subst (λ (x : Client). Comes (puts x) (made_by new (Err c.in-Err.fault)) x content (s.faults c.args.shelf.now) (s.faults c.put.new.shelf) (s.shortages c.args.shelf.now) (s.shortages c.put.new.shelf) (is_shortage (Err c.in-Err.fault))) c.self.view_is
    (put_fails c.in-Err.fault old c.put.new.session c.put.new.self content _ _ _ _ (ap (λ (x : Client). x.rest) c.self.view_is ∙ c.requires.none) named cause)
