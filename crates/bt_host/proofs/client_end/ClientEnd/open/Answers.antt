use Rattle.std.proofs.Common.{sym, subst}
use Rattle.std.specs.List.{AllByRecursion}
use Rattle.shelf_model.specs.host_model.specs.Clients.{ClientProfile}
use Rattle.bt_host.specs.Pushing.{HasCid}
use Rattle.bt_host.specs.declared.client_end.ClientEnd.TheInside.{Inside}
use Rattle.bt_host.proofs.ClientsCalls.{put_cid}
use Rattle.bt_host.proofs.client_end.ClientEnd.open.Goals.{in-Some, in_default}
use Rattle.bt_host.proofs.client_end.ClientEnd.open.Goals as goal

pub returns-clause-endpoints : goal.returns-clause-endpoints
returns-clause-endpoints c =
    let before : AllByRecursion HasCid c.self.inside.endpoints = subst (λ (e : ClientProfile). AllByRecursion HasCid e.endpoints) (sym c.self.view_is) c.requires.endpoints in
    elim c.match-connect.branch [
      | in-Some w ↦ subst (λ (i : Inside). AllByRecursion HasCid i.endpoints) (sym w.self-inside-is)
          (subst (AllByRecursion HasCid) (sym w.put.ensures) (put_cid w.get.result w.get-in-Some.result c.self.inside.endpoints w.get-in-Some.ensures.range before))
      | in_default w ↦ subst (λ (i : Inside). AllByRecursion HasCid i.endpoints) (sym w.self-inside-is) before
    ]
