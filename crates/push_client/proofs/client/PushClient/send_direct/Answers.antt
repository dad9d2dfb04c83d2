use Rattle.std.proofs.Common.{Bool, true, false, Result, Ok, is_err, sym, ap, ◌∙◌, subst}
use Rattle.bt_base.specs.declared.no_memory.NoMemory.{NoMemory}
use Rattle.push_model.specs.Client.{Client}
use Rattle.push_model.specs.Steps.{requests}
use Rattle.push_client.specs.Pushing.{client_of, gone}
use Rattle.push_client.specs.Putting.{Comes}
use Rattle.push_client.specs.Requesting.{ask_of, asked, sent_direct}
use Rattle.push_client.specs.declared.step.Step.TheVariants.{SendSdu}
use Rattle.push_client.proofs.SteppingLaws.{direct_sent}
use Rattle.push_client.proofs.client.PushClient.send_direct.Goals as goal

pub returns-clause-comes : goal.returns-clause-comes
returns-clause-comes g c =
    let s = g.F.Shelf in
    let old = c.args.self.now in
    let mid : Client = client_of c.self.inside in
    let ask = ask_of c.args.ask in
    let content = s.content c.args.shelf.now in
    let stays = c.request.ensures.stays in
    let answered = subst (λ (r : Result (Unit {0}) NoMemory). Comes (requests ask old) (asked c.request.new.self r) old content (s.faults c.args.shelf.now) (s.faults c.request.new.shelf) (s.shortages c.args.shelf.now) (s.shortages c.request.new.shelf) (is_err r))
    c.in-Ok.is c.request.ensures.comes in
    let seen = subst (λ (m : Client). Comes (requests ask old) (asked m (Ok tt)) old content (s.faults c.args.shelf.now) (s.faults c.request.new.shelf) (s.shortages c.args.shelf.now) (s.shortages c.request.new.shelf) false) (sym c.self.view_is) answered in
    subst (λ (b : Bool). Comes (sent_direct ask old) (gone (record mid { given = true }) (SendSdu mid.psm)) old content (s.faults c.args.shelf.now) (s.faults c.request.new.shelf) (s.shortages c.args.shelf.now) (s.shortages c.request.new.shelf) b)
    (sym (ap (λ (m : Client). m.failed) c.self.view_is ∙ stays.failed ∙ c.requires.works))
    (direct_sent ask old mid content _ _ _ _ false (ap (λ (m : Client). m.transport) c.self.view_is ∙ stays.transport ∙ c.requires.transport) seen)
