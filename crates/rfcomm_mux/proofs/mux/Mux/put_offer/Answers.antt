use Rattle.std.proofs.Common.{take, ap, ◌∙◌}
use Rattle.rfcomm_model.specs.Machine.{Mux}
use Rattle.rfcomm_mux.proofs.Sending.{offer_is}
use Rattle.rfcomm_mux.proofs.mux.Mux.put_offer.Goals as goal

pub returns-clause-sent : goal.returns-clause-sent
returns-clause-sent c =
    offer_is c.put_message.result (take c.put_message.result c.put_message.new.into) c.args.self.now c.role.result c.self.inside.dlci c.self.inside.own c.own_credits.result
    (c.role.ensures ∙ ap (λ (m : Mux). m.role) c.self.view_is) (ap (λ (m : Mux). m.dlci) c.self.view_is) (ap (λ (m : Mux). m.own) c.self.view_is) c.own_credits.ensures
    c.put_message.ensures.sent
