use Rattle.std.proofs.Common.{take, sym, subst}
use Rattle.rfcomm_model.specs.declared.state.Command.{Command}
use Rattle.rfcomm_model.specs.Saying.{frame_of_command}
use Rattle.rfcomm_mux.specs.Sent.{IsWritten}
use Rattle.rfcomm_mux.proofs.mux.Mux.put_command.Goals as goal

pub returns-in-Agree-clause-sent : goal.returns-in-Agree-clause-sent
returns-in-Agree-clause-sent c =
    subst (λ (command : Command). IsWritten c.put_offer.result (take c.put_offer.result c.put_offer.new.into) (frame_of_command command c.args.self.now)) (sym c.in-Agree.is) c.put_offer.ensures.sent
