use Rattle.std.proofs.Common.{◌∙◌}
use Rattle.push_client.proofs.DialogLaws.{maximum_kept}
use Rattle.push_client.proofs.dialog.Dialog.hear_response.Goals as goal

pub returns-clause-maximum : goal.returns-clause-maximum
returns-clause-maximum c =
    c.take.ensures.maximum
    ∙ maximum_kept c.args.self.now.session c.on_response-answer.new.self c.args.packet.now c.if-not-is_awaiting.ensures c.on_response-answer.ensures.session
