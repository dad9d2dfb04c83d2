use Rattle.std.proofs.Common.{◌∙◌}
use Rattle.bt_host.proofs.Played.{same_refusal}
use Rattle.bt_host.proofs.shell.Shell.hear.Goals as goal

pub returns-clause-refusal : goal.returns-clause-refusal
returns-clause-refusal g c = c.err-self-inside.ensures.value ∙ same_refusal c.feed_stack-fed.result
