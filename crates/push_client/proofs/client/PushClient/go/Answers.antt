use Rattle.std.proofs.Common.{sym, ap, ◌∙◌}
use Rattle.push_model.specs.Steps.{steps_at}
use Rattle.push_model.specs.declared.course.Stage.{Stage}
use Rattle.push_client.proofs.client.PushClient.go.Goals as goal

pub returns-in-Search-clause-steps : goal.returns-in-Search-clause-steps
returns-in-Search-clause-steps c = λ parts. ap (λ (stage : Stage). steps_at stage c.args.self.now parts) (sym c.stage.ensures ∙ c.in-Search.is) ∙ c.search.ensures.steps parts
