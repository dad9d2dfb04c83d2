use Rattle.std.proofs.Common.{refl}
use Rattle.push_script.specs.Scenarios.{scenario_text}
use Rattle.making.proofs.MadeTexts.{made_again}
use Rattle.making.proofs.laws.made_texts_are_read_again.Goals as goal

pub returns : goal.returns
returns c = λ number scenario made. made_again number scenario (scenario_text scenario) made refl
