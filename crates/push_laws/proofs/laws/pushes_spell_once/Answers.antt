use Rattle.push_laws.proofs.SpeltDirect.{pushes-spell_once}
use Rattle.push_laws.proofs.Pushed.{pushed-spell_once}
use Rattle.push_laws.proofs.laws.pushes_spell_once.Goals as goal

pub returns-clause-direct : goal.returns-clause-direct
returns-clause-direct c = pushes-spell_once

pub returns-clause-carried : goal.returns-clause-carried
returns-clause-carried c = pushed-spell_once
