use Rattle.std.proofs.Common.{refl}
use Rattle.push_script.proofs.Making.{plain_name}
use Rattle.push_script.proofs.made.made_names.Goals as goal

pub push-requires-clause-name : goal.push-requires-clause-name
push-requires-clause-name c = plain_name _ refl

pub push-requires-2-clause-name : goal.push-requires-2-clause-name
push-requires-2-clause-name c = plain_name _ refl

pub push-requires-3-clause-name : goal.push-requires-3-clause-name
push-requires-3-clause-name c = plain_name _ refl

pub push-requires-4-clause-name : goal.push-requires-4-clause-name
push-requires-4-clause-name c = plain_name _ refl

pub push-requires-5-clause-name : goal.push-requires-5-clause-name
push-requires-5-clause-name c = plain_name _ refl

pub push-requires-6-clause-name : goal.push-requires-6-clause-name
push-requires-6-clause-name c = plain_name _ refl

pub push-requires-7-clause-name : goal.push-requires-7-clause-name
push-requires-7-clause-name c = plain_name _ refl

pub push-requires-8-clause-name : goal.push-requires-8-clause-name
push-requires-8-clause-name c = plain_name _ refl
