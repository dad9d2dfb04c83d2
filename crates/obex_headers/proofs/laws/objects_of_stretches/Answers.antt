use Rattle.obex_headers.specs.Runs.{heard}
use Rattle.obex_headers.proofs.RunLaws.{packets_fall, stretches_spell}
use Rattle.obex_headers.proofs.laws.objects_of_stretches.Goals as goal

pub returns : goal.returns
returns c = λ packets objects. (packets_fall (heard packets) objects, stretches_spell (heard packets) objects)
