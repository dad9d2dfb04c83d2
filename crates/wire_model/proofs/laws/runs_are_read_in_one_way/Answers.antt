use Rattle.std.proofs.Common.{sym, ap, ◌∙◌, arith}
use Rattle.wire_model.specs.Trace.{carried}
use Rattle.wire_model.specs.Pair.{new_pair, crossings_of}
use Rattle.wire_model.proofs.Carrying.{stands_from}
use Rattle.wire_model.proofs.Fitting.{numbers_fit}
use Rattle.wire_model.proofs.Reading.{traces_read}
use Rattle.wire_model.proofs.laws.runs_are_read_in_one_way.Goals as goal

pub returns : goal.returns
returns c number number' events events' last last' cut other r r' is is' e =
    let fit = numbers_fit (new_pair number) last events (omega arith, omega arith) r in
    let fit' = numbers_fit (new_pair number') last' events' (omega arith, omega arith) r' in
    let same = traces_read (crossings_of events) (crossings_of events') cut other fit fit' is is' e in
    (same.0, sym (stands_from number events last r).picks ∙ ap carried same.0 ∙ (stands_from number' events' last' r').picks, same.1)
