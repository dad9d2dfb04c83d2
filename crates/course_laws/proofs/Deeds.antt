-- How many steps a push takes, over all that happens to its client.
use Rattle.std.proofs.Common.{◌+◌, ◌≤◌, [], ◌∷◌, arith}
use Rattle.push_model.specs.Client.{Client}
use Rattle.push_model.specs.Laws.{Deed, Hears, Asks, Finishes, Cancels, done}
use Rattle.course_laws.specs.Left.{steps_left, steps_by, renewed_by, MayDo, StepsAreFew, BeginsWithFew}
use Rattle.course_laws.proofs.Ending.{cancels-less}
use Rattle.course_laws.proofs.Hearing.{hears-less}
use Rattle.course_laws.proofs.Stepping.{steps-less}

one_deed : (deed : Deed) (client : Client) → MayDo deed client → steps_by deed client + steps_left (done deed client) ≤ steps_left client + renewed_by deed client
one_deed (Hears news) client may = let le = hears-less news client may in omega (arith, le)
one_deed (Asks parts) client may = let le = steps-less client parts may.0 may.1 in omega (arith, le)
one_deed Finishes client may = omega arith
one_deed Cancels client may = let le = cancels-less client in omega (arith, le)

pub steps-are_few : StepsAreFew
steps-are_few [] client may = omega arith
steps-are_few (deed ∷ deeds) client (now, may) =
    let here = one_deed deed client now in
    let rest = steps-are_few deeds (done deed client) may in
    omega (arith, here, rest)

pub begins-with_few : BeginsWithFew
begins-with_few name size client = omega arith
