use Rattle.course_laws.proofs.Deeds.{steps-are_few, begins-with_few}
use Rattle.course_laws.proofs.steps_are_few.Goals as goal

pub returns : goal.returns
returns c = record { few = steps-are_few; begins = begins-with_few }
