use Rattle.acl_fragments.proofs.Given.{answered_is_given, given_is_answered}
use Rattle.acl_fragments.proofs.laws.answers_of_groups.Goals as goal

pub returns : goal.returns
returns c = record { given = answered_is_given; answered = given_is_answered }
